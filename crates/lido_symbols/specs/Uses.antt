-- The symbols, attributes and remote lists that a text names, with their places.
use Rattle.std.specs.Prelude.{ℕ, ℤ, Bool, true, false, not, nat_eq, List, [], ◌∷◌, ◌++◌, map, flat_map, filter, filter_map, Option, Some, None, is_some}
use Rattle.std.specs.List.{list_all}
use Rattle.lido_base.specs.Environment.{Environment}
use Rattle.lido_syntax.specs.declared.spec.Spec.{Spec}
use Rattle.lido_syntax.specs.declared.spec.Name.{Name}
use Rattle.lido_syntax.specs.declared.spec.Decl.{Decl}
use Rattle.lido_syntax.specs.declared.spec.Pair.{Pair}
use Rattle.lido_syntax.specs.declared.spec.Cons.{Cons}
use Rattle.lido_syntax.specs.declared.spec.Comp.{Comp}
use Rattle.lido_syntax.specs.declared.spec.RuleItem.{RuleItem}
use Rattle.lido_syntax.specs.declared.spec.SymbolItem.{SymbolItem}
use Rattle.lido_syntax.specs.declared.spec.Element.{Element}
use Rattle.lido_syntax.specs.declared.spec.Element.TheVariants.{Symbol, Literal}
use Rattle.lido_syntax.specs.declared.spec.Target.{Target}
use Rattle.lido_syntax.specs.declared.spec.Target.TheVariants as target
use Rattle.lido_syntax.specs.declared.spec.Place.TheVariants as place
use Rattle.lido_syntax.specs.declared.spec.With.{With}
use Rattle.lido_syntax.specs.declared.spec.Expr.{Expr, Terminal, Read, Including, Constituents, Call'}
use Rattle.lido_syntax.specs.Production.{name_of, left_of}
use Rattle.lido_syntax.specs.Parts.{parts_of, leaves_of}
use Rattle.lido_syntax.specs.Computation.{by_rule}
use Rattle.lido_syntax.specs.Coordinates.{part_named, coordinate_named}
use Rattle.lido_syntax.specs.Functions.{text_of}
use Rattle.lido_syntax.specs.Sets.{Sets}
use Rattle.lido_syntax.specs.Including.{listed}

-- all computations of the text
abbrev pub computations : Spec → List Comp
computations spec = flat_map (λ (r : RuleItem). r.body) spec.rules ++ flat_map (λ (item : SymbolItem). item.body) spec.symbols

-- all that its computations are made of beneath calls
abbrev pub all_leaves : Spec → List Expr
all_leaves spec = flat_map leaves_of (computations spec)

-- the INCLUDINGs of the text, each with its place
abbrev pub including_of : Expr → Option (ℕ × List Pair)
including_of (Including at pairs) = Some (at, pairs)
including_of _ = None

abbrev pub all_includings : Spec → List (ℕ × List Pair)
all_includings spec = filter_map including_of (all_leaves spec)

-- the CONSTITUENTS of the text, each with its number
abbrev pub constituents_of : Expr → Option (ℕ × Cons)
constituents_of (Constituents k) = Some (k.number, k)
constituents_of _ = None

abbrev pub all_constituents : Spec → List (ℕ × Cons)
all_constituents spec = filter_map constituents_of (all_leaves spec)

-- A bare name is a coordinate, and so names no symbol: in a rule's computation where no symbol of the production has the name,
-- in a symbol's always.
abbrev pub is_coordinate_of_rule : Environment → RuleItem → Name → Option ℤ → Bool
is_coordinate_of_rule env r x i = is_some (coordinate_named env by_rule r x i)

abbrev pub is_coordinate_of_symbol : Environment → Name → Option ℤ → Bool
is_coordinate_of_symbol env x None = is_some (part_named (text_of env (name_of x)))
is_coordinate_of_symbol env x (Some i) = false

-- the names that stand as symbols in a leaf, where this test tells coordinates
abbrev pub symbols_in : (Name → Option ℤ → Bool) → Expr → List Name
symbols_in is_coordinate (Terminal x i) = filter (λ x. not (is_coordinate x i)) (x ∷ [])
symbols_in is_coordinate (Read at (place.Named x i) a) = x ∷ []
symbols_in is_coordinate (Including at pairs) = map (λ (p : Pair). p.sym) pairs
symbols_in is_coordinate (Constituents k) = map (λ (p : Pair). p.sym) k.pairs ++ k.shield
symbols_in is_coordinate _ = []

abbrev pub symbols_of_target : Target → List Name
symbols_of_target (target.Attr (place.Named x i) a) = x ∷ []
symbols_of_target _ = []

-- those in a computation
abbrev pub symbols_of_computation : (Name → Option ℤ → Bool) → Comp → List Name
symbols_of_computation is_coordinate c = symbols_of_target c.target ++ flat_map (symbols_in is_coordinate) (leaves_of c)

abbrev pub element_name : Element → Option Name
element_name (Symbol x) = Some x
element_name (Literal s) = None

-- the names of a production, the left side first
abbrev pub production_names : RuleItem → List Name
production_names r = r.left ∷ filter_map element_name r.right

abbrev pub with_place : Name → ℕ × ℕ
with_place x = (x.at, name_of x)

module _ (spec : Spec) (env : Environment) where
  abbrev pub symbols_of_rule : RuleItem → List Name
  symbols_of_rule r = production_names r ++ flat_map (symbols_of_computation (is_coordinate_of_rule env r)) r.body

  abbrev pub symbols_of_item : SymbolItem → List Name
  symbols_of_item item = item.names ++ item.inherits ++ flat_map (symbols_of_computation (is_coordinate_of_symbol env)) item.body

  -- the names that stand as symbols in the text, with their places
  abbrev pub symbol_uses : List (ℕ × ℕ)
  symbol_uses = map with_place (flat_map symbols_of_rule spec.rules ++ flat_map symbols_of_item spec.symbols ++ map (λ x. x.name) spec.terms)

-- the names that stand as attributes or chains in a leaf
abbrev pub attributes_in : Expr → List Name
attributes_in (Read at p a) = a ∷ []
attributes_in (Including at pairs) = map (λ (p : Pair). p.attr) pairs
attributes_in (Constituents k) = map (λ (p : Pair). p.attr) k.pairs
attributes_in _ = []

abbrev pub attributes_of_target : Target → List Name
attributes_of_target (target.Attr p a) = a ∷ []
attributes_of_target _ = []

-- what ATTR and SYMBOL items declare
abbrev pub declarations : Spec → List Decl
declarations spec = spec.attrs ++ flat_map (λ (item : SymbolItem). item.decls) spec.symbols

-- the names of the attributes that are declared
abbrev pub declared_names : Spec → List Name
declared_names spec = map (λ (d : Decl). d.attr) (declarations spec)

-- the names that stand as attributes in the text, with their places
abbrev pub attribute_uses : Spec → List (ℕ × ℕ)
attribute_uses spec = map with_place (declared_names spec ++ flat_map (λ (c : Comp). attributes_of_target c.target ++ flat_map attributes_in (leaves_of c)) (computations spec))

-- two lists of pairs are one set: they give each nonterminal the same attribute
abbrev pub is_same_option : Option ℕ → Option ℕ → Bool
is_same_option None None = true
is_same_option (Some a) (Some b) = nat_eq a b
is_same_option _ _ = false

abbrev pub is_same_set : (spec : Spec) → Sets spec → List Pair → List Pair → Bool
is_same_set spec sets p q = list_all (λ (r : RuleItem). is_same_option (listed spec sets p (left_of r)) (listed spec sets q (left_of r))) spec.rules

-- two CONSTITUENTS are one: they have one number
abbrev pub is_same_constituents : Cons → Cons → Bool
is_same_constituents k l = nat_eq k.number l.number

-- the functions that a part of an expression calls by itself
abbrev pub functions_of_with : Option With → List Name
functions_of_with None = []
functions_of_with (Some with) = with.comb ∷ with.single ∷ with.null ∷ []

abbrev pub functions_of_part : Expr → List Name
functions_of_part (Call' f shape args) = f ∷ []
functions_of_part (Constituents k) = functions_of_with k.with
functions_of_part _ = []

-- the names of the text that are functions
abbrev pub all_functions : Spec → List Name
all_functions spec = flat_map (λ (c : Comp). flat_map functions_of_part (parts_of c)) (computations spec)
