-- KindClash: a symbol, an attribute or a chain that is used as what it is not, or is declared as two things. Its place is that of
-- the name or word at fault.
use Rattle.std.specs.Prelude.{◌≡◌, ℤ, ℕ, ◌<◌, ◌≤◌, ◌⊎◌, IsTrue, true, List, [], ◌++◌, map, Option, Some, Contains}
use Rattle.lido_base.specs.declared.kinds.Kind.{Kind}
use Rattle.lido_base.specs.declared.kinds.Kind.TheVariants.{Synthesized, Inherited}
use Rattle.lido_base.specs.declared.value.ValueType.{ValueType}
use Rattle.lido_base.specs.Environment.{Environment}
use Rattle.lido_syntax.specs.declared.spec.Spec.{Spec}
use Rattle.lido_syntax.specs.declared.spec.Name.{Name}
use Rattle.lido_syntax.specs.declared.spec.Decl.{Decl}
use Rattle.lido_syntax.specs.declared.spec.Pair.{Pair}
use Rattle.lido_syntax.specs.declared.spec.Cons.{Cons}
use Rattle.lido_syntax.specs.declared.spec.Comp.{Comp}
use Rattle.lido_syntax.specs.declared.spec.Typed1.{Typed1}
use Rattle.lido_syntax.specs.declared.spec.RuleItem.{RuleItem}
use Rattle.lido_syntax.specs.declared.spec.SymbolItem.{SymbolItem}
use Rattle.lido_syntax.specs.declared.spec.Element.TheVariants.{Symbol}
use Rattle.lido_syntax.specs.declared.spec.Target.TheVariants as target
use Rattle.lido_syntax.specs.declared.spec.Place.{Place}
use Rattle.lido_syntax.specs.declared.spec.Place.TheVariants as place
use Rattle.lido_syntax.specs.declared.spec.Expr.{Expr, Terminal, Read, Including, Constituents}
use Rattle.lido_syntax.specs.Production.{name_of}
use Rattle.lido_syntax.specs.Parts.{leaves_of}
use Rattle.lido_syntax.specs.Symbols.{IsNonterminal, IsTerminal, IsChain}
use Rattle.lido_syntax.specs.Attributes.{uses, possible, IsOnSide, IsOwn, InBody, InText, IsDeclared, OfClass, Has}
use Rattle.lido_symbols.specs.Classes.{IsClass}
use Rattle.lido_symbols.specs.Uses.{is_coordinate_of_rule, production_names, declared_names}

-- the names of a remote list, of its pairs and behind its SHIELD
abbrev pub remote_names : Expr → List Name
remote_names (Including at pairs) = map (λ (p : Pair). p.sym) pairs
remote_names (Constituents k) = map (λ (p : Pair). p.sym) k.pairs ++ k.shield
remote_names _ = []

abbrev pub pairs_of : Expr → List Pair
pairs_of (Including at pairs) = pairs
pairs_of (Constituents k) = k.pairs
pairs_of _ = []

module _ (spec : Spec) where
  -- a terminal, and no class
  abbrev pub IsPlainTerminal : ℕ → Type 0
  IsPlainTerminal s = ((ty : ValueType) × IsTerminal spec s ty) × ¬ IsClass spec s

  -- a leaf of some computation of the text
  abbrev pub IsLeaf : Expr → Type 0
  IsLeaf e = (c : Comp) × InText spec c × Contains (leaves_of c) e

  -- what an item of the terminal brings: a declaration, an attribute in its body, a class that has an attribute
  pub data Brings (item : SymbolItem) : Type 0 where
    declaration : (d : Decl) → Contains item.decls d → Brings item
    in_body : (c : Comp) (p : Place) (a : Name) → Contains item.body c → Contains (uses c) (p, a) → IsOwn p → ¬ IsChain spec (name_of a) → Brings item
    by_class : (x : Name) (a : ℕ) → Contains item.inherits x → Has spec (name_of x) a → Brings item

  pub data IsOfTerminal (at : ℕ) : Type 0 where
    by_item : (item : SymbolItem) (x : Name) → Contains spec.symbols item → Contains item.names x → IsPlainTerminal (name_of x) → Brings item → at ≡ x.at → IsOfTerminal at
    by_place : (c : Comp) (x : Name) (i : Option ℤ) (a : Name) → InText spec c → Contains (uses c) (place.Named x i, a) → ¬ IsChain spec (name_of a) → IsPlainTerminal (name_of x) → at ≡ x.at → IsOfTerminal at
    by_remote_list : (e : Expr) (x : Name) → IsLeaf e → Contains (remote_names e) x → IsPlainTerminal (name_of x) → at ≡ x.at → IsOfTerminal at

  -- that attribute a of symbol s has this kind is said at this place
  pub data SaysKind (s a : ℕ) (kind : Kind) (at : ℕ) : Type 0 where
    declared : OfClass spec (λ x. (d : Decl) × IsDeclared spec x a d × (d.kind ≡ Some kind) × (at ≡ d.attr.at)) s → SaysKind s a kind at
    by_attr : (d : Decl) → Contains spec.attrs d → name_of d.attr ≡ a → d.kind ≡ Some kind → at ≡ d.attr.at → SaysKind s a kind at
    by_target : OfClass spec (λ x. (r : RuleItem) × (c : Comp) × (y : Name) × (i : Option ℤ) × (b : Name) × Contains spec.rules r × Contains r.body c × (c.target ≡ target.Attr (place.Named y i) b)
        × IsOnSide kind (possible r y i) × (name_of y ≡ x) × (name_of b ≡ a) × ¬ IsChain spec a × (at ≡ b.at)) s → SaysKind s a kind at
    by_synt : kind ≡ Synthesized → OfClass spec (λ x. (c : Comp) × (b : Name) × InBody spec x c × Contains (uses c) (place.Synt, b) × (name_of b ≡ a) × ¬ IsChain spec a × (at ≡ b.at)) s → SaysKind s a kind at
    by_inh : kind ≡ Inherited → OfClass spec (λ x. (c : Comp) × (b : Name) × InBody spec x c × Contains (uses c) (place.Inh, b) × (name_of b ≡ a) × ¬ IsChain spec a × (at ≡ b.at)) s → SaysKind s a kind at

  -- two kinds of an attribute, two types by ATTR, or two types by SYMBOL items, at the later place; one place that says two kinds is that place
  pub data IsTwofold (at : ℕ) : Type 0 where
    kinds : (s a first : ℕ) (k l : Kind) → SaysKind s a k first → SaysKind s a l at → (k ≡ l → ⊥) → first ≤ at → IsTwofold at
    types_by_attr : (d e : Decl) → Contains spec.attrs d → Contains spec.attrs e → name_of d.attr ≡ name_of e.attr → (d.ty ≡ e.ty → ⊥) → d.attr.at < e.attr.at → at ≡ e.attr.at → IsTwofold at
    types_by_symbol : (s a : ℕ) (d e : Decl) → OfClass spec (λ x. IsDeclared spec x a d) s → OfClass spec (λ x. IsDeclared spec x a e) s → (d.ty ≡ e.ty → ⊥) → d.attr.at < e.attr.at → at ≡ e.attr.at → IsTwofold at

  abbrev pub chain_names : List Name
  chain_names = map (λ (d : Typed1). d.name) spec.chains

  -- a chain's declaration and another one of its name, at the later place
  pub data IsChainAgain (at : ℕ) : Type 0 where
    behind_a_chain : (x y : Name) → Contains chain_names x → Contains (chain_names ++ declared_names spec) y → name_of x ≡ name_of y → x.at < y.at → at ≡ y.at → IsChainAgain at
    behind_an_attribute : (x y : Name) → Contains (declared_names spec) x → Contains chain_names y → name_of x ≡ name_of y → x.at < y.at → at ≡ y.at → IsChainAgain at

  -- a chain named by SYNT or INH, or at an occurrence on a right side
  pub data IsChainElsewhere (at : ℕ) : Type 0 where
    synt : (c : Comp) (a : Name) → InText spec c → Contains (uses c) (place.Synt, a) → IsChain spec (name_of a) → at ≡ a.at → IsChainElsewhere at
    inh : (c : Comp) (a : Name) → InText spec c → Contains (uses c) (place.Inh, a) → IsChain spec (name_of a) → at ≡ a.at → IsChainElsewhere at
    on_right_side : (r : RuleItem) (c : Comp) (x : Name) (i : Option ℤ) (a : Name) → Contains spec.rules r → Contains r.body c → Contains (uses c) (place.Named x i, a)
        → IsOnSide Inherited (possible r x i) → IsChain spec (name_of a) → at ≡ a.at → IsChainElsewhere at

  -- a leaf that an INH computation of a symbol may not have
  pub data IsBelow (at : ℕ) : Expr → Type 0 where
    constituents : (k : Cons) → at ≡ k.at → IsBelow at (Constituents k)
    tail : (a : Name) → IsBelow at (Read at place.Tail a)

  -- one for each entry of the list of clashes
  pub data IsKindClash (env : Environment) (at : ℕ) : Type 0 where
    class_in_production : (r : RuleItem) (x : Name) → Contains spec.rules r → Contains (production_names r) x → IsClass spec (name_of x) → at ≡ x.at → IsKindClash env at
    faulty_term : (d : Typed1) → Contains spec.terms d → at ≡ d.name.at
        → IsClass spec (name_of d.name) ⊎ IsNonterminal spec (name_of d.name) ⊎ ((e : Typed1) × Contains spec.terms e × (name_of e.name ≡ name_of d.name) × (e.ty ≡ d.ty → ⊥) × (e.name.at < at)) → IsKindClash env at
    terminal_in_list : (r : RuleItem) (x : Name) (ty : ValueType) → Contains spec.rules r → r.list ≡ true → Contains r.right (Symbol x) → IsTerminal spec (name_of x) ty → at ≡ x.at → IsKindClash env at
    inherits_no_class : (item : SymbolItem) (x : Name) → Contains spec.symbols item → Contains item.inherits x → ¬ IsClass spec (name_of x) → at ≡ x.at → IsKindClash env at
    attribute_of_terminal : IsOfTerminal at → IsKindClash env at
    twofold_attribute : IsTwofold at → IsKindClash env at
    chain_declared_again : IsChainAgain at → IsKindClash env at
    chain_in_pair : (e : Expr) (p : Pair) → IsLeaf e → Contains (pairs_of e) p → IsChain spec (name_of p.attr) → at ≡ p.attr.at → IsKindClash env at
    chain_elsewhere : IsChainElsewhere at → IsKindClash env at
    no_chain : (c : Comp) (a : Name) → InText spec c → (c.target ≡ target.Start a) ⊎ Contains (uses c) (place.Tail, a) → ¬ IsChain spec (name_of a) → at ≡ a.at → IsKindClash env at
    target_by_this : (c : Comp) (a : Name) → InText spec c → c.target ≡ target.Attr place.This a → ¬ IsChain spec (name_of a) → at ≡ c.at → IsKindClash env at
    below_in_inh : (s : ℕ) (c : Comp) (a : Name) (e : Expr) → InBody spec s c → c.target ≡ target.Attr place.Inh a → Contains (leaves_of c) e → IsBelow at e → IsKindClash env at
    tail_in_start : (c : Comp) (a b : Name) → InText spec c → c.target ≡ target.Start a → Contains (leaves_of c) (Read at place.Tail b) → IsKindClash env at
    bare_nonterminal : (r : RuleItem) (c : Comp) (x : Name) (i : Option ℤ) → Contains spec.rules r → Contains r.body c → Contains (leaves_of c) (Terminal x i) → ¬ IsTrue (is_coordinate_of_rule env r x i)
        → IsNonterminal spec (name_of x) → at ≡ x.at → IsKindClash env at
