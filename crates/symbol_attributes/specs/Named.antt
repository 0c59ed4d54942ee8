-- The attributes that a specification names, with the symbols on which it names them, in the order of the text.
use Rattle.std.specs.Prelude.{◌↔◌, ℕ, if◌then◌else◌, List, [], ◌∷◌, ◌++◌, map, flat_map, Contains, None}
use Rattle.lido_syntax.specs.declared.spec.Spec.{Spec}
use Rattle.lido_syntax.specs.declared.spec.Name.{Name}
use Rattle.lido_syntax.specs.declared.spec.Decl.{Decl}
use Rattle.lido_syntax.specs.declared.spec.Pair.{Pair}
use Rattle.lido_syntax.specs.declared.spec.Comp.{Comp}
use Rattle.lido_syntax.specs.declared.spec.RuleItem.{RuleItem}
use Rattle.lido_syntax.specs.declared.spec.SymbolItem.{SymbolItem}
use Rattle.lido_syntax.specs.declared.spec.Target.{Target}
use Rattle.lido_syntax.specs.declared.spec.Target.TheVariants as target
use Rattle.lido_syntax.specs.declared.spec.Place.{Place}
use Rattle.lido_syntax.specs.declared.spec.Place.TheVariants as place
use Rattle.lido_syntax.specs.declared.spec.Expr.{Expr, Read, Including, Constituents}
use Rattle.lido_syntax.specs.Production.{name_of}
use Rattle.lido_syntax.specs.Parts.{leaves_of}
use Rattle.lido_syntax.specs.Attributes.{IsNamed}
use Rattle.kind_clashes.specs.declared.names.Names.{Names}
use Rattle.kind_clashes.specs.Names.{has}
use Rattle.symbol_attributes.specs.declared.named.SymbolAttribute.{SymbolAttribute}

-- the attribute on the symbol
abbrev pub on_symbol : Name → Name → SymbolAttribute
on_symbol a x = record { symbol = x.id; attribute = a.id }

-- of a body of these symbols: the symbols that the place means
abbrev pub meant : List Name → Place → List Name
meant own (place.Named x i) = x ∷ []
meant own place.Synt = own
meant own place.Inh = own
meant own place.This = own
meant own place.Tail = []

module _ (chains : Names) (own : List Name) where
  -- a chain is no attribute
  abbrev pub named_at : Place → Name → List SymbolAttribute
  named_at p a = if has chains (name_of a) then [] else map (on_symbol a) (meant own p)

  abbrev pub named_by_pair : Pair → List SymbolAttribute
  named_by_pair q = named_at (place.Named q.sym None) q.attr

  abbrev pub named_by_leaf : Expr → List SymbolAttribute
  named_by_leaf (Read at p a) = named_at p a
  named_by_leaf (Including at pairs) = flat_map named_by_pair pairs
  named_by_leaf (Constituents k) = flat_map named_by_pair k.pairs
  named_by_leaf _ = []

  abbrev pub named_by_target : Target → List SymbolAttribute
  named_by_target (target.Attr p a) = named_at p a
  named_by_target _ = []

  abbrev pub named_by : Comp → List SymbolAttribute
  named_by c = named_by_target c.target ++ flat_map named_by_leaf (leaves_of c)

-- what a SYMBOL item declares, on each of its symbols
abbrev pub declared_by : List Name → List Decl → List SymbolAttribute
declared_by own decls = flat_map (λ (d : Decl). map (on_symbol d.attr) own) decls

abbrev pub named_by_rules : Names → List RuleItem → List SymbolAttribute
named_by_rules chains rules = flat_map (λ (r : RuleItem). flat_map (named_by chains []) r.body) rules

abbrev pub named_by_item : Names → SymbolItem → List SymbolAttribute
named_by_item chains item = declared_by item.names item.decls ++ flat_map (named_by chains item.names) item.body

abbrev pub all_named : Names → Spec → List SymbolAttribute
all_named chains spec = named_by_rules chains spec.rules ++ flat_map (named_by_item chains) spec.symbols

-- the list has the attributes that the specification names, each on its symbol, and no others
abbrev pub AreNamed : Spec → List SymbolAttribute → Type 0
AreNamed spec list = (s a : ℕ) → Contains list (record { symbol = record { 0 = s }; attribute = record { 0 = a } }) ↔ IsNamed spec s a
