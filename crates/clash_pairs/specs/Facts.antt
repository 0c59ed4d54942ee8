-- Which kinds and types the text says of attributes on symbols, the symbols by their numbers, in the order of the text.
use Rattle.std.specs.Prelude.{ℕ, if◌then◌else◌, List, [], ◌∷◌, ◌++◌, map, flat_map, Option, Some, None}
use Rattle.lido_base.specs.declared.kinds.Kind.{Kind}
use Rattle.lido_syntax.specs.declared.spec.Spec.{Spec}
use Rattle.lido_syntax.specs.declared.spec.Name.{Name}
use Rattle.lido_syntax.specs.declared.spec.Decl.{Decl}
use Rattle.lido_syntax.specs.declared.spec.Comp.{Comp}
use Rattle.lido_syntax.specs.declared.spec.RuleItem.{RuleItem}
use Rattle.lido_syntax.specs.declared.spec.SymbolItem.{SymbolItem}
use Rattle.lido_syntax.specs.declared.spec.Target.{Target}
use Rattle.lido_syntax.specs.declared.spec.Target.TheVariants as target
use Rattle.lido_syntax.specs.declared.spec.Place.{Place}
use Rattle.lido_syntax.specs.declared.spec.Place.TheVariants as place
use Rattle.lido_syntax.specs.declared.spec.Expr.{Expr, Read}
use Rattle.lido_syntax.specs.Attributes.{possible}
use Rattle.lido_syntax.specs.Parts.{leaves_of}
use Rattle.lido_syntax.specs.Production.{name_of}
use Rattle.kind_clashes.specs.declared.names.Names.{Names}
use Rattle.kind_clashes.specs.Names.{has}
use Rattle.symbol_attributes.specs.Inheritance.{number}
use Rattle.symbol_attributes.specs.Said.{side_of, kind_at}
use Rattle.clash_pairs.specs.declared.items.KindFact.{KindFact}
use Rattle.clash_pairs.specs.declared.items.TypeFact.{TypeFact}

module _ (names : List ℕ) where
  -- the attribute has the kind on the symbol
  abbrev pub kind_on : Name → Kind → Name → KindFact
  kind_on a kind x = record { symbol = number names (name_of x); said = record { attr = a; kind = kind } }

  abbrev pub kind_if_any : Name → Option Kind → List Name → List KindFact
  kind_if_any a None own = []
  kind_if_any a (Some kind) own = map (kind_on a kind) own

  -- declarations in an item about these symbols
  abbrev pub declared_kinds : List Name → List Decl → List KindFact
  declared_kinds own decls = flat_map (λ (d : Decl). kind_if_any d.attr d.kind own) decls

  abbrev pub type_on : Decl → Name → TypeFact
  type_on d x = record { symbol = number names (name_of x); typed = record { name = d.attr; ty = d.ty } }

  abbrev pub declared_types : List Name → List Decl → List TypeFact
  declared_types own decls = flat_map (λ (d : Decl). map (type_on d) own) decls

  abbrev pub types_of_items : List SymbolItem → List TypeFact
  types_of_items items = flat_map (λ (item : SymbolItem). declared_types item.names item.decls) items

  module _ (chains : Names) where
    abbrev pub kind_unless_chain : Name → Option Kind → List Name → List KindFact
    kind_unless_chain a kind own = if has chains (name_of a) then [] else kind_if_any a kind own

    abbrev pub kinds_in_leaf : List Name → Expr → List KindFact
    kinds_in_leaf own (Read first p a) = kind_unless_chain a (kind_at p) own
    kinds_in_leaf own _ = []

    abbrev pub kinds_in_target : List Name → Target → List KindFact
    kinds_in_target own (target.Attr p a) = kind_unless_chain a (kind_at p) own
    kinds_in_target own _ = []

    abbrev pub kinds_in_comp : List Name → Comp → List KindFact
    kinds_in_comp own c = kinds_in_target own c.target ++ flat_map (kinds_in_leaf own) (leaves_of c)

    abbrev pub kinds_of_item : SymbolItem → List KindFact
    kinds_of_item item = declared_kinds item.names item.decls ++ flat_map (kinds_in_comp item.names) item.body

    -- a target of a rule's computation
    abbrev pub kinds_by_place : RuleItem → Place → Name → List KindFact
    kinds_by_place r (place.Named x i) a = kind_unless_chain a (side_of (possible r x i)) (x ∷ [])
    kinds_by_place r _ a = []

    abbrev pub kinds_by_target : RuleItem → Target → List KindFact
    kinds_by_target r (target.Attr p a) = kinds_by_place r p a
    kinds_by_target r _ = []

    abbrev pub kinds_of_rule : RuleItem → List KindFact
    kinds_of_rule r = flat_map (λ (c : Comp). kinds_by_target r c.target) r.body

    abbrev pub kinds_of_text : Spec → List KindFact
    kinds_of_text spec = flat_map kinds_of_rule spec.rules ++ flat_map kinds_of_item spec.symbols
