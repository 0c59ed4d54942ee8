-- What a specification says of attributes, as a list: that there is the attribute, what declarations say, and the kinds that
-- computations tell.
use Rattle.std.specs.Prelude.{◌↔◌, ℕ, zero, suc, Bool, true, false, if◌then◌else◌, List, [], ◌∷◌, ◌++◌, map, flat_map, Option, Some, None, Contains}
use Rattle.lido_base.specs.declared.kinds.Kind.{Kind}
use Rattle.lido_base.specs.declared.kinds.Kind.TheVariants.{Synthesized, Inherited}
use Rattle.lido_syntax.specs.declared.spec.Spec.{Spec}
use Rattle.lido_syntax.specs.declared.spec.Name.{Name}
use Rattle.lido_syntax.specs.declared.spec.Decl.{Decl}
use Rattle.lido_syntax.specs.declared.spec.Comp.{Comp}
use Rattle.lido_syntax.specs.declared.spec.RuleItem.{RuleItem}
use Rattle.lido_syntax.specs.declared.spec.SymbolItem.{SymbolItem}
use Rattle.lido_syntax.specs.declared.spec.Target.{Target}
use Rattle.lido_syntax.specs.declared.spec.Target.TheVariants as target
use Rattle.lido_syntax.specs.declared.spec.Place.{Place}
use Rattle.lido_syntax.specs.declared.spec.Place.TheVariants as place
use Rattle.lido_syntax.specs.declared.spec.Expr.{Expr, Read}
use Rattle.lido_syntax.specs.Production.{name_of}
use Rattle.lido_syntax.specs.Parts.{leaves_of}
use Rattle.lido_syntax.specs.Attributes.{possible, IsNamed, IsDeclared, Tells}
use Rattle.kind_clashes.specs.declared.names.Names.{Names}
use Rattle.kind_clashes.specs.Names.{has}
use Rattle.symbol_attributes.specs.declared.facts.Facts.{Facts}
use Rattle.symbol_attributes.specs.declared.facts.Said.{Said}
use Rattle.symbol_attributes.specs.declared.named.SymbolAttribute.{SymbolAttribute}
use Rattle.symbol_attributes.specs.Facts.{said, declared_facts}

-- that there is the attribute, and no more
abbrev pub no_facts : Facts
no_facts = record { ty = None; kind = None; told = None }

-- a kind that a computation tells
abbrev pub told_facts : Kind → Facts
told_facts kind = record { ty = None; kind = None; told = Some kind }

abbrev pub said_on : Name → Facts → Name → Said
said_on a f x = record { symbol = x.id; attribute = a.id; facts = f }

abbrev pub said_of_named : SymbolAttribute → Said
said_of_named x = record { symbol = x.symbol; attribute = x.attribute; facts = no_facts }

-- by the declarations of an item, of each of its symbols
abbrev pub said_by_decl : List Name → Decl → List Said
said_by_decl own d = map (said_on d.attr (declared_facts d)) own

abbrev pub said_by_decls : SymbolItem → List Said
said_by_decls item = flat_map (said_by_decl item.names) item.decls

-- the kind that a place in a symbol's body tells
abbrev pub kind_at : Place → Option Kind
kind_at place.Synt = Some Synthesized
kind_at place.Inh = Some Inherited
kind_at _ = None

-- what a computation tells of an attribute, of each of these symbols
abbrev pub told_of : Name → List Name → Option Kind → List Said
told_of a own None = []
told_of a own (Some kind) = map (said_on a (told_facts kind)) own

module _ (chains : Names) where
  module _ (own : List Name) where
    -- a chain is no attribute
    abbrev pub told_at : Place → Name → List Said
    told_at p a = if has chains (name_of a) then [] else told_of a own (kind_at p)

    abbrev pub told_by_leaf : Expr → List Said
    told_by_leaf (Read at p a) = told_at p a
    told_by_leaf _ = []

    abbrev pub told_by_target : Target → List Said
    told_by_target (target.Attr p a) = told_at p a
    told_by_target _ = []

    abbrev pub told_by_comp : Comp → List Said
    told_by_comp c = told_by_target c.target ++ flat_map told_by_leaf (leaves_of c)

  abbrev pub told_by_item : SymbolItem → List Said
  told_by_item item = flat_map (told_by_comp item.names) item.body

-- the side of a rule on which all of these occurrences are
abbrev pub side_of : List ℕ → Option Kind
side_of (zero ∷ []) = Some Synthesized
side_of (suc k ∷ more) = Some Inherited
side_of _ = None

-- the same of a symbol, by whether it stands on the left and on the right
abbrev pub one_side : Bool → Bool → Option Kind
one_side true false = Some Synthesized
one_side false true = Some Inherited
one_side _ _ = None

module _ (chains : Names) (r : RuleItem) where
  abbrev pub told_by_side : Place → Name → List Said
  told_by_side (place.Named x i) a = if has chains (name_of a) then [] else told_of a (x ∷ []) (side_of (possible r x i))
  told_by_side _ a = []

  abbrev pub told_by_rule_target : Target → List Said
  told_by_rule_target (target.Attr p a) = told_by_side p a
  told_by_rule_target _ = []

abbrev pub told_by_rule : Names → RuleItem → List Said
told_by_rule chains r = flat_map (λ (c : Comp). told_by_rule_target chains r c.target) r.body

abbrev pub all_said : Names → Spec → List SymbolAttribute → List Said
all_said chains spec named = map said_of_named named ++ (flat_map said_by_decls spec.symbols ++ (flat_map (told_by_item chains) spec.symbols ++ flat_map (told_by_rule chains) spec.rules))

-- this is said of attribute a of symbol s
pub data IsSaid (spec : Spec) (s a : ℕ) : Facts → Type 0 where
  named : IsNamed spec s a → IsSaid spec s a no_facts
  declared : (d : Decl) → IsDeclared spec s a d → IsSaid spec s a (declared_facts d)
  told : {kind : Kind} → Tells spec s a kind → IsSaid spec s a (told_facts kind)

-- the list has what is said, and no more
abbrev pub AreSaid : Spec → List Said → Type 0
AreSaid spec list = (s a : ℕ) (f : Facts) → Contains list (said s a f) ↔ IsSaid spec s a f
