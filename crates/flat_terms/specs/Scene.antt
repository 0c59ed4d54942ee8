-- A plain rule of a specification with all that its flat expressions speak of.
use Rattle.std.specs.Prelude.{ℕ, ℤ, List, [], Option}
use Rattle.lido_base.specs.Environment.{Environment}
use Rattle.lido_syntax.specs.declared.spec.Spec.{Spec}
use Rattle.lido_syntax.specs.declared.spec.Name.{Name}
use Rattle.lido_syntax.specs.declared.spec.Pair.{Pair}
use Rattle.lido_syntax.specs.declared.spec.Cons.{Cons}
use Rattle.lido_syntax.specs.declared.spec.Comp.{Comp}
use Rattle.lido_syntax.specs.declared.spec.Expr.{Expr}
use Rattle.lido_syntax.specs.declared.spec.Place.{Place}
use Rattle.lido_syntax.specs.declared.spec.RuleItem.{RuleItem}
use Rattle.lido_syntax.specs.Computation.{Holder, by_rule}
use Rattle.flat_grammar.specs.declared.flat.Occ.{Occ}
use Rattle.flat_grammar.specs.declared.flat.FlatExpr.{FlatExpr}
use Rattle.rule_tables.specs.PlainRules.{PlainRule}
use Rattle.rule_tables.specs.Forced.{Force}
use Rattle.rule_tables.specs.Needs.{Tables, Needs}
use Rattle.rule_tables.specs.Slots.{Slot}
use Rattle.rule_tables.specs.Shares as share
use Rattle.rule_tables.specs.Shares.{Term}
use Rattle.rule_tables.specs.Copies as copies

pub record Scene : Type 0 where
  pub spec : Spec
  pub tables : Tables spec
  pub needs : Needs spec tables
  pub slots : ℕ → List Slot
  pub env : Environment
  pub rule : RuleItem
  pub plain : PlainRule
  pub forces : List Force

module _ (s : Scene) where
  -- an attribute of an occurrence, its value, and what a name behind a place stands for
  abbrev pub occ : ℕ → Slot → Occ
  occ = copies.occ s.spec s.tables s.needs s.slots s.env s.rule s.plain s.forces

  abbrev pub get : ℕ → Slot → FlatExpr
  get = copies.get s.spec s.tables s.needs s.slots s.env s.rule s.plain s.forces

  abbrev pub seen : ℕ → Slot
  seen = copies.seen s.spec s.tables s.needs s.slots s.env s.rule s.plain s.forces

  abbrev pub slot_number : Option ℕ → Slot → ℕ
  slot_number = copies.slot_number s.spec s.tables s.needs s.slots s.env s.rule s.plain s.forces

  -- in a computation of that holder whose context is that occurrence, where `tail` stands for TAIL
  module _ (tail : ℕ → FlatExpr) (holder : Holder) (context : ℕ) where
    abbrev pub bare : Name → Option ℤ → FlatExpr
    bare = copies.bare s.spec s.tables s.needs s.slots s.env s.rule s.plain s.forces tail holder context

    abbrev pub read : Place → ℕ → FlatExpr
    read = copies.read s.spec s.tables s.needs s.slots s.env s.rule s.plain s.forces tail holder context

    abbrev pub including : List Pair → FlatExpr
    including = copies.including s.spec s.tables s.needs s.slots s.env s.rule s.plain s.forces tail holder context

    abbrev pub made : Term → FlatExpr
    made = copies.made s.spec s.tables s.needs s.slots s.env s.rule s.plain s.forces tail holder context

    abbrev pub constituents : Cons → FlatExpr
    constituents = copies.constituents s.spec s.tables s.needs s.slots s.env s.rule s.plain s.forces tail holder context

    abbrev pub copy_of : ℕ → Expr → FlatExpr
    copy_of = copies.copy_of s.spec s.tables s.needs s.slots s.env s.rule s.plain s.forces tail holder context

  -- what a chain has behind the last child
  abbrev pub tail_term : ℕ → Term
  tail_term = share.tail_term s.spec s.tables s.needs s.plain s.forces

  abbrev pub entered : Term → FlatExpr
  entered = copies.entered s.spec s.tables s.needs s.slots s.env s.rule s.plain s.forces

  abbrev pub tail_of : ℕ → FlatExpr
  tail_of = copies.tail_of s.spec s.tables s.needs s.slots s.env s.rule s.plain s.forces

  -- the occurrences of children that have the attribute of a CONSTITUENTS
  abbrev pub gives : Cons → List ℕ
  gives = share.gives s.spec s.tables s.needs s.plain s.forces

  -- what a computation of that holder gives in its context, and what it depends on
  abbrev pub computed : Holder → ℕ → Comp → FlatExpr
  computed = copies.computed s.spec s.tables s.needs s.slots s.env s.rule s.plain s.forces

  module _ (tail : ℕ → List Occ) (context : ℕ) where
    abbrev pub needed : Term → List Occ
    needed = copies.needed s.spec s.tables s.needs s.slots s.env s.rule s.plain s.forces tail context

    abbrev pub needed_read : Place → ℕ → List Occ
    needed_read = copies.needed_read s.spec s.tables s.needs s.slots s.env s.rule s.plain s.forces tail context

    abbrev pub needed_by : Expr → List Occ
    needed_by = copies.needed_by s.spec s.tables s.needs s.slots s.env s.rule s.plain s.forces tail context

    abbrev pub dependencies_in : Comp → List Occ
    dependencies_in = copies.dependencies_in s.spec s.tables s.needs s.slots s.env s.rule s.plain s.forces tail context

  -- a term in which no written computation stands, and what it depends on
  abbrev pub value_of : Term → FlatExpr
  value_of = made (λ chain. copies.nothing) by_rule 0

  abbrev pub value_needs : Term → List Occ
  value_needs = needed (λ chain. []) 0

  -- what an extra attribute is given, and what it depends on
  abbrev pub given : Term → FlatExpr
  given = copies.given s.spec s.tables s.needs s.slots s.env s.rule s.plain s.forces

  abbrev pub given_needs : Term → List Occ
  given_needs = copies.given_needs s.spec s.tables s.needs s.slots s.env s.rule s.plain s.forces

  -- what a CONSTITUENTS depends on, and TAIL
  abbrev pub needed_below : Cons → List Occ
  needed_below k = needed (λ chain. []) 0 (share.below_term s.spec s.tables s.needs s.plain s.forces k)

  abbrev pub tail_needs : ℕ → List Occ
  tail_needs c = copies.entered_needs s.spec s.tables s.needs s.slots s.env s.rule s.plain s.forces (tail_term c)

  abbrev pub computed_needs : ℕ → Comp → List Occ
  computed_needs = copies.computed_needs s.spec s.tables s.needs s.slots s.env s.rule s.plain s.forces
