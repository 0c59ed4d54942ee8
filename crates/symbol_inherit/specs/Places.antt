-- The symbols of written rules, by their numbers.
use Rattle.std.specs.Prelude.{◌≡◌, ℕ, ◌+◌, ◌<◌, length, List, [], Option, Some, None, slice_get}
use Rattle.lido_base.specs.declared.ids.SymId.{SymId}
use Rattle.flat_grammar.specs.declared.flat.FlatRule.{FlatRule}
use Rattle.flat_grammar.specs.declared.flat.Shape.{Shape}
use Rattle.lido_syntax.specs.declared.spec.RuleItem.{RuleItem}
use Rattle.lido_syntax.specs.Production.{right_of, CanStandAt}
use Rattle.rule_tables.specs.declared.table.Tables.{Tables}
use Rattle.rule_tables.specs.PlainRules.{Whole}
use Rattle.rule_tables.specs.Forced.{IsWrittenAt}
use Rattle.rule_tables.specs.TablesOf.{named_symbols}

-- the occurrence of the written rule of that number has this symbol, with this number
pub record IsPlaceIn (t : Tables) (r : RuleItem) (i o s x : ℕ) : Type 0 where
  pub of_rule : slice_get t.spec.rules i ≡ Some r
  pub written : IsWrittenAt r Whole o s
  pub stands : CanStandAt r o s
  pub number : slice_get (named_symbols t) x ≡ Some s

-- the symbols of a right side, and no more
pub record AreRightPlaces (t : Tables) (r : RuleItem) (i : ℕ) (right : List SymId) : Type 0 where
  pub of_rule : slice_get t.spec.rules i ≡ Some r
  pub each : (k : ℕ) (x : SymId) → slice_get right k ≡ Some x → (s : ℕ) × IsPlaceIn t r i (k + 1) s x.0
  pub all : (k s : ℕ) → slice_get (right_of r) k ≡ Some s → k < length right

-- the symbols of the rule of that number, as the tables have them
abbrev pub left_id : Option FlatRule → SymId
left_id None = record { 0 = 0 }
left_id (Some flat) = flat.left

abbrev pub right_ids : Option Shape → List SymId
right_ids None = []
right_ids (Some shape) = shape.right
