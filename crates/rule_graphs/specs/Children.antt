-- The edges of plain rules.
use Rattle.std.specs.Prelude.{◌≡◌, ℕ, ◌<◌, Bool, IsTrue, List, map, Some, slice_get, Contains}
use Rattle.lido_base.specs.declared.ids.SymId.{SymId}
use Rattle.flat_grammar.specs.declared.flat.FlatRule.{FlatRule}
use Rattle.least_paths.specs.Graph.{is_in}

-- a rule below this number that isn't closed has the one symbol on its left side, and the other on its right side
pub record IsRuleEdge (rules : List FlatRule) (closed : List Bool) (n x y : ℕ) : Type 0 where
  pub i : ℕ
  pub rule : FlatRule
  pub of_rule : slice_get rules i ≡ Some rule
  pub below : i < n
  pub is_open : ¬ IsTrue (is_in closed i)
  pub left : rule.left.0 ≡ x
  pub right : Contains (map (λ (s : SymId). s.0) rule.right) y
