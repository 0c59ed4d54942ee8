use Rattle.std.proofs.Common.{◌≡◌, ◌<◌, ℕ, [], Some}
use Rattle.std.specs.Prelude.{slice_get}
use Rattle.flat_grammar.specs.declared.flat.FlatRule.{FlatRule}
use Rattle.tree_flattener.proofs.forms.end_rule.Given as goal

-- the first rules are others
abbrev pub invariant-loop-k : goal.invariant-loop-k
invariant-loop-k l = (j : ℕ) (r : FlatRule) → j < l.k → slice_get l.flat.rules j ≡ Some r → r.left ≡ l.cell → r.right ≡ [] → ⊥
