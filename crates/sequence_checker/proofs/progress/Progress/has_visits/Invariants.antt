use Rattle.std.proofs.Common.{◌≡◌, ℕ, suc, ◌<◌, Some}
use Rattle.std.specs.Prelude.{slice_get, IsTrue}
use Rattle.lido_base.specs.declared.ids.SymId.{SymId}
use Rattle.sequence_checker.specs.Faults.{is_visited}
use Rattle.sequence_checker.proofs.progress.Progress.has_visits.Given as goal

abbrev pub invariant-loop-k : goal.invariant-loop-k
invariant-loop-k l = (j : ℕ) (s : SymId) → j < l.k → slice_get l.rule.right j ≡ Some s → IsTrue (is_visited l.symbols l.visits l.self (suc j) s)
