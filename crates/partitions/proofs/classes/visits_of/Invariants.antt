use Rattle.std.proofs.Common.{◌≡◌, ℕ, ◌+◌, List, Some, length}
use Rattle.std.specs.Prelude.{slice_get, ◌*◌}
use Rattle.lido_base.specs.declared.ids.SymId.{SymId}
use Rattle.flat_grammar.specs.declared.flat.FlatSymbol.{FlatSymbol}
use Rattle.flat_grammar.specs.declared.flat.FlatRule.{FlatRule}
use Rattle.flat_grammar.specs.declared.plan.VisitClass.{VisitClass}
use Rattle.flat_grammar.specs.Partition.{IsClass}
use Rattle.partitions.specs.Peeling.{AreAllLevels}
use Rattle.partitions.proofs.classes.visits_of.Given as goal

-- the visits so far, the last pair's last
abbrev pub invariant-loop-levels : goal.invariant-loop-levels
invariant-loop-levels l = record {
  count : length l.visits.items ≡ l.levels-index;
  classes : (symbols : List FlatSymbol) (rules : List FlatRule) (x : SymId) → AreAllLevels symbols rules x l.all
      → (k : ℕ) (visit : VisitClass) → slice_get l.visits.items k ≡ Some visit → IsClass symbols rules x (2 * k) visit.synthesized × IsClass symbols rules x (2 * k + 1) visit.inherited;
}
