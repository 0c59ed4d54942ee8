use Rattle.std.proofs.Common.{◌<◌}
use Rattle.std.specs.Prelude.{IsTrue}
use Rattle.lido_base.specs.declared.ids.AttrId.{AttrId}
use Rattle.flat_grammar.specs.SoundPlan.{IsAttribute}
use Rattle.sequence_checker.specs.Rows.{has_attribute}
use Rattle.sequence_checker.proofs.rows.has_all_of_kind.Given as goal

abbrev pub invariant-loop-k : goal.invariant-loop-k
invariant-loop-k l = (a : AttrId) → a.0 < l.k → IsAttribute l.symbol l.kind a → IsTrue (has_attribute l.set a)
