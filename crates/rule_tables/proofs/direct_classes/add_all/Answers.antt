use Rattle.std.proofs.Common.{arith}
use Rattle.std.proofs.lemmas.Option.{slice_get-get_or}
use Rattle.kind_clashes.proofs.NamesLemmas.{more-step, more-end, more-one}
use Rattle.rule_tables.proofs.ClassLemmas.{more-ids}
use Rattle.rule_tables.proofs.direct_classes.add_all.Goals as goal

pub loop-id-preserved : goal.loop-id-preserved
loop-id-preserved c = more-step _ (slice_get-get_or _ _ _ c.loop-id-test.true) c.loop-id.invariant (more-one c.in_ok-add.ensures)

pub returns : goal.returns
returns c = more-ids c.args.ids.now (more-end (omega arith) c.loop-id.invariant)
