use Rattle.region_engine.proofs.Lists.{stands-eval, stands-put}
use Rattle.core_machine.specs.Cursors.{left}
use Rattle.region_engine.proofs.region.Region.use_next.Goals as goal

pub evaluate-requires-clause-site : goal.evaluate-requires-clause-site
evaluate-requires-clause-site c = (stands-eval c.args.job.now c.args.self.now.values.region c.args.self.now.position (left c.args.job.now c.args.self.now.cursor) c.args.item c.in-Eval.node c.in-Eval.occ c.requires.region.rest c.requires.first c.in-Eval.is).1

pub evaluate-requires-clause-next : goal.evaluate-requires-clause-next
evaluate-requires-clause-next c = (stands-eval c.args.job.now c.args.self.now.values.region c.args.self.now.position (left c.args.job.now c.args.self.now.cursor) c.args.item c.in-Eval.node c.in-Eval.occ c.requires.region.rest c.requires.first c.in-Eval.is).0

pub put-requires-clause-next : goal.put-requires-clause-next
put-requires-clause-next c = stands-put c.args.job.now c.args.self.now.values.region c.args.self.now.position (left c.args.job.now c.args.self.now.cursor) c.args.item c.in-Put.key c.requires.region.rest c.requires.first c.in-Put.is
