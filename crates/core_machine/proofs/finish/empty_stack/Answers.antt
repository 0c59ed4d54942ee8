use Rattle.std.proofs.Common.{sym, subst}
use Rattle.core_machine.specs.Runs.{IsStackFor}
use Rattle.core_machine.proofs.finish.empty_stack.Goals as goal

pub returns-clause-room : goal.returns-clause-room
returns-clause-room c = subst (IsStackFor c.args.job.now) (sym c.in_ok-stack.ensures.exact) c.in_ok-room.ensures
