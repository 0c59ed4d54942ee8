use Rattle.expr_types.proofs.CalledLemmas.{call-found}
use Rattle.expr_types.proofs.called.+push_called.Goals as goal

pub returns-after-loop-arg : goal.returns-after-loop-arg
returns-after-loop-arg t c =
    call-found c.args.value.now c.in-Call.name c.in-Call.args c.as_slice-arg-items.result.now c.loop-arg.arg-index c.args.names.now.items c.push.new.self.items c.loop-arg.names.items
    c.in-Call.is c.as_slice-arg-items.ensures c.loop-arg-test.false c.in_ok-push-in-Call.ensures.items c.loop-arg.invariant
