use Rattle.type_checks.proofs.WrittenLemmas.{lists-more}
use Rattle.type_checks.proofs.written.list_rules.Goals as goal

pub loop-k-preserved : goal.loop-k-preserved
loop-k-preserved c =
    lists-more c.args.rules.now c.loop-k.k c.index-rules-k.result c.loop-k.numbers.items c.push_list.new.numbers.items c.loop-k-test.true c.index-rules-k.is c.loop-k.invariant c.in_ok-push_list.ensures
