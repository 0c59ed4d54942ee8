use Rattle.std.proofs.Common.{length, arith}
use Rattle.ptg_patterns.proofs.ArgumentsLemmas.{type_more, all_types}
use Rattle.ptg_patterns.proofs.arguments.types_from_one.Goals as goal

pub loop-number-preserved : goal.loop-number-preserved
loop-number-preserved c = record {
  found = type_more c.args.types.now c.loop-number.found.items c.push.new.self.items c.loop-number.number c.unwrap_or.result c.loop-number.auto.number c.loop-number.invariant.found
      c.unwrap_or.ensures c.in_ok-push.ensures.items;
  below = omega (arith, c.loop-number-test.true);
}

pub returns-clause-types : goal.returns-clause-types
returns-clause-types c = all_types c.args.types.now c.loop-number.found.items c.loop-number.number (length c.args.types.now)
    (omega (arith, c.loop-number.invariant.below, c.loop-number-test.false)) c.loop-number.invariant.found
