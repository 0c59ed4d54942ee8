use Rattle.std.proofs.lemmas.Option.{slice_get-get_or}
use Rattle.rule_tables.proofs.KindLemmas.{types-more, types-none}
use Rattle.rule_tables.proofs.symbol_kinds.TermTypes.of.Goals as goal

pub loop-term-init : goal.loop-term-init
loop-term-init c = types-none _ c.new-types.ensures

pub loop-term-preserved : goal.loop-term-preserved
loop-term-preserved c =
    types-more c.args.terms.now c.loop-term.term-index _ c.loop-term.types c.set.new.self (slice_get-get_or _ _ _ c.loop-term-test.true) c.in_ok-set.ensures c.loop-term.invariant
