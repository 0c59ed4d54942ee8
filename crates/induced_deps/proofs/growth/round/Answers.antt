use Rattle.std.proofs.Common.{arith, subst, ◌<◌, length}
use Rattle.std.proofs.lemmas.Option.{slice_get_within}
use Rattle.induced_deps.specs.Due.{IsDone, in_turn}
use Rattle.induced_deps.proofs.DueLemmas.{turn_of}
use Rattle.induced_deps.proofs.growth.round.Goals as goal

pub returns-clause-settled : goal.returns-clause-settled
returns-clause-settled c = λ none k g found.
    let l = c.loop-i in
    let rules = c.args.flat.now.rules in
    let inside = slice_get_within l.graphs k g found in
    let count = l.invariant.graphs.count in
    let within : k < length rules = omega arith in
    let turn = turn_of c.args.back (length rules) k within in
    let below = turn.0 in
    let done = l.invariant.quiet none (in_turn c.args.back (length rules) k) (omega (arith, l.auto.i-end, c.loop-i-test.false, c.len-count.ensures)) in
    l.invariant.due.settled k g found (subst (λ n. IsDone l.due.flags.items n) turn.1 done)
