use Rattle.std.proofs.Common.{arith, get_or, subst}
use Rattle.std.proofs.lemmas.Option.{slice_get-get_or}
use Rattle.kind_clashes.specs.Least.{IsFirst}
use Rattle.kind_clashes.proofs.LeastLemmas.{first-step, first-end, first-at}
use Rattle.clash_pairs.specs.Twofold.{IsTwofoldOn}
use Rattle.clash_pairs.proofs.pairs.Facts.twofold_on_any.Goals as goal

pub loop-symbol-preserved : goal.loop-symbol-preserved
loop-symbol-preserved c =
    let items = c.as_slice-symbol-items.result.now in
    first-step (get_or items c.loop-symbol.symbol-index 0) (slice_get-get_or items c.loop-symbol.symbol-index 0 c.loop-symbol-test.true) c.earlier-least.ensures c.loop-symbol.invariant
    (subst (λ u. IsFirst (IsTwofoldOn c.args.inheritance.now c.args.self.now u) c.in_ok-twofold_on.field-0) c.number-u.ensures.number c.in_ok-twofold_on.ensures)

pub returns : goal.returns
returns c = first-at c.as_slice-symbol-items.ensures (first-end (omega arith) c.loop-symbol.invariant)
