use Rattle.std.proofs.Common.{◌<◌, ℕ, arith, subst}
use Rattle.std.specs.Prelude.{IsBitSet, ◌↔◌}
use Rattle.induced_deps.proofs.WordLemmas.{first_halves}
use Rattle.induced_deps.proofs.shifts.first_bits.Goals as goal

pub returns : goal.returns
returns c =
    let s = c.bits.inside in
    first_halves c.args.bits s.low s.high c.below.result c.below-2.result c.args.count c.bits.view_is c.bits.invariant (omega arith) c.below.ensures
    (subst (λ n. (k : ℕ) → IsBitSet c.below-2.result k ↔ ((k < n) × IsBitSet s.high k)) c.saturating_sub.ensures c.below-2.ensures)
