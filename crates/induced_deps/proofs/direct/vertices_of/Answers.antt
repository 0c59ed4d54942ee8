use Rattle.std.proofs.Common.{arith, subst, ◌-◌}
use Rattle.std.specs.Prelude.{IsBitSet}
use Rattle.induced_deps.proofs.direct.vertices_of.Goals as goal

pub returns : goal.returns
returns c = λ w. (
  λ h. (let (small, above, bit) = (c.from_bits.ensures w).0 h in
      let (within, set) = (c.first_bits.ensures (w - c.args.place.offset)).0 bit in (w - c.args.place.offset, within, set, omega arith)),
  λ h. (let (b, within, set, same) = h in (c.from_bits.ensures w).1 (omega (arith, c.requires), omega arith, (c.first_bits.ensures (w - c.args.place.offset)).1 (omega arith, subst (IsBitSet c.args.bits) (omega arith) set))),
)
