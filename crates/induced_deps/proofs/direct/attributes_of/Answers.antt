use Rattle.std.proofs.Common.{arith}
use Rattle.induced_deps.proofs.direct.attributes_of.Goals as goal

pub returns : goal.returns
returns c = λ b. (
  λ h. (let (within, bit) = (c.first_bits.ensures b).0 h in (within, ((c.bits_from.ensures b).0 bit).1)),
  λ h. (c.first_bits.ensures b).1 (h.0, (c.bits_from.ensures b).1 ((let within = h.0 in omega (arith, c.requires.few)), h.1)),
)
