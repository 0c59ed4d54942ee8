use Rattle.large_grammars.specs.Sizes.{AreAttributes}
use Rattle.large_grammars.proofs.grammars.attributes.Given as goal

-- the attributes so far
abbrev pub invariant-loop-a : goal.invariant-loop-a
invariant-loop-a l = AreAttributes l.a l.attrs
