-- The texts of the code are those of the definition.
use Rattle.std.proofs.Common.{◌≡◌, ℕ, ◌++◌, refl}
use Rattle.std.specs.List.{repeat}
use Rattle.job_text.specs.declared.generator.TheConstants.{HEAD, BLOCK, TAIL}
use Rattle.job_text.specs.Generator.{head, block, tail, generated}

pub texts_are : (n : ℕ) → HEAD.now ++ repeat n BLOCK.now ++ TAIL.now ≡ generated n
unfolding head block tail
texts_are n = refl
