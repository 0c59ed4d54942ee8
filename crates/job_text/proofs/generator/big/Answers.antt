use Rattle.std.proofs.Common.{◌++◌, List, ℕ, append_assoc, ap, sym, ◌∙◌}
use Rattle.std.specs.List.{repeat}
use Rattle.job_text.specs.declared.generator.TheConstants.{HEAD, BLOCK}
use Rattle.job_text.proofs.RepeatLemmas.{repeat-next}
use Rattle.job_text.proofs.generator.big.Goals as goal

pub loop-preserved : goal.loop-preserved
loop-preserved c =
    c.in_ok-extend_from_slice-2.ensures.items
    ∙ ap (λ (l : List ℕ). l ++ BLOCK.now) c.loop.invariant
    ∙ append_assoc HEAD.now (repeat c.loop.counter BLOCK.now) BLOCK.now
    ∙ ap (λ (l : List ℕ). HEAD.now ++ l) (sym (repeat-next c.loop.counter BLOCK.now))
