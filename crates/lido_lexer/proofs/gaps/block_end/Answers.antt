use Rattle.std.proofs.Common.{inl, inr, subst, sym, List, ℕ}
use Rattle.std.proofs.lemmas.List.{take_rest}
use Rattle.lido_lexer.specs.Gaps.{EndsFirst}
use Rattle.lido_lexer.proofs.Ends.{ends_at, ends_later, ends_nowhere, not_both}
use Rattle.lido_lexer.proofs.gaps.block_end.Goals as goal
use Rattle.lido_lexer.proofs.gaps.block_end.Goals.{else-star-via-then-star+else-b-eq47, else-star-via-else-star}

pub loop-i-preserved : goal.loop-i-preserved
loop-i-preserved c = ends_later c.args.bytes.now c.loop-i.i c.loop-i.star c.loop-i-test.true c.loop-i.invariant (not_both _ _ (elim c.else-star.branch [
  | else-star-via-then-star+else-b-eq47 w ↦ inr w.if-b-eq47.false
  | else-star-via-else-star w ↦ inl w.if-star.false
]))

pub returns-then-b-eq47-clause-some : goal.returns-then-b-eq47-clause-some
returns-then-b-eq47-clause-some c = subst (λ (l : List ℕ). EndsFirst c.args.bytes.now l) (sym (take_rest c.args.bytes.now _))
    (ends_at c.args.bytes.now c.loop-i.i c.loop-i.star c.loop-i-test.true c.loop-i.invariant c.if-star.true c.if-b-eq47.true)

pub returns-clause-none : goal.returns-clause-none
returns-clause-none c = ends_nowhere c.args.bytes.now c.loop-i.i c.loop-i.star c.loop-i-test.false c.loop-i.invariant
