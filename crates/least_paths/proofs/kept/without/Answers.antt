use Rattle.std.proofs.Common.{◌∙◌, length, length-append, List, ℕ, ap, arith}
use Rattle.least_paths.proofs.WithoutLemmas.{kept-next, kept-edges}
use Rattle.least_paths.proofs.kept.without.Goals as goal

pub loop-x-preserved : goal.loop-x-preserved
loop-x-preserved c = record {
  count = ap (λ (xs : List (List ℕ)). length xs) c.in_ok-push.ensures.items ∙ omega (arith, length-append {A = List ℕ}, c.loop-x.invariant.count);
  rows = kept-next c.args.next.now c.args.closed.now c.loop-x.kept.items c.push.new.self.items c.loop-x.x c.in_ok-kept_row.field-0 c.loop-x.invariant.count c.loop-x.invariant.rows c.in_ok-push.ensures.items c.in_ok-kept_row.ensures;
}

pub returns-clause-edges : goal.returns-clause-edges
returns-clause-edges c = kept-edges c.args.next.now c.args.closed.now c.loop-x.kept.items (omega (arith, c.loop-x.invariant.count, c.loop-x-test.false, c.loop-x.auto.x-end)) c.loop-x.invariant.rows
