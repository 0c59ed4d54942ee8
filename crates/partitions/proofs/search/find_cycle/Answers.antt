use Rattle.std.proofs.Common.{subst, arith, List, ℕ}
use Rattle.partitions.specs.Search.{IsCycleOn}
use Rattle.partitions.proofs.CycleLemmas.{is-ordered, is-cycle}
use Rattle.partitions.proofs.search.find_cycle.Goals as goal

pub returns-in-Some-clause-cycle : goal.returns-in-Some-clause-cycle
returns-in-Some-clause-cycle c =
    let search = c.close_from.new.search in
    let back = rw c.in-Some.is at c.in_ok-u.ensures.back in
    is-cycle c.args.preds.now search.marks.items search.tried.items search.path.items search.count c.in_ok-u.ensures.search c.in-Some.u back c.in_ok-cycle.cycle.items
    (subst (λ (p : List ℕ). IsCycleOn p c.in-Some.u c.in_ok-cycle.cycle.items) c.deref.ensures.value c.in_ok-cycle.ensures)

pub returns-clause-ordered : goal.returns-clause-ordered
returns-clause-ordered c =
    let search = c.loop-root.search in
    is-ordered c.args.preds.now search.marks.items search.tried.items search.path.items search.count c.loop-root.invariant.search c.loop-root.invariant.path (λ v h. c.loop-root.invariant.roots v (omega arith))
