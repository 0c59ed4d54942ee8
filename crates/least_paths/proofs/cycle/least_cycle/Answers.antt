use Rattle.std.proofs.Common.{Option, ◌+◌, List, ℕ, sym, subst, arith}
use Rattle.least_paths.specs.Graph.{has_edge}
use Rattle.least_paths.specs.Cycle.{items_of, IsFound, IsBelow}
use Rattle.least_paths.proofs.CycleLemmas.{found-next, least-found, none-found}
use Rattle.least_paths.proofs.cycle.least_cycle.Goals as goal

pub loop-s-preserved : goal.loop-s-preserved
loop-s-preserved c = subst (λ (o : Option (List ℕ)). IsFound (IsBelow (has_edge c.args.next.now) (c.loop-s.s + 1)) o) (sym c.shorter-best.ensures)
    (found-next (has_edge c.args.next.now) c.loop-s.s (items_of c.loop-s.best) (items_of c.in_ok-cycle_at.field-0) c.loop-s.invariant c.in_ok-cycle_at.ensures)

pub returns-clause-least : goal.returns-clause-least
returns-clause-least c = least-found c.args.next.now c.loop-s.s (omega (arith, c.loop-s-test.false, c.loop-s.auto.s-end)) c.loop-s.best c.loop-s.invariant

pub returns-clause-none : goal.returns-clause-none
returns-clause-none c = none-found c.args.next.now c.loop-s.s (omega (arith, c.loop-s-test.false, c.loop-s.auto.s-end)) c.loop-s.best c.loop-s.invariant
