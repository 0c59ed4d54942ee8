use Rattle.std.proofs.Common.{◌∙◌, arith, sym, inl, inr}
use Rattle.core_machine.specs.Cursors.{left}
use Rattle.region_engine.specs.Behind.{list}
use Rattle.region_engine.proofs.Lists.{ends-there, none-first}
use Rattle.region_engine.proofs.Moves.{waiting-before}
use Rattle.region_engine.proofs.region.Region.run.Goals as goal

pub returns-in-Err-clause-stops : goal.returns-in-Err-clause-stops
returns-in-Err-clause-stops c = inr (waiting-before c.args.job.now c.args.self.now c.loop-item.self c.use_next.new.self c.loop-item.invariant.same c.in-Err.ensures.waits)

pub returns-clause-stops : goal.returns-clause-stops
returns-clause-stops c =
    let j = c.args.job.now in let g = c.loop-item.self in let at = c.loop-item.invariant.region in
    let a = at.within in let b = at.count in
    let e = ends-there j (list j g.values.region) g.position (omega (arith, a, b)) (sym at.rest ∙ none-first j (left j g.cursor) c.in_default.ensures) in
    inl (omega (arith, e))
