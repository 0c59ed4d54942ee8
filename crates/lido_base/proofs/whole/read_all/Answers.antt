use Rattle.std.proofs.Common.{arith, ◌≤◌}
use Rattle.std.proofs.lemmas.List.{length-take}
use Rattle.lido_base.proofs.Pieces.{taken_more}
use Rattle.lido_base.proofs.whole.read_all.Goals as goal

pub returns-then-is_err-clause-no_memory : goal.returns-then-is_err-clause-no_memory
returns-then-is_err-clause-no_memory g c =
    let small : c.in-Ok.count ≤ c.min-room.result = omega (arith, c.in-Ok.ensures.bound, c.read.auto.buf, length-take c.min-room.result c.loop-piece.piece) in
    let fits = c.loop-piece.invariant.within in λ e. taken_more _ _ _ c.loop-piece.bytes.items _ c.in-Ok.count 8388609 c.loop-piece.invariant.taken c.in-Ok.ensures.bytes.0 c.in-Ok.ensures.bound
    (omega (arith, small, c.min-room.ensures, c.len-in-loop-piece.ensures, fits))
