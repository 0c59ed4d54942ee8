use Rattle.numbered_computations.specs.Held.{held_at}
use Rattle.numbered_computations.proofs.HeldLemmas.{body-more}
use Rattle.numbered_computations.proofs.table.Computations.note_body.Goals as goal

pub loop-comp-preserved : goal.loop-comp-preserved
loop-comp-preserved c = λ n.
    body-more n c.args.holder c.args.body.now c.loop-comp.comp-index c.comp-item.result (held_at c.args.self.now n) (held_at c.loop-comp.self n) (held_at c.note.new.self n)
    c.loop-comp-test.true c.comp-item.is (c.loop-comp.invariant n) (c.in_ok-note.ensures n)
