use Rattle.symbol_inherit.proofs.IndexLemmas.{holds-step}
use Rattle.symbol_inherit.proofs.index.Index.of.Goals as goal

pub loop-note-preserved : goal.loop-note-preserved
loop-note-preserved c = holds-step c.args.notes.now c.loop-note.note-index _ c.loop-note.index c.note.new.self c.loop-note-test.true c.loop-note.invariant c.in_ok-note.ensures
