use Rattle.std.proofs.Common.{◌∙◌}
use Rattle.lido_symbols.specs.Occurrences.{row_of}
use Rattle.lido_symbols.proofs.CollectedLemmas.{placed_more}
use Rattle.lido_symbols.proofs.production.Production.of.Goals as goal

pub loop-k-preserved : goal.loop-k-preserved
loop-k-preserved c = record {
  list = c.in_ok-note.ensures.list ∙ c.loop-k.invariant.list;
  left = c.in_ok-note.ensures.left ∙ c.loop-k.invariant.left;
  right = c.in_ok-note.ensures.right ∙ c.loop-k.invariant.right;
  rows = λ x. placed_more c.deref-symbol-items.result.now c.loop-k.k (record { 0 = 0 }) x (row_of c.loop-k.found x) (row_of c.note.new.self x) c.loop-k-test.true (c.loop-k.invariant.rows x) (c.in_ok-note.ensures.row x);
}
