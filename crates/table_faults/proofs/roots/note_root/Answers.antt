use Rattle.std.proofs.Common.{◌∙◌, sym}
use Rattle.table_faults.proofs.RootsLemmas.{root-new}
use Rattle.std.proofs.Common.{true≢false}
use Rattle.table_faults.proofs.roots.note_root.Goals as goal

pub returns-clause-more : goal.returns-clause-more
returns-clause-more c = root-new c.args.sets.now c.args.id.0 c.args.names.now.items c.note.new.names.items (λ right. absurd (true≢false (sym right ∙ sym c.has.ensures ∙ c.if-has.false))) c.in_ok-note.ensures.more
