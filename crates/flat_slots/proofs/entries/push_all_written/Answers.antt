use Rattle.std.proofs.Common.{ℕ, ◌∙◌, ap}
use Rattle.rule_tables.specs.declared.table.SymbolRow.{SymbolRow}
use Rattle.need_graphs.proofs.ListLemmas.{numbered-more}
use Rattle.flat_slots.specs.Entries.{attrs_in, written_entries}
use Rattle.flat_slots.proofs.entries.push_all_written.Goals as goal

pub loop-x-preserved : goal.loop-x-preserved
loop-x-preserved c =
    let x = c.loop-x.x in
    numbered-more (λ (z : ℕ × SymbolRow). written_entries z.0 (attrs_in z.1)) c.args.rows.now x c.index-rows-x.result c.args.entries.now.items c.loop-x.entries.items c.push_written.new.entries.items _
    c.loop-x-test.true c.loop-x.invariant c.in_ok-push_written.ensures (ap (written_entries x) c.written.ensures ∙ ap (λ (r : SymbolRow). written_entries x (attrs_in r)) c.index-rows-x.is)
