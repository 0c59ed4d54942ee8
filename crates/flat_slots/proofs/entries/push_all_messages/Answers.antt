use Rattle.std.proofs.Common.{ℕ, ◌∙◌, ap}
use Rattle.rule_tables.specs.declared.table.SymbolRow.{SymbolRow}
use Rattle.need_graphs.proofs.ListLemmas.{numbered-more}
use Rattle.flat_slots.specs.Entries.{messages, message_count}
use Rattle.flat_slots.proofs.entries.push_all_messages.Goals as goal

pub loop-x-preserved : goal.loop-x-preserved
loop-x-preserved c =
    let x = c.loop-x.x in
    numbered-more (λ (z : ℕ × SymbolRow). messages z.0 (message_count c.args.counts.now z.1)) c.args.rows.now x c.index-rows-x.result c.args.entries.now.items c.loop-x.entries.items c.push_messages.new.entries.items _
    c.loop-x-test.true c.loop-x.invariant c.in_ok-push_messages.ensures (ap (messages x) c.count_of.ensures ∙ ap (λ (r : SymbolRow). messages x (message_count c.args.counts.now r)) c.index-rows-x.is)
