use Rattle.std.proofs.Common.{ap, arith}
use Rattle.flat_slots.specs.declared.slot.Slot.TheVariants.{Written}
use Rattle.flat_slots.specs.declared.entries.Entry.{Entry}
use Rattle.flat_slots.proofs.EntryLemmas.{filled-next, skipped-next}
use Rattle.flat_slots.proofs.table.rows_of.Goals as goal
use Rattle.flat_slots.proofs.table.rows_of.Goals.{then-entry-len+in_ok-add, else-entry-len}

pub loop-entry-preserved : goal.loop-entry-preserved
loop-entry-preserved c =
    let es = c.args.entries.now in
    let i = c.loop-entry.entry-index in
    let none : Entry = record { sym = 0; slot = Written (record { 0 = 0 }) } in
    let rows = c.loop-entry.rows.items in
    let count = c.loop-entry.invariant.count in
    elim c.if-entry-len.branch [
      | then-entry-len+in_ok-add w ↦
          let p = filled-next es i none rows c.if-entry-len.rows.items w.index_mut-row.result.now w.add.new.self c.loop-entry-test.true (omega (arith, w.if-entry-len.true, c.len.ensures)) (ap (λ v. v.items) w.rows-is)
          w.index_mut-row.ensures.value w.in_ok-add.ensures.added c.args.count count c.loop-entry.invariant.rows in
          record { count = p.0; rows = p.1 }
      | else-entry-len w ↦
          let p = skipped-next es i none rows c.if-entry-len.rows.items c.loop-entry-test.true (omega (arith, w.if-entry-len.false, c.len.ensures)) (ap (λ v. v.items) w.rows-is) c.args.count count c.loop-entry.invariant.rows in
          record { count = p.0; rows = p.1 }
    ]
