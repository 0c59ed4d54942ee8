use Rattle.std.specs.Prelude.{vec_len, vec_capacity}
use Rattle.std.specs.List.{filter_map}
use Rattle.std.proofs.lemmas.List.{take_all}
use Rattle.std.proofs.Common.{◌∙◌, ap, arith}
use Rattle.region_engine.specs.declared.notebook.Message.{Message}
use Rattle.region_engine.specs.Notebooks.{told}
use Rattle.region_engine.proofs.ToldNotes.{listed-at, told-notes, told-push, told-skip}
use Rattle.region_engine.proofs.notes.notes_of.Goals as goal
use Rattle.region_engine.proofs.notes.notes_of.Goals.{in-Some, in-None}

pub note_at-requires-clause-message : goal.note_at-requires-clause-message
note_at-requires-clause-message c =
    (listed-at c.args.job.now c.args.notebook.messages.items c.requires.notebook.messages c.deref-message-items.result.now c.deref-message-items.ensures.value
    c.loop-message.message-index (record { written = 0; node = 0; attr = 0 }) c.loop-message-test.true).0

pub loop-message-preserved : goal.loop-message-preserved
loop-message-preserved c =
    let none : Message = record { written = 0; node = 0; attr = 0 } in
    let before = c.loop-message.invariant in
    elim c.match-note_at.branch [
      | in-Some w ↦ (let cap = ap vec_capacity w.notes-is in let len = ap vec_len w.notes-is in let p = w.push_reserved.ensures in record {
        room = let a = p.capacity in let b = before.room in omega (arith, a, b, cap);
        few = let a = p.len in let b = before.few in omega (arith, a, b, len);
        notes = ap (λ v. v.items) w.notes-is ∙ told-push c.args.job.now c.deref-message-items.result.now c.loop-message.message-index none
            c.loop-message-test.true c.loop-message.notes.items before.notes
            c.note_at.result c.note_at.ensures w.in-Some.note w.in-Some.is w.push_reserved.new.self.items p.items;
      })
      | in-None w ↦ (let cap = ap vec_capacity w.notes-is in let len = ap vec_len w.notes-is in record {
        room = let b = before.room in omega (arith, b, cap);
        few = let b = before.few in omega (arith, b, len);
        notes = ap (λ v. v.items) w.notes-is ∙ told-skip c.args.job.now c.deref-message-items.result.now c.loop-message.message-index none
            c.loop-message-test.true c.loop-message.notes.items before.notes
            c.note_at.result c.note_at.ensures w.in-None.is;
      })
    ]

pub returns : goal.returns
returns c =
    let j = c.args.job.now in
    told-notes j c.args.notebook.messages.items c.requires.notebook.messages c.loop-message.notes.items
    (c.loop-message.invariant.notes ∙ ap (filter_map (told j)) (take_all c.loop-message.message-index c.deref-message-items.result.now
    c.loop-message-test.false ∙ c.deref-message-items.ensures.value))
