use Rattle.std.proofs.Common.{◌∙◌, ap, sym, refl}
use Rattle.core_machine.proofs.CursorLists.{share-none}
use Rattle.core_machine.proofs.CursorMoves.{ended}
use Rattle.core_machine.proofs.CursorSteps.{top-inside}
use Rattle.core_machine.proofs.cursor.Cursor.advance.Goals as goal

pub next_at-requires : goal.next_at-requires
next_at-requires c =
    top-inside c.args.job.now c.facts.ensures c.args.self.now c.requires c.take_last-top.new.self.items c.take_last-top.result
    (sym (ap (λ s. s.frames) c.self.view_is) ∙ c.take_last-top.ensures.items)

pub returns-in-None-clause-moved : goal.returns-in-None-clause-moved
returns-in-None-clause-moved c = λ yes.
    let e = c.self.view_is in
    ended c.args.job.now c.facts.ensures c.args.self.now _ c.take_last-top.new.self.items c.take_last-top.result c.requires
    (sym (ap (λ s. s.frames) e) ∙ c.take_last-top.ensures.items)
    (ap (λ s. s.region) e) (ap (λ s. s.put) e) (c.take_last-top.ensures.capacity ∙ ap (λ s. s.room) e) refl
    (share-none c.args.job.now c.take_last-top.new.self.items c.take_last-top.result (sym c.in-None.ensures.item))
