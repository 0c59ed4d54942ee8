use Rattle.std.proofs.Common.{◌≡◌, ◌∙◌, ap, sym, true, false, Some, inl, inr}
use Rattle.core_machine.specs.Cursors.{left_of}
use Rattle.core_machine.proofs.CursorSteps.{top-inside, inside-behind, behind-item, without}
use Rattle.core_machine.proofs.cursor.Cursor.step.Goals as goal
use Rattle.core_machine.proofs.cursor.Cursor.step.Goals.{else-not-self-via-then-not-self+else-is_shared, else-not-self-via-else-not-self}

pub next_at-requires : goal.next_at-requires
next_at-requires c =
    top-inside c.args.job.now c.facts.ensures c.args.self.now c.requires.cursor.inside c.take_last-top.new.self.items c.take_last-top.result
    (sym (ap (λ s. s.frames) c.self.view_is) ∙ c.take_last-top.ensures.items)

pub is_shared-requires-clause-inside : goal.is_shared-requires-clause-inside
is_shared-requires-clause-inside c =
    top-inside c.args.job.now c.facts.ensures c.args.self.now c.requires.cursor.inside c.take_last-top.new.self.items c.take_last-top.result
    (sym (ap (λ s. s.frames) c.self.view_is) ∙ c.take_last-top.ensures.items)

pub settle-requires-clause-inside : goal.settle-requires-clause-inside
settle-requires-clause-inside c =
    let e = c.self.view_is in
    inside-behind c.args.job.now c.facts.ensures c.args.self.now c.requires.cursor.inside c.take_last-top.new.self.items c.take_last-top.result
    (sym (ap (λ s. s.frames) e) ∙ c.take_last-top.ensures.items)
    c.behind.result _ c.behind.ensures.node c.push_reserved-else-not-self.ensures.items (ap (λ s. s.region) e)
    (c.push_reserved-else-not-self.ensures.capacity ∙ c.take_last-top.ensures.capacity ∙ ap (λ s. s.room) e)

pub returns-else-not-self-clause-left : goal.returns-else-not-self-clause-left
returns-else-not-self-clause-left c =
    let e = c.self.view_is in
    let j = c.args.job.now in
    without j c.settle.new.self c.settle.ensures.put ∙ c.settle.ensures.left ∙ ap (left_of j) c.push_reserved-else-not-self.ensures.items
    ∙ behind-item j c.facts.ensures c.args.self.now c.requires.cursor.inside c.take_last-top.new.self.items c.take_last-top.result
    (sym (ap (λ s. s.frames) e) ∙ c.take_last-top.ensures.items)
    c.in-Some-Eval.occ (sym c.in-Some-Eval.ensures.item ∙ ap Some c.in-Some-Eval.field-0-is) c.behind.result c.behind.ensures.node c.behind.ensures.place
    (elim c.else-not-self.branch [
      | else-not-self-via-then-not-self+else-is_shared w ↦ inr (sym (ap (λ s. s.put) e) ∙ w.if-not-self.true)
      | else-not-self-via-else-not-self w ↦ inl (c.requires.cursor.to_put (sym (ap (λ s. s.put) e) ∙ w.if-not-self.false))
    ])
    (elim c.else-not-self.branch [
      | else-not-self-via-then-not-self+else-is_shared w ↦ λ no. sym w.is_shared.ensures ∙ w.if-is_shared.false
      | else-not-self-via-else-not-self w ↦ λ no. (let f : true ≡ false = sym w.if-not-self.false ∙ ap (λ s. s.put) e ∙ no in absurd (cc))
    ])
