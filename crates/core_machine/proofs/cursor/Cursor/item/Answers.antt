use Rattle.std.specs.Prelude.{take}
use Rattle.std.proofs.Common.{◌∙◌, ◌-◌, ap, sym, Some, length}
use Rattle.core_machine.proofs.CursorSteps.{top-inside, names-eval, names-put}
use Rattle.core_machine.proofs.cursor.Cursor.item.Goals as goal

pub next_at-requires : goal.next_at-requires
next_at-requires c = top-inside c.args.job.now c.facts.ensures c.args.self.now c.requires.inside (take (length c.args.self.now.frames - 1) c.args.self.now.frames) c.in_ok-top.top c.in_ok-top.ensures

pub put_key-requires-clause-inside : goal.put_key-requires-clause-inside
put_key-requires-clause-inside c = top-inside c.args.job.now c.facts.ensures c.args.self.now c.requires.inside (take (length c.args.self.now.frames - 1) c.args.self.now.frames) c.in_ok-top.top c.in_ok-top.ensures

pub returns-then-self : goal.returns-then-self
returns-then-self c =
    let next = sym c.in-Some-Eval.ensures.item ∙ ap Some c.in-Some-Eval.field-0-is in
    let put = sym (ap (λ s. s.put) c.self.view_is) ∙ c.if-self.true in
    let front = take (length c.args.self.now.frames - 1) c.args.self.now.frames in
    names-put c.args.job.now c.facts.ensures c.args.self.now c.requires.inside front c.in_ok-top.top c.in_ok-top.ensures
    c.in-Some-Eval.occ next c.put_key.result put (c.requires.to_put put front c.in_ok-top.top c.in-Some-Eval.occ c.in_ok-top.ensures next) c.put_key.ensures

pub returns-else-self : goal.returns-else-self
returns-else-self c =
    names-eval c.args.job.now c.facts.ensures c.args.self.now c.requires.inside (take (length c.args.self.now.frames - 1) c.args.self.now.frames) c.in_ok-top.top c.in_ok-top.ensures
    c.in-Some-Eval.occ (sym c.in-Some-Eval.ensures.item ∙ ap Some c.in-Some-Eval.field-0-is) (sym (ap (λ s. s.put) c.self.view_is) ∙ c.if-self.false)
