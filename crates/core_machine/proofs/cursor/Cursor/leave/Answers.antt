use Rattle.std.proofs.Common.{◌≡◌, ◌∙◌, ap, sym, refl, length, ◌++◌, ◌∷◌, [], arith, eqb-true, eq-eqb}
use Rattle.flat_grammar.specs.declared.plan.PlanItem.TheVariants.{Leave}
use Rattle.core_machine.specs.Cursors.{with_top}
use Rattle.core_machine.proofs.CursorLists.{leave-outermost, leave-inner}
use Rattle.core_machine.proofs.CursorMoves.{passed, ended}
use Rattle.core_machine.proofs.cursor.Cursor.leave.Goals as goal

pub returns-then-is_empty : goal.returns-then-is_empty
returns-then-is_empty c =
    let e = c.self.view_is in
    let n = eqb-true _ 0 (sym c.is_empty.ensures ∙ c.if-is_empty.true) in
    let l = ap (λ s. length s.frames) e in
    let outermost : length c.args.self.now.frames ≡ 0 = omega (arith, n, l, c.self.inside.frames.ok.0) in
    passed c.args.job.now c.facts.ensures (with_top c.args.self.now c.args.top) _ c.args.self.now.frames c.args.top c.requires.inside refl
    (ap (λ s. s.region) e) (ap (λ s. s.put) e) (c.push_reserved.ensures.capacity ∙ ap (λ s. s.room) e)
    c.behind.result c.behind.ensures.node (Leave c.requires.next.0) (c.push_reserved.ensures.items ∙ ap (λ s. s.frames ++ c.behind.result ∷ []) e)
    (leave-outermost c.args.job.now c.args.self.now.frames c.args.top c.behind.result c.requires.next.0 outermost c.behind.ensures.node c.behind.ensures.place c.requires.next.1) refl

pub returns-else-is_empty : goal.returns-else-is_empty
returns-else-is_empty c =
    let l = ap (λ s. length s.frames) c.self.view_is in
    ended c.args.job.now c.facts.ensures (with_top c.args.self.now c.args.top) c.args.self.now c.args.self.now.frames c.args.top c.requires.inside refl refl refl refl refl
    (leave-inner c.args.job.now c.args.self.now.frames c.args.top c.requires.next.0
    (λ z. let y = c.is_empty.ensures ∙ eq-eqb _ 0 (omega (arith, z, l, c.self.inside.frames.ok.0)) in let n = c.if-is_empty.false in absurd (cc)) c.requires.next.1)
