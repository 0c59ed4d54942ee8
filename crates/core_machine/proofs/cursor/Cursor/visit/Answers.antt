use Rattle.std.specs.Prelude.{drop}
use Rattle.std.proofs.Common.{◌≡◌, ◌∙◌, ◌-◌, ap, sym, subst, refl, length, ◌++◌, ◌∷◌, [], arith, Some}
use Rattle.lido_base.specs.Tree.{IsNode, Child, item_at}
use Rattle.flat_grammar.specs.WholeOrder.{child_at, segment}
use Rattle.flat_grammar.specs.declared.plan.PlanItem.TheVariants.{Visit}
use Rattle.core_machine.specs.Cursors.{with_top}
use Rattle.core_machine.proofs.Trees.{child-facts}
use Rattle.core_machine.proofs.RegionWalks.{tree}
use Rattle.core_machine.proofs.CursorLists.{share-visit}
use Rattle.core_machine.proofs.CursorMoves.{passed, entered, visit-node, child-own}
use Rattle.core_machine.proofs.CursorSteps.{item-child, top-inside, top-region, room-below, elsewhere}
use Rattle.core_machine.proofs.cursor.Cursor.visit.Goals as goal

pub child-child-requires : goal.child-child-requires
child-child-requires c =
    subst (λ t. IsNode t c.args.top.node c.args.occ) (sym c.trees.ensures.flat)
    (visit-node c.args.job.now c.facts.ensures c.args.top.node c.args.top.place c.args.occ c.args.visit
    (top-inside c.args.job.now c.facts.ensures (with_top c.args.self.now c.args.top) c.requires.inside c.args.self.now.frames c.args.top refl) c.requires.next)

pub push_reserved-requires-then-region_at-self : goal.push_reserved-requires-then-region_at-self
push_reserved-requires-then-region_at-self c =
    let j = c.args.job.now in
    let b = c.child-child.result.0 in
    let s = with_top c.args.self.now c.args.top in
    let child : child_at j.flat c.args.top.node c.args.occ ≡ Some b = item-child j.flat c.args.top.node c.args.occ b
    (subst (λ t. item_at t c.args.top.node c.args.occ ≡ Some (Child b)) c.trees.ensures.flat c.child-child.ensures.child) in
    let up = (child-facts j.flat (tree j c.facts.ensures) c.args.top.node c.args.occ b child).parent in
    let own = child-own j c.facts.ensures c.args.self.now.region c.args.top.node b up (top-region j c.facts.ensures s c.requires.inside c.args.self.now.frames c.args.top refl)
    (sym c.region_at.ensures.region ∙ c.if-region_at-self.true ∙ ap (λ s. s.region) c.self.view_is) in
    let r = room-below j c.facts.ensures s c.requires.inside c.args.self.now.frames c.args.top refl b up own in
    let l = ap (λ s. length s.frames) c.self.view_is in
    let m = ap (λ s. s.room) c.self.view_is in
    omega (arith, r, l, m, c.self.inside.frames.ok.0, c.push_reserved.ensures.len, c.push_reserved.ensures.capacity)

pub returns-then-region_at-self : goal.returns-then-region_at-self
returns-then-region_at-self c =
    let e = c.self.view_is in
    let j = c.args.job.now in
    let b = c.child-child.result.0 in
    let s = with_top c.args.self.now c.args.top in
    let child : child_at j.flat c.args.top.node c.args.occ ≡ Some b = item-child j.flat c.args.top.node c.args.occ b
    (subst (λ t. item_at t c.args.top.node c.args.occ ≡ Some (Child b)) c.trees.ensures.flat c.child-child.ensures.child) in
    let up = (child-facts j.flat (tree j c.facts.ensures) c.args.top.node c.args.occ b child).parent in
    let own = child-own j c.facts.ensures c.args.self.now.region c.args.top.node b up (top-region j c.facts.ensures s c.requires.inside c.args.self.now.frames c.args.top refl)
    (sym c.region_at.ensures.region ∙ c.if-region_at-self.true ∙ ap (λ s. s.region) e) in
    entered j c.facts.ensures s _ c.args.self.now.frames c.args.top c.requires.inside refl
    (ap (λ s. s.region) e) (ap (λ s. s.put) e) (c.push_reserved-then-region_at-self.ensures.capacity ∙ c.push_reserved.ensures.capacity ∙ ap (λ s. s.room) e)
    c.behind.result c.behind.ensures.node (record { node = b; place = c.start_of-place.result }) c.args.occ c.args.visit
    (c.push_reserved-then-region_at-self.ensures.items ∙ ap (λ l. l ++ record { node = b; place = c.start_of-place.result } ∷ []) (c.push_reserved.ensures.items ∙ ap (λ s. s.frames ++ c.behind.result ∷ []) e))
    (share-visit j c.args.self.now.frames c.args.top c.behind.result c.args.occ c.args.visit c.behind.ensures.node c.behind.ensures.place c.requires.next) child own
    (ap (λ l. segment 0 (drop c.start_of-place.result l)) (sym c.sequence.ensures) ∙ c.start_of-place.ensures.segment ∙ ap (segment (c.args.visit - 1)) c.sequence.ensures)

pub returns-else-region_at-self : goal.returns-else-region_at-self
returns-else-region_at-self c =
    let e = c.self.view_is in
    let j = c.args.job.now in
    let b = c.child-child.result.0 in
    let s = with_top c.args.self.now c.args.top in
    let child : child_at j.flat c.args.top.node c.args.occ ≡ Some b = item-child j.flat c.args.top.node c.args.occ b
    (subst (λ t. item_at t c.args.top.node c.args.occ ≡ Some (Child b)) c.trees.ensures.flat c.child-child.ensures.child) in
    passed j c.facts.ensures s _ c.args.self.now.frames c.args.top c.requires.inside refl
    (ap (λ s. s.region) e) (ap (λ s. s.put) e) (c.push_reserved.ensures.capacity ∙ ap (λ s. s.room) e)
    c.behind.result c.behind.ensures.node (Visit c.args.occ c.args.visit) (c.push_reserved.ensures.items ∙ ap (λ s. s.frames ++ c.behind.result ∷ []) e)
    (share-visit j c.args.self.now.frames c.args.top c.behind.result c.args.occ c.args.visit c.behind.ensures.node c.behind.ensures.place c.requires.next)
    (elsewhere j c.facts.ensures s c.requires.inside c.args.self.now.frames c.args.top refl b c.args.occ c.args.visit child
    (λ same. c.if-region_at-self.false (c.region_at.ensures.region ∙ same ∙ sym (ap (λ s. s.region) e))))
