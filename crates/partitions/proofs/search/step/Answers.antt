use Rattle.std.proofs.Common.{◌≡◌, ℕ, ◌∙◌, List, Some, get_or, length, sym, ap, subst, arith}
use Rattle.std.specs.Prelude.{slice_get, true, false}
use Rattle.std.proofs.lemmas.Option.{slice_get-get_or}
use Rattle.flat_grammar.proofs.Lists.{held}
use Rattle.partitions.specs.declared.search.Mark.{Mark}
use Rattle.partitions.specs.Search.{IsClosed, IsBack}
use Rattle.partitions.proofs.PeelingLemmas.{below-length}
use Rattle.partitions.proofs.SearchLemmas.{step-below, row-at, row-edge, edge-row, is-back, last-edge, mark-entered}
use Rattle.partitions.proofs.search.step.Goals as goal

pub offset_bounds-preds-v : goal.offset_bounds-preds-v
offset_bounds-preds-v c = omega (arith, step-below c.args.preds.now c.args.search.now.marks.items c.args.search.now.tried.items c.args.search.now.path.items c.args.search.now.count c.requires.search c.args.v c.requires.last c.requires.some, c.requires.small)

pub bounds-preds-v : goal.bounds-preds-v
bounds-preds-v c = step-below c.args.preds.now c.args.search.now.marks.items c.args.search.now.tried.items c.args.search.now.path.items c.args.search.now.count c.requires.search c.args.v c.requires.last c.requires.some

pub index-requires : goal.index-requires
index-requires c = omega (
  arith,
  step-below c.args.preds.now c.args.search.now.marks.items c.args.search.now.tried.items c.args.search.now.path.items c.args.search.now.count c.requires.search c.args.v c.requires.last c.requires.some,
  c.requires.search.tried_count,
  c.args.search.now.tried.ok.0,
)

pub next_open-place-requires-clause-vertices : goal.next_open-place-requires-clause-vertices
next_open-place-requires-clause-vertices c = λ j u at.
    let search = c.args.search.now in
    let below = step-below c.args.preds.now search.marks.items search.tried.items search.path.items search.count c.requires.search c.args.v c.requires.last c.requires.some in
    let row = row-at c.args.preds.now c.args.v c.index-preds-v.result c.as_slice-row.result.now below c.index-preds-v.is c.as_slice-row.ensures in
    let edge = row-edge c.args.preds.now search.marks.items search.tried.items search.path.items search.count c.requires.search c.args.v c.requires.last c.requires.some c.as_slice-row.result.now row j u at in
    omega (arith, c.requires.graph u c.args.v edge, c.requires.search.marks_count, ap (λ (xs : List Mark). length xs) c.deref.ensures.value)

pub next_open-place-requires-clause-before : goal.next_open-place-requires-clause-before
next_open-place-requires-clause-before c = λ j u l at.
    let search = c.args.search.now in
    let below = step-below c.args.preds.now search.marks.items search.tried.items search.path.items search.count c.requires.search c.args.v c.requires.last c.requires.some in
    let row = row-at c.args.preds.now c.args.v c.index-preds-v.result c.as_slice-row.result.now below c.index-preds-v.is c.as_slice-row.ensures in
    let tried : slice_get search.tried.items c.args.v ≡ Some c.index.result.now = slice_get-get_or search.tried.items c.args.v c.index.result.now (omega (arith, below, c.requires.search.tried_count)) ∙ ap Some (sym c.index.ensures) in
    subst (λ (xs : List Mark). IsClosed xs u) (sym c.deref.ensures.value) (c.requires.search.before c.args.v c.index.result.now j u c.as_slice-row.result.now tried row l at)

pub remember-requires-clause-vertex : goal.remember-requires-clause-vertex
remember-requires-clause-vertex c = step-below c.args.preds.now c.args.search.now.marks.items c.args.search.now.tried.items c.args.search.now.path.items c.args.search.now.count c.requires.search c.args.v c.requires.last c.requires.some

pub remember-requires-clause-closed : goal.remember-requires-clause-closed
remember-requires-clause-closed c = λ j u other at l g.
    let search = c.args.search.now in
    let below = step-below c.args.preds.now search.marks.items search.tried.items search.path.items search.count c.requires.search c.args.v c.requires.last c.requires.some in
    let row = row-at c.args.preds.now c.args.v c.index-preds-v.result c.as_slice-row.result.now below c.index-preds-v.is c.as_slice-row.ensures in
    subst (λ (xs : List Mark). IsClosed xs u) c.deref.ensures.value (c.next_open-place.ensures.closed j u l (subst (λ (r : List ℕ). slice_get r j ≡ Some u) (held (sym at ∙ row)) g))

pub close-requires-clause-closed : goal.close-requires-clause-closed
close-requires-clause-closed c = λ u edge.
    let search = c.args.search.now in
    let below = step-below c.args.preds.now search.marks.items search.tried.items search.path.items search.count c.requires.search c.args.v c.requires.last c.requires.some in
    let row = row-at c.args.preds.now c.args.v c.index-preds-v.result c.as_slice-row.result.now below c.index-preds-v.is c.as_slice-row.ensures in
    let at = edge-row c.args.preds.now search.marks.items search.tried.items search.path.items search.count c.requires.search c.args.v c.requires.last c.requires.some c.as_slice-row.result.now row u edge in
    subst (λ (xs : List Mark). IsClosed xs u) (c.deref.ensures.value ∙ sym c.remember.ensures.marks)
    (c.next_open-place.ensures.closed at.0 u (let l = below-length c.as_slice-row.result.now at.0 u at.1 in omega arith) at.1)

pub is_fresh-requires : goal.is_fresh-requires
is_fresh-requires c =
    let search = c.args.search.now in
    let u = get_or c.as_slice-row.result.now c.next_open-place.result 0 in
    let below = step-below c.args.preds.now search.marks.items search.tried.items search.path.items search.count c.requires.search c.args.v c.requires.last c.requires.some in
    let row = row-at c.args.preds.now c.args.v c.index-preds-v.result c.as_slice-row.result.now below c.index-preds-v.is c.as_slice-row.ensures in
    let at = slice_get-get_or c.as_slice-row.result.now c.next_open-place.result 0 c.if-place-row.false in
    let edge = row-edge c.args.preds.now search.marks.items search.tried.items search.path.items search.count c.requires.search c.args.v c.requires.last c.requires.some c.as_slice-row.result.now row c.next_open-place.result u at in
    omega (arith, c.requires.graph u c.args.v edge, c.requires.search.marks_count, ap (λ (xs : List Mark). length xs) (c.deref-2.ensures.value ∙ c.remember.ensures.marks))

pub returns-then-not-is_fresh-clause-back : goal.returns-then-not-is_fresh-clause-back
returns-then-not-is_fresh-clause-back c =
    let search = c.args.search.now in
    let u = get_or c.as_slice-row.result.now c.next_open-place.result 0 in
    let below = step-below c.args.preds.now search.marks.items search.tried.items search.path.items search.count c.requires.search c.args.v c.requires.last c.requires.some in
    let row = row-at c.args.preds.now c.args.v c.index-preds-v.result c.as_slice-row.result.now below c.index-preds-v.is c.as_slice-row.ensures in
    let at = slice_get-get_or c.as_slice-row.result.now c.next_open-place.result 0 c.if-place-row.false in
    let edge = row-edge c.args.preds.now search.marks.items search.tried.items search.path.items search.count c.requires.search c.args.v c.requires.last c.requires.some c.as_slice-row.result.now row c.next_open-place.result u at in
    let entered = mark-entered search.marks.items u (omega (arith, c.requires.graph u c.args.v edge, c.requires.search.marks_count))
    (λ closed. c.next_open-place.ensures.unclosed u at (subst (λ (xs : List Mark). IsClosed xs u) (sym c.deref.ensures.value) closed))
    (λ fresh. let yes = c.is_fresh.ensures.1 (ap (λ (xs : List Mark). slice_get xs u) (c.deref-2.ensures.value ∙ c.remember.ensures.marks) ∙ fresh) in let e : true ≡ false = sym yes ∙ c.if-not-is_fresh.true in absurd (cc)) in
    subst (λ (p : List ℕ). IsBack c.args.preds.now p u) (sym c.remember.ensures.path)
    (is-back c.args.preds.now search.marks.items search.tried.items search.path.items search.count c.requires.search c.args.v c.requires.last c.requires.some c.as_slice-row.result.now row u entered edge)

pub enter-requires-clause-edge : goal.enter-requires-clause-edge
enter-requires-clause-edge c = λ j w e at_j.
    let search = c.args.search.now in
    let u = get_or c.as_slice-row.result.now c.next_open-place.result 0 in
    let below = step-below c.args.preds.now search.marks.items search.tried.items search.path.items search.count c.requires.search c.args.v c.requires.last c.requires.some in
    let row = row-at c.args.preds.now c.args.v c.index-preds-v.result c.as_slice-row.result.now below c.index-preds-v.is c.as_slice-row.ensures in
    let at = slice_get-get_or c.as_slice-row.result.now c.next_open-place.result 0 c.if-place-row.false in
    let edge = row-edge c.args.preds.now search.marks.items search.tried.items search.path.items search.count c.requires.search c.args.v c.requires.last c.requires.some c.as_slice-row.result.now row c.next_open-place.result u at in
    last-edge c.args.preds.now search.marks.items search.tried.items search.path.items search.count c.requires.search c.args.v c.requires.last c.requires.some c.as_slice-row.result.now row u j w edge
    (e ∙ ap (λ (p : List ℕ). length p) c.remember.ensures.path) (ap (λ (p : List ℕ). slice_get p j) (sym c.remember.ensures.path) ∙ at_j)
