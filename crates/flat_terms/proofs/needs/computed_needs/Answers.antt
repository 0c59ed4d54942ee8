use Rattle.std.specs.Prelude.{Contains}
use Rattle.std.proofs.Common.{List, [], map, ap, sym, subst, ◌≡◌, ◌∙◌}
use Rattle.lido_base.proofs.Lists.{map-contains}
use Rattle.lido_syntax.specs.declared.spec.Expr.{Expr}
use Rattle.lido_syntax.specs.Parts.{leaves_of}
use Rattle.flat_terms.specs.Scene.{needed_by, tail_needs}
use Rattle.flat_terms.proofs.LeafLemmas.{flat-more, all-done, leaf-in}
use Rattle.flat_terms.proofs.needs.computed_needs.Goals as goal

pub loop-part-preserved : goal.loop-part-preserved
loop-part-preserved c = λ scene is named.
    let items = c.deref-part-items.result.now in
    let i = c.loop-part.part-index in
    let part = c.part-item.result in
    let own = named part.now (map-contains (λ e. e.now) items part (i, c.loop-part-test.true, sym c.part-item.is)) in
    flat-more (λ e. needed_by scene (tail_needs scene) c.args.here.now.context e.now) items i part [] c.loop-part.found.items c.push_part.new.found.items c.loop-part-test.true c.part-item.is
    (c.loop-part.invariant scene is named) (c.in_ok-push_part.ensures scene is own.0 own.1)

pub returns : goal.returns
returns c = λ scene is named.
    let items = c.deref-part-items.result.now in
    let comp = c.args.comp.now in
    let all : map (λ e. e.now) items ≡ leaves_of comp = ap (map (λ e. e.now)) c.deref-part-items.ensures.value ∙ c.in_ok-parts.ensures in
    c.loop-part.invariant scene is (λ part m.
    let e = leaf-in comp part (subst (λ (l : List Expr). Contains l part) all m) in
    (named.start.leaves e.0 part e.1 e.2, named.each_tail e.0 part e.1 e.2))
    ∙ all-done (λ e. e.now) (needed_by scene (tail_needs scene) c.args.here.now.context) items c.in_ok-parts.parts.items c.loop-part.part-index (leaves_of comp) c.loop-part-test.false c.deref-part-items.ensures.value c.in_ok-parts.ensures
