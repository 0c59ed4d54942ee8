use Rattle.std.proofs.Common.{◌∙◌, ap, arith, ◌+◌}
use Rattle.std.proofs.lemmas.List.{length-append}
use Rattle.induced_deps.proofs.VertexLemmas.{goes_on, last_place, offset_most, place_push}
use Rattle.induced_deps.proofs.graph.places_of.Goals as goal

pub overflow_add-offset : goal.overflow_add-offset
overflow_add-offset c =
    let l = c.loop-symbol in
    let next = goes_on c.args.flat.now.symbols c.args.rule.now c.as_slice-symbol-items.result.now l.invariant.same l.symbol-index _ c.loop-symbol-test.true l.offset c.width-width.result l.invariant.offset_is c.width-width.ensures in
    let most = offset_most c.args.flat.now.symbols c.args.rule.now (l.symbol-index + 1) in
    omega (arith, c.requires)

pub loop-symbol-preserved : goal.loop-symbol-preserved
loop-symbol-preserved c =
    let l = c.loop-symbol in
    let symbols = c.args.flat.now.symbols in
    let rule = c.args.rule.now in
    let items = c.as_slice-symbol-items.result.now in
    let last = last_place symbols rule items l.invariant.same l.symbol-index _ c.loop-symbol-test.true l.offset c.width-width.result l.invariant.offset_is c.width-width.ensures in
    rw c.in_ok-push.ensures.items (record {
      same = l.invariant.same;
      count = length-append l.places.items _ ∙ ap (λ n. n + 1) l.invariant.count;
      offset_is = goes_on symbols rule items l.invariant.same l.symbol-index _ c.loop-symbol-test.true l.offset c.width-width.result l.invariant.offset_is c.width-width.ensures;
      each = place_push symbols rule l.places.items _ l.invariant.each l.symbol-index l.invariant.count last;
    })
