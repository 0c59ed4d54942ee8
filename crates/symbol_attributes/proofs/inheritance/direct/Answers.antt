use Rattle.std.specs.Prelude.{slice_get}
use Rattle.std.proofs.Common.{◌≡◌, ◌∙◌, Some, refl, arith}
use Rattle.std.proofs.lemmas.Option.{slice_get_read}
use Rattle.lido_base.proofs.Lists.{place-contains}
use Rattle.std.proofs.Common.{inl}
use Rattle.symbol_attributes.proofs.RowsLemmas.{direct-none, direct-next, direct-all}
use Rattle.symbol_attributes.proofs.InheritanceLemmas.{numbers-below}
use Rattle.symbol_attributes.proofs.inheritance.direct.Goals as goal

pub loop-item-init : goal.loop-item-init
loop-item-init c = record {
  count = c.in_ok-graph.ensures.count ∙ c.len.ensures;
  edges = direct-none c.in_ok-graph.graph.items c.args.numbers.now c.args.items.now c.in_ok-graph.ensures.edges;
}

pub add_item-requires : goal.add_item-requires
add_item-requires c = λ y m.
    let at : slice_get c.args.items.now c.loop-item.item-index ≡ Some c.item-item.result = slice_get_read _ _ _ _ refl c.loop-item-test.true c.item-item.is in
    let l = numbers-below c.args.numbers.now c.item-item.result.names (λ x k. c.requires c.item-item.result x (place-contains c.args.items.now c.loop-item.item-index c.item-item.result at) (inl k)) y m in
    omega (arith, l, c.loop-item.invariant.count)

pub loop-item-preserved : goal.loop-item-preserved
loop-item-preserved c = record {
  count = c.in_ok-add_item.ensures.count ∙ c.loop-item.invariant.count;
  edges = direct-next c.loop-item.graph.items c.add_item.new.graph.items c.args.numbers.now c.args.items.now c.loop-item.item-index c.item-item.result
      (slice_get_read _ _ _ _ refl c.loop-item-test.true c.item-item.is) c.loop-item.invariant.edges c.in_ok-add_item.ensures.edges;
}

pub returns-clause-edges : goal.returns-clause-edges
returns-clause-edges c = direct-all c.loop-item.graph.items c.args.numbers.now c.args.items.now c.loop-item.item-index c.loop-item-test.false c.loop-item.invariant.edges
