use Rattle.std.proofs.Common.{◌∙◌, ap, arith, length, get_or}
use Rattle.flat_grammar.specs.declared.flat.FlatComp.{FlatComp}
use Rattle.flat_grammar.specs.Expressions.{weight}
use Rattle.core_machine.proofs.SizeLemmas.{each-more, each-all, lighter, IsLight}
use Rattle.region_engine.proofs.sizes.greatest_weight.Goals as goal

pub loop-comp-preserved : goal.loop-comp-preserved
loop-comp-preserved c =
    let n = ap length c.as_slice-comp-items.ensures in
    record {
      all = each-more (IsLight c.greater-most.result) c.args.rule.now.comps c.loop-comp.comp-index c.comp-item.result
          (lighter (λ (x : FlatComp). weight x.value) c.args.rule.now.comps c.loop-comp.comp-index c.loop-comp.most c.greater-most.result c.loop-comp.invariant.all c.greater-most.ensures.first)
          (omega (arith, n, c.loop-comp-test.true)) (c.comp-item.is ∙ ap (λ l. get_or l c.loop-comp.comp-index c.comp-item.result) c.as_slice-comp-items.ensures) (omega (arith, c.in_ok-weight_of.ensures, c.greater-most.ensures.second));
      least = omega (arith, c.loop-comp.invariant.least, c.greater-most.ensures.first);
    }

pub returns-clause-all : goal.returns-clause-all
returns-clause-all c =
    let n = ap length c.as_slice-comp-items.ensures in
    each-all (IsLight c.loop-comp.most) c.args.rule.now.comps c.loop-comp.comp-index c.loop-comp.invariant.all (omega (arith, n, c.loop-comp-test.false))
