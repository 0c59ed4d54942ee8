use Rattle.std.proofs.Common.{refl, nat_eq, arith}
use Rattle.std.specs.HashSet as bag
use Rattle.lido_syntax.specs.declared.spec.Element.{Element}
use Rattle.lido_syntax.specs.declared.spec.Element.TheVariants.{Symbol}
use Rattle.lido_symbols.proofs.CollectedLemmas.{named_more, named_all}
use Rattle.lido_symbols.proofs.production.right_set.Goals as goal

pub loop-element-preserved : goal.loop-element-preserved
loop-element-preserved c x =
    let nothing : Element = Symbol (record { at = 0; id = record { 0 = 0 } }) in
    named_more x c.as_slice-element-items.result.now c.loop-element.element-index _ nothing (bag.contains nat_eq c.loop-element.symbols x) _ c.loop-element-test.true refl (c.loop-element.invariant x) (c.in_ok-add_symbol.ensures x)

pub returns : goal.returns
returns c x = named_all x c.as_slice-element-items.result.now c.args.rule.now.right c.loop-element.element-index (bag.contains nat_eq c.loop-element.symbols x) (omega arith) c.as_slice-element-items.ensures (c.loop-element.invariant x)
