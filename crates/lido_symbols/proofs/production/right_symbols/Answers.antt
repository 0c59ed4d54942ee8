use Rattle.std.proofs.Common.{refl, get_or}
use Rattle.lido_syntax.specs.declared.spec.Element.{Element}
use Rattle.lido_syntax.specs.declared.spec.Element.TheVariants.{Symbol}
use Rattle.lido_syntax.specs.Production.{symbol_of}
use Rattle.lido_symbols.specs.Occurrences.{numbers}
use Rattle.lido_symbols.proofs.CollectedLemmas.{filtered_more}
use Rattle.lido_symbols.proofs.production.right_symbols.Goals as goal

pub loop-element-preserved : goal.loop-element-preserved
loop-element-preserved c =
    let elements = c.as_slice-element-items.result.now in
    let nothing : Element = Symbol (record { at = 0; id = record { 0 = 0 } }) in
    filtered_more symbol_of elements c.loop-element.element-index (get_or elements c.loop-element.element-index nothing) nothing
    (numbers c.loop-element.symbols.items) (numbers c.push_symbol.new.symbols.items) c.loop-element-test.true refl c.loop-element.invariant c.in_ok-push_symbol.ensures
