use Rattle.std.proofs.Common.{◌++◌, ◌∷◌, [], ◌∙◌, ap, refl, option_to_list, flat_map, get_or}
use Rattle.lido_syntax.specs.declared.spec.Element.{Element}
use Rattle.lido_syntax.specs.declared.spec.Element.TheVariants.{Symbol}
use Rattle.lido_symbols.specs.Uses.{element_name}
use Rattle.lido_symbols.proofs.CollectedLemmas.{collected_none, collected_more, collected_behind, filtered_flat}
use Rattle.lido_symbols.proofs.symbol_uses.push_production.Goals as goal

pub loop-element-init : goal.loop-element-init
loop-element-init c = collected_none (λ (e : Element). option_to_list (element_name e)) c.as_slice-element-items.result.now c.push.new.self.items

pub loop-element-preserved : goal.loop-element-preserved
loop-element-preserved c =
    let elements = c.as_slice-element-items.result.now in
    let nothing : Element = Symbol (record { at = 0; id = record { 0 = 0 } }) in
    collected_more (λ (e : Element). option_to_list (element_name e)) elements c.loop-element.element-index (get_or elements c.loop-element.element-index nothing) nothing
    c.push.new.self.items c.loop-element.names.items c.push_element.new.names.items c.loop-element-test.true refl c.loop-element.invariant c.in_ok-push_element.ensures

pub returns : goal.returns
returns c =
    let left = c.args.rule.now.left ∷ [] in
    collected_behind (λ (e : Element). option_to_list (element_name e)) c.as_slice-element-items.result.now c.loop-element.element-index c.args.names.now.items left c.push.new.self.items c.loop-element.names.items
    c.loop-element-test.false c.in_ok-push.ensures.items c.loop-element.invariant
    ∙ ap (λ more. c.args.names.now.items ++ (left ++ more)) (ap (flat_map (λ (e : Element). option_to_list (element_name e))) c.as_slice-element-items.ensures ∙ filtered_flat element_name c.args.rule.now.right)
