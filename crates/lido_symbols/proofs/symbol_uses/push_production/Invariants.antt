use Rattle.std.proofs.Common.{◌≡◌, ◌++◌, flat_map, take, option_to_list}
use Rattle.lido_syntax.specs.declared.spec.Element.{Element}
use Rattle.lido_symbols.specs.Uses.{element_name}
use Rattle.lido_symbols.proofs.symbol_uses.push_production.Given as goal

abbrev pub invariant-loop-element : goal.invariant-loop-element
invariant-loop-element l = l.names.items ≡ l.initial.names.items ++ flat_map (λ (e : Element). option_to_list (element_name e)) (take l.element-index l.element-items)
