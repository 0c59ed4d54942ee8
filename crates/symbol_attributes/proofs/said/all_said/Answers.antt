use Rattle.std.proofs.Common.{◌≡◌, ◌++◌, ◌∙◌, List, append_assoc, flat_map, map}
use Rattle.symbol_attributes.specs.declared.facts.Said.{Said}
use Rattle.symbol_attributes.specs.Said.{said_of_named, said_by_decls, told_by_item, told_by_rule}
use Rattle.symbol_attributes.proofs.SaidLemmas.{are-said}
use Rattle.symbol_attributes.proofs.said.all_said.Goals as goal

pub returns : goal.returns
returns c =
    let spec = c.args.spec.now in
    let chains = c.args.sets.now.chains in
    let named : List Said = map said_of_named c.args.named.now in
    let declared : List Said = flat_map said_by_decls spec.symbols in
    let told : List Said = flat_map (told_by_item chains) spec.symbols in
    let sides : List Said = flat_map (told_by_rule chains) spec.rules in
    let first : c.push_named.new.list.items ≡ named = c.in_ok-push_named.ensures ∙ (λ i. c.new-list.ensures.items i ++ named) in
    let second : c.push_declared.new.list.items ≡ named ++ declared = c.in_ok-push_declared.ensures ∙ (λ i. first i ++ flat_map said_by_decls (c.as_slice.ensures i)) in
    let third : c.push_items.new.list.items ≡ (named ++ declared) ++ told = c.in_ok-push_items.ensures ∙ (λ i. second i ++ flat_map (told_by_item chains) (c.as_slice-2.ensures i)) in
    let last : c.push_rules.new.list.items ≡ ((named ++ declared) ++ told) ++ sides = c.in_ok-push_rules.ensures ∙ (λ i. third i ++ flat_map (told_by_rule chains) (c.as_slice-3.ensures i)) in
    are-said spec chains c.requires.sets.chains c.args.named.now c.requires.named c.push_rules.new.list.items
    (last ∙ append_assoc (named ++ declared) told sides ∙ append_assoc named declared (told ++ sides))
