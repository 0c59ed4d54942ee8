use Rattle.std.proofs.Common.{◌≡◌, ◌++◌, ◌∙◌, flat_map}
use Rattle.symbol_attributes.specs.Named.{named_by_rules, named_by_item}
use Rattle.symbol_attributes.proofs.NamedLemmas.{are-named}
use Rattle.symbol_attributes.proofs.named.named_attributes.Goals as goal

pub returns : goal.returns
returns c =
    let chains = c.args.sets.now.chains in
    let first : c.push_rules.new.found.items ≡ named_by_rules chains c.args.spec.now.rules =
    c.in_ok-push_rules.ensures ∙ (λ i. c.new-found.ensures.items i ++ named_by_rules chains (c.as_slice.ensures i)) in
    are-named c.args.spec.now chains c.requires.sets.chains c.requires.about c.push_items.new.found.items
    (c.in_ok-push_items.ensures ∙ (λ i. first i ++ flat_map (named_by_item chains) (c.as_slice-2.ensures i)))
