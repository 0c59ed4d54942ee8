use Rattle.std.proofs.Common.{◌≡◌, ◌++◌, ◌∙◌, flat_map}
use Rattle.clash_pairs.specs.Facts.{kinds_of_rule, kinds_of_item}
use Rattle.clash_pairs.proofs.sides.kind_facts.Goals as goal

pub returns : goal.returns
returns c =
    let names = c.args.numbers.now in
    let chains = c.args.chains.now in
    let first : c.push_rules.new.facts.items ≡ flat_map (kinds_of_rule names chains) c.args.spec.now.rules =
    c.in_ok-push_rules.ensures ∙ (λ i. c.new-facts.ensures.items i ++ flat_map (kinds_of_rule names chains) (c.as_slice.ensures i)) in
    c.in_ok-push_items.ensures ∙ (λ i. first i ++ flat_map (kinds_of_item names chains) (c.as_slice-2.ensures i))
