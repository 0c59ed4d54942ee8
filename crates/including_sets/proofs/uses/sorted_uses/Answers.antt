use Rattle.std.proofs.Common.{◌≡◌, ◌∙◌, ◌++◌, List, map, flat_map, rules}
use Rattle.std.proofs.lemmas.List.Sorted.{IsNonDecreasingBy-from_sort_by_key}
use Rattle.lido_syntax.specs.declared.spec.RuleItem.{RuleItem as Rule}
use Rattle.lido_syntax.specs.declared.spec.SymbolItem.{SymbolItem as Item}
use Rattle.lido_symbols.proofs.CollectedLemmas.{flat_both}
use Rattle.including_sets.specs.declared.uses.Use.{Use}
use Rattle.including_sets.specs.Uses.{told, uses_of, text_uses}
use Rattle.including_sets.proofs.UseLemmas.{are-uses}
use Rattle.including_sets.proofs.uses.sorted_uses.Goals as goal

pub returns : goal.returns
returns c =
    let spec = c.args.spec.now in
    let of_rules : Rule → List _ = λ r. flat_map uses_of r.body in
    let of_items : Item → List _ = λ item. flat_map uses_of item.body in
    let found = c.push_items.new.found.items in
    let first : map told c.push_rules.new.found.items ≡ flat_map of_rules spec.rules = c.in_ok-push_rules.ensures ∙ (λ i. map told (c.new-found.ensures.items i) ++ flat_map of_rules (c.as_slice.ensures i)) in
    let all : map told found ≡ text_uses spec = c.in_ok-push_items.ensures ∙ (λ i. first i ++ flat_map of_items (c.as_slice-2.ensures i)) ∙ flat_both uses_of (λ (r : Rule). r.body) (λ (item : Item). item.body) spec.rules spec.symbols in
    are-uses spec found c.sort_by_key.new.self.items all c.in_ok-sort_by_key.ensures.permutation
    (IsNonDecreasingBy-from_sort_by_key (λ (u : Use). u.at) _ c.in_ok-sort_by_key.ensures.sorted (λ a r q k. search rules))
