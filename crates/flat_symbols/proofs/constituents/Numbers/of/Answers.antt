use Rattle.std.proofs.Common.{◌≡◌, ◌∙◌, ◌++◌, ℕ, List, flat_map}
use Rattle.std.proofs.lemmas.List.Filters.{dedup_is}
use Rattle.lido_syntax.specs.declared.spec.RuleItem.{RuleItem as Rule}
use Rattle.lido_syntax.specs.declared.spec.SymbolItem.{SymbolItem as Item}
use Rattle.lido_symbols.specs.Uses.{computations}
use Rattle.lido_symbols.proofs.CollectedLemmas.{flat_both}
use Rattle.flat_symbols.specs.Constituents.{numbers_of}
use Rattle.flat_symbols.proofs.NumberLemmas.{are-numbers}
use Rattle.flat_symbols.proofs.constituents.Numbers.of.Goals as goal

pub returns : goal.returns
returns c =
    let spec = c.args.spec.now in
    let of_rules : Rule → List ℕ = λ r. flat_map numbers_of r.body in
    let of_items : Item → List ℕ = λ item. flat_map numbers_of item.body in
    let found = c.push_items.new.numbers.items in
    let first : c.push_rules.new.numbers.items ≡ flat_map of_rules spec.rules = c.in_ok-push_rules.ensures ∙
    (λ i. c.new-numbers.ensures.items i ++ flat_map of_rules (c.as_slice.ensures i)) in
    let all : found ≡ flat_map numbers_of (computations spec) =
    c.in_ok-push_items.ensures ∙ (λ i. first i ++ flat_map of_items (c.as_slice-2.ensures i)) ∙ flat_both numbers_of (λ (r : Rule). r.body)
    (λ (item : Item). item.body) spec.rules spec.symbols in
    are-numbers spec found c.sort_unstable.new.self.items c.dedup.new.self.items (record { list = c.from_vec.result })
    all c.sort_unstable.ensures.permutation c.sort_unstable.ensures.sorted (dedup_is _ _ _ c.dedup.ensures.filtered) c.from_vec.ensures
