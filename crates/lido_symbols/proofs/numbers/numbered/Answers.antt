use Rattle.std.proofs.Common.{rules, map, subst, sym, nat_eq}
use Rattle.lido_syntax.specs.declared.spec.Name.{Name as Named}
use Rattle.std.specs.List.Sorted.{IsNonDecreasingBy}
use Rattle.std.proofs.lemmas.List.Sorted.{IsNonDecreasingBy-from_sort_by_key}
use Rattle.std.proofs.lemmas.Result.{IfOk-weaker}
use Rattle.lido_symbols.specs.Numbers.{AreNumbered}
use Rattle.lido_symbols.specs.Uses.{with_place}
use Rattle.lido_symbols.proofs.NumbersLemmas.{TellNames, told_permuted, numbered_permuted}
use Rattle.lido_symbols.proofs.numbers.numbered.Goals as goal

pub in_order-requires-clause-told : goal.in_order-requires-clause-told
in_order-requires-clause-told c = subst TellNames (sym c.deref.ensures.value) (told_permuted c.args.uses.items c.sort_by_key.new.self.items c.in_ok-sort_by_key.ensures.permutation c.requires)

pub in_order-requires-clause-sorted : goal.in_order-requires-clause-sorted
in_order-requires-clause-sorted c = subst (IsNonDecreasingBy (λ (x : Named). x.at)) (sym c.deref.ensures.value) (IsNonDecreasingBy-from_sort_by_key (λ (x : Named). x.at) _ c.in_ok-sort_by_key.ensures.sorted (λ a r q k. search rules))

pub returns : goal.returns
returns c = IfOk-weaker c.in_order.result _ _ (λ keys h. numbered_permuted c.args.uses.items c.sort_by_key.new.self.items keys c.in_ok-sort_by_key.ensures.permutation (subst (λ l. AreNumbered nat_eq (map with_place l) keys) c.deref.ensures.value h)) c.in_order.ensures
