use Rattle.core_machine.specs.declared.notes.Entry.{Entry}
use Rattle.std.proofs.Common.{rules}
use Rattle.std.proofs.lemmas.List.Sorted.{IsNonDecreasingBy-from_sort_by_key, IsPermutation-sym}
use Rattle.core_machine.proofs.NoteLemmas.{all-entries, message-inside, stable-from}
use Rattle.core_machine.proofs.notes.by_written.Goals as goal

pub returns : goal.returns
returns c =
    let old = c.args.entries.items in
    let new = c.sort_by_key.new.self.items in
    all-entries c.args.job.now c.args.values.now old new c.requires (message-inside c.args.job.now c.facts.ensures c.args.values.now)
    c.in_ok-sort_by_key.ensures.permutation (IsPermutation-sym old new c.in_ok-sort_by_key.ensures.permutation)
    (IsNonDecreasingBy-from_sort_by_key (λ (e : Entry). e.written) _ c.in_ok-sort_by_key.ensures.sorted (λ a r q k. search rules))
    (stable-from (λ (e : Entry). e.written) old new c.in_ok-sort_by_key.ensures.stable (λ a r q k. search rules))
