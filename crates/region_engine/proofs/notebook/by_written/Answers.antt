use Rattle.region_engine.specs.declared.notebook.Message.{Message}
use Rattle.std.proofs.Common.{rules}
use Rattle.std.proofs.lemmas.List.Sorted.{IsNonDecreasingBy-from_sort_by_key, IsPermutation-sym}
use Rattle.region_engine.proofs.Messages.{sorted-messages, stable-from}
use Rattle.region_engine.proofs.notebook.by_written.Goals as goal

pub returns : goal.returns
returns c =
    let old = c.args.list.items in
    let new = c.sort_by_key.new.self.items in
    sorted-messages c.args.job.now c.facts.ensures old new c.requires c.in_ok-sort_by_key.ensures.permutation
    (IsPermutation-sym old new c.in_ok-sort_by_key.ensures.permutation)
    (IsNonDecreasingBy-from_sort_by_key (λ (m : Message). m.written) _ c.in_ok-sort_by_key.ensures.sorted (λ a r q k. search rules))
    (stable-from (λ (m : Message). m.written) old new c.in_ok-sort_by_key.ensures.stable (λ a r q k. search rules))
