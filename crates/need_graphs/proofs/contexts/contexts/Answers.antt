use Rattle.std.proofs.Common.{ℕ, [], ap, ◌∙◌}
use Rattle.flat_grammar.specs.declared.flat.FlatRule.{FlatRule}
use Rattle.need_graphs.specs.Users.{entries_at}
use Rattle.need_graphs.specs.Contexts.{rule_contexts}
use Rattle.need_graphs.proofs.ListLemmas.{numbered-more}
use Rattle.need_graphs.proofs.contexts.contexts.Goals as goal

pub loop-k-preserved : goal.loop-k-preserved
loop-k-preserved c =
    let rule = c.index-plain-k.result in
    let its = rule_contexts c.args.numbers.now in
    let k = c.loop-k.k in
    numbered-more (λ (x : ℕ × FlatRule). its x.1 (entries_at c.args.comps.now x.0)) c.args.plain.now k rule [] c.loop-k.found.items c.note_contexts.new.found.items (its rule c.forces_at.result.now)
    c.loop-k-test.true c.loop-k.invariant c.in_ok-note_contexts.ensures (ap (its rule) c.forces_at.ensures ∙ ap (λ (r : FlatRule). its r (entries_at c.args.comps.now k)) c.index-plain-k.is)
