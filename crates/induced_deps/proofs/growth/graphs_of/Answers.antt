use Rattle.std.proofs.Common.{◌∙◌, ap, length, ◌∷◌, [], ◌+◌, ◌<◌, subst, List}
use Rattle.std.specs.Prelude.{slice_index_or}
use Rattle.std.proofs.lemmas.List.{length-append}
use Rattle.flat_grammar.specs.declared.flat.FlatRule.{FlatRule}
use Rattle.induced_deps.proofs.GrowthLemmas.{graph_push}
use Rattle.induced_deps.proofs.growth.graphs_of.Goals as goal

pub loop-rule-preserved : goal.loop-rule-preserved
loop-rule-preserved c =
    let l = c.loop-rule in
    rw c.in_ok-push.ensures.items (record {
      count = length-append l.graphs.items (c.in_ok-graph_of.field-0 ∷ []) ∙ ap (λ n. n + 1) l.invariant.count;
      each = graph_push c.args.flat.now.symbols c.args.flat.now.rules l.graphs.items c.in_ok-graph_of.field-0 l.rule-index c.rule-item.result c.rule-item.result l.invariant.count (subst (λ (xs : List FlatRule). l.rule-index < length xs) c.as_slice-rule-items.ensures c.loop-rule-test.true) (c.rule-item.is ∙ ap (λ (xs : List FlatRule). slice_index_or xs l.rule-index c.rule-item.result) c.as_slice-rule-items.ensures) l.invariant.each c.in_ok-graph_of.ensures;
    })
