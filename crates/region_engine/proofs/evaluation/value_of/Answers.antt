use Rattle.std.proofs.Common.{◌∙◌, ap, get_or}
use Rattle.std.specs.Prelude.{slice_get, unwrap_or}
use Rattle.core_machine.proofs.EvaluationLemmas.{number-at, outcome-is}
use Rattle.region_engine.specs.Kept.{stored}
use Rattle.region_engine.proofs.evaluation.value_of.Goals as goal

pub returns-clause-exact : goal.returns-clause-exact
returns-clause-exact c =
    let here = c.args.here.now in
    let j = here.job.now in let v = here.values.now in
    outcome-is j c.args.bench.now.room.number here.node here.origin (get_or c.as_slice.result.now here.origin 0) (stored j v.region v.own.items v.shared.items) c.args.bench.now.room.deposits c.args.rule.now c.args.comp.now
    c.strings.result.now c.patterns.result.now.list (c.evaluate-value.result, c.evaluate-value.new.room.deposits) c.attribute_of.result c.kept.result
    c.strings.ensures c.patterns.ensures c.requires.origin
    (number-at c.as_slice.result.now here.origin ∙ ap (λ l. unwrap_or (slice_get l here.origin) 0) (c.as_slice.ensures ∙ c.trees.ensures.nodes))
    c.evaluate-value.ensures.exact c.attribute_of.ensures c.kept.ensures
