use Rattle.std.proofs.Common.{[], ◌∙◌, ap, flat_map, option_to_list}
use Rattle.lido_syntax.specs.declared.spec.Comp.{Comp}
use Rattle.lido_symbols.proofs.CollectedLemmas.{collected_all}
use Rattle.table_faults.specs.Doubles.{computed_in_rule}
use Rattle.table_faults.proofs.doubles.of_rule.Goals as goal

pub returns : goal.returns
returns c =
    collected_all (λ (x : Comp). option_to_list (computed_in_rule c.args.chains.now c.args.rule.now x)) c.as_slice-comp-items.result.now c.loop-comp.comp-index [] c.loop-comp.all.items c.loop-comp-test.false c.loop-comp.invariant
    ∙ ap (flat_map (λ (x : Comp). option_to_list (computed_in_rule c.args.chains.now c.args.rule.now x))) c.as_slice-comp-items.ensures
