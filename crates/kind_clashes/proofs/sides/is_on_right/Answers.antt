use Rattle.std.proofs.Common.{sym, ◌∙◌}
use Rattle.kind_clashes.proofs.SidesLemmas.{on_right}
use Rattle.kind_clashes.proofs.sides.is_on_right.Goals as goal

pub returns-then-rule-name : goal.returns-then-rule-name
returns-then-rule-name c = on_right c.args.rule.now c.args.name c.args.index (sym (c.occurrence.ensures c.args.rule.now c.requires) ∙ c.in-None.is) c.if-rule-name.true c.has.result (c.has.ensures c.args.rule.now c.requires)
