use Rattle.std.proofs.Common.{sym, ◌∙◌}
use Rattle.clash_pairs.proofs.SidesLemmas.{by-sides}
use Rattle.clash_pairs.proofs.sides.side.Goals as goal

pub returns-in-None : goal.returns-in-None
returns-in-None c = c.only_side.ensures ∙ by-sides c.args.rule.now c.args.name c.args.index c.is_right.result (sym (c.occurrence.ensures c.args.rule.now c.requires) ∙ c.in-None.is) (c.is_right.ensures c.args.rule.now c.requires)
