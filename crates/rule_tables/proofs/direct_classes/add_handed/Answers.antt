use Rattle.std.proofs.Common.{sym, ◌∙◌}
use Rattle.rule_tables.proofs.ClassLemmas.{more-handed}
use Rattle.rule_tables.proofs.direct_classes.add_handed.Goals as goal

pub returns : goal.returns
returns c = more-handed c.args.symbol.0 c.args.item.now c.as_slice.result.now (c.as_slice.ensures ∙ c.requires) (sym c.is_about.ensures ∙ c.if-not-is_about.false) c.in_ok-add_all.ensures
