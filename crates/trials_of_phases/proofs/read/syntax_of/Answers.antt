use Rattle.std.proofs.Common.{sym, subst}
use Rattle.rule_tables.specs.RuleNames.{HasIds}
use Rattle.read_texts.proofs.IdLemmas.{all_is_read}
use Rattle.trials_of_phases.proofs.read.syntax_of.Goals as goal

pub returns-in-Ok-clause-text : goal.returns-in-Ok-clause-text
returns-in-Ok-clause-text c =
    (all_is_read c.args.strings.now c.args.tokens.now c.args.size c.in-Ok.spec c.requires.in_order c.ranges.size.fits c.requires.ids (c.in-Ok.ensures.exact c.requires.there).is).0

pub returns-in-Ok-clause-ids : goal.returns-in-Ok-clause-ids
returns-in-Ok-clause-ids c = subst (λ texts. HasIds texts c.in-Ok.spec) (sym (c.in-Ok.ensures.table c.requires.there))
    (all_is_read c.args.strings.now c.args.tokens.now c.args.size c.in-Ok.spec c.requires.in_order c.ranges.size.fits c.requires.ids (c.in-Ok.ensures.exact c.requires.there).is).1
