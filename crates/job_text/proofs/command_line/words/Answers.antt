use Rattle.std.proofs.Common.{map, string_bytes, sym, ◌∙◌}
use Rattle.job_text.specs.declared.forms.Form.TheVariants.{Count, Workers}
use Rattle.job_text.proofs.FaultLemmas.{inside, some_verb}
use Rattle.job_text.proofs.command_line.words.Goals as goal

pub run_words-requires : goal.run_words-requires
run_words-requires c = λ form. inside (map string_bytes c.args.words.now) c.in_default.ensures.none form

pub number_or-requires-clause-inside : goal.number_or-requires-clause-inside
number_or-requires-clause-inside c = inside (map string_bytes c.args.words.now) c.in_default.ensures.none Count

pub number_or-requires-in-Some-Big-clause-inside : goal.number_or-requires-in-Some-Big-clause-inside
number_or-requires-in-Some-Big-clause-inside c = inside (map string_bytes c.args.words.now) c.in_default.ensures.none Workers

pub unreachable-requires : goal.unreachable-requires
unreachable-requires c = some_verb (map string_bytes c.args.words.now) (c.in_default.ensures.none 0) (sym c.first_verb.ensures ∙ c.in-None.is)
