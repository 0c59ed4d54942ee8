use Rattle.std.proofs.Common.{map, string_bytes, refl, ap}
use Rattle.job_text.specs.declared.command_line.WordsFault.TheVariants as fault
use Rattle.job_text.specs.CommandLine.{WordsOf}
use Rattle.order_report.specs.declared.status.Status.TheVariants as status
use Rattle.lido_top.specs.Endings.{plainly, no_memory}
use Rattle.lido_top.specs.Words.{of_words, SaidOf}
use Rattle.lido_top.proofs.Wrapping.{wrapped_ok, wrapped_fault}
use Rattle.lido_top.proofs.command.said.Goals as goal

pub returns-in-Ok-clause-gives : goal.returns-in-Ok-clause-gives
unfolding SaidOf
returns-in-Ok-clause-gives c = wrapped_ok of_words (WordsOf (map string_bytes c.args.line.now)) c.in-Ok.command c.in-Ok.ensures

pub returns-in-Err-Words-clause-gives : goal.returns-in-Err-Words-clause-gives
unfolding SaidOf
returns-in-Err-Words-clause-gives c =
    wrapped_fault of_words (WordsOf (map string_bytes c.args.line.now)) fault.Memory c.in-Err-Words.field-0 no_memory (plainly (status.Words c.in-Err-Words.index c.in-Err-Words.kind)) refl
    (ap of_words c.in-Err-Words.field-0-is) c.in-Err-Words.ensures
