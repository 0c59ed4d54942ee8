use Rattle.std.proofs.Common.{refl, ap}
use Rattle.lido_syntax.specs.declared.fault.SpecFault.TheVariants as spec
use Rattle.lido_computations.specs.declared.fault.ReadSpecFault.TheVariants as fault
use Rattle.lido_reader.specs.Specification.{IsReading}
use Rattle.order_report.specs.declared.status.Status.TheVariants as status
use Rattle.lido_top.specs.Endings.{plainly, no_memory}
use Rattle.lido_top.specs.Verdict.{of_read, behind_spec, SyntaxOf}
use Rattle.lido_top.proofs.Wrapping.{wrapped_ok, wrapped_fault}
use Rattle.lido_top.proofs.parts.syntax_of.Goals as goal

pub returns-in-Ok-clause-gives : goal.returns-in-Ok-clause-gives
unfolding SyntaxOf
returns-in-Ok-clause-gives c =
    wrapped_ok of_read (IsReading (behind_spec (c.args.strings.now, c.args.tokens.now)) c.args.tokens.now c.args.size) c.in-Ok.spec (c.in-Ok.ensures.exact c.requires)

pub returns-in-Err-Syntax-clause-gives : goal.returns-in-Err-Syntax-clause-gives
unfolding SyntaxOf
returns-in-Err-Syntax-clause-gives c =
    let e = c.in-Err-Syntax.field-0 in
    wrapped_fault of_read (IsReading (behind_spec (c.args.strings.now, c.args.tokens.now)) c.args.tokens.now c.args.size) fault.Memory e no_memory
    (plainly (status.Spec (spec.Syntax c.in-Err-Syntax.at))) refl (ap of_read c.in-Err-Syntax.field-0-is) (c.in-Err-Syntax.ensures.exact c.requires)
