use Rattle.std.proofs.Common.{◌≡◌, ◌⊎◌, ℕ, List, Ok, Err, refl, ap, subst}
use Rattle.lido_base.specs.Phases.{IsThe}
use Rattle.lido_syntax.specs.declared.fault.SpecFault.TheVariants as spec
use Rattle.ptg_patterns.specs.declared.fault.PtgFault.TheVariants as fault
use Rattle.ptg_patterns.specs.Texts.{PatternsFrom}
use Rattle.order_report.specs.declared.status.Status.TheVariants as status
use Rattle.lido_top.specs.Endings.{plainly, no_memory}
use Rattle.lido_top.specs.Verdict.{of_ptg, part, PatternsOf}
use Rattle.lido_top.proofs.Wrapping.{wrapped_ok, wrapped_fault}
use Rattle.lido_top.proofs.parts.patterns_of.Goals as goal

pub returns-in-Ok-clause-gives : goal.returns-in-Ok-clause-gives
unfolding PatternsOf
returns-in-Ok-clause-gives c =
    let texts = c.args.strings.now in
    wrapped_ok of_ptg (PatternsFrom texts (part c.args.bytes.now c.args.sections.ptg)) c.in-Ok.patterns.list
    (subst (λ (l : List ℕ). IsThe (PatternsFrom texts l) (Ok c.in-Ok.patterns.list)) c.part.ensures.is c.in-Ok.ensures.reads)

pub returns-in-Err-PtgSyntax-clause-gives : goal.returns-in-Err-PtgSyntax-clause-gives
unfolding PatternsOf
returns-in-Err-PtgSyntax-clause-gives c =
    let texts = c.args.strings.now in
    let e = c.in-Err-PtgSyntax.field-0 in
    wrapped_fault of_ptg (PatternsFrom texts (part c.args.bytes.now c.args.sections.ptg)) fault.Memory e no_memory (plainly (status.Spec (spec.PtgSyntax c.in-Err-PtgSyntax.at))) refl (ap of_ptg c.in-Err-PtgSyntax.field-0-is)
    (subst (λ (l : List ℕ). (e ≡ fault.Memory) ⊎ IsThe (PatternsFrom texts l) (Err e)) c.part.ensures.is c.in-Err-PtgSyntax.ensures.reads)

pub returns-in-Err-PtgDuplicate-clause-gives : goal.returns-in-Err-PtgDuplicate-clause-gives
unfolding PatternsOf
returns-in-Err-PtgDuplicate-clause-gives c =
    let texts = c.args.strings.now in
    let e = c.in-Err-PtgDuplicate.field-0 in
    wrapped_fault of_ptg (PatternsFrom texts (part c.args.bytes.now c.args.sections.ptg)) fault.Memory e no_memory (plainly (status.Spec (spec.PtgDuplicate c.in-Err-PtgDuplicate.at))) refl (ap of_ptg c.in-Err-PtgDuplicate.field-0-is)
    (subst (λ (l : List ℕ). (e ≡ fault.Memory) ⊎ IsThe (PatternsFrom texts l) (Err e)) c.part.ensures.is c.in-Err-PtgDuplicate.ensures.reads)

pub returns-in-Err-PtgMixed-clause-gives : goal.returns-in-Err-PtgMixed-clause-gives
unfolding PatternsOf
returns-in-Err-PtgMixed-clause-gives c =
    let texts = c.args.strings.now in
    let e = c.in-Err-PtgMixed.field-0 in
    wrapped_fault of_ptg (PatternsFrom texts (part c.args.bytes.now c.args.sections.ptg)) fault.Memory e no_memory (plainly (status.Spec (spec.PtgMixed c.in-Err-PtgMixed.at))) refl (ap of_ptg c.in-Err-PtgMixed.field-0-is)
    (subst (λ (l : List ℕ). (e ≡ fault.Memory) ⊎ IsThe (PatternsFrom texts l) (Err e)) c.part.ensures.is c.in-Err-PtgMixed.ensures.reads)
