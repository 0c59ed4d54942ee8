use Rattle.std.proofs.Common.{◌≡◌, ◌⊎◌, ℕ, List, Ok, Err, refl, ap, subst}
use Rattle.lido_base.specs.Phases.{IsThe}
use Rattle.lido_syntax.specs.declared.fault.SpecFault.TheVariants as spec
use Rattle.lido_lexer.specs.declared.token.LexFault.TheVariants as fault
use Rattle.lido_lexer.specs.Tables.{LexedFrom}
use Rattle.lido_reader.proofs.AddedLemmas.{has_all_gained}
use Rattle.order_report.specs.declared.status.Status.TheVariants as status
use Rattle.lido_top.specs.Endings.{plainly, no_memory}
use Rattle.lido_top.specs.Verdict.{of_lex, part, TokensOf}
use Rattle.lido_top.proofs.Wrapping.{wrapped_ok, wrapped_fault}
use Rattle.lido_top.proofs.parts.tokens_of.Goals as goal

pub returns-in-Ok-clause-gives : goal.returns-in-Ok-clause-gives
unfolding TokensOf
returns-in-Ok-clause-gives c =
    let texts = c.args.strings.now in
    wrapped_ok of_lex (LexedFrom texts (part c.args.bytes.now c.args.sections.spec)) (c.lex.new.strings, c.in-Ok.tokens.items)
    (subst (λ (l : List ℕ). IsThe (LexedFrom texts l) (Ok (c.lex.new.strings, c.in-Ok.tokens.items))) c.part.ensures.is c.in-Ok.ensures.reads)

pub returns-in-Err-Lexical-clause-gives : goal.returns-in-Err-Lexical-clause-gives
unfolding TokensOf
returns-in-Err-Lexical-clause-gives c =
    let texts = c.args.strings.now in
    let e = c.in-Err-Lexical.field-0 in
    wrapped_fault of_lex (LexedFrom texts (part c.args.bytes.now c.args.sections.spec)) fault.Memory e no_memory (plainly (status.Spec (spec.Lexical c.in-Err-Lexical.at))) refl (ap of_lex c.in-Err-Lexical.field-0-is)
    (subst (λ (l : List ℕ). (e ≡ fault.Memory) ⊎ IsThe (LexedFrom texts l) (Err e)) c.part.ensures.is c.in-Err-Lexical.ensures.reads)

pub returns-in-Ok-clause-there : goal.returns-in-Ok-clause-there
returns-in-Ok-clause-there c = λ h. has_all_gained c.lex.ensures.kept h

pub returns-in-Err-Lexical-clause-there : goal.returns-in-Err-Lexical-clause-there
returns-in-Err-Lexical-clause-there c = λ h. has_all_gained c.lex.ensures.kept h

pub returns-in-Err-Memory-clause-there : goal.returns-in-Err-Memory-clause-there
returns-in-Err-Memory-clause-there c = λ h. has_all_gained c.lex.ensures.kept h
