use Rattle.std.proofs.Common.{◌≡◌, ◌⊎◌, ℕ, List, Ok, Err, string_bytes, refl, ap, subst}
use Rattle.std.proofs.KnownBytes.{Keeps-refl}
use Rattle.lido_base.specs.Phases.{IsThe}
use Rattle.lido_top.specs.Calls.{too_long, source_fails, memory_ends}
use Rattle.lido_top.specs.Endings.{ending, plainly, no_memory}
use Rattle.lido_top.specs.Verdict.{TextOf}
use Rattle.lido_top.proofs.CallLemmas.{refused_words, answered, refused_input, refused_plainly}
use Rattle.lido_top.proofs.call.decide.Goals as goal

pub returns-in-Err-clause-refusal : goal.returns-in-Err-clause-refusal
returns-in-Err-clause-refusal g c =
    refused_plainly _ _ _ _ c.plain.result c.plain.ensures
    (refused_words _ _ _ (plainly c.in-Err.status) c.in-Err.ensures.gives (Keeps-refl (g.S.Source.left c.args.src.now)))

pub returns-in-Err-ReadFault-clause-refusal : goal.returns-in-Err-ReadFault-clause-refusal
returns-in-Err-ReadFault-clause-refusal g c =
    refused_plainly _ _ _ _ c.plain-in-Err-ReadFault.result c.plain-in-Err-ReadFault.ensures
    (source_fails c.in_default.field-0 c.in_default.ensures.gives refl (c.in-Err-ReadFault.ensures.part (ap (λ e. Err e) c.in-Err-ReadFault.field-0-is)) (c.in-Err-ReadFault.ensures.fault (ap (λ e. Err e) c.in-Err-ReadFault.field-0-is)))

pub returns-in-Err-InputTooLong-clause-refusal : goal.returns-in-Err-InputTooLong-clause-refusal
returns-in-Err-InputTooLong-clause-refusal g c =
    refused_plainly _ _ _ _ c.plain-in-Err-InputTooLong.result c.plain-in-Err-InputTooLong.ensures
    (too_long c.in_default.field-0 c.in_default.ensures.gives refl (c.in-Err-InputTooLong.ensures.too_long (ap (λ e. Err e) c.in-Err-InputTooLong.field-0-is)))

pub returns-in-Err-Memory-clause-refusal : goal.returns-in-Err-Memory-clause-refusal
returns-in-Err-Memory-clause-refusal g c =
    refused_plainly _ _ _ _ c.plain-in-Err-Memory.result c.plain-in-Err-Memory.ensures memory_ends

pub returns-in-Ok-text_of-clause-text : goal.returns-in-Ok-text_of-clause-text
returns-in-Ok-text_of-clause-text g c =
    answered _ _ _ c.in_default.field-0 c.in-Ok.bytes.items (Ok (string_bytes c.in-Ok-text_of.text)) c.in_default.ensures.gives c.in-Ok.ensures.all
    (subst (λ (l : List ℕ). IsThe (TextOf l) (Ok (string_bytes c.in-Ok-text_of.text))) c.deref-2.ensures.value c.in-Ok-text_of.ensures.gives)

pub returns-clause-refusal : goal.returns-clause-refusal
returns-clause-refusal g c =
    let e = ending c.text_of.new.strings c.in-Err-text_of.status in
    refused_input _ _ _ c.in_default.field-0 c.in-Ok.bytes.items e c.in_default.ensures.gives c.in-Ok.ensures.all
    (subst (λ (l : List ℕ). (e ≡ no_memory) ⊎ IsThe (TextOf l) (Err e)) c.deref-2.ensures.value c.in-Err-text_of.ensures.gives)
