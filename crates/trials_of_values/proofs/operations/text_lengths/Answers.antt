use Rattle.std.proofs.Common.{◌≡◌, ◌+◌, ◌^◌, List, ◌++◌, ℕ, length, ap, ◌∙◌, length-append}
use Rattle.std.proofs.lemmas.List.{append-nil}
use Rattle.std.specs.Prelude.{if◌then◌else◌, nat_le}
use Rattle.lido_base.specs.Operations.{operate, text}
use Rattle.lido_base.specs.Plain.{Text}
use Rattle.lido_base.specs.declared.value.BadKind.TheVariants.{TextTooLong}
use Rattle.trials_of_values.specs.Samples.{fails}
use Rattle.trials_of_values.proofs.operations.text_lengths.Goals as goal

longest : (bytes : List ℕ) → length bytes ≡ 2 ^ 30 → text fails bytes ≡ Text bytes
longest bytes h = ap (λ n. if nat_le n (2 ^ 30) then Text bytes else fails TextTooLong) h

one_more : (bytes : List ℕ) → length bytes ≡ 2 ^ 30 + 1 → text fails bytes ≡ fails TextTooLong
one_more bytes h = ap (λ n. if nat_le n (2 ^ 30) then Text bytes else fails TextTooLong) h

pub returns-clause-longest : goal.returns-clause-longest
unfolding operate
returns-clause-longest c = longest

pub returns-clause-one_more : goal.returns-clause-one_more
unfolding operate
returns-clause-one_more c = one_more

pub returns-clause-in_a_row : goal.returns-clause-in_a_row
unfolding operate
returns-clause-in_a_row c = λ front back h. longest (front ++ back) (length-append front back ∙ h)

pub returns-clause-one_more_in_a_row : goal.returns-clause-one_more_in_a_row
unfolding operate
returns-clause-one_more_in_a_row c = λ front back h. one_more (front ++ back) (length-append front back ∙ h)

pub returns-clause-of_a_pattern : goal.returns-clause-of_a_pattern
unfolding operate
returns-clause-of_a_pattern c = λ bytes h. ap (text fails) (append-nil bytes) ∙ longest bytes h

pub returns-clause-one_more_of_a_pattern : goal.returns-clause-one_more_of_a_pattern
unfolding operate
returns-clause-one_more_of_a_pattern c = λ bytes h. ap (text fails) (append-nil bytes) ∙ one_more bytes h
