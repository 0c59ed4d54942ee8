-- The one word `run` is a command line without a fault.
use Rattle.std.proofs.Common.{◌≡◌, ℕ, zero, suc, Bool, true, false, if◌then◌else◌, List, [], ◌∷◌, Some, None, Ok, refl, arith, inl, take}
use Rattle.lido_base.specs.Phases.{OneOf}
use Rattle.lido_lexer.proofs.BytesLemmas.{unequal}
use Rattle.job_text.specs.declared.command_line.Command.{Command}
use Rattle.job_text.specs.declared.command_line.Command.TheVariants as command
use Rattle.job_text.specs.declared.forms.Verb.TheVariants as verb
use Rattle.job_text.specs.declared.forms.Form.TheVariants as form
use Rattle.job_text.specs.Forms.{verb_of, has_form, number_of, after}
use Rattle.job_text.specs.CommandLine.{fault_in, fault_at, run_words, IsCommand}
use Rattle.lido_top.specs.Words.{SaidOf, BuiltOf, CommandOf}
use Rattle.lido_top.proofs.RowText.{one_word}

abbrev pub said : Command
said = command.Run (run_words one_word)

behind_run : (b : Bool) (index : ℕ) (before : List (List ℕ)) → b ≡ false → fault_in (if b then form.First ∷ [] else after (Some verb.Run) index) before None ≡ None
behind_run true index before absent = absurd (cc)
behind_run false index before absent = refl

right : (k : ℕ) → fault_at one_word k ≡ None
unfolding fault_at verb_of has_form number_of
right zero = refl
right (suc k) = behind_run _ (suc k) (take (suc k) one_word) (unequal (suc k) 0 (λ e. omega (arith, e)))

is_command : IsCommand one_word said
unfolding verb_of
is_command = record { right = right; is = refl }

pub is_said : CommandOf one_word (Ok said)
unfolding CommandOf SaidOf BuiltOf OneOf
is_said = inl (said, is_command, (refl, refl))
