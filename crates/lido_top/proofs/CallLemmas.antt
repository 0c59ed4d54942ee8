-- What a call decides.
use Rattle.std.proofs.Common.{◌≡◌, ◌⊎◌, ℕ, List, [], Some, Result, Ok, Err, refl, ap, sym, subst, inl, inr, ◌∙◌}
use Rattle.lido_base.specs.Phases.{IsThe}
use Rattle.job_text.specs.declared.command_line.Command.{Command}
use Rattle.lido_top.specs.Answers.{Seen, answer_of, refusal}
use Rattle.lido_top.specs.Calls.{words_fail, answers, memory_ends}
use Rattle.order_report.specs.declared.status.Status.{Status}
use Rattle.lido_top.specs.declared.call.Refusal.{Refusal}
use Rattle.lido_top.specs.Endings.{Ending, ending, plainly, no_memory}
use Rattle.lido_top.specs.Words.{CommandOf}
use Rattle.lido_top.specs.Verdict.{Decides, TextOf}
use Rattle.std.specs.Io.KnownBytes.{Keeps}
use Rattle.lido_base.specs.Inputs.{TakesAll}

module _ (words : List (List ℕ)) (src src' : Seen) where
  -- want of memory, or what the words call for
  pub refused_words : (e : Ending) → (e ≡ no_memory) ⊎ IsThe (CommandOf words) (Err e) → Keeps src.bytes src'.bytes → Decides words src src' (refusal e)
  refused_words e (inl none) kept = subst (λ (x : Ending). Decides words src src' (refusal x)) (sym none) memory_ends
  refused_words e (inr the) kept = words_fail the kept

  -- the text of the input, or its first refusal
  pub answered : (c : Command) (bytes : List ℕ) (r : Result (List ℕ) Ending) → IsThe (CommandOf words) (Ok c) → TakesAll src.bytes src'.bytes bytes → IsThe (TextOf bytes) r
      → Decides words src src' (answer_of r)
  answered c bytes r said taken the =
      answers c (Some bytes) said taken (record { is = (r, the.is, refl); others = λ other given. given.2 ∙ ap answer_of (the.only given.0 given.1) })

  -- want of memory, or the first refusal that stands in the input
  pub refused_input : (c : Command) (bytes : List ℕ) (e : Ending) → IsThe (CommandOf words) (Ok c) → TakesAll src.bytes src'.bytes bytes → (e ≡ no_memory) ⊎ IsThe (TextOf bytes) (Err e)
      → Decides words src src' (refusal e)
  refused_input c bytes e said taken (inl none) = subst (λ (x : Ending). Decides words src src' (refusal x)) (sym none) memory_ends
  refused_input c bytes e said taken (inr the) = answered c bytes (Err e) said taken the

  -- a refusal without a name
  pub refused_plainly : (s : Status) (r : Refusal) → r ≡ record { status = s; texts = [] } → Decides words src src' (refusal (plainly s)) → Decides words src src' (refusal (ending r.texts r.status))
  refused_plainly s r is given = subst (λ (x : Refusal). Decides words src src' (refusal (ending x.texts x.status))) (sym is) given
