use Rattle.std.proofs.Common.{◌≡◌, List, ℕ, cond, Bool, true, false, map, take, string_bytes, Some, None, option_map, find, ap, sym, ◌∙◌, slice_get, length, refl}
use Rattle.std.specs.Bool.{then_some}
use Rattle.std.specs.List.{list_any}
use Rattle.std.proofs.lemmas.List.{take-map}
use Rattle.std.proofs.lemmas.Option.{slice_get-map, slice_get_read, slice_get_past}
use Rattle.lido_base.specs.declared.kinds.WordKind.TheVariants.{Missing}
use Rattle.job_text.specs.Forms.{has_form, is_needed, allowed}
use Rattle.job_text.proofs.FaultLemmas.{fault_at_word, fault_at_none}
use Rattle.job_text.proofs.command_line.fault_at.Goals as goal

pub returns : goal.returns
returns c =
    let words = c.args.words.now in
    let word = c.as_bytes-word.result.now in
    let there = c.in-Some.ensures.lookup in
    let got : slice_get (map string_bytes words) c.args.index ≡ Some word =
    slice_get-map string_bytes words c.args.index ∙ ap (option_map string_bytes) (slice_get_read words (length words) c.args.index c.in-Some.word.now refl there.3.0 there.1)
    ∙ ap (λ (l : List ℕ). Some l) (sym c.as_bytes-word.ensures.value) in
    c.fault_of.ensures
    ∙ fault_at_word (map string_bytes words) c.args.index (map string_bytes (take c.args.index words)) word c.form_of.result got (sym (take-map string_bytes c.args.index words))
    (c.form_of.ensures.first ∙ ap (find (λ form. has_form form word)) (c.allowed-forms.ensures ∙ ap (λ v. allowed v c.args.index) c.first_verb.ensures))

told : (b : Bool) → then_some b Missing ≡ cond b (Some Missing) None
told true = refl
told false = refl

pub returns-in_default : goal.returns-in_default
returns-in_default c =
    let words = c.args.words.now in
    let none : slice_get words c.args.index ≡ None = slice_get_past words c.args.index c.in_default.ensures.lookup.3 in
    c.then_some.ensures
    ∙ told c.any_is_needed.result
    ∙ ap (λ b. cond b (Some Missing) None) (c.any_is_needed.ensures ∙ ap (list_any is_needed) (c.allowed-forms.ensures ∙ ap (λ v. allowed v c.args.index) c.first_verb.ensures))
    ∙ fault_at_none (map string_bytes words) c.args.index (slice_get-map string_bytes words c.args.index ∙ ap (option_map string_bytes) none)
