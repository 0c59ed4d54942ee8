use Rattle.std.proofs.Common.{◌≡◌, ℕ, List, [], ◌∷◌, ◌++◌, length, take, map, cond, true, false, string_bytes, slice_get, option_map, Some, ap, sym, ◌∙◌, refl, append-nil}
use Rattle.std.proofs.lemmas.Option.{slice_get-map, slice_get_read}
use Rattle.job_text.specs.declared.forms.Form.TheVariants.{Split}
use Rattle.job_text.specs.Forms.{has_form}
use Rattle.job_text.specs.CommandLine.{splits}
use Rattle.job_text.proofs.WordLemmas.{splits_more}
use Rattle.job_text.proofs.command_line.splits.Goals as goal
use Rattle.job_text.proofs.command_line.splits.Goals.{then-has_form+in_ok-push, else-has_form}

pub loop-index-init : goal.loop-index-init
unfolding splits
loop-index-init c = c.new-found.ensures

pub loop-index-preserved : goal.loop-index-preserved
loop-index-preserved c =
    let words = c.args.words.now in
    let i = c.loop-index.index in
    let word = c.as_bytes.result.now in
    let got : slice_get (map string_bytes words) i ≡ Some word =
    slice_get-map string_bytes words i ∙ ap (option_map string_bytes) (slice_get_read words (length words) i c.index-words-index.result refl c.loop-index-test.true c.index-words-index.is)
    ∙ ap (λ (l : List ℕ). Some l) (sym c.as_bytes.ensures.value) in
    let more = splits_more (map string_bytes words) i word got in
    let before = splits (take i (map string_bytes words)) in
    elim c.if-has_form.branch [
      | then-has_form+in_ok-push w ↦
          let t : has_form Split word ≡ true = sym c.has_form.ensures ∙ w.if-has_form.true in
          w.found-is ∙ w.in_ok-push.ensures.ok ∙ ap (λ (l : List ℕ). l ++ i ∷ []) c.loop-index.invariant ∙ sym (more ∙ ap (λ b. before ++ cond b (i ∷ []) []) t)
      | else-has_form w ↦
          let f : has_form Split word ≡ false = sym c.has_form.ensures ∙ w.if-has_form.false in
          w.found-is ∙ c.loop-index.invariant ∙ sym (more ∙ ap (λ b. before ++ cond b (i ∷ []) []) f ∙ append-nil before)
    ]
