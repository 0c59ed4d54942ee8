use Rattle.std.proofs.Common.{◌<◌, ◌^◌, ℕ, List, map, string_bytes, Some, ap, sym, ◌∙◌, arith}
use Rattle.job_text.specs.Forms.{has_form, number_of}
use Rattle.job_text.proofs.FaultLemmas.{inside_fits}
use Rattle.job_text.proofs.WordLemmas.{find_passes, found_bytes, absent_bytes, number_found, number_absent}
use Rattle.job_text.proofs.command_line.number_or.Goals as goal

pub number_of-requires-clause-form : goal.number_of-requires-clause-form
number_of-requires-clause-form c =
    let found = found_bytes c.args.form string_bytes c.args.words.now c.in-Some.word.now (sym c.in-Some.ensures) ∙ ap (λ (l : List ℕ). Some l) (sym c.as_bytes.ensures.value) in
    find_passes (has_form c.args.form) (map string_bytes c.args.words.now) c.as_bytes.result.now found

pub overflow_cast-result : goal.overflow_cast-result
overflow_cast-result c =
    let found = found_bytes c.args.form string_bytes c.args.words.now c.in-Some.word.now (sym c.in-Some.ensures) ∙ ap (λ (l : List ℕ). Some l) (sym c.as_bytes.ensures.value) in
    let fits : number_of c.args.form c.as_bytes.result.now < 2 ^ 32 = inside_fits c.args.form c.as_bytes.result.now c.requires.numbered (c.requires.inside c.as_bytes.result.now found) in
    omega (arith, fits, c.number_of.ensures)

pub returns-in-Some : goal.returns-in-Some
returns-in-Some c =
    let found = found_bytes c.args.form string_bytes c.args.words.now c.in-Some.word.now (sym c.in-Some.ensures) ∙ ap (λ (l : List ℕ). Some l) (sym c.as_bytes.ensures.value) in
    c.number_of.ensures ∙ number_found c.args.default c.args.form (map string_bytes c.args.words.now) c.as_bytes.result.now found

pub returns-in-None : goal.returns-in-None
returns-in-None c =
    number_absent c.args.default c.args.form (map string_bytes c.args.words.now) (absent_bytes c.args.form string_bytes c.args.words.now (sym c.in-None.ensures))
