use Rattle.std.proofs.Common.{◌≡◌, ◌∙◌, ◌+◌, ◌^◌, ◌<◌, List, length, All, sym, subst, arith}
use Rattle.std.specs.Prelude.{Vec}
use Rattle.std.specs.declared.alloc.Global.{Global}
use Rattle.lido_base.specs.declared.pattern.Pattern.{Pattern}
use Rattle.ptg_patterns.specs.declared.marks.Mark.{Mark}
use Rattle.ptg_patterns.specs.declared.written.Written.{Written}
use Rattle.ptg_patterns.specs.Marks.{marks_up_to}
use Rattle.ptg_patterns.specs.Language.{IsWritten, IsText}
use Rattle.ptg_patterns.proofs.CountsLemmas.{AreFew, written_fit, all_small, few_found, parts_found, names_found}
use Rattle.ptg_patterns.proofs.IdsLemmas.{all_named, written_named, written_few, few_marks, found_is}
use Rattle.ptg_patterns.proofs.text.read_tokens.Goals as goal

pub patterns-requires-clause-ids : goal.patterns-requires-clause-ids
patterns-requires-clause-ids c =
    let all = marks_up_to c.args.tokens.now c.args.stuck in
    let fits = subst IsText (c.deref.ensures.value ∙ c.in-Ok.ensures.marks) c.in_default.ensures.fits in
    let reading = subst (λ (l : List Mark). (patterns : List Written) → IsWritten l patterns → patterns ≡ c.in-Ok-written.written.items) (c.deref-2.ensures.value ∙ c.in-Ok.ensures.marks)
    c.in-Ok-written.ensures.written in
    let written = found_is all c.in-Ok-written.written.items fits reading in
    let n = length c.args.strings.now in
    subst (λ (l : List Written). All (λ (w : Written). w.name.0 < n) l) (sym c.deref-3.ensures.value)
    (written_named n all c.in-Ok-written.written.items written (all_named n c.args.tokens.now c.args.stuck c.requires.ids))

pub patterns-requires-clause-few : goal.patterns-requires-clause-few
patterns-requires-clause-few c =
    let all = marks_up_to c.args.tokens.now c.args.stuck in
    let fits = subst IsText (c.deref.ensures.value ∙ c.in-Ok.ensures.marks) c.in_default.ensures.fits in
    let reading = subst (λ (l : List Mark). (patterns : List Written) → IsWritten l patterns → patterns ≡ c.in-Ok-written.written.items) (c.deref-2.ensures.value ∙ c.in-Ok.ensures.marks)
    c.in-Ok-written.ensures.written in
    let written = found_is all c.in-Ok-written.written.items fits reading in
    let few = written_few 8388609 all c.in-Ok-written.written.items written (omega (arith, few_marks c.args.tokens.now c.args.stuck, c.requires.few)) in
    subst (λ (l : List Written). All (λ (w : Written). length w.items + 1 < 2 ^ 32) l) (sym c.deref-3.ensures.value) (λ k d less. let f = few k d less in omega (arith, f))

pub returns-clause-arguments : goal.returns-clause-arguments
returns-clause-arguments c =
    let all = marks_up_to c.args.tokens.now c.args.stuck in
    let fits = subst IsText (c.deref.ensures.value ∙ c.in-Ok.ensures.marks) c.in_default.ensures.fits in
    let reading = subst (λ (l : List Mark). (patterns : List Written) → IsWritten l patterns → patterns ≡ c.in-Ok-written.written.items) (c.deref-2.ensures.value ∙ c.in-Ok.ensures.marks)
    c.in-Ok-written.ensures.written in
    let written = found_is all c.in-Ok-written.written.items fits reading in
    let few = subst (λ (l : List Written). All (λ (w : Written). AreFew w.items) l) (sym c.deref-3.ensures.value)
    (written_fit all c.in-Ok-written.written.items written (all_small c.args.tokens.now c.args.stuck)) in
    few_found (λ (v : Vec Pattern Global). v.items) c.patterns.result c.deref-3.result.now c.patterns.ensures.patterns c.patterns.ensures.agree few

pub returns-clause-parts : goal.returns-clause-parts
returns-clause-parts c =
    let all = marks_up_to c.args.tokens.now c.args.stuck in
    let fits = subst IsText (c.deref.ensures.value ∙ c.in-Ok.ensures.marks) c.in_default.ensures.fits in
    let reading = subst (λ (l : List Mark). (patterns : List Written) → IsWritten l patterns → patterns ≡ c.in-Ok-written.written.items) (c.deref-2.ensures.value ∙ c.in-Ok.ensures.marks)
    c.in-Ok-written.ensures.written in
    let written = found_is all c.in-Ok-written.written.items fits reading in
    let few = subst (λ (l : List Written). All (λ (w : Written). AreFew w.items) l) (sym c.deref-3.ensures.value)
    (written_fit all c.in-Ok-written.written.items written (all_small c.args.tokens.now c.args.stuck)) in
    parts_found (λ (v : Vec Pattern Global). v.items) c.patterns.result c.deref-3.result.now c.patterns.ensures.patterns few

pub returns-clause-names : goal.returns-clause-names
returns-clause-names c =
    let all = marks_up_to c.args.tokens.now c.args.stuck in
    let fits = subst IsText (c.deref.ensures.value ∙ c.in-Ok.ensures.marks) c.in_default.ensures.fits in
    let reading = subst (λ (l : List Mark). (patterns : List Written) → IsWritten l patterns → patterns ≡ c.in-Ok-written.written.items) (c.deref-2.ensures.value ∙ c.in-Ok.ensures.marks)
    c.in-Ok-written.ensures.written in
    let written = found_is all c.in-Ok-written.written.items fits reading in
    let n = length c.args.strings.now in
    let named = subst (λ (l : List Written). All (λ (w : Written). w.name.0 < n) l) (sym c.deref-3.ensures.value)
    (written_named n all c.in-Ok-written.written.items written (all_named n c.args.tokens.now c.args.stuck c.requires.ids)) in
    names_found (λ (v : Vec Pattern Global). v.items) c.patterns.result n c.deref-3.result.now c.patterns.ensures.patterns named
