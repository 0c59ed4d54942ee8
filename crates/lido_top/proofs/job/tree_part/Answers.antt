use Rattle.std.proofs.Common.{◌++◌, ℕ, List, length, drop, inr, refl, sym, ◌∙◌, ap}
use Rattle.std.proofs.Math.Seq.{drop-append_seam}
use Rattle.std.proofs.lemmas.Bool.Decides.{Decides-eqb}
use Rattle.std.proofs.lemmas.Slice.Eq.{starts_is}
use Rattle.std.proofs.lemmas.List.{take_rest}
use Rattle.lido_base.specs.Phases.{the_one, the_none}
use Rattle.sum_trees.specs.declared.form.FormFault.TheVariants as fault
use Rattle.lido_top.specs.declared.job.TheConstants.{SUM_JOB}
use Rattle.lido_top.specs.Job.{IsJob}
use Rattle.lido_top.proofs.job.tree_part.Goals as goal

pub returns-then-starts_with : goal.returns-then-starts_with
returns-then-starts_with c =
    let part = take_rest c.args.bytes.now (length SUM_JOB.now) in
    let begins = (starts_is Decides-eqb c.args.bytes.now SUM_JOB.now c.starts_with.result c.starts_with.ensures.value).0 c.if-starts_with.true in
    the_one (IsJob c.args.bytes.now) fault.Outside _ (begins ∙ ap (λ (l : List ℕ). SUM_JOB.now ++ l) (sym part))
    (λ rest job. sym (drop-append_seam SUM_JOB.now rest) ∙ ap (λ (l : List ℕ). drop (length SUM_JOB.now) l) (sym job) ∙ sym part)

pub returns-else-starts_with : goal.returns-else-starts_with
returns-else-starts_with c =
    inr (the_none (IsJob c.args.bytes.now) fault.Outside fault.Outside refl
    (λ rest job. let yes = (starts_is Decides-eqb c.args.bytes.now SUM_JOB.now c.starts_with.result c.starts_with.ensures.value).1 rest job in let no = c.if-starts_with.false in absurd (cc)))
