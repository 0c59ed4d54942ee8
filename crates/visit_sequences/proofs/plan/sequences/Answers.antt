use Rattle.std.proofs.Common.{◌∙◌, sym, subst}
use Rattle.flat_grammar.specs.SoundPlan.{IsSound}
use Rattle.visit_sequences.proofs.PlanLemmas.{plan-sound}
use Rattle.visit_sequences.proofs.plan.sequences.Goals as goal

pub returns-clause-sound : goal.returns-clause-sound
returns-clause-sound c =
    let flat = c.args.flat.now in
    subst (λ v. IsSound flat.symbols flat.rules v c.in_ok-seqs.seqs) (sym (c.in_ok-visits_copy.ensures ∙ c.as_slice.ensures))
    (plan-sound flat.symbols flat.rules flat.shapes flat.root flat.well_formed c.args.parts.now.visits c.requires.visits c.requires.ordered c.in_ok-seqs.seqs c.in_ok-seqs.ensures)
