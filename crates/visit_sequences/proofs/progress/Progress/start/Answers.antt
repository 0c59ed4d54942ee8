use Rattle.std.specs.Prelude.{replicate}
use Rattle.std.proofs.Common.{◌≡◌, ◌∙◌, ◌+◌, ℕ, List, ap, subst, refl, arith, length}
use Rattle.std.proofs.lemmas.List.{length-replicate}
use Rattle.flat_grammar.specs.declared.plan.VisitClass.{VisitClass}
use Rattle.flat_grammar.specs.Rules.{symbols_of}
use Rattle.visit_sequences.specs.Steps.{visits_there, Adds, HasBitsOf}
use Rattle.visit_sequences.proofs.TakeLemmas.{follows-start}
use Rattle.visit_sequences.proofs.progress.Progress.start.Goals as goal

pub returns-clause-follows : goal.returns-clause-follows
returns-clause-follows c =
    let flat = c.args.flat.now in
    let n : ℕ = length c.args.rule.now.right + 1 in
    let count : c.len-count.result + 1 ≡ n = ap (λ k. k + 1) c.len-count.ensures in
    let sets = c.in_ok-at_hand.ensures ∙ ap (λ k. replicate k 0) count in
    let row : c.visits_at.result.now ≡ visits_there c.args.parts.now.visits c.args.rule.now 0 = c.visits_at.ensures ∙ ap (λ (l : List (List VisitClass)). visits_there l c.args.rule.now 0) c.as_slice.ensures in
    let added : n ≡ length (symbols_of c.args.rule.now) = omega arith in
    let m = ap (λ (l : List ℕ). length l) sets in
    let k = length-replicate {A = ℕ} n 0 in
    follows-start flat.symbols flat.rules flat.shapes flat.root flat.well_formed c.args.parts.now.visits c.requires.visits c.args.rule.now c.requires.rule _ n c.inherited.result added c.new.ensures.items
    (c.in_ok-empty_sets.ensures ∙ ap (λ k. replicate k 0) count) (c.in_ok-zeros.ensures ∙ ap (λ k. replicate k 0) count) refl (c.add.ensures.each ∙ (m ∙ k))
    (subst (λ (l : List ℕ). Adds l c.add.new.sets.items 0 c.inherited.result) sets c.add.ensures.added)
    (subst (λ l. HasBitsOf (λ (v : VisitClass). v.inherited) l 1 c.inherited.result) row c.inherited.ensures)
