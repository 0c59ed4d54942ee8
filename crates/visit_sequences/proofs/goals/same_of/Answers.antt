use Rattle.std.specs.Prelude.{slice_get, IsBitSet, ◌↔◌}
use Rattle.std.proofs.Common.{◌≡◌, ◌<◌, ◌∙◌, ℕ, List, Some, None, ap, sym, subst, refl, length}
use Rattle.std.proofs.lemmas.Option.{slice_get_read, slice_get_past}
use Rattle.lido_base.specs.declared.ids.AttrId.{AttrId}
use Rattle.flat_grammar.specs.declared.plan.VisitClass.{VisitClass}
use Rattle.flat_grammar.specs.Rules.{symbol_at}
use Rattle.visit_sequences.specs.Steps.{visits_there, StandsBefore}
use Rattle.visit_sequences.proofs.GoalLemmas.{before-is, has-row, there-at}
use Rattle.visit_sequences.proofs.goals.same_of.Goals as goal

pub returns-in-Some-get : goal.returns-in-Some-get
returns-in-Some-get c =
    let flat = c.args.flat.now in
    let x = c.in-Some.symbol in
    let at : symbol_at c.args.rule.now c.args.goal.occ ≡ Some x = sym c.symbol_at.ensures ∙ c.in-Some.is in
    let got = c.in-Some-get.ensures.lookup in
    let of_x : List ℕ = c.in-Some-get.rows.now in
    let e : slice_get c.args.deps.now.ids x.0 ≡ Some of_x = ap (λ (l : List (List ℕ)). slice_get l x.0) (sym c.as_slice-2.ensures) ∙ slice_get_read c.as_slice-2.result.now (length c.as_slice-2.result.now) x.0 of_x refl got.3.0 got.1 in
    let row : c.visits_at.result.now ≡ visits_there c.args.parts.now.visits c.args.rule.now c.args.goal.occ = c.visits_at.ensures ∙ ap (λ (l : List (List VisitClass)). visits_there l c.args.rule.now c.args.goal.occ) c.as_slice.ensures in
    let has = subst (λ l. (a : AttrId) → IsBitSet c.earlier-before.result a.0 ↔ ((a.0 < 256) × StandsBefore l a c.args.goal.attr)) row c.earlier-before.ensures in
    let induced = subst (λ (l : List ℕ). (a : AttrId) → IsBitSet c.induced.result a.0 ↔ ((a.0 < 256) × (row : ℕ) × (slice_get l a.0 ≡ Some row) × IsBitSet row c.args.goal.attr.0)) c.as_slice-in-Some-get.ensures c.induced.ensures in
    before-is flat.symbols flat.rules flat.shapes flat.root flat.well_formed c.args.deps.now.ids c.requires.rows c.args.parts.now.visits c.requires.visits c.args.rule.now c.args.goal x of_x
    c.earlier-before.result c.induced.result c.union.result c.requires.attribute at e has induced c.union.ensures.members

pub returns-in-None : goal.returns-in-None
returns-in-None c =
    let flat = c.args.flat.now in
    let x = c.in-Some.symbol in
    let at : symbol_at c.args.rule.now c.args.goal.occ ≡ Some x = sym c.symbol_at.ensures ∙ c.in-Some.is in
    let none : slice_get c.args.deps.now.ids x.0 ≡ None = ap (λ (l : List (List ℕ)). slice_get l x.0) (sym c.as_slice-2.ensures) ∙ slice_get_past c.as_slice-2.result.now x.0 c.in-None.ensures.lookup.3 in
    absurd (has-row flat.symbols flat.rules flat.shapes flat.root flat.well_formed c.args.deps.now.ids c.requires.rows x c.args.goal.attr (there-at flat.symbols c.args.rule.now c.args.goal x c.requires.attribute at) none)
