-- The plan of the late inherited attribute is the one that the construction gives.
use Rattle.std.specs.Prelude.{Contains, slice_get, take}
use Rattle.std.proofs.Common.{◌≡◌, ℕ, zero, suc, ◌<◌, ◌≤◌, ◌⊎◌, inl, inr, List, [], ◌∷◌, length, Some, None, refl, arith, ap, sym, subst, ◌∙◌}
use Rattle.std.proofs.lemmas.Option.{none-some}
use Rattle.lido_base.specs.declared.ids.AttrId.{AttrId}
use Rattle.lido_base.specs.declared.ids.SymId.{SymId}
use Rattle.flat_grammar.specs.declared.flat.Occ.{Occ}
use Rattle.flat_grammar.specs.declared.flat.FlatRule.{FlatRule}
use Rattle.flat_grammar.specs.declared.flat.FlatComp.{FlatComp}
use Rattle.flat_grammar.specs.declared.plan.Label.{Label}
use Rattle.flat_grammar.specs.declared.plan.Label.TheVariants.{Direct}
use Rattle.flat_grammar.specs.declared.plan.PlanItem.{PlanItem}
use Rattle.flat_grammar.specs.declared.plan.PlanItem.TheVariants.{Eval, Visit, Leave}
use Rattle.flat_grammar.specs.declared.plan.VisitClass.{VisitClass}
use Rattle.flat_grammar.specs.Rules.{symbol_at, dependencies}
use Rattle.flat_grammar.specs.Dependencies.{IDS}
use Rattle.flat_grammar.specs.Cycles.{EDP, direct, induced, partition, IsAtMost}
use Rattle.flat_grammar.specs.SoundPlan.{IsEvaluated, IsAtHand, IsClassAt, segment_after, visits_made}
use Rattle.flat_grammar.specs.Construction.{IsReady, IsReadyVisit, IsNext, IsOfUse, IsChosen, HasReady, HasReadyVisit, HasNext, evaluation, ready_visit, next_visit, leave, AreConstructed}
use Rattle.flat_grammar.proofs.Lists.{held, contains-cons, contains-nil}
use Rattle.trials_of_grammar.specs.ListOfItems.{symbol, occurrence}
use Rattle.trials_of_grammar.specs.LateInherited.{attribute, symbols, S_v, S_out, A_i, B_v, v_of_S, out_of_S, S_rule, A_rule, B_rule, rules, visits_of_S, visits_of_A, visits_of_B, visits, S_sequence, A_sequence, B_sequence, sequences}
use Rattle.trials_of_grammar.proofs.Finite.{all-of, each-of, numbers-apart, occurrences-apart}
use Rattle.trials_of_grammar.proofs.TestedPlans.{evaluated-holds, evaluated-not, is-at-hand, class_at, class-is}
use Rattle.trials_of_grammar.proofs.LateInheritedVisits.{S-pair, A-none, B-none, not-earlier}
use Rattle.trials_of_grammar.proofs.LateInheritedPlan.{S-ends, A-ends, B-ends}

abbrev Edge : FlatRule → Occ → Occ → Label → Type 0
Edge r u o label = EDP symbols rules r u o label

-- a computation of rS that depends on something is that of S.v or of S.$out
abbrev Depends : Occ → Occ → FlatComp → Type 0
Depends u o c = Contains (dependencies c) u → c.goal ≡ o → ((u ≡ B_v) × (o ≡ S_v)) ⊎ ((u ≡ S_v) × (o ≡ S_out))

one : (u v : Occ) → Contains (v ∷ []) u → u ≡ v
one u v m = elim (contains-cons v u [] m) [ inl e ↦ sym e | inr k ↦ absurd (contains-nil u k) ]

-- the symbols of rS: no pair but S.v and S.$out is induced
pair-of : (k : ℕ) (x : SymId) (a b : AttrId) → symbol_at S_rule k ≡ Some x → IDS rules x a b → (k ≡ 0) × (a.0 ≡ 0) × (b.0 ≡ 1)
pair-of zero x a b e h = let p = S-pair a b (subst (λ y. IDS rules y a b) (sym (held e)) h) in (refl, p.0, p.1)
pair-of (suc zero) x a b e h = absurd (A-none a b (subst (λ y. IDS rules y a b) (sym (held e)) h))
pair-of (suc (suc zero)) x a b e h = absurd (B-none a b (subst (λ y. IDS rules y a b) (sym (held e)) h))
pair-of (suc (suc (suc k))) x a b e h = absurd (none-some _ e)

same-occ : (u : Occ) (k a : ℕ) → u.occ ≡ k → u.attr.0 ≡ a → u ≡ occurrence k a
same-occ u k a e f = λ i. record { occ = e i; attr = record { 0 = f i } }

-- the edges of the extended dependencies of rS
S-edges : (u o : Occ) (label : Label) → Edge S_rule u o label → ((u ≡ B_v) × (o ≡ S_v)) ⊎ ((u ≡ S_v) × (o ≡ S_out))
S-edges u o label (direct (c, m, d, e)) = each-of (Depends u o) S_rule.comps
    ((λ k g. absurd (contains-nil u k)), ((λ k g. inl (one u B_v k, sym g)), ((λ k g. inr (one u S_v k, sym g)), tt))) c m d e
S-edges u o label (induced {x} n same at h) = let p = pair-of u.occ x u.attr o.attr at h in inr (same-occ u 0 0 p.0 p.1, same-occ o 0 1 (sym same ∙ p.0) p.2)
S-edges u o label (partition {x} n same at i h) = absurd (not-earlier x.0 u.attr o.attr h)

-- rA has no edges, and rB none
B-edges : (u o : Occ) (label : Label) → Edge B_rule u o label → ⊥
B-edges u o label (direct (c, m, d, e)) = each-of (λ (c : FlatComp). Contains (dependencies c) u → ⊥) B_rule.comps (contains-nil u, tt) c m d
B-edges u o label (induced {x} n same at h) = go u.occ at
  where
    go : (k : ℕ) → symbol_at B_rule k ≡ Some x → ⊥
    go zero e = B-none u.attr o.attr (subst (λ y. IDS rules y u.attr o.attr) (sym (held e)) h)
    go (suc k) e = none-some _ e
B-edges u o label (partition {x} n same at i h) = not-earlier x.0 u.attr o.attr h

v-edge : Edge S_rule B_v S_v Direct
v-edge = direct (v_of_S, (1, omega arith, refl), (0, omega arith, refl), refl)

out-edge : Edge S_rule S_v S_out Direct
out-edge = direct (out_of_S, (2, omega arith, refl), (0, omega arith, refl), refl)

-- what is at hand in rS
S-class : (v : ℕ) (class : VisitClass) → IsClassAt visits S_rule 0 v class → class.inherited ≡ []
S-class zero class c = absurd c
S-class (suc zero) class c = sym (ap (λ (d : VisitClass). d.inherited) (held (class-is visits S_rule 0 1 class c)))
S-class (suc (suc v)) class c = absurd (none-some _ (class-is visits S_rule 0 (suc (suc v)) class c))

S-v-not-at-hand : (before : List PlanItem) → (IsEvaluated before S_v → ⊥) → IsAtHand visits S_rule before S_v → ⊥
S-v-not-at-hand before n (inl e) = n e
S-v-not-at-hand before n (inr (inl (p, v, class, l, c, m))) = absurd (omega (arith, p))
S-v-not-at-hand before n (inr (inr (e, v, class, l, c, m))) = contains-nil (attribute 0) (subst (λ xs. Contains xs (attribute 0)) (S-class v class c) m)

B-v-not-at-hand : (before : List PlanItem) → (IsEvaluated before B_v → ⊥) → visits_made before 2 ≡ 0 → IsAtHand visits S_rule before B_v → ⊥
B-v-not-at-hand before n none (inl e) = n e
B-v-not-at-hand before n none (inr (inl (p, zero, class, l, c, m))) = c
B-v-not-at-hand before n none (inr (inl (p, suc v, class, l, c, m))) = absurd (omega (arith, l, none))
B-v-not-at-hand before n none (inr (inr (e, v, class, l, c, m))) = numbers-apart 2 0 refl e

abbrev Ready : List PlanItem → Occ → Type 0
Ready before o = IsReady symbols rules visits S_rule before o

-- a goal of rS is one of three
goals : (before : List PlanItem) (Q : Occ → Type 0) → (Ready before A_i → Q A_i) → (Ready before S_v → Q S_v) → (Ready before S_out → Q S_out) → (p : Occ) → Ready before p → Q p
goals before Q a b c p h = each-of (λ o. Ready before o → Q o) (A_i ∷ S_v ∷ S_out ∷ []) (a, (b, (c, tt))) p h.0.0 h

done : (before : List PlanItem) (o : Occ) {Q : Type 0} → IsEvaluated before o → Ready before o → Q
done before o e h = absurd (h.0.1 e)

v-waits : (before : List PlanItem) {Q : Type 0} → (IsEvaluated before B_v → ⊥) → visits_made before 2 ≡ 0 → Ready before S_v → Q
v-waits before n none h = absurd (B-v-not-at-hand before n none (h.1 B_v Direct v-edge))

out-waits : (before : List PlanItem) {Q : Type 0} → (IsEvaluated before S_v → ⊥) → Ready before S_out → Q
out-waits before n h = absurd (S-v-not-at-hand before n (h.1 S_v Direct out-edge))

-- no visit of A is of use, and none of B is left after its first
A-idle : (v : ℕ) → IsOfUse symbols rules visits S_rule [] 1 v → ⊥
A-idle v (zero, class, l, c, n) = c
A-idle v (suc zero, class, l, c, n) = n (sym (ap (λ (d : VisitClass). d.synthesized) (held (class-is visits S_rule 1 1 class c))))
A-idle v (suc (suc w), class, l, c, n) = none-some _ (class-is visits S_rule 1 (suc (suc w)) class c)

no-class : (k v : ℕ) (class : VisitClass) → class_at visits S_rule k v ≡ None → IsClassAt visits S_rule k v class → ⊥
no-class k v class none c = none-some _ (sym none ∙ class-is visits S_rule k v class c)

abbrev at0 : List PlanItem
at0 = []

abbrev at1 : List PlanItem
at1 = Eval A_i ∷ []

abbrev at2 : List PlanItem
at2 = Eval A_i ∷ Visit 2 1 ∷ []

abbrev at3 : List PlanItem
at3 = Eval A_i ∷ Visit 2 1 ∷ Eval S_v ∷ []

abbrev at4 : List PlanItem
at4 = Eval A_i ∷ Visit 2 1 ∷ Eval S_v ∷ Eval S_out ∷ []

abbrev at5 : List PlanItem
at5 = Eval A_i ∷ Visit 2 1 ∷ Eval S_v ∷ Eval S_out ∷ Visit 1 1 ∷ []

abbrev Chosen : List PlanItem → PlanItem → Type 0
Chosen before item = IsChosen symbols rules visits S_rule before item

itself : (o : Occ) → IsAtMost o o
itself o = inr (refl, omega arith)

A-ready : Ready at0 A_i
A-ready = (((0, omega arith, refl), evaluated-not at0 A_i refl), λ u label e. elim (S-edges u A_i label e) [ inl p ↦ absurd (occurrences-apart A_i S_v refl p.1) | inr p ↦ absurd (occurrences-apart A_i S_out refl p.1) ])

v-ready : Ready at2 S_v
v-ready = (
  ((1, omega arith, refl), evaluated-not at2 S_v refl),
  λ u label e. elim (S-edges u S_v label e)
      [ inl p ↦ subst (λ o. IsAtHand visits S_rule at2 o) (sym p.0) (is-at-hand visits S_rule at2 B_v refl) | inr p ↦ absurd (occurrences-apart S_v S_out refl p.1) ],
)

out-ready : Ready at3 S_out
out-ready = (
  ((2, omega arith, refl), evaluated-not at3 S_out refl),
  λ u label e. elim (S-edges u S_out label e)
      [ inl p ↦ absurd (occurrences-apart S_out S_v refl p.1) | inr p ↦ subst (λ o. IsAtHand visits S_rule at3 o) (sym p.0) (is-at-hand visits S_rule at3 S_v refl) ],
)

chosen0 : Chosen at0 (Eval A_i)
chosen0 = evaluation A-ready (goals at0 (λ p. IsAtMost A_i p) (λ h. itself A_i) (v-waits at0 (evaluated-not at0 B_v refl) refl) (out-waits at0 (evaluated-not at0 S_v refl)))

none-ready1 : ¬ HasReady symbols rules visits S_rule at1
none-ready1 (o, h) = goals at1 (λ p. ⊥) (done at1 A_i (evaluated-holds at1 A_i refl)) (v-waits at1 (evaluated-not at1 B_v refl) refl) (out-waits at1 (evaluated-not at1 S_v refl)) o h

abbrev class_of_S : VisitClass
class_of_S = record { inherited = []; synthesized = attribute 0 ∷ attribute 1 ∷ [] }

abbrev class_of_A : VisitClass
class_of_A = record { inherited = attribute 0 ∷ []; synthesized = [] }

abbrev class_of_B : VisitClass
class_of_B = record { inherited = []; synthesized = attribute 0 ∷ [] }

B-visit : IsReadyVisit symbols rules visits S_rule at1 2 1
B-visit = (
  class_of_B,
  (omega arith, refl, (symbol 2, visits_of_B, refl, refl, refl)),
  all-of (λ a. IsEvaluated at1 (record { occ = 2; attr = a })) [] tt,
  (1, class_of_B, omega arith, (symbol 2, visits_of_B, refl, refl, refl), λ e. numbers-apart 1 0 refl (ap length e)),
)

least-visit : (j w : ℕ) → IsReadyVisit symbols rules visits S_rule at1 j w → 2 ≤ j
least-visit zero w (class, next, all, of_use) = absurd (let l = next.0 in omega (arith, l))
least-visit (suc zero) w (class, next, all, of_use) = absurd (A-idle w of_use)
least-visit (suc (suc j)) w h = omega arith

chosen1 : Chosen at1 (Visit 2 1)
chosen1 = ready_visit none-ready1 (inl (class_of_S, (symbol 0, visits_of_S, refl, refl, refl), λ h. evaluated-not at1 S_v refl (h 0 (attribute 0) (omega arith)))) B-visit least-visit

chosen2 : Chosen at2 (Eval S_v)
chosen2 = evaluation v-ready (goals at2 (λ p. IsAtMost S_v p) (done at2 A_i (evaluated-holds at2 A_i refl)) (λ h. itself S_v) (out-waits at2 (evaluated-not at2 S_v refl)))

chosen3 : Chosen at3 (Eval S_out)
chosen3 = evaluation out-ready (goals at3 (λ p. IsAtMost S_out p) (done at3 A_i (evaluated-holds at3 A_i refl)) (done at3 S_v (evaluated-holds at3 S_v refl)) (λ h. itself S_out))

none-ready4 : ¬ HasReady symbols rules visits S_rule at4
none-ready4 (o, h) = goals at4 (λ p. ⊥) (done at4 A_i (evaluated-holds at4 A_i refl)) (done at4 S_v (evaluated-holds at4 S_v refl)) (done at4 S_out (evaluated-holds at4 S_out refl)) o h

-- B has no second visit, and other children aren't there
no-next : (before : List PlanItem) → visits_made before 2 ≡ 1 → (k v : ℕ) (class : VisitClass) → IsNext symbols rules visits S_rule before k v class → k ≡ 1
no-next before made zero v class (l, e, c) = absurd (omega (arith, l))
no-next before made (suc zero) v class h = refl
no-next before made (suc (suc zero)) v class (l, e, c) = absurd (no-class 2 2 class refl (subst (λ w. IsClassAt visits S_rule 2 w class) (e ∙ ap suc made) c))
no-next before made (suc (suc (suc k))) v class (l, e, c) = absurd (outside v c)
  where
    outside : (w : ℕ) → IsClassAt visits S_rule (suc (suc (suc k))) w class → ⊥
    outside zero d = d
    outside (suc w) d = none-some _ d.2

no-visit : (before : List PlanItem) → visits_made before 2 ≡ 1 → ¬ HasReadyVisit symbols rules visits S_rule before
no-visit before made (owing, k, v, (class, next, all, of_use)) = A-idle v (subst (λ j. IsOfUse symbols rules visits S_rule [] j v) (no-next before made k v class next) of_use)

chosen4 : Chosen at4 (Visit 1 1)
chosen4 = next_visit class_of_A none-ready4 (no-visit at4 refl) (visits_of_S, refl, refl) (omega arith, refl, (symbol 1, visits_of_A, refl, refl, refl)) (λ j w other h. let l = h.0 in omega (arith, l))

none-ready5 : ¬ HasReady symbols rules visits S_rule at5
none-ready5 (o, h) = goals at5 (λ p. ⊥) (done at5 A_i (evaluated-holds at5 A_i refl)) (done at5 S_v (evaluated-holds at5 S_v refl)) (done at5 S_out (evaluated-holds at5 S_out refl)) o h

none-left5 : ¬ HasNext symbols rules visits S_rule at5
none-left5 (last, k, v, class, next) = go k v (no-next at5 refl k v class next) next
  where
    go : (k v : ℕ) → k ≡ 1 → IsNext symbols rules visits S_rule at5 k v class → ⊥
    go k v e h = let moved = subst (λ j. IsNext symbols rules visits S_rule at5 j v class) e h in no-class 1 2 class refl (subst (λ w. IsClassAt visits S_rule 1 w class) moved.1 moved.2)

chosen5 : Chosen at5 (Leave 1)
chosen5 = leave none-ready5 (no-visit at5 refl) none-left5

S-chosen : (place : ℕ) (item : PlanItem) → slice_get S_sequence place ≡ Some item → Chosen (take place S_sequence) item
S-chosen zero item e = subst (λ i. Chosen at0 i) (held e) chosen0
S-chosen (suc zero) item e = subst (λ i. Chosen at1 i) (held e) chosen1
S-chosen (suc (suc zero)) item e = subst (λ i. Chosen at2 i) (held e) chosen2
S-chosen (suc (suc (suc zero))) item e = subst (λ i. Chosen at3 i) (held e) chosen3
S-chosen (suc (suc (suc (suc zero)))) item e = subst (λ i. Chosen at4 i) (held e) chosen4
S-chosen (suc (suc (suc (suc (suc zero))))) item e = subst (λ i. Chosen at5 i) (held e) chosen5
S-chosen (suc (suc (suc (suc (suc (suc place)))))) item e = absurd (none-some _ e)

-- rules without children end their visit as soon as all is evaluated
module _ (r : FlatRule) (childless : (k : ℕ) → symbol_at r (suc k) ≡ None) where
  no-child : (k v : ℕ) (class : VisitClass) → 0 < k → IsClassAt visits r k v class → ⊥
  no-child zero v class l c = absurd (omega (arith, l))
  no-child (suc k) zero class l c = c
  no-child (suc k) (suc v) class l c = none-some _ (sym (childless k) ∙ c.2)

  leaves : (before : List PlanItem) → ¬ HasReady symbols rules visits r before → IsChosen symbols rules visits r before (Leave (segment_after before))
  leaves before none = leave none (λ h. no-child h.1 h.2 h.3.0 h.3.1.0 h.3.1.2) (λ h. no-child h.1 h.2 h.3 h.4.0 h.4.2)

A-chosen : (place : ℕ) (item : PlanItem) → slice_get A_sequence place ≡ Some item → IsChosen symbols rules visits A_rule (take place A_sequence) item
A-chosen zero item e = subst (λ i. IsChosen symbols rules visits A_rule [] i) (held e) (leaves A_rule (λ k. refl) [] (λ h. contains-nil h.0 h.1.0.0))
A-chosen (suc place) item e = absurd (none-some _ e)

abbrev own : Occ
own = occurrence 0 0

abbrev B1 : List PlanItem
B1 = Eval own ∷ []

B-chosen : (place : ℕ) (item : PlanItem) → slice_get B_sequence place ≡ Some item → IsChosen symbols rules visits B_rule (take place B_sequence) item
B-chosen zero item e = subst (λ i. IsChosen symbols rules visits B_rule [] i) (held e)
    (evaluation (((0, omega arith, refl), evaluated-not [] own refl), λ u label d. absurd (B-edges u own label d)) (λ p h. each-of (λ o. IsAtMost own o) (own ∷ []) (itself own, tt) p h.0.0))
B-chosen (suc zero) item e = subst (λ i. IsChosen symbols rules visits B_rule B1 i) (held e)
    (leaves B_rule (λ k. refl) B1 (λ h. each-of (λ o. (IsEvaluated B1 o → ⊥) → ⊥) (own ∷ []) ((λ n. n (evaluated-holds B1 own refl)), tt) h.0 h.1.0.0 h.1.0.1))
B-chosen (suc (suc place)) item e = absurd (none-some _ e)

pub constructed : AreConstructed symbols rules visits sequences
constructed = (record { chosen = S-chosen; ended = S-ends 5 }, (record { chosen = A-chosen; ended = A-ends 5 }, (record { chosen = B-chosen; ended = B-ends 5 }, tt)))
