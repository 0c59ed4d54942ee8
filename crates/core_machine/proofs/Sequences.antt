-- What a sound visit sequence has done behind some of its items.
use Rattle.std.specs.Prelude.{Contains, nat_eq}
use Rattle.std.proofs.Common.{◌≡◌, ℕ, suc, ◌+◌, ◌<◌, ◌≤◌, ◌⊎◌, inl, inr, List, [], ◌∷◌, ◌++◌, Bool, true, false, cond, refl, arith, ap, sym, subst, ◌∙◌, append_assoc, append-nil, eqb-true, eq-eqb}
use Rattle.std.proofs.lemmas.Bool.{cases_Bool, cases_lt}
use Rattle.std.proofs.lemmas.List.Sums.{sum_by-cons, sum_by-append}
use Rattle.std.proofs.lemmas.List.Elements.{Contains-append_left, Contains-push, Contains-push_cases, All-contains}
use Rattle.lido_base.specs.declared.ids.AttrId.{AttrId}
use Rattle.flat_grammar.specs.declared.flat.Occ.{Occ}
use Rattle.flat_grammar.specs.declared.flat.FlatSymbol.{FlatSymbol}
use Rattle.flat_grammar.specs.declared.flat.FlatRule.{FlatRule}
use Rattle.flat_grammar.specs.declared.plan.VisitClass.{VisitClass}
use Rattle.flat_grammar.specs.declared.plan.PlanItem.{PlanItem}
use Rattle.flat_grammar.specs.declared.plan.PlanItem.TheVariants.{Eval, Visit, Leave}
use Rattle.flat_grammar.specs.SoundPlan.{is_leave, is_visit_of, IsEvaluated, IsEvaluatedAll, visits_made, IsClassAt, IsSoundSequence}
use Rattle.flat_grammar.proofs.Lists.{contains-nil}
use Rattle.flat_grammar.proofs.SoundPlanLemmas.{at-place}
use Rattle.core_machine.proofs.Segments.{leaves, Stands, in-segment, segment-more}

abbrev variant : PlanItem → ℕ
variant (Eval o) = 0
variant (Visit k w) = 1
variant (Leave w) = 2

abbrev child_in : PlanItem → ℕ
child_in (Visit k w) = k
child_in _ = 0

abbrev visit_in : PlanItem → ℕ
visit_in (Visit k w) = w
visit_in _ = 0

visits-push : (done : List PlanItem) (item : PlanItem) (k : ℕ) → visits_made (done ++ item ∷ []) k ≡ visits_made done k + cond (is_visit_of k item) 1 0
visits-push done item k =
    let a = sum_by-append (λ i. cond (is_visit_of k i) 1 0) done (item ∷ []) in
    let b = sum_by-cons (λ i. cond (is_visit_of k i) 1 0) item [] in omega (arith, a, b)

pub visits-yes : (done : List PlanItem) (item : PlanItem) (k : ℕ) → is_visit_of k item ≡ true → visits_made (done ++ item ∷ []) k ≡ visits_made done k + 1
visits-yes done item k e = visits-push done item k ∙ ap (λ (z : Bool). visits_made done k + cond z 1 0) e

pub visits-no : (done : List PlanItem) (item : PlanItem) (k : ℕ) → is_visit_of k item ≡ false → visits_made (done ++ item ∷ []) k ≡ visits_made done k
visits-no done item k e = let a = visits-push done item k ∙ ap (λ (z : Bool). visits_made done k + cond z 1 0) e in omega (arith, a)

pub visits-first : (item : PlanItem) (rest : List PlanItem) (k : ℕ) (b : Bool) → is_visit_of k item ≡ b → visits_made (item ∷ rest) k ≡ cond b 1 0 + visits_made rest k
visits-first item rest k b e = sum_by-cons (λ i. cond (is_visit_of k i) 1 0) item rest ∙ ap (λ (z : Bool). cond z 1 0 + visits_made rest k) e

pub leaves-push : (done : List PlanItem) (item : PlanItem) → leaves (done ++ item ∷ []) ≡ leaves done + cond (is_leave item) 1 0
leaves-push done item =
    let a = sum_by-append (λ i. cond (is_leave i) 1 0) done (item ∷ []) in
    let b = sum_by-cons (λ i. cond (is_leave i) 1 0) item [] in omega (arith, a, b)

module _ (symbols : List FlatSymbol) (visits : List (List VisitClass)) (r : FlatRule) (seq : List PlanItem) (sound : IsSoundSequence symbols visits r seq) where
  -- What is behind some items: which visits of children were made, that what they inherit is evaluated, and that what an ended
  -- visit of the left side owes was evaluated by then.
  pub record Made (done : List PlanItem) : Type 0 where
    pub made : (k w : ℕ) → 0 < w → w ≤ visits_made done k → Contains done (Visit k w)
    pub counted : (k w : ℕ) → Contains done (Visit k w) → (0 < w) × (w ≤ visits_made done k)
    pub given : (k w : ℕ) (class : VisitClass) → Contains done (Visit k w) → IsClassAt visits r k w class → IsEvaluatedAll done k class.inherited
    pub owed : (v : ℕ) (class : VisitClass) (a : AttrId) → 0 < v → v ≤ leaves done → IsClassAt visits r 0 v class → Contains class.synthesized a → (u : ℕ) × (u < v) × Stands done u (Eval (record { occ = 0; attr = a }))

  nothing-made : Made []
  nothing-made = record {
    made = λ k w p q. absurd (omega arith);
    counted = λ k w m. absurd (contains-nil (Visit k w) m);
    given = λ k w class m. absurd (contains-nil (Visit k w) m);
    owed = λ v class a p q. absurd (omega arith);
  }

  module _ (done after : List PlanItem) (m : Made done) where
    longer : (item : PlanItem) (k : ℕ) (attrs : List AttrId) → IsEvaluatedAll done k attrs → IsEvaluatedAll (done ++ item ∷ []) k attrs
    longer item k attrs h = λ i d l. Contains-append_left done (item ∷ []) (Eval (record { occ = k; attr = _ })) (h i d l)

    owed-kept : (item : PlanItem) (v : ℕ) (class : VisitClass) (a : AttrId) → 0 < v → v ≤ leaves done → IsClassAt visits r 0 v class → Contains class.synthesized a
        → (u : ℕ) × (u < v) × Stands (done ++ item ∷ []) u (Eval (record { occ = 0; attr = a }))
    owed-kept item v class a p q c s = let f = m.owed v class a p q c s in (f.0, f.1, segment-more f.0 done (item ∷ []) _ f.2)

    -- an item that visits no child
    no-visit : (item : PlanItem) → (variant item ≡ 1 → ⊥) → ((k : ℕ) → is_visit_of k item ≡ false)
        → ((v : ℕ) (class : VisitClass) (a : AttrId) → 0 < v → v ≤ leaves (done ++ item ∷ []) → IsClassAt visits r 0 v class → Contains class.synthesized a
        → (u : ℕ) × (u < v) × Stands (done ++ item ∷ []) u (Eval (record { occ = 0; attr = a })))
        → Made (done ++ item ∷ [])
    no-visit item other none owes = record {
      made = λ k w p q. Contains-append_left done (item ∷ []) (Visit k w) (m.made k w p (let a = visits-no done item k (none k) in omega arith));
      counted = λ k w h. elim (old k w h) [ inl n ↦ (let c = m.counted k w n in let a = visits-push done item k in let d = c.1 in (c.0, (omega arith))) | inr e ↦ absurd (other (ap variant e)) ];
      given = λ k w class h c. elim (old k w h) [ inl n ↦ longer item k class.inherited (m.given k w class n c) | inr e ↦ absurd (other (ap variant e)) ];
      owed = owes;
    }
      where
        old : (k w : ℕ) → Contains (done ++ item ∷ []) (Visit k w) → Contains done (Visit k w) ⊎ (item ≡ Visit k w)
        old k w h = Contains-push_cases done item (Visit k w) h

    by-eval : (o : Occ) → seq ≡ done ++ Eval o ∷ after → Made (done ++ Eval o ∷ [])
    by-eval o e = no-visit (Eval o) (λ h. absurd (omega (arith, h))) (λ k. refl) (λ v class a p q. owed-kept (Eval o) v class a p (let l = leaves-push done (Eval o) in omega arith))

    by-leave : (w : ℕ) → seq ≡ done ++ Leave w ∷ after → Made (done ++ Leave w ∷ [])
    by-leave w e = no-visit (Leave w) (λ h. absurd (omega (arith, h))) (λ k. refl) owes
      where
        owes : (v : ℕ) (class : VisitClass) (a : AttrId) → 0 < v → v ≤ leaves (done ++ Leave w ∷ []) → IsClassAt visits r 0 v class → Contains class.synthesized a
            → (u : ℕ) × (u < v) × Stands (done ++ Leave w ∷ []) u (Eval (record { occ = 0; attr = a }))
        owes v class a p q c s = go (cases_lt (leaves done) v)
          where
            go : (leaves done < v) ⊎ (v ≤ leaves done) → (u : ℕ) × (u < v) × Stands (done ++ Leave w ∷ []) u (Eval (record { occ = 0; attr = a }))
            go (inr old) = owed-kept (Leave w) v class a p old c s
            go (inl new) =
                let five = at-place symbols visits r seq sound done after (Leave w) 5 e in
                let l = leaves-push done (Leave w) in
                let same : v ≡ w = let x = five.0 in omega (arith, x) in
                let all = five.1 class (subst (λ n. IsClassAt visits r 0 n class) same c) in
                let there : Contains done (Eval (record { occ = 0; attr = a })) = All-contains (λ b. IsEvaluated done (record { occ = 0; attr = b })) class.synthesized a all s in
                let f = in-segment done (Eval (record { occ = 0; attr = a })) refl there in
                (f.0, (let y = f.1 in omega arith), segment-more f.0 done (Leave w ∷ []) _ f.2)

    by-visit : (j x : ℕ) → seq ≡ done ++ Visit j x ∷ after → Made (done ++ Visit j x ∷ [])
    by-visit j x e = record {
      made = λ k w p q. elim (cases_lt (visits_made done k) w) [
        | inr old ↦ Contains-append_left done (Visit j x ∷ []) (Visit k w) (m.made k w p old)
        | inl new ↦ made-new k w q new (cases_Bool (nat_eq j k))
      ];
      counted = λ k w h. elim (Contains-push_cases done (Visit j x) (Visit k w) h) [
        | inl n ↦ (let c = m.counted k w n in let a = visits-push done (Visit j x) k in (c.0, (let d = c.1 in omega arith)))
        | inr same ↦ (let f : j ≡ k = ap child_in same in let g : x ≡ w = ap visit_in same in
            let a = visits-yes done (Visit j x) k (eq-eqb j k f) in
            let c : visits_made done j ≡ visits_made done k = ap (λ n. visits_made done n) f in let d = next in ((omega (arith, g, d)), (omega (arith, g, d, c, a))))
      ];
      given = λ k w class h c. elim (Contains-push_cases done (Visit j x) (Visit k w) h) [
        | inl n ↦ longer (Visit j x) k class.inherited (m.given k w class n c)
        | inr same ↦ longer (Visit j x) k class.inherited (given-new k w class (ap child_in same) (ap visit_in same) c)
      ];
      owed = λ v class a p q. owed-kept (Visit j x) v class a p (let l = leaves-push done (Visit j x) in omega arith);
    }
      where
        next : x ≡ suc (visits_made done j)
        next = at-place symbols visits r seq sound done after (Visit j x) 2 e

        made-new : (k w : ℕ) → w ≤ visits_made (done ++ Visit j x ∷ []) k → visits_made done k < w → (nat_eq j k ≡ true) ⊎ (nat_eq j k ≡ false) → Contains (done ++ Visit j x ∷ []) (Visit k w)
        made-new k w q new (inl t) =
            let a = visits-yes done (Visit j x) k t in
            let f : j ≡ k = eqb-true j k t in
            let c : visits_made done j ≡ visits_made done k = ap (λ n. visits_made done n) f in
            let g : x ≡ w = let d = next in omega arith in
            subst (λ z. Contains (done ++ Visit j x ∷ []) z) (λ i. Visit (f i) (g i)) (Contains-push done (Visit j x))
        made-new k w q new (inr t) = let a = visits-no done (Visit j x) k t in absurd (omega arith)

        given-new : (k w : ℕ) (class : VisitClass) → j ≡ k → x ≡ w → IsClassAt visits r k w class → IsEvaluatedAll done k class.inherited
        given-new k w class f g c =
            let three = at-place symbols visits r seq sound done after (Visit j x) 3 e class (subst (λ n. IsClassAt visits r n x class) (sym f) (subst (λ n. IsClassAt visits r k n class) (sym g) c)) in
            subst (λ n. IsEvaluatedAll done n class.inherited) f three

    by-item : (item : PlanItem) → seq ≡ done ++ item ∷ after → Made (done ++ item ∷ [])
    by-item (Eval o) e = by-eval o e
    by-item (Visit j x) e = by-visit j x e
    by-item (Leave w) e = by-leave w e

  made-along : (done items after : List PlanItem) → seq ≡ done ++ (items ++ after) → Made done → Made (done ++ items)
  made-along done [] after e m = subst Made (sym (append-nil done)) m
  made-along done (x ∷ items) after e m =
      subst Made (append_assoc done (x ∷ []) items) (made-along (done ++ x ∷ []) items after (e ∙ sym (append_assoc done (x ∷ []) (items ++ after))) (by-item done (items ++ after) m x e))

  pub made-behind : (before after : List PlanItem) → seq ≡ before ++ after → Made before
  made-behind before after e = made-along [] before after e nothing-made

  pub made-all : Made seq
  made-all = made-behind seq [] (sym (append-nil seq))
