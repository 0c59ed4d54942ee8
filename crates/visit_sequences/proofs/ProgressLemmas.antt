-- Where the extended dependencies have no cycle, the construction never stands still before its visit is done.
use Rattle.std.specs.Prelude.{Contains, slice_get, IsSome}
use Rattle.std.proofs.Common.{◌≡◌, ℕ, suc, ◌<◌, ◌≤◌, ◌⊎◌, inl, inr, List, [], ◌∷◌, length, get_or, Some, None, Bool, true, false, true≢false, refl, arith, ap, sym, subst, ◌∙◌}
use Rattle.std.proofs.lemmas.Bool.{cases_order, cases_lt}
use Rattle.std.proofs.lemmas.Option.{none-some, slice_get_within, slice_get_cases}
use Rattle.std.proofs.lemmas.List.Elements.{All-contains}
use Rattle.lido_base.specs.declared.ids.SymId.{SymId}
use Rattle.lido_base.specs.declared.ids.AttrId.{AttrId}
use Rattle.lido_base.specs.declared.kinds.Kind.TheVariants.{Synthesized}
use Rattle.flat_grammar.specs.declared.flat.Occ.{Occ}
use Rattle.flat_grammar.specs.declared.flat.FlatSymbol.{FlatSymbol}
use Rattle.flat_grammar.specs.declared.flat.FlatRule.{FlatRule}
use Rattle.flat_grammar.specs.declared.flat.Shape.{Shape}
use Rattle.flat_grammar.specs.declared.plan.CycleStep.{CycleStep}
use Rattle.flat_grammar.specs.declared.plan.Label.{Label}
use Rattle.flat_grammar.specs.declared.plan.Label.TheVariants.{Direct, Induced, Partition}
use Rattle.flat_grammar.specs.declared.plan.VisitClass.{VisitClass}
use Rattle.flat_grammar.specs.declared.plan.PlanItem.{PlanItem}
use Rattle.flat_grammar.specs.declared.plan.PlanItem.TheVariants.{Eval, Visit, Leave}
use Rattle.flat_grammar.specs.Rules.{symbol_at, attribute_at}
use Rattle.flat_grammar.specs.WellFormed.{IsWellFormed, attribute_of}
use Rattle.flat_grammar.specs.Dependencies.{DP, IDS}
use Rattle.flat_grammar.specs.Cycles.{EDP, direct, induced, partition, IsAcyclic}
use Rattle.flat_grammar.specs.Partition.{HasKind, IsEarlier, AreVisits, AreAllVisits}
use Rattle.flat_grammar.specs.SoundPlan.{goals_of, segment_after, visits_made, IsEvaluated, IsEvaluatedAll, IsClassAt, IsAtHand}
use Rattle.flat_grammar.specs.Construction.{IsLeft, IsOfUse, IsReadyVisit, IsLastSegment, HasReady}
use Rattle.flat_grammar.proofs.Lists.{held, contains-nil, contains-cons, contains-first, contains-later}
use Rattle.visit_sequences.proofs.ClosedWalks.{start, Distinct, Leads, same_occ-or, all-from_each, no-closed_walk, nowhere}
use Rattle.visit_sequences.proofs.Classes.{contains-or, some-is, attribute-nonterminal, row-there, synthesized-kind, inherited-kind, inherited-before, synthesized-before, stands}
use Rattle.visit_sequences.proofs.Occurrences.{symbol-there, attribute-is, vertices, vertex-there, goal-attribute, left-goal, right-goal, edge-attribute}

-- what an evaluation evaluates
abbrev pub evaluated-by : PlanItem → Occ → Occ
evaluated-by (Eval p) o = p
evaluated-by (Visit k v) o = o
evaluated-by (Leave v) o = o

abbrev pub is_evaluation : PlanItem → Bool
is_evaluation (Eval p) = true
is_evaluation (Visit k v) = false
is_evaluation (Leave v) = false

evaluation-or : (o : Occ) (x : PlanItem) → (x ≡ Eval o) ⊎ (x ≡ Eval o → ⊥)
evaluation-or o (Eval p) = elim (same_occ-or p o) [ inl e ↦ inl (ap Eval e) | inr n ↦ inr (λ e. n (ap (λ x. evaluated-by x o) e)) ]
evaluation-or o (Visit k v) = inr (λ e. true≢false (sym (ap is_evaluation e)))
evaluation-or o (Leave v) = inr (λ e. true≢false (sym (ap is_evaluation e)))

pub evaluated-or : (before : List PlanItem) (o : Occ) → IsEvaluated before o ⊎ (IsEvaluated before o → ⊥)
evaluated-or before o = contains-or before (Eval o) (evaluation-or o)

module _ (before : List PlanItem) (k : ℕ) where
  abbrev Done : AttrId → Type 0
  Done a = IsEvaluated before (record { occ = k; attr = a })

  -- all these attributes are evaluated, or one of them is not
  pub evaluated_all-or : (attrs : List AttrId) → IsEvaluatedAll before k attrs ⊎ ((a : AttrId) × Contains attrs a × (Done a → ⊥))
  evaluated_all-or [] = inl (all-from_each Done [] (λ a m. absurd (contains-nil a m)))
  evaluated_all-or (a ∷ rest) = pick (evaluated-or before (record { occ = k; attr = a })) (evaluated_all-or rest)
    where
      pick : Done a ⊎ (Done a → ⊥) → (IsEvaluatedAll before k rest ⊎ ((b : AttrId) × Contains rest b × (Done b → ⊥))) → IsEvaluatedAll before k (a ∷ rest) ⊎ ((b : AttrId) × Contains (a ∷ rest) b × (Done b → ⊥))
      pick (inr n) other = inr (a, contains-first a rest, n)
      pick (inl d) (inr (b, m, n)) = inr (b, contains-later a b rest m, n)
      pick (inl d) (inl all) = inl (all-from_each Done (a ∷ rest) (λ b m. elim (contains-cons a b rest m) [ inl e ↦ subst Done e d | inr i ↦ All-contains Done rest b all i ]))

module _ (symbols : List FlatSymbol) (rules : List FlatRule) (shapes : List Shape) (root : SymId) (w : IsWellFormed symbols rules shapes root)
    (visits : List (List VisitClass)) (all : AreAllVisits symbols rules visits) (r : FlatRule) (among : Contains rules r) where
  -- of two attributes of an occurrence, the one of an earlier class has an edge to the other
  pub edge-between : (u v : Occ) (x : SymId) → u.occ ≡ v.occ → symbol_at r u.occ ≡ Some x → IsEarlier symbols rules x u.attr v.attr → ((label : Label) → EDP symbols rules r u v label → ⊥) → ⊥
  edge-between u v x same at e none =
      let not_direct : DP r u v → ⊥ = λ d. none Direct (direct d) in
      let not_induced : IDS rules x u.attr v.attr → ⊥ = λ i. none Induced (induced not_direct same at i) in
      none Partition (partition not_direct same at not_induced e)

  -- the row of an occurrence with a class
  abbrev Row : ℕ → ℕ → VisitClass → Type 0
  Row k v class = (s : SymId) × (row : List VisitClass) × (symbol_at r k ≡ Some s) × (slice_get visits s.0 ≡ Some row) × (slice_get row v ≡ Some class) × AreVisits symbols rules s row

  -- a symbol with a class is a nonterminal, and its row is that of the partition
  pub row-at : (k v : ℕ) (class : VisitClass) → IsClassAt visits r k (suc v) class → Row k v class
  row-at k v class (s, row, at, e, f) = (s, row, at, e, f, (all.1 s row e).0 (nonterminal (Rattle.flat_grammar.specs.WellFormed.is_nonterminal symbols s) refl))
    where
      nonterminal : (b : Bool) → Rattle.flat_grammar.specs.WellFormed.is_nonterminal symbols s ≡ b → Rattle.flat_grammar.specs.WellFormed.is_nonterminal symbols s ≡ true
      nonterminal true g = g
      nonterminal false g = absurd (none-some class (sym (ap (λ (l : List VisitClass). slice_get l v) ((all.1 s row e).1 g)) ∙ f))

  module _ (before : List PlanItem) where
    abbrev Of_child : Occ → Type 0
    Of_child o = (0 < o.occ) × (v : ℕ) × (class : VisitClass) × (visits_made before o.occ ≤ v) × IsClassAt visits r o.occ (suc v) class × Contains class.synthesized o.attr

    abbrev Of_left : Occ → Type 0
    Of_left o = (o.occ ≡ 0) × (v : ℕ) × (class : VisitClass) × (segment_after before ≤ v) × IsClassAt visits r 0 (suc v) class × Contains class.inherited o.attr

    -- It has no value yet: a goal that isn't evaluated, or synthesized by a child's later visit, or inherited by the left side in a later one.
    abbrev Blocked : Occ → Type 0
    Blocked o = IsLeft symbols rules visits r before o ⊎ (Of_child o ⊎ Of_left o)

    -- an attribute occurrence is at hand or blocked
    at_hand-or : (o : Occ) → IsSome (attribute_of symbols r o) → IsAtHand visits r before o ⊎ Blocked o
    at_hand-or o h = go (symbol-there symbols r o h)
      where
        goal : Contains (goals_of r) o → IsAtHand visits r before o ⊎ Blocked o
        goal m = elim (evaluated-or before o) [ inl e ↦ inl (inl e) | inr n ↦ inr (inl (m, n)) ]

        go : (s : SymId) × (symbol_at r o.occ ≡ Some s) × IsSome (attribute_at symbols s o.attr) → IsAtHand visits r before o ⊎ Blocked o
        go (s, at, some) = place (row-there symbols rules visits all s (attribute-nonterminal symbols rules shapes root w s o.attr some))
          where
            place : (row : List VisitClass) × (slice_get visits s.0 ≡ Some row) × AreVisits symbols rules s row → IsAtHand visits r before o ⊎ Blocked o
            place (row, e, are) = side (cases_order o.occ 0) (stands symbols rules s row are o.attr some)
              where
                left : o.occ ≡ 0 → (k : ℕ) (c : VisitClass) → slice_get row k ≡ Some c → (Contains c.inherited o.attr ⊎ Contains c.synthesized o.attr) → IsAtHand visits r before o ⊎ Blocked o
                left z k c f (inl m) = elim (cases_lt k (segment_after before)) [
                  | inl l ↦ inl (inr (inr (z, suc k, c, l, (s, row, (ap (λ n. symbol_at r n) (sym z) ∙ at), e, f), m)))
                  | inr g ↦ inr (inr (inr (z, k, c, g, (s, row, (ap (λ n. symbol_at r n) (sym z) ∙ at), e, f), m)))
                ]
                left z k c f (inr m) =
                    let same : s ≡ r.left = held (sym (ap (λ n. symbol_at r n) (sym z) ∙ at)) in
                    goal (subst (λ n. Contains (goals_of r) (record { occ = n; attr = o.attr })) (sym z)
                    (left-goal symbols rules shapes root w r among o.attr (subst (λ q. HasKind symbols q Synthesized o.attr) same (synthesized-kind symbols rules s row are k c o.attr f m))))

                right : 0 < o.occ → (k : ℕ) (c : VisitClass) → slice_get row k ≡ Some c → (Contains c.inherited o.attr ⊎ Contains c.synthesized o.attr) → IsAtHand visits r before o ⊎ Blocked o
                right z k c f (inl m) = goal (right-goal symbols rules shapes root w r among o.occ s o.attr z at (inherited-kind symbols rules s row are k c o.attr f m))
                right z k c f (inr m) = elim (cases_lt k (visits_made before o.occ)) [
                  | inl l ↦ inl (inr (inl (z, suc k, c, l, (s, row, at, e, f), m)))
                  | inr g ↦ inr (inr (inl (z, k, c, g, (s, row, at, e, f), m)))
                ]

                side : (o.occ ≡ 0) ⊎ ((o.occ < 0) ⊎ (0 < o.occ)) → (k : ℕ) × (c : VisitClass) × (slice_get row k ≡ Some c) × (Contains c.inherited o.attr ⊎ Contains c.synthesized o.attr) → IsAtHand visits r before o ⊎ Blocked o
                side (inl z) (k, c, f, m) = left z k c f m
                side (inr (inl l)) other = absurd (omega (arith, l))
                side (inr (inr l)) (k, c, f, m) = right l k c f m

    blocked-attribute : (o : Occ) → Blocked o → IsSome (attribute_of symbols r o)
    blocked-attribute o (inl (m, n)) = goal-attribute symbols rules shapes root w r among o m
    blocked-attribute o (inr (inl (z, v, c, l, at, m))) =
        let p = row-at o.occ v c at in let k = synthesized-kind symbols rules p.0 p.1 p.5 v c o.attr p.4 m in
        some-is (attribute_of symbols r o) k.0 (attribute-is symbols r o p.0 p.2 ∙ k.1)
    blocked-attribute o (inr (inr (z, v, c, l, at, m))) =
        let p = row-at 0 v c at in let k = inherited-kind symbols rules p.0 p.1 p.5 v c o.attr p.4 m in
        some-is (attribute_of symbols r o) k.0 (attribute-is symbols r o p.0 (ap (λ n. symbol_at r n) z ∙ p.2) ∙ k.1)

    module _ (acyclic : IsAcyclic symbols rules r) (quiet : HasReady symbols rules visits r before → ⊥) (silent : (k v : ℕ) → IsReadyVisit symbols rules visits r before k v → ⊥) where
      -- a visit that isn't ready waits for a goal
      waiting : (o : Occ) → Of_child o → ((p : Occ) (label : Label) → EDP symbols rules r p o label → Blocked p → ⊥) → ⊥
      waiting o (z, v, c, l, at, m) again = go (row-at o.occ v c at)
        where
          n : ℕ
          n = visits_made before o.occ

          go : Row o.occ v c → ⊥
          go (s, row, place, e, f, are) = next (slice_get_cases row (visits_made before o.occ)).1
            where
              next : ((d : VisitClass) × (visits_made before o.occ < length row) × (slice_get row (visits_made before o.occ) ≡ Some d) × (get_or row (visits_made before o.occ) d ≡ d))
                  ⊎ ((length row ≤ visits_made before o.occ) × (slice_get row (visits_made before o.occ) ≡ None)) → ⊥
              next (inr (g, h)) = let i = slice_get_within row v c f in omega (arith, g, i, l)
              next (inl (d, g, h, i)) = pick (evaluated_all-or before o.occ d.inherited)
                where
                  class-there : IsClassAt visits r o.occ (suc (visits_made before o.occ)) d
                  class-there = (s, row, place, e, h)

                  of_use : IsOfUse symbols rules visits r before o.occ (suc (visits_made before o.occ))
                  of_use = (suc v, c, (omega (arith, l)), at, (λ empty. contains-nil o.attr (subst (λ xs. Contains xs o.attr) empty m)))

                  pick : IsEvaluatedAll before o.occ d.inherited ⊎ ((a : AttrId) × Contains d.inherited a × (IsEvaluated before (record { occ = o.occ; attr = a }) → ⊥)) → ⊥
                  pick (inl done) = silent o.occ (suc (visits_made before o.occ)) (d, (z, refl, class-there), done, of_use)
                  pick (inr (a, k, not_done)) =
                      edge-between (record { occ = o.occ; attr = a }) o s refl place (inherited-before symbols rules s row are (visits_made before o.occ) v d c a o.attr h f l k m)
                      (λ label edge. again (record { occ = o.occ; attr = a }) label edge
                      (inl ((right-goal symbols rules shapes root w r among o.occ s a z place (inherited-kind symbols rules s row are (visits_made before o.occ) d a h k)), not_done)))

      -- a goal that isn't ready waits for something
      unready : (o : Occ) → IsLeft symbols rules visits r before o → ((p : Occ) (label : Label) → EDP symbols rules r p o label → Blocked p → ⊥) → ⊥
      unready o left again = quiet (o, (left, (λ u label e. elim (at_hand-or u (edge-attribute symbols rules shapes root w r among u o label e)) [ inl h ↦ h | inr b ↦ absurd (again u label e b) ])))

      -- nothing is blocked from which steps lead to a target that waits for no later visit of the left side
      never-blocked : (target : Occ) → ((steps : List CycleStep) → Leads symbols rules r steps target → Distinct steps → ((q : CycleStep) → Contains steps q → q.from ≡ target → ⊥) → Of_left (start steps target) → ⊥) → Blocked target → ⊥
      never-blocked target near = nowhere symbols rules r acyclic Blocked target step (vertices symbols r) (λ p b. vertex-there symbols r p (blocked-attribute p b))
        where
          step : (steps : List CycleStep) → Leads symbols rules r steps target → Distinct steps → ((q : CycleStep) → Contains steps q → q.from ≡ target → ⊥) → Blocked (start steps target)
              → ((p : Occ) (label : Label) → EDP symbols rules r p (start steps target) label → Blocked p → ⊥) → ⊥
          step steps leads distinct apart (inl left) again = unready (start steps target) left again
          step steps leads distinct apart (inr (inl child)) again = waiting (start steps target) child again
          step steps leads distinct apart (inr (inr later)) again = near steps leads distinct apart later

      -- what the visit synthesizes is evaluated
      pub class-done : (class : VisitClass) (v : ℕ) → segment_after before ≡ suc v → IsClassAt visits r 0 (suc v) class → (a : AttrId) → Contains class.synthesized a → IsEvaluated before (record { occ = 0; attr = a })
      class-done class v seg at a m = pick (evaluated-or before (record { occ = 0; attr = a }))
        where
          target : Occ
          target = record { occ = 0; attr = a }

          pick : IsEvaluated before (record { occ = 0; attr = a }) ⊎ (IsEvaluated before (record { occ = 0; attr = a }) → ⊥) → IsEvaluated before (record { occ = 0; attr = a })
          pick (inl e) = e
          pick (inr n) = absurd (go (row-at 0 v class at))
            where
              go : Row 0 v class → ⊥
              go (s, row, place, e, f, are) = never-blocked (record { occ = 0; attr = a }) near (inl (goal, n))
                where
                  goal : Contains (goals_of r) (record { occ = 0; attr = a })
                  goal = left-goal symbols rules shapes root w r among a (subst (λ q. HasKind symbols q Synthesized a) (held (sym place)) (synthesized-kind symbols rules s row are v class a f m))

                  near : (steps : List CycleStep) → Leads symbols rules r steps (record { occ = 0; attr = a }) → Distinct steps → ((q : CycleStep) → Contains steps q → q.from ≡ record { occ = 0; attr = a } → ⊥) → Of_left (start steps (record { occ = 0; attr = a })) → ⊥
                  near steps leads distinct apart (z, x, c, l, (s', row', place', e', f'), k) =
                      let same : s' ≡ s = held (sym place' ∙ place) in
                      let rows : row' ≡ row = held (sym e' ∙ (ap (λ (q : SymId). slice_get visits q.0) same ∙ e)) in
                      let there : slice_get row x ≡ Some c = ap (λ (l : List VisitClass). slice_get l x) (sym rows) ∙ f' in
                      let u : Occ = start steps (record { occ = 0; attr = a }) in
                      edge-between (record { occ = 0; attr = a }) u s (sym z) place (synthesized-before symbols rules s row are v x class c a u.attr f there (omega (arith, l, seg)) m k)
                      (λ label edge. no-closed_walk symbols rules r acyclic (record { from = record { occ = 0; attr = a }; label = label }) steps (edge, leads) ((λ q i h. apart q i (sym h)), distinct))

      -- in the last visit all goals are evaluated
      pub all-done : IsLastSegment symbols rules visits r before → (o : Occ) → Contains (goals_of r) o → IsEvaluated before o
      all-done (row, e, last) o m = pick (evaluated-or before o)
        where
          near : (steps : List CycleStep) → Leads symbols rules r steps o → Distinct steps → ((q : CycleStep) → Contains steps q → q.from ≡ o → ⊥) → Of_left (start steps o) → ⊥
          near steps leads distinct apart (z, x, c, l, (s, row', place, e', f), k) =
              let same : row' ≡ row = held (sym e' ∙ (ap (λ (q : SymId). slice_get visits q.0) (held (sym place)) ∙ e)) in
              let within = slice_get_within row x c (ap (λ (l : List VisitClass). slice_get l x) (sym same) ∙ f) in omega (arith, l, last, within)

          pick : IsEvaluated before o ⊎ (IsEvaluated before o → ⊥) → IsEvaluated before o
          pick (inl d) = d
          pick (inr n) = absurd (never-blocked o near (inl (m, n)))
