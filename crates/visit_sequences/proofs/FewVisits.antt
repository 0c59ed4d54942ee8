-- A symbol has no more visits than attributes of both kinds, and each goal has its place in the sets.
use Rattle.std.specs.Prelude.{Contains, slice_get, unwrap_or, option_and_then, IsSome, flat_map, map, ◌*◌, ◌==◌}
use Rattle.std.specs.List.{list_any, IsDistinct, AllByRecursion}
use Rattle.std.proofs.Common.{◌≡◌, ℕ, zero, suc, ◌<◌, ◌≤◌, ◌+◌, inl, inr, List, [], ◌∷◌, length, Option, Some, None, true, false, true≢false, refl, arith, ap, sym, subst, length-append}
use Rattle.std.proofs.lemmas.Bool.{cases_lt, or_cases, false_from_ne_true, eqb-true, cases_Bool}
use Rattle.std.proofs.lemmas.Option.{slice_get_within}
use Rattle.std.proofs.lemmas.Map.Steps.{length-le_from_distinct_below}
use Rattle.lido_base.specs.declared.ids.SymId.{SymId}
use Rattle.lido_base.specs.declared.ids.AttrId.{AttrId}
use Rattle.lido_base.specs.declared.kinds.Kind.{Kind}
use Rattle.lido_base.specs.declared.kinds.Kind.TheVariants.{Synthesized, Inherited}
use Rattle.flat_grammar.specs.declared.flat.FlatSymbol.{FlatSymbol}
use Rattle.flat_grammar.specs.declared.flat.FlatRule.{FlatRule}
use Rattle.flat_grammar.specs.declared.flat.Shape.{Shape}
use Rattle.flat_grammar.specs.declared.plan.VisitClass.{VisitClass}
use Rattle.flat_grammar.specs.Rules.{symbol_at, symbols_of, attribute_at}
use Rattle.flat_grammar.specs.WellFormed.{IsWellFormed, is_nonterminal}
use Rattle.flat_grammar.specs.Partition.{IsPeeled, PeelsAll, IsClass, AreVisits, AreAllVisits}
use Rattle.flat_grammar.specs.SoundPlan.{of_kind}
use Rattle.lido_base.proofs.Lists.{map-contains}
use Rattle.flat_grammar.proofs.Lists.{contains-nil, contains-first, contains-later}
use Rattle.flat_grammar.proofs.PeelingLemmas.{last-pair}
use Rattle.visit_sequences.specs.declared.goals.Goal.{Goal}
use Rattle.visit_sequences.specs.Steps.{AreGoals, AreWithin, visits_there}
use Rattle.visit_sequences.proofs.Classes.{some-is, classes-of, search-classes}
use Rattle.visit_sequences.proofs.RowLemmas.{Once, synthesized-once, inherited-once, row-kind}
use Rattle.visit_sequences.proofs.ChoiceLemmas.{empty-list}
use Rattle.visit_sequences.proofs.Occurrences.{goal-attribute, symbol-there}
use Rattle.visit_sequences.proofs.GoalLemmas.{few, few-at}

-- one of the numbers is that of an attribute of the list
any-number : (n : ℕ) (xs : List AttrId) → list_any (λ k. n == k) (map (λ (a : AttrId). a.0) xs) ≡ true → (a : AttrId) × Contains xs a × (n ≡ a.0)
any-number n [] h = absurd (true≢false (sym h))
any-number n (x ∷ xs) h = elim (or_cases (n == x.0) (list_any (λ k. n == k) (map (λ (a : AttrId). a.0) xs)) h) [
  | inl e ↦ (x, contains-first x xs, eqb-true n x.0 e)
  | inr k ↦ (let p = any-number n xs k in (p.0, contains-later x p.0 xs p.1, p.2))
]

once-distinct : (xs : List AttrId) → Once xs → IsDistinct (λ n k. n == k) (map (λ (a : AttrId). a.0) xs)
unfolding IsDistinct
once-distinct [] h = tt
once-distinct (x ∷ xs) h = (apart xs (λ b m. h.0 b m), once-distinct xs h.1)
  where
    apart : (ys : List AttrId) → ((b : AttrId) → Contains ys b → x ≡ b → ⊥) → AllByRecursion (λ n. (x.0 == n) ≡ false) (map (λ (a : AttrId). a.0) ys)
    apart [] other = tt
    apart (y ∷ ys) other = (false_from_ne_true (x.0 == y.0) (λ e. other y (contains-first y ys) (let f = eqb-true x.0 y.0 e in λ i. record { 0 = f i })), apart ys (λ b m. other b (contains-later y b ys m)))

-- so many attributes are there at most
pub few-once : (xs : List AttrId) (n : ℕ) → Once xs → ((a : AttrId) → Contains xs a → a.0 < n) → length xs ≤ n
few-once xs n once below =
    let l = length-le_from_distinct_below (map (λ (a : AttrId). a.0) xs) n (once-distinct xs once) (λ q e. let p = any-number q xs e in let b = below p.0 p.1 in let f = p.2 in omega (arith, b, f)) in
    let m = as-long xs in omega (arith, l, m)
  where
    as-long : (xs : List AttrId) → length (map (λ (a : AttrId). a.0) xs) ≡ length xs
    as-long [] = refl
    as-long (x ∷ xs) = ap suc (as-long xs)

-- visits in each of which something passes are no more than what passes in them
counted : (row : List VisitClass) → ((k : ℕ) (c : VisitClass) → slice_get row k ≡ Some c → c.synthesized ≡ [] → c.inherited ≡ [] → ⊥)
    → length row ≤ length (flat_map (λ (c : VisitClass). c.synthesized) row) + length (flat_map (λ (c : VisitClass). c.inherited) row)
counted [] some = omega arith
counted (c ∷ row) some =
    let rest = counted row (λ k d e. some (suc k) d e) in
    let a = length-append c.synthesized (flat_map (λ (c : VisitClass). c.synthesized) row) in
    let b = length-append c.inherited (flat_map (λ (c : VisitClass). c.inherited) row) in
    elim (cases_lt 0 (length c.synthesized + length c.inherited)) [
      | inl l ↦ omega (arith, rest, a, b, l)
      | inr none ↦ absurd (some zero c refl (empty-list c.synthesized (omega (arith, none))) (empty-list c.inherited (omega (arith, none))))
    ]

module _ (symbols : List FlatSymbol) (rules : List FlatRule) (x : SymId) (row : List VisitClass) (are : AreVisits symbols rules x row) where
  -- where there are two visits, something passes in each
  something : 1 < length row → (k : ℕ) (c : VisitClass) → slice_get row k ≡ Some c → c.synthesized ≡ [] → c.inherited ≡ [] → ⊥
  something two k c e no_synthesized no_inherited = go p.0 refl
    where
      p : (j : ℕ) × (j + suc k ≡ length row) × IsClass symbols rules x (2 * j) c.synthesized × IsClass symbols rules x (2 * j + 1) c.inherited
      p = classes-of symbols rules x row are k c e

      stays : (a : AttrId) → IsPeeled symbols rules x (suc (suc (2 * p.0))) a → IsPeeled symbols rules x (2 * p.0) a
      stays a h = elim (search-classes symbols rules x row are a p.0 (let s = p.1 in omega (arith, s))) [ inl q ↦ q.1 | inr none ↦ absurd (second none) ]
        where
          first : (IsPeeled symbols rules x (2 * p.0) a → ⊥) → IsPeeled symbols rules x (suc (2 * p.0)) a → ⊥
          first none q = contains-nil a (subst (λ xs. Contains xs a) no_synthesized ((p.2.same a).1 (q, none)))

          second : (IsPeeled symbols rules x (2 * p.0) a → ⊥) → ⊥
          second none =
              let next : suc (suc (2 * p.0)) ≡ suc (2 * p.0 + 1) = omega arith in
              let here : 2 * p.0 + 1 ≡ suc (2 * p.0) = omega arith in
              contains-nil a (subst (λ xs. Contains xs a) no_inherited ((p.3.same a).1 (subst (λ i. IsPeeled symbols rules x i a) next h, (λ r. first none (subst (λ i. IsPeeled symbols rules x i a) here r)))))

      all : PeelsAll symbols rules x (2 * p.0)
      all a some = last-pair symbols rules x p.0 stays (2 * length row) a (are.all a some)

      go : (j : ℕ) → p.0 ≡ j → ⊥
      go zero f =
          let none : (a : AttrId) → IsSome (attribute_at symbols x a) → ⊥ = λ a some. subst (λ j. IsPeeled symbols rules x (2 * j) a) f (all a some) in
          let h = are.fewest 1 (λ a some. absurd (none a some)) (omega arith) in omega (arith, h, two)
      go (suc j) f = let h = are.fewest p.0 all (omega (arith, f)) in let s = p.1 in omega (arith, h, s)

module _ (symbols : List FlatSymbol) (rules : List FlatRule) (shapes : List Shape) (root : SymId) (w : IsWellFormed symbols rules shapes root) where
  few-of : (x : SymId) (row : List VisitClass) → AreVisits symbols rules x row → length row ≤ 512
  few-of x row are = elim (cases_lt 1 (length row)) [
    | inl two ↦
        let n = counted row (something symbols rules x row are two) in
        let a = few-once (flat_map (λ (c : VisitClass). c.synthesized) row) 256 (synthesized-once symbols rules x row are) (below Synthesized) in
        let b = few-once (flat_map (λ (c : VisitClass). c.inherited) row) 256 (inherited-once symbols rules x row are) (below Inherited) in omega (arith, n, a, b)
    | inr one ↦ omega (arith, one)
  ]
    where
      below : (kind : Kind) (a : AttrId) → Contains (of_kind kind row) a → a.0 < 256
      below kind a m = let h = row-kind symbols rules x row are kind a m in few symbols rules shapes root w x a (some-is (attribute_at symbols x a) h.0 h.1)

  module _ (visits : List (List VisitClass)) (all : AreAllVisits symbols rules visits) where
    few-row : (x : SymId) (row : List VisitClass) → slice_get visits x.0 ≡ Some row → length row ≤ 512
    few-row x row e = elim (cases_Bool (is_nonterminal symbols x)) [
      | inl t ↦ few-of x row ((all.1 x row e).0 t)
      | inr f ↦ (let n = ap (λ (l : List VisitClass). length l) ((all.1 x row e).1 f) in omega (arith, n))
    ]

    pub few-visits : (r : FlatRule) (k : ℕ) → length (visits_there visits r k) ≤ 512
    few-visits r k = go (symbol_at r k)
      where
        at : (x : SymId) (o : Option (List VisitClass)) → slice_get visits x.0 ≡ o → length (unwrap_or o []) ≤ 512
        at x None e = omega arith
        at x (Some row) e = few-row x row e

        go : (s : Option SymId) → length (unwrap_or (option_and_then (λ (x : SymId). slice_get visits x.0) s) []) ≤ 512
        go None = omega arith
        go (Some x) = at x (slice_get visits x.0) refl

  -- each goal of the rule has its place in the sets
  pub goals-within : (r : FlatRule) → Contains rules r → (goals : List Goal) → AreGoals symbols rules r goals → (n : ℕ) → length (symbols_of r) ≡ n → AreWithin goals n
  goals-within r among goals are n e g m =
      let among_goals = subst (λ l. Contains l g.goal) are.all (map-contains (λ (h : Goal). h.goal) goals g m) in
      let some = goal-attribute symbols rules shapes root w r among g.goal among_goals in
      let s = symbol-there symbols r g.goal some in
      let l = slice_get_within (symbols_of r) g.goal.occ s.0 s.1 in
      (subst (λ k. g.goal.occ < k) e l, few-at symbols rules shapes root w r g.goal some)
