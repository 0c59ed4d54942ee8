-- What a sound plan keeps, and that a plan has one first fault.
use Rattle.std.specs.Prelude.{Contains, slice_get}
use Rattle.std.specs.List.{AllZip}
use Rattle.std.proofs.Common.{◌≡◌, ℕ, ◌<◌, ◌⊎◌, inl, inr, List, [], ◌∷◌, ◌++◌, length, take, Some, refl, arith, ap, sym, subst, ◌∙◌}
use Rattle.std.proofs.lemmas.Bool.{cases_order}
use Rattle.std.proofs.lemmas.Option.{slice_get_past, slice_get_within}
use Rattle.std.proofs.lemmas.List.{take_at, take_all}
use Rattle.std.proofs.lemmas.List.Elements.{All-contains}
use Rattle.flat_grammar.specs.declared.flat.Occ.{Occ}
use Rattle.flat_grammar.specs.declared.flat.FlatSymbol.{FlatSymbol}
use Rattle.flat_grammar.specs.declared.flat.FlatRule.{FlatRule}
use Rattle.flat_grammar.specs.declared.plan.VisitClass.{VisitClass}
use Rattle.flat_grammar.specs.declared.plan.PlanItem.{PlanItem}
use Rattle.flat_grammar.specs.declared.plan.PlanItem.TheVariants.{Eval}
use Rattle.flat_grammar.specs.SoundPlan.{IsEvaluated, goals_of, Allows, AllowsNext, AllowsEnd, IsSoundSequence, IsFault, IsSound, IsUnsound, of_rows, of_rule}
use Rattle.flat_grammar.proofs.Lists.{held, contains-take, slice_get-contains, slice_get-take, AllZip-at}

get-behind : {A : Type 0} (xs ys : List A) (x : A) → slice_get (xs ++ x ∷ ys) (length xs) ≡ Some x
get-behind [] ys x = refl
get-behind (y ∷ xs) ys x = get-behind xs ys x

module _ (symbols : List FlatSymbol) (visits : List (List VisitClass)) (r : FlatRule) (seq : List PlanItem) where
  at-number : (sound : IsSoundSequence symbols visits r seq) (place : ℕ) (item : PlanItem) (clause : ℕ) → slice_get seq place ≡ Some item → AllowsNext symbols visits r clause (take place seq) (Some item)
  at-number sound place item clause e = let h = slice_get_within seq place item e in subst (λ o. AllowsNext symbols visits r clause (take place seq) o) e (sound place clause (omega arith))

  -- each item of a sound sequence is allowed by all that stand before it
  pub at-place : (sound : IsSoundSequence symbols visits r seq) (before after : List PlanItem) (item : PlanItem) (clause : ℕ) → seq ≡ before ++ item ∷ after → Allows symbols visits r clause before item
  at-place sound before after item clause e =
      let n = length before in
      let front : take n seq ≡ before = ap (λ l. take n l) e ∙ take_at before (item ∷ after) n refl in
      let next : slice_get seq n ≡ Some item = ap (λ l. slice_get l n) e ∙ get-behind before after item in
      subst (λ l. Allows symbols visits r clause l item) front (at-number sound n item clause next)

  -- a sound sequence may end where it ends
  pub at-end : (sound : IsSoundSequence symbols visits r seq) (clause : ℕ) → AllowsEnd symbols visits r clause seq
  at-end sound clause =
      subst (λ before. AllowsEnd symbols visits r clause before) (take_all (length seq) seq (omega arith))
      (subst (λ o. AllowsNext symbols visits r clause (take (length seq) seq) o) (slice_get_past seq (length seq) (omega arith)) (sound (length seq) clause (omega arith)))

  -- an item of a sound sequence evaluates a goal alone
  pub goals-alone : IsSoundSequence symbols visits r seq → (place : ℕ) (o : Occ) → slice_get seq place ≡ Some (Eval o) → Contains (goals_of r) o
  goals-alone sound place o e = (at-number sound place (Eval o) 1 e).0

  earlier-none : IsSoundSequence symbols visits r seq → (j k : ℕ) (o : Occ) → slice_get seq j ≡ Some (Eval o) → slice_get seq k ≡ Some (Eval o) → j < k → ⊥
  earlier-none sound j k o e f h = (at-number sound k (Eval o) 1 f).1 (contains-take seq j k (Eval o) e h)

  -- a sound sequence evaluates each goal at exactly one place
  pub goals-once : IsSoundSequence symbols visits r seq → (o : Occ) → Contains (goals_of r) o
      → (place : ℕ) × (slice_get seq place ≡ Some (Eval o)) × ((other : ℕ) → slice_get seq other ≡ Some (Eval o) → other ≡ place)
  goals-once sound o m = (p.0, p.1, only)
    where
      p : (place : ℕ) × (slice_get seq place ≡ Some (Eval o))
      p = slice_get-contains seq (Eval o) (All-contains (IsEvaluated seq) (goals_of r) o (at-end sound 1) m)

      only : (other : ℕ) → slice_get seq other ≡ Some (Eval o) → other ≡ p.0
      only other e = go (cases_order other p.0)
        where
          go : (other ≡ p.0) ⊎ ((other < p.0) ⊎ (p.0 < other)) → other ≡ p.0
          go (inl same) = same
          go (inr (inl l)) = absurd (earlier-none sound other p.0 o e p.1 l)
          go (inr (inr g)) = absurd (earlier-none sound p.0 other o p.1 e g)

  -- a sequence has one first fault
  pub IsFault-only : (p c q d : ℕ) → IsFault symbols visits r seq p c → IsFault symbols visits r seq q d → (p ≡ q) × (c ≡ d)
  IsFault-only p c q d f g = places (cases_order p q)
    where
      clauses : p ≡ q → (c ≡ d) ⊎ ((c < d) ⊎ (d < c)) → c ≡ d
      clauses e (inl same) = same
      clauses e (inr (inl l)) = absurd (f.broken (subst (λ n. AllowsNext symbols visits r c (take n seq) (slice_get seq n)) (sym e) (g.first_clause c l)))
      clauses e (inr (inr l)) = absurd (g.broken (subst (λ n. AllowsNext symbols visits r d (take n seq) (slice_get seq n)) e (f.first_clause d l)))

      places : (p ≡ q) ⊎ ((p < q) ⊎ (q < p)) → (p ≡ q) × (c ≡ d)
      places (inl e) = (e, clauses e (cases_order c d))
      places (inr (inl l)) = absurd (f.broken (g.first_place p c l))
      places (inr (inr l)) = absurd (g.broken (f.first_place q d l))

  pub sound-no_fault : IsSoundSequence symbols visits r seq → (p c : ℕ) → IsFault symbols visits r seq p c → ⊥
  sound-no_fault sound p c f = f.broken (sound p c f.within)

module _ (symbols : List FlatSymbol) (rules : List FlatRule) (visits : List (List VisitClass)) (seqs : List (List PlanItem)) where
  Sound : FlatRule → List PlanItem → Type 0
  Sound r seq = IsSoundSequence symbols visits r seq

  before-fault : (i j p c : ℕ) (r : FlatRule) (seq : List PlanItem) → i < j → AllZip (IsSoundSequence symbols visits) (take j rules) (take j seqs) → slice_get rules i ≡ Some r → slice_get seqs i ≡ Some seq
      → IsFault symbols visits r seq p c → ⊥
  before-fault i j p c r seq h all e f fault =
      sound-no_fault symbols visits r seq (AllZip-at (IsSoundSequence symbols visits) (take j rules) (take j seqs) i r seq all (slice_get-take rules j i h ∙ e) (slice_get-take seqs j i h ∙ f)) p c fault

  -- a plan has one first fault
  pub IsUnsound-only : (i p c j q d : ℕ) → IsUnsound symbols rules visits seqs i p c → IsUnsound symbols rules visits seqs j q d → (i ≡ j) × (p ≡ q) × (c ≡ d)
  IsUnsound-only i p c j q d (of_rows n) (of_rows m) = (refl, refl, refl)
  IsUnsound-only i p c j q d (of_rows n) (of_rule r seq rows _ _ _ _) = absurd (n rows)
  IsUnsound-only i p c j q d (of_rule r seq rows _ _ _ _) (of_rows n) = absurd (n rows)
  IsUnsound-only i p c j q d (of_rule r seq rows e f fault all) (of_rule r' seq' rows' e' f' fault' all') = go (cases_order i j)
    where
      go : (i ≡ j) ⊎ ((i < j) ⊎ (j < i)) → (i ≡ j) × (p ≡ q) × (c ≡ d)
      go (inl same) =
          let rule : r' ≡ r = held (sym e' ∙ (ap (λ n. slice_get rules n) (sym same) ∙ e)) in
          let items : seq' ≡ seq = held (sym f' ∙ (ap (λ n. slice_get seqs n) (sym same) ∙ f)) in
          let moved : IsFault symbols visits r seq q d = subst (λ s. IsFault symbols visits r s q d) items (subst (λ s. IsFault symbols visits s seq' q d) rule fault') in
          let two = IsFault-only symbols visits r seq p c q d fault moved in (same, two.0, two.1)
      go (inr (inl l)) = absurd (before-fault i j p c r seq l all' e f fault)
      go (inr (inr l)) = absurd (before-fault j i q d r' seq' l all e' f' fault')

  -- a sound plan has no fault
  pub IsSound-no_fault : IsSound symbols rules visits seqs → (i p c : ℕ) → IsUnsound symbols rules visits seqs i p c → ⊥
  IsSound-no_fault sound i p c (of_rows n) = n sound.0
  IsSound-no_fault sound i p c (of_rule r seq rows e f fault all) = sound-no_fault symbols visits r seq (AllZip-at (IsSoundSequence symbols visits) rules seqs i r seq sound.1 e f) p c fault
