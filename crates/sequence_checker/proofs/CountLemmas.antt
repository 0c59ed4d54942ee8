-- How many goals are evaluated, and how many a rule can have.
use Rattle.std.specs.Prelude.{Bool, true, false, cond, ◌||◌, AllPairs, Contains, map, count_by, sum_by, slice_get, is_some, option_and_then}
use Rattle.std.specs.List.{list_any, slice_index_or}
use Rattle.std.specs.Cmp.{IsEquivalence}
use Rattle.std.specs.Bool.{Decides}
use Rattle.std.proofs.Common.{◌≡◌, ℕ, zero, suc, ◌+◌, ◌<◌, ◌≤◌, ◌⊎◌, inl, inr, List, [], ◌∷◌, ◌++◌, length, Option, Some, None, refl, arith, ap, sym, subst, ◌∙◌, length-append}
use Rattle.std.proofs.lemmas.Bool.{cases_eq}
use Rattle.std.proofs.lemmas.Option.{none-some, slice_get_cases}
use Rattle.std.proofs.lemmas.List.{length-map}
use Rattle.std.proofs.lemmas.List.Elements.{Contains-get_or}
use Rattle.std.proofs.lemmas.List.Sums.{sum_by-cons}
use Rattle.std.proofs.lemmas.List.Kept.{AllPairs-cons}
use Rattle.std.proofs.lemmas.List.Folds.{list_any-append}
use Rattle.std.proofs.lemmas.Map.Made.{length-le_from_is_member, IsDistinct-from_AllPairs}
use Rattle.lido_base.specs.declared.ids.SymId.{SymId}
use Rattle.flat_grammar.specs.declared.flat.Occ.{Occ}
use Rattle.flat_grammar.specs.declared.flat.FlatSymbol.{FlatSymbol}
use Rattle.flat_grammar.specs.declared.flat.FlatAttr.{FlatAttr}
use Rattle.flat_grammar.specs.declared.flat.FlatRule.{FlatRule}
use Rattle.flat_grammar.specs.declared.flat.FlatComp.{FlatComp}
use Rattle.flat_grammar.specs.Rules.{symbols_of, symbol_at, attrs_of, attribute_at}
use Rattle.flat_grammar.specs.WellFormed.{is_same_occ, attribute_of, is_goal, is_goal_kind, IsRule}
use Rattle.flat_grammar.specs.SoundPlan.{goals_of}
use Rattle.flat_grammar.proofs.Lists.{contains-nil, contains-cons, held}
use Rattle.sequence_checker.proofs.Bools.{never, either, left, right, same-occurrence, occurrence-same}
use Rattle.sequence_checker.proofs.GoalLemmas.{goal-computation}

pub count-cons : {X : Type 0} (test : X → Bool) (x : X) (xs : List X) → count_by test (x ∷ xs) ≡ cond (test x) 1 0 + count_by test xs
count-cons test x xs = sum_by-cons (λ y. cond (test y) 1 0) x xs

pub count-none : {X : Type 0} (test : X → Bool) → ((x : X) → test x ≡ false) → (xs : List X) → count_by test xs ≡ 0
count-none test none [] = refl
count-none test none (x ∷ xs) = count-cons test x xs ∙ (let a : ◌≡◌ {A = ℕ} (cond (test x) 1 0) 0 = ap (λ b. cond b 1 0) (none x) in let b = count-none test none xs in omega arith)

pairs-tail : {X : Type 0} (R : X → X → Type 0) (x : X) (xs : List X) → AllPairs R (x ∷ xs) → AllPairs R xs
pairs-tail R x xs h = λ i j d a b. h (suc i) (suc j) d (omega arith) (omega arith)

pairs-head : {X : Type 0} (R : X → X → Type 0) (x y : X) (xs : List X) → AllPairs R (x ∷ xs) → Contains xs y → R x y
pairs-head R x y xs h (k, l, e) = subst (R x) e (h zero (suc k) y (omega arith) (omega arith))

other : (o p : Occ) → (o ≡ p → ⊥) → is_same_occ o p ≡ false
other o p n = by (is_same_occ o p) refl
  where
    by : (b : Bool) → is_same_occ o p ≡ b → b ≡ false
    by true e = absurd (n (same-occurrence o p e))
    by false e = refl

-- one more goal is evaluated
module _ (o : Occ) (old new : Occ → Bool) (added : (x : Occ) → new x ≡ (is_same_occ o x || old x)) where
  abbrev Apart : FlatComp → FlatComp → Type 0
  Apart c d = c.goal ≡ d.goal → ⊥

  kept : (x : Occ) → (o ≡ x → ⊥) → new x ≡ old x
  kept x n = added x ∙ ap (λ b. b || old x) (other o x n)

  count-kept : (cs : List FlatComp) → ((c : FlatComp) → Contains cs c → o ≡ c.goal → ⊥) → count_by (λ (c : FlatComp). new c.goal) cs ≡ count_by (λ (c : FlatComp). old c.goal) cs
  count-kept [] apart = refl
  count-kept (c ∷ cs) apart =
      let a = count-cons (λ (c : FlatComp). new c.goal) c cs in
      let b = count-cons (λ (c : FlatComp). old c.goal) c cs in
      let h : ◌≡◌ {A = ℕ} (cond (new c.goal) 1 0) (cond (old c.goal) 1 0) = ap (λ t. cond t 1 0) (kept c.goal (apart c (zero, (omega arith), refl))) in
      let t = count-kept cs (λ d (k, l, e). apart d (suc k, (omega arith), e)) in omega arith

  pub count-more : (cs : List FlatComp) → AllPairs Apart cs → Contains (map (λ (c : FlatComp). c.goal) cs) o → old o ≡ false
      → count_by (λ (c : FlatComp). new c.goal) cs ≡ suc (count_by (λ (c : FlatComp). old c.goal) cs)
  count-more [] once m unseen = absurd (contains-nil o m)
  count-more (c ∷ cs) once m unseen = by (λ n. count-more cs (pairs-tail Apart c cs once) n unseen) (contains-cons c.goal o (map (λ (d : FlatComp). d.goal) cs) m)
    where
      a : count_by (λ (c : FlatComp). new c.goal) (c ∷ cs) ≡ cond (new c.goal) 1 0 + count_by (λ (c : FlatComp). new c.goal) cs
      a = count-cons (λ (c : FlatComp). new c.goal) c cs

      b : count_by (λ (c : FlatComp). old c.goal) (c ∷ cs) ≡ cond (old c.goal) 1 0 + count_by (λ (c : FlatComp). old c.goal) cs
      b = count-cons (λ (c : FlatComp). old c.goal) c cs

      by : (Contains (map (λ (d : FlatComp). d.goal) cs) o → count_by (λ (c : FlatComp). new c.goal) cs ≡ suc (count_by (λ (c : FlatComp). old c.goal) cs)) → (c.goal ≡ o) ⊎ Contains (map (λ (d : FlatComp). d.goal) cs) o → count_by (λ (c : FlatComp). new c.goal) (c ∷ cs) ≡ suc (count_by (λ (c : FlatComp). old c.goal) (c ∷ cs))
      by tails (inl e) =
          let n : new c.goal ≡ true = added c.goal ∙ left (is_same_occ o c.goal) (old c.goal) (occurrence-same o c.goal (sym e)) in
          let h : ◌≡◌ {A = ℕ} (cond (new c.goal) 1 0) 1 = ap (λ t. cond t 1 0) n in
          let i : ◌≡◌ {A = ℕ} (cond (old c.goal) 1 0) 0 = ap (λ t. cond t 1 0) (ap old e ∙ unseen) in
          let t = count-kept cs (λ d n f. pairs-head Apart c d cs once n (e ∙ f)) in let x = a in let y = b in omega arith
      by tails (inr n) =
          let p = goal-computation cs o n in
          let h : ◌≡◌ {A = ℕ} (cond (new c.goal) 1 0) (cond (old c.goal) 1 0) = ap (λ t. cond t 1 0) (kept c.goal (λ f. pairs-head Apart c p.0 cs once p.1 (sym f ∙ sym p.2))) in
          let t = tails n in let x = a in let y = b in omega arith

-- the occurrences of so many attributes at a place
abbrev occurrences : ℕ → ℕ → List Occ
occurrences k zero = []
occurrences k (suc n) = record { occ = k; attr = record { 0 = n } } ∷ occurrences k n

occurrences-length : (k n : ℕ) → length (occurrences k n) ≡ n
occurrences-length k zero = refl
occurrences-length k (suc n) = ap suc (occurrences-length k n)

occurrences-have : (k n a : ℕ) → a < n → list_any (is_same_occ (record { occ = k; attr = record { 0 = a } })) (occurrences k n) ≡ true
occurrences-have k zero a h = absurd (omega (arith, h))
occurrences-have k (suc n) a h = by (occurrences-have k n a) (cases_eq a n)
  where
    o : Occ
    o = record { occ = k; attr = record { 0 = a } }

    by : (a < n → list_any (is_same_occ o) (occurrences k n) ≡ true) → (a ≡ n) ⊎ (a ≡ n → ⊥) → list_any (is_same_occ o) (occurrences k (suc n)) ≡ true
    by below (inl e) = left (is_same_occ o (record { occ = k; attr = record { 0 = n } })) (list_any (is_same_occ o) (occurrences k n)) (occurrence-same o (record { occ = k; attr = record { 0 = n } }) (λ i. record { occ = k; attr = record { 0 = e i } }))
    by below (inr n') = right (is_same_occ o (record { occ = k; attr = record { 0 = n } })) (list_any (is_same_occ o) (occurrences k n)) (below (omega arith))

module _ (symbols : List FlatSymbol) where
  -- the attribute occurrences of these symbols, which stand from a place on
  abbrev all_occurrences : ℕ → List SymId → List Occ
  all_occurrences k [] = []
  all_occurrences k (s ∷ more) = occurrences k (length (attrs_of symbols s)) ++ all_occurrences (suc k) more

  all-length : (k : ℕ) (ss : List SymId) → length (all_occurrences k ss) ≡ sum_by (λ s. length (attrs_of symbols s)) ss
  all-length k [] = refl
  all-length k (s ∷ more) =
      let a = length-append (occurrences k (length (attrs_of symbols s))) (all_occurrences (suc k) more) in
      let b = occurrences-length k (length (attrs_of symbols s)) in
      let c = all-length (suc k) more in
      let d = sum_by-cons (λ s. length (attrs_of symbols s)) s more in omega arith

  all-have : (ss : List SymId) (k j a : ℕ) (s : SymId) → slice_get ss j ≡ Some s → a < length (attrs_of symbols s) → list_any (is_same_occ (record { occ = k + j; attr = record { 0 = a } })) (all_occurrences k ss) ≡ true
  all-have [] k j a s e h = absurd (none-some _ e)
  all-have (t ∷ ss) k zero a s e h =
      let o : Occ = record { occ = k + 0; attr = record { 0 = a } } in
      list_any-append (is_same_occ o) (occurrences k (length (attrs_of symbols t))) (all_occurrences (suc k) ss)
      ∙ left (list_any (is_same_occ o) (occurrences k (length (attrs_of symbols t)))) (list_any (is_same_occ o) (all_occurrences (suc k) ss))
      (subst (λ n. list_any (is_same_occ (record { occ = n; attr = record { 0 = a } })) (occurrences k (length (attrs_of symbols t))) ≡ true) (omega arith)
      (occurrences-have k (length (attrs_of symbols t)) a (subst (λ x. a < length (attrs_of symbols x)) (sym (held e)) h)))
  all-have (t ∷ ss) k (suc j) a s e h =
      let o : Occ = record { occ = k + suc j; attr = record { 0 = a } } in
      list_any-append (is_same_occ o) (occurrences k (length (attrs_of symbols t))) (all_occurrences (suc k) ss)
      ∙ right (list_any (is_same_occ o) (occurrences k (length (attrs_of symbols t)))) (list_any (is_same_occ o) (all_occurrences (suc k) ss))
      (subst (λ n. list_any (is_same_occ (record { occ = n; attr = record { 0 = a } })) (all_occurrences (suc k) ss) ≡ true) (omega arith)
      (all-have ss (suc k) j a s e h))

-- the test says whether two occurrences are one
same-decides : (o p : Occ) → Decides (is_same_occ o p) (o ≡ p)
same-decides o p = by (is_same_occ o p) refl
  where
    by : (b : Bool) → is_same_occ o p ≡ b → Decides b (o ≡ p)
    by true e = ((λ h. same-occurrence o p e), (λ f. refl))
    by false e = ((λ h. never h), (λ f. sym e ∙ occurrence-same o p f))

same-equivalence : IsEquivalence is_same_occ
same-equivalence = record {
  refl = λ o. occurrence-same o o refl;
  symm = λ o p. swapped o p (is_same_occ o p) refl;
  congr = λ o p q e. ap (λ x. is_same_occ x q) (same-occurrence o p e);
}
  where
    swapped : (o p : Occ) (b : Bool) → is_same_occ o p ≡ b → is_same_occ o p ≡ is_same_occ p o
    swapped o p true e = e ∙ sym (occurrence-same p o (sym (same-occurrence o p e)))
    swapped o p false e = e ∙ sym (other p o (λ f. never (sym e ∙ occurrence-same o p (sym f))))

goals-apart : (cs : List FlatComp) → AllPairs (λ (c d : FlatComp). c.goal ≡ d.goal → ⊥) cs → AllPairs (λ (o p : Occ). o ≡ p → ⊥) (map (λ (c : FlatComp). c.goal) cs)
goals-apart [] once = λ i j d a b. absurd (omega (arith, b))
goals-apart (c ∷ cs) once = AllPairs-cons (λ (o p : Occ). o ≡ p → ⊥) c.goal (map (λ (c : FlatComp). c.goal) cs)
    (λ k d l e. let p = goal-computation cs (slice_index_or (map (λ (c : FlatComp). c.goal) cs) k d) (Contains-get_or (map (λ (c : FlatComp). c.goal) cs) k d l) in
    pairs-head (λ (c d : FlatComp). c.goal ≡ d.goal → ⊥) c p.0 cs once p.1 (e ∙ sym p.2))
    (goals-apart cs (pairs-tail (λ (c d : FlatComp). c.goal ≡ d.goal → ⊥) c cs once))

goal-any : (cs : List FlatComp) (o : Occ) → list_any (is_same_occ o) (map (λ (c : FlatComp). c.goal) cs) ≡ true → list_any (λ (c : FlatComp). is_same_occ c.goal o) cs ≡ true
goal-any [] o h = h
goal-any (c ∷ cs) o h = elim (either (is_same_occ o c.goal) (list_any (is_same_occ o) (map (λ (c : FlatComp). c.goal) cs)) h) [
  | inl e ↦ left (is_same_occ c.goal o) (list_any (λ (c : FlatComp). is_same_occ c.goal o) cs) (occurrence-same c.goal o (sym (same-occurrence o c.goal e)))
  | inr m ↦ right (is_same_occ c.goal o) (list_any (λ (c : FlatComp). is_same_occ c.goal o) cs) (goal-any cs o m)
]

module _ (symbols : List FlatSymbol) (r : FlatRule) (rule : IsRule symbols r) where
  there : (o : Occ) → is_goal symbols r o ≡ true → list_any (is_same_occ o) (all_occurrences symbols 0 (symbols_of r)) ≡ true
  there o h = by_symbol (symbol_at r o.occ) refl (has_attribute o.occ (attribute_of symbols r o) h)
    where
      has_attribute : (k : ℕ) (attr : Option FlatAttr) → is_goal_kind k attr ≡ true → is_some attr ≡ true
      has_attribute k None e = never e
      has_attribute zero (Some attr) e = refl
      has_attribute (suc k) (Some attr) e = refl

      within : (x : Option FlatSymbol) → is_some (option_and_then (λ (x : FlatSymbol). slice_get x.attrs o.attr.0) x) ≡ true → o.attr.0 < length (elim x as (λ y. List FlatAttr) [ None ↦ [] | Some y ↦ y.attrs ])
      within None e = never e
      within (Some x) e = elim (slice_get_cases x.attrs o.attr.0).1 [ inl p ↦ p.1 | inr p ↦ never (sym (ap is_some p.1) ∙ e) ]

      by_symbol : (s : Option SymId) → symbol_at r o.occ ≡ s → is_some (elim s as (λ x. Option FlatAttr) [ None ↦ None | Some q ↦ attribute_at symbols q o.attr ]) ≡ true → list_any (is_same_occ o) (all_occurrences symbols 0 (symbols_of r)) ≡ true
      by_symbol None e g = never g
      by_symbol (Some s) e g = subst (λ n. list_any (is_same_occ (record { occ = n; attr = o.attr })) (all_occurrences symbols 0 (symbols_of r)) ≡ true) (omega arith)
          (all-have symbols (symbols_of r) 0 o.occ o.attr.0 s e (within (slice_get symbols s.0) g))

  -- a rule has at most as many goals as attribute occurrences
  pub few-goals : length r.comps ≤ sum_by (λ s. length (attrs_of symbols s)) (symbols_of r)
  few-goals =
      let a = length-le_from_is_member same-equivalence (goals_of r) (all_occurrences symbols 0 (symbols_of r)) (IsDistinct-from_AllPairs same-decides (goals_of r) (goals-apart r.comps rule.once))
      (λ o h. there o (sym (rule.goals o) ∙ goal-any r.comps o h)) in
      let b = all-length symbols 0 (symbols_of r) in
      let c = length-map r.comps (λ (c : FlatComp). c.goal) in
      omega (arith, a, b, c)
