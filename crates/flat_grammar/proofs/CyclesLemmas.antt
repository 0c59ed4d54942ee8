-- An edge of the extended dependencies has one label, where rows of bits are the induced dependencies.
use Rattle.std.specs.Prelude.{Contains, slice_get, IsSome, option_and_then, option_map, slice_index_or}
use Rattle.std.proofs.Common.{◌≡◌, ℕ, zero, suc, ◌<◌, ◌⊎◌, inl, inr, List, [], ◌∷◌, length, Option, Some, None, refl, sym, ap, subst, ◌∙◌, arith, true≢false}
use Rattle.std.proofs.lemmas.Bool.{cases_order}
use Rattle.std.proofs.lemmas.List.{length-map}
use Rattle.std.proofs.lemmas.Option.{slice_get_within, slice_get-get_or, slice_get-map}
use Rattle.lido_base.specs.declared.ids.SymId.{SymId}
use Rattle.flat_grammar.specs.declared.flat.Occ.{Occ}
use Rattle.flat_grammar.specs.declared.flat.FlatSymbol.{FlatSymbol}
use Rattle.flat_grammar.specs.declared.flat.FlatRule.{FlatRule}
use Rattle.lido_base.specs.declared.ids.AttrId.{AttrId}
use Rattle.flat_grammar.specs.declared.flat.FlatComp.{FlatComp}
use Rattle.flat_grammar.specs.declared.plan.Label.{Label}
use Rattle.flat_grammar.specs.declared.plan.Label.TheVariants.{Direct, Induced, Partition}
use Rattle.flat_grammar.specs.Rules.{symbol_at, attribute_at, dependencies}
use Rattle.flat_grammar.specs.Dependencies.{DP, IDS, AreInducedRows}
use Rattle.flat_grammar.specs.Cycles.{EDP, IsExtended, direct, induced, partition}
use Rattle.flat_grammar.proofs.Lists.{held, contains-nil, contains-cons, contains-first, contains-later}
use Rattle.flat_grammar.proofs.BitsLemmas.{is-set}

module _ (symbols : List FlatSymbol) (rules : List FlatRule) (r : FlatRule) (u v : Occ) where
  refuted : (x y : SymId) → symbol_at r u.occ ≡ Some x → symbol_at r u.occ ≡ Some y → IDS rules x u.attr v.attr → ¬ IDS rules y u.attr v.attr → ⊥
  refuted x y e f p n = n (subst (λ s. IDS rules s u.attr v.attr) (held (sym e ∙ f)) p)

  pub EDP-label : (l m : Label) → EDP symbols rules r u v l → EDP symbols rules r u v m → l ≡ m
  EDP-label l m (direct d) (direct e) = refl
  EDP-label l m (direct d) (induced n same at i) = absurd (n d)
  EDP-label l m (direct d) (partition n same at i e) = absurd (n d)
  EDP-label l m (induced n same at i) (direct e) = absurd (n e)
  EDP-label l m (induced n same at i) (induced o same' at' j) = refl
  EDP-label l m (induced n same at i) (partition o same' at' j e) = absurd (refuted _ _ at at' i j)
  EDP-label l m (partition n same at i e) (direct d) = absurd (n d)
  EDP-label l m (partition n same at i e) (induced o same' at' j) = absurd (refuted _ _ at' at j i)
  EDP-label l m (partition n same at i e) (partition o same' at' j f) = refl

-- ---- whether a rule has a direct dependency is decided

same-occurrence : (o p : Occ) → (o ≡ p) ⊎ (o ≡ p → ⊥)
same-occurrence o p = go (cases_order o.occ p.occ) (cases_order o.attr.0 p.attr.0)
  where
    go : (o.occ ≡ p.occ) ⊎ ((o.occ < p.occ) ⊎ (p.occ < o.occ)) → (o.attr.0 ≡ p.attr.0) ⊎ ((o.attr.0 < p.attr.0) ⊎ (p.attr.0 < o.attr.0)) → (o ≡ p) ⊎ (o ≡ p → ⊥)
    go (inl e) (inl f) = inl (λ i. record { occ = e i; attr = record { 0 = f i } })
    go (inl e) (inr (inl l)) = inr (λ s. let f = ap (λ (q : Occ). q.attr.0) s in omega arith)
    go (inl e) (inr (inr l)) = inr (λ s. let f = ap (λ (q : Occ). q.attr.0) s in omega arith)
    go (inr (inl l)) f = inr (λ s. let e = ap (λ (q : Occ). q.occ) s in omega arith)
    go (inr (inr l)) f = inr (λ s. let e = ap (λ (q : Occ). q.occ) s in omega arith)

listed-or-not : (list : List Occ) (o : Occ) → Contains list o ⊎ (Contains list o → ⊥)
listed-or-not [] o = inr (contains-nil o)
listed-or-not (p ∷ list) o = go (same-occurrence p o) (listed-or-not list o)
  where
    go : (p ≡ o) ⊎ (p ≡ o → ⊥) → Contains list o ⊎ (Contains list o → ⊥) → Contains (p ∷ list) o ⊎ (Contains (p ∷ list) o → ⊥)
    go (inl e) later = inl (subst (Contains (p ∷ list)) e (contains-first p list))
    go (inr n) (inl m) = inl (contains-later p o list m)
    go (inr n) (inr m) = inr (λ h. elim (contains-cons p o list h) [ inl e ↦ n e | inr k ↦ m k ])

-- a computation of these gives v and depends on u
abbrev Depends : List FlatComp → Occ → Occ → Type 0
Depends comps u v = (c : FlatComp) × Contains comps c × Contains (dependencies c) u × (c.goal ≡ v)

depends-or-not : (comps : List FlatComp) (u v : Occ) → Depends comps u v ⊎ (Depends comps u v → ⊥)
depends-or-not [] u v = inr (λ d. contains-nil d.0 d.1)
depends-or-not (c ∷ comps) u v = go (listed-or-not (dependencies c) u) (same-occurrence c.goal v) (depends-or-not comps u v)
  where
    later : Depends comps u v → Depends (c ∷ comps) u v
    later d = (d.0, contains-later c d.0 comps d.1, d.2, d.3)

    either : (Contains (dependencies c) u × (c.goal ≡ v) → ⊥) → (Depends comps u v → ⊥) → Depends (c ∷ comps) u v → ⊥
    either first more d = elim (contains-cons c d.0 comps d.1) [
      | inl e ↦ first (subst (λ (x : FlatComp). Contains (dependencies x) u) (sym e) d.2, ap (λ (x : FlatComp). x.goal) e ∙ d.3)
      | inr m ↦ more (d.0, m, d.2, d.3)
    ]

    go : Contains (dependencies c) u ⊎ (Contains (dependencies c) u → ⊥) → (c.goal ≡ v) ⊎ (c.goal ≡ v → ⊥) → Depends comps u v ⊎ (Depends comps u v → ⊥) → Depends (c ∷ comps) u v ⊎ (Depends (c ∷ comps) u v → ⊥)
    go a b (inl d) = inl (later d)
    go (inl a) (inl b) (inr n) = inl (c, contains-first c comps, a, b)
    go (inl a) (inr b) (inr n) = inr (either (λ p. b p.1) n)
    go (inr a) b (inr n) = inr (either (λ p. a p.0) n)

some-within : {X : Type 0} (xs : List X) (k : ℕ) → IsSome (slice_get xs k) → k < length xs
some-within [] k h = absurd (true≢false (sym h))
some-within (x ∷ xs) zero h = omega arith
some-within (x ∷ xs) (suc k) h = let l = some-within xs k h in omega arith

-- ---- each edge has a label

module _ (symbols : List FlatSymbol) (rules : List FlatRule) (rows : List (List ℕ)) (are : AreInducedRows symbols rules rows) where
  -- the row of an attribute
  row-there : (x : SymId) (a : AttrId) → IsSome (attribute_at symbols x a) → (of_x : List ℕ) × (row : ℕ) × (slice_get rows x.0 ≡ Some of_x) × (slice_get of_x a.0 ≡ Some row)
  row-there x a h = by-symbol (slice_get symbols x.0) refl h
    where
      by-symbol : (o : Option FlatSymbol) → slice_get symbols x.0 ≡ o → IsSome (option_and_then (λ (y : FlatSymbol). slice_get y.attrs a.0) o) → (of_x : List ℕ) × (row : ℕ) × (slice_get rows x.0 ≡ Some of_x) × (slice_get of_x a.0 ≡ Some row)
      by-symbol None e h = absurd (true≢false (sym h))
      by-symbol (Some y) e h =
          let within = slice_get_within symbols x.0 y e in
          let count : length rows ≡ length symbols = sym (length-map rows (λ (row : List ℕ). length row)) ∙ (ap length (sym are.0) ∙ length-map symbols (λ (z : FlatSymbol). length z.attrs)) in
          let of_x = slice_index_or rows x.0 [] in
          let got : slice_get rows x.0 ≡ Some of_x = slice_get-get_or rows x.0 [] (omega arith) in
          let sizes : Some (length y.attrs) ≡ Some (length of_x) =
          sym (slice_get-map (λ (z : FlatSymbol). length z.attrs) symbols x.0 ∙ ap (option_map (λ (z : FlatSymbol). length z.attrs)) e)
          ∙ (ap (λ l. slice_get l x.0) are.0 ∙ (slice_get-map (λ (row : List ℕ). length row) rows x.0 ∙ ap (option_map (λ (row : List ℕ). length row)) got)) in
          let small : a.0 < length of_x = (let s = held sizes in let w = some-within y.attrs a.0 h in omega arith) in
          (of_x, slice_index_or of_x a.0 0, got, slice_get-get_or of_x a.0 0 small)

  -- whether an attribute comes before another by the rules is decided
  induced-or-not : (x : SymId) (a b : AttrId) → IsSome (attribute_at symbols x a) → IDS rules x a b ⊎ (IDS rules x a b → ⊥)
  induced-or-not x a b h =
      let (of_x, row, there, at) = row-there x a h in
      let same = are.1 x a b of_x row there at in
      elim (is-set row b.0) [ inl is ↦ inl (same.0 is) | inr not ↦ inr (λ p. not (same.1 p)) ]

  pub extended-label : (r : FlatRule) (u v : Occ) → IsExtended symbols rules r u v → (label : Label) × EDP symbols rules r u v label
  extended-label r u v edge = go (depends-or-not r.comps u v) edge
    where
      go : DP r u v ⊎ (DP r u v → ⊥) → IsExtended symbols rules r u v → (label : Label) × EDP symbols rules r u v label
      go (inl d) e = (Direct, direct d)
      go (inr n) (inl d) = absurd (n d)
      go (inr n) (inr (same, x, at, inl p)) = (Induced, induced {x = x} n same at p)
      go (inr n) (inr (same, x, at, inr early)) = elim (induced-or-not x u.attr v.attr early.0) [
        | inl p ↦ (Induced, induced {x = x} n same at p)
        | inr none ↦ (Partition, partition {x = x} n same at none early)
      ]
