-- The attributes of a set, listed from the least on.
use Rattle.std.specs.Prelude.{IsBitSet, Contains, map, take}
use Rattle.std.specs.List.Sorted.{IsStrictlyIncreasing}
use Rattle.std.proofs.Common.{◌≡◌, ℕ, ◌+◌, ◌<◌, ◌⊎◌, inl, inr, ◌↔◌, List, [], ◌∷◌, ◌++◌, length, length-append, get_or, refl, sym, ap, subst, ◌∙◌, arith}
use Rattle.std.proofs.lemmas.Bool.{cases_lt, cases_order}
use Rattle.std.proofs.lemmas.List.{get_or_append_left, map-append}
use Rattle.std.proofs.lemmas.List.Elements.{Contains-append_left, Contains-append_right, Contains-append_cases}
use Rattle.std.proofs.lemmas.Option.{slice_get-get_or}
use Rattle.std.proofs.Math.Seq.{get_or-append_seam}
use Rattle.lido_base.specs.declared.ids.AttrId.{AttrId}
use Rattle.flat_grammar.proofs.Lists.{contains-first, contains-nil, contains-cons, contains-slice_get, take_less, take_here, take_cases}
use Rattle.flat_grammar.proofs.BitsLemmas.{within-le, empty-set}

pub increasing-push : (xs : List ℕ) (y : ℕ) → IsStrictlyIncreasing xs → ((x : ℕ) → Contains xs x → x < y) → IsStrictlyIncreasing (xs ++ (y ∷ []))
increasing-push xs y ascends below k h = elim (cases_lt (k + 1) (length xs)) [
  | inl l ↦ let a = get_or_append_left xs (y ∷ []) 0 k (omega arith) in let b = get_or_append_left xs (y ∷ []) 0 (k + 1) l in let c = ascends k l in omega arith
  | inr g ↦
      let n = length-append xs (y ∷ []) in
      let last : k + 1 ≡ length xs = omega arith in
      let a = get_or_append_left xs (y ∷ []) 0 k (omega arith) in
      let b : get_or (xs ++ (y ∷ [])) (k + 1) 0 ≡ y = ap (λ i. get_or (xs ++ (y ∷ [])) i 0) last ∙ get_or-append_seam xs y [] 0 in
      let c = below (get_or xs k 0) (contains-slice_get xs k (get_or xs k 0) (slice_get-get_or xs k 0 (omega arith))) in
      omega arith
]

same-attribute : (a b : AttrId) → a.0 ≡ b.0 → a ≡ b
same-attribute a b e = λ i. record { 0 = e i }

-- the number of a listed attribute
numbers : (attrs : List AttrId) (n : ℕ) → Contains (map (λ (a : AttrId). a.0) attrs) n → (a : AttrId) × Contains attrs a × (a.0 ≡ n)
numbers [] n m = absurd (contains-nil n m)
numbers (a ∷ attrs) n m = elim (contains-cons a.0 n (map (λ (b : AttrId). b.0) attrs) m) [
  | inl e ↦ (a, contains-first a attrs, e)
  | inr later ↦ (let p = numbers attrs n later in (p.0, Contains-append_right (a ∷ []) attrs p.0 p.1, p.2))
]

pub one-number : (a b : AttrId) → ((b.0 ≡ a.0) → ⊥) → Contains (a ∷ []) b → ⊥
one-number a b other m = elim (contains-cons a b [] m) [ inl e ↦ other (ap (λ (x : AttrId). x.0) (sym e)) | inr none ↦ contains-nil b none ]

-- What is listed is what is in the set and not in the rest, ascending, and before all of the rest.
pub record AreListed (set rest : ℕ) (attrs : List AttrId) : Type 0 where
  pub same : (a : AttrId) → Contains attrs a ↔ (IsBitSet set a.0 × (IsBitSet rest a.0 → ⊥))
  pub within : (j : ℕ) → IsBitSet rest j → IsBitSet set j
  pub before : (a : AttrId) (j : ℕ) → Contains attrs a → IsBitSet rest j → a.0 < j
  pub ascending : IsStrictlyIncreasing (map (λ (a : AttrId). a.0) attrs)

pub listed-none : (set : ℕ) → AreListed set set []
listed-none set = record {
  same = λ a. (λ m. absurd (contains-nil a m), λ h. absurd (h.1 h.0));
  within = λ j h. h;
  before = λ a j m. absurd (contains-nil a m);
  ascending = λ k h. absurd (omega arith);
}

module _ (set rest next : ℕ) (attrs : List AttrId) (a : AttrId) (are : AreListed set rest attrs) (among : IsBitSet rest a.0) (least : (j : ℕ) → j < a.0 → IsBitSet rest j → ⊥)
    (left : (j : ℕ) → IsBitSet next j ↔ (IsBitSet rest j × ((j ≡ a.0) → ⊥))) where
  pub listed-push : (more : List AttrId) → more ≡ attrs ++ a ∷ [] → AreListed set next more
  listed-push more is = subst (λ l. AreListed set next l) (sym is) (record { same = same; within = λ j h. are.within j ((left j).0 h).0; before = before; ascending = ascending })
    where
      above : (j : ℕ) → IsBitSet next j → a.0 < j
      above j h = let p = (left j).0 h in elim (cases_order a.0 j) [
        | inl e ↦ absurd (p.1 (sym e))
        | inr o ↦ elim o [ inl l ↦ l | inr g ↦ absurd (least j g p.0) ]
      ]

      same : (b : AttrId) → Contains (attrs ++ a ∷ []) b ↔ (IsBitSet set b.0 × (IsBitSet next b.0 → ⊥))
      same b = (
        λ m. elim (Contains-append_cases attrs (a ∷ []) b m) [
          | inl old ↦ (let p = (are.same b).0 old in (p.0, λ h. p.1 ((left b.0).0 h).0))
          | inr one ↦ elim (contains-cons a b [] one) [
            | inl e ↦ (let f = ap (λ (x : AttrId). x.0) e in (subst (IsBitSet set) f (are.within a.0 among), λ h. ((left b.0).0 h).1 (sym f)))
            | inr none ↦ absurd (contains-nil b none)
          ]
        ],
        λ p. elim (cases_order b.0 a.0) [
          | inl e ↦ subst (Contains (attrs ++ a ∷ [])) (same-attribute a b (sym e)) (Contains-append_right attrs (a ∷ []) a (contains-first a []))
          | inr other ↦ Contains-append_left attrs (a ∷ []) b ((are.same b).1 (p.0, λ h. p.1 ((left b.0).1 (h, λ e. differ other e))))
        ],
      )
        where
          differ : (b.0 < a.0) ⊎ (a.0 < b.0) → b.0 ≡ a.0 → ⊥
          differ (inl l) e = omega arith
          differ (inr g) e = omega arith

      before : (b : AttrId) (j : ℕ) → Contains (attrs ++ a ∷ []) b → IsBitSet next j → b.0 < j
      before b j m h = elim (Contains-append_cases attrs (a ∷ []) b m) [
        | inl old ↦ are.before b j old ((left j).0 h).0
        | inr one ↦ elim (contains-cons a b [] one) [ inl e ↦ (let f = ap (λ (x : AttrId). x.0) e in let g = above j h in omega arith) | inr none ↦ absurd (contains-nil b none) ]
      ]

      ascending : IsStrictlyIncreasing (map (λ (b : AttrId). b.0) (attrs ++ a ∷ []))
      ascending = subst (λ (xs : List ℕ). IsStrictlyIncreasing xs) (sym (map-append (λ (b : AttrId). b.0) attrs (a ∷ [])))
          (increasing-push (map (λ (b : AttrId). b.0) attrs) a.0 are.ascending (λ n m. let p = numbers attrs n m in let l = are.before p.0 a.0 p.1 among in let e = p.2 in omega arith))

  -- the rest is less
  pub listed-less : next < rest
  listed-less = go (cases_order next rest)
    where
      go : (next ≡ rest) ⊎ ((next < rest) ⊎ (rest < next)) → next < rest
      go (inl e) = absurd (((left a.0).0 (subst (λ n. IsBitSet n a.0) (sym e) among)).1 refl)
      go (inr (inl l)) = l
      go (inr (inr g)) = let h = within-le next rest (λ j s. ((left j).0 s).0) in absurd (omega arith)

pub listed-all : (set rest : ℕ) (attrs : List AttrId) → AreListed set rest attrs → ((j : ℕ) → IsBitSet rest j → ⊥) → (a : AttrId) → Contains attrs a ↔ IsBitSet set a.0
listed-all set rest attrs are none a = (λ m. ((are.same a).0 m).0, λ h. (are.same a).1 (h, none a.0))

-- ---- the set of a list

pub set-of-none : (set : ℕ) → set ≡ 0 → (a : AttrId) → IsBitSet set a.0 ↔ Contains [] a
set-of-none set e a = (λ h. absurd (empty-set a.0 (subst (λ n. IsBitSet n a.0) e h)), λ m. absurd (contains-nil a m))

pub set-of-more : (set new : ℕ) (attrs : List AttrId) (k : ℕ) (d : AttrId) → k < length attrs → ((a : AttrId) → IsBitSet set a.0 ↔ Contains (take k attrs) a) → ((j : ℕ) → IsBitSet new j ↔ ((j ≡ (get_or attrs k d).0) ⊎ IsBitSet set j))
    → (a : AttrId) → IsBitSet new a.0 ↔ Contains (take (k + 1) attrs) a
set-of-more set new attrs k d within same more a = (
  λ h. elim ((more a.0).0 h) [
    | inl e ↦ subst (Contains (take (k + 1) attrs)) (same-attribute (get_or attrs k d) a (sym e)) (take_here attrs k d within)
    | inr old ↦ take_less attrs k d a within ((same a).0 old)
  ],
  λ m. elim (take_cases attrs k d a within m) [
    | inl old ↦ (more a.0).1 (inr ((same a).1 old))
    | inr e ↦ (more a.0).1 (inl (ap (λ (x : AttrId). x.0) (sym e)))
  ],
)

-- a set without one number
pub left-one : (rest empty one next k : ℕ) → empty ≡ 0 → ((j : ℕ) → IsBitSet one j ↔ ((j ≡ k) ⊎ IsBitSet empty j)) → ((j : ℕ) → IsBitSet next j ↔ (IsBitSet rest j × (IsBitSet one j → ⊥)))
    → (j : ℕ) → IsBitSet next j ↔ (IsBitSet rest j × ((j ≡ k) → ⊥))
left-one rest empty one next k none is_one left j = (
  λ h. (let p = (left j).0 h in (p.0, λ e. p.1 ((is_one j).1 (inl e)))),
  λ p. (left j).1 (p.0, λ h. elim ((is_one j).0 h) [ inl e ↦ p.1 e | inr set ↦ empty-set j (subst (λ n. IsBitSet n j) none set) ]),
)
