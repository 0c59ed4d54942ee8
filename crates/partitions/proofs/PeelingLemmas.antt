-- Sets of a symbol's attributes as bits: one class more, one pair of classes more, no more ever.
use Rattle.std.specs.Prelude.{IsBitSet, Contains, slice_get, All, IsSome, ◌*◌, ◌-◌, ◌^◌, option_and_then}
use Rattle.std.proofs.Common.{◌≡◌, ℕ, zero, suc, ◌+◌, ◌<◌, ◌≤◌, ◌⊎◌, inl, inr, ◌↔◌, List, [], ◌∷◌, ◌++◌, length, Option, Some, None, get_or, refl, sym, ap, subst, ◌∙◌, arith}
use Rattle.std.proofs.lemmas.Option.{none-some, slice_get-get_or}
use Rattle.std.proofs.lemmas.Bool.{cases_lt}
use Rattle.lido_base.specs.declared.ids.SymId.{SymId}
use Rattle.lido_base.specs.declared.ids.AttrId.{AttrId}
use Rattle.lido_base.specs.declared.kinds.Kind.{Kind}
use Rattle.lido_base.specs.declared.kinds.Kind.TheVariants.{Synthesized, Inherited}
use Rattle.flat_grammar.specs.declared.flat.FlatSymbol.{FlatSymbol}
use Rattle.flat_grammar.specs.declared.flat.FlatAttr.{FlatAttr}
use Rattle.flat_grammar.specs.declared.flat.FlatRule.{FlatRule}
use Rattle.flat_grammar.specs.Rules.{attribute_at, attrs_of}
use Rattle.flat_grammar.specs.Dependencies.{IDS}
use Rattle.flat_grammar.specs.Partition.{IsPeeled, HasKind, IsClosedSet, kind_of_class, PeelsAll}
use Rattle.flat_grammar.proofs.Lists.{contains-nil, contains-cons, contains-first, contains-later, held}
use Rattle.partitions.specs.declared.peeling.Levels.{Levels}
use Rattle.partitions.specs.Peeling.{AreRows, ArePeeled, AreLevels, AreAllLevels, IsLast, IsKept}
use Rattle.std.proofs.lemmas.Nat.Bits.{bit_at_ones}
use Rattle.flat_grammar.proofs.BitsLemmas.{is-set, empty-set, within-le, set-of}
use Rattle.flat_grammar.proofs.PeelingLemmas.{IDS-transitive, even-kind, odd-kind, closed-more, last-pair}
pub use Rattle.std.proofs.lemmas.Option.{slice_get_within as below-length}
pub use Rattle.lido_base.proofs.Lists.{place-below as get-below}

-- A set of the numbers below i with a property, found one by one.
module _ (P : ℕ → Type 0) where
  pub record IsFound (i set : ℕ) : Type 0 where
    pub to : (j : ℕ) → IsBitSet set j → (j < i) × P j
    pub from : (j : ℕ) → j < i → P j → IsBitSet set j

  pub found-one : (i set new : ℕ) → IsFound i set → ((j : ℕ) → IsBitSet new j ↔ ((j ≡ i) ⊎ IsBitSet set j)) → P i → IsFound (i + 1) new
  found-one i set new f e p = record {
    to = λ j h. elim ((e j).0 h) [ inl same ↦ ((omega arith), subst P (sym same) p) | inr old ↦ let b = (f.to j old).0 in ((omega arith), (f.to j old).1) ];
    from = λ j h q. elim (cases_lt j i) [ inl l ↦ (e j).1 (inr (f.from j l q)) | inr g ↦ (e j).1 (inl (omega arith)) ];
  }

  pub found-not : (i set : ℕ) → IsFound i set → (P i → ⊥) → IsFound (i + 1) set
  found-not i set f none = record {
    to = λ j h. let b = (f.to j h).0 in ((omega arith), (f.to j h).1);
    from = λ j h q. elim (cases_lt j i) [ inl l ↦ f.from j l q | inr g ↦ absurd (none (let same : j ≡ i = omega arith in subst P same q)) ];
  }

  pub found-all : (n set : ℕ) → IsFound n set → ((j : ℕ) → P j → j < n) → (j : ℕ) → IsBitSet set j ↔ P j
  found-all n set f bound j = (λ h. (f.to j h).1, λ p. f.from j (bound j p) p)

-- the members of a set below n, as a list of attributes
members : ℕ → ℕ → List AttrId
members set zero = []
members set (suc n) = elim (is-set set n) [ inl h ↦ record { 0 = n } ∷ members set n | inr h ↦ members set n ]

in-members : (set n : ℕ) (a : AttrId) → a.0 < n → IsBitSet set a.0 → Contains (members set n) a
unfolding members
in-members set zero a l h = absurd (omega arith)
in-members set (suc n) a l h = go (is-set set n) (cases_lt a.0 n) (λ below. in-members set n a below h)
  where
    go : (d : IsBitSet set n ⊎ (IsBitSet set n → ⊥)) → (a.0 < n) ⊎ (n ≤ a.0) → (a.0 < n → Contains (members set n) a) → Contains (elim d [ inl h ↦ record { 0 = n } ∷ members set n | inr h ↦ members set n ]) a
    go (inl s) (inl below) rest = contains-later _ a (members set n) (rest below)
    go (inl s) (inr at) rest = let same : n ≡ a.0 = omega arith in subst (λ k. Contains (record { 0 = k } ∷ members set n) a) (sym same) (contains-first a (members set n))
    go (inr s) (inl below) rest = rest below
    go (inr s) (inr at) rest = absurd (s (let same : a.0 ≡ n = omega arith in subst (λ k. IsBitSet set k) same h))

of-members : (set n : ℕ) (a : AttrId) → Contains (members set n) a → IsBitSet set a.0
unfolding members
of-members set zero a m = absurd (contains-nil a m)
of-members set (suc n) a m = go (is-set set n) m (of-members set n a)
  where
    go : (d : IsBitSet set n ⊎ (IsBitSet set n → ⊥)) → Contains (elim d [ inl h ↦ record { 0 = n } ∷ members set n | inr h ↦ members set n ]) a → (Contains (members set n) a → IsBitSet set a.0) → IsBitSet set a.0
    go (inl s) m rest = elim (contains-cons _ a (members set n) m) [ inl e ↦ subst (λ (b : AttrId). IsBitSet set b.0) e s | inr later ↦ rest later ]
    go (inr s) m rest = rest m

-- what stands at a place of a list with one more item
pub pushed-get : {X : Type 0} (xs : List X) (y : X) (j : ℕ) (z : X) → slice_get (xs ++ (y ∷ [])) j ≡ Some z → (slice_get xs j ≡ Some z) ⊎ ((j ≡ length xs) × (y ≡ z))
pushed-get [] y zero z e = inr (refl, held e)
pushed-get [] y (suc j) z e = absurd (none-some _ e)
pushed-get (x ∷ xs) y zero z e = inl e
pushed-get (x ∷ xs) y (suc j) z e = elim (pushed-get xs y j z e) [ inl old ↦ inl old | inr new ↦ let d = new.0 in inr ((omega arith), new.1) ]

module _ (symbols : List FlatSymbol) where
  pub attribute-get : (x : SymId) (a : AttrId) → attribute_at symbols x a ≡ slice_get (attrs_of symbols x) a.0
  attribute-get x a = go (slice_get symbols x.0)
    where
      go : (o : Option FlatSymbol) → option_and_then (λ (s : FlatSymbol). slice_get s.attrs a.0) o ≡ slice_get (elim o [ None ↦ [] | Some s ↦ s.attrs ]) a.0
      go None = refl
      go (Some s) = refl

  pub attributes-few : (x : SymId) → All (λ (s : FlatSymbol). length s.attrs ≤ 256) symbols → length (attrs_of symbols x) ≤ 256
  attributes-few x few = go (slice_get symbols x.0) refl
    where
      at : (ys : List FlatSymbol) (k : ℕ) (s : FlatSymbol) → slice_get ys k ≡ Some s → All (λ (s : FlatSymbol). length s.attrs ≤ 256) ys → length s.attrs ≤ 256
      at [] k s e h = absurd (none-some _ e)
      at (y ∷ ys) zero s e h = subst (λ (t : FlatSymbol). length t.attrs ≤ 256) (held e) (h 0 y (omega arith))
      at (y ∷ ys) (suc k) s e h = at ys k s e (λ i d l. h (suc i) d (omega arith))

      go : (o : Option FlatSymbol) → slice_get symbols x.0 ≡ o → length {A = FlatAttr} (elim o [ None ↦ [] | Some s ↦ s.attrs ]) ≤ 256
      go None e = omega arith
      go (Some s) e = at symbols x.0 s e few

module _ (symbols : List FlatSymbol) (rules : List FlatRule) (x : SymId) where
  has-attribute : (kind : Kind) (a : AttrId) → HasKind symbols x kind a → IsSome (attribute_at symbols x a)
  has-attribute kind a h = subst (λ (o : Option FlatAttr). IsSome o) (sym h.1) refl

  pub peeled-attribute : (k : ℕ) (a : AttrId) → IsPeeled symbols rules x k a → IsSome (attribute_at symbols x a)
  peeled-attribute zero a h = absurd h
  peeled-attribute (suc k) a (inl h) = peeled-attribute k a h
  peeled-attribute (suc k) a (inr (set, m, closed)) = has-attribute (kind_of_class k) a (closed a m).0

  pub attribute-below : (a : AttrId) → IsSome (attribute_at symbols x a) → a.0 < length (attrs_of symbols x)
  attribute-below a h = go (slice_get (attrs_of symbols x) a.0) refl (subst (λ (o : Option FlatAttr). IsSome o) (attribute-get symbols x a) h)
    where
      go : (o : Option FlatAttr) → slice_get (attrs_of symbols x) a.0 ≡ o → IsSome o → a.0 < length (attrs_of symbols x)
      go None e h = absurd (cc)
      go (Some attr) e h = below-length (attrs_of symbols x) a.0 attr e

  pub attribute-some : (a : AttrId) → a.0 < length (attrs_of symbols x) → IsSome (attribute_at symbols x a)
  attribute-some a h = let got = get-below (attrs_of symbols x) a.0 h in subst (λ (o : Option FlatAttr). IsSome o) (sym (attribute-get symbols x a ∙ got.1)) refl

  module _ (few : length (attrs_of symbols x) ≤ 256) where
    -- one class more
    pub class-step : (kind : Kind) (k peeled set result : ℕ) → kind_of_class k ≡ kind → ArePeeled symbols rules x k peeled
        → ((a : AttrId) → IsBitSet set a.0 → HasKind symbols x kind a × ((b : AttrId) → IDS rules x a b → IsBitSet peeled b.0 ⊎ IsBitSet set b.0))
        → ((xs : List AttrId) → IsClosedSet symbols rules x (λ b. IsBitSet peeled b.0) kind xs → (a : AttrId) → Contains xs a → IsBitSet set a.0)
        → ((j : ℕ) → IsBitSet result j ↔ (IsBitSet peeled j ⊎ IsBitSet set j)) → ArePeeled symbols rules x (suc k) result
    class-step kind k peeled set result e old closed greatest union a = (to, from)
      where
        to : IsPeeled symbols rules x (suc k) a → IsBitSet result a.0
        to (inl p) = (union a.0).1 (inl ((old a).0 p))
        to (inr (xs, m, c)) = (union a.0).1 (inr (greatest xs (subst (λ z. IsClosedSet symbols rules x (λ b. IsBitSet peeled b.0) z xs) e
            (closed-more symbols rules x (IsPeeled symbols rules x k) (λ b. IsBitSet peeled b.0) (kind_of_class k) xs (λ b p. (old b).0 p) c)) a m))

        inside : (b : AttrId) → IsBitSet set b.0 → Contains (members set 256) b
        inside b h = in-members set 256 b (let l = attribute-below b (has-attribute kind b (closed b h).0) in omega arith) h

        from : IsBitSet result a.0 → IsPeeled symbols rules x (suc k) a
        from h = elim ((union a.0).0 h) [
          | inl p ↦ inl ((old a).1 p)
          | inr s ↦ inr (
            members set 256,
            inside a s,
            λ b m. let c = closed b (of-members set 256 b m) in
                (subst (λ z. HasKind symbols x z b) (sym e) c.0, λ d i. elim (c.1 d i) [ inl p ↦ inl ((old d).1 p) | inr q ↦ inr (inside d q) ]),
          )
        ]

  module _ (rows : List ℕ) (kind : Kind) (peeled of_kind result : ℕ) (are : AreRows symbols rules x rows) (kinds : (a : AttrId) → IsBitSet of_kind a.0 ↔ HasKind symbols x kind a) (kept : (j : ℕ) → IsBitSet result j ↔ IsKept rows of_kind peeled j) where
    row-of : (a : AttrId) → HasKind symbols x kind a → (row : ℕ) × (slice_get rows a.0 ≡ Some row)
    row-of a h = let below = attribute-below a (has-attribute kind a h) in let each = are.each in get-below rows a.0 (omega arith)

    -- what is kept is closed: a successor that is not peeled has none but those of the first
    pub kept-closed : (a : AttrId) → IsBitSet result a.0 → HasKind symbols x kind a × ((b : AttrId) → IDS rules x a b → IsBitSet peeled b.0 ⊎ IsBitSet result b.0)
    kept-closed a bit = ((kinds a).0 first.0, λ b d. elim (first.3 b.0 ((are.bits a b first.1 first.2).1 d)) [ inl p ↦ inl p | inr q ↦ inr ((kept b.0).1 (again b d q)) ])
      where
        first : IsKept rows of_kind peeled a.0
        first = (kept a.0).0 bit

        again : (b : AttrId) → IDS rules x a b → IsBitSet of_kind b.0 → IsKept rows of_kind peeled b.0
        again b d q = let got = row-of b ((kinds b).0 q) in
            (q, got.0, got.1, λ n m. let e : AttrId = record { 0 = n } in first.3 n ((are.bits a e first.1 first.2).1 (IDS-transitive rules d ((are.bits b e got.0 got.1).0 m))))

    -- each closed set lies within what is kept
    pub kept-greatest : (xs : List AttrId) → IsClosedSet symbols rules x (λ b. IsBitSet peeled b.0) kind xs → (a : AttrId) → Contains xs a → IsBitSet result a.0
    kept-greatest xs closed a m =
        let got = row-of a (closed a m).0 in
        (kept a.0).1 (
          (kinds a).1 (closed a m).0,
          got.0,
          got.1,
          λ b bit. let d : AttrId = record { 0 = b } in elim ((closed a m).1 d ((are.bits a d got.0 got.1).0 bit)) [ inl p ↦ inl p | inr q ↦ inr ((kinds d).1 (closed d q).0) ],
        )

  -- one pair of classes more
  pub levels-step : (j : ℕ) (levels : Levels) → ArePeeled symbols rules x (2 * j) levels.later → (kind_of_class (2 * j) ≡ Synthesized → ArePeeled symbols rules x (suc (2 * j)) levels.synthesized)
      → (kind_of_class (suc (2 * j)) ≡ Inherited → ArePeeled symbols rules x (suc (2 * j)) levels.synthesized → ArePeeled symbols rules x (suc (suc (2 * j))) levels.both) → AreLevels symbols rules x j levels
  levels-step j levels later synthesized both =
      let first : suc (2 * j) ≡ 2 * j + 1 = omega arith in
      let second : suc (suc (2 * j)) ≡ 2 * j + 2 = omega arith in
      record {
        later = later;
        synthesized = subst (λ k. ArePeeled symbols rules x k levels.synthesized) first (synthesized (even-kind j));
        both = subst (λ k. ArePeeled symbols rules x k levels.both) second (both (odd-kind j) (synthesized (even-kind j)));
      }

  pub last-levels : (n : ℕ) (levels : Levels) → AreLevels symbols rules x n levels → ((j : ℕ) → IsBitSet levels.both j → IsBitSet levels.later j) → IsLast symbols rules x (2 * n)
  last-levels n levels are within = last-pair symbols rules x n (λ a h. (are.later a).1 (within a.0 ((are.both a).0 (let e : suc (suc (2 * n)) ≡ 2 * n + 2 = omega arith in subst (λ k. IsPeeled symbols rules x k a) e h))))

  -- where a pair of classes has attributes, not all were peeled before it
  pub not-all : (n : ℕ) (levels : Levels) → AreLevels symbols rules x n levels → (((j : ℕ) → IsBitSet levels.both j → IsBitSet levels.later j) → ⊥) → PeelsAll symbols rules x (2 * n) → ⊥
  not-all n levels are other all = other (λ j h. let a : AttrId = record { 0 = j } in (are.later a).0 (all a (peeled-attribute (2 * n + 2) a ((are.both a).1 h))))

  -- sets of attributes are below 2 ^ 256
  pub small-set : length (attrs_of symbols x) ≤ 256 → (k set : ℕ) → ArePeeled symbols rules x k set → set < 2 ^ 256
  small-set few k set are = let p = within-le set (2 ^ 256 - 1) (λ j h. set-of (2 ^ 256 - 1) j (bit_at_ones 256 j (let a : AttrId = record { 0 = j } in let b = attribute-below a (peeled-attribute k a ((are a).1 h)) in omega arith))) in omega arith

  pub nothing-peeled : ArePeeled symbols rules x (2 * 0) 0
  nothing-peeled a = (λ h. absurd h, λ h. absurd (empty-set a.0 h))

  pub next-level : (n : ℕ) (set : ℕ) → ArePeeled symbols rules x (2 * n + 2) set → ArePeeled symbols rules x (2 * (n + 1)) set
  next-level n set are = let e : 2 * n + 2 ≡ 2 * (n + 1) = omega arith in subst (λ k. ArePeeled symbols rules x k set) e are

  pub fewest-step : (n m : ℕ) (levels : Levels) → AreLevels symbols rules x n levels → (((j : ℕ) → IsBitSet levels.both j → IsBitSet levels.later j) → ⊥) → m ≡ n + 1
      → ((k : ℕ) → 0 < k → k < n → PeelsAll symbols rules x (2 * k) → ⊥) → (k : ℕ) → 0 < k → k < m → PeelsAll symbols rules x (2 * k) → ⊥
  fewest-step n m levels are other e before k positive below all = elim (cases_lt k n) [
    | inl l ↦ before k positive l all
    | inr g ↦ not-all n levels are other (let same : k ≡ n = omega arith in subst (λ i. PeelsAll symbols rules x (2 * i)) same all)
  ]

  pub levels-push : (all new : List Levels) (n : ℕ) (levels : Levels) → AreAllLevels symbols rules x all → n ≡ length all → AreLevels symbols rules x n levels → new ≡ all ++ (levels ∷ []) → AreAllLevels symbols rules x new
  levels-push all new n levels each e are pushed j found at = go (pushed-get all levels j found (subst (λ (xs : List Levels). slice_get xs j ≡ Some found) pushed at))
    where
      go : (slice_get all j ≡ Some found) ⊎ ((j ≡ length all) × (levels ≡ found)) → AreLevels symbols rules x j found
      go (inl old) = each j found old
      go (inr new) = subst (λ (l : Levels). AreLevels symbols rules x j l) new.1 (let same : n ≡ j = omega (arith, new.0) in subst (λ i. AreLevels symbols rules x i levels) same are)

  -- the attribute at a place has the kind
  pub kind-at : (kind : Kind) (attrs : List FlatAttr) (i : ℕ) (d : FlatAttr) → attrs ≡ attrs_of symbols x → i < length attrs → (get_or attrs i d).kind ≡ kind → HasKind symbols x kind (record { 0 = i })
  kind-at kind attrs i d e h k = (get_or attrs i d, attribute-get symbols x (record { 0 = i }) ∙ ap (λ (xs : List FlatAttr). slice_get xs i) (sym e) ∙ slice_get-get_or attrs i d h, k)

  pub kind-of : (kind : Kind) (attrs : List FlatAttr) (i : ℕ) (d : FlatAttr) → attrs ≡ attrs_of symbols x → i < length attrs → HasKind symbols x kind (record { 0 = i }) → (get_or attrs i d).kind ≡ kind
  kind-of kind attrs i d e h (attr, at, k) =
      let same : get_or attrs i d ≡ attr = held (sym (slice_get-get_or attrs i d h) ∙ ap (λ (xs : List FlatAttr). slice_get xs i) e ∙ sym (attribute-get symbols x (record { 0 = i })) ∙ at) in
      ap (λ (a : FlatAttr). a.kind) same ∙ k

  pub kind-below : (kind : Kind) (attrs : List FlatAttr) → attrs ≡ attrs_of symbols x → (j : ℕ) → HasKind symbols x kind (record { 0 = j }) → j < length attrs
  kind-below kind attrs e j h = subst (λ (xs : List FlatAttr). j < length xs) (sym e) (attribute-below (record { 0 = j }) (has-attribute kind (record { 0 = j }) h))

-- the row at a place is kept
pub kept-at : (rows : List ℕ) (set allowed i row : ℕ) → slice_get rows i ≡ Some row → IsBitSet set i → ((b : ℕ) → IsBitSet row b → IsBitSet allowed b ⊎ IsBitSet set b) → IsKept rows set allowed i
kept-at rows set allowed i row at bit within = (bit, row, at, within)

pub kept-of : (rows : List ℕ) (set allowed i row : ℕ) → slice_get rows i ≡ Some row → IsKept rows set allowed i → IsBitSet set i × ((b : ℕ) → IsBitSet row b → IsBitSet allowed b ⊎ IsBitSet set b)
kept-of rows set allowed i row at (bit, other, got, within) = (bit, λ b in_row. within b (subst (λ r. IsBitSet r b) (held (sym at ∙ got)) in_row))

pub kept-below : (rows : List ℕ) (set allowed j : ℕ) → IsKept rows set allowed j → j < length rows
kept-below rows set allowed j (bit, row, at, within) = below-length rows j row at
