-- The induced dependencies as edges, gained row by row and place by place.
use Rattle.std.specs.Prelude.{IsBitSet, slice_index_or, All, Bool, true, false, IsTrue, IsFalse}
use Rattle.std.proofs.Common.{◌≡◌, ℕ, ◌+◌, ◌<◌, ◌≤◌, ◌⊎◌, ◌↔◌, inl, inr, sym, ap, subst, ◌∙◌, arith, List, [], length, take, map, true≢false}
use Rattle.std.proofs.lemmas.Bool.{cases_order}
use Rattle.std.proofs.lemmas.Option.{get_or_from_slice_get, slice_get-get_or}
use Rattle.std.proofs.lemmas.List.{length-map}
use Rattle.std.proofs.Math.ListN.{get_or-map}
use Rattle.std.proofs.lemmas.List.Elements.{All-contains}
use Rattle.flat_grammar.proofs.Lists.{contains-nil, contains_at, take_less, take_here, take_cases}
use Rattle.flat_grammar.proofs.BitsLemmas.{is-set}
use Rattle.induced_deps.specs.declared.row.Row.{Row}
use Rattle.induced_deps.specs.declared.graph.Place.{Place}
use Rattle.induced_deps.specs.Rows.{IsIn, Has, Gains, FromOne}
use Rattle.induced_deps.specs.Vertices.{IsAtPlace}
use Rattle.induced_deps.specs.Rounds.{OfRow, OfRows, OfPlaces, HasRow, IsBit, IsAtSymbol, IsProjected, rows_of, room_of_all}
use Rattle.induced_deps.proofs.ClosureLemmas.{gains_none, gains_then, gains_there, gains_more}

pub no_rows : (edges : List Row) (p : Place) (rows : List ℕ) → Gains edges edges (OfRows p rows 0)
no_rows edges p rows = gains_none edges (OfRows p rows 0) (λ v w h. let below = h.1 in absurd (omega arith))

pub one_row_more : (old middle new : List Row) (p : Place) (rows : List ℕ) (a d row : ℕ) → a < length rows → row ≡ slice_index_or rows a d
    → Gains old middle (OfRows p rows a) → Gains middle new (OfRow p (p.offset + a) row) → Gains old new (OfRows p rows (a + 1))
one_row_more old middle new p rows a d row within is first second =
    gains_then old middle new (OfRows p rows a) (OfRow p (p.offset + a) row) (OfRows p rows (a + 1))
    (λ v w h. (h.0, (let below = h.1 in omega arith), h.2, h.3))
    (λ v w h. (a, omega arith, h.0, subst (λ r. IsAtPlace p r w) same_row h.1))
    (λ v w h. elim (cases_order h.0 a) [
      | inl same ↦ inr (h.2 ∙ ap (λ k. p.offset + k) same, subst (λ r. IsAtPlace p r w) (sym same_row) (subst (λ k. IsAtPlace p (slice_index_or rows k 0) w) same h.3))
      | inr other ↦ elim other [ inl below ↦ inl (h.0, below, h.2, h.3) | inr above ↦ (let most = h.1 in absurd (omega arith)) ]
    ])
    first second
  where
    same_row : row ≡ slice_index_or rows a 0
    same_row = is ∙ get_or_from_slice_get rows a (slice_index_or rows a 0) d (slice_get-get_or rows a 0 within)

-- One row, of which the new attributes alone are joined.
module _ (old : List Row) (p : Place) (from row known_row : ℕ) (is_known : (b : ℕ) → IsBitSet known_row b ↔ ((b < p.width) × Has old from (p.offset + b))) where
  pub row_there : ((j : ℕ) → IsBitSet row j → IsBitSet known_row j) → Gains old old (OfRow p from row)
  row_there all = gains_there old (OfRow p from row) (λ v w (same, (b, below, bit, is)). subst (λ u. Has old u w) (sym same) (subst (Has old from) (sym is) ((is_known b).0 (all b bit)).1))

  pub row_joined : (new : List Row) (rest : ℕ) (words : List ℕ) → ((j : ℕ) → IsBitSet rest j ↔ (IsBitSet row j × (IsBitSet known_row j → ⊥))) → ((w : ℕ) → IsIn words w ↔ IsAtPlace p rest w) → Gains old new (FromOne from words)
      → Gains old new (OfRow p from row)
  row_joined new rest words is_rest is_words gains = gains_more old new (FromOne from words) (OfRow p from row)
      (λ v w h. (let (b, below, bit, is) = (is_words w).0 h.1 in (h.0, (b, below, ((is_rest b).0 bit).0, is))))
      (λ v w (same, (b, below, bit, is)). elim (is-set known_row b) [
        | inl known ↦ inr (subst (λ u. Has old u w) (sym same) (subst (Has old from) (sym is) ((is_known b).0 known).1))
        | inr not ↦ inl (same, (is_words w).1 (b, below, (is_rest b).1 (bit, not), is))
      ])
      gains

pub no_places : (edges : List Row) (ids : List (List ℕ)) → Gains edges edges (OfPlaces ids [])
no_places edges ids = gains_none edges (OfPlaces ids []) (λ v w h. contains-nil h.0 h.1)

pub one_place_more : (old middle new : List Row) (ids : List (List ℕ)) (places : List Place) (k : ℕ) (d : Place) (rows : List ℕ) → k < length places → rows ≡ rows_of ids (slice_index_or places k d).symbol.0
    → Gains old middle (OfPlaces ids (take k places)) → Gains middle new (OfRows (slice_index_or places k d) rows (slice_index_or places k d).width) → Gains old new (OfPlaces ids (take (k + 1) places))
one_place_more old middle new ids places k d rows within is first second =
    gains_then old middle new (OfPlaces ids (take k places)) (OfRows p rows p.width) (OfPlaces ids (take (k + 1) places))
    (λ v w h. (h.0, take_less places k d h.0 within h.1, h.2))
    (λ v w h. (p, take_here places k d within, subst (λ r. OfRows p r p.width v w) is h))
    (λ v w h. elim (take_cases places k d h.0 within h.1) [
      | inl earlier ↦ inl (h.0, earlier, h.2)
      | inr same ↦ inr (subst (λ r. OfRows p r p.width v w) (sym is) (subst (λ (q : Place). OfRows q (rows_of ids q.symbol.0) q.width v w) (sym same) h.2))
    ])
    first second
  where
    p : Place
    p = slice_index_or places k d

pub row_is : (ids : List (List ℕ)) (places : List Place) (k : ℕ) (d : Place) (none rows found : List ℕ) → k < length places → All (HasRow ids) places → rows ≡ found → found ≡ slice_index_or ids (slice_index_or places k d).symbol.0 none
    → rows ≡ rows_of ids (slice_index_or places k d).symbol.0
row_is ids places k d none rows found within all same is =
    let has = All-contains (HasRow ids) places (slice_index_or places k d) all (contains_at places k d within) in
    same ∙ is ∙ get_or_from_slice_get ids (slice_index_or places k d).symbol.0 (rows_of ids (slice_index_or places k d).symbol.0) none (slice_get-get_or ids (slice_index_or places k d).symbol.0 [] has.within)

-- The symbols' rows once one more place is projected.
module _ (initial old new : List (List ℕ)) (places : List Place) (edges : List Row) (k : ℕ) (d : Place) (grew one both : Bool) (within : k < length places)
    (either : ((one ≡ true) × (both ≡ true)) ⊎ ((one ≡ false) × (both ≡ grew)))
    (bits : (x a b : ℕ) → IsBit (rows_of new x) a b ↔ (IsBit (rows_of old x) a b ⊎ IsAtSymbol (slice_index_or places k d) edges x a b)) where
  pub still_sound : ((x a b : ℕ) → IsBit (rows_of old x) a b → IsBit (rows_of initial x) a b ⊎ IsProjected places edges x a b) → (x a b : ℕ) → IsBit (rows_of new x) a b → IsBit (rows_of initial x) a b ⊎ IsProjected places edges x a b
  still_sound before x a b h = elim ((bits x a b).0 h) [ inl known ↦ before x a b known | inr at ↦ inr (slice_index_or places k d, contains_at places k d within, at) ]

  neither : IsFalse both → (one ≡ false) × (grew ≡ false)
  neither none = elim either [ inl new_one ↦ absurd (true≢false (sym new_one.1 ∙ none)) | inr other ↦ (other.0, sym other.1 ∙ none) ]

  pub still_same : (IsFalse one → new ≡ old) → (IsFalse grew → old ≡ initial) → IsFalse both → new ≡ initial
  still_same step before none = let (first, second) = neither none in step first ∙ before second

  pub still_all : (IsFalse grew → (x a b : ℕ) → IsProjected (take k places) edges x a b → IsBit (rows_of old x) a b) → IsFalse both → (x a b : ℕ) → IsProjected (take (k + 1) places) edges x a b → IsBit (rows_of new x) a b
  still_all before none x a b (p, among, at) = elim (take_cases places k d p within among) [
    | inl earlier ↦ (bits x a b).1 (inl (before (neither none).1 x a b (p, earlier, at)))
    | inr same ↦ (bits x a b).1 (inr (subst (λ (q : Place). IsAtSymbol q edges x a b) (sym same) at))
  ]

  pub still_less : room_of_all new ≤ room_of_all old → room_of_all old ≤ room_of_all initial → (IsTrue one → room_of_all new < room_of_all old) → (IsTrue grew → room_of_all old < room_of_all initial) → IsTrue both → room_of_all new < room_of_all initial
  still_less step lighter less before some = elim either [ inl new_one ↦ (let now = less new_one.0 in omega arith) | inr other ↦ (let then = before (sym other.1 ∙ some) in omega arith) ]

has_row_kept : (old new : List (List ℕ)) (p : Place) → map length new ≡ map length old → HasRow old p → HasRow new p
has_row_kept old new p same has =
    let count : length new ≡ length old = sym (length-map new length) ∙ ap length same ∙ length-map old length in
    let size : length (rows_of new p.symbol.0) ≡ length (rows_of old p.symbol.0) = sym (get_or-map length new p.symbol.0 []) ∙ ap (λ l. slice_index_or l p.symbol.0 0) same ∙ get_or-map length old p.symbol.0 [] in
    record { within = (let inside = has.within in omega arith); size = size ∙ has.size; few = has.few }

pub has_row_at : (old new : List (List ℕ)) (places : List Place) (k : ℕ) (d : Place) → k < length places → map length new ≡ map length old → All (HasRow old) places → HasRow new (slice_index_or places k d)
has_row_at old new places k d within same all = has_row_kept old new (slice_index_or places k d) same (All-contains (HasRow old) places (slice_index_or places k d) all (contains_at places k d within))
