-- Relations as lists of rows: what they have, what follows from it, and when all of it is there.
use Rattle.std.specs.Prelude.{IsBitSet, slice_index_or, slice_set, ◌%◌, ◌/◌}
use Rattle.std.proofs.Common.{◌≡◌, ◌≢◌, ℕ, ◌+◌, ◌<◌, ◌≤◌, ◌⊎◌, ◌↔◌, inl, inr, refl, sym, ap, subst, ◌∙◌, arith, List, [], ◌∷◌, ◌++◌, length}
use Rattle.std.proofs.lemmas.Bool.{cases_lt, cases_order}
use Rattle.std.proofs.lemmas.List.{get_or_past, get_or_append_left, get_or-set_same, get_or-set_other, length-append}
use Rattle.std.proofs.Math.Seq.{get_or-append_seam}
use Rattle.std.proofs.lemmas.Option.{get_or_from_slice_get, slice_get-get_or}
use Rattle.flat_grammar.proofs.BitsLemmas.{empty-set}
use Rattle.induced_deps.proofs.RowLemmas.{equal_or_not}
use Rattle.induced_deps.specs.declared.row.Row.{Row}
use Rattle.induced_deps.specs.Rows.{IsIn, IsPart, no_row, Has, IsClosedAt, ArePassed, Follows, known, extra, joined, Nothing, Gains, FromOne, IsTransitive, IsBehind, ComesTo}

nothing_in : (w : ℕ) → IsIn [] w → ⊥
unfolding IsIn
nothing_in w h = empty-set (w % 128) (subst (λ x. IsBitSet x (w % 128)) (get_or_past [] (w / 128) 0 (omega arith)) h)

pub no_row_past : (rows : List Row) (v w : ℕ) → length rows ≤ v → Has rows v w → ⊥
no_row_past rows v w past h = nothing_in w (subst (λ (r : Row). IsIn r.words w) (get_or_past rows v no_row past) h)

pub no_edges : (v w : ℕ) → Has [] v w → ⊥
no_edges v w h = no_row_past [] v w (omega arith) h

pub has_within : (rows : List Row) (v w : ℕ) → Has rows v w → v < length rows
has_within rows v w h = elim (cases_lt v (length rows)) [ inl within ↦ within | inr past ↦ absurd (no_row_past rows v w past h) ]

-- one more row without edges
pub none_more : (rows : List Row) (row : Row) → ((v w : ℕ) → Has rows v w → ⊥) → ((w : ℕ) → IsIn row.words w → ⊥) → (v w : ℕ) → Has (rows ++ row ∷ []) v w → ⊥
none_more rows row none empty v w h = elim (cases_order v (length rows)) [
  | inl same ↦ empty w (subst (λ (r : Row). IsIn r.words w) (ap (λ k. slice_index_or (rows ++ row ∷ []) k no_row) same ∙ get_or-append_seam rows row [] no_row) h)
  | inr other ↦ elim other [
    | inl within ↦ none v w (subst (λ (r : Row). IsIn r.words w) (get_or_append_left rows (row ∷ []) no_row v within) h)
    | inr past ↦ no_row_past (rows ++ row ∷ []) v w (let size = length-append rows (row ∷ []) in omega arith) h
  ]
]

pub part_in : (set row : List ℕ) (w : ℕ) → IsPart set row → IsIn set w → IsIn row w
unfolding IsIn IsPart
part_in set row w part h = part (w / 128) (w % 128) h

-- nothing is gained where all extra edges are there
pub gains_there : (rows : List Row) (E : ℕ → ℕ → Type 0) → ((v w : ℕ) → E v w → Has rows v w) → Gains rows rows E
gains_there rows E there = record { kept = λ v w h. h; added = there; follow = λ v w h. known h }

-- More extra edges.
more_follows : (rows : List Row) (E F : ℕ → ℕ → Type 0) → ((v w : ℕ) → E v w → F v w) → (v w : ℕ) → Follows rows E v w → Follows rows F v w
more_follows rows E F wider v w (known h) = known h
more_follows rows E F wider v w (extra h) = extra (wider v w h)
more_follows rows E F wider v w (joined {v = u} h k) = joined (more_follows rows E F wider v u h) (more_follows rows E F wider u w k)

-- one gain after another
then_follows : (old middle : List Row) (E F G : ℕ → ℕ → Type 0) → ((v w : ℕ) → E v w → G v w) → ((v w : ℕ) → F v w → G v w) → ((v w : ℕ) → Has middle v w → Follows old E v w) → (v w : ℕ) → Follows middle F v w → Follows old G v w
then_follows old middle E F G first second before v w (known h) = more_follows old E G first v w (before v w h)
then_follows old middle E F G first second before v w (extra h) = extra (second v w h)
then_follows old middle E F G first second before v w (joined {v = u} h k) = joined (then_follows old middle E F G first second before v u h) (then_follows old middle E F G first second before u w k)

-- More extra edges that are there already.
pub gains_more : (old new : List Row) (E F : ℕ → ℕ → Type 0) → ((v w : ℕ) → E v w → F v w) → ((v w : ℕ) → F v w → E v w ⊎ Has old v w) → Gains old new E → Gains old new F
gains_more old new E F wider only gains = record {
  kept = gains.kept;
  added = λ v w h. elim (only v w h) [ inl e ↦ gains.added v w e | inr there ↦ gains.kept v w there ];
  follow = λ v w h. more_follows old E F wider v w (gains.follow v w h);
}

-- One gain after another gains what both do.
pub gains_then : (old middle new : List Row) (E F G : ℕ → ℕ → Type 0) → ((v w : ℕ) → E v w → G v w) → ((v w : ℕ) → F v w → G v w) → ((v w : ℕ) → G v w → E v w ⊎ F v w) → Gains old middle E → Gains middle new F → Gains old new G
gains_then old middle new E F G first second only a b = record {
  kept = λ v w h. b.kept v w (a.kept v w h);
  added = λ v w h. elim (only v w h) [ inl e ↦ b.kept v w (a.added v w e) | inr f ↦ b.added v w f ];
  follow = λ v w h. then_follows old middle E F G first second a.follow v w (b.follow v w h);
}

-- nothing is gained where there is nothing extra
pub gains_none : (rows : List Row) (E : ℕ → ℕ → Type 0) → ((v w : ℕ) → E v w → ⊥) → Gains rows rows E
gains_none rows E none = record { kept = λ v w h. h; added = λ v w h. absurd (none v w h); follow = λ v w h. known h }

-- Whatever is transitive and has the edges and the extra ones has all that follows.
pub follows_within : (rows : List Row) (E J : ℕ → ℕ → Type 0) → ((u v w : ℕ) → J u v → J v w → J u w) → ((v w : ℕ) → Has rows v w → J v w) → ((v w : ℕ) → E v w → J v w) → (v w : ℕ) → Follows rows E v w → J v w
follows_within rows E J transitive old new v w (known h) = old v w h
follows_within rows E J transitive old new v w (extra h) = new v w h
follows_within rows E J transitive old new v w (joined {v = u} h k) = transitive v u w (follows_within rows E J transitive old new v u h) (follows_within rows E J transitive old new u w k)

-- edges of one vertex alone
pub gains_joined : (old new : List Row) (from : ℕ) (set : List ℕ) → ((v w : ℕ) → Has new v w ↔ (Has old v w ⊎ FromOne from set v w)) → Gains old new (FromOne from set)
gains_joined old new from set edges = record {
  kept = λ v w h. (edges v w).1 (inl h);
  added = λ v w h. (edges v w).1 (inr h);
  follow = λ v w h. elim ((edges v w).0 h) [ inl before ↦ known before | inr more ↦ extra more ];
}

-- What follows without extra edges is no further gain.
pub gains_closed : (old middle new : List Row) (E : ℕ → ℕ → Type 0) → Gains old middle E → Gains middle new Nothing → Gains old new E
gains_closed old middle new E = gains_then old middle new E Nothing E (λ v w h. h) (λ v w h. absurd h) (λ v w h. inl h)

pub closed_past : (rows : List Row) (v : ℕ) → length rows ≤ v → IsClosedAt rows v
closed_past rows v past w x h k = absurd (no_row_past rows v w past h)

-- a closed row has all that follows from what it has
follows_closed : (rows : List Row) (v : ℕ) → IsClosedAt rows v → (w x : ℕ) → Follows rows Nothing w x → Has rows v w → Has rows v x
follows_closed rows v is w x (known h) first = is w x first h
follows_closed rows v is w x (extra h) first = absurd h
follows_closed rows v is w x (joined {v = u} h k) first = follows_closed rows v is u x k (follows_closed rows v is w u h first)

-- one more vertex is passed
pub passed_more : (rows : List Row) (v : ℕ) (old_all new_all old_passed new_passed : List ℕ) → ArePassed rows old_passed old_all
    → ((w : ℕ) → IsIn new_all w ↔ (IsIn old_all w ⊎ Has rows v w))
    → ((w : ℕ) → IsIn new_passed w → (w ≡ v) ⊎ (IsIn old_passed w ⊎ (Has rows v w × IsClosedAt rows v)))
    → ArePassed rows new_passed new_all
passed_more rows v old_all new_all old_passed new_passed before all passed w x among edge = (all x).1 (elim (passed w among) [
  | inl same ↦ inr (subst (λ k. Has rows k x) same edge)
  | inr other ↦ elim other [ inl earlier ↦ inl (before w x earlier edge) | inr (first, closed) ↦ inr (closed w x first edge) ]
])

-- Another row stands at a vertex.
module _ (rows : List Row) (from : ℕ) (row : Row) where
  at_from : from < length rows → slice_index_or (slice_set rows from row) from no_row ≡ row
  at_from within = get_or-set_same rows from row no_row within

  at_other : (v : ℕ) → v ≢ from → slice_index_or (slice_set rows from row) v no_row ≡ slice_index_or rows v no_row
  at_other v other = get_or-set_other rows from v row no_row other

-- the row of a vertex with a set
pub join_edges : (rows : List Row) (from : ℕ) (set : List ℕ) (row : Row) → from < length rows → ((j : ℕ) → IsIn row.words j ↔ (IsIn (slice_index_or rows from no_row).words j ⊎ IsIn set j))
    → (v w : ℕ) → Has (slice_set rows from row) v w ↔ (Has rows v w ⊎ FromOne from set v w)
join_edges rows from set row within members v w = elim (equal_or_not v from) [
  | inl same ↦ (
    λ h. elim ((members w).0 (subst (λ (r : Row). IsIn r.words w) (at_from rows from row within) (subst (λ k. Has (slice_set rows from row) k w) same h))) [ inl before ↦ inl (subst (λ k. Has rows k w) (sym same) before) | inr more ↦ inr (same, more) ],
    λ h. subst (λ k. Has (slice_set rows from row) k w) (sym same) (subst (λ (r : Row). IsIn r.words w) (sym (at_from rows from row within)) ((members w).1 (elim h [ inl before ↦ inl (subst (λ k. Has rows k w) same before) | inr more ↦ inr more.1 ]))),
  )
  | inr other ↦ (
    λ h. inl (subst (λ (r : Row). IsIn r.words w) (at_other rows from row v other) h),
    λ h. elim h [ inl before ↦ subst (λ (r : Row). IsIn r.words w) (sym (at_other rows from row v other)) before | inr more ↦ absurd (other more.0) ],
  )
]

pub join_gains : (rows : List Row) (from : ℕ) (set : List ℕ) (row : Row) → from < length rows → ((j : ℕ) → IsIn row.words j ↔ (IsIn (slice_index_or rows from no_row).words j ⊎ IsIn set j)) → Gains rows (slice_set rows from row) (FromOne from set)
join_gains rows from set row within members = gains_joined rows (slice_set rows from row) from set (join_edges rows from set row within members)

pub row_read : (rows : List Row) (v : ℕ) (row d : Row) → v < length rows → row ≡ slice_index_or rows v d → slice_index_or rows v no_row ≡ row
row_read rows v row d within is = get_or_from_slice_get rows v (slice_index_or rows v d) no_row (slice_get-get_or rows v d within) ∙ sym is

-- The row of a vertex becomes all that comes behind it.
module _ (rows : List Row) (from : ℕ) (row : Row) (within : from < length rows)
    (own : (w : ℕ) → Has rows from w → IsIn row.words w)
    (closed : ArePassed rows row.words row.words)
    (follow : (w : ℕ) → IsIn row.words w → Follows rows Nothing from w) where
  abbrev new : List Row
  new = slice_set rows from row

  new_edge : (v w : ℕ) → Has new v w → ((v ≡ from) × IsIn row.words w) ⊎ Has rows v w
  new_edge v w h = elim (equal_or_not v from) [
    | inl same ↦ inl (same, subst (λ (r : Row). IsIn r.words w) (at_from rows from row within) (subst (λ k. Has new k w) same h))
    | inr other ↦ inr (subst (λ (r : Row). IsIn r.words w) (at_other rows from row v other) h)
  ]

  here : (w : ℕ) → IsIn row.words w → Has new from w
  here w h = subst (λ (r : Row). IsIn r.words w) (sym (at_from rows from row within)) h

  kept : (v w : ℕ) → Has rows v w → Has new v w
  kept v w h = elim (equal_or_not v from) [
    | inl same ↦ subst (λ k. Has new k w) (sym same) (here w (own w (subst (λ k. Has rows k w) same h)))
    | inr other ↦ subst (λ (r : Row). IsIn r.words w) (sym (at_other rows from row v other)) h
  ]

  row_gains : Gains rows new Nothing
  row_gains = record {
    kept = kept;
    added = λ v w h. absurd h;
    follow = λ v w h. elim (new_edge v w h) [ inl (same, among) ↦ subst (λ k. Follows rows Nothing k w) (sym same) (follow w among) | inr before ↦ known before ];
  }

  closed_other : (v : ℕ) → v ≢ from → IsClosedAt rows v → IsClosedAt new v
  closed_other v other is w x h k =
      let first : Has rows v w = subst (λ (r : Row). IsIn r.words w) (at_other rows from row v other) h in
      kept v x (elim (new_edge w x k) [
        | inl (same, among) ↦ follows_closed rows v is w x (subst (λ u. Follows rows Nothing u x) (sym same) (follow x among)) first
        | inr before ↦ is w x first before
      ])

  closed_here : IsClosedAt new from
  closed_here w x h k = here x (elim (new_edge w x k) [
    | inl (same, among) ↦ among
    | inr before ↦ closed w x (subst (λ (r : Row). IsIn r.words w) (at_from rows from row within) h) before
  ])

  pub closed_next : (count k : ℕ) → from + (k + 1) ≡ count → ((v : ℕ) → count ≤ v + k → IsClosedAt rows v) → (v : ℕ) → count ≤ v + (k + 1) → IsClosedAt new v
  closed_next count k place before v above = elim (equal_or_not v from) [
    | inl same ↦ subst (λ u. IsClosedAt new u) (sym same) closed_here
    | inr other ↦ closed_other v other (before v (elim (cases_order v from) [
      | inl same ↦ absurd (other same)
      | inr apart ↦ elim apart [ inl less ↦ absurd (omega arith) | inr more ↦ omega arith ]
    ]))
  ]

  pub gains_row : (old : List Row) → Gains old rows Nothing → Gains old new Nothing
  gains_row old before = gains_closed old rows new Nothing before row_gains

-- ---- a set that goes into the row of a vertex and of all that come before it

-- the rows before a place have got the set
module _ (old rows : List Row) (from : ℕ) (set : List ℕ) where
  -- edges so far
  abbrev pub AreJoined : ℕ → Type 0
  AreJoined count = (v w : ℕ) → Has rows v w ↔ (Has old v w ⊎ ((v < count) × ComesTo old from set v w))

pub none_joined : (rows : List Row) (from : ℕ) (set : List ℕ) → AreJoined rows rows from set 0
none_joined rows from set v w = (λ h. inl h, λ h. elim h [ inl before ↦ before | inr more ↦ (let below = more.0 in absurd (omega arith)) ])

pub one_joined : (old rows new : List Row) (from : ℕ) (set : List ℕ) (k : ℕ) → AreJoined old rows from set k → (k ≡ from) ⊎ Has rows k from → ((v w : ℕ) → Has new v w ↔ (Has rows v w ⊎ FromOne k set v w)) → AreJoined old new from set (k + 1)
one_joined old rows new from set k before why more v w = (
  λ h. elim ((more v w).0 h) [
    | inl earlier ↦ elim ((before v w).0 earlier) [ inl first ↦ inl first | inr (below, comes) ↦ inr (omega arith, comes) ]
    | inr (same, among) ↦ inr (omega arith, (elim why [ inl is ↦ inl (same ∙ is) | inr edge ↦ inr (subst (λ u. Has old u from) (sym same) (first_edge edge)) ], among))
  ],
  λ h. elim h [
    | inl first ↦ (more v w).1 (inl ((before v w).1 (inl first)))
    | inr (below, comes) ↦ elim (cases_lt v k) [
      | inl less ↦ (more v w).1 (inl ((before v w).1 (inr (less, comes))))
      | inr last ↦ (more v w).1 (inr (omega arith, comes.1))
    ]
  ],
)
  where
    first_edge : Has rows k from → Has old k from
    first_edge h = elim ((before k from).0 h) [ inl first ↦ first | inr (below, comes) ↦ absurd (omega arith) ]

pub not_joined : (old rows : List Row) (from : ℕ) (set : List ℕ) (k : ℕ) → AreJoined old rows from set k → (k ≢ from) → (Has rows k from → ⊥) → AreJoined old rows from set (k + 1)
not_joined old rows from set k before other none v w = (
  λ h. elim ((before v w).0 h) [ inl first ↦ inl first | inr (below, comes) ↦ inr (omega arith, comes) ],
  λ h. elim h [
    | inl first ↦ (before v w).1 (inl first)
    | inr (below, comes) ↦ elim (cases_lt v k) [
      | inl less ↦ (before v w).1 (inr (less, comes))
      | inr last ↦ (let same : v ≡ k = omega arith in absurd (elim comes.0 [ inl is ↦ other (sym same ∙ is) | inr edge ↦ none ((before k from).1 (inl (subst (λ u. Has old u from) same edge))) ]))
    ]
  ],
)

pub all_joined : (old rows : List Row) (from : ℕ) (set : List ℕ) (k : ℕ) → AreJoined old rows from set k → from < length old → length old ≤ k → (v w : ℕ) → Has rows v w ↔ (Has old v w ⊎ ComesTo old from set v w)
all_joined old rows from set k are within all v w = (
  λ h. elim ((are v w).0 h) [ inl first ↦ inl first | inr (below, comes) ↦ inr comes ],
  λ h. (are v w).1 (elim h [
    | inl first ↦ inl first
    | inr comes ↦ inr (elim comes.0 [ inl is ↦ omega arith | inr edge ↦ (let inside = has_within old v from edge in omega arith) ], comes)
  ]),
)

-- All that comes behind a set goes to a vertex: what follows is there, and nothing else.
module _ (old new : List Row) (from : ℕ) (set all : List ℕ) (transitive : IsTransitive old) (own : (w : ℕ) → IsIn set w → IsIn all w) (closed : ArePassed old all all) (only : (w : ℕ) → IsIn all w → IsBehind old set w)
    (edges : (v w : ℕ) → Has new v w ↔ (Has old v w ⊎ ComesTo old from all v w)) where
  comes_on : (v w : ℕ) → (v ≡ from) ⊎ Has old v from → IsIn all w → Has new v w
  comes_on v w why among = (edges v w).1 (inr (why, among))

  comes_before : (v w : ℕ) → Has old v w → (w ≡ from) ⊎ Has old w from → (v ≡ from) ⊎ Has old v from
  comes_before v w edge (inl is) = inr (subst (λ u. Has old v u) is edge)
  comes_before v w edge (inr more) = inr (transitive v w from edge more)

  pub joined_transitive : IsTransitive new
  joined_transitive u v w first second = elim ((edges u v).0 first) [
    | inl a ↦ elim ((edges v w).0 second) [
      | inl b ↦ (edges u w).1 (inl (transitive u v w a b))
      | inr (why, among) ↦ comes_on u w (comes_before u v a why) among
    ]
    | inr (why, among) ↦ elim ((edges v w).0 second) [
      | inl b ↦ comes_on u w why (closed v w among b)
      | inr (more, further) ↦ comes_on u w why further
    ]
  ]

  from_set : (w : ℕ) → IsBehind old set w → Follows old (FromOne from set) from w
  from_set w (inl is) = extra (refl, is)
  from_set w (inr (v, is, edge)) = joined (extra (refl, is)) (known edge)

  joined_follows : (v w : ℕ) → Has old v w ⊎ ComesTo old from all v w → Follows old (FromOne from set) v w
  joined_follows v w (inl before) = known before
  joined_follows v w (inr (inl is, among)) = subst (λ u. Follows old (FromOne from set) u w) (sym is) (from_set w (only w among))
  joined_follows v w (inr (inr edge, among)) = joined (known edge) (from_set w (only w among))

  pub joined_gains : Gains old new (FromOne from set)
  joined_gains = record {
    kept = λ v w h. (edges v w).1 (inl h);
    added = λ v w h. comes_on v w (inl h.0) (own w h.1);
    follow = λ v w h. joined_follows v w ((edges v w).0 h);
  }
