-- Which rules are still to be visited: marks are told on, and a rule without one is settled.
use Rattle.std.specs.Prelude.{slice_index_or, slice_get, slice_set, Contains}
use Rattle.std.proofs.Common.{◌≡◌, ◌≢◌, ℕ, ◌+◌, ◌<◌, ◌⊎◌, inl, inr, refl, sym, ap, subst, ◌∙◌, arith, List, [], ◌∷◌, ◌++◌, length, map, take, drop, Some, Bool, true, false, true≢false}
use Rattle.std.proofs.lemmas.Bool.{cases_order}
use Rattle.std.proofs.lemmas.List.{length-map, length-set, length-append, get_or_past, get_or_append_left, get_or-set_same, get_or-set_other}
use Rattle.std.proofs.Math.Seq.{get_or-append_seam, take-append_seam}
use Rattle.std.proofs.lemmas.List.Elements.{Contains-append_left, Contains-append_right, Contains-append_cases}
use Rattle.std.proofs.lemmas.Option.{get_or_from_slice_get, slice_get-get_or, slice_get_within}
use Rattle.flat_grammar.proofs.Lists.{contains-nil, contains-first, contains-cons, take_cases}
use Rattle.induced_deps.specs.declared.graph.Place.{Place}
use Rattle.induced_deps.specs.declared.growth.Graph.{Graph}
use Rattle.induced_deps.specs.declared.due.Due.{Due}
use Rattle.induced_deps.specs.Due.{IsDue, IsDone, IsUser, in_turn}
use Rattle.induced_deps.specs.Vertices.{IsAtPlace}
use Rattle.induced_deps.specs.Rounds.{IsBit, IsReady, Tells, rows_of}
use Rattle.induced_deps.specs.Graphs.{AreUsers, AreDue, IsSettled}
use Rattle.induced_deps.proofs.RowLemmas.{equal_or_not}

-- ---- marks

pub due_here : (flags : List Bool) (r : ℕ) → r < length flags → IsDue (slice_set flags r true) r
due_here flags r within = get_or-set_same flags r true false within

pub due_still : (flags : List Bool) (r k : ℕ) → r < length flags → IsDue flags k → IsDue (slice_set flags r true) k
due_still flags r k within h = elim (equal_or_not k r) [
  | inl same ↦ subst (λ n. IsDue (slice_set flags r true) n) (sym same) (due_here flags r within)
  | inr other ↦ get_or-set_other flags r k true false other ∙ h
]

pub done_still : (flags : List Bool) (r j : ℕ) → r < length flags → (j ≡ r) ⊎ IsDone flags j → IsDone (slice_set flags r false) j
done_still flags r j within h = elim (equal_or_not j r) [
  | inl same ↦ subst (λ n. IsDone (slice_set flags r false) n) (sym same) (get_or-set_same flags r false false within)
  | inr other ↦ elim h [ inl same ↦ absurd (other same) | inr before ↦ get_or-set_other flags r j false false other ∙ before ]
]

not_both : (flags : List Bool) (k : ℕ) → IsDue flags k → IsDone flags k → ⊥
not_both flags k due done = true≢false (sym due ∙ done)

due_or_done : (flags : List Bool) (k : ℕ) → IsDue flags k ⊎ IsDone flags k
due_or_done flags k = go (slice_index_or flags k false) refl
  where
    go : (b : Bool) → slice_index_or flags k false ≡ b → IsDue flags k ⊎ IsDone flags k
    go true e = inl e
    go false e = inr e

-- ---- users

module _ (users : List (List ℕ)) (x : ℕ) (row : List ℕ) (within : x < length users) where
  pub user_set : (y k : ℕ) → IsUser (slice_set users x row) y k → ((y ≡ x) × Contains row k) ⊎ IsUser users y k
  user_set y k h = elim (equal_or_not y x) [
    | inl same ↦ inl (same, subst (λ l. Contains l k) (ap (λ n. slice_index_or (slice_set users x row) n []) same ∙ get_or-set_same users x row [] within) h)
    | inr other ↦ inr (subst (λ l. Contains l k) (get_or-set_other users x y row [] other) h)
  ]

  pub user_here : (k : ℕ) → Contains row k → IsUser (slice_set users x row) x k
  user_here k h = subst (λ l. Contains l k) (sym (get_or-set_same users x row [] within)) h

  pub user_kept : ((k : ℕ) → IsUser users x k → Contains row k) → (y k : ℕ) → IsUser users y k → IsUser (slice_set users x row) y k
  user_kept more y k h = elim (equal_or_not y x) [
    | inl same ↦ subst (λ n. IsUser (slice_set users x row) n k) (sym same) (user_here k (more k (subst (λ n. IsUser users n k) same h)))
    | inr other ↦ subst (λ l. Contains l k) (sym (get_or-set_other users x y row [] other)) h
  ]

pub last_user : (users : List ℕ) (rule k : ℕ) → Contains (users ++ rule ∷ []) k → Contains users k ⊎ (k ≡ rule)
last_user users rule k h = elim (Contains-append_cases users (rule ∷ []) k h) [
  | inl before ↦ inl before
  | inr last ↦ elim (contains-cons rule k [] last) [ inl same ↦ inr (sym same) | inr none ↦ absurd (contains-nil k none) ]
]

pub user_added : (users : List ℕ) (rule : ℕ) → Contains (users ++ rule ∷ []) rule
user_added users rule = Contains-append_right users (rule ∷ []) rule (contains-first rule [])

pub user_before : (users : List ℕ) (rule k : ℕ) → Contains users k → Contains (users ++ rule ∷ []) k
user_before users rule k h = Contains-append_left users (rule ∷ []) k h

-- ---- telling on

pub tells_nothing : (due : Due) (ids : List (List ℕ)) → Tells due due ids ids
tells_nothing due ids = record { users = refl; size = refl; kept = λ k h. h; told = λ x. inl refl }

pub tells_then : (first second third : Due) (old middle new : List (List ℕ)) → Tells first second old middle → Tells second third middle new → Tells first third old new
tells_then first second third old middle new a b = record {
  users = b.users ∙ a.users;
  size = b.size ∙ a.size;
  kept = λ k h. b.kept k (a.kept k h);
  told = λ x. elim (a.told x) [
    | inl same ↦ elim (b.told x) [ inl again ↦ inl (again ∙ same) | inr marked ↦ inr (λ k user. marked k (subst (λ us. IsUser us x k) (sym (ap (λ v. v.items) a.users)) user)) ]
    | inr marked ↦ inr (λ k user. b.kept k (marked k user))
  ];
}

pub tells_one : (before after : Due) (old new : List (List ℕ)) (s : ℕ) → ((x : ℕ) → x ≢ s → rows_of new x ≡ rows_of old x) → after.users ≡ before.users → length after.flags.items ≡ length before.flags.items
    → ((k : ℕ) → IsDue before.flags.items k → IsDue after.flags.items k) → ((k : ℕ) → IsUser before.users.items s k → IsDue after.flags.items k) → Tells before after old new
tells_one before after old new s others users size kept marked = record {
  users = users;
  size = size;
  kept = kept;
  told = λ x. elim (equal_or_not x s) [ inl same ↦ inr (λ k user. marked k (subst (λ n. IsUser before.users.items n k) same user)) | inr other ↦ inl (others x other) ];
}

same_count : (old new : List (List ℕ)) → map length new ≡ map length old → length new ≡ length old
same_count old new same = sym (length-map new length) ∙ ap length same ∙ length-map old length

pub ready_kept : (before after : Due) (old new : List (List ℕ)) → map length new ≡ map length old → Tells before after old new → IsReady old before → IsReady new after
ready_kept before after old new same tells ready = record {
  symbols = (let count = same_count old new same in let most = ready.symbols in let users = ap (λ v. length v.items) tells.users in omega arith);
  within = λ x k user. (let inside = ready.within x k (subst (λ us. IsUser us x k) (ap (λ v. v.items) tells.users) user) in let size = tells.size in omega arith);
}

-- ---- settled rules

-- only the rows of a rule's own symbols matter to it
settled_same : (old new : List (List ℕ)) (g : Graph) → ((p : Place) → Contains g.places.items p → rows_of new p.symbol.0 ≡ rows_of old p.symbol.0) → IsSettled old g → IsSettled new g
settled_same old new g same settled = record {
  induced = λ v w h. (let (p, among, (a, below, from, at)) = h in settled.induced v w (p, among, (a, below, from, subst (λ rows. IsAtPlace p (slice_index_or rows a 0) w) (same p among) at)));
  projected = λ x a b h. (let (p, among, at) = h in
      let here : rows_of new x ≡ rows_of old x = ap (rows_of new) at.symbol ∙ same p among ∙ sym (ap (rows_of old) at.symbol) in
      subst (λ rows. IsBit rows a b) (sym here) (settled.projected x a b (p, among, at)));
}

pub is_ready : (graphs : List Graph) (ids : List (List ℕ)) (due : Due) → AreDue graphs ids due → IsReady ids due
is_ready graphs ids due are = record { symbols = are.symbols; within = λ x k user. (let inside = are.users.within x k user in let count = are.count in omega arith) }

-- A rule was visited: the list of graphs has its new graph.
module _ (graphs : List Graph) (k : ℕ) (d g : Graph) (within : k < length graphs) (places : g.places ≡ (slice_index_or graphs k d).places) where
  this_graph : (j : ℕ) (q : Graph) → slice_get (slice_set graphs k g) j ≡ Some q → (j ≡ k) → g ≡ q
  this_graph j q found same = sym (get_or-set_same graphs k g q within) ∙ sym (ap (λ n. slice_index_or (slice_set graphs k g) n q) same) ∙ get_or_from_slice_get (slice_set graphs k g) j q q found

  other_graph : (j : ℕ) (q : Graph) → slice_get (slice_set graphs k g) j ≡ Some q → (j ≢ k) → slice_get graphs j ≡ Some q
  other_graph j q found other =
      let inside = slice_get_within (slice_set graphs k g) j q found in
      let size = length-set graphs k g in
      slice_get-get_or graphs j q (omega arith) ∙ ap Some (sym (get_or-set_other graphs k j g q other) ∙ get_or_from_slice_get (slice_set graphs k g) j q q found)

  users_stay : (users others : List (List ℕ)) → others ≡ users → AreUsers graphs users → AreUsers (slice_set graphs k g) others
  users_stay users others same are = record {
    all = λ j q p found among. subst (λ us. IsUser us p.symbol.0 j) (sym same) (elim (equal_or_not j k) [
      | inl here ↦ subst (λ n. IsUser users p.symbol.0 n) (sym here) (are.all k (slice_index_or graphs k d) p (slice_get-get_or graphs k d within)
          (subst (λ ps. Contains ps p) (ap (λ (z : Graph). z.places.items) (sym (this_graph j q found here)) ∙ ap (λ ps. ps.items) places) among))
      | inr there ↦ are.all j q p (other_graph j q found there) among
    ]);
    within = λ x j user. (let inside = are.within x j (subst (λ us. IsUser us x j) same user) in let size = length-set graphs k g in omega arith);
  }

  -- a row grew
  pub due_grown : (old new : List (List ℕ)) (before after : Due) → AreDue graphs old before → map length new ≡ map length old → Tells before after old new → IsDue before.flags.items k → AreDue (slice_set graphs k g) new after
  due_grown old new before after are same tells marked = record {
    count = tells.size ∙ are.count ∙ sym (length-set graphs k g);
    symbols = (let count = same_count old new same in let most = are.symbols in let users = ap (λ v. length v.items) tells.users in omega arith);
    users = users_stay before.users.items after.users.items (ap (λ v. v.items) tells.users) are.users;
    settled = λ j q found done. elim (equal_or_not j k) [
      | inl here ↦ absurd (not_both after.flags.items j (subst (λ n. IsDue after.flags.items n) (sym here) (tells.kept k marked)) done)
      | inr there ↦ other_settled j q (other_graph j q found there) done (due_or_done before.flags.items j)
    ];
  }
    where
      other_settled : (j : ℕ) (q : Graph) → slice_get graphs j ≡ Some q → IsDone after.flags.items j → IsDue before.flags.items j ⊎ IsDone before.flags.items j → IsSettled new q
      other_settled j q found done (inl due) = absurd (not_both after.flags.items j (tells.kept j due) done)
      other_settled j q found done (inr quiet) = settled_same old new q (λ p among. elim (tells.told p.symbol.0) [
        | inl rows ↦ rows
        | inr all ↦ absurd (not_both after.flags.items j (all j (are.users.all j q p found among)) done)
      ]) (are.settled j q found quiet)

  -- no row grew
  pub due_cleared : (ids : List (List ℕ)) (before after : Due) → AreDue graphs ids before → after.users ≡ before.users → after.flags.items ≡ slice_set before.flags.items k false → IsSettled ids g → AreDue (slice_set graphs k g) ids after
  due_cleared ids before after are users flags settled = record {
    count = ap length flags ∙ length-set before.flags.items k false ∙ are.count ∙ sym (length-set graphs k g);
    symbols = (let most = are.symbols in let same = ap (λ v. length v.items) users in omega arith);
    users = users_stay before.users.items after.users.items (ap (λ v. v.items) users) are.users;
    settled = λ j q found done. elim (equal_or_not j k) [
      | inl here ↦ subst (λ (z : Graph). IsSettled ids z) (this_graph j q found here) settled
      | inr there ↦ are.settled j q (other_graph j q found there) (sym (get_or-set_other before.flags.items k j false false there) ∙ sym (ap (λ fs. slice_index_or fs j false) flags) ∙ done)
    ];
  }

-- ---- turns

-- each rule has its turn
pub turn_of : (back : Bool) (count j : ℕ) → j < count → (in_turn back count j < count) × (in_turn back count (in_turn back count j) ≡ j)
turn_of true count j within = (omega arith, omega arith)
turn_of false count j within = (within, refl)

-- ---- one more place of a rule

module _ (initial old : List (List ℕ)) (places : List Place) (i : ℕ) (d : Place) (rule : ℕ) (row : List ℕ) (there : (slice_index_or places i d).symbol.0 < length old)
    (more : (k : ℕ) → IsUser old (slice_index_or places i d).symbol.0 k → Contains row k) where
  pub still_user : ((x k : ℕ) → IsUser initial x k → IsUser old x k) → (x k : ℕ) → IsUser initial x k → IsUser (slice_set old (slice_index_or places i d).symbol.0 row) x k
  still_user before x k h = user_kept old (slice_index_or places i d).symbol.0 row there more x k (before x k h)

  pub only_user : ((k : ℕ) → Contains row k → IsUser old (slice_index_or places i d).symbol.0 k ⊎ (k ≡ rule)) → ((x k : ℕ) → IsUser old x k → IsUser initial x k ⊎ (k ≡ rule))
      → (x k : ℕ) → IsUser (slice_set old (slice_index_or places i d).symbol.0 row) x k → IsUser initial x k ⊎ (k ≡ rule)
  only_user fewer before x k h = elim (user_set old (slice_index_or places i d).symbol.0 row there x k h) [
    | inl here ↦ elim (fewer k here.1) [ inl user ↦ before x k (subst (λ n. IsUser old n k) (sym here.0) user) | inr same ↦ inr same ]
    | inr user ↦ before x k user
  ]

  pub all_users : i < length places → Contains row rule → ((p : Place) → Contains (take i places) p → IsUser old p.symbol.0 rule)
      → (p : Place) → Contains (take (i + 1) places) p → IsUser (slice_set old (slice_index_or places i d).symbol.0 row) p.symbol.0 rule
  all_users within here before p among = elim (take_cases places i d p within among) [
    | inl earlier ↦ user_kept old (slice_index_or places i d).symbol.0 row there more p.symbol.0 rule (before p earlier)
    | inr same ↦ subst (λ (q : Place). IsUser (slice_set old (slice_index_or places i d).symbol.0 row) q.symbol.0 rule) same (user_here old (slice_index_or places i d).symbol.0 row there rule here)
  ]

-- a table's row, whatever stands for a missing one
pub same_row : (table : List (List ℕ)) (x : ℕ) (none : List ℕ) → x < length table → slice_index_or table x none ≡ slice_index_or table x []
same_row table x none within = get_or_from_slice_get table x (slice_index_or table x []) none (slice_get-get_or table x [] within)

-- the users with one more at the end
module _ (table : List (List ℕ)) (x : ℕ) (none : List ℕ) (rule : ℕ) (row : List ℕ) (within : x < length table) (is : row ≡ slice_index_or table x none ++ rule ∷ []) where
  row_is : row ≡ slice_index_or table x [] ++ rule ∷ []
  row_is = is ∙ ap (λ r. r ++ rule ∷ []) (same_row table x none within)

  pub longer_more : (k : ℕ) → IsUser table x k → Contains row k
  longer_more k h = subst (λ r. Contains r k) (sym row_is) (user_before (slice_index_or table x []) rule k h)

  pub longer_fewer : (k : ℕ) → Contains row k → IsUser table x k ⊎ (k ≡ rule)
  longer_fewer k h = last_user (slice_index_or table x []) rule k (subst (λ r. Contains r k) row_is h)

  pub longer_here : Contains row rule
  longer_here = subst (λ r. Contains r rule) (sym row_is) (user_added (slice_index_or table x []) rule)

-- ---- the users of all symbols

pub no_users : (users : List (List ℕ)) → ((x k : ℕ) → IsUser users x k → ⊥) → (x k : ℕ) → IsUser (users ++ [] ∷ []) x k → ⊥
no_users users none x k h = elim (cases_order x (length users)) [
  | inl same ↦ contains-nil k (subst (λ l. Contains l k) (ap (λ n. slice_index_or (users ++ [] ∷ []) n []) same ∙ get_or-append_seam users [] [] []) h)
  | inr other ↦ elim other [
    | inl within ↦ none x k (subst (λ l. Contains l k) (get_or_append_left users ([] ∷ []) [] x within) h)
    | inr past ↦ contains-nil k (subst (λ l. Contains l k) (get_or_past (users ++ [] ∷ []) x [] (let size = length-append users ([] ∷ []) in omega arith)) h)
  ]
]

-- what is written through a slice of all items
pub written_back : {X : Type 0} (new old : List X) (n : ℕ) → n ≡ length new → take n (new ++ drop (length new) old) ≡ new
written_back new old n same = ap (λ m. take m (new ++ drop (length new) old)) same ∙ take-append_seam new (drop (length new) old)

module _ (graphs : List Graph) (i : ℕ) (d : Graph) (old new : List (List ℕ)) (kept : (x k : ℕ) → IsUser old x k → IsUser new x k) where
  pub users_further : i < length graphs → ((p : Place) → Contains (slice_index_or graphs i d).places.items p → IsUser new p.symbol.0 i)
      → ((j : ℕ) (g : Graph) (p : Place) → j < i → slice_get graphs j ≡ Some g → Contains g.places.items p → IsUser old p.symbol.0 j)
      → (j : ℕ) (g : Graph) (p : Place) → j < i + 1 → slice_get graphs j ≡ Some g → Contains g.places.items p → IsUser new p.symbol.0 j
  users_further within added before j g p below found among = elim (equal_or_not j i) [
    | inl here ↦ subst (λ n. IsUser new p.symbol.0 n) (sym here) (added p (subst (λ (q : Graph). Contains q.places.items p) (sym (get_or_from_slice_get graphs j g d found) ∙ ap (λ n. slice_index_or graphs n d) here) among))
    | inr there ↦ kept p.symbol.0 j (before j g p (omega arith) found among)
  ]

  pub within_further : ((x k : ℕ) → IsUser new x k → IsUser old x k ⊎ (k ≡ i)) → ((x k : ℕ) → IsUser old x k → k < i) → (x k : ℕ) → IsUser new x k → k < i + 1
  within_further only before x k user = elim (only x k user) [ inl earlier ↦ (let below = before x k earlier in omega arith) | inr here ↦ omega arith ]
