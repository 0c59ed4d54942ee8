-- How the goals of a rule stand: what the queue keeps as more becomes at hand.
use Rattle.std.specs.Ordering.{is_eq}
use Rattle.std.specs.BTreeMap.{BTreeMap, get}
use Rattle.std.specs.Prelude.{Contains, slice_get, slice_index, slice_set, replicate, take, IsBitSet, ◌↔◌, MatchOption, OnOk}
use Rattle.std.proofs.Common.{◌≡◌, ℕ, false, ◌<◌, ◌≤◌, ◌+◌, ◌⊎◌, inl, inr, List, [], ◌∷◌, ◌++◌, length, get_or, Option, Some, None, Result, Ok, Err, refl, arith, ap, sym, subst, ◌∙◌}
use Rattle.std.proofs.lemmas.Bool.{cases_lt, cases_eq}
use Rattle.std.proofs.lemmas.Option.{none-some, slice_get_cases}
use Rattle.std.proofs.lemmas.List.{get_or-set_same, get_or-set_other, length-set, get_or-replicate, length-replicate, get_or_past, take_all}
use Rattle.std.proofs.lemmas.List.Elements.{Contains-append_left, Contains-push}
use Rattle.flat_grammar.specs.declared.flat.Occ.{Occ}
use Rattle.flat_grammar.specs.Cycles.{IsAtMost}
use Rattle.flat_grammar.proofs.Lists.{held, contains-nil, contains-slice_get, slice_get-contains}
use Rattle.flat_grammar.proofs.BitsLemmas.{empty-set, is-set}
use Rattle.visit_sequences.specs.declared.goals.Goal.{Goal}
use Rattle.visit_sequences.specs.declared.progress.Progress.{Progress}
use Rattle.visit_sequences.specs.declared.queue.Waiting.{Waiting}
use Rattle.visit_sequences.specs.declared.queue.Queue.{Queue}
use Rattle.visit_sequences.specs.Steps.{HasBit, IsLeastOpen, IsOpen, IsFree, Waits, Wakes, KeepsWaiting, AreFree, IsMissing, StandsIn, IsListed, AreListed, AreWithin, Sorts, Grows, IsLeft, AreSeen, HasSeen, HasLeft, AreEvaluated}
use Rattle.visit_sequences.specs.Order.{compare_occurrences}
use Rattle.visit_sequences.proofs.OrderLemmas.{one-or-apart}
use Rattle.visit_sequences.proofs.BitsLemmas.{taken-cases}
use Rattle.visit_sequences.proofs.ClosedWalks.{all-from_each}

-- the goal waits for this in the map
abbrev pub WaitsIn : BTreeMap Occ Waiting → Occ → ℕ → Type 0
WaitsIn m u i = (w : Waiting) × (get compare_occurrences m u ≡ Some w) × Contains w.goals.items i

-- those that are taken out, and the others
pub waits-other : (old new : BTreeMap Occ Waiting) (missing : Occ) → ((u : Occ) → is_eq (compare_occurrences missing u) ≡ false → get compare_occurrences new u ≡ get compare_occurrences old u)
    → (u : Occ) (i : ℕ) → WaitsIn old u i → (missing ≡ u → ⊥) → WaitsIn new u i
waits-other old new missing same u i (w, at, c) n = elim (one-or-apart missing u) [ inl e ↦ absurd (n e) | inr a ↦ (w, same u a.1 ∙ at, c) ]

pub waited : (m : BTreeMap Occ Waiting) (missing : Occ) (found : Waiting) (i : ℕ) → Some found ≡ get compare_occurrences m missing → WaitsIn m missing i → Contains found.goals.items i
waited m missing found i is (w, at, c) = subst (λ (x : Waiting). Contains x.goals.items i) (held (sym at ∙ sym is)) c

pub none-waits : (m : BTreeMap Occ Waiting) (missing : Occ) (i : ℕ) → None ≡ get compare_occurrences m missing → WaitsIn m missing i → ⊥
none-waits m missing i is (w, at, c) = none-some w (is ∙ at)

-- one more waits
pub waits-more : (old mid new : BTreeMap Occ Waiting) (missing : Occ) (goals : List ℕ) (goal : ℕ) (w : Waiting) → w.goals.items ≡ goals ++ goal ∷ [] → ((u : Occ) (i : ℕ) → WaitsIn old u i → (missing ≡ u → ⊥) → WaitsIn mid u i)
    → ((i : ℕ) → WaitsIn old missing i → Contains goals i) → get compare_occurrences new missing ≡ Some w → ((u : Occ) → is_eq (compare_occurrences missing u) ≡ false → get compare_occurrences new u ≡ get compare_occurrences mid u)
    → (u : Occ) (i : ℕ) → WaitsIn old u i → WaitsIn new u i
waits-more old mid new missing goals goal w items others here found same u i waits = elim (one-or-apart missing u) [
  | inl e ↦ subst (λ v. WaitsIn new v i) e (w, found, subst (λ l. Contains l i) (sym items) (Contains-append_left goals (goal ∷ []) i (here i (subst (λ v. WaitsIn old v i) (sym e) waits))))
  | inr a ↦ waits-other mid new missing same u i (others u i waits a.0) a.0
]

pub waits-here : (new : BTreeMap Occ Waiting) (missing : Occ) (goals : List ℕ) (goal : ℕ) (w : Waiting) → w.goals.items ≡ goals ++ goal ∷ [] → get compare_occurrences new missing ≡ Some w → WaitsIn new missing goal
waits-here new missing goals goal w items found = (w, found, subst (λ l. Contains l goal) (sym items) (Contains-push goals goal))

-- one more goal is free
pub free-more : (p : Progress) (goals : List Goal) (old new : Queue) (g : Goal) → Contains goals g → IsFree p g → ((o : Occ) → HasBit new.free.items o ↔ (HasBit old.free.items o ⊎ (o ≡ g.goal))) → AreFree p goals old → AreFree p goals new
free-more p goals old new g m free step are o bit = elim ((step o).0 bit) [ inl b ↦ are o b | inr e ↦ (g, m, sym e, free) ]

pub still-stands : (p : Progress) (old new : Queue) (i : ℕ) (g : Goal) → KeepsWaiting old new → StandsIn p old i g → StandsIn p new i g
still-stands p old new i g keeps (inl b) = inl (keeps.free g.goal b)
still-stands p old new i g keeps (inr (u, w, b)) = inr (u, keeps.waits u i w, b)

-- the goal stands somewhere, or it waits for what is given and was not woken yet
abbrev pub IsLate : Progress → Queue → List Occ → ℕ → ℕ → Goal → Type 0
IsLate p q given n i g = StandsIn p q i g ⊎ ((u : Occ) × Contains given u × (Contains (take n given) u → ⊥) × Waits q u i)

pub late-first : (p new : Progress) (goals : List Goal) (q : Queue) (given : List Occ) → Sorts p goals q → Grows p new (λ u. Contains given u) → (i : ℕ) (g : Goal) → slice_get goals i ≡ Some g → IsLate new q given 0 i g
late-first p new goals q given sorts grows i g at = go (sorts.stands i g at)
  where
    go : StandsIn p q i g → IsLate new q given 0 i g
    go (inl b) = inl (inl b)
    go (inr (u, w, (need, lacks))) = elim (is-set (slice_index new.at_hand.items u.occ) u.attr.0) [
      | inl b ↦ (elim (grows.given u b) [ inl c ↦ absurd (lacks c) | inr m ↦ inr (u, m, (λ t. contains-nil u t), w) ])
      | inr n ↦ inl (inr (u, w, (need, n)))
    ]

pub late-next : (p : Progress) (goals : List Goal) (old new : Queue) (given : List Occ) (n : ℕ) (d : Occ) → n < length given → Wakes p goals old new (get_or given n d)
    → (i : ℕ) (g : Goal) → slice_get goals i ≡ Some g → IsLate p old given n i g → IsLate p new given (n + 1) i g
late-next p goals old new given n d inside wakes i g at late = go late
  where
    go : IsLate p old given n i g → IsLate p new given (n + 1) i g
    go (inl (inl b)) = inl (inl (wakes.free g.goal b))
    go (inl (inr (u, w, missing))) = elim (one-or-apart (get_or given n d) u) [
      | inl e ↦ inl (wakes.here i g at (subst (λ v. Waits old v i) (sym e) w))
      | inr a ↦ inl (inr (u, wakes.others u i w a.0, missing))
    ]
    go (inr (u, m, not_yet, w)) = elim (one-or-apart (get_or given n d) u) [
      | inl e ↦ inl (wakes.here i g at (subst (λ v. Waits old v i) (sym e) w))
      | inr a ↦ inr (u, m, (λ t. elim (taken-cases given n d u inside t) [ inl before ↦ not_yet before | inr e ↦ a.0 e ]), wakes.others u i w a.0)
    ]

pub late-last : (p : Progress) (q : Queue) (given : List Occ) (n i : ℕ) (g : Goal) → length given ≤ n → IsLate p q given n i g → StandsIn p q i g
late-last p q given n i g over (inl s) = s
late-last p q given n i g over (inr (u, m, not_yet, w)) = absurd (not_yet (subst (λ l. Contains l u) (sym (take_all n given over)) m))

pub grown-free : (p new : Progress) (goals : List Goal) (q : Queue) (gives : Occ → Type 0) → Sorts p goals q → Grows p new gives → AreFree new goals q
grown-free p new goals q gives sorts grows o bit = let (g, m, e, f) = sorts.free o bit in (g, m, e, (λ u need. grows.stays u (f u need)))

pub grown-seen : (p new : Progress) (goals : List Goal) (q : Queue) (gives : Occ → Type 0) → Sorts p goals q → Grows p new gives → HasSeen new goals q
grown-seen p new goals q gives sorts grows i g at u m = grows.stays u (sorts.seen i g at u m)

pub grown-listed : (p new : Progress) (goals : List Goal) (q : Queue) (gives : Occ → Type 0) → Sorts p goals q → Grows p new gives → AreListed new q
grown-listed p new goals q gives sorts grows o (b, n) = sorts.listed o (b, (λ e. n (grows.evaluated o e)))

empty-index : (n k : ℕ) → slice_index (replicate n 0) k ≡ 0
empty-index n k = elim (cases_lt k n) [ inl l ↦ get_or-replicate n k 0 0 l | inr g ↦ get_or_past (replicate n 0) k 0 (let e = length-replicate {A = ℕ} n 0 in omega (arith, e, g)) ]

none-past : (xs : List Occ) (n : ℕ) → slice_get xs n ≡ None → length xs ≤ n
none-past xs n e = go (slice_get_cases xs n).1
  where
    go : ((x : Occ) × (n < length xs) × (slice_get xs n ≡ Some x) × (get_or xs n x ≡ x)) ⊎ ((length xs ≤ n) × (slice_get xs n ≡ None)) → length xs ≤ n
    go (inl (x, l, at, f)) = absurd (none-some x (sym e ∙ at))
    go (inr (past, f)) = past

-- where all of the own occurrence is at hand, the first dependency that isn't is missing
pub missing-or-free : (p : Progress) (g : Goal) (n : ℕ) → ((j : ℕ) → IsBitSet g.same j → IsBitSet (slice_index p.at_hand.items g.goal.occ) j) → AreSeen p g n → ((u : Occ) → slice_get g.direct.items n ≡ Some u → HasBit p.at_hand.items u → ⊥)
    → MatchOption (slice_get g.direct.items n) (IsFree p g) (λ u. IsMissing p g u)
missing-or-free p g n own seen stops = go (slice_get g.direct.items n) refl
  where
    go : (found : Option Occ) → slice_get g.direct.items n ≡ found → MatchOption found (IsFree p g) (λ u. IsMissing p g u)
    go (Some u) e = (inr (contains-slice_get g.direct.items n u e), stops u e)
    go None e = λ u need. elim need [
      | inl h ↦ subst (λ j. HasBit p.at_hand.items (record { occ = j; attr = u.attr })) (sym h.0) (own u.attr.0 h.1)
      | inr m ↦ seen u (subst (λ l. Contains l u) (sym (take_all n g.direct.items (none-past g.direct.items n e))) m)
    ]

-- nothing is free in empty sets
pub none-free : (p : Progress) (goals : List Goal) (q : Queue) (n : ℕ) → q.free.items ≡ replicate n 0 → AreFree p goals q
none-free p goals q n e o bit = absurd (empty-set o.attr.0 (subst (λ b. IsBitSet b o.attr.0) (empty-index n o.occ) (subst (λ (l : List ℕ). HasBit l o) e bit)))

-- a goal that is open is free, and the other way round
open-free : (p : Progress) (g : Goal) → IsOpen p g → IsFree p g
open-free p g (left, same, needs) u (inl (e, b)) = subst (λ k. HasBit p.at_hand.items (record { occ = k; attr = u.attr })) (sym e) (same u.attr b)
open-free p g (left, same, needs) u (inr m) = needs u m

free-open : (p : Progress) (g : Goal) → (HasBit p.evaluated.items g.goal → ⊥) → IsFree p g → IsOpen p g
free-open p g left free = (left, (λ a b. free (record { occ = g.goal.occ; attr = a }) (inl ((λ _. g.goal.occ), b))), (λ u m. free u (inr m)))

open-left : (p : Progress) (goals : List Goal) (q : Queue) → Sorts p goals q → (g : Goal) → Contains goals g → IsOpen p g → IsLeft p q g.goal
open-left p goals q sorts g m opens = let (i, at) = slice_get-contains goals g m in go i (sorts.stands i g at)
  where
    go : (i : ℕ) → StandsIn p q i g → IsLeft p q g.goal
    go i (inl b) = (b, opens.0)
    go i (inr (u, w, (need, lacks))) = absurd (lacks (open-free p g opens u need))

-- the least that is free and not evaluated is the least that is open
pub least-open : (p : Progress) (goals : List Goal) (q : Queue) → Sorts p goals q → (found : Option Occ)
    → MatchOption found ((o : Occ) → IsLeft p q o → ⊥) (λ o. IsLeft p q o × ((x : Occ) → IsLeft p q x → IsAtMost o x))
    → IsLeastOpen p goals found
least-open p goals q sorts None none = all-from_each (λ g. IsOpen p g → ⊥) goals (λ g m opens. none g.goal (open-left p goals q sorts g m opens))
least-open p goals q sorts (Some o) (left, least) =
    let (g, m, e, free) = sorts.free o left.0 in (
      (g, m, free-open p g (λ b. left.1 (subst (λ x. HasBit p.evaluated.items x) e b)) free, e),
      all-from_each (λ x. IsOpen p x → IsAtMost o x.goal) goals (λ x n opens. least x.goal (open-left p goals q sorts x n opens)),
    )

-- what follows from what holds where the result is Ok
pub on_ok-then : {A E : Type 0} (result : Result A E) (P Q : Type 0) → (P → Q) → OnOk result P → OnOk result Q
on_ok-then (Ok a) P Q f h = f h
on_ok-then (Err e) P Q f h = h

-- the goals up to one more place
pub stands-next : (p : Progress) (goals : List Goal) (old new : Queue) (n : ℕ) → KeepsWaiting old new → ((i : ℕ) (g : Goal) → i < n → slice_get goals i ≡ Some g → StandsIn p old i g)
    → ((g : Goal) → slice_get goals n ≡ Some g → StandsIn p new n g) → (i : ℕ) (g : Goal) → i < n + 1 → slice_get goals i ≡ Some g → StandsIn p new i g
stands-next p goals old new n keeps before here i g l at = elim (cases_lt i n) [
  | inl b ↦ still-stands p old new i g keeps (before i g b at)
  | inr b ↦ (let e : n ≡ i = omega (arith, l, b) in subst (λ k. StandsIn p new k g) e (here g (ap (λ k. slice_get goals k) e ∙ at)))
]

pub looked-next : (p : Progress) (goals : List Goal) (old new : Queue) (woken : List ℕ) (n d : ℕ) → n < length woken → KeepsWaiting old new
    → ((i : ℕ) (g : Goal) → slice_get goals i ≡ Some g → Contains (take n woken) i → StandsIn p old i g)
    → ((g : Goal) → slice_get goals (get_or woken n d) ≡ Some g → StandsIn p new (get_or woken n d) g) → (i : ℕ) (g : Goal) → slice_get goals i ≡ Some g → Contains (take (n + 1) woken) i → StandsIn p new i g
looked-next p goals old new woken n d inside keeps before here i g at m = elim (taken-cases woken n d i inside m) [
  | inl b ↦ still-stands p old new i g keeps (before i g at b)
  | inr e ↦ subst (λ k. StandsIn p new k g) e (here g (ap (λ k. slice_get goals k) e ∙ at))
]

pub on_ok-two : {A E : Type 0} (result : Result A E) (P Q R : Type 0) → (P → Q → R) → OnOk result P → OnOk result Q → OnOk result R
on_ok-two (Ok a) P Q R f p q = f p q
on_ok-two (Err e) P Q R f p q = p

pub keeps-more : (old new : Queue) (o : Occ) → new.waiting ≡ old.waiting → ((u : Occ) → HasBit new.free.items u ↔ (HasBit old.free.items u ⊎ (u ≡ o))) → KeepsWaiting old new
keeps-more old new o same step = record {
  free = λ u b. (step u).1 (inl b);
  waits = λ u i m. subst (λ v. WaitsIn v u i) (sym same) m;
}

pub keeps-same : (old mid new : Queue) → (mid.free ≡ old.free) × (mid.waiting ≡ old.waiting) → KeepsWaiting mid new → KeepsWaiting old new
keeps-same old mid new (free, waiting) keeps = record {
  free = λ u b. keeps.free u (subst (λ f. HasBit f.items u) (sym free) b);
  waits = λ u i m. keeps.waits u i (subst (λ v. WaitsIn v u i) (sym waiting) m);
}

-- nothing is counted in empty rows
pub none-seen : (p : Progress) (goals : List Goal) (q : Queue) (n : ℕ) → q.seen.items ≡ replicate n 0 → HasSeen p goals q
none-seen p goals q n e i g at u m = absurd (contains-nil u (subst (λ k. Contains (take k g.direct.items) u) (ap (λ (l : List ℕ). slice_index l i) e ∙ none) m))
  where
    none : slice_index (replicate n 0) i ≡ 0
    none = elim (cases_lt i n) [ inl l ↦ get_or-replicate n i 0 0 l | inr g ↦ get_or_past (replicate n 0) i 0 (let e = length-replicate {A = ℕ} n 0 in omega (arith, e, g)) ]

-- one goal was looked at
pub seen-next : (p : Progress) (goals : List Goal) (old new : Queue) (n : ℕ) (x : Goal) → slice_get goals n ≡ Some x → HasSeen p goals old → ((j : ℕ) → (n ≡ j → ⊥) → slice_index new.seen.items j ≡ slice_index old.seen.items j)
    → AreSeen p x (slice_index new.seen.items n) → HasSeen p goals new
seen-next p goals old new n x here before others seen i g at u m = elim (cases_eq n i) [
  | inl e ↦ (let same : x ≡ g = held (sym here ∙ (ap (λ k. slice_get goals k) e ∙ at)) in
      seen u (subst (λ (y : Goal). Contains (take (slice_index new.seen.items n) y.direct.items) u) (sym same) (subst (λ k. Contains (take (slice_index new.seen.items k) g.direct.items) u) (sym e) m)))
  | inr d ↦ before i g at u (subst (λ k. Contains (take k g.direct.items) u) (others i d) m)
]

pub noted-other : (old : List ℕ) (k j v : ℕ) → (k ≡ j → ⊥) → slice_index (slice_set old k v) j ≡ slice_index old j
noted-other old k j v n = get_or-set_other old k j v 0 (λ e. n (sym e))

pub noted-here : (p : Progress) (g : Goal) (old : List ℕ) (k v : ℕ) → AreSeen p g (slice_index old k) → AreSeen p g v → AreSeen p g (slice_index (slice_set old k v) k)
noted-here p g old k v before now = elim (cases_lt k (length old)) [
  | inl l ↦ subst (λ n. AreSeen p g n) (sym (get_or-set_same old k v 0 l)) now
  | inr h ↦ subst (λ n. AreSeen p g n) (get_or_past old k 0 h ∙ sym (get_or_past (slice_set old k v) k 0 (let l = length-set old k v in omega (arith, h, l)))) before
]

-- where a goal stands at the place it is not evaluated, and else all are
pub has-left : (p : Progress) (goals : List Goal) (n : ℕ) → ((g : Goal) → slice_get goals n ≡ Some g → HasBit p.evaluated.items g.goal → ⊥) → n < length goals → HasLeft goals p
has-left p goals n stops h = go (slice_get_cases goals n).1
  where
    go : ((g : Goal) × (n < length goals) × (slice_get goals n ≡ Some g) × (get_or goals n g ≡ g)) ⊎ ((length goals ≤ n) × (slice_get goals n ≡ None)) → HasLeft goals p
    go (inl (g, l, at, e)) = (g, contains-slice_get goals n g at, stops g at)
    go (inr (past, e)) = absurd (omega (arith, h, past))

pub left-has : (p : Progress) (goals : List Goal) (n : ℕ) → AreEvaluated p goals n → HasLeft goals p → n < length goals
left-has p goals n all (g, m, left) = elim (cases_lt n (length goals)) [ inl l ↦ l | inr past ↦ absurd (left (all g (subst (λ l. Contains l g) (sym (take_all n goals past)) m))) ]

-- the occurrences that are listed stay so where the queue lists the same, and no more is free
pub same-listed : (p : Progress) (old new : Queue) → new.free ≡ old.free → new.left ≡ old.left → AreListed p old → AreListed p new
same-listed p old new free left are o (b, n) = subst (λ s. IsListed s o.occ) (sym left) (are o ((subst (λ f. HasBit f.items o) free b), n))

-- nothing is left in empty sets
pub none-listed : (p : Progress) (q : Queue) (n : ℕ) → q.free.items ≡ replicate n 0 → AreListed p q
none-listed p q n e o (b, left) = absurd (empty-set o.attr.0 (subst (λ b. IsBitSet b o.attr.0) (empty-index n o.occ) (subst (λ (l : List ℕ). HasBit l o) e b)))

-- one more goal is free, and its occurrence is listed
pub listed-more : (p : Progress) (old new : Queue) (goal : Occ) → ((o : Occ) → HasBit new.free.items o ↔ (HasBit old.free.items o ⊎ (o ≡ goal))) → ((k : ℕ) → IsListed old.left k ⊎ (k ≡ goal.occ) → IsListed new.left k) → AreListed p old → AreListed p new
listed-more p old new goal free left are o (b, n) = elim ((free o).0 b) [ inl c ↦ left o.occ (inl (are o (c, n))) | inr e ↦ left o.occ (inr (ap (λ (x : Occ). x.occ) e)) ]

-- the queue is the same but for what it lists
pub sorts-same : (p : Progress) (goals : List Goal) (old new : Queue) → (new.free ≡ old.free) × (new.waiting ≡ old.waiting) × (new.seen ≡ old.seen) → AreListed p new → Sorts p goals old → Sorts p goals new
sorts-same p goals old new (free, waiting, seen) listed sorts = record {
  within = subst (λ v. AreWithin goals (length v.items)) (sym free) sorts.within;
  free = λ o b. sorts.free o (subst (λ f. HasBit f.items o) free b);
  seen = λ i g at u m. sorts.seen i g at u (subst (λ s. Contains (take (slice_index s.items i) g.direct.items) u) seen m);
  stands = λ i g at. stands i g (sorts.stands i g at);
  listed = listed;
}
  where
    stands : (i : ℕ) (g : Goal) → StandsIn p old i g → StandsIn p new i g
    stands i g (inl b) = inl (subst (λ f. HasBit f.items g.goal) (sym free) b)
    stands i g (inr (u, w, b)) = inr (u, subst (λ v. WaitsIn v u i) (sym waiting) w, b)
