-- Without cycles no walk comes back, so what always has a predecessor is nowhere.
use Rattle.std.specs.Prelude.{Contains, All, AllPairs}
use Rattle.std.proofs.Common.{◌≡◌, ℕ, zero, suc, ◌<◌, ◌≤◌, ◌⊎◌, inl, inr, List, [], ◌∷◌, ◌++◌, length, refl, arith, ap, sym, subst, ◌∙◌, append_assoc, length-append}
use Rattle.std.proofs.lemmas.Bool.{cases_order}
use Rattle.std.proofs.lemmas.List.Elements.{Contains-get_or, Contains-push_cases, Contains-append_left, Contains-append_right, Contains-append_cases}
use Rattle.std.proofs.lemmas.List.Kept.{AllPairs-cons}
use Rattle.flat_grammar.specs.declared.flat.Occ.{Occ}
use Rattle.flat_grammar.specs.declared.flat.FlatSymbol.{FlatSymbol}
use Rattle.flat_grammar.specs.declared.flat.FlatRule.{FlatRule}
use Rattle.flat_grammar.specs.declared.plan.CycleStep.{CycleStep}
use Rattle.flat_grammar.specs.declared.plan.Label.{Label}
use Rattle.flat_grammar.specs.Cycles.{EDP, IsAtMost, IsWalk, IsAcyclic}
use Rattle.flat_grammar.proofs.Lists.{contains-nil, contains-cons, contains-first, contains-later}

pub all-from_each : {X : Type 0} (P : X → Type 0) (xs : List X) → ((x : X) → Contains xs x → P x) → All P xs
all-from_each P xs h k d l = h _ (Contains-get_or xs k d l)

-- two attribute occurrences are one, or not
pub same_occ-or : (o p : Occ) → (o ≡ p) ⊎ (o ≡ p → ⊥)
same_occ-or o p = go (cases_order o.occ p.occ) (cases_order o.attr.0 p.attr.0)
  where
    go : (o.occ ≡ p.occ) ⊎ ((o.occ < p.occ) ⊎ (p.occ < o.occ)) → (o.attr.0 ≡ p.attr.0) ⊎ ((o.attr.0 < p.attr.0) ⊎ (p.attr.0 < o.attr.0)) → (o ≡ p) ⊎ (o ≡ p → ⊥)
    go (inl e) (inl f) = inl (λ i. record { occ = e i; attr = record { 0 = f i } })
    go (inr (inl l)) g = inr (λ e. let f = ap (λ (x : Occ). x.occ) e in omega (arith, l, f))
    go (inr (inr l)) g = inr (λ e. let f = ap (λ (x : Occ). x.occ) e in omega (arith, l, f))
    go (inl e) (inr (inl l)) = inr (λ e. let f = ap (λ (x : Occ). x.attr.0) e in omega (arith, l, f))
    go (inl e) (inr (inr l)) = inr (λ e. let f = ap (λ (x : Occ). x.attr.0) e in omega (arith, l, f))

pub at_most-or : (o p : Occ) → IsAtMost o p ⊎ IsAtMost p o
at_most-or o p = go (cases_order o.occ p.occ) (cases_order o.attr.0 p.attr.0)
  where
    go : (o.occ ≡ p.occ) ⊎ ((o.occ < p.occ) ⊎ (p.occ < o.occ)) → (o.attr.0 ≡ p.attr.0) ⊎ ((o.attr.0 < p.attr.0) ⊎ (p.attr.0 < o.attr.0)) → IsAtMost o p ⊎ IsAtMost p o
    go (inl e) (inl f) = inl (inr (e, (omega (arith, f))))
    go (inl e) (inr (inl l)) = inl (inr (e, (omega (arith, l))))
    go (inl e) (inr (inr l)) = inr (inr (sym e, (omega (arith, l))))
    go (inr (inl l)) g = inl (inl l)
    go (inr (inr l)) g = inr (inl l)

at_most-itself : (o : Occ) → IsAtMost o o
at_most-itself o = inr (refl, (omega arith))

pub at_most-further : (o p q : Occ) → IsAtMost o p → IsAtMost p q → IsAtMost o q
at_most-further o p q (inl a) (inl b) = inl (omega (arith, a, b))
at_most-further o p q (inl a) (inr b) = let e = b.0 in inl (omega (arith, a, e))
at_most-further o p q (inr a) (inl b) = let e = a.0 in inl (omega (arith, b, e))
at_most-further o p q (inr a) (inr b) = let l = a.1 in let m = b.1 in inr (a.0 ∙ b.0, (omega (arith, l, m)))

-- the vertex at which steps to w begin
abbrev pub start : List CycleStep → Occ → Occ
start [] w = w
start (s ∷ more) w = s.from

-- no two steps begin at one vertex
abbrev pub Distinct : List CycleStep → Type 0
Distinct [] = Unit {0}
Distinct (s ∷ more) = ((q : CycleStep) → Contains more q → s.from ≡ q.from → ⊥) × Distinct more

start-append : (xs : List CycleStep) (y : CycleStep) (ys : List CycleStep) (w : Occ) → start (xs ++ (y ∷ ys)) w ≡ start xs y.from
start-append [] y ys w = refl
start-append (x ∷ xs) y ys w = refl

distinct-end : (xs : List CycleStep) (x : CycleStep) → Distinct xs → ((q : CycleStep) → Contains xs q → x.from ≡ q.from → ⊥) → Distinct (xs ++ x ∷ [])
distinct-end [] x d n = ((λ q m e. contains-nil q m), tt)
distinct-end (y ∷ ys) x d n =
    ((λ q m e. elim (Contains-push_cases ys x q m) [ inl k ↦ d.0 q k e | inr s ↦ n y (contains-first y ys) (ap (λ (z : CycleStep). z.from) s ∙ sym e) ]), distinct-end ys x d.1 (λ q m e. n q (contains-later y q ys m) e))

distinct-front : (xs : List CycleStep) (y : CycleStep) (ys : List CycleStep) → Distinct (xs ++ (y ∷ ys)) → Distinct xs × ((q : CycleStep) → Contains xs q → q.from ≡ y.from → ⊥)
distinct-front [] y ys d = (tt, (λ q m e. contains-nil q m))
distinct-front (x ∷ xs) y ys d = let rest = distinct-front xs y ys d.1 in (((λ q m e. d.0 q (Contains-append_left xs (y ∷ ys) q m) e), rest.0), apart rest.1)
  where
    apart : ((q : CycleStep) → Contains xs q → q.from ≡ y.from → ⊥) → (q : CycleStep) → Contains (x ∷ xs) q → q.from ≡ y.from → ⊥
    apart later q m e = elim (contains-cons x q xs m) [ inl s ↦ d.0 y (Contains-append_right xs (y ∷ ys) y (contains-first y ys)) (ap (λ (z : CycleStep). z.from) s ∙ e) | inr k ↦ later q k e ]

-- a step at which the vertex stands, with what is before and behind it, or there is none
find : (p : Occ) (xs : List CycleStep)
    → ((front : List CycleStep) × (q : CycleStep) × (back : List CycleStep) × (xs ≡ front ++ (q ∷ back)) × (q.from ≡ p)) ⊎ ((q : CycleStep) → Contains xs q → p ≡ q.from → ⊥)
find p [] = inr (λ q m e. contains-nil q m)
find p (x ∷ xs) = go (same_occ-or p x.from) (find p xs)
  where
    go : (p ≡ x.from) ⊎ (p ≡ x.from → ⊥) → ((front : List CycleStep) × (q : CycleStep) × (back : List CycleStep) × (xs ≡ front ++ (q ∷ back)) × (q.from ≡ p)) ⊎ ((q : CycleStep) → Contains xs q → p ≡ q.from → ⊥)
        → ((front : List CycleStep) × (q : CycleStep) × (back : List CycleStep) × ((x ∷ xs) ≡ front ++ (q ∷ back)) × (q.from ≡ p)) ⊎ ((q : CycleStep) → Contains (x ∷ xs) q → p ≡ q.from → ⊥)
    go (inl e) other = inl ([], x, xs, refl, sym e)
    go (inr n) (inl (front, q, back, e, f)) = inl (x ∷ front, q, back, ap (λ l. x ∷ l) e, f)
    go (inr n) (inr none) = inr (λ q m e. elim (contains-cons x q xs m) [ inl s ↦ n (e ∙ sym (ap (λ (z : CycleStep). z.from) s)) | inr k ↦ none q k e ])

-- the list with one of its elements between two parts
split : {X : Type 0} (xs : List X) (x : X) → Contains xs x → (front : List X) × (back : List X) × (xs ≡ front ++ (x ∷ back))
split [] x m = absurd (contains-nil x m)
split (y ∷ ys) x m = go (contains-cons y x ys m) (split ys x)
  where
    go : (y ≡ x) ⊎ Contains ys x → (Contains ys x → (front : List _) × (back : List _) × (ys ≡ front ++ (x ∷ back))) → (front : List _) × (back : List _) × ((y ∷ ys) ≡ front ++ (x ∷ back))
    go (inl e) later = ([], ys, ap (λ z. z ∷ ys) e)
    go (inr k) later = let s = later k in (y ∷ s.0, s.1, ap (λ l. y ∷ l) s.2)

-- the list without one element keeps the others
kept : (xs ys : List Occ) (o p : Occ) → (p ≡ o → ⊥) → Contains (xs ++ (p ∷ ys)) o → Contains (xs ++ ys) o
kept xs ys o p n c = elim (Contains-append_cases xs (p ∷ ys) o c) [
  | inl i ↦ Contains-append_left xs ys o i
  | inr j ↦ elim (contains-cons p o ys j) [ inl e ↦ absurd (n e) | inr i ↦ Contains-append_right xs ys o i ]
]

-- a step whose vertex is the least
least : (x : CycleStep) (xs : List CycleStep) → (m : CycleStep) × Contains (x ∷ xs) m × ((q : CycleStep) → Contains (x ∷ xs) q → IsAtMost m.from q.from)
least x [] = (x, contains-first x [], (λ q m. elim (contains-cons x q [] m) [ inl e ↦ subst (λ (z : CycleStep). IsAtMost x.from z.from) e (at_most-itself x.from) | inr k ↦ absurd (contains-nil q k) ]))
least x (y ∷ ys) = go (least y ys)
  where
    go : (m : CycleStep) × Contains (y ∷ ys) m × ((q : CycleStep) → Contains (y ∷ ys) q → IsAtMost m.from q.from) → (m : CycleStep) × Contains (x ∷ y ∷ ys) m × ((q : CycleStep) → Contains (x ∷ y ∷ ys) q → IsAtMost m.from q.from)
    go (m, among, below) = pick (at_most-or x.from m.from)
      where
        pick : IsAtMost x.from m.from ⊎ IsAtMost m.from x.from → (m : CycleStep) × Contains (x ∷ y ∷ ys) m × ((q : CycleStep) → Contains (x ∷ y ∷ ys) q → IsAtMost m.from q.from)
        pick (inl l) = (x, contains-first x (y ∷ ys), (λ q c. elim (contains-cons x q (y ∷ ys) c) [ inl e ↦ subst (λ (z : CycleStep). IsAtMost x.from z.from) e (at_most-itself x.from) | inr k ↦ at_most-further x.from m.from q.from l (below q k) ]))
        pick (inr g) = (m, contains-later x m (y ∷ ys) among, (λ q c. elim (contains-cons x q (y ∷ ys) c) [ inl e ↦ subst (λ (z : CycleStep). IsAtMost m.from z.from) e g | inr k ↦ below q k ]))

module _ (symbols : List FlatSymbol) (rules : List FlatRule) (r : FlatRule) where
  -- each step leads to the next one, and the last to w
  abbrev pub Leads : List CycleStep → Occ → Type 0
  Leads [] w = Unit {0}
  Leads (s ∷ more) w = EDP symbols rules r s.from (start more w) s.label × Leads more w

  leads-front : (xs : List CycleStep) (y : CycleStep) (ys : List CycleStep) (w : Occ) → Leads (xs ++ (y ∷ ys)) w → Leads xs y.from
  leads-front [] y ys w h = tt
  leads-front (x ∷ xs) y ys w h = (subst (λ v. EDP symbols rules r x.from v x.label) (start-append xs y ys w) h.0, leads-front xs y ys w h.1)

  leads-end : (xs : List CycleStep) (x : CycleStep) (w : Occ) → Leads xs x.from → EDP symbols rules r x.from w x.label → Leads (xs ++ x ∷ []) w
  leads-end [] x w h e = (e, tt)
  leads-end (y ∷ ys) x w h e = (subst (λ v. EDP symbols rules r y.from v y.label) (sym (start-append ys x [] w)) h.0, leads-end ys x w h.1 e)

  leads-walk : (s : CycleStep) (more : List CycleStep) (w : Occ) → Leads (s ∷ more) w → IsWalk symbols rules r (s ∷ more) w
  leads-walk s [] w h = h.0
  leads-walk s (q ∷ more) w h = (h.0, leads-walk q more w h.1)

  -- the steps lead back to their start
  abbrev Closed : List CycleStep → Type 0
  Closed xs = (w : Occ) → Leads xs (start xs w)

  turned : (x : CycleStep) (xs : List CycleStep) → Closed (x ∷ xs) → Closed (xs ++ x ∷ [])
  turned x [] h w = h w
  turned x (y ∷ ys) h w = leads-end (y ∷ ys) x y.from (h w).1 (h w).0

  distinct-turned : (x : CycleStep) (xs : List CycleStep) → Distinct (x ∷ xs) → Distinct (xs ++ x ∷ [])
  distinct-turned x xs d = distinct-end xs x d.1 d.0

  distinct-pairs : (xs : List CycleStep) → Distinct xs → AllPairs (λ p q. p.from ≡ q.from → ⊥) xs
  distinct-pairs [] d = λ i j e l m. absurd (omega (arith, m))
  distinct-pairs (x ∷ xs) d = AllPairs-cons (λ p q. p.from ≡ q.from → ⊥) x xs (all-from_each (λ q. x.from ≡ q.from → ⊥) xs d.0) (distinct-pairs xs d.1)

  module _ (acyclic : IsAcyclic symbols rules r) where
    from-least : (front : List CycleStep) (m : CycleStep) (back : List CycleStep) → Closed (front ++ (m ∷ back)) → Distinct (front ++ (m ∷ back))
        → ((q : CycleStep) → Contains (front ++ (m ∷ back)) q → IsAtMost m.from q.from) → ⊥
    from-least [] m back c d l = acyclic (m ∷ back) (leads-walk m back m.from (c m.from), distinct-pairs (m ∷ back) d, all-from_each (λ (q : CycleStep). IsAtMost m.from q.from) back (λ q k. l q (contains-later m q back k)))
    from-least (x ∷ front) m back c d l =
        from-least front m (back ++ x ∷ [])
        (subst Closed same (turned x (front ++ (m ∷ back)) c))
        (subst Distinct same (distinct-turned x (front ++ (m ∷ back)) d))
        (λ q k. l q (among q (subst (λ ys. Contains ys q) (sym same) k)))
      where
        same : (front ++ (m ∷ back)) ++ x ∷ [] ≡ front ++ (m ∷ (back ++ x ∷ []))
        same = append_assoc front (m ∷ back) (x ∷ [])

        among : (q : CycleStep) → Contains ((front ++ (m ∷ back)) ++ x ∷ []) q → Contains (x ∷ (front ++ (m ∷ back))) q
        among q k = elim (Contains-push_cases (front ++ (m ∷ back)) x q k) [ inl j ↦ contains-later x q (front ++ (m ∷ back)) j | inr e ↦ subst (λ z. Contains (x ∷ (front ++ (m ∷ back))) z) e (contains-first x (front ++ (m ∷ back))) ]

    -- no steps lead back to their start
    pub no-closed_walk : (s : CycleStep) (more : List CycleStep) → Leads (s ∷ more) s.from → Distinct (s ∷ more) → ⊥
    no-closed_walk s more h d =
        let m = least s more in let p = split (s ∷ more) m.0 m.1 in
        from-least p.0 m.0 p.1 (subst Closed p.2 (λ w. h)) (subst Distinct p.2 d) (subst (λ xs. (q : CycleStep) → Contains xs q → IsAtMost m.0.from q.from) p.2 m.2)

    -- Where each vertex of a finite set from which the steps lead to the target has a predecessor in the set, the target isn't in the set.
    module _ (Blocked : Occ → Type 0) (target : Occ)
        (step : (steps : List CycleStep) → Leads steps target → Distinct steps → ((q : CycleStep) → Contains steps q → q.from ≡ target → ⊥) → Blocked (start steps target) → ((p : Occ) (label : Label) → EDP symbols rules r p (start steps target) label → Blocked p → ⊥) → ⊥) where
      -- the vertex before the start is the target, or stands on the way, or is a fresh one
      before-start : (steps : List CycleStep) → Leads steps target → Distinct steps → ((q : CycleStep) → Contains steps q → q.from ≡ target → ⊥)
          → (p : Occ) (label : Label) → EDP symbols rules r p (start steps target) label → ((p ≡ target → ⊥) → ((q : CycleStep) → Contains steps q → p ≡ q.from → ⊥) → ⊥) → ⊥
      before-start steps leads distinct apart p label e fresh = go (same_occ-or p target) (find p steps)
        where
          go : (p ≡ target) ⊎ (p ≡ target → ⊥)
              → ((front : List CycleStep) × (q : CycleStep) × (back : List CycleStep) × (steps ≡ front ++ (q ∷ back)) × (q.from ≡ p)) ⊎ ((q : CycleStep) → Contains steps q → p ≡ q.from → ⊥) → ⊥
          go (inl same) other =
              no-closed_walk (record { from = p; label = label }) steps (subst (λ w. Leads (record { from = p; label = label } ∷ steps) w) (sym same) (e, leads)) ((λ q i f. apart q i (sym f ∙ same)), distinct)
          go (inr m) (inl (front, q, back, f, g)) =
              let d = distinct-front front q back (subst Distinct f distinct) in
              let l : Leads front q.from = leads-front front q back target (subst (λ z. Leads z target) f leads) in
              let at : EDP symbols rules r p (start front q.from) label = subst (λ z. EDP symbols rules r p z label) (ap (λ z. start z target) f ∙ start-append front q back target) e in
              no-closed_walk (record { from = p; label = label }) front (subst (λ w. Leads (record { from = p; label = label } ∷ front) w) g (at, l)) ((λ o i h. d.1 o i (sym h ∙ sym g)), d.0)
          go (inr m) (inr k) = fresh m k

      climb : (n : ℕ) (rest : List Occ) (steps : List CycleStep) → length rest ≤ n → Leads steps target → Distinct steps → ((q : CycleStep) → Contains steps q → q.from ≡ target → ⊥)
          → ((p : Occ) → Blocked p → (p ≡ target → ⊥) → ((q : CycleStep) → Contains steps q → p ≡ q.from → ⊥) → Contains rest p) → Blocked (start steps target) → ⊥
      climb zero rest steps short leads distinct apart covered blocked =
          step steps leads distinct apart blocked (λ p label e b. before-start steps leads distinct apart p label e (λ m k. let t = (covered p b m k).1 in omega (arith, short, t)))
      climb (suc n) rest steps short leads distinct apart covered blocked =
          step steps leads distinct apart blocked (λ p label e b. before-start steps leads distinct apart p label e (λ m k.
          let s = split rest p (covered p b m k) in
          let shorter : length (s.0 ++ s.1) ≤ n = let f = ap length s.2 in let g = length-append s.0 (p ∷ s.1) in let h = length-append s.0 s.1 in omega (arith, short, f, g, h) in
          let x : CycleStep = record { from = p; label = label } in
          climb n (s.0 ++ s.1) (x ∷ steps) shorter (e, leads) (k, distinct)
          (λ q j f. elim (contains-cons x q steps j) [ inl g ↦ m (ap (λ (z : CycleStep). z.from) g ∙ f) | inr i ↦ apart q i f ])
          (λ o d y z. kept s.0 s.1 o p (λ f. z x (contains-first x steps) (sym f)) (subst (λ l. Contains l o) s.2 (covered o d y (λ q i. z q (contains-later x q steps i)))))
          b))

      pub nowhere : (universe : List Occ) → ((p : Occ) → Blocked p → Contains universe p) → Blocked target → ⊥
      nowhere universe within blocked = climb (length universe) universe [] (omega arith) tt tt (λ q i e. contains-nil q i) (λ p b m k. within p b) blocked
