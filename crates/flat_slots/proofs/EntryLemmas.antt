-- The attributes of one symbol in the list of all.
use Rattle.std.specs.Prelude.{Contains, AllPairs, filter_map, nat_eq, if◌then◌else◌}
use Rattle.std.proofs.Math.ListN.{set}
use Rattle.std.specs.List.{cons_option}
use Rattle.std.proofs.Common.{◌≡◌, ◌∙◌, ℕ, zero, suc, ◌<◌, Bool, true, false, List, [], ◌∷◌, ◌++◌, Option, Some, None, refl, sym, ap, subst, arith, eqb-true, eq-eqb, true≢false, ◌≢◌, ◌+◌, max, take, ◌≤◌, length, get_or, get_or-set_same, get_or-set_other}
use Rattle.std.proofs.lemmas.Option.{none-some, same_Some, unwrap_or-slice_get}
use Rattle.std.proofs.lemmas.List.Elements.{filter_map-append}
use Rattle.std.proofs.lemmas.List.Sums.{fold-append}
use Rattle.std.proofs.lemmas.List.{take_more, get_or_default, length-set}
use Rattle.lido_syntax.specs.Production.{left_of}
use Rattle.indexmap.specs.IndexSet.{insert_key, insert_all}
use Rattle.need_graphs.proofs.ListLemmas.{contains-filtered, filtered-contains}
use Rattle.need_graphs.proofs.OrderLemmas.{Pairs}
use Rattle.rule_tables.specs.Slots.{Slot}
use Rattle.flat_slots.specs.declared.slot.Slot.{Slot as Named}
use Rattle.flat_slots.specs.declared.entries.Entry.{Entry}
use Rattle.flat_slots.specs.Named.{slot_of, same}
use Rattle.lido_syntax.specs.declared.spec.RuleItem.{RuleItem}
use Rattle.flat_slots.specs.Entries.{entry, most_of, more_of, plain_count}
use Rattle.flat_slots.specs.Slots.{slot_at, own_slots, row_at, row_of}

-- an attribute of that symbol
own-entry : (x : ℕ) (e : Entry) (u : Named) → slot_at x e ≡ Some u → e ≡ entry x u
own-entry x e u h = by (nat_eq e.sym x) refl h
  where
    by : (b : Bool) → nat_eq e.sym x ≡ b → (if b then Some e.slot else None) ≡ Some u → e ≡ entry x u
    by true t h = let same : e.sym ≡ x = eqb-true e.sym x t in let slot : e.slot ≡ u = same_Some _ _ h in λ i. entry (same i) (slot i)
    by false t h = absurd (none-some u h)

pub own-contains : (x : ℕ) (es : List Entry) (u : Named) → Contains (own_slots x es) u → Contains es (entry x u)
own-contains x es u m = let (e, among, h) = contains-filtered (slot_at x) es u m in subst (λ e. Contains es e) (own-entry x e u h) among

pub contains-own : (x : ℕ) (es : List Entry) (u : Named) → Contains es (entry x u) → Contains (own_slots x es) u
contains-own x es u m = filtered-contains (slot_at x) es (entry x u) u m (ap (λ (b : Bool). if b then Some u else None) (eq-eqb x x refl))

-- pairs of what is made of items
pub filter-pairs : {X Y : Type 0} (P : X → X → Type 0) (R : Y → Y → Type 0) (h : X → Option Y) → ((a b : X) (u v : Y) → P a b → h a ≡ Some u → h b ≡ Some v → R u v)
    → (xs : List X) → Pairs P xs → Pairs R (filter_map h xs)
filter-pairs P R h keep [] p = tt
filter-pairs {X} {Y} P R h keep (x ∷ xs) p = by (h x) refl (filter-pairs P R h keep xs p.1)
  where
    by : (o : Option Y) → h x ≡ o → Pairs R (filter_map h xs) → Pairs R (cons_option o (filter_map h xs))
    by None e rest = rest
    by (Some u) e rest = ((λ v m. let (z, among, f) = contains-filtered h xs v m in keep x z u v (p.0 z among) e f), rest)

pub pairs-of : {X : Type 0} (P : X → X → Type 0) (xs : List X) → AllPairs P xs → Pairs P xs
pairs-of P [] h = tt
pairs-of {X} P (x ∷ xs) h = (
  (λ y m. let (k, below, e) = m in subst (P x) e (h 0 (suc k) y (omega arith) (omega (arith, below)))),
  pairs-of P xs (λ i j d less below. h (suc i) (suc j) d (omega (arith, less)) (omega (arith, below))),
)

-- of two attributes of one symbol the first is before the second
module _ (IsBefore : Slot → Slot → Type 0) where
  abbrev pub IsEntryBefore : Entry → Entry → Type 0
  IsEntryBefore e f = e.sym ≡ f.sym → IsBefore (slot_of e.slot) (slot_of f.slot)

  pub own-pairs : (x : ℕ) (es : List Entry) → Pairs IsEntryBefore es → Pairs (λ u v. IsBefore (slot_of u) (slot_of v)) (own_slots x es)
  own-pairs x es = filter-pairs IsEntryBefore (λ u v. IsBefore (slot_of u) (slot_of v)) (slot_at x) (λ a b u v before e f.
      let p = own-entry x a u e in
      let q = own-entry x b v f in
      subst (λ (w : Named). IsBefore (slot_of w) (slot_of v)) (ap (λ (z : Entry). z.slot) p)
      (subst (λ (w : Named). IsBefore (slot_of a.slot) (slot_of w)) (ap (λ (z : Entry). z.slot) q)
      (before (ap (λ (z : Entry). z.sym) p ∙ sym (ap (λ (z : Entry). z.sym) q))))) es

-- ---- rows that are filled

-- one attribute more
pub row-more : (x : ℕ) (es : List Entry) (e : Entry) → row_of x (es ++ e ∷ []) ≡ (if nat_eq e.sym x then insert_key same (row_of x es) e.slot else row_of x es)
row-more x es e = ap (insert_all same []) (filter_map-append (slot_at x) es (e ∷ [])) ∙ fold-append (insert_key same) [] (own_slots x es) (filter_map (slot_at x) (e ∷ [])) ∙ by (nat_eq e.sym x)
  where
    by : (b : Bool) → insert_all same (row_of x es) (cons_option (if b then Some e.slot else None) []) ≡ (if b then insert_key same (row_of x es) e.slot else row_of x es)
    by true = refl
    by false = refl

row-read : (rows : List (List Named)) (x : ℕ) → row_at rows x ≡ get_or rows x []
row-read rows x = unwrap_or-slice_get rows x []

pub row-filled : (rows : List (List Named)) (es : List Entry) (e : Entry) (new : List Named) → e.sym < length rows → row_at rows e.sym ≡ row_of e.sym es → new ≡ insert_key same (get_or rows e.sym []) e.slot
    → (x : ℕ) → row_at rows x ≡ row_of x es → row_at (set rows e.sym new) x ≡ row_of x (es ++ e ∷ [])
row-filled rows es e new below own added x before = row-read (set rows e.sym new) x ∙ by (nat_eq e.sym x) refl ∙ sym (row-more x es e)
  where
    by : (b : Bool) → nat_eq e.sym x ≡ b → get_or (set rows e.sym new) x [] ≡ (if b then insert_key same (row_of x es) e.slot else row_of x es)
    by true h =
        let same_place : e.sym ≡ x = eqb-true e.sym x h in
        subst (λ (n : ℕ). get_or (set rows e.sym new) n [] ≡ insert_key same (row_of n es) e.slot) same_place
        (get_or-set_same rows e.sym new [] below ∙ added ∙ ap (λ (r : List Named). insert_key same r e.slot) (sym (row-read rows e.sym) ∙ own))
    by false h =
        let other : x ≢ e.sym = λ same_place. true≢false (sym (eq-eqb e.sym x (sym same_place)) ∙ h) in
        get_or-set_other rows e.sym x new [] other ∙ sym (row-read rows x) ∙ before

-- an attribute of no row
pub row-skipped : (rows : List (List Named)) (es : List Entry) (e : Entry) → length rows ≤ e.sym → (x : ℕ) → x < length rows → row_at rows x ≡ row_of x es → row_at rows x ≡ row_of x (es ++ e ∷ [])
row-skipped rows es e past x below before =
    let other : nat_eq e.sym x ≡ false = apart-eqb (nat_eq e.sym x) refl in
    before ∙ ap (λ (b : Bool). if b then insert_key same (row_of x es) e.slot else row_of x es) (sym other) ∙ sym (row-more x es e)
  where
    apart-eqb : (b : Bool) → nat_eq e.sym x ≡ b → b ≡ false
    apart-eqb false h = refl
    apart-eqb true h = let same_place = eqb-true e.sym x h in absurd (omega (arith, past, below, same_place))

-- ---- counts

-- one rule more
pub most-more : (s : ℕ) (rules : List RuleItem) (r : RuleItem) → most_of s (rules ++ r ∷ []) ≡ more_of s (most_of s rules) r
most-more s rules r = fold-append (more_of s) 0 rules (r ∷ [])

pub counted-more : (s : ℕ) (rules : List RuleItem) (i : ℕ) (r : RuleItem) → i < length rules → r ≡ get_or rules i r → (old new : ℕ → ℕ) (most : ℕ) → ((q : ℕ) → old q ≡ most_of q (take i rules))
    → most ≡ max (old (left_of r)) (plain_count r.body) → ((q : ℕ) → new q ≡ (if nat_eq (left_of r) q then most else old q)) → new s ≡ most_of s (take (i + 1) rules)
counted-more s rules i r below is old new most before made after =
    let next : take (i + 1) rules ≡ take i rules ++ r ∷ [] = take_more rules i r below ∙ ap (λ (z : RuleItem). take i rules ++ z ∷ []) (sym is) in
    after s ∙ by (nat_eq (left_of r) s) refl ∙ sym (ap (most_of s) next ∙ most-more s (take i rules) r)
  where
    by : (b : Bool) → nat_eq (left_of r) s ≡ b → (if b then most else old s) ≡ (if b then max (most_of s (take i rules)) (plain_count r.body) else most_of s (take i rules))
    by false e = before s
    by true e = made ∙ ap (λ (n : ℕ). max n (plain_count r.body)) (before (left_of r) ∙ ap (λ (q : ℕ). most_of q (take i rules)) (eqb-true (left_of r) s e))

-- ---- rows without attributes

pub row-empty : (rows : List (List Named)) → ((x : ℕ) → row_at rows x ≡ []) → (x : ℕ) → row_at (rows ++ [] ∷ []) x ≡ []
row-empty [] h zero = refl
row-empty [] h (suc x) = refl
row-empty (r ∷ rows) h zero = h 0
row-empty (r ∷ rows) h (suc x) = row-empty rows (λ y. h (suc y)) x

pub filled-next : (es : List Entry) (i : ℕ) (d : Entry) (rows new : List (List Named)) (old row : List Named) → i < length es → (get_or es i d).sym < length rows → new ≡ set rows (get_or es i d).sym row
    → old ≡ get_or rows (get_or es i d).sym old → row ≡ insert_key same old (get_or es i d).slot → (n : ℕ) → length rows ≡ n → ((x : ℕ) → x < n → row_at rows x ≡ row_of x (take i es))
    → (length new ≡ n) × ((x : ℕ) → x < n → row_at new x ≡ row_of x (take (i + 1) es))
filled-next es i d rows new old row within below written read added n count before =
    let e = get_or es i d in
    let long : e.sym < n = omega (arith, below, count) in
    let made : row ≡ insert_key same (get_or rows e.sym []) e.slot = added ∙ ap (λ (l : List Named). insert_key same l e.slot) (read ∙ get_or_default rows e.sym old [] below) in (
      ap length written ∙ length-set rows e.sym row ∙ count,
      (λ x inside. ap (λ (l : List (List Named)). row_at l x) written ∙ row-filled rows (take i es) e row below (before e.sym long) made x (before x inside) ∙ ap (row_of x) (sym (take_more es i d within))),
    )

pub skipped-next : (es : List Entry) (i : ℕ) (d : Entry) (rows new : List (List Named)) → i < length es → length rows ≤ (get_or es i d).sym → new ≡ rows → (n : ℕ) → length rows ≡ n
    → ((x : ℕ) → x < n → row_at rows x ≡ row_of x (take i es)) → (length new ≡ n) × ((x : ℕ) → x < n → row_at new x ≡ row_of x (take (i + 1) es))
skipped-next es i d rows new within past same_rows n count before = (
  ap length same_rows ∙ count,
  (λ x inside. ap (λ (l : List (List Named)). row_at l x) same_rows ∙ row-skipped rows (take i es) (get_or es i d) past x (omega (arith, inside, count)) (before x inside) ∙ ap (row_of x) (sym (take_more es i d within))),
)
