-- The messages, attribute by attribute, and their order by written nodes.
use Rattle.std.specs.Prelude.{slice_get, nat_lt, if◌then◌else◌, Contains, AllPairs, filter}
use Rattle.std.specs.Fn.{Called, ComputesKey}
use Rattle.std.specs.Ordering.{is_lt, nat_cmp}
use Rattle.std.proofs.lemmas.Fn.{always_returns_same}
use denote.Param.Members.{Mut}
use denote.Ref.{Bor}
use Rattle.std.specs.List.Sorted.{IsNonDecreasingBy, IsPermutation, IsStableByKey, ties}
use Rattle.std.proofs.Common.{◌≡◌, ◌≤◌, ◌<◌, ◌+◌, ◌⊎◌, ℕ, zero, suc, List, [], ◌∷◌, ◌++◌, length, Bool, true, false, Some, None, refl, arith, ap, sym, subst, ◌∙◌, inl, inr, true≢false, get_or, ltb-true}
use Rattle.std.proofs.lemmas.Option.{slice_get-get_or, slice_get_within, none-some}
use Rattle.std.proofs.lemmas.Bool.{cases_Bool, cases_order, lt-ltb}
use Rattle.std.proofs.lemmas.Bool.Decides.{nat_tests}
use Rattle.std.proofs.lemmas.List.{get_or_default}
use Rattle.std.proofs.lemmas.List.Kept.{AllPairs-filter}
use Rattle.std.proofs.lemmas.List.Sorted.{Contains-permutation}
use Rattle.std.proofs.lemmas.List.Quantifiers.{all_pairs_push}
use Rattle.std.proofs.lemmas.List.Elements.{Contains-append_left, Contains-append_right}
use Rattle.lido_base.specs.declared.value.Value.{Value}
use Rattle.lido_base.specs.declared.value.Value.TheVariants as value
use Rattle.lido_base.specs.declared.value.Desc.{Desc}
use Rattle.flat_grammar.specs.declared.flat.FlatRule.{FlatRule}
use Rattle.flat_grammar.specs.declared.flat.FlatAttr.{FlatAttr}
use Rattle.flat_grammar.specs.Rules.{attrs_of, HasRule}
use Rattle.flat_grammar.specs.WholeOrder.{Instance}
use Rattle.flat_grammar.proofs.Lists.{held, contains-nil, contains-cons, contains-first}
use Rattle.flat_grammar.proofs.GrownLemmas.{one-rule}
use Rattle.core_machine.specs.declared.notes.Entry.{Entry}
use Rattle.core_machine.specs.Core.{Task, IsTask, IsEarlier, IsMessage, written_at}
use Rattle.core_machine.specs.Slots.{found, offset}
use Rattle.core_machine.specs.Faults.{IsBefore}
use Rattle.core_machine.specs.Notes.{message_of, instance_of, IsEntry, AreEntries, AreAllEntries}
use Rattle.core_machine.proofs.Jobs.{grown}
use Rattle.core_machine.proofs.Sites.{inside}
use Rattle.core_machine.proofs.Counts.{either-part}
use Rattle.core_machine.proofs.CursorPaths.{filter-keeps}

module _ (j : Task) (values : List Value) where
  further : (n k : ℕ) (i : Instance) → IsBefore n k i → IsBefore n (k + 1) i
  further n k i (inl l) = inl l
  further n k i (inr (e, l)) = inr (e, omega (arith, l))

  last-one : (n k : ℕ) (i : Instance) → IsBefore n (k + 1) i → IsBefore n k i ⊎ (i ≡ (n, k))
  last-one n k i (inl l) = inl (inl l)
  last-one n k i (inr (e, l)) = go (cases_order i.1 k)
    where
      go : (i.1 ≡ k) ⊎ ((i.1 < k) ⊎ (k < i.1)) → IsBefore n k i ⊎ (i ≡ (n, k))
      go (inl same) = inr (λ x. (e x, same x))
      go (inr (inl less)) = inl (inr (e, less))
      go (inr (inr more)) = absurd (omega (arith, l, more))

  -- one message more
  pub entries-more : (n k : ℕ) (xs ys : List Entry) (e : Entry) → AreEntries j values n k xs → IsEntry j values e → instance_of e ≡ (n, k) → ys ≡ xs ++ e ∷ [] → AreEntries j values n (k + 1) ys
  entries-more n k xs ys e old is at push = subst (AreEntries j values n (k + 1)) (sym push) (record {
    sound = λ f m. elim (either-part xs (e ∷ []) f m) [ inl a ↦ old.sound f a | inr b ↦ subst (IsEntry j values) (one f b) is ];
    before = λ f m. elim (either-part xs (e ∷ []) f m) [ inl a ↦ further n k (instance_of f) (old.before f a) | inr b ↦ subst (λ (z : Entry). IsBefore n (k + 1) (instance_of z)) (one f b) (here e at) ];
    all = λ i d before message stored some. elim (last-one n k i before) [
      | inl a ↦ let p = old.all i d a message stored some in (p.0, Contains-append_left xs (e ∷ []) p.0 p.1, p.2)
      | inr b ↦ (e, Contains-append_right xs (e ∷ []) e (contains-first e []), at ∙ sym b)
    ];
    ordered = all_pairs_push (λ (a b : Entry). IsBefore b.node b.attr (instance_of a)) xs e old.ordered
        (λ m d h. let f = get_or xs m d in subst (λ (z : Instance). IsBefore z.0 z.1 (instance_of f)) (sym at) (old.before f (m, h, get_or_default xs m f d h)));
  })
    where
      one : (f : Entry) → Contains (e ∷ []) f → e ≡ f
      one f m = elim (contains-cons e f [] m) [ inl x ↦ x | inr y ↦ absurd (contains-nil f y) ]

      here : (f : Entry) → instance_of f ≡ (n, k) → IsBefore n (k + 1) (instance_of f)
      here f same = inr (ap (λ (z : Instance). z.0) same, (let s = ap (λ (z : Instance). z.1) same in omega (arith, s)))

  module _ (n k : ℕ) (q : FlatRule) (attr : FlatAttr) (v : Value) (at : HasRule j.rules j.flat n q) (there : slice_get (attrs_of j.symbols q.left) k ≡ Some attr) (is : found j values (n, k) ≡ Some v) where
    marked : IsMessage j (n, k) → attr.message ≡ true
    marked (r, other, has, is-attr, message) =
        let same = one-rule j.rules j.flat n r q has at in
        let e : other ≡ attr = held (sym is-attr ∙ ap (λ (z : FlatRule). slice_get (attrs_of j.symbols z.left) k) same ∙ there) in
        sym (ap (λ (x : FlatAttr). x.message) e) ∙ message

    -- what a message's text says
    pub told : (d : Desc) → message_of attr v ≡ Some d → IsMessage j (n, k) × (found j values (n, k) ≡ Some (value.Text d)) × (0 < d.len)
    told d e = go v is e
      where
        go : (w : Value) → found j values (n, k) ≡ Some w → message_of attr w ≡ Some d → IsMessage j (n, k) × (found j values (n, k) ≡ Some (value.Text d)) × (0 < d.len)
        go (value.Text t) f g = marks attr.message refl g
          where
            long : (b : Bool) → nat_lt 0 t.len ≡ b → attr.message ≡ true → (if b then Some t else None) ≡ Some d → IsMessage j (n, k) × (found j values (n, k) ≡ Some (value.Text d)) × (0 < d.len)
            long true l m h = let same : t ≡ d = held h in ((q, attr, at, there, m), f ∙ ap (λ (z : Desc). Some (value.Text z)) same, subst (λ (z : Desc). 0 < z.len) same (ltb-true 0 t.len l))
            long false l m h = absurd (none-some _ h)

            marks : (b : Bool) → attr.message ≡ b → (if b then (if nat_lt 0 t.len then Some t else None) else None) ≡ Some d → IsMessage j (n, k) × (found j values (n, k) ≡ Some (value.Text d)) × (0 < d.len)
            marks true m h = long (nat_lt 0 t.len) refl m h
            marks false m h = absurd (none-some _ h)
        go (value.Int z) f g = absurd (none-some _ g)
        go (value.Bool z) f g = absurd (none-some _ g)
        go (value.Str z) f g = absurd (none-some _ g)
        go (value.Bad z) f g = absurd (none-some _ g)
        go value.Void f g = absurd (none-some _ g)

    silent : (d : Desc) → message_of attr v ≡ None → IsMessage j (n, k) → found j values (n, k) ≡ Some (value.Text d) → 0 < d.len → ⊥
    silent d e message stored some =
        let same : v ≡ value.Text d = held (sym is ∙ stored) in
        let long = lt-ltb 0 d.len some in
        none-some _ (sym e ∙ ap (message_of attr) same ∙ ap (λ (b : Bool). if b then (if nat_lt 0 d.len then Some d else None) else None) (marked message) ∙ ap (λ (b : Bool). if b then Some d else None) long)

    -- an attribute without a message
    pub entries-same : (xs : List Entry) → message_of attr v ≡ None → AreEntries j values n k xs → AreEntries j values n (k + 1) xs
    entries-same xs e old = record {
      sound = old.sound;
      before = λ f m. further n k (instance_of f) (old.before f m);
      all = λ i d before message stored some. elim (last-one n k i before) [
        | inl a ↦ old.all i d a message stored some
        | inr b ↦ absurd (silent d e (subst (IsMessage j) b message) (subst (λ z. found j values z ≡ Some (value.Text d)) b stored) some)
      ];
      ordered = old.ordered;
    }

  pub entries-next : (n k : ℕ) (q : FlatRule) (xs : List Entry) → HasRule j.rules j.flat n q → k ≡ length (attrs_of j.symbols q.left) → AreEntries j values n k xs → AreEntries j values (n + 1) 0 xs
  entries-next n k q xs at full old = record {
    sound = old.sound;
    before = λ f m. over (instance_of f) (old.before f m);
    all = λ i d before message stored some. old.all i d (back i message before) message stored some;
    ordered = old.ordered;
  }
    where
      over : (i : Instance) → IsBefore n k i → IsBefore (n + 1) 0 i
      over i (inl l) = inl (omega (arith, l))
      over i (inr (e, l)) = inl (omega (arith, e))

      back : (i : Instance) → IsMessage j i → IsBefore (n + 1) 0 i → IsBefore n k i
      back i message (inr (e, l)) = absurd (omega (arith, l))
      back i (r, attr, has, there, marked) (inl l) = go (cases_order i.0 n)
        where
          go : (i.0 ≡ n) ⊎ ((i.0 < n) ⊎ (n < i.0)) → IsBefore n k i
          go (inl same) =
              let w = slice_get_within (attrs_of j.symbols r.left) i.1 attr there in
              let e = ap (λ (z : FlatRule). length (attrs_of j.symbols z.left)) (one-rule j.rules j.flat n r q (subst (λ m. HasRule j.rules j.flat m r) same has) at) in
              inr (same, omega (arith, w, e, full))
          go (inr (inl less)) = inl less
          go (inr (inr more)) = absurd (omega (arith, l, more))

  pub entries-first : AreEntries j values 0 0 []
  entries-first = record {
    sound = λ e m. absurd (contains-nil e m);
    before = λ e m. absurd (contains-nil e m);
    all = λ i d before message stored some. absurd (go i before);
    ordered = λ a b d l h. absurd (omega (arith, h));
  }
    where
      go : (i : Instance) → IsBefore 0 0 i → ⊥
      go i (inl l) = omega (arith, l)
      go i (inr (e, l)) = omega (arith, l)

-- what a filter keeps it keeps in order
pairs-in-filter : {A : Type 0} (R : A → A → Type 0) (p : A → Bool) (ys : List A) → AllPairs R (filter p ys) → (i k : ℕ) (d : A) → i < k → k < length ys → p (get_or ys i d) ≡ true → p (get_or ys k d) ≡ true → R (get_or ys i d) (get_or ys k d)
pairs-in-filter R p [] pairs i k d l h a b = absurd (omega (arith, h))
pairs-in-filter {A} R p (y ∷ ys) pairs i k d l h a b = go (cases_Bool (p y)) i k l h a b (λ rest m n less inside x z. pairs-in-filter R p ys rest m n d less inside x z)
  where
    tail : AllPairs R (y ∷ filter p ys) → AllPairs R (filter p ys)
    tail all m n e less inside = all (suc m) (suc n) e (omega (arith, less)) (omega (arith, inside))

    head : AllPairs R (y ∷ filter p ys) → (x : A) → Contains (filter p ys) x → R y x
    head all x (m, inside, is) = subst (R y) is (all 0 (suc m) x (omega arith) (omega (arith, inside)))

    go : (p y ≡ true) ⊎ (p y ≡ false) → (i k : ℕ) → i < k → k < length (y ∷ ys) → p (get_or (y ∷ ys) i d) ≡ true → p (get_or (y ∷ ys) k d) ≡ true
        → (AllPairs R (filter p ys) → (m n : ℕ) → m < n → n < length ys → p (get_or ys m d) ≡ true → p (get_or ys n d) ≡ true → R (get_or ys m d) (get_or ys n d))
        → R (get_or (y ∷ ys) i d) (get_or (y ∷ ys) k d)
    go c i zero l h a b rec = absurd (omega (arith, l))
    go (inl t) zero (suc k) l h a b rec =
        let all : AllPairs R (y ∷ filter p ys) = rw t at pairs in
        head all (get_or ys k d) (filter-keeps p ys (get_or ys k d) (k, omega (arith, h), get_or_default ys k (get_or ys k d) d (omega (arith, h))) b)
    go (inl t) (suc i) (suc k) l h a b rec =
        let all : AllPairs R (y ∷ filter p ys) = rw t at pairs in
        rec (tail all) i k (omega (arith, l)) (omega (arith, h)) a b
    go (inr f) zero (suc k) l h a b rec = absurd (true≢false (sym a ∙ f))
    go (inr f) (suc i) (suc k) l h a b rec =
        let all : AllPairs R (filter p ys) = rw f at pairs in
        rec all i k (omega (arith, l)) (omega (arith, h)) a b

-- a stable sort by a key that a closure gives
pub stable-from : {F : Type 0} {g : Mut F (Bor Entry × Unit {0}) ℕ} {f : F} (n : Entry → ℕ) (xs ys : List Entry) → ((key : Entry → ℕ) → ComputesKey g key f → IsStableByKey key nat_cmp xs ys)
    → ((a : Bor Entry × Unit {0}) (r : ℕ) (f' : F) → Called g f a r f' → (r ≡ n a.0.now) × (f' ≡ f)) → IsStableByKey n nat_cmp xs ys
stable-from {g = g} {f = f} n xs ys stable h = stable n (always_returns_same g (λ a r. r ≡ n a.0.now) f h)

-- equal keys tie
key-ties : {A : Type 0} (key : A → ℕ) (x y : A) → key x ≡ key y → ties (λ a b. is_lt (nat_cmp (key a) (key b))) x y ≡ true
key-ties key x y e = rw (e, not-less (key y)) refl
  where
    not-less : (n : ℕ) → is_lt (nat_cmp n n) ≡ false
    not-less n = grind (arith, nat_tests)

module _ (j : Task) (values : List Value) where
  -- sorted by their written nodes, entries of one written node in the old order
  pub all-entries : (xs ys : List Entry) → AreEntries j values (length j.flat) 0 xs → ((n a : ℕ) → IsMessage j (n, a) → n < length j.flat) → IsPermutation xs ys → IsPermutation ys xs
      → IsNonDecreasingBy (λ (e : Entry). e.written) ys → IsStableByKey (λ (e : Entry). e.written) nat_cmp xs ys → AreAllEntries j values ys
  all-entries xs ys old inside moved back rising stable = record {
    sound = sound;
    all = λ i d message stored some.
        let p = old.all i d (inl (inside i.0 i.1 message)) message stored some in
        (p.0, Contains-permutation xs ys p.0 moved p.1, p.2);
    ordered = earlier;
  }
    where
      sound : (e : Entry) → Contains ys e → IsEntry j values e
      sound e m = old.sound e (Contains-permutation ys xs e back m)

      at : (k : ℕ) (d : Entry) → k < length ys → Contains ys (get_or ys k d)
      at k d h = (k, h, get_or_default ys k (get_or ys k d) d h)

      earlier : AllPairs (λ (e f : Entry). IsEarlier j (instance_of e) (instance_of f)) ys
      earlier i k d l h =
          let e = get_or ys i d in
          let f = get_or ys k d in
          let we : e.written ≡ written_at j e.node = (sound e (at i d (omega (arith, l, h)))).written in
          let wf : f.written ≡ written_at j f.node = (sound f (at k d h)).written in
          let up : e.written ≤ f.written = rising i k d (omega (arith, l)) h in
          go e f we wf (cases_order e.written f.written) up (λ same.
          pairs-in-filter (λ (a b : Entry). IsBefore b.node b.attr (instance_of a)) (ties (λ a b. is_lt (nat_cmp a.written b.written)) e) ys
          (subst (AllPairs (λ (a b : Entry). IsBefore b.node b.attr (instance_of a))) (sym (stable e)) (AllPairs-filter (λ (a b : Entry). IsBefore b.node b.attr (instance_of a)) (ties (λ a b. is_lt (nat_cmp a.written b.written)) e) xs old.ordered))
          i k d l h (key-ties (λ (a : Entry). a.written) e e refl) (key-ties (λ (a : Entry). a.written) e f same))
        where
          go : (e f : Entry) → e.written ≡ written_at j e.node → f.written ≡ written_at j f.node → (e.written ≡ f.written) ⊎ ((e.written < f.written) ⊎ (f.written < e.written)) → e.written ≤ f.written
              → (e.written ≡ f.written → IsBefore f.node f.attr (instance_of e)) → IsEarlier j (instance_of e) (instance_of f)
          go e f we wf (inl same) up order = inr (sym we ∙ same ∙ wf, order same)
          go e f we wf (inr (inl less)) up order = inl (omega (arith, less, we, wf))
          go e f we wf (inr (inr more)) up order = absurd (omega (arith, more, up))

module _ (j : Task) (task : IsTask j) (values : List Value) where
  -- one attribute more, by the node's list of attributes
  module _ (n k begin : ℕ) (items : List FlatAttr) (d : FlatAttr) (w : Value) (h : n < length j.flat) (are : (q : FlatRule) → HasRule j.rules j.flat n q → items ≡ attrs_of j.symbols q.left)
      (low : k < length items) (e : begin ≡ offset j n) (within : begin + k < length values) (xs : List Entry) (old : AreEntries j values n k xs) where
    there : slice_get (attrs_of j.symbols ((grown j task).nodes n h).0.left) k ≡ Some (get_or items k d)
    there = let q = (grown j task).nodes n h in ap (λ l. slice_get l k) (sym (are q.0 q.1)) ∙ slice_get-get_or items k d low

    stored : found j values (n, k) ≡ Some (get_or values (begin + k) w)
    stored = let place : offset j n + k ≡ begin + k = ap (λ m. m + k) (sym e) in ap (slice_get values) place ∙ slice_get-get_or values (begin + k) w within

    pub entries-step : (ys : List Entry) (text : Desc) (written : ℕ) → Some text ≡ message_of (get_or items k d) (get_or values (begin + k) w) → written ≡ written_at j n
        → ys ≡ xs ++ record { written = written; node = n; attr = k; text = text } ∷ [] → AreEntries j values n (k + 1) ys
    entries-step ys text written is node push =
        let q = (grown j task).nodes n h in
        let t = told j values n k q.0 (get_or items k d) (get_or values (begin + k) w) q.1 there stored text (sym is) in
        entries-more j values n k xs ys (record { written = written; node = n; attr = k; text = text }) old (record { message = t.0; stored = t.1; some = t.2; written = node }) refl push

    pub entries-skip : None ≡ message_of (get_or items k d) (get_or values (begin + k) w) → AreEntries j values n (k + 1) xs
    entries-skip is = let q = (grown j task).nodes n h in entries-same j values n k q.0 (get_or items k d) (get_or values (begin + k) w) q.1 there stored xs (sym is) old

  pub entries-done : (n k : ℕ) (items : List FlatAttr) (xs : List Entry) → n < length j.flat → ((q : FlatRule) → HasRule j.rules j.flat n q → items ≡ attrs_of j.symbols q.left)
      → k ≤ length items → length items ≤ k → AreEntries j values n k xs → AreEntries j values (n + 1) 0 xs
  entries-done n k items xs h are low high old =
      let q = (grown j task).nodes n h in let e = ap length (are q.0 q.1) in
      entries-next j values n k q.0 xs q.1 (omega (arith, e, low, high)) old

  pub message-inside : (n a : ℕ) → IsMessage j (n, a) → n < length j.flat
  message-inside n a (r, attr, at, is, marked) = inside j.symbols j.rules j.shapes j.root j.flat task.formed (grown j task) task.root_bare n r at
