-- The messages of a job: attribute by attribute, and then in the order of notes.
use Rattle.std.specs.Prelude.{slice_get, filter, Contains, AllPairs}
use Rattle.std.specs.Fn.{Called, ComputesKey}
use Rattle.std.specs.Ordering.{is_lt, nat_cmp}
use Rattle.std.specs.List.Sorted.{IsNonDecreasingBy, IsPermutation, IsStableByKey, ties}
use Rattle.std.proofs.lemmas.Bool.{cases_Bool, cases_order}
use Rattle.std.proofs.lemmas.Bool.Decides.{nat_tests}
use Rattle.std.proofs.lemmas.Fn.{always_returns_same}
use Rattle.std.proofs.lemmas.List.{get_or_default}
use Rattle.std.proofs.lemmas.List.Elements.{Contains-append_left, Contains-append_right}
use Rattle.std.proofs.lemmas.List.Kept.{AllPairs-filter}
use Rattle.std.proofs.lemmas.List.Quantifiers.{all_pairs_push}
use Rattle.std.proofs.lemmas.List.Sorted.{Contains-permutation}
use Rattle.std.proofs.lemmas.Option.{slice_get-get_or, slice_get_within}
use denote.Param.Members.{Mut}
use denote.Ref.{Bor}
use Rattle.std.proofs.Common.{◌≡◌, ◌≤◌, ◌<◌, ◌+◌, ◌⊎◌, ℕ, zero, suc, Bool, true, false, List, []}
use Rattle.std.proofs.Common.{◌∷◌, ◌++◌, length, Some, refl, arith, ap, sym, subst, ◌∙◌, inl, inr, true≢false, get_or}
use Rattle.lido_base.proofs.Lists.{contains-nil, contains-cons}
use Rattle.flat_grammar.specs.declared.flat.FlatRule.{FlatRule}
use Rattle.flat_grammar.specs.declared.flat.FlatAttr.{FlatAttr}
use Rattle.flat_grammar.specs.Rules.{attrs_of, HasRule}
use Rattle.flat_grammar.specs.WholeOrder.{Instance}
use Rattle.flat_grammar.specs.Instances.{IsInstance}
use Rattle.flat_grammar.proofs.Lists.{held, contains-first}
use Rattle.flat_grammar.proofs.GrownLemmas.{one-rule}
use Rattle.core_machine.specs.Core.{Task, IsTask, IsEarlier, IsMessage, written_at}
use Rattle.core_machine.specs.Faults.{IsBefore}
use Rattle.core_machine.proofs.Counts.{either-part}
use Rattle.core_machine.proofs.CursorPaths.{filter-keeps}
use Rattle.core_machine.proofs.Jobs.{grown}
use Rattle.core_machine.proofs.Sites.{inside}
use Rattle.region_engine.specs.declared.notebook.Message.{Message}
use Rattle.region_engine.specs.Notebooks.{instance_of, IsListed, AreMessages, AreMessagesBefore}

-- the attribute of a message is one of its node's
pub message-instance : (j : Task) (i : Instance) → IsMessage j i → IsInstance j.symbols j.rules j.flat i
message-instance j i m = (m.0, m.2, slice_get_within (attrs_of j.symbols m.0.left) i.1 m.1 m.3)

further : (n k : ℕ) (i : Instance) → IsBefore n k i → IsBefore n (k + 1) i
further n k i (inl l) = inl l
further n k i (inr (e, l)) = inr (e, omega (arith, l))

last-one : (n k : ℕ) (i : Instance) → IsBefore n (k + 1) i → IsBefore n k i ⊎ (i ≡ (n, k))
last-one n k i (inl l) = inl (inl l)
last-one n k i (inr (e, l)) = go (cases_order i.1 k)
  where
    go : (i.1 ≡ k) ⊎ ((i.1 < k) ⊎ (k < i.1)) → IsBefore n k i ⊎ (i ≡ (n, k))
    go (inl same) = inr (λ x. (e x, same x))
    go (inr (inl less)) = inl (inr (e, less))
    go (inr (inr more)) = absurd (omega (arith, l, more))

nothing-before : (i : Instance) → IsBefore 0 0 i → ⊥
nothing-before i (inl l) = omega (arith, l)
nothing-before i (inr (e, l)) = omega (arith, l)

module _ (j : Task) where
  pub messages-first : (xs : List Message) → xs ≡ [] → AreMessagesBefore j 0 0 xs
  messages-first xs none = subst (AreMessagesBefore j 0 0) (sym none) (record {
    sound = λ m c. absurd (contains-nil m c);
    before = λ m c. absurd (contains-nil m c);
    all = λ i before message. absurd (nothing-before i before);
    ordered = λ a b d l h. absurd (omega (arith, h));
  })

  -- one message more
  one-more : (n k : ℕ) (xs ys : List Message) (e : Message) → AreMessagesBefore j n k xs → IsListed j e → instance_of e ≡ (n, k) → ys ≡ xs ++ e ∷ []
      → AreMessagesBefore j n (k + 1) ys
  one-more n k xs ys e old is at push = subst (AreMessagesBefore j n (k + 1)) (sym push) (record {
    sound = λ f m. elim (either-part xs (e ∷ []) f m) [ inl a ↦ old.sound f a | inr b ↦ subst (IsListed j) (one f b) is ];
    before = λ f m. elim (either-part xs (e ∷ []) f m) [
      | inl a ↦ further n k (instance_of f) (old.before f a)
      | inr b ↦ subst
          (λ (z : Message). IsBefore n (k + 1) (instance_of z)) (one f b) (here e at)
    ];
    all = λ i before message. elim (last-one n k i before) [
      | inl a ↦ let p = old.all i a message in (p.0, Contains-append_left xs (e ∷ []) p.0 p.1, p.2)
      | inr b ↦ (e, Contains-append_right xs (e ∷ []) e (contains-first e []), at ∙ sym b)
    ];
    ordered = all_pairs_push (λ (a b : Message). IsBefore b.node b.attr (instance_of a)) xs e old.ordered
        (λ m d h. let f = get_or xs m d in subst (λ (z : Instance). IsBefore z.0 z.1 (instance_of f)) (sym at)
        (old.before f (m, h, get_or_default xs m f d h)));
  })
    where
      one : (f : Message) → Contains (e ∷ []) f → e ≡ f
      one f m = elim (contains-cons e f [] m) [ inl x ↦ x | inr y ↦ absurd (contains-nil f y) ]

      here : (f : Message) → instance_of f ≡ (n, k) → IsBefore n (k + 1) (instance_of f)
      here f same = inr (ap (λ (z : Instance). z.0) same, (let s = ap (λ (z : Instance). z.1) same in omega (arith, s)))

module _ (j : Task) (task : IsTask j) (n : ℕ) (items : List FlatAttr) (h : n < length j.flat)
    (are : (q : FlatRule) → HasRule j.rules j.flat n q → items ≡ attrs_of j.symbols q.left) where
  abbrev q : FlatRule
  q = ((grown j task).nodes n h).0

  at-node : HasRule j.rules j.flat n q
  at-node = ((grown j task).nodes n h).1

  -- one attribute more, by the node's list of attributes
  module _ (k : ℕ) (d : FlatAttr) (low : k < length items) (xs : List Message) (old : AreMessagesBefore j n k xs) where
    there : slice_get (attrs_of j.symbols q.left) k ≡ Some (get_or items k d)
    there = ap (λ l. slice_get l k) (sym (are q at-node)) ∙ slice_get-get_or items k d low

    marked : IsMessage j (n, k) → (get_or items k d).message ≡ true
    marked (r, other, has, is-attr, message) =
        let same = one-rule j.rules j.flat n r q has at-node in
        let e : other ≡ get_or items k d = held (sym is-attr ∙ ap (λ (z : FlatRule). slice_get (attrs_of j.symbols z.left) k) same ∙ there) in
        sym (ap (λ (x : FlatAttr). x.message) e) ∙ message

    pub messages-more : (ys : List Message) (written : ℕ) → (get_or items k d).message ≡ true → written ≡ written_at j n
        → ys ≡ xs ++ record { written = written; node = n; attr = k } ∷ [] → AreMessagesBefore j n (k + 1) ys
    messages-more ys written is node push = one-more j n k xs ys (record { written = written; node = n; attr = k }) old
        ((q, get_or items k d, at-node, there, is), node) refl push

    pub messages-same : (get_or items k d).message ≡ false → AreMessagesBefore j n (k + 1) xs
    messages-same not = record {
      sound = old.sound;
      before = λ f m. further n k (instance_of f) (old.before f m);
      all = λ i before message. elim (last-one n k i before) [
        | inl a ↦ old.all i a message
        | inr b ↦ absurd (true≢false (sym (marked (subst (IsMessage j) b message)) ∙ not))
      ];
      ordered = old.ordered;
    }

  -- all attributes of the node
  pub messages-done : (k : ℕ) (xs : List Message) → k ≤ length items → length items ≤ k → AreMessagesBefore j n k xs → AreMessagesBefore j (n + 1) 0 xs
  messages-done k xs low high old = record {
    sound = old.sound;
    before = λ f m. over (instance_of f) (old.before f m);
    all = λ i before message. old.all i (back i message before) message;
    ordered = old.ordered;
  }
    where
      over : (i : Instance) → IsBefore n k i → IsBefore (n + 1) 0 i
      over i (inl l) = inl (omega (arith, l))
      over i (inr (e, l)) = inl (omega (arith, e))

      back : (i : Instance) → IsMessage j i → IsBefore (n + 1) 0 i → IsBefore n k i
      back i message (inr (e, l)) = absurd (omega (arith, l))
      back i (r, attr, has, is, marked) (inl l) = go (cases_order i.0 n)
        where
          go : (i.0 ≡ n) ⊎ ((i.0 < n) ⊎ (n < i.0)) → IsBefore n k i
          go (inl same) =
              let w = slice_get_within (attrs_of j.symbols r.left) i.1 attr is in
              let e = ap (λ (z : FlatRule). length (attrs_of j.symbols z.left))
              (one-rule j.rules j.flat n r q (subst (λ m. HasRule j.rules j.flat m r) same has) at-node) in
              let f = ap length (are q at-node) in
              inr (same, omega (arith, w, e, f, high))
          go (inr (inl less)) = inl less
          go (inr (inr more)) = absurd (omega (arith, l, more))

-- What a filter keeps it keeps in order. This and the next are core_machine's, which has them for itself alone (NoteLemmas).
pairs-in-filter : {A : Type 0} (R : A → A → Type 0) (p : A → Bool) (ys : List A) → AllPairs R (filter p ys) → (i k : ℕ) (d : A) → i < k → k < length ys
    → p (get_or ys i d) ≡ true → p (get_or ys k d) ≡ true → R (get_or ys i d) (get_or ys k d)
pairs-in-filter R p [] pairs i k d l h a b = absurd (omega (arith, h))
pairs-in-filter {A} R p (y ∷ ys) pairs i k d l h a b = go (cases_Bool (p y)) i k l h a b
    (λ rest m n less inside x z. pairs-in-filter R p ys rest m n d less inside x z)
  where
    tail : AllPairs R (y ∷ filter p ys) → AllPairs R (filter p ys)
    tail all m n e less inside = all (suc m) (suc n) e (omega (arith, less)) (omega (arith, inside))

    head : AllPairs R (y ∷ filter p ys) → (x : A) → Contains (filter p ys) x → R y x
    head all x (m, inside, is) = subst (R y) is (all 0 (suc m) x (omega arith) (omega (arith, inside)))

    go : (p y ≡ true) ⊎ (p y ≡ false) → (i k : ℕ) → i < k → k < length (y ∷ ys) → p (get_or (y ∷ ys) i d) ≡ true → p (get_or (y ∷ ys) k d) ≡ true
        → (AllPairs R (filter p ys) → (m n : ℕ) → m < n → n < length ys → p (get_or ys m d) ≡ true → p (get_or ys n d) ≡ true
        → R (get_or ys m d) (get_or ys n d))
        → R (get_or (y ∷ ys) i d) (get_or (y ∷ ys) k d)
    go c i zero l h a b rec = absurd (omega (arith, l))
    go (inl t) zero (suc k) l h a b rec =
        let all : AllPairs R (y ∷ filter p ys) = rw t at pairs in
        head all (get_or ys k d) (filter-keeps p ys (get_or ys k d) (k, omega (arith, h), get_or_default ys k (get_or ys k d) d (omega (arith, h))) b)
    go (inl t) (suc i) (suc k) l h a b rec =
        let all : AllPairs R (y ∷ filter p ys) = rw t at pairs in
        rec (tail all) i k (omega (arith, l)) (omega (arith, h)) a b
    go (inr f) zero (suc k) l h a b rec = absurd (true≢false (sym a ∙ f))
    go (inr f) (suc i) (suc k) l h a b rec =
        let all : AllPairs R (filter p ys) = rw f at pairs in
        rec all i k (omega (arith, l)) (omega (arith, h)) a b

-- equal keys tie
key-ties : {A : Type 0} (key : A → ℕ) (x y : A) → key x ≡ key y → ties (λ a b. is_lt (nat_cmp (key a) (key b))) x y ≡ true
key-ties key x y e = rw (e, not-less (key y)) refl
  where
    not-less : (n : ℕ) → is_lt (nat_cmp n n) ≡ false
    not-less n = grind (arith, nat_tests)

-- a stable sort by a key that a closure gives
pub stable-from : {F : Type 0} {g : Mut F (Bor Message × Unit {0}) ℕ} {f : F} (n : Message → ℕ) (xs ys : List Message)
    → ((key : Message → ℕ) → ComputesKey g key f → IsStableByKey key nat_cmp xs ys)
    → ((a : Bor Message × Unit {0}) (r : ℕ) (f' : F) → Called g f a r f' → (r ≡ n a.0.now) × (f' ≡ f)) → IsStableByKey n nat_cmp xs ys
stable-from {g = g} {f = f} n xs ys stable h = stable n (always_returns_same g (λ a r. r ≡ n a.0.now) f h)

-- sorted by their written nodes, messages of one written node in the old order
pub sorted-messages : (j : Task) → IsTask j → (xs ys : List Message) → AreMessagesBefore j (length j.flat) 0 xs → IsPermutation xs ys → IsPermutation ys xs
    → IsNonDecreasingBy (λ (m : Message). m.written) ys
    → IsStableByKey (λ (m : Message). m.written) nat_cmp xs ys → AreMessages j ys
sorted-messages j task xs ys old moved back rising stable = record {
  sound = sound;
  all = λ i message. let p = old.all i (inl (message-inside i message)) message in (p.0, Contains-permutation xs ys p.0 moved p.1, p.2);
  ordered = earlier;
}
  where
    message-inside : (i : Instance) → IsMessage j i → i.0 < length j.flat
    message-inside i (r, attr, at, is, marked) = inside j.symbols j.rules j.shapes j.root j.flat task.formed (grown j task) task.root_bare i.0 r at

    sound : (m : Message) → Contains ys m → IsListed j m
    sound m c = old.sound m (Contains-permutation ys xs m back c)

    at : (k : ℕ) (d : Message) → k < length ys → Contains ys (get_or ys k d)
    at k d h = (k, h, get_or_default ys k (get_or ys k d) d h)

    earlier : AllPairs (λ (e f : Message). IsEarlier j (instance_of e) (instance_of f)) ys
    earlier i k d l h =
        let e = get_or ys i d in
        let f = get_or ys k d in
        let we : e.written ≡ written_at j e.node = (sound e (at i d (omega (arith, l, h)))).1 in
        let wf : f.written ≡ written_at j f.node = (sound f (at k d h)).1 in
        let up : e.written ≤ f.written = rising i k d (omega (arith, l)) h in
        go e f we wf (cases_order e.written f.written) up (λ same.
        pairs-in-filter (λ (a b : Message). IsBefore b.node b.attr (instance_of a)) (ties (λ a b. is_lt (nat_cmp a.written b.written)) e) ys
        (subst (AllPairs (λ (a b : Message). IsBefore b.node b.attr (instance_of a))) (sym (stable e))
        (AllPairs-filter (λ (a b : Message). IsBefore b.node b.attr (instance_of a)) (ties (λ a b. is_lt (nat_cmp a.written b.written)) e) xs old.ordered))
        i k d l h (key-ties (λ (a : Message). a.written) e e refl) (key-ties (λ (a : Message). a.written) e f same))
      where
        go : (e f : Message) → e.written ≡ written_at j e.node → f.written ≡ written_at j f.node
            → (e.written ≡ f.written) ⊎ ((e.written < f.written) ⊎ (f.written < e.written)) → e.written ≤ f.written
            → (e.written ≡ f.written → IsBefore f.node f.attr (instance_of e)) → IsEarlier j (instance_of e) (instance_of f)
        go e f we wf (inl same) up order = inr (sym we ∙ same ∙ wf, order same)
        go e f we wf (inr (inl less)) up order = inl (omega (arith, less, we, wf))
        go e f we wf (inr (inr more)) up order = absurd (omega (arith, more, up))
