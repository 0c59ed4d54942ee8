-- The visits of the partition are right rows of visits.
use Rattle.std.specs.Prelude.{Contains, AllPairs, slice_get, is_some, IsTrue, IsFalse, flat_map, not}
use Rattle.std.specs.List.{AllZip}
use Rattle.std.specs.List.Sorted.{IsStrictlyIncreasing}
use Rattle.std.proofs.Common.{◌≡◌, ℕ, zero, suc, ◌<◌, ◌+◌, ◌*◌, ◌⊎◌, inl, inr, List, [], ◌∷◌, ◌++◌, length, map, get_or, Option, Some, None, true≢false, refl, arith, ap, sym, subst, ◌∙◌}
use Rattle.std.proofs.lemmas.Bool.{ne_eqb}
use Rattle.std.proofs.lemmas.Option.{none-some}
use Rattle.std.proofs.lemmas.List.Elements.{Contains-get_or, Contains-append_left, Contains-append_right, Contains-append_cases}
use Rattle.std.proofs.lemmas.List.Kept.{AllPairs-from_increasing, AllPairs-cons}
use Rattle.lido_base.specs.declared.ids.SymId.{SymId}
use Rattle.lido_base.specs.declared.ids.AttrId.{AttrId}
use Rattle.lido_base.specs.declared.kinds.Kind.{Kind}
use Rattle.lido_base.specs.declared.kinds.Kind.TheVariants.{Synthesized, Inherited}
use Rattle.lido_base.specs.declared.value.ValueType.{ValueType}
use Rattle.flat_grammar.specs.declared.flat.FlatSymbol.{FlatSymbol}
use Rattle.flat_grammar.specs.declared.flat.FlatRule.{FlatRule}
use Rattle.flat_grammar.specs.declared.flat.Shape.{Shape}
use Rattle.flat_grammar.specs.declared.plan.VisitClass.{VisitClass}
use Rattle.flat_grammar.specs.Rules.{attribute_at}
use Rattle.flat_grammar.specs.WellFormed.{IsWellFormed, is_nonterminal, is_nonterminal_symbol, is_synthesized}
use Rattle.flat_grammar.specs.Partition.{HasKind, IsInClass, AreVisits, AreAllVisits}
use Rattle.flat_grammar.specs.SoundPlan.{of_kind, IsAttribute, IsRow}
use Rattle.flat_grammar.proofs.Lists.{held, contains-nil, contains-first, contains-later, contains-slice_get}
use Rattle.flat_grammar.proofs.PartitionLemmas.{IsInClass-once}
use Rattle.visit_sequences.proofs.ClosedWalks.{all-from_each}
use Rattle.visit_sequences.proofs.Classes.{some-is, synthesized-kind, inherited-kind, classes-of, stands}

all_zip-places : {A B : Type 0} (R : A → B → Type 0) (xs : List A) (ys : List B) → length xs ≡ length ys → ((k : ℕ) (x : A) (y : B) → slice_get xs k ≡ Some x → slice_get ys k ≡ Some y → R x y) → AllZip R xs ys
all_zip-places R [] [] e h = tt
all_zip-places R [] (y ∷ ys) e h = absurd (omega (arith, e))
all_zip-places R (x ∷ xs) [] e h = absurd (omega (arith, e))
all_zip-places R (x ∷ xs) (y ∷ ys) e h = (h zero x y refl refl, all_zip-places R xs ys (omega (arith, e)) (λ k a b f g. h (suc k) a b f g))

-- an element of the joined lists is one of a list at some place, and the other way round
in-flat_map : {X A : Type 0} (f : X → List A) (xs : List X) (a : A) → Contains (flat_map f xs) a → (k : ℕ) × (x : X) × (slice_get xs k ≡ Some x) × Contains (f x) a
in-flat_map f [] a m = absurd (contains-nil a m)
in-flat_map f (x ∷ xs) a m = elim (Contains-append_cases (f x) (flat_map f xs) a m) [ inl i ↦ (zero, x, refl, i) | inr j ↦ let p = in-flat_map f xs a j in (suc p.0, p.1, p.2, p.3) ]

to-flat_map : {X A : Type 0} (f : X → List A) (xs : List X) (k : ℕ) (x : X) (a : A) → slice_get xs k ≡ Some x → Contains (f x) a → Contains (flat_map f xs) a
to-flat_map f [] k x a e m = absurd (none-some x e)
to-flat_map f (y ∷ xs) zero x a e m = Contains-append_left (f y) (flat_map f xs) a (subst (λ z. Contains (f z) a) (sym (held e)) m)
to-flat_map f (y ∷ xs) (suc k) x a e m = Contains-append_right (f y) (flat_map f xs) a (to-flat_map f xs k x a e m)

-- elements without repetition
abbrev pub Once : List AttrId → Type 0
Once [] = Unit {0}
Once (a ∷ rest) = ((b : AttrId) → Contains rest b → a ≡ b → ⊥) × Once rest

once-pairs : (xs : List AttrId) → Once xs → AllPairs (λ a b. a ≡ b → ⊥) xs
once-pairs [] h = λ i j d l m. absurd (omega (arith, m))
once-pairs (a ∷ xs) h = AllPairs-cons (λ a b. a ≡ b → ⊥) a xs (all-from_each (λ b. a ≡ b → ⊥) xs h.0) (once-pairs xs h.1)

once-append : (xs ys : List AttrId) → Once xs → Once ys → ((a : AttrId) → Contains xs a → Contains ys a → ⊥) → Once (xs ++ ys)
once-append [] ys h k apart = k
once-append (x ∷ xs) ys h k apart = (
  (λ b m e. elim (Contains-append_cases xs ys b m) [ inl i ↦ h.0 b i e | inr j ↦ apart b (subst (λ z. Contains (x ∷ xs) z) e (contains-first x xs)) j ]),
  once-append xs ys h.1 k (λ a m n. apart a (contains-later x a xs m) n),
)

once-flat_map : (f : VisitClass → List AttrId) (row : List VisitClass) → ((k : ℕ) (c : VisitClass) → slice_get row k ≡ Some c → Once (f c))
    → ((k l : ℕ) (c d : VisitClass) (a : AttrId) → slice_get row k ≡ Some c → slice_get row l ≡ Some d → Contains (f c) a → Contains (f d) a → k ≡ l) → Once (flat_map f row)
once-flat_map f [] each apart = tt
once-flat_map f (c ∷ row) each apart =
    once-append (f c) (flat_map f row) (each zero c refl) (once-flat_map f row (λ k d e. each (suc k) d e) (λ k l x y a e g m n. let h = apart (suc k) (suc l) x y a e g m n in omega (arith, h)))
    (λ a m n. let p = in-flat_map f row a n in let h = apart zero (suc p.0) c p.1 a refl p.2 m p.3 in omega (arith, h))

-- each element's number is below those of all later ones
once-increasing : (xs : List AttrId) → IsStrictlyIncreasing (map (λ (a : AttrId). a.0) xs) → Once xs
once-increasing xs h = from xs (AllPairs-from_increasing _ h)
  where
    number : (xs : List AttrId) (k : ℕ) (d : AttrId) → get_or (map (λ (a : AttrId). a.0) xs) k d.0 ≡ (get_or xs k d).0
    number [] k d = refl
    number (x ∷ xs) zero d = refl
    number (x ∷ xs) (suc k) d = number xs k d

    as-long : (xs : List AttrId) → length (map (λ (a : AttrId). a.0) xs) ≡ length xs
    as-long [] = refl
    as-long (x ∷ xs) = ap suc (as-long xs)

    from : (xs : List AttrId) → AllPairs (λ x y. x < y) (map (λ (a : AttrId). a.0) xs) → Once xs
    from [] p = tt
    from (x ∷ xs) p = (first, from xs (λ i j d a b. p (suc i) (suc j) d (omega (arith, a)) (omega (arith, b))))
      where
        first : (b : AttrId) → Contains xs b → x ≡ b → ⊥
        first b (k, m, e) s =
            let l = as-long xs in let q = p zero (suc k) b.0 (omega arith) (omega (arith, m, l)) in
            let f : get_or (map (λ (a : AttrId). a.0) xs) k b.0 ≡ b.0 = number xs k b ∙ ap (λ (a : AttrId). a.0) e in
            let g : x.0 ≡ b.0 = ap (λ (a : AttrId). a.0) s in omega (arith, q, f, g)

module _ (symbols : List FlatSymbol) (rules : List FlatRule) (x : SymId) (row : List VisitClass) (are : AreVisits symbols rules x row) where
  -- an attribute has one visit among those that inherit, and one among those that synthesize
  same-visit : (n : ℕ → ℕ) → ((i j : ℕ) → n i ≡ n j → i ≡ j) → (k l i j : ℕ) (a : AttrId) → i + suc k ≡ length row → j + suc l ≡ length row → IsInClass symbols rules x (n i) a → IsInClass symbols rules x (n j) a → k ≡ l
  same-visit n one k l i j a e f p q = let h = one i j (IsInClass-once symbols rules x (n i) (n j) a p q) in omega (arith, h, e, f)

  pub synthesized-once : Once (flat_map (λ (c : VisitClass). c.synthesized) row)
  synthesized-once = once-flat_map (λ (c : VisitClass). c.synthesized) row
      (λ k c e. once-increasing c.synthesized (classes-of symbols rules x row are k c e).2.ascending)
      (λ k l c d a e f m n. let p = classes-of symbols rules x row are k c e in let q = classes-of symbols rules x row are l d f in
      same-visit (λ i. 2 * i) (λ i j h. omega (arith, h)) k l p.0 q.0 a p.1 q.1 ((p.2.same a).0 m) ((q.2.same a).0 n))

  pub inherited-once : Once (flat_map (λ (c : VisitClass). c.inherited) row)
  inherited-once = once-flat_map (λ (c : VisitClass). c.inherited) row
      (λ k c e. once-increasing c.inherited (classes-of symbols rules x row are k c e).3.ascending)
      (λ k l c d a e f m n. let p = classes-of symbols rules x row are k c e in let q = classes-of symbols rules x row are l d f in
      same-visit (λ i. 2 * i + 1) (λ i j h. omega (arith, h)) k l p.0 q.0 a p.1 q.1 ((p.3.same a).0 m) ((q.3.same a).0 n))

  one-kind : (k l : Kind) (a : AttrId) → HasKind symbols x k a → HasKind symbols x l a → k ≡ l
  one-kind k l a (attr, e, f) (other, g, h) = sym f ∙ (ap (λ z. z.kind) (held (sym e ∙ g)) ∙ h)

  kind-row : (kind : Kind) (a : AttrId) → HasKind symbols x kind a → Contains (of_kind kind row) a
  kind-row kind a has = go kind has (stands symbols rules x row are a (some-is (attribute_at symbols x a) has.0 has.1))
    where
      go : (kind : Kind) → HasKind symbols x kind a → (k : ℕ) × (c : VisitClass) × (slice_get row k ≡ Some c) × (Contains c.inherited a ⊎ Contains c.synthesized a) → Contains (of_kind kind row) a
      go Synthesized h (k, c, e, inr m) = to-flat_map (λ (c : VisitClass). c.synthesized) row k c a e m
      go Inherited h (k, c, e, inl m) = to-flat_map (λ (c : VisitClass). c.inherited) row k c a e m
      go Synthesized h (k, c, e, inl m) = absurd (true≢false (ap is_synthesized (one-kind Synthesized Inherited a h (inherited-kind symbols rules x row are k c a e m))))
      go Inherited h (k, c, e, inr m) = absurd (true≢false (sym (ap is_synthesized (one-kind Inherited Synthesized a h (synthesized-kind symbols rules x row are k c a e m)))))

  pub row-kind : (kind : Kind) (a : AttrId) → Contains (of_kind kind row) a → HasKind symbols x kind a
  row-kind Synthesized a m = let p = in-flat_map (λ (c : VisitClass). c.synthesized) row a m in synthesized-kind symbols rules x row are p.0 p.1 a p.2 p.3
  row-kind Inherited a m = let p = in-flat_map (λ (c : VisitClass). c.inherited) row a m in inherited-kind symbols rules x row are p.0 p.1 a p.2 p.3

  row-once : (kind : Kind) → AllPairs (λ a b. a ≡ b → ⊥) (of_kind kind row)
  row-once Synthesized = once-pairs (flat_map (λ (c : VisitClass). c.synthesized) row) synthesized-once
  row-once Inherited = once-pairs (flat_map (λ (c : VisitClass). c.inherited) row) inherited-once

module _ (symbols : List FlatSymbol) (rules : List FlatRule) (shapes : List Shape) (root : SymId) (w : IsWellFormed symbols rules shapes root) where
  attribute-kind : (k : ℕ) (s : FlatSymbol) (kind : Kind) (a : AttrId) → slice_get symbols k ≡ Some s → HasKind symbols (record { 0 = k }) kind a → IsAttribute s kind a
  attribute-kind k s kind a e (attr, f, g) = (attr, sym (rw e refl) ∙ f, g)

  kind-attribute : (k : ℕ) (s : FlatSymbol) (kind : Kind) (a : AttrId) → slice_get symbols k ≡ Some s → IsAttribute s kind a → HasKind symbols (record { 0 = k }) kind a
  kind-attribute k s kind a e (attr, f, g) = (attr, rw e f, g)

  row-right : (k : ℕ) (s : FlatSymbol) (row : List VisitClass) → slice_get symbols k ≡ Some s
      → (IsTrue (is_nonterminal symbols (record { 0 = k })) → AreVisits symbols rules (record { 0 = k }) row) × (IsFalse (is_nonterminal symbols (record { 0 = k })) → row ≡ []) → IsRow s row
  row-right k s row e (of_nonterminal, of_terminal) = go s.terminal refl
    where
      go : (t : Option ValueType) → s.terminal ≡ t → IsRow s row
      go None f =
          let are = of_nonterminal (ap is_nonterminal_symbol e ∙ ap (λ z. not (is_some z)) f) in
          let one = are.one in
          record {
            some_visit = ap is_some f ∙ sym (ne_eqb (length row) 0 (λ g. omega (arith, g, one)));
            attributes = λ kind a. ((λ m. attribute-kind k s kind a e (row-kind symbols rules (record { 0 = k }) row are kind a m)), (λ h. kind-row symbols rules (record { 0 = k }) row are kind a (kind-attribute k s kind a e h)));
            once = row-once symbols rules (record { 0 = k }) row are;
          }
      go (Some ty) f =
          let empty = of_terminal (ap is_nonterminal_symbol e ∙ ap (λ z. not (is_some z)) f) in
          let bare = Rattle.std.proofs.lemmas.List.Elements.All-contains (λ (y : FlatSymbol). IsTrue (is_some y.terminal) → y.attrs ≡ []) symbols s w.terminals_bare (contains-slice_get symbols k s e) (ap is_some f) in
          subst (IsRow s) (sym empty) (record {
            some_visit = ap is_some f;
            attributes = λ kind a. ((λ m. absurd (nothing kind a m)), (λ h. absurd (none-some h.0 (sym (ap (λ (xs : List Rattle.flat_grammar.specs.declared.flat.FlatAttr.FlatAttr). slice_get xs a.0) bare) ∙ h.1))));
            once = λ kind. nothing-twice kind;
          })
        where
          nothing : (kind : Kind) (a : AttrId) → Contains (of_kind kind []) a → ⊥
          nothing Synthesized a m = contains-nil a m
          nothing Inherited a m = contains-nil a m

          nothing-twice : (kind : Kind) → AllPairs (λ a b. a ≡ b → ⊥) (of_kind kind [])
          nothing-twice Synthesized = λ i j d l m. absurd (omega (arith, m))
          nothing-twice Inherited = λ i j d l m. absurd (omega (arith, m))

  -- the visits of the partition are a right row for each symbol
  pub rows-right : (visits : List (List VisitClass)) → AreAllVisits symbols rules visits → AllZip IsRow symbols visits
  rows-right visits all = all_zip-places IsRow symbols visits (sym all.0) (λ k s row e f. row-right k s row e (all.1 (record { 0 = k }) row f))
