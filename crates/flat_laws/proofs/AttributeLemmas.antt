-- The attributes of a symbol have different names.
use Rattle.std.specs.Prelude.{Contains, AllPairs, All, slice_get, nat_eq, flat_map, filter, ◌^◌, IsTrue, map, not}
use Rattle.std.proofs.Common.{◌≡◌, ℕ, zero, suc, ◌+◌, ◌<◌, ◌≤◌, ◌⊎◌, inl, inr, Bool, true, false, cond, List, [], ◌∷◌, length, Some, refl, sym, ap, subst, ◌∙◌, arith, length-append, eqb-true, eq-eqb}
use Rattle.std.proofs.lemmas.Bool.{cases_lt}
use Rattle.std.proofs.lemmas.Option.{same_Some, slice_get_within}
use Rattle.std.proofs.lemmas.Fmt.{decimal_injective}
use Rattle.std.proofs.lemmas.List.{length-map}
use Rattle.std.proofs.lemmas.List.Elements.{All-contains}
use Rattle.rule_tables.proofs.LimitLemmas.{no-more-names}
use Rattle.lido_base.specs.Environment.{Environment}
use Rattle.lido_base.specs.declared.ids.SymId.{SymId}
use Rattle.lido_base.specs.declared.ids.StrId.{StrId}
use Rattle.lido_base.proofs.Lists.{contains-nil, contains-cons, contains-here, place-contains, contains-map, map-contains}
use Rattle.flat_grammar.specs.declared.flat.FlatSymbol.{FlatSymbol}
use Rattle.flat_grammar.specs.declared.flat.FlatAttr.{FlatAttr}
use Rattle.flat_grammar.specs.declared.flat.FlatRule.{FlatRule}
use Rattle.flat_grammar.specs.declared.flat.Shape.{Shape}
use Rattle.lido_syntax.specs.declared.spec.Spec.{Spec}
use Rattle.lido_syntax.specs.declared.spec.Cons.{Cons}
use Rattle.lido_syntax.specs.declared.spec.RuleItem.{RuleItem}
use Rattle.lido_syntax.specs.declared.spec.SymbolItem.{SymbolItem}
use Rattle.lido_syntax.specs.Functions.{text_of}
use Rattle.lido_syntax.specs.Computation.{is_message}
use Rattle.lido_symbols.specs.Numbers.{place_in, AreNumbered, different}
use Rattle.lido_symbols.specs.Uses.{computations, all_constituents, is_same_constituents}
use Rattle.table_faults.specs.Faults.{computations_and_constituents as too_many}
use Rattle.lido_syntax.specs.declared.fault.SpecFault.TheVariants as fault
use Rattle.lido_base.specs.declared.kinds.Many.TheVariants as many
use Rattle.rule_tables.specs.Needs.{Tables, Needs, AreTables}
use Rattle.rule_tables.specs.Slots.{Slot, Written, Inc, Con, Front, Behind, Msg, Out, HasSlot, HasMessage, IsBefore, AreSlots, chains}
use Rattle.rule_tables.specs.Flat.{IsFlat, IsAttribute, slot_text}
use Rattle.flat_laws.specs.Accepted.{IsAccepted, IsWordAt, AreNames}
use Rattle.flat_laws.proofs.Lists.{pair-at, pairs-places, all-places, zip-left, mapped-back}
use Rattle.flat_laws.proofs.NeedLemmas.{place-passes}
use Rattle.flat_laws.proofs.NameLemmas.{no-dollar, one-id, attribute-word, chain-word}

-- ---- bounds

length-flat : {X Y : Type 0} (f : X → List Y) (xs : List X) (x : X) → Contains xs x → length (f x) ≤ length (flat_map f xs)
length-flat f [] x m = absurd (contains-nil x m)
length-flat {X} {Y} f (z ∷ xs) x m = elim (contains-cons z x xs m) [
  | inl e ↦ omega (arith, length-append (f z) (flat_map f xs), ap (λ (y : X). length (f y)) e)
  | inr k ↦ omega (arith, length-append (f z) (flat_map f xs), length-flat f xs x k)
]

filter-short : {X : Type 0} (test : X → Bool) (xs : List X) → length (filter test xs) ≤ length xs
filter-short test [] = omega arith
filter-short {X} test (x ∷ xs) = by (test x) (filter-short test xs)
  where
    by : (b : Bool) → length (filter test xs) ≤ length xs → length (cond b (x ∷ filter test xs) (filter test xs)) ≤ suc (length xs)
    by true h = omega (arith, h)
    by false h = omega (arith, h)

different-short : (xs : List ℕ) → length (different xs) ≤ length xs
different-short [] = omega arith
different-short (x ∷ xs) = omega (arith, filter-short (λ y. not (nat_eq x y)) (different xs), different-short xs)

-- the CONSTITUENTS that are numbered are no more than those of the text
module _ (uses : List (ℕ × Cons)) (keys : List Cons) (numbered : AreNumbered is_same_constituents uses keys) where
  abbrev by_number : ℕ × Cons → ℕ × ℕ
  by_number u = (u.0, u.1.number)

  abbrev number_of : Cons → ℕ
  number_of k = k.number

  -- some use of this number stands in front
  abbrev HasBefore : ℕ → ℕ → Type 0
  HasBefore m at = (first : ℕ) × (i : ℕ) × Contains (map by_number uses) (first, i) × IsTrue (nat_eq i m) × (first < at)

  before-number : (i j m n : ℕ) → i < j → slice_get (map number_of keys) i ≡ Some m → slice_get (map number_of keys) j ≡ Some n → (at q : ℕ) → Contains (map by_number uses) (at, q) → IsTrue (nat_eq q n) → HasBefore m at
  before-number i j m n h e f at q used same =
      let (k, ek, nk) = mapped-back number_of keys i m e in
      let (l, el, nl) = mapped-back number_of keys j n f in
      let (u, mu, eu) = contains-map by_number uses (at, q) used in
      let place : u.0 ≡ at = ap (λ (z : ℕ × ℕ). z.0) eu in
      let its : u.1.number ≡ q = ap (λ (z : ℕ × ℕ). z.1) eu in
      let (first, c, there, is, less) = pair-at (λ k l. (at : ℕ) (j : Cons) → Contains uses (at, j) → IsTrue (is_same_constituents j l) → (first : ℕ) × (i : Cons) × Contains uses (first, i) × IsTrue (is_same_constituents i k) × (first < at))
      keys i j k l numbered.by_place ek el h u.0 u.1 mu (eq-eqb u.1.number l.number (its ∙ eqb-true q n same ∙ sym nl)) in
      (first, c.number, map-contains by_number uses (first, c) there, eq-eqb c.number m (eqb-true c.number k.number is ∙ nk), omega (arith, less, place))

  numbers-numbered : AreNumbered nat_eq (map by_number uses) (map number_of keys)
  numbers-numbered = record {
    named = all-places (λ (n : ℕ). (at : ℕ) × Contains (map by_number uses) (at, n)) (map number_of keys) (λ i n e.
        (let (k, ek, nk) = mapped-back number_of keys i n e in
        let (at, m) = All-contains (λ (k : Cons). (at : ℕ) × Contains uses (at, k)) keys k numbered.named (place-contains keys i k ek) in
        (at, subst (λ n. Contains (map by_number uses) (at, n)) nk (map-contains by_number uses (at, k) m))));
    all = λ at n m.
        (let (u, mu, eu) = contains-map by_number uses (at, n) m in
        let (l, ml, same) = numbered.all u.0 u.1 mu in
        (l.number, map-contains number_of keys l ml, eq-eqb n l.number (sym (ap (λ (z : ℕ × ℕ). z.1) eu) ∙ eqb-true u.1.number l.number same)));
    by_place = pairs-places (λ m n. (at : ℕ) (q : ℕ) → Contains (map by_number uses) (at, q) → IsTrue (nat_eq q n) → HasBefore m at) (map number_of keys) before-number;
  }

  no-more-constituents : length keys ≤ length uses
  no-more-constituents =
      omega (
        arith,
        no-more-names (map by_number uses) (map number_of keys) numbers-numbered,
        different-short (map (λ (u : ℕ × ℕ). u.1) (map by_number uses)),
        length-map (map by_number uses) (λ (u : ℕ × ℕ). u.1),
        length-map uses by_number,
        length-map keys number_of,
      )

-- what stands behind the first ones
abbrev dropped : (n : ℕ) → List ℕ → List ℕ
dropped zero xs = xs
dropped (suc n) [] = []
dropped (suc n) (x ∷ xs) = dropped n xs

module _ (spec : Spec) (early env : Environment) (T : Tables spec) (tables : AreTables spec T env) (accepted : IsAccepted spec early T) (names : AreNames spec early env) (needs : Needs spec T) (slots : ℕ → List Slot) (are : AreSlots spec T needs slots)
    (few_includings : length T.includings < 2 ^ 64) where
  few-both : length (computations spec) + length (all_constituents spec) ≤ 65536
  few-both = by (cases_lt 65536 (length (computations spec) + length (all_constituents spec)))
    where
      by : (65536 < length (computations spec) + length (all_constituents spec)) ⊎ (length (computations spec) + length (all_constituents spec) ≤ 65536) → length (computations spec) + length (all_constituents spec) ≤ 65536
      by (inl h) = absurd (accepted.tables.1.1.1.1.1.1.1.1.1.1.0 (fault.TooMany many.Computations) (too_many h, refl))
      by (inr h) = h

  few-computations : length (computations spec) ≤ 65536
  few-computations = let h = few-both in omega (arith, h)

  few-constituents : length T.constituents ≤ 65536
  few-constituents =
      let h = few-both in
      let l = no-more-constituents (all_constituents spec) T.constituents tables.constituents in
      omega (arith, h, l)

  message-below : (q j : ℕ) → HasMessage spec T needs q j → j < 2 ^ 64
  message-below q zero h = absurd h
  message-below q (suc j) (r, among, of, h) =
      let a = filter-short is_message r.body in
      let b = length-flat (λ (r : RuleItem). r.body) spec.rules r among in
      let c = length-append (flat_map (λ (r : RuleItem). r.body) spec.rules) (flat_map (λ (item : SymbolItem). item.body) spec.symbols) in
      let d = few-computations in
      omega (arith, a, b, c, d, h)

  abbrev text : Slot → List ℕ
  text s = slot_text spec T needs slots env s

  abbrev Has_slot : ℕ → Slot → Type 0
  Has_slot x s = HasSlot spec T needs x s

  -- the word of a written attribute, or of a chain
  written-word : (x a : ℕ) → HasSlot spec T needs x (Written a) → IsWordAt env a
  written-word x a (s, at, nonterminal, has) = attribute-word spec early env names s a has

  word-of-chain : (c : ℕ) → Contains (chains spec T needs) c → IsWordAt env c
  word-of-chain c m = chain-word spec early env names c m

  not-before : (s : Slot) → ¬ IsBefore spec T needs s s
  not-before s (inl h) = omega (arith, h)
  not-before s (inr (e, h)) = omega (arith, h)

  before-same : (s t : Slot) → s ≡ t → IsBefore spec T needs s t → ⊥
  before-same s t e h = not-before t (subst (λ s. IsBefore spec T needs s t) e h)

  -- the places of numbers among the CONSTITUENTS
  number-placed : (x n : ℕ) → HasSlot spec T needs x (Con n) → (k : Cons) × (slice_get T.constituents (place_in (λ (k : Cons). nat_eq k.number n) T.constituents) ≡ Some k) × (k.number ≡ n)
  number-placed x n (k, numbered, e, pass) = let (l, at, same) = place-passes (λ (k : Cons). nat_eq k.number n) T.constituents k numbered (eq-eqb k.number n e) in (l, at, eqb-true l.number n same)

  same-inc : (x a b : ℕ) → Has_slot x (Inc a) → Has_slot x (Inc b) → text (Inc a) ≡ text (Inc b) → a ≡ b
  same-inc x a b (ps, ea, ha) (qs, eb, hb) e =
      let la = slice_get_within T.includings a ps ea in
      let lb = slice_get_within T.includings b qs eb in
      let f = few_includings in
      let same = decimal_injective (suc a) (suc b) (omega (arith, la, f)) (omega (arith, lb, f)) (ap (dropped 4) e) in
      omega (arith, same)

  same-con : (x a b : ℕ) → Has_slot x (Con a) → Has_slot x (Con b) → text (Con a) ≡ text (Con b) → a ≡ b
  same-con x a b ha hb e =
      let (k, ek, na) = number-placed x a ha in
      let (l, el, nb) = number-placed x b hb in
      let p = place_in (λ (k : Cons). nat_eq k.number a) T.constituents in
      let q = place_in (λ (k : Cons). nat_eq k.number b) T.constituents in
      let lp = slice_get_within T.constituents p k ek in
      let lq = slice_get_within T.constituents q l el in
      let f = few-constituents in
      let same = decimal_injective (suc p) (suc q) (omega (arith, lp, f)) (omega (arith, lq, f)) (ap (dropped 4) e) in
      let place : p ≡ q = omega (arith, same) in
      sym na ∙ ap (λ (k : Cons). k.number) (same_Some k l (sym ek ∙ ap (slice_get T.constituents) place ∙ el)) ∙ nb

  same-msg : (x a b : ℕ) → Has_slot x (Msg a) → Has_slot x (Msg b) → text (Msg a) ≡ text (Msg b) → a ≡ b
  same-msg x a b (s, es, ha) (t, et, hb) e = decimal_injective a b (message-below s a ha) (message-below t b hb) (ap (dropped 4) e)

  same-front : (a b : ℕ) → Contains (chains spec T needs) a → Contains (chains spec T needs) b → text (Front a) ≡ text (Front b) → a ≡ b
  same-front a b ha hb e = one-id spec early env names a b (word-of-chain a ha) (word-of-chain b hb) (ap (dropped 7) e)

  same-behind : (a b : ℕ) → Contains (chains spec T needs) a → Contains (chains spec T needs) b → text (Behind a) ≡ text (Behind b) → a ≡ b
  same-behind a b ha hb e = one-id spec early env names a b (word-of-chain a ha) (word-of-chain b hb) (ap (dropped 8) e)

  -- the bytes of two texts differ there
  differ-at : (n c d : ℕ) (xs ys : List ℕ) → slice_get xs n ≡ Some c → slice_get ys n ≡ Some d → (c ≡ d → ⊥) → xs ≡ ys → ⊥
  differ-at n c d xs ys e f other same = other (same_Some c d (sym e ∙ ap (λ l. slice_get l n) same ∙ f))

  -- a word begins otherwise
  word-differs : (a : ℕ) → IsWordAt env a → (rest ys : List ℕ) → ys ≡ 36 ∷ rest → text_of env a ≡ ys → ⊥
  word-differs a w rest ys e same = no-dollar env a w (subst (λ l. Contains l 36) (sym (same ∙ e)) (contains-here 36 rest))

  no-twice : (x : ℕ) (s t : Slot) → Has_slot x s → Has_slot x t → text s ≡ text t → IsBefore spec T needs s t → ⊥
  no-twice x (Written a) (Written b) h g e before = before-same (Written a) (Written b) (ap Written (one-id spec early env names a b (written-word x a h) (written-word x b g) e)) before
  no-twice x (Written a) (Inc b) h g e before = word-differs a (written-word x a h) _ (text (Inc b)) refl e
  no-twice x (Written a) (Con b) h g e before = word-differs a (written-word x a h) _ (text (Con b)) refl e
  no-twice x (Written a) (Front b) h g e before = word-differs a (written-word x a h) _ (text (Front b)) refl e
  no-twice x (Written a) (Behind b) h g e before = word-differs a (written-word x a h) _ (text (Behind b)) refl e
  no-twice x (Written a) (Msg b) h g e before = word-differs a (written-word x a h) _ (text (Msg b)) refl e
  no-twice x (Written a) Out h g e before = word-differs a (written-word x a h) _ (text Out) refl e
  no-twice x (Inc a) (Written b) h g e before = word-differs b (written-word x b g) _ (text (Inc a)) refl (sym e)
  no-twice x (Con a) (Written b) h g e before = word-differs b (written-word x b g) _ (text (Con a)) refl (sym e)
  no-twice x (Front a) (Written b) h g e before = word-differs b (written-word x b g) _ (text (Front a)) refl (sym e)
  no-twice x (Behind a) (Written b) h g e before = word-differs b (written-word x b g) _ (text (Behind a)) refl (sym e)
  no-twice x (Msg a) (Written b) h g e before = word-differs b (written-word x b g) _ (text (Msg a)) refl (sym e)
  no-twice x Out (Written b) h g e before = word-differs b (written-word x b g) _ (text Out) refl (sym e)
  no-twice x (Inc a) (Inc b) h g e before = before-same (Inc a) (Inc b) (ap Inc (same-inc x a b h g e)) before
  no-twice x (Inc a) (Con b) h g e before = differ-at 1 105 99 (text (Inc a)) (text (Con b)) refl refl (λ f. absurd (omega (arith, f))) e
  no-twice x (Inc a) (Front b) h g e before = differ-at 1 105 102 (text (Inc a)) (text (Front b)) refl refl (λ f. absurd (omega (arith, f))) e
  no-twice x (Inc a) (Behind b) h g e before = differ-at 1 105 98 (text (Inc a)) (text (Behind b)) refl refl (λ f. absurd (omega (arith, f))) e
  no-twice x (Inc a) (Msg b) h g e before = differ-at 1 105 109 (text (Inc a)) (text (Msg b)) refl refl (λ f. absurd (omega (arith, f))) e
  no-twice x (Inc a) Out h g e before = differ-at 1 105 111 (text (Inc a)) (text Out) refl refl (λ f. absurd (omega (arith, f))) e
  no-twice x (Con a) (Inc b) h g e before = differ-at 1 99 105 (text (Con a)) (text (Inc b)) refl refl (λ f. absurd (omega (arith, f))) e
  no-twice x (Con a) (Con b) h g e before = before-same (Con a) (Con b) (ap Con (same-con x a b h g e)) before
  no-twice x (Con a) (Front b) h g e before = differ-at 1 99 102 (text (Con a)) (text (Front b)) refl refl (λ f. absurd (omega (arith, f))) e
  no-twice x (Con a) (Behind b) h g e before = differ-at 1 99 98 (text (Con a)) (text (Behind b)) refl refl (λ f. absurd (omega (arith, f))) e
  no-twice x (Con a) (Msg b) h g e before = differ-at 1 99 109 (text (Con a)) (text (Msg b)) refl refl (λ f. absurd (omega (arith, f))) e
  no-twice x (Con a) Out h g e before = differ-at 1 99 111 (text (Con a)) (text Out) refl refl (λ f. absurd (omega (arith, f))) e
  no-twice x (Front a) (Inc b) h g e before = differ-at 1 102 105 (text (Front a)) (text (Inc b)) refl refl (λ f. absurd (omega (arith, f))) e
  no-twice x (Front a) (Con b) h g e before = differ-at 1 102 99 (text (Front a)) (text (Con b)) refl refl (λ f. absurd (omega (arith, f))) e
  no-twice x (Front a) (Front b) h g e before = before-same (Front a) (Front b) (ap Front (same-front a b h.0 g.0 e)) before
  no-twice x (Front a) (Behind b) h g e before = differ-at 1 102 98 (text (Front a)) (text (Behind b)) refl refl (λ f. absurd (omega (arith, f))) e
  no-twice x (Front a) (Msg b) h g e before = differ-at 1 102 109 (text (Front a)) (text (Msg b)) refl refl (λ f. absurd (omega (arith, f))) e
  no-twice x (Front a) Out h g e before = differ-at 1 102 111 (text (Front a)) (text Out) refl refl (λ f. absurd (omega (arith, f))) e
  no-twice x (Behind a) (Inc b) h g e before = differ-at 1 98 105 (text (Behind a)) (text (Inc b)) refl refl (λ f. absurd (omega (arith, f))) e
  no-twice x (Behind a) (Con b) h g e before = differ-at 1 98 99 (text (Behind a)) (text (Con b)) refl refl (λ f. absurd (omega (arith, f))) e
  no-twice x (Behind a) (Front b) h g e before = differ-at 1 98 102 (text (Behind a)) (text (Front b)) refl refl (λ f. absurd (omega (arith, f))) e
  no-twice x (Behind a) (Behind b) h g e before = before-same (Behind a) (Behind b) (ap Behind (same-behind a b h.0 g.0 e)) before
  no-twice x (Behind a) (Msg b) h g e before = differ-at 1 98 109 (text (Behind a)) (text (Msg b)) refl refl (λ f. absurd (omega (arith, f))) e
  no-twice x (Behind a) Out h g e before = differ-at 1 98 111 (text (Behind a)) (text Out) refl refl (λ f. absurd (omega (arith, f))) e
  no-twice x (Msg a) (Inc b) h g e before = differ-at 1 109 105 (text (Msg a)) (text (Inc b)) refl refl (λ f. absurd (omega (arith, f))) e
  no-twice x (Msg a) (Con b) h g e before = differ-at 1 109 99 (text (Msg a)) (text (Con b)) refl refl (λ f. absurd (omega (arith, f))) e
  no-twice x (Msg a) (Front b) h g e before = differ-at 1 109 102 (text (Msg a)) (text (Front b)) refl refl (λ f. absurd (omega (arith, f))) e
  no-twice x (Msg a) (Behind b) h g e before = differ-at 1 109 98 (text (Msg a)) (text (Behind b)) refl refl (λ f. absurd (omega (arith, f))) e
  no-twice x (Msg a) (Msg b) h g e before = before-same (Msg a) (Msg b) (ap Msg (same-msg x a b h g e)) before
  no-twice x (Msg a) Out h g e before = differ-at 1 109 111 (text (Msg a)) (text Out) refl refl (λ f. absurd (omega (arith, f))) e
  no-twice x Out (Inc b) h g e before = differ-at 1 111 105 (text Out) (text (Inc b)) refl refl (λ f. absurd (omega (arith, f))) e
  no-twice x Out (Con b) h g e before = differ-at 1 111 99 (text Out) (text (Con b)) refl refl (λ f. absurd (omega (arith, f))) e
  no-twice x Out (Front b) h g e before = differ-at 1 111 102 (text Out) (text (Front b)) refl refl (λ f. absurd (omega (arith, f))) e
  no-twice x Out (Behind b) h g e before = differ-at 1 111 98 (text Out) (text (Behind b)) refl refl (λ f. absurd (omega (arith, f))) e
  no-twice x Out (Msg b) h g e before = differ-at 1 111 109 (text Out) (text (Msg b)) refl refl (λ f. absurd (omega (arith, f))) e
  no-twice x Out Out h g e before = not-before Out before

  module _ (symbols : List FlatSymbol) (flat_rules : List FlatRule) (shapes : List Shape) (root : SymId) (is : IsFlat spec T needs slots env symbols flat_rules shapes root) where
    pub attribute-names : All (λ (y : FlatSymbol). AllPairs (λ (a b : FlatAttr). a.name ≡ b.name → ⊥) y.attrs) symbols
    attribute-names = all-places (λ (y : FlatSymbol). AllPairs (λ (a b : FlatAttr). a.name ≡ b.name → ⊥) y.attrs) symbols (λ x y f.
        pairs-places (λ (a b : FlatAttr). a.name ≡ b.name → ⊥) y.attrs (λ i j a b h e g same. differ x y f i j a b h e g (ap (λ (n : StrId). n.0) same)))
      where
        differ : (x : ℕ) (y : FlatSymbol) → slice_get symbols x ≡ Some y → (i j : ℕ) (a b : FlatAttr) → i < j → slice_get y.attrs i ≡ Some a → slice_get y.attrs j ≡ Some b → a.name.0 ≡ b.name.0 → ⊥
        differ x y f i j a b h e g same =
            let (s, es, its) = zip-left (IsAttribute spec T needs slots env x) (slots x) y.attrs i a (is.attributes x y f) e in
            let (t, et, other) = zip-left (IsAttribute spec T needs slots env x) (slots x) y.attrs j b (is.attributes x y f) g in
            no-twice x s t ((are.all x s).0 (place-contains (slots x) i s es)) ((are.all x t).0 (place-contains (slots x) j t et)) (sym its.name ∙ ap (text_of env) same ∙ other.name)
            (pair-at (IsBefore spec T needs) (slots x) i j s t (are.in_order x) es et h)
