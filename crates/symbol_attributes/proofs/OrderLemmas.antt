-- The attributes of a symbol in the order of their names, which are numbered by their first places.
use Rattle.std.specs.Prelude.{slice_get, Contains, AllPairs, IsTrue, nat_eq, map, flat_map, option_to_list}
use Rattle.std.specs.List.{AllZip}
use Rattle.std.proofs.Common.{◌≡◌, ℕ, zero, suc, ◌+◌, ◌<◌, ◌≤◌, ◌⊎◌, inl, inr, List, [], ◌∷◌, ◌++◌, length, take, get_or, Option, Some, None, refl, sym, ap, subst, ◌∙◌, arith, eqb-true, eq-eqb}
use Rattle.std.proofs.lemmas.Bool.{cases_lt}
use Rattle.std.proofs.lemmas.List.{append-nil, take_more}
use Rattle.std.proofs.lemmas.Slice.Zip.{all_zipped_more}
use Rattle.std.proofs.lemmas.List.Elements.{Contains-append_left, Contains-append_right, Contains-append_cases, Contains-get_or}
use Rattle.std.proofs.lemmas.List.Quantifiers.{all_pairs_push}
use Rattle.std.proofs.lemmas.Option.{same_Some, slice_get_within, slice_get-get_or}
use Rattle.lido_base.proofs.Lists.{contains-nil, contains-cons, contains-here, contains-place, contains-map, map-contains, flat-contains}
use Rattle.lido_syntax.specs.declared.spec.Spec.{Spec}
use Rattle.lido_syntax.specs.declared.spec.Name.{Name}
use Rattle.lido_syntax.specs.declared.spec.Decl.{Decl}
use Rattle.lido_syntax.specs.declared.spec.Pair.{Pair}
use Rattle.lido_syntax.specs.declared.spec.Comp.{Comp}
use Rattle.lido_syntax.specs.declared.spec.RuleItem.{RuleItem}
use Rattle.lido_syntax.specs.declared.spec.SymbolItem.{SymbolItem}
use Rattle.lido_syntax.specs.declared.spec.Target.{Target}
use Rattle.lido_syntax.specs.declared.spec.Target.TheVariants as target
use Rattle.lido_syntax.specs.declared.spec.Place.{Place}
use Rattle.lido_syntax.specs.declared.spec.Expr.{Expr, Int, Str, Bool as Truth, Terminal, Read, Including, Constituents, Call'}
use Rattle.lido_syntax.specs.Production.{name_of}
use Rattle.lido_syntax.specs.Parts.{leaves_of}
use Rattle.lido_syntax.specs.Attributes.{Use, use_of_pair, uses_of_part, uses, target_uses, InText, IsUse, IsNamed, declared, by_name, in_body, Has}
use Rattle.lido_symbols.specs.Numbers.{AreNumbered, place_in}
use Rattle.lido_symbols.specs.Uses.{computations, attribute_uses, attributes_in, attributes_of_target, declared_names, with_place}
use Rattle.flat_grammar.specs.declared.flat.FlatAttr.{FlatAttr}
use Rattle.symbol_attributes.specs.Written.{IsWrittenAttribute, AreAttributesOf, IsAttributeAt}
use Rattle.symbol_attributes.proofs.InheritanceLemmas.{number-there}
use Rattle.symbol_attributes.proofs.UsesLemmas.{use-found}

-- what is named at a place is named as an attribute
target-used : (t : Target) (p : Place) (b : Name) → Contains (target_uses t) (p, b) → Contains (attributes_of_target t) b
target-used (target.Attr q y) p b m = elim (contains-cons (q, y) (p, b) [] m) [
  | inl e ↦ subst (λ z. Contains (y ∷ []) z) (ap (λ (u : Use). u.1) e) (contains-here y [])
  | inr n ↦ absurd (contains-nil {X = Use} (p, b) n)
]
target-used (target.Start y) p b m = absurd (contains-nil {X = Use} (p, b) m)
target-used target.Out p b m = absurd (contains-nil {X = Use} (p, b) m)
target-used (target.Message v c) p b m = absurd (contains-nil {X = Use} (p, b) m)

pairs-used : (pairs : List Pair) (p : Place) (b : Name) → Contains (map use_of_pair pairs) (p, b) → Contains (map (λ (q : Pair). q.attr) pairs) b
pairs-used pairs p b m =
    let (q, mq, e) = contains-map use_of_pair pairs (p, b) m in
    subst (λ z. Contains (map (λ (q : Pair). q.attr) pairs) z) (ap (λ (u : Use). u.1) e) (map-contains (λ (q : Pair). q.attr) pairs q mq)

leaf-used : (e : Expr) (p : Place) (b : Name) → Contains (uses_of_part e) (p, b) → Contains (attributes_in e) b
leaf-used (Int at z) p b m = absurd (contains-nil {X = Use} (p, b) m)
leaf-used (Str at t) p b m = absurd (contains-nil {X = Use} (p, b) m)
leaf-used (Truth at t) p b m = absurd (contains-nil {X = Use} (p, b) m)
leaf-used (Terminal y i) p b m = absurd (contains-nil {X = Use} (p, b) m)
leaf-used (Read at q y) p b m = elim (contains-cons (q, y) (p, b) [] m) [
  | inl e ↦ subst (λ z. Contains (y ∷ []) z) (ap (λ (u : Use). u.1) e) (contains-here y [])
  | inr n ↦ absurd (contains-nil {X = Use} (p, b) n)
]
leaf-used (Including at pairs) p b m = pairs-used pairs p b m
leaf-used (Constituents k) p b m = pairs-used k.pairs p b m
leaf-used (Call' f shape args) p b m = absurd (contains-nil {X = Use} (p, b) m)

abbrev names_in : Comp → List Name
names_in c = attributes_of_target c.target ++ flat_map attributes_in (leaves_of c)

comp-used : (c : Comp) (p : Place) (b : Name) → Contains (uses c) (p, b) → Contains (names_in c) b
comp-used c p b m = elim (use-found c (p, b) m) [
  | inl t ↦ Contains-append_left (attributes_of_target c.target) (flat_map attributes_in (leaves_of c)) b (target-used c.target p b t)
  | inr (leaf, ml, n) ↦ Contains-append_right (attributes_of_target c.target) (flat_map attributes_in (leaves_of c)) b
      (flat-contains attributes_in (leaves_of c) leaf b ml (leaf-used leaf p b n))
]

module _ (spec : Spec) where
  in-text : (c : Comp) → InText spec c → Contains (computations spec) c
  in-text c (inl (r, mr, mc)) = Contains-append_left (flat_map (λ (r : RuleItem). r.body) spec.rules) (flat_map (λ (item : SymbolItem). item.body) spec.symbols) c
      (flat-contains (λ (r : RuleItem). r.body) spec.rules r c mr mc)
  in-text c (inr (s, (item, mi, own, mc))) = Contains-append_right (flat_map (λ (r : RuleItem). r.body) spec.rules) (flat_map (λ (item : SymbolItem). item.body) spec.symbols) c
      (flat-contains (λ (item : SymbolItem). item.body) spec.symbols item c mi mc)

  abbrev all_used : List Name
  all_used = declared_names spec ++ flat_map names_in (computations spec)

  used-at : (b : Name) (a : ℕ) → name_of b ≡ a → Contains all_used b → (at : ℕ) × Contains (attribute_uses spec) (at, a)
  used-at b a e m = (b.at, subst (λ z. Contains (attribute_uses spec) (b.at, z)) e (map-contains with_place all_used b m))

  use-used : (c : Comp) (p : Place) (a : ℕ) → InText spec c → IsUse spec c p a → (at : ℕ) × Contains (attribute_uses spec) (at, a)
  use-used c p a there (b, mu, eb, free) = used-at b a eb (Contains-append_right (declared_names spec) (flat_map names_in (computations spec)) b
      (flat-contains names_in (computations spec) c b (in-text c there) (comp-used c p b mu)))

  named-used : (s a : ℕ) → IsNamed spec s a → (at : ℕ) × Contains (attribute_uses spec) (at, a)
  named-used s a (declared d (item, mi, own, md, e)) =
      let decls : List Decl = flat_map (λ (item : SymbolItem). item.decls) spec.symbols in
      used-at d.attr a e (Contains-append_left (declared_names spec) (flat_map names_in (computations spec)) d.attr
      (map-contains (λ (d : Decl). d.attr) (spec.attrs ++ decls) d (Contains-append_right spec.attrs decls d (flat-contains (λ (item : SymbolItem). item.decls) spec.symbols item d mi md))))
  named-used s a (by_name c x i there used e) = use-used c _ a there used
  named-used s a (in_body c p there used own) = use-used c p a (inr (s, there)) used

  has-used : (s a : ℕ) → Has spec s a → (at : ℕ) × Contains (attribute_uses spec) (at, a)
  has-used s a (inl n) = named-used s a n
  has-used s a (inr (class, is, n)) = named-used class a n

-- of l each use stands behind one of k
abbrev IsBefore : List (ℕ × ℕ) → ℕ → ℕ → Type 0
IsBefore used k l = (at : ℕ) (j : ℕ) → Contains used (at, j) → IsTrue (nat_eq j l) → (first : ℕ) × (i : ℕ) × Contains used (first, i) × IsTrue (nat_eq i k) × (first < at)

-- two names aren't each in front of the other
not-both : (used : List (ℕ × ℕ)) (a b : ℕ) → IsBefore used a b → IsBefore used b a → (n at : ℕ) → at < n → Contains used (at, b) → ⊥
not-both used a b before behind zero at l m = absurd (omega arith)
not-both used a b before behind (suc n) at l m =
    let (f, i, mi, ei, li) = before at b m (eq-eqb b b refl) in
    let (g, j, mj, ej, lj) = behind f i mi ei in
    not-both used a b before behind n g (omega arith) (subst (λ z. Contains used (g, z)) (eqb-true j b ej) mj)

module _ (used : List (ℕ × ℕ)) (keys : List ℕ) (numbered : AreNumbered nat_eq used keys) where
  read-at : (i a d : ℕ) → slice_get keys i ≡ Some a → get_or keys i d ≡ a
  read-at i a d e = same_Some _ _ (sym (slice_get-get_or keys i d (slice_get_within keys i a e)) ∙ e)

  pub is-before : (i j a b : ℕ) → i < j → slice_get keys i ≡ Some a → slice_get keys j ≡ Some b → IsBefore used a b
  is-before i j a b l ea eb = subst (λ z. IsBefore used a z) (read-at j b 0 eb) (subst (λ z. IsBefore used z (get_or keys j 0)) (read-at i a 0 ea) (numbered.by_place i j 0 l (slice_get_within keys j b eb)))

  used-key : (at a : ℕ) → Contains used (at, a) → Contains keys a
  used-key at a m = let (l, ml, e) = numbered.all at a m in subst (λ z. Contains keys z) (sym (eqb-true a l e)) ml

  pub places-ascend : (a b at first : ℕ) → Contains used (first, a) → Contains used (at, b) → IsBefore used a b → place_in (nat_eq a) keys < place_in (nat_eq b) keys
  places-ascend a b at first ma mb before = by (cases_lt x y)
    where
      x : ℕ
      x = place_in (nat_eq a) keys

      y : ℕ
      y = place_in (nat_eq b) keys

      there : slice_get keys x ≡ Some a
      there = number-there a keys (used-key first a ma)

      here : slice_get keys y ≡ Some b
      here = number-there b keys (used-key at b mb)

      apart : x ≡ y → ⊥
      apart e = let same : a ≡ b = same_Some _ _ (sym there ∙ ap (λ n. slice_get keys n) e ∙ here) in
          let own = subst (λ z. IsBefore used z b) same before in
          not-both used b b own own (suc at) at (omega arith) mb

      by : (x < y) ⊎ (y ≤ x) → x < y
      by (inl l) = l
      by (inr l) = absurd (not-both used a b before (is-before y x b a (omega (arith, apart)) here there) (suc at) at (omega arith) mb)

module _ (spec : Spec) (s : ℕ) (names : List ℕ) where
  -- the attributes of the first names
  pub record AreFirst (i : ℕ) (attrs : List FlatAttr) : Type 0 where
    pub each : (x : FlatAttr) → Contains attrs x → IsWrittenAttribute spec s x × ((k : ℕ) × (k < i) × (slice_get names k ≡ Some x.name.0))
    pub all : (k a : ℕ) → k < i → slice_get names k ≡ Some a → Has spec s a → (x : FlatAttr) × Contains attrs x × (x.name.0 ≡ a)
    pub in_order : AllPairs (λ (x y : FlatAttr). (k : ℕ) × (l : ℕ) × (k < l) × (slice_get names k ≡ Some x.name.0) × (slice_get names l ≡ Some y.name.0)) attrs

  pub first-none : AreFirst 0 []
  first-none = record {
    each = λ x m. absurd (contains-nil x m);
    all = λ k a l. absurd (omega (arith, l));
    in_order = λ i j d l below. absurd (omega (arith, below));
  }

  pub first-next : (i a : ℕ) (o : Option FlatAttr) (attrs more : List FlatAttr) → slice_get names i ≡ Some a → IsAttributeAt spec s a o → more ≡ attrs ++ option_to_list o → AreFirst i attrs → AreFirst (i + 1) more
  first-next i a None attrs more at none e are = subst (AreFirst (i + 1)) (sym (e ∙ append-nil attrs)) (record {
    each = λ x m. let (w, (k, l, g)) = are.each x m in (w, (k, (omega (arith, l)), g));
    all = λ k b l g has. elim (cases_lt k i) [
      | inl lt ↦ are.all k b lt g has
      | inr le ↦ (let same : k ≡ i = omega (arith, l, le) in
          absurd (none (subst (λ z. Has spec s z) (same_Some _ _ (sym g ∙ ap (λ n. slice_get names n) same ∙ at)) has)))
    ];
    in_order = are.in_order;
  })
  first-next i a (Some x) attrs more at (w, ex) e are = subst (AreFirst (i + 1)) (sym e) (record {
    each = λ y m. elim (Contains-append_cases attrs (x ∷ []) y m) [
      | inl old ↦ (let (v, (k, l, g)) = are.each y old in (v, (k, (omega (arith, l)), g)))
      | inr new ↦ elim (contains-cons x y [] new) [
        | inl same ↦ subst (λ z. IsWrittenAttribute spec s z × ((k : ℕ) × (k < i + 1) × (slice_get names k ≡ Some z.name.0))) same (w, (i, (omega arith), at ∙ ap Some (sym ex)))
        | inr none ↦ absurd (contains-nil y none)
      ]
    ];
    all = λ k b l g has. elim (cases_lt k i) [
      | inl lt ↦ (let (y, m, ey) = are.all k b lt g has in (y, Contains-append_left attrs (x ∷ []) y m, ey))
      | inr le ↦ (let same : k ≡ i = omega (arith, l, le) in
          (x, Contains-append_right attrs (x ∷ []) x (contains-here x []), ex ∙ sym (same_Some _ _ (sym g ∙ ap (λ n. slice_get names n) same ∙ at))))
    ];
    in_order = all_pairs_push (λ (x y : FlatAttr). (k : ℕ) × (l : ℕ) × (k < l) × (slice_get names k ≡ Some x.name.0) × (slice_get names l ≡ Some y.name.0)) attrs x are.in_order
        (λ k d below. let (v, (n, l, g)) = are.each (get_or attrs k d) (Contains-get_or attrs k d below) in (n, i, l, g, at ∙ ap Some (sym ex)));
  })

  pub are-attributes : (i : ℕ) (attrs : List FlatAttr) → length names ≤ i → AreNumbered nat_eq (attribute_uses spec) names → AreFirst i attrs → AreAttributesOf spec s attrs
  are-attributes i attrs whole numbered are = record {
    each = λ k d below. (are.each (get_or attrs k d) (Contains-get_or attrs k d below)).0;
    all = λ a has.
        let (at, m) = has-used spec s a has in
        let (l, ml, e) = numbered.all at a m in
        let (k, g) = contains-place names l ml in
        let below = slice_get_within names k l g in
        are.all k a (omega (arith, below, whole)) (g ∙ ap Some (sym (eqb-true a l e))) has;
    by_place = λ keys others j k d l below.
        let x = get_or attrs j d in
        let y = get_or attrs k d in
        let (m, n, lt, ex, ey) = are.in_order j k d l below in
        let (first, mx) = has-used spec s x.name.0 (are.each x (Contains-get_or attrs j d (omega arith))).0.of_symbol in
        let (at, my) = has-used spec s y.name.0 (are.each y (Contains-get_or attrs k d below)).0.of_symbol in
        places-ascend (attribute_uses spec) keys others x.name.0 y.name.0 at first mx my (is-before (attribute_uses spec) names numbered m n x.name.0 y.name.0 lt ex ey);
  }

-- one more of each of two lists
pub lists-more : {A B : Type 0} (R : A → B → Type 0) (xs : List A) (i : ℕ) (x : A) (ys more : List B) (y : B) → slice_get xs i ≡ Some x → more ≡ ys ++ y ∷ [] → AllZip R (take i xs) ys → R x y → AllZip R (take (i + 1) xs) more
lists-more {A} {B} R xs i x ys more y at e zip one = subst (λ (zs : List B). AllZip R (take (i + 1) xs) zs) (sym e) (subst (λ (zs : List A). AllZip R zs (ys ++ y ∷ [])) (sym whole) (all_zipped_more R (take i xs) ys x y zip one))
  where
    below : i < length xs
    below = slice_get_within xs i x at

    whole : take (i + 1) xs ≡ take i xs ++ x ∷ []
    whole = take_more xs i x below ∙ ap (λ z. take i xs ++ z ∷ []) (same_Some _ _ (sym (slice_get-get_or xs i x below) ∙ at))
