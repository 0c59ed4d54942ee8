-- The classes that items of a symbol name behind INHERITS, by their numbers.
use Rattle.std.specs.Prelude.{Contains, IsTrue, nat_eq, map, slice_get, option_map, ◌&&◌, ◌||◌}
use Rattle.std.specs.List.{list_any}
use Rattle.std.proofs.Common.{◌≡◌, ℕ, zero, suc, ◌+◌, ◌<◌, ◌⊎◌, inl, inr, Bool, true, false, List, [], ◌∷◌, ◌++◌, length, get_or, Some, refl, ap, sym, subst, ◌∙◌, arith, true≢false, eqb-true, eq-eqb}
use Rattle.std.proofs.lemmas.List.Elements.{Contains-append_left, Contains-append_right, Contains-append_cases, Contains-get_or}
use Rattle.std.proofs.lemmas.List.Quantifiers.{all_pairs_push}
use Rattle.std.proofs.lemmas.List.Folds.{Any-from_list_any, list_any_at}
use Rattle.std.proofs.lemmas.Option.{none-some, same_Some, slice_get_within}
use Rattle.lido_base.specs.Tree.{contains}
use Rattle.lido_base.specs.Environment.{Environment}
use Rattle.lido_base.specs.declared.ids.SymId.{SymId}
use Rattle.lido_base.proofs.Lists.{contains-nil, contains-cons, contains-here, contains-map}
use Rattle.lido_base.proofs.TreeLemmas.{contains-test, test-contains, both}
use Rattle.lido_syntax.specs.declared.spec.Spec.{Spec}
use Rattle.lido_syntax.specs.declared.spec.Name.{Name}
use Rattle.lido_syntax.specs.declared.spec.SymbolItem.{SymbolItem}
use Rattle.lido_syntax.specs.Production.{name_of}
use Rattle.lido_syntax.specs.Sets.{names_of, inherits_directly}
use Rattle.kind_clashes.specs.declared.names.Names.{Names}
use Rattle.kind_clashes.specs.Least.{Among}
use Rattle.kind_clashes.specs.Names.{has, IsSetOf, HasMore}
use Rattle.kind_clashes.proofs.NamesLemmas.{more-same}
use Rattle.rule_tables.proofs.CellLemmas.{different-within}
use Rattle.rule_tables.proofs.LimitLemmas.{different-all}
use Rattle.rule_tables.specs.DirectClasses.{inherited_by, IsHandedBy, AreNumbersOf}
use Rattle.rule_tables.specs.TablesOf.{AreClassesOf}
use Rattle.rule_tables.proofs.SlotLemmas.{number-at_place}

pub any-name : (s : ℕ) (names : List Name) → list_any (λ (x : Name). nat_eq s (name_of x)) names ≡ contains s (map name_of names)
any-name s [] = refl
any-name s (x ∷ names) = ap (λ b. nat_eq s (name_of x) || b) (any-name s names)

-- ---- names that are added

pub more-ids : {a b : Names} (ids : List ℕ) → HasMore (Among (λ (x : ℕ) class. x ≡ class) ids) a b → HasMore (λ class. Contains ids class) a b
more-ids ids more = more-same
    (λ class h. subst (Contains ids) h.is h.among)
    (λ class h. record { item = class; among = h; is = refl }) more

pub more-handed : {a b : Names} (s : ℕ) (item : SymbolItem) (ids : List ℕ) → ids ≡ inherited_by item → contains s (names_of item) ≡ true → HasMore (λ class. Contains ids class) a b → HasMore (IsHandedBy s item) a b
more-handed s item ids e about more = more-same
    (λ class h. (about, different-within (map name_of item.inherits) class (subst (λ l. Contains l class) e h)))
    (λ class h. subst (λ l. Contains l class) (sym e) (different-all (map name_of item.inherits) class h.1)) more

pub mapped-at : {X Y : Type 0} (f : X → Y) (xs : List X) (ys : List Y) (i : ℕ) (x : X) (y : Y) → ys ≡ map f xs → slice_get xs i ≡ Some x → slice_get ys i ≡ Some y → y ≡ f x
mapped-at f [] ys i x y e got is = absurd (none-some x got)
mapped-at f (z ∷ xs) ys zero x y e got is = same_Some y (f x) (sym is ∙ ap (λ l. slice_get l 0) e ∙ ap (option_map f) got)
mapped-at f (z ∷ xs) ys (suc i) x y e got is = mapped-at f xs (map f xs) i x y refl got (sym (ap (λ l. slice_get l (suc i)) e) ∙ is)

-- ---- numbers, one after another

pub numbers-none : (symbols : List ℕ) (classes : Names) → AreNumbersOf symbols classes 0 []
numbers-none symbols classes = record {
  each = λ id m. absurd (contains-nil id m);
  all = λ k c h. absurd (omega (arith, h));
  ascending = λ i j d h below. absurd (omega (arith, below));
}

module _ (symbols : List ℕ) (classes : Names) (i x : ℕ) (at : slice_get symbols i ≡ Some x) (ids : List SymId) (before : AreNumbersOf symbols classes i ids) where
  pub numbers-past : has classes x ≡ false → AreNumbersOf symbols classes (i + 1) ids
  numbers-past out = record {
    each = λ id m. (let b = before.each id m in let l = b.0 in (omega (arith, l), b.1));
    all = λ k c h e is. by k c h e is;
    ascending = before.ascending;
  }
    where
      here : (k c : ℕ) → k ≡ i → slice_get symbols k ≡ Some c → IsTrue (has classes c) → ⊥
      here k c same e is =
          let one : x ≡ c = same_Some x c (sym at ∙ ap (slice_get symbols) (sym same) ∙ e) in
          true≢false (sym is ∙ ap (has classes) (sym one) ∙ out)

      by : (k c : ℕ) → k < i + 1 → slice_get symbols k ≡ Some c → IsTrue (has classes c) → Contains ids (record { 0 = k })
      by k c h e is = before.all k c (let not : k ≡ i → ⊥ = λ same. here k c same e is in omega (arith, h, not)) e is

  pub numbers-more : has classes x ≡ true → AreNumbersOf symbols classes (i + 1) (ids ++ (record { 0 = i }) ∷ [])
  numbers-more is = record {
    each = λ id m. each id (Contains-append_cases ids (new ∷ []) id m);
    all = all;
    ascending = all_pairs_push (λ (y z : SymId). y.0 < z.0) ids new before.ascending (λ k d h. (before.each (get_or ids k d) (Contains-get_or ids k d h)).0);
  }
    where
      new : SymId
      new = record { 0 = i }

      only : (id : SymId) → (new ≡ id) ⊎ Contains [] id → new ≡ id
      only id (inl e) = e
      only id (inr n) = absurd (contains-nil id n)

      each : (id : SymId) → Contains ids id ⊎ Contains (new ∷ []) id → (id.0 < i + 1) × ((c : ℕ) × (slice_get symbols id.0 ≡ Some c) × IsTrue (has classes c))
      each id (inl m) = let b = before.each id m in let l = b.0 in (omega (arith, l), b.1)
      each id (inr m) = subst (λ (y : SymId). (y.0 < i + 1) × ((c : ℕ) × (slice_get symbols y.0 ≡ Some c) × IsTrue (has classes c))) (only id (contains-cons new id [] m)) (omega arith, (x, at, is))

      all : (k c : ℕ) → k < i + 1 → slice_get symbols k ≡ Some c → IsTrue (has classes c) → Contains (ids ++ new ∷ []) (record { 0 = k })
      all k c h e there = by (nat_eq k i) refl
        where
          by : (b : Bool) → nat_eq k i ≡ b → Contains (ids ++ new ∷ []) (record { 0 = k })
          by true f = subst (λ n. Contains (ids ++ new ∷ []) (record { 0 = n })) (sym (eqb-true k i f)) (Contains-append_right ids (new ∷ []) new (contains-here new []))
          by false f = Contains-append_left ids (new ∷ []) (record { 0 = k })
              (before.all k c (let not : k ≡ i → ⊥ = λ same. (let g = eq-eqb k i same in true≢false (sym g ∙ f)) in omega (arith, h, not)) e there)

-- ---- the classes of a symbol

module _ (spec : Spec) (env : Environment) (symbols : List ℕ) (s : ℕ)
    (numbered : (item : SymbolItem) (x : Name) → Contains spec.symbols item → Contains item.inherits x → Contains symbols (name_of x)) where
  abbrev is_of : ℕ → SymbolItem → Bool
  is_of class item = contains s (names_of item) && contains class (map name_of item.inherits)

  and-true : (a b : Bool) → IsTrue a → IsTrue b → IsTrue (a && b)
  and-true true b h k = k
  and-true false b h k = h

  handed : (class : ℕ) → Among (IsHandedBy s) spec.symbols class → inherits_directly spec s class ≡ true
  handed class h =
      let (k, below, at) = h.among in
      list_any_at (is_of class) spec.symbols k h.item below
      (subst (λ (i : SymbolItem). is_of class i ≡ true) (sym at) (and-true _ _ h.is.0 (test-contains class (map name_of h.item.inherits) h.is.1)))

  to-handed : (class : ℕ) → inherits_directly spec s class ≡ true → Among (IsHandedBy s) spec.symbols class
  to-handed class h =
      let (k, item, below, at, is) = Any-from_list_any (is_of class) spec.symbols h in
      let (own, other) = both (contains s (names_of item)) (contains class (map name_of item.inherits)) is in
      record { item = item; among = (k, below, at); is = (own, contains-test class (map name_of item.inherits) other) }

  there : (class : ℕ) → Among (IsHandedBy s) spec.symbols class → Contains symbols class
  there class h = let (y, m, e) = contains-map name_of h.item.inherits class h.is.1 in subst (λ z. Contains symbols z) e (numbered h.item y h.among m)

  pub are-classes : (classes : Names) (ids : List SymId) → IsSetOf (Among (IsHandedBy s) spec.symbols) classes → AreNumbersOf symbols classes (length symbols) ids
      → AreClassesOf spec env symbols s ids
  are-classes classes ids set numbers = record {
    each = λ id m. (let (below, (c, e, is)) = numbers.each id m in (c, e, handed c (set.only c is)));
    all = λ c h. (let among = to-handed c h in
        let at = number-at_place c symbols (there c among) in
        numbers.all _ c (slice_get_within symbols _ c at) at (set.all c among));
    once = λ i j d h below same. (let l = numbers.ascending i j d h below in let e = ap (λ (x : SymId). x.0) same in absurd (omega (arith, l, e)));
  }
