-- Along the edges of SYMBOL items a symbol reaches the classes that it inherits.
use Rattle.std.specs.Prelude.{slice_get, map, Contains, Bool, true, false, IsTrue, nat_eq, ◌↔◌, ◌&&◌, if◌then◌else◌}
use Rattle.std.specs.Global.{Vec}
use Rattle.std.proofs.Common.{◌≡◌, ℕ, suc, ◌<◌, inl, inr, List, [], ◌∷◌, length, Option, Some, None, refl, sym, ap, subst, ◌∙◌, arith, eqb-true, eq-eqb}
use Rattle.std.proofs.lemmas.Option.{none-some, same_Some, slice_get_within}
use Rattle.std.proofs.lemmas.List.Folds.{Any-from_list_any, list_any_at}
use Rattle.lido_base.specs.Tree.{contains}
use Rattle.lido_base.specs.Reach.{Reaches, source, edge}
use Rattle.lido_base.proofs.Lists.{contains-nil, contains-cons, contains-map, map-contains, place-below, place-contains}
use Rattle.lido_base.proofs.TreeLemmas.{contains-test, test-contains, both}
use Rattle.lido_syntax.specs.declared.spec.Name.{Name}
use Rattle.lido_syntax.specs.declared.spec.Spec.{Spec}
use Rattle.lido_syntax.specs.declared.spec.SymbolItem.{SymbolItem}
use Rattle.lido_syntax.specs.Production.{name_of}
use Rattle.lido_syntax.specs.Sets.{Inherits, inherits_directly, names_of}
use Rattle.least_paths.specs.Graph.{IsGraph, IsEdge, has_edge, is_in}
use Rattle.least_paths.proofs.GraphLemmas.{edge-test, test-edge}
use Rattle.symbol_attributes.specs.Inheritance.{number, numbers_of, AreNumberedIn, IsDirectEdge, AreRows, IsInheritance, is_heir, is_in_row}
use Rattle.symbol_attributes.specs.declared.inheritance.Inheritance.{Inheritance}

-- a symbol stands at its number
pub number-there : (s : ℕ) (xs : List ℕ) → Contains xs s → slice_get xs (number xs s) ≡ Some s
number-there s [] m = absurd (contains-nil s m)
number-there s (x ∷ xs) m = by (nat_eq s x) refl (number-there s xs)
  where
    by : (b : Bool) → nat_eq s x ≡ b → (Contains xs s → slice_get xs (number xs s) ≡ Some s) → slice_get (x ∷ xs) (if b then 0 else suc (number xs s)) ≡ Some s
    by true e later = ap Some (sym (eqb-true s x e))
    by false e later = elim (contains-cons x s xs m) [
      | inl same ↦ absurd (let h = eq-eqb s x (sym same) in cc)
      | inr there ↦ later there
    ]

-- at a symbol's number no other one stands
number-only : (s t : ℕ) (xs : List ℕ) → slice_get xs (number xs s) ≡ Some t → s ≡ t
number-only s t [] e = absurd (none-some t e)
number-only s t (x ∷ xs) e = by (nat_eq s x) refl e (number-only s t xs)
  where
    by : (b : Bool) → nat_eq s x ≡ b → slice_get (x ∷ xs) (if b then 0 else suc (number xs s)) ≡ Some t → (slice_get xs (number xs s) ≡ Some t → s ≡ t) → s ≡ t
    by true f e later = eqb-true s x f ∙ same_Some x t e
    by false f e later = later e

one-symbol : (xs : List ℕ) (s t : ℕ) → Contains xs t → number xs s ≡ number xs t → s ≡ t
one-symbol xs s t m e = number-only s t xs (ap (λ n. slice_get xs n) e ∙ number-there t xs m)

number-below : (xs : List ℕ) (s : ℕ) → Contains xs s → number xs s < length xs
number-below xs s m = slice_get_within xs (number xs s) s (number-there s xs m)

and-true : (a b : Bool) → IsTrue a → IsTrue b → IsTrue (a && b)
and-true true b h k = k
and-true false b h k = h

pub numbers-below : (names : List ℕ) (xs : List Name) → ((x : Name) → Contains xs x → Contains names (name_of x)) → (y : ℕ) → Contains (numbers_of names xs) y → y < length names
numbers-below names xs known y m =
    let (x, among, e) = contains-map (λ (x : Name). number names (name_of x)) xs y m in
    subst (λ n. n < length names) e (number-below names (name_of x) (known x among))

module _ (spec : Spec) (names : List ℕ) (known : AreNumberedIn names spec.symbols) (graph : List (List ℕ))
    (count : length graph ≡ length names) (edges : (u v : ℕ) → IsEdge graph u v ↔ IsDirectEdge names spec.symbols u v) where
  pub is-graph : IsGraph graph
  is-graph u v m =
      let (item, among, (from, to)) = (edges u v).0 m in
      let l = numbers-below names item.inherits (λ x k. known item x among (inr k)) v to in
      omega (arith, count, l)

  -- the number is that of one of these names
  named : (xs : List Name) (s : ℕ) → ((x : Name) → Contains xs x → Contains names (name_of x)) → Contains (numbers_of names xs) (number names s) → IsTrue (contains s (map name_of xs))
  named xs s there m =
      let (x, among, e) = contains-map (λ (x : Name). number names (name_of x)) xs (number names s) m in
      let same : s ≡ name_of x = one-symbol names s (name_of x) (there x among) (sym e) in
      test-contains s (map name_of xs) (subst (λ z. Contains (map name_of xs) z) (sym same) (map-contains name_of xs x among))

  numbered : (xs : List Name) (s : ℕ) → IsTrue (contains s (map name_of xs)) → Contains (numbers_of names xs) (number names s)
  numbered xs s h =
      let (x, among, e) = contains-map name_of xs s (contains-test s (map name_of xs) h) in
      subst (λ z. Contains (numbers_of names xs) (number names z)) e (map-contains (λ (x : Name). number names (name_of x)) xs x among)

  abbrev is_of : ℕ → ℕ → SymbolItem → Bool
  is_of s class item = contains s (names_of item) && contains class (map name_of item.inherits)

  edge-direct : (s v : ℕ) → IsTrue (has_edge graph (number names s) v) → (c : ℕ) × Contains names c × (number names c ≡ v) × IsTrue (inherits_directly spec s c)
  edge-direct s v h =
      let (item, among, (from, to)) = (edges (number names s) v).0 (edge-test graph (number names s) v h) in
      let (y, m, e) = contains-map (λ (x : Name). number names (name_of x)) item.inherits v to in
      let own = named item.names s (λ x k. known item x among (inl k)) from in
      let class = test-contains (name_of y) (map name_of item.inherits) (map-contains name_of item.inherits y m) in
      let (k, below, at) = among in (
        name_of y,
        known item y among (inr m),
        e,
        list_any_at (is_of s (name_of y)) spec.symbols k item below
            (subst (λ (i : SymbolItem). is_of s (name_of y) i ≡ true) (sym at) (and-true _ _ own class)),
      )

  pub direct-edge : (s c : ℕ) → IsTrue (inherits_directly spec s c) → Contains names c × IsTrue (has_edge graph (number names s) (number names c))
  direct-edge s c h =
      let (item, among, is) = found in
      let (own, class) = both (contains s (names_of item)) (contains c (map name_of item.inherits)) is in
      let (y, m, e) = contains-map name_of item.inherits c (contains-test c (map name_of item.inherits) class) in (
        subst (λ z. Contains names z) e (known item y among (inr m)),
        test-edge graph (number names s) (number names c) ((edges (number names s) (number names c)).1 (item, among, (numbered item.names s own, numbered item.inherits c class))),
      )
    where
      found : (item : SymbolItem) × Contains spec.symbols item × IsTrue (is_of s c item)
      found = let (k, item, below, at, is) = Any-from_list_any (is_of s c) spec.symbols h in (item, (k, below, at), is)

  to-inherits : (class : ℕ) → Contains names class → (v : ℕ) → Reaches (λ z. has_edge graph z (number names class)) (has_edge graph) v → (s : ℕ) → number names s ≡ v → Inherits spec s class
  to-inherits class there v (source h) s e =
      let (c, m, f, k) = edge-direct s (number names class) (subst (λ z. IsTrue (has_edge graph z (number names class))) (sym e) h) in
      source (subst (λ d. IsTrue (inherits_directly spec s d)) (one-symbol names c class there f) k)
  to-inherits class there v (edge {c = z} h later) s e =
      let (c, m, f, k) = edge-direct s z (subst (λ u. IsTrue (has_edge graph u z)) (sym e) h) in
      edge k (to-inherits class there z later c f)

  from-inherits : (class s : ℕ) → Inherits spec s class → Contains names class × Reaches (λ z. has_edge graph z (number names class)) (has_edge graph) (number names s)
  from-inherits class s (source h) = let (m, k) = direct-edge s class h in (m, source k)
  from-inherits class s (edge {c = c} h later) =
      let (m, k) = direct-edge s c h in
      let (there, reach) = from-inherits class c later in
      (there, edge k reach)

  pub is-inheritance : (inheritance : Inheritance) → AreRows graph (length graph) inheritance.heirs.items → IsInheritance spec names inheritance
  is-inheritance inheritance rows s class = (to (slice_get inheritance.heirs.items (number names class)) refl, from)
    where
      x : ℕ
      x = number names s

      y : ℕ
      y = number names class

      is-in : (row : Vec Bool) → slice_get inheritance.heirs.items y ≡ Some row → is_heir inheritance x y ≡ is_in row.items x
      is-in row e = ap (λ o. is_in_row o x) e

      class-known : y < length names → Contains names class
      class-known l = let (t, e) = place-below names y l in
          subst (λ z. Contains names z) (sym (number-only class t names e)) (place-contains names y t e)

      to : (o : Option (Vec Bool)) → slice_get inheritance.heirs.items y ≡ o → IsTrue (is_heir inheritance x y) → Inherits spec s class
      to None e h = absurd (let no = ap (λ o. is_in_row o x) e in cc)
      to (Some row) e h =
          let w = slice_get_within inheritance.heirs.items y row e in
          let n = rows.count in
          to-inherits class (class-known (omega (arith, w, n, count))) x ((rows.each y row e x).0 (sym (is-in row e) ∙ h)) s refl

      from : Inherits spec s class → IsTrue (is_heir inheritance x y)
      from h =
          let (there, reach) = from-inherits class s h in
          let l = number-below names class there in
          let n = rows.count in
          let (row, e) = place-below inheritance.heirs.items y (omega (arith, l, n, count)) in
          is-in row e ∙ (rows.each y row e x).1 reach
