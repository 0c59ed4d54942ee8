-- The INCLUDINGs of a text, computation by computation.
use Rattle.std.specs.Prelude.{Option, Some, None, filter_map, flat_map, nat_eq, AllPairs, Contains, ◌≢◌, option_map}
use Rattle.std.specs.List.{cons_option}
use Rattle.std.specs.List.Sorted.{IsPermutation, IsNonDecreasingBy}
use Rattle.std.proofs.Common.{◌≡◌, ◌∙◌, ◌<◌, ℕ, Bool, true, false, List, [], ◌∷◌, ◌++◌, length, map, get_or, refl, ap, sym, subst, arith, eqb-true, eq-eqb}
use Rattle.std.proofs.lemmas.List.{get_or-map, length-map, map-append}
use Rattle.std.proofs.lemmas.Simd.{map-map}
use Rattle.std.proofs.lemmas.List.Elements.{filter_map-append}
use Rattle.std.proofs.lemmas.List.Sorted.{IsPermutation-map, IsPermutation-sym, Contains-permutation, length_permutation}
use Rattle.std.proofs.lemmas.Map.Keys.{IsDistinct-IsPermutation}
use Rattle.std.proofs.lemmas.Map.Made.{AllPairs-from_IsDistinct, IsDistinct-from_AllPairs}
use Rattle.std.proofs.lemmas.Bool.Decides.{Decides-eqb}
use Rattle.std.proofs.lemmas.Option.{none-some, same_Some}
use Rattle.lido_base.proofs.Lists.{contains-map, map-contains, place-below}
use Rattle.lido_syntax.specs.declared.spec.Spec.{Spec}
use Rattle.lido_syntax.specs.declared.spec.Name.{Name}
use Rattle.lido_syntax.specs.declared.spec.Pair.{Pair}
use Rattle.lido_syntax.specs.declared.spec.Comp.{Comp}
use Rattle.lido_syntax.specs.declared.spec.Expr.{Expr, Including}
use Rattle.lido_syntax.specs.declared.spec.Expr.TheVariants as expr
use Rattle.lido_syntax.specs.Parts.{leaves, leaves_of, expressions_of}
use Rattle.lido_syntax.proofs.ExpressionLemmas.{leaves-Call}
use Rattle.lido_symbols.specs.FromText.{IsFromText}
use Rattle.lido_symbols.specs.Uses.{computations, including_of, all_includings}
use Rattle.including_sets.specs.declared.uses.Use.{Use}
use Rattle.including_sets.specs.Uses.{Standing, told, use_of, uses_in, uses_of, text_uses, AreUses}

-- what is kept of lists that stand behind each other
pub filtered-flat : {X Y Z : Type 0} (h : Y → Option Z) (f : X → List Y) (xs : List X) → filter_map h (flat_map f xs) ≡ flat_map (λ x. filter_map h (f x)) xs
filtered-flat h f [] = refl
filtered-flat h f (x ∷ xs) = filter_map-append h (f x) (flat_map f xs) ∙ ap (λ more. filter_map h (f x) ++ more) (filtered-flat h f xs)

pub uses-Call : (n : ℕ) (f : Name) (args list : List Expr) → list ≡ args → uses_in n (expr.Call f args) ≡ flat_map (uses_in n) list
uses-Call n f args list same =
    ap (filter_map (use_of n)) (leaves-Call f args) ∙ filtered-flat (use_of n) leaves args ∙ ap (flat_map (uses_in n)) (sym same)

-- by its place, as in the list of all
abbrev pub placed : Standing → ℕ × List Pair
placed u = (u.at, u.pairs)

use-same : (n : ℕ) (e : Expr) → option_map placed (use_of n e) ≡ including_of e
use-same n (Including at pairs) = refl
use-same n _ = refl

-- a leaf that is an INCLUDING
pub kept-use : (n : ℕ) (e : Expr) (u : Standing) → use_of n e ≡ Some u → (e ≡ Including u.at u.pairs) × (u.comp ≡ n)
kept-use n (Including at pairs) u e =
    let same : (record { comp = n; at = at; pairs = pairs }) ≡ u = same_Some _ _ e in
    (ap (λ (w : Standing). Including w.at w.pairs) same, sym (ap (λ (w : Standing). w.comp) same))
kept-use n _ u e = absurd (none-some _ e)

kept-same : {X Y Z : Type 0} (f : Y → Z) (h : X → Option Y) (g : X → Option Z) → ((x : X) → option_map f (h x) ≡ g x) → (xs : List X) → map f (filter_map h xs) ≡ filter_map g xs
kept-same f h g same [] = refl
kept-same {Y = Y} {Z = Z} f h g same (x ∷ xs) = by (h x) ∙ (λ i. cons_option (same x i) (kept-same f h g same xs i))
  where
    by : (o : Option Y) → map f (cons_option o (filter_map h xs)) ≡ cons_option (option_map f o) (map f (filter_map h xs))
    by None = refl
    by (Some y) = refl

mapped-flat : {X Y Z : Type 0} (f : Y → Z) (g : X → List Y) (h : X → List Z) → ((x : X) → map f (g x) ≡ h x) → (xs : List X) → map f (flat_map g xs) ≡ flat_map h xs
mapped-flat f g h same [] = refl
mapped-flat f g h same (x ∷ xs) = map-append f (g x) (flat_map g xs) ∙ (λ i. same x i ++ mapped-flat f g h same xs i)

comp-same : (c : Comp) → map placed (uses_of c) ≡ filter_map including_of (leaves_of c)
comp-same c =
    mapped-flat placed (uses_in c.number) (λ e. filter_map including_of (leaves e)) (λ e. kept-same placed (use_of c.number) including_of (use-same c.number) (leaves e)) (expressions_of c)
    ∙ sym (filtered-flat including_of leaves (expressions_of c))

pub text-same : (spec : Spec) → map placed (text_uses spec) ≡ all_includings spec
text-same spec = mapped-flat placed uses_of (λ c. filter_map including_of (leaves_of c)) comp-same (computations spec) ∙ sym (filtered-flat including_of leaves_of (computations spec))

abbrev pub place : Standing → ℕ
place u = u.at

-- the places of the INCLUDINGs of a text that was read differ
pub places-differ : (spec : Spec) → IsFromText spec → AllPairs (λ x y. x ≢ y) (map place (text_uses spec))
places-differ spec from i j d less below =
    let all = all_includings spec in
    let same : map place (text_uses spec) ≡ map (λ (x : ℕ × List Pair). x.0) all = sym (map-map (λ (x : ℕ × List Pair). x.0) placed (text_uses spec)) ∙ ap (map (λ (x : ℕ × List Pair). x.0)) (text-same spec) in
    let within : j < length all = omega (arith, ap length same, length-map all (λ (x : ℕ × List Pair). x.0)) in
    let earlier : i < length all = omega arith in
    let last = (place-below all j within).0 in
    let apart = from.includings_apart i j last less within in
    let first : get_or (map place (text_uses spec)) i d ≡ (get_or all i last).0 = ap (λ l. get_or l i d) same ∙ get_or-map (λ (x : ℕ × List Pair). x.0) all i last d earlier in
    let second : get_or (map place (text_uses spec)) j d ≡ (get_or all j last).0 = ap (λ l. get_or l j d) same ∙ get_or-map (λ (x : ℕ × List Pair). x.0) all j last d within in
    λ equal. apart (sym first ∙ equal ∙ second)

flips : (x y : ℕ) → nat_eq x y ≡ nat_eq y x
flips x y = by (nat_eq x y) (nat_eq y x) refl refl
  where
    by : (a b : Bool) → nat_eq x y ≡ a → nat_eq y x ≡ b → a ≡ b
    by true true p q = refl
    by false false p q = refl
    by true false p q = let e = eqb-true x y p in absurd (cc (eq-eqb y x (sym e)))
    by false true p q = let e = eqb-true y x q in absurd (cc (eq-eqb x y (sym e)))

module _ (spec : Spec) (found sorted : List Use) (of_text : map told found ≡ text_uses spec) (permutation : IsPermutation found sorted) (up : IsNonDecreasingBy (λ (u : Use). u.at) sorted) where
  differ : IsFromText spec → AllPairs (λ x y. x ≢ y) (map place (map told sorted))
  differ from = AllPairs-from_IsDistinct Decides-eqb (map place (map told sorted))
      (IsDistinct-IsPermutation nat_eq flips (map place (map told found)) (map place (map told sorted))
      (IsPermutation-map place (map told found) (map told sorted) (IsPermutation-map told found sorted permutation))
      (IsDistinct-from_AllPairs Decides-eqb (map place (map told found)) (subst (λ l. AllPairs (λ x y. x ≢ y) (map place l)) (sym of_text) (places-differ spec from))))

  ordered : IsFromText spec → AllPairs (λ (u v : Standing). u.at < v.at) (map told sorted)
  ordered from i j d less below =
      let within : j < length sorted = omega (arith, length-map sorted told) in
      let earlier : i < length sorted = omega arith in
      let last = (place-below sorted j within).0 in
      let low = up i j last (omega arith) within in
      let inside : j < length (map place (map told sorted)) = omega (arith, length-map (map told sorted) place) in
      let apart = differ from i j (place d) less inside in
      let first = ap place (get_or-map told sorted i last d earlier) in
      let second = ap place (get_or-map told sorted j last d within) in
      let one = get_or-map place (map told sorted) i d (place d) (omega arith) in
      let other = get_or-map place (map told sorted) j d (place d) below in
      omega (arith, low, apart, first, second, one, other)

  pub are-uses : AreUses spec (map told sorted)
  are-uses = record {
    all = λ u. (
      (λ m. let (v, among, e) = contains-map told sorted u m in
          subst (λ l. Contains l u) of_text (subst (Contains (map told found)) e (map-contains told found v (Contains-permutation sorted found v (IsPermutation-sym found sorted permutation) among)))),
      (λ m. let (v, among, e) = contains-map told found u (subst (λ l. Contains l u) (sym of_text) m) in
          subst (Contains (map told sorted)) e (map-contains told sorted v (Contains-permutation found sorted v permutation among))),
    );
    count = length_permutation (map told found) (map told sorted) (IsPermutation-map told found sorted permutation) ∙ ap length of_text ∙ sym (length-map (text_uses spec) placed) ∙ ap length (text-same spec);
    in_order = ordered;
  }
