-- What the absence of each fault of the tables says of the specification.
use Rattle.std.specs.Prelude.{Contains, IsTrue, AllPairs, nat_eq, map, flat_map, filter, not, slice_get}
use Rattle.std.proofs.Common.{◌≡◌, ℕ, zero, suc, ◌<◌, inl, inr, Bool, true, false, List, [], ◌∷◌, length, get_or, Some, refl, ap, sym, subst, ◌∙◌, arith, eq-eqb, true≢false}
use Rattle.std.proofs.lemmas.Bool.{cases_lt}
use Rattle.std.proofs.lemmas.Option.{same_Some, slice_get_within, slice_get-get_or, get_or_from_slice_get}
use Rattle.std.proofs.lemmas.List.Elements.{Contains-get_or, Contains-append_left, filter_passes}
use Rattle.std.proofs.lemmas.List.Kept.{AllPairs-cons, AllPairs-filter}
use Rattle.lido_base.specs.Environment.{Environment}
use Rattle.lido_base.specs.Faults.{HasNone}
use Rattle.lido_base.specs.Tree.{contains}
use Rattle.lido_base.proofs.FaultsLemmas.{at_place-none}
use Rattle.lido_base.proofs.Lists.{contains-here, map-contains, contains-map, contains-place}
use Rattle.lido_base.proofs.TreeLemmas.{contains-test, test-contains}
use Rattle.lido_syntax.specs.declared.spec.Spec.{Spec}
use Rattle.lido_syntax.specs.declared.spec.Comp.{Comp}
use Rattle.lido_syntax.specs.declared.spec.Typed1.{Typed1}
use Rattle.lido_syntax.specs.declared.fault.SpecFault.TheVariants as fault
use Rattle.lido_syntax.specs.Production.{name_of, left_of, right_of}
use Rattle.lido_syntax.specs.Symbols.{IsNonterminal, IsRoot}
use Rattle.lido_symbols.specs.Classes.{IsClass}
use Rattle.lido_symbols.specs.FromText.{IsFromText, AreApart}
use Rattle.lido_symbols.specs.Numbers.{different}
use Rattle.lido_symbols.specs.Uses.{computations, declared_names}
use Rattle.kind_clashes.specs.KindClash.{IsKindClash, class_in_production, chain_declared_again, behind_a_chain, chain_names}
use Rattle.table_faults.specs.Faults.{table_faults, AreRoots}
use Rattle.rule_tables.proofs.LimitLemmas.{different-all}
use Rattle.rule_tables.proofs.CellLemmas.{different-within}
use Rattle.need_graphs.specs.Clear.{AreClear}
use Rattle.need_graphs.specs.Users.{TellComputations}
use Rattle.need_graphs.proofs.RangeLemmas.{filter-part, filter-kept}

-- ---- lists

-- of two places of a list
pair-at : {X : Type 0} (R : X → X → Type 0) (xs : List X) (i j : ℕ) (x y : X) → AllPairs R xs → slice_get xs i ≡ Some x → slice_get xs j ≡ Some y → i < j → R x y
pair-at R xs i j x y all at there less =
    let within = slice_get_within xs j y there in
    let first : get_or xs i x ≡ x = get_or_from_slice_get xs i x x at in
    let second : get_or xs j x ≡ y = get_or_from_slice_get xs j y x there in
    subst (λ z. R z y) first (subst (λ z. R (get_or xs i x) z) second (all i j x less within))

-- no number stands twice
different-once : (xs : List ℕ) → AllPairs (λ x y. x ≡ y → ⊥) (different xs)
different-once [] = λ i j d less within. absurd (omega (arith, within))
different-once (x ∷ xs) =
    let others : ℕ → Bool = λ y. not (nat_eq x y) in
    AllPairs-cons (λ y z. y ≡ z → ⊥) x (filter others (different xs))
    (λ k d within e. true≢false (sym (filter_passes others (different xs) k d within) ∙ ap not (eq-eqb x (get_or (filter others (different xs)) k d) e)))
    (AllPairs-filter (λ y z. y ≡ z → ⊥) others (different xs) (different-once xs))

filter-passed : (p : ℕ → Bool) (xs : List ℕ) (x : ℕ) → Contains (filter p xs) x → p x ≡ true
filter-passed p xs x (k, h, e) = subst (λ z. p z ≡ true) e (filter_passes p xs k x h)

-- of a list with one number
only-one : (xs : List ℕ) (s q : ℕ) → length xs ≡ 1 → Contains xs s → Contains xs q → s ≡ q
only-one xs s q one (i, h, e) (j, g, f) =
    let first : i ≡ 0 = omega (arith, one, h) in
    let second : j ≡ 0 = omega (arith, one, g) in
    let here = get_or_from_slice_get xs 0 s q (slice_get-get_or xs 0 s (omega (arith, one)) ∙ ap Some (ap (λ n. get_or xs n s) (sym first) ∙ e)) in
    sym here ∙ ap (λ n. get_or xs n q) (sym second) ∙ f

module _ (spec : Spec) (env : Environment) where
  -- ---- roots

  abbrev right_sides : List ℕ
  right_sides = flat_map right_of spec.rules

  abbrev lefts : List ℕ
  lefts = map left_of spec.rules

  abbrev is_free : ℕ → Bool
  is_free s = not (contains s right_sides)

  abbrev roots : List ℕ
  roots = different (filter is_free lefts)

  free : (b : Bool) → not b ≡ true → IsTrue b → ⊥
  free true e h = true≢false (sym e)
  free false e h = true≢false (sym h)

  is-free : (b : Bool) → (IsTrue b → ⊥) → not b ≡ true
  is-free true none = absurd (none refl)
  is-free false none = refl

  root-each : (s : ℕ) → Contains roots s → IsRoot spec s
  root-each s m =
      let there = different-within (filter is_free lefts) s m in
      (test-contains s lefts (filter-part is_free lefts s there), free (contains s right_sides) (filter-passed is_free lefts s there))

  root-all : (s : ℕ) → IsRoot spec s → Contains roots s
  root-all s root = different-all (filter is_free lefts) s (filter-kept is_free lefts s (contains-test s lefts root.0) (is-free (contains s right_sides) root.1))

  are-roots : AreRoots spec env roots
  are-roots = record { each = root-each; all = root-all; once = different-once (filter is_free lefts) }

  -- ---- computations

  apart-numbers : (a b : ℕ × ℕ) → AreApart spec a b → a.0 ≡ b.0 → ⊥
  apart-numbers a b (inl h) e = omega (arith, h.0, e)
  apart-numbers a b (inr h) e = omega (arith, h.0, e)

  module _ (from : IsFromText spec) where
    tell : TellComputations spec
    tell k l m n e =
        let (i, at) = contains-place (computations spec) k m in
        let (j, there) = contains-place (computations spec) l n in
        let R : Comp → Comp → Type 0 = λ c d. AreApart spec (c.number, c.at) (d.number, d.at) in
        elim (cases_lt i j) [
          | inl h ↦ absurd (apart-numbers (k.number, k.at) (l.number, l.at) (pair-at R (computations spec) i j k l from.computations_apart at there h) e)
          | inr h ↦ elim (cases_lt j i) [
            | inl g ↦ absurd (apart-numbers (l.number, l.at) (k.number, k.at) (pair-at R (computations spec) j i l k from.computations_apart there at g) (sym e))
            | inr g ↦ same_Some k l (sym at ∙ ap (slice_get (computations spec)) (omega (arith, h, g)) ∙ there)
          ]
        ]

    module _ (none : HasNone (table_faults spec env)) where
      no-clash : (at : ℕ) → ¬ IsKindClash spec env at
      no-clash = at_place-none (λ at. fault.KindClash at) (IsKindClash spec env) none.1.1.1.0

      one-root : length roots ≡ 1
      one-root = by (length roots) refl
        where
          by : (n : ℕ) → length roots ≡ n → length roots ≡ 1
          by zero e = absurd (none.1.1.0 (fault.RootNotOne (length roots)) (roots, are-roots, (λ f. omega (arith, e, f)), refl))
          by (suc zero) e = e
          by (suc (suc n)) e = absurd (none.1.1.0 (fault.RootNotOne (length roots)) (roots, are-roots, (λ f. omega (arith, e, f)), refl))

      chains-told : AllPairs (λ (x y : Typed1). name_of x.name ≡ name_of y.name → ⊥) spec.chains
      chains-told i j d less within e =
          let x = get_or spec.chains i d in
          let y = get_or spec.chains j d in
          let first : Contains (chain_names spec) x.name = map-contains (λ (z : Typed1). z.name) spec.chains x (Contains-get_or spec.chains i d (omega (arith, less, within))) in
          let second : Contains (chain_names spec) y.name = map-contains (λ (z : Typed1). z.name) spec.chains y (Contains-get_or spec.chains j d within) in
          no-clash y.name.at (chain_declared_again (behind_a_chain x.name y.name first (Contains-append_left (chain_names spec) (declared_names spec) y.name second) e (from.chains_in_order i j d less within) refl))

      no-class : (s : ℕ) → IsClass spec s → ¬ IsNonterminal spec s
      no-class s class left =
          let (r, there, e) = contains-map left_of spec.rules s (contains-test s lefts left) in
          no-clash r.left.at (class_in_production r r.left there (contains-here r.left _) (subst (IsClass spec) (sym e) class) refl)

pub are-clear : (spec : Spec) (env : Environment) → IsFromText spec → HasNone (table_faults spec env) → AreClear spec
are-clear spec env from none = record {
  computations = tell spec env from;
  chains = chains-told spec env from none;
  classes = no-class spec env from none;
  roots = λ s q h g. only-one (roots spec env) s q (one-root spec env from none) (root-all spec env s h) (root-all spec env q g);
}
