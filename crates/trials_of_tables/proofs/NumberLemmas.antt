-- Numbers by first place, tested.
use Rattle.std.specs.Prelude.{◌≡◌, ℕ, ◌<◌, Bool, true, false, not, ◌&&◌, nat_eq, nat_lt, IsTrue, List, Contains, refl}
use Rattle.std.specs.List.{list_all, list_any}
use Rattle.std.proofs.Common.{subst, eqb-true, ltb-true}
use Rattle.std.proofs.lemmas.List.Elements.{All-contains}
use Rattle.lido_base.proofs.TreeLemmas.{both}
use Rattle.trials_of_grammar.proofs.TestedTrees.{implies}
use Rattle.trials_of_grammar.proofs.TestedGrammars.{all-tested, all_differ, pairs-tested}
use Rattle.lido_symbols.specs.Numbers.{AreNumbered}
use Rattle.rule_tables.proofs.NeedsLemmas.{any-found}

implied : (x y : Bool) → IsTrue (implies x y) → IsTrue x → IsTrue y
implied true y h e = h
implied false y h e = cc

falsified : (x : Bool) → not x ≡ false → IsTrue x
falsified true h = refl
falsified false h = cc

module _ (uses : List (ℕ × ℕ)) (keys : List ℕ) where
  abbrev pub is_named : ℕ → Bool
  is_named k = list_any (λ (u : ℕ × ℕ). nat_eq u.1 k) uses

  abbrev pub has_key : ℕ × ℕ → Bool
  has_key u = list_any (λ k. nat_eq u.1 k) keys

  abbrev pub stands_before : ℕ → ℕ × ℕ → Bool
  stands_before k u = list_any (λ (v : ℕ × ℕ). nat_eq v.1 k && nat_lt v.0 u.0) uses

  abbrev pub comes_first : ℕ → ℕ → Bool
  comes_first k l = list_all (λ (u : ℕ × ℕ). implies (nat_eq u.1 l) (stands_before k u)) uses

  found : (k : ℕ) → IsTrue (is_named k) → (at : ℕ) × Contains uses (at, k)
  found k h = let f = any-found (λ (u : ℕ × ℕ). nat_eq u.1 k) uses h in (f.0.0, subst (λ i. Contains uses (f.0.0, i)) (eqb-true f.0.1 k f.2) f.1)

  earlier : (k at : ℕ) → IsTrue (list_any (λ (v : ℕ × ℕ). nat_eq v.1 k && nat_lt v.0 at) uses) → (first : ℕ) × (i : ℕ) × Contains uses (first, i) × IsTrue (nat_eq i k) × (first < at)
  earlier k at h = let f = any-found (λ (v : ℕ × ℕ). nat_eq v.1 k && nat_lt v.0 at) uses h in let p = both (nat_eq f.0.1 k) (nat_lt f.0.0 at) f.2 in (f.0.0, f.0.1, f.1, p.0, ltb-true f.0.0 at p.1)

  pub numbered : IsTrue (list_all is_named keys) → IsTrue (list_all has_key uses) → IsTrue (all_differ (λ k l. not (comes_first k l)) keys) → AreNumbered nat_eq uses keys
  numbered x y z = record {
    named = λ k d l. found _ (all-tested is_named keys x k d l);
    all = λ at k m. (let f = any-found (λ l. nat_eq k l) keys (All-contains (λ (u : ℕ × ℕ). IsTrue (has_key u)) uses (at, k) (all-tested has_key uses y) m) in (f.0, f.1, f.2));
    by_place = pairs-tested (λ k l. not (comes_first k l)) (λ k l. (at : ℕ) (j : ℕ) → Contains uses (at, j) → IsTrue (nat_eq j l) → (first : ℕ) × (i : ℕ) × Contains uses (first, i) × IsTrue (nat_eq i k) × (first < at))
        (λ k l h at j m e. earlier k at (implied _ _ (All-contains (λ (u : ℕ × ℕ). IsTrue (implies (nat_eq u.1 l) (stands_before k u))) uses (at, j)
        (all-tested (λ (u : ℕ × ℕ). implies (nat_eq u.1 l) (stands_before k u)) uses (falsified (comes_first k l) h)) m) e)) keys z;
  }
