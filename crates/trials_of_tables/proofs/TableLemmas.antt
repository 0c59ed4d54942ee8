-- The tables of the specification of counted items.
use Rattle.std.specs.Prelude.{◌≡◌, ℕ, ◌<◌, ◌≤◌, true, IsTrue, List, [], ◌∷◌, Contains, refl}
use Rattle.std.proofs.Common.{arith}
use Rattle.lido_syntax.specs.declared.spec.Cons.{Cons}
use Rattle.lido_syntax.specs.declared.spec.Pair.{Pair}
use Rattle.lido_syntax.specs.Sets.{Sets}
use Rattle.trials_of_grammar.proofs.Finite.{all-of, pairs-of}
use Rattle.trials_of_syntax.proofs.Members.{every}
use Rattle.lido_symbols.specs.Uses.{symbol_uses, attribute_uses, all_includings, all_constituents, is_same_set, is_same_constituents}
use Rattle.rule_tables.specs.Needs.{AreTables}
use Rattle.trials_of_tables.specs.CountedItems.{spec, env, symbols, tables, Item, b, t, no, pairs, sum}
use Rattle.trials_of_tables.proofs.ItemsLemmas.{no_top}
use Rattle.trials_of_tables.proofs.NumberLemmas.{numbered}
use Rattle.trials_of_tables.proofs.ForceLemmas.{are_forced}

module _ (sets : Sets spec) where
  same_pairs : is_same_set spec sets pairs pairs ≡ true
  same_pairs = rw (no_top sets Item) refl

  pub are_tables : AreTables spec (tables sets) env
  are_tables = record {
    symbols = numbered (symbol_uses spec env) symbols refl refl refl;
    attributes = numbered (attribute_uses spec) (b ∷ t ∷ no ∷ []) refl refl refl;
    includings = record {
      named = all-of (λ k. (at : ℕ) × Contains (all_includings spec) (at, k)) (pairs ∷ []) ((84, (0, omega arith, refl)), tt);
      all = λ at k m. every (λ (u : ℕ × List Pair). (l : List Pair) × Contains (pairs ∷ []) l × IsTrue (is_same_set spec sets u.1 l)) (all_includings spec) ((pairs, (0, omega arith, refl), same_pairs), tt) (at, k) m;
      by_place = pairs-of (λ (k l : List Pair). (at : ℕ) (j : List Pair) → Contains (all_includings spec) (at, j) → IsTrue (is_same_set spec sets j l) → (first : ℕ) × (i : List Pair) × Contains (all_includings spec) (first, i) × IsTrue (is_same_set spec sets i k) × (first < at)) (pairs ∷ []) (tt, tt);
    };
    first_includings = all-of (λ ps. (first : ℕ) × Contains (all_includings spec) (first, ps) × ((at : ℕ) (other : List Pair) → Contains (all_includings spec) (at, other) → IsTrue (is_same_set spec sets other ps) → first ≤ at))
        (pairs ∷ []) ((84, (0, omega arith, refl), (λ at other m h. every (λ (u : ℕ × List Pair). 84 ≤ u.0) (all_includings spec) (omega arith, tt) (at, other) m)), tt);
    constituents = record {
      named = all-of (λ k. (at : ℕ) × Contains (all_constituents spec) (at, k)) (sum ∷ []) ((4, (0, omega arith, refl)), tt);
      all = λ at k m. every (λ (u : ℕ × Cons). (l : Cons) × Contains (sum ∷ []) l × IsTrue (is_same_constituents u.1 l)) (all_constituents spec) ((sum, (0, omega arith, refl), refl), tt) (at, k) m;
      by_place = pairs-of (λ (k l : Cons). (at : ℕ) (j : Cons) → Contains (all_constituents spec) (at, j) → IsTrue (is_same_constituents j l) → (first : ℕ) × (i : Cons) × Contains (all_constituents spec) (first, i) × IsTrue (is_same_constituents i k) × (first < at)) (sum ∷ []) (tt, tt);
    };
    forced = are_forced;
  }
