-- The counted items are as read from a text.
use Rattle.std.specs.Prelude.{All, AllPairs, Contains, nat_eq, nat_lt, Bool, true, false, IsTrue, not, ◌&&◌, ◌||◌}
use Rattle.std.specs.List.{list_all}
use Rattle.std.proofs.Common.{◌≡◌, ℕ, ◌<◌, ◌⊎◌, inl, inr, List, [], ◌∷◌, length, None, refl, arith, ap, eqb-true, eq-eqb, ltb-true}
use Rattle.std.proofs.lemmas.List.Elements.{All-contains}
use Rattle.lido_syntax.specs.declared.spec.Name.{Name}
use Rattle.lido_base.specs.declared.value.ValueType.TheVariants as type
use Rattle.lido_syntax.specs.declared.spec.Decl.{Decl}
use Rattle.lido_syntax.specs.declared.spec.Typed1.{Typed1}
use Rattle.lido_syntax.specs.declared.spec.Cons.{Cons}
use Rattle.lido_syntax.specs.declared.spec.Comp.{Comp}
use Rattle.lido_syntax.specs.declared.spec.Pair.{Pair}
use Rattle.lido_syntax.specs.declared.spec.RuleItem.{RuleItem}
use Rattle.lido_syntax.specs.declared.spec.SymbolItem.{SymbolItem}
use Rattle.lido_symbols.specs.Uses.{computations, declarations, all_functions, all_includings, all_constituents}
use Rattle.lido_symbols.specs.FromText.{IsFromText, AreApart, all_names}
use Rattle.trials_of_grammar.proofs.Finite.{never, both, all-of, each-of, pairs-of}
use Rattle.trials_of_grammar.proofs.TestedGrammars.{all-tested, all_differ, pairs-tested}
use Rattle.trials_of_syntax.proofs.Members.{every}
use Rattle.trials_of_tables.specs.Writing.{name}
use Rattle.trials_of_tables.specs.CountedItems.{spec, Num, b, t}

-- the places differ, or the names are one
abbrev is_told : Name → Name → Bool
is_told x y = not (nat_eq x.at y.at) || nat_eq x.id.0 y.id.0

one : (x y : Name) → IsTrue (is_told x y) → x.at ≡ y.at → x ≡ y
one x y told at = let id = by (nat_eq x.at y.at) (eq-eqb x.at y.at at) told in λ i. record { at = at i; id = record { 0 = id i } }
  where
    by : (b : Bool) → b ≡ true → IsTrue (not b || nat_eq x.id.0 y.id.0) → x.id.0 ≡ y.id.0
    by true e h = eqb-true x.id.0 y.id.0 h
    by false e h = never e

names_told : IsTrue (list_all (λ x. list_all (is_told x) (all_names spec)) (all_names spec))
names_told = refl

name_told : (x y : Name) → Contains (all_names spec) x → Contains (all_names spec) y → IsTrue (is_told x y)
name_told x y m k =
    let of_x = All-contains (λ x. IsTrue (list_all (is_told x) (all_names spec))) (all_names spec) x (all-tested (λ x. list_all (is_told x) (all_names spec)) (all_names spec) names_told) m in
    All-contains (λ y. IsTrue (is_told x y)) (all_names spec) y (all-tested (is_told x) (all_names spec) of_x) k

functions_told : IsTrue (list_all (λ x. list_all (is_told x) (all_functions spec)) (all_functions spec))
functions_told = refl

function_told : (x y : Name) → Contains (all_functions spec) x → Contains (all_functions spec) y → IsTrue (is_told x y)
function_told x y m k =
    let of_x = All-contains (λ x. IsTrue (list_all (is_told x) (all_functions spec))) (all_functions spec) x (all-tested (λ x. list_all (is_told x) (all_functions spec)) (all_functions spec) functions_told) m in
    All-contains (λ y. IsTrue (is_told x y)) (all_functions spec) y (all-tested (is_told x) (all_functions spec) of_x) k

abbrev first_declared : Decl
first_declared = record { attr = name 5 b; ty = type.Int; kind = None }

abbrev second_declared : Decl
second_declared = record { attr = name 8 t; ty = type.Int; kind = None }

abbrev AreToldFrom : Decl → Type 0
AreToldFrom d = (e : Decl) → Contains (declarations spec) e → d.attr.at ≡ e.attr.at → d ≡ e

declarations_told : (d : Decl) → Contains (declarations spec) d → AreToldFrom d
declarations_told = every AreToldFrom (declarations spec) (
  every (λ e. (5 ≡ e.attr.at) → first_declared ≡ e) (declarations spec) ((λ h. refl), ((λ h. absurd (omega (arith, h))), tt)),
  (every (λ e. (8 ≡ e.attr.at) → second_declared ≡ e) (declarations spec) ((λ h. absurd (omega (arith, h))), ((λ h. refl), tt)), tt),
)

abbrev the_term : Typed1
the_term = record { name = name 36 Num; ty = type.Int }

abbrev IsToldFrom : Typed1 → Type 0
IsToldFrom x = (y : Typed1) → Contains spec.terms y → x.name.at ≡ y.name.at → x ≡ y

terms_told : (x : Typed1) → Contains spec.terms x → IsToldFrom x
terms_told = every IsToldFrom spec.terms (every (λ y. (36 ≡ y.name.at) → the_term ≡ y) spec.terms ((λ h. refl), tt), tt)

abbrev is_behind : ℕ × ℕ → ℕ × ℕ → Bool
is_behind x y = nat_lt x.0 y.0 && nat_lt x.1 y.1

abbrev are_apart : ℕ × ℕ → ℕ × ℕ → Bool
are_apart x y = is_behind x y || is_behind y x

apart : (x y : ℕ × ℕ) → IsTrue (are_apart x y) → AreApart spec x y
apart x y h = by (is_behind x y) refl h
  where
    by : (b : Bool) → is_behind x y ≡ b → IsTrue (b || is_behind y x) → AreApart spec x y
    by true e h = let (first, second) = both (nat_lt x.0 y.0) (nat_lt x.1 y.1) e in inl (ltb-true _ _ first, ltb-true _ _ second)
    by false e h = let (first, second) = both (nat_lt y.0 x.0) (nat_lt y.1 x.1) h in inr (ltb-true _ _ first, ltb-true _ _ second)

negated : (b : Bool) → not b ≡ false → IsTrue b
negated true e = refl
negated false e = cc

both_tested : IsTrue (list_all (λ (c : Comp). list_all (λ (k : ℕ × Cons). are_apart (c.number, c.at) (k.0, k.1.at)) (all_constituents spec)) (computations spec))
both_tested = refl

pub from_text : IsFromText spec
from_text = record {
  one_name = λ x y m k. one x y (name_told x y m k);
  one_function = λ x y m k. one x y (function_told x y m k);
  one_declaration = λ d e m k. declarations_told d m e k;
  one_term = λ x y m k. terms_told x m y k;
  chains_in_order = pairs-of (λ (x y : Typed1). x.name.at < y.name.at) spec.chains (tt, tt);
  computations_apart = pairs-tested (λ (c d : Comp). not (are_apart (c.number, c.at) (d.number, d.at))) (λ (c d : Comp). AreApart spec (c.number, c.at) (d.number, d.at))
      (λ c d h. apart (c.number, c.at) (d.number, d.at) (negated (are_apart (c.number, c.at) (d.number, d.at)) h)) (computations spec) refl;
  constituents_apart = pairs-of (λ (x y : ℕ × Cons). AreApart spec (x.0, x.1.at) (y.0, y.1.at)) (all_constituents spec) (tt, tt);
  both_apart = λ c k m n. apart (c.number, c.at) (k.0, k.1.at)
      (All-contains (λ (k : ℕ × Cons). IsTrue (are_apart (c.number, c.at) (k.0, k.1.at))) (all_constituents spec) k
      (all-tested (λ (k : ℕ × Cons). are_apart (c.number, c.at) (k.0, k.1.at)) (all_constituents spec)
      (All-contains (λ (c : Comp). IsTrue (list_all (λ (k : ℕ × Cons). are_apart (c.number, c.at) (k.0, k.1.at)) (all_constituents spec))) (computations spec) c
      (all-tested (λ (c : Comp). list_all (λ (k : ℕ × Cons). are_apart (c.number, c.at) (k.0, k.1.at)) (all_constituents spec)) (computations spec) both_tested) m)) n);
  includings_apart = pairs-of (λ (x y : ℕ × List Pair). x.0 ≡ y.0 → ⊥) (all_includings spec) (tt, tt);
  about = all-of (λ (item : SymbolItem). 0 < length item.names) spec.symbols (omega arith, (omega arith, tt));
  including_pairs = all-of (λ (x : ℕ × List Pair). 0 < length x.1) (all_includings spec) (omega arith, tt);
  constituents_pairs = all-of (λ (x : ℕ × Cons). 0 < length x.1.pairs) (all_constituents spec) (omega arith, tt);
  elements = each-of (λ (r : RuleItem). r.list ≡ true → 0 < length r.right) spec.rules ((λ e. omega arith), ((λ e. omega arith), tt));
  few_rules = omega arith;
  few_chains = omega arith;
  few_includings = omega arith;
}
