-- Symbols, rules and occurrences are few.
use Rattle.std.specs.Prelude.{All, nat_eq, map, flat_map, filter, sum_by, if◌then◌else◌, ◌^◌}
use Rattle.std.proofs.Common.{◌≡◌, ℕ, suc, ◌+◌, ◌<◌, ◌≤◌, Bool, true, false, cond, List, [], ◌∷◌, ◌++◌, length, refl, sym, ap, subst, ◌∙◌, arith, length-append}
use Rattle.std.proofs.lemmas.List.{length-map}
use Rattle.std.proofs.lemmas.List.Sums.{sum_by-cons}
use Rattle.std.proofs.lemmas.Slice.Zip.{AllZip-long}
use Rattle.lido_base.specs.Environment.{Environment}
use Rattle.lido_base.specs.declared.ids.SymId.{SymId}
use Rattle.lido_base.proofs.Lists.{place-contains}
use Rattle.flat_grammar.specs.declared.flat.FlatSymbol.{FlatSymbol}
use Rattle.flat_grammar.specs.declared.flat.FlatRule.{FlatRule}
use Rattle.flat_grammar.specs.declared.flat.Shape.{Shape}
use Rattle.lido_syntax.specs.declared.spec.Spec.{Spec}
use Rattle.lido_syntax.specs.declared.spec.RuleItem.{RuleItem}
use Rattle.lido_syntax.specs.Production.{right_of}
use Rattle.lido_symbols.specs.Numbers.{AreNumbered, enumerated, different}
use Rattle.table_faults.specs.Faults.{plain_count}
use Rattle.rule_tables.specs.PlainRules.{PlainRule, number, written_rule, cell_rules}
use Rattle.rule_tables.specs.Needs.{Tables, Needs, AreTables, rules}
use Rattle.rule_tables.specs.Slots.{Slot}
use Rattle.rule_tables.specs.Flat.{IsFlat}
use Rattle.rule_tables.proofs.PlainLemmas.{is_list, list_count}
use Rattle.rule_tables.proofs.LimitLemmas.{few-symbols}
use Rattle.rule_tables.proofs.LaterUses.{uses-same}
use Rattle.flat_laws.specs.Accepted.{IsAccepted, AreNames}
use Rattle.flat_laws.proofs.Lists.{zip-left, all-places}
use Rattle.flat_laws.proofs.SymbolLemmas.{is_list_at}
use Rattle.flat_laws.proofs.RuleLemmas.{IsRuleOf, whole, listing, link, end, link_at, end_at, rule-of}
use Rattle.flat_laws.proofs.FaultLemmas.{few-plain, few-elements}
use Rattle.flat_laws.proofs.ShapeLemmas.{HasSymbols, all-symbols}

-- as many lists as rules that are lists
lists-count : (n : ℕ) (xs : List RuleItem) → length (map (λ (x : ℕ × RuleItem). x.0) (filter is_list_at (enumerated n xs))) ≡ list_count xs
lists-count n [] = refl
lists-count n (r ∷ xs) = by r.list (lists-count (suc n) xs)
  where
    by : (b : Bool) → length (map (λ (x : ℕ × RuleItem). x.0) (filter is_list_at (enumerated (suc n) xs))) ≡ list_count xs
        → length (map (λ (x : ℕ × RuleItem). x.0) (cond b ((n, r) ∷ filter is_list_at (enumerated (suc n) xs)) (filter is_list_at (enumerated (suc n) xs)))) ≡ length (cond b (r ∷ filter is_list xs) (filter is_list xs))
    by true e = ap suc e
    by false e = e

module _ (spec : Spec) (early : Environment) (symbols : List ℕ) where
  -- a written rule and the rules of its cell
  cells-below : (k : ℕ) (r : RuleItem) → suc (length (cell_rules spec symbols (k, r))) ≤ plain_count spec early r
  cells-below k r = by r.list
    where
      by : (b : Bool) → suc (length (if b then map (link_at spec symbols k) (different (right_of r)) ++ end_at spec symbols k ∷ [] else [])) ≤ (if b then length (different (right_of r)) + 2 else 1)
      by true = omega (arith, length-append (map (link_at spec symbols k) (different (right_of r))) (end_at spec symbols k ∷ []), length-map (different (right_of r)) (link_at spec symbols k))
      by false = omega arith

  all-below : (k : ℕ) (xs : List RuleItem) → length (map (written_rule spec symbols) (enumerated k xs)) + length (flat_map (cell_rules spec symbols) (enumerated k xs)) ≤ sum_by (plain_count spec early) xs
  all-below k [] = omega arith
  all-below k (r ∷ xs) =
      omega (arith, sum_by-cons (plain_count spec early) r xs, cells-below k r, all-below (suc k) xs, length-append (cell_rules spec symbols (k, r)) (flat_map (cell_rules spec symbols) (enumerated (suc k) xs)))

module _ (spec : Spec) (early env : Environment) (T : Tables spec) (tables : AreTables spec T env) (accepted : IsAccepted spec early T) (names : AreNames spec early env) (needs : Needs spec T) (slots : ℕ → List Slot)
    (symbols : List FlatSymbol) (flat_rules : List FlatRule) (shapes : List Shape) (root : SymId) (is : IsFlat spec T needs slots env symbols flat_rules shapes root) where
  pub numbered-symbols : length symbols ≤ 2 ^ 16
  numbered-symbols =
      let few = few-symbols spec early accepted.tables T.symbols (subst (λ u. AreNumbered nat_eq u T.symbols) (sym (uses-same spec early env names.kept)) tables.symbols) in
      let count = is.count in
      let long = lists-count 0 spec.rules in
      omega (arith, few, count, long)

  pub numbered-rules : length flat_rules ≤ 2 ^ 16
  numbered-rules =
      let same = AllZip-long (HasSymbols spec env T tables needs slots symbols flat_rules shapes root is) (rules spec T) flat_rules (all-symbols spec env T tables needs slots symbols flat_rules shapes root is) in
      let below = all-below spec early T.symbols 0 spec.rules in
      let few = few-plain spec early T accepted in
      let both = length-append (map (written_rule spec T.symbols) (enumerated 0 spec.rules)) (flat_map (cell_rules spec T.symbols) (enumerated 0 spec.rules)) in
      omega (arith, same, below, few, both)

  short-right : (p : PlainRule) → IsRuleOf spec T.symbols p → length p.right ≤ 1024
  short-right p (whole r h) =
      let few = few-elements spec early T accepted r (place-contains spec.rules p.rule r h.rule) in
      let same = ap (λ (l : List ℕ). length l) h.right ∙ length-map (right_of r) (number spec T.symbols) in
      omega (arith, few, same)
  short-right p (listing r h) = let same = ap (λ (l : List ℕ). length l) h.right in omega (arith, same)
  short-right p (link r s h) = let same = ap (λ (l : List ℕ). length l) h.right in omega (arith, same)
  short-right p (end r h) = let same = ap (λ (l : List ℕ). length l) h.right in omega (arith, same)

  pub numbered-occurrences : All (λ (r : FlatRule). length r.right < 2 ^ 16) flat_rules
  numbered-occurrences = all-places (λ (r : FlatRule). length r.right < 2 ^ 16) flat_rules (λ i flat e.
      (let (p, at, has) = zip-left (HasSymbols spec env T tables needs slots symbols flat_rules shapes root is) (rules spec T) flat_rules i flat (all-symbols spec env T tables needs slots symbols flat_rules shapes root is) e in
      let short = short-right p (rule-of spec T.symbols p (place-contains (rules spec T) i p at)) in
      let same = sym (length-map flat.right (λ (s : SymId). s.0)) ∙ ap (λ (l : List ℕ). length l) has.right in
      omega (arith, short, same)))
