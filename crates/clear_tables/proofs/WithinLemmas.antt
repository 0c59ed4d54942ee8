-- How many plain rules there are, and how many symbols stand on their right sides.
use Rattle.std.specs.Prelude.{Contains, map, flat_map, sum_by}
use Rattle.std.specs.List.{AllZip}
use Rattle.std.proofs.lemmas.List.{length-map}
use Rattle.std.proofs.Common.{◌≡◌, ℕ, suc, ◌+◌, ◌<◌, ◌≤◌, inl, inr, Bool, true, false, if◌then◌else◌, List, [], ◌∷◌, ◌++◌, length, refl, ap, subst, arith, length-append}
use Rattle.std.proofs.lemmas.Slice.Zip.{AllZip-long}
use Rattle.std.proofs.lemmas.List.Sums.{sum_by-cons}
use Rattle.std.proofs.lemmas.List.Elements.{Contains-append_cases}
use Rattle.lido_base.specs.Environment.{Environment}
use Rattle.lido_base.specs.Faults.{HasNone}
use Rattle.lido_base.specs.Texts.{Gains}
use Rattle.lido_base.specs.declared.ids.SymId.{SymId}
use Rattle.lido_base.specs.declared.kinds.Many.TheVariants as many
use Rattle.lido_base.proofs.Lists.{contains-nil, contains-cons, contains-here, contains-later, contains-map, contains-flat, contains-place, place-contains}
use Rattle.flat_grammar.specs.declared.flat.FlatRule.{FlatRule}
use Rattle.lido_syntax.specs.declared.spec.Spec.{Spec}
use Rattle.lido_syntax.specs.declared.spec.RuleItem.{RuleItem}
use Rattle.lido_syntax.specs.declared.fault.SpecFault.TheVariants as fault
use Rattle.lido_syntax.specs.Production.{right_of}
use Rattle.lido_symbols.specs.FromText.{IsFromText}
use Rattle.lido_symbols.specs.Numbers.{different, enumerated}
use Rattle.table_faults.specs.Faults.{table_faults, plain_count, rules as too_many_rules, elements as too_many_elements}
use Rattle.rule_tables.specs.declared.table.Tables.{Tables}
use Rattle.rule_tables.specs.PlainRules.{PlainRule, Link, End, number, cell, written_rule, cell_rules, plain_rules}
use Rattle.rule_tables.specs.RuleNames.{HasIds}
use Rattle.rule_tables.specs.TablesOf.{AreTablesOf, IsPlainOf, named_symbols}
use Rattle.rule_tables.proofs.CheckedLemmas.{few-rows}
use Rattle.need_graphs.specs.Clear.{AreFew, AreWithin}
use Rattle.need_graphs.proofs.EdgeLemmas.{zip-left}

enumerated-part : (k : ℕ) (rules : List RuleItem) (x : ℕ × RuleItem) → Contains (enumerated k rules) x → Contains rules x.1
enumerated-part k [] x m = absurd (contains-nil x m)
enumerated-part k (r ∷ rules) x m = elim (contains-cons (k, r) x (enumerated (suc k) rules) m) [
  | inl h ↦ subst (λ (z : ℕ × RuleItem). Contains (r ∷ rules) z.1) h (contains-here r rules)
  | inr n ↦ contains-later r x.1 rules (enumerated-part (suc k) rules x n)
]

module _ (spec : Spec) (env : Environment) (symbols : List ℕ) where
  abbrev written : List (ℕ × RuleItem) → List PlainRule
  written = map (written_rule spec symbols)

  abbrev of_cells : List (ℕ × RuleItem) → List PlainRule
  of_cells = flat_map (cell_rules spec symbols)

  abbrev link : ℕ → ℕ → PlainRule
  link k s = record { rule = k; role = Link s; left = cell spec symbols k; right = number spec symbols s ∷ cell spec symbols k ∷ [] }

  abbrev last : ℕ → PlainRule
  last k = record { rule = k; role = End; left = cell spec symbols k; right = [] }

  abbrev links : ℕ → RuleItem → List PlainRule
  links k r = map (link k) (different (right_of r))

  -- the plain rules of a list's cell, and the list's own
  cell-count : (k : ℕ) (r : RuleItem) → 1 + length (cell_rules spec symbols (k, r)) ≡ plain_count spec env r
  cell-count k r = by r.list
    where
      by : (b : Bool) → 1 + length (if b then (links k r ++ last k ∷ []) else []) ≡ (if b then length (different (right_of r)) + 2 else 1)
      by true = omega (arith, length-append (links k r) (last k ∷ []), length-map (different (right_of r)) (link k))
      by false = refl

  plain-count : (k : ℕ) (rules : List RuleItem) → length (written (enumerated k rules)) + length (of_cells (enumerated k rules)) ≡ sum_by (plain_count spec env) rules
  plain-count k [] = refl
  plain-count k (r ∷ rules) = omega (arith, cell-count k r, length-append (cell_rules spec symbols (k, r)) (of_cells (enumerated (suc k) rules)), plain-count (suc k) rules, sum_by-cons (plain_count spec env) r rules)

  module _ (none : HasNone (table_faults spec env)) where
    few-plain : length (plain_rules spec symbols) ≤ 1024
    few-plain =
        let not : 1024 < sum_by (plain_count spec env) spec.rules → ⊥ = λ h. none.1.1.1.1.1.1.1.1.0 (fault.TooMany many.Rules) (too_many_rules h, refl) in
        omega (arith, not, plain-count 0 spec.rules, length-append (written (enumerated 0 spec.rules)) (of_cells (enumerated 0 spec.rules)))

    few-elements : (r : RuleItem) → Contains spec.rules r → length (right_of r) ≤ 1024
    few-elements r m =
        let not : 1024 < length (right_of r) → ⊥ = λ h. none.1.1.1.1.1.1.1.1.1.0 (fault.TooMany many.Elements) (too_many_elements r m h, refl) in
        omega (arith, not)

    written-right : (x : ℕ × RuleItem) → Contains spec.rules x.1 → length (written_rule spec symbols x).right ≤ 1024
    written-right x m = by x.1.list
      where
        by : (b : Bool) → length (if b then cell spec symbols x.0 ∷ [] else map (number spec symbols) (right_of x.1)) ≤ 1024
        by true = omega arith
        by false = omega (arith, few-elements x.1 m, length-map (right_of x.1) (number spec symbols))

    cell-right : (x : ℕ × RuleItem) (p : PlainRule) → Contains (cell_rules spec symbols x) p → length p.right ≤ 1024
    cell-right x p m = by x.1.list m
      where
        by : (b : Bool) → Contains (if b then (links x.0 x.1 ++ last x.0 ∷ []) else []) p → length p.right ≤ 1024
        by true h = elim (Contains-append_cases (links x.0 x.1) (last x.0 ∷ []) p h) [
          | inl k ↦ (let (s, there, e) = contains-map (link x.0) (different (right_of x.1)) p k in omega (arith, ap (λ (q : PlainRule). length q.right) e))
          | inr k ↦ elim (contains-cons (last x.0) p [] k) [ inl e ↦ omega (arith, ap (λ (q : PlainRule). length q.right) e) | inr n ↦ absurd (contains-nil p n) ]
        ]
        by false h = absurd (contains-nil p h)

    plain-right : (p : PlainRule) → Contains (plain_rules spec symbols) p → length p.right ≤ 1024
    plain-right p m = elim (Contains-append_cases (written (enumerated 0 spec.rules)) (of_cells (enumerated 0 spec.rules)) p m) [
      | inl k ↦ (let (x, there, e) = contains-map (written_rule spec symbols) (enumerated 0 spec.rules) p k in
          subst (λ (q : PlainRule). length q.right ≤ 1024) e (written-right x (enumerated-part 0 spec.rules x there)))
      | inr k ↦ (let (x, there, n) = contains-flat (cell_rules spec symbols) (enumerated 0 spec.rules) p k in cell-right x p n)
    ]

    are-few : (later : Environment) (plain : List FlatRule) → AllZip (IsPlainOf spec later symbols) (plain_rules spec symbols) plain → AreFew plain
    are-few later plain all = record {
      rules = omega (arith, few-plain, AllZip-long (IsPlainOf spec later symbols) (plain_rules spec symbols) plain all);
      right = λ rule m.
          let (i, at) = contains-place plain rule m in
          let (p, there, is) = zip-left (IsPlainOf spec later symbols) (plain_rules spec symbols) plain i rule all at in
          omega (arith, plain-right p (place-contains (plain_rules spec symbols) i p there), ap length is.right, length-map rule.right (λ (s : SymId). s.0));
    }

pub are-within : (env later : Environment) (t : Tables) → IsFromText t.spec → HasIds env.texts t.spec → Gains env.texts later.texts → HasNone (table_faults t.spec env) → AreTablesOf later t → AreWithin t
are-within env later t from ids gains none tables = record {
  symbols = few-rows env later t ids gains none tables;
  plain = are-few t.spec env (named_symbols t) none later t.plain tables.plain;
  chains = (let f = from.few_chains in omega (arith, f));
  includings = (let f = from.few_includings in omega (arith, f));
}
