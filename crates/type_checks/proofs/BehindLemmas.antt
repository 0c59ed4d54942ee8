-- A plain rule behind those of the written rules has the cell of its list on the left side.
use Rattle.std.specs.Prelude.{slice_get, length}
use Rattle.std.proofs.Common.{◌≡◌, ℕ, ◌-◌, ◌<◌, ◌≤◌, List, Some, sym, subst, ◌∙◌, arith}
use Rattle.std.proofs.lemmas.Option.{same_Some, slice_get_within}
use Rattle.lido_base.specs.Environment.{Environment}
use Rattle.flat_grammar.specs.declared.flat.FlatRule.{FlatRule}
use Rattle.rule_tables.specs.declared.table.Tables.{Tables}
use Rattle.rule_tables.specs.PlainRules.{PlainRule, plain_rules, lists}
use Rattle.rule_tables.specs.TablesOf.{named_symbols, AreTablesOf}
use Rattle.type_checks.proofs.WrittenLemmas.{IsCellRule, behind-written, list-number, left-behind, named-count}
use Rattle.type_checks.proofs.EntryLemmas.{flat-here}

module _ (t : Tables) (env : Environment) (is : AreTablesOf env t) (numbers : List ℕ) (same : numbers ≡ lists t.spec (named_symbols t)) (j : ℕ) (p : PlainRule)
    (at : slice_get (plain_rules t.spec (named_symbols t)) j ≡ Some p) (past : length t.spec.rules ≤ j) (flat : FlatRule) (its : slice_get t.plain j ≡ Some flat) (symbols : ℕ) (count : symbols ≡ length t.symbols) where
  cell-rule-here : IsCellRule t.spec (named_symbols t) p
  cell-rule-here = behind-written t.spec (named_symbols t) j p past at

  pub enough-left : symbols - length numbers ≤ flat.left.0
  enough-left =
      let rows = named-count t env is numbers same in
      let behind = left-behind t.spec (named_symbols t) p cell-rule-here in
      let left = (flat-here t env is j p flat at its).left in
      omega (arith, rows, behind, left, count)

  pub number-there : slice_get numbers (flat.left.0 - (symbols - length numbers)) ≡ Some p.rule
  number-there =
      let rows = named-count t env is numbers same in
      let named : symbols - length numbers ≡ length (named_symbols t) = omega (arith, rows, count) in
      list-number t.spec (named_symbols t) p numbers flat.left.0 (symbols - length numbers) cell-rule-here same (flat-here t env is j p flat at its).left named

  pub number-below : flat.left.0 - (symbols - length numbers) < length numbers
  number-below = slice_get_within numbers (flat.left.0 - (symbols - length numbers)) p.rule number-there

  pub rule-below : (i : ℕ) → slice_get numbers (flat.left.0 - (symbols - length numbers)) ≡ Some i → i < length t.spec.rules
  rule-below i e =
      let cell = cell-rule-here in
      subst (λ k. k < length t.spec.rules) (same_Some p.rule i (sym number-there ∙ e)) (slice_get_within t.spec.rules p.rule cell.rule cell.of_rule)
