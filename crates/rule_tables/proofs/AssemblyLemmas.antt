-- The tables of their specification, from their parts.
use Rattle.std.specs.Prelude.{filter, filter_map, slice_get, nat_eq}
use Rattle.std.specs.List.{AllZip}
use Rattle.std.proofs.Common.{◌≡◌, ℕ, ◌+◌, List, ◌++◌, length, Some, sym, subst}
use Rattle.lido_base.specs.Environment.{Environment}
use Rattle.lido_base.specs.declared.ids.SymId.{SymId}
use Rattle.flat_grammar.specs.declared.flat.FlatRule.{FlatRule}
use Rattle.flat_grammar.specs.declared.flat.Shape.{Shape}
use Rattle.lido_syntax.specs.declared.spec.Spec.{Spec}
use Rattle.lido_syntax.specs.declared.spec.RuleItem.{RuleItem}
use Rattle.lido_syntax.specs.Symbols.{IsRoot}
use Rattle.lido_symbols.specs.Numbers.{AreNumbered, enumerated}
use Rattle.lido_symbols.specs.Uses.{symbol_uses}
use Rattle.rule_tables.specs.declared.table.SymbolRow.{SymbolRow}
use Rattle.rule_tables.specs.PlainRules.{plain_rules, lists, number, IsShapeOf}
use Rattle.rule_tables.specs.TablesOf.{symbol_named, IsRowOf, IsCellOf, IsPlainOf, AreTablesOf}
use Rattle.rule_tables.proofs.PlainLemmas.{is_list}
use Rattle.rule_tables.proofs.TableLemmas.{names-same, count-same, row-at, cell-at-list}

module _ (spec : Spec) (env : Environment) (symbols : List ℕ) (numbered : AreNumbered nat_eq (symbol_uses spec env) symbols)
    (rows cells : List SymbolRow) (are-rows : AllZip (IsRowOf spec env symbols) symbols rows) (are-cells : AllZip (IsCellOf spec env symbols) (filter is_list spec.rules) cells)
    (root : SymId) (is-root : (s : ℕ) × IsRoot spec s × (root.0 ≡ number spec symbols s))
    (plain : List FlatRule) (are-plain : AllZip (IsPlainOf spec env symbols) (plain_rules spec symbols) plain)
    (shapes : List Shape) (are-shapes : AllZip (IsShapeOf spec symbols) (enumerated 0 spec.rules) shapes) where
  same : filter_map symbol_named (rows ++ cells) ≡ symbols
  same = names-same spec env symbols rows cells are-rows are-cells

  together : AreTablesOf env (record { spec = spec; symbols = rows ++ cells; root = root; plain = plain; shapes = shapes })
  together = record {
    numbers = subst (AreNumbered nat_eq (symbol_uses spec env)) (sym same) numbered;
    count = subst (λ l. length (rows ++ cells) ≡ length l + length (lists spec l)) (sym same) (count-same spec env symbols rows cells are-rows are-cells);
    rows = subst (λ l. (x s : ℕ) (row : SymbolRow) → slice_get l x ≡ Some s → slice_get (rows ++ cells) x ≡ Some row → IsRowOf spec env l s row) (sym same)
        (row-at spec env symbols rows cells are-rows are-cells);
    cells = subst (λ l. (k i : ℕ) (r : RuleItem) (row : SymbolRow) → slice_get (lists spec l) k ≡ Some i → slice_get spec.rules i ≡ Some r → slice_get (rows ++ cells) (length l + k) ≡ Some row → IsCellOf spec env l r row) (sym same)
        (cell-at-list spec env symbols rows cells are-rows are-cells);
    root = subst (λ l. (s : ℕ) × IsRoot spec s × (root.0 ≡ number spec l s)) (sym same) is-root;
    plain = subst (λ l. AllZip (IsPlainOf spec env l) (plain_rules spec l) plain) (sym same) are-plain;
    shapes = subst (λ l. AllZip (IsShapeOf spec l) (enumerated 0 spec.rules) shapes) (sym same) are-shapes;
  }

  pub are-tables : (all : List SymbolRow) (flat : List FlatRule) → all ≡ rows ++ cells → flat ≡ plain → AreTablesOf env (record { spec = spec; symbols = all; root = root; plain = flat; shapes = shapes })
  are-tables all flat e f =
      subst (λ l. AreTablesOf env (record { spec = spec; symbols = l; root = root; plain = flat; shapes = shapes })) (sym e)
      (subst (λ l. AreTablesOf env (record { spec = spec; symbols = rows ++ cells; root = root; plain = l; shapes = shapes })) (sym f) together)
