use Rattle.std.specs.Prelude.{slice_get}
use Rattle.std.proofs.Common.{◌≡◌, ◌∙◌, Some, None, sym, ap, below_more}
use Rattle.std.proofs.lemmas.Option.{same_Some, slice_get-get_or}
use Rattle.rule_tables.specs.declared.table.SymbolRow.{SymbolRow}
use Rattle.including_sets.specs.Types.{type_by}
use Rattle.including_sets.proofs.types.listed_type.Goals as goal

pub loop-row-preserved : goal.loop-row-preserved
loop-row-preserved c =
    let rows = c.args.rows.now in
    let i = c.loop-row.row-index in
    let its = type_by c.args.symbols.now c.args.pairs.now in
    below_more (λ k. (row : SymbolRow) → slice_get rows k ≡ Some row → its row ≡ None) i c.loop-row.invariant
    (λ row at. let same : row ≡ c.row-item.result = same_Some _ _ (sym at ∙ slice_get-get_or rows i c.row-item.result c.loop-row-test.true) ∙ sym c.row-item.is in ap its same ∙ sym c.type_at.ensures ∙ c.in_default.is)
