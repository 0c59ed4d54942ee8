use Rattle.std.proofs.Common.{◌≡◌, ◌≤◌, ◌∙◌, sym, ap, subst, refl, length, List, Some, arith}
use Rattle.std.specs.Prelude.{slice_get}
use Rattle.std.proofs.lemmas.Option.{slice_get_read, slice_get_within}
use Rattle.rule_tables.specs.declared.table.SymbolRow.{SymbolRow}
use Rattle.symbol_inherit.proofs.RowLemmas.{number-named}
use Rattle.symbol_inherit.proofs.clashes.clash_at.Goals as goal

pub returns-in-Some : goal.returns-in-Some
returns-in-Some c = λ env T s known numbers at.
    let t = c.args.tables.now in
    let got = c.in-Some.ensures.lookup in
    let row : slice_get t.symbols c.args.x ≡ Some c.in-Some.row.now = ap (λ (l : List SymbolRow). slice_get l c.args.x) (sym c.as_slice-rows.ensures)
    ∙ slice_get_read c.as_slice-rows.result.now (length c.as_slice-rows.result.now) c.args.x c.in-Some.row.now refl got.3.0 got.1 in
    c.row_clash.ensures env t T s known numbers at row (sym c.as_slice-chains.ensures)

pub returns-in-None : goal.returns-in-None
returns-in-None c = λ env T s known numbers at.
    let t = c.args.tables.now in
    let past : length t.symbols ≤ c.args.x = subst (λ (l : List SymbolRow). length l ≤ c.args.x) c.as_slice-rows.ensures c.in-None.ensures.lookup.3 in
    let row = number-named t env known.tables c.args.x s at in
    let w = slice_get_within t.symbols c.args.x row.0 row.1 in
    absurd (omega arith)
