use Rattle.std.proofs.Common.{◌≡◌, ◌∙◌, ap, sym, subst, length, List, ◌<◌}
use Rattle.std.specs.Prelude.{slice_index_or, All}
use Rattle.flat_grammar.specs.declared.flat.FlatSymbol.{FlatSymbol}
use Rattle.induced_deps.proofs.GrowthLemmas.{rows_push, one_symbol_more}
use Rattle.induced_deps.proofs.growth.empty_rows.Goals as goal

pub loop-symbol-preserved : goal.loop-symbol-preserved
loop-symbol-preserved c =
    let l = c.loop-symbol in
    rw c.in_ok-push.ensures.items (record {
      rows = one_symbol_more c.args.flat.now.symbols l.ids.items c.from_vec.result l.symbol-index c.symbol-item.result c.symbol-item.result
          (subst (λ (xs : List FlatSymbol). l.symbol-index < length xs) c.as_slice-symbol-items.ensures c.loop-symbol-test.true)
          (c.symbol-item.is ∙ ap (λ (xs : List FlatSymbol). slice_index_or xs l.symbol-index c.symbol-item.result) c.as_slice-symbol-items.ensures)
          (ap length c.from_vec.ensures ∙ c.in_ok-rows.ensures.size ∙ c.len.ensures) l.invariant.rows;
      none = rows_push l.ids.items c.from_vec.result l.invariant.none (subst (All (λ row. row ≡ 0)) (sym c.from_vec.ensures) c.in_ok-rows.ensures.zero);
    })
