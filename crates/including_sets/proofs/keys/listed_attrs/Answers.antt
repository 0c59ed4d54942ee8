use Rattle.std.proofs.Common.{◌∙◌, [], Some, None, ap, sym, append-nil}
use Rattle.rule_tables.specs.declared.table.SymbolRow.{SymbolRow}
use Rattle.need_graphs.proofs.ListLemmas.{numbered-next}
use Rattle.including_sets.specs.Keys.{listed_in}
use Rattle.including_sets.proofs.keys.listed_attrs.Goals as goal
use Rattle.including_sets.proofs.keys.listed_attrs.Goals.{in-Some+in_ok-push, in_default}

pub loop-x-preserved : goal.loop-x-preserved
loop-x-preserved c =
    let h = listed_in c.args.symbols.now c.args.pairs.now in
    let k = c.loop-x.x in
    let row = c.index-rows-x.result in
    let old = c.loop-x.attrs.items in
    elim c.match-listed_at.branch [
      | in-Some+in_ok-push w ↦ ap (λ v. v.items) w.attrs-is
          ∙ numbered-next h c.args.rows.now k row (Some w.in-Some.attr) [] old _ c.loop-x-test.true (ap (λ (r : SymbolRow). h (k, r)) (sym c.index-rows-x.is) ∙ sym w.in-Some.ensures) c.loop-x.invariant w.in_ok-push.ensures.items
      | in_default w ↦ ap (λ v. v.items) w.attrs-is
          ∙ numbered-next h c.args.rows.now k row None [] old old c.loop-x-test.true (ap (λ (r : SymbolRow). h (k, r)) (sym c.index-rows-x.is) ∙ sym c.listed_at.ensures ∙ w.in_default.is) c.loop-x.invariant (sym (append-nil old))
    ]
