use Rattle.std.proofs.Common.{arith, sym, ap, ◌∙◌, length, []}
use Rattle.std.proofs.lemmas.Option.{slice_get_within}
use Rattle.lido_base.specs.declared.ids.SymId.{SymId}
use Rattle.tree_flattener.proofs.TableLemmas.{item_at, symbol_same, none_in, end_step}
use Rattle.tree_flattener.proofs.forms.end_rule.Goals as goal
use Rattle.tree_flattener.proofs.forms.end_rule.Goals.{else-rule-cell-via-then-rule-cell+else-len-eq0, else-rule-cell-via-else-rule-cell}

pub returns-then-len-eq0 : goal.returns-then-len-eq0
returns-then-len-eq0 c = (
  c.rule-item.result,
  item_at c.as_slice-rule-items.result.now c.args.flat.now.rules c.loop-k.k c.rule-item.result c.as_slice-rule-items.ensures c.loop-k-test.true c.rule-item.is,
  symbol_same c.rule-item.result.left c.args.cell c.if-rule-cell.true,
  none_in c.rule-item.result.right (sym c.len.ensures ∙ c.if-len-eq0.true),
)

pub loop-k-preserved : goal.loop-k-preserved
loop-k-preserved c = end_step c.args.flat.now.rules c.args.cell [] [] c.loop-k.k c.rule-item.result (item_at c.as_slice-rule-items.result.now c.args.flat.now.rules c.loop-k.k c.rule-item.result c.as_slice-rule-items.ensures c.loop-k-test.true c.rule-item.is) c.loop-k.invariant
    (elim c.else-rule-cell.branch [
      | else-rule-cell-via-then-rule-cell+else-len-eq0 w ↦ λ left right. w.if-len-eq0.false (w.len.ensures ∙ ap length right)
      | else-rule-cell-via-else-rule-cell w ↦ λ left right. w.if-rule-cell.false (ap (λ (s : SymId). s.0) left)
    ])

pub unreachable-requires : goal.unreachable-requires
unreachable-requires c = let (i, (r, got, left, right)) = c.requires in
    c.loop-k.invariant i.0 r (let h = slice_get_within c.args.flat.now.rules i.0 r got in omega (arith, ap length c.as_slice-rule-items.ensures, c.loop-k-test.false)) got left right
