use Rattle.std.specs.Prelude.{sum_by}
use Rattle.std.proofs.Common.{arith, refl, inl, subst, List}
use Rattle.lido_syntax.specs.declared.spec.Comp.{Comp}
use Rattle.lido_syntax.specs.declared.spec.SymbolItem.{SymbolItem}
use Rattle.table_faults.specs.Limits.{Counts, size_of}
use Rattle.table_faults.proofs.LimitsLemmas.{counts-step, counts-end}
use Rattle.table_faults.proofs.limits.symbols_size.Goals as goal

pub loop-item-init : goal.loop-item-init
loop-item-init c = inl refl

pub loop-item-preserved : goal.loop-item-preserved
loop-item-preserved c = counts-step (λ (item : SymbolItem). sum_by size_of item.body) c.args.items.now c.loop-item.item-index c.item-item.result c.item-item.result c.loop-item.size _ _ c.loop-item-test.true c.item-item.is c.loop-item.invariant
    (subst (λ (body : List Comp). Counts (sum_by size_of body) c.in_ok-body_size.field-0) c.as_slice.ensures c.in_ok-body_size.ensures) c.saturating_add-size.ensures

pub returns : goal.returns
returns c = counts-end (λ (item : SymbolItem). sum_by size_of item.body) c.args.items.now c.loop-item.item-index c.loop-item.size (omega arith) c.loop-item.invariant
