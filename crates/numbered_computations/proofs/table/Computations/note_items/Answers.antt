use Rattle.std.proofs.Common.{◌∙◌, ap}
use Rattle.lido_syntax.specs.declared.spec.Comp.{Comp}
use Rattle.lido_syntax.specs.declared.spec.SymbolItem.{SymbolItem}
use Rattle.std.proofs.Common.{List}
use Rattle.numbered_computations.specs.declared.table.Holder.TheVariants as holder
use Rattle.numbered_computations.specs.Held.{held_at, held_by, last_of}
use Rattle.numbered_computations.proofs.HeldLemmas.{flat-more}
use Rattle.numbered_computations.proofs.table.Computations.note_items.Goals as goal

pub loop-item-preserved : goal.loop-item-preserved
loop-item-preserved c = λ n.
    flat-more (λ (item : SymbolItem). held_by holder.Symbol item.body) n c.args.items.now c.loop-item.item-index c.item-item.result (held_at c.args.self.now n) (held_at c.loop-item.self n) (held_at c.note_body.new.self n)
    c.loop-item-test.true c.item-item.is (c.loop-item.invariant n)
    (c.in_ok-note_body.ensures n ∙ ap (λ (body : List Comp). last_of n (held_at c.loop-item.self n) (held_by holder.Symbol body)) c.as_slice.ensures)
