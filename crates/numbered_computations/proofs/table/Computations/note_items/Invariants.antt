use Rattle.std.proofs.Common.{◌≡◌, ℕ, flat_map, take}
use Rattle.lido_syntax.specs.declared.spec.SymbolItem.{SymbolItem as Item}
use Rattle.numbered_computations.specs.declared.table.Holder.TheVariants as holder
use Rattle.numbered_computations.specs.Held.{held_at, held_by, last_of}
use Rattle.numbered_computations.proofs.table.Computations.note_items.Given as goal

-- the items so far
abbrev pub invariant-loop-item : goal.invariant-loop-item
invariant-loop-item l = (n : ℕ) → held_at l.self n ≡ last_of n (held_at l.initial.self n) (flat_map (λ (item : Item). held_by holder.Symbol item.body) (take l.item-index l.items))
