use Rattle.std.proofs.Common.{◌≡◌, ◌++◌, take, flat_map}
use Rattle.lido_syntax.specs.declared.spec.Name.{Name}
use Rattle.lido_syntax.specs.Production.{name_of}
use Rattle.symbol_inherit.specs.Notes.{numbered_notes}
use Rattle.symbol_inherit.specs.Rows.{row_number}
use Rattle.symbol_inherit.proofs.notes.note_item.Given as goal

abbrev pub invariant-loop-name : goal.invariant-loop-name
invariant-loop-name l = l.notes.items ≡ l.initial.notes.items ++ flat_map (λ (name : Name). numbered_notes l.item.body (row_number l.rows (name_of name))) (take l.name-index l.item.names)
