-- What stands at an occurrence, as the tree has it.
use Rattle.std.specs.Prelude.{Bool, false, is_some, List, Some, None, slice_get}
use Rattle.lido_base.specs.declared.ids.SymId.{SymId}
use Rattle.flat_grammar.specs.declared.flat.FlatSymbol.{FlatSymbol}
use Rattle.lido_base.specs.declared.value.Value.{Value}
use Rattle.lido_base.specs.Tree.{Item, Child, Leaf}
use Rattle.core_machine.specs.declared.site.Standing.{Standing}
use Rattle.core_machine.specs.declared.site.Standing.TheVariants.{Node, Terminal}

-- the item of the tree
abbrev pub item_of : Standing → Item Value
item_of (Node c) = Child c.0
item_of (Terminal v) = Leaf v

-- the symbol is a terminal
abbrev pub is_terminal_symbol : List FlatSymbol → SymId → Bool
is_terminal_symbol symbols s = elim (slice_get symbols s.0) [ None ↦ false | Some x ↦ is_some x.terminal ]
