-- The computations of bodies, with what they give values to.
use Rattle.std.specs.Prelude.{ℕ, List, [], flat_map, filter_map, Option, Some, None, option_map}
use Rattle.lido_syntax.specs.declared.spec.Comp.{Comp}
use Rattle.lido_syntax.specs.declared.spec.Name.{Name}
use Rattle.lido_syntax.specs.declared.spec.RuleItem.{RuleItem}
use Rattle.lido_syntax.specs.declared.spec.SymbolItem.{SymbolItem}
use Rattle.lido_syntax.specs.Production.{name_of}
use Rattle.rule_tables.specs.declared.table.SymbolRow.{SymbolRow}
use Rattle.symbol_inherit.specs.Rows.{row_number}
use Rattle.computation_aims.specs.Aims.{aim_in_symbol, aim_in_rule}
use Rattle.computation_aims.specs.declared.aims.Aim.{Aim}
use Rattle.symbol_inherit.specs.declared.notes.Own.{Own}
use Rattle.symbol_inherit.specs.declared.notes.Note.{Note}

-- a computation's number and place
abbrev pub own_of : Comp → Own
own_of c = record { number = c.number; at = c.at }

abbrev pub note : ℕ → Comp → Aim → Note
note x c aim = record { place = x; aim = aim; own = own_of c }

-- the computations of a symbol's body
abbrev pub body_notes : ℕ → List Comp → List Note
body_notes x = filter_map (λ (c : Comp). option_map (note x c) (aim_in_symbol c.target))

-- those of a symbol that may have a number
abbrev pub numbered_notes : List Comp → Option ℕ → List Note
numbered_notes body None = []
numbered_notes body (Some x) = body_notes x body

-- those of an item, once for each of its symbols
abbrev pub item_notes : List SymbolRow → SymbolItem → List Note
item_notes rows item = flat_map (λ (name : Name). numbered_notes item.body (row_number rows (name_of name))) item.names

-- those of all items
abbrev pub all_notes : List SymbolRow → List SymbolItem → List Note
all_notes rows = flat_map (item_notes rows)

-- a computation of a rule, if it gives a value to an attribute or a chain
abbrev pub placed : Comp → ℕ × Aim → Note
placed c p = record { place = p.0; aim = p.1; own = own_of c }

abbrev pub rule_note : List ℕ → RuleItem → Comp → Option Note
rule_note chains r c = option_map (placed c) (aim_in_rule chains r c.target)

-- those of a rule
abbrev pub rule_notes : List ℕ → RuleItem → List Note
rule_notes chains r = filter_map (rule_note chains r) r.body
