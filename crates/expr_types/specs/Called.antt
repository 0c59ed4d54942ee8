-- The functions that an expression calls.
use Rattle.std.specs.Prelude.{List, flat_map}
use Rattle.lido_syntax.specs.declared.spec.Expr.{Expr}
use Rattle.lido_syntax.specs.declared.spec.Name.{Name}
use Rattle.lido_syntax.specs.Parts.{parts}
use Rattle.lido_symbols.specs.Uses.{functions_of_part}

-- from the outside in and from the left
abbrev pub called_in : Expr → List Name
called_in e = flat_map functions_of_part (parts e)
