-- Rows of the table of types, as the code has them.
use Rattle.std.specs.Prelude.{List, map}
use Rattle.lido_base.specs.declared.pattern.Pattern.{Pattern}
use Rattle.lido_base.specs.declared.value.ValueType.TheVariants.{Text}
use Rattle.lido_base.specs.Types.{Signature, of_types}
use Rattle.expr_types.specs.declared.rows.Row.{Row}

-- the row of these types
abbrev pub signature_of : Row → Signature
signature_of row = of_types row.args.now row.gives

abbrev pub signatures_of : List Row → List Signature
signatures_of rows = map signature_of rows

-- the row of a pattern's function
abbrev pub pattern_signature : Pattern → Signature
pattern_signature pattern = of_types pattern.args Text
