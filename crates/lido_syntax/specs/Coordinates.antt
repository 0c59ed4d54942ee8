-- LINE and COL: bare names that are the line and the column of the context node (this profile's own).
use Rattle.std.specs.Prelude.{ℕ, ℤ, if◌then◌else◌, List, Option, Some, None, codes}
use Rattle.std.specs.Str.{bytes_eq}
use Rattle.lido_base.specs.declared.kinds.CoordPart.{CoordPart}
use Rattle.lido_base.specs.declared.kinds.CoordPart.TheVariants.{Line, Col}
use Rattle.lido_base.specs.Environment.{Environment}
use Rattle.lido_base.specs.Tree.{contains}
use Rattle.lido_syntax.specs.declared.spec.Name.{Name}
use Rattle.lido_syntax.specs.declared.spec.RuleItem.{RuleItem}
use Rattle.lido_syntax.specs.Production.{name_of, symbols_of}
use Rattle.lido_syntax.specs.Computation.{Holder, by_rule, by_symbol}
use Rattle.lido_syntax.specs.Functions.{text_of}

-- the coordinate that has this name
abbrev pub part_named : List ℕ → Option CoordPart
part_named text = if bytes_eq text (codes "LINE") then Some Line else if bytes_eq text (codes "COL") then Some Col else None

-- The coordinate that a bare name means, if it means one: it has no index, and in a rule's own computation no symbol of the production has the name.
abbrev pub coordinate_named : Environment → Holder → RuleItem → Name → Option ℤ → Option CoordPart
coordinate_named env by_rule r x None = if contains (name_of x) (symbols_of r) then None else part_named (text_of env (name_of x))
coordinate_named env by_symbol r x None = part_named (text_of env (name_of x))
coordinate_named env h r x (Some i) = None
