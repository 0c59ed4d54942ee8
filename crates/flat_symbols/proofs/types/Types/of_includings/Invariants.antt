use Rattle.std.proofs.Common.{take}
use Rattle.std.specs.Prelude.{filter_map}
use Rattle.flat_symbols.specs.Types.{set_type, AreTypesOf}
use Rattle.flat_symbols.proofs.types.Types.of_includings.Given as goal

-- the attributes so far
abbrev pub invariant-loop-attr : goal.invariant-loop-attr
invariant-loop-attr l = AreTypesOf (filter_map set_type (take l.attr-index l.attrs)) l.types
