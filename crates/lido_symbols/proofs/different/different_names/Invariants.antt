use Rattle.std.proofs.Common.{◌≡◌, map, take}
use Rattle.lido_syntax.specs.Production.{name_of}
use Rattle.lido_symbols.specs.Numbers.{different}
use Rattle.lido_symbols.proofs.different.different_names.Given as goal

-- the different names so far
abbrev pub invariant-loop-name : goal.invariant-loop-name
invariant-loop-name l = l.found ≡ different (map name_of (take l.name-index l.names))
