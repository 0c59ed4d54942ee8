use Rattle.std.proofs.Common.{◌≡◌, take, filter_map}
use Rattle.lido_syntax.specs.Production.{symbol_of}
use Rattle.lido_symbols.specs.Occurrences.{numbers}
use Rattle.lido_symbols.proofs.production.right_symbols.Given as goal

abbrev pub invariant-loop-element : goal.invariant-loop-element
invariant-loop-element l = numbers l.symbols.items ≡ filter_map symbol_of (take l.element-index l.element-items)
