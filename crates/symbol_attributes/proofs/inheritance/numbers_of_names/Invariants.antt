use Rattle.std.proofs.Common.{◌≡◌, take}
use Rattle.symbol_attributes.specs.Inheritance.{numbers_of}
use Rattle.symbol_attributes.proofs.inheritance.numbers_of_names.Given as goal

abbrev pub invariant-loop-name : goal.invariant-loop-name
invariant-loop-name l = l.list.items ≡ numbers_of l.numbers (take l.name-index l.names)
