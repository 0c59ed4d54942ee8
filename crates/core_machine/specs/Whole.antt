-- A job in which no node is split off, whose one region is the whole order.
use Rattle.std.specs.Prelude.{[]}
use Rattle.core_machine.specs.Core.{Task}

abbrev pub undivided : Task → Task
undivided j = record j { nodes = [] }
