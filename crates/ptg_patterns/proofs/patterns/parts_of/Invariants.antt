use Rattle.std.proofs.Common.{◌≡◌, take}
use Rattle.ptg_patterns.specs.Clashes.{IsMixed}
use Rattle.ptg_patterns.specs.First.{HasNoClash}
use Rattle.ptg_patterns.specs.Meaning.{parts, points}
use Rattle.ptg_patterns.specs.Tables.{RecordsPoints}
use Rattle.ptg_patterns.proofs.patterns.parts_of.Given as goal

abbrev pub invariant-loop-item : goal.invariant-loop-item
invariant-loop-item l = record {
  keeps : RecordsPoints l.arguments (points (take l.item-index l.items));
  parts : l.parts.items ≡ parts 1 (take l.item-index l.items);
  agrees : HasNoClash IsMixed (points (take l.item-index l.items));
}
