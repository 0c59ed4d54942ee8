use Rattle.std.proofs.Common.{take, length}
use Rattle.std.specs.List.{AllZip}
use Rattle.lido_base.specs.Environment.{Environment}
use Rattle.lido_base.specs.Texts.{Gains}
use Rattle.flat_symbols.specs.Attributes.{IsMade}
use Rattle.flat_symbols.proofs.attributes.attributes_of.Given as goal

-- the attributes so far
abbrev pub invariant-loop-slot : goal.invariant-loop-slot
invariant-loop-slot l = record {
  made : (env : Environment) → Gains l.strings env.texts
      → AllZip (IsMade env (length l.initial.strings) l.added l.attrs) (take l.slot-index l.slots) l.made.items;
  kept : Gains l.initial.strings l.strings;
}
