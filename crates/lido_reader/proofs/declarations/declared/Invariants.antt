use Rattle.std.proofs.Common.{◌≡◌, take}
use Rattle.lido_reader.specs.Items.{declared}
use Rattle.lido_reader.proofs.declarations.declared.Given as goal

abbrev pub invariant-loop-name : goal.invariant-loop-name
invariant-loop-name l = l.all.items ≡ declared (take l.name-index l.names) l.ty l.kind
