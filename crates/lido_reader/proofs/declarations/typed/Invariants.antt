use Rattle.std.proofs.Common.{◌≡◌, take}
use Rattle.lido_reader.specs.Items.{typed}
use Rattle.lido_reader.proofs.declarations.typed.Given as goal

abbrev pub invariant-loop-name : goal.invariant-loop-name
invariant-loop-name l = l.all.items ≡ typed (take l.name-index l.names) l.ty
