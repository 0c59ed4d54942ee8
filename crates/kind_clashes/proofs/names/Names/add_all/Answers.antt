use Rattle.std.proofs.Common.{arith}
use Rattle.kind_clashes.proofs.NamesLemmas.{more-end, names-among}
use Rattle.kind_clashes.proofs.names.Names.add_all.Goals as goal

pub returns : goal.returns
returns c = names-among c.args.names.now (more-end (omega arith) c.loop-name.invariant)
