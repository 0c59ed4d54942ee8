use Rattle.std.proofs.Common.{arith}
use Rattle.induced_deps.proofs.WordLemmas.{seen_halves}
use Rattle.induced_deps.proofs.row.Row.bits_from.Goals as goal

pub returns : goal.returns
returns c = seen_halves c.args.self.now.words c.args.from c.window.result c.window-2.result (omega arith) c.window.ensures c.window-2.ensures
