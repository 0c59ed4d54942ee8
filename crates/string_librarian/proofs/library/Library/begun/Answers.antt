use Rattle.std.proofs.Common.{refl}
use Rattle.string_librarian.proofs.ShownLemmas.{begun_left}
use Rattle.string_librarian.proofs.library.Library.begun.Goals as goal

pub returns-clause-left : goal.returns-clause-left
returns-clause-left c = λ texts bytes denotes some. begun_left c.args.self.now c.args.patterns.now.list texts _ bytes refl some c.braces.ensures c.args.desc refl denotes
