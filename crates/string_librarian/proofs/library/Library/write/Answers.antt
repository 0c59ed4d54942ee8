use Rattle.std.proofs.Common.{◌≡◌, ◌∙◌, [], sym, subst}
use Rattle.std.proofs.KnownBytes.{Appends-nil}
use Rattle.std.specs.Io.KnownBytes.{Appends}
use Rattle.string_librarian.proofs.DenotesLemmas.{text_length}
use Rattle.string_librarian.proofs.ShownLemmas.{nothing_left}
use Rattle.string_librarian.proofs.library.Library.write.Goals as goal

pub returns-then-desc-eq0-clause-all : goal.returns-then-desc-eq0-clause-all
returns-then-desc-eq0-clause-all g c = λ bytes denotes.
    let none : bytes ≡ [] = nothing_left bytes (text_length c.args.strings.now c.args.patterns.now.list c.args.self.now c.args.desc bytes denotes ∙ c.if-desc-eq0.true) in
    subst (λ b. Appends (g.K.Sink.written c.args.sink.now) (g.K.Sink.written c.args.sink.now) b) (sym none) (Appends-nil (g.K.Sink.written c.args.sink.now))
