use Rattle.std.proofs.Common.{◌≡◌, ◌∙◌, ap}
use Rattle.std.specs.List.{list_all}
use Rattle.string_librarian.specs.Parts.{is_full, parts_of}
use Rattle.string_librarian.proofs.library.Library.braces.Goals as goal

pub returns-in-Some : goal.returns-in-Some
returns-in-Some c = λ d at.
    let same : c.in-Some.piece ≡ d.piece = cc (c.in-Some.is, c.piece.ensures d at) in
    c.are_full.ensures d at ∙ ap (λ ps. list_all (is_full d.args) ps) (c.parts_of.ensures ∙ ap (λ p. parts_of c.args.patterns.now.list p) same)

pub returns-in-None : goal.returns-in-None
returns-in-None c = λ d at. cc (c.in-None.is, c.piece.ensures d at)
