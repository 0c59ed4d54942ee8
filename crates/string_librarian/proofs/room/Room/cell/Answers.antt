use Rattle.std.proofs.Common.{◌≡◌, ◌∙◌, ◌+◌, ◌-◌, ◌++◌, ◌∷◌, arith, sym, ap, slice_get, Some}
use Rattle.std.proofs.lemmas.Option.{slice_get_past, slice_get-get_or}
use Rattle.string_librarian.specs.Cells.{deposits_of}
use Rattle.string_librarian.proofs.CellsLemmas.{cell_behind}
use Rattle.string_librarian.proofs.room.Room.cell.Goals as goal

pub returns-in-Some : goal.returns-in-Some
returns-in-Some c = λ before after d parts place.
    let kept : deposits_of c.self.inside.cells.items ≡ before ++ d ∷ after = rw (← c.self.view_is) at parts in
    let found = cell_behind c.self.inside.cells.items before d after (c.args.node - 1 + c.args.behind) c.args.behind c.self.invariant.whole kept (omega (arith, place)) in
    let same = c.deref.ensures.value in
    let got = c.in-Some.ensures.lookup in
    ap Some got.1 ∙ sym (slice_get-get_or c.deref.result.now (c.args.node - 1 + c.args.behind) c.in-Some.cell.now got.3.0)
    ∙ ap (λ l. slice_get l (c.args.node - 1 + c.args.behind)) same ∙ found

pub returns-in-None : goal.returns-in-None
returns-in-None c = λ before after d parts place.
    let kept : deposits_of c.self.inside.cells.items ≡ before ++ d ∷ after = rw (← c.self.view_is) at parts in
    let found = cell_behind c.self.inside.cells.items before d after (c.args.node - 1 + c.args.behind) c.args.behind c.self.invariant.whole kept (omega (arith, place)) in
    let same = c.deref.ensures.value in
    let got = c.in-None.ensures.lookup in
    sym (slice_get_past c.deref.result.now (c.args.node - 1 + c.args.behind) got.3)
    ∙ ap (λ l. slice_get l (c.args.node - 1 + c.args.behind)) same ∙ found
