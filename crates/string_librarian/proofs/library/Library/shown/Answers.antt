use Rattle.std.proofs.Common.{◌≡◌, ◌∙◌, sym, ap, subst, flat_map, map}
use Rattle.lido_base.specs.Operations.{part_bytes}
use Rattle.string_librarian.specs.Denotes.{read_by}
use Rattle.string_librarian.specs.Parts.{parts_of, argument_of}
use Rattle.string_librarian.specs.Printing.{Shows, shown_of}
use Rattle.string_librarian.proofs.ShownLemmas.{opened, shows_skipped, shows_fixed, shows_argument, cut_at, cut_past}
use Rattle.string_librarian.proofs.library.Library.shown.Goals as goal

pub returns-in_default-clause-shows : goal.returns-in_default-clause-shows
returns-in_default-clause-shows c = λ texts bytes left. cc (c.in_default.is, c.piece.ensures left.deposit left.at)

pub returns-in_default-get-clause-shows : goal.returns-in_default-get-clause-shows
returns-in_default-get-clause-shows c = λ texts bytes left.
    let same : c.in-Some.piece ≡ left.deposit.piece = cc (c.in-Some.is, c.piece.ensures left.deposit left.at) in
    let parts : c.parts_of.result.now ≡ parts_of c.args.patterns.now.list left.deposit.piece = c.parts_of.ensures ∙ ap (λ p. parts_of c.args.patterns.now.list p) same in
    let got = c.in_default-get.ensures.lookup in
    left.rest ∙ ap (λ ps. flat_map (part_bytes texts c.args.top.braces (map (read_by texts left.reading) left.deposit.args)) ps)
    (cut_past c.parts_of.result.now (parts_of c.args.patterns.now.list left.deposit.piece) c.args.top.next parts got.3)

pub returns-then-is_skipped-clause-shows : goal.returns-then-is_skipped-clause-shows
returns-then-is_skipped-clause-shows c = λ texts bytes left.
    let same : c.in-Some.piece ≡ left.deposit.piece = cc (c.in-Some.is, c.piece.ensures left.deposit left.at) in
    let parts : c.parts_of.result.now ≡ parts_of c.args.patterns.now.list left.deposit.piece = c.parts_of.ensures ∙ ap (λ p. parts_of c.args.patterns.now.list p) same in
    let got = c.in-Some-get.ensures.lookup in
    let o = opened c.args.self.now c.args.patterns.now.list texts c.args.top bytes c.in-Some-get.part.now left
    (cut_at c.parts_of.result.now (parts_of c.args.patterns.now.list left.deposit.piece) c.args.top.next c.in-Some-get.part.now parts got.1 got.3.0) in
    shows_skipped c.args.self.now c.args.patterns.now.list texts c.args.top bytes c.in-Some-get.part.now o (sym c.is_skipped.ensures ∙ c.if-is_skipped.true)

pub returns-in-Fixed-clause-shows : goal.returns-in-Fixed-clause-shows
returns-in-Fixed-clause-shows c = λ texts bytes left.
    let same : c.in-Some.piece ≡ left.deposit.piece = cc (c.in-Some.is, c.piece.ensures left.deposit left.at) in
    let parts : c.parts_of.result.now ≡ parts_of c.args.patterns.now.list left.deposit.piece = c.parts_of.ensures ∙ ap (λ p. parts_of c.args.patterns.now.list p) same in
    let got = c.in-Some-get.ensures.lookup in
    let o = opened c.args.self.now c.args.patterns.now.list texts c.args.top bytes c.in-Some-get.part.now left
    (cut_at c.parts_of.result.now (parts_of c.args.patterns.now.list left.deposit.piece) c.args.top.next c.in-Some-get.part.now parts got.1 got.3.0) in
    shows_fixed c.args.self.now c.args.patterns.now.list texts c.args.top bytes c.in-Some-get.part.now c.in-Fixed.text o (sym c.is_skipped.ensures ∙ c.if-is_skipped.false) c.in-Fixed.is

pub returns-in-Arg-clause-shows : goal.returns-in-Arg-clause-shows
returns-in-Arg-clause-shows c = λ texts bytes left.
    let same : c.in-Some.piece ≡ left.deposit.piece = cc (c.in-Some.is, c.piece.ensures left.deposit left.at) in
    let parts : c.parts_of.result.now ≡ parts_of c.args.patterns.now.list left.deposit.piece = c.parts_of.ensures ∙ ap (λ p. parts_of c.args.patterns.now.list p) same in
    let got = c.in-Some-get.ensures.lookup in
    let o = opened c.args.self.now c.args.patterns.now.list texts c.args.top bytes c.in-Some-get.part.now left
    (cut_at c.parts_of.result.now (parts_of c.args.patterns.now.list left.deposit.piece) c.args.top.next c.in-Some-get.part.now parts got.1 got.3.0) in
    let value : c.shown_value.result ≡ shown_of (argument_of o.deposit.args c.in-Arg.k) = c.shown_value.ensures ∙ ap shown_of (c.argument.ensures o.deposit o.at) in
    subst (λ s. Shows c.args.self.now c.args.patterns.now.list texts c.args.top bytes s) (sym value)
    (shows_argument c.args.self.now c.args.patterns.now.list texts c.args.top bytes c.in-Some-get.part.now c.in-Arg.k o (sym c.is_skipped.ensures ∙ c.if-is_skipped.false) c.in-Arg.is)
