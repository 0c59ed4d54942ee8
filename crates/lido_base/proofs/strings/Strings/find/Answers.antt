use Rattle.std.proofs.Common.{◌≡◌, false, slice_get, sym, ap, ◌∙◌}
use Rattle.std.specs.List.{list_any}
use Rattle.std.specs.Str.{bytes_eq}
use Rattle.lido_base.proofs.TextsLemmas.{list_any-texts, slice_get-position, text_at_no_place}
use Rattle.lido_base.proofs.strings.Strings.find.Goals as goal

pub returns-in-Some-clause-there : goal.returns-in-Some-clause-there
returns-in-Some-clause-there c =
    ap (λ l. slice_get l c.in-Some.index) (sym c.self.view_is) ∙ slice_get-position c.args.text.now c.self.inside.set.keys c.in-Some.index (sym c.in-Some.ensures.index)

pub returns-in-None-clause-absent : goal.returns-in-None-clause-absent
returns-in-None-clause-absent c =
    let t = c.args.text.now in
    let none : list_any (bytes_eq t) c.args.self.now ≡ false = ap (list_any (bytes_eq t)) (sym c.self.view_is) ∙ sym (list_any-texts t c.self.inside.set.keys) ∙ sym c.in-None.ensures.found in
    text_at_no_place t c.args.self.now none
