use Rattle.std.specs.Prelude.{◌≡◌, Some, slice_get}
use Rattle.std.proofs.Common.{ap, ◌∙◌}
use Rattle.lido_base.specs.Texts.{with_text}
use Rattle.lido_reader.specs.Items.{rule_text}
use Rattle.lido_reader.proofs.TextsLemmas.{called_later}
use Rattle.lido_reader.proofs.rule_names.called.Goals as goal

pub returns-clause-id : goal.returns-clause-id
returns-clause-id c = λ texts later.
    let stands : slice_get c.intern.new.self c.in_ok-id.id.0 ≡ Some (rule_text c.args.number) = c.in_ok-id.ensures.id ∙ ap Some (c.as_bytes.ensures.value ∙ c.in_ok-text.ensures) in
    called_later c.intern.new.self texts c.args.number c.in_ok-id.id later stands

pub returns-clause-table : goal.returns-clause-table
returns-clause-table c =
    c.in_ok-id.ensures.texts ∙ ap (with_text c.args.strings.now) (c.as_bytes.ensures.value ∙ c.in_ok-text.ensures)
