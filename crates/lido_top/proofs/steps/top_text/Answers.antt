use Rattle.std.proofs.Common.{◌∙◌, sym}
use Rattle.lido_base.specs.Phases.{the_one}
use Rattle.sum_trees.specs.declared.form.FormFault.TheVariants as fault
use Rattle.lido_top.specs.Steps.{IsTopText}
use Rattle.lido_top.proofs.steps.top_text.Goals as goal

pub returns : goal.returns
returns c =
    let text : IsTopText c.args.values.now _ = c.in_ok-to_string.ensures.ok in
    the_one (IsTopText c.args.values.now) fault.Outside _ text (λ other is. is ∙ sym text)
