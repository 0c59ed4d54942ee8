use Rattle.std.proofs.Common.{◌∙◌, subst, List}
use Rattle.symbol_inherit.specs.Index.{Holds}
use Rattle.symbol_inherit.specs.declared.notes.Note.{Note}
use Rattle.symbol_inherit.proofs.RuleLemmas.{has-rule}
use Rattle.symbol_inherit.proofs.rule_notes.rule_index.Goals as goal

pub returns : goal.returns
returns c = λ spec are.
    has-rule spec c.args.chains.now are c.args.rule.now c.in_ok-index.index
    (subst (λ (l : List Note). Holds l c.in_ok-index.index) (c.deref.ensures.value ∙ c.in_ok-notes.ensures) c.in_ok-index.ensures)
