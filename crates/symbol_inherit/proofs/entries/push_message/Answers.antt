use Rattle.std.proofs.Common.{◌≡◌, ◌∙◌, sym}
use Rattle.std.specs.Prelude.{true}
use Rattle.lido_syntax.specs.Computation.{is_message}
use Rattle.symbol_inherit.proofs.MessageLemmas.{message-more}
use Rattle.symbol_inherit.proofs.entries.push_message.Goals as goal

pub returns-clause-entries : goal.returns-clause-entries
returns-clause-entries c = λ t p r s x single occurs there up.
    let gives : is_message c.args.comp.now ≡ true = sym c.is_message.ensures ∙ c.if-not-is_message.false in
    message-more t p r s x single occurs c.args.count c.args.comp.now (there gives) gives c.in_ok-number.number c.in_ok-number.ensures
    c.held_by_rule-held.result c.held_by_rule-held.ensures c.args.entries.now.items c.push_held.new.entries.items up c.in_ok-push_held.ensures
