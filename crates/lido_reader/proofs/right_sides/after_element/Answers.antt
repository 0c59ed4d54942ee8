use Rattle.std.specs.Prelude.{◌≡◌, ◌∷◌}
use Rattle.lido_reader.proofs.RightSidesLemmas.{element_word, element_literal, no_element}
use Rattle.lido_reader.proofs.right_sides.after_element.Goals as goal

pub returns-in-Word-clause-seen : goal.returns-in-Word-clause-seen
returns-in-Word-clause-seen c =
    let e : c.args.tokens.now ≡ c.in_ok-token.token ∷ c.in_ok-token.rest.now = c.in_ok-token.ensures in
    element_word c.args.tokens.now c.in_ok-token.rest.now c.in_ok-token.token c.in-Word.id e c.in-Word.is

pub returns-in-Literal-clause-seen : goal.returns-in-Literal-clause-seen
returns-in-Literal-clause-seen c =
    let e : c.args.tokens.now ≡ c.in_ok-token.token ∷ c.in_ok-token.rest.now = c.in_ok-token.ensures in
    element_literal c.args.tokens.now c.in_ok-token.rest.now c.in_ok-token.token c.in-Literal.id e c.in-Literal.is

pub returns-in_default-clause-seen : goal.returns-in_default-clause-seen
returns-in_default-clause-seen c =
    let e : c.args.tokens.now ≡ c.in_ok-token.token ∷ c.in_ok-token.rest.now = c.in_ok-token.ensures in
    no_element c.args.tokens.now c.in_ok-token.rest.now c.in_ok-token.token e c.in_default.not-Word c.in_default.not-Literal
