use Rattle.std.specs.Prelude.{◌≡◌, ◌∷◌, IsTrue}
use Rattle.lido_computations.proofs.PhrasesLemmas.{sees_next, sees_other}
use Rattle.lido_computations.proofs.messages.after_token.Goals as goal

pub returns-then-says-clause-seen : goal.returns-then-says-clause-seen
returns-then-says-clause-seen c =
    let e : c.args.tokens.now ≡ c.in_ok-token.token ∷ c.in_ok-token.rest.now = c.in_ok-token.ensures in
    sees_next c.args.wanted c.args.tokens.now c.in_ok-token.rest.now c.in_ok-token.token e (c.says.ensures.0 c.if-says.true)

pub returns-else-says-clause-seen : goal.returns-else-says-clause-seen
returns-else-says-clause-seen c =
    let e : c.args.tokens.now ≡ c.in_ok-token.token ∷ c.in_ok-token.rest.now = c.in_ok-token.ensures in
    sees_other c.args.wanted c.args.tokens.now c.in_ok-token.rest.now c.in_ok-token.token e (λ d. let is_it : IsTrue c.says.result = c.says.ensures.1 d in cc (c.if-says.false))
