use Rattle.std.specs.Prelude.{◌≡◌, ◌∷◌, IsTrue}
use Rattle.lido_lexer.specs.declared.token.TokenKind.TheVariants as kind
use Rattle.lido_computations.proofs.PhrasesLemmas.{sees_next, sees_other}
use Rattle.lido_computations.proofs.names.after_key.Goals as goal

pub returns-then-is_key-clause-seen : goal.returns-then-is_key-clause-seen
returns-then-is_key-clause-seen c =
    let e : c.args.tokens.now ≡ c.in_ok-token.token ∷ c.in_ok-token.rest.now = c.in_ok-token.ensures in
    sees_next (kind.Key c.args.wanted) c.args.tokens.now c.in_ok-token.rest.now c.in_ok-token.token e (c.is_key.ensures.0 c.if-is_key.true)

pub returns-else-is_key-clause-seen : goal.returns-else-is_key-clause-seen
returns-else-is_key-clause-seen c =
    let e : c.args.tokens.now ≡ c.in_ok-token.token ∷ c.in_ok-token.rest.now = c.in_ok-token.ensures in
    sees_other (kind.Key c.args.wanted) c.args.tokens.now c.in_ok-token.rest.now c.in_ok-token.token e (λ d. let is_it : IsTrue c.is_key.result = c.is_key.ensures.1 d in cc (c.if-is_key.false))
