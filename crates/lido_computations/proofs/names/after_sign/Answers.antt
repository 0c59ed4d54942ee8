use Rattle.std.specs.Prelude.{◌≡◌, ◌∷◌, IsTrue}
use Rattle.lido_lexer.specs.declared.token.TokenKind.TheVariants as kind
use Rattle.lido_computations.proofs.PhrasesLemmas.{sees_next, sees_other}
use Rattle.lido_computations.proofs.names.after_sign.Goals as goal

pub returns-then-is_sign-clause-seen : goal.returns-then-is_sign-clause-seen
returns-then-is_sign-clause-seen c =
    let e : c.args.tokens.now ≡ c.in_ok-token.token ∷ c.in_ok-token.rest.now = c.in_ok-token.ensures in
    sees_next (kind.Sign c.args.wanted) c.args.tokens.now c.in_ok-token.rest.now c.in_ok-token.token e (c.is_sign.ensures.0 c.if-is_sign.true)

pub returns-else-is_sign-clause-seen : goal.returns-else-is_sign-clause-seen
returns-else-is_sign-clause-seen c =
    let e : c.args.tokens.now ≡ c.in_ok-token.token ∷ c.in_ok-token.rest.now = c.in_ok-token.ensures in
    sees_other (kind.Sign c.args.wanted) c.args.tokens.now c.in_ok-token.rest.now c.in_ok-token.token e (λ d. let is_it : IsTrue c.is_sign.result = c.is_sign.ensures.1 d in cc (c.if-is_sign.false))
