use Rattle.std.specs.Prelude.{◌≡◌, ◌∷◌, Some}
use Rattle.lido_computations.specs.Phrases.{type_of}
use Rattle.lido_computations.proofs.PhrasesLemmas.{type_next}
use Rattle.lido_computations.proofs.names.after_type.Goals as goal

pub returns-clause-seen : goal.returns-clause-seen
returns-clause-seen c =
    let e : c.args.tokens.now ≡ c.in_ok-token.token ∷ c.in_ok-token.rest.now = c.in_ok-token.ensures in
    let d : type_of c.in-Key.word ≡ Some c.in_ok-type_of.field-0 = cc (c.type_of.ensures, c.in_ok-type_of.was) in
    type_next c.args.tokens.now c.in_ok-token.rest.now c.in_ok-token.token c.in-Key.word c.in_ok-type_of.field-0 e c.in-Key.is d
