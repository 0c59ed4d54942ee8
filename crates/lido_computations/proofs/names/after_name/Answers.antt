use Rattle.std.specs.Prelude.{◌≡◌, ◌∷◌}
use Rattle.lido_computations.proofs.PhrasesLemmas.{name_next}
use Rattle.lido_computations.proofs.names.after_name.Goals as goal

pub returns-in-Word-clause-seen : goal.returns-in-Word-clause-seen
returns-in-Word-clause-seen c =
    let e : c.args.tokens.now ≡ c.in_ok-token.token ∷ c.in_ok-token.rest.now = c.in_ok-token.ensures in
    name_next c.args.tokens.now c.in_ok-token.rest.now c.in_ok-token.token c.in-Word.id e c.in-Word.is
