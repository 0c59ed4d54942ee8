use Rattle.std.specs.Prelude.{◌≡◌, ◌∷◌, Some}
use Rattle.lido_computations.specs.Places.{words_of}
use Rattle.lido_computations.proofs.PlacesLemmas.{context_next}
use Rattle.lido_computations.proofs.places.after_context.Goals as goal

pub returns-clause-seen : goal.returns-clause-seen
returns-clause-seen c =
    let e : c.args.tokens.now ≡ c.in_ok-token.token ∷ c.in_ok-token.rest.now = c.in_ok-token.ensures in
    let d : words_of c.args.reads c.in-Key.word ≡ Some c.in_ok-place.place = cc (c.place_by_word.ensures, c.in_ok-place.was) in
    context_next (words_of c.args.reads) c.args.tokens.now c.in_ok-token.rest.now c.in_ok-token.token c.in-Key.word c.in_ok-place.place e c.in-Key.is d
