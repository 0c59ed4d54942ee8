use Rattle.std.specs.Prelude.{◌≡◌, ◌∷◌}
use Rattle.std.proofs.Common.{rules, FitsSigned, w64, to_z-of_z}
use Rattle.lido_computations.proofs.PlacesLemmas.{int_next}
use Rattle.lido_computations.proofs.places.after_int.Goals as goal

pub returns-in-Int-clause-seen : goal.returns-in-Int-clause-seen
returns-in-Int-clause-seen c =
    let e : c.args.tokens.now ≡ c.in_ok-token.token ∷ c.in_ok-token.rest.now = c.in_ok-token.ensures in
    let fits : FitsSigned w64 c.in-Int.i = search rules in
    rw (to_z-of_z fits) (int_next c.args.tokens.now c.in_ok-token.rest.now c.in_ok-token.token _ e c.in-Int.is)
