use Rattle.std.specs.Prelude.{refl}
use Rattle.std.proofs.Common.{rules, FitsSigned, w64, to_z-of_z}
use Rattle.lido_base.specs.Reading.{nothing}
use Rattle.lido_computations.proofs.PlacesLemmas.{int_finds, int_refuses}
use Rattle.lido_computations.proofs.places.int.Goals as goal

pub returns-in-Some-clause-reads : goal.returns-in-Some-clause-reads
returns-in-Some-clause-reads c =
    let fits : FitsSigned w64 c.in-Some.i = search rules in
    rw (to_z-of_z fits) (int_finds nothing _ _ _ c.in-Some.ensures.seen)

pub returns-in-None-clause-reads : goal.returns-in-None-clause-reads
returns-in-None-clause-reads c =
    rw c.stop.ensures (c.args.tokens.now, int_refuses nothing c.args.tokens.now c.in-None.ensures.seen, refl)
