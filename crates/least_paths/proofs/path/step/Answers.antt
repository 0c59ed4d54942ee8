use Rattle.std.proofs.Common.{◌∙◌, None, List, ℕ, sym, subst, get_or, arith}
use Rattle.std.specs.Prelude.{Contains}
use Rattle.std.proofs.lemmas.Option.{slice_get-get_or}
use Rattle.least_paths.proofs.PathLemmas.{nearest-step}
use Rattle.least_paths.proofs.path.step.Goals as goal

pub nearest-requires : goal.nearest-requires
nearest-requires c = λ x m. omega (arith, c.requires.graph c.args.v x (subst (λ (r : List ℕ). Contains r x) c.row.ensures m), c.requires.each)

pub returns : goal.returns
returns c = λ d at. nearest-step c.args.next.now c.args.dist.now c.row.result.now c.args.v c.in_ok-nearer.nearer d c.nearest.result (get_or c.args.dist.now c.args.v None)
    (slice_get-get_or c.args.dist.now c.args.v None c.requires.vertex) (sym c.one_less.ensures ∙ c.in_ok-nearer.was) c.row.ensures c.nearest.ensures at
