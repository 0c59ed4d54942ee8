use Rattle.std.specs.Prelude.{refl}
use Rattle.lido_base.proofs.EquationsLemmas.{one_solution}
use Rattle.lido_base.proofs.laws.ordered_equations_have_one_solution.Goals as goal

pub returns : goal.returns
returns g c = λ same exactly nothing step unknowns o. one_solution nothing step same (λ i j h. (exactly i j).0 h) (λ i. (exactly i i).1 refl) unknowns o
