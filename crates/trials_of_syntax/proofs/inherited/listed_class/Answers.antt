use Rattle.std.specs.Prelude.{◌≡◌, false, refl}
use Rattle.lido_base.specs.Operations.{operate}
use Rattle.lido_base.specs.Tree.{from_children, ancestors}
use Rattle.lido_syntax.specs.Constituents.{weight_of}
use Rattle.lido_syntax.specs.Sets.{Sets}
use Rattle.trials_of_syntax.specs.HandedDown.{spec, Top, Five}
use Rattle.trials_of_syntax.proofs.HandedDownLemmas.{right_inherits, others_inherit_none, reaches_right, reaches_no_left}
use Rattle.trials_of_syntax.proofs.inherited.listed_class.Goals as goal

top_inherits_none : (sets : Sets spec) → sets.inherits Top Five ≡ false
top_inherits_none sets = others_inherit_none sets Top (λ e. cc)

pub returns : goal.returns
unfolding operate from_children weight_of ancestors
returns c = record {
  sum = λ sets. simp (right_inherits sets, reaches_right sets, reaches_no_left sets) refl;
  found = λ sets. simp (right_inherits sets, top_inherits_none sets) refl;
}
