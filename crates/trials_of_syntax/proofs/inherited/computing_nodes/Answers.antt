use Rattle.std.specs.Prelude.{refl}
use Rattle.lido_syntax.specs.Nodes as nodes
use Rattle.trials_of_syntax.specs.HandedDown.{Left, Right, top_rule, left_rule, right_rule}
use Rattle.trials_of_syntax.proofs.HandedDownLemmas.{computed_at_right, three_in_force, quotient_in_force, five_in_force}
use Rattle.trials_of_syntax.proofs.inherited.computing_nodes.Goals as goal

pub returns : goal.returns
returns c = record {
  rule = nodes.inherited_of_rule 0 1 Left top_rule refl (0, refl, refl) (left_rule, (1, refl, refl), refl) three_in_force;
  rule_below = nodes.inherited_of_rule 2 1 Left right_rule refl (2, refl, refl) (left_rule, (1, refl, refl), refl) quotient_in_force;
  class = nodes.inherited_of_symbol 0 2 Right top_rule refl (0, refl, refl) (right_rule, (2, refl, refl), refl) five_in_force;
  no_other = computed_at_right;
}
