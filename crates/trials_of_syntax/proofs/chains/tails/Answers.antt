use Rattle.std.specs.Prelude.{refl, [], ◌∷◌}
use Rattle.std.proofs.Common.{arith, inl, inr}
use Rattle.lido_syntax.specs.Computation.{by_rule, of_rule, Start}
use Rattle.lido_syntax.specs.Nodes.{HasInForce}
use Rattle.trials_of_syntax.specs.NestedStart.{spec, tree, top_rule, from_one, no}
use Rattle.trials_of_syntax.proofs.NestedStartLemmas.{IsStartOf, starts}
use Rattle.trials_of_syntax.proofs.chains.tails.Goals as goal

no_start_at_a_line : ¬ HasInForce spec tree 1 (Start no)
no_start_at_a_line (h, c, f) = at (starts 1 h c f).1
  where
    at : ¬ IsStartOf 1 c
    at (inl h) = omega (arith, h.0)
    at (inr h) = omega (arith, h.0)

pub returns : goal.returns
returns c = record {
  behind_the_last = λ sets. inl (4 ∷ [], 5, refl, refl);
  behind_the_group = λ sets. inl ([], 3, refl, refl);
  in_front = λ sets. inr (refl, inr (no_start_at_a_line, refl));
  started = λ sets. inr (refl, inl (by_rule, from_one, top_rule, (top_rule, (0, refl, refl), of_rule (refl, tt) ((0, omega arith, refl), refl)), (0, refl, refl), refl));
}
