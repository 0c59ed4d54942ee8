use Rattle.std.specs.Prelude.{◌≡◌, IsTrue, true, false, ◌⊎◌, [], ◌∷◌, refl}
use Rattle.std.proofs.Common.{inl, inr, subst}
use Rattle.lido_base.specs.Operations.{operate}
use Rattle.lido_base.specs.Reach.{source, edge}
use Rattle.lido_base.specs.Tree.{contains, from_children}
use Rattle.lido_base.proofs.TreeLemmas.{either}
use Rattle.lido_syntax.specs.Constituents.{weight_of}
use Rattle.lido_syntax.specs.Sets.{Sets, ReachesSource}
use Rattle.trials_of_syntax.specs.TerminalHeir.{spec, k}
use Rattle.trials_of_syntax.proofs.HandedDownLemmas.{right_inherits}
use Rattle.trials_of_syntax.proofs.RulesOnly.{false_from}
use Rattle.trials_of_syntax.proofs.Classes.{inherits_within}
use Rattle.trials_of_syntax.proofs.Members.{one_of}
use Rattle.trials_of_syntax.proofs.remote_access.pairs_of_remote_lists.Goals as goal

module _ (sets : Sets spec) where
  none : sets.inherits 21 23 ≡ false
  none = false_from (sets.inherits 21 23) (λ h. let wrong = inherits_within spec (λ s class. s ≡ 22) ((λ s class a b. cc), ((λ s class a b. one_of s 22 a), tt)) (λ s class above a b. a) 21 23 ((sets.inherits_exactly 21 23).0 h) in cc)

  -- the terminal is no source and has nothing below
  leaf : ¬ ReachesSource spec sets.inherits k 22
  leaf (source h) = cc
  leaf (edge h r) = cc

  below : ¬ ReachesSource spec sets.inherits k 21
  below (source h) = let wrong : false ≡ true = rw (none) at h in cc
  below (edge {c = c} h r) = go (either (contains c (22 ∷ [])) false h)
    where
      go : ¬ (IsTrue (contains c (22 ∷ [])) ⊎ IsTrue false)
      go (inl m) = leaf (subst (ReachesSource spec sets.inherits k) (one_of c 22 m) r)
      go (inr m) = cc

  unreached : sets.reaches k 21 ≡ false
  unreached = false_from (sets.reaches k 21) (λ h. below ((sets.reaches_exactly k 21).0 h))

pub returns : goal.returns
unfolding operate from_children weight_of
returns c = record {
  symbol_first = λ sets. refl;
  class_first = λ sets. rw (right_inherits sets) refl;
  terminal_heir = λ sets A. simp (unreached sets) refl;
  without_a_with = λ sets A k n. refl;
}
