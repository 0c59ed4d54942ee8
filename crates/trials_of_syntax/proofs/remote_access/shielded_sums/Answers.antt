use Rattle.std.specs.Prelude.{◌≡◌, ℕ, true, false, refl}
use Rattle.lido_base.specs.Operations.{operate}
use Rattle.lido_base.specs.Reach.{source, edge}
use Rattle.lido_base.specs.Tree.{from_children}
use Rattle.lido_syntax.specs.Constituents.{weight_of}
use Rattle.lido_syntax.specs.Sets.{Sets, ReachesSource}
use Rattle.trials_of_syntax.specs.ShieldedSums.{spec, shielded, unshielded, shielded_by_the_list, Block, Blocks}
use Rattle.trials_of_syntax.proofs.RulesOnly.{inherits-false, reaches-true, reaches-false}
use Rattle.trials_of_syntax.proofs.remote_access.shielded_sums.Goals as goal

module _ (sets : Sets spec) where
  none : (s class : ℕ) → sets.inherits s class ≡ false
  none = inherits-false spec.rules spec.attrs spec.terms spec.chains sets

  block-shielded : sets.reaches shielded Block ≡ true
  block-shielded = reaches-true spec.rules spec.attrs spec.terms spec.chains sets shielded Block (source refl)

  block : sets.reaches unshielded Block ≡ true
  block = reaches-true spec.rules spec.attrs spec.terms spec.chains sets unshielded Block (source refl)

  blocks : sets.reaches unshielded Blocks ≡ true
  blocks = reaches-true spec.rules spec.attrs spec.terms spec.chains sets unshielded Blocks (edge {c = Block} refl (source refl))

  block-stopped : sets.reaches shielded_by_the_list Block ≡ true
  block-stopped = reaches-true spec.rules spec.attrs spec.terms spec.chains sets shielded_by_the_list Block (source refl)

  -- a shield that is no source reaches none
  blocks-stopped : sets.reaches shielded_by_the_list Blocks ≡ false
  blocks-stopped = reaches-false spec.rules spec.attrs spec.terms spec.chains sets shielded_by_the_list Blocks never
    where
      never : ¬ ReachesSource spec sets.inherits shielded_by_the_list Blocks
      never (source h) = let no_source : false ≡ true = rw (none Blocks Block) at h in cc
      never (edge h r) = cc

pub returns : goal.returns
unfolding operate from_children weight_of
returns c = record {
  shielded = λ sets. simp (block-shielded sets) refl;
  unshielded = λ sets. simp (none sets, block sets, blocks sets) refl;
  inside = λ sets. simp (none sets, block sets, blocks sets) refl;
  empty = λ sets. simp (none sets, blocks sets) refl;
  stopped = λ sets. simp (none sets, block-stopped sets, blocks-stopped sets) refl;
}
