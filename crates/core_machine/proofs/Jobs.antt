-- The laws for every job, from the facts that it keeps.
use Rattle.flat_grammar.specs.Instances.{IsGrown}
use Rattle.core_machine.specs.Instances.{IsInOrder}
use Rattle.core_machine.specs.Machine.{IsSound, UsesOne, IsNeverStuck, HasOneEnd}
use Rattle.core_machine.specs.Core.{Task, IsTask, instances_in_order, machine}
use Rattle.flat_grammar.proofs.GrownLemmas.{stored-grown}
use Rattle.core_machine.proofs.Walk.{is-in-order}
use Rattle.core_machine.proofs.Tasks.{is-sound}
use Rattle.core_machine.proofs.Moves.{not_stuck}
use Rattle.core_machine.proofs.Ends.{ends, uses}

module _ (j : Task) (task : IsTask j) where
  pub grown : IsGrown j.symbols j.rules j.flat j.root
  grown = stored-grown j.symbols j.rules j.texts j.written j.shapes j.root j.flat j.node_of task.formed task.fitting task.flat_tree

  pub in-order : IsInOrder j.symbols j.rules j.flat (instances_in_order j)
  in-order = is-in-order j.symbols j.rules j.shapes j.root j.flat task.formed grown task.root_bare j.visits j.seqs task.sound

  pub sound : IsSound (machine j)
  sound = is-sound j task grown in-order

  pub one-used : UsesOne (machine j)
  one-used = uses (machine j) sound

  pub never-stuck : IsNeverStuck (machine j)
  never-stuck = not_stuck (machine j) sound

  pub one-end : HasOneEnd (machine j)
  one-end = ends (machine j) sound
