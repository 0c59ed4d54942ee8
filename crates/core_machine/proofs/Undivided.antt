-- The whole order is the list of the one region of the job that isn't split.
use Rattle.std.specs.Prelude.{flat_map, map, replicate}
use Rattle.std.specs.List.Sorted.{IsStrictlyIncreasing}
use Rattle.std.proofs.Common.{◌≡◌, ◌<◌, ℕ, List, [], ◌∷◌, length, refl, arith, ap, sym, ◌∙◌, eq-eqb}
use Rattle.std.proofs.lemmas.List.{length-replicate, get_or-replicate}
use Rattle.std.proofs.lemmas.List.Elements.{All-nil}
use Rattle.std.proofs.lemmas.List.FromFn.{fill_by_all}
use Rattle.lido_base.specs.declared.value.Value.{Value}
use Rattle.lido_base.specs.Tree.{Tree}
use Rattle.tree_store.specs.Regions.{region, regions}
use Rattle.flat_grammar.specs.WholeOrder.{Instance}
use Rattle.core_machine.specs.Machine.{eval_of, own}
use Rattle.core_machine.specs.Core.{Task, IsTask, home, items, items_for, instances_in_order, machine}
use Rattle.core_machine.specs.Limits.{AreInTheirTypes}
use Rattle.core_machine.specs.Whole.{undivided}
use Rattle.core_machine.proofs.Finals.{home-few}
use Rattle.core_machine.proofs.FinalLemmas.{region-few}

-- the numbers of a job don't depend on how it is split
pub split-numbers : (j : Task) (nodes : List ℕ) → AreInTheirTypes j → AreInTheirTypes (record j { nodes = nodes })
split-numbers j nodes h = record { expressions = h.expressions; leaves = h.leaves; lines = h.lines; columns = h.columns; nodes = h.nodes }

none-ascend : IsStrictlyIncreasing []
none-ascend k h = absurd (omega (arith, h))

pub undivided-task : (j : Task) → IsTask j → IsTask (undivided j)
undivided-task j h = record {
  formed = h.formed;
  sound = h.sound;
  fitting = h.fitting;
  flat_tree = h.flat_tree;
  limits = h.limits;
  root_bare = h.root_bare;
  root_out = h.root_out;
  constants = h.constants;
  leaves = h.leaves;
  few_nodes = omega arith;
  nodes_ascend = none-ascend;
  nodes_inside = All-nil (λ n. (0 < n) × (n < length j.flat));
}

region-first : (t : Tree Value) (n : ℕ) → region t [] n ≡ 0
region-first t n = let h = region-few t [] n in omega (arith, h)

pub one-region : (t : Tree Value) (xs : List ℕ) → xs ≡ replicate (length t) 0 → xs ≡ regions t []
one-region t xs e = e ∙ fill_by_all (region t []) (replicate (length t) 0) (length t) 0 (length-replicate (length t) 0) (λ k h. get_or-replicate (length t) k 0 0 h ∙ sym (region-first t k))

evaluations : (xs : List Instance) (j : Task) → flat_map (items_for (undivided j)) xs ≡ map eval_of xs
evaluations [] j = refl
evaluations (x ∷ xs) j = ap (λ l. eval_of x ∷ l) (evaluations xs j)

all-own : (j : Task) (task : IsTask j) (xs : List Instance) → own (machine (undivided j)) 0 (map eval_of xs) ≡ map eval_of xs
all-own j task [] = refl
all-own j task (x ∷ xs) =
    let h = home-few (undivided j) (undivided-task j task) x in
    let z : home (undivided j) x ≡ 0 = omega (arith, h) in
    rw (eq-eqb (home (undivided j) x) 0 z) (ap (λ l. eval_of x ∷ l) (all-own j task xs))

-- the one region has all evaluations, in the whole order
pub whole-list : (j : Task) → IsTask j → own (machine (undivided j)) 0 (items (undivided j)) ≡ map eval_of (instances_in_order j)
whole-list j task = ap (own (machine (undivided j)) 0) (evaluations (instances_in_order j) j) ∙ all-own j task (instances_in_order j)
