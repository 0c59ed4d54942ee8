-- The walk of a region: the visits of its own nodes, from its root, without those of the split nodes inside.
use Rattle.std.specs.Prelude.{◌≡◌, ℕ, zero, suc, ◌-◌, ◌≤◌, List, [], if◌then◌else◌, length, flat_map, Option, Some, None, slice_get, unwrap_or}
use Rattle.lido_base.specs.Tree.{contains, from_children}
use Rattle.flat_grammar.specs.declared.plan.PlanItem.{PlanItem}
use Rattle.flat_grammar.specs.declared.plan.PlanItem.TheVariants.{Eval, Visit, Leave}
use Rattle.flat_grammar.specs.WholeOrder.{Instance, segment, child_at, sequence_at}
use Rattle.flat_grammar.specs.Instances.{instance_at}
use Rattle.core_machine.specs.Machine.{Item, own}
use Rattle.core_machine.specs.Core.{Task, IsTask, items_for, items, machine}

-- the node at which a region begins
abbrev pub root_of : List ℕ → ℕ → ℕ
root_of nodes zero = 0
root_of nodes (suc k) = unwrap_or (slice_get nodes k) 0

module _ (j : Task) where
  -- what a visit of a child gives, and nothing where no node or a split node stands
  abbrev pub own_visit : (ℕ → ℕ → List (Item Instance)) → Option ℕ → ℕ → List (Item Instance)
  own_visit below None v = []
  own_visit below (Some c) v = if contains c j.nodes then [] else below c v

  -- what an item at node n gives to the region, where `below` says it of the children's visits
  abbrev pub own_item : (ℕ → ℕ → List (Item Instance)) → ℕ → PlanItem → List (Item Instance)
  own_item below n (Eval o) = items_for j (instance_at j.flat n o)
  own_item below n (Visit k v) = own_visit below (child_at j.flat n k) v
  own_item below n (Leave v) = []

  -- the items of a visit in the node's region, in order; visits count from 1
  unfoldable pub own_order : ℕ → ℕ → List (Item Instance)
  own_order = from_children j.flat (λ v. []) (λ below n v. flat_map (own_item below n) (segment (v - 1) (sequence_at j.flat j.seqs n)))

  -- the items of all visits of the region's root
  abbrev pub walk : ℕ → List (Item Instance)
  walk r = let n = root_of j.nodes r in flat_map (own_item own_order n) (sequence_at j.flat j.seqs n)

-- a region's list is its walk
abbrev pub RegionsAreWalks : Type 0
RegionsAreWalks = (j : Task) → IsTask j → (r : ℕ) → r ≤ length j.nodes → own (machine j) r (items j) ≡ walk j r
