-- The trees of two items as they grow, and the nodes that can get items then.
use Rattle.std.specs.Prelude.{◌≡◌, [], ◌∷◌, ℕ, pos, Some, None, refl}
use Rattle.std.proofs.Common.{inl, inr}
use Rattle.lido_base.specs.declared.value.Value.{Value}
use Rattle.lido_base.specs.declared.value.Value.TheVariants as value
use Rattle.lido_base.specs.Tree.{Tree, Leaf, ancestors, with_item, with_node}
use Rattle.tree_store.specs.Growth.{IsOpen}
use Rattle.tree_store.specs.Regions.{regions}
use Rattle.trials_of_jobs.specs.SplitList.{flat}
use Rattle.flat_grammar.proofs.Lists.{contains-first}

abbrev pub more : ℕ → ℕ → Tree Value → Tree Value
more rule parent t = with_node t rule (Some parent) 1 1

abbrev pub number : ℕ → ℕ → Tree Value → Tree Value
number parent n t = with_item t parent (Leaf (value.Int (pos n)))

abbrev pub root_alone : Tree Value
root_alone = with_node [] 0 None 1 1

abbrev pub written_two : Tree Value
written_two = number 1 5 (more 1 0 root_alone)

abbrev pub flat_three : Tree Value
flat_three = number 2 5 (more 1 1 (more 2 0 root_alone))

abbrev pub flat_four : Tree Value
flat_four = more 2 1 flat_three

abbrev pub flat_five : Tree Value
flat_five = number 4 6 (more 1 3 flat_four)

pub open-written : IsOpen written_two 0
unfolding ancestors
open-written = (1, refl, inr (contains-first 0 []))

pub open-three : IsOpen flat_three 1
unfolding ancestors
open-three = (2, refl, inr (contains-first 1 (0 ∷ [])))

pub open-four : IsOpen flat_four 3
open-four = (3, refl, inl refl)

pub open-five : IsOpen flat_five 3
unfolding ancestors
open-five = (4, refl, inr (contains-first 3 (1 ∷ 0 ∷ [])))

pub regions-of-two : regions flat (3 ∷ []) ≡ 0 ∷ 0 ∷ 0 ∷ 1 ∷ 1 ∷ 1 ∷ []
unfolding ancestors
regions-of-two = refl
