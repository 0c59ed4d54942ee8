use Rattle.std.specs.Prelude.{◌≡◌, ℕ, true, false, ◌<◌}
use Rattle.std.proofs.Common.{arith, refl}
use Rattle.lido_base.specs.Tree.{ancestors}
use Rattle.trials_of_values.proofs.trees.tables_that_are_no_trees.Goals as goal

pub returns-clause-orphan : goal.returns-clause-orphan
returns-clause-orphan c = λ w. (let same : false ≡ true = w.items_agree 0 2 in cc)

pub returns-clause-misplaced : goal.returns-clause-misplaced
unfolding ancestors
returns-clause-misplaced c = λ w. (let same : false ≡ true = w.in_preorder 2 (omega arith) in cc)

apart : {n : ℕ} → n ≡ 2 → n ≡ 3 → ⊥
apart e f = omega arith

pub returns-clause-shifted : goal.returns-clause-shifted
returns-clause-shifted c = λ w. (apart (w.places_agree 0 1 2 refl) refl)

pub returns-clause-swapped : goal.returns-clause-swapped
returns-clause-swapped c = λ w. (let less : 2 < 1 = w.children_ascend 0 0 (omega arith) in omega arith)
