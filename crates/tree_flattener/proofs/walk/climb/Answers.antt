use Rattle.std.proofs.Common.{refl, ap, arith, ◌∙◌, length, inl}
use Rattle.lido_base.proofs.TreeLemmas.{parent_before}
use Rattle.tree_flattener.proofs.ClimbLemmas.{further_up, still_around}
use Rattle.lido_base.proofs.PathLemmas.{above_before, path_up}
use Rattle.tree_flattener.proofs.walk.climb.Goals as goal

pub loop-at-init : goal.loop-at-init
loop-at-init c = record { walk = c.requires.walk; placed = c.requires.placed; around = c.requires.around; below = inl refl; same = refl }

pub go_up-requires-clause-all_met : goal.go_up-requires-clause-all_met
go_up-requires-clause-all_met c = λ k d e. let h = c.requires.all_met c.loop-at.at.node c.loop-at.invariant.below (further_up c.args.written.now c.loop-at.at.node c.args.to c.loop-at.invariant.around c.loop-at-test.true) k d e in omega (arith, ap length c.loop-at.invariant.same)

pub go_up-requires-clause-inner : goal.go_up-requires-clause-inner
go_up-requires-clause-inner c = let h = above_before c.args.written.now c.requires.walk.suits.tree c.loop-at.at.node c.args.to (further_up c.args.written.now c.loop-at.at.node c.args.to c.loop-at.invariant.around c.loop-at-test.true) in omega arith

pub loop-at-preserved : goal.loop-at-preserved
loop-at-preserved c =
    let W = c.args.written.now in
    let tree = c.requires.walk.suits.tree in
    let m = c.loop-at.at.node in
    record {
      walk = c.in_ok-at.ensures.walk;
      placed = c.in_ok-at.ensures.placed;
      around = still_around W tree m c.in_ok-at.at.node c.args.to c.in_ok-at.ensures.parent (further_up W m c.args.to c.loop-at.invariant.around c.loop-at-test.true);
      below = path_up W tree c.args.from.node m c.in_ok-at.at.node c.loop-at.invariant.below c.in_ok-at.ensures.parent;
      same = c.go_up.ensures.same ∙ c.loop-at.invariant.same;
    }

pub loop-at-smaller : goal.loop-at-smaller
loop-at-smaller c = parent_before c.args.written.now c.requires.walk.suits.tree c.loop-at.at.node c.in_ok-at.at.node c.in_ok-at.ensures.parent
