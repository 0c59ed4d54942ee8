use Rattle.std.proofs.Common.{◌≡◌, ◌<◌, ◌-◌, ◌+◌, ℕ, Some, ◌∙◌, sym, subst, arith, map, get_or, length}
use Rattle.std.proofs.lemmas.List.{length-set}
use Rattle.lido_base.specs.declared.ids.NodeId.{NodeId}
use Rattle.lido_base.specs.Tree.{parent_of}
use Rattle.tree_store.specs.Regions.{region}
use Rattle.lido_base.proofs.PathLemmas.{parent_there}
use Rattle.subtree_split.proofs.RegionsLemmas.{region_root, before_step, behind_step, all_regions}
use Rattle.subtree_split.proofs.regions.regions_of.Goals as goal

pub loop-n-init : goal.loop-n-init
loop-n-init c =
    let t = c.args.tree.now in
    let nodes = map (λ (m : NodeId). m.0) c.args.nodes.now in
    record {
      each = c.in_ok-regions.ensures.each ∙ c.len.ensures.count;
      before = λ m h b. let e : 0 ≡ m = omega arith in
          subst (λ z. get_or c.in_ok-regions.regions.items z 0 ≡ region t nodes z) e (c.in_ok-regions.ensures.numbers 0 (omega (arith, c.len.ensures.count)) ∙ sym (region_root t c.requires.tree nodes));
      behind = λ m h b. c.in_ok-regions.ensures.numbers m (omega (arith, c.len.ensures.count));
    }

pub loop-n-preserved : goal.loop-n-preserved
loop-n-preserved c =
    let t = c.args.tree.now in
    let nodes = map (λ (m : NodeId). m.0) c.args.nodes.now in
    let old = c.loop-n.regions.items in
    let n = c.loop-n.n in
    let v = c.region_at-region.result in
    let inside : n < length t = omega arith in
    let there = parent_there t c.requires.tree (n - 1) (omega arith) in
    let back : n - 1 + 1 ≡ n = omega arith in
    let up = subst (λ z. parent_of t z ≡ Some there.0) back there.1 in
    let own = subst (λ z. (get_or z n 0 ≡ 0 → ⊥) → v ≡ get_or z n 0) c.deref.ensures.value c.region_at-region.ensures.own in
    let above = λ (none : get_or old n 0 ≡ 0). subst (λ z. (p : ℕ) → get_or z n 0 ≡ 0 → parent_of t n ≡ Some p → v ≡ get_or z p 0) c.deref.ensures.value c.region_at-region.ensures.above there.0 none up in
    record {
      each = length-set old n v ∙ c.loop-n.invariant.each;
      before = before_step t c.requires.tree nodes old n there.0 v c.loop-n.invariant.each inside up c.loop-n.invariant.before c.loop-n.invariant.behind own above;
      behind = behind_step t c.requires.tree nodes old n there.0 v c.loop-n.invariant.each inside up c.loop-n.invariant.before c.loop-n.invariant.behind own above;
    }

pub returns : goal.returns
returns c = all_regions c.args.tree.now c.requires.tree (map (λ (m : NodeId). m.0) c.args.nodes.now) c.loop-n.regions.items c.loop-n.invariant.each
    (λ m h. c.loop-n.invariant.before m (omega (arith, c.len-n-end.ensures.count)) h)
