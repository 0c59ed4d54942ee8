use Rattle.std.specs.Prelude.{Vec}
use Rattle.std.specs.declared.alloc.Global.{Global}
use Rattle.std.proofs.Common.{◌<◌, ◌∙◌, ap, sym, subst, arith, map, length}
use Rattle.std.proofs.lemmas.List.{length-map, map_push}
use Rattle.lido_base.specs.declared.ids.NodeId.{NodeId}
use Rattle.subtree_split.specs.SplitNodes.{is_splittable}
use Rattle.subtree_split.proofs.NodesLemmas.{found, skipped, full, few_taken}
use Rattle.subtree_split.proofs.nodes.split.Goals as goal
use Rattle.subtree_split.proofs.nodes.split.Goals.{then-len-lt-MOST_SPLIT_NODES+then-can_split+in_ok-push, else-len-lt-MOST_SPLIT_NODES, else-len-lt-MOST_SPLIT_NODES-via-then-len-lt-MOST_SPLIT_NODES+else-can_split, else-len-lt-MOST_SPLIT_NODES-via-else-len-lt-MOST_SPLIT_NODES}

pub loop-n-preserved : goal.loop-n-preserved
loop-n-preserved c =
    let p = is_splittable c.args.flat.now.symbols c.args.flat.now.rules c.args.flat.now.shapes c.args.names.now c.args.min c.args.trees.now.written c.args.trees.now.flat c.args.trees.now.node_of in
    let n = c.loop-n.n in
    let old = c.loop-n.nodes.items in
    let xs = map (λ (m : NodeId). m.0) old in
    let same = λ (v : Vec NodeId Global). map (λ (m : NodeId). m.0) v.items in
    let count = length-map old (λ (m : NodeId). m.0) in
    elim c.if-len-lt-MOST_SPLIT_NODES.branch [
      | then-len-lt-MOST_SPLIT_NODES+then-can_split+in_ok-push w ↦
          ap same w.nodes-is ∙ ap (map (λ (m : NodeId). m.0)) w.in_ok-push.ensures.items ∙ map_push (λ (m : NodeId). m.0) old (record { 0 = n })
          ∙ found p 63 n xs c.loop-n.auto.n c.loop-n.invariant (omega (arith, count, c.loop-n.nodes.ok.0, c.len.ensures, w.if-len-lt-MOST_SPLIT_NODES.true)) (sym w.can_split.ensures ∙ w.if-can_split.true)
      | else-len-lt-MOST_SPLIT_NODES w ↦ ap same w.nodes-is ∙ elim w.else-len-lt-MOST_SPLIT_NODES.branch [
        | else-len-lt-MOST_SPLIT_NODES-via-then-len-lt-MOST_SPLIT_NODES+else-can_split z ↦ skipped p 63 n xs c.loop-n.auto.n c.loop-n.invariant (sym z.can_split.ensures ∙ z.if-can_split.false)
        | else-len-lt-MOST_SPLIT_NODES-via-else-len-lt-MOST_SPLIT_NODES z ↦ full p 63 n xs c.loop-n.auto.n c.loop-n.invariant (omega (arith, count, c.loop-n.nodes.ok.0, c.len.ensures, z.if-len-lt-MOST_SPLIT_NODES.false))
      ]
    ]

pub regions_of-requires-clause-few : goal.regions_of-requires-clause-few
regions_of-requires-clause-few c = subst (λ z. length z < 256) (sym c.deref-2.ensures.value) (few_taken (λ (m : NodeId). m.0) c.loop-n.nodes.items _ c.loop-n.invariant)
