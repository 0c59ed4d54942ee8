use Rattle.std.proofs.Common.{[], refl, sym, ap, ◌∙◌, arith, ◌≡◌, Some, add-one}
use Rattle.std.specs.Prelude.{slice_get}
use Rattle.lido_base.specs.Tree.{items_of, item_at, Leaf}
use Rattle.tree_store.proofs.GrowthLemmas.{open_inside}
use Rattle.tree_flattener.proofs.GrowLemmas.{fills_more}
use Rattle.tree_flattener.proofs.PlacedLemmas.{placed_leaf}
use Rattle.tree_flattener.proofs.ItemLemmas.{leaf_more, places_more}
use Rattle.tree_flattener.proofs.terminals.add_terminals.Goals as goal

pub loop-k-preserved : goal.loop-k-preserved
loop-k-preserved c =
    let i = c.loop-k.invariant in
    let G = c.loop-k.draft.flat in
    let p = c.args.at.tail in
    let opened = i.filled.opened p c.requires.open in
    let inside = open_inside G i.filled.tree p opened in
    let added = c.in_ok-add_terminal.ensures.added in
    let xs = items_of c.args.written.now c.args.at.node in
    let leaf : slice_get xs c.loop-k.k ≡ Some (Leaf c.terminal-value.result) = ap (item_at c.args.written.now c.args.at.node) (sym (add-one c.loop-k.k)) ∙ c.terminal-value.ensures in
    record {
      filled = fills_more c.args.draft.now.flat G p i.filled opened c.terminal-value.result c.add_terminal.new.self added;
      placed = placed_leaf c.args.written.now G c.add_terminal.new.self c.loop-k.draft.node_of c.loop-k.draft.node_of p (Leaf c.terminal-value.result) added refl i.placed;
      nodes = i.nodes;
      same = i.same;
      few = omega (arith, i.few, places_more [] [] [] G G [] p (Leaf c.terminal-value.result) c.add_terminal.new.self added inside);
      items = λ symbols rules shapes h. leaf_more symbols rules shapes c.args.written.now G c.loop-k.draft.node_of p c.terminal-value.result c.add_terminal.new.self added inside xs c.loop-k.k leaf (i.items symbols rules shapes h);
    }
