-- The leaves of computations in force have their values in the flat tree, but for TAIL and CONSTITUENTS.
use Rattle.std.specs.Prelude.{slice_get, unwrap_or}
use Rattle.std.specs.Option.{option_map_or}
use Rattle.std.proofs.Common.{◌≡◌, ℕ, zero, suc, ◌<◌, false, List, [], ◌∷◌, length, Option, Some, refl, sym, ap, ◌∙◌}
use Rattle.std.proofs.lemmas.Option.{same_Some}
use Rattle.lido_base.specs.Plain.{Plain, Void}
use Rattle.lido_base.specs.Tree.{Item, Child, Leaf, rule_at, items_of, item_at, coordinate}
use Rattle.lido_base.specs.declared.kinds.CoordPart.{CoordPart}
use Rattle.lido_base.specs.declared.kinds.CoordPart.TheVariants.{Line, Col}
use Rattle.lido_base.proofs.Lists.{contains-place}
use Rattle.lido_syntax.specs.declared.spec.RuleItem.{RuleItem}
use Rattle.lido_syntax.specs.Nodes.{IsAt}
use Rattle.lido_syntax.specs.Assignment.{Assignment}
use Rattle.lido_syntax.specs.Value as written
use Rattle.flat_grammar.specs.FlatAttribution.{leaf_or}
use Rattle.flat_grammar.specs.FlatTrees.{IsNodeOf, AreItems}
use Rattle.flat_grammar.specs.WholeOrder.{Instance}
use Rattle.tree_flattener.proofs.OnePathLemmas.{rule_inside}
use Rattle.lido_symbols.specs.Numbers.{place_in}
use Rattle.rule_tables.specs.PlainRules.{PlainRule}
use Rattle.rule_tables.specs.Slots.{Slot, is_same_slot, HasSlot}
use Rattle.flat_laws.proofs.ShapeLemmas.{shape-at}
use Rattle.carried_trees.specs.Flattening.{Flattening, IsFlattening, Trees, AreTrees}
use Rattle.carried_trees.specs.Carry as carry
use Rattle.carried_trees.proofs.BelowLemmas.{among}
use Rattle.carried_trees.proofs.NodeLemmas.{IsPlain, shaped, carried-at, carried-node}

-- the terminals of items that are each other's
module _ (f : Flattening) (x : Trees) where
  leaf-same : (is ws : List (Item Plain)) (j : ℕ) → AreItems f.rules f.shapes x.flat x.node_of is ws → leaf_or (slice_get is j) ≡ option_map_or written.leaf_of (slice_get ws j) Void
  leaf-same [] [] j h = refl
  leaf-same [] (y ∷ ws) j h = absurd h
  leaf-same (Child n ∷ is) [] j h = absurd h
  leaf-same (Leaf v ∷ is) [] j h = absurd h
  leaf-same (Child n ∷ is) (Leaf u ∷ ws) j h = absurd h
  leaf-same (Leaf v ∷ is) (Child w ∷ ws) j h = absurd h
  leaf-same (Child n ∷ is) (Child w ∷ ws) zero h = refl
  leaf-same (Child n ∷ is) (Child w ∷ ws) (suc j) h = leaf-same is ws j h.1
  leaf-same (Leaf v ∷ is) (Leaf u ∷ ws) zero h = h.0
  leaf-same (Leaf v ∷ is) (Leaf u ∷ ws) (suc j) h = leaf-same is ws j h.1

module _ (f : Flattening) (is : IsFlattening f) (x : Trees) (are : AreTrees f x) (A : Assignment) where
  -- The assignment of the flat tree has at the attributes of written nodes what is carried there.
  abbrev pub AgreesAtNodes : (Instance → Plain) → Type 0
  AgreesAtNodes B = (m w : ℕ) (p : PlainRule) → IsPlain f is x are m p → IsNodeOf f.rules f.shapes x.flat x.node_of m w → (s : Slot) → HasSlot f.spec f.tables f.needs p.left s
      → B (m, place_in (is_same_slot s) (f.slots p.left)) ≡ carry.at_node f x A w s

  pub carry-agrees : AgreesAtNodes (λ k. unwrap_or (carry.carry f x A k) Void)
  carry-agrees m w p o stands s has = ap (λ (v : Option Plain). unwrap_or v Void) (carried-at f is x are A m p o s has) ∙ carried-node f is x are A m w p o stands s

  -- the items of a node that is no list
  pub node-items : (n w : ℕ) (p : PlainRule) → IsPlain f is x are n p → IsNodeOf f.rules f.shapes x.flat x.node_of n w → (r : RuleItem) → IsAt f.spec x.written w r → r.list ≡ false
      → AreItems f.rules f.shapes x.flat x.node_of (items_of x.flat n) (items_of x.written w)
  node-items n w p o stands r (i, at, of) plain =
      let (shape, m, has) = shaped f is x are w (slice_get_written w i at) in
      let (k, there) = contains-place f.shapes shape m in
      let its = shape-at f.spec f.env f.tables is.tables f.needs f.slots f.symbols f.rules f.shapes f.root is.grammar k shape there in
      let same : k ≡ i = sym its.rule ∙ same_Some shape.rule.0 i (sym has ∙ at) in
      let rule : its.r ≡ r = same_Some its.r r (sym its.of ∙ ap (slice_get f.spec.rules) same ∙ of) in
      are.flat_tree.plain_nodes n w shape m stands (are.flat_tree.same_rules n w stands ∙ has) (its.list ∙ ap (λ (q : RuleItem). q.list) rule ∙ plain)
    where
      slice_get_written : (w i : ℕ) → rule_at x.written w ≡ Some i → w < length x.written
      slice_get_written w i e = rule_inside x.written w i e

  -- the written child at the place of a flat one
  pub child-of : (n w : ℕ) (p : PlainRule) → IsPlain f is x are n p → IsNodeOf f.rules f.shapes x.flat x.node_of n w → (r : RuleItem) → IsAt f.spec x.written w r → r.list ≡ false
      → (j c : ℕ) → slice_get (items_of x.flat n) j ≡ Some (Child c) → (v : ℕ) × IsNodeOf f.rules f.shapes x.flat x.node_of c v × (slice_get (items_of x.written w) j ≡ Some (Child v))
  child-of n w p o stands r at plain j c e =
      among f.rules f.shapes x.written x.flat x.node_of (shaped f is x are) are.fits.tree are.flat_tree (items_of x.flat n) (items_of x.written w) (node-items n w p o stands r at plain) j c e

  -- a node has its written node's line and column
  pub coordinate-same : (m w : ℕ) → slice_get x.node_of m ≡ Some w → (part : CoordPart) → coordinate x.flat m part ≡ coordinate x.written w part
  coordinate-same m w e Line = are.flat_tree.same_lines m w e
  coordinate-same m w e Col = are.flat_tree.same_columns m w e

  -- the terminals of a node that is no list
  pub terminal-same : (n w : ℕ) (p : PlainRule) → IsPlain f is x are n p → IsNodeOf f.rules f.shapes x.flat x.node_of n w → (r : RuleItem) → IsAt f.spec x.written w r → r.list ≡ false
      → (k : ℕ) → leaf_or (item_at x.flat n k) ≡ option_map_or written.leaf_of (item_at x.written w k) Void
  terminal-same n w p o stands r at plain zero = refl
  terminal-same n w p o stands r at plain (suc j) = leaf-same f x (items_of x.flat n) (items_of x.written w) j (node-items n w p o stands r at plain)
