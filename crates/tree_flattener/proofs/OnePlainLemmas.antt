-- A flat tree stays one where its terminals are made plain, and counts the same.
use Rattle.std.specs.Prelude.{map, sum_by}
use Rattle.std.specs.List.{fold}
use Rattle.std.proofs.Common.{◌≡◌, ℕ, ◌+◌, List, [], ◌∷◌, refl, ap, sym, subst, ◌∙◌, arith}
use Rattle.lido_base.specs.declared.ids.SymId.{SymId}
use Rattle.lido_base.specs.declared.value.Value.{Value}
use Rattle.lido_base.proofs.PlainLemmas.{plain_rule, plain_line, plain_column, plain_items, plain_length, plain_children, plain_is_tree}
use Rattle.lido_base.specs.Plain.{Plain, plain, plain_item, plain_tree}
use Rattle.lido_base.specs.Tree.{Tree, Node, Item, Child, Leaf, items_of, children}
use Rattle.flat_grammar.specs.declared.flat.FlatSymbol.{FlatSymbol}
use Rattle.flat_grammar.specs.declared.flat.FlatRule.{FlatRule}
use Rattle.flat_grammar.specs.declared.flat.Shape.{Shape}
use Rattle.flat_grammar.specs.Rules.{HasRule}
use Rattle.flat_grammar.specs.WellFormed.{cell_of}
use Rattle.flat_grammar.specs.Fitting.{instances, text_cells}
use Rattle.flat_grammar.specs.FlatTrees.{IsNodeOf, AreCells, AreItems, IsFlatTree}

module _ (texts : List (List ℕ)) where
  module _ (symbols : List FlatSymbol) (rules : List FlatRule) (shapes : List Shape) (W F : Tree Value) (ns : List ℕ) where
    plain_has : (n : ℕ) (r : FlatRule) → HasRule rules F n r → HasRule rules (plain_tree texts F) n r
    plain_has n r (i, at, e) = (i, plain_rule texts F n ∙ at, e)

    has_plain : (n : ℕ) (r : FlatRule) → HasRule rules (plain_tree texts F) n r → HasRule rules F n r
    has_plain n r (i, at, e) = (i, sym (plain_rule texts F n) ∙ at, e)

    plain_stands : (n w : ℕ) → IsNodeOf rules shapes F ns n w
        → IsNodeOf rules shapes (plain_tree texts F) ns n w
    plain_stands n w (no_cell, of) = (λ p. no_cell (p.0, has_plain n p.0 p.1, p.2), of)

    stands_plain : (n w : ℕ) → IsNodeOf rules shapes (plain_tree texts F) ns n w
        → IsNodeOf rules shapes F ns n w
    stands_plain n w (no_cell, of) = (λ p. no_cell (p.0, plain_has n p.0 p.1, p.2), of)

    plain_are_items : (is ws : List (Item Value)) → AreItems rules shapes F ns is ws
        → AreItems rules shapes (plain_tree texts F) ns (map (plain_item texts) is) (map (plain_item texts) ws)
    plain_are_items [] [] h = tt
    plain_are_items (Child n ∷ is) (Child w ∷ ws) h = (plain_stands n w h.0, plain_are_items is ws h.1)
    plain_are_items (Leaf v ∷ is) (Leaf u ∷ ws) h = (ap (plain texts) h.0, plain_are_items is ws h.1)
    plain_are_items [] (x ∷ ws) h = absurd h
    plain_are_items (Child n ∷ is) [] h = absurd h
    plain_are_items (Leaf v ∷ is) [] h = absurd h
    plain_are_items (Child n ∷ is) (Leaf u ∷ ws) h = absurd h
    plain_are_items (Leaf v ∷ is) (Child w ∷ ws) h = absurd h

    plain_cells : (cell : SymId) (w c : ℕ) (xs : List ℕ) → AreCells rules shapes F ns cell w c xs
        → AreCells rules shapes (plain_tree texts F) ns cell w c xs
    plain_cells cell w c [] (r, has, left, right, none, of) =
        (r, plain_has c r has, left, right, plain_items texts F c ∙ ap (map (plain_item texts)) none, of)
    plain_cells cell w c (x ∷ xs) (r, element, e, next, has, has_element, left, right, items, of, stands, rest) = (
      r,
      element,
      e,
      next,
      plain_has c r has,
      plain_has e element has_element,
      left,
      right,
      plain_items texts F c
          ∙ ap (map (plain_item texts)) items,
      of,
      plain_stands e x stands,
      plain_cells cell w next xs rest,
    )

    pub plain_flat_tree : IsFlatTree rules shapes W F ns → IsFlatTree rules shapes (plain_tree texts W) (plain_tree texts F) ns
    plain_flat_tree f = record {
      tree = plain_is_tree texts F f.tree;
      each_node = f.each_node ∙ sym (plain_length texts F);
      same_root = plain_stands 0 0 f.same_root;
      in_order = λ n m w x s t h. f.in_order n m w x (stands_plain n w s) (stands_plain m x t) h;
      all_written = λ w h. let n = f.all_written w (let e = plain_length texts W in omega arith) in (n.0, plain_stands n.0 w n.1);
      same_rules = λ n w s. plain_rule texts F n ∙ f.same_rules n w (stands_plain n w s) ∙ sym (plain_rule texts W w);
      same_lines = λ n w of. plain_line texts F n ∙ f.same_lines n w of ∙ sym (plain_line texts W w);
      same_columns = λ n w of. plain_column texts F n ∙ f.same_columns n w of ∙ sym (plain_column texts W w);
      plain_nodes = λ n w shape among s at plain. subst
          (λ is. AreItems rules shapes (plain_tree texts F) ns is (items_of (plain_tree texts W) w))
          (sym (plain_items texts F n))
          (subst (AreItems rules shapes (plain_tree texts F) ns (map (plain_item texts) (items_of F n)))
          (sym (plain_items texts W w))
          (plain_are_items (items_of F n) (items_of W w) (f.plain_nodes n w shape among (stands_plain n w s) (sym (plain_rule texts F n) ∙ at) plain)));
      list_nodes = λ n w shape among s at list. let cells = f.list_nodes n w shape among (stands_plain n w s) (sym (plain_rule texts F n) ∙ at) list in (
        cells.0,
        plain_items texts F n ∙ ap (map (plain_item texts)) cells.1,
        subst
            (AreCells rules shapes (plain_tree texts F) ns (cell_of rules shape) w cells.0)
            (sym (plain_children texts W w))
            (plain_cells (cell_of rules shape) w cells.0 (children W w) cells.2),
      );
    }

  -- a sum over the nodes' rules
  same_fold : (f : ℕ → ℕ) (n : ℕ) (t : Tree Value)
      → fold (λ (a : ℕ) (node : Node Plain). a + f node.rule) n (plain_tree texts t) ≡ fold (λ (a : ℕ) (node : Node Value). a + f node.rule) n t
  same_fold f n [] = refl
  same_fold f n (node ∷ t) = same_fold f (n + f node.rule) t

  same_sum : (f : ℕ → ℕ) (t : Tree Value)
      → sum_by (λ (node : Node Plain). f node.rule) (plain_tree texts t) ≡ sum_by (λ (node : Node Value). f node.rule) t
  same_sum f t = same_fold f 0 t

  pub plain_instances : (symbols : List FlatSymbol) (rules : List FlatRule) (F : Tree Value)
      → instances symbols rules (plain_tree texts F) ≡ instances symbols rules F
  plain_instances symbols rules F = same_sum _ F

  pub plain_text_cells : (symbols : List FlatSymbol) (rules : List FlatRule) (F : Tree Value)
      → text_cells symbols rules (plain_tree texts F) ≡ text_cells symbols rules F
  plain_text_cells symbols rules F = same_sum _ F
