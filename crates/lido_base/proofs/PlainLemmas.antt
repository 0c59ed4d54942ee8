-- What a tree keeps where its terminals are made plain: all but the terminals.
use Rattle.std.specs.Prelude.{slice_get, filter_map, map, option_map, nat_lt, ◌&&◌, IsTrue}
use Rattle.std.specs.List.Sorted.{IsStrictlyIncreasing}
use Rattle.std.proofs.Common.{◌≡◌, ℕ, zero, suc, ◌+◌, List, [], ◌∷◌, length, Option, Some, None, refl, ap, sym, subst, ◌∙◌, arith}
use Rattle.std.proofs.lemmas.Option.{slice_get-map}
use Rattle.lido_base.specs.declared.kinds.CoordPart.{CoordPart}
use Rattle.lido_base.specs.declared.kinds.CoordPart.TheVariants.{Line, Col}
use Rattle.lido_base.specs.declared.value.Value.{Value}
use Rattle.lido_base.specs.Plain.{plain_item, plain_tree}
use Rattle.lido_base.specs.Tree.{Tree, Item, Child, Leaf, IsTree, child_number, rule_at, parent_of, place_of, line_of, column_of, coordinate, items_of, children, ancestors, and_above, unroll, contains, continues, is_just}

module _ (texts : List (List ℕ)) where
  pub plain_rule : (t : Tree Value) (n : ℕ) → rule_at (plain_tree texts t) n ≡ rule_at t n
  plain_rule [] n = refl
  plain_rule (node ∷ t) zero = refl
  plain_rule (node ∷ t) (suc n) = plain_rule t n

  pub plain_parent : (t : Tree Value) (n : ℕ) → parent_of (plain_tree texts t) n ≡ parent_of t n
  plain_parent [] n = refl
  plain_parent (node ∷ t) zero = refl
  plain_parent (node ∷ t) (suc n) = plain_parent t n

  pub plain_place : (t : Tree Value) (n : ℕ) → place_of (plain_tree texts t) n ≡ place_of t n
  plain_place [] n = refl
  plain_place (node ∷ t) zero = refl
  plain_place (node ∷ t) (suc n) = plain_place t n

  pub plain_line : (t : Tree Value) (n : ℕ) → line_of (plain_tree texts t) n ≡ line_of t n
  plain_line [] n = refl
  plain_line (node ∷ t) zero = refl
  plain_line (node ∷ t) (suc n) = plain_line t n

  pub plain_column : (t : Tree Value) (n : ℕ) → column_of (plain_tree texts t) n ≡ column_of t n
  plain_column [] n = refl
  plain_column (node ∷ t) zero = refl
  plain_column (node ∷ t) (suc n) = plain_column t n

  pub plain_coordinate : (t : Tree Value) (n : ℕ) (part : CoordPart) → coordinate (plain_tree texts t) n part ≡ coordinate t n part
  plain_coordinate t n Line = plain_line t n
  plain_coordinate t n Col = plain_column t n

  pub plain_items : (t : Tree Value) (n : ℕ) → items_of (plain_tree texts t) n ≡ map (plain_item texts) (items_of t n)
  plain_items [] n = refl
  plain_items (node ∷ t) zero = refl
  plain_items (node ∷ t) (suc n) = plain_items t n

  pub plain_length : (t : Tree Value) → length (plain_tree texts t) ≡ length t
  plain_length [] = refl
  plain_length (node ∷ t) = ap suc (plain_length t)

  same_children : (items : List (Item Value)) → filter_map child_number (map (plain_item texts) items) ≡ filter_map child_number items
  same_children [] = refl
  same_children (Child c ∷ items) = ap (λ cs. c ∷ cs) (same_children items)
  same_children (Leaf v ∷ items) = same_children items

  pub plain_children : (t : Tree Value) (n : ℕ) → children (plain_tree texts t) n ≡ children t n
  plain_children t n = ap (filter_map child_number) (plain_items t n) ∙ same_children (items_of t n)

  pub plain_ancestors : (t : Tree Value) (n : ℕ) → ancestors (plain_tree texts t) n ≡ ancestors t n
  unfolding ancestors
  plain_ancestors t n = ap (λ (parent : ℕ → Option ℕ). unroll [] (λ above m. and_above above (parent m)) n n) (λ i m. plain_parent t m i)

  -- a child among the plain items is one
  same_child_item : (items : List (Item Value)) (k c : ℕ) → slice_get (map (plain_item texts) items) k ≡ Some (Child c)
      → slice_get items k ≡ Some (Child c)
  same_child_item [] k c e = cc
  same_child_item (Child d ∷ items) zero c e = let same : d ≡ c = cc in ap (λ d. Some (Child d)) same
  same_child_item (Leaf v ∷ items) zero c e = cc
  same_child_item (x ∷ items) (suc k) c e = same_child_item items k c e

  plain_continues : (t : Tree Value) (n : ℕ) → (o : Option ℕ) → continues (plain_tree texts t) n o ≡ continues t n o
  plain_continues t n None = refl
  plain_continues t n (Some p) = rw (plain_ancestors t n) refl

  -- a tree is one with its terminals made plain, and the other way round
  pub plain_is_tree : (t : Tree Value) → IsTree t → IsTree (plain_tree texts t)
  plain_is_tree t tree = record {
    has_root = let e = plain_length t in let h = tree.has_root in omega arith;
    root_first = plain_parent t 0 ∙ tree.root_first;
    root_place = plain_place t 0 ∙ tree.root_place;
    in_preorder = λ n h. plain_continues t n (parent_of (plain_tree texts t) (n + 1)) ∙ ap (continues t n) (plain_parent t (n + 1))
        ∙ tree.in_preorder n (let e = plain_length t in omega arith);
    items_agree = λ n c. ap (contains c) (plain_children t n) ∙ tree.items_agree n c
        ∙ sym (ap (λ l. nat_lt c l && is_just n (parent_of (plain_tree texts t) c)) (plain_length t)
        ∙ ap (λ o. nat_lt c (length t) && is_just n o) (plain_parent t c));
    children_ascend = λ n. subst IsStrictlyIncreasing (sym (plain_children t n)) (tree.children_ascend n);
    places_agree = λ n k c e. plain_place t c
        ∙ tree.places_agree n k c (same_child_item (items_of t n) k c (sym (ap (λ items. slice_get items k) (plain_items t n)) ∙ e));
  }

  pub stored_is_tree : (W : Tree Value) → IsTree (plain_tree texts W) → IsTree W
  stored_is_tree W t = record {
    has_root = let h = t.has_root in omega (arith, plain_length W);
    root_first = sym (plain_parent W 0) ∙ t.root_first;
    root_place = sym (plain_place W 0) ∙ t.root_place;
    in_preorder = λ n h. subst IsTrue (ap (continues (plain_tree texts W) n) (plain_parent W (n + 1)) ∙ plain_continues W n (parent_of W (n + 1))) (t.in_preorder n (omega (arith, plain_length W)));
    items_agree = λ n c. ap (contains c) (sym (plain_children W n)) ∙ t.items_agree n c ∙ ap (λ l. nat_lt c l && is_just n (parent_of (plain_tree texts W) c)) (plain_length W) ∙ ap (λ o. nat_lt c (length W) && is_just n o) (plain_parent W c);
    children_ascend = λ n. subst IsStrictlyIncreasing (plain_children W n) (t.children_ascend n);
    places_agree = λ n k c e. sym (plain_place W c) ∙ t.places_agree n k c (ap (λ xs. slice_get xs k) (plain_items W n) ∙ slice_get-map (plain_item texts) (items_of W n) k ∙ ap (option_map (plain_item texts)) e);
  }
