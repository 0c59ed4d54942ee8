-- What is added for a child, and where a node is closed.
use Rattle.std.specs.Prelude.{Contains, slice_get, true, false, Bool, take, filter_map, IsTrue}
use Rattle.std.proofs.Common.{◌≡◌, ℕ, zero, suc, ◌+◌, ◌*◌, ◌<◌, ◌≤◌, ◌⊎◌, inl, inr, List, [], ◌∷◌, ◌++◌, length, Some, None, refl, ap, sym, subst, ◌∙◌, arith, length-append}
use Rattle.std.proofs.lemmas.Bool.{cases_lt}
use Rattle.std.proofs.lemmas.List.Elements.{filter_map-append}
use Rattle.std.proofs.lemmas.Option.{slice_get_within}
use Rattle.lido_base.specs.declared.ids.SymId.{SymId}
use Rattle.lido_base.specs.declared.ids.RuleId.{RuleId}
use Rattle.lido_base.specs.declared.value.Value.{Value}
use Rattle.lido_base.specs.Tree.{Item, Child, IsTree, parent_of, place_of, items_of, item_at, rule_at, child_number, places, ancestors}
use Rattle.lido_base.proofs.TreeLemmas.{parent_before, ancestors-root}
use Rattle.flat_grammar.specs.declared.flat.FlatSymbol.{FlatSymbol}
use Rattle.flat_grammar.specs.declared.flat.FlatRule.{FlatRule}
use Rattle.flat_grammar.specs.declared.flat.Shape.{Shape}
use Rattle.flat_grammar.specs.WellFormed.{cell_of}
use Rattle.flat_grammar.specs.FlatTrees.{IsNodeOf, AreItems, AreCells, IsCellNode, is_cell}
use Rattle.tree_store.specs.Growth.{IsOpen}
use Rattle.tree_store.proofs.GrowthLemmas.{get_before, get_last, open_inside}
use Rattle.tree_flattener.specs.Forms.{IsElementRule, IsEndRule}
use Rattle.tree_flattener.specs.Drafts.{Table, IsGrown, IsOnPath, Grows, Fills, Suits, IsCellOf, IsChain, IsUpToAs, IsWholeAs, IsUpTo, IsWhole, IsDraft, IsAttached, IsClosed}
use Rattle.lido_base.proofs.PathLemmas.{with_parent_inside, on_path_before, child_parent, above_before}
use Rattle.tree_flattener.proofs.GrowLemmas.{Adds, adds_grows, grows_on, fills_grow, items_grow, some_same}
use Rattle.tree_flattener.proofs.ChainLemmas.{chain_last, chain_open, chain_more, chain_end}
use Rattle.tree_flattener.proofs.ItemLemmas.{there, take_next, take_all, take_short, items_append, items_length, rest_empty, next_item, next_element}
use Rattle.tree_flattener.proofs.DraftLemmas.{get_new}

not_both : (b : Bool) → b ≡ false → IsTrue b → ⊥
not_both b e h = cc

module _ (symbols : List FlatSymbol) (rules : List FlatRule) (shapes : List Shape) (W : Table) (suits : Suits symbols rules shapes W) where
  -- a flat node with the rule of a written node is no cell
  pub no_cell : (n j : ℕ) → n < length W → rule_at W n ≡ Some j → (G : Table) (more : List ℕ) (f : ℕ) → rule_at G f ≡ Some j → IsCellNode rules shapes G f → ⊥
  no_cell n j inside is G more f at (r, (i, e, got), cell) = let known = suits.ruled n inside in
      let same : i ≡ known.1.0 = some_same (sym e ∙ at ∙ sym is ∙ known.1.1) in
      let rule : r ≡ known.0 = some_same (sym got ∙ ap (slice_get rules) same ∙ known.1.2) in
      not_both (is_cell rules shapes known.0.left) known.2 (subst (λ (z : FlatRule). IsTrue (is_cell rules shapes z.left)) rule cell)

  -- a flat node with the rule of a cell is one
  pub is_cell_node : (m : ℕ) (shape : Shape) → Contains shapes shape → rule_at W m ≡ Some shape.rule.0 → shape.list ≡ true → (G : Table) (more : List ℕ) (k i : ℕ) (q : FlatRule) → rule_at G k ≡ Some i → slice_get rules i ≡ Some q → q.left ≡ cell_of rules shape
      → IsCellNode rules shapes G k
  is_cell_node m shape among is list G more k i q at got left = (q, (i, at, got), subst (λ s. IsTrue (is_cell rules shapes s)) (sym left) (suits.cells m shape among is list))

  module _ (F : Table) (node_of flat_of : List ℕ) (v m tail done : ℕ) (d : IsDraft symbols rules shapes W F node_of flat_of v m tail done) where
    pub low_m : m < v
    low_m = let h = on_path_before W suits.tree d.last.0 m d.last.2 in omega (arith, d.last.1)

    pub flat_m : (f : ℕ) × (slice_get flat_of m ≡ Some f)
    flat_m = there flat_of m (omega (arith, low_m, d.count))

    of_m : (f : ℕ) → slice_get flat_of m ≡ Some f → slice_get node_of f ≡ Some m
    of_m f e = (d.numbered.known m f e).0.1

    pub tail_inside : tail < length F
    tail_inside = open_inside F d.numbered.tree tail d.open_tail

    each : length node_of ≡ length F
    each = d.numbered.each_node

    module _ (few : v ≤ length W) (lists : (shape : Shape) → Contains shapes shape → rule_at W m ≡ Some shape.rule.0 → shape.list ≡ true) where
      shape_m : (shape : Shape) × Contains shapes shape × (rule_at W m ≡ Some shape.rule.0)
      shape_m = suits.shaped m (omega (arith, low_m))

      chain : (shape : Shape) → Contains shapes shape → rule_at W m ≡ Some shape.rule.0 → (f : ℕ) → slice_get flat_of m ≡ Some f
          → IsChain symbols rules shapes W F node_of (cell_of rules shape) m f [] (filter_map child_number (take done (items_of W m))) tail
      chain shape among is f at = subst (λ b. IsUpToAs symbols rules shapes W F node_of b (cell_of rules shape) m f done tail) (lists shape among is) (d.top shape f among is at)

      -- the last cell belongs to the list, and has one item at most
      pub tail_of_list : (slice_get node_of tail ≡ Some m) × (places F tail ≤ 1)
      tail_of_list = chain_last symbols rules shapes W F node_of (cell_of rules shape_m.0) m tail flat_m.0 [] (filter_map child_number (take done (items_of W m))) (omega arith) (chain shape_m.0 shape_m.1 shape_m.2 flat_m.0 flat_m.1)

      elements : (k : ℕ) (x : Item Value) → slice_get (items_of W m) k ≡ Some x → (c : ℕ) × (x ≡ Child c)
      elements k x e = let h = suits.elements m k x shape_m.0 shape_m.1 shape_m.2 (lists shape_m.0 shape_m.1 shape_m.2) e in (h.0, h.1)

      module _ (up : parent_of W v ≡ Some m) (j : ℕ) (r : FlatRule) (rule_is : rule_at W v ≡ Some j) (gets : slice_get rules j ≡ Some r) (i : RuleId)
          (rule_of_cell : (shape : Shape) → Contains shapes shape → rule_at W m ≡ Some shape.rule.0 → IsElementRule rules (cell_of rules shape) r.left i)
          (H G : Table) (one : Adds F H i.0 tail) (two : Adds H G j (length F)) where
        abbrev mid : List ℕ
        mid = node_of ++ m ∷ []

        abbrev more : List ℕ
        more = mid ++ v ∷ []

        each_mid : length mid ≡ length H
        each_mid = omega (arith, length-append node_of (m ∷ []), one.count, each)

        at_cell : slice_get mid (length F) ≡ Some m
        at_cell = get_last node_of m (length F) (sym each)

        at_new : slice_get more (length H) ≡ Some v
        at_new = get_last mid v (length H) (sym each_mid)

        grows : Grows m F node_of G more
        grows = grows_on m F H G node_of mid more (adds_grows m F H i.0 tail m node_of each one tail_of_list.0) (adds_grows m H G j (length F) v mid each_mid two at_cell)

        stands : IsNodeOf rules shapes G more (length H) v
        stands = (no_cell v j (with_parent_inside W v m up) rule_is G more (length H) two.own_rule, at_new)

        rule_at_cell : rule_at G (length F) ≡ Some i.0
        rule_at_cell = two.rules (length F) (omega (arith, one.count)) ∙ one.own_rule

        cell_node : IsCellNode rules shapes G (length F)
        cell_node = let (shape, among, is) = shape_m in let (q, got, left, right) = rule_of_cell shape among is in
            is_cell_node m shape among is (lists shape among is) G more (length F) i.0 q rule_at_cell got left

        new_ones : (k w : ℕ) → length F ≤ k → slice_get more k ≡ Some w → ((k ≡ length F) × (w ≡ m)) ⊎ ((k ≡ length H) × (w ≡ v))
        new_ones k w h of = go (cases_lt k (length H))
          where
            go : (k < length H) ⊎ (length H ≤ k) → ((k ≡ length F) × (w ≡ m)) ⊎ ((k ≡ length H) × (w ≡ v))
            go (inl low) = let e : k ≡ length F = omega (arith, one.count) in inl (e, some_same (sym of ∙ get_before mid v k (omega (arith, each_mid)) ∙ ap (slice_get mid) e ∙ at_cell))
            go (inr high) = let new = get_new mid v k w of (omega (arith, each_mid)) in inr (omega (arith, new.0, each_mid), new.1)

        is_cell_of : (shape : Shape) → Contains shapes shape → rule_at W m ≡ Some shape.rule.0 → IsCellOf symbols rules shapes W G more (cell_of rules shape) m (length F) (length H) v
        is_cell_of shape among is = let (q, got, left, right) = rule_of_cell shape among is in record {
          rule = q;
          element = r;
          has_rule = (i.0, rule_at_cell, got);
          has_element = (j, two.own_rule, gets);
          left = left;
          right = right;
          of_list = get_before mid v (length F) (omega (arith, each_mid, one.count)) ∙ at_cell;
          stands = stands;
        }

        elements_so_far : filter_map child_number (take done (items_of W m)) ++ v ∷ [] ≡ filter_map child_number (take (place_of W v) (items_of W m))
        elements_so_far = let next : suc done ≡ place_of W v = next_element W m v done d.before d.behind suits.tree up elements in
            sym (filter_map-append child_number (take done (items_of W m)) (Child v ∷ []))
            ∙ ap (filter_map child_number) (sym (take_next (items_of W m) done (Child v) (next_item W m v done d.before d.behind suits.tree up done next)))
            ∙ ap (λ k. filter_map child_number (take k (items_of W m))) next

        link : (t : ℕ) → parent_of G (length H) ≡ Some t → IsUpTo symbols rules shapes W G more flat_of m (place_of W v) t
        link t e shape g among is at =
            let cell = cell_of rules shape in
            let on = chain_more symbols rules shapes W F node_of cell m tail each G more grows (length F)
            (two.items_same tail (λ same. let h = tail_inside in omega arith) ∙ one.items_there)
            (λ n other low. two.items_same n (λ same. omega arith) ∙ one.items_same n other)
            (length H) v tail_inside tail_inside (is_cell_of shape among is)
            (two.items_there ∙ ap (λ is. is ++ Child (length H) ∷ []) one.items_new)
            g [] (filter_map child_number (take done (items_of W m))) (chain shape among is g at) in
            subst (λ b. IsUpToAs symbols rules shapes W G more b cell m g (place_of W v) t) (sym (lists shape among is))
            (subst (λ z. IsChain symbols rules shapes W G more cell m g [] (filter_map child_number (take (place_of W v) (items_of W m))) z) (some_same (sym two.own_parent ∙ e))
            (subst (λ xs. IsChain symbols rules shapes W G more cell m g [] xs (length F)) elements_so_far on))

        -- an element stands below a new cell
        pub element_attached : IsAttached symbols rules shapes W F node_of flat_of G ((node_of ++ m ∷ []) ++ v ∷ []) m v (length H)
        element_attached = record {
          tree = two.tree;
          each_node = omega (arith, length-append mid (v ∷ []), each_mid, two.count);
          grows = grows;
          few = omega (arith, one.count, two.count);
          new = stands;
          rule = two.own_rule ∙ sym rule_is;
          behind = omega (arith, one.count);
          open_new = two.open_new;
          empty = two.items_new;
          only = λ k w h s. only k w s (new_ones k w h s.1);
          inside = λ k w h of. whose k w (new_ones k w h of);
          link = link;
        }
          where
            only : (k w : ℕ) → IsNodeOf rules shapes G more k w → ((k ≡ length F) × (w ≡ m)) ⊎ ((k ≡ length H) × (w ≡ v)) → (k ≡ length H) × (w ≡ v)
            only k w s (inl cell) = absurd (s.0 (subst (IsCellNode rules shapes G) (sym cell.0) cell_node))
            only k w s (inr new) = new

            whose : (k w : ℕ) → ((k ≡ length F) × (w ≡ m)) ⊎ ((k ≡ length H) × (w ≡ v)) → (w ≡ m) ⊎ (w ≡ v)
            whose k w (inl cell) = inl cell.1
            whose k w (inr new) = inr new.1

      module _ (all_met : (k c : ℕ) → item_at W m k ≡ Some (Child c) → c < v) (i : RuleId) (rule_of_end : (shape : Shape) → Contains shapes shape → rule_at W m ≡ Some shape.rule.0 → IsEndRule rules (cell_of rules shape) i)
          (G : Table) (one : Adds F G i.0 tail) where
        abbrev behind : List ℕ
        behind = node_of ++ m ∷ []

        end_grows : Grows m F node_of G behind
        end_grows = adds_grows m F G i.0 tail m node_of each one tail_of_list.0

        at_end : slice_get behind (length F) ≡ Some m
        at_end = get_last node_of m (length F) (sym each)

        end_node : IsCellNode rules shapes G (length F)
        end_node = let (shape, among, is) = shape_m in let (q, got, left, right) = rule_of_end shape among is in
            is_cell_node m shape among is (lists shape among is) G behind (length F) i.0 q one.own_rule got left

        new_one : (k w : ℕ) → length F ≤ k → slice_get behind k ≡ Some w → (k ≡ length F) × (w ≡ m)
        new_one k w h of = let new = get_new node_of m k w of (omega (arith, each)) in (omega (arith, new.0, each), new.1)

        all_elements : take done (items_of W m) ≡ items_of W m
        all_elements = take_all (items_of W m) done (rest_empty W m v done d.before d.behind all_met elements)

        whole : IsWhole symbols rules shapes W G behind flat_of m
        whole shape g among is at =
            let cell = cell_of rules shape in
            let (q, got, left, right) = rule_of_end shape among is in
            let on = chain_end symbols rules shapes W F node_of cell m tail each G behind end_grows (length F) one.items_there (λ n other low. one.items_same n other) tail_inside
            (q, (i.0, one.own_rule, got), left, right, one.items_new, at_end)
            g [] (filter_map child_number (take done (items_of W m))) (chain shape among is g at) in
            subst (λ b. IsWholeAs symbols rules shapes W G behind b cell m g) (sym (lists shape among is))
            (on.0, on.1, subst (λ xs. AreCells rules shapes G behind cell m on.0 (filter_map child_number xs)) all_elements on.2)

        -- the end cell closes the list
        pub list_closed : IsClosed symbols rules shapes W F node_of flat_of G (node_of ++ m ∷ []) m
        list_closed = record {
          tree = one.tree;
          each_node = omega (arith, length-append node_of (m ∷ []), one.count, each);
          grows = end_grows;
          few = omega (arith, one.count);
          only = λ k w h s. s.0 (subst (IsCellNode rules shapes G) (sym (new_one k w h s.1).0) end_node);
          inside = λ k w h of. (new_one k w h of).1;
          whole = whole;
          open_node = λ f at. chain_open symbols rules shapes W F node_of (cell_of rules shape_m.0) m tail d.numbered.tree G one.tree one.parents f [] (filter_map child_number (take done (items_of W m)))
              (chain shape_m.0 shape_m.1 shape_m.2 f at) one.open_parent;
        }

    module _ (few : v ≤ length W) (plain : (shape : Shape) → Contains shapes shape → rule_at W m ≡ Some shape.rule.0 → shape.list ≡ false) where
      plain_shape : (shape : Shape) × Contains shapes shape × (rule_at W m ≡ Some shape.rule.0)
      plain_shape = suits.shaped m (omega (arith, low_m))

      up_to : (f : ℕ) → slice_get flat_of m ≡ Some f → (tail ≡ f) × AreItems rules shapes F node_of (items_of F f) (take done (items_of W m))
      up_to f at = let (shape, among, is) = plain_shape in
          subst (λ b. IsUpToAs symbols rules shapes W F node_of b (cell_of rules shape) m f done tail) (plain shape among is) (d.top shape f among is at)

      -- the flat node itself gets the next item
      pub items_of_tail : AreItems rules shapes F node_of (items_of F tail) (take done (items_of W m))
      items_of_tail = let h = up_to flat_m.0 flat_m.1 in subst (λ z. AreItems rules shapes F node_of (items_of F z) (take done (items_of W m))) (sym h.0) h.1

      pub few_at_tail : places F tail ≤ done
      few_at_tail = omega (arith, items_length symbols rules shapes W F node_of (items_of F tail) (take done (items_of W m)) items_of_tail, take_short (items_of W m) done)

      pub tail_of_plain : slice_get node_of tail ≡ Some m
      tail_of_plain = ap (slice_get node_of) (up_to flat_m.0 flat_m.1).0 ∙ of_m flat_m.0 flat_m.1

      module _ (H : Table) (fills : Fills F H tail) where
        each_filled : length node_of ≡ length H
        each_filled = omega (arith, fills.count, each)

        filled : Grows m F node_of H node_of
        filled = fills_grow m F H tail node_of each fills tail_of_plain

        module _ (up : parent_of W v ≡ Some m) (j : ℕ) (rule_is : rule_at W v ≡ Some j) (end : ℕ) (to : suc end ≡ place_of W v)
            (same : AreItems rules shapes H node_of (items_of H tail) (take end (items_of W m))) (G : Table) (one : Adds H G j tail) where
          abbrev with_child : List ℕ
          with_child = node_of ++ v ∷ []

          last_grows : Grows m H node_of G with_child
          last_grows = adds_grows m H G j tail v node_of each_filled one tail_of_plain

          child_stands : IsNodeOf rules shapes G with_child (length H) v
          child_stands = (no_cell v j (with_parent_inside W v m up) rule_is G with_child (length H) one.own_rule, get_last node_of v (length H) (sym each_filled))

          child_new : (k w : ℕ) → length F ≤ k → slice_get with_child k ≡ Some w → (k ≡ length H) × (w ≡ v)
          child_new k w h of = let new = get_new node_of v k w of (omega (arith, each)) in (omega (arith, new.0, each_filled), new.1)

          items_now : AreItems rules shapes G with_child (items_of G tail) (take (place_of W v) (items_of W m))
          items_now = subst (λ is. AreItems rules shapes G with_child is (take (place_of W v) (items_of W m))) (sym one.items_there)
              (subst (λ ws. AreItems rules shapes G with_child (items_of H tail ++ Child (length H) ∷ []) ws) (sym (take_next (items_of W m) end (Child v) (next_item W m v done d.before d.behind suits.tree up end to)) ∙ ap (λ k. take k (items_of W m)) to)
              (items_append symbols rules shapes W G with_child (items_of H tail) (take end (items_of W m)) (Child (length H) ∷ []) (Child v ∷ [])
              (items_grow symbols rules shapes W H node_of each_filled m G with_child last_grows (items_of H tail) (take end (items_of W m)) same) (child_stands, tt)))

          child_link : (t : ℕ) → parent_of G (length H) ≡ Some t → IsUpTo symbols rules shapes W G with_child flat_of m (place_of W v) t
          child_link t e shape g among is at =
              let t_is : t ≡ tail = some_same (sym e ∙ one.own_parent) in
              let g_is : tail ≡ g = (up_to g at).0 in
              subst (λ b. IsUpToAs symbols rules shapes W G with_child b (cell_of rules shape) m g (place_of W v) t) (sym (plain shape among is))
              (t_is ∙ g_is, subst (λ z. AreItems rules shapes G with_child (items_of G z) (take (place_of W v) (items_of W m))) g_is items_now)

          -- a child stands behind the terminals
          pub child_attached : IsAttached symbols rules shapes W F node_of flat_of G (node_of ++ v ∷ []) m v (length H)
          child_attached = record {
            tree = one.tree;
            each_node = omega (arith, length-append node_of (v ∷ []), each_filled, one.count);
            grows = grows_on m F H G node_of node_of with_child filled last_grows;
            few = omega (arith, fills.count, one.count);
            new = child_stands;
            rule = one.own_rule ∙ sym rule_is;
            behind = omega (arith, fills.count);
            open_new = one.open_new;
            empty = one.items_new;
            only = λ k w h s. child_new k w h s.1;
            inside = λ k w h of. inr (child_new k w h of).1;
            link = child_link;
          }

        -- once all terminals are there, the node is closed
        pub plain_closed : AreItems rules shapes H node_of (items_of H tail) (items_of W m) → IsClosed symbols rules shapes W F node_of flat_of H node_of m
        plain_closed all = record {
          tree = fills.tree;
          each_node = each_filled;
          grows = filled;
          few = omega (arith, fills.count);
          only = λ k w h s. past k w h s.1;
          inside = λ k w h of. absurd (past k w h of);
          whole = λ shape g among is at. subst (λ b. IsWholeAs symbols rules shapes W H node_of b (cell_of rules shape) m g) (sym (plain shape among is))
              (subst (λ z. AreItems rules shapes H node_of (items_of H z) (items_of W m)) (up_to g at).0 all);
          open_node = λ f at. subst (IsOpen H) (up_to f at).0 (fills.opened tail d.open_tail);
        }
          where
            past : (k w : ℕ) → length F ≤ k → slice_get node_of k ≡ Some w → ⊥
            past k w h of = let l = slice_get_within node_of k w of in omega (arith, each)

  -- the root alone
  pub first_draft : 0 < length W → (F : Table) (j : ℕ) → rule_at W 0 ≡ Some j → IsGrown [] j None F → IsTree F → IsOpen F 0 → IsDraft symbols rules shapes W F (0 ∷ []) (0 ∷ []) 1 0 0 0
  first_draft some F j rule_is (line, column, e) tree open_root = record {
    numbered = record {
      tree = tree;
      each_node = sym (ap length e);
      known = known;
      only = λ n w s. only n w s.1;
      rising = rising;
      root = refl;
      inside = inside;
    };
    count = refl;
    last = (0, refl, inl refl);
    few = few;
    before = λ k c at h. none k c at h;
    behind = λ k c at h. let l = child_behind 0 k c at in omega arith;
    reach = omega arith;
    open_tail = open_root;
    top = λ shape f among is at. top shape.list (cell_of rules shape) f at;
    edges = λ q w f t path up. absurd (no_parent q w path up);
    closed = λ w h off. absurd (off (inl (omega arith)));
  }
    where
      own : rule_at F 0 ≡ Some j
      own = ap (λ f. rule_at f 0) e

      stands : IsNodeOf rules shapes F (0 ∷ []) 0 0
      stands = (no_cell 0 j some rule_is F (0 ∷ []) 0 own, refl)

      known : (w n : ℕ) → slice_get (0 ∷ []) w ≡ Some n → IsNodeOf rules shapes F (0 ∷ []) n w × (rule_at F n ≡ rule_at W w)
      known zero n at = subst (λ z. IsNodeOf rules shapes F (0 ∷ []) z 0 × (rule_at F z ≡ rule_at W 0)) (some_same at) (stands, own ∙ sym rule_is)
      known (suc w) n at = cc

      only : (n w : ℕ) → slice_get (0 ∷ []) n ≡ Some w → slice_get (0 ∷ []) w ≡ Some n
      only zero w at = ap (slice_get (0 ∷ [])) (sym (some_same at))
      only (suc n) w at = cc

      rising : (w x n m : ℕ) → slice_get (0 ∷ []) w ≡ Some n → slice_get (0 ∷ []) x ≡ Some m → w < x → n < m
      rising w zero n m e f h = absurd (omega arith)
      rising w (suc x) n m e f h = cc

      inside : (n w : ℕ) → slice_get (0 ∷ []) n ≡ Some w → w < 1
      inside zero w at = let e : 0 ≡ w = some_same at in omega arith
      inside (suc n) w at = cc

      none : (k c : ℕ) → item_at W 0 k ≡ Some (Child c) → k ≤ 0 → c < 1
      none zero c at h = cc
      none (suc k) c at h = absurd (omega arith)

      few : length F + suc (length (ancestors W 0)) ≤ 3 * 1
      few = omega (arith, ap length e, ap length (ancestors-root W 0 suits.tree.root_first))

      child_behind : (n k c : ℕ) → item_at W n k ≡ Some (Child c) → n < c
      child_behind n k c at = parent_before W suits.tree c n (child_parent W suits.tree n k c at)

      top : (list : Bool) (cell : SymId) (f : ℕ) → slice_get (0 ∷ []) 0 ≡ Some f → IsUpToAs symbols rules shapes W F (0 ∷ []) list cell 0 f 0 0
      top false cell f at = (some_same at, subst (λ z. AreItems rules shapes F (0 ∷ []) (items_of F z) []) (some_same at) (subst (λ g. AreItems rules shapes F (0 ∷ []) (items_of g 0) []) (sym e) tt))
      top true cell f at = (sym (some_same at), subst (λ z. items_of F z ≡ []) (some_same at) (ap (λ g. items_of g 0) e), ap (slice_get (0 ∷ [])) (sym (some_same at)))

      no_parent : (q w : ℕ) → IsOnPath W 0 q → parent_of W q ≡ Some w → ⊥
      no_parent q w (inl same) up = differ (sym (ap (parent_of W) same ∙ suits.tree.root_first) ∙ up)
        where
          differ : None ≡ Some w → ⊥
          differ f = cc
      no_parent q w (inr above) up = let h = above_before W suits.tree 0 q above in omega arith
