-- The steps of the walk, for a draft with a spot.
use Rattle.std.specs.Prelude.{Contains, slice_get, true, false, take, All}
use Rattle.std.proofs.Common.{◌≡◌, ℕ, zero, suc, ◌+◌, ◌<◌, ◌≤◌, List, [], ◌∷◌, ◌++◌, length, Option, Some, None, refl, ap, sym, subst, ◌∙◌, arith, length-append, add-one}
use Rattle.std.proofs.lemmas.Option.{slice_get_within, get_or_from_slice_get, slice_get-get_or}
use Rattle.std.proofs.Common.{get_or, ◌-◌}
use Rattle.lido_base.specs.declared.ids.RuleId.{RuleId}
use Rattle.lido_base.specs.declared.ids.SymId.{SymId}
use Rattle.lido_base.specs.declared.value.Value.{Value}
use Rattle.lido_base.specs.Tree.{Item, Child, IsTree, parent_of, place_of, items_of, item_at, rule_at, with_node, places, ancestors}
use Rattle.flat_grammar.specs.declared.flat.FlatSymbol.{FlatSymbol}
use Rattle.flat_grammar.specs.declared.flat.FlatRule.{FlatRule}
use Rattle.flat_grammar.specs.declared.flat.Shape.{Shape}
use Rattle.flat_grammar.specs.Rules.{HasRule}
use Rattle.flat_grammar.specs.WellFormed.{cell_of}
use Rattle.flat_grammar.specs.FlatTrees.{AreItems, IsFlatTree}
use Rattle.tree_store.specs.Growth.{IsOpen, IsTerminal}
use Rattle.tree_flattener.specs.declared.draft.Draft.{Draft}
use Rattle.tree_flattener.specs.declared.draft.Spot.{Spot}
use Rattle.tree_flattener.specs.Forms.{IsEndRule, AreElementRules}
use Rattle.tree_flattener.specs.Drafts.{Table, IsGrown, IsPlaced, IsOnPath, Fills, Suits, IsNumbered, IsDraft, IsAttached, IsClosed, IsWalk, HasForm, most_nodes}
use Rattle.lido_base.proofs.PathLemmas.{with_parent_inside, own_item, place_inside, preorder_parent, no_more, child_parent}
use Rattle.tree_flattener.proofs.GrowLemmas.{Adds, adds, some_same}
use Rattle.tree_flattener.proofs.ItemLemmas.{there, take_all, take_short, items_length, rest_terminals, terminals_between, next_behind}
use Rattle.tree_flattener.proofs.DraftLemmas.{attached_draft, closed_numbered, closed_draft, is_flat_tree}
use Rattle.tree_flattener.proofs.StepLemmas.{low_m, tail_of_list, element_attached, list_closed, few_at_tail, child_attached, plain_closed, first_draft}
use Rattle.tree_store.proofs.OpenLemmas.{open_added}

module _ (symbols : List FlatSymbol) (rules : List FlatRule) (shapes : List Shape) (W : Table) (s : Draft) (at : Spot) (walk : IsWalk symbols rules shapes W s at) where
  -- the spot is at a written node
  pub met : at.node < length s.flat_of
  met = low_m symbols rules shapes W walk.suits s.flat s.node_of s.flat_of (length s.flat_of) at.node at.tail at.done walk.draft

  pub inside : at.node < length W
  inside = let h = met in let w = walk.within in omega arith

  shape_here : (shape : Shape) × Contains shapes shape × (rule_at W at.node ≡ Some shape.rule.0)
  shape_here = walk.suits.shaped at.node inside

  -- there are few flat nodes
  pub few_nodes : length s.flat < 3145728
  few_nodes = let a = walk.draft.few in let b = walk.within in let c = walk.few in omega arith

  module _ (lists : HasForm symbols rules shapes W (λ shape. shape.list ≡ true) at.node) where
    pub few_in_cell : places s.flat at.tail ≤ 1
    few_in_cell = (tail_of_list symbols rules shapes W walk.suits s.flat s.node_of s.flat_of (length s.flat_of) at.node at.tail at.done walk.draft walk.within lists).1

    pub closed_list : ((k c : ℕ) → item_at W at.node k ≡ Some (Child c) → c < length s.flat_of) → (i : RuleId) → HasForm symbols rules shapes W (λ shape. IsEndRule rules (cell_of rules shape) i) at.node
        → (G : Table) (more : List ℕ) → IsGrown s.flat i.0 (Some at.tail) G → more ≡ s.node_of ++ at.node ∷ [] → IsClosed symbols rules shapes W s.flat s.node_of s.flat_of G more at.node
    closed_list all_met i ends G more e f = subst (λ z. IsClosed symbols rules shapes W s.flat s.node_of s.flat_of G z at.node) (sym f)
        (list_closed symbols rules shapes W walk.suits s.flat s.node_of s.flat_of (length s.flat_of) at.node at.tail at.done walk.draft walk.within lists all_met i ends G
        (adds s.flat walk.draft.numbered.tree i.0 at.tail walk.draft.open_tail G e))

    module _ (up : parent_of W (length s.flat_of) ≡ Some at.node) (r : FlatRule) (has : HasRule rules W (length s.flat_of) r) (elements : List (Option RuleId))
        (are : HasForm symbols rules shapes W (λ shape. AreElementRules rules (cell_of rules shape) elements) at.node) where
      -- the element's symbol has a rule
      pub has_rule_of_cell : (i : RuleId) × (slice_get elements r.left.0 ≡ Some (Some i))
      has_rule_of_cell = let (shape, among, is) = shape_here in go (place_of W (length s.flat_of)) (own_item W walk.suits.tree (length s.flat_of) at.node up) shape among is
        where
          go : (k : ℕ) → item_at W at.node k ≡ Some (Child (length s.flat_of)) → (shape : Shape) → Contains shapes shape → rule_at W at.node ≡ Some shape.rule.0 → (i : RuleId) × (slice_get elements r.left.0 ≡ Some (Some i))
          go zero e shape among is = cc
          go (suc k) e shape among is = let (c, same, rule) = walk.suits.elements at.node k (Child (length s.flat_of)) shape among is (lists shape among is) e in
              let (i, q, got, left, right) = rule r (subst (λ z. HasRule rules W z r) (child_same refl same) has) in (are shape among is).complete r.left i q got left right
            where
              child_same : {x : Item Value} {a b : ℕ} → x ≡ Child a → x ≡ Child b → a ≡ b
              child_same e f = cc

      pub attached_element : (i : RuleId) → slice_get elements r.left.0 ≡ Some (Some i) → (H G : Table) (more : List ℕ) (f : ℕ) → IsGrown s.flat i.0 (Some at.tail) H → IsGrown H has.0 (Some (length s.flat)) G → more ≡ (s.node_of ++ at.node ∷ []) ++ length s.flat_of ∷ []
          → f ≡ length H → IsAttached symbols rules shapes W s.flat s.node_of s.flat_of G more at.node (length s.flat_of) f
      attached_element i found H G more f one two e is =
          let first = adds s.flat walk.draft.numbered.tree i.0 at.tail walk.draft.open_tail H one in
          subst (λ z. IsAttached symbols rules shapes W s.flat s.node_of s.flat_of G more at.node (length s.flat_of) z) (sym is)
          (subst (λ z. IsAttached symbols rules shapes W s.flat s.node_of s.flat_of G z at.node (length s.flat_of) (length H)) (sym e)
          (element_attached symbols rules shapes W walk.suits s.flat s.node_of s.flat_of (length s.flat_of) at.node at.tail at.done walk.draft walk.within lists up has.0 r has.1 has.2 i
          (λ shape among is. (are shape among is).found r.left i found) H G first (adds H first.tree has.0 (length s.flat) first.open_new G two)))

  module _ (plain : HasForm symbols rules shapes W (λ shape. shape.list ≡ false) at.node) where
    pub few_in_plain : places s.flat at.tail ≤ at.done
    few_in_plain = few_at_tail symbols rules shapes W walk.suits s.flat s.node_of s.flat_of (length s.flat_of) at.node at.tail at.done walk.draft walk.within plain

    pub plain_few : length (items_of W at.node) < 65536
    plain_few = let (shape, among, is) = shape_here in let h = walk.suits.few at.node shape among is (plain shape among is) in omega (arith, h.0, h.1)

    pub width_is : (width : ℕ) → HasForm symbols rules shapes W (λ shape. width ≡ length shape.right) at.node → width ≡ length (items_of W at.node)
    width_is width h = let (shape, among, is) = shape_here in h shape among is ∙ sym (walk.suits.few at.node shape among is (plain shape among is)).0

    pub closed_plain : (width : ℕ) → width ≡ length (items_of W at.node) → (H : Table) (more : List ℕ) → Fills s.flat H at.tail → more ≡ s.node_of
        → AreItems rules shapes H more (items_of H at.tail) (take width (items_of W at.node)) → IsClosed symbols rules shapes W s.flat s.node_of s.flat_of H more at.node
    closed_plain width e H more fills same h = subst (λ z. IsClosed symbols rules shapes W s.flat s.node_of s.flat_of H z at.node) (sym same)
        (plain_closed symbols rules shapes W walk.suits s.flat s.node_of s.flat_of (length s.flat_of) at.node at.tail at.done walk.draft walk.within plain H fills
        (subst (λ ws. AreItems rules shapes H s.node_of (items_of H at.tail) ws) (take_all (items_of W at.node) width (omega arith)) (subst (λ z. AreItems rules shapes H z (items_of H at.tail) (take width (items_of W at.node))) same h)))

    module _ (up : parent_of W (length s.flat_of) ≡ Some at.node) (j : ℕ) (rule_is : rule_at W (length s.flat_of) ≡ Some j) where
      pub attached_child : (end : ℕ) → suc end ≡ place_of W (length s.flat_of) → (H G : Table) (mid more : List ℕ) (f : ℕ) → Fills s.flat H at.tail → mid ≡ s.node_of
          → AreItems rules shapes H mid (items_of H at.tail) (take end (items_of W at.node)) → IsGrown H j (Some at.tail) G → more ≡ mid ++ length s.flat_of ∷ [] → f ≡ length H
          → IsAttached symbols rules shapes W s.flat s.node_of s.flat_of G more at.node (length s.flat_of) f
      attached_child end to H G mid more f fills same h added e is =
          subst (λ z. IsAttached symbols rules shapes W s.flat s.node_of s.flat_of G more at.node (length s.flat_of) z) (sym is)
          (subst (λ z. IsAttached symbols rules shapes W s.flat s.node_of s.flat_of G z at.node (length s.flat_of) (length H)) (sym (e ∙ ap (λ z. z ++ length s.flat_of ∷ []) same))
          (child_attached symbols rules shapes W walk.suits s.flat s.node_of s.flat_of (length s.flat_of) at.node at.tail at.done walk.draft walk.within plain H fills up j rule_is end to
          (subst (λ z. AreItems rules shapes H z (items_of H at.tail) (take end (items_of W at.node))) same h) G (adds H fills.tree j at.tail (fills.opened at.tail walk.draft.open_tail) G added)))

  pub terminals_left : ((k c : ℕ) → item_at W at.node k ≡ Some (Child c) → c < length s.flat_of) → (k : ℕ) → at.done ≤ k → k < length (items_of W at.node) → IsTerminal W at.node (k + 1)
  terminals_left = rest_terminals W at.node (length s.flat_of) at.done walk.draft.before walk.draft.behind

  module _ (up : parent_of W (length s.flat_of) ≡ Some at.node) where
    pub terminals_before : (k : ℕ) → at.done ≤ k → k + 1 < place_of W (length s.flat_of) → IsTerminal W at.node (k + 1)
    terminals_before = terminals_between W at.node (length s.flat_of) at.done walk.draft.before walk.draft.behind walk.suits.tree up

    pub place_behind : at.done < place_of W (length s.flat_of)
    place_behind = next_behind W at.node (length s.flat_of) at.done walk.draft.before walk.draft.behind walk.suits.tree up

    pub place_within : place_of W (length s.flat_of) ≤ length (items_of W at.node)
    place_within = place_inside W walk.suits.tree (length s.flat_of) at.node up

    -- with the child attached, the spot is at it
    pub walk_down : (G : Draft) (next : Spot) (f : ℕ) → IsAttached symbols rules shapes W s.flat s.node_of s.flat_of G.flat G.node_of at.node (length s.flat_of) f → G.flat_of ≡ s.flat_of ++ f ∷ []
        → next ≡ record { node = length s.flat_of; tail = f; done = 0 } → IsWalk symbols rules shapes W G next
    walk_down G next f a e is = subst (IsWalk symbols rules shapes W G) (sym is) (record {
      suits = walk.suits;
      few = walk.few;
      within = omega (arith, count, with_parent_inside W (length s.flat_of) at.node up);
      draft = subst (λ z. IsDraft symbols rules shapes W G.flat G.node_of z (length z) (length s.flat_of) f 0) (sym e)
          (subst (λ v. IsDraft symbols rules shapes W G.flat G.node_of (s.flat_of ++ f ∷ []) v (length s.flat_of) f 0) (sym (length-append s.flat_of (f ∷ []) ∙ add-one (length s.flat_of)))
          (attached_draft symbols rules shapes W walk.suits s.flat s.node_of s.flat_of (length s.flat_of) at.node at.tail at.done walk.draft G.flat G.node_of (length s.flat_of) f refl up a));
    })
      where
        count : length G.flat_of ≡ length s.flat_of + 1
        count = ap length e ∙ length-append s.flat_of (f ∷ [])

  module _ (G : Table) (more : List ℕ) (a : IsClosed symbols rules shapes W s.flat s.node_of s.flat_of G more at.node) where
    pub numbered_closed : IsNumbered symbols rules shapes W G more s.flat_of
    numbered_closed = closed_numbered symbols rules shapes W walk.suits s.flat s.node_of s.flat_of (length s.flat_of) at.node at.tail at.done walk.draft G more a

    -- all is there once the root is closed
    pub flat_tree_closed : IsPlaced W G more → at.node ≡ 0 → length s.flat_of ≡ length W → IsFlatTree rules shapes W G more
    flat_tree_closed = is_flat_tree symbols rules shapes W walk.suits s.flat s.node_of s.flat_of (length s.flat_of) at.node at.tail at.done walk.draft G more a

  -- with the node closed, the spot is at its parent
  pub walk_up : (G : Draft) (next : Spot) → IsClosed symbols rules shapes W s.flat s.node_of s.flat_of G.flat G.node_of at.node → G.flat_of ≡ s.flat_of → parent_of W at.node ≡ Some next.node
      → ((f : ℕ) → slice_get G.flat_of at.node ≡ Some f → parent_of G.flat f ≡ Some next.tail) → next.done ≡ place_of W at.node → IsWalk symbols rules shapes W G next
  walk_up G next a e up link done = record {
    suits = walk.suits;
    few = walk.few;
    within = let h = walk.within in omega (arith, ap length e);
    draft = subst (λ z. IsDraft symbols rules shapes W G.flat G.node_of z (length z) next.node next.tail next.done) (sym e)
        (subst (λ z. IsDraft symbols rules shapes W G.flat G.node_of s.flat_of (length s.flat_of) next.node next.tail z) (sym done)
        (closed_draft symbols rules shapes W walk.suits s.flat s.node_of s.flat_of (length s.flat_of) at.node at.tail at.done walk.draft G.flat G.node_of a next.node flat.0 next.tail up flat.1
        (link flat.0 (ap (λ z. slice_get z at.node) e ∙ flat.1))));
  }
    where
      flat : (f : ℕ) × (slice_get s.flat_of at.node ≡ Some f)
      flat = there s.flat_of at.node met

  module _ (n : ℕ) (next : n ≡ length s.flat_of) (child : parent_of W n ≡ Some at.node) where
    child_up : parent_of W (length s.flat_of) ≡ Some at.node
    child_up = subst (λ z. parent_of W z ≡ Some at.node) next child

    pub next_inside : n < length W
    next_inside = with_parent_inside W n at.node child

    pub place_next : (k : ℕ) → at.done ≤ k → k < place_of W n - 1 → IsTerminal W at.node (k + 1)
    place_next k low high = terminals_before child_up k low (omega (arith, ap (place_of W) next))

    pub place_forward : at.done + 1 ≤ place_of W n
    place_forward = let h = place_behind child_up in omega (arith, ap (place_of W) next)

    -- a cell was added
    pub cell_added : (i : ℕ) (H : Table) → IsGrown s.flat i (Some at.tail) H → Adds s.flat H i at.tail
    cell_added i H one = adds s.flat walk.draft.numbered.tree i at.tail walk.draft.open_tail H one

    module _ (lists : HasForm symbols rules shapes W (λ shape. shape.list ≡ true) at.node) (elements : List (Option RuleId)) (are : HasForm symbols rules shapes W (λ shape. AreElementRules rules (cell_of rules shape) elements) at.node)
        (symbol : SymId) (symbol_is : (r : FlatRule) → HasRule rules W n r → symbol ≡ r.left) (o : Option RuleId) (o_is : (i : RuleId) → slice_get elements symbol.0 ≡ Some (Some i) → o ≡ Some i) where
      pub rule_there : (r : FlatRule) × HasRule rules W n r
      rule_there = let h = walk.suits.ruled n next_inside in (h.0, h.1)

      rule_found : (i : RuleId) × (slice_get elements rule_there.0.left.0 ≡ Some (Some i))
      rule_found = has_rule_of_cell lists child_up rule_there.0 (subst (λ z. HasRule rules W z rule_there.0) next rule_there.1) elements are

      pub element_is : (i : RuleId) × (slice_get elements rule_there.0.left.0 ≡ Some (Some i)) × (o ≡ Some i)
      element_is = (rule_found.0, rule_found.1, o_is rule_found.0 (ap (λ (z : SymId). slice_get elements z.0) (symbol_is rule_there.0 rule_there.1) ∙ rule_found.1))

      pub element_added : (i : RuleId) → o ≡ Some i → (H G : Table) (mid more : List ℕ) (cell j f : ℕ) → IsGrown s.flat i.0 (Some at.tail) H → mid ≡ s.node_of ++ at.node ∷ [] → cell ≡ length s.flat → rule_at W n ≡ Some j
          → IsGrown H j (Some cell) G → more ≡ mid ++ n ∷ [] → f ≡ length H → IsAttached symbols rules shapes W s.flat s.node_of s.flat_of G more at.node n f
      element_added i is H G mid more cell j f one mid_is cell_is rule_is two more_is f_is =
          let same : i ≡ element_is.0 = some_same (sym is ∙ element_is.2) in
          let number : rule_there.1.0 ≡ j = some_same (sym rule_there.1.1 ∙ rule_is) in
          subst (λ z. IsAttached symbols rules shapes W s.flat s.node_of s.flat_of G more at.node z f) (sym next)
          (attached_element lists child_up rule_there.0 (subst (λ z. HasRule rules W z rule_there.0) next rule_there.1) elements are i (element_is.1 ∙ ap (λ (z : RuleId). Some (Some z)) (sym same)) H G more f one
          (two.0, two.1, two.2 ∙ ap (λ z. with_node H j (Some z) two.0 two.1) cell_is ∙ ap (λ z. with_node H z (Some (length s.flat)) two.0 two.1) (sym number))
          (more_is ∙ ap (λ z. z ++ n ∷ []) mid_is ∙ ap (λ z. (s.node_of ++ at.node ∷ []) ++ z ∷ []) next) f_is)

    module _ (plain : HasForm symbols rules shapes W (λ shape. shape.list ≡ false) at.node) where
      pub child_added : (j : ℕ) → rule_at W n ≡ Some j → (place : ℕ) → place ≡ place_of W n → (H G : Table) (mid more : List ℕ) (f : ℕ) → Fills s.flat H at.tail → mid ≡ s.node_of
          → AreItems rules shapes H mid (items_of H at.tail) (take (place - 1) (items_of W at.node)) → IsGrown H j (Some at.tail) G → more ≡ mid ++ n ∷ [] → f ≡ length H
          → IsAttached symbols rules shapes W s.flat s.node_of s.flat_of G more at.node n f
      child_added j rule_is place place_is H G mid more f fills same h added more_is f_is =
          subst (λ z. IsAttached symbols rules shapes W s.flat s.node_of s.flat_of G more at.node z f) (sym next)
          (attached_child plain child_up j (subst (λ z. rule_at W z ≡ Some j) next rule_is) (place - 1) (omega (arith, place_forward, place_is, ap (place_of W) next)) H G mid more f fills same h added (more_is ∙ ap (λ z. mid ++ z ∷ []) next) f_is)

    pub went_down : (F : Table) (node_of flat_of : List ℕ) (G : Draft) (below : Spot) (f : ℕ) → IsAttached symbols rules shapes W s.flat s.node_of s.flat_of F node_of at.node n f → G.flat ≡ F → G.node_of ≡ node_of → flat_of ≡ s.flat_of → G.flat_of ≡ flat_of ++ f ∷ []
        → below ≡ record { node = n; tail = f; done = 0 } → IsWalk symbols rules shapes W G below
    went_down F node_of flat_of G below f a same_flat same_node same_of e is = walk_down child_up G below f
        (subst (λ z. IsAttached symbols rules shapes W s.flat s.node_of s.flat_of G.flat G.node_of at.node z f) next
        (subst (λ z. IsAttached symbols rules shapes W s.flat s.node_of s.flat_of z G.node_of at.node n f) (sym same_flat) (subst (λ z. IsAttached symbols rules shapes W s.flat s.node_of s.flat_of F z at.node n f) (sym same_node) a)))
        (e ∙ ap (λ z. z ++ f ∷ []) same_of) (is ∙ ap (λ (z : ℕ). record { node = z; tail = f; done = 0 }) next)

-- so many items at most stand for so many
pub few_items : (symbols : List FlatSymbol) (rules : List FlatRule) (shapes : List Shape) (W H : Table) (node_of : List ℕ) (p end : ℕ) (xs : List (Item Value)) → AreItems rules shapes H node_of (items_of H p) (take end xs) → places H p ≤ end
few_items symbols rules shapes W H node_of p end xs h = omega (arith, items_length symbols rules shapes W H node_of (items_of H p) (take end xs) h, take_short xs end)

module _ (symbols : List FlatSymbol) (rules : List FlatRule) (shapes : List Shape) (W F : Table) (node_of flat_of : List ℕ) (numbered : IsNumbered symbols rules shapes W F node_of flat_of) (n : ℕ) (met : n < length flat_of) (xs : List ℕ) (same : xs ≡ flat_of) where
  number : (f : ℕ) × (slice_get flat_of n ≡ Some f) × (get_or xs n 0 ≡ f)
  number = let h = there flat_of n met in (h.0, h.1, ap (λ z. get_or z n 0) same ∙ get_or_from_slice_get flat_of n h.0 0 h.1)

  pub number_inside : get_or xs n 0 < length F
  number_inside = let of = (numbered.known n number.0 number.1).0.1 in let h = slice_get_within node_of number.0 n of in omega (arith, number.2, numbered.each_node)

  -- the first flat node is the root's
  pub number_of_root : get_or xs n 0 ≡ 0 → n ≡ 0
  number_of_root e = let of = (numbered.known n number.0 number.1).0.1 in let first = (numbered.known 0 0 numbered.root).0.1 in
      some_same (sym of ∙ ap (slice_get node_of) (sym number.2 ∙ e) ∙ first)

  pub number_is : (f : ℕ) → slice_get flat_of n ≡ Some f → get_or xs n 0 ≡ f
  number_is f e = number.2 ∙ some_same (sym number.1 ∙ e)

module _ (symbols : List FlatSymbol) (rules : List FlatRule) (shapes : List Shape) (W : Table) (suits : Suits symbols rules shapes W) (n j : ℕ) (is : rule_at W n ≡ Some j) (xs : List FlatRule) (same : xs ≡ rules) where
  pub rule_inside : n < length W → j < length xs
  rule_inside h = let (r, (i, e, got), plain) = suits.ruled n h in let low = slice_get_within rules i r got in let here : i ≡ j = some_same (sym e ∙ is) in omega (arith, ap length same)

  pub left_is : (d : FlatRule) → (r : FlatRule) → HasRule rules W n r → (get_or xs j d).left ≡ r.left
  left_is d r (i, e, got) = ap (λ (z : FlatRule). z.left) (ap (λ z. get_or z j d) same ∙ get_or_from_slice_get rules j r d (ap (slice_get rules) (some_same (sym is ∙ e)) ∙ got))

-- the walk begins at the root
pub first_walk : (symbols : List FlatSymbol) (rules : List FlatRule) (shapes : List Shape) (W : Table) → Suits symbols rules shapes W → length W ≤ most_nodes → (s : Draft) (j : ℕ) → rule_at W 0 ≡ Some j → IsGrown [] j None s.flat → IsTree s.flat
    → s.node_of ≡ 0 ∷ [] → s.flat_of ≡ 0 ∷ [] → IsWalk symbols rules shapes W s (record { node = 0; tail = 0; done = 0 })
first_walk symbols rules shapes W suits few s j rule_is e tree nodes flats = record {
  suits = suits;
  few = few;
  within = let h = suits.tree.has_root in omega (arith, ap length flats);
  draft = subst (λ z. IsDraft symbols rules shapes W s.flat s.node_of z (length z) 0 0 0) (sym flats)
      (subst (λ z. IsDraft symbols rules shapes W s.flat z (0 ∷ []) 1 0 0 0) (sym nodes)
      (first_draft symbols rules shapes W suits suits.tree.has_root s.flat j rule_is e tree (subst (λ g. IsOpen g 0) (sym e.2) (open_added [] j None e.0 e.1))));
}

module _ (W : Table) (tree : IsTree W) where
  pub next_around : (l n p : ℕ) → l + 1 ≡ n → parent_of W n ≡ Some p → IsOnPath W l p
  next_around l n p e up = preorder_parent W tree l p (ap (parent_of W) (sym (add-one l) ∙ e) ∙ up)

  pub next_all_met : (l n p : ℕ) → l + 1 ≡ n → parent_of W n ≡ Some p → (m : ℕ) → IsOnPath W l m → Contains (ancestors W m) p → (k c : ℕ) → item_at W m k ≡ Some (Child c) → c < n
  next_all_met l n p e up m path above k c at = let h = no_more W tree l m p path (ap (parent_of W) (sym (add-one l) ∙ e) ∙ up) above k c at in omega arith

  pub child_inside : (m k c : ℕ) → item_at W m k ≡ Some (Child c) → c < length W
  child_inside m k c at = with_parent_inside W c m (child_parent W tree m k c at)

-- the numbers of written nodes are below their count
pub all_inside : (symbols : List FlatSymbol) (rules : List FlatRule) (shapes : List Shape) (W F : Table) (node_of flat_of : List ℕ) → IsNumbered symbols rules shapes W F node_of flat_of → length flat_of ≡ length W → All (λ n. n < length W) node_of
all_inside symbols rules shapes W F node_of flat_of numbered e k d h = let l = numbered.inside k (get_or node_of k d) (slice_get-get_or node_of k d h) in omega arith
