-- Two flat trees of one written tree are the same, node by node.
use Rattle.std.specs.Prelude.{Contains, slice_get, true, option_map, option_and_then}
use Rattle.std.proofs.Common.{◌≡◌, ℕ, zero, suc, ◌<◌, ◌≤◌, ◌⊎◌, inl, inr, List, [], ◌∷◌, length, Some, refl, ap, sym, subst, ◌∙◌, arith}
use Rattle.std.proofs.Math.Nat.{eq-or-lt_of_le}
use Rattle.std.proofs.lemmas.Bool.{cases_lt}
use Rattle.std.proofs.lemmas.Option.{slice_get_within}
use Rattle.lido_base.specs.declared.ids.SymId.{SymId}
use Rattle.lido_base.specs.Plain.{Plain}
use Rattle.lido_base.specs.Tree.{Tree, Node, Item, Child, Leaf, rule_at, parent_of, place_of, line_of, column_of, items_of}
use Rattle.flat_grammar.specs.declared.flat.FlatSymbol.{FlatSymbol}
use Rattle.flat_grammar.specs.declared.flat.FlatRule.{FlatRule}
use Rattle.flat_grammar.specs.declared.flat.Shape.{Shape}
use Rattle.flat_grammar.specs.Fitting.{IsFitting}
use Rattle.flat_grammar.specs.WellFormed.{cell_of, IsListShape, IsWellFormed}
use Rattle.flat_grammar.specs.FlatTrees.{IsFlatTree}
use Rattle.flat_grammar.proofs.Lists.{same-by-places}
use Rattle.tree_flattener.proofs.ShapeLemmas.{list_shape}
use Rattle.tree_flattener.proofs.OnePathLemmas.{same_child, same_held, last_parent, own_item, item_at_place, some_parent}
use Rattle.lido_base.proofs.PathLemmas.{with_parent_inside, ascending, child_parent}
use Rattle.tree_flattener.proofs.OneRoleLemmas.{IsAlike, Has, written, alike_numbers, alike_inside, alike_rule, alike_all, alike_back}

there : {X : Type 0} (xs : List X) (k : ℕ) → k < length xs → (x : X) × (slice_get xs k ≡ Some x)
there [] k h = absurd (omega arith)
there (x ∷ xs) zero h = (x, refl)
there (x ∷ xs) (suc k) h = there xs k (omega arith)

-- a list with an item at each place of another is as long at least
as_long : {X : Type 0} (xs ys : List X) → ((k : ℕ) (x : X) → slice_get xs k ≡ Some x → (y : X) × (slice_get ys k ≡ Some y)) → length xs ≤ length ys
as_long xs ys has = go (cases_lt (length ys) (length xs))
  where
    go : (length ys < length xs) ⊎ (length xs ≤ length ys) → length xs ≤ length ys
    go (inr h) = h
    go (inl h) = let x = there xs (length ys) h in let y = has (length ys) x.0 x.1 in let b = slice_get_within ys (length ys) y.0 y.1 in
        absurd (omega arith)

module _ (symbols : List FlatSymbol) (rules : List FlatRule) (shapes : List Shape) {V : Type 0} (W F G : Tree V) (ns ms : List ℕ) where
  -- the node n of F and that of G have the same role, parent and place
  pub record IsSame (n : ℕ) : Type 0 where
    pub role : IsAlike symbols rules shapes W F G ns ms n n
    pub parent : parent_of F n ≡ parent_of G n
    pub place : place_of F n ≡ place_of G n

  -- the nodes up to k are the same
  abbrev pub AreSame : ℕ → Type 0
  AreSame k = (n : ℕ) → n ≤ k → IsSame n

  -- the node behind k in F, and a node behind k in G that has its role and its place at the same parent
  pub record IsMet (k p j d : ℕ) : Type 0 where
    pub parent : parent_of F (suc k) ≡ Some p
    pub low : p ≤ k
    pub item : slice_get (items_of F p) j ≡ Some (Child (suc k))
    pub place : place_of F (suc k) ≡ suc j
    pub other : slice_get (items_of G p) j ≡ Some (Child d)
    pub role : IsAlike symbols rules shapes W F G ns ms (suc k) d
    pub behind : k < d

module _ (symbols : List FlatSymbol) (rules : List FlatRule) (shapes : List Shape) {V : Type 0} (W : Tree V)
    (shaped : (w : ℕ) → w < length W → (shape : Shape) × Contains shapes shape × (rule_at W w ≡ Some shape.rule.0))
    (lists : (shape : Shape) → Contains shapes shape → shape.list ≡ true → IsListShape symbols rules shape (cell_of rules shape)) where
  module _ (F G : Tree V) (ns ms : List ℕ) (f : IsFlatTree rules shapes W F ns) (g : IsFlatTree rules shapes W G ms) where
    -- a child that both have has one number
    old_child : (p j c d : ℕ) → IsSame symbols rules shapes W F G ns ms d → slice_get (items_of F p) j ≡ Some (Child c)
        → slice_get (items_of G p) j ≡ Some (Child d) → c ≡ d
    old_child p j c d same e h = let up = child_parent G g.tree p (suc j) d h in let place = g.tree.places_agree p j d h in
        same_child c d e (item_at_place F f.tree d p j (same.parent ∙ up) (same.place ∙ place))

    pub next_met : (k : ℕ) → AreSame symbols rules shapes W F G ns ms k → suc k < length F
        → (p : ℕ) × (j : ℕ) × (d : ℕ) × IsMet symbols rules shapes W F G ns ms k p j d
    next_met k earlier h = let (p, up, low) = some_parent F f.tree k h in let (j, item, place) = own_item F f.tree (suc k) p up in
        go p up low j item place (alike_all symbols rules shapes W F G ns ms shaped lists f g p p (earlier p low).role j (Child (suc k)) item)
      where
        go : (p : ℕ) → parent_of F (suc k) ≡ Some p → p ≤ k → (j : ℕ) → slice_get (items_of F p) j ≡ Some (Child (suc k))
            → place_of F (suc k) ≡ suc j → Has symbols rules shapes W F G ns ms (items_of G p) j (Child (suc k))
            → (p : ℕ) × (j : ℕ) × (d : ℕ) × IsMet symbols rules shapes W F G ns ms k p j d
        go p up low j item place (Leaf v, e, a) = absurd a
        go p up low j item place (Child d, e, a) =
            (p, j, d, record { parent = up; low = low; item = item; place = place; other = e; role = a; behind = at (cases_lt k d) })
          where
            at : (k < d) ⊎ (d ≤ k) → k < d
            at (inl b) = b
            at (inr b) = let same = old_child p j (suc k) d (earlier d b) item e in absurd (omega arith)

    next_inside : (k p j d : ℕ) → IsMet symbols rules shapes W F G ns ms k p j d → suc k < length G
    next_inside k p j d met = let h = (alike_inside symbols rules shapes W F G ns ms shaped lists f g (suc k) d met.role).1 in let b = met.behind in
        omega arith

    -- a place that both have met is no later in F
    no_later : (k p j d i c : ℕ) → IsMet symbols rules shapes W F G ns ms k p j d → slice_get (items_of F p) i ≡ Some (Child c) → k < c → j ≤ i
    no_later k p j d i c met item b = go (cases_lt i j)
      where
        go : (i < j) ⊎ (j ≤ i) → j ≤ i
        go (inr h) = h
        go (inl h) = let l = ascending F f.tree p (suc i) (suc j) c (suc k) item met.item (omega arith) in absurd (omega arith)

  module _ (F G : Tree V) (ns ms : List ℕ) (f : IsFlatTree rules shapes W F ns) (g : IsFlatTree rules shapes W G ms) where
    turned : (n : ℕ) → IsSame symbols rules shapes W F G ns ms n → IsSame symbols rules shapes W G F ms ns n
    turned n same = record { role = alike_back symbols rules shapes W F G ns ms n n same.role; parent = sym same.parent; place = sym same.place }

    -- what both have behind k is one node
    joined : (k p j d q i c : ℕ) → IsMet symbols rules shapes W F G ns ms k p j d → IsMet symbols rules shapes W G F ms ns k q i c
        → IsSame symbols rules shapes W F G ns ms (suc k)
    joined k p j d q i c met back =
        let up_d = child_parent G g.tree p (suc j) d met.other in let up_c = child_parent F f.tree q (suc i) c back.other in
        let one : p ≤ q = last_parent G g.tree p q k d up_d met.low met.behind back.parent in
        let two : q ≤ p = last_parent F f.tree q p k c up_c back.low back.behind met.parent in
        let same : q ≡ p = omega arith in
        at same (subst (λ q. slice_get (items_of F q) i ≡ Some (Child c)) same back.other)
        (subst (λ q. slice_get (items_of G q) i ≡ Some (Child (suc k))) same back.item)
      where
        at : q ≡ p → slice_get (items_of F p) i ≡ Some (Child c) → slice_get (items_of G p) i ≡ Some (Child (suc k))
            → IsSame symbols rules shapes W F G ns ms (suc k)
        at same e h =
            let one : j ≤ i = no_later F G ns ms f g k p j d i c met e back.behind in
            let two : i ≤ j = no_later G F ms ns g f k q i c j d back
            (subst (λ p. slice_get (items_of G p) j ≡ Some (Child d)) (sym same) met.other) met.behind in
            let here : i ≡ j = omega arith in
            let number : d ≡ suc k = same_child d (suc k) met.other (subst (λ i. slice_get (items_of G p) i ≡ Some (Child (suc k))) here h) in
            record {
              role = subst (λ d. IsAlike symbols rules shapes W F G ns ms (suc k) d) number met.role;
              parent = met.parent ∙ ap Some (sym same) ∙ sym back.parent;
              place = met.place ∙ ap suc (sym here) ∙ sym back.place;
            }

    all_same : (k : ℕ) → k < length F → AreSame symbols rules shapes W F G ns ms k
    all_same zero h n b = let e : 0 ≡ n = omega arith in subst (IsSame symbols rules shapes W F G ns ms) e (record {
      role = written 0 f.same_root g.same_root;
      parent = f.tree.root_first ∙ sym g.tree.root_first;
      place = f.tree.root_place ∙ sym g.tree.root_place;
    })
    all_same (suc k) h n b = go (eq-or-lt_of_le b) (all_same k (omega arith))
      where
        go : (n ≡ suc k) ⊎ (n < suc k) → AreSame symbols rules shapes W F G ns ms k → IsSame symbols rules shapes W F G ns ms n
        go (inr less) earlier = earlier n (omega arith)
        go (inl same) earlier = let (p, j, d, met) = next_met F G ns ms f g k earlier h in
            let (q, i, c, back) = next_met G F ms ns g f k (λ m l. turned m (earlier m l)) (next_inside F G ns ms f g k p j d met) in
            subst (IsSame symbols rules shapes W F G ns ms) (sym same) (joined k p j d q i c met back)

    pub same_at : (n : ℕ) → n < length F → IsSame symbols rules shapes W F G ns ms n
    same_at n h = all_same n h n (omega arith)

    pub no_longer : length F ≤ length G
    no_longer = as_long F G (λ n x e. there G n
        (alike_inside symbols rules shapes W F G ns ms shaped lists f g n n (same_at n (slice_get_within F n x e)).role).1)

    has_items : (n : ℕ) → n < length F → (k : ℕ) (x : Item V) → slice_get (items_of F n) k ≡ Some x → slice_get (items_of G n) k ≡ Some x
    has_items n h k x e = go x e (alike_all symbols rules shapes W F G ns ms shaped lists f g n n (same_at n h).role k x e)
      where
        go : (x : Item V) → slice_get (items_of F n) k ≡ Some x → Has symbols rules shapes W F G ns ms (items_of G n) k x
            → slice_get (items_of G n) k ≡ Some x
        go (Leaf v) e (Leaf u, at, a) = at ∙ ap (λ v. Some (Leaf v)) (sym a)
        go (Leaf v) e (Child d, at, a) = absurd a
        go (Child c) e (Leaf u, at, a) = absurd a
        go (Child c) e (Child d, at, a) =
            let up = child_parent F f.tree n (suc k) c e in let place = f.tree.places_agree n k c e in let same = same_at c (with_parent_inside F c n up) in
            item_at_place G g.tree c n k (sym same.parent ∙ up) (sym same.place ∙ place)

    pub node_same : (n : ℕ) (x y : Node V) → slice_get F n ≡ Some x → slice_get G n ≡ Some y → IsSame symbols rules shapes W F G ns ms n
        → x.items ≡ y.items → x ≡ y
    node_same n x y e h same items =
        let rule : x.rule ≡ y.rule = same_held x.rule y.rule
        (sym (alike_rule symbols rules shapes W F G ns ms shaped lists f g n n same.role) ∙ ap (option_map (λ (node : Node V). node.rule)) e)
        (ap (option_map (λ (node : Node V). node.rule)) h) in
        let parent : x.parent ≡ y.parent = sym (ap (option_and_then (λ (node : Node V). node.parent)) e) ∙ same.parent
        ∙ ap (option_and_then (λ (node : Node V). node.parent)) h in
        let place : x.place ≡ y.place = sym (placed F e) ∙ same.place ∙ placed G h in
        let (w, one, two) = alike_numbers symbols rules shapes W F G ns ms n n same.role in
        let line : x.line ≡ y.line = sym (lined F e) ∙ f.same_lines n w one ∙ sym (g.same_lines n w two) ∙ lined G h in
        let column : x.column ≡ y.column = sym (in_column F e) ∙ f.same_columns n w one ∙ sym (g.same_columns n w two) ∙ in_column G h in
        λ i. record { rule = rule i; parent = parent i; place = place i; line = line i; column = column i; items = items i }
      where
        lined : (t : Tree V) {z : Node V} → slice_get t n ≡ Some z → line_of t n ≡ z.line
        lined t e = rw (e, line_of) refl

        in_column : (t : Tree V) {z : Node V} → slice_get t n ≡ Some z → column_of t n ≡ z.column
        in_column t e = rw (e, column_of) refl

        placed : (t : Tree V) {z : Node V} → slice_get t n ≡ Some z → place_of t n ≡ z.place
        placed t e = rw (e, place_of) refl

  module _ (F G : Tree V) (ns ms : List ℕ) (f : IsFlatTree rules shapes W F ns) (g : IsFlatTree rules shapes W G ms) where
    same_lists : (xs ys : List (Item V)) → ((k : ℕ) (x : Item V) → slice_get xs k ≡ Some x → slice_get ys k ≡ Some x)
        → ((k : ℕ) (x : Item V) → slice_get ys k ≡ Some x → slice_get xs k ≡ Some x) → xs ≡ ys
    same_lists xs ys to back = let one = as_long xs ys (λ k x e. (x, to k x e)) in let two = as_long ys xs (λ k x e. (x, back k x e)) in
        same-by-places xs ys (omega arith) (λ k x y e h. same_held x y (to k x e) h)

    same_items : (n : ℕ) → n < length F → n < length G → items_of F n ≡ items_of G n
    same_items n h l = same_lists (items_of F n) (items_of G n) (has_items F G ns ms f g n h) (has_items G F ms ns g f n l)

    same_count : length F ≡ length G
    same_count = let one = no_longer F G ns ms f g in let two = no_longer G F ms ns g f in omega arith

    pub same_tree : F ≡ G
    same_tree = same-by-places F G same_count (λ n x y e h. node_same F G ns ms f g n x y e h (same_at F G ns ms f g n (slice_get_within F n x e))
        (sym (held F n e) ∙ same_items n (slice_get_within F n x e) (slice_get_within G n y h) ∙ held G n h))
      where
        held : (t : Tree V) (n : ℕ) {z : Node V} → slice_get t n ≡ Some z → items_of t n ≡ z.items
        held t n e = rw (e, items_of) refl

    pub same_numbers : ns ≡ ms
    same_numbers = let count = same_count in let a = f.each_node in let b = g.each_node in
        same-by-places ns ms (omega arith) (λ n x y e h. let inside = slice_get_within ns n x e in
        let (w, one, two) = alike_numbers symbols rules shapes W F G ns ms n n (same_at F G ns ms f g n (omega arith)).role in
        same_held x w e one ∙ sym (same_held y w h two))

-- what fits a well-formed grammar has one flat tree
module _ (symbols : List FlatSymbol) (rules : List FlatRule) (shapes : List Shape) (root : SymId) (well : IsWellFormed symbols rules shapes root)
    (W : Tree Plain) (fits : IsFitting symbols rules shapes root W) (F G : Tree Plain) (ns ms : List ℕ)
    (f : IsFlatTree rules shapes W F ns) (g : IsFlatTree rules shapes W G ms) where
  pub same_fitting : (F ≡ G) × (ns ≡ ms)
  same_fitting =
      let shaped : (w : ℕ) → w < length W → (shape : Shape) × Contains shapes shape × (rule_at W w ≡ Some shape.rule.0) =
      λ w i. let at = fits.shaped w i in (at.0, at.1.0, at.1.1) in (
        same_tree symbols rules shapes W shaped (list_shape symbols rules shapes root well) F G ns ms f g,
        same_numbers symbols rules shapes W shaped (list_shape symbols rules shapes root well) F G ns ms f g,
      )
