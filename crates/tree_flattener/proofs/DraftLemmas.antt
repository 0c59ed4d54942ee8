-- How a draft goes on: a node is attached, or the walk goes up from a node that is closed.
use Rattle.std.specs.Prelude.{Contains, slice_get, true, false, Bool}
use Rattle.std.proofs.Common.{◌≡◌, ℕ, zero, suc, ◌<◌, ◌≤◌, ◌⊎◌, inl, inr, List, [], ◌∷◌, ◌++◌, length, Some, refl, ap, sym, subst, ◌∙◌, arith, length-append}
use Rattle.std.proofs.lemmas.Bool.{cases_lt}
use Rattle.std.proofs.lemmas.Bool.Decides.{eqb_tells}
use Rattle.std.proofs.lemmas.Option.{slice_get_within}
use Rattle.std.proofs.Math.Nat.{eq-or-lt_of_le}
use Rattle.std.specs.Prelude.{nat_eq}
use Rattle.lido_base.specs.declared.ids.SymId.{SymId}
use Rattle.lido_base.specs.Tree.{Child, parent_of, place_of, item_at, rule_at, ancestors}
use Rattle.lido_base.proofs.TreeLemmas.{ancestors-child, parent_before}
use Rattle.flat_grammar.specs.declared.flat.FlatSymbol.{FlatSymbol}
use Rattle.flat_grammar.specs.declared.flat.FlatRule.{FlatRule}
use Rattle.flat_grammar.specs.declared.flat.Shape.{Shape}
use Rattle.flat_grammar.specs.WellFormed.{cell_of}
use Rattle.flat_grammar.specs.FlatTrees.{IsNodeOf, IsFlatTree}
use Rattle.tree_store.proofs.GrowthLemmas.{get_before, get_last}
use Rattle.tree_store.proofs.OpenLemmas.{open_upwards}
use Rattle.tree_flattener.specs.Drafts.{Table, IsPlaced, IsOnPath, Suits, IsUpToAs, IsWholeAs, IsUpTo, IsWhole, IsNumbered, IsDraft, IsAttached, IsClosed}
use Rattle.lido_base.proofs.PathLemmas.{above_self, parent_above, above_parent, above_before, path_up, before_up, behind_up, child_parent, on_path_before, place_inside}
use Rattle.tree_flattener.proofs.GrowLemmas.{stands_grows, stands_before, up_to_grows, whole_grows, some_same}
use Rattle.tree_flattener.proofs.ItemLemmas.{there}

-- an element more changes none of the earlier ones
pub get_earlier : (xs : List ℕ) (x n w : ℕ) → slice_get (xs ++ x ∷ []) n ≡ Some w → n < length xs → slice_get xs n ≡ Some w
get_earlier xs x n w e h = sym (get_before xs x n h) ∙ e

pub get_new : (xs : List ℕ) (x n w : ℕ) → slice_get (xs ++ x ∷ []) n ≡ Some w → length xs ≤ n → (n ≡ length xs) × (w ≡ x)
get_new xs x n w e h = let l = slice_get_within (xs ++ x ∷ []) n w e in let here : n ≡ length xs = omega (arith, length-append xs (x ∷ [])) in (here, some_same (sym e ∙ get_last xs x n here))

module _ (symbols : List FlatSymbol) (rules : List FlatRule) (shapes : List Shape) (W : Table) (suits : Suits symbols rules shapes W) (F : Table) (node_of flat_of : List ℕ) (v m tail done : ℕ) (d : IsDraft symbols rules shapes W F node_of flat_of v m tail done) where
  -- the flat node of a written node belongs to it
  of_own : (w f : ℕ) → slice_get flat_of w ≡ Some f → slice_get node_of f ≡ Some w
  of_own w f e = (d.numbered.known w f e).0.1

  flat_inside : (w f : ℕ) → slice_get flat_of w ≡ Some f → f < length F
  flat_inside w f e = let h = slice_get_within node_of f w (of_own w f e) in omega (arith, d.numbered.each_node)

  of_some : (n : ℕ) → n < length F → (u : ℕ) × (slice_get node_of n ≡ Some u)
  of_some n h = there node_of n (omega (arith, d.numbered.each_node))

  module _ (G : Table) (more : List ℕ) (n f : ℕ) (is_next : n ≡ v) (up : parent_of W n ≡ Some m) (a : IsAttached symbols rules shapes W F node_of flat_of G more m n f) where
    next : List ℕ
    next = flat_of ++ f ∷ []

    attached_numbered : IsNumbered symbols rules shapes W G more (flat_of ++ f ∷ [])
    attached_numbered = record {
      tree = a.tree;
      each_node = a.each_node;
      known = λ w k e. known w k e (cases_lt w (length flat_of));
      only = λ k w s. only k w s (cases_lt k (length F));
      rising = λ w x k l e h less. rising w x k l e h less (cases_lt w (length flat_of)) (cases_lt x (length flat_of));
      root = get_before flat_of f 0 (slice_get_within flat_of 0 0 d.numbered.root) ∙ d.numbered.root;
      inside = λ k w e. inside k w e (cases_lt k (length F));
    }
      where
        known : (w k : ℕ) → slice_get (flat_of ++ f ∷ []) w ≡ Some k → (w < length flat_of) ⊎ (length flat_of ≤ w) → IsNodeOf rules shapes G more k w × (rule_at G k ≡ rule_at W w)
        known w k e (inl h) = let old = get_earlier flat_of f w k e h in let was = d.numbered.known w k old in
            (stands_grows symbols rules shapes W F node_of d.numbered.each_node m G more a.grows k w was.0, a.grows.rules k (flat_inside w k old) ∙ was.1)
        known w k e (inr h) = let new = get_new flat_of f w k e h in
            let here : w ≡ n = omega (arith, new.0, d.count, is_next) in
            subst (λ z. IsNodeOf rules shapes G more z w × (rule_at G z ≡ rule_at W w)) (sym new.1) (subst (λ z. IsNodeOf rules shapes G more f z × (rule_at G f ≡ rule_at W z)) (sym here) (a.new, a.rule))

        only : (k w : ℕ) → IsNodeOf rules shapes G more k w → (k < length F) ⊎ (length F ≤ k) → slice_get (flat_of ++ f ∷ []) w ≡ Some k
        only k w s (inl h) = let old = d.numbered.only k w (stands_before symbols rules shapes W F node_of d.numbered.each_node m G more a.grows k w h s (of_some k h)) in get_before flat_of f w (slice_get_within flat_of w k old) ∙ old
        only k w s (inr h) = let new = a.only k w h s in get_last flat_of f w (omega (arith, new.1, d.count, is_next)) ∙ ap Some (sym new.0)

        rising : (w x k l : ℕ) → slice_get (flat_of ++ f ∷ []) w ≡ Some k → slice_get (flat_of ++ f ∷ []) x ≡ Some l → w < x → (w < length flat_of) ⊎ (length flat_of ≤ w) → (x < length flat_of) ⊎ (length flat_of ≤ x) → k < l
        rising w x k l e h less (inl p) (inl q) = d.numbered.rising w x k l (get_earlier flat_of f w k e p) (get_earlier flat_of f x l h q) less
        rising w x k l e h less (inl p) (inr q) = let low = flat_inside w k (get_earlier flat_of f w k e p) in let new = get_new flat_of f x l h q in omega (arith, low, new.1, a.behind)
        rising w x k l e h less (inr p) q = let new = slice_get_within (flat_of ++ f ∷ []) x l h in absurd (omega (arith, length-append flat_of (f ∷ [])))

        inside : (k w : ℕ) → slice_get more k ≡ Some w → (k < length F) ⊎ (length F ≤ k) → w < length (flat_of ++ f ∷ [])
        inside k w e (inl h) = let of = of_some k h in let same = some_same (sym e ∙ a.grows.nodes k of.0 of.1) in let low = d.numbered.inside k of.0 of.1 in omega (arith, same, length-append flat_of (f ∷ []))
        inside k w e (inr h) = go (a.inside k w h e)
          where
            go : (w ≡ m) ⊎ (w ≡ n) → w < length (flat_of ++ f ∷ [])
            go (inl same) = let low = parent_before W suits.tree n m up in omega (arith, length-append flat_of (f ∷ []), d.count)
            go (inr same) = omega (arith, length-append flat_of (f ∷ []), d.count)

    -- what is said of earlier written nodes but m is still so
    kept_up_to : (w tail done : ℕ) → w < v → (w ≡ m → ⊥) → IsUpTo symbols rules shapes W F node_of flat_of w done tail → IsUpTo symbols rules shapes W G more (flat_of ++ f ∷ []) w done tail
    kept_up_to w t j low other h = λ shape g among is at. let old = get_earlier flat_of f w g at (omega (arith, d.count)) in
        up_to_grows symbols rules shapes W F node_of d.numbered.each_node m G more a.grows (cell_of rules shape) w other shape.list g j t (of_own w g old) (h shape g among is old)

    kept_whole : (w : ℕ) → w < v → (w ≡ m → ⊥) → IsWhole symbols rules shapes W F node_of flat_of w → IsWhole symbols rules shapes W G more (flat_of ++ f ∷ []) w
    kept_whole w low other h = λ shape g among is at. let old = get_earlier flat_of f w g at (omega (arith, d.count)) in
        whole_grows symbols rules shapes W F node_of d.numbered.each_node m G more a.grows (cell_of rules shape) w other shape.list g (of_own w g old) (h shape g among is old)

    low_m : m < v
    low_m = let h = parent_before W suits.tree n m up in omega arith

    path_down : (q : ℕ) → IsOnPath W n q → (q ≡ n) ⊎ IsOnPath W m q
    path_down q (inl same) = inl same
    path_down q (inr above) = go (above_self W suits.tree n m q up above)
      where
        go : (m ≡ q) ⊎ Contains (ancestors W m) q → (q ≡ n) ⊎ IsOnPath W m q
        go (inl same) = inr (inl (sym same))
        go (inr higher) = inr (inr higher)

    attached_top : IsUpTo symbols rules shapes W G more (flat_of ++ f ∷ []) n 0 f
    attached_top = λ shape g among is at. let new = get_new flat_of f n g at (omega (arith, d.count)) in
        subst (λ z. IsUpToAs symbols rules shapes W G more shape.list (cell_of rules shape) n z 0 f) (sym new.1) (go shape.list (cell_of rules shape))
      where
        go : (list : Bool) (cell : SymId) → IsUpToAs symbols rules shapes W G more list cell n f 0 f
        go false cell = (refl, rw a.empty tt)
        go true cell = (refl, a.empty, a.new.1)

    attached_edges : (q w g t : ℕ) → IsOnPath W n q → parent_of W q ≡ Some w → slice_get (flat_of ++ f ∷ []) q ≡ Some g → parent_of G g ≡ Some t → IsUpTo symbols rules shapes W G more (flat_of ++ f ∷ []) w (place_of W q) t
    attached_edges q w g t path e at link = go (path_down q path)
      where
        go : (q ≡ n) ⊎ IsOnPath W m q → IsUpTo symbols rules shapes W G more (flat_of ++ f ∷ []) w (place_of W q) t
        go (inl same) = let new = get_new flat_of f q g at (omega (arith, d.count)) in
            let here : w ≡ m = some_same (sym e ∙ ap (parent_of W) same ∙ up) in
            subst (λ z. IsUpTo symbols rules shapes W G more (flat_of ++ f ∷ []) w (place_of W z) t) (sym same)
            (subst (λ z. IsUpTo symbols rules shapes W G more (flat_of ++ f ∷ []) z (place_of W n) t) (sym here)
            (λ shape h among is found. a.link t (ap (parent_of G) (sym new.1) ∙ link) shape h among is (get_earlier flat_of f m h found (omega (arith, low_m, d.count)))))
        go (inr on) = let low = on_path_before W suits.tree m q on in let before = parent_before W suits.tree q w e in
            let old = get_earlier flat_of f q g at (omega (arith, low_m, d.count)) in
            kept_up_to w t (place_of W q) (omega (arith, low_m)) (λ same. omega arith)
            (d.edges q w g t on e old (sym (a.grows.parents g (flat_inside q g old)) ∙ link))

    -- the draft with the node
    pub attached_draft : IsDraft symbols rules shapes W G more (flat_of ++ f ∷ []) (suc v) n f 0
    attached_draft = record {
      numbered = attached_numbered;
      count = length-append flat_of (f ∷ []) ∙ omega (arith, d.count);
      last = (v, refl, inl is_next);
      few = omega (arith, d.few, a.few, ap length (ancestors-child W suits.tree n m up));
      before = λ k c e h. none k c e h;
      behind = λ k c e h. let l = parent_before W suits.tree c n (child_parent W suits.tree n k c e) in omega (arith, is_next);
      reach = omega arith;
      open_tail = a.open_new;
      top = attached_top;
      edges = attached_edges;
      closed = λ w low off. closed w off (eq-or-lt_of_le low);
    }
      where
        none : (k c : ℕ) → item_at W n k ≡ Some (Child c) → k ≤ 0 → c < suc v
        none zero c e h = cc
        none (suc k) c e h = absurd (omega arith)

        closed : (w : ℕ) → (IsOnPath W n w → ⊥) → (suc w ≡ suc v) ⊎ (suc w < suc v) → IsWhole symbols rules shapes W G more (flat_of ++ f ∷ []) w
        closed w off (inl same) = absurd (off (inl (omega (arith, is_next))))
        closed w off (inr less) = kept_whole w (omega arith) (λ same. off (inr (subst (Contains (ancestors W n)) (sym same) (parent_above W suits.tree n m up))))
            (d.closed w (omega arith) (λ on. off (inr (onto on))))
          where
            onto : IsOnPath W m w → Contains (ancestors W n) w
            onto (inl same) = subst (Contains (ancestors W n)) (sym same) (parent_above W suits.tree n m up)
            onto (inr above) = above_parent W suits.tree n m w up above

  module _ (G : Table) (more : List ℕ) (a : IsClosed symbols rules shapes W F node_of flat_of G more m) where
    pub closed_numbered : IsNumbered symbols rules shapes W G more flat_of
    closed_numbered = record {
      tree = a.tree;
      each_node = a.each_node;
      known = λ w k e. let was = d.numbered.known w k e in
          (stands_grows symbols rules shapes W F node_of d.numbered.each_node m G more a.grows k w was.0, a.grows.rules k (flat_inside w k e) ∙ was.1);
      only = λ k w s. only k w s (cases_lt k (length F));
      rising = d.numbered.rising;
      root = d.numbered.root;
      inside = λ k w e. inside k w e (cases_lt k (length F));
    }
      where
        only : (k w : ℕ) → IsNodeOf rules shapes G more k w → (k < length F) ⊎ (length F ≤ k) → slice_get flat_of w ≡ Some k
        only k w s (inl h) = d.numbered.only k w (stands_before symbols rules shapes W F node_of d.numbered.each_node m G more a.grows k w h s (of_some k h))
        only k w s (inr h) = absurd (a.only k w h s)

        inside : (k w : ℕ) → slice_get more k ≡ Some w → (k < length F) ⊎ (length F ≤ k) → w < length flat_of
        inside k w e (inl h) = let of = of_some k h in let same = some_same (sym e ∙ a.grows.nodes k of.0 of.1) in let low = d.numbered.inside k of.0 of.1 in omega arith
        inside k w e (inr h) = let same = a.inside k w h e in let low = on_path_before W suits.tree d.last.0 m d.last.2 in omega (arith, d.count, d.last.1)

    -- the other written nodes are as they were
    pub others_whole : (w : ℕ) → w < v → (IsOnPath W m w → ⊥) → IsWhole symbols rules shapes W G more flat_of w
    others_whole w low off = λ shape g among is at.
        whole_grows symbols rules shapes W F node_of d.numbered.each_node m G more a.grows (cell_of rules shape) w (λ same. off (inl same)) shape.list g (of_own w g at) (d.closed w low off shape g among is at)

    -- the draft with the spot at the parent
    pub closed_draft : (p f t : ℕ) → parent_of W m ≡ Some p → slice_get flat_of m ≡ Some f → parent_of G f ≡ Some t → IsDraft symbols rules shapes W G more flat_of v p t (place_of W m)
    closed_draft p f t up at link = record {
      numbered = closed_numbered;
      count = d.count;
      last = (d.last.0, d.last.1, path_up W suits.tree d.last.0 m p d.last.2 up);
      few = omega (arith, d.few, a.few, ap length (ancestors-child W suits.tree m p up));
      before = λ k c e h. let b = before_up W suits.tree d.last.0 m p d.last.2 up k c e h in omega (arith, d.last.1);
      behind = λ k c e h. let b = behind_up W suits.tree d.last.0 m p d.last.2 up k c e h in omega (arith, d.last.1);
      reach = place_inside W suits.tree m p up;
      open_tail = open_upwards G a.tree f t (a.open_node f at) link;
      top = edges m p f t (inl refl) up at link;
      edges = λ q w g s on. edges q w g s (higher q on);
      closed = λ w low off. closed w low off (eqb_tells w m);
    }
      where
        higher : (q : ℕ) → IsOnPath W p q → IsOnPath W m q
        higher q (inl same) = inr (subst (Contains (ancestors W m)) (sym same) (parent_above W suits.tree m p up))
        higher q (inr above) = inr (above_parent W suits.tree m p q up above)

        edges : (q w g s : ℕ) → IsOnPath W m q → parent_of W q ≡ Some w → slice_get flat_of q ≡ Some g → parent_of G g ≡ Some s → IsUpTo symbols rules shapes W G more flat_of w (place_of W q) s
        edges q w g s on e found link = λ shape h among is found_w.
            let low = on_path_before W suits.tree m q on in let before = parent_before W suits.tree q w e in
            up_to_grows symbols rules shapes W F node_of d.numbered.each_node m G more a.grows (cell_of rules shape) w (λ same. omega arith) shape.list h (place_of W q) s (of_own w h found_w)
            (d.edges q w g s on e found (sym (a.grows.parents g (flat_inside q g found)) ∙ link) shape h among is found_w)

        closed : (w : ℕ) → w < v → (IsOnPath W p w → ⊥) → ((nat_eq w m ≡ true) × (w ≡ m)) ⊎ ((nat_eq w m ≡ false) × (w ≡ m → ⊥)) → IsWhole symbols rules shapes W G more flat_of w
        closed w low off (inl same) = subst (λ z. IsWhole symbols rules shapes W G more flat_of z) (sym same.1) a.whole
        closed w low off (inr other) = others_whole w low (λ on. off (lower on))
          where
            lower : IsOnPath W m w → IsOnPath W p w
            lower (inl same) = absurd (other.1 same)
            lower (inr above) = go (above_self W suits.tree m p w up above)
              where
                go : (p ≡ w) ⊎ Contains (ancestors W p) w → IsOnPath W p w
                go (inl same) = inl (sym same)
                go (inr far) = inr far

    -- once all is closed, it is the flat tree
    pub is_flat_tree : IsPlaced W G more → m ≡ 0 → v ≡ length W → IsFlatTree rules shapes W G more
    is_flat_tree placed at_root all = record {
      tree = a.tree;
      each_node = a.each_node;
      same_root = (closed_numbered.known 0 0 d.numbered.root).0;
      in_order = λ k l w x s t less. order k l w x (closed_numbered.only k w s) (closed_numbered.only l x t) less (cases_lt w x);
      all_written = λ w h. let f = there flat_of w (omega (arith, d.count)) in (f.0, (closed_numbered.known w f.0 f.1).0);
      same_rules = λ k w s. (closed_numbered.known w k (closed_numbered.only k w s)).1;
      same_lines = placed.lines;
      same_columns = placed.columns;
      plain_nodes = λ k w shape among s is plain. subst (λ b. IsWholeAs symbols rules shapes W G more b (cell_of rules shape) w k) plain (whole k w shape among s is);
      list_nodes = λ k w shape among s is list. subst (λ b. IsWholeAs symbols rules shapes W G more b (cell_of rules shape) w k) list (whole k w shape among s is);
    }
      where
        order : (k l w x : ℕ) → slice_get flat_of w ≡ Some k → slice_get flat_of x ≡ Some l → k < l → (w < x) ⊎ (x ≤ w) → w < x
        order k l w x e f less (inl h) = h
        order k l w x e f less (inr h) = go (eq-or-lt_of_le h)
          where
            go : (x ≡ w) ⊎ (x < w) → w < x
            go (inl same) = let here : l ≡ k = some_same (sym f ∙ ap (slice_get flat_of) same ∙ e) in absurd (omega arith)
            go (inr low) = let r = d.numbered.rising x w l k f e low in absurd (omega arith)

        alone : (w : ℕ) → (w ≡ m → ⊥) → IsOnPath W m w → ⊥
        alone w other (inl same) = other same
        alone w other (inr above) = let b = above_before W suits.tree m w above in omega arith

        each : (w : ℕ) → w < v → ((nat_eq w m ≡ true) × (w ≡ m)) ⊎ ((nat_eq w m ≡ false) × (w ≡ m → ⊥)) → IsWhole symbols rules shapes W G more flat_of w
        each w h (inl same) = subst (λ z. IsWhole symbols rules shapes W G more flat_of z) (sym same.1) a.whole
        each w h (inr other) = others_whole w h (alone w other.1)

        whole : (k w : ℕ) (shape : Shape) → Contains shapes shape → IsNodeOf rules shapes G more k w → rule_at G k ≡ Some shape.rule.0 → IsWholeAs symbols rules shapes W G more shape.list (cell_of rules shape) w k
        whole k w shape among s is = let at = closed_numbered.only k w s in
            each w (let h = slice_get_within flat_of w k at in omega (arith, d.count)) (eqb_tells w m) shape k among (sym (closed_numbered.known w k at).1 ∙ is) at
