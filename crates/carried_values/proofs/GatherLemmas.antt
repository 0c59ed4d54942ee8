-- CONSTITUENTS are gathered: what is carried meets their equations.
use Rattle.std.specs.Prelude.{Contains, IsTrue, filter, map, slice_get, unwrap_or, ◌&&◌}
use Rattle.std.specs.List.{AllZip}
use Rattle.std.proofs.Common.{◌≡◌, ℕ, suc, ◌+◌, ◌⊎◌, inl, inr, Bool, true, false, cond, List, [], ◌∷◌, Some, refl, sym, ap, subst, ◌∙◌, arith, true≢false}
use Rattle.std.proofs.lemmas.Option.{same_Some}
use Rattle.std.proofs.lemmas.List.Elements.{All-contains}
use Rattle.lido_base.specs.Plain.{Plain}
use Rattle.lido_base.specs.Tree.{Item, Child, child_number, rule_at, items_of, children}
use Rattle.lido_base.proofs.Lists.{AllZip-place, contains-here, contains-place, place-contains}
use Rattle.lido_base.proofs.TreeLemmas.{contains-test}
use Rattle.lido_syntax.specs.declared.spec.Cons.{Cons}
use Rattle.lido_syntax.specs.declared.spec.With.{With}
use Rattle.lido_syntax.specs.declared.spec.RuleItem.{RuleItem}
use Rattle.lido_syntax.specs.Production.{right_of}
use Rattle.lido_syntax.specs.Symbols.{IsNonterminal}
use Rattle.lido_syntax.specs.Nodes.{IsAt}
use Rattle.lido_syntax.specs.Fitting.{IsItem, IsElement, node, int, string}
use Rattle.lido_syntax.specs.Assignment.{Assignment}
use Rattle.lido_syntax.specs.Computation.{Holder}
use Rattle.lido_syntax.specs.Including as including
use Rattle.flat_grammar.specs.declared.flat.FlatExpr.{FlatExpr}
use Rattle.flat_grammar.specs.declared.flat.FlatRule.{FlatRule}
use Rattle.flat_grammar.specs.Rules.{HasRule}
use Rattle.lido_base.specs.declared.ids.SymId.{SymId}
use Rattle.flat_grammar.specs.FlatTrees.{IsNodeOf}
use Rattle.flat_grammar.specs.Instances.{instance_at}
use Rattle.flat_grammar.specs.WholeOrder.{Instance}
use Rattle.tree_flattener.specs.Roles.{IsCellOfList}
use Rattle.tree_flattener.proofs.OnePathLemmas.{same_child, rule_inside}
use Rattle.lido_symbols.specs.Numbers.{enumerated}
use Rattle.rule_tables.specs.PlainRules.{PlainRule, Role, Listing, Link, End, number, cell, is_child}
use Rattle.rule_tables.specs.Forced.{Force}
use Rattle.rule_tables.specs.Slots.{Con, HasSlot, has_con}
use Rattle.rule_tables.specs.Shares.{Term, Read, Null, gives, below_term}
use Rattle.rule_tables.specs.Shares as share
use Rattle.rule_tables.specs.Copies.{occ}
use Rattle.flat_laws.proofs.Lists.{mapped-place}
use Rattle.flat_laws.proofs.SymbolLemmas.{right-number}
use Rattle.flat_laws.proofs.BareLemmas.{no-slot}
use Rattle.flat_laws.proofs.NeedLemmas.{of-filter-map}
use Rattle.flat_laws.proofs.ShapeLemmas.{filter-none, shape-at}
use Rattle.carried_trees.specs.Flattening.{Flattening, IsFlattening, Trees, AreTrees}
use Rattle.carried_trees.specs.Carry as carry
use Rattle.carried_trees.proofs.NodeLemmas.{IsPlain, child-at, shaped}
use Rattle.carried_trees.proofs.NearestLemmas.{symbol-is}
use Rattle.carried_values.proofs.WrittenLemmas.{child-of}
use Rattle.carried_values.proofs.ReachLemmas.{both-hold, reach-same, cell-reaches}
use Rattle.carried_values.proofs.FoldLemmas.{IsMatch, match-from, picked, weigh_of, fold_over, con-node, con-cell, worth, had, join, null-value, comb-value, folded-value}

module _ (f : Flattening) (is : IsFlattening f) (x : Trees) (are : AreTrees f x) (A : Assignment) (k : Cons) (numbered : Contains f.tables.constituents k) (with : With) (its_with : k.with ≡ Some with) where
  abbrev pub weights : ℕ → Plain
  weights = weigh_of f is x are A k numbered with its_with

  abbrev pub fold_at : ℕ → List ℕ → Plain
  fold_at = fold_over f is x are A k numbered with its_with

  abbrev has_it : ℕ → Bool
  has_it = has_con f.spec f.tables f.needs k

  abbrev pub reaches_at : ℕ → Bool
  reaches_at v = f.tables.sets.reaches k (including.symbol_at f.spec f.tables.sets x.written v)

  -- a terminal doesn't have it
  terminal-lacks : (s : ℕ) → slice_get f.tables.symbols (number f.spec f.tables.symbols s) ≡ Some s → ¬ IsNonterminal f.spec s → has_it (number f.spec f.tables.symbols s) ≡ false
  terminal-lacks s at bare = by (has_it (number f.spec f.tables.symbols s)) refl
    where
      by : (b : Bool) → has_it (number f.spec f.tables.symbols s) ≡ b → b ≡ false
      by false e = refl
      by true e = absurd (no-slot f.spec f.early f.env f.tables is.tables is.accepted f.needs (number f.spec f.tables.symbols s) s at bare (Con k.number) (k, numbered, refl, e))

  module _ (B : Instance → Plain) (n w : ℕ) (p : PlainRule) (o : IsPlain f is x are n p) (r : RuleItem) (fs : List Force) (tail : ℕ → FlatExpr) (holder : Holder) (context : ℕ)
      (origin : unwrap_or (slice_get x.node_of n) 0 ≡ w)
      (agrees : (j y : ℕ) → (right : slice_get p.right j ≡ Some y) → (has : HasSlot f.spec f.tables f.needs y (Con k.number))
      → B (instance_at x.flat n (occ f.spec f.tables f.needs f.slots f.env r p fs (suc j) (Con k.number))) ≡ carry.carried f x A (child-at f is x are n p o j y right (Con k.number) has).c (Con k.number))
      (wanted : (y : ℕ) → Contains p.right y → IsTrue (f.needs.wanted k y)) where
    abbrev value : Term → Plain
    value = worth f is x are A k numbered with its_with B n w origin r p fs tail holder context

    abbrev what : ℕ → Plain
    what = had f is x are A k numbered with its_with B n w origin r p fs tail holder context

    -- ---- at a node that is no list

    module _ (stands : IsNodeOf f.rules f.shapes x.flat x.node_of n w) (rw : RuleItem) (at : IsAt f.spec x.written w rw) (plain : rw.list ≡ false) (right : p.right ≡ map (number f.spec f.tables.symbols) (right_of rw)) where
      among : Contains f.spec.rules rw
      among = place-contains f.spec.rules at.0 rw at.2

      matches : (i s : ℕ) (item : Item Plain) → slice_get (right_of rw) i ≡ Some s → slice_get (items_of x.written w) i ≡ Some item → IsItem f.spec x.written s item
          → IsMatch has_it what reaches_at weights (suc i) (number f.spec f.tables.symbols s) item
      matches i s _ e g (node {c = v} (q, at_v, left)) = (same, weighs)
        where
          m : Contains (right_of rw) s
          m = place-contains (right_of rw) i s e

          at_s : slice_get f.tables.symbols (number f.spec f.tables.symbols s) ≡ Some s
          at_s = right-number f.spec f.env f.tables is.tables rw among s m

          here : slice_get p.right i ≡ Some (number f.spec f.tables.symbols s)
          here = ap (λ l. slice_get l i) right ∙ mapped-place (number f.spec f.tables.symbols) (right_of rw) i s e

          same : has_it (number f.spec f.tables.symbols s) ≡ reaches_at v
          same =
              ap (λ b. b && f.needs.reaches k (number f.spec f.tables.symbols s)) (wanted (number f.spec f.tables.symbols s) (place-contains p.right i (number f.spec f.tables.symbols s) here))
              ∙ reach-same f is k s at_s
              ∙ ap (f.tables.sets.reaches k) (sym left ∙ sym (symbol-is f.spec f.tables.sets x.written v q at_v))

          weighs : has_it (number f.spec f.tables.symbols s) ≡ true → what (suc i) ≡ weights v
          weighs pass =
              let has : HasSlot f.spec f.tables f.needs (number f.spec f.tables.symbols s) (Con k.number) = (k, numbered, refl, pass) in
              let child = child-at f is x are n p o i (number f.spec f.tables.symbols s) here (Con k.number) has in
              let (u, of_u, item) = child-of f is x are A n w p o stands rw at plain i child.c child.item in
              let one : u ≡ v = same_child u v item g in
              agrees i (number f.spec f.tables.symbols s) here has ∙ con-node f is x are A k numbered with its_with child.c u child.p child.plain of_u ∙ ap weights one
      matches i s _ e g (int terminal low high) = terminal-lacks s (right-number f.spec f.env f.tables is.tables rw among s (place-contains (right_of rw) i s e)) terminal.0
      matches i s _ e g (string terminal) = terminal-lacks s (right-number f.spec f.env f.tables is.tables rw among s (place-contains (right_of rw) i s e)) terminal.0

      pub whole-value : value (share.folded f.spec f.tables f.needs p fs k with (gives f.spec f.tables f.needs p fs k)) ≡ fold_at w (children x.written w)
      whole-value =
          folded-value f is x are A k numbered with its_with B n w origin r p fs tail holder context (gives f.spec f.tables f.needs p fs k)
          ∙ ap (join f is x are A k numbered with its_with B n w origin r p fs tail holder context)
          (ap (λ l. map what (picked_of l)) right
          ∙ picked has_it what reaches_at weights 1 (map (number f.spec f.tables.symbols) (right_of rw)) (items_of x.written w)
          (match-from has_it what reaches_at weights (number f.spec f.tables.symbols) (IsItem f.spec x.written) 1 (right_of rw) (items_of x.written w) fit
          (λ i s item e g. (let z : suc i ≡ 1 + i = omega arith in subst (λ j. IsMatch has_it what reaches_at weights j (number f.spec f.tables.symbols s) item) z (matches i s item e g (AllZip-place (IsItem f.spec x.written) (right_of rw) (items_of x.written w) i s item fit e g))))))
        where
          fit : AllZip (IsItem f.spec x.written) (right_of rw) (items_of x.written w)
          fit = are.fits.plain w rw at plain

          picked_of : List ℕ → List ℕ
          picked_of ys = map (λ (z : ℕ × ℕ). z.0) (filter (λ (z : ℕ × ℕ). has_it z.1) (enumerated 1 ys))

    -- ---- at a list's node

    module _ (stands : IsNodeOf f.rules f.shapes x.flat x.node_of n w) (i : ℕ) (rw : RuleItem) (at_w : rule_at x.written w ≡ Some i) (of : slice_get f.spec.rules i ≡ Some rw) (list : rw.list ≡ true)
        (right : p.right ≡ cell f.spec f.tables.symbols i ∷ []) where
      -- the first cell has all elements
      first-cell : (c : ℕ) × (items_of x.flat n ≡ Child c ∷ []) × (cells : IsCellOfList f.rules f.shapes x.written x.flat x.node_of c w) × (cells.rest ≡ children x.written w)
      first-cell =
          let (shape, m, has) = shaped f is x are w (rule_inside x.written w i at_w) in
          let (j, there) = contains-place f.shapes shape m in
          let its = shape-at f.spec f.env f.tables is.tables f.needs f.slots f.symbols f.rules f.shapes f.root is.grammar j shape there in
          let same : j ≡ i = sym its.rule ∙ same_Some shape.rule.0 i (sym has ∙ at_w) in
          let rule : its.r ≡ rw = same_Some its.r rw (sym its.of ∙ ap (slice_get f.spec.rules) same ∙ of) in
          let listed : shape.list ≡ true = its.list ∙ ap (λ (q : RuleItem). q.list) rule ∙ list in
          let (c, one, cells) = are.flat_tree.list_nodes n w shape m stands (are.flat_tree.same_rules n w stands ∙ has) listed in
          (c, one, record { shape = shape; has_shape = (m, has); is_list = listed; before = []; rest = children x.written w; elements = refl; cells = cells }, refl)

      -- where the cell doesn't have it no element counts
      none-count : has_it (cell f.spec f.tables.symbols i) ≡ false → filter reaches_at (children x.written w) ≡ []
      none-count lacks = filter-none reaches_at (children x.written w) (λ v mv. by v mv (reaches_at v) refl)
        where
          -- a child's symbol is one of the elements
          element : (v : ℕ) → Contains (children x.written w) v → (s : ℕ) × Contains (right_of rw) s × (including.symbol_at f.spec f.tables.sets x.written v ≡ s)
          element v mv =
              let (item, mi, same) = of-filter-map child_number (items_of x.written w) v mv in
              let (c, s, is_child, is_element, (q, at_c, left)) = All-contains (IsElement f.spec x.written (right_of rw)) (items_of x.written w) item (are.fits.lists w rw (i, at_w, of) list) mi in
              let one : c ≡ v = same_Some c v (sym (ap child_number is_child) ∙ same) in
              (s, contains-test s (right_of rw) is_element, subst (λ u. including.symbol_at f.spec f.tables.sets x.written u ≡ s) one (symbol-is f.spec f.tables.sets x.written c q at_c ∙ left))

          reach-cell : (v : ℕ) → Contains (children x.written w) v → reaches_at v ≡ true → ⊥
          reach-cell v mv pass =
              let (s, ms, same) = element v mv in
              let reached = cell-reaches f is k i rw of list s ms (ap (f.tables.sets.reaches k) (sym same) ∙ pass) in
              true≢false (sym (both-hold (f.needs.wanted k (cell f.spec f.tables.symbols i)) (f.needs.reaches k (cell f.spec f.tables.symbols i))
              (wanted (cell f.spec f.tables.symbols i) (subst (λ l. Contains l (cell f.spec f.tables.symbols i)) (sym right) (contains-here (cell f.spec f.tables.symbols i) []))) reached) ∙ lacks)

          by : (v : ℕ) → Contains (children x.written w) v → (b : Bool) → reaches_at v ≡ b → reaches_at v ≡ false
          by v mv true e = absurd (reach-cell v mv e)
          by v mv false e = e

      pub listing-value : value (share.below_by f.spec f.tables f.needs p fs Listing k with (gives f.spec f.tables f.needs p fs k)) ≡ fold_at w (children x.written w)
      listing-value = ap (λ l. value (share.below_by f.spec f.tables f.needs p fs Listing k with (map (λ (z : ℕ × ℕ). z.0) (filter (λ (z : ℕ × ℕ). has_it z.1) (enumerated 1 l))))) right ∙ by (has_it (cell f.spec f.tables.symbols i)) refl
        where
          picked_by : Bool → List ℕ
          picked_by b = map (λ (z : ℕ × ℕ). z.0) (cond b ((1, cell f.spec f.tables.symbols i) ∷ []) [])

          with-cell : has_it (cell f.spec f.tables.symbols i) ≡ true → what 1 ≡ fold_at w (children x.written w)
          with-cell pass =
              let here : slice_get p.right 0 ≡ Some (cell f.spec f.tables.symbols i) = ap (λ l. slice_get l 0) right in
              let has : HasSlot f.spec f.tables f.needs (cell f.spec f.tables.symbols i) (Con k.number) = (k, numbered, refl, pass) in
              let child = child-at f is x are n p o 0 (cell f.spec f.tables.symbols i) here (Con k.number) has in
              let (c, one, cells, all) = first-cell in
              let same : c ≡ child.c = same_child c child.c (ap (λ l. slice_get l 0) one) child.item in
              agrees 0 (cell f.spec f.tables.symbols i) here has
              ∙ ap (λ m. carry.carried f x A m (Con k.number)) (sym same)
              ∙ con-cell f is x are A k numbered with its_with c w child.p (subst (λ m. IsPlain f is x are m child.p) (sym same) child.plain) cells
              ∙ ap (fold_at w) all

          by : (b : Bool) → has_it (cell f.spec f.tables.symbols i) ≡ b → value (share.below_by f.spec f.tables f.needs p fs Listing k with (picked_by (has_it (cell f.spec f.tables.symbols i)))) ≡ fold_at w (children x.written w)
          by true e = ap (λ b. value (share.below_by f.spec f.tables f.needs p fs Listing k with (picked_by b))) e ∙ with-cell e
          by false e =
              ap (λ b. value (share.below_by f.spec f.tables f.needs p fs Listing k with (picked_by b))) e
              ∙ null-value f is x are A k numbered with its_with B n w origin r p fs tail holder context
              ∙ ap (λ l. join f is x are A k numbered with its_with B n w origin r p fs tail holder context (map weights l)) (sym (none-count e))

    -- ---- at a cell

    module _ (holds : has_it p.left ≡ true) where
      -- the symbols of the cell's rule are those of the flat one
      pub right-of : (flat : FlatRule) → HasRule f.rules x.flat n flat → (p.left ≡ flat.left.0) × (p.right ≡ map (λ (s : SymId). s.0) flat.right)
      right-of flat (j, at, there) =
          let same : o.flat ≡ flat = same_Some o.flat flat (sym o.there ∙ ap (slice_get f.rules) (same_Some o.j j (sym o.at ∙ at)) ∙ there) in (
            sym (ap (λ (q : PlainRule). q.left) o.plain) ∙ sym o.its.is_flat.left ∙ ap (λ (q : FlatRule). q.left.0) same,
            sym (ap (λ (q : PlainRule). q.right) o.plain) ∙ sym o.its.is_flat.right ∙ ap (λ (q : FlatRule). map (λ (s : SymId). s.0) q.right) same,
          )

      abbrev gives_of : List ℕ → List ℕ
      gives_of ys = map (λ (z : ℕ × ℕ). z.0) (filter (λ (z : ℕ × ℕ). has_it z.1) (enumerated 1 ys))

      abbrev below_of : Role → List ℕ → Plain
      below_of role js = value (share.below_by f.spec f.tables f.needs p fs role k with js)

      null : value (Null k.number with.null) ≡ join f is x are A k numbered with its_with B n w origin r p fs tail holder context []
      null = null-value f is x are A k numbered with its_with B n w origin r p fs tail holder context

      -- the end of a list
      pub at-end : (p.role ≡ End) ⊎ ((s : ℕ) × (p.role ≡ Link s)) → p.right ≡ [] → below_of p.role (gives_of p.right) ≡ fold_at w []
      at-end (inl e) none = ap (λ role. below_of role (gives_of p.right)) e ∙ null
      at-end (inr (s, e)) none = ap (λ role. below_of role (gives_of p.right)) e ∙ ap (λ l. below_of (Link s) (gives_of l)) none ∙ null

      module _ (e d next : ℕ) (rest : List ℕ) (y z : ℕ) (right : p.right ≡ y ∷ z ∷ []) (items : items_of x.flat n ≡ Child d ∷ Child next ∷ []) (same : z ≡ p.left)
          (element : has_it y ≡ reaches_at e) (of_element : IsNodeOf f.rules f.shapes x.flat x.node_of d e)
          (cells : IsCellOfList f.rules f.shapes x.written x.flat x.node_of next w) (from_there : cells.rest ≡ rest) where
        first-value : has_it y ≡ true → what 1 ≡ weights e
        first-value pass =
            let here : slice_get p.right 0 ≡ Some y = ap (λ l. slice_get l 0) right in
            let has : HasSlot f.spec f.tables f.needs y (Con k.number) = (k, numbered, refl, pass) in
            let child = child-at f is x are n p o 0 y here (Con k.number) has in
            let one : d ≡ child.c = same_child d child.c (ap (λ l. slice_get l 0) items) child.item in
            agrees 0 y here has
            ∙ con-node f is x are A k numbered with its_with child.c e child.p child.plain (subst (λ m. IsNodeOf f.rules f.shapes x.flat x.node_of m e) one of_element)

        second-value : what 2 ≡ fold_at w rest
        second-value =
            let here : slice_get p.right 1 ≡ Some z = ap (λ l. slice_get l 1) right in
            let has : HasSlot f.spec f.tables f.needs z (Con k.number) = (k, numbered, refl, ap has_it same ∙ holds) in
            let child = child-at f is x are n p o 1 z here (Con k.number) has in
            let one : next ≡ child.c = same_child next child.c (ap (λ l. slice_get l 1) items) child.item in
            agrees 1 z here has
            ∙ ap (λ m. carry.carried f x A m (Con k.number)) (sym one)
            ∙ con-cell f is x are A k numbered with its_with next w child.p (subst (λ m. IsPlain f is x are m child.p) (sym one) child.plain) cells
            ∙ ap (fold_at w) from_there

        abbrev pair_by : Bool → Bool → List ℕ
        pair_by a b = map (λ (z : ℕ × ℕ). z.0) (cond a ((1, y) ∷ cond b ((2, z) ∷ []) []) (cond b ((2, z) ∷ []) []))

        abbrev fold_by : Bool → Plain
        fold_by a = join f is x are A k numbered with its_with B n w origin r p fs tail holder context (map weights (cond a (e ∷ filter reaches_at rest) (filter reaches_at rest)))

        both-value : (s : ℕ) (a : Bool) → has_it y ≡ a → below_of (Link s) (pair_by a true) ≡ fold_by a
        both-value s true pass = comb-value f is x are A k numbered with its_with B n w origin r p fs tail holder context (Read 1 (Con k.number)) (Read 2 (Con k.number)) (weights e) (fold_at w rest) (first-value pass) second-value
        both-value s false pass = second-value

        pub at-link : (s : ℕ) → p.role ≡ Link s → below_of p.role (gives_of p.right) ≡ fold_at w (e ∷ rest)
        at-link s role =
            ap (λ role. below_of role (gives_of p.right)) role
            ∙ ap (λ l. below_of (Link s) (gives_of l)) right
            ∙ ap (λ b. below_of (Link s) (pair_by (has_it y) b)) (ap has_it same ∙ holds)
            ∙ both-value s (has_it y) refl
            ∙ ap fold_by element
