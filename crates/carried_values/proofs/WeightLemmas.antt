-- What is carried meets the equations of CONSTITUENTS.
use Rattle.std.specs.Prelude.{Contains, IsTrue, map, slice_get, unwrap_or, ◌&&◌, if◌then◌else◌}
use Rattle.std.proofs.Common.{◌≡◌, ℕ, suc, ◌⊎◌, inl, inr, Bool, true, false, List, [], ◌∷◌, ◌++◌, Option, Some, refl, sym, ap, subst, ◌∙◌, append_assoc}
use Rattle.std.proofs.lemmas.Option.{none-some}
use Rattle.lido_base.specs.Plain.{Plain, Void}
use Rattle.lido_base.specs.Tree.{children}
use Rattle.lido_base.specs.declared.ids.SymId.{SymId}
use Rattle.lido_base.proofs.Lists.{place-contains}
use Rattle.lido_syntax.specs.declared.spec.Cons.{Cons}
use Rattle.lido_syntax.specs.declared.spec.With.{With}
use Rattle.lido_syntax.specs.declared.spec.RuleItem.{RuleItem}
use Rattle.lido_syntax.specs.Production.{left_of, right_of}
use Rattle.lido_syntax.specs.Assignment.{Assignment}
use Rattle.lido_syntax.specs.Computation.{Holder}
use Rattle.flat_grammar.specs.declared.flat.FlatExpr.{FlatExpr}
use Rattle.flat_grammar.specs.declared.flat.FlatRule.{FlatRule}
use Rattle.flat_grammar.specs.FlatTrees.{IsNodeOf, AreCells}
use Rattle.flat_grammar.specs.Instances.{instance_at}
use Rattle.flat_grammar.specs.Rules.{HasRule}
use Rattle.flat_grammar.specs.WellFormed.{cell_of}
use Rattle.flat_grammar.specs.WholeOrder.{Instance, node_at}
use Rattle.tree_flattener.specs.Roles.{IsCellOfList}
use Rattle.lido_symbols.specs.Numbers.{place_in}
use Rattle.rule_tables.specs.PlainRules.{PlainRule, Role, Whole, Listing, Link, End, number, cell}
use Rattle.rule_tables.specs.Forced.{Force}
use Rattle.rule_tables.specs.Needs.{rules}
use Rattle.rule_tables.specs.Slots.{Slot, Con, is_same_slot, HasSlot, has_con}
use Rattle.rule_tables.specs.Shares.{Term, gives}
use Rattle.rule_tables.specs.Shares as share
use Rattle.rule_tables.specs.Copies.{occ, slot_number}
use Rattle.flat_laws.proofs.SymbolLemmas.{left-number}
use Rattle.flat_laws.proofs.RuleLemmas.{IsRuleOf, whole, listing, link, end, rule-of}
use Rattle.carried_trees.specs.Flattening.{Flattening, IsFlattening, Trees, AreTrees}
use Rattle.carried_trees.specs.Carry as carry
use Rattle.carried_trees.proofs.NodeLemmas.{IsPlain, IsWritten, child-at, plain-of, written-at, cell-at, carried-at}
use Rattle.carried_trees.proofs.NearestLemmas.{symbol-is}
use Rattle.carried_values.proofs.ReachLemmas.{reach-same}
use Rattle.carried_values.proofs.FoldLemmas.{worth}
use Rattle.carried_values.proofs.GatherLemmas.{fold_at, reaches_at, whole-value, listing-value, at-end, at-link, right-of}

end-right : (f : Flattening) (p : PlainRule) → IsRuleOf f.spec f.tables.symbols p → p.role ≡ End → p.right ≡ []
end-right f p (end r h) e = h.right
end-right f p (whole r h) e = let wrong : Whole ≡ End = sym h.role ∙ e in absurd (cc)
end-right f p (listing r h) e = let wrong : Listing ≡ End = sym h.role ∙ e in absurd (cc)
end-right f p (link r s h) e = let wrong : Link s ≡ End = sym h.role ∙ e in absurd (cc)

module _ (f : Flattening) (is : IsFlattening f) (x : Trees) (are : AreTrees f x) (A : Assignment) where
  -- what is carried to an attribute of a child
  pub carried-child : (n : ℕ) (p : PlainRule) (o : IsPlain f is x are n p) (r : RuleItem) (fs : List Force) (s : Slot) (j y : ℕ) (right : slice_get p.right j ≡ Some y) (has : HasSlot f.spec f.tables f.needs y s)
      → unwrap_or (carry.carry f x A (instance_at x.flat n (occ f.spec f.tables f.needs f.slots f.env r p fs (suc j) s))) Void ≡ carry.carried f x A (child-at f is x are n p o j y right s has).c s
  carried-child n p o r fs s j y right has =
      let child = child-at f is x are n p o j y right s has in
      ap (λ (v : Option Plain). unwrap_or v Void)
      (ap (λ (z : Option ℕ). carry.carry f x A (node_at x.flat n (suc j), slot_number f.spec f.tables f.needs f.slots f.env r p fs z s)) right
      ∙ ap (λ m. carry.carry f x A (m, place_in (is_same_slot s) (f.slots y))) child.there
      ∙ ap (λ z. carry.carry f x A (child.c, place_in (is_same_slot s) (f.slots z))) (sym child.left)
      ∙ carried-at f is x are A child.c child.p child.plain s (subst (λ z. HasSlot f.spec f.tables f.needs z s) (sym child.left) has))

  module _ (k : Cons) (numbered : Contains f.tables.constituents k) (with : With) (its_with : k.with ≡ Some with)
      (B : Instance → Plain) (n w : ℕ) (p : PlainRule) (o : IsPlain f is x are n p) (r : RuleItem) (fs : List Force) (tail : ℕ → FlatExpr) (holder : Holder) (context : ℕ)
      (origin : unwrap_or (slice_get x.node_of n) 0 ≡ w)
      (agrees : (j y : ℕ) → (right : slice_get p.right j ≡ Some y) → (has : HasSlot f.spec f.tables f.needs y (Con k.number))
      → B (instance_at x.flat n (occ f.spec f.tables f.needs f.slots f.env r p fs (suc j) (Con k.number))) ≡ carry.carried f x A (child-at f is x are n p o j y right (Con k.number) has).c (Con k.number))
      (wanted : (y : ℕ) → Contains p.right y → IsTrue (f.needs.wanted k y)) where
    abbrev value : Term → Plain
    value = worth f is x are A k numbered with its_with B n w origin r p fs tail holder context

    abbrev fold : List ℕ → Plain
    fold = fold_at f is x are A k numbered with its_with w

    abbrev given_below : Plain
    given_below = value (share.below_by f.spec f.tables f.needs p fs p.role k with (gives f.spec f.tables f.needs p fs k))

    -- at a written node the fold over its children
    pub node-below : IsNodeOf f.rules f.shapes x.flat x.node_of n w → given_below ≡ fold (children x.written w)
    node-below stands = by its.r.list refl
      where
        its : IsWritten f is x are n w p
        its = written-at f is x are n w p o stands

        role_of : Bool → Role
        role_of b = if b then Listing else Whole

        role : p.role ≡ role_of its.r.list
        role = ap (λ (q : PlainRule). q.role) its.plain

        below_of : Role → Plain
        below_of role = value (share.below_by f.spec f.tables f.needs p fs role k with (gives f.spec f.tables f.needs p fs k))

        right-is : p.right ≡ (if its.r.list then cell f.spec f.tables.symbols its.i ∷ [] else map (number f.spec f.tables.symbols) (right_of its.r))
        right-is = ap (λ (q : PlainRule). q.right) its.plain

        by : (b : Bool) → its.r.list ≡ b → given_below ≡ fold (children x.written w)
        by false plain =
            ap below_of (role ∙ ap role_of plain)
            ∙ whole-value f is x are A k numbered with its_with B n w p o r fs tail holder context origin agrees wanted stands its.r (its.i, its.at, its.rule) plain
            (right-is ∙ ap (λ b. if b then cell f.spec f.tables.symbols its.i ∷ [] else map (number f.spec f.tables.symbols) (right_of its.r)) plain)
        by true list =
            ap below_of (role ∙ ap role_of list)
            ∙ listing-value f is x are A k numbered with its_with B n w p o r fs tail holder context origin agrees wanted stands its.i its.r its.at its.rule list
            (right-is ∙ ap (λ b. if b then cell f.spec f.tables.symbols its.i ∷ [] else map (number f.spec f.tables.symbols) (right_of its.r)) list)

    -- at a cell the fold over the elements from there on
    pub cell-below : has_con f.spec f.tables f.needs k p.left ≡ true → (of : IsCellOfList f.rules f.shapes x.written x.flat x.node_of n w) → given_below ≡ fold of.rest
    cell-below holds of = go of.rest of.cells of.before of.elements
      where
        role : (p.role ≡ End) ⊎ ((s : ℕ) × (p.role ≡ Link s))
        role = (cell-at f is x are n w p o of).role

        its-rule : IsRuleOf f.spec f.tables.symbols p
        its-rule = rule-of f.spec f.tables.symbols p (subst (Contains (rules f.spec f.tables)) o.plain (place-contains (rules f.spec f.tables) o.j o.its.p o.its.of_ruled.plain))

        right-at : (flat : FlatRule) → HasRule f.rules x.flat n flat → (p.left ≡ flat.left.0) × (p.right ≡ map (λ (s : SymId). s.0) flat.right)
        right-at = right-of f is x are A k numbered with its_with B n w p o r fs tail holder context origin agrees wanted holds

        -- the element's symbol has the attribute where it can reach a source
        element-same : (d e : ℕ) (element : FlatRule) → HasRule f.rules x.flat d element → IsNodeOf f.rules f.shapes x.flat x.node_of d e → Contains p.right element.left.0
            → has_con f.spec f.tables f.needs k element.left.0 ≡ reaches_at f is x are A k numbered with its_with e
        element-same d e element has stands m =
            let (q, plain, left) = plain-of f is x are d element has in
            let its = written-at f is x are d e q plain stands in
            let same : element.left.0 ≡ number f.spec f.tables.symbols (left_of its.r) = left ∙ ap (λ (q : PlainRule). q.left) its.plain in
            ap (λ b. b && f.needs.reaches k element.left.0) (wanted element.left.0 m)
            ∙ ap (f.needs.reaches k) same
            ∙ reach-same f is k (left_of its.r) (left-number f.spec f.env f.tables is.tables its.r (place-contains f.spec.rules its.i its.r its.rule))
            ∙ ap (f.tables.sets.reaches k) (sym (symbol-is f.spec f.tables.sets x.written e its.r (its.i, its.at, its.rule)))

        linked : (y z : ℕ) → p.right ≡ y ∷ z ∷ [] → (p.role ≡ End) ⊎ ((s : ℕ) × (p.role ≡ Link s)) → (s : ℕ) × (p.role ≡ Link s)
        linked y z right (inr s) = s
        linked y z right (inl e) = absurd (none-some y (ap (λ l. slice_get l 0) (sym (end-right f p its-rule e) ∙ right)))

        go : (rest : List ℕ) → AreCells f.rules f.shapes x.flat x.node_of (cell_of f.rules of.shape) w n rest → (before : List ℕ) → children x.written w ≡ before ++ rest → given_below ≡ fold rest
        go [] (flat, has, left, right, none, at) before parted =
            at-end f is x are A k numbered with its_with B n w p o r fs tail holder context origin agrees wanted holds role ((right-at flat has).1 ∙ ap (map (λ (s : SymId). s.0)) right)
        go (e ∷ rest) (flat, element, d, next, has, has_element, left, right, items, at, stands, more) before parted =
            let y = element.left.0 in
            let z = (cell_of f.rules of.shape).0 in
            let shown : p.right ≡ y ∷ z ∷ [] = (right-at flat has).1 ∙ ap (map (λ (s : SymId). s.0)) right in
            let (s, is_link) = linked y z shown role in
            at-link f is x are A k numbered with its_with B n w p o r fs tail holder context origin agrees wanted holds e d next rest y z shown items
            (sym ((right-at flat has).0 ∙ ap (λ (s : SymId). s.0) left))
            (element-same d e element has_element stands (place-contains p.right 0 y (ap (λ l. slice_get l 0) shown))) stands
            (record { shape = of.shape; has_shape = of.has_shape; is_list = of.is_list; before = before ++ e ∷ []; rest = rest; elements = parted ∙ sym (append_assoc before (e ∷ []) rest); cells = more }) refl s is_link
