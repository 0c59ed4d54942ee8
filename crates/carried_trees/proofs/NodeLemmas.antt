-- Flat nodes: their plain rules, their attributes and their children.
use Rattle.std.specs.Prelude.{Contains, IsTrue, slice_get, is_some, option_map, option_and_then, unwrap_or, if◌then◌else◌}
use Rattle.std.proofs.Common.{◌≡◌, ℕ, suc, ◌<◌, ◌≤◌, ◌⊎◌, inl, inr, Bool, true, false, List, [], ◌∷◌, length, Option, Some, None, refl, sym, ap, subst, ◌∙◌, arith}
use Rattle.std.proofs.lemmas.Option.{none-some, same_Some, slice_get_within}
use Rattle.std.proofs.lemmas.List.Elements.{All-contains}
use Rattle.lido_base.specs.Plain.{Plain, Void}
use Rattle.lido_base.specs.Tree.{Item, Child, Leaf, child_number, rule_at, items_of}
use Rattle.lido_base.specs.declared.ids.SymId.{SymId}
use Rattle.lido_base.proofs.Lists.{contains-place, place-contains}
use Rattle.lido_syntax.specs.declared.spec.RuleItem.{RuleItem}
use Rattle.lido_syntax.specs.Production.{left_of}
use Rattle.lido_syntax.specs.Assignment.{Assignment}
use Rattle.flat_grammar.specs.declared.flat.FlatSymbol.{FlatSymbol}
use Rattle.flat_grammar.specs.declared.flat.FlatRule.{FlatRule}
use Rattle.flat_grammar.specs.declared.flat.Shape.{Shape}
use Rattle.flat_grammar.specs.FlatTrees.{IsNodeOf, AreCells}
use Rattle.flat_grammar.specs.Instances.{IsOf, IsGrown}
use Rattle.flat_grammar.specs.Rules.{HasRule}
use Rattle.flat_grammar.specs.WellFormed.{IsWellFormed, cell_of}
use Rattle.flat_grammar.specs.WholeOrder.{node_at}
use Rattle.flat_grammar.specs.Fitting as flat
use Rattle.flat_grammar.proofs.GrownLemmas.{fitting-grown}
use Rattle.tree_flattener.specs.Roles.{IsCellOfList, HasRole}
use Rattle.tree_flattener.proofs.OnePathLemmas.{rule_inside, same_held}
use Rattle.tree_flattener.proofs.RoleLemmas.{has_role}
use Rattle.rule_tables.specs.PlainRules.{PlainRule, Whole, Listing, Link, End, number, cell, written_rule}
use Rattle.rule_tables.specs.Forced.{Force}
use Rattle.rule_tables.specs.Needs.{rules, ruled}
use Rattle.rule_tables.specs.Slots.{Slot, is_same_slot, HasSlot}
use Rattle.lido_symbols.specs.Numbers.{place_in}
use Rattle.rule_tables.specs.Flat.{IsAttribute}
use Rattle.rule_tables.proofs.SlotLemmas.{slot-at_number, zip-at}
use Rattle.flat_laws.proofs.Lists.{zip-right, mapped-back}
use Rattle.flat_laws.proofs.SymbolLemmas.{left-number, cell-past}
use Rattle.flat_laws.proofs.RuleLemmas.{IsFlatAt, flat-at, IsRuleOf, whole, listing, link, end, is-rule, plain-at}
use Rattle.flat_laws.proofs.ShapeLemmas.{cell-is}
use Rattle.flat_laws.proofs.WellFormedLemmas.{well-formed}
use Rattle.carried_trees.specs.Flattening.{Flattening, IsFlattening, Trees, AreTrees}
use Rattle.carried_trees.specs.Carry as carry
use Rattle.carried_trees.specs.Holds.{IsRuleAt}
use Rattle.carried_trees.proofs.BelowLemmas.{IsBelow, below, role-origin}
use Rattle.carried_trees.proofs.ElementLemmas.{elements-are}
use Rattle.carried_trees.proofs.FittingLemmas.{fitting}

module _ (f : Flattening) (is : IsFlattening f) (x : Trees) (are : AreTrees f x) where
  formed : IsWellFormed f.symbols f.rules f.shapes f.root
  formed = well-formed f.spec f.early f.env f.tables f.needs f.slots f.symbols f.rules f.shapes f.root is

  fits : flat.IsFitting f.symbols f.rules f.shapes f.root x.written
  fits = fitting f is x.written are.fits

  grown : IsGrown f.symbols f.rules x.flat f.root
  grown = fitting-grown f.symbols f.rules f.shapes f.root x.written x.flat x.node_of formed fits are.flat_tree

  pub shaped : (w : ℕ) → w < length x.written → (shape : Shape) × Contains f.shapes shape × (rule_at x.written w ≡ Some shape.rule.0)
  shaped w h = let (shape, has) = fits.shaped w h in (shape, has.0, has.1)

  -- ---- plain rules

  -- a flat node's plain rule, with its flat one
  abbrev IsFlatRuleAt : ℕ → FlatRule → Type 0
  IsFlatRuleAt j flat = IsFlatAt f.spec f.env f.tables is.tables f.needs f.slots f.symbols f.rules f.shapes f.root is.grammar j flat

  pub record IsPlain (n : ℕ) (p : PlainRule) : Type 0 where
    pub j : ℕ
    pub flat : FlatRule
    pub at : rule_at x.flat n ≡ Some j
    pub there : slice_get f.rules j ≡ Some flat
    pub its : IsFlatRuleAt j flat
    pub plain : its.p ≡ p

  pub plain-of : (n : ℕ) (flat : FlatRule) → HasRule f.rules x.flat n flat → (p : PlainRule) × IsPlain n p × (flat.left.0 ≡ p.left)
  plain-of n flat (j, at, there) =
      let its = flat-at f.spec f.env f.tables is.tables f.needs f.slots f.symbols f.rules f.shapes f.root is.grammar j flat there in
      (its.p, record { j = j; flat = flat; at = at; there = there; its = its; plain = refl }, its.is_flat.left)

  -- each flat node has one
  pub plain-there : (n w : ℕ) → HasRole f.rules f.shapes x.written x.flat x.node_of n w → (p : PlainRule) × IsPlain n p
  plain-there n w role =
      let h = slice_get_within x.node_of n w (role-origin f.rules f.shapes x.written x.flat x.node_of n w role) in
      let same = are.flat_tree.each_node in
      let (flat, has) = grown.nodes n (omega (arith, h, same)) in
      let (p, o, left) = plain-of n flat has in
      (p, o)

  pub plain-at-node : (n : ℕ) (p : PlainRule) → IsPlain n p → carry.plain_at f x n ≡ Some p
  plain-at-node n p o =
      ap (λ (i : Option ℕ). option_and_then {T = ℕ} {U = PlainRule} (slice_get (rules f.spec f.tables)) i) o.at ∙ o.its.of_ruled.plain ∙ ap (λ (p : PlainRule). Some p) o.plain

  -- that of the rule at its place
  pub plain-ruled : (n : ℕ) (r : RuleItem) (p : PlainRule) (fs : List Force) → IsRuleAt f x n r p fs → IsPlain n p
  plain-ruled n r p fs at =
      let (flat, there, of) = zip-right _ (ruled f.spec f.tables) f.rules at.number (p, fs) is.grammar.each_rule at.rule in
      let its = flat-at f.spec f.env f.tables is.tables f.needs f.slots f.symbols f.rules f.shapes f.root is.grammar at.number flat there in
      let plain : slice_get (rules f.spec f.tables) at.number ≡ Some p = (zip-at (rules f.spec f.tables) f.tables.forced at.number p fs at.rule).0 in
      record { j = at.number; flat = flat; at = at.at; there = there; its = its; plain = same_Some its.p p (sym its.of_ruled.plain ∙ plain) }

  rule-of : (n : ℕ) (p : PlainRule) → IsPlain n p → IsRuleOf f.spec f.tables.symbols p
  rule-of n p o = subst (IsRuleOf f.spec f.tables.symbols) o.plain (is-rule f.spec f.env f.tables is.tables o.j o.its.p o.its.fs o.its.of_ruled)

  -- ---- what a flat node is

  -- The flat node of that plain rule is written node w.
  pub record IsWritten (n w : ℕ) (p : PlainRule) : Type 0 where
    pub i : ℕ
    pub r : RuleItem
    pub at : rule_at x.written w ≡ Some i
    pub rule : slice_get f.spec.rules i ≡ Some r
    pub plain : p ≡ written_rule f.spec f.tables.symbols (i, r)

  -- It is a cell of list node w.
  pub record IsCell (n w : ℕ) (p : PlainRule) : Type 0 where
    pub past : length f.tables.symbols ≤ p.left
    pub role : (p.role ≡ End) ⊎ ((s : ℕ) × (p.role ≡ Link s))

  pub cell-at : (n w : ℕ) (p : PlainRule) → IsPlain n p → IsCellOfList f.rules f.shapes x.written x.flat x.node_of n w → IsCell n w p
  cell-at n w p o of = record { past = past; role = by (rule-of n p o) }
    where
      of-rule : (flat : FlatRule) → HasRule f.rules x.flat n flat → flat.left ≡ cell_of f.rules of.shape → o.flat.left ≡ cell_of f.rules of.shape
      of-rule flat (j, at, there) left = ap (λ (r : FlatRule). r.left) (same_Some o.flat flat (sym o.there ∙ ap (slice_get f.rules) (same_held o.j j o.at at) ∙ there)) ∙ left

      left-cell : (rest : List ℕ) → AreCells f.rules f.shapes x.flat x.node_of (cell_of f.rules of.shape) w n rest → o.flat.left ≡ cell_of f.rules of.shape
      left-cell [] (flat, has, left, right, none, at) = of-rule flat has left
      left-cell (e ∷ rest) (flat, element, d, next, has, has_element, left, right, items, at, stands, more) = of-rule flat has left

      past : length f.tables.symbols ≤ p.left
      past =
          let (k, there) = contains-place f.shapes of.shape of.has_shape.0 in
          let same = cell-is f.spec f.env f.tables is.tables f.needs f.slots f.symbols f.rules f.shapes f.root is.grammar k of.shape there of.is_list in
          let left : cell f.spec f.tables.symbols k ≡ p.left = sym (ap (λ (s : SymId). s.0) (left-cell of.rest of.cells ∙ same)) ∙ o.its.is_flat.left ∙ ap (λ (p : PlainRule). p.left) o.plain in
          let c = cell-past f.spec f.tables.symbols k in
          omega (arith, c, left)

      no-node : (r : RuleItem) → slice_get f.spec.rules p.rule ≡ Some r → p.left ≡ number f.spec f.tables.symbols (left_of r) → ⊥
      no-node r of left =
          let w = slice_get_within f.tables.symbols (number f.spec f.tables.symbols (left_of r)) (left_of r) (left-number f.spec f.env f.tables is.tables r (place-contains f.spec.rules p.rule r of)) in
          let h = past in
          omega (arith, w, h, left)

      by : IsRuleOf f.spec f.tables.symbols p → (p.role ≡ End) ⊎ ((s : ℕ) × (p.role ≡ Link s))
      by (whole r h) = absurd (no-node r h.rule h.left)
      by (listing r h) = absurd (no-node r h.rule h.left)
      by (link r s h) = inr (s, h.role)
      by (end r h) = inl h.role

  pub written-at : (n w : ℕ) (p : PlainRule) → IsPlain n p → IsNodeOf f.rules f.shapes x.flat x.node_of n w → IsWritten n w p
  written-at n w p o s =
      let of_w : rule_at x.written w ≡ Some o.j = sym (are.flat_tree.same_rules n w s) ∙ o.at in
      let (r, (i, at, of)) = are.fits.ruled w (rule_inside x.written w o.j of_w) in
      let same : o.j ≡ i = same_held o.j i of_w at in
      record {
        i = i;
        r = r;
        at = at;
        rule = of;
        plain = sym o.plain
            ∙ same_Some o.its.p (written_rule f.spec f.tables.symbols (i, r)) (sym o.its.of_ruled.plain ∙ ap (slice_get (rules f.spec f.tables)) same ∙ plain-at f.spec f.tables.symbols i r of);
      }

  inside : (n : ℕ) (p : PlainRule) → IsPlain n p → n < length x.flat
  inside n p o = rule_inside x.flat n o.j o.at

  pub role-of : (n : ℕ) (p : PlainRule) → IsPlain n p → (w : ℕ) × HasRole f.rules f.shapes x.written x.flat x.node_of n w
  role-of n p o = has_role f.rules f.shapes x.written x.flat x.node_of shaped are.flat_tree n (inside n p o)

  pub origin-is : (n w : ℕ) → HasRole f.rules f.shapes x.written x.flat x.node_of n w → carry.origin_of f x n ≡ w
  origin-is n w role = ap (λ (o : Option ℕ). unwrap_or o 0) (role-origin f.rules f.shapes x.written x.flat x.node_of n w role)

  pub below-of : (n w : ℕ) (p : PlainRule) → IsPlain n p → HasRole f.rules f.shapes x.written x.flat x.node_of n w → (j c : ℕ) → slice_get (items_of x.flat n) j ≡ Some (Child c)
      → IsBelow f.rules f.shapes x.written x.flat x.node_of w c
  below-of n w p o role j c e = below f.rules f.shapes x.written x.flat x.node_of shaped are.fits.tree are.flat_tree n w (inside n p o) role j c e

  -- ---- children

  -- what stands at a place of the right side: a node of that symbol
  pub record HasChild (n j y : ℕ) : Type 0 where
    pub c : ℕ
    pub item : slice_get (items_of x.flat n) j ≡ Some (Child c)
    pub there : node_at x.flat n (suc j) ≡ c
    pub p : PlainRule
    pub plain : IsPlain c p
    pub left : p.left ≡ y

  -- Where the symbol has an attribute, a node stands there.
  pub child-at : (n : ℕ) (p : PlainRule) → IsPlain n p → (j y : ℕ) → slice_get p.right j ≡ Some y → (s : Slot) → HasSlot f.spec f.tables f.needs y s → HasChild n j y
  child-at n p o j y right s has =
      let (id, at, same) = mapped-back (λ (s : SymId). s.0) o.flat.right j y (ap (λ l. slice_get l j) (o.its.is_flat.right ∙ ap (λ (p : PlainRule). p.right) o.plain) ∙ right) in
      let (item, there, of) = zip-right (IsOf f.symbols f.rules x.flat) o.flat.right (items_of x.flat n) j id (grown.items n o.flat (o.j, o.at, o.there)) at in
      by item id there of same
    where
      no-attribute : (symbol : FlatSymbol) → slice_get f.symbols y ≡ Some symbol → IsTrue (is_some symbol.terminal) → ⊥
      no-attribute symbol at terminal =
          let bare = All-contains (λ (z : FlatSymbol). IsTrue (is_some z.terminal) → z.attrs ≡ []) f.symbols symbol formed.terminals_bare (place-contains f.symbols y symbol at) terminal in
          let (attr, there, its) = zip-right (IsAttribute f.spec f.tables f.needs f.slots f.env y) (f.slots y) symbol.attrs (place_in (is_same_slot s) (f.slots y)) s (is.grammar.attributes y symbol at) (slot-at_number s (f.slots y) ((is.ordered.all y s).1 has)) in
          none-some attr (ap (λ l. slice_get l (place_in (is_same_slot s) (f.slots y))) (sym bare) ∙ there)

      by : (item : Item Plain) (id : SymId) → slice_get (items_of x.flat n) j ≡ Some item → IsOf f.symbols f.rules x.flat id item → id.0 ≡ y → HasChild n j y
      by (Child c) id there (flat, has, left) same =
          let (q, plain, l) = plain-of c flat has in
          record {
            c = c;
            item = there;
            there = ap (λ (i : Option (Item Plain)). unwrap_or (option_and_then {T = Item Plain} {U = ℕ} child_number i) n) there;
            p = q;
            plain = plain;
            left = sym l ∙ ap (λ (s : SymId). s.0) left ∙ same;
          }
      by (Leaf v) id there (symbol, at, terminal) same = absurd (no-attribute symbol (ap (slice_get f.symbols) (sym same) ∙ at) terminal)

  -- ---- what is carried

  module _ (A : Assignment) where
    -- what is carried to an attribute stands at its number
    pub carried-at : (n : ℕ) (p : PlainRule) → IsPlain n p → (s : Slot) → HasSlot f.spec f.tables f.needs p.left s
        → carry.carry f x A (n, place_in (is_same_slot s) (f.slots p.left)) ≡ Some (carry.carried f x A n s)
    carried-at n p o s has =
        ap (λ (q : Option PlainRule). option_map {T = Slot} {U = Plain} (carry.carried f x A n) (option_and_then {T = PlainRule} {U = Slot} (λ q. slice_get (f.slots q.left) (place_in (is_same_slot s) (f.slots p.left))) q)) (plain-at-node n p o)
        ∙ ap (option_map {T = Slot} {U = Plain} (carry.carried f x A n)) (slot-at_number s (f.slots p.left) ((is.ordered.all p.left s).1 has))

    carried-plain : (n : ℕ) (p : PlainRule) → IsPlain n p → (s : Slot) → carry.carried f x A n s ≡ carry.by_role f x A p.role n s
    carried-plain n p o s = ap (λ (q : Option PlainRule). elim q as (λ _. Plain) [ None ↦ Void | Some q ↦ carry.by_role f x A q.role n s ]) (plain-at-node n p o)

    -- at a written node what stands there, and at a cell what its elements make
    pub carried-node : (n w : ℕ) (p : PlainRule) → IsPlain n p → IsNodeOf f.rules f.shapes x.flat x.node_of n w → (s : Slot) → carry.carried f x A n s ≡ carry.at_node f x A w s
    carried-node n w p o stands s =
        let its = written-at n w p o stands in
        carried-plain n p o s ∙ ap (λ (q : PlainRule). carry.by_role f x A q.role n s) its.plain ∙ by its.r.list ∙ ap (λ m. carry.at_node f x A m s) (origin-is n w (inl stands))
      where
        by : (b : Bool) → carry.by_role f x A (if b then Listing else Whole) n s ≡ carry.at_node f x A (carry.origin_of f x n) s
        by true = refl
        by false = refl

    pub carried-cell : (n w : ℕ) (p : PlainRule) → IsPlain n p → (of : IsCellOfList f.rules f.shapes x.written x.flat x.node_of n w) → (s : Slot) → carry.carried f x A n s ≡ carry.at_cell f x A w of.rest s
    carried-cell n w p o of s =
        carried-plain n p o s ∙ by (cell-at n w p o of).role
        ∙ ap (λ m. carry.at_cell f x A m (carry.elements_from f x n) s) (origin-is n w (inr of))
        ∙ ap (λ l. carry.at_cell f x A w l s) (elements-are f x are w (cell_of f.rules of.shape) of.rest n of.cells)
      where
        by : (p.role ≡ End) ⊎ ((q : ℕ) × (p.role ≡ Link q)) → carry.by_role f x A p.role n s ≡ carry.at_cell f x A (carry.origin_of f x n) (carry.elements_from f x n) s
        by (inl e) = ap (λ r. carry.by_role f x A r n s) e
        by (inr (q, e)) = ap (λ r. carry.by_role f x A r n s) e
