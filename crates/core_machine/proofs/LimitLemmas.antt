-- The limits on a flat tree bound the whole order, the list of items and the rooms.
use Rattle.std.specs.Prelude.{Contains, slice_get, unwrap_or, sum_by, flat_map, map, fold, option_and_then, option_map, if◌then◌else◌, ◌==◌}
use Rattle.std.specs.List.{range_with_len}
use Rattle.std.proofs.lemmas.Option.{none-some}
use Rattle.std.proofs.Common.{◌≡◌, ℕ, zero, suc, ◌+◌, ◌*◌, ◌≤◌, ◌<◌, ◌^◌, List, [], ◌∷◌, length, Bool, true, false, Option, Some, None, refl, arith, ap, sym, subst, ◌∙◌, eqb-true}
use Rattle.std.proofs.lemmas.List.{length-append}
use Rattle.std.proofs.lemmas.List.FromFn.{length-map-range_with_len}
use Rattle.std.proofs.lemmas.List.Sums.{sum_by-cons, fold-append}
use Rattle.lido_base.specs.declared.value.Value.{Value}
use Rattle.lido_base.specs.declared.value.Value.TheVariants as value
use Rattle.lido_base.specs.declared.value.ValueType.{ValueType}
use Rattle.lido_base.specs.declared.value.ValueType.TheVariants as type
use Rattle.lido_base.specs.declared.kinds.CoordPart.{CoordPart}
use Rattle.lido_base.specs.declared.kinds.CoordPart.TheVariants as part
use Rattle.lido_base.specs.Ranges.{IsInRange}
use Rattle.lido_base.specs.Tree.{Node, Item as TreeItem, Child, Leaf, contains, item_at, items_of, coordinate}
use Rattle.lido_base.proofs.Lists.{map-contains, flat-contains}
use Rattle.string_librarian.specs.Rooms.{Deposit, cells_of}
use Rattle.flat_grammar.specs.declared.flat.FlatRule.{FlatRule}
use Rattle.flat_grammar.specs.declared.flat.FlatComp.{FlatComp}
use Rattle.flat_grammar.specs.Rules.{attrs_of}
use Rattle.flat_grammar.specs.Fitting.{at_node, cells, most_instances, most_text_cells}
use Rattle.flat_grammar.specs.WholeOrder.{Instance, node_at}
use Rattle.flat_grammar.specs.Instances.{instance_at}
use Rattle.core_machine.specs.Machine.{State, eval_of, put_of, after, opening, final}
use Rattle.core_machine.specs.Core.{Task, IsTask, Computation, same_instance, rule_of, computation_of, home, outcome, gives, instances_in_order, items_for, items, machine}
use Rattle.flat_grammar.proofs.Lists.{held, contains-slice_get}
use Rattle.core_machine.proofs.Jobs.{grown, in-order}
use Rattle.core_machine.proofs.Tasks.{computes, computed, of-rule}
use Rattle.core_machine.proofs.CursorPaths.{in-range}
use Rattle.flat_grammar.specs.declared.flat.FlatAttr.{FlatAttr}
use Rattle.flat_grammar.specs.WellFormed.{attribute_of}
use Rattle.core_machine.specs.Evaluation.{evaluate, leaf_value, kept_value}
use Rattle.core_machine.specs.Limits.{AreInTheirTypes}
use Rattle.core_machine.proofs.RangeLemmas.{evaluate-range}
use Rattle.core_machine.proofs.Finals.{home-few}
use Rattle.core_machine.proofs.Cells.{evaluate-within}
use Rattle.core_machine.proofs.Counts.{Once, sum-within, sum-ones, sum-flat, sum-map, sum-places}
use Rattle.core_machine.proofs.Sites.{inside}

module _ (j : Task) (task : IsTask j) where
  once : Once (instances_in_order j)
  once front back i e m = (in-order j task).once front back i e m

  -- what a node's rule gives
  abbrev pub rule-gives : (FlatRule → ℕ) → ℕ → ℕ
  rule-gives f n = elim (rule_of j n) [ None ↦ 0 | Some r ↦ f r ]

  pub by-nodes : (f : FlatRule → ℕ) → sum_by (rule-gives f) (range_with_len 0 (length j.flat)) ≡ sum_by (λ (node : Node Value). at_node j.symbols j.rules j.flat f node.rule) j.flat
  by-nodes f = sum-places (λ (node : Node Value). at_node j.symbols j.rules j.flat f node.rule) (rule-gives f) 0 j.flat one
    where
      one : (k : ℕ) (node : Node Value) → slice_get j.flat k ≡ Some node → rule-gives f (0 + k) ≡ at_node j.symbols j.rules j.flat f node.rule
      one k node e =
          let n : 0 + k ≡ k = omega arith in
          ap (rule-gives f) n ∙ ap (λ o. elim (option_and_then (slice_get j.rules) (option_map (λ (node : Node Value). node.rule) o)) [ None ↦ 0 | Some r ↦ f r ]) e

  abbrev with-node : ℕ → ℕ → Instance
  with-node n a = (n, a)

  abbrev of-node : ℕ → List Instance
  of-node n = map (with-node n) (range_with_len 0 (elim (rule_of j n) [ None ↦ 0 | Some r ↦ length (attrs_of j.symbols r.left) ]))

  among-all : (i : Instance) → Contains (instances_in_order j) i → Contains (flat_map of-node (range_with_len 0 (length j.flat))) i
  among-all i m =
      let is = ((in-order j task).instances i).0 m in
      let r = is.0 in
      let node = inside j.symbols j.rules j.shapes j.root j.flat task.formed (grown j task) task.root_bare i.0 r is.1 in
      let e = of-rule j i.0 r is.1 in
      let wide : i.1 < elim (rule_of j i.0) [ None ↦ 0 | Some r ↦ length (attrs_of j.symbols r.left) ] = subst (λ (o : Option FlatRule). i.1 < elim o [ None ↦ 0 | Some r ↦ length (attrs_of j.symbols r.left) ]) (sym e) is.2 in
      flat-contains of-node (range_with_len 0 (length j.flat)) i.0 i (in-range i.0 (length j.flat) node)
      (map-contains (with-node i.0) (range_with_len 0 (elim (rule_of j i.0) [ None ↦ 0 | Some r ↦ length (attrs_of j.symbols r.left) ])) i.1 (in-range i.1 (elim (rule_of j i.0) [ None ↦ 0 | Some r ↦ length (attrs_of j.symbols r.left) ]) wide))

  -- the whole order has as many instances as the flat tree may have
  pub few-instances : length (instances_in_order j) ≤ most_instances
  few-instances =
      let a = sum-within (λ (i : Instance). i) (λ (i : Instance). 1) (instances_in_order j) (flat_map of-node (range_with_len 0 (length j.flat))) once (λ x y m n e. e) among-all in
      let b = sum-ones (instances_in_order j) in
      let c = sum-flat (λ (i : Instance). 1) of-node (range_with_len 0 (length j.flat)) in
      let d = sum-equal in
      let e = by-nodes (λ r. length (attrs_of j.symbols r.left)) in
      let f = task.limits.0 in
      omega (arith, a, b, c, d, e, f)
    where
      ones : (n : ℕ) → sum_by (λ (i : Instance). 1) (of-node n) ≡ rule-gives (λ r. length (attrs_of j.symbols r.left)) n
      ones n = sum-ones (of-node n) ∙ length-map-range_with_len (with-node n) 0 (elim (rule_of j n) [ None ↦ 0 | Some r ↦ length (attrs_of j.symbols r.left) ])

      sum-equal : sum_by (λ n. sum_by (λ (i : Instance). 1) (of-node n)) (range_with_len 0 (length j.flat)) ≡ sum_by (rule-gives (λ r. length (attrs_of j.symbols r.left))) (range_with_len 0 (length j.flat))
      sum-equal = ap (λ (f : ℕ → ℕ). sum_by f (range_with_len 0 (length j.flat))) (λ x n. ones n x)

  two-each : (xs : List Instance) → length (flat_map (items_for j) xs) ≤ 2 * length xs
  two-each [] = omega arith
  two-each (x ∷ xs) =
      let a = length-append (items_for j x) (flat_map (items_for j) xs) in
      let b = two-each xs in
      let c = go (contains x.0 j.nodes) in
      omega (arith, a, b, c)
    where
      go : (b : Bool) → length (if b then eval_of x ∷ put_of x ∷ [] else eval_of x ∷ []) ≤ 2
      go true = omega arith
      go false = omega arith

  pub few-items : length (items j) ≤ 2 * most_instances
  few-items = let a = two-each (instances_in_order j) in let b = few-instances in omega (arith, a, b)

  -- the text cells of a computation
  abbrev cost : Option Computation → ℕ
  cost None = 0
  cost (Some k) = cells k.2.value

  abbrev pub as-computation : ℕ → FlatRule → FlatComp → Option Computation
  as-computation n r c = Some (n, r, c)

  abbrev pub computations-of : ℕ → List (Option Computation)
  computations-of n = elim (rule_of j n) [ None ↦ [] | Some r ↦ map (as-computation n r) r.comps ]

  among-computations : (i : Instance) → Contains (instances_in_order j) i → Contains (flat_map computations-of (range_with_len 0 (length j.flat))) (computation_of j i)
  among-computations i m =
      let k = computes j task (grown j task) (in-order j task) i (((in-order j task).instances i).0 m) in
      let is = computed j task (grown j task) (in-order j task) i k.0 k.1 in
      let node = inside j.symbols j.rules j.shapes j.root j.flat task.formed (grown j task) task.root_bare k.0.0 k.0.1 is.at in
      let e = of-rule j k.0.0 k.0.1 is.at in
      let there : Contains (computations-of k.0.0) (Some k.0) = subst (λ (o : Option FlatRule). Contains (elim o [ None ↦ [] | Some r ↦ map (as-computation k.0.0 r) r.comps ]) (Some k.0)) (sym e) (map-contains (as-computation k.0.0 k.0.1) k.0.1.comps k.0.2 is.comp) in
      subst (λ (o : Option Computation). Contains (flat_map computations-of (range_with_len 0 (length j.flat))) o) (sym k.1)
      (flat-contains computations-of (range_with_len 0 (length j.flat)) k.0.0 (Some k.0) (in-range k.0.0 (length j.flat) node) there)

  apart : (x y : Instance) → Contains (instances_in_order j) x → Contains (instances_in_order j) y → computation_of j x ≡ computation_of j y → x ≡ y
  apart x y m n e =
      let k = computes j task (grown j task) (in-order j task) x (((in-order j task).instances x).0 m) in
      let l = computes j task (grown j task) (in-order j task) y (((in-order j task).instances y).0 n) in
      let a = computed j task (grown j task) (in-order j task) x k.0 k.1 in
      let b = computed j task (grown j task) (in-order j task) y l.0 l.1 in
      let same : k.0 ≡ l.0 = held (sym k.1 ∙ e ∙ l.1) in
      a.gives ∙ ap (λ (c : Computation). instance_at j.flat c.0 c.2.goal) same ∙ sym b.gives

  -- what the instances' computations add up to is at most what the nodes' do
  pub sum-computations : (f : Option Computation → ℕ) → sum_by (λ (i : Instance). f (computation_of j i)) (instances_in_order j) ≤ sum_by (λ n. sum_by f (computations-of n)) (range_with_len 0 (length j.flat))
  sum-computations f =
      let a = sum-within (computation_of j) f (instances_in_order j) (flat_map computations-of (range_with_len 0 (length j.flat))) once apart among-computations in
      let b = sum-flat f computations-of (range_with_len 0 (length j.flat)) in
      omega (arith, a, b)

  -- what the whole order can deposit
  pub few-cells : sum_by (λ (i : Instance). cost (computation_of j i)) (instances_in_order j) ≤ most_text_cells
  few-cells =
      let a = sum-computations cost in
      let c = ap (λ (f : ℕ → ℕ). sum_by f (range_with_len 0 (length j.flat))) (λ x n. of-rule-cells n x) in
      let d = by-nodes (λ r. sum_by (λ (c : FlatComp). cells c.value) r.comps) in
      let e = task.limits.1 in
      omega (arith, a, c, d, e)
    where
      sums : (o : Option FlatRule) (n : ℕ) → sum_by cost (elim o [ None ↦ [] | Some r ↦ map (as-computation n r) r.comps ]) ≡ elim o [ None ↦ 0 | Some r ↦ sum_by (λ (c : FlatComp). cells c.value) r.comps ]
      sums None n = refl
      sums (Some r) n = sum-map cost (as-computation n r) r.comps

      of-rule-cells : (n : ℕ) → sum_by cost (computations-of n) ≡ rule-gives (λ r. sum_by (λ (c : FlatComp). cells c.value) r.comps) n
      of-rule-cells n = sums (rule_of j n) n

  abbrev S : Type 0
  S = State Instance Value Deposit

  outcome-within : (number : ℕ) (values : Instance → Option Value) (room : List Deposit) (o : Option Computation) → cells_of (outcome j number values room o).1 ≤ cells_of room + cost o
  outcome-within number values room None = omega arith
  outcome-within number values room (Some c) =
      let origin = node_at j.flat c.0 c.2.origin in
      evaluate-within j.texts j.patterns number (unwrap_or (slice_get j.node_of origin) 0) (λ k. leaf_value (item_at j.flat c.0 k)) (λ o. unwrap_or (values (instance_at j.flat c.0 o)) value.Void) (coordinate j.flat origin) c.2.value room

  eval-within : (s : S) (i : Instance) (r : ℕ) → cells_of ((after (machine j) s (eval_of i)).rooms r) ≤ cells_of (s.rooms r) + cost (computation_of j i)
  eval-within s i r = go (home j i == r) refl
    where
      go : (b : Bool) → (home j i == r) ≡ b → cells_of (if b then (gives j i s.values (s.rooms (home j i))).1 else s.rooms r) ≤ cells_of (s.rooms r) + cost (computation_of j i)
      go true e = let a = outcome-within (home j i) s.values (s.rooms (home j i)) (computation_of j i) in let b = ap (λ n. cells_of (s.rooms n)) (eqb-true (home j i) r e) in omega (arith, a, b)
      go false e = omega arith

  items-within : (s : S) (i : Instance) (r : ℕ) → cells_of ((fold (after (machine j)) s (items_for j i)).rooms r) ≤ cells_of (s.rooms r) + cost (computation_of j i)
  items-within s i r = go (contains i.0 j.nodes)
    where
      go : (b : Bool) → cells_of ((fold (after (machine j)) s (if b then eval_of i ∷ put_of i ∷ [] else eval_of i ∷ [])).rooms r) ≤ cells_of (s.rooms r) + cost (computation_of j i)
      go true = eval-within s i r
      go false = eval-within s i r

  along-within : (xs : List Instance) (s : S) (r : ℕ) → cells_of ((fold (after (machine j)) s (flat_map (items_for j) xs)).rooms r) ≤ cells_of (s.rooms r) + sum_by (λ (i : Instance). cost (computation_of j i)) xs
  along-within [] s r = omega arith
  along-within (x ∷ xs) s r =
      let next = fold (after (machine j)) s (items_for j x) in
      let a = ap (λ (z : S). cells_of (z.rooms r)) (fold-append (after (machine j)) s (items_for j x) (flat_map (items_for j) xs)) in
      let b = along-within xs next r in
      let c = items-within s x r in
      let d = sum_by-cons (λ (i : Instance). cost (computation_of j i)) x xs in
      omega (arith, a, b, c, d)

  pub room-cells : (r : ℕ) → cells_of ((final (machine j)).rooms r) ≤ most_text_cells
  room-cells r = let a = along-within (instances_in_order j) opening r in let b = few-cells in omega (arith, a, b)

  module _ (numbers : AreInTheirTypes j) where
    abbrev GoodValues : S → Type 0
    GoodValues s = (i : Instance) (v : Value) → s.values i ≡ Some v → IsInRange v

    kept-range : (attr : Option FlatAttr) (v : Value) → IsInRange v → IsInRange (kept_value attr v)
    kept-range None v h = h
    kept-range (Some attr) v h = go attr.ty v h
      where
        go : (ty : ValueType) (v : Value) → IsInRange v → IsInRange (elim ty [ type.Void ↦ elim v [ value.Bad o ↦ value.Bad o | _ ↦ value.Void ] | _ ↦ v ])
        go type.Int v h = h
        go type.Str v h = h
        go type.Bool v h = h
        go type.Text v h = h
        go type.Void (value.Int z) h = tt
        go type.Void (value.Bool z) h = tt
        go type.Void (value.Str z) h = tt
        go type.Void (value.Text z) h = tt
        go type.Void value.Void h = tt
        go type.Void (value.Bad o) h = h

    leaf-range : (n k : ℕ) → IsInRange (leaf_value (item_at j.flat n k))
    leaf-range n zero = tt
    leaf-range n (suc k) = go (slice_get (items_of j.flat n) k) refl
      where
        go : (o : Option (TreeItem Value)) → slice_get (items_of j.flat n) k ≡ o → IsInRange (leaf_value o)
        go None e = tt
        go (Some (Child c)) e = tt
        go (Some (Leaf v)) e = numbers.leaves n k v e

    read-range : (o : Option Value) → ((v : Value) → o ≡ Some v → IsInRange v) → IsInRange (unwrap_or o value.Void)
    read-range None h = tt
    read-range (Some v) h = h v refl

    node-range : (o : Option ℕ) → ((w : ℕ) → o ≡ Some w → w < 2 ^ 32) → unwrap_or o 0 < 2 ^ 32
    node-range None h = omega arith
    node-range (Some w) h = h w refl

    coord-range : (n : ℕ) (part : CoordPart) → coordinate j.flat n part < 2 ^ 32
    coord-range n part.Line = numbers.lines n
    coord-range n part.Col = numbers.columns n

    outcome-range : (s : S) (i : Instance) → GoodValues s → cells_of (s.rooms (home j i)) + cost (computation_of j i) ≤ most_text_cells
        → IsInRange (outcome j (home j i) s.values (s.rooms (home j i)) (computation_of j i)).0
    outcome-range s i good few = go (computation_of j i) refl few
      where
        go : (o : Option Computation) → computation_of j i ≡ o → cells_of (s.rooms (home j i)) + cost o ≤ most_text_cells → IsInRange (outcome j (home j i) s.values (s.rooms (home j i)) o).0
        go None e few = tt
        go (Some c) e few =
            let origin = node_at j.flat c.0 c.2.origin in
            let is = computed j task (grown j task) (in-order j task) i c e in
            let h = home-few j task i in
            let n = task.few_nodes in
            kept-range (attribute_of j.symbols c.1 c.2.goal) (evaluate j.texts j.patterns (home j i) j.flat (unwrap_or (slice_get j.node_of origin) 0) origin c.0 (λ d. unwrap_or (s.values d) value.Void) c.2.value (s.rooms (home j i))).0
            (evaluate-range j.texts j.patterns (home j i) (unwrap_or (slice_get j.node_of origin) 0) (omega (arith, h, n)) (node-range (slice_get j.node_of origin) (λ w x. numbers.nodes origin w x))
            (λ k. leaf_value (item_at j.flat c.0 k)) (λ o. unwrap_or (s.values (instance_at j.flat c.0 o)) value.Void) (coordinate j.flat origin)
            (λ k. leaf-range c.0 k) (λ o. read-range (s.values (instance_at j.flat c.0 o)) (λ v x. good (instance_at j.flat c.0 o) v x)) (coord-range origin)
            c.2.value (s.rooms (home j i)) (numbers.expressions c.1 c.2 (contains-slice_get j.rules is.at.0 c.1 is.at.2) is.comp) (omega (arith, few)))

    eval-range : (s : S) (x : Instance) → GoodValues s → cells_of (s.rooms (home j x)) + cost (computation_of j x) ≤ most_text_cells → GoodValues (after (machine j) s (eval_of x))
    eval-range s x good few i v = go (same_instance x i)
      where
        go : (b : Bool) → (if b then Some (gives j x s.values (s.rooms (home j x))).0 else s.values i) ≡ Some v → IsInRange v
        go true e = subst IsInRange (held e) (outcome-range s x good few)
        go false e = good i v e

    items-range : (s : S) (x : Instance) → GoodValues s → cells_of (s.rooms (home j x)) + cost (computation_of j x) ≤ most_text_cells → GoodValues (fold (after (machine j)) s (items_for j x))
    items-range s x good few = go (contains x.0 j.nodes)
      where
        go : (b : Bool) → GoodValues (fold (after (machine j)) s (if b then eval_of x ∷ put_of x ∷ [] else eval_of x ∷ []))
        go true = eval-range s x good few
        go false = eval-range s x good few

    along-range : (xs : List Instance) (s : S) → GoodValues s → ((r : ℕ) → cells_of (s.rooms r) + sum_by (λ (i : Instance). cost (computation_of j i)) xs ≤ most_text_cells)
        → GoodValues (fold (after (machine j)) s (flat_map (items_for j) xs))
    along-range [] s good few = good
    along-range (x ∷ xs) s good few =
        let d = sum_by-cons (λ (i : Instance). cost (computation_of j i)) x xs in
        let here = few (home j x) in
        let next = items-range s x good (omega (arith, here, d)) in
        subst GoodValues (sym (fold-append (after (machine j)) s (items_for j x) (flat_map (items_for j) xs)))
        (along-range xs (fold (after (machine j)) s (items_for j x)) next (λ r. let a = items-within s x r in let b = few r in omega (arith, a, b, d)))

    pub values-range : GoodValues (final (machine j))
    values-range = along-range (instances_in_order j) opening (λ i v e. absurd (none-some _ e)) (λ r. let b = few-cells in omega (arith, b))
