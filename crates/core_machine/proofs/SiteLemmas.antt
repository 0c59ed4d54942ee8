-- What stands at an occurrence of a node's rule.
use Rattle.std.specs.Prelude.{slice_get, is_some, not, unwrap_or}
use Rattle.std.specs.List.{AllZip}
use Rattle.std.proofs.Common.{◌≡◌, ◌<◌, ◌≤◌, ℕ, zero, suc, List, [], length, Bool, true, false, Option, Some, None, refl, arith, ap, sym, ◌∙◌, get_or, true≢false}
use Rattle.std.proofs.lemmas.Option.{slice_get-get_or, slice_get_within, none-some}
use Rattle.std.proofs.lemmas.List.Elements.{All-contains}
use Rattle.lido_base.specs.declared.ids.SymId.{SymId}
use Rattle.lido_base.specs.declared.value.Value.{Value}
use Rattle.lido_base.specs.Tree.{Item, Child, Leaf, items_of, item_at, rule_at, IsNode}
use Rattle.tree_store.specs.Growth.{IsTerminal}
use Rattle.flat_grammar.specs.declared.flat.FlatRule.{FlatRule}
use Rattle.flat_grammar.specs.declared.flat.FlatSymbol.{FlatSymbol}
use Rattle.flat_grammar.specs.declared.flat.FlatAttr.{FlatAttr}
use Rattle.flat_grammar.specs.Rules.{attrs_of, symbol_at, HasRule}
use Rattle.flat_grammar.proofs.GrownLemmas.{one-rule}
use Rattle.flat_grammar.specs.WellFormed.{is_nonterminal_symbol, IsRule}
use Rattle.flat_grammar.specs.WholeOrder.{child_at, node_at}
use Rattle.flat_grammar.specs.Instances.{IsOf}
use Rattle.flat_grammar.proofs.Lists.{held, contains-slice_get}
use Rattle.core_machine.specs.Core.{Task, IsTask}
use Rattle.core_machine.specs.Slots.{width}
use Rattle.core_machine.specs.Standings.{is_terminal_symbol}
use Rattle.core_machine.proofs.Jobs.{grown}
use Rattle.core_machine.proofs.SlotLemmas.{rule-width}
use Rattle.core_machine.proofs.Sites.{AllZip-right, AllZip-left, is-rule}
use Rattle.core_machine.proofs.Trees.{child-facts}

-- where nothing stands on the one side, nothing stands on the other
zip-none : {A B : Type 0} (R : A → B → Type 0) (xs : List A) (ys : List B) (k : ℕ) → AllZip R xs ys → slice_get xs k ≡ None → slice_get ys k ≡ None
zip-none R xs ys k z e = go (slice_get ys k) refl
  where
    go : (o : Option _) → slice_get ys k ≡ o → o ≡ None
    go None f = refl
    go (Some y) f = let p = AllZip-left R xs ys k y z f in absurd (none-some _ (sym e ∙ p.1))

module _ (j : Task) (task : IsTask j) where
  formed-rule : (n : ℕ) (r : FlatRule) → HasRule j.rules j.flat n r → IsRule j.symbols r
  formed-rule = is-rule j.symbols j.rules j.shapes j.root j.flat task.formed (grown j task) task.root_bare

  pub rule-there : (n : ℕ) → n < length j.flat → (i : ℕ) → rule_at j.flat n ≡ Some i → (i < length j.rules) × ((rules : List FlatRule) (r d : FlatRule) → rules ≡ j.rules → r ≡ get_or rules i d → HasRule j.rules j.flat n r)
  rule-there n h i e =
      let q = (grown j task).nodes n h in
      let same : q.1.0 ≡ i = held (sym q.1.1 ∙ e) in
      let w = slice_get_within j.rules q.1.0 q.0 q.1.2 in
      let few : i < length j.rules = omega (arith, same, w) in
      (few, λ rules r d is at. (i, e, slice_get-get_or j.rules i d few ∙ ap (λ (x : FlatRule). Some x) (sym (at ∙ ap (λ l. get_or l i d) is))))

  -- the symbol of an occurrence is one of the grammar's
  pub symbol-there : (n : ℕ) (r : FlatRule) (k : ℕ) (s : SymId) → HasRule j.rules j.flat n r → slice_get r.right k ≡ Some s → s.0 < length j.symbols
  symbol-there n r k s at e = All-contains (λ (s : SymId). s.0 < length j.symbols) r.right s (formed-rule n r at).right_side (contains-slice_get r.right k s e)

  pub nothing-there : (n : ℕ) (r : FlatRule) (k : ℕ) → HasRule j.rules j.flat n r → slice_get r.right k ≡ None → item_at j.flat n (suc k) ≡ None
  nothing-there n r k at e = zip-none (IsOf j.symbols j.rules j.flat) r.right (items_of j.flat n) k ((grown j task).items n r at) e

  -- a child where the symbol is a nonterminal, a terminal where it is one
  pub item-there : (n : ℕ) (r : FlatRule) (k : ℕ) (s : SymId) (x : FlatSymbol) → HasRule j.rules j.flat n r → slice_get r.right k ≡ Some s → slice_get j.symbols s.0 ≡ Some x
      → (is_some x.terminal ≡ true → IsTerminal j.flat n (suc k)) × (is_some x.terminal ≡ false → IsNode j.flat n (suc k))
  item-there n r k s x at e f = let p = AllZip-right (IsOf j.symbols j.rules j.flat) r.right (items_of j.flat n) k s ((grown j task).items n r at) e in go p.0 p.1 p.2
    where
      differ : {b : Bool} → b ≡ true → b ≡ false → ⊥
      differ g h = true≢false (sym g ∙ h)

      go : (item : Item Value) → slice_get (items_of j.flat n) k ≡ Some item → IsOf j.symbols j.rules j.flat s item
          → (is_some x.terminal ≡ true → IsTerminal j.flat n (suc k)) × (is_some x.terminal ≡ false → IsNode j.flat n (suc k))
      go (Child c) g (q, has, left) =
          let bare : not (is_some x.terminal) ≡ true = sym (ap is_nonterminal_symbol f) ∙ (ap (λ (z : SymId). is_nonterminal_symbol (slice_get j.symbols z.0)) (sym left) ∙ (formed-rule c q has).left_side) in
          (λ t. absurd (differ bare (ap not t)), λ t. (c, g))
      go (Leaf v) g (y, has, terminal) =
          let same : y ≡ x = held (sym has ∙ f) in
          (λ t. (v, g), λ t. absurd (differ (ap (λ (z : FlatSymbol). is_some z.terminal) (sym same) ∙ terminal) t))

  pub node-inside : (n k : ℕ) → n < length j.flat → node_at j.flat n k < length j.flat
  node-inside n k h = go (child_at j.flat n k) refl
    where
      go : (o : Option ℕ) → child_at j.flat n k ≡ o → unwrap_or o n < length j.flat
      go None e = h
      go (Some c) e = (child-facts j.flat (grown j task).tree n k c e).inside

  pub nothing-at : (n : ℕ) (r : FlatRule) (k : ℕ) → HasRule j.rules j.flat n r → symbol_at r k ≡ None → item_at j.flat n k ≡ None
  nothing-at n r zero at e = refl
  nothing-at n r (suc k) at e = nothing-there n r k at e

  -- a terminal where the symbol is one, else a child
  pub kind-at : (n : ℕ) (r : FlatRule) (k : ℕ) (s : SymId) → HasRule j.rules j.flat n r → (k ≡ 0 → ⊥) → symbol_at r k ≡ Some s
      → (is_terminal_symbol j.symbols s ≡ true → IsTerminal j.flat n k) × (is_terminal_symbol j.symbols s ≡ false → IsNode j.flat n k)
  kind-at n r zero s at some e = absurd (some refl)
  kind-at n r (suc k) s at some e = go (slice_get j.symbols s.0) refl
    where
      go : (o : Option FlatSymbol) → slice_get j.symbols s.0 ≡ o
          → (elim o [ None ↦ false | Some x ↦ is_some x.terminal ] ≡ true → IsTerminal j.flat n (suc k)) × (elim o [ None ↦ false | Some x ↦ is_some x.terminal ] ≡ false → IsNode j.flat n (suc k))
      go None f = absurd (none-some _ (sym f ∙ slice_get-get_or j.symbols s.0 any (symbol-there n r k s at e)))
        where
          any : FlatSymbol
          any = record { name = record { 0 = 0 }; terminal = None; attrs = [] }
      go (Some x) f = item-there n r k s x at e f

  pub attributes-count : (n : ℕ) (xs : List FlatAttr) → n < length j.flat → ((r : FlatRule) → HasRule j.rules j.flat n r → xs ≡ attrs_of j.symbols r.left) → length xs ≡ width j n
  attributes-count n xs h e = let q = (grown j task).nodes n h in ap length (e q.0 q.1) ∙ sym (rule-width j n q.0 q.1)

  pub few-attributes : (s : SymId) → length (attrs_of j.symbols s) ≤ 256
  few-attributes s = go (slice_get j.symbols s.0) refl
    where
      go : (o : Option FlatSymbol) → slice_get j.symbols s.0 ≡ o → length (elim o as (λ (x : Option FlatSymbol). List FlatAttr) [ None ↦ [] | Some x ↦ x.attrs ]) ≤ 256
      go None e = omega arith
      go (Some x) e = All-contains (λ (x : FlatSymbol). length x.attrs ≤ 256) j.symbols x task.formed.few_attributes (contains-slice_get j.symbols s.0 x e)

  pub few-of-node : (n : ℕ) → n < length j.flat → width j n ≤ 256
  few-of-node n h = let q = (grown j task).nodes n h in let e = rule-width j n q.0 q.1 in let f = few-attributes q.0.left in omega (arith, e, f)

module _ (j : Task) where
  -- the attributes of a node, by its rule
  pub attributes-are : (n : ℕ) (r q : FlatRule) (xs : List FlatAttr) → HasRule j.rules j.flat n r → xs ≡ attrs_of j.symbols r.left → HasRule j.rules j.flat n q → xs ≡ attrs_of j.symbols q.left
  attributes-are n r q xs at e other = e ∙ ap (λ (z : FlatRule). attrs_of j.symbols z.left) (one-rule j.rules j.flat n r q at other)
