-- Attributes of split nodes: their values by keys, and who evaluates them.
use Rattle.std.specs.Prelude.{Contains, slice_get, unwrap_or, option_and_then, if◌then◌else◌}
use Rattle.std.proofs.lemmas.List.FromFn.{get_or-map-range_with_len, length-map-range_with_len}
use Rattle.std.proofs.lemmas.Option.{slice_get-get_or}
use Rattle.std.proofs.Common.{◌≡◌, ◌<◌, ℕ, suc, Bool, true, false, [], ◌∷◌, Some, refl, arith, ap, sym, ◌∙◌, true≢false, ◌⊎◌, inl, inr}
use Rattle.lido_base.specs.Tree.{contains, parent_of}
use Rattle.lido_base.specs.declared.value.Value.{Value}
use Rattle.lido_base.specs.declared.value.Value.TheVariants as value
use Rattle.lido_base.proofs.Lists.{contains-nil, contains-cons, contains-flat}
use Rattle.tree_store.specs.Regions.{region}
use Rattle.flat_grammar.specs.declared.flat.Occ.{Occ}
use Rattle.flat_grammar.specs.WholeOrder.{Instance}
use Rattle.flat_grammar.specs.Instances.{IsInstance}
use Rattle.core_machine.specs.Instances.{IsSite}
use Rattle.core_machine.specs.Machine.{Item, eval_of, put_of, final}
use Rattle.core_machine.specs.Core.{Task, IsTask, home, items, items_for, instances_in_order, machine}
use Rattle.core_machine.specs.Keys.{key_of, key_count, content_at, contents_of, IsShared}
use Rattle.core_machine.proofs.Lists.{split-at}
use Rattle.core_machine.proofs.Ends.{final_value}
use Rattle.core_machine.proofs.Jobs.{grown, in-order, sound}
use Rattle.core_machine.proofs.KeyLemmas.{counted, named}
use Rattle.core_machine.proofs.Sites.{placed, site-instance, one-site}
use Rattle.core_machine.proofs.Tasks.{among-eval, computes, computed, site-of, home-is, region-parent}
use Rattle.core_machine.proofs.Trees.{child-facts}

module _ (j : Task) (task : IsTask j) where
  -- what stands in the list of items is an instance
  pub eval-instance : (i : Instance) → Contains (items j) (eval_of i) → IsInstance j.symbols j.rules j.flat i
  eval-instance i m = ((in-order j task).instances i).0 (among-eval j (instances_in_order j) i m)

  -- what is put is an attribute of a split node
  pub put-split : (i : Instance) → Contains (items j) (put_of i) → contains i.0 j.nodes ≡ true
  put-split i m = let p = contains-flat (items_for j) (instances_in_order j) (put_of i) m in go p.0 (contains p.0.0 j.nodes) refl p.2
    where
      no : (x : Instance) → eval_of x ≡ put_of i → ⊥
      no x e = true≢false (sym (ap (λ (y : Item Instance). y.is_put) e))

      go : (x : Instance) (b : Bool) → contains x.0 j.nodes ≡ b → Contains (if b then eval_of x ∷ put_of x ∷ [] else eval_of x ∷ []) (put_of i) → contains i.0 j.nodes ≡ true
      go x true e h = elim (contains-cons (eval_of x) (put_of i) (put_of x ∷ []) h) [
        | inl z ↦ absurd (no x z)
        | inr w ↦ elim (contains-cons (put_of x) (put_of i) [] w) [ inl z ↦ ap (λ (y : Item Instance). contains y.makes.0 j.nodes) (sym z) ∙ e | inr n ↦ absurd (contains-nil (put_of i) n) ]
      ]
      go x false e h = elim (contains-cons (eval_of x) (put_of i) [] h) [
        | inl z ↦ absurd (no x z)
        | inr n ↦ absurd (contains-nil (put_of i) n)
      ]

  -- an evaluated instance has a value in the end
  pub final-some : (i : Instance) → Contains (items j) (eval_of i) → (v : Value) × ((final (machine j)).values i ≡ Some v)
  final-some i m = let p = split-at (items j) (eval_of i) m in (_, final_value (machine j) (sound j task) p.0 p.1 (eval_of i) p.2 refl)

  pub content-there : (key : ℕ) → key < key_count j → slice_get (contents_of j) key ≡ Some (content_at j key)
  content-there key h =
      let n = length-map-range_with_len (content_at j) 0 (key_count j) in
      slice_get-get_or (contents_of j) key value.Void (omega (arith, h, n)) ∙ ap Some (get_or-map-range_with_len (content_at j) 0 (key_count j) key key value.Void h (omega arith))

  -- the value under the key of an evaluated instance is its own in the end
  pub content-is : (i : Instance) → Contains (items j) (eval_of i) → contains i.0 j.nodes ≡ true → slice_get (contents_of j) (key_of j i) ≡ (final (machine j)).values i
  content-is i m is =
      let shared : IsShared j i = (is, eval-instance i m) in
      let v = final-some i m in
      content-there (key_of j i) (counted j task i shared)
      ∙ ap (λ o. Some (unwrap_or (option_and_then (final (machine j)).values o) value.Void)) (named j task i shared)
      ∙ ap (λ o. Some (unwrap_or o value.Void)) v.1 ∙ sym v.1

  -- what isn't of a split node is evaluated in the region of its own node
  pub near-node : (i : Instance) → IsInstance j.symbols j.rules j.flat i → contains i.0 j.nodes ≡ false → region j.flat j.nodes i.0 ≡ home j i
  near-node i is not =
      let k = computes j task (grown j task) (in-order j task) i is in
      let s = site-of j task (grown j task) (in-order j task) i k.0 (computed j task (grown j task) (in-order j task) i k.0 k.1) in
      let p = placed j.symbols j.rules j.shapes j.root j.flat task.formed (grown j task) task.root_bare i k.0.0 k.0.2.goal s in
      by k.0.0 (elim p.how [ inl z ↦ inl z.2 | inr z ↦ inr (child-facts j.flat (grown j task).tree k.0.0 (suc z.1.0) i.0 z.1.2).parent ])
      ∙ sym (home-is j task (grown j task) (in-order j task) i k.0 k.1)
    where
      by : (n : ℕ) → (i.0 ≡ n) ⊎ (parent_of j.flat i.0 ≡ Some n) → region j.flat j.nodes i.0 ≡ region j.flat j.nodes n
      by n (inl e) = ap (λ z. region j.flat j.nodes z) e
      by n (inr e) = region-parent j.flat (grown j task).tree j.nodes i.0 n e not

  -- an instance is evaluated in the region of its site's node
  pub site-home : (i : Instance) (n : ℕ) (o : Occ) → IsSite j.symbols j.rules j.flat i n o → home j i ≡ region j.flat j.nodes n
  site-home i n o site =
      let is = site-instance j.symbols j.rules j.shapes j.root j.flat task.formed (grown j task) task.root_bare i n o site in
      let k = computes j task (grown j task) (in-order j task) i is in
      let s = site-of j task (grown j task) (in-order j task) i k.0 (computed j task (grown j task) (in-order j task) i k.0 k.1) in
      home-is j task (grown j task) (in-order j task) i k.0 k.1
      ∙ ap (λ z. region j.flat j.nodes z) (one-site j.symbols j.rules j.shapes j.root j.flat task.formed (grown j task) task.root_bare i k.0.0 n k.0.2.goal o s site).0
