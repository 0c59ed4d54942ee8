-- The values of the final state, node by node: each at the place of its instance.
use Rattle.std.specs.Prelude.{slice_get, sum_by, flat_map, unwrap_or}
use Rattle.std.specs.List.{range_with_len}
use Rattle.std.proofs.lemmas.Bool.{cases_order}
use Rattle.std.proofs.lemmas.Grind.{flat_map-append}
use Rattle.std.proofs.lemmas.List.Sums.{sum_by-cons}
use Rattle.std.proofs.lemmas.List.FromFn.{get_or-map-range_with_len, length-map-range_with_len}
use Rattle.std.proofs.lemmas.Option.{slice_get-get_or}
use Rattle.std.proofs.Common.{◌≡◌, ◌<◌, ◌+◌, ◌⊎◌, ℕ, zero, suc, List, [], ◌∷◌, ◌++◌}
use Rattle.std.proofs.Common.{length, length-append, append-nil, Some, refl, arith, ap, sym, ◌∙◌, inl, inr}
use Rattle.lido_base.specs.declared.value.Value.{Value}
use Rattle.lido_base.specs.declared.value.Value.TheVariants as value
use Rattle.lido_base.proofs.Lists.{place-append}
use Rattle.flat_grammar.specs.declared.flat.FlatRule.{FlatRule}
use Rattle.flat_grammar.specs.Rules.{attrs_of, HasRule}
use Rattle.flat_grammar.specs.WholeOrder.{Instance}
use Rattle.flat_grammar.specs.Instances.{IsInstance}
use Rattle.core_machine.specs.Machine.{eval_of, final}
use Rattle.core_machine.specs.Core.{Task, IsTask, items, instances_in_order, machine}
use Rattle.core_machine.specs.Slots.{width, offset, found}
use Rattle.core_machine.proofs.CursorReads.{range-push}
use Rattle.core_machine.proofs.Jobs.{grown, in-order}
use Rattle.core_machine.proofs.Sites.{inside}
use Rattle.core_machine.proofs.SlotLemmas.{rule-width}
use Rattle.core_machine.proofs.Tasks.{eval-among}
use Rattle.region_engine.specs.Finals.{values_at, final_values}
use Rattle.region_engine.proofs.Shared.{final-some}
use Rattle.std.specs.Prelude.{Contains}

-- an element of the second of two lists
get-behind : {A : Type 0} (xs ys : List A) (k : ℕ) → slice_get (xs ++ ys) (length xs + k) ≡ slice_get ys k
get-behind [] ys k = let e : 0 + k ≡ k = omega arith in ap (slice_get ys) e
get-behind (x ∷ xs) ys k = let e : length (x ∷ xs) + k ≡ suc (length xs + k) = omega arith in ap (slice_get (x ∷ xs ++ ys)) e ∙ get-behind xs ys k

module _ (j : Task) where
  abbrev value_or_void : ℕ → ℕ → Value
  value_or_void n a = unwrap_or ((final (machine j)).values (n, a)) value.Void

  count-at : (n : ℕ) → length (values_at j n) ≡ width j n
  count-at n = length-map-range_with_len (value_or_void n) 0 (width j n)

  values-count : (ns : List ℕ) → length (flat_map (values_at j) ns) ≡ sum_by (width j) ns
  values-count [] = refl
  values-count (n ∷ ns) =
      let a = length-append (values_at j n) (flat_map (values_at j) ns) in
      let b = count-at n in let c = values-count ns in let d = sum_by-cons (width j) n ns in
      omega (arith, a, b, c, d)

  value-here : (n a : ℕ) → a < width j n → slice_get (values_at j n) a ≡ Some (value_or_void n a)
  value-here n a h =
      let c = count-at n in
      slice_get-get_or (values_at j n) a value.Void (omega (arith, h, c))
      ∙ ap Some (get_or-map-range_with_len (value_or_void n) 0 (width j n) a a value.Void h (omega arith))

  -- among the values of the first nodes
  value-among : (count n a : ℕ) → n < count → a < width j n → slice_get (flat_map (values_at j) (range_with_len 0 count)) (offset j n + a) ≡ Some
      (value_or_void n a)
  value-among zero n a h l = absurd (omega (arith, h))
  value-among (suc count) n a h l = ap (λ ns. slice_get (flat_map (values_at j) ns) (offset j n + a)) one-more
      ∙ ap (λ vs. slice_get vs (offset j n + a)) parts ∙ go (cases_order n count) (value-among count n a)
    where
      front : List Value
      front = flat_map (values_at j) (range_with_len 0 count)

      one-more : range_with_len 0 (suc count) ≡ range_with_len 0 count ++ count ∷ []
      one-more =
          let s : suc count ≡ count + 1 = omega arith in
          let last : 0 + count ≡ count = omega arith in
          ap (range_with_len 0) s ∙ range-push 0 count ∙ ap (λ z. range_with_len 0 count ++ z ∷ []) last

      parts : flat_map (values_at j) (range_with_len 0 count ++ count ∷ []) ≡ front ++ values_at j count
      parts = flat_map-append (values_at j) (range_with_len 0 count) (count ∷ []) ∙ ap (λ l. front ++ l) (append-nil (values_at j count))

      go : (n ≡ count) ⊎ ((n < count) ⊎ (count < n)) → (n < count → a < width j n → slice_get front (offset j n + a) ≡ Some (value_or_void n a))
          → slice_get (front ++ values_at j count) (offset j n + a) ≡ Some (value_or_void n a)
      go (inl same) before =
          let c = values-count (range_with_len 0 count) in
          let e = ap (offset j) same in
          let place : offset j n + a ≡ length front + a = omega (arith, c, e) in
          ap (slice_get (front ++ values_at j count)) place ∙ get-behind front (values_at j count) a
          ∙ ap (λ m. slice_get (values_at j m) a) (sym same) ∙ value-here n a l
      go (inr (inl less)) before = place-append front (values_at j count) (offset j n + a) (value_or_void n a) (before less l)
      go (inr (inr more)) before = absurd (omega (arith, h, more))

  module _ (task : IsTask j) where
    -- an instance has a value in the end
    pub instance-among : (i : Instance) → IsInstance j.symbols j.rules j.flat i → Contains (items j) (eval_of i)
    instance-among i is = eval-among j (instances_in_order j) i (((in-order j task).instances i).1 is)

    pub values-found : (i : Instance) (r : FlatRule) → HasRule j.rules j.flat i.0 r → i.1 < length (attrs_of j.symbols r.left)
        → found j (final_values j) i ≡ (final (machine j)).values i
    values-found i r at few =
        let n = inside j.symbols j.rules j.shapes j.root j.flat task.formed (grown j task) task.root_bare i.0 r at in
        let w = rule-width j i.0 r at in
        let v = final-some j task i (instance-among i (r, at, few)) in
        value-among (length j.flat) i.0 i.1 n (omega (arith, w, few)) ∙ ap (λ o. Some (unwrap_or o value.Void)) v.1 ∙ sym v.1
