-- Where the values of instances stand: each at a place of its own, within the list.
use Rattle.std.specs.Prelude.{sum_by, map}
use Rattle.std.specs.List.{range_with_len}
use Rattle.std.proofs.Common.{◌≡◌, ◌≤◌, ◌<◌, ◌+◌, ◌-◌, ◌⊎◌, ℕ, zero, suc, List, [], ◌∷◌, ◌++◌, length, Option, Some, None, arith, ap, sym, ◌∙◌, get_or, inl, inr}
use Rattle.std.proofs.lemmas.Bool.{cases_order}
use Rattle.std.proofs.lemmas.List.Sums.{sum_by-append, sum_by-cons}
use Rattle.std.proofs.lemmas.List.FromFn.{length-map-range_with_len, get_or-map-range_with_len, map-range_with_len_more}
use Rattle.flat_grammar.specs.declared.flat.FlatRule.{FlatRule}
use Rattle.flat_grammar.specs.Rules.{attrs_of, HasRule}
use Rattle.flat_grammar.specs.Fitting.{most_instances}
use Rattle.flat_grammar.specs.WholeOrder.{Instance}
use Rattle.flat_grammar.specs.Instances.{IsInstance}
use Rattle.core_machine.specs.Core.{Task, IsTask}
use Rattle.core_machine.specs.Slots.{width, offset, all_offsets, slot}
use Rattle.core_machine.proofs.Jobs.{grown}
use Rattle.core_machine.proofs.Tasks.{of-rule}
use Rattle.core_machine.proofs.Sites.{inside}
use Rattle.core_machine.proofs.LimitLemmas.{by-nodes}
use Rattle.core_machine.proofs.CursorReads.{range-push}

module _ (j : Task) where
  pub offset-more : (n : ℕ) → offset j (n + 1) ≡ offset j n + width j n
  offset-more n =
      let last : 0 + n ≡ n = omega arith in
      let list = range-push 0 n ∙ ap (λ z. range_with_len 0 n ++ z ∷ []) last in
      let a = ap (sum_by (width j)) list ∙ sum_by-append (width j) (range_with_len 0 n) (n ∷ []) in
      let b = sum_by-cons (width j) n [] in
      omega (arith, a, b)

  -- nodes that come later begin later
  behind : (k n : ℕ) → offset j n + width j n ≤ offset j (n + 1 + k)
  behind zero n = let e = offset-more n in let f : n + 1 + 0 ≡ n + 1 = omega arith in let g = ap (offset j) f in omega (arith, e, g)
  behind (suc k) n =
      let rest = behind k n in
      let e = offset-more (n + 1 + k) in
      let f : n + 1 + k + 1 ≡ n + 1 + suc k = omega arith in
      let g = ap (offset j) f in
      omega (arith, rest, e, g)

  pub offset-later : (n m : ℕ) → n < m → offset j n + width j n ≤ offset j m
  offset-later n m h =
      let e : n + 1 + (m - (n + 1)) ≡ m = omega (arith, h) in
      let g = ap (offset j) e in let b = behind (m - (n + 1)) n in omega (arith, g, b)

  pub offset-read : (n : ℕ) → n < suc (length j.flat) → get_or (all_offsets j) n 0 ≡ offset j n
  offset-read n h = get_or-map-range_with_len (offset j) 0 (suc (length j.flat)) n n 0 h (omega arith)

  pub offset-count : length (all_offsets j) ≡ suc (length j.flat)
  offset-count = length-map-range_with_len (offset j) 0 (suc (length j.flat))

  pub begin-read : (begins : List ℕ) → begins ≡ all_offsets j → (n : ℕ) → n < length j.flat → get_or begins n 0 ≡ offset j n
  begin-read begins e n h = ap (λ l. get_or l n 0) e ∙ offset-read n (omega (arith, h))

  -- the entry behind the last node
  pub end-read : (begins : List ℕ) → begins ≡ all_offsets j → (n : ℕ) → n ≡ length j.flat → get_or begins n 0 ≡ offset j (length j.flat)
  end-read begins e n same = ap (λ l. get_or l n 0) e ∙ offset-read n (omega (arith, same)) ∙ ap (offset j) same

  pub end-inside : (begins : List ℕ) → begins ≡ all_offsets j → (n : ℕ) → n ≡ length j.flat → n < length begins
  end-inside begins e n same = let a = ap length e in let b = offset-count in omega (arith, a, b, same)

  pub begin-inside : (begins : List ℕ) → begins ≡ all_offsets j → (n : ℕ) → n < length j.flat → n < length begins
  begin-inside begins e n h = let a = ap length e in let b = offset-count in omega (arith, a, b, h)

  pub offsets-push : (n : ℕ) (xs ys : List ℕ) (x : ℕ) → xs ≡ map (offset j) (range_with_len 0 n) → x ≡ offset j n → ys ≡ xs ++ x ∷ [] → ys ≡ map (offset j) (range_with_len 0 (n + 1))
  offsets-push n xs ys x e f g = g ∙ ap (λ l. l ++ x ∷ []) e ∙ ap (λ z. map (offset j) (range_with_len 0 n) ++ z ∷ []) f ∙ sym (map-range_with_len_more (offset j) 0 n n (omega arith))

  pub rule-width : (n : ℕ) (r : FlatRule) → HasRule j.rules j.flat n r → width j n ≡ length (attrs_of j.symbols r.left)
  rule-width n r at = ap (λ (o : Option FlatRule). elim o [ None ↦ 0 | Some r ↦ length (attrs_of j.symbols r.left) ]) (of-rule j n r at)

  module _ (task : IsTask j) where
    pub few-slots : offset j (length j.flat) ≤ most_instances
    few-slots =
        let e = by-nodes j task (λ (r : FlatRule). length (attrs_of j.symbols r.left)) in
        let f = task.limits.0 in
        omega (arith, e, f)

    pub few-here : (n : ℕ) → n < length j.flat → offset j n + width j n ≤ most_instances
    few-here n h = let a = offset-later n (length j.flat) h in let b = few-slots in omega (arith, a, b)

    -- an instance has its place in the list
    pub slot-inside : (i : Instance) → IsInstance j.symbols j.rules j.flat i → slot j i < offset j (length j.flat)
    slot-inside i (r, at, few) =
        let n = inside j.symbols j.rules j.shapes j.root j.flat task.formed (grown j task) task.root_bare i.0 r at in
        let a = offset-later i.0 (length j.flat) n in
        let b = rule-width i.0 r at in
        omega (arith, a, b, few)

    pub slot-apart : (i k : Instance) → IsInstance j.symbols j.rules j.flat i → IsInstance j.symbols j.rules j.flat k → slot j i ≡ slot j k → i ≡ k
    slot-apart i k (r, at, few) (q, there, low) e = go (cases_order i.0 k.0)
      where
        go : (i.0 ≡ k.0) ⊎ ((i.0 < k.0) ⊎ (k.0 < i.0)) → i ≡ k
        go (inl same) = let o = ap (offset j) same in let a : i.1 ≡ k.1 = omega (arith, o, e) in λ x. (same x, a x)
        go (inr (inl l)) = let o = offset-later i.0 k.0 l in let w = rule-width i.0 r at in absurd (omega (arith, o, w, few, e))
        go (inr (inr l)) = let o = offset-later k.0 i.0 l in let w = rule-width k.0 q there in absurd (omega (arith, o, w, low, e))

    -- an attribute of a node has its place in the list
    pub place-inside : (n k : ℕ) → n < length j.flat → k < width j n → (offset j n + k < offset j (length j.flat)) × (offset j n + k < most_instances)
    place-inside n k h l = let a = offset-later n (length j.flat) h in let b = few-here n h in (omega (arith, a, l), omega (arith, b, l))
