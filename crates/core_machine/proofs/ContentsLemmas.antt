-- The values by their keys are as many as the keys, and in range.
use Rattle.std.specs.Prelude.{unwrap_or, option_and_then, All}
use Rattle.std.proofs.Common.{◌≡◌, ℕ, zero, suc, ◌*◌, ◌<◌, ◌≤◌, length, map, Option, Some, None, refl, arith, ap, sym, subst, ◌∙◌}
use Rattle.std.proofs.Math.Nat.{max-eq_right}
use Rattle.std.proofs.lemmas.Option.{none-some}
use Rattle.std.proofs.lemmas.List.{length-map}
use Rattle.lido_base.specs.declared.ids.NodeId.{NodeId}
use Rattle.std.specs.Prelude.{List}
use Rattle.std.proofs.lemmas.List.FromFn.{get_or-map-range_with_len, length-map-range_with_len}
use Rattle.lido_base.specs.declared.value.Value.{Value}
use Rattle.lido_base.specs.declared.value.Value.TheVariants as value
use Rattle.lido_base.specs.Ranges.{IsInRange}
use Rattle.flat_grammar.specs.WholeOrder.{Instance}
use Rattle.core_machine.specs.Machine.{final}
use Rattle.core_machine.specs.Core.{Task, IsTask, machine}
use Rattle.core_machine.specs.Limits.{AreInTheirTypes}
use Rattle.core_machine.specs.Keys.{key_count, shared_at, content_at, contents_of, owner_at, owners_of}
use Rattle.core_machine.proofs.LimitLemmas.{values-range}

module _ (j : Task) where
  pub contents-length : length (contents_of j) ≡ key_count j
  contents-length = length-map-range_with_len (content_at j) 0 (key_count j)

  pub owners-length : length (owners_of j) ≡ key_count j
  owners-length = length-map-range_with_len (owner_at j) 0 (key_count j)

  some-keys : (n : ℕ) → (n ≡ 0 → ⊥) → 1 ≤ 256 * n
  some-keys zero some = absurd (some refl)
  some-keys (suc n) some = omega arith

  -- 256 keys for each of the split nodes
  pub keys-of : (nodes : List NodeId) (n : ℕ) → (n ≡ 0 → ⊥) → n ≡ length nodes → map (λ (x : NodeId). x.0) nodes ≡ j.nodes → 256 * n ≡ key_count j
  keys-of nodes n some count same =
      let size : n ≡ length j.nodes = count ∙ sym (length-map nodes (λ (x : NodeId). x.0)) ∙ ap length same in
      ap (λ k. 256 * k) size ∙ sym (max-eq_right (subst (λ k. 1 ≤ 256 * k) size (some-keys n some)))

  module _ (task : IsTask j) (numbers : AreInTheirTypes j) where
    value-range : (o : Option Value) → ((v : Value) → o ≡ Some v → IsInRange v) → IsInRange (unwrap_or o value.Void)
    value-range None there = tt
    value-range (Some v) there = there v refl

    instance-range : (i : Option Instance) (v : Value) → option_and_then (final (machine j)).values i ≡ Some v → IsInRange v
    instance-range None v e = absurd (none-some v e)
    instance-range (Some i) v e = values-range j task numbers i v e

    pub contents-range : All IsInRange (contents_of j)
    contents-range k d room =
        let size = contents-length in
        let here : k < key_count j = omega (arith, room, size) in
        subst IsInRange (sym (get_or-map-range_with_len (content_at j) 0 (key_count j) k k d here (omega arith)))
        (value-range (option_and_then (final (machine j)).values (shared_at j k)) (instance-range (shared_at j k)))
