use Rattle.std.proofs.Common.{subst, ◌<◌, ◌^◌, ℕ, ◌+◌, ◌-◌, ◌%◌, ◌≤◌}
use Rattle.std.specs.Prelude.{IsBitSet, ◌↔◌}
use Rattle.induced_deps.proofs.WordLemmas.{seen_in, in_seen}
use Rattle.induced_deps.proofs.row.Row.window.Goals as goal

pub returns : goal.returns
returns c =
    let from = c.args.from in
    let low = subst (λ w. (k : ℕ) → IsBitSet c.moved_down-low.result k ↔ IsBitSet w (k + from % 128)) c.word.ensures c.moved_down-low.ensures in
    let high = subst (λ w. (k : ℕ) → IsBitSet c.moved_up-high.result k ↔ ((k < 128) × (128 - from % 128 ≤ k) × IsBitSet w (k - (128 - from % 128)))) c.word-2.ensures c.moved_up-high.ensures in
    let fits = subst (λ w. w < 2 ^ 128) c.word.ensures c.word.type_inv in
    λ b. (
      λ h. seen_in c.args.self.now.words from c.moved_down-low.result c.moved_up-high.result fits low high b ((c.union.ensures.members b).0 h),
      λ h. (c.union.ensures.members b).1 (in_seen c.args.self.now.words from c.moved_down-low.result c.moved_up-high.result fits low high b h),
    )
