use Rattle.std.specs.Prelude.{Contains}
use Rattle.std.proofs.Common.{◌≡◌, ℕ, ◌≤◌, vec_len}
use Rattle.flat_terms.specs.Scene.{Scene}
use Rattle.flat_terms.specs.Sites.{IsSiteOf, IsKnownWith}
use Rattle.flat_terms.specs.Folds.{onto_at, folded_at}
use Rattle.flat_terms.proofs.folds.folded.Given as goal

-- the children that are left, with what is joined behind them
abbrev pub invariant-loop-j : goal.invariant-loop-j
invariant-loop-j l = record {
  value : (scene : Scene) → IsSiteOf scene l.site → IsKnownWith scene l.site l.with → l.number ≤ 65535 → ((j : ℕ) → Contains l.initial.places.items j → j ≤ 65535)
      → onto_at scene l.number l.with l.made l.places.items ≡ folded_at scene l.number l.with l.initial.places.items;
  kept : (j : ℕ) → Contains l.places.items j → Contains l.initial.places.items j;
}

abbrev pub decreases-loop-j : goal.decreases-loop-j
decreases-loop-j l = vec_len l.places
