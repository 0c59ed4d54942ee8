use Rattle.std.proofs.Common.{◌≡◌, ◌<◌, ◌≤◌, length, drop}
use Rattle.rule_tables.specs.Shares.{Term}
use Rattle.rule_tables.specs.ExtraOf.{AreJoined}
use Rattle.flat_terms.specs.Scene.{Scene, value_of}
use Rattle.flat_terms.specs.Sites.{IsSiteOf, IsKnownWith}
use Rattle.flat_terms.specs.Terms.{HasWith}
use Rattle.flat_terms.proofs.terms.joined.Given as goal

-- the pieces from the k-th on
abbrev pub invariant-loop-k : goal.invariant-loop-k
invariant-loop-k l = record {
  within : l.k < length l.pieces;
  value : (scene : Scene) → IsSiteOf scene l.site → IsKnownWith scene l.site l.with → l.number ≤ 65535
      → (e : Term) → AreJoined l.tables scene.plain l.number (drop l.k l.pieces) e → HasWith l.with e → l.made ≡ value_of scene e;
}

abbrev pub decreases-loop-k : goal.decreases-loop-k
decreases-loop-k l = l.k
