use Rattle.std.specs.Prelude.{IsBitSet, ◌↔◌}
use Rattle.std.proofs.Common.{◌<◌}
use Rattle.lido_base.specs.declared.ids.AttrId.{AttrId}
use Rattle.visit_sequences.specs.Steps.{LacksBefore, PassedBefore}
use Rattle.visit_sequences.proofs.goals.earlier.Given as goal

-- the set has what passed so far, and the attribute is none of it
abbrev pub invariant-loop-class : goal.invariant-loop-class
invariant-loop-class l = record {
  set : (a : AttrId) → IsBitSet l.set a.0 ↔ ((a.0 < 256) × PassedBefore l.row l.class-index a);
  lacks : LacksBefore l.row l.class-index l.b;
}
