use Rattle.std.specs.Prelude.{Contains, take, IsBitSet, ◌↔◌}
use Rattle.std.proofs.Common.{◌<◌}
use Rattle.lido_base.specs.declared.ids.AttrId.{AttrId}
use Rattle.visit_sequences.proofs.bits.members.Given as goal

-- the set has what was looked at
abbrev pub invariant-loop-attr : goal.invariant-loop-attr
invariant-loop-attr l = (a : AttrId) → IsBitSet l.set a.0 ↔ ((a.0 < 256) × Contains (take l.attr-index l.attrs) a)
