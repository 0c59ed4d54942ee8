use Rattle.std.proofs.Common.{◌↔◌, take}
use Rattle.std.specs.Prelude.{IsBitSet, Contains}
use Rattle.lido_base.specs.declared.ids.AttrId.{AttrId}
use Rattle.flat_grammar.proofs.bits.Bits.of.Given as goal

abbrev pub invariant-loop-attr : goal.invariant-loop-attr
invariant-loop-attr l = (a : AttrId) → IsBitSet l.set a.0 ↔ Contains (take l.attr-index l.attrs) a
