use Rattle.std.specs.Prelude.{All, take}
use Rattle.lido_base.specs.declared.ids.AttrId.{AttrId}
use Rattle.visit_sequences.specs.Steps.{HasBit}
use Rattle.visit_sequences.proofs.progress.Progress.has_all.Given as goal

-- those so far are evaluated
abbrev pub invariant-loop-attr : goal.invariant-loop-attr
invariant-loop-attr l = All (λ (a : AttrId). HasBit l.self.evaluated.items (record { occ = l.occ; attr = a })) (take l.attr-index l.attrs)
