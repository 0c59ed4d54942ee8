use Rattle.std.specs.Prelude.{Contains, take}
use Rattle.flat_grammar.specs.declared.flat.Occ.{Occ}
use Rattle.visit_sequences.specs.Steps.{HasBit}
use Rattle.visit_sequences.proofs.progress.Progress.seen_from.Given as goal

-- those so far are at hand
abbrev pub invariant-loop-k : goal.invariant-loop-k
invariant-loop-k l = (u : Occ) → Contains (take l.k l.direct) u → HasBit l.self.at_hand.items u
