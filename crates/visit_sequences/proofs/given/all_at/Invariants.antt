use Rattle.std.specs.Prelude.{Contains, take}
use Rattle.std.proofs.Common.{◌≡◌}
use Rattle.flat_grammar.specs.declared.flat.Occ.{Occ}
use Rattle.visit_sequences.proofs.given.all_at.Given as goal

-- the attributes so far are among those given
abbrev pub invariant-loop-attr : goal.invariant-loop-attr
invariant-loop-attr l = (u : Occ) → u.occ ≡ l.fn.occ → Contains (take l.attr-index l.attrs) u.attr → Contains l.given.items u
