use Rattle.std.specs.Prelude.{slice_get}
use Rattle.std.proofs.Common.{◌≡◌, ◌<◌, ℕ, Some}
use Rattle.lido_syntax.specs.declared.spec.Typed1.{Typed1}
use Rattle.lido_syntax.specs.Production.{name_of}
use Rattle.chain_expand.specs.Needed.{HasNoPath}
use Rattle.chain_expand.proofs.faults.first_fault.Given as goal

-- the root needs none of the chains so far
abbrev pub invariant-loop-chain : goal.invariant-loop-chain
invariant-loop-chain l = (j : ℕ) (other : Typed1) → j < l.chain-index → slice_get l.forced.tables.spec.chains j ≡ Some other → HasNoPath l.forced (name_of other.name)
