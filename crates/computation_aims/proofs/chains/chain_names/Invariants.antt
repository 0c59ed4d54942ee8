use Rattle.std.specs.Prelude.{IsTrue, map, ◌↔◌}
use Rattle.std.proofs.Common.{ℕ, take}
use Rattle.lido_base.specs.Tree.{contains}
use Rattle.lido_syntax.specs.declared.spec.Typed1.{Typed1}
use Rattle.lido_syntax.specs.Production.{name_of}
use Rattle.computation_aims.proofs.chains.chain_names.Given as goal

-- the chains so far
abbrev pub invariant-loop-chain : goal.invariant-loop-chain
invariant-loop-chain l = (c : ℕ) → IsTrue (contains c l.names) ↔ IsTrue (contains c (map (λ (x : Typed1). name_of x.name) (take l.chain-index l.spec.chains)))
