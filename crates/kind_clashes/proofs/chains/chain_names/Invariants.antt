use Rattle.std.proofs.Common.{◌≡◌, map, take}
use Rattle.lido_syntax.specs.declared.spec.Typed1.{Typed1}
use Rattle.kind_clashes.proofs.chains.chain_names.Given as goal

abbrev pub invariant-loop-chain : goal.invariant-loop-chain
invariant-loop-chain l = l.names.items ≡ map (λ (x : Typed1). x.name) (take l.chain-index l.chains)
