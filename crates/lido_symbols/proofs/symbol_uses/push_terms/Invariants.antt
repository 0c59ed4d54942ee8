use Rattle.std.proofs.Common.{◌≡◌, ◌++◌, map, take}
use Rattle.lido_syntax.specs.declared.spec.Typed1.{Typed1 as Typed}
use Rattle.lido_symbols.proofs.symbol_uses.push_terms.Given as goal

abbrev pub invariant-loop-term : goal.invariant-loop-term
invariant-loop-term l = l.names.items ≡ l.initial.names.items ++ map (λ (x : Typed). x.name) (take l.term-index l.terms)
