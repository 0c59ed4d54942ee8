use Rattle.std.proofs.Common.{◌≡◌, ◌++◌, take}
use Rattle.chain_expand.specs.Attrs.{symbol_attrs}
use Rattle.chain_expand.proofs.attrs.push_symbol.Given as goal

-- the chains so far
abbrev pub invariant-loop-i : goal.invariant-loop-i
invariant-loop-i l = l.attrs.items ≡ l.initial.attrs.items ++ symbol_attrs l.needs (take l.i l.chains) l.symbol
