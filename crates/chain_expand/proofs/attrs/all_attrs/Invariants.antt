use Rattle.std.proofs.Common.{◌≡◌, take}
use Rattle.chain_expand.specs.Attrs.{all_attrs}
use Rattle.chain_expand.proofs.attrs.all_attrs.Given as goal

-- the symbols so far
abbrev pub invariant-loop-x : goal.invariant-loop-x
invariant-loop-x l = l.attrs.items ≡ all_attrs l.needs l.chains (take l.x l.rows)
