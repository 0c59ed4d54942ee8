use Rattle.std.specs.Prelude.{flat_map}
use Rattle.std.proofs.Common.{◌≡◌, ◌++◌, ℕ, take}
use Rattle.lido_base.specs.declared.ids.SymId.{SymId}
use Rattle.lido_symbols.specs.Numbers.{enumerated}
use Rattle.chain_expand.specs.Comps.{front_comps}
use Rattle.chain_expand.proofs.comps.push_rule.Given as goal

-- the children so far
abbrev pub invariant-loop-j : goal.invariant-loop-j
invariant-loop-j l = l.comps.items ≡ l.initial.comps.items ++ flat_map (λ (y : ℕ × SymId). front_comps l.number l.walks y.0) (enumerated 0 (take l.j l.rule.right))
