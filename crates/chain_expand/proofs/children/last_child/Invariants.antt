use Rattle.std.proofs.Common.{◌≡◌, map, take}
use Rattle.lido_base.specs.declared.ids.SymId.{SymId as Symbol}
use Rattle.least_paths.specs.Graph.{is_in}
use Rattle.rule_tables.specs.Shares.{last_of}
use Rattle.chain_expand.proofs.FrontLemmas.{places_from}
use Rattle.chain_expand.proofs.children.last_child.Given as goal

-- the children so far
abbrev pub invariant-loop-k : goal.invariant-loop-k
invariant-loop-k l = l.last ≡ last_of (places_from (is_in l.needs) 1 (take l.k (map (λ (s : Symbol). s.0) l.right)))
