use Rattle.std.proofs.Common.{◌≡◌, ◌<◌, ℕ, Some, map, take, length}
use Rattle.std.specs.Prelude.{slice_get}
use Rattle.lido_base.specs.declared.ids.SymId.{SymId as Symbol}
use Rattle.least_paths.specs.Graph.{is_in}
use Rattle.rule_tables.specs.Shares.{last_of}
use Rattle.chain_expand.specs.Walks.{source_of, if_needed}
use Rattle.chain_expand.proofs.FrontLemmas.{places_from}
use Rattle.chain_expand.proofs.children.front_sources.Given as goal

-- the children so far
abbrev pub invariant-loop-k : goal.invariant-loop-k
invariant-loop-k l = record {
  size : length l.fronts.items ≡ l.k;
  last_one : l.last ≡ last_of (places_from (is_in l.needs) 1 (take l.k (map (λ (s : Symbol). s.0) l.right)));
  each : (j : ℕ) (s : Symbol) → j < l.k → slice_get l.right j ≡ Some s
      → slice_get l.fronts.items j ≡ Some (if_needed (is_in l.needs s.0) (source_of l.start (last_of (places_from (is_in l.needs) 1 (take j (map (λ (s : Symbol). s.0) l.right))))));
}
