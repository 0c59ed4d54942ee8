use Rattle.std.proofs.Common.{◌≡◌, ◌<◌, ℕ, get_or}
use Rattle.flat_grammar.specs.declared.flat.FlatComp.{FlatComp}
use Rattle.region_engine.proofs.sites.computation.Given as goal

-- no computation so far is of the goal
abbrev pub invariant-loop-comp : goal.invariant-loop-comp
invariant-loop-comp l = (k : ℕ) (d : FlatComp) → k < l.comp-index → (get_or l.rule.comps k d).goal ≡ l.goal → ⊥
