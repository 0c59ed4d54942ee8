use Rattle.std.proofs.Common.{◌≡◌, ◌++◌, take}
use Rattle.constituents_expand.specs.Extras.{rule_comps}
use Rattle.constituents_expand.proofs.extras.push_rule.Given as goal

-- the CONSTITUENTS so far
abbrev pub invariant-loop-gathering : goal.invariant-loop-gathering
invariant-loop-gathering l = l.comps.items ≡ l.initial.comps.items ++ rule_comps (take l.gathering-index l.gatherings) l.whole (l.number, l.rule)
