use Rattle.std.specs.Prelude.{take}
use Rattle.std.specs.List.{AllZip}
use Rattle.flat_grammar.specs.Construction.{IsConstructed}
use Rattle.visit_sequences.proofs.plan.all_sequences.Given as goal

-- the rules so far have their sequences
abbrev pub invariant-loop-rule : goal.invariant-loop-rule
invariant-loop-rule l = AllZip (IsConstructed l.flat.symbols l.flat.rules l.parts.visits) (take l.rule-index l.flat.rules) l.seqs.items
