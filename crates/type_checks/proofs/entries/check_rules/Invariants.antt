use Rattle.type_checks.specs.Checker.{texts_of}
use Rattle.type_checks.specs.Whole.{AreTypedBefore}
use Rattle.type_checks.proofs.entries.check_rules.Given as goal

-- the plain rules so far
abbrev pub invariant-loop-j : goal.invariant-loop-j
invariant-loop-j l = AreTypedBefore l.checker.tables.now (texts_of l.checker) l.all l.j
