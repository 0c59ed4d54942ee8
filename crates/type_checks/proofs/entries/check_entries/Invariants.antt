use Rattle.type_checks.specs.Checker.{texts_of}
use Rattle.type_checks.specs.Whole.{AreTypedIn}
use Rattle.type_checks.proofs.entries.check_entries.Given as goal

-- the entries so far
abbrev pub invariant-loop-entry : goal.invariant-loop-entry
invariant-loop-entry l = AreTypedIn l.checker.tables.now (texts_of l.checker) l.j l.entries l.entry-index
