use Rattle.std.proofs.Common.{Err}
use Rattle.sequence_checker.specs.declared.fault.CheckFault.TheVariants.{Unsound}
use Rattle.sequence_checker.proofs.VerdictLemmas.{judged, rows-wrong}
use Rattle.sequence_checker.proofs.verdict.check.Goals as goal

pub returns-then-not-branch : goal.returns-then-not-branch
returns-then-not-branch c = judged c.args.flat.now.symbols c.args.flat.now.rules c.args.plan.now.visits c.args.plan.now.seqs (Err (Unsound (record { 0 = 0 }) 0 0))
    (rows-wrong c.args.flat.now.symbols c.args.flat.now.rules c.args.plan.now.visits c.args.plan.now.seqs c.in_ok-has_rows.field-0 c.in_ok-has_rows.ensures c.if-not-branch.true)

pub returns : goal.returns
returns c = judged c.args.flat.now.symbols c.args.flat.now.rules c.args.plan.now.visits c.args.plan.now.seqs c.check_sequences.result c.check_sequences.ensures
