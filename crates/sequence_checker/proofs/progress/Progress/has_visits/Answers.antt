use Rattle.std.proofs.Common.{◌∙◌, sym}
use Rattle.sequence_checker.specs.Faults.{is_visited}
use Rattle.sequence_checker.proofs.EndLemmas.{child-fails, child-passes, children-pass}
use Rattle.sequence_checker.proofs.progress.Progress.has_visits.Goals as goal

pub returns-then-not-is_visited : goal.returns-then-not-is_visited
returns-then-not-is_visited c = child-fails (is_visited c.args.symbols.now c.args.visits.now c.args.self.now) c.args.rule.now.right c.as_slice-symbol-items.result.now c.as_slice-symbol-items.ensures c.loop-k.k (record { 0 = 0 }) c.loop-k-test.true
    (sym c.is_visited.ensures ∙ c.if-not-is_visited.true)

pub loop-k-preserved : goal.loop-k-preserved
loop-k-preserved c = child-passes (is_visited c.args.symbols.now c.args.visits.now c.args.self.now) c.args.rule.now.right c.as_slice-symbol-items.result.now c.as_slice-symbol-items.ensures c.loop-k.k (record { 0 = 0 }) c.loop-k.invariant
    (sym c.is_visited.ensures ∙ c.if-not-is_visited.false)

pub returns : goal.returns
returns c = children-pass (is_visited c.args.symbols.now c.args.visits.now c.args.self.now) c.args.rule.now.right c.as_slice-symbol-items.result.now c.as_slice-symbol-items.ensures c.loop-k.k c.loop-k.invariant c.loop-k-test.false
