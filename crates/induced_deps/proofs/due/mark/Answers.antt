use Rattle.std.proofs.Common.{subst, sym, arith}
use Rattle.std.proofs.lemmas.List.{take_all, length-set}
use Rattle.std.specs.Prelude.{Contains, ◌<◌, length, slice_index_or, slice_set, true}
use Rattle.std.proofs.Common.{◌∙◌, inl, inr}
use Rattle.induced_deps.specs.Due.{IsDue}
use Rattle.flat_grammar.proofs.Lists.{contains_at, take_cases}
use Rattle.induced_deps.proofs.DueLemmas.{due_here, due_still}
use Rattle.induced_deps.proofs.due.mark.Goals as goal

pub bounds-flags-rule : goal.bounds-flags-rule
bounds-flags-rule c =
    let inside = c.requires (slice_index_or c.args.rules.now c.loop-rule.rule-index 0) (contains_at c.args.rules.now c.loop-rule.rule-index 0 c.loop-rule-test.true) in
    let size = c.loop-rule.invariant.size in
    omega arith

pub loop-rule-preserved : goal.loop-rule-preserved
loop-rule-preserved c =
    let l = c.loop-rule in
    let rule = slice_index_or c.args.rules.now l.rule-index 0 in
    let size = l.invariant.size in
    let asked = c.requires rule (contains_at c.args.rules.now l.rule-index 0 c.loop-rule-test.true) in
    let inside : rule < length l.flags = omega arith in
    record {
      size = length-set l.flags rule _ ∙ size;
      kept = λ k h. due_still l.flags rule k inside (l.invariant.kept k h);
      marked = λ k h. elim (take_cases c.args.rules.now l.rule-index 0 k c.loop-rule-test.true h) [
        | inl before ↦ due_still l.flags rule k inside (l.invariant.marked k before)
        | inr here ↦ subst (λ n. IsDue (slice_set l.flags rule true) n) here (due_here l.flags rule inside)
      ];
    }

pub returns-clause-marked : goal.returns-clause-marked
returns-clause-marked c = λ k h. c.loop-rule.invariant.marked k (subst (λ rs. Contains rs k) (sym (take_all c.loop-rule.rule-index c.args.rules.now (omega (arith, c.loop-rule.auto.rule-index-end, c.loop-rule-test.false)))) h)
