use Rattle.std.proofs.Common.{inl, inr}
use Rattle.table_faults.proofs.LimitsLemmas.{no-symbols, no-rules, no-elements, no-computations, some-symbols, some-rules, some-elements, some-computations, rules-of, elements-of}
use Rattle.table_faults.proofs.limits.too_many.Goals as goal

pub returns-then-branch-clause-some : goal.returns-then-branch-clause-some
returns-then-branch-clause-some c = λ env texts what e. inl (some-symbols c.args.spec.now env (c.in_ok-has_many_symbols.ensures env texts) c.if-branch.true what e)

pub returns-then-branch-2-clause-some : goal.returns-then-branch-2-clause-some
returns-then-branch-2-clause-some c = λ env texts what e. inr (
  no-symbols c.args.spec.now env (c.in_ok-has_many_symbols.ensures env texts) c.if-branch.false,
  inl (some-rules c.args.spec.now env (rules-of c.args.spec.now env c.as_slice-rules.ensures (c.in_ok-has_many_rules.ensures c.args.spec.now env)) c.if-branch-2.true what e),
)

pub returns-then-branch-3-clause-some : goal.returns-then-branch-3-clause-some
returns-then-branch-3-clause-some c = λ env texts what e. inr (
  no-symbols c.args.spec.now env (c.in_ok-has_many_symbols.ensures env texts) c.if-branch.false,
  inr (
    no-rules c.args.spec.now env (rules-of c.args.spec.now env c.as_slice-rules.ensures (c.in_ok-has_many_rules.ensures c.args.spec.now env)) c.if-branch-2.false,
    inl (some-elements c.args.spec.now env (elements-of c.args.spec.now env c.as_slice-rules.ensures c.in_ok-has_long_rule.ensures) c.if-branch-3.true what e),
  ),
)

pub returns-then-branch-4-clause-some : goal.returns-then-branch-4-clause-some
returns-then-branch-4-clause-some c = λ env texts what e. inr (
  no-symbols c.args.spec.now env (c.in_ok-has_many_symbols.ensures env texts) c.if-branch.false,
  inr (
    no-rules c.args.spec.now env (rules-of c.args.spec.now env c.as_slice-rules.ensures (c.in_ok-has_many_rules.ensures c.args.spec.now env)) c.if-branch-2.false,
    inr (
      no-elements c.args.spec.now env (elements-of c.args.spec.now env c.as_slice-rules.ensures c.in_ok-has_long_rule.ensures) c.if-branch-3.false,
      inl (some-computations c.args.spec.now env c.in_ok-has_many_computations.ensures c.if-branch-4.true what e),
    ),
  ),
)

pub returns-else-branch-4-clause-none : goal.returns-else-branch-4-clause-none
returns-else-branch-4-clause-none c = λ env texts none. (
  no-symbols c.args.spec.now env (c.in_ok-has_many_symbols.ensures env texts) c.if-branch.false,
  (
    no-rules c.args.spec.now env (rules-of c.args.spec.now env c.as_slice-rules.ensures (c.in_ok-has_many_rules.ensures c.args.spec.now env)) c.if-branch-2.false,
    (
      no-elements c.args.spec.now env (elements-of c.args.spec.now env c.as_slice-rules.ensures c.in_ok-has_long_rule.ensures) c.if-branch-3.false,
      (no-computations c.args.spec.now env c.in_ok-has_many_computations.ensures c.if-branch-4.false, tt),
    ),
  ),
)
