use Rattle.std.proofs.Common.{◌≡◌, ◌∙◌, inl, inr, sym, subst, ap, arith}
use Rattle.std.specs.Prelude.{slice_get}
use Rattle.std.proofs.lemmas.Bool.{cases_lt}
use Rattle.flat_grammar.specs.declared.flat.FlatRule.{FlatRule}
use Rattle.flat_grammar.proofs.Lists.{held}
use Rattle.partitions.specs.RuleGraph.{IsRanked}
use Rattle.partitions.proofs.RankedLemmas.{all-peeled, front-acyclic, all-acyclic, each-ranked}
use Rattle.partitions.proofs.ExtendedLemmas.{rule-at}
use Rattle.partitions.proofs.parts.partition.Goals as goal

pub returns-in-Some-clause-circular : goal.returns-in-Some-clause-circular
returns-in-Some-clause-circular c = (
  c.index-as_slice-i.result,
  rule-at c.args.flat.now.rules c.as_slice.result.now c.loop-i.i c.index-as_slice-i.result c.as_slice.ensures (omega (arith, c.loop-i-test.true, c.len-i-end.ensures)) c.index-as_slice-i.is,
  rw c.in-Some.is at c.in_ok-rule_cycle.ensures.cycle,
  front-acyclic c.args.flat.now.symbols c.args.flat.now.rules c.loop-i.i c.loop-i.invariant,
)

pub loop-i-preserved : goal.loop-i-preserved
loop-i-preserved c = λ j r l at. elim (cases_lt j c.loop-i.i) [
  | inl before ↦ c.loop-i.invariant j r before at
  | inr g ↦
      let same : j ≡ c.loop-i.i = omega arith in
      let rule = rule-at c.args.flat.now.rules c.as_slice.result.now c.loop-i.i c.index-as_slice-i.result c.as_slice.ensures (omega (arith, c.loop-i-test.true, c.len-i-end.ensures)) c.index-as_slice-i.is in
      subst (λ (z : FlatRule). IsRanked c.args.flat.now.symbols c.args.flat.now.rules z) (held (sym rule ∙ ap (λ k. slice_get c.args.flat.now.rules k) (sym same) ∙ at)) (rw c.in-None.is at c.in_ok-rule_cycle.ensures.ranked)
]

pub returns-clause-visits : goal.returns-clause-visits
returns-clause-visits c = c.in_ok-parts.ensures.visits (λ x. all-peeled c.args.flat.now.symbols c.args.flat.now.rules c.args.flat.now.well_formed.each_rule x (c.in_ok-parts.ensures.last x)
    (each-ranked c.args.flat.now.symbols c.args.flat.now.rules c.loop-i.i (omega (arith, c.loop-i-test.false, c.len-i-end.ensures)) c.loop-i.invariant))

pub returns-clause-ordered : goal.returns-clause-ordered
returns-clause-ordered c = all-acyclic c.args.flat.now.symbols c.args.flat.now.rules c.loop-i.i (omega (arith, c.loop-i-test.false, c.len-i-end.ensures)) c.loop-i.invariant
