use Rattle.std.proofs.Common.{inl, inr, ◌∙◌}
use Rattle.lido_syntax.specs.declared.fault.SpecFault.TheVariants as fault
use Rattle.table_faults.proofs.CheckLemmas.{found, not-found, one-root, other-roots}
use Rattle.table_faults.proofs.checks.check_names.Goals as goal

pub returns-in-Some-2-clause-err : goal.returns-in-Some-2-clause-err
returns-in-Some-2-clause-err c = inr (λ env texts. inr (
  not-found (λ at. fault.UnknownSymbol at) c.in_default.not-Some (c.in_ok-at.ensures env texts),
  inl (found (λ at. fault.DuplicateRule at) c.in-Some-2.is (c.in_ok-at-2.ensures env)),
))

pub returns-then-count-ne1-clause-err : goal.returns-then-count-ne1-clause-err
returns-then-count-ne1-clause-err c = inr (λ env texts. inr (
  not-found (λ at. fault.UnknownSymbol at) c.in_default.not-Some (c.in_ok-at.ensures env texts),
  inr (
    not-found (λ at. fault.DuplicateRule at) c.in_default-2.not-Some (c.in_ok-at-2.ensures env),
    inl (let (roots, are, e) = c.in_ok-count.ensures.roots env in other-roots c.args.spec.now env roots c.in_ok-count.count are e c.if-count-ne1.true),
  ),
))

pub returns-clause-ok : goal.returns-clause-ok
returns-clause-ok c = λ env texts. (
  not-found (λ at. fault.UnknownSymbol at) c.in_default.not-Some (c.in_ok-at.ensures env texts),
  (
    not-found (λ at. fault.DuplicateRule at) c.in_default-2.not-Some (c.in_ok-at-2.ensures env),
    (let (roots, are, e) = c.in_ok-count.ensures.roots env in one-root c.args.spec.now env roots are (e ∙ c.if-count-ne1.false), tt),
  ),
)
