use Rattle.std.proofs.Common.{inl, inr}
use Rattle.lido_syntax.specs.declared.fault.SpecFault.TheVariants as fault
use Rattle.table_faults.proofs.CheckLemmas.{found, not-found}
use Rattle.table_faults.proofs.checks.check_places.Goals as goal

pub returns-in-Some-2-clause-err : goal.returns-in-Some-2-clause-err
returns-in-Some-2-clause-err c = inr (λ env texts. inr (
  not-found (λ at. fault.BadIndex at) c.in_default.not-Some (c.in_ok-at.ensures env texts),
  inl (found (λ at. fault.DoubleComputation at) c.in-Some-2.is (c.in_ok-at-2.ensures env)),
))

pub returns-in-Some-least_bad_out-clause-err : goal.returns-in-Some-least_bad_out-clause-err
returns-in-Some-least_bad_out-clause-err c = inr (λ env texts. inr (
  not-found (λ at. fault.BadIndex at) c.in_default.not-Some (c.in_ok-at.ensures env texts),
  inr (
    not-found (λ at. fault.DoubleComputation at) c.in_default-2.not-Some (c.in_ok-at-2.ensures env),
    inl (found (λ at. fault.BadOut at) c.in-Some-least_bad_out.is (c.least_bad_out.ensures env)),
  ),
))

pub returns-clause-ok : goal.returns-clause-ok
returns-clause-ok c = λ env texts. (
  not-found (λ at. fault.BadIndex at) c.in_default.not-Some (c.in_ok-at.ensures env texts),
  (
    not-found (λ at. fault.DoubleComputation at) c.in_default-2.not-Some (c.in_ok-at-2.ensures env),
    (not-found (λ at. fault.BadOut at) c.in_default-least_bad_out.not-Some (c.least_bad_out.ensures env), tt),
  ),
)
