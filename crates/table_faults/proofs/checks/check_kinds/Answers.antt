use Rattle.std.proofs.Common.{sym, ◌∙◌}
use Rattle.std.proofs.lemmas.Option.{none-some}
use Rattle.lido_syntax.specs.declared.fault.SpecFault.TheVariants as fault
use Rattle.table_faults.proofs.CheckLemmas.{not-found}
use Rattle.table_faults.proofs.checks.check_kinds.Goals as goal

pub returns-in-None-clause-ok : goal.returns-in-None-clause-ok
returns-in-None-clause-ok c = λ env texts. (not-found (λ at. fault.KindClash at) (λ at e. none-some at (sym c.in-None.is ∙ e)) (c.in_ok-at.ensures env texts), tt)
