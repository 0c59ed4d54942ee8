use Rattle.std.specs.Prelude.{Option}
use Rattle.std.proofs.Common.{ℕ, List, subst}
use Rattle.lido_syntax.specs.declared.spec.RuleItem.{RuleItem}
use Rattle.kind_clashes.specs.Least.{IsFirst}
use Rattle.table_faults.specs.Parts.{IsDuplicateIn}
use Rattle.table_faults.proofs.DuplicatesLemmas.{duplicate-is}
use Rattle.std.proofs.lemmas.Result.{IfOk-weaker}
use Rattle.lido_base.specs.Environment.{Environment}
use Rattle.table_faults.specs.Faults.{IsDuplicate}
use Rattle.table_faults.proofs.duplicates.least_duplicate.Goals as goal

pub returns : goal.returns
returns c = IfOk-weaker c.least_duplicate_in.result _ (λ (found : Option ℕ). (env : Environment) → IsFirst (IsDuplicate c.args.spec.now env) found)
    (λ found first env. duplicate-is c.args.spec.now env found (subst (λ (rules : List RuleItem). IsFirst (IsDuplicateIn rules) found) c.as_slice.ensures first)) c.least_duplicate_in.ensures
