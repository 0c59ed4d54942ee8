use Rattle.std.proofs.Common.{[], refl, sym, subst}
use Rattle.std.proofs.lemmas.Result.{err_from_is_err_and}
use Rattle.lido_base.specs.Environment.{Environment}
use Rattle.lido_base.specs.Faults.{HasNone}
use Rattle.lido_syntax.specs.declared.spec.Spec.{Spec}
use Rattle.table_faults.specs.Faults.{table_faults}
use Rattle.rule_tables.specs.RuleNames.{HasIds}
use Rattle.rule_tables.proofs.CheckedLemmas.{few-rows}
use Rattle.rule_tables.proofs.assembly.tables.Goals as goal

pub returns-in_err-check-clause-err : goal.returns-in_err-check-clause-err
returns-in_err-check-clause-err c =
    let p = err_from_is_err_and c.from_residual.result c.from_residual.ensures.1 in
    rw (p.1, p.2) c.in_err-check.ensures.err

pub returns-clause-few : goal.returns-clause-few
returns-clause-few c =
    let texts = c.args.strings.now in
    let old : Environment = record { texts = texts; patterns = [] } in
    let new : Environment = record { texts = c.tables_of.new.strings; patterns = [] } in
    let same = c.in_ok-tables.ensures.of_spec in
    few-rows old new c.in_ok-tables.tables
    (subst (HasIds texts) (sym same) c.requires.ids)
    c.in_ok-tables.ensures.kept
    (subst (λ (spec : Spec). HasNone (table_faults spec old)) (sym same) (c.in_ok-check.ensures.ok old refl))
    (c.in_ok-tables.ensures.tables new refl)
