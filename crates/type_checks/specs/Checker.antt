-- What a checker knows of a specification.
use Rattle.std.specs.Prelude.{◌≡◌}
use Rattle.lido_base.specs.Environment.{Environment}
use Rattle.lido_base.specs.Faults.{HasNone}
use Rattle.lido_symbols.specs.FromText.{IsFromText}
use Rattle.table_faults.specs.Faults.{table_faults}
use Rattle.rule_tables.specs.PlainRules.{lists}
use Rattle.rule_tables.specs.TablesOf.{named_symbols, AreTablesOf}
use Rattle.numbered_computations.specs.Held.{AreComputationsOf}
use Rattle.leaf_types.specs.Types.{AreTypesOf}
use Rattle.expr_types.specs.Functions.{environment_of, AreFunctions}
use Rattle.type_checks.specs.declared.checker.Checker.{Checker}

abbrev pub texts_of : Checker → Environment
texts_of checker = environment_of checker.functions

pub record IsChecker (checker : Checker) : Type 0 where
  pub env : Environment
  pub tables : AreTablesOf env checker.tables.now
  pub text : IsFromText checker.tables.now.spec
  pub faults : HasNone (table_faults checker.tables.now.spec (texts_of checker))
  pub functions : AreFunctions checker.functions
  pub of_spec : checker.types.spec.now ≡ checker.tables.now.spec
  pub types : AreTypesOf checker.tables.now.spec checker.types
  pub computations : AreComputationsOf checker.tables.now.spec checker.computations
  pub lists : checker.lists.items ≡ lists checker.tables.now.spec (named_symbols checker.tables.now)
