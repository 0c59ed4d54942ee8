-- Tables of a specification that has no fault of its tables over the texts that were there before are small.
use Rattle.std.specs.Prelude.{nat_eq}
use Rattle.std.proofs.Common.{◌≤◌, length, refl, sym, subst, arith}
use Rattle.lido_base.specs.Environment.{Environment}
use Rattle.lido_base.specs.Faults.{HasNone}
use Rattle.lido_base.specs.Texts.{Gains}
use Rattle.lido_symbols.specs.Numbers.{AreNumbered}
use Rattle.lido_symbols.specs.Uses.{symbol_uses}
use Rattle.table_faults.specs.Faults.{table_faults}
use Rattle.rule_tables.specs.declared.table.Tables.{Tables}
use Rattle.rule_tables.specs.RuleNames.{HasIds}
use Rattle.rule_tables.specs.TablesOf.{AreTablesOf, named_symbols}
use Rattle.rule_tables.proofs.TableLemmas.{list-count}
use Rattle.rule_tables.proofs.LaterUses.{uses-later}
use Rattle.rule_tables.proofs.LimitLemmas.{few-symbols}

module _ (env later : Environment) (t : Tables) (ids : HasIds env.texts t.spec) (gains : Gains env.texts later.texts)
    (none : HasNone (table_faults t.spec env)) (tables : AreTablesOf later t) where
  pub few-rows : length t.symbols ≤ 512
  few-rows =
      let same = uses-later t.spec env.texts env later ids refl gains in
      let numbered : AreNumbered nat_eq (symbol_uses t.spec env) (named_symbols t) = subst (λ u. AreNumbered nat_eq u (named_symbols t)) (sym same) tables.numbers in
      omega (arith, few-symbols t.spec env none (named_symbols t) numbered, tables.count, list-count 0 t.spec.rules)
