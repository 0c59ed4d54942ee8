-- The faults of what is in force, one after another.
use Rattle.std.specs.Prelude.{IfNone}
use Rattle.std.proofs.Common.{◌≡◌, inl, inr, subst, List, Option, Some, None}
use Rattle.lido_base.specs.declared.ids.StrId.{StrId}
use Rattle.lido_base.specs.Environment.{Environment}
use Rattle.lido_base.specs.Faults.{HasNone, First}
use Rattle.lido_base.proofs.FaultsLemmas.{at_place-none}
use Rattle.lido_syntax.specs.declared.fault.SpecFault.{SpecFault}
use Rattle.lido_syntax.specs.declared.fault.SpecFault.TheVariants as fault
use Rattle.lido_symbols.specs.FromText.{IsFromText}
use Rattle.kind_clashes.specs.KindClash.{IsKindClash}
use Rattle.table_faults.specs.Faults.{table_faults}
use Rattle.rule_tables.specs.declared.table.Tables.{Tables}
use Rattle.rule_tables.specs.Needs.{Tables as Numbered}
use Rattle.rule_tables.specs.TablesOf.{named_symbols, AreTablesOf}
use Rattle.rule_tables.specs.InForceFaults.{IsClassCycle, IsClashInherited, in_force_faults}
use Rattle.symbol_inherit.specs.BySymbols.{AreSymbols}
use Rattle.symbol_inherit.specs.Entries.{AreKnown}
use Rattle.symbol_inherit.specs.Missing.{IsMissingFault}
use Rattle.symbol_inherit.specs.Later.{IsLaterFault}
use Rattle.symbol_inherit.specs.declared.symbols.Symbols.{Symbols}
use Rattle.symbol_inherit.proofs.SingleLemmas.{single}

-- what is known of tables without faults
pub are-known : (env : Environment) (t : Tables) → AreTablesOf env t → IsFromText t.spec → (texts : Environment) → HasNone (table_faults t.spec texts) → (symbols : Symbols) → AreSymbols t symbols → AreKnown env t symbols
are-known env t is text texts none symbols its = record {
  tables = is;
  single = single t.spec texts text none;
  kinds = (texts, at_place-none (λ at. fault.KindClash at) (IsKindClash t.spec texts) none.1.1.1.0);
  symbols = its;
}

module _ (t : Tables) (T : Numbered t.spec) where
  pub later-missing : ((f : SpecFault) → ¬ IsClashInherited t.spec T f) → (found : Option SpecFault) → IsMissingFault t T found → IsLaterFault t T found
  later-missing none None missing = (none, (missing, tt))
  later-missing none (Some f) missing = inr (none, inl missing)

  pub all-none : ((f : SpecFault) → ¬ IsClassCycle t.spec T f) → IsLaterFault t T None → HasNone (in_force_faults t.spec T)
  all-none none later = (none, later)

  pub later-first : ((f : SpecFault) → ¬ IsClassCycle t.spec T f) → (f : SpecFault) → IsLaterFault t T (Some f) → First (in_force_faults t.spec T) f
  later-first none f later = inr (none, later)

  pub cycle-none : T.symbols ≡ named_symbols t → (cycle : Option (List StrId)) → cycle ≡ None
      → IfNone cycle ((T : Numbered t.spec) (f : SpecFault) → T.symbols ≡ named_symbols t → ¬ IsClassCycle t.spec T f) → (f : SpecFault) → ¬ IsClassCycle t.spec T f
  cycle-none same cycle e none f = subst (λ (o : Option (List StrId)). IfNone o ((T : Numbered t.spec) (f : SpecFault) → T.symbols ≡ named_symbols t → ¬ IsClassCycle t.spec T f)) e none T f same
