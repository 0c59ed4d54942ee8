-- The symbols of the flat grammar.
use Rattle.std.specs.Prelude.{◌≡◌, ℕ, ◌+◌, ◌<◌, List, length, Some, None, slice_get, codes, ◌++◌}
use Rattle.std.specs.List.{AllZip}
use Rattle.lido_base.specs.Environment.{Environment}
use Rattle.lido_base.specs.Faults.{HasNone}
use Rattle.lido_base.specs.Texts.{Gains}
use Rattle.lido_base.specs.declared.kinds.Many.TheVariants as many
use Rattle.lido_syntax.specs.declared.spec.Spec.{Spec}
use Rattle.lido_syntax.specs.declared.spec.RuleItem.{RuleItem}
use Rattle.lido_syntax.specs.declared.fault.SpecFault.{SpecFault}
use Rattle.lido_syntax.specs.declared.fault.SpecFault.TheVariants as fault
use Rattle.lido_syntax.specs.Functions.{text_of}
use Rattle.flat_grammar.specs.declared.flat.FlatSymbol.{FlatSymbol}
use Rattle.table_faults.specs.Faults.{table_faults}
use Rattle.rule_tables.specs.declared.extra.Extra.{Extra}
use Rattle.rule_tables.specs.declared.forced.Forced.{Forced}
use Rattle.rule_tables.specs.ExtraOf.{IsExtra, IsOfIncluding, IsOfConstituents}
use Rattle.rule_tables.specs.Flat.{IsAttribute, IsSymbolType}
use Rattle.rule_tables.specs.ForcedOf.{AreForcedOf, AreNumbersOf}
use Rattle.rule_tables.specs.Needs.{Tables, Needs}
use Rattle.rule_tables.specs.PlainRules.{lists}
use Rattle.rule_tables.specs.Shares.{IncludingShare, ConstituentsShare}
use Rattle.rule_tables.specs.Slots.{Slot, AreSlots}
use Rattle.need_graphs.specs.Clear.{AreClear}
use Rattle.flat_slots.specs.declared.table.SlotTable.{SlotTable}
use Rattle.flat_slots.specs.Slots.{slots_in}

-- a symbol has more attributes than may be
abbrev pub IsTooManyAttributes : (ℕ → List Slot) → SpecFault → Type 0
IsTooManyAttributes slots f = ((x : ℕ) × (256 < length (slots x))) × (f ≡ fault.TooMany many.Attributes)

-- The symbols of the flat grammar, cells behind the others: their names, types and attributes are those of the definition.
pub record AreSymbols (spec : Spec) (T : Tables spec) (needs : Needs spec T) (slots : ℕ → List Slot) (env : Environment)
    (symbols : List FlatSymbol) : Type 0 where
  pub count : length symbols ≡ length T.symbols + length (lists spec T.symbols)
  pub attributes : (x : ℕ) (y : FlatSymbol) → slice_get symbols x ≡ Some y → AllZip (IsAttribute spec T needs slots env x) (slots x) y.attrs
  pub named : (x s : ℕ) (y : FlatSymbol) → slice_get T.symbols x ≡ Some s → slice_get symbols x ≡ Some y
      → (y.name.0 ≡ s) × IsSymbolType spec T needs slots env s y.terminal
  pub cells : (k i : ℕ) (r : RuleItem) (y : FlatSymbol) → slice_get (lists spec T.symbols) k ≡ Some i → slice_get spec.rules i ≡ Some r
      → slice_get symbols (length T.symbols + k) ≡ Some y
      → (text_of env y.name.0 ≡ codes "$" ++ text_of env r.name.0) × (y.terminal ≡ None)

-- They are the symbols of the flat grammar of the specification, over these texts, and over these with more behind them.
abbrev pub AreSymbolsOf : Forced → Extra → Extra → SlotTable → List (List ℕ) → List FlatSymbol → Type 0
AreSymbolsOf forced including constituents table texts symbols = (early env : Environment) (T : Tables forced.tables.spec)
    (needs : Needs forced.tables.spec T) → Gains texts env.texts
    → AreForcedOf env forced → AreNumbersOf env forced T → AreClear forced.tables.spec → HasNone (table_faults forced.tables.spec early)
    → IsExtra forced.tables T needs IsOfIncluding (IncludingShare forced.tables.spec T needs) including
    → IsExtra forced.tables T needs IsOfConstituents (ConstituentsShare forced.tables.spec T needs) constituents
    → AreSlots forced.tables.spec T needs (slots_in table)
    → AreSymbols forced.tables.spec T needs (slots_in table) env symbols
