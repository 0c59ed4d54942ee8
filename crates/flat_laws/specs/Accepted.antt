-- What is known of a specification whose flat grammar is made.
use Rattle.std.specs.Prelude.{◌≡◌, ℕ, ◌<◌, ◌≤◌, ◌^◌, List, length, sum_by, Some, slice_get, All, Contains}
use Rattle.lido_base.specs.Environment.{Environment}
use Rattle.lido_base.specs.Faults.{HasNone}
use Rattle.lido_base.specs.Texts.{IsDistinctTexts}
use Rattle.lido_base.specs.declared.ids.SymId.{SymId}
use Rattle.lido_syntax.specs.declared.spec.Name.{Name}
use Rattle.lido_syntax.specs.declared.spec.RuleItem.{RuleItem}
use Rattle.lido_syntax.specs.declared.spec.Spec.{Spec}
use Rattle.lido_syntax.specs.Functions.{text_of}
use Rattle.lido_syntax.specs.Production.{name_of}
use Rattle.lido_symbols.specs.FromText.{IsFromText, all_names}
use Rattle.table_faults.specs.Faults.{table_faults}
use Rattle.flat_grammar.specs.declared.flat.FlatSymbol.{FlatSymbol}
use Rattle.flat_grammar.specs.declared.flat.FlatRule.{FlatRule}
use Rattle.flat_grammar.specs.declared.flat.Shape.{Shape}
use Rattle.flat_grammar.specs.Rules.{attrs_of, symbols_of}
use Rattle.rule_tables.specs.InForceFaults.{in_force_faults}
use Rattle.rule_tables.specs.Needs.{Tables, Needs, AreTables}
use Rattle.rule_tables.specs.Slots.{Slot, AreSlots}
use Rattle.rule_tables.specs.Flat.{IsFlat}

-- The specification was read from a text, and has no fault of its tables, which were made when there were these texts, and of its
-- computations in force.
pub record IsAccepted (spec : Spec) (early : Environment) (T : Tables spec) : Type 0 where
  pub from_text : IsFromText spec
  pub tables : HasNone (table_faults spec early)
  pub in_force : HasNone (in_force_faults spec T)

-- a text of one byte at least, without `$`
pub record IsWord (text : List ℕ) : Type 0 where
  pub some : 0 < length text
  pub no_dollar : Contains text 36 → ⊥

-- the id is that of such a text
pub record IsWordAt (env : Environment) (id : ℕ) : Type 0 where
  pub text : List ℕ
  pub there : slice_get env.texts id ≡ Some text
  pub word : IsWord text

-- Texts are different, the names of the specification are words, those of its rules too, and names have the texts that they had.
pub record AreNames (spec : Spec) (early env : Environment) : Type 0 where
  pub distinct : IsDistinctTexts env.texts
  pub names : (x : Name) → Contains (all_names spec) x → IsWordAt env (name_of x)
  pub rules : (r : RuleItem) → Contains spec.rules r → IsWordAt env r.name.0
  pub kept : (x : Name) → Contains (all_names spec) x → text_of early (name_of x) ≡ text_of env (name_of x)

-- Each symbol has at most 256 attributes, and each rule at most 1,024 attribute occurrences.
pub record AreFew (symbols : List FlatSymbol) (rules : List FlatRule) : Type 0 where
  pub attributes : All (λ (x : FlatSymbol). length x.attrs ≤ 256) symbols
  pub occurrences : All (λ (r : FlatRule). sum_by (λ (s : SymId). length (attrs_of symbols s)) (symbols_of r) ≤ 1024) rules

-- The grammar is the flat one of the specification, with these tables, needs and attributes. There are as few sets of INCLUDINGs as 64 bits number.
pub record IsFlattened (spec : Spec) (early env : Environment) (T : Tables spec) (needs : Needs spec T) (slots : ℕ → List Slot) (symbols : List FlatSymbol) (rules : List FlatRule) (shapes : List Shape) (root : SymId) : Type 0 where
  pub tables : AreTables spec T env
  pub accepted : IsAccepted spec early T
  pub names : AreNames spec early env
  pub ordered : AreSlots spec T needs slots
  pub grammar : IsFlat spec T needs slots env symbols rules shapes root
  pub few : AreFew symbols rules
  pub few_includings : length T.includings < 2 ^ 64
