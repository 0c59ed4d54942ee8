-- The computations in force as the tables hold them, entry by entry.
use Rattle.std.specs.Prelude.{◌≡◌, ℕ, ◌<◌, ◌⊎◌, List, Some, slice_get, AllPairs, Contains}
use Rattle.std.specs.List.{AllZip}
use Rattle.lido_base.specs.declared.ids.AttrId.{AttrId}
use Rattle.lido_base.specs.Environment.{Environment}
use Rattle.flat_grammar.specs.declared.flat.FlatAttr.{FlatAttr}
use Rattle.lido_syntax.specs.declared.spec.Typed1.{Typed1}
use Rattle.lido_syntax.specs.Production.{name_of}
use Rattle.lido_syntax.specs.Computation as written
use Rattle.rule_tables.specs.declared.table.Tables.{Tables as Rows}
use Rattle.rule_tables.specs.declared.table.SymbolRow.{SymbolRow}
use Rattle.rule_tables.specs.declared.forced.Forced.{Forced}
use Rattle.rule_tables.specs.declared.forced.Force.{Force as Entry}
use Rattle.rule_tables.specs.declared.forced.Goal.{Goal}
use Rattle.rule_tables.specs.declared.forced.Goal.TheVariants as goal
use Rattle.rule_tables.specs.PlainRules.{PlainRule, plain_rules, symbol_at}
use Rattle.rule_tables.specs.Forced.{Force, context_of, IsForced}
use Rattle.rule_tables.specs.Needs.{Tables, AreTables}
use Rattle.rule_tables.specs.TablesOf.{named_symbols, AreTablesOf}

-- the attribute of that number in the row of the symbol
abbrev pub IsAttributeAt : Rows → ℕ → AttrId → ℕ → Type 0
IsAttributeAt t x id a = (row : SymbolRow) × (attr : FlatAttr) × (slice_get t.symbols x ≡ Some row) × (slice_get row.attrs id.0 ≡ Some attr) × (attr.name.0 ≡ a)

-- the chain that is declared at this place
abbrev pub IsChainAt : Rows → ℕ → ℕ → Type 0
IsChainAt t i c = (d : Typed1) × (slice_get t.spec.chains i ≡ Some d) × (name_of d.name ≡ c)

-- the goal at an occurrence with this symbol
abbrev pub IsGoalAs : Rows → ℕ → Goal → written.Goal → Type 0
IsGoalAs t x (goal.Attr id) (written.Synthesized a) = IsAttributeAt t x id a
IsGoalAs t x (goal.Attr id) (written.Inherited a) = IsAttributeAt t x id a
IsGoalAs t x (goal.Start i) (written.Start c) = IsChainAt t i c
IsGoalAs t x (goal.Behind i) (written.Behind c) = IsChainAt t i c
IsGoalAs t x goal.Out written.Output = Unit {0}
IsGoalAs t x (goal.Message j) (written.Message k) = j ≡ k
IsGoalAs t x _ _ = ⊥

-- an entry stands for a computation in force in the plain rule
pub record IsEntryOf (t : Rows) (p : PlainRule) (e : Entry) (f : Force) : Type 0 where
  pub occ : e.occ ≡ f.occ
  pub symbol : ℕ
  pub at : symbol_at p e.occ ≡ Some symbol
  pub goal : IsGoalAs t symbol e.goal f.goal
  pub context : e.context ≡ context_of f
  pub number : e.number ≡ f.comp.number

-- the order of entries: attributes by occurrence, starts of chains, what is behind, the output, messages, each by number
abbrev pub kind_of : Goal → ℕ
kind_of (goal.Attr id) = 0
kind_of (goal.Start i) = 1
kind_of (goal.Behind i) = 2
kind_of goal.Out = 3
kind_of (goal.Message j) = 4

abbrev pub number_in : Goal → ℕ
number_in (goal.Attr id) = id.0
number_in (goal.Start i) = i
number_in (goal.Behind i) = i
number_in goal.Out = 0
number_in (goal.Message j) = j

abbrev pub IsEarlier : Entry → Entry → Type 0
IsEarlier e f = (kind_of e.goal < kind_of f.goal)
    ⊎ ((kind_of e.goal ≡ kind_of f.goal) × ((e.occ < f.occ) ⊎ ((e.occ ≡ f.occ) × (number_in e.goal < number_in f.goal))))

-- The entries of a plain rule: one for each computation in force in it, in order.
pub record AreEntriesOf (t : Rows) (p : PlainRule) (entries : List Entry) : Type 0 where
  pub each : (e : Entry) → Contains entries e → (f : Force) × IsForced t.spec p f × IsEntryOf t p e f
  pub all : (f : Force) → IsForced t.spec p f → (e : Entry) × Contains entries e × IsEntryOf t p e f
  pub in_order : AllPairs IsEarlier entries

-- The tables with what is in force in each of their plain rules.
pub record AreForcedOf (env : Environment) (forced : Forced) : Type 0 where
  pub tables : AreTablesOf env forced.tables
  pub entries : AllZip (AreEntriesOf forced.tables) (plain_rules forced.tables.spec (named_symbols forced.tables)) forced.comps

-- The numbers of the specification are those of the tables, and in force is what they hold.
pub record AreNumbersOf (env : Environment) (forced : Forced) (T : Tables forced.tables.spec) : Type 0 where
  pub numbers : AreTables forced.tables.spec T env
  pub symbols : T.symbols ≡ named_symbols forced.tables
