-- The entries of a plain rule, as they are filled in their order.
use Rattle.std.specs.Prelude.{◌≡◌, ℕ, length, zero, suc, ◌+◌, ◌<◌, ◌⊎◌, Bool, true, false, MatchOption, List, [], Option, Some, None, slice_get, option_map, option_to_list, AllPairs, Contains}
use Rattle.lido_base.specs.Environment.{Environment}
use Rattle.lido_base.specs.declared.ids.StrId.{StrId}
use Rattle.lido_base.specs.declared.ids.SymId.{SymId}
use Rattle.flat_grammar.specs.declared.flat.FlatAttr.{FlatAttr}
use Rattle.lido_syntax.specs.declared.spec.RuleItem.{RuleItem}
use Rattle.lido_syntax.specs.declared.spec.Comp.{Comp}
use Rattle.lido_syntax.specs.declared.spec.Target.TheVariants as target
use Rattle.lido_syntax.specs.Production.{CanStandAt}
use Rattle.lido_syntax.specs.Completeness.{IsSingle}
use Rattle.kind_clashes.specs.KindClash.{IsKindClash}
use Rattle.rule_tables.specs.declared.table.Tables.{Tables}
use Rattle.rule_tables.specs.declared.table.SymbolRow.{SymbolRow}
use Rattle.rule_tables.specs.declared.forced.Force.{Force as Entry}
use Rattle.rule_tables.specs.declared.forced.Goal.{Goal}
use Rattle.rule_tables.specs.declared.forced.Goal.TheVariants as goal
use Rattle.rule_tables.specs.PlainRules.{PlainRule, symbol_at}
use Rattle.rule_tables.specs.Forced.{Force, IsForced, IsWrittenAt}
use Rattle.rule_tables.specs.ForcedOf.{IsEntryOf, IsEarlier, kind_of, number_in}
use Rattle.rule_tables.specs.TablesOf.{named_symbols, AreTablesOf}
use Rattle.symbol_inherit.specs.BySymbols.{AreSymbols}
use Rattle.computation_aims.specs.declared.aims.Way.{Way}
use Rattle.computation_aims.specs.declared.aims.Way.TheVariants as way
use Rattle.computation_aims.specs.declared.aims.Aim.{Aim}
use Rattle.symbol_inherit.specs.declared.symbols.Symbols.{Symbols}
use Rattle.symbol_inherit.specs.declared.forced.Held.{Held}

-- the entry of what is held for a goal at an occurrence
abbrev pub entry : ℕ → Goal → Held → Entry
entry o g held = record { occ = o; goal = g; context = held.context; number = held.number }

abbrev pub entries_of : ℕ → Goal → Option Held → List Entry
entries_of o g held = option_to_list (option_map (entry o g) held)

-- the attributes of the symbol with this number
abbrev pub attrs_of : Option SymbolRow → List FlatAttr
attrs_of None = []
attrs_of (Some row) = row.attrs

abbrev pub attrs_at : List SymbolRow → ℕ → List FlatAttr
attrs_at rows x = attrs_of (slice_get rows x)

-- the entry stands for something in force in the plain rule
abbrev pub IsEntry : Tables → PlainRule → Entry → Type 0
IsEntry t p e = (f : Force) × IsForced t.spec p f × IsEntryOf t p e f

-- the entry is of an earlier kind than k, or at an earlier occurrence than o, or has a smaller number than n
abbrev pub IsBelow : Entry → ℕ → ℕ → ℕ → Type 0
IsBelow e k o n = (kind_of e.goal < k) ⊎ ((kind_of e.goal ≡ k) × ((e.occ < o) ⊎ ((e.occ ≡ o) × (number_in e.goal < n))))

-- the entries of the plain rule that are below this, in order
pub record AreUpTo (t : Tables) (p : PlainRule) (k o n : ℕ) (entries : List Entry) : Type 0 where
  pub each : (e : Entry) → Contains entries e → IsEntry t p e × IsBelow e k o n
  pub all : (e : Entry) → IsEntry t p e → IsBelow e k o n → Contains entries e
  pub in_order : AllPairs IsEarlier entries

-- what is known of tables and of their symbols
pub record AreKnown (env : Environment) (t : Tables) (its : Symbols) : Type 0 where
  pub tables : AreTablesOf env t
  pub single : IsSingle t.spec
  pub kinds : (texts : Environment) × ((at : ℕ) → ¬ IsKindClash t.spec texts at)
  pub symbols : AreSymbols t its

-- the occurrence of the plain rule, which is one of this written rule, has this symbol, with this number
pub record IsOccurrenceOf (t : Tables) (p : PlainRule) (r : RuleItem) (o s x : ℕ) : Type 0 where
  pub of_rule : slice_get t.spec.rules p.rule ≡ Some r
  pub written : IsWrittenAt r p.role o s
  pub stands : CanStandAt r o s
  pub at : symbol_at p o ≡ Some x
  pub number : slice_get (named_symbols t) x ≡ Some s

-- an attribute of an occurrence as what is given a value to
abbrev pub attribute_aim : ℕ → StrId → Aim
attribute_aim zero name = record { way = way.Synthesized; name = name }
attribute_aim (suc k) name = record { way = way.Inherited; name = name }

-- a chain's start, or what is behind it
abbrev pub chain_way : Bool → Way
chain_way false = way.Start
chain_way true = way.Behind

abbrev pub chain_goal : Bool → ℕ → Goal
chain_goal false i = goal.Start i
chain_goal true i = goal.Behind i

abbrev pub chain_kind : Bool → ℕ
chain_kind false = 1
chain_kind true = 2

-- the rule's output, if it has one
abbrev pub IsOutOf : List Comp → Option Held → Type 0
IsOutOf body held = MatchOption held ((c : Comp) → Contains body c → c.target ≡ target.Out → ⊥)
    (λ h. (c : Comp) × Contains body c × (c.target ≡ target.Out) × (h ≡ record { context = 0; number = c.number }))

-- the symbols of the right side are these
abbrev pub HasRightSide : Tables → PlainRule → RuleItem → List SymId → Type 0
HasRightSide t p r right = (k : ℕ) (x : SymId) → slice_get right k ≡ Some x → (s : ℕ) × IsOccurrenceOf t p r (k + 1) s x.0

-- a plain rule of this written rule whose symbols, those of its goals, are these
pub record IsRuleWith (t : Tables) (p : PlainRule) (r : RuleItem) (left : SymId) (right : List SymId) : Type 0 where
  pub at_left : (s : ℕ) × IsOccurrenceOf t p r 0 s left.0
  pub at_right : HasRightSide t p r right
  pub last : (o s : ℕ) → IsWrittenAt r p.role o s → o < length right + 1
