-- Computations of what is computed before, as the code notes them.
use Rattle.std.specs.Prelude.{◌≡◌, ℕ, ◌<◌, IsTrue, if◌then◌else◌, List, [], flat_map, Option, Some, option_map, option_to_list, slice_get, Contains}
use Rattle.std.specs.HashMap as table
use Rattle.lido_syntax.specs.declared.spec.Name.{Name}
use Rattle.lido_syntax.specs.declared.spec.Comp.{Comp}
use Rattle.lido_syntax.specs.declared.spec.RuleItem.{RuleItem}
use Rattle.lido_syntax.specs.declared.spec.SymbolItem.{SymbolItem}
use Rattle.lido_syntax.specs.Production.{name_of}
use Rattle.lido_syntax.specs.Sets.{names_of}
use Rattle.computation_aims.specs.Aims.{aim_in_symbol, aim_in_rule}
use Rattle.computation_aims.specs.Keys.{key, is_same_key, is_same_aim}
use Rattle.computation_aims.specs.declared.aims.Aim.{Aim}
use Rattle.kind_clashes.specs.declared.names.Names.{Names}
use Rattle.kind_clashes.specs.Names.{has}
use Rattle.kind_clashes.specs.Least.{IsFirst, Among}
use Rattle.table_faults.specs.declared.doubles.Computed.{Computed}
use Rattle.table_faults.specs.declared.doubles.Firsts.{Firsts}

-- the least place that is kept for an aim
unfoldable pub first_at : Firsts → ℕ → Aim → Option ℕ
first_at firsts place aim = table.get is_same_key firsts.places (key place aim)

-- the computation gives a value to this, and its place
abbrev pub IsComputedAs : ℕ → Aim → Computed → ℕ → Type 0
IsComputedAs place aim c at = IsTrue (is_same_aim c.place c.aim place aim) × (at ≡ c.at)

-- for each aim the least place of these computations
abbrev pub AreFirsts : List Computed → Firsts → Type 0
AreFirsts all firsts = (place : ℕ) (aim : Aim) → IsFirst (Among (IsComputedAs place aim) all) (first_at firsts place aim)

-- one of the same stands in front of the computation at this place
abbrev pub IsLater : Firsts → Computed → ℕ → Type 0
IsLater firsts c at = (first : ℕ) × (first_at firsts c.place c.aim ≡ Some first) × (first < c.at) × (at ≡ c.at)

-- one of these computations behind another of the same
pub record IsDoubleIn (all : List Computed) (at : ℕ) : Type 0 where
  pub first : Computed
  pub second : Computed
  pub there : Contains all first
  pub behind : Contains all second
  pub same : IsTrue (is_same_aim first.place first.aim second.place second.aim)
  pub before : first.at < second.at
  pub place : at ≡ second.at

abbrev pub placed_in_rule : Comp → ℕ × Aim → Computed
placed_in_rule c p = record { place = p.0; aim = p.1; at = c.at }

abbrev pub computed_in_rule : List ℕ → RuleItem → Comp → Option Computed
computed_in_rule chains r c = option_map (placed_in_rule c) (aim_in_rule chains r c.target)

abbrev pub all_in_rule : List ℕ → RuleItem → List Computed
all_in_rule chains r = flat_map (λ (c : Comp). option_to_list (computed_in_rule chains r c)) r.body

abbrev pub placed_in_symbol : ℕ → Comp → Aim → Computed
placed_in_symbol s c aim = record { place = s; aim = aim; at = c.at }

abbrev pub computed_in_symbol : ℕ → Comp → Option Computed
computed_in_symbol s c = option_map (placed_in_symbol s c) (aim_in_symbol c.target)

abbrev pub all_in_body : ℕ → List Comp → List Computed
all_in_body s body = flat_map (λ (c : Comp). option_to_list (computed_in_symbol s c)) body

-- one of an item's computations behind another of the same: what holds of its first symbol holds of each
abbrev pub IsDoubleInItem : SymbolItem → ℕ → Type 0
IsDoubleInItem item at = (x : Name) × (slice_get item.names 0 ≡ Some x) × IsDoubleIn (all_in_body (name_of x) item.body) at

-- the name is in the set
abbrev pub IsSeen : Names → Name → ℕ → Type 0
IsSeen seen x s = IsTrue (has seen (name_of x)) × (name_of x ≡ s)

-- two of the items are about the symbol
pub record IsShared (items : List SymbolItem) (s : ℕ) : Type 0 where
  pub first : ℕ
  pub second : ℕ
  pub item : SymbolItem
  pub other : SymbolItem
  pub before : first < second
  pub there : slice_get items first ≡ Some item
  pub behind : slice_get items second ≡ Some other
  pub in_item : Contains (names_of item) s
  pub in_other : Contains (names_of other) s

abbrev pub all_if_shared : Names → List Comp → ℕ → List Computed
all_if_shared shared body s = if has shared s then all_in_body s body else []

abbrev pub all_in_item : Names → SymbolItem → List Computed
all_in_item shared item = flat_map (λ (x : Name). all_if_shared shared item.body (name_of x)) item.names

-- a symbol's computation behind another one of the same
pub record IsDoubleOfSymbol (items : List SymbolItem) (at : ℕ) : Type 0 where
  pub symbol : ℕ
  pub aim : Aim
  pub item : SymbolItem
  pub other : SymbolItem
  pub c : Comp
  pub d : Comp
  pub there : Contains items item
  pub behind : Contains items other
  pub of_item : Contains (names_of item) symbol
  pub of_other : Contains (names_of other) symbol
  pub in_item : Contains item.body c
  pub in_other : Contains other.body d
  pub first_aim : aim_in_symbol c.target ≡ Some aim
  pub second_aim : aim_in_symbol d.target ≡ Some aim
  pub before : c.at < d.at
  pub place : at ≡ d.at
