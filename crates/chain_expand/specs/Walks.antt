-- The walk of a chain over the children of a plain rule, as the tables hold it.
use Rattle.std.specs.Prelude.{◌≡◌, ℕ, suc, Bool, true, false, not, ◌||◌, ◌&&◌, nat_eq, nat_lt, if◌then◌else◌, List, map, filter, length, find, Option, Some, None, option_map, is_some, slice_get}
use Rattle.std.specs.List.{list_any, AllZip}
use Rattle.lido_base.specs.declared.ids.SymId.{SymId}
use Rattle.flat_grammar.specs.declared.flat.FlatRule.{FlatRule}
use Rattle.least_paths.specs.Graph.{is_in}
use Rattle.rule_tables.specs.declared.table.SymbolRow.{SymbolRow}
use Rattle.rule_tables.specs.declared.table.SymbolClass.{SymbolClass}
use Rattle.rule_tables.specs.declared.table.SymbolClass.TheVariants as class
use Rattle.rule_tables.specs.declared.forced.Force.{Force as Entry}
use Rattle.rule_tables.specs.declared.forced.Goal.{Goal}
use Rattle.rule_tables.specs.declared.forced.Goal.TheVariants as goal
use Rattle.lido_symbols.specs.Numbers.{enumerated}
use Rattle.need_graphs.specs.Users.{entries_at}
use Rattle.rule_tables.specs.PlainRules.{Whole}
use Rattle.rule_tables.specs.Shares.{places, last_of}
use Rattle.chain_expand.specs.declared.walk.Source.{Source}
use Rattle.chain_expand.specs.declared.walk.Source.TheVariants as source
use Rattle.chain_expand.specs.declared.walk.Walk.{Walk}

-- the goal is the start of the chain that is declared at the place, or what is behind the left side in it
abbrev pub is_start_at : ℕ → Goal → Bool
is_start_at i (goal.Start j) = nat_eq j i
is_start_at i _ = false

abbrev pub is_behind_at : ℕ → Goal → Bool
is_behind_at i (goal.Behind j) = nat_eq j i
is_behind_at i _ = false

abbrev pub starts_at : ℕ → Entry → Bool
starts_at i e = nat_eq e.occ 0 && is_start_at i e.goal

abbrev pub assigns_at : ℕ → Entry → Bool
assigns_at i e = nat_eq e.occ 0 && is_behind_at i e.goal

-- the number of the first computation that passes
abbrev pub number_of : (Entry → Bool) → List Entry → Option ℕ
number_of test es = option_map (λ (e : Entry). e.number) (find test es)

-- the symbol of that number can be a node
abbrev pub is_node_class : SymbolClass → Bool
is_node_class class.Nonterminal = true
is_node_class (class.Terminal ty) = false
is_node_class class.Class = false
is_node_class class.Cell = true

abbrev pub is_node_in : List SymbolRow → ℕ → Bool
is_node_in rows x = elim (slice_get rows x) [ None ↦ true | Some row ↦ is_node_class row.class ]

abbrev pub has_node_in : List SymbolRow → List SymId → Bool
has_node_in rows right = list_any (λ (s : SymId). is_node_in rows s.0) right

-- the places of the children that need the chain
abbrev pub needing : List Bool → List SymId → List ℕ
needing needs right = places (is_in needs) (record { rule = 0; role = Whole; left = 0; right = map (λ (s : SymId). s.0) right })

-- from where comes what is behind this child; behind none it is what starts the chain, or what the left side has in front
abbrev pub source_of : Option ℕ → Option ℕ → Source
source_of start last = elim last [ Some j ↦ source.Child j | None ↦ elim start [ Some n ↦ source.Written n | None ↦ source.Front ] ]

-- from where comes what a child has in front, which are counted from 0, and what the left side has behind
abbrev pub front_source : List Bool → Option ℕ → List SymId → ℕ → Source
front_source needs start right j = source_of start (last_of (filter (λ i. nat_lt i (suc j)) (needing needs right)))

abbrev pub behind_source : Bool → Option ℕ → Option ℕ → Option ℕ → Source
behind_source inner start assigned last = elim assigned [
  | Some n ↦ source.Written n
  | None ↦ if not inner || is_some start then source.Front else source_of start last
]

abbrev pub if_needed : Bool → Source → Option Source
if_needed needed s = if needed then Some s else None

-- The walk of the chain that is declared at the place. `inner` tells whether one of the children can be a node.
pub record IsWalk (inner : Bool) (i : ℕ) (needs : List Bool) (rule : FlatRule) (es : List Entry) (walk : Walk) : Type 0 where
  pub behind : walk.behind ≡ if_needed (is_in needs rule.left.0) (behind_source inner (number_of (starts_at i) es) (number_of (assigns_at i) es) (last_of (needing needs rule.right)))
  pub count : length walk.fronts ≡ length rule.right
  pub fronts : (j : ℕ) (s : SymId) → slice_get rule.right j ≡ Some s → slice_get walk.fronts j ≡ Some (if_needed (is_in needs s.0) (front_source needs (number_of (starts_at i) es) rule.right j))

-- the walks of all chains over the children of a plain rule, in the order of the chains; `needs` tells for each who needs it
abbrev pub AreWalks : List SymbolRow → List (List Bool) → FlatRule → List Entry → List Walk → Type 0
AreWalks rows needs rule es = AllZip (λ (x : ℕ × List Bool) (walk : Walk). IsWalk (has_node_in rows rule.right) x.0 x.1 rule es walk) (enumerated 0 needs)

-- those of all plain rules
abbrev pub AreAllWalks : List SymbolRow → List (List Bool) → List FlatRule → List (List Entry) → List (List Walk) → Type 0
AreAllWalks rows needs plain comps = AllZip (λ (x : ℕ × FlatRule) (walks : List Walk). AreWalks rows needs x.1 (entries_at comps x.0) walks) (enumerated 0 plain)
