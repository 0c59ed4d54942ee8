-- What a CONSTITUENTS is given at the left sides of plain rules, as the tables tell it.
use Rattle.std.specs.Prelude.{ℕ, suc, Bool, true, false, not, ◌&&◌, ◌||◌, if◌then◌else◌, List, [], ◌∷◌, ◌++◌, map, filter_map, Option, Some, None, option_map, option_to_list, is_some, slice_get, unwrap_or}
use Rattle.lido_base.specs.declared.ids.AttrId.{AttrId}
use Rattle.lido_base.specs.declared.ids.SymId.{SymId}
use Rattle.lido_symbols.specs.Numbers.{enumerated}
use Rattle.flat_grammar.specs.declared.flat.FlatRule.{FlatRule}
use Rattle.least_paths.specs.Graph.{is_in}
use Rattle.rule_tables.specs.declared.extra.Slot.TheVariants as named
use Rattle.rule_tables.specs.declared.extra.SlotAt.{SlotAt}
use Rattle.rule_tables.specs.declared.extra.Piece.{Piece}
use Rattle.rule_tables.specs.declared.extra.Piece.TheVariants as piece
use Rattle.rule_tables.specs.declared.extra.Term.{Term}
use Rattle.rule_tables.specs.declared.extra.Term.TheVariants as given
use Rattle.constituents_expand.specs.declared.weights.Gathering.{Gathering}

-- the attribute that is listed for the symbol
abbrev pub source_in : Gathering → ℕ → Option AttrId
source_in g x = unwrap_or (slice_get g.sources x) None

-- a source that is a shield
abbrev pub is_closed : Gathering → ℕ → Bool
is_closed g x = is_some (source_in g x) && is_in g.shields x

-- the source at the left side, and the attributes of the children
abbrev pub own_at : Gathering → ℕ → Option SlotAt
own_at g x = option_map (λ (id : AttrId). record { occ = 0; slot = named.Written id }) (source_in g x)

abbrev pub child_slot : Gathering → ℕ × SymId → Option SlotAt
child_slot g y = if is_in g.bearers y.1.0 then Some (record { occ = suc y.0; slot = named.Con g.number }) else None

abbrev pub child_slots : Gathering → List SymId → List SlotAt
child_slots g right = filter_map (child_slot g) (enumerated 0 right)

abbrev pub below_at : Gathering → FlatRule → List SlotAt
below_at g rule = if is_closed g rule.left.0 then [] else child_slots g rule.right

-- whether null stands at the end of what is joined
abbrev pub is_bare : List SlotAt → Bool
is_bare [] = true
is_bare (x ∷ xs) = false

abbrev pub ends : Bool → Bool → List SlotAt → Bool
ends closed whole below = not closed && (whole || is_bare below)

abbrev pub null_if : Bool → List Piece
null_if end = if end then piece.Null ∷ [] else []

abbrev pub single_of : SlotAt → Piece
single_of at = piece.Single at

abbrev pub read_of : SlotAt → Piece
read_of at = piece.Read at

abbrev pub joined : Gathering → Bool → FlatRule → List Piece
joined g whole rule = (map single_of (option_to_list (own_at g rule.left.0)) ++ map read_of (below_at g rule)) ++ null_if (ends (is_closed g rule.left.0) whole (below_at g rule))

-- the weight of the left side
abbrev pub weight : Gathering → Bool → FlatRule → Term
weight g whole rule = elim g.with [
  | None ↦ given.Void (option_to_list (own_at g rule.left.0) ++ below_at g rule)
  | Some ty ↦ given.Joined g.number (joined g whole rule)
]
