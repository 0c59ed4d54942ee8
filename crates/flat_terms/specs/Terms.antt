-- What the tables of a plain rule have for what an expansion gives an attribute.
use Rattle.std.specs.Prelude.{◌≡◌, ℕ, ◌≤◌, nat_eq, List, [], ◌∷◌, flat_map, Option, Some, None}
use Rattle.std.specs.HashMap as table
use Rattle.lido_syntax.specs.declared.spec.With.{With}
use Rattle.numbered_computations.specs.declared.table.Holder.{Holder as Body}
use Rattle.numbered_computations.specs.Held.{held_at}
use Rattle.rule_tables.specs.declared.extra.SlotAt.{SlotAt}
use Rattle.rule_tables.specs.declared.extra.Term.{Term as Given}
use Rattle.rule_tables.specs.declared.extra.Term.TheVariants as given
use Rattle.rule_tables.specs.declared.extra.Piece.{Piece}
use Rattle.rule_tables.specs.declared.extra.Piece.TheVariants as piece
use Rattle.rule_tables.specs.Shares.{Term, Read, Copied, Comb, Single, Null}
use Rattle.flat_terms.specs.declared.site.Site.{Site}
use Rattle.flat_terms.specs.declared.tails.Tails.{Tails}
use Rattle.flat_terms.specs.declared.withs.Withs.{Withs}
use Rattle.flat_terms.specs.declared.terms.Added.{Added}
use Rattle.flat_terms.specs.Names.{holder_as}
use Rattle.flat_terms.specs.Scene.{Scene}
use Rattle.flat_terms.specs.Sites.{IsKnownWith, IsNamedComp}

-- the WITH of the CONSTITUENTS of that number
unfoldable pub with_in : Withs → ℕ → Option With
with_in withs n = table.get nat_eq withs.withs n

-- all functions that the term calls are those of the WITH
abbrev pub HasWith : With → Term → Type 0
HasWith with (Comb n f a b) = (f ≡ with.comb) × HasWith with a × HasWith with b
HasWith with (Single n f a) = (f ≡ with.single) × HasWith with a
HasWith with (Null n f) = f ≡ with.null
HasWith with _ = Unit {0}

-- The tables have the WITH of the CONSTITUENTS of that number, whose functions the term calls. A read calls none.
abbrev pub IsJoinedWith : Scene → Site → Added → ℕ → Term → Type 0
IsJoinedWith scene site added n (Read k s) = Unit {0}
IsJoinedWith scene site added n e = (with : With) × (with_in added.withs.now n ≡ Some with) × IsKnownWith scene site with × (n ≤ 65535) × HasWith with e

-- They have what the term names: its written computation with whose body it stands in, or its CONSTITUENTS' WITH.
abbrev pub IsNamedAs : Scene → Site → Tails → Added → Given → Term → Type 0
IsNamedAs scene site tails added (given.Copied n) (Copied h c) =
    (body : Body) × (held_at added.computations.now n ≡ Some (body, c)) × (holder_as body ≡ h) × IsNamedComp scene site tails c
IsNamedAs scene site tails added (given.Joined n pieces) e = IsJoinedWith scene site added n e
IsNamedAs scene site tails added _ _ = Unit {0}

-- the attribute, where nothing but this is read
abbrev pub lone_read : List Piece → Option SlotAt
lone_read (piece.Read at ∷ []) = Some at
lone_read _ = None

-- the attributes that are joined
abbrev pub slot_of_piece : Piece → List SlotAt
slot_of_piece (piece.Read at) = at ∷ []
slot_of_piece (piece.Single at) = at ∷ []
slot_of_piece piece.Null = []

abbrev pub slots_of_pieces : List Piece → List SlotAt
slots_of_pieces pieces = flat_map slot_of_piece pieces
