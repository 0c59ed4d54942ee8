-- The language of bracketed trees over bytes, a written form of our own: a node is a bracket, a rule's name, coordinates where it
-- has some, its children, and the bracket that closes it; a child is a node, an int or a string.
use Rattle.std.specs.Prelude.{◌≡◌, ◌+◌, ◌<◌, ◌≤◌, ℕ, ℤ, List, [], ◌∷◌, ◌++◌, length, take_while, Option, Some, None, FitsSigned}
use Rattle.std.specs.Int.{w64}
use Rattle.lido_lexer.specs.Tokens.{IsName, IsString}
use Rattle.sum_trees.specs.Bytes.{is_white, is_digit, behind, unsigned, digits_at, number_at, said_after}
use Rattle.tree_reader.specs.declared.part.Coordinates.{Coordinates}
use Rattle.tree_reader.specs.declared.part.Part.{Part}
use Rattle.tree_reader.specs.declared.part.Part.TheVariants as part

-- An optional minus and all the digits behind it, of which there is one at least, and which write this number of 64 bits.
pub record IsInt (bytes : List ℕ) (z : ℤ) (rest : List ℕ) : Type 0 where
  pub some : 0 < length (digits_at bytes)
  pub value : z ≡ number_at bytes
  pub fits : FitsSigned w64 z
  pub after : rest ≡ behind is_digit (unsigned bytes)

-- All the digits in front, of which there are 1 to 10, write this number of 32 bits.
pub record IsNumber (bytes : List ℕ) (n : ℕ) (rest : List ℕ) : Type 0 where
  pub some : 0 < length (take_while is_digit bytes)
  pub few : length (take_while is_digit bytes) ≤ 10
  pub value : n ≡ said_after 0 (take_while is_digit bytes)
  pub fits : n ≤ 4294967295
  pub after : rest ≡ behind is_digit bytes

-- An @, a line, a colon and a column, with nothing between them.
abbrev pub AreCoordinates : List ℕ → Coordinates → List ℕ → Type 0
AreCoordinates bytes c rest = (digits : List ℕ) × (more : List ℕ) × (bytes ≡ 64 ∷ digits) × IsNumber digits c.line (58 ∷ more) × IsNumber more c.column rest

-- The coordinates behind a name, where it has some. White space may stand before them.
abbrev pub HasCoordinates : List ℕ → Option Coordinates → List ℕ → Type 0
HasCoordinates bytes None rest = rest ≡ bytes
HasCoordinates bytes (Some c) rest = AreCoordinates (behind is_white bytes) c rest

-- These bytes stand at this place of a text that goes up to the place `end`.
abbrev pub StandsAt : ℕ → ℕ → List ℕ → Type 0
StandsAt end at bytes = at + length bytes ≡ end

-- The part is in front of the rest, at its place. White space may stand between a bracket and its name.
abbrev pub IsFront : ℕ → List ℕ → Part → List ℕ → Type 0
IsFront end bytes (part.Begin at name_at name coordinates) rest = (inner : List ℕ) × (named : List ℕ) × (bytes ≡ 40 ∷ inner) × StandsAt end at bytes
    × StandsAt end name_at (behind is_white inner) × IsName (behind is_white inner) name named × HasCoordinates named coordinates rest
IsFront end bytes (part.Int at z) rest = StandsAt end at bytes × IsInt bytes z rest
IsFront end bytes (part.Str at text) rest = StandsAt end at bytes × IsString bytes text rest
IsFront end bytes (part.End at) rest = StandsAt end at bytes × (bytes ≡ 41 ∷ rest)

-- The bytes up to the place `end` are these parts, with white space before, between and after them.
abbrev pub Spells : ℕ → List Part → List ℕ → Type 0
Spells end [] bytes = behind is_white bytes ≡ []
Spells end (p ∷ parts) bytes = (rest : List ℕ) × IsFront end (behind is_white bytes) p rest × Spells end parts rest

-- Siblings, with their places: a node with its coordinates, if some are written, and its children, an int or a string, and those
-- that follow.
pub data Forest : Type 0 where
  none : Forest
  node : (at name_at : ℕ) (name : List ℕ) (coordinates : Option Coordinates) (below : Forest) (end : ℕ) (after : Forest) → Forest
  int : (at : ℕ) (value : ℤ) (after : Forest) → Forest
  string : (at : ℕ) (text : List ℕ) (after : Forest) → Forest

-- The parts of the siblings, from the left.
abbrev pub parts_of : Forest → List Part
parts_of none = []
parts_of (node at name_at name coordinates below end after) = part.Begin at name_at name coordinates ∷ (parts_of below ++ (part.End end ∷ parts_of after))
parts_of (int at value after) = part.Int at value ∷ parts_of after
parts_of (string at text after) = part.Str at text ∷ parts_of after

-- The parts are those of one node.
abbrev pub IsOneNode : List Part → Type 0
IsOneNode parts = (at : ℕ) × (name_at : ℕ) × (name : List ℕ) × (coordinates : Option Coordinates) × (below : Forest) × (end : ℕ) × (parts ≡ parts_of (node at name_at name coordinates below end none))

-- The text is one node, of these parts.
abbrev pub IsTreeOf : List ℕ → List Part → Type 0
IsTreeOf text parts = IsOneNode parts × Spells (length text) parts text

-- The text is one node.
abbrev pub IsTreeText : List ℕ → Type 0
IsTreeText text = (parts : List Part) × IsTreeOf text parts
