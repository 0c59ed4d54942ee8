-- What a scan of a tree's text gives, and what is left to scan in each of its states.
use Rattle.std.specs.Prelude.{◌≡◌, ◌≢◌, ◌+◌, ◌-◌, ◌*◌, ◌<◌, ◌≤◌, ⊤, ℕ, ℤ, zero, suc, pos, if◌then◌else◌, Bool, false, true, List, [], ◌∷◌, ◌++◌, length, take, drop, take_while, fold, Option, Some, None, Result, Ok, Err, FitsSigned}
use Rattle.std.specs.Int.{w64}
use Rattle.lido_base.specs.Reading.{IsFaultPlace}
use Rattle.lido_lexer.specs.Bytes.{is_octal}
use Rattle.lido_lexer.specs.Tokens.{IsName, IsPart, IsQuoted}
use Rattle.tree_store.specs.declared.fault.TreeFault.{TreeFault}
use Rattle.tree_store.specs.declared.fault.TreeFault.TheVariants as fault
use Rattle.sum_trees.specs.Bytes.{is_white, is_digit, is_name_byte, behind, said_after, minus}
use Rattle.tree_reader.specs.Language.{Forest, parts_of, IsOneNode, IsTreeOf, IsTreeText, HasCoordinates, IsNumber, StandsAt, Spells}
use Rattle.tree_reader.specs.declared.part.Coordinates.{Coordinates}
use Rattle.tree_reader.specs.declared.part.Part.{Part}
use Rattle.tree_reader.specs.declared.part.Part.TheVariants as part
use Rattle.tree_reader.specs.declared.scanner.Phase.{Phase}
use Rattle.tree_reader.specs.declared.scanner.Phase.TheVariants as phase
use Rattle.tree_reader.specs.declared.scanner.Scanner.{Scanner}

-- The parts of a tree's text; or the least place whose byte makes a front that begins no tree's text, and the text's length
-- where the text begins one and is none.
unfoldable pub Scanning : List ℕ → Result (List Part) TreeFault → Type 0
Scanning text (Ok parts) = IsTreeOf text parts
Scanning text (Err (fault.TreeSyntax at)) = IsFaultPlace IsTreeText text at
Scanning text (Err _) = ⊥

-- ---- what is left in a state

-- The parts close so many nodes, and nothing follows.
abbrev pub Closes : ℕ → List Part → Type 0
Closes zero parts = parts ≡ []
Closes (suc depth) parts = (children : Forest) × (at : ℕ) × (more : List Part) × (parts ≡ parts_of children ++ (part.End at ∷ more)) × Closes depth more

-- The parts that may follow before the first node, and where so many nodes are open.
abbrev pub Follows : Option ℕ → List Part → Type 0
Follows None parts = IsOneNode parts
Follows (Some depth) parts = Closes depth parts

-- The number with this sign.
abbrev pub signed : Bool → ℕ → ℤ
signed negative n = if negative then minus n else pos n

-- The number that octal digits write behind those that write n.
abbrev pub octal_after : ℕ → List ℕ → ℕ
octal_after n digits = fold (λ m b. m * 8 + (b - 48)) n digits

-- All the digits in front go on with a number of which so many digits that write this value stand before: there are 1 to 10 of
-- them, and they write this number of 32 bits.
pub record IsNumberAfter (count value : ℕ) (bytes : List ℕ) (n : ℕ) (rest : List ℕ) : Type 0 where
  pub some : 0 < count + length (take_while is_digit bytes)
  pub few : count + length (take_while is_digit bytes) ≤ 10
  pub value_is : n ≡ said_after value (take_while is_digit bytes)
  pub fits : n ≤ 4294967295
  pub after : rest ≡ behind is_digit bytes

-- One digit more goes on with a number of which so many digits that write this value stand before.
abbrev pub IsDigitOn : ℕ → ℕ → ℕ → Type 0
IsDigitOn count value b = (count < 10) × (value * 10 + (b - 48) ≤ 4294967295)

-- So many digits, with which a coordinate begins, write this value.
pub record IsBegunNumber (count value : ℕ) : Type 0 where
  pub few : count ≤ 10
  pub fits : value ≤ 4294967295
  pub none : count ≡ 0 → value ≡ 0

-- A node of this name begins at this place; behind its name stand the bytes, which are its coordinates, where it has some, and
-- then further parts.
abbrev pub BeginsNode : ℕ → ℕ → List ℕ → ℕ → List ℕ → List Part → Type 0
BeginsNode at name_at name end bytes parts = (coordinates : Option Coordinates) × (rest : List ℕ) × (more : List Part)
    × (parts ≡ part.Begin at name_at name coordinates ∷ more) × HasCoordinates bytes coordinates rest × Spells end more rest

-- The bytes are what is left of the part that is begun, of which this text is held, and then they are further parts.
abbrev pub Begun : Phase → List ℕ → ℕ → List ℕ → List Part → Type 0
Begun phase.Gap held end bytes parts = Spells end parts bytes
Begun (phase.Opened at) held end bytes parts = (name_at : ℕ) × (name : List ℕ) × (rest : List ℕ)
    × StandsAt end name_at (behind is_white bytes) × IsName (behind is_white bytes) name rest × BeginsNode at name_at name end rest parts
Begun (phase.Name at name_at) held end bytes parts = BeginsNode at name_at (held ++ take_while is_name_byte bytes) end (behind is_name_byte bytes) parts
Begun (phase.Named at name_at) held end bytes parts = BeginsNode at name_at held end bytes parts
Begun (phase.Line at name_at count value) held end bytes parts = (c : Coordinates) × (digits : List ℕ) × (rest : List ℕ) × (more : List Part)
    × (parts ≡ part.Begin at name_at held (Some c) ∷ more) × IsNumberAfter count value bytes c.line (58 ∷ digits) × IsNumber digits c.column rest × Spells end more rest
Begun (phase.Column at name_at line count value) held end bytes parts = (column : ℕ) × (rest : List ℕ) × (more : List Part)
    × (parts ≡ part.Begin at name_at held (Some (record { line = line; column = column })) ∷ more) × IsNumberAfter count value bytes column rest × Spells end more rest
Begun (phase.Minus at) held end bytes parts = (z : ℤ) × (more : List Part) × (parts ≡ part.Int at z ∷ more) × (0 < length (take_while is_digit bytes))
    × (z ≡ minus (said_after 0 (take_while is_digit bytes))) × FitsSigned w64 z × Spells end more (behind is_digit bytes)
Begun (phase.Digits at negative value) held end bytes parts = (z : ℤ) × (more : List Part) × (parts ≡ part.Int at z ∷ more)
    × (z ≡ signed negative (said_after value (take_while is_digit bytes))) × FitsSigned w64 z × Spells end more (behind is_digit bytes)
Begun (phase.Text at) held end bytes parts = (text : List ℕ) × (rest : List ℕ) × (more : List Part) × (parts ≡ part.Str at (held ++ text) ∷ more)
    × IsQuoted bytes text rest × Spells end more rest
Begun (phase.Escape at) held end bytes parts = (byte : ℕ) × (inner : List ℕ) × (text : List ℕ) × (rest : List ℕ) × (more : List Part) × (parts ≡ part.Str at (held ++ byte ∷ text) ∷ more)
    × IsPart (92 ∷ bytes) byte inner × IsQuoted inner text rest × Spells end more rest
Begun (phase.Octal at count value) held end bytes parts = (byte : ℕ) × (inner : List ℕ) × (text : List ℕ) × (rest : List ℕ) × (more : List Part) × (parts ≡ part.Str at (held ++ byte ∷ text) ∷ more)
    × (byte ≡ octal_after value (take_while is_octal (take count bytes))) × (byte ≤ 255) × (inner ≡ drop (length (take_while is_octal (take count bytes))) bytes)
    × IsQuoted inner text rest × Spells end more rest

-- A part can be begun where so many nodes are open, its number is not too large, and nothing is held before its text begins.
abbrev pub CanStand : Phase → List ℕ → Option ℕ → Type 0
CanStand phase.Gap held depth = held ≡ []
CanStand (phase.Opened at) held depth = (held ≡ []) × (depth ≢ Some 0)
CanStand (phase.Name at name_at) held depth = depth ≢ Some 0
CanStand (phase.Named at name_at) held depth = depth ≢ Some 0
CanStand (phase.Line at name_at count value) held depth = (depth ≢ Some 0) × IsBegunNumber count value
CanStand (phase.Column at name_at line count value) held depth = (depth ≢ Some 0) × IsBegunNumber count value
CanStand (phase.Minus at) held depth = (held ≡ []) × (d : ℕ) × (depth ≡ Some (suc d))
CanStand (phase.Digits at negative value) held depth = (held ≡ []) × (d : ℕ) × (depth ≡ Some (suc d)) × FitsSigned w64 (signed negative value)
CanStand (phase.Text at) held depth = (d : ℕ) × (depth ≡ Some (suc d))
CanStand (phase.Escape at) held depth = (d : ℕ) × (depth ≡ Some (suc d))
CanStand (phase.Octal at count value) held depth = (d : ℕ) × (depth ≡ Some (suc d)) × (value ≤ 255)

-- The scanner can stand in its state.
abbrev pub Stands : Scanner → Type 0
Stands s = CanStand s.phase s.held s.depth

-- What is left of the text, and the parts that it is.
abbrev pub Left : Scanner → ℕ → List ℕ → List Part → Type 0
Left s end bytes parts = Begun s.phase s.held end bytes parts × Follows s.depth parts

-- At place i some bytes come next. The scanner goes on to a state before which others stand, and gives parts.
pub record Moves (i : ℕ) (next : List ℕ) (old : Scanner) (left : List ℕ) (new : Scanner) : Type 0 where
  pub out : List Part
  pub parts : new.parts ≡ old.parts ++ out
  pub stands : CanStand new.phase new.held new.depth
  pub on : (end : ℕ) (more : List ℕ) (parts : List Part) → i + length (next ++ more) ≡ end → Left new end (left ++ more) parts → Left old end (next ++ more) (out ++ parts)
  pub back : (end : ℕ) (more : List ℕ) (parts : List Part) → i + length (next ++ more) ≡ end → Left old end (next ++ more) parts
      → (later : List Part) × (parts ≡ out ++ later) × Left new end (left ++ more) later

-- The byte at place i fits nothing.
abbrev pub IsStuck : ℕ → ℕ → Scanner → Type 0
IsStuck i b s = (more : List ℕ) (parts : List Part) → Left s (i + length (b ∷ more)) (b ∷ more) parts → ⊥

-- The fault tells of the byte at place i, and of nothing else that a text can have.
abbrev pub Refuses : ℕ → ℕ → Scanner → TreeFault → Type 0
Refuses i b s (fault.TreeSyntax at) = (at ≡ i) × IsStuck i b s
Refuses i b s fault.Memory = ⊤
Refuses i b s _ = ⊥

-- The scanner stands behind these bytes: what is left are exactly the parts that are left.
pub record HasScanned (front : List ℕ) (s : Scanner) : Type 0 where
  pub stands : CanStand s.phase s.held s.depth
  pub on : (more : List ℕ) (parts : List Part) → Left s (length (front ++ more)) more parts → IsTreeOf (front ++ more) (s.parts ++ parts)
  pub back : (more : List ℕ) (parts : List Part) → IsTreeOf (front ++ more) parts → (later : List Part) × (parts ≡ s.parts ++ later) × Left s (length (front ++ more)) more later

-- No more nodes are open than there were bytes.
abbrev pub IsShallow : ℕ → Option ℕ → Type 0
IsShallow i None = ⊤
IsShallow i (Some depth) = depth ≤ i

-- One node more is open.
abbrev pub deeper : Option ℕ → ℕ
deeper None = 1
deeper (Some depth) = depth + 1

-- The one node is closed, and no part is begun.
abbrev pub is_done : Phase → Option ℕ → Bool
is_done phase.Gap (Some zero) = true
is_done _ _ = false
