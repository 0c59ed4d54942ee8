-- There are no more parts than bytes.
use Rattle.std.proofs.Common.{◌≡◌, ℕ, ◌<◌, ◌≤◌, Bool, true, false, List, [], ◌∷◌, drop, length, ap, arith, if◌then◌else◌, length-drop, refl, Ok, Option, Some, None}
use Rattle.std.specs.List.{take_while, prefix_len}
use Rattle.lido_lexer.specs.Bytes.{is_name_byte, octal_front}
use Rattle.lido_lexer.specs.Tokens.{IsQuoted, IsPart, plain, escape, octal}
use Rattle.sum_trees.specs.Bytes.{is_white, is_digit, is_minus, first_is, behind, unsigned}
use Rattle.sum_trees.proofs.FrontsOfBytes.{behind_skip, taken_none}
use Rattle.lido_base.specs.Phases.{IsThe}
use Rattle.tree_reader.specs.Language.{IsFront, HasCoordinates, Spells}
use Rattle.tree_reader.specs.declared.part.Coordinates.{Coordinates}
use Rattle.tree_reader.specs.Scanning.{Scanning}
use Rattle.tree_reader.specs.declared.part.Part.{Part}
use Rattle.tree_reader.specs.declared.part.Part.TheVariants as part

dropped : (k : ℕ) (bytes : List ℕ) → length (drop k bytes) ≤ length bytes
dropped k bytes = omega (arith, length-drop k bytes)

pub within : (p : ℕ → Bool) (bytes : List ℕ) → length (behind p bytes) ≤ length bytes
within p bytes = dropped (prefix_len p bytes) bytes

shorter : (p : ℕ → Bool) (bytes : List ℕ) → 0 < length (take_while p bytes) → length (behind p bytes) < length bytes
shorter p [] some = absurd (omega (arith, some))
shorter p (b ∷ more) some = by (p b) refl
  where
    by : (v : Bool) → p b ≡ v → length (behind p (b ∷ more)) < length (b ∷ more)
    by true is = omega (arith, ap length (behind_skip p b more is), within p more)
    by false is = absurd (omega (arith, some, ap length (taken_none p b more is)))

unsigned_within : (v : Bool) (bytes : List ℕ) → length (if v then drop 1 bytes else bytes) ≤ length bytes
unsigned_within true bytes = dropped 1 bytes
unsigned_within false bytes = omega arith

part_within : (bytes : List ℕ) (byte : ℕ) (rest : List ℕ) → IsPart bytes byte rest → length rest ≤ length bytes
part_within bytes byte rest (plain is test) = omega (arith, ap length is)
part_within bytes byte rest (escape is letter) = omega (arith, ap length is)
part_within bytes byte rest (octal {inner = inner} is some value small after) = omega (arith, ap length is, ap length after, dropped (length (octal_front inner)) inner)

quoted_within : (bytes text rest : List ℕ) → IsQuoted bytes text rest → length rest ≤ length bytes
quoted_within bytes [] rest is = omega (arith, ap length is)
quoted_within bytes (b ∷ text) rest (inner, first, more) = omega (arith, part_within bytes b inner first, quoted_within inner text rest more)

pub coordinates_within : (bytes : List ℕ) (coordinates : Option Coordinates) (rest : List ℕ) → HasCoordinates bytes coordinates rest → length rest ≤ length bytes
coordinates_within bytes None rest is = omega (arith, ap length is)
coordinates_within bytes (Some c) rest (digits, more, is, line, column) =
    omega (arith, ap length is, ap length line.after, ap length column.after, within is_digit digits, within is_digit more, within is_white bytes)

pub front_shorter : (end : ℕ) (bytes : List ℕ) (p : Part) (rest : List ℕ) → IsFront end bytes p rest → length rest < length bytes
front_shorter end bytes (part.Begin at name_at name coordinates) rest (inner, beyond, is, stands, name_stands, named, has) =
    omega (arith, ap length is, ap length named.after, within is_white inner, within is_name_byte (behind is_white inner), coordinates_within beyond coordinates rest has)
front_shorter end bytes (part.Int at z) rest (stands, int) = omega (arith, ap length int.after, shorter is_digit (unsigned bytes) int.some, unsigned_within (first_is is_minus bytes) bytes)
front_shorter end bytes (part.Str at text) rest (stands, string) = omega (arith, ap length string.opened, quoted_within string.inner text rest string.parts)
front_shorter end bytes (part.End at) rest (stands, is) = omega (arith, ap length is)

pub few_parts : (end : ℕ) (parts : List Part) (bytes : List ℕ) → Spells end parts bytes → length parts ≤ length bytes
few_parts end [] bytes spells = omega arith
few_parts end (p ∷ parts) bytes (rest, front, more) = omega (arith, front_shorter end (behind is_white bytes) p rest front, within is_white bytes, few_parts end parts rest more)

pub scanned_few : (text : List ℕ) (parts : List Part) → IsThe (Scanning text) (Ok parts) → length parts ≤ length text
unfolding Scanning
scanned_few text parts the = few_parts (length text) parts text the.is.1
