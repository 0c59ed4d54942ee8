-- The language of patterns, of which PTG is a profile:
--   patterns = { name ":" { item } }
--   item     = string | point | "{" { string | point } "}"
--   point    = "$" [int] ["int" | "string"]
use Rattle.std.specs.Prelude.{◌≤◌, ℕ, Bool, true, false, List, [], ◌∷◌, length, filter, Some, None}
use Rattle.lido_base.specs.declared.ids.StrId.{StrId}
use Rattle.lido_base.specs.declared.value.ValueType.{ValueType}
use Rattle.lido_base.specs.declared.value.ValueType.TheVariants as type
use Rattle.ptg_patterns.specs.declared.marks.Mark.{Mark}
use Rattle.ptg_patterns.specs.declared.marks.Mark.TheVariants.{Name, Colon, Fixed, Bare, Numbering, Number, BraceOpen, BraceClose, IntWord, StringWord}
use Rattle.ptg_patterns.specs.declared.written.Content.TheVariants.{Text, Point}
use Rattle.ptg_patterns.specs.declared.written.Item.{Item}
use Rattle.ptg_patterns.specs.declared.written.Written.{Written}

-- The type that a word behind a point gives it; without one the point is for a text.
abbrev pub type_in_front : List Mark → ValueType
type_in_front (IntWord ∷ marks) = type.Int
type_in_front (StringWord ∷ marks) = type.Str
type_in_front _ = type.Text

-- What stands behind that word, if there is one.
abbrev pub behind_type : List Mark → List Mark
behind_type [] = []
behind_type (IntWord ∷ marks) = marks
behind_type (StringWord ∷ marks) = marks
behind_type (mark ∷ marks) = mark ∷ marks

-- The items with which the marks begin, and what is left. `brace` says that a brace is open in front of them: one opens where
-- none is open, and is closed before the items end.
pub data IsItems : Bool → List Mark → List Item → List Mark → Type 0 where
  end : {marks : List Mark} → IsItems false marks [] marks
  text : {brace : Bool} {id : StrId} {marks rest : List Mark} {items : List Item} → IsItems brace marks items rest
      → IsItems brace (Fixed id ∷ marks) (record { content = Text id; brace = brace } ∷ items) rest
  bare : {brace : Bool} {at : ℕ} {marks rest : List Mark} {items : List Item} → IsItems brace (behind_type marks) items rest
      → IsItems brace (Bare at ∷ marks) (record { content = Point (record { at = at; number = None; kind = type_in_front marks }); brace = brace } ∷ items) rest
  numbered : {brace : Bool} {at number : ℕ} {marks rest : List Mark} {items : List Item} → IsItems brace (behind_type marks) items rest
      → IsItems brace (Numbering at ∷ Number number ∷ marks) (record { content = Point (record { at = at; number = Some number; kind = type_in_front marks }); brace = brace } ∷ items) rest
  opened : {marks rest : List Mark} {items : List Item} → IsItems true marks items rest → IsItems false (BraceOpen ∷ marks) items rest
  closed : {marks rest : List Mark} {items : List Item} → IsItems false marks items rest → IsItems true (BraceClose ∷ marks) items rest

-- The item is a point without a number.
abbrev pub is_bare : Item → Bool
is_bare item = elim item.content [ Text id ↦ false | Point point ↦ elim point.number [ None ↦ true | Some n ↦ false ] ]

-- The marks are these patterns. A pattern has 64 points without a number at most.
pub data IsWritten : List Mark → List Written → Type 0 where
  none : IsWritten [] []
  pattern : {at : ℕ} {id : StrId} {marks rest : List Mark} {items : List Item} {patterns : List Written}
      → IsItems false marks items rest → length (filter is_bare items) ≤ 64 → IsWritten rest patterns
      → IsWritten (Name at id ∷ Colon ∷ marks) (record { at = at; name = id; items = items } ∷ patterns)

-- Some patterns are written so.
abbrev pub IsText : List Mark → Type 0
IsText marks = (patterns : List Written) × IsWritten marks patterns
