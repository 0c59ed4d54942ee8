-- What the first marks of a text of patterns say.
use Rattle.std.specs.Prelude.{ℕ, Bool, true, false, List, ◌∷◌, Option, Some, None}
use Rattle.lido_base.specs.declared.ids.StrId.{StrId}
use Rattle.ptg_patterns.specs.declared.marks.Mark.{Mark}
use Rattle.ptg_patterns.specs.declared.marks.Mark.TheVariants.{Name, Colon, Fixed, Bare, Numbering, Number, BraceOpen, BraceClose}
use Rattle.ptg_patterns.specs.declared.written.Content.{Content}
use Rattle.ptg_patterns.specs.declared.written.Content.TheVariants.{Text, Point}
use Rattle.ptg_patterns.specs.declared.written.Item.{Item}
use Rattle.ptg_patterns.specs.Language.{type_in_front, behind_type}

-- The string or the point in front, and what is left.
abbrev pub content_front : List Mark → Option (Content × List Mark)
content_front (Fixed id ∷ marks) = Some (Text id, marks)
content_front (Bare at ∷ marks) = Some (Point (record { at = at; number = None; kind = type_in_front marks }), behind_type marks)
content_front (Numbering at ∷ Number n ∷ marks) = Some (Point (record { at = at; number = Some n; kind = type_in_front marks }), behind_type marks)
content_front _ = None

-- A string or a point is an item, in braces if a brace is open.
abbrev pub as_item : Bool → Option (Content × List Mark) → Option (Bool × Option Item × List Mark)
as_item brace None = None
as_item brace (Some front) = Some (brace, Some (record { content = front.0; brace = brace }), front.1)

-- Whether a brace is open behind the brace or the item in front, the item, and what is left.
abbrev pub item_front : Bool → List Mark → Option (Bool × Option Item × List Mark)
item_front brace (BraceOpen ∷ marks) = Some (true, None, marks)
item_front brace (BraceClose ∷ marks) = Some (false, None, marks)
item_front brace marks = as_item brace (content_front marks)

-- The place and the name of the pattern in front, and what stands behind its colon.
abbrev pub head_front : List Mark → Option (ℕ × StrId × List Mark)
head_front (Name at id ∷ Colon ∷ marks) = Some (at, id, marks)
head_front _ = None
