-- How far a text of patterns has come, mark by mark.
use Rattle.std.specs.Prelude.{ℕ, ◌+◌, nat_lt, Bool, true, false, not, if◌then◌else◌, Option, Some, None}
use Rattle.ptg_patterns.specs.declared.marks.Mark.{Mark}
use Rattle.ptg_patterns.specs.declared.marks.Mark.TheVariants as mark
use Rattle.ptg_patterns.specs.declared.syntax.State.{State}
use Rattle.ptg_patterns.specs.declared.syntax.State.TheVariants.{Start, Named, Items, Numbering, Pointed}

-- Behind an item, a brace, or the next pattern's name.
abbrev pub item_step : Bool → ℕ → Mark → Option State
item_step brace k (mark.Name at id) = if brace then None else Some Named
item_step brace k (mark.Fixed id) = Some (Items brace k)
item_step brace k (mark.Bare at) = if nat_lt k 64 then Some (Pointed brace (k + 1)) else None
item_step brace k (mark.Numbering at) = Some (Numbering brace k)
item_step brace k mark.BraceOpen = if brace then None else Some (Items true k)
item_step brace k mark.BraceClose = if brace then Some (Items false k) else None
item_step brace k _ = None

-- Behind the mark, if it fits.
abbrev pub step : State → Mark → Option State
step Start (mark.Name at id) = Some Named
step Named mark.Colon = Some (Items false 0)
step (Items brace k) m = item_step brace k m
step (Numbering brace k) (mark.Number n) = Some (Pointed brace k)
step (Pointed brace k) mark.IntWord = Some (Items brace k)
step (Pointed brace k) mark.StringWord = Some (Items brace k)
step (Pointed brace k) m = item_step brace k m
step _ _ = None

-- A text may end here.
abbrev pub ends : State → Bool
ends Start = true
ends (Items brace k) = not brace
ends (Pointed brace k) = not brace
ends _ = false
