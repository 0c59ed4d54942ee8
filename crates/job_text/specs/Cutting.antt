-- The sections of a job text. Our own.
use Rattle.std.specs.Prelude.{◌≡◌, ◌<◌, ◌+◌, ℕ, min, List, length, Result, Ok, Err, codes}
use Rattle.job_text.specs.declared.cutting.Sections.{Sections}
use Rattle.job_text.specs.declared.cutting.CutFault.{CutFault}
use Rattle.job_text.specs.declared.cutting.CutFault.TheVariants.{NoPtg, NoTree}
use Rattle.job_text.specs.Lines.{Says, IsFirst}

-- The specification is all before the first line `%%PTG`, the patterns are all behind it up to the first later line `%%TREE`, and
-- the tree is all behind that.
pub record IsCut (text : List ℕ) (s : Sections) : Type 0 where
  pub ptg_end : ℕ
  pub tree_end : ℕ
  pub spec_starts : s.spec.from ≡ 0
  pub spec_ends : IsFirst (codes "%%PTG") text 0 s.spec.to ptg_end
  pub ptg_starts : s.ptg.from ≡ ptg_end + 1
  pub ptg_ends : IsFirst (codes "%%TREE") text (ptg_end + 1) s.ptg.to tree_end
  pub tree_starts : s.tree.from ≡ min (length text) (tree_end + 1)
  pub tree_ends : s.tree.to ≡ length text

-- The text has a line `%%PTG`, but no later line `%%TREE`.
pub record LacksTree (text : List ℕ) : Type 0 where
  pub from : ℕ
  pub to : ℕ
  pub ptg : IsFirst (codes "%%PTG") text 0 from to
  pub none : (f t : ℕ) → to < f → ¬ Says (codes "%%TREE") text f t

-- What a job text gives: its sections, or the section line that it lacks.
abbrev pub Cutting : List ℕ → Result Sections CutFault → Type 0
Cutting text (Ok s) = IsCut text s
Cutting text (Err NoPtg) = (from to : ℕ) → ¬ Says (codes "%%PTG") text from to
Cutting text (Err NoTree) = LacksTree text
