-- The example's words and job.
use Rattle.std.proofs.Common.{ℕ, List, [], ◌∷◌, ◌++◌, codes}
use Rattle.job_text.specs.declared.cutting.Sections.{Sections}
use Rattle.lido_top.specs.declared.job.TheConstants.{SUM_JOB}

abbrev pub one_word : List (List ℕ)
one_word = codes "run" ∷ []

abbrev pub tree_text : List ℕ
tree_text = codes "(rTop (rAdd (rNum 3) (rNum 4)))\n"

abbrev pub job : List ℕ
job = SUM_JOB.now ++ tree_text

abbrev pub sections : Sections
sections = record { spec = record { from = 0; to = 241 }; ptg = record { from = 247; to = 247 }; tree = record { from = 254; to = 286 } }
