-- A list whose lines a chain numbers, by the rules of the nested start, with no group in it.
use Rattle.std.specs.Prelude.{List, [], ◌∷◌, ◌++◌, codes}
use Rattle.lido_base.specs.Plain.{Plain, Str}
use Rattle.lido_base.specs.Tree.{Tree, Child, Leaf}
use Rattle.lido_syntax.specs.Assignment.{Assignment, Attribute}
use Rattle.trials_of_syntax.specs.Writing.{Row, root, node, assigned}
use Rattle.trials_of_syntax.specs.NestedStart.{chain_row, of_line, text}

-- (rList (rItem "a") (rItem "b") (rItem "c"))
abbrev pub tree : Tree Plain
tree =
    root 0 (Child 1 ∷ Child 2 ∷ Child 3 ∷ [])
    ∷ node 1 0 1 (Leaf (Str (codes "a")) ∷ [])
    ∷ node 1 0 2 (Leaf (Str (codes "b")) ∷ [])
    ∷ node 1 0 3 (Leaf (Str (codes "c")) ∷ [])
    ∷ []

abbrev pub rows : List Row
rows = chain_row 1 1 2 ++ chain_row 2 2 3 ++ chain_row 3 3 4

-- what stands in front of each line and behind it
abbrev pub counted : Assignment
counted = assigned rows

-- the same, but for the last line, which counts the one before it again
abbrev pub stuck : Assignment
stuck = assigned (chain_row 1 1 2 ++ chain_row 2 2 3 ++ chain_row 3 2 3)

-- the texts of the lines
abbrev pub lines : Assignment
lines = assigned ((1, Attribute text, of_line (codes "1 a")) ∷ (2, Attribute text, of_line (codes "2 b")) ∷ (3, Attribute text, of_line (codes "3 c")) ∷ [])
