-- The numbers of a written tree.
use Rattle.std.specs.Prelude.{⊤, FitsSigned, List, [], ◌∷◌}
use Rattle.std.specs.Int.{w64}
use Rattle.tree_reader.specs.Language.{Forest, none, node, int, string}
use Rattle.tree_reader.specs.declared.part.Part.{Part}
use Rattle.tree_reader.specs.declared.part.Part.TheVariants as part

-- Each number among the siblings and below them is one of 64 bits.
abbrev pub HasInts : Forest → Type 0
HasInts none = ⊤
HasInts (node at name_at name coordinates below end after) = HasInts below × HasInts after
HasInts (int at value after) = FitsSigned w64 value × HasInts after
HasInts (string at text after) = HasInts after

-- The part's number, if it is a number, is one of 64 bits.
abbrev pub HasInt : Part → Type 0
HasInt (part.Int at value) = FitsSigned w64 value
HasInt _ = ⊤

-- Each number among the parts is one of 64 bits.
abbrev pub HaveInts : List Part → Type 0
HaveInts [] = ⊤
HaveInts (p ∷ parts) = HasInt p × HaveInts parts
