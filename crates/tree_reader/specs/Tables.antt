-- The table of texts once a tree is read: what it was before, the text and the answer decide of it.
use Rattle.std.specs.Prelude.{◌≡◌, ◌⊎◌, ◌+◌, ⊤, ℕ, List, [], ◌∷◌, ◌++◌, Result, Ok, Err}
use Rattle.lido_base.specs.Phases.{IsThe}
use Rattle.lido_base.specs.declared.kinds.Many.TheVariants as many
use Rattle.lido_lexer.specs.Tables.{interned}
use Rattle.tree_store.specs.declared.fault.TreeFault.{TreeFault}
use Rattle.tree_store.specs.declared.fault.TreeFault.TheVariants as fault
use Rattle.tree_reader.specs.WrittenTrees.{most_nodes}
use Rattle.tree_reader.specs.Scanning.{Scanning}
use Rattle.tree_reader.specs.declared.part.Part.{Part}
use Rattle.tree_reader.specs.declared.part.Part.TheVariants as part

-- The text that a part has: a rule's name, or a string.
abbrev pub text_of : Part → List (List ℕ)
text_of (part.Begin at name_at name coordinates) = name ∷ []
text_of (part.Str at text) = text ∷ []
text_of _ = []

-- The texts of parts, in order.
abbrev pub texts_in : List Part → List (List ℕ)
texts_in [] = []
texts_in (p ∷ parts) = text_of p ++ texts_in parts

-- The place of a part's first byte.
abbrev pub part_place : Part → ℕ
part_place (part.Begin at name_at name coordinates) = at
part_place (part.Int at value) = at
part_place (part.Str at text) = at
part_place (part.End at) = at

-- How many nodes begin with this part.
abbrev pub begins : Part → ℕ
begins (part.Begin at name_at name coordinates) = 1
begins _ = 0

-- How many nodes begin among the parts.
abbrev pub begun : List Part → ℕ
begun [] = 0
begun (p ∷ parts) = begins p + begun parts

-- The fault tells of this part, before which so many nodes begin: of its name, of its place, or that it begins one node too many.
abbrev pub TellsOf : TreeFault → ℕ → Part → Type 0
TellsOf (fault.UnknownRule place) nodes (part.Begin at name_at name coordinates) = place ≡ name_at
TellsOf (fault.WrongRoot place) nodes (part.Begin at name_at name coordinates) = place ≡ name_at
TellsOf (fault.WrongChild place) nodes p = place ≡ part_place p
TellsOf (fault.TooMany many.Nodes) nodes (part.Begin at name_at name coordinates) = nodes ≡ most_nodes
TellsOf _ _ _ = ⊥

-- The part is read: its text is among the texts, and a fault tells of it; or memory ran out.
abbrev pub IsRead : {A : Type 0} → List (List ℕ) → ℕ → Part → Result A TreeFault → List (List ℕ) → Type 0
IsRead texts nodes p (Ok x) later = later ≡ interned texts (text_of p)
IsRead texts nodes p (Err e) later = (e ≡ fault.Memory) ⊎ (TellsOf e nodes p × (later ≡ interned texts (text_of p)))

-- The parts that are read before the answer is known: those up to the one of which the fault tells, with that one; else all of them.
abbrev pub AreRead : {A : Type 0} → List Part → Result A TreeFault → List Part → Type 0
AreRead parts (Ok x) read = read ≡ parts
AreRead parts (Err (fault.TooMany many.Instances)) read = read ≡ parts
AreRead parts (Err (fault.TooMany many.TextCells)) read = read ≡ parts
AreRead parts (Err e) read = (before : List Part) × (last : Part) × (behind : List Part) × (parts ≡ before ++ last ∷ behind) × (read ≡ before ++ last ∷ [])
    × TellsOf e (begun before) last

-- The texts once the parts are read up to this answer: each new name and string of those that are read goes behind the others, in
-- order. Of want of memory nothing is said.
abbrev pub IsTable : {A : Type 0} → List (List ℕ) → List Part → Result A TreeFault → List (List ℕ) → Type 0
IsTable texts parts (Err fault.Memory) later = ⊤
IsTable texts parts r later = (read : List Part) × AreRead parts r read × (later ≡ interned texts (texts_in read))

-- The texts once a tree's text is read up to this answer. A text that leaves the language of trees adds none.
abbrev pub IsTableOf : {A : Type 0} → List (List ℕ) → List ℕ → Result A TreeFault → List (List ℕ) → Type 0
IsTableOf texts text (Err fault.Memory) later = ⊤
IsTableOf texts text (Err (fault.TreeSyntax at)) later = later ≡ texts
IsTableOf texts text r later = (parts : List Part) × IsThe (Scanning text) (Ok parts) × IsTable texts parts r later
