-- The line that says how a call ended.
use Rattle.std.specs.Prelude.{◌≡◌, ℕ, ◌<◌, List, [], ◌∷◌, ◌++◌, length, slice_get, unwrap_or, codes, All}
use Rattle.std.specs.Fmt.{decimal}
use Rattle.std.specs.List.{concat, flat_map}
use Rattle.lido_base.specs.declared.ids.StrId.{StrId}
use Rattle.lido_base.specs.declared.kinds.Many.{Many}
use Rattle.lido_base.specs.declared.kinds.Many.TheVariants as many
use Rattle.lido_base.specs.declared.kinds.WordKind.{WordKind}
use Rattle.lido_base.specs.declared.kinds.WordKind.TheVariants as kind
use Rattle.lido_syntax.specs.declared.fault.SpecFault.{SpecFault}
use Rattle.lido_syntax.specs.declared.fault.SpecFault.TheVariants as fault
use Rattle.order_report.specs.declared.status.Status.{Status}
use Rattle.order_report.specs.declared.status.Status.TheVariants as status
use Rattle.order_report.specs.declared.status.Which.TheVariants as which

-- The text of an id.
abbrev pub name_of : List (List ℕ) → StrId → List ℕ
name_of texts id = unwrap_or (slice_get texts id.0) []

-- The names of a path, a space before each.
abbrev pub path_of : List (List ℕ) → List StrId → List ℕ
path_of texts path = flat_map (λ (id : StrId). 32 ∷ name_of texts id) path

-- The program's name, words, the names of a path, and a line feed.
abbrev pub line : List ℕ → List ℕ → List ℕ
line words names = codes "lido: " ++ (words ++ (names ++ codes "\n"))

-- What is wrong with a word.
abbrev pub wrong_of : WordKind → List ℕ
wrong_of kind.Missing = codes "missing"
wrong_of kind.Unknown = codes "unknown"
wrong_of kind.Repeated = codes "repeated"
wrong_of kind.Range = codes "range"

-- What there is too much of.
abbrev pub many_of : Many → List ℕ
many_of many.Symbols = codes "Symbols"
many_of many.Rules = codes "Rules"
many_of many.Elements = codes "Elements"
many_of many.Computations = codes "Computations"
many_of many.Attributes = codes "Attributes"
many_of many.Occurrences = codes "Occurrences"
many_of many.Nodes = codes "Nodes"
many_of many.Instances = codes "Instances"
many_of many.TextCells = codes "TextCells"

-- The line of a fault that has a place and no names.
abbrev pub placed : List ℕ → ℕ → List ℕ
placed fault at = line (concat (codes "spec " ∷ fault ∷ codes " at " ∷ decimal at ∷ [])) []

-- The line of a specification's fault, over the texts that its names stand for.
abbrev pub spec_line_of : List (List ℕ) → SpecFault → List ℕ
spec_line_of texts (fault.Lexical at) = placed (codes "Lexical") at
spec_line_of texts (fault.Syntax at) = placed (codes "Syntax") at
spec_line_of texts (fault.PtgSyntax at) = placed (codes "PtgSyntax") at
spec_line_of texts (fault.PtgDuplicate at) = placed (codes "PtgDuplicate") at
spec_line_of texts (fault.PtgMixed at) = placed (codes "PtgMixed") at
spec_line_of texts (fault.UnknownSymbol at) = placed (codes "UnknownSymbol") at
spec_line_of texts (fault.DuplicateRule at) = placed (codes "DuplicateRule") at
spec_line_of texts (fault.RootNotOne count) = line (concat (codes "spec RootNotOne count " ∷ decimal count ∷ [])) []
spec_line_of texts (fault.KindClash at) = placed (codes "KindClash") at
spec_line_of texts (fault.BadIndex at) = placed (codes "BadIndex") at
spec_line_of texts (fault.DoubleComputation at) = placed (codes "DoubleComputation") at
spec_line_of texts (fault.BadOut at) = placed (codes "BadOut") at
spec_line_of texts (fault.TooMany what) = line (concat (codes "spec TooMany " ∷ many_of what ∷ [])) []
spec_line_of texts (fault.ClassCycle path) = line (codes "spec ClassCycle") (path_of texts path)
spec_line_of texts (fault.ClashInherited sym attr first second) =
    line (concat (codes "spec ClashInherited " ∷ name_of texts sym ∷ codes "." ∷ name_of texts attr ∷ codes " at " ∷ decimal first ∷ codes " and " ∷ decimal second ∷ [])) []
spec_line_of texts (fault.MissingComputation rule occ attr) =
    line (concat (codes "spec MissingComputation in " ∷ name_of texts rule ∷ codes " of " ∷ decimal occ ∷ codes "." ∷ name_of texts attr ∷ [])) []
spec_line_of texts (fault.NoIncluding path) = line (codes "spec NoIncluding") (path_of texts path)
spec_line_of texts (fault.NoWith at) = placed (codes "NoWith") at
spec_line_of texts (fault.ChainNoStart chain path) = line (concat (codes "spec ChainNoStart " ∷ name_of texts chain ∷ codes ":" ∷ [])) (path_of texts path)
spec_line_of texts (fault.UnknownFunction at) = placed (codes "UnknownFunction") at
spec_line_of texts (fault.ArgCount at) = placed (codes "ArgCount") at
spec_line_of texts (fault.TypeMismatch at) = placed (codes "TypeMismatch") at
spec_line_of texts fault.Memory = line (codes "no memory") []

-- The line of a status, over the texts that its names stand for; Done and a fault of `err` have none.
abbrev pub line_of : List (List ℕ) → Status → List ℕ
line_of texts status.Done = []
line_of texts (status.Words index kind) = line (concat (codes "word " ∷ decimal index ∷ codes " " ∷ wrong_of kind ∷ [])) []
line_of texts status.ReadFault = line (codes "input failed") []
line_of texts (status.WriteFault which.Out written) = line (concat (codes "output failed after " ∷ decimal written ∷ codes " bytes" ∷ [])) []
line_of texts (status.WriteFault which.Err written) = []
line_of texts status.InputTooLong = line (codes "input longer than 8388608 bytes") []
line_of texts status.NoPtg = line (codes "no %%PTG line") []
line_of texts status.NoTree = line (codes "no %%TREE line") []
line_of texts (status.Spec fault) = spec_line_of texts fault
line_of texts status.Memory = line (codes "no memory") []
line_of texts status.FirstPathOnly = line (codes "not built yet") []

-- A status that has a line.
abbrev pub HasLine : Status → Type 0
HasLine status.Done = ⊥
HasLine (status.WriteFault which.Err written) = ⊥
HasLine s = Unit {0}

-- The program's name, words, and a line feed.
abbrev pub IsWhole : List ℕ → Type 0
IsWhole bytes = (words : List ℕ) × (bytes ≡ codes "lido: " ++ words ++ codes "\n")

-- Each status that has a line has a whole one.
abbrev pub LinesAreWhole : Type 0
LinesAreWhole = (texts : List (List ℕ)) (s : Status) → HasLine s → IsWhole (line_of texts s)

-- A text stands for the id.
abbrev pub IsName : List (List ℕ) → StrId → Type 0
IsName texts id = id.0 < length texts

-- A text stands for each id of the fault.
abbrev pub IsNamedFault : List (List ℕ) → SpecFault → Type 0
IsNamedFault texts (fault.ClassCycle path) = All (IsName texts) path
IsNamedFault texts (fault.ClashInherited sym attr first second) = IsName texts sym × IsName texts attr
IsNamedFault texts (fault.MissingComputation rule occ attr) = IsName texts rule × IsName texts attr
IsNamedFault texts (fault.NoIncluding path) = All (IsName texts) path
IsNamedFault texts (fault.ChainNoStart chain path) = IsName texts chain × All (IsName texts) path
IsNamedFault texts f = Unit {0}

-- A text stands for each id of the status.
abbrev pub IsNamed : List (List ℕ) → Status → Type 0
IsNamed texts (status.Spec fault) = IsNamedFault texts fault
IsNamed texts s = Unit {0}
