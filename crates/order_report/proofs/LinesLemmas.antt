-- Every line is whole.
use Rattle.std.proofs.Common.{ℕ, List, [], ◌∷◌, ◌++◌, ap, sym, append_assoc}
use Rattle.std.specs.Fmt.{decimal}
use Rattle.std.specs.List.{concat}
use Rattle.std.specs.Prelude.{codes}
use Rattle.lido_syntax.specs.declared.fault.SpecFault.{SpecFault}
use Rattle.lido_syntax.specs.declared.fault.SpecFault.TheVariants as fault
use Rattle.order_report.specs.declared.status.Status.{Status}
use Rattle.order_report.specs.declared.status.Status.TheVariants as status
use Rattle.order_report.specs.declared.status.Which.TheVariants as which
use Rattle.order_report.specs.Lines.{HasLine, IsWhole, line, line_of, many_of, name_of, path_of, spec_line_of, wrong_of}

whole : (words names : List ℕ) → IsWhole (line words names)
whole words names = (words ++ names, ap (λ (l : List ℕ). codes "lido: " ++ l) (sym (append_assoc words names (codes "\n"))))

placed_whole : (kind : List ℕ) (at : ℕ) → IsWhole (line (concat (codes "spec " ∷ kind ∷ codes " at " ∷ decimal at ∷ [])) [])
placed_whole kind at = whole (concat (codes "spec " ∷ kind ∷ codes " at " ∷ decimal at ∷ [])) []

spec_whole : (texts : List (List ℕ)) (f : SpecFault) → IsWhole (spec_line_of texts f)
spec_whole texts (fault.Lexical at) = placed_whole (codes "Lexical") at
spec_whole texts (fault.Syntax at) = placed_whole (codes "Syntax") at
spec_whole texts (fault.PtgSyntax at) = placed_whole (codes "PtgSyntax") at
spec_whole texts (fault.PtgDuplicate at) = placed_whole (codes "PtgDuplicate") at
spec_whole texts (fault.PtgMixed at) = placed_whole (codes "PtgMixed") at
spec_whole texts (fault.UnknownSymbol at) = placed_whole (codes "UnknownSymbol") at
spec_whole texts (fault.DuplicateRule at) = placed_whole (codes "DuplicateRule") at
spec_whole texts (fault.KindClash at) = placed_whole (codes "KindClash") at
spec_whole texts (fault.BadIndex at) = placed_whole (codes "BadIndex") at
spec_whole texts (fault.DoubleComputation at) = placed_whole (codes "DoubleComputation") at
spec_whole texts (fault.BadOut at) = placed_whole (codes "BadOut") at
spec_whole texts (fault.NoWith at) = placed_whole (codes "NoWith") at
spec_whole texts (fault.UnknownFunction at) = placed_whole (codes "UnknownFunction") at
spec_whole texts (fault.ArgCount at) = placed_whole (codes "ArgCount") at
spec_whole texts (fault.TypeMismatch at) = placed_whole (codes "TypeMismatch") at
spec_whole texts (fault.RootNotOne count) = whole (concat (codes "spec RootNotOne count " ∷ decimal count ∷ [])) []
spec_whole texts (fault.TooMany what) = whole (concat (codes "spec TooMany " ∷ many_of what ∷ [])) []
spec_whole texts (fault.ClassCycle path) = whole (codes "spec ClassCycle") (path_of texts path)
spec_whole texts (fault.ClashInherited sym attr first second) =
    whole (concat (codes "spec ClashInherited " ∷ name_of texts sym ∷ codes "." ∷ name_of texts attr ∷ codes " at " ∷ decimal first ∷ codes " and " ∷ decimal second ∷ [])) []
spec_whole texts (fault.MissingComputation rule occ attr) =
    whole (concat (codes "spec MissingComputation in " ∷ name_of texts rule ∷ codes " of " ∷ decimal occ ∷ codes "." ∷ name_of texts attr ∷ [])) []
spec_whole texts (fault.NoIncluding path) = whole (codes "spec NoIncluding") (path_of texts path)
spec_whole texts (fault.ChainNoStart chain path) = whole (concat (codes "spec ChainNoStart " ∷ name_of texts chain ∷ codes ":" ∷ [])) (path_of texts path)
spec_whole texts fault.Memory = whole (codes "no memory") []

pub line_whole : (texts : List (List ℕ)) (s : Status) → HasLine s → IsWhole (line_of texts s)
line_whole texts status.Done has = absurd has
line_whole texts (status.Words index kind) has = whole (concat (codes "word " ∷ decimal index ∷ codes " " ∷ wrong_of kind ∷ [])) []
line_whole texts status.ReadFault has = whole (codes "input failed") []
line_whole texts (status.WriteFault which.Out written) has = whole (concat (codes "output failed after " ∷ decimal written ∷ codes " bytes" ∷ [])) []
line_whole texts (status.WriteFault which.Err written) has = absurd has
line_whole texts status.InputTooLong has = whole (codes "input longer than 8388608 bytes") []
line_whole texts status.NoPtg has = whole (codes "no %%PTG line") []
line_whole texts status.NoTree has = whole (codes "no %%TREE line") []
line_whole texts (status.Spec fault) has = spec_whole texts fault
line_whole texts status.Memory has = whole (codes "no memory") []
line_whole texts status.FirstPathOnly has = whole (codes "not built yet") []
