-- The first Bad argument is what an operation gives.
use Rattle.std.specs.Prelude.{All, None}
use Rattle.std.proofs.Common.{◌≡◌, ℕ, List, [], ◌∷◌, ◌++◌, refl}
use Rattle.lido_base.specs.declared.operation.Op.{Op}
use Rattle.lido_base.specs.declared.pattern.Pattern.{Pattern}
use Rattle.lido_base.specs.declared.value.BadKind.{BadKind}
use Rattle.lido_base.specs.declared.value.Origin.{Origin}
use Rattle.lido_base.specs.Operations.{operate, unless_bad}
use Rattle.lido_base.specs.Plain.{Plain, Int, Truth, Str, Text, Void, Bad, fault_of}
use Rattle.std.proofs.lemmas.List.Elements.{All-head, All-tail}

abbrev is_fine : Plain → Type 0
is_fine v = fault_of v ≡ None

unless_bad-first : (before after : List Plain) (bad : Origin) (v : Plain) → All (λ v. fault_of v ≡ None) before → unless_bad (before ++ Bad bad ∷ after) v ≡ Bad bad
unless_bad-first [] after bad v fine = refl
unless_bad-first (Int z ∷ before) after bad v fine = unless_bad-first before after bad v (All-tail is_fine (Int z) before fine)
unless_bad-first (Truth z ∷ before) after bad v fine = unless_bad-first before after bad v (All-tail is_fine (Truth z) before fine)
unless_bad-first (Str z ∷ before) after bad v fine = unless_bad-first before after bad v (All-tail is_fine (Str z) before fine)
unless_bad-first (Text z ∷ before) after bad v fine = unless_bad-first before after bad v (All-tail is_fine (Text z) before fine)
unless_bad-first (Void ∷ before) after bad v fine = unless_bad-first before after bad v (All-tail is_fine Void before fine)
unless_bad-first (Bad o ∷ before) after bad v fine = let no : fault_of (Bad o) ≡ None = All-head is_fine (Bad o) before fine in cc

pub operate-bad : (texts : List (List ℕ)) (patterns : List Pattern) (fails : BadKind → Plain) (o : Op) (before after : List Plain) (bad : Origin)
    → All (λ v. fault_of v ≡ None) before → operate texts patterns fails o (before ++ Bad bad ∷ after) ≡ Bad bad
unfolding operate
operate-bad texts patterns fails o before after bad fine = unless_bad-first before after bad _ fine
