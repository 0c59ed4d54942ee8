-- A pattern and kinds of faults for the trials of types and of first faults.
use Rattle.std.specs.Prelude.{◌≡◌, ◌⊎◌, ℕ, [], ◌∷◌}
use Rattle.lido_base.specs.declared.pattern.Pattern.{Pattern}
use Rattle.lido_base.specs.declared.value.ValueType.TheVariants.{Int, Str}

-- Line: $ int $ string, whose parts don't matter here.
abbrev pub line : Pattern
line = record { name = record { 0 = 0 }; args = Int ∷ Str ∷ []; parts = [] }

-- A kind without a fault.
abbrev pub nothing : ℕ → Type 0
nothing f = ⊥

-- Something is so at 7 and at 5.
abbrev pub spots : ℕ → Type 0
spots n = (n ≡ 7) ⊎ (n ≡ 5)

-- A kind whose only fault is 9.
abbrev pub nine : ℕ → Type 0
nine f = f ≡ 9
