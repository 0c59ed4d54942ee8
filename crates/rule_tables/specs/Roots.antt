-- The root by its number.
use Rattle.std.specs.Prelude.{◌≡◌, ℕ, List, Option, Some, None}
use Rattle.lido_base.specs.declared.ids.SymId.{SymId}
use Rattle.lido_syntax.specs.declared.spec.Spec.{Spec}
use Rattle.lido_syntax.specs.Symbols.{IsRoot}
use Rattle.rule_tables.specs.PlainRules.{number}

-- the number of a root, or none where there is no root
abbrev pub IsRootOf : Spec → List ℕ → Option SymId → Type 0
IsRootOf spec symbols (Some id) = (s : ℕ) × IsRoot spec s × (id.0 ≡ number spec symbols s)
IsRootOf spec symbols None = (s : ℕ) → ¬ IsRoot spec s
