-- The names of a specification, by what they are.
use Rattle.std.specs.Prelude.{ℕ, Bool, not, ◌&&◌, ◌||◌}
use Rattle.lido_base.specs.declared.value.ValueType.{ValueType}
use Rattle.lido_syntax.specs.declared.spec.Spec.{Spec}
use Rattle.lido_syntax.specs.Symbols.{IsNonterminal, IsOnRightSide, IsTerm, IsChain}
use Rattle.lido_symbols.specs.Classes.{IsClass}
use Rattle.kind_clashes.specs.declared.sets.NameSets.{NameSets}
use Rattle.kind_clashes.specs.Names.{has, IsSetOf}

-- each set holds exactly the names that are such
pub record AreNameSets (spec : Spec) (sets : NameSets) : Type 0 where
  pub classes : IsSetOf (IsClass spec) sets.classes
  pub nonterminals : IsSetOf (IsNonterminal spec) sets.nonterminals
  pub declared : IsSetOf (λ s. (ty : ValueType) × IsTerm spec s ty) sets.declared
  pub right_sides : IsSetOf (IsOnRightSide spec) sets.right_sides
  pub chains : IsSetOf (IsChain spec) sets.chains

abbrev pub is_terminal_in : NameSets → ℕ → Bool
is_terminal_in sets s = not (has sets.nonterminals s) && (has sets.declared s || has sets.right_sides s)

-- a terminal, and no class
abbrev pub is_plain_terminal_in : NameSets → ℕ → Bool
is_plain_terminal_in sets s = is_terminal_in sets s && not (has sets.classes s)
