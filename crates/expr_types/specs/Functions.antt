-- The functions of names, as the code has them: patterns by the ids of their names.
use Rattle.std.specs.Prelude.{◌≡◌, ℕ, suc, nat_eq, ◌<◌, ◌^◌, if◌then◌else◌, List, [], ◌∷◌, length, map, Option, None, Some, All}
use Rattle.std.specs.HashMap as table
use Rattle.lido_base.specs.declared.pattern.Pattern.{Pattern}
use Rattle.lido_base.specs.Environment.{Environment}
use Rattle.expr_types.specs.declared.functions.PatternNames.{PatternNames}
use Rattle.expr_types.specs.declared.functions.Functions.{Functions}
use Rattle.expr_types.specs.Rows.{signatures_of, pattern_signature}

-- the first of these patterns, counted from k, that has the name with that id
abbrev pub first_pattern : ℕ → ℕ → List Pattern → Option ℕ
first_pattern id k [] = None
first_pattern id k (pattern ∷ more) = if nat_eq pattern.name.0 id then Some k else first_pattern id (suc k) more

-- the number that the table has for an id
unfoldable pub number_of : PatternNames → ℕ → Option ℕ
number_of names id = table.get nat_eq names.numbers id

-- What patterns that were read from a text have: their names are among the texts, and there are fewer than 2^32.
pub record AreNamedIn (texts : List (List ℕ)) (patterns : List Pattern) : Type 0 where
  pub names : All (λ (pattern : Pattern). pattern.name.0 < length texts) patterns
  pub few : length patterns < 2 ^ 32

-- what the functions stand for
abbrev pub environment_of : Functions → Environment
environment_of functions = record { texts = functions.strings.now; patterns = functions.patterns.now }

-- The functions are those of their patterns.
pub record AreFunctions (functions : Functions) : Type 0 where
  pub named : AreNamedIn functions.strings.now functions.patterns.now
  pub rows : signatures_of functions.rows.items ≡ map pattern_signature functions.patterns.now
  pub numbers : (id : ℕ) → number_of functions.names id ≡ first_pattern id 0 functions.patterns.now
