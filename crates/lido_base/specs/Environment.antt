-- What ids and names stand for.
use Rattle.std.specs.Prelude.{ℕ, List}
use Rattle.lido_base.specs.declared.pattern.Pattern.{Pattern}

-- The texts by id, and the patterns.
pub record Environment : Type 0 where
  pub texts : List (List ℕ)
  pub patterns : List Pattern
