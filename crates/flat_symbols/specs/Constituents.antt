-- The CONSTITUENTS of a text, by their numbers.
use Rattle.std.specs.Prelude.{ℕ, ◌↔◌, List, [], ◌∷◌, map, flat_map, Contains}
use Rattle.std.specs.List.Sorted.{IsStrictlyIncreasing}
use Rattle.lido_syntax.specs.declared.spec.Spec.{Spec}
use Rattle.lido_syntax.specs.declared.spec.Comp.{Comp}
use Rattle.lido_syntax.specs.declared.spec.Cons.{Cons}
use Rattle.lido_syntax.specs.declared.spec.Expr.{Expr, Constituents}
use Rattle.lido_syntax.specs.Parts.{leaves_of}
use Rattle.lido_symbols.specs.Uses.{all_constituents}
use Rattle.flat_symbols.specs.declared.constituents.Numbers.{Numbers}

-- the numbers of the CONSTITUENTS in a leaf, and in a computation
abbrev pub numbers_in : Expr → List ℕ
numbers_in (Constituents k) = k.number ∷ []
numbers_in _ = []

abbrev pub numbers_of : Comp → List ℕ
numbers_of c = flat_map numbers_in (leaves_of c)

-- They are the numbers of the CONSTITUENTS of the text, in order, each once.
pub record AreNumbersOf (spec : Spec) (numbers : Numbers) : Type 0 where
  pub rises : IsStrictlyIncreasing numbers.list
  pub all : (n : ℕ) → Contains numbers.list n ↔ Contains (map (λ (x : ℕ × Cons). x.0) (all_constituents spec)) n
