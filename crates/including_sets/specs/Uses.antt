-- The INCLUDINGs of a text, each with the computation in which it stands.
use Rattle.std.specs.Prelude.{◌≡◌, ℕ, ◌<◌, ◌↔◌, List, length, flat_map, filter_map, Option, Some, None, AllPairs, Contains}
use Rattle.lido_syntax.specs.declared.spec.Spec.{Spec}
use Rattle.lido_syntax.specs.declared.spec.Pair.{Pair}
use Rattle.lido_syntax.specs.declared.spec.Comp.{Comp}
use Rattle.lido_syntax.specs.declared.spec.Expr.{Expr, Including}
use Rattle.lido_syntax.specs.Parts.{leaves, expressions_of}
use Rattle.lido_symbols.specs.FromText.{IsFromText}
use Rattle.lido_symbols.specs.Uses.{computations, all_includings}
use Rattle.including_sets.specs.declared.uses.Use.{Use}

-- An INCLUDING: the number of its computation, its place, and its pairs.
pub record Standing : Type 0 where
  pub comp : ℕ
  pub at : ℕ
  pub pairs : List Pair

abbrev pub told : Use → Standing
told u = record { comp = u.comp; at = u.at; pairs = u.pairs.now }

-- what a leaf of the computation of that number is
abbrev pub use_of : ℕ → Expr → Option Standing
use_of n (Including at pairs) = Some (record { comp = n; at = at; pairs = pairs })
use_of n _ = None

abbrev pub uses_in : ℕ → Expr → List Standing
uses_in n e = filter_map (use_of n) (leaves e)

-- those of a computation, in its condition, its value and behind `<-`
abbrev pub uses_of : Comp → List Standing
uses_of c = flat_map (uses_in c.number) (expressions_of c)

abbrev pub text_uses : Spec → List Standing
text_uses spec = flat_map uses_of (computations spec)

-- They are those of the text. Those of a text that was read stand by their places.
pub record AreUses (spec : Spec) (uses : List Standing) : Type 0 where
  pub all : (u : Standing) → Contains uses u ↔ Contains (text_uses spec) u
  pub count : length uses ≡ length (all_includings spec)
  pub in_order : IsFromText spec → AllPairs (λ (u v : Standing). u.at < v.at) uses
