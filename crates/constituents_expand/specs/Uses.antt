-- The CONSTITUENTS of a text, each with the computation in which it stands.
use Rattle.std.specs.Prelude.{ℕ, ◌<◌, ◌↔◌, Bool, true, false, List, [], ◌∷◌, ◌++◌, flat_map, filter_map, Option, Some, None, AllPairs, Contains}
use Rattle.lido_syntax.specs.declared.spec.Spec.{Spec}
use Rattle.lido_syntax.specs.declared.spec.Comp.{Comp}
use Rattle.lido_syntax.specs.declared.spec.Cons.{Cons}
use Rattle.lido_syntax.specs.declared.spec.Expr.{Expr, Constituents}
use Rattle.lido_syntax.specs.Parts.{leaves, conditions}
use Rattle.lido_symbols.specs.FromText.{IsFromText}
use Rattle.lido_symbols.specs.Uses.{computations}
use Rattle.constituents_expand.specs.declared.uses.Use.{Use}

-- A CONSTITUENTS: the number of its computation, whether its value is used, and itself.
pub record Standing : Type 0 where
  pub comp : ℕ
  pub valued : Bool
  pub constituents : Cons

abbrev pub told : Use → Standing
told u = record { comp = u.comp; valued = u.valued; constituents = u.constituents.now }

-- what a leaf of the computation of that number is, which uses its value or not
abbrev pub use_of : ℕ → Bool → Expr → Option Standing
use_of n valued (Constituents k) = Some (record { comp = n; valued = valued; constituents = k })
use_of n valued _ = None

abbrev pub uses_in : ℕ → Bool → Expr → List Standing
uses_in n valued e = filter_map (use_of n valued) (leaves e)

-- those of a computation, in front of `<-` and behind it
abbrev pub uses_of : Comp → List Standing
uses_of c = flat_map (uses_in c.number true) (conditions c.target ++ c.value ∷ []) ++ flat_map (uses_in c.number false) c.after

abbrev pub text_uses : Spec → List Standing
text_uses spec = flat_map uses_of (computations spec)

-- They are those of the text. Those of a text that was read stand by their numbers.
pub record AreUses (spec : Spec) (uses : List Standing) : Type 0 where
  pub all : (u : Standing) → Contains uses u ↔ Contains (text_uses spec) u
  pub in_order : IsFromText spec → AllPairs (λ (u v : Standing). u.constituents.number < v.constituents.number) uses
