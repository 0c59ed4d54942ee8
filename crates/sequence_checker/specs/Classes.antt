-- What passes in a visit of the symbol at an occurrence of a rule, as a function.
use Rattle.std.specs.Prelude.{ℕ, zero, suc, List, Option, None, option_and_then, slice_get}
use Rattle.flat_grammar.specs.declared.flat.FlatRule.{FlatRule}
use Rattle.flat_grammar.specs.declared.plan.VisitClass.{VisitClass}
use Rattle.flat_grammar.specs.SoundPlan.{row_of}

module _ (visits : List (List VisitClass)) (r : FlatRule) where
  -- the class of a visit, counted from 1, of the symbol at an occurrence
  abbrev pub class_of : ℕ → ℕ → Option VisitClass
  class_of k zero = None
  class_of k (suc v) = option_and_then (λ (row : List VisitClass). slice_get row v) (row_of visits r k)
