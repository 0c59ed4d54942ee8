-- A call without arguments, in the form in which a computation can look into it.
use Rattle.std.specs.Prelude.{List, [], ◌∷◌, ℕ, ◌≡◌, refl, length}
use Rattle.std.proofs.Common.{ap, arith}
use mathlib.Core.Former.{arity, this}
use Rattle.lido_base.specs.formers.list.List.{the_former}
use Rattle.lido_base.specs.declared.operation.Op.{Op}
use Rattle.flat_grammar.specs.declared.flat.FlatExpr.{FlatExpr, Apply'}
use Rattle.flat_grammar.specs.declared.flat.FlatExpr.TheVariants as expr
use Rattle.flat_grammar.specs.declared.flat.FlatExpr as whole
use Rattle.flat_grammar.specs.declared.flat.FlatExpr.TheBlock.{hidden-the_row-FlatExpr-0}
use Rattle.trials_of_grammar.specs.ListOfItems.{call0}

no-argument : (comp : ℕ) (op : Op) (s : List (Unit {0})) (k : whole.Row_of-FlatExpr (arity (the_former this) s)) → whole.items-the_row-FlatExpr (arity (the_former this) s) k ≡ [] → Apply' comp op s k ≡ call0 comp op
no-argument comp op [] whole.end_of-FlatExpr e = refl
no-argument comp op (u ∷ s) (whole.more_of-FlatExpr y k) e = let l = ap (λ (l : List FlatExpr). length l) e in absurd (omega (arith, l))

pub call-none : (comp : ℕ) (op : Op) → expr.Apply comp op [] ≡ call0 comp op
call-none comp op = no-argument comp op _ (hidden-the_row-FlatExpr-0 []) (whole.items_hidden-the_row-FlatExpr-0 [])
