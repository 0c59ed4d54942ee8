-- A call of one argument, in the form in which a computation can look into it.
use Rattle.std.specs.Prelude.{List, [], ◌∷◌, ℕ, ◌≡◌, length, slice_get, unwrap_or}
use Rattle.std.proofs.Common.{ap, arith}
use mathlib.Core.Former.{arity, this}
use Rattle.lido_base.specs.formers.list.List.{the_former}
use Rattle.lido_base.specs.declared.operation.Op.{Op}
use Rattle.flat_grammar.specs.declared.flat.FlatExpr.{FlatExpr, Apply'}
use Rattle.flat_grammar.specs.declared.flat.FlatExpr.TheVariants as expr
use Rattle.flat_grammar.specs.declared.flat.FlatExpr as whole
use Rattle.flat_grammar.specs.declared.flat.FlatExpr.TheBlock.{hidden-the_row-FlatExpr-0}
use Rattle.trials_of_grammar.specs.ListOfItems.{call1}

one-argument : (comp : ℕ) (op : Op) (s : List (Unit {0})) (k : whole.Row_of-FlatExpr (arity (the_former this) s)) (x : FlatExpr) → whole.items-the_row-FlatExpr (arity (the_former this) s) k ≡ x ∷ [] → Apply' comp op s k ≡ call1 comp op x
one-argument comp op [] whole.end_of-FlatExpr x e = let l = ap (λ (l : List FlatExpr). length l) e in absurd (omega (arith, l))
one-argument comp op (u ∷ []) (whole.more_of-FlatExpr y whole.end_of-FlatExpr) x e = ap (call1 comp op) (ap (λ (l : List FlatExpr). unwrap_or (slice_get l 0) y) e)
one-argument comp op (u ∷ v ∷ s) (whole.more_of-FlatExpr y (whole.more_of-FlatExpr z zs)) x e = let l = ap (λ (l : List FlatExpr). length l) e in absurd (omega (arith, l))

pub call-one : (comp : ℕ) (op : Op) (x : FlatExpr) → expr.Apply comp op (x ∷ []) ≡ call1 comp op x
call-one comp op x = one-argument comp op _ (hidden-the_row-FlatExpr-0 (x ∷ [])) x (whole.items_hidden-the_row-FlatExpr-0 (x ∷ []))
