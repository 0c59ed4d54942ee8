-- A call of two arguments, in the form in which a computation can look into it.
use Rattle.std.specs.Prelude.{List, [], ◌∷◌, ℕ, ◌≡◌, length, slice_get, unwrap_or}
use Rattle.std.proofs.Common.{ap, arith, ◌∙◌}
use mathlib.Core.Former.{arity, this}
use Rattle.lido_base.specs.formers.list.List.{the_former}
use Rattle.lido_base.specs.declared.operation.Op.{Op}
use Rattle.flat_grammar.specs.declared.flat.FlatExpr.{FlatExpr, Apply'}
use Rattle.flat_grammar.specs.declared.flat.FlatExpr.TheVariants as expr
use Rattle.flat_grammar.specs.declared.flat.FlatExpr as whole
use Rattle.flat_grammar.specs.declared.flat.FlatExpr.TheBlock.{hidden-the_row-FlatExpr-0}
use Rattle.trials_of_grammar.specs.ListOfItems.{call2}

two-arguments : (comp : ℕ) (op : Op) (s : List (Unit {0})) (k : whole.Row_of-FlatExpr (arity (the_former this) s)) (x y : FlatExpr) → whole.items-the_row-FlatExpr (arity (the_former this) s) k ≡ x ∷ y ∷ [] → Apply' comp op s k ≡ call2 comp op x y
two-arguments comp op [] whole.end_of-FlatExpr x y e = let l = ap (λ (l : List FlatExpr). length l) e in absurd (omega (arith, l))
two-arguments comp op (u ∷ []) (whole.more_of-FlatExpr z whole.end_of-FlatExpr) x y e = let l = ap (λ (l : List FlatExpr). length l) e in absurd (omega (arith, l))
two-arguments comp op (u ∷ v ∷ []) (whole.more_of-FlatExpr z (whole.more_of-FlatExpr w whole.end_of-FlatExpr)) x y e =
    ap (λ a. call2 comp op a w) (ap (λ (l : List FlatExpr). unwrap_or (slice_get l 0) z) e) ∙ ap (λ b. call2 comp op x b) (ap (λ (l : List FlatExpr). unwrap_or (slice_get l 1) w) e)
two-arguments comp op (u ∷ v ∷ t ∷ s) (whole.more_of-FlatExpr z (whole.more_of-FlatExpr w (whole.more_of-FlatExpr q qs))) x y e = let l = ap (λ (l : List FlatExpr). length l) e in absurd (omega (arith, l))

pub call-two : (comp : ℕ) (op : Op) (x y : FlatExpr) → expr.Apply comp op (x ∷ y ∷ []) ≡ call2 comp op x y
call-two comp op x y = two-arguments comp op _ (hidden-the_row-FlatExpr-0 (x ∷ y ∷ [])) x y (whole.items_hidden-the_row-FlatExpr-0 (x ∷ y ∷ []))
