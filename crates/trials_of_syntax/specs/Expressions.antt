-- Expressions without attributes.
use Rattle.std.specs.Prelude.{◌≡◌, ℕ, [], ◌∷◌, false}
use Rattle.lido_base.specs.Plain.{Plain}
use Rattle.lido_base.specs.Tree.{Tree}
use Rattle.lido_syntax.specs.declared.spec.Spec.{Spec}
use Rattle.lido_syntax.specs.declared.spec.RuleItem.{RuleItem}
use Rattle.lido_syntax.specs.declared.spec.Expr.{Expr}
use Rattle.lido_syntax.specs.declared.spec.Expr.TheVariants as expr
use Rattle.lido_syntax.specs.Assignment.{Assignment}
use Rattle.lido_syntax.specs.Computation.{Holder}
use Rattle.lido_syntax.specs.Sets.{Sets}
use Rattle.lido_syntax.specs.Value.{value}
use Rattle.trials_of_syntax.specs.Writing.{env, int, call, ADD, SUB, DIV, MOD, NEG, IF}

-- whatever the specification, the tree and the assignment, the expression has this value in a computation of this number at this node
abbrev pub IsAlways : Expr → (ℕ → ℕ → Plain) → Type 0
IsAlways e result = (spec : Spec) (sets : Sets spec) (t : Tree Plain) (A : Assignment) (h : Holder) (r : RuleItem) (number n : ℕ) (tail : ℕ → Plain) → value spec sets env t A h r number n tail e ≡ result number n

-- IF(false, 1 / 0, 5)
abbrev pub chosen_branch : Expr
chosen_branch = call IF (expr.Bool 0 false ∷ call DIV (int 1 ∷ int 0 ∷ []) ∷ int 5 ∷ [])

-- 0 - 7 / 2
abbrev pub difference : Expr
difference = call SUB (int 0 ∷ call DIV (int 7 ∷ int 2 ∷ []) ∷ [])

-- -7 % 2
abbrev pub remainder : Expr
remainder = call MOD (call NEG (int 7 ∷ []) ∷ int 2 ∷ [])

-- 1 / 0
abbrev pub division_by_zero : Expr
division_by_zero = call DIV (int 1 ∷ int 0 ∷ [])

-- 1 / 0 + 9223372036854775807 + 1
abbrev pub first_bad : Expr
first_bad = call ADD (division_by_zero ∷ call ADD (int 9223372036854775807 ∷ int 1 ∷ []) ∷ [])
