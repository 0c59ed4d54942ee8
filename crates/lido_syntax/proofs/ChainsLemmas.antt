-- A computation has one value at a node, also where it reads TAIL.
use Rattle.std.proofs.Common.{◌≡◌, ℕ, inl, inr, List, [], ◌∷◌, ◌++◌, refl, ap, sym, subst, ◌∙◌}
use Rattle.lido_base.specs.Plain.{Plain, Void}
use Rattle.lido_base.specs.Tree.{Tree}
use Rattle.lido_base.proofs.Lists.{place-contains}
use Rattle.lido_syntax.specs.declared.spec.Spec.{Spec}
use Rattle.lido_syntax.specs.declared.spec.Comp.{Comp}
use Rattle.lido_syntax.specs.declared.spec.Expr.{Expr}
use Rattle.lido_syntax.specs.declared.spec.RuleItem.{RuleItem}
use Rattle.lido_syntax.specs.Production.{left_of, name_of}
use Rattle.lido_syntax.specs.Assignment.{Assignment, Behind, value_at}
use Rattle.lido_base.specs.Environment.{Environment}
use Rattle.lido_syntax.specs.Sets.{Sets}
use Rattle.lido_syntax.specs.Computation.{Goal, Holder, Start, InForce}
use Rattle.lido_syntax.specs.Completeness.{IsSingle}
use Rattle.lido_syntax.specs.Nodes.{IsAt, InForceAt}
use Rattle.lido_syntax.specs.Chains.{value_by, IsStart, IsEntry, IsTail, IsValue}
use Rattle.lido_syntax.specs.Value.{value}
use Rattle.lido_syntax.proofs.ComputationLemmas.{one_in_force}
use Rattle.lido_syntax.proofs.ExpressionLemmas.{same_value}

-- the last of some numbers
last_number : List ℕ → ℕ
last_number [] = 0
last_number (x ∷ []) = x
last_number (x ∷ y ∷ ys) = last_number (y ∷ ys)

last_number-end : (xs : List ℕ) (x : ℕ) → last_number (xs ++ x ∷ []) ≡ x
unfolding last_number
last_number-end [] x = refl
last_number-end (a ∷ []) x = refl
last_number-end (a ∷ b ∷ xs) x = last_number-end (b ∷ xs) x

same_last : (all xs ys : List ℕ) (x y : ℕ) → all ≡ xs ++ x ∷ [] → all ≡ ys ++ y ∷ [] → x ≡ y
same_last all xs ys x y e f = sym (last_number-end xs x) ∙ ap last_number (sym e ∙ f) ∙ last_number-end ys y

no_last : (xs : List ℕ) (x : ℕ) → ¬ ([] ≡ xs ++ x ∷ [])
no_last [] x e = cc
no_last (a ∷ xs) x e = cc

module _ (spec : Spec) (t : Tree Plain) where
  pub at_rule : (n : ℕ) (r q : RuleItem) → IsAt spec t n r → IsAt spec t n q → r ≡ q
  at_rule n r q (i, e, f) (j, g, h) = cc

module _ (spec : Spec) (single : IsSingle spec) (sets : Sets spec) (env : Environment) (t : Tree Plain) (A : Assignment) where
  pub same_in_force : (n : ℕ) (goal : Goal) (h k : Holder) (c d : Comp) → InForceAt spec t n goal h c → InForceAt spec t n goal k d → (h ≡ k) × (c ≡ d)
  same_in_force n goal h k c d (r, (i, e, f), a) (q, at, b) =
      let same : q ≡ r = at_rule spec t n q r at (i, e, f) in
      one_in_force spec single r (place-contains spec.rules i r f) 0 (left_of r) goal h k c d a (subst (λ q. InForce spec q 0 (left_of q) goal k d) same b)

  same_start : (c n : ℕ) (v w : Plain) → IsStart spec sets env t A c n v → IsStart spec sets env t A c n w → v ≡ w
  same_start c n v w (h, x, r, f, at, e) (k, y, q, g, at', e') =
      let rules : r ≡ q = at_rule spec t n r q at at' in
      let same : (h ≡ k) × (x ≡ y) = same_in_force n (Start c) h k x y f g in
      let values : value_by spec sets env t A (λ chain. Void) n h r x ≡ value_by spec sets env t A (λ chain. Void) n k q y = λ i. value_by spec sets env t A (λ chain. Void) n (same.0 i) (rules i) (same.1 i) in
      e ∙ values ∙ sym e'

  pub same_entry : (c n : ℕ) (v w : Plain) → IsEntry spec sets env t A c n v → IsEntry spec sets env t A c n w → v ≡ w
  same_entry c n v w (inl a) (inl b) = same_start c n v w a b
  same_entry c n v w (inl a) (inr b) = absurd (b.0 (a.0, a.1, a.3))
  same_entry c n v w (inr a) (inl b) = absurd (a.0 (b.0, b.1, b.3))
  same_entry c n v w (inr a) (inr b) = a.1 ∙ sym b.1

  pub same_tail : (c n : ℕ) (v w : Plain) → IsTail spec sets env t A c n v → IsTail spec sets env t A c n w → v ≡ w
  same_tail c n v w (inl (xs, x, e, f)) (inl (ys, y, g, h)) = let last : x ≡ y = same_last _ xs ys x y e g in f ∙ (λ i. value_at A (last i) (Behind c)) ∙ sym h
  same_tail c n v w (inl (xs, x, e, f)) (inr (g, b)) = absurd (no_last xs x (sym g ∙ e))
  same_tail c n v w (inr (e, a)) (inl (ys, y, g, h)) = absurd (no_last ys y (sym e ∙ g))
  same_tail c n v w (inr (e, a)) (inr (g, b)) = same_entry c n v w a b

  pub one_value : (n : ℕ) (h : Holder) (number : ℕ) (x : Expr) (v w : Plain) → IsValue spec sets env t A n h number x v → IsValue spec sets env t A n h number x w → v ≡ w
  one_value n h number x v w (r, f, at, tails, e) (q, g, at', tails', e') =
      let rules : r ≡ q = at_rule spec t n r q at at' in
      let asks : value spec sets env t A h r number n f x ≡ value spec sets env t A h r number n g x =
      same_value spec sets env t A h r number n f g x (λ c m. same_tail (name_of c) n _ _ (tails (name_of c) (c, m, refl)) (tails' (name_of c) (c, m, refl))) in
      let values : value spec sets env t A h r number n g x ≡ value spec sets env t A h q number n g x = λ i. value spec sets env t A h (rules i) number n g x in
      e ∙ asks ∙ values ∙ sym e'
