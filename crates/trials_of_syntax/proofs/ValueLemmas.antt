-- The value of an expression at a node, whatever TAIL is.
use Rattle.std.proofs.Common.{◌≡◌, ℕ, subst, ◌∙◌}
use Rattle.lido_base.specs.Environment.{Environment}
use Rattle.lido_base.specs.Plain.{Plain}
use Rattle.lido_base.specs.Tree.{Tree}
use Rattle.lido_syntax.specs.declared.spec.Spec.{Spec}
use Rattle.lido_syntax.specs.declared.spec.Expr.{Expr}
use Rattle.lido_syntax.specs.declared.spec.RuleItem.{RuleItem}
use Rattle.lido_syntax.specs.Assignment.{Assignment}
use Rattle.lido_syntax.specs.Computation.{Holder}
use Rattle.lido_syntax.specs.Sets.{Sets}
use Rattle.lido_syntax.specs.Nodes.{IsAt}
use Rattle.lido_syntax.specs.Value.{value}
use Rattle.lido_syntax.specs.Chains.{IsValue}
use Rattle.lido_syntax.proofs.ChainsLemmas.{at_rule}
use Rattle.lido_syntax.proofs.DecidedLemmas.{a_value}

module _ (spec : Spec) (sets : Sets spec) (env : Environment) (t : Tree Plain) (A : Assignment) (n : ℕ) (h : Holder) (r : RuleItem) (at : IsAt spec t n r) where
  -- the expression has this value, whatever TAIL is
  abbrev pub ComesTo : ℕ → Expr → Plain → Type 0
  ComesTo number e v = (tail : ℕ → Plain) → value spec sets env t A h r number n tail e ≡ v

  pub only_value : (number : ℕ) (e : Expr) (v w : Plain) → ComesTo number e v → IsValue spec sets env t A n h number e w → w ≡ v
  only_value number e v w comes (q, tail, there, tails, is) = is ∙ subst (λ q. value spec sets env t A h q number n tail e ≡ v) (at_rule spec t n r q at there) (comes tail)

  pub has_value : (number : ℕ) (e : Expr) (v : Plain) → ComesTo number e v → IsValue spec sets env t A n h number e v
  has_value number e v comes = let found = a_value spec sets env t A n r h number e at in
      subst (IsValue spec sets env t A n h number e) (only_value number e v found.0 comes found.1) found.1
