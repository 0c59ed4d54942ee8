-- What a plain computation gives at a node, from the values of its condition and its text.
use Rattle.std.specs.Prelude.{Some, None}
use Rattle.std.proofs.Common.{◌≡◌, ℕ, [], ◌∷◌, subst}
use Rattle.lido_base.specs.Environment.{Environment}
use Rattle.lido_base.specs.Operations.{chosen}
use Rattle.lido_base.specs.Plain.{Plain, Void}
use Rattle.lido_base.specs.Tree.{Tree}
use Rattle.lido_syntax.specs.declared.spec.Spec.{Spec}
use Rattle.lido_syntax.specs.declared.spec.Comp.{Comp}
use Rattle.lido_syntax.specs.declared.spec.Expr.{Expr}
use Rattle.lido_syntax.specs.declared.spec.RuleItem.{RuleItem}
use Rattle.lido_syntax.specs.declared.spec.Severity.{Severity}
use Rattle.lido_syntax.specs.declared.spec.Target.TheVariants as target
use Rattle.lido_syntax.specs.Assignment.{Assignment}
use Rattle.lido_syntax.specs.Computation.{by_rule}
use Rattle.lido_syntax.specs.Sets.{Sets}
use Rattle.lido_syntax.specs.Nodes.{IsAt}
use Rattle.lido_syntax.specs.Chains.{IsValue}
use Rattle.lido_syntax.specs.Messages.{IsMessage, unconditional, conditional}
use Rattle.trials_of_syntax.proofs.ValueLemmas.{ComesTo, has_value, only_value}

module _ (spec : Spec) (sets : Sets spec) (env : Environment) (t : Tree Plain) (A : Assignment) (n : ℕ) (r : RuleItem) (at : IsAt spec t n r) (c : Comp) (s : Severity) where
  pub gives_text : (u : Plain) → c.target ≡ target.Message s None → ComesTo spec sets env t A n by_rule r at c.number c.value u → IsMessage spec sets env t A n c u
  gives_text u is h = unconditional is (has_value spec sets env t A n by_rule r at c.number c.value u h)

  pub only_text : (u v : Plain) → c.target ≡ target.Message s None → ComesTo spec sets env t A n by_rule r at c.number c.value u → IsMessage spec sets env t A n c v → v ≡ u
  only_text u v is h (unconditional e x) = only_value spec sets env t A n by_rule r at c.number c.value u v h x
  only_text u _ is h (conditional e x y) = cc

  pub gives : (e : Expr) (b u : Plain) → c.target ≡ target.Message s (Some e) → ComesTo spec sets env t A n by_rule r at c.number e b → ComesTo spec sets env t A n by_rule r at c.number c.value u → IsMessage spec sets env t A n c (chosen (b ∷ u ∷ Void ∷ []))
  gives e b u is h k = conditional is (has_value spec sets env t A n by_rule r at c.number e b h) (has_value spec sets env t A n by_rule r at c.number c.value u k)

  pub only : (e : Expr) (b u v : Plain) → c.target ≡ target.Message s (Some e) → ComesTo spec sets env t A n by_rule r at c.number e b → ComesTo spec sets env t A n by_rule r at c.number c.value u → IsMessage spec sets env t A n c v → v ≡ chosen (b ∷ u ∷ Void ∷ [])
  only e b u v is h k (unconditional f x) = cc
  only e b u _ is h k (conditional {e = d} {condition = p} {text = q} f x y) =
      let same : d ≡ e = cc in
      let conditions : p ≡ b = only_value spec sets env t A n by_rule r at c.number e b p h (subst (λ d. IsValue spec sets env t A n by_rule c.number d p) same x) in
      let texts : q ≡ u = only_value spec sets env t A n by_rule r at c.number c.value u q k y in
      λ i. chosen (conditions i ∷ texts i ∷ Void ∷ [])
