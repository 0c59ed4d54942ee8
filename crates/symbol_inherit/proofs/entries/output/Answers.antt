use Rattle.std.proofs.Common.{◌∙◌, inl, inr, ap, sym, subst, List, [], ◌∷◌, ◌++◌, take, true≢false}
use Rattle.std.specs.Prelude.{Contains}
use Rattle.std.proofs.lemmas.List.{take_more, take_all}
use Rattle.std.proofs.lemmas.List.Elements.{Contains-push_cases, Contains-get_or}
use Rattle.lido_syntax.specs.declared.spec.Comp.{Comp}
use Rattle.symbol_inherit.proofs.entries.output.Goals as goal

pub returns-then-is_output : goal.returns-then-is_output
returns-then-is_output c = (
  c.comp-item.result,
  subst (λ (d : Comp). Contains c.args.body.now d) (sym c.comp-item.is) (Contains-get_or c.args.body.now c.loop-comp.comp-index c.comp-item.result c.loop-comp-test.true),
  c.is_output.ensures.0 c.if-is_output.true,
  c.held_by_rule.ensures,
)

pub loop-comp-preserved : goal.loop-comp-preserved
loop-comp-preserved c = λ d m e.
    elim (Contains-push_cases (take c.loop-comp.comp-index c.args.body.now) c.comp-item.result d
    (subst (λ (l : List Comp). Contains l d) (take_more c.args.body.now c.loop-comp.comp-index c.comp-item.result c.loop-comp-test.true ∙ ap (λ (x : Comp). take c.loop-comp.comp-index c.args.body.now ++ x ∷ []) (sym c.comp-item.is)) m)) [
      | inl k ↦ c.loop-comp.invariant d k e
      | inr s ↦ true≢false (sym (c.is_output.ensures.1 (ap (λ (x : Comp). x.target) s ∙ e)) ∙ c.if-is_output.false)
    ]

pub returns : goal.returns
returns c = λ d m e. c.loop-comp.invariant d (subst (λ (l : List Comp). Contains l d) (sym (take_all c.loop-comp.comp-index c.args.body.now c.loop-comp-test.false)) m) e
