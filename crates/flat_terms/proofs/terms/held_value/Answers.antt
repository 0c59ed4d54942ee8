use Rattle.std.proofs.Common.{◌≡◌, sym, ap, subst, ◌∙◌}
use Rattle.std.proofs.lemmas.Option.{same_Some}
use Rattle.std.proofs.lemmas.Result.{IfOk-weaker}
use Rattle.lido_syntax.specs.declared.spec.Comp.{Comp}
use Rattle.numbered_computations.specs.declared.table.Holder.{Holder as Body}
use Rattle.flat_terms.specs.Names.{holder_as}
use Rattle.flat_terms.specs.Scene.{computed}
use Rattle.flat_terms.specs.Sites.{IsNamedComp}
use Rattle.flat_terms.proofs.terms.held_value.Goals as goal

pub returns-in-Some : goal.returns-in-Some
returns-in-Some c =
    let held = c.in-Some.held in
    IfOk-weaker c.computed.result _ _ (λ made h scene is body comp at named.
    let pair : (held.holder, held.comp.now) ≡ (body, comp) = same_Some (held.holder, held.comp.now) (body, comp) (c.in-Some.ensures ∙ at) in
    h scene is (subst (IsNamedComp scene c.args.site.now c.args.tails.now) (sym (ap (λ (x : Body × Comp). x.1) pair)) named)
    ∙ ap (λ (x : Body × Comp). computed scene (holder_as x.0) c.args.context x.1) pair) c.computed.ensures
