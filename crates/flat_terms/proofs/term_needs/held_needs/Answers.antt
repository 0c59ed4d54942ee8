use Rattle.std.proofs.Common.{◌≡◌, sym, ap, subst, ◌∙◌}
use Rattle.std.proofs.lemmas.Option.{same_Some}
use Rattle.std.proofs.lemmas.Result.{IfOk-weaker}
use Rattle.lido_syntax.specs.declared.spec.Comp.{Comp}
use Rattle.numbered_computations.specs.declared.table.Holder.{Holder as Body}
use Rattle.flat_terms.specs.Scene.{computed_needs}
use Rattle.flat_terms.specs.Sites.{IsNamedComp}
use Rattle.flat_terms.proofs.term_needs.held_needs.Goals as goal

pub returns-in-Some : goal.returns-in-Some
returns-in-Some c =
    let held = c.in-Some.held in
    IfOk-weaker c.computed_needs.result _ _ (λ found h scene is body comp at named.
    let pair : (held.holder, held.comp.now) ≡ (body, comp) = same_Some (held.holder, held.comp.now) (body, comp) (c.in-Some.ensures ∙ at) in
    let same = ap (λ (x : Body × Comp). x.1) pair in
    h scene is (subst (IsNamedComp scene c.args.site.now c.args.tails.now) (sym same) named) ∙ ap (computed_needs scene c.args.context) same) c.computed_needs.ensures
