use Rattle.std.proofs.Common.{sym, ap, subst, ◌∙◌}
use Rattle.std.proofs.lemmas.Result.{IfOk-weaker}
use Rattle.rule_tables.specs.Copies.{nothing}
use Rattle.flat_terms.specs.Names.{holder_as}
use Rattle.flat_terms.specs.Scene.{copy_of, constituents}
use Rattle.flat_terms.specs.Sites.{IsNamed, IsGathered}
use Rattle.flat_terms.proofs.leaves.HereLeaves.leaf.Goals as goal

pub returns-in-Terminal : goal.returns-in-Terminal
returns-in-Terminal c = λ scene is named number.
    let here = c.args.self.now in
    c.bare.ensures scene is (λ chain. nothing) ∙ ap (copy_of scene (λ chain. nothing) (holder_as here.holder) here.context number) (sym c.in-Terminal.is)

pub returns-in-Constituents : goal.returns-in-Constituents
returns-in-Constituents c =
    let here = c.args.self.now in
    let site = here.site.now in
    IfOk-weaker c.below.result _ _ (λ made h scene is named number.
    let gathered : IsGathered scene site c.in-Constituents.cons = subst (IsNamed scene site) c.in-Constituents.is named in
    h scene is (subst (IsGathered scene site) (sym c.get-in-Constituents.ensures) gathered) (λ chain. nothing) (holder_as here.holder) here.context
    ∙ ap (constituents scene (λ chain. nothing) (holder_as here.holder) here.context) c.get-in-Constituents.ensures
    ∙ ap (copy_of scene (λ chain. nothing) (holder_as here.holder) here.context number) (sym c.in-Constituents.is)) c.below.ensures

pub returns-in-Call : goal.returns-in-Call
returns-in-Call c = λ scene is named number. absurd (subst (IsNamed scene c.args.self.now.site.now) c.in-Call.is named)
