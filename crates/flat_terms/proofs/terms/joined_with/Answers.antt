use Rattle.std.proofs.Common.{sym, subst, ◌∙◌}
use Rattle.std.proofs.lemmas.Option.{same_Some}
use Rattle.std.proofs.lemmas.Result.{IfOk-weaker}
use Rattle.flat_terms.specs.Sites.{IsKnownWith}
use Rattle.flat_terms.specs.Terms.{HasWith}
use Rattle.flat_terms.proofs.TermLemmas.{piece-read, lone-some, lone-none}
use Rattle.flat_terms.proofs.terms.joined_with.Goals as goal

pub returns-in-Some : goal.returns-in-Some
returns-in-Some c = λ scene is e joined with.
    let t = c.args.added.now.tables.now in let number = c.args.number in
    piece-read scene t number c.in-Some.at c.added_occ.result (c.added_occ.ensures scene is) e (lone-some scene t number c.args.pieces.now c.in-Some.at e (sym c.in-Some.ensures) joined)

pub returns-in-Some-at : goal.returns-in-Some-at
returns-in-Some-at c =
    let added = c.args.added.now in let t = added.tables.now in let site = c.args.site.now in let number = c.args.number in let pieces = c.args.pieces.now in
    IfOk-weaker c.joined.result _ _ (λ made h scene is e joined with.
    let needs = lone-none scene t site added number pieces e (sym c.in_default.ensures) joined with in
    let same = same_Some c.in-Some-at.with needs.0 (c.in-Some-at.ensures ∙ needs.1) in
    h scene is (subst (IsKnownWith scene site) (sym same) needs.2) needs.3 e joined (subst (λ w. HasWith w e) (sym same) needs.4)) c.joined.ensures
