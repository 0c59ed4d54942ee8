use Rattle.std.proofs.Common.{sym, subst, ◌∙◌}
use Rattle.std.proofs.lemmas.Result.{IfOk-weaker}
use Rattle.rule_tables.specs.ExtraOf.{AreJoined, IsTermAs}
use Rattle.flat_terms.specs.Terms.{IsNamedAs}
use Rattle.flat_terms.proofs.TermLemmas.{joined-given, term-read, term-copied}
use Rattle.flat_terms.proofs.terms.given.Goals as goal

pub returns-in-Read : goal.returns-in-Read
returns-in-Read c = λ scene is e term named.
    let t = c.args.added.now.tables.now in
    term-read scene t c.in-Read.at c.added_occ.result (c.added_occ.ensures scene is) e (subst (λ g. IsTermAs t scene.plain g e) c.in-Read.is term)

pub returns-in-Copied : goal.returns-in-Copied
returns-in-Copied c =
    let added = c.args.added.now in let t = added.tables.now in let site = c.args.site.now in let tails = c.args.tails.now in
    IfOk-weaker c.held_value.result _ _ (λ made h scene is e term named.
    let x = term-copied scene t site tails added c.in-Copied.number e (subst (λ g. IsTermAs t scene.plain g e) c.in-Copied.is term) (subst (λ g. IsNamedAs scene site tails added g e) c.in-Copied.is named) in
    h scene is x.0 x.1 x.2 x.3 ∙ x.4) c.held_value.ensures

pub returns-in-Joined : goal.returns-in-Joined
returns-in-Joined c =
    let added = c.args.added.now in let t = added.tables.now in let site = c.args.site.now in
    let number = c.in-Joined.number in let pieces = c.in-Joined.pieces in
    IfOk-weaker c.joined_with.result _ _ (λ made h scene is e term named.
    let joined = subst (λ g. IsTermAs t scene.plain g e) c.in-Joined.is term in
    h scene is e (subst (λ l. AreJoined t scene.plain number l e) (sym c.as_slice.ensures) joined) (subst (λ g. IsNamedAs scene site c.args.tails.now added g e) c.in-Joined.is named)
    ∙ (joined-given scene t number pieces e joined).0) c.joined_with.ensures
