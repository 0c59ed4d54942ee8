use Rattle.std.specs.List.{AllZip}
use Rattle.std.proofs.Common.{sym, ap, subst, ◌∙◌}
use Rattle.std.proofs.lemmas.Result.{IfOk-weaker}
use Rattle.rule_tables.specs.ExtraOf.{IsSlotOf, IsTermAs}
use Rattle.flat_terms.specs.Terms.{IsNamedAs, slots_of_pieces}
use Rattle.flat_terms.proofs.TermLemmas.{joined-given, joined-needed, read-needed, term-copied}
use Rattle.flat_terms.proofs.term_needs.given_needs.Goals as goal

pub returns-in-Read : goal.returns-in-Read
returns-in-Read c =
    let t = c.args.added.now.tables.now in
    IfOk-weaker c.added_occs.result _ _ (λ found h scene is e term named.
    let n = read-needed scene t c.in-Read.at e (subst (λ g. IsTermAs t scene.plain g e) c.in-Read.is term) in
    h scene is n.0 n.1 ∙ n.2) c.added_occs.ensures

pub returns-in-Copied : goal.returns-in-Copied
returns-in-Copied c =
    let added = c.args.added.now in let t = added.tables.now in let site = c.args.site.now in let tails = c.args.tails.now in
    IfOk-weaker c.held_needs.result _ _ (λ found h scene is e term named.
    let x = term-copied scene t site tails added c.in-Copied.number e (subst (λ g. IsTermAs t scene.plain g e) c.in-Copied.is term) (subst (λ g. IsNamedAs scene site tails added g e) c.in-Copied.is named) in
    h scene is x.0 x.1 x.2 x.3 ∙ x.5) c.held_needs.ensures

pub returns-in_ok-slots-in-Joined : goal.returns-in_ok-slots-in-Joined
returns-in_ok-slots-in-Joined c =
    let t = c.args.added.now.tables.now in
    let number = c.in-Joined.field-0 in let pieces = c.in-Joined.pieces in
    IfOk-weaker c.added_occs-in-Joined.result _ _ (λ found h scene is e term named.
    let joined = subst (λ g. IsTermAs t scene.plain g e) c.in-Joined.is term in
    let n = joined-needed scene t number pieces e joined in
    let slots = c.as_slice-in-Joined-2.ensures.value ∙ c.in_ok-slots-in-Joined.ensures ∙ ap slots_of_pieces c.as_slice-in-Joined.ensures in
    h scene is n.0 (subst (λ l. AllZip (IsSlotOf t scene.plain) l n.0) (sym slots) n.1) ∙ n.2 ∙ (joined-given scene t number pieces e joined).1) c.added_occs-in-Joined.ensures
