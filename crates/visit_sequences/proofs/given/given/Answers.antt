use Rattle.std.specs.Prelude.{Contains}
use Rattle.std.proofs.Common.{◌≡◌, ◌+◌, sym, subst}
use Rattle.flat_grammar.specs.declared.flat.Occ.{Occ}
use Rattle.flat_grammar.specs.declared.plan.VisitClass.{VisitClass}
use Rattle.visit_sequences.specs.Steps.{HandsOn, PassesIn}
use Rattle.visit_sequences.proofs.ChoiceLemmas.{if_ok-then}
use Rattle.visit_sequences.proofs.given.given.Goals as goal

pub returns-in-Visit : goal.returns-in-Visit
returns-in-Visit c =
    if_ok-then c.all_at-in-Visit.result (λ given. (u : Occ) → u.occ ≡ c.in-Visit.occ → Contains c.synthesized_in.result.now u.attr → Contains given.items u) (λ given. (u : Occ) → HandsOn c.args.visits.now c.args.rule.now c.args.item u → Contains given.items u)
    (λ given h u gives. let g = subst (λ i. HandsOn c.args.visits.now c.args.rule.now i u) c.in-Visit.is gives in
    h u g.0 ((c.synthesized_in.ensures u.attr).1 (subst (λ row. PassesIn (λ (s : VisitClass). s.synthesized) row c.in-Visit.visit u.attr) (sym c.visits_at-row.ensures) g.1)))
    c.all_at-in-Visit.ensures

pub returns-in-Leave : goal.returns-in-Leave
returns-in-Leave c =
    if_ok-then c.all_at-in-Leave.result (λ given. (u : Occ) → u.occ ≡ 0 → Contains c.inherited_in.result.now u.attr → Contains given.items u) (λ given. (u : Occ) → HandsOn c.args.visits.now c.args.rule.now c.args.item u → Contains given.items u)
    (λ given h u gives. let g = subst (λ i. HandsOn c.args.visits.now c.args.rule.now i u) c.in-Leave.is gives in
    h u g.0 ((c.inherited_in.ensures u.attr).1 (subst (λ row. PassesIn (λ (s : VisitClass). s.inherited) row (c.in-Leave.visit + 1) u.attr) (sym c.visits_at-row-in-Leave.ensures) g.1)))
    c.all_at-in-Leave.ensures
