use Rattle.std.specs.Prelude.{slice_index, length}
use Rattle.std.proofs.Common.{◌≡◌, subst, sym, refl, arith}
use Rattle.std.proofs.lemmas.Option.{slice_get_within}
use Rattle.flat_grammar.specs.Construction.{IsChosen}
use Rattle.visit_sequences.specs.Steps.{visits_there, IsLeastChild, IsLeastOpen, IsNoChild, IsNextAt, IsReadyAt, Owes}
use Rattle.visit_sequences.proofs.ChoiceLemmas.{chosen-evaluation, chosen-ready, chosen-next, chosen-leave}
use Rattle.visit_sequences.proofs.FewVisits.{few-visits}
use Rattle.visit_sequences.proofs.progress.Progress.choose.Goals as goal

pub returns-in-Some-clause-chosen : goal.returns-in-Some-clause-chosen
returns-in-Some-clause-chosen c = chosen-evaluation c.args.flat.now.symbols c.args.flat.now.rules c.args.parts.now.visits c.args.rule.now c.args.goals.now c.requires.goals c.args.self.now c.requires.follows c.in-Some.goal (subst (IsLeastOpen c.args.self.now c.args.goals.now) c.in-Some.is c.requires.ready)

pub returns-in-Some-owed_child-clause-chosen : goal.returns-in-Some-owed_child-clause-chosen
returns-in-Some-owed_child-clause-chosen c =
    let flat = c.args.flat.now in
    let visits = c.args.parts.now.visits in
    let r = c.args.rule.now in
    let p = c.args.self.now in
    let k = c.in-Some-owed_child.occ in
    let quiet = subst (IsLeastOpen p c.args.goals.now) c.in_default.is c.requires.ready in
    let owed = subst (λ l. Owes l r p c.args.goals.now × IsLeastChild r (IsReadyAt l r p) k) c.as_slice-visits.ensures c.in-Some-owed_child.ensures.owed in
    chosen-ready flat.symbols flat.rules visits r c.args.goals.now c.requires.goals p c.requires.follows flat.shapes flat.root flat.well_formed c.requires.visits c.requires.rule k c.next_visit.result quiet owed c.next_visit.ensures

pub next_visit-requires : goal.next_visit-requires
next_visit-requires c =
    let flat = c.args.flat.now in
    let visits = c.args.parts.now.visits in
    let r = c.args.rule.now in
    let p = c.args.self.now in
    let k = c.in-Some-owed_child.occ in
    let owed = subst (λ l. Owes l r p c.args.goals.now × IsLeastChild r (IsReadyAt l r p) k) c.as_slice-visits.ensures c.in-Some-owed_child.ensures.owed in
    let ready = owed.1.2 in
    let few = few-visits flat.symbols flat.rules flat.shapes flat.root flat.well_formed visits c.requires.visits r k in
    let l = slice_get_within (visits_there visits r k) (slice_index p.made.items k) ready.0 ready.1 in omega (arith, few, l)

pub next_visit-requires-in-Some-last_child : goal.next_visit-requires-in-Some-last_child
next_visit-requires-in-Some-last_child c =
    let flat = c.args.flat.now in
    let visits = c.args.parts.now.visits in
    let r = c.args.rule.now in
    let p = c.args.self.now in
    let k = c.in-Some-last_child.occ in
    let last = subst (λ l. (p.segment ≡ length (visits_there l r 0)) × IsLeastChild r (IsNextAt l r p) k) c.as_slice-visits.ensures c.in-Some-last_child.ensures in
    let few = few-visits flat.symbols flat.rules flat.shapes flat.root flat.well_formed visits c.requires.visits r k in
    let l = last.1.2 in omega (arith, few, l)

pub end_of_visit-requires : goal.end_of_visit-requires
end_of_visit-requires c =
    let flat = c.args.flat.now in
    let few = few-visits flat.symbols flat.rules flat.shapes flat.root flat.well_formed c.args.parts.now.visits c.requires.visits c.args.rule.now 0 in omega (arith, few, c.requires.within)

pub returns-in-Some-last_child-clause-chosen : goal.returns-in-Some-last_child-clause-chosen
returns-in-Some-last_child-clause-chosen c =
    let flat = c.args.flat.now in
    let visits = c.args.parts.now.visits in
    let r = c.args.rule.now in
    let p = c.args.self.now in
    let k = c.in-Some-last_child.occ in
    let quiet = subst (IsLeastOpen p c.args.goals.now) c.in_default.is c.requires.ready in
    let idle = subst (λ l. Owes l r p c.args.goals.now → IsNoChild r (IsReadyAt l r p)) c.as_slice-visits.ensures c.in_default-owed_child.ensures.owed in
    let last = subst (λ l. (p.segment ≡ length (visits_there l r 0)) × IsLeastChild r (IsNextAt l r p) k) c.as_slice-visits.ensures c.in-Some-last_child.ensures in
    chosen-next flat.symbols flat.rules visits r c.args.goals.now c.requires.goals p c.requires.follows flat.shapes flat.root flat.well_formed c.requires.visits c.requires.rule k c.next_visit-in-Some-last_child.result quiet idle last c.next_visit-in-Some-last_child.ensures

pub returns-clause-chosen : goal.returns-clause-chosen
returns-clause-chosen c =
    let flat = c.args.flat.now in
    let visits = c.args.parts.now.visits in
    let r = c.args.rule.now in
    let p = c.args.self.now in
    let quiet = subst (IsLeastOpen p c.args.goals.now) c.in_default.is c.requires.ready in
    let idle = subst (λ l. Owes l r p c.args.goals.now → IsNoChild r (IsReadyAt l r p)) c.as_slice-visits.ensures c.in_default-owed_child.ensures.owed in
    let over = subst (λ l. p.segment ≡ length (visits_there l r 0) → IsNoChild r (IsNextAt l r p)) c.as_slice-visits.ensures c.in_default-last_child.ensures in
    subst (IsChosen flat.symbols flat.rules visits r p.items.items) (sym c.end_of_visit.ensures)
    (chosen-leave flat.symbols flat.rules visits r c.args.goals.now c.requires.goals p c.requires.follows flat.shapes flat.root flat.well_formed c.requires.visits c.requires.rule p.segment refl quiet idle over)
