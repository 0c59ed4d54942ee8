use Rattle.std.proofs.Common.{◌≡◌, ℕ, List, Some, length, sym, subst, ap, ◌∙◌, arith}
use Rattle.std.specs.Prelude.{slice_get, ◌↔◌}
use Rattle.flat_grammar.specs.Dependencies.{DP}
use Rattle.flat_grammar.specs.declared.flat.Occ.{Occ}
use Rattle.partitions.specs.Graph.{IsEdge, IsGraph, IsOrdered, IsGraphCycle}
use Rattle.partitions.specs.RuleGraph.{AreStepsOf, IsStepOf}
use Rattle.partitions.proofs.ExtendedLemmas.{vertex-within, vertex-attribute}
use Rattle.partitions.proofs.StepsLemmas.{is-graph, is-ranked, cycle-vertices, cycle-steps, cycle-is}
use Rattle.partitions.proofs.rule_cycle.rule_cycle.Goals as goal

pub find_cycle-requires-clause-graph : goal.find_cycle-requires-clause-graph
find_cycle-requires-clause-graph c = subst (λ (preds : List (List ℕ)). IsGraph preds) (sym c.deref.ensures.value)
    (is-graph c.args.flat.now.symbols c.args.flat.now.rules c.args.rule.now c.in_ok-vertices.vertices.occs.items c.in_ok-vertices.vertices.starts.items c.in_ok-preds.preds.items c.in_ok-vertices.ensures c.in_ok-preds.ensures)

pub returns-in-None-clause-ranked : goal.returns-in-None-clause-ranked
returns-in-None-clause-ranked c = is-ranked c.args.flat.now.symbols c.args.flat.now.rules c.args.rule.now c.in_ok-vertices.vertices.occs.items c.in_ok-vertices.vertices.starts.items c.in_ok-preds.preds.items c.in_ok-vertices.ensures c.in_ok-preds.ensures
    (subst (λ (preds : List (List ℕ)). IsOrdered preds) c.deref.ensures.value (rw c.in-None.is at c.in_ok-find_cycle.ensures.ordered))

pub steps_of-requires-clause-vertices : goal.steps_of-requires-clause-vertices
steps_of-requires-clause-vertices c = λ j v at.
    let h = cycle-vertices c.args.flat.now.symbols c.args.flat.now.rules c.args.rule.now c.in_ok-vertices.vertices.occs.items c.in_ok-vertices.vertices.starts.items c.in_ok-preds.preds.items c.in_ok-vertices.ensures c.in_ok-preds.ensures
    c.in-Some.cycle.items (subst (λ (preds : List (List ℕ)). IsGraphCycle preds c.in-Some.cycle.items) c.deref.ensures.value (rw c.in-Some.is at c.in_ok-find_cycle.ensures.cycle)) j v (subst (λ (xs : List ℕ). slice_get xs j ≡ Some v) c.deref-in-Some-3.ensures.value at) in
    omega (arith, h, ap (λ (xs : List Occ). length xs) c.deref-in-Some-2.ensures.value)

pub steps_of-requires-clause-edges : goal.steps_of-requires-clause-edges
steps_of-requires-clause-edges c =
    let symbols = c.args.flat.now.symbols in
    let rules = c.args.flat.now.rules in
    subst (λ (xs : List ℕ). AreStepsOf symbols rules c.args.rule.now c.deref-in-Some-2.result.now xs) (sym c.deref-in-Some-3.ensures.value)
    (subst (λ (xs : List Occ). AreStepsOf symbols rules c.args.rule.now xs c.in-Some.cycle.items) (sym c.deref-in-Some-2.ensures.value)
    (cycle-steps c.args.flat.now.symbols c.args.flat.now.rules c.args.rule.now c.in_ok-vertices.vertices.occs.items c.in_ok-vertices.vertices.starts.items c.in_ok-preds.preds.items c.in_ok-vertices.ensures c.in_ok-preds.ensures
    c.in-Some.cycle.items (subst (λ (preds : List (List ℕ)). IsGraphCycle preds c.in-Some.cycle.items) c.deref.ensures.value (rw c.in-Some.is at c.in_ok-find_cycle.ensures.cycle))))

pub steps_of-requires-clause-occurrences : goal.steps_of-requires-clause-occurrences
steps_of-requires-clause-occurrences c = λ v o at.
    let got = subst (λ (xs : List Occ). slice_get xs v ≡ Some o) c.deref-in-Some-2.ensures.value at in (
      vertex-within c.args.flat.now.symbols c.args.flat.now.rules c.args.flat.now.well_formed.each_rule c.args.flat.now.well_formed.few_attributes
          c.args.rule.now c.requires.rule c.in_ok-vertices.vertices.occs.items c.in_ok-vertices.vertices.starts.items c.in_ok-vertices.ensures v o got,
      vertex-attribute c.args.flat.now.symbols c.args.flat.now.rules c.args.flat.now.well_formed.each_rule c.args.flat.now.well_formed.few_attributes
          c.args.rule.now c.requires.rule c.in_ok-vertices.vertices.occs.items c.in_ok-vertices.vertices.starts.items c.in_ok-vertices.ensures v o got,
    )

pub returns-clause-cycle : goal.returns-clause-cycle
returns-clause-cycle c =
    let symbols = c.args.flat.now.symbols in
    let rules = c.args.flat.now.rules in
    cycle-is c.args.flat.now.symbols c.args.flat.now.rules c.args.rule.now c.in_ok-vertices.vertices.occs.items c.in_ok-vertices.vertices.starts.items c.in_ok-preds.preds.items c.in_ok-vertices.ensures c.in_ok-preds.ensures
    c.in-Some.cycle.items (subst (λ (preds : List (List ℕ)). IsGraphCycle preds c.in-Some.cycle.items) c.deref.ensures.value (rw c.in-Some.is at c.in_ok-find_cycle.ensures.cycle)) c.in_ok-steps-in-Some.steps
    (c.in_ok-steps-in-Some.ensures.count ∙ ap (λ (xs : List ℕ). length xs) c.deref-in-Some-3.ensures.value)
    (λ j s at. subst (λ (xs : List ℕ). IsStepOf symbols rules c.args.rule.now c.in_ok-vertices.vertices.occs.items xs j s) c.deref-in-Some-3.ensures.value
    (subst (λ (xs : List Occ). IsStepOf symbols rules c.args.rule.now xs c.deref-in-Some-3.result.now j s) c.deref-in-Some-2.ensures.value (c.in_ok-steps-in-Some.ensures.steps j s at)))

pub steps_of-requires-clause-count : goal.steps_of-requires-clause-count
steps_of-requires-clause-count c = ap (λ (xs : List (List ℕ)). length xs) c.deref-in-Some.ensures.value ∙ c.in_ok-direct-in-Some.ensures.count ∙ sym (ap (λ (xs : List Occ). length xs) c.deref-in-Some-2.ensures.value)

pub steps_of-requires-clause-direct : goal.steps_of-requires-clause-direct
steps_of-requires-clause-direct c = λ u v o p at_u at_v. subst (λ (preds : List (List ℕ)). IsEdge preds u v ↔ DP c.args.rule.now o p) (sym c.deref-in-Some.ensures.value)
    (c.in_ok-direct-in-Some.ensures.edges u v o p (subst (λ (xs : List Occ). slice_get xs u ≡ Some o) c.deref-in-Some-2.ensures.value at_u) (subst (λ (xs : List Occ). slice_get xs v ≡ Some p) c.deref-in-Some-2.ensures.value at_v))
