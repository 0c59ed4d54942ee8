use Rattle.std.proofs.Common.{◌≡◌, ℕ, List, length, inl, inr, subst, ap, arith}
use Rattle.std.specs.Prelude.{◌↔◌, ◌⊎◌, Contains}
use Rattle.flat_grammar.specs.declared.flat.FlatComp.{FlatComp}
use Rattle.flat_grammar.proofs.BitsLemmas.{iff_then}
use Rattle.partitions.specs.Graph.{IsEdge}
use Rattle.partitions.specs.RuleGraph.{IsNumberOf, IsDirectBy}
use Rattle.partitions.proofs.ExtendedLemmas.{dependency-within, goal-within, goal-vertex, direct-is}
use Rattle.partitions.proofs.rule_cycle.direct_graph.Goals as goal

pub add_direct-requires-clause-occurrences : goal.add_direct-requires-clause-occurrences
add_direct-requires-clause-occurrences c = λ comp o m d.
    let h = dependency-within c.args.flat.now.symbols c.args.flat.now.rules c.args.flat.now.well_formed.each_rule c.args.flat.now.well_formed.few_attributes c.args.rule.now c.requires.rule c.args.vertices.now.occs.items c.args.vertices.now.starts.items c.requires.vertices comp o (subst (λ (xs : List FlatComp). Contains xs comp) c.as_slice.ensures m) d in
    let n : length c.deref.result.now ≡ length c.args.vertices.now.starts.items = ap (λ (xs : List ℕ). length xs) c.deref.ensures.value in omega arith

pub add_direct-requires-clause-goals : goal.add_direct-requires-clause-goals
add_direct-requires-clause-goals c = λ comp m.
    let h = goal-within c.args.flat.now.symbols c.args.flat.now.rules c.args.flat.now.well_formed.each_rule c.args.flat.now.well_formed.few_attributes c.args.rule.now c.requires.rule c.args.vertices.now.occs.items c.args.vertices.now.starts.items c.requires.vertices comp (subst (λ (xs : List FlatComp). Contains xs comp) c.as_slice.ensures m) in
    let n : length c.deref.result.now ≡ length c.args.vertices.now.starts.items = ap (λ (xs : List ℕ). length xs) c.deref.ensures.value in omega arith

pub add_direct-requires-clause-vertices : goal.add_direct-requires-clause-vertices
add_direct-requires-clause-vertices c = λ comp v m n.
    let h = goal-vertex c.args.flat.now.symbols c.args.flat.now.rules c.args.flat.now.well_formed.each_rule c.args.flat.now.well_formed.few_attributes c.args.rule.now c.requires.rule c.args.vertices.now.occs.items c.args.vertices.now.starts.items c.requires.vertices comp v (subst (λ (xs : List FlatComp). Contains xs comp) c.as_slice.ensures m) (subst (λ (starts : List ℕ). IsNumberOf starts comp.goal v) c.deref.ensures.value n) in
    omega (arith, h, c.in_ok-preds.ensures.count, c.len.ensures, c.args.vertices.now.occs.ok.0)

pub returns-clause-count : goal.returns-clause-count
returns-clause-count c = omega (arith, c.in_ok-add_direct.ensures.count, c.in_ok-preds.ensures.count, c.len.ensures, c.args.vertices.now.occs.ok.0)

only : {A B : Type 0} → (A → ⊥) → (A ⊎ B) ↔ B
only none = (λ either. elim either [ inl a ↦ absurd (none a) | inr b ↦ b ], λ b. inr b)

pub returns-clause-edges : goal.returns-clause-edges
returns-clause-edges c = λ u v o p at_u at_v. iff_then
    (subst (λ (comps : List FlatComp). IsEdge c.add_direct.new.preds.items u v ↔ (IsEdge c.in_ok-preds.preds.items u v ⊎ IsDirectBy c.args.vertices.now.starts.items comps u v)) c.as_slice.ensures
    (subst (λ (starts : List ℕ). IsEdge c.add_direct.new.preds.items u v ↔ (IsEdge c.in_ok-preds.preds.items u v ⊎ IsDirectBy starts c.as_slice.result.now u v)) c.deref.ensures.value (c.in_ok-add_direct.ensures.edges u v)))
    (iff_then (only (c.in_ok-preds.ensures.edges u v)) (direct-is c.args.flat.now.symbols c.args.flat.now.rules c.args.flat.now.well_formed.each_rule c.args.flat.now.well_formed.few_attributes c.args.rule.now c.requires.rule c.args.vertices.now.occs.items c.args.vertices.now.starts.items c.requires.vertices u v o p at_u at_v))
