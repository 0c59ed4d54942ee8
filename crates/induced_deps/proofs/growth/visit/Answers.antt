use Rattle.std.proofs.Common.{◌≡◌, ◌∙◌, sym, ap, arith, ◌≤◌, subst}
use Rattle.std.specs.Prelude.{slice_index_or, slice_set, false}
use Rattle.std.proofs.lemmas.List.Elements.{All-contains}
use Rattle.flat_grammar.specs.WellFormed.{IsRule}
use Rattle.flat_grammar.specs.declared.flat.FlatRule.{FlatRule}
use Rattle.flat_grammar.proofs.Lists.{held}
use Rattle.induced_deps.specs.Graphs.{AreDue, IsGraph, IsSettled}
use Rattle.induced_deps.specs.Vertices.{AreWithin}
use Rattle.induced_deps.proofs.GraphLemmas.{within_all}
use Rattle.induced_deps.proofs.GrowthLemmas.{graph_at, graph_grows, graphs_grow, have_rows, rows_stay_sound}
use Rattle.induced_deps.proofs.DueLemmas.{is_ready, due_grown, due_cleared}
use Rattle.induced_deps.proofs.growth.visit.Goals as goal

pub step-requires-clause-rows : goal.step-requires-clause-rows
step-requires-clause-rows c =
    let flat = c.args.flat.now in
    let graphs = c.args.graphs.now in
    let k = c.args.rule in
    let (r, at, g) = graph_at flat.symbols flat.rules graphs c.requires.graphs k c.index-graphs-rule.result c.requires.rule in
    let old = slice_index_or graphs k c.index-graphs-rule.result in
    have_rows flat.symbols flat.rules c.args.ids.now c.requires.rows r old.places.items (All-contains (IsRule flat.symbols) flat.rules r flat.well_formed.each_rule g.among) flat.well_formed.few_attributes g.places_are

pub step-requires-clause-within : goal.step-requires-clause-within
step-requires-clause-within c =
    let flat = c.args.flat.now in
    let graphs = c.args.graphs.now in
    let k = c.args.rule in
    let (r, at, g) = graph_at flat.symbols flat.rules graphs c.requires.graphs k c.index-graphs-rule.result c.requires.rule in
    let old = slice_index_or graphs k c.index-graphs-rule.result in
    subst (AreWithin old.places.items) (sym g.size) (within_all flat.symbols r old.places.items g.places_are)

pub step-requires-clause-few : goal.step-requires-clause-few
step-requires-clause-few c =
    let flat = c.args.flat.now in
    let graphs = c.args.graphs.now in
    let k = c.args.rule in
    let (r, at, g) = graph_at flat.symbols flat.rules graphs c.requires.graphs k c.index-graphs-rule.result c.requires.rule in
    let old = slice_index_or graphs k c.index-graphs-rule.result in
    subst (λ n. n ≤ 1024) (sym g.size) g.few

pub step-requires-clause-transitive : goal.step-requires-clause-transitive
step-requires-clause-transitive c =
    let flat = c.args.flat.now in
    let graphs = c.args.graphs.now in
    let k = c.args.rule in
    let (r, at, g) = graph_at flat.symbols flat.rules graphs c.requires.graphs k c.index-graphs-rule.result c.requires.rule in
    let old = slice_index_or graphs k c.index-graphs-rule.result in
    g.transitive

pub step-requires-clause-ready : goal.step-requires-clause-ready
step-requires-clause-ready c = is_ready c.args.graphs.now c.args.ids.now c.args.due.now c.requires.due

pub returns-then-step-clause-graphs : goal.returns-then-step-clause-graphs
returns-then-step-clause-graphs c =
    let flat = c.args.flat.now in
    let graphs = c.args.graphs.now in
    let k = c.args.rule in
    let s = c.step in
    let (r, at, g) = graph_at flat.symbols flat.rules graphs c.requires.graphs k c.index-graphs-rule.result c.requires.rule in
    let old = slice_index_or graphs k c.index-graphs-rule.result in
    let grown = graph_grows flat.symbols flat.rules r old.places.items c.args.ids.now g.places_are c.requires.sound old.closure.rows.items s.new.graph.closure.rows.items g s.ensures.size s.ensures.transitive s.ensures.edges in
    let new_graph : (q : FlatRule) → r ≡ q → IsGraph flat.symbols flat.rules q s.new.graph.places.items s.new.graph.closure.rows.items =
    λ q is. subst (λ (x : FlatRule). IsGraph flat.symbols flat.rules x s.new.graph.places.items s.new.graph.closure.rows.items) is (subst (λ ps. IsGraph flat.symbols flat.rules r ps s.new.graph.closure.rows.items) (sym (ap (λ places. places.items) s.ensures.places)) grown) in
    graphs_grow flat.symbols flat.rules graphs c.requires.graphs k c.index-graphs-rule.result c.requires.rule s.new.graph (λ q found. new_graph q (held (sym at ∙ found)))

pub returns-clause-graphs : goal.returns-clause-graphs
returns-clause-graphs c =
    let flat = c.args.flat.now in
    let graphs = c.args.graphs.now in
    let k = c.args.rule in
    let s = c.step in
    let (r, at, g) = graph_at flat.symbols flat.rules graphs c.requires.graphs k c.index-graphs-rule.result c.requires.rule in
    let old = slice_index_or graphs k c.index-graphs-rule.result in
    let grown = graph_grows flat.symbols flat.rules r old.places.items c.args.ids.now g.places_are c.requires.sound old.closure.rows.items s.new.graph.closure.rows.items g s.ensures.size s.ensures.transitive s.ensures.edges in
    let new_graph : (q : FlatRule) → r ≡ q → IsGraph flat.symbols flat.rules q s.new.graph.places.items s.new.graph.closure.rows.items =
    λ q is. subst (λ (x : FlatRule). IsGraph flat.symbols flat.rules x s.new.graph.places.items s.new.graph.closure.rows.items) is (subst (λ ps. IsGraph flat.symbols flat.rules r ps s.new.graph.closure.rows.items) (sym (ap (λ places. places.items) s.ensures.places)) grown) in
    graphs_grow flat.symbols flat.rules graphs c.requires.graphs k c.index-graphs-rule.result c.requires.rule s.new.graph (λ q found. new_graph q (held (sym at ∙ found)))

pub returns-then-step-clause-sound : goal.returns-then-step-clause-sound
returns-then-step-clause-sound c =
    let flat = c.args.flat.now in
    let graphs = c.args.graphs.now in
    let k = c.args.rule in
    let s = c.step in
    let (r, at, g) = graph_at flat.symbols flat.rules graphs c.requires.graphs k c.index-graphs-rule.result c.requires.rule in
    let old = slice_index_or graphs k c.index-graphs-rule.result in
    let grown = graph_grows flat.symbols flat.rules r old.places.items c.args.ids.now g.places_are c.requires.sound old.closure.rows.items s.new.graph.closure.rows.items g s.ensures.size s.ensures.transitive s.ensures.edges in
    rows_stay_sound flat.symbols flat.rules r old.places.items s.new.graph.closure.rows.items grown c.args.ids.now s.new.ids c.requires.sound s.ensures.sound

pub returns-then-step-clause-due : goal.returns-then-step-clause-due
returns-then-step-clause-due c =
    let count = c.requires.graphs.count in
    let asked = c.requires.rule in
    due_grown c.args.graphs.now c.args.rule c.index-graphs-rule.result c.step.new.graph (omega arith) c.step.ensures.places c.args.ids.now c.step.new.ids c.args.due.now c.step.new.due
    c.requires.due c.step.ensures.sizes c.step.ensures.tells (c.has.ensures.0 c.if-not-has.false)

pub returns-clause-due : goal.returns-clause-due
returns-clause-due c =
    let count = c.requires.graphs.count in
    let asked = c.requires.rule in
    let same = c.step.ensures.same c.if-step.false in
    let still = c.step.ensures.still c.if-step.false in
    subst (λ ids. AreDue (slice_set c.args.graphs.now c.args.rule c.step.new.graph) ids c.clear.new.self) (sym same)
    (due_cleared c.args.graphs.now c.args.rule c.index-graphs-rule.result c.step.new.graph (omega arith) c.step.ensures.places c.args.ids.now c.args.due.now c.clear.new.self c.requires.due
    (c.clear.ensures.users ∙ ap (λ v. v.users) still) (c.clear.ensures.flags ∙ ap (λ v. slice_set v.flags.items c.args.rule false) still)
    (subst (λ ids. IsSettled ids c.step.new.graph) same (c.step.ensures.settled c.if-step.false)))
