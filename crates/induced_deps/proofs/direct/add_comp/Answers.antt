use Rattle.std.proofs.Common.{subst, List}
use Rattle.std.specs.Prelude.{Contains}
use Rattle.flat_grammar.specs.declared.flat.Occ.{Occ}
use Rattle.flat_grammar.specs.Rules.{dependencies}
use Rattle.induced_deps.proofs.DirectLemmas.{same_dependencies}
use Rattle.induced_deps.proofs.direct.add_comp.Goals as goal

pub add_edges-requires-clause-before : goal.add_edges-requires-clause-before
add_edges-requires-clause-before c = λ u h. c.requires.placed.1 u ((c.in_ok-before.ensures u).0 (subst (λ (xs : List Occ). Contains xs u) c.as_slice.ensures.value h))

pub returns-clause-edges : goal.returns-clause-edges
returns-clause-edges c = same_dependencies c.args.places.now c.args.closure.now.rows.items c.add_edges.new.closure.rows.items c.in_ok-before.before.items (dependencies c.args.comp.now) c.args.comp.now.goal
    c.in_ok-before.ensures (rw c.as_slice.ensures.value at c.add_edges.ensures.edges)
