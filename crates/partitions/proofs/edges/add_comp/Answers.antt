use Rattle.std.proofs.Common.{List, subst}
use Rattle.flat_grammar.specs.declared.flat.Occ.{Occ}
use Rattle.flat_grammar.proofs.BitsLemmas.{iff_then}
use Rattle.partitions.proofs.EdgesLemmas.{or-same, same-members}
use Rattle.std.specs.Prelude.{Contains}
use Rattle.partitions.proofs.edges.add_comp.Goals as goal

pub add_preds-requires-clause-occurrences : goal.add_preds-requires-clause-occurrences
add_preds-requires-clause-occurrences c = λ o m. c.requires.occurrences o ((c.in_ok-from.ensures o).0 (subst (λ (xs : List Occ). Contains xs o) c.deref.ensures.value m))

pub returns-clause-edges : goal.returns-clause-edges
returns-clause-edges c = λ u v. iff_then (c.in_ok-add_preds.ensures.edges u v) (or-same (same-members c.args.starts.now c.deref.result.now c.in_ok-from.from.items _ c.args.comp.now.goal c.deref.ensures.value c.in_ok-from.ensures u v))
