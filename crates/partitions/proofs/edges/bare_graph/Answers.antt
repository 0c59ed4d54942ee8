use Rattle.std.proofs.Common.{◌≡◌, ◌∙◌, List, ℕ, Some, inl, inr, ap, sym, subst, length, length-append, arith}
use Rattle.std.specs.Prelude.{slice_get, Contains}
use Rattle.flat_grammar.proofs.Lists.{contains-nil}
use Rattle.partitions.proofs.PeelingLemmas.{pushed-get}
use Rattle.partitions.proofs.edges.bare_graph.Goals as goal

pub loop-preserved : goal.loop-preserved
loop-preserved c = record {
  count = ap (λ (xs : List (List ℕ)). length xs) c.in_ok-push.ensures.items ∙ omega (arith, length-append {A = List ℕ}, c.loop.invariant.count);
  none = λ v row at. elim (pushed-get c.loop.preds.items _ v row (subst (λ (xs : List (List ℕ)). slice_get xs v ≡ Some row) c.in_ok-push.ensures.items at)) [ inl old ↦ c.loop.invariant.none v row old | inr new ↦ sym new.1 ∙ c.new.ensures ];
}

pub returns-clause-edges : goal.returns-clause-edges
returns-clause-edges c = λ u v (row, at, m). contains-nil u (subst (λ (xs : List ℕ). Contains xs u) (c.loop.invariant.none v row at) m)
