use Rattle.std.proofs.Common.{◌∙◌, sym, subst, ap, arith, List, ℕ, get_or, length, length-append}
use Rattle.std.specs.Prelude.{Contains, ◌↔◌, slice_get}
use Rattle.std.proofs.lemmas.Option.{slice_get-get_or}
use Rattle.flat_grammar.specs.declared.flat.Occ.{Occ}
use Rattle.partitions.specs.RuleGraph.{IsComingAt}
use Rattle.partitions.proofs.EdgesLemmas.{preds-push, preds-edges}
use Rattle.partitions.proofs.edges.symbol_preds.Goals as goal

pub loop-o-preserved : goal.loop-o-preserved
loop-o-preserved c =
    let vertices = c.args.vertices.now in
    let d : Occ = record { occ = 0; attr = record { 0 = 0 } } in
    let o : Occ = get_or c.deref-o-items.result.now c.loop-o.o-index d in
    record {
      count = ap (λ (xs : List (List ℕ)). length xs) c.in_ok-push.ensures.items ∙ omega (arith, length-append {A = List ℕ}, c.loop-o.invariant.count);
      rows = preds-push c.args.rule.now c.args.ids.now c.args.later.now vertices.starts.items vertices.occs.items c.loop-o.o-index c.loop-o.preds.items c.push.new.self.items c.in_ok-row.row o c.loop-o.invariant.rows c.loop-o.invariant.count
          (ap (λ (xs : List Occ). slice_get xs c.loop-o.o-index) (sym c.deref-o-items.ensures.value) ∙ slice_get-get_or c.deref-o-items.result.now c.loop-o.o-index d c.loop-o-test.true) c.in_ok-push.ensures.items
          (λ u. subst (λ (starts : List ℕ). Contains c.in_ok-row.row u ↔ IsComingAt c.args.rule.now c.args.ids.now c.args.later.now starts o u) c.deref.ensures.value (c.in_ok-row.ensures u));
    }

pub returns-clause-edges : goal.returns-clause-edges
returns-clause-edges c = preds-edges c.args.rule.now c.args.ids.now c.args.later.now c.args.vertices.now.starts.items c.args.vertices.now.occs.items c.loop-o.preds.items c.loop-o.invariant.rows
    (omega (arith, c.loop-o.invariant.count, ap (λ (xs : List Occ). length xs) c.deref-o-items.ensures.value))
