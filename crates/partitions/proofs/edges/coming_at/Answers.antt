use Rattle.std.proofs.Common.{sym, subst, arith, List, ℕ, get_or}
use Rattle.std.specs.Prelude.{Contains, ◌↔◌}
use Rattle.std.proofs.lemmas.Option.{slice_get-get_or}
use Rattle.partitions.specs.RuleGraph.{IsComingAt}
use Rattle.partitions.proofs.EdgesLemmas.{coming-is}
use Rattle.partitions.proofs.edges.coming_at.Goals as goal

pub returns : goal.returns
returns c = λ u. subst (λ (row : List ℕ). Contains row u ↔ IsComingAt c.args.rule.now c.args.ids.now c.args.later.now c.args.starts.now c.args.o u) (sym c.from_vec.ensures)
    (coming-is c.args.rule.now c.args.ids.now c.args.later.now c.args.starts.now c.args.o c.symbol_of-x.result (get_or c.args.starts.now c.args.o.occ 0) c.in_ok-row.row.items c.rows_of.result.now c.rows_of-2.result.now c.symbol_of-x.ensures
    (slice_get-get_or c.args.starts.now c.args.o.occ 0 (omega (arith, c.requires.occurrence, c.requires.starts))) c.rows_of.ensures c.rows_of-2.ensures c.in_ok-row.ensures u)
