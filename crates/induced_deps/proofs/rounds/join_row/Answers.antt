use Rattle.std.proofs.Common.{◌≡◌, ◌+◌, ◌<◌, ℕ, length, subst, sym, arith}
use Rattle.std.specs.Prelude.{IsBitSet, ◌↔◌, slice_index_or}
use Rattle.induced_deps.specs.declared.row.Row.{Row}
use Rattle.induced_deps.specs.Rows.{IsIn, no_row}
use Rattle.induced_deps.proofs.ClosureLemmas.{row_read}
use Rattle.induced_deps.proofs.RoundLemmas.{row_there, row_joined}
use Rattle.induced_deps.proofs.rounds.join_row.Goals as goal

pub returns-clause-edges : goal.returns-clause-edges
returns-clause-edges c =
    let old = c.args.closure.now.rows.items in
    let p = c.args.place in
    let from = p.offset + c.args.a in
    let within : from < length old = omega (arith, c.requires.within, c.requires.attribute) in
    let same : slice_index_or old from no_row ≡ c.index.result.now = row_read old from c.index.result.now c.index.result.now within c.index.ensures in
    row_joined old p from c.args.row c.attributes_of-known.result (subst (λ (r : Row). (b : ℕ) → IsBitSet c.attributes_of-known.result b ↔ ((b < p.width) × IsIn r.words (p.offset + b))) (sym same) c.attributes_of-known.ensures)
    c.join.new.self.rows.items c.without.result c.vertices_of.result.words c.without.ensures c.vertices_of.ensures c.join.ensures.edges

pub returns-then-is_within-clause-edges : goal.returns-then-is_within-clause-edges
returns-then-is_within-clause-edges c =
    let old = c.args.closure.now.rows.items in
    let p = c.args.place in
    let from = p.offset + c.args.a in
    let within : from < length old = omega (arith, c.requires.within, c.requires.attribute) in
    let same : slice_index_or old from no_row ≡ c.index.result.now = row_read old from c.index.result.now c.index.result.now within c.index.ensures in
    row_there old p from c.args.row c.attributes_of-known.result (subst (λ (r : Row). (b : ℕ) → IsBitSet c.attributes_of-known.result b ↔ ((b < p.width) × IsIn r.words (p.offset + b))) (sym same) c.attributes_of-known.ensures)
    (c.is_within.ensures.0 c.if-is_within.true)
