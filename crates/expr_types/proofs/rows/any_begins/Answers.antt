use Rattle.std.specs.Prelude.{◌≡◌, ◌+◌, ◌++◌, List, [], drop, length, get_or}
use Rattle.std.proofs.Common.{sym, ◌∙◌}
use Rattle.std.proofs.lemmas.Slice.Eq.{starts_is}
use Rattle.std.proofs.lemmas.Bool.{false≢true}
use Rattle.lido_base.specs.declared.value.ValueType.{ValueType}
use Rattle.lido_base.specs.declared.value.ValueType.TheVariants.{Int}
use Rattle.lido_base.specs.Types.{Signature}
use Rattle.expr_types.specs.declared.rows.Row.{Row}
use Rattle.expr_types.specs.Faults.{Begins}
use Rattle.expr_types.specs.Rows.{signatures_of}
use Rattle.leaf_types.proofs.TypeLemmas.{type-decides}
use Rattle.expr_types.proofs.RowsLemmas.{HasRow, row-step, row-none, row-here}
use Rattle.expr_types.proofs.rows.any_begins.Goals as goal

abbrev Starts : List ValueType → Signature → Type 0
Starts front row = (rest : List ValueType) × (row.args ≡ front ++ rest)

has : (front : List ValueType) (rows : List Signature) → Begins rows front → HasRow (Starts front) rows
has front rows b = (b.0, b.2, (b.1, b.3))

there : (front : List ValueType) (rows : List Signature) → HasRow (Starts front) rows → Begins rows front
there front rows h = (h.0, h.2.0, h.1, h.2.1)

abbrev none_row : Row
none_row = record { args = record { ref_ptr = (0, 0); now = [] }; gives = Int }

pub loop-row-preserved : goal.loop-row-preserved
loop-row-preserved c = λ b.
    let row = get_or c.args.rows.now c.loop-row.row-index none_row in
    let tested = starts_is type-decides row.args.now c.args.front.now c.starts_with.result c.starts_with.ensures.value in
    there c.args.front.now (signatures_of (drop (c.loop-row.row-index + 1) c.args.rows.now))
    (row-step (Starts c.args.front.now) c.args.rows.now c.loop-row.row-index none_row c.loop-row-test.true
    (λ s. false≢true (sym c.if-starts_with.false ∙ tested.1 s.0 s.1))
    (has c.args.front.now (signatures_of (drop c.loop-row.row-index c.args.rows.now)) (c.loop-row.invariant b)))

pub returns-then-starts_with-clause-some : goal.returns-then-starts_with-clause-some
returns-then-starts_with-clause-some c = λ yes.
    let row = get_or c.args.rows.now c.loop-row.row-index none_row in
    let tested = starts_is type-decides row.args.now c.args.front.now c.starts_with.result c.starts_with.ensures.value in
    there c.args.front.now (signatures_of c.args.rows.now)
    (row-here (Starts c.args.front.now) c.args.rows.now c.loop-row.row-index none_row c.loop-row-test.true
    (drop (length c.args.front.now) row.args.now, tested.0 c.if-starts_with.true))

pub returns-clause-none : goal.returns-clause-none
returns-clause-none c = λ no b.
    row-none (Starts c.args.front.now) c.args.rows.now c.loop-row.row-index c.loop-row-test.false
    (has c.args.front.now (signatures_of (drop c.loop-row.row-index c.args.rows.now)) (c.loop-row.invariant b))
