use Rattle.std.specs.Prelude.{◌≡◌, [], List, get_or, Contains, refl}
use Rattle.lido_base.specs.declared.value.ValueType.TheVariants.{Int}
use Rattle.std.proofs.Common.{ap, subst, sym, ◌∙◌}
use Rattle.std.proofs.lemmas.Slice.Eq.{slice_eq-Decides}
use Rattle.std.proofs.lemmas.Bool.{false≢true}
use Rattle.lido_base.specs.declared.value.ValueType.{ValueType}
use Rattle.lido_base.specs.Types.{Signature, of_types}
use Rattle.expr_types.specs.Rows.{signatures_of}
use Rattle.leaf_types.proofs.TypeLemmas.{type-decides}
use Rattle.expr_types.proofs.RowsLemmas.{HasRow, row-step, row-none, row-here}
use Rattle.expr_types.proofs.rows.given.Goals as goal

abbrev Is : List ValueType → ValueType → Signature → Type 0
Is types ty row = row ≡ of_types types ty

has : (types : List ValueType) (ty : ValueType) (rows : List Signature) → Contains rows (of_types types ty) → HasRow (Is types ty) rows
has types ty rows m = (of_types types ty, m, refl)

there : (types : List ValueType) (ty : ValueType) (rows : List Signature) → HasRow (Is types ty) rows → Contains rows (of_types types ty)
there types ty rows h = subst (Contains rows) h.2 h.1

pub loop-row-preserved : goal.loop-row-preserved
loop-row-preserved c = λ ty m.
    there c.args.types.now ty _ (row-step (Is c.args.types.now ty) c.args.rows.now c.loop-row.row-index _ c.loop-row-test.true
    (λ e. false≢true (sym c.if-eq.false ∙ (slice_eq-Decides type-decides _ _ _ c.eq.ensures).1 (ap (λ (row : Signature). row.args) e)))
    (has c.args.types.now ty _ (c.loop-row.invariant ty m)))

pub returns-then-eq-clause-some : goal.returns-then-eq-clause-some
returns-then-eq-clause-some c =
    let row = get_or c.args.rows.now c.loop-row.row-index (record { args = record { ref_ptr = (0, 0); now = [] }; gives = Int }) in
    let same : row.args.now ≡ c.args.types.now = (slice_eq-Decides type-decides _ _ _ c.eq.ensures).0 c.if-eq.true in
    there c.args.types.now row.gives (signatures_of c.args.rows.now)
    (row-here (Is c.args.types.now row.gives) c.args.rows.now c.loop-row.row-index (record { args = record { ref_ptr = (0, 0); now = [] }; gives = Int }) c.loop-row-test.true
    (ap (λ args. of_types args row.gives) same))

pub returns-clause-none : goal.returns-clause-none
returns-clause-none c = λ ty m. row-none (Is c.args.types.now ty) c.args.rows.now c.loop-row.row-index c.loop-row-test.false (has c.args.types.now ty _ (c.loop-row.invariant ty m))
