use Rattle.std.specs.Prelude.{◌≡◌, ◌+◌, ◌++◌, drop, take, length, get_or, IsTrue, refl}
use Rattle.std.proofs.Common.{subst, sym, ap, ◌∙◌, arith}
use Rattle.std.proofs.Math.Seq.{take-length}
use Rattle.std.proofs.lemmas.List.{take_more, drop_more, length-take-le, take-append-drop}
use Rattle.lido_base.specs.declared.value.ValueType.TheVariants.{Int}
use Rattle.expr_types.specs.Faults.{Begins}
use Rattle.expr_types.specs.Rows.{signatures_of}
use Rattle.expr_types.proofs.rows.first_misfit.Goals as goal

pub loop-index-init : goal.loop-index-init
loop-index-init c = (c.requires.0, c.requires.0.args, c.requires.1, refl)

pub loop-index-preserved : goal.loop-index-preserved
loop-index-preserved c = c.any_begins.ensures.some (subst IsTrue (sym c.if-not-any_begins.false) refl)

pub returns-then-not-any_begins-clause-first : goal.returns-then-not-any_begins-clause-first
returns-then-not-any_begins-clause-first c =
    let i = c.loop-index.index in
    let types = c.args.types.now in
    let less = c.loop-index-test.true in (
      take i types,
      get_or types i Int,
      drop (i + 1) types,
      sym (take-append-drop i types) ∙ ap (λ rest. take i types ++ rest) (drop_more types i Int less),
      length-take-le i types c.loop-index.auto.index-end,
      c.loop-index.invariant,
      λ b. c.any_begins.ensures.none c.if-not-any_begins.true (subst (Begins (signatures_of c.args.rows.now)) (sym (take_more types i Int less)) b),
    )

pub returns-clause-none : goal.returns-clause-none
returns-clause-none c =
    let ends : c.loop-index.index ≡ length c.args.types.now = omega (arith, c.loop-index-test.false, c.loop-index.auto.index-end) in
    subst (Begins (signatures_of c.args.rows.now)) (ap (λ n. take n c.args.types.now) ends ∙ take-length c.args.types.now) c.loop-index.invariant
