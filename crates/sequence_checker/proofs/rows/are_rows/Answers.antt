use Rattle.std.proofs.Common.{◌∙◌, sym, refl, arith, length, ◌<◌, subst}
use Rattle.std.proofs.lemmas.Option.{slice_get_read}
use Rattle.flat_grammar.specs.SoundPlan.{IsRow}
use Rattle.flat_grammar.proofs.Lists.{AllZip-at}
use Rattle.sequence_checker.proofs.Bools.{never}
use Rattle.sequence_checker.proofs.RowLemmas.{zip-more, zip-length}
use Rattle.sequence_checker.proofs.rows.are_rows.Goals as goal

pub returns-then-symbols-visits : goal.returns-then-symbols-visits
returns-then-symbols-visits c = ((λ h. never h), (λ all. absurd (c.if-symbols-visits.true (zip-length IsRow c.args.symbols.now c.args.visits.now all))))

pub returns-then-not-branch : goal.returns-then-not-branch
returns-then-not-branch c =
    let symbols = c.args.symbols.now in
    let visits = c.args.visits.now in
    let k = c.loop-k.k in
    let x = c.index-symbols-k.result in
    let row = c.index-visits-k.result in
    let within : k < length visits = omega (arith, c.loop-k-test.true, c.if-symbols-visits.false) in (
      (λ h. never h),
      (λ all. never (sym c.if-not-branch.true ∙ c.in_ok-is_row.ensures.1 (subst (λ r. IsRow x r) (sym c.as_slice.ensures)
          (AllZip-at IsRow symbols visits k x row all (slice_get_read symbols (length symbols) k x refl c.loop-k-test.true c.index-symbols-k.is) (slice_get_read visits (length visits) k row refl within c.index-visits-k.is))))),
    )

pub loop-k-preserved : goal.loop-k-preserved
loop-k-preserved c =
    let symbols = c.args.symbols.now in
    let visits = c.args.visits.now in
    let k = c.loop-k.k in
    let x = c.index-symbols-k.result in
    let row = c.index-visits-k.result in
    let within : k < length visits = omega (arith, c.loop-k-test.true, c.if-symbols-visits.false) in
    zip-more IsRow symbols visits k x row c.loop-k.invariant (slice_get_read symbols (length symbols) k x refl c.loop-k-test.true c.index-symbols-k.is) (slice_get_read visits (length visits) k row refl within c.index-visits-k.is)
    (subst (λ r. IsRow x r) c.as_slice.ensures (c.in_ok-is_row.ensures.0 c.if-not-branch.false))
