use Rattle.std.proofs.Common.{◌≡◌, ◌+◌, ◌∙◌, sym, subst, arith}
use Rattle.std.specs.Prelude.{false, true}
use Rattle.flat_grammar.specs.Partition.{HasKind}
use Rattle.partitions.proofs.PeelingLemmas.{IsFound, found-one, found-not, found-all, kind-at, kind-of, kind-below}
use Rattle.partitions.proofs.peeling.of_kind.Goals.{then-has_kind, else-has_kind}
use Rattle.partitions.proofs.peeling.of_kind.Goals as goal

pub loop-a-preserved : goal.loop-a-preserved
loop-a-preserved c =
    let symbols = c.args.flat.now.symbols in
    let rules = c.args.flat.now.rules in
    elim c.if-has_kind.branch [
      | then-has_kind w ↦ subst (λ set. IsFound (λ j. HasKind symbols c.args.x c.args.kind (record { 0 = j })) (c.loop-a.a + 1) set) (sym w.set-is)
          (found-one (λ j. HasKind symbols c.args.x c.args.kind (record { 0 = j })) c.loop-a.a c.loop-a.set w.with-set.result c.loop-a.invariant w.with-set.ensures
          (kind-at symbols rules c.args.x c.args.kind c.attributes-attr-items.result.now c.loop-a.a _ c.attributes-attr-items.ensures.all c.loop-a-test.true (c.has_kind.ensures.0 w.if-has_kind.true)))
      | else-has_kind w ↦ subst (λ set. IsFound (λ j. HasKind symbols c.args.x c.args.kind (record { 0 = j })) (c.loop-a.a + 1) set) (sym w.set-is)
          (found-not (λ j. HasKind symbols c.args.x c.args.kind (record { 0 = j })) c.loop-a.a c.loop-a.set c.loop-a.invariant
          (λ h. let e : true ≡ false = sym (c.has_kind.ensures.1 (kind-of symbols rules c.args.x c.args.kind c.attributes-attr-items.result.now c.loop-a.a _ c.attributes-attr-items.ensures.all c.loop-a-test.true h)) ∙ w.if-has_kind.false in absurd (cc)))
    ]

pub returns : goal.returns
returns c = λ a. found-all (λ j. HasKind c.args.flat.now.symbols c.args.x c.args.kind (record { 0 = j })) c.loop-a.a c.loop-a.set c.loop-a.invariant
    (λ j h. let below = kind-below c.args.flat.now.symbols c.args.flat.now.rules c.args.x c.args.kind c.attributes-attr-items.result.now c.attributes-attr-items.ensures.all j h in omega arith) a.0
