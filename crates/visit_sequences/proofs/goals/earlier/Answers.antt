use Rattle.std.specs.Prelude.{slice_get}
use Rattle.std.proofs.Common.{◌≡◌, ◌∙◌, Some, ap, sym, subst, true≢false}
use Rattle.std.proofs.lemmas.Option.{slice_get-get_or}
use Rattle.visit_sequences.proofs.GoalLemmas.{HasMembers, inherited-return, synthesized-return, next-lacks, next-passed, end-return}
use Rattle.visit_sequences.proofs.goals.earlier.Goals as goal

pub returns-then-has : goal.returns-then-has
returns-then-has c =
    let row = c.args.row.now in
    let k = c.loop-class.class-index in
    let class = c.class-item.result in
    let at : slice_get row k ≡ Some class = slice_get-get_or row k class c.loop-class-test.true ∙ ap Some (sym c.class-item.is) in
    let one = subst (λ l. HasMembers row c.args.b l c.members-inherited.result) c.as_slice.ensures c.members-inherited.ensures in
    inherited-return row c.args.b k class c.loop-class.set c.members-inherited.result c.requires at c.loop-class.invariant.lacks c.loop-class.invariant.set one (c.has.ensures.0 c.if-has.true)

pub returns-then-has-2 : goal.returns-then-has-2
returns-then-has-2 c =
    let row = c.args.row.now in
    let k = c.loop-class.class-index in
    let class = c.class-item.result in
    let at : slice_get row k ≡ Some class = slice_get-get_or row k class c.loop-class-test.true ∙ ap Some (sym c.class-item.is) in
    let one = subst (λ l. HasMembers row c.args.b l c.members-inherited.result) c.as_slice.ensures c.members-inherited.ensures in
    let two = subst (λ l. HasMembers row c.args.b l c.members-synthesized.result) c.as_slice-in-loop-class.ensures c.members-synthesized.ensures in
    synthesized-return row c.args.b k class c.loop-class.set c.members-inherited.result c.union-both.result c.members-synthesized.result c.requires at c.loop-class.invariant.lacks c.loop-class.invariant.set one
    (λ bit. true≢false (sym (c.has.ensures.1 bit) ∙ c.if-has.false)) c.union-both.ensures.members two (c.has-in-loop-class.ensures.0 c.if-has-2.true)

pub loop-class-preserved : goal.loop-class-preserved
loop-class-preserved c =
    let row = c.args.row.now in
    let k = c.loop-class.class-index in
    let class = c.class-item.result in
    let at : slice_get row k ≡ Some class = slice_get-get_or row k class c.loop-class-test.true ∙ ap Some (sym c.class-item.is) in
    let one = subst (λ l. HasMembers row c.args.b l c.members-inherited.result) c.as_slice.ensures c.members-inherited.ensures in
    let two = subst (λ l. HasMembers row c.args.b l c.members-synthesized.result) c.as_slice-in-loop-class.ensures c.members-synthesized.ensures in
    record {
      set = next-passed row c.args.b k class c.loop-class.set c.members-inherited.result c.union-both.result c.members-synthesized.result c.union-set.result at c.loop-class.invariant.set one c.union-both.ensures.members two c.union-set.ensures.members;
      lacks = next-lacks row c.args.b k class c.members-inherited.result c.members-synthesized.result c.requires at c.loop-class.invariant.lacks one
          (λ bit. true≢false (sym (c.has.ensures.1 bit) ∙ c.if-has.false)) two (λ bit. true≢false (sym (c.has-in-loop-class.ensures.1 bit) ∙ c.if-has-2.false));
    }

pub returns : goal.returns
returns c = end-return c.args.row.now c.args.b c.loop-class.class-index c.loop-class.set c.loop-class-test.false c.loop-class.invariant.lacks c.loop-class.invariant.set
