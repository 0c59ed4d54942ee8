use Rattle.std.specs.Prelude.{slice_get}
use Rattle.std.specs.Global.{Vec}
use Rattle.std.proofs.Common.{◌≡◌, ◌+◌, ap, sym, subst, ◌∙◌, get_or, Some}
use Rattle.std.proofs.lemmas.Option.{slice_get-get_or}
use Rattle.lido_base.specs.declared.ids.SymId.{SymId}
use Rattle.rule_tables.specs.DirectClasses.{AreNumbersOf}
use Rattle.rule_tables.proofs.ClassLemmas.{numbers-more, numbers-past}
use Rattle.rule_tables.proofs.direct_classes.numbers_of.Goals as goal
use Rattle.rule_tables.proofs.direct_classes.numbers_of.Goals.{then-has+in_ok-push, else-has}

pub loop-k-preserved : goal.loop-k-preserved
loop-k-preserved c =
    let symbols = c.args.symbols.now in
    let classes = c.args.classes.now in
    let k = c.loop-k.k in
    let items = c.as_slice-symbol-items.result.now in
    let x = get_or items k 0 in
    let at : slice_get symbols k ≡ Some x = ap (λ l. slice_get l k) (sym c.as_slice-symbol-items.ensures) ∙ slice_get-get_or items k 0 c.loop-k-test.true in
    elim c.if-has.branch [
      | then-has+in_ok-push w ↦ subst (AreNumbersOf symbols classes (k + 1)) (sym (ap (λ (v : Vec SymId). v.items) w.ids-is ∙ w.in_ok-push.ensures.items))
          (numbers-more symbols classes k x at c.loop-k.ids.items c.loop-k.invariant (sym c.has.ensures ∙ w.if-has.true))
      | else-has w ↦ subst (AreNumbersOf symbols classes (k + 1)) (sym (ap (λ (v : Vec SymId). v.items) w.ids-is))
          (numbers-past symbols classes k x at c.loop-k.ids.items c.loop-k.invariant (sym c.has.ensures ∙ w.if-has.false))
    ]
