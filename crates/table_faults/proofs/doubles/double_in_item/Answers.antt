use Rattle.std.specs.Prelude.{Option}
use Rattle.std.proofs.Common.{ℕ, sym, ap, subst, List, slice_get, ◌∙◌}
use Rattle.std.proofs.lemmas.Result.{IfOk-weaker}
use Rattle.lido_syntax.specs.declared.spec.Name.{Name}
use Rattle.lido_syntax.specs.declared.spec.Comp.{Comp}
use Rattle.lido_syntax.specs.Production.{name_of}
use Rattle.kind_clashes.specs.Least.{IsFirst}
use Rattle.table_faults.specs.Doubles.{IsDoubleIn, all_in_body, IsDoubleInItem}
use Rattle.table_faults.proofs.DoubleTargets.{some-in-item}
use Rattle.table_faults.proofs.doubles.double_in_item.Goals as goal

pub returns-in-Some : goal.returns-in-Some
returns-in-Some c = IfOk-weaker c.double_in_body.result _ (IsFirst (IsDoubleInItem c.args.item.now))
    (λ (found : Option ℕ) first. some-in-item c.args.item.now c.in-Some.name.now found (sym (c.in-Some.ensures.value ∙ ap (λ (l : List Name). slice_get l 0) c.as_slice.ensures)) (subst (λ (body : List Comp). IsFirst (IsDoubleIn (all_in_body (name_of c.in-Some.name.now) body)) found) c.as_slice-in-Some.ensures first)) c.double_in_body.ensures
