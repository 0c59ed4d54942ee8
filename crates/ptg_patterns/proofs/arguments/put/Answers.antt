use Rattle.std.proofs.Common.{◌≡◌, ◌∙◌, List, Option, None, ap, sym, arith}
use Rattle.lido_base.specs.declared.value.ValueType.{ValueType}
use Rattle.ptg_patterns.specs.Tables.{type_at}
use Rattle.ptg_patterns.proofs.ArgumentsLemmas.{put_is, no_some}
use Rattle.ptg_patterns.proofs.arguments.put.Goals as goal

pub returns-then-is_none-clause-set : goal.returns-then-is_none-clause-set
returns-then-is_none-clause-set c =
    let none : type_at c.grow.new.types.items c.args.number ≡ None =
    ap (λ (l : List (Option ValueType)). type_at l c.args.number) (sym c.deref.ensures.value) ∙ sym c.type_at.ensures ∙ no_some c.type_at.result c.is_none.result c.is_none.ensures c.if-is_none.true in
    put_is c.grow.new.types.items (type_at c.args.types.now.items) c.args.number c.args.kind (omega (arith, c.in-Ok.ensures.size)) c.grow.ensures.kept none
