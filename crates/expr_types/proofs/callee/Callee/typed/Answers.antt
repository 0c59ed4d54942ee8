use Rattle.std.specs.Prelude.{◌-◌, ◌<◌, length, get_or}
use Rattle.std.proofs.Common.{subst, sym, ◌∙◌, arith}
use Rattle.std.proofs.lemmas.Option.{slice_get-get_or}
use Rattle.lido_base.specs.declared.value.ValueType.TheVariants.{Int}
use Rattle.expr_types.specs.Callees.{function_in, HasOneCount}
use Rattle.expr_types.specs.Faults.{TakesMany}
use Rattle.expr_types.specs.Rows.{signatures_of}
use Rattle.expr_types.specs.Typing.{Gives}
use Rattle.expr_types.proofs.CalleeLemmas.{last-get, whole-row}
use Rattle.expr_types.proofs.callee.Callee.typed.Goals as goal

pub unreachable-requires : goal.unreachable-requires
unreachable-requires c =
    let types = c.args.types.now in
    let many = subst (λ callee. TakesMany (function_in callee) (length types)) c.in-Rows.is c.requires.many in
    let one = subst (λ callee. HasOneCount (function_in callee)) c.in-Rows.is c.requires.one_count in
    let found = whole-row (signatures_of c.in-Rows.rows.now) types one many.0 many.1 many.2 c.in-None.ensures.none in
    c.in_default.ensures.none found.0 (subst (λ callee. Gives (function_in callee) types found.0) (sym c.in-Rows.is) found.1)

pub unreachable-requires-in-Order : goal.unreachable-requires-in-Order
unreachable-requires-in-Order c =
    let types = c.args.types.now in
    let some : 0 < length types = subst (λ callee. TakesMany (function_in callee) (length types)) c.in-Order.is c.requires.many in
    let ty = get_or types (length types - 1) Int in
    let less : length types - 1 < length types = omega (arith, some) in
    let found = sym (last-get types) ∙ slice_get-get_or types (length types - 1) Int less in
    c.in_default.ensures.none ty (subst (λ callee. Gives (function_in callee) types ty) (sym c.in-Order.is) found)
