use Rattle.std.specs.Prelude.{◌≡◌, List, Option, Some, None, IfSome, IfNone}
use Rattle.std.proofs.Common.{subst, sym, ◌∙◌}
use Rattle.lido_base.specs.declared.value.ValueType.{ValueType}
use Rattle.expr_types.specs.declared.callee.Callee.{Callee}
use Rattle.expr_types.specs.Callees.{function_in}
use Rattle.expr_types.specs.Typing.{Gives, last_type}
use Rattle.expr_types.proofs.CalleeLemmas.{last-get}
use Rattle.expr_types.proofs.callee.Callee.given.Goals as goal

abbrev GivesNone : List ValueType → Option ValueType → Callee → Type 0
GivesNone types result callee = IfNone result ((ty : ValueType) → Gives (function_in callee) types ty → ⊥)

abbrev GivesThis : List ValueType → Option ValueType → Callee → Type 0
GivesThis types result callee = IfSome result (λ ty. Gives (function_in callee) types ty)

last-given : (types : List ValueType) (result : Option ValueType) → result ≡ last_type types → IfSome result (λ ty. last_type types ≡ Some ty)
last-given types None e = tt
last-given types (Some ty) e = sym e

pub returns-in-Rows-clause-none : goal.returns-in-Rows-clause-none
returns-in-Rows-clause-none c = subst (GivesNone c.args.types.now c.given.result) (sym c.in-Rows.is) c.given.ensures.none

pub returns-in-Order-clause-some : goal.returns-in-Order-clause-some
returns-in-Order-clause-some c =
    subst (GivesThis c.args.types.now c.copied.result) (sym c.in-Order.is)
    (last-given c.args.types.now c.copied.result (c.copied.ensures ∙ c.last.ensures.value ∙ last-get c.args.types.now))
