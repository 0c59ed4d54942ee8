-- What a name calls, as the code has it.
use Rattle.std.specs.Prelude.{◌≡◌, length, Contains}
use Rattle.lido_base.specs.Types.{Signature}
use Rattle.expr_types.specs.declared.callee.Callee.{Callee}
use Rattle.expr_types.specs.declared.callee.Callee.TheVariants as callee
use Rattle.expr_types.specs.Rows.{signatures_of}
use Rattle.expr_types.specs.Typing.{Function, WithRows, Order}

-- the function that is called
abbrev pub function_in : Callee → Function
function_in (callee.Rows rows) = WithRows (signatures_of rows.now)
function_in callee.Order = Order

-- all rows of the function have as many arguments
abbrev pub HasOneCount : Function → Type 0
HasOneCount (WithRows rows) = (row other : Signature) → Contains rows row → Contains rows other → length row.args ≡ length other.args
HasOneCount Order = Unit {0}
