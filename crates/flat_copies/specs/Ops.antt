-- The operations that functions' names stand for.
use Rattle.std.specs.Prelude.{◌≡◌, ℕ, nat_eq, if◌then◌else◌, List, fold, Option, Some, None}
use Rattle.std.specs.HashMap.{get}
use Rattle.lido_base.specs.Environment.{Environment}
use Rattle.lido_base.specs.declared.operation.Op.{Op}
use Rattle.lido_syntax.specs.Functions.{text_of, operation_of}
use Rattle.lido_base.specs.declared.ids.StrId.{StrId}
use Rattle.flat_copies.specs.declared.ops.Ops.{Ops}

-- the operation of a name by its id
unfoldable pub op_in : Ops → ℕ → Option Op
op_in ops id = get nat_eq ops.ops id

-- the last one of the name
abbrev pub later_op : ℕ → Option Op → StrId × Op → Option Op
later_op id before o = if nat_eq o.0.0 id then Some o.1 else before

abbrev pub op_named : List (StrId × Op) → ℕ → Option Op
op_named named id = fold (later_op id) None named

-- it is the operation that the name has
abbrev pub IsKnown : Environment → Ops → ℕ → Type 0
IsKnown env ops id = op_in ops id ≡ operation_of env (text_of env id)
