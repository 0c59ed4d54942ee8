-- A call, as the code has it: what its name calls, the types of a list of arguments, and their faults.
use Rattle.std.specs.Prelude.{◌≡◌, ℕ, ◌⊎◌, List, [], ◌∷◌, Some, None, slice_get}
use Rattle.lido_base.specs.Environment.{Environment}
use Rattle.lido_syntax.specs.declared.fault.SpecFault.{SpecFault}
use Rattle.lido_syntax.specs.declared.fault.SpecFault.TheVariants as fault
use Rattle.lido_syntax.specs.declared.spec.Name.{Name}
use Rattle.expr_types.specs.Typing.{Function, function_of}
use Rattle.expr_types.specs.Faults.{begin_of, TakesMany, IsFirstMisfit}
use Rattle.lido_base.specs.declared.value.ValueType.{ValueType}
use Rattle.lido_syntax.specs.declared.spec.Expr.{Expr}

-- these expressions have these types, one each
abbrev pub HaveEach : (Expr → ValueType → Type 0) → List Expr → List ValueType → Type 0
HaveEach Has [] [] = Unit {0}
HaveEach Has (e ∷ es) (ty ∷ types) = Has e ty × HaveEach Has es types
HaveEach Has _ _ = ⊥

-- the name calls this function, which takes so many arguments; and the fault of a name that calls none
abbrev pub IsCallee : Environment → Name → ℕ → Function → Type 0
IsCallee env f count function = (function_of env f ≡ Some function) × TakesMany function count

abbrev pub IsCalleeFault : Environment → Name → ℕ → SpecFault → Type 0
IsCalleeFault env f count e = ((function_of env f ≡ None) × (e ≡ fault.UnknownFunction f.at))
    ⊎ ((function : Function) × (function_of env f ≡ Some function) × ¬ TakesMany function count × (e ≡ fault.ArgCount f.at))

-- the fault of the first argument that has another type than the function takes there
abbrev pub IsMisfit : Function → List Expr → List ValueType → SpecFault → Type 0
IsMisfit function args types e = (k : ℕ) × (arg : Expr) × IsFirstMisfit function types k × (slice_get args k ≡ Some arg) × (e ≡ fault.TypeMismatch (begin_of arg))
