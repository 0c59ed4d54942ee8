-- The first fault of types of an expression and of a computation, as they are looked for: from the inside, from the left.
use Rattle.std.specs.Prelude.{◌≡◌, ℕ, ◌<◌, nat_lt, if◌then◌else◌, ◌⊎◌, List, [], ◌∷◌, ◌++◌, length, Option, Some, None, slice_get, All, Contains}
use Rattle.lido_base.specs.declared.value.ValueType.{ValueType}
use Rattle.lido_base.specs.declared.value.ValueType.TheVariants as type
use Rattle.lido_base.specs.Environment.{Environment}
use Rattle.lido_base.specs.Types.{Signature}
use Rattle.lido_syntax.specs.declared.fault.SpecFault.{SpecFault}
use Rattle.lido_syntax.specs.declared.fault.SpecFault.TheVariants as fault
use Rattle.lido_syntax.specs.declared.spec.Spec.{Spec}
use Rattle.lido_syntax.specs.declared.spec.Name.{Name}
use Rattle.lido_syntax.specs.declared.spec.Pair.{Pair}
use Rattle.lido_syntax.specs.declared.spec.With.{With}
use Rattle.lido_syntax.specs.declared.spec.Comp.{Comp}
use Rattle.lido_syntax.specs.declared.spec.RuleItem.{RuleItem}
use Rattle.lido_syntax.specs.declared.spec.Target.{Target}
use Rattle.lido_syntax.specs.declared.spec.Target.TheVariants as target
use Rattle.lido_syntax.specs.declared.spec.Expr.{Expr, Int, Str, Bool as Truth, Terminal, Read, Including, Constituents, Call', Row_of-Expr, end_of-Expr, more_of-Expr}
use Rattle.lido_syntax.specs.Production.{name_of}
use Rattle.lido_syntax.specs.Attributes.{HasType}
use Rattle.lido_syntax.specs.Sets.{Sets}
use Rattle.lido_syntax.specs.Computation.{Goal, Holder}
use Rattle.expr_types.specs.Typing.{Function, WithRows, Order, Gives, function_of, IsCall, IsPairType, ArePairTypes, HasExprType, HaveTypes}
use Rattle.expr_types.specs.Computations.{GoalTakes, IsConditionTyped}

-- The place of an expression's first token: an operator between its arguments stands behind the first.
abbrev pub lesser : ℕ → ℕ → ℕ
lesser x y = if nat_lt x y then x else y

abbrev mutual
  pub begin_of : Expr → ℕ
  begin_of (Int at z) = at
  begin_of (Str at s) = at
  begin_of (Truth at b) = at
  begin_of (Terminal x i) = x.at
  begin_of (Read at p a) = at
  begin_of (Including at pairs) = at
  begin_of (Constituents k) = k.at
  begin_of (Call' f shape args) = begin_of_call f.at args

  pub begin_of_call : {m : _} → ℕ → Row_of-Expr m → ℕ
  begin_of_call at end_of-Expr = at
  begin_of_call at (more_of-Expr e es) = lesser at (begin_of e)

-- where the arguments begin
abbrev pub begins : {m : _} → Row_of-Expr m → List ℕ
begins end_of-Expr = []
begins (more_of-Expr e es) = begin_of e ∷ begins es

-- a function takes that many arguments
abbrev pub TakesMany : Function → ℕ → Type 0
TakesMany (WithRows rows) n = (row : Signature) × Contains rows row × (length row.args ≡ n)
TakesMany Order n = 0 < n

-- a row begins with arguments of these types
abbrev pub Begins : List Signature → List ValueType → Type 0
Begins rows types = (row : Signature) × (rest : List ValueType) × Contains rows row × (row.args ≡ types ++ rest)

-- of arguments of these types, the one of this number is the first with which no row begins
abbrev pub IsFirstMisfit : Function → List ValueType → ℕ → Type 0
IsFirstMisfit (WithRows rows) types k = (front : List ValueType) × (ty : ValueType) × (back : List ValueType)
    × (types ≡ front ++ ty ∷ back) × (length front ≡ k) × Begins rows front × ¬ Begins rows (front ++ ty ∷ [])
IsFirstMisfit Order types k = ⊥

-- A function that a WITH names for arguments of these types and a result of that type, and its fault there.
pub data IsNameFault (env : Environment) (f : Name) (args : List ValueType) (ty : ValueType) : SpecFault → Type 0 where
  unknown : function_of env f ≡ None → IsNameFault env f args ty (fault.UnknownFunction f.at)
  count : (function : Function) → function_of env f ≡ Some function → ¬ TakesMany function (length args) → IsNameFault env f args ty (fault.ArgCount f.at)
  types : (function : Function) → function_of env f ≡ Some function → TakesMany function (length args) → ¬ Gives function args ty → IsNameFault env f args ty (fault.TypeMismatch f.at)

-- the first fault of a WITH whose sources have this type
pub data IsWithFault (env : Environment) (source : ValueType) (with : With) (f : SpecFault) : Type 0 where
  in_comb : IsNameFault env with.comb (with.ty ∷ with.ty ∷ []) with.ty f → IsWithFault env source with f
  in_single : IsCall env with.comb (with.ty ∷ with.ty ∷ []) with.ty → IsNameFault env with.single (source ∷ []) with.ty f → IsWithFault env source with f
  in_null : IsCall env with.comb (with.ty ∷ with.ty ∷ []) with.ty → IsCall env with.single (source ∷ []) with.ty → IsNameFault env with.null [] with.ty f → IsWithFault env source with f

module _ (spec : Spec) (sets : Sets spec) where
  -- the first pair with a type other than that of the first pair's attribute on the symbol that it names
  pub record IsUnequal (pairs : List Pair) (f : SpecFault) : Type 0 where
    pub first : Pair
    pub is_first : slice_get pairs 0 ≡ Some first
    pub ty : ValueType
    pub its : HasType spec (name_of first.sym) (name_of first.attr) ty
    pub front : List Pair
    pub other : Pair
    pub back : List Pair
    pub split : pairs ≡ front ++ other ∷ back
    pub alike : All (IsPairType spec sets ty) front
    pub unlike : ¬ IsPairType spec sets ty other
    pub fault : f ≡ fault.TypeMismatch other.sym.at

  module _ (env : Environment) where
    abbrev pub IsGatheredFault : List Pair → Option With → SpecFault → Type 0
    IsGatheredFault pairs None f = ⊥
    IsGatheredFault pairs (Some with) f = IsUnequal pairs f ⊎ ((source : ValueType) × ArePairTypes spec sets pairs source × IsWithFault env source with f)

    module _ (holder : Holder) (r : RuleItem) (own : ℕ) where
      -- a call's fault, where `InArguments` is that of an argument: its name, the number of its arguments, the arguments, their types
      abbrev pub IsCallFault : {m : _} → (SpecFault → Type 0) → Name → Row_of-Expr m → SpecFault → Type 0
      IsCallFault InArguments g args f =
          ((function_of env g ≡ None) × (f ≡ fault.UnknownFunction g.at))
          ⊎ ((function : Function) × (function_of env g ≡ Some function)
          × ((¬ TakesMany function (length (begins args)) × (f ≡ fault.ArgCount g.at))
          ⊎ (TakesMany function (length (begins args))
          × (InArguments f
          ⊎ ((types : List ValueType) × (k at : ℕ) × HaveTypes spec sets env holder r own args types × IsFirstMisfit function types k
          × (slice_get (begins args) k ≡ Some at) × (f ≡ fault.TypeMismatch at))))))

      abbrev mutual
        -- the first fault of an expression
        pub IsFirstFault : Expr → SpecFault → Type 0
        IsFirstFault (Including at pairs) f = IsUnequal pairs f
        IsFirstFault (Constituents k) f = IsGatheredFault k.pairs k.with f
        IsFirstFault (Call' g shape args) f = IsCallFault (IsFirstOfAll args) g args f
        IsFirstFault _ f = ⊥

        -- the first fault of the arguments: those in front have types
        pub IsFirstOfAll : {m : _} → Row_of-Expr m → SpecFault → Type 0
        IsFirstOfAll end_of-Expr f = ⊥
        IsFirstOfAll (more_of-Expr e es) f = IsFirstFault e f ⊎ ((ty : ValueType) × HasExprType spec sets env holder r own e ty × IsFirstOfAll es f)

      -- the first fault of these expressions
      abbrev pub IsFirstIn : List Expr → SpecFault → Type 0
      IsFirstIn [] f = ⊥
      IsFirstIn (e ∷ es) f = IsFirstFault e f ⊎ ((ty : ValueType) × HasExprType spec sets env holder r own e ty × IsFirstIn es f)

      -- an expression has a fault, or a type that isn't taken
      pub data IsRefused (Takes : ValueType → Type 0) (e : Expr) (f : SpecFault) : Type 0 where
        within : IsFirstFault e f → IsRefused Takes e f
        not_taken : (ty : ValueType) → HasExprType spec sets env holder r own e ty → ¬ Takes ty → f ≡ fault.TypeMismatch (begin_of e) → IsRefused Takes e f

      abbrev pub IsConditionFault : Target → SpecFault → Type 0
      IsConditionFault (target.Message severity (Some e)) f = IsRefused (λ ty. ty ≡ type.Bool) e f
      IsConditionFault _ f = ⊥

      -- the first fault of a computation for a goal: of a message's condition, of the value, of what stands behind the arrow
      pub data IsComputationFault (goal : Goal) (c : Comp) (f : SpecFault) : Type 0 where
        of_condition : IsConditionFault c.target f → IsComputationFault goal c f
        of_value : IsConditionTyped spec sets env holder r own c.target → IsRefused (GoalTakes spec own goal) c.value f → IsComputationFault goal c f
        of_after : (ty : ValueType) → IsConditionTyped spec sets env holder r own c.target → HasExprType spec sets env holder r own c.value ty → GoalTakes spec own goal ty
            → IsFirstIn c.after f → IsComputationFault goal c f
