-- What a goal takes, as the code has it, and what is found of a computation in a scope.
use Rattle.std.specs.Prelude.{◌≡◌, ℕ, ◌↔◌, List, flat_map, Contains}
use Rattle.lido_base.specs.declared.value.ValueType.{ValueType}
use Rattle.lido_syntax.specs.declared.fault.SpecFault.{SpecFault}
use Rattle.lido_syntax.specs.declared.spec.Spec.{Spec}
use Rattle.lido_syntax.specs.declared.spec.Expr.{Expr}
use Rattle.lido_syntax.specs.declared.spec.Comp.{Comp}
use Rattle.lido_syntax.specs.declared.spec.Target.{Target}
use Rattle.lido_syntax.specs.Parts.{leaves}
use Rattle.lido_syntax.specs.Sets.{Sets}
use Rattle.lido_syntax.specs.Computation.{Goal}
use Rattle.expr_types.specs.declared.scope.Scope.{Scope}
use Rattle.expr_types.specs.declared.computations.Wanted.{Wanted}
use Rattle.expr_types.specs.declared.computations.Wanted.TheVariants as wanted
use Rattle.expr_types.specs.Computations.{GoalTakes, IsTyped, IsConditionTyped}
use Rattle.expr_types.specs.Faults.{IsRefused, IsFirstIn, IsConditionFault, IsComputationFault}
use Rattle.expr_types.specs.Scopes.{spec_of, texts_of, holder_of, IsThereIn}

abbrev pub Takes : Wanted → ValueType → Type 0
Takes wanted.Any ty = Unit {0}
Takes (wanted.Only other) ty = ty ≡ other

-- what is wanted is what the goal of the symbol takes
abbrev pub IsWantedOf : Spec → ℕ → Goal → Wanted → Type 0
IsWantedOf spec own goal w = (ty : ValueType) → Takes w ty ↔ GoalTakes spec own goal ty

module _ (scope : Scope) where
  abbrev pub IsWantedBy : Goal → Wanted → Type 0
  IsWantedBy goal w = IsWantedOf (spec_of scope) scope.own.0 goal w

  -- what the leaves of these expressions name is there
  abbrev pub AreAllThere : List Expr → Type 0
  AreAllThere es = (leaf : Expr) → Contains (flat_map leaves es) leaf → IsThereIn scope leaf

  -- what is found in the scope, whatever decides which classes a symbol inherits
  abbrev pub IsRefusedIn : Wanted → Expr → SpecFault → Type 0
  IsRefusedIn w e f = (sets : Sets (spec_of scope)) → IsRefused (spec_of scope) sets (texts_of scope) (holder_of scope.holder) scope.rule.now scope.own.0 (Takes w) e f

  abbrev pub IsConditionTypedIn : Target → Type 0
  IsConditionTypedIn target = (sets : Sets (spec_of scope)) → IsConditionTyped (spec_of scope) sets (texts_of scope) (holder_of scope.holder) scope.rule.now scope.own.0 target

  abbrev pub IsConditionFaultIn : Target → SpecFault → Type 0
  IsConditionFaultIn target f = (sets : Sets (spec_of scope)) → IsConditionFault (spec_of scope) sets (texts_of scope) (holder_of scope.holder) scope.rule.now scope.own.0 target f

  abbrev pub IsFirstInScope : List Expr → SpecFault → Type 0
  IsFirstInScope es f = (sets : Sets (spec_of scope)) → IsFirstIn (spec_of scope) sets (texts_of scope) (holder_of scope.holder) scope.rule.now scope.own.0 es f

  abbrev pub IsTypedIn : Goal → Comp → Type 0
  IsTypedIn goal c = (sets : Sets (spec_of scope)) → IsTyped (spec_of scope) sets (texts_of scope) (holder_of scope.holder) scope.rule.now scope.own.0 goal c

  abbrev pub IsComputationFaultIn : Goal → Comp → SpecFault → Type 0
  IsComputationFaultIn goal c f = (sets : Sets (spec_of scope)) → IsComputationFault (spec_of scope) sets (texts_of scope) (holder_of scope.holder) scope.rule.now scope.own.0 goal c f
