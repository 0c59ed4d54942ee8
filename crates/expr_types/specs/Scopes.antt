-- Where an expression stands, as the code has it: the types of what names mean there, and which names mean something.
use Rattle.std.specs.Prelude.{ℕ, ℤ, ◌<◌, ◌⊎◌, List, [], ◌∷◌, length, Option, Some, None, All, Contains}
use Rattle.lido_base.specs.declared.value.ValueType.{ValueType}
use Rattle.lido_base.specs.Environment.{Environment}
use Rattle.lido_syntax.specs.declared.fault.SpecFault.{SpecFault}
use Rattle.lido_syntax.specs.declared.spec.Spec.{Spec}
use Rattle.lido_syntax.specs.declared.spec.Name.{Name}
use Rattle.lido_syntax.specs.declared.spec.Pair.{Pair}
use Rattle.lido_syntax.specs.declared.spec.With.{With}
use Rattle.lido_syntax.specs.declared.spec.Place.{Place}
use Rattle.lido_syntax.specs.declared.spec.Place.TheVariants as place
use Rattle.lido_syntax.specs.declared.spec.RuleItem.{RuleItem}
use Rattle.lido_syntax.specs.declared.spec.Expr.{Expr, Terminal, Read, Including, Constituents}
use Rattle.lido_syntax.specs.Production.{name_of}
use Rattle.lido_syntax.specs.Parts.{leaves}
use Rattle.lido_syntax.specs.Symbols.{IsTerminal, IsChain}
use Rattle.lido_syntax.specs.Attributes.{Has}
use Rattle.lido_syntax.specs.Sets.{Sets}
use Rattle.lido_syntax.specs.Computation as written
use Rattle.lido_syntax.specs.Coordinates.{coordinate_named}
use Rattle.expr_types.specs.declared.scope.Scope.{Scope}
use Rattle.expr_types.specs.declared.scope.Holder.{Holder}
use Rattle.expr_types.specs.declared.scope.Holder.TheVariants as holder
use Rattle.leaf_types.specs.Single.{AreSingleTypes}
use Rattle.leaf_types.specs.Types.{AreTypesOf}
use Rattle.expr_types.specs.Functions.{environment_of, AreFunctions}
use Rattle.expr_types.specs.Typing.{IsCall, IsBareType, IsReadType, HasExprType}
use Rattle.expr_types.specs.Faults.{IsFirstFault}

-- the functions of a WITH take sources of this type, and give its own
pub record HasFold (env : Environment) (source : ValueType) (with : With) : Type 0 where
  pub comb : IsCall env with.comb (with.ty ∷ with.ty ∷ []) with.ty
  pub single : IsCall env with.single (source ∷ []) with.ty
  pub null : IsCall env with.null [] with.ty

-- the symbol at a place, where the computation is in force at an occurrence of this one
abbrev pub symbol_in : ℕ → Place → ℕ
symbol_in own (place.Named x i) = name_of x
symbol_in own _ = own

module _ (spec : Spec) where
  -- the pair names an attribute of its symbol
  abbrev pub IsPairOf : Pair → Type 0
  IsPairOf p = Has spec (name_of p.sym) (name_of p.attr)

  abbrev pub ArePairs : List Pair → Type 0
  ArePairs pairs = (0 < length pairs) × All IsPairOf pairs

  module _ (env : Environment) (h : written.Holder) (r : RuleItem) (own : ℕ) where
    -- a bare name is a coordinate or a terminal
    abbrev pub IsBare : Name → Option ℤ → Type 0
    IsBare x i = elim (coordinate_named env h r x i) [ Some part ↦ Unit {0} | None ↦ (ty : ValueType) × IsTerminal spec (name_of x) ty ]

    -- what a leaf names is there
    abbrev pub IsThere : Expr → Type 0
    IsThere (Terminal x i) = IsBare x i
    IsThere (Read at p a) = IsChain spec (name_of a) ⊎ Has spec (symbol_in own p) (name_of a)
    IsThere (Including at pairs) = ArePairs pairs
    IsThere (Constituents k) = ArePairs k.pairs
    IsThere _ = Unit {0}

    abbrev pub AreThere : Expr → Type 0
    AreThere e = (leaf : Expr) → Contains (leaves e) leaf → IsThere leaf

abbrev pub holder_of : Holder → written.Holder
holder_of holder.Rule = written.by_rule
holder_of holder.Symbol = written.by_symbol

-- the functions, types and names of a scope
pub record IsScope (scope : Scope) : Type 0 where
  pub functions : AreFunctions scope.functions.now
  pub types : AreTypesOf scope.types.now.spec.now scope.types.now
  pub single : AreSingleTypes scope.types.now.spec.now

abbrev pub spec_of : Scope → Spec
spec_of scope = scope.types.now.spec.now

abbrev pub texts_of : Scope → Environment
texts_of scope = environment_of scope.functions.now

module _ (scope : Scope) where
  -- what is there, types and first faults in the scope, whatever decides which classes a symbol inherits
  abbrev pub IsBareIn : Name → Option ℤ → ValueType → Type 0
  IsBareIn x i ty = (sets : Sets (spec_of scope)) → IsBareType (spec_of scope) sets (texts_of scope) (holder_of scope.holder) scope.rule.now scope.own.0 x i ty

  abbrev pub IsReadIn : Place → Name → ValueType → Type 0
  IsReadIn p a ty = (sets : Sets (spec_of scope)) → IsReadType (spec_of scope) sets (texts_of scope) (holder_of scope.holder) scope.rule.now scope.own.0 p a ty

  abbrev pub IsThereIn : Expr → Type 0
  IsThereIn = IsThere (spec_of scope) (texts_of scope) (holder_of scope.holder) scope.rule.now scope.own.0

  abbrev pub AreThereIn : Expr → Type 0
  AreThereIn = AreThere (spec_of scope) (texts_of scope) (holder_of scope.holder) scope.rule.now scope.own.0

  abbrev pub HasTypeIn : Expr → ValueType → Type 0
  HasTypeIn e ty = (sets : Sets (spec_of scope)) → HasExprType (spec_of scope) sets (texts_of scope) (holder_of scope.holder) scope.rule.now scope.own.0 e ty

  abbrev pub IsFaultIn : Expr → SpecFault → Type 0
  IsFaultIn e f = (sets : Sets (spec_of scope)) → IsFirstFault (spec_of scope) sets (texts_of scope) (holder_of scope.holder) scope.rule.now scope.own.0 e f
