-- The first fault of types in a specification, and the operations that its computations in force name.
use Rattle.std.specs.Prelude.{◌≡◌, ℕ, nat_eq, not, ◌||◌, Bool, List, [], ◌∷◌, map, flat_map, filter, Some, slice_get, codes, All, Contains}
use Rattle.std.specs.Str.{bytes_eq}
use Rattle.lido_base.specs.Environment.{Environment}
use Rattle.lido_syntax.specs.declared.fault.SpecFault.{SpecFault}
use Rattle.lido_syntax.specs.declared.spec.Spec.{Spec}
use Rattle.lido_syntax.specs.declared.spec.Name.{Name}
use Rattle.lido_syntax.specs.declared.spec.RuleItem.{RuleItem}
use Rattle.lido_syntax.specs.Production.{name_of}
use Rattle.lido_syntax.specs.Functions.{text_of, operation_of}
use Rattle.lido_syntax.specs.Parts.{parts_of}
use Rattle.lido_symbols.specs.Numbers.{AreNumbered}
use Rattle.lido_symbols.specs.Uses.{with_place, functions_of_part}
use Rattle.rule_tables.specs.PlainRules.{PlainRule}
use Rattle.rule_tables.specs.Forced.{Force, IsWrittenAt}
use Rattle.rule_tables.specs.Needs.{Tables, ruled}
use Rattle.rule_tables.specs.InForceFaults.{goal_place}
use Rattle.rule_tables.specs.ExtraOf.{IsBeforeIn}
use Rattle.expr_types.specs.declared.typed.NamedOp.{NamedOp}
use Rattle.expr_types.specs.Faults.{IsComputationFault}

module _ (spec : Spec) (T : Tables spec) (env : Environment) where
  -- the computation is in force in the plain rule of that number, which comes of the written one, at an occurrence of the symbol
  pub record IsForcedAt (i : ℕ) (f : Force) (r : RuleItem) (s : ℕ) : Type 0 where
    pub rule : PlainRule
    pub forces : List Force
    pub number : slice_get (ruled spec T) i ≡ Some (rule, forces)
    pub there : Contains forces f
    pub written : slice_get spec.rules rule.rule ≡ Some r
    pub at : IsWrittenAt r rule.role f.occ s

  -- the order of computations in force: by plain rule, then attributes, starts, assignments, the output and messages, each by
  -- occurrence and number
  abbrev pub force_place : ℕ → Force → List ℕ
  force_place i f = i ∷ (goal_place spec T f.goal).0 ∷ f.occ ∷ (goal_place spec T f.goal).1 ∷ []

  abbrev pub HasFault : Force → RuleItem → ℕ → SpecFault → Type 0
  HasFault f r s e = IsComputationFault spec T.sets env f.holder r s f.goal f.comp e

  -- the fault of the first computation in force that has one
  pub record IsTypeFault (e : SpecFault) : Type 0 where
    pub i : ℕ
    pub force : Force
    pub rule : RuleItem
    pub symbol : ℕ
    pub is_there : IsForcedAt i force rule symbol
    pub fault : HasFault force rule symbol e
    pub first : (j : ℕ) (g : Force) (q : RuleItem) (t : ℕ) (other : SpecFault) → IsForcedAt j g q t → HasFault g q t other → ¬ IsBeforeIn (force_place j g) (force_place i force)

  abbrev pub type_faults : List (SpecFault → Type 0)
  type_faults = IsTypeFault ∷ []

  -- IF and ORDER are no operations
  abbrev pub is_operation : Name → Bool
  is_operation f = not (bytes_eq (text_of env (name_of f)) (codes "IF") || bytes_eq (text_of env (name_of f)) (codes "ORDER"))

  -- the functions that computations in force call, with their places
  abbrev pub functions_of : Force → List Name
  functions_of f = filter is_operation (flat_map functions_of_part (parts_of f.comp))

  abbrev pub function_uses : List (ℕ × ℕ)
  function_uses = map with_place (flat_map (λ (x : PlainRule × List Force). flat_map functions_of x.1) (ruled spec T))

  -- one entry for each of them, with its operation
  pub record AreOps (ops : List NamedOp) : Type 0 where
    pub numbered : AreNumbered nat_eq function_uses (map (λ (o : NamedOp). o.name.0) ops)
    pub operations : All (λ (o : NamedOp). operation_of env (text_of env o.name.0) ≡ Some o.op) ops
