-- Entries of the tables with the computations in force for which they stand, and what is found of them.
use Rattle.std.specs.Prelude.{◌≡◌, ℕ, map, Some, slice_get}
use Rattle.lido_base.specs.declared.ids.SymId.{SymId}
use Rattle.flat_grammar.specs.declared.flat.FlatRule.{FlatRule}
use Rattle.lido_syntax.specs.Computation as written
use Rattle.numbered_computations.specs.declared.table.Holder.{Holder}
use Rattle.numbered_computations.specs.declared.table.Holder.TheVariants as holder
use Rattle.lido_base.specs.Environment.{Environment}
use Rattle.lido_syntax.specs.declared.fault.SpecFault.{SpecFault}
use Rattle.lido_syntax.specs.declared.spec.RuleItem.{RuleItem}
use Rattle.lido_syntax.specs.Sets.{Sets}
use Rattle.lido_syntax.specs.Computation.{InForce}
use Rattle.rule_tables.specs.declared.table.Tables.{Tables}
use Rattle.rule_tables.specs.declared.forced.Force.{Force as Entry}
use Rattle.rule_tables.specs.PlainRules.{PlainRule, plain_rules}
use Rattle.rule_tables.specs.Forced.{Force, IsWrittenAt}
use Rattle.rule_tables.specs.ForcedOf.{IsEntryOf}
use Rattle.rule_tables.specs.TablesOf.{named_symbols}
use Rattle.expr_types.specs.Computations.{IsTyped}
use Rattle.expr_types.specs.Faults.{IsComputationFault}

-- the flat rule has the symbols of the plain one
pub record HasSymbolsOf (p : PlainRule) (flat : FlatRule) : Type 0 where
  pub left : flat.left.0 ≡ p.left
  pub right : map (λ (s : SymId). s.0) flat.right ≡ p.right

-- whose body a computation stands in
abbrev pub body_of : Holder → written.Holder
body_of holder.Rule = written.by_rule
body_of holder.Symbol = written.by_symbol

module _ (t : Tables) where
  -- The entry stands for a computation in force in the plain rule of that number, which comes of the written one, at an occurrence
  -- of the symbol.
  pub record IsEntryAt (j : ℕ) (e : Entry) (f : Force) (r : RuleItem) (s : ℕ) : Type 0 where
    pub rule : PlainRule
    pub number : slice_get (plain_rules t.spec (named_symbols t)) j ≡ Some rule
    pub written : slice_get t.spec.rules rule.rule ≡ Some r
    pub at : IsWrittenAt r rule.role f.occ s
    pub in_force : InForce t.spec r f.occ s f.goal f.holder f.comp
    pub entry : IsEntryOf t rule e f

  module _ (env : Environment) (j : ℕ) (e : Entry) where
    -- the computations for which the entry stands have their types, or this first fault
    abbrev pub IsTypedEntry : Type 0
    IsTypedEntry = (f : Force) (r : RuleItem) (s : ℕ) → IsEntryAt j e f r s → (sets : Sets t.spec) → IsTyped t.spec sets env f.holder r s f.goal f.comp

    abbrev pub HasEntryFault : SpecFault → Type 0
    HasEntryFault fault = (f : Force) (r : RuleItem) (s : ℕ) → IsEntryAt j e f r s → (sets : Sets t.spec) → IsComputationFault t.spec sets env f.holder r s f.goal f.comp fault
