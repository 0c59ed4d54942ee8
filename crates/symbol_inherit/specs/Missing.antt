-- Attributes that the written rules have to compute and nothing does.
use Rattle.std.specs.Prelude.{ℕ, ◌≤◌, nat_eq, Option, MatchOption}
use Rattle.lido_base.specs.declared.ids.StrId.{StrId}
use Rattle.lido_syntax.specs.declared.fault.SpecFault.{SpecFault}
use Rattle.lido_syntax.specs.declared.fault.SpecFault.TheVariants as fault
use Rattle.lido_syntax.specs.declared.spec.Spec.{Spec}
use Rattle.lido_syntax.specs.declared.spec.RuleItem.{RuleItem}
use Rattle.lido_symbols.specs.Numbers.{place_in}
use Rattle.rule_tables.specs.declared.table.Tables.{Tables}
use Rattle.rule_tables.specs.Needs.{Tables as Numbered}
use Rattle.rule_tables.specs.InForceFaults.{IsMissing, IsMissingComputation}
use Rattle.symbol_inherit.specs.declared.missing.MissingAt.{MissingAt}

module _ (spec : Spec) (T : Numbered spec) (i : ℕ) where
  -- of two attributes the one is numbered no later
  abbrev pub IsNoLater : ℕ → ℕ → Type 0
  IsNoLater a b = place_in (nat_eq a) T.attributes ≤ place_in (nat_eq b) T.attributes

  -- the attribute is the first one that is missing at the occurrence
  abbrev pub IsFirstMissing : ℕ → StrId → Type 0
  IsFirstMissing o name = IsMissing spec T i o name.0 × ((b : ℕ) → IsMissing spec T i o b → IsNoLater name.0 b)

  abbrev pub IsMissingAt : ℕ → Option StrId → Type 0
  IsMissingAt o name = MatchOption name ((a : ℕ) → ¬ IsMissing spec T i o a) (IsFirstMissing o)

  -- the first one that is missing from occurrence k on
  abbrev pub IsMissingFrom : ℕ → Option MissingAt → Type 0
  IsMissingFrom k missing = MatchOption missing ((o a : ℕ) → k ≤ o → ¬ IsMissing spec T i o a)
      (λ m. IsFirstMissing m.occ m.name × ((o b : ℕ) → k ≤ o → IsMissing spec T i o b → m.occ ≤ o))

-- the fault of what is missing
abbrev pub missing_fault : RuleItem → MissingAt → SpecFault
missing_fault r m = fault.MissingComputation r.name m.occ m.name

-- what is missing in the first rule
abbrev pub IsMissingFault : (t : Tables) → Numbered t.spec → Option SpecFault → Type 0
IsMissingFault t T found = MatchOption found ((f : SpecFault) → ¬ IsMissingComputation t.spec T f) (IsMissingComputation t.spec T)
