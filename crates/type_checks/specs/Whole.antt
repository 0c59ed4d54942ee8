-- What is found of all entries of the tables, plain rule by plain rule.
use Rattle.std.specs.Prelude.{◌≡◌, ℕ, ◌<◌, List, Some, slice_get}
use Rattle.lido_base.specs.Environment.{Environment}
use Rattle.lido_syntax.specs.declared.fault.SpecFault.{SpecFault}
use Rattle.rule_tables.specs.declared.table.Tables.{Tables}
use Rattle.rule_tables.specs.declared.forced.Force.{Force as Entry}
use Rattle.type_checks.specs.Entries.{IsTypedEntry, HasEntryFault}

module _ (t : Tables) (env : Environment) where
  -- of a plain rule the first k entries have their types
  abbrev pub AreTypedIn : ℕ → List Entry → ℕ → Type 0
  AreTypedIn j entries k = (l : ℕ) (e : Entry) → l < k → slice_get entries l ≡ Some e → IsTypedEntry t env j e

  -- the entries of the first j plain rules have their types
  abbrev pub AreTypedBefore : List (List Entry) → ℕ → Type 0
  AreTypedBefore all j = (i : ℕ) (entries : List Entry) → i < j → slice_get all i ≡ Some entries → (l : ℕ) (e : Entry) → slice_get entries l ≡ Some e → IsTypedEntry t env i e

  -- of a plain rule the first entry that has a fault has this one
  pub record IsFirstIn (j : ℕ) (entries : List Entry) (fault : SpecFault) : Type 0 where
    pub k : ℕ
    pub entry : Entry
    pub at : slice_get entries k ≡ Some entry
    pub has : HasEntryFault t env j entry fault
    pub before : AreTypedIn j entries k

  -- of all plain rules the first entry that has a fault has this one
  pub record IsFirstOf (all : List (List Entry)) (fault : SpecFault) : Type 0 where
    pub j : ℕ
    pub entries : List Entry
    pub there : slice_get all j ≡ Some entries
    pub first : IsFirstIn j entries fault
    pub before : AreTypedBefore all j
