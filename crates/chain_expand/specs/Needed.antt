-- Who needs the chains, and the chain that the root needs.
use Rattle.std.specs.Prelude.{◌≡◌, ℕ, ◌<◌, ◌↔◌, nat_eq, IsTrue, Bool, List, map, length, Some, None, slice_get}
use Rattle.std.specs.List.{AllZip}
use Rattle.lido_base.specs.Environment.{Environment}
use Rattle.lido_base.specs.Reach.{IsLeastPath, IsPathFrom}
use Rattle.lido_base.specs.declared.ids.StrId.{StrId}
use Rattle.lido_syntax.specs.declared.fault.SpecFault.{SpecFault}
use Rattle.lido_syntax.specs.declared.fault.SpecFault.TheVariants as fault
use Rattle.lido_syntax.specs.declared.spec.Typed1.{Typed1}
use Rattle.lido_syntax.specs.Production.{name_of}
use Rattle.lido_symbols.specs.Numbers.{enumerated}
use Rattle.least_paths.specs.Graph.{is_in}
use Rattle.need_graphs.specs.Users.{TellComputations}
use Rattle.rule_tables.specs.declared.table.SymbolRow.{SymbolRow}
use Rattle.rule_tables.specs.declared.forced.Forced.{Forced}
use Rattle.rule_tables.specs.ForcedOf.{AreForcedOf, AreNumbersOf}
use Rattle.rule_tables.specs.Needs.{Tables, NeedsChain, uses_chain, passes_chain}

-- the name of the symbol or cell of that number
abbrev pub name_in : List SymbolRow → ℕ → StrId
name_in rows x = elim (slice_get rows x) [ None ↦ record { 0 = 0 } | Some row ↦ row.name ]

module _ (forced : Forced) where
  -- the set of those who need the chain
  pub record IsNeedOf (c : ℕ) (row : List Bool) : Type 0 where
    pub count : length row ≡ length forced.tables.symbols
    pub exactly : (env : Environment) (T : Tables forced.tables.spec) → AreForcedOf env forced → AreNumbersOf env forced T → TellComputations forced.tables.spec
        → (x : ℕ) → IsTrue (is_in row x) ↔ NeedsChain forced.tables.spec T c x

  -- those of all chains, in the order in which they are declared
  abbrev pub AreNeedsOf : List Typed1 → List (List Bool) → Type 0
  AreNeedsOf chains needs = AllZip (λ (x : ℕ × Typed1) (row : List Bool). IsNeedOf (name_of x.1.name) row) (enumerated 0 chains) needs

  -- no path leads from the root to a symbol that uses the chain
  abbrev pub HasNoPath : ℕ → Type 0
  HasNoPath c = (env : Environment) (T : Tables forced.tables.spec) → AreForcedOf env forced → AreNumbersOf env forced T → TellComputations forced.tables.spec
      → (path : List ℕ) → ¬ IsPathFrom (nat_eq forced.tables.root.0) (uses_chain forced.tables.spec T c) (passes_chain forced.tables.spec T c) path

  -- the least of the shortest paths from the root to a symbol that uses the chain
  abbrev pub IsPathOf : ℕ → List ℕ → Type 0
  IsPathOf c path = (env : Environment) (T : Tables forced.tables.spec) → AreForcedOf env forced → AreNumbersOf env forced T → TellComputations forced.tables.spec
      → IsLeastPath (nat_eq forced.tables.root.0) (uses_chain forced.tables.spec T c) (passes_chain forced.tables.spec T c) path

  -- the fault of a chain that the root needs
  abbrev pub IsFaultOf : StrId → SpecFault → Type 0
  IsFaultOf c f = (path : List ℕ) × IsPathOf c.0 path × (f ≡ fault.ChainNoStart c (map (name_in forced.tables.symbols) path))

  -- the fault of the first chain that the root needs
  pub record IsFirstFault (f : SpecFault) : Type 0 where
    pub i : ℕ
    pub chain : Typed1
    pub at : slice_get forced.tables.spec.chains i ≡ Some chain
    pub first : (j : ℕ) (other : Typed1) → j < i → slice_get forced.tables.spec.chains j ≡ Some other → HasNoPath (name_of other.name)
    pub its_fault : IsFaultOf chain.name.id f
