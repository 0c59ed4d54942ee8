-- The names on a path are those of its symbols and cells.
use Rattle.std.specs.Prelude.{Bool, map}
use Rattle.std.specs.List.{AllZip}
use Rattle.std.proofs.Common.{ℕ, ◌<◌, List, [], ◌∷◌, length, Option, Some, None, sym, ap, subst}
use Rattle.lido_base.specs.Environment.{Environment}
use Rattle.lido_base.specs.Reach.{Reaches, IsPath, IsPathFrom}
use Rattle.lido_base.specs.declared.ids.StrId.{StrId}
use Rattle.lido_base.proofs.Lists.{place-below}
use Rattle.lido_base.proofs.ReachLemmas.{path-Reaches}
use Rattle.rule_tables.specs.declared.table.SymbolRow.{SymbolRow}
use Rattle.rule_tables.specs.declared.forced.Forced.{Forced}
use Rattle.rule_tables.specs.ForcedOf.{AreForcedOf, AreNumbersOf}
use Rattle.rule_tables.specs.Needs.{Tables as Numbered}
use Rattle.rule_tables.specs.ExpansionFaults.{IsNameOf}
use Rattle.need_graphs.specs.Clear.{AreClear}
use Rattle.need_graphs.proofs.NameLemmas.{row-name}
use Rattle.remote_lists.specs.Paths.{name_in}

module _ (env : Environment) (forced : Forced) (are : AreForcedOf env forced) (T : Numbered forced.tables.spec) (numbers : AreNumbersOf env forced T) (clear : AreClear forced.tables.spec) where
  abbrev rows : List SymbolRow
  rows = forced.tables.symbols

  abbrev IsCalled : ℕ → StrId → Type 0
  IsCalled = IsNameOf forced.tables.spec env T

  its-name : (x : ℕ) → x < length rows → IsCalled x (name_in rows x)
  its-name x l =
      let (row, at) = place-below rows x l in
      subst (IsCalled x) (sym (ap (λ (o : Option SymbolRow). elim o as (λ _. StrId) [ None ↦ record { 0 = 0 } | Some row ↦ row.name ]) at)) (row-name env forced are T numbers clear x row at)

  module _ (is_source : ℕ → Bool) (is_edge : ℕ → ℕ → Bool) (below : (x : ℕ) → Reaches is_source is_edge x → x < length rows) where
    names-on : (path : List ℕ) → IsPath is_source is_edge path → AllZip IsCalled path (map (name_in rows) path)
    names-on [] p = absurd p
    names-on (x ∷ []) p = (its-name x (below x (path-Reaches is_source is_edge x [] p)), tt)
    names-on (x ∷ y ∷ more) p = (its-name x (below x (path-Reaches is_source is_edge x (y ∷ more) p)), names-on (y ∷ more) p.1)

    pub path-names : (is_start : ℕ → Bool) (path : List ℕ) → IsPathFrom is_start is_source is_edge path → AllZip IsCalled path (map (name_in rows) path)
    path-names is_start [] p = absurd p
    path-names is_start (x ∷ rest) p = names-on (x ∷ rest) p.1
