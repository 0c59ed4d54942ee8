-- The least cycle of the graph of heirs is the fault of a class that inherits itself.
use Rattle.std.specs.Prelude.{Bool, nat_eq, slice_get}
use Rattle.std.specs.List.{AllZip}
use Rattle.std.proofs.Common.{◌≡◌, ℕ, List, [], ◌∷◌, map, Some, refl, sym, ap, ◌∙◌, subst, eqb-true}
use Rattle.lido_base.specs.Environment.{Environment}
use Rattle.lido_base.specs.Reach.{IsPath, IsClosedPath, IsLeastCycle}
use Rattle.lido_base.specs.declared.ids.StrId.{StrId}
use Rattle.least_paths.specs.Graph.{has_edge}
use Rattle.lido_syntax.specs.declared.fault.SpecFault.{SpecFault}
use Rattle.lido_syntax.specs.declared.fault.SpecFault.TheVariants as fault
use Rattle.rule_tables.specs.declared.table.Tables.{Tables}
use Rattle.rule_tables.specs.Needs.{Tables as Numbered}
use Rattle.rule_tables.specs.TablesOf.{named_symbols, AreTablesOf}
use Rattle.rule_tables.specs.InForceFaults.{is_heir, IsClassCycle}
use Rattle.symbol_inherit.specs.Rows.{name_in, name_of}
use Rattle.symbol_inherit.specs.Classes.{graph_of}
use Rattle.symbol_inherit.proofs.RowLemmas.{number-named}
use Rattle.symbol_inherit.proofs.HeirLemmas.{leads-named, heir-same}

module _ (t : Tables) (env : Environment) (is : AreTablesOf env t) where
  abbrev leads : ℕ → ℕ → Bool
  leads = has_edge (graph_of t.symbols)

  abbrev IsNameOf : ℕ → StrId → Type 0
  IsNameOf x id = slice_get (named_symbols t) x ≡ Some id.0

  named-name : (x s : ℕ) → slice_get (named_symbols t) x ≡ Some s → IsNameOf x (name_in t.symbols x)
  named-name x s e =
      let (row, f, _) = number-named t env is x s e in
      e ∙ ap Some (sym (is.rows x s row e f).name ∙ ap (λ o. (name_of o).0) (sym f))

  path-names : (s q : ℕ) → slice_get (named_symbols t) s ≡ Some q → (xs : List ℕ) → IsPath (nat_eq s) leads xs → AllZip IsNameOf xs (map (name_in t.symbols) xs)
  path-names s q at [] h = absurd h
  path-names s q at (x ∷ []) h = (named-name x q (ap (slice_get (named_symbols t)) (sym (eqb-true s x h)) ∙ at), tt)
  path-names s q at (x ∷ c ∷ more) (e, rest) = (let (p, f) = leads-named t env is x c e in named-name x p f, path-names s q at (c ∷ more) rest)

  cycle-names : (xs : List ℕ) → IsClosedPath leads xs → AllZip IsNameOf xs (map (name_in t.symbols) xs)
  cycle-names [] h = absurd h
  cycle-names (s ∷ []) h = absurd h
  cycle-names (s ∷ c ∷ more) (e, rest) = let (q, f) = leads-named t env is s c e in (named-name s q f, path-names s q f (c ∷ more) rest)

  module _ (T : Numbered t.spec) (same : T.symbols ≡ named_symbols t) where
    one-graph : leads ≡ is_heir t.spec T
    one-graph = λ i x y. heir-same t env is T same x y i

    pub is-cycle : (numbers : List ℕ) → IsLeastCycle leads numbers → IsClassCycle t.spec T (fault.ClassCycle (map (name_in t.symbols) numbers))
    is-cycle numbers least = (
      numbers,
      map (name_in t.symbols) numbers,
      subst (λ e. IsLeastCycle e numbers) one-graph least,
      subst (λ l. AllZip (λ x (id : StrId). slice_get l x ≡ Some id.0) numbers (map (name_in t.symbols) numbers)) (sym same) (cycle-names numbers least.is),
      refl,
    )

    pub no-cycle : ((cycle : List ℕ) → ¬ IsClosedPath leads cycle) → (f : SpecFault) → ¬ IsClassCycle t.spec T f
    no-cycle none f (numbers, path, least, zip, e) = none numbers (subst (λ e. IsClosedPath e numbers) (sym one-graph) least.is)
