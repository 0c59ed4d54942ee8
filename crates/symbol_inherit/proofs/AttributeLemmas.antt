-- The attributes of a symbol stand in its row, in the order of their numbers.
use Rattle.std.specs.Prelude.{nat_eq, slice_get, AllPairs}
use Rattle.std.proofs.Common.{◌≡◌, ℕ, ◌<◌, ◌≤◌, ◌⊎◌, inl, inr, arith, List, Some, sym, ap, ◌∙◌, subst}
use Rattle.std.proofs.lemmas.Option.{same_Some}
use Rattle.std.proofs.lemmas.Bool.{cases_lt}
use Rattle.std.proofs.lemmas.List.Elements.{All-contains}
use Rattle.lido_base.specs.Environment.{Environment}
use Rattle.lido_base.proofs.Lists.{place-contains}
use Rattle.flat_grammar.specs.declared.flat.FlatAttr.{FlatAttr}
use Rattle.lido_syntax.specs.Attributes.{Has}
use Rattle.lido_symbols.specs.Numbers.{AreNumbered, place_in}
use Rattle.lido_symbols.specs.Uses.{attribute_uses}
use Rattle.rule_tables.specs.declared.table.Tables.{Tables}
use Rattle.rule_tables.specs.declared.table.SymbolRow.{SymbolRow}
use Rattle.rule_tables.specs.TablesOf.{named_symbols, AreTablesOf}
use Rattle.symbol_attributes.specs.Written.{IsWrittenAttribute}
use Rattle.symbol_inherit.specs.Entries.{attrs_of, attrs_at}
use Rattle.symbol_inherit.proofs.RowLemmas.{pair-at, number-named}
use Rattle.symbol_inherit.proofs.GoalLemmas.{attribute-there}

module _ (env : Environment) (t : Tables) (is : AreTablesOf env t) (x s : ℕ) (at : slice_get (named_symbols t) x ≡ Some s) (attrs : List FlatAttr) (of : attrs_at t.symbols x ≡ attrs) where
  its-row : (row : SymbolRow) × (slice_get t.symbols x ≡ Some row) × (row.attrs ≡ attrs)
  its-row = let (row, e, _) = number-named t env is x s at in (row, e, sym (ap attrs_of e) ∙ of)

  pub written-at : (j : ℕ) (attr : FlatAttr) → slice_get attrs j ≡ Some attr → IsWrittenAttribute t.spec s attr
  written-at j attr f =
      let (row, e, k) = its-row in
      All-contains (IsWrittenAttribute t.spec s) row.attrs attr (is.rows x s row at e).attrs.each
      (place-contains row.attrs j attr (ap (λ (l : List FlatAttr). slice_get l j) k ∙ f))

  pub attribute-in : (a : ℕ) → Has t.spec s a → (j : ℕ) × (attr : FlatAttr) × (slice_get attrs j ≡ Some attr) × (attr.name.0 ≡ a)
  attribute-in a has =
      let (row, e, m) = its-row in
      let (id, (other, attr, f, g, n)) = attribute-there t env is s x a at has in (
        id.0,
        attr,
        ap (λ (l : List FlatAttr). slice_get l id.0) (sym m) ∙ ap (λ (r : SymbolRow). slice_get r.attrs id.0) (same_Some row other (sym e ∙ f)) ∙ g,
        n,
      )

  pub in-order : (attributes : List ℕ) → AreNumbered nat_eq (attribute_uses t.spec) attributes → (i j : ℕ) (attr other : FlatAttr) → slice_get attrs i ≡ Some attr → slice_get attrs j ≡ Some other → i ≤ j
      → place_in (nat_eq attr.name.0) attributes ≤ place_in (nat_eq other.name.0) attributes
  in-order attributes numbered i j attr other f g le = by (cases_lt i j)
    where
      by : (i < j) ⊎ (j ≤ i) → place_in (nat_eq attr.name.0) attributes ≤ place_in (nat_eq other.name.0) attributes
      by (inl lt) =
          let (row, e, k) = its-row in
          let ordered = subst (λ (l : List FlatAttr). AllPairs (λ (x y : FlatAttr). place_in (nat_eq x.name.0) attributes < place_in (nat_eq y.name.0) attributes) l) k
          ((is.rows x s row at e).attrs.by_place attributes numbered) in
          let h = pair-at (λ (x y : FlatAttr). place_in (nat_eq x.name.0) attributes < place_in (nat_eq y.name.0) attributes) attrs i j attr other ordered f g lt in
          omega arith
      by (inr ge) =
          let same : i ≡ j = omega arith in
          let one = same_Some attr other (sym f ∙ ap (slice_get attrs) same ∙ g) in
          let p = ap (λ (z : FlatAttr). place_in (nat_eq z.name.0) attributes) one in
          omega arith
