-- What is found of entries, one by one.
use Rattle.std.specs.Prelude.{slice_get, length}
use Rattle.std.proofs.Common.{◌≡◌, ℕ, ◌+◌, ◌<◌, ◌≤◌, ◌⊎◌, inl, inr, List, Some, ap, sym, subst, ◌∙◌, arith}
use Rattle.std.proofs.lemmas.Bool.{cases_lt}
use Rattle.std.proofs.lemmas.Option.{same_Some, slice_get_within}
use Rattle.lido_base.specs.Environment.{Environment}
use Rattle.lido_syntax.specs.declared.fault.SpecFault.{SpecFault}
use Rattle.lido_syntax.specs.declared.fault.SpecFault.TheVariants as fault
use Rattle.rule_tables.specs.declared.table.Tables.{Tables}
use Rattle.rule_tables.specs.declared.forced.Force.{Force as Entry}
use Rattle.type_checks.specs.Entries.{IsTypedEntry, HasEntryFault}
use Rattle.type_checks.specs.Whole.{AreTypedIn, AreTypedBefore, IsFirstIn, IsFirstOf}

module _ (t : Tables) (env : Environment) where
  pub in-more : (j : ℕ) (entries : List Entry) (i : ℕ) (e : Entry) → slice_get entries i ≡ Some e → AreTypedIn t env j entries i → IsTypedEntry t env j e → AreTypedIn t env j entries (i + 1)
  in-more j entries i e at before typed l x less there = by (cases_lt l i)
    where
      by : (l < i) ⊎ (i ≤ l) → IsTypedEntry t env j x
      by (inl lt) = before l x lt there
      by (inr le) =
          let same : l ≡ i = omega (arith, le, less) in
          subst (IsTypedEntry t env j) (same_Some e x (sym at ∙ ap (slice_get entries) (sym same) ∙ there)) typed

  pub in-all : (j : ℕ) (entries : List Entry) (i : ℕ) → length entries ≤ i → AreTypedIn t env j entries i → AreTypedIn t env j entries (length entries)
  in-all j entries i past before l x less there = before l x (omega (arith, past, less)) there

  pub in-found : (j : ℕ) (entries : List Entry) (i : ℕ) (e : Entry) (f : SpecFault) → slice_get entries i ≡ Some e → AreTypedIn t env j entries i → (f ≡ fault.Memory) ⊎ HasEntryFault t env j e f
      → (f ≡ fault.Memory) ⊎ IsFirstIn t env j entries f
  in-found j entries i e f at before (inl m) = inl m
  in-found j entries i e f at before (inr h) = inr (record { k = i; entry = e; at = at; has = h; before = before })

  pub before-none : (all : List (List Entry)) → AreTypedBefore t env all 0
  before-none all i entries less there l e at = absurd (omega (arith, less))

  pub before-more : (all : List (List Entry)) (j : ℕ) (entries items : List Entry) → slice_get all j ≡ Some entries → items ≡ entries → AreTypedBefore t env all j → AreTypedIn t env j items (length items)
      → AreTypedBefore t env all (j + 1)
  before-more all j entries items at equal before typed i others less there l x here = by (cases_lt i j)
    where
      by : (i < j) ⊎ (j ≤ i) → IsTypedEntry t env i x
      by (inl lt) = before i others lt there l x here
      by (inr le) =
          let same : i ≡ j = omega (arith, le, less) in
          let mine : others ≡ items = same_Some others entries (sym there ∙ ap (slice_get all) same ∙ at) ∙ sym equal in
          let inside = ap (λ (z : List Entry). slice_get z l) (sym mine) ∙ here in
          subst (λ (n : ℕ). IsTypedEntry t env n x) (sym same) (typed l x (slice_get_within items l x inside) inside)

  pub before-all : (all : List (List Entry)) (j : ℕ) → length all ≤ j → AreTypedBefore t env all j → AreTypedBefore t env all (length all)
  before-all all j past before i entries less there l x here = before i entries (omega (arith, past, less)) there l x here

  pub first-found : (all : List (List Entry)) (j : ℕ) (entries items : List Entry) (f : SpecFault) → slice_get all j ≡ Some entries → items ≡ entries → AreTypedBefore t env all j
      → (f ≡ fault.Memory) ⊎ IsFirstIn t env j items f → (f ≡ fault.Memory) ⊎ IsFirstOf t env all f
  first-found all j entries items f at equal before (inl m) = inl m
  first-found all j entries items f at equal before (inr h) = inr (record { j = j; entries = items; there = at ∙ ap Some (sym equal); first = h; before = before })
