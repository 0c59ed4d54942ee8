-- Looking for a row, row by row.
use Rattle.std.specs.Prelude.{◌≡◌, ◌+◌, ◌<◌, ◌≤◌, ℕ, ◌⊎◌, List, [], ◌∷◌, drop, take, map, length, get_or, ◌-◌, Option, Some, None, option_map, slice_get, Contains, refl}
use Rattle.std.proofs.Common.{subst, sym, ap, ◌∙◌, inl, inr, arith}
use Rattle.std.proofs.lemmas.Option.{slice_get-map, slice_get-get_or, slice_get_past}
use Rattle.lido_base.specs.declared.pattern.Pattern.{Pattern}
use Rattle.lido_base.specs.declared.operation.Op.TheVariants as op
use Rattle.std.proofs.lemmas.List.{drop_more, at_drop_all}
use Rattle.std.proofs.lemmas.List.Elements.{Contains-get_or}
use Rattle.lido_base.specs.declared.value.ValueType.TheVariants as type
use Rattle.lido_base.specs.Types.{Signature, of_types, signatures}
use Rattle.lido_base.proofs.Lists.{contains-nil, contains-cons, map-contains}
use Rattle.expr_types.specs.declared.rows.Row.{Row}
use Rattle.expr_types.specs.Rows.{signature_of, signatures_of, pattern_signature}

-- ---- a row that has P

module _ (P : Signature → Type 0) where
  abbrev pub HasRow : List Signature → Type 0
  HasRow rows = (row : Signature) × Contains rows row × P row

  pub row-step : (rows : List Row) (i : ℕ) (d : Row) → i < length rows → (P (signature_of (get_or rows i d)) → ⊥)
      → HasRow (signatures_of (drop i rows)) → HasRow (signatures_of (drop (i + 1) rows))
  row-step rows i d less unlike has = go (subst (λ rest. HasRow (signatures_of rest)) (drop_more rows i d less) has)
    where
      case : (row : Signature) → P row → (signature_of (get_or rows i d) ≡ row) ⊎ Contains (signatures_of (drop (i + 1) rows)) row → HasRow (signatures_of (drop (i + 1) rows))
      case row p (inl e) = absurd (unlike (subst P (sym e) p))
      case row p (inr later) = (row, later, p)

      go : HasRow (signature_of (get_or rows i d) ∷ signatures_of (drop (i + 1) rows)) → HasRow (signatures_of (drop (i + 1) rows))
      go h = case h.0 h.2 (contains-cons (signature_of (get_or rows i d)) h.0 (signatures_of (drop (i + 1) rows)) h.1)

  pub row-none : (rows : List Row) (i : ℕ) → length rows ≤ i → HasRow (signatures_of (drop i rows)) → ⊥
  row-none rows i past has =
      let none : HasRow [] = subst (λ rest. HasRow (signatures_of rest)) (at_drop_all (λ rest. rest) rows i past) has in
      contains-nil none.0 none.1

  pub row-here : (rows : List Row) (i : ℕ) (d : Row) → i < length rows → P (signature_of (get_or rows i d)) → HasRow (signatures_of rows)
  row-here rows i d less p = (signature_of (get_or rows i d), map-contains signature_of rows (get_or rows i d) (Contains-get_or rows i d less), p)

-- ---- the row of a pattern

-- the row alone, if there is one
abbrev alone : Option Signature → List Signature
alone None = []
alone (Some row) = row ∷ []

pattern-alone : (o : Option Pattern) → (elim o [ None ↦ [] | Some pattern ↦ of_types pattern.args type.Text ∷ [] ]) ≡ alone (option_map pattern_signature o)
pattern-alone None = refl
pattern-alone (Some pattern) = refl

pattern-get : (rows : List Row) (written : List Pattern) (k : ℕ) → signatures_of rows ≡ map pattern_signature written
    → signatures written (op.Pattern k) ≡ alone (option_map signature_of (slice_get rows k))
pattern-get rows written k same =
    pattern-alone (slice_get written k)
    ∙ ap alone (sym (slice_get-map pattern_signature written k) ∙ ap (λ xs. slice_get xs k) (sym same) ∙ slice_get-map signature_of rows k)

pub pattern-there : (rows : List Row) (written : List Pattern) (k : ℕ) (d : Row) → signatures_of rows ≡ map pattern_signature written → k < length rows
    → signatures_of (take (k + 1 - k) (drop k rows)) ≡ signatures written (op.Pattern k)
pattern-there rows written k d same less =
    let one : k + 1 - k ≡ 1 = omega arith in
    ap (λ n. signatures_of (take n (drop k rows))) one
    ∙ ap (λ rest. signatures_of (take 1 rest)) (drop_more rows k d less)
    ∙ sym (pattern-get rows written k same ∙ ap (λ o. alone (option_map signature_of o)) (slice_get-get_or rows k d less))

pub pattern-absent : (rows : List Row) (written : List Pattern) (k : ℕ) → signatures_of rows ≡ map pattern_signature written → length rows ≤ k
    → [] ≡ signatures written (op.Pattern k)
pattern-absent rows written k same past = sym (pattern-get rows written k same ∙ ap (λ o. alone (option_map signature_of o)) (slice_get_past rows k past))
