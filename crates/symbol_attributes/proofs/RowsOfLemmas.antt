-- The attributes of each symbol of which something is said.
use Rattle.std.specs.Prelude.{Contains, IsTrue, is_some, if◌then◌else◌}
use Rattle.std.proofs.Common.{◌≡◌, ℕ, ◌⊎◌, inl, inr, Bool, true, false, nat_eq, List, [], ◌∷◌, ◌++◌, take, Option, Some, None, refl, sym, ap, subst, eqb-true, eq-eqb}
use Rattle.std.proofs.lemmas.List.Elements.{Contains-append_left, Contains-append_right, Contains-append_cases}
use Rattle.lido_base.proofs.Lists.{contains-nil, contains-cons, contains-here}
use Rattle.kind_clashes.specs.declared.names.Names.{Names}
use Rattle.kind_clashes.specs.Least.{Among}
use Rattle.kind_clashes.specs.Names.{has, HasMore}
use Rattle.kind_clashes.proofs.NamesLemmas.{more-same, set-of}
use Rattle.symbol_attributes.specs.declared.facts.Facts.{Facts}
use Rattle.symbol_attributes.specs.declared.facts.Said.{Said}
use Rattle.symbol_attributes.specs.declared.facts.FactTable.{FactTable}
use Rattle.symbol_attributes.specs.declared.rows.NamedRows.{NamedRows}
use Rattle.symbol_attributes.specs.Facts.{AreSums, known, said, IsTableOf, row_of, AreRowsOf, AreSaidOn}

pub rows-none : (list : List Said) (rows : NamedRows) → ((s : ℕ) → row_of rows s ≡ []) → AreRowsOf (take 0 list) rows
rows-none list rows none s a = ((λ m. absurd (contains-nil a (subst (λ (xs : List ℕ). Contains xs a) (none s) m))), (λ (f, m). absurd (contains-nil (said s a f) m)))

module _ (list : List Said) (x : Said) where
  abbrev more : List Said
  more = list ++ x ∷ []

  abbrev IsSaid : List Said → ℕ → ℕ → Type 0
  IsSaid xs s a = (f : Facts) × Contains xs (said s a f)

  kept : (s a : ℕ) → IsSaid list s a → IsSaid more s a
  kept s a (f, m) = (f, Contains-append_left list (x ∷ []) (said s a f) m)

  cases : (s a : ℕ) → IsSaid more s a → IsSaid list s a ⊎ ((x.symbol.0 ≡ s) × (x.attribute.0 ≡ a))
  cases s a (f, m) = elim (Contains-append_cases list (x ∷ []) (said s a f) m) [
    | inl old ↦ inl (f, old)
    | inr new ↦ elim (contains-cons x (said s a f) [] new) [
      | inl e ↦ inr (ap (λ (y : Said). y.symbol.0) e, ap (λ (y : Said). y.attribute.0) e)
      | inr none ↦ absurd (contains-nil (said s a f) none)
    ]
  ]

  here : IsSaid more x.symbol.0 x.attribute.0
  here = (x.facts, Contains-append_right list (x ∷ []) x (contains-here x []))

  -- of what something is known, something was said
  before : (o : Option Facts) → AreSums (λ f. Contains list (said x.symbol.0 x.attribute.0 f)) o → IsTrue (is_some o) → IsSaid list x.symbol.0 x.attribute.0
  before None sums h = absurd (cc)
  before (Some f) sums h = sums.there

  pub rows-kept : (facts : FactTable) (rows : NamedRows) → IsTableOf list facts → IsTrue (is_some (known facts x.symbol.0 x.attribute.0)) → AreRowsOf list rows → AreRowsOf more rows
  rows-kept facts rows is h are s a = (
    (λ m. kept s a ((are s a).0 m)),
    (λ k. elim (cases s a k) [
      | inl old ↦ (are s a).1 old
      | inr (es, ea) ↦ subst (λ z. Contains (row_of rows s) z) ea (subst (λ z. Contains (row_of rows z) x.attribute.0) es
          ((are x.symbol.0 x.attribute.0).1 (before (known facts x.symbol.0 x.attribute.0) (is x.symbol.0 x.attribute.0) h)))
    ]),
  )

  pub rows-added : (rows added : NamedRows) → ((s : ℕ) → row_of added s ≡ row_of rows s ++ (if nat_eq s x.symbol.0 then x.attribute.0 ∷ [] else [])) → AreRowsOf list rows → AreRowsOf more added
  rows-added rows added e are s a = go (nat_eq s x.symbol.0) refl (e s)
    where
      go : (b : Bool) → nat_eq s x.symbol.0 ≡ b → row_of added s ≡ row_of rows s ++ (if b then x.attribute.0 ∷ [] else []) → ((Contains (row_of added s) a → IsSaid more s a) × (IsSaid more s a → Contains (row_of added s) a))
      go true same es =
          let ss : s ≡ x.symbol.0 = eqb-true s x.symbol.0 same in (
            (λ m. elim (Contains-append_cases (row_of rows s) (x.attribute.0 ∷ []) a (subst (λ (xs : List ℕ). Contains xs a) es m)) [
              | inl old ↦ kept s a ((are s a).0 old)
              | inr new ↦ elim (contains-cons x.attribute.0 a [] new) [
                | inl ea ↦ subst (λ z. IsSaid more s z) ea (subst (λ z. IsSaid more z x.attribute.0) (sym ss) here)
                | inr none ↦ absurd (contains-nil a none)
              ]
            ]),
            (λ k. subst (λ (xs : List ℕ). Contains xs a) (sym es) (elim (cases s a k) [
              | inl old ↦ Contains-append_left (row_of rows s) (x.attribute.0 ∷ []) a ((are s a).1 old)
              | inr (f, ea) ↦ Contains-append_right (row_of rows s) (x.attribute.0 ∷ []) a (subst (λ z. Contains (x.attribute.0 ∷ []) z) ea (contains-here x.attribute.0 []))
            ])),
          )
      go false apart es = (
        (λ m. elim (Contains-append_cases (row_of rows s) [] a (subst (λ (xs : List ℕ). Contains xs a) es m)) [
          | inl old ↦ kept s a ((are s a).0 old)
          | inr none ↦ absurd (contains-nil a none)
        ]),
        (λ k. subst (λ (xs : List ℕ). Contains xs a) (sym es) (elim (cases s a k) [
          | inl old ↦ Contains-append_left (row_of rows s) [] a ((are s a).1 old)
          | inr (same, ea) ↦ absurd (let h = eq-eqb s x.symbol.0 (sym same) in cc)
        ])),
      )

-- the attributes on the symbols
pub said-on : (list : List Said) (rows : NamedRows) (symbols : List ℕ) (empty set : Names) → AreRowsOf list rows → ((a : ℕ) → has empty a ≡ false)
    → HasMore (Among (λ s a. Among (λ (b : ℕ) c. b ≡ c) (row_of rows s) a) symbols) empty set → AreSaidOn list symbols set
said-on list rows symbols empty set are none more = set-of none (more-same
    (λ a h. (h.item, h.among, (are h.item a).0 (subst (λ z. Contains (row_of rows h.item) z) h.is.is h.is.among)))
    (λ a (s, m, k). record { item = s; among = m; is = record { item = a; among = (are s a).1 k; is = refl } })
    more)
