-- The rows of a table of attributes, one after another.
use Rattle.std.specs.Prelude.{unwrap_or}
use Rattle.std.proofs.Common.{◌≡◌, ◌∙◌, ℕ, ◌+◌, ◌<◌, ◌≤◌, inl, inr, List, [], length, get_or, Option, ap, sym, subst, arith}
use Rattle.std.proofs.lemmas.Bool.{cases_lt}
use Rattle.std.proofs.lemmas.Option.{slice_get-get_or, slice_get_past}
use Rattle.flat_slots.specs.declared.slot.Slot.{Slot}
use Rattle.flat_slots.specs.Slots.{row_at}

row-read : (rows items : List (List Slot)) (i : ℕ) (row : List Slot) → items ≡ rows → i < length items → row ≡ get_or items i row → row_at rows i ≡ row
row-read rows items i row same below at =
    ap (λ (l : List (List Slot)). row_at l i) (sym same) ∙ ap (λ (o : Option (List Slot)). unwrap_or o []) (slice_get-get_or items i row below) ∙ sym at

-- one row more that is short
pub few-more : (rows items : List (List Slot)) (i : ℕ) (row : List Slot) → items ≡ rows → i < length items → row ≡ get_or items i row → length row ≤ 256
    → ((x : ℕ) → x < i → length (row_at rows x) ≤ 256) → (x : ℕ) → x < i + 1 → length (row_at rows x) ≤ 256
few-more rows items i row same below at short before x h = elim (cases_lt x i) [
  | inl l ↦ before x l
  | inr l ↦ let place : i ≡ x = omega (arith, h, l) in
      subst (λ (n : ℕ). length (row_at rows n) ≤ 256) place (let e = ap length (row-read rows items i row same below at) in omega (arith, e, short))
]

-- one that is long
pub long-row : (rows items : List (List Slot)) (i : ℕ) (row : List Slot) → items ≡ rows → i < length items → row ≡ get_or items i row
    → 256 < length row → (x : ℕ) × (256 < length (row_at rows x))
long-row rows items i row same below at long = (i, (let e = ap length (row-read rows items i row same below at) in omega (arith, e, long)))

-- behind the last one there is nothing
pub few-all : (rows items : List (List Slot)) (i : ℕ) → items ≡ rows → length items ≤ i → ((x : ℕ) → x < i → length (row_at rows x) ≤ 256) → (x : ℕ)
    → length (row_at rows x) ≤ 256
few-all rows items i same all before x = elim (cases_lt x i) [
  | inl l ↦ before x l
  | inr l ↦ let none = ap (λ (o : Option (List Slot)). length (unwrap_or o []))
      (slice_get_past rows x (omega (arith, l, all, ap length same))) in omega (arith, none)
]
