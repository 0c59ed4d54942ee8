-- The numbers of vertices: how they go on from occurrence to occurrence, and that each is the number of one vertex.
use Rattle.std.specs.Prelude.{slice_index_or, slice_get, sum_by}
use Rattle.std.proofs.Common.{◌≡◌, ℕ, zero, suc, ◌+◌, ◌<◌, ◌≤◌, ◌⊎◌, inl, inr, refl, sym, ap, subst, ◌∙◌, arith, List, [], ◌∷◌, ◌++◌, length, take, drop, Some, add-one}
use Rattle.std.proofs.lemmas.List.{take-append-drop}
use Rattle.std.proofs.lemmas.List.Sums.{sum_by-append, sum_by_push}
use Rattle.std.proofs.lemmas.Option.{get_or_from_slice_get, slice_get_within, slice_get-get_or}
use Rattle.std.proofs.Math.Seq.{take-suc}
use Rattle.lido_base.specs.declared.ids.SymId.{SymId}
use Rattle.flat_grammar.specs.declared.flat.FlatSymbol.{FlatSymbol}
use Rattle.flat_grammar.specs.declared.flat.FlatRule.{FlatRule}
use Rattle.flat_grammar.specs.Rules.{symbols_of, symbol_at}
use Rattle.flat_grammar.proofs.Lists.{held}
use Rattle.induced_deps.specs.declared.graph.Place.{Place}
use Rattle.induced_deps.specs.Vertices.{width, offset, vertices, IsPlace}

-- an element of a list with one more
pub at_push : {X : Type 0} (xs : List X) (x : X) (k : ℕ) (y : X) → slice_get (xs ++ x ∷ []) k ≡ Some y → (slice_get xs k ≡ Some y) ⊎ ((k ≡ length xs) × (x ≡ y))
at_push [] x zero y e = inr (refl, held e)
at_push [] x (suc k) y e = cc
at_push (z ∷ xs) x zero y e = inl e
at_push (z ∷ xs) x (suc k) y e = elim (at_push xs x k y e) [ inl there ↦ inl there | inr last ↦ inr (ap suc last.0, last.1) ]

sum_take : {X : Type 0} (f : X → ℕ) (xs : List X) (k : ℕ) → sum_by f (take k xs) ≤ sum_by f xs
sum_take f xs k = let whole = ap (sum_by f) (take-append-drop k xs) in let parts = sum_by-append f (take k xs) (drop k xs) in omega arith

sum_next : {X : Type 0} (f : X → ℕ) (xs : List X) (k : ℕ) (x : X) → slice_get xs k ≡ Some x → sum_by f (take (suc k) xs) ≡ sum_by f (take k xs) + f x
sum_next f xs k x at = ap (sum_by f) (take-suc xs k x (slice_get_within xs k x at) ∙ ap (λ y. take k xs ++ (y ∷ [])) (get_or_from_slice_get xs k x x at)) ∙ sum_by_push f (take k xs) x

module _ (symbols : List FlatSymbol) (r : FlatRule) where
  pub offset_next : (k : ℕ) (x : SymId) → symbol_at r k ≡ Some x → offset symbols r (suc k) ≡ offset symbols r k + width symbols x
  offset_next k x at = sum_next (width symbols) (symbols_of r) k x at

  pub offset_most : (k : ℕ) → offset symbols r k ≤ vertices symbols r
  offset_most k = sum_take (width symbols) (symbols_of r) k

  pub place_push : (places : List Place) (p : Place) → ((k : ℕ) (q : Place) → slice_get places k ≡ Some q → IsPlace symbols r k q) → (n : ℕ) → length places ≡ n → IsPlace symbols r n p
      → (k : ℕ) (q : Place) → slice_get (places ++ p ∷ []) k ≡ Some q → IsPlace symbols r k q
  place_push places p each n count last k q at = elim (at_push places p k q at) [ inl there ↦ each k q there | inr (end, same) ↦ subst (λ z. IsPlace symbols r k z) same (subst (λ m. IsPlace symbols r m p) (sym (end ∙ count)) last) ]

  -- the occurrence that comes next
  module _ (items : List SymId) (same : items ≡ symbols_of r) (k : ℕ) (d : SymId) (within : k < length items) (o w : ℕ) (start : o ≡ offset symbols r k) (wide : w ≡ width symbols (slice_index_or items k d)) where
    at : symbol_at r k ≡ Some (slice_index_or items k d)
    at = subst (λ (xs : List SymId). slice_get xs k ≡ Some (slice_index_or items k d)) same (slice_get-get_or items k d within)

    pub goes_on : o + w ≡ offset symbols r (k + 1)
    goes_on = rw add-one (ap (λ n. n + w) start ∙ ap (λ n. offset symbols r k + n) wide ∙ sym (offset_next k (slice_index_or items k d) at))

    pub last_place : IsPlace symbols r k (record { symbol = slice_index_or items k d; offset = o; width = w })
    last_place = record { symbol = at; offset_is = start; width_is = wide }
