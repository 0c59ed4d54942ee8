-- Rows of attributes that differ.
use Rattle.std.specs.Prelude.{◌||◌, Contains, map, if◌then◌else◌}
use Rattle.std.specs.List.{list_any}
use Rattle.std.proofs.Common.{◌≡◌, ◌∙◌, suc, inl, inr, Bool, true, false, List, [], ◌∷◌, ◌++◌, refl, sym, ap, subst, append_assoc, append-nil}
use Rattle.std.proofs.lemmas.List.Elements.{Contains-push_cases}
use Rattle.lido_base.proofs.Lists.{contains-nil, contains-here, contains-later, contains-map}
use Rattle.indexmap.specs.IndexSet.{insert_key, insert_all}
use Rattle.lido_symbols.specs.Numbers.{place_in}
use Rattle.need_graphs.proofs.OrderLemmas.{Pairs}
use Rattle.rule_tables.specs.Slots.{Slot, is_same_slot}
use Rattle.rule_tables.proofs.SlotLemmas.{same_slot-eq}
use Rattle.flat_slots.specs.declared.slot.Slot.{Slot as Named}
use Rattle.flat_slots.specs.declared.slot.Slot.TheVariants as named
use Rattle.flat_slots.specs.Named.{slot_of, same}

-- the test of the code is that of the definition
pub same-slot : (a b : Named) → same a b ≡ is_same_slot (slot_of a) (slot_of b)
same-slot (named.Written a) (named.Written b) = refl
same-slot (named.Inc a) (named.Inc b) = refl
same-slot (named.Con a) (named.Con b) = refl
same-slot (named.Front a) (named.Front b) = refl
same-slot (named.Behind a) (named.Behind b) = refl
same-slot (named.Msg a) (named.Msg b) = refl
same-slot named.Out named.Out = refl
same-slot (named.Written a) _ = refl
same-slot (named.Inc a) _ = refl
same-slot (named.Con a) _ = refl
same-slot (named.Front a) _ = refl
same-slot (named.Behind a) _ = refl
same-slot (named.Msg a) _ = refl
same-slot named.Out _ = refl

-- places among items that are named
pub place-map : (u : Named) (xs : List Named) → place_in (same u) xs ≡ place_in (is_same_slot (slot_of u)) (map slot_of xs)
place-map u [] = refl
place-map u (x ∷ xs) = λ i. if same-slot u x i then 0 else suc (place-map u xs i)

none-same : (u : Named) (xs : List Named) → ((x : Named) → Contains xs x → slot_of u ≡ slot_of x → ⊥) → list_any (same u) xs ≡ false
none-same u [] h = refl
none-same u (x ∷ xs) h = by (same u x) refl (none-same u xs (λ y m. h y (contains-later x y xs m)))
  where
    by : (b : Bool) → same u x ≡ b → list_any (same u) xs ≡ false → list_any (same u) (x ∷ xs) ≡ false
    by true e rest = absurd (h x (contains-here x xs) (same_slot-eq (slot_of u) (slot_of x) (sym (same-slot u x) ∙ e)))
    by false e rest = ap (λ (b : Bool). b || list_any (same u) xs) e ∙ rest

-- different attributes are added behind one another
abbrev pub IsApart : Named → Named → Type 0
IsApart u v = slot_of u ≡ slot_of v → ⊥

pub all-inserted : (front xs : List Named) → Pairs IsApart xs → ((u v : Named) → Contains front u → Contains xs v → IsApart u v) → insert_all same front xs ≡ front ++ xs
all-inserted front [] p h = sym (append-nil front)
all-inserted front (x ∷ xs) p h =
    let fresh : list_any (same x) front ≡ false = none-same x front (λ y m e. h y x m (contains-here x xs) (sym e)) in
    let first : insert_key same front x ≡ front ++ x ∷ [] = ap (λ (b : Bool). if b then front else front ++ x ∷ []) fresh in
    ap (λ l. insert_all same l xs) first
    ∙ all-inserted (front ++ x ∷ []) xs p.1 (λ y z m n. elim (Contains-push_cases front x y m) [
      | inl k ↦ h y z k (contains-later x z xs n)
      | inr e ↦ subst (λ w. IsApart w z) e (p.0 z n)
    ])
    ∙ append_assoc front (x ∷ []) xs

-- attributes that stand before one another are different
module _ (IsBefore : Slot → Slot → Type 0) (strict : (s : Slot) → IsBefore s s → ⊥) where
  abbrev pub IsNamedBefore : Named → Named → Type 0
  IsNamedBefore u v = IsBefore (slot_of u) (slot_of v)

  pairs-apart : (xs : List Named) → Pairs IsNamedBefore xs → Pairs IsApart xs
  pairs-apart [] p = tt
  pairs-apart (x ∷ xs) p = ((λ y m e. strict (slot_of y) (subst (λ (s : Slot). IsBefore s (slot_of y)) e (p.0 y m))), pairs-apart xs p.1)

  pub all-added : (xs : List Named) → Pairs IsNamedBefore xs → insert_all same [] xs ≡ xs
  all-added xs p = all-inserted [] xs (pairs-apart xs p) (λ u v m. absurd (contains-nil u m))

  pub pairs-named : (xs : List Named) → Pairs IsNamedBefore xs → Pairs IsBefore (map slot_of xs)
  pairs-named [] p = tt
  pairs-named (x ∷ xs) p = ((λ s m. let (y, among, e) = contains-map slot_of xs s m in subst (IsBefore (slot_of x)) e (p.0 y among)), pairs-named xs p.1)
