-- The best of one class more.
use Rattle.std.specs.Prelude.{Bool, true, false, cond, nat_le}
use Rattle.std.proofs.Common.{◌≡◌, ℕ, ◌+◌, ◌<◌, ◌≤◌, ◌⊎◌, inl, inr, Option, Some, None, refl, sym, ap, ◌∙◌, subst, arith}
use Rattle.std.proofs.lemmas.Bool.{cases_lt, leb-true, leb-false}
use Rattle.std.proofs.lemmas.Option.{same_Some}
use Rattle.symbol_inherit.specs.Index.{noted}
use Rattle.symbol_inherit.specs.Classes.{is_that, IsLeftBy, IsEarliest, IsNone, IsBest, earlier_of}
use Rattle.computation_aims.specs.declared.aims.Aim.{Aim}
use Rattle.symbol_inherit.specs.declared.notes.Own.{Own}
use Rattle.symbol_inherit.specs.declared.left.Left.{Left}
use Rattle.symbol_inherit.specs.declared.classes.Classes.{Classes}
use Rattle.symbol_inherit.specs.declared.index.Index.{Index}

module _ (classes : Classes) (index : Index) (x : ℕ) (aim : Aim) (n : ℕ) (except : Option ℕ) where
  below : (y m : ℕ) → m < y + 1 → (m < y) ⊎ (m ≡ y)
  below y m h = elim (cases_lt m y) [ inl l ↦ inl l | inr g ↦ inr (omega arith) ]

  -- the class y is none of those that count
  pub passed : (y : ℕ) → (IsLeftBy classes index x aim n y → is_that except y ≡ false → ⊥)
      → (best : Option Left) → IsBest classes index x aim n y except best → IsBest classes index x aim n (y + 1) except best
  passed y none None b = λ m h left other. at m (below y m h) left other
    where
      at : (m : ℕ) → (m < y) ⊎ (m ≡ y) → IsLeftBy classes index x aim n m → is_that except m ≡ false → ⊥
      at m (inl h) left other = b m h left other
      at m (inr e) left other = none (subst (IsLeftBy classes index x aim n) e left) (subst (λ k. is_that except k ≡ false) e other)
  passed y none (Some best) b = record {
    within = let w = b.within in omega arith;
    left = b.left;
    other = b.other;
    own = b.own;
    first = λ m own h left other e. at m own (below y m h) left other e;
  }
    where
      at : (m : ℕ) (own : Own) → (m < y) ⊎ (m ≡ y) → IsLeftBy classes index x aim n m → is_that except m ≡ false → noted index m aim ≡ Some own → best.own.at ≤ own.at
      at m own (inl h) left other e = b.first m own h left other e
      at m own (inr f) left other e = absurd (none (subst (IsLeftBy classes index x aim n) f left) (subst (λ k. is_that except k ≡ false) f other))

  -- the class y counts
  module _ (y : ℕ) (own : Own) (left : IsLeftBy classes index x aim n y) (other : is_that except y ≡ false) (its : noted index y aim ≡ Some own) where
    same-own : (m : ℕ) (o : Own) → m ≡ y → noted index m aim ≡ Some o → o.at ≡ own.at
    same-own m o e f = ap (λ (o : Own). o.at) (same_Some o own (sym f ∙ ap (λ k. noted index k aim) e ∙ its))

    abbrev here : Left
    here = record { class = y; own = own }

    alone : IsNone classes index x aim n y except → IsEarliest classes index x aim n (y + 1) except here
    alone none = record { within = omega arith; left = left; other = other; own = its; first = λ m o h l k e. at m o (below y m h) l k e }
      where
        at : (m : ℕ) (o : Own) → (m < y) ⊎ (m ≡ y) → IsLeftBy classes index x aim n m → is_that except m ≡ false → noted index m aim ≡ Some o → own.at ≤ o.at
        at m o (inl h) l k e = absurd (none m h l k)
        at m o (inr f) l k e = let s = same-own m o f e in omega arith

    pub counted : (best : Option Left) → IsBest classes index x aim n y except best → IsEarliest classes index x aim n (y + 1) except (earlier_of best here)
    counted None b = alone b
    counted (Some best) b = by (nat_le best.own.at own.at) refl
      where
        kept : best.own.at ≤ own.at → IsEarliest classes index x aim n (y + 1) except best
        kept le = record {
          within = let w = b.within in omega arith;
          left = b.left;
          other = b.other;
          own = b.own;
          first = λ m o h l k e. at m o (below y m h) l k e;
        }
          where
            at : (m : ℕ) (o : Own) → (m < y) ⊎ (m ≡ y) → IsLeftBy classes index x aim n m → is_that except m ≡ false → noted index m aim ≡ Some o → best.own.at ≤ o.at
            at m o (inl h) l k e = b.first m o h l k e
            at m o (inr f) l k e = let s = same-own m o f e in omega arith

        taken : own.at < best.own.at → IsEarliest classes index x aim n (y + 1) except here
        taken lt = record { within = omega arith; left = left; other = other; own = its; first = λ m o h l k e. at m o (below y m h) l k e }
          where
            at : (m : ℕ) (o : Own) → (m < y) ⊎ (m ≡ y) → IsLeftBy classes index x aim n m → is_that except m ≡ false → noted index m aim ≡ Some o → own.at ≤ o.at
            at m o (inl h) l k e = let f = b.first m o h l k e in omega arith
            at m o (inr f) l k e = let s = same-own m o f e in omega arith

        by : (t : Bool) → nat_le best.own.at own.at ≡ t → IsEarliest classes index x aim n (y + 1) except (cond t best here)
        by true e = kept (leb-true best.own.at own.at e)
        by false e = taken (leb-false best.own.at own.at e)
