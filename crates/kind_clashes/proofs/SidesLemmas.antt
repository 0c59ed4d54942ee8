-- The side of a name whose index may be faulty.
use Rattle.std.specs.Prelude.{IsTrue, Bool, true, false, nat_eq, ◌↔◌, ℤ}
use Rattle.std.proofs.Common.{◌≡◌, ℕ, suc, List, [], ◌∷◌, Option, Some, None, refl, sym, subst, ◌∙◌, true≢false, eqb-true}
use Rattle.lido_base.specs.declared.kinds.Kind.TheVariants.{Inherited}
use Rattle.lido_base.specs.Tree.{contains}
use Rattle.lido_syntax.specs.declared.spec.Name.{Name}
use Rattle.lido_syntax.specs.declared.spec.RuleItem.{RuleItem}
use Rattle.lido_syntax.specs.Attributes.{possible, IsOnSide}
use Rattle.lido_syntax.specs.Production.{name_of, left_of, right_of, symbols_of, occurrence, places_from}

-- what a place in the list of possible ones says, by the occurrence
abbrev pub possible_by : RuleItem → ℕ → Option ℕ → List ℕ
possible_by r x (Some k) = k ∷ []
possible_by r x None = places_from 0 x (symbols_of r)

possible-none : (r : RuleItem) (x : Name) (i : Option ℤ) → occurrence r x i ≡ None → possible r x i ≡ places_from 0 (name_of x) (symbols_of r)
possible-none r x i e = rw (e, possible) refl

right-side : (k : ℕ) (x : ℕ) (ys : List ℕ) → IsTrue (contains x ys) ↔ IsOnSide Inherited (places_from (suc k) x ys)
right-side k x [] = ((λ h. absurd (true≢false (sym h))), (λ h. absurd h))
right-side k x (y ∷ ys) = go (nat_eq x y) refl (right-side (suc k) x ys)
  where
    go : (b : Bool) → nat_eq x y ≡ b → (IsTrue (contains x ys) ↔ IsOnSide Inherited (places_from (suc (suc k)) x ys)) → IsTrue (contains x (y ∷ ys)) ↔ IsOnSide Inherited (places_from (suc k) x (y ∷ ys))
    go true e later = rw e ((λ h. tt), (λ h. refl))
    go false e later = rw e later

other-side : (r : RuleItem) (x : ℕ) → ¬ (left_of r ≡ x) → IsTrue (contains x (symbols_of r)) ↔ IsOnSide Inherited (places_from 0 x (symbols_of r))
other-side r x other = go (nat_eq x (left_of r)) refl
  where
    go : (b : Bool) → nat_eq x (left_of r) ≡ b → IsTrue (contains x (symbols_of r)) ↔ IsOnSide Inherited (places_from 0 x (symbols_of r))
    go true e = absurd (other (sym (eqb-true x (left_of r) e)))
    go false e = rw e (right-side 0 x (right_of r))

-- where a name means no occurrence and isn't that of the left side, it is on the right side if the production has it
pub on_right : (r : RuleItem) (x : Name) (i : Option ℤ) → occurrence r x i ≡ None → ¬ (left_of r ≡ name_of x) → (b : Bool) → b ≡ contains (name_of x) (symbols_of r)
    → IsTrue b ↔ IsOnSide Inherited (possible r x i)
on_right r x i none other b e =
    let h = other-side r (name_of x) other in (
      (λ t. subst (λ (ps : List ℕ). IsOnSide Inherited ps) (sym (possible-none r x i none)) (h.0 (sym e ∙ t))),
      (λ side. e ∙ h.1 (subst (λ (ps : List ℕ). IsOnSide Inherited ps) (possible-none r x i none) side)),
    )
