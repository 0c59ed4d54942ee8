-- What a table of types has after each key.
use Rattle.std.specs.Prelude.{nat_eq, slice_get}
use Rattle.std.proofs.Common.{◌≡◌, ℕ, ◌+◌, ◌≤◌, ◌⊎◌, inl, inr, Bool, true, false, if◌then◌else◌, List, length, take, take_all, Option, Some, None, refl, ap, sym, subst, ◌∙◌, eqb-true, eq-eqb}
use Rattle.std.proofs.lemmas.Bool.{and_parts, and_from}
use Rattle.std.proofs.lemmas.Option.{none-some, same_Some}
use Rattle.lido_base.specs.declared.value.ValueType.{ValueType}
use Rattle.lido_base.proofs.Lists.{contains-nil}
use Rattle.least_paths.proofs.GraphLemmas.{next-cases, next-old, next-here}
use Rattle.symbol_attributes.specs.Facts.{is_same_key}
use Rattle.leaf_types.specs.Tables.{OfSome, HasMore, IsTableOf}

abbrev pub Table : Type 0 → Type 0
Table K = K → Option ValueType

module _ {K : Type 0} where
  -- nothing is added
  pub more-none : (Gives : K → ValueType → Type 0) (a : Table K) → ((k : K) (ty : ValueType) → ¬ Gives k ty) → HasMore Gives a a
  more-none Gives a none = record { only = λ k ty e. inl e; kept = λ k e. e; all = λ k e ty. none k ty }

  -- the same is given in other words
  pub more-same : (P Q : K → ValueType → Type 0) (a b : Table K) → ((k : K) (ty : ValueType) → P k ty → Q k ty) → ((k : K) (ty : ValueType) → Q k ty → P k ty) → HasMore P a b → HasMore Q a b
  more-same P Q a b to from more = record {
    only = λ k ty e. elim (more.only k ty e) [ inl old ↦ inl old | inr new ↦ inr (to k ty new) ];
    kept = more.kept;
    all = λ k e ty q. more.all k e ty (from k ty q);
  }

  -- one key is set
  pub more-set : (same : K → Bool) (value : ValueType) (a b : Table K) → ((k : K) → b k ≡ (if same k then Some value else a k)) → HasMore (λ k ty. (same k ≡ true) × (value ≡ ty)) a b
  more-set same value a b set = record {
    only = λ k ty e. only k ty (same k) refl (sym (set k) ∙ e);
    kept = λ k e. kept k (same k) (sym (set k) ∙ e);
    all = λ k e ty h. none-some value (sym (sym (set k ∙ ap (λ t. if t then Some value else a k) h.0) ∙ e));
  }
    where
      only : (k : K) (ty : ValueType) (t : Bool) → same k ≡ t → (if t then Some value else a k) ≡ Some ty → (a k ≡ Some ty) ⊎ ((same k ≡ true) × (value ≡ ty))
      only k ty true f e = inr (f, same_Some value ty e)
      only k ty false f e = inl e

      kept : (k : K) (t : Bool) → (if t then Some value else a k) ≡ None → a k ≡ None
      kept k true e = absurd (none-some value (sym e))
      kept k false e = e

  module _ {X : Type 0} (Gives : X → K → ValueType → Type 0) (xs : List X) where
    -- of the first ones
    abbrev First : ℕ → K → ValueType → Type 0
    First i = OfSome Gives (take i xs)

    pub more-begin : (a : Table K) → HasMore (First 0) a a
    more-begin a = more-none (First 0) a (λ k ty h. contains-nil h.0 h.1)

    pub more-next : (i : ℕ) (x : X) (a b c : Table K) → slice_get xs i ≡ Some x → HasMore (First i) a b → HasMore (Gives x) b c → HasMore (First (i + 1)) a c
    more-next i x a b c at before more = record {
      only = λ k ty e. elim (more.only k ty e) [
        | inl old ↦ elim (before.only k ty old) [ inl older ↦ inl older | inr h ↦ inr (h.0, next-old xs i x h.0 at h.1, h.2) ]
        | inr new ↦ inr (x, next-here xs i x at, new)
      ];
      kept = λ k e. before.kept k (more.kept k e);
      all = λ k e ty h. elim (next-cases xs i x h.0 at h.1) [
        | inl old ↦ before.all k (more.kept k e) ty (h.0, old, h.2)
        | inr same ↦ more.all k e ty (subst (λ y. Gives y k ty) (sym same) h.2)
      ];
    }

    pub more-all : (i : ℕ) (a b : Table K) → length xs ≤ i → HasMore (First i) a b → HasMore (OfSome Gives xs) a b
    more-all i a b past more = subst (λ ys. HasMore (OfSome Gives ys) a b) (take_all i xs past) more

  -- a table that was empty at first
  pub table-of : (Gives : K → ValueType → Type 0) (a b : Table K) → ((k : K) → a k ≡ None) → HasMore Gives a b → IsTableOf Gives b
  table-of Gives a b none more = record {
    only = λ k ty e. elim (more.only k ty e) [ inl old ↦ absurd (none-some ty (sym (none k) ∙ old)) | inr new ↦ new ];
    all = more.all;
  }

-- an attribute of a symbol, and a name
pub attribute-set : (s a : ℕ) (value : ValueType) (old new : ℕ × ℕ → Option ValueType) → ((k : ℕ × ℕ) → new k ≡ (if is_same_key (s, a) k then Some value else old k))
    → HasMore (λ (k : ℕ × ℕ) ty. (s ≡ k.0) × (a ≡ k.1) × (value ≡ ty)) old new
attribute-set s a value old new set =
    more-same (λ (k : ℕ × ℕ) ty. (is_same_key (s, a) k ≡ true) × (value ≡ ty)) (λ (k : ℕ × ℕ) ty. (s ≡ k.0) × (a ≡ k.1) × (value ≡ ty)) old new
    (λ k ty h. let p = and_parts (nat_eq s k.0) (nat_eq a k.1) h.0 in (eqb-true s k.0 p.0, eqb-true a k.1 p.1, h.1))
    (λ k ty h. (and_from (nat_eq s k.0) (nat_eq a k.1) (eq-eqb s k.0 h.0) (eq-eqb a k.1 h.1), h.2))
    (more-set (is_same_key (s, a)) value old new set)

pub name-set : (s : ℕ) (value : ValueType) (old new : ℕ → Option ValueType) → ((k : ℕ) → new k ≡ (if nat_eq s k then Some value else old k)) → HasMore (λ (k : ℕ) ty. (s ≡ k) × (value ≡ ty)) old new
name-set s value old new set =
    more-same (λ (k : ℕ) ty. (nat_eq s k ≡ true) × (value ≡ ty)) (λ (k : ℕ) ty. (s ≡ k) × (value ≡ ty)) old new
    (λ k ty h. (eqb-true s k h.0, h.1)) (λ k ty h. (eq-eqb s k h.0, h.1)) (more-set (nat_eq s) value old new set)
