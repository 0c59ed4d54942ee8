-- Types are equal where the test says so.
use Rattle.std.specs.Prelude.{◌≡◌, ◌⊎◌, Bool, true, false, Option, None, Some, refl}
use Rattle.std.specs.Bool.{Decides}
use Rattle.std.proofs.Common.{ap, subst, sym, ◌∙◌, inl, inr}
use Rattle.std.proofs.lemmas.Bool.{false≢true}
use Rattle.std.proofs.lemmas.Option.{none-some, same_Some}
use Rattle.lido_base.specs.declared.value.ValueType.{ValueType}
use Rattle.lido_base.specs.declared.value.ValueType.TheVariants as type
use Rattle.lido_base.specs.contracts.value.ValueTypePartialEq.TheImpl.{eq-value}

abbrev pub type_eq : ValueType → ValueType → Bool
type_eq = (eq-value).it

same-type : (a : ValueType) → type_eq a a ≡ true
same-type type.Int = refl
same-type type.Str = refl
same-type type.Bool = refl
same-type type.Text = refl
same-type type.Void = refl

equal-types : (a b : ValueType) → type_eq a b ≡ true → a ≡ b
equal-types type.Int type.Int e = refl
equal-types type.Int type.Str e = absurd (false≢true e)
equal-types type.Int type.Bool e = absurd (false≢true e)
equal-types type.Int type.Text e = absurd (false≢true e)
equal-types type.Int type.Void e = absurd (false≢true e)
equal-types type.Str type.Int e = absurd (false≢true e)
equal-types type.Str type.Str e = refl
equal-types type.Str type.Bool e = absurd (false≢true e)
equal-types type.Str type.Text e = absurd (false≢true e)
equal-types type.Str type.Void e = absurd (false≢true e)
equal-types type.Bool type.Int e = absurd (false≢true e)
equal-types type.Bool type.Str e = absurd (false≢true e)
equal-types type.Bool type.Bool e = refl
equal-types type.Bool type.Text e = absurd (false≢true e)
equal-types type.Bool type.Void e = absurd (false≢true e)
equal-types type.Text type.Int e = absurd (false≢true e)
equal-types type.Text type.Str e = absurd (false≢true e)
equal-types type.Text type.Bool e = absurd (false≢true e)
equal-types type.Text type.Text e = refl
equal-types type.Text type.Void e = absurd (false≢true e)
equal-types type.Void type.Int e = absurd (false≢true e)
equal-types type.Void type.Str e = absurd (false≢true e)
equal-types type.Void type.Bool e = absurd (false≢true e)
equal-types type.Void type.Text e = absurd (false≢true e)
equal-types type.Void type.Void e = refl

pub type-decides : (a b : ValueType) → Decides (type_eq a b) (a ≡ b)
type-decides a b = (equal-types a b, λ e. subst (λ u. type_eq a u ≡ true) e (same-type a))

pub same-or-other : (a b : ValueType) → (a ≡ b) ⊎ (a ≡ b → ⊥)
same-or-other a b = by (type_eq a b) refl
  where
    by : (t : Bool) → type_eq a b ≡ t → (a ≡ b) ⊎ (a ≡ b → ⊥)
    by true e = inl (equal-types a b e)
    by false e = inr (λ f. false≢true (sym e ∙ (type-decides a b).1 f))

pub is-or-not : (o : Option ValueType) (ty : ValueType) → (o ≡ Some ty) ⊎ (o ≡ Some ty → ⊥)
is-or-not None ty = inr (λ e. none-some ty e)
is-or-not (Some u) ty = elim (same-or-other u ty) [ inl e ↦ inl (ap Some e) | inr n ↦ inr (λ e. n (same_Some u ty e)) ]
