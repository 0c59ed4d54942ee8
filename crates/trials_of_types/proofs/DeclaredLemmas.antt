-- The types of what the specification of the trials declares.
use Rattle.std.specs.Prelude.{◌≡◌, ◌⊎◌, ℕ, zero, suc, [], ◌∷◌, Contains, refl, None}
use Rattle.std.proofs.Common.{ap, sym, subst, ◌∙◌, inl, inr, arith}
use Rattle.lido_base.proofs.Lists.{contains-nil, contains-cons}
use Rattle.lido_base.specs.declared.value.ValueType.{ValueType}
use Rattle.lido_base.specs.declared.value.ValueType.TheVariants as type
use Rattle.lido_syntax.specs.declared.spec.Decl.{Decl}
use Rattle.lido_syntax.specs.declared.spec.Typed1.{Typed1}
use Rattle.lido_syntax.specs.Production.{name_of}
use Rattle.lido_syntax.specs.Symbols.{IsTypedChain}
use Rattle.lido_syntax.specs.Attributes.{HasType, by_symbol, by_attr, by_default, IsTypedBySymbol}
use Rattle.trials_of_types.specs.Writing.{declared, named}

-- the types of the names that ATTR declares, and VOID for the others
abbrev declared_type : ℕ → ValueType
declared_type zero = type.Int
declared_type (suc zero) = type.Str
declared_type (suc (suc n)) = type.Void

abbrev first : Decl
first = record { attr = named 0; ty = type.Int; kind = None }

abbrev second : Decl
second = record { attr = named 1; ty = type.Str; kind = None }

untyped : (s a : ℕ) (ty : ValueType) → IsTypedBySymbol declared s a ty → ⊥
untyped s a ty (inl (d, (item, m, n, k, same), e)) = contains-nil item m
untyped s a ty (inr (class, i, (d, (item, m, n, k, same), e))) = contains-nil item m

as_declared : (d : Decl) → Contains declared.attrs d → declared_type (name_of d.attr) ≡ d.ty
as_declared d m = go (contains-cons first d (second ∷ []) m)
  where
    last : (second ≡ d) ⊎ Contains [] d → declared_type (name_of d.attr) ≡ d.ty
    last (inl e) = subst (λ (x : Decl). declared_type (name_of x.attr) ≡ x.ty) e refl
    last (inr k) = absurd (contains-nil d k)

    go : (first ≡ d) ⊎ Contains (second ∷ []) d → declared_type (name_of d.attr) ≡ d.ty
    go (inl e) = subst (λ (x : Decl). declared_type (name_of x.attr) ≡ x.ty) e refl
    go (inr k) = last (contains-cons second d [] k)

pub int_there : (s : ℕ) (ty : ValueType) → HasType declared s 0 ty → ty ≡ type.Int
int_there s ty (by_symbol h) = absurd (untyped s 0 ty h)
int_there s ty (by_attr none (d, m, e, t)) = sym t ∙ sym (as_declared d m) ∙ ap declared_type e
int_there s _ (by_default none nor) = absurd (nor type.Int (first, (0, (omega arith), refl), refl, refl))

pub str_there : (s : ℕ) (ty : ValueType) → HasType declared s 1 ty → ty ≡ type.Str
str_there s ty (by_symbol h) = absurd (untyped s 1 ty h)
str_there s ty (by_attr none (d, m, e, t)) = sym t ∙ sym (as_declared d m) ∙ ap declared_type e
str_there s _ (by_default none nor) = absurd (nor type.Str (second, (1, (omega arith), refl), refl, refl))

abbrev IsLow : ℕ → Type 0
IsLow zero = Unit {0}
IsLow (suc zero) = Unit {0}
IsLow (suc (suc n)) = ⊥

low : (d : Decl) → Contains declared.attrs d → IsLow (name_of d.attr)
low d m = go (contains-cons first d (second ∷ []) m)
  where
    last : (second ≡ d) ⊎ Contains [] d → IsLow (name_of d.attr)
    last (inl e) = subst (λ (x : Decl). IsLow (name_of x.attr)) e tt
    last (inr k) = absurd (contains-nil d k)

    go : (first ≡ d) ⊎ Contains (second ∷ []) d → IsLow (name_of d.attr)
    go (inl e) = subst (λ (x : Decl). IsLow (name_of x.attr)) e tt
    go (inr k) = last (contains-cons second d [] k)

pub void_there : (s : ℕ) → HasType declared s 5 type.Void
void_there s = by_default (λ other h. untyped s 5 other h) (λ other h. subst IsLow h.2 (low h.0 h.1))

abbrev chain : Typed1
chain = record { name = named 2; ty = type.Void }

pub chain_void : (ty : ValueType) → IsTypedChain declared 2 ty → ty ≡ type.Void
chain_void ty (x, m, e, t) = go (contains-cons chain x [] m)
  where
    go : (chain ≡ x) ⊎ Contains [] x → ty ≡ type.Void
    go (inl same) = sym t ∙ ap (λ (y : Typed1). y.ty) (sym same)
    go (inr k) = absurd (contains-nil x k)
