-- The specification of the sum of a list's items, node by node and attribute by attribute.
use Rattle.std.specs.Prelude.{Contains, slice_get, option_and_then}
use Rattle.lido_base.specs.Tree.{rule_at}
use Rattle.std.proofs.Common.{◌≡◌, ℕ, zero, suc, inl, [], ◌∷◌, Some, None, refl, arith, subst, sym, ◌∙◌}
use Rattle.lido_base.specs.declared.kinds.Kind.{Kind}
use Rattle.lido_base.specs.declared.kinds.Kind.TheVariants.{Synthesized, Inherited}
use Rattle.lido_base.specs.declared.value.ValueType.{ValueType}
use Rattle.lido_base.specs.declared.value.ValueType.TheVariants as type
use Rattle.lido_syntax.specs.declared.spec.Decl.{Decl}
use Rattle.lido_syntax.specs.declared.spec.RuleItem.{RuleItem}
use Rattle.lido_syntax.specs.Production.{name_of}
use Rattle.lido_syntax.specs.Attributes.{Use, uses, reads, IsOnSide, Has, HasKind, HasType}
use Rattle.lido_syntax.specs.Attributes as attributes
use Rattle.lido_syntax.specs.Nodes.{IsAt}
use Rattle.lido_syntax.proofs.ExpressionLemmas.{reads-Call}
use Rattle.trials_of_syntax.specs.Writing.{name, declaration}
use Rattle.trials_of_syntax.specs.SumOfItems.{spec, tree, top_rule, item_rule, out, number, Item, n}
use Rattle.trials_of_syntax.proofs.Members.{every, same_Some}
use Rattle.trials_of_syntax.proofs.RulesOnly.{EachUse, has_within, not_declared_kind, kind_within, not_typed_by_symbol, rule_of}

-- the only symbol with an attribute, and its only attribute
abbrev pub IsNumber : ℕ → ℕ → Type 0
IsNumber s a = (s ≡ Item) × (a ≡ n)

out_uses : EachUse IsNumber out
out_uses = simp (reads-Call) ((refl, refl), tt)

pub only_number : (s a : ℕ) → Has spec s a → IsNumber s a
only_number = has_within spec.rules spec.attrs spec.terms spec.chains IsNumber ((out_uses, tt), ((((refl, refl), tt), tt), tt))

never_empty : (kind : Kind) → ¬ IsOnSide kind []
never_empty Synthesized h = h
never_empty Inherited h = h

left_side : (kind : Kind) → IsOnSide kind (0 ∷ []) → kind ≡ Synthesized
left_side Synthesized h = refl
left_side Inherited h = absurd h

pub only_synthesized : (s a : ℕ) (kind : Kind) → HasKind spec s a kind → kind ≡ Synthesized
only_synthesized = kind_within spec.rules spec.attrs spec.terms spec.chains (λ kind. kind ≡ Synthesized) refl (refl, tt)
    (((λ kind h. absurd (never_empty kind h)), tt), (((λ kind h. left_side kind h), tt), tt))

int_declared : (a : ℕ) (ty : ValueType) (d : Decl) → Contains spec.attrs d → name_of d.attr ≡ a → d.ty ≡ ty → (a ≡ n) × (ty ≡ type.Int)
int_declared a ty d m e f = every (λ (d : Decl). name_of d.attr ≡ a → d.ty ≡ ty → (a ≡ n) × (ty ≡ type.Int)) spec.attrs ((λ e f. (sym e, sym f)), tt) d m e f

pub int_number : (s a : ℕ) (ty : ValueType) → a ≡ n → HasType spec s a ty → ty ≡ type.Int
int_number s a ty e (attributes.by_symbol h) = absurd (not_typed_by_symbol spec.rules spec.attrs spec.terms spec.chains s a ty h)
int_number s a ty e (attributes.by_attr h (d, m, f, g)) = (int_declared a ty d m f g).1
int_number s a _ e (HasType.by_default h k) = absurd (k type.Int (spec_attr, (0, omega arith, refl), sym e, refl))
  where
    spec_attr : Decl
    spec_attr = record { attr = name n; ty = type.Int; kind = None }

-- what holds of each node and its rule
pub by_node : (P : ℕ → RuleItem → Type 0) → P 0 top_rule → P 1 item_rule → P 2 item_rule → (m : ℕ) (r : RuleItem) → IsAt spec tree m r → P m r
by_node P a b c m r at = go m (rule_of spec.rules spec.attrs spec.terms spec.chains tree m r at)
  where
    go : (m : ℕ) → option_and_then (slice_get spec.rules) (rule_at tree m) ≡ Some r → P m r
    go zero e = subst (P 0) (same_Some _ _ e) a
    go (suc zero) e = subst (P 1) (same_Some _ _ e) b
    go (suc (suc zero)) e = subst (P 2) (same_Some _ _ e) c
    go (suc (suc (suc m))) e = cc

pub one_type : (s a : ℕ) (x y : ValueType) → HasType spec s a x → HasType spec s a y → x ≡ y
one_type s a x y (attributes.by_symbol h) k = absurd (not_typed_by_symbol spec.rules spec.attrs spec.terms spec.chains s a x h)
one_type s a x y (attributes.by_attr h (d, m, f, g)) k = let is : (a ≡ n) × (x ≡ type.Int) = int_declared a x d m f g in is.1 ∙ sym (int_number s a y is.0 k)
one_type s a _ y (HasType.by_default h k) (attributes.by_symbol i) = absurd (not_typed_by_symbol spec.rules spec.attrs spec.terms spec.chains s a y i)
one_type s a _ y (HasType.by_default h k) (attributes.by_attr i j) = absurd (k y j)
one_type s a _ _ (HasType.by_default h k) (HasType.by_default i j) = refl

pub has_number : Has spec Item n
has_number = inl (attributes.by_name number (name Item) None (inl (item_rule, (1, omega arith, refl), (0, omega arith, refl))) (name n, (0, omega arith, refl), refl, (λ h. cc)) refl)

pub kind_number : HasKind spec Item n Synthesized
kind_number = attributes.by_side (not_declared_kind spec.rules spec.attrs spec.terms spec.chains (refl, tt) Item n)
    (inl (attributes.side item_rule number (name Item) None (name n) (1, omega arith, refl) (0, omega arith, refl) refl tt refl refl (λ h. cc)))

pub type_number : HasType spec Item n type.Int
type_number = attributes.by_attr (not_typed_by_symbol spec.rules spec.attrs spec.terms spec.chains Item n) (declaration n type.Int, (0, omega arith, refl), refl, refl)
