-- Where nothing is declared, each attribute is VOID, and each terminal an int.
use Rattle.std.specs.Prelude.{◌≡◌, ℕ, List, [], refl}
use Rattle.std.proofs.Common.{sym, ◌∙◌, inl, inr}
use Rattle.lido_base.proofs.Lists.{contains-nil}
use Rattle.lido_base.specs.declared.value.ValueType.{ValueType}
use Rattle.lido_base.specs.declared.value.ValueType.TheVariants as type
use Rattle.lido_syntax.specs.declared.spec.Spec.{Spec}
use Rattle.lido_syntax.specs.declared.spec.RuleItem.{RuleItem}
use Rattle.lido_syntax.specs.Symbols.{IsTerminal}
use Rattle.lido_syntax.specs.Attributes.{HasType, by_symbol, by_attr, by_default, IsTypedBySymbol}
use Rattle.leaf_types.specs.Single.{AreSingleTypes}

module _ (rules : List RuleItem) where
  abbrev bare : Spec
  bare = record { rules = rules; symbols = []; attrs = []; terms = []; chains = [] }

  untyped : (s a : ℕ) (ty : ValueType) → IsTypedBySymbol bare s a ty → ⊥
  untyped s a ty (inl (d, (item, m, n, k, same), e)) = contains-nil item m
  untyped s a ty (inr (class, i, (d, (item, m, n, k, same), e))) = contains-nil item m

  void : (s a : ℕ) (ty : ValueType) → HasType bare s a ty → ty ≡ type.Void
  void s a ty (by_symbol h) = absurd (untyped s a ty h)
  void s a ty (by_attr none h) = absurd (contains-nil h.0 h.1)
  void s a ty (by_default none nor) = refl

  int : (s : ℕ) (ty : ValueType) → IsTerminal bare s ty → ty ≡ type.Int
  int s ty (none, inl (x, m, same, typed)) = absurd (contains-nil x m)
  int s ty (none, inr (on, nor, e)) = e

  pub single : AreSingleTypes bare
  single = record {
    attribute = λ s a ty other g h. void s a ty g ∙ sym (void s a other h);
    terminal = λ s ty other g h. int s ty g ∙ sym (int s other h);
    chain = λ c ty other g h. absurd (contains-nil g.0 g.1);
  }
