-- The types of a specification's attributes, terminals and chains, as tables.
use Rattle.std.specs.Prelude.{◌≡◌, ℕ, Bool, true, false, Option, MatchOption, is_some}
use Rattle.lido_base.specs.declared.value.ValueType.{ValueType}
use Rattle.lido_syntax.specs.declared.spec.Spec.{Spec}
use Rattle.lido_syntax.specs.Symbols.{IsNonterminal, IsTerminal, IsChain, IsTypedChain}
use Rattle.lido_syntax.specs.Attributes.{Has, HasType}
use Rattle.lido_syntax.specs.Sets.{Inherits}
use Rattle.leaf_types.specs.declared.leaves.LeafTypes.{LeafTypes}
use Rattle.leaf_types.specs.Tables.{type_of_attribute, type_of_name}

-- what the tables have for an attribute of a symbol, for a terminal, and for a chain; whether an attribute of a class has another
-- type on a nonterminal that inherits the class
unfoldable pub attribute_type : LeafTypes → ℕ → ℕ → Option ValueType
attribute_type types s a = type_of_attribute types.attributes (s, a)

unfoldable pub terminal_type : LeafTypes → ℕ → Option ValueType
terminal_type types s = type_of_name types.terminals s

unfoldable pub chain_type : LeafTypes → ℕ → Option ValueType
chain_type types c = type_of_name types.chains c

unfoldable pub is_uneven : LeafTypes → ℕ → ℕ → Bool
is_uneven types s a = is_some (type_of_attribute types.uneven (s, a))

module _ (spec : Spec) where
  -- each nonterminal that inherits the class has the attribute with this type
  abbrev pub IsEven : ℕ → ℕ → ValueType → Type 0
  IsEven class a ty = (s : ℕ) → IsNonterminal spec s → Inherits spec s class → HasType spec s a ty

  -- The tables have the types of the specification.
  pub record AreTypesOf (types : LeafTypes) : Type 0 where
    pub attribute : (s a : ℕ) → MatchOption (attribute_type types s a) (Has spec s a → ⊥) (λ (ty : ValueType). HasType spec s a ty)
    pub terminal : (s : ℕ) → MatchOption (terminal_type types s) ((ty : ValueType) → IsTerminal spec s ty → ⊥) (λ (ty : ValueType). IsTerminal spec s ty)
    pub chain : (c : ℕ) → MatchOption (chain_type types c) (IsChain spec c → ⊥) (λ (ty : ValueType). IsTypedChain spec c ty)
    pub even : (class a : ℕ) (ty : ValueType) → Has spec class a → HasType spec class a ty → is_uneven types class a ≡ false → IsEven class a ty
    pub uneven : (class a : ℕ) (ty : ValueType) → Has spec class a → HasType spec class a ty → is_uneven types class a ≡ true → IsEven class a ty → ⊥
