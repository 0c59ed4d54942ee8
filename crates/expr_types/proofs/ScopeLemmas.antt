-- What names mean where an expression stands, by the tables of types.
use Rattle.std.specs.Prelude.{◌≡◌, ◌<◌, ℕ, ◌⊎◌, Bool, true, false, nat_eq, ◌&&◌, ◌||◌, IsTrue, List, [], ◌∷◌, length, Option, Some, None, is_some, MatchOption, All, refl}
use Rattle.std.specs.Option.{option_eq}
use Rattle.std.proofs.Common.{ap, sym, subst, ◌∙◌, arith, inl, inr, eqb-true}
use Rattle.std.proofs.lemmas.Bool.{false≢true, and_parts, and_from}
use Rattle.lido_base.specs.declared.kinds.CoordPart.{CoordPart}
use Rattle.lido_base.specs.declared.value.ValueType.{ValueType}
use Rattle.lido_syntax.specs.declared.spec.Spec.{Spec}
use Rattle.lido_syntax.specs.declared.spec.Pair.{Pair}
use Rattle.lido_syntax.specs.Attributes.{Has, HasType}
use Rattle.lido_syntax.specs.Production.{name_of}
use Rattle.lido_syntax.specs.Symbols.{IsNonterminal, is_nonterminal}
use Rattle.lido_syntax.specs.Sets.{Sets}
use Rattle.leaf_types.specs.declared.leaves.LeafTypes.{LeafTypes}
use Rattle.leaf_types.specs.Types.{is_uneven, AreTypesOf}
use Rattle.leaf_types.specs.Single.{AreSingleTypes}
use Rattle.leaf_types.proofs.TypeLemmas.{type_eq, type-decides}
use Rattle.expr_types.specs.Typing.{IsPairType, ArePairTypes}

-- what the tables lack isn't there
pub lacks : (A : Type 0) (P : ValueType → Type 0) (o : Option ValueType) → o ≡ None → MatchOption o (A → ⊥) P → A → ⊥
lacks A P o e m a = let none : MatchOption None (A → ⊥) P = subst (λ x. MatchOption x (A → ⊥) P) e m in none a

pub lacks-all : (A : Type 0) (P : ValueType → Type 0) (o : Option ValueType) → ((x : ValueType) → o ≡ Some x → ⊥) → MatchOption o (A → ⊥) P → A → ⊥
lacks-all A P None not m a = m a
lacks-all A P (Some x) not m a = not x refl

pub lacks-each : (P Q : ValueType → Type 0) (o : Option ValueType) → o ≡ None → MatchOption o ((ty : ValueType) → P ty → ⊥) Q → (ty : ValueType) → P ty → ⊥
lacks-each P Q o e m ty p =
    let none : MatchOption None ((t : ValueType) → P t → ⊥) Q = subst (λ x. MatchOption x ((t : ValueType) → P t → ⊥) Q) e m in
    none ty p

-- what they have is there
pub tells : (A : Type 0) (P : ValueType → Type 0) (o : Option ValueType) (ty : ValueType) → o ≡ Some ty → MatchOption o A P → P ty
tells A P o ty e m = let some : MatchOption (Some ty) A P = subst (λ x. MatchOption x A P) e m in some

-- a bare name that is no coordinate is a terminal
abbrev pub UnlessPart : Type 0 → Option CoordPart → Type 0
UnlessPart A o = elim o [ Some part ↦ Unit {0} | None ↦ A ]

pub is-terminal : (A : Type 0) (o : Option CoordPart) → is_some o ≡ false → UnlessPart A o → A
is-terminal A None e a = a
is-terminal A (Some part) e a = absurd (false≢true (sym e))

-- the tables have another type for the attribute, or none
pub other-type : (spec : Spec) → AreSingleTypes spec → (s a : ℕ) (o : Option ValueType) (ty : ValueType) → Has spec s a → MatchOption o (Has spec s a → ⊥) (λ (t : ValueType). HasType spec s a t)
    → option_eq type_eq o (Some ty) ≡ false → HasType spec s a ty → ⊥
other-type spec single s a None ty has m e h = m has
other-type spec single s a (Some t) ty has m e h = false≢true (sym e ∙ (type-decides t ty).1 (single.attribute s a t ty m h))

-- a list that has a pair has the type of its pairs
pub pair-types : (spec : Spec) (sets : Sets spec) (pairs : List Pair) (ty : ValueType) → 0 < length pairs → All (IsPairType spec sets ty) pairs → ArePairTypes spec sets pairs ty
pair-types spec sets [] ty some all = absurd (omega (arith, some))
pair-types spec sets (p ∷ ps) ty some all = all

-- the tables have this type for the attribute
pub this-type : (o : Option ValueType) (ty : ValueType) → option_eq type_eq o (Some ty) ≡ true → o ≡ Some ty
this-type None ty e = absurd (false≢true e)
this-type (Some t) ty e = ap Some ((type-decides t ty).0 e)

either : (b c : Bool) → IsTrue (b || c) → IsTrue b ⊎ IsTrue c
either true c h = inl refl
either false c h = inr h

or-later : (b c : Bool) → IsTrue c → IsTrue (b || c)
or-later true c h = refl
or-later false c h = h

module _ (spec : Spec) (types : LeafTypes) (are : AreTypesOf spec types) (sets : Sets spec) (p : Pair) (has : Has spec (name_of p.sym) (name_of p.attr)) (ty : ValueType) where
  -- a pair of a class whose attribute is even has its type
  pub even-pair : HasType spec (name_of p.sym) (name_of p.attr) ty → is_uneven types (name_of p.sym) (name_of p.attr) ≡ false → IsPairType spec sets ty p
  even-pair typed free = (typed, λ s n h. by s n (either (nat_eq (name_of p.sym) s) (is_nonterminal spec s && sets.inherits s (name_of p.sym)) h))
    where
      by : (s : ℕ) → IsNonterminal spec s → IsTrue (nat_eq (name_of p.sym) s) ⊎ IsTrue (is_nonterminal spec s && sets.inherits s (name_of p.sym)) → HasType spec s (name_of p.attr) ty
      by s n (inl e) = subst (λ z. HasType spec z (name_of p.attr) ty) (eqb-true (name_of p.sym) s e) typed
      by s n (inr h) = are.even (name_of p.sym) (name_of p.attr) ty has typed free s n ((sets.inherits_exactly s (name_of p.sym)).0 (and_parts (is_nonterminal spec s) (sets.inherits s (name_of p.sym)) h).1)

  -- one whose attribute isn't even hasn't
  pub uneven-pair : is_uneven types (name_of p.sym) (name_of p.attr) ≡ true → IsPairType spec sets ty p → ⊥
  uneven-pair some h =
      are.uneven (name_of p.sym) (name_of p.attr) ty has h.0 some
      (λ s n heir. h.1 s n (or-later (nat_eq (name_of p.sym) s) (is_nonterminal spec s && sets.inherits s (name_of p.sym))
      (and_from (is_nonterminal spec s) (sets.inherits s (name_of p.sym)) n ((sets.inherits_exactly s (name_of p.sym)).1 heir))))
