-- Names that are declared with two types.
use Rattle.std.specs.Prelude.{Contains}
use Rattle.std.proofs.Common.{◌≡◌, ℕ, inl, inr, List, [], ◌∷◌, Option, refl, arith, sym, subst, ◌∙◌}
use Rattle.lido_base.specs.declared.value.ValueType.{ValueType}
use Rattle.lido_base.specs.declared.value.ValueType.TheVariants.{Int, Str, Bool, Text, Void}
use Rattle.lido_syntax.specs.declared.spec.Spec.{Spec}
use Rattle.lido_syntax.specs.declared.spec.Typed1.{Typed1}
use Rattle.lido_syntax.specs.Production.{name_of}
use Rattle.kind_clashes.specs.declared.firsts.Firsts.{Firsts}
use Rattle.kind_clashes.specs.declared.sets.NameSets.{NameSets}
use Rattle.kind_clashes.specs.Firsts.{AreFirsts}
use Rattle.kind_clashes.specs.Least.{IsFirst, Among, earlier_of}
use Rattle.kind_clashes.specs.Sets.{AreNameSets}
use Rattle.kind_clashes.specs.Types.{IsOther, IsTypedBehind, IsSecondType, IsSecondOfType, IsMisnamed, IsFaultyTerm}
use Rattle.kind_clashes.proofs.ChainsLemmas.{behind-to, to-behind}
use Rattle.kind_clashes.proofs.LeastLemmas.{first-same, first-join}

pub second-of : {typed : List Typed1} {ty : ValueType} {firsts : Firsts} {a : Option ℕ} → AreFirsts (λ id. Among (λ (x : Typed1). IsOther ty x id) typed) firsts
    → IsFirst (Among (IsTypedBehind ty firsts) typed) a → IsFirst (IsSecondOfType typed ty) a
second-of {typed} {ty} {firsts} are = first-same
    (λ at h. let (first, n, lt) = behind-to h.item.name are h.is.1 in let spot = n.is.1.1 in record {
      is = record {
        first = n.item;
        second = h.item;
        there = n.among;
        behind = h.among;
        same = n.is.1.0;
        other = λ e. n.is.0 (e ∙ h.is.0);
        before = omega (arith, lt, spot);
        place = h.is.2;
      };
      of = h.is.0;
    })
    (λ at h. record {
      item = h.is.second;
      among = h.is.behind;
      is = (
        h.of,
        to-behind h.is.second.name h.is.first.name.at are (record { item = h.is.first; among = h.is.there; is = ((λ e. h.is.other (e ∙ sym h.of)), (h.is.same, refl)) }) h.is.before,
        h.is.place,
      );
    })

-- every type is one of these
every-type : (ty : ValueType) → Contains (Int ∷ Str ∷ Bool ∷ Text ∷ Void ∷ []) ty
every-type Int = (0, omega arith, refl)
every-type Str = (1, omega arith, refl)
every-type Bool = (2, omega arith, refl)
every-type Text = (3, omega arith, refl)
every-type Void = (4, omega arith, refl)

pub second-all : {typed : List Typed1} {a : Option ℕ} → IsFirst (Among (IsSecondOfType typed) (Int ∷ Str ∷ Bool ∷ Text ∷ Void ∷ [])) a → IsFirst (IsSecondType typed) a
second-all = first-same (λ at h. h.is.is) (λ at h. record { item = h.second.ty; among = every-type h.second.ty; is = record { is = h; of = refl } })

pub faulty : (spec : Spec) (sets : NameSets) → AreNameSets spec sets → {terms : List Typed1} {a b r : Option ℕ} → terms ≡ spec.terms → r ≡ earlier_of a b
    → IsFirst (Among (IsMisnamed sets) terms) a → IsFirst (IsSecondType terms) b → IsFirst (IsFaultyTerm spec) r
faulty spec sets are {terms} {a} {b} {r} same e misnamed second = first-same
    (λ at h. elim h [
      | inl m ↦ record {
        term = m.item;
        there = subst (λ (ts : List Typed1). Contains ts m.item) same m.among;
        place = m.is.1;
        how = elim m.is.0 [ inl k ↦ inl (are.classes.only (name_of m.item.name) k) | inr k ↦ inr (inl (are.nonterminals.only (name_of m.item.name) k)) ];
      }
      | inr s ↦ record {
        term = s.second;
        there = subst (λ (ts : List Typed1). Contains ts s.second) same s.behind;
        place = s.place;
        how = inr (inr (s.first, subst (λ (ts : List Typed1). Contains ts s.first) same s.there, s.same, s.other, (let lt = s.before in let spot = s.place in omega (arith, lt, spot))));
      }
    ])
    (λ at h. let back : (x : Typed1) → Contains spec.terms x → Contains terms x = λ x m. subst (λ (ts : List Typed1). Contains ts x) (sym same) m in elim h.how [
      | inl k ↦ inl (record { item = h.term; among = back h.term h.there; is = (inl (are.classes.all (name_of h.term.name) k), h.place) })
      | inr n ↦ elim n [
        | inl k ↦ inl (record { item = h.term; among = back h.term h.there; is = (inr (are.nonterminals.all (name_of h.term.name) k), h.place) })
        | inr k ↦ (let lt = k.4 in let spot = h.place in inr (record {
          first = k.0;
          second = h.term;
          there = back k.0 k.1;
          behind = back h.term h.there;
          same = k.2;
          other = k.3;
          before = omega (arith, lt, spot);
          place = h.place;
        }))
      ]
    ])
    (first-join e misnamed second)
