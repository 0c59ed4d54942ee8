-- Attributes that are said to have two kinds.
use Rattle.std.proofs.Common.{◌≡◌, ℕ, ◌≤◌, ◌⊎◌, inl, inr, List, Option, Some, None, refl, arith, sym, ◌∙◌}
use Rattle.lido_base.specs.declared.kinds.Kind.{Kind}
use Rattle.lido_base.specs.declared.kinds.Kind.TheVariants.{Synthesized, Inherited}
use Rattle.lido_syntax.specs.declared.spec.Name.{Name}
use Rattle.lido_syntax.specs.Production.{name_of}
use Rattle.kind_clashes.specs.declared.firsts.Firsts.{Firsts}
use Rattle.kind_clashes.specs.Firsts.{first_of, AreFirsts}
use Rattle.kind_clashes.specs.Least.{IsFirst, Among, earlier_of}
use Rattle.kind_clashes.proofs.LeastLemmas.{first-same, first-join}
use Rattle.clash_pairs.specs.declared.kinds.SaidKind.{SaidKind}
use Rattle.clash_pairs.specs.Kinds.{IsOtherKind, IsReached, IsKindReached, IsSecondKind, IsSecondOfKind}

reached-to : {P : ℕ → ℕ → Type 0} {firsts : Firsts} (x : Name) → AreFirsts P firsts → IsReached firsts x → (first : ℕ) × P (name_of x) first × (first ≤ x.at)
reached-to x are (first, e, le) = (first, ((are.each (name_of x)).some first e).there, le)

to-reached : {P : ℕ → ℕ → Type 0} {firsts : Firsts} (x : Name) (at : ℕ) → AreFirsts P firsts → P (name_of x) at → at ≤ x.at → IsReached firsts x
to-reached {P} {firsts} x at are p le = go (first_of firsts (name_of x)) refl
  where
    go : (o : Option ℕ) → first_of firsts (name_of x) ≡ o → IsReached firsts x
    go None e = absurd ((are.each (name_of x)).none e at p)
    go (Some first) e = let least = ((are.each (name_of x)).some first e).least at p in (first, e, omega (arith, least, le))

pub second-of : {said : List SaidKind} {kind : Kind} {firsts : Firsts} {a : Option ℕ} → AreFirsts (λ id. Among (λ (x : SaidKind). IsOtherKind kind x id) said) firsts
    → IsFirst (Among (IsKindReached kind firsts) said) a → IsFirst (IsSecondOfKind said kind) a
second-of {said} {kind} {firsts} are = first-same
    (λ at h. let (first, n, le) = reached-to h.item.attr are h.is.1 in let spot = n.is.1.1 in record {
      is = record {
        first = n.item;
        second = h.item;
        there = n.among;
        behind = h.among;
        same = n.is.1.0;
        other = λ e. n.is.0 (e ∙ h.is.0);
        before = omega (arith, le, spot);
        place = h.is.2;
      };
      of = h.is.0;
    })
    (λ at h. record {
      item = h.is.second;
      among = h.is.behind;
      is = (
        h.of,
        to-reached h.is.second.attr h.is.first.attr.at are (record { item = h.is.first; among = h.is.there; is = ((λ e. h.is.other (e ∙ sym h.of)), (h.is.same, refl)) }) h.is.before,
        h.is.place,
      );
    })

either-kind : (kind : Kind) → (kind ≡ Synthesized) ⊎ (kind ≡ Inherited)
either-kind Synthesized = inl refl
either-kind Inherited = inr refl

pub second-either : {said : List SaidKind} {a b r : Option ℕ} → r ≡ earlier_of a b → IsFirst (IsSecondOfKind said Synthesized) a → IsFirst (IsSecondOfKind said Inherited) b → IsFirst (IsSecondKind said) r
second-either e one other = first-same (λ at h. elim h [ inl k ↦ k.is | inr k ↦ k.is ])
    (λ at h. elim (either-kind h.second.kind) [ inl k ↦ inl (record { is = h; of = k }) | inr k ↦ inr (record { is = h; of = k }) ]) (first-join e one other)
