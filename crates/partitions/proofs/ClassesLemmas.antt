-- Ascending lists of a class's attributes, and the attributes in later classes.
use Rattle.std.specs.Prelude.{IsBitSet, Contains, slice_get, IsSome, ◌*◌, map}
use Rattle.std.specs.List.Sorted.{IsStrictlyIncreasing}
use Rattle.std.proofs.Common.{◌≡◌, ℕ, zero, suc, ◌+◌, ◌-◌, ◌<◌, ◌⊎◌, inl, inr, ◌↔◌, List, [], ◌∷◌, ◌++◌, length, Some, refl, sym, subst, ◌∙◌, arith}
use Rattle.std.proofs.lemmas.Bool.{cases_lt}
use Rattle.lido_base.specs.declared.ids.SymId.{SymId}
use Rattle.lido_base.specs.declared.ids.AttrId.{AttrId}
use Rattle.flat_grammar.specs.declared.flat.FlatSymbol.{FlatSymbol}
use Rattle.flat_grammar.specs.declared.flat.FlatRule.{FlatRule}
use Rattle.flat_grammar.specs.declared.plan.VisitClass.{VisitClass}
use Rattle.flat_grammar.specs.Rules.{attribute_at}
use Rattle.flat_grammar.specs.Partition.{IsPeeled, IsClass, IsEarlier}
use Rattle.flat_grammar.proofs.PartitionLemmas.{IsPeeled-grows}
use Rattle.partitions.specs.declared.peeling.Levels.{Levels}
use Rattle.partitions.specs.Peeling.{ArePeeled, AreLevels, AreAllLevels, IsLast, IsPastAmong}
use Rattle.partitions.proofs.PeelingLemmas.{pushed-get, get-below}
pub use Rattle.std.proofs.lemmas.List.Elements.{Contains-push_cases as pushed-contains, Contains-push as contains-pushed}

halves : (m : ℕ) → (j : ℕ) × ((m ≡ 2 * j) ⊎ (m ≡ 2 * j + 1))
halves zero = (0, inl refl)
halves (suc m) = let h = halves m in elim h.1 [ inl even ↦ (h.0, inr (omega arith)) | inr odd ↦ (suc h.0, inl (omega arith)) ]

module _ (symbols : List FlatSymbol) (rules : List FlatRule) (x : SymId) where
  -- a class is what one set has more than another
  class-is : (k set without new : ℕ) (attrs : List AttrId) → ArePeeled symbols rules x k without → ArePeeled symbols rules x (k + 1) set → ((j : ℕ) → IsBitSet new j ↔ (IsBitSet set j × (IsBitSet without j → ⊥)))
      → ((a : AttrId) → Contains attrs a ↔ IsBitSet new a.0) → IsStrictlyIncreasing (map (λ (a : AttrId). a.0) attrs) → IsClass symbols rules x k attrs
  class-is k set without new attrs before after beside same ascends = record {
    same = λ a. (
      (λ m. let h = (beside a.0).0 ((same a).0 m) in (subst (λ i. IsPeeled symbols rules x i a) next ((after a).1 h.0), λ p. h.1 ((before a).0 p))),
      (λ h. (same a).1 ((beside a.0).1 ((after a).0 (subst (λ i. IsPeeled symbols rules x i a) (sym next) h.0), λ bit. h.1 ((before a).1 bit)))),
    );
    ascending = ascends;
  }
    where
      next : k + 1 ≡ suc k
      next = omega arith

  pub visit-is : (levels : Levels) (only_synthesized only_inherited : ℕ) (synthesized inherited : List AttrId)
      → ((j : ℕ) → IsBitSet only_synthesized j ↔ (IsBitSet levels.synthesized j × (IsBitSet levels.later j → ⊥))) → ((a : AttrId) → Contains synthesized a ↔ IsBitSet only_synthesized a.0) → IsStrictlyIncreasing (map (λ (a : AttrId). a.0) synthesized)
      → ((j : ℕ) → IsBitSet only_inherited j ↔ (IsBitSet levels.both j × (IsBitSet levels.synthesized j → ⊥))) → ((a : AttrId) → Contains inherited a ↔ IsBitSet only_inherited a.0) → IsStrictlyIncreasing (map (λ (a : AttrId). a.0) inherited)
      → (j : ℕ) → AreLevels symbols rules x j levels → IsClass symbols rules x (2 * j) synthesized × IsClass symbols rules x (2 * j + 1) inherited
  visit-is levels only_synthesized only_inherited synthesized inherited beside same ascends beside' same' ascends' j are = (
    class-is (2 * j) levels.synthesized levels.later only_synthesized synthesized are.later are.synthesized beside same ascends,
    class-is (2 * j + 1) levels.both levels.synthesized only_inherited inherited are.synthesized (let e : 2 * j + 2 ≡ 2 * j + 1 + 1 = omega arith in subst (λ k. ArePeeled symbols rules x k levels.both) e are.both) beside' same' ascends',
  )

  pub classes-push : (visits new : List VisitClass) (i : ℕ) (visit : VisitClass) → length visits ≡ i → new ≡ visits ++ (visit ∷ [])
      → IsClass symbols rules x (2 * i) visit.synthesized × IsClass symbols rules x (2 * i + 1) visit.inherited
      → ((k : ℕ) (v : VisitClass) → slice_get visits k ≡ Some v → IsClass symbols rules x (2 * k) v.synthesized × IsClass symbols rules x (2 * k + 1) v.inherited)
      → (k : ℕ) (v : VisitClass) → slice_get new k ≡ Some v → IsClass symbols rules x (2 * k) v.synthesized × IsClass symbols rules x (2 * k + 1) v.inherited
  classes-push visits new i visit count pushed last before k v at = elim (pushed-get visits visit k v (subst (λ (xs : List VisitClass). slice_get xs k ≡ Some v) pushed at)) [
    | inl old ↦ before k v old
    | inr here ↦ subst (λ (w : VisitClass). IsClass symbols rules x (2 * k) w.synthesized × IsClass symbols rules x (2 * k + 1) w.inherited) here.1
        (let e : i ≡ k = sym count ∙ sym here.0 in subst (λ j. IsClass symbols rules x (2 * j) visit.synthesized × IsClass symbols rules x (2 * j + 1) visit.inherited) e last)
  ]

  module _ (all : List Levels) (each : AreAllLevels symbols rules x all) (last : IsLast symbols rules x (2 * length all)) (one : 0 < length all) where
    -- the sets say which attributes are in later classes
    pub past-is : (a b : AttrId) → IsSome (attribute_at symbols x a) → IsPastAmong all a.0 b.0 ↔ IsEarlier symbols rules x a b
    past-is a b some = (to, from)
      where
        earlier : (k set : ℕ) → ArePeeled symbols rules x k set → IsBitSet set b.0 × ¬ IsBitSet set a.0 → IsEarlier symbols rules x a b
        earlier k set are h = (some, k, (are b).1 h.0, λ p. h.1 ((are a).0 p))

        to : IsPastAmong all a.0 b.0 → IsEarlier symbols rules x a b
        to (j, levels, at, inl h) = earlier (2 * j) levels.later (each j levels at).later h
        to (j, levels, at, inr (inl h)) = earlier (2 * j + 1) levels.synthesized (each j levels at).synthesized h
        to (j, levels, at, inr (inr h)) = earlier (2 * j + 2) levels.both (each j levels at).both h

        by : (k set : ℕ) → ArePeeled symbols rules x k set → IsPeeled symbols rules x k b → ¬ IsPeeled symbols rules x k a → IsBitSet set b.0 × ¬ IsBitSet set a.0
        by k set are p n = ((are b).0 p, λ bit. n ((are a).1 bit))

        at_level : (k j : ℕ) → j < length all → (k ≡ 2 * j) ⊎ (k ≡ 2 * j + 1) → IsPeeled symbols rules x k b → ¬ IsPeeled symbols rules x k a → IsPastAmong all a.0 b.0
        at_level k j l (inl e) p n = let got = get-below all j l in
            (j, got.0, got.1, inl (by (2 * j) got.0.later (each j got.0 got.1).later (subst (λ i. IsPeeled symbols rules x i b) e p) (λ q. n (subst (λ i. IsPeeled symbols rules x i a) (sym e) q))))
        at_level k j l (inr e) p n = let got = get-below all j l in
            (j, got.0, got.1, inr (inl (by (2 * j + 1) got.0.synthesized (each j got.0 got.1).synthesized (subst (λ i. IsPeeled symbols rules x i b) e p) (λ q. n (subst (λ i. IsPeeled symbols rules x i a) (sym e) q)))))

        from : IsEarlier symbols rules x a b → IsPastAmong all a.0 b.0
        from (_, k, p, n) = elim (cases_lt k (2 * length all)) [
          | inl l ↦ let h = halves k in at_level k h.0 (elim h.1 [ inl e ↦ omega arith | inr e ↦ omega arith ]) h.1 p n
          | inr g ↦
              let j = length all - 1 in
              let got = get-below all j (omega arith) in
              let e : 2 * length all ≡ 2 * j + 2 = omega arith in
              (j, got.0, got.1, inr (inr (by (2 * j + 2) got.0.both (each j got.0 got.1).both (subst (λ i. IsPeeled symbols rules x i b) e (last k b p)) (λ q. n (IsPeeled-grows symbols rules x k (2 * j + 2) a (omega arith) q)))))
        ]
