-- The check of a row finds whether it is right.
use Rattle.std.specs.Prelude.{Bool, true, false, ◌||◌, not, IsTrue, ◌↔◌, All, AllPairs, Contains, slice_get, is_some, flat_map, IfOk}
use mathlib.Core.Bool.{beq}
use Rattle.std.specs.List.{AllZip, slice_index_or}
use Rattle.std.proofs.Common.{◌≡◌, ℕ, zero, suc, ◌+◌, ◌<◌, ◌≤◌, inl, inr, List, [], ◌∷◌, ◌++◌, length, take, Option, Some, None, refl, arith, ap, sym, subst, ◌∙◌, nat_eq, Result, Ok, Err}
use Rattle.std.proofs.lemmas.Option.{none-some, slice_get_within, get_or_from_slice_get}
use Rattle.std.proofs.lemmas.List.{take_more, take_all, length-take}
use Rattle.std.proofs.lemmas.List.Quantifiers.{all_pairs_push}
use Rattle.std.proofs.lemmas.List.Elements.{All-push, All-contains, Contains-get_or, Contains-push, Contains-push_cases, Contains-append_left}
use Rattle.lido_base.specs.declared.ids.AttrId.{AttrId}
use Rattle.lido_base.specs.declared.kinds.Kind.{Kind}
use Rattle.lido_base.specs.declared.kinds.Kind.TheVariants.{Synthesized, Inherited}
use Rattle.flat_grammar.specs.declared.flat.Occ.{Occ}
use Rattle.flat_grammar.specs.declared.flat.FlatSymbol.{FlatSymbol}
use Rattle.flat_grammar.specs.declared.plan.VisitClass.{VisitClass}
use Rattle.flat_grammar.specs.WellFormed.{is_same_occ}
use Rattle.flat_grammar.specs.SoundPlan.{IsAttribute, IsRow, of_kind}
use Rattle.flat_grammar.proofs.Lists.{held, slice_get-contains, slice_get-take}
use Rattle.sequence_checker.specs.declared.set.Occurrences.{Occurrences}
use Rattle.sequence_checker.specs.Sets.{has}
use Rattle.sequence_checker.specs.Rows.{class_part, has_attribute, AreNumbered, AreApart, HasMembers}
use Rattle.sequence_checker.proofs.Bools.{never, either, left, right, same-occurrence, occurrence-same}

pub parts-are : (kind : Kind) (row : List VisitClass) → flat_map (class_part kind) row ≡ of_kind kind row
parts-are Inherited row = refl
parts-are Synthesized row = refl

module _ (x : FlatSymbol) (kind : Kind) (attrs : List AttrId) (i : ℕ) (d : AttrId) (within : i < length attrs) where
  -- a number of no such attribute
  pub not-of-kind : (IsAttribute x kind (slice_index_or attrs i d) → ⊥) → AreApart x kind attrs → ⊥
  not-of-kind none apart = none (apart.0 i d within)

  module _ (set : Occurrences) (members : HasMembers x kind (take i attrs) (Some set)) where
    -- a number that comes twice
    pub comes-twice : IsTrue (has_attribute set (slice_index_or attrs i d)) → AreApart x kind attrs → ⊥
    comes-twice h apart =
        let p = slice_get-contains (take i attrs) (slice_index_or attrs i d) ((members.1 (slice_index_or attrs i d)).0 h) in
        let l = slice_get_within (take i attrs) p.0 (slice_index_or attrs i d) p.1 in
        let n = length-take i attrs in
        let before : p.0 < i = omega arith in
        apart.1 p.0 i d before within (get_or_from_slice_get attrs p.0 (slice_index_or attrs i d) d (sym (slice_get-take attrs i p.0 before) ∙ p.1))

    -- a new number
    pub one-more-member : (new : Occurrences) → IsAttribute x kind (slice_index_or attrs i d) → has_attribute set (slice_index_or attrs i d) ≡ false
        → ((o : Occ) → has new o ≡ (is_same_occ (record { occ = 0; attr = slice_index_or attrs i d }) o || has set o)) → HasMembers x kind (take (i + 1) attrs) (Some new)
    one-more-member new is unseen added = subst (λ l. HasMembers x kind l (Some new)) (sym (take_more attrs i d within)) ((all, pairs), has-is)
      where
        all : All (IsAttribute x kind) (take i attrs ++ slice_index_or attrs i d ∷ [])
        all = All-push (IsAttribute x kind) (take i attrs) (slice_index_or attrs i d) members.0.0 is

        fresh : (k : ℕ) (e : AttrId) → k < length (take i attrs) → slice_index_or (take i attrs) k e ≡ slice_index_or attrs i d → ⊥
        fresh k e l same = never (sym unseen ∙ (members.1 (slice_index_or attrs i d)).1 (subst (Contains (take i attrs)) same (Contains-get_or (take i attrs) k e l)))

        pairs : AllPairs (λ b c. b ≡ c → ⊥) (take i attrs ++ slice_index_or attrs i d ∷ [])
        pairs = all_pairs_push (λ b c. b ≡ c → ⊥) (take i attrs) (slice_index_or attrs i d) members.0.1 fresh

        has-is : (b : AttrId) → IsTrue (has_attribute new b) ↔ Contains (take i attrs ++ slice_index_or attrs i d ∷ []) b
        has-is b = (to, from)
          where
            to : IsTrue (has_attribute new b) → Contains (take i attrs ++ slice_index_or attrs i d ∷ []) b
            to h = elim (either (is_same_occ (record { occ = 0; attr = slice_index_or attrs i d }) (record { occ = 0; attr = b })) (has_attribute set b) (sym (added (record { occ = 0; attr = b })) ∙ h)) [
              | inl e ↦ subst (Contains (take i attrs ++ slice_index_or attrs i d ∷ [])) (ap (λ (o : Occ). o.attr) (same-occurrence (record { occ = 0; attr = slice_index_or attrs i d }) (record { occ = 0; attr = b }) e)) (Contains-push (take i attrs) (slice_index_or attrs i d))
              | inr m ↦ Contains-append_left (take i attrs) (slice_index_or attrs i d ∷ []) b ((members.1 b).0 m)
            ]

            from : Contains (take i attrs ++ slice_index_or attrs i d ∷ []) b → IsTrue (has_attribute new b)
            from m = added (record { occ = 0; attr = b }) ∙ elim (Contains-push_cases (take i attrs) (slice_index_or attrs i d) b m) [
              | inl n ↦ right (is_same_occ (record { occ = 0; attr = slice_index_or attrs i d }) (record { occ = 0; attr = b })) (has_attribute set b) ((members.1 b).1 n)
              | inr e ↦ left (is_same_occ (record { occ = 0; attr = slice_index_or attrs i d }) (record { occ = 0; attr = b })) (has_attribute set b)
                  (occurrence-same (record { occ = 0; attr = slice_index_or attrs i d }) (record { occ = 0; attr = b }) (λ j. record { occ = 0; attr = e j }))
            ]

module _ (x : FlatSymbol) (kind : Kind) (row : List VisitClass) (attrs : List AttrId) (same : attrs ≡ of_kind kind row) where
  numbered-apart : AreNumbered x kind attrs → AreApart x kind attrs
  numbered-apart n = ((λ k d l. (n.0 (slice_index_or attrs k d)).0 (Contains-get_or attrs k d l)), n.1)

  pub not-numbered : (set : Option Occurrences) → set ≡ None → HasMembers x kind attrs set → IsTrue false ↔ AreNumbered x kind (of_kind kind row)
  not-numbered set e members = ((λ h. never h), (λ n. absurd (subst (HasMembers x kind attrs) e members (numbered-apart (subst (AreNumbered x kind) (sym same) n)))))

  pub numbered : (result : Option Occurrences) (set : Occurrences) (b : Bool) → result ≡ Some set → HasMembers x kind attrs result → (IsTrue b ↔ ((a : AttrId) → IsAttribute x kind a → IsTrue (has_attribute set a)))
      → IsTrue b ↔ AreNumbered x kind (of_kind kind row)
  numbered result set b e found all = subst (λ l. IsTrue b ↔ AreNumbered x kind l) same (to, from)
    where
      members : HasMembers x kind attrs (Some set)
      members = subst (HasMembers x kind attrs) e found

      to : IsTrue b → AreNumbered x kind attrs
      to h = ((λ a. ((λ m. All-contains (IsAttribute x kind) attrs a members.0.0 m), (λ is. (members.1 a).0 (all.0 h a is)))), members.0.1)

      from : AreNumbered x kind attrs → IsTrue b
      from n = all.1 (λ a is. (members.1 a).1 ((n.0 a).1 is))

module _ (x : FlatSymbol) (row : List VisitClass) where
  pub row-refused : (b : Bool) → b ≡ false → (IsTrue b ↔ AreNumbered x Inherited (of_kind Inherited row)) → IsTrue false ↔ IsRow x row
  row-refused b e is = ((λ h. never h), (λ r. never (sym e ∙ is.1 (r.attributes Inherited, r.once Inherited))))

  pub row-is : {E : Type 0} (b : Bool) (r : Result Bool E) → is_some x.terminal ≡ nat_eq (length row) 0 → IsTrue b → (IsTrue b ↔ AreNumbered x Inherited (of_kind Inherited row))
      → IfOk r (λ c. IsTrue c ↔ AreNumbered x Synthesized (of_kind Synthesized row)) → IfOk r (λ c. IsTrue c ↔ IsRow x row)
  row-is b (Err e) visit h inherited given = tt
  row-is b (Ok c) visit h inherited given = ((λ s. whole (inherited.0 h) (given.0 s)), (λ r. given.1 (r.attributes Synthesized, r.once Synthesized)))
    where
      whole : AreNumbered x Inherited (of_kind Inherited row) → AreNumbered x Synthesized (of_kind Synthesized row) → IsRow x row
      whole i s = record { some_visit = visit; attributes = attributes; once = once }
        where
          attributes : (kind : Kind) (a : AttrId) → Contains (of_kind kind row) a ↔ IsAttribute x kind a
          attributes Inherited = i.0
          attributes Synthesized = s.0

          once : (kind : Kind) → AllPairs (λ a b. a ≡ b → ⊥) (of_kind kind row)
          once Inherited = i.1
          once Synthesized = s.1

-- all numbers were taken in
pub all-members : (x : FlatSymbol) (kind : Kind) (attrs : List AttrId) (i : ℕ) (set : Occurrences) → length attrs ≤ i → HasMembers x kind (take i attrs) (Some set) → HasMembers x kind attrs (Some set)
all-members x kind attrs i set past h = subst (λ l. HasMembers x kind l (Some set)) (take_all i attrs past) h

pub same-tests : (a b : Bool) → not (beq a b) ≡ false → a ≡ b
same-tests true true e = refl
same-tests true false e = never (sym e)
same-tests false true e = never (sym e)
same-tests false false e = refl

-- a relation that holds at each place before another holds there too
pub zip-more : {A B : Type 0} (R : A → B → Type 0) (xs : List A) (ys : List B) (i : ℕ) (x : A) (y : B) → AllZip R (take i xs) (take i ys) → slice_get xs i ≡ Some x → slice_get ys i ≡ Some y → R x y
    → AllZip R (take (i + 1) xs) (take (i + 1) ys)
zip-more R xs ys i x y h e f r = subst (λ n. AllZip R (take n xs) (take n ys)) (let s : suc i ≡ i + 1 = omega arith in s) (go xs ys i h e f)
  where
    go : (xs : List _) (ys : List _) (i : ℕ) → AllZip R (take i xs) (take i ys) → slice_get xs i ≡ Some x → slice_get ys i ≡ Some y → AllZip R (take (suc i) xs) (take (suc i) ys)
    go [] ys i h e f = absurd (none-some _ e)
    go (a ∷ xs) [] i h e f = absurd (none-some _ f)
    go (a ∷ xs) (b ∷ ys) zero h e f = (subst (λ u. R u b) (sym (held e)) (subst (R x) (sym (held f)) r), none xs ys)
      where
        none : (xs : List _) (ys : List _) → AllZip R (take 0 xs) (take 0 ys)
        none xs ys = tt
    go (a ∷ xs) (b ∷ ys) (suc i) h e f = (h.0, go xs ys i h.1 e f)

pub zip-length : {A B : Type 0} (R : A → B → Type 0) (xs : List A) (ys : List B) → AllZip R xs ys → length xs ≡ length ys
zip-length R [] [] h = refl
zip-length R [] (y ∷ ys) h = absurd h
zip-length R (x ∷ xs) [] h = absurd h
zip-length R (x ∷ xs) (y ∷ ys) h = ap suc (zip-length R xs ys h.1)
