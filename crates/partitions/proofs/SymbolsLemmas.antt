-- The visits of the symbols, one after the other.
use Rattle.std.specs.Prelude.{IsBitSet, slice_get, map, ◌↔◌}
use Rattle.std.proofs.Common.{◌≡◌, ℕ, zero, suc, ◌+◌, ◌<◌, ◌≤◌, inl, inr, List, [], ◌∷◌, ◌++◌, length, length-append, Option, Some, None, refl, sym, ap, subst, ◌∙◌, arith}
use Rattle.std.proofs.lemmas.Bool.{cases_lt}
use Rattle.std.proofs.lemmas.Option.{none-some, slice_get_past}
use Rattle.lido_base.specs.declared.ids.SymId.{SymId}
use Rattle.lido_base.specs.declared.ids.AttrId.{AttrId}
use Rattle.flat_grammar.specs.declared.flat.FlatSymbol.{FlatSymbol}
use Rattle.flat_grammar.specs.declared.flat.FlatAttr.{FlatAttr}
use Rattle.flat_grammar.specs.declared.flat.FlatRule.{FlatRule}
use Rattle.flat_grammar.specs.declared.plan.VisitClass.{VisitClass}
use Rattle.flat_grammar.specs.Rules.{attrs_of}
use Rattle.flat_grammar.specs.Dependencies.{IDS, AreInducedRows}
use Rattle.flat_grammar.specs.Partition.{AreAllVisits}
use Rattle.partitions.specs.Peeling.{AreRows, AreLaterRows}
use Rattle.partitions.specs.Symbols.{rows_at, IsAllPeeled, AreItsVisits, HasLast, AreAllLaterRows}
use Rattle.partitions.proofs.PeelingLemmas.{pushed-get, get-below, peeled-attribute, attribute-below}

module _ (symbols : List FlatSymbol) (rules : List FlatRule) where
  attrs-past : (x : SymId) → length symbols ≤ x.0 → attrs_of symbols x ≡ []
  attrs-past x h = ap (λ (o : Option FlatSymbol). elim o [ None ↦ [] | Some s ↦ s.attrs ]) (slice_get_past symbols x.0 h)

  -- the induced rows, symbol by symbol
  pub rows-of : (ids : List (List ℕ)) (x : SymId) → AreInducedRows symbols rules ids → AreRows symbols rules x (rows_at ids x.0)
  rows-of ids x (lengths, bits) = record { each = each symbols ids x.0 lengths; bits = go (slice_get ids x.0) refl }
    where
      each : (ss : List FlatSymbol) (ids : List (List ℕ)) (n : ℕ) → map (λ (s : FlatSymbol). length s.attrs) ss ≡ map (λ (r : List ℕ). length r) ids → length (rows_at ids n) ≡ length {A = FlatAttr} (elim (slice_get ss n) [ None ↦ [] | Some s ↦ s.attrs ])
      each [] [] n e = refl
      each [] (r ∷ ids) n e = absurd (cc)
      each (s ∷ ss) [] n e = absurd (cc)
      each (s ∷ ss) (r ∷ ids) zero e = cc
      each (s ∷ ss) (r ∷ ids) (suc n) e = each ss ids n (cc)

      go : (o : Option (List ℕ)) → slice_get ids x.0 ≡ o → (a b : AttrId) (row : ℕ) → slice_get {X = ℕ} (elim o [ None ↦ [] | Some rows ↦ rows ]) a.0 ≡ Some row → IsBitSet row b.0 ↔ IDS rules x a b
      go None e a b row at = absurd (none-some row at)
      go (Some of_x) e a b row at = bits x a b of_x row e at

  -- the visits and the rows of the first symbols
  pub record ArePartsBelow (i : ℕ) (visits : List (List VisitClass)) (later : List (List ℕ)) : Type 0 where
    pub visits_count : length visits ≡ i
    pub later_count : length later ≡ i
    pub each_visits : (x : SymId) (row : List VisitClass) → slice_get visits x.0 ≡ Some row → IsAllPeeled symbols rules x → AreItsVisits symbols rules x row
    pub each_later : (x : SymId) (rows : List ℕ) → slice_get later x.0 ≡ Some rows → AreLaterRows symbols rules x rows
    pub each_last : (x : SymId) → x.0 < i → HasLast symbols rules x

  same-symbol : (x y : SymId) → x.0 ≡ y.0 → x ≡ y
  same-symbol x y e = λ i. record { 0 = e i }

  pub parts-push : (i : ℕ) (visits new : List (List VisitClass)) (later more : List (List ℕ)) (x : SymId) (row : List VisitClass) (rows : List ℕ) → ArePartsBelow i visits later → x.0 ≡ i
      → new ≡ visits ++ (row ∷ []) → more ≡ later ++ (rows ∷ []) → (IsAllPeeled symbols rules x → AreItsVisits symbols rules x row) → AreLaterRows symbols rules x rows → HasLast symbols rules x
      → ArePartsBelow (i + 1) new more
  parts-push i visits new later more x row rows are at pushed pushed' its_visits its_later its_last = record {
    visits_count = ap (λ (xs : List (List VisitClass)). length xs) pushed ∙ (let c = are.visits_count in omega (arith, length-append visits (row ∷ [])));
    later_count = ap (λ (xs : List (List ℕ)). length xs) pushed' ∙ (let c = are.later_count in omega (arith, length-append later (rows ∷ [])));
    each_visits = λ y other got all. elim (pushed-get visits row y.0 other (subst (λ (xs : List (List VisitClass)). slice_get xs y.0 ≡ Some other) pushed got)) [
      | inl old ↦ are.each_visits y other old all
      | inr here ↦ subst (λ (r : List VisitClass). AreItsVisits symbols rules y r) here.1
          (let c = are.visits_count in let e = same-symbol x y (at ∙ sym c ∙ sym here.0) in subst (λ (z : SymId). AreItsVisits symbols rules z row) e (its_visits (subst (λ (z : SymId). IsAllPeeled symbols rules z) (sym e) all)))
    ];
    each_later = λ y other got. elim (pushed-get later rows y.0 other (subst (λ (xs : List (List ℕ)). slice_get xs y.0 ≡ Some other) pushed' got)) [
      | inl old ↦ are.each_later y other old
      | inr here ↦ subst (λ (r : List ℕ). AreLaterRows symbols rules y r) here.1
          (let c = are.later_count in subst (λ (z : SymId). AreLaterRows symbols rules z rows) (same-symbol x y (at ∙ sym c ∙ sym here.0)) its_later)
    ];
    each_last = λ y h. elim (cases_lt y.0 i) [
      | inl l ↦ are.each_last y l
      | inr g ↦ subst (λ (z : SymId). HasLast symbols rules z) (same-symbol x y (omega arith)) its_last
    ];
  }

  module _ (i : ℕ) (visits : List (List VisitClass)) (later : List (List ℕ)) (are : ArePartsBelow i visits later) (all : i ≡ length symbols) where
    pub all-visits : ((x : SymId) → IsAllPeeled symbols rules x) → AreAllVisits symbols rules visits
    all-visits peeled = (are.visits_count ∙ all, λ x row at. are.each_visits x row at (peeled x))

    pub all-later : AreAllLaterRows symbols rules later
    all-later x = go (slice_get later x.0) refl
      where
        go : (o : Option (List ℕ)) → slice_get later x.0 ≡ o → AreLaterRows symbols rules x (elim o [ None ↦ [] | Some rows ↦ rows ])
        go (Some rows) e = are.each_later x rows e
        go None e = record {
          each = elim (cases_lt x.0 (length later)) [
            | inl l ↦ absurd (none-some _ (sym e ∙ (get-below later x.0 l).1))
            | inr g ↦ let c = are.later_count in ap (λ (xs : List FlatAttr). length xs) (sym (attrs-past x (omega arith)))
          ];
          bits = λ a b row at. absurd (none-some row at);
        }

    pub all-last : (x : SymId) → HasLast symbols rules x
    all-last x = elim (cases_lt x.0 i) [
      | inl l ↦ are.each_last x l
      | inr g ↦ (
        0,
        λ k a h. let below = attribute-below symbols rules x a (peeled-attribute symbols rules x k a h) in
            let none : length (attrs_of symbols x) ≡ 0 = ap (λ (xs : List FlatAttr). length xs) (attrs-past x (omega arith)) in absurd (omega arith),
      )
    ]
