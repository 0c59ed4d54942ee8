-- The first fault of a sequence, and that it comes early.
use Rattle.std.specs.Prelude.{slice_get, sum_by}
use Rattle.std.proofs.Common.{◌≡◌, ℕ, ◌+◌, ◌^◌, ◌<◌, ◌≤◌, ◌⊎◌, inl, inr, List, length, take, Option, Some, None, arith, sym, subst}
use Rattle.std.proofs.lemmas.Bool.{cases_eq}
use Rattle.std.proofs.lemmas.Option.{slice_get_past, slice_get_within, slice_get-get_or}
use Rattle.std.specs.List.{slice_index_or}
use Rattle.std.proofs.lemmas.List.{take_all, take_more, length-take}
use Rattle.std.proofs.lemmas.List.Sums.{count_by-le-length, sum_by-le}
use Rattle.std.proofs.lemmas.List.Elements.{All-weaker}
use Rattle.flat_grammar.specs.declared.flat.FlatSymbol.{FlatSymbol}
use Rattle.flat_grammar.specs.declared.flat.FlatRule.{FlatRule}
use Rattle.flat_grammar.specs.declared.flat.FlatComp.{FlatComp}
use Rattle.flat_grammar.specs.declared.plan.VisitClass.{VisitClass}
use Rattle.flat_grammar.specs.declared.plan.PlanItem.{PlanItem}
use Rattle.flat_grammar.specs.Rules.{attrs_of, symbols_of}
use Rattle.flat_grammar.specs.WellFormed.{IsRule}
use Rattle.flat_grammar.specs.SoundPlan.{Allows, AllowsNext, AllowsEnd, HoldsAt, IsSoundSequence, IsFault}
use Rattle.sequence_checker.specs.declared.progress.Progress.{Progress}
use Rattle.sequence_checker.specs.Sets.{has}
use Rattle.sequence_checker.specs.Steps.{Follows, GoesOn}
use Rattle.sequence_checker.specs.Faults.{IsFirstBroken, JudgesItem, JudgesEnd}
use Rattle.sequence_checker.proofs.CountLemmas.{few-goals}

module _ (symbols : List FlatSymbol) (visits : List (List VisitClass)) (r : FlatRule) where
  -- As long as no clause is broken a sequence has fewer than 2^32 items: at most 1,024 evaluations, and for each of at most
  -- 2^16 symbols fewer than 2^16 visits, since an item names its visit by 16 bits.
  pub place-fits : IsRule symbols r → length r.right < 2 ^ 16 → sum_by (λ s. length (attrs_of symbols s)) (symbols_of r) ≤ 1024
      → (before : List PlanItem) (p : Progress) → Follows visits r before p → length before < 2 ^ 32
  place-fits rule occurrences few before p follows =
      let goals = few-goals symbols r rule in
      let evaluated = count_by-le-length (λ (c : FlatComp). has p.evaluated c.goal) r.comps in
      let made = sum_by-le (λ (x : ℕ). x) 65535 p.made.items (All-weaker (λ n. n < 2 ^ 16) (λ n. n ≤ 65535) (λ n h. omega arith) p.made.items follows.small) in
      let each = follows.each in
      let counted = follows.counted in
      omega (arith, goals, evaluated, made, each, counted, occurrences, few)

  module _ (seq : List PlanItem) where
    -- all clauses hold before the place
    abbrev pub HoldBefore : ℕ → Type 0
    HoldBefore place = (p clause : ℕ) → p < place → HoldsAt symbols visits r seq p clause

    pub hold-more : (place : ℕ) (item : PlanItem) → HoldBefore place → slice_get seq place ≡ Some item → ((clause : ℕ) → Allows symbols visits r clause (take place seq) item) → HoldBefore (place + 1)
    hold-more place item before at allows p clause l = by (cases_eq p place)
      where
        by : (p ≡ place) ⊎ (p ≡ place → ⊥) → HoldsAt symbols visits r seq p clause
        by (inl e) = subst (λ n. HoldsAt symbols visits r seq n clause) (sym e) (subst (λ o. AllowsNext symbols visits r clause (take place seq) o) (sym at) (allows clause))
        by (inr n) = before p clause (omega arith)

    -- the first broken clause of the item at the place, where all hold before
    pub fault-at : (place : ℕ) (item : PlanItem) (broken : ℕ) → HoldBefore place → slice_get seq place ≡ Some item → IsFirstBroken (λ clause. Allows symbols visits r clause (take place seq) item) (Some broken)
        → IsFault symbols visits r seq place broken
    fault-at place item broken before at judged = record {
      within = (let l = slice_get_within seq place item at in omega arith);
      broken = λ h. judged.0 (subst (λ o. AllowsNext symbols visits r broken (take place seq) o) at h);
      first_clause = λ c l. subst (λ o. AllowsNext symbols visits r c (take place seq) o) (sym at) (judged.1 c l);
      first_place = before;
    }

    -- one item, at its place
    module _ (place : ℕ) (d : PlanItem) (within : place < length seq) (p : Progress) (follows : Follows visits r (take place seq) p) (before : HoldBefore place) where
      pub place-is : length (take place seq) ≡ place
      place-is = let l = length-take place seq in omega arith

      pub item-breaks : (fault : Option ℕ) (broken : ℕ) → fault ≡ Some broken → JudgesItem symbols visits r p (slice_index_or seq place d) fault → IsFault symbols visits r seq place broken
      item-breaks fault broken e judges = fault-at place (slice_index_or seq place d) broken before (slice_get-get_or seq place d within)
          (subst (λ f. IsFirstBroken (λ clause. Allows symbols visits r clause (take place seq) (slice_index_or seq place d)) f) e (judges (take place seq) follows))

      allowed : (fault : Option ℕ) → fault ≡ None → JudgesItem symbols visits r p (slice_index_or seq place d) fault → (clause : ℕ) → Allows symbols visits r clause (take place seq) (slice_index_or seq place d)
      allowed fault e judges = subst (λ f. IsFirstBroken (λ clause. Allows symbols visits r clause (take place seq) (slice_index_or seq place d)) f) e (judges (take place seq) follows)

      pub item-holds : (fault : Option ℕ) → fault ≡ None → JudgesItem symbols visits r p (slice_index_or seq place d) fault → HoldBefore (place + 1)
      item-holds fault e judges = hold-more place (slice_index_or seq place d) before (slice_get-get_or seq place d within) (allowed fault e judges)

      pub item-seen : (q : Progress) (fault : Option ℕ) → IsRule symbols r → fault ≡ None → JudgesItem symbols visits r p (slice_index_or seq place d) fault → GoesOn visits r (slice_index_or seq place d) p q
          → Follows visits r (take (place + 1) seq) q
      item-seen q fault rule e judges goes = subst (λ l. Follows visits r l q) (sym (take_more seq place d within)) (goes symbols (take place seq) rule follows (allowed fault e judges))

    to-end : (clause : ℕ) → AllowsEnd symbols visits r clause seq → HoldsAt symbols visits r seq (length seq) clause
    to-end clause h = subst (λ o. AllowsNext symbols visits r clause (take (length seq) seq) o) (sym (slice_get_past seq (length seq) (omega arith)))
        (subst (λ l. AllowsEnd symbols visits r clause l) (sym (take_all (length seq) seq (omega arith))) h)

    from-end : (clause : ℕ) → HoldsAt symbols visits r seq (length seq) clause → AllowsEnd symbols visits r clause seq
    from-end clause h = subst (λ l. AllowsEnd symbols visits r clause l) (take_all (length seq) seq (omega arith))
        (subst (λ o. AllowsNext symbols visits r clause (take (length seq) seq) o) (slice_get_past seq (length seq) (omega arith)) h)

    -- the checker has seen all items
    module _ (place : ℕ) (p : Progress) (past : length seq ≤ place) (follows : Follows visits r (take place seq) p) (before : HoldBefore place) where
      pub all-seen : Follows visits r seq p
      all-seen = subst (λ l. Follows visits r l p) (take_all place seq past) follows

      pub fault-at-end : (broken : ℕ) → JudgesEnd symbols visits r p seq (Some broken) → IsFault symbols visits r seq (length seq) broken
      fault-at-end broken judges = let judged = judges all-seen in record {
        within = (omega arith);
        broken = λ h. judged.0 (from-end broken h);
        first_clause = λ c l. to-end c (judged.1 c l);
        first_place = λ q c l. before q c (omega arith);
      }

      pub no-fault : JudgesEnd symbols visits r p seq None → IsSoundSequence symbols visits r seq
      no-fault judges q clause l = by (cases_eq q (length seq))
        where
          by : (q ≡ length seq) ⊎ (q ≡ length seq → ⊥) → HoldsAt symbols visits r seq q clause
          by (inl e) = subst (λ n. HoldsAt symbols visits r seq n clause) (sym e) (to-end clause (judges all-seen clause))
          by (inr n) = before q clause (omega arith)
