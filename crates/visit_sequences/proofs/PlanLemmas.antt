-- The constructed sequences of all rules are a sound plan.
use Rattle.std.specs.Prelude.{Contains}
use Rattle.std.specs.List.{AllZip}
use Rattle.std.proofs.Common.{◌≡◌, ℕ, List, [], ◌∷◌, length, sym, ap}
use Rattle.std.proofs.lemmas.List.Elements.{All-contains}
use Rattle.lido_base.specs.declared.ids.SymId.{SymId}
use Rattle.flat_grammar.specs.declared.flat.FlatSymbol.{FlatSymbol}
use Rattle.flat_grammar.specs.declared.flat.FlatRule.{FlatRule}
use Rattle.flat_grammar.specs.declared.flat.Shape.{Shape}
use Rattle.flat_grammar.specs.declared.plan.PlanItem.{PlanItem}
use Rattle.flat_grammar.specs.declared.plan.VisitClass.{VisitClass}
use Rattle.flat_grammar.specs.WellFormed.{IsWellFormed}
use Rattle.flat_grammar.specs.Cycles.{IsAcyclic, IsOrderedGrammar}
use Rattle.flat_grammar.specs.Partition.{AreAllVisits}
use Rattle.flat_grammar.specs.SoundPlan.{IsSound, IsSoundSequence}
use Rattle.flat_grammar.specs.Construction.{IsConstructed, AreConstructed}
use Rattle.flat_grammar.proofs.Lists.{contains-first, contains-later}
use Rattle.visit_sequences.proofs.Soundness.{constructed-sound}
use Rattle.visit_sequences.proofs.RowLemmas.{rows-right}

zip-length : {A B : Type 0} (R : A → B → Type 0) (xs : List A) (ys : List B) → AllZip R xs ys → length ys ≡ length xs
zip-length R [] [] h = Rattle.std.proofs.Common.refl
zip-length R [] (y ∷ ys) h = absurd h
zip-length R (x ∷ xs) [] h = absurd h
zip-length R (x ∷ xs) (y ∷ ys) h = ap Rattle.std.proofs.Common.suc (zip-length R xs ys h.1)

zip-weaker : {A B : Type 0} (R S : A → B → Type 0) (xs : List A) (ys : List B) → ((x : A) (y : B) → Contains xs x → R x y → S x y) → AllZip R xs ys → AllZip S xs ys
zip-weaker R S [] [] f h = tt
zip-weaker R S [] (y ∷ ys) f h = h
zip-weaker R S (x ∷ xs) [] f h = h
zip-weaker R S (x ∷ xs) (y ∷ ys) f h = (f x y (contains-first x xs) h.0, zip-weaker R S xs ys (λ a b m r. f a b (contains-later x a xs m) r) h.1)

-- a constructed plan is sound
pub plan-sound : (symbols : List FlatSymbol) (rules : List FlatRule) (shapes : List Shape) (root : SymId) → IsWellFormed symbols rules shapes root → (visits : List (List VisitClass)) → AreAllVisits symbols rules visits
    → IsOrderedGrammar symbols rules → (seqs : List (List PlanItem)) → AreConstructed symbols rules visits seqs → IsSound symbols rules visits seqs
plan-sound symbols rules shapes root w visits all ordered seqs made = (
  (rows-right symbols rules shapes root w visits all, zip-length (IsConstructed symbols rules visits) rules seqs made),
  zip-weaker (IsConstructed symbols rules visits) (IsSoundSequence symbols visits) rules seqs
      (λ r seq among one. constructed-sound symbols rules shapes root w visits all r among (All-contains (IsAcyclic symbols rules) rules r ordered among) seq one) made,
)
