-- The plan of the split list is sound.
use Rattle.std.specs.Prelude.{Contains, AllPairs, slice_get, IsTrue, ◌↔◌}
use Rattle.std.specs.List.{AllZip}
use Rattle.std.proofs.Common.{◌≡◌, ℕ, zero, suc, ◌<◌, List, [], ◌∷◌, length, Some, refl, arith, ap, sym, ◌∙◌}
use Rattle.std.proofs.lemmas.Option.{none-some}
use Rattle.lido_base.specs.declared.ids.AttrId.{AttrId}
use Rattle.lido_base.specs.declared.ids.SymId.{SymId}
use Rattle.lido_base.specs.declared.kinds.Kind.{Kind}
use Rattle.lido_base.specs.declared.kinds.Kind.TheVariants.{Synthesized, Inherited}
use Rattle.flat_grammar.specs.declared.flat.FlatAttr.{FlatAttr}
use Rattle.flat_grammar.specs.declared.plan.PlanItem.TheVariants.{Eval, Visit}
use Rattle.flat_grammar.specs.declared.plan.VisitClass.{VisitClass}
use Rattle.flat_grammar.specs.Rules.{symbol_at}
use Rattle.flat_grammar.specs.WellFormed.{is_nonterminal}
use Rattle.flat_grammar.specs.SoundPlan.{IsAttribute, IsRow, of_kind, IsSound, IsEvaluated, goals_of, AllowsEnd, visits_made}
use Rattle.flat_grammar.proofs.Lists.{held, contains-first, contains-nil}
use Rattle.trials_of_grammar.specs.ListOfItems.{occurrence}
use Rattle.trials_of_grammar.proofs.Finite.{all-of, each-of, pairs-of, kinds-apart}
use Rattle.trials_of_grammar.proofs.TestedPlans.{evaluated-holds, sequence-tested}
use Rattle.trials_of_jobs.specs.SplitList.{attribute, out_attribute, i_attribute, s_attribute, Top_symbol, Item_symbol, Num_symbol, symbols, list_rule, item_rule, cell_rule, end_rule, rules, visits_of_Top, i_then_s, visits, list_sequence, s_sequence, cell_sequence, sequences}

inherited : (attr : FlatAttr) → attr.kind ≡ Synthesized → attr.kind ≡ Inherited → ⊥
inherited attr e f = kinds-apart (sym e ∙ f)

Top-from : (n : ℕ) → IsAttribute Top_symbol Synthesized (attribute n) → Contains (attribute 0 ∷ []) (attribute n)
Top-from zero h = contains-first (attribute 0) []
Top-from (suc n) h = absurd (none-some _ h.1)

Top-none : (n : ℕ) → IsAttribute Top_symbol Inherited (attribute n) → ⊥
Top-none zero h = kinds-apart (ap (λ (a : FlatAttr). a.kind) (held h.1) ∙ h.2)
Top-none (suc n) h = none-some _ h.1

Top-attributes : (kind : Kind) (a : AttrId) → Contains (of_kind kind visits_of_Top) a ↔ IsAttribute Top_symbol kind a
Top-attributes Inherited a = (λ m. absurd (contains-nil a m), λ h. absurd (Top-none a.0 h))
Top-attributes Synthesized a = (each-of (IsAttribute Top_symbol Synthesized) (attribute 0 ∷ []) ((out_attribute, refl, refl), tt) a, λ h. Top-from a.0 h)

Top-once : (kind : Kind) → AllPairs (λ a b. a ≡ b → ⊥) (of_kind kind visits_of_Top)
Top-once Inherited = pairs-of (λ (a b : AttrId). a ≡ b → ⊥) [] tt
Top-once Synthesized = pairs-of (λ (a b : AttrId). a ≡ b → ⊥) (attribute 0 ∷ []) (tt, tt)

-- items and cells have the same attributes
inherited-from : (n : ℕ) → IsAttribute Item_symbol Inherited (attribute n) → Contains (attribute 0 ∷ []) (attribute n)
inherited-from zero h = contains-first (attribute 0) []
inherited-from (suc zero) h = absurd (kinds-apart (ap (λ (a : FlatAttr). a.kind) (held h.1) ∙ h.2))
inherited-from (suc (suc n)) h = absurd (none-some _ h.1)

synthesized-from : (n : ℕ) → IsAttribute Item_symbol Synthesized (attribute n) → Contains (attribute 1 ∷ []) (attribute n)
synthesized-from zero h = absurd (kinds-apart (sym h.2 ∙ sym (ap (λ (a : FlatAttr). a.kind) (held h.1))))
synthesized-from (suc zero) h = contains-first (attribute 1) []
synthesized-from (suc (suc n)) h = absurd (none-some _ h.1)

item-attributes : (kind : Kind) (a : AttrId) → Contains (of_kind kind i_then_s) a ↔ IsAttribute Item_symbol kind a
item-attributes Inherited a = (each-of (IsAttribute Item_symbol Inherited) (attribute 0 ∷ []) ((i_attribute, refl, refl), tt) a, λ h. inherited-from a.0 h)
item-attributes Synthesized a = (each-of (IsAttribute Item_symbol Synthesized) (attribute 1 ∷ []) ((s_attribute, refl, refl), tt) a, λ h. synthesized-from a.0 h)

item-once : (kind : Kind) → AllPairs (λ a b. a ≡ b → ⊥) (of_kind kind i_then_s)
item-once Inherited = pairs-of (λ (a b : AttrId). a ≡ b → ⊥) (attribute 0 ∷ []) (tt, tt)
item-once Synthesized = pairs-of (λ (a b : AttrId). a ≡ b → ⊥) (attribute 1 ∷ []) (tt, tt)

Num-attributes : (kind : Kind) (a : AttrId) → Contains (of_kind kind []) a ↔ IsAttribute Num_symbol kind a
Num-attributes Inherited a = (λ m. absurd (contains-nil a m), λ h. absurd (none-some _ h.1))
Num-attributes Synthesized a = (λ m. absurd (contains-nil a m), λ h. absurd (none-some _ h.1))

Num-once : (kind : Kind) → AllPairs (λ a b. a ≡ b → ⊥) (of_kind kind [])
Num-once Inherited = pairs-of (λ (a b : AttrId). a ≡ b → ⊥) [] tt
Num-once Synthesized = pairs-of (λ (a b : AttrId). a ≡ b → ⊥) [] tt

rows : AllZip IsRow symbols visits
rows = (
  record { some_visit = refl; attributes = Top-attributes; once = Top-once },
  (
    record { some_visit = refl; attributes = item-attributes; once = item-once },
    (record { some_visit = refl; attributes = Num-attributes; once = Num-once }, (record { some_visit = refl; attributes = item-attributes; once = item-once }, tt)),
  ),
)

list-ends : (clause : ℕ) → AllowsEnd symbols visits list_rule clause list_sequence
list-ends zero = tt
list-ends (suc zero) = all-of (IsEvaluated list_sequence) (goals_of list_rule) (evaluated-holds list_sequence (occurrence 1 0) refl, (evaluated-holds list_sequence (occurrence 0 0) refl, tt))
list-ends (suc (suc zero)) = children
  where
    children : (k : ℕ) (s : SymId) (row : List VisitClass) → 0 < k → symbol_at list_rule k ≡ Some s → IsTrue (is_nonterminal symbols s) → slice_get visits s.0 ≡ Some row → visits_made list_sequence k ≡ length row
    children zero s row l e n g = absurd (omega (arith, l))
    children (suc zero) s row l e n g = ap length (held (sym (ap (λ (q : SymId). slice_get visits q.0) (sym (held e))) ∙ g))
    children (suc (suc k)) s row l e n g = absurd (none-some _ e)
list-ends (suc (suc (suc zero))) = tt
list-ends (suc (suc (suc (suc zero)))) = tt
list-ends (suc (suc (suc (suc (suc zero))))) = (Eval (occurrence 1 0) ∷ Visit 1 1 ∷ Eval (occurrence 0 0) ∷ [], visits_of_Top, refl, refl)
list-ends (suc (suc (suc (suc (suc (suc clause)))))) = tt

item-ends : (clause : ℕ) → AllowsEnd symbols visits item_rule clause s_sequence
item-ends zero = tt
item-ends (suc zero) = all-of (IsEvaluated s_sequence) (goals_of item_rule) (evaluated-holds s_sequence (occurrence 0 1) refl, tt)
item-ends (suc (suc zero)) = children
  where
    children : (k : ℕ) (s : SymId) (row : List VisitClass) → 0 < k → symbol_at item_rule k ≡ Some s → IsTrue (is_nonterminal symbols s) → slice_get visits s.0 ≡ Some row → visits_made s_sequence k ≡ length row
    children zero s row l e n g = absurd (omega (arith, l))
    children (suc zero) s row l e n g = ap length (held (sym (ap (λ (q : SymId). slice_get visits q.0) (sym (held e))) ∙ g))
    children (suc (suc k)) s row l e n g = absurd (none-some _ e)
item-ends (suc (suc (suc zero))) = tt
item-ends (suc (suc (suc (suc zero)))) = tt
item-ends (suc (suc (suc (suc (suc zero))))) = (Eval (occurrence 0 1) ∷ [], i_then_s, refl, refl)
item-ends (suc (suc (suc (suc (suc (suc clause)))))) = tt

cell-ends : (clause : ℕ) → AllowsEnd symbols visits cell_rule clause cell_sequence
cell-ends zero = tt
cell-ends (suc zero) = all-of (IsEvaluated cell_sequence) (goals_of cell_rule) (evaluated-holds cell_sequence (occurrence 1 0) refl, (evaluated-holds cell_sequence (occurrence 2 0) refl, (evaluated-holds cell_sequence (occurrence 0 1) refl, tt)))
cell-ends (suc (suc zero)) = children
  where
    children : (k : ℕ) (s : SymId) (row : List VisitClass) → 0 < k → symbol_at cell_rule k ≡ Some s → IsTrue (is_nonterminal symbols s) → slice_get visits s.0 ≡ Some row → visits_made cell_sequence k ≡ length row
    children zero s row l e n g = absurd (omega (arith, l))
    children (suc zero) s row l e n g = ap length (held (sym (ap (λ (q : SymId). slice_get visits q.0) (sym (held e))) ∙ g))
    children (suc (suc zero)) s row l e n g = ap length (held (sym (ap (λ (q : SymId). slice_get visits q.0) (sym (held e))) ∙ g))
    children (suc (suc (suc k))) s row l e n g = absurd (none-some _ e)
cell-ends (suc (suc (suc zero))) = tt
cell-ends (suc (suc (suc (suc zero)))) = tt
cell-ends (suc (suc (suc (suc (suc zero))))) = (Eval (occurrence 1 0) ∷ Visit 1 1 ∷ Eval (occurrence 2 0) ∷ Visit 2 1 ∷ Eval (occurrence 0 1) ∷ [], i_then_s, refl, refl)
cell-ends (suc (suc (suc (suc (suc (suc clause)))))) = tt

end-ends : (clause : ℕ) → AllowsEnd symbols visits end_rule clause s_sequence
end-ends zero = tt
end-ends (suc zero) = all-of (IsEvaluated s_sequence) (goals_of end_rule) (evaluated-holds s_sequence (occurrence 0 1) refl, tt)
end-ends (suc (suc zero)) = children
  where
    children : (k : ℕ) (s : SymId) (row : List VisitClass) → 0 < k → symbol_at end_rule k ≡ Some s → IsTrue (is_nonterminal symbols s) → slice_get visits s.0 ≡ Some row → visits_made s_sequence k ≡ length row
    children zero s row l e n g = absurd (omega (arith, l))
    children (suc k) s row l e n g = absurd (none-some _ e)
end-ends (suc (suc (suc zero))) = tt
end-ends (suc (suc (suc (suc zero)))) = tt
end-ends (suc (suc (suc (suc (suc zero))))) = (Eval (occurrence 0 1) ∷ [], i_then_s, refl, refl)
end-ends (suc (suc (suc (suc (suc (suc clause)))))) = tt

pub sound : IsSound symbols rules visits sequences
sound = (
  (rows, refl),
  (
    sequence-tested symbols visits list_rule list_sequence refl list-ends,
    (sequence-tested symbols visits item_rule s_sequence refl item-ends, (sequence-tested symbols visits cell_rule cell_sequence refl cell-ends, (sequence-tested symbols visits end_rule s_sequence refl end-ends, tt))),
  ),
)
