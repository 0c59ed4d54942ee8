-- The plan of the late inherited attribute is sound, its whole order is computed, and plans that break a clause have it as their first fault.
use Rattle.std.specs.Prelude.{Contains, AllPairs, slice_get, nat_eq, false, IsTrue, ◌↔◌}
use Rattle.std.specs.List.{AllZip}
use Rattle.std.proofs.Common.{◌≡◌, ℕ, zero, suc, ◌<◌, ◌⊎◌, inl, inr, List, [], ◌∷◌, length, Some, None, refl, arith, ap, sym, ◌∙◌}
use Rattle.std.proofs.lemmas.Option.{none-some}
use Rattle.lido_base.specs.declared.ids.AttrId.{AttrId}
use Rattle.lido_base.specs.declared.ids.SymId.{SymId}
use Rattle.lido_base.specs.declared.kinds.Kind.{Kind}
use Rattle.lido_base.specs.declared.kinds.Kind.TheVariants.{Synthesized, Inherited}
use Rattle.lido_base.specs.Tree.{from_children}
use Rattle.flat_grammar.specs.declared.flat.FlatSymbol.{FlatSymbol}
use Rattle.flat_grammar.specs.declared.flat.FlatAttr.{FlatAttr}
use Rattle.flat_grammar.specs.declared.plan.PlanItem.{PlanItem}
use Rattle.flat_grammar.specs.declared.plan.PlanItem.TheVariants.{Eval, Visit}
use Rattle.flat_grammar.specs.declared.plan.VisitClass.{VisitClass}
use Rattle.flat_grammar.specs.Rules.{symbol_at}
use Rattle.flat_grammar.specs.WellFormed.{is_nonterminal}
use Rattle.flat_grammar.specs.SoundPlan.{IsAttribute, IsRow, of_kind, IsSound, IsUnsound, of_rows, of_rule, IsFault, IsEvaluated, goals_of, AllowsEnd, HoldsAt, IsAtHand, visits_made}
use Rattle.flat_grammar.specs.WholeOrder.{order, whole_order}
use Rattle.flat_grammar.proofs.Lists.{held, contains-first, contains-later, contains-cons, contains-nil}
use Rattle.trials_of_grammar.specs.ListOfItems.{symbol, occurrence}
use Rattle.trials_of_grammar.specs.LateInherited.{attribute, v_attribute, i_attribute, out_attribute, symbols, S_v, S_out, A_i, B_v, v_of_S, S_rule, A_rule, B_rule, rules, visits_of_S, visits_of_A, visits_of_B, visits, S_sequence, A_sequence, B_sequence, sequences, tree, no_such_child, evaluated_twice, visited_twice, visited_too_early, evaluated_too_early, left_too_early, last_visit_missing, with_sequence}
use Rattle.trials_of_grammar.proofs.Finite.{never, all-of, each-of, pairs-of, numbers-apart, kinds-apart}
use Rattle.trials_of_grammar.proofs.TestedPlans.{evaluated-holds, first-tested, sequence-tested}

attributes-apart : (a b : AttrId) → nat_eq a.0 b.0 ≡ false → a ≡ b → ⊥
attributes-apart a b h e = numbers-apart a.0 b.0 h (ap (λ (c : AttrId). c.0) e)

abbrev S_symbol : FlatSymbol
S_symbol = record { name = record { 0 = 0 }; terminal = None; attrs = v_attribute ∷ out_attribute ∷ [] }

abbrev A_symbol : FlatSymbol
A_symbol = record { name = record { 0 = 1 }; terminal = None; attrs = i_attribute ∷ [] }

abbrev B_symbol : FlatSymbol
B_symbol = record { name = record { 0 = 2 }; terminal = None; attrs = v_attribute ∷ [] }

S-from : (n : ℕ) → IsAttribute S_symbol Synthesized (attribute n) → Contains (attribute 0 ∷ attribute 1 ∷ []) (attribute n)
S-from zero h = contains-first (attribute 0) (attribute 1 ∷ [])
S-from (suc zero) h = contains-later (attribute 0) (attribute 1) (attribute 1 ∷ []) (contains-first (attribute 1) [])
S-from (suc (suc n)) h = absurd (none-some _ h.1)

S-none : (n : ℕ) → IsAttribute S_symbol Inherited (attribute n) → ⊥
S-none zero h = kinds-apart (ap (λ (a : FlatAttr). a.kind) (held h.1) ∙ h.2)
S-none (suc zero) h = kinds-apart (ap (λ (a : FlatAttr). a.kind) (held h.1) ∙ h.2)
S-none (suc (suc n)) h = none-some _ h.1

A-from : (n : ℕ) → IsAttribute A_symbol Inherited (attribute n) → Contains (attribute 0 ∷ []) (attribute n)
A-from zero h = contains-first (attribute 0) []
A-from (suc n) h = absurd (none-some _ h.1)

A-none : (n : ℕ) → IsAttribute A_symbol Synthesized (attribute n) → ⊥
A-none zero h = kinds-apart (sym h.2 ∙ sym (ap (λ (a : FlatAttr). a.kind) (held h.1)))
A-none (suc n) h = none-some _ h.1

B-from : (n : ℕ) → IsAttribute B_symbol Synthesized (attribute n) → Contains (attribute 0 ∷ []) (attribute n)
B-from zero h = contains-first (attribute 0) []
B-from (suc n) h = absurd (none-some _ h.1)

B-none : (n : ℕ) → IsAttribute B_symbol Inherited (attribute n) → ⊥
B-none zero h = kinds-apart (ap (λ (a : FlatAttr). a.kind) (held h.1) ∙ h.2)
B-none (suc n) h = none-some _ h.1

S-attributes : (kind : Kind) (a : AttrId) → Contains (of_kind kind visits_of_S) a ↔ IsAttribute S_symbol kind a
S-attributes Inherited a = (λ m. absurd (contains-nil a m), λ h. absurd (S-none a.0 h))
S-attributes Synthesized a = (each-of (IsAttribute S_symbol Synthesized) (attribute 0 ∷ attribute 1 ∷ []) ((v_attribute, refl, refl), ((out_attribute, refl, refl), tt)) a, λ h. S-from a.0 h)

A-attributes : (kind : Kind) (a : AttrId) → Contains (of_kind kind visits_of_A) a ↔ IsAttribute A_symbol kind a
A-attributes Inherited a = (each-of (IsAttribute A_symbol Inherited) (attribute 0 ∷ []) ((i_attribute, refl, refl), tt) a, λ h. A-from a.0 h)
A-attributes Synthesized a = (λ m. absurd (contains-nil a m), λ h. absurd (A-none a.0 h))

B-attributes : (kind : Kind) (a : AttrId) → Contains (of_kind kind visits_of_B) a ↔ IsAttribute B_symbol kind a
B-attributes Inherited a = (λ m. absurd (contains-nil a m), λ h. absurd (B-none a.0 h))
B-attributes Synthesized a = (each-of (IsAttribute B_symbol Synthesized) (attribute 0 ∷ []) ((v_attribute, refl, refl), tt) a, λ h. B-from a.0 h)

S-once : (kind : Kind) → AllPairs (λ a b. a ≡ b → ⊥) (of_kind kind visits_of_S)
S-once Inherited = pairs-of (λ (a b : AttrId). a ≡ b → ⊥) [] tt
S-once Synthesized = pairs-of (λ (a b : AttrId). a ≡ b → ⊥) (attribute 0 ∷ attribute 1 ∷ []) ((attributes-apart (attribute 0) (attribute 1) refl, tt), (tt, tt))

A-once : (kind : Kind) → AllPairs (λ a b. a ≡ b → ⊥) (of_kind kind visits_of_A)
A-once Inherited = pairs-of (λ (a b : AttrId). a ≡ b → ⊥) (attribute 0 ∷ []) (tt, tt)
A-once Synthesized = pairs-of (λ (a b : AttrId). a ≡ b → ⊥) [] tt

B-once : (kind : Kind) → AllPairs (λ a b. a ≡ b → ⊥) (of_kind kind visits_of_B)
B-once Inherited = pairs-of (λ (a b : AttrId). a ≡ b → ⊥) [] tt
B-once Synthesized = pairs-of (λ (a b : AttrId). a ≡ b → ⊥) (attribute 0 ∷ []) (tt, tt)

rows : AllZip IsRow symbols visits
rows = (
  record { some_visit = refl; attributes = S-attributes; once = S-once },
  (
    record { some_visit = refl; attributes = A-attributes; once = A-once },
    (record { some_visit = refl; attributes = B-attributes; once = B-once }, tt),
  ),
)

pub S-ends : (clause : ℕ) → AllowsEnd symbols visits S_rule clause S_sequence
S-ends zero = tt
S-ends (suc zero) = all-of (IsEvaluated S_sequence) (goals_of S_rule) (evaluated-holds S_sequence A_i refl, (evaluated-holds S_sequence S_v refl, (evaluated-holds S_sequence S_out refl, tt)))
S-ends (suc (suc zero)) = children
  where
    children : (k : ℕ) (s : SymId) (row : List VisitClass) → 0 < k → symbol_at S_rule k ≡ Some s → IsTrue (is_nonterminal symbols s) → slice_get visits s.0 ≡ Some row → visits_made S_sequence k ≡ length row
    children zero s row l e n g = absurd (omega (arith, l))
    children (suc zero) s row l e n g = ap length (held (sym (ap (λ (q : SymId). slice_get visits q.0) (sym (held e))) ∙ g))
    children (suc (suc zero)) s row l e n g = ap length (held (sym (ap (λ (q : SymId). slice_get visits q.0) (sym (held e))) ∙ g))
    children (suc (suc (suc k))) s row l e n g = absurd (none-some _ e)
S-ends (suc (suc (suc zero))) = tt
S-ends (suc (suc (suc (suc zero)))) = tt
S-ends (suc (suc (suc (suc (suc zero))))) = (Eval A_i ∷ Visit 2 1 ∷ Eval S_v ∷ Eval S_out ∷ Visit 1 1 ∷ [], visits_of_S, refl, refl)
S-ends (suc (suc (suc (suc (suc (suc clause)))))) = tt

pub A-ends : (clause : ℕ) → AllowsEnd symbols visits A_rule clause A_sequence
A-ends zero = tt
A-ends (suc zero) = all-of (IsEvaluated A_sequence) (goals_of A_rule) tt
A-ends (suc (suc zero)) = children
  where
    children : (k : ℕ) (s : SymId) (row : List VisitClass) → 0 < k → symbol_at A_rule k ≡ Some s → IsTrue (is_nonterminal symbols s) → slice_get visits s.0 ≡ Some row → visits_made A_sequence k ≡ length row
    children zero s row l e n g = absurd (omega (arith, l))
    children (suc k) s row l e n g = absurd (none-some _ e)
A-ends (suc (suc (suc zero))) = tt
A-ends (suc (suc (suc (suc zero)))) = tt
A-ends (suc (suc (suc (suc (suc zero))))) = ([], visits_of_A, refl, refl)
A-ends (suc (suc (suc (suc (suc (suc clause)))))) = tt

pub B-ends : (clause : ℕ) → AllowsEnd symbols visits B_rule clause B_sequence
B-ends zero = tt
B-ends (suc zero) = all-of (IsEvaluated B_sequence) (goals_of B_rule) (evaluated-holds B_sequence (occurrence 0 0) refl, tt)
B-ends (suc (suc zero)) = children
  where
    children : (k : ℕ) (s : SymId) (row : List VisitClass) → 0 < k → symbol_at B_rule k ≡ Some s → IsTrue (is_nonterminal symbols s) → slice_get visits s.0 ≡ Some row → visits_made B_sequence k ≡ length row
    children zero s row l e n g = absurd (omega (arith, l))
    children (suc k) s row l e n g = absurd (none-some _ e)
B-ends (suc (suc (suc zero))) = tt
B-ends (suc (suc (suc (suc zero)))) = tt
B-ends (suc (suc (suc (suc (suc zero))))) = (Eval (occurrence 0 0) ∷ [], visits_of_B, refl, refl)
B-ends (suc (suc (suc (suc (suc (suc clause)))))) = tt

pub sound : IsSound symbols rules visits sequences
sound = ((rows, refl), (sequence-tested symbols visits S_rule S_sequence refl S-ends, (sequence-tested symbols visits A_rule A_sequence refl A-ends, (sequence-tested symbols visits B_rule B_sequence refl B-ends, tt))))

-- A.i, then B.v in B's visit, S.v and S.$out; nodes 0, 1 and 2 are S, A and B
pub whole : whole_order tree sequences visits (symbol 0) ≡ (1, 0) ∷ (2, 0) ∷ (0, 0) ∷ (0, 1) ∷ []
unfolding order from_children
whole = refl

-- the first fault of a plan whose first sequence is another
first-fault : (seq : List PlanItem) (place clause : ℕ) → IsFault symbols visits S_rule seq place clause → IsUnsound symbols rules visits (with_sequence seq) 0 place clause
first-fault seq place clause f = of_rule S_rule seq (rows, refl) refl refl f tt

none-before : (seq : List PlanItem) (p c : ℕ) → p < 0 → HoldsAt symbols visits S_rule seq p c
none-before seq p c l = absurd (omega (arith, l))

pub no-such-child : IsUnsound symbols rules visits (with_sequence no_such_child) 0 0 0
no-such-child = first-fault no_such_child 0 0 (record {
  within = omega arith;
  broken = λ h. none-some _ h.2.2;
  first_clause = λ c l. absurd (omega (arith, l));
  first_place = none-before no_such_child;
})

pub evaluated-twice : IsUnsound symbols rules visits (with_sequence evaluated_twice) 0 1 1
evaluated-twice = first-fault evaluated_twice 1 1 (record {
  within = omega arith;
  broken = λ h. h.1 (evaluated-holds (Eval A_i ∷ []) A_i refl);
  first_clause = earlier;
  first_place = λ p c l. first-tested symbols visits S_rule evaluated_twice 1 (omega arith) refl p c l;
})
  where
    earlier : (c : ℕ) → c < 1 → HoldsAt symbols visits S_rule evaluated_twice 1 c
    earlier zero l = refl
    earlier (suc c) l = absurd (omega (arith, l))

pub visited-twice : IsUnsound symbols rules visits (with_sequence visited_twice) 0 1 2
visited-twice = first-fault visited_twice 1 2 (record {
  within = omega arith;
  broken = λ h. numbers-apart 1 2 refl h;
  first_clause = earlier;
  first_place = λ p c l. first-tested symbols visits S_rule visited_twice 1 (omega arith) refl p c l;
})
  where
    earlier : (c : ℕ) → c < 2 → HoldsAt symbols visits S_rule visited_twice 1 c
    earlier zero l = (omega arith, record { inherited = []; synthesized = attribute 0 ∷ [] }, (symbol 2, visits_of_B, refl, refl, refl))
    earlier (suc zero) l = tt
    earlier (suc (suc c)) l = absurd (omega (arith, l))

pub visited-too-early : IsUnsound symbols rules visits (with_sequence visited_too_early) 0 0 3
visited-too-early = first-fault visited_too_early 0 3 (record {
  within = omega arith;
  broken = λ h. contains-nil (Eval A_i) (h (record { inherited = attribute 0 ∷ []; synthesized = [] }) (symbol 1, visits_of_A, refl, refl, refl) 0 (attribute 0) (omega arith));
  first_clause = earlier;
  first_place = none-before visited_too_early;
})
  where
    earlier : (c : ℕ) → c < 3 → HoldsAt symbols visits S_rule visited_too_early 0 c
    earlier zero l = (omega arith, record { inherited = attribute 0 ∷ []; synthesized = [] }, (symbol 1, visits_of_A, refl, refl, refl))
    earlier (suc zero) l = tt
    earlier (suc (suc zero)) l = refl
    earlier (suc (suc (suc c))) l = absurd (omega (arith, l))

B-not-at-hand : IsAtHand visits S_rule [] B_v → ⊥
B-not-at-hand (inl e) = contains-nil (Eval B_v) e
B-not-at-hand (inr (inl (p, zero, class, l, c, m))) = c
B-not-at-hand (inr (inl (p, suc v, class, l, c, m))) = absurd (omega (arith, l))
B-not-at-hand (inr (inr (e, v, class, l, c, m))) = numbers-apart 2 0 refl e

pub evaluated-too-early : IsUnsound symbols rules visits (with_sequence evaluated_too_early) 0 0 4
evaluated-too-early = first-fault evaluated_too_early 0 4 (record {
  within = omega arith;
  broken = λ h. B-not-at-hand (h v_of_S (1, omega arith, refl) refl 0 B_v (omega arith));
  first_clause = earlier;
  first_place = none-before evaluated_too_early;
})
  where
    earlier : (c : ℕ) → c < 4 → HoldsAt symbols visits S_rule evaluated_too_early 0 c
    earlier zero l = refl
    earlier (suc zero) l = ((1, omega arith, refl), contains-nil (Eval S_v))
    earlier (suc (suc zero)) l = tt
    earlier (suc (suc (suc zero))) l = tt
    earlier (suc (suc (suc (suc c)))) l = absurd (omega (arith, l))

occurrence_in : PlanItem → ℕ
occurrence_in (Eval o) = o.occ
occurrence_in _ = 0

no-evaluation : IsEvaluated (Eval A_i ∷ []) S_v → ⊥
unfolding occurrence_in
no-evaluation m = go (contains-cons (Eval A_i) (Eval S_v) [] m)
  where
    go : (Eval A_i ≡ Eval S_v) ⊎ Contains [] (Eval S_v) → ⊥
    go (inl e) = numbers-apart 1 0 refl (ap occurrence_in e)
    go (inr k) = contains-nil (Eval S_v) k

pub left-too-early : IsUnsound symbols rules visits (with_sequence left_too_early) 0 1 5
left-too-early = first-fault left_too_early 1 5 (record {
  within = omega arith;
  broken = λ h. no-evaluation (h.1 (record { inherited = []; synthesized = attribute 0 ∷ attribute 1 ∷ [] }) (symbol 0, visits_of_S, refl, refl, refl) 0 (attribute 0) (omega arith));
  first_clause = earlier;
  first_place = λ p c l. first-tested symbols visits S_rule left_too_early 1 (omega arith) refl p c l;
})
  where
    earlier : (c : ℕ) → c < 5 → HoldsAt symbols visits S_rule left_too_early 1 c
    earlier zero l = (record { inherited = []; synthesized = attribute 0 ∷ attribute 1 ∷ [] }, (symbol 0, visits_of_S, refl, refl, refl))
    earlier (suc zero) l = tt
    earlier (suc (suc zero)) l = tt
    earlier (suc (suc (suc zero))) l = tt
    earlier (suc (suc (suc (suc zero)))) l = tt
    earlier (suc (suc (suc (suc (suc c))))) l = absurd (omega (arith, l))

-- at the end A's visit was not made
pub last-visit-missing : IsUnsound symbols rules visits (with_sequence last_visit_missing) 0 5 2
last-visit-missing = first-fault last_visit_missing 5 2 (record {
  within = omega arith;
  broken = λ h. numbers-apart 0 1 refl (h 1 (symbol 1) visits_of_A (omega arith) refl refl refl);
  first_clause = earlier;
  first_place = λ p c l. first-tested symbols visits S_rule last_visit_missing 5 (omega arith) refl p c l;
})
  where
    earlier : (c : ℕ) → c < 2 → HoldsAt symbols visits S_rule last_visit_missing 5 c
    earlier zero l = tt
    earlier (suc zero) l = all-of (IsEvaluated last_visit_missing) (goals_of S_rule) (evaluated-holds last_visit_missing A_i refl, (evaluated-holds last_visit_missing S_v refl, (evaluated-holds last_visit_missing S_out refl, tt)))
    earlier (suc (suc c)) l = absurd (omega (arith, l))

-- without the row of A
pub row-missing : IsUnsound symbols rules (visits_of_S ∷ [] ∷ visits_of_B ∷ []) sequences 0 0 0
row-missing = of_rows (λ h. never (h.0.1.0.some_visit))
