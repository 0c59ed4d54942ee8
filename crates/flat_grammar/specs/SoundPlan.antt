-- A sound plan: what visit sequences may do, in numbered clauses, and the first fault. After Kastens' visit sequences (1980).
use Rattle.std.specs.Prelude.{◌≡◌, ℕ, zero, suc, ◌+◌, ◌<◌, ◌≤◌, ◌⊎◌, List, [], ◌∷◌, ◌++◌, map, length, take, Bool, true, false, IsTrue, Option, Some, None, slice_get, Contains, All, AllPairs, count_by, nat_eq, flat_map, is_some, ◌↔◌, option_and_then}
use Rattle.std.specs.List.{AllZip}
use Rattle.lido_base.specs.declared.kinds.Kind.{Kind}
use Rattle.lido_base.specs.declared.kinds.Kind.TheVariants.{Synthesized, Inherited}
use Rattle.lido_base.specs.declared.ids.SymId.{SymId}
use Rattle.lido_base.specs.declared.ids.AttrId.{AttrId}
use Rattle.flat_grammar.specs.declared.flat.Occ.{Occ}
use Rattle.flat_grammar.specs.declared.flat.FlatSymbol.{FlatSymbol}
use Rattle.flat_grammar.specs.declared.flat.FlatAttr.{FlatAttr}
use Rattle.flat_grammar.specs.declared.flat.FlatRule.{FlatRule}
use Rattle.flat_grammar.specs.declared.flat.FlatComp.{FlatComp}
use Rattle.flat_grammar.specs.declared.plan.VisitClass.{VisitClass}
use Rattle.flat_grammar.specs.declared.plan.PlanItem.{PlanItem}
use Rattle.flat_grammar.specs.declared.plan.PlanItem.TheVariants.{Eval, Visit, Leave}
use Rattle.flat_grammar.specs.Rules.{symbol_at, dependencies}
use Rattle.flat_grammar.specs.WellFormed.{is_nonterminal, attribute_of}

-- the item ends a visit of the left side
abbrev pub is_leave : PlanItem → Bool
is_leave (Leave v) = true
is_leave _ = false

-- the item is a visit of this child
abbrev pub is_visit_of : ℕ → PlanItem → Bool
is_visit_of child (Visit k v) = nat_eq k child
is_visit_of child _ = false

-- the visit of the left side in which the item behind these stands
abbrev pub segment_after : List PlanItem → ℕ
segment_after before = 1 + count_by is_leave before

-- one of the items evaluates it
abbrev pub IsEvaluated : List PlanItem → Occ → Type 0
IsEvaluated before o = Contains before (Eval o)

-- the items evaluate all these attributes of the occurrence
abbrev pub IsEvaluatedAll : List PlanItem → ℕ → List AttrId → Type 0
IsEvaluatedAll before k attrs = All (λ a. IsEvaluated before (record { occ = k; attr = a })) attrs

-- how many visits of the child are among the items
abbrev pub visits_made : List PlanItem → ℕ → ℕ
visits_made before child = count_by (is_visit_of child) before

-- the goals of a rule's computations
abbrev pub goals_of : FlatRule → List Occ
goals_of r = map (λ (c : FlatComp). c.goal) r.comps

-- the visits of the symbol at an occurrence of a rule
abbrev pub row_of : List (List VisitClass) → FlatRule → ℕ → Option (List VisitClass)
row_of visits r k = option_and_then (λ (s : SymId). slice_get visits s.0) (symbol_at r k)

module _ (visits : List (List VisitClass)) (r : FlatRule) where
  -- the class of that visit, counted from 1, of the symbol at an occurrence
  abbrev pub IsClassAt : ℕ → ℕ → VisitClass → Type 0
  IsClassAt k zero class = ⊥
  IsClassAt k (suc v) class = (s : SymId) × (row : List VisitClass) × (symbol_at r k ≡ Some s) × (slice_get visits s.0 ≡ Some row) × (slice_get row v ≡ Some class)

  -- It has its value behind the items: evaluated, or synthesized by a visit of the child that was made, or inherited by the left
  -- side in a visit up to this one.
  abbrev pub IsAtHand : List PlanItem → Occ → Type 0
  IsAtHand before o =
      IsEvaluated before o
      ⊎ ((0 < o.occ) × (v : ℕ) × (class : VisitClass) × (v ≤ visits_made before o.occ) × IsClassAt o.occ v class × Contains class.synthesized o.attr)
      ⊎ ((o.occ ≡ 0) × (v : ℕ) × (class : VisitClass) × (v ≤ segment_after before) × IsClassAt 0 v class × Contains class.inherited o.attr)

module _ (symbols : List FlatSymbol) (visits : List (List VisitClass)) (r : FlatRule) where
  -- The clause allows the item to stand behind these. Clause 0: its numbers are in range. 1: it evaluates a goal of the rule that
  -- wasn't evaluated before. 2: it is the child's next visit. 3: what the child inherits in this visit is evaluated. 4: what the
  -- evaluation depends on is at hand. 5: it ends its own visit, whose synthesized attributes are evaluated.
  abbrev pub Allows : ℕ → List PlanItem → PlanItem → Type 0
  Allows zero before (Eval o) = IsTrue (is_some (attribute_of symbols r o))
  Allows zero before (Visit k v) = (0 < k) × (class : VisitClass) × IsClassAt visits r k v class
  Allows zero before (Leave v) = (class : VisitClass) × IsClassAt visits r 0 v class
  Allows (suc zero) before (Eval o) = Contains (goals_of r) o × ¬ IsEvaluated before o
  Allows (suc (suc zero)) before (Visit k v) = v ≡ suc (visits_made before k)
  Allows (suc (suc (suc zero))) before (Visit k v) = (class : VisitClass) → IsClassAt visits r k v class → IsEvaluatedAll before k class.inherited
  Allows (suc (suc (suc (suc zero)))) before (Eval o) = (c : FlatComp) → Contains r.comps c → c.goal ≡ o → All (IsAtHand visits r before) (dependencies c)
  Allows (suc (suc (suc (suc (suc zero))))) before (Leave v) = (v ≡ segment_after before) × ((class : VisitClass) → IsClassAt visits r 0 v class → IsEvaluatedAll before 0 class.synthesized)
  Allows _ _ _ = Unit {0}

  -- The clause allows the sequence to end behind these. Clause 1: all goals are evaluated. 2: all visits of the nonterminal children
  -- were made. 5: the last item ends the last visit.
  abbrev pub AllowsEnd : ℕ → List PlanItem → Type 0
  AllowsEnd (suc zero) before = All (IsEvaluated before) (goals_of r)
  AllowsEnd (suc (suc zero)) before = (k : ℕ) (s : SymId) (row : List VisitClass) → 0 < k → symbol_at r k ≡ Some s → IsTrue (is_nonterminal symbols s) → slice_get visits s.0 ≡ Some row
      → visits_made before k ≡ length row
  AllowsEnd (suc (suc (suc (suc (suc zero))))) before = (front : List PlanItem) × (row : List VisitClass) × (slice_get visits r.left.0 ≡ Some row) × (before ≡ front ++ Leave (length row) ∷ [])
  AllowsEnd _ _ = Unit {0}

  -- the clause allows what comes next, an item or the end
  abbrev pub AllowsNext : ℕ → List PlanItem → Option PlanItem → Type 0
  AllowsNext clause before (Some item) = Allows clause before item
  AllowsNext clause before None = AllowsEnd clause before

  module _ (seq : List PlanItem) where
    -- the clause holds at the place, and at the end where the place is the length
    abbrev pub HoldsAt : ℕ → ℕ → Type 0
    HoldsAt place clause = AllowsNext clause (take place seq) (slice_get seq place)

    -- all clauses hold at each place and at the end
    abbrev pub IsSoundSequence : Type 0
    IsSoundSequence = (place clause : ℕ) → place ≤ length seq → HoldsAt place clause

    -- the first fault: the least place, and there the least clause
    pub record IsFault (place clause : ℕ) : Type 0 where
      pub within : place ≤ length seq
      pub broken : ¬ HoldsAt place clause
      pub first_clause : (c : ℕ) → c < clause → HoldsAt place c
      pub first_place : (p c : ℕ) → p < place → HoldsAt p c

-- the classes of one kind of a row, one behind the other
abbrev pub of_kind : Kind → List VisitClass → List AttrId
of_kind Inherited row = flat_map (λ (c : VisitClass). c.inherited) row
of_kind Synthesized row = flat_map (λ (c : VisitClass). c.synthesized) row

-- the number is that of an attribute of this kind
abbrev pub IsAttribute : FlatSymbol → Kind → AttrId → Type 0
IsAttribute x kind a = (attr : FlatAttr) × (slice_get x.attrs a.0 ≡ Some attr) × (attr.kind ≡ kind)

-- A symbol's row has each of its attributes once, in a class of its kind, and nothing else. Terminals alone have no visit.
pub record IsRow (x : FlatSymbol) (row : List VisitClass) : Type 0 where
  pub some_visit : is_some x.terminal ≡ nat_eq (length row) 0
  pub attributes : (kind : Kind) (a : AttrId) → Contains (of_kind kind row) a ↔ IsAttribute x kind a
  pub once : (kind : Kind) → AllPairs (λ a b. a ≡ b → ⊥) (of_kind kind row)

module _ (symbols : List FlatSymbol) (rules : List FlatRule) (visits : List (List VisitClass)) (seqs : List (List PlanItem)) where
  -- each symbol has its row of visits, and each rule has a sequence
  abbrev pub HasRows : Type 0
  HasRows = AllZip IsRow symbols visits × (length seqs ≡ length rules)

  -- the rows of visits are right, and each rule's sequence is sound for them
  abbrev pub IsSound : Type 0
  IsSound = HasRows × AllZip (IsSoundSequence symbols visits) rules seqs

  -- The first fault, by rule, place and clause: one of the rows or of the number of sequences is rule 0, place 0, clause 0;
  -- else it is at the least rule, then the least place, then the least clause.
  pub data IsUnsound : ℕ → ℕ → ℕ → Type 0 where
    of_rows : ¬ HasRows → IsUnsound 0 0 0
    of_rule : {i place clause : ℕ} (r : FlatRule) (seq : List PlanItem) → HasRows → slice_get rules i ≡ Some r → slice_get seqs i ≡ Some seq → IsFault symbols visits r seq place clause
        → AllZip (IsSoundSequence symbols visits) (take i rules) (take i seqs) → IsUnsound i place clause
