-- The attribute occurrences of a rule: its goals, those on which something depends, and the list of all.
use Rattle.std.specs.Prelude.{All, Contains, slice_get, option_and_then, is_some, IsSome, IsTrue, not, ◌==◌}
use Rattle.std.specs.List.{list_any}
use Rattle.std.proofs.Common.{◌≡◌, ℕ, zero, suc, ◌<◌, ◌+◌, inl, inr, List, [], ◌∷◌, ◌++◌, map, Option, Some, None, true, true≢false, refl, arith, ap, sym, subst, ◌∙◌}
use Rattle.std.proofs.lemmas.Bool.{and_from, and_parts, or_cases, or_left, or_right, eqb-true, eq-eqb}
use Rattle.std.proofs.lemmas.Option.{none-some}
use Rattle.std.proofs.lemmas.List.Elements.{All-contains, Contains-append_left, Contains-append_right}
use Rattle.lido_base.specs.declared.ids.SymId.{SymId}
use Rattle.lido_base.specs.declared.ids.AttrId.{AttrId}
use Rattle.lido_base.specs.declared.kinds.Kind.TheVariants.{Synthesized, Inherited}
use Rattle.flat_grammar.specs.declared.flat.Occ.{Occ}
use Rattle.flat_grammar.specs.declared.flat.FlatSymbol.{FlatSymbol}
use Rattle.flat_grammar.specs.declared.flat.FlatAttr.{FlatAttr}
use Rattle.flat_grammar.specs.declared.flat.FlatRule.{FlatRule}
use Rattle.flat_grammar.specs.declared.flat.FlatComp.{FlatComp}
use Rattle.flat_grammar.specs.declared.flat.Shape.{Shape}
use Rattle.flat_grammar.specs.declared.plan.Label.{Label}
use Rattle.flat_grammar.specs.Rules.{symbol_at, symbols_of, attribute_at, attrs_of, dependencies}
use Rattle.flat_grammar.specs.WellFormed.{IsWellFormed, IsRule, is_goal, is_goal_kind, is_synthesized, is_same_occ, attribute_of}
use Rattle.flat_grammar.specs.Dependencies.{DP, IDP, IDS, Joins, direct, induced, edge, further, joined}
use Rattle.flat_grammar.specs.Cycles.{EDP, direct as direct_edge, induced as induced_edge, partition as partition_edge}
use Rattle.flat_grammar.specs.Partition.{HasKind}
use Rattle.flat_grammar.specs.SoundPlan.{goals_of}
use Rattle.flat_grammar.proofs.Lists.{held, contains-nil, contains-cons, contains-first, contains-later}
use Rattle.visit_sequences.proofs.Classes.{value_in}

pub same-itself : (o : Occ) → is_same_occ o o ≡ true
same-itself o = and_from (o.occ == o.occ) (o.attr.0 == o.attr.0) (eq-eqb o.occ o.occ refl) (eq-eqb o.attr.0 o.attr.0 refl)

pub same-occurrence : (o p : Occ) → is_same_occ o p ≡ true → o ≡ p
same-occurrence o p h =
    let b = and_parts (o.occ == p.occ) (o.attr.0 == p.attr.0) h in
    let e = eqb-true o.occ p.occ b.0 in let f = eqb-true o.attr.0 p.attr.0 b.1 in λ i. record { occ = e i; attr = record { 0 = f i } }

any-goal : (o : Occ) (cs : List FlatComp) → Contains (map (λ (c : FlatComp). c.goal) cs) o → list_any (λ (c : FlatComp). is_same_occ c.goal o) cs ≡ true
any-goal o [] m = absurd (contains-nil o m)
any-goal o (c ∷ cs) m = elim (contains-cons c.goal o (map (λ (c : FlatComp). c.goal) cs) m) [
  | inl e ↦ or_left (is_same_occ c.goal o) (list_any (λ (c : FlatComp). is_same_occ c.goal o) cs) (ap (λ z. is_same_occ c.goal z) (sym e) ∙ same-itself c.goal)
  | inr k ↦ or_right (is_same_occ c.goal o) (list_any (λ (c : FlatComp). is_same_occ c.goal o) cs) (any-goal o cs k)
]

goal-among : (o : Occ) (cs : List FlatComp) → list_any (λ (c : FlatComp). is_same_occ c.goal o) cs ≡ true → Contains (map (λ (c : FlatComp). c.goal) cs) o
goal-among o [] h = absurd (true≢false (sym h))
goal-among o (c ∷ cs) h = elim (or_cases (is_same_occ c.goal o) (list_any (λ (c : FlatComp). is_same_occ c.goal o) cs) h) [
  | inl e ↦ subst (λ z. Contains (c.goal ∷ map (λ (c : FlatComp). c.goal) cs) z) (same-occurrence c.goal o e) (contains-first c.goal (map (λ (c : FlatComp). c.goal) cs))
  | inr k ↦ contains-later c.goal o (map (λ (c : FlatComp). c.goal) cs) (goal-among o cs k)
]

goal_kind-some : (k : ℕ) (attr : Option FlatAttr) → is_goal_kind k attr ≡ true → is_some attr ≡ true
goal_kind-some zero None h = h
goal_kind-some (suc k) None h = h
goal_kind-some zero (Some attr) h = refl
goal_kind-some (suc k) (Some attr) h = refl

left-kind : (attr : FlatAttr) → attr.kind ≡ Synthesized → is_goal_kind 0 (Some attr) ≡ true
left-kind attr e = ap is_synthesized e

right-kind : (k : ℕ) (attr : FlatAttr) → 0 < k → attr.kind ≡ Inherited → is_goal_kind k (Some attr) ≡ true
right-kind zero attr h e = absurd (omega (arith, h))
right-kind (suc k) attr h e = ap (λ z. not (is_synthesized z)) e

-- the attribute occurrences of one symbol
abbrev occurrences : ℕ → ℕ → List FlatAttr → List Occ
occurrences k i [] = []
occurrences k i (x ∷ xs) = record { occ = k; attr = record { 0 = i } } ∷ occurrences k (suc i) xs

occurrence-there : (k i j n : ℕ) (xs : List FlatAttr) (x : FlatAttr) → slice_get xs j ≡ Some x → n ≡ i + j → Contains (occurrences k i xs) (record { occ = k; attr = record { 0 = n } })
occurrence-there k i j n [] x e f = absurd (none-some x e)
occurrence-there k i zero n (y ∷ xs) x e f =
    let g : i ≡ n = omega (arith, f) in
    subst (λ (m : ℕ). Contains (occurrences k i (y ∷ xs)) (record { occ = k; attr = record { 0 = m } })) g (contains-first _ (occurrences k (suc i) xs))
occurrence-there k i (suc j) n (y ∷ xs) x e f = contains-later _ _ (occurrences k (suc i) xs) (occurrence-there k (suc i) j n xs x e (omega (arith, f)))

module _ (symbols : List FlatSymbol) where
  -- the attribute occurrences of these symbols, counted from k
  abbrev all_occurrences : ℕ → List SymId → List Occ
  all_occurrences k [] = []
  all_occurrences k (s ∷ more) = occurrences k 0 (attrs_of symbols s) ++ all_occurrences (suc k) more

  attribute-listed : (s : SymId) (a : AttrId) (attr : FlatAttr) → attribute_at symbols s a ≡ Some attr → slice_get (attrs_of symbols s) a.0 ≡ Some attr
  attribute-listed s a attr e = go (slice_get symbols s.0) e
    where
      go : (o : Option FlatSymbol) → option_and_then (λ (x : FlatSymbol). slice_get x.attrs a.0) o ≡ Some attr → slice_get (elim o as (λ _. List FlatAttr) [ None ↦ [] | Some x ↦ x.attrs ]) a.0 ≡ Some attr
      go None f = f
      go (Some x) f = f

  all-there : (k j n : ℕ) (ss : List SymId) (s : SymId) (a : AttrId) (attr : FlatAttr) → slice_get ss j ≡ Some s → n ≡ k + j → attribute_at symbols s a ≡ Some attr
      → Contains (all_occurrences k ss) (record { occ = n; attr = a })
  all-there k j n [] s a attr e f g = absurd (none-some s e)
  all-there k zero n (q ∷ more) s a attr e f g =
      let h : k ≡ n = omega (arith, f) in
      subst (λ (m : ℕ). Contains (all_occurrences k (q ∷ more)) (record { occ = m; attr = a })) h
      (Contains-append_left (occurrences k 0 (attrs_of symbols q)) (all_occurrences (suc k) more) _
      (occurrence-there k 0 a.0 a.0 (attrs_of symbols q) attr (attribute-listed q a attr (ap (λ z. attribute_at symbols z a) (held e) ∙ g)) (omega arith)))
  all-there k (suc j) n (q ∷ more) s a attr e f g =
      Contains-append_right (occurrences k 0 (attrs_of symbols q)) (all_occurrences (suc k) more) _ (all-there (suc k) j n more s a attr e (omega (arith, f)) g)

  -- what stands at an occurrence is the attribute of its symbol
  pub attribute-is : (q : FlatRule) (o : Occ) (s : SymId) → symbol_at q o.occ ≡ Some s → attribute_of symbols q o ≡ attribute_at symbols s o.attr
  attribute-is q o s e = rw e refl

  -- the symbol at an occurrence at which an attribute stands
  pub symbol-there : (q : FlatRule) (o : Occ) → IsSome (attribute_of symbols q o) → (s : SymId) × (symbol_at q o.occ ≡ Some s) × IsSome (attribute_at symbols s o.attr)
  symbol-there q o h = go (symbol_at q o.occ) refl
    where
      go : (x : Option SymId) → symbol_at q o.occ ≡ x → (s : SymId) × (symbol_at q o.occ ≡ Some s) × IsSome (attribute_at symbols s o.attr)
      go None e = absurd (true≢false (sym (sym (rw e refl) ∙ h)))
      go (Some s) e = (s, e, (sym (ap is_some (attribute-is q o s e)) ∙ h))

  -- all attribute occurrences of a rule
  abbrev pub vertices : FlatRule → List Occ
  vertices q = all_occurrences 0 (symbols_of q)

  pub vertex-there : (q : FlatRule) (o : Occ) → IsSome (attribute_of symbols q o) → Contains (vertices q) o
  vertex-there q o h = let p = symbol-there q o h in let v = value_in (attribute_at symbols p.0 o.attr) p.2 in all-there 0 o.occ o.occ (symbols_of q) p.0 o.attr v.0 p.1 (omega arith) v.1

  module _ (rules : List FlatRule) (shapes : List Shape) (root : SymId) (w : IsWellFormed symbols rules shapes root) where
    pub rule-is : (q : FlatRule) → Contains rules q → IsRule symbols q
    rule-is q among = All-contains (IsRule symbols) rules q w.each_rule among

    pub goal-there : (q : FlatRule) → Contains rules q → (o : Occ) → IsTrue (is_goal symbols q o) → Contains (goals_of q) o
    goal-there q among o h = goal-among o q.comps ((rule-is q among).goals o ∙ h)

    -- a goal is an attribute occurrence
    pub goal-attribute : (q : FlatRule) → Contains rules q → (o : Occ) → Contains (goals_of q) o → IsSome (attribute_of symbols q o)
    goal-attribute q among o m = goal_kind-some o.occ (attribute_of symbols q o) (sym ((rule-is q among).goals o) ∙ any-goal o q.comps m)

    -- what the left side synthesizes is a goal
    pub left-goal : (q : FlatRule) → Contains rules q → (a : AttrId) → HasKind symbols q.left Synthesized a → Contains (goals_of q) (record { occ = 0; attr = a })
    left-goal q among a (attr, e, f) = goal-there q among (record { occ = 0; attr = a }) (ap (λ z. is_goal_kind 0 z) e ∙ left-kind attr f)

    -- what a child inherits is a goal
    pub right-goal : (q : FlatRule) → Contains rules q → (k : ℕ) (s : SymId) (a : AttrId) → 0 < k → symbol_at q k ≡ Some s → HasKind symbols s Inherited a → Contains (goals_of q) (record { occ = k; attr = a })
    right-goal q among k s a h at (attr, e, f) =
        goal-there q among (record { occ = k; attr = a }) (ap (λ z. is_goal_kind k z) (attribute-is q (record { occ = k; attr = a }) s at ∙ e) ∙ right-kind k attr h f)

    dependency-attribute : (q : FlatRule) → Contains rules q → (u v : Occ) → DP q u v → IsSome (attribute_of symbols q u)
    dependency-attribute q among u v (c, m, n, e) =
        All-contains (λ o. IsTrue (is_some (attribute_of symbols q o))) (dependencies c) u
        (All-contains (λ (c : FlatComp). All (λ o. IsTrue (is_some (attribute_of symbols q o))) (dependencies c)) q.comps c (rule-is q among).dependencies_in_range m) n

    mutual
      IDP-attribute : {q : FlatRule} {u v : Occ} → Contains rules q → IDP rules q u v → IsSome (attribute_of symbols q u)
      IDP-attribute {q} {u} {v} among (direct e) = dependency-attribute q among u v e
      IDP-attribute {q} {u} among (induced {x = x} same at e) = ap is_some (attribute-is q u x at) ∙ IDS-attribute e

      Joins-attribute : {q : FlatRule} {u v : Occ} → Contains rules q → Joins rules q u v → IsSome (attribute_of symbols q u)
      Joins-attribute among (edge e) = IDP-attribute among e
      Joins-attribute among (further e more) = IDP-attribute among e

      pub IDS-attribute : {x : SymId} {a b : AttrId} → IDS rules x a b → IsSome (attribute_at symbols x a)
      IDS-attribute {x} (joined {r = q} {u = u} among path same at) = sym (ap is_some (attribute-is q u x at)) ∙ Joins-attribute among path

    -- an edge begins at an attribute occurrence
    pub edge-attribute : (q : FlatRule) → Contains rules q → (u v : Occ) (label : Label) → EDP symbols rules q u v label → IsSome (attribute_of symbols q u)
    edge-attribute q among u v label (direct_edge d) = dependency-attribute q among u v d
    edge-attribute q among u v label (induced_edge {x = x} n same at i) = ap is_some (attribute-is q u x at) ∙ IDS-attribute i
    edge-attribute q among u v label (partition_edge {x = x} n same at m e) = ap is_some (attribute-is q u x at) ∙ e.0
