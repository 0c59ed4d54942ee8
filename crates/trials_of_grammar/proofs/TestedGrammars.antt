-- Tests that a rule and a grammar are well formed.
use Rattle.std.specs.Prelude.{All, AllPairs, slice_get, nat_eq, nat_lt, nat_le, Bool, true, false, IsTrue, not, ◌&&◌, is_some, sum_by, option_and_then, ◌^◌}
use Rattle.std.specs.List.{list_any, list_all, AllByRecursion, slice_index_or}
use Rattle.std.proofs.Common.{◌≡◌, ℕ, zero, suc, ◌<◌, ◌≤◌, ◌⊎◌, inl, inr, List, [], ◌∷◌, map, length, Option, Some, None, refl, arith, ap, sym, subst, ◌∙◌, ltb-true, leb-true}
use Rattle.std.proofs.lemmas.Bool.{cases_lt}
use Rattle.std.proofs.lemmas.Option.{slice_get_past}
use Rattle.std.proofs.lemmas.List.Kept.{AllPairs-cons}
use Rattle.std.proofs.lemmas.List.Elements.{All-cons, All-nil}
use Rattle.std.proofs.lemmas.List.Folds.{list_any_none}
use Rattle.lido_base.specs.declared.ids.SymId.{SymId}
use Rattle.flat_grammar.specs.declared.flat.Occ.{Occ}
use Rattle.flat_grammar.specs.declared.flat.FlatSymbol.{FlatSymbol}
use Rattle.flat_grammar.specs.declared.flat.FlatAttr.{FlatAttr}
use Rattle.flat_grammar.specs.declared.flat.FlatRule.{FlatRule}
use Rattle.flat_grammar.specs.declared.flat.FlatComp.{FlatComp}
use Rattle.flat_grammar.specs.declared.flat.Shape.{Shape}
use Rattle.flat_grammar.specs.Rules.{symbols_of, symbol_at, attribute_at, attrs_of, dependencies, terminals_of}
use Rattle.flat_grammar.specs.WellFormed.{is_same_occ, is_nonterminal, is_nonterminal_symbol, attribute_of, is_goal, is_goal_kind, is_terminal_at, right_side, cell_of, positions_of, is_same_symbol, IsRule, IsListShape, IsWellFormed}
use Rattle.trials_of_grammar.proofs.Finite.{never, both, all-of, names-apart, occurrences-apart, same-occurrence}
use Rattle.trials_of_grammar.proofs.TestedTrees.{below, below-at, alike, alike-same}

pub all-tested : {X : Type 0} (p : X → Bool) (xs : List X) → IsTrue (list_all p xs) → All (λ x. IsTrue (p x)) xs
all-tested p [] h = All-nil _
all-tested p (x ∷ xs) h = let b = both (p x) (list_all p xs) h in All-cons (λ y. IsTrue (p y)) x xs b.0 (all-tested p xs b.1)

abbrev pub all_differ : {X : Type 0} → (X → X → Bool) → List X → Bool
all_differ same [] = true
all_differ same (x ∷ xs) = list_all (λ y. not (same x y)) xs && all_differ same xs

pub pairs-tested : {X : Type 0} (same : X → X → Bool) (R : X → X → Type 0) → ((x y : X) → same x y ≡ false → R x y) → (xs : List X) → IsTrue (all_differ same xs) → AllPairs R xs
pairs-tested same R apart [] h = λ i j d a b. absurd (omega (arith, b))
pairs-tested same R apart (x ∷ xs) h =
    let b = both (list_all (λ y. not (same x y)) xs) (all_differ same xs) h in
    AllPairs-cons R x xs (λ k d l. apart x _ (negated _ (all-tested (λ y. not (same x y)) xs b.0 k d l))) (pairs-tested same R apart xs b.1)
  where
    negated : (a : Bool) → IsTrue (not a) → a ≡ false
    negated true e = never e
    negated false e = refl

-- the attributes at an occurrence
abbrev attributes_at : List FlatSymbol → Option SymId → List FlatAttr
attributes_at symbols None = []
attributes_at symbols (Some s) = attrs_of symbols s

abbrev attribute_in : Option FlatSymbol → Occ → Option FlatAttr
attribute_in x o = option_and_then (λ (y : FlatSymbol). slice_get y.attrs o.attr.0) x

abbrev attribute_of_symbol : List FlatSymbol → Option SymId → Occ → Option FlatAttr
attribute_of_symbol symbols s o = elim s [ None ↦ None | Some q ↦ attribute_at symbols q o.attr ]

module _ (symbols : List FlatSymbol) (r : FlatRule) where
  abbrev has_goal : Occ → Bool
  has_goal o = list_any (λ (c : FlatComp). is_same_occ c.goal o) r.comps

  abbrev occurrence : ℕ → ℕ → Occ
  occurrence k a = record { occ = k; attr = record { 0 = a } }

  abbrev count : ℕ → ℕ
  count k = length (attributes_at symbols (symbol_at r k))

  abbrev pub goals_test : Bool
  goals_test = below (length (symbols_of r)) (λ k. below (count k) (λ a. alike (has_goal (occurrence k a)) (is_goal symbols r (occurrence k a)))) && list_all (λ (c : FlatComp). is_some (attribute_of symbols r c.goal)) r.comps

  past : (s : Option SymId) (o : Occ) → length (attributes_at symbols s) ≤ o.attr.0 → attribute_of_symbol symbols s o ≡ None
  past None o h = refl
  past (Some s) o h = go (slice_get symbols s.0) h
    where
      go : (x : Option FlatSymbol) → length {A = FlatAttr} (elim x [ None ↦ [] | Some y ↦ y.attrs ]) ≤ o.attr.0 → attribute_in x o ≡ None
      go None h = refl
      go (Some y) h = slice_get_past y.attrs o.attr.0 h

  no_goal : (cs : List FlatComp) (o : Occ) → attribute_of symbols r o ≡ None → All (λ (c : FlatComp). IsTrue (is_some (attribute_of symbols r c.goal))) cs → list_any (λ (c : FlatComp). is_same_occ c.goal o) cs ≡ false
  no_goal cs o none h = list_any_none (λ (c : FlatComp). is_same_occ c.goal o) cs (λ k d l. other (slice_index_or cs k d) (h k d l))
    where
      other : (c : FlatComp) → IsTrue (is_some (attribute_of symbols r c.goal)) → is_same_occ c.goal o ≡ false
      other c some = go (is_same_occ c.goal o) refl
        where
          go : (b : Bool) → is_same_occ c.goal o ≡ b → b ≡ false
          go false e = refl
          go true e = never (sym (ap is_some none) ∙ (ap (λ p. is_some (attribute_of symbols r p)) (sym (same-occurrence c.goal o e)) ∙ some))

  pub goals-tested : IsTrue goals_test → (o : Occ) → has_goal o ≡ is_goal symbols r o
  goals-tested h o = go (cases_lt o.attr.0 (count o.occ))
    where
      tests : IsTrue (below (length (symbols_of r)) (λ k. below (count k) (λ a. alike (has_goal (occurrence k a)) (is_goal symbols r (occurrence k a))))) × IsTrue (list_all (λ (c : FlatComp). is_some (attribute_of symbols r c.goal)) r.comps)
      tests = both _ _ h

      within : (o.occ < length (symbols_of r)) ⊎ (length (symbols_of r) ≤ o.occ) → o.attr.0 < count o.occ → o.occ < length (symbols_of r)
      within (inl l) m = l
      within (inr l) m = let e : count o.occ ≡ 0 = ap (λ s. length (attributes_at symbols s)) (slice_get_past (symbols_of r) o.occ l) in absurd (omega arith)

      kindless : (k : ℕ) → is_goal_kind k None ≡ false
      kindless zero = refl
      kindless (suc k) = refl

      go : (o.attr.0 < count o.occ) ⊎ (count o.occ ≤ o.attr.0) → has_goal o ≡ is_goal symbols r o
      go (inl l) = alike-same _ _ (below-at (count o.occ) (λ a. alike (has_goal (occurrence o.occ a)) (is_goal symbols r (occurrence o.occ a)))
          (below-at (length (symbols_of r)) (λ k. below (count k) (λ a. alike (has_goal (occurrence k a)) (is_goal symbols r (occurrence k a)))) tests.0 o.occ (within (cases_lt o.occ (length (symbols_of r))) l)) o.attr.0 l)
      go (inr l) = let none : attribute_of symbols r o ≡ None = past (symbol_at r o.occ) o l in
          no_goal r.comps o none (all-tested (λ (c : FlatComp). is_some (attribute_of symbols r c.goal)) r.comps tests.1) ∙ sym (ap (is_goal_kind o.occ) none ∙ kindless o.occ)

  abbrev origin_test : FlatComp → Bool
  origin_test c = is_nonterminal_symbol (elim (symbol_at r c.origin) [ None ↦ None | Some s ↦ slice_get symbols s.0 ])

  -- the rule is well formed
  pub record IsTestedRule : Type 0 where
    pub left_side : IsTrue (is_nonterminal symbols r.left)
    pub right_side : IsTrue (list_all (λ (s : SymId). nat_lt s.0 (length symbols)) r.right)
    pub goals : IsTrue goals_test
    pub once : IsTrue (all_differ (λ (c d : FlatComp). is_same_occ c.goal d.goal) r.comps)
    pub dependencies_in_range : IsTrue (list_all (λ (c : FlatComp). list_all (λ o. is_some (attribute_of symbols r o)) (dependencies c)) r.comps)
    pub terminals : IsTrue (list_all (λ (c : FlatComp). list_all (is_terminal_at symbols r) (terminals_of c.value)) r.comps)
    pub origins : IsTrue (list_all origin_test r.comps)

  pub rule-tested : IsTestedRule → IsRule symbols r
  rule-tested t = record {
    left_side = t.left_side;
    right_side = λ k d l. ltb-true _ _ (all-tested (λ (s : SymId). nat_lt s.0 (length symbols)) r.right t.right_side k d l);
    goals = goals-tested t.goals;
    once = pairs-tested (λ (c d : FlatComp). is_same_occ c.goal d.goal) (λ (c d : FlatComp). c.goal ≡ d.goal → ⊥) (λ c d h e. occurrences-apart c.goal d.goal h e) r.comps t.once;
    dependencies_in_range = λ k d l. all-tested (λ o. is_some (attribute_of symbols r o)) _ (all-tested (λ (c : FlatComp). list_all (λ o. is_some (attribute_of symbols r o)) (dependencies c)) r.comps t.dependencies_in_range k d l);
    terminals = λ k d l. all-tested (is_terminal_at symbols r) _ (all-tested (λ (c : FlatComp). list_all (is_terminal_at symbols r) (terminals_of c.value)) r.comps t.terminals k d l);
    origins = all-tested origin_test r.comps t.origins;
  }

module _ (symbols : List FlatSymbol) (rules : List FlatRule) (shapes : List Shape) (root : SymId) where
  abbrev ListsAreRight : Shape → Type 0
  ListsAreRight shape = IsTrue shape.list → IsListShape symbols rules shape (cell_of rules shape)

  abbrev PlainOnesAreRight : Shape → Type 0
  PlainOnesAreRight shape = shape.list ≡ false → shape.right ≡ right_side rules shape

  abbrev bare : FlatSymbol → Type 0
  bare x = IsTrue (is_some x.terminal) → x.attrs ≡ []

  -- the grammar is well formed
  pub record IsTestedGrammar : Type 0 where
    pub root_symbol : IsTrue (is_nonterminal symbols root)
    pub terminals_bare : AllByRecursion bare symbols
    pub symbol_names : IsTrue (all_differ (λ (x y : FlatSymbol). nat_eq x.name.0 y.name.0) symbols)
    pub attribute_names : IsTrue (list_all (λ (x : FlatSymbol). all_differ (λ (a b : FlatAttr). nat_eq a.name.0 b.name.0) x.attrs) symbols)
    pub rule_names : IsTrue (all_differ (λ (x y : FlatRule). nat_eq x.name.0 y.name.0) rules)
    pub each_rule : AllByRecursion (IsTestedRule symbols) rules
    pub each_list : AllByRecursion ListsAreRight shapes
    pub each_plain : AllByRecursion PlainOnesAreRight shapes
    pub each_shape : map (λ (shape : Shape). shape.rule.0) shapes ≡ positions_of (λ r. not (list_any (λ (shape : Shape). shape.list && is_same_symbol r.left (cell_of rules shape)) shapes)) rules
    pub numbers : (length symbols ≤ 2 ^ 16) × (length rules ≤ 2 ^ 16)
    pub occurrences : IsTrue (list_all (λ (r : FlatRule). nat_lt (length r.right) (2 ^ 16)) rules)
    pub few_attributes : IsTrue (list_all (λ (x : FlatSymbol). nat_le (length x.attrs) 256) symbols)
    pub few_occurrences : IsTrue (list_all (λ (r : FlatRule). nat_le (sum_by (λ s. length (attrs_of symbols s)) (symbols_of r)) 1024) rules)

  pub grammar-tested : IsTestedGrammar → IsWellFormed symbols rules shapes root
  grammar-tested t = record {
    root_symbol = t.root_symbol;
    terminals_bare = all-of bare symbols t.terminals_bare;
    symbol_names = pairs-tested (λ (x y : FlatSymbol). nat_eq x.name.0 y.name.0) (λ (x y : FlatSymbol). x.name ≡ y.name → ⊥) (λ x y h e. names-apart x.name y.name h e) symbols t.symbol_names;
    attribute_names = λ k d l. pairs-tested (λ (a b : FlatAttr). nat_eq a.name.0 b.name.0) (λ (a b : FlatAttr). a.name ≡ b.name → ⊥) (λ a b h e. names-apart a.name b.name h e) (slice_index_or symbols k d).attrs
        (all-tested (λ (x : FlatSymbol). all_differ (λ (a b : FlatAttr). nat_eq a.name.0 b.name.0) x.attrs) symbols t.attribute_names k d l);
    rule_names = pairs-tested (λ (x y : FlatRule). nat_eq x.name.0 y.name.0) (λ (x y : FlatRule). x.name ≡ y.name → ⊥) (λ x y h e. names-apart x.name y.name h e) rules t.rule_names;
    each_rule = λ k d l. rule-tested symbols _ (all-of (IsTestedRule symbols) rules t.each_rule k d l);
    each_list = all-of ListsAreRight shapes t.each_list;
    each_plain = all-of PlainOnesAreRight shapes t.each_plain;
    each_shape = t.each_shape;
    numbered_symbols = t.numbers.0;
    numbered_rules = t.numbers.1;
    numbered_occurrences = λ k d l. ltb-true _ _ (all-tested (λ (r : FlatRule). nat_lt (length r.right) (2 ^ 16)) rules t.occurrences k d l);
    few_attributes = λ k d l. leb-true _ _ (all-tested (λ (x : FlatSymbol). nat_le (length x.attrs) 256) symbols t.few_attributes k d l);
    few_occurrences = λ k d l. leb-true _ _ (all-tested (λ (r : FlatRule). nat_le (sum_by (λ s. length (attrs_of symbols s)) (symbols_of r)) 1024) rules t.few_occurrences k d l);
  }

-- a grammar whose parts are those of a well formed one
pub same-well-formed : (symbols of_symbols : List FlatSymbol) (rules of_rules : List FlatRule) (shapes of_shapes : List Shape) (root : SymId) → of_symbols ≡ symbols → of_rules ≡ rules → of_shapes ≡ shapes
    → IsWellFormed symbols rules shapes root → IsWellFormed of_symbols of_rules of_shapes root
same-well-formed symbols of_symbols rules of_rules shapes of_shapes root e f g h =
    subst (λ s. IsWellFormed s of_rules of_shapes root) (sym e) (subst (λ r. IsWellFormed symbols r of_shapes root) (sym f) (subst (λ s. IsWellFormed symbols rules s root) (sym g) h))
