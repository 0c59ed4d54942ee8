-- A flat grammar is well formed: its numbers are in range, and each rule computes what it has to.
-- Each fact is an order, an equation or a test, so that the grammar's own type can keep it.
use Rattle.std.specs.Prelude.{◌≡◌, ℕ, zero, suc, ◌<◌, ◌≤◌, ◌^◌, ◌==◌, Bool, true, false, not, ◌&&◌, IsTrue, List, [], ◌∷◌, ◌++◌, map, length, sum_by, Option, Some, None, option_and_then, slice_get, slice_index_or, if◌then◌else◌, All, AllPairs, filter, is_some}
use Rattle.std.specs.List.{list_any}
use Rattle.lido_base.specs.declared.ids.SymId.{SymId}
use Rattle.lido_base.specs.declared.kinds.Kind.{Kind}
use Rattle.lido_base.specs.declared.kinds.Kind.TheVariants.{Synthesized, Inherited}
use Rattle.flat_grammar.specs.declared.flat.Occ.{Occ}
use Rattle.flat_grammar.specs.declared.flat.FlatSymbol.{FlatSymbol}
use Rattle.flat_grammar.specs.declared.flat.FlatAttr.{FlatAttr}
use Rattle.flat_grammar.specs.declared.flat.FlatRule.{FlatRule}
use Rattle.flat_grammar.specs.declared.flat.Shape.{Shape}
use Rattle.flat_grammar.specs.Rules.{symbols_of, symbol_at, attribute_at, attrs_of, dependencies, terminals_of}

-- the two are one symbol
abbrev pub is_same_symbol : SymId → SymId → Bool
is_same_symbol s q = s.0 == q.0

-- the different symbols of a list, at their first places
abbrev pub different : List SymId → List SymId
different [] = []
different (s ∷ more) = s ∷ filter (λ q. not (is_same_symbol s q)) (different more)

-- the two are one attribute occurrence
abbrev pub is_same_occ : Occ → Occ → Bool
is_same_occ o p = (o.occ == p.occ) && (o.attr.0 == p.attr.0)

-- the kind is synthesized
abbrev pub is_synthesized : Kind → Bool
is_synthesized Synthesized = true
is_synthesized Inherited = false

-- the symbol is there and is no terminal
abbrev pub is_nonterminal_symbol : Option FlatSymbol → Bool
is_nonterminal_symbol None = false
is_nonterminal_symbol (Some x) = not (is_some x.terminal)

-- a rule computes this kind at its left side, the other at its right side
abbrev pub is_goal_kind : ℕ → Option FlatAttr → Bool
is_goal_kind k None = false
is_goal_kind zero (Some attr) = is_synthesized attr.kind
is_goal_kind (suc k) (Some attr) = not (is_synthesized attr.kind)

module _ (symbols : List FlatSymbol) where
  -- the number is that of a nonterminal
  abbrev pub is_nonterminal : SymId → Bool
  is_nonterminal s = is_nonterminal_symbol (slice_get symbols s.0)

  -- the attribute that stands at an occurrence of a rule
  abbrev pub attribute_of : FlatRule → Occ → Option FlatAttr
  attribute_of r o = elim (symbol_at r o.occ) [ None ↦ None | Some s ↦ attribute_at symbols s o.attr ]

  -- a synthesized attribute of the left side, or an inherited one of the right side
  abbrev pub is_goal : FlatRule → Occ → Bool
  is_goal r o = is_goal_kind o.occ (attribute_of r o)

  -- a terminal stands at the occurrence
  abbrev pub is_terminal_at : FlatRule → ℕ → Bool
  is_terminal_at r k = is_some (option_and_then (λ (x : FlatSymbol). x.terminal) (option_and_then (λ (s : SymId). slice_get symbols s.0) (symbol_at r k)))

  -- Its numbers are in range, and it computes each of its goals once and nothing else.
  pub record IsRule (r : FlatRule) : Type 0 where
    pub left_side : IsTrue (is_nonterminal r.left)
    pub right_side : All (λ s. s.0 < length symbols) r.right
    pub goals : (o : Occ) → list_any (λ c. is_same_occ c.goal o) r.comps ≡ is_goal r o
    pub once : AllPairs (λ c d. c.goal ≡ d.goal → ⊥) r.comps
    pub dependencies_in_range : All (λ c. All (λ o. IsTrue (is_some (attribute_of r o))) (dependencies c)) r.comps
    pub terminals : All (λ c. All (λ k. IsTrue (is_terminal_at r k)) (terminals_of c.value)) r.comps
    pub origins : All (λ c. IsTrue (is_nonterminal_symbol (elim (symbol_at r c.origin) [ None ↦ None | Some s ↦ slice_get symbols s.0 ]))) r.comps

-- the places of the rules that pass the test
abbrev pub positions_from : (FlatRule → Bool) → ℕ → List FlatRule → List ℕ
positions_from p k [] = []
positions_from p k (r ∷ more) = if p r then k ∷ positions_from p (suc k) more else positions_from p (suc k) more

-- the places, from 0, of the rules that pass the test
abbrev pub positions_of : (FlatRule → Bool) → List FlatRule → List ℕ
positions_of p rules = positions_from p 0 rules

module _ (rules : List FlatRule) where
  -- the right sides of a symbol's rules, in order
  abbrev pub right_sides : SymId → List (List SymId)
  right_sides s = map (λ r. r.right) (filter (λ r. is_same_symbol r.left s) rules)

  -- the right side of a shape's rule
  abbrev pub right_side : Shape → List SymId
  right_side shape = elim (slice_get rules shape.rule.0) [ None ↦ [] | Some r ↦ r.right ]

  -- the symbol that a list's rule leads to
  abbrev pub cell_of : Shape → SymId
  cell_of shape = slice_index_or (right_side shape) 0 (record { 0 = 0 })

module _ (symbols : List FlatSymbol) (rules : List FlatRule) where
  -- The list's rule is the only one but the cell's own that has the cell, and has nothing else on its right side. The cell has
  -- one rule for each different symbol of the list, a nonterminal other than the cell, and the end rule.
  pub record IsListShape (shape : Shape) (cell : SymId) : Type 0 where
    pub leads : right_side rules shape ≡ cell ∷ []
    pub elements : All (λ s. IsTrue (is_nonterminal symbols s && not (is_same_symbol s cell))) shape.right
    pub cells : right_sides rules cell ≡ map (λ s. s ∷ cell ∷ []) (different shape.right) ++ [] ∷ []
    pub used_once : positions_of (λ r. list_any (is_same_symbol cell) r.right && not (is_same_symbol r.left cell)) rules ≡ shape.rule.0 ∷ []

-- A flat grammar is well formed. Its computations stay in their rules, its lists are chains of cells, names differ, and
-- numbers are in range: those of its own parts, and each symbol, rule and occurrence has one of 16 bits.
pub record IsWellFormed (symbols : List FlatSymbol) (rules : List FlatRule) (shapes : List Shape) (root : SymId) : Type 0 where
  pub root_symbol : IsTrue (is_nonterminal symbols root)
  pub terminals_bare : All (λ x. IsTrue (is_some x.terminal) → x.attrs ≡ []) symbols
  pub symbol_names : AllPairs (λ x y. x.name ≡ y.name → ⊥) symbols
  pub attribute_names : All (λ x. AllPairs (λ a b. a.name ≡ b.name → ⊥) x.attrs) symbols
  pub rule_names : AllPairs (λ r q. r.name ≡ q.name → ⊥) rules
  pub each_rule : All (IsRule symbols) rules
  pub each_list : All (λ shape. IsTrue shape.list → IsListShape symbols rules shape (cell_of rules shape)) shapes
  pub each_plain : All (λ shape. shape.list ≡ false → shape.right ≡ right_side rules shape) shapes
  pub each_shape : map (λ shape. shape.rule.0) shapes ≡ positions_of (λ r. not (list_any (λ shape. shape.list && is_same_symbol r.left (cell_of rules shape)) shapes)) rules
  pub numbered_symbols : length symbols ≤ 2 ^ 16
  pub numbered_rules : length rules ≤ 2 ^ 16
  pub numbered_occurrences : All (λ r. length r.right < 2 ^ 16) rules
  pub few_attributes : All (λ x. length x.attrs ≤ 256) symbols
  pub few_occurrences : All (λ r. sum_by (λ s. length (attrs_of symbols s)) (symbols_of r) ≤ 1024) rules
