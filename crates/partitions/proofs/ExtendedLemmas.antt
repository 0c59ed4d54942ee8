-- The graph of a rule has the edges of its extended dependencies.
use Rattle.std.specs.Prelude.{Bool, Contains, slice_get, All, ◌↔◌, IsSome, IsTrue, is_some, false, true, ◌||◌, ◌&&◌, ◌==◌}
use Rattle.std.specs.List.{list_any}
use Rattle.std.proofs.Common.{◌≡◌, ℕ, zero, suc, ◌+◌, ◌<◌, ◌≤◌, ◌⊎◌, inl, inr, List, [], ◌∷◌, length, Option, Some, None, get_or, refl, sym, ap, subst, ◌∙◌, arith, eq-eqb}
use Rattle.std.proofs.lemmas.Option.{slice_get-get_or}
use Rattle.lido_base.specs.declared.ids.SymId.{SymId}
use Rattle.lido_base.specs.declared.ids.AttrId.{AttrId}
use Rattle.flat_grammar.specs.declared.flat.Occ.{Occ}
use Rattle.flat_grammar.specs.declared.flat.FlatSymbol.{FlatSymbol}
use Rattle.flat_grammar.specs.declared.flat.FlatAttr.{FlatAttr}
use Rattle.flat_grammar.specs.declared.flat.FlatRule.{FlatRule}
use Rattle.flat_grammar.specs.declared.flat.FlatComp.{FlatComp}
use Rattle.flat_grammar.specs.Rules.{symbol_at, symbols_of, attribute_at, attrs_of, dependencies}
use Rattle.flat_grammar.specs.WellFormed.{attribute_of, is_goal_kind, is_same_occ, IsRule}
use Rattle.flat_grammar.specs.Dependencies.{DP, IDS, AreInducedRows}
use Rattle.flat_grammar.specs.Cycles.{DS}
use Rattle.flat_grammar.proofs.Lists.{held, contains-nil, contains-cons}
use Rattle.flat_grammar.proofs.DependenciesLemmas.{IDS-least}
use Rattle.partitions.specs.Symbols.{rows_at, AreAllLaterRows}
use Rattle.partitions.specs.Graph.{IsEdge}
use Rattle.partitions.specs.RuleGraph.{AreNumbered, IsComing, IsNumberOf, IsComingAt, IsDirectBy, IsExtended, AreExtended}
use Rattle.partitions.proofs.PeelingLemmas.{below-length, get-below, attribute-below, peeled-attribute, attributes-few}
use Rattle.partitions.proofs.SymbolsLemmas.{rows-of}
use Rattle.partitions.proofs.VerticesLemmas.{occ-some, occ-below}
pub use Rattle.std.proofs.lemmas.List.Elements.{All-contains as all-at}

any-true : {X : Type 0} (p : X → Bool) (xs : List X) (x : X) → Contains xs x → p x ≡ true → list_any p xs ≡ true
any-true p [] x m e = absurd (contains-nil x m)
any-true p (y ∷ xs) x m e = go (contains-cons y x xs m) (any-true p xs x)
  where
    either : (a b : Bool) → (a ≡ true) ⊎ (b ≡ true) → (a || b) ≡ true
    either true b h = refl
    either false b (inl h) = absurd (cc)
    either false b (inr h) = h

    go : (y ≡ x) ⊎ Contains xs x → (Contains xs x → p x ≡ true → list_any p xs ≡ true) → list_any p (y ∷ xs) ≡ true
    go (inl same) rest = either (p y) (list_any p xs) (inl (ap p same ∙ e))
    go (inr later) rest = either (p y) (list_any p xs) (inr (rest later e))

same-self : (o : Occ) → is_same_occ o o ≡ true
same-self o = both (o.occ == o.occ) (o.attr.0 == o.attr.0) (eq-eqb o.occ o.occ refl) (eq-eqb o.attr.0 o.attr.0 refl)
  where
    both : (a b : Bool) → a ≡ true → b ≡ true → (a && b) ≡ true
    both true b h e = e
    both false b h e = absurd (cc)

goal-some : (k : ℕ) (o : Option FlatAttr) → is_goal_kind k o ≡ true → IsSome o
goal-some k (Some attr) h = refl
goal-some zero None h = absurd (cc)
goal-some (suc k) None h = absurd (cc)

module _ (symbols : List FlatSymbol) where
  -- what a computation depends on, and its goal, are attribute occurrences of the rule
  pub dependency-some : (r : FlatRule) → IsRule symbols r → (c : FlatComp) (u : Occ) → Contains r.comps c → Contains (dependencies c) u → IsSome (attribute_of symbols r u)
  dependency-some r rule c u m d = all-at (λ o. IsTrue (is_some (attribute_of symbols r o))) (dependencies c) u
      (all-at (λ c. All (λ o. IsTrue (is_some (attribute_of symbols r o))) (dependencies c)) r.comps c rule.dependencies_in_range m) d

  pub computed-some : (r : FlatRule) → IsRule symbols r → (c : FlatComp) → Contains r.comps c → IsSome (attribute_of symbols r c.goal)
  computed-some r rule c m = goal-some c.goal.occ (attribute_of symbols r c.goal) (sym (rule.goals c.goal) ∙ any-true (λ (k : FlatComp). is_same_occ k.goal c.goal) r.comps c m (same-self c.goal))

  -- direct dependencies are between attribute occurrences of the rule
  pub direct-some : (r : FlatRule) (u v : Occ) → IsRule symbols r → DP r u v → IsSome (attribute_of symbols r u) × IsSome (attribute_of symbols r v)
  direct-some r u v rule (c, m, d, e) = (dependency-some r rule c u m d, subst (λ (o : Occ). IsSome (attribute_of symbols r o)) e (computed-some r rule c m))

  at-symbol : (r : FlatRule) (o : Occ) (x : SymId) → symbol_at r o.occ ≡ Some x → attribute_of symbols r o ≡ attribute_at symbols x o.attr
  at-symbol r o x at = ap (λ (s : Option SymId). elim s [ None ↦ None | Some s ↦ attribute_at symbols s o.attr ]) at

  -- induced dependencies are between attributes of the symbol
  pub induced-some : (rules : List FlatRule) (x : SymId) (a b : AttrId) → All (IsRule symbols) rules → IDS rules x a b → IsSome (attribute_at symbols x a) × IsSome (attribute_at symbols x b)
  induced-some rules x a b each p = IDS-least rules (λ r u v. IsSome (attribute_of symbols r u) × IsSome (attribute_of symbols r v)) (λ x a b. IsSome (attribute_at symbols x a) × IsSome (attribute_at symbols x b)) (record {
    direct_edges = λ r u v m d. direct-some r u v (all-at (IsRule symbols) rules r each m) d;
    induced_edges = λ r u v x m same at s. (subst (λ (o : Option FlatAttr). IsSome o) (sym (at-symbol r u x at)) s.0, subst (λ (o : Option FlatAttr). IsSome o) (sym (at-symbol r v x (ap (symbol_at r) (sym same) ∙ at))) s.1);
    transitive = λ r u v w m p q. (p.0, q.1);
    projected = λ r u v x m p same at. (subst (λ (o : Option FlatAttr). IsSome o) (at-symbol r u x at) p.0, subst (λ (o : Option FlatAttr). IsSome o) (at-symbol r v x (ap (symbol_at r) (sym same) ∙ at)) p.1);
  }) p

module _ (symbols : List FlatSymbol) (rules : List FlatRule) (each_rule : All (IsRule symbols) rules) (few_attributes : All (λ (s : FlatSymbol). length s.attrs ≤ 256) symbols)
    (r : FlatRule) (among : Contains rules r) (occs : List Occ) (starts : List ℕ) (numbered : AreNumbered symbols r occs starts) where
  rule : IsRule symbols r
  rule = all-at (IsRule symbols) rules r each_rule among

  pub occ-within : (o : Occ) → IsSome (attribute_of symbols r o) → o.occ < 1 + length r.right
  occ-within o some = go (symbol_at r o.occ) refl some
    where
      go : (s : Option SymId) → symbol_at r o.occ ≡ s → IsSome (elim s [ None ↦ None | Some s ↦ attribute_at symbols s o.attr ]) → o.occ < 1 + length r.right
      go None e h = absurd (cc)
      go (Some s) e h = let l = below-length (symbols_of r) o.occ s e in omega arith

  pub vertex-within : (v : ℕ) (o : Occ) → slice_get occs v ≡ Some o → o.occ < 1 + length r.right
  vertex-within v o at = occ-within o (numbered.vertices.to v o at).1

  pub vertex-attribute : (v : ℕ) (o : Occ) → slice_get occs v ≡ Some o → o.attr.0 < 256
  vertex-attribute v o at =
      let l = vertex-within v o at in
      let got = get-below (symbols_of r) o.occ (omega arith) in
      let b = occ-below symbols r rules o got.0 got.1 (numbered.vertices.to v o at).1 in
      let f = attributes-few symbols got.0 few_attributes in omega arith

  -- an attribute occurrence of the rule is the vertex with its number
  pub number-some : (o : Occ) → IsSome (attribute_of symbols r o) → (n : ℕ) × IsNumberOf starts o n × (slice_get occs n ≡ Some o)
  number-some o some = let l = occ-within o some in let h = numbered.vertices.from o (inl (omega arith)) some in (h.0 + o.attr.0, (h.0, h.1, refl), h.2)

  pub number-vertex : (o : Occ) (n : ℕ) → IsSome (attribute_of symbols r o) → IsNumberOf starts o n → slice_get occs n ≡ Some o
  number-vertex o n some (start, at, e) =
      let h = number-some o some in
      let same : start ≡ h.1.0 = held (sym at ∙ h.1.1) in
      let f = h.1.2 in
      let number : n ≡ h.0 = omega arith in
      ap (λ k. slice_get occs k) number ∙ h.2

  -- what a computation depends on, and its goal, are vertices
  pub dependency-within : (c : FlatComp) (o : Occ) → Contains r.comps c → Contains (dependencies c) o → o.occ < length starts
  dependency-within c o m d = let l = occ-within o (dependency-some symbols r rule c o m d) in let n = numbered.each in omega arith

  pub goal-within : (c : FlatComp) → Contains r.comps c → c.goal.occ < length starts
  goal-within c m = let l = occ-within c.goal (computed-some symbols r rule c m) in let n = numbered.each in omega arith

  pub goal-vertex : (c : FlatComp) (v : ℕ) → Contains r.comps c → IsNumberOf starts c.goal v → v < length occs
  goal-vertex c v m n = below-length occs v c.goal (number-vertex c.goal v (computed-some symbols r rule c m) n)

  -- the computations lead from vertex to vertex as the direct dependencies do
  pub by-computation : (u v : ℕ) → IsDirectBy starts r.comps u v → (o : Occ) × (p : Occ) × (slice_get occs u ≡ Some o) × (slice_get occs v ≡ Some p) × DP r o p
  by-computation u v (c, m, (o, d, (from, to))) = (
    o,
    c.goal,
    number-vertex o u (dependency-some symbols r rule c o m d) from,
    number-vertex c.goal v (computed-some symbols r rule c m) to,
    (c, m, d, refl),
  )

  pub to-computation : (o p : Occ) → DP r o p → (u : ℕ) × (v : ℕ) × IsNumberOf starts o u × IsNumberOf starts p v × (slice_get occs u ≡ Some o) × (slice_get occs v ≡ Some p) × IsDirectBy starts r.comps u v
  to-computation o p (c, m, d, e) =
      let from = number-some o (dependency-some symbols r rule c o m d) in
      let to = number-some p (subst (λ (z : Occ). IsSome (attribute_of symbols r z)) e (computed-some symbols r rule c m)) in
      (from.0, to.0, from.1, to.1, from.2, to.2, (c, m, (o, d, (from.1, subst (λ (z : Occ). IsNumberOf starts z to.0) (sym e) to.1))))

  pub direct-is : (u v : ℕ) (o p : Occ) → slice_get occs u ≡ Some o → slice_get occs v ≡ Some p → IsDirectBy starts r.comps u v ↔ DP r o p
  direct-is u v o p at_u at_v = (
    (λ h. let g = by-computation u v h in subst (λ (z : Occ). DP r z p) (held (sym g.2 ∙ at_u)) (subst (λ (z : Occ). DP r g.0 z) (held (sym g.3 ∙ at_v)) g.4)),
    (λ d. let g = to-computation o p d in
        subst (λ n. IsDirectBy starts r.comps n v) (numbered.vertices.apart g.0 u o g.4 at_u) (subst (λ n. IsDirectBy starts r.comps g.0 n) (numbered.vertices.apart g.1 v p g.5 at_v) g.6)),
  )

module _ (symbols : List FlatSymbol) (rules : List FlatRule) (ids later : List (List ℕ)) (are_ids : AreInducedRows symbols rules ids) (are_later : AreAllLaterRows symbols rules later)
    (each_rule : All (IsRule symbols) rules) (few_attributes : All (λ (s : FlatSymbol). length s.attrs ≤ 256) symbols) where
  pub same-lengths : (x : SymId) → length (rows_at ids x.0) ≡ length (rows_at later x.0)
  same-lengths x = let a = (rows-of symbols rules ids x are_ids).each in let b = (are_later x).each in omega arith

  pub few-rows : (x : SymId) → length (rows_at ids x.0) ≤ 256
  few-rows x = let a = (rows-of symbols rules ids x are_ids).each in let b = attributes-few symbols x few_attributes in omega arith

  -- the dependencies of a symbol are between its attributes
  pub symbol-some : (x : SymId) (a b : AttrId) → DS symbols rules x a b → IsSome (attribute_at symbols x a) × IsSome (attribute_at symbols x b)
  symbol-some x a b (inl p) = induced-some symbols rules x a b each_rule p
  symbol-some x a b (inr (some, k, p, n)) = (some, peeled-attribute symbols rules x k b p)

  coming-symbol : (x : SymId) (a b : AttrId) → IsComing (rows_at ids x.0) (rows_at later x.0) a.0 b.0 → DS symbols rules x a b
  coming-symbol x a b (inl (row, at, bit)) = inl (((rows-of symbols rules ids x are_ids).bits a b row at).0 bit)
  coming-symbol x a b (inr (row, at, bit)) = inr (((are_later x).bits a b row at).0 bit)

  symbol-coming : (x : SymId) (a b : AttrId) → DS symbols rules x a b → IsComing (rows_at ids x.0) (rows_at later x.0) a.0 b.0
  symbol-coming x a b d = go d (attribute-below symbols rules x a (symbol-some x a b d).0)
    where
      go : DS symbols rules x a b → a.0 < length (attrs_of symbols x) → IsComing (rows_at ids x.0) (rows_at later x.0) a.0 b.0
      go (inl p) l = let r = rows-of symbols rules ids x are_ids in let e = r.each in let got = get-below (rows_at ids x.0) a.0 (omega arith) in inl (got.0, got.1, (r.bits a b got.0 got.1).1 p)
      go (inr p) l = let r = are_later x in let e = r.each in let got = get-below (rows_at later x.0) a.0 (omega arith) in inr (got.0, got.1, (r.bits a b got.0 got.1).1 p)

  module _ (r : FlatRule) (among : Contains rules r) (occs : List Occ) (starts : List ℕ) (numbered : AreNumbered symbols r occs starts) where
    module _ (old preds : List (List ℕ)) (count : length preds ≡ length occs) (by_symbols : (u v : ℕ) → IsEdge old u v ↔ ((o : Occ) × (slice_get occs v ≡ Some o) × IsComingAt r ids later starts o u))
        (added : (u v : ℕ) → IsEdge preds u v ↔ (IsEdge old u v ⊎ IsDirectBy starts r.comps u v)) where
      pub extended-graph : AreExtended symbols rules r occs starts preds
      extended-graph = record {
        count = count;
        to = λ u v edge. elim ((added u v).0 edge) [ inl first ↦ by_symbol u v ((by_symbols u v).0 first) | inr d ↦ by_rule u v d ];
        from = λ o p e. back o p e;
      }
        where
          by_symbol : (u v : ℕ) → (o : Occ) × (slice_get occs v ≡ Some o) × IsComingAt r ids later starts o u → (o : Occ) × (p : Occ) × (slice_get occs u ≡ Some o) × (slice_get occs v ≡ Some p) × IsExtended symbols rules r o p
          by_symbol u v (p, at_v, (x, at, start, started, a, n, c)) =
              let o : Occ = record { occ = p.occ; attr = record { 0 = a } } in
              let d = coming-symbol x o.attr p.attr c in
              let below = attribute-below symbols rules x o.attr (symbol-some x o.attr p.attr d).0 in
              (o, p, number-vertex symbols rules each_rule few_attributes r among occs starts numbered o u (occ-some symbols r rules o x at below) (start, started, n), at_v, inr (refl, x, at, d))

          by_rule : (u v : ℕ) → IsDirectBy starts r.comps u v → (o : Occ) × (p : Occ) × (slice_get occs u ≡ Some o) × (slice_get occs v ≡ Some p) × IsExtended symbols rules r o p
          by_rule u v d = let g = by-computation symbols rules each_rule few_attributes r among occs starts numbered u v d in (g.0, g.1, g.2, g.3, inl g.4)

          back : (o p : Occ) → IsExtended symbols rules r o p → (u : ℕ) × (v : ℕ) × IsNumberOf starts o u × IsNumberOf starts p v × (v < length occs) × IsEdge preds u v
          back o p (inl d) = let g = to-computation symbols rules each_rule few_attributes r among occs starts numbered o p d in (g.0, g.1, g.2, g.3, below-length occs g.1 p g.5, (added g.0 g.1).1 (inr g.6))
          back o p (inr (same, x, at, d)) =
              let s = symbol-some x o.attr p.attr d in
              let at_p : symbol_at r p.occ ≡ Some x = ap (symbol_at r) (sym same) ∙ at in
              let m = number-some symbols rules each_rule few_attributes r among occs starts numbered o (occ-some symbols r rules o x at (attribute-below symbols rules x o.attr s.0)) in
              let n = number-some symbols rules each_rule few_attributes r among occs starts numbered p (occ-some symbols r rules p x at_p (attribute-below symbols rules x p.attr s.1)) in
              (m.0, n.0, m.1, n.1, below-length occs n.0 p n.2, (added m.0 n.0).1 (inl ((by_symbols m.0 n.0).1 (p, n.2, (x, at_p, m.1.0, (ap (λ k. slice_get starts k) (sym same) ∙ m.1.1), o.attr.0, m.1.2, symbol-coming x o.attr p.attr d)))))

-- the rule at a place
pub rule-at : (rules items : List FlatRule) (i : ℕ) (r : FlatRule) → items ≡ rules → i < length rules → r ≡ get_or items i r → slice_get rules i ≡ Some r
rule-at rules items i r e l is = slice_get-get_or rules i r l ∙ ap Some (sym (is ∙ ap (λ (xs : List FlatRule). get_or xs i r) e))
