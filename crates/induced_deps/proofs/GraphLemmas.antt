-- The vertices of a rule by its places, and the edges of a rule as paths of its induced dependencies.
use Rattle.std.specs.Prelude.{sum_by, take, slice_index_or, slice_get, Contains, All, IsTrue, is_some, option_and_then, ◌==◌}
use Rattle.std.specs.List.{list_any}
use Rattle.std.proofs.Common.{◌≡◌, ℕ, zero, suc, ◌+◌, ◌<◌, ◌≤◌, inl, inr, refl, sym, ap, subst, ◌∙◌, arith, List, [], ◌∷◌, length, Option, Some, None, true, true≢false}
use Rattle.std.proofs.lemmas.Bool.{cases_order, and_from, or_left, or_right, eq-eqb}
use Rattle.std.proofs.lemmas.Option.{get_or_from_slice_get, slice_get-get_or, slice_get_within}
use Rattle.std.proofs.lemmas.List.Sums.{sum_by-cons}
use Rattle.std.proofs.lemmas.List.Elements.{All-contains}
use Rattle.lido_base.specs.declared.ids.SymId.{SymId}
use Rattle.flat_grammar.specs.declared.flat.Occ.{Occ}
use Rattle.flat_grammar.specs.declared.flat.FlatAttr.{FlatAttr}
use Rattle.flat_grammar.specs.declared.flat.FlatComp.{FlatComp}
use Rattle.flat_grammar.specs.declared.flat.FlatSymbol.{FlatSymbol}
use Rattle.flat_grammar.specs.declared.flat.FlatRule.{FlatRule}
use Rattle.flat_grammar.specs.Rules.{symbols_of, symbol_at, attribute_at, attrs_of, dependencies}
use Rattle.flat_grammar.specs.WellFormed.{IsRule, is_goal_kind, is_same_occ, attribute_of}
use Rattle.flat_grammar.specs.Dependencies.{DP, Joins, direct, edge, further}
use Rattle.flat_grammar.proofs.Lists.{held, contains-nil, contains-cons}
use Rattle.induced_deps.specs.declared.row.Row.{Row}
use Rattle.induced_deps.specs.declared.graph.Place.{Place}
use Rattle.induced_deps.specs.Rows.{Has, Gains, IsTransitive}
use Rattle.induced_deps.specs.Vertices.{width, offset, vertices, number, no_place, IsVertex, IsPlace, ArePlaces, IsPlaced, AreWithin, number_in, OfComps, HasPlaces}
use Rattle.induced_deps.specs.Graphs.{IsJoined, IsGraph}
use Rattle.induced_deps.proofs.ClosureLemmas.{follows_within}
use Rattle.induced_deps.proofs.VertexLemmas.{offset_next, offset_most}

module _ (symbols : List FlatSymbol) (r : FlatRule) where
  -- what an attribute occurrence names is a vertex
  pub vertex_of : (o : Occ) → IsTrue (is_some (attribute_of symbols r o)) → IsVertex symbols r o
  vertex_of o h = go (symbol_at r o.occ) refl h
    where
      of_symbol : (s : SymId) → symbol_at r o.occ ≡ Some s → (x : Option FlatSymbol) → slice_get symbols s.0 ≡ x → IsTrue (is_some (option_and_then (λ (y : FlatSymbol). slice_get y.attrs o.attr.0) x)) → IsVertex symbols r o
      of_symbol s at None none h = absurd (true≢false (sym h))
      of_symbol s at (Some x) some h = record { symbol = s; at = at; within = subst (λ (l : List FlatAttr). o.attr.0 < length l) (sym (attrs-are s x some)) (there (slice_get x.attrs o.attr.0) refl h) }
        where
          attrs-are : (s : SymId) (x : FlatSymbol) → slice_get symbols s.0 ≡ Some x → attrs_of symbols s ≡ x.attrs
          attrs-are s x e = ap (λ (y : Option FlatSymbol). elim y as (λ _. List FlatAttr) [ None ↦ [] | Some z ↦ z.attrs ]) e

          there : (a : Option FlatAttr) → slice_get x.attrs o.attr.0 ≡ a → IsTrue (is_some a) → o.attr.0 < length x.attrs
          there None e h = absurd (true≢false (sym h))
          there (Some a) e h = slice_get_within x.attrs o.attr.0 a e

      go : (s : Option SymId) → symbol_at r o.occ ≡ s → IsTrue (is_some (elim s as (λ _. Option FlatAttr) [ None ↦ None | Some q ↦ attribute_at symbols q o.attr ])) → IsVertex symbols r o
      go None at h = absurd (true≢false (sym h))
      go (Some s) at h = of_symbol s at (slice_get symbols s.0) refl h

  same_itself : (o : Occ) → is_same_occ o o ≡ true
  same_itself o = and_from (o.occ == o.occ) (o.attr.0 == o.attr.0) (eq-eqb o.occ o.occ refl) (eq-eqb o.attr.0 o.attr.0 refl)

  has_goal : (comps : List FlatComp) (c : FlatComp) → Contains comps c → list_any (λ (d : FlatComp). is_same_occ d.goal c.goal) comps ≡ true
  has_goal [] c among = absurd (contains-nil c among)
  has_goal (d ∷ comps) c among = elim (contains-cons d c comps among) [
    | inl same ↦ or_left (is_same_occ d.goal c.goal) (list_any (λ (e : FlatComp). is_same_occ e.goal c.goal) comps) (ap (λ (e : FlatComp). is_same_occ e.goal c.goal) same ∙ same_itself c.goal)
    | inr later ↦ or_right (is_same_occ d.goal c.goal) (list_any (λ (e : FlatComp). is_same_occ e.goal c.goal) comps) (has_goal comps c later)
  ]

  some_goal : (k : ℕ) (attr : Option FlatAttr) → is_goal_kind k attr ≡ true → IsTrue (is_some attr)
  some_goal zero None h = h
  some_goal (suc k) None h = h
  some_goal zero (Some attr) h = refl
  some_goal (suc k) (Some attr) h = refl

  -- a computation's goal and what it depends on are vertices
  pub comp_vertices : IsRule symbols r → (c : FlatComp) → Contains r.comps c → IsVertex symbols r c.goal × ((u : Occ) → Contains (dependencies c) u → IsVertex symbols r u)
  comp_vertices rule c among = (
    vertex_of c.goal (some_goal c.goal.occ (attribute_of symbols r c.goal) (sym (rule.goals c.goal) ∙ has_goal r.comps c among)),
    λ u h. vertex_of u (All-contains (λ o. IsTrue (is_some (attribute_of symbols r o))) (dependencies c) u (All-contains (λ (d : FlatComp). All (λ o. IsTrue (is_some (attribute_of symbols r o))) (dependencies d)) r.comps c rule.dependencies_in_range among) h),
  )

  above : (k : ℕ) (j : ℕ) → k ≤ j → offset symbols r k ≤ offset symbols r j
  above k j h = sum_takes (width symbols) (symbols_of r) k j h
    where
      sum_takes : {X : Type 0} (f : X → ℕ) (xs : List X) (k j : ℕ) → k ≤ j → sum_by f (take k xs) ≤ sum_by f (take j xs)
      sum_takes f [] zero zero h = omega arith
      sum_takes f [] zero (suc j) h = omega arith
      sum_takes f [] (suc k) zero h = absurd (omega arith)
      sum_takes f [] (suc k) (suc j) h = omega arith
      sum_takes f (x ∷ xs) zero j h = omega arith
      sum_takes f (x ∷ xs) (suc k) zero h = absurd (omega arith)
      sum_takes f (x ∷ xs) (suc k) (suc j) h = let rest = sum_takes f xs k j (omega arith) in let one = sum_by-cons f x (take k xs) in let other = sum_by-cons f x (take j xs) in omega arith

  before : (u t : Occ) → IsVertex symbols r u → IsVertex symbols r t → u.occ < t.occ → number symbols r u < number symbols r t
  before u t p q h = let next = offset_next symbols r u.occ p.symbol p.at in let most = above (suc u.occ) t.occ (omega arith) in let inside = p.within in omega arith

  -- a number is that of one vertex
  pub one_vertex : (u t : Occ) → IsVertex symbols r u → IsVertex symbols r t → number symbols r u ≡ number symbols r t → u ≡ t
  one_vertex u t p q same = elim (cases_order u.occ t.occ) [
    | inl e ↦ (let start = ap (offset symbols r) e in let attr : u.attr.0 ≡ t.attr.0 = omega arith in λ i. record { occ = e i; attr = record { 0 = attr i } })
    | inr other ↦ elim other [ inl less ↦ (let h = before u t p q less in absurd (omega arith)) | inr more ↦ (let h = before t u q p more in absurd (omega arith)) ]
  ]

  module _ (places : List Place) (are : ArePlaces symbols r places) where
    place_here : (k : ℕ) (s : SymId) → symbol_at r k ≡ Some s → (p : Place) × (slice_get places k ≡ Some p) × IsPlace symbols r k p × (p.symbol ≡ s)
    place_here k s at =
        let inside = slice_get_within (symbols_of r) k s at in
        let count = are.count in
        let found = slice_get-get_or places k no_place (omega arith) in
        let is = are.each k (slice_index_or places k no_place) found in
        (slice_index_or places k no_place, found, is, held (sym is.symbol ∙ at))

    pub within_all : AreWithin places (vertices symbols r)
    within_all k d inside =
        let p : Place = slice_index_or places k d in
        let is = are.each k p (slice_get-get_or places k d inside) in
        let next = offset_next symbols r k p.symbol is.symbol in
        let most = offset_most symbols r (suc k) in
        let start = is.offset_is in
        let wide = is.width_is in
        omega arith

    pub placed : (o : Occ) → IsVertex symbols r o → IsPlaced places o
    placed o v = let (p, found, is, same) = place_here o.occ v.symbol v.at in
        record { place = p; at = found; within = (let inside = v.within in let wide = is.width_is ∙ ap (width symbols) same in omega arith) }

    pub number_same : (o : Occ) → IsVertex symbols r o → number_in places o ≡ number symbols r o
    number_same o v = let (p, found, is, same) = place_here o.occ v.symbol v.at in
        ap (λ (q : Place). q.offset + o.attr.0) (get_or_from_slice_get places o.occ p no_place found) ∙ ap (λ n. n + o.attr.0) is.offset_is

    pub comp_placed : IsRule symbols r → (c : FlatComp) → Contains r.comps c → HasPlaces places c
    comp_placed rule c among = let (goal, before) = comp_vertices rule c among in (placed c.goal goal, λ u h. placed u (before u h))

module _ (symbols : List FlatSymbol) (rules : List FlatRule) (r : FlatRule) where
  joins_on : (u v w : Occ) → Joins rules r u v → Joins rules r v w → Joins rules r u w
  joins_on u v w (edge e) more = further e more
  joins_on u v w (further {v = x} e rest) more = further e (joins_on x v w rest more)

  pub joined_on : (u v w : ℕ) → IsJoined symbols rules r u v → IsJoined symbols rules r v w → IsJoined symbols rules r u w
  joined_on u v w p q = let same = one_vertex symbols r p.last q.first p.is_last q.is_first (sym p.to ∙ q.from) in record {
    first = p.first;
    last = q.last;
    is_first = p.is_first;
    is_last = q.is_last;
    from = p.from;
    to = q.to;
    path = joins_on p.first p.last q.last p.path (subst (λ o. Joins rules r o q.last) (sym same) q.path);
  }

  -- the edges that the computations give
  pub graph_made : (places : List Place) (old new : List Row) → Contains rules r → IsRule symbols r → vertices symbols r ≤ 1024 → ArePlaces symbols r places → ((v w : ℕ) → Has old v w → ⊥) → length new ≡ vertices symbols r → IsTransitive new
      → Gains old new (OfComps places r.comps) → IsGraph symbols rules r places new
  graph_made places old new among rule few are none size transitive gains = record {
    among = among;
    few = few;
    places_are = are;
    size = size;
    transitive = transitive;
    sound = λ v w h. follows_within old (OfComps places r.comps) (IsJoined symbols rules r) joined_on (λ x y e. absurd (none x y e)) of_comps v w (gains.follow v w h);
    direct = λ u t dp. from_direct u t dp;
  }
    where
      of_comps : (v w : ℕ) → OfComps places r.comps v w → IsJoined symbols rules r v w
      of_comps v w (c, in_rule, (u, depends, from, to)) =
          let (goal, before) = comp_vertices symbols r rule c in_rule in
          record {
            first = u;
            last = c.goal;
            is_first = before u depends;
            is_last = goal;
            from = from ∙ number_same symbols r places are u (before u depends);
            to = to ∙ number_same symbols r places are c.goal goal;
            path = edge (direct (c, in_rule, depends, refl));
          }

      from_direct : (u t : Occ) → DP r u t → Has new (number symbols r u) (number symbols r t)
      from_direct u t (c, in_rule, depends, goal_is) =
          let (goal, before) = comp_vertices symbols r rule c in_rule in
          gains.added (number symbols r u) (number symbols r t) (c, in_rule, (u, depends, sym (number_same symbols r places are u (before u depends)), sym (ap (number symbols r) goal_is) ∙ sym (number_same symbols r places are c.goal goal)))
