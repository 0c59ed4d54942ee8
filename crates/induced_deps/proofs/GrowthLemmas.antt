-- The rows of the symbols and the edges of the rules grow soundly, and once they have all of each other's they are the least.
use Rattle.std.specs.Prelude.{take, slice_index_or, slice_get, slice_set, Contains, All, IsTrue, IsBitSet, option_map}
use Rattle.std.proofs.Common.{◌≡◌, ◌≢◌, ℕ, zero, suc, ◌+◌, ◌<◌, ◌≤◌, ◌⊎◌, inl, inr, refl, sym, ap, subst, ◌∙◌, arith, List, [], ◌∷◌, ◌++◌, length, map, Option, Some, None, true≢false}
use Rattle.std.proofs.lemmas.Bool.{cases_lt, cases_order}
use Rattle.std.proofs.lemmas.Option.{get_or_from_slice_get, slice_get-get_or, slice_get_within, slice_get-map}
use Rattle.std.proofs.lemmas.List.{map-append, length-map, length-set, length-append, get_or_past, get_or-set_same, get_or-set_other, get_or_append_left}
use Rattle.std.proofs.Math.Seq.{get_or-append_seam}
use Rattle.std.proofs.Math.ListN.{get_or-map}
use Rattle.std.proofs.lemmas.List.Elements.{All-contains}
use Rattle.lido_base.specs.declared.ids.SymId.{SymId}
use Rattle.lido_base.specs.declared.ids.AttrId.{AttrId}
use Rattle.flat_grammar.specs.declared.flat.Occ.{Occ}
use Rattle.flat_grammar.specs.declared.flat.FlatAttr.{FlatAttr}
use Rattle.flat_grammar.specs.declared.flat.FlatSymbol.{FlatSymbol}
use Rattle.flat_grammar.specs.declared.flat.FlatRule.{FlatRule}
use Rattle.flat_grammar.specs.Rules.{symbols_of, symbol_at, attrs_of}
use Rattle.flat_grammar.specs.WellFormed.{IsRule, is_nonterminal, is_nonterminal_symbol}
use Rattle.flat_grammar.specs.Dependencies.{IDS, Joins, IsClosed, AreInducedRows, edge, induced, joined}
use Rattle.flat_grammar.proofs.Lists.{held, contains-slice_get, slice_get-contains, next_take}
use Rattle.flat_grammar.proofs.DependenciesLemmas.{IDS-least}
use Rattle.flat_grammar.proofs.BitsLemmas.{empty-set}
use Rattle.induced_deps.specs.declared.row.Row.{Row}
use Rattle.induced_deps.specs.declared.graph.Place.{Place}
use Rattle.induced_deps.specs.declared.growth.Graph.{Graph}
use Rattle.induced_deps.specs.Rows.{Has, Gains, IsTransitive}
use Rattle.induced_deps.specs.Vertices.{width, offset, number, IsVertex, IsPlace, ArePlaces}
use Rattle.induced_deps.specs.Rounds.{IsBit, rows_of, OfPlaces, IsProjected, HasRow}
use Rattle.induced_deps.specs.Graphs.{IsJoined, IsGraph, AreGraphs, AreSoundRows, HaveRows, AreSettled}
use Rattle.induced_deps.proofs.RowLemmas.{equal_or_not}
use Rattle.induced_deps.proofs.VertexLemmas.{at_push}
use Rattle.induced_deps.proofs.ClosureLemmas.{follows_within}
use Rattle.induced_deps.proofs.GraphLemmas.{one_vertex, joined_on, comp_vertices}

some_at : {X : Type 0} (xs : List X) (k : ℕ) → k < length xs → (x : X) × (slice_get xs k ≡ Some x)
some_at [] k h = absurd (omega arith)
some_at (x ∷ xs) zero h = (x, refl)
some_at (x ∷ xs) (suc k) h = some_at xs k (omega arith)

other_graph : (graphs : List Graph) (k : ℕ) (g : Graph) (j : ℕ) (q : Graph) → j ≢ k → slice_get (slice_set graphs k g) j ≡ Some q → slice_get graphs j ≡ Some q
other_graph graphs k g j q other found =
    let inside = slice_get_within (slice_set graphs k g) j q found in
    let size = length-set graphs k g in
    slice_get-get_or graphs j q (omega arith) ∙ ap Some (sym (get_or-set_other graphs k j g q other) ∙ get_or_from_slice_get (slice_set graphs k g) j q q found)

module _ (symbols : List FlatSymbol) (rules : List FlatRule) where
  module _ (r : FlatRule) (places : List Place) (are : ArePlaces symbols r places) where
    place_number : (p : Place) → Contains places p → (k : ℕ) × IsPlace symbols r k p
    place_number p among = let (k, at) = slice_get-contains places p among in (k, are.each k p at)

  -- the edges by sound rows are paths of induced dependencies
  module _ (r : FlatRule) (places : List Place) (ids : List (List ℕ)) (are : ArePlaces symbols r places) (sound : AreSoundRows symbols rules ids) where
    of_places : (v w : ℕ) → OfPlaces ids places v w → IsJoined symbols rules r v w
    of_places v w (p, among, (a, below, from, (b, inside, bit, to))) =
        let (k, is) = place_number r places are p among in
        let wide = is.width_is in
        record {
          first = record { occ = k; attr = record { 0 = a } };
          last = record { occ = k; attr = record { 0 = b } };
          is_first = record { symbol = p.symbol; at = is.symbol; within = omega arith };
          is_last = record { symbol = p.symbol; at = is.symbol; within = omega arith };
          from = from ∙ ap (λ n. n + a) is.offset_is;
          to = to ∙ ap (λ n. n + b) is.offset_is;
          path = edge (induced refl is.symbol (sound p.symbol.0 a b bit).0);
        }

    pub graph_grows : (old new : List Row) → IsGraph symbols rules r places old → length new ≡ length old → IsTransitive new → Gains old new (OfPlaces ids places) → IsGraph symbols rules r places new
    graph_grows old new g size transitive gains = record {
      among = g.among;
      few = g.few;
      places_are = g.places_are;
      size = size ∙ g.size;
      transitive = transitive;
      sound = λ v w h. follows_within old (OfPlaces ids places) (IsJoined symbols rules r) (joined_on symbols rules r) g.sound of_places v w (gains.follow v w h);
      direct = λ u t dp. gains.kept (number symbols r u) (number symbols r t) (g.direct u t dp);
    }

  module _ (r : FlatRule) (places : List Place) (edges : List Row) (g : IsGraph symbols rules r places edges) where
    projected_sound : (x a b : ℕ) → IsProjected places edges x a b → IDS rules (record { 0 = x }) (record { 0 = a }) (record { 0 = b }) × (a < width symbols (record { 0 = x })) × (b < width symbols (record { 0 = x }))
    projected_sound x a b (p, among, at) = subst (λ n. IDS rules (record { 0 = n }) (record { 0 = a }) (record { 0 = b }) × (a < width symbols (record { 0 = n })) × (b < width symbols (record { 0 = n }))) (sym at.symbol) there
      where
        there : IDS rules p.symbol (record { 0 = a }) (record { 0 = b }) × (a < width symbols p.symbol) × (b < width symbols p.symbol)
        there =
            let (k, is) = place_number r places g.places_are p among in
            let wide = is.width_is in
            let first_in = at.first in
            let second_in = at.second in
            let a_in : a < width symbols p.symbol = omega arith in
            let b_in : b < width symbols p.symbol = omega arith in
            let u : Occ = record { occ = k; attr = record { 0 = a } } in
            let t : Occ = record { occ = k; attr = record { 0 = b } } in
            let j = g.sound (p.offset + a) (p.offset + b) at.edge in
            let first_is : j.first ≡ u = one_vertex symbols r j.first u j.is_first (record { symbol = p.symbol; at = is.symbol; within = a_in }) (sym j.from ∙ ap (λ n. n + a) is.offset_is) in
            let last_is : j.last ≡ t = one_vertex symbols r j.last t j.is_last (record { symbol = p.symbol; at = is.symbol; within = b_in }) (sym j.to ∙ ap (λ n. n + b) is.offset_is) in
            (joined {u = u} {v = t} g.among (subst (λ o. Joins rules r u o) last_is (subst (λ o. Joins rules r o j.last) first_is j.path)) refl is.symbol, a_in, b_in)

    pub rows_stay_sound : (old new : List (List ℕ)) → AreSoundRows symbols rules old → ((x a b : ℕ) → IsBit (rows_of new x) a b → IsBit (rows_of old x) a b ⊎ IsProjected places edges x a b) → AreSoundRows symbols rules new
    rows_stay_sound old new sound from x a b h = elim (from x a b h) [ inl before ↦ sound x a b before | inr at ↦ projected_sound x a b at ]

  -- ---- what a step asks for

  symbol_there : (s : SymId) → IsTrue (is_nonterminal symbols s) → s.0 < length symbols
  symbol_there s h = go (slice_get symbols s.0) refl h
    where
      go : (x : Option FlatSymbol) → slice_get symbols s.0 ≡ x → IsTrue (is_nonterminal_symbol x) → s.0 < length symbols
      go None e h = absurd (true≢false (sym h))
      go (Some x) e h = slice_get_within symbols s.0 x e

  symbol_in_range : (r : FlatRule) → IsRule symbols r → (k : ℕ) (s : SymId) → symbol_at r k ≡ Some s → s.0 < length symbols
  symbol_in_range r rule zero s at = subst (λ (q : SymId). q.0 < length symbols) (held at) (symbol_there r.left rule.left_side)
  symbol_in_range r rule (suc k) s at = All-contains (λ (q : SymId). q.0 < length symbols) r.right s rule.right_side (contains-slice_get r.right k s at)

  module _ (ids : List (List ℕ)) (have : HaveRows symbols ids) where
    row_count : length ids ≡ length symbols
    row_count = sym (length-map ids length) ∙ ap length (sym have) ∙ length-map symbols (λ (x : FlatSymbol). length x.attrs)

    row_size : (s : SymId) → s.0 < length symbols → length (rows_of ids s.0) ≡ width symbols s
    row_size s within =
        let (x, at) = some_at symbols s.0 within in
        let attrs : attrs_of symbols s ≡ x.attrs = ap (λ (y : Option FlatSymbol). elim y as (λ _. List FlatAttr) [ None ↦ [] | Some z ↦ z.attrs ]) at in
        let there : slice_get (map length ids) s.0 ≡ Some (length x.attrs) = ap (λ l. slice_get l s.0) (sym have) ∙ slice_get-map (λ (y : FlatSymbol). length y.attrs) symbols s.0 ∙ ap (option_map (λ (y : FlatSymbol). length y.attrs)) at in
        sym (get_or-map length ids s.0 []) ∙ get_or_from_slice_get (map length ids) s.0 (length x.attrs) 0 there ∙ ap length (sym attrs)

    row_width : (s : SymId) → All (λ (x : FlatSymbol). length x.attrs ≤ 256) symbols → s.0 < length symbols → width symbols s ≤ 256
    row_width s few within =
        let (x, at) = some_at symbols s.0 within in
        let attrs : attrs_of symbols s ≡ x.attrs = ap (λ (y : Option FlatSymbol). elim y as (λ _. List FlatAttr) [ None ↦ [] | Some z ↦ z.attrs ]) at in
        let small = All-contains (λ (y : FlatSymbol). length y.attrs ≤ 256) symbols x few (contains-slice_get symbols s.0 x at) in
        subst (λ (l : List FlatAttr). length l ≤ 256) (sym attrs) small

    pub have_rows : (r : FlatRule) (places : List Place) → IsRule symbols r → All (λ (x : FlatSymbol). length x.attrs ≤ 256) symbols → ArePlaces symbols r places → All (HasRow ids) places
    have_rows r places rule few are k d inside =
        let p : Place = slice_index_or places k d in
        let is = are.each k p (slice_get-get_or places k d inside) in
        let range = symbol_in_range r rule k p.symbol is.symbol in
        let wide = is.width_is in
        let most = row_width p.symbol few range in
        record { within = (let count = row_count in omega arith); size = row_size p.symbol range ∙ sym is.width_is; few = omega arith }

  -- the symbols of a rule's places are there
  pub symbols_there : (r : FlatRule) (places : List Place) → IsRule symbols r → ArePlaces symbols r places → All (λ (p : Place). p.symbol.0 < length symbols) places
  symbols_there r places rule are k d inside =
      let p : Place = slice_index_or places k d in
      let is = are.each k p (slice_get-get_or places k d inside) in
      symbol_in_range r rule k p.symbol is.symbol

  pub rows_same : (old new : List (List ℕ)) → map length new ≡ map length old → HaveRows symbols old → HaveRows symbols new
  rows_same old new same have = have ∙ sym same

  -- ---- graphs in a list

  module _ (graphs : List Graph) (are : AreGraphs symbols rules graphs) (k : ℕ) (d : Graph) (within : k < length rules) where
    pub graph_at : (r : FlatRule) × (slice_get rules k ≡ Some r) × IsGraph symbols rules r (slice_index_or graphs k d).places.items (slice_index_or graphs k d).closure.rows.items
    graph_at =
        let (r, at) = some_at rules k within in
        (r, at, are.each k r (slice_index_or graphs k d) at (slice_get-get_or graphs k d (let count = are.count in omega arith)))

    -- the list with a grown graph in its place
    pub graphs_grow : (g : Graph) → ((r : FlatRule) → slice_get rules k ≡ Some r → IsGraph symbols rules r g.places.items g.closure.rows.items) → AreGraphs symbols rules (slice_set graphs k g)
    graphs_grow g new = record { count = length-set graphs k g ∙ are.count; each = λ j r q at found. at_place j r q at found (equal_or_not j k) }
      where
        at_place : (j : ℕ) (r : FlatRule) (q : Graph) → slice_get rules j ≡ Some r → slice_get (slice_set graphs k g) j ≡ Some q → (j ≡ k) ⊎ (j ≢ k) → IsGraph symbols rules r q.places.items q.closure.rows.items
        at_place j r q at found (inl same) =
            let is : g ≡ q = sym (get_or-set_same graphs k g q (let count = are.count in omega arith)) ∙ sym (ap (λ n. slice_index_or (slice_set graphs k g) n q) same) ∙ get_or_from_slice_get (slice_set graphs k g) j q q found in
            subst (λ (z : Graph). IsGraph symbols rules r z.places.items z.closure.rows.items) is (new r (subst (λ n. slice_get rules n ≡ Some r) same at))
        at_place j r q at found (inr other) = are.each j r q at (other_graph graphs k g j q other found)

-- ---- the first graphs and rows

pub graph_push : (symbols : List FlatSymbol) (rules : List FlatRule) (graphs : List Graph) (g : Graph) (n : ℕ) (d rule : FlatRule) → length graphs ≡ n → n < length rules → rule ≡ slice_index_or rules n d
    → ((k : ℕ) (r : FlatRule) (q : Graph) → slice_get rules k ≡ Some r → slice_get graphs k ≡ Some q → IsGraph symbols rules r q.places.items q.closure.rows.items)
    → IsGraph symbols rules rule g.places.items g.closure.rows.items
    → (k : ℕ) (r : FlatRule) (q : Graph) → slice_get rules k ≡ Some r → slice_get (graphs ++ g ∷ []) k ≡ Some q → IsGraph symbols rules r q.places.items q.closure.rows.items
graph_push symbols rules graphs g n d rule count within is each last k r q at found = elim (at_push graphs g k q found) [
  | inl there ↦ each k r q at there
  | inr (end, same) ↦ subst (λ (z : Graph). IsGraph symbols rules r z.places.items z.closure.rows.items) same (subst (λ (x : FlatRule). IsGraph symbols rules x g.places.items g.closure.rows.items) (this end) last)
]
  where
    this : k ≡ length graphs → rule ≡ r
    this end = is ∙ held (sym (slice_get-get_or rules n d within) ∙ ap (λ j. slice_get rules j) (sym (end ∙ count)) ∙ at)

no_bits : (rows : List ℕ) → All (λ row. row ≡ 0) rows → (a b : ℕ) → IsBit rows a b → ⊥
no_bits rows zeros a b h = elim (cases_lt a (length rows)) [
  | inl within ↦ empty-set b (subst (λ row. IsBitSet row b) (zeros a 0 within) h)
  | inr past ↦ empty-set b (subst (λ row. IsBitSet row b) (get_or_past rows a 0 past) h)
]

pub rows_push : (ids : List (List ℕ)) (rows : List ℕ) → ((x a b : ℕ) → IsBit (rows_of ids x) a b → ⊥) → All (λ row. row ≡ 0) rows → (x a b : ℕ) → IsBit (rows_of (ids ++ rows ∷ []) x) a b → ⊥
rows_push ids rows none zeros x a b h = elim (cases_order x (length ids)) [
  | inl same ↦ no_bits rows zeros a b (subst (λ l. IsBit l a b) (ap (λ k. slice_index_or (ids ++ rows ∷ []) k []) same ∙ get_or-append_seam ids rows [] []) h)
  | inr other ↦ elim other [
    | inl within ↦ none x a b (subst (λ l. IsBit l a b) (get_or_append_left ids (rows ∷ []) [] x within) h)
    | inr past ↦ no_bits [] (λ i d inside. absurd (omega arith)) a b (subst (λ l. IsBit l a b) (get_or_past (ids ++ rows ∷ []) x [] (let size = length-append ids (rows ∷ []) in omega arith)) h)
  ]
]

-- ---- all of each other's: the least

module _ (symbols : List FlatSymbol) (rules : List FlatRule) (each_rule : All (IsRule symbols) rules) (ids : List (List ℕ)) (graphs : List Graph)
    (are : AreGraphs symbols rules graphs) (have : HaveRows symbols ids) (sound : AreSoundRows symbols rules ids) (settled : AreSettled ids graphs) where
  Reaches : FlatRule → Occ → Occ → Type 0
  Reaches r u v = IsVertex symbols r u × IsVertex symbols r v × ((k : ℕ) (g : Graph) → slice_get rules k ≡ Some r → slice_get graphs k ≡ Some g → Has g.closure.rows.items (number symbols r u) (number symbols r v))

  Precedes : SymId → AttrId → AttrId → Type 0
  Precedes x a b = IsBit (rows_of ids x.0) a.0 b.0

  graph_of : (k : ℕ) (r : FlatRule) → slice_get rules k ≡ Some r → (g : Graph) × (slice_get graphs k ≡ Some g)
  graph_of k r at = some_at graphs k (let inside = slice_get_within rules k r at in let count = are.count in omega arith)

  place_of : (r : FlatRule) (places : List Place) → ArePlaces symbols r places → (k : ℕ) (x : SymId) → symbol_at r k ≡ Some x → (p : Place) × Contains places p × IsPlace symbols r k p × (p.symbol ≡ x)
  place_of r places p_are k x at =
      let inside = slice_get_within (symbols_of r) k x at in
      let (p, found) = some_at places k (let count = p_are.count in omega arith) in
      let is = p_are.each k p found in
      (p, contains-slice_get places k p found, is, held (sym is.symbol ∙ at))

  vertex_at : (r : FlatRule) (u : Occ) (x : SymId) → symbol_at r u.occ ≡ Some x → u.attr.0 < width symbols x → IsVertex symbols r u
  vertex_at r u x at within = record { symbol = x; at = at; within = within }

  induced_reaches : (r : FlatRule) (u v : Occ) (x : SymId) → u.occ ≡ v.occ → symbol_at r u.occ ≡ Some x → Precedes x u.attr v.attr → (k : ℕ) (g : Graph) → slice_get rules k ≡ Some r → slice_get graphs k ≡ Some g → Has g.closure.rows.items (number symbols r u) (number symbols r v)
  unfolding Precedes
  induced_reaches r u v x same at bit k g of_rule of_graph =
      let is = are.each k r g of_rule of_graph in
      let (p, among, here, symbol) = place_of r g.places.items is.places_are u.occ x at in
      let (chain, first, second) = sound x.0 u.attr.0 v.attr.0 bit in
      let wide : p.width ≡ width symbols x = here.width_is ∙ ap (width symbols) symbol in
      let start = here.offset_is in
      let other : number symbols r v ≡ p.offset + v.attr.0 = ap (λ n. offset symbols r n + v.attr.0) (sym same) ∙ ap (λ n. n + v.attr.0) (sym start) in
      let own : number symbols r u ≡ p.offset + u.attr.0 = ap (λ n. n + u.attr.0) (sym start) in
      let bit_at_place : IsBit (rows_of ids p.symbol.0) u.attr.0 v.attr.0 = subst (λ (s : SymId). IsBit (rows_of ids s.0) u.attr.0 v.attr.0) (sym symbol) bit in
      (settled k g of_graph).induced (number symbols r u) (number symbols r v) (p, among, (u.attr.0, omega arith, own, (v.attr.0, omega arith, bit_at_place, other)))

  closed : IsClosed rules Reaches Precedes
  unfolding Reaches Precedes
  closed = record {
    direct_edges = λ r u v among dp.
        (let (c, in_rule, depends, goal_is) = dp in
        let (goal, before) = comp_vertices symbols r (All-contains (IsRule symbols) rules r each_rule among) c in_rule in
        (before u depends, subst (λ o. IsVertex symbols r o) goal_is goal, λ k g of_rule of_graph. (are.each k r g of_rule of_graph).direct u v dp));
    induced_edges = λ r u v x among same at bit.
        (let (chain, first, second) = sound x.0 u.attr.0 v.attr.0 bit in
        (vertex_at r u x at first, vertex_at r v x (subst (λ n. symbol_at r n ≡ Some x) same at) second, induced_reaches r u v x same at bit));
    transitive = λ r u v w among p q. (p.0, q.1, λ k g of_rule of_graph. (are.each k r g of_rule of_graph).transitive (number symbols r u) (number symbols r v) (number symbols r w) (p.2 k g of_rule of_graph) (q.2 k g of_rule of_graph));
    projected = λ r u v x among p same at. projects r u v x among p same at;
  }
    where
      projects : (r : FlatRule) (u v : Occ) (x : SymId) → Contains rules r → Reaches r u v → u.occ ≡ v.occ → symbol_at r u.occ ≡ Some x → Precedes x u.attr v.attr
      projects r u v x among (is_u, is_v, reaches) same at =
          let (k, of_rule) = slice_get-contains rules r among in
          let (g, of_graph) = graph_of k r of_rule in
          let is = are.each k r g of_rule of_graph in
          let (p, in_places, here, symbol) = place_of r g.places.items is.places_are u.occ x at in
          let u_symbol : is_u.symbol ≡ x = held (sym is_u.at ∙ at) in
          let v_symbol : is_v.symbol ≡ x = held (sym is_v.at ∙ subst (λ n. symbol_at r n ≡ Some x) same at) in
          let u_in = subst (λ s. u.attr.0 < width symbols s) u_symbol is_u.within in
          let v_in = subst (λ s. v.attr.0 < width symbols s) v_symbol is_v.within in
          let wide : p.width ≡ width symbols x = here.width_is ∙ ap (width symbols) symbol in
          let own : number symbols r u ≡ p.offset + u.attr.0 = ap (λ n. n + u.attr.0) (sym here.offset_is) in
          let other : number symbols r v ≡ p.offset + v.attr.0 = ap (λ n. offset symbols r n + v.attr.0) (sym same) ∙ ap (λ n. n + v.attr.0) (sym here.offset_is) in
          (settled k g of_graph).projected x.0 u.attr.0 v.attr.0 (
            p,
            in_places,
            record {
              symbol = ap (λ (s : SymId). s.0) (sym symbol);
              first = omega arith;
              second = omega arith;
              edge = subst (λ n. Has g.closure.rows.items (p.offset + u.attr.0) n) other (subst (λ n. Has g.closure.rows.items n (number symbols r v)) own (reaches k g of_rule of_graph));
            },
          )

  pub settled_rows : AreInducedRows symbols rules ids
  unfolding Precedes
  settled_rows = (
    have,
    λ x a b of_x row at_x at_a. (
      λ bit. (sound x.0 a.0 b.0 (to_bit x a b of_x row at_x at_a bit)).0,
      λ ids_edge. from_bit x a b of_x row at_x at_a (IDS-least rules Reaches Precedes closed ids_edge),
    ),
  )
    where
      row_is : (x : SymId) (a : AttrId) (of_x : List ℕ) (row : ℕ) → slice_get ids x.0 ≡ Some of_x → slice_get of_x a.0 ≡ Some row → slice_index_or (rows_of ids x.0) a.0 0 ≡ row
      row_is x a of_x row at_x at_a = ap (λ l. slice_index_or l a.0 0) (get_or_from_slice_get ids x.0 of_x [] at_x) ∙ get_or_from_slice_get of_x a.0 row 0 at_a

      to_bit : (x : SymId) (a b : AttrId) (of_x : List ℕ) (row : ℕ) → slice_get ids x.0 ≡ Some of_x → slice_get of_x a.0 ≡ Some row → IsBitSet row b.0 → IsBit (rows_of ids x.0) a.0 b.0
      to_bit x a b of_x row at_x at_a bit = subst (λ w. IsBitSet w b.0) (sym (row_is x a of_x row at_x at_a)) bit

      from_bit : (x : SymId) (a b : AttrId) (of_x : List ℕ) (row : ℕ) → slice_get ids x.0 ≡ Some of_x → slice_get of_x a.0 ≡ Some row → IsBit (rows_of ids x.0) a.0 b.0 → IsBitSet row b.0
      from_bit x a b of_x row at_x at_a bit = subst (λ w. IsBitSet w b.0) (row_is x a of_x row at_x at_a) bit

pub one_symbol_more : (symbols : List FlatSymbol) (ids : List (List ℕ)) (rows : List ℕ) (n : ℕ) (d symbol : FlatSymbol) → n < length symbols → symbol ≡ slice_index_or symbols n d → length rows ≡ length symbol.attrs
    → map (λ (x : FlatSymbol). length x.attrs) (take n symbols) ≡ map length ids → map (λ (x : FlatSymbol). length x.attrs) (take (n + 1) symbols) ≡ map length (ids ++ rows ∷ [])
one_symbol_more symbols ids rows n d symbol within is size before =
    ap (map (λ (x : FlatSymbol). length x.attrs)) (next_take symbols n d within) ∙ map-append (λ (x : FlatSymbol). length x.attrs) (take n symbols) (slice_index_or symbols n d ∷ [])
    ∙ ap (λ l. l ++ length (slice_index_or symbols n d).attrs ∷ []) before ∙ ap (λ m. map length ids ++ m ∷ []) (ap (λ (x : FlatSymbol). length x.attrs) (sym is) ∙ sym size) ∙ sym (map-append length ids (rows ∷ []))
