-- The computations that the walks of chains give are those of the definition.
use Rattle.std.specs.Prelude.{nat_lt, IsTrue, Contains, slice_get, ◌↔◌, filter, flat_map, option_map, unwrap_or}
use Rattle.std.specs.List.{list_any}
use Rattle.std.proofs.Common.{◌≡◌, ℕ, suc, ◌+◌, ◌-◌, ◌≤◌, inl, inr, Bool, true, false, List, [], length, map, Option, Some, None, refl, sym, ap, subst, ◌∙◌, arith}
use Rattle.std.proofs.lemmas.Option.{none-some, same_Some, slice_get_within, slice_get-map}
use Rattle.std.proofs.lemmas.List.Elements.{Contains-append_left, Contains-append_right, Contains-append_cases}
use Rattle.lido_base.specs.Environment.{Environment}
use Rattle.lido_base.specs.Tree.{contains}
use Rattle.lido_base.specs.declared.ids.SymId.{SymId}
use Rattle.lido_base.proofs.Lists.{contains-map, contains-flat, flat-contains, contains-place, place-contains, place-below}
use Rattle.lido_syntax.specs.declared.spec.Spec.{Spec}
use Rattle.lido_syntax.specs.declared.spec.Typed1.{Typed1}
use Rattle.lido_syntax.specs.Production.{name_of, left_of}
use Rattle.lido_syntax.specs.Computation as written
use Rattle.lido_symbols.specs.Numbers.{enumerated}
use Rattle.flat_grammar.specs.declared.flat.FlatRule.{FlatRule}
use Rattle.least_paths.specs.Graph.{is_in}
use Rattle.need_graphs.specs.Users.{entries_at}
use Rattle.need_graphs.proofs.ListLemmas.{contains-filtered, filtered-contains}
use Rattle.need_graphs.proofs.EdgeLemmas.{zip-left, zip-right}
use Rattle.need_graphs.proofs.RangeLemmas.{filter-part}
use Rattle.need_graphs.proofs.ReadLemmas.{any-map, any-same}
use Rattle.need_graphs.proofs.StartLemmas.{at-zip}
use Rattle.rule_tables.specs.declared.table.Tables.{Tables as Rows}
use Rattle.rule_tables.specs.declared.table.SymbolRow.{SymbolRow}
use Rattle.rule_tables.specs.declared.table.SymbolClass.{SymbolClass}
use Rattle.rule_tables.specs.declared.table.SymbolClass.TheVariants as class
use Rattle.rule_tables.specs.declared.forced.Forced.{Forced}
use Rattle.rule_tables.specs.declared.forced.Force.{Force as Entry}
use Rattle.rule_tables.specs.declared.extra.ExtraComp.{ExtraComp}
use Rattle.rule_tables.specs.PlainRules.{PlainRule, plain_rules, symbol_at, lists}
use Rattle.rule_tables.specs.Forced.{Force, force_for, IsForced}
use Rattle.rule_tables.specs.ForcedOf.{AreEntriesOf, AreForcedOf, AreNumbersOf}
use Rattle.rule_tables.specs.Needs.{Tables as Numbered, Needs, ruled}
use Rattle.rule_tables.specs.Slots.{Slot, Front, Behind}
use Rattle.rule_tables.specs.Shares.{Term, places, last_of, front_term, behind_term, is_node, ChainShare, in_front, behind}
use Rattle.rule_tables.specs.ExtraOf.{IsSlotAs, IsTermAs, IsComputed, IsOfChains}
use Rattle.rule_tables.specs.TablesOf.{named_symbols, IsPlainOf, IsSymbolClass}
use Rattle.rule_tables.proofs.SlotLemmas.{zip-at}
use Rattle.chain_expand.specs.declared.walk.Source.{Source}
use Rattle.chain_expand.specs.declared.walk.Walk.{Walk}
use Rattle.need_graphs.specs.Clear.{AreClear}
use Rattle.chain_expand.specs.Comps.{term_of, front_in, behind_comp, front_comp, behind_comps, front_comps, rule_comps, walks_at, all_comps}
use Rattle.chain_expand.specs.Needed.{AreNeedsOf}
use Rattle.chain_expand.specs.Walks.{IsWalk, AreWalks, AreAllWalks, has_node_in, is_node_in, is_node_class, needing, number_of, starts_at, assigns_at, source_of, front_source, behind_source, if_needed}
use Rattle.chain_expand.proofs.OrderLemmas.{some-mapped, made_behind, made_front}
use Rattle.chain_expand.proofs.TermLemmas.{start-same, assigned-same, source-term, left-term, last-in, places-at, needing-same}
use Rattle.chain_expand.proofs.ExtraLemmas.{numbered-at, numbered-in, place-of-number, number-at, chain-in, set-at, chain-at, in-set, past, list-rule}

-- what is needed comes from somewhere
needed-some : (b : Bool) (src s : Source) → if_needed b src ≡ Some s → IsTrue b × (src ≡ s)
needed-some true src s e = (refl, same_Some _ _ e)
needed-some false src s e = absurd (none-some _ e)

not-true : (b : Bool) → ¬ IsTrue b → false ≡ b
not-true true n = absurd (n refl)
not-true false n = refl

module _ (env : Environment) (forced : Forced) (are : AreForcedOf env forced) (T : Numbered forced.tables.spec) (numbers : AreNumbersOf env forced T) (needs : Needs forced.tables.spec T)
    (clear : AreClear forced.tables.spec) (sets : List (List Bool)) (needed : AreNeedsOf forced forced.tables.spec.chains sets)
    (walks : List (List Walk)) (walked : AreAllWalks forced.tables.symbols sets forced.tables.plain forced.comps walks) where
  abbrev t : Rows
  t = forced.tables

  abbrev spec : Spec
  spec = t.spec

  abbrev plain : List PlainRule
  plain = plain_rules spec (named_symbols t)

  abbrev IsIts : PlainRule → FlatRule → Type 0
  IsIts = IsPlainOf spec env (named_symbols t)

  same-rules : plain_rules spec T.symbols ≡ plain
  same-rules = ap (plain_rules spec) numbers.symbols

  -- a plain rule with what is in force in it, and the walks of the chains over its children
  pub record IsRuleAt (k : ℕ) (p : PlainRule) (fs : List Force) : Type 0 where
    pub rule : FlatRule
    pub es : List Entry
    pub ws : List Walk
    pub of_ruled : slice_get (ruled spec T) k ≡ Some (p, fs)
    pub of_flat : slice_get t.plain k ≡ Some rule
    pub is_plain : IsIts p rule
    pub entries : AreEntriesOf t p es
    pub in_force : (f : Force) → Contains fs f ↔ IsForced spec p f
    pub of_walks : slice_get walks k ≡ Some ws
    pub are_walks : AreWalks t.symbols sets rule es ws

  rule-at : (k : ℕ) (p : PlainRule) (fs : List Force) → slice_get plain k ≡ Some p → slice_get T.forced k ≡ Some fs → ((f : Force) → Contains fs f ↔ IsForced spec p f) → IsRuleAt k p fs
  rule-at k p fs of_plain of_forced held =
      let (flat, of_flat, is) = zip-right IsIts plain t.plain k p are.tables.plain of_plain in
      let (found, of_entries, their) = zip-right (AreEntriesOf t) plain forced.comps k p are.entries of_plain in
      let (its, of_walks, walk) = zip-right (λ (x : ℕ × FlatRule) (ws : List Walk). AreWalks t.symbols sets x.1 (entries_at forced.comps x.0) ws) (enumerated 0 t.plain) walks k (k, flat) walked (numbered-at t.plain k flat of_flat) in
      record {
        rule = flat;
        es = found;
        ws = its;
        of_ruled = at-zip (plain_rules spec T.symbols) T.forced k p fs (ap (λ l. slice_get l k) same-rules ∙ of_plain) of_forced;
        of_flat = of_flat;
        is_plain = is;
        entries = their;
        in_force = held;
        of_walks = of_walks;
        are_walks = subst (λ (l : List Entry). AreWalks t.symbols sets flat l its) (ap (λ (o : Option (List Entry)). unwrap_or o []) of_entries) walk;
      }

  at-number : (k : ℕ) (flat : FlatRule) → slice_get t.plain k ≡ Some flat → (p : PlainRule) × (fs : List Force) × IsRuleAt k p fs
  at-number k flat at =
      let (p, there, is) = zip-left IsIts plain t.plain k flat are.tables.plain at in
      let (fs, of_forced, held) = zip-right _ (plain_rules spec T.symbols) T.forced k p numbers.numbers.forced (ap (λ l. slice_get l k) same-rules ∙ there) in
      (p, fs, rule-at k p fs there of_forced held)

  of-ruled : (k : ℕ) (p : PlainRule) (fs : List Force) → slice_get (ruled spec T) k ≡ Some (p, fs) → IsRuleAt k p fs
  of-ruled k p fs place =
      let at = zip-at (plain_rules spec T.symbols) T.forced k p fs place in
      let (others, there, held) = zip-right _ (plain_rules spec T.symbols) T.forced k p numbers.numbers.forced at.0 in
      let same : others ≡ fs = same_Some _ _ (sym there ∙ at.1) in
      rule-at k p fs (ap (λ l. slice_get l k) (sym same-rules) ∙ at.0) at.1 (subst (λ (l : List Force). (f : Force) → Contains l f ↔ IsForced spec p f) same held)

  module _ (p : PlainRule) (fs : List Force) where
    -- a symbol can be a node by its row
    by-class : (s : ℕ) (c : SymbolClass) → IsSymbolClass spec env (named_symbols t) s c → is_node_class c ≡ contains s (map left_of spec.rules)
    by-class s class.Nonterminal h = sym h
    by-class s (class.Terminal ty) h = not-true (contains s (map left_of spec.rules)) h.0
    by-class s class.Class h = not-true (contains s (map left_of spec.rules)) (clear.classes s h)
    by-class s class.Cell h = absurd h

    cell-row : (x : ℕ) (row : SymbolRow) → slice_get t.symbols x ≡ Some row → length (named_symbols t) ≤ x → row.class ≡ class.Cell
    cell-row x row at l =
        let k = x - length (named_symbols t) in
        let same : x ≡ length (named_symbols t) + k = omega (arith, l) in
        let within = slice_get_within t.symbols x row at in
        let count = are.tables.count in
        let (i, place) = place-below (lists spec (named_symbols t)) k (omega (arith, within, count, l)) in
        let (r, of_list) = list-rule t i (place-contains (lists spec (named_symbols t)) k i place) in
        (are.tables.cells k i r row place of_list (ap (slice_get t.symbols) (sym same) ∙ at)).class

    node-same : (x : ℕ) → is_node_in t.symbols x ≡ is_node spec T needs p fs x
    node-same x = by (slice_get (named_symbols t) x) refl (slice_get t.symbols x) refl ∙ ap (λ (l : List ℕ). elim (slice_get l x) as (λ _. Bool) [ None ↦ true | Some s ↦ contains s (map left_of spec.rules) ]) (sym numbers.symbols)
      where
        by : (o : Option ℕ) → slice_get (named_symbols t) x ≡ o → (q : Option SymbolRow) → slice_get t.symbols x ≡ q
            → is_node_in t.symbols x ≡ (elim (slice_get (named_symbols t) x) as (λ _. Bool) [ None ↦ true | Some s ↦ contains s (map left_of spec.rules) ])
        by (Some s) e None f =
            let l = slice_get_within (named_symbols t) x s e in
            let m = past t.symbols x f in
            let count = are.tables.count in
            absurd (omega (arith, l, m, count))
        by (Some s) e (Some row) f =
            ap (λ (q : Option SymbolRow). elim q as (λ _. Bool) [ None ↦ true | Some row ↦ is_node_class row.class ]) f ∙ by-class s row.class (are.tables.rows x s row e f).class
            ∙ sym (ap (λ (o : Option ℕ). elim o as (λ _. Bool) [ None ↦ true | Some s ↦ contains s (map left_of spec.rules) ]) e)
        by None e None f =
            ap (λ (q : Option SymbolRow). elim q as (λ _. Bool) [ None ↦ true | Some row ↦ is_node_class row.class ]) f
            ∙ sym (ap (λ (o : Option ℕ). elim o as (λ _. Bool) [ None ↦ true | Some s ↦ contains s (map left_of spec.rules) ]) e)
        by None e (Some row) f =
            ap (λ (q : Option SymbolRow). elim q as (λ _. Bool) [ None ↦ true | Some row ↦ is_node_class row.class ]) f ∙ ap is_node_class (cell-row x row f (past (named_symbols t) x e))
            ∙ sym (ap (λ (o : Option ℕ). elim o as (λ _. Bool) [ None ↦ true | Some s ↦ contains s (map left_of spec.rules) ]) e)

    nodes-same : (right : List SymId) → map (λ (s : SymId). s.0) right ≡ p.right → has_node_in t.symbols right ≡ list_any (is_node spec T needs p fs) p.right
    nodes-same right same =
        sym (any-map (is_node_in t.symbols) (λ (s : SymId). s.0) right) ∙ any-same (is_node_in t.symbols) (is_node spec T needs p fs) (map (λ (s : SymId). s.0) right) node-same
        ∙ ap (list_any (is_node spec T needs p fs)) same

  -- a chain in a plain rule
  module _ (k : ℕ) (p : PlainRule) (fs : List Force) (r : IsRuleAt k p fs) (i : ℕ) (d : Typed1) (at : slice_get spec.chains i ≡ Some d) where
    abbrev c : ℕ
    c = name_of d.name

    row : List Bool
    row = (set-at env forced are T numbers needs clear sets needed i d at).0

    row-at : slice_get sets i ≡ Some row
    unfolding row
    row-at = (set-at env forced are T numbers needs clear sets needed i d at).1

    row-is : (x : ℕ) → is_in row x ≡ needs.chain c x
    unfolding row
    row-is x = in-set env forced are T numbers needs clear sets needed c row (set-at env forced are T numbers needs clear sets needed i d at).2 x

    abbrev begun : Option ℕ
    begun = number_of (starts_at i) r.es

    abbrev set_in : Option ℕ
    set_in = number_of (assigns_at i) r.es

    walk-at : (walk : Walk) × (slice_get r.ws i ≡ Some walk) × IsWalk (has_node_in t.symbols r.rule.right) i row r.rule r.es walk
    walk-at = zip-right (λ (x : ℕ × List Bool) (w : Walk). IsWalk (has_node_in t.symbols r.rule.right) x.0 x.1 r.rule r.es w) (enumerated 0 sets) r.ws i (i, row) r.are_walks (numbered-at sets i row row-at)

    same-needing : needing row r.rule.right ≡ places (needs.chain c) p
    same-needing = needing-same row r.rule.right p (needs.chain c) r.is_plain.right row-is

    start : begun ≡ option_map (λ (f : Force). f.comp.number) (force_for fs 0 (written.Start c))
    start = start-same t i c d at refl clear.chains p r.es fs r.entries r.in_force

    assigned : set_in ≡ option_map (λ (f : Force). f.comp.number) (force_for fs 0 (written.Behind c))
    assigned = assigned-same t i c d at refl clear.chains p r.es fs r.entries r.in_force

    in-places : (l : List ℕ) → ((j : ℕ) → Contains l j → Contains (places (needs.chain c) p) j) → (j : ℕ) → last_of l ≡ Some j → (x : ℕ) × (symbol_at p j ≡ Some x)
    in-places l part j e = places-at (needs.chain c) p j (part j (last-in l j e))

    front-value : (j : ℕ) → IsTermAs t p (term_of i (front_source row begun r.rule.right j)) (front_term spec T needs p fs c (suc j))
    front-value j =
        let l = filter (λ n. nat_lt n (suc j)) (places (needs.chain c) p) in
        let path : front_source row begun r.rule.right j ≡ source_of (option_map (λ (f : Force). f.comp.number) (force_for fs 0 (written.Start c))) (last_of l) =
        λ q. source_of (start q) (last_of (filter (λ n. nat_lt n (suc j)) (same-needing q))) in
        subst (λ (s : Source). IsTermAs t p (term_of i s) (front_term spec T needs p fs c (suc j))) (sym path)
        (source-term t i c d at refl clear.chains p r.es fs r.entries r.in_force (force_for fs 0 (written.Start c)) (last_of l) (in-places l (λ n m. filter-part (λ n. nat_lt n (suc j)) (places (needs.chain c) p) n m)))

    abbrev left_source : Source
    left_source = behind_source (has_node_in t.symbols r.rule.right) begun set_in (last_of (needing row r.rule.right))

    behind-value : IsTermAs t p (term_of i left_source) (behind_term spec T needs p fs c)
    behind-value =
        let l = places (needs.chain c) p in
        let inner = nodes-same p fs r.rule.right r.is_plain.right in
        let path : left_source ≡ behind_source (list_any (is_node spec T needs p fs) p.right) (option_map (λ (f : Force). f.comp.number) (force_for fs 0 (written.Start c)))
        (option_map (λ (f : Force). f.comp.number) (force_for fs 0 (written.Behind c))) (last_of l) =
        λ q. behind_source (inner q) (start q) (assigned q) (last_of (same-needing q)) in
        subst (λ (s : Source). IsTermAs t p (term_of i s) (behind_term spec T needs p fs c)) (sym path)
        (left-term t i c d at refl clear.chains p r.es fs r.entries r.in_force (list_any (is_node spec T needs p fs) p.right) (force_for fs 0 (written.Behind c)) (force_for fs 0 (written.Start c)) (last_of l) (in-places l (λ n m. m)))

    abbrev IsOne : ExtraComp → Type 0
    IsOne = IsComputed t T needs IsOfChains (ChainShare spec T needs)

    front-computed : (j y : ℕ) → slice_get p.right j ≡ Some y → IsTrue (needs.chain c y) → IsOne (made_front k j i (front_source row begun r.rule.right j))
    front-computed j y there need = record {
      rule = p;
      forces = fs;
      k = suc j;
      slot = Front c;
      term = front_term spec T needs p fs c (suc j);
      symbol = y;
      of_rule = r.of_ruled;
      share = in_front j y c there (chain-in env forced are T numbers needs clear sets needed i d at) need;
      occ = refl;
      at = there;
      named = (d, at, refl);
      value = front-value j;
    }

    behind-computed : IsTrue (needs.chain c p.left) → IsOne (made_behind k i left_source)
    behind-computed need = record {
      rule = p;
      forces = fs;
      k = 0;
      slot = Behind c;
      term = behind_term spec T needs p fs c;
      symbol = p.left;
      of_rule = r.of_ruled;
      share = behind c (chain-in env forced are T numbers needs clear sets needed i d at) need;
      occ = refl;
      at = refl;
      named = (d, at, refl);
      value = behind-value;
    }

    abbrev IsShared : ℕ → Slot → Term → Type 0
    IsShared o s e = (x : ExtraComp) × Contains (all_comps walks t.plain) x × (x.rule.0 ≡ k) × (x.occ ≡ o) × ((y : ℕ) × (symbol_at p o ≡ Some y) × IsSlotAs t y x.slot s) × IsTermAs t p x.value e

    in-all : (x : ExtraComp) → Contains (rule_comps r.ws (k, r.rule)) x → Contains (all_comps walks t.plain) x
    in-all x m = flat-contains (λ (z : ℕ × FlatRule). rule_comps (walks_at walks z.0) z) (enumerated 0 t.plain) (k, r.rule) x (numbered-in t.plain k r.rule r.of_flat)
        (subst (λ (l : List Walk). Contains (rule_comps l (k, r.rule)) x) (sym (ap (λ (o : Option (List Walk)). unwrap_or o []) r.of_walks)) m)

    front-shared : (j y : ℕ) → slice_get p.right j ≡ Some y → IsTrue (needs.chain c y) → IsShared (suc j) (Front c) (front_term spec T needs p fs c (suc j))
    front-shared j y there need =
        let (s, place, num) = some-mapped (λ (s : SymId). s.0) (slice_get r.rule.right j) y (sym (slice_get-map (λ (s : SymId). s.0) r.rule.right j) ∙ ap (λ (l : List ℕ). slice_get l j) r.is_plain.right ∙ there) in
        let (w, of, is) = walk-at in
        let src = front_source row begun r.rule.right j in
        let held : is_in row s.0 ≡ true = row-is s.0 ∙ ap (needs.chain c) num ∙ need in
        let from : front_in w j ≡ Some src = ap (λ (o : Option (Option Source)). unwrap_or o None) (is.fronts j s place) ∙ ap (λ (b : Bool). if_needed b src) held in
        let x = made_front k j i src in
        let here = filtered-contains (front_comp k j) (enumerated 0 r.ws) (i, w) x (numbered-in r.ws i w of) (ap (option_map (made_front k j i)) from) in
        let fronts = λ (z : ℕ × SymId). front_comps k r.ws z.0 in
        let inside = Contains-append_right (behind_comps k r.ws) (flat_map fronts (enumerated 0 r.rule.right)) x (flat-contains fronts (enumerated 0 r.rule.right) (j, s) x (numbered-in r.rule.right j s place) here) in
        (x, in-all x inside, refl, refl, (y, there, (d, at, refl)), front-value j)

    behind-shared : IsTrue (needs.chain c p.left) → IsShared 0 (Behind c) (behind_term spec T needs p fs c)
    behind-shared need =
        let (w, of, is) = walk-at in
        let held : is_in row r.rule.left.0 ≡ true = row-is r.rule.left.0 ∙ ap (needs.chain c) r.is_plain.left ∙ need in
        let from : w.behind ≡ Some left_source = is.behind ∙ ap (λ (b : Bool). if_needed b left_source) held in
        let x = made_behind k i left_source in
        let here = filtered-contains (behind_comp k) (enumerated 0 r.ws) (i, w) x (numbered-in r.ws i w of) (ap (option_map (made_behind k i)) from) in
        let inside = Contains-append_left (behind_comps k r.ws) (flat_map (λ (z : ℕ × SymId). front_comps k r.ws z.0) (enumerated 0 r.rule.right)) x here in
        (x, in-all x inside, refl, refl, (p.left, refl, (d, at, refl)), behind-value)

    -- the walk of that place
    its-walk : (w : Walk) → slice_get r.ws i ≡ Some w → IsWalk (has_node_in t.symbols r.rule.right) i row r.rule r.es w
    its-walk w there = let (v, place, is) = walk-at in subst (IsWalk (has_node_in t.symbols r.rule.right) i row r.rule r.es) (same_Some _ _ (sym place ∙ there)) is

    from-behind : (w : Walk) (x : ExtraComp) → slice_get r.ws i ≡ Some w → behind_comp k (i, w) ≡ Some x → IsOne x
    from-behind w x there made =
        let (s, from, same) = some-mapped (made_behind k i) w.behind x made in
        let is = its-walk w there in
        let (need, src) = needed-some (is_in row r.rule.left.0) left_source s (sym is.behind ∙ from) in
        subst IsOne (ap (made_behind k i) src ∙ same) (behind-computed (ap (needs.chain c) (sym r.is_plain.left) ∙ sym (row-is r.rule.left.0) ∙ need))

    from-front : (j : ℕ) (y : SymId) (w : Walk) (x : ExtraComp) → slice_get r.rule.right j ≡ Some y → slice_get r.ws i ≡ Some w → front_comp k j (i, w) ≡ Some x → IsOne x
    from-front j y w x place there made =
        let (s, from, same) = some-mapped (made_front k j i) (front_in w j) x made in
        let is = its-walk w there in
        let src = front_source row begun r.rule.right j in
        let (need, e) = needed-some (is_in row y.0) src s (sym (ap (λ (o : Option (Option Source)). unwrap_or o None) (is.fronts j y place)) ∙ from) in
        let right : slice_get p.right j ≡ Some y.0 = ap (λ (l : List ℕ). slice_get l j) (sym r.is_plain.right) ∙ slice_get-map (λ (s : SymId). s.0) r.rule.right j ∙ ap (option_map (λ (s : SymId). s.0)) place in
        subst IsOne (ap (made_front k j i) e ∙ same) (front-computed j y.0 right (sym (row-is y.0) ∙ need))

  abbrev IsComp : ExtraComp → Type 0
  IsComp = IsComputed t T needs IsOfChains (ChainShare spec T needs)

  -- the chain of a walk's place
  chain-of-walk : (k : ℕ) (p : PlainRule) (fs : List Force) (r : IsRuleAt k p fs) (i : ℕ) (w : Walk) → slice_get r.ws i ≡ Some w → (d : Typed1) × (slice_get spec.chains i ≡ Some d)
  chain-of-walk k p fs r i w at =
      let (z, there, is) = zip-left (λ (x : ℕ × List Bool) (w : Walk). IsWalk (has_node_in t.symbols r.rule.right) x.0 x.1 r.rule r.es w) (enumerated 0 sets) r.ws i w r.are_walks at in
      let (d, place, need) = chain-at env forced are T numbers needs clear sets needed i z.1 (number-at 0 sets i z there).1 in
      (d, place)

  rule-computed : (k : ℕ) (p : PlainRule) (fs : List Force) (r : IsRuleAt k p fs) (x : ExtraComp) → Contains (rule_comps r.ws (k, r.rule)) x → IsComp x
  rule-computed k p fs r x m = elim (Contains-append_cases (behind_comps k r.ws) (flat_map (λ (z : ℕ × SymId). front_comps k r.ws z.0) (enumerated 0 r.rule.right)) x m) [
    | inl n ↦
        let (y, among, made) = contains-filtered (behind_comp k) (enumerated 0 r.ws) x n in
        let there = place-of-number r.ws y among in
        let (d, at) = chain-of-walk k p fs r y.0 y.1 there in
        from-behind k p fs r y.0 d at y.1 x there made
    | inr n ↦
        let (z, of, here) = contains-flat (λ (z : ℕ × SymId). front_comps k r.ws z.0) (enumerated 0 r.rule.right) x n in
        let (y, among, made) = contains-filtered (front_comp k z.0) (enumerated 0 r.ws) x here in
        let there = place-of-number r.ws y among in
        let (d, at) = chain-of-walk k p fs r y.0 y.1 there in
        from-front k p fs r y.0 d at z.0 z.1 y.1 x (place-of-number r.rule.right z of) there made
  ]

  pub comps-computed : (x : ExtraComp) → Contains (all_comps walks t.plain) x → IsComp x
  comps-computed x m =
      let (z, among, here) = contains-flat (λ (z : ℕ × FlatRule). rule_comps (walks_at walks z.0) z) (enumerated 0 t.plain) x m in
      let at = place-of-number t.plain z among in
      let (p, fs, r) = at-number z.0 z.1 at in
      rule-computed z.0 p fs r x
      (subst (λ (f : FlatRule). Contains (rule_comps r.ws (z.0, f)) x) (same_Some _ _ (sym at ∙ r.of_flat))
      (subst (λ (l : List Walk). Contains (rule_comps l (z.0, z.1)) x) (ap (λ (o : Option (List Walk)). unwrap_or o []) r.of_walks) here))

  abbrev IsGivenBy : ℕ → ℕ → PlainRule → Slot → Term → Type 0
  IsGivenBy k o p s e = (x : ExtraComp) × Contains (all_comps walks t.plain) x × (x.rule.0 ≡ k) × (x.occ ≡ o) × ((y : ℕ) × (symbol_at p o ≡ Some y) × IsSlotAs t y x.slot s) × IsTermAs t p x.value e

  pub comps-compute : (k o : ℕ) (p : PlainRule) (fs : List Force) (s : Slot) (e : Term) → slice_get (ruled spec T) k ≡ Some (p, fs) → ChainShare spec T needs p fs o s e → IsGivenBy k o p s e
  comps-compute k _ p fs _ _ place (in_front j y c there among need) =
      let (d, of, same) = contains-map (λ (d : Typed1). name_of d.name) spec.chains c among in
      let (i, at) = contains-place spec.chains d of in
      subst (λ (n : ℕ). IsGivenBy k (suc j) p (Front n) (front_term spec T needs p fs n (suc j))) same
      (front-shared k p fs (of-ruled k p fs place) i d at j y there (subst (λ (n : ℕ). IsTrue (needs.chain n y)) (sym same) need))
  comps-compute k _ p fs _ _ place (behind c among need) =
      let (d, of, same) = contains-map (λ (d : Typed1). name_of d.name) spec.chains c among in
      let (i, at) = contains-place spec.chains d of in
      subst (λ (n : ℕ). IsGivenBy k 0 p (Behind n) (behind_term spec T needs p fs n)) same
      (behind-shared k p fs (of-ruled k p fs place) i d at (subst (λ (n : ℕ). IsTrue (needs.chain n p.left)) (sym same) need))
