-- What the shares of the expansions read is there.
use Rattle.std.specs.Prelude.{Contains, IsTrue, slice_get, nat_eq, nat_lt, map, flat_map, filter, is_some, option_and_then, ◌&&◌, ◌||◌, not, if◌then◌else◌}
use Rattle.std.specs.List.{list_any}
use Rattle.std.proofs.Common.{◌≡◌, ℕ, suc, ◌<◌, ◌⊎◌, inl, inr, Bool, true, false, List, [], ◌∷◌, length, Option, Some, None, refl, sym, ap, subst, ◌∙◌, arith, eq-eqb, true≢false}
use Rattle.std.proofs.lemmas.Option.{none-some, same_Some, slice_get_within}
use Rattle.std.proofs.lemmas.List.Elements.{Contains-append_cases, All-contains}
use Rattle.lido_base.specs.Environment.{Environment}
use Rattle.lido_base.specs.Reach.{edge}
use Rattle.lido_base.specs.Tree.{contains}
use Rattle.lido_base.proofs.Lists.{contains-nil, contains-cons, map-contains, contains-flat, place-contains, place-below}
use Rattle.lido_base.proofs.TreeLemmas.{test-contains}
use Rattle.lido_syntax.specs.declared.spec.Spec.{Spec}
use Rattle.lido_syntax.specs.declared.spec.Pair.{Pair}
use Rattle.lido_syntax.specs.declared.spec.Cons.{Cons}
use Rattle.lido_syntax.specs.declared.spec.With.{With}
use Rattle.lido_syntax.specs.declared.spec.Comp.{Comp}
use Rattle.lido_syntax.specs.declared.spec.RuleItem.{RuleItem}
use Rattle.lido_syntax.specs.declared.spec.SymbolItem.{SymbolItem}
use Rattle.lido_syntax.specs.declared.spec.Place.TheVariants as place
use Rattle.lido_syntax.specs.declared.spec.Expr.{Expr, Including, Constituents}
use Rattle.lido_syntax.specs.Production.{name_of, left_of}
use Rattle.lido_syntax.specs.Parts.{leaves_of}
use Rattle.lido_syntax.specs.Sets.{names_of}
use Rattle.lido_syntax.specs.Including.{listed}
use Rattle.lido_syntax.specs.Symbols.{IsNonterminal}
use Rattle.lido_syntax.specs.Attributes.{InText, IsNamed, by_name}
use Rattle.lido_syntax.specs.Computation.{Start, Output, Message}
use Rattle.lido_syntax.specs.Computation as goal
use Rattle.lido_symbols.specs.Uses.{computations, all_leaves, including_of, all_includings, constituents_of, all_constituents}
use Rattle.kind_clashes.specs.KindClash.{pairs_of}
use Rattle.kind_clashes.specs.KindClash as clash
use Rattle.kind_clashes.proofs.UsesLemmas.{of-used, by_leaf, by_pair}
use Rattle.rule_tables.specs.PlainRules.{PlainRule, number, cell, is_child}
use Rattle.rule_tables.specs.Forced.{Force, force_for}
use Rattle.rule_tables.specs.Needs.{Tables, Needs, AreTables, rules, ruled, listed_at, passes_including, has_start, shield_at}
use Rattle.rule_tables.specs.Slots.{Slot, Written, Inc, Con, Front}
use Rattle.rule_tables.specs.Shares.{Term, Read, Copied, Void, Comb, Single, Null, Empty, gives, below_term, threaded, front_term, tail_term, is_node, behind_term, out_term, including_term, source_term, void_source, weight_term}
use Rattle.rule_tables.specs.Shares as share
use Rattle.flat_laws.specs.Accepted.{IsAccepted}
use Rattle.flat_laws.proofs.Lists.{found-any}
use Rattle.flat_laws.proofs.SymbolLemmas.{left-number, left-nonterminal, filtered, cell-past}
use Rattle.flat_laws.proofs.RuleLemmas.{IsRuled, IsRuleOf, whole, listing, link, end, is-rule}
use Rattle.flat_laws.proofs.FaultLemmas.{no-clash}
use Rattle.flat_laws.proofs.NeedLemmas.{of-filter-map, listed-has}
use Rattle.flat_laws.proofs.ReadLemmas.{IsThere}
use Rattle.flat_laws.proofs.TermLemmas.{IsTermThere, read, void, comb, single, empty, below-there, void-below-there, behind-there, tail-there, force-copied}

module _ (spec : Spec) (early : Environment) (T : Tables spec) (accepted : IsAccepted spec early T) where
  -- a computation of the text stands in a rule or in a body
  pub in-text : (c : Comp) → Contains (computations spec) c → InText spec c
  in-text c m = by (Contains-append_cases (flat_map (λ (r : RuleItem). r.body) spec.rules) (flat_map (λ (item : SymbolItem). item.body) spec.symbols) c m)
    where
      by : Contains (flat_map (λ (r : RuleItem). r.body) spec.rules) c ⊎ Contains (flat_map (λ (item : SymbolItem). item.body) spec.symbols) c → InText spec c
      by (inl k) = let (r, mr, mc) = contains-flat (λ (r : RuleItem). r.body) spec.rules c k in inl (r, mr, mc)
      by (inr k) =
          let (item, mi, mc) = contains-flat (λ (item : SymbolItem). item.body) spec.symbols c k in
          let some = All-contains (λ (item : SymbolItem). 0 < length item.names) spec.symbols item accepted.from_text.about mi in
          let (x, e) = place-below item.names 0 some in
          inr (name_of x, (item, mi, test-contains (name_of x) (names_of item) (map-contains name_of item.names x (place-contains item.names 0 x e)), mc))

  -- a pair of a remote list names an attribute of its symbol
  pub pair-named : (e : Expr) → Contains (all_leaves spec) e → (q : Pair) → Contains (pairs_of e) q → IsNamed spec (name_of q.sym) (name_of q.attr)
  pair-named e m q mq =
      let (c, mc, me) = contains-flat leaves_of (computations spec) e m in
      let text = in-text c mc in
      by_name c q.sym None text
      (q.attr, of-used c (place.Named q.sym None) q.attr (by_leaf e me (by_pair q mq refl refl)), refl, λ chain. no-clash spec early T accepted q.attr.at (clash.chain_in_pair e q (c, text, me) mq chain refl)) refl

module _ (spec : Spec) (early env : Environment) (T : Tables spec) (tables : AreTables spec T env) (accepted : IsAccepted spec early T) (needs : Needs spec T) where
  pub including-leaf : (i : ℕ) (pairs : List Pair) → slice_get T.includings i ≡ Some pairs → (at : ℕ) × Contains (all_leaves spec) (Including at pairs)
  including-leaf i pairs e =
      let (at, m) = All-contains (λ (k : List Pair). (at : ℕ) × Contains (all_includings spec) (at, k)) T.includings pairs tables.includings.named (place-contains T.includings i pairs e) in
      let (leaf, ml, same) = of-filter-map including_of (all_leaves spec) (at, pairs) m in
      by leaf at ml same
    where
      by : (leaf : Expr) (at : ℕ) → Contains (all_leaves spec) leaf → including_of leaf ≡ Some (let z : ℕ × List Pair = (at, pairs) in z) → (at : ℕ) × Contains (all_leaves spec) (Including at pairs)
      by (Including first others) at ml same = (first, subst (λ (ps : List Pair). Contains (all_leaves spec) (Including first ps)) (ap (λ (z : ℕ × List Pair). z.1) (same_Some _ _ same)) ml)
      by _ at ml same = absurd (none-some _ same)

  pub constituents-leaf : (k : Cons) → Contains T.constituents k → Contains (all_leaves spec) (Constituents k)
  constituents-leaf k mk =
      let (at, m) = All-contains (λ (k : Cons). (at : ℕ) × Contains (all_constituents spec) (at, k)) T.constituents k tables.constituents.named mk in
      let (leaf, ml, same) = of-filter-map constituents_of (all_leaves spec) (at, k) m in
      by leaf at ml same
    where
      by : (leaf : Expr) (at : ℕ) → Contains (all_leaves spec) leaf → constituents_of leaf ≡ Some (let z : ℕ × Cons = (at, k) in z) → Contains (all_leaves spec) (Constituents k)
      by (Constituents l) at ml same = subst (λ (l : Cons). Contains (all_leaves spec) (Constituents l)) (ap (λ (z : ℕ × Cons). z.1) (same_Some _ _ same)) ml
      by _ at ml same = absurd (none-some _ same)

  module _ (i : ℕ) (p : PlainRule) (fs : List Force) (is : IsRuled spec env T tables i p fs) where
    abbrev There : ℕ → Slot → Type 0
    There = IsThere spec early env T tables accepted needs i p fs is

    abbrev IsIts : Term → Type 0
    IsIts = IsTermThere spec early env T tables accepted needs i p fs is

    -- a named symbol at the left side is a nonterminal
    pub left-named : (s : ℕ) → slice_get T.symbols p.left ≡ Some s → IsNonterminal spec s
    left-named s e = by (is-rule spec env T tables i p fs is)
      where
        written : (r : RuleItem) → slice_get spec.rules p.rule ≡ Some r → p.left ≡ number spec T.symbols (left_of r) → IsNonterminal spec s
        written r of left =
            let among = place-contains spec.rules p.rule r of in
            subst (IsNonterminal spec) (same_Some (left_of r) s (sym (left-number spec env T tables r among) ∙ ap (slice_get T.symbols) (sym left) ∙ e)) (left-nonterminal spec r among)

        of-cell : p.left ≡ cell spec T.symbols p.rule → IsNonterminal spec s
        of-cell left =
            let w = slice_get_within T.symbols p.left s e in
            let c = cell-past spec T.symbols p.rule in
            absurd (omega (arith, w, c, left))

        by : IsRuleOf spec T.symbols p → IsNonterminal spec s
        by (whole r h) = written r h.rule h.left
        by (listing r h) = written r h.rule h.left
        by (link r x h) = of-cell h.left
        by (end r h) = of-cell h.left

    listed-left : (pairs : List Pair) → ((q : Pair) → Contains pairs q → IsNamed spec (name_of q.sym) (name_of q.attr)) → (a : ℕ) → listed_at spec T pairs p.left ≡ Some a → There 0 (Written a)
    listed-left pairs named a e = by (slice_get T.symbols p.left) refl e
      where
        by : (o : Option ℕ) → slice_get T.symbols p.left ≡ o → option_and_then (listed spec T.sets pairs) o ≡ Some a → There 0 (Written a)
        by None f e = absurd (none-some a e)
        by (Some s) f e = record { x = p.left; at = refl; has = (s, f, left-named s f, listed-has spec env T tables needs pairs named s a e) }

    child : (j y : ℕ) → slice_get p.right j ≡ Some y → IsTrue (is_child (rules spec T) p.left y)
    child j y at = found-any (λ (q : PlainRule). if nat_eq q.left p.left then contains y q.right else false) (rules spec T) p (place-contains (rules spec T) i p is.plain)
        (ap (λ b. if b then contains y p.right else false) (eq-eqb p.left p.left refl) ∙ test-contains y p.right (place-contains p.right j y at))

    -- INCLUDING
    pub including-share : (k : ℕ) (s : Slot) (e : Term) → share.IncludingShare spec T needs p fs k s e → There k s × IsIts e
    including-share _ _ _ (share.handed_down j y n pairs at its need) = (
      record { x = y; at = at; has = (pairs, its, need) },
      by (listed_at spec T pairs p.left) refl,
    )
      where
        by : (o : Option ℕ) → listed_at spec T pairs p.left ≡ o → IsIts (elim o as (λ _. Term) [ Some a ↦ Read 0 (Written a) | None ↦ Read 0 (Inc n) ])
        by (Some a) e =
            let (at, m) = including-leaf n pairs its in
            read 0 (Written a) (listed-left pairs (λ q mq. pair-named spec early T accepted (Including at pairs) m q mq) a e)
        by None e = read 0 (Inc n) (record {
          x = p.left;
          at = refl;
          has = (pairs, its, (needs.including_exactly pairs p.left).1 (edge (passes e) ((needs.including_exactly pairs y).0 need)));
        })
          where
            passes : listed_at spec T pairs p.left ≡ None → IsTrue (passes_including spec T pairs p.left y)
            passes e = ap (λ (o : Option ℕ). not (is_some o) && is_child (rules spec T) p.left y) e ∙ child j y at

    -- CONSTITUENTS
    pub constituents-share : (k : ℕ) (s : Slot) (e : Term) → share.ConstituentsShare spec T needs p fs k s e → There k s × IsIts e
    constituents-share _ _ _ (share.gathered k numbered pass) = (
      record { x = p.left; at = refl; has = (k, numbered, refl, pass) },
      by (listed_at spec T k.pairs p.left) refl,
    )
      where
        own : (a : ℕ) → listed_at spec T k.pairs p.left ≡ Some a → There 0 (Written a)
        own a e = listed-left k.pairs (λ q mq. pair-named spec early T accepted (Constituents k) (constituents-leaf k numbered) q mq) a e

        below : IsIts (below_term spec T needs p fs k)
        below = below-there spec early env T tables accepted needs i p fs is k numbered

        void-items : (a : ℕ) → There 0 (Written a) → (b : Bool) (d : ℕ × Slot)
            → Contains ((let z : ℕ × Slot = (0, Written a) in z) ∷ (if b then [] else map (λ (j : ℕ). let z : ℕ × Slot = (j, Con k.number) in z) (gives spec T needs p fs k))) d → There d.0 d.1
        void-items a h b d m = elim (contains-cons (let z : ℕ × Slot = (0, Written a) in z) d (if b then [] else map (λ (j : ℕ). let z : ℕ × Slot = (j, Con k.number) in z) (gives spec T needs p fs k)) m) [
          | inl e ↦ subst (λ (d : ℕ × Slot). There d.0 d.1) e h
          | inr n ↦ rest b n
        ]
          where
            rest : (b : Bool) → Contains (if b then [] else map (λ (j : ℕ). let z : ℕ × Slot = (j, Con k.number) in z) (gives spec T needs p fs k)) d → There d.0 d.1
            rest true n = absurd (contains-nil d n)
            rest false n = void-below-there spec early env T tables accepted needs i p fs is k numbered d n

        sourced : (a : ℕ) → There 0 (Written a) → (o : Option With) → IsIts (elim o as (λ _. Term) [ None ↦ void_source spec T needs p fs k a | Some with ↦ source_term spec T needs p fs k with a ])
        sourced a h None = void _ (void-items a h (shield_at spec T k p.left))
        sourced a h (Some with) = shielded (shield_at spec T k p.left)
          where
            shielded : (b : Bool) → IsIts (if b then Single k.number with.single (Read 0 (Written a)) else Comb k.number with.comb (Single k.number with.single (Read 0 (Written a))) (below_term spec T needs p fs k))
            shielded true = single k.number with.single (Read 0 (Written a)) (read 0 (Written a) h)
            shielded false = comb k.number with.comb (Single k.number with.single (Read 0 (Written a))) (below_term spec T needs p fs k) (single k.number with.single (Read 0 (Written a)) (read 0 (Written a) h)) below

        by : (o : Option ℕ) → listed_at spec T k.pairs p.left ≡ o
            → IsIts (elim o as (λ _. Term) [ None ↦ below_term spec T needs p fs k | Some a ↦ elim k.with as (λ _. Term) [ None ↦ void_source spec T needs p fs k a | Some with ↦ source_term spec T needs p fs k with a ] ])
        by None e = below
        by (Some a) e = sourced a (own a e) k.with

    -- CHAIN
    pub chain-share : (k : ℕ) (s : Slot) (e : Term) → share.ChainShare spec T needs p fs k s e → There k s × IsIts e
    chain-share _ _ _ (share.in_front j y c at chain need) = (
      record { x = y; at = at; has = (chain, need) },
      behind-there spec early env T tables accepted needs i p fs is c chain (filter (λ n. nat_lt n (suc j)) (threaded spec T needs p fs c)) (λ n m. (filtered (λ n. nat_lt n (suc j)) (threaded spec T needs p fs c) n m).0) needed,
    )
      where
        three : (a b d : Bool) → a ≡ true → b ≡ false → d ≡ true → (a && not b && d) ≡ true
        three true false d e f g = g
        three false b d e f g = absurd (true≢false (sym e))
        three a true d e f g = absurd (true≢false f)

        needed : force_for fs 0 (Start c) ≡ None → IsTrue (needs.chain c p.left)
        needed none = (needs.chain_exactly c p.left).1 (edge
            (found-any (λ (t : PlainRule × List Force). nat_eq t.0.left p.left && not (has_start spec T t.1 c) && contains y t.0.right) (ruled spec T) (p, fs) (place-contains (ruled spec T) i (p, fs) is.both)
            (three (nat_eq p.left p.left) (has_start spec T fs c) (contains y p.right) (eq-eqb p.left p.left refl) (ap (λ (o : Option Force). is_some o) none) (test-contains y p.right (place-contains p.right j y at))))
            ((needs.chain_exactly c y).0 need))
    chain-share _ _ _ (share.behind c chain need) = (
      record { x = p.left; at = refl; has = (chain, need) },
      by (force_for fs 0 (goal.Behind c)) refl,
    )
      where
        passed : (b : Bool) → IsIts (if b then Read 0 (Front c) else tail_term spec T needs p fs c)
        passed true = read 0 (Front c) (record { x = p.left; at = refl; has = (chain, need) })
        passed false = tail-there spec early env T tables accepted needs i p fs is c chain (λ none. need)

        by : (o : Option Force) → force_for fs 0 (goal.Behind c) ≡ o
            → IsIts (elim o as (λ _. Term) [ Some f ↦ Copied f.holder f.comp | None ↦ if not (list_any (is_node spec T needs p fs) p.right) || has_start spec T fs c then Read 0 (Front c) else tail_term spec T needs p fs c ])
        by (Some f) e = force-copied spec early env T tables accepted needs i p fs is (goal.Behind c) f e
        by None e = passed (not (list_any (is_node spec T needs p fs) p.right) || has_start spec T fs c)

    -- the output
    pub out-share : IsIts (out_term spec T needs p fs)
    out-share = by (force_for fs 0 Output) refl
      where
        by : (o : Option Force) → force_for fs 0 Output ≡ o → IsIts (elim o as (λ _. Term) [ None ↦ Empty | Some f ↦ Copied f.holder f.comp ])
        by None e = empty
        by (Some f) e = force-copied spec early env T tables accepted needs i p fs is Output f e
