-- The grammars are well formed.
use Rattle.std.specs.Prelude.{slice_get, All, AllPairs, Bool, true, false, IsTrue, is_some, not, ◌&&◌, ◌||◌, nat_lt, option_and_then, sum_by, map, ◌%◌, ◌^◌, if◌then◌else◌}
use Rattle.std.specs.List.{list_any}
use Rattle.std.proofs.Common.{◌≡◌, ℕ, zero, suc, ◌+◌, ◌-◌, ◌*◌, ◌<◌, ◌≤◌, inl, List, [], ◌∷◌, length, Option, Some, None, refl, sym, ap, subst, ◌∙◌, arith, true≢false, eq-eqb, eqb-true, ltb-true}
use Rattle.std.proofs.lemmas.Option.{none-some}
use Rattle.std.proofs.lemmas.List.{length-replicate}
use Rattle.std.proofs.lemmas.List.Elements.{All-nil, All-contains}
use Rattle.std.proofs.lemmas.List.Sums.{sum_by-le}
use Rattle.std.proofs.Math.Nat.{mod-lt}
use Rattle.lido_base.specs.declared.ids.SymId.{SymId}
use Rattle.lido_base.specs.declared.ids.AttrId.{AttrId}
use Rattle.lido_base.specs.declared.ids.StrId.{StrId}
use Rattle.lido_base.specs.declared.kinds.Kind.{Kind}
use Rattle.lido_base.specs.declared.kinds.Kind.TheVariants.{Synthesized, Inherited}
use Rattle.lido_base.specs.declared.value.ValueType.{ValueType}
use Rattle.flat_grammar.specs.declared.flat.Occ.{Occ}
use Rattle.flat_grammar.specs.declared.flat.FlatSymbol.{FlatSymbol}
use Rattle.flat_grammar.specs.declared.flat.FlatAttr.{FlatAttr}
use Rattle.flat_grammar.specs.declared.flat.FlatRule.{FlatRule}
use Rattle.flat_grammar.specs.declared.flat.FlatComp.{FlatComp}
use Rattle.flat_grammar.specs.declared.flat.Shape.{Shape}
use Rattle.flat_grammar.specs.Rules.{symbols_of, symbol_at, attribute_at, attrs_of, dependencies, terminals_of}
use Rattle.flat_grammar.specs.WellFormed.{is_same_occ, is_same_symbol, is_synthesized, is_nonterminal, is_nonterminal_symbol, is_goal_kind, is_goal, is_terminal_at, attribute_of, right_side, cell_of, positions_from, IsRule, IsListShape, IsWellFormed}
use Rattle.flat_grammar.proofs.Lists.{held, contains-slice_get}
use Rattle.large_grammars.specs.declared.size.Size.{Size}
use Rattle.large_grammars.specs.Sizes.{EachAt, IsWithin, IsInside, IsGoalOf, IsSymbol, AreSymbols, IsRuleAt, AreRules, AreShapes, child_of, right_of, kind_of, goal_kind}
use Rattle.large_grammars.proofs.Places.{below-length, get-below, all-each, pairs-each, replicate-get}

same-bool : (a b : Bool) → (a ≡ true → b ≡ true) → (b ≡ true → a ≡ true) → a ≡ b
same-bool true true f g = refl
same-bool true false f g = sym (f refl)
same-bool false true f g = g refl
same-bool false false f g = refl

or-right : (a b : Bool) → b ≡ true → (a || b) ≡ true
or-right true b e = refl
or-right false b e = e

-- what passes a test stands at a place
any-get : {X : Type 0} (p : X → Bool) (xs : List X) → list_any p xs ≡ true → (k : ℕ) × (x : X) × (slice_get xs k ≡ Some x) × (p x ≡ true)
any-get p [] h = absurd (true≢false (sym h))
any-get {X} p (x ∷ xs) h = go (p x) refl h (any-get p xs)
  where
    go : (b : Bool) → p x ≡ b → (b || list_any p xs) ≡ true → (list_any p xs ≡ true → (k : ℕ) × (y : X) × (slice_get xs k ≡ Some y) × (p y ≡ true)) → (k : ℕ) × (y : X) × (slice_get (x ∷ xs) k ≡ Some y) × (p y ≡ true)
    go true e f later = (0, x, refl, e)
    go false e f later = let r = later f in (suc r.0, r.1, r.2, r.3)

any-of : {X : Type 0} (p : X → Bool) (xs : List X) (k : ℕ) (x : X) → slice_get xs k ≡ Some x → p x ≡ true → list_any p xs ≡ true
any-of p [] k x e h = absurd (none-some x e)
any-of p (y ∷ xs) zero x e h = ap (λ b. b || list_any p xs) (ap p (held e) ∙ h)
any-of p (y ∷ xs) (suc k) x e h = or-right (p y) (list_any p xs) (any-of p xs k x e h)

none-any : {X : Type 0} (p : X → Bool) (xs : List X) → ((k : ℕ) (x : X) → slice_get xs k ≡ Some x → p x ≡ false) → list_any p xs ≡ false
none-any p [] h = refl
none-any p (x ∷ xs) h = ap (λ b. b || list_any p xs) (h 0 x refl) ∙ none-any p xs (λ k y e. h (suc k) y e)

itself : (o : Occ) → is_same_occ o o ≡ true
itself o = rw (eq-eqb o.occ o.occ refl, eq-eqb o.attr.0 o.attr.0 refl) refl

both : (a b : Bool) → (a && b) ≡ true → (a ≡ true) × (b ≡ true)
both true b h = (refl, h)
both false b h = absurd (true≢false (sym h))

same-occ : (a b : Occ) → is_same_occ a b ≡ true → a ≡ b
same-occ a b h =
    let p = both _ _ h in
    let k : a.occ ≡ b.occ = eqb-true _ _ p.0 in
    let c : a.attr.0 ≡ b.attr.0 = eqb-true _ _ p.1 in
    λ i. record { occ = k i; attr = record { 0 = c i } }

kind-true : (k : ℕ) (attr : FlatAttr) → attr.kind ≡ goal_kind k → is_goal_kind k (Some attr) ≡ true
kind-true zero attr e = ap (λ (kind : Kind). is_synthesized kind) e
kind-true (suc k) attr e = ap (λ (kind : Kind). not (is_synthesized kind)) e

synthesized-is : (kind : Kind) → is_synthesized kind ≡ true → kind ≡ Synthesized
synthesized-is Synthesized e = refl
synthesized-is Inherited e = absurd (true≢false (sym e))

inherited-is : (kind : Kind) → not (is_synthesized kind) ≡ true → kind ≡ Inherited
inherited-is Synthesized e = absurd (true≢false (sym e))
inherited-is Inherited e = refl

kind-is : (k : ℕ) (attr : FlatAttr) → is_goal_kind k (Some attr) ≡ true → attr.kind ≡ goal_kind k
kind-is zero attr e = synthesized-is attr.kind e
kind-is (suc k) attr e = inherited-is attr.kind e

if-below : (b : Bool) (x y : SymId) (n : ℕ) → (b ≡ true → x.0 < n) → (b ≡ false → y.0 < n) → (if b then x else y).0 < n
if-below true x y n f g = f refl
if-below false x y n f g = g refl

positions-all : (p : FlatRule → Bool) → ((r : FlatRule) → p r ≡ true) → (k : ℕ) (rules : List FlatRule) (shapes : List Shape) → length shapes ≡ length rules → EachAt (λ j (s : Shape). s.rule.0 ≡ k + j) shapes
    → map (λ (s : Shape). s.rule.0) shapes ≡ positions_from p k rules
positions-all p all k [] [] e each = refl
positions-all p all k [] (s ∷ shapes) e each = absurd (omega arith)
positions-all p all k (r ∷ rules) [] e each = absurd (omega arith)
positions-all p all k (r ∷ rules) (s ∷ shapes) e each =
    let tail = positions-all p all (suc k) rules shapes (omega arith) (λ j x f. let h = each (suc j) x f in omega arith) in
    let head : s.rule.0 ≡ k = (let h = each 0 s refl in omega arith) in
    ap (λ (n : ℕ). n ∷ map (λ (x : Shape). x.rule.0) shapes) head ∙ (ap (λ (xs : List ℕ). k ∷ xs) tail
    ∙ sym (ap (λ (b : Bool). if b then k ∷ positions_from p (suc k) rules else positions_from p (suc k) rules) (all r)))

module _ (size : Size) (within : IsWithin size) (symbols : List FlatSymbol) (are : AreSymbols size symbols) where
  symbol-of : (s : SymId) → s.0 < size.symbols → (x : FlatSymbol) × (slice_get symbols s.0 ≡ Some x) × IsSymbol size s.0 x
  symbol-of s l = let e = are.all in let got = get-below symbols s.0 (omega arith) in (got.0, got.1, are.each s.0 got.0 got.1)

  nonterminal : (s : SymId) → s.0 < size.symbols → IsTrue (is_nonterminal symbols s)
  nonterminal s l = let h = symbol-of s l in subst (λ (o : Option FlatSymbol). IsTrue (is_nonterminal_symbol o)) (sym h.1) (subst (λ (t : Option ValueType). IsTrue (not (is_some t))) (sym h.2.terminal) refl)

  abbrev attrs_in : Option FlatSymbol → List FlatAttr
  attrs_in o = elim o [ None ↦ [] | Some x ↦ x.attrs ]

  attrs-count : (s : SymId) → s.0 < size.symbols → length (attrs_of symbols s) ≡ size.attributes
  attrs-count s l = let h = symbol-of s l in subst (λ (o : Option FlatSymbol). length (attrs_in o) ≡ size.attributes) (sym h.1) h.2.attributes.all

  attribute-is : (s : SymId) (a : AttrId) → s.0 < size.symbols → a.0 < size.attributes → (attr : FlatAttr) × (attribute_at symbols s a ≡ Some attr) × (attr.kind ≡ kind_of a.0)
  attribute-is s a l m =
      let h = symbol-of s l in
      let e = h.2.attributes.all in
      let got = get-below h.0.attrs a.0 (omega arith) in
      (got.0, subst (λ (o : Option FlatSymbol). option_and_then (λ (x : FlatSymbol). slice_get x.attrs a.0) o ≡ Some got.0) (sym h.1) got.1, (h.2.attributes.each a.0 got.0 got.1).1)

  attribute-in : (s : SymId) (a : AttrId) (attr : FlatAttr) → attribute_at symbols s a ≡ Some attr → s.0 < size.symbols → (a.0 < size.attributes) × (attr.kind ≡ kind_of a.0)
  attribute-in s a attr e l =
      let h = symbol-of s l in
      let n = h.2.attributes.all in
      let got : slice_get h.0.attrs a.0 ≡ Some attr = subst (λ (o : Option FlatSymbol). option_and_then (λ (x : FlatSymbol). slice_get x.attrs a.0) o ≡ Some attr) h.1 e in
      let b = below-length h.0.attrs a.0 attr got in ((omega arith), (h.2.attributes.each a.0 attr got).1)

  abbrev at_symbol : Option SymId → AttrId → Option FlatAttr
  at_symbol s a = elim s [ None ↦ None | Some q ↦ attribute_at symbols q a ]

  abbrev origin_at : FlatRule → ℕ → Option FlatSymbol
  origin_at r n = elim (symbol_at r n) [ None ↦ None | Some s ↦ slice_get symbols s.0 ]

  module _ (r : FlatRule) (j : ℕ) (at : IsRuleAt size j r) where
    left-below : r.left.0 < size.symbols
    left-below = let m = mod-lt j {m = size.symbols} within.some in let e = at.left in omega arith

    child-below : (child_of size (j % size.symbols)).0 < size.symbols
    child-below = if-below size.bottom_up (record { 0 = (j % size.symbols) - 1 }) (if nat_lt ((j % size.symbols) + 1) size.symbols then record { 0 = (j % size.symbols) + 1 } else record { 0 = (j % size.symbols) }) size.symbols
        (λ e. let l = mod-lt j {m = size.symbols} within.some in omega arith)
        (λ e. if-below (nat_lt ((j % size.symbols) + 1) size.symbols) (record { 0 = (j % size.symbols) + 1 }) (record { 0 = (j % size.symbols) }) size.symbols (λ f. ltb-true _ _ f) (λ f. mod-lt j {m = size.symbols} within.some))

    right-count : length r.right ≡ size.children
    right-count = ap (λ (xs : List SymId). length xs) at.right ∙ length-replicate size.children (child_of size (j % size.symbols))

    symbol-in : (k : ℕ) (s : SymId) → symbol_at r k ≡ Some s → (k ≤ size.children) × (s.0 < size.symbols)
    symbol-in zero s e = ((omega arith), subst (λ (q : SymId). q.0 < size.symbols) (held e) left-below)
    symbol-in (suc k) s e =
        let got : slice_get (right_of size j) k ≡ Some s = subst (λ (xs : List SymId). slice_get xs k ≡ Some s) at.right e in
        let n = below-length r.right k s e in
        let c = right-count in
        ((omega arith), subst (λ (q : SymId). q.0 < size.symbols) (sym (replicate-get size.children (child_of size (j % size.symbols)) s k got)) child-below)

    symbol-some : (k : ℕ) → k ≤ size.children → (s : SymId) × (symbol_at r k ≡ Some s)
    symbol-some k l = let c = right-count in get-below (symbols_of r) k (omega arith)

    attribute-some : (o : Occ) → IsInside size o → (attr : FlatAttr) × (attribute_of symbols r o ≡ Some attr) × (attr.kind ≡ kind_of o.attr.0)
    attribute-some o i =
        let s = symbol-some o.occ i.0 in
        let h = attribute-is s.0 o.attr (symbol-in o.occ s.0 s.1).1 i.1 in
        (h.0, subst (λ (q : Option SymId). at_symbol q o.attr ≡ Some h.0) (sym s.1) h.1, h.2)

    inside-of : (o : Occ) (attr : FlatAttr) → attribute_of symbols r o ≡ Some attr → IsInside size o × (attr.kind ≡ kind_of o.attr.0)
    inside-of o attr e = go (symbol_at r o.occ) refl e
      where
        go : (q : Option SymId) → symbol_at r o.occ ≡ q → at_symbol q o.attr ≡ Some attr → IsInside size o × (attr.kind ≡ kind_of o.attr.0)
        go None f h = absurd (none-some attr h)
        go (Some s) f h = let b = symbol-in o.occ s f in let a = attribute-in s o.attr attr h b.1 in ((b.0, a.0), a.1)

    goal-true : (o : Occ) → IsGoalOf size o → is_goal symbols r o ≡ true
    goal-true o g = let h = attribute-some o g.0 in subst (λ (q : Option FlatAttr). is_goal_kind o.occ q ≡ true) (sym h.1) (kind-true o.occ h.0 (h.2 ∙ g.1))

    goal-of : (o : Occ) → is_goal symbols r o ≡ true → IsGoalOf size o
    goal-of o e = go (attribute_of symbols r o) refl e
      where
        go : (q : Option FlatAttr) → attribute_of symbols r o ≡ q → is_goal_kind o.occ q ≡ true → IsGoalOf size o
        go None f h = absurd (true≢false (sym h))
        go (Some attr) f h = let i = inside-of o attr f in (i.0, sym i.1 ∙ kind-is o.occ attr h)

    goals-are : (o : Occ) → list_any (λ (c : FlatComp). is_same_occ c.goal o) r.comps ≡ is_goal symbols r o
    goals-are o = same-bool (list_any (λ (c : FlatComp). is_same_occ c.goal o) r.comps) (is_goal symbols r o) fore back
      where
        fore : list_any (λ (c : FlatComp). is_same_occ c.goal o) r.comps ≡ true → is_goal symbols r o ≡ true
        fore h = let got = any-get (λ (c : FlatComp). is_same_occ c.goal o) r.comps h in
            goal-true o (subst (λ (p : Occ). IsGoalOf size p) (same-occ got.1.goal o got.3) (at.computations.each got.0 got.1 got.2).0.goal)

        back : is_goal symbols r o ≡ true → list_any (λ (c : FlatComp). is_same_occ c.goal o) r.comps ≡ true
        back h =
            let g = goal-of o h in
            let l = g.0.0 in
            let got = at.computations.goals o g (inl (omega arith)) in
            any-of (λ (c : FlatComp). is_same_occ c.goal o) r.comps got.0 got.1 got.2 (subst (λ (p : Occ). is_same_occ got.1.goal p ≡ true) got.3 (itself got.1.goal))

    is-some : (o : Occ) → IsInside size o → IsTrue (is_some (attribute_of symbols r o))
    is-some o i = let h = attribute-some o i in subst (λ (q : Option FlatAttr). IsTrue (is_some q)) (sym h.1) refl

    rule-is : IsRule symbols r
    rule-is = record {
      left_side = nonterminal r.left left-below;
      right_side = all-each (λ (s : SymId). s.0 < length symbols) r.right (λ k s e. let b = (symbol-in (suc k) s e).1 in let n = are.all in omega arith);
      goals = goals-are;
      once = pairs-each (λ (c d : FlatComp). c.goal ≡ d.goal → ⊥) r.comps (λ i k c d e f l s. let same = at.computations.once i k c d e f s in omega arith);
      dependencies_in_range = all-each (λ (c : FlatComp). All (λ o. IsTrue (is_some (attribute_of symbols r o))) (dependencies c)) r.comps (λ k c e. all-each (λ o. IsTrue (is_some (attribute_of symbols r o))) (dependencies c) (λ n o f.
          is-some o (All-contains (IsInside size) (dependencies c) o (at.computations.each k c e).0.inside (contains-slice_get (dependencies c) n o f))));
      terminals = all-each (λ (c : FlatComp). All (λ k. IsTrue (is_terminal_at symbols r k)) (terminals_of c.value)) r.comps (λ k c e. subst (λ (xs : List ℕ). All (λ n. IsTrue (is_terminal_at symbols r n)) xs) (sym (at.computations.each k c e).0.terminals) (All-nil _));
      origins = all-each (λ (c : FlatComp). IsTrue (is_nonterminal_symbol (origin_at r c.origin))) r.comps (λ k c e. subst (λ (n : ℕ). IsTrue (is_nonterminal_symbol (origin_at r n))) (sym (at.computations.each k c e).0.origin) (nonterminal r.left left-below));
    }

    few : sum_by (λ s. length (attrs_of symbols s)) (symbols_of r) ≤ 1024
    few =
        let h = sum_by-le (λ (s : SymId). length (attrs_of symbols s)) size.attributes (symbols_of r) (all-each (λ (s : SymId). length (attrs_of symbols s) ≤ size.attributes) (symbols_of r) (λ k s e. let c = attrs-count s (symbol-in k s e).1 in omega arith)) in
        let c : length (symbols_of r) ≡ 1 + size.children = (let n = right-count in omega arith) in
        let g : sum_by (λ (s : SymId). length (attrs_of symbols s)) (symbols_of r) ≤ (1 + size.children) * size.attributes = subst (λ (n : ℕ). sum_by (λ (s : SymId). length (attrs_of symbols s)) (symbols_of r) ≤ n * size.attributes) c h in
        let m = within.occurrences in omega arith

  module _ (rules : List FlatRule) (are_rules : AreRules size rules) (shapes : List Shape) (are_shapes : AreShapes size shapes) where
    right-is : (k : ℕ) (s : Shape) → slice_get shapes k ≡ Some s → s.right ≡ right_side rules s
    right-is k s e =
        let a = are_shapes.each k s e in
        let l = below-length shapes k s e in
        let m = are_shapes.all in let n = are_rules.all in
        let got = get-below rules k (omega arith) in
        let at : slice_get rules s.rule.0 ≡ Some got.0 = ap (λ (i : ℕ). slice_get rules i) a.rule ∙ got.1 in
        subst (λ (o : Option FlatRule). s.right ≡ elim o [ None ↦ [] | Some r ↦ r.right ]) (sym at) (a.right ∙ sym (are_rules.each k got.0 got.1).right)

    no-cell : (r : FlatRule) → not (list_any (λ (shape : Shape). shape.list && is_same_symbol r.left (cell_of rules shape)) shapes) ≡ true
    no-cell r = ap (λ (b : Bool). not b) (none-any (λ (shape : Shape). shape.list && is_same_symbol r.left (cell_of rules shape)) shapes (λ k s e. ap (λ (b : Bool). b && is_same_symbol r.left (cell_of rules s)) (are_shapes.each k s e).plain))

    pub well-formed : (root : SymId) → root.0 < size.symbols → IsWellFormed symbols rules shapes root
    well-formed root below = record {
      root_symbol = nonterminal root below;
      terminals_bare = all-each (λ (x : FlatSymbol). IsTrue (is_some x.terminal) → x.attrs ≡ []) symbols (λ k x e h. absurd (true≢false (sym h ∙ ap (λ (t : Option ValueType). is_some t) (are.each k x e).terminal)));
      symbol_names = pairs-each (λ (x y : FlatSymbol). x.name ≡ y.name → ⊥) symbols (λ i k x y e f l s. let a = (are.each i x e).name in let b = (are.each k y f).name in let c = ap (λ (n : StrId). n.0) s in omega arith);
      attribute_names = all-each (λ (x : FlatSymbol). AllPairs (λ a b. a.name ≡ b.name → ⊥) x.attrs) symbols (λ n x g. pairs-each (λ (a b : FlatAttr). a.name ≡ b.name → ⊥) x.attrs (λ i k a b e f l s.
          let p = ((are.each n x g).attributes.each i a e).0 in let q = ((are.each n x g).attributes.each k b f).0 in let c = ap (λ (m : StrId). m.0) s in omega arith));
      rule_names = pairs-each (λ (x y : FlatRule). x.name ≡ y.name → ⊥) rules (λ i k x y e f l s. let a = (are_rules.each i x e).name in let b = (are_rules.each k y f).name in let c = ap (λ (n : StrId). n.0) s in omega arith);
      each_rule = all-each (IsRule symbols) rules (λ k r e. rule-is r k (are_rules.each k r e));
      each_list = all-each (λ (shape : Shape). IsTrue shape.list → IsListShape symbols rules shape (cell_of rules shape)) shapes (λ k s e h. absurd (true≢false (sym h ∙ (are_shapes.each k s e).plain)));
      each_plain = all-each (λ (shape : Shape). shape.list ≡ false → shape.right ≡ right_side rules shape) shapes (λ k s e h. right-is k s e);
      each_shape = positions-all (λ r. not (list_any (λ (shape : Shape). shape.list && is_same_symbol r.left (cell_of rules shape)) shapes)) no-cell 0 rules shapes (let m = are_shapes.all in let n = are_rules.all in omega arith)
          (λ k s e. let a = (are_shapes.each k s e).rule in omega arith);
      numbered_symbols = (let a = are.all in let b = within.symbols in omega arith);
      numbered_rules = (let a = are_rules.all in let b = within.rules in omega arith);
      numbered_occurrences = all-each (λ (r : FlatRule). length r.right < 2 ^ 16) rules (λ k r e. let a = right-count r k (are_rules.each k r e) in let b = within.children in omega arith);
      few_attributes = all-each (λ (x : FlatSymbol). length x.attrs ≤ 256) symbols (λ k x e. let a = (are.each k x e).attributes.all in let b = within.attributes in omega arith);
      few_occurrences = all-each (λ (r : FlatRule). sum_by (λ s. length (attrs_of symbols s)) (symbols_of r) ≤ 1024) rules (λ k r e. few r k (are_rules.each k r e));
    }
