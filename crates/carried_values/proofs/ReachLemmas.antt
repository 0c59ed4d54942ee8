-- A symbol can reach a source of a CONSTITUENTS in the plain rules just where it can in the written ones.
use Rattle.std.specs.Prelude.{Contains, IsTrue, slice_get, nat_eq, map, flat_map, not, ◌&&◌, if◌then◌else◌}
use Rattle.std.proofs.Common.{◌≡◌, ℕ, inl, inr, Bool, true, false, [], ◌∷◌, ◌++◌, Option, Some, None, refl, sym, ap, subst, ◌∙◌, arith, eqb-true, eq-eqb, true≢false}
use Rattle.std.proofs.lemmas.Option.{same_Some, slice_get_within}
use Rattle.std.proofs.lemmas.List.Elements.{Contains-append_left, Contains-append_right}
use Rattle.lido_base.specs.Reach.{source, edge}
use Rattle.lido_base.specs.Tree.{contains}
use Rattle.lido_base.proofs.Lists.{contains-nil, contains-cons, contains-map, map-contains, flat-contains, contains-place, place-contains}
use Rattle.lido_base.proofs.TreeLemmas.{both, contains-test, test-contains}
use Rattle.lido_syntax.specs.declared.spec.Cons.{Cons}
use Rattle.lido_syntax.specs.declared.spec.RuleItem.{RuleItem}
use Rattle.lido_syntax.specs.Production.{left_of, right_of}
use Rattle.lido_syntax.specs.Sets.{has_child, is_source, is_shield, ReachesSource}
use Rattle.lido_symbols.specs.Numbers.{different}
use Rattle.rule_tables.specs.PlainRules.{PlainRule, number, cell, written_rule, cell_rules, is_child}
use Rattle.rule_tables.specs.Needs.{rules, shield_at, CanReach}
use Rattle.rule_tables.proofs.LimitLemmas.{different-all}
use Rattle.rule_tables.proofs.NeedsLemmas.{any-found}
use Rattle.flat_laws.proofs.Lists.{found-any}
use Rattle.flat_laws.proofs.SymbolLemmas.{left-number, right-number, cell-past, one-cell, numbered, rule-numbered}
use Rattle.flat_laws.proofs.RuleLemmas.{IsRuleOf, whole, listing, link, end, rule-of, plain-at, link_at, end_at}
use Rattle.carried_trees.specs.Flattening.{Flattening, IsFlattening}

pub same-tests : (a b : Bool) → (IsTrue a → IsTrue b) → (IsTrue b → IsTrue a) → a ≡ b
same-tests true b forth back = sym (forth refl)
same-tests false true forth back = back refl
same-tests false false forth back = refl

pub both-hold : (a b : Bool) → IsTrue a → IsTrue b → IsTrue (a && b)
both-hold true b h k = k
both-hold false b h k = absurd (true≢false (sym h))

if-holds : (a b : Bool) → IsTrue (if a then b else false) → IsTrue a × IsTrue b
if-holds true b h = (refl, h)
if-holds false b h = absurd (true≢false (sym h))

module _ (f : Flattening) (is : IsFlattening f) where
  abbrev number_of : ℕ → ℕ
  number_of s = number f.spec f.tables.symbols s

  abbrev cell_of : ℕ → ℕ
  cell_of i = cell f.spec f.tables.symbols i

  -- a cell has no symbol
  pub cell-none : (i : ℕ) → slice_get f.tables.symbols (cell_of i) ≡ None
  cell-none i = by (slice_get f.tables.symbols (cell_of i)) refl
    where
      by : (o : Option ℕ) → slice_get f.tables.symbols (cell_of i) ≡ o → o ≡ None
      by None e = refl
      by (Some s) e = let w = slice_get_within f.tables.symbols (cell_of i) s e in let c = cell-past f.spec f.tables.symbols i in absurd (omega (arith, w, c))

  no-symbol : (i s x : ℕ) → x ≡ cell_of i → slice_get f.tables.symbols x ≡ Some s → ⊥
  no-symbol i s x e at = let w = slice_get_within f.tables.symbols x s at in let c = cell-past f.spec f.tables.symbols i in omega (arith, w, c, e)

  -- a plain rule leads from its left side to its right side
  pub leads : (p : PlainRule) → Contains (rules f.spec f.tables) p → (x y : ℕ) → p.left ≡ x → Contains p.right y → IsTrue (is_child (rules f.spec f.tables) x y)
  leads p m x y left right = found-any (λ (q : PlainRule). if nat_eq q.left x then contains y q.right else false) (rules f.spec f.tables) p m
      (ap (λ b. if b then contains y p.right else false) (eq-eqb p.left x left) ∙ test-contains y p.right right)

  -- the rule of an element in a list's cell
  pub link-in : (i : ℕ) (r : RuleItem) → slice_get f.spec.rules i ≡ Some r → r.list ≡ true → (e : ℕ) → Contains (right_of r) e → Contains (rules f.spec f.tables) (link_at f.spec f.tables.symbols i e)
  link-in i r of l e m =
      Contains-append_right (map (written_rule f.spec f.tables.symbols) (numbered f.spec f.tables.symbols)) (flat_map (cell_rules f.spec f.tables.symbols) (numbered f.spec f.tables.symbols)) (link_at f.spec f.tables.symbols i e)
      (flat-contains (cell_rules f.spec f.tables.symbols) (numbered f.spec f.tables.symbols) (i, r) (link_at f.spec f.tables.symbols i e)
      (place-contains (numbered f.spec f.tables.symbols) i (i, r) (rule-numbered f.spec f.tables.symbols i r of))
      (subst (λ b. Contains (if b then map (link_at f.spec f.tables.symbols i) (different (right_of r)) ++ end_at f.spec f.tables.symbols i ∷ [] else []) (link_at f.spec f.tables.symbols i e)) (sym l)
      (Contains-append_left (map (link_at f.spec f.tables.symbols i) (different (right_of r))) (end_at f.spec f.tables.symbols i ∷ []) (link_at f.spec f.tables.symbols i e)
      (map-contains (link_at f.spec f.tables.symbols i) (different (right_of r)) e (different-all (right_of r) e m)))))

  module _ (k : Cons) where
    abbrev IsReached : ℕ → Type 0
    IsReached = ReachesSource f.spec f.tables.sets.inherits k

    -- what it says of a number that it can reach a source: of a symbol's the same, and of a cell's that an element can
    record Means (x : ℕ) : Type 0 where
      of_symbol : (s : ℕ) → slice_get f.tables.symbols x ≡ Some s → IsReached s
      of_cell : (i : ℕ) (r : RuleItem) → slice_get f.spec.rules i ≡ Some r → r.list ≡ true → x ≡ cell_of i → (e : ℕ) × Contains (right_of r) e × IsReached e

    abbrev open_at : Option ℕ → Bool
    open_at o = not (elim o as (λ _. Bool) [ None ↦ false | Some s ↦ is_shield f.spec f.tables.sets.inherits k s ])

    -- a rule whose left side is no shield, and an element that can
    through : (r : RuleItem) → Contains f.spec.rules r → (c : ℕ) → Contains (right_of r) c → IsReached c → IsTrue (not (is_shield f.spec f.tables.sets.inherits k (left_of r))) → IsReached (left_of r)
    through r among c m reached unshielded =
        edge (both-hold (not (is_shield f.spec f.tables.sets.inherits k (left_of r))) (has_child f.spec (left_of r) c) unshielded
        (found-any (λ (q : RuleItem). nat_eq (left_of q) (left_of r) && contains c (right_of q)) f.spec.rules r among
        (both-hold (nat_eq (left_of r) (left_of r)) (contains c (right_of r)) (eq-eqb (left_of r) (left_of r) refl) (test-contains c (right_of r) m)))) reached

    from-written : (x : ℕ) (p : PlainRule) (r : RuleItem) → slice_get f.spec.rules p.rule ≡ Some r → p.left ≡ number_of (left_of r) → p.left ≡ x → IsTrue (not (shield_at f.spec f.tables k x))
        → (c : ℕ) → Contains (right_of r) c → IsReached c → Means x
    from-written x p r of left same unshielded c m reached = record {
      of_symbol = λ s at. subst IsReached (its s at) (through r among c m reached (ap open_at (sym here) ∙ unshielded));
      of_cell = λ i q of l e. absurd (no-symbol i (left_of r) x e here);
    }
      where
        among : Contains f.spec.rules r
        among = place-contains f.spec.rules p.rule r of

        here : slice_get f.tables.symbols x ≡ Some (left_of r)
        here = ap (slice_get f.tables.symbols) (sym same ∙ left) ∙ left-number f.spec f.env f.tables is.tables r among

        its : (s : ℕ) → slice_get f.tables.symbols x ≡ Some s → left_of r ≡ s
        its s at = same_Some (left_of r) s (sym here ∙ at)

    step : (x y : ℕ) (p : PlainRule) → IsRuleOf f.spec f.tables.symbols p → p.left ≡ x → Contains p.right y → IsTrue (not (shield_at f.spec f.tables k x)) → Means y → Means x
    step x y p (whole r h) left right unshielded later =
        let among = place-contains f.spec.rules p.rule r h.rule in
        let (c, m, e) = contains-map number_of (right_of r) y (subst (λ l. Contains l y) h.right right) in
        from-written x p r h.rule h.left left unshielded c m (later.of_symbol c (ap (slice_get f.tables.symbols) (sym e) ∙ right-number f.spec f.env f.tables is.tables r among c m))
    step x y p (listing r h) left right unshielded later = elim (contains-cons (cell_of p.rule) y [] (subst (λ l. Contains l y) h.right right)) [
      | inl e ↦ let (c, m, reached) = later.of_cell p.rule r h.rule h.list (sym e) in from-written x p r h.rule h.left left unshielded c m reached
      | inr n ↦ absurd (contains-nil y n)
    ]
    step x y p (link r s h) left right unshielded later = record {
      of_symbol = λ q at. absurd (no-symbol p.rule q x (sym left ∙ h.left) at);
      of_cell = λ i q of l e. subst (λ (q : RuleItem). (e : ℕ) × Contains (right_of q) e × IsReached e) (same_Some r q (sym h.rule ∙ ap (slice_get f.spec.rules) (one-cell f.spec f.tables.symbols p.rule i r q h.rule h.list of l (sym h.left ∙ left ∙ e)) ∙ of)) element;
    }
      where
        element : (e : ℕ) × Contains (right_of r) e × IsReached e
        element = elim (contains-cons (number_of s) y (cell_of p.rule ∷ []) (subst (λ l. Contains l y) h.right right)) [
          | inl e ↦ (s, h.element, later.of_symbol s (ap (slice_get f.tables.symbols) (sym e) ∙ right-number f.spec f.env f.tables is.tables r (place-contains f.spec.rules p.rule r h.rule) s h.element))
          | inr n ↦ elim (contains-cons (cell_of p.rule) y [] n) [ inl e ↦ later.of_cell p.rule r h.rule h.list (sym e) | inr z ↦ absurd (contains-nil y z) ]
        ]
    step x y p (end r h) left right unshielded later = absurd (contains-nil y (subst (λ l. Contains l y) h.right right))

    means : (x : ℕ) → CanReach f.spec f.tables k x → Means x
    means x (source h) = record {
      of_symbol = λ s at. source (ap (λ (o : Option ℕ). elim o as (λ _. Bool) [ None ↦ false | Some s ↦ is_source f.spec f.tables.sets.inherits k s ]) (sym at) ∙ h);
      of_cell = λ i r of l e. absurd (true≢false (sym h ∙ ap (λ (o : Option ℕ). elim o as (λ _. Bool) [ None ↦ false | Some s ↦ is_source f.spec f.tables.sets.inherits k s ]) (ap (slice_get f.tables.symbols) e ∙ cell-none i)));
    }
    means x (edge {c = y} h later) =
        let (unshielded, child) = both (not (shield_at f.spec f.tables k x)) (is_child (rules f.spec f.tables) x y) h in
        let (p, m, pass) = any-found (λ (p : PlainRule). if nat_eq p.left x then contains y p.right else false) (rules f.spec f.tables) child in
        let (left, right) = if-holds (nat_eq p.left x) (contains y p.right) pass in
        step x y p (rule-of f.spec f.tables.symbols p m) (eqb-true p.left x left) (contains-test y p.right right) unshielded (means y later)

    -- a cell is no shield
    cell-open : (i : ℕ) → IsTrue (not (shield_at f.spec f.tables k (cell_of i)))
    cell-open i = ap open_at (cell-none i)

    element-reaches : (i : ℕ) (r : RuleItem) → slice_get f.spec.rules i ≡ Some r → r.list ≡ true → (e : ℕ) → Contains (right_of r) e → CanReach f.spec f.tables k (number_of e) → CanReach f.spec f.tables k (cell_of i)
    element-reaches i r of l e m later =
        edge (both-hold (not (shield_at f.spec f.tables k (cell_of i))) (is_child (rules f.spec f.tables) (cell_of i) (number_of e)) (cell-open i)
        (leads (link_at f.spec f.tables.symbols i e) (link-in i r of l e m) (cell_of i) (number_of e) refl (0, omega arith, refl))) later

    reaches-back : (s : ℕ) → IsReached s → slice_get f.tables.symbols (number_of s) ≡ Some s → CanReach f.spec f.tables k (number_of s)
    reaches-back s (source h) at = source (ap (λ (o : Option ℕ). elim o as (λ _. Bool) [ None ↦ false | Some s ↦ is_source f.spec f.tables.sets.inherits k s ]) at ∙ h)
    reaches-back s (edge {c = c} h later) at =
        let (unshielded, child) = both (not (is_shield f.spec f.tables.sets.inherits k s)) (has_child f.spec s c) h in
        let (r, among, pass) = any-found (λ (q : RuleItem). nat_eq (left_of q) s && contains c (right_of q)) f.spec.rules child in
        let (left, right) = both (nat_eq (left_of r) s) (contains c (right_of r)) pass in
        let m = contains-test c (right_of r) right in
        let (i, of) = contains-place f.spec.rules r among in
        by i r of (eqb-true (left_of r) s left) m (ap open_at at ∙ unshielded) (reaches-back c later (right-number f.spec f.env f.tables is.tables r among c m)) r.list refl
      where
        by : (i : ℕ) (r : RuleItem) → slice_get f.spec.rules i ≡ Some r → left_of r ≡ s → Contains (right_of r) c → IsTrue (not (shield_at f.spec f.tables k (number_of s))) → CanReach f.spec f.tables k (number_of c)
            → (b : Bool) → r.list ≡ b → CanReach f.spec f.tables k (number_of s)
        by i r of left m unshielded reached b l =
            let p = written_rule f.spec f.tables.symbols (i, r) in
            let among : Contains (rules f.spec f.tables) p = place-contains (rules f.spec f.tables) i p (plain-at f.spec f.tables.symbols i r of) in
            let to : (y : ℕ) → Contains p.right y → IsTrue (not (shield_at f.spec f.tables k (number_of s)) && is_child (rules f.spec f.tables) (number_of s) y)
            = λ y my. both-hold (not (shield_at f.spec f.tables k (number_of s))) (is_child (rules f.spec f.tables) (number_of s) y) unshielded (leads p among (number_of s) y (ap number_of left) my) in
            at-list b l to
          where
            at-list : (b : Bool) → r.list ≡ b
                → ((y : ℕ) → Contains (if r.list then cell_of i ∷ [] else map number_of (right_of r)) y → IsTrue (not (shield_at f.spec f.tables k (number_of s)) && is_child (rules f.spec f.tables) (number_of s) y))
                → CanReach f.spec f.tables k (number_of s)
            at-list false l to = edge (to (number_of c) (subst (λ b. Contains (if b then cell_of i ∷ [] else map number_of (right_of r)) (number_of c)) (sym l) (map-contains number_of (right_of r) c m))) reached
            at-list true l to = edge (to (cell_of i) (subst (λ b. Contains (if b then cell_of i ∷ [] else map number_of (right_of r)) (cell_of i)) (sym l) (0, omega arith, refl))) (element-reaches i r of l c m reached)

    -- a symbol of the specification
    pub reach-same : (s : ℕ) → slice_get f.tables.symbols (number_of s) ≡ Some s → f.needs.reaches k (number_of s) ≡ f.tables.sets.reaches k s
    reach-same s at = same-tests (f.needs.reaches k (number_of s)) (f.tables.sets.reaches k s)
        (λ h. (f.tables.sets.reaches_exactly k s).1 ((means (number_of s) ((f.needs.reaches_exactly k (number_of s)).0 h)).of_symbol s at))
        (λ h. (f.needs.reaches_exactly k (number_of s)).1 (reaches-back s ((f.tables.sets.reaches_exactly k s).0 h) at))

    -- a cell can where an element can
    pub cell-reaches : (i : ℕ) (r : RuleItem) → slice_get f.spec.rules i ≡ Some r → r.list ≡ true → (e : ℕ) → Contains (right_of r) e → IsTrue (f.tables.sets.reaches k e) → IsTrue (f.needs.reaches k (cell_of i))
    cell-reaches i r of l e m h =
        (f.needs.reaches_exactly k (cell_of i)).1 (element-reaches i r of l e m (reaches-back e ((f.tables.sets.reaches_exactly k e).0 h) (right-number f.spec f.env f.tables is.tables r (place-contains f.spec.rules i r of) e m)))
