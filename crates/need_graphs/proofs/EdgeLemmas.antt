-- The edges of plain rules are those of the rules in the tables.
use Rattle.std.specs.Prelude.{nat_eq, ◌||◌, IsTrue, Contains, slice_get, ◌↔◌}
use Rattle.std.specs.List.{AllZip, list_any}
use Rattle.std.proofs.Common.{◌≡◌, ℕ, ◌<◌, ◌⊎◌, inl, inr, Bool, true, false, if◌then◌else◌, List, [], ◌∷◌, length, Some, refl, sym, ap, subst, ◌∙◌, arith, eqb-true, eq-eqb}
use Rattle.std.proofs.lemmas.Option.{slice_get_within}
use Rattle.std.proofs.lemmas.Slice.Zip.{AllZip-long}
use Rattle.lido_base.specs.Environment.{Environment}
use Rattle.lido_base.specs.Tree.{contains}
use Rattle.lido_base.specs.declared.ids.SymId.{SymId}
use Rattle.lido_base.proofs.Lists.{contains-nil, contains-cons, contains-here, contains-later, map-contains, contains-place, place-contains, place-below, AllZip-place}
use Rattle.lido_base.proofs.TreeLemmas.{contains-test, test-contains}
use Rattle.flat_grammar.specs.declared.flat.FlatRule.{FlatRule}
use Rattle.least_paths.specs.Graph.{is_in}
use Rattle.rule_graphs.specs.Children.{IsRuleEdge}
use Rattle.rule_tables.specs.declared.table.Tables.{Tables}
use Rattle.rule_tables.specs.PlainRules.{PlainRule, plain_rules, is_child}
use Rattle.rule_tables.specs.TablesOf.{named_symbols, AreTablesOf, IsPlainOf}
use Rattle.rule_tables.proofs.NeedsLemmas.{any-found}
use Rattle.need_graphs.proofs.RangeLemmas.{inside}

-- an item that passes lets the test of all pass
pub found-any : {X : Type 0} (test : X → Bool) (xs : List X) (x : X) → Contains xs x → IsTrue (test x) → IsTrue (list_any test xs)
found-any test [] x m h = absurd (contains-nil x m)
found-any {X} test (y ∷ xs) x m h = by (test y) refl (contains-cons y x xs m) (λ k. found-any test xs x k h)
  where
    by : (b : Bool) → test y ≡ b → (y ≡ x) ⊎ Contains xs x → (Contains xs x → IsTrue (list_any test xs)) → IsTrue (b || list_any test xs)
    by true e s later = refl
    by false e (inl s) later = let wrong : false ≡ true = sym e ∙ ap test s ∙ h in cc
    by false e (inr k) later = later k

-- what stands at the same place of the other list
pub zip-left : {A B : Type 0} (R : A → B → Type 0) (xs : List A) (ys : List B) (i : ℕ) (y : B) → AllZip R xs ys → slice_get ys i ≡ Some y → (x : A) × (slice_get xs i ≡ Some x) × R x y
zip-left R xs ys i y h e =
    let l = slice_get_within ys i y e in
    let s = AllZip-long R xs ys h in
    let x = place-below xs i (omega (arith, l, s)) in
    (x.0, x.1, AllZip-place R xs ys i x.0 y h x.1 e)

pub zip-right : {A B : Type 0} (R : A → B → Type 0) (xs : List A) (ys : List B) (i : ℕ) (x : A) → AllZip R xs ys → slice_get xs i ≡ Some x → (y : B) × (slice_get ys i ≡ Some y) × R x y
zip-right R xs ys i x h e =
    let l = slice_get_within xs i x e in
    let s = AllZip-long R xs ys h in
    let y = place-below ys i (omega (arith, l, s)) in
    (y.0, y.1, AllZip-place R xs ys i x y.0 h e y.1)

module _ (t : Tables) (env : Environment) (is : AreTablesOf env t) where
  abbrev rules : List PlainRule
  rules = plain_rules t.spec (named_symbols t)

  abbrev IsIts : PlainRule → FlatRule → Type 0
  IsIts = IsPlainOf t.spec env (named_symbols t)

  -- the symbols of the rules in the tables have rows
  pub left-inside : (r : FlatRule) → Contains t.plain r → r.left.0 < length t.symbols
  left-inside r m =
      let i = contains-place t.plain r m in
      let p = zip-left IsIts rules t.plain i.0 r is.plain i.1 in
      subst (λ x. x < length t.symbols) (sym p.2.left) (inside t env is p.0 (place-contains rules i.0 p.0 p.1) p.0.left (contains-here p.0.left p.0.right))

  pub right-inside : (r : FlatRule) (s : SymId) → Contains t.plain r → Contains r.right s → s.0 < length t.symbols
  right-inside r s m k =
      let i = contains-place t.plain r m in
      let p = zip-left IsIts rules t.plain i.0 r is.plain i.1 in
      inside t env is p.0 (place-contains rules i.0 p.0 p.1) s.0 (contains-later p.0.left s.0 p.0.right
      (subst (λ l. Contains l s.0) p.2.right (map-contains (λ (z : SymId). z.0) r.right s k)))

  -- An edge of a plain rule that isn't closed.
  pub record IsOpenEdge (closed : List Bool) (x y : ℕ) : Type 0 where
    pub i : ℕ
    pub rule : PlainRule
    pub of_rule : slice_get rules i ≡ Some rule
    pub is_open : ¬ IsTrue (is_in closed i)
    pub left : rule.left ≡ x
    pub right : Contains rule.right y

  pub edge-open : (closed : List Bool) (n x y : ℕ) → IsRuleEdge t.plain closed n x y → IsOpenEdge closed x y
  edge-open closed n x y e = let p = zip-left IsIts rules t.plain e.i e.rule is.plain e.of_rule in record {
    i = e.i;
    rule = p.0;
    of_rule = p.1;
    is_open = e.is_open;
    left = sym p.2.left ∙ e.left;
    right = subst (λ l. Contains l y) p.2.right e.right;
  }

  pub open-edge : (closed : List Bool) (n x y : ℕ) → n ≡ length t.plain → IsOpenEdge closed x y → IsRuleEdge t.plain closed n x y
  open-edge closed n x y size e = let r = zip-right IsIts rules t.plain e.i e.rule is.plain e.of_rule in record {
    i = e.i;
    rule = r.0;
    of_rule = r.1;
    below = let l = slice_get_within t.plain e.i r.0 r.1 in omega (arith, l, size);
    is_open = e.is_open;
    left = r.2.left ∙ e.left;
    right = subst (λ l. Contains l y) (sym r.2.right) e.right;
  }

  both-true : (a b : Bool) → IsTrue a → IsTrue b → IsTrue (if a then b else false)
  both-true true b h k = k
  both-true false b h k = h

  left-true : (a b : Bool) → IsTrue (if a then b else false) → IsTrue a × IsTrue b
  left-true true b h = (refl, h)
  left-true false b h = absurd (cc)

  abbrev has_child : ℕ → ℕ → PlainRule → Bool
  has_child x y p = if nat_eq p.left x then contains y p.right else false

  -- with none closed the edges lead to the children
  pub children : (closed : List Bool) (n x y : ℕ) → n ≡ length t.plain → ((i : ℕ) → ¬ IsTrue (is_in closed i)) → IsRuleEdge t.plain closed n x y ↔ IsTrue (is_child rules x y)
  children closed n x y size none = (to, from)
    where
      to : IsRuleEdge t.plain closed n x y → IsTrue (is_child rules x y)
      to h = let e = edge-open closed n x y h in
          found-any (has_child x y) rules e.rule (place-contains rules e.i e.rule e.of_rule)
          (both-true (nat_eq e.rule.left x) (contains y e.rule.right) (eq-eqb e.rule.left x e.left) (test-contains y e.rule.right e.right))

      from : IsTrue (is_child rules x y) → IsRuleEdge t.plain closed n x y
      from h =
          let p = any-found (has_child x y) rules h in
          let i = contains-place rules p.0 p.1 in
          let b = left-true (nat_eq p.0.left x) (contains y p.0.right) p.2 in
          open-edge closed n x y size (record { i = i.0; rule = p.0; of_rule = i.1; is_open = none i.0; left = eqb-true p.0.left x b.0; right = contains-test y p.0.right b.1 })
