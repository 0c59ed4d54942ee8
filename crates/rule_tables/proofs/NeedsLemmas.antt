-- The needs of all tables can be decided.
use Rattle.std.specs.Prelude.{◌≡◌, ℕ, ◌+◌, Bool, true, false, not, ◌||◌, ◌&&◌, nat_eq, if◌then◌else◌, IsTrue, List, [], ◌∷◌, ◌++◌, map, flat_map, Option, Some, None, slice_get, Contains, refl}
use Rattle.std.specs.List.{list_any}
use Rattle.std.proofs.Common.{ap, subst, ◌∙◌, arith, eqb-true}
use Rattle.std.proofs.lemmas.List.Elements.{Contains-append_left, Contains-append_right}
use Rattle.lido_base.specs.Tree.{contains}
use Rattle.lido_base.specs.Reach.{IsDecided}
use Rattle.lido_base.proofs.ReachLemmas.{decided}
use Rattle.lido_base.proofs.TreeLemmas.{both, contains-test}
use Rattle.lido_syntax.specs.declared.spec.Spec.{Spec}
use Rattle.lido_syntax.specs.declared.spec.Pair.{Pair}
use Rattle.lido_syntax.specs.declared.spec.Cons.{Cons}
use Rattle.lido_syntax.specs.Sets.{is_source}
use Rattle.flat_grammar.proofs.Lists.{contains-first, contains-later, contains-slice_get}
use Rattle.lido_symbols.specs.Uses.{is_same_option}
use Rattle.rule_tables.specs.PlainRules.{PlainRule, symbol_at, is_child}
use Rattle.lido_symbols.specs.Numbers.{enumerated}
use Rattle.rule_tables.specs.Forced.{Force, context_of}
use Rattle.rule_tables.specs.Needs.{Tables, Needs, rules, ruled, is_at, in_force_at, uses_including, passes_including, uses_constituents, shield_at, source_at, uses_chain, passes_chain, has_start, IsWanted, NeedsIncluding, CanReach, NeedsChain}
use Rattle.lido_base.proofs.Lists.{flat-contains, map-contains}
use Rattle.rule_tables.proofs.SlotLemmas.{enumerated-at}

-- an item that passes
pub any-found : {X : Type 0} (test : X → Bool) (xs : List X) → IsTrue (list_any test xs) → (x : X) × Contains xs x × IsTrue (test x)
any-found test [] h = cc
any-found {X} test (x ∷ xs) h = go (test x) refl h (any-found test xs)
  where
    go : (b : Bool) → test x ≡ b → IsTrue (b || list_any test xs) → (IsTrue (list_any test xs) → (y : X) × Contains xs y × IsTrue (test y)) → (y : X) × Contains (x ∷ xs) y × IsTrue (test y)
    go true e h later = (x, contains-first x xs, e)
    go false e h later = let y = later h in (y.0, contains-later x y.0 xs y.1, y.2)

same-option : (o : Option ℕ) (x : ℕ) → IsTrue (is_same_option o (Some x)) → o ≡ Some x
same-option None x h = cc
same-option (Some y) x h = ap Some (eqb-true y x h)

if-left : (a b : Bool) → IsTrue (if a then b else false) → IsTrue a × IsTrue b
if-left true b h = (refl, h)
if-left false b h = cc

module _ (spec : Spec) (T : Tables spec) where
  symbols_of : PlainRule × List Force → List ℕ
  symbols_of t = t.0.left ∷ t.0.right

  of_rule : PlainRule → List ℕ
  of_rule p = p.left ∷ p.right

  numbers : List ℕ
  numbers = map (λ (x : ℕ × ℕ). x.0) (enumerated 0 T.symbols)

  universe : List ℕ
  universe = flat_map symbols_of (ruled spec T) ++ (flat_map of_rule (rules spec T) ++ numbers)

  in-ruled : (t : PlainRule × List Force) (x : ℕ) → Contains (ruled spec T) t → Contains (t.0.left ∷ t.0.right) x → Contains universe x
  unfolding universe symbols_of
  in-ruled t x m k = Contains-append_left (flat_map symbols_of (ruled spec T)) (flat_map of_rule (rules spec T) ++ numbers) x (flat-contains symbols_of (ruled spec T) t x m k)

  in-rule : (p : PlainRule) (x : ℕ) → Contains (rules spec T) p → Contains (p.left ∷ p.right) x → Contains universe x
  unfolding universe of_rule
  in-rule p x m k = Contains-append_right (flat_map symbols_of (ruled spec T)) (flat_map of_rule (rules spec T) ++ numbers) x
      (Contains-append_left (flat_map of_rule (rules spec T)) numbers x (flat-contains of_rule (rules spec T) p x m k))

  in-numbers : (x s : ℕ) → slice_get T.symbols x ≡ Some s → Contains universe x
  unfolding universe numbers
  in-numbers x s e = Contains-append_right (flat_map symbols_of (ruled spec T)) (flat_map of_rule (rules spec T) ++ numbers) x
      (Contains-append_right (flat_map of_rule (rules spec T)) numbers x
      (map-contains (λ (y : ℕ × ℕ). y.0) (enumerated 0 T.symbols) (x, s)
      (contains-slice_get (enumerated 0 T.symbols) x (x, s) (enumerated-at 0 x s T.symbols e ∙ (let h : 0 + x ≡ x = omega arith in λ j. Some (h j, s))))))

  in-force-within : (test : List Force → Force → Bool) (x : ℕ) → IsTrue (in_force_at spec T test x) → Contains universe x
  in-force-within test x h =
      let t = any-found (λ (t : PlainRule × List Force). list_any (λ f. is_at spec T t.0 f x && test t.1 f) t.1) (ruled spec T) h in
      let f = any-found (λ f. is_at spec T t.0.0 f x && test t.0.1 f) t.0.1 t.2 in
      let here = both (is_at spec T t.0.0 f.0 x) (test t.0.1 f.0) f.2 in
      in-ruled t.0 x t.1 (contains-slice_get (t.0.0.left ∷ t.0.0.right) (context_of f.0) x (same-option (symbol_at t.0.0 (context_of f.0)) x here.0))

  child-within : (x y : ℕ) → IsTrue (is_child (rules spec T) x y) → Contains universe x × Contains universe y
  child-within x y h =
      let p = any-found (λ (p : PlainRule). if nat_eq p.left x then contains y p.right else false) (rules spec T) h in
      let here = if-left (nat_eq p.0.left x) (contains y p.0.right) p.2 in (
        in-rule p.0 x p.1 (subst (λ z. Contains (p.0.left ∷ p.0.right) z) (eqb-true p.0.left x here.0) (contains-first p.0.left p.0.right)),
        in-rule p.0 y p.1 (contains-later p.0.left y p.0.right (contains-test y p.0.right here.1)),
      )

  including-decided : (pairs : List Pair) → IsDecided (uses_including spec T pairs) (passes_including spec T pairs)
  including-decided pairs = decided (uses_including spec T pairs) (passes_including spec T pairs) universe (record {
    sources = λ x h. in-force-within _ x h;
    edges = λ x y h. (child-within x y (both _ (is_child (rules spec T) x y) h).1).0;
  })

  wanted-decided : (k : Cons) → (test : ℕ → Bool) × ((y : ℕ) → (IsTrue (test y) → IsWanted spec T k y) × (IsWanted spec T k y → IsTrue (test y)))
  wanted-decided k = decided (λ y. list_any (λ (p : PlainRule). contains y p.right && uses_constituents spec T k p.left) (rules spec T)) (λ y x. is_child (rules spec T) x y && not (shield_at spec T k x)) universe (record {
    sources = λ y h. (let p = any-found (λ (p : PlainRule). contains y p.right && uses_constituents spec T k p.left) (rules spec T) h in
        in-rule p.0 y p.1 (contains-later p.0.left y p.0.right (contains-test y p.0.right (both (contains y p.0.right) (uses_constituents spec T k p.0.left) p.2).0)));
    edges = λ y x h. (child-within x y (both (is_child (rules spec T) x y) (not (shield_at spec T k x)) h).0).1;
  })

  source-within : (k : Cons) (x : ℕ) → IsTrue (source_at spec T k x) → Contains universe x
  source-within k x h = go (slice_get T.symbols x) refl h
    where
      go : (o : Option ℕ) → slice_get T.symbols x ≡ o → IsTrue (elim o as (λ _. Bool) [ None ↦ false | Some s ↦ is_source spec T.sets.inherits k s ]) → Contains universe x
      go None e h = cc
      go (Some s) e h = in-numbers x s e

  reaches-decided : (k : Cons) → IsDecided (source_at spec T k) (λ x y. not (shield_at spec T k x) && is_child (rules spec T) x y)
  reaches-decided k = decided (source_at spec T k) (λ x y. not (shield_at spec T k x) && is_child (rules spec T) x y) universe (record {
    sources = source-within k;
    edges = λ x y h. (child-within x y (both (not (shield_at spec T k x)) (is_child (rules spec T) x y) h).1).0;
  })

  passes-within : (c x y : ℕ) → IsTrue (passes_chain spec T c x y) → Contains universe x
  passes-within c x y h =
      let t = any-found (λ (t : PlainRule × List Force). nat_eq t.0.left x && not (has_start spec T t.1 c) && contains y t.0.right) (ruled spec T) h in
      let left : IsTrue (nat_eq t.0.0.left x) = first (nat_eq t.0.0.left x) (not (has_start spec T t.0.1 c)) (contains y t.0.0.right) t.2 in
      in-ruled t.0 x t.1 (subst (λ z. Contains (t.0.0.left ∷ t.0.0.right) z) (eqb-true t.0.0.left x left) (contains-first t.0.0.left t.0.0.right))
    where
      first : (a b c : Bool) → IsTrue (a && b && c) → IsTrue a
      first true b c h = refl
      first false b c h = cc

  chain-decided : (c : ℕ) → IsDecided (uses_chain spec T c) (passes_chain spec T c)
  chain-decided c = decided (uses_chain spec T c) (passes_chain spec T c) universe (record { sources = λ x h. in-force-within _ x h; edges = passes-within c })

  -- all tables have tests for their needs
  pub needs_of : Needs spec T
  needs_of = record {
    including = λ pairs. (including-decided pairs).0;
    including_exactly = λ pairs. (including-decided pairs).1;
    wanted = λ k. (wanted-decided k).0;
    wanted_exactly = λ k. (wanted-decided k).1;
    reaches = λ k. (reaches-decided k).0;
    reaches_exactly = λ k. (reaches-decided k).1;
    chain = λ c. (chain-decided c).0;
    chain_exactly = λ c. (chain-decided c).1;
  }

-- two tests of one set agree
same_test : (a b : Bool) (P : Type 0) → (IsTrue a → P) × (P → IsTrue a) → (IsTrue b → P) × (P → IsTrue b) → a ≡ b
same_test true true P f g = refl
same_test false false P f g = refl
same_test true false P f g = let h : IsTrue false = g.1 (f.0 refl) in cc
same_test false true P f g = let h : IsTrue false = f.1 (g.0 refl) in cc

module _ (spec : Spec) (T : Tables spec) (x y : Needs spec T) where
  pub same_including : (pairs : List Pair) (n : ℕ) → x.including pairs n ≡ y.including pairs n
  same_including pairs n = same_test (x.including pairs n) (y.including pairs n) (NeedsIncluding spec T pairs n) (x.including_exactly pairs n) (y.including_exactly pairs n)

  pub same_wanted : (k : Cons) (n : ℕ) → x.wanted k n ≡ y.wanted k n
  same_wanted k n = same_test (x.wanted k n) (y.wanted k n) (IsWanted spec T k n) (x.wanted_exactly k n) (y.wanted_exactly k n)

  pub same_reaches : (k : Cons) (n : ℕ) → x.reaches k n ≡ y.reaches k n
  same_reaches k n = same_test (x.reaches k n) (y.reaches k n) (CanReach spec T k n) (x.reaches_exactly k n) (y.reaches_exactly k n)

  pub same_chain : (c n : ℕ) → x.chain c n ≡ y.chain c n
  same_chain c n = same_test (x.chain c n) (y.chain c n) (NeedsChain spec T c n) (x.chain_exactly c n) (y.chain_exactly c n)
