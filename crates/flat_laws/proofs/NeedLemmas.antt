-- The attributes that what is in force in a plain rule reads are there.
use Rattle.std.specs.Prelude.{Contains, IsTrue, slice_get, nat_eq, map, filter_map, find, ◌&&◌, ◌||◌, not, if◌then◌else◌, option_map}
use Rattle.std.specs.List.{list_any, cons_option}
use Rattle.std.proofs.Common.{◌≡◌, ℕ, zero, suc, ◌<◌, ◌⊎◌, inl, inr, Bool, true, false, List, [], ◌∷◌, Option, Some, None, refl, sym, ap, subst, ◌∙◌, arith, eqb-true, eq-eqb, true≢false}
use Rattle.std.proofs.lemmas.Option.{none-some, same_Some}
use Rattle.lido_base.specs.Environment.{Environment}
use Rattle.lido_base.specs.Reach.{source}
use Rattle.lido_base.specs.Tree.{contains}
use Rattle.lido_base.proofs.Lists.{contains-nil, contains-cons, contains-here, contains-later, flat-contains, contains-place, place-contains}
use Rattle.lido_base.proofs.TreeLemmas.{contains-test}
use Rattle.lido_syntax.specs.declared.spec.Spec.{Spec}
use Rattle.lido_syntax.specs.declared.spec.Name.{Name}
use Rattle.lido_syntax.specs.declared.spec.Pair.{Pair}
use Rattle.lido_syntax.specs.declared.spec.Cons.{Cons}
use Rattle.lido_syntax.specs.declared.spec.Typed1.{Typed1}
use Rattle.lido_syntax.specs.declared.spec.RuleItem.{RuleItem}
use Rattle.lido_syntax.specs.declared.spec.Place.{Place}
use Rattle.lido_syntax.specs.declared.spec.Expr.{Expr, Read, Including, Constituents}
use Rattle.lido_syntax.specs.Production.{name_of}
use Rattle.lido_syntax.specs.Parts.{leaves_of}
use Rattle.lido_syntax.specs.Including.{listed}
use Rattle.lido_syntax.specs.Sets.{stands_for}
use Rattle.lido_syntax.specs.Symbols.{IsChain}
use Rattle.lido_syntax.specs.Attributes.{Has, IsNamed}
use Rattle.lido_syntax.specs.Computation.{Behind}
use Rattle.lido_symbols.specs.Numbers.{place_in}
use Rattle.lido_symbols.specs.FromText.{IsFromText, AreApart}
use Rattle.lido_symbols.specs.Uses.{computations, all_leaves, including_of, constituents_of, all_constituents, is_same_set, is_same_option}
use Rattle.rule_tables.specs.PlainRules.{PlainRule, symbol_at}
use Rattle.rule_tables.specs.Forced.{Force, context_of, is_same_goal}
use Rattle.rule_tables.specs.Needs.{Tables, Needs, AreTables, ruled, is_at, in_force_at, is_including, is_read, is_tail, has_start}
use Rattle.rule_tables.specs.Slots.{Inc, HasSlot, chains}
use Rattle.flat_laws.proofs.Lists.{pair-at}
use Rattle.flat_laws.proofs.Lists.{found-any}
use Rattle.flat_laws.proofs.RuleLemmas.{IsRuled}

-- ---- lists

pub in-filter-map : {X Y : Type 0} (f : X → Option Y) (xs : List X) (x : X) (y : Y) → Contains xs x → f x ≡ Some y → Contains (filter_map f xs) y
in-filter-map f [] x y m e = absurd (contains-nil x m)
in-filter-map {X} {Y} f (z ∷ xs) x y m e = by (f z) refl (contains-cons z x xs m) (λ k. in-filter-map f xs x y k e)
  where
    by : (o : Option Y) → f z ≡ o → (z ≡ x) ⊎ Contains xs x → (Contains xs x → Contains (filter_map f xs) y) → Contains (cons_option o (filter_map f xs)) y
    by None g (inl same) later = absurd (none-some y (sym g ∙ ap f same ∙ e))
    by None g (inr k) later = later k
    by (Some v) g (inl same) later = subst (Contains (v ∷ filter_map f xs)) (same_Some v y (sym g ∙ ap f same ∙ e)) (contains-here v (filter_map f xs))
    by (Some v) g (inr k) later = contains-later v y (filter_map f xs) (later k)

pub of-filter-map : {X Y : Type 0} (f : X → Option Y) (xs : List X) (y : Y) → Contains (filter_map f xs) y → (x : X) × Contains xs x × (f x ≡ Some y)
of-filter-map f [] y m = absurd (contains-nil y m)
of-filter-map {X} {Y} f (z ∷ xs) y m = by (f z) refl m (of-filter-map f xs y)
  where
    by : (o : Option Y) → f z ≡ o → Contains (cons_option o (filter_map f xs)) y → (Contains (filter_map f xs) y → (x : X) × Contains xs x × (f x ≡ Some y)) → (x : X) × Contains (z ∷ xs) x × (f x ≡ Some y)
    by None g m later = let (x, k, e) = later m in (x, contains-later z x xs k, e)
    by (Some v) g m later = elim (contains-cons v y (filter_map f xs) m) [
      | inl same ↦ (z, contains-here z xs, g ∙ ap Some same)
      | inr k ↦ let (x, n, e) = later k in (x, contains-later z x xs n, e)
    ]

-- at the first place at which a test passes stands what passes it
pub place-passes : {X : Type 0} (test : X → Bool) (xs : List X) (x : X) → Contains xs x → test x ≡ true → (y : X) × (slice_get xs (place_in test xs) ≡ Some y) × (test y ≡ true)
place-passes test [] x m pass = absurd (contains-nil x m)
place-passes {X} test (z ∷ xs) x m pass = by (test z) refl (contains-cons z x xs m) (λ k. place-passes test xs x k pass)
  where
    by : (b : Bool) → test z ≡ b → (z ≡ x) ⊎ Contains xs x → (Contains xs x → (y : X) × (slice_get xs (place_in test xs) ≡ Some y) × (test y ≡ true))
        → (y : X) × (slice_get (z ∷ xs) (if b then 0 else suc (place_in test xs)) ≡ Some y) × (test y ≡ true)
    by true e h later = (z, refl, e)
    by false e (inl same) later = absurd (true≢false (sym pass ∙ ap test (sym same) ∙ e))
    by false e (inr k) later = later k

pub found-passes : {X : Type 0} (test : X → Bool) (xs : List X) (x : X) → find test xs ≡ Some x → Contains xs x × (test x ≡ true)
found-passes test [] x e = absurd (none-some x e)
found-passes {X} test (z ∷ xs) x e = by (test z) refl e (found-passes test xs x)
  where
    by : (b : Bool) → test z ≡ b → (if b then Some z else find test xs) ≡ Some x → (find test xs ≡ Some x → Contains xs x × (test x ≡ true)) → Contains (z ∷ xs) x × (test x ≡ true)
    by true g e later = let same = same_Some z x e in (subst (Contains (z ∷ xs)) same (contains-here z xs), ap test (sym same) ∙ g)
    by false g e later = let (k, pass) = later e in (contains-later z x xs k, pass)

both-true : (a b : Bool) → a ≡ true → b ≡ true → (a && b) ≡ true
both-true true b e f = f
both-true false b e f = absurd (true≢false (sym e))

either-right : (a b : Bool) → b ≡ true → (a || b) ≡ true
either-right true b e = refl
either-right false b e = e

either-left : (a b : Bool) → a ≡ true → (a || b) ≡ true
either-left true b e = refl
either-left false b e = absurd (true≢false (sym e))

same-number : (o : Option ℕ) (x : ℕ) → o ≡ Some x → is_same_option o (Some x) ≡ true
same-number o x e = ap (λ p. is_same_option p (Some x)) e ∙ eq-eqb x x refl

module _ (spec : Spec) (env : Environment) (T : Tables spec) (tables : AreTables spec T env) (needs : Needs spec T) where
  -- what a computation in force at a symbol does is done at the symbol
  pub in-force-at : (test : List Force → Force → Bool) (i : ℕ) (p : PlainRule) (fs : List Force) → IsRuled spec env T tables i p fs → (f : Force) → Contains fs f → (x : ℕ) → symbol_at p (context_of f) ≡ Some x
      → test fs f ≡ true → IsTrue (in_force_at spec T test x)
  in-force-at test i p fs is f m x at pass =
      found-any (λ (t : PlainRule × List Force). list_any (λ f. is_at spec T t.0 f x && test t.1 f) t.1) (ruled spec T) (p, fs) (place-contains (ruled spec T) i (p, fs) is.both)
      (found-any (λ f. is_at spec T p f x && test fs f) fs f m (both-true (is_at spec T p f x) (test fs f) (same-number (symbol_at p (context_of f)) x at) pass))

  module _ (i : ℕ) (p : PlainRule) (fs : List Force) (is : IsRuled spec env T tables i p fs) (f : Force) (among : Contains fs f) (text : Contains (computations spec) f.comp) (x : ℕ) (at : symbol_at p (context_of f) ≡ Some x) where
    in-leaves : (l : Expr) → Contains (leaves_of f.comp) l → Contains (all_leaves spec) l
    in-leaves l m = flat-contains leaves_of (computations spec) f.comp l text m

    -- an INCLUDING
    pub including-there : (first : ℕ) (pairs : List Pair) → Contains (leaves_of f.comp) (Including first pairs) → HasSlot spec T needs x (Inc (place_in (is_same_set spec T.sets pairs) T.includings))
    including-there first pairs m =
        let (other, there, same) = tables.includings.all first pairs (in-filter-map including_of (all_leaves spec) (Including first pairs) (first, pairs) (in-leaves (Including first pairs) m) refl) in
        let (its, here, pass) = place-passes (is_same_set spec T.sets pairs) T.includings other there same in (
          its,
          here,
          (needs.including_exactly its x).1
              (source (in-force-at (λ fs f. list_any (is_including spec T its) (leaves_of f.comp)) i p fs is f among x at (found-any (is_including spec T its) (leaves_of f.comp) (Including first pairs) m pass))),
        )

    -- a chain that is read, and not by TAIL where it starts
    pub chain-needed : (first : ℕ) (q : Place) (a : Name) (c : ℕ) → Contains (leaves_of f.comp) (Read first q a) → name_of a ≡ c → (is_tail spec T q && has_start spec T fs c) ≡ false → IsTrue (needs.chain c x)
    chain-needed first q a c m e no_tail = (needs.chain_exactly c x).1
        (source (in-force-at (λ fs f. is_same_goal f.goal (Behind c) || list_any (is_read spec T fs c) (leaves_of f.comp)) i p fs is f among x at
        (either-right (is_same_goal f.goal (Behind c)) (list_any (is_read spec T fs c) (leaves_of f.comp))
        (found-any (is_read spec T fs c) (leaves_of f.comp) (Read first q a) m (both-true (nat_eq (name_of a) c) (not (is_tail spec T q && has_start spec T fs c)) (eq-eqb (name_of a) c e) (ap not no_tail))))))

  -- the CONSTITUENTS of a computation in force is numbered
  pub constituents-numbered : (k : Cons) → Contains (all_leaves spec) (Constituents k) → (l : Cons) × Contains T.constituents l × (l.number ≡ k.number)
  constituents-numbered k m =
      let (l, there, same) = tables.constituents.all k.number k (in-filter-map constituents_of (all_leaves spec) (Constituents k) (k.number, k) m refl) in
      (l, there, sym (eqb-true k.number l.number same))

  -- and it is that one
  constituents-in : (l : Cons) → Contains T.constituents l → (at : ℕ) × Contains (all_constituents spec) (at, l)
  constituents-in l (n, below, e) = let (at, m) = tables.constituents.named n l below in (at, subst (λ (k : Cons). Contains (all_constituents spec) (at, k)) e m)

  number-in : (at : ℕ) (l : Cons) → Contains (all_constituents spec) (at, l) → at ≡ l.number
  number-in at l m = let (e, me, same) = of-filter-map constituents_of (all_leaves spec) (at, l) m in by e same
    where
      by : (e : Expr) → constituents_of e ≡ Some (let z : ℕ × Cons = (at, l) in z) → at ≡ l.number
      by (Constituents k) same = let h = same_Some _ _ same in sym (ap (λ (z : ℕ × Cons). z.0) h) ∙ ap (λ (z : ℕ × Cons). z.1.number) h
      by _ same = absurd (none-some _ same)

  pub one-constituents : IsFromText spec → (k l : Cons) → Contains (all_leaves spec) (Constituents k) → Contains T.constituents l → l.number ≡ k.number → l ≡ k
  one-constituents from_text k l m there e =
      let (at, ml) = constituents-in l there in
      let mk = in-filter-map constituents_of (all_leaves spec) (Constituents k) (k.number, k) m refl in
      let (i, ei) = contains-place (all_constituents spec) (at, l) ml in
      let (j, ej) = contains-place (all_constituents spec) (k.number, k) mk in
      let same = number-in at l ml in
      by i j ei ej (same ∙ e)
    where
      by : (i j : ℕ) {at : ℕ} → slice_get (all_constituents spec) i ≡ Some (at, l) → slice_get (all_constituents spec) j ≡ Some (k.number, k) → at ≡ k.number → l ≡ k
      by i j {at} ei ej e = cases (cases_nat i j)
        where
          cases_nat : (i j : ℕ) → (i < j) ⊎ ((j < i) ⊎ (i ≡ j))
          cases_nat zero zero = inr (inr refl)
          cases_nat zero (suc j) = inl (omega arith)
          cases_nat (suc i) zero = inr (inl (omega arith))
          cases_nat (suc i) (suc j) = elim (cases_nat i j) [ inl h ↦ inl (omega (arith, h)) | inr k ↦ elim k [ inl h ↦ inr (inl (omega (arith, h))) | inr h ↦ inr (inr (ap suc h)) ] ]

          cases : (i < j) ⊎ ((j < i) ⊎ (i ≡ j)) → l ≡ k
          cases (inl h) = elim (pair-at (λ (x y : ℕ × Cons). AreApart spec (x.0, x.1.at) (y.0, y.1.at)) (all_constituents spec) i j _ _ from_text.constituents_apart ei ej h) [ inl d ↦ absurd (omega (arith, d.0, e)) | inr d ↦ absurd (omega (arith, d.0, e)) ]
          cases (inr (inl h)) = elim (pair-at (λ (x y : ℕ × Cons). AreApart spec (x.0, x.1.at) (y.0, y.1.at)) (all_constituents spec) j i _ _ from_text.constituents_apart ej ei h) [ inl d ↦ absurd (omega (arith, d.0, e)) | inr d ↦ absurd (omega (arith, d.0, e)) ]
          cases (inr (inr h)) = ap (λ (z : ℕ × Cons). z.1) (same_Some _ _ (sym ei ∙ ap (slice_get (all_constituents spec)) h ∙ ej))

  -- a chain that is declared is one of the chains
  pub chain-in : (c : ℕ) → IsChain spec c → Contains (chains spec T needs) c
  chain-in c h = contains-test c (map (λ (x : Typed1). name_of x.name) spec.chains) h

  -- what an INCLUDING or a CONSTITUENTS lists for a nonterminal is one of its attributes
  pub listed-has : (pairs : List Pair) → ((p : Pair) → Contains pairs p → IsNamed spec (name_of p.sym) (name_of p.attr)) → (s a : ℕ) → listed spec T.sets pairs s ≡ Some a → Has spec s a
  listed-has pairs named s a e = by (find (λ (p : Pair). stands_for spec T.sets.inherits s p.sym) pairs) refl e
    where
      through : (b d : Bool) (p : Pair) → nat_eq (name_of p.sym) s ≡ b → (b || (d && T.sets.inherits s (name_of p.sym))) ≡ true → IsNamed spec (name_of p.sym) (name_of p.attr) → Has spec s (name_of p.attr)
      through true d p eb pass named = inl (subst (λ z. IsNamed spec z (name_of p.attr)) (eqb-true (name_of p.sym) s eb) named)
      through false true p eb pass named = inr (name_of p.sym, (T.sets.inherits_exactly s (name_of p.sym)).0 pass, named)
      through false false p eb pass named = absurd (true≢false (sym pass))

      by : (o : Option Pair) → find (λ (p : Pair). stands_for spec T.sets.inherits s p.sym) pairs ≡ o → option_map (λ (p : Pair). name_of p.attr) o ≡ Some a → Has spec s a
      by None f e = absurd (none-some a e)
      by (Some p) f e =
          let (m, pass) = found-passes (λ (p : Pair). stands_for spec T.sets.inherits s p.sym) pairs p f in
          subst (Has spec s) (same_Some (name_of p.attr) a e) (through (nat_eq (name_of p.sym) s) (contains s (map (λ (r : RuleItem). name_of r.left) spec.rules)) p refl pass (named p m))
