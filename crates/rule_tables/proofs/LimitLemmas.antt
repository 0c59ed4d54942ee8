-- What holds of a specification that has no fault of its tables: each symbol is something, there is a root, and the numbers are small.
use Rattle.std.specs.Prelude.{Contains, IsTrue, AllPairs, nat_eq, map, filter, not, sum_by}
use Rattle.std.specs.Cmp.{nat_eq_equiv}
use Rattle.std.proofs.Common.{◌≡◌, ◌≢◌, ℕ, zero, suc, ◌+◌, ◌<◌, ◌≤◌, ◌^◌, ◌⊎◌, inl, inr, Bool, true, false, cond, if◌then◌else◌, List, [], ◌∷◌, length, get_or, refl, ap, sym, subst, ◌∙◌, arith, eqb-true, eq-eqb, true≢false}
use Rattle.std.proofs.lemmas.Bool.Decides.{Decides-eqb}
use Rattle.std.proofs.lemmas.List.Sums.{sum_by-cons}
use Rattle.std.proofs.lemmas.Map.Made.{length-le_from_is_member, IsDistinct-from_AllPairs, is_member-Decides}
use Rattle.lido_base.specs.Environment.{Environment}
use Rattle.lido_base.specs.Faults.{HasNone}
use Rattle.lido_base.specs.declared.kinds.Many.TheVariants as many
use Rattle.lido_base.proofs.FaultsLemmas.{at_place-none}
use Rattle.lido_base.proofs.Lists.{contains-nil, contains-cons, contains-here, contains-later, map-contains}
use Rattle.lido_syntax.specs.declared.spec.Spec.{Spec}
use Rattle.lido_syntax.specs.declared.spec.RuleItem.{RuleItem}
use Rattle.lido_syntax.specs.declared.fault.SpecFault.TheVariants as fault
use Rattle.lido_syntax.specs.Symbols.{IsRoot}
use Rattle.lido_syntax.specs.Production.{right_of}
use Rattle.lido_symbols.specs.Numbers.{AreNumbered, different}
use Rattle.lido_symbols.specs.Uses.{symbol_uses}
use Rattle.table_faults.specs.Faults.{table_faults, IsKnown, class, declared, in_production, IsUnknown, nowhere, plain_count, symbol_count, symbols as too_many_symbols, rules as too_many_rules}
use Rattle.rule_tables.proofs.PlainLemmas.{list_count}

keeps : (p : ℕ → Bool) (xs : List ℕ) (x : ℕ) → p x ≡ true → Contains xs x → Contains (filter p xs) x
keeps p [] x is m = m
keeps p (y ∷ ys) x is m = by (p y) refl (contains-cons y x ys m) (λ k. keeps p ys x is k)
  where
    by : (b : Bool) → p y ≡ b → (y ≡ x) ⊎ Contains ys x → (Contains ys x → Contains (filter p ys) x) → Contains (cond b (y ∷ filter p ys) (filter p ys)) x
    by true f (inl e) later = subst (Contains (y ∷ filter p ys)) e (contains-here y (filter p ys))
    by true f (inr k) later = contains-later y x (filter p ys) (later k)
    by false f (inl e) later = absurd (true≢false (sym is ∙ ap p (sym e) ∙ f))
    by false f (inr k) later = later k

-- no number is lost
pub different-all : (xs : List ℕ) (x : ℕ) → Contains xs x → Contains (different xs) x
different-all [] x m = m
different-all (y ∷ ys) x m = by (nat_eq y x) refl (contains-cons y x ys m) (λ k. different-all ys x k)
  where
    by : (b : Bool) → nat_eq y x ≡ b → (y ≡ x) ⊎ Contains ys x → (Contains ys x → Contains (different ys) x) → Contains (different (y ∷ ys)) x
    by true f m later = subst (Contains (different (y ∷ ys))) (eqb-true y x f) (contains-here y (filter (λ z. not (nat_eq y z)) (different ys)))
    by false f (inl e) later = absurd (true≢false (sym (eq-eqb y x e) ∙ f))
    by false f (inr k) later = contains-later y x (filter (λ z. not (nat_eq y z)) (different ys)) (keeps (λ z. not (nat_eq y z)) (different ys) x (ap not f) (later k))

-- ---- numbers of symbols

module _ (uses : List (ℕ × ℕ)) (symbols : List ℕ) (numbered : AreNumbered nat_eq uses symbols) where
  abbrev names : List ℕ
  names = different (map (λ (u : ℕ × ℕ). u.1) uses)

  -- of one symbol no naming stands before each naming
  descent : (k l : ℕ) → k ≡ l → ((at j : ℕ) → Contains uses (at, j) → IsTrue (nat_eq j l) → (first : ℕ) × (i : ℕ) × Contains uses (first, i) × IsTrue (nat_eq i k) × (first < at))
      → (n at j : ℕ) → at < n → Contains uses (at, j) → IsTrue (nat_eq j l) → ⊥
  descent k l e before zero at j h m is = absurd (omega (arith, h))
  descent k l e before (suc n) at j h m is =
      let (first, i, there, same, less) = before at j m is in
      descent k l e before n first i (omega (arith, h, less)) there (subst (λ x. IsTrue (nat_eq i x)) e same)

  apart : AllPairs (λ x y. x ≢ y) symbols
  apart i j d h below e =
      let (at, used) = numbered.named j d below in
      let l = get_or symbols j d in
      descent (get_or symbols i d) l e (numbered.by_place i j d h below) (suc at) at l (omega arith) used (eq-eqb l l refl)

  named : (q : ℕ) → Contains symbols q → Contains names q
  named q (k, h, e) =
      let (at, used) = numbered.named k q h in
      different-all (map (λ (u : ℕ × ℕ). u.1) uses) q (subst (Contains (map (λ (u : ℕ × ℕ). u.1) uses)) e (map-contains (λ (u : ℕ × ℕ). u.1) uses (at, get_or symbols k q) used))

  pub no-more-names : length symbols ≤ length names
  no-more-names = length-le_from_is_member nat_eq_equiv symbols names (IsDistinct-from_AllPairs Decides-eqb symbols apart)
      (λ q h. (is_member-Decides Decides-eqb names q).1 (named q ((is_member-Decides Decides-eqb symbols q).0 h)))

-- ---- specifications without a fault of their tables

module _ (spec : Spec) (env : Environment) where
  one-plain : (r : RuleItem) → 1 ≤ plain_count spec env r
  one-plain r = by r.list
    where
      by : (b : Bool) → 1 ≤ (if b then length (different (right_of r)) + 2 else 1)
      by true = omega arith
      by false = omega arith

  rules-below : (rules : List RuleItem) → length rules ≤ sum_by (plain_count spec env) rules
  rules-below [] = omega arith
  rules-below (r ∷ rules) = omega (arith, sum_by-cons (plain_count spec env) r rules, one-plain r, rules-below rules)

  module _ (none : HasNone (table_faults spec env)) where
    pub few-rules : length spec.rules ≤ 2 ^ 16
    few-rules =
        let not : 1024 < sum_by (plain_count spec env) spec.rules → ⊥ = λ h. none.1.1.1.1.1.1.1.1.0 (fault.TooMany many.Rules) (too_many_rules h, refl) in
        omega (arith, not, rules-below spec.rules)

    -- there is a root
    pub some-root : ((s : ℕ) → ¬ IsRoot spec s) → ⊥
    some-root lacks = none.1.1.0 (fault.RootNotOne 0) ([], record { each = λ s m. absurd (contains-nil s m); all = λ s r. absurd (lacks s r); once = λ i j d h below. absurd (omega (arith, below)) }, (λ e. absurd (omega (arith, e))), refl)

    module _ (symbols : List ℕ) (numbered : AreNumbered nat_eq (symbol_uses spec env) symbols) where
      pub few-symbols : length symbols + list_count spec.rules ≤ 512
      few-symbols =
          let not : 512 < symbol_count spec env → ⊥ = λ h. none.1.1.1.1.1.1.1.0 (fault.TooMany many.Symbols) (too_many_symbols h, refl) in
          omega (arith, not, no-more-names (symbol_uses spec env) symbols numbered)

      pub all-known : (s : ℕ) → Contains symbols s → ¬ ¬ IsKnown spec env s
      all-known s (k, h, e) unknown =
          let (at, used) = numbered.named k s h in
          at_place-none (λ at. fault.UnknownSymbol at) (IsUnknown spec env) none.0 at (nowhere s (subst (λ q. Contains (symbol_uses spec env) (at, q)) e used) unknown)

-- what a name is hangs on no text
pub other-known : (spec : Spec) (env later : Environment) (s : ℕ) → IsKnown spec env s → IsKnown spec later s
other-known spec env later s known = elim known [ class is ↦ class is | declared ty is ↦ declared ty is | in_production r there m ↦ in_production r there m ]
