-- What an accepted specification has no fault of.
use Rattle.std.specs.Prelude.{Contains, IsTrue, slice_get, nat_eq, map, flat_map, sum_by, ◌&&◌}
use Rattle.std.proofs.Common.{◌≡◌, ℕ, zero, suc, ◌<◌, ◌≤◌, ◌⊎◌, inl, inr, Bool, true, false, ◌∷◌, length, Some, refl, sym, subst, ◌∙◌, arith, true≢false}
use Rattle.std.proofs.lemmas.Bool.{cases_lt}
use Rattle.std.proofs.lemmas.List.Folds.{Any-from_list_any}
use Rattle.lido_base.specs.Environment.{Environment}
use Rattle.lido_base.specs.Reach.{source, edge}
use Rattle.lido_base.specs.Tree.{contains}
use Rattle.lido_base.specs.declared.kinds.Many.TheVariants as many
use Rattle.lido_base.specs.declared.value.ValueType.TheVariants as type
use Rattle.lido_base.proofs.FaultsLemmas.{at_place-none}
use Rattle.lido_base.proofs.Lists.{contains-map, flat-contains}
use Rattle.lido_base.proofs.TreeLemmas.{contains-test, test-contains, both}
use Rattle.lido_syntax.specs.declared.spec.Spec.{Spec}
use Rattle.lido_syntax.specs.declared.spec.Name.{Name}
use Rattle.lido_syntax.specs.declared.spec.RuleItem.{RuleItem}
use Rattle.lido_syntax.specs.declared.spec.SymbolItem.{SymbolItem}
use Rattle.lido_syntax.specs.declared.fault.SpecFault.TheVariants as fault
use Rattle.lido_syntax.specs.Production.{name_of, left_of, right_of, symbols_of}
use Rattle.lido_syntax.specs.Symbols.{IsNonterminal, IsOnRightSide, IsChain, is_nonterminal}
use Rattle.lido_syntax.specs.Sets.{Inherits, names_of}
use Rattle.lido_syntax.specs.Attributes.{Has, IsNamed, declared, by_name, in_body}
use Rattle.lido_symbols.specs.Classes.{IsClass}
use Rattle.lido_symbols.specs.Numbers.{place_in}
use Rattle.lido_symbols.specs.Uses.{production_names}
use Rattle.kind_clashes.specs.KindClash.{IsKindClash, IsPlainTerminal, Brings}
use Rattle.kind_clashes.specs.KindClash as clash
use Rattle.table_faults.specs.Faults.{IsUnknown, IsDuplicate, plain_count, rules as too_many_rules, elements as too_many_elements}
use Rattle.rule_tables.specs.InForceFaults.{IsBefore, IsMissing, left, right, root}
use Rattle.rule_tables.specs.Needs.{Tables}
use Rattle.flat_laws.specs.Accepted.{IsAccepted}
use Rattle.flat_laws.proofs.SymbolLemmas.{names-right}

-- a least number with what holds of some can't be missing
pub no-least : (P : ℕ → Type 0) → ((m : ℕ) → P m → ((k : ℕ) → k < m → ¬ P k) → ⊥) → (n : ℕ) → ¬ P n
no-least P none n = below (suc n) n (omega arith)
  where
    below : (b m : ℕ) → m < b → ¬ P m
    below zero m h p = absurd (omega (arith, h))
    below (suc b) m h p = none m p (λ k l q. below b k (omega (arith, h, l)) q)

module _ (spec : Spec) (early : Environment) (T : Tables spec) (accepted : IsAccepted spec early T) where
  pub no-clash : (at : ℕ) → ¬ IsKindClash spec early at
  no-clash = at_place-none (λ at. fault.KindClash at) (IsKindClash spec early) accepted.tables.1.1.1.0

  pub no-unknown : (at : ℕ) → ¬ IsUnknown spec early at
  no-unknown = at_place-none (λ at. fault.UnknownSymbol at) (IsUnknown spec early) accepted.tables.0

  pub no-duplicate : (at : ℕ) → ¬ IsDuplicate spec early at
  no-duplicate = at_place-none (λ at. fault.DuplicateRule at) (IsDuplicate spec early) accepted.tables.1.0

  pub few-plain : sum_by (plain_count spec early) spec.rules ≤ 1024
  few-plain = by (cases_lt 1024 (sum_by (plain_count spec early) spec.rules))
    where
      by : (1024 < sum_by (plain_count spec early) spec.rules) ⊎ (sum_by (plain_count spec early) spec.rules ≤ 1024) → sum_by (plain_count spec early) spec.rules ≤ 1024
      by (inl h) = absurd (accepted.tables.1.1.1.1.1.1.1.1.0 (fault.TooMany many.Rules) (too_many_rules h, refl))
      by (inr h) = h

  pub few-elements : (r : RuleItem) → Contains spec.rules r → length (right_of r) ≤ 1024
  few-elements r among = by (cases_lt 1024 (length (right_of r)))
    where
      by : (1024 < length (right_of r)) ⊎ (length (right_of r) ≤ 1024) → length (right_of r) ≤ 1024
      by (inl h) = absurd (accepted.tables.1.1.1.1.1.1.1.1.1.0 (fault.TooMany many.Elements) (too_many_elements r among h, refl))
      by (inr h) = h

  -- ---- missing computations

  missing-rule : (i k a : ℕ) → IsMissing spec T i k a → (r : RuleItem) × (slice_get spec.rules i ≡ Some r)
  missing-rule i _ _ (left r a of has kind none) = (r, of)
  missing-rule i _ _ (right r j s a of at has kind none) = (r, of)
  missing-rule i _ _ (root r a of is has kind) = (r, of)

  pub no-missing : (i k a : ℕ) → ¬ IsMissing spec T i k a
  no-missing i k a missing = no-least (λ i. (k : ℕ) × (a : ℕ) × IsMissing spec T i k a) first i (k, a, missing)
    where
      first : (i : ℕ) → ((k : ℕ) × (a : ℕ) × IsMissing spec T i k a) → ((j : ℕ) → j < i → ¬ ((k : ℕ) × (a : ℕ) × IsMissing spec T j k a)) → ⊥
      first i (k, a, missing) least_rule = no-least (λ k. (a : ℕ) × IsMissing spec T i k a) second k (a, missing)
        where
          second : (k : ℕ) → ((a : ℕ) × IsMissing spec T i k a) → ((j : ℕ) → j < k → ¬ ((a : ℕ) × IsMissing spec T i j a)) → ⊥
          second k (a, missing) least_occurrence =
              no-least (λ n. (a : ℕ) × IsMissing spec T i k a × (place_in (nat_eq a) T.attributes ≡ n)) third (place_in (nat_eq a) T.attributes) (a, missing, refl)
            where
              third : (n : ℕ) → ((a : ℕ) × IsMissing spec T i k a × (place_in (nat_eq a) T.attributes ≡ n))
                  → ((m : ℕ) → m < n → ¬ ((a : ℕ) × IsMissing spec T i k a × (place_in (nat_eq a) T.attributes ≡ m))) → ⊥
              third n (a, missing, e) least_attribute =
                  let (r, of) = missing-rule i k a missing in
                  accepted.in_force.1.1.0 (fault.MissingComputation r.name k (record { 0 = a })) (record {
                    i = i;
                    k = k;
                    a = a;
                    rule = r;
                    missing = missing;
                    first_occurrence = earlier;
                    first_attribute = at_most;
                    of_rule = of;
                    fault = refl;
                  })
                where
                  earlier : (j l b : ℕ) → IsMissing spec T j l b → ¬ IsBefore (j, l) (i, k)
                  earlier j l b m (inl h) = least_rule j h (l, b, m)
                  earlier j l b m (inr (same, h)) = least_occurrence l h (b, subst (λ z. IsMissing spec T z l b) same m)

                  at_most : (b : ℕ) → IsMissing spec T i k b → place_in (nat_eq a) T.attributes ≤ place_in (nat_eq b) T.attributes
                  at_most b m = by (cases_lt (place_in (nat_eq b) T.attributes) (place_in (nat_eq a) T.attributes))
                    where
                      by : (place_in (nat_eq b) T.attributes < place_in (nat_eq a) T.attributes) ⊎ (place_in (nat_eq a) T.attributes ≤ place_in (nat_eq b) T.attributes)
                          → place_in (nat_eq a) T.attributes ≤ place_in (nat_eq b) T.attributes
                      by (inl h) = absurd (least_attribute (place_in (nat_eq b) T.attributes) (omega (arith, h, e)) (b, m, refl))
                      by (inr h) = h

  -- ---- terminals

  -- no symbol of a production is a class
  pub no-class : (r : RuleItem) → Contains spec.rules r → (s : ℕ) → Contains (symbols_of r) s → ¬ IsClass spec s
  no-class r among s m is =
      let (x, mx, e) = contains-map name_of (production_names r) s (subst (λ l. Contains (left_of r ∷ l) s) (sym (names-right r.right)) m) in
      no-clash x.at (clash.class_in_production r x among mx (subst (IsClass spec) (sym e) is) refl)

  pub on-right : (r : RuleItem) → Contains spec.rules r → (s : ℕ) → Contains (right_of r) s → IsOnRightSide spec s
  on-right r among s m = test-contains s (flat_map right_of spec.rules) (flat-contains right_of spec.rules r s among m)

  -- what stands on a right side and is no nonterminal is a terminal
  pub plain-terminal : (r : RuleItem) → Contains spec.rules r → (s : ℕ) → Contains (right_of r) s → ¬ IsClass spec s → ¬ IsNonterminal spec s → ¬ ¬ IsPlainTerminal spec s
  plain-terminal r among s m no_class none not =
      not ((type.Int, (none, inr (on-right r among s m, (λ other term. not ((other, (none, inl term)), no_class)), refl))), no_class)

  item-name : (item : SymbolItem) (s : ℕ) → IsTrue (contains s (names_of item)) → (x : Name) × Contains item.names x × (name_of x ≡ s)
  item-name item s h = contains-map name_of item.names s (contains-test s (names_of item) h)

  module _ (s : ℕ) (is : IsPlainTerminal spec s) where
    no-item : (item : SymbolItem) → Contains spec.symbols item → IsTrue (contains s (names_of item)) → ¬ Brings spec item
    no-item item mi h brings =
        let (x, mx, e) = item-name item s h in
        no-clash x.at (clash.attribute_of_terminal (clash.by_item item x mi mx (subst (IsPlainTerminal spec) (sym e) is) brings refl))

    no-named : (a : ℕ) → ¬ IsNamed spec s a
    no-named a (declared d (item, mi, h, md, e)) = no-item item mi h (clash.declaration d md)
    no-named a (by_name c x i text (b, m, n, unlike) e) =
        no-clash x.at (clash.attribute_of_terminal (clash.by_place c x i b text m (λ chain. unlike (subst (IsChain spec) n chain)) (subst (IsPlainTerminal spec) (sym e) is) refl))
    no-named a (in_body c p (item, mi, h, mc) (b, m, n, unlike) own) = no-item item mi h (clash.in_body c p b mc m own (λ chain. unlike (subst (IsChain spec) n chain)))

    no-heir : (a class : ℕ) → Inherits spec s class → IsNamed spec class a → ⊥
    no-heir a class (source h) named =
        let (k, item, below, at, here) = Any-from_list_any (λ (item : SymbolItem). contains s (names_of item) && contains class (map name_of item.inherits)) spec.symbols h in
        let (own, there) = both (contains s (names_of item)) (contains class (map name_of item.inherits)) here in
        let (x, mx, e) = contains-map name_of item.inherits class (contains-test class (map name_of item.inherits) there) in
        no-item item (k, below, at) own (clash.by_class x a mx (inl (subst (λ z. IsNamed spec z a) (sym e) named)))
    no-heir a class (edge {c = c} h later) named =
        let (k, item, below, at, here) = Any-from_list_any (λ (item : SymbolItem). contains s (names_of item) && contains c (map name_of item.inherits)) spec.symbols h in
        let (own, there) = both (contains s (names_of item)) (contains c (map name_of item.inherits)) here in
        let (x, mx, e) = contains-map name_of item.inherits c (contains-test c (map name_of item.inherits) there) in
        no-item item (k, below, at) own (clash.by_class x a mx (inr (class, subst (λ z. Inherits spec z class) (sym e) later, named)))

    pub no-attribute : (a : ℕ) → ¬ Has spec s a
    no-attribute a (inl named) = no-named a named
    no-attribute a (inr (class, heir, named)) = no-heir a class heir named

  pub is-nonterminal : (s : ℕ) → (¬ IsNonterminal spec s → ⊥) → IsNonterminal spec s
  is-nonterminal s h = by (is_nonterminal spec s) refl
    where
      by : (b : Bool) → is_nonterminal spec s ≡ b → IsNonterminal spec s
      by true e = e
      by false e = absurd (h (λ k. true≢false (sym k ∙ e)))

  -- what stands on a right side and has an attribute is a nonterminal
  pub attribute-nonterminal : (r : RuleItem) → Contains spec.rules r → (s a : ℕ) → Contains (right_of r) s → ¬ IsClass spec s → Has spec s a → IsNonterminal spec s
  attribute-nonterminal r among s a m no_class has = is-nonterminal s (λ none. plain-terminal r among s m no_class none (λ is. no-attribute s is a has))
