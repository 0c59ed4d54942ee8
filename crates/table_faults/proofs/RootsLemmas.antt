-- The left sides that stand on no right side.
use Rattle.std.specs.Prelude.{Contains, IsTrue, nat_eq, ◌||◌, slice_get, map}
use Rattle.std.proofs.Common.{◌≡◌, ℕ, ◌+◌, ◌≤◌, inl, inr, List, [], ◌∷◌, ◌++◌, Some, length, arith, sym, ap, subst, ◌∙◌}
use Rattle.std.proofs.lemmas.Bool.{cases_lt}
use Rattle.std.proofs.lemmas.Option.{same_Some, slice_get_within, slice_get-get_or}
use Rattle.std.proofs.lemmas.List.Elements.{Contains-append_left, Contains-append_right, Contains-append_cases}
use Rattle.std.proofs.lemmas.List.Quantifiers.{all_pairs_push}
use Rattle.lido_base.specs.Environment.{Environment}
use Rattle.lido_base.proofs.Lists.{contains-nil, contains-cons, contains-here, contains-place, place-contains, contains-map, map-contains}
use Rattle.lido_base.proofs.TreeLemmas.{contains-test, test-contains}
use Rattle.lido_syntax.specs.declared.spec.Spec.{Spec}
use Rattle.lido_syntax.specs.declared.spec.RuleItem.{RuleItem}
use Rattle.lido_syntax.specs.Production.{left_of}
use Rattle.kind_clashes.specs.declared.names.Names.{Names}
use Rattle.kind_clashes.specs.declared.sets.NameSets.{NameSets}
use Rattle.kind_clashes.specs.Names.{has, IsSetOf}
use Rattle.kind_clashes.specs.Sets.{AreNameSets}
use Rattle.kind_clashes.proofs.LeastLemmas.{AmongFirst}
use Rattle.kind_clashes.proofs.NamesLemmas.{more-one}
use Rattle.table_faults.specs.Roots.{AreDifferent, IsWith, IsRootOf, AreRootsOf}
use Rattle.table_faults.specs.Faults.{AreRoots}

pub with-seen : (id : ℕ) (names : List ℕ) → Contains names id → IsWith id names names
with-seen id names there = record { only = λ s m. inl m; kept = λ s m. m; all = λ s e. subst (λ n. Contains names n) (sym e) there; once = λ different. different }

pub with-new : (id : ℕ) (names : List ℕ) → ¬ Contains names id → IsWith id names (names ++ id ∷ [])
with-new id names none = record {
  only = λ s m. elim (Contains-append_cases names (id ∷ []) s m) [
    | inl old ↦ inl old
    | inr new ↦ inr (elim (contains-cons id s [] new) [ inl e ↦ sym e | inr more ↦ absurd (contains-nil s more) ])
  ];
  kept = λ s m. Contains-append_left names (id ∷ []) s m;
  all = λ s e. subst (λ n. Contains (names ++ id ∷ []) n) (sym e) (Contains-append_right names (id ∷ []) id (contains-here id []));
  once = λ different. all_pairs_push (λ s q. s ≡ q → ⊥) names id different
      (λ k d below same. none (subst (λ n. Contains names n) same (place-contains names k _ (slice_get-get_or names k d below))));
}

pub set-new : (id : ℕ) (names : List ℕ) (seen after : Names) → IsSetOf (λ s. Contains names s) seen → ((other : ℕ) → has after other ≡ (nat_eq id other || has seen other)) → IsSetOf (λ s. Contains (names ++ id ∷ []) s) after
set-new id names seen after set e = let more = more-one e in record {
  only = λ s h. elim (more.only s h) [
    | inl old ↦ Contains-append_left names (id ∷ []) s (set.only s old)
    | inr same ↦ subst (λ n. Contains (names ++ id ∷ []) n) same (Contains-append_right names (id ∷ []) id (contains-here id []))
  ];
  all = λ s m. elim (Contains-append_cases names (id ∷ []) s m) [
    | inl old ↦ more.kept s (set.all s old)
    | inr new ↦ elim (contains-cons id s [] new) [ inl same ↦ more.all s same | inr none ↦ absurd (contains-nil s none) ]
  ];
}

pub root-not : (sets : NameSets) (id : ℕ) (names : List ℕ) → IsTrue (has sets.right_sides id) → IsRootOf sets id names names
root-not sets id names right = record { only = λ s m. inl m; kept = λ s m. m; all = λ s r. absurd (r.0 right); once = λ different. different }

pub root-new : (sets : NameSets) (id : ℕ) (before after : List ℕ) → ¬ IsTrue (has sets.right_sides id) → IsWith id before after → IsRootOf sets id before after
root-new sets id before after none more = record {
  only = λ s m. elim (more.only s m) [ inl old ↦ inl old | inr e ↦ inr (none, e) ];
  kept = more.kept;
  all = λ s r. more.all s r.1;
  once = more.once;
}

abbrev pub IsRootLeft : NameSets → RuleItem → ℕ → Type 0
IsRootLeft sets r q = (¬ IsTrue (has sets.right_sides (left_of r))) × (q ≡ left_of r)

-- those of the first rules
pub record AreRootsFirst (sets : NameSets) (rules : List RuleItem) (i : ℕ) (roots : List ℕ) : Type 0 where
  pub only : (s : ℕ) → Contains roots s → AmongFirst (IsRootLeft sets) rules i s
  pub all : (s : ℕ) → AmongFirst (IsRootLeft sets) rules i s → Contains roots s
  pub once : AreDifferent roots

pub roots-step : (sets : NameSets) (rules : List RuleItem) (i : ℕ) (rule : RuleItem) (before after : List ℕ) → slice_get rules i ≡ Some rule
    → AreRootsFirst sets rules i before → IsRootOf sets (left_of rule) before after → AreRootsFirst sets rules (i + 1) after
roots-step sets rules i rule before after got first more = record {
  only = λ s m. elim (more.only s m) [
    | inl old ↦ (let h = first.only s old in record { place = h.place; item = h.item; below = (let lt = h.below in omega (arith, lt)); got = h.got; is = h.is })
    | inr new ↦ record { place = i; item = rule; below = (omega arith); got = got; is = new }
  ];
  all = λ s h. elim (cases_lt h.place i) [
    | inl lt ↦ more.kept s (first.all s (record { place = h.place; item = h.item; below = lt; got = h.got; is = h.is }))
    | inr le ↦ (let below = h.below in let e : h.place ≡ i = omega (arith, below, le) in
        let same : h.item ≡ rule = same_Some _ _ (sym h.got ∙ ap (λ n. slice_get rules n) e ∙ got) in
        more.all s (subst (λ (r : RuleItem). IsRootLeft sets r s) same h.is))
  ];
  once = more.once first.once;
}

pub roots-end : (sets : NameSets) (rules : List RuleItem) (i : ℕ) (roots : List ℕ) → length rules ≤ i → AreRootsFirst sets rules i roots → AreRootsOf sets rules roots
roots-end sets rules i roots end first = record {
  only = λ s m. let h = first.only s m in record { item = h.item; among = place-contains rules h.place h.item h.got; is = h.is };
  all = λ s h. let p = contains-place rules h.item h.among in
      first.all s (record { place = p.0; item = h.item; below = (let lt = slice_get_within rules p.0 h.item p.1 in omega (arith, lt, end)); got = p.1; is = h.is });
  once = first.once;
}

pub roots-are : (spec : Spec) (env : Environment) (sets : NameSets) (roots : List ℕ) → AreNameSets spec sets → AreRootsOf sets spec.rules roots → AreRoots spec env roots
roots-are spec env sets roots are of_rules = record {
  each = λ s m. let h = of_rules.only s m in let e : left_of h.item ≡ s = sym h.is.1 in (
    test-contains s (map left_of spec.rules) (subst (λ n. Contains (map left_of spec.rules) n) e (map-contains left_of spec.rules h.item h.among)),
    λ right. h.is.0 (subst (λ n. IsTrue (has sets.right_sides n)) (sym e) (are.right_sides.all s right)),
  );
  all = λ s root. let p = contains-map left_of spec.rules s (contains-test s (map left_of spec.rules) root.0) in
      of_rules.all s (record { item = p.0; among = p.1; is = ((λ h. root.1 (are.right_sides.only s (subst (λ n. IsTrue (has sets.right_sides n)) p.2 h))), sym p.2) });
  once = of_rules.once;
}
