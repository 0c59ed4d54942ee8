-- In a complete specification each attribute of each node of a fitting tree has one computation.
use Rattle.std.specs.Prelude.{Contains, IsTrue, Bool, true, false, slice_get, unwrap_or, MatchBool}
use Rattle.std.specs.List.{AllZip}
use Rattle.std.proofs.Common.{◌≡◌, ℕ, zero, suc, ◌<◌, List, [], ◌∷◌, length, Some, refl, arith, ap, subst, sym, ◌∙◌, add-one}
use Rattle.std.proofs.lemmas.Option.{same_Some, slice_get_within, unwrap_or-slice_get}
use Rattle.lido_base.specs.declared.kinds.Kind.{Kind}
use Rattle.lido_base.specs.declared.kinds.Kind.TheVariants as kind
use Rattle.lido_base.specs.Plain.{Plain}
use Rattle.lido_base.specs.Tree.{Tree, Child, items_of, item_at, parent_of, contains, IsTree}
use Rattle.lido_base.proofs.Lists.{place-contains}
use Rattle.lido_base.proofs.PathLemmas.{parent_there, child_of_parent, child_parent, child_place}
use Rattle.lido_base.proofs.TreeLemmas.{parent_before}
use Rattle.lido_syntax.specs.declared.spec.Spec.{Spec}
use Rattle.lido_syntax.specs.declared.spec.Comp.{Comp}
use Rattle.lido_syntax.specs.declared.spec.RuleItem.{RuleItem}
use Rattle.lido_syntax.specs.Production.{left_of, right_of, CanStandAt}
use Rattle.lido_syntax.specs.Symbols.{IsRoot}
use Rattle.lido_syntax.specs.Attributes.{Has, HasKind}
use Rattle.lido_syntax.specs.Computation.{Holder, by_rule, by_symbol, Synthesized, Inherited, InForce}
use Rattle.lido_syntax.specs.Completeness.{IsComplete}
use Rattle.lido_syntax.specs.Nodes.{IsAt, HasSymbol, IsChild, InForceAt, Computes, synthesized, inherited_of_rule, inherited_of_symbol}
use Rattle.lido_syntax.specs.Fitting.{IsItem, IsElement, IsFitting}
use Rattle.lido_syntax.specs.Fitting as fitting
use Rattle.lido_syntax.proofs.SetsLemmas.{sets_of}
use Rattle.lido_syntax.proofs.DecidedLemmas.{goal_of}
use Rattle.lido_syntax.proofs.ComputationLemmas.{one_in_force}
use Rattle.lido_syntax.proofs.ChainsLemmas.{at_rule}

zip_place : {A B : Type 0} (R : A → B → Type 0) (xs : List A) (ys : List B) (k : ℕ) (y : B) → AllZip R xs ys → slice_get ys k ≡ Some y → (x : A) × (slice_get xs k ≡ Some x) × R x y
zip_place R [] [] k y all e = cc
zip_place R [] (b ∷ ys) k y all e = absurd all
zip_place R (a ∷ xs) [] k y all e = absurd all
zip_place R (a ∷ xs) (b ∷ ys) zero y all e = (a, refl, subst (R a) (same_Some b y e) all.0)
zip_place R (a ∷ xs) (b ∷ ys) (suc k) y all e = zip_place R xs ys k y all.1 e

module _ (t : Tree Plain) (w : IsTree t) where
  has_parent : (n : ℕ) → suc n < length t → (p : ℕ) × (k : ℕ) × (p < length t) × (item_at t p (suc k) ≡ Some (Child (suc n)))
  has_parent n h =
      let up = parent_there t w n (omega (arith, h)) in
      let own : parent_of t (suc n) ≡ Some up.0 = ap (parent_of t) (sym (add-one n)) ∙ up.1 in
      let place = child_of_parent t w (suc n) up.0 h own in
      (up.0, place.0, omega (arith, parent_before t w (suc n) up.0 own, h), place.1)

module _ (spec : Spec) (complete : IsComplete spec) (t : Tree Plain) where
  in_rules : (n : ℕ) (r : RuleItem) → IsAt spec t n r → Contains spec.rules r
  in_rules n r (i, e, f) = place-contains spec.rules i r f

  same_symbol : (n s q : ℕ) → HasSymbol spec t n s → HasSymbol spec t n q → s ≡ q
  same_symbol n s q (r, at, e) (x, at', f) = sym e ∙ ap left_of (at_rule spec t n r x at at') ∙ f

  one_computation : (r : RuleItem) (k s a : ℕ) (h g : Holder) (c d : Comp) → Contains spec.rules r → InForce spec r k s (Inherited a) h c → InForce spec r k s (Inherited a) g d → (h ≡ g) × (c ≡ d)
  one_computation r k s a h g c d m = one_in_force spec complete.single r m k s (Inherited a) h g c d

  -- ---- there is one at least
  module _ (fits : IsFitting spec t) where
    stands : (p k n s : ℕ) (r : RuleItem) → IsAt spec t p r → item_at t p (suc k) ≡ Some (Child n) → HasSymbol spec t n s → CanStandAt r (suc k) s
    stands p k n s r at e has = go r.list refl
      where
        item : (q : ℕ) → IsItem spec t q (Child n) → q ≡ s
        item q (fitting.node is) = same_symbol n q s is has

        by_node : IsElement spec t (right_of r) (Child n) → IsTrue (contains s (right_of r))
        by_node (c, q, same, among, is) =
            let nodes : n ≡ c = cc in
            subst (λ s. IsTrue (contains s (right_of r))) (same_symbol n q s (subst (λ c. HasSymbol spec t c q) (sym nodes) is) has) among

        go : (b : Bool) → r.list ≡ b → MatchBool b (IsTrue (contains s (right_of r))) (slice_get (right_of r) k ≡ Some s)
        go true f = by_node (subst (IsElement spec t (right_of r)) (sym (unwrap_or-slice_get (items_of t p) k (Child n)) ∙ ap (λ o. unwrap_or o (Child n)) e) (fits.lists p r at f k (Child n) (slice_get_within (items_of t p) k (Child n) e)))
        go false f = let found = zip_place (IsItem spec t) (right_of r) (items_of t p) k (Child n) (fits.plain p r at f) e in found.1 ∙ ap (λ q. Some q) (item found.0 found.2)

    pub is_computed : (n s a : ℕ) (k : Kind) → n < length t → HasSymbol spec t n s → Has spec s a → HasKind spec s a k → (context : ℕ) × (h : Holder) × (c : Comp) × Computes spec t n a context h c
    is_computed n s a kind.Synthesized inside (r, at, e) has is =
        let found = (complete.synthesized r a (in_rules n r at) (subst (λ s. Has spec s a) (sym e) has)).0 (subst (λ s. HasKind spec s a kind.Synthesized) (sym e) is) in
        (n, found.0, found.1, synthesized (r, at, found.2))
    is_computed zero s a kind.Inherited inside symbol has is = absurd (complete.root s a (subst (λ q. IsRoot spec q) (same_symbol 0 fits.root.0 s fits.root.2 symbol) fits.root.1) has is)
    is_computed (suc n) s a kind.Inherited inside symbol has is =
        let up = has_parent t fits.tree n inside in
        let ruled = fits.ruled up.0 up.2 in
        let can = stands up.0 up.1 (suc n) s ruled.0 ruled.1 up.3 symbol in
        let found = (complete.inherited ruled.0 up.1 s a (in_rules up.0 ruled.0 ruled.1) can has).0 is in
        by_holder up.0 up.1 ruled.0 ruled.1 up.3 found.0 found.1 found.2
      where
        by_holder : (p k : ℕ) (r : RuleItem) → IsAt spec t p r → item_at t p (suc k) ≡ Some (Child (suc n)) → (h : Holder) (c : Comp) → InForce spec r (suc k) s (Inherited a) h c
            → (context : ℕ) × (h : Holder) × (c : Comp) × Computes spec t (suc n) a context h c
        by_holder p k r at child by_rule c force = (p, by_rule, c, inherited_of_rule p (suc k) s r child at symbol force)
        by_holder p k r at child by_symbol c force = (suc n, by_symbol, c, inherited_of_symbol p (suc k) s r child at symbol force)

  -- ---- and one at most
  module _ (w : IsTree t) (n s a : ℕ) (symbol : HasSymbol spec t n s) (has : Has spec s a) where
    of_left : (h : Holder) (c : Comp) → InForceAt spec t n (Synthesized a) h c → HasKind spec s a kind.Synthesized
    of_left h c (r, at, force) =
        let same : left_of r ≡ s = same_symbol n (left_of r) s (r, at, refl) symbol in
        subst (λ s. HasKind spec s a kind.Synthesized) same ((complete.synthesized r a (in_rules n r at) (subst (λ s. Has spec s a) (sym same) has)).1 (h, c, force))

    of_right : (p k q : ℕ) (r : RuleItem) (h : Holder) (c : Comp) → IsChild spec t p k n → IsAt spec t p r → HasSymbol spec t n q → InForce spec r k q (Inherited a) h c → HasKind spec s a kind.Inherited
    of_right p zero q r h c child at other force = cc
    of_right p (suc k) q r h c child at other force =
        let same : q ≡ s = same_symbol n q s other symbol in
        subst (λ s. HasKind spec s a kind.Inherited) same
        ((complete.inherited r k q a (in_rules p r at) (goal_of spec (sets_of spec) r (suc k) q (Inherited a) h c force).0 (subst (λ s. Has spec s a) (sym same) has)).1 (h, c, force))

    apart : {X : Type 0} → HasKind spec s a kind.Synthesized → HasKind spec s a kind.Inherited → X
    apart x y = let wrong = complete.one_kind s a kind.Synthesized kind.Inherited x y in cc

    -- two computations at the parent's right side
    beside : (p k q p' k' q' : ℕ) (r r' : RuleItem) (h g : Holder) (c d : Comp) → IsChild spec t p k n → IsChild spec t p' k' n → IsAt spec t p r → IsAt spec t p' r' → HasSymbol spec t n q → HasSymbol spec t n q'
        → InForce spec r k q (Inherited a) h c → InForce spec r' k' q' (Inherited a) g d → (p ≡ p') × (h ≡ g) × (c ≡ d)
    beside p k q p' k' q' r r' h g c d child child' at at' is is' force force' =
        let parents : p' ≡ p = same_Some p' p (sym (child_parent t w p' k' n child') ∙ child_parent t w p k n child) in
        let places : k' ≡ k = sym (child_place t w p' k' n child') ∙ child_place t w p k n child in
        let rules : r' ≡ r = at_rule spec t p r' r (subst (λ p. IsAt spec t p r') parents at') at in
        let symbols : q' ≡ q = same_symbol n q' q is' is in
        let moved : InForce spec r k q (Inherited a) g d = subst (λ r. InForce spec r k q (Inherited a) g d) rules (subst (λ k. InForce spec r' k q (Inherited a) g d) places (subst (λ q. InForce spec r' k' q (Inherited a) g d) symbols force')) in
        let one = one_computation r k q a h g c d (in_rules p r at) force moved in
        (sym parents, one.0, one.1)

    pub is_computed_once : (context other : ℕ) (h g : Holder) (c d : Comp) → Computes spec t n a context h c → Computes spec t n a other g d → (context ≡ other) × (h ≡ g) × (c ≡ d)
    is_computed_once _ _ h g c d (synthesized (r, at, x)) (synthesized (r', at', y)) =
        let rules : r' ≡ r = at_rule spec t n r' r at' at in
        let one = one_in_force spec complete.single r (in_rules n r at) 0 (left_of r) (Synthesized a) h g c d x (subst (λ r. InForce spec r 0 (left_of r) (Synthesized a) g d) rules y) in
        (refl, one.0, one.1)
    is_computed_once _ _ h _ c d (synthesized x) (inherited_of_rule p k q r child at is force) = apart (of_left h c x) (of_right p k q r by_rule d child at is force)
    is_computed_once _ _ h _ c d (synthesized x) (inherited_of_symbol p k q r child at is force) = apart (of_left h c x) (of_right p k q r by_symbol d child at is force)
    is_computed_once _ _ _ g c d (inherited_of_rule p k q r child at is force) (synthesized y) = apart (of_left g d y) (of_right p k q r by_rule c child at is force)
    is_computed_once _ _ _ g c d (inherited_of_symbol p k q r child at is force) (synthesized y) = apart (of_left g d y) (of_right p k q r by_symbol c child at is force)
    is_computed_once _ _ _ _ c d (inherited_of_rule p k q r child at is force) (inherited_of_rule p' k' q' r' child' at' is' force') = beside p k q p' k' q' r r' by_rule by_rule c d child child' at at' is is' force force'
    is_computed_once _ _ _ _ c d (inherited_of_rule p k q r child at is force) (inherited_of_symbol p' k' q' r' child' at' is' force') =
        let wrong = (beside p k q p' k' q' r r' by_rule by_symbol c d child child' at at' is is' force force').1 in cc
    is_computed_once _ _ _ _ c d (inherited_of_symbol p k q r child at is force) (inherited_of_rule p' k' q' r' child' at' is' force') =
        let wrong = (beside p k q p' k' q' r r' by_symbol by_rule c d child child' at at' is is' force force').1 in cc
    is_computed_once _ _ _ _ c d (inherited_of_symbol p k q r child at is force) (inherited_of_symbol p' k' q' r' child' at' is' force') =
        let found = beside p k q p' k' q' r r' by_symbol by_symbol c d child child' at at' is is' force force' in (refl, found.1, found.2)
