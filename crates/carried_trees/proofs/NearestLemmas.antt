-- INCLUDING, step by step.
use Rattle.std.specs.Prelude.{Contains, IsTrue, filter_map, slice_get, option_map, option_and_then, unwrap_or}
use Rattle.std.specs.List.{list_all, cons_option}
use Rattle.std.specs.Option.{option_map_or}
use Rattle.std.proofs.Common.{◌≡◌, ℕ, List, [], ◌∷◌, Option, Some, None, Bool, inl, inr, refl, ap, sym, ◌∙◌, eqb-true, true≢false}
use Rattle.lido_base.proofs.Lists.{contains-nil, contains-cons, contains-here, contains-later, place-contains}
use Rattle.lido_base.specs.Plain.{Plain, Void}
use Rattle.lido_base.specs.Tree.{Tree, IsTree, parent_of, ancestors}
use Rattle.lido_base.proofs.TreeLemmas.{ancestors-child, both}
use Rattle.lido_syntax.specs.declared.spec.Spec.{Spec}
use Rattle.lido_syntax.specs.declared.spec.Pair.{Pair}
use Rattle.lido_syntax.specs.Assignment.{Assignment, Attribute, value_at}
use Rattle.lido_syntax.specs.Including.{listed, symbol_at, nearest}
use Rattle.lido_syntax.specs.declared.spec.RuleItem.{RuleItem}
use Rattle.lido_syntax.specs.Production.{left_of}
use Rattle.lido_syntax.specs.Nodes.{IsAt}
use Rattle.lido_syntax.specs.Sets.{Sets}
use Rattle.lido_symbols.specs.Uses.{is_same_option, is_same_set}

module _ (spec : Spec) (sets : Sets spec) (t : Tree Plain) (A : Assignment) (pairs : List Pair) where
  -- what the nearest of these nodes gives
  abbrev pub found : List ℕ → Plain
  found nodes = option_map_or (λ (m : ℕ × ℕ). value_at A m.0 (Attribute m.1)) (nearest spec sets t pairs nodes) Void

  -- of a node and what is above it the node itself comes first, if it is listed
  abbrev pub handed : ℕ → Option ℕ → Plain
  handed w None = found (ancestors t w)
  handed w (Some a) = value_at A w (Attribute a)

  pub found-self : (w : ℕ) (o : Option ℕ) → listed spec sets pairs (symbol_at spec sets t w) ≡ o → found (w ∷ ancestors t w) ≡ handed w o
  found-self w None e = rw e refl
  found-self w (Some a) e = rw e refl

  -- a child of w sees w, and what is above it
  pub found-child : IsTree t → (w c : ℕ) → parent_of t c ≡ Some w → found (ancestors t c) ≡ found (w ∷ ancestors t w)
  found-child tree w c e = rw (ancestors-child t tree c w e) refl

-- ---- sets of pairs

same-option : (a b : Option ℕ) → IsTrue (is_same_option a b) → a ≡ b
same-option None None h = refl
same-option None (Some b) h = absurd (true≢false (sym h))
same-option (Some a) None h = absurd (true≢false (sym h))
same-option (Some a) (Some b) h = ap (λ n. Some n) (eqb-true a b h)

each-passes : {X : Type 0} (test : X → Bool) (xs : List X) (x : X) → IsTrue (list_all test xs) → Contains xs x → IsTrue (test x)
each-passes test [] x h m = absurd (contains-nil x m)
each-passes test (y ∷ ys) x h m =
    let (first, later) = both (test y) (list_all test ys) h in
    elim (contains-cons y x ys m) [ inl e ↦ ap test (sym e) ∙ first | inr k ↦ each-passes test ys x later k ]

module _ (spec : Spec) (sets : Sets spec) (t : Tree Plain) where
  -- the symbol of a node that has a rule
  pub symbol-is : (n : ℕ) (r : RuleItem) → IsAt spec t n r → symbol_at spec sets t n ≡ left_of r
  symbol-is n r (i, at, of) =
      ap (λ (o : Option ℕ). unwrap_or (option_map left_of (option_and_then {T = ℕ} {U = RuleItem} (slice_get spec.rules) o)) 0) at ∙ ap (λ (o : Option RuleItem). unwrap_or (option_map left_of o) 0) of

module _ (spec : Spec) (sets : Sets spec) (t : Tree Plain) (A : Assignment) (p q : List Pair) (same : IsTrue (is_same_set spec sets p q)) where
  listed-same : (r : RuleItem) → Contains spec.rules r → listed spec sets p (left_of r) ≡ listed spec sets q (left_of r)
  listed-same r m = same-option _ _ (each-passes (λ (r : RuleItem). is_same_option (listed spec sets p (left_of r)) (listed spec sets q (left_of r))) spec.rules r same m)

  node-same : (n : ℕ) (r : RuleItem) → IsAt spec t n r → listed spec sets p (symbol_at spec sets t n) ≡ listed spec sets q (symbol_at spec sets t n)
  node-same n r at = ap (listed spec sets p) (symbol-is spec sets t n r at) ∙ listed-same r (place-contains spec.rules at.0 r at.2) ∙ sym (ap (listed spec sets q) (symbol-is spec sets t n r at))

  gathered-same : (nodes : List ℕ) → ((n : ℕ) → Contains nodes n → (r : RuleItem) × IsAt spec t n r)
      → filter_map (λ m. option_map (λ (a : ℕ). let z : ℕ × ℕ = (m, a) in z) (listed spec sets p (symbol_at spec sets t m))) nodes ≡ filter_map (λ m. option_map (λ (a : ℕ). let z : ℕ × ℕ = (m, a) in z) (listed spec sets q (symbol_at spec sets t m))) nodes
  gathered-same [] ruled = refl
  gathered-same (n ∷ nodes) ruled =
      let (r, at) = ruled n (contains-here n nodes) in
      (λ i. cons_option (option_map (λ (a : ℕ). let z : ℕ × ℕ = (n, a) in z) (node-same n r at i)) (gathered-same nodes (λ m k. ruled m (contains-later n m nodes k)) i))

  -- of nodes with rules one set finds what the other does
  pub found-same : (nodes : List ℕ) → ((n : ℕ) → Contains nodes n → (r : RuleItem) × IsAt spec t n r) → found spec sets t A p nodes ≡ found spec sets t A q nodes
  found-same nodes ruled = ap (λ (l : List (ℕ × ℕ)). option_map_or (λ (m : ℕ × ℕ). value_at A m.0 (Attribute m.1)) (slice_get l 0) Void) (gathered-same nodes ruled)
