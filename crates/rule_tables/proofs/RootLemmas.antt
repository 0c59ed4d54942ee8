-- A nonterminal that stands on no right side, sought rule by rule.
use Rattle.std.specs.Prelude.{Contains, map}
use Rattle.std.proofs.Common.{◌≡◌, ℕ, ◌+◌, ◌<◌, ◌⊎◌, inl, inr, List, [], ◌∷◌, ◌++◌, length, take, get_or, ap, sym, subst, ◌∙◌}
use Rattle.std.proofs.lemmas.List.{take_more}
use Rattle.std.proofs.lemmas.List.Elements.{Contains-append_cases, Contains-get_or}
use Rattle.lido_base.proofs.Lists.{contains-cons, contains-nil, contains-map, map-contains}
use Rattle.lido_base.proofs.TreeLemmas.{contains-test, test-contains}
use Rattle.lido_syntax.specs.declared.spec.Spec.{Spec}
use Rattle.lido_syntax.specs.declared.spec.RuleItem.{RuleItem}
use Rattle.lido_syntax.specs.Production.{left_of}
use Rattle.lido_syntax.specs.Symbols.{IsRoot, IsOnRightSide, IsNonterminal}

-- the left sides of these rules stand on right sides
abbrev pub AreBelow : Spec → List RuleItem → Type 0
AreBelow spec rules = (r : RuleItem) → Contains rules r → IsOnRightSide spec (left_of r)

pub below-none : (spec : Spec) → AreBelow spec []
below-none spec r m = absurd (contains-nil r m)

pub below-more : (spec : Spec) (rules : List RuleItem) (i : ℕ) (x : RuleItem) → i < length rules → x ≡ get_or rules i x → IsOnRightSide spec (left_of x) → AreBelow spec (take i rules) → AreBelow spec (take (i + 1) rules)
below-more spec rules i x h at on before r m = by (Contains-append_cases (take i rules) (x ∷ []) r (subst (λ l. Contains l r) (take_more rules i x h ∙ ap (λ y. take i rules ++ y ∷ []) (sym at)) m))
  where
    by : Contains (take i rules) r ⊎ Contains (x ∷ []) r → IsOnRightSide spec (left_of r)
    by (inl k) = before r k
    by (inr k) = elim (contains-cons x r [] k) [ inl e ↦ subst (λ y. IsOnRightSide spec (left_of y)) e on | inr n ↦ absurd (contains-nil r n) ]

pub no-root : (spec : Spec) → AreBelow spec spec.rules → (s : ℕ) → ¬ IsRoot spec s
no-root spec below s root = let (r, among, e) = contains-map left_of spec.rules s (contains-test s (map left_of spec.rules) root.0) in root.1 (subst (IsOnRightSide spec) e (below r among))

pub nonterminal-at : (spec : Spec) (i : ℕ) (x : RuleItem) → i < length spec.rules → x ≡ get_or spec.rules i x → IsNonterminal spec (left_of x)
nonterminal-at spec i x h at = test-contains (left_of x) (map left_of spec.rules) (map-contains left_of spec.rules x (subst (Contains spec.rules) (sym at) (Contains-get_or spec.rules i x h)))
