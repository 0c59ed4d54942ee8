-- The nodes of the nested start, one by one, and parts of lists.
use Rattle.std.specs.Prelude.{slice_get, option_and_then}
use Rattle.std.specs.List.{AllByRecursion}
use Rattle.std.proofs.Common.{◌≡◌, ℕ, zero, suc, ◌⊎◌, inl, inr, List, [], ◌∷◌, ◌++◌, Some, refl, arith, subst}
use Rattle.lido_base.specs.Tree.{rule_at}
use Rattle.lido_syntax.specs.declared.spec.Comp.{Comp}
use Rattle.lido_syntax.specs.declared.spec.RuleItem.{RuleItem}
use Rattle.lido_syntax.specs.Production.{left_of}
use Rattle.lido_syntax.specs.Computation.{Goal, Holder, Start, Behind, by_rule, of_rule, InRule, IsRuleTarget}
use Rattle.lido_syntax.specs.Nodes.{IsAt, InForceAt, HasInForce}
use Rattle.trials_of_syntax.specs.NestedStart.{spec, tree, top_rule, item_rule, sub_rule, group_rule, from_one, from_ten, next, no, text}
use Rattle.trials_of_syntax.proofs.Members.{every, same_Some}
use Rattle.trials_of_syntax.proofs.RulesOnly.{only_rules, rule_of}

-- what holds of each node and its rule
pub by_node : (P : ℕ → RuleItem → Type 0) → P 0 top_rule → P 1 item_rule → P 2 sub_rule → P 3 group_rule → P 4 item_rule → P 5 item_rule → P 6 item_rule → (m : ℕ) (r : RuleItem) → IsAt spec tree m r → P m r
by_node P a b c d e f g m r at = go m (rule_of spec.rules spec.attrs spec.terms spec.chains tree m r at)
  where
    go : (m : ℕ) → option_and_then (slice_get spec.rules) (rule_at tree m) ≡ Some r → P m r
    go zero h = subst (P 0) (same_Some _ _ h) a
    go (suc zero) h = subst (P 1) (same_Some _ _ h) b
    go (suc (suc zero)) h = subst (P 2) (same_Some _ _ h) c
    go (suc (suc (suc zero))) h = subst (P 3) (same_Some _ _ h) d
    go (suc (suc (suc (suc zero)))) h = subst (P 4) (same_Some _ _ h) e
    go (suc (suc (suc (suc (suc zero))))) h = subst (P 5) (same_Some _ _ h) f
    go (suc (suc (suc (suc (suc (suc zero)))))) h = subst (P 6) (same_Some _ _ h) g
    go (suc (suc (suc (suc (suc (suc (suc m))))))) h = cc

-- a computation in force on a left side is one of the rule's body
abbrev pub Holds : (ℕ → Comp → Type 0) → Goal → ℕ → RuleItem → Type 0
Holds P goal m r = AllByRecursion (λ (c : Comp). IsRuleTarget spec r c c.target 0 goal → P m c) r.body

pub in_force : (goal : Goal) (P : ℕ → Comp → Type 0) → Holds P goal 0 top_rule → Holds P goal 1 item_rule → Holds P goal 2 sub_rule → Holds P goal 3 group_rule → Holds P goal 4 item_rule → Holds P goal 5 item_rule → Holds P goal 6 item_rule
    → (m : ℕ) (h : Holder) (c : Comp) → InForceAt spec tree m goal h c → (h ≡ by_rule) × P m c
in_force goal P a b d e f g k m h c (r, at, force) =
    let parts : (h ≡ by_rule) × InRule spec r 0 goal c = only_rules spec.rules spec.attrs spec.terms spec.chains r 0 (left_of r) goal h c force in
    (parts.0, every (λ (c : Comp). IsRuleTarget spec r c c.target 0 goal → P m c) r.body (by_node (Holds P goal) a b d e f g k m r at) c parts.1.0 parts.1.1)

-- the chain starts at the list and at the group
abbrev pub IsStartOf : ℕ → Comp → Type 0
IsStartOf m c = ((m ≡ 0) × (c ≡ from_one)) ⊎ ((m ≡ 3) × (c ≡ from_ten))

pub starts : (m : ℕ) (h : Holder) (c : Comp) → InForceAt spec tree m (Start no) h c → (h ≡ by_rule) × IsStartOf m c
starts = in_force (Start no) IsStartOf ((λ h. inl (refl, refl)), ((λ h. absurd h), tt)) no_item (((λ h. absurd h), tt)) ((λ h. inr (refl, refl)), ((λ h. absurd h), tt)) no_item no_item no_item
  where
    no_item : {m : ℕ} → Holds IsStartOf (Start no) m item_rule
    no_item {m} = ((λ h. absurd h), ((λ h. absurd h), tt))

pub start_at_top : HasInForce spec tree 0 (Start no)
start_at_top = (by_rule, from_one, (top_rule, (0, refl, refl), of_rule (refl, tt) ((0, omega arith, refl), refl)))

pub start_at_group : HasInForce spec tree 3 (Start no)
start_at_group = (by_rule, from_ten, (group_rule, (3, refl, refl), of_rule (refl, tt) ((0, omega arith, refl), refl)))

-- an item that is a line assigns the chain, and nothing else does
abbrev pub IsLine : ℕ → Type 0
IsLine m = (m ≡ 1) ⊎ ((m ≡ 4) ⊎ ((m ≡ 5) ⊎ (m ≡ 6)))

abbrev pub IsNext : ℕ → Comp → Type 0
IsNext m c = IsLine m × (c ≡ next)

pub assigns : (m : ℕ) (h : Holder) (c : Comp) → InForceAt spec tree m (Behind no) h c → (h ≡ by_rule) × IsNext m c
assigns = in_force (Behind no) IsNext ((λ h. absurd h), ((λ h. absurd h), tt)) (item 1 (inl refl)) ((λ h. text_is_no_chain h.1), tt) ((λ h. absurd h), ((λ h. text_is_no_chain h.1), tt))
    (item 4 (inr (inl refl))) (item 5 (inr (inr (inl refl)))) (item 6 (inr (inr (inr refl))))
  where
    text_is_no_chain : {X : Type 0} → text ≡ no → X
    text_is_no_chain e = absurd (omega (arith, e))

    item : (m : ℕ) → IsLine m → Holds IsNext (Behind no) m item_rule
    item m h = ((λ k. text_is_no_chain k.1), ((λ k. (h, refl)), tt))

pub next_in_force : (m : ℕ) → IsAt spec tree m item_rule → HasInForce spec tree m (Behind no)
next_in_force m at = (by_rule, next, (item_rule, at, of_rule (refl, tt) ((1, omega arith, refl), (refl, refl, refl))))

-- neighbours in a list
abbrev pub EachNext : (ℕ → ℕ → Type 0) → List ℕ → Type 0
EachNext R [] = Unit {0}
EachNext R (x ∷ []) = Unit {0}
EachNext R (x ∷ y ∷ ys) = R x y × EachNext R (y ∷ ys)

pub same_head : (x y : ℕ) (xs ys : List ℕ) → x ∷ xs ≡ y ∷ ys → x ≡ y
same_head x y xs ys e = cc

same_rest : (x y : ℕ) (xs ys : List ℕ) → x ∷ xs ≡ y ∷ ys → xs ≡ ys
same_rest x y xs ys e = cc

pub not_empty : (x : ℕ) (xs : List ℕ) → ¬ ([] ≡ x ∷ xs)
not_empty x xs e = cc

pub none_at_end : (m : ℕ) (before rest : List ℕ) → ¬ ([] ≡ before ++ m ∷ rest)
none_at_end m [] rest e = cc
none_at_end m (x ∷ before) rest e = cc

pub adjacent : (R : ℕ → ℕ → Type 0) (xs : List ℕ) → EachNext R xs → (j m : ℕ) (before rest : List ℕ) → xs ≡ before ++ j ∷ m ∷ rest → R j m
adjacent R [] all j m before rest e = absurd (none_at_end j before (m ∷ rest) e)
adjacent R (x ∷ []) all j m [] rest e = absurd (not_empty m rest (same_rest x j [] (m ∷ rest) e))
adjacent R (x ∷ []) all j m (b ∷ before) rest e = absurd (none_at_end j before (m ∷ rest) (same_rest x b [] (before ++ j ∷ m ∷ rest) e))
adjacent R (x ∷ y ∷ ys) all j m [] rest e = subst (λ z. R z m) (same_head x j (y ∷ ys) (m ∷ rest) e) (subst (λ z. R x z) (same_head y m ys rest (same_rest x j (y ∷ ys) (m ∷ rest) e)) all.0)
adjacent R (x ∷ y ∷ ys) all j m (b ∷ before) rest e = adjacent R (y ∷ ys) all.1 j m before rest (same_rest x b (y ∷ ys) (before ++ j ∷ m ∷ rest) e)

pub only_last : (x m : ℕ) (before : List ℕ) → x ∷ [] ≡ before ++ m ∷ [] → x ≡ m
only_last x m [] e = same_head x m [] [] e
only_last x m (b ∷ before) e = absurd (none_at_end m before [] (same_rest x b [] (before ++ m ∷ []) e))

pub no_start_inside : ¬ HasInForce spec tree 2 (Start no)
no_start_inside (h, c, f) = at (starts 2 h c f).1
  where
    at : ¬ IsStartOf 2 c
    at (inl h) = omega (arith, h.0)
    at (inr h) = omega (arith, h.0)

pub group_unassigned : ¬ HasInForce spec tree 3 (Behind no)
group_unassigned (h, c, f) = at (assigns 3 h c f).1.0
  where
    at : ¬ IsLine 3
    at (inl h) = omega (arith, h)
    at (inr (inl h)) = omega (arith, h)
    at (inr (inr (inl h))) = omega (arith, h)
    at (inr (inr (inr h))) = omega (arith, h)
