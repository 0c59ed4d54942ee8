-- The nodes of the numbered list, one by one.
use Rattle.std.specs.Prelude.{slice_get, option_and_then}
use Rattle.std.proofs.Common.{◌≡◌, ℕ, zero, suc, ◌⊎◌, inl, inr, Some, refl, arith, subst}
use Rattle.lido_base.specs.Tree.{rule_at}
use Rattle.lido_syntax.specs.declared.spec.Comp.{Comp}
use Rattle.lido_syntax.specs.declared.spec.RuleItem.{RuleItem}
use Rattle.lido_syntax.specs.Production.{left_of}
use Rattle.lido_syntax.specs.Computation.{Goal, Holder, Start, Behind, by_rule, of_rule, InRule, IsRuleTarget}
use Rattle.lido_syntax.specs.Nodes.{IsAt, InForceAt, HasInForce}
use Rattle.trials_of_syntax.specs.NestedStart.{spec, top_rule, item_rule, from_one, next, no, text}
use Rattle.trials_of_syntax.specs.NumberedList.{tree}
use Rattle.trials_of_syntax.proofs.Members.{every, same_Some}
use Rattle.trials_of_syntax.proofs.RulesOnly.{only_rules, rule_of}
use Rattle.trials_of_syntax.proofs.NestedStartLemmas.{Holds}

-- what holds of each node and its rule
pub by_node : (P : ℕ → RuleItem → Type 0) → P 0 top_rule → P 1 item_rule → P 2 item_rule → P 3 item_rule → (m : ℕ) (r : RuleItem) → IsAt spec tree m r → P m r
by_node P a b c d m r at = go m (rule_of spec.rules spec.attrs spec.terms spec.chains tree m r at)
  where
    go : (m : ℕ) → option_and_then (slice_get spec.rules) (rule_at tree m) ≡ Some r → P m r
    go zero h = subst (P 0) (same_Some _ _ h) a
    go (suc zero) h = subst (P 1) (same_Some _ _ h) b
    go (suc (suc zero)) h = subst (P 2) (same_Some _ _ h) c
    go (suc (suc (suc zero))) h = subst (P 3) (same_Some _ _ h) d
    go (suc (suc (suc (suc m)))) h = cc

pub in_force : (goal : Goal) (P : ℕ → Comp → Type 0) → Holds P goal 0 top_rule → Holds P goal 1 item_rule → Holds P goal 2 item_rule → Holds P goal 3 item_rule
    → (m : ℕ) (h : Holder) (c : Comp) → InForceAt spec tree m goal h c → (h ≡ by_rule) × P m c
in_force goal P a b d e m h c (r, at, force) =
    let parts : (h ≡ by_rule) × InRule spec r 0 goal c = only_rules spec.rules spec.attrs spec.terms spec.chains r 0 (left_of r) goal h c force in
    (parts.0, every (λ (c : Comp). IsRuleTarget spec r c c.target 0 goal → P m c) r.body (by_node (Holds P goal) a b d e m r at) c parts.1.0 parts.1.1)

-- the chain starts at the list alone
abbrev pub IsStartOf : ℕ → Comp → Type 0
IsStartOf m c = (m ≡ 0) × (c ≡ from_one)

pub starts : (m : ℕ) (h : Holder) (c : Comp) → InForceAt spec tree m (Start no) h c → (h ≡ by_rule) × IsStartOf m c
starts = in_force (Start no) IsStartOf ((λ h. (refl, refl)), ((λ h. absurd h), tt)) no_item no_item no_item
  where
    no_item : {m : ℕ} → Holds IsStartOf (Start no) m item_rule
    no_item {m} = ((λ h. absurd h), ((λ h. absurd h), tt))

pub start_at_top : HasInForce spec tree 0 (Start no)
start_at_top = (by_rule, from_one, (top_rule, (0, refl, refl), of_rule (refl, tt) ((0, omega arith, refl), refl)))

-- each line assigns the chain, and nothing else does
abbrev pub IsLine : ℕ → Type 0
IsLine m = (m ≡ 1) ⊎ ((m ≡ 2) ⊎ (m ≡ 3))

abbrev pub IsNext : ℕ → Comp → Type 0
IsNext m c = IsLine m × (c ≡ next)

pub assigns : (m : ℕ) (h : Holder) (c : Comp) → InForceAt spec tree m (Behind no) h c → (h ≡ by_rule) × IsNext m c
assigns = in_force (Behind no) IsNext ((λ h. absurd h), ((λ h. absurd h), tt)) (item 1 (inl refl)) (item 2 (inr (inl refl))) (item 3 (inr (inr refl)))
  where
    text_is_no_chain : {X : Type 0} → text ≡ no → X
    text_is_no_chain e = absurd (omega (arith, e))

    item : (m : ℕ) → IsLine m → Holds IsNext (Behind no) m item_rule
    item m h = ((λ k. text_is_no_chain k.1), ((λ k. (h, refl)), tt))

pub next_in_force : (m : ℕ) → IsAt spec tree m item_rule → HasInForce spec tree m (Behind no)
next_in_force m at = (by_rule, next, (item_rule, at, of_rule (refl, tt) ((1, omega arith, refl), (refl, refl, refl))))
