use Rattle.std.specs.Prelude.{◌≡◌, ℕ, zero, suc, ◌<◌, IsSome, ◌⊎◌, pos, true, Some, None, refl, List, [], ◌∷◌, ◌++◌}
use Rattle.std.specs.Fmt.{digits}
use Rattle.std.proofs.Common.{arith, ap, subst, sym, ◌∙◌, inl, inr}
use Rattle.lido_base.specs.Operations.{operate}
use Rattle.lido_base.specs.Plain.{Plain, Int, Void}
use Rattle.lido_base.specs.Reach.{source}
use Rattle.lido_base.specs.Tree.{from_children, children}
use Rattle.lido_syntax.specs.declared.spec.Comp.{Comp}
use Rattle.lido_syntax.specs.Sets.{Sets}
use Rattle.lido_syntax.specs.Assignment.{Slot, Front, Behind}
use Rattle.lido_base.specs.declared.value.ValueType.TheVariants as type
use Rattle.lido_syntax.specs.Computation.{Holder, by_rule}
use Rattle.lido_syntax.specs.Computation as goals
use Rattle.lido_syntax.specs.Constituents.{weight_of}
use Rattle.lido_syntax.specs.Nodes.{IsAt, InForceAt, HasInForce}
use Rattle.lido_syntax.specs.Chains.{value_by, IsStart, IsComputed, IsThreaded}
use Rattle.lido_syntax.proofs.ExpressionLemmas.{value-Call}
use Rattle.trials_of_syntax.specs.Writing.{Row}
use Rattle.trials_of_syntax.proofs.Tables.{each_row, none_from}
use Rattle.trials_of_syntax.specs.NestedStart.{chain_row, env, spec, tree, counted, leaked, item_rule, next, all_lines, group_lines, Item, no}
use Rattle.trials_of_syntax.proofs.NestedStartLemmas.{IsStartOf, IsLine, starts, start_at_top, start_at_group, assigns, next_in_force, adjacent, same_head, not_empty, none_at_end, only_last, no_start_inside, group_unassigned}
use Rattle.trials_of_syntax.proofs.RulesOnly.{reaches-true}
use Rattle.trials_of_syntax.proofs.ValueLemmas.{has_value}
use Rattle.trials_of_syntax.proofs.chains.nested_start.Goals as goal

abbrev rows : List Row
rows = chain_row 1 1 2 ++ chain_row 2 2 2 ++ chain_row 3 2 2 ++ chain_row 4 10 11 ++ chain_row 5 11 12 ++ chain_row 6 2 3

in_tree : (n : ℕ) (slot : Slot) → IsSome (counted n slot) → n < 7
in_tree = each_row (λ n slot. n < 7) rows (omega arith, (omega arith, (omega arith, (omega arith, (omega arith, (omega arith, (omega arith, (omega arith, (omega arith, (omega arith, (omega arith, (omega arith, tt))))))))))))

past : (n : ℕ) (slot : Slot) → counted (suc (suc (suc (suc (suc (suc (suc n))))))) slot ≡ None
past n slot = none_from (counted (suc (suc (suc (suc (suc (suc (suc n))))))) slot) (λ h. let inside = in_tree (suc (suc (suc (suc (suc (suc (suc n))))))) slot h in omega (arith, inside))

module _ (sets : Sets spec) where
  start_value : (m : ℕ) (v : Plain) → IsStart spec sets env tree counted no m v → ((m ≡ 0) × (v ≡ Int (pos 1))) ⊎ ((m ≡ 3) × (v ≡ Int (pos 10)))
  start_value m v (h, comp, r, force, at, e) = go (starts m h comp force).1
    where
      holder : v ≡ value_by spec sets env tree counted (λ c. Void) m by_rule r comp
      holder = e ∙ ap (λ h. value_by spec sets env tree counted (λ c. Void) m h r comp) (starts m h comp force).0

      go : IsStartOf m comp → ((m ≡ 0) × (v ≡ Int (pos 1))) ⊎ ((m ≡ 3) × (v ≡ Int (pos 10)))
      go (inl (em, ec)) = inl (em, (holder ∙ subst (λ comp. value_by spec sets env tree counted (λ c. Void) m by_rule r comp ≡ Int (pos 1)) (sym ec) refl))
      go (inr (em, ec)) = inr (em, (holder ∙ subst (λ comp. value_by spec sets env tree counted (λ c. Void) m by_rule r comp ≡ Int (pos 10)) (sym ec) refl))

  first_child : (n m : ℕ) (rest : List ℕ) (v : Plain) → children tree n ≡ m ∷ rest → IsStart spec sets env tree counted no n v → counted m (Front no) ≡ Some v
  first_child n m rest v e start = go (start_value n v start)
    where
      go : ((n ≡ 0) × (v ≡ Int (pos 1))) ⊎ ((n ≡ 3) × (v ≡ Int (pos 10))) → counted m (Front no) ≡ Some v
      go (inl (en, ev)) = subst (λ v. counted m (Front no) ≡ Some v) (sym ev) (subst (λ m. counted m (Front no) ≡ Some (Int (pos 1))) (same_head 1 m (2 ∷ 6 ∷ []) rest (subst (λ n. children tree n ≡ m ∷ rest) en e)) refl)
      go (inr (en, ev)) = subst (λ v. counted m (Front no) ≡ Some v) (sym ev) (subst (λ m. counted m (Front no) ≡ Some (Int (pos 10))) (same_head 4 m (5 ∷ []) rest (subst (λ n. children tree n ≡ m ∷ rest) en e)) refl)

  first_child_passed : (n m : ℕ) (rest : List ℕ) → children tree n ≡ m ∷ rest → ¬ HasInForce spec tree n (goals.Start no) → counted m (Front no) ≡ counted n (Front no)
  first_child_passed zero m rest e none = absurd (none start_at_top)
  first_child_passed (suc zero) m rest e none = absurd (not_empty m rest e)
  first_child_passed (suc (suc zero)) m rest e none = subst (λ m. counted m (Front no) ≡ counted 2 (Front no)) (same_head 3 m [] rest e) refl
  first_child_passed (suc (suc (suc zero))) m rest e none = absurd (none start_at_group)
  first_child_passed (suc (suc (suc (suc zero)))) m rest e none = absurd (not_empty m rest e)
  first_child_passed (suc (suc (suc (suc (suc zero))))) m rest e none = absurd (not_empty m rest e)
  first_child_passed (suc (suc (suc (suc (suc (suc zero)))))) m rest e none = absurd (not_empty m rest e)
  first_child_passed (suc (suc (suc (suc (suc (suc (suc n))))))) m rest e none = absurd (not_empty m rest e)

  abbrev Follows : ℕ → ℕ → Type 0
  Follows j m = counted m (Front no) ≡ counted j (Behind no)

  later_child : (n j m : ℕ) (before rest : List ℕ) → children tree n ≡ before ++ j ∷ m ∷ rest → Follows j m
  later_child zero = adjacent Follows (1 ∷ 2 ∷ 6 ∷ []) (refl, (refl, tt))
  later_child (suc zero) = adjacent Follows [] tt
  later_child (suc (suc zero)) = adjacent Follows (3 ∷ []) tt
  later_child (suc (suc (suc zero))) = adjacent Follows (4 ∷ 5 ∷ []) (refl, tt)
  later_child (suc (suc (suc (suc zero)))) = adjacent Follows [] tt
  later_child (suc (suc (suc (suc (suc zero))))) = adjacent Follows [] tt
  later_child (suc (suc (suc (suc (suc (suc zero)))))) = adjacent Follows [] tt
  later_child (suc (suc (suc (suc (suc (suc (suc n))))))) = adjacent Follows [] tt

  abbrev IsAssigned : ℕ → Comp → Type 0
  IsAssigned n comp = (v : Plain) × IsComputed spec sets env tree counted n by_rule comp v × (counted n (Behind no) ≡ Some v)

  computed_at : (n : ℕ) (v : Plain) → IsAt spec tree n item_rule → ((tail : ℕ → Plain) → value_by spec sets env tree counted tail n by_rule item_rule next ≡ v) → IsComputed spec sets env tree counted n by_rule next v
  computed_at n v at comes = has_value spec sets env tree counted n by_rule item_rule at 4 next.value v comes

  next_1 : IsAssigned 1 next
  unfolding operate
  next_1 = (Int (pos 2), computed_at 1 (Int (pos 2)) (1, refl, refl) (λ tail. simp (value-Call spec sets env tree counted by_rule item_rule 4 1 tail) refl), refl)

  next_4 : IsAssigned 4 next
  unfolding operate
  next_4 = (Int (pos 11), computed_at 4 (Int (pos 11)) (1, refl, refl) (λ tail. simp (value-Call spec sets env tree counted by_rule item_rule 4 4 tail) refl), refl)

  next_5 : IsAssigned 5 next
  unfolding operate
  next_5 = (Int (pos 12), computed_at 5 (Int (pos 12)) (1, refl, refl) (λ tail. simp (value-Call spec sets env tree counted by_rule item_rule 4 5 tail) refl), refl)

  next_6 : IsAssigned 6 next
  unfolding operate
  next_6 = (Int (pos 3), computed_at 6 (Int (pos 3)) (1, refl, refl) (λ tail. simp (value-Call spec sets env tree counted by_rule item_rule 4 6 tail) refl), refl)

  assigned : (n : ℕ) (h : Holder) (comp : Comp) → InForceAt spec tree n (goals.Behind no) h comp → (v : Plain) × IsComputed spec sets env tree counted n h comp v × (counted n (Behind no) ≡ Some v)
  assigned n h comp force = let is = assigns n h comp force in
      subst (λ h. (v : Plain) × IsComputed spec sets env tree counted n h comp v × (counted n (Behind no) ≡ Some v)) (sym is.0) (subst (IsAssigned n) (sym is.1.1) (at is.1.0))
    where
      at : IsLine n → IsAssigned n next
      at (inl e) = subst (λ n. IsAssigned n next) (sym e) next_1
      at (inr (inl e)) = subst (λ n. IsAssigned n next) (sym e) next_4
      at (inr (inr (inl e))) = subst (λ n. IsAssigned n next) (sym e) next_5
      at (inr (inr (inr e))) = subst (λ n. IsAssigned n next) (sym e) next_6

  not_passed_on : (n : ℕ) → ¬ HasInForce spec tree n (goals.Behind no) → (children tree n ≡ []) ⊎ HasInForce spec tree n (goals.Start no) → counted n (Behind no) ≡ counted n (Front no)
  not_passed_on zero none h = refl
  not_passed_on (suc zero) none h = absurd (none (next_in_force 1 (1, refl, refl)))
  not_passed_on (suc (suc zero)) none (inl e) = absurd (not_empty 3 [] (sym e))
  not_passed_on (suc (suc zero)) none (inr h) = absurd (no_start_inside h)
  not_passed_on (suc (suc (suc zero))) none h = refl
  not_passed_on (suc (suc (suc (suc zero)))) none h = absurd (none (next_in_force 4 (1, refl, refl)))
  not_passed_on (suc (suc (suc (suc (suc zero))))) none h = absurd (none (next_in_force 5 (1, refl, refl)))
  not_passed_on (suc (suc (suc (suc (suc (suc zero)))))) none h = absurd (none (next_in_force 6 (1, refl, refl)))
  not_passed_on (suc (suc (suc (suc (suc (suc (suc n))))))) none h = past n (Behind no) ∙ sym (past n (Front no))

  passed_on : (n m : ℕ) (before : List ℕ) → ¬ HasInForce spec tree n (goals.Start no) → children tree n ≡ before ++ m ∷ [] → counted n (Behind no) ≡ counted m (Behind no)
  passed_on zero m before none e = absurd (none start_at_top)
  passed_on (suc zero) m before none e = absurd (none_at_end m before [] e)
  passed_on (suc (suc zero)) m before none e = subst (λ m. counted 2 (Behind no) ≡ counted m (Behind no)) (only_last 3 m before e) refl
  passed_on (suc (suc (suc zero))) m before none e = absurd (none start_at_group)
  passed_on (suc (suc (suc (suc zero)))) m before none e = absurd (none_at_end m before [] e)
  passed_on (suc (suc (suc (suc (suc zero))))) m before none e = absurd (none_at_end m before [] e)
  passed_on (suc (suc (suc (suc (suc (suc zero)))))) m before none e = absurd (none_at_end m before [] e)
  passed_on (suc (suc (suc (suc (suc (suc (suc n))))))) m before none e = absurd (none_at_end m before [] e)

  threaded : IsThreaded spec sets env tree counted no type.Int
  threaded = record {
    first_child = first_child;
    first_child_passed = first_child_passed;
    later_child = later_child;
    assigned = λ n h comp under force. assigned n h comp force;
    not_passed_on = not_passed_on;
    passed_on = λ n m before unassigned none e. passed_on n m before none e;
  }

  no_leak : ¬ IsThreaded spec sets env tree leaked no type.Int
  no_leak h = let wrong : Some (Int (pos 12)) ≡ Some (Int (pos 2)) = h.not_passed_on 3 group_unassigned (inr start_at_group) in cc

  reach_all : sets.reaches all_lines Item ≡ true
  reach_all = reaches-true spec.rules spec.attrs spec.terms spec.chains sets all_lines Item (source refl)

  reach_group : sets.reaches group_lines Item ≡ true
  reach_group = reaches-true spec.rules spec.attrs spec.terms spec.chains sets group_lines Item (source refl)

pub returns : goal.returns
unfolding operate digits from_children weight_of
returns c = record {
  threaded = threaded;
  no_leak = no_leak;
  first = λ sets. simp (value-Call spec sets env tree counted by_rule item_rule 3 1 (λ c. Void)) refl;
  inner = λ sets. simp (value-Call spec sets env tree counted by_rule item_rule 3 4 (λ c. Void)) refl;
  inner_next = λ sets. simp (value-Call spec sets env tree counted by_rule item_rule 3 5 (λ c. Void)) refl;
  behind = λ sets. simp (value-Call spec sets env tree counted by_rule item_rule 3 6 (λ c. Void)) refl;
  group = λ sets. simp (reach_group sets) refl;
  output = λ sets. simp (reach_all sets) refl;
}
