use Rattle.std.specs.Prelude.{◌≡◌, ℕ, zero, suc, ◌<◌, IsSome, ◌⊎◌, pos, true, Some, None, refl, List, [], ◌∷◌, ◌++◌}
use Rattle.std.specs.Fmt.{digits}
use Rattle.std.proofs.Common.{arith, ap, subst, sym, ◌∙◌, inl, inr}
use Rattle.lido_base.specs.Operations.{operate}
use Rattle.lido_base.specs.Plain.{Plain, Int, Void}
use Rattle.lido_base.specs.Reach.{source}
use Rattle.lido_base.specs.Tree.{from_children, children}
use Rattle.lido_syntax.specs.declared.spec.Comp.{Comp}
use Rattle.lido_syntax.specs.Sets.{Sets}
use Rattle.lido_syntax.specs.Assignment.{Slot, Front, Behind}
use Rattle.lido_base.specs.declared.value.ValueType.TheVariants as type
use Rattle.lido_syntax.specs.Computation.{Holder, by_rule, of_rule}
use Rattle.lido_syntax.specs.Computation as goals
use Rattle.lido_syntax.specs.Constituents.{weight_of}
use Rattle.lido_syntax.specs.Nodes.{IsAt, InForceAt, HasInForce}
use Rattle.lido_syntax.specs.Chains.{value_by, IsStart, IsComputed, IsThreaded}
use Rattle.lido_syntax.proofs.ExpressionLemmas.{value-Call}
use Rattle.trials_of_syntax.proofs.Tables.{each_row, none_from}
use Rattle.trials_of_syntax.specs.NestedStart.{env, spec, top_rule, from_one, item_rule, next, all_lines, Item, no}
use Rattle.trials_of_syntax.specs.NumberedList.{tree, rows, counted, stuck}
use Rattle.trials_of_syntax.proofs.NestedStartLemmas.{adjacent, same_head, not_empty, none_at_end}
use Rattle.trials_of_syntax.proofs.NumberedListLemmas.{IsLine, starts, start_at_top, assigns, next_in_force}
use Rattle.trials_of_syntax.proofs.RulesOnly.{reaches-true}
use Rattle.trials_of_syntax.proofs.ValueLemmas.{has_value}
use Rattle.trials_of_syntax.proofs.chains.numbered_list.Goals as goal

in_tree : (n : ℕ) (slot : Slot) → IsSome (counted n slot) → n < 4
in_tree = each_row (λ n slot. n < 4) rows (omega arith, (omega arith, (omega arith, (omega arith, (omega arith, (omega arith, tt))))))

past : (n : ℕ) (slot : Slot) → counted (suc (suc (suc (suc n)))) slot ≡ None
past n slot = none_from (counted (suc (suc (suc (suc n)))) slot) (λ h. let inside = in_tree (suc (suc (suc (suc n)))) slot h in omega (arith, inside))

module _ (sets : Sets spec) where
  start_value : (m : ℕ) (v : Plain) → IsStart spec sets env tree counted no m v → (m ≡ 0) × (v ≡ Int (pos 1))
  start_value m v (h, comp, r, force, at, e) =
      let is = starts m h comp force in
      let holder : v ≡ value_by spec sets env tree counted (λ c. Void) m by_rule r comp = e ∙ ap (λ h. value_by spec sets env tree counted (λ c. Void) m h r comp) is.0 in
      (is.1.0, (holder ∙ subst (λ comp. value_by spec sets env tree counted (λ c. Void) m by_rule r comp ≡ Int (pos 1)) (sym is.1.1) refl))

  first_child : (n m : ℕ) (rest : List ℕ) (v : Plain) → children tree n ≡ m ∷ rest → IsStart spec sets env tree counted no n v → counted m (Front no) ≡ Some v
  first_child n m rest v e start =
      let is = start_value n v start in
      subst (λ v. counted m (Front no) ≡ Some v) (sym is.1) (subst (λ m. counted m (Front no) ≡ Some (Int (pos 1))) (same_head 1 m (2 ∷ 3 ∷ []) rest (subst (λ n. children tree n ≡ m ∷ rest) is.0 e)) refl)

  first_child_passed : (n m : ℕ) (rest : List ℕ) → children tree n ≡ m ∷ rest → ¬ HasInForce spec tree n (goals.Start no) → counted m (Front no) ≡ counted n (Front no)
  first_child_passed zero m rest e none = absurd (none start_at_top)
  first_child_passed (suc zero) m rest e none = absurd (not_empty m rest e)
  first_child_passed (suc (suc zero)) m rest e none = absurd (not_empty m rest e)
  first_child_passed (suc (suc (suc zero))) m rest e none = absurd (not_empty m rest e)
  first_child_passed (suc (suc (suc (suc n)))) m rest e none = absurd (not_empty m rest e)

  abbrev Follows : ℕ → ℕ → Type 0
  Follows j m = counted m (Front no) ≡ counted j (Behind no)

  later_child : (n j m : ℕ) (before rest : List ℕ) → children tree n ≡ before ++ j ∷ m ∷ rest → Follows j m
  later_child zero = adjacent Follows (1 ∷ 2 ∷ 3 ∷ []) (refl, (refl, tt))
  later_child (suc zero) = adjacent Follows [] tt
  later_child (suc (suc zero)) = adjacent Follows [] tt
  later_child (suc (suc (suc zero))) = adjacent Follows [] tt
  later_child (suc (suc (suc (suc n)))) = adjacent Follows [] tt

  abbrev IsAssigned : ℕ → Comp → Type 0
  IsAssigned n comp = (v : Plain) × IsComputed spec sets env tree counted n by_rule comp v × (counted n (Behind no) ≡ Some v)

  computed_at : (n : ℕ) (v : Plain) → IsAt spec tree n item_rule → ((tail : ℕ → Plain) → value_by spec sets env tree counted tail n by_rule item_rule next ≡ v) → IsComputed spec sets env tree counted n by_rule next v
  computed_at n v at comes = has_value spec sets env tree counted n by_rule item_rule at 4 next.value v comes

  next_1 : IsAssigned 1 next
  unfolding operate
  next_1 = (Int (pos 2), computed_at 1 (Int (pos 2)) (1, refl, refl) (λ tail. simp (value-Call spec sets env tree counted by_rule item_rule 4 1 tail) refl), refl)

  next_2 : IsAssigned 2 next
  unfolding operate
  next_2 = (Int (pos 3), computed_at 2 (Int (pos 3)) (1, refl, refl) (λ tail. simp (value-Call spec sets env tree counted by_rule item_rule 4 2 tail) refl), refl)

  next_3 : IsAssigned 3 next
  unfolding operate
  next_3 = (Int (pos 4), computed_at 3 (Int (pos 4)) (1, refl, refl) (λ tail. simp (value-Call spec sets env tree counted by_rule item_rule 4 3 tail) refl), refl)

  assigned : (n : ℕ) (h : Holder) (comp : Comp) → InForceAt spec tree n (goals.Behind no) h comp → (v : Plain) × IsComputed spec sets env tree counted n h comp v × (counted n (Behind no) ≡ Some v)
  assigned n h comp force = let is = assigns n h comp force in
      subst (λ h. (v : Plain) × IsComputed spec sets env tree counted n h comp v × (counted n (Behind no) ≡ Some v)) (sym is.0) (subst (IsAssigned n) (sym is.1.1) (at is.1.0))
    where
      at : IsLine n → IsAssigned n next
      at (inl e) = subst (λ n. IsAssigned n next) (sym e) next_1
      at (inr (inl e)) = subst (λ n. IsAssigned n next) (sym e) next_2
      at (inr (inr e)) = subst (λ n. IsAssigned n next) (sym e) next_3

  not_passed_on : (n : ℕ) → ¬ HasInForce spec tree n (goals.Behind no) → (children tree n ≡ []) ⊎ HasInForce spec tree n (goals.Start no) → counted n (Behind no) ≡ counted n (Front no)
  not_passed_on zero none h = refl
  not_passed_on (suc zero) none h = absurd (none (next_in_force 1 (1, refl, refl)))
  not_passed_on (suc (suc zero)) none h = absurd (none (next_in_force 2 (1, refl, refl)))
  not_passed_on (suc (suc (suc zero))) none h = absurd (none (next_in_force 3 (1, refl, refl)))
  not_passed_on (suc (suc (suc (suc n)))) none h = past n (Behind no) ∙ sym (past n (Front no))

  passed_on : (n m : ℕ) (before : List ℕ) → ¬ HasInForce spec tree n (goals.Start no) → children tree n ≡ before ++ m ∷ [] → counted n (Behind no) ≡ counted m (Behind no)
  passed_on zero m before none e = absurd (none start_at_top)
  passed_on (suc zero) m before none e = absurd (none_at_end m before [] e)
  passed_on (suc (suc zero)) m before none e = absurd (none_at_end m before [] e)
  passed_on (suc (suc (suc zero))) m before none e = absurd (none_at_end m before [] e)
  passed_on (suc (suc (suc (suc n)))) m before none e = absurd (none_at_end m before [] e)

  threaded : IsThreaded spec sets env tree counted no type.Int
  threaded = record {
    first_child = first_child;
    first_child_passed = first_child_passed;
    later_child = later_child;
    assigned = λ n h comp under force. assigned n h comp force;
    not_passed_on = not_passed_on;
    passed_on = λ n m before unassigned none e. passed_on n m before none e;
  }

  no_repeat : ¬ IsThreaded spec sets env tree stuck no type.Int
  no_repeat h = let wrong : Some (Int (pos 2)) ≡ Some (Int (pos 3)) = h.later_child 0 2 3 (1 ∷ []) [] refl in cc

  void : ¬ IsThreaded spec sets env tree counted no type.Void
  void h = let wrong : Some (Int (pos 1)) ≡ Some Void = h.first_child 0 1 (2 ∷ 3 ∷ []) (Int (pos 1)) refl (by_rule, from_one, top_rule, (top_rule, (0, refl, refl), of_rule (refl, tt) ((0, omega arith, refl), refl)), (0, refl, refl), refl) in cc

  reach_all : sets.reaches all_lines Item ≡ true
  reach_all = reaches-true spec.rules spec.attrs spec.terms spec.chains sets all_lines Item (source refl)

pub returns : goal.returns
unfolding operate digits from_children weight_of
returns c = record {
  threaded = threaded;
  no_repeat = no_repeat;
  void = void;
  first = λ sets. simp (value-Call spec sets env tree counted by_rule item_rule 3 1 (λ c. Void)) refl;
  second = λ sets. simp (value-Call spec sets env tree counted by_rule item_rule 3 2 (λ c. Void)) refl;
  third = λ sets. simp (value-Call spec sets env tree counted by_rule item_rule 3 3 (λ c. Void)) refl;
  output = λ sets. simp (reach_all sets) refl;
}
