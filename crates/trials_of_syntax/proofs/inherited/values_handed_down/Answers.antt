use Rattle.std.specs.Prelude.{◌≡◌, ℕ, pos, ◌↔◌, Some, IsSome, refl}
use Rattle.std.proofs.Common.{arith, subst, sym, ◌∙◌, ap, inl, inr}
use Rattle.lido_base.specs.declared.value.Origin.{Origin}
use Rattle.lido_base.specs.declared.value.ValueType.{ValueType}
use Rattle.lido_base.specs.declared.value.ValueType.TheVariants as type
use Rattle.lido_base.specs.Operations.{operate, kept}
use Rattle.lido_base.specs.Origins.{IsAtMost}
use Rattle.lido_base.specs.Plain.{Plain, Int, Bad}
use Rattle.lido_base.specs.Tree.{from_children}
use Rattle.lido_syntax.specs.declared.spec.Comp.{Comp}
use Rattle.lido_syntax.specs.declared.spec.RuleItem.{RuleItem}
use Rattle.lido_syntax.specs.Production.{left_of}
use Rattle.lido_syntax.specs.Sets.{Sets}
use Rattle.lido_syntax.specs.Assignment.{Assignment, Slot, Attribute, Front, Behind}
use Rattle.lido_syntax.specs.Computation.{Holder, by_rule, by_symbol, of_rule}
use Rattle.lido_syntax.specs.Constituents.{weight_of}
use Rattle.lido_syntax.specs.Nodes as nodes
use Rattle.lido_syntax.specs.Nodes.{IsAt, HasSymbol}
use Rattle.lido_syntax.specs.Chains.{value_by, IsComputed}
use Rattle.lido_syntax.specs.Attribution.{IsInstance, IsAttribution}
use Rattle.lido_syntax.specs.Output.{IsOutput, WentWrong, in_output, in_attribute, in_message}
use Rattle.lido_syntax.proofs.ExpressionLemmas.{value-Call}
use Rattle.lido_syntax.proofs.MessageLemmas.{message_listed}
use Rattle.trials_of_syntax.specs.HandedDown.{spec, tree, rows, handed, of_the_sibling, of_the_child, zero_divisor, top_rule, left_rule, right_rule, three, five, quotient, out, Left, Right, i}
use Rattle.trials_of_syntax.specs.Writing.{env}
use Rattle.trials_of_syntax.proofs.Members.{same_Some}
use Rattle.trials_of_syntax.proofs.Tables.{each_row, each_value}
use Rattle.trials_of_syntax.proofs.HandedDownLemmas.{by_node, only_handed, int_handed, has_left, has_right, type_left, computed, three_in_force, quotient_in_force, right_inherits, reaches_right, reaches_no_left}
use Rattle.trials_of_syntax.proofs.ValueLemmas.{has_value}
use Rattle.trials_of_syntax.proofs.inherited.values_handed_down.Goals as goal

first : HasSymbol spec tree 1 Left
first = (left_rule, (1, refl, refl), refl)

second : HasSymbol spec tree 2 Right
second = (right_rule, (2, refl, refl), refl)

third : HasSymbol spec tree 3 Left
third = (left_rule, (1, refl, refl), refl)

bad_same : (o p : Origin) → Bad o ≡ Bad p → o ≡ p
bad_same o p e = cc

abbrev node_of : Plain → ℕ
node_of (Bad o) = o.node
node_of _ = 0

other_fault : ¬ (Some (Bad (zero_divisor 3 4)) ≡ Some (Bad (zero_divisor 2 4)))
other_fault e = let same : 3 ≡ 2 = ap node_of (same_Some (Bad (zero_divisor 3 4)) (Bad (zero_divisor 2 4)) e) in absurd (omega (arith, same))

module _ (sets : Sets spec) where
  domain : (m : ℕ) (slot : Slot) → IsSome (handed m slot) ↔ IsInstance spec sets env tree m slot
  domain m slot = (each_row (IsInstance spec sets env tree) rows ((Left, first, has_left), ((Right, second, has_right), ((Left, third, has_left), tt))) m slot, found slot)
    where
      found : (slot : Slot) → IsInstance spec sets env tree m slot → IsSome (handed m slot)
      found (Attribute a) (s, (r, at, e), h) = let is = only_handed s a h in subst (λ a. IsSome (handed m (Attribute a))) (sym is.1)
          (by_node (λ m r. left_of r ≡ s → IsSome (handed m (Attribute i))) (λ e. absurd (is.0 (sym e))) (λ e. refl) (λ e. refl) (λ e. refl) m r at e)
      found (Front c) (h, k) = cc
      found (Behind c) (h, k) = cc

  computed_at : (A : Assignment) (n : ℕ) (v : Plain) (h : Holder) (r : RuleItem) (c : Comp) → IsAt spec tree n r → ((tail : ℕ → Plain) → value_by spec sets env tree A tail n h r c ≡ v) → IsComputed spec sets env tree A n h c v
  computed_at A n v h r c at comes = has_value spec sets env tree A n h r at c.number c.value v comes

  -- at its context the computation has a value that the node's attribute keeps
  abbrev IsKept : ℕ → ℕ → Holder → Comp → Type 0
  IsKept m context h c = (v : Plain) × IsComputed spec sets env tree handed context h c v × (handed m (Attribute i) ≡ Some (kept type.Int v))

  quotient_value : (tail : ℕ → Plain) → value_by spec sets env tree handed tail 2 by_rule right_rule quotient ≡ Bad (zero_divisor 2 4)
  unfolding operate
  quotient_value tail = simp (value-Call spec sets env tree handed by_rule right_rule 4 2 tail) refl

  values : (m a context : ℕ) (h : Holder) (c : Comp) → nodes.Computes spec tree m a context h c → IsKept m context h c
  values m a context h c computes = computed IsKept
      (Int (pos 3), computed_at handed 0 (Int (pos 3)) by_rule top_rule three (0, refl, refl) (λ tail. refl), refl)
      (Int (pos 5), computed_at handed 2 (Int (pos 5)) by_symbol right_rule five (2, refl, refl) (λ tail. refl), refl)
      (Bad (zero_divisor 2 4), computed_at handed 2 (Bad (zero_divisor 2 4)) by_rule right_rule quotient (2, refl, refl) quotient_value, refl)
      m a c context h computes

  kept_as : (m a context : ℕ) (ty : ValueType) (h : Holder) (c : Comp) → a ≡ i → ty ≡ type.Int → IsKept m context h c
      → (v : Plain) × IsComputed spec sets env tree handed context h c v × (handed m (Attribute a) ≡ Some (kept ty v))
  kept_as m a context ty h c ea et is = subst (λ a. (v : Plain) × IsComputed spec sets env tree handed context h c v × (handed m (Attribute a) ≡ Some (kept ty v))) (sym ea)
      (subst (λ ty. (v : Plain) × IsComputed spec sets env tree handed context h c v × (handed m (Attribute i) ≡ Some (kept ty v))) (sym et) is)

  attribution : IsAttribution spec sets env tree handed
  attribution = record {
    domain = domain;
    values = λ m a s context ty h c hs has ht comp. let is = only_handed s a has in kept_as m a context ty h c is.1 (int_handed s a ty is.1 ht) (values m a context h c comp);
    chains = λ c ty h. absurd (omega (arith, h.1.1));
  }

  sibling : ¬ IsAttribution spec sets env tree of_the_sibling
  sibling a = refuse (a.values 1 i Left 0 type.Int by_rule three first has_left type_left (nodes.inherited_of_rule 0 1 Left top_rule refl (0, refl, refl) first three_in_force))
    where
      refuse : ¬ ((v : Plain) × IsComputed spec sets env tree of_the_sibling 0 by_rule three v × (of_the_sibling 1 (Attribute i) ≡ Some (kept type.Int v)))
      refuse (v, (r, tail, at, tails, f), e) = let wrong : Some (Int (pos 5)) ≡ Some (Int (pos 3)) = e ∙ ap (λ v. Some (kept type.Int v)) f in cc

  faulty : (tail : ℕ → Plain) → value_by spec sets env tree of_the_child tail 2 by_rule right_rule quotient ≡ Bad (zero_divisor 2 4)
  unfolding operate
  faulty tail = simp (value-Call spec sets env tree of_the_child by_rule right_rule 4 2 tail) refl

  at_the_rule : (r : RuleItem) (tail : ℕ → Plain) → IsAt spec tree 2 r → value_by spec sets env tree of_the_child tail 2 by_rule r quotient ≡ Bad (zero_divisor 2 4)
  at_the_rule r tail at = by_node (λ m r. m ≡ 2 → value_by spec sets env tree of_the_child tail m by_rule r quotient ≡ Bad (zero_divisor 2 4)) (λ same. cc) (λ same. cc) (λ same. faulty tail) (λ same. cc) 2 r at refl

  child : ¬ IsAttribution spec sets env tree of_the_child
  child a = refuse (a.values 3 i Left 2 type.Int by_rule quotient third has_left type_left (nodes.inherited_of_rule 2 1 Left right_rule refl (2, refl, refl) third quotient_in_force))
    where
      refuse : ¬ ((v : Plain) × IsComputed spec sets env tree of_the_child 2 by_rule quotient v × (of_the_child 3 (Attribute i) ≡ Some (kept type.Int v)))
      refuse (v, (r, tail, at, tails, f), e) = other_fault (e ∙ ap (λ v. Some (kept type.Int v)) (f ∙ at_the_rule r tail at))

  output_value : (tail : ℕ → Plain) → value_by spec sets env tree handed tail 0 by_rule top_rule out ≡ Bad (zero_divisor 0 2)
  unfolding operate from_children weight_of
  output_value tail = simp (value-Call spec sets env tree handed by_rule top_rule 2 0 tail, right_inherits sets, reaches_right sets, reaches_no_left sets) refl

  output : IsOutput spec sets env tree handed (Bad (zero_divisor 0 2))
  output = inl (out, (top_rule, (0, refl, refl), of_rule (refl, tt) ((1, omega arith, refl), tt)), computed_at handed 0 (Bad (zero_divisor 0 2)) by_rule top_rule out (0, refl, refl) output_value)

  -- of the two faults that at the root is the least
  least : (o : Origin) → WentWrong spec sets env tree handed (Bad (zero_divisor 0 2)) o → IsAtMost (zero_divisor 0 2) o
  least o (in_output e) = subst (IsAtMost (zero_divisor 0 2)) (bad_same (zero_divisor 0 2) o e) (inr (refl, inr (refl, omega arith)))
  least o (in_message m j c force is) = absurd (omega (arith, (message_listed spec tree m j c force).1))
  least o (in_attribute m a e) = each_value (λ v. v ≡ Bad o → IsAtMost (zero_divisor 0 2) o) rows
      ((λ f. cc), ((λ f. cc), ((λ f. subst (IsAtMost (zero_divisor 0 2)) (bad_same (zero_divisor 2 4) o f) (inl (omega arith))), tt))) m (Attribute a) (Bad o) e refl

pub returns : goal.returns
returns c = record {
  attribution = attribution;
  sibling = sibling;
  child = child;
  result = λ sets. (Bad (zero_divisor 0 2), output sets, in_output refl, least sets);
}
