use Rattle.std.specs.Prelude.{◌≡◌, ℕ, zero, suc, pos, ◌↔◌, true, Some, IsSome, refl, List, [], ◌∷◌, codes}
use Rattle.std.specs.Fmt.{digits}
use Rattle.std.proofs.Common.{arith, subst, sym, ◌∙◌, ap, inl}
use Rattle.lido_base.specs.declared.value.ValueType.{ValueType}
use Rattle.lido_base.specs.declared.value.ValueType.TheVariants as type
use Rattle.lido_base.specs.declared.value.Origin.{Origin}
use Rattle.lido_base.specs.Operations.{operate, kept}
use Rattle.lido_base.specs.Plain.{Plain, Int, Text, Bad}
use Rattle.lido_base.specs.Reach.{source}
use Rattle.lido_base.specs.Tree.{from_children}
use Rattle.lido_syntax.specs.declared.spec.Comp.{Comp}
use Rattle.lido_syntax.specs.declared.spec.RuleItem.{RuleItem}
use Rattle.lido_syntax.specs.Production.{left_of}
use Rattle.lido_syntax.specs.Sets.{Sets}
use Rattle.lido_syntax.specs.Assignment.{Assignment, Slot, Attribute, Front, Behind}
use Rattle.lido_syntax.specs.Computation.{Holder, Synthesized, Inherited, by_rule, by_symbol, of_rule, InRule, IsRuleTarget}
use Rattle.lido_syntax.specs.Constituents.{weight_of, constituents_at}
use Rattle.lido_syntax.specs.Nodes.{IsAt, HasSymbol, IsChild, Computes}
use Rattle.lido_syntax.specs.Nodes as nodes
use Rattle.lido_syntax.specs.Chains.{value_by, IsComputed}
use Rattle.lido_syntax.specs.Attribution.{IsInstance, IsAttribution}
use Rattle.lido_syntax.specs.Output.{IsOutput, WentWrong, in_output, in_attribute, in_message}
use Rattle.lido_syntax.proofs.ExpressionLemmas.{value-Call}
use Rattle.lido_syntax.proofs.MessageLemmas.{message_listed}
use Rattle.trials_of_syntax.specs.SumOfItems.{spec, tree, empty_tree, numbers, wrong_numbers, too_many_numbers, top_rule, item_rule, sum, out, number, Top, Item, n}
use Rattle.trials_of_syntax.specs.Writing.{env, Row}
use Rattle.trials_of_syntax.proofs.Members.{every, apart}
use Rattle.trials_of_syntax.proofs.RulesOnly.{only_rules, reaches-true}
use Rattle.trials_of_syntax.proofs.Tables.{each_row, each_value}
use Rattle.trials_of_syntax.proofs.SumOfItemsLemmas.{by_node, only_number, int_number, has_number, type_number}
use Rattle.trials_of_syntax.proofs.ValueLemmas.{has_value}
use Rattle.trials_of_syntax.proofs.whole.sum_of_items.Goals as goal

abbrev rows : List Row
rows = (1, Attribute n, Int (pos 5)) ∷ (2, Attribute n, Int (pos 6)) ∷ []

first : HasSymbol spec tree 1 Item
first = (item_rule, (1, refl, refl), refl)

second : HasSymbol spec tree 2 Item
second = (item_rule, (1, refl, refl), refl)

number_in_force : (m : ℕ) → IsAt spec tree m item_rule → Computes spec tree m n m by_rule number
number_in_force m at = nodes.synthesized (item_rule, at, of_rule (refl, tt) ((0, omega arith, refl), (refl, refl, (λ h. cc))))

top_computes_none : (a : ℕ) (c : Comp) → ¬ InRule spec top_rule 0 (Synthesized a) c
top_computes_none a c h = every (λ (c : Comp). ¬ IsRuleTarget spec top_rule c c.target 0 (Synthesized a)) top_rule.body ((λ h. h), tt) c h.0 h.1

no_inherited : (m a p k : ℕ) (r : RuleItem) (c : Comp) → IsAt spec tree p r → IsChild spec tree p k m → ¬ InRule spec r k (Inherited a) c
no_inherited m a p zero r c at child h = cc
no_inherited m a p (suc k) r c at child h = by_node (λ p r. ¬ InRule spec r (suc k) (Inherited a) c)
    (λ h. every (λ (c : Comp). ¬ IsRuleTarget spec top_rule c c.target (suc k) (Inherited a)) top_rule.body ((λ h. h), tt) c h.0 h.1) at_item at_item p r at h
  where
    at_item : ¬ InRule spec item_rule (suc k) (Inherited a) c
    at_item h = every (λ (c : Comp). ¬ IsRuleTarget spec item_rule c c.target (suc k) (Inherited a)) item_rule.body ((λ h. let wrong = h.0 in cc), tt) c h.0 h.1

abbrev IsGood : Plain → Type 0
IsGood (Bad o) = ⊥
IsGood _ = Unit {0}

good : (m a : ℕ) (o : Origin) → ¬ (numbers m (Attribute a) ≡ Some (Bad o))
good m a o e = each_value IsGood rows (tt, (tt, tt)) m (Attribute a) (Bad o) e

no_bad_text : (bytes : List ℕ) (o : Origin) → ¬ (Text bytes ≡ Bad o)
no_bad_text bytes o e = cc

module _ (sets : Sets spec) where
  instance_of : (m : ℕ) → HasSymbol spec tree m Item → IsInstance spec sets env tree m (Attribute n)
  instance_of m h = (Item, h, has_number)

  domain : (m : ℕ) (slot : Slot) → IsSome (numbers m slot) ↔ IsInstance spec sets env tree m slot
  domain m slot = (each_row (IsInstance spec sets env tree) rows (instance_of 1 first, (instance_of 2 second, tt)) m slot, found slot)
    where
      at_item : (a s : ℕ) → s ≡ Item → a ≡ n → (r : RuleItem) → IsAt spec tree m r → left_of r ≡ s → IsSome (numbers m (Attribute a))
      at_item a s es ea r at e = subst (λ a. IsSome (numbers m (Attribute a))) (sym ea)
          (by_node (λ m r. left_of r ≡ s → IsSome (numbers m (Attribute n))) (λ e. absurd (apart Top Item s (sym e) es refl)) (λ e. refl) (λ e. refl) m r at e)

      found : (slot : Slot) → IsInstance spec sets env tree m slot → IsSome (numbers m slot)
      found (Attribute a) (s, (r, at, e), h) = let is = only_number s a h in at_item a s is.0 is.1 r at e
      found (Front c) (h, k) = cc
      found (Behind c) (h, k) = cc

  -- at this node the computation has its value, and the attribute keeps it
  abbrev IsKept : ℕ → ℕ → ValueType → ℕ → Holder → Comp → Type 0
  IsKept m a ty context h c = (v : Plain) × IsComputed spec sets env tree numbers context h c v × (numbers m (Attribute a) ≡ Some (kept ty v))

  kept_as : (m a : ℕ) (ty : ValueType) (v : Plain) → a ≡ n → ty ≡ type.Int → numbers m (Attribute n) ≡ Some (kept type.Int v) → numbers m (Attribute a) ≡ Some (kept ty v)
  kept_as m a ty v ea et e = subst (λ a. numbers m (Attribute a) ≡ Some (kept ty v)) (sym ea) (subst (λ ty. numbers m (Attribute n) ≡ Some (kept ty v)) (sym et) e)

  computed_at : (m : ℕ) (v : Plain) → IsAt spec tree m item_rule → ((tail : ℕ → Plain) → value_by spec sets env tree numbers tail m by_rule item_rule number ≡ v) → IsComputed spec sets env tree numbers m by_rule number v
  computed_at m v at comes = has_value spec sets env tree numbers m by_rule item_rule at 2 number.value v comes

  values : (m a context : ℕ) (ty : ValueType) (h : Holder) (c : Comp) → a ≡ n → ty ≡ type.Int → Computes spec tree m a context h c → IsKept m a ty context h c
  values m a _ ty h c ea et (nodes.synthesized (r, at, force)) =
      let own : (h ≡ by_rule) × InRule spec r 0 (Synthesized a) c = only_rules spec.rules spec.attrs spec.terms spec.chains r 0 (left_of r) (Synthesized a) h c force in
      subst (λ h. IsKept m a ty m h c) (sym own.0) (by_node (λ m r. InRule spec r 0 (Synthesized a) c → IsKept m a ty m by_rule c)
      (λ h. absurd (top_computes_none a c h))
      (λ h. every (λ (c : Comp). IsKept 1 a ty 1 by_rule c) item_rule.body ((Int (pos 5), computed_at 1 (Int (pos 5)) (1, refl, refl) (λ tail. refl), kept_as 1 a ty (Int (pos 5)) ea et refl), tt) c h.0)
      (λ h. every (λ (c : Comp). IsKept 2 a ty 2 by_rule c) item_rule.body ((Int (pos 6), computed_at 2 (Int (pos 6)) (1, refl, refl) (λ tail. refl), kept_as 2 a ty (Int (pos 6)) ea et refl), tt) c h.0)
      m r at own.1)
  values m a _ ty _ c ea et (nodes.inherited_of_rule p k s r child at hs force) =
      absurd (no_inherited m a p k r c at child (only_rules spec.rules spec.attrs spec.terms spec.chains r k s (Inherited a) by_rule c force).1)
  values m a _ ty _ c ea et (nodes.inherited_of_symbol p k s r child at hs force) =
      absurd (no_inherited m a p k r c at child (only_rules spec.rules spec.attrs spec.terms spec.chains r k s (Inherited a) by_symbol c force).1)

  attribution : IsAttribution spec sets env tree numbers
  attribution = record {
    domain = domain;
    values = λ m a s context ty h c hs has ht comp. let is = only_number s a has in values m a context ty h c is.1 (int_number s a ty is.1 ht) comp;
    chains = λ c ty h. absurd (omega (arith, h.1.1));
  }

  reach : sets.reaches sum Item ≡ true
  reach = reaches-true spec.rules spec.attrs spec.terms spec.chains sets sum Item (source refl)

  output_value : (tail : ℕ → Plain) → value_by spec sets env tree numbers tail 0 by_rule top_rule out ≡ Text (codes "11")
  unfolding operate from_children weight_of digits
  output_value tail = simp (value-Call spec sets env tree numbers by_rule top_rule 0 0 tail, reach) refl

  output : IsOutput spec sets env tree numbers (Text (codes "11"))
  output = inl (out, (top_rule, (0, refl, refl), of_rule (refl, tt) ((0, omega arith, refl), tt)), has_value spec sets env tree numbers 0 by_rule top_rule (0, refl, refl) 0 out.value (Text (codes "11")) output_value)

  right : (o : Origin) → ¬ WentWrong spec sets env tree numbers (Text (codes "11")) o
  right o (in_output e) = no_bad_text (codes "11") o e
  right o (in_attribute m a e) = good m a o e
  right o (in_message m j c force is) = omega (arith, (message_listed spec tree m j c force).1)

  six_alone : (A : Assignment) (v : Plain) → IsComputed spec sets env tree A 2 by_rule number v → v ≡ Int (pos 6)
  six_alone A v (r, tail, at, tails, e) = e ∙ by_node (λ m r. m ≡ 2 → value_by spec sets env tree A tail m by_rule r number ≡ Int (pos 6)) (λ same. cc) (λ same. cc) (λ same. refl) 2 r at refl

  wrong : ¬ IsAttribution spec sets env tree wrong_numbers
  wrong a = refuse (a.values 2 n Item 2 type.Int by_rule number second has_number type_number (number_in_force 2 (1, refl, refl)))
    where
      refuse : ¬ ((v : Plain) × IsComputed spec sets env tree wrong_numbers 2 by_rule number v × (wrong_numbers 2 (Attribute n) ≡ Some (kept type.Int v)))
      refuse (v, computed, e) = let six : Some (Int (pos 7)) ≡ Some (Int (pos 6)) = e ∙ ap (λ v. Some (kept type.Int v)) (six_alone wrong_numbers v computed) in cc

  too_many : ¬ IsAttribution spec sets env tree too_many_numbers
  too_many a = refuse ((a.domain 0 (Attribute n)).0 refl)
    where
      refuse : ¬ IsInstance spec sets env tree 0 (Attribute n)
      refuse (s, (r, at, e), h) = by_node (λ m r. m ≡ 0 → left_of r ≡ s → ⊥) (λ same e. apart Top Item s (sym e) (only_number s n h).0 refl) (λ same. cc) (λ same. cc) 0 r at refl e

empty_sum : (sets : Sets spec) → constituents_at spec sets env empty_tree numbers sum 0 sum.with ≡ Int (pos 0)
unfolding operate
empty_sum sets = refl

pub returns : goal.returns
returns c = record {
  attribution = attribution;
  wrong = wrong;
  too_many = too_many;
  result = λ sets. (output sets, ([], tt, refl), right sets);
  empty = empty_sum;
}
