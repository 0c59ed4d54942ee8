-- The computations in force in plain rules, as lists.
use Rattle.std.specs.Prelude.{◌≡◌, ℕ, zero, suc, ◌↔◌, Bool, true, false, nat_eq, ◌&&◌, List, Option, Some, slice_get, find, Contains}
use Rattle.std.specs.List.{AllZip}
use Rattle.lido_syntax.specs.declared.spec.Spec.{Spec}
use Rattle.lido_syntax.specs.declared.spec.RuleItem.{RuleItem}
use Rattle.lido_syntax.specs.declared.spec.Comp.{Comp}
use Rattle.lido_syntax.specs.Production.{left_of, right_of}
use Rattle.lido_syntax.specs.Computation.{Goal, Synthesized, Inherited, Start, Behind, Output, Message, Holder, by_rule, by_symbol, InForce}
use Rattle.rule_tables.specs.PlainRules.{PlainRule, Role, Whole, Listing, Link}

-- a computation in force in a plain rule, for a goal at an occurrence, and whose body it stands in
pub record Force : Type 0 where
  pub occ : ℕ
  pub goal : Goal
  pub holder : Holder
  pub comp : Comp

-- the occurrence whose node is the computation's context: of a rule's computation the left side, of a symbol's the symbol itself
abbrev pub context_of : Force → ℕ
context_of f = elim f.holder [ by_rule ↦ 0 | by_symbol ↦ f.occ ]

-- the written symbol at an occurrence of a plain rule
abbrev pub IsWrittenAt : RuleItem → Role → ℕ → ℕ → Type 0
IsWrittenAt r Whole zero s = s ≡ left_of r
IsWrittenAt r Whole (suc k) s = slice_get (right_of r) k ≡ Some s
IsWrittenAt r Listing zero s = s ≡ left_of r
IsWrittenAt r (Link x) (suc zero) s = s ≡ x
IsWrittenAt r _ k s = ⊥

module _ (spec : Spec) where
  -- it is in force in the plain rule
  abbrev pub IsForced : PlainRule → Force → Type 0
  IsForced p f = (r : RuleItem) × (s : ℕ) × (slice_get spec.rules p.rule ≡ Some r) × IsWrittenAt r p.role f.occ s × InForce spec r f.occ s f.goal f.holder f.comp

  -- the tables, one for each plain rule, hold exactly what is in force
  abbrev pub AreForced : List PlainRule → List (List Force) → Type 0
  AreForced = AllZip (λ p fs. (f : Force) → Contains fs f ↔ IsForced p f)

abbrev pub is_same_goal : Goal → Goal → Bool
is_same_goal (Synthesized a) (Synthesized b) = nat_eq a b
is_same_goal (Inherited a) (Inherited b) = nat_eq a b
is_same_goal (Start a) (Start b) = nat_eq a b
is_same_goal (Behind a) (Behind b) = nat_eq a b
is_same_goal Output Output = true
is_same_goal (Message j) (Message k) = nat_eq j k
is_same_goal _ _ = false

-- the computation in force for a goal at an occurrence
abbrev pub force_for : List Force → ℕ → Goal → Option Force
force_for fs k goal = find (λ f. nat_eq f.occ k && is_same_goal f.goal goal) fs
