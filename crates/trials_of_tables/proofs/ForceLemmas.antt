-- What is in force in the specification of counted items.
use Rattle.std.specs.Prelude.{◌≡◌, ℕ, zero, suc, IsTrue, List, [], ◌∷◌, Some, slice_get, Contains, refl}
use Rattle.std.specs.List.{AllByRecursion}
use Rattle.std.proofs.Common.{arith, ap, subst, sym, inl, inr, ◌⊎◌, ◌∙◌}
use Rattle.std.proofs.lemmas.Option.{none-some, same_Some}
use Rattle.lido_base.specs.Tree.{contains}
use Rattle.lido_syntax.specs.declared.spec.Comp.{Comp}
use Rattle.lido_syntax.specs.declared.spec.RuleItem.{RuleItem}
use Rattle.lido_syntax.specs.Symbols.{IsChain}
use Rattle.lido_syntax.specs.Sets.{names_of, Inherits}
use Rattle.lido_syntax.specs.Attributes.{InBody}
use Rattle.lido_syntax.specs.Computation.{Goal, Synthesized, Inherited, Start, Behind, Output, Message, IsGoalAt, Holder, by_rule, by_symbol, IsRuleTarget, IsSymbolTarget, InRule, InSymbol, HasInRule, HasInSymbol, IsLeft, InForce, of_rule, of_symbol, of_class}
use Rattle.trials_of_syntax.proofs.Members.{every, one_of}
use Rattle.trials_of_syntax.proofs.Classes.{inherits_within}
use Rattle.rule_tables.specs.PlainRules.{PlainRule}
use Rattle.rule_tables.specs.Forced.{Force, IsForced, IsWrittenAt, AreForced}
use Rattle.trials_of_tables.specs.CountedItems.{spec, Num, Counted, Top, Item, b, t, no, give_t, give_b, start, give_no, top_rule, item_rule, class_item}
use Rattle.trials_of_tables.specs.CountedItems.{of_top, of_item, rule_of_top, rule_of_item, rule_of_link, rule_of_end}
use Rattle.trials_of_tables.proofs.NoFaultLemmas.{each_item}

-- the class's computation is the only one of a symbol, and Item alone inherits the class
pub only_counted : (s : ℕ) (c : Comp) → InBody spec s c → (s ≡ Counted) × (c ≡ give_t)
only_counted s c (item, m, named, k) =
    each_item (λ item. IsTrue (contains s (names_of item)) → Contains item.body c → (s ≡ Counted) × (c ≡ give_t)) (λ h k. (one_of s Counted h, every (λ (c : Comp). c ≡ give_t) class_item.body (refl, tt) c k)) (λ h k. absurd (omega (arith, k.1))) item m named k

abbrev IsHeir : ℕ → ℕ → Type 0
IsHeir s class = (s ≡ Item) × (class ≡ Counted)

pub heirs : (s class : ℕ) → Inherits spec s class → IsHeir s class
heirs = inherits_within spec IsHeir ((λ s class h k. cc), ((λ s class h k. (one_of s Item h, one_of class Counted k)), tt)) (λ s class above x y. (x.0, y.1))

its_goal : (goal : Goal) → IsSymbolTarget spec give_t.target goal → goal ≡ Synthesized t
its_goal (Synthesized a) h = ap Synthesized (sym h)
its_goal (Inherited a) h = absurd h
its_goal (Start a) h = absurd h
its_goal (Behind a) h = absurd h
its_goal Output h = absurd h
its_goal (Message j) h = absurd h

-- what is in force is a rule's, or the class's at Item
abbrev IsOfClass : ℕ → ℕ → Goal → Holder → Comp → Type 0
IsOfClass k s goal h c = (s ≡ Item) × (h ≡ by_symbol) × (goal ≡ Synthesized t) × (c ≡ give_t) × IsGoalAt k goal

forced_by : (r : RuleItem) (k s : ℕ) (goal : Goal) (h : Holder) (c : Comp) → (s ≡ Counted → ⊥) → InForce spec r k s goal h c → ((h ≡ by_rule) × InRule spec r k goal c) ⊎ IsOfClass k s goal h c
forced_by r k s goal h c other (of_rule is a) = inl (refl, a)
forced_by r k s goal h c other (of_symbol is none a) = absurd (other (only_counted s c a.0).0)
forced_by r k s goal h c other (of_class class is none own left one a) =
    let e = only_counted class c a.0 in inr ((heirs s class left.inherited).0, refl, its_goal goal (subst (λ (c : Comp). IsSymbolTarget spec c.target goal) e.1 a.1), e.1, is.1)

-- the table of a plain rule has what its computations give an occurrence
abbrev found : List Force → ℕ → Goal → Comp → Type 0
found fs k goal c = Contains fs (record { occ = k; goal = goal; holder = by_rule; comp = c })

abbrev Listed : List Force → RuleItem → ℕ → Goal → Type 0
Listed fs r k goal = AllByRecursion (λ (c : Comp). IsRuleTarget spec r c c.target k goal → found fs k goal c) r.body

not_chain : (a c : ℕ) → (IsChain spec a → ⊥) → a ≡ c → IsChain spec c → ⊥
not_chain a c none e h = none (subst (IsChain spec) (sym e) h)

top_listed : (goal : Goal) → Listed of_top top_rule 0 goal
top_listed (Synthesized a) = ((λ h. subst (λ d. found of_top 0 (Synthesized d) give_b) h.1 (0, omega arith, refl)), ((λ h. absurd h), ((λ h. absurd h), tt)))
top_listed (Behind c) = ((λ h. absurd (not_chain b c (λ h. cc) h.1 h.2)), ((λ h. absurd h), ((λ h. absurd h), tt)))
top_listed (Start c) = ((λ h. absurd h), ((λ h. subst (λ d. found of_top 0 (Start d) start) h (1, omega arith, refl)), ((λ h. absurd h), tt)))
top_listed Output = ((λ h. absurd h), ((λ h. absurd h), ((λ h. (2, omega arith, refl)), tt)))
top_listed (Inherited a) = ((λ h. absurd h), ((λ h. absurd h), ((λ h. absurd h), tt)))
top_listed (Message j) = ((λ h. absurd h), ((λ h. absurd h), ((λ h. absurd h), tt)))

chained : (a : ℕ) → no ≡ a → ¬ IsChain spec a → ⊥
chained a e none = none (subst (IsChain spec) e refl)

item_listed : (goal : Goal) → Listed of_item item_rule 0 goal
item_listed (Synthesized a) = ((λ h. absurd (chained a h.1 h.2)), ((λ h. absurd h), tt))
item_listed (Behind c) = ((λ h. subst (λ d. found of_item 0 (Behind d) give_no) h.1 (1, omega arith, refl)), ((λ h. absurd h), tt))
item_listed (Start c) = ((λ h. absurd h), ((λ h. absurd h), tt))
item_listed Output = ((λ h. absurd h), ((λ h. absurd h), tt))
item_listed (Inherited a) = ((λ h. absurd h), ((λ h. absurd h), tt))
item_listed (Message zero) = ((λ h. absurd h), ((λ h. absurd h), tt))
item_listed (Message (suc zero)) = ((λ h. absurd h), ((λ h. (2, omega arith, refl)), tt))
item_listed (Message (suc (suc j))) = ((λ h. absurd h), ((λ h. absurd (none-some _ h)), tt))

-- nothing gives a value to an occurrence on a right side
element_listed : (goal : Goal) → IsGoalAt 1 goal → Listed [] top_rule 1 goal
element_listed (Inherited a) g = ((λ h. let wrong = h.0 in cc), ((λ h. absurd h), ((λ h. absurd h), tt)))
element_listed (Synthesized a) g = absurd g
element_listed (Behind a) g = absurd g
element_listed (Start a) g = absurd g
element_listed Output g = absurd g
element_listed (Message j) g = absurd g

terminal_listed : (goal : Goal) → IsGoalAt 1 goal → Listed of_item item_rule 1 goal
terminal_listed (Inherited a) g = ((λ h. let wrong = h.0 in cc), ((λ h. absurd h), tt))
terminal_listed (Synthesized a) g = absurd g
terminal_listed (Behind a) g = absurd g
terminal_listed (Start a) g = absurd g
terminal_listed Output g = absurd g
terminal_listed (Message j) g = absurd g

goal_there : (r : RuleItem) (k s : ℕ) (goal : Goal) (h : Holder) (c : Comp) → InForce spec r k s goal h c → IsGoalAt k goal
goal_there r k s goal h c (of_rule is a) = is.1
goal_there r k s goal h c (of_symbol is none a) = is.1
goal_there r k s goal h c (of_class class is none own left one a) = is.1

abbrev the : ℕ → Goal → Holder → Comp → Force
the k goal h c = record { occ = k; goal = goal; holder = h; comp = c }

-- in the table is what is in force at an occurrence
listed_there : (fs : List Force) (r : RuleItem) (k s : ℕ) (goal : Goal) (h : Holder) (c : Comp) → (s ≡ Counted → ⊥) → Listed fs r k goal → (IsOfClass k s goal h c → Contains fs (the k goal h c)) → InForce spec r k s goal h c → Contains fs (the k goal h c)
listed_there fs r k s goal h c other all of force = go (forced_by r k s goal h c other force)
  where
    go : ((h ≡ by_rule) × InRule spec r k goal c) ⊎ IsOfClass k s goal h c → Contains fs (the k goal h c)
    go (inl (e, (m, a))) = subst (λ h. Contains fs (the k goal h c)) (sym e) (every (λ (c : Comp). IsRuleTarget spec r c c.target k goal → found fs k goal c) r.body all c m a)
    go (inr x) = of x

-- the class's computation, at the left side of Item's rule and at no right side
class_listed : (goal : Goal) (h : Holder) (c : Comp) → h ≡ by_symbol → goal ≡ Synthesized t → c ≡ give_t → Contains of_item (the 0 goal h c)
class_listed goal h c e f g = rw (e, f, g) (0, omega arith, refl)

not_right : (k : ℕ) (goal : Goal) → goal ≡ Synthesized t → IsGoalAt (suc k) goal → ⊥
not_right k goal e h = subst (IsGoalAt (suc k)) e h

abbrev Case : List Force → RuleItem → PlainRule → ℕ → Type 0
Case fs r p k = (s : ℕ) (goal : Goal) (h : Holder) (c : Comp) → IsWrittenAt r p.role k s → InForce spec r k s goal h c → Contains fs (the k goal h c)

in_top : (k : ℕ) → Case of_top top_rule rule_of_top k
in_top zero s goal h c w force = listed_there of_top top_rule 0 s goal h c (λ e. let wrong : Counted ≡ Top = sym e ∙ w in cc) (top_listed goal) (λ x. let wrong : Item ≡ Top = sym x.0 ∙ w in cc) force
in_top (suc k) s goal h c w force = absurd w

in_item : (k : ℕ) → Case of_item item_rule rule_of_item k
in_item zero s goal h c w force = listed_there of_item item_rule 0 s goal h c (λ e. let wrong : Counted ≡ Item = sym e ∙ w in cc) (item_listed goal) (λ x. class_listed goal h c x.1 x.2 x.3) force
in_item (suc zero) s goal h c w force =
    listed_there of_item item_rule 1 s goal h c (λ e. let wrong : Num ≡ Counted = same_Some _ _ w ∙ e in cc) (terminal_listed goal (goal_there item_rule 1 s goal h c force)) (λ x. absurd (not_right 0 goal x.2 x.4)) force
in_item (suc (suc k)) s goal h c w force = absurd (none-some _ w)

in_link : (k : ℕ) → Case [] top_rule rule_of_link k
in_link zero s goal h c w force = absurd w
in_link (suc zero) s goal h c w force =
    listed_there [] top_rule 1 s goal h c (λ e. let wrong : Counted ≡ Item = sym e ∙ w in cc) (element_listed goal (goal_there top_rule 1 s goal h c force)) (λ x. absurd (not_right 0 goal x.2 x.4)) force
in_link (suc (suc k)) s goal h c w force = absurd w

in_end : (k : ℕ) → Case [] top_rule rule_of_end k
in_end k s goal h c w force = absurd w

backed : (p : PlainRule) (fs : List Force) (q : RuleItem) → slice_get spec.rules p.rule ≡ Some q → ((k : ℕ) → Case fs q p k) → (f : Force) → IsForced spec p f → Contains fs f
backed p fs q at each f (r, s, e, w, force) = subst (λ r. IsWrittenAt r p.role f.occ s → InForce spec r f.occ s f.goal f.holder f.comp → Contains fs f) (same_Some _ _ (sym at ∙ e)) (each f.occ s f.goal f.holder f.comp) w force

-- and what is in the table is in force
not_in_rule : HasInRule spec item_rule 0 (Synthesized t) → ⊥
not_in_rule (c, (m, h)) = every (λ (c : Comp). IsRuleTarget spec item_rule c c.target 0 (Synthesized t) → ⊥) item_rule.body ((λ h. let wrong = h.1 in cc), ((λ h. absurd h), tt)) c m h

not_own : HasInSymbol spec Item (Synthesized t) → ⊥
not_own (c, (body, h)) = let wrong : Item ≡ Counted = (only_counted Item c body).0 in cc

class_gives : InSymbol spec Counted (Synthesized t) give_t
class_gives = ((class_item, (0, omega arith, refl), refl, (0, omega arith, refl)), refl)

class_computes : HasInSymbol spec Counted (Synthesized t)
class_computes = (give_t, class_gives)

pub counted_left : IsLeft spec Item (Synthesized t) Counted
counted_left = record {
  inherited = Rattle.lido_base.specs.Reach.source refl;
  computes = class_computes;
  not_dropped = λ other h k l. (let first = (heirs Item other h).1 in let wrong : Counted ≡ Item = sym first ∙ (heirs other Counted l).0 in cc);
}

pub class_in_force : InForce spec item_rule 0 Item (Synthesized t) by_symbol give_t
class_in_force = of_class Counted (refl, tt) not_in_rule not_own counted_left (λ other left. (heirs Item other left.inherited).1) class_gives

pub b_in_force : InForce spec top_rule 0 Top (Synthesized b) by_rule give_b
b_in_force = of_rule (refl, tt) ((0, omega arith, refl), (refl, refl, (λ h. cc)))

top_there : AllByRecursion (IsForced spec rule_of_top) of_top
top_there = (
  (top_rule, Top, refl, refl, b_in_force),
  ((top_rule, Top, refl, refl, of_rule (refl, tt) ((1, omega arith, refl), refl)), ((top_rule, Top, refl, refl, of_rule (refl, tt) ((2, omega arith, refl), tt)), tt)),
)

item_there : AllByRecursion (IsForced spec rule_of_item) of_item
item_there = (
  (item_rule, Item, refl, refl, class_in_force),
  ((item_rule, Item, refl, refl, of_rule (refl, tt) ((0, omega arith, refl), (refl, refl, refl))), ((item_rule, Item, refl, refl, of_rule (refl, tt) ((1, omega arith, refl), refl)), tt)),
)

pub are_forced : AreForced spec (rule_of_top ∷ rule_of_item ∷ rule_of_link ∷ rule_of_end ∷ []) (of_top ∷ of_item ∷ [] ∷ [] ∷ [])
are_forced = (
  (λ f. (every (IsForced spec rule_of_top) of_top top_there f, backed rule_of_top of_top top_rule refl in_top f)),
  (
    (λ f. (every (IsForced spec rule_of_item) of_item item_there f, backed rule_of_item of_item item_rule refl in_item f)),
    ((λ f. ((λ m. absurd (omega (arith, m.1))), backed rule_of_link [] top_rule refl in_link f)), ((λ f. ((λ m. absurd (omega (arith, m.1))), backed rule_of_end [] top_rule refl in_end f)), tt)),
  ),
)
