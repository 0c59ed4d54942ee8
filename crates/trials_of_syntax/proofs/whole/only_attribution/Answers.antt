use Rattle.std.specs.Prelude.{◌≡◌, ℕ, zero, suc, ◌↔◌, ◌⊎◌, pos, Contains, Option, Some, None, IsSome, refl, [], ◌∷◌, List, ◌++◌}
use Rattle.std.proofs.Common.{arith, subst, sym, ◌∙◌, ap, inl, inr}
use Rattle.lido_base.specs.declared.value.ValueType.{ValueType}
use Rattle.lido_base.specs.declared.value.ValueType.TheVariants as type
use Rattle.lido_base.specs.declared.value.Origin.{Origin}
use Rattle.lido_base.specs.Operations.{operate, kept}
use Rattle.lido_base.specs.Plain.{Plain, Int, Text, Void, Bad}
use Rattle.lido_base.specs.Tree.{Item, Child, ancestors, children}
use Rattle.lido_syntax.specs.declared.spec.Comp.{Comp}
use Rattle.lido_syntax.specs.declared.spec.RuleItem.{RuleItem}
use Rattle.lido_syntax.specs.Production.{left_of, name_of}
use Rattle.lido_syntax.specs.declared.spec.Typed1.{Typed1}
use Rattle.lido_syntax.specs.Symbols.{IsChain, IsTypedChain}
use Rattle.lido_syntax.specs.Attributes.{Has, HasType}
use Rattle.lido_syntax.specs.Attributes as attributes
use Rattle.lido_syntax.specs.Assignment.{Assignment, Slot, Attribute, Front, Behind}
use Rattle.lido_syntax.specs.Computation as goals
use Rattle.lido_syntax.specs.Computation.{Goal, Holder, by_rule, by_symbol, of_rule, InRule, IsRuleTarget}
use Rattle.lido_syntax.specs.Nodes.{IsAt, HasSymbol, InForceAt, HasInForce, IsUnder, IsChild, Computes}
use Rattle.lido_syntax.specs.Nodes as nodes
use Rattle.lido_syntax.specs.Chains.{IsComputed, IsStart, IsThreaded, value_by}
use Rattle.lido_syntax.specs.Attribution.{IsInstance, IsAttribution}
use Rattle.lido_syntax.specs.Output.{WentWrong, in_output, in_attribute, in_message}
use Rattle.lido_syntax.proofs.MessageLemmas.{message_listed}
use Rattle.trials_of_syntax.proofs.ValueLemmas.{has_value}
use Rattle.trials_of_syntax.proofs.ValueLemmas as values
use Rattle.lido_syntax.specs.Sets.{Sets}
use Rattle.lido_syntax.proofs.ExpressionLemmas.{value-Call}
use Rattle.trials_of_syntax.specs.OneAttribution.{spec, tree, A, rows, lost, top_rule, x_rule, start, seven, across, front, void, next, X, c, v, i, w}
use Rattle.trials_of_syntax.specs.Writing.{env, name, typed}
use Rattle.trials_of_syntax.proofs.Members.{every, one_of}
use Rattle.trials_of_syntax.proofs.Tables.{each_row, none_from}
use Rattle.trials_of_syntax.proofs.NestedStartLemmas.{same_head, not_empty, none_at_end, adjacent}
use Rattle.trials_of_syntax.proofs.OneAttributionLemmas.{only_rules, by_node, IsAttr, only_attrs, type_v, type_i, type_w, is_int, is_void, Holds, in_force}
use Rattle.trials_of_syntax.proofs.whole.only_attribution.Goals as goal

at_0 : IsAt spec tree 0 top_rule
at_0 = (0, refl, refl)

at_1 : IsAt spec tree 1 x_rule
at_1 = (1, refl, refl)

at_2 : IsAt spec tree 2 x_rule
at_2 = (1, refl, refl)

first : HasSymbol spec tree 1 X
first = (x_rule, at_1, refl)

second : HasSymbol spec tree 2 X
second = (x_rule, at_2, refl)

has_v : Has spec X v
has_v = inl (attributes.by_name front (name X) None (inl (x_rule, (1, omega arith, refl), (0, omega arith, refl))) (name v, (0, omega arith, refl), refl, (λ h. cc)) refl)

has_w : Has spec X w
has_w = inl (attributes.by_name void (name X) None (inl (x_rule, (1, omega arith, refl), (1, omega arith, refl))) (name w, (0, omega arith, refl), refl, (λ h. cc)) refl)

has_i : Has spec X i
has_i = inl (attributes.by_name seven (name X) (Some (pos 1)) (inl (top_rule, (0, omega arith, refl), (1, omega arith, refl))) (name i, (0, omega arith, refl), refl, (λ h. cc)) refl)

-- starts and assignments of the chain
starts : (m : ℕ) (h : Holder) (comp : Comp) → InForceAt spec tree m (goals.Start c) h comp → (h ≡ by_rule) × ((m ≡ 0) × (comp ≡ start))
starts = in_force (goals.Start c) (λ m comp. (m ≡ 0) × (comp ≡ start)) ((λ h. (refl, refl)), ((λ h. absurd h), ((λ h. absurd h), tt)))
    ((λ h. absurd h), ((λ h. absurd h), ((λ h. absurd h), tt))) ((λ h. absurd h), ((λ h. absurd h), ((λ h. absurd h), tt)))

start_at_top : InForceAt spec tree 0 (goals.Start c) by_rule start
start_at_top = (top_rule, at_0, of_rule (refl, tt) ((0, omega arith, refl), refl))

abbrev IsX : ℕ → Type 0
IsX m = (m ≡ 1) ⊎ (m ≡ 2)

assigns : (m : ℕ) (h : Holder) (comp : Comp) → InForceAt spec tree m (goals.Behind c) h comp → (h ≡ by_rule) × (IsX m × (comp ≡ next))
assigns = in_force (goals.Behind c) (λ m comp. IsX m × (comp ≡ next)) ((λ h. absurd h), ((λ h. absurd (omega (arith, h.1))), ((λ h. absurd (omega (arith, h.1))), tt))) (item 1 (inl refl)) (item 2 (inr refl))
  where
    item : (m : ℕ) → IsX m → Holds (λ m comp. IsX m × (comp ≡ next)) (goals.Behind c) m x_rule
    item m x = ((λ h. absurd (omega (arith, h.1))), ((λ h. absurd (omega (arith, h.1))), ((λ h. (x, refl)), tt)))

next_at : (m : ℕ) → IsAt spec tree m x_rule → InForceAt spec tree m (goals.Behind c) by_rule next
next_at m at = (x_rule, at, of_rule (refl, tt) ((2, omega arith, refl), (refl, refl, refl)))

under_1 : IsUnder spec tree c 1
unfolding ancestors
under_1 = (0, (0, omega arith, refl), (by_rule, start, start_at_top))

under_2 : IsUnder spec tree c 2
unfolding ancestors
under_2 = (0, (0, omega arith, refl), (by_rule, start, start_at_top))

above : (m n : ℕ) → Contains (ancestors tree m) n → IsX m
unfolding ancestors
above zero n h = absurd (omega (arith, h.1))
above (suc zero) n h = inl refl
above (suc (suc zero)) n h = inr refl
above (suc (suc (suc m))) n h = absurd (omega (arith, h.1))

-- who computes what
module _ (P : ℕ → ℕ → ℕ → Comp → Type 0) (p1 : P 1 v 1 front) (p2 : P 2 v 2 front) (p3 : P 1 w 1 void) (p4 : P 2 w 2 void) (p5 : P 1 i 0 seven) (p6 : P 2 i 0 across) where
  synthesized : (m a : ℕ) (h : Holder) (comp : Comp) → InForceAt spec tree m (goals.Synthesized a) h comp → (h ≡ by_rule) × P m a m comp
  synthesized m a h comp force = in_force (goals.Synthesized a) (λ m comp. P m a m comp)
      ((λ h. absurd h), ((λ h. let wrong = h.0 in cc), ((λ h. let wrong = h.0 in cc), tt)))
      ((λ h. subst (λ a. P 1 a 1 front) h.1 p1), ((λ h. subst (λ a. P 1 a 1 void) h.1 p3), ((λ h. absurd (h.2 (subst (λ x. IsChain spec x) h.1 refl))), tt)))
      ((λ h. subst (λ a. P 2 a 2 front) h.1 p2), ((λ h. subst (λ a. P 2 a 2 void) h.1 p4), ((λ h. absurd (h.2 (subst (λ x. IsChain spec x) h.1 refl))), tt)))
      m h comp force

  abbrev child : ℕ → Option (Item Plain)
  child m = Some (Child m)

  child_same : (m n : ℕ) → child m ≡ child n → m ≡ n
  child_same m n e = cc

  at_top : (k m a : ℕ) (comp : Comp) → IsChild spec tree 0 k m → InRule spec top_rule k (goals.Inherited a) comp → P m a 0 comp
  at_top zero m a comp child h = cc
  at_top (suc zero) m a comp child h = subst (λ m. P m a 0 comp) (child_same 1 m child) (every (λ (comp : Comp). IsRuleTarget spec top_rule comp comp.target 1 (goals.Inherited a) → P 1 a 0 comp) top_rule.body
      ((λ h. absurd h), ((λ h. subst (λ a. P 1 a 0 seven) h.1 p5), ((λ h. let wrong = h.0 in cc), tt))) comp h.0 h.1)
  at_top (suc (suc zero)) m a comp child h = subst (λ m. P m a 0 comp) (child_same 2 m child) (every (λ (comp : Comp). IsRuleTarget spec top_rule comp comp.target 2 (goals.Inherited a) → P 2 a 0 comp) top_rule.body
      ((λ h. absurd h), ((λ h. let wrong = h.0 in cc), ((λ h. subst (λ a. P 2 a 0 across) h.1 p6), tt))) comp h.0 h.1)
  at_top (suc (suc (suc k))) m a comp child h = cc

  computed : (m a context : ℕ) (h : Holder) (comp : Comp) → Computes spec tree m a context h comp → (h ≡ by_rule) × P m a context comp
  computed m a _ h comp (nodes.synthesized force) = synthesized m a h comp force
  computed m a _ _ comp (nodes.inherited_of_rule p k s r child at hs force) =
      (refl, by_node (λ p r. IsChild spec tree p k m → InRule spec r k (goals.Inherited a) comp → P m a p comp) (at_top k m a comp) (none 1) (none 2) p r at child (only_rules r k s (goals.Inherited a) by_rule comp force).1)
    where
      none : (p : ℕ) → IsChild spec tree p k m → InRule spec x_rule k (goals.Inherited a) comp → P m a p comp
      none p child h = absurd (go k h)
        where
          go : (k : ℕ) → ¬ InRule spec x_rule k (goals.Inherited a) comp
          go zero h = every (λ (comp : Comp). ¬ IsRuleTarget spec x_rule comp comp.target 0 (goals.Inherited a)) x_rule.body ((λ h. h), ((λ h. h), ((λ h. h), tt))) comp h.0 h.1
          go (suc k) h = every (λ (comp : Comp). ¬ IsRuleTarget spec x_rule comp comp.target (suc k) (goals.Inherited a)) x_rule.body ((λ h. let wrong = h.0 in cc), ((λ h. let wrong = h.0 in cc), ((λ h. let wrong = h.0 in cc), tt))) comp h.0 h.1
  computed m a _ _ comp (nodes.inherited_of_symbol p k s r child at hs force) = let wrong = (only_rules r k s (goals.Inherited a) by_symbol comp force).0 in cc

module _ (sets : Sets spec) where
  -- what the next value is made of
  abbrev ComputesTo : Assignment → ℕ → RuleItem → Comp → Plain → Type 0
  ComputesTo B m r comp x = (tail : ℕ → Plain) → value_by spec sets env tree B tail m by_rule r comp ≡ x

  next_1 : (B : Assignment) → B 1 (Front c) ≡ Some (Int (pos 1)) → ComputesTo B 1 x_rule next (Int (pos 3))
  unfolding operate
  next_1 B e tail = simp (value-Call spec sets env tree B by_rule x_rule 5 1 tail, e) refl

  next_2 : (B : Assignment) → B 2 (Front c) ≡ Some (Int (pos 3)) → ComputesTo B 2 x_rule next lost
  unfolding operate
  next_2 B e tail = simp (value-Call spec sets env tree B by_rule x_rule 5 2 tail, e) refl

  computed_as : (B : Assignment) (m : ℕ) (r : RuleItem) (comp : Comp) (x : Plain) → IsAt spec tree m r → ComputesTo B m r comp x → IsComputed spec sets env tree B m by_rule comp x
  computed_as B m r comp x at h = has_value spec sets env tree B m by_rule r at comp.number comp.value x h

  only_value : (B : Assignment) (m : ℕ) (r : RuleItem) (comp : Comp) (x y : Plain) → IsAt spec tree m r → ComputesTo B m r comp x → IsComputed spec sets env tree B m by_rule comp y → y ≡ x
  only_value B m r comp x y at h computed = values.only_value spec sets env tree B m by_rule r at comp.number comp.value x y h computed

  -- ---- the attribution
  abbrev IsKept : ℕ → ℕ → ℕ → Comp → Type 0
  IsKept m a context comp = (ty : ValueType) → HasType spec X a ty → (x : Plain) × IsComputed spec sets env tree A context by_rule comp x × (A m (Attribute a) ≡ Some (kept ty x))

  as_int : (m a context : ℕ) (comp : Comp) (x : Plain) → (a ≡ v) ⊎ (a ≡ i) → IsComputed spec sets env tree A context by_rule comp x → A m (Attribute a) ≡ Some x → IsKept m a context comp
  as_int m a context comp x e h g ty t = (x, h, subst (λ ty. A m (Attribute a) ≡ Some (kept ty x)) (sym (is_int a ty e t)) g)

  as_void : (m context : ℕ) (comp : Comp) (x : Plain) → IsComputed spec sets env tree A context by_rule comp x → A m (Attribute w) ≡ Some (kept type.Void x) → IsKept m w context comp
  as_void m context comp x h g ty t = (x, h, subst (λ ty. A m (Attribute w) ≡ Some (kept ty x)) (sym (is_void w ty refl t)) g)

  attribute_values : (m a context : ℕ) (h : Holder) (comp : Comp) → Computes spec tree m a context h comp → (h ≡ by_rule) × IsKept m a context comp
  attribute_values = computed IsKept
      (as_int 1 v 1 front (Int (pos 1)) (inl refl) (computed_as A 1 x_rule front (Int (pos 1)) at_1 (λ tail. refl)) refl)
      (as_int 2 v 2 front (Int (pos 3)) (inl refl) (computed_as A 2 x_rule front (Int (pos 3)) at_2 (λ tail. refl)) refl)
      (as_void 1 1 void (Int (pos 1)) (computed_as A 1 x_rule void (Int (pos 1)) at_1 (λ tail. refl)) refl)
      (as_void 2 2 void (Int (pos 3)) (computed_as A 2 x_rule void (Int (pos 3)) at_2 (λ tail. refl)) refl)
      (as_int 1 i 0 seven (Int (pos 7)) (inr refl) (computed_as A 0 top_rule seven (Int (pos 7)) at_0 (λ tail. refl)) refl)
      (as_int 2 i 0 across (Int (pos 1)) (inr refl) (computed_as A 0 top_rule across (Int (pos 1)) at_0 (λ tail. refl)) refl)

  start_value : (B : Assignment) (m : ℕ) (x : Plain) → IsStart spec sets env tree B c m x → (m ≡ 0) × (x ≡ Int (pos 1))
  start_value B m x (h, comp, r, force, at, e) = let is = starts m h comp force in
      let holder : x ≡ value_by spec sets env tree B (λ c. Void) m by_rule r comp = e ∙ ap (λ h. value_by spec sets env tree B (λ c. Void) m h r comp) is.0 in
      (is.1.0, holder ∙ subst (λ comp. value_by spec sets env tree B (λ c. Void) m by_rule r comp ≡ Int (pos 1)) (sym is.1.1) refl)

  the_start : (B : Assignment) → IsStart spec sets env tree B c 0 (Int (pos 1))
  the_start B = (by_rule, start, top_rule, start_at_top, at_0, refl)

  first_child : (n m : ℕ) (rest : List ℕ) (x : Plain) → children tree n ≡ m ∷ rest → IsStart spec sets env tree A c n x → A m (Front c) ≡ Some x
  first_child n m rest x e s = let is = start_value A n x s in
      subst (λ x. A m (Front c) ≡ Some x) (sym is.1) (subst (λ m. A m (Front c) ≡ Some (Int (pos 1))) (same_head 1 m (2 ∷ []) rest (subst (λ n. children tree n ≡ m ∷ rest) is.0 e)) refl)

  passed : (n m : ℕ) (rest : List ℕ) → children tree n ≡ m ∷ rest → ¬ HasInForce spec tree n (goals.Start c) → A m (Front c) ≡ A n (Front c)
  passed zero m rest e none = absurd (none (by_rule, start, start_at_top))
  passed (suc zero) m rest e none = absurd (not_empty m rest e)
  passed (suc (suc zero)) m rest e none = absurd (not_empty m rest e)
  passed (suc (suc (suc n))) m rest e none = absurd (not_empty m rest e)

  abbrev Follows : ℕ → ℕ → Type 0
  Follows j m = A m (Front c) ≡ A j (Behind c)

  later : (n j m : ℕ) (before rest : List ℕ) → children tree n ≡ before ++ j ∷ m ∷ rest → Follows j m
  later zero = adjacent Follows (1 ∷ 2 ∷ []) (refl, tt)
  later (suc zero) = adjacent Follows [] tt
  later (suc (suc zero)) = adjacent Follows [] tt
  later (suc (suc (suc n))) = adjacent Follows [] tt

  abbrev IsAssigned : ℕ → Comp → Type 0
  IsAssigned n comp = (x : Plain) × IsComputed spec sets env tree A n by_rule comp x × (A n (Behind c) ≡ Some x)

  assigned_1 : IsAssigned 1 next
  assigned_1 = (Int (pos 3), computed_as A 1 x_rule next (Int (pos 3)) at_1 (next_1 A refl), refl)

  assigned_2 : IsAssigned 2 next
  assigned_2 = (lost, computed_as A 2 x_rule next lost at_2 (next_2 A refl), refl)

  assigned : (n : ℕ) (h : Holder) (comp : Comp) → InForceAt spec tree n (goals.Behind c) h comp → (x : Plain) × IsComputed spec sets env tree A n h comp x × (A n (Behind c) ≡ Some x)
  assigned n h comp force = let is = assigns n h comp force in
      subst (λ h. (x : Plain) × IsComputed spec sets env tree A n h comp x × (A n (Behind c) ≡ Some x)) (sym is.0) (subst (IsAssigned n) (sym is.1.1) (at is.1.0))
    where
      at : IsX n → IsAssigned n next
      at (inl e) = subst (λ n. IsAssigned n next) (sym e) assigned_1
      at (inr e) = subst (λ n. IsAssigned n next) (sym e) assigned_2

  past : (n : ℕ) (slot : Slot) → A (suc (suc (suc n))) slot ≡ None
  past n slot = none_from (A (suc (suc (suc n))) slot) (λ h. let inside = each_row (λ n slot. IsX n) rows (inl refl, (inl refl, (inr refl, (inr refl, (inl refl, (inr refl, (inl refl, (inr refl, (inl refl, (inr refl, tt)))))))))) (suc (suc (suc n))) slot h in no inside)
    where
      no : ¬ IsX (suc (suc (suc n)))
      no (inl e) = cc
      no (inr e) = cc

  not_passed : (n : ℕ) → ¬ HasInForce spec tree n (goals.Behind c) → A n (Behind c) ≡ A n (Front c)
  not_passed zero none = refl
  not_passed (suc zero) none = absurd (none (by_rule, next, next_at 1 at_1))
  not_passed (suc (suc zero)) none = absurd (none (by_rule, next, next_at 2 at_2))
  not_passed (suc (suc (suc n))) none = past n (Behind c) ∙ sym (past n (Front c))

  passed_on : (n m : ℕ) (before : List ℕ) → ¬ HasInForce spec tree n (goals.Start c) → children tree n ≡ before ++ m ∷ [] → A n (Behind c) ≡ A m (Behind c)
  passed_on zero m before none e = absurd (none (by_rule, start, start_at_top))
  passed_on (suc zero) m before none e = absurd (none_at_end m before [] e)
  passed_on (suc (suc zero)) m before none e = absurd (none_at_end m before [] e)
  passed_on (suc (suc (suc n))) m before none e = absurd (none_at_end m before [] e)

  threaded : IsThreaded spec sets env tree A c type.Int
  threaded = record {
    first_child = first_child;
    first_child_passed = passed;
    later_child = later;
    assigned = λ n h comp under force. assigned n h comp force;
    not_passed_on = λ n none h. not_passed n none;
    passed_on = λ n m before unassigned none e. passed_on n m before none e;
  }

  domain : (m : ℕ) (slot : Slot) → IsSome (A m slot) ↔ IsInstance spec sets env tree m slot
  domain m slot = (
    each_row (IsInstance spec sets env tree) rows
        ((refl, under_1), ((refl, under_1), ((refl, under_2), ((refl, under_2), ((X, first, has_v), ((X, second, has_v), ((X, first, has_i), ((X, second, has_i), ((X, first, has_w), ((X, second, has_w), tt)))))))))) m slot,
    found slot,
  )
    where
      chain_at : (ch : ℕ) → ch ≡ c → IsX m → IsSome (A m (Front ch)) × IsSome (A m (Behind ch))
      chain_at ch e (inl f) = subst (λ m. IsSome (A m (Front ch)) × IsSome (A m (Behind ch))) (sym f) (subst (λ ch. IsSome (A 1 (Front ch)) × IsSome (A 1 (Behind ch))) (sym e) (refl, refl))
      chain_at ch e (inr f) = subst (λ m. IsSome (A m (Front ch)) × IsSome (A m (Behind ch))) (sym f) (subst (λ ch. IsSome (A 2 (Front ch)) × IsSome (A 2 (Behind ch))) (sym e) (refl, refl))

      attr_at : (n a : ℕ) → IsX n → IsAttr a → IsSome (A n (Attribute a))
      attr_at n a (inl f) (inl e) = subst (λ n. IsSome (A n (Attribute a))) (sym f) (subst (λ a. IsSome (A 1 (Attribute a))) (sym e) refl)
      attr_at n a (inl f) (inr (inl e)) = subst (λ n. IsSome (A n (Attribute a))) (sym f) (subst (λ a. IsSome (A 1 (Attribute a))) (sym e) refl)
      attr_at n a (inl f) (inr (inr e)) = subst (λ n. IsSome (A n (Attribute a))) (sym f) (subst (λ a. IsSome (A 1 (Attribute a))) (sym e) refl)
      attr_at n a (inr f) (inl e) = subst (λ n. IsSome (A n (Attribute a))) (sym f) (subst (λ a. IsSome (A 2 (Attribute a))) (sym e) refl)
      attr_at n a (inr f) (inr (inl e)) = subst (λ n. IsSome (A n (Attribute a))) (sym f) (subst (λ a. IsSome (A 2 (Attribute a))) (sym e) refl)
      attr_at n a (inr f) (inr (inr e)) = subst (λ n. IsSome (A n (Attribute a))) (sym f) (subst (λ a. IsSome (A 2 (Attribute a))) (sym e) refl)

      is_x : (s : ℕ) → s ≡ X → HasSymbol spec tree m s → IsX m
      is_x s e (r, at, f) = by_node (λ m r. left_of r ≡ s → IsX m) (λ f. absurd (omega (arith, e, f))) (λ f. inl refl) (λ f. inr refl) m r at f

      found : (slot : Slot) → IsInstance spec sets env tree m slot → IsSome (A m slot)
      found (Attribute a) (s, hs, has) = let is = only_attrs s a has in attr_at m a (is_x s is.0 hs) is.1
      found (Front ch) (h, (n, above_m, k)) = (chain_at ch (one_of ch c h) (above m n above_m)).0
      found (Behind ch) (h, (n, above_m, k)) = (chain_at ch (one_of ch c h) (above m n above_m)).1

  chain_is : (ch : ℕ) (ty : ValueType) → IsTypedChain spec ch ty → IsThreaded spec sets env tree A ch ty
  chain_is ch ty (x, m, e, f) = every (λ (x : Typed1). name_of x.name ≡ ch → x.ty ≡ ty → IsThreaded spec sets env tree A ch ty) spec.chains
      ((λ e f. subst (λ ch. IsThreaded spec sets env tree A ch ty) e (subst (IsThreaded spec sets env tree A c) f threaded)), tt) x m e f

  attribution : IsAttribution spec sets env tree A
  attribution = record {
    domain = domain;
    values = λ m a s context ty h comp hs has ht does. let is = attribute_values m a context h comp does in
        subst (λ h. (x : Plain) × IsComputed spec sets env tree A context h comp x × (A m (Attribute a) ≡ Some (kept ty x))) (sym is.0) (is.1 ty (subst (λ s. HasType spec s a ty) (only_attrs s a has).0 ht));
    chains = λ ch ty h. chain_is ch ty h;
  }

  -- ---- no other
  module _ (B : Assignment) (b : IsAttribution spec sets env tree B) where
    b-threaded : IsThreaded spec sets env tree B c type.Int
    b-threaded = b.chains c type.Int (typed c type.Int, (0, omega arith, refl), refl, refl)

    front_1 : B 1 (Front c) ≡ Some (Int (pos 1))
    front_1 = b-threaded.first_child 0 1 (2 ∷ []) (Int (pos 1)) refl (the_start B)

    behind_at : (m : ℕ) (x : Plain) → IsAt spec tree m x_rule → IsUnder spec tree c m → ComputesTo B m x_rule next x → B m (Behind c) ≡ Some x
    behind_at m x at under h = go (b-threaded.assigned m by_rule next under (next_at m at))
      where
        go : ((y : Plain) × IsComputed spec sets env tree B m by_rule next y × (B m (Behind c) ≡ Some y)) → B m (Behind c) ≡ Some x
        go (y, computed, e) = e ∙ ap (λ y. Some y) (only_value B m x_rule next x y at h computed)

    behind_1 : B 1 (Behind c) ≡ Some (Int (pos 3))
    behind_1 = behind_at 1 (Int (pos 3)) at_1 under_1 (next_1 B front_1)

    front_2 : B 2 (Front c) ≡ Some (Int (pos 3))
    front_2 = b-threaded.later_child 0 1 2 [] [] refl ∙ behind_1

    behind_2 : B 2 (Behind c) ≡ Some lost
    behind_2 = behind_at 2 lost at_2 under_2 (next_2 B front_2)

    value_at_node : (m a context : ℕ) (ty : ValueType) (r : RuleItem) (comp : Comp) (x : Plain) → HasSymbol spec tree m X → Has spec X a → HasType spec X a ty → Computes spec tree m a context by_rule comp
        → IsAt spec tree context r → ComputesTo B context r comp x → B m (Attribute a) ≡ Some (kept ty x)
    value_at_node m a context ty r comp x hs has ht comps at h = go (b.values m a X context ty by_rule comp hs has ht comps)
      where
        go : ((y : Plain) × IsComputed spec sets env tree B context by_rule comp y × (B m (Attribute a) ≡ Some (kept ty y))) → B m (Attribute a) ≡ Some (kept ty x)
        go (y, computed, e) = e ∙ ap (λ y. Some (kept ty y)) (only_value B context r comp x y at h computed)

    front_in : (m : ℕ) → IsAt spec tree m x_rule → Computes spec tree m v m by_rule front
    front_in m at = nodes.synthesized (x_rule, at, of_rule (refl, tt) ((0, omega arith, refl), (refl, refl, (λ h. cc))))

    void_in : (m : ℕ) → IsAt spec tree m x_rule → Computes spec tree m w m by_rule void
    void_in m at = nodes.synthesized (x_rule, at, of_rule (refl, tt) ((1, omega arith, refl), (refl, refl, (λ h. cc))))

    v_1 : B 1 (Attribute v) ≡ Some (Int (pos 1))
    v_1 = value_at_node 1 v 1 type.Int x_rule front (Int (pos 1)) first has_v type_v (front_in 1 at_1) at_1 (λ tail. simp (front_1) refl)

    v_2 : B 2 (Attribute v) ≡ Some (Int (pos 3))
    v_2 = value_at_node 2 v 2 type.Int x_rule front (Int (pos 3)) second has_v type_v (front_in 2 at_2) at_2 (λ tail. simp (front_2) refl)

    w_1 : B 1 (Attribute w) ≡ Some Void
    w_1 = value_at_node 1 w 1 type.Void x_rule void (Int (pos 1)) first has_w type_w (void_in 1 at_1) at_1 (λ tail. simp (v_1) refl)

    w_2 : B 2 (Attribute w) ≡ Some Void
    w_2 = value_at_node 2 w 2 type.Void x_rule void (Int (pos 3)) second has_w type_w (void_in 2 at_2) at_2 (λ tail. simp (v_2) refl)

    i_1 : B 1 (Attribute i) ≡ Some (Int (pos 7))
    i_1 = value_at_node 1 i 0 type.Int top_rule seven (Int (pos 7)) first has_i type_i (nodes.inherited_of_rule 0 1 X top_rule refl at_0 first (of_rule (refl, tt) ((1, omega arith, refl), (refl, refl)))) at_0 (λ tail. refl)

    i_2 : B 2 (Attribute i) ≡ Some (Int (pos 1))
    i_2 = value_at_node 2 i 0 type.Int top_rule across (Int (pos 1)) second has_i type_i (nodes.inherited_of_rule 0 2 X top_rule refl at_0 second (of_rule (refl, tt) ((2, omega arith, refl), (refl, refl)))) at_0 (λ tail. simp (v_1) refl)

    at_rows : (m : ℕ) (slot : Slot) → IsSome (A m slot) → B m slot ≡ A m slot
    at_rows = each_row (λ m slot. B m slot ≡ A m slot) rows (front_1, (behind_1, (front_2, (behind_2, (v_1, (v_2, (i_1, (i_2, (w_1, (w_2, tt))))))))))

    same_at : (m : ℕ) (slot : Slot) → B m slot ≡ A m slot
    same_at m slot = go (A m slot) refl
      where
        go : (o : Option Plain) → A m slot ≡ o → B m slot ≡ A m slot
        go (Some x) e = at_rows m slot (rw e refl)
        go None e = none_from (B m slot) (λ h. let some = (domain m slot).1 ((b.domain m slot).0 h) in no (A m slot) e some) ∙ sym e
          where
            no : (o : Option Plain) → o ≡ None → ¬ IsSome o
            no o e h = cc

    same : B ≡ A
    same = λ j m slot. same_at m slot j

  -- ---- the output
  abbrev IsLost : Plain → Slot → Type 0
  IsLost (Bad o) (Attribute a) = ⊥
  IsLost _ _ = Unit {0}

  good : (m a : ℕ) (o : Origin) → ¬ (A m (Attribute a) ≡ Some (Bad o))
  good m a o e = let h = each_row (λ m slot. (o : Origin) → A m slot ≡ Some (Bad o) → (m ≡ 2) × (slot ≡ Behind c)) rows
      ((λ o e. cc), ((λ o e. cc), ((λ o e. cc), ((λ o e. (refl, refl)), ((λ o e. cc), ((λ o e. cc), ((λ o e. cc), ((λ o e. cc), ((λ o e. cc), ((λ o e. cc), tt)))))))))) m (Attribute a) (rw e refl) o e in let wrong = h.1 in cc

  no_output : ¬ HasInForce spec tree 0 goals.Output
  no_output (h, comp, force) = (in_force goals.Output (λ m comp. ⊥) ((λ h. h), ((λ h. h), ((λ h. h), tt))) ((λ h. h), ((λ h. h), ((λ h. h), tt))) ((λ h. h), ((λ h. h), ((λ h. h), tt))) 0 h comp force).1

  right : (o : Origin) → ¬ WentWrong spec sets env tree A (Text []) o
  right o (in_output e) = cc
  right o (in_attribute m a e) = good m a o e
  right o (in_message m j comp force is) = omega (arith, (message_listed spec tree m j comp force).1)

pub returns : goal.returns
returns s = record {
  attribution = attribution;
  only = λ sets. (A, attribution sets, (λ B b. same sets B b));
  result = λ sets. (inr (no_output sets, refl), ([], tt, refl), right sets);
}
