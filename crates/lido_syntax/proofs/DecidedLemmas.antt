-- Whether a computation is in force can be decided, so each expression of a computation has a value at each node that has a rule.
use Rattle.std.specs.Prelude.{Contains, Bool, true, false, IsTrue, nat_eq, map, flat_map, filter, slice_get, if◌then◌else◌, MatchBool}
use Rattle.std.proofs.Common.{◌≡◌, ℕ, zero, suc, ◌⊎◌, inl, inr, List, [], ◌∷◌, ◌++◌, Option, Some, None, refl, arith, ap, subst, sym, ◌∙◌, eqb-true, eq-eqb}
use Rattle.lido_base.specs.Environment.{Environment}
use Rattle.lido_base.specs.Plain.{Plain, Void}
use Rattle.lido_base.specs.Tree.{Tree, contains, children, rule_at}
use Rattle.std.proofs.lemmas.Option.{same_Some}
use Rattle.lido_base.proofs.Lists.{flat-contains}
use Rattle.lido_base.proofs.TreeLemmas.{contains-cons, contains-test}
use Rattle.lido_syntax.specs.declared.spec.Spec.{Spec}
use Rattle.lido_syntax.specs.declared.spec.Comp.{Comp}
use Rattle.lido_syntax.specs.declared.spec.Expr.{Expr}
use Rattle.lido_syntax.specs.declared.spec.RuleItem.{RuleItem}
use Rattle.lido_syntax.specs.declared.spec.SymbolItem.{SymbolItem}
use Rattle.lido_syntax.specs.declared.spec.Typed1.{Typed1}
use Rattle.lido_syntax.specs.declared.spec.Target.{Target}
use Rattle.lido_syntax.specs.declared.spec.Target.TheVariants as target
use Rattle.lido_syntax.specs.declared.spec.Place.TheVariants as place
use Rattle.lido_syntax.specs.Production.{name_of, left_of, right_of, occurrence, CanStandAt}
use Rattle.lido_syntax.specs.Symbols.{IsChain}
use Rattle.lido_syntax.specs.Sets.{Sets, names_of, Inherits}
use Rattle.lido_syntax.specs.Assignment.{Assignment, Front, Behind, value_at}
use Rattle.lido_syntax.specs.Computation.{Goal, Synthesized, Inherited, Start, Output, Message, Holder, by_rule, by_symbol, is_message, messages_of, IsGoalAt, IsGoalOf, InForce, of_rule, of_symbol, of_class, IsRuleTarget, IsSymbolTarget, InSymbol, HasInRule, HasInSymbol, IsLeft, HasComputation}
use Rattle.lido_syntax.specs.Computation as goals
use Rattle.lido_syntax.specs.Nodes.{IsAt, InForceAt, HasInForce}
use Rattle.lido_syntax.specs.Chains.{IsEntry, IsTail, IsValue, value_by}
use Rattle.lido_syntax.specs.Value.{value}

-- it is so or it isn't
abbrev Decided : Type 0 → Type 0
Decided P = P ⊎ ¬ P

dec_and : {P Q : Type 0} → Decided P → Decided Q → Decided (P × Q)
dec_and (inl p) (inl q) = inl (p, q)
dec_and (inl p) (inr n) = inr (λ h. n h.1)
dec_and (inr n) d = inr (λ h. n h.0)

dec_and3 : {P Q R : Type 0} → Decided P → Decided Q → Decided R → Decided (P × Q × R)
dec_and3 (inl p) (inl q) (inl r) = inl (p, q, r)
dec_and3 (inl p) (inl q) (inr n) = inr (λ h. n h.2)
dec_and3 (inl p) (inr n) d = inr (λ h. n h.1)
dec_and3 (inr n) c d = inr (λ h. n h.0)

dec_not : {P : Type 0} → Decided P → Decided (¬ P)
dec_not (inl p) = inr (λ n. n p)
dec_not (inr n) = inl n

dec_true : (b : Bool) → Decided (IsTrue b)
dec_true true = inl refl
dec_true false = inr (λ h. cc)

dec_same : (a b : ℕ) → Decided (a ≡ b)
dec_same a b = go (nat_eq a b) refl
  where
    go : (x : Bool) → nat_eq a b ≡ x → Decided (a ≡ b)
    go true e = inl (eqb-true a b e)
    go false e = inr (λ h. let f : nat_eq a b ≡ true = eq-eqb a b h in cc)

dec_option : (o : Option ℕ) (k : ℕ) → Decided (o ≡ Some k)
dec_option None k = inr (λ h. cc)
dec_option (Some j) k = go (dec_same j k)
  where
    go : Decided (j ≡ k) → Decided (Some j ≡ Some k)
    go (inl e) = inl (ap (λ x. Some x) e)
    go (inr n) = inr (λ h. n (let f : j ≡ k = cc in f))

dec_any : {X : Type 0} (P : X → Type 0) → ((x : X) → Decided (P x)) → (xs : List X) → Decided ((x : X) × Contains xs x × P x)
dec_any P d [] = inr (λ h. omega (arith, h.1.1))
dec_any P d (x ∷ xs) = go (d x) (dec_any P d xs)
  where
    go : Decided (P x) → Decided ((y : _) × Contains xs y × P y) → Decided ((y : _) × Contains (x ∷ xs) y × P y)
    go (inl p) more = inl (x, (0, omega arith, refl), p)
    go (inr n) (inl (y, m, p)) = inl (y, (suc m.0, omega (arith, m.1), m.2), p)
    go (inr n) (inr none) = inr (λ h. at (contains-cons x h.0 xs h.1) h.2)
      where
        at : {y : _} → (x ≡ y) ⊎ Contains xs y → ¬ P y
        at {y} (inl e) p = n (subst P (sym e) p)
        at {y} (inr k) p = none (y, k, p)

-- a goal that is no message
abbrev IsNoMessage : Goal → Type 0
IsNoMessage (Message j) = ⊥
IsNoMessage _ = Unit {0}

dec_no_message : (goal : Goal) → ((j : ℕ) × (goal ≡ Message j)) ⊎ IsNoMessage goal
dec_no_message (Message j) = inl (j, refl)
dec_no_message _ = inr tt

module _ (spec : Spec) where
  dec_chain : (c : ℕ) → Decided (IsChain spec c)
  dec_chain c = dec_true (contains c (map (λ (x : Typed1). name_of x.name) spec.chains))

  dec_rule_target : (r : RuleItem) (c : Comp) (t : Target) (k : ℕ) (goal : Goal) → IsNoMessage goal → Decided (IsRuleTarget spec r c t k goal)
  dec_rule_target r c (target.Attr (place.Named x i) a) zero (Synthesized b) other = dec_and3 (dec_option (occurrence r x i) 0) (dec_same (name_of a) b) (dec_not (dec_chain b))
  dec_rule_target r c (target.Attr (place.Named x i) a) zero (goals.Behind b) other = dec_and3 (dec_option (occurrence r x i) 0) (dec_same (name_of a) b) (dec_chain b)
  dec_rule_target r c (target.Attr (place.Named x i) a) (suc k) (Inherited b) other = dec_and (dec_option (occurrence r x i) (suc k)) (dec_same (name_of a) b)
  dec_rule_target r c (target.Start a) zero (Start b) other = dec_same (name_of a) b
  dec_rule_target r c target.Out zero Output other = inl tt
  dec_rule_target r c (target.Message s e) zero (Message j) other = absurd other
  dec_rule_target r c t k goal other = inr (λ h. h)

  dec_symbol_target : (t : Target) (goal : Goal) → Decided (IsSymbolTarget spec t goal)
  dec_symbol_target (target.Attr place.Synt a) (Synthesized b) = dec_same (name_of a) b
  dec_symbol_target (target.Attr place.Inh a) (Inherited b) = dec_same (name_of a) b
  dec_symbol_target (target.Attr place.This a) (goals.Behind c) = dec_same (name_of a) c
  dec_symbol_target (target.Start a) (Start c) = dec_same (name_of a) c
  dec_symbol_target t goal = inr (λ h. h)

  -- what is among the plain computations of a rule is one
  pub message_within : (cs : List Comp) (j : ℕ) (c : Comp) → slice_get (filter is_message cs) j ≡ Some c → Contains cs c × IsTrue (is_message c)
  message_within [] j c e = cc
  message_within (x ∷ xs) j c e = go (is_message x) refl j e (λ j e. message_within xs j c e)
    where
      later : Contains xs c × IsTrue (is_message c) → Contains (x ∷ xs) c × IsTrue (is_message c)
      later h = ((suc h.0.0, omega (arith, h.0.1), h.0.2), h.1)

      go : (b : Bool) → is_message x ≡ b → (j : ℕ) → slice_get (if b then x ∷ filter is_message xs else filter is_message xs) j ≡ Some c
          → ((j : ℕ) → slice_get (filter is_message xs) j ≡ Some c → Contains xs c × IsTrue (is_message c)) → Contains (x ∷ xs) c × IsTrue (is_message c)
      go false h j e more = later (more j e)
      go true h (suc j) e more = later (more j e)
      go true h zero e more = let same : x ≡ c = same_Some x c e in ((0, omega arith, same), subst (λ (c : Comp). IsTrue (is_message c)) same h)

  pub message_target : (r : RuleItem) (c : Comp) (j : ℕ) → slice_get (messages_of r) j ≡ Some c → (t : Target) → c.target ≡ t → IsTrue (elim t [ target.Message s e ↦ true | _ ↦ false ]) → IsRuleTarget spec r c t 0 (Message (suc j))
  message_target r c j e (target.Message s x) f h = e
  message_target r c j e t f h = cc

  -- a message is one of the rule's plain computations, at the left side
  pub from_message : (r : RuleItem) (c : Comp) (t : Target) (k j : ℕ) → IsRuleTarget spec r c t k (Message j) → (i : ℕ) × (k ≡ 0) × (j ≡ suc i) × (slice_get (messages_of r) i ≡ Some c)
  from_message r c (target.Message s e) zero (suc i) h = (i, refl, refl, h)
  from_message r c (target.Message s e) zero zero h = absurd h
  from_message r c (target.Message s e) (suc k) j h = absurd h
  from_message r c (target.Attr (place.Named x i) a) zero j h = absurd h
  from_message r c (target.Attr (place.Named x i) a) (suc k) j h = absurd h
  from_message r c (target.Attr p a) k j h = absurd h
  from_message r c (target.Start a) zero j h = absurd h
  from_message r c (target.Start a) (suc k) j h = absurd h
  from_message r c target.Out zero j h = absurd h
  from_message r c target.Out (suc k) j h = absurd h

  dec_message : (r : RuleItem) (k j : ℕ) → Decided (HasInRule spec r k (Message j))
  dec_message r zero (suc j) = go (slice_get (messages_of r) j) refl
    where
      go : (o : Option Comp) → slice_get (messages_of r) j ≡ o → Decided (HasInRule spec r 0 (Message (suc j)))
      go None e = inr (λ h. let is = from_message r h.0 h.0.target 0 (suc j) h.1.1 in none h.0 is.0 is.2 is.3)
        where
          none : (c : Comp) (i : ℕ) → suc j ≡ suc i → ¬ (slice_get (messages_of r) i ≡ Some c)
          none c i same f = let back : i ≡ j = omega (arith, same) in let found : slice_get (messages_of r) j ≡ Some c = subst (λ i. slice_get (messages_of r) i ≡ Some c) back f in cc
      go (Some c) e = let is = message_within r.body j c e in inl (c, (is.0, message_target r c j e c.target refl is.1))
  dec_message r zero zero = inr (λ h. let is = from_message r h.0 h.0.target 0 0 h.1.1 in omega (arith, is.2))
  dec_message r (suc k) j = inr (λ h. let is = from_message r h.0 h.0.target (suc k) j h.1.1 in omega (arith, is.1))

  dec_in_rule : (r : RuleItem) (k : ℕ) (goal : Goal) → Decided (HasInRule spec r k goal)
  dec_in_rule r k goal = go (dec_no_message goal)
    where
      at : Decided ((c : Comp) × Contains r.body c × IsRuleTarget spec r c c.target k goal) → Decided (HasInRule spec r k goal)
      at (inl (c, m, h)) = inl (c, (m, h))
      at (inr n) = inr (λ h. n (h.0, h.1.0, h.1.1))

      go : ((j : ℕ) × (goal ≡ Message j)) ⊎ IsNoMessage goal → Decided (HasInRule spec r k goal)
      go (inl (j, e)) = subst (λ goal. Decided (HasInRule spec r k goal)) (sym e) (dec_message r k j)
      go (inr other) = at (dec_any (λ (c : Comp). IsRuleTarget spec r c c.target k goal) (λ c. dec_rule_target r c c.target k goal other) r.body)

  abbrev ItemHas : ℕ → Goal → SymbolItem → Type 0
  ItemHas s goal item = IsTrue (contains s (names_of item)) × ((c : Comp) × Contains item.body c × IsSymbolTarget spec c.target goal)

  dec_in_symbol : (s : ℕ) (goal : Goal) → Decided (HasInSymbol spec s goal)
  dec_in_symbol s goal = go (dec_any (ItemHas s goal) (λ (item : SymbolItem). dec_and (dec_true (contains s (names_of item))) (dec_any (λ (c : Comp). IsSymbolTarget spec c.target goal) (λ c. dec_symbol_target c.target goal) item.body)) spec.symbols)
    where
      go : Decided ((item : SymbolItem) × Contains spec.symbols item × ItemHas s goal item) → Decided (HasInSymbol spec s goal)
      go (inl (item, m, (named, (c, k, h)))) = inl (c, ((item, m, named, k), h))
      go (inr n) = inr (λ h. n (h.1.0.0, h.1.0.1, (h.1.0.2, (h.0, h.1.0.3, h.1.1))))

  -- the symbols and classes of SYMBOL items
  abbrev all_names : List ℕ
  all_names = flat_map names_of spec.symbols

  computing : (s : ℕ) (goal : Goal) → HasInSymbol spec s goal → Contains all_names s
  computing s goal (c, ((item, m, named, k), h)) = flat-contains names_of spec.symbols item s m (contains-test s (names_of item) named)

  module _ (sets : Sets spec) where
    dec_inherits : (s class : ℕ) → Decided (Inherits spec s class)
    dec_inherits s class = go (dec_true (sets.inherits s class))
      where
        go : Decided (IsTrue (sets.inherits s class)) → Decided (Inherits spec s class)
        go (inl h) = inl ((sets.inherits_exactly s class).0 h)
        go (inr n) = inr (λ h. n ((sets.inherits_exactly s class).1 h))

    dec_left : (s : ℕ) (goal : Goal) (class : ℕ) → Decided (IsLeft spec s goal class)
    dec_left s goal class = go (dec_and3 (dec_inherits s class) (dec_in_symbol class goal) (dec_not (dec_any Drops drops all_names)))
      where
        Drops : ℕ → Type 0
        Drops other = Inherits spec s other × HasInSymbol spec other goal × Inherits spec other class

        drops : (other : ℕ) → Decided (Drops other)
        drops other = dec_and3 (dec_inherits s other) (dec_in_symbol other goal) (dec_inherits other class)

        go : Decided (Inherits spec s class × HasInSymbol spec class goal × ¬ ((other : ℕ) × Contains all_names other × Drops other)) → Decided (IsLeft spec s goal class)
        go (inl h) = inl (record { inherited = h.0; computes = h.1; not_dropped = λ other i k l. h.2 (other, computing other goal k, (i, k, l)) })
        go (inr n) = inr (λ h. n (h.inherited, h.computes, (λ d. h.not_dropped d.0 d.2.0 d.2.1 d.2.2)))

    abbrev OnlyLeft : ℕ → Goal → ℕ → Type 0
    OnlyLeft s goal class = IsLeft spec s goal class × ¬ ((other : ℕ) × Contains all_names other × (IsLeft spec s goal other × ¬ (other ≡ class)))

    dec_only : (s : ℕ) (goal : Goal) → Decided ((class : ℕ) × Contains all_names class × OnlyLeft s goal class)
    dec_only s goal = dec_any (OnlyLeft s goal) (λ class. dec_and (dec_left s goal class) (dec_not (dec_any (λ other. IsLeft spec s goal other × ¬ (other ≡ class)) (λ other. dec_and (dec_left s goal other) (dec_not (dec_same other class))) all_names))) all_names

    -- the goal is one of the symbol there
    dec_stands : (r : RuleItem) (k s : ℕ) → Decided (CanStandAt r k s)
    dec_stands r zero s = dec_same (left_of r) s
    dec_stands r (suc k) s = go r.list
      where
        go : (b : Bool) → Decided (MatchBool b (IsTrue (contains s (right_of r))) (slice_get (right_of r) k ≡ Some s))
        go true = dec_true (contains s (right_of r))
        go false = dec_option (slice_get (right_of r) k) s

    dec_goal_at : (k : ℕ) (goal : Goal) → Decided (IsGoalAt k goal)
    dec_goal_at zero (Inherited a) = inr (λ h. h)
    dec_goal_at (suc k) (Inherited a) = inl tt
    dec_goal_at zero goal = inl tt
    dec_goal_at (suc k) goal = inr (λ h. h)

    pub goal_of : (r : RuleItem) (k s : ℕ) (goal : Goal) (h : Holder) (c : Comp) → InForce spec r k s goal h c → IsGoalOf r k s goal
    goal_of r k s goal _ c (of_rule is a) = is
    goal_of r k s goal _ c (of_symbol is n a) = is
    goal_of r k s goal _ c (of_class class is n o left one a) = is

    pub dec_computation : (r : RuleItem) (k s : ℕ) (goal : Goal) → HasComputation spec r k s goal ⊎ ¬ HasComputation spec r k s goal
    dec_computation r k s goal = whether (dec_and (dec_stands r k s) (dec_goal_at k goal))
      where
        same : (class other : ℕ) → ¬ ((x : ℕ) × Contains all_names x × (IsLeft spec s goal x × ¬ (x ≡ class))) → IsLeft spec s goal other → other ≡ class
        same class other n l = at (dec_same other class)
          where
            at : Decided (other ≡ class) → other ≡ class
            at (inl e) = e
            at (inr ne) = absurd (n (other, computing other goal l.computes, (l, ne)))

        go : IsGoalOf r k s goal → Decided (HasInRule spec r k goal) → Decided (HasInSymbol spec s goal) → Decided ((class : ℕ) × Contains all_names class × OnlyLeft s goal class) → Decided (HasComputation spec r k s goal)
        go is (inl (c, h)) b d = inl (by_rule, c, of_rule is h)
        go is (inr n) (inl (c, h)) d = inl (by_symbol, c, of_symbol is n h)
        go is (inr n) (inr o) (inl (class, m, (left, only))) = inl (by_symbol, left.computes.0, of_class class is n o left (λ other l. same class other only l) left.computes.1)
        go is (inr n) (inr o) (inr none) = inr (λ h. at h.0 h.1 h.2)
          where
            at : (h : Holder) (c : Comp) → ¬ InForce spec r k s goal h c
            at _ c (of_rule is a) = n (c, a)
            at _ c (of_symbol is m a) = o (c, a)
            at _ c (of_class class is m p left one a) = none (class, computing class goal (c, a), (left, (λ h. h.2.1 (one h.0 h.2.0))))

        whether : Decided (IsGoalOf r k s goal) → Decided (HasComputation spec r k s goal)
        whether (inl is) = go is (dec_in_rule r k goal) (dec_in_symbol s goal) (dec_only s goal)
        whether (inr none) = inr (λ h. none (goal_of r k s goal h.0 h.1 h.2))

pub dec_in_force : (spec : Spec) (sets : Sets spec) (t : Tree Plain) (n : ℕ) (goal : Goal) → HasInForce spec t n goal ⊎ ¬ HasInForce spec t n goal
dec_in_force spec sets t n goal = go (rule_at t n) refl
  where
    with_rule : (i : ℕ) → rule_at t n ≡ Some i → (o : Option RuleItem) → slice_get spec.rules i ≡ o → Decided (HasInForce spec t n goal)
    with_rule i e None f = inr (λ h. none h.0 h.1 h.2)
      where
        none : (h : Holder) (c : Comp) → ¬ InForceAt spec t n goal h c
        none h c (r, (j, a, b), k) = cc
    with_rule i e (Some r) f = at (dec_computation spec sets r 0 (left_of r) goal)
      where
        at : HasComputation spec r 0 (left_of r) goal ⊎ ¬ HasComputation spec r 0 (left_of r) goal → Decided (HasInForce spec t n goal)
        at (inl (h, c, force)) = inl (h, c, (r, (i, e, f), force))
        at (inr none) = inr (λ h. no h.0 h.1 h.2)
          where
            no : (h : Holder) (c : Comp) → ¬ InForceAt spec t n goal h c
            no h c (q, (j, a, b), force) = let same : q ≡ r = cc in none (h, c, subst (λ q. InForce spec q 0 (left_of q) goal h c) same force)

    go : (o : Option ℕ) → rule_at t n ≡ o → Decided (HasInForce spec t n goal)
    go None e = inr (λ h. none h.0 h.1 h.2)
      where
        none : (h : Holder) (c : Comp) → ¬ InForceAt spec t n goal h c
        none h c (r, (j, a, b), k) = cc
    go (Some i) e = with_rule i e (slice_get spec.rules i) refl

module _ (spec : Spec) (sets : Sets spec) (env : Environment) (t : Tree Plain) (A : Assignment) where
  entry : (c n : ℕ) → (v : Plain) × IsEntry spec sets env t A c n v
  entry c n = go (dec_in_force spec sets t n (Start c))
    where
      go : HasInForce spec t n (Start c) ⊎ ¬ HasInForce spec t n (Start c) → (v : Plain) × IsEntry spec sets env t A c n v
      go (inl (h, comp, (r, at, force))) = (value_by spec sets env t A (λ chain. Void) n h r comp, inl (h, comp, r, (r, at, force), at, refl))
      go (inr none) = (value_at A n (Front c), inr (none, refl))

  pub last : (x : ℕ) (xs : List ℕ) → (before : List ℕ) × (m : ℕ) × (x ∷ xs ≡ before ++ m ∷ [])
  last x [] = ([], x, refl)
  last x (y ∷ ys) = let more = last y ys in (x ∷ more.0, more.1, ap (λ zs. x ∷ zs) more.2)

  pub a_tail : (c n : ℕ) → (v : Plain) × IsTail spec sets env t A c n v
  a_tail c n = go (children t n) refl
    where
      go : (xs : List ℕ) → children t n ≡ xs → (v : Plain) × IsTail spec sets env t A c n v
      go [] e = let v = entry c n in (v.0, inr (e, v.1))
      go (x ∷ xs) e = let l = last x xs in (value_at A l.1 (Behind c), inl (l.0, l.1, e ∙ l.2, refl))

  pub a_value : (n : ℕ) (r : RuleItem) (h : Holder) (number : ℕ) (e : Expr) → IsAt spec t n r → (v : Plain) × IsValue spec sets env t A n h number e v
  a_value n r h number e at = (value spec sets env t A h r number n (λ c. (a_tail c n).0) e, (r, (λ c. (a_tail c n).0), at, (λ c h. (a_tail c n).1), refl))
