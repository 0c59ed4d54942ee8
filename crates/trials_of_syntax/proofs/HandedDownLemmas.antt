-- The specification of what is handed down, symbol by symbol and node by node.
use Rattle.std.specs.Prelude.{Contains, Bool, true, false, not, IsTrue, ◌&&◌, slice_get, option_and_then}
use Rattle.std.specs.List.{AllByRecursion}
use Rattle.std.proofs.Common.{◌≡◌, ℕ, zero, suc, ◌⊎◌, inl, inr, [], ◌∷◌, Option, Some, None, refl, arith, ap, subst, sym, ◌∙◌}
use Rattle.lido_base.specs.declared.kinds.Kind.{Kind}
use Rattle.lido_base.specs.declared.kinds.Kind.TheVariants.{Synthesized, Inherited}
use Rattle.lido_base.specs.declared.value.ValueType.{ValueType}
use Rattle.lido_base.specs.declared.value.ValueType.TheVariants as type
use Rattle.lido_base.specs.Plain.{Plain}
use Rattle.lido_base.specs.Reach.{Reaches, source, edge}
use Rattle.lido_base.specs.Tree.{Item, Child, rule_at, contains}
use Rattle.lido_syntax.specs.declared.spec.Comp.{Comp}
use Rattle.lido_syntax.specs.declared.spec.Decl.{Decl}
use Rattle.lido_syntax.specs.declared.spec.Name.{Name}
use Rattle.lido_syntax.specs.declared.spec.Place.{Place}
use Rattle.lido_syntax.specs.declared.spec.Place.TheVariants as place
use Rattle.lido_syntax.specs.declared.spec.RuleItem.{RuleItem}
use Rattle.lido_syntax.specs.declared.spec.SymbolItem.{SymbolItem}
use Rattle.lido_syntax.specs.Production.{name_of, left_of}
use Rattle.lido_syntax.specs.Sets.{names_of, has_child, is_source, is_shield, Inherits, Sets}
use Rattle.lido_syntax.specs.Attributes.{Use, uses, reads, IsOnSide, InBody, IsUse, IsNamed, IsDeclared, IsDeclaredKind, IsTypedBySymbol, OfClass, Has, HasKind, HasType, Tells}
use Rattle.lido_syntax.specs.Attributes as attributes
use Rattle.lido_syntax.specs.Computation as goals
use Rattle.lido_syntax.specs.Computation.{Goal, IsLeft, InForce, InRule, InSymbol, HasInRule, HasInSymbol, IsRuleTarget, IsSymbolTarget, Holder, by_rule, by_symbol, of_rule, of_symbol, of_class}
use Rattle.lido_syntax.specs.Nodes.{IsAt, HasSymbol, IsChild, Computes}
use Rattle.lido_syntax.specs.Nodes as nodes
use Rattle.lido_syntax.proofs.ExpressionLemmas.{reads-Call}
use Rattle.trials_of_syntax.specs.Writing.{name, declaration}
use Rattle.trials_of_syntax.specs.HandedDown.{Top, Left, Right, Five, i, five, three, fives, out, quotient, class_five, top_rule, left_rule, right_rule, spec, tree}
use Rattle.trials_of_syntax.proofs.Classes.{inherits_within}
use Rattle.trials_of_syntax.proofs.Members.{every, same_Some, one_of, apart}
use Rattle.trials_of_syntax.proofs.RulesOnly.{EachUse, OfNamed, side_of, false_from}

-- one symbol inherits, one class
pub inherits : (s class : ℕ) → Inherits spec s class → (s ≡ Right) × (class ≡ Five)
inherits = inherits_within spec (λ s class. (s ≡ Right) × (class ≡ Five))
    ((λ s class a b. cc), ((λ s class a b. (one_of s Right a, one_of class Five b)), tt))
    (λ s class above a b. absurd (apart Five Right class a.1 b.0 refl))

-- one symbol computation stands in the text
pub in_body : (s : ℕ) (c : Comp) → InBody spec s c → (s ≡ Five) × (c ≡ five)
in_body s c (item, m, named, k) =
    every (λ (item : SymbolItem). IsTrue (contains s (names_of item)) → Contains item.body c → (s ≡ Five) × (c ≡ five)) spec.symbols
    ((λ h k. (one_of s Five h, every (λ c. c ≡ five) (five ∷ []) (refl, tt) c k)), ((λ h k. absurd (omega (arith, k.1))), tt)) item m named k

pub in_class : InBody spec Five five
in_class = (class_five, (0, omega arith, refl), refl, (0, omega arith, refl))

-- no SYMBOL item declares an attribute
undeclared : (s a : ℕ) (d : Decl) → ¬ IsDeclared spec s a d
undeclared s a d (item, m, n, k, e) = every (λ (item : SymbolItem). ¬ Contains item.decls d) spec.symbols (none, (none, tt)) item m k
  where
    none : ¬ Contains {X = Decl} [] d
    none h = omega (arith, h.1)

-- the root has no attribute, and the others have one at most
abbrev pub IsHanded : ℕ → ℕ → Type 0
IsHanded s a = (¬ (s ≡ Top)) × (a ≡ i)

named_below : IsHanded Left i
named_below = ((λ e. cc), refl)

out_uses : EachUse IsHanded out
out_uses = simp (reads-Call) (((λ e. cc), refl), tt)

quotient_uses : EachUse IsHanded quotient
quotient_uses = (named_below, simp (reads-Call) (((λ e. cc), refl), tt))

in_rules : (r : RuleItem) → Contains spec.rules r → (c : Comp) → Contains r.body c → EachUse IsHanded c
in_rules r m c k = every (EachUse IsHanded) r.body (every (λ (r : RuleItem). AllByRecursion (EachUse IsHanded) r.body) spec.rules
    (((named_below, tt), (out_uses, tt)), (tt, ((quotient_uses, tt), tt))) r m) c k

of_five : (c : Comp) → c ≡ five → (p : Place) (b : Name) → Contains (uses c) (p, b) → (p ≡ place.Inh) × (b ≡ name i)
of_five c e p b m = every (λ (u : Use). (u.0 ≡ place.Inh) × (u.1 ≡ name i)) (uses five) ((refl, refl), tt) (p, b) (rw e at m)

named_here : (s a : ℕ) → IsNamed spec s a → IsHanded s a
named_here s a (attributes.declared d h) = absurd (undeclared s a d h)
named_here s a (attributes.in_body c p body (b, mu, f, g) own) =
    let is = in_body s c body in ((λ e. apart Five Top s is.0 e refl), sym f ∙ ap name_of (of_five c is.1 p b mu).1)
named_here s a (attributes.by_name c x j (inr (other, body)) (b, mu, f, g) e) =
    let is = of_five c (in_body other c body).1 (place.Named x j) b mu in cc
named_here s a (attributes.by_name c x j (inl (r, mr, mc)) (b, mu, f, g) e) =
    let here : IsHanded (name_of x) (name_of b) = every (OfNamed IsHanded) (uses c) (in_rules r mr c mc) (place.Named x j, b) mu in
    subst (λ y. IsHanded y a) e (subst (λ y. IsHanded (name_of x) y) f here)

pub only_handed : (s a : ℕ) → Has spec s a → IsHanded s a
only_handed s a (inl h) = named_here s a h
only_handed s a (inr (class, h, k)) = ((λ e. apart Right Top s (inherits s class h).0 e refl), (named_here class a k).1)

pub has_left : Has spec Left i
has_left = inl (attributes.by_name three (name Left) None (inl (top_rule, (0, omega arith, refl), (0, omega arith, refl))) (name i, (0, omega arith, refl), refl, (λ h. cc)) refl)

used : IsUse spec five place.Inh i
used = (name i, (0, omega arith, refl), refl, (λ h. cc))

pub has_right : Has spec Right i
has_right = inr (Five, source refl, attributes.in_body five place.Inh in_class used tt)

-- kinds
pub not_declared : (s a : ℕ) (kind : Kind) → ¬ IsDeclaredKind spec s a kind
not_declared s a kind (inl (inl (d, h, e))) = undeclared s a d h
not_declared s a kind (inl (inr (class, h, (d, k, e)))) = undeclared class a d k
not_declared s a kind (inr (d, m, e, f)) = every (λ (d : Decl). ¬ (d.kind ≡ Some kind)) spec.attrs ((λ e. cc), tt) d m f

tells : (s a : ℕ) (kind : Kind) → Tells spec s a kind → kind ≡ Inherited
tells s a kind (attributes.side r c x j b mr mc e on f g h) =
    every (λ (c : Comp). IsOnSide kind (side_of r c.target) → kind ≡ Inherited) r.body
    (every (λ (r : RuleItem). AllByRecursion (λ (c : Comp). IsOnSide kind (side_of r c.target) → kind ≡ Inherited) r.body) spec.rules
    ((right_side kind, (nowhere kind, tt)), (tt, ((right_side kind, tt), tt))) r mr) c mc (rw e on)
  where
    right_side : (kind : Kind) → IsOnSide kind (1 ∷ []) → kind ≡ Inherited
    right_side Synthesized h = absurd h
    right_side Inherited h = refl

    nowhere : (kind : Kind) → IsOnSide kind [] → kind ≡ Inherited
    nowhere Synthesized h = absurd h
    nowhere Inherited h = refl
tells s a _ (attributes.synt c body (b, mu, f, g)) = let is = of_five c (in_body s c body).1 place.Synt b mu in cc
tells s a _ (attributes.inh c body u) = refl

told : (s a : ℕ) (kind : Kind) → OfClass spec (λ x. Tells spec x a kind) s → kind ≡ Inherited
told s a kind (inl h) = tells s a kind h
told s a kind (inr (class, h, k)) = tells class a kind k

pub one_kind : (s a : ℕ) (k l : Kind) → HasKind spec s a k → HasKind spec s a l → k ≡ l
one_kind s a k l (attributes.by_declaration h) m = absurd (not_declared s a k h)
one_kind s a k l (attributes.by_side none h) (attributes.by_declaration m) = absurd (not_declared s a l m)
one_kind s a k l (attributes.by_side none h) (attributes.by_side other m) = told s a k h ∙ sym (told s a l m)
one_kind s a k _ (attributes.by_side none h) (HasKind.by_default m untold) = absurd (untold k h)
one_kind s a _ l (HasKind.by_default h untold) (attributes.by_declaration m) = absurd (not_declared s a l m)
one_kind s a _ l (HasKind.by_default h untold) (attributes.by_side none m) = absurd (untold l m)
one_kind s a _ _ (HasKind.by_default h untold) (HasKind.by_default m other) = refl

pub kind_left : HasKind spec Left i Inherited
kind_left = attributes.by_side (not_declared Left i)
    (inl (attributes.side top_rule three (name Left) None (name i) (0, omega arith, refl) (0, omega arith, refl) refl tt refl refl (λ h. cc)))

pub kind_right : HasKind spec Right i Inherited
kind_right = attributes.by_side (not_declared Right i) (inr (Five, source refl, attributes.inh five in_class used))

-- types
not_typed : (s a : ℕ) (ty : ValueType) → ¬ IsTypedBySymbol spec s a ty
not_typed s a ty (inl (d, h, e)) = undeclared s a d h
not_typed s a ty (inr (class, h, (d, k, e))) = undeclared class a d k

int_declared : (a : ℕ) (ty : ValueType) (d : Decl) → Contains spec.attrs d → name_of d.attr ≡ a → d.ty ≡ ty → (a ≡ i) × (ty ≡ type.Int)
int_declared a ty d m e f = every (λ (d : Decl). name_of d.attr ≡ a → d.ty ≡ ty → (a ≡ i) × (ty ≡ type.Int)) spec.attrs ((λ e f. (sym e, sym f)), tt) d m e f

pub int_handed : (s a : ℕ) (ty : ValueType) → a ≡ i → HasType spec s a ty → ty ≡ type.Int
int_handed s a ty e (attributes.by_symbol h) = absurd (not_typed s a ty h)
int_handed s a ty e (attributes.by_attr h (d, m, f, g)) = (int_declared a ty d m f g).1
int_handed s a _ e (HasType.by_default h k) = absurd (k type.Int (declaration i type.Int, (0, omega arith, refl), sym e, refl))

pub one_type : (s a : ℕ) (x y : ValueType) → HasType spec s a x → HasType spec s a y → x ≡ y
one_type s a x y (attributes.by_symbol h) k = absurd (not_typed s a x h)
one_type s a x y (attributes.by_attr h (d, m, f, g)) k = let is : (a ≡ i) × (x ≡ type.Int) = int_declared a x d m f g in is.1 ∙ sym (int_handed s a y is.0 k)
one_type s a _ y (HasType.by_default h k) (attributes.by_symbol m) = absurd (not_typed s a y m)
one_type s a _ y (HasType.by_default h k) (attributes.by_attr m j) = absurd (k y j)
one_type s a _ _ (HasType.by_default h k) (HasType.by_default m j) = refl

pub type_left : HasType spec Left i type.Int
type_left = attributes.by_attr (not_typed Left i) (declaration i type.Int, (0, omega arith, refl), refl, refl)

-- what holds of each node and its rule
pub by_node : (P : ℕ → RuleItem → Type 0) → P 0 top_rule → P 1 left_rule → P 2 right_rule → P 3 left_rule → (m : ℕ) (r : RuleItem) → IsAt spec tree m r → P m r
by_node P a b c d m r (j, at, is) = go m (rw at is)
  where
    go : (m : ℕ) → option_and_then (slice_get spec.rules) (rule_at tree m) ≡ Some r → P m r
    go zero h = subst (P 0) (same_Some _ _ h) a
    go (suc zero) h = subst (P 1) (same_Some _ _ h) b
    go (suc (suc zero)) h = subst (P 2) (same_Some _ _ h) c
    go (suc (suc (suc zero))) h = subst (P 3) (same_Some _ _ h) d
    go (suc (suc (suc (suc m)))) h = cc

pub is_right : (m s : ℕ) → HasSymbol spec tree m s → s ≡ Right → m ≡ 2
is_right m s (r, at, e) f = by_node (λ m r. left_of r ≡ s → m ≡ 2)
    (λ e. absurd (apart Top Right s (sym e) f refl)) (λ e. absurd (apart Left Right s (sym e) f refl)) (λ e. refl) (λ e. absurd (apart Left Right s (sym e) f refl)) m r at e

pub no_class : (m s : ℕ) → HasSymbol spec tree m s → ¬ (s ≡ Five)
no_class m s (r, at, e) f = by_node (λ m r. ¬ (left_of r ≡ s))
    (λ e. apart Top Five s (sym e) f refl) (λ e. apart Left Five s (sym e) f refl) (λ e. apart Right Five s (sym e) f refl) (λ e. apart Left Five s (sym e) f refl) m r at e

-- the class computes the attribute, and at the second place of the root's rule it is in force
pub five_computes : InSymbol spec Five (goals.Inherited i) five
five_computes = (in_class, refl)

pub none_at_the_second : (a : ℕ) → ¬ HasInRule spec top_rule 2 (goals.Inherited a)
none_at_the_second a (c, h) = every (λ (c : Comp). ¬ IsRuleTarget spec top_rule c c.target 2 (goals.Inherited a)) top_rule.body ((λ h. let wrong = h.0 in cc), ((λ h. h), tt)) c h.0 h.1

none_of_its_own : (goal : Goal) → ¬ HasInSymbol spec Right goal
none_of_its_own goal (c, (body, h)) = apart Right Five Right refl (in_body Right c body).0 refl

five_left : IsLeft spec Right (goals.Inherited i) Five
five_left = record {
  inherited = source refl;
  computes = (five, five_computes);
  not_dropped = λ other h k m. apart Five Right other (inherits Right other h).1 (inherits other Five m).0 refl;
}

pub five_in_force : InForce spec top_rule 2 Right (goals.Inherited i) by_symbol five
five_in_force = of_class Five (refl, tt) (none_at_the_second i) (none_of_its_own (goals.Inherited i)) five_left (λ other k. (inherits Right other k.inherited).1) five_computes

pub three_in_force : InForce spec top_rule 1 Left (goals.Inherited i) by_rule three
three_in_force = of_rule (refl, tt) ((0, omega arith, refl), (refl, refl))

pub quotient_in_force : InForce spec right_rule 1 Left (goals.Inherited i) by_rule quotient
quotient_in_force = of_rule (refl, tt) ((0, omega arith, refl), (refl, refl))

-- who computes what: a rule's own computation, or that of the class
of_the_rule : (r : RuleItem) (k s : ℕ) (goal : Goal) (h : Holder) (c : Comp) → InForce spec r k s goal h c → h ≡ by_rule → InRule spec r k goal c
of_the_rule r k s goal _ c (of_rule is a) e = a
of_the_rule r k s goal _ c (of_symbol is none a) e = cc
of_the_rule r k s goal _ c (of_class class is none own left one a) e = cc

of_a_symbol : (r : RuleItem) (k s : ℕ) (goal : Goal) (h : Holder) (c : Comp) → InForce spec r k s goal h c → h ≡ by_symbol → (c ≡ five) × IsSymbolTarget spec c.target goal × ((s ≡ Five) ⊎ (s ≡ Right))
of_a_symbol r k s goal _ c (of_rule is a) e = cc
of_a_symbol r k s goal _ c (of_symbol is none (body, h)) e = let is = in_body s c body in (is.1, h, inl is.0)
of_a_symbol r k s goal _ c (of_class class is none own left one (body, h)) e = ((in_body class c body).1, h, inr (inherits s class left.inherited).0)

pub not_synthesized : (a : ℕ) (c : Comp) (r : RuleItem) → AllByRecursion (λ (c : Comp). ¬ IsRuleTarget spec r c c.target 0 (goals.Synthesized a)) r.body → (h : Holder) → ¬ InForce spec r 0 (left_of r) (goals.Synthesized a) h c
not_synthesized a c r none by_rule force = let own = of_the_rule r 0 (left_of r) (goals.Synthesized a) by_rule c force refl in
    every (λ (c : Comp). ¬ IsRuleTarget spec r c c.target 0 (goals.Synthesized a)) r.body none c own.0 own.1
not_synthesized a c r none by_symbol force = let own = of_a_symbol r 0 (left_of r) (goals.Synthesized a) by_symbol c force refl in
    subst (λ c. ¬ IsSymbolTarget spec c.target (goals.Synthesized a)) (sym own.0) (λ h. h) own.1

abbrev child : ℕ → Option (Item Plain)
child m = Some (Child m)

child_same : (m n : ℕ) → child m ≡ child n → m ≡ n
child_same m n e = cc

module _ (P : ℕ → ℕ → Holder → Comp → Type 0) (first : P 1 0 by_rule three) (second : P 2 2 by_symbol five) (third : P 3 2 by_rule quotient) (m a : ℕ) (c : Comp) where
  at_top : (k : ℕ) → IsChild spec tree 0 k m → InRule spec top_rule k (goals.Inherited a) c → P m 0 by_rule c
  at_top zero child h = cc
  at_top (suc zero) child h = every (λ (c : Comp). IsRuleTarget spec top_rule c c.target 1 (goals.Inherited a) → P m 0 by_rule c) top_rule.body
      ((λ h. subst (λ m. P m 0 by_rule three) (child_same 1 m child) first), ((λ h. absurd h), tt)) c h.0 h.1
  at_top (suc (suc k)) child h = absurd (every (λ (c : Comp). ¬ IsRuleTarget spec top_rule c c.target (suc (suc k)) (goals.Inherited a)) top_rule.body
      ((λ h. let wrong = h.0 in cc), ((λ h. h), tt)) c h.0 h.1)

  at_right : (k : ℕ) → IsChild spec tree 2 k m → InRule spec right_rule k (goals.Inherited a) c → P m 2 by_rule c
  at_right zero child h = cc
  at_right (suc zero) child h = every (λ (c : Comp). IsRuleTarget spec right_rule c c.target 1 (goals.Inherited a) → P m 2 by_rule c) right_rule.body
      ((λ h. subst (λ m. P m 2 by_rule quotient) (child_same 3 m child) third), tt) c h.0 h.1
  at_right (suc (suc k)) child h = cc

  -- what holds of each computation at its node and context
  pub computed : (context : ℕ) (h : Holder) → Computes spec tree m a context h c → P m context h c
  computed _ h (nodes.synthesized (r, at, force)) = absurd (by_node (λ m r. ¬ InForce spec r 0 (left_of r) (goals.Synthesized a) h c)
      (not_synthesized a c top_rule ((λ h. let wrong = h.0 in cc), ((λ h. h), tt)) h)
      (not_synthesized a c left_rule tt h)
      (not_synthesized a c right_rule ((λ h. let wrong = h.0 in cc), tt) h)
      (not_synthesized a c left_rule tt h) m r at force)
  computed _ _ (nodes.inherited_of_rule p k s r child at hs force) =
      by_node (λ p r. IsChild spec tree p k m → InRule spec r k (goals.Inherited a) c → P m p by_rule c)
      (at_top k) (λ child h. absurd (omega (arith, h.0.1))) (at_right k) (λ child h. absurd (omega (arith, h.0.1)))
      p r at child (of_the_rule r k s (goals.Inherited a) by_rule c force refl)
  computed _ _ (nodes.inherited_of_symbol p k s r child at hs force) = go (of_a_symbol r k s (goals.Inherited a) by_symbol c force refl)
    where
      go : (c ≡ five) × IsSymbolTarget spec c.target (goals.Inherited a) × ((s ≡ Five) ⊎ (s ≡ Right)) → P m m by_symbol c
      go (e, h, inl f) = absurd (no_class m s hs f)
      go (e, h, inr f) = subst (λ m. P m m by_symbol c) (sym (is_right m s hs f)) (subst (P 2 2 by_symbol) (sym e) second)

pub computed_at_right : (context : ℕ) (h : Holder) (c : Comp) → Computes spec tree 2 i context h c → (context ≡ 2) × (h ≡ by_symbol) × (c ≡ five)
computed_at_right context h c computes = computed (λ m context h c. m ≡ 2 → (context ≡ 2) × (h ≡ by_symbol) × (c ≡ five)) (λ e. cc) (λ e. (refl, refl, refl)) (λ e. cc) 2 i c context h computes refl

not_true : (b : Bool) → b ≡ false → ¬ IsTrue b
not_true true e h = cc
not_true false e h = cc

-- a source, or an edge into the set
first_step : {sources : ℕ → Bool} {edges : ℕ → ℕ → Bool} {s : ℕ} → Reaches sources edges s → IsTrue (sources s) ⊎ ((c : ℕ) × IsTrue (edges s c))
first_step (source h) = inl h
first_step (edge {c = c} h r) = inr (c, h)

-- the tests of the sets
module _ (sets : Sets spec) where
  pub right_inherits : sets.inherits Right Five ≡ true
  right_inherits = (sets.inherits_exactly Right Five).1 (source refl)

  pub others_inherit_none : (s : ℕ) → ¬ (s ≡ Right) → sets.inherits s Five ≡ false
  others_inherit_none s e = false_from (sets.inherits s Five) (λ h. e (inherits s Five ((sets.inherits_exactly s Five).0 h)).0)

  pub reaches_right : sets.reaches fives Right ≡ true
  reaches_right = (sets.reaches_exactly fives Right).1 (source (rw right_inherits refl))

  no_source : is_source spec sets.inherits fives Left ≡ false
  no_source = simp (others_inherit_none Left (λ e. cc)) refl

  no_edge : (c : ℕ) → (not (is_shield spec sets.inherits fives Left) && has_child spec Left c) ≡ false
  no_edge c = simp (others_inherit_none Left (λ e. cc)) refl

  pub reaches_no_left : sets.reaches fives Left ≡ false
  reaches_no_left = false_from (sets.reaches fives Left) (λ h. never (first_step ((sets.reaches_exactly fives Left).0 h)))
    where
      never : ¬ (IsTrue (is_source spec sets.inherits fives Left) ⊎ ((c : ℕ) × IsTrue (not (is_shield spec sets.inherits fives Left) && has_child spec Left c)))
      never (inl h) = not_true (is_source spec sets.inherits fives Left) no_source h
      never (inr (c, h)) = not_true (not (is_shield spec sets.inherits fives Left) && has_child spec Left c) (no_edge c) h
