-- Specifications without SYMBOL items: nothing inherits, and rules alone compute, name and tell.
use Rattle.std.specs.Prelude.{Bool, true, false, IsTrue, slice_get, option_and_then}
use Rattle.std.specs.List.{AllByRecursion}
use Rattle.std.proofs.Common.{◌≡◌, ℕ, inl, inr, List, [], Some, None, refl, arith, subst}
use Rattle.lido_base.specs.declared.kinds.Kind.{Kind}
use Rattle.lido_base.specs.declared.kinds.Kind.TheVariants.{Synthesized}
use Rattle.lido_base.specs.declared.value.ValueType.{ValueType}
use Rattle.lido_base.specs.Plain.{Plain}
use Rattle.lido_base.specs.Reach.{source, edge}
use Rattle.lido_base.specs.Tree.{Tree, rule_at}
use Rattle.lido_syntax.specs.declared.spec.Cons.{Cons}
use Rattle.lido_syntax.specs.declared.spec.Comp.{Comp}
use Rattle.lido_syntax.specs.declared.spec.Decl.{Decl}
use Rattle.lido_syntax.specs.declared.spec.Typed1.{Typed1}
use Rattle.lido_syntax.specs.declared.spec.RuleItem.{RuleItem}
use Rattle.lido_syntax.specs.declared.spec.Place.{Place}
use Rattle.lido_syntax.specs.declared.spec.Place.TheVariants as place
use Rattle.lido_syntax.specs.declared.spec.Target.{Target}
use Rattle.lido_syntax.specs.declared.spec.Target.TheVariants as target
use Rattle.lido_syntax.specs.Production.{name_of}
use Rattle.lido_syntax.specs.Attributes.{Use, uses, possible, IsOnSide, InBody, IsNamed, declared, by_name, in_body, Has, IsTypedBySymbol, IsDeclaredKind, Tells, HasKind}
use Rattle.lido_syntax.specs.Attributes as attributes
use Rattle.lido_syntax.specs.Sets.{Sets, Inherits, ReachesSource}
use Rattle.lido_syntax.specs.Computation.{Goal, Holder, by_rule, InForce, of_rule, of_symbol, of_class, InRule}
use Rattle.lido_syntax.specs.Nodes.{IsAt}
use Rattle.trials_of_syntax.specs.Writing.{of_rules}
use Rattle.trials_of_syntax.proofs.Members.{every}

pub false_from : (b : Bool) → ¬ IsTrue b → b ≡ false
false_from true h = absurd (h refl)
false_from false h = refl

-- what holds of the symbol and the attribute of a use that names a symbol
abbrev of_place : (ℕ → ℕ → Type 0) → ℕ → Place → Type 0
of_place P a (place.Named x i) = P (name_of x) a
of_place P a _ = Unit {0}

abbrev pub OfNamed : (ℕ → ℕ → Type 0) → Use → Type 0
OfNamed P u = of_place P (name_of u.1) u.0

-- each use of the computation names such a symbol and attribute
abbrev pub EachUse : (ℕ → ℕ → Type 0) → Comp → Type 0
EachUse P c = AllByRecursion (OfNamed P) (uses c)

-- the occurrences that a target can mean
abbrev pub side_of : RuleItem → Target → List ℕ
side_of r (target.Attr (place.Named x i) b) = possible r x i
side_of r _ = []

module _ (rules : List RuleItem) (attrs : List Decl) (terms chains : List Typed1) where
  pub none_inherits : (s class : ℕ) → ¬ Inherits (of_rules rules attrs terms chains) s class
  none_inherits s class (source h) = cc
  none_inherits s class (edge h r) = cc

  pub no_body : (s : ℕ) (c : Comp) → ¬ InBody (of_rules rules attrs terms chains) s c
  no_body s c (item, m, named, k) = omega (arith, m.1)

  -- the computation in force is a rule's own
  pub only_rules : (r : RuleItem) (k s : ℕ) (goal : Goal) (h : Holder) (c : Comp) → InForce (of_rules rules attrs terms chains) r k s goal h c → (h ≡ by_rule) × InRule (of_rules rules attrs terms chains) r k goal c
  only_rules r k s goal h c (of_rule is a) = (refl, a)
  only_rules r k s goal h c (of_symbol is none a) = absurd (no_body s c a.0)
  only_rules r k s goal h c (of_class class is none own left one a) = absurd (no_body class c a.0)

  named_within : (P : ℕ → ℕ → Type 0) → AllByRecursion (λ (r : RuleItem). AllByRecursion (EachUse P) r.body) rules → (s a : ℕ) → IsNamed (of_rules rules attrs terms chains) s a → P s a
  named_within P all s a (declared d h) = absurd (omega (arith, h.1.1))
  named_within P all s a (in_body c p body u own) = absurd (no_body s c body)
  named_within P all s a (by_name c x i (inr (other, body)) u e) = absurd (no_body other c body)
  named_within P all s a (by_name c x i (inl (r, mr, mc)) (b, mu, f, g) e) =
      let here : P (name_of x) (name_of b) = every (OfNamed P) (uses c) (every (EachUse P) r.body (every (λ (r : RuleItem). AllByRecursion (EachUse P) r.body) rules all r mr) c mc) (place.Named x i, b) mu in
      subst (λ y. P y a) e (subst (λ y. P (name_of x) y) f here)

  -- a symbol has no other attributes than computations name
  pub has_within : (P : ℕ → ℕ → Type 0) → AllByRecursion (λ (r : RuleItem). AllByRecursion (EachUse P) r.body) rules → (s a : ℕ) → Has (of_rules rules attrs terms chains) s a → P s a
  has_within P all s a (inl h) = named_within P all s a h
  has_within P all s a (inr (class, h, k)) = absurd (none_inherits s class h)

  pub not_typed_by_symbol : (s a : ℕ) (ty : ValueType) → ¬ IsTypedBySymbol (of_rules rules attrs terms chains) s a ty
  not_typed_by_symbol s a ty (inl (d, h, e)) = omega (arith, h.1.1)
  not_typed_by_symbol s a ty (inr (class, h, k)) = none_inherits s class h

  pub not_declared_kind : AllByRecursion (λ (d : Decl). d.kind ≡ None) attrs → (s a : ℕ) (kind : Kind) → ¬ IsDeclaredKind (of_rules rules attrs terms chains) s a kind
  not_declared_kind all s a kind (inl (inl (d, h, e))) = omega (arith, h.1.1)
  not_declared_kind all s a kind (inl (inr (class, h, k))) = none_inherits s class h
  not_declared_kind all s a kind (inr (d, m, e, f)) = let none : d.kind ≡ None = every (λ (d : Decl). d.kind ≡ None) attrs all d m in cc

  -- what the sides of targets tell
  pub tells_within : (P : Kind → Type 0) → AllByRecursion (λ (r : RuleItem). AllByRecursion (λ (c : Comp). (kind : Kind) → IsOnSide kind (side_of r c.target) → P kind) r.body) rules → (s a : ℕ) (kind : Kind) → Tells (of_rules rules attrs terms chains) s a kind → P kind
  tells_within P all s a kind (attributes.side r c x i b mr mc e on f g h) =
      every (λ (c : Comp). (kind : Kind) → IsOnSide kind (side_of r c.target) → P kind) r.body (every (λ (r : RuleItem). AllByRecursion (λ (c : Comp). (kind : Kind) → IsOnSide kind (side_of r c.target) → P kind) r.body) rules all r mr) c mc kind
      (rw e on)
  tells_within P all s a kind (attributes.synt c body u) = absurd (no_body s c body)
  tells_within P all s a kind (attributes.inh c body u) = absurd (no_body s c body)

  pub kind_within : (P : Kind → Type 0) → P Synthesized → AllByRecursion (λ (d : Decl). d.kind ≡ None) attrs
      → AllByRecursion (λ (r : RuleItem). AllByRecursion (λ (c : Comp). (kind : Kind) → IsOnSide kind (side_of r c.target) → P kind) r.body) rules → (s a : ℕ) (kind : Kind) → HasKind (of_rules rules attrs terms chains) s a kind → P kind
  kind_within P default none all s a kind (attributes.by_declaration h) = absurd (not_declared_kind none s a kind h)
  kind_within P default none all s a kind (attributes.by_side h (inl k)) = tells_within P all s a kind k
  kind_within P default none all s a kind (attributes.by_side h (inr (class, k, l))) = absurd (none_inherits s class k)
  kind_within P default none all s a _ (HasKind.by_default h k) = default

  module _ (sets : Sets (of_rules rules attrs terms chains)) where
    pub inherits-false : (s class : ℕ) → sets.inherits s class ≡ false
    inherits-false s class = false_from (sets.inherits s class) (λ h. none_inherits s class ((sets.inherits_exactly s class).0 h))

    pub reaches-true : (k : Cons) (s : ℕ) → ReachesSource (of_rules rules attrs terms chains) sets.inherits k s → sets.reaches k s ≡ true
    reaches-true k s r = (sets.reaches_exactly k s).1 r

    pub reaches-false : (k : Cons) (s : ℕ) → ¬ ReachesSource (of_rules rules attrs terms chains) sets.inherits k s → sets.reaches k s ≡ false
    reaches-false k s none = false_from (sets.reaches k s) (λ h. none ((sets.reaches_exactly k s).0 h))

-- the rule of a node, as an equation
pub rule_of : (rules : List RuleItem) (attrs : List Decl) (terms chains : List Typed1) (t : Tree Plain) (n : ℕ) (r : RuleItem) → IsAt (of_rules rules attrs terms chains) t n r → option_and_then (slice_get rules) (rule_at t n) ≡ Some r
rule_of rules attrs terms chains t n r (i, e, f) = rw e f
