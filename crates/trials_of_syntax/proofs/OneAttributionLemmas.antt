-- The specification with one attribution, attribute by attribute and node by node.
use Rattle.std.specs.Prelude.{Contains, IsTrue, slice_get, option_and_then}
use Rattle.std.specs.List.{AllByRecursion}
use Rattle.std.proofs.Common.{◌≡◌, ℕ, zero, suc, ◌⊎◌, inl, inr, [], ◌∷◌, Some, refl, arith, subst, sym, ◌∙◌}
use Rattle.lido_base.specs.declared.value.ValueType.{ValueType}
use Rattle.lido_base.specs.declared.value.ValueType.TheVariants as type
use Rattle.lido_base.specs.Tree.{rule_at, contains}
use Rattle.lido_syntax.specs.declared.spec.Comp.{Comp}
use Rattle.lido_syntax.specs.declared.spec.Decl.{Decl}
use Rattle.lido_syntax.specs.declared.spec.Place.TheVariants as place
use Rattle.lido_syntax.specs.declared.spec.RuleItem.{RuleItem}
use Rattle.lido_syntax.specs.declared.spec.SymbolItem.{SymbolItem}
use Rattle.lido_syntax.specs.Production.{name_of, left_of}
use Rattle.lido_syntax.specs.Sets.{names_of, Inherits}
use Rattle.lido_syntax.specs.Attributes.{Use, uses, reads, InBody, IsNamed, IsDeclared, Has, HasType, IsTypedBySymbol, IsTypedByAttr}
use Rattle.lido_syntax.specs.Attributes as attributes
use Rattle.lido_syntax.specs.Computation.{Goal, Holder, by_rule, InForce, of_rule, of_symbol, of_class, InRule, IsRuleTarget}
use Rattle.lido_syntax.specs.Nodes.{IsAt, InForceAt}
use Rattle.lido_syntax.proofs.ExpressionLemmas.{reads-Call}
use Rattle.trials_of_syntax.specs.OneAttribution.{spec, tree, top_rule, x_rule, x_item, i_decl, v_decl, next, X, c, v, i, w}
use Rattle.trials_of_syntax.proofs.Classes.{inherits_within}
use Rattle.trials_of_syntax.proofs.Members.{every, same_Some, one_of}
use Rattle.trials_of_syntax.proofs.RulesOnly.{EachUse, OfNamed}

pub no_inherits : (s class : ℕ) → ¬ Inherits spec s class
no_inherits = inherits_within spec (λ s class. ⊥) ((λ s class a b. cc), tt) (λ s class above a b. a)

pub no_body : (s : ℕ) (comp : Comp) → ¬ InBody spec s comp
no_body s comp (item, m, named, k) = every (λ (item : SymbolItem). ¬ Contains item.body comp) spec.symbols ((λ h. omega (arith, h.1)), tt) item m k

pub only_rules : (r : RuleItem) (k s : ℕ) (goal : Goal) (h : Holder) (comp : Comp) → InForce spec r k s goal h comp → (h ≡ by_rule) × InRule spec r k goal comp
only_rules r k s goal h comp (of_rule is a) = (refl, a)
only_rules r k s goal h comp (of_symbol is none a) = absurd (no_body s comp a.0)
only_rules r k s goal h comp (of_class class is none own left one a) = absurd (no_body class comp a.0)

pub by_node : (P : ℕ → RuleItem → Type 0) → P 0 top_rule → P 1 x_rule → P 2 x_rule → (m : ℕ) (r : RuleItem) → IsAt spec tree m r → P m r
by_node P a b d m r (j, at, is) = go m (rw at is)
  where
    go : (m : ℕ) → option_and_then (slice_get spec.rules) (rule_at tree m) ≡ Some r → P m r
    go zero e = subst (P 0) (same_Some _ _ e) a
    go (suc zero) e = subst (P 1) (same_Some _ _ e) b
    go (suc (suc zero)) e = subst (P 2) (same_Some _ _ e) d
    go (suc (suc (suc m))) e = cc

-- attributes
abbrev pub IsAttr : ℕ → Type 0
IsAttr a = (a ≡ v) ⊎ ((a ≡ i) ⊎ (a ≡ w))

abbrev pub IsAny : ℕ → Type 0
IsAny a = IsAttr a ⊎ (a ≡ c)

abbrev Names : ℕ → ℕ → Type 0
Names s a = (s ≡ X) × IsAny a

next_uses : EachUse Names next
next_uses = ((refl, inr refl), simp (reads-Call) ((refl, inr refl), tt))

rule_uses : (r : RuleItem) → Contains spec.rules r → (comp : Comp) → Contains r.body comp → EachUse Names comp
rule_uses r m comp k = every (EachUse Names) r.body (every (λ (r : RuleItem). AllByRecursion (EachUse Names) r.body) spec.rules (
  (tt, (((refl, inl (inr (inl refl))), tt), (((refl, inl (inr (inl refl))), ((refl, inl (inl refl)), tt)), tt))),
  ((((refl, inl (inl refl)), ((refl, inr refl), tt)), (((refl, inl (inr (inr refl))), ((refl, inl (inl refl)), tt)), (next_uses, tt))), tt),
) r m) comp k

pub declares : (s a : ℕ) (d : Decl) → IsDeclared spec s a d → (s ≡ X) × ((a ≡ i) × (d ≡ i_decl))
declares s a d (item, m, n, k, e) = every (λ (item : SymbolItem). IsTrue (contains s (names_of item)) → Contains item.decls d → (s ≡ X) × ((a ≡ i) × (d ≡ i_decl))) spec.symbols
    ((λ n k. let same : d ≡ i_decl = every (λ d. d ≡ i_decl) (i_decl ∷ []) (refl, tt) d k in (one_of s X n, (sym e ∙ (λ j. name_of (same j).attr), same))), tt) item m n k

named : (s a : ℕ) → IsNamed spec s a → (s ≡ X) × IsAttr a
named s a (attributes.declared d h) = let is = declares s a d h in (is.0, inr (inl is.1.0))
named s a (attributes.in_body comp p body u own) = absurd (no_body s comp body)
named s a (attributes.by_name comp x j (inr (other, body)) u e) = absurd (no_body other comp body)
named s a (attributes.by_name comp x j (inl (r, mr, mc)) (b, mu, f, g) e) =
    let here : Names (name_of x) (name_of b) = every (OfNamed Names) (uses comp) (rule_uses r mr comp mc) (place.Named x j, b) mu in
    (sym e ∙ here.0, no_chain (subst IsAny f here.1))
  where
    no_chain : IsAny a → IsAttr a
    no_chain (inl h) = h
    no_chain (inr h) = absurd (g (rw h refl))

pub only_attrs : (s a : ℕ) → Has spec s a → (s ≡ X) × IsAttr a
only_attrs s a (inl h) = named s a h
only_attrs s a (inr (class, h, k)) = absurd (no_inherits s class h)

-- types
typed_by_symbol : (s a : ℕ) (ty : ValueType) → IsTypedBySymbol spec s a ty → (a ≡ i) × (ty ≡ type.Int)
typed_by_symbol s a ty (inl (d, h, e)) = let is = declares s a d h in (is.1.0, sym e ∙ (λ j. (is.1.1 j).ty))
typed_by_symbol s a ty (inr (class, h, k)) = absurd (no_inherits s class h)

typed_by_attr : (a : ℕ) (ty : ValueType) → IsTypedByAttr spec a ty → (a ≡ v) × (ty ≡ type.Int)
typed_by_attr a ty (d, m, e, f) = every (λ (d : Decl). name_of d.attr ≡ a → d.ty ≡ ty → (a ≡ v) × (ty ≡ type.Int)) spec.attrs ((λ e f. (sym e, sym f)), tt) d m e f

x_declares : IsDeclared spec X i i_decl
x_declares = (x_item, (0, omega arith, refl), refl, (0, omega arith, refl), refl)

pub type_v : HasType spec X v type.Int
type_v = attributes.by_attr (λ other h. let wrong = (typed_by_symbol X v other h).0 in omega (arith, wrong)) (v_decl, (0, omega arith, refl), refl, refl)

pub type_i : HasType spec X i type.Int
type_i = attributes.by_symbol (inl (i_decl, x_declares, refl))

pub type_w : HasType spec X w type.Void
type_w = HasType.by_default (λ other h. let wrong = (typed_by_symbol X w other h).0 in omega (arith, wrong)) (λ other h. let wrong = (typed_by_attr w other h).0 in omega (arith, wrong))

pub is_int : (a : ℕ) (ty : ValueType) → (a ≡ v) ⊎ (a ≡ i) → HasType spec X a ty → ty ≡ type.Int
is_int a ty e (attributes.by_symbol h) = (typed_by_symbol X a ty h).1
is_int a ty e (attributes.by_attr h k) = (typed_by_attr a ty k).1
is_int a _ (inl e) (HasType.by_default h k) = absurd (k type.Int (v_decl, (0, omega arith, refl), sym e, refl))
is_int a _ (inr e) (HasType.by_default h k) = absurd (h type.Int (subst (λ a. IsTypedBySymbol spec X a type.Int) (sym e) (inl (i_decl, x_declares, refl))))

pub is_void : (a : ℕ) (ty : ValueType) → a ≡ w → HasType spec X a ty → ty ≡ type.Void
is_void a ty e (attributes.by_symbol h) = let wrong = (typed_by_symbol X a ty h).0 in absurd (omega (arith, wrong, e))
is_void a ty e (attributes.by_attr h k) = let wrong = (typed_by_attr a ty k).0 in absurd (omega (arith, wrong, e))
is_void a _ e (HasType.by_default h k) = refl

-- computations in force on left sides
abbrev pub Holds : (ℕ → Comp → Type 0) → Goal → ℕ → RuleItem → Type 0
Holds P goal m r = AllByRecursion (λ (comp : Comp). IsRuleTarget spec r comp comp.target 0 goal → P m comp) r.body

pub in_force : (goal : Goal) (P : ℕ → Comp → Type 0) → Holds P goal 0 top_rule → Holds P goal 1 x_rule → Holds P goal 2 x_rule → (m : ℕ) (h : Holder) (comp : Comp) → InForceAt spec tree m goal h comp → (h ≡ by_rule) × P m comp
in_force goal P a b d m h comp (r, at, force) =
    let parts : (h ≡ by_rule) × InRule spec r 0 goal comp = only_rules r 0 (left_of r) goal h comp force in
    (parts.0, every (λ (comp : Comp). IsRuleTarget spec r comp comp.target 0 goal → P m comp) r.body (by_node (Holds P goal) a b d m r at) comp parts.1.0 parts.1.1)
