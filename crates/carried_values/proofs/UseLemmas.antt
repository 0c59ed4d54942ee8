-- A CONSTITUENTS has its value where a computation reads it.
use Rattle.std.specs.Prelude.{Contains, IsTrue, unwrap_or, ◌&&◌}
use Rattle.std.specs.List.{list_any}
use Rattle.std.proofs.Common.{◌≡◌, ℕ, zero, suc, Option, Some, None, List, refl, sym, ap, subst, ◌∙◌, eq-eqb}
use Rattle.lido_base.specs.Plain.{Plain, Void}
use Rattle.lido_base.specs.Reach.{source}
use Rattle.lido_base.specs.Tree.{contains}
use Rattle.lido_base.proofs.Lists.{place-contains, flat-contains}
use Rattle.lido_base.proofs.TreeLemmas.{test-contains}
use Rattle.lido_syntax.specs.declared.spec.Cons.{Cons}
use Rattle.lido_syntax.specs.declared.spec.With.{With}
use Rattle.lido_syntax.specs.declared.spec.RuleItem.{RuleItem}
use Rattle.lido_syntax.specs.declared.spec.Place.TheVariants as place
use Rattle.lido_syntax.specs.declared.spec.Target.{Target}
use Rattle.lido_syntax.specs.declared.spec.Target.TheVariants as target
use Rattle.lido_syntax.specs.declared.spec.Expr.{Constituents}
use Rattle.lido_syntax.specs.Parts.{leaves_of}
use Rattle.lido_syntax.specs.Attributes.{InBody}
use Rattle.lido_syntax.specs.Computation.{Goal, Inherited, Holder, by_rule, by_symbol, InForce, of_symbol, of_class, IsGoalAt, IsSymbolTarget}
use Rattle.lido_syntax.specs.Assignment.{Assignment}
use Rattle.lido_syntax.specs.Constituents.{constituents_at}
use Rattle.lido_symbols.specs.Uses.{computations, all_leaves}
use Rattle.kind_clashes.specs.KindClash as clash
use Rattle.flat_grammar.specs.declared.flat.FlatExpr.{FlatExpr}
use Rattle.flat_grammar.specs.FlatAttribution.{value_of}
use Rattle.flat_grammar.specs.FlatTrees.{IsNodeOf}
use Rattle.flat_grammar.specs.WholeOrder.{Instance, node_at}
use Rattle.rule_tables.specs.PlainRules.{PlainRule, symbol_at}
use Rattle.rule_tables.specs.Forced.{Force, context_of}
use Rattle.rule_tables.specs.Needs.{rules, is_constituents, uses_constituents}
use Rattle.rule_tables.specs.Shares.{Term, below_term, void_below, gives}
use Rattle.rule_tables.specs.Shares as share
use Rattle.rule_tables.specs.Slots.{Con}
use Rattle.rule_tables.specs.Copies.{made, constituents}
use Rattle.flat_laws.proofs.Lists.{found-any}
use Rattle.flat_laws.proofs.RuleLemmas.{IsRuled, ruled-at, is-rule}
use Rattle.flat_laws.proofs.FaultLemmas.{no-clash}
use Rattle.flat_laws.proofs.ForcedLemmas.{IsForcedAt, forced-at, goal-at}
use Rattle.flat_laws.proofs.NeedLemmas.{in-force-at, constituents-numbered, one-constituents}
use Rattle.flat_laws.proofs.ReadLemmas.{its-computation}
use Rattle.carried_trees.specs.Flattening.{Flattening, IsFlattening, Trees, AreTrees}
use Rattle.carried_trees.specs.Carry as carry
use Rattle.carried_trees.specs.Holds.{IsRuleAt}
use Rattle.carried_trees.proofs.NodeLemmas.{IsPlain, plain-ruled}
use Rattle.carried_values.proofs.ReachLemmas.{both-hold}
use Rattle.carried_values.proofs.WeightLemmas.{carried-child, node-below}

module _ (f : Flattening) (is : IsFlattening f) (x : Trees) (are : AreTrees f x) (A : Assignment)
    (n : ℕ) (r : RuleItem) (p : PlainRule) (fs : List Force) (at : IsRuleAt f x n r p fs) (c : Force) (m : Contains fs c) (k : Cons) (ml : Contains (leaves_of c.comp) (Constituents k)) where
  o : IsPlain f is x are n p
  o = plain-ruled f is x are n r p fs at

  of : IsRuled f.spec f.env f.tables is.tables at.number p fs
  of = ruled-at f.spec f.env f.tables is.tables at.number p fs at.rule

  its : IsForcedAt f.spec f.early f.tables is.accepted p c
  its = forced-at f.spec f.early f.tables is.accepted p (is-rule f.spec f.env f.tables is.tables at.number p fs of) c ((of.forced c).0 m)

  -- it stands at the left side
  pub constituents-left : context_of c ≡ 0
  constituents-left = by c.holder refl its.force
    where
      no-inh : (s b : ℕ) → InBody f.spec s c.comp → (t : Target) → c.comp.target ≡ t → IsSymbolTarget f.spec t (Inherited b) → ⊥
      no-inh s b body (target.Attr place.Inh d) e same = no-clash f.spec f.early f.tables is.accepted k.at (clash.below_in_inh s c.comp d (Constituents k) body e ml (clash.constituents k refl))
      no-inh s b body _ e same = absurd same

      inherited : (j b : ℕ) → InForce f.spec its.r (suc j) its.s (Inherited b) by_symbol c.comp → ⊥
      inherited j b (of_symbol goal unlike own) = no-inh its.s b own.0 c.comp.target refl own.1
      inherited j b (of_class class goal unlike no_own left only own) = no-inh class b own.0 c.comp.target refl own.1

      at-zero : (j : ℕ) (g : Goal) → IsGoalAt j g → InForce f.spec its.r j its.s g by_symbol c.comp → j ≡ 0
      at-zero zero g h force = refl
      at-zero (suc j) (Inherited b) h force = absurd (inherited j b force)
      at-zero (suc j) _ h force = absurd h

      by : (h : Holder) → c.holder ≡ h → InForce f.spec its.r c.occ its.s c.goal h c.comp → context_of c ≡ 0
      by by_rule e force = ap (λ (h : Holder). elim h as (λ _. ℕ) [ by_rule ↦ 0 | by_symbol ↦ c.occ ]) e
      by by_symbol e force = ap (λ (h : Holder). elim h as (λ _. ℕ) [ by_rule ↦ 0 | by_symbol ↦ c.occ ]) e ∙ at-zero c.occ c.goal (goal-at f.spec its.r c.occ its.s c.goal by_symbol c.comp force) force

  its-computations : Contains (computations f.spec) c.comp
  its-computations = its-computation f.spec f.early f.env f.tables is.tables is.accepted f.needs at.number p fs of c m its

  in-text : Contains (all_leaves f.spec) (Constituents k)
  in-text = flat-contains leaves_of (computations f.spec) c.comp (Constituents k) its-computations ml

  numbered : Contains f.tables.constituents k
  numbered =
      let (l, there, e) = constituents-numbered f.spec f.env f.tables is.tables f.needs k in-text in
      subst (Contains f.tables.constituents) (one-constituents f.spec f.env f.tables is.tables f.needs is.accepted.from_text k l in-text there e) there

  -- what stands below is wanted
  wanted : (y : ℕ) → Contains p.right y → IsTrue (f.needs.wanted k y)
  wanted y my = (f.needs.wanted_exactly k y).1
      (source (found-any (λ (q : PlainRule). contains y q.right && uses_constituents f.spec f.tables k q.left) (rules f.spec f.tables) p (place-contains (rules f.spec f.tables) at.number p of.plain)
      (both-hold (contains y p.right) (uses_constituents f.spec f.tables k p.left) (test-contains y p.right my) used)))
    where
      used : IsTrue (uses_constituents f.spec f.tables k p.left)
      used = in-force-at f.spec f.env f.tables is.tables f.needs (λ fs d. list_any (is_constituents f.spec f.tables k) (leaves_of d.comp)) at.number p fs of c m p.left (ap (symbol_at p) constituents-left)
          (found-any (is_constituents f.spec f.tables k) (leaves_of c.comp) (Constituents k) ml (eq-eqb k.number k.number refl))

  abbrev B : Instance → Plain
  B i = unwrap_or (carry.carry f x A i) Void

  -- its value
  pub constituents-value : (tail : ℕ → FlatExpr) (w : ℕ) → IsNodeOf f.rules f.shapes x.flat x.node_of (node_at x.flat n (context_of c)) w
      → value_of f.env x.flat x.node_of B (node_at x.flat n (context_of c)) n (constituents f.spec f.tables f.needs f.slots f.env r p fs tail c.holder (context_of c) k)
      ≡ constituents_at f.spec f.tables.sets f.env x.written A k w k.with
  constituents-value tail w context =
      ap (λ j. value_of f.env x.flat x.node_of B (node_at x.flat n j) n (made f.spec f.tables f.needs f.slots f.env r p fs tail c.holder (context_of c) (below_term f.spec f.tables f.needs p fs k))) constituents-left
      ∙ by k.with refl
    where
      stands : IsNodeOf f.rules f.shapes x.flat x.node_of n w
      stands = subst (λ j. IsNodeOf f.rules f.shapes x.flat x.node_of (node_at x.flat n j) w) constituents-left context

      abbreviated : Option With → Term
      abbreviated q = elim q as (λ _. Term) [ None ↦ void_below f.spec f.tables f.needs p fs k | Some with ↦ share.below_by f.spec f.tables f.needs p fs p.role k with (gives f.spec f.tables f.needs p fs k) ]

      given_by : Term → Plain
      given_by e = value_of f.env x.flat x.node_of B n n (made f.spec f.tables f.needs f.slots f.env r p fs tail c.holder (context_of c) e)

      by : (q : Option With) → k.with ≡ q → given_by (abbreviated k.with) ≡ constituents_at f.spec f.tables.sets f.env x.written A k w k.with
      by None e = ap (λ q. given_by (abbreviated q)) e ∙ sym (ap (constituents_at f.spec f.tables.sets f.env x.written A k w) e)
      by (Some with) e =
          ap (λ q. given_by (abbreviated q)) e
          ∙ node-below f is x are A k numbered with e B n w p o r fs tail c.holder (context_of c) (ap (λ (q : Option ℕ). unwrap_or q 0) stands.1)
          (λ j y right has. carried-child f is x are A n p o r fs (Con k.number) j y right has) wanted stands
          ∙ sym (ap (constituents_at f.spec f.tables.sets f.env x.written A k w) e)
