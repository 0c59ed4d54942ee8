-- The flat tree of a job has exactly one attribution: its equations can be put in the whole order.
use Rattle.std.specs.Prelude.{Contains, slice_get, option_and_then, option_map, ◌↔◌, unwrap_or, AllPairs}
use Rattle.std.proofs.Common.{◌≡◌, ℕ, zero, suc, ◌<◌, ◌⊎◌, inl, inr, List, [], ◌∷◌, ◌++◌, Option, Some, None, refl, ap, sym, subst, ◌∙◌, append_assoc, append-nil, get_or}
use Rattle.std.proofs.lemmas.Option.{slice_get-map}
use Rattle.std.proofs.lemmas.Bool.{cases_order}
use Rattle.std.proofs.lemmas.List.{get_or_default}
use Rattle.std.proofs.lemmas.List.Elements.{Contains-append_left, Contains-append_right, Contains-push, Contains-push_cases}
use Rattle.lido_base.specs.declared.value.Value.{Value}
use Rattle.lido_base.specs.Environment.{Environment}
use Rattle.lido_base.specs.Plain.{Plain, Void, plain_item, plain_tree}
use Rattle.lido_base.specs.Operations.{operate, unless_bad, chosen, last}
use Rattle.lido_base.specs.Equations.{IsOrdered, IsSolution, HasOneSolution, value_in}
use Rattle.lido_base.specs.Tree.{Tree, Item, Child, Leaf, child_number, items_of}
use Rattle.lido_base.proofs.EquationsLemmas.{one_solution}
use Rattle.lido_base.proofs.Lists.{map-contains}
use Rattle.flat_grammar.specs.declared.flat.Occ.{Occ}
use Rattle.flat_grammar.specs.declared.flat.FlatRule.{FlatRule}
use Rattle.flat_grammar.specs.declared.flat.FlatComp.{FlatComp}
use Rattle.flat_grammar.specs.declared.flat.FlatExpr.{FlatExpr, Value as Constant, Terminal, Read, Coord, Apply', If', Order', Row_of-FlatExpr, end_of-FlatExpr, more_of-FlatExpr}
use Rattle.flat_grammar.specs.Rules.{reads, reads_of_all, HasRule}
use Rattle.flat_grammar.specs.WellFormed.{attribute_of}
use Rattle.flat_grammar.specs.FlatAttribution.{value_of, values_of, fails, as_typed, IsFlatAttribution}
use Rattle.flat_grammar.specs.WholeOrder.{Instance, node_at, child_at}
use Rattle.flat_grammar.proofs.Lists.{contains-cons, contains-first, contains-later}
use Rattle.flat_grammar.specs.Instances.{IsInstance, instance_at}
use Rattle.core_machine.specs.Instances.{IsSite, DependsOn, IsInOrder}
use Rattle.core_machine.specs.Core.{Task, environment, IsTask, Computation, same_instance, computation_of, instances_in_order}
use Rattle.flat_grammar.proofs.GrownLemmas.{one-rule}
use Rattle.core_machine.proofs.Sites.{one-site, is-rule, site-instance}
use Rattle.lido_base.proofs.PlainLemmas.{plain_rule, plain_items}
use Rattle.core_machine.proofs.Tasks.{computed, computes, site-of, same-is, is-same}
use Rattle.core_machine.proofs.Jobs.{grown, in-order}

number-plain : (texts : List (List ℕ)) (o : Option (Item Value)) → option_and_then child_number (option_map (plain_item texts) o) ≡ option_and_then child_number o
number-plain texts None = refl
number-plain texts (Some (Child c)) = refl
number-plain texts (Some (Leaf v)) = refl

child-plain : (texts : List (List ℕ)) (t : Tree Value) (n k : ℕ) → child_at (plain_tree texts t) n k ≡ child_at t n k
child-plain texts t n zero = refl
child-plain texts t n (suc k) = ap (λ is. option_and_then child_number (slice_get is k)) (plain_items texts t n) ∙ (ap (λ o. option_and_then child_number o) (slice_get-map (plain_item texts) (items_of t n) k) ∙ number-plain texts (slice_get (items_of t n) k))

pub node-plain : (texts : List (List ℕ)) (t : Tree Value) (n k : ℕ) → node_at (plain_tree texts t) n k ≡ node_at t n k
node-plain texts t n k = ap (λ o. unwrap_or o n) (child-plain texts t n k)

-- an expression's plain value asks at its reads alone
module _ (env : Environment) (t : Tree Plain) (node_of : List ℕ) (f g : Instance → Plain) (origin n : ℕ) where
  abbrev Agrees : List Occ → Type 0
  Agrees os = (o : Occ) → Contains os o → f (instance_at t n o) ≡ g (instance_at t n o)

  mutual
    pub value-same : (e : FlatExpr) → Agrees (reads e) → value_of env t node_of f origin n e ≡ value_of env t node_of g origin n e
    value-same (Constant v) a = refl
    value-same (Terminal k) a = refl
    value-same (Read o) a = a o (contains-first o [])
    value-same (Coord part) a = refl
    value-same (Apply' comp op shape args) a = ap (λ (vs : List Plain). operate env.texts env.patterns (fails env t node_of f origin n comp) op vs) (values-same args a)
    value-same (If' shape args) a = ap chosen (values-same args a)
    value-same (Order' shape args) a = ap (λ (vs : List Plain). unless_bad vs (last vs)) (values-same args a)

    values-same : {m : _} (es : Row_of-FlatExpr m) → Agrees (reads_of_all es) → values_of env t node_of f origin n es ≡ values_of env t node_of g origin n es
    values-same end_of-FlatExpr a = refl
    values-same (more_of-FlatExpr e es) a =
        let first = value-same e (λ o m. a o (Contains-append_left (reads e) (reads_of_all es) o m)) in
        let rest = values-same es (λ o m. a o (Contains-append_right (reads e) (reads_of_all es) o m)) in λ i. first i ∷ rest i

-- of computations with different goals, two with one goal are one
pub one-comp : (comps : List FlatComp) (c d : FlatComp) → AllPairs (λ (x y : FlatComp). x.goal ≡ y.goal → ⊥) comps → Contains comps c → Contains comps d → c.goal ≡ d.goal → c ≡ d
one-comp comps c d apart (p, h, e) (q, l, f) same = go (cases_order p q)
  where
    there : get_or comps q c ≡ d
    there = get_or_default comps q c d l ∙ f

    here : get_or comps p d ≡ c
    here = get_or_default comps p d c h ∙ e

    go : (p ≡ q) ⊎ ((p < q) ⊎ (q < p)) → c ≡ d
    go (inl x) = sym e ∙ (ap (λ k. get_or comps k c) x ∙ there)
    go (inr (inl x)) = absurd (apart p q c x l (ap (λ (z : FlatComp). z.goal) e ∙ (same ∙ ap (λ (z : FlatComp). z.goal) (sym there))))
    go (inr (inr x)) = absurd (apart q p d x h (ap (λ (z : FlatComp). z.goal) f ∙ (sym same ∙ ap (λ (z : FlatComp). z.goal) (sym here))))

module _ (j : Task) (task : IsTask j) where
  abbrev T : Tree Plain
  T = plain_tree j.texts j.flat

  pub order : IsInOrder j.symbols j.rules j.flat (instances_in_order j)
  order = in-order j task

  -- the plain value of a computation, by those of other instances
  abbrev pub meant : (Instance → Plain) → Option Computation → Plain
  meant f None = Void
  meant f (Some c) = as_typed (attribute_of j.symbols c.1 c.2.goal) (value_of (environment j) (plain_tree j.texts j.flat) j.node_of f (node_at (plain_tree j.texts j.flat) c.0 c.2.origin) c.0 c.2.value)

  -- the equation of an instance
  abbrev pub step : (Instance → Plain) → Instance → Plain
  step f i = meant f (computation_of j i)

  -- the equation asks at what stands before
  asks-before : (front back : List Instance) (i : Instance) → instances_in_order j ≡ front ++ i ∷ back → (f g : Instance → Plain) → ((d : Instance) → Contains front d → f d ≡ g d) → step f i ≡ step g i
  asks-before front back i whole f g agree = go (computation_of j i) refl
    where
      go : (x : Option Computation) → computation_of j i ≡ x → meant f x ≡ meant g x
      go None e = refl
      go (Some k) e = ap (as_typed (attribute_of j.symbols k.1 k.2.goal))
          (value-same (environment j) (plain_tree j.texts j.flat) j.node_of f g (node_at (plain_tree j.texts j.flat) k.0 k.2.origin) k.0 k.2.value at)
        where
          at : (o : Occ) → Contains (reads k.2.value) o → f (node_at (plain_tree j.texts j.flat) k.0 o.occ, o.attr.0) ≡ g (node_at (plain_tree j.texts j.flat) k.0 o.occ, o.attr.0)
          at o m =
              let c = computed j task (grown j task) order i k e in
              let d : DependsOn j.symbols j.rules j.flat i (instance_at j.flat k.0 o) = record { node = k.0; rule = k.1; at = c.at; comp = k.2; computes = c.comp; gives = c.gives; on = o; depends = Contains-append_left (reads k.2.value) k.2.after o m; is = refl } in
              let same = agree (instance_at j.flat k.0 o) (order.behind front back i (instance_at j.flat k.0 o) whole d) in
              subst (λ z. f (z, o.attr.0) ≡ g (z, o.attr.0)) (sym (node-plain j.texts j.flat k.0 o.occ)) same

  pub record Ordered (list : List Instance) : Type 0 where
    pub unknowns : List Instance
    pub ordered : IsOrdered Void step unknowns
    pub same : (i : Instance) → Contains unknowns i ↔ Contains list i

  -- the instances, the last first
  order-all : (back front earlier : List Instance) → instances_in_order j ≡ front ++ back → ((i : Instance) → Contains earlier i ↔ Contains front i) → IsOrdered Void step earlier → Ordered (front ++ back)
  order-all [] front earlier whole same o = record { unknowns = earlier; ordered = o; same = λ i. subst (λ l. Contains earlier i ↔ Contains l i) (sym (append-nil front)) (same i) }
  order-all (x ∷ back) front earlier whole same o =
      subst Ordered (append_assoc front (x ∷ []) back)
      (order-all back (front ++ x ∷ []) (x ∷ earlier) (whole ∙ sym (append_assoc front (x ∷ []) back))
      (λ i. (
        λ m. elim (contains-cons x i earlier m) [
          | inl e ↦ subst (λ z. Contains (front ++ x ∷ []) z) e (Contains-push front x)
          | inr n ↦ Contains-append_left front (x ∷ []) i ((same i).0 n)
        ],
        λ m. elim (Contains-push_cases front x i m) [
          | inl n ↦ contains-later x i earlier ((same i).1 n)
          | inr e ↦ subst (λ z. Contains (x ∷ earlier) z) e (contains-first x earlier)
        ],
      ))
      (λ m. order.once front back x whole ((same x).0 m), λ f g agree. asks-before front back x whole f g (λ d m. agree d ((same d).1 m)), o))

  pub all : Ordered (instances_in_order j)
  all = order-all (instances_in_order j) [] [] refl (λ i. (λ m. m, λ m. m)) tt

  abbrev pub one : HasOneSolution Void step all.unknowns
  one = one_solution Void step same_instance (λ a b h. same-is j a b h) (λ a. is-same j a a refl) all.unknowns all.ordered

  pub among : (i : Instance) → Contains all.unknowns i ↔ IsInstance j.symbols j.rules j.flat i
  among i = (λ m. (order.instances i).0 ((all.same i).0 m), λ h. (all.same i).1 ((order.instances i).1 h))

  to-plain : (n : ℕ) (r : FlatRule) → HasRule j.rules j.flat n r → HasRule j.rules (plain_tree j.texts j.flat) n r
  to-plain n r (i, e, f) = (i, plain_rule j.texts j.flat n ∙ e, f)

  from-plain : (n : ℕ) (r : FlatRule) → HasRule j.rules (plain_tree j.texts j.flat) n r → HasRule j.rules j.flat n r
  from-plain n r (i, e, f) = (i, sym (plain_rule j.texts j.flat n) ∙ e, f)

  abbrev Attribution : (Instance → Option Plain) → Type 0
  Attribution B = IsFlatAttribution j.symbols j.rules (environment j) (plain_tree j.texts j.flat) j.node_of B

  -- a solution of the equations is an attribution
  pub solves : (b : Instance → Option Plain) → IsSolution Void step all.unknowns b → Attribution b
  solves b s = record {
    domain = λ i. (
      λ h. let x = (among i).0 ((s.domain i).0 h) in (x.0, to-plain i.0 x.0 x.1, x.2),
      λ h. (s.domain i).1 ((among i).1 (h.0, from-plain i.0 h.0 h.1, h.2)),
    );
    values = values;
  }
    where
      values : (n : ℕ) (r : FlatRule) (c : FlatComp) → HasRule j.rules (plain_tree j.texts j.flat) n r → Contains r.comps c
          → b (node_at (plain_tree j.texts j.flat) n c.goal.occ, c.goal.attr.0) ≡ Some (as_typed (attribute_of j.symbols r c.goal) (value_of (environment j) (plain_tree j.texts j.flat) j.node_of (λ d. unwrap_or (b d) Void) (node_at (plain_tree j.texts j.flat) n c.origin) n c.value))
      values n r c at m =
          let be = from-plain n r at in
          let i : Instance = instance_at j.flat n c.goal in
          let site : IsSite j.symbols j.rules j.flat i n c.goal = record { rule = r; at = be; goal = map-contains (λ (z : FlatComp). z.goal) r.comps c m; gives = refl } in
          let is = site-instance j.symbols j.rules j.shapes j.root j.flat task.formed (grown j task) task.root_bare i n c.goal site in
          let k = computes j task (grown j task) order i is in
          let of = computed j task (grown j task) order i k.0 k.1 in
          let here = one-site j.symbols j.rules j.shapes j.root j.flat task.formed (grown j task) task.root_bare i k.0.0 n k.0.2.goal c.goal (site-of j task (grown j task) order i k.0 of) site in
          let rule : k.0.1 ≡ r = one-rule j.rules j.flat n k.0.1 r (subst (λ z. HasRule j.rules j.flat z k.0.1) here.0 of.at) be in
          let comp : k.0.2 ≡ c = one-comp r.comps k.0.2 c (is-rule j.symbols j.rules j.shapes j.root j.flat task.formed (grown j task) task.root_bare n r be).once (subst (λ (z : FlatRule). Contains z.comps k.0.2) rule of.comp) m here.1 in
          let found : computation_of j i ≡ Some (n, r, c) = k.1 ∙ (λ x. Some (here.0 x, rule x, comp x)) in
          let equation = s.equations i ((among i).1 is) ∙ ap (λ z. Some (meant (value_in Void step b) z)) found in
          ap (λ z. b (z, c.goal.attr.0)) (node-plain j.texts j.flat n c.goal.occ) ∙ equation

  -- an attribution solves the equations
  pub solved-by : (C : Instance → Option Plain) → Attribution C → IsSolution Void step all.unknowns C
  solved-by C a = record {
    domain = λ i. (
      λ h. let x = (a.domain i).0 h in (among i).1 (x.0, from-plain i.0 x.0 x.1, x.2),
      λ m. let x = (among i).0 m in (a.domain i).1 (x.0, to-plain i.0 x.0 x.1, x.2),
    );
    equations = equations;
  }
    where
      equations : (i : Instance) → Contains all.unknowns i → C i ≡ Some (step (value_in Void step C) i)
      equations i m =
          let k = computes j task (grown j task) order i ((among i).0 m) in
          let of = computed j task (grown j task) order i k.0 k.1 in
          let there = a.values k.0.0 k.0.1 k.0.2 (to-plain k.0.0 k.0.1 of.at) of.comp in
          let node : node_at (plain_tree j.texts j.flat) k.0.0 k.0.2.goal.occ ≡ i.0 = node-plain j.texts j.flat k.0.0 k.0.2.goal.occ ∙ ap (λ z. z.0) (sym of.gives) in
          (λ x. C (sym node x, (of.gives x).1)) ∙ (there ∙ ap (λ z. Some (meant (value_in Void step C) z)) (sym k.1))
