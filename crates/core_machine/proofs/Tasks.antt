-- The machine of a job is sound.
use Rattle.std.specs.Prelude.{Contains, slice_get, option_and_then, option_map, find, flat_map, nat_eq, unwrap_or, if◌then◌else◌}
use Rattle.std.specs.List.{list_any}
use Rattle.std.proofs.Common.{◌≡◌, ℕ, zero, suc, ◌⊎◌, inl, inr, List, [], ◌∷◌, ◌++◌, map, Bool, true, false, Option, Some, None, refl, ap, sym, subst, ◌∙◌, eqb-true, eq-eqb}
use Rattle.std.proofs.lemmas.Option.{none-some}
use Rattle.std.proofs.lemmas.Bool.{cases_Bool}
use Rattle.std.proofs.lemmas.List.Elements.{Contains-append_left, Contains-append_right}
use Rattle.lido_base.specs.declared.value.Value.{Value}
use Rattle.lido_base.specs.declared.value.Value.TheVariants as value
use Rattle.lido_base.specs.declared.pattern.Pattern.{Pattern}
use Rattle.lido_base.specs.Tree.{Tree, rule_at, parent_of, place_of, contains, ancestors, IsTree}
use Rattle.lido_base.proofs.TreeLemmas.{both, ancestors-child}
use Rattle.string_librarian.specs.Rooms.{Deposit}
use Rattle.tree_store.specs.Regions.{region, number_found}
use Rattle.lido_base.proofs.Lists.{contains-map, map-contains, contains-flat, flat-contains}
use Rattle.lido_base.proofs.PathLemmas.{with_parent_inside}
use Rattle.flat_grammar.specs.declared.flat.Occ.{Occ}
use Rattle.flat_grammar.specs.declared.flat.FlatRule.{FlatRule}
use Rattle.flat_grammar.specs.declared.flat.FlatComp.{FlatComp}
use Rattle.flat_grammar.specs.declared.flat.FlatExpr.{FlatExpr, Value as Constant, Terminal, Read, Coord, Apply', If', Order', Row_of-FlatExpr, end_of-FlatExpr, more_of-FlatExpr}
use Rattle.flat_grammar.specs.Rules.{dependencies, reads, reads_of_all, HasRule}
use Rattle.flat_grammar.specs.WellFormed.{is_same_occ, is_synthesized, attribute_of}
use Rattle.flat_grammar.specs.SoundPlan.{goals_of}
use Rattle.flat_grammar.specs.WholeOrder.{Instance, node_at, child_at}
use Rattle.flat_grammar.proofs.Lists.{held, contains-nil, contains-cons, contains-first, contains-later}
use Rattle.flat_grammar.specs.Instances.{IsGrown, IsInstance, instance_at}
use Rattle.core_machine.specs.Instances.{IsSite, DependsOn, IsInOrder}
use Rattle.core_machine.specs.Machine.{Item, eval_of, put_of, IsSound}
use Rattle.core_machine.specs.Evaluation.{evaluate, evaluate_all, evaluate_if, evaluate_at, kept_value, decided, in_turn}
use Rattle.value_ops.specs.Results.{result_of}
use Rattle.core_machine.specs.Core.{Task, IsTask, Computation, same_instance, rule_of, computation_at, computation_of, home, needs, outcome, gives, instances_in_order, items_for, machine}
use Rattle.core_machine.proofs.Lists.{head-same, tail-same, split-append, none-split, InFirst, InSecond}
use Rattle.core_machine.proofs.Trees.{child-facts, parent-child}
use Rattle.core_machine.proofs.Sites.{Placed, placed, instance-site, goal-any, are-same}

find-is : {A : Type 0} (p : A → Bool) (xs : List A) (x : A) → find p xs ≡ Some x → Contains xs x × (p x ≡ true)
find-is p [] x e = absurd (none-some _ e)
find-is p (y ∷ xs) x e = go (cases_Bool (p y)) (find-is p xs x)
  where
    go : (p y ≡ true) ⊎ (p y ≡ false) → (find p xs ≡ Some x → Contains xs x × (p x ≡ true)) → Contains (y ∷ xs) x × (p x ≡ true)
    go (inl h) later = let f : Some y ≡ Some x = rw h at e in (subst (λ z. Contains (y ∷ xs) z) (held f) (contains-first y xs), subst (λ z. p z ≡ true) (held f) h)
    go (inr h) later = let f : find p xs ≡ Some x = rw h at e in let q = later f in (contains-later y x xs q.0, q.1)

find-some : {A : Type 0} (p : A → Bool) (xs : List A) → list_any p xs ≡ true → (x : A) × (find p xs ≡ Some x)
find-some p [] h = cc
find-some p (y ∷ xs) h = go (cases_Bool (p y)) (find-some p xs)
  where
    go : (p y ≡ true) ⊎ (p y ≡ false) → (list_any p xs ≡ true → (x : _) × (find p xs ≡ Some x)) → (x : _) × (find p (y ∷ xs) ≡ Some x)
    go (inl e) later = (y, rw e refl)
    go (inr e) later = let f : list_any p xs ≡ true = rw e at h in let q = later f in (q.0, rw e q.1)

-- An expression asks at its reads alone.
module _ (texts : List (List ℕ)) (patterns : List Pattern) (number : ℕ) (t : Tree Value) (written origin n : ℕ) (f g : Instance → Value) where
  abbrev Agrees : List Occ → Type 0
  Agrees os = (o : Occ) → Contains os o → f (instance_at t n o) ≡ g (instance_at t n o)

  left-agrees : (xs ys : List Occ) → Agrees (xs ++ ys) → Agrees xs
  left-agrees xs ys a o m = a o (Contains-append_left xs ys o m)

  right-agrees : (xs ys : List Occ) → Agrees (xs ++ ys) → Agrees ys
  right-agrees xs ys a o m = a o (Contains-append_right xs ys o m)

  mutual
    pub evaluate-same : (e : FlatExpr) (ds : List Deposit) → Agrees (reads e) → evaluate texts patterns number t written origin n f e ds ≡ evaluate texts patterns number t written origin n g e ds
    evaluate-same (Constant v) ds a = refl
    evaluate-same (Terminal k) ds a = refl
    evaluate-same (Read o) ds a = ap (λ v. (v, ds)) (a o (contains-first o []))
    evaluate-same (Coord part) ds a = refl
    evaluate-same (Apply' comp op shape args) ds a = ap (λ (z : List Value × List Deposit). result_of texts patterns number written comp op z.0 z.1) (all-same args ds a)
    evaluate-same (If' shape args) ds a = if-same args ds a
    evaluate-same (Order' shape args) ds a = ap in_turn (all-same args ds a)

    all-same : {m : _} (es : Row_of-FlatExpr m) (ds : List Deposit) → Agrees (reads_of_all es) → evaluate_all texts patterns number t written origin n f es ds ≡ evaluate_all texts patterns number t written origin n g es ds
    all-same end_of-FlatExpr ds a = refl
    all-same (more_of-FlatExpr e es) ds a =
        let first = evaluate-same e ds (left-agrees (reads e) (reads_of_all es) a) in
        let x = evaluate texts patterns number t written origin n g e ds in
        let rest = all-same es x.1 (right-agrees (reads e) (reads_of_all es) a) in
        ap (λ (z : Value × List Deposit). let b = evaluate_all texts patterns number t written origin n f es z.1 in (z.0 ∷ b.0, b.1)) first ∙ ap (λ (b : List Value × List Deposit). (x.0 ∷ b.0, b.1)) rest

    if-same : {m : _} (es : Row_of-FlatExpr m) (ds : List Deposit) → Agrees (reads_of_all es) → evaluate_if texts patterns number t written origin n f es ds ≡ evaluate_if texts patterns number t written origin n g es ds
    if-same end_of-FlatExpr ds a = refl
    if-same (more_of-FlatExpr e es) ds a =
        let first = evaluate-same e ds (left-agrees (reads e) (reads_of_all es) a) in
        let x = evaluate texts patterns number t written origin n g e ds in
        ap (decided (λ k room. evaluate_at texts patterns number t written origin n f es k room)) first
        ∙ (λ i. decided (λ k room. at-same es k room (right-agrees (reads e) (reads_of_all es) a) i) x)

    at-same : {m : _} (es : Row_of-FlatExpr m) (k : ℕ) (ds : List Deposit) → Agrees (reads_of_all es) → evaluate_at texts patterns number t written origin n f es k ds ≡ evaluate_at texts patterns number t written origin n g es k ds
    at-same end_of-FlatExpr k ds a = refl
    at-same (more_of-FlatExpr e es) zero ds a = evaluate-same e ds (left-agrees (reads e) (reads_of_all es) a)
    at-same (more_of-FlatExpr e es) (suc k) ds a = at-same es k ds (right-agrees (reads e) (reads_of_all es) a)

-- What a node's region is: its own where it is a split node, else its parent's.
pub region-parent : {V : Type 0} (t : Tree V) → IsTree t → (nodes : List ℕ) (n p : ℕ) → parent_of t n ≡ Some p → contains n nodes ≡ false → region t nodes n ≡ region t nodes p
region-parent t w nodes n p e h =
    let a : ancestors t n ≡ p ∷ ancestors t p = ancestors-child t w n p e in
    ap (λ l. number_found nodes (find (λ m. contains m nodes) (n ∷ l))) a ∙ rw h refl

module _ (j : Task) where
  -- an item of the list and what stands before it
  eval-split : (L : List Instance) (front back : List (Item Instance)) (i : Instance) → flat_map (items_for j) L ≡ front ++ eval_of i ∷ back → (a : List Instance) × (b : List Instance) × (L ≡ a ++ i ∷ b) × (front ≡ flat_map (items_for j) a)
  eval-split [] front back i e = absurd (none-split front back (eval_of i) e)
  eval-split (x ∷ L) front back i e = go (split-append (items_for j x) (flat_map (items_for j) L) front back (eval_of i) e) (eval-split L)
    where
      Result : List Instance → List (Item Instance) → Type 0
      Result M f = (a : List Instance) × (b : List Instance) × (M ≡ a ++ i ∷ b) × (f ≡ flat_map (items_for j) a)

      first : (b : Bool) (f more : List (Item Instance)) → (if b then eval_of x ∷ put_of x ∷ [] else eval_of x ∷ []) ≡ f ++ eval_of i ∷ more → (x ≡ i) × (f ≡ [])
      first true [] more h = (ap (λ (z : Item Instance). z.makes) (head-same (eval_of x) (eval_of i) _ _ h), refl)
      first false [] more h = (ap (λ (z : Item Instance). z.makes) (head-same (eval_of x) (eval_of i) _ _ h), refl)
      first true (y ∷ []) more h = let z : true ≡ false = ap (λ (z : Item Instance). z.is_put) (head-same (put_of x) (eval_of i) _ _ (tail-same (eval_of x) y _ _ h)) in absurd (cc)
      first true (y ∷ z ∷ f) more h = absurd (none-split f more (eval_of i) (tail-same (put_of x) z _ _ (tail-same (eval_of x) y _ _ h)))
      first false (y ∷ f) more h = absurd (none-split f more (eval_of i) (tail-same (eval_of x) y _ _ h))

      go : InFirst (items_for j x) front (eval_of i) ⊎ InSecond (items_for j x) (flat_map (items_for j) L) front (eval_of i) back
          → ((f b : List (Item Instance)) (k : Instance) → flat_map (items_for j) L ≡ f ++ eval_of k ∷ b → (a : List Instance) × (c : List Instance) × (L ≡ a ++ k ∷ c) × (f ≡ flat_map (items_for j) a)) → Result (x ∷ L) front
      go (inl (more, p)) later = let q = first (contains x.0 j.nodes) front more p in ([], L, ap (λ z. z ∷ L) q.0, q.1)
      go (inr (rest, p, q)) later = let r = later rest back i q in (x ∷ r.0, r.1, ap (λ l. x ∷ l) r.2, p ∙ ap (λ l. items_for j x ++ l) r.3)

  put-split : (L : List Instance) (front back : List (Item Instance)) (i : Instance) → flat_map (items_for j) L ≡ front ++ put_of i ∷ back → Contains front (eval_of i)
  put-split [] front back i e = absurd (none-split front back (put_of i) e)
  put-split (x ∷ L) front back i e = go (split-append (items_for j x) (flat_map (items_for j) L) front back (put_of i) e) (put-split L)
    where
      first : (b : Bool) (f more : List (Item Instance)) → (if b then eval_of x ∷ put_of x ∷ [] else eval_of x ∷ []) ≡ f ++ put_of i ∷ more → Contains f (eval_of i)
      first true [] more h = let z : false ≡ true = ap (λ (z : Item Instance). z.is_put) (head-same (eval_of x) (put_of i) _ _ h) in absurd (cc)
      first false [] more h = let z : false ≡ true = ap (λ (z : Item Instance). z.is_put) (head-same (eval_of x) (put_of i) _ _ h) in absurd (cc)
      first true (y ∷ []) more h =
          let a : x ≡ i = ap (λ (z : Item Instance). z.makes) (head-same (put_of x) (put_of i) _ _ (tail-same (eval_of x) y _ _ h)) in
          let b : y ≡ eval_of i = sym (head-same (eval_of x) y _ _ h) ∙ ap eval_of a in
          subst (λ z. Contains (y ∷ []) z) b (contains-first y [])
      first true (y ∷ z ∷ f) more h = absurd (none-split f more (put_of i) (tail-same (put_of x) z _ _ (tail-same (eval_of x) y _ _ h)))
      first false (y ∷ f) more h = absurd (none-split f more (put_of i) (tail-same (eval_of x) y _ _ h))

      go : InFirst (items_for j x) front (put_of i) ⊎ InSecond (items_for j x) (flat_map (items_for j) L) front (put_of i) back
          → ((f b : List (Item Instance)) (k : Instance) → flat_map (items_for j) L ≡ f ++ put_of k ∷ b → Contains f (eval_of k)) → Contains front (eval_of i)
      go (inl (more, p)) later = first (contains x.0 j.nodes) front more p
      go (inr (rest, p, q)) later = subst (λ l. Contains l (eval_of i)) (sym p) (Contains-append_right (items_for j x) rest (eval_of i) (later rest back i q))

  pub eval-among : (L : List Instance) (i : Instance) → Contains L i → Contains (flat_map (items_for j) L) (eval_of i)
  eval-among L i m = flat-contains (items_for j) L i (eval_of i) m (here (contains i.0 j.nodes))
    where
      here : (b : Bool) → Contains (if b then eval_of i ∷ put_of i ∷ [] else eval_of i ∷ []) (eval_of i)
      here true = contains-first (eval_of i) (put_of i ∷ [])
      here false = contains-first (eval_of i) []

  put-among : (L : List Instance) (i : Instance) → contains i.0 j.nodes ≡ true → Contains L i → Contains (flat_map (items_for j) L) (put_of i)
  put-among L i h m = flat-contains (items_for j) L i (put_of i) m (subst (λ (b : Bool). Contains (if b then eval_of i ∷ put_of i ∷ [] else eval_of i ∷ []) (put_of i)) (sym h) (contains-later (eval_of i) (put_of i) (put_of i ∷ []) (contains-first (put_of i) [])))

  pub among-eval : (L : List Instance) (i : Instance) → Contains (flat_map (items_for j) L) (eval_of i) → Contains L i
  among-eval L i m = let p = contains-flat (items_for j) L (eval_of i) m in subst (λ z. Contains L z) (makes (contains p.0.0 j.nodes) p.0 p.2) p.1
    where
      makes : (b : Bool) (x : Instance) → Contains (if b then eval_of x ∷ put_of x ∷ [] else eval_of x ∷ []) (eval_of i) → x ≡ i
      makes true x h = elim (contains-cons (eval_of x) (eval_of i) (put_of x ∷ []) h) [
        | inl e ↦ ap (λ (z : Item Instance). z.makes) e
        | inr k ↦ elim (contains-cons (put_of x) (eval_of i) [] k) [ inl e ↦ (let z : true ≡ false = ap (λ (z : Item Instance). z.is_put) e in absurd (cc)) | inr n ↦ absurd (contains-nil (eval_of i) n) ]
      ]
      makes false x h = elim (contains-cons (eval_of x) (eval_of i) [] h) [ inl e ↦ ap (λ (z : Item Instance). z.makes) e | inr n ↦ absurd (contains-nil (eval_of i) n) ]

  -- the two tests of instances
  pub same-is : (a b : Instance) → same_instance a b ≡ true → a ≡ b
  same-is a b h = let p = both (nat_eq a.0 b.0) (nat_eq a.1 b.1) h in let e = eqb-true a.0 b.0 p.0 in let f = eqb-true a.1 b.1 p.1 in λ i. (e i, f i)

  pub is-same : (a b : Instance) → a ≡ b → same_instance a b ≡ true
  is-same a b e = rw (eq-eqb a.0 b.0 (ap (λ z. z.0) e), eq-eqb a.1 b.1 (ap (λ z. z.1) e)) refl

  -- the computation of an instance: its node has the rule, the rule the computation, and that gives the instance
  pub record IsOf (i : Instance) (k : Computation) : Type 0 where
    pub at : HasRule j.rules j.flat k.0 k.1
    pub comp : Contains k.1.comps k.2
    pub gives : i ≡ instance_at j.flat k.0 k.2.goal

  rule-of : (n : ℕ) (r : FlatRule) → rule_of j n ≡ Some r → HasRule j.rules j.flat n r
  rule-of n r e = go (rule_at j.flat n) refl e
    where
      go : (x : Option ℕ) → rule_at j.flat n ≡ x → option_and_then (slice_get j.rules) x ≡ Some r → HasRule j.rules j.flat n r
      go None f h = absurd (none-some _ h)
      go (Some i) f h = (i, f, h)

  pub of-rule : (n : ℕ) (r : FlatRule) → HasRule j.rules j.flat n r → rule_of j n ≡ Some r
  of-rule n r (i, e, f) = ap (λ x. option_and_then (slice_get j.rules) x) e ∙ f

  at-is : (n : ℕ) (o : Occ) (k : Computation) → computation_at j n o ≡ Some k → (k.0 ≡ n) × HasRule j.rules j.flat n k.1 × Contains k.1.comps k.2 × (k.2.goal ≡ o)
  at-is n o k e = go (rule_of j n) refl e
    where
      in-rule : (r : FlatRule) → rule_of j n ≡ Some r → (x : Option FlatComp) → find (λ (c : FlatComp). is_same_occ c.goal o) r.comps ≡ x → option_map (λ (c : FlatComp). (n, r, c)) x ≡ Some k
          → (k.0 ≡ n) × HasRule j.rules j.flat n k.1 × Contains k.1.comps k.2 × (k.2.goal ≡ o)
      in-rule r f None g h = absurd (none-some _ h)
      in-rule r f (Some c) g h =
          let s : (n, r, c) ≡ k = held h in
          let p = find-is (λ (c : FlatComp). is_same_occ c.goal o) r.comps c g in
          subst (λ (z : Computation). (z.0 ≡ n) × HasRule j.rules j.flat n z.1 × Contains z.1.comps z.2 × (z.2.goal ≡ o)) s (refl, rule-of n r f, p.0, are-same c.goal o p.1)

      go : (x : Option FlatRule) → rule_of j n ≡ x → option_and_then (λ (r : FlatRule). option_map (λ (c : FlatComp). (n, r, c)) (find (λ (c : FlatComp). is_same_occ c.goal o) r.comps)) x ≡ Some k
          → (k.0 ≡ n) × HasRule j.rules j.flat n k.1 × Contains k.1.comps k.2 × (k.2.goal ≡ o)
      go None f h = absurd (none-some _ h)
      go (Some r) f h = in-rule r f (find (λ (c : FlatComp). is_same_occ c.goal o) r.comps) refl h

  at-some : (n : ℕ) (r : FlatRule) (o : Occ) → HasRule j.rules j.flat n r → Contains (goals_of r) o → (k : Computation) × (computation_at j n o ≡ Some k)
  at-some n r o at m =
      let p = find-some (λ (c : FlatComp). is_same_occ c.goal o) r.comps (goal-any r.comps o m) in
      ((n, r, p.0), ap (λ x. option_and_then (λ (r : FlatRule). option_map (λ (c : FlatComp). (n, r, c)) (find (λ (c : FlatComp). is_same_occ c.goal o) r.comps)) x) (of-rule n r at) ∙ ap (λ x. option_map (λ (c : FlatComp). (n, r, c)) x) p.1)

  module _ (task : IsTask j) (grown : IsGrown j.symbols j.rules j.flat j.root) (order : IsInOrder j.symbols j.rules j.flat (instances_in_order j)) where
    abbrev Site : Instance → ℕ → Occ → Type 0
    Site i n o = IsSite j.symbols j.rules j.flat i n o

    -- what the function finds is the computation of the instance
    pub computed : (i : Instance) (k : Computation) → computation_of j i ≡ Some k → IsOf i k
    computed i k e = go (computation_at j i.0 own) refl e
      where
        own : Occ
        own = record { occ = 0; attr = record { 0 = i.1 } }

        upper : Occ
        upper = record { occ = place_of j.flat i.0; attr = record { 0 = i.1 } }

        from : (n : ℕ) (o : Occ) → i ≡ instance_at j.flat n o → computation_at j n o ≡ Some k → IsOf i k
        from n o g f =
            let p = at-is n o k f in
            record { at = subst (λ m. HasRule j.rules j.flat m k.1) (sym p.0) p.1; comp = p.2; gives = g ∙ (λ x. instance_at j.flat (sym p.0 x) (sym p.3 x)) }

        up : (x : Option ℕ) → parent_of j.flat i.0 ≡ x → option_and_then (λ p. computation_at j p (record { occ = place_of j.flat i.0; attr = record { 0 = i.1 } })) x ≡ Some k → IsOf i k
        up None f h = absurd (none-some _ h)
        up (Some p) f h =
            let c = parent-child j.flat grown.tree i.0 p (with_parent_inside j.flat i.0 p f) f in
            let facts = child-facts j.flat grown.tree p (suc c.0) i.0 c.1 in
            let node : node_at j.flat p (place_of j.flat i.0) ≡ i.0 = ap (λ z. node_at j.flat p z) facts.placed ∙ ap (λ z. unwrap_or z p) c.1 in
            from p (record { occ = place_of j.flat i.0; attr = record { 0 = i.1 } }) (λ x. (sym node x, i.1)) h

        go : (x : Option Computation) → computation_at j i.0 (record { occ = 0; attr = record { 0 = i.1 } }) ≡ x → elim x [ Some c ↦ Some c | None ↦ option_and_then (λ p. computation_at j p (record { occ = place_of j.flat i.0; attr = record { 0 = i.1 } })) (parent_of j.flat i.0) ] ≡ Some k → IsOf i k
        go (Some c) f h = from i.0 (record { occ = 0; attr = record { 0 = i.1 } }) refl (f ∙ h)
        go None f h = up (parent_of j.flat i.0) refl h

    -- and it finds one
    pub computes : (i : Instance) → IsInstance j.symbols j.rules j.flat i → (k : Computation) × (computation_of j i ≡ Some k)
    computes i h = let s = instance-site j.symbols j.rules j.shapes j.root j.flat task.formed grown task.root_bare i h in found s.0 s.1 s.2
      where
        found : (n : ℕ) (o : Occ) → Site i n o → (k : Computation) × (computation_of j i ≡ Some k)
        found n o s = how (placed j.symbols j.rules j.shapes j.root j.flat task.formed grown task.root_bare i n o s)
          where
            number : i.1 ≡ o.attr.0
            number = ap (λ z. z.1) s.gives

            either : (x : Option Computation) → computation_at j i.0 (record { occ = 0; attr = record { 0 = i.1 } }) ≡ x
                → (k : Computation) × (option_and_then (λ p. computation_at j p (record { occ = place_of j.flat i.0; attr = record { 0 = i.1 } })) (parent_of j.flat i.0) ≡ Some k)
                → (k : Computation) × (elim x [ Some c ↦ Some c | None ↦ option_and_then (λ p. computation_at j p (record { occ = place_of j.flat i.0; attr = record { 0 = i.1 } })) (parent_of j.flat i.0) ] ≡ Some k)
            either (Some c) e q = (c, refl)
            either None e q = q

            how : Placed j.symbols j.rules j.shapes j.root j.flat task.formed grown task.root_bare i n o → (k : Computation) × (computation_of j i ≡ Some k)
            how p = cases p.how
              where
                cases : ((is_synthesized p.attr.kind ≡ true) × (o.occ ≡ 0) × (i.0 ≡ n)) ⊎ ((is_synthesized p.attr.kind ≡ false) × ((c : ℕ) × (o.occ ≡ suc c) × (child_at j.flat n (suc c) ≡ Some i.0))) → (k : Computation) × (computation_of j i ≡ Some k)
                cases (inl (a, z, e)) =
                    let is : o ≡ record { occ = 0; attr = record { 0 = i.1 } } = λ x. record { occ = z x; attr = record { 0 = sym number x } } in
                    let q = at-some n s.rule o s.at s.goal in
                    let f : computation_at j i.0 (record { occ = 0; attr = record { 0 = i.1 } }) ≡ Some q.0 = (λ x. computation_at j (e x) (sym is x)) ∙ q.1 in
                    (q.0, ap (λ x. elim x [ Some c ↦ Some c | None ↦ option_and_then (λ p. computation_at j p (record { occ = place_of j.flat i.0; attr = record { 0 = i.1 } })) (parent_of j.flat i.0) ]) f)
                cases (inr (a, (c, z, e))) =
                    let facts = child-facts j.flat grown.tree n (suc c) i.0 e in
                    let is : o ≡ record { occ = place_of j.flat i.0; attr = record { 0 = i.1 } } = λ x. record { occ = (z ∙ sym facts.placed) x; attr = record { 0 = sym number x } } in
                    let q = at-some n s.rule o s.at s.goal in
                    let f : option_and_then (λ p. computation_at j p (record { occ = place_of j.flat i.0; attr = record { 0 = i.1 } })) (parent_of j.flat i.0) ≡ Some q.0 =
                    ap (λ x. option_and_then (λ p. computation_at j p (record { occ = place_of j.flat i.0; attr = record { 0 = i.1 } })) x) facts.parent ∙ ((λ x. computation_at j n (sym is x)) ∙ q.1) in
                    either (computation_at j i.0 (record { occ = 0; attr = record { 0 = i.1 } })) refl (q.0, f)

    pub site-of : (i : Instance) (k : Computation) → IsOf i k → Site i k.0 k.2.goal
    site-of i k c = record { rule = k.1; at = c.at; goal = map-contains (λ (z : FlatComp). z.goal) k.1.comps k.2 c.comp; gives = c.gives }

    pub home-is : (i : Instance) (k : Computation) → computation_of j i ≡ Some k → home j i ≡ region j.flat j.nodes k.0
    home-is i k e = ap (λ x. elim x [ None ↦ 0 | Some c ↦ region j.flat j.nodes c.0 ]) e

    -- what an instance needs is what its computation depends on
    pub need-depends : (i d : Instance) → Contains (needs j i) d → (k : Computation) × (computation_of j i ≡ Some k) × IsOf i k × ((o : Occ) × Contains (dependencies k.2) o × (d ≡ instance_at j.flat k.0 o))
    need-depends i d h = go (computation_of j i) refl h
      where
        go : (x : Option Computation) → computation_of j i ≡ x → Contains (elim x [ None ↦ [] | Some c ↦ map (instance_at j.flat c.0) (dependencies c.2) ]) d
            → (k : Computation) × (computation_of j i ≡ Some k) × IsOf i k × ((o : Occ) × Contains (dependencies k.2) o × (d ≡ instance_at j.flat k.0 o))
        go None e m = absurd (contains-nil d m)
        go (Some k) e m = let p = contains-map (instance_at j.flat k.0) (dependencies k.2) d m in (k, e, computed i k e, (p.0, p.1, sym p.2))

    pub need-order : (i d : Instance) → Contains (needs j i) d → DependsOn j.symbols j.rules j.flat i d
    need-order i d h = let p = need-depends i d h in record { node = p.0.0; rule = p.0.1; at = p.2.at; comp = p.0.2; computes = p.2.comp; gives = p.2.gives; on = p.3.0; depends = p.3.1; is = p.3.2 }

    -- what another region computes is an attribute of a split node
    far-split : (i d : Instance) → Contains (needs j i) d → IsInstance j.symbols j.rules j.flat d → (home j d ≡ home j i → ⊥) → contains d.0 j.nodes ≡ true
    far-split i d h is far = go (cases_Bool (contains d.0 j.nodes))
      where
        near-of : contains d.0 j.nodes ≡ false → (n m : ℕ) → (d.0 ≡ n) ⊎ (parent_of j.flat d.0 ≡ Some n) → (d.0 ≡ m) ⊎ (parent_of j.flat d.0 ≡ Some m) → region j.flat j.nodes n ≡ region j.flat j.nodes m
        near-of not n m (inl e) (inl f) = ap (λ z. region j.flat j.nodes z) (sym e ∙ f)
        near-of not n m (inl e) (inr f) = ap (λ z. region j.flat j.nodes z) (sym e) ∙ region-parent j.flat grown.tree j.nodes d.0 m f not
        near-of not n m (inr e) (inl f) = sym (region-parent j.flat grown.tree j.nodes d.0 n e not) ∙ ap (λ z. region j.flat j.nodes z) f
        near-of not n m (inr e) (inr f) = ap (λ z. region j.flat j.nodes z) (held (sym e ∙ f))

        by-site : (n : ℕ) (o : Occ) → Site d n o → (d.0 ≡ n) ⊎ (parent_of j.flat d.0 ≡ Some n)
        by-site n o s = let p = placed j.symbols j.rules j.shapes j.root j.flat task.formed grown task.root_bare d n o s in elim p.how [ inl z ↦ inl z.2 | inr z ↦ inr (child-facts j.flat grown.tree n (suc z.1.0) d.0 z.1.2).parent ]

        by-occurrence : (n : ℕ) (o : Occ) → d ≡ instance_at j.flat n o → (d.0 ≡ n) ⊎ (parent_of j.flat d.0 ≡ Some n)
        by-occurrence n o e = at (child_at j.flat n o.occ) refl
          where
            at : (x : Option ℕ) → child_at j.flat n o.occ ≡ x → (d.0 ≡ n) ⊎ (parent_of j.flat d.0 ≡ Some n)
            at None f = inl (ap (λ z. z.0) e ∙ ap (λ z. unwrap_or z n) f)
            at (Some c) f = inr (ap (λ z. parent_of j.flat z) (ap (λ z. z.0) e ∙ ap (λ z. unwrap_or z n) f) ∙ (child-facts j.flat grown.tree n o.occ c f).parent)

        go : (contains d.0 j.nodes ≡ true) ⊎ (contains d.0 j.nodes ≡ false) → contains d.0 j.nodes ≡ true
        go (inl is_split) = is_split
        go (inr not) =
            let p = need-depends i d h in
            let q = computes d is in
            let s = site-of d q.0 (computed d q.0 q.1) in
            let same = near-of not q.0.0 p.0.0 (by-site q.0.0 q.0.2.goal s) (by-occurrence p.0.0 p.3.0 p.3.2) in
            absurd (far (home-is d q.0 q.1 ∙ (same ∙ sym (home-is i p.0 p.1))))

    asks : (i : Instance) (f g : Instance → Option Value) (room : List Deposit) → ((d : Instance) → Contains (needs j i) d → f d ≡ g d) → gives j i f room ≡ gives j i g room
    asks i f g room h = go (computation_of j i) refl
      where
        go : (x : Option Computation) → computation_of j i ≡ x → outcome j (home j i) f room x ≡ outcome j (home j i) g room x
        go None e = refl
        go (Some k) e =
            let origin = node_at j.flat k.0 k.2.origin in
            let written = unwrap_or (slice_get j.node_of origin) 0 in
            ap (λ (a : Value × List Deposit). (kept_value (attribute_of j.symbols k.1 k.2.goal) a.0, a.1))
            (evaluate-same j.texts j.patterns (home j i) j.flat written origin k.0 (λ d. unwrap_or (f d) value.Void) (λ d. unwrap_or (g d) value.Void) k.2.value room agree)
          where
            agree : (o : Occ) → Contains (reads k.2.value) o → unwrap_or (f (node_at j.flat k.0 o.occ, o.attr.0)) value.Void ≡ unwrap_or (g (node_at j.flat k.0 o.occ, o.attr.0)) value.Void
            agree o m =
                let d : Instance = instance_at j.flat k.0 o in
                let there : Contains (map (instance_at j.flat k.0) (dependencies k.2)) d = map-contains (instance_at j.flat k.0) (dependencies k.2) o (Contains-append_left (reads k.2.value) k.2.after o m) in
                let need : Contains (needs j i) d = subst (λ (x : Option Computation). Contains (elim x [ None ↦ [] | Some c ↦ map (instance_at j.flat c.0) (dependencies c.2) ]) d) (sym e) there in
                ap (λ v. unwrap_or v value.Void) (h d need)

    pub is-sound : IsSound (machine j)
    is-sound = record {
      once = λ front back i e m. let p = eval-split (instances_in_order j) front back i e in order.once p.0 p.1 i p.2 (among-eval p.0 i (subst (λ l. Contains l (eval_of i)) p.3 m));
      behind = λ front back i d e need. let p = eval-split (instances_in_order j) front back i e in subst (λ l. Contains l (eval_of d)) (sym p.3) (eval-among p.0 d (order.behind p.0 p.1 i d p.2 (need-order i d need)));
      far = λ front back i d e need far.
          let p = eval-split (instances_in_order j) front back i e in
          let there = order.behind p.0 p.1 i d p.2 (need-order i d need) in
          let is = (order.instances d).0 (subst (λ l. Contains l d) (sym p.2) (Contains-append_left p.0 (i ∷ p.1) d there)) in
          subst (λ l. Contains l (put_of d)) (sym p.3) (put-among p.0 d (far-split i d need is far) there);
      put_behind = λ front back i e. put-split (instances_in_order j) front back i e;
      same = λ a b. (same-is a b, is-same a b);
      asks = asks;
    }
