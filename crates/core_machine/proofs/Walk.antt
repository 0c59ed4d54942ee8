-- Along the whole order of a sound plan each instance comes once, behind all on which it depends.
use Rattle.std.specs.Prelude.{Contains, slice_get, flat_map, option_and_then, is_some, IsTrue, unwrap_or}
use Rattle.std.specs.List.{range_with_len}
use Rattle.std.proofs.Common.{◌≡◌, ℕ, zero, suc, ◌+◌, ◌-◌, ◌<◌, ◌≤◌, ◌⊎◌, inl, inr, List, [], ◌∷◌, ◌++◌, length, Bool, true, false, Option, Some, None, refl, arith, ap, sym, subst, ◌∙◌, append_assoc, append-nil, eqb-true}
use Rattle.std.proofs.lemmas.Option.{none-some, slice_get_within, slice_get-get_or}
use Rattle.std.proofs.lemmas.Bool.{cases_lt}
use Rattle.std.proofs.lemmas.List.Elements.{Contains-append_left, Contains-append_right, Contains-append_cases, Contains-push, Contains-push_cases, All-contains}
use Rattle.lido_base.specs.declared.ids.SymId.{SymId}
use Rattle.lido_base.specs.declared.ids.AttrId.{AttrId}
use Rattle.lido_base.specs.Tree.{Tree, place_of}
use Rattle.lido_base.proofs.Lists.{map-contains, contains-flat, flat-contains}
use Rattle.flat_grammar.specs.declared.flat.Occ.{Occ}
use Rattle.flat_grammar.specs.declared.flat.FlatSymbol.{FlatSymbol}
use Rattle.flat_grammar.specs.declared.flat.FlatAttr.{FlatAttr}
use Rattle.flat_grammar.specs.declared.flat.FlatRule.{FlatRule}
use Rattle.flat_grammar.specs.declared.flat.FlatComp.{FlatComp}
use Rattle.flat_grammar.specs.declared.flat.Shape.{Shape}
use Rattle.flat_grammar.specs.declared.plan.VisitClass.{VisitClass}
use Rattle.flat_grammar.specs.declared.plan.PlanItem.{PlanItem}
use Rattle.flat_grammar.specs.declared.plan.PlanItem.TheVariants.{Eval, Visit, Leave}
use Rattle.flat_grammar.specs.Rules.{symbol_at, attribute_at, dependencies, HasRule}
use Rattle.flat_grammar.specs.WellFormed.{IsWellFormed, is_synthesized}
use Rattle.flat_grammar.specs.SoundPlan.{is_leave, goals_of, visits_made, segment_after, IsClassAt, IsEvaluated, IsEvaluatedAll, IsAtHand, IsSoundSequence, IsSound, IsRow, IsAttribute, of_kind}
use Rattle.lido_base.specs.declared.kinds.Kind.TheVariants.{Inherited}
use Rattle.flat_grammar.specs.WholeOrder.{Instance, segment, child_at, node_at, sequence_at, visit_order, item_order, order, whole_order}
use Rattle.flat_grammar.proofs.Lists.{held, contains-nil, contains-cons, contains-first, contains-later, contains-slice_get, AllZip-at}
use Rattle.flat_grammar.proofs.WholeOrderLemmas.{order-step}
use Rattle.flat_grammar.specs.Instances.{IsGrown, IsInstance, instance_at}
use Rattle.core_machine.specs.Instances.{IsSite, DependsOn, IsInOrder}
use Rattle.core_machine.proofs.Lists.{head-same, tail-same, split-append, split-at, split-among, none-split, InFirst, InSecond}
use Rattle.core_machine.proofs.Segments.{upto, leaves, segment-split, leaves-upto, IsStill, segment-still, Stands, in-segment, segment-in, segment-more, earlier-upto, upto-earlier}
use Rattle.flat_grammar.proofs.SoundPlanLemmas.{at-place, at-end}
use Rattle.core_machine.proofs.Sequences.{Made, made-behind, made-all, leaves-push}
use Rattle.core_machine.proofs.Trees.{child-facts, Sub, here, sub-later, sub-child, siblings}
use Rattle.flat_grammar.proofs.GrownLemmas.{one-rule}
use Rattle.core_machine.proofs.Sites.{is-rule, inside, one-site, child-symbol, child-of, above, AllZip-left, instance-site, site-instance}

module _ {V : Type 0} (symbols : List FlatSymbol) (rules : List FlatRule) (shapes : List Shape) (root : SymId) (t : Tree V)
    (formed : IsWellFormed symbols rules shapes root) (grown : IsGrown symbols rules t root)
    (bare : (a : AttrId) (attr : FlatAttr) → attribute_at symbols root a ≡ Some attr → is_synthesized attr.kind ≡ true)
    (visits : List (List VisitClass)) (seqs : List (List PlanItem)) (plan : IsSound symbols rules visits seqs) where
  -- the instance at an occurrence of a node's rule
  abbrev pub inst : ℕ → Occ → Instance
  inst n o = instance_at t n o

  abbrev pub Site : Instance → ℕ → Occ → Type 0
  Site i n o = IsSite symbols rules t i n o

  abbrev Depends : Instance → Instance → Type 0
  Depends i j = DependsOn symbols rules t i j

  abbrev pub seq-of : ℕ → List PlanItem
  seq-of n = sequence_at t seqs n

  abbrev along : ℕ → List PlanItem → List Instance
  along n items = flat_map (item_order t seqs (order t seqs) n) items

  abbrev SubOf : ℕ → ℕ → Type 0
  SubOf n d = Sub t grown.tree n d

  -- the instance is computed at n or below
  pub record Sited (n : ℕ) (i : Instance) : Type 0 where
    pub node : ℕ
    pub goal : Occ
    pub sub : SubOf n node
    pub site : Site i node goal

  pub sound-at : (n : ℕ) (r : FlatRule) → HasRule rules t n r → IsSoundSequence symbols visits r (seq-of n)
  sound-at n r (i, e, f) = let h = slice_get_within rules i r f in go (slice_get seqs i) refl (let l = plan.0.1 in omega arith)
    where
      go : (x : Option (List PlanItem)) → slice_get seqs i ≡ x → i < length seqs → IsSoundSequence symbols visits r (seq-of n)
      go None g l = absurd (none-some _ (sym g ∙ slice_get-get_or seqs i [] l))
      go (Some seq) g l =
          let same : seq ≡ seq-of n = sym (ap (λ o. unwrap_or (slice_get seqs (unwrap_or o 0)) []) e ∙ ap (λ o. unwrap_or o []) g) in
          subst (λ s. IsSoundSequence symbols visits r s) same (AllZip-at (IsSoundSequence symbols visits) rules seqs i r seq plan.1 f g)

  pub site-of : (n : ℕ) (r : FlatRule) (o : Occ) → HasRule rules t n r → Contains (seq-of n) (Eval o) → Site (inst n o) n o
  site-of n r o at m = record { rule = r; at = at; goal = goal; gives = refl }
    where
      goal : Contains (goals_of r) o
      goal = let p = split-at (seq-of n) (Eval o) m in (at-place symbols visits r (seq-of n) (sound-at n r at) p.0 p.1 (Eval o) 1 p.2).0

  child-rule : (n k c : ℕ) → child_at t n k ≡ Some c → (q : FlatRule) × HasRule rules t c q
  child-rule n k c e = grown.nodes c (child-facts t grown.tree n k c e).inside

  sited-child : (n k c : ℕ) (i : Instance) → child_at t n k ≡ Some c → Sited c i → Sited n i
  sited-child n k c i e s = record { node = s.node; goal = s.goal; sub = sub-child t grown.tree n c s.node (child-facts t grown.tree n k c e).parent s.sub; site = s.site }

  -- what an item of node n gives: the node's own instance, or one of a child's visit
  pub data Given (n : ℕ) (i : Instance) : PlanItem → Type 0 where
    own : {o : Occ} → i ≡ inst n o → Given n i (Eval o)
    of_child : {k w : ℕ} (c : ℕ) → child_at t n k ≡ Some c → Contains (order t seqs c w) i → Given n i (Visit k w)

  given : (n : ℕ) (i : Instance) (item : PlanItem) → Contains (item_order t seqs (order t seqs) n item) i → Given n i item
  given n i (Eval o) h = go (contains-cons (inst n o) i [] h)
    where
      go : (inst n o ≡ i) ⊎ Contains [] i → Given n i (Eval o)
      go (inl e) = own (sym e)
      go (inr m) = absurd (contains-nil i m)
  given n i (Visit k w) h = go (child_at t n k) refl h
    where
      go : (x : Option ℕ) → child_at t n k ≡ x → Contains (visit_order t seqs (order t seqs) x w) i → Given n i (Visit k w)
      go None e m = absurd (contains-nil i m)
      go (Some c) e m = of_child c e m
  given n i (Leave w) h = absurd (contains-nil i h)

  gives-child : (n k w c : ℕ) (i : Instance) → child_at t n k ≡ Some c → Contains (order t seqs c w) i → Contains (item_order t seqs (order t seqs) n (Visit k w)) i
  gives-child n k w c i e m = subst (λ x. Contains (visit_order t seqs (order t seqs) x w) i) (sym e) m

  -- visit u, counted from 0, of a node in range
  order-at : (n u : ℕ) → n < length t → order t seqs n (suc u) ≡ along n (segment u (seq-of n))
  order-at n u h = order-step t seqs grown.tree n (suc u) h ∙ ap (λ k. along n (segment k (seq-of n))) (less u)
    where
      less : (u : ℕ) → suc u - 1 ≡ u
      less u = omega arith

  in-order : (n u : ℕ) (i : Instance) (item : PlanItem) → n < length t → Stands (seq-of n) u item → Contains (item_order t seqs (order t seqs) n item) i → Contains (order t seqs n (suc u)) i
  in-order n u i item h s m = subst (λ l. Contains l i) (sym (order-at n u h)) (flat-contains (item_order t seqs (order t seqs) n) (segment u (seq-of n)) item i s m)

  from-order : (n v : ℕ) (i : Instance) → n < length t → Contains (order t seqs n v) i → (item : PlanItem) × Stands (seq-of n) (v - 1) item × Given n i item
  from-order n v i h m =
      let p = contains-flat (item_order t seqs (order t seqs) n) (segment (v - 1) (seq-of n)) i (subst (λ l. Contains l i) (order-step t seqs grown.tree n v h) m) in
      (p.0, p.1, given n i p.0 p.2)

  -- what a visit evaluates is computed at the node or below
  sited-within : (fuel n v : ℕ) (i : Instance) → n < length t → length t ≤ fuel + n → Contains (order t seqs n v) i → Sited n i
  sited-within zero n v i h l m = absurd (omega arith)
  sited-within (suc fuel) n v i h l m = let p = from-order n v i h m in go p.0 (segment-in (v - 1) (seq-of n) p.0 p.1) p.2 (λ c w a b x. sited-within fuel c w i a b x)
    where
      go : (item : PlanItem) → Contains (seq-of n) item → Given n i item → ((c w : ℕ) → c < length t → length t ≤ fuel + c → Contains (order t seqs c w) i → Sited c i) → Sited n i
      go (Eval o) s (own e) rec = let q = grown.nodes n h in record { node = n; goal = o; sub = here; site = subst (λ j. Site j n o) (sym e) (site-of n q.0 o q.1 s) }
      go (Visit k w) s (of_child c e x) rec = let f = child-facts t grown.tree n k c e in let y = f.later in sited-child n k c i e (rec c w f.inside (omega arith) x)
      go (Leave w) s g rec = elim g [ ]

  pub sited : (n v : ℕ) (i : Instance) → n < length t → Contains (order t seqs n v) i → Sited n i
  sited n v i h m = sited-within (length t) n v i h (omega arith) m

  -- an instance of node n's own rule is not computed below a child
  own-else : (n k c : ℕ) (i : Instance) (o : Occ) → child_at t n k ≡ Some c → Site i n o → Sited c i → ⊥
  own-else n k c i o e s x =
      let same = one-site symbols rules shapes root t formed grown bare i n x.node o x.goal s x.site in
      let a = sub-later t grown.tree c x.node x.sub in
      let f = child-facts t grown.tree n k c e in let b = f.later in let d = same.0 in absurd (omega arith)

  -- nor below two children
  one-child : (n k j c b : ℕ) (i : Instance) → child_at t n k ≡ Some c → child_at t n j ≡ Some b → Sited c i → Sited b i → (c ≡ b) × (k ≡ j)
  one-child n k j c b i e f x y =
      let same = one-site symbols rules shapes root t formed grown bare i x.node y.node x.goal y.goal x.site y.site in
      let p = child-facts t grown.tree n k c e in
      let q = child-facts t grown.tree n j b f in
      let one = siblings t grown.tree n c b y.node p.parent q.parent (subst (λ d. SubOf c d) same.0 x.sub) y.sub in
      (one, sym p.placed ∙ (ap (λ z. place_of t z) one ∙ q.placed))

  from-visit : (n u : ℕ) (i : Instance) → n < length t → Contains (order t seqs n (suc u)) i → (item : PlanItem) × Stands (seq-of n) u item × Given n i item
  from-visit n u i h m =
      let p = contains-flat (item_order t seqs (order t seqs) n) (segment u (seq-of n)) i (subst (λ l. Contains l i) (order-at n u h) m) in
      (p.0, p.1, given n i p.0 p.2)

  -- Along a list, behind others: each instance is new, and what it depends on stands before it.
  pub record Goes (behind list : List Instance) : Type 0 where
    pub once : (front back : List Instance) (i : Instance) → list ≡ front ++ i ∷ back → Contains (behind ++ front) i → ⊥
    pub after : (front back : List Instance) (i j : Instance) → list ≡ front ++ i ∷ back → Depends i j → Contains (behind ++ front) j

  goes-nothing : (H : List Instance) → Goes H []
  goes-nothing H = record { once = λ front back i e m. none-split front back i e; after = λ front back i j e d. absurd (none-split front back i e) }

  goes-one : (H : List Instance) (x : Instance) → (Contains H x → ⊥) → ((j : Instance) → Depends x j → Contains H j) → Goes H (x ∷ [])
  goes-one H x new deps = record { once = once; after = after }
    where
      once : (front back : List Instance) (i : Instance) → x ∷ [] ≡ front ++ i ∷ back → Contains (H ++ front) i → ⊥
      once [] back i e m = new (subst (λ z. Contains H z) (sym (head-same x i [] back e)) (subst (λ l. Contains l i) (append-nil H) m))
      once (f ∷ front) back i e m = none-split front back i (tail-same x f [] _ e)

      after : (front back : List Instance) (i j : Instance) → x ∷ [] ≡ front ++ i ∷ back → Depends i j → Contains (H ++ front) j
      after [] back i j e d = subst (λ l. Contains l j) (sym (append-nil H)) (deps j (subst (λ z. Depends z j) (sym (head-same x i [] back e)) d))
      after (f ∷ front) back i j e d = absurd (none-split front back i (tail-same x f [] _ e))

  goes-both : (H xs ys : List Instance) → Goes H xs → Goes (H ++ xs) ys → Goes H (xs ++ ys)
  goes-both H xs ys a b = record { once = λ front back i e m. once front back i m (split-append xs ys front back i e); after = λ front back i j e d. after front back i j d (split-append xs ys front back i e) }
    where
      moved : (front later : List Instance) → front ≡ xs ++ later → H ++ front ≡ (H ++ xs) ++ later
      moved front later p = ap (λ l. H ++ l) p ∙ sym (append_assoc H xs later)

      once : (front back : List Instance) (i : Instance) → Contains (H ++ front) i → InFirst xs front i ⊎ InSecond xs ys front i back → ⊥
      once front back i m (inl (more, p)) = a.once front more i p m
      once front back i m (inr (later, p, q)) = b.once later back i q (subst (λ l. Contains l i) (moved front later p) m)

      after : (front back : List Instance) (i j : Instance) → Depends i j → InFirst xs front i ⊎ InSecond xs ys front i back → Contains (H ++ front) j
      after front back i j d (inl (more, p)) = a.after front more i j p d
      after front back i j d (inr (later, p, q)) = subst (λ l. Contains l j) (sym (moved front later p)) (b.after later back i j q d)

  -- What stands before visit u of node n, counted from 0: its earlier visits and all that it inherits up to this one, and nothing
  -- else that is computed at n or below.
  pub record Entered (n u : ℕ) (H : List Instance) : Type 0 where
    pub earlier : (w : ℕ) (i : Instance) → w < u → Contains (order t seqs n (suc w)) i → Contains H i
    pub inherited : (r : FlatRule) → HasRule rules t n r → (v : ℕ) (class : VisitClass) (a : AttrId) → v ≤ suc u → IsClassAt visits r 0 v class → Contains class.inherited a → Contains H (n, a.0)
    pub fresh : (i : Instance) → Contains H i → Sited n i → (w : ℕ) × (w < u) × Contains (order t seqs n (suc w)) i

  -- What stands before an item of node n in visit u, the items before it being these: what they evaluate and visit, what is
  -- inherited, and nothing else that is computed at n or below.
  record Before (n u : ℕ) (r : FlatRule) (before : List PlanItem) (G : List Instance) : Type 0 where
    evaluated : (o : Occ) → Contains before (Eval o) → Contains G (inst n o)
    visited : (k c w : ℕ) (i : Instance) → child_at t n k ≡ Some c → Contains before (Visit k w) → Contains (order t seqs c w) i → Contains G i
    inherited : (v : ℕ) (class : VisitClass) (a : AttrId) → v ≤ suc u → IsClassAt visits r 0 v class → Contains class.inherited a → Contains G (n, a.0)
    own_fresh : (o : Occ) → Contains G (inst n o) → Site (inst n o) n o → Contains before (Eval o)
    child_fresh : (k c : ℕ) (i : Instance) → child_at t n k ≡ Some c → Contains G i → Sited c i → (w : ℕ) × Contains before (Visit k w) × Contains (order t seqs c w) i

  same-goal : (n : ℕ) (o p : Occ) → inst n o ≡ inst n p → Site (inst n o) n o → Site (inst n p) n p → o ≡ p
  same-goal n o p e s q = (one-site symbols rules shapes root t formed grown bare (inst n o) n n o p s (subst (λ i. Site i n p) (sym e) q)).1

  enter : (n u : ℕ) (r : FlatRule) (H : List Instance) → HasRule rules t n r → Entered n u H → Before n u r (upto u (seq-of n)) H
  enter n u r H at x = record { evaluated = evaluated; visited = visited; inherited = x.inherited r at; own_fresh = own_fresh; child_fresh = child_fresh }
    where
      h : n < length t
      h = inside symbols rules shapes root t formed grown bare n r at

      evaluated : (o : Occ) → Contains (upto u (seq-of n)) (Eval o) → Contains H (inst n o)
      evaluated o m = let p = upto-earlier u (seq-of n) (Eval o) refl m in x.earlier p.0 (inst n o) p.1 (in-order n p.0 (inst n o) (Eval o) h p.2 (contains-first (inst n o) []))

      visited : (k c w : ℕ) (i : Instance) → child_at t n k ≡ Some c → Contains (upto u (seq-of n)) (Visit k w) → Contains (order t seqs c w) i → Contains H i
      visited k c w i e m y = let p = upto-earlier u (seq-of n) (Visit k w) refl m in x.earlier p.0 i p.1 (in-order n p.0 i (Visit k w) h p.2 (gives-child n k w c i e y))

      own_fresh : (o : Occ) → Contains H (inst n o) → Site (inst n o) n o → Contains (upto u (seq-of n)) (Eval o)
      own_fresh o g s = let f = x.fresh (inst n o) g (record { node = n; goal = o; sub = here; site = s }) in let p = from-visit n f.0 (inst n o) h f.2 in go f.0 f.1 p.0 p.1 p.2
        where
          go : (w : ℕ) → w < u → (item : PlanItem) → Stands (seq-of n) w item → Given n (inst n o) item → Contains (upto u (seq-of n)) (Eval o)
          go w l (Eval p) y (own e) = subst (λ z. Contains (upto u (seq-of n)) (Eval z)) (sym (same-goal n o p e s (site-of n r p at (segment-in w (seq-of n) (Eval p) y)))) (earlier-upto w u (seq-of n) (Eval p) l y)
          go w l (Visit k v) y (of_child c e z) = absurd (own-else n k c (inst n o) o e s (sited c v (inst n o) (child-facts t grown.tree n k c e).inside z))
          go w l (Leave v) y g = elim g [ ]

      child_fresh : (k c : ℕ) (i : Instance) → child_at t n k ≡ Some c → Contains H i → Sited c i → (w : ℕ) × Contains (upto u (seq-of n)) (Visit k w) × Contains (order t seqs c w) i
      child_fresh k c i e g s = let f = x.fresh i g (sited-child n k c i e s) in let p = from-visit n f.0 i h f.2 in go f.0 f.1 p.0 p.1 p.2
        where
          go : (w : ℕ) → w < u → (item : PlanItem) → Stands (seq-of n) w item → Given n i item → (v : ℕ) × Contains (upto u (seq-of n)) (Visit k v) × Contains (order t seqs c v) i
          go w l (Eval o) y (own f) = absurd (own-else n k c i o e (subst (λ z. Site z n o) (sym f) (site-of n r o at (segment-in w (seq-of n) (Eval o) y))) s)
          go w l (Visit j v) y (of_child b f z) =
              let one = one-child n k j c b i e f s (sited b v i (child-facts t grown.tree n j b f).inside z) in
              (v, subst (λ q. Contains (upto u (seq-of n)) (Visit q v)) (sym one.1) (earlier-upto w u (seq-of n) (Visit j v) l y), subst (λ q. Contains (order t seqs q v) i) (sym one.0) z)
          go w l (Leave v) y g = elim g [ ]

  abbrev eval-not : PlanItem → Bool
  eval-not (Eval o) = false
  eval-not _ = true

  abbrev goal-in : Occ → PlanItem → Occ
  goal-in d (Eval o) = o
  goal-in d _ = d

  abbrev child-in : PlanItem → ℕ
  child-in (Visit k w) = k
  child-in _ = 0

  abbrev visit-in : PlanItem → ℕ
  visit-in (Visit k w) = w
  visit-in _ = 0

  differ : (o : Occ) (k w : ℕ) → Eval o ≡ Visit k w → ⊥
  differ o k w e = let f : false ≡ true = ap eval-not e in absurd (cc)

  by-eval : (n u : ℕ) (r : FlatRule) (before : List PlanItem) (G : List Instance) (o : Occ) → HasRule rules t n r → Site (inst n o) n o → Before n u r before G → Before n u r (before ++ Eval o ∷ []) (G ++ inst n o ∷ [])
  by-eval n u r before G o at site b = record { evaluated = evaluated; visited = visited; inherited = λ v class a l c m. Contains-append_left G _ _ (b.inherited v class a l c m); own_fresh = own_fresh; child_fresh = child_fresh }
    where
      new : List PlanItem
      new = before ++ Eval o ∷ []

      evaluated : (p : Occ) → Contains (before ++ Eval o ∷ []) (Eval p) → Contains (G ++ inst n o ∷ []) (inst n p)
      evaluated p m = elim (Contains-push_cases before (Eval o) (Eval p) m) [
        | inl old ↦ Contains-append_left G _ _ (b.evaluated p old)
        | inr e ↦ subst (λ z. Contains (G ++ inst n o ∷ []) (inst n z)) (ap (goal-in o) e) (Contains-push G (inst n o))
      ]

      visited : (k c w : ℕ) (i : Instance) → child_at t n k ≡ Some c → Contains (before ++ Eval o ∷ []) (Visit k w) → Contains (order t seqs c w) i → Contains (G ++ inst n o ∷ []) i
      visited k c w i e m y = elim (Contains-push_cases before (Eval o) (Visit k w) m) [
        | inl old ↦ Contains-append_left G _ _ (b.visited k c w i e old y)
        | inr f ↦ absurd (differ o k w f)
      ]

      own_fresh : (p : Occ) → Contains (G ++ inst n o ∷ []) (inst n p) → Site (inst n p) n p → Contains (before ++ Eval o ∷ []) (Eval p)
      own_fresh p g s = elim (Contains-push_cases G (inst n o) (inst n p) g) [
        | inl old ↦ Contains-append_left before _ _ (b.own_fresh p old s)
        | inr e ↦ subst (λ z. Contains (before ++ Eval o ∷ []) (Eval z)) (same-goal n o p e site s) (Contains-push before (Eval o))
      ]

      child_fresh : (k c : ℕ) (i : Instance) → child_at t n k ≡ Some c → Contains (G ++ inst n o ∷ []) i → Sited c i → (w : ℕ) × Contains (before ++ Eval o ∷ []) (Visit k w) × Contains (order t seqs c w) i
      child_fresh k c i e g s = elim (Contains-push_cases G (inst n o) i g) [
        | inl old ↦ (let f = b.child_fresh k c i e old s in (f.0, Contains-append_left before _ _ f.1, f.2))
        | inr f ↦ absurd (own-else n k c i o e (subst (λ z. Site z n o) f site) s)
      ]

  by-visit : (n u : ℕ) (r : FlatRule) (before : List PlanItem) (G : List Instance) (k w : ℕ) → HasRule rules t n r → Before n u r before G
      → Before n u r (before ++ Visit k w ∷ []) (G ++ item_order t seqs (order t seqs) n (Visit k w))
  by-visit n u r before G k w at b = record { evaluated = evaluated; visited = visited; inherited = λ v class a l c m. Contains-append_left G _ _ (b.inherited v class a l c m); own_fresh = own_fresh; child_fresh = child_fresh }
    where
      L : List Instance
      L = item_order t seqs (order t seqs) n (Visit k w)

      evaluated : (p : Occ) → Contains (before ++ Visit k w ∷ []) (Eval p) → Contains (G ++ item_order t seqs (order t seqs) n (Visit k w)) (inst n p)
      evaluated p m = elim (Contains-push_cases before (Visit k w) (Eval p) m) [
        | inl old ↦ Contains-append_left G _ _ (b.evaluated p old)
        | inr e ↦ absurd (differ p k w (sym e))
      ]

      visited : (j c x : ℕ) (i : Instance) → child_at t n j ≡ Some c → Contains (before ++ Visit k w ∷ []) (Visit j x) → Contains (order t seqs c x) i → Contains (G ++ item_order t seqs (order t seqs) n (Visit k w)) i
      visited j c x i e m y = elim (Contains-push_cases before (Visit k w) (Visit j x) m) [
        | inl old ↦ Contains-append_left G _ _ (b.visited j c x i e old y)
        | inr f ↦ Contains-append_right G _ _ (gives-child n k w c i (ap (λ q. child_at t n q) (ap child-in f) ∙ e) (subst (λ q. Contains (order t seqs c q) i) (sym (ap visit-in f)) y))
      ]

      own_fresh : (p : Occ) → Contains (G ++ item_order t seqs (order t seqs) n (Visit k w)) (inst n p) → Site (inst n p) n p → Contains (before ++ Visit k w ∷ []) (Eval p)
      own_fresh p g s = elim (Contains-append_cases G _ (inst n p) g) [
        | inl old ↦ Contains-append_left before _ _ (b.own_fresh p old s)
        | inr m ↦ other (given n (inst n p) (Visit k w) m)
      ]
        where
          other : Given n (inst n p) (Visit k w) → Contains (before ++ Visit k w ∷ []) (Eval p)
          other (of_child c e x) = absurd (own-else n k c (inst n p) p e s (sited c w (inst n p) (child-facts t grown.tree n k c e).inside x))

      child_fresh : (j c : ℕ) (i : Instance) → child_at t n j ≡ Some c → Contains (G ++ item_order t seqs (order t seqs) n (Visit k w)) i → Sited c i → (x : ℕ) × Contains (before ++ Visit k w ∷ []) (Visit j x) × Contains (order t seqs c x) i
      child_fresh j c i e g s = elim (Contains-append_cases G _ i g) [
        | inl old ↦ (let f = b.child_fresh j c i e old s in (f.0, Contains-append_left before _ _ f.1, f.2))
        | inr m ↦ new (given n i (Visit k w) m)
      ]
        where
          new : Given n i (Visit k w) → (x : ℕ) × Contains (before ++ Visit k w ∷ []) (Visit j x) × Contains (order t seqs c x) i
          new (of_child d f y) =
              let one = one-child n j k c d i e f s (sited d w i (child-facts t grown.tree n k d f).inside y) in
              (w, subst (λ q. Contains (before ++ Visit k w ∷ []) (Visit q w)) (sym one.1) (Contains-push before (Visit k w)), subst (λ q. Contains (order t seqs q w) i) (sym one.0) y)

  true-false : (b : Bool) → b ≡ true → b ≡ false → ⊥
  true-false true e f = cc
  true-false false e f = cc

  -- what a child's visits pass is said of it in its parent's rule and in its own
  class-down : (n k c : ℕ) (r q : FlatRule) → HasRule rules t n r → HasRule rules t c q → child_at t n k ≡ Some c → (v : ℕ) (class : VisitClass) → IsClassAt visits q 0 v class → IsClassAt visits r k v class
  class-down n k c r q at be e zero class h = absurd h
  class-down n k c r q at be e (suc v) class (s, row, a, b, d) = (s, row, child-symbol symbols rules shapes root t formed grown bare n k c r q at be e ∙ a, b, d)

  class-size : (r : FlatRule) (k v : ℕ) (class : VisitClass) → IsClassAt visits r k v class → (0 < v) × (s : SymId) × (row : List VisitClass) × (symbol_at r k ≡ Some s) × (slice_get visits s.0 ≡ Some row) × (v ≤ length row)
  class-size r k zero class h = absurd h
  class-size r k (suc v) class (s, row, a, b, d) = let l = slice_get_within row v class d in ((omega arith), s, row, a, b, (omega arith))

  -- an item of a sequence that ends no visit stands in the segment of one of the left side's visits
  in-visit : (n : ℕ) (r : FlatRule) → HasRule rules t n r → (row : List VisitClass) × (slice_get visits r.left.0 ≡ Some row) × (leaves (seq-of n) ≡ length row)
      × ((item : PlanItem) → is_leave item ≡ false → Contains (seq-of n) item → (v : ℕ) × (v < length row) × Stands (seq-of n) v item)
  in-visit n r at = go (at-end symbols visits r (seq-of n) (sound-at n r at) 5)
    where
      go : (front : List PlanItem) × (row : List VisitClass) × (slice_get visits r.left.0 ≡ Some row) × (seq-of n ≡ front ++ Leave (length row) ∷ [])
          → (row : List VisitClass) × (slice_get visits r.left.0 ≡ Some row) × (leaves (seq-of n) ≡ length row) × ((item : PlanItem) → is_leave item ≡ false → Contains (seq-of n) item → (v : ℕ) × (v < length row) × Stands (seq-of n) v item)
      go (front, row, a, e) = (row, a, size, place)
        where
          last : length row ≡ segment_after front
          last = (at-place symbols visits r (seq-of n) (sound-at n r at) front [] (Leave (length row)) 5 e).0

          size : leaves (seq-of n) ≡ length row
          size = let x = ap leaves e in let y = leaves-push front (Leave (length row)) in let z = last in omega (arith, x, y, z)

          place : (item : PlanItem) → is_leave item ≡ false → Contains (seq-of n) item → (v : ℕ) × (v < length row) × Stands (seq-of n) v item
          place item f m = elim (Contains-push_cases front (Leave (length row)) item (subst (λ l. Contains l item) e m)) [
            | inl among ↦ (let p = in-segment front item f among in let z = last in let q = p.1 in
                (p.0, (omega (arith, q, z)), subst (λ l. Stands l p.0 item) (sym e) (segment-more p.0 front (Leave (length row) ∷ []) item p.2)))
            | inr x ↦ (let y : is_leave (Leave (length row)) ≡ false = ap is_leave x ∙ f in absurd (true-false (is_leave (Leave (length row))) refl y))
          ]

  -- a visit leaves what it synthesizes evaluated, by itself or an earlier one
  produced : (c : ℕ) (q : FlatRule) → HasRule rules t c q → (v : ℕ) (class : VisitClass) (a : AttrId) → IsClassAt visits q 0 v class → Contains class.synthesized a → (u : ℕ) × (u < v) × Contains (order t seqs c (suc u)) (c, a.0)
  produced c q at v class a h m =
      let z = class-size q 0 v class h in
      let x = in-visit c q at in
      let same : z.2 ≡ x.0 = held (sym z.4 ∙ (ap (λ (s : SymId). slice_get visits s.0) (sym (held z.3)) ∙ x.1)) in
      let size = ap length same in
      let few : v ≤ leaves (seq-of c) = let y = z.5 in let w = x.2 in omega arith in
      let p = Made.owed (made-all symbols visits q (seq-of c) (sound-at c q at)) v class a z.0 few h m in
      (p.0, p.1, in-order c p.0 (c, a.0) (Eval (record { occ = 0; attr = a })) (inside symbols rules shapes root t formed grown bare c q at) p.2 (contains-first (c, a.0) []))

  module _ (n u : ℕ) (r : FlatRule) (at : HasRule rules t n r)
      (down : (k c w : ℕ) (H : List Instance) → child_at t n k ≡ Some c → Entered c w H → Goes H (order t seqs c (suc w))) where
    -- where a nonterminal stands there is a node
    child-there : (k : ℕ) (s : SymId) (row : List VisitClass) → symbol_at r (suc k) ≡ Some s → slice_get visits s.0 ≡ Some row → 0 < length row → (c : ℕ) × (child_at t n (suc k) ≡ Some c)
    child-there k s row e f l = let p = child-of symbols rules shapes root t formed grown bare n r k s at e none in (p.0, p.1)
      where
        none : (x : FlatSymbol) → slice_get symbols s.0 ≡ Some x → IsTrue (is_some x.terminal) → ⊥
        none x g h =
            let is : IsRow x row = AllZip-at IsRow symbols visits s.0 x row plan.0.0 g f in
            let zero_row = eqb-true (length row) 0 (sym is.some_visit ∙ h) in absurd (omega arith)

    at-hand : (before : List PlanItem) (G : List Instance) (o : Occ) → Made symbols visits r (seq-of n) (sound-at n r at) before → leaves before ≤ u → Before n u r before G → IsAtHand visits r before o → Contains G (inst n o)
    at-hand before G o m l b (inl seen) = b.evaluated o seen
    at-hand before G o m l b (inr (inl (pos, v, class, few, c, s))) = go o.occ refl (class-size r o.occ v class c)
      where
        go : (k : ℕ) → o.occ ≡ k → (0 < v) × (s : SymId) × (row : List VisitClass) × (symbol_at r o.occ ≡ Some s) × (slice_get visits s.0 ≡ Some row) × (v ≤ length row) → Contains G (inst n o)
        go zero e z = absurd (omega arith)
        go (suc k) e (z, sy, row, f, g, y) =
            let d = child-there k sy row (ap (λ j. symbol_at r j) (sym e) ∙ f) g (omega arith) in
            let q = child-rule n (suc k) d.0 d.1 in
            let cls = class-up (suc k) d.0 q.0 d.1 q.1 v (subst (λ j. IsClassAt visits r j v class) e c) in
            let p = produced d.0 q.0 q.1 v class o.attr cls s in
            let few' : v ≤ visits_made before (suc k) = subst (λ j. v ≤ visits_made before j) e few in
            let seen : Contains before (Visit (suc k) (suc p.0)) = m.made (suc k) (suc p.0) (omega arith) (let x = p.1 in omega arith) in
            let is : inst n o ≡ (d.0, o.attr.0) = λ i. ((ap (λ j. node_at t n j) e ∙ ap (λ x. unwrap_or x n) d.1) i, o.attr.0) in
            subst (λ i. Contains G i) (sym is) (b.visited (suc k) d.0 (suc p.0) (d.0, o.attr.0) d.1 seen p.2)
          where
            class-up : (k c : ℕ) (q : FlatRule) → child_at t n k ≡ Some c → HasRule rules t c q → (v : ℕ) → IsClassAt visits r k v class → IsClassAt visits q 0 v class
            class-up k c q e be zero h = absurd h
            class-up k c q e be (suc v) (s, row, a, b, d) = (s, row, sym (child-symbol symbols rules shapes root t formed grown bare n k c r q at be e) ∙ a, b, d)
    at-hand before G o m l b (inr (inr (z, v, class, few, c, s))) =
        subst (λ i. Contains G i) (λ i. (ap (λ k. node_at t n k) (sym z) i, o.attr.0)) (b.inherited v class o.attr (omega (arith, few, l)) c s)

    -- an evaluation is new, and what it depends on stands before it
    goes-eval : (before rest : List PlanItem) (G : List Instance) (o : Occ) → seq-of n ≡ before ++ Eval o ∷ rest → leaves before ≤ u → Before n u r before G → Goes G (inst n o ∷ [])
    goes-eval before rest G o e l b = goes-one G (inst n o) (λ m. once.1 (b.own_fresh o m site)) deps
      where
        once : Contains (goals_of r) o × (IsEvaluated before o → ⊥)
        once = at-place symbols visits r (seq-of n) (sound-at n r at) before rest (Eval o) 1 e

        site : Site (inst n o) n o
        site = record { rule = r; at = at; goal = once.0; gives = refl }

        deps : (j : Instance) → Depends (inst n o) j → Contains G j
        deps j d =
            let other : Site (inst n o) d.node d.comp.goal = record { rule = d.rule; at = d.at; goal = map-contains (λ (c : FlatComp). c.goal) d.rule.comps d.comp d.computes; gives = d.gives } in
            let same = one-site symbols rules shapes root t formed grown bare (inst n o) n d.node o d.comp.goal site other in
            let rules-same : d.rule ≡ r = one-rule rules t n d.rule r (subst (λ m. HasRule rules t m d.rule) (sym same.0) d.at) at in
            let computes : Contains r.comps d.comp = subst (λ (x : FlatRule). Contains x.comps d.comp) rules-same d.computes in
            let four = at-place symbols visits r (seq-of n) (sound-at n r at) before rest (Eval o) 4 e d.comp computes (sym same.1) in
            let hand = All-contains (IsAtHand visits r before) (dependencies d.comp) d.on four d.depends in
            let there = at-hand before G d.on (made-behind symbols visits r (seq-of n) (sound-at n r at) before (Eval o ∷ rest) e) l b hand in
            subst (λ i. Contains G i) (ap (λ m. inst m d.on) same.0 ∙ sym d.is) there

    -- a visit of a child is entered with all that it inherits, and with its earlier visits
    entered : (before rest : List PlanItem) (G : List Instance) (k w c : ℕ) → seq-of n ≡ before ++ Visit k w ∷ rest → Before n u r before G → child_at t n k ≡ Some c → Entered c (visits_made before k) G
    entered before rest G k w c e b f = record {
      earlier = λ x i l m. b.visited k c (suc x) i f (made.made k (suc x) (omega arith) (omega arith)) m;
      inherited = λ q be v class a l cls s. let cl = class-down n k c r q at be f v class cls in
          subst (λ z. Contains G z) (λ i. (ap (λ x. unwrap_or x n) f i, a.0)) (b.evaluated (record { occ = k; attr = a }) (All-contains (λ z. IsEvaluated before (record { occ = k; attr = z })) class.inherited a (ready v class l cl) s));
      fresh = λ i g s. let p = b.child_fresh k c i f g s in count p.0 i (made.counted k p.0 p.1) p.2;
    }
      where
        made : Made symbols visits r (seq-of n) (sound-at n r at) before
        made = made-behind symbols visits r (seq-of n) (sound-at n r at) before (Visit k w ∷ rest) e

        next : w ≡ suc (visits_made before k)
        next = at-place symbols visits r (seq-of n) (sound-at n r at) before rest (Visit k w) 2 e

        ready : (v : ℕ) (class : VisitClass) → v ≤ suc (visits_made before k) → IsClassAt visits r k v class → IsEvaluatedAll before k class.inherited
        ready v class l cl = go (cases_lt (visits_made before k) v)
          where
            go : (visits_made before k < v) ⊎ (v ≤ visits_made before k) → IsEvaluatedAll before k class.inherited
            go (inl new) = at-place symbols visits r (seq-of n) (sound-at n r at) before rest (Visit k w) 3 e class (subst (λ x. IsClassAt visits r k x class) (let y = next in omega (arith, y)) cl)
            go (inr old) = made.given k v class (made.made k v (class-size r k v class cl).0 old) cl

        count : (x : ℕ) (i : Instance) → (0 < x) × (x ≤ visits_made before k) → Contains (order t seqs c x) i → (y : ℕ) × (y < visits_made before k) × Contains (order t seqs c (suc y)) i
        count zero i (p, q) m = absurd (omega arith)
        count (suc y) i (p, q) m = (y, (omega arith), m)

    goes-visit : (before rest : List PlanItem) (G : List Instance) (k w : ℕ) → seq-of n ≡ before ++ Visit k w ∷ rest → Before n u r before G → Goes G (item_order t seqs (order t seqs) n (Visit k w))
    goes-visit before rest G k w e b = go (child_at t n k) refl
      where
        next : w ≡ suc (visits_made before k)
        next = at-place symbols visits r (seq-of n) (sound-at n r at) before rest (Visit k w) 2 e

        go : (x : Option ℕ) → child_at t n k ≡ x → Goes G (visit_order t seqs (order t seqs) x w)
        go None f = goes-nothing G
        go (Some c) f = subst (λ z. Goes G (order t seqs c z)) (sym next) (down k c (visits_made before k) G f (entered before rest G k w c e b f))

    -- along the items of a segment
    goes-along : (items before rest : List PlanItem) (G : List Instance) → seq-of n ≡ before ++ (items ++ rest) → IsStill items → leaves before ≤ u → Before n u r before G → Goes G (along n items)
    goes-along [] before rest G e still l b = goes-nothing G
    goes-along (Leave w ∷ items) before rest G e still l b = absurd (true-false true refl still.0)
    goes-along (Eval o ∷ items) before rest G e still l b =
        let site = site-of n r o at (subst (λ s. Contains s (Eval o)) (sym e) (split-among before (items ++ rest) (Eval o))) in
        goes-both G (inst n o ∷ []) (along n items) (goes-eval before (items ++ rest) G o e l b)
        (goes-along items (before ++ Eval o ∷ []) rest (G ++ inst n o ∷ []) (e ∙ sym (append_assoc before (Eval o ∷ []) (items ++ rest))) still.1 (let x = leaves-push before (Eval o) in omega (arith, x, l))
        (by-eval n u r before G o at site b))
    goes-along (Visit k w ∷ items) before rest G e still l b =
        goes-both G (item_order t seqs (order t seqs) n (Visit k w)) (along n items) (goes-visit before (items ++ rest) G k w e b)
        (goes-along items (before ++ Visit k w ∷ []) rest (G ++ item_order t seqs (order t seqs) n (Visit k w)) (e ∙ sym (append_assoc before (Visit k w ∷ []) (items ++ rest))) still.1
        (let x = leaves-push before (Visit k w) in omega (arith, x, l)) (by-visit n u r before G k w at b))

  -- along any visit that is entered so
  goes-order : (fuel n u : ℕ) (H : List Instance) → n < length t → length t ≤ fuel + n → Entered n u H → Goes H (order t seqs n (suc u))
  goes-order zero n u H h l x = absurd (omega arith)
  goes-order (suc fuel) n u H h l x =
      let q = grown.nodes n h in
      let s = segment-split u (seq-of n) in
      subst (λ z. Goes H z) (sym (order-at n u h))
      (goes-along n u q.0 q.1 (λ k c w G e y. let f = child-facts t grown.tree n k c e in let z = f.later in goes-order fuel c w G f.inside (omega arith) y)
      (segment u (seq-of n)) (upto u (seq-of n)) s.0 H s.1 (segment-still u (seq-of n)) (leaves-upto u (seq-of n)) (enter n u q.0 H q.1 x))

  root-rule : (r : FlatRule) → HasRule rules t 0 r → r.left ≡ root
  root-rule r at = let p = grown.root_node in ap (λ (x : FlatRule). x.left) (one-rule rules t 0 r p.0 at p.1) ∙ p.2

  -- the root inherits nothing
  root-bare : (r : FlatRule) → HasRule rules t 0 r → (v : ℕ) (class : VisitClass) (a : AttrId) → IsClassAt visits r 0 v class → Contains class.inherited a → ⊥
  root-bare r at zero class a h m = h
  root-bare r at (suc v) class a (s, row, e, f, g) m =
      let left : s ≡ root = sym (held e) ∙ root-rule r at in
      let x = AllZip-left IsRow symbols visits s.0 row plan.0.0 f in
      let among : Contains (of_kind Inherited row) a = flat-contains (λ (c : VisitClass). c.inherited) row class a (contains-slice_get row v class g) m in
      let attr : IsAttribute x.0 Inherited a = (x.2.attributes Inherited a).0 among in
      let at-root : attribute_at symbols root a ≡ Some attr.0 = ap (λ (z : SymId). attribute_at symbols z a) (sym left) ∙ (ap (λ o. option_and_then (λ (y : FlatSymbol). slice_get y.attrs a.0) o) x.1 ∙ attr.1) in
      true-false (is_synthesized attr.0.kind) (bare a attr.0 at-root) (ap is_synthesized attr.2)

  enter-next : (u : ℕ) (H : List Instance) → Entered 0 u H → Entered 0 (suc u) (H ++ order t seqs 0 (suc u))
  enter-next u H x = record {
    earlier = λ w i l m. go w i l m (cases_lt w u);
    inherited = λ r at v class a l c m. absurd (root-bare r at v class a c m);
    fresh = λ i g s. elim (Contains-append_cases H (order t seqs 0 (suc u)) i g) [
      | inl old ↦ (let f = x.fresh i old s in let l = f.1 in (f.0, (omega arith), f.2))
      | inr new ↦ (u, (omega arith), new)
    ];
  }
    where
      go : (w : ℕ) (i : Instance) → w < suc u → Contains (order t seqs 0 (suc w)) i → (w < u) ⊎ (u ≤ w) → Contains (H ++ order t seqs 0 (suc u)) i
      go w i l m (inl less) = Contains-append_left H _ i (x.earlier w i less m)
      go w i l m (inr more) = Contains-append_right H _ i (subst (λ z. Contains (order t seqs 0 (suc z)) i) (let e : w ≡ u = omega arith in e) m)

  -- all visits of the root, one behind the other
  goes-visits : (m u : ℕ) (H : List Instance) → Entered 0 u H → Goes H (flat_map (order t seqs 0) (range_with_len (suc u) m))
  goes-visits zero u H x = goes-nothing H
  goes-visits (suc m) u H x =
      let e : suc (suc u) ≡ suc u + 1 = omega arith in
      goes-both H (order t seqs 0 (suc u)) (flat_map (order t seqs 0) (range_with_len (suc u + 1) m))
      (goes-order (length t) 0 u H grown.tree.has_root (omega arith) x)
      (subst (λ a. Goes (H ++ order t seqs 0 (suc u)) (flat_map (order t seqs 0) (range_with_len a m))) e (goes-visits m (suc u) (H ++ order t seqs 0 (suc u)) (enter-next u H x)))

  pub goes-whole : Goes [] (whole_order t seqs visits root)
  goes-whole = goes-visits (length (unwrap_or (slice_get visits root.0) [])) 0 [] (record {
    earlier = λ w i l m. absurd (omega arith);
    inherited = λ r at v class a l c m. absurd (root-bare r at v class a c m);
    fresh = λ i g s. absurd (contains-nil i g);
  })

  in-range : (m a u : ℕ) → u < m → Contains (range_with_len a m) (a + u)
  in-range zero a u h = absurd (omega arith)
  in-range (suc m) a zero h = subst (λ z. Contains (a ∷ range_with_len (a + 1) m) z) (let e : a ≡ a + 0 = omega arith in e) (contains-first a _)
  in-range (suc m) a (suc u) h = contains-later a (a + suc u) _ (subst (λ z. Contains (range_with_len (a + 1) m) z) (let e : (a + 1) + u ≡ a + suc u = omega arith in e) (in-range m (a + 1) u (omega arith)))

  -- each visit of each node is a part of the whole
  reached : (fuel n u : ℕ) (r : FlatRule) (row : List VisitClass) (i : Instance) → n ≤ fuel → HasRule rules t n r → slice_get visits r.left.0 ≡ Some row → u < length row → Contains (order t seqs n (suc u)) i → Contains (whole_order t seqs visits root) i
  reached fuel zero u r row i l at e h m =
      let same : unwrap_or (slice_get visits root.0) [] ≡ row = ap (λ (s : SymId). unwrap_or (slice_get visits s.0) []) (sym (root-rule r at)) ∙ ap (λ o. unwrap_or o []) e in
      let size = ap length same in
      flat-contains (order t seqs 0) (range_with_len 1 (length (unwrap_or (slice_get visits root.0) []))) (suc u) i
      (subst (λ z. Contains (range_with_len 1 (length (unwrap_or (slice_get visits root.0) []))) z) (let f : 1 + u ≡ suc u = omega arith in f) (in-range _ 1 u (omega arith))) m
  reached zero (suc n) u r row i l at e h m = absurd (omega arith)
  reached (suc fuel) (suc n) u r row i l at e h m =
      let x = above symbols rules shapes root t formed grown bare (suc n) (omega arith) (inside symbols rules shapes root t formed grown bare (suc n) r at) in
      let f = child-facts t grown.tree x.0 (suc x.1) (suc n) x.2 in
      let q = grown.nodes x.0 (let y = f.later in let z = f.inside in omega arith) in
      let s = child-symbol symbols rules shapes root t formed grown bare x.0 (suc x.1) (suc n) q.0 r q.1 at x.2 in
      let left = (is-rule symbols rules shapes root t formed grown bare (suc n) r at).left_side in
      let all : visits_made (seq-of x.0) (suc x.1) ≡ length row = at-end symbols visits q.0 (seq-of x.0) (sound-at x.0 q.0 q.1) 2 (suc x.1) r.left row (omega arith) s left e in
      let made = Made.made (made-all symbols visits q.0 (seq-of x.0) (sound-at x.0 q.0 q.1)) (suc x.1) (suc u) (omega arith) (omega arith) in
      let p = in-visit x.0 q.0 q.1 in
      let v = p.3 (Visit (suc x.1) (suc u)) refl made in
      reached fuel x.0 v.0 q.0 p.0 i (let y = f.later in omega arith) q.1 p.1 v.1 (in-order x.0 v.0 i (Visit (suc x.1) (suc u)) (inside symbols rules shapes root t formed grown bare x.0 q.0 q.1) v.2 (gives-child x.0 (suc x.1) (suc u) (suc n) i x.2 m))

  all-there : (i : Instance) → IsInstance symbols rules t i → Contains (whole_order t seqs visits root) i
  all-there i h =
      let s = instance-site symbols rules shapes root t formed grown bare i h in
      let n = s.0 in
      let o = s.1 in
      let r = s.2.rule in
      let at = s.2.at in
      let evaluated : Contains (seq-of n) (Eval o) = All-contains (λ p. IsEvaluated (seq-of n) p) (goals_of r) o (at-end symbols visits r (seq-of n) (sound-at n r at) 1) s.2.goal in
      let p = in-visit n r at in
      let v = p.3 (Eval o) refl evaluated in
      subst (λ z. Contains (whole_order t seqs visits root) z) (sym s.2.gives)
      (reached n n v.0 r p.0 (inst n o) (omega arith) at p.1 v.1 (in-order n v.0 (inst n o) (Eval o) (inside symbols rules shapes root t formed grown bare n r at) v.2 (contains-first (inst n o) [])))

  only-instances : (i : Instance) → Contains (whole_order t seqs visits root) i → IsInstance symbols rules t i
  only-instances i m =
      let p = contains-flat (order t seqs 0) (range_with_len 1 (length (unwrap_or (slice_get visits root.0) []))) i m in
      let s = sited 0 p.0 i grown.tree.has_root p.2 in
      site-instance symbols rules shapes root t formed grown bare i s.node s.goal s.site

  pub is-in-order : IsInOrder symbols rules t (whole_order t seqs visits root)
  is-in-order = record { instances = λ i. (only-instances i, all-there i); once = λ front back i e m. goes-whole.once front back i e m; behind = λ front back i j e d. goes-whole.after front back i j e d }
