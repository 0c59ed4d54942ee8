-- Each instance of a flat tree is computed at exactly one node, by one goal of its rule.
use Rattle.std.specs.Prelude.{Contains, slice_get, option_and_then, is_some, IsTrue, nat_eq, not, unwrap_or, map}
use Rattle.std.specs.List.{AllZip, list_any}
use Rattle.std.proofs.lemmas.Bool.{not-true}
use Rattle.std.proofs.Common.{◌≡◌, ℕ, zero, suc, ◌+◌, ◌<◌, ◌⊎◌, inl, inr, List, [], ◌∷◌, length, Bool, true, false, Option, Some, None, refl, arith, ap, sym, subst, ◌∙◌, eqb-true, eq-eqb, get_or}
use Rattle.std.proofs.lemmas.Option.{none-some, slice_get_within, slice_get-get_or}
use Rattle.std.proofs.lemmas.List.Elements.{All-contains}
use Rattle.std.proofs.lemmas.List.Folds.{Any-from_list_any, list_any-from_Any}
use Rattle.lido_base.specs.declared.ids.SymId.{SymId}
use Rattle.lido_base.specs.declared.ids.AttrId.{AttrId}
use Rattle.lido_base.specs.declared.kinds.Kind.{Kind}
use Rattle.lido_base.specs.declared.kinds.Kind.TheVariants.{Synthesized, Inherited}
use Rattle.lido_base.specs.Tree.{Tree, Item, Child, Leaf, child_number, items_of, parent_of}
use Rattle.lido_base.proofs.TreeLemmas.{both}
use Rattle.lido_base.proofs.Lists.{contains-map, map-contains}
use Rattle.lido_base.proofs.PathLemmas.{parent_there}
use Rattle.flat_grammar.proofs.GrownLemmas.{one-rule, rule-within}
use Rattle.flat_grammar.specs.declared.flat.Occ.{Occ}
use Rattle.flat_grammar.specs.declared.flat.FlatSymbol.{FlatSymbol}
use Rattle.flat_grammar.specs.declared.flat.FlatAttr.{FlatAttr}
use Rattle.flat_grammar.specs.declared.flat.FlatRule.{FlatRule}
use Rattle.flat_grammar.specs.declared.flat.FlatComp.{FlatComp}
use Rattle.flat_grammar.specs.declared.flat.Shape.{Shape}
use Rattle.flat_grammar.specs.Rules.{symbol_at, attribute_at, attrs_of, HasRule}
use Rattle.flat_grammar.specs.WellFormed.{IsWellFormed, IsRule, is_same_occ, is_goal, is_goal_kind, is_synthesized, attribute_of}
use Rattle.flat_grammar.specs.WholeOrder.{Instance, child_at, node_at}
use Rattle.flat_grammar.proofs.Lists.{held, contains-slice_get}
use Rattle.flat_grammar.specs.Instances.{IsOf, IsGrown, IsInstance, instance_at}
use Rattle.core_machine.specs.Instances.{IsSite}
use Rattle.core_machine.proofs.Trees.{child-facts, parent-child}

pub AllZip-right : {A B : Type 0} (R : A → B → Type 0) (xs : List A) (ys : List B) (i : ℕ) (x : A) → AllZip R xs ys → slice_get xs i ≡ Some x → (y : B) × (slice_get ys i ≡ Some y) × R x y
AllZip-right R [] ys i x h e = absurd (none-some _ e)
AllZip-right R (a ∷ xs) [] i x h e = absurd h
AllZip-right R (a ∷ xs) (b ∷ ys) zero x h e = (b, refl, subst (λ u. R u b) (held e) h.0)
AllZip-right R (a ∷ xs) (b ∷ ys) (suc i) x h e = AllZip-right R xs ys i x h.1 e

pub AllZip-left : {A B : Type 0} (R : A → B → Type 0) (xs : List A) (ys : List B) (i : ℕ) (y : B) → AllZip R xs ys → slice_get ys i ≡ Some y → (x : A) × (slice_get xs i ≡ Some x) × R x y
AllZip-left R xs [] i y h e = absurd (none-some _ e)
AllZip-left R [] (b ∷ ys) i y h e = absurd h
AllZip-left R (a ∷ xs) (b ∷ ys) zero y h e = (a, refl, subst (λ u. R a u) (held e) h.0)
AllZip-left R (a ∷ xs) (b ∷ ys) (suc i) y h e = AllZip-left R xs ys i y h.1 e

same-occ : (o p : Occ) → o.occ ≡ p.occ → o.attr.0 ≡ p.attr.0 → o ≡ p
same-occ o p e f = λ i. record { occ = e i; attr = record { 0 = f i } }

itself : (o : Occ) → is_same_occ o o ≡ true
itself o = rw (eq-eqb o.occ o.occ refl, eq-eqb o.attr.0 o.attr.0 refl) refl

pub are-same : (o p : Occ) → is_same_occ o p ≡ true → o ≡ p
are-same o p h = let a = both (nat_eq o.occ p.occ) (nat_eq o.attr.0 p.attr.0) h in same-occ o p (eqb-true o.occ p.occ a.0) (eqb-true o.attr.0 p.attr.0 a.1)

-- the comps of a rule that have this goal
pub goal-any : (comps : List FlatComp) (o : Occ) → Contains (map (λ (c : FlatComp). c.goal) comps) o → list_any (λ c. is_same_occ c.goal o) comps ≡ true
goal-any comps o h =
    let p = contains-map (λ (c : FlatComp). c.goal) comps o h in
    list_any-from_Any (λ c. is_same_occ c.goal o) comps (p.1.0, p.0, p.1.1, p.1.2, subst (λ z. is_same_occ z o ≡ true) (sym p.2) (itself o))

pub any-goal : (comps : List FlatComp) (o : Occ) → list_any (λ c. is_same_occ c.goal o) comps ≡ true → Contains (map (λ (c : FlatComp). c.goal) comps) o
any-goal comps o h =
    let p = Any-from_list_any (λ c. is_same_occ c.goal o) comps h in
    subst (λ z. Contains (map (λ (c : FlatComp). c.goal) comps) z) (are-same p.1.goal o p.4) (map-contains (λ (c : FlatComp). c.goal) comps p.1 (p.0, p.2, p.3))

module _ {V : Type 0} (symbols : List FlatSymbol) (rules : List FlatRule) (shapes : List Shape) (root : SymId) (t : Tree V)
    (formed : IsWellFormed symbols rules shapes root) (grown : IsGrown symbols rules t root)
    (bare : (a : AttrId) (attr : FlatAttr) → attribute_at symbols root a ≡ Some attr → is_synthesized attr.kind ≡ true) where
  pub is-rule : (n : ℕ) (r : FlatRule) → HasRule rules t n r → IsRule symbols r
  is-rule n r (i, e, f) = All-contains (IsRule symbols) rules r formed.each_rule (contains-slice_get rules i r f)

  pub inside : (n : ℕ) (r : FlatRule) → HasRule rules t n r → n < length t
  inside n r (i, e, f) = rule-within t n i e

  -- an attribute occurrence is an attribute of the symbol there
  symbol-of : (r : FlatRule) (o : Occ) (attr : FlatAttr) → attribute_of symbols r o ≡ Some attr → (s : SymId) × (symbol_at r o.occ ≡ Some s) × (attribute_at symbols s o.attr ≡ Some attr)
  symbol-of r o attr e = go (symbol_at r o.occ) refl e
    where
      go : (x : Option SymId) → symbol_at r o.occ ≡ x → elim x [ None ↦ None | Some s ↦ attribute_at symbols s o.attr ] ≡ Some attr → (s : SymId) × (symbol_at r o.occ ≡ Some s) × (attribute_at symbols s o.attr ≡ Some attr)
      go None f h = absurd (none-some _ h)
      go (Some s) f h = (s, f, h)

  -- what has an attribute is no terminal
  no-terminal : (s : SymId) (a : AttrId) (attr : FlatAttr) (x : FlatSymbol) → attribute_at symbols s a ≡ Some attr → slice_get symbols s.0 ≡ Some x → IsTrue (is_some x.terminal) → ⊥
  no-terminal s a attr x e f h =
      let none : x.attrs ≡ [] = All-contains (λ y. IsTrue (is_some y.terminal) → y.attrs ≡ []) symbols x formed.terminals_bare (contains-slice_get symbols s.0 x f) h in
      let there : slice_get x.attrs a.0 ≡ Some attr = ap (λ o. option_and_then (λ (y : FlatSymbol). slice_get y.attrs a.0) o) (sym f) ∙ e in
      none-some _ (ap (λ l. slice_get l a.0) (sym none) ∙ there)

  -- the node at an attribute occurrence, which has its symbol
  pub record There (n : ℕ) (o : Occ) (s : SymId) : Type 0 where
    pub node : ℕ
    pub is : node_at t n o.occ ≡ node
    pub rule : FlatRule
    pub at : HasRule rules t node rule
    pub left : rule.left ≡ s
    pub how : ((o.occ ≡ 0) × (node ≡ n)) ⊎ ((k : ℕ) × (o.occ ≡ suc k) × (child_at t n (suc k) ≡ Some node))

  pub child-of : (n : ℕ) (r : FlatRule) (k : ℕ) (s : SymId) → HasRule rules t n r → slice_get r.right k ≡ Some s → ((x : FlatSymbol) → slice_get symbols s.0 ≡ Some x → IsTrue (is_some x.terminal) → ⊥)
      → (c : ℕ) × (child_at t n (suc k) ≡ Some c) × (q : FlatRule) × HasRule rules t c q × (q.left ≡ s)
  child-of n r k s at e none = let p = AllZip-right (IsOf symbols rules t) r.right (items_of t n) k s (grown.items n r at) e in go p.0 p.1 p.2
    where
      go : (item : Item V) → slice_get (items_of t n) k ≡ Some item → IsOf symbols rules t s item → (c : ℕ) × (child_at t n (suc k) ≡ Some c) × (q : FlatRule) × HasRule rules t c q × (q.left ≡ s)
      go (Child c) f (q, h, l) = (c, ap (λ o. option_and_then child_number o) f, q, h, l)
      go (Leaf v) f (x, h, l) = absurd (none x h l)

  there : (n : ℕ) (r : FlatRule) (o : Occ) (s : SymId) (attr : FlatAttr) → HasRule rules t n r → symbol_at r o.occ ≡ Some s → attribute_at symbols s o.attr ≡ Some attr → There n o s
  there n r o s attr at e a = go o.occ refl
    where
      go : (k : ℕ) → o.occ ≡ k → There n o s
      go zero f = record { node = n; is = ap (λ k. node_at t n k) f; rule = r; at = at; left = held (ap (λ k. symbol_at r k) (sym f) ∙ e); how = inl (f, refl) }
      go (suc k) f =
          let p = child-of n r k s at (ap (λ j. symbol_at r j) (sym f) ∙ e) (λ x g h. no-terminal s o.attr attr x a g h) in
          record { node = p.0; is = ap (λ j. node_at t n j) f ∙ ap (λ x. unwrap_or x n) p.1; rule = p.2; at = p.3; left = p.4; how = inr (k, f, p.1) }

  -- the instance's attribute, and where the instance is computed: a synthesized one at its own node, an inherited one at the parent
  pub record Placed (i : Instance) (n : ℕ) (o : Occ) : Type 0 where
    pub rule : FlatRule
    pub at : HasRule rules t i.0 rule
    pub attr : FlatAttr
    pub is : attribute_at symbols rule.left (record { 0 = i.1 }) ≡ Some attr
    pub number : i.1 ≡ o.attr.0
    pub how : ((is_synthesized attr.kind ≡ true) × (o.occ ≡ 0) × (i.0 ≡ n)) ⊎ ((is_synthesized attr.kind ≡ false) × ((k : ℕ) × (o.occ ≡ suc k) × (child_at t n (suc k) ≡ Some i.0)))

  -- an attribute occurrence of a node's rule is an instance
  pub occurs : (n : ℕ) (r : FlatRule) (o : Occ) (attr : FlatAttr) → HasRule rules t n r → attribute_of symbols r o ≡ Some attr → is_goal_kind o.occ (Some attr) ≡ true → Placed (instance_at t n o) n o
  occurs n r o attr at e goal =
      let s = symbol-of r o attr e in
      let d = there n r o s.0 attr at s.1 s.2 in
      record {
        rule = d.rule;
        at = subst (λ m. HasRule rules t m d.rule) (sym d.is) d.at;
        attr = attr;
        is = subst (λ l. attribute_at symbols l o.attr ≡ Some attr) (sym d.left) s.2;
        number = refl;
        how = elim d.how [
          | inl z ↦ inl (subst (λ k. is_goal_kind k (Some attr) ≡ true) z.0 goal, z.0, d.is ∙ z.1)
          | inr z ↦ inr (not-true (is_synthesized attr.kind) (subst (λ k. is_goal_kind k (Some attr) ≡ true) z.1 goal), (z.0, z.1, z.2 ∙ ap Some (sym d.is)))
        ];
      }

  goal-attr : (r : FlatRule) (o : Occ) → is_goal symbols r o ≡ true → (attr : FlatAttr) × (attribute_of symbols r o ≡ Some attr) × (is_goal_kind o.occ (Some attr) ≡ true)
  goal-attr r o h = go (attribute_of symbols r o) refl h
    where
      no : (k : ℕ) → is_goal_kind k None ≡ true → ⊥
      no zero e = cc
      no (suc k) e = cc

      go : (x : Option FlatAttr) → attribute_of symbols r o ≡ x → is_goal_kind o.occ x ≡ true → (attr : FlatAttr) × (attribute_of symbols r o ≡ Some attr) × (is_goal_kind o.occ (Some attr) ≡ true)
      go None e g = absurd (no o.occ g)
      go (Some attr) e g = (attr, e, g)

  pub placed : (i : Instance) (n : ℕ) (o : Occ) → IsSite symbols rules t i n o → Placed i n o
  placed i n o s =
      let g = goal-attr s.rule o (sym ((is-rule n s.rule s.at).goals o) ∙ goal-any s.rule.comps o s.goal) in
      subst (λ j. Placed j n o) (sym s.gives) (occurs n s.rule o g.0 s.at g.1 g.2)

  one-attr : (i : Instance) (n m : ℕ) (o p : Occ) (a : Placed i n o) (b : Placed i m p) → a.attr ≡ b.attr
  one-attr i n m o p a b = held (sym a.is ∙ (ap (λ (r : FlatRule). attribute_at symbols r.left (record { 0 = i.1 })) (one-rule rules t i.0 a.rule b.rule a.at b.at) ∙ b.is))

  true-false : (b : Bool) → b ≡ true → b ≡ false → ⊥
  true-false true e f = cc
  true-false false e f = cc

  -- an instance has one site
  pub one-site : (i : Instance) (n m : ℕ) (o p : Occ) → IsSite symbols rules t i n o → IsSite symbols rules t i m p → (n ≡ m) × (o ≡ p)
  one-site i n m o p s q = go (placed i n o s) (placed i m p q)
    where
      go : Placed i n o → Placed i m p → (n ≡ m) × (o ≡ p)
      go a b = how a.how b.how
        where
          attrs : a.attr ≡ b.attr
          attrs = one-attr i n m o p a b

          how : ((is_synthesized a.attr.kind ≡ true) × (o.occ ≡ 0) × (i.0 ≡ n)) ⊎ ((is_synthesized a.attr.kind ≡ false) × ((k : ℕ) × (o.occ ≡ suc k) × (child_at t n (suc k) ≡ Some i.0)))
              → ((is_synthesized b.attr.kind ≡ true) × (p.occ ≡ 0) × (i.0 ≡ m)) ⊎ ((is_synthesized b.attr.kind ≡ false) × ((k : ℕ) × (p.occ ≡ suc k) × (child_at t m (suc k) ≡ Some i.0)))
              → (n ≡ m) × (o ≡ p)
          how (inl (k, e, f)) (inl (k', e', f')) = (sym f ∙ f', same-occ o p (e ∙ sym e') (sym a.number ∙ b.number))
          how (inl (k, e, f)) (inr (k', z)) = absurd (true-false (is_synthesized a.attr.kind) k (ap (λ (x : FlatAttr). is_synthesized x.kind) attrs ∙ k'))
          how (inr (k, z)) (inl (k', e, f)) = absurd (true-false (is_synthesized b.attr.kind) k' (ap (λ (x : FlatAttr). is_synthesized x.kind) (sym attrs) ∙ k))
          how (inr (k, (j, e, f))) (inr (k', (j', e', f'))) =
              let x = child-facts t grown.tree n (suc j) i.0 f in
              let y = child-facts t grown.tree m (suc j') i.0 f' in
              (held (sym x.parent ∙ y.parent), same-occ o p (e ∙ ((sym x.placed ∙ y.placed) ∙ sym e')) (sym a.number ∙ b.number))

  attrs-at : (s : SymId) (a : ℕ) → a < length (attrs_of symbols s) → (attr : FlatAttr) × (attribute_at symbols s (record { 0 = a }) ≡ Some attr)
  attrs-at s a h = go (slice_get symbols s.0) refl h
    where
      go : (x : Option FlatSymbol) → slice_get symbols s.0 ≡ x → a < length {A = FlatAttr} (elim x [ None ↦ [] | Some y ↦ y.attrs ]) → (attr : FlatAttr) × (attribute_at symbols s (record { 0 = a }) ≡ Some attr)
      go None e l = absurd (omega arith)
      go (Some y) e l = at y.attrs refl l
        where
          at : (attrs : List FlatAttr) → y.attrs ≡ attrs → a < length attrs → (attr : FlatAttr) × (attribute_at symbols s (record { 0 = a }) ≡ Some attr)
          at [] f l = absurd (omega arith)
          at (b ∷ bs) f l = (get_or (b ∷ bs) a b, ap (λ o. option_and_then (λ (x : FlatSymbol). slice_get x.attrs a) o) e ∙ (ap (λ z. slice_get z a) f ∙ slice_get-get_or (b ∷ bs) a b l))

  at-attrs : (s : SymId) (a : ℕ) (attr : FlatAttr) → attribute_at symbols s (record { 0 = a }) ≡ Some attr → a < length (attrs_of symbols s)
  at-attrs s a attr e = go (slice_get symbols s.0) refl e
    where
      go : (x : Option FlatSymbol) → slice_get symbols s.0 ≡ x → option_and_then (λ (y : FlatSymbol). slice_get y.attrs a) x ≡ Some attr → a < length (attrs_of symbols s)
      go None f h = absurd (none-some _ h)
      go (Some y) f h = let l = slice_get_within y.attrs a attr h in subst (λ z. a < length {A = FlatAttr} (elim z [ None ↦ [] | Some x ↦ x.attrs ])) (sym f) l

  pub site-instance : (i : Instance) (n : ℕ) (o : Occ) → IsSite symbols rules t i n o → IsInstance symbols rules t i
  site-instance i n o s = let p = placed i n o s in (p.rule, p.at, at-attrs p.rule.left i.1 p.attr p.is)

  pub above : (m : ℕ) → 0 < m → m < length t → (p : ℕ) × (k : ℕ) × (child_at t p (suc k) ≡ Some m)
  above zero h l = absurd (omega arith)
  above (suc n) h l =
      let e : n + 1 ≡ suc n = omega arith in
      let q = parent_there t grown.tree n (omega arith) in
      let c = parent-child t grown.tree (suc n) q.0 l (subst (λ x. parent_of t x ≡ Some q.0) e q.1) in (q.0, c.0, c.1)

  -- the symbol at the occurrence where a child stands is the child's
  pub child-symbol : (n k c : ℕ) (r q : FlatRule) → HasRule rules t n r → HasRule rules t c q → child_at t n k ≡ Some c → symbol_at r k ≡ Some q.left
  child-symbol n k c r q at be e =
      let f = child-facts t grown.tree n k c e in
      let z = AllZip-left (IsOf symbols rules t) r.right (items_of t n) f.place (Child c) (grown.items n r at) f.item in
      ap (λ j. symbol_at r j) f.occ ∙ (z.1 ∙ ap Some (sym z.2.2 ∙ ap (λ (x : FlatRule). x.left) (one-rule rules t c z.2.0 q z.2.1 be)))

  -- each instance is computed somewhere
  pub instance-site : (i : Instance) → IsInstance symbols rules t i → (n : ℕ) × (o : Occ) × IsSite symbols rules t i n o
  instance-site i (r, at, h) = go a.0.kind refl
    where
      a : (attr : FlatAttr) × (attribute_at symbols r.left (record { 0 = i.1 }) ≡ Some attr)
      a = attrs-at r.left i.1 h

      up : (m : ℕ) → i.0 ≡ m → is_synthesized a.0.kind ≡ false → (n : ℕ) × (o : Occ) × IsSite symbols rules t i n o
      up zero e k =
          let root-rule = grown.root_node in
          let same : r ≡ root-rule.0 = one-rule rules t 0 r root-rule.0 (subst (λ n. HasRule rules t n r) e at) root-rule.1 in
          let left : r.left ≡ root = ap (λ (x : FlatRule). x.left) same ∙ root-rule.2 in
          absurd (true-false (is_synthesized a.0.kind) (bare (record { 0 = i.1 }) a.0 (subst (λ l. attribute_at symbols l (record { 0 = i.1 }) ≡ Some a.0) left a.1)) k)
      up (suc m) e k =
          let p = above i.0 (omega arith) (inside i.0 r at) in
          let f = child-facts t grown.tree p.0 (suc p.1) i.0 p.2 in
          let q = grown.nodes p.0 (let x = f.later in let y = f.inside in omega arith) in
          let o : Occ = record { occ = suc p.1; attr = record { 0 = i.1 } } in
          let s : symbol_at q.0 (suc p.1) ≡ Some r.left = child-symbol p.0 (suc p.1) i.0 q.0 r q.1 at p.2 in
          let is : attribute_of symbols q.0 o ≡ Some a.0 = ap (λ (x : Option SymId). elim x [ None ↦ None | Some z ↦ attribute_at symbols z (record { 0 = i.1 }) ]) s ∙ a.1 in
          let goal : is_goal symbols q.0 o ≡ true = ap (λ x. is_goal_kind (suc p.1) x) is ∙ ap not k in
          (p.0, o, record { rule = q.0; at = q.1; goal = any-goal q.0.comps o ((is-rule p.0 q.0 q.1).goals o ∙ goal); gives = λ j. (ap (λ x. unwrap_or x p.0) (sym p.2) j, i.1) })

      own : is_synthesized a.0.kind ≡ true → (n : ℕ) × (o : Occ) × IsSite symbols rules t i n o
      own k =
          let o : Occ = record { occ = 0; attr = record { 0 = i.1 } } in
          let goal : is_goal symbols r o ≡ true = ap (λ x. is_goal_kind 0 x) a.1 ∙ k in
          (i.0, o, record { rule = r; at = at; goal = any-goal r.comps o ((is-rule i.0 r at).goals o ∙ goal); gives = refl })

      go : (k : Kind) → a.0.kind ≡ k → (n : ℕ) × (o : Occ) × IsSite symbols rules t i n o
      go Synthesized e = own (ap is_synthesized e)
      go Inherited e = up i.0 refl (ap is_synthesized e)
