-- The least origin, attribute by attribute.
use Rattle.std.specs.Prelude.{slice_get, option_map}
use Rattle.std.proofs.Common.{◌≡◌, ◌≤◌, ◌<◌, ◌+◌, ◌⊎◌, ℕ, List, length, Bool, true, false, Option, Some, None, refl, arith, ap, sym, subst, ◌∙◌, inl, inr, true≢false, get_or}
use Rattle.std.proofs.lemmas.Option.{slice_get-get_or, slice_get_within, none-some}
use Rattle.std.proofs.lemmas.Bool.{cases_order}
use Rattle.lido_base.specs.declared.value.Value.{Value}
use Rattle.lido_base.specs.declared.value.Value.TheVariants as value
use Rattle.lido_base.specs.declared.value.Origin.{Origin}
use Rattle.lido_base.specs.Origins.{IsAtMost, rank}
use Rattle.lido_base.specs.Plain.{Plain, plain, Bad}
use Rattle.flat_grammar.specs.declared.flat.FlatRule.{FlatRule}
use Rattle.flat_grammar.specs.declared.flat.FlatAttr.{FlatAttr}
use Rattle.flat_grammar.specs.Rules.{attrs_of, HasRule}
use Rattle.flat_grammar.specs.WholeOrder.{Instance}
use Rattle.flat_grammar.specs.FlatAttribution.{IsFaultyAt, IsLeastFault}
use Rattle.flat_grammar.proofs.Lists.{held}
use Rattle.flat_grammar.proofs.GrownLemmas.{one-rule}
use Rattle.core_machine.specs.Machine.{final}
use Rattle.core_machine.specs.Core.{Task, IsTask, machine}
use Rattle.core_machine.specs.Slots.{found, offset}
use Rattle.core_machine.specs.Faults.{IsLeast, IsLesser, fault_of, IsBefore, IsFaultOf, IsFaultBefore}
use Rattle.core_machine.proofs.Jobs.{grown}
use Rattle.core_machine.proofs.Sites.{inside}

at-most-same : (o p : Origin) → o ≡ p → IsAtMost o p
at-most-same o p e = inr (ap (λ (x : Origin). x.node) e, inr (ap (λ (x : Origin). x.comp) e, (let k = ap (λ (x : Origin). rank x.kind) e in omega (arith, k))))

at-most-through : (o p q : Origin) → IsAtMost o p → IsAtMost p q → IsAtMost o q
at-most-through o p q (inl a) (inl b) = inl (omega (arith, a, b))
at-most-through o p q (inl a) (inr b) = let e = b.0 in inl (omega (arith, a, e))
at-most-through o p q (inr a) (inl b) = let e = a.0 in inl (omega (arith, e, b))
at-most-through o p q (inr (e, x)) (inr (f, y)) = inr (e ∙ f, go x y)
  where
    go : (o.comp < p.comp) ⊎ ((o.comp ≡ p.comp) × (rank o.kind ≤ rank p.kind)) → (p.comp < q.comp) ⊎ ((p.comp ≡ q.comp) × (rank p.kind ≤ rank q.kind)) → (o.comp < q.comp) ⊎ ((o.comp ≡ q.comp) × (rank o.kind ≤ rank q.kind))
    go (inl a) (inl b) = inl (omega (arith, a, b))
    go (inl a) (inr (b, c)) = inl (omega (arith, a, b))
    go (inr (a, c)) (inl b) = inl (omega (arith, a, b))
    go (inr (a, c)) (inr (b, d)) = inr (a ∙ b, omega (arith, c, d))

-- the lesser of two least origins is the least of both
pub least-of-both : (P Q R : Origin → Type 0) (a b r : Option Origin) → IsLeast P a → IsLeast Q b → IsLesser a b r
    → ((o : Origin) → R o → P o ⊎ Q o) → ((o : Origin) → P o → R o) → ((o : Origin) → Q o → R o) → IsLeast R r
least-of-both P Q R None None r none other e either left right =
    subst (IsLeast R) (sym e) (λ o h. elim (either o h) [ inl x ↦ none o x | inr y ↦ other o y ])
least-of-both P Q R None (Some b) r none other e either left right =
    subst (IsLeast R) (sym e) (right b other.0, λ p h. elim (either p h) [ inl x ↦ absurd (none p x) | inr y ↦ other.1 p y ])
least-of-both P Q R (Some a) None r one none e either left right =
    subst (IsLeast R) (sym e) (left a one.0, λ p h. elim (either p h) [ inl x ↦ one.1 p x | inr y ↦ absurd (none p y) ])
least-of-both P Q R (Some a) (Some b) r one other (inl (e, l)) either left right =
    subst (IsLeast R) (sym e) (left a one.0, λ p h. elim (either p h) [ inl x ↦ one.1 p x | inr y ↦ at-most-through a b p l (other.1 p y) ])
least-of-both P Q R (Some a) (Some b) r one other (inr (e, l)) either left right =
    subst (IsLeast R) (sym e) (right b other.0, λ p h. elim (either p h) [ inl x ↦ at-most-through b a p l (one.1 p x) | inr y ↦ other.1 p y ])

module _ (j : Task) (values : List Value) where
  bad-same : (v : Value) (o p : Origin) → v ≡ value.Bad o → v ≡ value.Bad p → o ≡ p
  bad-same v o p e f = cc

  -- one attribute's fault
  pub fault-here : (n k : ℕ) (q : FlatRule) (attr : FlatAttr) (v : Value) → HasRule j.rules j.flat n q → slice_get (attrs_of j.symbols q.left) k ≡ Some attr → found j values (n, k) ≡ Some v
      → IsLeast (IsFaultOf j values (n, k)) (fault_of attr v)
  fault-here n k q attr v at there is = go v is
    where
      bad-value : (o : Origin) → IsFaultOf j values (n, k) o → v ≡ value.Bad o
      bad-value o h = held (sym is ∙ h.5)

      marked : (o : Origin) → IsFaultOf j values (n, k) o → attr.written ≡ true
      marked o h =
          let same = one-rule j.rules j.flat n h.0 q h.2 at in
          let e : h.1 ≡ attr = held (sym h.3 ∙ ap (λ (z : FlatRule). slice_get (attrs_of j.symbols z.left) k) same ∙ there) in
          sym (ap (λ (x : FlatAttr). x.written) e) ∙ h.4

      go : (w : Value) → found j values (n, k) ≡ Some w → IsLeast (IsFaultOf j values (n, k)) (fault_of attr w)
      go (value.Bad o) f = written attr.written refl
        where
          written : (b : Bool) → attr.written ≡ b → IsLeast (IsFaultOf j values (n, k)) (elim b [ true ↦ Some o | _ ↦ None ])
          written true e = ((q, attr, at, there, e, f), λ p h. at-most-same o p (let a : value.Bad o ≡ value.Bad p = held (sym f ∙ h.5) in cc))
          written false e = λ p h. true≢false (sym (marked p h) ∙ e)
      go (value.Int z) f = λ p h. let a : value.Int z ≡ value.Bad p = held (sym f ∙ h.5) in cc
      go (value.Bool z) f = λ p h. let a : value.Bool z ≡ value.Bad p = held (sym f ∙ h.5) in cc
      go (value.Str z) f = λ p h. let a : value.Str z ≡ value.Bad p = held (sym f ∙ h.5) in cc
      go (value.Text z) f = λ p h. let a : value.Text z ≡ value.Bad p = held (sym f ∙ h.5) in cc
      go value.Void f = λ p h. let a : value.Void ≡ value.Bad p = held (sym f ∙ h.5) in cc

  -- one attribute more
  pub fault-more : (n k : ℕ) (q : FlatRule) (attr : FlatAttr) (v : Value) (a r : Option Origin) → HasRule j.rules j.flat n q → slice_get (attrs_of j.symbols q.left) k ≡ Some attr → found j values (n, k) ≡ Some v
      → IsLeast (IsFaultBefore j values n k) a → IsLesser a (fault_of attr v) r → IsLeast (IsFaultBefore j values n (k + 1)) r
  fault-more n k q attr v a r at there is least lesser =
      least-of-both (IsFaultBefore j values n k) (IsFaultOf j values (n, k)) (IsFaultBefore j values n (k + 1)) a (fault_of attr v) r least (fault-here n k q attr v at there is) lesser
      either (λ o h. (h.0, further h.0 h.1, h.2)) (λ o h. ((n, k), inr (refl, omega arith), h))
    where
      further : (i : Instance) → IsBefore n k i → IsBefore n (k + 1) i
      further i (inl l) = inl l
      further i (inr (e, l)) = inr (e, omega (arith, l))

      either : (o : Origin) → IsFaultBefore j values n (k + 1) o → IsFaultBefore j values n k o ⊎ IsFaultOf j values (n, k) o
      either o (i, inl l, h) = inl (i, inl l, h)
      either o (i, inr (e, l), h) = go (cases_order i.1 k)
        where
          go : (i.1 ≡ k) ⊎ ((i.1 < k) ⊎ (k < i.1)) → IsFaultBefore j values n k o ⊎ IsFaultOf j values (n, k) o
          go (inl same) = inr (let is-it : i ≡ (n, k) = λ x. (e x, same x) in subst (λ (z : Instance). IsFaultOf j values z o) is-it h)
          go (inr (inl less)) = inl (i, inr (e, less), h)
          go (inr (inr more)) = absurd (omega (arith, l, more))

  least-same : (P R : Origin → Type 0) (a : Option Origin) → IsLeast P a → ((o : Origin) → P o → R o) → ((o : Origin) → R o → P o) → IsLeast R a
  least-same P R None h to from = λ o x. h o (from o x)
  least-same P R (Some a) h to from = (to a h.0, λ p x. h.1 p (from p x))

  -- all attributes of a node, so all nodes before the next
  pub fault-next : (n : ℕ) (q : FlatRule) (k : ℕ) (a : Option Origin) → HasRule j.rules j.flat n q → k ≡ length (attrs_of j.symbols q.left) → IsLeast (IsFaultBefore j values n k) a → IsLeast (IsFaultBefore j values (n + 1) 0) a
  fault-next n q k a at all least = least-same (IsFaultBefore j values n k) (IsFaultBefore j values (n + 1) 0) a least (λ o h. (h.0, to h.0 h.1, h.2)) (λ o h. (h.0, from o h.0 h.1 h.2, h.2))
    where
      to : (i : Instance) → IsBefore n k i → IsBefore (n + 1) 0 i
      to i (inl l) = inl (omega (arith, l))
      to i (inr (e, l)) = inl (omega (arith, e))

      from : (o : Origin) (i : Instance) → IsBefore (n + 1) 0 i → IsFaultOf j values i o → IsBefore n k i
      from o i (inr (e, l)) h = absurd (omega (arith, l))
      from o i (inl l) h = go (cases_order i.0 n)
        where
          go : (i.0 ≡ n) ⊎ ((i.0 < n) ⊎ (n < i.0)) → IsBefore n k i
          go (inl same) =
              let there = subst (λ m. HasRule j.rules j.flat m h.0) same h.2 in
              let w = slice_get_within (attrs_of j.symbols h.0.left) i.1 h.1 h.3 in
              let e = ap (λ (z : FlatRule). length (attrs_of j.symbols z.left)) (one-rule j.rules j.flat n h.0 q there at) in
              inr (same, omega (arith, w, e, all))
          go (inr (inl less)) = inl less
          go (inr (inr more)) = absurd (omega (arith, l, more))

  pub fault-first : IsLeast (IsFaultBefore j values 0 0) None
  fault-first = λ o h. go h.0 h.1
    where
      go : (i : Instance) → IsBefore 0 0 i → ⊥
      go i (inl l) = omega (arith, l)
      go i (inr (e, l)) = omega (arith, l)

module _ (j : Task) (task : IsTask j) (values : List Value) where
  -- one attribute more, by the node's list of attributes
  pub fault-step : (n k begin : ℕ) (items : List FlatAttr) (d : FlatAttr) (w : Value) (a b r : Option Origin) → n < length j.flat → ((q : FlatRule) → HasRule j.rules j.flat n q → items ≡ attrs_of j.symbols q.left)
      → k < length items → begin ≡ offset j n → begin + k < length values → IsLeast (IsFaultBefore j values n k) a
      → b ≡ fault_of (get_or items k d) (get_or values (begin + k) w) → IsLesser a b r → IsLeast (IsFaultBefore j values n (k + 1)) r
  fault-step n k begin items d w a b r h are low e inside least is lesser =
      let q = (grown j task).nodes n h in
      let there : slice_get (attrs_of j.symbols q.0.left) k ≡ Some (get_or items k d) = ap (λ l. slice_get l k) (sym (are q.0 q.1)) ∙ slice_get-get_or items k d low in
      let place : offset j n + k ≡ begin + k = ap (λ m. m + k) (sym e) in
      let stored : found j values (n, k) ≡ Some (get_or values (begin + k) w) = ap (slice_get values) place ∙ slice_get-get_or values (begin + k) w inside in
      fault-more j values n k q.0 (get_or items k d) (get_or values (begin + k) w) a r q.1 there stored least (subst (λ o. IsLesser a o r) is lesser)

  pub fault-done : (n k : ℕ) (items : List FlatAttr) (a : Option Origin) → n < length j.flat → ((q : FlatRule) → HasRule j.rules j.flat n q → items ≡ attrs_of j.symbols q.left)
      → k ≤ length items → length items ≤ k → IsLeast (IsFaultBefore j values n k) a → IsLeast (IsFaultBefore j values (n + 1) 0) a
  fault-done n k items a h are low high least =
      let q = (grown j task).nodes n h in let e = ap length (are q.0 q.1) in
      fault-next j values n q.0 k a q.1 (omega (arith, e, low, high)) least

  abbrev shown : Instance → Option Plain
  shown i = option_map (plain j.texts) ((final (machine j)).values i)

  abbrev IsShownFaulty : Origin → Type 0
  IsShownFaulty = IsFaultyAt j.symbols j.rules j.flat shown

  bad-plain : (o : Origin) (v : Option Value) → option_map (plain j.texts) v ≡ Some (Bad o) → v ≡ Some (value.Bad o)
  bad-plain o None e = absurd (none-some _ e)
  bad-plain o (Some (value.Bad p)) e = let f : Bad p ≡ Bad o = held e in cc
  bad-plain o (Some (value.Int z)) e = let f : plain j.texts (value.Int z) ≡ Bad o = held e in cc
  bad-plain o (Some (value.Bool z)) e = let f : plain j.texts (value.Bool z) ≡ Bad o = held e in cc
  bad-plain o (Some (value.Str z)) e = let f : plain j.texts (value.Str z) ≡ Bad o = held e in cc
  bad-plain o (Some (value.Text z)) e = let f : plain j.texts (value.Text z) ≡ Bad o = held e in cc
  bad-plain o (Some value.Void) e = let f : plain j.texts value.Void ≡ Bad o = held e in cc

  module _ (stored : (i : Instance) (r : FlatRule) → HasRule j.rules j.flat i.0 r → i.1 < length (attrs_of j.symbols r.left) → found j values i ≡ (final (machine j)).values i) where
    shows : (o : Origin) → IsFaultBefore j values (length j.flat) 0 o → IsShownFaulty o
    shows o (i, before, (r, attr, at, there, written, is)) =
        let w = slice_get_within (attrs_of j.symbols r.left) i.1 attr there in
        (i.0, i.1, r, attr, at, there, written, ap (option_map (plain j.texts)) (sym (stored i r at w) ∙ is))

    hides : (o : Origin) → IsShownFaulty o → IsFaultBefore j values (length j.flat) 0 o
    hides o (n, a, r, attr, at, there, written, is) =
        let w = slice_get_within (attrs_of j.symbols r.left) a attr there in
        ((n, a), inl (inside j.symbols j.rules j.shapes j.root j.flat task.formed (grown j task) task.root_bare n r at), (r, attr, at, there, written, stored (n, a) r at w ∙ bad-plain o ((final (machine j)).values (n, a)) is))

    pub least-shown : (bad : Option Origin) → IsLeast (IsFaultBefore j values (length j.flat) 0) bad
        → ((o : Origin) → bad ≡ Some o → IsLeastFault j.symbols j.rules j.flat shown o) × (bad ≡ None → (o : Origin) → ¬ IsShownFaulty o)
    least-shown None least = (λ o e. absurd (none-some _ e), λ e o h. least o (hides o h))
    least-shown (Some b) least = (
      λ o e. subst (IsLeastFault j.symbols j.rules j.flat shown) (held e) (shows b least.0, λ p h. least.1 p (hides p h)),
      λ e. absurd (none-some _ (sym e)),
    )
