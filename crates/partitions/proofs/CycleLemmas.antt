-- A search that has closed all vertices gives an order, and a vertex that leads back to the path gives a cycle.
use Rattle.std.specs.Prelude.{slice_get, replicate}
use Rattle.std.proofs.Common.{◌≡◌, ℕ, zero, suc, ◌-◌, ◌<◌, ◌≤◌, inl, inr, List, [], length, Option, Some, None, refl, sym, ap, subst, ◌∙◌, arith}
use Rattle.std.proofs.lemmas.List.{length-replicate}
use Rattle.std.proofs.lemmas.List.Folds.{sum_by-replicate}
use Rattle.std.proofs.lemmas.Option.{none-some}
use Rattle.flat_grammar.proofs.Lists.{held}
use Rattle.partitions.specs.declared.search.Mark.{Mark}
use Rattle.partitions.specs.declared.search.Mark.TheVariants.{Fresh, Entered, Closed}
use Rattle.partitions.specs.Graph.{IsEdge, IsOrdered, IsGraphCycle}
use Rattle.partitions.specs.Search.{IsSearch, IsBack, IsCycleOn, IsTurnedPlace, weight}
use Rattle.partitions.proofs.PeelingLemmas.{below-length, get-below}

replicate-get : {X : Type 0} (n : ℕ) (x : X) (k : ℕ) (y : X) → slice_get (replicate n x) k ≡ Some y → x ≡ y
replicate-get zero x k y e = absurd (none-some y e)
replicate-get (suc n) x zero y e = held e
replicate-get (suc n) x (suc k) y e = replicate-get n x k y e

-- a search of which nothing is known
pub new-search : (preds : List (List ℕ)) → IsSearch preds (replicate (length preds) Fresh) (replicate (length preds) 0) [] 0
new-search preds = record {
  marks_count = length-replicate (length preds) Fresh;
  tried_count = length-replicate {A = ℕ} (length preds) 0;
  numbered = λ u v n e at. absurd (let same = replicate-get (length preds) Fresh v (Closed n) at in cc);
  below = λ v n at. absurd (let same = replicate-get (length preds) Fresh v (Closed n) at in cc);
  entered = λ i v at. absurd (none-some v at);
  on_path = λ v at. absurd (let same = replicate-get (length preds) Fresh v Entered at in cc);
  linked = λ i u v at next. absurd (none-some v at);
  apart = λ i j v a b. absurd (none-some v a);
  before = λ v t j u row a b l g. absurd (let same = replicate-get (length preds) 0 v t a in omega arith);
  total = let e = sum_by-replicate weight (length preds) Fresh in omega arith;
}

number : Option Mark → ℕ
number None = 0
number (Some Fresh) = 0
number (Some Entered) = 0
number (Some (Closed n)) = n

number-closed : (n : ℕ) → number (Some (Closed n)) ≡ n
unfolding number
number-closed n = refl

module _ (preds : List (List ℕ)) (marks : List Mark) (tried path : List ℕ) (count : ℕ) (s : IsSearch preds marks tried path count) where
  -- where no vertex is fresh and the path is empty, each edge rises
  pub is-ordered : path ≡ [] → ((v : ℕ) → v < length preds → ¬ (slice_get marks v ≡ Some Fresh)) → IsOrdered preds
  is-ordered empty roots = (λ v. number (slice_get marks v), count, bound, rises)
    where
      closed : (v : ℕ) → v < length preds → (n : ℕ) × (slice_get marks v ≡ Some (Closed n))
      closed v h = let got = get-below marks v (let c = s.marks_count in omega arith) in go got.0 got.1
        where
          go : (m : Mark) → slice_get marks v ≡ Some m → (n : ℕ) × (slice_get marks v ≡ Some (Closed n))
          go Fresh e = absurd (roots v h e)
          go Entered e = let on = s.on_path v e in absurd (none-some v (sym (ap (λ (p : List ℕ). slice_get p on.0) empty) ∙ on.1))
          go (Closed n) e = (n, e)

      is-number : (v n : ℕ) → slice_get marks v ≡ Some (Closed n) → number (slice_get marks v) ≡ n
      is-number v n at = ap number at ∙ number-closed n

      bound : (v : ℕ) → v < length preds → number (slice_get marks v) < count
      bound v h = let c = closed v h in let e = is-number v c.0 c.1 in let l = s.below v c.0 c.1 in omega arith

      rises : (u v : ℕ) → IsEdge preds u v → number (slice_get marks u) < number (slice_get marks v)
      rises u v (row, at, m) =
          let c = closed v (below-length preds v row at) in
          let before = s.numbered u v c.0 (row, at, m) c.1 in
          let e = is-number v c.0 c.1 in let f = is-number u before.0 before.1 in let l = before.2 in omega arith

  module _ (u : ℕ) (back : IsBack preds path u) (cycle : List ℕ) (on : IsCycleOn path u cycle) where
    abbrev Placed : ℕ → ℕ → Type 0
    Placed j w = (k : ℕ) × IsTurnedPlace (length path) on.from on.first j k × (slice_get path k ≡ Some w)

    count_is : length cycle ≡ length path - on.from
    count_is = on.turned.count

    closing : (l w : ℕ) → suc l ≡ length path → slice_get path l ≡ Some w → IsEdge preds u w
    closing l w longer at = let e = back.4 in let same : back.1 ≡ l = omega arith in subst (λ z. IsEdge preds u z) (held (sym back.5 ∙ ap (λ i. slice_get path i) same ∙ at)) back.6

    at-start : (k w : ℕ) → k ≡ on.from → slice_get path k ≡ Some w → w ≡ u
    at-start k w e at = held (sym at ∙ ap (λ i. slice_get path i) e ∙ on.start)

    link : (k l a b : ℕ) → k ≡ suc l → slice_get path k ≡ Some a → slice_get path l ≡ Some b → IsEdge preds a b
    link k l a b e at next = s.linked l a b next (ap (λ i. slice_get path i) (sym e) ∙ at)

    edge : (j a b : ℕ) → Placed j a → Placed (suc j) b → IsEdge preds a b
    edge j a b (k, inl p, at) (l, inl q, next) = let x = p.1 in let y = q.1 in link k l a b (omega arith) at next
    edge j a b (k, inl p, at) (l, inr q, next) =
        let behind = on.behind in let x = p.1 in let y = q.1 in let z = p.0 in let w = q.0 in
        subst (λ v. IsEdge preds v b) (sym (at-start k a (omega arith) at)) (closing l b (omega arith) next)
    edge j a b (k, inr p, at) (l, inl q, next) = absurd (let x = p.0 in let y = q.0 in omega arith)
    edge j a b (k, inr p, at) (l, inr q, next) = let x = p.1 in let y = q.1 in link k l a b (omega arith) at next

    first-at : (b : ℕ) → Placed 0 b → slice_get path on.first ≡ Some b
    first-at b (l, inl q, next) = let x = q.1 in let e : on.first ≡ l = omega arith in ap (λ i. slice_get path i) e ∙ next
    first-at b (l, inr q, next) = absurd (let x = q.0 in let y = on.behind in omega arith)

    last-edge : (j a b : ℕ) → suc j ≡ length cycle → Placed j a → slice_get path on.first ≡ Some b → IsEdge preds a b
    last-edge j a b longer (k, inl p, at) first =
        let c = count_is in let behind = on.behind in let inside = on.inside in let x = p.0 in let y = p.1 in
        subst (λ v. IsEdge preds v b) (sym (at-start k a (omega arith) at)) (closing on.first b (omega arith) first)
    last-edge j a b longer (k, inr p, at) first =
        let c = count_is in let behind = on.behind in let inside = on.inside in let x = p.0 in let y = p.1 in link k on.first a b (omega arith) at first

    one : (i j w : ℕ) → i < length cycle → j < length cycle → Placed i w → Placed j w → i ≡ j
    one i j w h g (k, inl p, at) (l, inl q, next) = let e = s.apart k l w at next in let x = p.1 in let y = q.1 in omega arith
    one i j w h g (k, inl p, at) (l, inr q, next) = absurd (let e = s.apart k l w at next in let x = p.1 in let y = q.1 in let c = count_is in let inside = on.inside in let behind = on.behind in omega arith)
    one i j w h g (k, inr p, at) (l, inl q, next) = absurd (let e = s.apart k l w at next in let x = p.1 in let y = q.1 in let c = count_is in let inside = on.inside in let behind = on.behind in omega arith)
    one i j w h g (k, inr p, at) (l, inr q, next) = let e = s.apart k l w at next in let x = p.1 in let y = q.1 in omega arith

    behind-start : (j w : ℕ) → j < length cycle → Placed j w → (k : ℕ) × (on.from ≤ k) × (slice_get path k ≡ Some w)
    behind-start j w h (k, inl p, at) = (k, (let x = p.0 in let y = p.1 in omega arith), at)
    behind-start j w h (k, inr p, at) = (k, (let x = p.0 in let y = p.1 in let c = count_is in let inside = on.inside in let behind = on.behind in omega arith), at)

    placed : (j w : ℕ) → slice_get cycle j ≡ Some w → Placed j w
    placed j w at = on.turned.places j w at

    pub is-cycle : IsGraphCycle preds cycle
    is-cycle = record {
      some = let c = count_is in let inside = on.inside in let behind = on.behind in omega arith;
      edges = λ j a b at next. edge j a b (placed j a at) (placed (suc j) b next);
      closed = λ j a b longer at first. last-edge j a b longer (placed j a at) (first-at b (placed 0 b first));
      apart = λ i j w a b. one i j w (below-length cycle i w a) (below-length cycle j w b) (placed i w a) (placed j w b);
      least = λ j a b first at. let h = behind-start j b (below-length cycle j b at) (placed j b at) in on.least h.0 a b h.1 (first-at a (placed 0 a first)) h.2;
    }
