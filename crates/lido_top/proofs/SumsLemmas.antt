-- The sums from some node on.
use Rattle.std.proofs.Common.{◌≡◌, ◌≢◌, ℕ, ℤ, ◌+◌, ◌-◌, ◌<◌, ◌≤◌, ◌+ℤ◌, pos, List, [], ◌∷◌, length, set, map, Option, Some, None, refl, ap, sym, ◌∙◌, arith, subst, slice_get, ⊎_elim, Result, Ok, Err, IfOk, IfErr, get_or-set_other, get_or-set_same, zero, suc, length-set, FitsSigned, w64}
use Rattle.std.proofs.lemmas.Bool.{cases_eq}
use Rattle.std.proofs.lemmas.List.{length-map}
use Rattle.sum_trees.specs.declared.form.SumRule.{SumRule}
use Rattle.sum_trees.specs.declared.form.TreeNode.{TreeNode}
use Rattle.sum_trees.specs.declared.form.Child.{Child}
use Rattle.sum_trees.specs.declared.form.Child.TheVariants as children
use Rattle.sum_trees.specs.declared.form.FormFault.{FormFault}
use Rattle.sum_trees.specs.declared.form.FormFault.TheVariants as fault
use Rattle.sum_trees.specs.Trees.{node_at, IsPreorder}
use Rattle.lido_top.specs.Sums.{value_at, child_value, place_value, sum_after, places_of, sum_at, Stays, StaysAt, AllStay, IsAttribution, IsOnlyAttribution}
use Rattle.lido_top.specs.Steps.{AreSums}

-- the two assignments agree on the children of the node
abbrev pub Agree : List ℤ → List ℤ → TreeNode → Type 0
Agree old new n = (k m : ℕ) → slice_get n.children k ≡ Some (children.Node m) → value_at new m ≡ value_at old m

child_same : (old new : List ℤ) (o : Option Child) → ((m : ℕ) → o ≡ Some (children.Node m) → value_at new m ≡ value_at old m) → child_value new o ≡ child_value old o
child_same old new None agree = refl
child_same old new (Some (children.Node m)) agree = agree m refl
child_same old new (Some (children.Int z)) agree = refl

place_same : (old new : List ℤ) (n : TreeNode) (place : ℕ) → Agree old new n → place_value new n place ≡ place_value old n place
place_same old new n place agree = child_same old new (slice_get n.children (place - 1)) (agree (place - 1))

pub sum_same : (old new : List ℤ) (n : TreeNode) (before : ℤ) (places : List ℕ) → Agree old new n → sum_after new n before places ≡ sum_after old n before places
sum_same old new n before [] agree = refl
sum_same old new n before (place ∷ more) agree =
    ap (λ (z : ℤ). sum_after new n (before +ℤ z) more) (place_same old new n place agree) ∙ sum_same old new n (before +ℤ place_value old n place) more agree

pub stays_same : (old new : List ℤ) (n : TreeNode) (before : ℤ) (places : List ℕ) → Agree old new n → Stays old n before places → Stays new n before places
stays_same old new n before [] agree stays = tt
stays_same old new n before (place ∷ more) agree stays =
    subst (λ (z : ℤ). FitsSigned w64 (before +ℤ z) × Stays new n (before +ℤ z) more) (sym (place_same old new n place agree))
    (stays.0, stays_same old new n (before +ℤ place_value old n place) more agree stays.1)

-- the nodes from i on have their sums, and could have no others
pub record HasSums (rules : List SumRule) (nodes : List TreeNode) (values : List ℤ) (i : ℕ) : Type 0 where
  pub size : length values ≡ length nodes
  pub meets : (j : ℕ) → i ≤ j → j < length nodes → value_at values j ≡ sum_at rules nodes values j
  pub only : (others : List ℤ) → IsAttribution rules nodes others → (j : ℕ) → i ≤ j → j < length nodes → value_at others j ≡ value_at values j

-- the sums at the nodes from i on stay in 64 bits
abbrev pub StayFrom : List SumRule → List TreeNode → List ℤ → ℕ → Type 0
StayFrom rules nodes values i = (j : ℕ) → i ≤ j → j < length nodes → StaysAt rules nodes values j

pub none_yet : (rules : List SumRule) (nodes : List TreeNode) (values : List ℤ) (i : ℕ) → length values ≡ length nodes → length nodes ≤ i → HasSums rules nodes values i
none_yet rules nodes values i size past = record {
  size = size;
  meets = λ j low high. absurd (omega arith);
  only = λ others is j low high. absurd (omega arith);
}

-- a node's value says nothing of what the nodes behind it, and itself, read
agree_behind : (nodes : List TreeNode) (values : List ℤ) (k : ℕ) (z : ℤ) → IsPreorder nodes → (j : ℕ) → k ≤ j → j < length nodes → Agree values (set values k z) (node_at nodes j)
agree_behind nodes values k z preorder j low high q m child =
    get_or-set_other values k m z (pos 0) (λ e. omega (arith, e, (preorder j q m high child).0))

pub one_more : (rules : List SumRule) (nodes : List TreeNode) (values : List ℤ) (k : ℕ) (z : ℤ) → IsPreorder nodes → k < length nodes → HasSums rules nodes values (k + 1)
    → z ≡ sum_at rules nodes values k → HasSums rules nodes (set values k z) k
one_more rules nodes values k z preorder less sums is =
    let there : k < length values = omega (arith, sums.size) in
    let apart : (m : ℕ) → m ≢ k → value_at (set values k z) m ≡ value_at values m = λ m ne. get_or-set_other values k m z (pos 0) ne in
    let here : value_at (set values k z) k ≡ z = get_or-set_same values k z (pos 0) there in
    let agree = agree_behind nodes values k z preorder in
    record {
      size = ap length refl ∙ length-set values k z ∙ sums.size;
      meets = λ j low high. ⊎_elim
          (λ e. subst (λ (i : ℕ). value_at (set values k z) i ≡ sum_at rules nodes (set values k z) i) (sym e)
          (here ∙ is ∙ sym (sum_same values (set values k z) (node_at nodes k) (pos 0) (places_of rules nodes k) (agree k (omega arith) less))))
          (λ ne. apart j ne ∙ sums.meets j (omega (arith, ne)) high ∙ sym (sum_same values (set values k z) (node_at nodes j) (pos 0) (places_of rules nodes j) (agree j low high)))
          (cases_eq j k);
      only = λ others attribution j low high. ⊎_elim
          (λ e. subst (λ (i : ℕ). value_at others i ≡ value_at (set values k z) i) (sym e)
          (attribution.each k less
          ∙ sum_same values others (node_at nodes k) (pos 0) (places_of rules nodes k)
          (λ q m child. sums.only others attribution m (omega (arith, (preorder k q m less child).0)) (preorder k q m less child).1)
          ∙ sym is ∙ sym here))
          (λ ne. sums.only others attribution j (omega (arith, ne)) high ∙ sym (apart j ne))
          (cases_eq j k);
    }

pub stay_more : (rules : List SumRule) (nodes : List TreeNode) (values : List ℤ) (k : ℕ) (z : ℤ) → IsPreorder nodes → k < length nodes → StayFrom rules nodes values (k + 1)
    → StaysAt rules nodes values k → StayFrom rules nodes (set values k z) k
stay_more rules nodes values k z preorder less stay here j low high =
    stays_same values (set values k z) (node_at nodes j) (pos 0) (places_of rules nodes j) (agree_behind nodes values k z preorder j low high)
    (⊎_elim
    (λ e. subst (λ (i : ℕ). StaysAt rules nodes values i) (sym e) here)
    (λ ne. stay j (omega (arith, ne)) high)
    (cases_eq j k))

-- an assignment whose sums stay in 64 bits has such a sum at this node too
pub would_stay : (rules : List SumRule) (nodes : List TreeNode) (values others : List ℤ) (k : ℕ) → IsPreorder nodes → k < length nodes → HasSums rules nodes values (k + 1)
    → IsAttribution rules nodes others → AllStay rules nodes others → StaysAt rules nodes values k
would_stay rules nodes values others k preorder less sums attribution all =
    stays_same others values (node_at nodes k) (pos 0) (places_of rules nodes k)
    (λ q m child. sym (sums.only others attribution m (omega (arith, (preorder k q m less child).0)) (preorder k q m less child).1))
    (all k less)

same_values : (xs ys : List ℤ) → length xs ≡ length ys → ((n : ℕ) → n < length xs → value_at xs n ≡ value_at ys n) → xs ≡ ys
same_values [] [] size each = refl
same_values [] (y ∷ ys) size each = absurd (omega (arith, size))
same_values (x ∷ xs) [] size each = absurd (omega (arith, size))
same_values (x ∷ xs) (y ∷ ys) size each =
    ap (λ (z : ℤ). z ∷ xs) (each 0 (omega arith)) ∙ ap (λ (l : List ℤ). y ∷ l) (same_values xs ys (omega (arith, size)) (λ n less. each (suc n) (omega arith)))

pub all_summed : (rules : List SumRule) (nodes : List TreeNode) (values : List ℤ) → HasSums rules nodes values 0 → IsOnlyAttribution rules nodes values
all_summed rules nodes values sums = record {
  meets = record { all = sums.size; each = λ n less. sums.meets n (omega arith) less };
  only = λ others is. same_values others values (is.all ∙ sym sums.size) (λ n less. sums.only others is n (omega arith) (omega (arith, is.all)));
}

-- ---- each tree in preorder has exactly one assignment

last_summed : (rules : List SumRule) (nodes : List TreeNode) → IsPreorder nodes → (n : ℕ) → n ≤ length nodes → (values : List ℤ) × HasSums rules nodes values (length nodes - n)
last_summed rules nodes preorder zero small =
    (map (λ node. pos 0) nodes, none_yet rules nodes (map (λ node. pos 0) nodes) (length nodes - 0) (length-map nodes (λ node. pos 0)) (omega arith))
last_summed rules nodes preorder (suc n) small =
    let before = last_summed rules nodes preorder n (omega arith) in
    let k = length nodes - suc n in
    let next : length nodes - n ≡ k + 1 = omega arith in
    let z = sum_at rules nodes before.0 k in
    (set before.0 k z, one_more rules nodes before.0 k z preorder (omega arith) (subst (λ (i : ℕ). HasSums rules nodes before.0 i) next before.1) refl)

pub attribution_of : (rules : List SumRule) (nodes : List TreeNode) → IsPreorder nodes → (values : List ℤ) × IsOnlyAttribution rules nodes values
attribution_of rules nodes preorder =
    let all = last_summed rules nodes preorder (length nodes) (omega arith) in
    let first : length nodes - length nodes ≡ 0 = omega arith in
    (all.0, all_summed rules nodes all.0 (subst (λ (i : ℕ). HasSums rules nodes all.0 i) first all.1))

-- so what meets the equations is the only one
pub only_one : (rules : List SumRule) (nodes : List TreeNode) (values : List ℤ) → IsPreorder nodes → IsAttribution rules nodes values → IsOnlyAttribution rules nodes values
only_one rules nodes values preorder meets =
    let one = attribution_of rules nodes preorder in
    record { meets = meets; only = λ others is. one.1.only others is ∙ sym (one.1.only values meets) }

-- ---- the clauses of the evaluation as one phase

pub both_ok : {X : Type 0} (rules : List SumRule) (nodes : List TreeNode) (view : X → List ℤ) (r : Result X FormFault)
    → IfOk r (λ x. IsOnlyAttribution rules nodes (view x)) → IfOk r (λ x. AllStay rules nodes (view x)) → IfOk r (λ x. AreSums rules nodes (view x))
both_ok rules nodes view (Ok x) only stay = (only, stay)
both_ok rules nodes view (Err e) only stay = tt

pub only_ok : {X : Type 0} (rules : List SumRule) (nodes : List TreeNode) (view : X → List ℤ) (r : Result X FormFault)
    → IfOk r (λ x. IsOnlyAttribution rules nodes (view x)) → IfOk r (λ x. (others : List ℤ) → AreSums rules nodes others → others ≡ view x)
only_ok rules nodes view (Ok x) only = λ others are. only.only others are.0.meets
only_ok rules nodes view (Err e) only = tt

pub missed_err : {X : Type 0} (rules : List SumRule) (nodes : List TreeNode) (r : Result X FormFault)
    → IfErr r (λ e. e ≡ fault.Outside → (values : List ℤ) → IsAttribution rules nodes values → AllStay rules nodes values → ⊥)
    → IfErr r (λ e. e ≡ fault.Outside → (values : List ℤ) → AreSums rules nodes values → ⊥)
missed_err rules nodes (Ok x) missed = tt
missed_err rules nodes (Err e) missed = λ is values are. missed is values are.0.meets are.1
