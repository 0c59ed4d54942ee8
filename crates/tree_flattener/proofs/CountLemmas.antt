-- Sums over a flat tree.
use Rattle.std.specs.Prelude.{slice_get, map, sum_by, min}
use Rattle.std.proofs.Common.{◌≡◌, ℕ, zero, suc, ◌+◌, ◌<◌, ◌≤◌, ◌⊎◌, inl, inr, List, [], ◌∷◌, ◌++◌, length, get_or, take, Some, refl, ap, sym, ◌∙◌, arith, add-one}
use Rattle.std.proofs.lemmas.List.Sums.{sum_by-cons, sum_by-append, sum_by_push}
use Rattle.lido_base.specs.declared.value.Value.{Value}
use Rattle.lido_base.specs.Tree.{Node, rule_at}
use Rattle.flat_grammar.specs.declared.flat.FlatSymbol.{FlatSymbol}
use Rattle.flat_grammar.specs.declared.flat.FlatRule.{FlatRule}
use Rattle.flat_grammar.specs.declared.flat.FlatExpr.{FlatExpr}
use Rattle.lido_base.specs.declared.operation.Op.{Op}
use Rattle.std.proofs.lemmas.List.{map_push}
use Rattle.flat_grammar.specs.Fitting.{at_node, cells, own_cells}
use Rattle.flat_grammar.specs.declared.flat.Shape.{Shape}
use Rattle.flat_grammar.specs.FlatTrees.{IsFlatTree}
use Rattle.tree_store.specs.declared.fault.TreeFault.{TreeFault}
use Rattle.tree_store.specs.declared.fault.TreeFault.TheVariants as fault
use Rattle.tree_flattener.specs.Limits.{HasTooMany, IsRefused}
use Rattle.tree_flattener.specs.Drafts.{Table}
use Rattle.tree_flattener.proofs.GrowLemmas.{some_same}
use Rattle.tree_flattener.proofs.ItemLemmas.{take_next}

-- the capped number of a rule is that of its list
pub capped_at : (f : FlatRule → ℕ) (rules : List FlatRule) (cap k : ℕ) → get_or (map (λ r. min (f r) cap) rules) k 0 ≤ cap
capped_at f [] cap k = omega arith
capped_at f (r ∷ rules) cap zero = omega arith
capped_at f (r ∷ rules) cap (suc k) = capped_at f rules cap k

module _ (symbols : List FlatSymbol) (rules : List FlatRule) (f : FlatRule → ℕ) (cap : ℕ) where
  abbrev numbers : List ℕ
  numbers = map (λ (r : FlatRule). min (f r) cap) rules

  number_is : (t : Table) (k : ℕ) → get_or numbers k 0 ≡ min (at_node symbols rules t f k) cap
  number_is t k = go rules k
    where
      go : (rs : List FlatRule) (k : ℕ) → get_or (map (λ (r : FlatRule). min (f r) cap) rs) k 0 ≡ min (at_node symbols rs t f k) cap
      go [] k = omega arith
      go (r ∷ rs) zero = refl
      go (r ∷ rs) (suc k) = go rs k

  -- as long as the capped sum is below the cap, it is the sum
  same_sum : (g h : Node Value → ℕ) → ((n : Node Value) → h n ≡ min (g n) cap) → (t : List (Node Value)) → sum_by h t < cap → sum_by g t ≡ sum_by h t
  same_sum g h capped [] low = refl
  same_sum g h capped (n ∷ t) low = let a = sum_by-cons h n t in let b = sum_by-cons g n t in let e = capped n in
      let rest = same_sum g h capped t (omega arith) in omega arith

  not_more : (g h : Node Value → ℕ) → ((n : Node Value) → h n ≡ min (g n) cap) → (t : List (Node Value)) → sum_by h t ≤ sum_by g t
  not_more g h capped [] = omega arith
  not_more g h capped (n ∷ t) = let a = sum_by-cons h n t in let b = sum_by-cons g n t in let e = capped n in let rest = not_more g h capped t in omega arith

  -- the capped sum tells whether the sum is within the limit
  pub within_sum : (t : Table) (most : ℕ) → most < cap → sum_by (λ (n : Node Value). get_or numbers n.rule 0) t ≤ most → sum_by (λ (n : Node Value). at_node symbols rules t f n.rule) t ≤ most
  within_sum t most h low = let e = same_sum (λ (n : Node Value). at_node symbols rules t f n.rule) (λ (n : Node Value). get_or numbers n.rule 0) (λ n. number_is t n.rule) t (omega arith) in omega arith

  pub past_sum : (t : Table) (most : ℕ) → most < sum_by (λ (n : Node Value). get_or numbers n.rule 0) t → most < sum_by (λ (n : Node Value). at_node symbols rules t f n.rule) t
  past_sum t most high = let e = not_more (λ (n : Node Value). at_node symbols rules t f n.rule) (λ (n : Node Value). get_or numbers n.rule 0) (λ n. number_is t n.rule) t in omega arith

-- one node more
node_there : (t : Table) (n r : ℕ) → rule_at t n ≡ Some r → (node : Node Value) × (slice_get t n ≡ Some node) × (node.rule ≡ r)
node_there [] n r e = cc
node_there (node ∷ t) zero r e = (node, refl, some_same e)
node_there (node ∷ t) (suc n) r e = node_there t n r e

pub sum_next : (numbers : List ℕ) (t : Table) (n r : ℕ) → rule_at t n ≡ Some r → sum_by (λ (node : Node Value). get_or numbers node.rule 0) (take (n + 1) t) ≡ sum_by (λ (node : Node Value). get_or numbers node.rule 0) (take n t) + get_or numbers r 0
sum_next numbers t n r e = let (node, at, is) = node_there t n r e in
    ap (λ k. sum_by (λ (x : Node Value). get_or numbers x.rule 0) (take k t)) (add-one n) ∙ ap (sum_by (λ (x : Node Value). get_or numbers x.rule 0)) (take_next t n node at)
    ∙ sum_by_push (λ (x : Node Value). get_or numbers x.rule 0) (take n t) node ∙ ap (λ k. sum_by (λ (x : Node Value). get_or numbers x.rule 0) (take n t) + get_or numbers k 0) is

-- an expression is taken from the stack, and its arguments are put there
pub cells_step : (total own whole : ℕ) (left args : List FlatExpr) (x : FlatExpr) → cells x ≡ own + sum_by cells args → min (total + sum_by cells (left ++ x ∷ [])) 16777217 ≡ min whole 16777217
    → min (min (total + own) 16777217 + sum_by cells (left ++ args)) 16777217 ≡ min whole 16777217
cells_step total own whole left args x e h = let a = sum_by-append cells left args in let b = sum_by_push cells left x in omega arith

pub none_own : (x : FlatExpr) (args given : List FlatExpr) → cells x ≡ sum_by cells args → given ≡ args → cells x ≡ 0 + sum_by cells given
none_own x args given e same = omega (arith, e, ap (sum_by cells) same)

pub some_own : (x : FlatExpr) (op : Op) (args given : List FlatExpr) (own : ℕ) → cells x ≡ own_cells op (length args) + sum_by cells args → given ≡ args → own ≡ own_cells op (length args) → cells x ≡ own + sum_by cells given
some_own x op args given own e same is = omega (arith, e, ap (sum_by cells) same, is)

-- one more number of the rules
pub map_next : (g : FlatRule → ℕ) (rules : List FlatRule) (k : ℕ) (r : FlatRule) → slice_get rules k ≡ Some r → (old new : List ℕ) (n : ℕ) → old ≡ map g (take k rules) → n ≡ g r → new ≡ old ++ n ∷ [] → new ≡ map g (take (k + 1) rules)
map_next g rules k r at old new n was is e = e ∙ ap (λ xs. xs ++ n ∷ []) was ∙ ap (λ z. map g (take k rules) ++ z ∷ []) is ∙ sym (map_push g (take k rules) r) ∙ ap (map g) (sym (take_next rules k r at)) ∙ ap (λ i. map g (take i rules)) (sym (add-one k))

-- what the limits refuse, the written tree is refused for
pub refused_for : (symbols : List FlatSymbol) (rules : List FlatRule) (shapes : List Shape) (W G : Table) (node_of : List ℕ) → IsFlatTree rules shapes W G node_of → (e : TreeFault) → (e ≡ fault.Memory) ⊎ HasTooMany symbols rules G e → IsRefused symbols rules shapes W e
refused_for symbols rules shapes W G node_of flat e (inl memory) = inl memory
refused_for symbols rules shapes W G node_of flat e (inr many) = inr (G, node_of, flat, many)
