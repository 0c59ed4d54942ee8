-- The shares of the expansions in the flat grammar: what each extra attribute is given in each plain rule.
use Rattle.std.specs.Prelude.{◌≡◌, ℕ, suc, Bool, true, not, ◌||◌, nat_lt, if◌then◌else◌, IsTrue, List, [], ◌∷◌, map, filter, Option, Some, None, slice_get, Contains}
use Rattle.std.specs.List.{list_any}
use Rattle.lido_base.specs.Tree.{contains}
use Rattle.lido_syntax.specs.declared.spec.Spec.{Spec}
use Rattle.lido_syntax.specs.declared.spec.Name.{Name}
use Rattle.lido_syntax.specs.declared.spec.Pair.{Pair}
use Rattle.lido_syntax.specs.declared.spec.Cons.{Cons}
use Rattle.lido_syntax.specs.declared.spec.With.{With}
use Rattle.lido_syntax.specs.declared.spec.Comp.{Comp}
use Rattle.lido_syntax.specs.Production.{left_of}
use Rattle.lido_syntax.specs.Computation.{Start, Output, Holder}
use Rattle.lido_syntax.specs.Computation as goal
use Rattle.rule_tables.specs.PlainRules.{PlainRule, Role, Whole, Listing, Link, End}
use Rattle.lido_symbols.specs.Numbers.{enumerated}
use Rattle.rule_tables.specs.Forced.{Force, force_for}
use Rattle.rule_tables.specs.Needs.{Tables, Needs, listed_at, shield_at, has_start}
use Rattle.rule_tables.specs.Slots.{Slot, Written, Inc, Con, Front, Behind, has_con, chains}

-- What an extra attribute is given: an attribute of an occurrence, the expression of a written computation at the left side, in a
-- body of that holder, or
-- what the WITH of a CONSTITUENTS makes. Without a WITH it is Void, and depends on these. An output that nothing computes is empty.
pub data Term : Type 0 where
  Read : ℕ → Slot → Term
  Copied : Holder → Comp → Term
  Void : List (ℕ × Slot) → Term
  Comb : ℕ → Name → Term → Term → Term
  Single : ℕ → Name → Term → Term
  Null : ℕ → Name → Term
  Empty : Term

-- the occurrences on the right side whose symbols pass the test
abbrev pub places : (ℕ → Bool) → PlainRule → List ℕ
places test p = map (λ (x : ℕ × ℕ). x.0) (filter (λ (x : ℕ × ℕ). test x.1) (enumerated 1 p.right))

-- the last number of a list
abbrev pub last_of : List ℕ → Option ℕ
last_of [] = None
last_of (k ∷ []) = Some k
last_of (k ∷ l ∷ ks) = last_of (l ∷ ks)

module _ (spec : Spec) (T : Tables spec) (needs : Needs spec T) (p : PlainRule) (fs : List Force) where
  -- INCLUDING: what the left side hands down
  abbrev pub including_term : List Pair → ℕ → Term
  including_term pairs i = elim (listed_at spec T pairs p.left) [ Some a ↦ Read 0 (Written a) | None ↦ Read 0 (Inc i) ]

  pub data IncludingShare : ℕ → Slot → Term → Type 0 where
    handed_down : (j y i : ℕ) (pairs : List Pair) → slice_get p.right j ≡ Some y → slice_get T.includings i ≡ Some pairs → IsTrue (needs.including pairs y)
        → IncludingShare (suc j) (Inc i) (including_term pairs i)

  -- CONSTITUENTS: the fold over the children that have the attribute
  abbrev pub gives : Cons → List ℕ
  gives k = places (has_con spec T needs k) p

  abbrev pub folded : Cons → With → List ℕ → Term
  folded k with [] = Null k.number with.null
  folded k with (j ∷ js) = Comb k.number with.comb (Read j (Con k.number)) (folded k with js)

  -- a list's rule takes what its cell gives, and a cell joins its element to the next cell
  abbrev pub below_by : Role → Cons → With → List ℕ → Term
  below_by Whole k with js = folded k with js
  below_by Listing k with [] = Null k.number with.null
  below_by Listing k with (j ∷ js) = Read j (Con k.number)
  below_by (Link s) k with [] = Null k.number with.null
  below_by (Link s) k with (j ∷ []) = Read j (Con k.number)
  below_by (Link s) k with (i ∷ j ∷ js) = Comb k.number with.comb (Read i (Con k.number)) (Read j (Con k.number))
  below_by End k with js = Null k.number with.null

  abbrev pub void_below : Cons → Term
  void_below k = Void (map (λ j. (j, Con k.number)) (gives k))

  -- the value of the CONSTITUENTS at the left side
  abbrev pub below_term : Cons → Term
  below_term k = elim k.with [ None ↦ void_below k | Some with ↦ below_by p.role k with (gives k) ]

  abbrev pub source_term : Cons → With → ℕ → Term
  source_term k with a = let own = Single k.number with.single (Read 0 (Written a)) in
      if shield_at spec T k p.left then own else Comb k.number with.comb own (below_term k)

  abbrev pub void_source : Cons → ℕ → Term
  void_source k a = Void ((0, Written a) ∷ (if shield_at spec T k p.left then [] else map (λ j. (j, Con k.number)) (gives k)))

  -- the weight of the left side; a shield that is no source has none
  abbrev pub weight_term : Cons → Term
  weight_term k = elim (listed_at spec T k.pairs p.left) [
    | None ↦ below_term k
    | Some a ↦ elim k.with as (λ _. Term) [ None ↦ void_source k a | Some with ↦ source_term k with a ]
  ]

  pub data ConstituentsShare : ℕ → Slot → Term → Type 0 where
    gathered : (k : Cons) → Contains T.constituents k → IsTrue (has_con spec T needs k p.left) → ConstituentsShare 0 (Con k.number) (weight_term k)

  -- CHAIN: the walk over the children from the left
  abbrev pub entry : ℕ → Term
  entry c = elim (force_for fs 0 (Start c)) [ Some f ↦ Copied f.holder f.comp | None ↦ Read 0 (Front c) ]

  abbrev pub threaded : ℕ → List ℕ
  threaded c = places (needs.chain c) p

  -- what comes out behind these children
  abbrev pub behind_of : ℕ → List ℕ → Term
  behind_of c js = elim (last_of js) [ None ↦ entry c | Some j ↦ Read j (Behind c) ]

  abbrev pub front_term : ℕ → ℕ → Term
  front_term c j = behind_of c (filter (λ i. nat_lt i j) (threaded c))

  abbrev pub tail_term : ℕ → Term
  tail_term c = behind_of c (threaded c)

  -- the symbol of that number can be a node
  abbrev pub is_node : ℕ → Bool
  is_node x = elim (slice_get T.symbols x) [ None ↦ true | Some s ↦ contains s (map left_of spec.rules) ]

  abbrev pub behind_term : ℕ → Term
  behind_term c = elim (force_for fs 0 (goal.Behind c)) [
    | Some f ↦ Copied f.holder f.comp
    | None ↦ if not (list_any is_node p.right) || has_start spec T fs c then Read 0 (Front c) else tail_term c
  ]

  pub data ChainShare : ℕ → Slot → Term → Type 0 where
    in_front : (j y c : ℕ) → slice_get p.right j ≡ Some y → Contains (chains spec T needs) c → IsTrue (needs.chain c y) → ChainShare (suc j) (Front c) (front_term c (suc j))
    behind : (c : ℕ) → Contains (chains spec T needs) c → IsTrue (needs.chain c p.left) → ChainShare 0 (Behind c) (behind_term c)

  -- the output
  abbrev pub out_term : Term
  out_term = elim (force_for fs 0 Output) [ None ↦ Empty | Some f ↦ Copied f.holder f.comp ]
