-- The phase from a written tree to its flat tree, and the whole way from a text to both.
use Rattle.std.specs.Prelude.{IfOk, IfErr}
use Rattle.std.proofs.Common.{◌≡◌, ◌⊎◌, inl, inr, ℕ, List, Result, Ok, Err, refl, ap, sym, subst, arith}
use Rattle.lido_base.specs.Phases.{IsThe, Gives}
use Rattle.lido_base.specs.Plain.{Plain, plain_tree}
use Rattle.lido_base.specs.Tree.{Tree}
use Rattle.lido_base.specs.declared.ids.SymId.{SymId}
use Rattle.lido_base.specs.declared.kinds.Many.TheVariants as many
use Rattle.lido_base.specs.declared.value.Value.{Value}
use Rattle.lido_base.proofs.PhasesLemmas.{the_next, the_stop}
use Rattle.flat_grammar.specs.declared.flat.FlatSymbol.{FlatSymbol}
use Rattle.flat_grammar.specs.declared.flat.FlatRule.{FlatRule}
use Rattle.flat_grammar.specs.declared.flat.Shape.{Shape}
use Rattle.flat_grammar.specs.Fitting.{IsFitting, IsWithinLimits}
use Rattle.flat_grammar.specs.FlatTrees.{IsFlatTree}
use Rattle.flat_grammar.specs.WellFormed.{IsWellFormed}
use Rattle.tree_store.specs.declared.fault.TreeFault.{TreeFault}
use Rattle.tree_store.specs.declared.fault.TreeFault.TheVariants as fault
use Rattle.tree_store.specs.declared.trees.Trees.{Trees}
use Rattle.tree_flattener.specs.Limits.{HasTooMany, IsRefused}
use Rattle.tree_flattener.proofs.OnePlainLemmas.{plain_flat_tree, plain_instances, plain_text_cells}
use Rattle.tree_flattener.proofs.OneTreeLemmas.{same_fitting}
use Rattle.tree_reader.specs.Whole.{WrittenOf, FlatOf, TreesOf, With}

-- ---- what there is too much of

module _ (symbols : List FlatSymbol) (rules : List FlatRule) where
  -- a tree within the limits has too much of nothing
  not_both : {V : Type 0} (flat : Tree V) (e : TreeFault) → IsWithinLimits symbols rules flat → HasTooMany symbols rules flat e → ⊥
  not_both flat (fault.TooMany many.Instances) within many = absurd (omega arith)
  not_both flat (fault.TooMany many.TextCells) within many = absurd (omega arith)
  not_both flat _ within many = many

  -- a tree has too much of one thing only
  one_fault : {V : Type 0} (flat : Tree V) (e f : TreeFault) → HasTooMany symbols rules flat e → HasTooMany symbols rules flat f → f ≡ e
  one_fault flat (fault.TooMany many.Instances) (fault.TooMany many.Instances) one other = refl
  one_fault flat (fault.TooMany many.TextCells) (fault.TooMany many.TextCells) one other = refl
  one_fault flat (fault.TooMany many.Instances) (fault.TooMany many.TextCells) one other = absurd (omega arith)
  one_fault flat (fault.TooMany many.TextCells) (fault.TooMany many.Instances) one other = absurd (omega arith)
  one_fault flat (fault.TooMany many.Instances) _ one other = absurd other
  one_fault flat (fault.TooMany many.TextCells) _ one other = absurd other
  one_fault flat _ _ one other = absurd one

  module _ (texts : List (List ℕ)) (flat : Tree Value) where
    plain_within : IsWithinLimits symbols rules flat → IsWithinLimits symbols rules (plain_tree texts flat)
    plain_within within = let one = plain_instances texts symbols rules flat in let two = plain_text_cells texts symbols rules flat in
        (omega arith, omega arith)

    plain_many : (e : TreeFault) → HasTooMany symbols rules flat e → HasTooMany symbols rules (plain_tree texts flat) e
    plain_many (fault.TooMany many.Instances) many = let one = plain_instances texts symbols rules flat in omega arith
    plain_many (fault.TooMany many.TextCells) many =
        let one = plain_instances texts symbols rules flat in let two = plain_text_cells texts symbols rules flat in (omega arith, omega arith)
    plain_many _ many = absurd many

-- ---- the phase to the flat tree

module _ (symbols : List FlatSymbol) (rules : List FlatRule) (shapes : List Shape) (root : SymId) (well : IsWellFormed symbols rules shapes root)
    (W : Tree Plain) (fits : IsFitting symbols rules shapes root W) (F : Tree Plain) (ns : List ℕ)
    (f : IsFlatTree rules shapes W F ns) where
  -- what is said of another flat tree is said of this one
  too_many : (G : Tree Plain) (ms : List ℕ) → IsFlatTree rules shapes W G ms → (e : TreeFault) → HasTooMany symbols rules G e
      → HasTooMany symbols rules F e
  too_many G ms g e many = subst (λ T. HasTooMany symbols rules T e) (same_fitting symbols rules shapes root well W fits G F ms ns g f).0 many

  is_within : (G : Tree Plain) (ms : List ℕ) → IsFlatTree rules shapes W G ms → IsWithinLimits symbols rules G
      → IsWithinLimits symbols rules F
  is_within G ms g within = subst (λ T. IsWithinLimits symbols rules T) (same_fitting symbols rules shapes root well W fits G F ms ns g f).0 within

  only_tree : IsWithinLimits symbols rules F → (s : Result (Tree Plain × List ℕ) TreeFault) → FlatOf symbols rules shapes W s → s ≡ Ok (F, ns)
  unfolding FlatOf
  only_tree within (Ok x) (g, its) = let same = same_fitting symbols rules shapes root well W fits x.0 F x.1 ns g f in λ i. Ok (same.0 i, same.1 i)
  only_tree within (Err e) (G, ms, g, many) = absurd (not_both symbols rules F e within (too_many G ms g e many))

  only_fault : (e : TreeFault) → HasTooMany symbols rules F e → (s : Result (Tree Plain × List ℕ) TreeFault) → FlatOf symbols rules shapes W s
      → s ≡ Err e
  unfolding FlatOf
  only_fault e many (Ok x) (g, its) = absurd (not_both symbols rules F e (is_within x.0 x.1 g its) many)
  only_fault e many (Err d) (G, ms, g, other) = ap (λ x. Err x) (one_fault symbols rules F e d many (too_many G ms g d other))

  -- the flat tree within the limits is what the phase gives
  the_flat : IsWithinLimits symbols rules F → IsThe (FlatOf symbols rules shapes W) (Ok (F, ns))
  unfolding FlatOf
  the_flat within = record { is = (f, within); only = only_tree within }

  -- or what it has too much of
  the_many : (e : TreeFault) → HasTooMany symbols rules F e → IsThe (FlatOf symbols rules shapes W) (Err e)
  unfolding FlatOf
  the_many e many = record { is = (F, ns, f, many); only = only_fault e many }

-- ---- something in front of the values

held : {X F : Type 0} (x y : X) → ◌≡◌ {A = Result X F} (Ok x) (Ok y) → x ≡ y
held x y same = cc

-- a value with something in front of it is given where the value is
with_value : {A B C F : Type 0} (a : A) (p : Result (B × C) F → Type 0) (b : B) (c : C) → IsThe p (Ok (b, c)) → IsThe (With a p) (Ok (a, b, c))
with_value {A} {B} {C} {F} a p b c the = record { is = (refl, the.is); only = only }
  where
    only : (s : Result (A × B × C) F) → With a p s → s ≡ Ok (a, b, c)
    only (Ok x) (same, given) = let rest = held (x.1, x.2) (b, c) (the.only (Ok (x.1, x.2)) given) in λ i. Ok (same i, (rest i).0, (rest i).1)
    only (Err e) given = absurd (let no = the.only (Err e) given in cc)

-- and a fault where the fault is
with_fault : {A B C F : Type 0} (a : A) (p : Result (B × C) F → Type 0) (e : F) → IsThe p (Err e) → IsThe (With a p) (Err e)
with_fault {A} {B} {C} {F} a p e the = record { is = the.is; only = only }
  where
    only : (s : Result (A × B × C) F) → With a p s → s ≡ Err e
    only (Ok x) (same, given) = absurd (let no = the.only (Ok (x.1, x.2)) given in cc)
    only (Err d) given = let is = the.only (Err d) given in cc

-- ---- from the text to both trees

-- a phase gives one value
same_value : {A F : Type 0} (p : Result A F → Type 0) (a b : A) → IsThe p (Ok a) → IsThe p (Ok b) → b ≡ a
same_value p a b one other = held b a (one.only (Ok b) other.is)

module _ (symbols : List FlatSymbol) (rules : List FlatRule) (shapes : List Shape) (root : SymId) (texts : List (List ℕ)) (text : List ℕ) where
  -- a written tree that fits, fits at every later table too
  pub fits_later : (now later : List (List ℕ)) (W : Tree Value) → IsThe (WrittenOf symbols rules shapes root texts text) (Ok (plain_tree now W))
      → IsThe (WrittenOf symbols rules shapes root texts text) (Ok (plain_tree later W))
      → IsFitting symbols rules shapes root (plain_tree now W) → IsFitting symbols rules shapes root (plain_tree later W)
  fits_later now later W first second fits = subst (λ (T : Tree Plain). IsFitting symbols rules shapes root T)
      (same_value (WrittenOf symbols rules shapes root texts text) (plain_tree later W) (plain_tree now W) second first) fits

  -- what a written tree gives, its text gives
  trees_next : (written : Tree Plain) (r : Result (Tree Plain × Tree Plain × List ℕ) TreeFault)
      → IsThe (WrittenOf symbols rules shapes root texts text) (Ok written)
      → IsThe (With written (FlatOf symbols rules shapes written)) r → IsThe (TreesOf symbols rules shapes root texts text) r
  unfolding TreesOf
  trees_next written r first next = the_next (WrittenOf symbols rules shapes root texts text)
      (λ tree. With tree (FlatOf symbols rules shapes tree)) written r first next

  -- a text without a written tree gives its fault
  pub trees_stop : (e : TreeFault) → (e ≡ fault.Memory) ⊎ IsThe (WrittenOf symbols rules shapes root texts text) (Err e)
      → (e ≡ fault.Memory) ⊎ IsThe (TreesOf symbols rules shapes root texts text) (Err e)
  unfolding TreesOf
  trees_stop e (inl memory) = inl memory
  trees_stop e (inr the) = inr
      (the_stop (WrittenOf symbols rules shapes root texts text) (λ tree. With tree (FlatOf symbols rules shapes tree)) e the)

  module _ (well : IsWellFormed symbols rules shapes root) (later : List (List ℕ)) (W : Tree Value)
      (read : IsThe (WrittenOf symbols rules shapes root texts text) (Ok (plain_tree later W)))
      (fits : IsFitting symbols rules shapes root (plain_tree later W)) where
    trees_value : (F : Tree Value) (ns : List ℕ) → IsFlatTree rules shapes W F ns → IsWithinLimits symbols rules F
        → IsThe (TreesOf symbols rules shapes root texts text) (Ok (plain_tree later W, plain_tree later F, ns))
    trees_value F ns f within = trees_next (plain_tree later W) _ read
        (with_value (plain_tree later W) (FlatOf symbols rules shapes (plain_tree later W)) (plain_tree later F) ns
        (the_flat symbols rules shapes root well (plain_tree later W) fits (plain_tree later F) ns
        (plain_flat_tree later symbols rules shapes W F ns f) (plain_within symbols rules later F within)))

    trees_fault : (e : TreeFault) → IsRefused symbols rules shapes W e
        → (e ≡ fault.Memory) ⊎ IsThe (TreesOf symbols rules shapes root texts text) (Err e)
    trees_fault e (inl memory) = inl memory
    trees_fault e (inr (F, ns, f, many)) = inr
        (trees_next (plain_tree later W) (Err e) read (with_fault (plain_tree later W) (FlatOf symbols rules shapes (plain_tree later W)) e
        (the_many symbols rules shapes root well (plain_tree later W) fits (plain_tree later F) ns
        (plain_flat_tree later symbols rules shapes W F ns f) e (plain_many symbols rules later F e many))))

    -- what the written tree flattens to
    pub trees_given : (r : Result Trees TreeFault) → IfOk r (λ trees. trees.written ≡ W)
        → IfOk r (λ trees. IsFlatTree rules shapes W trees.flat trees.node_of)
        → IfOk r (λ trees. IsWithinLimits symbols rules trees.flat) → IfErr r (λ e. IsRefused symbols rules shapes W e)
        → Gives (λ (trees : Trees). (plain_tree later trees.written, plain_tree later trees.flat, trees.node_of))
        (TreesOf symbols rules shapes root texts text) fault.Memory r
    trees_given (Ok trees) same flat within refused = subst
        (λ T. IsThe (TreesOf symbols rules shapes root texts text) (Ok (plain_tree later T, plain_tree later trees.flat, trees.node_of)))
        (sym same) (trees_value trees.flat trees.node_of flat within)
    trees_given (Err e) same flat within refused = trees_fault e refused
