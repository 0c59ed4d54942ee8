-- The fold of a CONSTITUENTS in a plain rule, by what its occurrences have.
use Rattle.std.specs.Prelude.{Contains, filter, filter_map, find, map, nat_eq, slice_get, unwrap_or, if◌then◌else◌}
use Rattle.std.specs.List.{AllZip}
use Rattle.std.specs.Option.{option_map_or}
use Rattle.std.proofs.Common.{◌≡◌, ℕ, suc, ◌+◌, ◌⊎◌, inl, inr, Bool, true, false, cond, List, [], ◌∷◌, Option, Some, None, refl, sym, ap, subst, ◌∙◌, arith, eqb-true, eq-eqb, true≢false}
use Rattle.lido_base.specs.Plain.{Plain, Void}
use Rattle.lido_base.specs.Tree.{Item, Child, Leaf, child_number}
use Rattle.lido_base.proofs.Lists.{contains-nil, contains-cons, contains-here, contains-later}
use Rattle.lido_syntax.specs.declared.spec.Cons.{Cons}
use Rattle.lido_syntax.specs.declared.spec.With.{With}
use Rattle.lido_syntax.specs.declared.spec.RuleItem.{RuleItem}
use Rattle.lido_syntax.specs.Production.{name_of}
use Rattle.lido_syntax.specs.Assignment.{Assignment}
use Rattle.lido_syntax.specs.Computation.{Holder}
use Rattle.lido_syntax.specs.Constituents.{call, combined, folded, weight_of}
use Rattle.flat_grammar.specs.declared.flat.FlatExpr.{FlatExpr}
use Rattle.flat_grammar.specs.FlatAttribution.{value_of}
use Rattle.flat_grammar.specs.FlatTrees.{IsNodeOf}
use Rattle.flat_grammar.specs.Instances.{instance_at}
use Rattle.flat_grammar.specs.WholeOrder.{Instance}
use Rattle.tree_flattener.specs.Roles.{IsCellOfList}
use Rattle.lido_symbols.specs.Numbers.{enumerated}
use Rattle.rule_tables.specs.PlainRules.{PlainRule}
use Rattle.rule_tables.specs.Forced.{Force}
use Rattle.rule_tables.specs.Slots.{Con}
use Rattle.rule_tables.specs.Shares.{Term, Read, Comb, Null}
use Rattle.rule_tables.specs.Shares as share
use Rattle.rule_tables.specs.Copies.{occ, made}
use Rattle.flat_laws.proofs.NeedLemmas.{one-constituents}
use Rattle.flat_laws.proofs.ShareLemmas.{constituents-leaf}
use Rattle.carried_trees.specs.Flattening.{Flattening, IsFlattening, Trees, AreTrees}
use Rattle.carried_trees.specs.Carry as carry
use Rattle.carried_trees.proofs.NodeLemmas.{IsPlain, carried-node, carried-cell}
use Rattle.carried_values.proofs.CopyLemmas.{call-value}

-- the only one that passes is found
found-is : {X : Type 0} (test : X → Bool) (xs : List X) (x : X) → Contains xs x → test x ≡ true → ((y : X) → Contains xs y → test y ≡ true → y ≡ x) → find test xs ≡ Some x
found-is test [] x m pass only = absurd (contains-nil x m)
found-is {X} test (y ∷ ys) x m pass only = by (test y) refl (contains-cons y x ys m) (λ k. found-is test ys x k pass (λ z mz. only z (contains-later y z ys mz)))
  where
    by : (b : Bool) → test y ≡ b → (y ≡ x) ⊎ Contains ys x → (Contains ys x → find test ys ≡ Some x) → (if b then Some y else find test ys) ≡ Some x
    by true e h later = ap (λ z. Some z) (only y (contains-here y ys) e)
    by false e (inl same) later = absurd (true≢false (sym pass ∙ ap test (sym same) ∙ e))
    by false e (inr k) later = later k

-- ---- occurrences and items

module _ (test : ℕ → Bool) (has : ℕ → Plain) (reaches : ℕ → Bool) (weights : ℕ → Plain) where
  -- The symbol of a node has the attribute where the node counts, and its occurrence the node's weight; that of a terminal has none.
  abbrev pub IsMatch : ℕ → ℕ → Item Plain → Type 0
  IsMatch j y (Child v) = (test y ≡ reaches v) × (test y ≡ true → has j ≡ weights v)
  IsMatch j y (Leaf u) = test y ≡ false

  abbrev pub Match : ℕ → List ℕ → List (Item Plain) → Type 0
  Match k [] [] = Unit {0}
  Match k (y ∷ ys) (item ∷ items) = IsMatch k y item × Match (suc k) ys items
  Match k _ _ = ⊥

  abbrev picked_from : ℕ → List ℕ → List ℕ
  picked_from k ys = map (λ (z : ℕ × ℕ). z.0) (filter (λ (z : ℕ × ℕ). test z.1) (enumerated k ys))

  -- then what the occurrences have is what the nodes weigh
  pub picked : (k : ℕ) (ys : List ℕ) (items : List (Item Plain)) → Match k ys items → map has (picked_from k ys) ≡ map weights (filter reaches (filter_map child_number items))
  picked k [] [] h = refl
  picked k [] (item ∷ items) h = absurd h
  picked k (y ∷ ys) [] h = absurd h
  picked k (y ∷ ys) (Leaf u ∷ items) h =
      ap (λ b. map has (map (λ (z : ℕ × ℕ). z.0) (cond b ((k, y) ∷ filter (λ (z : ℕ × ℕ). test z.1) (enumerated (suc k) ys)) (filter (λ (z : ℕ × ℕ). test z.1) (enumerated (suc k) ys))))) h.0 ∙ picked (suc k) ys items h.1
  picked k (y ∷ ys) (Child v ∷ items) h = by (test y) refl (picked (suc k) ys items h.1)
    where
      by : (b : Bool) → test y ≡ b → map has (picked_from (suc k) ys) ≡ map weights (filter reaches (filter_map child_number items))
          → map has (map (λ (z : ℕ × ℕ). z.0) (cond b ((k, y) ∷ filter (λ (z : ℕ × ℕ). test z.1) (enumerated (suc k) ys)) (filter (λ (z : ℕ × ℕ). test z.1) (enumerated (suc k) ys))))
          ≡ map weights (filter reaches (v ∷ filter_map child_number items))
      by true e later =
          (λ i. h.0.1 e i ∷ later i)
          ∙ ap (λ b. map weights (cond b (v ∷ filter reaches (filter_map child_number items)) (filter reaches (filter_map child_number items)))) (sym e ∙ h.0.0)
      by false e later = later ∙ ap (λ b. map weights (cond b (v ∷ filter reaches (filter_map child_number items)) (filter reaches (filter_map child_number items)))) (sym e ∙ h.0.0)

  -- it is so where it is at each place
  pub match-from : (number_of : ℕ → ℕ) (R : ℕ → Item Plain → Type 0) (k : ℕ) (ss : List ℕ) (items : List (Item Plain)) → AllZip R ss items
      → ((i s : ℕ) (item : Item Plain) → slice_get ss i ≡ Some s → slice_get items i ≡ Some item → IsMatch (k + i) (number_of s) item) → Match k (map number_of ss) items
  match-from number_of R k [] [] all each = tt
  match-from number_of R k [] (item ∷ items) all each = absurd all
  match-from number_of R k (s ∷ ss) [] all each = absurd all
  match-from number_of R k (s ∷ ss) (item ∷ items) all each = (
    (let z : k + 0 ≡ k = omega arith in subst (λ j. IsMatch j (number_of s) item) z (each 0 s item refl refl)),
    match-from number_of R (suc k) ss items all.1 (λ i q y e g. (let z : k + suc i ≡ suc k + i = omega arith in subst (λ j. IsMatch j (number_of q) y) z (each (suc i) q y e g))),
  )

module _ (f : Flattening) (is : IsFlattening f) (x : Trees) (are : AreTrees f x) (A : Assignment) (k : Cons) (numbered : Contains f.tables.constituents k) where
  pub the-one : find (λ (l : Cons). nat_eq l.number k.number) f.tables.constituents ≡ Some k
  the-one = found-is (λ (l : Cons). nat_eq l.number k.number) f.tables.constituents k numbered (eq-eqb k.number k.number refl)
      (λ l m e. one-constituents f.spec f.env f.tables is.tables f.needs is.accepted.from_text k l (constituents-leaf f.spec f.early f.env f.tables is.tables is.accepted f.needs k numbered) m (eqb-true l.number k.number e))

  -- without a WITH it is Void
  pub by-none : k.with ≡ None → (give : Cons → With → Plain) → carry.by_with f x A give k.number ≡ Void
  by-none e give =
      ap (λ (o : Option Cons). elim o as (λ _. Plain) [ None ↦ Void | Some k ↦ option_map_or (give k) k.with Void ]) the-one
      ∙ ap (λ (o : Option With). option_map_or (give k) o Void) e

module _ (f : Flattening) (is : IsFlattening f) (x : Trees) (are : AreTrees f x) (A : Assignment) (k : Cons) (numbered : Contains f.tables.constituents k) (with : With) (its_with : k.with ≡ Some with) where
  -- what node w weighs
  abbrev pub weigh_of : ℕ → Plain
  weigh_of = weight_of f.spec f.tables.sets f.env x.written A k with

  abbrev pub fold_over : ℕ → List ℕ → Plain
  fold_over w nodes = folded f.spec f.tables.sets f.env x.written A k with weigh_of w nodes

  by-with : (give : Cons → With → Plain) → carry.by_with f x A give k.number ≡ give k with
  by-with give =
      ap (λ (o : Option Cons). elim o as (λ _. Plain) [ None ↦ Void | Some k ↦ option_map_or (give k) k.with Void ]) (the-one f is x are A k numbered)
      ∙ ap (λ (o : Option With). option_map_or (give k) o Void) its_with

  -- at a node the node's weight is carried, and at a cell the fold over the elements from there on
  pub con-node : (m w : ℕ) (p : PlainRule) → IsPlain f is x are m p → IsNodeOf f.rules f.shapes x.flat x.node_of m w → carry.carried f x A m (Con k.number) ≡ weigh_of w
  con-node m w p o stands = carried-node f is x are A m w p o stands (Con k.number) ∙ by-with (carry.weight f x A w)

  pub con-cell : (m w : ℕ) (p : PlainRule) → IsPlain f is x are m p → (of : IsCellOfList f.rules f.shapes x.written x.flat x.node_of m w) → carry.carried f x A m (Con k.number) ≡ fold_over w of.rest
  con-cell m w p o of = carried-cell f is x are A m w p o of (Con k.number) ∙ by-with (carry.gathered f x A w of.rest)

  -- ---- terms at a flat node

  module _ (B : Instance → Plain) (n w : ℕ) (origin : unwrap_or (slice_get x.node_of n) 0 ≡ w) (r : RuleItem) (p : PlainRule) (fs : List Force) (tail : ℕ → FlatExpr) (holder : Holder) (context : ℕ) where
    -- what a term gives at flat node n
    abbrev pub worth : Term → Plain
    worth e = value_of f.env x.flat x.node_of B n n (made f.spec f.tables f.needs f.slots f.env r p fs tail holder context e)

    -- what the occurrence's attribute of the CONSTITUENTS has
    abbrev pub had : ℕ → Plain
    had j = B (instance_at x.flat n (occ f.spec f.tables f.needs f.slots f.env r p fs j (Con k.number)))

    abbrev pub join : List Plain → Plain
    join = combined f.spec f.tables.sets f.env x.written A k with w

    pub null-value : worth (Null k.number with.null) ≡ join []
    null-value = call-value f.env x.flat x.node_of B n n k.number w origin (name_of with.null) []

    pub comb-value : (a b : Term) (u v : Plain) → worth a ≡ u → worth b ≡ v → worth (Comb k.number with.comb a b) ≡ call f.spec f.tables.sets f.env x.written A k with with.comb w (u ∷ v ∷ [])
    comb-value a b u v ea eb =
        call-value f.env x.flat x.node_of B n n k.number w origin (name_of with.comb)
        (made f.spec f.tables f.needs f.slots f.env r p fs tail holder context a ∷ made f.spec f.tables f.needs f.slots f.env r p fs tail holder context b ∷ [])
        ∙ (λ i. call f.spec f.tables.sets f.env x.written A k with with.comb w (ea i ∷ eb i ∷ []))

    pub single-value : (a : Term) (u : Plain) → worth a ≡ u → worth (share.Single k.number with.single a) ≡ call f.spec f.tables.sets f.env x.written A k with with.single w (u ∷ [])
    single-value a u ea =
        call-value f.env x.flat x.node_of B n n k.number w origin (name_of with.single) (made f.spec f.tables f.needs f.slots f.env r p fs tail holder context a ∷ [])
        ∙ (λ i. call f.spec f.tables.sets f.env x.written A k with with.single w (ea i ∷ []))

    -- the fold in a plain rule
    pub folded-value : (js : List ℕ) → worth (share.folded f.spec f.tables f.needs p fs k with js) ≡ join (map had js)
    folded-value [] = null-value
    folded-value (j ∷ js) = comb-value (Read j (Con k.number)) (share.folded f.spec f.tables f.needs p fs k with js) (had j) (join (map had js)) refl (folded-value js)
