-- Each flat node has the line and the column of its written node.
use Rattle.std.specs.Prelude.{slice_get}
use Rattle.std.proofs.Common.{◌≡◌, ℕ, zero, suc, ◌+◌, ◌<◌, ◌≤◌, ◌⊎◌, inl, inr, List, [], ◌∷◌, ◌++◌, length, Some, None, refl, ap, sym, subst, ◌∙◌, arith, length-append}
use Rattle.std.proofs.lemmas.Bool.{cases_lt}
use Rattle.lido_base.specs.declared.value.Value.{Value}
use Rattle.lido_base.specs.Tree.{Node, Item, Child, line_of, column_of, places, with_item, with_node}
use Rattle.tree_store.proofs.GrowthLemmas.{get_before, get_last, length-with_item}
use Rattle.tree_flattener.specs.Drafts.{Table, IsPlaced}
use Rattle.tree_flattener.proofs.GrowLemmas.{line_of-with_item, column_of-with_item, some_same}
use Rattle.tree_flattener.proofs.DraftLemmas.{get_earlier, get_new}

-- a terminal more, or another item, moves no node
pub placed_item : (W F : Table) (node_of : List ℕ) (p : ℕ) (x : Item Value) → IsPlaced W F node_of → IsPlaced W (with_item F p x) node_of
placed_item W F node_of p x placed = record {
  each = placed.each ∙ sym (length-with_item F p x);
  lines = λ n w e. line_of-with_item F p x n ∙ placed.lines n w e;
  columns = λ n w e. column_of-with_item F p x n ∙ placed.columns n w e;
}

pub placed_leaf : (W F G : Table) (node_of more : List ℕ) (p : ℕ) (x : Item Value) → G ≡ with_item F p x → more ≡ node_of → IsPlaced W F node_of → IsPlaced W G more
placed_leaf W F G node_of more p x e same placed = subst (λ g. IsPlaced W g more) (sym e) (subst (λ ns. IsPlaced W (with_item F p x) ns) (sym same) (placed_item W F node_of p x placed))

-- a node more stands where its written node does
placed_push : (W F : Table) (node_of : List ℕ) (node : Node Value) (of : ℕ) → IsPlaced W F node_of → node.line ≡ line_of W of → node.column ≡ column_of W of → IsPlaced W (F ++ node ∷ []) (node_of ++ of ∷ [])
placed_push W F node_of node of placed line column = record {
  each = length-append node_of (of ∷ []) ∙ ap (λ n. n + 1) placed.each ∙ sym (length-append F (node ∷ []));
  lines = λ n w e. line_at n w e (cases_lt n (length node_of));
  columns = λ n w e. column_at n w e (cases_lt n (length node_of));
}
  where
    line_at : (n w : ℕ) → slice_get (node_of ++ of ∷ []) n ≡ Some w → (n < length node_of) ⊎ (length node_of ≤ n) → line_of (F ++ node ∷ []) n ≡ line_of W w
    line_at n w e (inl h) = let b : n < length F = omega (arith, placed.each) in rw (get_before F node n b, line_of) (placed.lines n w (get_earlier node_of of n w e h))
    line_at n w e (inr h) = let new = get_new node_of of n w e h in let here : n ≡ length F = new.0 ∙ placed.each in rw (get_last F node n here, line_of) (line ∙ ap (line_of W) (sym new.1))

    column_at : (n w : ℕ) → slice_get (node_of ++ of ∷ []) n ≡ Some w → (n < length node_of) ⊎ (length node_of ≤ n) → column_of (F ++ node ∷ []) n ≡ column_of W w
    column_at n w e (inl h) = let b : n < length F = omega (arith, placed.each) in rw (get_before F node n b, column_of) (placed.columns n w (get_earlier node_of of n w e h))
    column_at n w e (inr h) = let new = get_new node_of of n w e h in let here : n ≡ length F = new.0 ∙ placed.each in rw (get_last F node n here, column_of) (column ∙ ap (column_of W) (sym new.1))

pub placed_node : (W F G : Table) (node_of more : List ℕ) (rule p line column of : ℕ) → G ≡ with_node F rule (Some p) line column → more ≡ node_of ++ of ∷ []
    → IsPlaced W F node_of → line ≡ line_of W of → column ≡ column_of W of → IsPlaced W G more
placed_node W F G node_of more rule p line column of e same placed line_is column_is = subst (λ g. IsPlaced W g more) (sym e)
    (subst (λ ns. IsPlaced W (with_node F rule (Some p) line column) ns) (sym same)
    (placed_push W (with_item F p (Child (length F))) node_of (record { rule = rule; parent = Some p; place = places F p + 1; line = line; column = column; items = [] }) of
    (placed_item W F node_of p (Child (length F)) placed) line_is column_is))

-- the root alone
pub placed_first : (W G : Table) (more : List ℕ) (rule line column : ℕ) → G ≡ with_node [] rule None line column → more ≡ 0 ∷ [] → line ≡ line_of W 0 → column ≡ column_of W 0 → IsPlaced W G more
placed_first W G more rule line column e same line_is column_is = subst (λ g. IsPlaced W g more) (sym e)
    (subst (λ ns. IsPlaced W (with_node [] rule None line column) ns) (sym same) (record { each = refl; lines = lines; columns = columns }))
  where
    lines : (n w : ℕ) → slice_get (0 ∷ []) n ≡ Some w → line_of (with_node {V = Value} [] rule None line column) n ≡ line_of W w
    lines zero w at = line_is ∙ ap (line_of W) (some_same at)
    lines (suc n) w at = cc

    columns : (n w : ℕ) → slice_get (0 ∷ []) n ≡ Some w → column_of (with_node {V = Value} [] rule None line column) n ≡ column_of W w
    columns zero w at = column_is ∙ ap (column_of W) (some_same at)
    columns (suc n) w at = cc
