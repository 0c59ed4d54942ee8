-- The nodes of a tree stand in preorder and have rules.
use Rattle.std.proofs.Common.{◌≡◌, ℕ, ◌+◌, ◌<◌, ◌≤◌, List, [], ◌∷◌, length, Some, sym, ◌∙◌, arith, subst, ⊎_elim}
use Rattle.std.proofs.lemmas.Option.{slice_get_within}
use Rattle.std.proofs.lemmas.Bool.{cases_lt}
use Rattle.sum_trees.specs.declared.form.SumRule.{SumRule}
use Rattle.sum_trees.specs.declared.form.Element.{Element}
use Rattle.sum_trees.specs.declared.form.Element.TheVariants as elements
use Rattle.sum_trees.specs.declared.form.TreeNode.{TreeNode}
use Rattle.sum_trees.specs.declared.form.Child.TheVariants as children
use Rattle.sum_trees.specs.Trees.{Forest, none, node, leaf, Fits, Shows, rule_at, node_at, child_of, width, count, IsTree, IsPreorder, IsRuled}
use Rattle.sum_trees.proofs.Growth.{same_or_not}

-- a sibling that is a node is one of those from n on
sibling_within : (nodes : List TreeNode) (n p k q m : ℕ) (f : Forest) → Shows nodes n p k f → k ≤ q → q < k + width f
    → child_of nodes p q ≡ Some (children.Node m) → (n ≤ m) × (m < n + count f)
sibling_within nodes n p k q m none shows low high child = absurd (omega arith)
sibling_within nodes n p k q m (leaf z after) shows low high child = ⊎_elim
    (λ e. absurd (let a : child_of nodes p q ≡ Some (children.Int z) = subst (λ (i : ℕ). child_of nodes p i ≡ Some (children.Int z)) (sym e) shows.0 in let b = sym child ∙ a in cc))
    (λ ne. sibling_within nodes n p (k + 1) q m after shows.1 (omega (arith, ne)) (omega arith) child)
    (same_or_not q k)
sibling_within nodes n p k q m (node r below after) shows low high child = ⊎_elim
    (λ e. let a : child_of nodes p q ≡ Some (children.Node n) = subst (λ (i : ℕ). child_of nodes p i ≡ Some (children.Node n)) (sym e) shows.0 in
    let b = sym child ∙ a in let same : m ≡ n = cc in (omega (arith, same), omega (arith, same)))
    (λ ne. let rest = sibling_within nodes (n + 1 + count below) p (k + 1) q m after shows.3 (omega (arith, ne)) (omega arith) child in (omega (arith, rest.0), omega (arith, rest.1)))
    (same_or_not q k)

below_within : (nodes : List TreeNode) (n p k i q m : ℕ) (f : Forest) → Shows nodes n p k f → n ≤ i → i < n + count f
    → child_of nodes i q ≡ Some (children.Node m) → (i < m) × (m < n + count f)
below_within nodes n p k i q m none shows low high child = absurd (omega arith)
below_within nodes n p k i q m (leaf z after) shows low high child = below_within nodes n p (k + 1) i q m after shows.1 low high child
below_within nodes n p k i q m (node r below after) shows low high child = ⊎_elim
    (λ e.
    let here : child_of nodes n q ≡ Some (children.Node m) = subst (λ (j : ℕ). child_of nodes j q ≡ Some (children.Node m)) e child in
    let inside : q < length (node_at nodes n).children = slice_get_within (node_at nodes n).children q (children.Node m) here in
    let found = sibling_within nodes (n + 1) n 0 q m below shows.2 (omega arith) (omega (arith, inside, shows.1.width)) here in
    (omega (arith, e, found.0), omega (arith, found.1)))
    (λ ne. ⊎_elim
    (λ less. let found = below_within nodes (n + 1) n 0 i q m below shows.2 (omega (arith, ne)) (omega (arith, less)) child in (found.0, omega (arith, found.1)))
    (λ more. let found = below_within nodes (n + 1 + count below) p (k + 1) i q m after shows.3 (omega (arith, more)) (omega arith) child in (found.0, omega (arith, found.1)))
    (cases_lt i (n + 1 + count below)))
    (same_or_not i n)

pub tree_preorder : (rules : List SumRule) (bytes : List ℕ) (nodes : List TreeNode) → IsTree rules bytes nodes → IsPreorder nodes
tree_preorder rules bytes nodes tree p k n less child = ⊎_elim
    (λ e.
    let here : child_of nodes 0 k ≡ Some (children.Node n) = subst (λ (j : ℕ). child_of nodes j k ≡ Some (children.Node n)) e child in
    let inside : k < length (node_at nodes 0).children = slice_get_within (node_at nodes 0).children k (children.Node n) here in
    let found = sibling_within nodes 1 0 0 k n tree.below tree.shows (omega arith) (omega (arith, inside, tree.top.width)) here in
    (omega (arith, e, found.0), omega (arith, found.1, tree.all)))
    (λ ne. let found = below_within nodes 1 0 0 p k n tree.below tree.shows (omega (arith, ne)) (omega (arith, tree.all)) child in (found.0, omega (arith, found.1, tree.all)))
    (same_or_not p 0)

ruled_below : (rules : List SumRule) (es : List Element) (nodes : List TreeNode) (n p k i : ℕ) (f : Forest) → Fits rules es f → Shows nodes n p k f → n ≤ i → i < n + count f
    → (node_at nodes i).rule < length rules
ruled_below rules es nodes n p k i none fits shows low high = absurd (omega arith)
ruled_below rules [] nodes n p k i (leaf z after) fits shows low high = absurd fits
ruled_below rules (elements.Int ∷ es) nodes n p k i (leaf z after) fits shows low high = ruled_below rules es nodes n p (k + 1) i after fits shows.1 low high
ruled_below rules (elements.Node left ∷ es) nodes n p k i (leaf z after) fits shows low high = absurd fits
ruled_below rules [] nodes n p k i (node r below after) fits shows low high = absurd fits
ruled_below rules (elements.Int ∷ es) nodes n p k i (node r below after) fits shows low high = absurd fits
ruled_below rules (elements.Node left ∷ es) nodes n p k i (node r below after) fits shows low high = ⊎_elim
    (λ e. subst (λ (j : ℕ). (node_at nodes j).rule < length rules) (sym e) (omega (arith, shows.1.rule, fits.0)))
    (λ ne. ⊎_elim
    (λ less. ruled_below rules (rule_at rules r).right nodes (n + 1) n 0 i below fits.2 shows.2 (omega (arith, ne)) (omega (arith, less)))
    (λ more. ruled_below rules es nodes (n + 1 + count below) p (k + 1) i after fits.3 shows.3 (omega (arith, more)) (omega arith))
    (cases_lt i (n + 1 + count below)))
    (same_or_not i n)

pub tree_ruled : (rules : List SumRule) (bytes : List ℕ) (nodes : List TreeNode) → 0 < length rules → IsTree rules bytes nodes → IsRuled rules nodes
tree_ruled rules bytes nodes some tree n less = ⊎_elim
    (λ e. subst (λ (j : ℕ). (node_at nodes j).rule < length rules) (sym e) (omega (arith, tree.top.rule)))
    (λ ne. ruled_below rules (rule_at rules 0).right nodes 1 0 0 n tree.below tree.fits tree.shows (omega (arith, ne)) (omega (arith, tree.all)))
    (same_or_not n 0)
