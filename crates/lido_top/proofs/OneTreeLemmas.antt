-- A text is one tree at most.
use Rattle.std.proofs.Common.{◌≡◌, ◌+◌, ◌<◌, ◌≤◌, ℕ, List, [], ◌∷◌, ◌++◌, length, Option, Some, None, slice_get, get_or, take_while, refl, ap, sym, ◌∙◌, subst, arith, inl, inr, append_assoc}
use Rattle.std.proofs.lemmas.Bool.{cases_order}
use Rattle.std.proofs.lemmas.List.{same_lists}
use Rattle.std.proofs.lemmas.Option.{get_or_from_slice_get, slice_get-get_or}
use Rattle.sum_trees.specs.declared.form.SumRule.{SumRule}
use Rattle.sum_trees.specs.declared.form.TreeNode.{TreeNode}
use Rattle.sum_trees.specs.declared.form.Child.{Child}
use Rattle.sum_trees.specs.declared.form.Element.{Element}
use Rattle.sum_trees.specs.declared.form.Element.TheVariants as elements
use Rattle.sum_trees.specs.Bytes.{behind, is_name_byte, is_white}
use Rattle.sum_trees.specs.Marks.{Mark, begins, ends, Spells}
use Rattle.sum_trees.specs.Trees.{Forest, none, node, leaf, Fits, Shows, IsNode, IsTree, HasDistinctNames, rule_at, node_at, child_of, marks_of, width, count, no_node}

-- ---- a text is one forest

tail_is : {b c : ℕ} {xs ys : List ℕ} → b ∷ xs ≡ c ∷ ys → xs ≡ ys
tail_is e = cc

-- the name behind a bracket, and what is behind that
abbrev name_at : List ℕ → List ℕ
name_at bytes = take_while is_name_byte (behind is_white bytes)

abbrev behind_name : List ℕ → List ℕ
behind_name bytes = behind is_name_byte (behind is_white bytes)

module _ (rules : List SumRule) (distinct : HasDistinctNames rules) where
  -- the marks of a node and its siblings, and what is behind them
  parts : (k : ℕ) (below after : Forest) (more : List Mark) → marks_of rules (node k below after) ++ (ends ∷ more)
      ≡ begins (rule_at rules k).name ∷ (marks_of rules below ++ (ends ∷ (marks_of rules after ++ (ends ∷ more))))
  parts k below after more = ap (λ (l : List Mark). begins (rule_at rules k).name ∷ l) (append_assoc (marks_of rules below) (ends ∷ marks_of rules after) (ends ∷ more))

  -- the same bytes are the same siblings up to a closing bracket, and what is behind that begins at one place
  one_forest : (es : List Element) (f g : Forest) (more others : List Mark) (bytes : List ℕ) → Fits rules es f → Fits rules es g
      → Spells (marks_of rules f ++ (ends ∷ more)) bytes → Spells (marks_of rules g ++ (ends ∷ others)) bytes → (f ≡ g) × (rest : List ℕ) × Spells more rest × Spells others rest
  one_forest [] none none more others bytes fit fit' (rest, bracket, spells) (rest', bracket', spells') =
      (refl, rest, spells, subst (λ (l : List ℕ). Spells others l) (tail_is (sym bracket' ∙ bracket)) spells')
  one_forest [] none (node k below after) more others bytes fit fit' s s' = absurd fit'
  one_forest [] none (leaf z after) more others bytes fit fit' s s' = absurd fit'
  one_forest (elements.Int ∷ es) none g more others bytes fit fit' s s' = absurd fit
  one_forest (elements.Node left ∷ es) none g more others bytes fit fit' s s' = absurd fit
  one_forest [] (node k below after) g more others bytes fit fit' s s' = absurd fit
  one_forest (elements.Int ∷ es) (node k below after) g more others bytes fit fit' s s' = absurd fit
  one_forest (elements.Node left ∷ es) (node k below after) none more others bytes fit fit' s s' = absurd fit'
  one_forest (elements.Node left ∷ es) (node k below after) (leaf z g) more others bytes fit fit' s s' = absurd fit'
  one_forest (elements.Node left ∷ es) (node k below after) (node j under behind) more others bytes (there, is, fits, later) (there', is', fits', later') s s' =
      let (rest, bracket, named, name, spells) = subst (λ (l : List Mark). Spells l bytes) (parts k below after more) s in
      let (rest', bracket', named', name', spells') = subst (λ (l : List Mark). Spells l bytes) (parts j under behind others) s' in
      let same = tail_is (sym bracket' ∙ bracket) in
      let rule = distinct k j there there' (sym name ∙ ap name_at (sym same) ∙ name') in
      let fit = subst (λ (n : ℕ). Fits rules (rule_at rules n).right under) (sym rule) fits' in
      let spell = subst (λ (l : List ℕ). Spells (marks_of rules under ++ (ends ∷ (marks_of rules behind ++ (ends ∷ others)))) (behind_name l)) same spells' in
      let (inner, left, on, on') = one_forest (rule_at rules k).right below under (marks_of rules after ++ (ends ∷ more)) (marks_of rules behind ++ (ends ∷ others)) (behind_name rest) fits fit spells spell in
      let (outer, end, last, last') = one_forest es after behind more others left later later' on on' in
      ((λ i. node (rule i) (inner i) (outer i)), end, last, last')
  one_forest [] (leaf z after) g more others bytes fit fit' s s' = absurd fit
  one_forest (elements.Node left ∷ es) (leaf z after) g more others bytes fit fit' s s' = absurd fit
  one_forest (elements.Int ∷ es) (leaf z after) none more others bytes fit fit' s s' = absurd fit'
  one_forest (elements.Int ∷ es) (leaf z after) (node k below g) more others bytes fit fit' s s' = absurd fit'
  one_forest (elements.Int ∷ es) (leaf z after) (leaf y behind) more others bytes fit fit' (some, is, within, spells) (some', is', within', spells') =
      let (same, end, last, last') = one_forest es after behind more others _ fit fit' spells spells' in
      ((λ i. leaf ((sym is ∙ is') i) (same i)), end, last, last')

-- ---- a forest is one list of nodes

-- the children that a forest shows are the same in both lists
same_child : (one other : List TreeNode) (n p k : ℕ) (f : Forest) → Shows one n p k f → Shows other n p k f → (i : ℕ) → k ≤ i → i < k + width f → child_of one p i ≡ child_of other p i
same_child one other n p k none shows shows' i from to = absurd (omega (arith, from, to))
same_child one other n p k (node r below after) (child, is, under, behind) (child', is', under', behind') i from to = elim (cases_order k i) [
  | inl same ↦ subst (λ (j : ℕ). child_of one p j ≡ child_of other p j) same (child ∙ sym child')
  | inr (inl less) ↦ same_child one other (n + 1 + count below) p (k + 1) after behind behind' i (omega (arith, less)) (omega (arith, to))
  | inr (inr more) ↦ absurd (omega (arith, more, from))
]
same_child one other n p k (leaf z after) (child, behind) (child', behind') i from to = elim (cases_order k i) [
  | inl same ↦ subst (λ (j : ℕ). child_of one p j ≡ child_of other p j) same (child ∙ sym child')
  | inr (inl less) ↦ same_child one other n p (k + 1) after behind behind' i (omega (arith, less)) (omega (arith, to))
  | inr (inr more) ↦ absurd (omega (arith, more, from))
]

same_children : (one other : List Child) → length one ≡ length other → ((i : ℕ) → i < length one → slice_get one i ≡ slice_get other i) → one ≡ other
same_children one other size each = same_lists one other size (λ k d less.
    let there : slice_get one k ≡ Some (get_or one k d) = slice_get-get_or one k d less in
    sym (get_or_from_slice_get other k (get_or one k d) d (sym (each k less) ∙ there)))

same_node : (one other : TreeNode) → one.rule ≡ other.rule → one.parent ≡ other.parent → one.place ≡ other.place → one.children ≡ other.children → one ≡ other
same_node one other rule parent place below = λ j. record { rule = rule j; parent = parent j; place = place j; children = below j }

-- a node with its children
node_is : (one other : List TreeNode) (n r k : ℕ) (p : Option ℕ) (below : Forest) → IsNode one n r p k (width below) → IsNode other n r p k (width below)
    → Shows one (n + 1) n 0 below → Shows other (n + 1) n 0 below → node_at one n ≡ node_at other n
node_is one other n r k p below is is' under under' =
    same_node (node_at one n) (node_at other n) (is.rule ∙ sym is'.rule) (is.parent ∙ sym is'.parent) (is.place ∙ sym is'.place)
    (same_children (node_at one n).children (node_at other n).children (is.width ∙ sym is'.width)
    (λ i less. same_child one other (n + 1) n 0 below under under' i (omega arith) (omega (arith, less, is.width))))

-- the nodes that a forest shows are the same in both lists
same_shown : (one other : List TreeNode) (n p k : ℕ) (f : Forest) → Shows one n p k f → Shows other n p k f → (i : ℕ) → n ≤ i → i < n + count f → node_at one i ≡ node_at other i
same_shown one other n p k none shows shows' i from to = absurd (omega (arith, from, to))
same_shown one other n p k (leaf z after) (child, behind) (child', behind') i from to = same_shown one other n p (k + 1) after behind behind' i from to
same_shown one other n p k (node r below after) (child, is, under, behind) (child', is', under', behind') i from to = elim (cases_order n i) [
  | inl same ↦ subst (λ (j : ℕ). node_at one j ≡ node_at other j) same (node_is one other n r (k + 1) (Some p) below is is' under under')
  | inr (inl less) ↦ elim (cases_order i (n + 1 + count below)) [
    | inl same ↦ same_shown one other (n + 1 + count below) p (k + 1) after behind behind' i (omega (arith, same)) (omega (arith, to))
    | inr (inl inner) ↦ same_shown one other (n + 1) n 0 below under under' i (omega (arith, less)) inner
    | inr (inr outer) ↦ same_shown one other (n + 1 + count below) p (k + 1) after behind behind' i (omega (arith, outer)) (omega (arith, to))
  ]
  | inr (inr more) ↦ absurd (omega (arith, more, from))
]

-- ---- a text is one tree

pub one_tree : (rules : List SumRule) → HasDistinctNames rules → (bytes : List ℕ) (one other : List TreeNode) → IsTree rules bytes one → IsTree rules bytes other → one ≡ other
one_tree rules distinct bytes one other a b = same_lists one other size (λ i d less. each i d less)
  where
    below_is : a.below ≡ b.below
    below_is =
        let (rest, bracket, named, name, spells) = a.text in
        let (rest', bracket', named', name', spells') = b.text in
        let spell = subst (λ (l : List ℕ). Spells (marks_of rules b.below ++ (ends ∷ [])) (behind_name l)) (tail_is (sym bracket' ∙ bracket)) spells' in
        (one_forest rules distinct (rule_at rules 0).right a.below b.below [] [] (behind_name rest) a.fits b.fits spells spell).0

    size : length one ≡ length other
    size = a.all ∙ ap (λ (f : Forest). 1 + count f) below_is ∙ sym b.all

    at_node : (i : ℕ) → i < length one → node_at one i ≡ node_at other i
    at_node i less =
        let top = subst (λ (f : Forest). IsNode other 0 0 None 0 (width f)) (sym below_is) b.top in
        let shows = subst (λ (f : Forest). Shows other 1 0 0 f) (sym below_is) b.shows in
        elim (cases_order 0 i) [
          | inl same ↦ subst (λ (j : ℕ). node_at one j ≡ node_at other j) same (node_is one other 0 0 0 None a.below a.top top a.shows shows)
          | inr (inl more) ↦ same_shown one other 1 0 0 a.below a.shows shows i (omega (arith, more)) (omega (arith, less, a.all))
          | inr (inr below) ↦ absurd (omega (arith, below))
        ]

    each : (i : ℕ) (d : TreeNode) → i < length one → get_or one i d ≡ get_or other i d
    each i d less =
        let there : slice_get one i ≡ Some (get_or one i d) = slice_get-get_or one i d less in
        let here : slice_get other i ≡ Some (get_or other i d) = slice_get-get_or other i d (omega (arith, less, size)) in
        sym (get_or_from_slice_get one i (get_or one i d) no_node there)
        ∙ at_node i less ∙ get_or_from_slice_get other i (get_or other i d) no_node here
