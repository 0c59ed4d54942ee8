-- What is pending, by what the innermost open node asks for.
use Rattle.std.proofs.Common.{◌≡◌, ℕ, ℤ, ◌+◌, ◌<◌, ◌≤◌, List, [], ◌∷◌, ◌++◌, length, Some, refl, ap, sym, ◌∙◌, arith, append_assoc, subst}
use Rattle.sum_trees.specs.declared.form.SumRule.{SumRule}
use Rattle.sum_trees.specs.declared.form.Element.{Element}
use Rattle.sum_trees.specs.declared.form.Element.TheVariants as elements
use Rattle.sum_trees.specs.declared.form.TreeNode.{TreeNode}
use Rattle.sum_trees.specs.declared.form.Child.TheVariants as children
use Rattle.sum_trees.specs.Marks.{Mark, begins, number, ends}
use Rattle.sum_trees.specs.Trees.{Forest, none, node, leaf, Fits, Shows, rule_at, node_at, child_of, marks_of, width, count}
use Rattle.sum_trees.specs.Steps.{Frame, Pending}

abbrev pub frame : ℕ → List Element → ℕ → Frame
frame n es k = record { at = n; wants = es; has = k }

-- the same at an equal number
at_number : (rules : List SumRule) (fs : List Frame) (m n : ℕ) (ms : List Mark) (final : List TreeNode) → m ≡ n → Pending rules fs m ms final → Pending rules fs n ms final
at_number rules fs m n ms final e pending = subst (λ (k : ℕ). Pending rules fs k ms final) e pending

pub number_on : (rules : List SumRule) (p k n : ℕ) (es : List Element) (fs : List Frame) (z : ℤ) (ms : List Mark) (final : List TreeNode)
    → child_of final p k ≡ Some (children.Int z) → Pending rules (frame p es (k + 1) ∷ fs) n ms final
    → Pending rules (frame p (elements.Int ∷ es) k ∷ fs) n (number z ∷ ms) final
number_on rules p k n es fs z ms final child (after, more, fits, text, shows, size, pending) =
    (leaf z after, more, fits, ap (λ (l : List Mark). number z ∷ l) text, (child, shows), omega (arith, size), pending)

pub number_parts : (rules : List SumRule) (p k n : ℕ) (es : List Element) (fs : List Frame) (ms : List Mark) (final : List TreeNode) (after : Forest) (more : List Mark)
    → Fits rules (elements.Int ∷ es) after → ms ≡ marks_of rules after ++ (ends ∷ more) → Shows final n p k after
    → length (node_at final p).children ≡ k + width after → Pending rules fs (n + count after) more final
    → (z : ℤ) × (rest : List Mark) × (ms ≡ number z ∷ rest) × (child_of final p k ≡ Some (children.Int z)) × Pending rules (frame p es (k + 1) ∷ fs) n rest final
number_parts rules p k n es fs ms final none more fits text shows size pending = absurd fits
number_parts rules p k n es fs ms final (node r below after) more fits text shows size pending = absurd fits
number_parts rules p k n es fs ms final (leaf z after) more fits text shows size pending =
    (z, marks_of rules after ++ (ends ∷ more), text, shows.0, (after, more, fits, refl, shows.1, omega (arith, size), pending))

pub number_back : (rules : List SumRule) (p k n : ℕ) (es : List Element) (fs : List Frame) (ms : List Mark) (final : List TreeNode)
    → Pending rules (frame p (elements.Int ∷ es) k ∷ fs) n ms final
    → (z : ℤ) × (rest : List Mark) × (ms ≡ number z ∷ rest) × (child_of final p k ≡ Some (children.Int z)) × Pending rules (frame p es (k + 1) ∷ fs) n rest final
number_back rules p k n es fs ms final (after, more, fits, text, shows, size, pending) = number_parts rules p k n es fs ms final after more fits text shows size pending

pub end_on : (rules : List SumRule) (p k n : ℕ) (fs : List Frame) (ms : List Mark) (final : List TreeNode)
    → length (node_at final p).children ≡ k → Pending rules fs n ms final → Pending rules (frame p [] k ∷ fs) n (ends ∷ ms) final
end_on rules p k n fs ms final size pending = (none, ms, tt, refl, tt, omega (arith, size), at_number rules fs n (n + 0) ms final (omega arith) pending)

pub end_parts : (rules : List SumRule) (p k n : ℕ) (fs : List Frame) (ms : List Mark) (final : List TreeNode) (after : Forest) (more : List Mark)
    → Fits rules [] after → ms ≡ marks_of rules after ++ (ends ∷ more)
    → length (node_at final p).children ≡ k + width after → Pending rules fs (n + count after) more final
    → (rest : List Mark) × (ms ≡ ends ∷ rest) × (length (node_at final p).children ≡ k) × Pending rules fs n rest final
end_parts rules p k n fs ms final none more fits text size pending = (more, text, omega (arith, size), at_number rules fs (n + 0) n more final (omega arith) pending)
end_parts rules p k n fs ms final (node r below after) more fits text size pending = absurd fits
end_parts rules p k n fs ms final (leaf z after) more fits text size pending = absurd fits

pub end_back : (rules : List SumRule) (p k n : ℕ) (fs : List Frame) (ms : List Mark) (final : List TreeNode)
    → Pending rules (frame p [] k ∷ fs) n ms final
    → (rest : List Mark) × (ms ≡ ends ∷ rest) × (length (node_at final p).children ≡ k) × Pending rules fs n rest final
end_back rules p k n fs ms final (after, more, fits, text, shows, size, pending) = end_parts rules p k n fs ms final after more fits text size pending

pub node_on : (rules : List SumRule) (p k n left r : ℕ) (es : List Element) (fs : List Frame) (ms : List Mark) (final : List TreeNode)
    → r < length rules → (rule_at rules r).left ≡ left → child_of final p k ≡ Some (children.Node n)
    → n < length final → (node_at final n).rule ≡ r → (node_at final n).parent ≡ Some p → (node_at final n).place ≡ k + 1
    → Pending rules (frame n (rule_at rules r).right 0 ∷ frame p es (k + 1) ∷ fs) (n + 1) ms final
    → Pending rules (frame p (elements.Node left ∷ es) k ∷ fs) n (begins (rule_at rules r).name ∷ ms) final
node_on rules p k n left r es fs ms final less same child there rule parent place (below, rest, fits, text, shows, size, (after, more, fits', text', shows', size', pending)) = (
  node r below after,
  more,
  (less, same, fits, fits'),
  ap (λ (l : List Mark). begins (rule_at rules r).name ∷ l) (text ∙ ap (λ (l : List Mark). marks_of rules below ++ (ends ∷ l)) text') ∙ ap (λ (l : List Mark). begins (rule_at rules r).name ∷ l) (sym (append_assoc (marks_of rules below) (ends ∷ marks_of rules after) (ends ∷ more))),
  (child, record { there = there; rule = rule; parent = parent; place = place; width = omega (arith, size) }, shows, shows'),
  omega (arith, size'),
  at_number rules fs (n + 1 + count below + count after) (n + (1 + count below + count after)) more final (omega arith) pending,
)

pub node_parts : (rules : List SumRule) (p k n left : ℕ) (es : List Element) (fs : List Frame) (ms : List Mark) (final : List TreeNode) (after : Forest) (more : List Mark)
    → Fits rules (elements.Node left ∷ es) after → ms ≡ marks_of rules after ++ (ends ∷ more) → Shows final n p k after
    → length (node_at final p).children ≡ k + width after → Pending rules fs (n + count after) more final
    → (r : ℕ) × (rest : List Mark) × (ms ≡ begins (rule_at rules r).name ∷ rest) × (r < length rules) × ((rule_at rules r).left ≡ left) × (child_of final p k ≡ Some (children.Node n))
    × (n < length final) × ((node_at final n).rule ≡ r) × ((node_at final n).parent ≡ Some p) × ((node_at final n).place ≡ k + 1)
    × Pending rules (frame n (rule_at rules r).right 0 ∷ frame p es (k + 1) ∷ fs) (n + 1) rest final
node_parts rules p k n left es fs ms final none more fits text shows size pending = absurd fits
node_parts rules p k n left es fs ms final (leaf z after) more fits text shows size pending = absurd fits
node_parts rules p k n left es fs ms final (node r below after) more fits text shows size pending =
    let is = shows.1 in (
      r,
      marks_of rules below ++ (ends ∷ (marks_of rules after ++ (ends ∷ more))),
      text ∙ ap (λ (l : List Mark). begins (rule_at rules r).name ∷ l) (append_assoc (marks_of rules below) (ends ∷ marks_of rules after) (ends ∷ more)),
      fits.0,
      fits.1,
      shows.0,
      is.there,
      is.rule,
      is.parent,
      is.place,
      (
        below,
        marks_of rules after ++ (ends ∷ more),
        fits.2,
        refl,
        shows.2,
        omega (arith, is.width),
        (after, more, fits.3, refl, shows.3, omega (arith, size), at_number rules fs (n + (1 + count below + count after)) (n + 1 + count below + count after) more final (omega arith) pending),
      ),
    )

pub node_back : (rules : List SumRule) (p k n left : ℕ) (es : List Element) (fs : List Frame) (ms : List Mark) (final : List TreeNode)
    → Pending rules (frame p (elements.Node left ∷ es) k ∷ fs) n ms final
    → (r : ℕ) × (rest : List Mark) × (ms ≡ begins (rule_at rules r).name ∷ rest) × (r < length rules) × ((rule_at rules r).left ≡ left) × (child_of final p k ≡ Some (children.Node n))
    × (n < length final) × ((node_at final n).rule ≡ r) × ((node_at final n).parent ≡ Some p) × ((node_at final n).place ≡ k + 1)
    × Pending rules (frame n (rule_at rules r).right 0 ∷ frame p es (k + 1) ∷ fs) (n + 1) rest final
node_back rules p k n left es fs ms final (after, more, fits, text, shows, size, pending) = node_parts rules p k n left es fs ms final after more fits text shows size pending

-- the nodes that are there are among the final ones
pub within : (rules : List SumRule) (fs : List Frame) (n : ℕ) (ms : List Mark) (final : List TreeNode) → Pending rules fs n ms final → n ≤ length final
within rules [] n ms final pending = omega (arith, pending.1)
within rules (f ∷ fs) n ms final (after, more, fits, text, shows, size, pending) = omega (arith, within rules fs (n + count after) more final pending)
