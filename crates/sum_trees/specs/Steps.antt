-- A tree that is read in part.
use Rattle.std.specs.Prelude.{◌≡◌, ◌≢◌, ◌<◌, ◌≤◌, ◌+◌, ◌-◌, ◌^◌, ℕ, List, [], ◌∷◌, ◌++◌, length, drop, Option, Some, None, slice_get}
use Rattle.sum_trees.specs.declared.form.SumRule.{SumRule}
use Rattle.sum_trees.specs.declared.form.Element.{Element}
use Rattle.sum_trees.specs.declared.form.TreeNode.{TreeNode}
use Rattle.sum_trees.specs.declared.form.Child.{Child}
use Rattle.sum_trees.specs.Marks.{Mark, ends, Spells}
use Rattle.sum_trees.specs.Trees.{Forest, Fits, Shows, rule_at, node_at, marks_of, width, count, IsTree, most_nodes}

-- an open node: its number, what its rule still asks for, and how many children it has
pub record Frame : Type 0 where
  pub at : ℕ
  pub wants : List Element
  pub has : ℕ

-- the open nodes, from the innermost on, each with a smaller number than the one before
abbrev pub IsPath : List SumRule → List TreeNode → ℕ → Option ℕ → List Frame → Type 0
IsPath rules nodes bound None [] = Unit {0}
IsPath rules nodes bound (Some p) (f ∷ fs) = (f.at ≡ p) × (p < bound) × ((node_at nodes p).rule < length rules)
    × (f.wants ≡ drop (length (node_at nodes p).children) (rule_at rules (node_at nodes p).rule).right)
    × (f.has ≡ length (node_at nodes p).children) × IsPath rules nodes p (node_at nodes p).parent fs
IsPath rules nodes bound None (f ∷ fs) = ⊥
IsPath rules nodes bound (Some p) [] = ⊥

-- the marks end the open nodes, and give the final nodes from n on
abbrev pub Pending : List SumRule → List Frame → ℕ → List Mark → List TreeNode → Type 0
Pending rules [] n marks final = (marks ≡ []) × (length final ≡ n)
Pending rules (f ∷ fs) n marks final = (after : Forest) × (more : List Mark) × Fits rules f.wants after × (marks ≡ marks_of rules after ++ (ends ∷ more))
    × Shows final n f.at f.has after × (length (node_at final f.at).children ≡ f.has + width after) × Pending rules fs (n + count after) more final

abbrev pub IsClosed : List Frame → ℕ → Type 0
IsClosed [] n = Unit {0}
IsClosed (f ∷ fs) n = (n ≢ f.at) × IsClosed fs n

-- the node as it is later: it may have more children
pub record Later (old new : TreeNode) : Type 0 where
  pub rule : new.rule ≡ old.rule
  pub parent : new.parent ≡ old.parent
  pub place : new.place ≡ old.place
  pub more : List Child
  pub children : new.children ≡ old.children ++ more

pub record Grows (frames : List Frame) (nodes final : List TreeNode) : Type 0 where
  pub longer : length nodes ≤ length final
  pub each : (n : ℕ) → n < length nodes → Later (node_at nodes n) (node_at final n)
  pub closed : (n : ℕ) → n < length nodes → IsClosed frames n → (node_at final n).children ≡ (node_at nodes n).children

-- what is left of the text makes these nodes the final ones
pub record Reaches (rules : List SumRule) (frames : List Frame) (nodes : List TreeNode) (rest : List ℕ) (final : List TreeNode) : Type 0 where
  pub marks : List Mark
  pub text : Spells marks rest
  pub pending : Pending rules frames (length nodes) marks final
  pub grows : Grows frames nodes final

-- one state of the reading leads to another, and nothing else can come of either
pub record Leads (rules : List SumRule) (frames : List Frame) (old : List TreeNode) (rest : List ℕ) (new : List TreeNode) (current : Option ℕ) (behind : List ℕ) : Type 0 where
  pub after : List Frame
  pub path : IsPath rules new (length new) current after
  pub on : (final : List TreeNode) → Reaches rules after new behind final → Reaches rules frames old rest final
  pub back : (final : List TreeNode) → Reaches rules frames old rest final → Reaches rules after new behind final

-- the open node p asks for this element, or for nothing more
abbrev pub AsksFor : List SumRule → List TreeNode → ℕ → Option Element → Type 0
AsksFor rules nodes p element = slice_get (rule_at rules (node_at nodes p).rule).right (length (node_at nodes p).children) ≡ element

-- a text that is read in part: what is left makes the final nodes, and no others are a tree of the text
pub record IsReading (rules : List SumRule) (text : List ℕ) (nodes : List TreeNode) (current : Option ℕ) (rest : List ℕ) : Type 0 where
  pub frames : List Frame
  pub path : IsPath rules nodes (length nodes) current frames
  pub on : (final : List TreeNode) → Reaches rules frames nodes rest final → length final ≤ most_nodes → IsTree rules text final
  pub back : (final : List TreeNode) → IsTree rules text final → Reaches rules frames nodes rest final
  pub few : length nodes ≤ most_nodes

abbrev pub HasFewElements : List SumRule → Type 0
HasFewElements rules = (k : ℕ) → k < length rules → length (rule_at rules k).right < 2 ^ 32 - 1

-- no tree is reached
abbrev pub LeadsNowhere : List SumRule → List TreeNode → ℕ → List ℕ → Type 0
LeadsNowhere rules nodes at rest = (frames : List Frame) (final : List TreeNode) → length final ≤ most_nodes → IsPath rules nodes (length nodes) (Some at) frames → Reaches rules frames nodes rest final → ⊥
