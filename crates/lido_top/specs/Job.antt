-- The one job that the first path knows: sums from a tree.
use Rattle.std.specs.Prelude.{◌≡◌, ℕ, ℤ, List, [], ◌∷◌, ◌++◌, codes}
use Rattle.std.specs.Fmt.{signed_decimal}
use Rattle.sum_trees.specs.declared.form.SumRule.{SumRule}
use Rattle.sum_trees.specs.declared.form.TreeNode.{TreeNode}
use Rattle.sum_trees.specs.declared.form.Element.TheVariants as elements
use Rattle.sum_trees.specs.Trees.{IsTree}
use Rattle.lido_top.specs.Sums.{IsOnlyAttribution, AllStay, value_at}
use Rattle.lido_top.specs.declared.job.TheConstants.{SUM_JOB}

-- the rules of the job's specification: a top, whose value is its expression's; a sum of two expressions; a number
abbrev pub sum_rules : List SumRule
sum_rules =
    record { name = codes "rTop"; left = 0; right = elements.Node 1 ∷ []; sum = 1 ∷ [] }
    ∷ record { name = codes "rAdd"; left = 1; right = elements.Node 1 ∷ elements.Node 1 ∷ []; sum = 1 ∷ 2 ∷ [] }
    ∷ record { name = codes "rNum"; left = 1; right = elements.Int ∷ []; sum = 1 ∷ [] }
    ∷ []

-- the bytes are the job's specification, and then this tree text
abbrev pub IsJob : List ℕ → List ℕ → Type 0
IsJob bytes tree_text = bytes ≡ SUM_JOB.now ++ tree_text

-- The bytes are the job with a tree, and the text is the decimal number of the top's value,
-- under the only assignment in which each node's attribute is its sum; each sum stays in 64 bits.
pub record IsResult (bytes text : List ℕ) : Type 0 where
  pub tree_text : List ℕ
  pub job : IsJob bytes tree_text
  pub nodes : List TreeNode
  pub tree : IsTree sum_rules tree_text nodes
  pub values : List ℤ
  pub only : IsOnlyAttribution sum_rules nodes values
  pub stay : AllStay sum_rules nodes values
  pub number : text ≡ signed_decimal (value_at values 0)
