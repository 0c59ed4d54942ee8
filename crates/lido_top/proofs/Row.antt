-- The job with the tree of 3 and 4.
use Rattle.std.proofs.Common.{◌≡◌, ℕ, ℤ, ◌<◌, ◌≤◌, List, [], ◌∷◌, length, codes, pos, Some, None, Ok, refl, arith, rules, zero, suc, inl}
use Rattle.std.specs.Fmt.{digits, signed_decimal}
use Rattle.lido_base.specs.Inputs.{most}
use Rattle.lido_base.specs.Phases.{OneOf}
use Rattle.sum_trees.specs.declared.form.TreeNode.{TreeNode}
use Rattle.sum_trees.specs.declared.form.Child.TheVariants as children
use Rattle.sum_trees.specs.Marks.{Spells}
use Rattle.sum_trees.specs.Trees.{Forest, none, node, leaf, marks_of, IsTree}
use Rattle.sum_trees.proofs.Order.{tree_preorder}
use Rattle.lido_top.specs.Sums.{value_at, sum_at, AllStay}
use Rattle.lido_top.specs.Job.{sum_rules, IsResult}
use Rattle.lido_top.specs.Verdict.{TokensOf, SyntaxOf, PatternsOf, FirstPathOf, TextOf, IsAnswer}
use Rattle.lido_top.specs.Answers.{written}
use Rattle.lido_top.specs.Calls.{of_input}
use Rattle.lido_top.proofs.SumsLemmas.{only_one}
use Rattle.lido_top.proofs.RowText.{one_word, tree_text, job, sections}
use Rattle.lido_top.proofs.RowWords.{said, is_said}
use Rattle.lido_top.proofs.RowSections.{is_cut}
use Rattle.lido_reader.proofs.ExampleTree.{spelled as tokens, spec}
use Rattle.lido_top.proofs.RowTable.{table, is_reading}
use Rattle.lido_top.proofs.RowTokens.{is_lexed}
use Rattle.lido_top.proofs.RowPatterns.{has_no_patterns}

abbrev below : Forest
below = node 1 (node 2 (leaf (pos 3) none) (node 2 (leaf (pos 4) none) none)) none

abbrev nodes : List TreeNode
nodes =
    record { rule = 0; parent = None; place = 0; children = children.Node 1 ∷ [] }
    ∷ record { rule = 1; parent = Some 0; place = 1; children = children.Node 2 ∷ children.Node 3 ∷ [] }
    ∷ record { rule = 2; parent = Some 1; place = 1; children = children.Int (pos 3) ∷ [] }
    ∷ record { rule = 2; parent = Some 1; place = 2; children = children.Int (pos 4) ∷ [] }
    ∷ []

abbrev values : List ℤ
values = pos 7 ∷ pos 7 ∷ pos 3 ∷ pos 4 ∷ []

spelled : Spells (marks_of sum_rules (node 0 below none)) tree_text
spelled = (
  codes "rTop (rAdd (rNum 3) (rNum 4)))\n",
  refl,
  refl,
  refl,
  (
    codes "rAdd (rNum 3) (rNum 4)))\n",
    refl,
    refl,
    refl,
    (
      codes "rNum 3) (rNum 4)))\n",
      refl,
      refl,
      refl,
      (
        omega arith,
        refl,
        search rules,
        (
          codes " (rNum 4)))\n",
          refl,
          (
            codes "rNum 4)))\n",
            refl,
            refl,
            refl,
            (
              omega arith,
              refl,
              search rules,
              (codes "))\n", refl, (codes ")\n", refl, (codes "\n", refl, refl))),
            ),
          ),
        ),
      ),
    ),
  ),
)

is_tree : IsTree sum_rules tree_text nodes
is_tree = record {
  below = below;
  fits = (omega arith, refl, (omega arith, refl, tt, (omega arith, refl, tt, tt)), tt);
  text = spelled;
  top = record { there = omega arith; rule = refl; parent = refl; place = refl; width = refl };
  shows = (
    refl,
    record { there = omega arith; rule = refl; parent = refl; place = refl; width = refl },
    (
      refl,
      record { there = omega arith; rule = refl; parent = refl; place = refl; width = refl },
      (refl, tt),
      (refl, record { there = omega arith; rule = refl; parent = refl; place = refl; width = refl }, (refl, tt), tt),
    ),
    tt,
  );
  all = refl;
  few = omega arith;
}

each_sum : (n : ℕ) → n < 4 → value_at values n ≡ sum_at sum_rules nodes values n
each_sum zero less = refl
each_sum (suc zero) less = refl
each_sum (suc (suc zero)) less = refl
each_sum (suc (suc (suc zero))) less = refl
each_sum (suc (suc (suc (suc n)))) less = absurd (omega (arith, less))

each_stays : AllStay sum_rules nodes values
each_stays zero less = (search rules, tt)
each_stays (suc zero) less = (search rules, (search rules, tt))
each_stays (suc (suc zero)) less = (search rules, tt)
each_stays (suc (suc (suc zero))) less = (search rules, tt)
each_stays (suc (suc (suc (suc n)))) less = absurd (omega (arith, less))

seven : codes "7" ≡ signed_decimal (pos 7)
unfolding digits
seven = refl

is_result : IsResult job (codes "7")
is_result = record {
  tree_text = tree_text;
  job = refl;
  nodes = nodes;
  tree = is_tree;
  values = values;
  only = only_one sum_rules nodes values (tree_preorder sum_rules tree_text nodes is_tree) (record { all = refl; each = each_sum });
  stay = each_stays;
  number = seven;
}

pub is_answer : IsAnswer one_word job (written (codes "7"))
unfolding OneOf TextOf TokensOf SyntaxOf PatternsOf FirstPathOf
is_answer =
    let size : length job ≡ 286 = refl in
    let few : length job ≤ most = omega (arith, size) in
    of_input said is_said refl few
    (Ok (codes "7"), inl (sections, is_cut, inl ((table, tokens), is_lexed, inl (spec, is_reading, inl ([], has_no_patterns _, is_result)))), refl)
