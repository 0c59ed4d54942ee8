-- The depths of nested blocks, by an INCLUDING that looks strictly above:
--   RULE rTop: Top ::= Block COMPUTE Top.depth = 0; END;
--   RULE rBlock: Block LISTOF Block COMPUTE Block.depth = INCLUDING (Block.depth, Top.depth) + 1; END;
use Rattle.std.specs.Prelude.{◌≡◌, ℕ, pos, [], ◌∷◌, List}
use Rattle.lido_base.specs.declared.value.ValueType.TheVariants as type
use Rattle.lido_base.specs.Plain.{Plain, Int, Void}
use Rattle.lido_base.specs.Tree.{Tree, Child}
use Rattle.lido_syntax.specs.declared.spec.Spec.{Spec}
use Rattle.lido_syntax.specs.declared.spec.Comp.{Comp}
use Rattle.lido_syntax.specs.declared.spec.Pair.{Pair}
use Rattle.lido_syntax.specs.declared.spec.Expr.TheVariants as expr
use Rattle.lido_syntax.specs.declared.spec.RuleItem.{RuleItem}
use Rattle.lido_syntax.specs.Assignment.{Assignment, Attribute}
use Rattle.lido_syntax.specs.Computation.{by_rule}
use Rattle.lido_syntax.specs.Sets.{Sets}
use Rattle.lido_syntax.specs.Value.{value}
use Rattle.trials_of_syntax.specs.Writing.{env, int, call, pair, named, attr, comp, plain_rule, list_rule, declaration, of_rules, root, node, assigned, ADD}

abbrev pub Top : ℕ
Top = 20

abbrev pub Block : ℕ
Block = 21

abbrev pub depth : ℕ
depth = 30

abbrev pub pairs : List Pair
pairs = pair Block depth ∷ pair Top depth ∷ []

abbrev pub one_deeper : Comp
one_deeper = comp 1 (attr (named Block) depth) (call ADD (expr.Including 0 pairs ∷ int 1 ∷ []))

abbrev pub top_rule : RuleItem
top_rule = plain_rule Top (Block ∷ []) (comp 0 (attr (named Top) depth) (int 0) ∷ [])

abbrev pub block_rule : RuleItem
block_rule = list_rule Block (Block ∷ []) (one_deeper ∷ [])

abbrev pub spec : Spec
spec = of_rules (top_rule ∷ block_rule ∷ []) (declaration depth type.Int ∷ []) [] []

-- (rTop (rBlock (rBlock (rBlock))))
abbrev pub tree : Tree Plain
tree = root 0 (Child 1 ∷ []) ∷ node 1 0 1 (Child 2 ∷ []) ∷ node 1 1 1 (Child 3 ∷ []) ∷ node 1 2 1 [] ∷ []

abbrev pub depths : Assignment
depths = assigned ((0, Attribute depth, Int (pos 0)) ∷ (1, Attribute depth, Int (pos 1)) ∷ (2, Attribute depth, Int (pos 2)) ∷ (3, Attribute depth, Int (pos 3)) ∷ [])

-- the depth that the rule of blocks computes at the node
abbrev pub IsDepth : ℕ → Plain → Type 0
IsDepth at v = (sets : Sets spec) → value spec sets env tree depths by_rule block_rule 1 at (λ c. Void) one_deeper.value ≡ v
