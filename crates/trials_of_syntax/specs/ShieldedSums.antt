-- Sums of numbers of nested blocks, with and without a shield:
--   RULE rTop: Top ::= Block COMPUTE
--     PTGOut(PTGTwo(CONSTITUENTS Block.n SHIELD Block WITH (int, ADD, IDENTICAL, ZERO), CONSTITUENTS Block.n WITH (int, ADD, IDENTICAL, ZERO)));
--   END;
--   RULE rBlock: Block ::= Num Blocks COMPUTE Block.n = Num; END;
--   RULE rBlocks: Blocks LISTOF Block END;
use Rattle.std.specs.Prelude.{◌≡◌, ℕ, pos, [], ◌∷◌}
use Rattle.lido_base.specs.declared.value.ValueType.TheVariants as type
use Rattle.lido_base.specs.Plain.{Plain, Int}
use Rattle.lido_base.specs.Tree.{Tree, Child, Leaf}
use Rattle.lido_syntax.specs.declared.spec.Spec.{Spec}
use Rattle.lido_syntax.specs.declared.spec.Cons.{Cons}
use Rattle.lido_syntax.specs.Assignment.{Assignment, Attribute}
use Rattle.lido_syntax.specs.Sets.{Sets}
use Rattle.lido_syntax.specs.Constituents.{constituents_at}
use Rattle.trials_of_syntax.specs.Writing.{env, terminal, named, attr, comp, constituents, as_a_sum, plain_rule, list_rule, declaration, of_rules, root, node, assigned}

abbrev pub Top : ℕ
Top = 20

abbrev pub Block : ℕ
Block = 21

abbrev pub Num : ℕ
Num = 22

abbrev pub Blocks : ℕ
Blocks = 23

abbrev pub n : ℕ
n = 30

abbrev pub spec : Spec
spec = of_rules
    (plain_rule Top (Block ∷ []) []
    ∷ plain_rule Block (Num ∷ Blocks ∷ []) (comp 3 (attr (named Block) n) (terminal Num) ∷ [])
    ∷ list_rule Blocks (Block ∷ []) []
    ∷ [])
    (declaration n type.Int ∷ []) [] []

abbrev pub shielded : Cons
shielded = constituents 1 Block n (Block ∷ []) as_a_sum

abbrev pub unshielded : Cons
unshielded = constituents 2 Block n [] as_a_sum

-- a shield that is no source stops the way down
abbrev pub shielded_by_the_list : Cons
shielded_by_the_list = constituents 4 Block n (Blocks ∷ []) as_a_sum

-- (rTop (rBlock 1 (rBlocks (rBlock 20 (rBlocks)) (rBlock 300 (rBlocks)))))
abbrev pub tree : Tree Plain
tree =
    root 0 (Child 1 ∷ [])
    ∷ node 1 0 1 (Leaf (Int (pos 1)) ∷ Child 2 ∷ [])
    ∷ node 2 1 2 (Child 3 ∷ Child 5 ∷ [])
    ∷ node 1 2 1 (Leaf (Int (pos 20)) ∷ Child 4 ∷ [])
    ∷ node 2 3 2 []
    ∷ node 1 2 2 (Leaf (Int (pos 300)) ∷ Child 6 ∷ [])
    ∷ node 2 5 2 []
    ∷ []

abbrev pub numbers : Assignment
numbers = assigned ((1, Attribute n, Int (pos 1)) ∷ (3, Attribute n, Int (pos 20)) ∷ (5, Attribute n, Int (pos 300)) ∷ [])

-- the CONSTITUENTS has this value at the node
abbrev pub HasSum : Cons → ℕ → Plain → Type 0
HasSum k at v = (sets : Sets spec) → constituents_at spec sets env tree numbers k at k.with ≡ v
