-- The generated job. Our own.
use Rattle.std.specs.Prelude.{ℕ, List, ◌++◌, codes}
use Rattle.std.specs.List.{repeat}

-- Everything in front of the blocks: the specification, the patterns, and the tree's first line.
unfoldable pub head : List ℕ
head =
    codes "CHAIN pos: int;\n"
    ++ codes "ATTR text: PTGNode;\n"
    ++ codes "TERM Number: int;\n"
    ++ codes "RULE rTop: Top LISTOF Block COMPUTE\n"
    ++ codes "  CHAINSTART HEAD.pos = 0;\n"
    ++ codes "  PTGOut(CONSTITUENTS Block.text SHIELD Block WITH (PTGNode, PTGSeq, IDENTICAL, PTGNull));\n"
    ++ codes "END;\n"
    ++ codes "RULE rBlock: Block LISTOF Item COMPUTE\n"
    ++ codes "  Block.text = CONSTITUENTS Item.text WITH (PTGNode, PTGSeq, IDENTICAL, PTGNull);\n"
    ++ codes "END;\n"
    ++ codes "RULE rItem: Item ::= Number COMPUTE\n"
    ++ codes "  Item.text = PTGLine(Item.pos);\n"
    ++ codes "  Item.pos = Item.pos + Number;\n"
    ++ codes "END;\n"
    ++ codes "%%PTG\n"
    ++ codes "Line: $ int \"\\n\"\n"
    ++ codes "%%TREE\n"
    ++ codes "(rTop\n"

-- A block is a line of ten items.
unfoldable pub block : List ℕ
block = codes "(rBlock" ++ repeat 10 (codes " (rItem 1)") ++ codes ")\n"

-- The tree's last line.
unfoldable pub tail : List ℕ
tail = codes ")\n"

-- The head, the block n times, and the tail.
abbrev pub generated : ℕ → List ℕ
generated n = head ++ repeat n block ++ tail
