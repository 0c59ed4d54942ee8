-- The keywords and what spells them.
use Rattle.std.specs.Prelude.{ℕ, List, [], ◌∷◌, Option, find, codes}
use Rattle.std.specs.Str.{bytes_eq}
use Rattle.lido_lexer.specs.declared.keyword.Keyword.{Keyword}
use Rattle.lido_lexer.specs.declared.keyword.Keyword.TheVariants.{Rule, Compute, End, Listof, Class, Symbol, Inherits, Attr, Term, Chain, Chainstart, Head, Tail, Inh, Synt, This, Including, Constituents, Shield, With, If, Order, PtgOut, PtgNull, PtgNode, Void, Int, Str, Bool, True, False}

-- The bytes of a keyword.
abbrev pub keyword_spelling : Keyword → List ℕ
keyword_spelling Rule = codes "RULE"
keyword_spelling Compute = codes "COMPUTE"
keyword_spelling End = codes "END"
keyword_spelling Listof = codes "LISTOF"
keyword_spelling Class = codes "CLASS"
keyword_spelling Symbol = codes "SYMBOL"
keyword_spelling Inherits = codes "INHERITS"
keyword_spelling Attr = codes "ATTR"
keyword_spelling Term = codes "TERM"
keyword_spelling Chain = codes "CHAIN"
keyword_spelling Chainstart = codes "CHAINSTART"
keyword_spelling Head = codes "HEAD"
keyword_spelling Tail = codes "TAIL"
keyword_spelling Inh = codes "INH"
keyword_spelling Synt = codes "SYNT"
keyword_spelling This = codes "THIS"
keyword_spelling Including = codes "INCLUDING"
keyword_spelling Constituents = codes "CONSTITUENTS"
keyword_spelling Shield = codes "SHIELD"
keyword_spelling With = codes "WITH"
keyword_spelling If = codes "IF"
keyword_spelling Order = codes "ORDER"
keyword_spelling PtgOut = codes "PTGOut"
keyword_spelling PtgNull = codes "PTGNULL"
keyword_spelling PtgNode = codes "PTGNode"
keyword_spelling Void = codes "VOID"
keyword_spelling Int = codes "int"
keyword_spelling Str = codes "string"
keyword_spelling Bool = codes "bool"
keyword_spelling True = codes "true"
keyword_spelling False = codes "false"

-- All keywords.
abbrev pub keywords : List Keyword
keywords =
    Rule ∷ Compute ∷ End ∷ Listof ∷ Class ∷ Symbol ∷ Inherits ∷ Attr ∷ Term ∷ Chain ∷ Chainstart ∷ Head ∷ Tail ∷
    Inh ∷ Synt ∷ This ∷ Including ∷ Constituents ∷ Shield ∷ With ∷ If ∷ Order ∷ PtgOut ∷ PtgNull ∷ PtgNode ∷ Void ∷
    Int ∷ Str ∷ Bool ∷ True ∷ False ∷ []

-- The keyword that a name is, if it is one.
unfoldable pub keyword_of : List ℕ → Option Keyword
keyword_of name = find (λ keyword. bytes_eq name (keyword_spelling keyword)) keywords
