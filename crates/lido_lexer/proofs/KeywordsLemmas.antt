-- Each keyword is read from its own bytes.
use Rattle.std.proofs.Common.{◌≡◌, Some, refl}
use Rattle.lido_lexer.specs.declared.keyword.Keyword.{Keyword}
use Rattle.lido_lexer.specs.declared.keyword.Keyword.TheVariants.{Rule, Compute, End, Listof, Class, Symbol, Inherits, Attr, Term, Chain, Chainstart, Head, Tail, Inh, Synt, This, Including, Constituents, Shield, With, If, Order, PtgOut, PtgNull, PtgNode, Void, Int, Str, Bool, True, False}
use Rattle.lido_lexer.specs.Keywords.{keyword_spelling, keyword_of}

pub keyword_back : (keyword : Keyword) → keyword_of (keyword_spelling keyword) ≡ Some keyword
unfolding keyword_of
keyword_back Rule = refl
keyword_back Compute = refl
keyword_back End = refl
keyword_back Listof = refl
keyword_back Class = refl
keyword_back Symbol = refl
keyword_back Inherits = refl
keyword_back Attr = refl
keyword_back Term = refl
keyword_back Chain = refl
keyword_back Chainstart = refl
keyword_back Head = refl
keyword_back Tail = refl
keyword_back Inh = refl
keyword_back Synt = refl
keyword_back This = refl
keyword_back Including = refl
keyword_back Constituents = refl
keyword_back Shield = refl
keyword_back With = refl
keyword_back If = refl
keyword_back Order = refl
keyword_back PtgOut = refl
keyword_back PtgNull = refl
keyword_back PtgNode = refl
keyword_back Void = refl
keyword_back Int = refl
keyword_back Str = refl
keyword_back Bool = refl
keyword_back True = refl
keyword_back False = refl
