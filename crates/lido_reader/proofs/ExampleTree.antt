-- The specification of sums that the first path knows: its tokens with the ids of their texts, and its tree.
use Rattle.std.proofs.Common.{ℕ, ◌+◌, pos, false, List, [], ◌∷◌, ◌++◌, Some, None}
use Rattle.lido_base.specs.declared.ids.StrId.{StrId}
use Rattle.lido_base.specs.declared.value.ValueType.TheVariants as type
use Rattle.lido_lexer.specs.declared.keyword.Keyword.{Keyword}
use Rattle.lido_lexer.specs.declared.keyword.Keyword.TheVariants as key
use Rattle.lido_lexer.specs.declared.sign.Sign.{Sign}
use Rattle.lido_lexer.specs.declared.sign.Sign.TheVariants as sign
use Rattle.lido_lexer.specs.declared.token.Token.{Token}
use Rattle.lido_lexer.specs.declared.token.TokenKind.{TokenKind}
use Rattle.lido_lexer.specs.declared.token.TokenKind.TheVariants as kind
use Rattle.lido_syntax.specs.declared.spec.Name.{Name}
use Rattle.lido_syntax.specs.declared.spec.Comp.{Comp}
use Rattle.lido_syntax.specs.declared.spec.Decl.{Decl}
use Rattle.lido_syntax.specs.declared.spec.Typed1.{Typed1}
use Rattle.lido_syntax.specs.declared.spec.Element.{Element}
use Rattle.lido_syntax.specs.declared.spec.Element.TheVariants as element
use Rattle.lido_syntax.specs.declared.spec.Place.{Place}
use Rattle.lido_syntax.specs.declared.spec.Place.TheVariants as place
use Rattle.lido_syntax.specs.declared.spec.Expr.{Expr}
use Rattle.lido_syntax.specs.declared.spec.Expr.TheVariants as expr
use Rattle.lido_syntax.specs.declared.spec.Target.TheVariants as target
use Rattle.lido_syntax.specs.declared.spec.RuleItem.{RuleItem}
use Rattle.lido_syntax.specs.declared.spec.Spec.{Spec}

-- ---- the names, by the ids of their texts; those below 23 are known words

abbrev pub text : ℕ → StrId
text id = record { 0 = id }

abbrev pub named : ℕ → ℕ → Name
named from id = record { at = from; id = text id }

abbrev pub ADD : ℕ
ADD = 8

abbrev pub val : ℕ
val = 23

abbrev pub num : ℕ
num = 24

abbrev pub r_top : ℕ
r_top = 25

abbrev pub top : ℕ
top = 26

abbrev pub term : ℕ
term = 27

abbrev pub numb : ℕ
numb = 28

abbrev pub r_add : ℕ
r_add = 29

abbrev pub plus : ℕ
plus = 30

abbrev pub r_num : ℕ
r_num = 31

-- ---- the tokens

abbrev pub at : ℕ → ℕ → TokenKind → Token
at from to what = record { from = from; to = to; what = what }

abbrev pub word : ℕ → ℕ → ℕ → Token
word from to id = at from to (kind.Word (text id))

abbrev pub mark : ℕ → ℕ → Sign → Token
mark from to s = at from to (kind.Sign s)

abbrev pub keyword : ℕ → ℕ → Keyword → Token
keyword from to k = at from to (kind.Key k)

-- ": int ;", begun here
abbrev pub typing : ℕ → List Token
typing from = mark from (from + 1) sign.Colon ∷ keyword (from + 2) (from + 5) key.Int ∷ mark (from + 5) (from + 6) sign.Semicolon ∷ []

abbrev pub attr_tokens : List Token
attr_tokens = keyword 0 4 key.Attr ∷ word 5 8 val ∷ typing 8

abbrev pub term_tokens : List Token
term_tokens = keyword 15 19 key.Term ∷ word 20 23 num ∷ typing 23

-- "RULE name: left ::=", a name having 4 letters, and the left side so many
abbrev pub head : ℕ → ℕ → ℕ → ℕ → List Token
head from name left letters =
    keyword from (from + 4) key.Rule ∷ word (from + 5) (from + 9) name ∷ mark (from + 9) (from + 10) sign.Colon
    ∷ word (from + 11) (from + 11 + letters) left
    ∷ mark (from + 12 + letters) (from + 15 + letters) sign.Produces ∷ []

-- "; END;"
abbrev pub ending : ℕ → List Token
ending from = mark from (from + 1) sign.Semicolon ∷ keyword (from + 2) (from + 5) key.End ∷ mark (from + 5) (from + 6) sign.Semicolon ∷ []

-- "Expr.val"
abbrev pub bare_tokens : ℕ → List Token
bare_tokens from = word from (from + 4) term ∷ mark (from + 4) (from + 5) sign.Dot ∷ word (from + 5) (from + 8) val ∷ []

-- "Expr[index].val"
abbrev pub indexed_tokens : ℕ → ℕ → List Token
indexed_tokens from index =
    word from (from + 4) term ∷ mark (from + 4) (from + 5) sign.BracketOpen ∷ at (from + 5) (from + 6) (kind.Int (pos index))
    ∷ mark (from + 6) (from + 7) sign.BracketClose
    ∷ mark (from + 7) (from + 8) sign.Dot ∷ word (from + 8) (from + 11) val ∷ []

-- "PTGOut(PTGNumb(Expr.val))"
abbrev pub out_tokens : List Token
out_tokens =
    keyword 64 70 key.PtgOut ∷ mark 70 71 sign.ParenOpen ∷ word 71 78 numb ∷ mark 78 79 sign.ParenOpen
    ∷ bare_tokens 79 ++ mark 87 88 sign.ParenClose ∷ mark 88 89 sign.ParenClose ∷ []

-- "Expr[2].val + Expr[3].val"
abbrev pub addition_tokens : List Token
addition_tokens = indexed_tokens 154 2 ++ mark 166 167 sign.Plus ∷ indexed_tokens 168 3

-- "Expr[1].val = Expr[2].val + Expr[3].val"
abbrev pub sum_tokens : List Token
sum_tokens = indexed_tokens 140 1 ++ mark 152 153 sign.Equal ∷ addition_tokens

-- "Expr.val = Num"
abbrev pub number_tokens : List Token
number_tokens = bare_tokens 220 ++ mark 229 230 sign.Equal ∷ word 231 234 num ∷ []

abbrev pub top_tokens : List Token
top_tokens = head 30 r_top top 3 ++ word 49 53 term ∷ keyword 54 61 key.Compute ∷ out_tokens ++ ending 89

abbrev pub add_tokens : List Token
add_tokens =
    head 96 r_add term 4 ++ word 116 120 term ∷ at 121 124 (kind.Literal (text plus)) ∷ word 125 129 term
    ∷ keyword 130 137 key.Compute ∷ sum_tokens ++ ending 179

abbrev pub num_tokens : List Token
num_tokens = head 186 r_num term 4 ++ word 206 209 num ∷ keyword 210 217 key.Compute ∷ number_tokens ++ ending 234

abbrev pub spelled : List Token
spelled = attr_tokens ++ term_tokens ++ top_tokens ++ add_tokens ++ num_tokens ++ []

-- ---- the tree

abbrev pub bare_place : ℕ → Place
bare_place from = place.Named (named from term) None

abbrev pub indexed_place : ℕ → ℕ → Place
indexed_place from index = place.Named (named from term) (Some (pos index))

-- the value of "Expr.val"
abbrev pub bare : ℕ → Expr
bare from = expr.Read from (bare_place from) (named (from + 5) val)

-- the value of "Expr[index].val"
abbrev pub indexed : ℕ → ℕ → Expr
indexed from index = expr.Read from (indexed_place from index) (named (from + 8) val)

abbrev pub out_comp : Comp
out_comp = record { at = 64; number = 0; target = target.Out; value = expr.Call (named 71 numb) (bare 79 ∷ []); after = [] }

abbrev pub sum_comp : Comp
sum_comp = record {
  at = 140;
  number = 1;
  target = target.Attr (indexed_place 140 1) (named 148 val);
  value = expr.Call (named 166 ADD) (indexed 154 2 ∷ indexed 168 3 ∷ []);
  after = [];
}

abbrev pub num_comp : Comp
num_comp = record {
  at = 220;
  number = 2;
  target = target.Attr (bare_place 220) (named 225 val);
  value = expr.Terminal (named 231 num) None;
  after = [];
}

-- a rule with a name of 4 letters
abbrev pub rule_at : ℕ → ℕ → ℕ → List Element → List Comp → RuleItem
rule_at from name left right body = record { at = from + 5; name = text name; left = named (from + 11) left; list = false; right = right; body = body }

abbrev pub top_rule : RuleItem
top_rule = rule_at 30 r_top top (element.Symbol (named 49 term) ∷ []) (out_comp ∷ [])

abbrev pub add_rule : RuleItem
add_rule =
    rule_at 96 r_add term (element.Symbol (named 116 term) ∷ element.Literal (text plus) ∷ element.Symbol (named 125 term) ∷ []) (sum_comp ∷ [])

abbrev pub num_rule : RuleItem
num_rule = rule_at 186 r_num term (element.Symbol (named 206 num) ∷ []) (num_comp ∷ [])

abbrev pub attr_decls : List Decl
attr_decls = record { attr = named 5 val; ty = type.Int; kind = None } ∷ []

abbrev pub term_decls : List Typed1
term_decls = record { name = named 20 num; ty = type.Int } ∷ []

-- the specification, once the attributes are read
abbrev pub with_attr : Spec
with_attr = record { rules = []; symbols = []; attrs = attr_decls; terms = []; chains = [] }

-- once the terminals and these rules are read
abbrev pub with_rules : List RuleItem → Spec
with_rules rules = record { rules = rules; symbols = []; attrs = attr_decls; terms = term_decls; chains = [] }

abbrev pub spec : Spec
spec = with_rules (top_rule ∷ add_rule ∷ num_rule ∷ [])
