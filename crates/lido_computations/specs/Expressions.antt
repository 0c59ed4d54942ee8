-- The grammar of expressions. A phrase is given what its computation may still spend and the number that comes next, and gives
-- its tree with what is left of both.
use Rattle.std.specs.Prelude.{◌≡◌, ℕ, suc, ◌<◌, ℤ, Bool, true, false, ◌||◌, nat_le, List, [], ◌∷◌, ◌++◌, Option, Some, None, slice_get, codes}
use Rattle.lido_base.specs.declared.ids.StrId.{StrId}
use Rattle.lido_lexer.specs.Seen.{Signs}
use Rattle.lido_lexer.specs.declared.keyword.Keyword.TheVariants as key
use Rattle.lido_lexer.specs.declared.sign.Sign.TheVariants as sign
use Rattle.lido_lexer.specs.declared.token.Token.{Token}
use Rattle.lido_lexer.specs.declared.token.TokenKind.{TokenKind}
use Rattle.lido_lexer.specs.declared.token.TokenKind.TheVariants as kind
use Rattle.lido_syntax.specs.declared.spec.Name.{Name}
use Rattle.lido_syntax.specs.declared.spec.Cons.{Cons}
use Rattle.lido_syntax.specs.declared.spec.Expr.{Expr}
use Rattle.lido_syntax.specs.declared.spec.Expr.TheVariants as expr
use Rattle.lido_computations.specs.Phrases.{IsName}
use Rattle.lido_computations.specs.Places.{IsIndex, IsRead, IsIncluding, AreConstituents, is_option_kind}
use Rattle.lido_computations.specs.Counting.{spent, numbered}
use Rattle.lido_computations.specs.declared.counts.Counts.{Counts}
use Rattle.lido_computations.specs.declared.operators.Start.{Start}
use Rattle.lido_computations.specs.declared.operators.Start.TheVariants as start

-- the functions of the prefix operators
abbrev pub prefix_of : TokenKind → Option (List ℕ)
prefix_of (kind.Sign sign.Minus) = Some (codes "NEG")
prefix_of (kind.Sign sign.Bang) = Some (codes "NOT")
prefix_of _ = None

-- how tightly an infix operator binds, the loosest being 0, and its function
abbrev pub infix_of : TokenKind → Option (ℕ × List ℕ)
infix_of (kind.Sign sign.OrOr) = Some (0, codes "OR")
infix_of (kind.Sign sign.AndAnd) = Some (1, codes "AND")
infix_of (kind.Sign sign.EqEq) = Some (2, codes "EQ")
infix_of (kind.Sign sign.NotEq) = Some (2, codes "NE")
infix_of (kind.Sign sign.Less) = Some (3, codes "LT")
infix_of (kind.Sign sign.LessEq) = Some (3, codes "LE")
infix_of (kind.Sign sign.Greater) = Some (3, codes "GT")
infix_of (kind.Sign sign.GreaterEq) = Some (3, codes "GE")
infix_of (kind.Sign sign.Plus) = Some (4, codes "ADD")
infix_of (kind.Sign sign.Minus) = Some (4, codes "SUB")
infix_of (kind.Sign sign.Star) = Some (5, codes "MUL")
infix_of (kind.Sign sign.Slash) = Some (5, codes "DIV")
infix_of (kind.Sign sign.Percent) = Some (5, codes "MOD")
infix_of _ = None

-- the level above those of the infix operators
abbrev pub unary_level : ℕ
unary_level = 6

-- the constant that a token is
abbrev pub constant_of : ℕ → TokenKind → Option Expr
constant_of at (kind.Int n) = Some (expr.Int at n)
constant_of at (kind.Str s) = Some (expr.Str at s)
constant_of at (kind.Key key.True) = Some (expr.Bool at true)
constant_of at (kind.Key key.False) = Some (expr.Bool at false)
constant_of at _ = None

-- what a token begins, where an operand is read
abbrev pub start_of : TokenKind → Start
start_of (kind.Int n) = start.Constant
start_of (kind.Str s) = start.Constant
start_of (kind.Word id) = start.Word
start_of (kind.Sign sign.ParenOpen) = start.Counted
start_of (kind.Key key.True) = start.Constant
start_of (kind.Key key.False) = start.Constant
start_of (kind.Key key.PtgNull) = start.Counted
start_of (kind.Key key.If) = start.Counted
start_of (kind.Key key.Order) = start.Counted
start_of (kind.Key key.Including) = start.Including
start_of (kind.Key key.Constituents) = start.Constituents
start_of (kind.Key key.Tail) = start.Context
start_of (kind.Key key.Synt) = start.Context
start_of (kind.Key key.Inh) = start.Context
start_of (kind.Key key.This) = start.Context
start_of _ = start.Other

-- what may continue a primary: what follows a name, or a CONSTITUENTS
abbrev pub follows_primary : TokenKind → Bool
follows_primary (kind.Sign sign.BracketOpen) = true
follows_primary (kind.Sign sign.Dot) = true
follows_primary (kind.Sign sign.ParenOpen) = true
follows_primary what = is_option_kind what

abbrev pub is_at_least : ℕ → Option (ℕ × List ℕ) → Bool
is_at_least k None = false
is_at_least k (Some operator) = nat_le k operator.0

-- what may continue an expression of this level: an operator that binds as tightly, or what continues a primary
abbrev pub continues : ℕ → Token → Bool
continues k t = is_at_least k (infix_of t.what) || follows_primary t.what

module _ (texts : List (List ℕ)) where
  -- a call of the function of that name, at this place
  abbrev pub IsCall : List ℕ → ℕ → List Expr → Expr → Type 0
  IsCall function at args e = (id : StrId) × (slice_get texts id.0 ≡ Some function) × (e ≡ expr.Call (record { at = at; id = id }) args)

  mutual
    -- expr, and, equal, rel, sum, prod by their levels, and unary above them
    pub data IsExpr : ℕ → Counts → List Token → Expr × Counts → List Token → Type 0 where
      operands : {k : ℕ} {s : Counts} {ts us vs : List Token} {l e : Expr × Counts} → k < unary_level → IsExpr (suc k) s ts l us → AreOperands k l us e vs → IsExpr k s ts e vs
      prefix : {s r : Counts} {t : Token} {us vs : List Token} {inner : Expr × Counts} {e : Expr} {function : List ℕ} → prefix_of t.what ≡ Some function → spent s ≡ Some r
          → IsExpr unary_level r us inner vs → IsCall function t.from (inner.0 ∷ []) e → IsExpr unary_level s (t ∷ us) (e, inner.1) vs
      primary : {s : Counts} {ts us : List Token} {e : Expr × Counts} → IsPrimary s ts e us → IsExpr unary_level s ts e us

    -- the operators of one level and their right operands, grouped to the left
    pub data AreOperands : ℕ → Expr × Counts → List Token → Expr × Counts → List Token → Type 0 where
      no_operator : {k : ℕ} {ts : List Token} {e : Expr × Counts} → AreOperands k e ts e ts
      operator : {k : ℕ} {r : Counts} {t : Token} {us vs ws : List Token} {l x e : Expr × Counts} {whole : Expr} {function : List ℕ} → infix_of t.what ≡ Some (k, function) → spent l.1 ≡ Some r
          → IsExpr (suc k) r us x vs → IsCall function t.from (l.0 ∷ x.0 ∷ []) whole → AreOperands k (whole, x.1) vs e ws → AreOperands k l (t ∷ us) e ws

    pub data IsPrimary : Counts → List Token → Expr × Counts → List Token → Type 0 where
      constant : {s : Counts} {t : Token} {us : List Token} {e : Expr} → constant_of t.from t.what ≡ Some e → IsPrimary s (t ∷ us) (e, s) us
      ptg_null : {s r : Counts} {t : Token} {us : List Token} {e : Expr} → t.what ≡ kind.Key key.PtgNull → spent s ≡ Some r → IsCall (codes "PTGNULL") t.from [] e → IsPrimary s (t ∷ us) (e, r) us
      parenthesized : {s r : Counts} {t closing : Token} {us vs ws : List Token} {e : Expr × Counts} → t.what ≡ kind.Sign sign.ParenOpen → spent s ≡ Some r → IsExpr 0 r us e vs → Signs sign.ParenClose vs closing ws
          → IsPrimary s (t ∷ us) e ws
      read : {s : Counts} {ts us : List Token} {e : Expr} → IsRead ts e us → IsPrimary s ts (e, s) us
      including : {s : Counts} {ts us : List Token} {e : Expr} → IsIncluding ts e us → IsPrimary s ts (e, s) us
      constituents : {s : Counts} {ts us : List Token} {k : Cons} → AreConstituents s.number ts k us → IsPrimary s ts (expr.Constituents k, numbered s) us
      terminal : {s : Counts} {ts us vs : List Token} {n : Name} {i : Option ℤ} → IsName ts n us → IsIndex us i vs → IsPrimary s ts (expr.Terminal n i, s) vs
      call : {s r : Counts} {ts us vs ws zs : List Token} {n : Name} {opening closing : Token} {args : List Expr × Counts} → IsName ts n us → Signs sign.ParenOpen us opening vs → spent s ≡ Some r
          → AreArguments r vs args ws → Signs sign.ParenClose ws closing zs → IsPrimary s ts (expr.Call n args.0, args.1) zs
      choice : {s r : Counts} {t opening first second closing : Token} {us vs ws xs ys zs gs hs : List Token} {x y z : Expr × Counts} {e : Expr} → t.what ≡ kind.Key key.If → spent s ≡ Some r
          → Signs sign.ParenOpen us opening vs → IsExpr 0 r vs x ws → Signs sign.Comma ws first xs → IsExpr 0 x.1 xs y ys → Signs sign.Comma ys second zs → IsExpr 0 y.1 zs z gs → Signs sign.ParenClose gs closing hs
          → IsCall (codes "IF") t.from (x.0 ∷ y.0 ∷ z.0 ∷ []) e → IsPrimary s (t ∷ us) (e, z.1) hs
      order : {s r : Counts} {t opening closing : Token} {us vs ws zs : List Token} {args : List Expr × Counts} {e : Expr} → t.what ≡ kind.Key key.Order → spent s ≡ Some r
          → Signs sign.ParenOpen us opening vs → AreSome r vs args ws → Signs sign.ParenClose ws closing zs → IsCall (codes "ORDER") t.from args.0 e → IsPrimary s (t ∷ us) (e, args.1) zs

    -- [ expr { "," expr } ]
    pub data AreArguments : Counts → List Token → List Expr × Counts → List Token → Type 0 where
      none : {s : Counts} {ts : List Token} → AreArguments s ts ([], s) ts
      some : {s : Counts} {ts us : List Token} {args : List Expr × Counts} → AreSome s ts args us → AreArguments s ts args us

    -- expr { "," expr }
    pub data AreSome : Counts → List Token → List Expr × Counts → List Token → Type 0 where
      first : {s : Counts} {ts us vs : List Token} {e : Expr × Counts} {args : List Expr × Counts} → IsExpr 0 s ts e us → AreFurther (e.0 ∷ [], e.1) us args vs → AreSome s ts args vs

    -- behind the expressions that are read already
    pub data AreFurther : List Expr × Counts → List Token → List Expr × Counts → List Token → Type 0 where
      last : {found : List Expr × Counts} {ts : List Token} → AreFurther found ts found ts
      further : {found args : List Expr × Counts} {e : Expr × Counts} {ts us vs ws : List Token} {t : Token} → Signs sign.Comma ts t us → IsExpr 0 found.1 us e vs → AreFurther (found.0 ++ e.0 ∷ [], e.1) vs args ws → AreFurther found ts args ws
