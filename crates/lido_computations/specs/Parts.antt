-- The parts of an expression behind the token that tells them from others, and what its readers answer.
use Rattle.std.specs.Prelude.{◌≡◌, ℕ, ℤ, Bool, ◌||◌, List, [], ◌∷◌, Option, Some, slice_get, codes, Result}
use Rattle.std.specs.Borrow.{Bor}
use Rattle.lido_base.specs.Texts.{IsDistinctTexts}
use Rattle.lido_lexer.specs.Lexing.{Gains}
use Rattle.lido_lexer.specs.Seen.{Signs}
use Rattle.lido_lexer.specs.declared.keyword.Keyword.TheVariants as key
use Rattle.lido_lexer.specs.declared.sign.Sign.TheVariants as sign
use Rattle.lido_lexer.specs.declared.token.Token.{Token}
use Rattle.lido_lexer.specs.declared.token.TokenKind.TheVariants as kind
use Rattle.lido_syntax.specs.declared.spec.Name.{Name}
use Rattle.lido_syntax.specs.declared.spec.Expr.{Expr}
use Rattle.lido_syntax.specs.declared.spec.Expr.TheVariants as expr
use Rattle.lido_syntax.specs.declared.spec.Place.TheVariants as place
use Rattle.lido_computations.specs.Phrases.{Done, Then, ReadsSeen, is_comma}
use Rattle.lido_computations.specs.Places.{IsIndex, IsReadOf, AreConstituentsOf}
use Rattle.lido_computations.specs.Counting.{spent, numbered}
use Rattle.lido_computations.specs.Expressions.{IsExpr, AreSome, continues, follows_primary}
use Rattle.lido_computations.specs.declared.counts.Counts.{Counts}
use Rattle.lido_computations.specs.declared.fault.ReadSpecFault.{ReadSpecFault}

-- What is read, whatever texts are added later: a reader's answer at every table of distinct texts that has gained some.
abbrev pub ReadsWith : {X Y : Type 0} → (X → Y) → (List (List ℕ) → List Token → Y → List Token → Type 0) → (Token → Bool) → List (List ℕ) → ℕ → List Token → Result (X × Bor (List Token)) ReadSpecFault → Type 0
ReadsWith view N continues new text_end ts result = (texts : List (List ℕ)) → Gains new texts → IsDistinctTexts texts → ReadsSeen view (N texts) continues text_end ts result

-- what continues a primary, and a list of expressions
abbrev pub follows : Token → Bool
follows t = follows_primary t.what

abbrev pub continues_list : Token → Bool
continues_list t = is_comma t || continues 0 t

-- one operator, call or parenthesis less may come in what is read
pub record Spending {X : Type 0} (s : Counts) (N : Counts → List Token → X → List Token → Type 0) (ts : List Token) (x : X) (us : List Token) : Type 0 where
  pub left : Counts
  pub spends : spent s ≡ Some left
  pub phrase : N left ts x us

-- behind CONSTITUENTS, with its number
abbrev pub AreNumbered : ℕ → Counts → List Token → Expr × Counts → List Token → Type 0
AreNumbered at s = Then (AreConstituentsOf at s.number) (λ k. Done (expr.Constituents k, numbered s))

module _ (texts : List (List ℕ)) where
  -- no token, and the name of a function at this place
  pub record HasFunction (function : List ℕ) (at : ℕ) (ts : List Token) (n : Name) (us : List Token) : Type 0 where
    pub place : n.at ≡ at
    pub text : slice_get texts n.id.0 ≡ Some function
    pub behind : us ≡ ts

  abbrev pub IsNull : ℕ → Counts → List Token → Expr × Counts → List Token → Type 0
  IsNull at r = Then (HasFunction (codes "PTGNULL") at) (λ n. Done (expr.Call n [], r))

  abbrev pub IsParenthesized : Counts → List Token → Expr × Counts → List Token → Type 0
  IsParenthesized r = Then (IsExpr texts 0 r) (λ e. Then (Signs sign.ParenClose) (λ closing. Done e))

  abbrev pub IsChoice : ℕ → Counts → List Token → Expr × Counts → List Token → Type 0
  IsChoice at r = Then (HasFunction (codes "IF") at) (λ n. Then (Signs sign.ParenOpen) (λ opening. Then (IsExpr texts 0 r) (λ x. Then (Signs sign.Comma) (λ before_second. Then (IsExpr texts 0 x.1) (λ y.
      Then (Signs sign.Comma) (λ before_third. Then (IsExpr texts 0 y.1) (λ z. Then (Signs sign.ParenClose) (λ closing. Done (expr.Call n (x.0 ∷ y.0 ∷ z.0 ∷ []), z.1)))))))))

  abbrev pub IsOrder : ℕ → Counts → List Token → Expr × Counts → List Token → Type 0
  IsOrder at r = Then (HasFunction (codes "ORDER") at) (λ n. Then (Signs sign.ParenOpen) (λ opening. Then (AreSome texts r) (λ args. Then (Signs sign.ParenClose) (λ closing. Done (expr.Call n args.0, args.1)))))

  -- behind a token that counts, which was counted
  pub data IsCounted (t : Token) (r : Counts) : List Token → Expr × Counts → List Token → Type 0 where
    ptg_null : {us vs : List Token} {e : Expr × Counts} → t.what ≡ kind.Key key.PtgNull → IsNull t.from r us e vs → IsCounted t r us e vs
    parenthesized : {us vs : List Token} {e : Expr × Counts} → t.what ≡ kind.Sign sign.ParenOpen → IsParenthesized r us e vs → IsCounted t r us e vs
    choice : {us vs : List Token} {e : Expr × Counts} → t.what ≡ kind.Key key.If → IsChoice t.from r us e vs → IsCounted t r us e vs
    order : {us vs : List Token} {e : Expr × Counts} → t.what ≡ kind.Key key.Order → IsOrder t.from r us e vs → IsCounted t r us e vs

  -- behind a name and an opening parenthesis
  pub data IsCalled (n : Name) (r : Counts) : List Token → Expr × Counts → List Token → Type 0 where
    without : {us vs : List Token} {e : Expr × Counts} → Then (Signs sign.ParenClose) (λ closing. Done (expr.Call n [], r)) us e vs → IsCalled n r us e vs
    with_arguments : {us vs : List Token} {e : Expr × Counts} → Then (AreSome texts r) (λ args. Then (Signs sign.ParenClose) (λ closing. Done (expr.Call n args.0, args.1))) us e vs → IsCalled n r us e vs

  -- behind a name with its index
  pub data IsIndexed (s : Counts) (n : Name) (i : Option ℤ) : List Token → Expr × Counts → List Token → Type 0 where
    read : {us vs : List Token} {e : Expr × Counts} → Then (IsReadOf (n.at, place.Named n i)) (λ e. Done (e, s)) us e vs → IsIndexed s n i us e vs
    bare : {us vs : List Token} {e : Expr × Counts} → Done (expr.Terminal n i, s) us e vs → IsIndexed s n i us e vs

  -- behind a name
  pub data IsNamed (s : Counts) (n : Name) : List Token → Expr × Counts → List Token → Type 0 where
    called : {us vs : List Token} {e : Expr × Counts} → Then (Signs sign.ParenOpen) (λ opening. Spending s (IsCalled n)) us e vs → IsNamed s n us e vs
    placed : {us vs : List Token} {e : Expr × Counts} → Then IsIndex (λ i. IsIndexed s n i) us e vs → IsNamed s n us e vs
