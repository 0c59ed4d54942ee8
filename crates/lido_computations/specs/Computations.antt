-- The grammar of computations.
use Rattle.std.specs.Prelude.{ℕ, ◌+◌, Bool, true, false, ◌||◌, List, [], ◌∷◌, ◌++◌}
use Rattle.lido_lexer.specs.Seen.{Signs, Keys}
use Rattle.lido_lexer.specs.declared.keyword.Keyword.TheVariants as key
use Rattle.lido_lexer.specs.declared.sign.Sign.TheVariants as sign
use Rattle.lido_lexer.specs.declared.token.Token.{Token}
use Rattle.lido_lexer.specs.declared.token.TokenKind.{TokenKind}
use Rattle.lido_lexer.specs.declared.token.TokenKind.TheVariants as kind
use Rattle.lido_syntax.specs.declared.spec.Comp.{Comp}
use Rattle.lido_syntax.specs.declared.spec.Cons.{Cons}
use Rattle.lido_syntax.specs.declared.spec.Expr.{Expr}
use Rattle.lido_syntax.specs.declared.spec.Expr.TheVariants as expr
use Rattle.lido_syntax.specs.declared.spec.Target.{Target}
use Rattle.lido_syntax.specs.declared.spec.Target.TheVariants as target
use Rattle.lido_computations.specs.Phrases.{Done, Then, IsName, is_comma}
use Rattle.lido_computations.specs.Places.{Optional, IsPlace, in_targets, IsRead, IsIncluding, AreConstituents, is_option}
use Rattle.lido_computations.specs.Counting.{most_operators}
use Rattle.lido_computations.specs.Expressions.{IsExpr, continues}
use Rattle.lido_computations.specs.declared.counts.Counts.{Counts}

-- dep = read | incl | cons, begun at this number, and the number that comes next
pub data IsDependency (number : ℕ) : List Token → Expr × ℕ → List Token → Type 0 where
  read : {ts us : List Token} {e : Expr} → IsRead ts e us → IsDependency number ts (e, number) us
  including : {ts us : List Token} {e : Expr} → IsIncluding ts e us → IsDependency number ts (e, number) us
  constituents : {ts us : List Token} {k : Cons} → AreConstituents number ts k us → IsDependency number ts (expr.Constituents k, number + 1) us

-- behind the dependencies that are read already: { "," dep }
pub data AreMoreDependencies : List Expr × ℕ → List Token → List Expr × ℕ → List Token → Type 0 where
  last : {found : List Expr × ℕ} {ts : List Token} → AreMoreDependencies found ts found ts
  further : {found all : List Expr × ℕ} {e : Expr × ℕ} {ts us vs ws : List Token} {t : Token} → Signs sign.Comma ts t us → IsDependency found.1 us e vs → AreMoreDependencies (found.0 ++ e.0 ∷ [], e.1) vs all ws
      → AreMoreDependencies found ts all ws

-- dep { "," dep }
abbrev pub AreSomeDependencies : ℕ → List Token → List Expr × ℕ → List Token → Type 0
AreSomeDependencies number = Then (IsDependency number) (λ e. AreMoreDependencies (e.0 ∷ [], e.1))

-- deps = dep | "(" dep { "," dep } ")"
pub data AreDependencies (number : ℕ) : List Token → List Expr × ℕ → List Token → Type 0 where
  single : {e : Expr × ℕ} {ts us : List Token} → IsDependency number ts e us → AreDependencies number ts (e.0 ∷ [], e.1) us
  several : {all : List Expr × ℕ} {ts us : List Token}
      → Then (Signs sign.ParenOpen) (λ opening. Then (AreSomeDependencies number) (λ found. Then (Signs sign.ParenClose) (λ closing. Done found))) ts all us
      → AreDependencies number ts all us

-- [ "<-" deps ]
abbrev pub AreAfter : ℕ → List Token → List Expr × ℕ → List Token → Type 0
AreAfter number = Optional (Then (Signs sign.Arrow) (λ arrow. AreDependencies number)) ([], number)

-- target = place "." name | "CHAINSTART" "HEAD" "." name; with where it begins
pub data IsTarget : List Token → ℕ × Target → List Token → Type 0 where
  attribute : {ts us : List Token} {x : ℕ × Target} → Then (IsPlace in_targets) (λ p. Then (Signs sign.Dot) (λ dot. Then IsName (λ a. Done (p.0, target.Attr p.1 a)))) ts x us → IsTarget ts x us
  chain_start : {ts us : List Token} {x : ℕ × Target} → Then (Keys key.Chainstart) (λ t. Then (Keys key.Head) (λ head. Then (Signs sign.Dot) (λ dot. Then IsName (λ c. Done (t.from, target.Start c))))) ts x us → IsTarget ts x us

module _ (texts : List (List ℕ)) where
  -- The computation's expression: it may spend all, and its CONSTITUENTS have the numbers behind the computation's own.
  abbrev pub IsValue : ℕ → List Token → Expr × Counts → List Token → Type 0
  IsValue number = IsExpr texts 0 (record { budget = most_operators; number = number + 1 })

  -- comp = target "=" expr [ "<-" deps ] | "PTGOut" "(" expr ")" [ "<-" deps ]; begun at this number, and the number behind it
  pub data IsComputation (number : ℕ) : List Token → Comp × ℕ → List Token → Type 0 where
    assignment : {ts us : List Token} {x : Comp × ℕ}
        → Then IsTarget (λ t. Then (Signs sign.Equal) (λ equal. Then (IsValue number) (λ value. Then (AreAfter value.1.number) (λ after.
        Done (record { at = t.0; number = number; target = t.1; value = value.0; after = after.0 }, after.1))))) ts x us
        → IsComputation number ts x us
    output : {ts us : List Token} {x : Comp × ℕ}
        → Then (Keys key.PtgOut) (λ t. Then (Signs sign.ParenOpen) (λ opening. Then (IsValue number) (λ value. Then (Signs sign.ParenClose) (λ closing. Then (AreAfter value.1.number) (λ after.
        Done (record { at = t.from; number = number; target = target.Out; value = value.0; after = after.0 }, after.1)))))) ts x us
        → IsComputation number ts x us

-- ---- what may continue these phrases

abbrev pub is_arrow_kind : TokenKind → Bool
is_arrow_kind (kind.Sign sign.Arrow) = true
is_arrow_kind _ = false

-- a list of dependencies
abbrev pub continues_dependencies : Token → Bool
continues_dependencies t = is_comma t || is_option t

-- the dependencies behind an arrow, or their want
abbrev pub continues_after : Token → Bool
continues_after t = is_arrow_kind t.what || is_option t

-- a computation: an arrow, or what continues its expression or its last dependency
abbrev pub continues_computation : Token → Bool
continues_computation t = is_arrow_kind t.what || continues 0 t
