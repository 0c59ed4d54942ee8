-- Tables of texts to which nothing is added, and the functions of operators and words.
use Rattle.std.specs.Prelude.{◌≡◌, ℕ, List, codes, Option, Some, None, refl}
use Rattle.std.proofs.Common.{sym, subst, ◌∙◌}
use Rattle.lido_base.specs.Texts.{with_text}
use Rattle.lido_base.proofs.TextsLemmas.{with_text-present}
use Rattle.lido_lexer.specs.declared.sign.Sign.TheVariants as sign
use Rattle.lido_lexer.specs.declared.token.TokenKind.{TokenKind}
use Rattle.lido_lexer.specs.declared.token.TokenKind.TheVariants as kind
use Rattle.lido_computations.specs.Expressions.{infix_of, prefix_of}
use Rattle.lido_computations.specs.Functions.{known_words, IsAmong, HasAll, Keeps}

-- ---- nothing is added

pub keeps_none : (texts : List (List ℕ)) → Keeps texts texts
keeps_none texts = record { same = λ h. refl }

pub keeps_more : {old new newer : List (List ℕ)} → Keeps old new → Keeps new newer → Keeps old newer
keeps_more {old} {new} {newer} a b = record { same = λ h. b.same (subst (HasAll known_words) (sym (a.same h)) h) ∙ a.same h }

-- the name of a function is there
pub function_kept : (texts : List (List ℕ)) (function : List ℕ) → IsAmong known_words function → Keeps texts (with_text texts function)
function_kept texts function n = record { same = λ h. with_text-present texts function (h.each function n) }

abbrev OperatorAmong : Option (ℕ × List ℕ) → Type 0
OperatorAmong None = Unit {0}
OperatorAmong (Some operator) = IsAmong known_words operator.1

infix_all : (what : TokenKind) → OperatorAmong (infix_of what)
infix_all (kind.Sign sign.OrOr) = refl
infix_all (kind.Sign sign.AndAnd) = refl
infix_all (kind.Sign sign.EqEq) = refl
infix_all (kind.Sign sign.NotEq) = refl
infix_all (kind.Sign sign.Less) = refl
infix_all (kind.Sign sign.LessEq) = refl
infix_all (kind.Sign sign.Greater) = refl
infix_all (kind.Sign sign.GreaterEq) = refl
infix_all (kind.Sign sign.Plus) = refl
infix_all (kind.Sign sign.Minus) = refl
infix_all (kind.Sign sign.Star) = refl
infix_all (kind.Sign sign.Slash) = refl
infix_all (kind.Sign sign.Percent) = refl
infix_all (kind.Sign _) = tt
infix_all _ = tt

-- the functions of the infix operators are among the functions
pub infix_among : (what : TokenKind) (level : ℕ) (function : List ℕ) → infix_of what ≡ Some (level, function) → IsAmong known_words function
infix_among what level function e = subst OperatorAmong e (infix_all what)

abbrev FunctionAmong : Option (List ℕ) → Type 0
FunctionAmong None = Unit {0}
FunctionAmong (Some function) = IsAmong known_words function

prefix_all : (what : TokenKind) → FunctionAmong (prefix_of what)
prefix_all (kind.Sign sign.Minus) = refl
prefix_all (kind.Sign sign.Bang) = refl
prefix_all (kind.Sign _) = tt
prefix_all _ = tt

-- and those of the prefix operators
pub prefix_among : (what : TokenKind) (function : List ℕ) → prefix_of what ≡ Some function → IsAmong known_words function
prefix_among what function e = subst FunctionAmong e (prefix_all what)

-- and those of words
pub if_among : IsAmong known_words (codes "IF")
if_among = refl

pub order_among : IsAmong known_words (codes "ORDER")
order_among = refl

pub null_among : IsAmong known_words (codes "PTGNULL")
null_among = refl
