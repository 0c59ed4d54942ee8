-- Places of attributes, and lists of remote attributes: what an expression reads.
use Rattle.std.specs.Prelude.{◌≡◌, ℕ, ℤ, Bool, true, false, Option, Some, None, List, [], ◌∷◌}
use Rattle.lido_lexer.specs.Seen.{Signs, Keys}
use Rattle.lido_lexer.specs.declared.keyword.Keyword.{Keyword}
use Rattle.lido_lexer.specs.declared.keyword.Keyword.TheVariants as key
use Rattle.lido_lexer.specs.declared.sign.Sign.TheVariants as sign
use Rattle.lido_lexer.specs.declared.token.Token.{Token}
use Rattle.lido_lexer.specs.declared.token.TokenKind.{TokenKind}
use Rattle.lido_lexer.specs.declared.token.TokenKind.TheVariants as kind
use Rattle.lido_syntax.specs.declared.spec.Name.{Name}
use Rattle.lido_syntax.specs.declared.spec.Pair.{Pair}
use Rattle.lido_syntax.specs.declared.spec.With.{With}
use Rattle.lido_syntax.specs.declared.spec.Cons.{Cons}
use Rattle.lido_syntax.specs.declared.spec.Place.{Place}
use Rattle.lido_syntax.specs.declared.spec.Place.TheVariants as place
use Rattle.lido_syntax.specs.declared.spec.Expr.{Expr}
use Rattle.lido_syntax.specs.declared.spec.Expr.TheVariants as expr
use Rattle.lido_computations.specs.Phrases.{Done, Then, AreSeparated, IsName, IsType}

-- a phrase that may be left out, and has this value then
pub data Optional {X : Type 0} (N : List Token → X → List Token → Type 0) (x : X) : List Token → X → List Token → Type 0 where
  absent : {y : X} {ts : List Token} → y ≡ x → Optional N x ts y ts
  present : {y : X} {ts us : List Token} → N ts y us → Optional N x ts y us

-- one, or several in parentheses
pub data AreListed {X : Type 0} (One : List Token → X → List Token → Type 0) : List Token → List X → List Token → Type 0 where
  single : {x : X} {ts us : List Token} → One ts x us → AreListed One ts (x ∷ []) us
  several : {all : List X} {ts us : List Token} → Then (Signs sign.ParenOpen) (λ opening. Then (AreSeparated One) (λ found. Then (Signs sign.ParenClose) (λ closing. Done found))) ts all us → AreListed One ts all us

pub data IsInt : List Token → ℤ → List Token → Type 0 where
  int : {t : Token} {us : List Token} {i : ℤ} → t.what ≡ kind.Int i → IsInt (t ∷ us) i us

-- [ "[" int "]" ]
abbrev pub IsIndex : List Token → Option ℤ → List Token → Type 0
IsIndex = Optional (Then (Signs sign.BracketOpen) (λ opening. Then IsInt (λ i. Then (Signs sign.BracketClose) (λ closing. Done (Some i))))) None

-- the words that may stand for a symbol where an attribute is computed
abbrev pub in_targets : Keyword → Option Place
in_targets key.Synt = Some place.Synt
in_targets key.Inh = Some place.Inh
in_targets key.This = Some place.This
in_targets _ = None

-- and where one is read
abbrev pub in_reads : Keyword → Option Place
in_reads key.Tail = Some place.Tail
in_reads word = in_targets word

-- a word of these, with where it begins
pub data IsContext (words : Keyword → Option Place) : List Token → ℕ × Place → List Token → Type 0 where
  context : {t : Token} {us : List Token} {w : Keyword} {p : Place} → t.what ≡ kind.Key w → words w ≡ Some p → IsContext words (t ∷ us) (t.from, p) us

-- name ["[" int "]"], or one of these words; with where it begins
pub data IsPlace (words : Keyword → Option Place) : List Token → ℕ × Place → List Token → Type 0 where
  named : {ts us : List Token} {x : ℕ × Place} → Then IsName (λ n. Then IsIndex (λ i. Done (n.at, place.Named n i))) ts x us → IsPlace words ts x us
  by_word : {ts us : List Token} {x : ℕ × Place} → IsContext words ts x us → IsPlace words ts x us

-- the words of reads, or of targets
abbrev pub words_of : Bool → Keyword → Option Place
words_of true = in_reads
words_of false = in_targets

-- behind a place: "." name
abbrev pub IsReadOf : ℕ × Place → List Token → Expr → List Token → Type 0
IsReadOf p = Then (Signs sign.Dot) (λ dot. Then IsName (λ a. Done (expr.Read p.0 p.1 a)))

-- read = ( place | "TAIL" ) "." name
abbrev pub IsRead : List Token → Expr → List Token → Type 0
IsRead = Then (IsPlace in_reads) IsReadOf

-- pair = name "." name
abbrev pub IsPair : List Token → Pair → List Token → Type 0
IsPair = Then IsName (λ s. Then (Signs sign.Dot) (λ dot. Then IsName (λ a. Done (record { sym = s; attr = a }))))

-- behind INCLUDING: pairs
abbrev pub IsIncludingOf : ℕ → List Token → Expr → List Token → Type 0
IsIncludingOf at = Then (AreListed IsPair) (λ pairs. Done (expr.Including at pairs))

-- incl = "INCLUDING" pairs
abbrev pub IsIncluding : List Token → Expr → List Token → Type 0
IsIncluding = Then (Keys key.Including) (λ t. IsIncludingOf t.from)

-- [ "SHIELD" names ]
abbrev pub IsShield : List Token → List Name → List Token → Type 0
IsShield = Optional (Then (Keys key.Shield) (λ t. AreListed IsName)) []

-- behind WITH: "(" type "," name "," name "," name ")"
abbrev pub IsWithOf : List Token → Option With → List Token → Type 0
IsWithOf = Then (Signs sign.ParenOpen) (λ opening. Then IsType (λ ty. Then (Signs sign.Comma) (λ before_comb. Then IsName (λ comb. Then (Signs sign.Comma) (λ before_single. Then IsName (λ single.
    Then (Signs sign.Comma) (λ before_null. Then IsName (λ null. Then (Signs sign.ParenClose) (λ closing. Done (Some (record { ty = ty; comb = comb; single = single; null = null })))))))))))

-- [ "WITH" "(" type "," name "," name "," name ")" ]
abbrev pub IsWith : List Token → Option With → List Token → Type 0
IsWith = Optional (Then (Keys key.With) (λ t. IsWithOf)) None

-- behind CONSTITUENTS: pairs ["SHIELD" names] ["WITH" ..]
abbrev pub AreConstituentsOf : ℕ → ℕ → List Token → Cons → List Token → Type 0
AreConstituentsOf at number = Then (AreListed IsPair) (λ pairs. Then IsShield (λ shield. Then IsWith (λ with. Done (record { at = at; number = number; pairs = pairs; shield = shield; with = with }))))

-- cons, with its number
abbrev pub AreConstituents : ℕ → List Token → Cons → List Token → Type 0
AreConstituents number = Then (Keys key.Constituents) (λ t. AreConstituentsOf t.from number)

-- an index, SHIELD and WITH may be left out: these tokens continue what they would follow
abbrev pub is_bracket_kind : TokenKind → Bool
is_bracket_kind (kind.Sign sign.BracketOpen) = true
is_bracket_kind _ = false

abbrev pub is_bracket : Token → Bool
is_bracket t = is_bracket_kind t.what

abbrev pub is_shield_kind : TokenKind → Bool
is_shield_kind (kind.Key key.Shield) = true
is_shield_kind _ = false

abbrev pub is_shield : Token → Bool
is_shield t = is_shield_kind t.what

abbrev pub is_with_kind : TokenKind → Bool
is_with_kind (kind.Key key.With) = true
is_with_kind _ = false

abbrev pub is_with : Token → Bool
is_with t = is_with_kind t.what

-- what may continue a CONSTITUENTS
abbrev pub is_option_kind : TokenKind → Bool
is_option_kind (kind.Key key.Shield) = true
is_option_kind (kind.Key key.With) = true
is_option_kind _ = false

abbrev pub is_option : Token → Bool
is_option t = is_option_kind t.what
