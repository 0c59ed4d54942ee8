-- How the grammar of specifications is written down, what its readers answer, and the phrases that many others are made of.
-- A phrase says which tokens it begins with, its value, and the tokens that are left.
use Rattle.std.specs.Prelude.{◌≡◌, ℕ, Bool, true, false, Option, Some, None, List, [], ◌∷◌, ◌++◌, Result, Ok, Err}
use Rattle.std.specs.Borrow.{Bor}
use Rattle.lido_base.specs.Reading.{Finds, Refuses}
use Rattle.lido_base.specs.declared.ids.StrId.{StrId}
use Rattle.lido_base.specs.declared.value.ValueType.{ValueType}
use Rattle.lido_base.specs.declared.value.ValueType.TheVariants as ty
use Rattle.lido_lexer.specs.Seen.{Signs}
use Rattle.lido_lexer.specs.declared.keyword.Keyword.{Keyword}
use Rattle.lido_lexer.specs.declared.keyword.Keyword.TheVariants as key
use Rattle.lido_lexer.specs.declared.sign.Sign.TheVariants as sign
use Rattle.lido_lexer.specs.declared.token.Token.{Token}
use Rattle.lido_lexer.specs.declared.token.TokenKind.{TokenKind}
use Rattle.lido_lexer.specs.declared.token.TokenKind.TheVariants as kind
use Rattle.lido_syntax.specs.declared.spec.Name.{Name}
use Rattle.lido_computations.specs.declared.fault.ReadSpecFault.{ReadSpecFault}
use Rattle.lido_computations.specs.declared.fault.ReadSpecFault.TheVariants.{Syntax, Memory}

-- ---- how phrases are put together

-- nothing more is read, and this is the value
pub record Done {X : Type 0} (x : X) (ts : List Token) (y : X) (us : List Token) : Type 0 where
  pub same : y ≡ x
  pub behind : us ≡ ts

-- a phrase of the first kind, then what may stand behind its value
pub record Then {A X : Type 0} (First : List Token → A → List Token → Type 0) (Rest : A → List Token → X → List Token → Type 0) (ts : List Token) (x : X) (vs : List Token) : Type 0 where
  pub value : A
  pub between : List Token
  pub first : First ts value between
  pub rest : Rest value between x vs

-- elements with commas between them
module _ {X : Type 0} (One : List Token → X → List Token → Type 0) where
  -- behind the elements that are read already
  pub data AreMore : List X → List Token → List X → List Token → Type 0 where
    end : {found : List X} {ts : List Token} → AreMore found ts found ts
    comma : {found all : List X} {x : X} {ts us vs ws : List Token} {t : Token} → Signs sign.Comma ts t us → One us x vs → AreMore (found ++ x ∷ []) vs all ws → AreMore found ts all ws

  abbrev pub AreSeparated : List Token → List X → List Token → Type 0
  AreSeparated = Then One (λ x. AreMore (x ∷ []))

-- a comma may continue a list
abbrev pub is_comma_kind : TokenKind → Bool
is_comma_kind (kind.Sign sign.Comma) = true
is_comma_kind _ = false

abbrev pub is_comma : Token → Bool
is_comma t = is_comma_kind t.what

-- ---- phrases of one token

pub data IsName : List Token → Name → List Token → Type 0 where
  word : {t : Token} {us : List Token} {id : StrId} → t.what ≡ kind.Word id → IsName (t ∷ us) (record { at = t.from; id = id }) us

-- the types by their words
abbrev pub type_of : Keyword → Option ValueType
type_of key.Int = Some ty.Int
type_of key.Str = Some ty.Str
type_of key.Bool = Some ty.Bool
type_of key.PtgNode = Some ty.Text
type_of key.Void = Some ty.Void
type_of _ = None

pub data IsType : List Token → ValueType → List Token → Type 0 where
  type_word : {t : Token} {us : List Token} {word : Keyword} {type : ValueType} → t.what ≡ kind.Key word → type_of word ≡ Some type → IsType (t ∷ us) type us

-- ---- what a reader answers

-- where the first of the tokens begins, or the end of the text
abbrev pub place_of : ℕ → List Token → ℕ
place_of text_end [] = text_end
place_of text_end (t ∷ ts) = t.from

-- the fault is at the place of the first token that fits no phrase
abbrev pub RefusesAt : {X : Type 0} → (List Token → X → List Token → Type 0) → (Token → Bool) → ℕ → List Token → ReadSpecFault → Type 0
RefusesAt N continues text_end ts (Syntax at) = (bad : List Token) × Refuses N continues ts bad × (at ≡ place_of text_end bad)
RefusesAt N continues text_end ts Memory = Unit {0}

-- A reader's answer, whose value is seen by `view`, and what is left; or its fault.
abbrev pub ReadsSeen : {X Y : Type 0} → (X → Y) → (List Token → Y → List Token → Type 0) → (Token → Bool) → ℕ → List Token → Result (X × Bor (List Token)) ReadSpecFault → Type 0
ReadsSeen view N continues text_end ts (Ok x) = Finds N continues ts (view x.0) x.1.now
ReadsSeen view N continues text_end ts (Err f) = RefusesAt N continues text_end ts f

-- The phrase that the tokens begin with, and what is left; or none, since they begin with none.
abbrev pub LooksAhead : {X : Type 0} → (List Token → X → List Token → Type 0) → List Token → Option (X × Bor (List Token)) → Type 0
LooksAhead N ts (Some x) = N ts x.0 x.1.now
LooksAhead {X} N ts None = (x : X) (us : List Token) → N ts x us → ⊥
