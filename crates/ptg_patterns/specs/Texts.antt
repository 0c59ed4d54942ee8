-- What a text of patterns says.
use Rattle.std.specs.Prelude.{◌≡◌, ◌⊎◌, ℕ, List, length, map, All, Option, Some, None, slice_get, unwrap_or, Result, Ok, Err}
use Rattle.lido_base.specs.Reading.{IsFaultPlace}
use Rattle.lido_base.specs.declared.pattern.Pattern.{Pattern}
use Rattle.lido_lexer.specs.Lexing.{Placed, IsCutInto, HasText, shown_in}
use Rattle.lido_base.specs.Texts.{interned}
use Rattle.lido_lexer.specs.Tables.{texts_in}
use Rattle.lido_lexer.specs.declared.token.Token.{Token}
use Rattle.ptg_patterns.specs.declared.fault.PtgFault.{PtgFault}
use Rattle.ptg_patterns.specs.declared.fault.PtgFault.TheVariants.{PtgSyntax}
use Rattle.ptg_patterns.specs.declared.written.Written.{Written}
use Rattle.ptg_patterns.specs.Marks.{marks_up_to}
use Rattle.ptg_patterns.specs.Language.{IsWritten, IsText}
use Rattle.ptg_patterns.specs.First.{HasNoClash}
use Rattle.ptg_patterns.specs.Clashes.{CantStand, IsClash}
use Rattle.ptg_patterns.specs.Meaning.{pattern_of}

-- Where the mark of this number begins; behind the last one, where the tokens end.
abbrev pub mark_place : ℕ → List Token → Option ℕ → ℕ → ℕ
mark_place size tokens stuck k = elim (slice_get tokens k) [ Some token ↦ token.from | None ↦ unwrap_or stuck size ]

module _ (texts : List (List ℕ)) where
  -- The tokens in front of a text, their texts among these, and where no more can be formed, if they end before the text does.
  pub record AreTokens (bytes : List ℕ) (tokens : List Token) (stuck : Option ℕ) : Type 0 where
    pub cut : IsCutInto (length bytes) bytes (map (shown_in texts) tokens) stuck
    pub ids : All (λ (token : Token). HasText (length texts) token.what) tokens

  -- What these tokens of a text of this size say: patterns that can stand together; or else PtgSyntax, at the first mark with
  -- which they begin no text of patterns, or where one is missing; or the fault of the first pattern that can't stand.
  abbrev pub Reads : ℕ → List Token → Option ℕ → Result (List Pattern) PtgFault → Type 0
  Reads size tokens stuck (Ok patterns) = (all : List Written) × IsWritten (marks_up_to tokens stuck) all × HasNoClash (CantStand texts) all × (patterns ≡ map pattern_of all)
  Reads size tokens stuck (Err fault) = ((k : ℕ) × IsFaultPlace IsText (marks_up_to tokens stuck) k × (fault ≡ PtgSyntax (mark_place size tokens stuck k)))
      ⊎ ((all : List Written) × IsWritten (marks_up_to tokens stuck) all × IsClash texts all fault)

  -- What a text says, names and strings being given by their ids among these texts.
  unfoldable pub PatternsOf : List ℕ → Result (List Pattern) PtgFault → Type 0
  PatternsOf bytes result = (tokens : List Token) × (stuck : Option ℕ) × AreTokens bytes tokens stuck × Reads (length bytes) tokens stuck result

-- The table has what was there, and behind it the new texts among those of the tokens in front of the text, in order.
pub record IsTableBehind (texts : List (List ℕ)) (bytes : List ℕ) (later : List (List ℕ)) : Type 0 where
  pub tokens : List Placed
  pub stuck : Option ℕ
  pub cut : IsCutInto (length bytes) bytes tokens stuck
  pub table : later ≡ interned texts (texts_in tokens)

-- What a text says when it is read behind these texts.
pub record PatternsFrom (texts : List (List ℕ)) (bytes : List ℕ) (result : Result (List Pattern) PtgFault) : Type 0 where
  pub later : List (List ℕ)
  pub table : IsTableBehind texts bytes later
  pub says : PatternsOf later bytes result
