-- A whole specification, and what the reader answers.
use Rattle.std.specs.Prelude.{◌≡◌, ℕ, List, [], drop, codes, Result, Ok, Err}
use Rattle.lido_base.specs.Reading.{IsFaultPlace}
use Rattle.lido_base.specs.Texts.{IsDistinctTexts}
use Rattle.lido_lexer.specs.Lexing.{Gains}
use Rattle.lido_lexer.specs.declared.token.Token.{Token}
use Rattle.lido_syntax.specs.declared.spec.Spec.{Spec}
use Rattle.lido_computations.specs.declared.fault.ReadSpecFault.{ReadSpecFault}
use Rattle.lido_computations.specs.declared.fault.ReadSpecFault.TheVariants.{Syntax, Memory}
use Rattle.lido_computations.specs.Phrases.{place_of}
use Rattle.lido_reader.specs.Items.{IsSpec, called_in, id_in}
use Rattle.lido_computations.specs.Messages.{IsComputationIn}
use Rattle.lido_computations.specs.declared.messages.MessageWords.{MessageWords}

-- these texts, and maybe more behind them, none twice
pub record IsLater (texts later : List (List ℕ)) : Type 0 where
  pub gains : Gains texts later
  pub distinct : IsDistinctTexts later

-- the ids of the words of messages
abbrev pub words_in : List (List ℕ) → MessageWords
words_in texts = record { message = id_in texts (codes "message"); note = id_in texts (codes "NOTE"); warning = id_in texts (codes "WARNING"); error = id_in texts (codes "ERROR"); coordref = id_in texts (codes "COORDREF") }

-- The tokens are a specification, whose names are ids of these texts.
abbrev pub IsSpecOf : List (List ℕ) → List Token → Spec → Type 0
IsSpecOf texts tokens spec = IsSpec (called_in texts) (IsComputationIn (words_in texts) texts) tokens spec []

-- The tokens are a specification.
abbrev pub IsSpecification : List (List ℕ) → List Token → Type 0
IsSpecification texts tokens = (spec : Spec) × IsSpecOf texts tokens spec

-- The specification that the tokens are; or the place of the first token with which they begin none, or the end of the text.
abbrev pub IsReading : List (List ℕ) → List Token → ℕ → Result Spec ReadSpecFault → Type 0
IsReading texts tokens text_end (Ok spec) = IsSpecOf texts tokens spec
IsReading texts tokens text_end (Err (Syntax at)) = (k : ℕ) × IsFaultPlace (IsSpecification texts) tokens k × (at ≡ place_of text_end (drop k tokens))
IsReading texts tokens text_end (Err Memory) = ⊥
