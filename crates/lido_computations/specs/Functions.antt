-- The words that a reader of specifications knows by their texts, and tables of texts in which they stand.
use Rattle.std.specs.Prelude.{◌≡◌, ℕ, IsTrue, List, [], ◌∷◌, ◌++◌, codes}
use Rattle.std.specs.List.{list_any}
use Rattle.std.specs.Str.{bytes_eq}

-- the functions that operators, IF, ORDER and PTGNULL stand for
abbrev pub functions : List (List ℕ)
functions = codes "OR" ∷ codes "AND" ∷ codes "EQ" ∷ codes "NE" ∷ codes "LT" ∷ codes "LE" ∷ codes "GT" ∷ codes "GE" ∷ codes "ADD" ∷ codes "SUB" ∷ codes "MUL" ∷ codes "DIV" ∷ codes "MOD"
    ∷ codes "NEG" ∷ codes "NOT" ∷ codes "IF" ∷ codes "ORDER" ∷ codes "PTGNULL" ∷ []

-- the words of messages
abbrev pub message_words : List (List ℕ)
message_words = codes "message" ∷ codes "NOTE" ∷ codes "WARNING" ∷ codes "ERROR" ∷ codes "COORDREF" ∷ []

-- all words that are known by their texts
abbrev pub known_words : List (List ℕ)
known_words = functions ++ message_words

-- the text stands among the texts
abbrev pub IsAmong : List (List ℕ) → List ℕ → Type 0
IsAmong texts text = IsTrue (list_any (bytes_eq text) texts)

-- Each of the names stands among the texts.
pub record HasAll (names texts : List (List ℕ)) : Type 0 where
  pub each : (name : List ℕ) → IsAmong names name → IsAmong texts name

-- Where all known words stand among the texts, none was added.
pub record Keeps (old new : List (List ℕ)) : Type 0 where
  pub same : HasAll known_words old → new ≡ old
