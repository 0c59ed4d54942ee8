-- Which texts a reader of specifications adds to the table: the names of the rules that have none, once all known words
-- are there.
use Rattle.std.specs.Prelude.{◌≡◌, ℕ, ◌+◌, Bool, true, false, not, if◌then◌else◌, List, [], ◌∷◌, ◌++◌}
use Rattle.lido_lexer.specs.Lexing.{Gains}
use Rattle.lido_lexer.specs.Tables.{interned}
use Rattle.lido_lexer.specs.declared.keyword.Keyword.TheVariants as key
use Rattle.lido_lexer.specs.declared.token.Token.{Token}
use Rattle.lido_lexer.specs.declared.token.TokenKind.{TokenKind}
use Rattle.lido_lexer.specs.declared.token.TokenKind.TheVariants as kind
use Rattle.lido_computations.specs.Functions.{HasAll, known_words}
use Rattle.lido_reader.specs.Items.{is_word, rule_text}

abbrev pub is_rule_kind : TokenKind → Bool
is_rule_kind (kind.Key key.Rule) = true
is_rule_kind _ = false

-- a rule begins here
abbrev pub is_rule : Token → Bool
is_rule t = is_rule_kind t.what

-- no name comes next
abbrev pub lacks_name : List Token → Bool
lacks_name [] = true
lacks_name (t ∷ ts) = not (is_word t)

-- behind RULE: the name of the rule of this number, if it has none
abbrev pub called_names : ℕ → List Token → List (List ℕ)
called_names k ts = if lacks_name ts then rule_text k ∷ [] else []

-- what the first token adds, where k is the number of the rule that it begins, if it is RULE
unfoldable pub first_names : ℕ → List Token → List (List ℕ)
first_names k [] = []
first_names k (t ∷ ts) = if is_rule t then called_names k ts else []

-- The names of all rules that have none, in order, where the first rule has the number k: each RULE that no name follows adds one.
unfoldable pub rule_names : ℕ → List Token → List (List ℕ)
rule_names k [] = []
rule_names k (t ∷ ts) = if is_rule t then (called_names k ts ++ rule_names (k + 1) ts) else rule_names k ts

-- Where all known words stand among the texts, these names were added and no others.
pub record Adds (names old new : List (List ℕ)) : Type 0 where
  pub table : HasAll known_words old → new ≡ interned old names

-- Where they do, no others were added, and maybe not all of these yet.
pub record AddsSome (names old new : List (List ℕ)) : Type 0 where
  pub gains : HasAll known_words old → Gains new (interned old names)

-- Where they do, the names of all rules of the tokens, added to the old texts, give the same as those of what is left, added to the new ones.
pub record Owes (k : ℕ) (ts : List Token) (old : List (List ℕ)) (j : ℕ) (us : List Token) (new : List (List ℕ)) : Type 0 where
  pub table : HasAll known_words old → interned old (rule_names k ts) ≡ interned new (rule_names j us)
