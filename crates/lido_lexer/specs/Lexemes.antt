-- What a token says before its text has an id.
use Rattle.std.specs.Prelude.{List, ℕ}
use Rattle.std.specs.Option.{option_map_or}
use Rattle.lido_lexer.specs.declared.lexeme.Lexeme.{Lexeme}
use Rattle.lido_lexer.specs.declared.lexeme.Lexeme.TheVariants as lexeme
use Rattle.lido_lexer.specs.Keywords.{keyword_of}
use Rattle.lido_lexer.specs.Tokens.{Shown, Word, Key, Int, Str, Literal, Sign}

-- A name says the keyword that it is, or itself.
abbrev pub name_shown : List ℕ → Shown
name_shown name = option_map_or Key (keyword_of name) (Word name)

-- What a token shows, its text still with it.
abbrev pub said : Lexeme → Shown
said (lexeme.Name name) = name_shown name.now
said (lexeme.Int z) = Int z
said (lexeme.Sign sign) = Sign sign
said (lexeme.Literal text) = Literal text.now
said (lexeme.Str text) = Str text.items
