-- The table of texts of the example's specification, by which its tokens are shown as they stand in the text.
use Rattle.std.proofs.Common.{◌≡◌, ℕ, nat_lt, Bool, true, List, [], ◌∷◌, length, map, All, slice_get, Some, codes, refl, sym, subst, Ok}
use Rattle.std.proofs.lemmas.Bool.{ltb-true}
use Rattle.std.proofs.lemmas.List.Sums.{AllPass-from_list_all}
use Rattle.lido_lexer.specs.declared.token.Token.{Token}
use Rattle.lido_lexer.specs.declared.token.TokenKind.{TokenKind}
use Rattle.lido_lexer.specs.declared.token.TokenKind.TheVariants as kind
use Rattle.lido_lexer.specs.Lexing.{shown_in, HasText}
use Rattle.lido_lexer.specs.Tables.{interned, texts_in}
use Rattle.lido_computations.specs.Functions.{known_words}
use Rattle.lido_reader.specs.Added.{rule_names}
use Rattle.lido_reader.specs.Specification.{IsSpecOf, IsReading}
use Rattle.lido_reader.proofs.ExampleTree.{ADD, spelled, spec}
use Rattle.lido_reader.proofs.ExampleSyntax.{is_spec}

-- the known words, and behind them the texts of the example
abbrev pub table : List (List ℕ)
table =
    codes "OR" ∷ codes "AND" ∷ codes "EQ" ∷ codes "NE" ∷ codes "LT" ∷ codes "LE" ∷ codes "GT" ∷ codes "GE" ∷ codes "ADD" ∷ codes "SUB"
    ∷ codes "MUL" ∷ codes "DIV" ∷ codes "MOD" ∷ codes "NEG" ∷ codes "NOT" ∷ codes "IF" ∷ codes "ORDER" ∷ codes "PTGNULL"
    ∷ codes "message" ∷ codes "NOTE" ∷ codes "WARNING" ∷ codes "ERROR" ∷ codes "COORDREF"
    ∷ codes "val" ∷ codes "Num" ∷ codes "rTop" ∷ codes "Top" ∷ codes "Expr" ∷ codes "PTGNumb" ∷ codes "rAdd" ∷ codes "+" ∷ codes "rNum" ∷ []

pub is_interned : table ≡ interned known_words (texts_in (map (shown_in table) spelled))
unfolding interned
is_interned = refl

has_add : slice_get table ADD ≡ Some (codes "ADD")
has_add = refl

-- whether a token's id, if it has one, is below this number
abbrev is_below : ℕ → TokenKind → Bool
is_below count (kind.Word id) = nat_lt id.0 count
is_below count (kind.Str id) = nat_lt id.0 count
is_below count (kind.Literal id) = nat_lt id.0 count
is_below count _ = true

has_text : (count : ℕ) (what : TokenKind) → is_below count what ≡ true → HasText count what
has_text count (kind.Word id) is = ltb-true _ _ is
has_text count (kind.Str id) is = ltb-true _ _ is
has_text count (kind.Literal id) is = ltb-true _ _ is
has_text count (kind.Int z) is = tt
has_text count (kind.Key k) is = tt
has_text count (kind.Sign s) is = tt

pub have_texts : All (λ (t : Token). HasText (length table) t.what) spelled
have_texts = λ k d less. has_text _ _ (AllPass-from_list_all (λ (t : Token). is_below (length table) t.what) spelled refl k d less)

-- each rule has a name, so that the reader adds none
same_table : interned table (rule_names 1 spelled) ≡ table
unfolding interned rule_names
same_table = refl

pub is_reading : IsReading (interned table (rule_names 1 spelled)) spelled 241 (Ok spec)
is_reading = subst (λ (texts : List (List ℕ)). IsSpecOf texts spelled spec) (sym same_table) (is_spec table has_add)
