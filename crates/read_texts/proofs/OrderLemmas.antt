-- Tokens that stand one behind the other, as the lexer gives them.
use Rattle.std.specs.List.{All, AllPairs, slice_index_or}
use Rattle.std.proofs.Common.{ℕ, ◌+◌, ◌<◌, ◌≤◌, List, [], ◌∷◌, length, arith}
use Rattle.lido_lexer.specs.Lexing.{HasText, IsInOrder}
use Rattle.lido_lexer.specs.declared.token.Token.{Token}
use Rattle.lido_lexer.specs.declared.token.TokenKind.{TokenKind}
use Rattle.lido_lexer.specs.declared.token.TokenKind.TheVariants as kind
use Rattle.lido_reader.specs.Known.{IsNameOf, IsIdOf, KnownKind, HasKnownId}
use Rattle.lido_reader.specs.Numbers.{IsEarlier}
use Rattle.lido_reader.proofs.NumbersLemmas.{Every, Apart, all_pairs}

-- all of them begin behind what stands in front
behind : (at from to : ℕ) (tokens : List Token) → at < from → IsInOrder from to tokens → Every (λ (u : Token). at < u.from) tokens
behind at from to [] less h = tt
behind at from to (u ∷ us) less h = (omega (arith, less, h.0), behind at u.to to us (omega (arith, less, h.0, h.1)) h.2)

apart : (from to : ℕ) (tokens : List Token) → IsInOrder from to tokens → Apart IsEarlier tokens
apart from to [] h = tt
apart from to (t ∷ ts) h = (behind t.from t.to to ts h.1 h.2, apart t.to to ts h.2)

pub each_is_earlier : (from to : ℕ) (tokens : List Token) → IsInOrder from to tokens → AllPairs IsEarlier tokens
each_is_earlier from to tokens h = all_pairs IsEarlier tokens (apart from to tokens h)

-- none of them is empty
pub no_more_than_bytes : (from to : ℕ) (tokens : List Token) → IsInOrder from to tokens → from + length tokens ≤ to
no_more_than_bytes from to [] h = omega (arith, h)
no_more_than_bytes from to (t ∷ ts) h = omega (arith, h.0, h.1, no_more_than_bytes t.to to ts h.2)

kind_known : (texts : List (List ℕ)) (count at : ℕ) (what : TokenKind) → count ≤ length texts → HasText count what → KnownKind (IsNameOf texts) (IsNameOf texts) (IsIdOf texts) at what
kind_known texts count at (kind.Word id) more h = omega (arith, more, h)
kind_known texts count at (kind.Str id) more h = omega (arith, more, h)
kind_known texts count at (kind.Literal id) more h = omega (arith, more, h)
kind_known texts count at (kind.Key word) more h = tt
kind_known texts count at (kind.Int i) more h = tt
kind_known texts count at (kind.Sign s) more h = tt

-- ids stay known where texts are added
pub ids_known : (texts : List (List ℕ)) (count : ℕ) (tokens : List Token) → count ≤ length texts → All (λ (t : Token). HasText count t.what) tokens → All (HasKnownId texts) tokens
ids_known texts count tokens more h i d less = let t = slice_index_or tokens i d in kind_known texts count t.from t.what more (h i d less)
