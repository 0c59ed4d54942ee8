-- A rule's name, or what it is called where it has none.
use Rattle.std.specs.Prelude.{◌≡◌, ℕ, Bool, List, refl}
use Rattle.std.proofs.Common.{subst}
use Rattle.lido_base.specs.Reading.{GoesOn, Finds, nothing}
use Rattle.lido_base.specs.declared.ids.StrId.{StrId}
use Rattle.lido_lexer.specs.Seen.{Signs}
use Rattle.lido_lexer.specs.declared.sign.Sign.TheVariants as sign
use Rattle.lido_lexer.specs.declared.token.TokenKind.TheVariants as kind
use Rattle.lido_lexer.specs.declared.token.Token.{Token}
use Rattle.lido_syntax.specs.declared.spec.Name.{Name}
use Rattle.lido_computations.specs.Phrases.{Done, Then, IsName, word}
use Rattle.lido_reader.specs.Items.{IsRuleName, is_word, is_word_kind}
use Rattle.lido_computations.proofs.PhrasesLemmas.{Stops, name_said, name_some, name_finds}
use Rattle.lido_reader.proofs.PartsLemmas.{go_on, read_whole, present_leads, absent_finds, seen_stops}

word_goes : (ts us : List Token) (n : Name) → IsName ts n us → GoesOn is_word ts
word_goes ts us n (word e) = rw e refl

pub named : (called : ℕ → StrId) (k at : ℕ) (ts us : List Token) (n : Name) → IsName ts n us → Finds (IsRuleName called k at) is_word ts n us
named called k at ts us n p = read_whole (go_on (present_leads IsName (λ name. Done name) (record { at = at; id = called k }) is_word ts (word_goes ts us n p)) (name_finds nothing ts us n p))

pub unnamed : (called : ℕ → StrId) (k at : ℕ) (id : StrId) (ts : List Token) → called k ≡ id → ((n : Name) (us : List Token) → IsName ts n us → ⊥) → Finds (IsRuleName called k at) is_word ts (record { at = at; id = id }) ts
unnamed called k at id ts e none = subst (λ z. Finds (IsRuleName called k at) is_word ts (record { at = at; id = z }) ts) e (absent_finds IsName (λ name. Done name) (record { at = at; id = called k }) is_word name_said name_some ts none)

-- a colon is no name
pub colon_names : {X Y : Type 0} (Rest : Y → Token → List Token → X → List Token → Type 0) (c : Token → Bool) → Stops is_word c (λ name. Then (Signs sign.Colon) (Rest name))
colon_names Rest c = seen_stops (kind.Sign sign.Colon) is_word_kind refl Rest c
