-- A text that is read up to a place.
use Rattle.std.proofs.Common.{◌≡◌, ◌≢◌, ℕ, zero, suc, ◌<◌, ◌≤◌, List, [], ◌∷◌, ◌++◌, length, map, Option, Some, None, slice_get, unwrap_or, All, refl, ap, sym, ◌∙◌, subst, arith, append_assoc, append-nil}
use Rattle.std.proofs.lemmas.List.{map-append, length-append}
use Rattle.std.proofs.lemmas.List.Elements.{All-head, All-tail, All-push}
use Rattle.lido_lexer.specs.Gaps.{IsGap, IsPast, at_once, one_more}
use Rattle.lido_lexer.specs.Tokens.{IsFront, Word, Str, Literal, shown_kind}
use Rattle.lido_base.specs.Texts.{Gains}
use Rattle.lido_lexer.specs.Lexing.{Placed, IsCutInto, up_to_end, up_to, gap_first, token_first, shown_in, placed, HasText, IsInOrder, IsRefusedAt}
use Rattle.lido_lexer.specs.declared.token.Token.{Token}
use Rattle.lido_lexer.specs.declared.token.TokenKind.{TokenKind}
use Rattle.lido_lexer.specs.declared.token.TokenKind.TheVariants as kind
use Rattle.lido_lexer.specs.declared.token.LexFault.{LexFault}
use Rattle.lido_lexer.specs.declared.token.LexFault.TheVariants as fault

-- ---- texts that are added

pub gains_length : {old new : List (List ℕ)} → Gains old new → length old ≤ length new
gains_length {old} gains = omega (arith, ap length gains.behind, length-append old gains.added)

pub gains_none : (texts : List (List ℕ)) → Gains texts texts
gains_none texts = record { added = []; behind = sym (append-nil texts) }

pub gains_more : {old new newer : List (List ℕ)} → Gains old new → Gains new newer → Gains old newer
gains_more {old} a b = record { added = a.added ++ b.added; behind = b.behind ∙ ap (λ (l : List (List ℕ)). l ++ b.added) a.behind ∙ append_assoc old a.added b.added }

kept : (xs ys : List (List ℕ)) (i : ℕ) → i < length xs → slice_get (xs ++ ys) i ≡ slice_get xs i
kept [] ys i less = absurd (omega (arith, less))
kept (x ∷ xs) ys zero less = refl
kept (x ∷ xs) ys (suc i) less = kept xs ys i (omega (arith, less))

text_kept : (old new : List (List ℕ)) (i : ℕ) → Gains old new → i < length old → unwrap_or (slice_get new i) [] ≡ unwrap_or (slice_get old i) []
text_kept old new i gains less = ap (λ (o : Option (List ℕ)). unwrap_or o []) (ap (λ (l : List (List ℕ)). slice_get l i) gains.behind ∙ kept old gains.added i less)

kind_kept : (old new : List (List ℕ)) (what : TokenKind) → Gains old new → HasText (length old) what → shown_kind new what ≡ shown_kind old what
kind_kept old new (kind.Word id) gains less = ap Word (text_kept old new id.0 gains less)
kind_kept old new (kind.Key keyword) gains less = refl
kind_kept old new (kind.Int z) gains less = refl
kind_kept old new (kind.Str id) gains less = ap Str (text_kept old new id.0 gains less)
kind_kept old new (kind.Literal id) gains less = ap Literal (text_kept old new id.0 gains less)
kind_kept old new (kind.Sign sign) gains less = refl

-- tokens show the same once more texts are there
pub shown_kept : (old new : List (List ℕ)) (tokens : List Token) → Gains old new → All (λ (t : Token). HasText (length old) t.what) tokens
    → map (shown_in new) tokens ≡ map (shown_in old) tokens
shown_kept old new [] gains ids = refl
shown_kept old new (t ∷ tokens) gains ids =
    let P : Token → Type 0 = λ u. HasText (length old) u.what in
    let first = kind_kept old new t.what gains (All-head P t tokens ids) in
    let later = shown_kept old new tokens gains (All-tail P t tokens ids) in
    λ j. record { from = t.from; to = t.to; what = first j } ∷ later j

has_more : (n m : ℕ) (what : TokenKind) → n ≤ m → HasText n what → HasText m what
has_more n m (kind.Word id) few less = omega (arith, few, less)
has_more n m (kind.Key keyword) few less = less
has_more n m (kind.Int z) few less = less
has_more n m (kind.Str id) few less = omega (arith, few, less)
has_more n m (kind.Literal id) few less = omega (arith, few, less)
has_more n m (kind.Sign sign) few less = less

pub ids_more : (n m : ℕ) (tokens : List Token) (token : Token) → n ≤ m → All (λ (t : Token). HasText n t.what) tokens → HasText m token.what
    → All (λ (t : Token). HasText m t.what) (tokens ++ token ∷ [])
ids_more n m tokens token few ids one = All-push (λ (t : Token). HasText m t.what) tokens token (λ k d less. has_more n m _ few (ids k d less)) one

-- ---- tokens in order

pub order_more : (from middle to : ℕ) (tokens : List Token) (token : Token) → IsInOrder from middle tokens → middle ≤ token.from → token.from < token.to → token.to ≤ to
    → IsInOrder from to (tokens ++ token ∷ [])
order_more from middle to [] token before low some high = (omega (arith, before, low), some, high)
order_more from middle to (t ∷ tokens) token before low some high = (before.0, before.1, order_more t.to middle to tokens token before.2 low some high)

pub order_within : (from middle to : ℕ) (tokens : List Token) → IsInOrder from middle tokens → middle ≤ to → IsInOrder from to tokens
order_within from middle to [] before high = omega (arith, before, high)
order_within from middle to (t ∷ tokens) before high = (before.0, before.1, order_within t.to middle to tokens before.2 high)

-- ---- what is left decides of the whole

past_cut : {size : ℕ} {bytes rest : List ℕ} {more : List Placed} {stuck : Option ℕ} → IsPast bytes rest → IsCutInto size rest more stuck → IsCutInto size bytes more stuck
past_cut at_once it = it
past_cut (one_more past gap) it = past_cut past (gap_first gap it)

pub record IsReading (text : List ℕ) (texts : List (List ℕ)) (tokens : List Token) (left : List ℕ) : Type 0 where
  pub on : (more : List Placed) (stuck : Option ℕ) → IsCutInto (length text) left more stuck → IsCutInto (length text) text (map (shown_in texts) tokens ++ more) stuck
  pub no_gap : (rest : List ℕ) → IsGap left rest → ⊥

pub reading_start : (text : List ℕ) (texts : List (List ℕ)) (left : List ℕ) → IsPast text left → ((rest : List ℕ) → IsGap left rest → ⊥) → IsReading text texts [] left
reading_start text texts left past no_gap = record { on = λ more stuck it. past_cut past it; no_gap = no_gap }

pub reading_more : (text : List ℕ) (old new : List (List ℕ)) (tokens : List Token) (token : Token) (left rest next : List ℕ)
    → IsReading text old tokens left → Gains old new → All (λ (t : Token). HasText (length old) t.what) tokens
    → IsFront left (shown_kind new token.what) rest → shown_in new token ≡ placed (length text) left (shown_kind new token.what) rest
    → IsPast rest next → ((other : List ℕ) → IsGap next other → ⊥) → IsReading text new (tokens ++ token ∷ []) next
reading_more text old new tokens token left rest next before gains ids front shown past no_gap = record {
  on = λ more stuck it.
      let one : IsCutInto (length text) left (shown_in new token ∷ more) stuck =
      subst (λ (p : Placed). IsCutInto (length text) left (p ∷ more) stuck) (sym shown) (token_first front (past_cut past it)) in
      let all = before.on (shown_in new token ∷ more) stuck one in
      let same : map (shown_in new) (tokens ++ token ∷ []) ++ more ≡ map (shown_in old) tokens ++ (shown_in new token ∷ more) =
      ap (λ (l : List Placed). l ++ more) (map-append (shown_in new) tokens (token ∷ []))
      ∙ append_assoc (map (shown_in new) tokens) (shown_in new token ∷ []) more
      ∙ ap (λ (l : List Placed). l ++ (shown_in new token ∷ more)) (shown_kept old new tokens gains ids) in
      subst (λ (l : List Placed). IsCutInto (length text) text l stuck) (sym same) all;
  no_gap = no_gap;
}

pub reading_end : (text : List ℕ) (texts : List (List ℕ)) (tokens : List Token) (left : List ℕ) → IsReading text texts tokens left → left ≡ []
    → IsCutInto (length text) text (map (shown_in texts) tokens) None
reading_end text texts tokens left before none =
    subst (λ (l : List Placed). IsCutInto (length text) text l None) (append-nil (map (shown_in texts) tokens))
    (before.on [] None (subst (λ (l : List ℕ). IsCutInto (length text) l [] None) (sym none) up_to_end))

pub reading_stuck : (text : List ℕ) (texts : List (List ℕ)) (tokens : List Token) (left : List ℕ) (e : LexFault) (at : ℕ) → IsReading text texts tokens left → left ≢ []
    → IsRefusedAt (length text) left e → e ≡ fault.Lexical at → IsCutInto (length text) text (map (shown_in texts) tokens) (Some at)
reading_stuck text texts tokens left e at before some refusal is =
    let it : IsRefusedAt (length text) left (fault.Lexical at) = subst (λ (f : LexFault). IsRefusedAt (length text) left f) is refusal in
    subst (λ (l : List Placed). IsCutInto (length text) text l (Some at)) (append-nil (map (shown_in texts) tokens))
    (before.on [] (Some at) (subst (λ (n : ℕ). IsCutInto (length text) left [] (Some n)) (sym it.0)
    (up_to (record { more = some; no_gap = before.no_gap; no_token = it.1 }))))

-- more texts change nothing of it
pub reading_kept : (text : List ℕ) (old new : List (List ℕ)) (tokens : List Token) (left : List ℕ) → Gains old new → All (λ (t : Token). HasText (length old) t.what) tokens
    → IsReading text old tokens left → IsReading text new tokens left
reading_kept text old new tokens left gains ids before = record {
  on = λ more stuck it. subst (λ (l : List Placed). IsCutInto (length text) text (l ++ more) stuck) (sym (shown_kept old new tokens gains ids)) (before.on more stuck it);
  no_gap = before.no_gap;
}
