-- A text has one list of tokens at most, or one place where it is stuck, and never both.
use Rattle.std.proofs.Common.{◌≡◌, ℕ, List, ◌∷◌, length, Option, Some, None, Result, Ok, Err, refl, ap, sym, ◌∙◌, subst}
use Rattle.lido_base.specs.Phases.{IsThe}
use Rattle.lido_lexer.specs.Lexing.{Placed, place, placed, Lexes, ended, after_gap, with_token, IsStuck, here, past_gap, past_token, Lexing, IsCutInto, up_to_end, up_to, gap_first, token_first}
use Rattle.lido_lexer.specs.declared.token.LexFault.{LexFault}
use Rattle.lido_lexer.specs.declared.token.LexFault.TheVariants as fault
use Rattle.lido_lexer.proofs.GapsLemmas.{no_bytes_no_gap}
use Rattle.lido_lexer.proofs.FrontsLemmas.{one_front, one_gap, gap_no_front, no_bytes_no_front}

pub one_list : {size : ℕ} {bytes : List ℕ} {tokens others : List Placed} → Lexes size bytes tokens → Lexes size bytes others → tokens ≡ others
one_list ended ended = refl
one_list ended (after_gap g b) = absurd (no_bytes_no_gap refl g)
one_list ended (with_token {rest = rest} {shown = shown} f b) = absurd (no_bytes_no_front rest shown f)
one_list (after_gap g a) ended = absurd (no_bytes_no_gap refl g)
one_list {size} {others = others} (after_gap g a) (after_gap h b) = one_list a (subst (λ (l : List ℕ). Lexes size l others) (one_gap h g) b)
one_list (after_gap {bytes} {rest} g a) (with_token {rest = other} {shown = shown} f b) = absurd (gap_no_front shown bytes rest other g f)
one_list (with_token {rest = rest} {shown = shown} f a) ended = absurd (no_bytes_no_front rest shown f)
one_list (with_token {bytes} {rest} {shown} f a) (after_gap {rest = other} g b) = absurd (gap_no_front shown bytes other rest g f)
one_list {size} (with_token {bytes} {rest} {shown} f a) (with_token {rest = other} {shown = shown'} {tokens = others} g b) =
    let same = one_front shown shown' bytes rest other f g in
    let later = one_list a (subst (λ (l : List ℕ). Lexes size l others) (sym same.1) b) in
    λ j. placed size bytes (same.0 j) (same.1 j) ∷ later j

pub not_both : {size at : ℕ} {bytes : List ℕ} {tokens : List Placed} → Lexes size bytes tokens → IsStuck size bytes at → ⊥
not_both ended (here at none) = none.more refl
not_both ended (past_gap g b) = no_bytes_no_gap refl g
not_both ended (past_token {rest = rest} shown f b) = no_bytes_no_front rest shown f
not_both (after_gap {rest = rest} g a) (here at none) = none.no_gap rest g
not_both {size} {at} (after_gap g a) (past_gap h b) = not_both a (subst (λ (l : List ℕ). IsStuck size l at) (one_gap h g) b)
not_both (after_gap {bytes} {rest} g a) (past_token {rest = other} shown f b) = gap_no_front shown bytes rest other g f
not_both (with_token {rest = rest} {shown = shown} f a) (here at none) = none.no_token shown rest f
not_both (with_token {bytes} {rest} {shown} f a) (past_gap {rest = other} g b) = gap_no_front shown bytes other rest g f
not_both {size} {at} (with_token {bytes} {rest} {shown} f a) (past_token {rest = other} shown' g b) =
    not_both a (subst (λ (l : List ℕ). IsStuck size l at) (sym (one_front shown shown' bytes rest other f g).1) b)

pub one_place : {size at other : ℕ} {bytes : List ℕ} → IsStuck size bytes at → IsStuck size bytes other → at ≡ other
one_place (here at none) (here at' none') = at ∙ sym at'
one_place (here at none) (past_gap {rest = rest} g b) = absurd (none.no_gap rest g)
one_place (here at none) (past_token {rest = rest} shown f b) = absurd (none.no_token shown rest f)
one_place (past_gap {rest = rest} g a) (here at none) = absurd (none.no_gap rest g)
one_place {size} {other = other} (past_gap g a) (past_gap h b) = one_place a (subst (λ (l : List ℕ). IsStuck size l other) (one_gap h g) b)
one_place (past_gap {bytes} {rest} g a) (past_token {rest = rest'} shown f b) = absurd (gap_no_front shown bytes rest rest' g f)
one_place (past_token {rest = rest} shown f a) (here at none) = absurd (none.no_token shown rest f)
one_place (past_token {bytes} {rest} shown f a) (past_gap {rest = rest'} g b) = absurd (gap_no_front shown bytes rest' rest g f)
one_place {size} {other = other} (past_token {bytes} {rest} shown f a) (past_token {rest = rest'} shown' g b) =
    one_place a (subst (λ (l : List ℕ). IsStuck size l other) (sym (one_front shown shown' bytes rest rest' f g).1) b)

pub one_answer : (bytes : List ℕ) (r s : Result (List Placed) LexFault) → Lexing bytes r → Lexing bytes s → s ≡ r
unfolding Lexing
one_answer bytes (Ok a) (Ok b) x y = ap Ok (one_list y x)
one_answer bytes (Ok a) (Err (fault.Lexical at)) x y = absurd (not_both x y)
one_answer bytes (Ok a) (Err fault.Memory) x y = absurd y
one_answer bytes (Err (fault.Lexical at)) (Ok b) x y = absurd (not_both y x)
one_answer bytes (Err (fault.Lexical at)) (Err (fault.Lexical other)) x y = ap (λ (n : ℕ). Err (fault.Lexical n)) (one_place y x)
one_answer bytes (Err (fault.Lexical at)) (Err fault.Memory) x y = absurd y
one_answer bytes (Err fault.Memory) s x y = absurd x

pub lexed_is : (text : List ℕ) (tokens : List Placed) → Lexes (length text) text tokens → IsThe (Lexing text) (Ok tokens)
unfolding Lexing
lexed_is text tokens it = record { is = it; only = λ s other. one_answer text (Ok tokens) s it other }

pub stuck_is : (text : List ℕ) (at : ℕ) → IsStuck (length text) text at → IsThe (Lexing text) (Err (fault.Lexical at))
unfolding Lexing
stuck_is text at it = record { is = it; only = λ s other. one_answer text (Err (fault.Lexical at)) s it other }

-- ---- the tokens in front

pub cut_lexes : {size : ℕ} {bytes : List ℕ} {tokens : List Placed} {stuck : Option ℕ} → IsCutInto size bytes tokens stuck → stuck ≡ None → Lexes size bytes tokens
cut_lexes up_to_end e = ended
cut_lexes (up_to none) e = cc
cut_lexes (gap_first gap it) e = after_gap gap (cut_lexes it e)
cut_lexes (token_first front it) e = with_token front (cut_lexes it e)

pub cut_stuck : {size : ℕ} {bytes : List ℕ} {tokens : List Placed} {stuck : Option ℕ} (at : ℕ) → IsCutInto size bytes tokens stuck → stuck ≡ Some at → IsStuck size bytes at
cut_stuck at up_to_end e = cc
cut_stuck {size} at (up_to {bytes} none) e = let same : at ≡ place size bytes = cc in here same none
cut_stuck at (gap_first gap it) e = past_gap gap (cut_stuck at it e)
cut_stuck at (token_first {shown = shown} front it) e = past_token shown front (cut_stuck at it e)

-- a text is cut in one way
pub one_cut : {size : ℕ} {bytes : List ℕ} {tokens others : List Placed} {stuck other : Option ℕ} → IsCutInto size bytes tokens stuck → IsCutInto size bytes others other
    → (tokens ≡ others) × (stuck ≡ other)
one_cut up_to_end up_to_end = (refl, refl)
one_cut up_to_end (up_to none) = absurd (none.more refl)
one_cut up_to_end (gap_first g b) = absurd (no_bytes_no_gap refl g)
one_cut up_to_end (token_first {rest = rest} {shown = shown} f b) = absurd (no_bytes_no_front rest shown f)
one_cut (up_to none) up_to_end = absurd (none.more refl)
one_cut (up_to none) (up_to none') = (refl, refl)
one_cut (up_to none) (gap_first {rest = rest} g b) = absurd (none.no_gap rest g)
one_cut (up_to none) (token_first {rest = rest} {shown = shown} f b) = absurd (none.no_token shown rest f)
one_cut (gap_first g a) up_to_end = absurd (no_bytes_no_gap refl g)
one_cut (gap_first {rest = rest} g a) (up_to none) = absurd (none.no_gap rest g)
one_cut {size} {others = others} {other = other} (gap_first g a) (gap_first h b) = one_cut a (subst (λ (l : List ℕ). IsCutInto size l others other) (one_gap h g) b)
one_cut (gap_first {bytes} {rest} g a) (token_first {rest = rest'} {shown = shown} f b) = absurd (gap_no_front shown bytes rest rest' g f)
one_cut (token_first {rest = rest} {shown = shown} f a) up_to_end = absurd (no_bytes_no_front rest shown f)
one_cut (token_first {rest = rest} {shown = shown} f a) (up_to none) = absurd (none.no_token shown rest f)
one_cut (token_first {bytes} {rest} {shown} f a) (gap_first {rest = rest'} g b) = absurd (gap_no_front shown bytes rest' rest g f)
one_cut {size} {other = other} (token_first {bytes} {rest} {shown} f a) (token_first {rest = rest'} {shown = shown'} {tokens = others} g b) =
    let same = one_front shown shown' bytes rest rest' f g in
    let later = one_cut a (subst (λ (l : List ℕ). IsCutInto size l others other) (sym same.1) b) in
    ((λ j. placed size bytes (same.0 j) (same.1 j) ∷ later.0 j), later.1)
