-- Tables of texts: what is added, and that they tell tokens apart.
use Rattle.std.proofs.Common.{◌≡◌, ℕ, ◌<◌, List, [], ◌∷◌, ◌++◌, length, map, All, Result, Ok, Err, Option, Some, None, slice_get, unwrap_or, refl, ap, sym, ◌∙◌, subst, append_assoc, append-nil}
use Rattle.std.proofs.lemmas.List.{map-append}
use Rattle.std.proofs.lemmas.List.Elements.{All-head, All-tail}
use Rattle.std.proofs.lemmas.Option.{slice_get-get_or, unwrap_or-slice_get}
use Rattle.lido_base.specs.Phases.{IsThe}
use Rattle.lido_base.specs.Texts.{IsDistinctTexts, Gains, interned}
use Rattle.lido_base.specs.declared.ids.StrId.{StrId}
use Rattle.lido_base.proofs.TextsLemmas.{same_place, interned_distinct}
pub use Rattle.lido_base.proofs.TextsLemmas.{interned_none, interned_one, interned_append, text_added}
use Rattle.lido_lexer.specs.Tokens.{shown_kind}
use Rattle.lido_lexer.specs.Lexing.{Placed, Lexing, HasText, IsCutInto, shown_in}
use Rattle.lido_lexer.specs.Tables.{text_of, texts_in, IsLexed, LexedFrom}
use Rattle.lido_lexer.specs.declared.token.Token.{Token}
use Rattle.lido_lexer.specs.declared.token.TokenKind.{TokenKind}
use Rattle.lido_lexer.specs.declared.token.TokenKind.TheVariants as kind
use Rattle.lido_lexer.specs.declared.token.LexFault.{LexFault}
use Rattle.lido_lexer.specs.declared.token.LexFault.TheVariants as fault
use Rattle.lido_lexer.proofs.One.{one_answer, cut_lexes, cut_stuck}
use Rattle.lido_lexer.proofs.Reading.{shown_kept}

-- ---- what is added

texts_append : (tokens others : List Placed) → texts_in (tokens ++ others) ≡ texts_in tokens ++ texts_in others
texts_append [] others = refl
texts_append (t ∷ tokens) others = ap (λ (l : List (List ℕ)). text_of t.what ++ l) (texts_append tokens others) ∙ sym (append_assoc (text_of t.what) (texts_in tokens) (texts_in others))

-- one token more
pub table_more : (texts old new : List (List ℕ)) (tokens : List Token) (token : Token) → Gains old new → All (λ (t : Token). HasText (length old) t.what) tokens
    → old ≡ interned texts (texts_in (map (shown_in old) tokens)) → new ≡ interned old (text_of (shown_kind new token.what))
    → new ≡ interned texts (texts_in (map (shown_in new) (tokens ++ token ∷ [])))
table_more texts old new tokens token gains ids before one =
    let first = texts_in (map (shown_in old) tokens) in
    let last = text_of (shown_kind new token.what) in
    let all : texts_in (map (shown_in new) (tokens ++ token ∷ [])) ≡ first ++ last =
    ap texts_in (map-append (shown_in new) tokens (token ∷ [])) ∙ texts_append (map (shown_in new) tokens) (shown_in new token ∷ [])
    ∙ (λ j. texts_in (shown_kept old new tokens gains ids j) ++ append-nil last j) in
    one ∙ ap (λ (l : List (List ℕ)). interned l last) before ∙ sym (interned_append texts first last) ∙ ap (interned texts) (sym all)

-- ---- ids tell tokens apart

id_of : {a b : StrId} → a.0 ≡ b.0 → a ≡ b
id_of e = λ j. record { 0 = e j }

found : (texts : List (List ℕ)) (i : ℕ) → i < length texts → slice_get texts i ≡ Some (unwrap_or (slice_get texts i) [])
found texts i less = slice_get-get_or texts i [] less ∙ ap Some (sym (unwrap_or-slice_get texts i []))

same_id : (texts : List (List ℕ)) → IsDistinctTexts texts → (a b : StrId) → a.0 < length texts → b.0 < length texts
    → unwrap_or (slice_get texts a.0) [] ≡ unwrap_or (slice_get texts b.0) [] → a ≡ b
same_id texts distinct a b first second same =
    id_of (same_place texts distinct a.0 b.0 (unwrap_or (slice_get texts a.0) []) (found texts a.0 first) (found texts b.0 second ∙ ap Some (sym same)))

same_kind : (texts : List (List ℕ)) → IsDistinctTexts texts → (a b : TokenKind) → HasText (length texts) a → HasText (length texts) b → shown_kind texts a ≡ shown_kind texts b → a ≡ b
same_kind texts d (kind.Word a) (kind.Word b) x y e = ap kind.Word (same_id texts d a b x y (cc))
same_kind texts d (kind.Word a) _ x y e = absurd (cc)
same_kind texts d (kind.Str a) (kind.Str b) x y e = ap kind.Str (same_id texts d a b x y (cc))
same_kind texts d (kind.Str a) _ x y e = absurd (cc)
same_kind texts d (kind.Literal a) (kind.Literal b) x y e = ap kind.Literal (same_id texts d a b x y (cc))
same_kind texts d (kind.Literal a) _ x y e = absurd (cc)
same_kind texts d (kind.Key a) (kind.Key b) x y e = cc
same_kind texts d (kind.Key a) _ x y e = absurd (cc)
same_kind texts d (kind.Int a) (kind.Int b) x y e = cc
same_kind texts d (kind.Int a) _ x y e = absurd (cc)
same_kind texts d (kind.Sign a) (kind.Sign b) x y e = cc
same_kind texts d (kind.Sign a) _ x y e = absurd (cc)

head_is : {p q : Placed} {ps qs : List Placed} → p ∷ ps ≡ q ∷ qs → p ≡ q
head_is e = cc

tail_is : {p q : Placed} {ps qs : List Placed} → p ∷ ps ≡ q ∷ qs → ps ≡ qs
tail_is e = cc

-- over one table of distinct texts, tokens that show the same are the same
pub same_tokens : (texts : List (List ℕ)) → IsDistinctTexts texts → (tokens others : List Token)
    → All (λ (t : Token). HasText (length texts) t.what) tokens → All (λ (t : Token). HasText (length texts) t.what) others
    → map (shown_in texts) tokens ≡ map (shown_in texts) others → tokens ≡ others
same_tokens texts d [] [] x y e = refl
same_tokens texts d [] (u ∷ us) x y e = absurd (cc)
same_tokens texts d (t ∷ ts) [] x y e = absurd (cc)
same_tokens texts d (t ∷ ts) (u ∷ us) x y e =
    let P : Token → Type 0 = λ v. HasText (length texts) v.what in
    let first = head_is e in
    let what = same_kind texts d t.what u.what (All-head P t ts x) (All-head P u us y) (ap (λ (p : Placed). p.what) first) in
    let later = same_tokens texts d ts us (All-tail P t ts x) (All-tail P u us y) (tail_is e) in
    λ j. record { from = (first j).from; to = (first j).to; what = what j } ∷ later j

-- ---- one table and one list of tokens

one_lexed : (texts : List (List ℕ)) (bytes : List ℕ) (later other : List (List ℕ)) (tokens others : List Token) → IsDistinctTexts later
    → IsLexed texts bytes later tokens → IsLexed texts bytes other others → (other ≡ later) × (others ≡ tokens)
one_lexed texts bytes later other tokens others distinct a b =
    let answer = one_answer bytes (Ok (map (shown_in later) tokens)) (Ok (map (shown_in other) others)) a.spelled b.spelled in
    let shown : map (shown_in other) others ≡ map (shown_in later) tokens = cc in
    let same : other ≡ later = b.table ∙ ap (λ (l : List Placed). interned texts (texts_in l)) shown ∙ sym a.table in
    let ids = subst (λ (l : List (List ℕ)). All (λ (t : Token). HasText (length l) t.what) others) same b.ids in
    let there = ap (λ (l : List (List ℕ)). map (shown_in l) others) (sym same) ∙ shown in
    (same, same_tokens later distinct others tokens ids a.ids there)

lexed_only : (texts : List (List ℕ)) (bytes : List ℕ) (later : List (List ℕ)) (tokens : List Token) → IsDistinctTexts later → IsLexed texts bytes later tokens
    → (s : Result (List (List ℕ) × List Token) LexFault) → LexedFrom texts bytes s → s ≡ Ok (later, tokens)
unfolding LexedFrom
lexed_only texts bytes later tokens distinct a (Ok (other, others)) b =
    let same = one_lexed texts bytes later other tokens others distinct a b in
    λ j. Ok (same.0 j, same.1 j)
lexed_only texts bytes later tokens distinct a (Err e) b = absurd (let same = one_answer bytes (Ok (map (shown_in later) tokens)) (Err e) a.spelled b in cc)

pub lexed_from : (texts : List (List ℕ)) (bytes : List ℕ) (later : List (List ℕ)) (tokens : List Token) → IsDistinctTexts later → IsLexed texts bytes later tokens
    → IsThe (LexedFrom texts bytes) (Ok (later, tokens))
unfolding LexedFrom
lexed_from texts bytes later tokens distinct a = record { is = a; only = lexed_only texts bytes later tokens distinct a }

fault_only : (texts : List (List ℕ)) (bytes : List ℕ) (e : LexFault) → Lexing bytes (Err e) → (s : Result (List (List ℕ) × List Token) LexFault) → LexedFrom texts bytes s → s ≡ Err e
unfolding LexedFrom
fault_only texts bytes e a (Ok (other, others)) b = absurd (let same = one_answer bytes (Err e) (Ok (map (shown_in other) others)) a b.spelled in cc)
fault_only texts bytes e a (Err f) b = let same = one_answer bytes (Err e) (Err f) a b in cc

pub stuck_from : (texts : List (List ℕ)) (bytes : List ℕ) (e : LexFault) → Lexing bytes (Err e) → IsThe (LexedFrom texts bytes) (Err e)
unfolding LexedFrom
stuck_from texts bytes e a = record { is = a; only = fault_only texts bytes e a }

-- all of a text is read
pub read_is : (texts : List (List ℕ)) (bytes : List ℕ) (later : List (List ℕ)) (tokens : List Token) {stuck : Option ℕ} → IsDistinctTexts later
    → IsCutInto (length bytes) bytes (map (shown_in later) tokens) stuck → stuck ≡ None
    → later ≡ interned texts (texts_in (map (shown_in later) tokens)) → All (λ (t : Token). HasText (length later) t.what) tokens
    → IsThe (LexedFrom texts bytes) (Ok (later, tokens))
unfolding Lexing
read_is texts bytes later tokens distinct cut none table ids =
    lexed_from texts bytes later tokens distinct (record { spelled = cut_lexes cut none; table = table; ids = ids })

-- a text has no token at a place
pub unread_is : (texts : List (List ℕ)) (bytes : List ℕ) (at : ℕ) {tokens : List Placed} {stuck : Option ℕ}
    → IsCutInto (length bytes) bytes tokens stuck → stuck ≡ Some at → IsThe (LexedFrom texts bytes) (Err (fault.Lexical at))
unfolding Lexing
unread_is texts bytes at cut is = stuck_from texts bytes (fault.Lexical at) (cut_stuck at cut is)

-- a text has one table behind it and one list of tokens, or one fault
pub one_table_and_tokens : (texts : List (List ℕ)) (bytes : List ℕ) → IsDistinctTexts texts → (first second : Result (List (List ℕ) × List Token) LexFault)
    → LexedFrom texts bytes first → LexedFrom texts bytes second → first ≡ second
unfolding LexedFrom
one_table_and_tokens texts bytes distinct (Ok (later, tokens)) second a b =
    let still = subst IsDistinctTexts (sym a.table) (interned_distinct texts (texts_in (map (shown_in later) tokens)) distinct) in
    sym (lexed_only texts bytes later tokens still a second b)
one_table_and_tokens texts bytes distinct (Err e) second a b = sym (fault_only texts bytes e a second b)
