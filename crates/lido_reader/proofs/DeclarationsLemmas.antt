-- The parts of declarations.
use Rattle.std.specs.Prelude.{◌≡◌, ◌⊎◌, Bool, IsTrue, ◌||◌, true, false, List, [], ◌∷◌, ◌++◌, refl, Option, Some, None}
use Rattle.std.proofs.Common.{sym, ◌∙◌, ap, inl, inr}
use Rattle.lido_base.specs.Reading.{SameHead, GoesOn, Finds, Refuses, Leads, nothing}
use Rattle.lido_base.proofs.ReadingLemmas.{empty_finds, refuses_here}
use Rattle.lido_base.specs.declared.kinds.Kind.{Kind}
use Rattle.lido_base.specs.declared.kinds.Kind.TheVariants as side
use Rattle.lido_base.specs.declared.value.ValueType.{ValueType}
use Rattle.lido_base.specs.declared.value.ValueType.TheVariants as ty
use Rattle.lido_lexer.specs.Seen.{token, Signs, Keys}
use Rattle.lido_lexer.specs.declared.keyword.Keyword.TheVariants as key
use Rattle.lido_lexer.specs.declared.sign.Sign.TheVariants as sign
use Rattle.lido_lexer.specs.declared.token.Token.{Token}
use Rattle.lido_lexer.specs.declared.token.TokenKind.TheVariants as kind
use Rattle.lido_lexer.specs.declared.token.TokenKind.{TokenKind}
use Rattle.lido_syntax.specs.declared.spec.Decl.{Decl}
use Rattle.lido_computations.specs.Phrases.{Then, AreMore, end, is_comma, is_comma_kind, IsName, IsType, type_word, type_of}
use Rattle.lido_reader.specs.Items.{AreNames, IsTerminalType, terminal_type, is_terminal_type, IsSide, unsaid, synt, inh, is_side, is_side_kind, IsDecl, IsFurtherDecl, AreDecls, continues_decls, IsAttr, IsTerm, IsChain}
use Rattle.lido_computations.proofs.PhrasesLemmas.{Completable, sees_completable, name_completable, type_completable, then_completable, Stops, type_finds, leads_self}
use Rattle.lido_reader.proofs.PartsLemmas.{finish, then_finish, Starts, Steps, seen_stops, repeat_finish, or_left, or_right, seen_goes}

-- ---- a terminal's type

type_unique : (ts us vs : List Token) (x y : ValueType) → IsType ts x us → IsType ts y vs → y ≡ x
type_unique ts us vs x y (type_word {word = w} e d) (type_word {word = v} f g) = let same : v ≡ w = cc in let both : Some y ≡ Some x = sym g ∙ ap type_of same ∙ d in cc

pub terminal_type_finds : (ts us : List Token) (type : ValueType) → IsType ts type us → is_terminal_type type ≡ true → Finds IsTerminalType nothing ts type us
terminal_type_finds ts us type p h = let f = type_finds nothing ts us type p in record {
  taken = f.taken;
  parts = f.parts;
  phrase = λ vs. terminal_type (f.phrase vs) h;
  only = λ vs s y ws n. go f vs s y ws n;
}
  where
    go : (f : Finds IsType nothing ts type us) (vs : List Token) → SameHead us vs → (y : ValueType) (ws : List Token) → IsTerminalType (f.taken ++ vs) y ws → ((y ≡ type) × (ws ≡ vs)) ⊎ GoesOn nothing ws
    go f vs s y ws (terminal_type q k) = f.only vs s y ws q

terminal_type_stuck : (ts vs : List Token) → ((x : ValueType) (us : List Token) → IsType ts x us → IsTrue (is_terminal_type x) → ⊥) → SameHead ts vs → (y : ValueType) (ws : List Token) → IsTerminalType vs y ws → ⊥
terminal_type_stuck [] vs none s y ws (terminal_type (type_word e d) h) = s
terminal_type_stuck (t ∷ ts) vs none s y ws (terminal_type (type_word e d) h) = none y ts (type_word (ap (λ z. z.what) s ∙ e) d) h

pub terminal_type_completable : Completable IsTerminalType
terminal_type_completable = let t : Token = record { from = 0; to = 0; what = kind.Key key.Int } in (t ∷ [], ty.Int, (λ vs. terminal_type (type_word {word = key.Int} refl refl) refl))

pub terminal_type_refuses : (ts : List Token) → ((x : ValueType) (us : List Token) → IsType ts x us → IsTrue (is_terminal_type x) → ⊥) → Refuses IsTerminalType nothing ts ts
terminal_type_refuses ts none = let (more, x, whole) = terminal_type_completable in refuses_here IsTerminalType nothing ts more x whole (λ vs s y ws n. absurd (terminal_type_stuck ts vs none s y ws n))

pub not_terminal_type : (ts us : List Token) (type : ValueType) → IsType ts type us → is_terminal_type type ≡ false → (x : ValueType) (vs : List Token) → IsType ts x vs → IsTrue (is_terminal_type x) → ⊥
not_terminal_type ts us type p other x vs q h = let same : x ≡ type = type_unique ts us vs type x p q in cc

-- ---- SYNT and INH

pub side_synt : (ts us : List Token) (t : Token) → Keys key.Synt ts t us → Finds IsSide is_side ts (Some side.Synthesized) us
side_synt ts us t (token e) = record { taken = t ∷ []; parts = refl; phrase = λ vs. synt (token e); only = λ vs s y ws n. go vs y ws e n }
  where
    go : (vs : List Token) (y : Option Kind) (ws : List Token) → t.what ≡ kind.Key key.Synt → IsSide (t ∷ vs) y ws → ((y ≡ Some side.Synthesized) × (ws ≡ vs)) ⊎ GoesOn is_side ws
    go vs y ws e unsaid = inr (rw e refl)
    go vs y ws e (synt (token d)) = inl (refl, refl)
    go vs y ws e (inh (token d)) = cc

pub side_inh : (ts us : List Token) (t : Token) → Keys key.Inh ts t us → Finds IsSide is_side ts (Some side.Inherited) us
side_inh ts us t (token e) = record { taken = t ∷ []; parts = refl; phrase = λ vs. inh (token e); only = λ vs s y ws n. go vs y ws e n }
  where
    go : (vs : List Token) (y : Option Kind) (ws : List Token) → t.what ≡ kind.Key key.Inh → IsSide (t ∷ vs) y ws → ((y ≡ Some side.Inherited) × (ws ≡ vs)) ⊎ GoesOn is_side ws
    go vs y ws e unsaid = inr (rw e refl)
    go vs y ws e (inh (token d)) = inl (refl, refl)
    go vs y ws e (synt (token d)) = cc

pub side_unsaid : (ts : List Token) → ((t : Token) (us : List Token) → Keys key.Synt ts t us → ⊥) → ((t : Token) (us : List Token) → Keys key.Inh ts t us → ⊥) → Finds IsSide is_side ts None ts
side_unsaid ts no_synt no_inh = empty_finds IsSide is_side ts None (λ vs. unsaid) (λ vs s y ws n. go ts vs no_synt no_inh s y ws n)
  where
    go : (ts vs : List Token) → ((t : Token) (us : List Token) → Keys key.Synt ts t us → ⊥) → ((t : Token) (us : List Token) → Keys key.Inh ts t us → ⊥) → SameHead ts vs → (y : Option Kind) (ws : List Token)
        → IsSide vs y ws → ((y ≡ None) × (ws ≡ vs)) ⊎ GoesOn is_side ws
    go ts vs a b s y ws unsaid = inl (refl, refl)
    go [] vs a b s y ws (synt (token d)) = absurd s
    go (t ∷ ts) vs a b s y ws (synt (token d)) = absurd (a t ts (token (ap (λ z. z.what) s ∙ d)))
    go [] vs a b s y ws (inh (token d)) = absurd s
    go (t ∷ ts) vs a b s y ws (inh (token d)) = absurd (b t ts (token (ap (λ z. z.what) s ∙ d)))

-- ---- declarations

pub decl_begins : (ts : List Token) → Leads IsDecl is_side ts IsDecl is_side ts
decl_begins ts = leads_self IsDecl is_side ts

pub colon_completable : Completable (Signs sign.Colon)
colon_completable = sees_completable (kind.Sign sign.Colon)

pub semicolon_completable : Completable (Signs sign.Semicolon)
semicolon_completable = sees_completable (kind.Sign sign.Semicolon)

pub side_completable : Completable IsSide
side_completable = ([], None, (λ vs. unsaid))

-- a colon is no comma
pub colon_stops : {X Y : Type 0} (Rest : Y → Token → List Token → X → List Token → Type 0) (c : Token → Bool) → Stops is_comma c (λ names. Then (Signs sign.Colon) (Rest names))
colon_stops Rest c = seen_stops (kind.Sign sign.Colon) is_comma_kind refl Rest c

pub names_completable : Completable AreNames
names_completable = then_completable IsName (λ name. AreMore IsName (name ∷ [])) name_completable (λ name. ([], name ∷ [], (λ vs. end)))

pub decl_completable : Completable IsDecl
decl_completable = then_finish names_completable (λ names. then_finish colon_completable (λ colon. then_finish type_completable (λ type. then_finish side_completable (λ k. finish))))

-- a further declaration
pub further_begins : (found : List Decl) (ts : List Token) → Leads (IsFurtherDecl found) is_side ts (IsFurtherDecl found) is_side ts
further_begins found ts = leads_self (IsFurtherDecl found) is_side ts

further_starting : Starts is_comma IsFurtherDecl
further_starting y z ts us p = seen_goes (kind.Sign sign.Comma) is_comma_kind refl ts p.between p.value p.first

comma_apart : (k : TokenKind) → IsTrue (is_comma_kind k) → IsTrue (is_side_kind k) → ⊥
comma_apart (kind.Sign sign.Comma) h g = cc
comma_apart (kind.Sign _) h g = cc
comma_apart _ h g = cc

pub decl_steps : Steps IsFurtherDecl is_comma is_side continues_decls
decl_steps = record {
  starting = further_starting;
  continues = λ t h. or_right (is_side_kind t.what) (is_comma_kind t.what) h;
  apart = λ t. comma_apart t.what;
  wider = λ t h. or_left (is_side_kind t.what) (is_comma_kind t.what) h;
}

pub comma_only : (k : TokenKind) → IsTrue (is_comma_kind k) → k ≡ kind.Sign sign.Comma
comma_only (kind.Sign sign.Comma) h = refl
comma_only (kind.Sign _) h = cc
comma_only _ h = cc

pub decls_begin : (ts : List Token) → Leads AreDecls continues_decls ts AreDecls continues_decls ts
decls_begin ts = leads_self AreDecls continues_decls ts

pub decls_completable : Completable AreDecls
decls_completable = then_finish decl_completable (repeat_finish decl_steps)

-- ---- ATTR, TERM, CHAIN

-- a semicolon continues no declarations
pub semicolon_stops : {X Y : Type 0} (Rest : Y → Token → List Token → X → List Token → Type 0) (c : Token → Bool) → Stops continues_decls c (λ all. Then (Signs sign.Semicolon) (Rest all))
semicolon_stops Rest c = seen_stops (kind.Sign sign.Semicolon) (λ k. is_side_kind k || is_comma_kind k) refl Rest c

pub attr_begins : (ts : List Token) → Leads IsAttr nothing ts IsAttr nothing ts
attr_begins ts = leads_self IsAttr nothing ts

pub term_begins : (ts : List Token) → Leads IsTerm nothing ts IsTerm nothing ts
term_begins ts = leads_self IsTerm nothing ts

pub chain_begins : (ts : List Token) → Leads IsChain nothing ts IsChain nothing ts
chain_begins ts = leads_self IsChain nothing ts
