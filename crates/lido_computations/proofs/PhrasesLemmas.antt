-- How a reader of a phrase follows the parts that it is made of.
use Rattle.std.specs.Prelude.{◌≡◌, ℕ, Bool, IsTrue, ◌⊎◌, List, [], ◌∷◌, ◌++◌, refl, Some, Result, Ok, Err}
use Rattle.std.specs.Borrow.{Bor}
use Rattle.std.proofs.Common.{sym, ◌∙◌, ap, subst, inl, inr, append_assoc}
use Rattle.lido_base.specs.Reading.{SameHead, GoesOn, Finds, Refuses, Leads, nothing}
use Rattle.lido_base.specs.declared.ids.StrId.{StrId}
use Rattle.lido_base.specs.declared.value.ValueType.{ValueType}
use Rattle.lido_base.specs.declared.value.ValueType.TheVariants as ty
use Rattle.lido_base.proofs.ReadingLemmas.{then_finds, then_refuses, first_refuses, empty_finds, refuses_here}
use Rattle.lido_lexer.specs.Seen.{Sees, token, Signs}
use Rattle.lido_lexer.specs.declared.keyword.Keyword.{Keyword}
use Rattle.lido_lexer.specs.declared.keyword.Keyword.TheVariants as key
use Rattle.lido_lexer.specs.declared.sign.Sign.TheVariants as sign
use Rattle.lido_lexer.specs.declared.token.Token.{Token}
use Rattle.lido_lexer.specs.declared.token.TokenKind.{TokenKind}
use Rattle.lido_lexer.specs.declared.token.TokenKind.TheVariants as kind
use Rattle.lido_syntax.specs.declared.spec.Name.{Name}
use Rattle.lido_computations.specs.declared.fault.ReadSpecFault.{ReadSpecFault}
use Rattle.lido_computations.specs.declared.fault.ReadSpecFault.TheVariants.{Syntax, Memory}
use Rattle.lido_computations.specs.Phrases.{Done, Then, AreMore, end, comma, AreSeparated, is_comma, is_comma_kind, IsName, word, type_of, IsType, type_word, RefusesAt, ReadsSeen}

-- ---- phrases that can be completed

-- some tokens are a phrase, whatever follows
abbrev pub Completable : {X : Type 0} → (List Token → X → List Token → Type 0) → Type 0
Completable {X} N = (more : List Token) × (x : X) × ((vs : List Token) → N (more ++ vs) x vs)

pub done_completable : {X : Type 0} (x : X) → Completable (Done x)
done_completable x = ([], x, (λ vs. record { same = refl; behind = refl }))

pub then_completable : {A X : Type 0} (First : List Token → A → List Token → Type 0) (Rest : A → List Token → X → List Token → Type 0)
    → Completable First → ((a : A) → Completable (Rest a)) → Completable (Then First Rest)
then_completable First Rest f r = let (more, a, first) = f in let (behind, x, rest) = r a in
    (more ++ behind, x, (λ vs. record { value = a; between = behind ++ vs; first = subst (λ z. First z a (behind ++ vs)) (sym (append_assoc more behind vs)) (first (behind ++ vs)); rest = rest vs }))

pub sees_completable : (k : TokenKind) → Completable (Sees k)
sees_completable k = let t : Token = record { from = 0; to = 0; what = k } in (t ∷ [], t, (λ vs. token refl))

no_text : StrId
no_text = record { 0 = 0 }

pub name_completable : Completable IsName
name_completable = let t : Token = record { from = 0; to = 0; what = kind.Word no_text } in (t ∷ [], record { at = t.from; id = no_text }, (λ vs. word refl))

pub type_completable : Completable IsType
type_completable = let t : Token = record { from = 0; to = 0; what = kind.Key key.Int } in (t ∷ [], ty.Int, (λ vs. type_word {word = key.Int} refl refl))

-- ---- one part after the other

-- What may stand behind is no token that continues the first part, unless it continues the whole.
abbrev pub Stops : {A X : Type 0} → (Token → Bool) → (Token → Bool) → (A → List Token → X → List Token → Type 0) → Type 0
Stops {A} {X} goes continues Rest = (a : A) (us vs : List Token) (x : X) → Rest a us x vs → GoesOn goes us → GoesOn continues vs

pub never : {A X : Type 0} (continues : Token → Bool) (Rest : A → List Token → X → List Token → Type 0) → Stops nothing continues Rest
never continues Rest a [] vs x r h = absurd h
never continues Rest a (u ∷ us) vs x r h = cc

pub leads_self : {X : Type 0} (N : List Token → X → List Token → Type 0) (continues : Token → Bool) (ts : List Token) → Leads N continues ts N continues ts
leads_self N continues ts = record { finds = λ x rest f. f; refuses = λ bad r. r }

module _ {A X : Type 0} (First : List Token → A → List Token → Type 0) (goes : Token → Bool) (Rest : A → List Token → X → List Token → Type 0)
    (N : List Token → X → List Token → Type 0) (c d : Token → Bool) (stops : Stops goes c Rest) where
  to : (ts us vs : List Token) (a : A) (x : X) → First ts a us → Rest a us x vs → Then First Rest ts x vs
  to ts us vs a x p q = record { value = a; between = us; first = p; rest = q }

  from : (ts vs : List Token) (x : X) → Then First Rest ts x vs → ((a : A) × (us : List Token) × First ts a us × Rest a us x vs) ⊎ GoesOn c vs
  from ts vs x n = inl (n.value, n.between, n.first, n.rest)

  -- the first part is found, and the rest leads to the whole
  pub past : (ts us vs : List Token) (a : A) → Leads (Then First Rest) c us N d ts → Finds First goes us a vs → Leads (Rest a) c vs N d ts
  past ts us vs a l f = record {
    finds = λ x rest g. l.finds x rest (then_finds (Then First Rest) c First goes Rest to from stops us vs rest a x f g);
    refuses = λ bad g. l.refuses bad (then_refuses (Then First Rest) c First goes Rest to from stops us vs bad a f g);
  }

  -- the first part is refused, and so is the whole
  pub fails : (ts us bad : List Token) → Leads (Then First Rest) c us N d ts → ((a : A) → Completable (Rest a)) → Refuses First goes us bad → Refuses N d ts bad
  fails ts us bad l done f = l.refuses bad (first_refuses (Then First Rest) c First goes Rest to from stops us bad done f)

-- nothing is left to read
pub ends : {X : Type 0} (x : X) (N : List Token → X → List Token → Type 0) (c d : Token → Bool) (ts us : List Token) → Leads (Done x) c us N d ts → Finds N d ts x us
ends x N c d ts us l = l.finds x us (empty_finds (Done x) c us x (λ vs. record { same = refl; behind = refl }) (λ vs s y ws q. inl (q.same, q.behind)))

-- ---- one of several phrases

pub same_start : (ts taken rest vs : List Token) → ts ≡ taken ++ rest → SameHead rest vs → SameHead ts (taken ++ vs)
same_start ts [] rest vs e s = subst (λ z. SameHead z vs) (sym e) s
same_start ts (t ∷ taken) rest vs e s = subst (λ z. SameHead z (t ∷ taken ++ vs)) (sym e) refl

-- Phrases of M are phrases of N, and where the next token is that of `ts`, N has no others.
pub chosen : {X : Type 0} (M N : List Token → X → List Token → Type 0) (c : Token → Bool) (ts : List Token) → ((us vs : List Token) (x : X) → M us x vs → N us x vs)
    → ((us vs : List Token) (x : X) → SameHead ts us → N us x vs → M us x vs ⊎ GoesOn c vs) → Leads M c ts N c ts
chosen {X} M N c ts to from = record {
  finds = λ x rest f. record {
    taken = f.taken;
    parts = f.parts;
    phrase = λ vs. to (f.taken ++ vs) vs x (f.phrase vs);
    only = λ vs s y ws n. found f vs s y ws (from (f.taken ++ vs) ws y (same_start ts f.taken rest vs f.parts s) n);
  };
  refuses = λ bad f. record {
    taken = f.taken;
    parts = f.parts;
    more = f.more;
    value = f.value;
    begins = λ vs. to (f.taken ++ (f.more ++ vs)) vs f.value (f.begins vs);
    stuck = λ vs s y ws n. refused f vs s y ws (from (f.taken ++ vs) ws y (same_start ts f.taken bad vs f.parts s) n);
  };
}
  where
    found : {x : X} {rest : List Token} (f : Finds M c ts x rest) (vs : List Token) → SameHead rest vs → (y : X) (ws : List Token) → M (f.taken ++ vs) y ws ⊎ GoesOn c ws → ((y ≡ x) × (ws ≡ vs)) ⊎ GoesOn c ws
    found f vs s y ws (inl m) = f.only vs s y ws m
    found f vs s y ws (inr h) = inr h

    refused : {bad : List Token} (f : Refuses M c ts bad) (vs : List Token) → SameHead bad vs → (y : X) (ws : List Token) → M (f.taken ++ vs) y ws ⊎ GoesOn c ws → GoesOn c ws
    refused f vs s y ws (inl m) = f.stuck vs s y ws m
    refused f vs s y ws (inr h) = h

-- ---- what a reader answers

pub refused_by : {A B : Type 0} (M : List Token → A → List Token → Type 0) (N : List Token → B → List Token → Type 0) (c d : Token → Bool) (text_end : ℕ) (us ts : List Token)
    → ((bad : List Token) → Refuses M c us bad → Refuses N d ts bad) → (f : ReadSpecFault) → RefusesAt M c text_end us f → RefusesAt N d text_end ts f
refused_by M N c d text_end us ts g (Syntax at) h = (h.0, g h.0 h.1, h.2)
refused_by M N c d text_end us ts g Memory h = tt

-- want of memory is no refusal
pub no_memory : {X : Type 0} (N : List Token → X → List Token → Type 0) (c : Token → Bool) (text_end : ℕ) (ts : List Token) (f : ReadSpecFault) → f ≡ Memory → RefusesAt N c text_end ts f
no_memory N c text_end ts f e = subst (RefusesAt N c text_end ts) (sym e) tt

-- ---- one token

-- whether tokens begin with such a phrase is said by the first of them
abbrev pub IsSaidByHead : {X : Type 0} → (List Token → X → List Token → Type 0) → Type 0
IsSaidByHead {X} N = (t : Token) (us vs : List Token) (x : X) → N (t ∷ us) x vs → (vs ≡ us) × ((ws : List Token) → N (t ∷ ws) x ws)

-- nothing begins with such a phrase at the end
abbrev pub IsNeverEmpty : {X : Type 0} → (List Token → X → List Token → Type 0) → Type 0
IsNeverEmpty {X} N = (vs : List Token) (x : X) → N [] x vs → ⊥

module _ {X : Type 0} (N : List Token → X → List Token → Type 0) (c : Token → Bool) (said : IsSaidByHead N) (some : IsNeverEmpty N) where
  -- the token is found
  pub one_finds : ((t : Token) (us vs ws : List Token) (x y : X) → N (t ∷ us) x vs → N (t ∷ us) y ws → y ≡ x) → (ts us : List Token) (x : X) → N ts x us → Finds N c ts x us
  one_finds same [] us x n = absurd (some us x n)
  one_finds same (t ∷ ts) us x n = let e : us ≡ ts = (said t ts us x n).0 in record {
    taken = t ∷ [];
    parts = ap (λ z. t ∷ z) (sym e);
    phrase = (said t ts us x n).1;
    only = λ vs s y ws m. let k = said t vs ws y m in inl (same t vs vs ws x y ((said t ts us x n).1 vs) m, k.0);
  }

  -- another token is refused
  pub one_refuses : Completable N → (ts : List Token) → ((x : X) (us : List Token) → N ts x us → ⊥) → Refuses N c ts ts
  one_refuses done ts none = let (more, x, whole) = done in refuses_here N c ts more x whole (λ vs s y ws n. absurd (go ts vs none s y ws n))
    where
      go : (ts vs : List Token) → ((x : X) (us : List Token) → N ts x us → ⊥) → SameHead ts vs → (y : X) (ws : List Token) → N vs y ws → ⊥
      go [] [] none s y ws n = some ws y n
      go [] (v ∷ vs) none s y ws n = s
      go (t ∷ ts) [] none s y ws n = s
      go (t ∷ ts) (v ∷ vs) none s y ws n = none y ts (subst (λ z. N (z ∷ ts) y ts) (sym s) ((said v vs ws y n).1 ts))

pub sees_said : (k : TokenKind) → IsSaidByHead (Sees k)
sees_said k t us vs x (token e) = (refl, (λ ws. token e))

pub sees_some : (k : TokenKind) → IsNeverEmpty (Sees k)
sees_some k vs x n = elim n [ ]

-- the next token, as code finds it
pub sees_next : (k : TokenKind) (ts us : List Token) (t : Token) → ts ≡ t ∷ us → t.what ≡ k → Sees k ts t us
sees_next k ts us t e d = subst (λ z. Sees k z t us) (sym e) (token d)

pub sees_other : (k : TokenKind) (ts us : List Token) (t : Token) → ts ≡ t ∷ us → (t.what ≡ k → ⊥) → (u : Token) (vs : List Token) → Sees k ts u vs → ⊥
sees_other k ts us t e other u vs n = go u ts vs e n
  where
    go : (u : Token) (ws vs : List Token) → ws ≡ t ∷ us → Sees k ws u vs → ⊥
    go u ws vs e (token d) = let same : t ≡ u = cc in other (ap (λ z. z.what) same ∙ d)

sees_same : (k : TokenKind) (t : Token) (us vs ws : List Token) (x y : Token) → Sees k (t ∷ us) x vs → Sees k (t ∷ us) y ws → y ≡ x
sees_same k t us vs ws x y (token e) (token d) = refl

pub sees_finds : (k : TokenKind) (c : Token → Bool) (ts us : List Token) (t : Token) → Sees k ts t us → Finds (Sees k) c ts t us
sees_finds k c ts us t n = one_finds (Sees k) c (sees_said k) (sees_some k) (sees_same k) ts us t n

pub sees_refuses : (k : TokenKind) (c : Token → Bool) (ts : List Token) → ((t : Token) (us : List Token) → Sees k ts t us → ⊥) → Refuses (Sees k) c ts ts
sees_refuses k c ts none = one_refuses (Sees k) c (sees_said k) (sees_some k) (sees_completable k) ts none

pub name_said : IsSaidByHead IsName
name_said t us vs x (word e) = (refl, (λ ws. word e))

pub name_some : IsNeverEmpty IsName
name_some vs x n = elim n [ ]

name_same : (t : Token) (us vs ws : List Token) (x y : Name) → IsName (t ∷ us) x vs → IsName (t ∷ us) y ws → y ≡ x
name_same t us vs ws x y (word {id = id} e) (word {id = other} d) = let same : other ≡ id = cc in ap (λ k. record { at = t.from; id = k }) same

pub name_finds : (c : Token → Bool) (ts us : List Token) (n : Name) → IsName ts n us → Finds IsName c ts n us
name_finds c ts us n p = one_finds IsName c name_said name_some name_same ts us n p

pub name_refuses : (c : Token → Bool) (ts : List Token) → ((n : Name) (us : List Token) → IsName ts n us → ⊥) → Refuses IsName c ts ts
name_refuses c ts none = one_refuses IsName c name_said name_some name_completable ts none

pub name_next : (ts us : List Token) (t : Token) (id : StrId) → ts ≡ t ∷ us → t.what ≡ kind.Word id → IsName ts (record { at = t.from; id = id }) us
name_next ts us t id e d = subst (λ z. IsName z (record { at = t.from; id = id }) us) (sym e) (word d)

pub type_next : (ts us : List Token) (t : Token) (w : Keyword) (type : ValueType) → ts ≡ t ∷ us → t.what ≡ kind.Key w → type_of w ≡ Some type → IsType ts type us
type_next ts us t w type e d f = subst (λ z. IsType z type us) (sym e) (type_word d f)

type_said : IsSaidByHead IsType
type_said t us vs x (type_word e d) = (refl, (λ ws. type_word e d))

type_some : IsNeverEmpty IsType
type_some vs x n = elim n [ ]

type_same : (t : Token) (us vs ws : List Token) (x y : ValueType) → IsType (t ∷ us) x vs → IsType (t ∷ us) y ws → y ≡ x
type_same t us vs ws x y (type_word {word = w} e d) (type_word {word = v} f g) = let same : v ≡ w = cc in let both : Some y ≡ Some x = sym g ∙ ap type_of same ∙ d in cc

pub type_finds : (c : Token → Bool) (ts us : List Token) (n : ValueType) → IsType ts n us → Finds IsType c ts n us
type_finds c ts us n p = one_finds IsType c type_said type_some type_same ts us n p

pub type_refuses : (c : Token → Bool) (ts : List Token) → ((n : ValueType) (us : List Token) → IsType ts n us → ⊥) → Refuses IsType c ts ts
type_refuses c ts none = one_refuses IsType c type_said type_some type_completable ts none

-- ---- lists with commas

is_comma-sign : (k : TokenKind) → IsTrue (is_comma_kind k) → k ≡ kind.Sign sign.Comma
is_comma-sign (kind.Sign sign.Comma) h = refl
is_comma-sign (kind.Sign _) h = cc
is_comma-sign _ h = cc

-- Elements that no comma continues.
module _ {X : Type 0} (One : List Token → X → List Token → Type 0) (goes c : Token → Bool)
    (apart : (t : Token) → t.what ≡ kind.Sign sign.Comma → IsTrue (goes t) → ⊥) (comma_continues : (t : Token) → t.what ≡ kind.Sign sign.Comma → IsTrue (c t))
    (wider : (us : List Token) → GoesOn goes us → GoesOn c us) where
  list_stops : (found : List X) (us vs : List Token) (all : List X) → AreMore One found us all vs → GoesOn goes us → GoesOn c vs
  list_stops found us vs all end h = wider us h
  list_stops found us vs all (comma (token e) p q) h = absurd (apart _ e h)

  -- the first element is found, or refused
  pub list_leads : (ts us : List Token) (x : X) → Finds One goes ts x us → Leads (AreMore One (x ∷ [])) c us (AreSeparated One) c ts
  list_leads ts us x f = past One goes (λ x. AreMore One (x ∷ [])) (AreSeparated One) c c (λ x. list_stops (x ∷ [])) ts ts us x (leads_self (AreSeparated One) c ts) f

  pub list_fails : (ts bad : List Token) → Refuses One goes ts bad → Refuses (AreSeparated One) c ts bad
  list_fails ts bad r = fails One goes (λ x. AreMore One (x ∷ [])) (AreSeparated One) c c (λ x. list_stops (x ∷ [])) ts ts bad (leads_self (AreSeparated One) c ts) (λ x. ([], x ∷ [], (λ vs. end))) r

  -- A comma, and one element more.
  abbrev Further : List X → List Token → List X → List Token → Type 0
  Further found = Then (Signs sign.Comma) (λ t. Then One (λ x. AreMore One (found ++ x ∷ [])))

  module _ (found : List X) where
    further_to : (us vs : List Token) (all : List X) → Further found us all vs → AreMore One found us all vs
    further_to us vs all f = comma f.first f.rest.first f.rest.rest

    further_from : (ts us vs : List Token) (all : List X) → (t : Token) (ws : List Token) → Signs sign.Comma ts t ws → SameHead ts us → AreMore One found us all vs → Further found us all vs ⊎ GoesOn c vs
    further_from ts [] vs all t ws (token e) s n = absurd s
    further_from ts (u ∷ us) vs all t ws (token e) s end = inr (comma_continues u (ap (λ z. z.what) (sym s) ∙ e))
    further_from ts (u ∷ us) vs all t ws n s (comma p q r) = inl (record { value = _; between = _; first = p; rest = record { value = _; between = _; first = q; rest = r } })

    further_leads : (ts ws : List Token) (t : Token) → Signs sign.Comma ts t ws → Leads (Then One (λ x. AreMore One (found ++ x ∷ []))) c ws (AreMore One found) c ts
    further_leads ts ws t n = past (Signs sign.Comma) nothing (λ t. Then One (λ x. AreMore One (found ++ x ∷ []))) (AreMore One found) c c (never c (λ t. Then One (λ x. AreMore One (found ++ x ∷ [])))) ts ts ws t
        (chosen (Further found) (AreMore One found) c ts further_to (λ us vs all s m. further_from ts us vs all t ws n s m)) (sees_finds (kind.Sign sign.Comma) nothing ts ws t n)

    -- behind a comma the next element is found, or refused
    pub more_leads : (ts ws vs : List Token) (t : Token) (x : X) → Signs sign.Comma ts t ws → Finds One goes ws x vs → Leads (AreMore One (found ++ x ∷ [])) c vs (AreMore One found) c ts
    more_leads ts ws vs t x n f = past One goes (λ x. AreMore One (found ++ x ∷ [])) (AreMore One found) c c (λ x. list_stops (found ++ x ∷ [])) ts ws vs x (further_leads ts ws t n) f

    pub more_fails : (ts ws bad : List Token) (t : Token) → Signs sign.Comma ts t ws → Refuses One goes ws bad → Refuses (AreMore One found) c ts bad
    more_fails ts ws bad t n r = fails One goes (λ x. AreMore One (found ++ x ∷ [])) (AreMore One found) c c (λ x. list_stops (found ++ x ∷ [])) ts ws bad (further_leads ts ws t n) (λ x. ([], found ++ x ∷ [], (λ vs. end))) r

    -- no comma comes next
    pub more_ends : (ts : List Token) → ((t : Token) (us : List Token) → Signs sign.Comma ts t us → ⊥) → Finds (AreMore One found) c ts found ts
    more_ends ts none = empty_finds (AreMore One found) c ts found (λ vs. end) (λ vs s y ws q. go ts vs none s y ws q)
      where
        go : (ts vs : List Token) → ((t : Token) (us : List Token) → Signs sign.Comma ts t us → ⊥) → SameHead ts vs → (y : List X) (ws : List Token) → AreMore One found vs y ws → ((y ≡ found) × (ws ≡ vs)) ⊎ GoesOn c ws
        go ts vs none s y ws end = inl (refl, refl)
        go [] (v ∷ vs) none s y ws (comma (token e) p q) = absurd s
        go [] [] none s y ws (comma x p q) = elim x [ ]
        go (t ∷ ts) [] none s y ws (comma x p q) = absurd s
        go (t ∷ ts) (v ∷ vs) none s y ws (comma (token e) p q) = absurd (none t ts (token (ap (λ z. z.what) s ∙ e)))

-- elements that nothing continues
pub plain_apart : (t : Token) → t.what ≡ kind.Sign sign.Comma → IsTrue (nothing t) → ⊥
plain_apart t e h = cc

pub comma_is_comma : (t : Token) → t.what ≡ kind.Sign sign.Comma → IsTrue (is_comma t)
comma_is_comma t e = rw e refl

pub plain_wider : (c : Token → Bool) (us : List Token) → GoesOn nothing us → GoesOn c us
plain_wider c [] h = h
plain_wider c (u ∷ us) h = cc

-- the first part is refused, and the reader answers the same
pub refused_first : {A X : Type 0} (First : List Token → A → List Token → Type 0) (goes : Token → Bool) (Rest : A → List Token → X → List Token → Type 0) (N : List Token → X → List Token → Type 0) (c d : Token → Bool)
    → Stops goes c Rest → (text_end : ℕ) (ts us : List Token) → Leads (Then First Rest) c us N d ts → ((a : A) → Completable (Rest a)) → (f : ReadSpecFault) → RefusesAt First goes text_end us f → RefusesAt N d text_end ts f
refused_first First goes Rest N c d stops text_end ts us l done f h = refused_by First N goes d text_end us ts (λ bad r. fails First goes Rest N c d stops ts us bad l done r) f h

-- ---- what continues a phrase

-- a set of tokens that continue a phrase may be taken wider
abbrev pub IsWider : (Token → Bool) → (Token → Bool) → Type 0
IsWider c d = (us : List Token) → GoesOn c us → GoesOn d us

pub widens : {X : Type 0} (N : List Token → X → List Token → Type 0) (c d : Token → Bool) (ts : List Token) → IsWider c d → Leads N c ts N d ts
widens {X} N c d ts wider = record {
  finds = λ x rest f. record { taken = f.taken; parts = f.parts; phrase = f.phrase; only = λ vs s y ws n. found x rest ws vs y (f.only vs s y ws n) };
  refuses = λ bad f. record { taken = f.taken; parts = f.parts; more = f.more; value = f.value; begins = f.begins; stuck = λ vs s y ws n. wider ws (f.stuck vs s y ws n) };
}
  where
    found : (x : X) (rest ws vs : List Token) (y : X) → ((y ≡ x) × (ws ≡ vs)) ⊎ GoesOn c ws → ((y ≡ x) × (ws ≡ vs)) ⊎ GoesOn d ws
    found x rest ws vs y (inl e) = inl e
    found x rest ws vs y (inr h) = inr (wider ws h)

pub same_wider : (c : Token → Bool) → IsWider c c
same_wider c us h = h

-- behind the last part anything may stand that may stand behind the whole
pub done_stops : {A X : Type 0} (goes c : Token → Bool) (f : A → X) → IsWider goes c → Stops goes c (λ a. Done (f a))
done_stops goes c f wider a us vs x d h = subst (GoesOn c) (sym d.behind) (wider us h)

pub sees_goes : (k : TokenKind) (goes : Token → Bool) → ((t : Token) → t.what ≡ k → IsTrue (goes t) → ⊥) → (us vs : List Token) (t : Token) → Sees k us t vs → GoesOn goes us → ⊥
sees_goes k goes differs us vs t (token e) h = differs t e h

-- a token comes next that does not continue the part before it
pub token_stops : {A X : Type 0} (k : TokenKind) (goes c : Token → Bool) (R : A → Token → List Token → X → List Token → Type 0) → ((t : Token) → t.what ≡ k → IsTrue (goes t) → ⊥) → Stops goes c (λ a. Then (Sees k) (R a))
token_stops k goes c R differs a us vs x n h = absurd (sees_goes k goes differs us n.between n.value n.first h)

-- what leads to a phrase, and how the reader answers it, as it is
pub reads_by : {Y Z : Type 0} (view : Y → Z) (M N : List Token → Z → List Token → Type 0) (c d : Token → Bool) (text_end : ℕ) (us ts : List Token) → Leads M c us N d ts
    → (r : Result (Y × Bor (List Token)) ReadSpecFault) → ReadsSeen view M c text_end us r → ReadsSeen view N d text_end ts r
reads_by view M N c d text_end us ts l (Ok x) h = l.finds (view x.0) x.1.now h
reads_by view M N c d text_end us ts l (Err f) h = refused_by M N c d text_end us ts l.refuses f h

-- the same tokens under another name
pub lead_at : {X : Type 0} {M N : List Token → X → List Token → Type 0} {c d : Token → Bool} {us vs ts : List Token} → ts ≡ vs → Leads M c us N d vs → Leads M c us N d ts
lead_at {M = M} {N = N} {c = c} {d = d} {us = us} e l = subst (λ z. Leads M c us N d z) (sym e) l

pub refuse_at : {X : Type 0} {N : List Token → X → List Token → Type 0} {c : Token → Bool} {vs ts : List Token} → ts ≡ vs → Refuses N c vs vs → Refuses N c ts ts
refuse_at {N = N} {c = c} e r = subst (λ z. Refuses N c z z) (sym e) r

pub find_at : {X : Type 0} {N : List Token → X → List Token → Type 0} {c : Token → Bool} {vs ts us : List Token} {x : X} → ts ≡ vs → Finds N c vs x us → Finds N c ts x us
find_at {N = N} {c = c} {us = us} {x = x} e f = subst (λ z. Finds N c z x us) (sym e) f

pub lead_there : {X : Type 0} {M N : List Token → X → List Token → Type 0} {c d : Token → Bool} {vs ts : List Token} → ts ≡ vs → Leads M c vs N d vs → Leads M c ts N d ts
lead_there {M = M} {N = N} {c = c} {d = d} e l = subst (λ z. Leads M c z N d z) (sym e) l
