-- Two phrases at the same tokens are the same, where the next token continues neither of them.
use Rattle.std.proofs.Common.{◌≡◌, ℕ, ℤ, Bool, IsTrue, Option, Some, List, [], ◌∷◌, ◌++◌, refl, sym, ap, subst, ◌∙◌}
use Rattle.lido_base.specs.Reading.{GoesOn, nothing}
use Rattle.lido_base.specs.declared.ids.StrId.{StrId}
use Rattle.lido_base.specs.declared.value.ValueType.{ValueType}
use Rattle.lido_lexer.specs.Seen.{Sees, token, Signs}
use Rattle.lido_lexer.specs.declared.keyword.Keyword.{Keyword}
use Rattle.lido_lexer.specs.declared.sign.Sign.TheVariants as sign
use Rattle.lido_lexer.specs.declared.token.Token.{Token}
use Rattle.lido_lexer.specs.declared.token.TokenKind.{TokenKind}
use Rattle.lido_lexer.specs.declared.token.TokenKind.TheVariants as kind
use Rattle.lido_syntax.specs.declared.spec.Name.{Name}
use Rattle.lido_syntax.specs.declared.spec.Place.{Place}
use Rattle.lido_computations.specs.Phrases.{Done, Then, AreMore, end, comma, AreSeparated, is_comma, is_comma_kind, IsName, word, type_of, IsType, type_word}
use Rattle.lido_computations.specs.Places.{Optional, absent, present, AreListed, single, several, IsInt, int, IsContext, context}
use Rattle.lido_reader.specs.Items.{Repeats, end as no_step, next}
use Rattle.lido_computations.proofs.PhrasesLemmas.{Stops, never, IsWider, plain_apart, comma_is_comma, plain_wider}
use Rattle.lido_reader.proofs.PartsLemmas.{Steps, both, done, seen_stops, repeat_stops}

-- no token comes next that continues the phrase
abbrev pub Rests : (Token → Bool) → List Token → Type 0
Rests c us = GoesOn c us → ⊥

-- a phrase; where it rests, it is the only one at its tokens that does
pub record IsOnly {X : Type 0} (N : List Token → X → List Token → Type 0) (c : Token → Bool) (ts : List Token) (x : X) (us : List Token) : Type 0 where
  pub phrase : N ts x us
  pub only : Rests c us → (y : X) (vs : List Token) → N ts y vs → Rests c vs → (y ≡ x) × (vs ≡ us)

-- each of these phrases is
pub record IsSure {X : Type 0} (N : List Token → X → List Token → Type 0) (c : Token → Bool) : Type 0 where
  pub sure : (ts : List Token) (x : X) (us : List Token) → N ts x us → IsOnly N c ts x us

-- two phrases at the same tokens are the same, whatever follows
pub sure_of : {X : Type 0} {N : List Token → X → List Token → Type 0} {c : Token → Bool} → ((ts us vs : List Token) (x y : X) → N ts x us → N ts y vs → (y ≡ x) × (vs ≡ us)) → IsSure N c
sure_of same = record { sure = λ ts x us p. record { phrase = p; only = λ r y vs m q. same ts us vs x y p m } }

-- ---- how phrases are put together

pub done_sure : {X : Type 0} {c : Token → Bool} (x : X) → IsSure (Done x) c
done_sure x = sure_of (λ ts us vs y z d e. (e.same ∙ sym d.same, e.behind ∙ sym d.behind))

pub done_only : {X : Type 0} {c : Token → Bool} {x : X} {ts : List Token} → IsOnly (Done x) c ts x ts
done_only {x = x} {ts = ts} = (done_sure x).sure ts x ts done

pub then_only : {A X : Type 0} {First : List Token → A → List Token → Type 0} {Rest : A → List Token → X → List Token → Type 0} {goes c : Token → Bool} {ts us vs : List Token} {a : A} {x : X}
    → Stops goes c Rest → IsOnly First goes ts a us → IsOnly (Rest a) c us x vs → IsOnly (Then First Rest) c ts x vs
then_only {Rest = Rest} {us = us} {vs = vs} {a = a} {x = x} stops f r = record {
  phrase = both a us f.phrase r.phrase;
  only = λ rests y ws p more.
      let (e, b) = f.only (λ g. rests (stops a us vs x r.phrase g)) p.value p.between p.first (λ g. more (stops p.value p.between ws y p.rest g)) in
      r.only rests y ws (subst (λ z. Rest a z y ws) b (subst (λ z. Rest z p.between y ws) e p.rest)) more;
}

pub then_sure : {A X : Type 0} {First : List Token → A → List Token → Type 0} {Rest : A → List Token → X → List Token → Type 0} {goes c : Token → Bool}
    → Stops goes c Rest → IsSure First goes → ((a : A) → IsSure (Rest a) c) → IsSure (Then First Rest) c
then_sure stops f r = record { sure = λ ts x vs p. then_only stops (f.sure ts p.value p.between p.first) ((r p.value).sure p.between x vs p.rest) }

-- a first part that nothing continues
pub lead_only : {A X : Type 0} {First : List Token → A → List Token → Type 0} {Rest : A → List Token → X → List Token → Type 0} {c : Token → Bool} {ts us vs : List Token} {a : A} {x : X}
    → IsOnly First nothing ts a us → IsOnly (Rest a) c us x vs → IsOnly (Then First Rest) c ts x vs
lead_only {Rest = Rest} {c = c} f r = then_only (never c Rest) f r

pub lead_sure : {A X : Type 0} {First : List Token → A → List Token → Type 0} {Rest : A → List Token → X → List Token → Type 0} {c : Token → Bool}
    → IsSure First nothing → ((a : A) → IsSure (Rest a) c) → IsSure (Then First Rest) c
lead_sure {Rest = Rest} {c = c} f r = then_sure (never c Rest) f r

-- more tokens may be said to continue a phrase
pub wider_by : (c d : Token → Bool) → ((t : Token) → IsTrue (c t) → IsTrue (d t)) → IsWider c d
wider_by c d w [] h = h
wider_by c d w (t ∷ ts) h = w t h

pub wide_only : {X : Type 0} {N : List Token → X → List Token → Type 0} {c d : Token → Bool} {ts us : List Token} {x : X} → IsWider c d → IsOnly N c ts x us → IsOnly N d ts x us
wide_only {us = us} wider n = record { phrase = n.phrase; only = λ r y vs m q. n.only (λ g. r (wider us g)) y vs m (λ g. q (wider vs g)) }

pub wide_sure : {X : Type 0} {N : List Token → X → List Token → Type 0} {c d : Token → Bool} → IsWider c d → IsSure N c → IsSure N d
wide_sure wider n = record { sure = λ ts x us p. wide_only wider (n.sure ts x us p) }

-- what rests and is a phrase of N here, is one of M
pub only_by : {X : Type 0} {M N : List Token → X → List Token → Type 0} {c : Token → Bool} {ts ms us : List Token} {x : X}
    → N ts x us → ((y : X) (vs : List Token) → N ts y vs → Rests c vs → M ms y vs) → IsOnly M c ms x us → IsOnly N c ts x us
only_by p to m = record { phrase = p; only = λ r y vs n q. m.only r y vs (to y vs n q) q }

module _ {X : Type 0} {N : List Token → X → List Token → Type 0} {c : Token → Bool} (x : X) (starts : (ts : List Token) (y : X) (us : List Token) → N ts y us → GoesOn c ts) (n : IsSure N c) where
  absent_only : (y : X) (ts : List Token) → y ≡ x → Rests c ts → (z : X) (vs : List Token) → Optional N x ts z vs → (z ≡ y) × (vs ≡ ts)
  absent_only y ts e r z vs (absent d) = (d ∙ sym e, refl)
  absent_only y ts e r z vs (present p) = absurd (r (starts ts z vs p))

  present_only : (y : X) (ts us : List Token) → N ts y us → Rests c us → (z : X) (vs : List Token) → Optional N x ts z vs → Rests c vs → (z ≡ y) × (vs ≡ us)
  present_only y ts us p r z vs (absent d) q = absurd (q (starts ts y us p))
  present_only y ts us p r z vs (present m) q = (n.sure ts y us p).only r z vs m q

  optional_at : (ts : List Token) (y : X) (us : List Token) → Optional N x ts y us → IsOnly (Optional N x) c ts y us
  optional_at ts y us (absent e) = record { phrase = absent e; only = λ r z vs m q. absent_only y ts e r z vs m }
  optional_at ts y us (present p) = record { phrase = present p; only = λ r z vs m q. present_only y ts us p r z vs m q }

  -- a phrase that may be left out, and is known by its first token
  pub optional_sure : IsSure (Optional N x) c
  optional_sure = record { sure = optional_at }

-- ---- one token

pub sees_same : (k : TokenKind) (ts us vs : List Token) (x y : Token) → Sees k ts x us → Sees k ts y vs → (y ≡ x) × (vs ≡ us)
sees_same k ts us vs x y (token e) (token d) = (refl, refl)

pub sees_sure : {k : TokenKind} {c : Token → Bool} → IsSure (Sees k) c
sees_sure {k = k} = sure_of (sees_same k)

pub sees_only : {k : TokenKind} {c : Token → Bool} {ts us : List Token} {t : Token} → Sees k ts t us → IsOnly (Sees k) c ts t us
sees_only {ts = ts} {us = us} {t = t} s = sees_sure.sure ts t us s

-- two tokens that differ
pub sees_apart : (k j : TokenKind) (ts us vs : List Token) (t u : Token) → (k ≡ j → ⊥) → Sees k ts t us → Sees j ts u vs → ⊥
sees_apart k j ts us vs t u differ (token e) (token d) = differ (sym e ∙ d)

pub name_same : (ts us vs : List Token) (x y : Name) → IsName ts x us → IsName ts y vs → (y ≡ x) × (vs ≡ us)
name_same ts us vs x y (word {t = t} {id = id} e) (word {id = other} d) = let same : other ≡ id = cc in (ap (λ (k : StrId). record { at = t.from; id = k }) same, refl)

pub name_sure : {c : Token → Bool} → IsSure IsName c
name_sure = sure_of name_same

pub type_same : (ts us vs : List Token) (x y : ValueType) → IsType ts x us → IsType ts y vs → (y ≡ x) × (vs ≡ us)
type_same ts us vs x y (type_word {word = w} e d) (type_word {word = v} f g) = let same : v ≡ w = cc in let equal : Some y ≡ Some x = sym g ∙ ap type_of same ∙ d in (cc, refl)

pub type_sure : {c : Token → Bool} → IsSure IsType c
type_sure = sure_of type_same

int_same : (ts us vs : List Token) (x y : ℤ) → IsInt ts x us → IsInt ts y vs → (y ≡ x) × (vs ≡ us)
int_same ts us vs x y (int e) (int d) = (cc, refl)

pub int_sure : {c : Token → Bool} → IsSure IsInt c
int_sure = sure_of int_same

context_same : (words : Keyword → Option Place) (ts us vs : List Token) (x y : ℕ × Place) → IsContext words ts x us → IsContext words ts y vs → (y ≡ x) × (vs ≡ us)
context_same words ts us vs x y (context {t = t} {w = w} {p = p} e d) (context {w = v} {p = q} f g) =
    let same : v ≡ w = cc in let some : Some q ≡ Some p = sym g ∙ ap words same ∙ d in let equal : q ≡ p = cc in (ap (λ (z : Place). (t.from, z)) equal, refl)

pub context_sure : {words : Keyword → Option Place} {c : Token → Bool} → IsSure (IsContext words) c
context_sure {words = words} = sure_of (context_same words)

-- ---- lists with commas

module _ {X : Type 0} {One : List Token → X → List Token → Type 0} {goes c : Token → Bool} (one : IsSure One goes)
    (apart : (t : Token) → t.what ≡ kind.Sign sign.Comma → IsTrue (goes t) → ⊥) (commas : (t : Token) → t.what ≡ kind.Sign sign.Comma → IsTrue (c t)) (wider : IsWider goes c) where
  comma_goes : (ts us : List Token) (t : Token) → Signs sign.Comma ts t us → GoesOn c ts
  comma_goes ts us t (token e) = commas t e

  more_stops : (found : List X) (us vs : List Token) (all : List X) → AreMore One found us all vs → GoesOn goes us → GoesOn c vs
  more_stops found us vs all end h = wider us h
  more_stops found us vs all (comma (token e) p q) h = absurd (apart _ e h)

  abbrev Further : List X → List Token → List X → List Token → Type 0
  Further found = Then (Signs sign.Comma) (λ t. Then One (λ x. AreMore One (found ++ x ∷ [])))

  end_only : (found : List X) (ts : List Token) → Rests c ts → (z : List X) (vs : List Token) → AreMore One found ts z vs → (z ≡ found) × (vs ≡ ts)
  end_only found ts r z vs end = (refl, refl)
  end_only found ts r z vs (comma {us = us} {t = t} s p q) = absurd (r (comma_goes ts us t s))

  to_further : (found : List X) (ts us : List Token) (t : Token) → Signs sign.Comma ts t us → (z : List X) (vs : List Token) → AreMore One found ts z vs → Rests c vs → Further found ts z vs
  to_further found ts us t s z vs end q = absurd (q (comma_goes ts us t s))
  to_further found ts us t s z vs (comma a p m) q = both _ _ a (both _ _ p m)

  more_at : (found : List X) (ts : List Token) (all : List X) (us : List Token) → AreMore One found ts all us → IsOnly (AreMore One found) c ts all us
  more_at found ts all us end = record { phrase = end; only = λ r z vs m q. end_only found ts r z vs m }
  more_at found ts all ws (comma {x = x} {us = us} {vs = vs} {t = t} s p m) =
      let whole : IsOnly (Further found) c ts all ws = lead_only (sees_only s) (then_only (λ x. more_stops (found ++ x ∷ [])) (one.sure us x vs p) (more_at (found ++ x ∷ []) vs all ws m)) in
      only_by (comma s p m) (to_further found ts us t s) whole

  pub more_sure : (found : List X) → IsSure (AreMore One found) c
  more_sure found = record { sure = more_at found }

  pub separated_sure : IsSure (AreSeparated One) c
  separated_sure = then_sure (λ x. more_stops (x ∷ [])) one (λ x. more_sure (x ∷ []))

-- elements that nothing continues
pub plain_more_sure : {X : Type 0} {One : List Token → X → List Token → Type 0} → IsSure One nothing → (found : List X) → IsSure (AreMore One found) is_comma
plain_more_sure one found = more_sure one plain_apart comma_is_comma (plain_wider is_comma) found

pub plain_separated_sure : {X : Type 0} {One : List Token → X → List Token → Type 0} → IsSure One nothing → IsSure (AreSeparated One) is_comma
plain_separated_sure one = separated_sure one plain_apart comma_is_comma (plain_wider is_comma)

abbrev Several : {X : Type 0} → (List Token → X → List Token → Type 0) → List Token → List X → List Token → Type 0
Several One = Then (Signs sign.ParenOpen) (λ opening. Then (AreSeparated One) (λ found. Then (Signs sign.ParenClose) (λ closing. Done found)))

module _ {X : Type 0} {One : List Token → X → List Token → Type 0} (c : Token → Bool) (one : IsSure One nothing) (apart : (us vs ws : List Token) (x : X) (t : Token) → One us x vs → Signs sign.ParenOpen us t ws → ⊥) where
  several_sure : IsSure (Several One) c
  several_sure = lead_sure sees_sure (λ opening. then_sure (seen_stops (kind.Sign sign.ParenClose) is_comma_kind refl _ c) (plain_separated_sure one) (λ found. lead_sure sees_sure (λ closing. done_sure found)))

  single_only : (ts us : List Token) (x : X) → One ts x us → (z : List X) (vs : List Token) → AreListed One ts z vs → (z ≡ x ∷ []) × (vs ≡ us)
  single_only ts us x p z vs (single {x = y} m) = let (e, b) = (one.sure ts x us p).only (λ g. nowhere us g) y vs m (λ g. nowhere vs g) in (ap (λ (a : X). a ∷ []) e, b)
    where
      nowhere : (us : List Token) → GoesOn nothing us → ⊥
      nowhere [] g = g
      nowhere (u ∷ us) g = cc
  single_only ts us x p z vs (several m) = absurd (apart ts us m.between x m.value p m.first)

  to_several : (ts : List Token) (all : List X) (us : List Token) → Several One ts all us → (z : List X) (vs : List Token) → AreListed One ts z vs → Rests c vs → Several One ts z vs
  to_several ts all us p z vs (single {x = y} m) q = absurd (apart ts vs p.between y p.value m p.first)
  to_several ts all us p z vs (several m) q = m

  listed_at : (ts : List Token) (all : List X) (us : List Token) → AreListed One ts all us → IsOnly (AreListed One) c ts all us
  listed_at ts all us (single {x = x} p) = record { phrase = single p; only = λ r z vs m q. single_only ts us x p z vs m }
  listed_at ts all us (several p) = only_by (several p) (to_several ts all us p) (several_sure.sure ts all us p)

  pub listed_sure : IsSure (AreListed One) c
  listed_sure = record { sure = listed_at }

-- ---- steps one behind the other

module _ {Y : Type 0} {Step : Y → List Token → Y → List Token → Type 0} {starts goes c : Token → Bool} (s : Steps Step starts goes c) (step : (y : Y) → IsSure (Step y) goes) where
  step_goes : (y z : Y) (ts us : List Token) → Step y ts z us → GoesOn c ts
  step_goes y z ts us p = wider_by starts c s.continues ts (s.starting y z ts us p)

  ends_only : (y : Y) (ts : List Token) → Rests c ts → (z : Y) (vs : List Token) → Repeats Step y ts z vs → (z ≡ y) × (vs ≡ ts)
  ends_only y ts r z vs no_step = (refl, refl)
  ends_only y ts r z vs (next {more = m} {us = us} p q) = absurd (r (step_goes y m ts us p))

  to_next : (y m : Y) (ts us : List Token) → Step y ts m us → (z : Y) (vs : List Token) → Repeats Step y ts z vs → Rests c vs → Then (Step y) (Repeats Step) ts z vs
  to_next y m ts us p z vs no_step q = absurd (q (step_goes y m ts us p))
  to_next y m ts us p z vs (next a b) q = both _ _ a b

  repeats_at : (y : Y) (ts : List Token) (all : Y) (us : List Token) → Repeats Step y ts all us → IsOnly (Repeats Step y) c ts all us
  repeats_at y ts all us no_step = record { phrase = no_step; only = λ r z vs m q. ends_only y ts r z vs m }
  repeats_at y ts all vs (next {more = m} {us = us} p q) =
      let whole : IsOnly (Then (Step y) (Repeats Step)) c ts all vs = then_only (repeat_stops s) ((step y).sure ts m us p) (repeats_at m us all vs q) in
      only_by (next p q) (to_next y m ts us p) whole

  pub repeats_sure : (y : Y) → IsSure (Repeats Step y) c
  repeats_sure y = record { sure = repeats_at y }
