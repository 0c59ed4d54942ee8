-- How the readers of places and of remote attributes follow their parts.
use Rattle.std.specs.Prelude.{◌≡◌, ℕ, ℤ, pos, Bool, IsTrue, ◌⊎◌, List, [], ◌∷◌, refl, Option, Some, None}
use Rattle.std.proofs.Common.{sym, ◌∙◌, ap, subst, inl, inr}
use Rattle.lido_base.specs.Reading.{SameHead, GoesOn, Finds, Refuses, Leads, nothing}
use Rattle.lido_base.proofs.ReadingLemmas.{empty_finds, leads_on}
use Rattle.lido_lexer.specs.Seen.{Sees, token, Signs}
use Rattle.lido_lexer.specs.declared.keyword.Keyword.{Keyword}
use Rattle.lido_lexer.specs.declared.keyword.Keyword.TheVariants as key
use Rattle.lido_lexer.specs.declared.sign.Sign.TheVariants as sign
use Rattle.lido_lexer.specs.declared.token.Token.{Token}
use Rattle.lido_lexer.specs.declared.token.TokenKind.{TokenKind}
use Rattle.lido_lexer.specs.declared.token.TokenKind.TheVariants as kind
use Rattle.lido_syntax.specs.declared.spec.Name.{Name}
use Rattle.lido_syntax.specs.declared.spec.Pair.{Pair}
use Rattle.lido_syntax.specs.declared.spec.With.{With}
use Rattle.lido_syntax.specs.declared.spec.Cons.{Cons}
use Rattle.lido_syntax.specs.declared.spec.Place.{Place}
use Rattle.lido_syntax.specs.declared.spec.Place.TheVariants as place
use Rattle.lido_computations.specs.Phrases.{Done, Then, AreSeparated, AreMore, end, IsName, word, is_comma}
use Rattle.lido_computations.specs.Places.{Optional, absent, present, AreListed, single, several, IsInt, int, IsIndex, IsContext, context, IsPlace, named, by_word, IsPair, IsShield, IsWith, IsWithOf, is_bracket, is_option, is_shield, is_with}
use Rattle.lido_computations.proofs.PhrasesLemmas.{Completable, then_completable, done_completable, sees_completable, name_completable, Stops, never, past, chosen, one_finds, one_refuses, IsSaidByHead, IsNeverEmpty, sees_finds, IsWider, widens, plain_wider}

-- ---- one token

int_said : IsSaidByHead IsInt
int_said t us vs x (int e) = (refl, (λ ws. int e))

int_some : IsNeverEmpty IsInt
int_some vs x n = elim n [ ]

int_same : (t : Token) (us vs ws : List Token) (x y : ℤ) → IsInt (t ∷ us) x vs → IsInt (t ∷ us) y ws → y ≡ x
int_same t us vs ws x y (int e) (int d) = cc

pub int_completable : Completable IsInt
int_completable = let t : Token = record { from = 0; to = 0; what = kind.Int (pos 1) } in (t ∷ [], pos 1, (λ vs. int refl))

pub int_next : (ts us : List Token) (t : Token) (i : ℤ) → ts ≡ t ∷ us → t.what ≡ kind.Int i → IsInt ts i us
int_next ts us t i e d = subst (λ z. IsInt z i us) (sym e) (int d)

pub int_finds : (c : Token → Bool) (ts us : List Token) (i : ℤ) → IsInt ts i us → Finds IsInt c ts i us
int_finds c ts us i p = one_finds IsInt c int_said int_some int_same ts us i p

pub int_refuses : (c : Token → Bool) (ts : List Token) → ((i : ℤ) (us : List Token) → IsInt ts i us → ⊥) → Refuses IsInt c ts ts
int_refuses c ts none = one_refuses IsInt c int_said int_some int_completable ts none

module _ (words : Keyword → Option Place) where
  context_said : IsSaidByHead (IsContext words)
  context_said t us vs x (context e d) = (refl, (λ ws. context e d))

  context_some : IsNeverEmpty (IsContext words)
  context_some vs x n = elim n [ ]

  context_same : (t : Token) (us vs ws : List Token) (x y : ℕ × Place) → IsContext words (t ∷ us) x vs → IsContext words (t ∷ us) y ws → y ≡ x
  context_same t us vs ws x y (context {w = w} {p = p} e d) (context {w = v} {p = q} f g) =
      let same : v ≡ w = cc in let both : Some q ≡ Some p = sym g ∙ ap words same ∙ d in let equal : q ≡ p = cc in ap (λ z. (t.from, z)) equal

  pub context_next : (ts us : List Token) (t : Token) (w : Keyword) (p : Place) → ts ≡ t ∷ us → t.what ≡ kind.Key w → words w ≡ Some p → IsContext words ts (t.from, p) us
  context_next ts us t w p e d f = subst (λ z. IsContext words z (t.from, p) us) (sym e) (context d f)

  pub context_finds : (c : Token → Bool) (ts us : List Token) (x : ℕ × Place) → IsContext words ts x us → Finds (IsContext words) c ts x us
  context_finds c ts us x p = one_finds (IsContext words) c context_said context_some context_same ts us x p

-- ---- phrases that may be left out

-- the same token leads both
pub same_token : (k : TokenKind) (ts us vs : List Token) (t : Token) → SameHead ts us → Sees k us t vs → (ws : List Token) × Sees k ts t ws
same_token k [] us vs t s (token e) = absurd s
same_token k (u ∷ ts) us vs t s (token e) = (ts, subst (λ z. Sees k (z ∷ ts) t ts) (sym s) (token e))

pub goes_on : (k : TokenKind) (c : Token → Bool) → ((t : Token) → t.what ≡ k → IsTrue (c t)) → (ts ws us : List Token) (t : Token) → Sees k ts t ws → SameHead ts us → GoesOn c us
goes_on k c continues ts ws [] t (token e) s = absurd s
goes_on k c continues ts ws (u ∷ us) t (token e) s = continues u (ap (λ z. z.what) (sym s) ∙ e)

module _ {X : Type 0} (k : TokenKind) (Rest : Token → List Token → X → List Token → Type 0) (x : X) (c : Token → Bool) where
  abbrev Present : List Token → X → List Token → Type 0
  Present = Then (Sees k) Rest

  optional_from : (ts ws us vs : List Token) (t : Token) (y : X) → ((t : Token) → t.what ≡ k → IsTrue (c t)) → Sees k ts t ws → SameHead ts us → Optional Present x us y vs → Present us y vs ⊎ GoesOn c vs
  optional_from ts ws us vs t y continues n s (absent e) = inr (goes_on k c continues ts ws us t n s)
  optional_from ts ws us vs t y continues n s (present p) = inl p

  -- its first token comes next
  pub optional_leads : ((t : Token) → t.what ≡ k → IsTrue (c t)) → (ts us : List Token) (t : Token) → Sees k ts t us → Leads (Rest t) c us (Optional Present x) c ts
  optional_leads continues ts us t n = past (Sees k) nothing Rest (Optional Present x) c c (never c Rest) ts ts us t
      (chosen Present (Optional Present x) c ts (λ us vs y p. present p) (λ us vs y s p. optional_from ts _ us vs t y continues n s p)) (sees_finds k nothing ts us t n)

  -- or another
  pub optional_ends : (ts : List Token) → ((t : Token) (us : List Token) → Sees k ts t us → ⊥) → Finds (Optional Present x) c ts x ts
  optional_ends ts none = empty_finds (Optional Present x) c ts x (λ vs. absent refl) (λ vs s y ws q. go vs y ws s q)
    where
      go : (vs : List Token) (y : X) (ws : List Token) → SameHead ts vs → Optional Present x vs y ws → ((y ≡ x) × (ws ≡ vs)) ⊎ GoesOn c ws
      go vs y ws s (absent e) = inl (e, refl)
      go vs y ws s (present p) = let q = same_token k ts vs p.between p.value s p.first in absurd (none p.value q.0 q.1)

-- ---- one, or several in parentheses

module _ {X : Type 0} (One : List Token → X → List Token → Type 0) (c : Token → Bool) where
  abbrev Several : List Token → List X → List Token → Type 0
  Several = Then (Signs sign.ParenOpen) (λ opening. Then (AreSeparated One) (λ found. Then (Signs sign.ParenClose) (λ closing. Done found)))

  several_from : ((us vs ws : List Token) (x : X) (t : Token) → One us x vs → Signs sign.ParenOpen us t ws → ⊥) → (ts ws us vs : List Token) (t : Token) (all : List X) → Signs sign.ParenOpen ts t ws → SameHead us ts → AreListed One us all vs
      → Several us all vs ⊎ GoesOn c vs
  several_from apart ts ws us vs t all n s (single p) = let q = same_token (kind.Sign sign.ParenOpen) us ts ws t s n in absurd (apart us vs q.0 _ t p q.1)
  several_from apart ts ws us vs t all n s (several p) = inl p

  -- a parenthesis comes next
  pub several_leads : ((us vs ws : List Token) (x : X) (t : Token) → One us x vs → Signs sign.ParenOpen us t ws → ⊥) → (ts us : List Token) (t : Token) → Signs sign.ParenOpen ts t us
      → Leads (Then (AreSeparated One) (λ found. Then (Signs sign.ParenClose) (λ closing. Done found))) c us (AreListed One) c ts
  several_leads apart ts us t n = past (Signs sign.ParenOpen) nothing (λ opening. Then (AreSeparated One) (λ found. Then (Signs sign.ParenClose) (λ closing. Done found))) (AreListed One) c c
      (never c (λ opening. Then (AreSeparated One) (λ found. Then (Signs sign.ParenClose) (λ closing. Done found)))) ts ts us t
      (chosen Several (AreListed One) c ts (λ us vs all p. several p) (λ us vs all s p. several_from apart ts _ us vs t all n (turned ts us s) p)) (sees_finds (kind.Sign sign.ParenOpen) nothing ts us t n)
    where
      turned : (ts us : List Token) → SameHead ts us → SameHead us ts
      turned [] [] s = tt
      turned [] (u ∷ us) s = s
      turned (t ∷ ts) [] s = s
      turned (t ∷ ts) (u ∷ us) s = sym s

  single_from : (ts us vs : List Token) (all : List X) → ((t : Token) (ws : List Token) → Signs sign.ParenOpen ts t ws → ⊥) → SameHead ts us → AreListed One us all vs → Then One (λ x. Done (x ∷ [])) us all vs ⊎ GoesOn c vs
  single_from ts us vs all none s (single p) = inl (record { value = _; between = vs; first = p; rest = record { same = refl; behind = refl } })
  single_from ts us vs all none s (several p) = let q = same_token (kind.Sign sign.ParenOpen) ts us p.between p.value s p.first in absurd (none p.value q.0 q.1)

  single_to : (us vs : List Token) (all : List X) → Then One (λ x. Done (x ∷ [])) us all vs → AreListed One us all vs
  single_to us vs all p = subst (λ z. AreListed One us z vs) (sym p.rest.same) (subst (λ z. AreListed One us (p.value ∷ []) z) (sym p.rest.behind) (single p.first))

  -- or another token
  pub single_leads : (ts : List Token) → ((t : Token) (us : List Token) → Signs sign.ParenOpen ts t us → ⊥) → Leads (Then One (λ x. Done (x ∷ []))) c ts (AreListed One) c ts
  single_leads ts none = chosen (Then One (λ x. Done (x ∷ []))) (AreListed One) c ts single_to (λ us vs all s p. single_from ts us vs all none s p)

-- a name is no parenthesis
pub name_apart : (us vs ws : List Token) (x : Name) (t : Token) → IsName us x vs → Signs sign.ParenOpen us t ws → ⊥
name_apart us vs ws x t (word e) (token d) = cc

pub pair_apart : (us vs ws : List Token) (x : Pair) (t : Token) → IsPair us x vs → Signs sign.ParenOpen us t ws → ⊥
pair_apart us vs ws x t p n = name_apart us p.between ws p.value t p.first n

pub pair_completable : Completable IsPair
pair_completable = then_completable _ _ name_completable (λ s. then_completable _ _ (sees_completable (kind.Sign sign.Dot)) (λ dot. then_completable _ _ name_completable (λ a. done_completable _)))

pub listed_completable : {X : Type 0} (One : List Token → X → List Token → Type 0) → Completable One → Completable (AreListed One)
listed_completable One done = let (more, x, whole) = done in (more, x ∷ [], (λ vs. single (whole vs)))

pub optional_completable : {X : Type 0} (N : List Token → X → List Token → Type 0) (x : X) → Completable (Optional N x)
optional_completable N x = ([], x, (λ vs. absent refl))

-- ---- places

module _ (words : Keyword → Option Place) where
  abbrev Named : List Token → ℕ × Place → List Token → Type 0
  Named = Then IsName (λ n. Then IsIndex (λ i. Done (n.at, place.Named n i)))

  no_word : (ts us vs ws : List Token) (n : Name) (x : ℕ × Place) → IsContext words ts x ws → SameHead ts us → IsName us n vs → ⊥
  no_word ts us vs ws n x (context e d) s (word f) = let same = ap (λ z. z.what) s in cc

  same_context : (ts us vs : List Token) (x : ℕ × Place) → SameHead ts us → IsContext words us x vs → (ws : List Token) × IsContext words ts x ws
  same_context [] us vs x s (context e d) = absurd s
  same_context (t ∷ ts) us vs x s (context e d) = (ts, subst (λ z. IsContext words (z ∷ ts) x ts) (sym s) (context e d))

  context_from : (ts us vs ws : List Token) (x y : ℕ × Place) → IsContext words ts x ws → SameHead ts us → IsPlace words us y vs → IsContext words us y vs ⊎ GoesOn is_bracket vs
  context_from ts us vs ws x y n s (named p) = absurd (no_word ts us p.between ws p.value x n s p.first)
  context_from ts us vs ws x y n s (by_word p) = inl p

  -- a word of a place comes next
  pub word_finds : (ts us : List Token) (x : ℕ × Place) → IsContext words ts x us → Finds (IsPlace words) is_bracket ts x us
  word_finds ts us x n = (chosen (IsContext words) (IsPlace words) is_bracket ts (λ us vs y p. by_word p) (λ us vs y s p. context_from ts us vs _ x y n s p)).finds x us (context_finds words is_bracket ts us x n)

  named_from : (ts us vs : List Token) (y : ℕ × Place) → ((x : ℕ × Place) (ws : List Token) → IsContext words ts x ws → ⊥) → SameHead ts us → IsPlace words us y vs → Named us y vs ⊎ GoesOn is_bracket vs
  named_from ts us vs y none s (named p) = inl p
  named_from ts us vs y none s (by_word p) = let q = same_context ts us vs y s p in absurd (none y q.0 q.1)

  -- or none
  pub named_leads : (ts : List Token) → ((x : ℕ × Place) (us : List Token) → IsContext words ts x us → ⊥) → Leads Named is_bracket ts (IsPlace words) is_bracket ts
  named_leads ts none = chosen Named (IsPlace words) is_bracket ts (λ us vs y p. named p) (λ us vs y s p. named_from ts us vs y none s p)

pub index_completable : Completable IsIndex
index_completable = optional_completable _ None

-- ---- what continues

pub bracket_continues : (t : Token) → t.what ≡ kind.Sign sign.BracketOpen → IsTrue (is_bracket t)
bracket_continues t e = rw e refl

pub shield_continues : (t : Token) → t.what ≡ kind.Key key.Shield → IsTrue (is_shield t)
shield_continues t e = rw e refl

pub with_continues : (t : Token) → t.what ≡ kind.Key key.With → IsTrue (is_with t)
with_continues t e = rw e refl

shield_option : (k : TokenKind) (t : Token) → t.what ≡ k → IsTrue (is_shield t) → IsTrue (is_option t)
shield_option (kind.Key key.Shield) t e h = rw e refl
shield_option (kind.Key _) t e h = let no_shield = rw e at h in cc
shield_option _ t e h = let no_shield = rw e at h in cc

pub shield_wider : IsWider is_shield is_option
shield_wider [] h = h
shield_wider (u ∷ us) h = shield_option u.what u refl h

with_option : (k : TokenKind) (t : Token) → t.what ≡ k → IsTrue (is_with t) → IsTrue (is_option t)
with_option (kind.Key key.With) t e h = rw e refl
with_option (kind.Key _) t e h = let no_with = rw e at h in cc
with_option _ t e h = let no_with = rw e at h in cc

pub with_wider : IsWider is_with is_option
with_wider [] h = h
with_wider (u ∷ us) h = with_option u.what u refl h

pub sign_no_bracket : (t : Token) → t.what ≡ kind.Sign sign.Dot → IsTrue (is_bracket t) → ⊥
sign_no_bracket t e h = let no_bracket = rw e at h in cc

pub close_no_comma : (t : Token) → t.what ≡ kind.Sign sign.ParenClose → IsTrue (is_comma t) → ⊥
close_no_comma t e h = let no_comma = rw e at h in cc

with_no_shield : (us vs : List Token) (t : Token) → Sees (kind.Key key.With) us t vs → GoesOn is_shield us → ⊥
with_no_shield us vs t (token e) h = let no_shield = rw e at h in cc

with_goes : (us vs : List Token) (w : Option With) → IsWith us w vs → GoesOn is_shield us → vs ≡ us
with_goes us vs w (absent e) h = refl
with_goes us vs w (present p) h = absurd (with_no_shield us p.between p.value p.first h)

-- behind SHIELD or its want stands WITH or nothing
pub shield_stops : (f : List Name → Option With → Cons) → Stops is_shield is_option (λ shield. Then IsWith (λ with. Done (f shield with)))
shield_stops f a us vs x n h = subst (GoesOn is_option) (sym (n.rest.behind ∙ with_goes us n.between n.value n.first h)) (shield_wider us h)

-- ---- the parts that are led by a token

pub index_leads : (ts us : List Token) (t : Token) → Signs sign.BracketOpen ts t us → Leads (Then IsInt (λ i. Then (Signs sign.BracketClose) (λ closing. Done (Some i)))) is_bracket us IsIndex is_bracket ts
index_leads ts us t n = optional_leads (kind.Sign sign.BracketOpen) (λ opening. Then IsInt (λ i. Then (Signs sign.BracketClose) (λ closing. Done (Some i)))) None is_bracket bracket_continues ts us t n

pub index_ends : (ts : List Token) → ((t : Token) (us : List Token) → Signs sign.BracketOpen ts t us → ⊥) → Finds IsIndex is_bracket ts None ts
index_ends ts none = optional_ends (kind.Sign sign.BracketOpen) (λ opening. Then IsInt (λ i. Then (Signs sign.BracketClose) (λ closing. Done (Some i)))) None is_bracket ts none

pub shield_leads : (ts us : List Token) (t : Token) → Sees (kind.Key key.Shield) ts t us → Leads (AreListed IsName) nothing us IsShield is_shield ts
shield_leads ts us t n = leads_on (AreListed IsName) (AreListed IsName) IsShield nothing is_shield is_shield ts us us (widens (AreListed IsName) nothing is_shield us (plain_wider is_shield))
    (optional_leads (kind.Key key.Shield) (λ t. AreListed IsName) [] is_shield shield_continues ts us t n)

pub shield_ends : (ts : List Token) → ((t : Token) (us : List Token) → Sees (kind.Key key.Shield) ts t us → ⊥) → Finds IsShield is_shield ts [] ts
shield_ends ts none = optional_ends (kind.Key key.Shield) (λ t. AreListed IsName) [] is_shield ts none

pub with_leads : (ts us : List Token) (t : Token) → Sees (kind.Key key.With) ts t us → Leads IsWithOf nothing us IsWith is_with ts
with_leads ts us t n = leads_on IsWithOf IsWithOf IsWith nothing is_with is_with ts us us (widens IsWithOf nothing is_with us (plain_wider is_with))
    (optional_leads (kind.Key key.With) (λ t. IsWithOf) None is_with with_continues ts us t n)

pub with_ends : (ts : List Token) → ((t : Token) (us : List Token) → Sees (kind.Key key.With) ts t us → ⊥) → Finds IsWith is_with ts None ts
with_ends ts none = optional_ends (kind.Key key.With) (λ t. IsWithOf) None is_with ts none

pub separated_completable : {X : Type 0} (One : List Token → X → List Token → Type 0) → Completable One → Completable (AreSeparated One)
separated_completable One done = then_completable One (λ x. AreMore One (x ∷ [])) done (λ x. ([], x ∷ [], (λ vs. end)))
