-- A reader that is led from part to part, and where it may be stuck; steps one behind the other.
use Rattle.std.specs.Prelude.{◌≡◌, ℕ, Bool, true, false, IsTrue, ◌||◌, ◌⊎◌, List, [], ◌∷◌, refl, Result, Ok, Err}
use Rattle.std.specs.Borrow.{Bor}
use Rattle.std.proofs.Common.{sym, ap, subst, inl, inr, ◌∙◌}
use Rattle.lido_base.specs.Reading.{SameHead, GoesOn, Finds, Leads, nothing}
use Rattle.lido_base.proofs.ReadingLemmas.{empty_finds, leads_on}
use Rattle.lido_lexer.specs.Seen.{Sees, token}
use Rattle.lido_lexer.specs.declared.token.Token.{Token}
use Rattle.lido_lexer.specs.declared.token.TokenKind.{TokenKind}
use Rattle.lido_computations.specs.declared.fault.ReadSpecFault.{ReadSpecFault}
use Rattle.lido_computations.specs.Phrases.{Done, Then, RefusesAt, ReadsSeen}
use Rattle.lido_computations.specs.Places.{Optional, absent, present}
use Rattle.lido_reader.specs.Items.{Repeats, end, next}
use Rattle.lido_computations.proofs.PhrasesLemmas.{IsSaidByHead, IsNeverEmpty, Completable, done_completable, then_completable, Stops, never, past, fails, ends, chosen, refused_by}

-- ---- parts that can be completed, in short

pub finish : {X : Type 0} {x : X} → Completable (Done x)
finish {X} {x} = done_completable x

pub then_finish : {A X : Type 0} {First : List Token → A → List Token → Type 0} {Rest : A → List Token → X → List Token → Type 0}
    → Completable First → ((a : A) → Completable (Rest a)) → Completable (Then First Rest)
then_finish {A} {X} {First} {Rest} f r = then_completable First Rest f r

pub both : {A X : Type 0} {First : List Token → A → List Token → Type 0} {Rest : A → List Token → X → List Token → Type 0} {ts vs : List Token} {x : X} (a : A) (us : List Token)
    → First ts a us → Rest a us x vs → Then First Rest ts x vs
both a us p q = record { value = a; between = us; first = p; rest = q }

pub done : {X : Type 0} {x : X} {ts : List Token} → Done x ts x ts
done = record { same = refl; behind = refl }

-- what holds of a value and of what is left, holds where nothing more is read
pub at_done : {X : Type 0} (P : X → List Token → Type 0) {x y : X} {ts us : List Token} → Done x ts y us → P x ts → P y us
at_done P {x} {y} {ts} {us} d p = subst (λ z. P y z) (sym d.behind) (subst (λ z. P z ts) (sym d.same) p)

-- ---- from part to part

module _ {A X : Type 0} {First : List Token → A → List Token → Type 0} {Rest : A → List Token → X → List Token → Type 0} {N : List Token → X → List Token → Type 0} {c d : Token → Bool} {us ts : List Token} where
  -- a part is found that some tokens may continue, though what stands behind it does not begin with one
  pub go_past : {goes : Token → Bool} {vs : List Token} {a : A} → Stops goes c Rest → Leads (Then First Rest) c us N d ts → Finds First goes us a vs → Leads (Rest a) c vs N d ts
  go_past {goes} {vs} {a} stops l f = past First goes Rest N c d stops ts us vs a l f

  -- a part is found
  pub go_on : {vs : List Token} {a : A} → Leads (Then First Rest) c us N d ts → Finds First nothing us a vs → Leads (Rest a) c vs N d ts
  go_on {vs} {a} l f = past First nothing Rest N c d (never c Rest) ts us vs a l f

  -- the reader is stuck in a part that some tokens may continue
  pub stuck_in : (text_end : ℕ) {goes : Token → Bool} → Stops goes c Rest → Leads (Then First Rest) c us N d ts → ((a : A) → Completable (Rest a))
      → (fault : ReadSpecFault) → RefusesAt First goes text_end us fault → RefusesAt N d text_end ts fault
  stuck_in text_end {goes} stops l rest fault h = refused_by First N goes d text_end us ts (λ bad f. fails First goes Rest N c d stops ts us bad l rest f) fault h

  -- the reader is stuck in a part
  pub stuck_at : (text_end : ℕ) → Leads (Then First Rest) c us N d ts → ((a : A) → Completable (Rest a)) → (fault : ReadSpecFault) → RefusesAt First nothing text_end us fault → RefusesAt N d text_end ts fault
  stuck_at text_end l rest fault h = refused_by First N nothing d text_end us ts (λ bad f. fails First nothing Rest N c d (never c Rest) ts us bad l rest f) fault h

-- nothing is left to be read
pub read_whole : {X : Type 0} {N : List Token → X → List Token → Type 0} {c d : Token → Bool} {us ts : List Token} {x : X} → Leads (Done x) c us N d ts → Finds N d ts x us
read_whole {X} {N} {c} {d} {us} {ts} {x} l = ends x N c d ts us l

-- ---- phrases that more tokens may continue than need be

goes_wider : (c d : Token → Bool) → ((t : Token) → IsTrue (c t) → IsTrue (d t)) → (ts : List Token) → GoesOn c ts → GoesOn d ts
goes_wider c d w [] h = h
goes_wider c d w (t ∷ ts) h = w t h

module _ {X : Type 0} (N : List Token → X → List Token → Type 0) (c d : Token → Bool) (wider : (t : Token) → IsTrue (c t) → IsTrue (d t)) (ts : List Token) where
  pub widely : Leads N c ts N d ts
  widely = record {
    finds = λ x rest f. record { taken = f.taken; parts = f.parts; phrase = f.phrase; only = λ vs s y ws n. go ws (f.only vs s y ws n) };
    refuses = λ bad f. record { taken = f.taken; parts = f.parts; more = f.more; value = f.value; begins = f.begins; stuck = λ vs s y ws n. goes_wider c d wider ws (f.stuck vs s y ws n) };
  }
    where
      go : {A : Type 0} (ws : List Token) → A ⊎ GoesOn c ws → A ⊎ GoesOn d ws
      go ws (inl a) = inl a
      go ws (inr h) = inr (goes_wider c d wider ws h)

-- nothing continues a phrase: then more tokens may be said to
pub nothing_wider : (d : Token → Bool) (t : Token) → IsTrue (nothing t) → IsTrue (d t)
nothing_wider d t h = cc

-- Phrases of M are phrases of N, and N has no others.
pub begin : {X : Type 0} {M N : List Token → X → List Token → Type 0} {c : Token → Bool} {ts : List Token}
    → ((us vs : List Token) (x : X) → M us x vs → N us x vs) → ((us vs : List Token) (x : X) → N us x vs → M us x vs) → Leads M c ts N c ts
begin {X} {M} {N} {c} {ts} to from = chosen M N c ts to (λ us vs x s n. inl (from us vs x n))

-- ---- steps one behind the other

-- a step begins with such a token
abbrev pub Starts : {Y : Type 0} → (Token → Bool) → (Y → List Token → Y → List Token → Type 0) → Type 0
Starts {Y} starts Step = (y z : Y) (ts us : List Token) → Step y ts z us → GoesOn starts ts

pub goes_same : (c : Token → Bool) (ts us : List Token) → SameHead ts us → GoesOn c us → GoesOn c ts
goes_same c [] [] s h = h
goes_same c [] (u ∷ us) s h = absurd s
goes_same c (t ∷ ts) [] s h = absurd s
goes_same c (t ∷ ts) (u ∷ us) s h = subst (λ z. IsTrue (c z)) (sym s) h

pub goes_back : (c : Token → Bool) (ts us : List Token) → SameHead ts us → GoesOn c ts → GoesOn c us
goes_back c [] [] s h = h
goes_back c [] (u ∷ us) s h = absurd s
goes_back c (t ∷ ts) [] s h = absurd s
goes_back c (t ∷ ts) (u ∷ us) s h = subst (λ z. IsTrue (c z)) s h

-- Steps that begin with tokens of one kind, and may be continued by tokens of another; the steps one behind the other are continued by both.
pub record Steps {Y : Type 0} (Step : Y → List Token → Y → List Token → Type 0) (starts goes c : Token → Bool) : Type 0 where
  pub starting : Starts starts Step
  pub continues : (t : Token) → IsTrue (starts t) → IsTrue (c t)
  pub apart : (t : Token) → IsTrue (starts t) → IsTrue (goes t) → ⊥
  pub wider : (t : Token) → IsTrue (goes t) → IsTrue (c t)

module _ {Y : Type 0} {Step : Y → List Token → Y → List Token → Type 0} {starts goes c : Token → Bool} (s : Steps Step starts goes c) where
  abbrev One : Y → List Token → Y → List Token → Type 0
  One y = Then (Step y) (Repeats Step)

  one_to : (y : Y) (us vs : List Token) (x : Y) → One y us x vs → Repeats Step y us x vs
  one_to y us vs x p = next p.first p.rest

  one_from : (y : Y) (ts us vs : List Token) (x : Y) → GoesOn starts ts → SameHead ts us → Repeats Step y us x vs → One y us x vs ⊎ GoesOn c vs
  one_from y ts us vs x g h end = inr (goes_wider starts c s.continues us (goes_back starts ts us h g))
  one_from y ts us vs x g h (next p q) = inl (both _ _ p q)

  one_leads : (N : List Token → Y → List Token → Type 0) (d : Token → Bool) (y : Y) (us ts : List Token) → GoesOn starts us → Leads (Repeats Step y) c us N d ts → Leads (One y) c us N d ts
  one_leads N d y us ts g l = leads_on (One y) (Repeats Step y) N c c d ts us us (chosen (One y) (Repeats Step y) c us (one_to y) (λ ws vs x h n. one_from y us ws vs x g h n)) l

  both_goes : (ts : List Token) → GoesOn starts ts → GoesOn goes ts → ⊥
  both_goes [] h g = h
  both_goes (t ∷ ts) h g = s.apart t h g

  -- what continues a step is not taken for another one
  pub repeat_stops : Stops goes c (Repeats Step)
  repeat_stops y us vs x end h = goes_wider goes c s.wider us h
  repeat_stops y us vs x (next {more = m} {us = ms} p q) h = absurd (both_goes us (s.starting y m us ms p) h)

  pub repeat_finish : (y : Y) → Completable (Repeats Step y)
  repeat_finish y = ([], y, (λ vs. end))

  -- one more step is found
  pub repeat_found : {N : List Token → Y → List Token → Type 0} {d : Token → Bool} {y z : Y} {us vs ts : List Token}
      → GoesOn starts us → Leads (Repeats Step y) c us N d ts → Finds (Step y) goes us z vs → Leads (Repeats Step z) c vs N d ts
  repeat_found {N} {d} {y} {z} {us} {vs} {ts} g l f = past (Step y) goes (Repeats Step) N c d repeat_stops ts us vs z (one_leads N d y us ts g l) f

  -- the reader is stuck in a step
  pub repeat_stuck : (text_end : ℕ) {N : List Token → Y → List Token → Type 0} {d : Token → Bool} {y : Y} {us ts : List Token}
      → GoesOn starts us → Leads (Repeats Step y) c us N d ts → (fault : ReadSpecFault) → RefusesAt (Step y) goes text_end us fault → RefusesAt N d text_end ts fault
  repeat_stuck text_end {N} {d} {y} {us} {ts} g l fault h = stuck_in text_end repeat_stops (one_leads N d y us ts g l) repeat_finish fault h

  steps_end : (y : Y) (us : List Token) → (GoesOn starts us → ⊥) → Finds (Repeats Step y) c us y us
  steps_end y us stops = empty_finds (Repeats Step y) c us y (λ vs. end) (λ vs h z ws q. go y us vs stops h z ws q)
    where
      go : (y : Y) (us vs : List Token) → (GoesOn starts us → ⊥) → SameHead us vs → (z : Y) (ws : List Token) → Repeats Step y vs z ws → ((z ≡ y) × (ws ≡ vs)) ⊎ GoesOn c ws
      go y us vs stops h z ws end = inl (refl, refl)
      go y us vs stops h z ws (next {more = m} {us = ms} p q) = absurd (stops (goes_same starts us vs h (s.starting y m vs ms p)))

  -- no step comes next
  pub repeat_ends : {N : List Token → Y → List Token → Type 0} {d : Token → Bool} {y : Y} {us ts : List Token} → (GoesOn starts us → ⊥) → Leads (Repeats Step y) c us N d ts → Finds N d ts y us
  repeat_ends {N} {d} {y} {us} {ts} stops l = l.finds y us (steps_end y us stops)

-- nothing stands behind a phrase that some tokens may continue
pub done_stops : {A X : Type 0} (c : Token → Bool) (f : A → X) → Stops c c (λ a. Done (f a))
done_stops c f a us vs x d h = subst (GoesOn c) (sym d.behind) h

pub done_stops_wide : {A X : Type 0} (goes c : Token → Bool) → ((t : Token) → IsTrue (goes t) → IsTrue (c t)) → (f : A → X) → Stops goes c (λ a. Done (f a))
done_stops_wide goes c wider f a us vs x d h = subst (GoesOn c) (sym d.behind) (goes_wider goes c wider us h)

-- ---- what begins with one given token

-- a token that some tokens are not
pub sees_stops : {X : Type 0} {Rest : Token → List Token → X → List Token → Type 0} (k : TokenKind) (goes : TokenKind → Bool) → goes k ≡ false
    → (ts vs : List Token) (x : X) → Then (Sees k) Rest ts x vs → GoesOn (λ t. goes t.what) ts → ⊥
sees_stops {X} {Rest} k goes other ts vs x p h = go ts p.between p.value p.first h
  where
    go : (ts us : List Token) (t : Token) → Sees k ts t us → GoesOn (λ t. goes t.what) ts → ⊥
    go ts us t (token e) h = cc

pub seen_stops : {X Y : Type 0} (k : TokenKind) (goes : TokenKind → Bool) → goes k ≡ false → (Rest : Y → Token → List Token → X → List Token → Type 0) (c : Token → Bool)
    → Stops (λ t. goes t.what) c (λ a. Then (Sees k) (Rest a))
seen_stops k goes other Rest c a us vs x r h = absurd (sees_stops k goes other us vs x r h)

pub or_left : (a b : Bool) → IsTrue a → IsTrue (a || b)
or_left true b h = refl
or_left false b h = cc

pub or_right : (a b : Bool) → IsTrue b → IsTrue (a || b)
or_right true b h = refl
or_right false b h = h

-- the token that was looked at
pub seen_goes : (k : TokenKind) (goes : TokenKind → Bool) → goes k ≡ true → (ts us : List Token) (t : Token) → Sees k ts t us → GoesOn (λ t. goes t.what) ts
seen_goes k goes holds ts us t (token e) = ap goes e ∙ holds

-- no such token comes next
pub unseen_stops : (k : TokenKind) (goes : TokenKind → Bool) → ((other : TokenKind) → IsTrue (goes other) → other ≡ k) → (ts : List Token) → ((t : Token) (us : List Token) → Sees k ts t us → ⊥) → GoesOn (λ t. goes t.what) ts → ⊥
unseen_stops k goes only [] none h = h
unseen_stops k goes only (t ∷ ts) none h = none t ts (token (only t.what h))

-- ---- what the first token decides

-- tokens of the same first one begin with no other
pub seen_apart : (k j : TokenKind) → (k ≡ j → ⊥) → (ts us vs ws : List Token) (t u : Token) → Sees k ts t us → SameHead ts vs → Sees j vs u ws → ⊥
seen_apart k j differ ts us vs ws t u (token e) s (token d) = differ (sym e ∙ ap (λ z. z.what) s ∙ d)

-- where the token does not come next, neither does it in tokens of the same first one
pub unseen_head : {X : Type 0} (First : List Token → X → List Token → Type 0) → IsSaidByHead First → IsNeverEmpty First → (ts vs : List Token) → ((x : X) (us : List Token) → First ts x us → ⊥)
    → SameHead ts vs → (y : X) (ws : List Token) → First vs y ws → ⊥
unseen_head First said some [] [] none s y ws n = some ws y n
unseen_head First said some [] (v ∷ vs) none s y ws n = s
unseen_head First said some (t ∷ ts) [] none s y ws n = s
unseen_head First said some (t ∷ ts) (v ∷ vs) none s y ws n = none y ts (subst (λ z. First (z ∷ ts) y ts) (sym s) ((said v vs ws y n).1 ts))

-- A phrase that may be left out, and is there where the next token says so.
module _ {A X : Type 0} (First : List Token → A → List Token → Type 0) (Rest : A → List Token → X → List Token → Type 0) (x : X) (c : Token → Bool) where
  present_from : (ts us vs : List Token) (y : X) → GoesOn c ts → SameHead ts us → Optional (Then First Rest) x us y vs → Then First Rest us y vs ⊎ GoesOn c vs
  present_from ts us vs y g s (absent e) = inr (goes_back c ts us s g)
  present_from ts us vs y g s (present p) = inl p

  pub present_leads : (ts : List Token) → GoesOn c ts → Leads (Then First Rest) c ts (Optional (Then First Rest) x) c ts
  present_leads ts g = chosen (Then First Rest) (Optional (Then First Rest) x) c ts (λ us vs y p. present p) (λ us vs y s n. present_from ts us vs y g s n)

  pub absent_finds : IsSaidByHead First → IsNeverEmpty First → (ts : List Token) → ((a : A) (us : List Token) → First ts a us → ⊥) → Finds (Optional (Then First Rest) x) c ts x ts
  absent_finds said some ts none = empty_finds (Optional (Then First Rest) x) c ts x (λ vs. absent refl) (λ vs s y ws n. go vs s y ws n)
    where
      go : (vs : List Token) → SameHead ts vs → (y : X) (ws : List Token) → Optional (Then First Rest) x vs y ws → ((y ≡ x) × (ws ≡ vs)) ⊎ GoesOn c ws
      go vs s y ws (absent e) = inl (e, refl)
      go vs s y ws (present p) = absurd (unseen_head First said some ts vs none s p.value p.between p.first)

pub optional_completable : {X : Type 0} {N : List Token → X → List Token → Type 0} {x : X} → Completable (Optional N x)
optional_completable {X} {N} {x} = ([], x, (λ vs. absent refl))

-- what is read of one phrase is read of another that it leads to
pub reads_by : {X Y : Type 0} (view : X → Y) {M N : List Token → Y → List Token → Type 0} {c d : Token → Bool} {ts : List Token} (text_end : ℕ) → Leads M c ts N d ts
    → (result : Result (X × Bor (List Token)) ReadSpecFault) → ReadsSeen view M c text_end ts result → ReadsSeen view N d text_end ts result
reads_by view text_end l (Ok x) h = l.finds (view x.0) x.1.now h
reads_by view {M} {N} {c} {d} {ts} text_end l (Err fault) h = refused_by M N c d text_end ts ts (λ bad r. l.refuses bad r) fault h
