-- What tokens give, each at its place: lists in the order of the tokens, and lists whose elements they give in any order.
use Rattle.std.specs.List.{Contains}
use Rattle.std.proofs.Common.{◌≡◌, ◌⊎◌, inl, inr, ℕ, ◌+◌, ◌<◌, ◌≤◌, List, [], ◌∷◌, ◌++◌, length, sym, subst, arith}
use Rattle.std.proofs.lemmas.List.Elements.{Contains-append_left, Contains-append_right, Contains-append_cases}
use Rattle.lido_base.proofs.Lists.{contains-cons, contains-here, contains-later}
use Rattle.lido_lexer.specs.declared.token.Token.{Token}
use Rattle.lido_reader.proofs.NumbersLemmas.{Mark, Takes, Every, every, Apart, InOrder}
use Rattle.lido_reader.proofs.NumbersLemmas as marks
use Rattle.read_texts.proofs.ApartLemmas.{apart_both}

module _ {M : Type 0} (place : M → ℕ) where
  -- From some tokens to what is left of them these are given, in order: a token gives one that has its place, or nothing.
  pub data Gives : List Token → List M → List Token → Type 0 where
    nothing_left : {ts : List Token} → Gives ts [] ts
    passes : {t : Token} {ts us : List Token} {xs : List M} → Gives ts xs us → Gives (t ∷ ts) xs us
    gives : {t : Token} {ts us : List Token} {x : M} {xs : List M} → place x ≡ t.from → Gives ts xs us → Gives (t ∷ ts) (x ∷ xs) us

  -- These are given among others, in any order.
  pub record Covers (ts : List Token) (xs : List M) (us : List Token) : Type 0 where
    pub given : List M
    pub order : Gives ts given us
    pub all : (x : M) → Contains xs x → Contains given x

module _ {M : Type 0} {place : M → ℕ} where
  pub goes_on : {ts us vs : List Token} {xs ys : List M} → Gives place ts xs us → Gives place us ys vs → Gives place ts (xs ++ ys) vs
  goes_on nothing_left q = q
  goes_on (passes p) q = passes (goes_on p q)
  goes_on (gives e p) q = gives e (goes_on p q)

  -- nothing more is given
  pub ends : {ts us vs : List Token} {xs : List M} → Gives place ts xs us → Gives place us [] vs → Gives place ts xs vs
  ends nothing_left q = q
  ends (passes p) q = passes (ends p q)
  ends (gives e p) q = gives e (ends p q)

  -- what takes numbers and places may give nothing
  pub skips : {n m : ℕ} {ts us : List Token} {xs : List Mark} → Takes n ts xs m us → Gives place ts [] us
  skips marks.nothing_left = nothing_left
  skips (marks.passes p) = passes (skips p)
  skips (marks.takes p) = passes (skips p)
  skips (marks.notes p) = passes (skips p)

  -- what is given stands behind what stands in front of the tokens
  pub behind : {ts us : List Token} {xs : List M} (k : ℕ) → Gives place ts xs us → Every (λ (t : Token). k < t.from) ts → Every (λ x. k < place x) xs
  behind k nothing_left h = tt
  behind k (passes p) h = behind k p h.1
  behind k (gives e p) h = (subst (λ z. k < z) (sym e) h.0, behind k p h.1)

  pub ordered : {ts us : List Token} {xs : List M} → Gives place ts xs us → InOrder ts → Apart (λ x y. place x < place y) xs
  ordered nothing_left h = tt
  ordered (passes p) h = ordered p h.1
  ordered (gives {ts = ts} {x = x} e p) h = (behind (place x) p (subst (λ z. Every (λ (u : Token). z < u.from) ts) (sym e) h.0), ordered p h.1)

  -- each takes a token
  pub short : {ts us : List Token} {xs : List M} → Gives place ts xs us → length xs + length us ≤ length ts
  short nothing_left = omega arith
  short (passes p) = omega (arith, short p)
  short (gives e p) = omega (arith, short p)

  -- ---- in any order

  pub covers : {ts us : List Token} {xs : List M} → Gives place ts xs us → Covers place ts xs us
  covers {xs = xs} p = record { given = xs; order = p; all = λ x m. m }

  pub none : {ts : List Token} → Covers place ts [] ts
  none = covers nothing_left

  pub same : {ts us : List Token} {xs ys : List M} → xs ≡ ys → Covers place ts xs us → Covers place ts ys us
  same {ts} {us} e c = subst (λ z. Covers place ts z us) e c

  pub fewer : {ts us : List Token} {xs ys : List M} → ((x : M) → Contains ys x → Contains xs x) → Covers place ts xs us → Covers place ts ys us
  fewer f c = record { given = c.given; order = c.order; all = λ x m. c.all x (f x m) }

  pub then_skips : {ts us vs : List Token} {xs : List M} → Covers place ts xs us → Gives place us [] vs → Covers place ts xs vs
  then_skips c p = record { given = c.given; order = ends c.order p; all = c.all }

  pub skips_first : {ts us vs : List Token} {xs : List M} → Gives place ts [] us → Covers place us xs vs → Covers place ts xs vs
  skips_first p c = record { given = c.given; order = goes_on p c.order; all = c.all }

  pub gives_first : {t : Token} {us vs : List Token} {xs : List M} (x : M) → place x ≡ t.from → Covers place us xs vs → Covers place (t ∷ us) (x ∷ xs) vs
  gives_first {xs = xs} x e c = record { given = x ∷ c.given; order = gives e c.order; all = λ y m. by y (contains-cons x y xs m) }
    where
      by : (y : M) → (x ≡ y) ⊎ Contains xs y → Contains (x ∷ c.given) y
      by y (inl e) = subst (Contains (x ∷ c.given)) e (contains-here x c.given)
      by y (inr k) = contains-later x y c.given (c.all y k)

  pub also : {ts us vs : List Token} {xs ys : List M} → Covers place ts xs us → Covers place us ys vs → Covers place ts (xs ++ ys) vs
  also {xs = xs} {ys = ys} c d = record { given = c.given ++ d.given; order = goes_on c.order d.order; all = λ x m. by x (Contains-append_cases xs ys x m) }
    where
      by : (x : M) → Contains xs x ⊎ Contains ys x → Contains (c.given ++ d.given) x
      by x (inl k) = Contains-append_left c.given d.given x (c.all x k)
      by x (inr k) = Contains-append_right c.given d.given x (d.all x k)

  -- one place has one of them
  pub one_each : {ts us : List Token} {xs : List M} → Covers place ts xs us → InOrder ts → (x y : M) → Contains xs x → Contains xs y → place x ≡ place y → x ≡ y
  one_each c h x y m k e = by (apart_both (λ a b. place a ≡ place b → ⊥) (λ a b f d. f (sym d)) c.given x y (weaker c.given (ordered c.order h)) (c.all x m) (c.all y k))
    where
      weaker : (xs : List M) → Apart (λ a b. place a < place b) xs → Apart (λ a b. place a ≡ place b → ⊥) xs
      weaker [] a = tt
      weaker (z ∷ zs) a = (every (λ b. place z < place b) (λ b. place z ≡ place b → ⊥) zs (λ b l d. omega (arith, l, d)) a.0, weaker zs a.1)

      by : (x ≡ y) ⊎ (place x ≡ place y → ⊥) → x ≡ y
      by (inl d) = d
      by (inr f) = absurd (f e)

-- the same elements, where two lists change their places
pub turned_round : {X : Type 0} (xs ys zs : List X) (x : X) → Contains ((xs ++ zs) ++ ys) x → Contains ((xs ++ ys) ++ zs) x
turned_round xs ys zs x m = outer (Contains-append_cases (xs ++ zs) ys x m)
  where
    inner : Contains xs x ⊎ Contains zs x → Contains ((xs ++ ys) ++ zs) x
    inner (inl k) = Contains-append_left (xs ++ ys) zs x (Contains-append_left xs ys x k)
    inner (inr k) = Contains-append_right (xs ++ ys) zs x k

    outer : Contains (xs ++ zs) x ⊎ Contains ys x → Contains ((xs ++ ys) ++ zs) x
    outer (inl k) = inner (Contains-append_cases xs zs x k)
    outer (inr k) = Contains-append_left (xs ++ ys) zs x (Contains-append_right xs ys x k)

-- the first of a list may stand between its parts
pub moved_in : {X : Type 0} (y : X) (xs zs : List X) (x : X) → Contains (y ∷ (xs ++ zs)) x → Contains (xs ++ (y ∷ zs)) x
moved_in y xs zs x m = outer (contains-cons y x (xs ++ zs) m)
  where
    inner : Contains xs x ⊎ Contains zs x → Contains (xs ++ (y ∷ zs)) x
    inner (inl k) = Contains-append_left xs (y ∷ zs) x k
    inner (inr k) = Contains-append_right xs (y ∷ zs) x (contains-later y x zs k)

    outer : (y ≡ x) ⊎ Contains (xs ++ zs) x → Contains (xs ++ (y ∷ zs)) x
    outer (inl e) = Contains-append_right xs (y ∷ zs) x (subst (Contains (y ∷ zs)) e (contains-here y zs))
    outer (inr k) = inner (Contains-append_cases xs zs x k)
