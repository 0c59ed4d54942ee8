-- What it means that a reader, which looks one token ahead, reads a phrase of a language or refuses, and where the first error
-- of a text is: where its front stops to begin any text of the language (the valid prefix property of parsers).
-- A language says of some tokens, a value and the tokens that are left: these tokens begin with a phrase of that value, and that
-- is left. Tokens may be bytes. A finished phrase may be continued by some tokens only.
use Rattle.std.specs.Prelude.{◌≡◌, ℕ, ◌+◌, ◌<◌, ◌≤◌, take, length, Bool, false, IsTrue, ◌⊎◌, List, [], ◌∷◌, ◌++◌}

-- the same token follows, or nothing on both sides
abbrev pub SameHead : {T : Type 0} → List T → List T → Type 0
SameHead [] [] = Unit {0}
SameHead (t ∷ ts) (u ∷ us) = t ≡ u
SameHead _ _ = ⊥

-- a token comes next that continues the phrase
abbrev pub GoesOn : {T : Type 0} → (T → Bool) → List T → Type 0
GoesOn continues [] = ⊥
GoesOn continues (t ∷ ts) = IsTrue (continues t)

module _ {T X : Type 0} (N : List T → X → List T → Type 0) (continues : T → Bool) where
  -- The tokens begin with a phrase of this value, whatever follows; and as long as the next token is the same,
  -- it is their only phrase, but for shorter ones that the next token continues.
  pub record Finds (ts : List T) (x : X) (rest : List T) : Type 0 where
    pub taken : List T
    pub parts : ts ≡ taken ++ rest
    pub phrase : (vs : List T) → N (taken ++ vs) x vs
    pub only : (vs : List T) → SameHead rest vs → (y : X) (ws : List T) → N (taken ++ vs) y ws → ((y ≡ x) × (ws ≡ vs)) ⊎ GoesOn continues ws

  -- What stands before `bad` begins a phrase; with the token that comes next, or the end there, it begins none,
  -- but for shorter ones that the next token continues.
  pub record Refuses (ts bad : List T) : Type 0 where
    pub taken : List T
    pub parts : ts ≡ taken ++ bad
    pub more : List T
    pub value : X
    pub begins : (vs : List T) → N (taken ++ (more ++ vs)) value vs
    pub stuck : (vs : List T) → SameHead bad vs → (y : X) (ws : List T) → N (taken ++ vs) y ws → GoesOn continues ws

-- the tokens are the front of a list of the language
abbrev pub Begins : {T : Type 0} → (List T → Type 0) → List T → Type 0
Begins {T} L ts = (more : List T) × L (ts ++ more)

-- The first k tokens begin a list of the language, and the first k + 1 begin none. Where there are no more tokens,
-- they are no list of it themselves.
pub record IsFaultPlace {T : Type 0} (L : List T → Type 0) (ts : List T) (k : ℕ) : Type 0 where
  pub within : k ≤ length ts
  pub begins : Begins L (take k ts)
  pub next_fits_none : k < length ts → ¬ Begins L (take (k + 1) ts)
  pub end_fits_none : k ≡ length ts → ¬ L ts

-- Whatever is read, or refused, of M at `us` is so of N at `ts`: what is left to read of a phrase is N's, begun at `ts`.
pub record Leads {T X : Type 0} (M : List T → X → List T → Type 0) (c : T → Bool) (us : List T) (N : List T → X → List T → Type 0) (d : T → Bool) (ts : List T) : Type 0 where
  pub finds : (x : X) (rest : List T) → Finds M c us x rest → Finds N d ts x rest
  pub refuses : (bad : List T) → Refuses M c us bad → Refuses N d ts bad

-- no token continues a phrase
abbrev pub nothing : {T : Type 0} → T → Bool
nothing t = false
