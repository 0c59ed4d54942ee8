-- How a reader of a phrase is made of readers of its parts.
use Rattle.std.specs.Prelude.{◌≡◌, Bool, ◌⊎◌, List, [], ◌∷◌, ◌++◌, refl}
use Rattle.std.proofs.Common.{sym, ◌∙◌, ap, subst, inl, inr, append_assoc, append-nil, ◌+◌, ◌<◌, take, length, length-append, add-one, arith}
use Rattle.lido_base.specs.Reading.{SameHead, GoesOn, Finds, Refuses, Begins, IsFaultPlace, Leads, nothing}

same_after : {T : Type 0} (front rest vs : List T) → SameHead rest vs → SameHead (front ++ rest) (front ++ vs)
same_after [] rest vs s = s
same_after (t ∷ front) rest vs s = refl

-- A phrase of N is a phrase of First and one of what may stand after it, unless its next token continues it.
module _ {T A X : Type 0} (N : List T → X → List T → Type 0) (continues : T → Bool)
    (First : List T → A → List T → Type 0) (goes : T → Bool) (Rest : A → List T → X → List T → Type 0)
    (to : (ts us vs : List T) (a : A) (x : X) → First ts a us → Rest a us x vs → N ts x vs)
    (from : (ts vs : List T) (x : X) → N ts x vs → ((a : A) × (us : List T) × First ts a us × Rest a us x vs) ⊎ GoesOn continues vs)
    (follows : (a : A) (us vs : List T) (x : X) → Rest a us x vs → GoesOn goes us → GoesOn continues vs) where
  Split : List T → X → List T → Type 0
  Split ts x vs = ((a : A) × (us : List T) × First ts a us × Rest a us x vs) ⊎ GoesOn continues vs

  pub then_finds : (ts us vs : List T) (a : A) (x : X) → Finds First goes ts a us → Finds (Rest a) continues us x vs → Finds N continues ts x vs
  then_finds ts us vs a x f g = record {
    taken = f.taken ++ g.taken;
    parts = f.parts ∙ ap (λ z. f.taken ++ z) g.parts ∙ sym (append_assoc f.taken g.taken vs);
    phrase = λ ws. subst (λ z. N z x ws) (sym (append_assoc f.taken g.taken ws)) (to _ (g.taken ++ ws) ws a x (f.phrase (g.taken ++ ws)) (g.phrase ws));
    only = λ ws s y zs n. at_split ws s y zs (from _ zs y (subst (λ z. N z y zs) (append_assoc f.taken g.taken ws) n));
  }
    where
      at_split : (ws : List T) → SameHead vs ws → (y : X) (zs : List T) → ((b : A) × (ms : List T) × First (f.taken ++ (g.taken ++ ws)) b ms × Rest b ms y zs) ⊎ GoesOn continues zs
          → ((y ≡ x) × (zs ≡ ws)) ⊎ GoesOn continues zs
      at_split ws s y zs (inr more) = inr more
      at_split ws s y zs (inl (b, ms, p, q)) = at_first (f.only (g.taken ++ ws) (subst (λ z. SameHead z (g.taken ++ ws)) (sym g.parts) (same_after g.taken vs ws s)) b ms p)
        where
          at_first : ((b ≡ a) × (ms ≡ g.taken ++ ws)) ⊎ GoesOn goes ms → ((y ≡ x) × (zs ≡ ws)) ⊎ GoesOn continues zs
          at_first (inl (e, d)) = g.only ws s y zs (subst (λ z. Rest a z y zs) d (subst (λ z. Rest z ms y zs) e q))
          at_first (inr more) = inr (follows b ms zs y q more)

  pub then_refuses : (ts us bad : List T) (a : A) → Finds First goes ts a us → Refuses (Rest a) continues us bad → Refuses N continues ts bad
  then_refuses ts us bad a f g = record {
    taken = f.taken ++ g.taken;
    parts = f.parts ∙ ap (λ z. f.taken ++ z) g.parts ∙ sym (append_assoc f.taken g.taken bad);
    more = g.more;
    value = g.value;
    begins = λ ws. subst (λ z. N z g.value ws) (sym (append_assoc f.taken g.taken (g.more ++ ws))) (to _ (g.taken ++ (g.more ++ ws)) ws a g.value (f.phrase (g.taken ++ (g.more ++ ws))) (g.begins ws));
    stuck = λ ws s y zs n. at_split ws s y zs (from _ zs y (subst (λ z. N z y zs) (append_assoc f.taken g.taken ws) n));
  }
    where
      at_split : (ws : List T) → SameHead bad ws → (y : X) (zs : List T) → ((b : A) × (ms : List T) × First (f.taken ++ (g.taken ++ ws)) b ms × Rest b ms y zs) ⊎ GoesOn continues zs
          → GoesOn continues zs
      at_split ws s y zs (inr more) = more
      at_split ws s y zs (inl (b, ms, p, q)) = at_first (f.only (g.taken ++ ws) (subst (λ z. SameHead z (g.taken ++ ws)) (sym g.parts) (same_after g.taken bad ws s)) b ms p)
        where
          at_first : ((b ≡ a) × (ms ≡ g.taken ++ ws)) ⊎ GoesOn goes ms → GoesOn continues zs
          at_first (inl (e, d)) = g.stuck ws s y zs (subst (λ z. Rest a z y zs) d (subst (λ z. Rest z ms y zs) e q))
          at_first (inr more) = follows b ms zs y q more

  -- what may stand after the first part can always be completed
  pub first_refuses : (ts bad : List T) → ((a : A) → (more : List T) × (x : X) × ((vs : List T) → Rest a (more ++ vs) x vs)) → Refuses First goes ts bad → Refuses N continues ts bad
  first_refuses ts bad finish f = let (more, x, done) = finish f.value in record {
    taken = f.taken;
    parts = f.parts;
    more = f.more ++ more;
    value = x;
    begins = λ ws. subst (λ z. N (f.taken ++ z) x ws) (sym (append_assoc f.more more ws)) (to _ (more ++ ws) ws f.value x (f.begins (more ++ ws)) (done ws));
    stuck = λ ws s y zs n. at_split ws s y zs (from _ zs y n);
  }
    where
      at_split : (ws : List T) → SameHead bad ws → (y : X) (zs : List T) → ((b : A) × (ms : List T) × First (f.taken ++ ws) b ms × Rest b ms y zs) ⊎ GoesOn continues zs → GoesOn continues zs
      at_split ws s y zs (inr more) = more
      at_split ws s y zs (inl (b, ms, p, q)) = follows b ms zs y q (f.stuck ws s b ms p)

-- A phrase of N that begins with the token t is t and one of what may stand after it.
module _ {T X : Type 0} (N : List T → X → List T → Type 0) (continues : T → Bool) (t : T) (Rest : List T → X → List T → Type 0)
    (to : (us vs : List T) (x : X) → Rest us x vs → N (t ∷ us) x vs)
    (from : (us vs : List T) (x : X) → N (t ∷ us) x vs → Rest us x vs ⊎ GoesOn continues vs) where
  pub led_finds : (us vs : List T) (x : X) → Finds Rest continues us x vs → Finds N continues (t ∷ us) x vs
  led_finds us vs x g = record {
    taken = t ∷ g.taken;
    parts = ap (λ z. t ∷ z) g.parts;
    phrase = λ ws. to (g.taken ++ ws) ws x (g.phrase ws);
    only = λ ws s y zs n. go ws s y zs (from (g.taken ++ ws) zs y n);
  }
    where
      go : (ws : List T) → SameHead vs ws → (y : X) (zs : List T) → Rest (g.taken ++ ws) y zs ⊎ GoesOn continues zs → ((y ≡ x) × (zs ≡ ws)) ⊎ GoesOn continues zs
      go ws s y zs (inl r) = g.only ws s y zs r
      go ws s y zs (inr more) = inr more

  pub led_refuses : (us bad : List T) → Refuses Rest continues us bad → Refuses N continues (t ∷ us) bad
  led_refuses us bad g = record {
    taken = t ∷ g.taken;
    parts = ap (λ z. t ∷ z) g.parts;
    more = g.more;
    value = g.value;
    begins = λ ws. to (g.taken ++ (g.more ++ ws)) ws g.value (g.begins ws);
    stuck = λ ws s y zs n. go ws s y zs (from (g.taken ++ ws) zs y n);
  }
    where
      go : (ws : List T) → SameHead bad ws → (y : X) (zs : List T) → Rest (g.taken ++ ws) y zs ⊎ GoesOn continues zs → GoesOn continues zs
      go ws s y zs (inl r) = g.stuck ws s y zs r
      go ws s y zs (inr more) = more

-- nothing is taken: the empty phrase, or a refusal at once
pub empty_finds : {T X : Type 0} (N : List T → X → List T → Type 0) (continues : T → Bool) (ts : List T) (x : X) → ((vs : List T) → N vs x vs)
    → ((vs : List T) → SameHead ts vs → (y : X) (ws : List T) → N vs y ws → ((y ≡ x) × (ws ≡ vs)) ⊎ GoesOn continues ws) → Finds N continues ts x ts
empty_finds N continues ts x phrase only = record { taken = []; parts = refl; phrase = phrase; only = only }

pub refuses_here : {T X : Type 0} (N : List T → X → List T → Type 0) (continues : T → Bool) (ts more : List T) (x : X) → ((vs : List T) → N (more ++ vs) x vs)
    → ((vs : List T) → SameHead ts vs → (y : X) (ws : List T) → N vs y ws → GoesOn continues ws) → Refuses N continues ts ts
refuses_here N continues ts more x begins stuck = record { taken = []; parts = refl; more = more; value = x; begins = begins; stuck = stuck }

take_front : {T : Type 0} (front rest : List T) → take (length front) (front ++ rest) ≡ front
take_front [] rest = refl
take_front (t ∷ front) rest = ap (λ z. t ∷ z) (take_front front rest)

take_one_more : {T : Type 0} (front rest : List T) (t : T) → take (length front + 1) (front ++ t ∷ rest) ≡ front ++ t ∷ []
take_one_more [] rest t = refl
take_one_more (u ∷ front) rest t = rw add-one (ap (λ z. u ∷ z) (rw add-one at (take_one_more front rest t)))

-- What stands before `bad` begins a list of the language, and with the next token it begins none.
module _ {T : Type 0} (L : List T → Type 0) (taken bad : List T) (begins : Begins L taken)
    (stuck : (vs : List T) → SameHead bad vs → L (taken ++ vs) → ⊥) where
  at_next : (bad : List T) → ((vs : List T) → SameHead bad vs → L (taken ++ vs) → ⊥) → length taken < length (taken ++ bad) → Begins L (take (length taken + 1) (taken ++ bad)) → ⊥
  at_next [] stuck h b = omega (arith, length-append taken [])
  at_next (t ∷ bad) stuck h b = let (more, l) = b in
      stuck (t ∷ more) refl (subst L (append_assoc taken (t ∷ []) more) (subst (λ z. L (z ++ more)) (take_one_more taken bad t) l))

  at_end : (bad : List T) → ((vs : List T) → SameHead bad vs → L (taken ++ vs) → ⊥) → length taken ≡ length (taken ++ bad) → L (taken ++ bad) → ⊥
  at_end [] stuck h l = stuck [] tt l
  at_end (t ∷ bad) stuck h l = omega (arith, length-append taken (t ∷ bad))

  pub fault_place : IsFaultPlace L (taken ++ bad) (length taken)
  fault_place = record {
    within = omega (arith, length-append taken bad);
    begins = subst (Begins L) (sym (take_front taken bad)) begins;
    next_fits_none = at_next bad stuck;
    end_fits_none = at_end bad stuck;
  }

-- The language of whole phrases.
module _ {T X : Type 0} (N : List T → X → List T → Type 0) (continues : T → Bool) where
  abbrev Whole : List T → Type 0
  Whole ts = (x : X) × N ts x []

  -- a refusal
  pub refuses_whole : (ts bad : List T) (r : Refuses N continues ts bad) → IsFaultPlace Whole ts (length r.taken)
  refuses_whole ts bad r = subst (λ z. IsFaultPlace Whole z (length r.taken)) (sym r.parts)
      (fault_place Whole r.taken bad (r.more, (r.value, subst (λ z. N (r.taken ++ z) r.value []) (append-nil r.more) (r.begins [])))
      (λ vs s w. r.stuck vs s w.0 [] w.1))

  -- a phrase that something follows
  pub stops_whole : (ts us : List T) (u : T) (x : X) (f : Finds N continues ts x (u ∷ us)) → IsFaultPlace Whole ts (length f.taken)
  stops_whole ts us u x f = subst (λ z. IsFaultPlace Whole z (length f.taken)) (sym f.parts)
      (fault_place Whole f.taken (u ∷ us) ([], (x, f.phrase []))
      (λ vs s w. go vs s (f.only vs s w.0 [] w.1)))
    where
      go : {y : X} (vs : List T) → SameHead (u ∷ us) vs → ((y ≡ x) × ([] ≡ vs)) ⊎ GoesOn continues [] → ⊥
      go [] s e = s
      go (v ∷ vs) s (inl e) = cc (e.1)
      go (v ∷ vs) s (inr h) = h

  -- and a whole phrase is the only one
  pub finds_whole : (ts : List T) (x : X) → Finds N continues ts x [] → N ts x [] × ((y : X) → N ts y [] → y ≡ x)
  finds_whole ts x f = (subst (λ z. N z x []) (sym f.parts) (f.phrase []), λ y n. go y (f.only [] tt y [] (subst (λ z. N z y []) f.parts n)))
    where
      go : (y : X) → ((y ≡ x) × (◌≡◌ {A = List T} [] [])) ⊎ GoesOn continues [] → y ≡ x
      go y (inl e) = e.0
      go y (inr h) = absurd h

-- The first part is found: what is read after it leads to the whole.
module _ {T A X : Type 0} (N : List T → X → List T → Type 0) (continues : T → Bool)
    (First : List T → A → List T → Type 0) (Rest : A → List T → X → List T → Type 0)
    (to : (ts us vs : List T) (a : A) (x : X) → First ts a us → Rest a us x vs → N ts x vs)
    (from : (ts vs : List T) (x : X) → N ts x vs → ((a : A) × (us : List T) × First ts a us × Rest a us x vs) ⊎ GoesOn continues vs) where
  never : (a : A) (us vs : List T) (x : X) → Rest a us x vs → GoesOn nothing us → GoesOn continues vs
  never a [] vs x r h = absurd h
  never a (u ∷ us) vs x r h = cc

  pub then_leads : (ts us : List T) (a : A) → Finds First nothing ts a us → Leads (Rest a) continues us N continues ts
  then_leads ts us a f = record {
    finds = λ x rest. then_finds N continues First nothing Rest to from never ts us rest a x f;
    refuses = λ bad. then_refuses N continues First nothing Rest to from never ts us bad a f;
  }

  pub first_leads : (ts bad : List T) → ((a : A) → (more : List T) × (x : X) × ((vs : List T) → Rest a (more ++ vs) x vs)) → Refuses First nothing ts bad → Refuses N continues ts bad
  first_leads = first_refuses N continues First nothing Rest to from never

pub leads_on : {T X : Type 0} (L M N : List T → X → List T → Type 0) (b c d : T → Bool) (ts us vs : List T) → Leads L b vs M c us → Leads M c us N d ts → Leads L b vs N d ts
leads_on L M N b c d ts us vs f g = record { finds = λ x rest p. g.finds x rest (f.finds x rest p); refuses = λ bad p. g.refuses bad (f.refuses bad p) }
