-- How the readers of messages follow their parts, and what tells them from other computations.
use Rattle.std.specs.Prelude.{◌≡◌, ℕ, pos, Bool, IsTrue, ◌⊎◌, List, [], ◌∷◌, ◌++◌, refl, Option, Some, None}
use Rattle.std.proofs.Common.{sym, ◌∙◌, ap, subst, inl, inr}
use Rattle.std.proofs.lemmas.Bool.{eq-eqb, eqb-true}
use Rattle.lido_base.specs.Reading.{SameHead, GoesOn, Finds, Refuses, Leads, nothing}
use Rattle.lido_base.specs.declared.ids.StrId.{StrId}
use Rattle.lido_base.proofs.ReadingLemmas.{refuses_here, leads_on}
use Rattle.lido_lexer.specs.Seen.{Sees, token, Signs, Keys}
use Rattle.lido_lexer.specs.declared.keyword.Keyword.{Keyword}
use Rattle.lido_lexer.specs.declared.keyword.Keyword.TheVariants as key
use Rattle.lido_lexer.specs.declared.sign.Sign.TheVariants as sign
use Rattle.lido_lexer.specs.declared.token.Token.{Token}
use Rattle.lido_lexer.specs.declared.token.TokenKind.{TokenKind}
use Rattle.lido_lexer.specs.declared.token.TokenKind.TheVariants as kind
use Rattle.lido_syntax.specs.declared.spec.Name.{Name}
use Rattle.lido_syntax.specs.declared.spec.Place.{Place}
use Rattle.lido_syntax.specs.declared.spec.Place.TheVariants as place
use Rattle.lido_syntax.specs.declared.spec.Target.{Target}
use Rattle.lido_syntax.specs.declared.spec.Target.TheVariants as target
use Rattle.lido_syntax.specs.declared.spec.Severity.{Severity}
use Rattle.lido_syntax.specs.declared.spec.Severity.TheVariants as severity
use Rattle.lido_syntax.specs.declared.spec.Expr.{Expr}
use Rattle.lido_syntax.specs.declared.spec.Comp.{Comp}
use Rattle.lido_computations.specs.Phrases.{Done, Then, IsName, word}
use Rattle.lido_computations.specs.Places.{absent, present, IsPlace, named, by_word, context, in_targets, IsIndex}
use Rattle.lido_computations.specs.Expressions.{continues}
use Rattle.lido_computations.specs.Computations as grammar
use Rattle.lido_computations.specs.Computations.{AreAfter, IsTarget, IsValue, IsComputation, continues_computation}
use Rattle.lido_computations.specs.Messages as messages
use Rattle.lido_computations.specs.Messages.{IsSeverity, severity_word, severity_of, IsPlacing, IsMessageOf, IsUnconditional, IsConditional, IsRuleComputation, IsSymbolComputation, is_message, is_message_kind}
use Rattle.lido_computations.specs.declared.counts.Counts.{Counts}
use Rattle.lido_computations.specs.declared.messages.MessageWords.{MessageWords}
use Rattle.lido_computations.proofs.PhrasesLemmas.{Completable, then_completable, done_completable, sees_completable, name_completable, Stops, IsSaidByHead, IsNeverEmpty, one_finds, one_refuses, same_start, sees_goes, chosen}
use Rattle.lido_computations.proofs.PlacesLemmas.{same_token, goes_on, optional_completable}
use Rattle.lido_computations.proofs.ExpressionsLemmas.{any_expression}
use Rattle.lido_computations.proofs.ComputationsLemmas.{place_apart, keys_apart}

-- ---- severities

severity_said : (words : MessageWords) → IsSaidByHead (IsSeverity words)
severity_said words t us vs x (severity_word e d) = (refl, (λ ws. severity_word e d))

severity_some : (words : MessageWords) → IsNeverEmpty (IsSeverity words)
severity_some words vs x n = elim n [ ]

severity_same : (words : MessageWords) (t : Token) (us vs ws : List Token) (x y : Severity) → IsSeverity words (t ∷ us) x vs → IsSeverity words (t ∷ us) y ws → y ≡ x
severity_same words t us vs ws x y (severity_word {id = i} e d) (severity_word {id = j} f g) = let same : j ≡ i = cc in let both : Some y ≡ Some x = sym g ∙ ap (severity_of words) same ∙ d in cc

note_severity : (words : MessageWords) → severity_of words words.note ≡ Some severity.Note
note_severity words = rw (eq-eqb words.note.0 words.note.0 refl) refl

pub severity_completable : (words : MessageWords) → Completable (IsSeverity words)
severity_completable words = let t : Token = record { from = 0; to = 0; what = kind.Word words.note } in (t ∷ [], severity.Note, (λ vs. severity_word refl (note_severity words)))

pub severity_finds : (words : MessageWords) (ts us : List Token) (n : Name) (s : Severity) → IsName ts n us → severity_of words n.id ≡ Some s → Finds (IsSeverity words) nothing ts s us
severity_finds words ts us n s p e = one_finds (IsSeverity words) nothing (severity_said words) (severity_some words) (severity_same words) ts us s (go ts us n p e)
  where
    go : (ts us : List Token) (n : Name) → IsName ts n us → severity_of words n.id ≡ Some s → IsSeverity words ts s us
    go ts us n (word d) e = severity_word d e

pub severity_refuses : (words : MessageWords) (ts : List Token) → ((s : Severity) (us : List Token) → IsSeverity words ts s us → ⊥) → Refuses (IsSeverity words) nothing ts ts
severity_refuses words ts none = one_refuses (IsSeverity words) nothing (severity_said words) (severity_some words) (severity_completable words) ts none

-- no name comes next, or one of another meaning
pub no_name : (words : MessageWords) (ts : List Token) → ((n : Name) (us : List Token) → IsName ts n us → ⊥) → (s : Severity) (us : List Token) → IsSeverity words ts s us → ⊥
no_name words ts none s us (severity_word {t = t} {id = id} e d) = none (record { at = t.from; id = id }) us (word e)

pub no_severity : (words : MessageWords) (ts us : List Token) (n : Name) → IsName ts n us → severity_of words n.id ≡ None → (s : Severity) (vs : List Token) → IsSeverity words ts s vs → ⊥
no_severity words ts us n p none s vs q = go ts us vs n p none q
  where
    go : (ts us vs : List Token) (n : Name) → IsName ts n us → severity_of words n.id ≡ None → IsSeverity words ts s vs → ⊥
    go ts us vs n (word {id = i} d) none (severity_word {id = j} e f) = let same : j ≡ i = cc in let both : Some s ≡ None = sym f ∙ ap (severity_of words) same ∙ none in cc

-- ---- parts of a message

pub placing_completable : (words : MessageWords) → Completable (IsPlacing words)
placing_completable words = then_completable _ _ (sees_completable (kind.Sign sign.Comma)) (λ a. then_completable _ _ (sees_completable (kind.Int (pos 0))) (λ a. then_completable _ _ (sees_completable (kind.Sign sign.Comma)) (λ a.
    then_completable _ _ (sees_completable (kind.Word words.coordref)) (λ a. sees_completable (kind.Sign sign.ParenClose)))))

pub message_completable : (words : MessageWords) (texts : List (List ℕ)) (s : Counts) → Completable (IsMessageOf words texts s)
message_completable words texts s = then_completable _ _ (sees_completable (kind.Sign sign.ParenOpen)) (λ a. then_completable _ _ (severity_completable words) (λ a. then_completable _ _ (sees_completable (kind.Sign sign.Comma)) (λ a.
    then_completable _ _ (any_expression texts s) (λ a. then_completable _ _ (placing_completable words) (λ a. done_completable _)))))

pub comma_no_value : (t : Token) → t.what ≡ kind.Sign sign.Comma → IsTrue (continues 0 t) → ⊥
comma_no_value t d h = let no_value = rw d at h in cc

-- behind the text stands a comma
pub placing_stops : {X : Type 0} (words : MessageWords) (f : Expr × Counts → X) (c : Token → Bool) → Stops (continues 0) c (λ text. Then (IsPlacing words) (λ closing. Done (f text)))
placing_stops words f c a us vs x n h = absurd (sees_goes (kind.Sign sign.Comma) (continues 0) comma_no_value us n.first.between n.first.value n.first.first h)

-- ---- behind the first token

-- What stands behind a token leads to the whole, where the next token behind it tells.
pub behind_token : {X : Type 0} (M N : List Token → X → List Token → Type 0) (c : Token → Bool) (t : Token) (us : List Token) → ((vs ws : List Token) (x : X) → M vs x ws → N (t ∷ vs) x ws)
    → ((vs ws : List Token) (x : X) → SameHead us vs → N (t ∷ vs) x ws → M vs x ws ⊎ GoesOn c ws) → Leads M c us N c (t ∷ us)
behind_token {X} M N c t us to from = record {
  finds = λ x rest f. record {
    taken = t ∷ f.taken;
    parts = ap (λ z. t ∷ z) f.parts;
    phrase = λ vs. to (f.taken ++ vs) vs x (f.phrase vs);
    only = λ vs s y ws n. found f vs s y ws (from (f.taken ++ vs) ws y (same_start us f.taken rest vs f.parts s) n);
  };
  refuses = λ bad f. record {
    taken = t ∷ f.taken;
    parts = ap (λ z. t ∷ z) f.parts;
    more = f.more;
    value = f.value;
    begins = λ vs. to (f.taken ++ (f.more ++ vs)) vs f.value (f.begins vs);
    stuck = λ vs s y ws n. refused f vs s y ws (from (f.taken ++ vs) ws y (same_start us f.taken bad vs f.parts s) n);
  };
}
  where
    found : {x : X} {rest : List Token} (f : Finds M c us x rest) (vs : List Token) → SameHead rest vs → (y : X) (ws : List Token) → M (f.taken ++ vs) y ws ⊎ GoesOn c ws → ((y ≡ x) × (ws ≡ vs)) ⊎ GoesOn c ws
    found f vs s y ws (inl m) = f.only vs s y ws m
    found f vs s y ws (inr h) = inr h

    refused : {bad : List Token} (f : Refuses M c us bad) (vs : List Token) → SameHead bad vs → (y : X) (ws : List Token) → M (f.taken ++ vs) y ws ⊎ GoesOn c ws → GoesOn c ws
    refused f vs s y ws (inl m) = f.stuck vs s y ws m
    refused f vs s y ws (inr h) = h

same_self : (t : Token) (us more : List Token) → SameHead (t ∷ us) (t ∷ more)
same_self t us more = refl

-- A phrase that is never empty and that this token may begin has taken it, before it is found or refused.
module _ {X : Type 0} (M : List Token → X → List Token → Type 0) (c : Token → Bool) (t : Token) (us : List Token) where
  abbrev Behind : List Token → X → List Token → Type 0
  Behind vs x ws = M (t ∷ vs) x ws

  token_finds : ((vs : List Token) (x : X) → M [] x vs → ⊥) → (x : X) (rest : List Token) → Finds M c (t ∷ us) x rest → Finds Behind c us x rest
  token_finds some x rest f = go f.taken f.parts f.phrase f.only
    where
      go : (taken : List Token) → t ∷ us ≡ taken ++ rest → ((vs : List Token) → M (taken ++ vs) x vs)
          → ((vs : List Token) → SameHead rest vs → (y : X) (ws : List Token) → M (taken ++ vs) y ws → ((y ≡ x) × (ws ≡ vs)) ⊎ GoesOn c ws) → Finds Behind c us x rest
      go [] e phrase only = absurd (some [] x (phrase []))
      go (u ∷ taken) e phrase only = let same : u ≡ t = cc in let parts : us ≡ taken ++ rest = cc in record {
        taken = taken;
        parts = parts;
        phrase = λ vs. subst (λ z. M (z ∷ taken ++ vs) x vs) same (phrase vs);
        only = λ vs s y ws n. only vs s y ws (subst (λ z. M (z ∷ taken ++ vs) y ws) (sym same) n);
      }

  token_refuses : (more : List Token) (x : X) → M (t ∷ more) x [] → (bad : List Token) → Refuses M c (t ∷ us) bad → Refuses Behind c us bad
  token_refuses more x ready bad f = go f.taken f.parts f.begins f.stuck
    where
      go : (taken : List Token) → t ∷ us ≡ taken ++ bad → ((vs : List Token) → M (taken ++ (f.more ++ vs)) f.value vs)
          → ((vs : List Token) → SameHead bad vs → (y : X) (ws : List Token) → M (taken ++ vs) y ws → GoesOn c ws) → Refuses Behind c us bad
      go [] e begins stuck = absurd (stuck (t ∷ more) (subst (λ z. SameHead z (t ∷ more)) e (same_self t us more)) x [] ready)
      go (u ∷ taken) e begins stuck = let same : u ≡ t = cc in let parts : us ≡ taken ++ bad = cc in record {
        taken = taken;
        parts = parts;
        more = f.more;
        value = f.value;
        begins = λ vs. subst (λ z. M (z ∷ taken ++ (f.more ++ vs)) f.value vs) same (begins vs);
        stuck = λ vs s y ws n. stuck vs s y ws (subst (λ z. M (z ∷ taken ++ vs) y ws) (sym same) n);
      }

  pub with_token : ((vs : List Token) (x : X) → M [] x vs → ⊥) → (more : List Token) (x : X) → M (t ∷ more) x [] → Leads M c (t ∷ us) Behind c us
  with_token some more x ready = record { finds = token_finds some; refuses = token_refuses more x ready }

-- ---- what tells messages from other computations

-- no computation begins at the end
place_some : (words : Keyword → Option Place) (us vs : List Token) (q : ℕ × Place) → IsPlace words us q vs → us ≡ [] → ⊥
place_some words us vs q (named p) e = by_name us p.between p.value p.first e
  where
    by_name : (us vs : List Token) (n : Name) → IsName us n vs → us ≡ [] → ⊥
    by_name us vs n (word d) e = cc
place_some words us vs q (by_word (context d f)) e = cc

seen_some : (k : TokenKind) (us vs : List Token) (t : Token) → Sees k us t vs → us ≡ [] → ⊥
seen_some k us vs t (token d) e = cc

target_some : (us vs : List Token) (x : ℕ × Target) → IsTarget us x vs → us ≡ [] → ⊥
target_some us vs x (grammar.attribute p) e = place_some in_targets us p.between p.value p.first e
target_some us vs x (grammar.chain_start p) e = seen_some (kind.Key key.Chainstart) us p.between p.value p.first e

pub computation_some : (texts : List (List ℕ)) (number : ℕ) (vs : List Token) (x : Comp × ℕ) → IsComputation texts number [] x vs → ⊥
computation_some texts number vs x (grammar.assignment p) = target_some [] p.between p.value p.first refl
computation_some texts number vs x (grammar.output p) = seen_some (kind.Key key.PtgOut) [] p.between p.value p.first refl

-- no target begins with IF, nor with a name before a parenthesis
pub target_no_if : (us vs ws : List Token) (x : ℕ × Target) (t : Token) → IsTarget us x vs → Keys key.If us t ws → ⊥
target_no_if us vs ws x t (grammar.attribute p) n = place_apart in_targets key.If us p.between ws p.value t refl p.first n
target_no_if us vs ws x t (grammar.chain_start p) n = keys_apart key.Chainstart key.If us p.between ws p.value t (λ d. cc) p.first n

pub computation_no_if : (texts : List (List ℕ)) (number : ℕ) (us vs ws : List Token) (x : Comp × ℕ) (t : Token) → IsComputation texts number us x vs → Keys key.If us t ws → ⊥
computation_no_if texts number us vs ws x t (grammar.assignment p) n = target_no_if us p.between ws p.value t p.first n
computation_no_if texts number us vs ws x t (grammar.output p) n = keys_apart key.PtgOut key.If us p.between ws p.value t (λ d. cc) p.first n

index_no_parenthesis : (us ms vs ws : List Token) (i : _) (dot o : Token) → IsIndex us i ms → Signs sign.Dot ms dot vs → Signs sign.ParenOpen us o ws → ⊥
index_no_parenthesis us ms vs ws i dot o (absent e) d p = signs_apart us vs ws dot o d p
  where
    signs_apart : (us vs ws : List Token) (d o : Token) → Signs sign.Dot us d vs → Signs sign.ParenOpen us o ws → ⊥
    signs_apart us vs ws d o (token e) (token f) = cc
index_no_parenthesis us ms vs ws i dot o (present q) d p = brackets_apart us q.between ws q.value o q.first p
  where
    brackets_apart : (us vs ws : List Token) (d o : Token) → Signs sign.BracketOpen us d vs → Signs sign.ParenOpen us o ws → ⊥
    brackets_apart us vs ws d o (token e) (token f) = cc

-- a name before a parenthesis begins no target
pub target_no_call : (ts us vs ws : List Token) (id : StrId) (x : ℕ × Target) (t o : Token) → IsTarget ts x vs → Sees (kind.Word id) ts t us → Signs sign.ParenOpen us o ws → ⊥
target_no_call ts us vs ws id x t o (grammar.attribute p) n q = by_place ts us p.between p.rest.between ws p.value p.rest.value t o p.first p.rest.first n q
  where
    by_name : (ts us ms ks vs ws : List Token) (n : Name) (i : _) (t dot o : Token) → IsName ts n ms → IsIndex ms i ks → Signs sign.Dot ks dot vs → Sees (kind.Word id) ts t us → Signs sign.ParenOpen us o ws → ⊥
    by_name ts us ms ks vs ws n i t dot o (word d) q s (token f) p = index_no_parenthesis ms ks vs ws i dot o q s p

    by_place : (ts us ks vs ws : List Token) (pl : ℕ × Place) (dot t o : Token) → IsPlace in_targets ts pl ks → Signs sign.Dot ks dot vs → Sees (kind.Word id) ts t us → Signs sign.ParenOpen us o ws → ⊥
    by_place ts us ks vs ws pl dot t o (named m) s n q =
        let ends : m.rest.between ≡ ks = sym m.rest.rest.behind in by_name ts us m.between m.rest.between vs ws m.value m.rest.value t dot o m.first m.rest.first (subst (λ z. Signs sign.Dot z dot vs) (sym ends) s) n q
    by_place ts us ks vs ws pl dot t o (by_word (context d e)) s (token f) q = cc
target_no_call ts us vs ws id x t o (grammar.chain_start p) n q = by_key ts us p.between p.value t p.first n
  where
    by_key : (ts us vs : List Token) (w t : Token) → Keys key.Chainstart ts w vs → Sees (kind.Word id) ts t us → ⊥
    by_key ts us vs w t (token d) (token e) = cc

pub computation_no_call : (texts : List (List ℕ)) (number : ℕ) (ts us vs ws : List Token) (id : StrId) (x : Comp × ℕ) (t o : Token) → IsComputation texts number ts x vs → Sees (kind.Word id) ts t us → Signs sign.ParenOpen us o ws → ⊥
computation_no_call texts number ts us vs ws id x t o (grammar.assignment p) n q = target_no_call ts us p.between ws id p.value t o p.first n q
computation_no_call texts number ts us vs ws id x t o (grammar.output p) n q = by_key ts us p.between p.value t p.first n
  where
    by_key : (ts us vs : List Token) (w t : Token) → Keys key.PtgOut ts w vs → Sees (kind.Word id) ts t us → ⊥
    by_key ts us vs w t (token d) (token e) = cc

-- ---- computations in a rule's body

same_tail : (t u : Token) (us vs : List Token) → SameHead (t ∷ us) (u ∷ vs) → t ≡ u
same_tail t u us vs s = s

module _ (words : MessageWords) (texts : List (List ℕ)) (number : ℕ) where
  abbrev In_rule : List Token → Comp × ℕ → List Token → Type 0
  In_rule = IsRuleComputation words texts number

  if_from : (ts us vs ws : List Token) (t : Token) (x : Comp × ℕ) → Keys key.If ts t ws → SameHead ts us → In_rule us x vs → Then (Keys key.If) (λ t. IsConditional words texts number t.from) us x vs
  if_from ts us vs ws t x n m (messages.conditional h) = h
  if_from ts us vs ws t x n m (messages.usual h) = go ts us ws t n m h
    where
      go : (ts us ws : List Token) (t : Token) → Keys key.If ts t ws → SameHead ts us → IsComputation texts number us x vs → Then (Keys key.If) (λ t. IsConditional words texts number t.from) us x vs
      go (t ∷ ts) [] ws u n m h = absurd m
      go (t ∷ ts) (v ∷ us) ws u (token d) m h = absurd (computation_no_if texts number (v ∷ us) vs us x v h (token (ap (λ z. z.what) (sym m) ∙ d)))
      go [] us ws u n m h = elim n [ ]
  if_from ts us vs ws t x n m (messages.message h) = go ts us ws h.between t h.value n m h.first
    where
      go : (ts us ws ms : List Token) (t u : Token) → Keys key.If ts t ws → SameHead ts us → Sees (kind.Word words.message) us u ms → Then (Keys key.If) (λ t. IsConditional words texts number t.from) us x vs
      go (t ∷ ts) (v ∷ us) ws ms u w (token d) m (token e) = let apart : kind.Key key.If ≡ kind.Word words.message = sym d ∙ ap (λ z. z.what) m ∙ e in cc
      go (t ∷ ts) [] ws ms u w n m h = elim h [ ]
      go [] us ws ms u w n m h = elim n [ ]

  message_from : (t : Token) (us vs ws : List Token) (x : Comp × ℕ) (o : Token) (rest : List Token) → t.what ≡ kind.Word words.message → Signs sign.ParenOpen us o rest → SameHead us vs → In_rule (t ∷ vs) x ws
      → IsUnconditional words texts number t.from vs x ws
  message_from t us vs ws x o rest d n m (messages.message h) = go t vs h.between h.value h.first h.rest
    where
      go : (t : Token) (vs ms : List Token) (u : Token) → Sees (kind.Word words.message) (t ∷ vs) u ms → IsUnconditional words texts number u.from ms x ws → IsUnconditional words texts number t.from vs x ws
      go t vs ms u (token e) r = r
  message_from t us vs ws x o rest d n m (messages.conditional h) = go t vs h.between h.value d h.first
    where
      go : (t : Token) (vs ms : List Token) (u : Token) → t.what ≡ kind.Word words.message → Keys key.If (t ∷ vs) u ms → IsUnconditional words texts number t.from vs x ws
      go t vs ms u d (token e) = cc
  message_from t us vs ws x o rest d n m (messages.usual h) = go us vs n m h
    where
      go : (us vs : List Token) → Signs sign.ParenOpen us o rest → SameHead us vs → IsComputation texts number (t ∷ vs) x ws → IsUnconditional words texts number t.from vs x ws
      go (a ∷ us) (v ∷ vs) (token e) m h = absurd (computation_no_call texts number (t ∷ v ∷ vs) (v ∷ vs) ws vs words.message x t v h (token d) (token (ap (λ z. z.what) (sym m) ∙ e)))
      go (a ∷ us) [] n m h = absurd m
      go [] vs n m h = elim n [ ]

  -- IF comes next
  pub if_leads : (ts us : List Token) (t : Token) → Keys key.If ts t us → Leads (IsConditional words texts number t.from) continues_computation us In_rule continues_computation ts
  if_leads ts us t (token d) = behind_token (IsConditional words texts number t.from) In_rule continues_computation t us
      (λ vs ws x h. messages.conditional (record { value = t; between = vs; first = token d; rest = h }))
      (λ vs ws x m n. inl (go vs ws x (if_from (t ∷ vs) (t ∷ vs) ws vs t x (token d) refl n)))
    where
      go : (vs ws : List Token) (x : Comp × ℕ) → Then (Keys key.If) (λ t. IsConditional words texts number t.from) (t ∷ vs) x ws → IsConditional words texts number t.from vs x ws
      go vs ws x h = back vs h.between h.value h.first h.rest
        where
          back : (vs ms : List Token) (u : Token) → Keys key.If (t ∷ vs) u ms → IsConditional words texts number u.from ms x ws → IsConditional words texts number t.from vs x ws
          back vs ms u (token e) r = r

  -- the word comes next, before a parenthesis
  pub message_leads : (ts us : List Token) (t : Token) → Sees (kind.Word words.message) ts t us → ((o : Token) × (vs : List Token) × Signs sign.ParenOpen us o vs)
      → Leads (IsUnconditional words texts number t.from) continues_computation us In_rule continues_computation ts
  message_leads ts us t (token d) p = behind_token (IsUnconditional words texts number t.from) In_rule continues_computation t us
      (λ vs ws x h. messages.message (record { value = t; between = vs; first = token d; rest = h }))
      (λ vs ws x m n. inl (message_from t us vs ws x p.0 p.1 d p.2 m n))

  abbrev Usual : List Token → Comp × ℕ → List Token → Type 0
  Usual = IsComputation texts number

  -- an assignment to an attribute of the symbol of this name, behind the name
  abbrev Behind_name : Name → List Token → Comp × ℕ → List Token → Type 0
  Behind_name n = Then (Signs sign.Dot) (λ dot. Then IsName (λ a. Then (Signs sign.Equal) (λ equal. Then (IsValue texts number) (λ value. Then (AreAfter value.1.number) (λ after.
      Done (record { at = n.at; number = number; target = target.Attr (place.Named n None) a; value = value.0; after = after.0 }, after.1))))))

  behind_name : (t : Token) (id : StrId) (vs ws : List Token) (x : Comp × ℕ) → t.what ≡ kind.Word id → Behind_name (record { at = t.from; id = id }) vs x ws → Usual (t ∷ vs) x ws
  behind_name t id vs ws x d h = let n : Name = record { at = t.from; id = id } in grammar.assignment (record {
    value = (t.from, target.Attr (place.Named n None) h.rest.value);
    between = h.rest.between;
    first = grammar.attribute (record {
      value = (t.from, place.Named n None);
      between = vs;
      first = named (record { value = n; between = vs; first = word d; rest = record { value = None; between = vs; first = absent refl; rest = record { same = refl; behind = refl } } });
      rest = record { value = h.value; between = h.between; first = h.first; rest = record { value = h.rest.value; between = h.rest.between; first = h.rest.first; rest = record { same = refl; behind = refl } } };
    });
    rest = h.rest.rest;
  })

  behind_name_completable : (n : Name) → Completable (Behind_name n)
  behind_name_completable n = then_completable _ _ (sees_completable (kind.Sign sign.Dot)) (λ dot. then_completable _ _ name_completable (λ a. then_completable _ _ (sees_completable (kind.Sign sign.Equal)) (λ equal.
      then_completable _ _ (any_expression texts _) (λ value. then_completable _ _ (optional_completable _ _) (λ after. done_completable _)))))

  -- behind a name the next token tells whether it is a message
  named_leads : (t : Token) (us : List Token) (id : StrId) → t.what ≡ kind.Word id → ((u o : Token) (vs ws : List Token) → Sees (kind.Word words.message) (t ∷ us) u vs → Signs sign.ParenOpen vs o ws → ⊥)
      → Leads Usual continues_computation (t ∷ us) In_rule continues_computation (t ∷ us)
  named_leads t us id d none =
      let n : Name = record { at = t.from; id = id } in let (more, x, whole) = behind_name_completable n in
      leads_on Usual (Behind Usual continues_computation t us) In_rule continues_computation continues_computation continues_computation (t ∷ us) us (t ∷ us)
      (with_token Usual continues_computation t us (computation_some texts number) (more ++ []) x (behind_name t id (more ++ []) [] x d (whole [])))
      (behind_token (Behind Usual continues_computation t us) In_rule continues_computation t us (λ vs ws y h. messages.usual h) (λ vs ws y m h. inl (from vs ws y m h)))
    where
      no_message : (us vs ms : List Token) (u : Token) (ws : List Token) (y : Comp × ℕ) (at : ℕ) → ((u o : Token) (vs ws : List Token) → Sees (kind.Word words.message) (t ∷ us) u vs → Signs sign.ParenOpen vs o ws → ⊥) → SameHead us vs
          → Sees (kind.Word words.message) (t ∷ vs) u ms → IsUnconditional words texts number at ms y ws → ⊥
      no_message us vs ms u ws y at none m (token e) h = let q = same_token (kind.Sign sign.ParenOpen) us vs h.first.between h.first.value m h.first.first in none t h.first.value us q.0 (token e) q.1

      from : (vs ws : List Token) (y : Comp × ℕ) → SameHead us vs → In_rule (t ∷ vs) y ws → Usual (t ∷ vs) y ws
      from vs ws y m (messages.usual h) = h
      from vs ws y m (messages.message h) = absurd (no_message us vs h.between h.value ws y h.value.from none m h.first h.rest)
      from vs ws y m (messages.conditional h) = absurd (go vs h.between h.value h.first)
        where
          go : (vs ms : List Token) (u : Token) → Keys key.If (t ∷ vs) u ms → ⊥
          go vs ms u (token e) = cc

  -- what is no name begins no message
  other_leads : (ts : List Token) → ((t : Token) (us : List Token) (id : StrId) → Sees (kind.Word id) ts t us → ⊥) → ((t : Token) (us : List Token) → Keys key.If ts t us → ⊥) → Leads Usual continues_computation ts In_rule continues_computation ts
  other_leads ts no_word no_if = chosen Usual In_rule continues_computation ts (λ us vs x h. messages.usual h) (λ us vs x m h. inl (from us vs x m h))
    where
      from : (us vs : List Token) (x : Comp × ℕ) → SameHead ts us → In_rule us x vs → Usual us x vs
      from us vs x m (messages.usual h) = h
      from us vs x m (messages.message h) = let q = same_token (kind.Word words.message) ts us h.between h.value m h.first in absurd (no_word h.value q.0 words.message q.1)
      from us vs x m (messages.conditional h) = let q = same_token (kind.Key key.If) ts us h.between h.value m h.first in absurd (no_if h.value q.0 q.1)

  -- neither IF comes next, nor the word before a parenthesis
  pub usual_leads : (ts : List Token) → ((t : Token) (us : List Token) → Keys key.If ts t us → ⊥) → ((t o : Token) (us vs : List Token) → Sees (kind.Word words.message) ts t us → Signs sign.ParenOpen us o vs → ⊥)
      → Leads Usual continues_computation ts In_rule continues_computation ts
  usual_leads [] no_if no_message = other_leads [] (λ t us id n. elim n [ ]) no_if
  usual_leads (t ∷ us) no_if no_message = by t.what refl
    where
      other : (k : TokenKind) → t.what ≡ k → ((id : StrId) → k ≡ kind.Word id → ⊥) → Leads Usual continues_computation (t ∷ us) In_rule continues_computation (t ∷ us)
      other k d apart = other_leads (t ∷ us) (λ u vs id n. go u vs id n) no_if
        where
          go : (u : Token) (vs : List Token) (id : StrId) → Sees (kind.Word id) (t ∷ us) u vs → ⊥
          go u vs id (token e) = apart id (sym d ∙ e)

      by : (k : TokenKind) → t.what ≡ k → Leads Usual continues_computation (t ∷ us) In_rule continues_computation (t ∷ us)
      by (kind.Word id) d = named_leads t us id d no_message
      by (kind.Key w) d = other (kind.Key w) d (λ id e. cc)
      by (kind.Int i) d = other (kind.Int i) d (λ id e. cc)
      by (kind.Str i) d = other (kind.Str i) d (λ id e. cc)
      by (kind.Literal i) d = other (kind.Literal i) d (λ id e. cc)
      by (kind.Sign s) d = other (kind.Sign s) d (λ id e. cc)

  -- ---- computations in a symbol's body

  abbrev In_symbol : List Token → Comp × ℕ → List Token → Type 0
  In_symbol = IsSymbolComputation words texts number

  front_of : (taken rest : List Token) → (taken ≡ [] → ⊥) → GoesOn (is_message words) (taken ++ rest) → (vs : List Token) → GoesOn (is_message words) (taken ++ vs)
  front_of [] rest some h vs = absurd (some refl)
  front_of (t ∷ taken) rest some h vs = h

  abbrev Output : List Token → Comp × ℕ → List Token → Type 0
  Output = Then (Keys key.PtgOut) (λ t. Then (Signs sign.ParenOpen) (λ opening. Then (IsValue texts number) (λ value. Then (Signs sign.ParenClose) (λ closing. Then (AreAfter value.1.number) (λ after.
      Done (record { at = t.from; number = number; target = target.Out; value = value.0; after = after.0 }, after.1))))))

  pub symbol_completable : Completable In_symbol
  symbol_completable = let (more, x, whole) = output_completable in (more, x, (λ vs. record { usual = grammar.output (whole vs); not_message = λ h. no_word (more ++ vs) vs x (whole vs) h }))
    where
      output_completable : Completable Output
      output_completable = then_completable _ _ (sees_completable (kind.Key key.PtgOut)) (λ t. then_completable _ _ (sees_completable (kind.Sign sign.ParenOpen)) (λ opening. then_completable _ _ (any_expression texts _) (λ value.
          then_completable _ _ (sees_completable (kind.Sign sign.ParenClose)) (λ closing. then_completable _ _ (optional_completable _ _) (λ after. done_completable _)))))

      no_word : (us vs : List Token) (x : Comp × ℕ) → Output us x vs → GoesOn (is_message words) us → ⊥
      no_word us vs x h g = go us h.between h.value h.first g
        where
          go : (us ms : List Token) (t : Token) → Keys key.PtgOut us t ms → GoesOn (is_message words) us → ⊥
          go us ms t (token e) g = let no_message = rw e at g in cc

  -- the word does not come next
  pub symbol_leads : (ts : List Token) → (GoesOn (is_message words) ts → ⊥) → Leads Usual continues_computation ts In_symbol continues_computation ts
  symbol_leads ts fine = record { finds = λ x rest f. found x rest f; refuses = λ bad f. refused bad f.taken f.parts f.more f.value f.begins f.stuck }
    where
      other : (taken rest vs : List Token) → ts ≡ taken ++ rest → (taken ≡ [] → ⊥) → GoesOn (is_message words) (taken ++ vs) → ⊥
      other taken rest vs e some h = fine (subst (GoesOn (is_message words)) (sym e) (front_of taken vs some h rest))

      some_taken : (taken : List Token) (x : Comp × ℕ) → Usual (taken ++ []) x [] → taken ≡ [] → ⊥
      some_taken [] x n e = computation_some texts number [] x n
      some_taken (t ∷ taken) x n e = cc

      found : (x : Comp × ℕ) (rest : List Token) → Finds Usual continues_computation ts x rest → Finds In_symbol continues_computation ts x rest
      found x rest f = record {
        taken = f.taken;
        parts = f.parts;
        phrase = λ vs. record { usual = f.phrase vs; not_message = other f.taken rest vs f.parts (some_taken f.taken x (f.phrase [])) };
        only = λ vs s y ws n. f.only vs s y ws n.usual;
      }

      refused : (bad taken : List Token) → ts ≡ taken ++ bad → (more : List Token) (value : Comp × ℕ) → ((vs : List Token) → Usual (taken ++ (more ++ vs)) value vs)
          → ((vs : List Token) → SameHead bad vs → (y : Comp × ℕ) (ws : List Token) → Usual (taken ++ vs) y ws → GoesOn continues_computation ws) → Refuses In_symbol continues_computation ts bad
      refused bad [] e more value begins stuck = let (behind, x, whole) = symbol_completable in
          subst (λ z. Refuses In_symbol continues_computation z bad) (sym e) (refuses_here In_symbol continues_computation bad behind x whole (λ vs s y ws n. stuck vs s y ws n.usual))
      refused bad (t ∷ taken) e more value begins stuck = record {
        taken = t ∷ taken;
        parts = e;
        more = more;
        value = value;
        begins = λ vs. record { usual = begins vs; not_message = λ h. fine (subst (GoesOn (is_message words)) (sym e) h) };
        stuck = λ vs s y ws n. stuck vs s y ws n.usual;
      }

  word_goes : (t : Token) → t.what ≡ kind.Word words.message → IsTrue (is_message words t)
  word_goes t d = rw d (eq-eqb words.message.0 words.message.0 refl)

  -- the word comes next
  pub symbol_refuses : (ts us : List Token) (t : Token) → Sees (kind.Word words.message) ts t us → Refuses In_symbol continues_computation ts ts
  symbol_refuses ts us t n = let (more, x, whole) = symbol_completable in
      refuses_here In_symbol continues_computation ts more x whole (λ vs s y ws p. absurd (p.not_message (goes_on (kind.Word words.message) (is_message words) word_goes ts us vs t n s)))

  is_the_word : (k : TokenKind) → IsTrue (is_message_kind words k) → k ≡ kind.Word words.message
  is_the_word (kind.Word id) h = let same : id.0 ≡ words.message.0 = eqb-true id.0 words.message.0 h in ap (λ (i : ℕ). kind.Word (record { 0 = i })) same
  is_the_word (kind.Key w) h = cc
  is_the_word (kind.Int i) h = cc
  is_the_word (kind.Str i) h = cc
  is_the_word (kind.Literal i) h = cc
  is_the_word (kind.Sign s) h = cc

  pub no_word_next : (ts : List Token) → ((t : Token) (us : List Token) → Sees (kind.Word words.message) ts t us → ⊥) → GoesOn (is_message words) ts → ⊥
  no_word_next [] none h = h
  no_word_next (t ∷ ts) none h = none t ts (token (is_the_word t.what h))
