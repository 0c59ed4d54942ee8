-- How the readers of computations follow their parts.
use Rattle.std.specs.Prelude.{◌≡◌, ℕ, ◌+◌, Bool, true, false, ◌||◌, IsTrue, ◌⊎◌, List, [], ◌∷◌, ◌++◌, refl, Option, Some, None}
use Rattle.std.proofs.Common.{sym, ◌∙◌, ap, subst, inl, inr}
use Rattle.lido_base.specs.Reading.{SameHead, GoesOn, Finds, Refuses, Leads, nothing}
use Rattle.lido_base.proofs.ReadingLemmas.{empty_finds, leads_on}
use Rattle.lido_lexer.specs.Seen.{Sees, token, Signs, Keys}
use Rattle.lido_lexer.specs.declared.keyword.Keyword.{Keyword}
use Rattle.lido_lexer.specs.declared.keyword.Keyword.TheVariants as key
use Rattle.lido_lexer.specs.declared.sign.Sign.TheVariants as sign
use Rattle.lido_lexer.specs.declared.token.Token.{Token}
use Rattle.lido_lexer.specs.declared.token.TokenKind.{TokenKind}
use Rattle.lido_lexer.specs.declared.token.TokenKind.TheVariants as kind
use Rattle.lido_syntax.specs.declared.spec.Name.{Name}
use Rattle.lido_syntax.specs.declared.spec.Place.{Place}
use Rattle.lido_syntax.specs.declared.spec.Expr.{Expr}
use Rattle.lido_syntax.specs.declared.spec.Expr.TheVariants as expr
use Rattle.lido_syntax.specs.declared.spec.Target.{Target}
use Rattle.lido_syntax.specs.declared.spec.Target.TheVariants as target
use Rattle.lido_syntax.specs.declared.spec.Comp.{Comp}
use Rattle.lido_computations.specs.Phrases.{Done, Then, IsName, word, is_comma}
use Rattle.lido_computations.specs.Places.{absent, present, IsPlace, named, by_word, IsContext, context, in_reads, in_targets, IsRead, IsIncludingOf, AreConstituentsOf, is_option}
use Rattle.lido_computations.specs.Expressions.{continues}
use Rattle.lido_computations.specs.Computations as grammar
use Rattle.lido_computations.specs.Computations.{IsDependency, AreMoreDependencies, AreSomeDependencies, AreDependencies, AreAfter, IsTarget, IsValue, IsComputation, is_arrow_kind, continues_after, continues_dependencies, continues_computation}
use Rattle.lido_computations.specs.declared.counts.Counts.{Counts}
use Rattle.lido_computations.proofs.PhrasesLemmas.{Completable, then_completable, done_completable, sees_completable, Stops, never, past, fails, chosen, leads_self, sees_finds, IsWider, widens}
use Rattle.lido_computations.proofs.PlacesLemmas.{same_token, goes_on, optional_leads, optional_ends, pair_completable, listed_completable}
use Rattle.lido_computations.proofs.ExpressionsLemmas.{option_wider, follows_wider}

-- ---- what the alternatives begin with

-- no place is begun by such a word
pub place_apart : (words : Keyword → Option Place) (k : Keyword) (us vs ws : List Token) (q : ℕ × Place) (t : Token) → words k ≡ None → IsPlace words us q vs → Keys k us t ws → ⊥
place_apart words k us vs ws q t none p n = go us vs ws t q p n
  where
    by_name : (us a ws : List Token) (m : Name) (t : Token) → IsName us m a → Keys k us t ws → ⊥
    by_name us a ws m t (word d) (token f) = cc

    by_context : (us a ws : List Token) (q : ℕ × Place) (t : Token) → IsContext words us q a → Keys k us t ws → ⊥
    by_context us a ws q t (context {w = w} {p = p} d f) (token g) = let same : w ≡ k = cc in let both : Some p ≡ None = sym f ∙ ap words same ∙ none in cc

    go : (us a ws : List Token) (t : Token) (q : ℕ × Place) → IsPlace words us q a → Keys k us t ws → ⊥
    go us a ws t q (named h) n = by_name us h.between ws h.value t h.first n
    go us a ws t q (by_word h) n = by_context us a ws q t h n

pub keys_apart : (k j : Keyword) (us a ws : List Token) (u t : Token) → (k ≡ j → ⊥) → Keys k us u a → Keys j us t ws → ⊥
keys_apart k j us a ws u t differs (token d) (token f) = differs (cc)

-- the same token leads both
same_lead : (k : TokenKind) (ts us ws : List Token) (t : Token) → Sees k ts t ws → SameHead ts us → (zs : List Token) × Sees k us t zs
same_lead k ts [] ws t (token d) m = absurd m
same_lead k ts (u ∷ us) ws t (token d) m = (us, subst (λ z. Sees k (z ∷ us) t us) m (token d))

-- ---- dependencies

module _ (number : ℕ) where
  abbrev By_reading : List Token → Expr × ℕ → List Token → Type 0
  By_reading = Then IsRead (λ y. Done (y, number))

  abbrev By_including : List Token → Expr × ℕ → List Token → Type 0
  By_including = Then (Keys key.Including) (λ t. Then (IsIncludingOf t.from) (λ y. Done (y, number)))

  abbrev By_constituents : List Token → Expr × ℕ → List Token → Type 0
  By_constituents = Then (Keys key.Constituents) (λ t. Then (AreConstituentsOf t.from number) (λ k. Done (expr.Constituents k, number + 1)))

  reading_to : (us vs : List Token) (x : Expr × ℕ) → By_reading us x vs → IsDependency number us x vs
  reading_to us vs x h = subst (λ z. IsDependency number us z vs) (sym h.rest.same) (subst (λ z. IsDependency number us (h.value, number) z) (sym h.rest.behind) (grammar.read h.first))

  including_to : (us vs : List Token) (x : Expr × ℕ) → By_including us x vs → IsDependency number us x vs
  including_to us vs x h = subst (λ z. IsDependency number us z vs) (sym h.rest.rest.same) (subst (λ z. IsDependency number us (h.rest.value, number) z) (sym h.rest.rest.behind)
      (grammar.including (record { value = h.value; between = h.between; first = h.first; rest = h.rest.first })))

  constituents_to : (us vs : List Token) (x : Expr × ℕ) → By_constituents us x vs → IsDependency number us x vs
  constituents_to us vs x h = subst (λ z. IsDependency number us z vs) (sym h.rest.rest.same) (subst (λ z. IsDependency number us (expr.Constituents h.rest.value, number + 1) z) (sym h.rest.rest.behind)
      (grammar.constituents (record { value = h.value; between = h.between; first = h.first; rest = h.rest.first })))

  including_from : (ts us vs ws : List Token) (t : Token) (x : Expr × ℕ) → Keys key.Including ts t ws → SameHead ts us → IsDependency number us x vs → By_including us x vs
  including_from ts us vs ws t x n m (grammar.including {e = y} h) = record { value = h.value; between = h.between; first = h.first; rest = record { value = y; between = vs; first = h.rest; rest = record { same = refl; behind = refl } } }
  including_from ts us vs ws t x n m (grammar.read h) = let q = same_lead (kind.Key key.Including) ts us ws t n m in absurd (place_apart in_reads key.Including us h.between q.0 h.value t refl h.first q.1)
  including_from ts us vs ws t x n m (grammar.constituents h) = let q = same_lead (kind.Key key.Including) ts us ws t n m in absurd (keys_apart key.Constituents key.Including us h.between q.0 h.value t (λ d. cc) h.first q.1)

  constituents_from : (ts us vs ws : List Token) (t : Token) (x : Expr × ℕ) → Keys key.Constituents ts t ws → SameHead ts us → IsDependency number us x vs → By_constituents us x vs
  constituents_from ts us vs ws t x n m (grammar.constituents {k = k} h) = record { value = h.value; between = h.between; first = h.first; rest = record { value = k; between = vs; first = h.rest; rest = record { same = refl; behind = refl } } }
  constituents_from ts us vs ws t x n m (grammar.read h) = let q = same_lead (kind.Key key.Constituents) ts us ws t n m in absurd (place_apart in_reads key.Constituents us h.between q.0 h.value t refl h.first q.1)
  constituents_from ts us vs ws t x n m (grammar.including h) = let q = same_lead (kind.Key key.Constituents) ts us ws t n m in absurd (keys_apart key.Including key.Constituents us h.between q.0 h.value t (λ d. cc) h.first q.1)

  reading_from : (ts us vs : List Token) (x : Expr × ℕ) → ((t : Token) (ws : List Token) → Keys key.Including ts t ws → ⊥) → ((t : Token) (ws : List Token) → Keys key.Constituents ts t ws → ⊥) → SameHead ts us → IsDependency number us x vs → By_reading us x vs
  reading_from ts us vs x no_including no_constituents m (grammar.read {e = y} h) = record { value = y; between = vs; first = h; rest = record { same = refl; behind = refl } }
  reading_from ts us vs x no_including no_constituents m (grammar.including h) = let q = same_token (kind.Key key.Including) ts us h.between h.value m h.first in absurd (no_including h.value q.0 q.1)
  reading_from ts us vs x no_including no_constituents m (grammar.constituents h) = let q = same_token (kind.Key key.Constituents) ts us h.between h.value m h.first in absurd (no_constituents h.value q.0 q.1)

  pub including_dependency : (ts us : List Token) (t : Token) → Keys key.Including ts t us → Leads (Then (IsIncludingOf t.from) (λ y. Done (y, number))) is_option us (IsDependency number) is_option ts
  including_dependency ts us t n = past (Keys key.Including) nothing (λ t. Then (IsIncludingOf t.from) (λ y. Done (y, number))) (IsDependency number) is_option is_option (never is_option (λ t. Then (IsIncludingOf t.from) (λ y. Done (y, number)))) ts ts us t
      (chosen By_including (IsDependency number) is_option ts (λ us vs x h. including_to us vs x h) (λ us vs x m h. inl (including_from ts us vs _ t x n m h))) (sees_finds (kind.Key key.Including) nothing ts us t n)

  pub constituents_dependency : (ts us : List Token) (t : Token) → Keys key.Constituents ts t us → Leads (Then (AreConstituentsOf t.from number) (λ k. Done (expr.Constituents k, number + 1))) is_option us (IsDependency number) is_option ts
  constituents_dependency ts us t n = past (Keys key.Constituents) nothing (λ t. Then (AreConstituentsOf t.from number) (λ k. Done (expr.Constituents k, number + 1))) (IsDependency number) is_option is_option
      (never is_option (λ t. Then (AreConstituentsOf t.from number) (λ k. Done (expr.Constituents k, number + 1)))) ts ts us t
      (chosen By_constituents (IsDependency number) is_option ts (λ us vs x h. constituents_to us vs x h) (λ us vs x m h. inl (constituents_from ts us vs _ t x n m h))) (sees_finds (kind.Key key.Constituents) nothing ts us t n)

  pub reading_dependency : (ts : List Token) → ((t : Token) (ws : List Token) → Keys key.Including ts t ws → ⊥) → ((t : Token) (ws : List Token) → Keys key.Constituents ts t ws → ⊥) → Leads (Then IsRead (λ y. Done (y, number))) is_option ts (IsDependency number) is_option ts
  reading_dependency ts no_including no_constituents = chosen By_reading (IsDependency number) is_option ts (λ us vs x h. reading_to us vs x h) (λ us vs x m h. inl (reading_from ts us vs x no_including no_constituents m h))

  pub dependency_completable : Completable (IsDependency number)
  dependency_completable = let (more, y, whole) = then_completable (Keys key.Including) (λ t. IsIncludingOf t.from) (sees_completable (kind.Key key.Including)) (λ t. then_completable _ _ (listed_completable _ pair_completable) (λ a. done_completable _)) in
      (more, (y, number), (λ vs. grammar.including (whole vs)))

comma_kind_option : (t : Token) → t.what ≡ kind.Sign sign.Comma → IsTrue (is_option t) → ⊥
comma_kind_option t d h = let no_option = rw d at h in cc

or_left : (a b : Bool) → IsTrue a → IsTrue (a || b)
or_left true b h = refl
or_left false b h = cc

or_right : (a b : Bool) → IsTrue b → IsTrue (a || b)
or_right true b h = refl
or_right false b h = h

pub dependencies_wider : IsWider is_option continues_dependencies
dependencies_wider [] h = h
dependencies_wider (u ∷ us) h = or_right (is_comma u) (is_option u) h

pub comma_in_list : (t : Token) → t.what ≡ kind.Sign sign.Comma → IsTrue (continues_dependencies t)
comma_in_list t d = rw d refl

pub further_stops : (f : Expr × ℕ → List Expr × ℕ) → Stops is_option continues_dependencies (λ x. AreMoreDependencies (f x))
further_stops f a us vs all h g = go (f a) us vs all h g
  where
    go : (found : List Expr × ℕ) (us vs : List Token) (all : List Expr × ℕ) → AreMoreDependencies found us all vs → GoesOn is_option us → GoesOn continues_dependencies vs
    go found us vs all grammar.last g = dependencies_wider us g
    go found us vs all (grammar.further {t = t} (token d) q r) g = absurd (comma_kind_option t d g)

further_completable : (found : List Expr × ℕ) → Completable (AreMoreDependencies found)
further_completable found = ([], found, (λ vs. grammar.last))

pub some_lead : (s : ℕ) (ts us : List Token) (x : Expr × ℕ) → Finds (IsDependency s) is_option ts x us → Leads (AreMoreDependencies (x.0 ∷ [], x.1)) continues_dependencies us (AreSomeDependencies s) continues_dependencies ts
some_lead s ts us x f = past (IsDependency s) is_option (λ x. AreMoreDependencies (x.0 ∷ [], x.1)) (AreSomeDependencies s) continues_dependencies continues_dependencies (further_stops (λ x. (x.0 ∷ [], x.1))) ts ts us x (leads_self (AreSomeDependencies s) continues_dependencies ts) f

pub some_fail : (s : ℕ) (ts bad : List Token) → Refuses (IsDependency s) is_option ts bad → Refuses (AreSomeDependencies s) continues_dependencies ts bad
some_fail s ts bad r = fails (IsDependency s) is_option (λ x. AreMoreDependencies (x.0 ∷ [], x.1)) (AreSomeDependencies s) continues_dependencies continues_dependencies (further_stops (λ x. (x.0 ∷ [], x.1))) ts ts bad (leads_self (AreSomeDependencies s) continues_dependencies ts)
    (λ x. further_completable (x.0 ∷ [], x.1)) r

pub some_dependencies_completable : (s : ℕ) → Completable (AreSomeDependencies s)
some_dependencies_completable s = then_completable (IsDependency s) (λ x. AreMoreDependencies (x.0 ∷ [], x.1)) (dependency_completable s) (λ x. further_completable (x.0 ∷ [], x.1))

module _ (found : List Expr × ℕ) where
  abbrev One_more : List Token → List Expr × ℕ → List Token → Type 0
  One_more = Then (IsDependency found.1) (λ x. AreMoreDependencies (found.0 ++ x.0 ∷ [], x.1))

  comma_from : (ts us vs ws : List Token) (t : Token) (all : List Expr × ℕ) → Signs sign.Comma ts t ws → SameHead ts us → AreMoreDependencies found us all vs → Then (Signs sign.Comma) (λ t. One_more) us all vs ⊎ GoesOn continues_dependencies vs
  comma_from ts us vs ws t all n m q = go found us vs all q refl
    where
      go : (before : List Expr × ℕ) (us' vs' : List Token) (all' : List Expr × ℕ) → AreMoreDependencies before us' all' vs' → us' ≡ us → Then (Signs sign.Comma) (λ t. Then (IsDependency before.1) (λ x. AreMoreDependencies (before.0 ++ x.0 ∷ [], x.1))) us' all' vs' ⊎ GoesOn continues_dependencies vs'
      go before us' vs' all' grammar.last same = inr (goes_on (kind.Sign sign.Comma) continues_dependencies comma_in_list ts ws us' t n (subst (SameHead ts) (sym same) m))
      go before us' vs' all' (grammar.further p q r) same = inl (record { value = _; between = _; first = p; rest = record { value = _; between = _; first = q; rest = r } })

  comma_leads : (ts us : List Token) (t : Token) → Signs sign.Comma ts t us → Leads One_more continues_dependencies us (AreMoreDependencies found) continues_dependencies ts
  comma_leads ts us t n = past (Signs sign.Comma) nothing (λ t. One_more) (AreMoreDependencies found) continues_dependencies continues_dependencies (never continues_dependencies (λ t. One_more)) ts ts us t
      (chosen (Then (Signs sign.Comma) (λ t. One_more)) (AreMoreDependencies found) continues_dependencies ts (λ us vs all h. grammar.further h.first h.rest.first h.rest.rest) (λ us vs all m h. comma_from ts us vs _ t all n m h))
      (sees_finds (kind.Sign sign.Comma) nothing ts us t n)

  pub next_leads : (ts us vs : List Token) (t : Token) (x : Expr × ℕ) → Signs sign.Comma ts t us → Finds (IsDependency found.1) is_option us x vs → Leads (AreMoreDependencies (found.0 ++ x.0 ∷ [], x.1)) continues_dependencies vs (AreMoreDependencies found) continues_dependencies ts
  next_leads ts us vs t x n f = past (IsDependency found.1) is_option (λ x. AreMoreDependencies (found.0 ++ x.0 ∷ [], x.1)) (AreMoreDependencies found) continues_dependencies continues_dependencies (further_stops (λ x. (found.0 ++ x.0 ∷ [], x.1))) ts us vs x
      (comma_leads ts us t n) f

  pub next_fails : (ts us bad : List Token) (t : Token) → Signs sign.Comma ts t us → Refuses (IsDependency found.1) is_option us bad → Refuses (AreMoreDependencies found) continues_dependencies ts bad
  next_fails ts us bad t n r = fails (IsDependency found.1) is_option (λ x. AreMoreDependencies (found.0 ++ x.0 ∷ [], x.1)) (AreMoreDependencies found) continues_dependencies continues_dependencies (further_stops (λ x. (found.0 ++ x.0 ∷ [], x.1))) ts us bad
      (comma_leads ts us t n) (λ x. further_completable (found.0 ++ x.0 ∷ [], x.1)) r

  pub last_ends : (ts : List Token) → ((t : Token) (us : List Token) → Signs sign.Comma ts t us → ⊥) → Finds (AreMoreDependencies found) continues_dependencies ts found ts
  last_ends ts none = empty_finds (AreMoreDependencies found) continues_dependencies ts found (λ vs. grammar.last) (λ vs m y ws q. go found vs y ws m q)
    where
      go : (before : List Expr × ℕ) (vs : List Token) (y : List Expr × ℕ) (ws : List Token) → SameHead ts vs → AreMoreDependencies before vs y ws → ((y ≡ before) × (ws ≡ vs)) ⊎ GoesOn continues_dependencies ws
      go before vs y ws m grammar.last = inl (refl, refl)
      go before vs y ws m (grammar.further {us = a} {t = t} p q r) = let o = same_token (kind.Sign sign.Comma) ts vs a t m p in absurd (none t o.0 o.1)

-- ---- one dependency, or several in parentheses

-- no dependency is begun by a parenthesis
pub dependency_apart : (s : ℕ) (us vs ws : List Token) (x : Expr × ℕ) (t : Token) → IsDependency s us x vs → Signs sign.ParenOpen us t ws → ⊥
dependency_apart s us vs ws x t d n = go us vs ws x t d n
  where
    by_name : (us a ws : List Token) (m : Name) (t : Token) → IsName us m a → Signs sign.ParenOpen us t ws → ⊥
    by_name us a ws m t (word d) (token f) = cc

    by_context : (us a ws : List Token) (q : ℕ × Place) (t : Token) → IsContext in_reads us q a → Signs sign.ParenOpen us t ws → ⊥
    by_context us a ws q t (context d f) (token g) = cc

    by_place : (us a ws : List Token) (q : ℕ × Place) (t : Token) → IsPlace in_reads us q a → Signs sign.ParenOpen us t ws → ⊥
    by_place us a ws q t (named h) n = by_name us h.between ws h.value t h.first n
    by_place us a ws q t (by_word h) n = by_context us a ws q t h n

    by_key : (k : Keyword) (us a ws : List Token) (u t : Token) → Keys k us u a → Signs sign.ParenOpen us t ws → ⊥
    by_key k us a ws u t (token d) (token f) = cc

    go : (us vs ws : List Token) (x : Expr × ℕ) (t : Token) → IsDependency s us x vs → Signs sign.ParenOpen us t ws → ⊥
    go us vs ws x t (grammar.read h) n = by_place us h.between ws h.value t h.first n
    go us vs ws x t (grammar.including h) n = by_key key.Including us h.between ws h.value t h.first n
    go us vs ws x t (grammar.constituents h) n = by_key key.Constituents us h.between ws h.value t h.first n

module _ (s : ℕ) where
  abbrev Closing : List Token → List Expr × ℕ → List Token → Type 0
  Closing = Then (AreSomeDependencies s) (λ found. Then (Signs sign.ParenClose) (λ closing. Done found))

  several_from : (ts us vs ws : List Token) (t : Token) (all : List Expr × ℕ) → Signs sign.ParenOpen ts t ws → SameHead ts us → AreDependencies s us all vs → Then (Signs sign.ParenOpen) (λ opening. Closing) us all vs
  several_from ts us vs ws t all n m (grammar.several h) = h
  several_from ts us vs ws t all n m (grammar.single {e = e} h) = let q = same_lead (kind.Sign sign.ParenOpen) ts us ws t n m in absurd (dependency_apart s us vs q.0 e t h q.1)

  pub several_lead : (ts us : List Token) (t : Token) → Signs sign.ParenOpen ts t us → Leads Closing is_option us (AreDependencies s) is_option ts
  several_lead ts us t n = past (Signs sign.ParenOpen) nothing (λ opening. Closing) (AreDependencies s) is_option is_option (never is_option (λ opening. Closing)) ts ts us t
      (chosen (Then (Signs sign.ParenOpen) (λ opening. Closing)) (AreDependencies s) is_option ts (λ us vs all h. grammar.several h) (λ us vs all m h. inl (several_from ts us vs _ t all n m h))) (sees_finds (kind.Sign sign.ParenOpen) nothing ts us t n)

  abbrev Single : List Token → List Expr × ℕ → List Token → Type 0
  Single = Then (IsDependency s) (λ x. Done (x.0 ∷ [], x.1))

  single_from : (ts us vs : List Token) (all : List Expr × ℕ) → ((t : Token) (ws : List Token) → Signs sign.ParenOpen ts t ws → ⊥) → SameHead ts us → AreDependencies s us all vs → Single us all vs
  single_from ts us vs all none m (grammar.single {e = e} h) = record { value = e; between = vs; first = h; rest = record { same = refl; behind = refl } }
  single_from ts us vs all none m (grammar.several h) = let q = same_token (kind.Sign sign.ParenOpen) ts us h.between h.value m h.first in absurd (none h.value q.0 q.1)

  single_to : (us vs : List Token) (all : List Expr × ℕ) → Single us all vs → AreDependencies s us all vs
  single_to us vs all h = subst (λ z. AreDependencies s us z vs) (sym h.rest.same) (subst (λ z. AreDependencies s us (h.value.0 ∷ [], h.value.1) z) (sym h.rest.behind) (grammar.single h.first))

  pub single_lead : (ts : List Token) → ((t : Token) (ws : List Token) → Signs sign.ParenOpen ts t ws → ⊥) → Leads Single is_option ts (AreDependencies s) is_option ts
  single_lead ts none = chosen Single (AreDependencies s) is_option ts (λ us vs all h. single_to us vs all h) (λ us vs all m h. inl (single_from ts us vs all none m h))

pub close_no_dependency : (t : Token) → t.what ≡ kind.Sign sign.ParenClose → IsTrue (continues_dependencies t) → ⊥
close_no_dependency t d h = let no_dependency = rw d at h in cc

-- ---- behind an expression

pub after_wider : IsWider is_option continues_after
after_wider [] h = h
after_wider (u ∷ us) h = or_right (is_arrow_kind u.what) (is_option u) h

arrow_continues : (t : Token) → t.what ≡ kind.Sign sign.Arrow → IsTrue (continues_after t)
arrow_continues t d = rw d refl

pub after_leads : (s : ℕ) (ts us : List Token) (t : Token) → Signs sign.Arrow ts t us → Leads (AreDependencies s) is_option us (AreAfter s) continues_after ts
after_leads s ts us t n = leads_on (AreDependencies s) (AreDependencies s) (AreAfter s) is_option continues_after continues_after ts us us (widens (AreDependencies s) is_option continues_after us after_wider)
    (optional_leads (kind.Sign sign.Arrow) (λ arrow. AreDependencies s) ([], s) continues_after arrow_continues ts us t n)

pub after_ends : (s : ℕ) (ts : List Token) → ((t : Token) (us : List Token) → Signs sign.Arrow ts t us → ⊥) → Finds (AreAfter s) continues_after ts ([], s) ts
after_ends s ts none = optional_ends (kind.Sign sign.Arrow) (λ arrow. AreDependencies s) ([], s) continues_after ts none

-- ---- targets

abbrev At_place : List Token → ℕ × Target → List Token → Type 0
At_place = Then (IsPlace in_targets) (λ p. Then (Signs sign.Dot) (λ dot. Then IsName (λ a. Done (p.0, target.Attr p.1 a))))

abbrev Of_chain : Token → List Token → ℕ × Target → List Token → Type 0
Of_chain t = Then (Keys key.Head) (λ head. Then (Signs sign.Dot) (λ dot. Then IsName (λ c. Done (t.from, target.Start c))))

chain_from : (ts us vs ws : List Token) (t : Token) (x : ℕ × Target) → Keys key.Chainstart ts t ws → SameHead ts us → IsTarget us x vs → Then (Keys key.Chainstart) Of_chain us x vs
chain_from ts us vs ws t x n m (grammar.chain_start h) = h
chain_from ts us vs ws t x n m (grammar.attribute h) = let q = same_lead (kind.Key key.Chainstart) ts us ws t n m in absurd (place_apart in_targets key.Chainstart us h.between q.0 h.value t refl h.first q.1)

pub chain_leads : (ts us : List Token) (t : Token) → Keys key.Chainstart ts t us → Leads (Of_chain t) nothing us IsTarget nothing ts
chain_leads ts us t n = past (Keys key.Chainstart) nothing Of_chain IsTarget nothing nothing (never nothing Of_chain) ts ts us t
    (chosen (Then (Keys key.Chainstart) Of_chain) IsTarget nothing ts (λ us vs x h. grammar.chain_start h) (λ us vs x m h. inl (chain_from ts us vs _ t x n m h))) (sees_finds (kind.Key key.Chainstart) nothing ts us t n)

place_from : (ts us vs : List Token) (x : ℕ × Target) → ((t : Token) (ws : List Token) → Keys key.Chainstart ts t ws → ⊥) → SameHead ts us → IsTarget us x vs → At_place us x vs
place_from ts us vs x none m (grammar.attribute h) = h
place_from ts us vs x none m (grammar.chain_start h) = let q = same_token (kind.Key key.Chainstart) ts us h.between h.value m h.first in absurd (none h.value q.0 q.1)

pub place_leads : (ts : List Token) → ((t : Token) (ws : List Token) → Keys key.Chainstart ts t ws → ⊥) → Leads At_place nothing ts IsTarget nothing ts
place_leads ts none = chosen At_place IsTarget nothing ts (λ us vs x h. grammar.attribute h) (λ us vs x m h. inl (place_from ts us vs x none m h))

-- ---- computations

pub value_wider : IsWider (continues 0) continues_computation
value_wider [] h = h
value_wider (u ∷ us) h = or_right (is_arrow_kind u.what) (continues 0 u) h

pub option_continues : IsWider continues_after continues_computation
option_continues [] h = h
option_continues (u ∷ us) h = go (is_arrow_kind u.what) refl h
  where
    go : (b : Bool) → is_arrow_kind u.what ≡ b → IsTrue (b || is_option u) → IsTrue (is_arrow_kind u.what || continues 0 u)
    go true d h = rw d refl
    go false d h = rw d (follows_wider 0 (u ∷ us) (option_wider (u ∷ us) h))

arrow_no_value : (us vs : List Token) (t : Token) → Signs sign.Arrow us t vs → GoesOn (continues 0) us → ⊥
arrow_no_value us vs t (token d) h = let no_value = rw d at h in cc

after_goes : (s : ℕ) (us vs : List Token) (x : List Expr × ℕ) → AreAfter s us x vs → GoesOn (continues 0) us → vs ≡ us
after_goes s us vs x (absent d) h = refl
after_goes s us vs x (present p) h = absurd (arrow_no_value us p.between p.value p.first h)

-- behind an expression stands an arrow or nothing
pub value_stops : (f : Expr × Counts → List Expr × ℕ → Comp × ℕ) → Stops (continues 0) continues_computation (λ value. Then (AreAfter value.1.number) (λ after. Done (f value after)))
value_stops f a us vs x n h = subst (GoesOn continues_computation) (sym (n.rest.behind ∙ after_goes a.1.number us n.between n.value n.first h)) (value_wider us h)

pub close_no_value : (t : Token) → t.what ≡ kind.Sign sign.ParenClose → IsTrue (continues 0 t) → ⊥
close_no_value t d h = let no_value = rw d at h in cc

module _ (texts : List (List ℕ)) (number : ℕ) where
  abbrev Assigned : List Token → Comp × ℕ → List Token → Type 0
  Assigned = Then IsTarget (λ t. Then (Signs sign.Equal) (λ equal. Then (IsValue texts number) (λ value. Then (AreAfter value.1.number) (λ after.
      Done (record { at = t.0; number = number; target = t.1; value = value.0; after = after.0 }, after.1)))))

  abbrev Put_out : Token → List Token → Comp × ℕ → List Token → Type 0
  Put_out t = Then (Signs sign.ParenOpen) (λ opening. Then (IsValue texts number) (λ value. Then (Signs sign.ParenClose) (λ closing. Then (AreAfter value.1.number) (λ after.
      Done (record { at = t.from; number = number; target = target.Out; value = value.0; after = after.0 }, after.1)))))

  pub target_apart : (us vs ws : List Token) (x : ℕ × Target) (t : Token) → IsTarget us x vs → Keys key.PtgOut us t ws → ⊥
  target_apart us vs ws x t (grammar.attribute h) n = place_apart in_targets key.PtgOut us h.between ws h.value t refl h.first n
  target_apart us vs ws x t (grammar.chain_start h) n = keys_apart key.Chainstart key.PtgOut us h.between ws h.value t (λ d. cc) h.first n

  output_from : (ts us vs ws : List Token) (t : Token) (x : Comp × ℕ) → Keys key.PtgOut ts t ws → SameHead ts us → IsComputation texts number us x vs → Then (Keys key.PtgOut) Put_out us x vs
  output_from ts us vs ws t x n m (grammar.output h) = h
  output_from ts us vs ws t x n m (grammar.assignment h) = let q = same_lead (kind.Key key.PtgOut) ts us ws t n m in absurd (target_apart us h.between q.0 h.value t h.first q.1)

  pub output_leads : (ts us : List Token) (t : Token) → Keys key.PtgOut ts t us → Leads (Put_out t) continues_computation us (IsComputation texts number) continues_computation ts
  output_leads ts us t n = past (Keys key.PtgOut) nothing Put_out (IsComputation texts number) continues_computation continues_computation (never continues_computation Put_out) ts ts us t
      (chosen (Then (Keys key.PtgOut) Put_out) (IsComputation texts number) continues_computation ts (λ us vs x h. grammar.output h) (λ us vs x m h. inl (output_from ts us vs _ t x n m h))) (sees_finds (kind.Key key.PtgOut) nothing ts us t n)

  assigned_from : (ts us vs : List Token) (x : Comp × ℕ) → ((t : Token) (ws : List Token) → Keys key.PtgOut ts t ws → ⊥) → SameHead ts us → IsComputation texts number us x vs → Assigned us x vs
  assigned_from ts us vs x none m (grammar.assignment h) = h
  assigned_from ts us vs x none m (grammar.output h) = let q = same_token (kind.Key key.PtgOut) ts us h.between h.value m h.first in absurd (none h.value q.0 q.1)

  pub assignment_leads : (ts : List Token) → ((t : Token) (ws : List Token) → Keys key.PtgOut ts t ws → ⊥) → Leads Assigned continues_computation ts (IsComputation texts number) continues_computation ts
  assignment_leads ts none = chosen Assigned (IsComputation texts number) continues_computation ts (λ us vs x h. grammar.assignment h) (λ us vs x m h. inl (assigned_from ts us vs x none m h))
