-- How the readers of expressions follow their parts.
use Rattle.std.specs.Prelude.{◌≡◌, ℕ, ℤ, pos, zero, suc, ◌+◌, ◌-◌, ◌<◌, ◌≤◌, Bool, true, false, ◌||◌, IsTrue, nat_le, ◌⊎◌, List, [], ◌∷◌, ◌++◌, refl, Option, Some, None, slice_get, codes}
use Rattle.std.proofs.Common.{sym, ◌∙◌, ap, subst, inl, inr, arith, leb-true, le-leb}
use Rattle.lido_base.specs.Reading.{SameHead, GoesOn, Finds, Refuses, Leads, nothing}
use Rattle.lido_base.specs.Texts.{IsDistinctTexts}
use Rattle.lido_base.proofs.ReadingLemmas.{empty_finds, refuses_here, leads_on, led_finds, led_refuses}
use Rattle.lido_base.proofs.TextsLemmas.{same_place}
use Rattle.lido_lexer.specs.Seen.{Sees, token, Signs}
use Rattle.lido_lexer.specs.declared.keyword.Keyword.{Keyword}
use Rattle.lido_lexer.specs.declared.keyword.Keyword.TheVariants as key
use Rattle.lido_lexer.specs.declared.sign.Sign.TheVariants as sign
use Rattle.lido_lexer.specs.declared.token.Token.{Token}
use Rattle.lido_lexer.specs.declared.token.TokenKind.{TokenKind}
use Rattle.lido_lexer.specs.declared.token.TokenKind.TheVariants as kind
use Rattle.lido_syntax.specs.declared.spec.Name.{Name}
use Rattle.lido_syntax.specs.declared.spec.Cons.{Cons}
use Rattle.lido_syntax.specs.declared.spec.Place.{Place}
use Rattle.lido_syntax.specs.declared.spec.Place.TheVariants as place
use Rattle.lido_syntax.specs.declared.spec.Expr.{Expr}
use Rattle.lido_syntax.specs.declared.spec.Expr.TheVariants as expr
use Rattle.lido_computations.specs.Phrases.{Done, Then, IsName, word, is_comma, RefusesAt}
use Rattle.lido_computations.specs.Places.{absent, present, IsIndex, IsRead, IsReadOf, IsPlace, named, by_word, IsContext, context, in_reads, IsIncluding, IsIncludingOf, AreConstituents, AreConstituentsOf, is_bracket, is_bracket_kind, is_option, is_option_kind}
use Rattle.lido_computations.specs.Counting.{spent, numbered}
use Rattle.lido_computations.specs.Expressions as grammar
use Rattle.lido_computations.specs.Expressions.{prefix_of, infix_of, constant_of, start_of, follows_primary, is_at_least, continues, unary_level, IsCall, IsExpr, AreOperands, IsPrimary, AreArguments, AreSome, AreFurther}
use Rattle.lido_computations.specs.Parts as parts
use Rattle.lido_computations.specs.Parts.{follows, continues_list, Spending, HasFunction, IsNull, IsParenthesized, IsChoice, IsOrder, IsCounted, IsCalled, IsIndexed, IsNamed}
use Rattle.lido_lexer.specs.Lexing.{Gains}
use Rattle.lido_computations.specs.declared.counts.Counts.{Counts}
use Rattle.lido_computations.specs.declared.fault.ReadSpecFault.{ReadSpecFault}
use Rattle.lido_computations.specs.declared.operators.Start.{Start}
use Rattle.lido_computations.specs.declared.operators.Start.TheVariants as start
use Rattle.lido_computations.proofs.PhrasesLemmas.{Completable, Stops, never, past, chosen, sees_finds, IsWider, widens, ends, fails}
use Rattle.lido_computations.proofs.PlacesLemmas.{same_token, goes_on}

-- ---- what continues

-- what continues a tighter level continues a looser one
looser : (k : ℕ) (o : Option (ℕ × List ℕ)) (b : Bool) → IsTrue (is_at_least (suc k) o || b) → IsTrue (is_at_least k o || b)
looser k None b h = h
looser k (Some j) b h = go (nat_le (suc k) j.0) refl h
  where
    or_true : (c : Bool) → (c || true) ≡ true
    or_true true = refl
    or_true false = refl

    go : (c : Bool) → nat_le (suc k) j.0 ≡ c → IsTrue (c || b) → IsTrue (nat_le k j.0 || b)
    go true e h = let below : suc k ≤ j.0 = leb-true (suc k) j.0 e in rw (le-leb k j.0 (omega arith)) refl
    go false e h = rw h (or_true (nat_le k j.0))

pub looser_wider : (k : ℕ) → IsWider (continues (suc k)) (continues k)
looser_wider k [] h = h
looser_wider k (t ∷ ts) h = looser k (infix_of t.what) (follows_primary t.what) h

or_right : (a b : Bool) → IsTrue b → IsTrue (a || b)
or_right true b h = refl
or_right false b h = h

pub follows_wider : (k : ℕ) → IsWider follows (continues k)
follows_wider k [] h = h
follows_wider k (t ∷ ts) h = or_right (is_at_least k (infix_of t.what)) (follows_primary t.what) h

operator_follows : (x : TokenKind) (o : ℕ × List ℕ) → infix_of x ≡ Some o → follows_primary x ≡ false
operator_follows (kind.Sign sign.BracketOpen) k e = cc
operator_follows (kind.Sign sign.Dot) k e = cc
operator_follows (kind.Sign sign.ParenOpen) k e = cc
operator_follows (kind.Sign _) k e = refl
operator_follows (kind.Key _) k e = cc
operator_follows (kind.Word _) k e = cc
operator_follows (kind.Int _) k e = cc
operator_follows (kind.Str _) k e = cc
operator_follows (kind.Literal _) k e = cc

-- an operator of this level continues no tighter one
not_tighter : (k : ℕ) (f : List ℕ) (t : Token) → infix_of t.what ≡ Some (k, f) → IsTrue (continues (suc k) t) → ⊥
not_tighter k f t e h = let both : IsTrue (is_at_least (suc k) (Some (k, f)) || false) = rw (e, operator_follows t.what (k, f) e) at h in go (nat_le (suc k) k) refl both
  where
    go : (c : Bool) → nat_le (suc k) k ≡ c → IsTrue (c || false) → ⊥
    go true d h = let below : suc k ≤ k = leb-true (suc k) k d in omega arith
    go false d h = cc

pub at_level : (k : ℕ) (f : List ℕ) (t : Token) → infix_of t.what ≡ Some (k, f) → IsTrue (continues k t)
at_level k f t e = rw e (rw (le-leb k k (omega arith)) refl)

-- ---- names of functions

module _ (texts : List (List ℕ)) (distinct : IsDistinctTexts texts) where
  pub function_finds : (f : List ℕ) (at : ℕ) (c : Token → Bool) (ts : List Token) (n : Name) → n.at ≡ at → slice_get texts n.id.0 ≡ Some f → Finds (HasFunction texts f at) c ts n ts
  function_finds f at c ts n e d = empty_finds (HasFunction texts f at) c ts n (λ vs. record { place = e; text = d; behind = refl }) (λ vs s m ws q. inl (same_name m q.place q.text, q.behind))
    where
      same_name : (m : Name) → m.at ≡ at → slice_get texts m.id.0 ≡ Some f → m ≡ n
      same_name m a b = let ids : m.id.0 ≡ n.id.0 = same_place texts distinct m.id.0 n.id.0 f b d in
          let places : m.at ≡ n.at = a ∙ sym e in
          ap (λ (z : ℕ). record { at = z; id = m.id }) places ∙ ap (λ (z : ℕ). record { at = n.at; id = record { 0 = z } }) ids

  pub call_of : (f : List ℕ) (t : ℕ) (args : List Expr) (x : Expr) → IsCall texts f t args x → (n : Name) × (n.at ≡ t) × (slice_get texts n.id.0 ≡ Some f) × (x ≡ expr.Call n args)
  call_of f t args x (id, d, q) = (record { at = t; id = id }, refl, d, q)

  call_is : (f : List ℕ) (t : ℕ) (args : List Expr) (n : Name) → n.at ≡ t → slice_get texts n.id.0 ≡ Some f → IsCall texts f t args (expr.Call n args)
  call_is f t args n a d = (n.id, d, ap (λ (z : ℕ). expr.Call (record { at = z; id = n.id }) args) a)

-- a phrase that begins with a token
led_leads : {X : Type 0} (N : List Token → X → List Token → Type 0) (c : Token → Bool) (t : Token) (Rest : List Token → X → List Token → Type 0)
    → ((us vs : List Token) (x : X) → Rest us x vs → N (t ∷ us) x vs) → ((us vs : List Token) (x : X) → N (t ∷ us) x vs → Rest us x vs ⊎ GoesOn c vs) → (us : List Token) → Leads Rest c us N c (t ∷ us)
led_leads N c t Rest to from us = record { finds = λ x rest. led_finds N c t Rest to from us rest x; refuses = λ bad. led_refuses N c t Rest to from us bad }

-- a refusal at the token that comes next
refused_next : {X : Type 0} (N : List Token → X → List Token → Type 0) (c : Token → Bool) (t : Token) (us : List Token) → Completable N → ((us vs : List Token) (x : X) → N (t ∷ us) x vs → GoesOn c vs) → Refuses N c (t ∷ us) (t ∷ us)
refused_next N c t us done stuck = let (more, x, whole) = done in refuses_here N c (t ∷ us) more x whole (λ vs s y ws n. go vs s y ws n)
  where
    go : (vs : List Token) → SameHead (t ∷ us) vs → (y : _) (ws : List Token) → N vs y ws → GoesOn c ws
    go [] s y ws n = absurd s
    go (v ∷ vs) s y ws n = stuck vs ws y (subst (λ z. N (z ∷ vs) y ws) (sym s) n)

-- ---- what a primary begins with

module _ (texts : List (List ℕ)) where
  -- behind its first token, by what that begins
  abbrev Led : Start → Counts → Token → List Token → Expr × Counts → List Token → Type 0
  Led start.Constant s t us x vs = (constant_of t.from t.what ≡ Some x.0) × (x.1 ≡ s) × (vs ≡ us)
  Led start.Counted s t us x vs = Spending s (IsCounted texts t) us x vs
  Led start.Including s t us x vs = Then (IsIncludingOf t.from) (λ y. Done (y, s)) us x vs
  Led start.Constituents s t us x vs = Then (AreConstituentsOf t.from s.number) (λ k. Done (expr.Constituents k, numbered s)) us x vs
  Led start.Context s t us x vs = Then IsRead (λ y. Done (y, s)) (t ∷ us) x vs
  Led start.Word s t us x vs = Then IsName (λ n. IsNamed texts s n) (t ∷ us) x vs
  Led start.Other s t us x vs = ⊥

  pub constant_start : (at : ℕ) (k : TokenKind) (x : Expr) → constant_of at k ≡ Some x → start_of k ≡ start.Constant
  constant_start at (kind.Int n) x d = refl
  constant_start at (kind.Str n) x d = refl
  constant_start at (kind.Key key.True) x d = refl
  constant_start at (kind.Key key.False) x d = refl
  constant_start at (kind.Key _) x d = cc
  constant_start at (kind.Sign _) x d = cc
  constant_start at (kind.Word _) x d = cc
  constant_start at (kind.Literal _) x d = cc

  pub context_start : (w : Keyword) (q : Place) → in_reads w ≡ Some q → start_of (kind.Key w) ≡ start.Context
  context_start key.Tail q d = refl
  context_start key.Synt q d = refl
  context_start key.Inh q d = refl
  context_start key.This q d = refl
  context_start _ q d = cc

  done_at : {X : Type 0} (x : X) (us : List Token) → Done x us x us
  done_at x us = record { same = refl; behind = refl }

  then_at : {A X : Type 0} (First : List Token → A → List Token → Type 0) (Rest : A → List Token → X → List Token → Type 0) (ts us vs : List Token) (a : A) (x : X) → First ts a us → Rest a us x vs → Then First Rest ts x vs
  then_at First Rest ts us vs a x f r = record { value = a; between = us; first = f; rest = r }

  call_name : (f : List ℕ) (t : Token) (args : List Expr) (x : Expr) → IsCall texts f t.from args x → Name
  call_name f t args x c = record { at = t.from; id = c.0 }

  has_function : (f : List ℕ) (t : Token) (args : List Expr) (x : Expr) (us : List Token) (c : IsCall texts f t.from args x) → HasFunction texts f t.from us (call_name f t args x c) us
  unfolding call_name
  has_function f t args x us c = record { place = refl; text = c.1; behind = refl }

  at_start : (s : Counts) (t : Token) (us vs : List Token) (x : Expr × Counts) (w : Start) → start_of t.what ≡ w → Led w s t us x vs → Led (start_of t.what) s t us x vs
  at_start s t us vs x w d h = subst (λ z. Led z s t us x vs) (sym d) h

  -- what is read at a place
  read_heads : (s : Counts) (t : Token) (us vs : List Token) (x : Expr) → IsRead (t ∷ us) x vs → Led (start_of t.what) s t us (x, s) vs
  read_heads s t us vs x r = go r.value r.between r.first r.rest
    where
      by_name : (q : ℕ × Place) (m : Name) (a : List Token) (i : Option ℤ) (b between : List Token) → IsName (t ∷ us) m a → IsIndex a i b → Done (m.at, place.Named m i) b q between → IsReadOf q between x vs → Led (start_of t.what) s t us (x, s) vs
      by_name q m a i b between (word d) index done rest = at_start s t us vs (x, s) start.Word (ap start_of d)
          (then_at IsName (λ n. IsNamed texts s n) (t ∷ us) us vs m (x, s) (word d) (parts.placed (then_at IsIndex (λ i. IsIndexed texts s m i) us b vs i (x, s) index
          (parts.read (then_at (IsReadOf (m.at, place.Named m i)) (λ y. Done (y, s)) b vs vs x (x, s)
          (subst (λ z. IsReadOf z b x vs) done.same (subst (λ z. IsReadOf q z x vs) done.behind rest)) (done_at (x, s) vs))))))

      by_context : (q : ℕ × Place) (between : List Token) → IsContext in_reads (t ∷ us) q between → Led (start_of t.what) s t us (x, s) vs
      by_context q between (context {w = w} {p = at} d f) = at_start s t us vs (x, s) start.Context (ap start_of d ∙ context_start w at f) (then_at IsRead (λ y. Done (y, s)) (t ∷ us) vs vs x (x, s) r (done_at (x, s) vs))

      go : (q : ℕ × Place) (between : List Token) → IsPlace in_reads (t ∷ us) q between → IsReadOf q between x vs → Led (start_of t.what) s t us (x, s) vs
      go q between (named n) rest = by_name q n.value n.between n.rest.value n.rest.between between n.first n.rest.first n.rest.rest rest
      go q between (by_word w) rest = by_context q between w

  given : {X : Type 0} (f : List ℕ) (t : Token) (args : List Expr) (y : Expr) (us vs : List Token) (x : X) (Rest : Name → List Token → X → List Token → Type 0) (c : IsCall texts f t.from args y) → Rest (record { at = t.from; id = c.0 }) us x vs
      → Then (HasFunction texts f t.from) Rest us x vs
  given f t args y us vs x Rest c rest = record { value = record { at = t.from; id = c.0 }; between = us; first = record { place = refl; text = c.1; behind = refl }; rest = rest }

  -- the pair of a tree, with what is left
  with_left : (y z : Expr) (r : Counts) (us : List Token) → y ≡ z → Done {X = Expr × Counts} (z, r) us (y, r) us
  with_left y z r us d = record { same = ap (λ (k : Expr). (k, r)) d; behind = refl }

  including_heads : (s : Counts) (t : Token) (us vs : List Token) (x : Expr) → IsIncluding (t ∷ us) x vs → Led (start_of t.what) s t us (x, s) vs
  including_heads s t us vs x r = go r.value r.between r.first r.rest
    where
      go : (u : Token) (between : List Token) → Sees (kind.Key key.Including) (t ∷ us) u between → IsIncludingOf u.from between x vs → Led (start_of t.what) s t us (x, s) vs
      go u between (token d) rest = at_start s t us vs (x, s) start.Including (ap start_of d) (then_at (IsIncludingOf t.from) (λ y. Done (y, s)) us vs vs x (x, s) rest (done_at (x, s) vs))

  constituents_heads : (s : Counts) (t : Token) (us vs : List Token) (k : Cons) → AreConstituents s.number (t ∷ us) k vs → Led (start_of t.what) s t us (expr.Constituents k, numbered s) vs
  constituents_heads s t us vs k r = go r.value r.between r.first r.rest
    where
      go : (u : Token) (between : List Token) → Sees (kind.Key key.Constituents) (t ∷ us) u between → AreConstituentsOf u.from s.number between k vs → Led (start_of t.what) s t us (expr.Constituents k, numbered s) vs
      go u between (token d) rest = at_start s t us vs (expr.Constituents k, numbered s) start.Constituents (ap start_of d)
          (then_at (AreConstituentsOf t.from s.number) (λ k. Done (expr.Constituents k, numbered s)) us vs vs k (expr.Constituents k, numbered s) rest (done_at (expr.Constituents k, numbered s) vs))

  arguments_called : (n : Name) (r : Counts) (us vs ws : List Token) (closing : Token) (args : List Expr × Counts) → AreArguments texts r us args vs → Signs sign.ParenClose vs closing ws → IsCalled texts n r us (expr.Call n args.0, args.1) ws
  arguments_called n r us vs ws closing args grammar.none c = parts.without (then_at (Signs sign.ParenClose) (λ closing. Done (expr.Call n [], r)) us ws ws closing _ c (done_at _ ws))
  arguments_called n r us vs ws closing args (grammar.some a) c = parts.with_arguments (then_at (AreSome texts r) (λ args. Then (Signs sign.ParenClose) (λ closing. Done (expr.Call n args.0, args.1))) us vs ws args _ a
      (then_at (Signs sign.ParenClose) (λ closing. Done (expr.Call n args.0, args.1)) vs ws ws closing _ c (done_at _ ws)))

  named_heads : (s : Counts) (t : Token) (us a vs : List Token) (n : Name) (x : Expr × Counts) → IsName (t ∷ us) n a → IsNamed texts s n a x vs → Led (start_of t.what) s t us x vs
  named_heads s t us a vs n x (word d) m = at_start s t us vs x start.Word (ap start_of d) (then_at IsName (λ n. IsNamed texts s n) (t ∷ us) us vs n x (word d) m)

  abbrev counted : (s r : Counts) (t : Token) (us vs : List Token) (x : Expr × Counts) → start_of t.what ≡ start.Counted → spent s ≡ Some r → IsCounted texts t r us x vs → Led (start_of t.what) s t us x vs
  counted s r t us vs x d f h = at_start s t us vs x start.Counted d (record { left = r; spends = f; phrase = h })

  heads : (s : Counts) (t : Token) (us vs : List Token) (x : Expr × Counts) → IsPrimary texts s (t ∷ us) x vs → Led (start_of t.what) s t us x vs
  heads s t us vs x (grammar.constant {e = y} d) = at_start s t us vs (y, s) start.Constant (constant_start t.from t.what y d) (d, refl, refl)
  heads s t us vs x (grammar.ptg_null {r = r} {e = y} d f c) = counted s r t us us (y, r) (ap start_of d) f (parts.ptg_null d (given (codes "PTGNULL") t [] y us us (y, r) (λ n. Done (expr.Call n [], r)) c (with_left y _ r us c.2)))
  heads s t us vs x (grammar.parenthesized {r = r} {closing = closing} {vs = between} d f y c) = counted s r t us vs x (ap start_of d) f (parts.parenthesized d
      (then_at (IsExpr texts 0 r) (λ e. Then (Signs sign.ParenClose) (λ closing. Done e)) us between vs x x y (then_at (Signs sign.ParenClose) (λ closing. Done x) between vs vs closing x c (done_at x vs))))
  heads s t us vs x (grammar.read {e = y} r) = read_heads s t us vs y r
  heads s t us vs x (grammar.including {e = y} r) = including_heads s t us vs y r
  heads s t us vs x (grammar.constituents {k = k} r) = constituents_heads s t us vs k r
  heads s t us vs x (grammar.terminal {us = a} {n = n} {i = i} m index) = named_heads s t us a vs n (expr.Terminal n i, s) m
      (parts.placed (then_at IsIndex (λ i. IsIndexed texts s n i) a vs vs i (expr.Terminal n i, s) index (parts.bare (done_at (expr.Terminal n i, s) vs))))
  heads s t us vs x (grammar.call {r = r} {us = a} {vs = b} {ws = c} {n = n} {opening = opening} {closing = closing} {args = args} m o f args_are q) = named_heads s t us a vs n (expr.Call n args.0, args.1) m
      (parts.called (then_at (Signs sign.ParenOpen) (λ opening. Spending s (IsCalled texts n)) a b vs opening (expr.Call n args.0, args.1) o (record { left = r; spends = f; phrase = arguments_called n r b c vs closing args args_are q })))
  heads s t us vs x (grammar.choice {r = r} {opening = opening} {first = first} {second = second} {closing = closing} {vs = a} {ws = b} {xs = c} {ys = d} {zs = g} {gs = h} {x = i} {y = j} {z = k} {e = y} at f o l m n q z w v) =
      counted s r t us vs (y, k.1) (ap start_of at) f (parts.choice at (given (codes "IF") t (i.0 ∷ j.0 ∷ k.0 ∷ []) y us vs (y, k.1)
      (λ n. Then (Signs sign.ParenOpen) (λ opening. Then (IsExpr texts 0 r) (λ x. Then (Signs sign.Comma) (λ before_second. Then (IsExpr texts 0 x.1) (λ y. Then (Signs sign.Comma) (λ before_third. Then (IsExpr texts 0 y.1)
      (λ z. Then (Signs sign.ParenClose) (λ closing. Done (expr.Call n (x.0 ∷ y.0 ∷ z.0 ∷ []), z.1)))))))))
      v (record {
        value = opening;
        between = a;
        first = o;
        rest = record {
          value = i;
          between = b;
          first = l;
          rest = record {
            value = first;
            between = c;
            first = m;
            rest = record {
              value = j;
              between = d;
              first = n;
              rest =
                  record { value = second; between = g; first = q; rest = record { value = k; between = h; first = z; rest = record { value = closing; between = vs; first = w; rest = with_left y _ k.1 vs v.2 } } };
            };
          };
        };
      })))
  heads s t us vs x (grammar.order {r = r} {opening = opening} {closing = closing} {vs = a} {ws = b} {args = args} {e = y} d f o l m c) =
      counted s r t us vs (y, args.1) (ap start_of d) f (parts.order d (given (codes "ORDER") t args.0 y us vs (y, args.1)
      (λ n. Then (Signs sign.ParenOpen) (λ opening. Then (AreSome texts r) (λ args. Then (Signs sign.ParenClose) (λ closing. Done (expr.Call n args.0, args.1)))))
      c (record { value = opening; between = a; first = o; rest = record { value = args; between = b; first = l; rest = record { value = closing; between = vs; first = m; rest = with_left y _ args.1 vs c.2 } } })))

  -- ---- and back

  name_call : (f : List ℕ) (at : ℕ) (us a : List Token) (n : Name) (args : List Expr) → HasFunction texts f at us n a → IsCall texts f at args (expr.Call n args)
  name_call f at us a n args h = (n.id, h.text, ap (λ (z : ℕ). expr.Call (record { at = z; id = n.id }) args) h.place)

  null_tails : (s r : Counts) (t : Token) (us vs a : List Token) (n : Name) (x : Expr × Counts) → t.what ≡ kind.Key key.PtgNull → spent s ≡ Some r → HasFunction texts (codes "PTGNULL") t.from us n a → Done (expr.Call n [], r) a x vs → IsPrimary texts s (t ∷ us) x vs
  null_tails s r t us vs a n x d f h done = subst (λ z. IsPrimary texts s (t ∷ us) z vs) (sym done.same) (subst (λ z. IsPrimary texts s (t ∷ us) (expr.Call n [], r) z) (sym (done.behind ∙ h.behind))
      (grammar.ptg_null d f (name_call (codes "PTGNULL") t.from us a n [] h)))

  parenthesized_tails : (s r : Counts) (t closing : Token) (us a b vs : List Token) (x y : Expr × Counts) → t.what ≡ kind.Sign sign.ParenOpen → spent s ≡ Some r → IsExpr texts 0 r us y a → Signs sign.ParenClose a closing b → Done y b x vs → IsPrimary texts s (t ∷ us) x vs
  parenthesized_tails s r t closing us a b vs x y d f q c done = subst (λ z. IsPrimary texts s (t ∷ us) z vs) (sym done.same) (subst (λ z. IsPrimary texts s (t ∷ us) y z) (sym done.behind) (grammar.parenthesized d f q c))

  choice_tails : (s r : Counts) (t : Token) (us vs : List Token) (x : Expr × Counts) → t.what ≡ kind.Key key.If → spent s ≡ Some r → IsChoice texts t.from r us x vs → IsPrimary texts s (t ∷ us) x vs
  choice_tails s r t us vs x d f h =
      let open_paren = h.rest in let i = open_paren.rest in let first = i.rest in let j = first.rest in let second = j.rest in let k = second.rest in let closing = k.rest in let done = closing.rest in
      let args : List Expr = i.value.0 ∷ j.value.0 ∷ k.value.0 ∷ [] in
      subst (λ z. IsPrimary texts s (t ∷ us) z vs) (sym done.same) (subst (λ z. IsPrimary texts s (t ∷ us) (expr.Call h.value args, k.value.1) z) (sym done.behind)
      (grammar.choice d f (subst (λ z. Signs sign.ParenOpen z open_paren.value open_paren.between) h.first.behind open_paren.first) i.first first.first j.first second.first k.first closing.first
      (name_call (codes "IF") t.from us h.between h.value args h.first)))

  order_tails : (s r : Counts) (t : Token) (us vs : List Token) (x : Expr × Counts) → t.what ≡ kind.Key key.Order → spent s ≡ Some r → IsOrder texts t.from r us x vs → IsPrimary texts s (t ∷ us) x vs
  order_tails s r t us vs x d f h =
      let open_paren = h.rest in let args = open_paren.rest in let closing = args.rest in let done = closing.rest in
      subst (λ z. IsPrimary texts s (t ∷ us) z vs) (sym done.same) (subst (λ z. IsPrimary texts s (t ∷ us) (expr.Call h.value args.value.0, args.value.1) z) (sym done.behind)
      (grammar.order d f (subst (λ z. Signs sign.ParenOpen z open_paren.value open_paren.between) h.first.behind open_paren.first) args.first closing.first
      (name_call (codes "ORDER") t.from us h.between h.value args.value.0 h.first)))

  counted_tails : (s r : Counts) (t : Token) (us vs : List Token) (x : Expr × Counts) → spent s ≡ Some r → IsCounted texts t r us x vs → IsPrimary texts s (t ∷ us) x vs
  counted_tails s r t us vs x f (parts.ptg_null d h) = null_tails s r t us vs h.between h.value x d f h.first h.rest
  counted_tails s r t us vs x f (parts.parenthesized d h) = parenthesized_tails s r t h.rest.value us h.between h.rest.between vs x h.value d f h.first h.rest.first h.rest.rest
  counted_tails s r t us vs x f (parts.choice d h) = choice_tails s r t us vs x d f h
  counted_tails s r t us vs x f (parts.order d h) = order_tails s r t us vs x d f h

  called_tails : (s r : Counts) (ts us a vs : List Token) (n : Name) (opening : Token) (x : Expr × Counts) → IsName ts n us → Signs sign.ParenOpen us opening a → spent s ≡ Some r → IsCalled texts n r a x vs → IsPrimary texts s ts x vs
  called_tails s r ts us a vs n opening x m o f (parts.without h) = subst (λ z. IsPrimary texts s ts z vs) (sym h.rest.same) (subst (λ z. IsPrimary texts s ts (expr.Call n [], r) z) (sym h.rest.behind) (grammar.call m o f grammar.none h.first))
  called_tails s r ts us a vs n opening x m o f (parts.with_arguments h) = subst (λ z. IsPrimary texts s ts z vs) (sym h.rest.rest.same)
      (subst (λ z. IsPrimary texts s ts (expr.Call n h.value.0, h.value.1) z) (sym h.rest.rest.behind) (grammar.call m o f (grammar.some h.first) h.rest.first))

  indexed_tails : (s : Counts) (ts us a vs : List Token) (n : Name) (i : Option ℤ) (x : Expr × Counts) → IsName ts n us → IsIndex us i a → IsIndexed texts s n i a x vs → IsPrimary texts s ts x vs
  indexed_tails s ts us a vs n i x m index (parts.read h) = subst (λ z. IsPrimary texts s ts z vs) (sym h.rest.same) (subst (λ z. IsPrimary texts s ts (h.value, s) z) (sym h.rest.behind)
      (grammar.read (then_at (IsPlace in_reads) IsReadOf ts a h.between (n.at, place.Named n i) h.value (named (then_at IsName (λ n. Then IsIndex (λ i. Done (n.at, place.Named n i))) ts us a n (n.at, place.Named n i) m
      (then_at IsIndex (λ i. Done (n.at, place.Named n i)) us a a i (n.at, place.Named n i) index (done_at (n.at, place.Named n i) a)))) h.first)))
  indexed_tails s ts us a vs n i x m index (parts.bare h) = subst (λ z. IsPrimary texts s ts z vs) (sym h.same) (subst (λ z. IsPrimary texts s ts (expr.Terminal n i, s) z) (sym h.behind) (grammar.terminal m index))

  named_tails : (s : Counts) (ts us vs : List Token) (n : Name) (x : Expr × Counts) → IsName ts n us → IsNamed texts s n us x vs → IsPrimary texts s ts x vs
  named_tails s ts us vs n x m (parts.called h) = called_tails s h.rest.left ts us h.between vs n h.value x m h.first h.rest.spends h.rest.phrase
  named_tails s ts us vs n x m (parts.placed h) = indexed_tails s ts us h.between vs n h.value x m h.first h.rest

  -- ---- the leads to a primary

  int_completable : (s : Counts) → Completable (IsPrimary texts s)
  int_completable s = let t : Token = record { from = 0; to = 0; what = kind.Int (pos 1) } in (t ∷ [], (expr.Int 0 (pos 1), s), (λ vs. grammar.constant refl))

  pub primary_completable : (s : Counts) → Completable (IsPrimary texts s)
  primary_completable s = int_completable s

  pub led_by : (s : Counts) (t : Token) (us vs : List Token) (x : Expr × Counts) (w : Start) → start_of t.what ≡ w → IsPrimary texts s (t ∷ us) x vs → Led w s t us x vs
  led_by s t us vs x w d n = subst (λ z. Led z s t us x vs) d (heads s t us vs x n)

  pub spent_same : (s q r : Counts) (t : Token) (us vs : List Token) (x : Expr × Counts) → spent s ≡ Some q → spent s ≡ Some r → IsCounted texts t q us x vs → IsCounted texts t r us x vs
  spent_same s q r t us vs x f g h = let both : Some q ≡ Some r = sym f ∙ g in let same : q ≡ r = cc in subst (λ z. IsCounted texts t z us x vs) same h

  pub counted_leads : (s r : Counts) (t : Token) → start_of t.what ≡ start.Counted → spent s ≡ Some r → (us : List Token) → Leads (IsCounted texts t r) follows us (IsPrimary texts s) follows (t ∷ us)
  counted_leads s r t d f us = led_leads (IsPrimary texts s) follows t (IsCounted texts t r) (λ us vs x h. counted_tails s r t us vs x f h)
      (λ us vs x n. let h = led_by s t us vs x start.Counted d n in inl (spent_same s h.left r t us vs x h.spends f h.phrase)) us

  -- a token that counts, where nothing may be spent
  pub counted_exhausted : (s : Counts) (t : Token) (us : List Token) → start_of t.what ≡ start.Counted → spent s ≡ None → Refuses (IsPrimary texts s) follows (t ∷ us) (t ∷ us)
  counted_exhausted s t us d f = refused_next (IsPrimary texts s) follows t us (primary_completable s) (λ us vs x n. let h = led_by s t us vs x start.Counted d n in let both : Some h.left ≡ None = sym h.spends ∙ f in cc)

  pub constant_finds : (s : Counts) (t : Token) (us : List Token) (y : Expr) → constant_of t.from t.what ≡ Some y → Finds (IsPrimary texts s) follows (t ∷ us) (y, s) us
  constant_finds s t us y d = record {
    taken = t ∷ [];
    parts = refl;
    phrase = λ vs. grammar.constant d;
    only = λ vs m x ws n. let h = led_by s t vs ws x start.Constant (constant_start t.from t.what y d) n in let both : Some x.0 ≡ Some y = sym h.0 ∙ d in let same : x.0 ≡ y = cc in inl (ap (λ (z : Expr). (z, x.1)) same ∙ ap (λ (z : Counts). (y, z)) h.1, h.2);
  }

  pub constant_refuses : (s : Counts) (t : Token) (us : List Token) → start_of t.what ≡ start.Constant → constant_of t.from t.what ≡ None → Refuses (IsPrimary texts s) follows (t ∷ us) (t ∷ us)
  constant_refuses s t us d f = refused_next (IsPrimary texts s) follows t us (primary_completable s) (λ us vs x n. let h = led_by s t us vs x start.Constant d n in let both : Some x.0 ≡ None = sym h.0 ∙ f in cc)

  pub other_refuses : (s : Counts) (t : Token) (us : List Token) → start_of t.what ≡ start.Other → Refuses (IsPrimary texts s) follows (t ∷ us) (t ∷ us)
  other_refuses s t us d = refused_next (IsPrimary texts s) follows t us (primary_completable s) (λ us vs x n. absurd (led_by s t us vs x start.Other d n))

  name_some : (ts us : List Token) (n : Name) → ts ≡ [] → IsName ts n us → ⊥
  name_some ts us n d (word f) = cc

  place_some : (ts us : List Token) (q : ℕ × Place) → ts ≡ [] → IsPlace in_reads ts q us → ⊥
  place_some ts us q d (named h) = name_some ts h.between h.value d h.first
  place_some ts us q d (by_word (context f g)) = cc

  sees_some : (k : TokenKind) (ts us : List Token) (t : Token) → ts ≡ [] → Sees k ts t us → ⊥
  sees_some k ts us t d (token f) = cc

  primary_some : (s : Counts) (ts us : List Token) (x : Expr × Counts) → ts ≡ [] → IsPrimary texts s ts x us → ⊥
  primary_some s ts us x d (grammar.constant f) = cc
  primary_some s ts us x d (grammar.ptg_null f g h) = cc
  primary_some s ts us x d (grammar.parenthesized f g h i) = cc
  primary_some s ts us x d (grammar.read h) = place_some ts h.between h.value d h.first
  primary_some s ts us x d (grammar.including h) = sees_some (kind.Key key.Including) ts h.between h.value d h.first
  primary_some s ts us x d (grammar.constituents h) = sees_some (kind.Key key.Constituents) ts h.between h.value d h.first
  primary_some s ts us x d (grammar.terminal {us = a} {n = n} m f) = name_some ts a n d m
  primary_some s ts us x d (grammar.call {us = a} {n = n} m f g h i) = name_some ts a n d m
  primary_some s ts us x d (grammar.choice f g h i j k l m n o) = cc
  primary_some s ts us x d (grammar.order f g h i j k) = cc

  pub end_refuses : (s : Counts) → Refuses (IsPrimary texts s) follows [] []
  end_refuses s = let (more, x, whole) = primary_completable s in refuses_here (IsPrimary texts s) follows [] more x whole (λ vs m y ws n. go vs y ws m n)
    where
      go : (vs : List Token) (y : Expr × Counts) (ws : List Token) → SameHead {T = Token} [] vs → IsPrimary texts s vs y ws → GoesOn follows ws
      go [] y ws m n = absurd (primary_some s [] ws y refl n)
      go (v ∷ vs) y ws m n = absurd m

  including_tails : (s : Counts) (t : Token) (us vs : List Token) (x : Expr × Counts) → t.what ≡ kind.Key key.Including → Then (IsIncludingOf t.from) (λ y. Done (y, s)) us x vs → IsPrimary texts s (t ∷ us) x vs
  including_tails s t us vs x d h = subst (λ z. IsPrimary texts s (t ∷ us) z vs) (sym h.rest.same) (subst (λ z. IsPrimary texts s (t ∷ us) (h.value, s) z) (sym h.rest.behind)
      (grammar.including (then_at (Sees (kind.Key key.Including)) (λ t. IsIncludingOf t.from) (t ∷ us) us h.between t h.value (token d) h.first)))

  pub including_leads : (s : Counts) (t : Token) → t.what ≡ kind.Key key.Including → (us : List Token) → Leads (Then (IsIncludingOf t.from) (λ y. Done (y, s))) follows us (IsPrimary texts s) follows (t ∷ us)
  including_leads s t d us = led_leads (IsPrimary texts s) follows t (Then (IsIncludingOf t.from) (λ y. Done (y, s))) (λ us vs x h. including_tails s t us vs x d h) (λ us vs x n. inl (led_by s t us vs x start.Including (ap start_of d) n)) us

  constituents_tails : (s : Counts) (t : Token) (us vs : List Token) (x : Expr × Counts) → t.what ≡ kind.Key key.Constituents → Then (AreConstituentsOf t.from s.number) (λ k. Done (expr.Constituents k, numbered s)) us x vs → IsPrimary texts s (t ∷ us) x vs
  constituents_tails s t us vs x d h = subst (λ z. IsPrimary texts s (t ∷ us) z vs) (sym h.rest.same) (subst (λ z. IsPrimary texts s (t ∷ us) (expr.Constituents h.value, numbered s) z) (sym h.rest.behind)
      (grammar.constituents (then_at (Sees (kind.Key key.Constituents)) (λ t. AreConstituentsOf t.from s.number) (t ∷ us) us h.between t h.value (token d) h.first)))

  pub constituents_leads : (s : Counts) (t : Token) → t.what ≡ kind.Key key.Constituents → (us : List Token) → Leads (Then (AreConstituentsOf t.from s.number) (λ k. Done (expr.Constituents k, numbered s))) follows us (IsPrimary texts s) follows (t ∷ us)
  constituents_leads s t d us = led_leads (IsPrimary texts s) follows t (Then (AreConstituentsOf t.from s.number) (λ k. Done (expr.Constituents k, numbered s))) (λ us vs x h. constituents_tails s t us vs x d h)
      (λ us vs x n. inl (led_by s t us vs x start.Constituents (ap start_of d) n)) us

  -- where the next token is t
  from_same : (s : Counts) (t : Token) (w : Start) (rest us vs : List Token) (x : Expr × Counts) (N : List Token → Expr × Counts → List Token → Type 0) → ((us : List Token) → Led w s t us x vs → N (t ∷ us) x vs) → start_of t.what ≡ w → SameHead (t ∷ rest) us
      → IsPrimary texts s us x vs → N us x vs
  from_same s t w rest [] vs x N into d m n = absurd m
  from_same s t w rest (u ∷ us) vs x N into d m n = subst (λ z. N (z ∷ us) x vs) m (into us (led_by s t us vs x w d (subst (λ z. IsPrimary texts s (z ∷ us) x vs) (sym m) n)))

  context_tails : (s : Counts) (us vs : List Token) (x : Expr × Counts) → Then IsRead (λ y. Done (y, s)) us x vs → IsPrimary texts s us x vs
  context_tails s us vs x h = subst (λ z. IsPrimary texts s us z vs) (sym h.rest.same) (subst (λ z. IsPrimary texts s us (h.value, s) z) (sym h.rest.behind) (grammar.read h.first))

  pub context_leads : (s : Counts) (t : Token) (rest : List Token) → start_of t.what ≡ start.Context → Leads (Then IsRead (λ y. Done (y, s))) follows (t ∷ rest) (IsPrimary texts s) follows (t ∷ rest)
  context_leads s t rest d = chosen (Then IsRead (λ y. Done (y, s))) (IsPrimary texts s) follows (t ∷ rest) (λ us vs x h. context_tails s us vs x h) (λ us vs x m n. inl (from_same s t start.Context rest us vs x (Then IsRead (λ y. Done (y, s))) (λ us h. h) d m n))

  pub word_leads : (s : Counts) (t : Token) (rest : List Token) → start_of t.what ≡ start.Word → Leads (Then IsName (λ n. IsNamed texts s n)) follows (t ∷ rest) (IsPrimary texts s) follows (t ∷ rest)
  word_leads s t rest d = chosen (Then IsName (λ n. IsNamed texts s n)) (IsPrimary texts s) follows (t ∷ rest) (λ us vs x h. named_tails s us h.between vs h.value x h.first h.rest)
      (λ us vs x m n. inl (from_same s t start.Word rest us vs x (Then IsName (λ n. IsNamed texts s n)) (λ us h. h) d m n))

  -- ---- what counts

  pub null_leads : (t : Token) (r : Counts) (us : List Token) → t.what ≡ kind.Key key.PtgNull → Leads (IsNull texts t.from r) follows us (IsCounted texts t r) follows us
  null_leads t r us d = chosen (IsNull texts t.from r) (IsCounted texts t r) follows us (λ us vs x h. parts.ptg_null d h) (λ us vs x m n. inl (go us vs x n))
    where
      go : (us vs : List Token) (x : Expr × Counts) → IsCounted texts t r us x vs → IsNull texts t.from r us x vs
      go us vs x (parts.ptg_null f h) = h
      go us vs x (parts.parenthesized f h) = cc
      go us vs x (parts.choice f h) = cc
      go us vs x (parts.order f h) = cc

  pub parenthesized_leads : (t : Token) (r : Counts) (us : List Token) → t.what ≡ kind.Sign sign.ParenOpen → Leads (IsParenthesized texts r) follows us (IsCounted texts t r) follows us
  parenthesized_leads t r us d = chosen (IsParenthesized texts r) (IsCounted texts t r) follows us (λ us vs x h. parts.parenthesized d h) (λ us vs x m n. inl (go us vs x n))
    where
      go : (us vs : List Token) (x : Expr × Counts) → IsCounted texts t r us x vs → IsParenthesized texts r us x vs
      go us vs x (parts.ptg_null f h) = cc
      go us vs x (parts.parenthesized f h) = h
      go us vs x (parts.choice f h) = cc
      go us vs x (parts.order f h) = cc

  pub choice_leads : (t : Token) (r : Counts) (us : List Token) → t.what ≡ kind.Key key.If → Leads (IsChoice texts t.from r) follows us (IsCounted texts t r) follows us
  choice_leads t r us d = chosen (IsChoice texts t.from r) (IsCounted texts t r) follows us (λ us vs x h. parts.choice d h) (λ us vs x m n. inl (go us vs x n))
    where
      go : (us vs : List Token) (x : Expr × Counts) → IsCounted texts t r us x vs → IsChoice texts t.from r us x vs
      go us vs x (parts.ptg_null f h) = cc
      go us vs x (parts.parenthesized f h) = cc
      go us vs x (parts.choice f h) = h
      go us vs x (parts.order f h) = cc

  pub order_leads : (t : Token) (r : Counts) (us : List Token) → t.what ≡ kind.Key key.Order → Leads (IsOrder texts t.from r) follows us (IsCounted texts t r) follows us
  order_leads t r us d = chosen (IsOrder texts t.from r) (IsCounted texts t r) follows us (λ us vs x h. parts.order d h) (λ us vs x m n. inl (go us vs x n))
    where
      go : (us vs : List Token) (x : Expr × Counts) → IsCounted texts t r us x vs → IsOrder texts t.from r us x vs
      go us vs x (parts.ptg_null f h) = cc
      go us vs x (parts.parenthesized f h) = cc
      go us vs x (parts.choice f h) = cc
      go us vs x (parts.order f h) = h

  -- ---- behind a name

  pub opening_follows : (t : Token) → t.what ≡ kind.Sign sign.ParenOpen → IsTrue (follows t)
  opening_follows t d = rw d refl

  pub dot_follows : (t : Token) → t.what ≡ kind.Sign sign.Dot → IsTrue (follows t)
  dot_follows t d = rw d refl

  -- a name that ends before a token that continues it
  pub bare_before : (k : TokenKind) (s : Counts) (n : Name) (i : Option ℤ) (us vs ws : List Token) (u : Token) (x : Expr × Counts) → ((t : Token) → t.what ≡ k → IsTrue (follows t)) → (k ≡ kind.Sign sign.Dot → ⊥) → Sees k us u ws → IsIndexed texts s n i us x vs → GoesOn follows vs
  bare_before k s n i us vs ws u x going differs (token d) (parts.bare h) = subst (GoesOn follows) (sym h.behind) (going u d)
  bare_before k s n i us vs ws u x going differs (token d) (parts.read h) = absurd (apart u ws h.first.between h.first.value d h.first.first)
    where
      apart : (u : Token) (ws zs : List Token) (v : Token) → u.what ≡ k → Sees (kind.Sign sign.Dot) (u ∷ ws) v zs → ⊥
      apart u ws zs v d (token f) = differs (sym d ∙ f)

  pub index_before : (k : TokenKind) (us vs ws : List Token) (u : Token) (i : Option ℤ) → (k ≡ kind.Sign sign.BracketOpen → ⊥) → Sees k us u ws → IsIndex us i vs → vs ≡ us
  index_before k us vs ws u i differs n (absent d) = refl
  index_before k us vs ws u i differs n (present h) = absurd (apart us ws h.between u h.value n h.first)
    where
      apart : (us ws zs : List Token) (u v : Token) → Sees k us u ws → Sees (kind.Sign sign.BracketOpen) us v zs → ⊥
      apart us ws zs u v (token d) (token f) = differs (sym d ∙ f)

  called_from : (s r : Counts) (n : Name) (ts us vs : List Token) (t : Token) (ws : List Token) (x : Expr × Counts) → Signs sign.ParenOpen ts t ws → SameHead ts us → IsNamed texts s n us x vs → Then (Signs sign.ParenOpen) (λ opening. Spending s (IsCalled texts n)) us x vs ⊎ GoesOn follows vs
  called_from s r n ts us vs t ws x o m (parts.called h) = inl h
  called_from s r n ts us vs t ws x o m (parts.placed h) = let q = same_opening ts us t ws o m in inr (bare_before (kind.Sign sign.ParenOpen) s n h.value us vs q.1 q.0 x opening_follows (λ d. cc) q.2
      (subst (λ z. IsIndexed texts s n h.value z x vs) (index_before (kind.Sign sign.ParenOpen) us h.between q.1 q.0 h.value (λ d. cc) q.2 h.first) h.rest))
    where
      same_opening : (ts us : List Token) (t : Token) (ws : List Token) → Signs sign.ParenOpen ts t ws → SameHead ts us → (u : Token) × (zs : List Token) × Signs sign.ParenOpen us u zs
      same_opening ts [] t ws (token d) m = absurd m
      same_opening ts (u ∷ us) t ws (token d) m = (u, us, token (ap (λ z. z.what) (sym m) ∙ d))

  pub spent_called : (s q r : Counts) (n : Name) (us vs : List Token) (x : Expr × Counts) → spent s ≡ Some q → spent s ≡ Some r → IsCalled texts n q us x vs → IsCalled texts n r us x vs
  spent_called s q r n us vs x f g h = let both : Some q ≡ Some r = sym f ∙ g in let same : q ≡ r = cc in subst (λ z. IsCalled texts n z us x vs) same h

  pub called_leads : (s r : Counts) (n : Name) (ts us : List Token) (t : Token) → spent s ≡ Some r → Signs sign.ParenOpen ts t us → Leads (IsCalled texts n r) follows us (IsNamed texts s n) follows ts
  called_leads s r n ts us t f o = leads_on (IsCalled texts n r) (Spending s (IsCalled texts n)) (IsNamed texts s n) follows follows follows ts us us
      (chosen (IsCalled texts n r) (Spending s (IsCalled texts n)) follows us (λ us vs x h. record { left = r; spends = f; phrase = h }) (λ us vs x m h. inl (spent_called s h.left r n us vs x h.spends f h.phrase)))
      (past (Signs sign.ParenOpen) nothing (λ opening. Spending s (IsCalled texts n)) (IsNamed texts s n) follows follows (never follows (λ opening. Spending s (IsCalled texts n))) ts ts us t
      (chosen (Then (Signs sign.ParenOpen) (λ opening. Spending s (IsCalled texts n))) (IsNamed texts s n) follows ts (λ us vs x h. parts.called h) (λ us vs x m h. called_from s r n ts us vs t _ x o m h))
      (sees_finds (kind.Sign sign.ParenOpen) nothing ts us t o))

  pub named_completable : (s : Counts) (n : Name) → Completable (IsNamed texts s n)
  named_completable s n = ([], (expr.Terminal n None, s), (λ vs. parts.placed (then_at IsIndex (λ i. IsIndexed texts s n i) vs vs vs None (expr.Terminal n None, s) (absent refl) (parts.bare (done_at (expr.Terminal n None, s) vs)))))

  pub called_exhausted : (s : Counts) (n : Name) (ts us : List Token) (t : Token) → spent s ≡ None → Signs sign.ParenOpen ts t us → Refuses (IsNamed texts s n) follows ts ts
  called_exhausted s n ts us t f o = let (more, x, whole) = named_completable s n in refuses_here (IsNamed texts s n) follows ts more x whole (λ vs m y ws h. go vs y ws (called_from s s n ts vs ws t us y o m h))
    where
      go : (vs : List Token) (y : Expr × Counts) (ws : List Token) → Then (Signs sign.ParenOpen) (λ opening. Spending s (IsCalled texts n)) vs y ws ⊎ GoesOn follows ws → GoesOn follows ws
      go vs y ws (inl h) = let both : Some h.rest.left ≡ None = sym h.rest.spends ∙ f in cc
      go vs y ws (inr h) = h

  placed_from : (s : Counts) (n : Name) (ts us vs : List Token) (x : Expr × Counts) → ((t : Token) (ws : List Token) → Signs sign.ParenOpen ts t ws → ⊥) → SameHead ts us → IsNamed texts s n us x vs → Then IsIndex (λ i. IsIndexed texts s n i) us x vs
  placed_from s n ts us vs x none m (parts.called h) = let q = same_token (kind.Sign sign.ParenOpen) ts us h.between h.value m h.first in absurd (none h.value q.0 q.1)
  placed_from s n ts us vs x none m (parts.placed h) = h

  pub placed_leads : (s : Counts) (n : Name) (ts : List Token) → ((t : Token) (us : List Token) → Signs sign.ParenOpen ts t us → ⊥) → Leads (Then IsIndex (λ i. IsIndexed texts s n i)) follows ts (IsNamed texts s n) follows ts
  placed_leads s n ts none = chosen (Then IsIndex (λ i. IsIndexed texts s n i)) (IsNamed texts s n) follows ts (λ us vs x h. parts.placed h) (λ us vs x m h. inl (placed_from s n ts us vs x none m h))

  bracket_kind : (k : TokenKind) → IsTrue (is_bracket_kind k) → k ≡ kind.Sign sign.BracketOpen
  bracket_kind (kind.Sign sign.BracketOpen) h = refl
  bracket_kind (kind.Sign _) h = cc
  bracket_kind _ h = cc

  bracket_follows : (t : Token) → t.what ≡ kind.Sign sign.BracketOpen → IsTrue (follows t)
  bracket_follows t d = rw d refl

  pub indexed_stops : (s : Counts) (n : Name) → Stops is_bracket follows (λ i. IsIndexed texts s n i)
  indexed_stops s n i [] vs x h g = absurd g
  indexed_stops s n i (u ∷ us) vs x h g = bare_before (kind.Sign sign.BracketOpen) s n i (u ∷ us) vs us u x bracket_follows (λ d. cc) (token (bracket_kind u.what g)) h

  pub indexed_completable : (s : Counts) (n : Name) (i : Option ℤ) → Completable (IsIndexed texts s n i)
  indexed_completable s n i = ([], (expr.Terminal n i, s), (λ vs. parts.bare (done_at (expr.Terminal n i, s) vs)))

  dot_from : (s : Counts) (n : Name) (i : Option ℤ) (ts us vs ws : List Token) (t : Token) (x : Expr × Counts) → Signs sign.Dot ts t ws → SameHead ts us → IsIndexed texts s n i us x vs → Then (IsReadOf (n.at, place.Named n i)) (λ y. Done (y, s)) us x vs ⊎ GoesOn follows vs
  dot_from s n i ts us vs ws t x o m (parts.read h) = inl h
  dot_from s n i ts us vs ws t x o m (parts.bare h) = inr (subst (GoesOn follows) (sym h.behind) (goes_on (kind.Sign sign.Dot) follows dot_follows ts ws us t o m))

  pub dot_leads : (s : Counts) (n : Name) (i : Option ℤ) (ts us : List Token) (t : Token) → Signs sign.Dot ts t us → Leads (Then (IsReadOf (n.at, place.Named n i)) (λ y. Done (y, s))) follows ts (IsIndexed texts s n i) follows ts
  dot_leads s n i ts us t o = chosen (Then (IsReadOf (n.at, place.Named n i)) (λ y. Done (y, s))) (IsIndexed texts s n i) follows ts (λ us vs x h. parts.read h) (λ us vs x m h. dot_from s n i ts us vs _ t x o m h)

  pub bare_finds : (s : Counts) (n : Name) (i : Option ℤ) (ts : List Token) → ((t : Token) (us : List Token) → Signs sign.Dot ts t us → ⊥) → Finds (IsIndexed texts s n i) follows ts (expr.Terminal n i, s) ts
  bare_finds s n i ts none = empty_finds (IsIndexed texts s n i) follows ts (expr.Terminal n i, s) (λ vs. parts.bare (done_at (expr.Terminal n i, s) vs)) (λ vs m y ws h. go vs y ws m h)
    where
      go : (vs : List Token) (y : Expr × Counts) (ws : List Token) → SameHead ts vs → IsIndexed texts s n i vs y ws → ((y ≡ (expr.Terminal n i, s)) × (ws ≡ vs)) ⊎ GoesOn follows ws
      go vs y ws m (parts.bare h) = inl (h.same, h.behind)
      go vs y ws m (parts.read h) = let q = same_token (kind.Sign sign.Dot) ts vs h.first.between h.first.value m h.first.first in absurd (none h.first.value q.0 q.1)

  -- ---- arguments

  pub prefix_start : (k : TokenKind) (f : List ℕ) → prefix_of k ≡ Some f → start_of k ≡ start.Other
  prefix_start (kind.Sign sign.Minus) f d = refl
  prefix_start (kind.Sign sign.Bang) f d = refl
  prefix_start (kind.Sign _) f d = cc
  prefix_start (kind.Key _) f d = cc
  prefix_start (kind.Word _) f d = cc
  prefix_start (kind.Int _) f d = cc
  prefix_start (kind.Str _) f d = cc
  prefix_start (kind.Literal _) f d = cc

  expr_no_close : (k : ℕ) (s : Counts) (us vs : List Token) (x : Expr × Counts) → IsExpr texts k s us x vs → (u : Token) (ws : List Token) → Signs sign.ParenClose us u ws → ⊥
  expr_no_close k s us vs x (grammar.operands {us = a} {l = l} d q r) u ws c = expr_no_close (suc k) s us a l q u ws c
  expr_no_close k s us vs x (grammar.prefix f d q r) u ws (token c) = let none : None ≡ Some _ = sym (ap prefix_of c) ∙ f in cc
  expr_no_close k s us vs x (grammar.primary q) u ws (token c) = led_by s u ws vs x start.Other (ap start_of c) q

  pub some_no_close : (s : Counts) (us vs : List Token) (args : List Expr × Counts) → AreSome texts s us args vs → (u : Token) (ws : List Token) → Signs sign.ParenClose us u ws → ⊥
  some_no_close s us vs args (grammar.first {us = a} {e = l} q r) u ws c = expr_no_close 0 s us a l q u ws c

  same_close : (ts us : List Token) (t : Token) (ws : List Token) → Signs sign.ParenClose ts t ws → SameHead ts us → (u : Token) × (zs : List Token) × Signs sign.ParenClose us u zs
  same_close ts [] t ws (token d) m = absurd m
  same_close ts (u ∷ us) t ws (token d) m = (u, us, token (ap (λ z. z.what) (sym m) ∙ d))

  without_from : (n : Name) (r : Counts) (ts ws us vs : List Token) (t : Token) (x : Expr × Counts) → Signs sign.ParenClose ts t ws → SameHead ts us → IsCalled texts n r us x vs → Then (Signs sign.ParenClose) (λ closing. Done (expr.Call n [], r)) us x vs
  without_from n r ts ws us vs t x c m (parts.without h) = h
  without_from n r ts ws us vs t x c m (parts.with_arguments h) = let q = same_close ts us t ws c m in absurd (some_no_close r us h.between h.value h.first q.0 q.1 q.2)

  pub without_finds : (n : Name) (r : Counts) (ts us : List Token) (t : Token) → Signs sign.ParenClose ts t us → Finds (IsCalled texts n r) follows ts (expr.Call n [], r) us
  without_finds n r ts us t c = ends (expr.Call n [], r) (IsCalled texts n r) follows follows ts us
      (past (Signs sign.ParenClose) nothing (λ closing. Done (expr.Call n [], r)) (IsCalled texts n r) follows follows (never follows (λ closing. Done (expr.Call n [], r))) ts ts us t
      (chosen (Then (Signs sign.ParenClose) (λ closing. Done (expr.Call n [], r))) (IsCalled texts n r) follows ts (λ us vs x h. parts.without h) (λ us vs x m h. inl (without_from n r ts _ us vs t x c m h)))
      (sees_finds (kind.Sign sign.ParenClose) nothing ts us t c))

  with_from : (n : Name) (r : Counts) (ts us vs : List Token) (x : Expr × Counts) → ((t : Token) (ws : List Token) → Signs sign.ParenClose ts t ws → ⊥) → SameHead ts us → IsCalled texts n r us x vs
      → Then (AreSome texts r) (λ args. Then (Signs sign.ParenClose) (λ closing. Done (expr.Call n args.0, args.1))) us x vs
  with_from n r ts us vs x none m (parts.without h) = let q = same_token (kind.Sign sign.ParenClose) ts us h.between h.value m h.first in absurd (none h.value q.0 q.1)
  with_from n r ts us vs x none m (parts.with_arguments h) = h

  pub arguments_lead : (n : Name) (r : Counts) (ts : List Token) → ((t : Token) (us : List Token) → Signs sign.ParenClose ts t us → ⊥)
      → Leads (Then (AreSome texts r) (λ args. Then (Signs sign.ParenClose) (λ closing. Done (expr.Call n args.0, args.1)))) follows ts (IsCalled texts n r) follows ts
  arguments_lead n r ts none = chosen (Then (AreSome texts r) (λ args. Then (Signs sign.ParenClose) (λ closing. Done (expr.Call n args.0, args.1)))) (IsCalled texts n r) follows ts (λ us vs x h. parts.with_arguments h)
      (λ us vs x m h. inl (with_from n r ts us vs x none m h))

  -- ---- lists of expressions

  pub list_wider : IsWider (continues 0) continues_list
  list_wider [] h = h
  list_wider (u ∷ us) h = or_right (is_comma u) (continues 0 u) h

  comma_no_operator : (t : Token) → t.what ≡ kind.Sign sign.Comma → IsTrue (continues 0 t) → ⊥
  comma_no_operator t d h = let no_operator = rw d at h in cc

  pub comma_in_list : (t : Token) → t.what ≡ kind.Sign sign.Comma → IsTrue (continues_list t)
  comma_in_list t d = rw d refl

  pub further_stops : (f : Expr × Counts → List Expr × Counts) → Stops (continues 0) continues_list (λ x. AreFurther texts (f x))
  further_stops f a us vs all h g = go (f a) us vs all h g
    where
      go : (found : List Expr × Counts) (us vs : List Token) (all : List Expr × Counts) → AreFurther texts found us all vs → GoesOn (continues 0) us → GoesOn continues_list vs
      go found us vs all grammar.last g = list_wider us g
      go found us vs all (grammar.further {t = t} (token d) q r) g = absurd (comma_no_operator t d g)

  further_completable : (found : List Expr × Counts) → Completable (AreFurther texts found)
  further_completable found = ([], found, (λ vs. grammar.last))

  pub some_from : (s : Counts) (us vs : List Token) (all : List Expr × Counts) → AreSome texts s us all vs → Then (IsExpr texts 0 s) (λ x. AreFurther texts (x.0 ∷ [], x.1)) us all vs
  some_from s us vs all (grammar.first {us = a} {e = l} q r) = record { value = l; between = a; first = q; rest = r }

  first_expression : (s : Counts) (ts : List Token) → Leads (Then (IsExpr texts 0 s) (λ x. AreFurther texts (x.0 ∷ [], x.1))) continues_list ts (AreSome texts s) continues_list ts
  first_expression s ts = chosen (Then (IsExpr texts 0 s) (λ x. AreFurther texts (x.0 ∷ [], x.1))) (AreSome texts s) continues_list ts (λ us vs all h. grammar.first h.first h.rest) (λ us vs all m h. inl (some_from s us vs all h))

  pub some_leads : (s : Counts) (ts us : List Token) (x : Expr × Counts) → Finds (IsExpr texts 0 s) (continues 0) ts x us → Leads (AreFurther texts (x.0 ∷ [], x.1)) continues_list us (AreSome texts s) continues_list ts
  some_leads s ts us x f = past (IsExpr texts 0 s) (continues 0) (λ x. AreFurther texts (x.0 ∷ [], x.1)) (AreSome texts s) continues_list continues_list (further_stops (λ x. (x.0 ∷ [], x.1))) ts ts us x (first_expression s ts) f

  pub some_fails : (s : Counts) (ts bad : List Token) → Refuses (IsExpr texts 0 s) (continues 0) ts bad → Refuses (AreSome texts s) continues_list ts bad
  some_fails s ts bad r = fails (IsExpr texts 0 s) (continues 0) (λ x. AreFurther texts (x.0 ∷ [], x.1)) (AreSome texts s) continues_list continues_list (further_stops (λ x. (x.0 ∷ [], x.1))) ts ts bad (first_expression s ts)
      (λ x. further_completable (x.0 ∷ [], x.1)) r

  module _ (found : List Expr × Counts) where
    abbrev One_more : List Token → List Expr × Counts → List Token → Type 0
    One_more = Then (IsExpr texts 0 found.1) (λ x. AreFurther texts (found.0 ++ x.0 ∷ [], x.1))

    comma_from : (ts us vs ws : List Token) (t : Token) (all : List Expr × Counts) → Signs sign.Comma ts t ws → SameHead ts us → AreFurther texts found us all vs → Then (Signs sign.Comma) (λ t. One_more) us all vs ⊎ GoesOn continues_list vs
    comma_from ts us vs ws t all n m q = go found us vs all q refl
      where
        go : (before : List Expr × Counts) (us' vs' : List Token) (all' : List Expr × Counts) → AreFurther texts before us' all' vs' → us' ≡ us → Then (Signs sign.Comma) (λ t. Then (IsExpr texts 0 before.1) (λ x. AreFurther texts (before.0 ++ x.0 ∷ [], x.1))) us' all' vs' ⊎ GoesOn continues_list vs'
        go before us' vs' all' grammar.last same = inr (goes_on (kind.Sign sign.Comma) continues_list comma_in_list ts ws us' t n (subst (SameHead ts) (sym same) m))
        go before us' vs' all' (grammar.further p q r) same = inl (record { value = _; between = _; first = p; rest = record { value = _; between = _; first = q; rest = r } })

    comma_leads : (ts us : List Token) (t : Token) → Signs sign.Comma ts t us → Leads One_more continues_list us (AreFurther texts found) continues_list ts
    comma_leads ts us t n = past (Signs sign.Comma) nothing (λ t. One_more) (AreFurther texts found) continues_list continues_list (never continues_list (λ t. One_more)) ts ts us t
        (chosen (Then (Signs sign.Comma) (λ t. One_more)) (AreFurther texts found) continues_list ts (λ us vs all h. grammar.further h.first h.rest.first h.rest.rest) (λ us vs all m h. comma_from ts us vs _ t all n m h))
        (sees_finds (kind.Sign sign.Comma) nothing ts us t n)

    pub further_leads : (ts us vs : List Token) (t : Token) (x : Expr × Counts) → Signs sign.Comma ts t us → Finds (IsExpr texts 0 found.1) (continues 0) us x vs → Leads (AreFurther texts (found.0 ++ x.0 ∷ [], x.1)) continues_list vs (AreFurther texts found) continues_list ts
    further_leads ts us vs t x n f = past (IsExpr texts 0 found.1) (continues 0) (λ x. AreFurther texts (found.0 ++ x.0 ∷ [], x.1)) (AreFurther texts found) continues_list continues_list (further_stops (λ x. (found.0 ++ x.0 ∷ [], x.1))) ts us vs x
        (comma_leads ts us t n) f

    pub further_fails : (ts us bad : List Token) (t : Token) → Signs sign.Comma ts t us → Refuses (IsExpr texts 0 found.1) (continues 0) us bad → Refuses (AreFurther texts found) continues_list ts bad
    further_fails ts us bad t n r = fails (IsExpr texts 0 found.1) (continues 0) (λ x. AreFurther texts (found.0 ++ x.0 ∷ [], x.1)) (AreFurther texts found) continues_list continues_list (further_stops (λ x. (found.0 ++ x.0 ∷ [], x.1))) ts us bad
        (comma_leads ts us t n) (λ x. further_completable (found.0 ++ x.0 ∷ [], x.1)) r

    pub further_ends : (ts : List Token) → ((t : Token) (us : List Token) → Signs sign.Comma ts t us → ⊥) → Finds (AreFurther texts found) continues_list ts found ts
    further_ends ts none = empty_finds (AreFurther texts found) continues_list ts found (λ vs. grammar.last) (λ vs m y ws q. go found vs y ws m q)
      where
        go : (before : List Expr × Counts) (vs : List Token) (y : List Expr × Counts) (ws : List Token) → SameHead ts vs → AreFurther texts before vs y ws → ((y ≡ before) × (ws ≡ vs)) ⊎ GoesOn continues_list ws
        go before vs y ws m grammar.last = inl (refl, refl)
        go before vs y ws m (grammar.further {us = a} {t = t} p q r) = let o = same_token (kind.Sign sign.Comma) ts vs a t m p in absurd (none t o.0 o.1)

  pub close_no_operator : (t : Token) → t.what ≡ kind.Sign sign.ParenClose → IsTrue (continues 0 t) → ⊥
  close_no_operator t d h = let no_operator = rw d at h in cc

  pub comma_apart : (t : Token) → t.what ≡ kind.Sign sign.Comma → IsTrue (continues 0 t) → ⊥
  comma_apart = comma_no_operator

  pub close_no_list : (t : Token) → t.what ≡ kind.Sign sign.ParenClose → IsTrue (continues_list t) → ⊥
  close_no_list t d h = let no_operator = rw d at h in cc

  -- ---- operators

  pub level_from : (k : ℕ) (s : Counts) (ts vs : List Token) (x : Expr × Counts) → k < unary_level → IsExpr texts k s ts x vs → Then (IsExpr texts (suc k) s) (AreOperands texts k) ts x vs
  level_from k s ts vs x h (grammar.operands {us = a} {l = l} d q r) = record { value = l; between = a; first = q; rest = r }
  level_from k s ts vs x h (grammar.prefix f g q r) = absurd (omega arith)
  level_from k s ts vs x h (grammar.primary q) = absurd (omega arith)

  pub level_stops : (k : ℕ) → Stops (continues (suc k)) (continues k) (AreOperands texts k)
  level_stops k l us vs x grammar.no_operator h = looser_wider k us h
  level_stops k l us vs x (grammar.operator {t = t} {function = f} at g q c r) h = absurd (not_tighter k f t at h)

  operands_completable : (k : ℕ) (l : Expr × Counts) → Completable (AreOperands texts k l)
  operands_completable k l = ([], l, (λ vs. grammar.no_operator))

  level_chosen : (k : ℕ) (s : Counts) (ts : List Token) → k < unary_level → Leads (Then (IsExpr texts (suc k) s) (AreOperands texts k)) (continues k) ts (IsExpr texts k s) (continues k) ts
  level_chosen k s ts h = chosen (Then (IsExpr texts (suc k) s) (AreOperands texts k)) (IsExpr texts k s) (continues k) ts (λ us vs x q. grammar.operands h q.first q.rest) (λ us vs x m n. inl (level_from k s us vs x h n))

  pub level_leads : (k j : ℕ) (s : Counts) (ts us : List Token) (l : Expr × Counts) → j ≡ suc k → k < unary_level → Finds (IsExpr texts j s) (continues j) ts l us → Leads (AreOperands texts k l) (continues k) us (IsExpr texts k s) (continues k) ts
  level_leads k j s ts us l d h f = past (IsExpr texts (suc k) s) (continues (suc k)) (AreOperands texts k) (IsExpr texts k s) (continues k) (continues k) (level_stops k) ts ts us l (level_chosen k s ts h) (subst (λ z. Finds (IsExpr texts z s) (continues z) ts l us) d f)

  pub level_fails : (k j : ℕ) (s : Counts) (ts bad : List Token) → j ≡ suc k → k < unary_level → Refuses (IsExpr texts j s) (continues j) ts bad → Refuses (IsExpr texts k s) (continues k) ts bad
  level_fails k j s ts bad d h r = fails (IsExpr texts (suc k) s) (continues (suc k)) (AreOperands texts k) (IsExpr texts k s) (continues k) (continues k) (level_stops k) ts ts bad (level_chosen k s ts h) (operands_completable k)
      (subst (λ z. Refuses (IsExpr texts z s) (continues z) ts bad) d r)

  -- a refusal at a tight level is one at each looser level
  lower_fails : (d k : ℕ) (s : Counts) (ts bad : List Token) → d + k ≤ unary_level → Refuses (IsExpr texts (d + k) s) (continues (d + k)) ts bad → Refuses (IsExpr texts k s) (continues k) ts bad
  lower_fails zero k s ts bad h r = subst (λ z. Refuses (IsExpr texts z s) (continues z) ts bad) (omega arith) r
  lower_fails (suc d) k s ts bad h r = lower_fails d k s ts bad (omega arith) (level_fails (d + k) (suc d + k) s ts bad (omega arith) (omega arith) r)

  pub looser_fails : (k j : ℕ) (s : Counts) (ts bad : List Token) → k ≤ j → j ≤ unary_level → Refuses (IsExpr texts j s) (continues j) ts bad → Refuses (IsExpr texts k s) (continues k) ts bad
  looser_fails k j s ts bad h g r = let same : j ≡ (j - k) + k = omega arith in lower_fails (j - k) k s ts bad (omega arith) (subst (λ z. Refuses (IsExpr texts z s) (continues z) ts bad) same r)

  -- no operator of the level comes next
  pub operands_end : (k : ℕ) (l : Expr × Counts) (ts : List Token) → ((t : Token) (us : List Token) (f : List ℕ) → ts ≡ t ∷ us → infix_of t.what ≡ Some (k, f) → ⊥) → Finds (AreOperands texts k l) (continues k) ts l ts
  operands_end k l ts none = empty_finds (AreOperands texts k l) (continues k) ts l (λ vs. grammar.no_operator) (λ vs m y ws q. go ts none vs y ws m q)
    where
      go : (ts : List Token) → ((t : Token) (us : List Token) (f : List ℕ) → ts ≡ t ∷ us → infix_of t.what ≡ Some (k, f) → ⊥) → (vs : List Token) (y : Expr × Counts) (ws : List Token) → SameHead ts vs → AreOperands texts k l vs y ws → ((y ≡ l) × (ws ≡ vs)) ⊎ GoesOn (continues k) ws
      go ts none vs y ws m q = inner k l ts none vs y ws m q
        where
          inner : (k : ℕ) (l : Expr × Counts) (ts : List Token) → ((t : Token) (us : List Token) (f : List ℕ) → ts ≡ t ∷ us → infix_of t.what ≡ Some (k, f) → ⊥) → (vs : List Token) (y : Expr × Counts) (ws : List Token) → SameHead ts vs
              → AreOperands texts k l vs y ws → ((y ≡ l) × (ws ≡ vs)) ⊎ GoesOn (continues k) ws
          inner k l ts none vs y ws m grammar.no_operator = inl (refl, refl)
          inner k l [] none (v ∷ vs) y ws m (grammar.operator at g q c r) = absurd m
          inner k l (t ∷ ts) none (v ∷ vs) y ws m (grammar.operator {function = f} at g q c r) = absurd (none t ts f refl (ap (λ (z : Token). infix_of z.what) m ∙ at))

  abbrev Operand : ℕ → List ℕ → ℕ → Expr → Counts → List Token → Expr × Counts → List Token → Type 0
  Operand k f at l r = Then (HasFunction texts f at) (λ n. Then (IsExpr texts (suc k) r) (λ x. AreOperands texts k (expr.Call n (l ∷ x.0 ∷ []), x.1)))

  same_function : (k : ℕ) (f g : List ℕ) → ◌≡◌ {A = Option (ℕ × List ℕ)} (Some (k, g)) (Some (k, f)) → g ≡ f
  same_function k f g d = let pair : ◌≡◌ {A = ℕ × List ℕ} (k, g) (k, f) = cc in ap (λ (z : ℕ × List ℕ). z.1) pair

  pub same_counts : (q r : Counts) → ◌≡◌ {A = Option Counts} (Some q) (Some r) → q ≡ r
  same_counts q r d = cc

  operand_of : (k : ℕ) (l : Expr × Counts) (f : List ℕ) (r q : Counts) (t : Token) (us vs a : List Token) (x y : Expr × Counts) (whole : Expr) (g : List ℕ) → ◌≡◌ {A = Option (ℕ × List ℕ)} (Some (k, g)) (Some (k, f)) → ◌≡◌ {A = Option Counts} (Some q) (Some r)
      → IsExpr texts (suc k) q us y a → IsCall texts g t.from (l.0 ∷ y.0 ∷ []) whole → AreOperands texts k (whole, y.1) a x vs → Operand k f t.from l.0 r us x vs
  operand_of k l f r q t us vs a x y whole g d e i c j = record {
    value = record { at = t.from; id = c.0 };
    between = us;
    first = record { place = refl; text = c.1 ∙ ap (λ (z : List ℕ). Some z) (same_function k f g d); behind = refl };
    rest = record { value = y; between = a; first = subst (λ z. IsExpr texts (suc k) z us y a) (same_counts q r e) i; rest = subst (λ z. AreOperands texts k (z, y.1) a x vs) c.2 j };
  }

  pub operator_from : (k : ℕ) (l : Expr × Counts) (f : List ℕ) (r : Counts) (t : Token) (us vs : List Token) (x : Expr × Counts) → infix_of t.what ≡ Some (k, f) → spent l.1 ≡ Some r → AreOperands texts k l (t ∷ us) x vs → Operand k f t.from l.0 r us x vs ⊎ GoesOn (continues k) vs
  operator_from k l f r t us vs x at left grammar.no_operator = inr (at_level k f t at)
  operator_from k l f r t us vs x at left (grammar.operator {r = q} {vs = a} {x = y} {whole = whole} {function = g} bt other i c j) =
      inl (operand_of k l f r q t us vs a x y whole g (sym bt ∙ at) (sym other ∙ left) i c j)

  operator_to : (k : ℕ) (l : Expr × Counts) (f : List ℕ) (r : Counts) (t : Token) (us vs : List Token) (x : Expr × Counts) → infix_of t.what ≡ Some (k, f) → spent l.1 ≡ Some r → Operand k f t.from l.0 r us x vs → AreOperands texts k l (t ∷ us) x vs
  operator_to k l f r t us vs x at left h = grammar.operator at left (subst (λ z. IsExpr texts (suc k) r z h.rest.value h.rest.between) h.first.behind h.rest.first) (name_call f t.from us h.between h.value (l.0 ∷ h.rest.value.0 ∷ []) h.first) h.rest.rest

  pub operator_leads : (k : ℕ) (l : Expr × Counts) (f : List ℕ) (r : Counts) (t : Token) (us : List Token) → infix_of t.what ≡ Some (k, f) → spent l.1 ≡ Some r → Leads (Operand k f t.from l.0 r) (continues k) us (AreOperands texts k l) (continues k) (t ∷ us)
  operator_leads k l f r t us at left = led_leads (AreOperands texts k l) (continues k) t (Operand k f t.from l.0 r) (λ us vs x h. operator_to k l f r t us vs x at left h) (λ us vs x n. operator_from k l f r t us vs x at left n) us

  pub operand_stops : (k : ℕ) (g : Expr × Counts → Expr × Counts) → Stops (continues (suc k)) (continues k) (λ x. AreOperands texts k (g x))
  operand_stops k g a us vs x h c = level_stops k (g a) us vs x h c

  -- an operator, where nothing may be spent
  pub operator_exhausted : (k : ℕ) (l : Expr × Counts) (f : List ℕ) (t : Token) (us : List Token) → infix_of t.what ≡ Some (k, f) → spent l.1 ≡ None → Refuses (AreOperands texts k l) (continues k) (t ∷ us) (t ∷ us)
  operator_exhausted k l f t us at none = refused_next (AreOperands texts k l) (continues k) t us (operands_completable k l) (λ us vs x n. go k l (t ∷ us) us vs x refl at none n)
    where
      go : (k : ℕ) (l : Expr × Counts) (ts us vs : List Token) (x : Expr × Counts) → ts ≡ t ∷ us → infix_of t.what ≡ Some (k, f) → spent l.1 ≡ None → AreOperands texts k l ts x vs → GoesOn (continues k) vs
      go k l ts us vs x same at none grammar.no_operator = subst (GoesOn (continues k)) (sym same) (at_level k f t at)
      go k l ts us vs x same at none (grammar.operator {r = r} bt left i c j) = let both : ◌≡◌ {A = Option Counts} (Some r) None = sym left ∙ none in cc

  -- ---- prefix operators

  unary_of : (s r q : Counts) (f g : List ℕ) (t u : Token) (us a vs : List Token) (y : Expr × Counts) (whole : Expr) → u ∷ a ≡ t ∷ us → prefix_of u.what ≡ Some g → prefix_of t.what ≡ Some f → ◌≡◌ {A = Option Counts} (Some q) (Some r) → IsExpr texts unary_level q a y vs
      → IsCall texts g u.from (y.0 ∷ []) whole → Then {X = Expr × Counts} (HasFunction texts f t.from) (λ n. Then (IsExpr texts unary_level r) (λ y. Done (expr.Call n (y.0 ∷ []), y.1))) us (whole, y.1) vs
  unary_of s r q f g t u us a vs y whole same bt at d i c =
      let head : u ≡ t = cc in let tail : a ≡ us = cc in
      let both : ◌≡◌ {A = Option (List ℕ)} (Some g) (Some f) = sym bt ∙ ap (λ (z : Token). prefix_of z.what) head ∙ at in let function : g ≡ f = cc in
      record {
        value = record { at = u.from; id = c.0 };
        between = us;
        first = record { place = ap (λ (z : Token). z.from) head; text = c.1 ∙ ap (λ (z : List ℕ). Some z) function; behind = refl };
        rest = record { value = y; between = vs; first = subst (λ z. IsExpr texts unary_level r z y vs) tail (subst (λ z. IsExpr texts unary_level z a y vs) (same_counts q r d) i); rest = with_left whole _ y.1 vs c.2 };
      }

  pub unary_from : (k : ℕ) (s r : Counts) (f : List ℕ) (t : Token) (ts us vs : List Token) (x : Expr × Counts) → k ≡ unary_level → ts ≡ t ∷ us → prefix_of t.what ≡ Some f → spent s ≡ Some r → IsExpr texts k s ts x vs
      → Then (HasFunction texts f t.from) (λ n. Then (IsExpr texts unary_level r) (λ y. Done (expr.Call n (y.0 ∷ []), y.1))) us x vs
  unary_from k s r f t ts us vs x top same at left (grammar.operands d q i) = absurd (omega arith)
  unary_from k s r f t ts us vs x top same at left (grammar.prefix {r = q} {t = u} {us = a} {vs = b} {inner = y} {e = whole} {function = g} bt other i c) =
      unary_of s r q f g t u us a vs y whole same bt at (sym other ∙ left) i c
  unary_from k s r f t ts us vs x top same at left (grammar.primary q) = absurd (led_by s t us vs x start.Other (prefix_start t.what f at) (subst (λ z. IsPrimary texts s z x vs) same q))

  unary_to : (s r : Counts) (f : List ℕ) (t : Token) (us vs : List Token) (x : Expr × Counts) → prefix_of t.what ≡ Some f → spent s ≡ Some r → Then (HasFunction texts f t.from) (λ n. Then (IsExpr texts unary_level r) (λ y. Done (expr.Call n (y.0 ∷ []), y.1))) us x vs
      → IsExpr texts unary_level s (t ∷ us) x vs
  unary_to s r f t us vs x at left h = subst (λ z. IsExpr texts unary_level s (t ∷ us) z vs) (sym h.rest.rest.same) (subst (λ z. IsExpr texts unary_level s (t ∷ us) (expr.Call h.value (h.rest.value.0 ∷ []), h.rest.value.1) z) (sym h.rest.rest.behind)
      (grammar.prefix at left (subst (λ z. IsExpr texts unary_level r z h.rest.value h.rest.between) h.first.behind h.rest.first) (name_call f t.from us h.between h.value (h.rest.value.0 ∷ []) h.first)))

  pub prefix_leads : (s r : Counts) (f : List ℕ) (t : Token) (us : List Token) → prefix_of t.what ≡ Some f → spent s ≡ Some r
      → Leads (Then (HasFunction texts f t.from) (λ n. Then (IsExpr texts unary_level r) (λ y. Done (expr.Call n (y.0 ∷ []), y.1)))) (continues unary_level) us (IsExpr texts unary_level s) (continues unary_level) (t ∷ us)
  prefix_leads s r f t us at left = led_leads (IsExpr texts unary_level s) (continues unary_level) t (Then (HasFunction texts f t.from) (λ n. Then (IsExpr texts unary_level r) (λ y. Done (expr.Call n (y.0 ∷ []), y.1))))
      (λ us vs x h. unary_to s r f t us vs x at left h) (λ us vs x n. inl (unary_from unary_level s r f t (t ∷ us) us vs x refl refl at left n)) us

  -- an operand, which is not begun by a prefix operator
  operand_from : (k : ℕ) (s : Counts) (ts us vs : List Token) (x : Expr × Counts) → k ≡ unary_level → ((t : Token) (ws : List Token) (f : List ℕ) → ts ≡ t ∷ ws → prefix_of t.what ≡ Some f → ⊥) → SameHead ts us → IsExpr texts k s us x vs → IsPrimary texts s us x vs
  operand_from k s ts us vs x top none m (grammar.operands d q i) = absurd (omega arith)
  operand_from k s [] us vs x top none m (grammar.prefix at left i c) = absurd m
  operand_from k s (t ∷ ts) us vs x top none m (grammar.prefix {function = f} at left i c) = absurd (none t ts f refl (ap (λ (z : Token). prefix_of z.what) m ∙ at))
  operand_from k s ts us vs x top none m (grammar.primary q) = q

  pub primary_leads : (s : Counts) (ts : List Token) → ((t : Token) (ws : List Token) (f : List ℕ) → ts ≡ t ∷ ws → prefix_of t.what ≡ Some f → ⊥) → Leads (IsPrimary texts s) follows ts (IsExpr texts unary_level s) (continues unary_level) ts
  primary_leads s ts none = leads_on (IsPrimary texts s) (IsPrimary texts s) (IsExpr texts unary_level s) follows (continues unary_level) (continues unary_level) ts ts ts (widens (IsPrimary texts s) follows (continues unary_level) ts (follows_wider unary_level))
      (chosen (IsPrimary texts s) (IsExpr texts unary_level s) (continues unary_level) ts (λ us vs x q. grammar.primary q) (λ us vs x m n. inl (operand_from unary_level s ts us vs x refl none m n)))

  pub unary_completable : (s : Counts) → Completable (IsExpr texts unary_level s)
  unary_completable s = let (more, x, whole) = primary_completable s in (more, x, (λ vs. grammar.primary (whole vs)))

  level_completable : (s : Counts) (d k : ℕ) → d + k ≡ unary_level → Completable (IsExpr texts k s)
  level_completable s zero k e = subst (λ z. Completable (IsExpr texts z s)) (omega arith) (unary_completable s)
  level_completable s (suc d) k e = let (more, x, whole) = level_completable s d (suc k) (omega arith) in (more, x, (λ vs. grammar.operands (omega arith) (whole vs) grammar.no_operator))

  pub expr_completable : (s : Counts) (k : ℕ) → k ≤ unary_level → Completable (IsExpr texts k s)
  expr_completable s k h = level_completable s (unary_level - k) k (omega arith)

  pub some_completable : (s : Counts) → Completable (AreSome texts s)
  some_completable s = let (more, x, whole) = expr_completable s 0 (omega arith) in (more, (x.0 ∷ [], x.1), (λ vs. grammar.first (whole vs) grammar.last))

  -- a prefix operator, where nothing may be spent
  pub prefix_exhausted : (s : Counts) (f : List ℕ) (t : Token) (us : List Token) → prefix_of t.what ≡ Some f → spent s ≡ None → Refuses (IsExpr texts unary_level s) (continues unary_level) (t ∷ us) (t ∷ us)
  prefix_exhausted s f t us at none = refused_next (IsExpr texts unary_level s) (continues unary_level) t us (unary_completable s) (λ us vs x n. go unary_level (t ∷ us) us vs x refl refl n)
    where
      go : (k : ℕ) (ts us vs : List Token) (x : Expr × Counts) → k ≡ unary_level → ts ≡ t ∷ us → IsExpr texts k s ts x vs → GoesOn (continues unary_level) vs
      go k ts us vs x top same (grammar.operands d q i) = absurd (omega arith)
      go k ts us vs x top same (grammar.prefix {r = r} bt left i c) = let both : ◌≡◌ {A = Option Counts} (Some r) None = sym left ∙ none in cc
      go k ts us vs x top same (grammar.primary q) = absurd (led_by s t us vs x start.Other (prefix_start t.what f at) (subst (λ z. IsPrimary texts s z x vs) same q))

  pub any_expression : (s : Counts) → Completable (IsExpr texts 0 s)
  any_expression s = expr_completable s 0 (omega arith)

  pub further_operands : (k : ℕ) (l : Expr × Counts) → Completable (AreOperands texts k l)
  further_operands k l = operands_completable k l

  pub operand_completable : (k j : ℕ) (s : Counts) → j ≡ suc k → k < unary_level → Completable (IsExpr texts (suc k) s)
  operand_completable k j s d h = expr_completable s (suc k) (omega arith)

  pub level_reads : (k j : ℕ) (s : Counts) (ts us : List Token) (x : Expr × Counts) → j ≡ suc k → Finds (IsExpr texts j s) (continues j) ts x us → Finds (IsExpr texts (suc k) s) (continues (suc k)) ts x us
  level_reads k j s ts us x d f = subst (λ z. Finds (IsExpr texts z s) (continues z) ts x us) d f

  pub level_refusals : (k j : ℕ) (s : Counts) (end_at : ℕ) (ts : List Token) (f : ReadSpecFault) → j ≡ suc k → RefusesAt (IsExpr texts j s) (continues j) end_at ts f → RefusesAt (IsExpr texts (suc k) s) (continues (suc k)) end_at ts f
  level_refusals k j s end_at ts f d h = subst (λ z. RefusesAt (IsExpr texts z s) (continues z) end_at ts f) d h

  pub function_completable : (f : List ℕ) (at : ℕ) (n : Name) → n.at ≡ at → slice_get texts n.id.0 ≡ Some f → Completable (HasFunction texts f at)
  function_completable f at n d e = ([], n, (λ vs. record { place = d; text = e; behind = refl }))

option_follows : (k : TokenKind) → IsTrue (is_option_kind k) → IsTrue (follows_primary k)
option_follows (kind.Key key.Shield) h = refl
option_follows (kind.Key key.With) h = refl
option_follows (kind.Key _) h = cc
option_follows (kind.Sign _) h = cc
option_follows (kind.Word _) h = cc
option_follows (kind.Int _) h = cc
option_follows (kind.Str _) h = cc
option_follows (kind.Literal _) h = cc

pub option_wider : IsWider is_option follows
option_wider [] h = h
option_wider (u ∷ us) h = option_follows u.what h

pub including_word : (k : TokenKind) → start_of k ≡ start.Including → k ≡ kind.Key key.Including
including_word (kind.Key key.Including) d = refl
including_word (kind.Key _) d = cc
including_word (kind.Sign sign.ParenOpen) d = cc
including_word (kind.Sign _) d = cc
including_word (kind.Word _) d = cc
including_word (kind.Int _) d = cc
including_word (kind.Str _) d = cc
including_word (kind.Literal _) d = cc

pub constituents_word : (k : TokenKind) → start_of k ≡ start.Constituents → k ≡ kind.Key key.Constituents
constituents_word (kind.Key key.Constituents) d = refl
constituents_word (kind.Key _) d = cc
constituents_word (kind.Sign sign.ParenOpen) d = cc
constituents_word (kind.Sign _) d = cc
constituents_word (kind.Word _) d = cc
constituents_word (kind.Int _) d = cc
constituents_word (kind.Str _) d = cc
constituents_word (kind.Literal _) d = cc

-- of the four kinds of tokens that count, the last
pub order_word : (k : TokenKind) → start_of k ≡ start.Counted → (k ≡ kind.Sign sign.ParenOpen → ⊥) → (k ≡ kind.Key key.PtgNull → ⊥) → (k ≡ kind.Key key.If → ⊥) → k ≡ kind.Key key.Order
order_word (kind.Key key.Order) d p q r = refl
order_word (kind.Key key.PtgNull) d p q r = absurd (q refl)
order_word (kind.Key key.If) d p q r = absurd (r refl)
order_word (kind.Key _) d p q r = cc
order_word (kind.Sign sign.ParenOpen) d p q r = absurd (p refl)
order_word (kind.Sign _) d p q r = cc
order_word (kind.Word _) d p q r = cc
order_word (kind.Int _) d p q r = cc
order_word (kind.Str _) d p q r = cc
order_word (kind.Literal _) d p q r = cc

kept_before : (xs ys : List (List ℕ)) (i : ℕ) (x : List ℕ) → slice_get xs i ≡ Some x → slice_get (xs ++ ys) i ≡ Some x
kept_before [] ys i x d = cc
kept_before (y ∷ xs) ys zero x d = d
kept_before (y ∷ xs) ys (suc i) x d = kept_before xs ys i x d

-- a text keeps its id
pub text_gained : {old new : List (List ℕ)} (i : ℕ) (x : List ℕ) → Gains old new → slice_get old i ≡ Some x → slice_get new i ≡ Some x
text_gained {old} {new} i x g d = subst (λ z. slice_get z i ≡ Some x) (sym g.behind) (kept_before old g.added i x d)
