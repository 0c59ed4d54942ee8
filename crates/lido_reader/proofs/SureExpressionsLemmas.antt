-- Expressions: two at the same tokens are the same.
use Rattle.std.proofs.Common.{◌≡◌, ℕ, ℤ, suc, ◌⊎◌, inl, inr, Bool, ◌||◌, Option, Some, List, [], ◌∷◌, ◌++◌, slice_get, codes, refl, sym, ap, subst, ◌∙◌, arith}
use Rattle.lido_base.specs.Reading.{GoesOn, nothing}
use Rattle.lido_base.specs.Texts.{IsDistinctTexts}
use Rattle.lido_base.specs.declared.ids.StrId.{StrId}
use Rattle.lido_base.proofs.TextsLemmas.{same_place}
use Rattle.lido_lexer.specs.Seen.{token, Signs, Keys}
use Rattle.lido_lexer.specs.declared.keyword.Keyword.TheVariants as key
use Rattle.lido_lexer.specs.declared.sign.Sign.TheVariants as sign
use Rattle.lido_lexer.specs.declared.token.Token.{Token}
use Rattle.lido_lexer.specs.declared.token.TokenKind.{TokenKind}
use Rattle.lido_lexer.specs.declared.token.TokenKind.TheVariants as kind
use Rattle.lido_syntax.specs.declared.spec.Name.{Name}
use Rattle.lido_syntax.specs.declared.spec.Cons.{Cons}
use Rattle.lido_syntax.specs.declared.spec.Expr.{Expr}
use Rattle.lido_syntax.specs.declared.spec.Expr.TheVariants as expr
use Rattle.lido_syntax.specs.declared.spec.Place.{Place}
use Rattle.lido_syntax.specs.declared.spec.Place.TheVariants as place
use Rattle.lido_computations.specs.Phrases.{Done, Then, IsName, word, is_comma_kind}
use Rattle.lido_computations.specs.Places.{IsIndex, IsContext, context, IsPlace, named, by_word, in_reads, IsReadOf, IsRead, IsIncludingOf, IsIncluding, AreConstituentsOf, AreConstituents}
use Rattle.lido_computations.specs.Counting.{spent, numbered}
use Rattle.lido_computations.specs.Expressions as grammar
use Rattle.lido_computations.specs.Expressions.{prefix_of, infix_of, constant_of, start_of, continues, is_at_least, follows_primary, unary_level, IsCall, IsExpr, AreOperands, IsPrimary, AreArguments, AreSome, AreFurther}
use Rattle.lido_computations.specs.Parts as parts
use Rattle.lido_computations.specs.Parts.{follows, continues_list, Spending, HasFunction, IsNull, IsParenthesized, IsChoice, IsOrder, IsCounted, IsCalled, IsIndexed, IsNamed}
use Rattle.lido_computations.specs.declared.counts.Counts.{Counts}
use Rattle.lido_computations.specs.declared.operators.Start.TheVariants as start
use Rattle.lido_computations.proofs.PhrasesLemmas.{Stops}
use Rattle.lido_reader.proofs.PartsLemmas.{both, done, seen_stops, done_stops}
use Rattle.lido_computations.proofs.ExpressionsLemmas.{follows_wider, option_wider, at_level, constant_start, context_start, led_by, spent_same, opening_follows, dot_follows, bare_before, index_before, spent_called, some_no_close, further_stops, comma_in_list, indexed_stops, level_from, level_stops, operand_stops, operator_from, unary_from, prefix_start, some_from}
use Rattle.lido_reader.proofs.SureLemmas.{Rests, IsOnly, IsSure, done_only, done_sure, then_only, then_sure, lead_only, wide_only, only_by, sees_only, name_sure}
use Rattle.lido_reader.proofs.SurePlacesLemmas.{index_sure, read_of_sure, read_sure, including_of_sure, constituents_of_sure}

module _ (texts : List (List ℕ)) (distinct : IsDistinctTexts texts) where
  -- ---- names of functions

  function_same : (f : List ℕ) (at : ℕ) (n m : Name) → n.at ≡ at → slice_get texts n.id.0 ≡ Some f → m.at ≡ at → slice_get texts m.id.0 ≡ Some f → m ≡ n
  function_same f at n m a d b e = let ids : m.id.0 ≡ n.id.0 = same_place texts distinct m.id.0 n.id.0 f e d in let places : m.at ≡ n.at = b ∙ sym a in
      ap (λ (z : ℕ). record { at = z; id = m.id }) places ∙ ap (λ (z : ℕ). record { at = n.at; id = record { 0 = z } }) ids

  -- the name of a call, and the tokens behind it
  has_only : {function : List ℕ} {at : ℕ} {us : List Token} (id : StrId) → slice_get texts id.0 ≡ Some function → IsOnly (HasFunction texts function at) nothing us (record { at = at; id = id }) us
  has_only {function = function} {at = at} id text = record {
    phrase = record { place = refl; text = text; behind = refl };
    only = λ r m vs h q. (function_same function at (record { at = at; id = id }) m refl text h.place h.text, h.behind);
  }

  -- ---- behind a name

  dot_goes : (ts ws : List Token) (t : Token) → Signs sign.Dot ts t ws → GoesOn follows ts
  dot_goes ts ws t (token d) = dot_follows texts t d

  module _ (s : Counts) (n : Name) (i : Option ℤ) (ts : List Token) where
    abbrev ReadHere : List Token → Expr × Counts → List Token → Type 0
    ReadHere = Then (IsReadOf (n.at, place.Named n i)) (λ e. Done (e, s))

    to_read : (ws : List Token) (t : Token) → Signs sign.Dot ts t ws → (y : Expr × Counts) (vs : List Token) → IsIndexed texts s n i ts y vs → Rests follows vs → ReadHere ts y vs
    to_read ws t o y vs (parts.read m) q = m
    to_read ws t o y vs (parts.bare m) q = absurd (q (subst (GoesOn follows) (sym m.behind) (dot_goes ts ws t o)))

    bare_only : (x : Expr × Counts) (us : List Token) → Done (expr.Terminal n i, s) ts x us → Rests follows us → (y : Expr × Counts) (vs : List Token) → IsIndexed texts s n i ts y vs → (y ≡ x) × (vs ≡ us)
    bare_only x us h r y vs (parts.read m) = absurd (r (subst (GoesOn follows) (sym h.behind) (dot_goes ts m.first.between m.first.value m.first.first)))
    bare_only x us h r y vs (parts.bare m) = (m.same ∙ sym h.same, m.behind ∙ sym h.behind)

    indexed_only : (x : Expr × Counts) (us : List Token) → IsIndexed texts s n i ts x us → IsOnly (IsIndexed texts s n i) follows ts x us
    indexed_only x us (parts.read h) =
        let whole : IsOnly ReadHere follows ts x us = then_only (done_stops follows (λ (e : Expr). (e, s))) ((read_of_sure (n.at, place.Named n i)).sure ts h.value h.between h.first) ((done_sure (h.value, s)).sure h.between x us h.rest) in
        only_by (parts.read h) (to_read h.first.between h.first.value h.first.first) whole
    indexed_only x us (parts.bare h) = record { phrase = parts.bare h; only = λ r y vs m q. bare_only x us h r y vs m }

  abbrev Placed : Counts → Name → List Token → Expr × Counts → List Token → Type 0
  Placed s n = Then IsIndex (λ i. IsIndexed texts s n i)

  placed_sure : (s : Counts) (n : Name) → IsSure (Placed s n) follows
  placed_sure s n = then_sure (indexed_stops texts s n) index_sure (λ i. record { sure = indexed_only s n i })

  -- a name with no arguments ends before a parenthesis
  placed_goes : (s : Counts) (n : Name) (ts vs ws : List Token) (t : Token) (x : Expr × Counts) → Signs sign.ParenOpen ts t ws → Placed s n ts x vs → GoesOn follows vs
  placed_goes s n ts vs ws t x o h = bare_before texts (kind.Sign sign.ParenOpen) s n h.value ts vs ws t x (opening_follows texts) (λ d. cc) o
      (subst (λ z. IsIndexed texts s n h.value z x vs) (index_before texts (kind.Sign sign.ParenOpen) ts h.between ws t h.value (λ d. cc) o h.first) h.rest)

  named_placed : (s : Counts) (n : Name) (ts us : List Token) (x : Expr × Counts) → Placed s n ts x us → IsOnly (IsNamed texts s n) follows ts x us
  named_placed s n ts us x h = record { phrase = parts.placed h; only = λ r y vs m q. go r y vs m q }
    where
      go : Rests follows us → (y : Expr × Counts) (vs : List Token) → IsNamed texts s n ts y vs → Rests follows vs → (y ≡ x) × (vs ≡ us)
      go r y vs (parts.called m) q = absurd (r (placed_goes s n ts us m.between m.value x m.first h))
      go r y vs (parts.placed m) q = ((placed_sure s n).sure ts x us h).only r y vs m q

  named_called : (s left : Counts) (n : Name) (ts us vs : List Token) (t : Token) (x : Expr × Counts) → Signs sign.ParenOpen ts t us → spent s ≡ Some left → IsOnly (IsCalled texts n left) follows us x vs → IsOnly (IsNamed texts s n) follows ts x vs
  named_called s left n ts us vs t x o f c =
      let spending : IsOnly (Spending s (IsCalled texts n)) follows us x vs = only_by (record { left = left; spends = f; phrase = c.phrase }) (λ y ws h q. spent_called texts s h.left left n us ws y h.spends f h.phrase) c in
      let whole : IsOnly (Then (Signs sign.ParenOpen) (λ opening. Spending s (IsCalled texts n))) follows ts x vs = lead_only (sees_only o) spending in
      only_by (parts.called whole.phrase) go whole
    where
      go : (y : Expr × Counts) (ws : List Token) → IsNamed texts s n ts y ws → Rests follows ws → Then (Signs sign.ParenOpen) (λ opening. Spending s (IsCalled texts n)) ts y ws
      go y ws (parts.called m) q = m
      go y ws (parts.placed m) q = absurd (q (placed_goes s n ts ws us t y o m))

  word_only : (s : Counts) (ts us vs : List Token) (n : Name) (x : Expr × Counts) → IsPrimary texts s ts x vs → IsName ts n us → IsOnly (IsNamed texts s n) follows us x vs → IsOnly (IsPrimary texts s) follows ts x vs
  word_only s ts us vs n x p (word {t = t} d) m =
      let whole : IsOnly (Then IsName (λ n. IsNamed texts s n)) follows (t ∷ us) x vs = lead_only (name_sure.sure (t ∷ us) n us (word d)) m in
      only_by p (λ y ws h q. led_by texts s t us ws y start.Word (ap start_of d) h) whole

  -- ---- what is read

  read_only : (s : Counts) (ts us : List Token) (e : Expr) → IsRead ts e us → IsOnly (IsPrimary texts s) follows ts (e, s) us
  read_only s ts us e p = go p.value p.between p.first p.rest
    where
      by_name : (x : ℕ × Place) (n : Name) (behind bs between : List Token) (i : Option ℤ) → IsName ts n behind → IsIndex behind i bs → Done (n.at, place.Named n i) bs x between → IsReadOf x between e us → IsOnly (IsPrimary texts s) follows ts (e, s) us
      by_name x n behind bs between i named_so index d rest =
          let read_so : IsReadOf (n.at, place.Named n i) bs e us = subst (λ z. IsReadOf z bs e us) d.same (subst (λ z. IsReadOf x z e us) d.behind rest) in
          word_only s ts behind us n (e, s) (grammar.read p) named_so (named_placed s n behind us (e, s) (both i bs index (parts.read (both e us read_so done))))

      by_context : (x : ℕ × Place) (ts between : List Token) → IsRead ts e us → IsContext in_reads ts x between → IsOnly (IsPrimary texts s) follows ts (e, s) us
      by_context x ts between p (context {t = t} {us = behind} {w = w} {p = q} d f) =
          let whole : IsOnly (Then IsRead (λ y. Done (y, s))) follows (t ∷ behind) (e, s) us = lead_only (read_sure.sure (t ∷ behind) e us p) done_only in
          only_by (grammar.read p) (λ y ws h r. led_by texts s t behind ws y start.Context (ap start_of d ∙ context_start texts w q f) h) whole

      go : (x : ℕ × Place) (between : List Token) → IsPlace in_reads ts x between → IsReadOf x between e us → IsOnly (IsPrimary texts s) follows ts (e, s) us
      go x between (named n) rest = by_name x n.value n.between n.rest.between between n.rest.value n.first n.rest.first n.rest.rest rest
      go x between (by_word c) rest = by_context x ts between p c

  including_only : (s : Counts) (ts us : List Token) (e : Expr) → IsIncluding ts e us → IsOnly (IsPrimary texts s) follows ts (e, s) us
  including_only s ts us e p = go ts p.between p.value p p.first p.rest
    where
      go : (ts between : List Token) (t : Token) → IsIncluding ts e us → Keys key.Including ts t between → IsIncludingOf t.from between e us → IsOnly (IsPrimary texts s) follows ts (e, s) us
      go ts between t p (token d) rest =
          let whole : IsOnly (Then (IsIncludingOf t.from) (λ y. Done (y, s))) follows between (e, s) us = lead_only ((including_of_sure t.from).sure between e us rest) done_only in
          only_by (grammar.including p) (λ y ws h r. led_by texts s t between ws y start.Including (ap start_of d) h) whole

  constituents_only : (s : Counts) (ts us : List Token) (k : Cons) → AreConstituents s.number ts k us → IsOnly (IsPrimary texts s) follows ts (expr.Constituents k, numbered s) us
  constituents_only s ts us k p = go ts p.between p.value p p.first p.rest
    where
      go : (ts between : List Token) (t : Token) → AreConstituents s.number ts k us → Keys key.Constituents ts t between → AreConstituentsOf t.from s.number between k us → IsOnly (IsPrimary texts s) follows ts (expr.Constituents k, numbered s) us
      go ts between t p (token d) rest =
          let whole : IsOnly (Then (AreConstituentsOf t.from s.number) (λ k. Done (expr.Constituents k, numbered s))) follows between (expr.Constituents k, numbered s) us =
          then_only (done_stops follows (λ (k : Cons). (expr.Constituents k, numbered s))) (wide_only option_wider ((constituents_of_sure t.from s.number).sure between k us rest)) done_only in
          only_by (grammar.constituents p) (λ y ws h r. led_by texts s t between ws y start.Constituents (ap start_of d) h) whole

  constant_only : (s : Counts) (t : Token) (us : List Token) (e : Expr) → constant_of t.from t.what ≡ Some e → IsOnly (IsPrimary texts s) follows (t ∷ us) (e, s) us
  constant_only s t us e d = record {
    phrase = grammar.constant d;
    only = λ r x ws m q. let h = led_by texts s t us ws x start.Constant (constant_start texts t.from t.what e d) m in
        let some : Some x.0 ≡ Some e = sym h.0 ∙ d in let same : x.0 ≡ e = cc in (ap (λ (z : Expr). (z, x.1)) same ∙ ap (λ (z : Counts). (e, z)) h.1, h.2);
  }

  -- ---- what counts

  counted_only : (s left : Counts) (t : Token) (us vs : List Token) (x : Expr × Counts) → IsPrimary texts s (t ∷ us) x vs → start_of t.what ≡ start.Counted → spent s ≡ Some left → IsOnly (IsCounted texts t left) follows us x vs → IsOnly (IsPrimary texts s) follows (t ∷ us) x vs
  counted_only s left t us vs x p d f m = only_by p (λ y ws n q. let h = led_by texts s t us ws y start.Counted d n in spent_same texts s h.left left t us ws y h.spends f h.phrase) m

  module _ (t : Token) (left : Counts) (us vs : List Token) (x : Expr × Counts) where
    null_counted : t.what ≡ kind.Key key.PtgNull → IsOnly (IsNull texts t.from left) follows us x vs → IsOnly (IsCounted texts t left) follows us x vs
    null_counted d m = only_by (parts.ptg_null d m.phrase) go m
      where
        go : (y : Expr × Counts) (ws : List Token) → IsCounted texts t left us y ws → Rests follows ws → IsNull texts t.from left us y ws
        go y ws (parts.ptg_null f h) q = h
        go y ws (parts.parenthesized f h) q = cc
        go y ws (parts.choice f h) q = cc
        go y ws (parts.order f h) q = cc

    parenthesized_counted : t.what ≡ kind.Sign sign.ParenOpen → IsOnly (IsParenthesized texts left) follows us x vs → IsOnly (IsCounted texts t left) follows us x vs
    parenthesized_counted d m = only_by (parts.parenthesized d m.phrase) go m
      where
        go : (y : Expr × Counts) (ws : List Token) → IsCounted texts t left us y ws → Rests follows ws → IsParenthesized texts left us y ws
        go y ws (parts.ptg_null f h) q = cc
        go y ws (parts.parenthesized f h) q = h
        go y ws (parts.choice f h) q = cc
        go y ws (parts.order f h) q = cc

    choice_counted : t.what ≡ kind.Key key.If → IsOnly (IsChoice texts t.from left) follows us x vs → IsOnly (IsCounted texts t left) follows us x vs
    choice_counted d m = only_by (parts.choice d m.phrase) go m
      where
        go : (y : Expr × Counts) (ws : List Token) → IsCounted texts t left us y ws → Rests follows ws → IsChoice texts t.from left us y ws
        go y ws (parts.ptg_null f h) q = cc
        go y ws (parts.parenthesized f h) q = cc
        go y ws (parts.choice f h) q = h
        go y ws (parts.order f h) q = cc

    order_counted : t.what ≡ kind.Key key.Order → IsOnly (IsOrder texts t.from left) follows us x vs → IsOnly (IsCounted texts t left) follows us x vs
    order_counted d m = only_by (parts.order d m.phrase) go m
      where
        go : (y : Expr × Counts) (ws : List Token) → IsCounted texts t left us y ws → Rests follows ws → IsOrder texts t.from left us y ws
        go y ws (parts.ptg_null f h) q = cc
        go y ws (parts.parenthesized f h) q = cc
        go y ws (parts.choice f h) q = cc
        go y ws (parts.order f h) q = h

  -- the same phrase under the name that its call has
  renamed_only : {N : List Token → Expr × Counts → List Token → Type 0} {c : Token → Bool} {ts us : List Token} {e d : Expr} {r : Counts} → e ≡ d → IsOnly N c ts (d, r) us → IsOnly N c ts (e, r) us
  renamed_only {N = N} {c = c} {ts = ts} {us = us} {r = r} same m = subst (λ z. IsOnly N c ts (z, r) us) (sym same) m

  null_only : (s left : Counts) (t : Token) (us : List Token) (e : Expr) → t.what ≡ kind.Key key.PtgNull → spent s ≡ Some left → IsCall texts (codes "PTGNULL") t.from [] e → IsOnly (IsPrimary texts s) follows (t ∷ us) (e, left) us
  null_only s left t us e d f call =
      let whole : IsOnly (IsNull texts t.from left) follows us (expr.Call (record { at = t.from; id = call.0 }) [], left) us = lead_only (has_only call.0 call.1) done_only in
      counted_only s left t us us (e, left) (grammar.ptg_null d f call) (ap start_of d) f (null_counted t left us us (e, left) d (renamed_only call.2 whole))

  abbrev continues_kind : TokenKind → Bool
  continues_kind what = is_at_least 0 (infix_of what) || follows_primary what

  -- behind an expression
  close_stops : {A X : Type 0} (Rest : A → Token → List Token → X → List Token → Type 0) → Stops (continues 0) follows (λ a. Then (Signs sign.ParenClose) (Rest a))
  close_stops Rest = seen_stops (kind.Sign sign.ParenClose) continues_kind refl Rest follows

  comma_stops : {A X : Type 0} (Rest : A → Token → List Token → X → List Token → Type 0) → Stops (continues 0) follows (λ a. Then (Signs sign.Comma) (Rest a))
  comma_stops Rest = seen_stops (kind.Sign sign.Comma) continues_kind refl Rest follows

  list_stops : {A X : Type 0} (Rest : A → Token → List Token → X → List Token → Type 0) → Stops continues_list follows (λ a. Then (Signs sign.ParenClose) (Rest a))
  list_stops Rest = seen_stops (kind.Sign sign.ParenClose) (λ what. is_comma_kind what || continues_kind what) refl Rest follows

  abbrev One : Counts → List Token → Expr × Counts → List Token → Type 0
  One s ts x us = IsOnly (IsExpr texts 0 s) (continues 0) ts x us

  parenthesized_only : (s left : Counts) (t closing : Token) (us vs ws : List Token) (x : Expr × Counts) → t.what ≡ kind.Sign sign.ParenOpen → spent s ≡ Some left → One left us x vs → Signs sign.ParenClose vs closing ws → IsOnly (IsPrimary texts s) follows (t ∷ us) x ws
  parenthesized_only s left t closing us vs ws x d f p c =
      let whole : IsOnly (IsParenthesized texts left) follows us x ws = then_only (close_stops (λ e closing. Done e)) p (lead_only (sees_only c) done_only) in
      counted_only s left t us ws x (grammar.parenthesized d f p.phrase c) (ap start_of d) f (parenthesized_counted t left us ws x d whole)

  choice_only : (s left : Counts) (t opening before_second before_third closing : Token) (us vs ws xs ys zs gs hs : List Token) (x y z : Expr × Counts) (e : Expr) → t.what ≡ kind.Key key.If → spent s ≡ Some left
      → Signs sign.ParenOpen us opening vs → One left vs x ws → Signs sign.Comma ws before_second xs → One x.1 xs y ys → Signs sign.Comma ys before_third zs → One y.1 zs z gs → Signs sign.ParenClose gs closing hs
      → IsCall texts (codes "IF") t.from (x.0 ∷ y.0 ∷ z.0 ∷ []) e → IsOnly (IsPrimary texts s) follows (t ∷ us) (e, z.1) hs
  choice_only s left t opening before_second before_third closing us vs ws xs ys zs gs hs x y z e d f o p a q b r c call =
      let n : Name = record { at = t.from; id = call.0 } in
      let last : IsOnly (Then (IsExpr texts 0 y.1) (λ z. Then (Signs sign.ParenClose) (λ closing. Done (expr.Call n (x.0 ∷ y.0 ∷ z.0 ∷ []), z.1)))) follows zs (expr.Call n (x.0 ∷ y.0 ∷ z.0 ∷ []), z.1) hs =
      then_only (close_stops (λ z closing. Done (expr.Call n (x.0 ∷ y.0 ∷ z.0 ∷ []), z.1))) r (lead_only (sees_only c) done_only) in
      let second : IsOnly (Then (IsExpr texts 0 x.1) (λ y. Then (Signs sign.Comma) (λ before_third. Then (IsExpr texts 0 y.1) (λ z. Then (Signs sign.ParenClose) (λ closing. Done (expr.Call n (x.0 ∷ y.0 ∷ z.0 ∷ []), z.1)))))) follows xs
      (expr.Call n (x.0 ∷ y.0 ∷ z.0 ∷ []), z.1) hs =
      then_only (comma_stops (λ y before_third. Then (IsExpr texts 0 y.1) (λ z. Then (Signs sign.ParenClose) (λ closing. Done (expr.Call n (x.0 ∷ y.0 ∷ z.0 ∷ []), z.1))))) q (lead_only (sees_only b) last) in
      let whole : IsOnly (IsChoice texts t.from left) follows us (expr.Call n (x.0 ∷ y.0 ∷ z.0 ∷ []), z.1) hs =
      lead_only (has_only call.0 call.1) (lead_only (sees_only o) (then_only (comma_stops (λ x before_second. Then (IsExpr texts 0 x.1) (λ y. Then (Signs sign.Comma) (λ before_third. Then (IsExpr texts 0 y.1) (λ z.
      Then (Signs sign.ParenClose) (λ closing. Done (expr.Call n (x.0 ∷ y.0 ∷ z.0 ∷ []), z.1))))))) p (lead_only (sees_only a) second))) in
      counted_only s left t us hs (e, z.1) (grammar.choice d f o p.phrase a q.phrase b r.phrase c call) (ap start_of d) f (choice_counted t left us hs (e, z.1) d (renamed_only call.2 whole))

  -- ---- lists of expressions

  order_only : (s left : Counts) (t opening closing : Token) (us vs ws zs : List Token) (args : List Expr × Counts) (e : Expr) → t.what ≡ kind.Key key.Order → spent s ≡ Some left
      → Signs sign.ParenOpen us opening vs → IsOnly (AreSome texts left) continues_list vs args ws → Signs sign.ParenClose ws closing zs → IsCall texts (codes "ORDER") t.from args.0 e → IsOnly (IsPrimary texts s) follows (t ∷ us) (e, args.1) zs
  order_only s left t opening closing us vs ws zs args e d f o p c call =
      let n : Name = record { at = t.from; id = call.0 } in
      let whole : IsOnly (IsOrder texts t.from left) follows us (expr.Call n args.0, args.1) zs =
      lead_only (has_only call.0 call.1) (lead_only (sees_only o) (then_only (list_stops (λ args closing. Done (expr.Call n args.0, args.1))) p (lead_only (sees_only c) done_only))) in
      counted_only s left t us zs (e, args.1) (grammar.order d f o p.phrase c call) (ap start_of d) f (order_counted t left us zs (e, args.1) d (renamed_only call.2 whole))

  without_only : (n : Name) (r : Counts) (ts us : List Token) (closing : Token) → Signs sign.ParenClose ts closing us → IsOnly (IsCalled texts n r) follows ts (expr.Call n [], r) us
  without_only n r ts us closing c =
      let whole : IsOnly (Then (Signs sign.ParenClose) (λ closing. Done (expr.Call n [], r))) follows ts (expr.Call n [], r) us = lead_only (sees_only c) done_only in
      only_by (parts.without whole.phrase) go whole
    where
      go : (y : Expr × Counts) (ws : List Token) → IsCalled texts n r ts y ws → Rests follows ws → Then (Signs sign.ParenClose) (λ closing. Done (expr.Call n [], r)) ts y ws
      go y ws (parts.without h) q = h
      go y ws (parts.with_arguments h) q = absurd (some_no_close texts r ts h.between h.value h.first closing us c)

  with_only : (n : Name) (r : Counts) (ts us ws : List Token) (args : List Expr × Counts) (closing : Token) → IsOnly (AreSome texts r) continues_list ts args us → Signs sign.ParenClose us closing ws → IsOnly (IsCalled texts n r) follows ts (expr.Call n args.0, args.1) ws
  with_only n r ts us ws args closing p c =
      let whole : IsOnly (Then (AreSome texts r) (λ args. Then (Signs sign.ParenClose) (λ closing. Done (expr.Call n args.0, args.1)))) follows ts (expr.Call n args.0, args.1) ws =
      then_only (list_stops (λ args closing. Done (expr.Call n args.0, args.1))) p (lead_only (sees_only c) done_only) in
      only_by (parts.with_arguments whole.phrase) go whole
    where
      go : (y : Expr × Counts) (ws : List Token) → IsCalled texts n r ts y ws → Rests follows ws → Then (AreSome texts r) (λ args. Then (Signs sign.ParenClose) (λ closing. Done (expr.Call n args.0, args.1))) ts y ws
      go y ws (parts.without h) q = absurd (some_no_close texts r ts us args p.phrase h.value h.between h.first)
      go y ws (parts.with_arguments h) q = h

  abbrev Further : List Expr × Counts → List Token → List Expr × Counts → List Token → Type 0
  Further found = Then (Signs sign.Comma) (λ t. Then (IsExpr texts 0 found.1) (λ x. AreFurther texts (found.0 ++ x.0 ∷ [], x.1)))

  comma_goes : (ts us : List Token) (t : Token) → Signs sign.Comma ts t us → GoesOn continues_list ts
  comma_goes ts us t (token d) = comma_in_list texts t d

  last_only : (found : List Expr × Counts) (ts : List Token) → Rests continues_list ts → (z : List Expr × Counts) (vs : List Token) → AreFurther texts found ts z vs → (z ≡ found) × (vs ≡ ts)
  last_only found ts r z vs grammar.last = (refl, refl)
  last_only found ts r z vs (grammar.further {us = us} {t = t} s p q) = absurd (r (comma_goes ts us t s))

  to_further : (found : List Expr × Counts) (ts us : List Token) (t : Token) → Signs sign.Comma ts t us → (z : List Expr × Counts) (vs : List Token) → AreFurther texts found ts z vs → Rests continues_list vs → Further found ts z vs
  to_further found ts us t s z vs grammar.last q = absurd (q (comma_goes ts us t s))
  to_further found ts us t s z vs (grammar.further a p m) q = both _ _ a (both _ _ p m)

  further_one : (found all : List Expr × Counts) (e : Expr × Counts) (ts us vs ws : List Token) (t : Token) → Signs sign.Comma ts t us → One found.1 us e vs → IsOnly (AreFurther texts (found.0 ++ e.0 ∷ [], e.1)) continues_list vs all ws
      → IsOnly (AreFurther texts found) continues_list ts all ws
  further_one found all e ts us vs ws t s p q =
      let whole : IsOnly (Further found) continues_list ts all ws = lead_only (sees_only s) (then_only (further_stops texts (λ x. (found.0 ++ x.0 ∷ [], x.1))) p q) in
      only_by (grammar.further s p.phrase q.phrase) (to_further found ts us t s) whole

  first_only : (s : Counts) (all : List Expr × Counts) (e : Expr × Counts) (ts us vs : List Token) → One s ts e us → IsOnly (AreFurther texts (e.0 ∷ [], e.1)) continues_list us all vs → IsOnly (AreSome texts s) continues_list ts all vs
  first_only s all e ts us vs p q =
      let whole : IsOnly (Then (IsExpr texts 0 s) (λ x. AreFurther texts (x.0 ∷ [], x.1))) continues_list ts all vs = then_only (further_stops texts (λ x. (x.0 ∷ [], x.1))) p q in
      only_by (grammar.first p.phrase q.phrase) (λ y ws h r. some_from texts s ts ws y h) whole

  -- ---- operators

  abbrev Operand : ℕ → List ℕ → ℕ → Expr → Counts → List Token → Expr × Counts → List Token → Type 0
  Operand k f at l r = Then (HasFunction texts f at) (λ n. Then (IsExpr texts (suc k) r) (λ x. AreOperands texts k (expr.Call n (l ∷ x.0 ∷ []), x.1)))

  no_operator_only : (k : ℕ) (l : Expr × Counts) (ts : List Token) → Rests (continues k) ts → (y : Expr × Counts) (vs : List Token) → AreOperands texts k l ts y vs → (y ≡ l) × (vs ≡ ts)
  no_operator_only k l ts r y vs grammar.no_operator = (refl, refl)
  no_operator_only k l ts r y vs (grammar.operator {t = t} {function = f} at spends p c q) = absurd (r (at_level k f t at))

  resting : {A : Type 0} (c : Token → Bool) (us : List Token) → A ⊎ GoesOn c us → Rests c us → A
  resting c us (inl a) r = a
  resting c us (inr g) r = absurd (r g)

  operator_only : (k : ℕ) (l x e : Expr × Counts) (left : Counts) (t : Token) (us vs ws : List Token) (w : Expr) (f : List ℕ) → infix_of t.what ≡ Some (k, f) → spent l.1 ≡ Some left → IsOnly (IsExpr texts (suc k) left) (continues (suc k)) us x vs
      → IsCall texts f t.from (l.0 ∷ x.0 ∷ []) w → IsOnly (AreOperands texts k (w, x.1)) (continues k) vs e ws → IsOnly (AreOperands texts k l) (continues k) (t ∷ us) e ws
  operator_only k l x e left t us vs ws w f at spends p call q =
      let n : Name = record { at = t.from; id = call.0 } in
      let rest : IsOnly (AreOperands texts k (expr.Call n (l.0 ∷ x.0 ∷ []), x.1)) (continues k) vs e ws = subst (λ z. IsOnly (AreOperands texts k (z, x.1)) (continues k) vs e ws) call.2 q in
      let whole : IsOnly (Operand k f t.from l.0 left) (continues k) us e ws = lead_only (has_only call.0 call.1) (then_only (operand_stops texts k (λ x. (expr.Call n (l.0 ∷ x.0 ∷ []), x.1))) p rest) in
      only_by (grammar.operator at spends p.phrase call q.phrase) (λ y zs h r. resting (continues k) zs (operator_from texts k l f left t us zs y at spends h) r) whole

  prefix_only : (s left : Counts) (t : Token) (us vs : List Token) (inner : Expr × Counts) (e : Expr) (f : List ℕ) → prefix_of t.what ≡ Some f → spent s ≡ Some left → IsOnly (IsExpr texts unary_level left) (continues unary_level) us inner vs
      → IsCall texts f t.from (inner.0 ∷ []) e → IsOnly (IsExpr texts unary_level s) (continues unary_level) (t ∷ us) (e, inner.1) vs
  prefix_only s left t us vs inner e f at spends p call =
      let n : Name = record { at = t.from; id = call.0 } in
      let whole : IsOnly (Then (HasFunction texts f t.from) (λ n. Then (IsExpr texts unary_level left) (λ y. Done (expr.Call n (y.0 ∷ []), y.1)))) (continues unary_level) us (expr.Call n (inner.0 ∷ []), inner.1) vs =
      lead_only (has_only call.0 call.1) (then_only (done_stops (continues unary_level) (λ (y : Expr × Counts). (expr.Call n (y.0 ∷ []), y.1))) p done_only) in
      only_by (grammar.prefix at spends p.phrase call) (λ y ws h r. unary_from texts unary_level s left f t (t ∷ us) us ws y refl refl at spends h) (renamed_only call.2 whole)

  -- what begins as a primary is one
  to_primary : (k : ℕ) (s : Counts) (ts us vs : List Token) (x y : Expr × Counts) → k ≡ unary_level → IsPrimary texts s ts x us → IsExpr texts k s ts y vs → IsPrimary texts s ts y vs
  to_primary k s ts us vs x y top p (grammar.operands less q r) = absurd (omega arith)
  to_primary k s ts us vs x y top p (grammar.prefix {t = t} {us = behind} {function = f} at spends q c) = absurd (led_by texts s t behind us x start.Other (prefix_start texts t.what f at) p)
  to_primary k s ts us vs x y top p (grammar.primary q) = q

  primary_expr : (s : Counts) (ts us : List Token) (x : Expr × Counts) → IsOnly (IsPrimary texts s) follows ts x us → IsOnly (IsExpr texts unary_level s) (continues unary_level) ts x us
  primary_expr s ts us x m = only_by (grammar.primary m.phrase) (λ y ws h r. to_primary unary_level s ts us ws x y refl m.phrase h) (wide_only (follows_wider unary_level) m)

  -- ---- all of them

  mutual
    pub expr_only : (k : ℕ) (s : Counts) (ts : List Token) (x : Expr × Counts) (us : List Token) → IsExpr texts k s ts x us → IsOnly (IsExpr texts k s) (continues k) ts x us
    expr_only k s ts x vs (grammar.operands {us = us} {l = l} less p q) =
        let whole : IsOnly (Then (IsExpr texts (suc k) s) (AreOperands texts k)) (continues k) ts x vs = then_only (level_stops texts k) (expr_only (suc k) s ts l us p) (operands_only k l us x vs q) in
        only_by (grammar.operands less p q) (λ y ws h r. level_from texts k s ts ws y less h) whole
    expr_only k s ts x vs (grammar.prefix {r = left} {t = t} {us = us} {inner = inner} {e = e} {function = f} at spends p call) = prefix_only s left t us vs inner e f at spends (expr_only unary_level left us inner vs p) call
    expr_only k s ts x us (grammar.primary p) = primary_expr s ts us x (primary_only s ts x us p)

    operands_only : (k : ℕ) (l : Expr × Counts) (ts : List Token) (x : Expr × Counts) (us : List Token) → AreOperands texts k l ts x us → IsOnly (AreOperands texts k l) (continues k) ts x us
    operands_only k l ts x us grammar.no_operator = record { phrase = grammar.no_operator; only = λ r y vs h q. no_operator_only k l ts r y vs h }
    operands_only k l ts x ws (grammar.operator {r = left} {t = t} {us = us} {vs = vs} {x = y} {whole = w} {function = f} at spends p call q) =
        operator_only k l y x left t us vs ws w f at spends (expr_only (suc k) left us y vs p) call (operands_only k (w, y.1) vs x ws q)

    primary_only : (s : Counts) (ts : List Token) (x : Expr × Counts) (us : List Token) → IsPrimary texts s ts x us → IsOnly (IsPrimary texts s) follows ts x us
    primary_only s ts x us (grammar.constant {t = t} {e = e} d) = constant_only s t us e d
    primary_only s ts x us (grammar.ptg_null {r = left} {t = t} {e = e} d f call) = null_only s left t us e d f call
    primary_only s ts x ws (grammar.parenthesized {r = left} {t = t} {closing = closing} {us = us} {vs = vs} d f p c) = parenthesized_only s left t closing us vs ws x d f (expr_only 0 left us x vs p) c
    primary_only s ts x us (grammar.read {e = e} p) = read_only s ts us e p
    primary_only s ts x us (grammar.including {e = e} p) = including_only s ts us e p
    primary_only s ts x us (grammar.constituents {k = k} p) = constituents_only s ts us k p
    primary_only s ts x vs (grammar.terminal {us = us} {n = n} {i = i} m index) = word_only s ts us vs n (expr.Terminal n i, s) (grammar.terminal m index) m (named_placed s n us vs (expr.Terminal n i, s) (both i vs index (parts.bare done)))
    primary_only s ts x zs (grammar.call {r = left} {us = us} {vs = vs} {ws = ws} {n = n} {opening = opening} {closing = closing} {args = args} m o f a c) =
        word_only s ts us zs n (expr.Call n args.0, args.1) (grammar.call m o f a c) m (named_called s left n us vs zs opening (expr.Call n args.0, args.1) o f (arguments_only left vs args ws a n zs closing c))
    primary_only s ts whole hs (grammar.choice {r = left} {t = t} {opening = opening} {first = a} {second = b} {closing = closing} {us = us} {vs = vs} {ws = ws} {xs = xs} {ys = ys} {zs = zs} {gs = gs} {x = x} {y = y} {z = z} {e = e} d f o p before_second q before_third r c call) =
        choice_only s left t opening a b closing us vs ws xs ys zs gs hs x y z e d f o (expr_only 0 left vs x ws p) before_second (expr_only 0 x.1 xs y ys q) before_third (expr_only 0 y.1 zs z gs r) c call
    primary_only s ts x zs (grammar.order {r = left} {t = t} {opening = opening} {closing = closing} {us = us} {vs = vs} {ws = ws} {args = args} {e = e} d f o p c call) =
        order_only s left t opening closing us vs ws zs args e d f o (some_only left vs args ws p) c call

    arguments_only : (r : Counts) (ts : List Token) (args : List Expr × Counts) (us : List Token) → AreArguments texts r ts args us → (n : Name) (ws : List Token) (closing : Token) → Signs sign.ParenClose us closing ws
        → IsOnly (IsCalled texts n r) follows ts (expr.Call n args.0, args.1) ws
    arguments_only r ts args us grammar.none n ws closing c = without_only n r ts ws closing c
    arguments_only r ts args us (grammar.some p) n ws closing c = with_only n r ts us ws args closing (some_only r ts args us p) c

    some_only : (s : Counts) (ts : List Token) (all : List Expr × Counts) (us : List Token) → AreSome texts s ts all us → IsOnly (AreSome texts s) continues_list ts all us
    some_only s ts all vs (grammar.first {us = us} {e = e} p q) = first_only s all e ts us vs (expr_only 0 s ts e us p) (further_only (e.0 ∷ [], e.1) us all vs q)

    further_only : (found : List Expr × Counts) (ts : List Token) (all : List Expr × Counts) (us : List Token) → AreFurther texts found ts all us → IsOnly (AreFurther texts found) continues_list ts all us
    further_only found ts all us grammar.last = record { phrase = grammar.last; only = λ r z vs h q. last_only found ts r z vs h }
    further_only found ts all ws (grammar.further {e = e} {us = us} {vs = vs} {t = t} s p q) = further_one found all e ts us vs ws t s (expr_only 0 found.1 us e vs p) (further_only (found.0 ++ e.0 ∷ [], e.1) vs all ws q)
