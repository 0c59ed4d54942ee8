-- The output and the messages of a plain rule are those of its written rule.
use Rattle.std.specs.Prelude.{Bool, true, false, cond, slice_get, filter, Contains}
use Rattle.std.proofs.Common.{◌≡◌, ℕ, zero, suc, ◌+◌, ◌<◌, ◌≤◌, arith, List, [], ◌∷◌, ◌++◌, length, take, get_or, Option, Some, None, refl, sym, ap, ◌∙◌, subst, append-nil, add-one}
use Rattle.std.proofs.lemmas.Option.{slice_get_within}
use Rattle.lido_base.proofs.Lists.{place-contains}
use Rattle.lido_syntax.specs.declared.spec.Comp.{Comp}
use Rattle.lido_syntax.specs.declared.spec.RuleItem.{RuleItem}
use Rattle.lido_syntax.specs.declared.spec.Target.{Target}
use Rattle.lido_syntax.specs.declared.spec.Target.TheVariants as target
use Rattle.lido_syntax.specs.declared.spec.Place.TheVariants as place
use Rattle.lido_syntax.specs.Computation.{Output, Message, Holder, by_rule, InForce, of_rule, of_symbol, of_class, InRule, IsRuleTarget, IsSymbolTarget, is_message, messages_of}
use Rattle.lido_syntax.specs.Completeness.{IsSingle}
use Rattle.rule_tables.specs.declared.table.Tables.{Tables}
use Rattle.rule_tables.specs.declared.forced.Force.{Force as Entry}
use Rattle.rule_tables.specs.declared.forced.Goal.{Goal as Asked}
use Rattle.rule_tables.specs.declared.forced.Goal.TheVariants as asked
use Rattle.rule_tables.specs.PlainRules.{PlainRule}
use Rattle.rule_tables.specs.Forced.{Force}
use Rattle.rule_tables.specs.ForcedOf.{IsGoalAs, kind_of, number_in}
use Rattle.symbol_inherit.specs.Forces.{IsHeld}
use Rattle.symbol_inherit.specs.Entries.{entries_of, AreUpTo, IsOccurrenceOf, IsOutOf}
use Rattle.symbol_inherit.specs.declared.forced.Held.{Held}
use Rattle.symbol_inherit.proofs.RowLemmas.{contains-filter}
use Rattle.symbol_inherit.proofs.EntryLemmas.{held-more, in-force-here, goal-here, next-occ, next-kind, as-message}
use Rattle.symbol_inherit.proofs.FilledLemmas.{late-entry}

-- an element that passes the test stands in the filtered list behind those that do before it
filtered-place : {X : Type 0} (p : X → Bool) (xs : List X) (i : ℕ) (d : X) → i < length xs → p (get_or xs i d) ≡ true → slice_get (filter p xs) (length (filter p (take i xs))) ≡ Some (get_or xs i d)
filtered-place p [] i d w e = absurd (omega arith)
filtered-place {X} p (x ∷ xs) zero d w e = by (p x) e
  where
    by : (b : Bool) → b ≡ true → slice_get (cond b (x ∷ filter p xs) (filter p xs)) 0 ≡ Some x
    by true e = refl
    by false e = cc
filtered-place {X} p (x ∷ xs) (suc i) d w e = by (p x) (filtered-place p xs i d (omega arith) e)
  where
    by : (b : Bool) → slice_get (filter p xs) (length (filter p (take i xs))) ≡ Some (get_or xs i d)
        → slice_get (cond b (x ∷ filter p xs) (filter p xs)) (length (cond b (x ∷ filter p (take i xs)) (filter p (take i xs)))) ≡ Some (get_or xs i d)
    by true h = h
    by false h = h

pub message-there : (r : RuleItem) (body : List Comp) → r.body ≡ body → (i count : ℕ) (comp : Comp) → i < length body → comp ≡ get_or body i comp → count ≡ length (filter is_message (take i body))
    → is_message comp ≡ true → slice_get (messages_of r) count ≡ Some comp
message-there r body of i count comp w at c e =
    ap (λ (l : List Comp). slice_get (filter is_message l) count) of ∙ ap (slice_get (filter is_message body)) c
    ∙ filtered-place is_message body i comp w (ap is_message (sym at) ∙ e) ∙ ap Some (sym at)

module _ (t : Tables) (r : RuleItem) where
  no-symbol-message : (j : ℕ) (g : Target) → IsSymbolTarget t.spec g (Message j) → ⊥
  no-symbol-message j (target.Attr place.Synt a) h = h
  no-symbol-message j (target.Attr place.Inh a) h = h
  no-symbol-message j (target.Attr place.This a) h = h
  no-symbol-message j (target.Attr place.Tail a) h = h
  no-symbol-message j (target.Attr (place.Named x i) a) h = h
  no-symbol-message j (target.Start a) h = h
  no-symbol-message j target.Out h = h
  no-symbol-message j (target.Message s m) h = h

  no-symbol-output : (g : Target) → IsSymbolTarget t.spec g Output → ⊥
  no-symbol-output (target.Attr place.Synt a) h = h
  no-symbol-output (target.Attr place.Inh a) h = h
  no-symbol-output (target.Attr place.This a) h = h
  no-symbol-output (target.Attr place.Tail a) h = h
  no-symbol-output (target.Attr (place.Named x i) a) h = h
  no-symbol-output (target.Start a) h = h
  no-symbol-output target.Out h = h
  no-symbol-output (target.Message s m) h = h

  pub message-by-rule : (s j : ℕ) (h : Holder) (c : Comp) → InForce t.spec r 0 s (Message j) h c → InRule t.spec r 0 (Message j) c
  message-by-rule s j h c (of_rule at own) = own
  message-by-rule s j h c (of_symbol at none own) = absurd (no-symbol-message j c.target own.1)
  message-by-rule s j h c (of_class class at none no_own left only own) = absurd (no-symbol-message j c.target own.1)

  output-by-rule : (s : ℕ) (h : Holder) (c : Comp) → InForce t.spec r 0 s Output h c → InRule t.spec r 0 Output c
  output-by-rule s h c (of_rule at own) = own
  output-by-rule s h c (of_symbol at none own) = absurd (no-symbol-output c.target own.1)
  output-by-rule s h c (of_class class at none no_own left only own) = absurd (no-symbol-output c.target own.1)

  is-output : (c : Comp) (g : Target) → IsRuleTarget t.spec r c g 0 Output → g ≡ target.Out
  is-output c target.Out h = refl
  is-output c (target.Attr (place.Named x i) a) h = absurd h
  is-output c (target.Attr place.Synt a) h = absurd h
  is-output c (target.Attr place.Inh a) h = absurd h
  is-output c (target.Attr place.This a) h = absurd h
  is-output c (target.Attr place.Tail a) h = absurd h
  is-output c (target.Start a) h = absurd h
  is-output c (target.Message s m) h = absurd h

  no-message-zero : (c : Comp) (g : Target) → IsRuleTarget t.spec r c g 0 (Message 0) → ⊥
  no-message-zero c target.Out h = h
  no-message-zero c (target.Attr (place.Named x i) a) h = h
  no-message-zero c (target.Attr place.Synt a) h = h
  no-message-zero c (target.Attr place.Inh a) h = h
  no-message-zero c (target.Attr place.This a) h = h
  no-message-zero c (target.Attr place.Tail a) h = h
  no-message-zero c (target.Start a) h = h
  no-message-zero c (target.Message s m) h = h

  message-place : (j : ℕ) (c : Comp) (g : Target) → IsRuleTarget t.spec r c g 0 (Message (suc j)) → slice_get (messages_of r) j ≡ Some c
  message-place j c target.Out h = absurd h
  message-place j c (target.Attr (place.Named x i) a) h = absurd h
  message-place j c (target.Attr place.Synt a) h = absurd h
  message-place j c (target.Attr place.Inh a) h = absurd h
  message-place j c (target.Attr place.This a) h = absurd h
  message-place j c (target.Attr place.Tail a) h = absurd h
  message-place j c (target.Start a) h = absurd h
  message-place j c (target.Message s m) h = h

  message-target : (j : ℕ) (c : Comp) (g : Target) → (elim g [ target.Message s e ↦ true | _ ↦ false ]) ≡ true → slice_get (messages_of r) j ≡ Some c → IsRuleTarget t.spec r c g 0 (Message (suc j))
  message-target j c (target.Message s m) e h = h
  message-target j c target.Out e h = cc
  message-target j c (target.Attr p a) e h = cc
  message-target j c (target.Start a) e h = cc

  output-target : (c : Comp) (g : Target) → g ≡ target.Out → IsRuleTarget t.spec r c g 0 Output
  output-target c g e = subst (λ g. IsRuleTarget t.spec r c g 0 Output) (sym e) tt

module _ (t : Tables) (p : PlainRule) (r : RuleItem) (s x : ℕ) (single : IsSingle t.spec) (occurs : IsOccurrenceOf t p r 0 s x) where
  -- the output
  output-held : (body : List Comp) → r.body ≡ body → (held : Option Held) → IsOutOf body held → IsHeld t.spec r 0 s Output held
  output-held body of None none = λ (h, c, force).
      let own = output-by-rule t r s h c force in
      none c (subst (λ l. Contains l c) of own.0) (is-output t r c c.target own.1)
  output-held body of (Some held) (c, m, e, is) = (
    by_rule,
    c,
    of_rule (occurs.stands, tt) (subst (λ l. Contains l c) (sym of) m, output-target t r c c.target e),
    ap (λ (h : Held). h.context) (sym is),
    ap (λ (h : Held). h.number) (sym is),
  )

  output-number : (d : Entry) → kind_of d.goal ≡ 3 → number_in d.goal ≡ 0
  output-number d = by d.goal
    where
      by : (g : Asked) → kind_of g ≡ 3 → number_in g ≡ 0
      by asked.Out e = refl
      by (asked.Attr id) e = absurd (omega arith)
      by (asked.Start i) e = absurd (omega arith)
      by (asked.Behind i) e = absurd (omega arith)
      by (asked.Message i) e = absurd (omega arith)

  pub output-more : (body : List Comp) → r.body ≡ body → (held : Option Held) → IsOutOf body held → (old new : List Entry) → AreUpTo t p 3 0 0 old
      → new ≡ old ++ entries_of 0 asked.Out held → AreUpTo t p 4 0 0 new
  output-more body of held is old new up e =
      let one = held-more t p r single 0 s x occurs asked.Out Output tt tt held (output-held body of held is) old new up e in
      let past = next-occ t p 3 0 1 new one (λ d is k q l. let z = output-number d k in omega arith) in
      next-kind t p 3 1 new past (λ d is k l. late-entry t p d 2 is k l)

  -- messages
  message-held : (j : ℕ) (comp : Comp) → slice_get (messages_of r) j ≡ Some comp → is_message comp ≡ true → (held : Held) → held ≡ record { context = 0; number = comp.number }
      → IsHeld t.spec r 0 s (Message (suc j)) (Some held)
  message-held j comp at e held is = (
    by_rule,
    comp,
    of_rule (occurs.stands, tt) (contains-filter is_message r.body comp (place-contains (messages_of r) j comp at), message-target t r j comp comp.target e at),
    ap (λ (h : Held). h.context) (sym is),
    ap (λ (h : Held). h.number) (sym is),
  )

  pub message-more : (j : ℕ) (comp : Comp) → slice_get (messages_of r) j ≡ Some comp → is_message comp ≡ true → (number : ℕ) → number ≡ j + 1
      → (held : Held) → held ≡ record { context = 0; number = comp.number } → (old new : List Entry) → AreUpTo t p 4 0 (j + 1) old
      → new ≡ old ++ entries_of 0 (asked.Message number) (Some held) → AreUpTo t p 4 0 (number + 1) new
  message-more j comp at e number n held is old new up f =
      held-more t p r single 0 s x occurs (asked.Message number) (Message number) refl tt (Some held)
      (subst (λ k. IsHeld t.spec r 0 s (Message k) (Some held)) (sym (n ∙ add-one j)) (message-held j comp at e held is)) old new
      (subst (λ k. AreUpTo t p 4 0 k old) (sym n) up) f

  pub messages-begin : (entries : List Entry) → AreUpTo t p 4 0 0 entries → AreUpTo t p 4 0 (0 + 1) entries
  messages-begin entries up = held-more t p r single 0 s x occurs (asked.Message 0) (Message 0) refl tt None
      (λ (h, c, force). let own = message-by-rule t r s 0 h c force in no-message-zero t r c c.target own.1) entries entries up (sym (append-nil entries))

  pub messages-end : (body : List Comp) → r.body ≡ body → (count : ℕ) → count ≡ length (filter is_message body) → (entries : List Entry) → AreUpTo t p 4 0 (count + 1) entries → AreUpTo t p 5 0 0 entries
  messages-end body of count n entries up =
      next-kind t p 4 1 entries (next-occ t p 4 0 (count + 1) entries up (λ d (f, forced, is) k q l. past d f k q l
      (in-force-here t p r single 0 s x occurs f forced (sym is.occ ∙ q)) (goal-here t p r single 0 s x occurs d f is q)))
      (λ d is k l. late-entry t p d 3 is k l)
    where
      many : (j : ℕ) (c : Comp) → slice_get (messages_of r) j ≡ Some c → j < count
      many j c e = let w = slice_get_within (messages_of r) j c e in let l = ap (λ (b : List Comp). length (filter is_message b)) of in omega arith

      none : (j : ℕ) → count + 1 ≤ j → (f : Force) → f.goal ≡ Message j → InForce t.spec r 0 s f.goal f.holder f.comp → ⊥
      none zero l f e force = omega arith
      none (suc j) l f e force =
          let own = message-by-rule t r s (suc j) f.holder f.comp (subst (λ g. InForce t.spec r 0 s g f.holder f.comp) e force) in
          let m = many j f.comp (message-place t r j f.comp f.comp.target own.1) in
          omega arith

      past : (d : Entry) (f : Force) → kind_of d.goal ≡ 4 → d.occ ≡ 0 → count + 1 ≤ number_in d.goal → InForce t.spec r 0 s f.goal f.holder f.comp → IsGoalAs t x d.goal f.goal → ⊥
      past d f k q l force told = by d.goal k l told
        where
          by : (g : Asked) → kind_of g ≡ 4 → count + 1 ≤ number_in g → IsGoalAs t x g f.goal → ⊥
          by (asked.Message j) k l h = none j l f (as-message t x j f.goal h) force
          by (asked.Attr id) k l h = omega arith
          by (asked.Start i) k l h = omega arith
          by (asked.Behind i) k l h = omega arith
          by asked.Out k l h = omega arith
