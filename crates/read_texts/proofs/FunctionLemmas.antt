-- The names of functions are given by different tokens: those of calls by the words or the operators, those of WITH by their words.
use Rattle.std.proofs.Common.{◌≡◌, ℕ, suc, ◌+◌, true, false, List, [], ◌∷◌, ◌++◌, flat_map, Option, Some, refl, ap, sym, ◌∙◌, subst}
use Rattle.std.proofs.lemmas.List.{append-nil, flat_map_more}
use Rattle.std.proofs.lemmas.Grind.{flat_map-append}
use Rattle.lido_lexer.specs.Seen.{Sees}
use Rattle.lido_lexer.specs.declared.keyword.Keyword.TheVariants as key
use Rattle.lido_lexer.specs.declared.token.Token.{Token}
use Rattle.lido_lexer.specs.declared.token.TokenKind.{TokenKind}
use Rattle.lido_lexer.specs.declared.token.TokenKind.TheVariants as kind
use Rattle.lido_syntax.specs.declared.spec.Name.{Name}
use Rattle.lido_syntax.specs.declared.spec.Comp.{Comp}
use Rattle.lido_syntax.specs.declared.spec.Cons.{Cons}
use Rattle.lido_syntax.specs.declared.spec.Expr.{Expr}
use Rattle.lido_syntax.specs.declared.spec.Expr.TheVariants as expr
use Rattle.lido_syntax.specs.declared.spec.Severity.{Severity}
use Rattle.lido_syntax.specs.declared.spec.Target.{Target}
use Rattle.lido_syntax.specs.declared.spec.With.{With}
use Rattle.lido_syntax.specs.Parts.{parts, conditions, expressions_of}
use Rattle.lido_syntax.proofs.ExpressionLemmas.{parts-Call}
use Rattle.lido_symbols.specs.Uses.{functions_of_part, functions_of_with}
use Rattle.lido_computations.specs.declared.counts.Counts.{Counts}
use Rattle.lido_computations.specs.declared.messages.MessageWords.{MessageWords}
use Rattle.lido_computations.specs.declared.owners.Owner.{Owner}
use Rattle.lido_computations.specs.declared.owners.Owner.TheVariants as owner
use Rattle.lido_computations.specs.Phrases.{IsName, word}
use Rattle.lido_computations.specs.Places.{absent, present, IsWith, AreConstituentsOf, AreConstituents}
use Rattle.lido_computations.specs.Expressions as grammar
use Rattle.lido_computations.specs.Expressions.{constant_of, IsCall, IsExpr, AreOperands, IsPrimary, AreArguments, AreSome, AreFurther}
use Rattle.lido_computations.specs.Computations as computations
use Rattle.lido_computations.specs.Computations.{IsDependency, AreMoreDependencies, AreSomeDependencies, AreDependencies, AreAfter, IsTarget, IsValue, IsComputation}
use Rattle.lido_computations.specs.Messages as messages
use Rattle.lido_computations.specs.Messages.{IsMessageOf, IsUnconditional, IsConditional, IsRuleComputation, IsComputationIn}
use Rattle.lido_reader.specs.Items as items
use Rattle.lido_reader.specs.Items.{Repeats, AreComputations, IsBody, IsFurtherComputation}
use Rattle.lido_reader.proofs.PartsLemmas.{at_done}
use Rattle.lido_reader.proofs.NumbersLemmas as marks
use Rattle.read_texts.proofs.GivesLemmas.{Gives, nothing_left, passes, Covers, skips, covers, none, same, fewer, then_skips, skips_first, gives_first, also, moved_in}

abbrev pub at_name : Name → ℕ
at_name x = x.at

abbrev pub Names : List Token → List Name → List Token → Type 0
Names = Covers at_name

abbrev pub functions_in : Expr → List Name
functions_in e = flat_map functions_of_part (parts e)

abbrev pub functions_of : Comp → List Name
functions_of c = flat_map functions_in (expressions_of c)

-- ---- phrases of names

pub name_first : {ts us vs : List Token} {n : Name} {xs : List Name} → IsName ts n us → Names us xs vs → Names ts (n ∷ xs) vs
name_first {n = n} (word e) c = gives_first n refl c

-- a token that gives nothing
sees : {what : TokenKind} {ts us vs : List Token} {t : Token} {xs : List Name} → Sees what ts t us → Names us xs vs → Names ts xs vs
sees {ts = ts} {us = us} {t = t} p c = skips_first (skips (marks.seen ts t us p 0)) c

after_seen : {what : TokenKind} {ts us vs : List Token} {t : Token} {xs : List Name} → Names ts xs us → Sees what us t vs → Names ts xs vs
after_seen {us = us} {vs = vs} {t = t} c p = then_skips c (skips (marks.seen us t vs p 0))

with_names : (ts us : List Token) (w : Option With) → IsWith ts w us → Names ts (functions_of_with w) us
with_names ts us w (absent e) = subst (λ z. Names ts (functions_of_with z) ts) (sym e) none
with_names ts us w (present p) =
    let opening = p.rest in
    let type = opening.rest in
    let before_comb = type.rest in
    let comb = before_comb.rest in
    let before_single = comb.rest in
    let single = before_single.rest in
    let before_null = single.rest in
    let null = before_null.rest in
    let closing = null.rest in
    at_done (λ z vs. Names ts (functions_of_with z) vs) closing.rest
    (sees p.first (sees opening.first (skips_first (skips (marks.a_type opening.between type.value type.between type.first 0)) (sees before_comb.first (name_first comb.first
    (sees before_single.first (name_first single.first (sees before_null.first (name_first null.first (sees closing.first none))))))))))

constituents : (n : ℕ) (ts us : List Token) (k : Cons) → AreConstituents n ts k us → Names ts (functions_of_with k.with) us
constituents n ts us k p = sees p.first (of p.value.from p.between p.rest)
  where
    of : (at : ℕ) (ms : List Token) → AreConstituentsOf at n ms k us → Names ms (functions_of_with k.with) us
    of at ms q =
        let shield = q.rest in
        let with = shield.rest in
        at_done (λ (z : Cons) vs. Names ms (functions_of_with z.with) vs) with.rest
        (skips_first (skips ((marks.listed_passed marks.pair_passed).none ms q.value q.between q.first 0))
        (skips_first (skips ((marks.optional_passed (marks.then_passed marks.sees_passed (λ t. marks.listed_passed marks.name_passed))).none q.between shield.value shield.between shield.first 0))
        (with_names shield.between with.between with.value with.first)))

-- ---- expressions

functions_of_all : (args : List Expr) → flat_map functions_of_part (flat_map parts args) ≡ flat_map functions_in args
functions_of_all [] = refl
functions_of_all (e ∷ args) = flat_map-append functions_of_part (parts e) (flat_map parts args) ∙ ap (λ more. functions_in e ++ more) (functions_of_all args)

functions-Call : (f : Name) (args : List Expr) → f ∷ flat_map functions_in args ≡ functions_in (expr.Call f args)
functions-Call f args = sym (ap (flat_map functions_of_part) (parts-Call f args) ∙ ap (λ l. f ∷ l) (functions_of_all args))

constant_functions : (at : ℕ) (what : TokenKind) (e : Expr) → constant_of at what ≡ Some e → functions_in e ≡ []
constant_functions at (kind.Int i) e d = let same : e ≡ expr.Int at i = cc in ap functions_in same
constant_functions at (kind.Str s) e d = let same : e ≡ expr.Str at s = cc in ap functions_in same
constant_functions at (kind.Key key.True) e d = let same : e ≡ expr.Bool at true = cc in ap functions_in same
constant_functions at (kind.Key key.False) e d = let same : e ≡ expr.Bool at false = cc in ap functions_in same
constant_functions at _ e d = cc

one_only : (e : Expr) → functions_in e ≡ flat_map functions_in (e ∷ [])
one_only e = sym (append-nil (functions_in e))

module _ (texts : List (List ℕ)) where
  -- the operator's name, and what its operands give
  called : {function : List ℕ} {at : ℕ} {e : Expr} (args : List Expr) (c : IsCall texts function at args e) → record { at = at; id = c.0 } ∷ flat_map functions_in args ≡ functions_in e
  called {at = at} args c = functions-Call (record { at = at; id = c.0 }) args ∙ sym (ap functions_in c.2)

  mutual
    expression : (k : ℕ) (s : Counts) (ts us : List Token) (e : Expr × Counts) → IsExpr texts k s ts e us → Names ts (functions_in e.0) us
    expression k s ts vs e (grammar.operands {us = us} {l = l} less p q) = operators k ts us vs l e q (expression (suc k) s ts us l p)
    expression k s ts vs e (grammar.prefix {r = r} {t = t} {us = us} {inner = inner} d spend p c) =
        same (called (inner.0 ∷ []) c) (gives_first (record { at = t.from; id = c.0 }) refl (same (one_only inner.0) (expression grammar.unary_level r us vs inner p)))
    expression k s ts us e (grammar.primary p) = operand s ts us e p

    -- behind an operand that gave these
    operators : (k : ℕ) (ts us vs : List Token) (l e : Expr × Counts) → AreOperands texts k l us e vs → Names ts (functions_in l.0) us → Names ts (functions_in e.0) vs
    operators k ts us vs l e grammar.no_operator h = h
    operators k ts us ws l e (grammar.operator {r = r} {t = t} {us = bs} {vs = vs} {x = x} {whole = whole} d spend p c q) h =
        let name : Name = record { at = t.from; id = c.0 } in
        operators k ts vs ws (whole, x.1) e q (same (called (l.0 ∷ x.0 ∷ []) c) (fewer (moved_in name (functions_in l.0) (flat_map functions_in (x.0 ∷ []))) (also h (gives_first name refl (same (one_only x.0) (expression (suc k) r bs vs x p))))))

    operand : (s : Counts) (ts us : List Token) (e : Expr × Counts) → IsPrimary texts s ts e us → Names ts (functions_in e.0) us
    operand s ts us e (grammar.constant {t = t} {e = whole} d) = same (sym (constant_functions t.from t.what whole d)) (covers (passes nothing_left))
    operand s ts us e (grammar.ptg_null {t = t} d spend c) = same (called [] c) (gives_first (record { at = t.from; id = c.0 }) refl none)
    operand s ts ws e (grammar.parenthesized {r = r} {us = us} {vs = vs} d spend p q) = skips_first (passes nothing_left) (after_seen (expression 0 r us vs e p) q)
    operand s ts us e (grammar.read {e = whole} p) = same (sym (ap functions_in p.rest.rest.rest.same)) (covers (skips (marks.read_passed.none ts whole us p 0)))
    operand s ts us e (grammar.including {e = whole} p) = same (sym (ap functions_in p.rest.rest.same)) (covers (skips (marks.including 0 ts us whole p)))
    operand s ts us e (grammar.constituents {k = k} p) = same (sym (append-nil (functions_of_with k.with))) (constituents s.number ts us k p)
    operand s ts vs e (grammar.terminal {us = us} {n = n} {i = i} p q) = skips_first (skips (marks.a_name ts n us p 0)) (covers (skips (marks.index_passed.none us i vs q 0)))
    operand s ts zs e (grammar.call {r = r} {vs = vs} {ws = ws} {n = n} {args = args} p o spend a c) = same (functions-Call n args.0) (name_first p (sees o (after_seen (arguments r vs ws args a) c)))
    operand s ts hs e (grammar.choice {r = r} {t = t} {vs = vs} {ws = ws} {xs = xs} {ys = ys} {zs = zs} {gs = gs} {x = x} {y = y} {z = z} d spend o p c q b f g h) =
        same (called (x.0 ∷ y.0 ∷ z.0 ∷ []) h) (gives_first (record { at = t.from; id = h.0 }) refl (sees o (also (expression 0 r vs ws x p) (sees c (also (expression 0 x.1 xs ys y q) (sees b (same (one_only z.0) (after_seen (expression 0 y.1 zs gs z f) g))))))))
    operand s ts zs e (grammar.order {r = r} {t = t} {vs = vs} {ws = ws} {args = args} d spend o a c h) =
        same (called args.0 h) (gives_first (record { at = t.from; id = h.0 }) refl (sees o (after_seen (some_of r vs ws args a) c)))

    arguments : (s : Counts) (ts us : List Token) (args : List Expr × Counts) → AreArguments texts s ts args us → Names ts (flat_map functions_in args.0) us
    arguments s ts us args grammar.none = none
    arguments s ts us args (grammar.some p) = some_of s ts us args p

    some_of : (s : Counts) (ts us : List Token) (args : List Expr × Counts) → AreSome texts s ts args us → Names ts (flat_map functions_in args.0) us
    some_of s ts vs args (grammar.first {us = us} {e = e} p q) = further ts us vs (e.0 ∷ [], e.1) args q (same (one_only e.0) (expression 0 s ts us e p))

    further : (ts us vs : List Token) (found args : List Expr × Counts) → AreFurther texts found us args vs → Names ts (flat_map functions_in found.0) us → Names ts (flat_map functions_in args.0) vs
    further ts us vs found args grammar.last h = h
    further ts us ws found args (grammar.further {e = e} {us = bs} {vs = vs} c p q) h =
        further ts vs ws (found.0 ++ e.0 ∷ [], e.1) args q (same (flat_map_more functions_in [] found.0 e.0) (also h (sees c (expression 0 found.1 bs vs e p))))

-- ---- dependencies

dependency : (n : ℕ) (ts us : List Token) (x : Expr × ℕ) → IsDependency n ts x us → Names ts (functions_in x.0) us
dependency n ts us x (computations.read {e = e} p) = same (sym (ap functions_in p.rest.rest.rest.same)) (covers (skips (marks.read_passed.none ts e us p 0)))
dependency n ts us x (computations.including {e = e} p) = same (sym (ap functions_in p.rest.rest.same)) (covers (skips (marks.including 0 ts us e p)))
dependency n ts us x (computations.constituents {k = k} p) = same (sym (append-nil (functions_of_with k.with))) (constituents n ts us k p)

more_dependencies : (ts us vs : List Token) (found all : List Expr × ℕ) → AreMoreDependencies found us all vs → Names ts (flat_map functions_in found.0) us → Names ts (flat_map functions_in all.0) vs
more_dependencies ts us vs found all computations.last h = h
more_dependencies ts us ws found all (computations.further {e = e} {us = bs} {vs = vs} c p q) h =
    more_dependencies ts vs ws (found.0 ++ e.0 ∷ [], e.1) all q (same (flat_map_more functions_in [] found.0 e.0) (also h (sees c (dependency found.1 bs vs e p))))

some_dependencies : (n : ℕ) (ts us : List Token) (all : List Expr × ℕ) → AreSomeDependencies n ts all us → Names ts (flat_map functions_in all.0) us
some_dependencies n ts us all p = more_dependencies ts p.between us (p.value.0 ∷ [], p.value.1) all p.rest (same (one_only p.value.0) (dependency n ts p.between p.value p.first))

dependencies : (n : ℕ) (ts us : List Token) (all : List Expr × ℕ) → AreDependencies n ts all us → Names ts (flat_map functions_in all.0) us
dependencies n ts us all (computations.single {e = e} p) = same (one_only e.0) (dependency n ts us e p)
dependencies n ts us all (computations.several p) =
    at_done (λ (z : List Expr × ℕ) ws. Names ts (flat_map functions_in z.0) ws) p.rest.rest.rest
    (sees p.first (after_seen (some_dependencies n p.between p.rest.between p.rest.value p.rest.first) p.rest.rest.first))

after : (n : ℕ) (ts us : List Token) (all : List Expr × ℕ) → AreAfter n ts all us → Names ts (flat_map functions_in all.0) us
after n ts us all (absent e) = subst (λ (z : List Expr × ℕ). Names ts (flat_map functions_in z.0) ts) (sym e) none
after n ts us all (present p) = sees p.first (dependencies n p.between us all p.rest)

-- ---- computations

a_target : (ts us : List Token) (x : ℕ × Target) → IsTarget ts x us → Gives at_name ts [] us
a_target ts us x p = let b = marks.target_begun ts us x p in subst (λ z. Gives at_name z [] us) (sym b.parts) (passes (skips (b.none 0)))

no_condition : (ts us : List Token) (x : ℕ × Target) → IsTarget ts x us → conditions x.1 ≡ []
no_condition ts us x p = (marks.target_begun ts us x p).no_condition

module _ (texts : List (List ℕ)) where
  computation : (n : ℕ) (ts us : List Token) (x : Comp × ℕ) → IsComputation texts n ts x us → Names ts (functions_of x.0) us
  computation n ts us x (computations.assignment p) =
      let equal = p.rest in
      let value = equal.rest in
      let behind = value.rest in
      at_done (λ (z : Comp × ℕ) ws. Names ts (functions_of z.0) ws) behind.rest
      (same (λ j. flat_map functions_in (sym (no_condition ts p.between p.value p.first) j ++ value.value.0 ∷ behind.value.0))
      (skips_first (a_target ts p.between p.value p.first) (sees equal.first (also (expression texts 0 (record { budget = _; number = n + 1 }) equal.between value.between value.value value.first)
      (after value.value.1.number value.between behind.between behind.value behind.first)))))
  computation n ts us x (computations.output p) =
      let opening = p.rest in
      let value = opening.rest in
      let closing = value.rest in
      let behind = closing.rest in
      at_done (λ (z : Comp × ℕ) ws. Names ts (functions_of z.0) ws) behind.rest
      (sees p.first (sees opening.first (also (expression texts 0 (record { budget = _; number = n + 1 }) opening.between value.between value.value value.first)
      (sees closing.first (after value.value.1.number closing.between behind.between behind.value behind.first)))))

  module _ (words : MessageWords) where
    message_of : (s : Counts) (ts us : List Token) (x : (Severity × Expr) × Counts) → IsMessageOf words texts s ts x us → Names ts (functions_in x.0.1) us
    message_of s ts us x p =
        let severity = p.rest in
        let comma = severity.rest in
        let text = comma.rest in
        let placing = text.rest in
        at_done (λ (z : (Severity × Expr) × Counts) ws. Names ts (functions_in z.0.1) ws) placing.rest
        (sees p.first (skips_first (skips (marks.a_severity p.between severity.value severity.between severity.first 0)) (sees comma.first
        (then_skips (expression texts 0 s comma.between text.between text.value text.first) (skips ((marks.placing_passed words).none text.between placing.value placing.between placing.first 0))))))

    rule_computation : (n : ℕ) (ts us : List Token) (x : Comp × ℕ) → IsRuleComputation words texts n ts x us → Names ts (functions_of x.0) us
    rule_computation n ts us x (messages.usual p) = computation n ts us x p
    rule_computation n ts us x (messages.message p) =
        let message = p.rest in
        let behind = message.rest in
        at_done (λ (z : Comp × ℕ) ws. Names ts (functions_of z.0) ws) behind.rest
        (sees p.first (also (message_of (record { budget = _; number = n + 1 }) p.between message.between message.value message.first) (after message.value.1.number message.between behind.between behind.value behind.first)))
    rule_computation n ts us x (messages.conditional p) =
        let opening = p.rest in
        let condition = opening.rest in
        let comma = condition.rest in
        let called = comma.rest in
        let message = called.rest in
        let closing = message.rest in
        let behind = closing.rest in
        at_done (λ (z : Comp × ℕ) ws. Names ts (functions_of z.0) ws) behind.rest
        (sees p.first (sees opening.first (also (expression texts 0 (record { budget = _; number = n + 1 }) opening.between condition.between condition.value condition.first) (sees comma.first (sees called.first
        (also (message_of condition.value.1 called.between message.between message.value message.first) (sees closing.first (after message.value.1.number closing.between behind.between behind.value behind.first))))))))

    computation_in : (o : Owner) (n : ℕ) (ts us : List Token) (x : Comp × ℕ) → IsComputationIn words texts o n ts x us → Names ts (functions_of x.0) us
    computation_in owner.Rule n ts us x p = rule_computation n ts us x p
    computation_in owner.Symbol n ts us x p = computation n ts us x p.usual

    -- ---- bodies

    abbrev One : Owner → ℕ → List Token → Comp × ℕ → List Token → Type 0
    One = IsComputationIn words texts

    steps : (o : Owner) (ts us vs : List Token) (y z : List Comp × ℕ) → Repeats (IsFurtherComputation (One o)) y us z vs → Names ts (flat_map functions_of y.0) us → Names ts (flat_map functions_of z.0) vs
    steps o ts us vs y z items.end h = h
    steps o ts us ws y z (items.next {more = m} {us = vs} p q) h =
        steps o ts vs ws m z q (at_done (λ (k : List Comp × ℕ) bs. Names ts (flat_map functions_of k.0) bs) p.rest.rest
        (same (flat_map_more functions_of [] y.0 p.value.0) (after_seen (also h (computation_in o y.1 us p.between p.value p.first)) p.rest.first)))

    computed : (o : Owner) (n : ℕ) (ts us : List Token) (z : List Comp × ℕ) → AreComputations (One o) n ts z us → Names ts (flat_map functions_of z.0) us
    computed o n ts us z (absent e) = subst (λ (k : List Comp × ℕ). Names ts (flat_map functions_of k.0) ts) (sym e) none
    computed o n ts us z (present q) = steps o ts q.between us ([], n) z q.rest (covers (skips (marks.seen ts q.value q.between q.first 0)))

    pub body : (o : Owner) (n : ℕ) (ts us : List Token) (all : List Comp × ℕ) → IsBody (One o) n ts all us → Names ts (flat_map functions_of all.0) us
    body o n ts us all p =
        at_done (λ (k : List Comp × ℕ) bs. Names ts (flat_map functions_of k.0) bs) p.rest.rest.rest
        (after_seen (after_seen (computed o n ts p.between p.value p.first) p.rest.first) p.rest.rest.first)
