-- Which numbers and places the phrases of a specification take, and that the tokens that take them stand one behind the other.
use Rattle.std.proofs.Common.{◌≡◌, ◌⊎◌, ℕ, zero, suc, ◌+◌, ◌<◌, ◌≤◌, true, false, List, [], ◌∷◌, ◌++◌, length, flat_map, Option, Some, None, refl, ap, sym, ◌∙◌, subst, inl, inr, append_assoc, arith}
use Rattle.std.specs.List.{All, AllPairs, slice_index_or}
use Rattle.std.proofs.lemmas.Grind.{flat_map-append}
use Rattle.std.proofs.lemmas.List.Kept.{AllPairs-cons}
use Rattle.std.proofs.lemmas.Option.{none-some, same_Some}
use Rattle.lido_base.specs.declared.ids.StrId.{StrId}
use Rattle.lido_lexer.specs.Seen.{Sees, token, Signs, Keys}
use Rattle.lido_lexer.specs.declared.keyword.Keyword.{Keyword}
use Rattle.lido_lexer.specs.declared.keyword.Keyword.TheVariants as key
use Rattle.lido_lexer.specs.declared.sign.Sign.TheVariants as sign
use Rattle.lido_lexer.specs.declared.token.Token.{Token}
use Rattle.lido_lexer.specs.declared.token.TokenKind.{TokenKind}
use Rattle.lido_lexer.specs.declared.token.TokenKind.TheVariants as kind
use Rattle.lido_syntax.specs.declared.spec.Name.{Name}
use Rattle.lido_syntax.specs.declared.spec.Comp.{Comp}
use Rattle.lido_syntax.specs.declared.spec.Cons.{Cons}
use Rattle.lido_syntax.specs.declared.spec.Expr.{Expr}
use Rattle.lido_syntax.specs.declared.spec.Expr.TheVariants as expr
use Rattle.lido_syntax.specs.declared.spec.Place.{Place}
use Rattle.lido_syntax.specs.declared.spec.Place.TheVariants as place
use Rattle.lido_syntax.specs.declared.spec.Severity.{Severity}
use Rattle.lido_syntax.specs.declared.spec.Target.{Target}
use Rattle.lido_syntax.specs.declared.spec.Target.TheVariants as target
use Rattle.lido_syntax.specs.declared.spec.RuleItem.{RuleItem}
use Rattle.lido_syntax.specs.declared.spec.SymbolItem.{SymbolItem}
use Rattle.lido_syntax.specs.declared.spec.Spec.{Spec}
use Rattle.lido_syntax.specs.Parts.{parts, conditions, expressions_of}
use Rattle.lido_syntax.proofs.ExpressionLemmas.{parts-Call}
use Rattle.lido_computations.specs.declared.counts.Counts.{Counts}
use Rattle.lido_computations.specs.declared.messages.MessageWords.{MessageWords}
use Rattle.lido_computations.specs.declared.owners.Owner.{Owner}
use Rattle.lido_computations.specs.declared.owners.Owner.TheVariants as owner
use Rattle.lido_computations.specs.Counting.{spent_of}
use Rattle.lido_computations.specs.Phrases.{Done, Then, AreMore, AreSeparated, IsName, word, IsType, type_word}
use Rattle.lido_computations.specs.Phrases as phrases
use Rattle.lido_computations.specs.Places.{Optional, absent, present, AreListed, IsInt, int, IsIndex, IsContext, context, IsPlace, named, by_word, IsReadOf, IsRead, IsPair, IsIncludingOf, IsIncluding, IsShield, IsWithOf, IsWith, AreConstituentsOf, AreConstituents, in_targets}
use Rattle.lido_computations.specs.Places as places
use Rattle.lido_computations.specs.Expressions as grammar
use Rattle.lido_computations.specs.Expressions.{constant_of, IsCall, IsExpr, AreOperands, IsPrimary, AreArguments, AreSome, AreFurther}
use Rattle.lido_computations.specs.Computations as computations
use Rattle.lido_computations.specs.Computations.{IsDependency, AreMoreDependencies, AreSomeDependencies, AreDependencies, AreAfter, IsTarget, IsValue, IsComputation}
use Rattle.lido_computations.specs.Messages as messages
use Rattle.lido_computations.specs.Messages.{IsSeverity, severity_word, IsPlacing, IsMessageOf, IsUnconditional, IsConditional, IsRuleComputation, IsSymbolComputation, IsComputationIn}
use Rattle.lido_reader.specs.Items as items
use Rattle.lido_reader.specs.Items.{Repeats, IsTerminalType, IsSide, AreNames, IsDecl, AreDecls, IsAttr, IsTerm, IsChain, IsElement, IsRight, AreInherited, IsSymbolHead, IsRuleName, AreComputations, IsBody, IsFurtherComputation, IsAbout, IsSymbol, IsRule, IsFurtherItem, IsSpec, no_items, called_in}
use Rattle.lido_reader.specs.Specification.{IsSpecOf, words_in}
use Rattle.lido_reader.proofs.PartsLemmas.{at_done}
use Rattle.lido_reader.specs.Numbers.{Numbered, number_of_part, numbers_in, numbers_of, all_numbers, including_of_part, includings_in, includings_of, all_includings, AreApart, IsEarlier}

-- ---- what takes a number, or a place alone

-- a place, and the number that it has if it has one
abbrev pub Mark : Type 0
Mark = Option ℕ × ℕ

-- CONSTITUENTS has a number and a place, INCLUDING a place
abbrev pub mark_of_part : Expr → List Mark
mark_of_part (expr.Constituents k) = (Some k.number, k.at) ∷ []
mark_of_part (expr.Including at pairs) = (None, at) ∷ []
mark_of_part _ = []

abbrev pub marks_in : Expr → List Mark
marks_in e = flat_map mark_of_part (parts e)

abbrev pub marks_of : Comp → List Mark
marks_of c = (Some c.number, c.at) ∷ flat_map marks_in (expressions_of c)

-- ---- tokens that take numbers and places

-- From some tokens to what is left of them these are taken, from the first number on: a token takes the next number with its place, its
-- place alone, or nothing.
pub data Takes : ℕ → List Token → List Mark → ℕ → List Token → Type 0 where
  nothing_left : {n : ℕ} {ts : List Token} → Takes n ts [] n ts
  passes : {n m : ℕ} {t : Token} {ts us : List Token} {xs : List Mark} → Takes n ts xs m us → Takes n (t ∷ ts) xs m us
  takes : {n m : ℕ} {t : Token} {ts us : List Token} {xs : List Mark} → Takes (n + 1) ts xs m us → Takes n (t ∷ ts) ((Some n, t.from) ∷ xs) m us
  notes : {n m : ℕ} {t : Token} {ts us : List Token} {xs : List Mark} → Takes n ts xs m us → Takes n (t ∷ ts) ((None, t.from) ∷ xs) m us

pub goes_on : {n m k : ℕ} {ts us vs : List Token} {xs ys : List Mark} → Takes n ts xs m us → Takes m us ys k vs → Takes n ts (xs ++ ys) k vs
goes_on nothing_left q = q
goes_on (passes p) q = passes (goes_on p q)
goes_on (takes p) q = takes (goes_on p q)
goes_on (notes p) q = notes (goes_on p q)

-- what takes these, takes as many under another name
pub same_marks : {n m : ℕ} {ts us : List Token} {xs ys : List Mark} → xs ≡ ys → Takes n ts xs m us → Takes n ts ys m us
same_marks {n} {m} {ts} {us} e p = subst (λ z. Takes n ts z m us) e p

-- ---- phrases that take none

pub record IsPassed {X : Type 0} (N : List Token → X → List Token → Type 0) : Type 0 where
  pub none : (ts : List Token) (x : X) (us : List Token) → N ts x us → (n : ℕ) → Takes n ts [] n us

pub done_passed : {X : Type 0} {x : X} → IsPassed (Done x)
done_passed = record { none = λ ts y us p n. subst (λ z. Takes n ts [] n z) (sym p.behind) nothing_left }

pub then_passed : {A X : Type 0} {F : List Token → A → List Token → Type 0} {R : A → List Token → X → List Token → Type 0} → IsPassed F → ((a : A) → IsPassed (R a)) → IsPassed (Then F R)
then_passed f r = record { none = λ ts x us p n. goes_on (f.none ts p.value p.between p.first n) ((r p.value).none p.between x us p.rest n) }

pub seen : {what : TokenKind} (ts : List Token) (t : Token) (us : List Token) → Sees what ts t us → (n : ℕ) → Takes n ts [] n us
seen ts t us (token e) n = passes nothing_left

pub sees_passed : {what : TokenKind} → IsPassed (Sees what)
sees_passed = record { none = seen }

module _ {X : Type 0} {N : List Token → X → List Token → Type 0} (one : IsPassed N) where
  pub more : (f : List X) (ts : List Token) (x : List X) (us : List Token) → AreMore N f ts x us → (n : ℕ) → Takes n ts [] n us
  more f ts x us phrases.end n = nothing_left
  more f ts x ws (phrases.comma {x = item} {us = us} {vs = vs} {t = t} c p q) n = goes_on (seen ts t us c n) (goes_on (one.none us item vs p n) (more (f ++ item ∷ []) vs x ws q n))

  pub more_passed : (f : List X) → IsPassed (AreMore N f)
  more_passed f = record { none = more f }

  pub separated_passed : IsPassed (AreSeparated N)
  separated_passed = then_passed one (λ a. more_passed (a ∷ []))

  pub listed : (ts : List Token) (x : List X) (us : List Token) → AreListed N ts x us → (n : ℕ) → Takes n ts [] n us
  listed ts x us (places.single {x = item} p) n = one.none ts item us p n
  listed ts x us (places.several p) n = (then_passed sees_passed (λ a. then_passed separated_passed (λ b. then_passed sees_passed (λ c. done_passed)))).none ts x us p n

  pub listed_passed : IsPassed (AreListed N)
  listed_passed = record { none = listed }

  pub optional : (v : X) (ts : List Token) (x : X) (us : List Token) → Optional N v ts x us → (n : ℕ) → Takes n ts [] n us
  optional v ts x us (absent e) n = nothing_left
  optional v ts x us (present p) n = one.none ts x us p n

  pub optional_passed : {v : X} → IsPassed (Optional N v)
  optional_passed {v} = record { none = optional v }

module _ {Y : Type 0} {Step : Y → List Token → Y → List Token → Type 0} (step : (y : Y) → IsPassed (Step y)) where
  pub repeats : (f : Y) (ts : List Token) (x : Y) (us : List Token) → Repeats Step f ts x us → (n : ℕ) → Takes n ts [] n us
  repeats f ts x us items.end n = nothing_left
  repeats f ts x vs (items.next {more = m} {us = us} p q) n = goes_on ((step f).none ts m us p n) (repeats m us x vs q n)

  pub repeats_passed : {f : Y} → IsPassed (Repeats Step f)
  repeats_passed {f} = record { none = repeats f }

pub a_name : (ts : List Token) (x : Name) (us : List Token) → IsName ts x us → (n : ℕ) → Takes n ts [] n us
a_name ts x us (word e) n = passes nothing_left

pub name_passed : IsPassed IsName
name_passed = record { none = a_name }

pub a_type : (ts : List Token) (x : _) (us : List Token) → IsType ts x us → (n : ℕ) → Takes n ts [] n us
a_type ts x us (type_word e d) n = passes nothing_left

pub type_passed : IsPassed IsType
type_passed = record { none = a_type }

pub an_int : (ts : List Token) (x : _) (us : List Token) → IsInt ts x us → (n : ℕ) → Takes n ts [] n us
an_int ts x us (int e) n = passes nothing_left

pub index_passed : IsPassed IsIndex
index_passed = optional_passed (then_passed sees_passed (λ a. then_passed (record { none = an_int }) (λ b. then_passed sees_passed (λ c. done_passed))))

pub a_context : {words : Keyword → Option Place} (ts : List Token) (x : _) (us : List Token) → IsContext words ts x us → (n : ℕ) → Takes n ts [] n us
a_context ts x us (context e d) n = passes nothing_left

pub a_place : {words : Keyword → Option Place} (ts : List Token) (x : _) (us : List Token) → IsPlace words ts x us → (n : ℕ) → Takes n ts [] n us
a_place ts x us (named p) n = (then_passed name_passed (λ a. then_passed index_passed (λ b. done_passed))).none ts x us p n
a_place ts x us (by_word p) n = a_context ts x us p n

pub place_passed : {words : Keyword → Option Place} → IsPassed (IsPlace words)
place_passed = record { none = a_place }

pub read_passed : IsPassed IsRead
read_passed = then_passed place_passed (λ p. then_passed sees_passed (λ a. then_passed name_passed (λ b. done_passed)))

pub pair_passed : IsPassed IsPair
pair_passed = then_passed name_passed (λ a. then_passed sees_passed (λ b. then_passed name_passed (λ c. done_passed)))

pub with_passed : IsPassed IsWith
with_passed = optional_passed (then_passed sees_passed (λ t. then_passed sees_passed (λ a. then_passed type_passed (λ b. then_passed sees_passed (λ c. then_passed name_passed (λ d. then_passed sees_passed (λ e. then_passed name_passed (λ f.
    then_passed sees_passed (λ g. then_passed name_passed (λ h. then_passed sees_passed (λ i. done_passed)))))))))))

pub constituents_of_passed : {at n : ℕ} → IsPassed (AreConstituentsOf at n)
constituents_of_passed = then_passed (listed_passed pair_passed) (λ a. then_passed (optional_passed (then_passed sees_passed (λ t. listed_passed name_passed))) (λ b. then_passed with_passed (λ c. done_passed)))

-- ---- expressions

-- a CONSTITUENTS takes one number, at its word
pub constituents : (n : ℕ) (ts us : List Token) (k : Cons) → AreConstituents n ts k us → Takes n ts (marks_in (expr.Constituents k)) (n + 1) us
constituents n ts us k p = go ts us k p.between p.value p.first p.rest
  where
    go : (ts us : List Token) (k : Cons) (ms : List Token) (t : Token) → Keys key.Constituents ts t ms → AreConstituentsOf t.from n ms k us → Takes n ts (marks_in (expr.Constituents k)) (n + 1) us
    go ts us k ms t (token e) q = same_marks (sym (ap (λ (z : Cons). marks_in (expr.Constituents z)) q.rest.rest.rest.same)) (takes (constituents_of_passed.none ms k us q (n + 1)))

-- an INCLUDING takes its place, at its word
pub including : (n : ℕ) (ts us : List Token) (e : Expr) → IsIncluding ts e us → Takes n ts (marks_in e) n us
including n ts us e p = go ts us e p.between p.value p.first p.rest
  where
    go : (ts us : List Token) (e : Expr) (ms : List Token) (t : Token) → Keys key.Including ts t ms → IsIncludingOf t.from ms e us → Takes n ts (marks_in e) n us
    go ts us e ms t (token d) q = same_marks (sym (ap marks_in q.rest.same)) (notes ((then_passed (listed_passed pair_passed) (λ a. done_passed)).none ms e us q n))

pub marks_of_all : (args : List Expr) → flat_map mark_of_part (flat_map parts args) ≡ flat_map marks_in args
marks_of_all [] = refl
marks_of_all (e ∷ args) = flat_map-append mark_of_part (parts e) (flat_map parts args) ∙ ap (λ more. marks_in e ++ more) (marks_of_all args)

-- the numbers of a call are those of its arguments
pub marks-Call : (f : Name) (args : List Expr) → marks_in (expr.Call f args) ≡ flat_map marks_in args
marks-Call f args = ap (flat_map mark_of_part) (parts-Call f args) ∙ marks_of_all args

pub constant_marks : (at : ℕ) (what : TokenKind) (e : Expr) → constant_of at what ≡ Some e → marks_in e ≡ []
constant_marks at (kind.Int i) e d = let same : e ≡ expr.Int at i = cc in ap marks_in same
constant_marks at (kind.Str s) e d = let same : e ≡ expr.Str at s = cc in ap marks_in same
constant_marks at (kind.Key key.True) e d = let same : e ≡ expr.Bool at true = cc in ap marks_in same
constant_marks at (kind.Key key.False) e d = let same : e ≡ expr.Bool at false = cc in ap marks_in same
constant_marks at _ e d = cc

-- what is spent takes no number
pub spent_number : (b n : ℕ) (r : Counts) → spent_of b n ≡ Some r → r.number ≡ n
spent_number zero n r e = cc
spent_number (suc b) n r e = let same : r ≡ record { budget = b; number = n } = cc in ap (λ (z : Counts). z.number) same

pub nil : (xs : List Mark) → xs ++ [] ≡ xs
nil [] = refl
nil (x ∷ xs) = ap (λ z. x ∷ z) (nil xs)

pub pushed : {A : Type 0} (f : A → List Mark) (found : List A) (e : A) → flat_map f found ++ f e ≡ flat_map f (found ++ e ∷ [])
pushed f [] e = sym (nil (f e))
pushed f (x ∷ found) e = append_assoc (f x) (flat_map f found) (f e) ∙ ap (λ more. f x ++ more) (pushed f found e)

pub one_more : (found : List Expr) (e : Expr) → flat_map marks_in found ++ marks_in e ≡ flat_map marks_in (found ++ e ∷ [])
one_more found e = pushed marks_in found e

module _ (texts : List (List ℕ)) where
  pub called : (function : List ℕ) (at : ℕ) (args : List Expr) (e : Expr) → IsCall texts function at args e → flat_map marks_in args ≡ marks_in e
  called function at args e c = sym (ap marks_in c.2 ∙ marks-Call (record { at = at; id = c.0 }) args)

  mutual
    expression : (k : ℕ) (s : Counts) (ts us : List Token) (e : Expr × Counts) → IsExpr texts k s ts e us → Takes s.number ts (marks_in e.0) e.1.number us
    expression k s ts vs e (grammar.operands {us = us} {l = l} less p q) = operators k ts us vs s.number l e q (expression (suc k) s ts us l p)
    expression k s ts vs e (grammar.prefix {r = r} {t = t} {us = us} {inner = inner} {e = whole} {function = function} d spend p c) =
        let step : r.number ≡ s.number = spent_number s.budget s.number r spend in
        let within : Takes r.number us (marks_in inner.0) inner.1.number vs = expression grammar.unary_level r us vs inner p in
        passes (same_marks (one_more [] inner.0 ∙ called function t.from (inner.0 ∷ []) whole c) (subst (λ z. Takes z us (marks_in inner.0) inner.1.number vs) step within))
    expression k s ts us e (grammar.primary p) = operand s ts us e p

    -- behind an operand that took these
    operators : (k : ℕ) (ts us vs : List Token) (n : ℕ) (l e : Expr × Counts) → AreOperands texts k l us e vs → Takes n ts (marks_in l.0) l.1.number us → Takes n ts (marks_in e.0) e.1.number vs
    operators k ts us vs n l e grammar.no_operator h = h
    operators k ts us ws n l e (grammar.operator {r = r} {t = t} {us = bs} {vs = vs} {x = x} {whole = whole} {function = function} d spend p c q) h =
        let step : r.number ≡ l.1.number = spent_number l.1.budget l.1.number r spend in
        let within : Takes l.1.number bs (marks_in x.0) x.1.number vs = subst (λ z. Takes z bs (marks_in x.0) x.1.number vs) step (expression (suc k) r bs vs x p) in
        let both : marks_in l.0 ++ marks_in x.0 ≡ marks_in whole = ap (λ z. marks_in l.0 ++ z) (one_more [] x.0) ∙ called function t.from (l.0 ∷ x.0 ∷ []) whole c in
        operators k ts vs ws n (whole, x.1) e q (same_marks both (goes_on h (passes within)))

    operand : (s : Counts) (ts us : List Token) (e : Expr × Counts) → IsPrimary texts s ts e us → Takes s.number ts (marks_in e.0) e.1.number us
    operand s ts us e (grammar.constant {t = t} {e = whole} d) = passes (same_marks (sym (constant_marks t.from t.what whole d)) nothing_left)
    operand s ts us e (grammar.ptg_null {r = r} {t = t} {e = whole} d spend c) =
        passes (subst (λ z. Takes s.number us (marks_in whole) z us) (sym (spent_number s.budget s.number r spend)) (same_marks (called _ t.from [] whole c) nothing_left))
    operand s ts ws e (grammar.parenthesized {r = r} {closing = closing} {us = us} {vs = vs} d spend p q) =
        let within : Takes s.number us (marks_in e.0) e.1.number vs = subst (λ z. Takes z us (marks_in e.0) e.1.number vs) (spent_number s.budget s.number r spend) (expression 0 r us vs e p) in
        passes (same_marks (nil (marks_in e.0)) (goes_on within (seen vs closing ws q e.1.number)))
    operand s ts us e (grammar.read {e = whole} p) = same_marks (sym (ap marks_in p.rest.rest.rest.same)) (read_passed.none ts whole us p s.number)
    operand s ts us e (grammar.including {e = whole} p) = including s.number ts us whole p
    operand s ts us e (grammar.constituents {k = k} p) = constituents s.number ts us k p
    operand s ts vs e (grammar.terminal {us = us} {n = n} {i = i} p q) = goes_on (a_name ts n us p s.number) (index_passed.none us i vs q s.number)
    operand s ts zs e (grammar.call {r = r} {us = us} {vs = vs} {ws = ws} {n = n} {opening = opening} {closing = closing} {args = args} p o spend a c) =
        let within : Takes s.number vs (flat_map marks_in args.0) args.1.number ws = subst (λ z. Takes z vs (flat_map marks_in args.0) args.1.number ws) (spent_number s.budget s.number r spend) (arguments r vs ws args a) in
        same_marks (nil (flat_map marks_in args.0) ∙ sym (marks-Call n args.0)) (goes_on (a_name ts n us p s.number) (goes_on (seen us opening vs o s.number) (goes_on within (seen ws closing zs c args.1.number))))
    operand s ts hs e (grammar.choice {r = r} {t = t} {opening = opening} {first = first} {second = second} {closing = closing} {us = us} {vs = vs} {ws = ws} {xs = xs} {ys = ys} {zs = zs} {gs = gs} {x = x} {y = y} {z = z} {e = whole} d spend o p c q b f g h) =
        let one : Takes s.number vs (marks_in x.0) x.1.number ws = subst (λ i. Takes i vs (marks_in x.0) x.1.number ws) (spent_number s.budget s.number r spend) (expression 0 r vs ws x p) in
        let two : Takes x.1.number ws (marks_in y.0) y.1.number ys = goes_on (seen ws first xs c x.1.number) (expression 0 x.1 xs ys y q) in
        let three : Takes y.1.number ys (marks_in z.0 ++ []) z.1.number hs = goes_on (seen ys second zs b y.1.number) (goes_on (expression 0 y.1 zs gs z f) (seen gs closing hs g z.1.number)) in
        passes (same_marks (called _ t.from (x.0 ∷ y.0 ∷ z.0 ∷ []) whole h) (goes_on (seen us opening vs o s.number) (goes_on one (goes_on two three))))
    operand s ts zs e (grammar.order {r = r} {t = t} {opening = opening} {closing = closing} {us = us} {vs = vs} {ws = ws} {args = args} {e = whole} d spend o a c h) =
        let within : Takes s.number vs (flat_map marks_in args.0) args.1.number ws = subst (λ z. Takes z vs (flat_map marks_in args.0) args.1.number ws) (spent_number s.budget s.number r spend) (some_of r vs ws args a) in
        passes (same_marks (nil (flat_map marks_in args.0) ∙ called _ t.from args.0 whole h) (goes_on (seen us opening vs o s.number) (goes_on within (seen ws closing zs c args.1.number))))

    arguments : (s : Counts) (ts us : List Token) (args : List Expr × Counts) → AreArguments texts s ts args us → Takes s.number ts (flat_map marks_in args.0) args.1.number us
    arguments s ts us args grammar.none = nothing_left
    arguments s ts us args (grammar.some p) = some_of s ts us args p

    some_of : (s : Counts) (ts us : List Token) (args : List Expr × Counts) → AreSome texts s ts args us → Takes s.number ts (flat_map marks_in args.0) args.1.number us
    some_of s ts vs args (grammar.first {us = us} {e = e} p q) = further ts us vs s.number (e.0 ∷ [], e.1) args q (same_marks (one_more [] e.0) (expression 0 s ts us e p))

    further : (ts us vs : List Token) (n : ℕ) (found args : List Expr × Counts) → AreFurther texts found us args vs → Takes n ts (flat_map marks_in found.0) found.1.number us → Takes n ts (flat_map marks_in args.0) args.1.number vs
    further ts us vs n found args grammar.last h = h
    further ts us ws n found args (grammar.further {e = e} {us = bs} {vs = vs} {t = t} c p q) h =
        further ts vs ws n (found.0 ++ e.0 ∷ [], e.1) args q (same_marks (one_more found.0 e.0) (goes_on h (goes_on (seen us t bs c found.1.number) (expression 0 found.1 bs vs e p))))

-- ---- dependencies

pub dependency : (n : ℕ) (ts us : List Token) (x : Expr × ℕ) → IsDependency n ts x us → Takes n ts (marks_in x.0) x.1 us
dependency n ts us x (computations.read {e = e} p) = same_marks (sym (ap marks_in p.rest.rest.rest.same)) (read_passed.none ts e us p n)
dependency n ts us x (computations.including {e = e} p) = including n ts us e p
dependency n ts us x (computations.constituents {k = k} p) = constituents n ts us k p

pub more_dependencies : (ts us vs : List Token) (n : ℕ) (found all : List Expr × ℕ) → AreMoreDependencies found us all vs → Takes n ts (flat_map marks_in found.0) found.1 us → Takes n ts (flat_map marks_in all.0) all.1 vs
more_dependencies ts us vs n found all computations.last h = h
more_dependencies ts us ws n found all (computations.further {e = e} {us = bs} {vs = vs} {t = t} c p q) h =
    more_dependencies ts vs ws n (found.0 ++ e.0 ∷ [], e.1) all q (same_marks (one_more found.0 e.0) (goes_on h (goes_on (seen us t bs c found.1) (dependency found.1 bs vs e p))))

pub some_dependencies : (n : ℕ) (ts us : List Token) (all : List Expr × ℕ) → AreSomeDependencies n ts all us → Takes n ts (flat_map marks_in all.0) all.1 us
some_dependencies n ts us all p = more_dependencies ts p.between us n (p.value.0 ∷ [], p.value.1) all p.rest (same_marks (one_more [] p.value.0) (dependency n ts p.between p.value p.first))

pub dependencies : (n : ℕ) (ts us : List Token) (all : List Expr × ℕ) → AreDependencies n ts all us → Takes n ts (flat_map marks_in all.0) all.1 us
dependencies n ts us all (computations.single {e = e} p) = same_marks (one_more [] e.0) (dependency n ts us e p)
dependencies n ts us all (computations.several p) =
    let found = p.rest.value in
    at_done (λ z ws. Takes n ts (flat_map marks_in z.0) z.1 ws) p.rest.rest.rest
    (goes_on (seen ts p.value p.between p.first n) (same_marks (nil (flat_map marks_in found.0)) (goes_on (some_dependencies n p.between p.rest.between found p.rest.first) (seen p.rest.between p.rest.rest.value p.rest.rest.between p.rest.rest.first found.1))))

pub after : (n : ℕ) (ts us : List Token) (all : List Expr × ℕ) → AreAfter n ts all us → Takes n ts (flat_map marks_in all.0) all.1 us
after n ts us all (absent e) = subst (λ (z : List Expr × ℕ). Takes n ts (flat_map marks_in z.0) z.1 ts) (sym e) nothing_left
after n ts us all (present p) = goes_on (seen ts p.value p.between p.first n) (dependencies n p.between us all p.rest)

-- ---- computations

-- a target begins with a token, has no condition and takes no number
pub record IsBegun (ts : List Token) (x : ℕ × Target) (us : List Token) : Type 0 where
  pub first : Token
  pub rest : List Token
  pub parts : ts ≡ first ∷ rest
  pub place : x.0 ≡ first.from
  pub no_condition : conditions x.1 ≡ []
  pub none : (n : ℕ) → Takes n rest [] n us

pub place_begun : (words : Keyword → Option Place) (ts us : List Token) (q : ℕ × Place) → IsPlace words ts q us → (t : Token) × (rest : List Token) × (ts ≡ t ∷ rest) × (q.0 ≡ t.from) × ((n : ℕ) → Takes n rest [] n us)
place_begun words ts us q (by_word (context {t = t} {us = vs} e d)) = (t, vs, refl, refl, λ n. nothing_left)
place_begun words ts us q (named p) = go ts p.between p.value p.first p.rest
  where
    go : (ts ms : List Token) (m : Name) → IsName ts m ms → Then IsIndex (λ i. Done (m.at, place.Named m i)) ms q us → (t : Token) × (rest : List Token) × (ts ≡ t ∷ rest) × (q.0 ≡ t.from) × ((n : ℕ) → Takes n rest [] n us)
    go ts ms m (word {t = t} {us = vs} e) r = (t, vs, refl, ap (λ (z : ℕ × Place). z.0) r.rest.same, λ n. (then_passed index_passed (λ i. done_passed)).none ms q us r n)

pub target_begun : (ts us : List Token) (x : ℕ × Target) → IsTarget ts x us → IsBegun ts x us
target_begun ts us x (computations.attribute p) = let (t, rest, parts, at, none) = place_begun in_targets ts p.between p.value p.first in record {
  first = t;
  rest = rest;
  parts = parts;
  place = ap (λ (z : ℕ × Target). z.0) p.rest.rest.rest.same ∙ at;
  no_condition = ap (λ (z : ℕ × Target). conditions z.1) p.rest.rest.rest.same;
  none = λ n. goes_on (none n) ((then_passed sees_passed (λ dot. then_passed name_passed (λ a. done_passed))).none p.between x us p.rest n);
}
target_begun ts us x (computations.chain_start p) = go ts p.between p.value p.first p.rest
  where
    go : (ts ms : List Token) (t : Token) → Keys key.Chainstart ts t ms → Then (Keys key.Head) (λ head. Then (Signs sign.Dot) (λ dot. Then IsName (λ c. Done (t.from, target.Start c)))) ms x us → IsBegun ts x us
    go ts ms t (token {us = vs} e) r = record {
      first = t;
      rest = vs;
      parts = refl;
      place = ap (λ (z : ℕ × Target). z.0) r.rest.rest.rest.same;
      no_condition = ap (λ (z : ℕ × Target). conditions z.1) r.rest.rest.rest.same;
      none = (then_passed sees_passed (λ head. then_passed sees_passed (λ dot. then_passed name_passed (λ c. done_passed)))).none ms x us r;
    }

module _ (texts : List (List ℕ)) (n : ℕ) where
  pub computation : (ts us : List Token) (x : Comp × ℕ) → IsComputation texts n ts x us → Takes n ts (marks_of x.0) x.1 us
  computation ts us x (computations.assignment p) =
      let b = target_begun ts p.between p.value p.first in
      let v = p.rest.rest.value in
      let a = p.rest.rest.rest.value in
      let value = expression texts 0 (record { budget = _; number = n + 1 }) p.rest.between p.rest.rest.between v p.rest.rest.first in
      let behind = after v.1.number p.rest.rest.between p.rest.rest.rest.between a p.rest.rest.rest.first in
      let whole : Takes (n + 1) b.rest (marks_in v.0 ++ flat_map marks_in a.0) a.1 p.rest.rest.rest.between = goes_on (b.none (n + 1)) (goes_on (seen p.between p.rest.value p.rest.between p.rest.first (n + 1)) (goes_on value behind)) in
      let shown : (Some n, b.first.from) ∷ (marks_in v.0 ++ flat_map marks_in a.0) ≡ (Some n, p.value.0) ∷ flat_map marks_in (conditions p.value.1 ++ v.0 ∷ a.0)
      = λ j. (Some n, sym b.place j) ∷ flat_map marks_in (sym b.no_condition j ++ v.0 ∷ a.0) in
      at_done (λ (z : Comp × ℕ) ws. Takes n ts (marks_of z.0) z.1 ws) p.rest.rest.rest.rest (same_marks shown (subst (λ z. Takes n z ((Some n, b.first.from) ∷ (marks_in v.0 ++ flat_map marks_in a.0)) a.1 p.rest.rest.rest.between) (sym b.parts) (takes whole)))
  computation ts us x (computations.output p) = go ts p.between p.value p.first p.rest
    where
      go : (ts ms : List Token) (t : Token) → Keys key.PtgOut ts t ms → Then (Signs sign.ParenOpen) (λ opening. Then (IsValue texts n) (λ value. Then (Signs sign.ParenClose) (λ closing. Then (AreAfter value.1.number) (λ after.
          Done (record { at = t.from; number = n; target = target.Out; value = value.0; after = after.0 }, after.1))))) ms x us → Takes n ts (marks_of x.0) x.1 us
      go ts ms t (token e) r =
          let v = r.rest.value in
          let a = r.rest.rest.rest.value in
          let value = expression texts 0 (record { budget = _; number = n + 1 }) r.between r.rest.between v r.rest.first in
          let behind = after v.1.number r.rest.rest.between r.rest.rest.rest.between a r.rest.rest.rest.first in
          at_done (λ (z : Comp × ℕ) ws. Takes n (t ∷ ms) (marks_of z.0) z.1 ws) r.rest.rest.rest.rest
          (takes (goes_on (seen ms r.value r.between r.first (n + 1)) (goes_on value (goes_on (seen r.rest.between r.rest.rest.value r.rest.rest.between r.rest.rest.first v.1.number) behind))))

pub a_severity : {words : MessageWords} (ts : List Token) (x : _) (us : List Token) → IsSeverity words ts x us → (n : ℕ) → Takes n ts [] n us
a_severity ts x us (severity_word e d) n = passes nothing_left

pub placing_passed : (words : MessageWords) → IsPassed (IsPlacing words)
placing_passed words = then_passed sees_passed (λ a. then_passed sees_passed (λ b. then_passed sees_passed (λ c. then_passed sees_passed (λ d. sees_passed))))

-- ---- declarations, right sides and heads

pub a_terminal_type : (ts : List Token) (x : _) (us : List Token) → IsTerminalType ts x us → (n : ℕ) → Takes n ts [] n us
a_terminal_type ts x us (items.terminal_type p d) n = a_type ts x us p n

pub a_side : (ts : List Token) (x : _) (us : List Token) → IsSide ts x us → (n : ℕ) → Takes n ts [] n us
a_side ts x us items.unsaid n = nothing_left
a_side ts x us (items.synt {word = w} p) n = seen ts w us p n
a_side ts x us (items.inh {word = w} p) n = seen ts w us p n

pub names_passed : IsPassed AreNames
names_passed = separated_passed name_passed

pub decl_passed : IsPassed IsDecl
decl_passed = then_passed names_passed (λ a. then_passed sees_passed (λ b. then_passed type_passed (λ c. then_passed (record { none = a_side }) (λ d. done_passed))))

pub decls_passed : IsPassed AreDecls
decls_passed = then_passed decl_passed (λ a. repeats_passed (λ f. then_passed sees_passed (λ b. then_passed decl_passed (λ c. done_passed))))

pub attr_passed : IsPassed IsAttr
attr_passed = then_passed sees_passed (λ a. then_passed decls_passed (λ b. then_passed sees_passed (λ c. done_passed)))

pub term_passed : IsPassed IsTerm
term_passed = then_passed sees_passed (λ a. then_passed names_passed (λ b. then_passed sees_passed (λ c. then_passed (record { none = a_terminal_type }) (λ d. then_passed sees_passed (λ e. done_passed)))))

pub chain_passed : IsPassed IsChain
chain_passed = then_passed sees_passed (λ a. then_passed names_passed (λ b. then_passed sees_passed (λ c. then_passed type_passed (λ d. then_passed sees_passed (λ e. done_passed)))))

pub an_element : (ts : List Token) (x : _) (us : List Token) → IsElement ts x us → (n : ℕ) → Takes n ts [] n us
an_element ts x us (items.symbol {name = a} p) n = a_name ts a us p n
an_element ts x us (items.literal {quoted = t} p) n = seen ts t us p n

pub a_right : (ts : List Token) (x : _) (us : List Token) → IsRight ts x us → (n : ℕ) → Takes n ts [] n us
a_right ts x us (items.production p) n = (then_passed sees_passed (λ a. then_passed (repeats_passed (λ f. then_passed (record { none = an_element }) (λ b. done_passed))) (λ c. done_passed))).none ts x us p n
a_right ts x us (items.listof p) n = (then_passed sees_passed (λ a. then_passed (then_passed name_passed (λ b. repeats_passed (λ f. then_passed sees_passed (λ c. then_passed name_passed (λ d. done_passed))))) (λ e. done_passed))).none ts x us p n

pub right_passed : IsPassed IsRight
right_passed = record { none = a_right }

pub a_head : (ts : List Token) (x : _) (us : List Token) → IsSymbolHead ts x us → (n : ℕ) → Takes n ts [] n us
a_head ts x us (items.class p) n = (then_passed sees_passed (λ a. then_passed sees_passed (λ b. done_passed))).none ts x us p n
a_head ts x us (items.plain p) n = (then_passed sees_passed (λ a. done_passed)).none ts x us p n

pub head_passed : IsPassed IsSymbolHead
head_passed = record { none = a_head }

pub inherited_passed : IsPassed AreInherited
inherited_passed = optional_passed (then_passed sees_passed (λ a. names_passed))

pub rule_name_passed : (called : ℕ → StrId) (k at : ℕ) → IsPassed (IsRuleName called k at)
rule_name_passed called k at = optional_passed (then_passed name_passed (λ a. done_passed))

-- ---- numbers that are told apart

abbrev pub Every : {X : Type 0} → (X → Type 0) → List X → Type 0
Every P [] = Unit {0}
Every P (x ∷ xs) = P x × Every P xs

-- each two of the list, the one in front of the other
abbrev pub Apart : {X : Type 0} → (X → X → Type 0) → List X → Type 0
Apart R [] = Unit {0}
Apart R (x ∷ xs) = Every (R x) xs × Apart R xs

-- the first stands in front, and has the smaller number where both have one
pub record IsBefore (x y : Mark) : Type 0 where
  pub place : x.1 < y.1
  pub number : (i j : ℕ) → x.0 ≡ Some i → y.0 ≡ Some j → i < j

abbrev pub AreTold : Mark → Mark → Type 0
AreTold x y = IsBefore x y ⊎ IsBefore y x

abbrev pub InOrder : List Token → Type 0
InOrder [] = Unit {0}
InOrder (t ∷ ts) = Every (IsEarlier t) ts × InOrder ts

pub every : {X : Type 0} (P Q : X → Type 0) (xs : List X) → ((x : X) → P x → Q x) → Every P xs → Every Q xs
every P Q [] f h = tt
every P Q (x ∷ xs) f h = (f x h.0, every P Q xs f h.1)

pub every_insert : {X : Type 0} (P : X → Type 0) (xs ys : List X) (x : X) → P x → Every P (xs ++ ys) → Every P ((xs ++ x ∷ []) ++ ys)
every_insert P [] ys x p h = (p, h)
every_insert P (y ∷ xs) ys x p h = (h.0, every_insert P xs ys x p h.1)

pub turned : (x y : Mark) → AreTold x y → AreTold y x
turned x y (inl p) = inr p
turned x y (inr p) = inl p

pub apart_insert : (xs ys : List Mark) (x : Mark) → Every (λ o. AreTold o x) (xs ++ ys) → Apart AreTold (xs ++ ys) → Apart AreTold ((xs ++ x ∷ []) ++ ys)
apart_insert [] ys x h a = (every (λ o. AreTold o x) (AreTold x) ys (λ o p. turned o x p) h, a)
apart_insert (y ∷ xs) ys x h a = (every_insert (AreTold y) xs ys x h.0 a.0, apart_insert xs ys x h.1 a.1)

-- what stands in front of what is left, its number taken already if it has one
pub record IsBelow (n : ℕ) (ts : List Token) (x : Mark) : Type 0 where
  pub number : (i : ℕ) → x.0 ≡ Some i → i < n
  pub place : Every (λ (t : Token). x.1 < t.from) ts

-- Rules and symbols have these so far, which are told apart, and what is left begins behind them all.
pub record Holds (xs ys : List Mark) (n : ℕ) (ts : List Token) : Type 0 where
  pub apart : Apart AreTold (xs ++ ys)
  pub below : Every (IsBelow n ts) (xs ++ ys)
  pub ordered : InOrder ts

pub next_is : (n i : ℕ) → Some n ≡ Some i → n ≡ i
next_is n i e = same_Some n i e

pub no_number : (i : ℕ) → {A : Type 0} → ◌≡◌ {A = Option ℕ} None (Some i) → A
no_number i e = absurd (none-some i e)

-- one more mark stands in front of what is left
pub one_mark : {n m : ℕ} {t : Token} {ts : List Token} (x : Mark) (xs ys : List Mark) → n ≤ m → x.1 ≡ t.from → ((i j : ℕ) → x.0 ≡ Some j → i < n → i < j) → ((j : ℕ) → x.0 ≡ Some j → j < m)
    → Holds xs ys n (t ∷ ts) → Holds (xs ++ x ∷ []) ys m ts
one_mark {n} {m} {t} {ts} x xs ys more here above below h = record {
  apart = apart_insert xs ys x (every (IsBelow n (t ∷ ts)) (λ o. AreTold o x) (xs ++ ys) (λ o b. inl (record { place = subst (λ (k : ℕ). o.1 < k) (sym here) b.place.0; number = λ i j e d. above i j d (b.number i e) })) h.below) h.apart;
  below = every_insert (IsBelow m ts) xs ys x (record { number = below; place = subst (λ (k : ℕ). Every (λ (u : Token). k < u.from) ts) (sym here) h.ordered.0 })
      (every (IsBelow n (t ∷ ts)) (IsBelow m ts) (xs ++ ys) (λ o b. record { number = λ i e. omega (arith, b.number i e, more); place = b.place.1 }) h.below);
  ordered = h.ordered.1;
}

pub grows : {n m : ℕ} {ts us : List Token} {zs : List Mark} → Takes n ts zs m us → (xs ys : List Mark) → Holds xs ys n ts → Holds (xs ++ zs) ys m us
grows {n} {m} {ts} {us} nothing_left xs ys h = subst (λ z. Holds z ys n ts) (sym (nil xs)) h
grows {n} {m} (passes {t = t} {ts = ts} p) xs ys h = grows p xs ys (record {
  apart = h.apart;
  below = every (IsBelow n (t ∷ ts)) (IsBelow n ts) (xs ++ ys) (λ x b. record { number = b.number; place = b.place.1 }) h.below;
  ordered = h.ordered.1;
})
grows {n} {m} {us = us} (takes {t = t} {ts = ts} {xs = zs} p) xs ys h = subst (λ z. Holds z ys m us) (append_assoc xs ((Some n, t.from) ∷ []) zs) (grows p (xs ++ (Some n, t.from) ∷ []) ys
    (one_mark (Some n, t.from) xs ys (omega arith) refl (λ i j e less. omega (arith, next_is n j e, less)) (λ j e. omega (arith, next_is n j e)) h))
grows {n} {m} {us = us} (notes {t = t} {ts = ts} {xs = zs} p) xs ys h = subst (λ z. Holds z ys m us) (append_assoc xs ((None, t.from) ∷ []) zs) (grows p (xs ++ (None, t.from) ∷ []) ys
    (one_mark (None, t.from) xs ys (omega arith) refl (λ i j e less. no_number j e) (λ j e. no_number j e) h))

pub grows_none : {n m : ℕ} {ts us : List Token} {xs ys : List Mark} → Takes n ts [] m us → Holds xs ys n ts → Holds xs ys m us
grows_none {n} {m} {ts} {us} {xs} {ys} p h = subst (λ z. Holds z ys m us) (nil xs) (grows p xs ys h)

-- a symbol's numbers stand behind all others
pub behind_all : {n m : ℕ} {ts us : List Token} {zs all : List Mark} (xs ys : List Mark) → ys ++ zs ≡ all → Takes n ts zs m us → Holds xs ys n ts → Holds xs all m us
behind_all {n} {m} {ts} {us} {zs} {all} xs ys e p h =
    let joined : Holds (xs ++ ys) [] n ts = record { apart = subst (Apart AreTold) (sym (nil (xs ++ ys))) h.apart; below = subst (Every (IsBelow n ts)) (sym (nil (xs ++ ys))) h.below; ordered = h.ordered } in
    let grown = grows p (xs ++ ys) [] joined in
    let same : ((xs ++ ys) ++ zs) ++ [] ≡ xs ++ all = nil ((xs ++ ys) ++ zs) ∙ append_assoc xs ys zs ∙ ap (λ z. xs ++ z) e in
    record { apart = subst (Apart AreTold) same grown.apart; below = subst (Every (IsBelow m us)) same grown.below; ordered = grown.ordered }

abbrev pub rule_marks : List RuleItem → List Mark
rule_marks rules = flat_map (λ (r : RuleItem). flat_map marks_of r.body) rules

abbrev pub symbol_marks : List SymbolItem → List Mark
symbol_marks symbols = flat_map (λ (s : SymbolItem). flat_map marks_of s.body) symbols

-- by places in the list, and without them
pub every_of : {X : Type 0} (P : X → Type 0) (xs : List X) → ((i : ℕ) (d : X) → i < length xs → P (slice_index_or xs i d)) → Every P xs
every_of P [] h = tt
every_of P (x ∷ xs) h = (h 0 x (omega arith), every_of P xs (λ i d less. h (suc i) d (omega (arith, less))))

pub in_order : (ts : List Token) → AllPairs IsEarlier ts → InOrder ts
in_order [] h = tt
in_order (t ∷ ts) h = (every_of (IsEarlier t) ts (λ i d less. h 0 (suc i) d (omega arith) (omega (arith, less))), in_order ts (λ i j d less within. h (suc i) (suc j) d (omega (arith, less)) (omega (arith, within))))

pub all_of : {X : Type 0} (P : X → Type 0) (xs : List X) → Every P xs → All P xs
all_of P [] h i d less = absurd (omega (arith, less))
all_of P (x ∷ xs) h zero d less = h.0
all_of P (x ∷ xs) h (suc i) d less = all_of P xs h.1 i d (omega (arith, less))

pub all_pairs : {X : Type 0} (R : X → X → Type 0) (xs : List X) → Apart R xs → AllPairs R xs
all_pairs R [] h = λ i j d less within. absurd (omega (arith, within))
all_pairs R (x ∷ xs) h = AllPairs-cons R x xs (all_of (R x) xs h.0) (all_pairs R xs h.1)

module _ (words : MessageWords) (texts : List (List ℕ)) where
  pub message_of : (s : Counts) (ts us : List Token) (x : (Severity × Expr) × Counts) → IsMessageOf words texts s ts x us → Takes s.number ts (marks_in x.0.1) x.1.number us
  message_of s ts us x p =
      let q = p.rest.rest.rest in
      let text = expression texts 0 s p.rest.rest.between q.between q.value q.first in
      at_done (λ (z : (Severity × Expr) × Counts) ws. Takes s.number ts (marks_in z.0.1) z.1.number ws) q.rest.rest
      (goes_on (seen ts p.value p.between p.first s.number) (goes_on (a_severity p.between p.rest.value p.rest.between p.rest.first s.number) (goes_on (seen p.rest.between p.rest.rest.value p.rest.rest.between p.rest.rest.first s.number)
      (same_marks (nil (marks_in q.value.0)) (goes_on text ((placing_passed words).none q.between q.rest.value q.rest.between q.rest.first q.value.1.number))))))

  pub rule_computation : (n : ℕ) (ts us : List Token) (x : Comp × ℕ) → IsRuleComputation words texts n ts x us → Takes n ts (marks_of x.0) x.1 us
  rule_computation n ts us x (messages.usual p) = computation texts n ts us x p
  rule_computation n ts us x (messages.message p) = go ts p.between p.value p.first p.rest
    where
      go : (ts ms : List Token) (t : Token) → Sees (kind.Word words.message) ts t ms → IsUnconditional words texts n t.from ms x us → Takes n ts (marks_of x.0) x.1 us
      go ts ms t (token e) r =
          at_done (λ (z : Comp × ℕ) ws. Takes n (t ∷ ms) (marks_of z.0) z.1 ws) r.rest.rest (takes (goes_on (message_of (record { budget = _; number = n + 1 }) ms r.between r.value r.first) (after r.value.1.number r.between r.rest.between r.rest.value r.rest.first)))
  rule_computation n ts us x (messages.conditional p) = go ts p.between p.value p.first p.rest
    where
      go : (ts ms : List Token) (t : Token) → Keys key.If ts t ms → IsConditional words texts n t.from ms x us → Takes n ts (marks_of x.0) x.1 us
      go ts ms t (token e) r =
          let c = r.rest in
          let m = c.rest.rest.rest in
          let condition = expression texts 0 (record { budget = _; number = n + 1 }) r.between c.between c.value c.first in
          let message = message_of c.value.1 c.rest.rest.between m.between m.value m.first in
          let a = m.rest.rest in
          let behind = after m.value.1.number m.rest.between a.between a.value a.first in
          at_done (λ (z : Comp × ℕ) ws. Takes n (t ∷ ms) (marks_of z.0) z.1 ws) a.rest
          (takes (goes_on (seen ms r.value r.between r.first (n + 1)) (goes_on condition (goes_on (seen c.between c.rest.value c.rest.between c.rest.first c.value.1.number)
          (goes_on (seen c.rest.between c.rest.rest.value c.rest.rest.between c.rest.rest.first c.value.1.number) (goes_on message (goes_on (seen m.between m.rest.value m.rest.between m.rest.first m.value.1.number) behind)))))))

  pub computation_in : (o : Owner) (n : ℕ) (ts us : List Token) (x : Comp × ℕ) → IsComputationIn words texts o n ts x us → Takes n ts (marks_of x.0) x.1 us
  computation_in owner.Rule n ts us x p = rule_computation n ts us x p
  computation_in owner.Symbol n ts us x p = computation texts n ts us x p.usual

  -- ---- bodies

  abbrev One : Owner → ℕ → List Token → Comp × ℕ → List Token → Type 0
  One = IsComputationIn words texts

  pub steps : (o : Owner) (ts us vs : List Token) (n : ℕ) (y z : List Comp × ℕ) → Repeats (IsFurtherComputation (One o)) y us z vs → Takes n ts (flat_map marks_of y.0) y.1 us → Takes n ts (flat_map marks_of z.0) z.1 vs
  steps o ts us vs n y z items.end h = h
  steps o ts us ws n y z (items.next {more = m} {us = vs} p q) h =
      steps o ts vs ws n m z q (at_done (λ (k : List Comp × ℕ) bs. Takes n ts (flat_map marks_of k.0) k.1 bs) p.rest.rest
      (same_marks (nil _ ∙ pushed marks_of y.0 p.value.0) (goes_on (goes_on h (computation_in o y.1 us p.between p.value p.first)) (seen p.between p.rest.value p.rest.between p.rest.first p.value.1))))

  pub body : (o : Owner) (n : ℕ) (ts us : List Token) (all : List Comp × ℕ) → IsBody (One o) n ts all us → Takes n ts (flat_map marks_of all.0) all.1 us
  body o n ts us all p =
      at_done (λ (k : List Comp × ℕ) bs. Takes n ts (flat_map marks_of k.0) k.1 bs) p.rest.rest.rest
      (same_marks (nil (flat_map marks_of p.value.0)) (goes_on (computed ts p.between p.value p.first) (goes_on (seen p.between p.rest.value p.rest.between p.rest.first p.value.1) (seen p.rest.between p.rest.rest.value p.rest.rest.between p.rest.rest.first p.value.1))))
    where
      computed : (ts us : List Token) (z : List Comp × ℕ) → AreComputations (One o) n ts z us → Takes n ts (flat_map marks_of z.0) z.1 us
      computed ts us z (absent e) = subst (λ (k : List Comp × ℕ). Takes n ts (flat_map marks_of k.0) k.1 ts) (sym e) nothing_left
      computed ts us z (present q) = goes_on (seen ts q.value q.between q.first n) (steps o q.between q.between us n ([], n) z q.rest nothing_left)

  module _ (called : ℕ → StrId) where
    -- ---- items

    rule : (k n : ℕ) (ts us : List Token) (x : RuleItem × ℕ) → IsRule called One k n ts x us → Takes n ts (flat_map marks_of x.0.body) x.1 us
    rule k n ts us x p =
        let named = p.rest in
        let colon = named.rest in
        let left = colon.rest in
        let right = left.rest in
        let all = right.rest in
        at_done (λ (z : RuleItem × ℕ) bs. Takes n ts (flat_map marks_of z.0.body) z.1 bs) all.rest
        (goes_on (seen ts p.value p.between p.first n) (goes_on ((rule_name_passed called k p.value.from).none p.between named.value named.between named.first n) (goes_on (seen named.between colon.value colon.between colon.first n)
        (goes_on (a_name colon.between left.value left.between left.first n) (goes_on (right_passed.none left.between right.value right.between right.first n) (body owner.Rule n right.between all.between all.value all.first))))))

    symbol : (n : ℕ) (ts us : List Token) (x : SymbolItem × ℕ) → IsSymbol (One owner.Symbol) n ts x us → Takes n ts (flat_map marks_of x.0.body) x.1 us
    symbol n ts us x p =
        goes_on (head_passed.none ts p.value p.between p.first n) (goes_on (a_name p.between p.rest.value p.rest.between p.rest.first n) (about p.value p.rest.value p.rest.between us x p.rest.rest))
      where
        about : (h : _) (a : Name) (ts us : List Token) (x : SymbolItem × ℕ) → IsAbout (One owner.Symbol) h a n ts x us → Takes n ts (flat_map marks_of x.0.body) x.1 us
        about h a ts us x (items.declaring q) =
            let colon = q.rest in
            let all = colon.rest in
            let semicolon = all.rest in
            at_done (λ (z : SymbolItem × ℕ) bs. Takes n ts (flat_map marks_of z.0.body) z.1 bs) semicolon.rest
            (goes_on ((more_passed name_passed (a ∷ [])).none ts q.value q.between q.first n) (goes_on (seen q.between colon.value colon.between colon.first n) (goes_on (decls_passed.none colon.between all.value all.between all.first n) (seen all.between semicolon.value semicolon.between semicolon.first n))))
        about h a ts us x (items.computing q) =
            at_done (λ (z : SymbolItem × ℕ) bs. Takes n ts (flat_map marks_of z.0.body) z.1 bs) q.rest.rest (goes_on (inherited_passed.none ts q.value q.between q.first n) (body owner.Symbol n q.between q.rest.between q.rest.value q.rest.first))

    -- ---- a whole specification

    abbrev Told : Spec × ℕ → List Token → Type 0
    Told y ts = Holds (rule_marks y.0.rules) (symbol_marks y.0.symbols) y.1 ts

    one_item : (y x : Spec × ℕ) (ts us : List Token) → IsFurtherItem called One y ts x us → Told y ts → Told x us
    one_item y x ts us (items.rule p) h =
        at_done Told p.rest (subst (λ z. Holds z (symbol_marks y.0.symbols) p.value.1 p.between) (pushed (λ (r : RuleItem). flat_map marks_of r.body) y.0.rules p.value.0) (grows (rule (length y.0.rules + 1) y.1 ts p.between p.value p.first) (rule_marks y.0.rules) (symbol_marks y.0.symbols) h))
    one_item y x ts us (items.symbol p) h =
        at_done Told p.rest (behind_all (rule_marks y.0.rules) (symbol_marks y.0.symbols) (pushed (λ (s : SymbolItem). flat_map marks_of s.body) y.0.symbols p.value.0) (symbol y.1 ts p.between p.value p.first) h)
    one_item y x ts us (items.attr p) h = at_done Told p.rest (grows_none (attr_passed.none ts p.value p.between p.first y.1) h)
    one_item y x ts us (items.term p) h = at_done Told p.rest (grows_none (term_passed.none ts p.value p.between p.first y.1) h)
    one_item y x ts us (items.chain p) h = at_done Told p.rest (grows_none (chain_passed.none ts p.value p.between p.first y.1) h)

    all_items : (y x : Spec × ℕ) (ts us : List Token) → Repeats (IsFurtherItem called One) y ts x us → Told y ts → Told x us
    all_items y x ts us items.end h = h
    all_items y x ts vs (items.next {more = m} {us = us} p q) h = all_items m x us vs q (one_item y m ts us p h)

-- ---- the numbers and the places among what is taken

pub through : {A B C : Type 0} (f : B → List C) (g : A → List B) (h : A → List C) → ((a : A) → flat_map f (g a) ≡ h a) → (xs : List A) → flat_map f (flat_map g xs) ≡ flat_map h xs
through f g h each [] = refl
through f g h each (x ∷ xs) = flat_map-append f (g x) (flat_map g xs) ∙ (λ j. each x j ++ through f g h each xs j)

abbrev pub all_marks : Spec → List Mark
all_marks spec = rule_marks spec.rules ++ symbol_marks spec.symbols

pub number_of_mark : Mark → List Numbered
number_of_mark (Some n, at) = (n, at) ∷ []
number_of_mark (None, at) = []

pub number_is : (e : Expr) → flat_map number_of_mark (mark_of_part e) ≡ number_of_part e
unfolding number_of_mark
number_is (expr.Constituents k) = refl
number_is (expr.Including at pairs) = refl
number_is e = refl

pub numbers_are : (c : Comp) → flat_map number_of_mark (marks_of c) ≡ numbers_of c
unfolding number_of_mark
numbers_are c = ap (λ l. (c.number, c.at) ∷ l) (through number_of_mark marks_in numbers_in (λ e. through number_of_mark mark_of_part number_of_part number_is (parts e)) (expressions_of c))

pub all_numbers_are : (spec : Spec) → flat_map number_of_mark (all_marks spec) ≡ all_numbers spec
all_numbers_are spec =
    flat_map-append number_of_mark (rule_marks spec.rules) (symbol_marks spec.symbols)
    ∙ (λ j. through number_of_mark (λ (r : RuleItem). flat_map marks_of r.body) (λ (r : RuleItem). flat_map numbers_of r.body) (λ r. through number_of_mark marks_of numbers_of numbers_are r.body) spec.rules j
    ++ through number_of_mark (λ (s : SymbolItem). flat_map marks_of s.body) (λ (s : SymbolItem). flat_map numbers_of s.body) (λ s. through number_of_mark marks_of numbers_of numbers_are s.body) spec.symbols j)

pub place_of_mark : Mark → List ℕ
place_of_mark (Some n, at) = []
place_of_mark (None, at) = at ∷ []

pub place_is : (e : Expr) → flat_map place_of_mark (mark_of_part e) ≡ including_of_part e
unfolding place_of_mark
place_is (expr.Constituents k) = refl
place_is (expr.Including at pairs) = refl
place_is e = refl

pub places_are : (c : Comp) → flat_map place_of_mark (marks_of c) ≡ includings_of c
unfolding place_of_mark
places_are c = through place_of_mark marks_in includings_in (λ e. through place_of_mark mark_of_part including_of_part place_is (parts e)) (expressions_of c)

pub all_places_are : (spec : Spec) → flat_map place_of_mark (all_marks spec) ≡ all_includings spec
all_places_are spec =
    flat_map-append place_of_mark (rule_marks spec.rules) (symbol_marks spec.symbols)
    ∙ (λ j. through place_of_mark (λ (r : RuleItem). flat_map marks_of r.body) (λ (r : RuleItem). flat_map includings_of r.body) (λ r. through place_of_mark marks_of includings_of places_are r.body) spec.rules j
    ++ through place_of_mark (λ (s : SymbolItem). flat_map marks_of s.body) (λ (s : SymbolItem). flat_map includings_of s.body) (λ s. through place_of_mark marks_of includings_of places_are s.body) spec.symbols j)

pub every_number : (P : Mark → Type 0) (Q : Numbered → Type 0) → ((n at : ℕ) → P (Some n, at) → Q (n, at)) → (xs : List Mark) → Every P xs → Every Q (flat_map number_of_mark xs)
unfolding number_of_mark
every_number P Q on [] h = tt
every_number P Q on ((Some n, at) ∷ xs) h = (on n at h.0, every_number P Q on xs h.1)
every_number P Q on ((None, at) ∷ xs) h = every_number P Q on xs h.1

pub told_numbers : (n at m other : ℕ) → AreTold (Some n, at) (Some m, other) → AreApart (n, at) (m, other)
told_numbers n at m other (inl p) = inl (record { smaller = p.number n m refl refl; earlier = p.place })
told_numbers n at m other (inr p) = inr (record { smaller = p.number m n refl refl; earlier = p.place })

pub numbers_apart : (xs : List Mark) → Apart AreTold xs → Apart AreApart (flat_map number_of_mark xs)
unfolding number_of_mark
numbers_apart [] h = tt
numbers_apart ((Some n, at) ∷ xs) h = (every_number (AreTold (Some n, at)) (AreApart (n, at)) (told_numbers n at) xs h.0, numbers_apart xs h.1)
numbers_apart ((None, at) ∷ xs) h = numbers_apart xs h.1

abbrev pub Differ : ℕ → ℕ → Type 0
Differ x y = x ≡ y → ⊥

pub every_place : (P : Mark → Type 0) (Q : ℕ → Type 0) → ((at : ℕ) → P (None, at) → Q at) → (xs : List Mark) → Every P xs → Every Q (flat_map place_of_mark xs)
unfolding place_of_mark
every_place P Q on [] h = tt
every_place P Q on ((Some n, at) ∷ xs) h = every_place P Q on xs h.1
every_place P Q on ((None, at) ∷ xs) h = (on at h.0, every_place P Q on xs h.1)

pub told_places : (at other : ℕ) → AreTold (None, at) (None, other) → Differ at other
told_places at other (inl p) same = omega (arith, p.place, same)
told_places at other (inr p) same = omega (arith, p.place, same)

pub places_apart : (xs : List Mark) → Apart AreTold xs → Apart Differ (flat_map place_of_mark xs)
unfolding place_of_mark
places_apart [] h = tt
places_apart ((Some n, at) ∷ xs) h = places_apart xs h.1
places_apart ((None, at) ∷ xs) h = (every_place (AreTold (None, at)) (Differ at) (told_places at) xs h.0, places_apart xs h.1)

pub marks_apart : (texts : List (List ℕ)) (tokens : List Token) (spec : Spec) → AllPairs IsEarlier tokens → IsSpecOf texts tokens spec → Apart AreTold (all_marks spec)
marks_apart texts tokens spec earlier p =
    let whole = all_items (words_in texts) texts (called_in texts) (no_items, 0) p.value tokens p.between p.first (record { apart = tt; below = tt; ordered = in_order tokens earlier }) in
    subst (λ (z : Spec). Apart AreTold (all_marks z)) (sym p.rest.same) whole.apart

-- numbers are told apart by their places
pub told_apart : (texts : List (List ℕ)) (tokens : List Token) (spec : Spec) → AllPairs IsEarlier tokens → IsSpecOf texts tokens spec → AllPairs AreApart (all_numbers spec)
told_apart texts tokens spec earlier p =
    all_pairs AreApart (all_numbers spec) (subst (Apart AreApart) (all_numbers_are spec) (numbers_apart (all_marks spec) (marks_apart texts tokens spec earlier p)))

-- each INCLUDING has a place of its own
pub includings_apart : (texts : List (List ℕ)) (tokens : List Token) (spec : Spec) → AllPairs IsEarlier tokens → IsSpecOf texts tokens spec → AllPairs (λ (x y : ℕ). x ≡ y → ⊥) (all_includings spec)
includings_apart texts tokens spec earlier p =
    all_pairs Differ (all_includings spec) (subst (Apart Differ) (all_places_are spec) (places_apart (all_marks spec) (marks_apart texts tokens spec earlier p)))
