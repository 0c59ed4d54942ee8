-- What a specification has of the tokens that it is made of: ids of a table, and lists that aren't empty.
use Rattle.std.proofs.Common.{◌≡◌, ℕ, zero, suc, nat_lt, ◌⊎◌, inl, inr, drop, ◌+◌, ◌<◌, Bool, true, false, ◌||◌, IsTrue, List, [], ◌∷◌, ◌++◌, length, length-append, flat_map, map, Option, Some, slice_get, refl, ap, sym, ◌∙◌, subst, cond, not, arith}
use Rattle.std.specs.List.{All, AllPairs, Contains, list_any, position_or_len, slice_index_or}
use Rattle.std.specs.Str.{bytes_eq}
use Rattle.std.proofs.lemmas.List.Elements.{All-nil, All-cons, All-append}
use Rattle.std.proofs.lemmas.Option.{slice_get_within}
use Rattle.std.proofs.lemmas.List.Folds.{list_any-append}
use Rattle.std.proofs.lemmas.Slice.Eq.{bytes_eq-Decides}
use Rattle.std.proofs.lemmas.Bool.{ltb-true, ltb-false}
use Rattle.lido_base.specs.declared.ids.StrId.{StrId}
use Rattle.lido_lexer.specs.Seen.{Sees, token, Signs, Keys}
use Rattle.lido_lexer.specs.declared.keyword.Keyword.{Keyword}
use Rattle.lido_lexer.specs.declared.keyword.Keyword.TheVariants as key
use Rattle.lido_lexer.specs.declared.sign.Sign.TheVariants as sign
use Rattle.lido_lexer.specs.declared.token.Token.{Token}
use Rattle.lido_lexer.specs.declared.token.TokenKind.{TokenKind}
use Rattle.lido_lexer.specs.declared.token.TokenKind.TheVariants as kind
use Rattle.lido_syntax.specs.declared.spec.Name.{Name}
use Rattle.lido_syntax.specs.declared.spec.Comp.{Comp}
use Rattle.lido_syntax.specs.declared.spec.Decl.{Decl}
use Rattle.lido_syntax.specs.declared.spec.Typed1.{Typed1}
use Rattle.lido_syntax.specs.declared.spec.Element.{Element}
use Rattle.lido_syntax.specs.declared.spec.Element.TheVariants as element
use Rattle.lido_syntax.specs.declared.spec.Expr.{Expr}
use Rattle.lido_syntax.specs.declared.spec.Expr.TheVariants as expr
use Rattle.lido_syntax.specs.declared.spec.Place.{Place}
use Rattle.lido_syntax.specs.declared.spec.Place.TheVariants as place
use Rattle.lido_syntax.specs.declared.spec.Severity.{Severity}
use Rattle.lido_syntax.specs.declared.spec.Target.{Target}
use Rattle.lido_syntax.specs.declared.spec.RuleItem.{RuleItem}
use Rattle.lido_syntax.specs.declared.spec.SymbolItem.{SymbolItem}
use Rattle.lido_syntax.specs.declared.spec.Spec.{Spec}
use Rattle.lido_syntax.specs.Parts.{parts, conditions}
use Rattle.lido_syntax.proofs.ExpressionLemmas.{parts-Call}
use Rattle.lido_computations.specs.declared.counts.Counts.{Counts}
use Rattle.lido_computations.specs.declared.messages.MessageWords.{MessageWords}
use Rattle.lido_computations.specs.declared.owners.Owner.{Owner}
use Rattle.lido_computations.specs.declared.owners.Owner.TheVariants as owner
use Rattle.lido_computations.specs.Phrases.{Done, Then, AreMore, AreSeparated, IsName, word, IsType, type_word}
use Rattle.lido_computations.specs.Phrases as phrases
use Rattle.lido_computations.specs.Places.{Optional, absent, present, AreListed, IsInt, int, IsIndex, IsContext, context, IsPlace, named, by_word, IsReadOf, IsRead, IsPair, IsIncludingOf, IsIncluding, IsShield, IsWithOf, IsWith, AreConstituentsOf, AreConstituents, in_targets, in_reads}
use Rattle.lido_computations.specs.Places as places
use Rattle.lido_computations.specs.Expressions as grammar
use Rattle.lido_computations.specs.Expressions.{constant_of, IsCall, IsExpr, AreOperands, IsPrimary, AreArguments, AreSome, AreFurther}
use Rattle.lido_computations.specs.Computations as computations
use Rattle.lido_computations.specs.Computations.{IsDependency, AreMoreDependencies, AreSomeDependencies, AreDependencies, AreAfter, IsTarget, IsValue, IsComputation}
use Rattle.lido_computations.specs.Functions.{HasAll, IsAmong}
use Rattle.lido_computations.specs.Messages as messages
use Rattle.lido_computations.specs.Messages.{IsSeverity, severity_word, IsPlacing, IsMessageOf, IsUnconditional, IsConditional, IsRuleComputation, IsSymbolComputation, IsComputationIn}
use Rattle.lido_reader.specs.Items as items
use Rattle.lido_reader.specs.Items.{Repeats, IsTerminalType, IsSide, AreNames, declared, typed, IsDecl, AreDecls, IsAttr, IsTerm, IsChain, IsElement, IsRight, AreInherited, IsSymbolHead, IsRuleName, AreComputations, IsBody, IsFurtherComputation, IsAbout, IsSymbol, IsRule, IsFurtherItem, IsSpec, no_items, called_in, id_in, rule_text}
use Rattle.lido_reader.specs.Specification.{IsSpecOf, words_in}
use Rattle.lido_reader.specs.Known.{OneOrMore, IsWordOf, IsIdOf, IsNameOf, HasKnownIds, HasKnownId, HasWordsOf, KnownKind, KnownToken, KnownPlace, KnownPair, KnownWith, KnownConstituents, KnownPart, KnownExpr, KnownTarget, KnownComp, KnownDecl, KnownTyped, KnownElement, KnownRule, KnownSymbol, KnownSpec}
use Rattle.lido_reader.specs.Numbers.{IsEarlier}
use Rattle.lido_reader.proofs.NumbersLemmas.{Every, every_of}
use Rattle.lido_reader.specs.Added.{is_rule_kind, lacks_name, first_names, rule_names}
use Rattle.lido_reader.proofs.PartsLemmas.{or_right, at_done}
use Rattle.lido_reader.proofs.AddedLemmas.{first_of_rule}
use Rattle.lido_reader.proofs.SilentLemmas.{item_adds}

-- ---- lists

pub one_of : {X : Type 0} (P : X → Type 0) (x : X) → P x → All P (x ∷ [])
one_of P x p = All-cons P x [] p (All-nil P)

all_flat : {X A : Type 0} (f : X → List A) (P : A → Type 0) (xs : List X) → All (λ x. All P (f x)) xs → All P (flat_map f xs)
all_flat f P [] h = All-nil P
all_flat f P (x ∷ xs) h = All-append P (f x) (flat_map f xs) (h 0 x (omega arith)) (all_flat f P xs (λ i d less. h (suc i) d (omega (arith, less))))

all_map : {X A : Type 0} (f : X → A) (P : A → Type 0) (xs : List X) → All (λ x. P (f x)) xs → All P (map f xs)
all_map f P [] h = All-nil P
all_map f P (x ∷ xs) h = All-cons P (f x) (map f xs) (h 0 x (omega arith)) (all_map f P xs (λ i d less. h (suc i) d (omega (arith, less))))

single : {X : Type 0} (P : X → Type 0) (x : X) → P x → OneOrMore P (x ∷ [])
single P x p = record { some = omega arith; each = one_of P x p }

one_more : {X : Type 0} (P : X → Type 0) (xs : List X) (x : X) → OneOrMore P xs → P x → OneOrMore P (xs ++ x ∷ [])
one_more P xs x h p = record { some = omega (arith, length-append xs (x ∷ []), h.some); each = All-append P xs (x ∷ []) h.each (one_of P x p) }

module _ (W F : Name → Type 0) (I : StrId → Type 0) where
  -- the ids of these tokens are known
  abbrev Tokens : List Token → Type 0
  Tokens = Every (KnownToken W F I)

  -- where the ids of the tokens are known, this holds of the value, and the ids of what is left are known
  record Brings {X : Type 0} (N : List Token → X → List Token → Type 0) (P : X → Type 0) : Type 0 where
    each : (ts : List Token) (x : X) (us : List Token) → N ts x us → Tokens ts → P x × Tokens us

  brings_done : {X : Type 0} {x : X} (P : X → Type 0) → P x → Brings (Done x) P
  brings_done P p = record { each = λ ts y us d h. (subst P (sym d.same) p, subst Tokens (sym d.behind) h) }

  brings_then : {A X : Type 0} {F : List Token → A → List Token → Type 0} {R : A → List Token → X → List Token → Type 0} {P : A → Type 0} {Q : X → Type 0}
      → Brings F P → ((a : A) → P a → Brings (R a) Q) → Brings (Then F R) Q
  brings_then f r = record { each = λ ts x us p h. let (a, k) = f.each ts p.value p.between p.first h in (r p.value a).each p.between x us p.rest k }

  seen : {what : TokenKind} (ts : List Token) (t : Token) (us : List Token) → Sees what ts t us → Tokens ts → Tokens us
  seen ts t us (token e) h = h.1

  -- a token that says nothing of texts
  sees : {what : TokenKind} → Brings (Sees what) (λ t. Unit {0})
  sees = record { each = λ ts t us p h. (tt, seen ts t us p h) }

  a_name : (ts : List Token) (x : Name) (us : List Token) → IsName ts x us → Tokens ts → W x × Tokens us
  a_name ts x us (word {t = t} e) h = (subst (KnownKind W F I t.from) e h.0, h.1)

  name : Brings IsName W
  name = record { each = a_name }

  a_type : (ts : List Token) (x : _) (us : List Token) → IsType ts x us → Tokens ts → Unit {0} × Tokens us
  a_type ts x us (type_word e d) h = (tt, h.1)

  type : Brings IsType (λ t. Unit {0})
  type = record { each = a_type }

  an_int : (ts : List Token) (x : _) (us : List Token) → IsInt ts x us → Tokens ts → Unit {0} × Tokens us
  an_int ts x us (int e) h = (tt, h.1)

  module _ {X : Type 0} {N : List Token → X → List Token → Type 0} {P : X → Type 0} (one : Brings N P) where
    more_at : (f : List X) (ts : List Token) (x : List X) (us : List Token) → OneOrMore P f → AreMore N f ts x us → Tokens ts → OneOrMore P x × Tokens us
    more_at f ts x us o phrases.end h = (o, h)
    more_at f ts x ws o (phrases.comma {x = item} {us = us} {vs = vs} {t = t} c p q) h =
        let (g, k) = one.each us item vs p (seen ts t us c h) in more_at (f ++ item ∷ []) vs x ws (one_more P f item o g) q k

    more : {f : List X} → OneOrMore P f → Brings (AreMore N f) (OneOrMore P)
    more {f} o = record { each = λ ts x us. more_at f ts x us o }

    separated : Brings (AreSeparated N) (OneOrMore P)
    separated = brings_then one (λ a p. more (single P a p))

    listed_at : (ts : List Token) (x : List X) (us : List Token) → AreListed N ts x us → Tokens ts → OneOrMore P x × Tokens us
    listed_at ts x us (places.single {x = item} p) h = let (g, k) = one.each ts item us p h in (single P item g, k)
    listed_at ts x us (places.several p) h = (brings_then sees (λ a u. brings_then separated (λ b o. brings_then sees (λ c v. brings_done (OneOrMore P) o)))).each ts x us p h

    listed : Brings (AreListed N) (OneOrMore P)
    listed = record { each = listed_at }

    optional_at : (v : X) (ts : List Token) (x : X) (us : List Token) → P v → Optional N v ts x us → Tokens ts → P x × Tokens us
    optional_at v ts x us g (absent e) h = (subst P (sym e) g, h)
    optional_at v ts x us g (present p) h = one.each ts x us p h

    optional : {v : X} → P v → Brings (Optional N v) P
    optional {v} g = record { each = λ ts x us. optional_at v ts x us g }

  module _ {Y : Type 0} {Step : Y → List Token → Y → List Token → Type 0} {P : Y → Type 0} (step : (y : Y) → P y → Brings (Step y) P) where
    repeats_at : (f : Y) (ts : List Token) (x : Y) (us : List Token) → P f → Repeats Step f ts x us → Tokens ts → P x × Tokens us
    repeats_at f ts x us g items.end h = (g, h)
    repeats_at f ts x vs g (items.next {more = m} {us = us} p q) h = let (g', k) = (step f g).each ts m us p h in repeats_at m us x vs g' q k

    repeats : {f : Y} → P f → Brings (Repeats Step f) P
    repeats {f} g = record { each = λ ts x us. repeats_at f ts x us g }

  -- ---- places and remote lists

  index : Brings IsIndex (λ i. Unit {0})
  index = optional (brings_then sees (λ a u. brings_then (record { each = an_int }) (λ b v. brings_then sees (λ c w. brings_done (λ i. Unit {0}) tt)))) tt

  -- words that stand for no symbol of a production
  abbrev AreNoNames : (Keyword → Option Place) → Type 0
  AreNoNames words = (w : Keyword) (p : Place) → words w ≡ Some p → KnownPlace W F I p

  target_words : AreNoNames in_targets
  target_words key.Synt p e = let same : place.Synt ≡ p = cc in subst (KnownPlace W F I) same tt
  target_words key.Inh p e = let same : place.Inh ≡ p = cc in subst (KnownPlace W F I) same tt
  target_words key.This p e = let same : place.This ≡ p = cc in subst (KnownPlace W F I) same tt
  target_words _ p e = cc

  read_words : AreNoNames in_reads
  read_words key.Tail p e = let same : place.Tail ≡ p = cc in subst (KnownPlace W F I) same tt
  read_words key.Synt p e = target_words key.Synt p e
  read_words key.Inh p e = target_words key.Inh p e
  read_words key.This p e = target_words key.This p e
  read_words _ p e = cc

  a_place : (words : Keyword → Option Place) → AreNoNames words → (ts : List Token) (x : ℕ × Place) (us : List Token) → IsPlace words ts x us → Tokens ts → KnownPlace W F I x.1 × Tokens us
  a_place words none ts x us (named p) h = (brings_then name (λ a k. brings_then index (λ i u. brings_done (λ (q : ℕ × Place). KnownPlace W F I q.1) k))).each ts x us p h
  a_place words none ts x us (by_word (context {w = w} {p = p} e d)) h = (none w p d, h.1)

  read : Brings IsRead (KnownExpr W F I)
  read = brings_then (record { each = a_place in_reads read_words }) (λ p k. brings_then sees (λ a u. brings_then name (λ b m. brings_done (KnownExpr W F I) (one_of (KnownPart W F I) (expr.Read p.0 p.1 b) (k, m)))))

  pair : Brings IsPair (KnownPair W F I)
  pair = brings_then name (λ s k. brings_then sees (λ a u. brings_then name (λ b m. brings_done (KnownPair W F I) (record { symbol = k; attribute = m }))))

  including : Brings IsIncluding (KnownExpr W F I)
  including = brings_then sees (λ t u. brings_then (listed pair) (λ pairs o. brings_done (KnownExpr W F I) (one_of (KnownPart W F I) (expr.Including t.from pairs) o)))

  with_functions : Brings IsWith (KnownWith W F I)
  with_functions = optional (brings_then sees (λ t u. brings_then sees (λ a u. brings_then type (λ ty u. brings_then sees (λ b u. brings_then name (λ comb c. brings_then sees (λ d u. brings_then name (λ one s. brings_then sees (λ e u. brings_then name (λ null n.
      brings_then sees (λ f u. brings_done (KnownWith W F I) (record { comb = c; single = s; null = n })))))))))))) tt

  constituents : {n : ℕ} → Brings (AreConstituents n) (KnownConstituents W F I)
  constituents = brings_then sees (λ t u. brings_then (listed pair) (λ pairs o. brings_then (optional (brings_then sees (λ a u. names_each)) (All-nil W)) (λ shield k. brings_then with_functions (λ w m.
      brings_done (KnownConstituents W F I) (record { sources = o; shield = k; with_functions = m })))))
    where
      names_each : Brings (AreListed IsName) (All W)
      names_each = record { each = λ ts x us p h. let (o, k) = (listed name).each ts x us p h in (o.each, k) }

-- ---- names that stand in the table

among_known : (texts : List (List ℕ)) (t : List ℕ) → IsAmong texts t → IsIdOf texts (id_in texts t)
among_known [] t h = cc
among_known (x ∷ xs) t h = by (bytes_eq t x) refl h (among_known xs t)
  where
    by : (b : Bool) → bytes_eq t x ≡ b → IsTrue (bytes_eq t x || list_any (bytes_eq t) xs) → (IsAmong xs t → position_or_len (bytes_eq t) xs < length xs) → cond (not (bytes_eq t x)) (1 + position_or_len (bytes_eq t) xs) 0 < length (x ∷ xs)
    by true e h later = rw e (omega arith)
    by false e h later = let rest : IsAmong xs t = rw e at h in let less = later rest in rw e (omega (arith, less))

among_first : (t : List ℕ) (names : List (List ℕ)) → IsAmong (t ∷ names) t
among_first t names = let same : bytes_eq t t ≡ true = (bytes_eq-Decides t t).1 refl in rw same refl

has_behind : (front names texts : List (List ℕ)) → HasAll (front ++ names) texts → HasAll names texts
has_behind front names texts h = record { each = λ name among. h.each name (list_any-append (bytes_eq name) front names ∙ or_right (list_any (bytes_eq name) front) (list_any (bytes_eq name) names) among) }

-- The names in calls are words, or those of operators' functions; the names of rules are words, or texts of the table.
module _ (texts : List (List ℕ)) (W F : Name → Type 0) (I : StrId → Type 0) (word_called : (n : Name) → W n → F n) (word_text : (n : Name) → W n → I n.id)
    (operator_called : (n : Name) (function : List ℕ) → slice_get texts n.id.0 ≡ Some function → F n) (rule_called : (k : ℕ) → IsAmong texts (rule_text k) → I (called_in texts k)) where
  abbrev Known : List Token → Type 0
  Known = Tokens W F I

  abbrev InTable : {X : Type 0} → (List Token → X → List Token → Type 0) → (X → Type 0) → Type 0
  InTable N P = Brings W F I N P

  abbrev Part : Expr → Type 0
  Part = KnownPart W F I

  abbrev Whole : Expr → Type 0
  Whole = KnownExpr W F I

  -- ---- expressions

  call_known : (n : Name) (args : List Expr) → F n → All Whole args → Whole (expr.Call n args)
  call_known n args k h = subst (All Part) (sym (parts-Call n args)) (All-cons Part (expr.Call n args) (flat_map parts args) k (all_flat parts Part args h))

  called : (function : List ℕ) (at : ℕ) (args : List Expr) (e : Expr) → IsCall texts function at args e → All Whole args → Whole e
  called function at args e (id, there, same) h = subst Whole (sym same) (call_known (record { at = at; id = id }) args (operator_called (record { at = at; id = id }) function there) h)

  constant_known : (at : ℕ) (what : TokenKind) (e : Expr) → constant_of at what ≡ Some e → KnownKind W F I at what → Whole e
  constant_known at (kind.Int i) e d k = let same : expr.Int at i ≡ e = cc in subst Whole same (one_of Part (expr.Int at i) tt)
  constant_known at (kind.Str s) e d k = let same : expr.Str at s ≡ e = cc in subst Whole same (one_of Part (expr.Str at s) k)
  constant_known at (kind.Key key.True) e d k = let same : expr.Bool at true ≡ e = cc in subst Whole same (one_of Part (expr.Bool at true) tt)
  constant_known at (kind.Key key.False) e d k = let same : expr.Bool at false ≡ e = cc in subst Whole same (one_of Part (expr.Bool at false) tt)
  constant_known at _ e d k = cc

  push_known : (found : List Expr) (e : Expr) → All Whole found → Whole e → All Whole (found ++ e ∷ [])
  push_known found e h k = All-append Whole found (e ∷ []) h (one_of Whole e k)

  mutual
    expression : (k : ℕ) (s : Counts) (ts us : List Token) (e : Expr × Counts) → IsExpr texts k s ts e us → Known ts → Whole e.0 × Known us
    expression k s ts vs e (grammar.operands {us = us} {l = l} less p q) h = let (g, m) = expression (suc k) s ts us l p h in operators k us vs l e q g m
    expression k s ts vs e (grammar.prefix {r = r} {t = t} {us = us} {inner = inner} {e = whole} {function = function} d spend p c) h =
        let (g, m) = expression grammar.unary_level r us vs inner p h.1 in (called function t.from (inner.0 ∷ []) whole c (one_of Whole inner.0 g), m)
    expression k s ts us e (grammar.primary p) h = operand s ts us e p h

    operators : (k : ℕ) (us vs : List Token) (l e : Expr × Counts) → AreOperands texts k l us e vs → Whole l.0 → Known us → Whole e.0 × Known vs
    operators k us vs l e grammar.no_operator g h = (g, h)
    operators k us ws l e (grammar.operator {r = r} {t = t} {us = bs} {vs = vs} {x = x} {whole = whole} {function = function} d spend p c q) g h =
        let (f, m) = expression (suc k) r bs vs x p h.1 in operators k vs ws (whole, x.1) e q (called function t.from (l.0 ∷ x.0 ∷ []) whole c (All-cons Whole l.0 (x.0 ∷ []) g (one_of Whole x.0 f))) m

    operand : (s : Counts) (ts us : List Token) (e : Expr × Counts) → IsPrimary texts s ts e us → Known ts → Whole e.0 × Known us
    operand s ts us e (grammar.constant {t = t} {e = whole} d) h = (constant_known t.from t.what whole d h.0, h.1)
    operand s ts us e (grammar.ptg_null {t = t} {e = whole} d spend c) h = (called _ t.from [] whole c (All-nil Whole), h.1)
    operand s ts ws e (grammar.parenthesized {r = r} {closing = closing} {us = us} {vs = vs} d spend p q) h =
        let (g, m) = expression 0 r us vs e p h.1 in (g, seen W F I vs closing ws q m)
    operand s ts us e (grammar.read {e = whole} p) h = (read W F I).each ts whole us p h
    operand s ts us e (grammar.including {e = whole} p) h = (including W F I).each ts whole us p h
    operand s ts us e (grammar.constituents {k = k} p) h = let (o, m) = (constituents W F I).each ts k us p h in (one_of Part (expr.Constituents k) o, m)
    operand s ts vs e (grammar.terminal {us = us} {n = n} {i = i} p q) h =
        let (g, m) = a_name W F I ts n us p h in let (u, l) = (index W F I).each us i vs q m in (one_of Part (expr.Terminal n i) g, l)
    operand s ts zs e (grammar.call {r = r} {us = us} {vs = vs} {ws = ws} {n = n} {opening = opening} {closing = closing} {args = args} p o spend a c) h =
        let (g, m) = a_name W F I ts n us p h in let (f, l) = arguments r vs ws args a (seen W F I us opening vs o m) in (call_known n args.0 (word_called n g) f, seen W F I ws closing zs c l)
    operand s ts hs e (grammar.choice {r = r} {t = t} {opening = opening} {first = first} {second = second} {closing = closing} {us = us} {vs = vs} {ws = ws} {xs = xs} {ys = ys} {zs = zs} {gs = gs} {x = x} {y = y} {z = z} {e = whole} d spend o p c q b f g i) h =
        let (one, m) = expression 0 r vs ws x p (seen W F I us opening vs o h.1) in
        let (two, l) = expression 0 x.1 xs ys y q (seen W F I ws first xs c m) in
        let (three, k) = expression 0 y.1 zs gs z f (seen W F I ys second zs b l) in
        (called _ t.from (x.0 ∷ y.0 ∷ z.0 ∷ []) whole i (All-cons Whole x.0 (y.0 ∷ z.0 ∷ []) one (All-cons Whole y.0 (z.0 ∷ []) two (one_of Whole z.0 three))), seen W F I gs closing hs g k)
    operand s ts zs e (grammar.order {r = r} {t = t} {opening = opening} {closing = closing} {us = us} {vs = vs} {ws = ws} {args = args} {e = whole} d spend o a c i) h =
        let (f, m) = some_of r vs ws args a (seen W F I us opening vs o h.1) in (called _ t.from args.0 whole i f, seen W F I ws closing zs c m)

    arguments : (s : Counts) (ts us : List Token) (args : List Expr × Counts) → AreArguments texts s ts args us → Known ts → All Whole args.0 × Known us
    arguments s ts us args grammar.none h = (All-nil Whole, h)
    arguments s ts us args (grammar.some p) h = some_of s ts us args p h

    some_of : (s : Counts) (ts us : List Token) (args : List Expr × Counts) → AreSome texts s ts args us → Known ts → All Whole args.0 × Known us
    some_of s ts vs args (grammar.first {us = us} {e = e} p q) h = let (g, m) = expression 0 s ts us e p h in further us vs (e.0 ∷ [], e.1) args q (one_of Whole e.0 g) m

    further : (us vs : List Token) (found args : List Expr × Counts) → AreFurther texts found us args vs → All Whole found.0 → Known us → All Whole args.0 × Known vs
    further us vs found args grammar.last g h = (g, h)
    further us ws found args (grammar.further {e = e} {us = bs} {vs = vs} {t = t} c p q) g h =
        let (f, m) = expression 0 found.1 bs vs e p (seen W F I us t bs c h) in further vs ws (found.0 ++ e.0 ∷ [], e.1) args q (push_known found.0 e.0 g f) m

  value : {s : Counts} → InTable (IsExpr texts 0 s) (λ e. Whole e.0)
  value {s} = record { each = λ ts e us. expression 0 s ts us e }

  -- ---- dependencies

  dependency : (n : ℕ) (ts us : List Token) (x : Expr × ℕ) → IsDependency n ts x us → Known ts → Whole x.0 × Known us
  dependency n ts us x (computations.read {e = e} p) h = (read W F I).each ts e us p h
  dependency n ts us x (computations.including {e = e} p) h = (including W F I).each ts e us p h
  dependency n ts us x (computations.constituents {k = k} p) h = let (o, m) = (constituents W F I).each ts k us p h in (one_of Part (expr.Constituents k) o, m)

  more_dependencies : (us vs : List Token) (found all : List Expr × ℕ) → AreMoreDependencies found us all vs → All Whole found.0 → Known us → All Whole all.0 × Known vs
  more_dependencies us vs found all computations.last g h = (g, h)
  more_dependencies us ws found all (computations.further {e = e} {us = bs} {vs = vs} {t = t} c p q) g h =
      let (f, m) = dependency found.1 bs vs e p (seen W F I us t bs c h) in more_dependencies vs ws (found.0 ++ e.0 ∷ [], e.1) all q (push_known found.0 e.0 g f) m

  some_dependencies : {n : ℕ} → InTable (AreSomeDependencies n) (λ x. All Whole x.0)
  some_dependencies {n} = record { each = λ ts x us p h. let (g, m) = dependency n ts p.between p.value p.first h in more_dependencies p.between us (p.value.0 ∷ [], p.value.1) x p.rest (one_of Whole p.value.0 g) m }

  dependencies : (n : ℕ) (ts us : List Token) (x : List Expr × ℕ) → AreDependencies n ts x us → Known ts → All Whole x.0 × Known us
  dependencies n ts us x (computations.single {e = e} p) h = let (g, m) = dependency n ts us e p h in (one_of Whole e.0 g, m)
  dependencies n ts us x (computations.several p) h = (brings_then W F I (sees W F I) (λ a u. brings_then W F I some_dependencies (λ b g. brings_then W F I (sees W F I) (λ c v. brings_done W F I (λ (y : List Expr × ℕ). All Whole y.0) g)))).each ts x us p h

  after : {n : ℕ} → InTable (AreAfter n) (λ x. All Whole x.0)
  after {n} = optional W F I (brings_then W F I (sees W F I) (λ a u. record { each = λ ts x us. dependencies n ts us x })) (All-nil Whole)

  -- ---- computations

  -- what a target names, and that it has no condition
  abbrev Goal : ℕ × Target → Type 0
  Goal x = KnownTarget W F I x.1 × (conditions x.1 ≡ [])

  goal_at : (ts : List Token) (x : ℕ × Target) (us : List Token) → IsTarget ts x us → Known ts → Goal x × Known us
  goal_at ts x us (computations.attribute p) h =
      (brings_then W F I (record { each = a_place W F I in_targets (target_words W F I) }) (λ q k. brings_then W F I (sees W F I) (λ dot u. brings_then W F I (name W F I) (λ a m. brings_done W F I Goal ((k, m), refl))))).each ts x us p h
  goal_at ts x us (computations.chain_start p) h =
      (brings_then W F I (sees W F I) (λ t u. brings_then W F I (sees W F I) (λ head v. brings_then W F I (sees W F I) (λ dot w. brings_then W F I (name W F I) (λ c m. brings_done W F I Goal (m, refl)))))).each ts x us p h

  abbrev Computed : Comp × ℕ → Type 0
  Computed c = KnownComp W F I c.0

  computed : (n : ℕ) (ts : List Token) (x : Comp × ℕ) (us : List Token) → IsComputation texts n ts x us → Known ts → Computed x × Known us
  computed n ts x us (computations.assignment p) h =
      (brings_then W F I (record { each = goal_at }) (λ t g. brings_then W F I (sees W F I) (λ equal u. brings_then W F I value (λ v k. brings_then W F I after (λ a m.
      brings_done W F I Computed (record { goal = g.0; expressions = subst (λ z. All Whole (z ++ v.0 ∷ a.0)) (sym g.1) (All-cons Whole v.0 a.0 k m) })))))).each ts x us p h
  computed n ts x us (computations.output p) h =
      (brings_then W F I (sees W F I) (λ t u. brings_then W F I (sees W F I) (λ opening w. brings_then W F I value (λ v k. brings_then W F I (sees W F I) (λ closing z. brings_then W F I after (λ a m.
      brings_done W F I Computed (record { goal = tt; expressions = All-cons Whole v.0 a.0 k m }))))))).each ts x us p h

  a_severity : (words : MessageWords) (ts : List Token) (x : _) (us : List Token) → IsSeverity words ts x us → Known ts → Unit {0} × Known us
  a_severity words ts x us (severity_word e d) h = (tt, h.1)

  placing : (words : MessageWords) → InTable (IsPlacing words) (λ t. Unit {0})
  placing words = brings_then W F I (sees W F I) (λ a u. brings_then W F I (sees W F I) (λ b v. brings_then W F I (sees W F I) (λ c w. brings_then W F I (sees W F I) (λ d x. sees W F I))))

  message_of : (words : MessageWords) {s : Counts} → InTable (IsMessageOf words texts s) (λ m. Whole m.0.1)
  message_of words {s} = brings_then W F I (sees W F I) (λ a u. brings_then W F I (record { each = a_severity words }) (λ severity v. brings_then W F I (sees W F I) (λ b w. brings_then W F I value (λ text k. brings_then W F I (placing words) (λ closing x.
      brings_done W F I (λ (m : (Severity × Expr) × Counts). Whole m.0.1) k)))))

  rule_computed : (words : MessageWords) (n : ℕ) (ts : List Token) (x : Comp × ℕ) (us : List Token) → IsRuleComputation words texts n ts x us → Known ts → Computed x × Known us
  rule_computed words n ts x us (messages.usual p) h = computed n ts x us p h
  rule_computed words n ts x us (messages.message p) h =
      (brings_then W F I (sees W F I) (λ t u. brings_then W F I (message_of words) (λ message k. brings_then W F I after (λ a m. brings_done W F I Computed (record { goal = tt; expressions = All-cons Whole message.0.1 a.0 k m }))))).each ts x us p h
  rule_computed words n ts x us (messages.conditional p) h =
      (brings_then W F I (sees W F I) (λ t u. brings_then W F I (sees W F I) (λ opening v. brings_then W F I value (λ condition g. brings_then W F I (sees W F I) (λ comma w. brings_then W F I (sees W F I) (λ word y. brings_then W F I (message_of words) (λ message k. brings_then W F I (sees W F I) (λ closing z.
      brings_then W F I after (λ a m. brings_done W F I Computed (record { goal = tt; expressions = All-cons Whole condition.0 (message.0.1 ∷ a.0) g (All-cons Whole message.0.1 a.0 k m) })))))))))).each ts x us p h

  computed_in : (words : MessageWords) (o : Owner) (n : ℕ) → InTable (IsComputationIn words texts o n) Computed
  computed_in words owner.Rule n = record { each = rule_computed words n }
  computed_in words owner.Symbol n = record { each = λ ts x us p. computed n ts x us p.usual }

  -- ---- bodies

  abbrev Body : List Comp × ℕ → Type 0
  Body y = All (KnownComp W F I) y.0

  body : (words : MessageWords) (o : Owner) (n : ℕ) → InTable (IsBody (IsComputationIn words texts o) n) Body
  body words o n = brings_then W F I all (λ y g. brings_then W F I (sees W F I) (λ word u. brings_then W F I (sees W F I) (λ semicolon v. brings_done W F I Body g)))
    where
      step : (y : List Comp × ℕ) → Body y → InTable (IsFurtherComputation (IsComputationIn words texts o) y) Body
      step y g = brings_then W F I (computed_in words o y.1) (λ comp k. brings_then W F I (sees W F I) (λ semicolon u. brings_done W F I Body (All-append (KnownComp W F I) y.0 (comp.0 ∷ []) g (one_of (KnownComp W F I) comp.0 k))))

      all : InTable (AreComputations (IsComputationIn words texts o) n) Body
      all = optional W F I (brings_then W F I (sees W F I) (λ word u. repeats W F I step (All-nil (KnownComp W F I)))) (All-nil (KnownComp W F I))

  -- ---- declarations

  abbrev Name_of : Name → Type 0
  Name_of = W

  a_terminal_type : (ts : List Token) (x : _) (us : List Token) → IsTerminalType ts x us → Known ts → Unit {0} × Known us
  a_terminal_type ts x us (items.terminal_type p d) h = a_type W F I ts x us p h

  a_side : (ts : List Token) (x : _) (us : List Token) → IsSide ts x us → Known ts → Unit {0} × Known us
  a_side ts x us items.unsaid h = (tt, h)
  a_side ts x us (items.synt {word = w} p) h = (tt, seen W F I ts w us p h)
  a_side ts x us (items.inh {word = w} p) h = (tt, seen W F I ts w us p h)

  abbrev Decls : List Decl → Type 0
  Decls = All (KnownDecl W F I)

  abbrev Typeds : List Typed1 → Type 0
  Typeds = All (KnownTyped W F I)

  decl : InTable IsDecl Decls
  decl = brings_then W F I (separated W F I (name W F I)) (λ names o. brings_then W F I (sees W F I) (λ colon u. brings_then W F I (type W F I) (λ ty v. brings_then W F I (record { each = a_side }) (λ k w.
      brings_done W F I Decls (all_map (λ (n : Name). record { attr = n; ty = ty; kind = k }) (KnownDecl W F I) names o.each)))))

  decls : InTable AreDecls Decls
  decls = brings_then W F I decl (λ d g. repeats W F I (λ found f. brings_then W F I (sees W F I) (λ comma u. brings_then W F I decl (λ more m. brings_done W F I Decls (All-append (KnownDecl W F I) found more f m)))) g)

  attr : InTable IsAttr Decls
  attr = brings_then W F I (sees W F I) (λ word u. brings_then W F I decls (λ all g. brings_then W F I (sees W F I) (λ semicolon v. brings_done W F I Decls g)))

  term : InTable IsTerm Typeds
  term = brings_then W F I (sees W F I) (λ word u. brings_then W F I (separated W F I (name W F I)) (λ names o. brings_then W F I (sees W F I) (λ colon v. brings_then W F I (record { each = a_terminal_type }) (λ ty w. brings_then W F I (sees W F I) (λ semicolon x.
      brings_done W F I Typeds (all_map (λ (n : Name). record { name = n; ty = ty }) (KnownTyped W F I) names o.each))))))

  chain : InTable IsChain Typeds
  chain = brings_then W F I (sees W F I) (λ word u. brings_then W F I (separated W F I (name W F I)) (λ names o. brings_then W F I (sees W F I) (λ colon v. brings_then W F I (type W F I) (λ ty w. brings_then W F I (sees W F I) (λ semicolon x.
      brings_done W F I Typeds (all_map (λ (n : Name). record { name = n; ty = ty }) (KnownTyped W F I) names o.each))))))

  -- ---- right sides and rules

  abbrev Elements : List Element → Type 0
  Elements = All (KnownElement W F I)

  an_element : (ts : List Token) (x : Element) (us : List Token) → IsElement ts x us → Known ts → KnownElement W F I x × Known us
  an_element ts x us (items.symbol {name = n} p) h = a_name W F I ts n us p h
  an_element ts x us (items.literal {quoted = t} {id = id} p) h = go ts us t p h
    where
      go : (ts us : List Token) (t : Token) → Sees (kind.Literal id) ts t us → Known ts → I id × Known us
      go ts us t (token e) h = (subst (KnownKind W F I t.from) e h.0, h.1)

  -- the elements of a right side, of which a list has one
  record Right (x : Bool × List Element) : Type 0 where
    each : Elements x.1
    some : x.0 ≡ true → 0 < length x.1

  a_right : (ts : List Token) (x : Bool × List Element) (us : List Token) → IsRight ts x us → Known ts → Right x × Known us
  a_right ts x us (items.production p) h =
      (brings_then W F I (sees W F I) (λ produces u. brings_then W F I (repeats W F I (λ found f. brings_then W F I (record { each = an_element }) (λ e k. brings_done W F I Elements (All-append (KnownElement W F I) found (e ∷ []) f (one_of (KnownElement W F I) e k)))) (All-nil (KnownElement W F I))) (λ all g.
      brings_done W F I Right (record { each = g; some = λ e. cc })))).each ts x us p h
  a_right ts x us (items.listof p) h =
      (brings_then W F I (sees W F I) (λ word u. brings_then W F I choices (λ all g. brings_done W F I Right (record { each = g.each; some = λ e. g.some })))).each ts x us p h
    where
      choices : InTable items.AreChoices (OneOrMore (KnownElement W F I))
      choices = brings_then W F I (name W F I) (λ n k. repeats W F I (λ found o. brings_then W F I (sees W F I) (λ bar v. brings_then W F I (name W F I) (λ m l. brings_done W F I (OneOrMore (KnownElement W F I)) (one_more (KnownElement W F I) found (element.Symbol m) o l)))) (single (KnownElement W F I) (element.Symbol n) k))

  module _ (words : MessageWords) where
    abbrev One : Owner → ℕ → List Token → Comp × ℕ → List Token → Type 0
    One = IsComputationIn words texts

    colon_next : (ts us : List Token) (t : Token) → Signs sign.Colon ts t us → lacks_name ts ≡ true
    colon_next ts us t (token e) = rw e refl

    -- a rule has a name in the text, or one in the table
    rule_name : (k at : ℕ) (ts ms us : List Token) (n : Name) (t : Token) → (lacks_name ts ≡ true → I (called_in texts k)) → IsRuleName (called_in texts) k at ts n ms → Signs sign.Colon ms t us → Known ts → I n.id × Known ms
    rule_name k at ts ms us n t there (absent e) c h = (subst (λ (z : Name). I z.id) (sym e) (there (colon_next ts us t c)), h)
    rule_name k at ts ms us n t there (present p) c h = let (g, m) = (brings_then W F I (name W F I) (λ a g. brings_done W F I Name_of g)).each ts n ms p h in (word_text n g, m)

    rule : (k n : ℕ) (ts us : List Token) (x : RuleItem × ℕ) → (lacks_name (drop 1 ts) ≡ true → I (called_in texts k)) → IsRule (called_in texts) One k n ts x us → Known ts → KnownRule W F I x.0 × Known us
    rule k n ts us x there p h =
        let behind = seen W F I ts p.value p.between p.first h in
        let (calling, left_known) = rule_name k p.value.from p.between p.rest.between p.rest.rest.between p.rest.value p.rest.rest.value (λ e. there (ap lacks_name (drop_one ts p.between p.value p.first) ∙ e)) p.rest.first p.rest.rest.first behind in
        (brings_then W F I (sees W F I) (λ colon u. brings_then W F I (name W F I) (λ left l. brings_then W F I (record { each = a_right }) (λ right r. brings_then W F I (body words owner.Rule n) (λ all b.
        brings_done W F I (λ (z : RuleItem × ℕ). KnownRule W F I z.0) (record { called = calling; left = l; right = r.each; some = r.some; body = b })))))).each p.rest.between x us p.rest.rest left_known
      where
        drop_one : (ts us : List Token) (t : Token) → Keys key.Rule ts t us → drop 1 ts ≡ us
        drop_one ts us t (token e) = refl

    a_head : (ts : List Token) (x : ℕ × Bool) (us : List Token) → IsSymbolHead ts x us → Known ts → Unit {0} × Known us
    a_head ts x us (items.class p) h = (brings_then W F I (sees W F I) (λ word u. brings_then W F I (sees W F I) (λ symbol v. brings_done W F I (λ z. Unit {0}) tt))).each ts x us p h
    a_head ts x us (items.plain p) h = (brings_then W F I (sees W F I) (λ symbol v. brings_done W F I (λ z. Unit {0}) tt)).each ts x us p h

    inherited : InTable AreInherited (All Name_of)
    inherited = optional W F I (brings_then W F I (sees W F I) (λ word u. record { each = λ ts x us p h. let (o, k) = (separated W F I (name W F I)).each ts x us p h in (o.each, k) })) (All-nil Name_of)

    abbrev About : SymbolItem × ℕ → Type 0
    About z = KnownSymbol W F I z.0

    about : (head : ℕ × Bool) (first : Name) (n : ℕ) → Name_of first → (ts : List Token) (x : SymbolItem × ℕ) (us : List Token) → IsAbout (One owner.Symbol) head first n ts x us → Known ts → About x × Known us
    about head first n g ts x us (items.declaring p) h =
        (brings_then W F I (more W F I (name W F I) (single Name_of first g)) (λ names o. brings_then W F I (sees W F I) (λ colon u. brings_then W F I decls (λ all d. brings_then W F I (sees W F I) (λ semicolon v.
        brings_done W F I About (record { about = o; inherits = All-nil Name_of; decls = d; body = All-nil (KnownComp W F I) })))))).each ts x us p h
    about head first n g ts x us (items.computing p) h =
        (brings_then W F I inherited (λ classes c. brings_then W F I (body words owner.Symbol n) (λ all b.
        brings_done W F I About (record { about = single Name_of first g; inherits = c; decls = All-nil (KnownDecl W F I); body = b })))).each ts x us p h

    symbol : (n : ℕ) → InTable (IsSymbol (One owner.Symbol) n) About
    symbol n = brings_then W F I (record { each = a_head }) (λ head u. brings_then W F I (name W F I) (λ first g. record { each = about head first n g }))

    -- ---- a whole specification

    abbrev Found : Spec × ℕ → Type 0
    Found y = KnownSpec W F I y.0

    -- these names of rules stand in the table, or nothing is asked of them
    abbrev AreThere : List (List ℕ) → Type 0
    AreThere names = ((k : ℕ) → I (called_in texts k)) ⊎ HasAll names texts

    behind_these : (front names : List (List ℕ)) → AreThere (front ++ names) → AreThere names
    behind_these front names (inl all) = inl all
    behind_these front names (inr h) = inr (has_behind front names texts h)

    rule_there : (k : ℕ) (ts us : List Token) (t : Token) (names : List (List ℕ)) → Keys key.Rule ts t us → AreThere (first_names k ts ++ names) → lacks_name (drop 1 ts) ≡ true → I (called_in texts k)
    rule_there k ts us t names p (inl all) lacks = all k
    rule_there k ts us t names (token e) (inr h) lacks =
        let first : first_names k (t ∷ us) ≡ rule_text k ∷ [] = first_of_rule k t us (ap is_rule_kind e) ∙ (rw lacks refl) in
        rule_called k (h.each (rule_text k) (subst (λ z. IsAmong (z ++ names) (rule_text k)) (sym first) (among_first (rule_text k) names)))

    push : {X : Type 0} (P : X → Type 0) (xs : List X) (x : X) → All P xs → P x → All P (xs ++ x ∷ [])
    push P xs x h p = All-append P xs (x ∷ []) h (one_of P x p)

    one_item : (y x : Spec × ℕ) (ts us : List Token) → AreThere (first_names (length y.0.rules + 1) ts ++ rule_names (length x.0.rules + 1) us) → IsFurtherItem (called_in texts) One y ts x us → Found y → Known ts → Found x × Known us
    one_item y x ts us there (items.rule p) f h =
        let (g, k) = rule (length y.0.rules + 1) y.1 ts p.between p.value (rule_there (length y.0.rules + 1) ts p.first.between p.first.value _ p.first.first there) p.first h in
        at_done (λ (z : Spec × ℕ) bs. Found z × Known bs) p.rest (record { rules = push (KnownRule W F I) y.0.rules p.value.0 f.rules g; symbols = f.symbols; attrs = f.attrs; terms = f.terms; chains = f.chains }, k)
    one_item y x ts us there (items.symbol p) f h =
        let (g, k) = (symbol y.1).each ts p.value p.between p.first h in
        at_done (λ (z : Spec × ℕ) bs. Found z × Known bs) p.rest (record { rules = f.rules; symbols = push (KnownSymbol W F I) y.0.symbols p.value.0 f.symbols g; attrs = f.attrs; terms = f.terms; chains = f.chains }, k)
    one_item y x ts us there (items.attr p) f h =
        let (g, k) = attr.each ts p.value p.between p.first h in
        at_done (λ (z : Spec × ℕ) bs. Found z × Known bs) p.rest (record { rules = f.rules; symbols = f.symbols; attrs = All-append (KnownDecl W F I) y.0.attrs p.value f.attrs g; terms = f.terms; chains = f.chains }, k)
    one_item y x ts us there (items.term p) f h =
        let (g, k) = term.each ts p.value p.between p.first h in
        at_done (λ (z : Spec × ℕ) bs. Found z × Known bs) p.rest (record { rules = f.rules; symbols = f.symbols; attrs = f.attrs; terms = All-append (KnownTyped W F I) y.0.terms p.value f.terms g; chains = f.chains }, k)
    one_item y x ts us there (items.chain p) f h =
        let (g, k) = chain.each ts p.value p.between p.first h in
        at_done (λ (z : Spec × ℕ) bs. Found z × Known bs) p.rest (record { rules = f.rules; symbols = f.symbols; attrs = f.attrs; terms = f.terms; chains = All-append (KnownTyped W F I) y.0.chains p.value f.chains g }, k)

    all_items : (y x : Spec × ℕ) (ts us : List Token) → AreThere (rule_names (length y.0.rules + 1) ts) → Repeats (IsFurtherItem (called_in texts) One) y ts x us → Found y → Known ts → Found x
    all_items y x ts us there items.end f h = f
    all_items y x ts vs there (items.next {more = m} {us = us} p q) f h =
        let split : AreThere (first_names (length y.0.rules + 1) ts ++ rule_names (length m.0.rules + 1) us) = subst AreThere (item_adds (called_in texts) words texts y m ts us p) there in
        let (g, k) = one_item y m ts us split p f h in
        all_items m x us vs (behind_these (first_names (length y.0.rules + 1) ts) (rule_names (length m.0.rules + 1) us) split) q g k

  -- what holds of the tokens holds of the specification
  all_of_spec : (tokens : List Token) (spec : Spec) → Known tokens → ((k : ℕ) → I (called_in texts k)) ⊎ HasAll (rule_names 1 tokens) texts → IsSpecOf texts tokens spec → KnownSpec W F I spec
  all_of_spec tokens spec known there p =
      let nothing : KnownSpec W F I no_items = record { rules = All-nil _; symbols = All-nil _; attrs = All-nil _; terms = All-nil _; chains = All-nil _ } in
      subst (KnownSpec W F I) (sym p.rest.same) (all_items (words_in texts) (no_items, 0) p.value tokens p.between there p.first nothing known)

-- all ids are known
pub all_known : (texts : List (List ℕ)) (tokens : List Token) (spec : Spec) → All (HasKnownId texts) tokens → HasAll (rule_names 1 tokens) texts → IsSpecOf texts tokens spec → HasKnownIds texts spec
all_known texts tokens spec known there p =
    all_of_spec texts (IsNameOf texts) (IsNameOf texts) (IsIdOf texts) (λ n k. k) (λ n k. k) (λ n function e. slice_get_within texts n.id.0 function e) (λ k h. among_known texts (rule_text k) h) tokens spec
    (every_of (HasKnownId texts) tokens known) (inr there) p

any_default : {X : Type 0} (xs : List X) (i : ℕ) (d e : X) → i < length xs → slice_index_or xs i d ≡ slice_index_or xs i e
any_default [] i d e less = absurd (omega (arith, less))
any_default (x ∷ xs) zero d e less = refl
any_default (x ∷ xs) (suc i) d e less = any_default xs i d e (omega (arith, less))

-- each token is among the tokens
token_there : (tokens : List Token) (t : Token) → Contains tokens t → KnownToken (IsWordOf tokens) (λ (function : Name). Unit {0}) (λ (text : StrId). Unit {0}) t
token_there tokens t among = by t.what refl
  where
    by : (what : TokenKind) → t.what ≡ what → KnownKind (IsWordOf tokens) (λ (function : Name). Unit {0}) (λ (text : StrId). Unit {0}) t.from what
    by (kind.Word id) e = (t, among, refl, e)
    by (kind.Key w) e = tt
    by (kind.Int i) e = tt
    by (kind.Str s) e = tt
    by (kind.Literal s) e = tt
    by (kind.Sign s) e = tt

-- all names but those of functions and rules are words
pub all_words : (texts : List (List ℕ)) (tokens : List Token) (spec : Spec) → IsSpecOf texts tokens spec → HasWordsOf tokens spec
all_words texts tokens spec p =
    all_of_spec texts (IsWordOf tokens) (λ (function : Name). Unit {0}) (λ (text : StrId). Unit {0}) (λ n k. tt) (λ n k. tt) (λ n function e. tt) (λ k h. tt) tokens spec
    (every_of _ tokens (λ i d less. token_there tokens (slice_index_or tokens i d) (i, less, any_default tokens i (slice_index_or tokens i d) d less))) (inl (λ k. tt)) p

-- tokens at one place are one token
one_token : (tokens : List Token) (t u : Token) → AllPairs IsEarlier tokens → Contains tokens t → Contains tokens u → t.from ≡ u.from → t ≡ u
one_token tokens t u earlier (i, less, is_t) (j, short, is_u) same = by (nat_lt i j) refl (nat_lt j i) refl
  where
    before : (a b : ℕ) (x y : Token) → a < b → b < length tokens → slice_index_or tokens a x ≡ x → slice_index_or tokens b y ≡ y → x.from < y.from
    before a b x y l w e f =
        let first : slice_index_or tokens a y ≡ x = any_default tokens a y x (omega (arith, l, w)) ∙ e in
        let ordered : (slice_index_or tokens a y).from < (slice_index_or tokens b y).from = earlier a b y l w in
        subst (λ z. z.from < y.from) first (subst (λ z. (slice_index_or tokens a y).from < z.from) f ordered)

    by : (b : Bool) → nat_lt i j ≡ b → (c : Bool) → nat_lt j i ≡ c → t ≡ u
    by true p c q = let l = before i j t u (ltb-true i j p) short is_t is_u in absurd (omega (arith, l, same))
    by false p true q = let l = before j i u t (ltb-true j i q) less is_u is_t in absurd (omega (arith, l, same))
    by false p false q =
        let low = ltb-false i j p in let high = ltb-false j i q in let equal : i ≡ j = omega (arith, low, high) in
        sym is_t ∙ any_default tokens i t u less ∙ ap (λ k. slice_index_or tokens k u) equal ∙ is_u

-- and the words there are one name
pub one_name : (tokens : List Token) (one other : Name) → AllPairs IsEarlier tokens → IsWordOf tokens one → IsWordOf tokens other → one.at ≡ other.at → one ≡ other
one_name tokens one other earlier (t, there, at, what) (u, here, place, kind_of) same =
    let token_same : t ≡ u = one_token tokens t u earlier there here (sym at ∙ same ∙ place) in
    let ids : kind.Word one.id ≡ kind.Word other.id = sym what ∙ ap (λ (z : Token). z.what) token_same ∙ kind_of in
    let id_same : one.id ≡ other.id = cc in
    λ k. record { at = same k; id = id_same k }
