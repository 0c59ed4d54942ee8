-- No phrase within an item has a RULE, so no name of a rule is added while one is read.
use Rattle.std.proofs.Common.{◌≡◌, ℕ, pos, ◌+◌, suc, Bool, false, List, [], ◌∷◌, ◌++◌, length, Option, Some, None, refl, ap, sym, ◌∙◌, subst, arith}
use Rattle.lido_base.specs.Reading.{Finds, nothing}
use Rattle.lido_base.specs.declared.ids.StrId.{StrId}
use Rattle.lido_lexer.specs.Seen.{Sees, token, Signs, Keys}
use Rattle.lido_lexer.specs.declared.keyword.Keyword.{Keyword}
use Rattle.lido_lexer.specs.declared.keyword.Keyword.TheVariants as key
use Rattle.lido_lexer.specs.declared.sign.Sign.{Sign}
use Rattle.lido_lexer.specs.declared.sign.Sign.TheVariants as sign
use Rattle.lido_lexer.specs.declared.token.Token.{Token}
use Rattle.lido_lexer.specs.declared.token.TokenKind.{TokenKind}
use Rattle.lido_lexer.specs.declared.token.TokenKind.TheVariants as kind
use Rattle.lido_syntax.specs.declared.spec.Name.{Name}
use Rattle.lido_syntax.specs.declared.spec.Comp.{Comp}
use Rattle.lido_syntax.specs.declared.spec.Expr.{Expr}
use Rattle.lido_syntax.specs.declared.spec.Place.{Place}
use Rattle.lido_syntax.specs.declared.spec.RuleItem.{RuleItem}
use Rattle.lido_syntax.specs.declared.spec.Spec.{Spec}
use Rattle.lido_computations.specs.declared.counts.Counts.{Counts}
use Rattle.lido_computations.specs.Phrases.{Done, Then, AreMore, end, comma, AreSeparated, IsName, word, type_of, IsType, type_word}
use Rattle.lido_computations.specs.Places.{Optional, absent, present, AreListed, single, several, IsInt, int, IsIndex, context, in_targets, in_reads, IsPlace, named, by_word, IsRead, IsPair, IsIncluding, IsShield, IsWith, AreConstituents}
use Rattle.lido_computations.specs.Expressions.{prefix_of, infix_of, constant_of, unary_level, IsExpr, operands, prefix, primary, AreOperands, no_operator, operator, IsPrimary, constant, ptg_null, parenthesized, read, including, constituents, terminal, call, choice, order, AreArguments, none, some, AreSome, first, AreFurther, last, further}
use Rattle.lido_computations.specs.Computations as grammar
use Rattle.lido_computations.specs.Computations.{IsDependency, AreMoreDependencies, AreSomeDependencies, AreDependencies, AreAfter, IsTarget, attribute, chain_start, IsComputation, assignment, output}
use Rattle.lido_computations.specs.Messages.{IsSeverity, severity_word, IsPlacing, IsMessageOf, IsRuleComputation, usual, message, conditional, IsComputationIn}
use Rattle.lido_computations.specs.declared.messages.MessageWords.{MessageWords}
use Rattle.lido_computations.specs.declared.owners.Owner.{Owner}
use Rattle.lido_computations.specs.declared.owners.Owner.TheVariants as owner
use Rattle.lido_reader.specs.Items as items
use Rattle.lido_reader.specs.Items.{Repeats, IsTerminalType, terminal_type, AreNames, IsSide, unsaid, synt, inh, IsDecl, AreDecls, IsAttr, IsTerm, IsChain, IsElement, literal, IsRight, production, listof, AreInherited, IsSymbolHead, class, plain, IsBody, IsAbout, declaring, computing, IsSymbol, IsRule, IsRuleName, IsFurtherItem}
use Rattle.lido_reader.specs.Added.{is_rule_kind, first_names, rule_names}
use Rattle.lido_reader.proofs.AddedLemmas.{other_names, names_of_rule, first_of_rule, first_of_other}

-- the tokens of the phrase add no name
pub record IsSilent {X : Type 0} (N : List Token → X → List Token → Type 0) : Type 0 where
  pub same : (ts : List Token) (x : X) (us : List Token) → N ts x us → (k : ℕ) → rule_names k ts ≡ rule_names k us

-- what is found of such a phrase adds none
pub found_silent : {X : Type 0} {N : List Token → X → List Token → Type 0} {c : Token → Bool} {ts us : List Token} {x : X} → IsSilent N → Finds N c ts x us → (k : ℕ) → rule_names k ts ≡ rule_names k us
found_silent {X} {N} {c} {ts} {us} {x} s f k = ap (rule_names k) f.parts ∙ s.same _ x us (f.phrase us) k

-- ---- how phrases are put together

pub done_silent : {X : Type 0} {x : X} → IsSilent (Done x)
done_silent = record { same = λ ts y us p k. ap (rule_names k) (sym p.behind) }

pub then_silent : {A X : Type 0} {F : List Token → A → List Token → Type 0} {R : A → List Token → X → List Token → Type 0} → IsSilent F → ((a : A) → IsSilent (R a)) → IsSilent (Then F R)
then_silent f r = record { same = λ ts x us p k. f.same ts p.value p.between p.first k ∙ (r p.value).same p.between x us p.rest k }

seen : (what : TokenKind) → is_rule_kind what ≡ false → (ts : List Token) (t : Token) (us : List Token) → Sees what ts t us → (k : ℕ) → rule_names k ts ≡ rule_names k us
seen what differs ts t us (token e) k = other_names k t us (ap is_rule_kind e ∙ differs)

pub sees_silent : (what : TokenKind) → is_rule_kind what ≡ false → IsSilent (Sees what)
sees_silent what differs = record { same = seen what differs }

pub sign_silent : (s : Sign) → IsSilent (Signs s)
sign_silent s = sees_silent (kind.Sign s) refl

module _ {X : Type 0} {N : List Token → X → List Token → Type 0} (one : IsSilent N) where
  more : (f : List X) (ts : List Token) (x : List X) (us : List Token) → AreMore N f ts x us → (k : ℕ) → rule_names k ts ≡ rule_names k us
  more f ts x us end k = refl
  more f ts x ws (comma {x = item} {us = us} {vs = vs} {t = t} c p q) k = seen (kind.Sign sign.Comma) refl ts t us c k ∙ one.same us item vs p k ∙ more (f ++ item ∷ []) vs x ws q k

  pub more_silent : (f : List X) → IsSilent (AreMore N f)
  more_silent f = record { same = more f }

  pub separated_silent : IsSilent (AreSeparated N)
  separated_silent = then_silent one (λ a. more_silent (a ∷ []))

  listed : (ts : List Token) (x : List X) (us : List Token) → AreListed N ts x us → (k : ℕ) → rule_names k ts ≡ rule_names k us
  listed ts x us (single {x = item} p) k = one.same ts item us p k
  listed ts x us (several p) k = (then_silent (sign_silent sign.ParenOpen) (λ a. then_silent separated_silent (λ b. then_silent (sign_silent sign.ParenClose) (λ c. done_silent)))).same ts x us p k

  pub listed_silent : IsSilent (AreListed N)
  listed_silent = record { same = listed }

  optional : (v : X) (ts : List Token) (x : X) (us : List Token) → Optional N v ts x us → (k : ℕ) → rule_names k ts ≡ rule_names k us
  optional v ts x us (absent e) k = refl
  optional v ts x us (present p) k = one.same ts x us p k

  pub optional_silent : (v : X) → IsSilent (Optional N v)
  optional_silent v = record { same = optional v }

module _ {Y : Type 0} {Step : Y → List Token → Y → List Token → Type 0} (step : (y : Y) → IsSilent (Step y)) where
  repeats : (f : Y) (ts : List Token) (x : Y) (us : List Token) → Repeats Step f ts x us → (k : ℕ) → rule_names k ts ≡ rule_names k us
  repeats f ts x us items.end k = refl
  repeats f ts x vs (items.next {more = m} {us = us} p q) k = (step f).same ts m us p k ∙ repeats m us x vs q k

  pub repeats_silent : (f : Y) → IsSilent (Repeats Step f)
  repeats_silent f = record { same = repeats f }

-- ---- phrases of one token

name : (ts : List Token) (x : Name) (us : List Token) → IsName ts x us → (k : ℕ) → rule_names k ts ≡ rule_names k us
name ts x us (word {t = t} e) k = other_names k t us (ap is_rule_kind e)

pub name_silent : IsSilent IsName
name_silent = record { same = name }

type_no_rule : (w : Keyword) (ty : _) → type_of w ≡ Some ty → is_rule_kind (kind.Key w) ≡ false
type_no_rule key.Rule ty e = cc
type_no_rule _ ty e = refl

type : (ts : List Token) (x : _) (us : List Token) → IsType ts x us → (k : ℕ) → rule_names k ts ≡ rule_names k us
type ts x us (type_word {t = t} {word = w} e is) k = other_names k t us (ap is_rule_kind e ∙ type_no_rule w x is)

pub type_silent : IsSilent IsType
type_silent = record { same = type }

integer : (ts : List Token) (x : _) (us : List Token) → IsInt ts x us → (k : ℕ) → rule_names k ts ≡ rule_names k us
integer ts x us (int {t = t} e) k = other_names k t us (ap is_rule_kind e)

-- ---- what an expression reads

pub index_silent : IsSilent IsIndex
index_silent = optional_silent (then_silent (sign_silent sign.BracketOpen) (λ a. then_silent (record { same = integer }) (λ b. then_silent (sign_silent sign.BracketClose) (λ c. done_silent)))) None

-- no place is the word RULE
abbrev IsOther : (Keyword → Option Place) → Type 0
IsOther words = words key.Rule ≡ None

word_no_rule : (words : Keyword → Option Place) → IsOther words → (w : Keyword) (p : Place) → words w ≡ Some p → is_rule_kind (kind.Key w) ≡ false
word_no_rule words other key.Rule p e = cc
word_no_rule words other _ p e = refl

place : (words : Keyword → Option Place) → IsOther words → (ts : List Token) (x : ℕ × Place) (us : List Token) → IsPlace words ts x us → (k : ℕ) → rule_names k ts ≡ rule_names k us
place words other ts x us (named p) k = (then_silent name_silent (λ a. then_silent index_silent (λ b. done_silent))).same ts x us p k
place words other ts x us (by_word (context {t = t} {w = w} {p = p} e is)) k = other_names k t us (ap is_rule_kind e ∙ word_no_rule words other w p is)

place_silent : (words : Keyword → Option Place) → IsOther words → IsSilent (IsPlace words)
place_silent words other = record { same = place words other }

read_silent : IsSilent IsRead
read_silent = then_silent (place_silent in_reads refl) (λ a. then_silent (sign_silent sign.Dot) (λ b. then_silent name_silent (λ c. done_silent)))

pair_silent : IsSilent IsPair
pair_silent = then_silent name_silent (λ a. then_silent (sign_silent sign.Dot) (λ b. then_silent name_silent (λ c. done_silent)))

including_silent : IsSilent IsIncluding
including_silent = then_silent (sees_silent (kind.Key key.Including) refl) (λ a. then_silent (listed_silent pair_silent) (λ b. done_silent))

shield_silent : IsSilent IsShield
shield_silent = optional_silent (then_silent (sees_silent (kind.Key key.Shield) refl) (λ a. listed_silent name_silent)) []

with_silent : IsSilent IsWith
with_silent = optional_silent (then_silent (sees_silent (kind.Key key.With) refl) (λ a. then_silent (sign_silent sign.ParenOpen) (λ a. then_silent type_silent (λ a. then_silent (sign_silent sign.Comma) (λ a. then_silent name_silent (λ a.
    then_silent (sign_silent sign.Comma) (λ a. then_silent name_silent (λ a. then_silent (sign_silent sign.Comma) (λ a. then_silent name_silent (λ a. then_silent (sign_silent sign.ParenClose) (λ a. done_silent))))))))))) None

constituents_silent : (n : ℕ) → IsSilent (AreConstituents n)
constituents_silent n = then_silent (sees_silent (kind.Key key.Constituents) refl) (λ a. then_silent (listed_silent pair_silent) (λ a. then_silent shield_silent (λ a. then_silent with_silent (λ a. done_silent))))

-- ---- expressions

prefix_no_rule : (what : TokenKind) (f : List ℕ) → prefix_of what ≡ Some f → is_rule_kind what ≡ false
prefix_no_rule (kind.Key key.Rule) f e = cc
prefix_no_rule (kind.Key _) f e = refl
prefix_no_rule _ f e = refl

infix_no_rule : (what : TokenKind) (f : ℕ × List ℕ) → infix_of what ≡ Some f → is_rule_kind what ≡ false
infix_no_rule (kind.Key key.Rule) f e = cc
infix_no_rule (kind.Key _) f e = refl
infix_no_rule _ f e = refl

constant_no_rule : (at : ℕ) (what : TokenKind) (e : Expr) → constant_of at what ≡ Some e → is_rule_kind what ≡ false
constant_no_rule at (kind.Key key.Rule) f e = cc
constant_no_rule at (kind.Key _) f e = refl
constant_no_rule at _ f e = refl

module _ (texts : List (List ℕ)) where
  mutual
    expr : (l : ℕ) (s : Counts) (ts : List Token) (e : Expr × Counts) (us : List Token) → IsExpr texts l s ts e us → (k : ℕ) → rule_names k ts ≡ rule_names k us
    expr l s ts e vs (operands {us = us} {l = left} less p q) k = expr (suc l) s ts left us p k ∙ some_operands l left us e vs q k
    expr l s ts e vs (prefix {r = r} {t = t} {us = us} {inner = inner} {function = f} is spends p called) k = other_names k t us (prefix_no_rule t.what f is) ∙ expr unary_level r us inner vs p k
    expr l s ts e us (primary p) k = operand s ts e us p k

    some_operands : (l : ℕ) (s : Expr × Counts) (ts : List Token) (e : Expr × Counts) (us : List Token) → AreOperands texts l s ts e us → (k : ℕ) → rule_names k ts ≡ rule_names k us
    some_operands l s ts e us no_operator k = refl
    some_operands l s ts e ws (operator {r = r} {t = t} {us = us} {vs = vs} {x = x} {whole = whole} {function = f} is spends p called q) k =
        other_names k t us (infix_no_rule t.what (l, f) is) ∙ expr (suc l) r us x vs p k ∙ some_operands l (whole, x.1) vs e ws q k

    operand : (s : Counts) (ts : List Token) (e : Expr × Counts) (us : List Token) → IsPrimary texts s ts e us → (k : ℕ) → rule_names k ts ≡ rule_names k us
    operand s ts e us (constant {t = t} {e = x} is) k = other_names k t us (constant_no_rule t.from t.what x is)
    operand s ts e us (ptg_null {t = t} is spends called) k = other_names k t us (ap is_rule_kind is)
    operand s ts e ws (parenthesized {r = r} {t = t} {closing = closing} {us = us} {vs = vs} is spends p c) k = other_names k t us (ap is_rule_kind is) ∙ expr 0 r us e vs p k ∙ seen (kind.Sign sign.ParenClose) refl vs closing ws c k
    operand s ts e us (read {e = x} p) k = read_silent.same ts x us p k
    operand s ts e us (including {e = x} p) k = including_silent.same ts x us p k
    operand s ts e us (constituents {k = cons} p) k = (constituents_silent s.number).same ts cons us p k
    operand s ts e vs (terminal {us = us} {n = n} {i = i} p q) k = name ts n us p k ∙ index_silent.same us i vs q k
    operand s ts e zs (call {r = r} {us = us} {vs = vs} {ws = ws} {n = n} {opening = opening} {closing = closing} {args = args} p o spends a c) k =
        name ts n us p k ∙ seen (kind.Sign sign.ParenOpen) refl us opening vs o k ∙ arguments r vs args ws a k ∙ seen (kind.Sign sign.ParenClose) refl ws closing zs c k
    operand s ts e hs (choice {r = r} {t = t} {opening = opening} {first = f} {second = g} {closing = closing} {us = us} {vs = vs} {ws = ws} {xs = xs} {ys = ys} {zs = zs} {gs = gs} {x = x} {y = y} {z = z} is spends o p c q d n b called) k =
        other_names k t us (ap is_rule_kind is) ∙ seen (kind.Sign sign.ParenOpen) refl us opening vs o k ∙ expr 0 r vs x ws p k ∙ seen (kind.Sign sign.Comma) refl ws f xs c k ∙ expr 0 x.1 xs y ys q k
        ∙ seen (kind.Sign sign.Comma) refl ys g zs d k ∙ expr 0 y.1 zs z gs n k ∙ seen (kind.Sign sign.ParenClose) refl gs closing hs b k
    operand s ts e zs (order {r = r} {t = t} {opening = opening} {closing = closing} {us = us} {vs = vs} {ws = ws} {args = args} is spends o a c called) k =
        other_names k t us (ap is_rule_kind is) ∙ seen (kind.Sign sign.ParenOpen) refl us opening vs o k ∙ some_exprs r vs args ws a k ∙ seen (kind.Sign sign.ParenClose) refl ws closing zs c k

    arguments : (s : Counts) (ts : List Token) (e : List Expr × Counts) (us : List Token) → AreArguments texts s ts e us → (k : ℕ) → rule_names k ts ≡ rule_names k us
    arguments s ts e us none k = refl
    arguments s ts e us (some p) k = some_exprs s ts e us p k

    some_exprs : (s : Counts) (ts : List Token) (e : List Expr × Counts) (us : List Token) → AreSome texts s ts e us → (k : ℕ) → rule_names k ts ≡ rule_names k us
    some_exprs s ts all vs (first {us = us} {e = e} p q) k = expr 0 s ts e us p k ∙ further_exprs (e.0 ∷ [], e.1) us all vs q k

    further_exprs : (f : List Expr × Counts) (ts : List Token) (e : List Expr × Counts) (us : List Token) → AreFurther texts f ts e us → (k : ℕ) → rule_names k ts ≡ rule_names k us
    further_exprs f ts e us last k = refl
    further_exprs f ts all ws (further {e = e} {us = us} {vs = vs} {t = t} c p q) k = seen (kind.Sign sign.Comma) refl ts t us c k ∙ expr 0 f.1 us e vs p k ∙ further_exprs (f.0 ++ e.0 ∷ [], e.1) vs all ws q k

  value_silent : (s : Counts) → IsSilent (IsExpr texts 0 s)
  value_silent s = record { same = expr 0 s }

-- ---- computations

dependency : (n : ℕ) (ts : List Token) (x : Expr × ℕ) (us : List Token) → IsDependency n ts x us → (k : ℕ) → rule_names k ts ≡ rule_names k us
dependency n ts x us (grammar.read {e = e} p) k = read_silent.same ts e us p k
dependency n ts x us (grammar.including {e = e} p) k = including_silent.same ts e us p k
dependency n ts x us (grammar.constituents {k = cons} p) k = (constituents_silent n).same ts cons us p k

dependency_silent : (n : ℕ) → IsSilent (IsDependency n)
dependency_silent n = record { same = dependency n }

more_dependencies : (f : List Expr × ℕ) (ts : List Token) (x : List Expr × ℕ) (us : List Token) → AreMoreDependencies f ts x us → (k : ℕ) → rule_names k ts ≡ rule_names k us
more_dependencies f ts x us grammar.last k = refl
more_dependencies f ts x ws (grammar.further {e = e} {us = us} {vs = vs} {t = t} c p q) k = seen (kind.Sign sign.Comma) refl ts t us c k ∙ dependency f.1 us e vs p k ∙ more_dependencies (f.0 ++ e.0 ∷ [], e.1) vs x ws q k

some_dependencies_silent : (n : ℕ) → IsSilent (AreSomeDependencies n)
some_dependencies_silent n = then_silent (dependency_silent n) (λ a. record { same = more_dependencies (a.0 ∷ [], a.1) })

dependencies : (n : ℕ) (ts : List Token) (x : List Expr × ℕ) (us : List Token) → AreDependencies n ts x us → (k : ℕ) → rule_names k ts ≡ rule_names k us
dependencies n ts x us (grammar.single {e = e} p) k = dependency n ts e us p k
dependencies n ts x us (grammar.several p) k = (then_silent (sign_silent sign.ParenOpen) (λ a. then_silent (some_dependencies_silent n) (λ b. then_silent (sign_silent sign.ParenClose) (λ c. done_silent)))).same ts x us p k

after_silent : (n : ℕ) → IsSilent (AreAfter n)
after_silent n = optional_silent (then_silent (sign_silent sign.Arrow) (λ a. record { same = dependencies n })) ([], n)

target : (ts : List Token) (x : _) (us : List Token) → IsTarget ts x us → (k : ℕ) → rule_names k ts ≡ rule_names k us
target ts x us (attribute p) k = (then_silent (place_silent in_targets refl) (λ a. then_silent (sign_silent sign.Dot) (λ b. then_silent name_silent (λ c. done_silent)))).same ts x us p k
target ts x us (chain_start p) k =
    (then_silent (sees_silent (kind.Key key.Chainstart) refl) (λ a. then_silent (sees_silent (kind.Key key.Head) refl) (λ b. then_silent (sign_silent sign.Dot) (λ c. then_silent name_silent (λ d. done_silent))))).same ts x us p k

computation : (texts : List (List ℕ)) (n : ℕ) (ts : List Token) (x : Comp × ℕ) (us : List Token) → IsComputation texts n ts x us → (k : ℕ) → rule_names k ts ≡ rule_names k us
computation texts n ts x us (assignment p) k =
    (then_silent (record { same = target }) (λ a. then_silent (sign_silent sign.Equal) (λ b. then_silent (value_silent texts _) (λ c. then_silent (after_silent _) (λ d. done_silent))))).same ts x us p k
computation texts n ts x us (output p) k =
    (then_silent (sees_silent (kind.Key key.PtgOut) refl) (λ a. then_silent (sign_silent sign.ParenOpen) (λ b. then_silent (value_silent texts _) (λ c. then_silent (sign_silent sign.ParenClose) (λ d. then_silent (after_silent _) (λ e. done_silent)))))).same ts x us p k

-- ---- messages

placing_silent : (words : MessageWords) → IsSilent (IsPlacing words)
placing_silent words = then_silent (sign_silent sign.Comma) (λ a. then_silent (sees_silent (kind.Int (pos 0)) refl) (λ b. then_silent (sign_silent sign.Comma) (λ c. then_silent (sees_silent (kind.Word words.coordref) refl) (λ d. sign_silent sign.ParenClose))))

severity : (words : MessageWords) (ts : List Token) (x : _) (us : List Token) → IsSeverity words ts x us → (k : ℕ) → rule_names k ts ≡ rule_names k us
severity words ts x us (severity_word {t = t} {id = id} e d) k = seen (kind.Word id) refl ts t us (token e) k

message_silent : (words : MessageWords) (texts : List (List ℕ)) (s : _) → IsSilent (IsMessageOf words texts s)
message_silent words texts s = then_silent (sign_silent sign.ParenOpen) (λ a. then_silent (record { same = severity words }) (λ b. then_silent (sign_silent sign.Comma) (λ c. then_silent (value_silent texts s) (λ d. then_silent (placing_silent words) (λ e. done_silent)))))

rule_computation : (words : MessageWords) (texts : List (List ℕ)) (n : ℕ) (ts : List Token) (x : Comp × ℕ) (us : List Token) → IsRuleComputation words texts n ts x us → (k : ℕ) → rule_names k ts ≡ rule_names k us
rule_computation words texts n ts x us (usual p) k = computation texts n ts x us p k
rule_computation words texts n ts x us (message p) k = (then_silent (sees_silent (kind.Word words.message) refl) (λ a. then_silent (message_silent words texts _) (λ b. then_silent (after_silent _) (λ c. done_silent)))).same ts x us p k
rule_computation words texts n ts x us (conditional p) k =
    (then_silent (sees_silent (kind.Key key.If) refl) (λ a. then_silent (sign_silent sign.ParenOpen) (λ b. then_silent (value_silent texts _) (λ c. then_silent (sign_silent sign.Comma) (λ d. then_silent (sees_silent (kind.Word words.message) refl) (λ e.
    then_silent (message_silent words texts _) (λ f. then_silent (sign_silent sign.ParenClose) (λ g. then_silent (after_silent _) (λ h. done_silent))))))))).same ts x us p k

computation_in : (words : MessageWords) (texts : List (List ℕ)) (o : Owner) (n : ℕ) → IsSilent (IsComputationIn words texts o n)
computation_in words texts owner.Rule n = record { same = rule_computation words texts n }
computation_in words texts owner.Symbol n = record { same = λ ts x us p. computation texts n ts x us p.usual }

-- ---- types and declarations

terminal_kind : (ts : List Token) (x : _) (us : List Token) → IsTerminalType ts x us → (k : ℕ) → rule_names k ts ≡ rule_names k us
terminal_kind ts x us (terminal_type p t) k = type ts x us p k

names_silent : IsSilent AreNames
names_silent = separated_silent name_silent

side : (ts : List Token) (x : _) (us : List Token) → IsSide ts x us → (k : ℕ) → rule_names k ts ≡ rule_names k us
side ts x us unsaid k = refl
side ts x us (synt {word = w} p) k = seen (kind.Key key.Synt) refl ts w us p k
side ts x us (inh {word = w} p) k = seen (kind.Key key.Inh) refl ts w us p k

decl_silent : IsSilent IsDecl
decl_silent = then_silent names_silent (λ a. then_silent (sign_silent sign.Colon) (λ b. then_silent type_silent (λ c. then_silent (record { same = side }) (λ d. done_silent))))

decls_silent : IsSilent AreDecls
decls_silent = then_silent decl_silent (λ a. repeats_silent (λ f. then_silent (sign_silent sign.Comma) (λ b. then_silent decl_silent (λ c. done_silent))) a)

attr_silent : IsSilent IsAttr
attr_silent = then_silent (sees_silent (kind.Key key.Attr) refl) (λ a. then_silent decls_silent (λ b. then_silent (sign_silent sign.Semicolon) (λ c. done_silent)))

term_silent : IsSilent IsTerm
term_silent = then_silent (sees_silent (kind.Key key.Term) refl) (λ a. then_silent names_silent (λ b. then_silent (sign_silent sign.Colon) (λ c. then_silent (record { same = terminal_kind }) (λ d. then_silent (sign_silent sign.Semicolon) (λ e. done_silent)))))

chain_silent : IsSilent IsChain
chain_silent = then_silent (sees_silent (kind.Key key.Chain) refl) (λ a. then_silent names_silent (λ b. then_silent (sign_silent sign.Colon) (λ c. then_silent type_silent (λ d. then_silent (sign_silent sign.Semicolon) (λ e. done_silent)))))

-- ---- right sides

element : (ts : List Token) (x : _) (us : List Token) → IsElement ts x us → (k : ℕ) → rule_names k ts ≡ rule_names k us
element ts x us (items.symbol {name = n} p) k = name ts n us p k
element ts x us (literal {quoted = t} {id = id} p) k = seen (kind.Literal id) refl ts t us p k

right : (ts : List Token) (x : _) (us : List Token) → IsRight ts x us → (k : ℕ) → rule_names k ts ≡ rule_names k us
right ts x us (production p) k = (then_silent (sign_silent sign.Produces) (λ a. then_silent (repeats_silent (λ f. then_silent (record { same = element }) (λ b. done_silent)) []) (λ c. done_silent))).same ts x us p k
right ts x us (listof p) k =
    (then_silent (sees_silent (kind.Key key.Listof) refl) (λ a. then_silent (then_silent name_silent (λ b. repeats_silent (λ f. then_silent (sign_silent sign.Bar) (λ c. then_silent name_silent (λ d. done_silent))) _)) (λ e. done_silent))).same ts x us p k

-- ---- bodies, rules, symbols

head : (ts : List Token) (x : _) (us : List Token) → IsSymbolHead ts x us → (k : ℕ) → rule_names k ts ≡ rule_names k us
head ts x us (class p) k = (then_silent (sees_silent (kind.Key key.Class) refl) (λ a. then_silent (sees_silent (kind.Key key.Symbol) refl) (λ b. done_silent))).same ts x us p k
head ts x us (plain p) k = (then_silent (sees_silent (kind.Key key.Symbol) refl) (λ a. done_silent)).same ts x us p k

inherited_silent : IsSilent AreInherited
inherited_silent = optional_silent (then_silent (sees_silent (kind.Key key.Inherits) refl) (λ a. names_silent)) []

module _ (called : ℕ → StrId) (words : MessageWords) (texts : List (List ℕ)) where
  abbrev One : Owner → ℕ → List Token → Comp × ℕ → List Token → Type 0
  One = IsComputationIn words texts

  body_silent : (o : Owner) (n : ℕ) → IsSilent (IsBody (One o) n)
  body_silent o n = then_silent (optional_silent (then_silent (sees_silent (kind.Key key.Compute) refl) (λ a. repeats_silent (λ f. then_silent (computation_in words texts o f.1) (λ b. then_silent (sign_silent sign.Semicolon) (λ c. done_silent))) ([], n))) ([], n))
      (λ a. then_silent (sees_silent (kind.Key key.End) refl) (λ b. then_silent (sign_silent sign.Semicolon) (λ c. done_silent)))

  about : (h : _) (a : Name) (n : ℕ) (ts : List Token) (x : _) (us : List Token) → IsAbout (One owner.Symbol) h a n ts x us → (k : ℕ) → rule_names k ts ≡ rule_names k us
  about h a n ts x us (declaring p) k = (then_silent (more_silent name_silent (a ∷ [])) (λ b. then_silent (sign_silent sign.Colon) (λ c. then_silent decls_silent (λ d. then_silent (sign_silent sign.Semicolon) (λ e. done_silent))))).same ts x us p k
  about h a n ts x us (computing p) k = (then_silent inherited_silent (λ b. then_silent (body_silent owner.Symbol n) (λ c. done_silent))).same ts x us p k

  symbol_silent : (n : ℕ) → IsSilent (IsSymbol (One owner.Symbol) n)
  symbol_silent n = then_silent (record { same = head }) (λ h. then_silent name_silent (λ a. record { same = about h a n }))

  -- a rule adds what it is called, and nothing behind that
  rule_adds : (i n : ℕ) (ts : List Token) (x : _) (us : List Token) → IsRule called One i n ts x us → (k : ℕ) → rule_names k ts ≡ first_names k ts ++ rule_names (k + 1) us
  rule_adds i n ts x us p k = begun ts p.between p.value p.first ∙ ap (λ z. first_names k ts ++ z) (rest.same p.between x us p.rest (k + 1))
    where
      begun : (ts us : List Token) (t : Token) → Keys key.Rule ts t us → rule_names k ts ≡ first_names k ts ++ rule_names (k + 1) us
      begun ts us t (token e) = names_of_rule k t us (ap is_rule_kind e) ∙ ap (λ z. z ++ rule_names (k + 1) us) (sym (first_of_rule k t us (ap is_rule_kind e)))

      rest : IsSilent {X = RuleItem × ℕ} (Then (IsRuleName called i p.value.from) (λ name. Then (Signs sign.Colon) (λ colon. Then IsName (λ left. Then IsRight (λ right. Then (IsBody (One owner.Rule) n) (λ all.
          Done (record { at = name.at; name = name.id; left = left; list = right.0; right = right.1; body = all.0 }, all.1)))))))
      rest = then_silent (optional_silent (then_silent name_silent (λ a. done_silent)) (record { at = p.value.from; id = called i })) (λ a. then_silent (sign_silent sign.Colon) (λ b. then_silent name_silent (λ c. then_silent (record { same = right }) (λ d. then_silent (body_silent owner.Rule n) (λ e. done_silent)))))

  -- an item that begins with another word adds nothing
  begun_by : (what : TokenKind) → is_rule_kind what ≡ false → (ts us vs : List Token) (t : Token) (k : ℕ) → Sees what ts t us → rule_names k ts ≡ rule_names k vs → rule_names k ts ≡ first_names k ts ++ rule_names k vs
  begun_by what differs ts us vs t k (token e) same = same ∙ ap (λ z. z ++ rule_names k vs) (sym (first_of_other k t us (ap is_rule_kind e ∙ differs)))

  symbol_begins : (ts us vs : List Token) (h : _) (k : ℕ) → IsSymbolHead ts h us → rule_names k ts ≡ rule_names k vs → rule_names k ts ≡ first_names k ts ++ rule_names k vs
  symbol_begins ts us vs h k (class p) same = begun_by (kind.Key key.Class) refl ts p.between vs p.value k p.first same
  symbol_begins ts us vs h k (plain p) same = begun_by (kind.Key key.Symbol) refl ts p.between vs p.value k p.first same

  -- the number of the next rule
  abbrev pub next_rule : Spec × ℕ → ℕ
  next_rule found = length found.0.rules + 1

  -- an item adds what its first token adds, and nothing behind that
  pub item_adds : (y x : Spec × ℕ) (ts us : List Token) → IsFurtherItem called One y ts x us → rule_names (next_rule y) ts ≡ first_names (next_rule y) ts ++ rule_names (next_rule x) us
  item_adds y x ts us (items.rule p) =
      let one_more : next_rule x ≡ next_rule y + 1 = ap (λ (z : Spec × ℕ). next_rule z) p.rest.same ∙ length_more y.0.rules p.value.0 in
      rule_adds (next_rule y) y.1 ts p.value p.between p.first (next_rule y) ∙ (λ j. first_names (next_rule y) ts ++ rule_names (sym one_more j) (sym p.rest.behind j))
    where
      length_more : {A : Type 0} (xs : List A) (x : A) → length (xs ++ x ∷ []) + 1 ≡ (length xs + 1) + 1
      length_more [] x = refl
      length_more (z ∷ xs) x = let one : length (xs ++ x ∷ []) + 1 ≡ (length xs + 1) + 1 = length_more xs x in omega arith
  item_adds y x ts us (items.symbol p) =
      let same : next_rule x ≡ next_rule y = ap (λ (z : Spec × ℕ). next_rule z) p.rest.same in
      symbol_begins ts p.first.between p.between p.first.value (next_rule y) p.first.first ((symbol_silent y.1).same ts p.value p.between p.first (next_rule y))
      ∙ (λ j. first_names (next_rule y) ts ++ rule_names (sym same j) (sym p.rest.behind j))
  item_adds y x ts us (items.attr p) =
      let same : next_rule x ≡ next_rule y = ap (λ (z : Spec × ℕ). next_rule z) p.rest.same in
      begun_by (kind.Key key.Attr) refl ts p.first.between p.between p.first.value (next_rule y) p.first.first (attr_silent.same ts p.value p.between p.first (next_rule y))
      ∙ (λ j. first_names (next_rule y) ts ++ rule_names (sym same j) (sym p.rest.behind j))
  item_adds y x ts us (items.term p) =
      let same : next_rule x ≡ next_rule y = ap (λ (z : Spec × ℕ). next_rule z) p.rest.same in
      begun_by (kind.Key key.Term) refl ts p.first.between p.between p.first.value (next_rule y) p.first.first (term_silent.same ts p.value p.between p.first (next_rule y))
      ∙ (λ j. first_names (next_rule y) ts ++ rule_names (sym same j) (sym p.rest.behind j))
  item_adds y x ts us (items.chain p) =
      let same : next_rule x ≡ next_rule y = ap (λ (z : Spec × ℕ). next_rule z) p.rest.same in
      begun_by (kind.Key key.Chain) refl ts p.first.between p.between p.first.value (next_rule y) p.first.first (chain_silent.same ts p.value p.between p.first (next_rule y))
      ∙ (λ j. first_names (next_rule y) ts ++ rule_names (sym same j) (sym p.rest.behind j))

  -- and so does an item that was found
  pub item_found : (y x : Spec × ℕ) (ts us : List Token) → Finds (IsFurtherItem called One y) nothing ts x us → rule_names (next_rule y) ts ≡ first_names (next_rule y) ts ++ rule_names (next_rule x) us
  item_found y x ts us f = subst (λ z. rule_names (next_rule y) z ≡ first_names (next_rule y) z ++ rule_names (next_rule x) us) (sym f.parts) (item_adds y x (f.taken ++ us) us (f.phrase us))
