-- The tokens of the specification of sums are a specification, phrase by phrase, whatever stands behind them.
use Rattle.std.proofs.Common.{◌≡◌, ℕ, zero, suc, ◌+◌, ◌≤◌, List, take, drop, [], ◌∷◌, ◌++◌, Option, Some, slice_get, codes, refl, arith}
use Rattle.lido_base.specs.declared.ids.StrId.{StrId}
use Rattle.lido_base.specs.declared.value.ValueType.TheVariants as int
use Rattle.lido_lexer.specs.Seen.{Sees, token}
use Rattle.lido_lexer.specs.declared.keyword.Keyword.{Keyword}
use Rattle.lido_lexer.specs.declared.keyword.Keyword.TheVariants as key
use Rattle.lido_lexer.specs.declared.sign.Sign.TheVariants as sign
use Rattle.lido_lexer.specs.declared.token.Token.{Token}
use Rattle.lido_lexer.specs.declared.token.TokenKind.{TokenKind}
use Rattle.lido_syntax.specs.declared.spec.Name.{Name}
use Rattle.lido_syntax.specs.declared.spec.Comp.{Comp}
use Rattle.lido_syntax.specs.declared.spec.Element.{Element}
use Rattle.lido_syntax.specs.declared.spec.Element.TheVariants as element
use Rattle.lido_syntax.specs.declared.spec.Expr.{Expr}
use Rattle.lido_syntax.specs.declared.spec.Place.{Place}
use Rattle.lido_syntax.specs.declared.spec.Target.{Target}
use Rattle.lido_syntax.specs.declared.spec.Target.TheVariants as target
use Rattle.lido_syntax.specs.declared.spec.Spec.{Spec}
use Rattle.lido_computations.specs.declared.counts.Counts.{Counts}
use Rattle.lido_computations.specs.Phrases as phrases
use Rattle.lido_computations.specs.Phrases.{Done, Then, IsName}
use Rattle.lido_computations.specs.Places as places
use Rattle.lido_computations.specs.Places.{IsPlace, IsRead, in_reads, in_targets}
use Rattle.lido_computations.specs.Expressions as grammar
use Rattle.lido_computations.specs.Expressions.{IsExpr, IsPrimary, unary_level}
use Rattle.lido_computations.specs.Computations as computations
use Rattle.lido_computations.specs.Computations.{IsComputation, IsValue, IsTarget}
use Rattle.lido_computations.specs.Messages as messages
use Rattle.lido_computations.specs.Messages.{IsComputationIn}
use Rattle.lido_computations.specs.declared.messages.MessageWords.{MessageWords}
use Rattle.lido_computations.specs.declared.owners.Owner.{Owner}
use Rattle.lido_computations.specs.declared.owners.Owner.TheVariants as owner
use Rattle.lido_reader.specs.Items as items
use Rattle.lido_reader.specs.Items.{Repeats, AreNames, AreDecls, IsTerminalType, IsFurtherElement, IsBody, IsRule, IsFurtherItem, no_items, called_in}
use Rattle.lido_reader.specs.Specification.{IsSpecOf, words_in}
use Rattle.lido_reader.proofs.ExampleTree.{text, named, ADD, val, num, r_top, top, term, r_add, plus, r_num, mark, word, keyword, head, ending, bare_tokens, indexed_tokens, attr_tokens, term_tokens, out_tokens, addition_tokens, sum_tokens, number_tokens, top_tokens, add_tokens, num_tokens, spelled, bare_place, indexed_place, bare, indexed, out_comp, sum_comp, num_comp, rule_at, top_rule, add_rule, num_rule, attr_decls, with_attr, with_rules, spec}

-- ---- how phrases are put together

followed : {A X : Type 0} {First : List Token → A → List Token → Type 0} {Rest : A → List Token → X → List Token → Type 0}
    → {ts vs : List Token} {x : X} (a : A) (us : List Token) → First ts a us → Rest a us x vs → Then First Rest ts x vs
followed a us first rest = record { value = a; between = us; first = first; rest = rest }

done : {X : Type 0} {x : X} {ts : List Token} → Done x ts x ts
done = record { same = refl; behind = refl }

-- first a token that says this
past : {X : Type 0} {what : TokenKind} {Rest : Token → List Token → X → List Token → Type 0} {t : Token} {us vs : List Token} {x : X}
    → t.what ≡ what → Rest t us x vs → Then (Sees what) Rest (t ∷ us) x vs
past is rest = followed _ _ (token is) rest

-- first a name
past_name : {X : Type 0} {Rest : Name → List Token → X → List Token → Type 0} {from to id : ℕ} {us vs : List Token} {x : X}
    → Rest (named from id) us x vs → Then IsName Rest (word from to id ∷ us) x vs
past_name rest = followed _ _ (phrases.word refl) rest

-- ---- places and reads

bare_is_place : (words : Keyword → Option Place) (from : ℕ) (us : List Token)
    → IsPlace words (bare_tokens from ++ us) (from, bare_place from) (drop 1 (bare_tokens from) ++ us)
bare_is_place words from us = places.named (past_name (followed _ _ (places.absent refl) done))

indexed_is_place : (words : Keyword → Option Place) (from index : ℕ) (us : List Token)
    → IsPlace words (indexed_tokens from index ++ us) (from, indexed_place from index) (drop 4 (indexed_tokens from index) ++ us)
indexed_is_place words from index us =
    places.named (past_name (followed _ _ (places.present (past refl (followed _ _ (places.int refl) (past refl done)))) done))

bare_is_read : (from : ℕ) (us : List Token) → IsRead (bare_tokens from ++ us) (bare from) us
bare_is_read from us = followed _ _ (bare_is_place in_reads from us) (past refl (past_name done))

indexed_is_read : (from index : ℕ) (us : List Token) → IsRead (indexed_tokens from index ++ us) (indexed from index) us
indexed_is_read from index us = followed _ _ (indexed_is_place in_reads from index us) (past refl (past_name done))

bare_is_target : (from : ℕ) (us : List Token) → IsTarget (bare_tokens from ++ us) (from, target.Attr (bare_place from) (named (from + 5) val)) us
bare_is_target from us = computations.attribute (followed _ _ (bare_is_place in_targets from us) (past refl (past_name done)))

indexed_is_target : (from index : ℕ) (us : List Token)
    → IsTarget (indexed_tokens from index ++ us) (from, target.Attr (indexed_place from index) (named (from + 8) val)) us
indexed_is_target from index us = computations.attribute (followed _ _ (indexed_is_place in_targets from index us) (past refl (past_name done)))

-- ---- expressions and computations

-- what is left of the budget, and the number that comes next
abbrev left : ℕ → ℕ → Counts
left budget number = record { budget = budget; number = number }

module _ (texts : List (List ℕ)) where
  -- an expression of a level is one of the loosest
  loosest : (k : ℕ) (s : Counts) (ts us : List Token) (e : Expr × Counts) → k ≤ unary_level → IsExpr texts k s ts e us → IsExpr texts 0 s ts e us
  loosest zero s ts us e few p = p
  loosest (suc k) s ts us e few p = loosest k s ts us e (omega (arith, few)) (grammar.operands (omega (arith, few)) p grammar.no_operator)

  alone : (s : Counts) (ts us : List Token) (e : Expr × Counts) → IsPrimary texts s ts e us → IsExpr texts 0 s ts e us
  alone s ts us e p = loosest unary_level s ts us e (omega arith) (grammar.primary p)

  -- an operand of a sum
  addend : (s : Counts) (from index : ℕ) (us : List Token) → IsExpr texts 5 s (indexed_tokens from index ++ us) (indexed from index, s) us
  addend s from index us = grammar.operands (omega arith) (grammar.primary (grammar.read (indexed_is_read from index us))) grammar.no_operator

  -- a target, "=" and a value
  assigned : (n from to : ℕ) (x : ℕ × Target) (e : Expr × Counts) (ts us vs : List Token)
      → IsTarget ts x (mark from to sign.Equal ∷ us) → IsValue texts n us e vs
      → IsComputation texts n ts (record { at = x.0; number = n; target = x.1; value = e.0; after = [] }, e.1.number) vs
  assigned n from to x e ts us vs p q = computations.assignment (followed _ _ p (past refl (followed _ _ q (followed _ _ (places.absent refl) done))))

  out_is_value : (us : List Token) → IsValue texts 0 (drop 2 out_tokens ++ us) (out_comp.value, left 999 1) (mark 88 89 sign.ParenClose ∷ us)
  out_is_value us = alone _ _ _ _ (grammar.call (phrases.word refl) (token refl) refl
      (grammar.some (grammar.first (alone _ _ _ _ (grammar.read (bare_is_read 79 _))) grammar.last)) (token refl))

  out_is_computation : (us : List Token) → IsComputation texts 0 (out_tokens ++ us) (out_comp, 1) us
  out_is_computation us =
      computations.output (past refl (past refl (followed _ _ (out_is_value us) (past refl (followed _ _ (places.absent refl) done)))))

  sum_is_value : slice_get texts ADD ≡ Some (codes "ADD") → (us : List Token)
      → IsValue texts 1 (addition_tokens ++ us) (sum_comp.value, left 999 2) us
  sum_is_value add us = loosest 4 _ _ _ _ (omega arith)
      (grammar.operands (omega arith) (addend _ 154 2 _) (grammar.operator refl refl (addend _ 168 3 us) (text ADD, add, refl) grammar.no_operator))

  sum_is_computation : slice_get texts ADD ≡ Some (codes "ADD") → (us : List Token) → IsComputation texts 1 (sum_tokens ++ us) (sum_comp, 2) us
  sum_is_computation add us = assigned _ _ _ _ _ _ _ _ (indexed_is_target 140 1 _) (sum_is_value add us)

  num_is_value : (us : List Token) → IsValue texts 2 (word 231 234 num ∷ us) (num_comp.value, left 1000 3) us
  num_is_value us = alone _ _ _ _ (grammar.terminal (phrases.word refl) (places.absent refl))

  num_is_computation : (us : List Token) → IsComputation texts 2 (number_tokens ++ us) (num_comp, 3) us
  num_is_computation us = assigned _ _ _ _ _ _ _ _ (bare_is_target 220 _) (num_is_value us)

-- ---- items

-- COMPUTE, a computation, ";" and END ";"
is_body : (One : ℕ → List Token → Comp × ℕ → List Token → Type 0) (n from to behind : ℕ) (comp : Comp × ℕ) (ts us : List Token)
    → One n ts comp (ending behind ++ us) → IsBody One n (keyword from to key.Compute ∷ ts) (comp.0 ∷ [], comp.1) us
is_body One n from to behind comp ts us p =
    followed _ _ (places.present (past refl (items.next (followed _ _ p (past refl done)) items.end))) (past refl (past refl done))

one_name : (from to id : ℕ) (us : List Token) → AreNames (word from to id ∷ us) (named from id ∷ []) us
one_name from to id us = followed _ _ (phrases.word refl) phrases.end

-- one more symbol on a right side
symbol_is_next : (found : List Element) (from to id : ℕ) (us : List Token)
    → IsFurtherElement found (word from to id ∷ us) (found ++ element.Symbol (named from id) ∷ []) us
symbol_is_next found from to id us = followed _ _ (items.symbol (phrases.word refl)) done

-- a rule with a name of 4 letters, by its right side and its body
is_rule : (called : ℕ → StrId) (One : Owner → ℕ → List Token → Comp × ℕ → List Token → Type 0) (from name left letters k n : ℕ)
    → (right : List Element) (body : List Comp × ℕ) (ts us vs : List Token)
    → Repeats IsFurtherElement [] ts right us → IsBody (One owner.Rule) n us body vs
    → IsRule called One k n (head from name left letters ++ ts) (rule_at from name left right body.0, body.1) vs
is_rule called One from name left letters k n right body ts us vs elements p =
    let production = items.production (past refl (followed _ _ elements done)) in
    past refl (followed _ _ (places.present (past_name done)) (past refl (past_name (followed _ _ production (followed _ _ p done)))))

module _ (called : ℕ → StrId) (words : MessageWords) (texts : List (List ℕ)) where
  abbrev IsNext : Spec × ℕ → List Token → Spec × ℕ → List Token → Type 0
  IsNext = IsFurtherItem called (IsComputationIn words texts)

  attr_is_next : (us : List Token) → IsNext (no_items, 0) (attr_tokens ++ us) (with_attr, 0) us
  attr_is_next us = items.attr (followed _ _ (past refl (followed _ _ decls (past refl done))) done)
    where
      decls : AreDecls (drop 1 attr_tokens ++ us) attr_decls (drop 4 attr_tokens ++ us)
      decls =
          let type = phrases.type_word refl refl in
          followed _ _ (followed _ _ (one_name 5 8 val _) (past refl (followed _ _ type (followed _ _ items.unsaid done)))) items.end

  term_is_next : (us : List Token) → IsNext (with_attr, 0) (term_tokens ++ us) (with_rules [], 0) us
  term_is_next us = items.term (followed _ _ (past refl (followed _ _ (one_name 20 23 num _) (past refl (followed _ _ type (past refl done))))) done)
    where
      type : IsTerminalType (drop 3 term_tokens ++ us) int.Int (drop 4 term_tokens ++ us)
      type = items.terminal_type (phrases.type_word refl refl) refl

  top_is_next : (us : List Token) → IsNext (with_rules [], 0) (top_tokens ++ us) (with_rules (top_rule ∷ []), 1) us
  top_is_next us = items.rule (followed _ _ (is_rule called (IsComputationIn words texts) 30 r_top top 3 1 0 _ _ _ _ us right body) done)
    where
      right : Repeats IsFurtherElement [] (drop 5 top_tokens ++ us) top_rule.right (drop 6 top_tokens ++ us)
      right = items.next (symbol_is_next [] 49 53 term _) items.end

      body : IsBody (IsComputationIn words texts owner.Rule) 0 (drop 6 top_tokens ++ us) (out_comp ∷ [], 1) us
      body = is_body (IsComputationIn words texts owner.Rule) 0 54 61 89 (out_comp, 1) _ us (messages.usual (out_is_computation texts _))

  add_is_next : slice_get texts ADD ≡ Some (codes "ADD") → (us : List Token)
      → IsNext (with_rules (top_rule ∷ []), 1) (add_tokens ++ us) (with_rules (top_rule ∷ add_rule ∷ []), 2) us
  add_is_next add us = items.rule (followed _ _ (is_rule called (IsComputationIn words texts) 96 r_add term 4 2 1 _ _ _ _ us right body) done)
    where
      literal : IsFurtherElement (take 1 add_rule.right) (drop 6 add_tokens ++ us) (take 2 add_rule.right) (drop 7 add_tokens ++ us)
      literal = followed _ _ (items.literal {id = text plus} (token refl)) done

      right : Repeats IsFurtherElement [] (drop 5 add_tokens ++ us) add_rule.right (drop 8 add_tokens ++ us)
      right =
          items.next (symbol_is_next [] 116 120 term _) (items.next literal (items.next (symbol_is_next (take 2 add_rule.right) 125 129 term _) items.end))

      body : IsBody (IsComputationIn words texts owner.Rule) 1 (drop 8 add_tokens ++ us) (sum_comp ∷ [], 2) us
      body = is_body (IsComputationIn words texts owner.Rule) 1 130 137 179 (sum_comp, 2) _ us (messages.usual (sum_is_computation texts add _))

  num_is_next : (us : List Token) → IsNext (with_rules (top_rule ∷ add_rule ∷ []), 2) (num_tokens ++ us) (spec, 3) us
  num_is_next us = items.rule (followed _ _ (is_rule called (IsComputationIn words texts) 186 r_num term 4 3 2 _ _ _ _ us right body) done)
    where
      right : Repeats IsFurtherElement [] (drop 5 num_tokens ++ us) num_rule.right (drop 6 num_tokens ++ us)
      right = items.next (symbol_is_next [] 206 209 num _) items.end

      body : IsBody (IsComputationIn words texts owner.Rule) 2 (drop 6 num_tokens ++ us) (num_comp ∷ [], 3) us
      body = is_body (IsComputationIn words texts owner.Rule) 2 210 217 234 (num_comp, 3) _ us (messages.usual (num_is_computation texts _))

  -- all items, one behind the other
  are_items : slice_get texts ADD ≡ Some (codes "ADD") → Repeats IsNext (no_items, 0) spelled (spec, 3) []
  are_items add =
      items.next (attr_is_next _) (items.next (term_is_next _)
      (items.next (top_is_next _) (items.next (add_is_next add _) (items.next (num_is_next _) items.end))))

-- the tokens are the specification, where the text of ADD stands in its place
pub is_spec : (texts : List (List ℕ)) → slice_get texts ADD ≡ Some (codes "ADD") → IsSpecOf texts spelled spec
is_spec texts add = followed _ _ (are_items (called_in texts) (words_in texts) texts add) done
