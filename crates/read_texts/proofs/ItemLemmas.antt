-- What the items of a specification give, one behind the other: names of functions, declarations, terminals and chains.
use Rattle.std.proofs.Common.{◌≡◌, ℕ, ◌+◌, ◌<◌, ◌≤◌, List, [], ◌∷◌, ◌++◌, length, length-append, map, flat_map, refl, ap, sym, ◌∙◌, subst, arith}
use Rattle.std.proofs.lemmas.List.{map-append, flat_map_more}
use Rattle.lido_base.specs.declared.ids.StrId.{StrId}
use Rattle.lido_lexer.specs.Seen.{Sees, token}
use Rattle.lido_lexer.specs.declared.token.Token.{Token}
use Rattle.lido_lexer.specs.declared.token.TokenKind.{TokenKind}
use Rattle.lido_syntax.specs.declared.spec.Name.{Name}
use Rattle.lido_syntax.specs.declared.spec.Comp.{Comp}
use Rattle.lido_syntax.specs.declared.spec.Decl.{Decl}
use Rattle.lido_syntax.specs.declared.spec.Typed1.{Typed1}
use Rattle.lido_syntax.specs.declared.spec.RuleItem.{RuleItem}
use Rattle.lido_syntax.specs.declared.spec.SymbolItem.{SymbolItem}
use Rattle.lido_syntax.specs.declared.spec.Spec.{Spec}
use Rattle.lido_computations.specs.declared.messages.MessageWords.{MessageWords}
use Rattle.lido_computations.specs.declared.owners.Owner.{Owner}
use Rattle.lido_computations.specs.declared.owners.Owner.TheVariants as owner
use Rattle.lido_computations.specs.Phrases.{Done, Then, AreMore, IsName, word}
use Rattle.lido_computations.specs.Phrases as phrases
use Rattle.lido_computations.specs.Messages.{IsComputationIn}
use Rattle.lido_reader.specs.Items as items
use Rattle.lido_reader.specs.Items.{Repeats, AreNames, IsDecl, IsFurtherDecl, AreDecls, IsAttr, IsTerm, IsChain, IsBody, IsAbout, IsSymbol, IsRule, IsFurtherItem, no_items, called_in}
use Rattle.lido_reader.specs.Specification.{IsSpecOf, words_in}
use Rattle.lido_reader.proofs.PartsLemmas.{at_done}
use Rattle.lido_reader.proofs.NumbersLemmas.{Mark, Takes, marks_of, rule_marks, symbol_marks, InOrder}
use Rattle.lido_reader.proofs.NumbersLemmas as marks
use Rattle.read_texts.proofs.GivesLemmas.{Gives, nothing_left, gives, Covers, goes_on, ends, skips, short, covers, same, fewer, then_skips, skips_first, also, turned_round}
use Rattle.read_texts.proofs.FunctionLemmas.{at_name, functions_of, body}

abbrev pub at_decl : Decl → ℕ
at_decl d = d.attr.at

abbrev pub at_typed : Typed1 → ℕ
at_typed t = t.name.at

-- ---- names that are given something

module _ {M : Type 0} {place : M → ℕ} (of : Name → M) (there : (n : Name) → place (of n) ≡ n.at) where
  a_name : (ts us : List Token) (n : Name) → IsName ts n us → Gives place ts (of n ∷ []) us
  a_name ts us n (word e) = gives (there n) nothing_left

  more : (start ts us : List Token) (found all : List Name) → AreMore IsName found ts all us → Gives place start (map of found) ts → Gives place start (map of all) us
  more start ts us found all phrases.end h = h
  more start ts ws found all (phrases.comma {x = item} {us = us} {vs = vs} {t = t} c p q) h =
      more start vs ws (found ++ item ∷ []) all q (subst (λ z. Gives place start z vs) (sym (map-append of found (item ∷ []))) (goes_on h (goes_on (skips (marks.seen ts t us c 0)) (a_name us vs item p))))

  names : (ts us : List Token) (all : List Name) → AreNames ts all us → Gives place ts (map of all) us
  names ts us all p = more ts p.between us (p.value ∷ []) all p.rest (a_name ts p.between p.value p.first)

-- ---- declarations

one_decl : (ts us : List Token) (ds : List Decl) → IsDecl ts ds us → Gives at_decl ts ds us
one_decl ts us ds p =
    let colon = p.rest in
    let type = colon.rest in
    let side = type.rest in
    let of : Name → Decl = λ n. record { attr = n; ty = type.value; kind = side.value } in
    at_done (λ (z : List Decl) vs. Gives at_decl ts z vs) side.rest
    (ends (names {place = at_decl} of (λ n. refl) ts p.between p.value p.first) (goes_on (skips (marks.seen p.between colon.value colon.between colon.first 0))
    (goes_on (skips (marks.a_type colon.between type.value type.between type.first 0)) (skips (marks.a_side type.between side.value side.between side.first 0)))))

further_decls : (start ts us : List Token) (found all : List Decl) → Repeats IsFurtherDecl found ts all us → Gives at_decl start found ts → Gives at_decl start all us
further_decls start ts us found all items.end h = h
further_decls start ts vs found all (items.next {more = m} {us = us} p q) h =
    further_decls start us vs m all q (at_done (λ (z : List Decl) bs. Gives at_decl start z bs) p.rest.rest
    (goes_on h (goes_on (skips (marks.seen ts p.value p.between p.first 0)) (one_decl p.between p.rest.between p.rest.value p.rest.first))))

decls : (ts us : List Token) (all : List Decl) → AreDecls ts all us → Gives at_decl ts all us
decls ts us all p = further_decls ts p.between us p.value all p.rest (one_decl ts p.between p.value p.first)

attr : (ts us : List Token) (all : List Decl) → IsAttr ts all us → Gives at_decl ts all us
attr ts us all p =
    let whole = p.rest in
    let semicolon = whole.rest in
    at_done (λ (z : List Decl) vs. Gives at_decl ts z vs) semicolon.rest
    (goes_on (skips (marks.seen ts p.value p.between p.first 0)) (ends (decls p.between whole.between whole.value whole.first) (skips (marks.seen whole.between semicolon.value semicolon.between semicolon.first 0))))

-- ---- terminals and chains

term : (ts us : List Token) (all : List Typed1) → IsTerm ts all us → Gives at_typed ts all us
term ts us all p =
    let named = p.rest in
    let colon = named.rest in
    let type = colon.rest in
    let semicolon = type.rest in
    let of : Name → Typed1 = λ n. record { name = n; ty = type.value } in
    at_done (λ (z : List Typed1) vs. Gives at_typed ts z vs) semicolon.rest
    (goes_on (skips (marks.seen ts p.value p.between p.first 0)) (ends (names {place = at_typed} of (λ n. refl) p.between named.between named.value named.first) (goes_on (skips (marks.seen named.between colon.value colon.between colon.first 0))
    (goes_on (skips (marks.a_terminal_type colon.between type.value type.between type.first 0)) (skips (marks.seen type.between semicolon.value semicolon.between semicolon.first 0))))))

chain : (ts us : List Token) (all : List Typed1) → IsChain ts all us → Gives at_typed ts all us
chain ts us all p =
    let named = p.rest in
    let colon = named.rest in
    let type = colon.rest in
    let semicolon = type.rest in
    let of : Name → Typed1 = λ n. record { name = n; ty = type.value } in
    at_done (λ (z : List Typed1) vs. Gives at_typed ts z vs) semicolon.rest
    (goes_on (skips (marks.seen ts p.value p.between p.first 0)) (ends (names {place = at_typed} of (λ n. refl) p.between named.between named.value named.first) (goes_on (skips (marks.seen named.between colon.value colon.between colon.first 0))
    (goes_on (skips (marks.a_type colon.between type.value type.between type.first 0)) (skips (marks.seen type.between semicolon.value semicolon.between semicolon.first 0))))))

-- ---- what is told so far

abbrev pub rule_functions : List RuleItem → List Name
rule_functions rules = flat_map (λ (r : RuleItem). flat_map functions_of r.body) rules

abbrev pub symbol_functions : List SymbolItem → List Name
symbol_functions symbols = flat_map (λ (s : SymbolItem). flat_map functions_of s.body) symbols

abbrev pub symbol_decls : List SymbolItem → List Decl
symbol_decls symbols = flat_map (λ (s : SymbolItem). s.decls) symbols

-- what the tokens give up to these that are left
pub record Told (tokens : List Token) (spec : Spec) (ts : List Token) : Type 0 where
  pub functions : Covers at_name tokens (rule_functions spec.rules ++ symbol_functions spec.symbols) ts
  pub declared : Covers at_decl tokens (spec.attrs ++ symbol_decls spec.symbols) ts
  pub terms : Gives at_typed tokens spec.terms ts
  pub chains : Gives at_typed tokens spec.chains ts
  pub few_rules : length spec.rules + length ts ≤ length tokens
  pub few_marks : (length (rule_marks spec.rules) + length (symbol_marks spec.symbols)) + length ts ≤ length tokens

-- ---- rules and symbols

module _ (words : MessageWords) (texts : List (List ℕ)) where
  abbrev One : Owner → ℕ → List Token → Comp × ℕ → List Token → Type 0
  One = IsComputationIn words texts

  -- what an item gives
  record Item (n m : ℕ) (ts : List Token) (body : List Comp) (ds : List Decl) (us : List Token) : Type 0 where
    numbers : Takes n ts (flat_map marks_of body) m us
    functions : Covers at_name ts (flat_map functions_of body) us
    declared : Gives at_decl ts ds us

  -- numbers and places take a token each
  marks_short : {n m : ℕ} {ts us : List Token} {xs : List Mark} → Takes n ts xs m us → length xs + length us ≤ length ts
  marks_short marks.nothing_left = omega arith
  marks_short (marks.passes p) = omega (arith, marks_short p)
  marks_short (marks.takes p) = omega (arith, marks_short p)
  marks_short (marks.notes p) = omega (arith, marks_short p)

  one_token : {what : TokenKind} (ts us : List Token) (t : Token) → Sees what ts t us → length us < length ts
  one_token ts us t (token e) = omega arith

  -- behind tokens that take nothing, a body
  with_body : (o : Owner) (n : ℕ) (ts bs us : List Token) (all : List Comp × ℕ) → Takes n ts [] n bs → IsBody (One o) n bs all us → Item n all.1 ts all.0 [] us
  with_body o n ts bs us all front p =
      let numbers = marks.body words texts o n bs us all p in
      record {
        numbers = marks.goes_on front numbers;
        functions = skips_first (skips front) (body texts words o n bs us all p);
        declared = goes_on (skips front) (skips numbers);
      }

  behind_token : {what : TokenKind} {n m : ℕ} {body : List Comp} {ds : List Decl} (ts ms us : List Token) (t : Token) → Sees what ts t ms → Item n m ms body ds us → Item n m ts body ds us × (length us < length ts)
  behind_token {n = n} {ds = ds} ts ms us t seen item =
      let first = one_token ts ms t seen in
      let rest = short item.declared in (
        record { numbers = marks.goes_on (marks.seen ts t ms seen n) item.numbers; functions = skips_first (skips (marks.seen ts t ms seen n)) item.functions; declared = goes_on (skips (marks.seen ts t ms seen n)) item.declared },
        omega (arith, first, rest),
      )

  rule : (called : ℕ → StrId) (k n : ℕ) (ts us : List Token) (x : RuleItem × ℕ) → IsRule called One k n ts x us → Item n x.1 ts x.0.body [] us × (length us < length ts)
  rule called k n ts us x p =
      let named = p.rest in
      let colon = named.rest in
      let left = colon.rest in
      let right = left.rest in
      let all = right.rest in
      at_done (λ (z : RuleItem × ℕ) vs. Item n z.1 ts z.0.body [] vs × (length vs < length ts)) all.rest
      (behind_token ts p.between all.between p.value p.first (with_body owner.Rule n p.between right.between all.between all.value
      (marks.goes_on ((marks.rule_name_passed called k p.value.from).none p.between named.value named.between named.first n) (marks.goes_on (marks.seen named.between colon.value colon.between colon.first n)
      (marks.goes_on (marks.a_name colon.between left.value left.between left.first n) (marks.right_passed.none left.between right.value right.between right.first n)))) all.first))

  symbol : (n : ℕ) (ts us : List Token) (x : SymbolItem × ℕ) → IsSymbol (One owner.Symbol) n ts x us → Item n x.1 ts x.0.body x.0.decls us
  symbol n ts us x p =
      about p.value p.rest.value p.rest.between us x
      (marks.goes_on (marks.head_passed.none ts p.value p.between p.first n) (marks.a_name p.between p.rest.value p.rest.between p.rest.first n)) p.rest.rest
    where
      about : (head : _) (first : Name) (ms us : List Token) (x : SymbolItem × ℕ) → Takes n ts [] n ms → IsAbout (One owner.Symbol) head first n ms x us → Item n x.1 ts x.0.body x.0.decls us
      about head first ms us x front (items.declaring q) =
          let colon = q.rest in
          let all = colon.rest in
          let semicolon = all.rest in
          let names = marks.goes_on front (marks.goes_on ((marks.more_passed marks.name_passed (first ∷ [])).none ms q.value q.between q.first n) (marks.seen q.between colon.value colon.between colon.first n)) in
          let end = marks.seen all.between semicolon.value semicolon.between semicolon.first n in
          let numbers = marks.goes_on names (marks.goes_on (marks.decls_passed.none colon.between all.value all.between all.first n) end) in
          at_done (λ (z : SymbolItem × ℕ) vs. Item n z.1 ts z.0.body z.0.decls vs) semicolon.rest
          (record { numbers = numbers; functions = covers (skips numbers); declared = goes_on (skips names) (ends (decls colon.between all.between all.value all.first) (skips end)) })
      about head first ms us x front (items.computing q) =
          at_done (λ (z : SymbolItem × ℕ) vs. Item n z.1 ts z.0.body z.0.decls vs) q.rest.rest
          (with_body owner.Symbol n ts q.between q.rest.between q.rest.value (marks.goes_on front (marks.inherited_passed.none ms q.value q.between q.first n)) q.rest.first)

  -- ---- all items

  module _ (tokens : List Token) (called : ℕ → StrId) where
    one_item : (y x : Spec × ℕ) (ts us : List Token) → IsFurtherItem called One y ts x us → Told tokens y.0 ts → Told tokens x.0 us
    one_item y x ts us (items.rule p) h =
        let (item, taken) = rule called (length y.0.rules + 1) y.1 ts p.between p.value p.first in
        let more = marks_short item.numbers in
        let grown : rule_marks (y.0.rules ++ p.value.0 ∷ []) ≡ rule_marks y.0.rules ++ flat_map marks_of p.value.0.body = sym (flat_map_more (λ (r : RuleItem). flat_map marks_of r.body) [] y.0.rules p.value.0) in
        let count : length (rule_marks (y.0.rules ++ p.value.0 ∷ [])) ≡ length (rule_marks y.0.rules) + length (flat_map marks_of p.value.0.body) = ap length grown ∙ length-append (rule_marks y.0.rules) (flat_map marks_of p.value.0.body) in
        at_done (λ (z : Spec × ℕ) bs. Told tokens z.0 bs) p.rest (record {
          functions = same (ap (λ l. l ++ symbol_functions y.0.symbols) (flat_map_more (λ (r : RuleItem). flat_map functions_of r.body) [] y.0.rules p.value.0))
              (fewer (turned_round (rule_functions y.0.rules) (symbol_functions y.0.symbols) (flat_map functions_of p.value.0.body)) (also h.functions item.functions));
          declared = then_skips h.declared (skips item.numbers);
          terms = ends h.terms (skips item.numbers);
          chains = ends h.chains (skips item.numbers);
          few_rules = omega (arith, length-append y.0.rules (p.value.0 ∷ []), h.few_rules, taken);
          few_marks = omega (arith, count, more, h.few_marks);
        })
    one_item y x ts us (items.symbol p) h =
        let item = symbol y.1 ts p.between p.value p.first in
        let more = marks_short item.numbers in
        let grown : symbol_marks (y.0.symbols ++ p.value.0 ∷ []) ≡ symbol_marks y.0.symbols ++ flat_map marks_of p.value.0.body = sym (flat_map_more (λ (s : SymbolItem). flat_map marks_of s.body) [] y.0.symbols p.value.0) in
        let count : length (symbol_marks (y.0.symbols ++ p.value.0 ∷ [])) ≡ length (symbol_marks y.0.symbols) + length (flat_map marks_of p.value.0.body) = ap length grown ∙ length-append (symbol_marks y.0.symbols) (flat_map marks_of p.value.0.body) in
        at_done (λ (z : Spec × ℕ) bs. Told tokens z.0 bs) p.rest (record {
          functions = same (flat_map_more (λ (s : SymbolItem). flat_map functions_of s.body) (rule_functions y.0.rules) y.0.symbols p.value.0) (also h.functions item.functions);
          declared = same (flat_map_more (λ (s : SymbolItem). s.decls) y.0.attrs y.0.symbols p.value.0) (also h.declared (covers item.declared));
          terms = ends h.terms (skips item.numbers);
          chains = ends h.chains (skips item.numbers);
          few_rules = omega (arith, h.few_rules, more);
          few_marks = omega (arith, count, more, h.few_marks);
        })
    one_item y x ts us (items.attr p) h =
        let none = marks.attr_passed.none ts p.value p.between p.first 0 in
        let more = marks_short none in
        at_done (λ (z : Spec × ℕ) bs. Told tokens z.0 bs) p.rest (record {
          functions = then_skips h.functions (skips none);
          declared = fewer (turned_round y.0.attrs (symbol_decls y.0.symbols) p.value) (also h.declared (covers (attr ts p.between p.value p.first)));
          terms = ends h.terms (skips none);
          chains = ends h.chains (skips none);
          few_rules = omega (arith, h.few_rules, more);
          few_marks = omega (arith, h.few_marks, more);
        })
    one_item y x ts us (items.term p) h =
        let none = marks.term_passed.none ts p.value p.between p.first 0 in
        let more = marks_short none in
        at_done (λ (z : Spec × ℕ) bs. Told tokens z.0 bs) p.rest (record {
          functions = then_skips h.functions (skips none);
          declared = then_skips h.declared (skips none);
          terms = goes_on h.terms (term ts p.between p.value p.first);
          chains = ends h.chains (skips none);
          few_rules = omega (arith, h.few_rules, more);
          few_marks = omega (arith, h.few_marks, more);
        })
    one_item y x ts us (items.chain p) h =
        let none = marks.chain_passed.none ts p.value p.between p.first 0 in
        let more = marks_short none in
        at_done (λ (z : Spec × ℕ) bs. Told tokens z.0 bs) p.rest (record {
          functions = then_skips h.functions (skips none);
          declared = then_skips h.declared (skips none);
          terms = ends h.terms (skips none);
          chains = goes_on h.chains (chain ts p.between p.value p.first);
          few_rules = omega (arith, h.few_rules, more);
          few_marks = omega (arith, h.few_marks, more);
        })

    all_items : (y x : Spec × ℕ) (ts us : List Token) → Repeats (IsFurtherItem called One) y ts x us → Told tokens y.0 ts → Told tokens x.0 us
    all_items y x ts us items.end h = h
    all_items y x ts vs (items.next {more = m} {us = us} p q) h = all_items m x us vs q (one_item y m ts us p h)

-- what the tokens of a whole specification give
pub all_told : (texts : List (List ℕ)) (tokens : List Token) (spec : Spec) → IsSpecOf texts tokens spec → Told tokens spec []
all_told texts tokens spec p =
    let start : Told tokens no_items tokens = record { functions = covers nothing_left; declared = covers nothing_left; terms = nothing_left; chains = nothing_left; few_rules = omega arith; few_marks = omega arith } in
    let whole = all_items (words_in texts) texts tokens (called_in texts) (no_items, 0) p.value tokens p.between p.first start in
    at_done (λ (z : Spec) bs. Told tokens z bs) p.rest whole
