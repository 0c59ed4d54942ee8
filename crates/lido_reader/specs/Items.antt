-- The grammar of a specification's items, of a profile of Eli's LIDO. Each phrase says which tokens it begins with, its value, and
-- the tokens that are left.
use Rattle.std.specs.Prelude.{ℕ, ◌+◌, Bool, true, false, IsTrue, ◌||◌, Option, Some, None, List, [], ◌∷◌, ◌++◌, length, map, codes}
use Rattle.std.specs.Fmt.{decimal}
use Rattle.std.specs.List.{position_or_len}
use Rattle.std.specs.Str.{bytes_eq}
use Rattle.lido_base.specs.declared.ids.StrId.{StrId}
use Rattle.lido_base.specs.declared.kinds.Kind.{Kind}
use Rattle.lido_base.specs.declared.kinds.Kind.TheVariants as side
use Rattle.lido_base.specs.declared.value.ValueType.{ValueType}
use Rattle.lido_base.specs.declared.value.ValueType.TheVariants as ty
use Rattle.lido_lexer.specs.Seen.{Sees, Signs, Keys}
use Rattle.lido_lexer.specs.declared.keyword.Keyword.{Keyword}
use Rattle.lido_lexer.specs.declared.keyword.Keyword.TheVariants as key
use Rattle.lido_lexer.specs.declared.sign.Sign.TheVariants as sign
use Rattle.lido_lexer.specs.declared.token.Token.{Token}
use Rattle.lido_lexer.specs.declared.token.TokenKind.{TokenKind}
use Rattle.lido_lexer.specs.declared.token.TokenKind.TheVariants as kind
use Rattle.lido_syntax.specs.declared.spec.Name.{Name}
use Rattle.lido_syntax.specs.declared.spec.Comp.{Comp}
use Rattle.lido_syntax.specs.declared.spec.Decl.{Decl}
use Rattle.lido_syntax.specs.declared.spec.Typed1.{Typed1}
use Rattle.lido_syntax.specs.declared.spec.Element.{Element}
use Rattle.lido_syntax.specs.declared.spec.Element.TheVariants as element
use Rattle.lido_syntax.specs.declared.spec.RuleItem.{RuleItem}
use Rattle.lido_syntax.specs.declared.spec.SymbolItem.{SymbolItem}
use Rattle.lido_syntax.specs.declared.spec.Spec.{Spec}
use Rattle.lido_computations.specs.declared.owners.Owner.{Owner}
use Rattle.lido_computations.specs.declared.owners.Owner.TheVariants as owner
use Rattle.lido_computations.specs.Places.{Optional}
use Rattle.lido_computations.specs.Phrases.{Done, Then, IsName, IsType, AreMore, AreSeparated, is_comma_kind}

-- ---- steps one behind the other

-- As many steps as there are. Each takes what was found before it, and gives what is found with it.
module _ {Y : Type 0} (Step : Y → List Token → Y → List Token → Type 0) where
  pub data Repeats : Y → List Token → Y → List Token → Type 0 where
    end : {found : Y} {ts : List Token} → Repeats found ts found ts
    next : {found more all : Y} {ts us vs : List Token} → Step found ts more us → Repeats more us all vs → Repeats found ts all vs

-- ---- types and declarations

-- the types that a terminal may have
abbrev pub is_terminal_type : ValueType → Bool
is_terminal_type ty.Int = true
is_terminal_type ty.Str = true
is_terminal_type _ = false

-- "int" | "string"
pub data IsTerminalType : List Token → ValueType → List Token → Type 0 where
  terminal_type : {ts us : List Token} {type : ValueType} → IsType ts type us → IsTrue (is_terminal_type type) → IsTerminalType ts type us

-- name {"," name}
abbrev pub AreNames : List Token → List Name → List Token → Type 0
AreNames = AreSeparated IsName

-- ["SYNT" | "INH"]
pub data IsSide : List Token → Option Kind → List Token → Type 0 where
  unsaid : {ts : List Token} → IsSide ts None ts
  synt : {ts us : List Token} {word : Token} → Keys key.Synt ts word us → IsSide ts (Some side.Synthesized) us
  inh : {ts us : List Token} {word : Token} → Keys key.Inh ts word us → IsSide ts (Some side.Inherited) us

-- each of the names with this type and kind
abbrev pub declared : List Name → ValueType → Option Kind → List Decl
declared names type k = map (λ (name : Name). record { attr = name; ty = type; kind = k }) names

-- each of the names with this type
abbrev pub typed : List Name → ValueType → List Typed1
typed names type = map (λ (name : Name). record { name = name; ty = type }) names

-- name {"," name} ":" type ["SYNT" | "INH"]
abbrev pub IsDecl : List Token → List Decl → List Token → Type 0
IsDecl = Then AreNames (λ names. Then (Signs sign.Colon) (λ colon. Then IsType (λ type. Then IsSide (λ k. Done (declared names type k)))))

-- "," decl
abbrev pub IsFurtherDecl : List Decl → List Token → List Decl → List Token → Type 0
IsFurtherDecl found = Then (Signs sign.Comma) (λ comma. Then IsDecl (λ more. Done (found ++ more)))

-- decl {"," decl}
abbrev pub AreDecls : List Token → List Decl → List Token → Type 0
AreDecls = Then IsDecl (Repeats IsFurtherDecl)

-- "ATTR" decls ";"
abbrev pub IsAttr : List Token → List Decl → List Token → Type 0
IsAttr = Then (Keys key.Attr) (λ word. Then AreDecls (λ all. Then (Signs sign.Semicolon) (λ semicolon. Done all)))

-- "TERM" name {"," name} ":" type ";", and the type is int or string
abbrev pub IsTerm : List Token → List Typed1 → List Token → Type 0
IsTerm = Then (Keys key.Term) (λ word. Then AreNames (λ names. Then (Signs sign.Colon) (λ colon. Then IsTerminalType (λ type. Then (Signs sign.Semicolon) (λ semicolon. Done (typed names type))))))

-- "CHAIN" name {"," name} ":" type ";"
abbrev pub IsChain : List Token → List Typed1 → List Token → Type 0
IsChain = Then (Keys key.Chain) (λ word. Then AreNames (λ names. Then (Signs sign.Colon) (λ colon. Then IsType (λ type. Then (Signs sign.Semicolon) (λ semicolon. Done (typed names type))))))

-- what may continue a declaration, and a list of them
abbrev pub is_side_kind : TokenKind → Bool
is_side_kind (kind.Key key.Synt) = true
is_side_kind (kind.Key key.Inh) = true
is_side_kind _ = false

abbrev pub is_side : Token → Bool
is_side t = is_side_kind t.what

abbrev pub continues_decls : Token → Bool
continues_decls t = is_side_kind t.what || is_comma_kind t.what

-- ---- right sides

-- name | literal
pub data IsElement : List Token → Element → List Token → Type 0 where
  symbol : {ts us : List Token} {name : Name} → IsName ts name us → IsElement ts (element.Symbol name) us
  literal : {ts us : List Token} {quoted : Token} {id : StrId} → Sees (kind.Literal id) ts quoted us → IsElement ts (element.Literal id) us

-- one more element
abbrev pub IsFurtherElement : List Element → List Token → List Element → List Token → Type 0
IsFurtherElement found = Then IsElement (λ e. Done (found ++ e ∷ []))

-- "|" name
abbrev pub IsFurtherListed : List Element → List Token → List Element → List Token → Type 0
IsFurtherListed found = Then (Signs sign.Bar) (λ bar. Then IsName (λ name. Done (found ++ element.Symbol name ∷ [])))

-- name {"|" name}
abbrev pub AreChoices : List Token → List Element → List Token → Type 0
AreChoices = Then IsName (λ name. Repeats IsFurtherListed (element.Symbol name ∷ []))

-- "::=" {element} | "LISTOF" name {"|" name}: whether it is a list, and its elements
pub data IsRight : List Token → Bool × List Element → List Token → Type 0 where
  production : {x : Bool × List Element} {ts us : List Token} → Then (Signs sign.Produces) (λ produces. Then (Repeats IsFurtherElement []) (λ all. Done (false, all))) ts x us → IsRight ts x us
  listof : {x : Bool × List Element} {ts us : List Token} → Then (Keys key.Listof) (λ word. Then AreChoices (λ all. Done (true, all))) ts x us → IsRight ts x us

-- what may continue elements, and a right side
abbrev pub is_element_kind : TokenKind → Bool
is_element_kind (kind.Word id) = true
is_element_kind (kind.Literal id) = true
is_element_kind _ = false

abbrev pub is_element : Token → Bool
is_element t = is_element_kind t.what

abbrev pub is_bar_kind : TokenKind → Bool
is_bar_kind (kind.Sign sign.Bar) = true
is_bar_kind _ = false

abbrev pub is_bar : Token → Bool
is_bar t = is_bar_kind t.what

abbrev pub continues_right : Token → Bool
continues_right t = is_element_kind t.what || is_bar_kind t.what

-- ---- bodies, rules, symbols

-- the text that the rule of this number is called by where it has no name
abbrev pub rule_text : ℕ → List ℕ
rule_text k = codes "rule_" ++ decimal k

-- the id of a text: its place among the texts, or the one behind them where it isn't there
abbrev pub id_in : List (List ℕ) → List ℕ → StrId
id_in texts text = record { 0 = position_or_len (bytes_eq text) texts }

-- and the id of what that rule is called
abbrev pub called_in : List (List ℕ) → ℕ → StrId
called_in texts k = id_in texts (rule_text k)

-- what may continue a rule's name that is left out
abbrev pub is_word_kind : TokenKind → Bool
is_word_kind (kind.Word id) = true
is_word_kind _ = false

abbrev pub is_word : Token → Bool
is_word t = is_word_kind t.what

-- ["INHERITS" name {"," name}]
abbrev pub AreInherited : List Token → List Name → List Token → Type 0
AreInherited = Optional (Then (Keys key.Inherits) (λ word. AreNames)) []

abbrev pub is_inherits_kind : TokenKind → Bool
is_inherits_kind (kind.Key key.Inherits) = true
is_inherits_kind _ = false

-- what may continue the list of classes
abbrev pub continues_inherited : Token → Bool
continues_inherited t = is_inherits_kind t.what || is_comma_kind t.what

-- what begins the declarations of a symbol
abbrev pub is_declaring_kind : TokenKind → Bool
is_declaring_kind (kind.Sign sign.Comma) = true
is_declaring_kind (kind.Sign sign.Colon) = true
is_declaring_kind _ = false

abbrev pub is_declaring : Token → Bool
is_declaring t = is_declaring_kind t.what

-- ["CLASS"] "SYMBOL": where it begins, and whether it is a class
pub data IsSymbolHead : List Token → ℕ × Bool → List Token → Type 0 where
  class : {x : ℕ × Bool} {ts us : List Token} → Then (Keys key.Class) (λ word. Then (Keys key.Symbol) (λ symbol. Done (word.from, true))) ts x us → IsSymbolHead ts x us
  plain : {x : ℕ × Bool} {ts us : List Token} → Then (Keys key.Symbol) (λ symbol. Done (symbol.from, false)) ts x us → IsSymbolHead ts x us

-- [name], where `called` is what the rule of a number is called that has none; it stands at this place then
abbrev pub IsRuleName : (ℕ → StrId) → ℕ → ℕ → List Token → Name → List Token → Type 0
IsRuleName called k at = Optional (Then IsName (λ name. Done name)) (record { at = at; id = called k })

-- {"," name} ":" decls ";", behind the first name
abbrev pub IsDeclaring : ℕ × Bool → Name → ℕ → List Token → SymbolItem × ℕ → List Token → Type 0
IsDeclaring head first n = Then (AreMore IsName (first ∷ [])) (λ names. Then (Signs sign.Colon) (λ colon. Then AreDecls (λ all. Then (Signs sign.Semicolon) (λ semicolon.
    Done (record { at = head.0; class = head.1; names = names; inherits = []; decls = all; body = [] }, n)))))

abbrev pub is_not_end_kind : TokenKind → Bool
is_not_end_kind (kind.Key key.End) = false
is_not_end_kind _ = true

-- what may continue computations: all but END
abbrev pub is_not_end : Token → Bool
is_not_end t = is_not_end_kind t.what

-- Computations are numbered through all items: a phrase is begun at the number of the next one, and its value has the number behind it.
module _ (One : ℕ → List Token → Comp × ℕ → List Token → Type 0) where
  -- comp ";"
  abbrev pub IsFurtherComputation : List Comp × ℕ → List Token → List Comp × ℕ → List Token → Type 0
  IsFurtherComputation found = Then (One found.1) (λ comp. Then (Signs sign.Semicolon) (λ semicolon. Done (found.0 ++ comp.0 ∷ [], comp.1)))

  -- ["COMPUTE" {comp ";"}]
  abbrev pub AreComputations : ℕ → List Token → List Comp × ℕ → List Token → Type 0
  AreComputations n = Optional (Then (Keys key.Compute) (λ word. Repeats IsFurtherComputation ([], n))) ([], n)

  -- ["COMPUTE" {comp ";"}] "END" ";"
  abbrev pub IsBody : ℕ → List Token → List Comp × ℕ → List Token → Type 0
  IsBody n = Then (AreComputations n) (λ all. Then (Keys key.End) (λ word. Then (Signs sign.Semicolon) (λ semicolon. Done all)))

  -- ["INHERITS" name {"," name}] body, behind the only name
  abbrev pub IsComputing : ℕ × Bool → Name → ℕ → List Token → SymbolItem × ℕ → List Token → Type 0
  IsComputing head first n = Then AreInherited (λ inherited. Then (IsBody n) (λ all. Done (record { at = head.0; class = head.1; names = first ∷ []; inherits = inherited; decls = []; body = all.0 }, all.1)))

  -- what stands behind the first name of a symbol's item
  pub data IsAbout (head : ℕ × Bool) (first : Name) (n : ℕ) : List Token → SymbolItem × ℕ → List Token → Type 0 where
    declaring : {x : SymbolItem × ℕ} {ts us : List Token} → IsDeclaring head first n ts x us → IsAbout head first n ts x us
    computing : {x : SymbolItem × ℕ} {ts us : List Token} → IsComputing head first n ts x us → IsAbout head first n ts x us

  -- ["CLASS"] "SYMBOL" name, and what stands behind it
  abbrev pub IsSymbol : ℕ → List Token → SymbolItem × ℕ → List Token → Type 0
  IsSymbol n = Then IsSymbolHead (λ head. Then IsName (λ first. IsAbout head first n))

-- the words that begin items
abbrev pub is_item_word : Keyword → Bool
is_item_word key.Rule = true
is_item_word key.Class = true
is_item_word key.Symbol = true
is_item_word key.Attr = true
is_item_word key.Term = true
is_item_word key.Chain = true
is_item_word _ = false

abbrev pub begins_item_kind : TokenKind → Bool
begins_item_kind (kind.Key word) = is_item_word word
begins_item_kind _ = false

abbrev pub begins_item : Token → Bool
begins_item t = begins_item_kind t.what

abbrev pub no_items : Spec
no_items = record { rules = []; symbols = []; attrs = []; terms = []; chains = [] }

-- ---- the whole

-- Items behind those that are found, which have the number of the next computation with them: declarations of attributes,
abbrev pub IsAttrItem : Spec × ℕ → List Token → Spec × ℕ → List Token → Type 0
IsAttrItem found = Then IsAttr (λ all. Done (record found.0 { attrs = found.0.attrs ++ all }, found.1))

-- of terminals,
abbrev pub IsTermItem : Spec × ℕ → List Token → Spec × ℕ → List Token → Type 0
IsTermItem found = Then IsTerm (λ all. Done (record found.0 { terms = found.0.terms ++ all }, found.1))

-- and of chains
abbrev pub IsChainItem : Spec × ℕ → List Token → Spec × ℕ → List Token → Type 0
IsChainItem found = Then IsChain (λ all. Done (record found.0 { chains = found.0.chains ++ all }, found.1))

-- `called` is what a rule without a name is called, by its number among the rules, from 1; `One` says which computations may stand in
-- the body of a rule, and which in that of a symbol.
module _ (called : ℕ → StrId) (One : Owner → ℕ → List Token → Comp × ℕ → List Token → Type 0) where
  -- "RULE" [name] ":" name ( "::=" {element} | "LISTOF" name {"|" name} ) body
  abbrev pub IsRule : ℕ → ℕ → List Token → RuleItem × ℕ → List Token → Type 0
  IsRule k n = Then (Keys key.Rule) (λ word. Then (IsRuleName called k word.from) (λ name. Then (Signs sign.Colon) (λ colon. Then IsName (λ left. Then IsRight (λ right. Then (IsBody (One owner.Rule) n) (λ all.
      Done (record { at = name.at; name = name.id; left = left; list = right.0; right = right.1; body = all.0 }, all.1)))))))

  -- Items behind those that are found: a rule,
  abbrev pub IsRuleItem : Spec × ℕ → List Token → Spec × ℕ → List Token → Type 0
  IsRuleItem found = Then (IsRule (length found.0.rules + 1) found.1) (λ item. Done (record found.0 { rules = found.0.rules ++ item.0 ∷ [] }, item.1))

  -- and a symbol's item
  abbrev pub IsSymbolItem : Spec × ℕ → List Token → Spec × ℕ → List Token → Type 0
  IsSymbolItem found = Then (IsSymbol (One owner.Symbol) found.1) (λ item. Done (record found.0 { symbols = found.0.symbols ++ item.0 ∷ [] }, item.1))

  -- one more item
  pub data IsFurtherItem (found : Spec × ℕ) : List Token → Spec × ℕ → List Token → Type 0 where
    rule : {x : Spec × ℕ} {ts us : List Token} → IsRuleItem found ts x us → IsFurtherItem found ts x us
    symbol : {x : Spec × ℕ} {ts us : List Token} → IsSymbolItem found ts x us → IsFurtherItem found ts x us
    attr : {x : Spec × ℕ} {ts us : List Token} → IsAttrItem found ts x us → IsFurtherItem found ts x us
    term : {x : Spec × ℕ} {ts us : List Token} → IsTermItem found ts x us → IsFurtherItem found ts x us
    chain : {x : Spec × ℕ} {ts us : List Token} → IsChainItem found ts x us → IsFurtherItem found ts x us

  -- { rule | symbol | attr | term | chain }
  abbrev pub IsSpec : List Token → Spec → List Token → Type 0
  IsSpec = Then (Repeats IsFurtherItem (no_items, 0)) (λ found. Done found.0)
