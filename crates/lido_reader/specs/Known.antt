-- What stands in a specification: what holds of each of its names and texts, and which lists have an element at least.
use Rattle.std.specs.Prelude.{◌≡◌, ℕ, ◌<◌, true, List, length, Option, Some, None, All, Contains}
use Rattle.lido_base.specs.declared.ids.StrId.{StrId}
use Rattle.lido_lexer.specs.declared.token.Token.{Token}
use Rattle.lido_lexer.specs.declared.token.TokenKind.{TokenKind}
use Rattle.lido_lexer.specs.declared.token.TokenKind.TheVariants as kind
use Rattle.lido_syntax.specs.declared.spec.Name.{Name}
use Rattle.lido_syntax.specs.declared.spec.Place.{Place}
use Rattle.lido_syntax.specs.declared.spec.Place.TheVariants as place
use Rattle.lido_syntax.specs.declared.spec.Pair.{Pair}
use Rattle.lido_syntax.specs.declared.spec.With.{With}
use Rattle.lido_syntax.specs.declared.spec.Cons.{Cons}
use Rattle.lido_syntax.specs.declared.spec.Expr.{Expr, Str, Terminal, Read, Including, Constituents, Call'}
use Rattle.lido_syntax.specs.declared.spec.Target.{Target}
use Rattle.lido_syntax.specs.declared.spec.Target.TheVariants as target
use Rattle.lido_syntax.specs.declared.spec.Comp.{Comp}
use Rattle.lido_syntax.specs.declared.spec.Decl.{Decl}
use Rattle.lido_syntax.specs.declared.spec.Typed1.{Typed1}
use Rattle.lido_syntax.specs.declared.spec.Element.{Element}
use Rattle.lido_syntax.specs.declared.spec.Element.TheVariants as element
use Rattle.lido_syntax.specs.declared.spec.RuleItem.{RuleItem}
use Rattle.lido_syntax.specs.declared.spec.SymbolItem.{SymbolItem}
use Rattle.lido_syntax.specs.declared.spec.Spec.{Spec}
use Rattle.lido_syntax.specs.Parts.{parts, expressions_of}

-- one or more, and this holds of each
pub record OneOrMore {X : Type 0} (P : X → Type 0) (xs : List X) : Type 0 where
  pub some : 0 < length xs
  pub each : All P xs

-- This holds of the names that are words of the text, of the functions' names in calls, and of the ids of other texts and of rules.
module _ (Word Function : Name → Type 0) (Text : StrId → Type 0) where
  abbrev pub KnownKind : ℕ → TokenKind → Type 0
  KnownKind at (kind.Word id) = Word (record { at = at; id = id })
  KnownKind at (kind.Str id) = Text id
  KnownKind at (kind.Literal id) = Text id
  KnownKind at _ = Unit {0}

  abbrev pub KnownToken : Token → Type 0
  KnownToken t = KnownKind t.from t.what

  abbrev pub KnownPlace : Place → Type 0
  KnownPlace (place.Named n i) = Word n
  KnownPlace _ = Unit {0}

  pub record KnownPair (p : Pair) : Type 0 where
    pub symbol : Word p.sym
    pub attribute : Word p.attr

  pub record KnownFunctions (w : With) : Type 0 where
    pub comb : Word w.comb
    pub single : Word w.single
    pub null : Word w.null

  abbrev pub KnownWith : Option With → Type 0
  KnownWith None = Unit {0}
  KnownWith (Some w) = KnownFunctions w

  pub record KnownConstituents (k : Cons) : Type 0 where
    pub sources : OneOrMore KnownPair k.pairs
    pub shield : All Word k.shield
    pub with_functions : KnownWith k.with

  -- what a part of an expression has by itself
  abbrev pub KnownPart : Expr → Type 0
  KnownPart (Str at id) = Text id
  KnownPart (Terminal n i) = Word n
  KnownPart (Read at p a) = KnownPlace p × Word a
  KnownPart (Including at pairs) = OneOrMore KnownPair pairs
  KnownPart (Constituents k) = KnownConstituents k
  KnownPart (Call' f shape args) = Function f
  KnownPart _ = Unit {0}

  abbrev pub KnownExpr : Expr → Type 0
  KnownExpr e = All KnownPart (parts e)

  abbrev pub KnownTarget : Target → Type 0
  KnownTarget (target.Attr p a) = KnownPlace p × Word a
  KnownTarget (target.Start c) = Word c
  KnownTarget _ = Unit {0}

  pub record KnownComp (c : Comp) : Type 0 where
    pub goal : KnownTarget c.target
    pub expressions : All KnownExpr (expressions_of c)

  abbrev pub KnownDecl : Decl → Type 0
  KnownDecl d = Word d.attr

  abbrev pub KnownTyped : Typed1 → Type 0
  KnownTyped t = Word t.name

  abbrev pub KnownElement : Element → Type 0
  KnownElement (element.Symbol n) = Word n
  KnownElement (element.Literal id) = Text id

  pub record KnownRule (r : RuleItem) : Type 0 where
    pub called : Text r.name
    pub left : Word r.left
    pub right : All KnownElement r.right
    pub some : r.list ≡ true → 0 < length r.right
    pub body : All KnownComp r.body

  pub record KnownSymbol (s : SymbolItem) : Type 0 where
    pub about : OneOrMore Word s.names
    pub inherits : All Word s.inherits
    pub decls : All KnownDecl s.decls
    pub body : All KnownComp s.body

  pub record KnownSpec (spec : Spec) : Type 0 where
    pub rules : All KnownRule spec.rules
    pub symbols : All KnownSymbol spec.symbols
    pub attrs : All KnownDecl spec.attrs
    pub terms : All KnownTyped spec.terms
    pub chains : All KnownTyped spec.chains

-- the name is a word of the tokens, at its place
abbrev pub IsWordOf : List Token → Name → Type 0
IsWordOf tokens n = (t : Token) × Contains tokens t × (n.at ≡ t.from) × (t.what ≡ kind.Word n.id)

-- the id of a text of this table
abbrev pub IsIdOf : List (List ℕ) → StrId → Type 0
IsIdOf texts id = id.0 < length texts

abbrev pub IsNameOf : List (List ℕ) → Name → Type 0
IsNameOf texts n = IsIdOf texts n.id

-- All ids are those of the table.
abbrev pub HasKnownIds : List (List ℕ) → Spec → Type 0
HasKnownIds texts = KnownSpec (IsNameOf texts) (IsNameOf texts) (IsIdOf texts)

abbrev pub HasKnownId : List (List ℕ) → Token → Type 0
HasKnownId texts = KnownToken (IsNameOf texts) (IsNameOf texts) (IsIdOf texts)

-- All names but those of functions and rules are words of the tokens.
abbrev pub HasWordsOf : List Token → Spec → Type 0
HasWordsOf tokens = KnownSpec (IsWordOf tokens) (λ (function : Name). Unit {0}) (λ (text : StrId). Unit {0})
