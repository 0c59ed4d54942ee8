-- The flat grammar of a specification: all its parts, each by what it is.
use Rattle.std.specs.Prelude.{◌≡◌, nat_eq, ℕ, suc, ◌+◌, ◌↔◌, ◌⊎◌, Bool, true, false, List, [], ◌∷◌, ◌++◌, map, length, Option, Some, None, slice_get, codes, decimal, AllPairs, Contains}
use Rattle.std.specs.List.{AllZip}
use Rattle.lido_base.specs.declared.ids.SymId.{SymId}
use Rattle.lido_base.specs.declared.kinds.Kind.{Kind}
use Rattle.lido_base.specs.declared.kinds.Kind.TheVariants as kind
use Rattle.lido_base.specs.declared.value.ValueType.{ValueType}
use Rattle.lido_base.specs.declared.value.ValueType.TheVariants as type
use Rattle.lido_syntax.specs.declared.spec.Spec.{Spec}
use Rattle.lido_syntax.specs.declared.spec.Pair.{Pair}
use Rattle.lido_syntax.specs.declared.spec.Cons.{Cons}
use Rattle.lido_syntax.specs.declared.spec.Typed1.{Typed1}
use Rattle.lido_syntax.specs.declared.spec.RuleItem.{RuleItem}
use Rattle.lido_syntax.specs.Production.{name_of}
use Rattle.lido_syntax.specs.Symbols.{IsNonterminal, IsTerminal, IsRoot}
use Rattle.lido_syntax.specs.Attributes.{HasKind, HasType}
use Rattle.lido_syntax.specs.Computation.{Goal, Synthesized, Inherited}
use Rattle.lido_syntax.specs.Including.{listed}
use Rattle.lido_base.specs.Environment.{Environment}
use Rattle.lido_syntax.specs.declared.spec.Severity.{Severity}
use Rattle.lido_syntax.specs.Functions.{text_of}
use Rattle.flat_grammar.specs.declared.flat.Occ.{Occ}
use Rattle.flat_grammar.specs.declared.flat.FlatSymbol.{FlatSymbol}
use Rattle.flat_grammar.specs.declared.flat.FlatAttr.{FlatAttr}
use Rattle.flat_grammar.specs.declared.flat.FlatRule.{FlatRule}
use Rattle.flat_grammar.specs.declared.flat.FlatComp.{FlatComp}
use Rattle.flat_grammar.specs.declared.flat.FlatExpr.{FlatExpr}
use Rattle.flat_grammar.specs.declared.flat.Shape.{Shape}
use Rattle.flat_grammar.specs.Rules.{dependencies}
use Rattle.rule_tables.specs.PlainRules.{PlainRule, Role, Whole, Listing, Link, End, lists, number, IsShapeOf}
use Rattle.lido_symbols.specs.Numbers.{place_in, enumerated}
use Rattle.rule_tables.specs.Forced.{Force, context_of}
use Rattle.rule_tables.specs.Needs.{Tables, Needs, ruled}
use Rattle.rule_tables.specs.Slots.{Slot, Written, Inc, Con, Front, Behind, Msg, Out, HasSlot}
use Rattle.rule_tables.specs.Shares.{Term, IncludingShare, ConstituentsShare, ChainShare, out_term}
use Rattle.rule_tables.specs.Copies.{occ, computed, computed_needs, given, given_needs, message, message_needs, label, line_feed, id_of}

-- the goal is this attribute
abbrev pub IsAttributeGoal : Goal → ℕ → Type 0
IsAttributeGoal (Synthesized b) a = b ≡ a
IsAttributeGoal (Inherited b) a = b ≡ a
IsAttributeGoal _ a = ⊥

-- the name of a plain rule: a cell's begin with the list's
abbrev pub rule_text : List ℕ → (ℕ → List ℕ) → Role → List ℕ
rule_text name texts Whole = name
rule_text name texts Listing = name
rule_text name texts (Link s) = name ++ codes "$" ++ texts s
rule_text name texts End = name ++ codes "$"

-- the plain rule is a written one, and no cell's
abbrev pub IsOfNode : Role → Type 0
IsOfNode Whole = Unit {0}
IsOfNode Listing = Unit {0}
IsOfNode _ = ⊥

module _ (spec : Spec) (T : Tables spec) where
  abbrev pub IsSlotKind : ℕ → Slot → Kind → Type 0
  IsSlotKind x (Written a) k = (s : ℕ) × (slice_get T.symbols x ≡ Some s) × HasKind spec s a k
  IsSlotKind x (Inc i) k = k ≡ kind.Inherited
  IsSlotKind x (Front c) k = k ≡ kind.Inherited
  IsSlotKind x _ k = k ≡ kind.Synthesized

  -- the type of an INCLUDING is that of each attribute that it lists
  abbrev pub IsListedType : List Pair → ValueType → Type 0
  IsListedType pairs ty = (s a : ℕ) → IsNonterminal spec s → listed spec T.sets pairs s ≡ Some a → HasType spec s a ty

  -- and where it lists none, that of its first attribute on the class
  abbrev pub IsEmptySet : List Pair → Type 0
  IsEmptySet pairs = (s : ℕ) → IsNonterminal spec s → listed spec T.sets pairs s ≡ None

  abbrev pub IsFirstType : List Pair → ValueType → Type 0
  IsFirstType [] ty = ⊥
  IsFirstType (p ∷ more) ty = HasType spec (name_of p.sym) (name_of p.attr) ty

  abbrev pub IsSlotType : ℕ → Slot → ValueType → Type 0
  IsSlotType x (Written a) ty = (s : ℕ) × (slice_get T.symbols x ≡ Some s) × HasType spec s a ty
  IsSlotType x (Inc i) ty = (pairs : List Pair) × (slice_get T.includings i ≡ Some pairs) × IsListedType pairs ty × (IsEmptySet pairs → IsFirstType pairs ty)
  IsSlotType x (Con n) ty = (k : Cons) × Contains T.constituents k × (k.number ≡ n) × (ty ≡ elim k.with [ None ↦ type.Void | Some with ↦ with.ty ])
  IsSlotType x (Front c) ty = (d : Typed1) × Contains spec.chains d × (name_of d.name ≡ c) × (ty ≡ d.ty)
  IsSlotType x (Behind c) ty = (d : Typed1) × Contains spec.chains d × (name_of d.name ≡ c) × (ty ≡ d.ty)
  IsSlotType x (Msg j) ty = ty ≡ type.Text
  IsSlotType x Out ty = ty ≡ type.Text

module _ (spec : Spec) (T : Tables spec) (needs : Needs spec T) (slots : ℕ → List Slot) (env : Environment) where
  -- The computations of a plain rule: of an occurrence's attribute, with the occurrence of origin, the value and what it depends on.
  pub data Equation (r : RuleItem) (p : PlainRule) (fs : List Force) : ℕ → Slot → ℕ → FlatExpr → List Occ → Type 0 where
    written : (f : Force) (a : ℕ) → Contains fs f → IsAttributeGoal f.goal a
        → Equation r p fs f.occ (Written a) (context_of f) (computed spec T needs slots env r p fs f.holder (context_of f) f.comp) (computed_needs spec T needs slots env r p fs (context_of f) f.comp)
    including : (k : ℕ) (s : Slot) (e : Term) → IncludingShare spec T needs p fs k s e → Equation r p fs k s 0 (given spec T needs slots env r p fs e) (given_needs spec T needs slots env r p fs e)
    constituents : (k : ℕ) (s : Slot) (e : Term) → ConstituentsShare spec T needs p fs k s e → Equation r p fs k s 0 (given spec T needs slots env r p fs e) (given_needs spec T needs slots env r p fs e)
    chain : (k : ℕ) (s : Slot) (e : Term) → ChainShare spec T needs p fs k s e → Equation r p fs k s 0 (given spec T needs slots env r p fs e) (given_needs spec T needs slots env r p fs e)
    message_of : (j : ℕ) → IsOfNode p.role → HasSlot spec T needs p.left (Msg j)
        → Equation r p fs 0 (Msg j) 0 (message spec T needs slots env r p fs j) (message_needs spec T needs slots env r p fs j)
    output : (s : ℕ) → slice_get T.symbols p.left ≡ Some s → IsRoot spec s
        → Equation r p fs 0 Out 0 (given spec T needs slots env r p fs (out_term spec T needs p fs)) (given_needs spec T needs slots env r p fs (out_term spec T needs p fs))

  -- the computation gives this value to this attribute, and depends on just these
  pub record IsGiven (r : RuleItem) (p : PlainRule) (fs : List Force) (c : FlatComp) (place : ℕ) (slot : Slot) (origin : ℕ) (value : FlatExpr) (needed : List Occ) : Type 0 where
    pub goal : c.goal ≡ occ spec T needs slots env r p fs place slot
    pub from : c.origin ≡ origin
    pub gives : c.value ≡ value
    pub depends : (o : Occ) → Contains (dependencies c) o ↔ Contains needed o

  -- a rule of the flat grammar is a plain rule with its name, its symbols and its computations, each once
  pub record IsFlatRule (t : PlainRule × List Force) (flat : FlatRule) : Type 0 where
    pub rule : RuleItem
    pub of_rule : slice_get spec.rules t.0.rule ≡ Some rule
    pub name : text_of env flat.name.0 ≡ rule_text (text_of env rule.name.0) (text_of env) t.0.role
    pub left : flat.left.0 ≡ t.0.left
    pub right : map (λ (s : SymId). s.0) flat.right ≡ t.0.right
    pub only : (c : FlatComp) → Contains flat.comps c → (k : ℕ) × (s : Slot) × (origin : ℕ) × (value : FlatExpr) × (needed : List Occ)
        × Equation rule t.0 t.1 k s origin value needed × IsGiven rule t.0 t.1 c k s origin value needed
    pub all : (k : ℕ) (s : Slot) (origin : ℕ) (value : FlatExpr) (needed : List Occ) → Equation rule t.0 t.1 k s origin value needed
        → (c : FlatComp) × Contains flat.comps c × IsGiven rule t.0 t.1 c k s origin value needed
    pub once : AllPairs (λ (c d : FlatComp). c.goal ≡ d.goal → ⊥) flat.comps

  -- the name, kind and type of an attribute, and whether a Bad value of it is a fault
  abbrev pub slot_text : Slot → List ℕ
  slot_text (Written a) = text_of env a
  slot_text (Inc i) = codes "$inc" ++ decimal (suc i)
  slot_text (Con n) = codes "$con" ++ decimal (suc (place_in (λ (k : Cons). nat_eq k.number n) T.constituents))
  slot_text (Front c) = codes "$front_" ++ text_of env c
  slot_text (Behind c) = codes "$behind_" ++ text_of env c
  slot_text (Msg j) = codes "$msg" ++ decimal j
  slot_text Out = codes "$out"

  abbrev pub is_named : Slot → Bool
  is_named (Written a) = true
  is_named (Msg j) = true
  is_named Out = true
  is_named _ = false

  abbrev pub is_message_slot : Slot → Bool
  is_message_slot (Msg j) = true
  is_message_slot _ = false

  pub record IsAttribute (x : ℕ) (s : Slot) (attr : FlatAttr) : Type 0 where
    pub name : text_of env attr.name.0 ≡ slot_text s
    pub kind : IsSlotKind spec T x s attr.kind
    pub ty : IsSlotType spec T x s attr.ty
    pub written : attr.written ≡ is_named s
    pub message : attr.message ≡ is_message_slot s

  -- what the symbol counts as: a nonterminal, a terminal of a type, or a class, which is a terminal of type VOID
  abbrev pub IsSymbolType : ℕ → Option ValueType → Type 0
  IsSymbolType s None = IsNonterminal spec s
  IsSymbolType s (Some ty) = ¬ IsNonterminal spec s × (IsTerminal spec s ty ⊎ (((other : ValueType) → ¬ IsTerminal spec s other) × (ty ≡ type.Void)))

  -- the flat grammar
  pub record IsFlat (symbols : List FlatSymbol) (flat_rules : List FlatRule) (shapes : List Shape) (root : SymId) : Type 0 where
    pub count : length symbols ≡ length T.symbols + length (lists spec T.symbols)
    pub attributes : (x : ℕ) (y : FlatSymbol) → slice_get symbols x ≡ Some y → AllZip (IsAttribute x) (slots x) y.attrs
    pub named : (x s : ℕ) (y : FlatSymbol) → slice_get T.symbols x ≡ Some s → slice_get symbols x ≡ Some y → (y.name.0 ≡ s) × IsSymbolType s y.terminal
    pub cells : (k i : ℕ) (r : RuleItem) (y : FlatSymbol) → slice_get (lists spec T.symbols) k ≡ Some i → slice_get spec.rules i ≡ Some r → slice_get symbols (length T.symbols + k) ≡ Some y
        → (text_of env y.name.0 ≡ codes "$" ++ text_of env r.name.0) × (y.terminal ≡ None)
    pub each_rule : AllZip IsFlatRule (ruled spec T) flat_rules
    pub each_shape : AllZip (IsShapeOf spec T.symbols) (enumerated 0 spec.rules) shapes
    pub message_texts : (x j : ℕ) (severity : Severity) → HasSlot spec T needs x (Msg j) → (text_of env (id_of env (label severity)) ≡ label severity) × (text_of env (id_of env line_feed) ≡ line_feed)
    pub root_symbol : (s : ℕ) × IsRoot spec s × (root.0 ≡ number spec T.symbols s)
