-- What the grammars of some size are made of.
use Rattle.std.specs.Prelude.{◌≡◌, ℕ, zero, suc, ◌+◌, ◌-◌, ◌*◌, ◌%◌, ◌^◌, ◌<◌, ◌≤◌, ◌⊎◌, ◌==◌, nat_lt, if◌then◌else◌, false, List, [], length, replicate, Some, None, slice_get, All}
use Rattle.lido_base.specs.declared.ids.SymId.{SymId}
use Rattle.lido_base.specs.declared.kinds.Kind.{Kind}
use Rattle.lido_base.specs.declared.kinds.Kind.TheVariants.{Synthesized, Inherited}
use Rattle.flat_grammar.specs.declared.flat.Occ.{Occ}
use Rattle.flat_grammar.specs.declared.flat.FlatSymbol.{FlatSymbol}
use Rattle.flat_grammar.specs.declared.flat.FlatAttr.{FlatAttr}
use Rattle.flat_grammar.specs.declared.flat.FlatRule.{FlatRule}
use Rattle.flat_grammar.specs.declared.flat.FlatComp.{FlatComp}
use Rattle.flat_grammar.specs.declared.flat.Shape.{Shape}
use Rattle.flat_grammar.specs.Rules.{dependencies, terminals_of}
use Rattle.large_grammars.specs.declared.size.Size.{Size}

-- what stands at each place meets the condition of that place
abbrev pub EachAt : {X : Type 0} → (ℕ → X → Type 0) → List X → Type 0
EachAt {X} P xs = (k : ℕ) (x : X) → slice_get xs k ≡ Some x → P k x

-- a grammar may be that large
pub record IsWithin (size : Size) : Type 0 where
  pub some : 0 < size.symbols
  pub symbols : size.symbols ≤ 2 ^ 16
  pub attributes : size.attributes ≤ 256
  pub rules : size.rules ≤ 2 ^ 16
  pub child : 0 < size.children
  pub children : size.children < 2 ^ 16
  pub occurrences : (1 + size.children) * size.attributes ≤ 1024

-- even attributes are inherited, odd ones synthesized
abbrev pub kind_of : ℕ → Kind
kind_of a = if (a % 2) == 0 then Inherited else Synthesized

-- the kind of attribute that a rule computes at an occurrence
abbrev pub goal_kind : ℕ → Kind
goal_kind zero = Synthesized
goal_kind (suc k) = Inherited

-- the attributes of a symbol
pub record AreAttributes (count : ℕ) (attrs : List FlatAttr) : Type 0 where
  pub all : length attrs ≡ count
  pub each : EachAt (λ a (attr : FlatAttr). (attr.name.0 ≡ a) × (attr.kind ≡ kind_of a)) attrs

-- before attribute a at occurrence k
abbrev pub IsBefore : ℕ → ℕ → Occ → Type 0
IsBefore k a o = (o.occ < k) ⊎ ((o.occ ≡ k) × (o.attr.0 < a))

module _ (size : Size) where
  -- the symbol at a place
  pub record IsSymbol (k : ℕ) (x : FlatSymbol) : Type 0 where
    pub name : x.name.0 ≡ k
    pub terminal : x.terminal ≡ None
    pub attributes : AreAttributes size.attributes x.attrs

  -- the symbols of the grammar
  pub record AreSymbols (symbols : List FlatSymbol) : Type 0 where
    pub all : length symbols ≡ size.symbols
    pub each : EachAt IsSymbol symbols

  -- an attribute occurrence of a rule
  abbrev pub IsInside : Occ → Type 0
  IsInside o = (o.occ ≤ size.children) × (o.attr.0 < size.attributes)

  -- one that the rule computes
  abbrev pub IsGoalOf : Occ → Type 0
  IsGoalOf o = IsInside o × (kind_of o.attr.0 ≡ goal_kind o.occ)

  -- a computation of a goal that depends on attribute occurrences of the rule
  pub record IsComputation (c : FlatComp) : Type 0 where
    pub goal : IsGoalOf c.goal
    pub origin : c.origin ≡ 0
    pub terminals : terminals_of c.value ≡ []
    pub inside : All IsInside (dependencies c)

  -- the computations of all goals before a place, one each
  pub record AreBefore (k a : ℕ) (comps : List FlatComp) : Type 0 where
    pub each : EachAt (λ j (c : FlatComp). IsComputation c × IsBefore k a c.goal) comps
    pub goals : (o : Occ) → IsGoalOf o → IsBefore k a o → (j : ℕ) × (c : FlatComp) × (slice_get comps j ≡ Some c) × (c.goal ≡ o)
    pub once : (i j : ℕ) (c d : FlatComp) → slice_get comps i ≡ Some c → slice_get comps j ≡ Some d → c.goal ≡ d.goal → i ≡ j

  -- the symbol of the children of a left side: the one next to it, or the last one itself
  abbrev pub child_of : ℕ → SymId
  child_of left = if size.bottom_up then record { 0 = left - 1 } else (if nat_lt (left + 1) size.symbols then record { 0 = left + 1 } else record { 0 = left })

  -- the right side of the rule at a place
  abbrev pub right_of : ℕ → List SymId
  right_of j = replicate size.children (child_of (j % size.symbols))

  -- the rule at a place
  pub record IsRuleAt (j : ℕ) (r : FlatRule) : Type 0 where
    pub name : r.name.0 ≡ j
    pub left : r.left.0 ≡ j % size.symbols
    pub right : r.right ≡ right_of j
    pub computations : AreBefore (1 + size.children) 0 r.comps

  -- the rules of the grammar
  pub record AreRules (rules : List FlatRule) : Type 0 where
    pub all : length rules ≡ size.rules
    pub each : EachAt IsRuleAt rules

  -- the shape at a place
  pub record IsShapeAt (j : ℕ) (shape : Shape) : Type 0 where
    pub rule : shape.rule.0 ≡ j
    pub plain : shape.list ≡ false
    pub right : shape.right ≡ right_of j

  -- the shapes of the rules
  pub record AreShapes (shapes : List Shape) : Type 0 where
    pub all : length shapes ≡ size.rules
    pub each : EachAt IsShapeAt shapes
