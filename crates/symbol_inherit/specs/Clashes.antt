-- Computations of two classes that are left for a goal of a symbol.
use Rattle.std.specs.Prelude.{◌≡◌, ℕ, suc, nat_eq, ◌<◌, Option, Some, slice_get, MatchOption}
use Rattle.lido_base.specs.declared.ids.StrId.{StrId}
use Rattle.lido_base.specs.declared.kinds.Kind.{Kind}
use Rattle.lido_base.specs.declared.kinds.Kind.TheVariants as kind
use Rattle.lido_syntax.specs.declared.fault.SpecFault.{SpecFault}
use Rattle.lido_syntax.specs.declared.fault.SpecFault.TheVariants as fault
use Rattle.lido_syntax.specs.declared.spec.Spec.{Spec}
use Rattle.lido_syntax.specs.Computation.{Goal, HasInSymbol, IsLeft}
use Rattle.lido_symbols.specs.Numbers.{AreNumbered}
use Rattle.lido_symbols.specs.Uses.{attribute_uses}
use Rattle.rule_tables.specs.declared.table.Tables.{Tables}
use Rattle.rule_tables.specs.TablesOf.{named_symbols}
use Rattle.rule_tables.specs.Needs.{Tables as Numbered}
use Rattle.rule_tables.specs.InForceFaults.{IsBefore, name_in, goal_place, IsClash, AreFirstTwo, IsClashInherited}
use Rattle.computation_aims.specs.Aims.{goal_of}
use Rattle.computation_aims.specs.declared.aims.Way.{Way}
use Rattle.computation_aims.specs.declared.aims.Way.TheVariants as way
use Rattle.computation_aims.specs.declared.aims.Aim.{Aim}
use Rattle.symbol_inherit.specs.declared.clashes.Two.{Two}
use Rattle.symbol_inherit.specs.declared.clashes.Clash.{Clash}
use Rattle.symbol_inherit.specs.declared.clashes.ClashAt.{ClashAt}

-- an attribute of this kind as what is given a value to
abbrev pub kind_way : Kind → Way
kind_way kind.Synthesized = way.Synthesized
kind_way kind.Inherited = way.Inherited

abbrev pub kind_aim : Kind → StrId → Aim
kind_aim k name = record { way = kind_way k; name = name }

-- the numbers are those of the tables
pub record AreNumbersIn (t : Tables) (T : Numbered t.spec) : Type 0 where
  pub symbols : T.symbols ≡ named_symbols t
  pub attributes : AreNumbered nat_eq (attribute_uses t.spec) T.attributes

module _ (spec : Spec) (T : Numbered spec) (s : ℕ) where
  -- the symbol has no computation of the goal, and those of two classes are left
  pub record AreTwoLeft (g : Goal) : Type 0 where
    pub not_own : ¬ HasInSymbol spec s g
    pub one : ℕ
    pub other : ℕ
    pub one_left : IsLeft spec s g one
    pub other_left : IsLeft spec s g other
    pub two : one ≡ other → ⊥

  abbrev pub IsTwoOf : Goal → Option Two → Type 0
  IsTwoOf g two = MatchOption two (¬ AreTwoLeft g) (λ two. AreTwoLeft g × AreFirstTwo spec T s g two.first two.second)

  -- the first clash of the symbol, which has none of a later kind
  pub record IsFirstClash (clash : Clash) : Type 0 where
    pub g : Goal
    pub its : IsClash spec T s g
    pub least : (h : Goal) → IsClash spec T s h → ¬ IsBefore (goal_place spec T h) (goal_place spec T g)
    pub places : AreFirstTwo spec T s g clash.two.first clash.two.second
    pub name : name_in g ≡ clash.name.0

  -- no clash of the symbol is of an earlier kind
  abbrev pub HasNoClash : ℕ → Type 0
  HasNoClash k = (g : Goal) → IsClash spec T s g → (goal_place spec T g).0 < k → ⊥

  -- the first clash, if one is of this kind
  abbrev pub IsClashOf : ℕ → Option Clash → Type 0
  IsClashOf k clash = MatchOption clash (HasNoClash (suc k)) IsFirstClash

  -- the clash of what a computation gives a value to
  abbrev pub IsClashFor : Aim → Option Clash → Type 0
  IsClashFor aim clash = MatchOption clash (¬ AreTwoLeft (goal_of aim)) (λ c. AreTwoLeft (goal_of aim) × AreFirstTwo spec T s (goal_of aim) c.two.first c.two.second × (c.name ≡ aim.name))

  -- the symbol's first clash
  abbrev pub IsRowClash : Option ClashAt → Type 0
  IsRowClash clash = MatchOption clash ((g : Goal) → ¬ IsClash spec T s g) (λ c. IsFirstClash c.clash × (c.symbol.0 ≡ s))

-- no clash of the first n symbols
abbrev pub HasNoClashBelow : (t : Tables) → Numbered t.spec → ℕ → Type 0
HasNoClashBelow t T n = (y q : ℕ) (h : Goal) → y < n → slice_get (named_symbols t) y ≡ Some q → ¬ IsClash t.spec T q h

-- the fault of a clash
abbrev pub clash_fault : ClashAt → SpecFault
clash_fault c = fault.ClashInherited c.symbol c.clash.name c.clash.two.first c.clash.two.second

-- the first clash of the tables
abbrev pub IsFirstOfAll : (t : Tables) → Numbered t.spec → Option ClashAt → Type 0
IsFirstOfAll t T clash = MatchOption clash ((f : SpecFault) → ¬ IsClashInherited t.spec T f) (λ c. IsClashInherited t.spec T (clash_fault c))
