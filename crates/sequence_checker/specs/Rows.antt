-- A row of visits as the checker looks at it: kind by kind.
use Rattle.std.specs.Prelude.{◌≡◌, ◌↔◌, IsTrue, Bool, List, Option, Some, None, All, AllPairs, Contains}
use Rattle.lido_base.specs.declared.ids.AttrId.{AttrId}
use Rattle.lido_base.specs.declared.kinds.Kind.{Kind}
use Rattle.lido_base.specs.declared.kinds.Kind.TheVariants.{Synthesized, Inherited}
use Rattle.flat_grammar.specs.declared.flat.FlatSymbol.{FlatSymbol}
use Rattle.flat_grammar.specs.declared.plan.VisitClass.{VisitClass}
use Rattle.flat_grammar.specs.SoundPlan.{IsAttribute}
use Rattle.sequence_checker.specs.declared.set.Occurrences.{Occurrences}
use Rattle.sequence_checker.specs.Sets.{has}

-- what a class has of one kind
abbrev pub class_part : Kind → VisitClass → List AttrId
class_part Inherited class = class.inherited
class_part Synthesized class = class.synthesized

-- the set has the attribute at place 0
abbrev pub has_attribute : Occurrences → AttrId → Bool
has_attribute set a = has set (record { occ = 0; attr = a })

module _ (x : FlatSymbol) (kind : Kind) (attrs : List AttrId) where
  -- they are the symbol's attributes of this kind, each once
  abbrev pub AreNumbered : Type 0
  AreNumbered = ((a : AttrId) → Contains attrs a ↔ IsAttribute x kind a) × AllPairs (λ a b. a ≡ b → ⊥) attrs

  -- each is the number of an attribute of this kind, and none comes twice
  abbrev pub AreApart : Type 0
  AreApart = All (IsAttribute x kind) attrs × AllPairs (λ a b. a ≡ b → ⊥) attrs

  -- the set has them and nothing else, or they aren't apart
  abbrev pub HasMembers : Option Occurrences → Type 0
  HasMembers None = ¬ AreApart
  HasMembers (Some set) = AreApart × ((a : AttrId) → IsTrue (has_attribute set a) ↔ Contains attrs a)
