-- What the construction keeps of a rule: its goals with what they wait for, and how far the items have come.
use Rattle.std.specs.Prelude.{◌≡◌, ◌↔◌, ◌⊎◌, ◌+◌, ℕ, suc, ◌<◌, ◌≤◌, List, [], map, length, Option, Some, MatchOption, slice_get, slice_index, option_and_then, unwrap_or, All, Contains, take, IsBitSet, IsTrue}
use Rattle.std.specs.Ordering.{nat_cmp}
use Rattle.std.specs.BTreeMap.{get}
use Rattle.std.specs.BTreeSet.{contains}
use Rattle.lido_base.specs.declared.ids.SymId.{SymId}
use Rattle.lido_base.specs.declared.ids.AttrId.{AttrId}
use Rattle.flat_grammar.specs.declared.flat.Occ.{Occ}
use Rattle.flat_grammar.specs.declared.flat.FlatSymbol.{FlatSymbol}
use Rattle.flat_grammar.specs.declared.flat.FlatRule.{FlatRule}
use Rattle.flat_grammar.specs.declared.plan.VisitClass.{VisitClass}
use Rattle.flat_grammar.specs.declared.plan.PlanItem.{PlanItem}
use Rattle.flat_grammar.specs.declared.plan.PlanItem.TheVariants.{Eval, Visit, Leave}
use Rattle.flat_grammar.specs.Rules.{symbol_at, symbols_of}
use Rattle.flat_grammar.specs.Dependencies.{DP, IDS}
use Rattle.flat_grammar.specs.Cycles.{IsAtMost}
use Rattle.flat_grammar.specs.Partition.{IsEarlier}
use Rattle.flat_grammar.specs.SoundPlan.{goals_of, segment_after, visits_made, IsEvaluated, IsAtHand}
use Rattle.visit_sequences.specs.declared.goals.Goal.{Goal}
use Rattle.visit_sequences.specs.declared.listed.Listed.{Listed}
use Rattle.visit_sequences.specs.declared.progress.Progress.{Progress}
use Rattle.visit_sequences.specs.declared.queue.Waiting.{Waiting}
use Rattle.visit_sequences.specs.declared.queue.Queue.{Queue}
use Rattle.visit_sequences.specs.declared.rest.Rest.{Rest}
use Rattle.visit_sequences.specs.Order.{compare_occurrences}

-- the visits of the symbol at an occurrence, none where there is no symbol
abbrev pub visits_there : List (List VisitClass) → FlatRule → ℕ → List VisitClass
visits_there visits r k = unwrap_or (option_and_then (λ (s : SymId). slice_get visits s.0) (symbol_at r k)) []

-- no visit before this one has the attribute
abbrev pub LacksBefore : List VisitClass → ℕ → AttrId → Type 0
LacksBefore row k b = (l : ℕ) (c : VisitClass) → l < k → slice_get row l ≡ Some c → ¬ Contains c.inherited b × ¬ Contains c.synthesized b

-- a stands in a class, and neither this class nor one that passes before it has b
abbrev pub StandsBefore : List VisitClass → AttrId → AttrId → Type 0
StandsBefore row a b = (k : ℕ) × (c : VisitClass) × (slice_get row k ≡ Some c) × LacksBefore row k b
    × ((Contains c.inherited a × ¬ Contains c.inherited b) ⊎ (Contains c.synthesized a × ¬ Contains c.inherited b × ¬ Contains c.synthesized b))

-- the attribute passes in a visit before this one
abbrev pub PassedBefore : List VisitClass → ℕ → AttrId → Type 0
PassedBefore row k a = (j : ℕ) × (c : VisitClass) × (j < k) × (slice_get row j ≡ Some c) × (Contains c.inherited a ⊎ Contains c.synthesized a)

module _ (symbols : List FlatSymbol) (rules : List FlatRule) (r : FlatRule) where
  -- the attribute comes before the other one of the same occurrence, by the induced dependencies or by its class
  abbrev pub IsBefore : Occ → AttrId → Type 0
  IsBefore o a = (x : SymId) × (symbol_at r o.occ ≡ Some x) × (IDS rules x a o.attr ⊎ IsEarlier symbols rules x a o.attr)

  -- it holds what the goal waits for: the attributes of its own occurrence, and what its computation depends on
  pub record IsGoal (g : Goal) : Type 0 where
    pub same : (a : AttrId) → IsBitSet g.same a.0 ↔ IsBefore g.goal a
    pub direct : (u : Occ) → Contains g.direct.items u ↔ DP r u g.goal

  -- these are the rule's goals
  pub record AreGoals (goals : List Goal) : Type 0 where
    pub all : map (λ (g : Goal). g.goal) goals ≡ goals_of r
    pub each : All IsGoal goals

-- the attribute passes in the visit, counted from 1
abbrev pub PassesIn : (VisitClass → List AttrId) → List VisitClass → ℕ → AttrId → Type 0
PassesIn of row visit a = (v : ℕ) × (c : VisitClass) × (visit ≡ suc v) × (slice_get row v ≡ Some c) × Contains (of c) a

-- the sets of bits, one for each occurrence, have this one
abbrev pub HasBit : List ℕ → Occ → Type 0
HasBit rows o = IsBitSet (slice_index rows o.occ) o.attr.0

-- the set has the attributes of this list of the visit, counted from 1
abbrev pub HasBitsOf : (VisitClass → List AttrId) → List VisitClass → ℕ → ℕ → Type 0
HasBitsOf of row visit set = (a : AttrId) → IsBitSet set a.0 ↔ ((a.0 < 256) × PassesIn of row visit a)

-- the sets have become larger by these bits at one place
abbrev pub Adds : List ℕ → List ℕ → ℕ → ℕ → Type 0
Adds old new k more = (i j : ℕ) → IsBitSet (slice_index new i) j ↔ (IsBitSet (slice_index old i) j ⊎ ((i ≡ k) × (k < length old) × IsBitSet more j))

-- the sets have become larger by one occurrence
abbrev pub Evaluates : List ℕ → List ℕ → Occ → Type 0
Evaluates old new goal = (o : Occ) → HasBit new o ↔ (HasBit old o ⊎ ((o ≡ goal) × (goal.occ < length old) × (goal.attr.0 < 256)))

-- the sets have become larger by what passes at an occurrence in a visit
abbrev pub Passes : (VisitClass → List AttrId) → List VisitClass → ℕ → List ℕ → List ℕ → ℕ → Type 0
Passes of row visit old new k = (o : Occ) → HasBit new o ↔ (HasBit old o ⊎ ((o.occ ≡ k) × (k < length old) × (o.attr.0 < 256) × PassesIn of row visit o.attr))

-- the items' evaluations, what is at hand behind them, how often they visit each child, and the visit that goes on
pub record Follows (visits : List (List VisitClass)) (r : FlatRule) (p : Progress) : Type 0 where
  pub evaluated : (o : Occ) → HasBit p.evaluated.items o ↔ IsEvaluated p.items.items o
  pub at_hand : (o : Occ) → HasBit p.at_hand.items o ↔ IsAtHand visits r p.items.items o
  pub each_evaluated : length p.evaluated.items ≡ length (symbols_of r)
  pub each_at_hand : length p.at_hand.items ≡ length (symbols_of r)
  pub each_made : length p.made.items ≡ length (symbols_of r)
  pub made : (k : ℕ) → k < length (symbols_of r) → slice_index p.made.items k ≡ visits_made p.items.items k
  pub segment : p.segment ≡ segment_after p.items.items

-- the goal is not evaluated, and all that it waits for is at hand
abbrev pub IsOpen : Progress → Goal → Type 0
IsOpen p g = ¬ HasBit p.evaluated.items g.goal × ((a : AttrId) → IsBitSet g.same a.0 → HasBit p.at_hand.items (record { occ = g.goal.occ; attr = a }))
    × ((u : Occ) → Contains g.direct.items u → HasBit p.at_hand.items u)

-- the least goal that is open, if one is
abbrev pub IsLeastOpen : Progress → List Goal → Option Occ → Type 0
IsLeastOpen p goals found = MatchOption found (All (λ g. ¬ IsOpen p g) goals) (λ o. ((g : Goal) × Contains goals g × IsOpen p g × (g.goal ≡ o)) × All (λ g. IsOpen p g → IsAtMost o g.goal) goals)

-- all these attributes of the occurrence are evaluated
abbrev pub HasAll : Progress → ℕ → List AttrId → Type 0
HasAll p k attrs = All (λ (a : AttrId). HasBit p.evaluated.items (record { occ = k; attr = a })) attrs

-- the visit's synthesized attributes are not all evaluated
abbrev pub OwesClass : List VisitClass → Progress → Type 0
OwesClass row p = (v : ℕ) × (c : VisitClass) × (p.segment ≡ suc v) × (slice_get row v ≡ Some c) × ¬ HasAll p 0 c.synthesized

-- a goal is not evaluated
abbrev pub HasLeft : List Goal → Progress → Type 0
HasLeft goals p = (g : Goal) × Contains goals g × ¬ HasBit p.evaluated.items g.goal

-- so many goals are evaluated, from the first on
abbrev pub AreEvaluated : Progress → List Goal → ℕ → Type 0
AreEvaluated p goals n = (g : Goal) → Contains (take n goals) g → HasBit p.evaluated.items g.goal

-- the occurrence is to be looked at
abbrev pub IsListed : Listed → ℕ → Type 0
IsListed l k = IsTrue (contains nat_cmp l.occurrences k)

-- from this visit on, counted from 0, one has a synthesized attribute
abbrev pub IsOfUseFrom : List VisitClass → ℕ → Type 0
IsOfUseFrom row from = (w : ℕ) × (c : VisitClass) × (from ≤ w) × (slice_get row w ≡ Some c) × ¬ (c.synthesized ≡ [])

module _ (visits : List (List VisitClass)) (r : FlatRule) (p : Progress) where
  -- the next visit of the child is ready and not idle
  abbrev pub IsReadyAt : ℕ → Type 0
  IsReadyAt k = (c : VisitClass) × (slice_get (visits_there visits r k) (slice_index p.made.items k) ≡ Some c) × HasAll p k c.inherited × IsOfUseFrom (visits_there visits r k) (slice_index p.made.items k)

  -- the child has a visit left
  abbrev pub IsNextAt : ℕ → Type 0
  IsNextAt k = slice_index p.made.items k < length (visits_there visits r k)

  -- none of so many children, from the first on, has a visit left
  abbrev pub AreOver : ℕ → Type 0
  AreOver n = (k : ℕ) → 0 < k → k ≤ n → ¬ IsNextAt k

  -- each child whose next visit is ready is listed
  abbrev pub AreListedChildren : Listed → Type 0
  AreListedChildren l = (k : ℕ) → 0 < k → IsReadyAt k → IsListed l k

  -- the goals and children that are passed over have nothing left, and the children that are ready are listed
  pub record IsRest (goals : List Goal) (rest : Rest) : Type 0 where
    pub evaluated : AreEvaluated p goals rest.goals
    pub over : AreOver rest.children
    pub ready : AreListedChildren rest.ready

  -- the first goal and the first child that are not passed over have something left
  pub record Stops (goals : List Goal) (rest : Rest) : Type 0 where
    pub goal : (g : Goal) → slice_get goals rest.goals ≡ Some g → ¬ HasBit p.evaluated.items g.goal
    pub child : rest.children < length r.right → IsNextAt (rest.children + 1)

  -- the present visit still owes something
  abbrev pub Owes : List Goal → Type 0
  Owes goals = OwesClass (visits_there visits r 0) p ⊎ ((p.segment ≡ length (visits_there visits r 0)) × HasLeft goals p)

-- the least child of which this holds
abbrev pub IsLeastChild : FlatRule → (ℕ → Type 0) → ℕ → Type 0
IsLeastChild r P k = (0 < k) × (k ≤ length r.right) × P k × ((j : ℕ) → 0 < j → P j → k ≤ j)

-- it holds of no child
abbrev pub IsNoChild : FlatRule → (ℕ → Type 0) → Type 0
IsNoChild r P = (j : ℕ) → 0 < j → j ≤ length r.right → ¬ P j

-- the goal waits for this
abbrev pub Needs : Goal → Occ → Type 0
Needs g u = ((u.occ ≡ g.goal.occ) × IsBitSet g.same u.attr.0) ⊎ Contains g.direct.items u

-- all that the goal waits for is at hand
abbrev pub IsFree : Progress → Goal → Type 0
IsFree p g = (u : Occ) → Needs g u → HasBit p.at_hand.items u

-- the goal waits for this, and it is not at hand
abbrev pub IsMissing : Progress → Goal → Occ → Type 0
IsMissing p g u = Needs g u × ¬ HasBit p.at_hand.items u

-- the goal at this place of the list waits for this
abbrev pub Waits : Queue → Occ → ℕ → Type 0
Waits q u i = (w : Waiting) × (get compare_occurrences q.waiting u ≡ Some w) × Contains w.goals.items i

-- all that is free or waits still does
pub record KeepsWaiting (old new : Queue) : Type 0 where
  pub free : (o : Occ) → HasBit old.free.items o → HasBit new.free.items o
  pub waits : (u : Occ) (i : ℕ) → Waits old u i → Waits new u i

-- the goals that are free have all that they wait for
abbrev pub AreFree : Progress → List Goal → Queue → Type 0
AreFree p goals q = (o : Occ) → HasBit q.free.items o → (g : Goal) × Contains goals g × (g.goal ≡ o) × IsFree p g

-- the goal is free, or it waits for something that is missing
abbrev pub StandsIn : Progress → Queue → ℕ → Goal → Type 0
StandsIn p q i g = HasBit q.free.items g.goal ⊎ ((u : Occ) × Waits q u i × IsMissing p g u)

-- those that waited for this stand somewhere, and all others as they did
pub record Wakes (p : Progress) (goals : List Goal) (old new : Queue) (missing : Occ) : Type 0 where
  pub free : (o : Occ) → HasBit old.free.items o → HasBit new.free.items o
  pub others : (u : Occ) (i : ℕ) → Waits old u i → ¬ (missing ≡ u) → Waits new u i
  pub here : (i : ℕ) (g : Goal) → slice_get goals i ≡ Some g → Waits old missing i → StandsIn p new i g

-- so many of the goal's dependencies are at hand, from the first on
abbrev pub AreSeen : Progress → Goal → ℕ → Type 0
AreSeen p g n = (u : Occ) → Contains (take n g.direct.items) u → HasBit p.at_hand.items u

-- the dependencies that the queue counts are at hand
abbrev pub HasSeen : Progress → List Goal → Queue → Type 0
HasSeen p goals q = (i : ℕ) (g : Goal) → slice_get goals i ≡ Some g → AreSeen p g (slice_index q.seen.items i)

-- the goal is free, and not evaluated
abbrev pub IsLeft : Progress → Queue → Occ → Type 0
IsLeft p q o = HasBit q.free.items o × ¬ HasBit p.evaluated.items o

-- the queue lists the occurrences at which a goal is left
abbrev pub AreListed : Progress → Queue → Type 0
AreListed p q = (o : Occ) → IsLeft p q o → IsListed q.left o.occ

-- there is a set for the occurrence of each goal, and its attribute may be in it
abbrev pub AreWithin : List Goal → ℕ → Type 0
AreWithin goals n = (g : Goal) → Contains goals g → (g.goal.occ < n) × (g.goal.attr.0 < 256)

-- the queue says of each goal how it stands, and where goals are left
pub record Sorts (p : Progress) (goals : List Goal) (q : Queue) : Type 0 where
  pub within : AreWithin goals (length q.free.items)
  pub free : AreFree p goals q
  pub seen : HasSeen p goals q
  pub stands : (i : ℕ) (g : Goal) → slice_get goals i ≡ Some g → StandsIn p q i g
  pub listed : AreListed p q

-- what is evaluated or at hand stays, and only what the item gives is at hand beside it
pub record Grows (old new : Progress) (gives : Occ → Type 0) : Type 0 where
  pub evaluated : (u : Occ) → HasBit old.evaluated.items u → HasBit new.evaluated.items u
  pub stays : (u : Occ) → HasBit old.at_hand.items u → HasBit new.at_hand.items u
  pub given : (u : Occ) → HasBit new.at_hand.items u → HasBit old.at_hand.items u ⊎ gives u

-- at the other occurrences no more is evaluated, and no visit is made
pub record IsSameBut (old new : Progress) (k : ℕ) : Type 0 where
  pub evaluated : (u : Occ) → HasBit new.evaluated.items u → HasBit old.evaluated.items u ⊎ (u.occ ≡ k)
  pub made : (j : ℕ) → ¬ (j ≡ k) → slice_index new.made.items j ≡ slice_index old.made.items j

-- the occurrence that an item is about
abbrev pub item_occurrence : PlanItem → ℕ
item_occurrence (Eval o) = o.occ
item_occurrence (Visit k v) = k
item_occurrence (Leave v) = 0

-- what an item gives: the goal, what passes up from the child, or what passes down in the next visit of the left side
abbrev pub HandsOn : List (List VisitClass) → FlatRule → PlanItem → Occ → Type 0
HandsOn visits r (Eval o) u = u ≡ o
HandsOn visits r (Visit k v) u = (u.occ ≡ k) × PassesIn (λ c. c.synthesized) (visits_there visits r k) v u.attr
HandsOn visits r (Leave v) u = (u.occ ≡ 0) × PassesIn (λ c. c.inherited) (visits_there visits r 0) (v + 1) u.attr
