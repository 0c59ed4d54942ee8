-- The machine of a job: the instances of its flat tree in the whole order of its plan, with their regions, and what they give.
use Rattle.std.specs.Prelude.{◌≡◌, ◌↔◌, ◌⊎◌, ℕ, suc, ◌-◌, ◌<◌, ◌≤◌, ◌==◌, ◌&&◌, Bool, true, List, [], ◌∷◌, if◌then◌else◌, length, map, flat_map, find, Option, Some, None, option_and_then, option_map, slice_get, unwrap_or, Contains, All, AllPairs}
use Rattle.std.specs.List.{AllZip, range_with_len}
use Rattle.std.specs.List.Sorted.{IsStrictlyIncreasing}
use Rattle.lido_base.specs.declared.ids.SymId.{SymId}
use Rattle.lido_base.specs.declared.ids.AttrId.{AttrId}
use Rattle.lido_base.specs.declared.value.Value.{Value}
use Rattle.lido_base.specs.declared.value.Value.TheVariants as value
use Rattle.lido_base.specs.declared.value.Origin.{Origin}
use Rattle.lido_base.specs.declared.value.ValueType.TheVariants as type
use Rattle.lido_base.specs.declared.pattern.Pattern.{Pattern}
use Rattle.lido_base.specs.Environment.{Environment}
use Rattle.lido_base.specs.Plain.{Plain, plain, plain_tree}
use Rattle.lido_base.specs.Tree.{Tree, Leaf, items_of, rule_at, parent_of, place_of, contains}
use Rattle.string_librarian.specs.Rooms.{RoomState, Deposit}
use Rattle.value_ops.specs.Outcome.{StandsFor}
use Rattle.tree_store.specs.Regions.{region}
use Rattle.flat_grammar.specs.declared.flat.Occ.{Occ}
use Rattle.flat_grammar.specs.declared.flat.FlatSymbol.{FlatSymbol}
use Rattle.flat_grammar.specs.declared.flat.FlatAttr.{FlatAttr}
use Rattle.flat_grammar.specs.declared.flat.FlatRule.{FlatRule}
use Rattle.flat_grammar.specs.declared.flat.FlatComp.{FlatComp}
use Rattle.flat_grammar.specs.declared.flat.Shape.{Shape}
use Rattle.flat_grammar.specs.declared.plan.VisitClass.{VisitClass}
use Rattle.flat_grammar.specs.declared.plan.PlanItem.{PlanItem}
use Rattle.flat_grammar.specs.Rules.{attribute_at, attrs_of, dependencies, HasRule}
use Rattle.flat_grammar.specs.WellFormed.{IsWellFormed, is_same_occ, is_synthesized, attribute_of}
use Rattle.flat_grammar.specs.SoundPlan.{IsSound}
use Rattle.flat_grammar.specs.Fitting.{IsFitting, IsWithinLimits}
use Rattle.flat_grammar.specs.FlatTrees.{IsFlatTree}
use Rattle.flat_grammar.specs.FlatAttribution.{IsFlatAttribution, IsLeastFault, IsFaultyAt}
use Rattle.flat_grammar.specs.WholeOrder.{Instance, node_at, whole_order}
use Rattle.flat_grammar.specs.Instances.{instance_at}
pub use Rattle.core_machine.specs.declared.finished.Note.{Note}
use Rattle.core_machine.specs.Instances.{IsInOrder}
use Rattle.core_machine.specs.Machine.{Item, Machine, State, eval_of, put_of, final, UsesOne, IsNeverStuck, HasOneEnd}
use Rattle.core_machine.specs.Evaluation.{evaluate, kept_value, HasConstants, IsNoText}

-- A job as definitions see it.
pub record Task : Type 0 where
  pub symbols : List FlatSymbol
  pub rules : List FlatRule
  pub shapes : List Shape
  pub root : SymId
  pub visits : List (List VisitClass)
  pub seqs : List (List PlanItem)
  pub written : Tree Value
  pub flat : Tree Value
  pub node_of : List ℕ
  pub nodes : List ℕ
  pub texts : List (List ℕ)
  pub patterns : List Pattern

-- a computation of a rule, at a node
abbrev pub Computation : Type 0
Computation = ℕ × FlatRule × FlatComp

abbrev pub same_instance : Instance → Instance → Bool
same_instance i j = (i.0 == j.0) && (i.1 == j.1)

module _ (j : Task) where
  -- what ids and names stand for
  abbrev pub environment : Environment
  environment = record { texts = j.texts; patterns = j.patterns }

  abbrev pub rule_of : ℕ → Option FlatRule
  rule_of n = option_and_then (slice_get j.rules) (rule_at j.flat n)

  -- the computation of an attribute occurrence by the rule of node n, if it has one
  abbrev pub computation_at : ℕ → Occ → Option Computation
  computation_at n o = option_and_then (λ (r : FlatRule). option_map (λ (c : FlatComp). (n, r, c)) (find (λ (c : FlatComp). is_same_occ c.goal o) r.comps)) (rule_of n)

  -- The computation of an instance: by the rule of its own node, or by that of the parent.
  abbrev pub computation_of : Instance → Option Computation
  computation_of i = elim (computation_at i.0 (record { occ = 0; attr = record { 0 = i.1 } })) [
    | Some c ↦ Some c
    | None ↦ option_and_then (λ p. computation_at p (record { occ = place_of j.flat i.0; attr = record { 0 = i.1 } })) (parent_of j.flat i.0)
  ]

  -- the region of an instance is that of the node whose rule computes it
  abbrev pub home : Instance → ℕ
  home i = elim (computation_of i) [ None ↦ 0 | Some c ↦ region j.flat j.nodes c.0 ]

  -- what its computation depends on
  abbrev pub needs : Instance → List Instance
  needs i = elim (computation_of i) [ None ↦ [] | Some c ↦ map (instance_at j.flat c.0) (dependencies c.2) ]

  -- What a computation gives in a region, from the values of instances and the deposits of the region.
  abbrev pub outcome : ℕ → (Instance → Option Value) → List Deposit → Option Computation → Value × List Deposit
  outcome number values room None = (value.Void, room)
  outcome number values room (Some c) =
      let origin = node_at j.flat c.0 c.2.origin in
      let written = unwrap_or (slice_get j.node_of origin) 0 in
      let a = evaluate j.texts j.patterns number j.flat written origin c.0 (λ i. unwrap_or (values i) value.Void) c.2.value room in
      (kept_value (attribute_of j.symbols c.1 c.2.goal) a.0, a.1)

  -- what the instance's computation gives in its region
  abbrev pub gives : Instance → (Instance → Option Value) → List Deposit → Value × List Deposit
  gives i values room = outcome (home i) values room (computation_of i)

  -- the instances in the order of the plan
  abbrev pub instances_in_order : List Instance
  instances_in_order = whole_order j.flat j.seqs j.visits j.root

  -- an evaluation, and directly behind it a put where it is an attribute of a split node
  abbrev pub items_for : Instance → List (Item Instance)
  items_for i = if contains i.0 j.nodes then eval_of i ∷ put_of i ∷ [] else eval_of i ∷ []

  abbrev pub items : List (Item Instance)
  items = flat_map items_for instances_in_order

  abbrev pub machine : Machine Instance Value Deposit
  machine = record { whole = items; home = home; needs = needs; same = same_instance; gives = gives }

  -- the rooms of a state, one for each region; what a descriptor denotes doesn't depend on their space
  abbrev pub rooms_of : State Instance Value Deposit → List RoomState
  rooms_of s = map (λ r. record { number = r; deposits = s.rooms r; space = 0 }) (range_with_len 0 (suc (length j.nodes)))

  -- what is there stands, in these rooms, for a plain value that is there too
  abbrev pub IsReadAs : List RoomState → Option Value → Option Plain → Type 0
  IsReadAs rooms None p = p ≡ None
  IsReadAs rooms (Some v) p = (q : Plain) × (p ≡ Some q) × StandsFor j.texts j.patterns rooms v q

  -- Exactly the instances that have a value have a plain one, for which it stands in the state's rooms.
  abbrev pub Reads : State Instance Value Deposit → (Instance → Option Plain) → Type 0
  Reads s B = (i : Instance) → IsReadAs (rooms_of s) (s.values i) (B i)

  -- the number of `$out` among the root's attributes, the last one
  abbrev pub out : ℕ
  out = length (attrs_of j.symbols j.root) - 1

  -- What the type of a job keeps.
  pub record IsTask : Type 0 where
    pub formed : IsWellFormed j.symbols j.rules j.shapes j.root
    pub sound : IsSound j.symbols j.rules j.visits j.seqs
    pub fitting : IsFitting j.symbols j.rules j.shapes j.root (plain_tree j.texts j.written)
    pub flat_tree : IsFlatTree j.rules j.shapes j.written j.flat j.node_of
    pub limits : IsWithinLimits j.symbols j.rules j.flat
    pub root_bare : (a : AttrId) (attr : FlatAttr) → attribute_at j.symbols j.root a ≡ Some attr → is_synthesized attr.kind ≡ true
    pub root_out : (attr : FlatAttr) × (attribute_at j.symbols j.root (record { 0 = out }) ≡ Some attr) × (attr.ty ≡ type.Text)
    pub constants : (r : FlatRule) (c : FlatComp) → Contains j.rules r → Contains r.comps c → HasConstants c.value
    pub leaves : (n k : ℕ) (v : Value) → slice_get (items_of j.flat n) k ≡ Some (Leaf v) → IsNoText v
    pub few_nodes : length j.nodes ≤ 63
    pub nodes_ascend : IsStrictlyIncreasing j.nodes
    pub nodes_inside : All (λ n. (0 < n) × (n < length j.flat)) j.nodes

  -- the written node of a flat node
  abbrev pub written_at : ℕ → ℕ
  written_at n = unwrap_or (slice_get j.node_of n) 0

  -- the order of messages: by written node, then by flat node, then by attribute
  abbrev pub IsEarlier : Instance → Instance → Type 0
  IsEarlier i k = (written_at i.0 < written_at k.0) ⊎ ((written_at i.0 ≡ written_at k.0) × ((i.0 < k.0) ⊎ ((i.0 ≡ k.0) × (i.1 < k.1))))

  -- the instance is of an attribute that is marked as a message
  abbrev pub IsMessage : Instance → Type 0
  IsMessage i = (r : FlatRule) × (attr : FlatAttr) × HasRule j.rules j.flat i.0 r × (slice_get (attrs_of j.symbols r.left) i.1 ≡ Some attr) × (attr.message ≡ true)

  -- the note tells this text of this instance, which isn't empty
  abbrev pub Tells : State Instance Value Deposit → Instance → Note → Type 0
  Tells s i note = (note.node ≡ written_at i.0) × (s.values i ≡ Some (value.Text note.text)) × (0 < note.text.len)

  -- the notes of a state: one for each message with a text that isn't empty, in the order of messages
  pub record AreNotes (s : State Instance Value Deposit) (notes : List Note) : Type 0 where
    pub sources : List Instance
    pub exactly : (i : Instance) → Contains sources i ↔ (IsMessage i × (note : Note) × Tells s i note)
    pub ordered : AllPairs IsEarlier sources
    pub tell : AllZip (Tells s) sources notes

  -- The result of a state in which all is evaluated: the value of `$out` at the root, the least origin of a Bad value among the
  -- attributes that are marked as written, the notes, and the rooms.
  pub record IsResult (s : State Instance Value Deposit) (output : Value) (bad : Option Origin) (notes : List Note) (rooms : List RoomState) : Type 0 where
    pub value : s.values (0, out) ≡ Some output
    pub least : (o : Origin) → bad ≡ Some o → IsLeastFault j.symbols j.rules j.flat (λ i. option_map (plain j.texts) (s.values i)) o
    pub none : bad ≡ None → (o : Origin) → ¬ IsFaultyAt j.symbols j.rules j.flat (λ i. option_map (plain j.texts) (s.values i)) o
    pub noted : AreNotes s notes
    pub each_room : map (λ (room : RoomState). room.number) rooms ≡ range_with_len 0 (suc (length j.nodes))
    pub deposits : map (λ (room : RoomState). room.deposits) rooms ≡ map s.rooms (range_with_len 0 (suc (length j.nodes)))

-- Every job's whole order has each instance once, behind all on which it depends.
abbrev pub WholeOrder : Type 0
WholeOrder = (j : Task) → IsTask j → IsInOrder j.symbols j.rules j.flat (instances_in_order j)

-- The values of the final state, with texts read, are an attribution of the flat tree, and it has no other.
abbrev pub OnlyAttribution : Type 0
OnlyAttribution = (j : Task) → IsTask j → (B : Instance → Option Plain) × Reads j (final (machine j)) B
    × IsFlatAttribution j.symbols j.rules (environment j) (plain_tree j.texts j.flat) j.node_of B
    × ((C : Instance → Option Plain) → IsFlatAttribution j.symbols j.rules (environment j) (plain_tree j.texts j.flat) j.node_of C → C ≡ B)

abbrev pub EachUsesOne : Type 0
EachUsesOne = (j : Task) → IsTask j → UsesOne (machine j)

abbrev pub NeverStuck : Type 0
NeverStuck = (j : Task) → IsTask j → IsNeverStuck (machine j)

abbrev pub OneEnd : Type 0
OneEnd = (j : Task) → IsTask j → HasOneEnd (machine j)
