-- Where a cursor stands in the list of a region, which is stored nowhere: the visits under way, each with a place in its node's
-- sequence, from the region's root down. What is left of the list is what is left of these visits, the innermost first.
use Rattle.std.specs.Prelude.{◌≡◌, ◌≤◌, ◌<◌, ◌-◌, ◌+◌, ◌==◌, ℕ, suc, Bool, true, false, List, [], ◌∷◌, ◌++◌, if◌then◌else◌, length, map, filter, fold, max, flat_map, drop, Option, Some, None, slice_get}
use Rattle.std.specs.List.{range_with_len}
use Rattle.lido_base.specs.Tree.{ancestors, contains, parent_of, from_children}
use Rattle.tree_store.specs.Regions.{region}
use Rattle.flat_grammar.specs.declared.flat.Occ.{Occ}
use Rattle.flat_grammar.specs.declared.plan.PlanItem.{PlanItem}
use Rattle.flat_grammar.specs.declared.plan.PlanItem.TheVariants.{Eval, Visit, Leave}
use Rattle.flat_grammar.specs.WholeOrder.{Instance, segment, child_at, node_at, sequence_at}
use Rattle.flat_grammar.specs.Instances.{instance_at}
use Rattle.core_machine.specs.declared.cursor.Frame.{Frame}
use Rattle.core_machine.specs.declared.cursor.Item.{Item as Named}
use Rattle.core_machine.specs.declared.cursor.Item.TheVariants as named
use Rattle.core_machine.specs.Instances.{IsSite}
use Rattle.core_machine.specs.Machine.{Item, eval_of, put_of}
use Rattle.core_machine.specs.Core.{Task}
use Rattle.core_machine.specs.Keys.{IsShared, key_of}
use Rattle.core_machine.specs.Walks.{root_of, own_item, own_order}

-- A cursor: its region, whether what was evaluated last is still to be put, the visits under way with the outermost first, and for
-- how many it has room.
pub record CursorState : Type 0 where
  pub region : ℕ
  pub put : Bool
  pub frames : List Frame
  pub room : ℕ

-- the cursor with a visit more, the innermost
abbrev pub with_top : CursorState → Frame → CursorState
with_top c top = record { region = c.region; put = c.put; frames = c.frames ++ top ∷ []; room = c.room }

module _ (j : Task) where
  -- how many of these nodes stand up to the first split node, with it
  abbrev pub up_to_split : List ℕ → ℕ
  up_to_split [] = 0
  up_to_split (m ∷ more) = if contains m j.nodes then 1 else suc (up_to_split more)

  -- the level of a node in its region; the root of a region has level 1
  abbrev pub level : ℕ → ℕ
  level n = up_to_split (n ∷ ancestors j.flat n)

  -- how many levels a region has
  abbrev pub levels : ℕ → ℕ
  levels r = fold max 0 (map level (filter (λ n. region j.flat j.nodes n == r) (range_with_len 0 (length j.flat))))

  -- the items of the node's sequence from the place on
  abbrev pub rest_of : Frame → List PlanItem
  rest_of f = drop f.place (sequence_at j.flat j.seqs f.node)

  -- what items of a node's sequence give to the node's region
  abbrev pub taken : ℕ → List PlanItem → List (Item Instance)
  taken n some = flat_map (own_item j (own_order j) n) some

  -- what is left of visits below others, each up to its end
  abbrev pub left_inside : List Frame → List (Item Instance)
  left_inside [] = []
  left_inside (f ∷ inner) = left_inside inner ++ taken f.node (segment 0 (rest_of f))

  -- what is left of all visits under way, the outermost going along all visits of the region's root
  abbrev pub left_of : List Frame → List (Item Instance)
  left_of [] = []
  left_of (f ∷ inner) = left_inside inner ++ taken f.node (rest_of f)

  -- what is left of the region's list
  abbrev pub left : CursorState → List (Item Instance)
  left c = if c.put then drop 1 (left_of c.frames) else left_of c.frames

  -- each visit is of a child of the node of the one before, and of no split node
  abbrev pub IsBelow : ℕ → List Frame → Type 0
  IsBelow p [] = Unit {0}
  IsBelow p (f ∷ inner) = (parent_of j.flat f.node ≡ Some p) × (contains f.node j.nodes ≡ false) × IsBelow f.node inner

  -- the visits lead down from the root of the region
  abbrev pub IsPath : ℕ → List Frame → Type 0
  IsPath r [] = Unit {0}
  IsPath r (f ∷ inner) = (f.node ≡ root_of j.nodes r) × IsBelow f.node inner

  -- The visits are of nodes of the region, at most as many as it has levels, for which there is room.
  pub record IsInside (c : CursorState) : Type 0 where
    pub is_region : c.region ≤ length j.nodes
    pub path : IsPath c.region c.frames
    pub few : length c.frames ≤ levels c.region
    pub room : levels c.region ≤ c.room

  -- the innermost visit under way goes on with an evaluation
  abbrev pub IsReady : List Frame → Type 0
  IsReady frames = (front : List Frame) (top : Frame) → frames ≡ front ++ top ∷ [] → (o : Occ) × (slice_get (sequence_at j.flat j.seqs top.node) top.place ≡ Some (Eval o))

  -- what is to be put is an attribute of a split node
  abbrev pub IsToPut : List Frame → Type 0
  IsToPut frames = (front : List Frame) (top : Frame) (o : Occ) → frames ≡ front ++ top ∷ [] → slice_get (sequence_at j.flat j.seqs top.node) top.place ≡ Some (Eval o)
      → contains (node_at j.flat top.node o.occ) j.nodes ≡ true

  -- A cursor of the job: it stands at an item of its region's list, or at its end.
  pub record IsCursor (c : CursorState) : Type 0 where
    pub inside : IsInside c
    pub ready : IsReady c.frames
    pub to_put : c.put ≡ true → IsToPut c.frames

  -- An evaluation is named by the node whose rule computes and the goal, a put by its key.
  abbrev pub IsNamed : Named → Item Instance → Type 0
  IsNamed (named.Eval n o) x = (x ≡ eval_of (instance_at j.flat n.0 o)) × IsSite j.symbols j.rules j.flat (instance_at j.flat n.0 o) n.0 o
  IsNamed (named.Put key) x = (x ≡ put_of x.makes) × IsShared j x.makes × (key ≡ key_of j x.makes)

  -- the first of the items, if there is one
  abbrev pub IsFirst : List (Item Instance) → Option Named → Type 0
  IsFirst [] None = Unit {0}
  IsFirst [] (Some name) = ⊥
  IsFirst (x ∷ more) None = ⊥
  IsFirst (x ∷ more) (Some name) = IsNamed name x

  -- How many moves an item of node n's sequence takes, where `below` says it of the children's visits.
  abbrev pub visit_moves : (ℕ → ℕ → ℕ) → Option ℕ → ℕ → ℕ
  visit_moves below None v = 0
  visit_moves below (Some c) v = below c v

  abbrev pub item_moves : (ℕ → ℕ → ℕ) → ℕ → PlanItem → ℕ
  item_moves below n (Eval o) = 1
  item_moves below n (Visit k v) = suc (visit_moves below (child_at j.flat n k) v)
  item_moves below n (Leave v) = 1

  abbrev pub items_moves : (ℕ → ℕ → ℕ) → ℕ → List PlanItem → ℕ
  items_moves below n [] = 0
  items_moves below n (item ∷ more) = item_moves below n item + items_moves below n more

  -- how many a visit takes: those of its items, and one for its end
  unfoldable pub moves : ℕ → ℕ → ℕ
  moves = from_children j.flat (λ v. 0) (λ below n v. suc (items_moves below n (segment (v - 1) (sequence_at j.flat j.seqs n))))

  abbrev pub moves_along : ℕ → List PlanItem → ℕ
  moves_along n some = suc (items_moves moves n some)

  abbrev pub moves_inside : List Frame → ℕ
  moves_inside [] = 0
  moves_inside (f ∷ inner) = moves_inside inner + moves_along f.node (segment 0 (rest_of f))

  -- how many moves are left of all visits under way
  abbrev pub moves_left : List Frame → ℕ
  moves_left [] = 0
  moves_left (f ∷ inner) = moves_inside inner + moves_along f.node (rest_of f)

  -- A move leaves the same items of the list, and fewer moves.
  pub record IsMove (c d : CursorState) : Type 0 where
    pub inside : IsInside d
    pub region : d.region ≡ c.region
    pub put : d.put ≡ c.put
    pub left : left_of d.frames ≡ left_of c.frames
    pub fewer : moves_left d.frames < moves_left c.frames
