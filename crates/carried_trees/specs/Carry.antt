-- What an assignment of the written tree is in the flat tree: a value for each attribute of each flat node, by what the attribute is.
use Rattle.std.specs.Prelude.{nat_eq, ℕ, List, [], ◌∷◌, ◌++◌, find, Option, Some, None, slice_get, unwrap_or, option_map, option_and_then}
use Rattle.std.specs.Option.{option_map_or}
use Rattle.lido_base.specs.Plain.{Plain, Void, Text, Bad}
use Rattle.lido_base.specs.Operations.{kept, chosen, printed}
use Rattle.lido_base.specs.Tree.{rule_at, children, ancestors, from_children}
use Rattle.lido_syntax.specs.declared.spec.Pair.{Pair}
use Rattle.lido_syntax.specs.declared.spec.Cons.{Cons}
use Rattle.lido_syntax.specs.declared.spec.With.{With}
use Rattle.lido_syntax.specs.declared.spec.Typed1.{Typed1}
use Rattle.lido_syntax.specs.declared.spec.Expr.{Expr}
use Rattle.lido_syntax.specs.declared.spec.RuleItem.{RuleItem}
use Rattle.lido_syntax.specs.declared.spec.Severity.{Severity}
use Rattle.lido_syntax.specs.declared.spec.Target.{Target}
use Rattle.lido_syntax.specs.declared.spec.Target.TheVariants as target
use Rattle.lido_syntax.specs.Production.{name_of}
use Rattle.lido_syntax.specs.Computation.{Goal, by_rule}
use Rattle.lido_syntax.specs.Computation as goal
use Rattle.lido_syntax.specs.Assignment.{Assignment, Attribute, value_at}
use Rattle.lido_syntax.specs.Assignment as at
use Rattle.lido_syntax.specs.Including.{nearest}
use Rattle.lido_syntax.specs.Constituents.{folded, weight_of}
use Rattle.lido_syntax.specs.Value.{value}
use Rattle.flat_grammar.specs.WholeOrder.{Instance}
use Rattle.rule_tables.specs.PlainRules.{PlainRule, Role, Whole, Listing, Link, End}
use Rattle.rule_tables.specs.Forced.{Force, force_for}
use Rattle.rule_tables.specs.Needs.{rules}
use Rattle.rule_tables.specs.Slots.{Slot, Written, Inc, Con, Front, Behind, Msg, Out}
use Rattle.rule_tables.specs.Shares.{last_of}
use Rattle.rule_tables.specs.Copies.{label, line_feed}
use Rattle.carried_trees.specs.Flattening.{Flattening, Trees}

module _ (f : Flattening) (x : Trees) where
  -- the written node of a flat node, and its plain rule
  abbrev pub origin_of : ℕ → ℕ
  origin_of n = unwrap_or (slice_get x.node_of n) 0

  abbrev pub plain_at : ℕ → Option PlainRule
  plain_at n = option_and_then (slice_get (rules f.spec f.tables)) (rule_at x.flat n)

  -- the written nodes that are elements from this cell on
  abbrev pub and_next : (ℕ → List ℕ) → List ℕ → List ℕ
  and_next elements (e ∷ c ∷ []) = origin_of e ∷ elements c
  and_next elements _ = []

  unfoldable pub elements_from : ℕ → List ℕ
  elements_from = from_children x.flat [] (λ elements n. and_next elements (children x.flat n))

  module _ (A : Assignment) where
    -- INCLUDING: the attribute that the pairs list for the nearest of these nodes
    abbrev pub value_of_nearest : List ℕ → Option (List Pair) → Plain
    value_of_nearest nodes None = Void
    value_of_nearest nodes (Some pairs) = option_map_or (λ (m : ℕ × ℕ). value_at A m.0 (Attribute m.1)) (nearest f.spec f.tables.sets x.written pairs nodes) Void

    -- CONSTITUENTS: what the one of that number gives, where it has a WITH
    abbrev pub by_with : (Cons → With → Plain) → ℕ → Plain
    by_with give n = elim (find (λ (k : Cons). nat_eq k.number n) f.tables.constituents) [ None ↦ Void | Some k ↦ option_map_or (give k) k.with Void ]

    abbrev pub weight : ℕ → Cons → With → Plain
    weight w k with = weight_of f.spec f.tables.sets f.env x.written A k with w

    -- the fold over these nodes, at the list's node w
    abbrev pub gathered : ℕ → List ℕ → Cons → With → Plain
    gathered w nodes k with = folded f.spec f.tables.sets f.env x.written A k with (weight_of f.spec f.tables.sets f.env x.written A k with) w nodes

    -- what is in force at the left side of a written node's rule
    abbrev pub force_at : ℕ → Goal → Option Force
    force_at w g = force_for (unwrap_or (option_and_then (slice_get f.tables.forced) (rule_at x.written w)) []) 0 g

    -- the value of an expression of such a computation
    abbrev pub value_there : (ℕ → Plain) → ℕ → Force → Expr → Plain
    value_there tail w c e = option_map_or (λ (r : RuleItem). value f.spec f.tables.sets f.env x.written A c.holder r c.comp.number w tail e) (option_and_then (slice_get f.spec.rules) (rule_at x.written w)) Void

    -- CHAIN: what an attribute of the chain keeps, what a first child has in front, and what is behind the last one
    abbrev pub kept_by : ℕ → Plain → Plain
    kept_by c v = elim (find (λ (d : Typed1). nat_eq (name_of d.name) c) f.spec.chains) [ None ↦ v | Some d ↦ kept d.ty v ]

    abbrev pub entry_value : ℕ → ℕ → Plain
    entry_value w c = elim (force_at w (goal.Start c)) [ None ↦ value_at A w (at.Front c) | Some s ↦ value_there (λ chain. Void) w s s.comp.value ]

    abbrev pub tail_value : ℕ → ℕ → Plain
    tail_value w c = elim (last_of (children x.written w)) [ None ↦ entry_value w c | Some m ↦ value_at A m (at.Behind c) ]

    -- messages: the text with its severity before and a line feed behind, and the empty text where the condition is false
    abbrev pub labelled : Severity → Plain → Plain
    labelled severity (Bad o) = Bad o
    labelled severity v = Text (label severity ++ printed v ++ line_feed)

    abbrev pub message_to : ℕ → Force → Target → Plain
    message_to w c (target.Message severity None) = labelled severity (value_there (tail_value w) w c c.comp.value)
    message_to w c (target.Message severity (Some e)) =
        chosen (value_there (tail_value w) w c e ∷ labelled severity (value_there (tail_value w) w c c.comp.value) ∷ Text [] ∷ [])
    message_to w c _ = Text []

    abbrev pub message_value : ℕ → ℕ → Plain
    message_value w j = elim (force_at w (goal.Message j)) [ None ↦ Text [] | Some c ↦ message_to w c c.comp.target ]

    abbrev pub output_value : ℕ → Plain
    output_value w = elim (force_at w goal.Output) [ None ↦ Text [] | Some c ↦ value_there (tail_value w) w c c.comp.value ]

    -- at a node
    abbrev pub at_node : ℕ → Slot → Plain
    at_node w (Written a) = value_at A w (Attribute a)
    at_node w (Inc i) = value_of_nearest (ancestors x.written w) (slice_get f.tables.includings i)
    at_node w (Con n) = by_with (weight w) n
    at_node w (Front c) = value_at A w (at.Front c)
    at_node w (Behind c) = value_at A w (at.Behind c)
    at_node w (Msg j) = message_value w j
    at_node w Out = output_value w

    -- at a cell of list node w, with the elements from there on
    abbrev pub at_cell : ℕ → List ℕ → Slot → Plain
    at_cell w es (Inc i) = value_of_nearest (w ∷ ancestors x.written w) (slice_get f.tables.includings i)
    at_cell w es (Con n) = by_with (gathered w es) n
    at_cell w [] (Front c) = kept_by c (tail_value w c)
    at_cell w (e ∷ es) (Front c) = value_at A e (at.Front c)
    at_cell w es (Behind c) = kept_by c (tail_value w c)
    at_cell w es _ = Void

    abbrev pub by_role : Role → ℕ → Slot → Plain
    by_role Whole n = at_node (origin_of n)
    by_role Listing n = at_node (origin_of n)
    by_role (Link s) n = at_cell (origin_of n) (elements_from n)
    by_role End n = at_cell (origin_of n) (elements_from n)

    -- what stands at a flat node, by what its attribute is
    abbrev pub carried : ℕ → Slot → Plain
    carried n s = elim (plain_at n) [ None ↦ Void | Some p ↦ by_role p.role n s ]

    -- what stands at the number of an attribute
    abbrev pub carry : Instance → Option Plain
    carry i = option_map (carried i.0) (option_and_then (λ (p : PlainRule). slice_get (f.slots p.left) i.1) (plain_at i.0))
