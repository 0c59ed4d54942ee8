-- The value of an expression at a context node, where attributes and chain values are looked up in an assignment.
use Rattle.std.specs.Prelude.{ℕ, zero, suc, ℤ, pos, if◌then◌else◌, List, [], ◌∷◌, map, Option, Some, None, option_and_then}
use Rattle.std.specs.Option.{option_map_or}
use Rattle.lido_base.specs.Plain.{Plain, Bad, Void}
use Rattle.lido_base.specs.Plain as plain
use Rattle.lido_base.specs.Tree.{Tree, Item, Child, Leaf, child_number, item_at, coordinate, contains}
use Rattle.lido_syntax.specs.declared.spec.Spec.{Spec}
use Rattle.lido_syntax.specs.declared.spec.Name.{Name}
use Rattle.lido_syntax.specs.declared.spec.RuleItem.{RuleItem}
use Rattle.lido_syntax.specs.declared.spec.Place.{Place}
use Rattle.lido_syntax.specs.declared.spec.Place.TheVariants as place
use Rattle.lido_syntax.specs.declared.spec.Expr.{Expr, Int, Str, Bool, Terminal, Read, Including, Constituents, Call', Row_of-Expr, end_of-Expr, more_of-Expr}
use Rattle.lido_syntax.specs.Production.{name_of, occurrence}
use Rattle.lido_syntax.specs.Assignment.{Assignment, Attribute, Front, value_at}
use Rattle.lido_base.specs.Environment.{Environment}
use Rattle.lido_syntax.specs.Computation.{Holder}
use Rattle.lido_syntax.specs.Coordinates.{coordinate_named}
use Rattle.lido_syntax.specs.Functions.{text_of, called}
use Rattle.lido_syntax.specs.Sets.{Sets}
use Rattle.lido_syntax.specs.Including.{up}
use Rattle.lido_syntax.specs.Constituents.{constituents_at}

-- the value of a terminal
abbrev pub leaf_of : Item Plain → Plain
leaf_of (Leaf v) = v
leaf_of (Child c) = Void

module _ (spec : Spec) (sets : Sets spec) (env : Environment) (t : Tree Plain) (A : Assignment) where
  -- an attribute of a node, or of a chain what stands in front of the node
  abbrev pub seen : ℕ → ℕ → Plain
  seen a n = value_at A n (if contains a (map (λ x. name_of x.name) spec.chains) then Front a else Attribute a)

  -- At the context node n, whose rule is r, in the computation of that number in a body of that holder, where `tail` says what TAIL of a chain gives.
  module _ (h : Holder) (r : RuleItem) (number n : ℕ) (tail : ℕ → Plain) where
    -- the node at an occurrence of the rule, if a node stands there
    abbrev pub node_at : ℕ → Option ℕ
    node_at zero = Some n
    node_at (suc k) = option_and_then child_number (item_at t n (suc k))

    -- what a read of an attribute or chain gives
    abbrev pub read : Place → ℕ → Plain
    read (place.Named x i) a = option_map_or (seen a) (option_and_then node_at (occurrence r x i)) Void
    read place.Tail c = tail c
    read _ a = seen a n

    -- what a bare name gives: a coordinate of the context node, or else the value of a terminal
    abbrev pub bare : Name → Option ℤ → Plain
    bare x i = elim (coordinate_named env h r x i) [
      | Some part ↦ plain.Int (pos (coordinate t n part))
      | None ↦ option_map_or leaf_of (option_and_then (item_at t n) (occurrence r x i)) Void
    ]

    abbrev mutual
      pub value : Expr → Plain
      value (Int at z) = plain.Int z
      value (Str at s) = plain.Str (text_of env s.0)
      value (Bool at b) = plain.Truth b
      value (Terminal x i) = bare x i
      value (Read at p a) = read p (name_of a)
      value (Including at pairs) = option_map_or (λ m. value_at A m.0 (Attribute m.1)) (up spec sets t pairs n) Void
      value (Constituents k) = constituents_at spec sets env t A k n k.with
      value (Call' f shape args) = called env (name_of f) (λ kind. Bad (record { node = n; comp = number; kind = kind })) (values args)

      pub values : {m : _} → Row_of-Expr m → List Plain
      values end_of-Expr = []
      values (more_of-Expr e es) = value e ∷ values es
