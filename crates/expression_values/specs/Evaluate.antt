-- What an expression gives in a region: a value, and the room's deposits afterwards. Arguments are evaluated from the left, each
-- before its operation; of an IF the branch that is chosen alone.
use Rattle.std.specs.Prelude.{ℕ, zero, suc, pos, true, false, List, [], ◌∷◌, Option, Some, None, slice_get}
use Rattle.lido_base.specs.declared.value.Value.{Value}
use Rattle.lido_base.specs.declared.value.Value.TheVariants as value
use Rattle.lido_base.specs.declared.kinds.CoordPart.{CoordPart}
use Rattle.lido_base.specs.declared.pattern.Pattern.{Pattern}
use Rattle.string_librarian.specs.Rooms.{Deposit}
use Rattle.value_ops.specs.Outcome.{first_bad}
use Rattle.value_ops.specs.Results.{result_of}
use Rattle.flat_grammar.specs.declared.flat.Occ.{Occ}
use Rattle.flat_grammar.specs.declared.flat.FlatExpr.{FlatExpr, Value as Constant, Terminal, Read, Coord, Apply', If', Order', Row_of-FlatExpr, end_of-FlatExpr, more_of-FlatExpr}

-- the last of the values
abbrev pub last_value : List Value → Value
last_value [] = value.Void
last_value (v ∷ []) = v
last_value (v ∷ w ∷ vs) = last_value (w ∷ vs)

-- the first Bad, or else the last
abbrev pub in_order : List Value → Value
in_order vs = elim (first_bad vs) [ None ↦ last_value vs | Some o ↦ value.Bad o ]

-- the same, in the room that was left
abbrev pub in_turn : List Value × List Deposit → Value × List Deposit
in_turn (vs, ds) = (in_order vs, ds)

-- the branch that the condition chooses, counted from 0, in the room that the condition left
abbrev pub decided : (ℕ → List Deposit → Value × List Deposit) → Value × List Deposit → Value × List Deposit
decided branch (value.Bad o, ds) = (value.Bad o, ds)
decided branch (value.Bool true, ds) = branch 0 ds
decided branch (value.Bool false, ds) = branch 1 ds
decided branch (_, ds) = (value.Void, ds)

-- For a computation at a node: the number of the room, the written node of what fails, the terminals, the values that are read, and
-- the line and the column.
module _ (texts : List (List ℕ)) (patterns : List Pattern) (number written : ℕ) (leaf : ℕ → Value) (read : Occ → Value) (coord : CoordPart → ℕ) where
  abbrev mutual
    pub evaluate : FlatExpr → List Deposit → Value × List Deposit
    evaluate (Constant v) ds = (v, ds)
    evaluate (Terminal k) ds = (leaf k, ds)
    evaluate (Read o) ds = (read o, ds)
    evaluate (Coord part) ds = (value.Int (pos (coord part)), ds)
    evaluate (Apply' comp op shape args) ds = let a = evaluate_all args ds in result_of texts patterns number written comp op a.0 a.1
    evaluate (If' shape args) ds = evaluate_if args ds
    evaluate (Order' shape args) ds = in_turn (evaluate_all args ds)

    pub evaluate_all : {m : _} → Row_of-FlatExpr m → List Deposit → List Value × List Deposit
    evaluate_all end_of-FlatExpr ds = ([], ds)
    evaluate_all (more_of-FlatExpr e es) ds = let a = evaluate e ds in let b = evaluate_all es a.1 in (a.0 ∷ b.0, b.1)

    pub evaluate_if : {m : _} → Row_of-FlatExpr m → List Deposit → Value × List Deposit
    evaluate_if end_of-FlatExpr ds = (value.Void, ds)
    evaluate_if (more_of-FlatExpr e es) ds = decided (λ k room. evaluate_at es k room) (evaluate e ds)

    pub evaluate_at : {m : _} → Row_of-FlatExpr m → ℕ → List Deposit → Value × List Deposit
    evaluate_at end_of-FlatExpr k ds = (value.Void, ds)
    evaluate_at (more_of-FlatExpr e es) zero ds = evaluate e ds
    evaluate_at (more_of-FlatExpr e es) (suc k) ds = evaluate_at es k ds

  -- the same along a list of expressions
  abbrev pub evaluate_list : List FlatExpr → List Deposit → List Value × List Deposit
  evaluate_list [] ds = ([], ds)
  evaluate_list (e ∷ es) ds = let a = evaluate e ds in let b = evaluate_list es a.1 in (a.0 ∷ b.0, b.1)

  -- the expression that is there, or else Void
  abbrev pub evaluate_branch : Option FlatExpr → List Deposit → Value × List Deposit
  evaluate_branch None ds = (value.Void, ds)
  evaluate_branch (Some e) ds = evaluate e ds

  abbrev pub evaluate_choice : List FlatExpr → List Deposit → Value × List Deposit
  evaluate_choice [] ds = (value.Void, ds)
  evaluate_choice (e ∷ es) ds = decided (λ k room. evaluate_branch (slice_get es k) room) (evaluate e ds)
