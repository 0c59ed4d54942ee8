-- The evaluation of an expression deposits at most its text cells.
use Rattle.std.specs.Prelude.{map, nat_le, if◌then◌else◌}
use Rattle.std.proofs.Common.{◌≡◌, ℕ, zero, suc, ◌+◌, ◌≤◌, List, [], ◌∷◌, ◌++◌, length, Bool, true, false, Option, Some, None, refl, arith, ap}
use Rattle.lido_base.specs.declared.kinds.CoordPart.{CoordPart}
use Rattle.lido_base.specs.declared.value.Value.{Value}
use Rattle.lido_base.specs.declared.value.Value.TheVariants as value
use Rattle.lido_base.specs.declared.value.Origin.{Origin}
use Rattle.lido_base.specs.declared.operation.Op.{Op}
use Rattle.lido_base.specs.declared.operation.Op.TheVariants as op
use Rattle.lido_base.specs.declared.pattern.Pattern.{Pattern}
use Rattle.lido_base.specs.declared.pattern.Piece.{Piece}
use Rattle.lido_base.specs.Operations.{operate}
use Rattle.lido_base.specs.Plain.{plain}
use Rattle.lido_base.specs.declared.value.BadKind.TheVariants.{TextTooLong}
use Rattle.string_librarian.specs.Rooms.{Deposit, cells_of}
use Rattle.string_librarian.specs.Parts.{parts_of}
use Rattle.value_ops.specs.Outcome.{bad_at, first_bad, handed_on, piece_of, fits}
use Rattle.value_ops.specs.Lengths.{parts_len}
use Rattle.value_ops.specs.Results.{from_plain, text_result, piece_result, result_of}
use Rattle.flat_grammar.specs.declared.flat.Occ.{Occ}
use Rattle.flat_grammar.specs.declared.flat.FlatExpr.{FlatExpr, Value as Constant, Terminal, Read, Coord, Apply', If', Order', Row_of-FlatExpr, end_of-FlatExpr, more_of-FlatExpr}
use Rattle.flat_grammar.specs.Fitting.{own_cells, cells, cells_of_all, width}
use Rattle.expression_values.specs.Evaluate.{evaluate, evaluate_all, evaluate_if, evaluate_at, decided}

cells-push : (ds : List Deposit) (d : Deposit) → cells_of (ds ++ d ∷ []) ≡ cells_of ds + (1 + length d.args)
cells-push [] d = omega arith
cells-push (x ∷ ds) d = let e = cells-push ds d in omega (arith, e)

piece-cells : (o : Op) (piece : Piece) (k : ℕ) → piece_of o ≡ Some piece → own_cells o k ≡ suc k
piece-cells op.Numb piece k e = refl
piece-cells op.AsIs piece k e = refl
piece-cells op.Seq piece k e = refl
piece-cells (op.Pattern p) piece k e = refl
piece-cells _ piece k e = cc

-- the cells of the deposits that are left
abbrev left-cells : Value × List Deposit → ℕ
left-cells p = cells_of p.1

module _ (texts : List (List ℕ)) (patterns : List Pattern) (number written : ℕ) where
  piece-within : (comp : ℕ) (piece : Piece) (args : List Value) (ds : List Deposit) → cells_of (piece_result texts patterns number written comp piece args ds).1 ≤ cells_of ds + suc (length args)
  piece-within comp piece args ds = go (fits piece args)
    where
      text : (len : ℕ) (b : Bool) → left-cells (if b then (value.Text (record { room = number; node = 1 + cells_of ds; len = len }), ds ++ record { piece = piece; args = args; len = len } ∷ [])
          else (value.Bad (record { node = written; comp = comp; kind = TextTooLong }), ds)) ≤ cells_of ds + suc (length args)
      text len true = let e = cells-push ds (record { piece = piece; args = args; len = len }) in omega (arith, e)
      text len false = omega arith

      go : (b : Bool) → left-cells (if b then text_result texts patterns number written comp (parts_len texts args (parts_of patterns piece)) piece args ds else (value.Void, ds)) ≤ cells_of ds + suc (length args)
      go true = text (parts_len texts args (parts_of patterns piece)) (nat_le (parts_len texts args (parts_of patterns piece)) 1073741824)
      go false = omega arith

  pub result-within : (comp : ℕ) (o : Op) (args : List Value) (ds : List Deposit) → cells_of (result_of texts patterns number written comp o args ds).1 ≤ cells_of ds + own_cells o (length args)
  result-within comp o args ds = bad (first_bad args)
    where
      pieces : (x : Option Piece) → piece_of o ≡ x → left-cells (elim x [
        | None ↦ (from_plain (operate texts patterns (bad_at written comp) o (map (plain texts) args)), ds)
        | Some piece ↦ piece_result texts patterns number written comp piece args ds
      ]) ≤ cells_of ds + own_cells o (length args)
      pieces None e = omega arith
      pieces (Some piece) e = let a = piece-within comp piece args ds in let b = piece-cells o piece (length args) e in omega (arith, a, b)

      handed : (x : Option Value) → left-cells (elim x [
        | Some v ↦ (v, ds)
        | None ↦ elim (piece_of o) [
          | None ↦ (from_plain (operate texts patterns (bad_at written comp) o (map (plain texts) args)), ds)
          | Some piece ↦ piece_result texts patterns number written comp piece args ds
        ]
      ]) ≤ cells_of ds + own_cells o (length args)
      handed (Some v) = omega arith
      handed None = pieces (piece_of o) refl

      bad : (x : Option Origin) → left-cells (elim x [
        | Some o ↦ (value.Bad o, ds)
        | None ↦ elim (handed_on o args) [
          | Some v ↦ (v, ds)
          | None ↦ elim (piece_of o) [
            | None ↦ (from_plain (operate texts patterns (bad_at written comp) o (map (plain texts) args)), ds)
            | Some piece ↦ piece_result texts patterns number written comp piece args ds
          ]
        ]
      ]) ≤ cells_of ds + own_cells o (length args)
      bad (Some x) = omega arith
      bad None = handed (handed_on o args)

module _ (texts : List (List ℕ)) (patterns : List Pattern) (number written : ℕ) (leaf : ℕ → Value) (read : Occ → Value) (coord : CoordPart → ℕ) where
  abbrev one : FlatExpr → List Deposit → Value × List Deposit
  one = evaluate texts patterns number written leaf read coord

  all-width : {m : _} (es : Row_of-FlatExpr m) (ds : List Deposit) → length (evaluate_all texts patterns number written leaf read coord es ds).0 ≡ width es
  all-width end_of-FlatExpr ds = refl
  all-width (more_of-FlatExpr e es) ds = ap suc (all-width es (one e ds).1)

  decided-within : (branch : ℕ → List Deposit → Value × List Deposit) (v : Value) (ds : List Deposit) (n : ℕ) → ((k : ℕ) (room : List Deposit) → cells_of (branch k room).1 ≤ cells_of room + n)
      → cells_of (decided branch (v, ds)).1 ≤ cells_of ds + n
  decided-within branch (value.Bad o) ds n h = omega arith
  decided-within branch (value.Bool true) ds n h = h 0 ds
  decided-within branch (value.Bool false) ds n h = h 1 ds
  decided-within branch (value.Int z) ds n h = omega arith
  decided-within branch (value.Str z) ds n h = omega arith
  decided-within branch (value.Text z) ds n h = omega arith
  decided-within branch value.Void ds n h = omega arith

  mutual
    pub evaluate-within : (e : FlatExpr) (ds : List Deposit) → cells_of (evaluate texts patterns number written leaf read coord e ds).1 ≤ cells_of ds + cells e
    evaluate-within (Constant v) ds = omega arith
    evaluate-within (Terminal k) ds = omega arith
    evaluate-within (Read o) ds = omega arith
    evaluate-within (Coord part) ds = omega arith
    evaluate-within (Apply' comp o shape args) ds =
        let a = evaluate_all texts patterns number written leaf read coord args ds in
        let b = all-within args ds in
        let c = result-within texts patterns number written comp o a.0 a.1 in
        let d = ap (own_cells o) (all-width args ds) in
        omega (arith, b, c, d)
    evaluate-within (If' shape args) ds = if-within args ds
    evaluate-within (Order' shape args) ds = all-within args ds

    pub all-within : {m : _} (es : Row_of-FlatExpr m) (ds : List Deposit) → cells_of (evaluate_all texts patterns number written leaf read coord es ds).1 ≤ cells_of ds + cells_of_all es
    all-within end_of-FlatExpr ds = omega arith
    all-within (more_of-FlatExpr e es) ds = let a = evaluate-within e ds in let b = all-within es (one e ds).1 in omega (arith, a, b)

    if-within : {m : _} (es : Row_of-FlatExpr m) (ds : List Deposit) → cells_of (evaluate_if texts patterns number written leaf read coord es ds).1 ≤ cells_of ds + cells_of_all es
    if-within end_of-FlatExpr ds = omega arith
    if-within (more_of-FlatExpr e es) ds =
        let a = evaluate-within e ds in
        let b = decided-within (λ k room. evaluate_at texts patterns number written leaf read coord es k room) (one e ds).0 (one e ds).1 (cells_of_all es) (λ k room. at-within es k room) in
        omega (arith, a, b)

    at-within : {m : _} (es : Row_of-FlatExpr m) (k : ℕ) (ds : List Deposit) → cells_of (evaluate_at texts patterns number written leaf read coord es k ds).1 ≤ cells_of ds + cells_of_all es
    at-within end_of-FlatExpr k ds = omega arith
    at-within (more_of-FlatExpr e es) zero ds = let a = evaluate-within e ds in omega (arith, a)
    at-within (more_of-FlatExpr e es) (suc k) ds = let a = at-within es k ds in omega (arith, a)
