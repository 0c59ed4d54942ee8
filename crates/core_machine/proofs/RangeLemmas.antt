-- What operations and expressions give is in range, where what they are given is.
use Rattle.std.specs.Prelude.{nat_le, if◌then◌else◌, FitsSigned, int_le, int_lt, IsTrue, ⊤, ◌&&◌, ◌-◌, ◌^◌, int_div, int_rem, ◌+ℤ◌, ◌-ℤ◌, ◌*ℤ◌, neg_ℤ}
use Rattle.std.specs.Fmt.{signed_decimal}
use Rattle.std.specs.Int.{w64}
use Rattle.std.specs.Ordering.{int_eq}
use Rattle.std.proofs.Common.{◌≡◌, ℕ, zero, suc, ℤ, pos, negsuc, ◌+◌, ◌<◌, List, [], ◌∷◌, ◌++◌, length, map, leb-true, ltb-true, Bool, true, false, Option, Some, None, refl, arith, subst}
use Rattle.lido_base.specs.declared.kinds.CoordPart.{CoordPart}
use Rattle.lido_base.specs.declared.value.Value.{Value}
use Rattle.lido_base.specs.declared.value.Value.TheVariants as value
use Rattle.lido_base.specs.declared.value.Origin.{Origin}
use Rattle.lido_base.specs.declared.value.BadKind.{BadKind}
use Rattle.lido_base.specs.declared.value.BadKind.TheVariants.{Overflow, DivideByZero, TextTooLong}
use Rattle.lido_base.specs.declared.operation.Op.{Op}
use Rattle.lido_base.specs.declared.operation.Op.TheVariants as op
use Rattle.lido_base.specs.declared.pattern.Pattern.{Pattern}
use Rattle.lido_base.specs.declared.pattern.Piece.{Piece}
use Rattle.lido_base.specs.Plain.{Plain, Int, Truth, Str, Text, Void, Bad, plain}
use Rattle.lido_base.specs.Operations.{pattern_bytes, int, divided, text, applied, operate, unless_bad}
use Rattle.lido_base.specs.Ranges.{IsInRange, IsOriginInRange}
use Rattle.string_librarian.specs.Rooms.{Deposit, cells_of}
use Rattle.string_librarian.specs.Parts.{parts_of}
use Rattle.value_ops.specs.Outcome.{bad_at, first_bad, handed_on, piece_of, fits}
use Rattle.value_ops.specs.Lengths.{parts_len}
use Rattle.value_ops.specs.Results.{from_plain, text_result, piece_result, result_of}
use Rattle.flat_grammar.specs.declared.flat.Occ.{Occ}
use Rattle.flat_grammar.specs.declared.flat.FlatExpr.{FlatExpr, Value as Constant, Terminal, Read, Coord, Apply', If', Order', Row_of-FlatExpr, end_of-FlatExpr, more_of-FlatExpr}
use Rattle.flat_grammar.specs.Fitting.{cells, cells_of_all}
use Rattle.expression_values.specs.Evaluate.{evaluate, evaluate_all, evaluate_if, evaluate_at, decided, in_order, last_value}
use Rattle.lido_base.proofs.TreeLemmas.{both}
use Rattle.flat_grammar.proofs.Lists.{held}
use Rattle.core_machine.specs.Limits.{HasNumbers, HaveNumbers}
use Rattle.core_machine.proofs.Cells.{evaluate-within, all-within}

-- the numbers of a plain value
abbrev PlainInRange : Plain → Type 0
PlainInRange (Int z) = FitsSigned w64 z
PlainInRange (Bad o) = IsOriginInRange o
PlainInRange _ = ⊤

abbrev PlainsInRange : List Plain → Type 0
PlainsInRange [] = Unit {0}
PlainsInRange (p ∷ ps) = PlainInRange p × PlainsInRange ps

-- the numbers of values
abbrev pub AllInRange : List Value → Type 0
AllInRange [] = Unit {0}
AllInRange (v ∷ vs) = IsInRange v × AllInRange vs

plain-range : (texts : List (List ℕ)) (v : Value) → IsInRange v → PlainInRange (plain texts v)
plain-range texts (value.Int z) h = h
plain-range texts (value.Bool b) h = tt
plain-range texts (value.Str s) h = tt
plain-range texts (value.Text d) h = tt
plain-range texts value.Void h = tt
plain-range texts (value.Bad o) h = h

plains-range : (texts : List (List ℕ)) (vs : List Value) → AllInRange vs → PlainsInRange (map (plain texts) vs)
plains-range texts [] h = tt
plains-range texts (v ∷ vs) (h, more) = (plain-range texts v h, plains-range texts vs more)

from-range : (p : Plain) → PlainInRange p → IsInRange (from_plain p)
from-range (Int z) h = h
from-range (Truth b) h = tt
from-range (Str s) h = tt
from-range (Text d) h = tt
from-range Void h = tt
from-range (Bad o) h = h

fits-64 : (z : ℤ) → IsTrue (int_le (negsuc (2 ^ 63 - 1)) z && int_lt z (pos (2 ^ 63))) → FitsSigned w64 z
fits-64 (pos n) h = let b = (both (int_le (negsuc (2 ^ 63 - 1)) (pos n)) (int_lt (pos n) (pos (2 ^ 63))) h).1 in record { sfits = ltb-true n (2 ^ 63) b }
fits-64 (negsuc n) h = let b = (both (int_le (negsuc (2 ^ 63 - 1)) (negsuc n)) (int_lt (negsuc n) (pos (2 ^ 63))) h).0 in let l = leb-true n (2 ^ 63 - 1) b in record { sfits = omega (arith, l) }

module _ (node comp : ℕ) (few_nodes : node < 2 ^ 32) (few_comps : comp < 2 ^ 16) where
  abbrev fails : BadKind → Plain
  fails = bad_at node comp

  fail-range : (kind : BadKind) → PlainInRange (bad_at node comp kind)
  fail-range kind = record { node = few_nodes; comp = few_comps }

  int-range : (z : ℤ) → PlainInRange (int (bad_at node comp) z)
  int-range z = go (int_le (negsuc (2 ^ 63 - 1)) z && int_lt z (pos (2 ^ 63))) refl
    where
      go : (b : Bool) → (int_le (negsuc (2 ^ 63 - 1)) z && int_lt z (pos (2 ^ 63))) ≡ b → PlainInRange (if b then Int z else bad_at node comp Overflow)
      go true e = fits-64 z e
      go false e = fail-range Overflow

  divided-range : (by : ℤ → ℤ → ℤ) (x y : ℤ) → PlainInRange (divided (bad_at node comp) by x y)
  divided-range by x y = go (int_eq y (pos 0))
    where
      go : (b : Bool) → PlainInRange (if b then bad_at node comp DivideByZero else int (bad_at node comp) (by x y))
      go true = fail-range DivideByZero
      go false = int-range (by x y)

  text-range : (bytes : List ℕ) → PlainInRange (text (bad_at node comp) bytes)
  text-range bytes = go (nat_le (length bytes) (2 ^ 30))
    where
      go : (b : Bool) → PlainInRange (if b then Text bytes else bad_at node comp TextTooLong)
      go true = tt
      go false = fail-range TextTooLong

  module _ (texts : List (List ℕ)) (patterns : List Pattern) where
    applied-range : (o : Op) (args : List Plain) → PlainsInRange args → PlainInRange (applied texts patterns (bad_at node comp) o args)
    applied-range op.Add (Int x ∷ Int y ∷ []) h = int-range (x +ℤ y)
    applied-range op.Sub (Int x ∷ Int y ∷ []) h = int-range (x -ℤ y)
    applied-range op.Mul (Int x ∷ Int y ∷ []) h = int-range (x *ℤ y)
    applied-range op.Div (Int x ∷ Int y ∷ []) h = divided-range int_div x y
    applied-range op.Mod (Int x ∷ Int y ∷ []) h = divided-range int_rem x y
    applied-range op.Neg (Int x ∷ []) h = int-range (neg_ℤ x)
    applied-range op.Identical (v ∷ []) h = h.0
    applied-range op.Zero [] h = record { sfits = omega arith }
    applied-range op.One [] h = record { sfits = omega arith }
    applied-range op.ArgToOne (v ∷ []) h = record { sfits = omega arith }
    applied-range op.Numb (Int x ∷ []) h = text-range (signed_decimal x)
    applied-range op.AsIs (Str bytes ∷ []) h = text-range bytes
    applied-range op.Seq (Text a ∷ Text b ∷ []) h = text-range (a ++ b)
    applied-range (op.Pattern k) args h = text-range (pattern_bytes texts patterns k args)
    applied-range op.And (Truth a ∷ Truth b ∷ []) h = tt
    applied-range op.Or (Truth a ∷ Truth b ∷ []) h = tt
    applied-range op.Not (Truth a ∷ []) h = tt
    applied-range op.Eq (Int x ∷ Int y ∷ []) h = tt
    applied-range op.Eq (Str x ∷ Str y ∷ []) h = tt
    applied-range op.Eq (Truth a ∷ Truth b ∷ []) h = tt
    applied-range op.Ne (Int x ∷ Int y ∷ []) h = tt
    applied-range op.Ne (Str x ∷ Str y ∷ []) h = tt
    applied-range op.Ne (Truth a ∷ Truth b ∷ []) h = tt
    applied-range op.Lt (Int x ∷ Int y ∷ []) h = tt
    applied-range op.Le (Int x ∷ Int y ∷ []) h = tt
    applied-range op.Gt (Int x ∷ Int y ∷ []) h = tt
    applied-range op.Ge (Int x ∷ Int y ∷ []) h = tt
    applied-range op.Null [] h = tt
    applied-range _ _ h = tt

    unless-range : (args : List Plain) (v : Plain) → PlainsInRange args → PlainInRange v → PlainInRange (unless_bad args v)
    unless-range [] v h g = g
    unless-range (Bad o ∷ vs) v h g = h.0
    unless-range (Int z ∷ vs) v h g = unless-range vs v h.1 g
    unless-range (Truth z ∷ vs) v h g = unless-range vs v h.1 g
    unless-range (Str z ∷ vs) v h g = unless-range vs v h.1 g
    unless-range (Text z ∷ vs) v h g = unless-range vs v h.1 g
    unless-range (Void ∷ vs) v h g = unless-range vs v h.1 g

    operate-range : (o : Op) (args : List Plain) → PlainsInRange args → PlainInRange (operate texts patterns (bad_at node comp) o args)
    unfolding operate
    operate-range o args h = unless-range args (applied texts patterns (bad_at node comp) o args) h (applied-range o args h)

    bad-range : (args : List Value) (o : Origin) → AllInRange args → first_bad args ≡ Some o → IsOriginInRange o
    bad-range [] o h e = cc
    bad-range (value.Bad x ∷ vs) o h e = subst IsOriginInRange (held e) h.0
    bad-range (value.Int z ∷ vs) o h e = bad-range vs o h.1 e
    bad-range (value.Bool z ∷ vs) o h e = bad-range vs o h.1 e
    bad-range (value.Str z ∷ vs) o h e = bad-range vs o h.1 e
    bad-range (value.Text z ∷ vs) o h e = bad-range vs o h.1 e
    bad-range (value.Void ∷ vs) o h e = bad-range vs o h.1 e

    handed-range : (o : Op) (args : List Value) (v : Value) → AllInRange args → handed_on o args ≡ Some v → IsInRange v
    handed-range op.Identical (x ∷ []) v h e = subst IsInRange (held e) h.0
    handed-range op.Null [] v h e = subst IsInRange (held e) (record { room = omega arith; node = omega arith; len = omega arith })
    handed-range _ _ v h e = cc

    abbrev FirstInRange : Value × List Deposit → Type 0
    FirstInRange p = IsInRange p.0

    module _ (number : ℕ) (few_rooms : number < 2 ^ 16) where
      piece-range : (piece : Piece) (args : List Value) (ds : List Deposit) → cells_of ds < 2 ^ 32 - 1 → IsInRange (piece_result texts patterns number node comp piece args ds).0
      piece-range piece args ds few = go (fits piece args)
        where
          made : (len : ℕ) (b : Bool) → nat_le len 1073741824 ≡ b → FirstInRange (if b then (value.Text (record { room = number; node = 1 + cells_of ds; len = len }), ds ++ record { piece = piece; args = args; len = len } ∷ [])
              else (value.Bad (record { node = node; comp = comp; kind = TextTooLong }), ds))
          made len true e = record { room = few_rooms; node = omega (arith, few); len = let l = leb-true len 1073741824 e in omega (arith, l) }
          made len false e = record { node = few_nodes; comp = few_comps }

          go : (b : Bool) → FirstInRange (if b then text_result texts patterns number node comp (parts_len texts args (parts_of patterns piece)) piece args ds else (value.Void, ds))
          go true = made (parts_len texts args (parts_of patterns piece)) (nat_le (parts_len texts args (parts_of patterns piece)) 1073741824) refl
          go false = tt

      pub result-range : (o : Op) (args : List Value) (ds : List Deposit) → AllInRange args → cells_of ds < 2 ^ 32 - 1 → IsInRange (result_of texts patterns number node comp o args ds).0
      result-range o args ds h few = bad (first_bad args) refl
        where
          pieces : (x : Option Piece) → FirstInRange (elim x [
            | None ↦ (from_plain (operate texts patterns (bad_at node comp) o (map (plain texts) args)), ds)
            | Some piece ↦ piece_result texts patterns number node comp piece args ds
          ])
          pieces None = from-range (operate texts patterns (bad_at node comp) o (map (plain texts) args)) (operate-range o (map (plain texts) args) (plains-range texts args h))
          pieces (Some piece) = piece-range piece args ds few

          handed : (x : Option Value) → handed_on o args ≡ x → FirstInRange (elim x [
            | Some v ↦ (v, ds)
            | None ↦ elim (piece_of o) [
              | None ↦ (from_plain (operate texts patterns (bad_at node comp) o (map (plain texts) args)), ds)
              | Some piece ↦ piece_result texts patterns number node comp piece args ds
            ]
          ])
          handed (Some v) e = handed-range o args v h e
          handed None e = pieces (piece_of o)

          bad : (x : Option Origin) → first_bad args ≡ x → FirstInRange (elim x [
            | Some o ↦ (value.Bad o, ds)
            | None ↦ elim (handed_on o args) [
              | Some v ↦ (v, ds)
              | None ↦ elim (piece_of o) [
                | None ↦ (from_plain (operate texts patterns (bad_at node comp) o (map (plain texts) args)), ds)
                | Some piece ↦ piece_result texts patterns number node comp piece args ds
              ]
            ]
          ])
          bad (Some x) e = bad-range args x h e
          bad None e = handed (handed_on o args) refl

order-range : (vs : List Value) → AllInRange vs → IsInRange (in_order vs)
order-range vs h = go (first_bad vs) refl
  where
    last : (vs : List Value) → AllInRange vs → IsInRange (last_value vs)
    last [] h = tt
    last (v ∷ []) h = h.0
    last (v ∷ w ∷ vs) h = last (w ∷ vs) h.1

    first : (vs : List Value) (o : Origin) → AllInRange vs → first_bad vs ≡ Some o → IsOriginInRange o
    first = bad-range 0 0 (omega arith) (omega arith) [] []

    go : (x : Option Origin) → first_bad vs ≡ x → IsInRange (elim x [ None ↦ last_value vs | Some o ↦ value.Bad o ])
    go None e = last vs h
    go (Some o) e = first vs o h e

module _ (texts : List (List ℕ)) (patterns : List Pattern) (number written : ℕ) (few_rooms : number < 2 ^ 16) (few_nodes : written < 2 ^ 32)
    (leaf : ℕ → Value) (read : Occ → Value) (coord : CoordPart → ℕ)
    (leaves : (k : ℕ) → IsInRange (leaf k)) (reads : (o : Occ) → IsInRange (read o)) (coords : (part : CoordPart) → coord part < 2 ^ 32) where
  abbrev one : FlatExpr → List Deposit → Value × List Deposit
  one = evaluate texts patterns number written leaf read coord

  decided-range : (branch : ℕ → List Deposit → Value × List Deposit) (v : Value) (ds : List Deposit) → IsInRange v → ((k : ℕ) → IsInRange (branch k ds).0) → IsInRange (decided branch (v, ds)).0
  decided-range branch (value.Bad o) ds h b = h
  decided-range branch (value.Bool true) ds h b = b 0
  decided-range branch (value.Bool false) ds h b = b 1
  decided-range branch (value.Int z) ds h b = tt
  decided-range branch (value.Str z) ds h b = tt
  decided-range branch (value.Text z) ds h b = tt
  decided-range branch value.Void ds h b = tt

  mutual
    pub evaluate-range : (e : FlatExpr) (ds : List Deposit) → HasNumbers e → cells_of ds + cells e < 2 ^ 32 - 1 → IsInRange (evaluate texts patterns number written leaf read coord e ds).0
    evaluate-range (Constant v) ds h few = h
    evaluate-range (Terminal k) ds h few = leaves k
    evaluate-range (Read o) ds h few = reads o
    evaluate-range (Coord part) ds h few = let c = coords part in record { sfits = omega (arith, c) }
    evaluate-range (Apply' comp o shape args) ds h few =
        let a = evaluate_all texts patterns number written leaf read coord args ds in
        let b = all-within texts patterns number written leaf read coord args ds in
        result-range written comp few_nodes h.0 texts patterns number few_rooms o a.0 a.1 (all-range args ds h.1 (omega (arith, few))) (omega (arith, b, few))
    evaluate-range (If' shape args) ds h few = if-range args ds h few
    evaluate-range (Order' shape args) ds h few = order-range (evaluate_all texts patterns number written leaf read coord args ds).0 (all-range args ds h few)

    all-range : {m : _} (es : Row_of-FlatExpr m) (ds : List Deposit) → HaveNumbers es → cells_of ds + cells_of_all es < 2 ^ 32 - 1 → AllInRange (evaluate_all texts patterns number written leaf read coord es ds).0
    all-range end_of-FlatExpr ds h few = tt
    all-range (more_of-FlatExpr e es) ds h few =
        let a = evaluate-within texts patterns number written leaf read coord e ds in
        (evaluate-range e ds h.0 (omega (arith, few)), all-range es (one e ds).1 h.1 (omega (arith, a, few)))

    if-range : {m : _} (es : Row_of-FlatExpr m) (ds : List Deposit) → HaveNumbers es → cells_of ds + cells_of_all es < 2 ^ 32 - 1 → IsInRange (evaluate_if texts patterns number written leaf read coord es ds).0
    if-range end_of-FlatExpr ds h few = tt
    if-range (more_of-FlatExpr e es) ds h few =
        let a = evaluate-within texts patterns number written leaf read coord e ds in
        decided-range (λ k room. evaluate_at texts patterns number written leaf read coord es k room) (one e ds).0 (one e ds).1 (evaluate-range e ds h.0 (omega (arith, few)))
        (λ k. at-range es k (one e ds).1 h.1 (omega (arith, a, few)))

    at-range : {m : _} (es : Row_of-FlatExpr m) (k : ℕ) (ds : List Deposit) → HaveNumbers es → cells_of ds + cells_of_all es < 2 ^ 32 - 1 → IsInRange (evaluate_at texts patterns number written leaf read coord es k ds).0
    at-range end_of-FlatExpr k ds h few = tt
    at-range (more_of-FlatExpr e es) zero ds h few = evaluate-range e ds h.0 (omega (arith, few))
    at-range (more_of-FlatExpr e es) (suc k) ds h few = at-range es k ds h.1 (omega (arith, few))
