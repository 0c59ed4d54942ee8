-- Evaluation goes down the arguments of calls, IF and ORDER.
use Rattle.std.specs.Prelude.{List, [], ◌∷◌, ◌++◌, ℕ, zero, suc, ◌+◌, ◌-◌, ◌≤◌, ◌≡◌, refl, slice_get, length, take, drop, sum_by, Some}
use Rattle.std.proofs.Common.{ap, sym, ◌∙◌, arith, subst}
use Rattle.std.proofs.lemmas.List.Sums.{sum_by-cons}
use Rattle.std.proofs.lemmas.List.{length-append}
use mathlib.Core.Former.{Count}
use Rattle.lido_base.specs.declared.operation.Op.{Op}
use Rattle.lido_base.specs.declared.value.Value.{Value}
use Rattle.lido_base.specs.declared.value.Value.TheVariants as value
use Rattle.lido_base.specs.declared.kinds.CoordPart.{CoordPart}
use Rattle.lido_base.specs.declared.pattern.Pattern.{Pattern}
use Rattle.string_librarian.specs.Rooms.{Deposit}
use Rattle.value_ops.specs.Results.{result_of}
use Rattle.flat_grammar.specs.declared.flat.Occ.{Occ}
use Rattle.flat_grammar.specs.declared.flat.FlatExpr.{FlatExpr}
use Rattle.flat_grammar.specs.declared.flat.FlatExpr.TheVariants as e
use Rattle.flat_grammar.specs.declared.flat.FlatExpr as whole
use Rattle.flat_grammar.specs.declared.flat.FlatExpr.TheBlock.{hidden-the_row-FlatExpr-0}
use Rattle.flat_grammar.specs.declared.flat.FlatExpr.{Value as Constant, Terminal, Read, Coord, Apply', If', Order'}
use Rattle.flat_grammar.specs.Expressions.{weight}
use Rattle.flat_grammar.specs.Fitting.{own_cells}
use Rattle.lido_base.specs.declared.operation.Op.TheVariants as op
use Rattle.lido_base.specs.declared.pattern.Piece.{Piece}
use Rattle.lido_base.specs.declared.pattern.Piece.TheVariants as piece
use Rattle.string_librarian.specs.Rooms.{RoomState}
use Rattle.value_ops.specs.Outcome.{after, cells_wanted, made}
use Rattle.expression_values.specs.Evaluate.{in_order, last_value, evaluate, evaluate_all, evaluate_if, evaluate_at, evaluate_list, evaluate_branch, evaluate_choice, decided, in_turn}

module _ (texts : List (List ℕ)) (patterns : List Pattern) (number written : ℕ) (leaf : ℕ → Value) (read : Occ → Value) (coord : CoordPart → ℕ) where
  abbrev all : List FlatExpr → List Deposit → List Value × List Deposit
  all = evaluate_list texts patterns number written leaf read coord

  abbrev one : FlatExpr → List Deposit → Value × List Deposit
  one = evaluate texts patterns number written leaf read coord

  abbrev choice : List FlatExpr → List Deposit → Value × List Deposit
  choice = evaluate_choice texts patterns number written leaf read coord

  all-items : (m : Count) (k : whole.Row_of-FlatExpr m) (ds : List Deposit) → evaluate_all texts patterns number written leaf read coord k ds ≡ all (whole.items-the_row-FlatExpr m k) ds
  all-items m whole.end_of-FlatExpr ds = refl
  all-items m (whole.more_of-FlatExpr {n = k} x es) ds = ap (λ (b : List Value × List Deposit). ((one x ds).0 ∷ b.0, b.1)) (all-items k es (one x ds).1)

  all-row : (args : List FlatExpr) (ds : List Deposit) → evaluate_all texts patterns number written leaf read coord (hidden-the_row-FlatExpr-0 args) ds ≡ all args ds
  all-row args ds = all-items _ (hidden-the_row-FlatExpr-0 args) ds ∙ ap (λ l. all l ds) (whole.items_hidden-the_row-FlatExpr-0 args)

  at-items : (m : Count) (k : whole.Row_of-FlatExpr m) (n : ℕ) (ds : List Deposit)
      → evaluate_at texts patterns number written leaf read coord k n ds ≡ evaluate_branch texts patterns number written leaf read coord (slice_get (whole.items-the_row-FlatExpr m k) n) ds
  at-items m whole.end_of-FlatExpr n ds = refl
  at-items m (whole.more_of-FlatExpr x es) zero ds = refl
  at-items m (whole.more_of-FlatExpr {n = k} x es) (suc n) ds = at-items k es n ds

  if-items : (m : Count) (k : whole.Row_of-FlatExpr m) (ds : List Deposit) → evaluate_if texts patterns number written leaf read coord k ds ≡ choice (whole.items-the_row-FlatExpr m k) ds
  if-items m whole.end_of-FlatExpr ds = refl
  if-items m (whole.more_of-FlatExpr {n = k} x es) ds = ap (λ (f : ℕ → List Deposit → Value × List Deposit). decided f (one x ds)) (λ i n room. at-items k es n room i)

  pub evaluate-Apply : (comp : ℕ) (op : Op) (args : List FlatExpr) (ds : List Deposit) → one (e.Apply comp op args) ds ≡ result_of texts patterns number written comp op (all args ds).0 (all args ds).1
  evaluate-Apply comp op args ds = ap (λ (a : List Value × List Deposit). result_of texts patterns number written comp op a.0 a.1) (all-row args ds)

  pub evaluate-If : (args : List FlatExpr) (ds : List Deposit) → one (e.If args) ds ≡ choice args ds
  evaluate-If args ds = if-items _ (hidden-the_row-FlatExpr-0 args) ds ∙ ap (λ l. choice l ds) (whole.items_hidden-the_row-FlatExpr-0 args)

  pub evaluate-Order : (args : List FlatExpr) (ds : List Deposit) → one (e.Order args) ds ≡ in_turn (all args ds)
  evaluate-Order args ds = ap in_turn (all-row args ds)

  pub all-length : (args : List FlatExpr) (ds : List Deposit) → length (all args ds).0 ≡ length args
  all-length [] ds = refl
  all-length (x ∷ xs) ds = ap suc (all-length xs (one x ds).1)

  pub apply-step : (comp : ℕ) (op : Op) (args given : List FlatExpr) (expr : FlatExpr) (ds left : List Deposit) (n : ℕ) (taken : List Value)
      → expr ≡ e.Apply comp op args → given ≡ args → taken ≡ (all given ds).0 → left ≡ (all given ds).1 → n ≡ number
      → result_of texts patterns n written comp op taken left ≡ one expr ds
  apply-step comp op args given expr ds left n taken is same t d k =
      (λ i. result_of texts patterns (k i) written comp op (t i) (d i))
      ∙ ap (λ l. result_of texts patterns number written comp op (all l ds).0 (all l ds).1) same
      ∙ sym (evaluate-Apply comp op args ds) ∙ ap (λ x. one x ds) (sym is)

  pub order-step : (args given : List FlatExpr) (expr : FlatExpr) (ds left : List Deposit) (taken : List Value)
      → expr ≡ e.Order args → given ≡ args → taken ≡ (all given ds).0 → left ≡ (all given ds).1
      → (in_order taken, left) ≡ one expr ds
  order-step args given expr ds left taken is same t d =
      let h : (in_order taken, left) ≡ in_turn (all given ds) = λ i. (in_order (t i), d i) in
      h ∙ ap (λ l. in_turn (all l ds)) same ∙ sym (evaluate-Order args ds) ∙ ap (λ x. one x ds) (sym is)

  pub if-step : (args given : List FlatExpr) (expr : FlatExpr) (ds : List Deposit) → expr ≡ e.If args → given ≡ args → choice given ds ≡ one expr ds
  if-step args given expr ds is same = ap (λ l. choice l ds) same ∙ sym (evaluate-If args ds) ∙ ap (λ x. one x ds) (sym is)

-- the values above the base
cut-drop : (old vs : List Value) → drop (length old) (old ++ vs) ≡ vs
cut-drop [] vs = refl
cut-drop (x ∷ old) vs = cut-drop old vs

cut-take : (vs : List Value) (n : ℕ) → n ≡ length vs → take n vs ≡ vs
cut-take [] zero h = refl
cut-take [] (suc n) h = refl
cut-take (v ∷ vs) zero h = absurd (omega (arith, h))
cut-take (v ∷ vs) (suc n) h = ap (λ l. v ∷ l) (cut-take vs n (omega (arith, h)))

pub cut : (stack old vs : List Value) (base : ℕ) → stack ≡ old ++ vs → base ≡ length old → take (length stack - base) (drop base stack) ≡ vs
cut stack old vs base is at =
    (λ i. take (length (is i) - at i) (drop (at i) (is i)))
    ∙ ap (λ l. take (length (old ++ vs) - length old) l) (cut-drop old vs)
    ∙ cut-take vs (length (old ++ vs) - length old) (let h = length-append old vs in omega (arith, h))

pub weight-some : (x : FlatExpr) → 1 ≤ weight x
weight-some (Constant v) = omega arith
weight-some (Terminal k) = omega arith
weight-some (Read o) = omega arith
weight-some (Coord part) = omega arith
weight-some (Apply' comp op shape args) = omega arith
weight-some (If' shape args) = omega arith
weight-some (Order' shape args) = omega arith

pub sum-first : (f : FlatExpr → ℕ) (x : FlatExpr) (xs all : List FlatExpr) → all ≡ x ∷ xs → sum_by f all ≡ f x + sum_by f xs
sum-first f x xs all is = ap (sum_by f) is ∙ sum_by-cons f x xs

pub wanted-own : (o : Op) (vs : List Value) → cells_wanted o vs ≡ own_cells o (length vs)
wanted-own op.Numb vs = omega arith
wanted-own op.AsIs vs = omega arith
wanted-own op.Seq vs = omega arith
wanted-own (op.Pattern k) vs = omega arith
wanted-own _ vs = refl

made-space : (room : RoomState) (p : Piece) (args : List Value) (v : Value) → room.space ≤ (made room p args v).space + (1 + length args)
made-space room p args (value.Text d) = omega arith
made-space room p args (value.Int d) = omega arith
made-space room p args (value.Bool d) = omega arith
made-space room p args (value.Str d) = omega arith
made-space room p args value.Void = omega arith
made-space room p args (value.Bad d) = omega arith

pub after-space : (room : RoomState) (o : Op) (args : List Value) (v : Value) → room.space ≤ (after room o args v).space + cells_wanted o args
after-space room op.Numb args v = made-space room piece.Numb args v
after-space room op.AsIs args v = made-space room piece.AsIs args v
after-space room op.Seq args v = made-space room piece.Seq args v
after-space room (op.Pattern k) args v = made-space room (piece.Pattern k) args v
after-space room _ args v = omega arith

last-is : (v : Value) (vs : List Value) (x : Value) → Some x ≡ slice_get (v ∷ vs) (length vs) → x ≡ last_value (v ∷ vs)
last-is v [] x h = cc
last-is v (w ∷ vs) x h = last-is w vs x h

pub last-there : (vs : List Value) (x : Value) → Some x ≡ slice_get vs (length vs - 1) → x ≡ last_value vs
last-there [] x h = cc
last-there (v ∷ vs) x h = let e : suc (length vs) - 1 ≡ length vs = omega arith in last-is v vs x (subst (λ n. Some x ≡ slice_get (v ∷ vs) n) e h)
