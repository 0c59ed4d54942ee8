-- Deposits in cells: what was put in is what is found.
use Rattle.std.proofs.Common.{◌≡◌, ℕ, ◌+◌, List, [], ◌∷◌, ◌++◌, length, map, take, refl, sym, ap, ◌∙◌, arith, append_assoc, length-append, zero-add, zero, suc, ◌<◌, ◌≤◌, slice_get, unwrap_or, Some}
use Rattle.std.proofs.lemmas.Option.{slice_get_past}
use Rattle.lido_base.specs.declared.value.Value.TheVariants as value
use Rattle.string_librarian.specs.Parts.{argument_of}
use Rattle.std.proofs.lemmas.List.{length-map}
use Rattle.lido_base.specs.declared.value.Value.{Value}
use Rattle.string_librarian.specs.declared.room.Cell.{Cell}
use Rattle.string_librarian.specs.declared.room.Cell.TheVariants as cell
use Rattle.string_librarian.specs.Rooms.{Deposit, cells_of}
use Rattle.string_librarian.specs.Cells.{cells_for, values, deposits_of}

-- arguments are no deposits
pub deposits_of-args : (xs : List Value) (cs : List Cell) → deposits_of (map cell.Arg xs ++ cs) ≡ deposits_of cs
deposits_of-args [] cs = refl
deposits_of-args (x ∷ xs) cs = deposits_of-args xs cs

-- as many arguments as were put in are these
pub values-args : (xs : List Value) (cs : List Cell) → values (take (length xs) (map cell.Arg xs ++ cs)) ≡ xs
values-args [] cs = refl
values-args (x ∷ xs) cs = ap (λ l. x ∷ l) (values-args xs cs)

deposit-same : (d : Deposit) (xs : List Value) → xs ≡ d.args → record { piece = d.piece; args = xs; len = d.len } ≡ d
deposit-same d xs e = ap (λ l. record { piece = d.piece; args = l; len = d.len }) e

-- the deposits that were put in are found
pub deposits_of-cells_for : (ds : List Deposit) → deposits_of (cells_for ds) ≡ ds
deposits_of-cells_for [] = refl
deposits_of-cells_for (d ∷ ds) =
    ap (λ e. e ∷ deposits_of (map cell.Arg d.args ++ cells_for ds)) (deposit-same d _ (values-args d.args (cells_for ds)))
    ∙ ap (λ l. d ∷ l) (deposits_of-args d.args (cells_for ds) ∙ deposits_of-cells_for ds)

pub cells_for-append : (ds es : List Deposit) → cells_for (ds ++ es) ≡ cells_for ds ++ cells_for es
cells_for-append [] es = refl
cells_for-append (d ∷ ds) es =
    ap (λ l. cell.Deposit (record { piece = d.piece; len = d.len; args = length d.args }) ∷ map cell.Arg d.args ++ l) (cells_for-append ds es)
    ∙ ap (λ l. cell.Deposit (record { piece = d.piece; len = d.len; args = length d.args }) ∷ l) (sym (append_assoc (map cell.Arg d.args) (cells_for ds) (cells_for es)))

-- deposits use as many cells as theirs
pub length-cells_for : (ds : List Deposit) → length (cells_for ds) ≡ cells_of ds
length-cells_for [] = refl
length-cells_for (d ∷ ds) =
    omega (arith, length-append (map cell.Arg d.args) (cells_for ds), length-map d.args cell.Arg, length-cells_for ds)

-- one deposit more
pub one_more : (cs : List Cell) (d : Deposit) → cs ≡ cells_for (deposits_of cs)
    → cs ++ cell.Deposit (record { piece = d.piece; len = d.len; args = length d.args }) ∷ map cell.Arg d.args ≡ cells_for (deposits_of cs ++ d ∷ [])
one_more cs d whole =
    ap (λ l. cs ++ cell.Deposit (record { piece = d.piece; len = d.len; args = length d.args }) ∷ l) (sym (append_nil (map cell.Arg d.args)))
    ∙ ap (λ l. l ++ cells_for (d ∷ [])) whole ∙ sym (cells_for-append (deposits_of cs) (d ∷ []))
  where
    append_nil : (l : List Cell) → l ++ [] ≡ l
    append_nil [] = refl
    append_nil (x ∷ l) = ap (λ m. x ∷ m) (append_nil l)

-- What a room's cells are once a deposit was put behind them.
pub record IsStored (old new : List Cell) (d : Deposit) : Type 0 where
  pub found : deposits_of new ≡ deposits_of old ++ d ∷ []
  pub whole : new ≡ cells_for (deposits_of new)
  pub size : length new ≡ length old + 1 + length d.args
  pub place : length old ≡ cells_of (deposits_of old)

pub stored : (old mid new : List Cell) (d : Deposit) → old ≡ cells_for (deposits_of old)
    → mid ≡ old ++ cell.Deposit (record { piece = d.piece; len = d.len; args = length d.args }) ∷ [] → new ≡ mid ++ map cell.Arg d.args → IsStored old new d
stored old mid new d whole first second =
    let head : Cell = cell.Deposit (record { piece = d.piece; len = d.len; args = length d.args }) in
    let is : new ≡ old ++ head ∷ map cell.Arg d.args = second ∙ ap (λ l. l ++ map cell.Arg d.args) first ∙ append_assoc old (head ∷ []) (map cell.Arg d.args) in
    let both : new ≡ cells_for (deposits_of old ++ d ∷ []) = is ∙ one_more old d whole in
    let found : deposits_of new ≡ deposits_of old ++ d ∷ [] = ap deposits_of both ∙ deposits_of-cells_for (deposits_of old ++ d ∷ []) in
    record {
      found = found;
      whole = both ∙ ap cells_for (sym found);
      size = omega (arith, ap length is, length-append old (head ∷ map cell.Arg d.args), length-map d.args cell.Arg);
      place = ap length whole ∙ length-cells_for (deposits_of old);
    }

cells_of-cells : (before : List Deposit) (d : Deposit) (after : List Deposit) (k : ℕ) → slice_get (cells_for (before ++ d ∷ after)) (cells_of before + k) ≡ slice_get (cells_for (d ∷ after)) k
cells_of-cells before d after k =
    ap (λ cs. slice_get cs (cells_of before + k)) (cells_for-append before (d ∷ after))
    ∙ ap (λ n. slice_get (cells_for before ++ cells_for (d ∷ after)) (n + k)) (sym (length-cells_for before))
    ∙ slice_get_behind (cells_for before) (cells_for (d ∷ after)) k
  where
    step : (n k : ℕ) → suc n + k ≡ suc (n + k)
    step n k = omega arith

    slice_get_behind : {X : Type 0} (xs ys : List X) (k : ℕ) → slice_get (xs ++ ys) (length xs + k) ≡ slice_get ys k
    slice_get_behind [] ys k = ap (λ n. slice_get ys n) (zero-add k)
    slice_get_behind (x ∷ xs) ys k = ap (λ n. slice_get (x ∷ (xs ++ ys)) n) (step (length xs) k) ∙ slice_get_behind xs ys k

-- the cell so many behind the head of a deposit
pub cell_behind : (cs : List Cell) (before : List Deposit) (d : Deposit) (after : List Deposit) (n k : ℕ) → cs ≡ cells_for (deposits_of cs)
    → deposits_of cs ≡ before ++ d ∷ after → n ≡ cells_of before + k → slice_get cs n ≡ slice_get (cells_for (d ∷ after)) k
cell_behind cs before d after n k whole parts place =
    ap (λ c. slice_get c n) (whole ∙ ap cells_for parts) ∙ ap (λ m. slice_get (cells_for (before ++ d ∷ after)) m) place ∙ cells_of-cells before d after k

arg_at : (args : List Value) (cs : List Cell) (j : ℕ) → j < length args → slice_get (map cell.Arg args ++ cs) j ≡ Some (cell.Arg (unwrap_or (slice_get args j) value.Void))
arg_at [] cs j h = absurd (omega arith)
arg_at (v ∷ vs) cs zero h = refl
arg_at (v ∷ vs) cs (suc j) h = arg_at vs cs j (omega arith)

-- the cell of an argument
pub arg_cell : (d : Deposit) (after : List Deposit) (n : ℕ) → (n ≡ 0 → ⊥) → n ≤ length d.args → slice_get (cells_for (d ∷ after)) n ≡ Some (cell.Arg (argument_of d.args n))
arg_cell d after zero some h = absurd (some refl)
arg_cell d after (suc j) some h = arg_at d.args (cells_for after) j (omega arith)

-- there are no arguments but these
pub arg_past : (args : List Value) (n : ℕ) → length args < n → argument_of args n ≡ value.Void
arg_past args zero h = refl
arg_past args (suc j) h = ap (λ o. unwrap_or o value.Void) (slice_get_past args j (omega arith))
