-- Texts below texts, and the places of deposits: a deposit never stands below itself, so a line of deposits has as many at
-- most as there are cells.
use Rattle.std.specs.Prelude.{Contains}
use Rattle.std.specs.List.{IsDistinct, AllByRecursion, list_any}
use Rattle.std.proofs.Common.{◌≡◌, ℕ, zero, suc, ◌+◌, ◌-◌, ◌<◌, ◌≤◌, Bool, true, false, eqb, ◌||◌, List, [], ◌∷◌, ◌++◌, Some, length, map, slice_get, refl, sym, ap, subst, ◌∙◌, arith, eqb-true}
use Rattle.std.proofs.lemmas.Option.{none-some, same_Some}
use Rattle.std.proofs.lemmas.Map.Steps.{length-le_from_distinct_below}
use Rattle.std.proofs.lemmas.List.{length-map}
use Rattle.lido_base.specs.declared.value.Value.TheVariants as value
use Rattle.lido_base.specs.declared.value.Desc.{Desc}
use Rattle.lido_base.specs.declared.pattern.Pattern.{Pattern}
use Rattle.string_librarian.specs.declared.printing.Pending.{Pending}
use Rattle.string_librarian.specs.Rooms.{RoomState, Deposit, IsAt, cells_of, all_cells}
use Rattle.string_librarian.specs.Denotes.{Denotes, empty, built}
use Rattle.string_librarian.specs.Printing.{IsBelow, direct, deeper, IsPlaced, AreBelow, IsLine}
use Rattle.string_librarian.proofs.DenotesLemmas.{same_place, one_deposit}

-- one step further down
pub below_more : {rooms : List RoomState} {d e f : Desc} {deposit : Deposit} → IsBelow rooms d e → IsAt rooms e deposit → Contains deposit.args (value.Text f) → IsBelow rooms d f
below_more (direct at m) there n = deeper at m (direct there n)
below_more (deeper at m rest) there n = deeper at m (below_more rest there n)

pub below_trans : {rooms : List RoomState} {d e f : Desc} → IsBelow rooms d e → IsBelow rooms e f → IsBelow rooms d f
below_trans (direct at m) h = deeper at m h
below_trans (deeper at m rest) h = deeper at m (below_trans rest h)

module _ (texts : List (List ℕ)) (patterns : List Pattern) (rooms : List RoomState) where
  empty_is_above_none : {d e : Desc} → d ≡ record { room = 0; node = 0; len = 0 } → IsBelow rooms d e → ⊥
  empty_is_above_none {d} s (direct at m) = let z : d.node ≡ 0 = ap (λ x. x.node) s in absurd (omega (arith, at.place))
  empty_is_above_none {d} s (deeper at m rest) = let z : d.node ≡ 0 = ap (λ x. x.node) s in absurd (omega (arith, at.place))

  -- a deposit whose arguments have no cycle has none
  first_step : {d : Desc} {deposit : Deposit} → IsAt rooms d deposit → ((e : Desc) → Contains deposit.args (value.Text e) → IsBelow rooms e e → ⊥)
      → (e : Desc) → d ≡ e → IsBelow rooms d e → ⊥
  first_step {d} {deposit} at none e same (direct {deposit = other} there m) =
      let that : deposit ≡ other = one_deposit rooms d deposit other at there in
      none e (subst (λ x. Contains x.args (value.Text e)) (sym that) m) (subst (λ x. IsBelow rooms x e) same (direct there m))
  first_step {d} {deposit} at none e same (deeper {e = f} {deposit = other} there m rest) =
      let that : deposit ≡ other = one_deposit rooms d deposit other at there in
      let back : IsBelow rooms f d = subst (λ x. IsBelow rooms f x) (sym same) rest in
      none f (subst (λ x. Contains x.args (value.Text f)) (sym that) m) (below_more back there m)

  -- what denotes a text does not stand below itself
  pub no_cycle : (d : Desc) (t : List ℕ) → Denotes texts patterns rooms d t → IsBelow rooms d d → ⊥
  no_cycle d t (empty) c = empty_is_above_none refl c
  no_cycle d t (built at reading below made size) c = first_step at (λ e m k. no_cycle e (reading e) (below e m) k) d refl c

-- the number of a place among all cells
abbrev place : List RoomState → ℕ → ℕ → ℕ
place [] r n = n
place (q ∷ rooms) zero n = n
place (q ∷ rooms) (suc r) n = cells_of q.deposits + place rooms r n

place_below : (rooms : List RoomState) (r n : ℕ) (room : RoomState) → slice_get rooms r ≡ Some room → n < cells_of room.deposits → place rooms r n < all_cells rooms
place_below [] r n room e h = absurd (none-some _ e)
place_below (q ∷ rooms) zero n room e h = let s : cells_of q.deposits ≡ cells_of room.deposits = ap (λ x. cells_of x.deposits) (same_Some _ _ e) in omega arith
place_below (q ∷ rooms) (suc r) n room e h = let k = place_below rooms r n room e h in omega arith

one_place : (rooms : List RoomState) (r s n m : ℕ) (a b : RoomState) → slice_get rooms r ≡ Some a → n < cells_of a.deposits → slice_get rooms s ≡ Some b → m < cells_of b.deposits
    → place rooms r n ≡ place rooms s m → (r ≡ s) × (n ≡ m)
one_place [] r s n m a b e h f k p = absurd (none-some _ e)
one_place (q ∷ rooms) zero zero n m a b e h f k p = (refl, p)
one_place (q ∷ rooms) zero (suc s) n m a b e h f k p = let t : cells_of q.deposits ≡ cells_of a.deposits = ap (λ x. cells_of x.deposits) (same_Some _ _ e) in absurd (omega arith)
one_place (q ∷ rooms) (suc r) zero n m a b e h f k p = let t : cells_of q.deposits ≡ cells_of b.deposits = ap (λ x. cells_of x.deposits) (same_Some _ _ f) in absurd (omega arith)
one_place (q ∷ rooms) (suc r) (suc s) n m a b e h f k p =
    let c = one_place rooms r s n m a b e h f k (omega arith) in (ap suc c.0, c.1)

cells_of-append : (xs ys : List Deposit) → cells_of (xs ++ ys) ≡ cells_of xs + cells_of ys
cells_of-append [] ys = omega arith
cells_of-append (x ∷ xs) ys = omega (arith, cells_of-append xs ys)

-- a deposit stands within its room
within_room : {rooms : List RoomState} {d : Desc} {deposit : Deposit} (at : IsAt rooms d deposit) → d.node - 1 < cells_of at.room.deposits
within_room {rooms} {d} {deposit} at =
    let whole : cells_of at.room.deposits ≡ cells_of at.before + cells_of (deposit ∷ at.after) = ap cells_of at.parts ∙ cells_of-append at.before (deposit ∷ at.after) in
    omega (arith, whole, at.place)

abbrev number : List RoomState → Desc → ℕ
number rooms d = place rooms d.room (d.node - 1)

-- deposits with one number are one
one_number : (rooms : List RoomState) (d e : Desc) (a b : Deposit) → IsAt rooms d a → IsAt rooms e b → number rooms d ≡ number rooms e → d ≡ e
one_number rooms d e a b p q h =
    let c = one_place rooms d.room e.room (d.node - 1) (e.node - 1) p.room q.room p.in_room (within_room p) q.in_room (within_room q) h in
    let node : d.node ≡ e.node = omega (arith, p.place, q.place, c.1) in
    let parts : p.before ++ a ∷ p.after ≡ q.before ++ b ∷ q.after = sym p.parts ∙ ap (λ r. r.deposits) (same_Some _ _ (sym p.in_room ∙ ap (λ r. slice_get rooms r) c.0 ∙ q.in_room)) ∙ q.parts in
    let same : a ≡ b = same_place p.before q.before p.after q.after a b parts (omega (arith, p.place, q.place, node)) in
    let len : d.len ≡ e.len = p.same_len ∙ ap (λ x. x.len) same ∙ sym q.same_len in
    same_desc d.room e.room d.node e.node d.len e.len c.0 node len
  where
    same_desc : (r s n m k l : ℕ) → r ≡ s → n ≡ m → k ≡ l → (let x : Desc = record { room = r; node = n; len = k } in x) ≡ record { room = s; node = m; len = l }
    same_desc r s n m k l e f g = cc

module _ (texts : List (List ℕ)) (patterns : List Pattern) (rooms : List RoomState) where
  abbrev Line : List Pending → Type 0
  Line ps = IsLine rooms patterns texts ps

  other_number : (n : ℕ) (d : Desc) (b : Bool) → eqb n (number rooms d) ≡ b → (n ≡ number rooms d → ⊥) → b ≡ false
  other_number n d true e h = absurd (h (eqb-true n (number rooms d) e))
  other_number n d false e h = refl

  apart : (d : Desc) → IsPlaced rooms patterns texts d → (ps : List Pending) → AreBelow rooms patterns texts d ps → Line ps
      → AllByRecursion (λ n. eqb (number rooms d) n ≡ false) (map (λ (p : Pending). number rooms p.desc) ps)
  apart d placed [] below line = tt
  apart d placed (p ∷ ps) below line = (
    other_number (number rooms d) p.desc (eqb (number rooms d) (number rooms p.desc)) refl
        (λ e. let same : d ≡ p.desc = one_number rooms d p.desc placed.deposit line.0.deposit placed.at line.0.at e in
        no_cycle texts patterns rooms d placed.bytes placed.denotes (subst (λ x. IsBelow rooms d x) (sym same) below.0)),
    apart d placed ps below.1 line.2,
  )

  distinct : (ps : List Pending) → Line ps → IsDistinct eqb (map (λ (p : Pending). number rooms p.desc) ps)
  unfolding IsDistinct
  distinct [] line = tt
  distinct (p ∷ ps) line = (apart p.desc line.0 ps line.1 line.2, distinct ps line.2)

  within : (ps : List Pending) → Line ps → (q : ℕ) → list_any (eqb q) (map (λ (p : Pending). number rooms p.desc) ps) ≡ true → q < all_cells rooms
  within [] line q h = cc
  within (p ∷ ps) line q h = go (eqb q (number rooms p.desc)) refl (λ k. within ps line.2 q k) h
    where
      go : (b : Bool) → eqb q (number rooms p.desc) ≡ b → (list_any (eqb q) (map (λ (p : Pending). number rooms p.desc) ps) ≡ true → q < all_cells rooms)
          → (b || list_any (eqb q) (map (λ (p : Pending). number rooms p.desc) ps)) ≡ true → q < all_cells rooms
      go true e later k = let s : q ≡ number rooms p.desc = eqb-true q _ e in
          let m = place_below rooms p.desc.room (p.desc.node - 1) line.0.at.room line.0.at.in_room (within_room line.0.at) in omega (arith, s, m)
      go false e later k = later k

  -- a line of deposits is no longer than the rooms have cells
  pub line_is_short : (ps : List Pending) → Line ps → length ps ≤ all_cells rooms
  line_is_short ps line =
      let h = length-le_from_distinct_below (map (λ (p : Pending). number rooms p.desc) ps) (all_cells rooms) (distinct ps line) (within ps line) in
      omega (arith, h, length-map ps (λ (p : Pending). number rooms p.desc))
