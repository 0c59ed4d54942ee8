-- A descriptor denotes one text at most, and keeps it where deposits and rooms are added.
use Rattle.std.specs.Prelude.{Contains}
use Rattle.std.proofs.Common.{◌≡◌, ℕ, ◌+◌, List, [], ◌∷◌, ◌++◌, Some, length, map, refl, sym, ap, subst, ◌∙◌, arith, append_assoc, slice_get, slice_set, zero, suc}
use Rattle.std.proofs.lemmas.Option.{none-some, same_Some}
use Rattle.lido_base.specs.declared.value.Value.{Value}
use Rattle.lido_base.specs.declared.value.Value.TheVariants as value
use Rattle.lido_base.specs.declared.value.Desc.{Desc}
use Rattle.lido_base.specs.declared.pattern.Pattern.{Pattern}
use Rattle.lido_base.specs.Plain.{Plain}
use Rattle.lido_base.proofs.EquationsLemmas.{contains-later, contains-here}
use Rattle.string_librarian.specs.Rooms.{RoomState, Deposit, IsAt, HaveGrown, cells_of}
use Rattle.string_librarian.specs.Denotes.{Denotes, empty, built, Makes, meaning, read_by}

-- two places with as many cells before them are one
pub same_place : (before other after behind : List Deposit) (d e : Deposit) → before ++ d ∷ after ≡ other ++ e ∷ behind → cells_of before ≡ cells_of other → d ≡ e
same_place [] [] after behind d e p q = cc
same_place [] (x ∷ other) after behind d e p q = absurd (omega arith)
same_place (x ∷ before) [] after behind d e p q = absurd (omega arith)
same_place (x ∷ before) (y ∷ other) after behind d e p q =
    let same : x ≡ y = cc in
    let rest : before ++ d ∷ after ≡ other ++ e ∷ behind = cc in
    let size : length x.args ≡ length y.args = ap (λ z. length z.args) same in
    same_place before other after behind d e rest (omega arith)

-- a descriptor is that of one deposit
pub one_deposit : (rooms : List RoomState) (d : Desc) (a b : Deposit) → IsAt rooms d a → IsAt rooms d b → a ≡ b
one_deposit rooms d a b p q =
    let same : p.room ≡ q.room = same_Some _ _ (sym p.in_room ∙ q.in_room) in
    let parts : p.before ++ a ∷ p.after ≡ q.before ++ b ∷ q.after = sym p.parts ∙ ap (λ r. r.deposits) same ∙ q.parts in
    same_place p.before q.before p.after q.after a b parts (omega (arith, p.place, q.place))

-- readings that agree on the texts among the arguments
pub same_reading : (texts : List (List ℕ)) (f g : Desc → List ℕ) (args : List Value) → ((e : Desc) → Contains args (value.Text e) → f e ≡ g e)
    → map (read_by texts f) args ≡ map (read_by texts g) args
same_reading texts f g [] h = refl
same_reading texts f g (v ∷ vs) h =
    let rest : map (read_by texts f) vs ≡ map (read_by texts g) vs = same_reading texts f g vs (λ e m. h e (contains-later v (value.Text e) vs m)) in
    let here : read_by texts f v ≡ read_by texts g v = one v (λ e s. h e (subst (λ w. Contains (v ∷ vs) w) s (contains-here v vs))) in
    cc
  where
    one : (v : Value) → ((e : Desc) → v ≡ value.Text e → f e ≡ g e) → read_by texts f v ≡ read_by texts g v
    one (value.Int z) k = refl
    one (value.Bool b) k = refl
    one (value.Str s) k = refl
    one (value.Text d) k = ap Plain.Text (k d refl)
    one value.Void k = refl
    one (value.Bad o) k = refl

module _ (texts : List (List ℕ)) (patterns : List Pattern) (rooms : List RoomState) where
  empty_is_no_deposit : {d : Desc} {deposit : Deposit} → d ≡ record { room = 0; node = 0; len = 0 } → IsAt rooms d deposit → ⊥
  empty_is_no_deposit {d} {deposit} e at = let z : d.node ≡ 0 = ap (λ x. x.node) e in omega (arith, at.place)

  by_deposit : {d : Desc} {deposit : Deposit} {bytes : List ℕ} (u : List ℕ) → IsAt rooms d deposit → (reading : Desc → List ℕ)
      → ((e : Desc) → Contains deposit.args (value.Text e) → (v : List ℕ) → Denotes texts patterns rooms e v → reading e ≡ v)
      → meaning texts patterns deposit.piece (map (read_by texts reading) deposit.args) ≡ Some bytes
      → (e : Desc) → d ≡ e → Denotes texts patterns rooms e u → bytes ≡ u
  by_deposit {d} u at reading one is e same (empty) = absurd (empty_is_no_deposit same at)
  by_deposit {d} {deposit} {bytes} u at reading one is e same (built {deposit = other} there others below made size) =
      let that : deposit ≡ other = one_deposit rooms d deposit other at (subst (λ x. IsAt rooms x other) (sym same) there) in
      let agree : map (read_by texts reading) deposit.args ≡ map (read_by texts others) deposit.args
      = same_reading texts reading others deposit.args (λ x m. one x m (others x) (below x (subst (λ y. Contains y.args (value.Text x)) that m))) in
      same_Some _ _ (sym is ∙ ap (λ a. meaning texts patterns deposit.piece a) agree
      ∙ ap (λ y. meaning texts patterns y.piece (map (read_by texts others) y.args)) that ∙ made)

  empty_text : (d : Desc) (u : List ℕ) → d ≡ record { room = 0; node = 0; len = 0 } → Denotes texts patterns rooms d u → [] ≡ u
  empty_text d u e (empty) = refl
  empty_text d u e (built at reading below made size) = absurd (empty_is_no_deposit e at)

  -- a descriptor denotes one text at most
  pub one_text : (d : Desc) (t u : List ℕ) → Denotes texts patterns rooms d t → Denotes texts patterns rooms d u → t ≡ u
  one_text d t u (empty) b = empty_text _ u refl b
  one_text d t u (built at reading below made size) b = by_deposit u at reading (λ e m v c. one_text e (reading e) v (below e m) c) made d refl b

grown_at : (old new : List RoomState) (d : Desc) (deposit : Deposit) → HaveGrown old new → IsAt old d deposit → IsAt new d deposit
grown_at old new d deposit grown at =
    let g = grown d.room at.room at.in_room in
    record {
      room = g.0;
      in_room = g.1;
      before = at.before;
      after = at.after ++ g.2.0;
      parts = g.2.1 ∙ ap (λ l. l ++ g.2.0) at.parts ∙ append_assoc at.before (deposit ∷ at.after) g.2.0;
      place = at.place;
      same_len = at.same_len;
    }

-- more deposits and more rooms keep what a descriptor denotes
pub kept_text : (texts : List (List ℕ)) (patterns : List Pattern) (old new : List RoomState) → HaveGrown old new → (d : Desc) (t : List ℕ)
    → Denotes texts patterns old d t → Denotes texts patterns new d t
kept_text texts patterns old new grown d t (empty) = empty
kept_text texts patterns old new grown d t (built at reading below made size) =
    built (grown_at old new _ _ grown at) reading (λ e m. kept_text texts patterns old new grown e (reading e) (below e m)) made size

append_nil : {X : Type 0} (xs : List X) → xs ≡ xs ++ []
append_nil [] = refl
append_nil (x ∷ xs) = ap (λ l. x ∷ l) (append_nil xs)

-- a room of the list has more deposits
pub one_room_grew : (rooms : List RoomState) (i : ℕ) (room grown : RoomState) (more : List Deposit) → slice_get rooms i ≡ Some room
    → grown.deposits ≡ room.deposits ++ more → HaveGrown rooms (slice_set rooms i grown)
one_room_grew [] i room grown more here is k r at = absurd (none-some _ at)
one_room_grew (q ∷ rooms) zero room grown more here is zero r at = (grown, refl, (more, is ∙ ap (λ z. z.deposits ++ more) (same_Some _ _ (sym here ∙ at))))
one_room_grew (q ∷ rooms) zero room grown more here is (suc k) r at = (r, at, ([], append_nil r.deposits))
one_room_grew (q ∷ rooms) (suc i) room grown more here is zero r at = (r, at, ([], append_nil r.deposits))
one_room_grew (q ∷ rooms) (suc i) room grown more here is (suc k) r at = one_room_grew rooms i room grown more here is k r at

-- the descriptor of a room's last deposit denotes what the piece makes
pub last_denotes : (texts : List (List ℕ)) (patterns : List Pattern) (rooms : List RoomState) (room : RoomState) (before : List Deposit) (deposit : Deposit) (d : Desc) (bytes : List ℕ)
    → slice_get rooms d.room ≡ Some room → room.deposits ≡ before ++ deposit ∷ [] → d.node ≡ 1 + cells_of before → d.len ≡ deposit.len
    → Makes texts patterns rooms deposit.piece deposit.args bytes → length bytes ≡ deposit.len → Denotes texts patterns rooms d bytes
last_denotes texts patterns rooms room before deposit d bytes here parts place same_len makes size =
    built {d = d} {deposit = deposit} (record { room = room; in_room = here; before = before; after = []; parts = parts; place = place; same_len = same_len })
    makes.reading makes.below makes.made size

-- a descriptor's text is as long as it says
pub text_length : (texts : List (List ℕ)) (patterns : List Pattern) (rooms : List RoomState) (d : Desc) (t : List ℕ) → Denotes texts patterns rooms d t → length t ≡ d.len
text_length texts patterns rooms d t (empty) = refl
text_length texts patterns rooms d t (built at reading below made size) = size ∙ sym at.same_len

-- a room put in its own place changes nothing
pub unchanged_room : (texts : List (List ℕ)) (patterns : List Pattern) (rooms : List RoomState) (room : RoomState) (d : Desc) (bytes : List ℕ)
    → slice_get rooms room.number ≡ Some room → Denotes texts patterns rooms d bytes → Denotes texts patterns (slice_set rooms room.number room) d bytes
unchanged_room texts patterns rooms room d bytes here denotes =
    kept_text texts patterns rooms _ (one_room_grew rooms room.number room room [] here (append_nil room.deposits)) d bytes denotes
