-- What is shown of a deposit's next part, and the steps that are left behind it.
use Rattle.std.specs.Prelude.{Contains}
use Rattle.std.specs.List.{list_all}
use Rattle.std.proofs.Common.{◌≡◌, ℕ, zero, suc, ◌+◌, ◌-◌, ◌<◌, ◌≤◌, Bool, true, false, not, ◌&&◌, ◌||◌, if◌then◌else◌, nat_eq, List, [], ◌∷◌, ◌++◌, Option, Some, None, length, map, drop, flat_map, slice_get, refl, sym, ap, subst, ◌∙◌, arith, eqb-true, length-append, get_or}
use Rattle.std.proofs.lemmas.Option.{same_Some}
use Rattle.std.proofs.lemmas.List.{drop_more, drop_all}
use Rattle.lido_base.specs.declared.value.Value.{Value}
use Rattle.lido_base.specs.declared.value.Value.TheVariants as value
use Rattle.lido_base.specs.declared.value.Desc.{Desc}
use Rattle.lido_base.specs.declared.ids.StrId.{StrId}
use Rattle.lido_base.specs.declared.pattern.Pattern.{Pattern}
use Rattle.lido_base.specs.declared.pattern.Part.{Part}
use Rattle.lido_base.specs.declared.pattern.PartPiece.TheVariants.{Fixed, Arg}
use Rattle.lido_base.specs.Operations.{printed, piece_bytes, part_bytes, is_filled}
use Rattle.string_librarian.specs.declared.printing.Pending.{Pending}
use Rattle.string_librarian.specs.declared.printing.Output.TheVariants as output
use Rattle.string_librarian.specs.declared.printing.Shown.TheVariants as shown
use Rattle.string_librarian.specs.Rooms.{RoomState, Deposit, IsAt, cells_of}
use Rattle.string_librarian.specs.Denotes.{Denotes, empty, built, read_by}
use Rattle.string_librarian.specs.Parts.{parts_of, argument_of, is_full}
use Rattle.string_librarian.specs.Printing.{advanced, shown_of, deposit_behind, deposit_of, value_steps, part_steps, parts_steps, rest_steps, text_steps, all_steps, direct, IsLeft, Shows}
use Rattle.string_librarian.proofs.DenotesLemmas.{text_length}
use Rattle.string_librarian.proofs.PartsLemmas.{meaning-parts, read-argument, text_among, all_full}
use Rattle.string_librarian.proofs.PrintingLemmas.{steps_last}

behind : (before : List Deposit) (d : Deposit) (after : List Deposit) → deposit_behind (before ++ d ∷ after) (cells_of before) ≡ Some d
behind [] d after = refl
behind (b ∷ bs) d after =
    let more : cells_of (b ∷ bs) ≡ suc (length b.args + cells_of bs) = omega arith in
    let less : length b.args + cells_of bs - length b.args ≡ cells_of bs = omega arith in
    ap (λ n. deposit_behind (b ∷ (bs ++ d ∷ after)) n) more ∙ ap (λ n. deposit_behind (bs ++ d ∷ after) n) less ∙ behind bs d after

room_of : (o : Option RoomState) (room : RoomState) → o ≡ Some room → (elim o [ None ↦ [] | Some r ↦ r.deposits ]) ≡ room.deposits
room_of None room e = cc
room_of (Some r) room e = ap (λ x. x.deposits) (same_Some _ _ e)

-- the deposit that a descriptor names is found
pub deposit_of-at : (rooms : List RoomState) (d : Desc) (deposit : Deposit) → IsAt rooms d deposit → deposit_of rooms d ≡ Some deposit
deposit_of-at rooms d deposit at =
    let place : d.node - 1 ≡ cells_of at.before = omega (arith, at.place) in
    ap (λ ds. deposit_behind ds (d.node - 1)) (room_of (slice_get rooms d.room) at.room at.in_room ∙ at.parts)
    ∙ ap (λ n. deposit_behind (at.before ++ deposit ∷ at.after) n) place ∙ behind at.before deposit at.after

pub nothing_left : (xs : List ℕ) → length xs ≡ 0 → xs ≡ []
nothing_left [] h = refl
nothing_left (x ∷ xs) h = absurd (omega arith)

skip : (brace braces : Bool) (bytes : List ℕ) → (brace && not braces) ≡ true → (if not brace || braces then bytes else []) ≡ []
skip true true bytes h = cc
skip true false bytes h = refl
skip false braces bytes h = cc

keep : (brace braces : Bool) (bytes : List ℕ) → (brace && not braces) ≡ false → (if not brace || braces then bytes else []) ≡ bytes
keep true true bytes h = refl
keep true false bytes h = cc
keep false braces bytes h = refl

module _ (rooms : List RoomState) (patterns : List Pattern) where
  given : (o : Option Deposit) (d : Deposit) (F : Deposit → ℕ) → o ≡ Some d → (elim o [ None ↦ 1 | Some x ↦ F x ]) ≡ F d
  given None d F e = cc
  given (Some x) d F e = ap F (same_Some _ _ e)

  -- the steps of a deposit that is there are those of its parts
  pub rest_steps-at : (below : Desc → ℕ) (p : Pending) (d : Deposit) → IsAt rooms p.desc d → rest_steps rooms patterns below p ≡ parts_steps below d.args (drop p.next (parts_of patterns d.piece))
  rest_steps-at below p d at =
      given (deposit_of rooms p.desc) d (λ x. parts_steps below x.args (drop p.next (parts_of patterns x.piece))) (deposit_of-at rooms p.desc d at)

  some_steps : (below : Desc → ℕ) (args : List Value) (parts : List Part) → 0 < parts_steps below args parts
  some_steps below args [] = omega arith
  some_steps below args (p ∷ ps) = omega (arith, some_steps below args ps)

  steps_of : (o : Option Deposit) (below : Desc → ℕ) (n : ℕ) → 0 < (elim o [ None ↦ 1 | Some d ↦ parts_steps below d.args (drop n (parts_of patterns d.piece)) ])
  steps_of None below n = omega arith
  steps_of (Some d) below n = some_steps below d.args (drop n (parts_of patterns d.piece))

  rest_is_some : (below : Desc → ℕ) (p : Pending) → 0 < rest_steps rooms patterns below p
  rest_is_some below p = steps_of (deposit_of rooms p.desc) below p.next

  same_rest : (below : Desc → ℕ) (p q : Pending) → p.desc ≡ q.desc → p.next ≡ q.next → rest_steps rooms patterns below p ≡ rest_steps rooms patterns below q
  same_rest below p q e f =
      ap (λ d. rest_steps rooms patterns below (record { desc = d; next = p.next; braces = true })) e
      ∙ ap (λ n. rest_steps rooms patterns below (record { desc = q.desc; next = n; braces = true })) f

  -- fewer steps are left once a deposit is dropped
  pub fewer_ended : (texts : List (List ℕ)) (depth : ℕ) (ps : List Pending) (top : Pending) → all_steps rooms patterns depth ps < all_steps rooms patterns depth (ps ++ top ∷ [])
  fewer_ended texts depth ps top =
      omega (arith, steps_last rooms patterns texts depth ps top, rest_is_some (text_steps rooms patterns (depth - length ps - 1)) top)

  -- fewer steps are left once a part was printed
  pub fewer_printed : (texts : List (List ℕ)) (depth : ℕ) (ps : List Pending) (top : Pending)
      → ((below : Desc → ℕ) → rest_steps rooms patterns below (advanced top) < rest_steps rooms patterns below top)
      → all_steps rooms patterns depth (ps ++ advanced top ∷ []) < all_steps rooms patterns depth (ps ++ top ∷ [])
  fewer_printed texts depth ps top less =
      omega (arith, steps_last rooms patterns texts depth ps top, steps_last rooms patterns texts depth ps (advanced top), less (text_steps rooms patterns (depth - length ps - 1)))

  -- fewer steps are left once a text was entered
  pub fewer_entered : (texts : List (List ℕ)) (depth : ℕ) (ps : List Pending) (top new : Pending) (e : Desc) → length ps + 2 ≤ depth → new.desc ≡ e → new.next ≡ 0
      → ((below : Desc → ℕ) → rest_steps rooms patterns below (advanced top) + below e < rest_steps rooms patterns below top)
      → all_steps rooms patterns depth ((ps ++ advanced top ∷ []) ++ new ∷ []) < all_steps rooms patterns depth (ps ++ top ∷ [])
  fewer_entered texts depth ps top new e room desc next less =
      let inner : ℕ = depth - length ps - 2 in
      let outer : depth - length ps - 1 ≡ suc inner = omega arith in
      let deep : depth - length (ps ++ advanced top ∷ []) - 1 ≡ inner = omega (arith, length-append ps (advanced top ∷ [])) in
      let first = steps_last rooms patterns texts depth ps top in
      let second = steps_last rooms patterns texts depth ps (advanced top) in
      let third = steps_last rooms patterns texts depth (ps ++ advanced top ∷ []) new in
      let a = ap (λ n. rest_steps rooms patterns (text_steps rooms patterns n) top) outer in
      let b = ap (λ n. rest_steps rooms patterns (text_steps rooms patterns n) (advanced top)) outer in
      let c = ap (λ n. rest_steps rooms patterns (text_steps rooms patterns n) new) deep in
      let d = same_rest (text_steps rooms patterns inner) new (record { desc = e; next = 0; braces = true }) desc next in
      let l = less (text_steps rooms patterns (suc inner)) in
      omega (arith, first, second, third, a, b, c, d, l)

  module _ (texts : List (List ℕ)) where
    -- What is left of a deposit, its next part apart.
    pub record Opened (top : Pending) (bytes : List ℕ) (part : Part) : Type 0 where
      pub deposit : Deposit
      pub at : IsAt rooms top.desc deposit
      pub reading : Desc → List ℕ
      pub below : (e : Desc) → Contains deposit.args (value.Text e) → Denotes texts patterns rooms e (reading e)
      pub rest : List ℕ
      pub parts : bytes ≡ part_bytes texts top.braces (map (read_by texts reading) deposit.args) part ++ rest
      pub left : IsLeft rooms patterns texts (advanced top) rest
      pub steps : (b : Desc → ℕ) → rest_steps rooms patterns b (advanced top) + part_steps b deposit.args part < rest_steps rooms patterns b top

    pub opened : (top : Pending) (bytes : List ℕ) (part : Part) (l : IsLeft rooms patterns texts top bytes)
        → drop top.next (parts_of patterns l.deposit.piece) ≡ part ∷ drop (top.next + 1) (parts_of patterns l.deposit.piece) → Opened top bytes part
    opened top bytes part l cut = record {
      deposit = l.deposit;
      at = l.at;
      reading = l.reading;
      below = l.below;
      rest = flat_map (part_bytes texts top.braces (map (read_by texts l.reading) l.deposit.args)) (drop (top.next + 1) (parts_of patterns l.deposit.piece));
      parts = l.rest ∙ ap (λ ps. flat_map (part_bytes texts top.braces (map (read_by texts l.reading) l.deposit.args)) ps) cut;
      left = record { deposit = l.deposit; at = l.at; reading = l.reading; below = l.below; rest = refl };
      steps = λ b. omega (arith, rest_steps-at b top l.deposit l.at, rest_steps-at b (advanced top) l.deposit l.at, ap (λ ps. parts_steps b l.deposit.args ps) cut);
    }

    -- a part in braces that are not printed shows nothing
    pub shows_skipped : (top : Pending) (bytes : List ℕ) (part : Part) → Opened top bytes part → (part.brace && not top.braces) ≡ true
        → Shows rooms patterns texts top bytes (shown.Print output.Nothing)
    shows_skipped top bytes part o h =
        (o.rest, o.parts ∙ ap (λ b. b ++ o.rest) (skip part.brace top.braces _ h), o.left, λ b. omega (arith, o.steps b))

    -- a string of the pattern's own shows its bytes
    pub shows_fixed : (top : Pending) (bytes : List ℕ) (part : Part) (s : StrId) → Opened top bytes part → (part.brace && not top.braces) ≡ false → part.piece ≡ Fixed s
        → Shows rooms patterns texts top bytes (shown.Print (output.Bytes s))
    shows_fixed top bytes part s o h is = (
      o.rest,
      o.parts ∙ ap (λ b. b ++ o.rest) (keep part.brace top.braces _ h ∙ ap (λ p. piece_bytes texts (map (read_by texts o.reading) o.deposit.args) p) is),
      o.left,
      λ b. omega (arith, o.steps b),
    )

    by_value : (top : Pending) (bytes : List ℕ) (part : Part) (k : ℕ) (o : Opened top bytes part) (v : Value) → argument_of o.deposit.args k ≡ v
        → bytes ≡ printed (read_by texts o.reading v) ++ o.rest
        → ((b : Desc → ℕ) → rest_steps rooms patterns b (advanced top) + value_steps b v < rest_steps rooms patterns b top)
        → Shows rooms patterns texts top bytes (shown_of v)
    by_value top bytes part k o (value.Int z) is parts steps = (o.rest, parts, o.left, λ b. omega (arith, steps b))
    by_value top bytes part k o (value.Bool x) is parts steps = (o.rest, parts, o.left, λ b. omega (arith, steps b))
    by_value top bytes part k o (value.Str s) is parts steps = (o.rest, parts, o.left, λ b. omega (arith, steps b))
    by_value top bytes part k o value.Void is parts steps = (o.rest, parts, o.left, λ b. omega (arith, steps b))
    by_value top bytes part k o (value.Bad x) is parts steps = (o.rest, parts, o.left, λ b. omega (arith, steps b))
    by_value top bytes part k o (value.Text e) is parts steps = by (nat_eq e.len 0) refl
      where
        among : Contains o.deposit.args (value.Text e)
        among = text_among texts o.reading o.deposit.args k e is

        size : length (o.reading e) ≡ e.len
        size = text_length texts patterns rooms e (o.reading e) (o.below e among)

        by : (b : Bool) → nat_eq e.len 0 ≡ b → Shows rooms patterns texts top bytes (if b then shown.Print output.Nothing else shown.Enter e)
        by true z =
            (o.rest, parts ∙ ap (λ b. b ++ o.rest) (nothing_left (o.reading e) (omega (arith, size, eqb-true e.len 0 z))), o.left, λ b. omega (arith, steps b))
        by false z = (o.reading e, o.rest, parts, o.below e among, not_zero e.len z, direct o.at among, o.left, steps)
          where
            not_zero : (n : ℕ) → nat_eq n 0 ≡ false → 0 < n
            not_zero zero h = cc
            not_zero (suc n) h = omega arith

    -- an insertion shows its value
    pub shows_argument : (top : Pending) (bytes : List ℕ) (part : Part) (k : ℕ) (o : Opened top bytes part) → (part.brace && not top.braces) ≡ false → part.piece ≡ Arg k
        → Shows rooms patterns texts top bytes (shown_of (argument_of o.deposit.args k))
    shows_argument top bytes part k o h is =
        by_value top bytes part k o (argument_of o.deposit.args k) refl
        (o.parts ∙ ap (λ b. b ++ o.rest) (keep part.brace top.braces _ h
        ∙ ap (λ p. piece_bytes texts (map (read_by texts o.reading) o.deposit.args) p) is
        ∙ ap printed (sym (read-argument texts o.reading o.deposit.args k))))
        (λ b. omega (arith, o.steps b, ap (λ p. part_steps b o.deposit.args (record { piece = p; brace = part.brace })) is))

    -- at the beginning the whole text is left
    pub begun_left : (p : Pending) (bytes : List ℕ) → p.next ≡ 0 → 0 < p.desc.len → ((d : Deposit) → IsAt rooms p.desc d → p.braces ≡ list_all (is_full d.args) (parts_of patterns d.piece))
        → (e : Desc) → p.desc ≡ e → Denotes texts patterns rooms e bytes → IsLeft rooms patterns texts p bytes
    begun_left p bytes next some braces e is (empty) = absurd (omega (arith, ap (λ x. x.len) is))
    begun_left p bytes next some braces e is (built {deposit = d} at reading below made size) =
        let here : IsAt rooms p.desc d = subst (λ x. IsAt rooms x d) (sym is) at in
        let lengths = λ (x : Desc) (m : Contains d.args (value.Text x)). text_length texts patterns rooms x (reading x) (below x m) in
        let same : list_all (is_filled (map (read_by texts reading) d.args)) (parts_of patterns d.piece) ≡ p.braces = sym (all_full texts reading d.args lengths (parts_of patterns d.piece)) ∙ sym (braces d here) in
        record {
          deposit = d;
          at = here;
          reading = reading;
          below = below;
          rest = meaning-parts texts patterns d.piece (map (read_by texts reading) d.args) bytes made
              ∙ ap (λ b. flat_map (part_bytes texts b (map (read_by texts reading) d.args)) (parts_of patterns d.piece)) same
              ∙ ap (λ n. flat_map (part_bytes texts p.braces (map (read_by texts reading) d.args)) (drop n (parts_of patterns d.piece))) (sym next);
        }

-- the part at a place, apart from those behind it
pub cut_at : (xs ys : List Part) (n : ℕ) (part : Part) → xs ≡ ys → part ≡ get_or xs n part → n < length xs → drop n ys ≡ part ∷ drop (n + 1) ys
cut_at xs ys n part same is h =
    subst (λ zs. drop n zs ≡ part ∷ drop (n + 1) zs) same (drop_more xs n part h ∙ ap (λ p. p ∷ drop (n + 1) xs) (sym is))

-- behind the last part there is none
pub cut_past : (xs ys : List Part) (n : ℕ) → xs ≡ ys → length xs ≤ n → drop n ys ≡ []
cut_past xs ys n same h = subst (λ zs. drop n zs ≡ []) same (drop_all n xs h)
