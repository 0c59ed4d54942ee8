-- Texts of one room, as they are built.
use Rattle.std.specs.Prelude.{Contains}
use Rattle.std.proofs.Common.{◌≡◌, ◌∙◌, ◌⊎◌, ◌+◌, inl, inr, ℕ, List, [], ◌∷◌, ◌++◌, Some, length, slice_get, unwrap_or, refl, ap, sym, subst, arith}
use Rattle.std.specs.Prelude.{slice_set, Bool, true, false, ◌&&◌, nat_eq, if◌then◌else◌}
use Rattle.std.proofs.Common.{eqb-true, eq-eqb}
use Rattle.std.proofs.lemmas.List.{length-append}
use Rattle.std.proofs.lemmas.Bool.{and_parts}
use Rattle.lido_base.specs.declared.value.Value.{Value}
use Rattle.lido_base.specs.declared.value.Value.TheVariants as value
use Rattle.lido_base.specs.declared.value.Desc.{Desc}
use Rattle.lido_base.specs.declared.ids.StrId.{StrId}
use Rattle.lido_base.specs.declared.pattern.Piece.TheVariants as piece
use Rattle.lido_base.proofs.TreeLemmas.{contains-cons}
use Rattle.string_librarian.specs.Denotes.{Denotes, Makes}
use Rattle.string_librarian.proofs.DenotesLemmas.{text_length}
use Rattle.string_librarian.specs.Rooms.{RoomState, Deposit, cells_of}
use Rattle.trials_of_texts.specs.Held.{IsHeld}

no_text : (s : StrId) (e : Desc) → Contains (value.Str s ∷ []) (value.Text e) → ⊥
no_text s e m = go (contains-cons (value.Str s) (value.Text e) [] m)
  where
    go : (value.Str s ≡ value.Text e) ⊎ Contains [] (value.Text e) → ⊥
    go (inl is) = cc
    go (inr n) = absurd (omega (arith, n.1))

-- a string's deposit makes the string
pub makes_string : (texts : List (List ℕ)) (rooms : List RoomState) (s : StrId) → Makes texts [] rooms piece.AsIs (value.Str s ∷ []) (unwrap_or (slice_get texts s.0) [])
makes_string texts rooms s = record { reading = λ (e : Desc). []; below = λ e m. absurd (no_text s e m); made = refl }

pub cells_of-push : (ds : List Deposit) (d : Deposit) → cells_of (ds ++ d ∷ []) ≡ cells_of ds + (1 + length d.args)
cells_of-push [] d = omega arith
cells_of-push (x ∷ ds) d = let h = cells_of-push ds d in omega (arith, h)

pub held_by : (texts : List (List ℕ)) (room : RoomState) (d : Desc) (bytes : List ℕ) → room.number ≡ 0
    → (slice_get (room ∷ []) room.number ≡ Some room → Denotes texts [] (room ∷ []) d bytes) → IsHeld texts room d
held_by texts room d bytes first denotes = record { first = first; bytes = bytes; denotes = denotes (ap (λ n. slice_get (room ∷ []) n) first) }

pub kept_by : (texts : List (List ℕ)) (old new : RoomState) (d : Desc) → new.number ≡ old.number → IsHeld texts old d
    → ((bytes : List ℕ) → slice_get (old ∷ []) old.number ≡ Some old → Denotes texts [] (old ∷ []) d bytes → Denotes texts [] (slice_set (old ∷ []) old.number new) d bytes)
    → IsHeld texts new d
kept_by texts old new d same held earlier = record {
  first = same ∙ held.first;
  bytes = held.bytes;
  denotes = subst (λ l. Denotes texts [] l d held.bytes) (ap (λ n. slice_set (old ∷ []) n new) held.first)
      (earlier held.bytes (ap (λ n. slice_get (old ∷ []) n) held.first) held.denotes);
}

-- a test that two descriptors are one
same : Desc → Desc → Bool
same d e = nat_eq d.room e.room && (nat_eq d.node e.node && nat_eq d.len e.len)

same-refl : (d : Desc) → same d d ≡ true
unfolding same
same-refl d = rw (eq-eqb d.room d.room refl, eq-eqb d.node d.node refl, eq-eqb d.len d.len refl) refl

same-is : (d e : Desc) → same d e ≡ true → d ≡ e
unfolding same
same-is d e h =
    let a = and_parts _ _ h in let b = and_parts _ _ a.1 in
    λ j. record { room = eqb-true d.room e.room a.0 j; node = eqb-true d.node e.node b.0 j; len = eqb-true d.len e.len b.1 j }

-- of two texts that are denoted, what each descriptor is read as
reading_of : Desc → List ℕ → List ℕ → Desc → List ℕ
reading_of left a b e = if same left e then a else b

text_of : Value → Desc
text_of (value.Text d) = d
text_of _ = record { room = 0; node = 0; len = 0 }

text_injective : {d e : Desc} → value.Text d ≡ value.Text e → d ≡ e
unfolding text_of
text_injective is = ap text_of is

module _ (texts : List (List ℕ)) (rooms : List RoomState) (left right : Desc) (a b : List ℕ) (da : Denotes texts [] rooms left a) (db : Denotes texts [] rooms right b) where
  read_left : reading_of left a b left ≡ a
  unfolding reading_of
  read_left = ap (λ t. if t then a else b) (same-refl left)

  denoted : (e : Desc) → (e ≡ left) ⊎ (e ≡ right) → Denotes texts [] rooms e (reading_of left a b e)
  unfolding reading_of
  denoted e is = go (same left e) refl is
    where
      go : (t : Bool) → same left e ≡ t → (e ≡ left) ⊎ (e ≡ right) → Denotes texts [] rooms e (if t then a else b)
      go true h is = subst (λ x. Denotes texts [] rooms x a) (same-is left e h) da
      go false h (inl is) = absurd (let k : same left e ≡ true = ap (λ x. same left x) is ∙ same-refl left in let c : false ≡ true = sym h ∙ k in cc)
      go false h (inr is) = subst (λ x. Denotes texts [] rooms x b) (sym is) db

  one_of : (e : Desc) → Contains (value.Text left ∷ value.Text right ∷ []) (value.Text e) → (e ≡ left) ⊎ (e ≡ right)
  one_of e m = go (contains-cons (value.Text left) (value.Text e) (value.Text right ∷ []) m)
    where
      last : (value.Text right ≡ value.Text e) ⊎ Contains [] (value.Text e) → (e ≡ left) ⊎ (e ≡ right)
      last (inl is) = inr (sym (text_injective is))
      last (inr n) = absurd (omega (arith, n.1))

      go : (value.Text left ≡ value.Text e) ⊎ Contains (value.Text right ∷ []) (value.Text e) → (e ≡ left) ⊎ (e ≡ right)
      go (inl is) = inl (sym (text_injective is))
      go (inr n) = last (contains-cons (value.Text right) (value.Text e) [] n)

  pub joined_bytes : List ℕ
  joined_bytes = reading_of left a b left ++ reading_of left a b right

  pub makes_joined : Makes texts [] rooms piece.Seq (value.Text left ∷ value.Text right ∷ []) joined_bytes
  unfolding joined_bytes
  makes_joined = record { reading = reading_of left a b; below = λ e m. denoted e (one_of e m); made = refl }

  pub length-joined : length joined_bytes ≡ left.len + right.len
  unfolding joined_bytes
  length-joined = length-append (reading_of left a b left) (reading_of left a b right)
      ∙ (λ j. text_length texts [] rooms left (reading_of left a b left) (denoted left (inl refl)) j + text_length texts [] rooms right (reading_of left a b right) (denoted right (inr refl)) j)
