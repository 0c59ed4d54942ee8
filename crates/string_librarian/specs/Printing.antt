-- What is left to print while a text is written, and how many steps that takes.
use Rattle.std.specs.Prelude.{◌≡◌, ℕ, zero, suc, ◌+◌, ◌-◌, ◌<◌, List, [], ◌∷◌, ◌++◌, length, true, nat_eq, if◌then◌else◌, Option, Some, None, map, drop, flat_map, slice_get, unwrap_or, Contains}
use Rattle.std.specs.Fmt.{signed_decimal}
use Rattle.lido_base.specs.declared.value.Value.{Value}
use Rattle.lido_base.specs.declared.value.Value.TheVariants as value
use Rattle.lido_base.specs.declared.value.Desc.{Desc}
use Rattle.lido_base.specs.declared.pattern.Pattern.{Pattern}
use Rattle.lido_base.specs.declared.pattern.Part.{Part}
use Rattle.lido_base.specs.declared.pattern.PartPiece.TheVariants.{Fixed, Arg}
use Rattle.lido_base.specs.Operations.{part_bytes}
use Rattle.string_librarian.specs.declared.printing.Pending.{Pending}
use Rattle.string_librarian.specs.declared.printing.Output.{Output}
use Rattle.string_librarian.specs.declared.printing.Output.TheVariants as output
use Rattle.string_librarian.specs.declared.printing.Shown.{Shown}
use Rattle.string_librarian.specs.declared.printing.Shown.TheVariants as shown
use Rattle.string_librarian.specs.Rooms.{RoomState, Deposit, IsAt}
use Rattle.string_librarian.specs.Denotes.{Denotes, read_by}
use Rattle.string_librarian.specs.Parts.{parts_of, argument_of}

-- The bytes that an output writes.
abbrev pub output_bytes : List (List ℕ) → Output → List ℕ
output_bytes texts output.Nothing = []
output_bytes texts (output.Bytes s) = unwrap_or (slice_get texts s.0) []
output_bytes texts (output.Number z) = signed_decimal z

-- What comes next where this value is inserted.
abbrev pub shown_of : Value → Shown
shown_of (value.Int z) = shown.Print (output.Number z)
shown_of (value.Str s) = shown.Print (output.Bytes s)
shown_of (value.Text e) = if nat_eq e.len 0 then shown.Print output.Nothing else shown.Enter e
shown_of _ = shown.Print output.Nothing

-- The deposit has not ended.
abbrev pub GoesOn : Shown → Type 0
GoesOn shown.End = ⊥
GoesOn _ = Unit {0}

-- The same deposit, one part further.
abbrev pub advanced : Pending → Pending
advanced p = record { desc = p.desc; next = p.next + 1; braces = p.braces }

-- Deposit d has the text e among its arguments, or one of its texts has, and so on.
pub data IsBelow (rooms : List RoomState) : Desc → Desc → Type 0 where
  direct : {d e : Desc} {deposit : Deposit} → IsAt rooms d deposit → Contains deposit.args (value.Text e) → IsBelow rooms d e
  deeper : {d e f : Desc} {deposit : Deposit} → IsAt rooms d deposit → Contains deposit.args (value.Text e) → IsBelow rooms e f → IsBelow rooms d f

-- The deposit behind so many cells, and none where a deposit stands across that place or the room ends.
abbrev pub deposit_behind : List Deposit → ℕ → Option Deposit
deposit_behind [] n = None
deposit_behind (d ∷ ds) zero = Some d
deposit_behind (d ∷ ds) (suc n) = deposit_behind ds (n - length d.args)

abbrev pub deposits_in : List RoomState → ℕ → List Deposit
deposits_in rooms k = elim (slice_get rooms k) [ None ↦ [] | Some room ↦ room.deposits ]

abbrev pub deposit_of : List RoomState → Desc → Option Deposit
deposit_of rooms d = deposit_behind (deposits_in rooms d.room) (d.node - 1)

-- Steps of printing: one to end a deposit, one for each of its parts, and those of the texts that parts insert.
abbrev pub value_steps : (Desc → ℕ) → Value → ℕ
value_steps below (value.Text e) = below e
value_steps below _ = 0

abbrev pub part_steps : (Desc → ℕ) → List Value → Part → ℕ
part_steps below args part = elim part.piece [ Fixed s ↦ 0 | Arg k ↦ value_steps below (argument_of args k) ]

abbrev pub parts_steps : (Desc → ℕ) → List Value → List Part → ℕ
parts_steps below args [] = 1
parts_steps below args (part ∷ parts) = 1 + part_steps below args part + parts_steps below args parts

module _ (rooms : List RoomState) (patterns : List Pattern) where
  abbrev pub rest_steps : (Desc → ℕ) → Pending → ℕ
  rest_steps below p = elim (deposit_of rooms p.desc) [ None ↦ 1 | Some d ↦ parts_steps below d.args (drop p.next (parts_of patterns d.piece)) ]

  -- The steps of a descriptor's text, where deposits are followed so many deep.
  abbrev pub text_steps : ℕ → Desc → ℕ
  text_steps zero d = 0
  text_steps (suc depth) d = rest_steps (text_steps depth) (record { desc = d; next = 0; braces = true })

  -- The steps of all that is left, the outermost deposit first, from which deposits are followed so many deep.
  abbrev pub all_steps : ℕ → List Pending → ℕ
  all_steps depth [] = 0
  all_steps depth (p ∷ ps) = rest_steps (text_steps (depth - 1)) p + all_steps (depth - 1) ps

  module _ (texts : List (List ℕ)) where
    -- What is left of a deposit's text, from its next part on.
    pub record IsLeft (p : Pending) (bytes : List ℕ) : Type 0 where
      pub deposit : Deposit
      pub at : IsAt rooms p.desc deposit
      pub reading : Desc → List ℕ
      pub below : (e : Desc) → Contains deposit.args (value.Text e) → Denotes texts patterns rooms e (reading e)
      pub rest : bytes ≡ flat_map (part_bytes texts p.braces (map (read_by texts reading) deposit.args)) (drop p.next (parts_of patterns deposit.piece))

    -- What is left of all of them: the last first, and of each what is behind the one that it inserts.
    abbrev pub AreLeft : List Pending → List ℕ → Type 0
    AreLeft [] bytes = bytes ≡ []
    AreLeft (p ∷ ps) bytes = (inner : List ℕ) × (outer : List ℕ) × (bytes ≡ inner ++ outer) × IsLeft p outer × AreLeft ps inner

    -- The descriptor is that of a deposit, and denotes a text.
    pub record IsPlaced (d : Desc) : Type 0 where
      pub deposit : Deposit
      pub at : IsAt rooms d deposit
      pub bytes : List ℕ
      pub denotes : Denotes texts patterns rooms d bytes

    abbrev pub AreBelow : Desc → List Pending → Type 0
    AreBelow d [] = Unit {0}
    AreBelow d (p ∷ ps) = IsBelow rooms d p.desc × AreBelow d ps

    -- Each stands below all those before it.
    abbrev pub IsLine : List Pending → Type 0
    IsLine [] = Unit {0}
    IsLine (p ∷ ps) = IsPlaced p.desc × AreBelow p.desc ps × IsLine ps

    -- What is shown of a deposit's next part is in front of what is left of it, and takes steps.
    abbrev pub Shows : Pending → List ℕ → Shown → Type 0
    Shows p bytes shown.End = bytes ≡ []
    Shows p bytes (shown.Print out) = (rest : List ℕ) × (bytes ≡ output_bytes texts out ++ rest) × IsLeft (advanced p) rest
        × ((below : Desc → ℕ) → rest_steps below (advanced p) < rest_steps below p)
    Shows p bytes (shown.Enter e) = (inner : List ℕ) × (rest : List ℕ) × (bytes ≡ inner ++ rest) × Denotes texts patterns rooms e inner × (0 < e.len)
        × IsBelow rooms p.desc e × IsLeft (advanced p) rest
        × ((below : Desc → ℕ) → rest_steps below (advanced p) + below e < rest_steps below p)
