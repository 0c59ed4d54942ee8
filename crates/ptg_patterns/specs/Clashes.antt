-- Which patterns can't stand together, and which points of one pattern.
use Rattle.std.specs.Prelude.{◌≡◌, ◌≢◌, ◌⊎◌, ◌+◌, ℕ, nat_eq, Bool, true, false, ◌||◌, not, List, [], ◌∷◌, length, Option, Some, None, slice_get, unwrap_or, IsTrue, codes}
use Rattle.std.specs.List.{list_any}
use Rattle.std.specs.Str.{bytes_eq}
use Rattle.lido_base.specs.declared.ids.StrId.{StrId}
use Rattle.lido_base.specs.declared.value.ValueType.{ValueType}
use Rattle.ptg_patterns.specs.declared.fault.PtgFault.{PtgFault}
use Rattle.ptg_patterns.specs.declared.fault.PtgFault.TheVariants.{PtgDuplicate, PtgMixed}
use Rattle.ptg_patterns.specs.declared.written.Point.{Point}
use Rattle.ptg_patterns.specs.declared.written.Written.{Written}
use Rattle.ptg_patterns.specs.First.{IsFirstClash}
use Rattle.ptg_patterns.specs.Meaning.{points, arguments, first_type}

-- The point has a number.
abbrev pub has_number : Point → Bool
has_number point = elim point.number [ None ↦ false | Some n ↦ true ]

-- It has none.
abbrev pub has_no_number : Point → Bool
has_no_number point = not (has_number point)

-- One of the points has a number where this one has none, or the other way round.
abbrev pub has_other_form : List Point → Option ℕ → Bool
has_other_form before None = list_any has_number before
has_other_form before (Some n) = list_any has_no_number before

-- The point does not agree with those before it: one of them has a number and the other has none, or the first of them for the
-- same argument gives that another type.
abbrev pub IsMixed : List Point → Point → Type 0
IsMixed before point = IsTrue (has_other_form before point.number)
    ⊎ ((other : ValueType) × (first_type (unwrap_or point.number (length before + 1)) (arguments 1 before) ≡ Some other) × (other ≢ point.kind))

-- The fault is at the first of the points that does not agree with those before it.
abbrev pub IsMixedAt : List Point → PtgFault → Type 0
IsMixedAt points fault = (before : List Point) × (point : Point) × IsFirstClash IsMixed points before point × (fault ≡ PtgMixed point.at)

-- The names of functions that every text has.
abbrev pub reserved_names : List (List ℕ)
reserved_names = codes "Null" ∷ codes "NULL" ∷ codes "Numb" ∷ codes "AsIs" ∷ codes "Seq" ∷ codes "Out" ∷ []

-- The name is one of these.
abbrev pub is_reserved : List ℕ → Bool
is_reserved name = list_any (bytes_eq name) reserved_names

-- An earlier pattern has this name.
abbrev pub is_used : List Written → StrId → Bool
is_used before name = list_any (λ (written : Written). nat_eq written.name.0 name.0) before

module _ (texts : List (List ℕ)) where
  -- The name is reserved, or an earlier pattern has it.
  abbrev pub is_taken : List Written → StrId → Bool
  is_taken before name = is_reserved (unwrap_or (slice_get texts name.0) []) || is_used before name

  -- The pattern can't stand behind these: its name is taken, or else one of its points does not agree with those before it.
  pub data IsRefused (before : List Written) (written : Written) : PtgFault → Type 0 where
    duplicate : IsTrue (is_taken before written.name) → IsRefused before written (PtgDuplicate written.at)
    mixed : {fault : PtgFault} → is_taken before written.name ≡ false → IsMixedAt (points written.items) fault → IsRefused before written fault

  -- The pattern can't stand behind these.
  abbrev pub CantStand : List Written → Written → Type 0
  CantStand before written = (fault : PtgFault) × IsRefused before written fault

  -- The fault of the first pattern that can't stand behind those before it.
  abbrev pub IsClash : List Written → PtgFault → Type 0
  IsClash patterns fault = (before : List Written) × (written : Written) × IsFirstClash CantStand patterns before written × IsRefused before written fault
