-- What stands at a key of many.
use Rattle.std.proofs.Common.{◌≡◌, ℕ, ◌^◌, ◌<◌, ◌%◌, length, All, Some, slice_get, slice_index, sym, subst, arith}
use Rattle.std.proofs.lemmas.List.FromFn.{get_or-map-range_with_len, length-map-range_with_len}
use Rattle.std.proofs.lemmas.Option.{slice_get_read}
use Rattle.lido_base.specs.Ranges.{IsInRange}
use Rattle.trials_of_boundaries.specs.Rows.{value_at, contents_of, region_of, owners_of}

pub value_there : (n k : ℕ) → k < n → slice_get (contents_of n) k ≡ Some (value_at k)
value_there n k room =
    slice_get_read (contents_of n) n k (value_at k) (sym (length-map-range_with_len value_at 0 n)) room
    (sym (get_or-map-range_with_len value_at 0 n k k (value_at k) room (omega arith)))

pub owner_there : (n k : ℕ) → k < n → slice_index (owners_of n) k ≡ k % 4
owner_there n k room = get_or-map-range_with_len region_of 0 n k k 0 room (omega arith)

fits : (k : ℕ) → k < 2 ^ 16 → IsInRange (value_at k)
fits k small = omega arith

pub all_fit : (n : ℕ) → n < 2 ^ 16 → All IsInRange (contents_of n)
all_fit n small k d room =
    let size = length-map-range_with_len value_at 0 n in
    let here : k < n = omega arith in
    subst IsInRange (sym (get_or-map-range_with_len value_at 0 n k k d here (omega arith))) (fits k (omega arith))

pub contents_length : (n : ℕ) → length (contents_of n) ≡ n
contents_length n = length-map-range_with_len value_at 0 n

pub owners_length : (n : ℕ) → length (owners_of n) ≡ n
owners_length n = length-map-range_with_len region_of 0 n
