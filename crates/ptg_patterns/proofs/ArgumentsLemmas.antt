-- One more point.
use Rattle.std.proofs.Common.{◌≡◌, ℕ, ◌+◌, max, zero, suc, nat_eq, Bool, true, false, ◌||◌, if◌then◌else◌, List, [], ◌∷◌, ◌++◌, length, Option, Some, None, slice_set, get_or, unwrap_or, not, map, ◌-◌, ◌≤◌, ◌<◌, refl, sym, ap, subst, ◌∙◌, arith}
use Rattle.std.specs.List.{list_any, range_with_len}
use Rattle.std.specs.Option.{is_some}
use Rattle.std.proofs.lemmas.List.FromFn.{map-range_with_len_more}
use Rattle.std.proofs.lemmas.List.Folds.{list_any-append}
use Rattle.std.proofs.lemmas.Bool.{eqb-true, eqb-false}
use Rattle.std.proofs.lemmas.List.{get_or-set_other, length-append}
use Rattle.std.proofs.lemmas.Grind.{get_or-set_at}
use Rattle.std.proofs.lemmas.Option.{unwrap_or-slice_get}
use Rattle.lido_base.specs.declared.value.ValueType.{ValueType}
use Rattle.lido_base.specs.declared.value.ValueType.TheVariants.{Text}
use Rattle.ptg_patterns.specs.declared.arguments.Arguments.{Arguments}
use Rattle.ptg_patterns.specs.declared.written.Point.{Point}
use Rattle.ptg_patterns.specs.Meaning.{arguments, first_type, greatest, argument_types}
use Rattle.ptg_patterns.specs.Tables.{type_at, set_at, RecordsPoints}
use Rattle.ptg_patterns.specs.Clashes.{has_number, has_no_number}

-- no type at one more number
pub type_at_push : (types : List (Option ValueType)) (j : ℕ) → type_at (types ++ None ∷ []) j ≡ type_at types j
type_at_push [] zero = refl
type_at_push [] (suc j) = refl
type_at_push (t ∷ types) zero = refl
type_at_push (t ∷ types) (suc j) = type_at_push types j

pub arguments_push : (k n : ℕ) (points : List Point) (point : Point) → n ≡ k + length points
    → arguments k (points ++ point ∷ []) ≡ arguments k points ++ (unwrap_or point.number n, point.kind) ∷ []
arguments_push k n [] point same = let e : k ≡ n = omega (arith, same) in ap (λ (m : ℕ). (unwrap_or point.number m, point.kind) ∷ []) e
arguments_push k n (p ∷ points) point same = ap (λ (l : List (ℕ × ValueType)). (unwrap_or p.number k, p.kind) ∷ l) (arguments_push (suc k) n points point (omega (arith, same)))

first_by : (j n : ℕ) (kind other : ValueType) (rest : List (ℕ × ValueType)) (b : Bool) → first_type j (rest ++ (n, kind) ∷ []) ≡ set_at (λ i. first_type i rest) n kind j
    → (if b then Some other else first_type j (rest ++ (n, kind) ∷ [])) ≡ elim (if b then Some other else first_type j rest) [ Some t ↦ Some t | None ↦ if nat_eq n j then Some kind else None ]
first_by j n kind other rest true later = refl
first_by j n kind other rest false later = later

pub first_push : (j n : ℕ) (kind : ValueType) (all : List (ℕ × ValueType)) → first_type j (all ++ (n, kind) ∷ []) ≡ set_at (λ i. first_type i all) n kind j
first_push j n kind [] = refl
first_push j n kind (a ∷ all) = first_by j n kind a.1 all (nat_eq a.0 j) (first_push j n kind all)

pub greatest_push : (all : List (ℕ × ValueType)) (n : ℕ) (kind : ValueType) → greatest (all ++ (n, kind) ∷ []) ≡ max (greatest all) n
greatest_push [] n kind = omega arith
greatest_push (a ∷ all) n kind = omega (arith, greatest_push all n kind)

kept_or_set : (b : Bool) (old : Option ValueType) (kind : ValueType) → b ≡ false → old ≡ elim old [ Some t ↦ Some t | None ↦ if b then Some kind else None ]
kept_or_set false None kind e = refl
kept_or_set b (Some t) kind e = refl
kept_or_set true None kind e = cc

-- a type put into the table
pub put_is : (types : List (Option ValueType)) (old : ℕ → Option ValueType) (n : ℕ) (kind : ValueType) → n < length types → ((j : ℕ) → type_at types j ≡ old j)
    → type_at types n ≡ None → (j : ℕ) → type_at (slice_set types n (Some kind)) j ≡ set_at old n kind j
put_is types old n kind less same none j = by (nat_eq n j) refl
  where
    by : (b : Bool) → nat_eq n j ≡ b → type_at (slice_set types n (Some kind)) j ≡ set_at old n kind j
    by true e =
        let equal : n ≡ j = eqb-true n j e in
        let gone : old j ≡ None = sym (same j) ∙ subst (λ (i : ℕ). type_at types i ≡ None) equal none in
        unwrap_or-slice_get (slice_set types n (Some kind)) j None ∙ get_or-set_at types n j (Some kind) None (sym equal) less
        ∙ sym (ap (λ (o : Option ValueType). elim o [ Some t ↦ Some t | None ↦ if nat_eq n j then Some kind else None ]) gone ∙ ap (λ (b : Bool). if b then Some kind else None) e)
    by false e =
        unwrap_or-slice_get (slice_set types n (Some kind)) j None ∙ get_or-set_other types n j (Some kind) None (λ h. eqb-false n j e (sym h))
        ∙ sym (unwrap_or-slice_get types j None) ∙ same j ∙ kept_or_set (nat_eq n j) (old j) kind e

or_false : (b : Bool) → (b || false) ≡ b
or_false false = refl
or_false true = refl

or_true : (b : Bool) → (b || true) ≡ true
or_true false = refl
or_true true = refl

any_more : (p : Point → Bool) (points : List Point) (point : Point) (b : Bool) → p point ≡ b → list_any p (points ++ point ∷ []) ≡ (list_any p points || b)
any_more p points point b e = list_any-append p points (point ∷ []) ∙ ap (λ (x : Bool). list_any p points || x) (or_false (p point) ∙ e)

-- the types once there is one more point
types_more : (table : Arguments) (types : List (Option ValueType)) (points : List Point) (point : Point) (number : ℕ) → RecordsPoints table points → number ≡ unwrap_or point.number (length points + 1)
    → ((j : ℕ) → type_at types j ≡ set_at (type_at table.types.items) number point.kind j) → (j : ℕ) → type_at types j ≡ first_type j (arguments 1 (points ++ point ∷ []))
types_more table types points point number before is set j =
    set j ∙ ap (λ (o : Option ValueType). elim o [ Some t ↦ Some t | None ↦ if nat_eq number j then Some point.kind else None ]) (before.types j)
    ∙ sym (first_push j number point.kind (arguments 1 points))
    ∙ sym (ap (first_type j) (arguments_push 1 (length points + 1) points point (omega arith) ∙ ap (λ (n : ℕ). arguments 1 points ++ (n, point.kind) ∷ []) (sym is)))

size_more : (table : Arguments) (size : ℕ) (points : List Point) (point : Point) (number : ℕ) → RecordsPoints table points → number ≡ unwrap_or point.number (length points + 1)
    → size ≡ max (length table.types.items) (number + 1) → size ≡ greatest (arguments 1 (points ++ point ∷ [])) + 1
size_more table size points point number before is grown =
    let all = ap greatest (arguments_push 1 (length points + 1) points point (omega arith) ∙ ap (λ (n : ℕ). arguments 1 points ++ (n, point.kind) ∷ []) (sym is)) in
    let more = greatest_push (arguments 1 points) number point.kind in
    let old = before.size in
    omega (arith, all, more, old, grown)

-- what the table keeps once there is one more point
pub keeps_more : (table next : Arguments) (points : List Point) (point : Point) (number : ℕ) → RecordsPoints table points → number ≡ unwrap_or point.number (length points + 1)
    → next.count ≡ table.count + 1 → next.has_bare ≡ (table.has_bare || has_no_number point) → next.has_numbered ≡ (table.has_numbered || has_number point)
    → ((j : ℕ) → type_at next.types.items j ≡ set_at (type_at table.types.items) number point.kind j)
    → length next.types.items ≡ max (length table.types.items) (number + 1) → RecordsPoints next (points ++ point ∷ [])
keeps_more table next points point number before is count bare numbered set grown = record {
  count = omega (arith, count, before.count, length-append points (point ∷ []));
  has_bare = bare ∙ ap (λ (b : Bool). b || has_no_number point) before.has_bare ∙ sym (any_more has_no_number points point (has_no_number point) refl);
  has_numbered = numbered ∙ ap (λ (b : Bool). b || has_number point) before.has_numbered ∙ sym (any_more has_number points point (has_number point) refl);
  types = types_more table next.types.items points point number before is set;
  size = size_more table (length next.types.items) points point number before is grown;
}

-- the flags once there is one more point
pub flag_on : (old b : Bool) → b ≡ true → true ≡ (old || b)
flag_on old b e = sym (ap (λ (x : Bool). old || x) e ∙ or_true old)

pub flag_kept : (old b : Bool) → b ≡ false → old ≡ (old || b)
flag_kept old b e = sym (ap (λ (x : Bool). old || x) e ∙ or_false old)

pub form_is : (point : Point) (o : Option ℕ) → point.number ≡ o → has_number point ≡ elim o [ None ↦ false | Some n ↦ true ]
form_is point o e = ap (λ (x : Option ℕ). elim x [ None ↦ false | Some n ↦ true ]) e

pub no_some : (o : Option ValueType) (b : Bool) → is_some o ≡ not b → b ≡ true → o ≡ None
no_some None b e f = refl
no_some (Some t) true e f = cc
no_some (Some t) false e f = cc

-- ---- the types as a list

abbrev pub types_below : List (Option ValueType) → ℕ → List ValueType
types_below types n = map (λ j. unwrap_or (type_at types j) Text) (range_with_len 1 (n - 1))

pub type_more : (types : List (Option ValueType)) (found next : List ValueType) (n : ℕ) (kind : ValueType) → 1 ≤ n → found ≡ types_below types n
    → kind ≡ unwrap_or (get_or types n None) Text → next ≡ found ++ kind ∷ [] → next ≡ types_below types (n + 1)
type_more types found next n kind some before is more =
    let f : ℕ → ValueType = λ j. unwrap_or (type_at types j) Text in
    let count : n - 1 + 1 ≡ n + 1 - 1 = omega arith in
    let last : kind ≡ f n = is ∙ ap (λ (o : Option ValueType). unwrap_or o Text) (sym (unwrap_or-slice_get types n None)) in
    more ∙ ap (λ (l : List ValueType). l ++ kind ∷ []) before ∙ ap (λ (k : ValueType). map f (range_with_len 1 (n - 1)) ++ k ∷ []) last
    ∙ sym (map-range_with_len_more f 1 (n - 1) n (omega arith)) ∙ ap (λ (m : ℕ). map f (range_with_len 1 m)) count

pub all_types : (types : List (Option ValueType)) (found : List ValueType) (n m : ℕ) → n - 1 ≡ m - 1 → found ≡ types_below types n → found ≡ types_below types m
all_types types found n m same before = before ∙ ap (λ (k : ℕ). map (λ j. unwrap_or (type_at types j) Text) (range_with_len 1 k)) same

-- the table's types are those of the arguments
pub types_are : (table : Arguments) (points : List Point) (found : List ValueType) → RecordsPoints table points → found ≡ types_below table.types.items (length table.types.items)
    → found ≡ argument_types (arguments 1 points)
types_are table points found before is =
    let count : length table.types.items - 1 ≡ greatest (arguments 1 points) = omega (arith, before.size) in
    is ∙ (λ i. map (λ j. unwrap_or (before.types j i) Text) (range_with_len 1 (count i)))
