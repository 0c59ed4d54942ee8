-- The numbers of parts and of what they are the parts of.
use Rattle.std.proofs.Common.{◌≡◌, ℕ, ◌+◌, ◌<◌, ◌≤◌, Option, List, [], ◌∷◌, ◌++◌, take, length, get_or, Result, Ok, Err, sym, ◌∙◌, subst, arith, append_assoc, suc, zero}
use Rattle.std.specs.Prelude.{OnOk}
use Rattle.tree_reader.specs.Language.{Forest, none, node, int, string, parts_of}
use Rattle.tree_reader.specs.Writing.{IsFirstPart}
use Rattle.tree_reader.specs.Ints.{HasInts, HasInt, HaveInts}
use Rattle.tree_reader.specs.declared.part.Coordinates.{Coordinates}
use Rattle.tree_reader.specs.declared.part.Part.{Part}
use Rattle.tree_reader.specs.declared.part.Part.TheVariants as part

-- a part with a number of 64 bits, or with none
pub has_int : {p q : Part} → p ≡ q → HasInt q → HasInt p
has_int e has = subst HasInt (sym e) has

pub on_ok : {X E A : Type 0} (r : Result X E) → A → OnOk r A
on_ok (Ok x) a = a
on_ok (Err e) a = tt

pub one_more : (i : ℕ) (xs : List Part) (p : Part) → i < length xs → p ≡ get_or xs i p → HasInt p → HaveInts (take i xs) → HaveInts (take (i + 1) xs)
one_more i [] p less is has have = absurd (omega (arith, less))
one_more zero (x ∷ xs) p less is has have = (subst HasInt is has, tt)
one_more (suc i) (x ∷ xs) p less is has (first, have) =
    subst (λ (n : ℕ). HaveInts (take n (x ∷ xs))) (let e : suc (i + 1) ≡ suc i + 1 = omega arith in e) (first, one_more i xs p (omega (arith, less)) is has have)

pub all_have : (i : ℕ) (xs : List Part) → length xs ≤ i → HaveInts (take i xs) → HaveInts xs
all_have i [] past have = tt
all_have zero (x ∷ xs) past have = absurd (omega (arith, past))
all_have (suc i) (x ∷ xs) past (first, have) = (first, all_have i xs (omega (arith, past)) have)

record Both (f : Forest) (more : List Part) : Type 0 where
  pub forest : HasInts f
  pub behind : HaveInts more

ints_of : (f : Forest) (more : List Part) → HaveInts (parts_of f ++ more) → Both f more
ints_of none more have = record { forest = tt; behind = have }
ints_of (int at value after) more (first, have) = let rest = ints_of after more have in record { forest = (first, rest.forest); behind = rest.behind }
ints_of (string at text after) more (first, have) = let rest = ints_of after more have in record { forest = rest.forest; behind = rest.behind }
ints_of (node at name_at name coordinates below end after) more (first, have) =
    let inner = ints_of below (part.End end ∷ (parts_of after ++ more)) (subst HaveInts (append_assoc (parts_of below) (part.End end ∷ parts_of after) more) have) in
    let outer = ints_of after more inner.behind.1 in
    record { forest = (inner.forest, outer.forest); behind = outer.behind }

-- the numbers below the first node, where those of the parts behind its name fit
pub below_first : (parts : List Part) (at name_at : ℕ) (name : List ℕ) (coordinates : Option Coordinates) (below : Forest) (end from : ℕ) (other : List ℕ) (others : Option Coordinates) (rest : List Part)
    → parts ≡ parts_of (node at name_at name coordinates below end none) → IsFirstPart parts from other others rest → HaveInts rest → HasInts below
below_first parts at name_at name coordinates below end from other others rest is (first_at, low, close, too, behind) have =
    let whole : part.Begin at name_at name coordinates ∷ (parts_of below ++ (part.End end ∷ [])) ≡ part.Begin first_at from other others ∷ (parts_of low ++ (part.End close ∷ [])) = sym is ∙ too in
    let tail : parts_of below ++ (part.End end ∷ []) ≡ parts_of low ++ (part.End close ∷ []) = cc whole in
    (ints_of below (part.End end ∷ []) (subst HaveInts (behind ∙ sym tail) have)).forest
