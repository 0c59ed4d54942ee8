-- One more item, and one more pattern.
use Rattle.std.proofs.Common.{◌≡◌, ℕ, ◌+◌, ◌≤◌, ◌<◌, suc, Bool, true, false, ◌||◌, nat_eq, List, [], ◌∷◌, ◌++◌, length, map, take, drop, get_or, slice_set, refl, sym, ap, ◌∙◌, arith, add-one, slice_get, unwrap_or}
use Rattle.std.proofs.Math.Seq.{take-suc, drop-cons}
use Rattle.std.proofs.lemmas.List.{take-append-drop, map-append, get_or-set_other}
use Rattle.std.proofs.lemmas.List.Folds.{list_any-append}
use Rattle.std.proofs.lemmas.Bool.{eqb-true, eqb-false}
use Rattle.std.proofs.lemmas.Grind.{get_or-set_at}
use Rattle.lido_base.specs.declared.ids.StrId.{StrId}
use Rattle.lido_base.specs.declared.pattern.Part.{Part}
use Rattle.lido_base.specs.declared.pattern.PartPiece.TheVariants as piece
use Rattle.lido_base.specs.declared.pattern.Pattern.{Pattern}
use Rattle.ptg_patterns.specs.declared.fault.PtgFault.{PtgFault}
use Rattle.ptg_patterns.specs.declared.fault.PtgFault.TheVariants.{PtgMixed}
use Rattle.ptg_patterns.specs.declared.written.Point.{Point as PointOf}
use Rattle.ptg_patterns.specs.declared.written.Content.{Content}
use Rattle.ptg_patterns.specs.declared.written.Content.TheVariants.{Text, Point}
use Rattle.ptg_patterns.specs.declared.written.Item.{Item}
use Rattle.ptg_patterns.specs.declared.written.Written.{Written}
use Rattle.ptg_patterns.specs.First.{HasNoClash}
use Rattle.ptg_patterns.specs.Meaning.{points, parts, pattern_of}
use Rattle.ptg_patterns.specs.Clashes.{IsMixed, IsMixedAt, is_used, is_reserved, is_taken, IsRefused, duplicate, mixed, CantStand, IsClash}
use Rattle.ptg_patterns.proofs.FirstLemmas.{first_here}

-- ---- items

pub points_of : (item : Item) (point : PointOf) → item.content ≡ Point point → points (item ∷ []) ≡ point ∷ []
points_of item point e = ap (λ (k : Content). elim k as (λ z. List PointOf) [ Text id ↦ [] | Point p ↦ p ∷ [] ]) e

points_by : (content : Content) (brace : Bool) (more others : List Item) → points (more ++ others) ≡ points more ++ points others
    → points (record { content = content; brace = brace } ∷ (more ++ others)) ≡ points (record { content = content; brace = brace } ∷ more) ++ points others
points_by (Text id) brace more others later = later
points_by (Point p) brace more others later = ap (λ (l : List PointOf). p ∷ l) later

pub points-append : (items others : List Item) → points (items ++ others) ≡ points items ++ points others
points-append [] others = refl
points-append (item ∷ items) others = points_by item.content item.brace items others (points-append items others)

few_by : (content : Content) (brace : Bool) (more : List Item) → length (points more) ≤ length more → length (points (record { content = content; brace = brace } ∷ more)) ≤ suc (length more)
few_by (Text id) brace more later = omega (arith, later)
few_by (Point p) brace more later = omega (arith, later)

pub few_points : (items : List Item) → length (points items) ≤ length items
few_points [] = omega arith
few_points (item ∷ items) = few_by item.content item.brace items (few_points items)

parts_by : (content : Content) (brace : Bool) (k n : ℕ) (more others : List Item)
    → n ≡ k + length (points (record { content = content; brace = brace } ∷ more))
    → ((m : ℕ) → n ≡ m + length (points more) → parts m (more ++ others) ≡ parts m more ++ parts n others)
    → parts k (record { content = content; brace = brace } ∷ (more ++ others)) ≡ parts k (record { content = content; brace = brace } ∷ more) ++ parts n others
parts_by (Text id) brace k n more others is later = ap (λ (l : List Part). record { piece = piece.Fixed id; brace = brace } ∷ l) (later k is)
parts_by (Point p) brace k n more others is later =
    ap (λ (l : List Part). record { piece = piece.Arg (unwrap_or p.number k); brace = brace } ∷ l) (later (suc k) (omega (arith, is)))

pub parts-append : (k n : ℕ) (items others : List Item) → n ≡ k + length (points items) → parts k (items ++ others) ≡ parts k items ++ parts n others
parts-append k n [] others is = let same : k ≡ n = omega (arith, is) in ap (λ (m : ℕ). parts m others) same
parts-append k n (item ∷ items) others is = parts_by item.content item.brace k n items others is (λ m e. parts-append m n items others e)

-- the items up to one more
pub one_more : (items : List Item) (i : ℕ) (d : Item) → i < length items → take (i + 1) items ≡ take i items ++ get_or items i d ∷ []
one_more items i d less = rw add-one (take-suc items i d less)

pub points_more : (items : List Item) (i : ℕ) (d : Item) → i < length items → points (take (i + 1) items) ≡ points (take i items) ++ points (get_or items i d ∷ [])
points_more items i d less = ap points (one_more items i d less) ∙ points-append (take i items) (get_or items i d ∷ [])

pub parts_more : (items : List Item) (i : ℕ) (d : Item) (found next : List Part) (part : Part) → i < length items → found ≡ parts 1 (take i items)
    → part ∷ [] ≡ parts (length (points (take i items)) + 1) (get_or items i d ∷ []) → next ≡ found ++ part ∷ [] → next ≡ parts 1 (take (i + 1) items)
parts_more items i d found next part less before is more =
    more ∙ (λ j. before j ++ is j) ∙ sym (ap (parts 1) (one_more items i d less) ∙ parts-append 1 (length (points (take i items)) + 1) (take i items) (get_or items i d ∷ []) (omega arith))

split_at : {A : Type 0} (items : List A) (i : ℕ) (d : A) → i < length items → items ≡ take i items ++ get_or items i d ∷ drop (suc i) items
split_at {A} items i d less = sym (ap (λ (l : List A). take i items ++ l) (sym (drop-cons items i d less)) ∙ take-append-drop i items)

-- the first point that does not agree
pub mixed_at : (items : List Item) (i : ℕ) (d : Item) (point : PointOf) (e : PtgFault) → i < length items → HasNoClash IsMixed (points (take i items))
    → points (get_or items i d ∷ []) ≡ point ∷ [] → e ≡ PtgMixed point.at → IsMixed (points (take i items)) point → IsMixedAt (points items) e
mixed_at items i d point e less none is fault clash =
    let here = points-append (get_or items i d ∷ []) (drop (suc i) items) in
    let all = ap points (split_at items i d less) ∙ points-append (take i items) (get_or items i d ∷ drop (suc i) items)
    ∙ ap (λ (l : List PointOf). points (take i items) ++ l) (here ∙ ap (λ (l : List PointOf). l ++ points (drop (suc i) items)) is) in
    (points (take i items), point, first_here IsMixed (points items) (points (take i items)) (points (drop (suc i) items)) point none clash all, fault)

-- ---- patterns

pub used_more : (texts : List (List ℕ)) (used : List Bool) (before : List Written) (one : Written) → length used ≡ length texts → one.name.0 < length texts
    → ((id : ℕ) → id < length texts → get_or used id false ≡ is_used before (record { 0 = id }))
    → (id : ℕ) → id < length texts → get_or (slice_set used one.name.0 true) id false ≡ is_used (before ++ one ∷ []) (record { 0 = id })
used_more texts used before one size in_range kept id less = by (nat_eq one.name.0 id) refl ∙ sym all
  where
    all : is_used (before ++ one ∷ []) (record { 0 = id }) ≡ (is_used before (record { 0 = id }) || (nat_eq one.name.0 id || false))
    all = list_any-append (λ (w : Written). nat_eq w.name.0 id) before (one ∷ [])

    or_true : (b : Bool) → true ≡ (b || true)
    or_true false = refl
    or_true true = refl

    or_false : (b : Bool) → b ≡ (b || false)
    or_false false = refl
    or_false true = refl

    by : (b : Bool) → nat_eq one.name.0 id ≡ b → get_or (slice_set used one.name.0 true) id false ≡ (is_used before (record { 0 = id }) || (nat_eq one.name.0 id || false))
    by true e = let same : id ≡ one.name.0 = sym (eqb-true one.name.0 id e) in
        get_or-set_at used one.name.0 id true false same (omega (arith, size, in_range)) ∙ or_true (is_used before (record { 0 = id }))
        ∙ ap (λ (b : Bool). is_used before (record { 0 = id }) || (b || false)) (sym e)
    by false e = get_or-set_other used one.name.0 id true false (λ h. eqb-false one.name.0 id e (sym h)) ∙ kept id less ∙ or_false (is_used before (record { 0 = id }))
        ∙ ap (λ (b : Bool). is_used before (record { 0 = id }) || (b || false)) (sym e)

pub written_more : (all : List Written) (i : ℕ) (d : Written) → i < length all → take (i + 1) all ≡ take i all ++ get_or all i d ∷ []
written_more all i d less = rw add-one (take-suc all i d less)

pub patterns_more : (all : List Written) (i : ℕ) (d : Written) (found next : List Pattern) → i < length all → found ≡ map pattern_of (take i all)
    → next ≡ found ++ pattern_of (get_or all i d) ∷ [] → next ≡ map pattern_of (take (i + 1) all)
patterns_more all i d found next less before more =
    more ∙ ap (λ (l : List Pattern). l ++ pattern_of (get_or all i d) ∷ []) before
    ∙ sym (ap (map pattern_of) (written_more all i d less) ∙ map-append pattern_of (take i all) (get_or all i d ∷ []))

-- a pattern whose name is free and whose points agree can stand
pub can_stand : (texts : List (List ℕ)) (before : List Written) (one : Written) → is_taken texts before one.name ≡ false → HasNoClash IsMixed (points one.items) → CantStand texts before one → ⊥
can_stand texts before one free agree (fault, duplicate taken) = let h : true ≡ false = sym taken ∙ free in cc
can_stand texts before one free agree (fault, mixed e at) = agree at.0 at.1 at.2.behind at.2.parts at.2.clashes

-- the first that can't
pub clash_at : (texts : List (List ℕ)) (all : List Written) (i : ℕ) (d : Written) (e : PtgFault) → i < length all → HasNoClash (CantStand texts) (take i all)
    → IsRefused texts (take i all) (get_or all i d) e → IsClash texts all e
clash_at texts all i d e less none refused =
    (take i all, get_or all i d, first_here (CantStand texts) all (take i all) (drop (suc i) all) (get_or all i d) none (e, refused) (split_at all i d less), refused)

-- what the table of used names says is so
pub taken_is : (texts : List (List ℕ)) (used : List Bool) (before : List Written) (name : StrId) (b : Bool)
    → b ≡ (is_reserved (unwrap_or (slice_get texts name.0) []) || get_or used name.0 false) → get_or used name.0 false ≡ is_used before name → is_taken texts before name ≡ b
taken_is texts used before name b is same = sym (is ∙ ap (λ (u : Bool). is_reserved (unwrap_or (slice_get texts name.0) []) || u) same)
