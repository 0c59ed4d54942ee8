-- A pattern whose points agree has 64 arguments at most, and its parts insert these alone.
use Rattle.std.proofs.Common.{◌≡◌, ℕ, ◌+◌, ◌<◌, ◌≤◌, inl, suc, Bool, true, false, not, ◌||◌, ◌&&◌, nat_le, pos, negsuc, ℤ, if◌then◌else◌, List, [], ◌∷◌, ◌++◌, length, filter, map, Option, Some, None, unwrap_or, All, refl, sym, ap, subst, ◌∙◌, arith, append_assoc, IsTrue, Result, Ok, Err, IfOk, OnOk}
use Rattle.std.specs.List.{list_any}
use Rattle.std.proofs.lemmas.Bool.Decides.{nat_tests}
use Rattle.std.proofs.lemmas.List.FromFn.{length-map-range_with_len}
use Rattle.std.proofs.lemmas.List.Elements.{All-head, All-tail, All-cons, All-push}
use Rattle.lido_base.specs.declared.value.ValueType.TheVariants as type
use Rattle.lido_base.specs.declared.pattern.Pattern.{Pattern}
use Rattle.lido_base.specs.declared.pattern.Part.{Part}
use Rattle.lido_base.specs.declared.pattern.PartPiece.TheVariants as piece
use Rattle.lido_lexer.specs.declared.keyword.Keyword.{Keyword}
use Rattle.lido_lexer.specs.declared.keyword.Keyword.TheVariants as keyword
use Rattle.lido_lexer.specs.declared.sign.Sign.{Sign}
use Rattle.lido_lexer.specs.declared.sign.Sign.TheVariants as sign
use Rattle.lido_lexer.specs.declared.token.Token.{Token}
use Rattle.lido_lexer.specs.declared.token.TokenKind.{TokenKind}
use Rattle.lido_lexer.specs.declared.token.TokenKind.TheVariants as kind
use Rattle.ptg_patterns.specs.declared.fault.PtgFault.{PtgFault}
use Rattle.ptg_patterns.specs.declared.marks.Mark.{Mark}
use Rattle.ptg_patterns.specs.declared.marks.Mark.TheVariants as mark
use Rattle.ptg_patterns.specs.declared.written.Content.{Content}
use Rattle.ptg_patterns.specs.declared.written.Content.TheVariants.{Text, Point}
use Rattle.ptg_patterns.specs.declared.written.Point.{Point as PointOf}
use Rattle.ptg_patterns.specs.declared.written.Item.{Item}
use Rattle.ptg_patterns.specs.declared.written.Written.{Written}
use Rattle.ptg_patterns.specs.Marks.{is_numbered, key_mark, number_mark, sign_mark, mark_of, marks, marks_up_to}
use Rattle.ptg_patterns.specs.Language.{type_in_front, behind_type, is_bare, IsItems, end, text, bare, numbered, opened, closed, IsWritten, none, pattern}
use Rattle.ptg_patterns.specs.First.{HasNoClash}
use Rattle.ptg_patterns.specs.Meaning.{points, arguments, greatest, first_type, argument_types, parts, pattern_of, InsertsOneOf, HasItsArguments}
use Rattle.ptg_patterns.specs.Clashes.{has_number, has_no_number, has_other_form, IsMixed}

-- a number is 1 at least and 64 at most
abbrev pub IsSmall : Option ℕ → Type 0
IsSmall None = Unit {0}
IsSmall (Some n) = (1 ≤ n) × (n ≤ 64)

-- ---- points that agree

bare_clash : (first q : PointOf) (front : List PointOf) (n : ℕ) → first.number ≡ None → q.number ≡ Some n → IsMixed (first ∷ front) q
bare_clash first q front n is e = inl (subst (λ (o : Option ℕ). IsTrue (has_other_form (first ∷ front) o)) (sym e)
    (ap (λ (o : Option ℕ). not (elim o [ None ↦ false | Some m ↦ true ]) || list_any has_no_number front) is))

numbered_clash : (first q : PointOf) (front : List PointOf) (m : ℕ) → first.number ≡ Some m → q.number ≡ None → IsMixed (first ∷ front) q
numbered_clash first q front m is e = inl (subst (λ (o : Option ℕ). IsTrue (has_other_form (first ∷ front) o)) (sym e)
    (ap (λ (o : Option ℕ). elim o [ None ↦ false | Some i ↦ true ] || list_any has_number front) is))

bare_kept : (q : PointOf) (rest : List PointOf) → q.number ≡ None → length (filter has_no_number (q ∷ rest)) ≡ suc (length (filter has_no_number rest))
bare_kept q rest e = ap (λ (o : Option ℕ). length (if not (elim o [ None ↦ false | Some m ↦ true ]) then q ∷ filter has_no_number rest else filter has_no_number rest)) e

bare_step : (first q : PointOf) (front rest : List PointOf) (k : ℕ) → first.number ≡ None → HasNoClash IsMixed (first ∷ (front ++ q ∷ rest))
    → (greatest (arguments (suc (suc k)) rest) ≤ suc k + length rest) × (length (filter has_no_number rest) ≡ length rest) → (o : Option ℕ) → q.number ≡ o
    → (greatest (arguments (suc k) (q ∷ rest)) ≤ k + length (q ∷ rest)) × (length (filter has_no_number (q ∷ rest)) ≡ length (q ∷ rest))
bare_step first q front rest k is agree later None e =
    let number : unwrap_or q.number (suc k) ≡ suc k = ap (λ (o : Option ℕ). unwrap_or o (suc k)) e in
    let most = later.0 in
    (omega (arith, number, most), bare_kept q rest e ∙ ap suc later.1)
bare_step first q front rest k is agree later (Some n) e = absurd (agree (first ∷ front) q rest refl (bare_clash first q front n is e))

-- from a bare point on all are bare
bare_counts : (first : PointOf) (front rest : List PointOf) (k : ℕ) → first.number ≡ None → HasNoClash IsMixed (first ∷ (front ++ rest))
    → (greatest (arguments (suc k) rest) ≤ k + length rest) × (length (filter has_no_number rest) ≡ length rest)
bare_counts first front [] k is agree = (omega arith, refl)
bare_counts first front (q ∷ rest) k is agree =
    let more = subst (λ (l : List PointOf). HasNoClash IsMixed (first ∷ l)) (sym (append_assoc front (q ∷ []) rest)) agree in
    bare_step first q front rest k is agree (bare_counts first (front ++ q ∷ []) rest (suc k) is more) q.number refl

numbered_step : (first q : PointOf) (m : ℕ) (front rest : List PointOf) (k : ℕ) → first.number ≡ Some m → HasNoClash IsMixed (first ∷ (front ++ q ∷ rest))
    → IsSmall q.number → greatest (arguments (suc k) rest) ≤ 64 → (o : Option ℕ) → q.number ≡ o → greatest (arguments k (q ∷ rest)) ≤ 64
numbered_step first q m front rest k is agree small later None e = absurd (agree (first ∷ front) q rest refl (numbered_clash first q front m is e))
numbered_step first q m front rest k is agree small later (Some n) e =
    let number : unwrap_or q.number k ≡ n = ap (λ (o : Option ℕ). unwrap_or o k) e in
    let few : n ≤ 64 = (subst IsSmall e small).1 in
    omega (arith, number, few, later)

-- from a point with a number on all have one
numbered_counts : (first : PointOf) (m : ℕ) (front rest : List PointOf) (k : ℕ) → first.number ≡ Some m → HasNoClash IsMixed (first ∷ (front ++ rest))
    → All (λ (p : PointOf). IsSmall p.number) rest → greatest (arguments k rest) ≤ 64
numbered_counts first m front [] k is agree small = omega arith
numbered_counts first m front (q ∷ rest) k is agree small =
    let more = subst (λ (l : List PointOf). HasNoClash IsMixed (first ∷ l)) (sym (append_assoc front (q ∷ []) rest)) agree in
    let P : PointOf → Type 0 = λ p. IsSmall p.number in
    numbered_step first q m front rest k is agree (All-head P q rest small) (numbered_counts first m (front ++ q ∷ []) rest (suc k) is more (All-tail P q rest small)) q.number refl

agreeing_step : (p : PointOf) (rest : List PointOf) → HasNoClash IsMixed (p ∷ rest) → All (λ (q : PointOf). IsSmall q.number) (p ∷ rest) → length (filter has_no_number (p ∷ rest)) ≤ 64
    → (o : Option ℕ) → p.number ≡ o → greatest (arguments 1 (p ∷ rest)) ≤ 64
agreeing_step p rest agree small few None e =
    let counts = bare_counts p [] rest 1 e agree in
    let most = counts.0 in
    let count = counts.1 in
    let number : unwrap_or p.number 1 ≡ 1 = ap (λ (o : Option ℕ). unwrap_or o 1) e in
    let kept = bare_kept p rest e in
    omega (arith, number, kept, most, count, few)
agreeing_step p rest agree small few (Some n) e =
    let P : PointOf → Type 0 = λ q. IsSmall q.number in
    let number : unwrap_or p.number 1 ≡ n = ap (λ (o : Option ℕ). unwrap_or o 1) e in
    let own : n ≤ 64 = (subst IsSmall e (All-head P p rest small)).1 in
    let later = numbered_counts p n [] rest 2 e agree (All-tail P p rest small) in
    omega (arith, number, own, later)

agreeing_counts : (all : List PointOf) → HasNoClash IsMixed all → All (λ (p : PointOf). IsSmall p.number) all → length (filter has_no_number all) ≤ 64 → greatest (arguments 1 all) ≤ 64
agreeing_counts [] agree small few = omega arith
agreeing_counts (p ∷ rest) agree small few = agreeing_step p rest agree small few p.number refl

-- ---- items

both_kept : (item : Item) (p : PointOf) (items : List Item) (points : List PointOf) (o : Option ℕ) → length (filter is_bare items) ≡ length (filter has_no_number points)
    → length (if elim o [ None ↦ true | Some n ↦ false ] then item ∷ filter is_bare items else filter is_bare items)
    ≡ length (if not (elim o [ None ↦ false | Some n ↦ true ]) then p ∷ filter has_no_number points else filter has_no_number points)
both_kept item p items points None later = ap suc later
both_kept item p items points (Some n) later = later

bare_by : (content : Content) (brace : Bool) (items : List Item) → length (filter is_bare items) ≡ length (filter has_no_number (points items))
    → length (filter is_bare (record { content = content; brace = brace } ∷ items)) ≡ length (filter has_no_number (points (record { content = content; brace = brace } ∷ items)))
bare_by (Text id) brace items later = later
bare_by (Point p) brace items later = both_kept (record { content = Point p; brace = brace }) p items (points items) p.number later

bare_points : (items : List Item) → length (filter is_bare items) ≡ length (filter has_no_number (points items))
bare_points [] = refl
bare_points (item ∷ items) = bare_by item.content item.brace items (bare_points items)

-- items with small numbers, and with few bare points
pub record AreFew (items : List Item) : Type 0 where
  pub small : All (λ (p : PointOf). IsSmall p.number) (points items)
  pub bare : length (filter is_bare items) ≤ 64

pub few_arguments : (items : List Item) → HasNoClash IsMixed (points items) → AreFew items → length (argument_types (arguments 1 (points items))) ≤ 64
few_arguments items agree few =
    let most = agreeing_counts (points items) agree few.small (subst (λ (n : ℕ). n ≤ 64) (bare_points items) few.bare) in
    let all = arguments 1 (points items) in
    omega (arith, most, length-map-range_with_len (λ (j : ℕ). unwrap_or (first_type j all) type.Text) 1 (greatest all))

-- ---- marks

abbrev pub HasSmall : Mark → Type 0
HasSmall (mark.Number n) = (1 ≤ n) × (n ≤ 64)
HasSmall _ = Unit {0}

key_small : (k : Keyword) → HasSmall (key_mark k)
key_small keyword.Int = tt
key_small keyword.Str = tt
key_small _ = tt

number_small : (z : ℤ) → HasSmall (number_mark z)
number_small (pos k) = by (nat_le 1 k && nat_le k 64) refl
  where
    by : (b : Bool) → (nat_le 1 k && nat_le k 64) ≡ b → HasSmall (if b then mark.Number k else mark.Misfit)
    by true e = let low : 1 ≤ k = grind (arith, nat_tests, e) in let high : k ≤ 64 = grind (arith, nat_tests, e) in (low, high)
    by false e = tt
number_small (negsuc k) = tt

sign_small : (token : Token) (s : Sign) (behind : List Token) → HasSmall (sign_mark token s behind)
sign_small token sign.Colon behind = tt
sign_small token sign.BraceOpen behind = tt
sign_small token sign.BraceClose behind = tt
sign_small token sign.Dollar behind = by (is_numbered token behind)
  where
    by : (b : Bool) → HasSmall (if b then mark.Numbering token.from else mark.Bare token.from)
    by true = tt
    by false = tt
sign_small token _ behind = tt

mark_small : (from to : ℕ) (what : TokenKind) (behind : List Token) → HasSmall (mark_of (record { from = from; to = to; what = what }) behind)
mark_small from to (kind.Word id) behind = tt
mark_small from to (kind.Key k) behind = key_small k
mark_small from to (kind.Int z) behind = number_small z
mark_small from to (kind.Str id) behind = tt
mark_small from to (kind.Literal id) behind = tt
mark_small from to (kind.Sign s) behind = sign_small (record { from = from; to = to; what = kind.Sign s }) s behind

marks_small : (tokens : List Token) → All HasSmall (marks tokens)
marks_small [] = λ k d less. absurd (omega (arith, less))
marks_small (t ∷ tokens) = All-cons HasSmall (mark_of t tokens) (marks tokens) (mark_small t.from t.to t.what tokens) (marks_small tokens)

pub all_small : (tokens : List Token) (stuck : Option ℕ) → All HasSmall (marks_up_to tokens stuck)
all_small tokens None = marks_small tokens
all_small tokens (Some at) = All-push HasSmall (marks tokens) mark.Misfit (marks_small tokens) tt

type_small : (all : List Mark) → All HasSmall all → All HasSmall (behind_type all)
type_small [] a = a
type_small (mark.IntWord ∷ all) a = All-tail HasSmall mark.IntWord all a
type_small (mark.StringWord ∷ all) a = All-tail HasSmall mark.StringWord all a
type_small (m ∷ all) a = a

-- the points of the items, and what is left, have small numbers
items_small : (brace : Bool) (all rest : List Mark) (items : List Item) → IsItems brace all items rest → All HasSmall all
    → All (λ (p : PointOf). IsSmall p.number) (points items) × All HasSmall rest
items_small brace all rest items end a = ((λ k d less. absurd (omega (arith, less))), a)
items_small brace all rest items (text {id = id} {marks = us} {items = more} p) a = items_small brace us rest more p (All-tail HasSmall (mark.Fixed id) us a)
items_small brace all rest items (bare {at = at} {marks = us} {items = more} p) a =
    let later = items_small brace (behind_type us) rest more p (type_small us (All-tail HasSmall (mark.Bare at) us a)) in
    (All-cons (λ (q : PointOf). IsSmall q.number) (record { at = at; number = None; kind = type_in_front us }) (points more) tt later.0, later.1)
items_small brace all rest items (numbered {at = at} {number = n} {marks = us} {items = more} p) a =
    let behind = All-tail HasSmall (mark.Numbering at) (mark.Number n ∷ us) a in
    let later = items_small brace (behind_type us) rest more p (type_small us (All-tail HasSmall (mark.Number n) us behind)) in
    (All-cons (λ (q : PointOf). IsSmall q.number) (record { at = at; number = Some n; kind = type_in_front us }) (points more) (All-head HasSmall (mark.Number n) us behind) later.0, later.1)
items_small brace all rest items (opened {marks = us} p) a = items_small true us rest items p (All-tail HasSmall mark.BraceOpen us a)
items_small brace all rest items (closed {marks = us} p) a = items_small false us rest items p (All-tail HasSmall mark.BraceClose us a)

pub written_fit : (all : List Mark) (patterns : List Written) → IsWritten all patterns → All HasSmall all → All (λ (w : Written). AreFew w.items) patterns
written_fit all patterns none a = λ k d less. absurd (omega (arith, less))
written_fit all patterns (pattern {at = at} {id = id} {marks = us} {rest = rest} {items = items} {patterns = more} p few q) a =
    let both = items_small false us rest items p (All-tail HasSmall mark.Colon us (All-tail HasSmall (mark.Name at id) (mark.Colon ∷ us) a)) in
    All-cons (λ (w : Written). AreFew w.items) (record { at = at; name = id; items = items }) more (record { small = both.0; bare = few }) (written_fit rest more q both.1)

-- the patterns have few arguments
pub few_of_each : (all : List Written) → All (λ (w : Written). HasNoClash IsMixed (points w.items)) all → All (λ (w : Written). AreFew w.items) all
    → All (λ (p : Pattern). length p.args ≤ 64) (map pattern_of all)
few_of_each [] agree few = λ k d less. absurd (omega (arith, less))
few_of_each (w ∷ all) agree few =
    let A : Written → Type 0 = λ v. HasNoClash IsMixed (points v.items) in
    let F : Written → Type 0 = λ v. AreFew v.items in
    All-cons (λ (p : Pattern). length p.args ≤ 64) (pattern_of w) (map pattern_of all) (few_arguments w.items (All-head A w all agree) (All-head F w all few))
    (few_of_each all (All-tail A w all agree) (All-tail F w all few))

pub few_found : {X : Type 0} (view : X → List Pattern) (r : Result X PtgFault) (all : List Written) → IfOk r (λ found. view found ≡ map pattern_of all)
    → OnOk r (All (λ (w : Written). HasNoClash IsMixed (points w.items)) all) → All (λ (w : Written). AreFew w.items) all
    → IfOk r (λ found. All (λ (p : Pattern). length p.args ≤ 64) (view found))
few_found view (Ok found) all is agree few = subst (All (λ (p : Pattern). length p.args ≤ 64)) (sym is) (few_of_each all agree few)
few_found view (Err e) all is agree few = tt

-- ---- parts

at_least_one : (o : Option ℕ) (k : ℕ) → 1 ≤ k → IsSmall o → 1 ≤ unwrap_or o k
at_least_one None k least small = least
at_least_one (Some n) k least small = small.0

-- parts insert arguments up to the greatest of their numbers
parts_within : (count : ℕ) (items : List Item) (k : ℕ) → 1 ≤ k → All (λ (p : PointOf). IsSmall p.number) (points items) → greatest (arguments k (points items)) ≤ count
    → All (λ (part : Part). InsertsOneOf count part.piece) (parts k items)
parts_within count [] k least small most = λ i d less. absurd (omega (arith, less))
parts_within count (item ∷ items) k least small most = by item.content item.brace small most (parts_within count items k least) (parts_within count items (suc k) (omega arith))
  where
    by : (content : Content) (brace : Bool) → All (λ (p : PointOf). IsSmall p.number) (points (record { content = content; brace = brace } ∷ items))
        → greatest (arguments k (points (record { content = content; brace = brace } ∷ items))) ≤ count
        → (All (λ (p : PointOf). IsSmall p.number) (points items) → greatest (arguments k (points items)) ≤ count → All (λ (part : Part). InsertsOneOf count part.piece) (parts k items))
        → (All (λ (p : PointOf). IsSmall p.number) (points items) → greatest (arguments (suc k) (points items)) ≤ count → All (λ (part : Part). InsertsOneOf count part.piece) (parts (suc k) items))
        → All (λ (part : Part). InsertsOneOf count part.piece) (parts k (record { content = content; brace = brace } ∷ items))
    by (Text id) brace small most same next = All-cons (λ (part : Part). InsertsOneOf count part.piece) (record { piece = piece.Fixed id; brace = brace }) (parts k items) tt (same small most)
    by (Point p) brace small most same next =
        let here = at_least_one p.number k least (All-head (λ (q : PointOf). IsSmall q.number) p (points items) small) in
        let later = next (All-tail (λ (q : PointOf). IsSmall q.number) p (points items) small) (omega (arith, most)) in
        All-cons (λ (part : Part). InsertsOneOf count part.piece) (record { piece = piece.Arg (unwrap_or p.number k); brace = brace }) (parts (suc k) items) (here, (omega (arith, most))) later

-- a pattern's parts insert its own arguments
pattern_parts : (w : Written) → AreFew w.items → HasItsArguments (pattern_of w)
pattern_parts w few =
    let all = arguments 1 (points w.items) in
    parts_within (length (argument_types all)) w.items 1 (omega arith) few.small
    (let count = length-map-range_with_len (λ (j : ℕ). unwrap_or (first_type j all) type.Text) 1 (greatest all) in omega (arith, count))

parts_of_each : (all : List Written) → All (λ (w : Written). AreFew w.items) all → All HasItsArguments (map pattern_of all)
parts_of_each [] few = λ k d less. absurd (omega (arith, less))
parts_of_each (w ∷ all) few =
    let F : Written → Type 0 = λ v. AreFew v.items in
    All-cons HasItsArguments (pattern_of w) (map pattern_of all) (pattern_parts w (All-head F w all few)) (parts_of_each all (All-tail F w all few))

pub parts_found : {X : Type 0} (view : X → List Pattern) (r : Result X PtgFault) (all : List Written) → IfOk r (λ found. view found ≡ map pattern_of all)
    → All (λ (w : Written). AreFew w.items) all → IfOk r (λ found. All HasItsArguments (view found))
parts_found view (Ok found) all is few = subst (All HasItsArguments) (sym is) (parts_of_each all few)
parts_found view (Err e) all is few = tt

-- ---- names

names_of_each : (n : ℕ) (all : List Written) → All (λ (w : Written). w.name.0 < n) all → All (λ (p : Pattern). p.name.0 < n) (map pattern_of all)
names_of_each n [] named = λ k d less. absurd (omega (arith, less))
names_of_each n (w ∷ all) named =
    let P : Written → Type 0 = λ v. v.name.0 < n in
    All-cons (λ (p : Pattern). p.name.0 < n) (pattern_of w) (map pattern_of all) (All-head P w all named) (names_of_each n all (All-tail P w all named))

pub names_found : {X : Type 0} (view : X → List Pattern) (r : Result X PtgFault) (n : ℕ) (all : List Written) → IfOk r (λ found. view found ≡ map pattern_of all)
    → All (λ (w : Written). w.name.0 < n) all → IfOk r (λ found. All (λ (p : Pattern). p.name.0 < n) (view found))
names_found view (Ok found) n all is named = subst (All (λ (p : Pattern). p.name.0 < n)) (sym is) (names_of_each n all named)
names_found view (Err e) n all is named = tt
