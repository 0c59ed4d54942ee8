-- A text that is scanned in part.
use Rattle.std.proofs.Common.{get_or, ◌≤◌, ◌≡◌, ℕ, ℤ, ◌+◌, ◌<◌, ◌⊎◌, true, false, true≢false, take, drop, inl, inr, List, [], ◌∷◌, ◌++◌, length, Some, None, Option, Result, Ok, Err, refl, ap, sym, ◌∙◌, subst, arith, append_assoc, append-nil, suc, zero, length-append}
use Rattle.std.proofs.lemmas.List.{length-take}
use Rattle.lido_base.specs.Phases.{IsThe}
use Rattle.lido_base.specs.Reading.{SameHead, Begins, IsFaultPlace}
use Rattle.lido_base.proofs.ReadingLemmas.{fault_place}
use Rattle.std.specs.List.{take_while}
use Rattle.lido_lexer.specs.Bytes.{is_octal, is_plain, octal_front}
use Rattle.lido_lexer.specs.Tokens.{IsPart, plain, escape, octal, IsQuoted}
use Rattle.lido_lexer.proofs.Lists.{head_of, tail_of, no_bytes}
use Rattle.tree_store.specs.declared.fault.TreeFault.{TreeFault}
use Rattle.tree_store.specs.declared.fault.TreeFault.TheVariants as fault
use Rattle.tree_reader.specs.Language.{none, node, int, string, IsFront, Spells, IsOneNode, IsTreeOf, IsTreeText}
use Rattle.tree_reader.specs.Scanning.{Scanning, Begun, BeginsNode, Follows, Closes, Left, Moves, IsStuck, Refuses, HasScanned, is_done}
use Rattle.tree_reader.specs.declared.part.Coordinates.{Coordinates}
use Rattle.tree_reader.specs.declared.part.Part.{Part}
use Rattle.tree_reader.specs.declared.part.Part.TheVariants as part
use Rattle.tree_reader.specs.declared.scanner.Phase.{Phase}
use Rattle.tree_reader.specs.declared.scanner.Phase.TheVariants as phase
use Rattle.tree_reader.specs.declared.scanner.Scanner.{Scanner}
use Rattle.tree_reader.proofs.Completions.{completed}
use Rattle.tree_reader.proofs.MovesLemmas.{begin_follows, int_follows}
use Rattle.tree_reader.proofs.FaultPlaces.{no_fault, one_fault}

pub scanned_nothing : HasScanned [] (record { parts = []; phase = phase.Gap; held = []; depth = None })
scanned_nothing = record {
  stands = refl;
  on = λ more parts left. (left.1, left.0);
  back = λ more parts tree. (parts, refl, (tree.1, tree.0));
}

pub scanned_more : (front : List ℕ) (i b : ℕ) (s t : Scanner) → i ≡ length front → HasScanned front s → Moves i (b ∷ []) s [] t → HasScanned (front ++ b ∷ []) t
scanned_more front i b s t at before moves = record {
  stands = moves.stands;
  on = λ more parts left.
      let left' = subst (λ (l : List ℕ). Left t (length l) more parts) (append_assoc front (b ∷ []) more) left in
      let tree = before.on (b ∷ more) (moves.out ++ parts) (moves.on (length (front ++ b ∷ more)) more parts (omega (arith, at, length-append front (b ∷ more))) left') in
      subst (λ (l : List ℕ). IsTreeOf l (t.parts ++ parts)) (sym (append_assoc front (b ∷ []) more))
      (subst (λ (l : List Part). IsTreeOf (front ++ b ∷ more) l) (sym (append_assoc s.parts moves.out parts) ∙ ap (λ (l : List Part). l ++ parts) (sym moves.parts)) tree);
  back = λ more parts tree.
      let tree' = subst (λ (l : List ℕ). IsTreeOf l parts) (append_assoc front (b ∷ []) more) tree in
      let (later, e, left) = before.back (b ∷ more) parts tree' in
      let (last, d, left') = moves.back (length (front ++ b ∷ more)) more later (omega (arith, at, length-append front (b ∷ more))) left in (
        last,
        e ∙ ap (λ (l : List Part). s.parts ++ l) d ∙ sym (append_assoc s.parts moves.out last) ∙ ap (λ (l : List Part). l ++ last) (sym moves.parts),
        subst (λ (l : List ℕ). Left t (length l) more last) (sym (append_assoc front (b ∷ []) more)) left',
      );
}

pub scanned_begins : (front : List ℕ) (s : Scanner) → HasScanned front s → Begins IsTreeText front
scanned_begins front s scanned =
    let (more, parts, begun, follows) = completed s.phase s.held s.depth (length front) scanned.stands in
    (more, (s.parts ++ parts, scanned.on more parts (subst (λ (n : ℕ). Left s n more parts) (let e : length front + length more ≡ length (front ++ more) = omega (arith, length-append front more) in e) (begun, follows))))

stuck_at : (front : List ℕ) (i b : ℕ) (s : Scanner) (rest vs : List ℕ) → i ≡ length front → HasScanned front s → IsStuck i b s → SameHead (b ∷ rest) vs → IsTreeText (front ++ vs) → ⊥
stuck_at front i b s rest [] at scanned stuck same tree = same
stuck_at front i b s rest (v ∷ vs) at scanned stuck same (parts, tree) =
    let tree' = subst (λ (x : ℕ). IsTreeOf (front ++ x ∷ vs) parts) (sym same) tree in
    let (later, e, left) = scanned.back (b ∷ vs) parts tree' in
    stuck vs later (subst (λ (n : ℕ). Left s n (b ∷ vs) later) (let e : length (front ++ b ∷ vs) ≡ i + length (b ∷ vs) = omega (arith, at, length-append front (b ∷ vs)) in e) left)

-- a byte that fits nothing is where the text has its fault
pub stuck_fault : (front rest : List ℕ) (i b : ℕ) (s : Scanner) → i ≡ length front → HasScanned front s → IsStuck i b s → IsFaultPlace IsTreeText (front ++ b ∷ rest) i
stuck_fault front rest i b s at scanned stuck = subst (λ (n : ℕ). IsFaultPlace IsTreeText (front ++ b ∷ rest) n) (sym at)
    (fault_place IsTreeText front (b ∷ rest) (scanned_begins front s scanned) (λ vs same tree. stuck_at front i b s rest vs at scanned stuck same tree))

abbrev pub IsDone : Scanner → Type 0
IsDone s = (s.phase ≡ phase.Gap) × (s.depth ≡ Some 0)

pub done_tree : (text : List ℕ) (s : Scanner) → HasScanned text s → IsDone s → IsTreeOf text s.parts
done_tree text s scanned (gap, closed) =
    let left : Left s (length (text ++ [])) [] [] = (subst (λ (p : Phase). Begun p s.held (length (text ++ [])) [] []) (sym gap) refl, subst (λ (d : Option ℕ). Follows d []) (sym closed) refl) in
    subst (λ (l : List ℕ). IsTreeOf l s.parts) (append-nil text) (subst (λ (l : List Part). IsTreeOf (text ++ []) l) (append-nil s.parts) (scanned.on [] [] left))

pub done_only : (text : List ℕ) (s : Scanner) → HasScanned text s → IsDone s → (others : List Part) → IsTreeOf text others → others ≡ s.parts
done_only text s scanned (gap, closed) others tree =
    let (later, e, left) = scanned.back [] others (subst (λ (l : List ℕ). IsTreeOf l others) (sym (append-nil text)) tree) in
    e ∙ ap (λ (l : List Part). s.parts ++ l) (subst (λ (d : Option ℕ). Follows d later) closed left.1) ∙ append-nil s.parts

-- ---- a text that ends before the tree does

closes_none : (depth : ℕ) → Closes (suc depth) [] → ⊥
closes_none depth (none, at, more, e, closes) = cc
closes_none depth (node at name_at name coordinates below end after, last, more, e, closes) = cc
closes_none depth (int at z after, last, more, e, closes) = cc
closes_none depth (string at text after, last, more, e, closes) = cc

no_front : (end : ℕ) (p : Part) (rest : List ℕ) → IsFront end [] p rest → ⊥
no_front end (part.Begin at name_at name coordinates) rest (inner, beyond, e, stands, name_stands, named, has) = no_bytes e
no_front end (part.Int at z) rest (stands, is) = omega (arith, is.some)
no_front end (part.Str at text) rest (stands, is) = no_bytes is.opened
no_front end (part.End at) rest (stands, e) = no_bytes e

spelled_nothing : (end : ℕ) (parts : List Part) → Spells end parts [] → parts ≡ []
spelled_nothing end [] spells = refl
spelled_nothing end (p ∷ parts) (rest, front, more) = absurd (no_front end p rest front)

no_node : (p : Part) → IsOneNode (p ∷ []) → ⊥
no_node p (at, name_at, name, coordinates, none, end, e) = cc
no_node p (at, name_at, name, coordinates, node from name_from text others below last after, end, e) = cc
no_node p (at, name_at, name, coordinates, int from z after, end, e) = cc
no_node p (at, name_at, name, coordinates, string from text after, end, e) = cc

one_begun : (depth : Option ℕ) (at name_at : ℕ) (name : List ℕ) (c : Option Coordinates) → Follows depth (part.Begin at name_at name c ∷ []) → ⊥
one_begun None at name_at name c follows = no_node (part.Begin at name_at name c) follows
one_begun (Some zero) at name_at name c follows = cc
one_begun (Some (suc d)) at name_at name c follows =
    let closes = (begin_follows (Some (suc d)) at name_at name c [] (λ e. absurd (let n : suc d ≡ 0 = cc in omega (arith, n)))).1 follows in
    closes_none (suc d) (subst (λ (n : ℕ). Closes n []) (let e : suc d + 1 ≡ suc (suc d) = omega arith in e) closes)

one_int : (depth : Option ℕ) (at : ℕ) (z : ℤ) → Follows depth (part.Int at z ∷ []) → ⊥
one_int None at z follows = no_node (part.Int at z) follows
one_int (Some zero) at z follows = cc
one_int (Some (suc d)) at z follows = closes_none d ((int_follows d at z []).1 follows)

no_part_of : {byte : ℕ} {rest : List ℕ} → IsPart [] byte rest → ⊥
no_part_of (plain is passes) = no_bytes is
no_part_of (escape is meant) = no_bytes is
no_part_of (octal is some value small rest_is) = no_bytes is

no_escape_of : {byte : ℕ} {rest : List ℕ} → IsPart (92 ∷ []) byte rest → ⊥
no_escape_of (plain is passes) = true≢false (sym passes ∙ ap is_plain (sym (head_of is)))
no_escape_of (escape is meant) = no_bytes (tail_of is)
no_escape_of (octal is some value small rest_is) = omega (arith, subst (λ (l : List ℕ). 0 < length (octal_front l)) (sym (tail_of is)) some)

no_quoted : (text rest : List ℕ) → IsQuoted [] text rest → ⊥
no_quoted [] rest closed = no_bytes closed
no_quoted (x ∷ text) rest (inner, first, quoted) = no_part_of first

drop_nothing : (n : ℕ) → drop {A = ℕ} n [] ≡ []
drop_nothing zero = refl
drop_nothing (suc n) = refl

-- a text that ends behind a name
nothing_named : (at name_at : ℕ) (name : List ℕ) (depth : Option ℕ) (end : ℕ) (parts : List Part) → BeginsNode at name_at name end [] parts → Follows depth parts → ⊥
nothing_named at name_at name depth end parts (None, rest, later, e, is, spells) follows =
    one_begun depth at name_at name None (subst (λ (l : List Part). Follows depth l)
    (e ∙ ap (λ (l : List Part). part.Begin at name_at name None ∷ l) (spelled_nothing end later (subst (λ (l : List ℕ). Spells end later l) is spells))) follows)
nothing_named at name_at name depth end parts (Some c, rest, later, e, (digits, more, is, line, column), spells) follows = no_bytes is

unfinished : (p : Phase) (held : List ℕ) (depth : Option ℕ) (end : ℕ) (parts : List Part) → is_done p depth ≡ false → Begun p held end [] parts → Follows depth parts → ⊥
unfinished phase.Gap held None end parts other spells (at, name_at, name, coordinates, below, last, e) = absurd (let none_is = spelled_nothing end parts spells in cc)
unfinished phase.Gap held (Some zero) end parts other spells follows = true≢false other
unfinished phase.Gap held (Some (suc d)) end parts other spells follows = closes_none d (subst (λ (l : List Part). Closes (suc d) l) (spelled_nothing end parts spells) follows)
unfinished (phase.Opened at) held depth end parts other (name_at, name, rest, stands, named, begun) follows = true≢false (sym named.begins)
unfinished (phase.Name at name_at) held depth end parts other begun follows = nothing_named at name_at (held ++ []) depth end parts begun follows
unfinished (phase.Named at name_at) held depth end parts other begun follows = nothing_named at name_at held depth end parts begun follows
unfinished (phase.Line at name_at count value) held depth end parts other (c, digits, rest, later, e, line, column, spells) follows = no_bytes (sym line.after)
unfinished (phase.Column at name_at line count value) held depth end parts other (column, rest, later, e, number, spells) follows =
    one_begun depth at name_at held (Some (record { line = line; column = column })) (subst (λ (l : List Part). Follows depth l)
    (e ∙ ap (λ (l : List Part). part.Begin at name_at held (Some (record { line = line; column = column })) ∷ l) (spelled_nothing end later (subst (λ (l : List ℕ). Spells end later l) number.after spells))) follows)
unfinished (phase.Minus at) held depth end parts other (z, later, e, some, value, fits, spells) follows = omega (arith, some)
unfinished (phase.Digits at negative value) held depth end parts other (z, later, e, says, fits, spells) follows =
    one_int depth at z (subst (λ (l : List Part). Follows depth l) (e ∙ ap (λ (l : List Part). part.Int at z ∷ l) (spelled_nothing end later spells)) follows)
unfinished (phase.Text at) held depth end parts other (text, rest, later, e, quoted, spells) follows = no_quoted text rest quoted
unfinished (phase.Escape at) held depth end parts other (byte, inner, text, rest, later, e, first, quoted, spells) follows = no_escape_of first
unfinished (phase.Octal at count value) held depth end parts other (byte, inner, text, rest, later, e, is, small, after, quoted, spells) follows =
    no_quoted text rest (subst (λ (l : List ℕ). IsQuoted l text rest) (after ∙ drop_nothing (length (take_while is_octal (take count [])))) quoted)

pub unfinished_fault : (text : List ℕ) (s : Scanner) → HasScanned text s → is_done s.phase s.depth ≡ false → IsFaultPlace IsTreeText text (length text)
unfinished_fault text s scanned other = subst (λ (l : List ℕ). IsFaultPlace IsTreeText l (length text)) (append-nil text)
    (fault_place IsTreeText text [] (scanned_begins text s scanned) (λ vs same tree. at_end vs same tree))
  where
    at_end : (vs : List ℕ) → SameHead [] vs → IsTreeText (text ++ vs) → ⊥
    at_end [] same (parts, tree) = let (later, e, left) = scanned.back [] parts tree in unfinished s.phase s.held s.depth (length (text ++ [])) later other left.0 left.1
    at_end (v ∷ vs) same tree = same

pub done_is : (p : Phase) (depth : Option ℕ) → is_done p depth ≡ true → (p ≡ phase.Gap) × (depth ≡ Some 0)
done_is phase.Gap None test = absurd (true≢false (sym test))
done_is phase.Gap (Some zero) test = (refl, refl)
done_is phase.Gap (Some (suc d)) test = absurd (true≢false (sym test))
done_is (phase.Opened at) depth test = absurd (true≢false (sym test))
done_is (phase.Name at name_at) depth test = absurd (true≢false (sym test))
done_is (phase.Named at name_at) depth test = absurd (true≢false (sym test))
done_is (phase.Line at name_at count value) depth test = absurd (true≢false (sym test))
done_is (phase.Column at name_at line count value) depth test = absurd (true≢false (sym test))
done_is (phase.Minus at) depth test = absurd (true≢false (sym test))
done_is (phase.Digits at negative value) depth test = absurd (true≢false (sym test))
done_is (phase.Text at) depth test = absurd (true≢false (sym test))
done_is (phase.Escape at) depth test = absurd (true≢false (sym test))
done_is (phase.Octal at count value) depth test = absurd (true≢false (sym test))

-- ---- what the scan gives, and nothing else

only_parts : (text : List ℕ) (parts : List Part) → IsTreeOf text parts → ((others : List Part) → IsTreeOf text others → others ≡ parts) → (r : Result (List Part) TreeFault) → Scanning text r → r ≡ Ok parts
unfolding Scanning
only_parts text parts tree only (Ok others) given = ap (λ (l : List Part). Ok l) (only others given)
only_parts text parts tree only (Err (fault.TreeSyntax at)) given = absurd (no_fault IsTreeText text at (parts, tree) given)
only_parts text parts tree only (Err (fault.UnknownRule at)) given = absurd given
only_parts text parts tree only (Err (fault.WrongRoot at)) given = absurd given
only_parts text parts tree only (Err (fault.WrongChild at)) given = absurd given
only_parts text parts tree only (Err (fault.TooMany what)) given = absurd given
only_parts text parts tree only (Err fault.Memory) given = absurd given

pub the_parts : (text : List ℕ) (s : Scanner) → HasScanned text s → is_done s.phase s.depth ≡ true → IsThe (Scanning text) (Ok s.parts)
unfolding Scanning
the_parts text s scanned done =
    let is = done_is s.phase s.depth done in
    record { is = done_tree text s scanned is; only = only_parts text s.parts (done_tree text s scanned is) (done_only text s scanned is) }

only_place : (text : List ℕ) (at : ℕ) → IsFaultPlace IsTreeText text at → (r : Result (List Part) TreeFault) → Scanning text r → r ≡ Err (fault.TreeSyntax at)
unfolding Scanning
only_place text at place (Ok others) given = absurd (no_fault IsTreeText text at (others, given) place)
only_place text at place (Err (fault.TreeSyntax other)) given = ap (λ (n : ℕ). Err (fault.TreeSyntax n)) (one_fault IsTreeText text other at given place)
only_place text at place (Err (fault.UnknownRule other)) given = absurd given
only_place text at place (Err (fault.WrongRoot other)) given = absurd given
only_place text at place (Err (fault.WrongChild other)) given = absurd given
only_place text at place (Err (fault.TooMany what)) given = absurd given
only_place text at place (Err fault.Memory) given = absurd given

pub the_place : (text : List ℕ) (at : ℕ) → IsFaultPlace IsTreeText text at → IsThe (Scanning text) (Err (fault.TreeSyntax at))
unfolding Scanning
the_place text at place = record { is = place; only = only_place text at place }

pub refused_is : (front rest : List ℕ) (i b : ℕ) (s : Scanner) (e : TreeFault) → i ≡ length front → HasScanned front s → Refuses i b s e → (e ≡ fault.Memory) ⊎ IsThe (Scanning (front ++ b ∷ rest)) (Err e)
refused_is front rest i b s (fault.TreeSyntax at) place scanned (is, stuck) =
    inr (subst (λ (n : ℕ). IsThe (Scanning (front ++ b ∷ rest)) (Err (fault.TreeSyntax n))) (sym is) (the_place (front ++ b ∷ rest) i (stuck_fault front rest i b s place scanned stuck)))
refused_is front rest i b s (fault.UnknownRule at) place scanned refused = absurd refused
refused_is front rest i b s (fault.WrongRoot at) place scanned refused = absurd refused
refused_is front rest i b s (fault.WrongChild at) place scanned refused = absurd refused
refused_is front rest i b s (fault.TooMany what) place scanned refused = absurd refused
refused_is front rest i b s fault.Memory place scanned refused = inl refl

pub take_more : (i : ℕ) (bytes : List ℕ) → i < length bytes → take (i + 1) bytes ≡ take i bytes ++ get_or bytes i 0 ∷ []
take_more i [] less = absurd (omega arith)
take_more zero (b ∷ bytes) less = refl
take_more (suc i) (b ∷ bytes) less = ap (λ (n : ℕ). take n (b ∷ bytes)) (let e : suc i + 1 ≡ suc (i + 1) = omega arith in e) ∙ ap (λ (l : List ℕ). b ∷ l) (take_more i bytes (omega arith))

pub split_at : (i : ℕ) (bytes : List ℕ) → i < length bytes → bytes ≡ take i bytes ++ get_or bytes i 0 ∷ drop (i + 1) bytes
split_at i [] less = absurd (omega arith)
split_at zero (b ∷ bytes) less = refl
split_at (suc i) (b ∷ bytes) less = ap (λ (l : List ℕ). b ∷ l) (split_at i bytes (omega arith))
    ∙ ap (λ (n : ℕ). b ∷ (take i bytes ++ get_or bytes i 0 ∷ drop n (b ∷ bytes))) (let e : suc (i + 1) ≡ suc i + 1 = omega arith in e)

-- ---- what the loop asks

pub read_more : (text : List ℕ) (i : ℕ) (s t : Scanner) → i < length text → HasScanned (take i text) s → Moves i (get_or text i 0 ∷ []) s [] t → HasScanned (take (i + 1) text) t
read_more text i s t less scanned moves = subst (λ (l : List ℕ). HasScanned l t) (sym (take_more i text less)) (scanned_more (take i text) i (get_or text i 0) s t (omega (arith, length-take i text)) scanned moves)

pub read_stops : (text : List ℕ) (i : ℕ) (s : Scanner) (e : TreeFault) → i < length text → HasScanned (take i text) s → Refuses i (get_or text i 0) s e → (e ≡ fault.Memory) ⊎ IsThe (Scanning text) (Err e)
read_stops text i s e less scanned refused = subst (λ (l : List ℕ). (e ≡ fault.Memory) ⊎ IsThe (Scanning l) (Err e)) (sym (split_at i text less))
    (refused_is (take i text) (drop (i + 1) text) i (get_or text i 0) s e (omega (arith, length-take i text)) scanned refused)

pub take_all : (i : ℕ) (bytes : List ℕ) → length bytes ≤ i → take i bytes ≡ bytes
take_all i [] past = take_none i
  where
    take_none : (n : ℕ) → take {A = ℕ} n [] ≡ []
    take_none zero = refl
    take_none (suc n) = refl
take_all zero (b ∷ bytes) past = absurd (omega arith)
take_all (suc i) (b ∷ bytes) past = ap (λ (l : List ℕ). b ∷ l) (take_all i bytes (omega arith))

pub read_whole : (text : List ℕ) (i : ℕ) (s : Scanner) → length text ≤ i → HasScanned (take i text) s → HasScanned text s
read_whole text i s past scanned = subst (λ (l : List ℕ). HasScanned l s) (take_all i text past) scanned
