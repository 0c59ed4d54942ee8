-- How the scanner's moves are made, and joined.
use Rattle.std.proofs.Common.{◌≡◌, ◌≢◌, ℕ, ℤ, ◌+◌, ◌↔◌, List, [], ◌∷◌, ◌++◌, length, Some, None, Option, Result, Ok, Err, refl, ap, sym, ◌∙◌, subst, arith, append_assoc, append-nil, suc, zero}
use Rattle.std.specs.Prelude.{IfErr, OnOk, ⊤}
use Rattle.tree_store.specs.declared.fault.TreeFault.{TreeFault}
use Rattle.tree_store.specs.declared.fault.TreeFault.TheVariants as fault
use Rattle.tree_reader.specs.Language.{none, node, int, string, parts_of, IsOneNode}
use Rattle.tree_reader.specs.Scanning.{Begun, Follows, Closes, Left, Stands, Moves, Refuses, deeper}
use Rattle.tree_reader.specs.declared.part.Coordinates.{Coordinates}
use Rattle.tree_reader.specs.declared.part.Part.{Part}
use Rattle.tree_reader.specs.declared.part.Part.TheVariants as part
use Rattle.tree_reader.specs.declared.scanner.Phase.{Phase}
use Rattle.tree_reader.specs.declared.scanner.Scanner.{Scanner}
use Rattle.tree_reader.proofs.BegunLemmas.{GivesPart}

-- nothing is given
pub quiet : (i b : ℕ) (p : Phase) (old new : Scanner) → old.phase ≡ p → new.parts ≡ old.parts → new.depth ≡ old.depth → Stands new
    → ((end : ℕ) (more : List ℕ) (parts : List Part) → i + length (b ∷ more) ≡ end → Begun new.phase new.held end more parts ↔ Begun p old.held end (b ∷ more) parts)
    → Moves i (b ∷ []) old [] new
quiet i b p old new was parts depth stands same = record {
  out = [];
  parts = parts ∙ sym (append-nil old.parts);
  stands = stands;
  on = λ end more ps place left. (subst (λ (q : Phase). Begun q old.held end (b ∷ more) ps) (sym was) ((same end more ps place).0 left.0), subst (λ (d : Option ℕ). Follows d ps) depth left.1);
  back = λ end more ps place left.
      (ps, refl, ((same end more ps place).1 (subst (λ (q : Phase). Begun q old.held end (b ∷ more) ps) was left.0), subst (λ (d : Option ℕ). Follows d ps) (sym depth) left.1));
}

-- a part is given
pub giving : (i b : ℕ) (bytes : List ℕ) (p : Phase) (g : Part) (old new : Scanner) → old.phase ≡ p → new.parts ≡ old.parts ++ g ∷ [] → Stands new
    → ((parts : List Part) → Follows new.depth parts ↔ Follows old.depth (g ∷ parts))
    → ((end : ℕ) (more : List ℕ) (parts : List Part) → i + length (b ∷ more) ≡ end → GivesPart (λ later. Begun new.phase new.held end (bytes ++ more) later) g parts ↔ Begun p old.held end (b ∷ more) parts)
    → Moves i (b ∷ []) old bytes new
giving i b bytes p g old new was parts stands follows same = record {
  out = g ∷ [];
  parts = parts;
  stands = stands;
  on = λ end more ps place left. (subst (λ (q : Phase). Begun q old.held end (b ∷ more) (g ∷ ps)) (sym was) ((same end more (g ∷ ps) place).0 (ps, refl, left.0)), (follows ps).0 left.1);
  back = λ end more ps place left.
      let gives = (same end more ps place).1 (subst (λ (q : Phase). Begun q old.held end (b ∷ more) ps) was left.0) in
      (gives.0, gives.1, (gives.2, (follows gives.0).1 (subst (λ (l : List Part). Follows old.depth l) gives.1 left.1)));
}

-- a byte is looked at once more
pub again : (i b : ℕ) (p : Phase) (old new : Scanner) → old.phase ≡ p → new.parts ≡ old.parts → new.depth ≡ old.depth → Stands new
    → ((end : ℕ) (more : List ℕ) (parts : List Part) → Begun new.phase new.held end (b ∷ more) parts ↔ Begun p old.held end (b ∷ more) parts)
    → Moves i (b ∷ []) old (b ∷ []) new
again i b p old new was parts depth stands same = record {
  out = [];
  parts = parts ∙ sym (append-nil old.parts);
  stands = stands;
  on = λ end more ps place left. (subst (λ (q : Phase). Begun q old.held end (b ∷ more) ps) (sym was) ((same end more ps).0 left.0), subst (λ (d : Option ℕ). Follows d ps) depth left.1);
  back = λ end more ps place left.
      (ps, refl, ((same end more ps).1 (subst (λ (q : Phase). Begun q old.held end (b ∷ more) ps) was left.0), subst (λ (d : Option ℕ). Follows d ps) (sym depth) left.1));
}

pub then_moves : {i b : ℕ} {old mid new : Scanner} → Moves i (b ∷ []) old (b ∷ []) mid → Moves i (b ∷ []) mid [] new → Moves i (b ∷ []) old [] new
then_moves {i} {b} {old} {mid} {new} first second = record {
  out = first.out ++ second.out;
  parts = second.parts ∙ ap (λ (l : List Part). l ++ second.out) first.parts ∙ append_assoc old.parts first.out second.out;
  stands = second.stands;
  on = λ end more ps place left. subst (λ (l : List Part). Left old end (b ∷ more) l) (sym (append_assoc first.out second.out ps)) (first.on end more (second.out ++ ps) place (second.on end more ps place left));
  back = λ end more ps place left.
      let a = first.back end more ps place left in
      let z = second.back end more a.0 place a.2 in
      (z.0, a.1 ∙ ap (λ (l : List Part). first.out ++ l) z.1 ∙ sym (append_assoc first.out second.out z.0), z.2);
}

pub then_stuck : {i b : ℕ} {old mid : Scanner} (e : TreeFault) → Moves i (b ∷ []) old (b ∷ []) mid → Refuses i b mid e → Refuses i b old e
then_stuck {i} {b} (fault.TreeSyntax at) first (is, stuck) = (is, λ more ps left. let a = first.back (i + length (b ∷ more)) more ps refl left in stuck more a.0 a.2)
then_stuck (fault.UnknownRule at) first refused = refused
then_stuck (fault.WrongRoot at) first refused = refused
then_stuck (fault.WrongChild at) first refused = refused
then_stuck (fault.TooMany what) first refused = refused
then_stuck fault.Memory first refused = refused

pub moves_after : {i b : ℕ} {old mid : Scanner} (new : Scanner) (r : Result ⊤ TreeFault) → Moves i (b ∷ []) old (b ∷ []) mid → OnOk r (Moves i (b ∷ []) mid [] new) → OnOk r (Moves i (b ∷ []) old [] new)
moves_after new (Ok x) first second = then_moves first second
moves_after new (Err e) first second = second

pub refused_after : {i b : ℕ} {old mid : Scanner} (r : Result ⊤ TreeFault) → Moves i (b ∷ []) old (b ∷ []) mid → IfErr r (λ e. Refuses i b mid e) → IfErr r (λ e. Refuses i b old e)
refused_after (Ok x) first second = second
refused_after (Err e) first second = then_stuck e first second

-- ---- what may follow

closes_at : (m n : ℕ) (parts : List Part) → m ≡ n → Closes m parts → Closes n parts
closes_at m n parts e closes = subst (λ (k : ℕ). Closes k parts) e closes

pub begin_follows : (depth : Option ℕ) (at name_at : ℕ) (name : List ℕ) (coordinates : Option Coordinates) (parts : List Part) → depth ≢ Some 0 → Follows (Some (deeper depth)) parts ↔ Follows depth (part.Begin at name_at name coordinates ∷ parts)
begin_follows None at name_at name coordinates parts some = (on, back)
  where
    on : Closes 1 parts → IsOneNode (part.Begin at name_at name coordinates ∷ parts)
    on (below, end, more, e, closed) = (at, name_at, name, coordinates, below, end, ap (λ (l : List Part). part.Begin at name_at name coordinates ∷ l) (e ∙ ap (λ (l : List Part). parts_of below ++ (part.End end ∷ l)) closed))

    back : IsOneNode (part.Begin at name_at name coordinates ∷ parts) → Closes 1 parts
    back (from, name_from, text, others, below, end, e) = (below, end, [], (let same : parts ≡ parts_of below ++ (part.End end ∷ []) = cc in same), refl)
begin_follows (Some zero) at name_at name coordinates parts some = absurd (some refl)
begin_follows (Some (suc depth)) at name_at name coordinates parts some = (
  λ closes. on (closes_at (suc depth + 1) (suc (suc depth)) parts (omega arith) closes),
  λ closes. closes_at (suc (suc depth)) (suc depth + 1) parts (omega arith) (back closes),
)
  where
    on : Closes (suc (suc depth)) parts → Closes (suc depth) (part.Begin at name_at name coordinates ∷ parts)
    on (below, end, more, e, (after, last, rest, d, closes)) = (
      node at name_at name coordinates below end after,
      last,
      rest,
      ap (λ (l : List Part). part.Begin at name_at name coordinates ∷ l) (e ∙ ap (λ (l : List Part). parts_of below ++ (part.End end ∷ l)) d ∙ sym (append_assoc (parts_of below) (part.End end ∷ parts_of after) (part.End last ∷ rest))),
      closes,
    )

    back : Closes (suc depth) (part.Begin at name_at name coordinates ∷ parts) → Closes (suc (suc depth)) parts
    back (none, last, rest, d, closes) = absurd (cc)
    back (int from z after, last, rest, d, closes) = absurd (cc)
    back (string from text after, last, rest, d, closes) = absurd (cc)
    back (node from name_from text others below end after, last, rest, d, closes) = (
      below,
      end,
      parts_of after ++ (part.End last ∷ rest),
      (let same : parts ≡ (parts_of below ++ (part.End end ∷ parts_of after)) ++ (part.End last ∷ rest) = cc in same ∙ append_assoc (parts_of below) (part.End end ∷ parts_of after) (part.End last ∷ rest)),
      (after, last, rest, refl, closes),
    )

pub int_follows : (depth at : ℕ) (z : ℤ) (parts : List Part) → Closes (suc depth) parts ↔ Closes (suc depth) (part.Int at z ∷ parts)
int_follows depth at z parts = (on, back)
  where
    on : Closes (suc depth) parts → Closes (suc depth) (part.Int at z ∷ parts)
    on (children, last, rest, e, closes) = (int at z children, last, rest, ap (λ (l : List Part). part.Int at z ∷ l) e, closes)

    back : Closes (suc depth) (part.Int at z ∷ parts) → Closes (suc depth) parts
    back (none, last, rest, d, closes) = absurd (cc)
    back (int from x after, last, rest, d, closes) = (after, last, rest, (let same : parts ≡ parts_of after ++ (part.End last ∷ rest) = cc in same), closes)
    back (string from text after, last, rest, d, closes) = absurd (cc)
    back (node from name_from text others below end after, last, rest, d, closes) = absurd (cc)

pub text_follows : (depth at : ℕ) (text : List ℕ) (parts : List Part) → Closes (suc depth) parts ↔ Closes (suc depth) (part.Str at text ∷ parts)
text_follows depth at text parts = (on, back)
  where
    on : Closes (suc depth) parts → Closes (suc depth) (part.Str at text ∷ parts)
    on (children, last, rest, e, closes) = (string at text children, last, rest, ap (λ (l : List Part). part.Str at text ∷ l) e, closes)

    back : Closes (suc depth) (part.Str at text ∷ parts) → Closes (suc depth) parts
    back (none, last, rest, d, closes) = absurd (cc)
    back (int from x after, last, rest, d, closes) = absurd (cc)
    back (string from other after, last, rest, d, closes) = (after, last, rest, (let same : parts ≡ parts_of after ++ (part.End last ∷ rest) = cc in same), closes)
    back (node from name_from other others below end after, last, rest, d, closes) = absurd (cc)

pub end_follows : (depth at : ℕ) (parts : List Part) → Closes depth parts ↔ Closes (suc depth) (part.End at ∷ parts)
end_follows depth at parts = (on, back)
  where
    on : Closes depth parts → Closes (suc depth) (part.End at ∷ parts)
    on closes = (none, at, parts, refl, closes)

    back : Closes (suc depth) (part.End at ∷ parts) → Closes depth parts
    back (none, last, rest, d, closes) = subst (λ (l : List Part). Closes depth l) (let same : rest ≡ parts = cc in same) closes
    back (int from x after, last, rest, d, closes) = absurd (cc)
    back (string from other after, last, rest, d, closes) = absurd (cc)
    back (node from name_from other others below end after, last, rest, d, closes) = absurd (cc)
