-- A fault tells of one part of a text, so a text and its answer leave one table.
use Rattle.std.proofs.Common.{◌≡◌, ◌≢◌, ℕ, ◌+◌, ◌<◌, ◌≤◌, Option, List, [], ◌∷◌, ◌++◌, length, Result, Ok, Err, refl, ap, sym, ◌∙◌, subst, arith}
use Rattle.lido_base.specs.Phases.{IsThe}
use Rattle.lido_base.specs.declared.kinds.Many.TheVariants as many
use Rattle.lido_lexer.specs.Bytes.{is_name_byte}
use Rattle.lido_lexer.specs.Tables.{interned}
use Rattle.sum_trees.specs.Bytes.{is_white, behind}
use Rattle.tree_store.specs.declared.fault.TreeFault.{TreeFault}
use Rattle.tree_store.specs.declared.fault.TreeFault.TheVariants as fault
use Rattle.tree_reader.specs.Language.{IsFront, Spells}
use Rattle.tree_reader.specs.Scanning.{Scanning}
use Rattle.tree_reader.specs.WrittenTrees.{most_nodes}
use Rattle.tree_reader.specs.Tables.{texts_in, part_place, begins, begun, TellsOf, IsTable, IsTableOf}
use Rattle.tree_reader.specs.declared.part.Coordinates.{Coordinates}
use Rattle.tree_reader.specs.declared.part.Part.{Part}
use Rattle.tree_reader.specs.declared.part.Part.TheVariants as part
use Rattle.tree_reader.proofs.Shorter.{within, coordinates_within, front_shorter}

-- ---- later parts have later places

front_place : (end : ℕ) (bytes : List ℕ) (p : Part) (rest : List ℕ) → IsFront end bytes p rest → part_place p + length bytes ≡ end
front_place end bytes (part.Begin at name_at name coordinates) rest (inner, beyond, is, stands, name_stands, named, has) = stands
front_place end bytes (part.Int at z) rest (stands, int) = stands
front_place end bytes (part.Str at text) rest (stands, string) = stands
front_place end bytes (part.End at) rest (stands, is) = stands

-- the name stands behind the bracket
name_behind : (end : ℕ) (bytes : List ℕ) (at name_at : ℕ) (name : List ℕ) (coordinates : Option Coordinates) (rest : List ℕ) → IsFront end bytes (part.Begin at name_at name coordinates) rest → at < name_at
name_behind end bytes at name_at name coordinates rest (inner, beyond, is, stands, name_stands, named, has) = omega (arith, ap length is, within is_white inner, stands, name_stands)

-- and what is left, behind the name
left_behind : (end : ℕ) (bytes : List ℕ) (at name_at : ℕ) (name : List ℕ) (coordinates : Option Coordinates) (rest : List ℕ) → IsFront end bytes (part.Begin at name_at name coordinates) rest → name_at + length rest ≤ end
left_behind end bytes at name_at name coordinates rest (inner, beyond, is, stands, name_stands, named, has) =
    omega (arith, ap length named.after, within is_name_byte (behind is_white inner), name_stands, coordinates_within beyond coordinates rest has)

later_place : (end : ℕ) (before behind_it : List Part) (q : Part) (bytes : List ℕ) → Spells end (before ++ q ∷ behind_it) bytes → end ≤ part_place q + length bytes
later_place end [] behind_it q bytes (rest, front, more) = omega (arith, front_place end (behind is_white bytes) q rest front, within is_white bytes)
later_place end (p ∷ before) behind_it q bytes (rest, front, more) =
    omega (arith, later_place end before behind_it q rest more, front_shorter end (behind is_white bytes) p rest front, within is_white bytes)

later_name : (end : ℕ) (before behind_it : List Part) (at name_at : ℕ) (name : List ℕ) (coordinates : Option Coordinates) (bytes : List ℕ) → Spells end (before ++ part.Begin at name_at name coordinates ∷ behind_it) bytes
    → end < name_at + length bytes
later_name end [] behind_it at name_at name coordinates bytes (rest, front, more) =
    omega (arith, front_place end (behind is_white bytes) (part.Begin at name_at name coordinates) rest front, name_behind end (behind is_white bytes) at name_at name coordinates rest front, within is_white bytes)
later_name end (p ∷ before) behind_it at name_at name coordinates bytes (rest, front, more) =
    omega (arith, later_name end before behind_it at name_at name coordinates rest more, front_shorter end (behind is_white bytes) p rest front, within is_white bytes)

-- ---- a fault tells of one part

-- the fault tells of a part at the front, and of one of those behind it
record Both (e : TreeFault) (end nodes : ℕ) (bytes : List ℕ) (p : Part) (between : List Part) (q : Part) (behind_it : List Part) : Type 0 where
  pub rest : List ℕ
  pub front : IsFront end bytes p rest
  pub more : Spells end (between ++ q ∷ behind_it) rest
  pub first : TellsOf e nodes p
  pub second : TellsOf e (nodes + (begins p + begun between)) q

-- the names would stand at one place
named_once : (end : ℕ) (bytes rest : List ℕ) (at name_at : ℕ) (name : List ℕ) (coordinates : Option Coordinates) (between : List Part) (from name_from : ℕ) (other : List ℕ) (others : Option Coordinates) (behind_it : List Part)
    → IsFront end bytes (part.Begin at name_at name coordinates) rest → Spells end (between ++ part.Begin from name_from other others ∷ behind_it) rest → name_at ≡ name_from → ⊥
named_once end bytes rest at name_at name coordinates between from name_from other others behind_it front more same =
    absurd (omega (arith, left_behind end bytes at name_at name coordinates rest front, later_name end between behind_it from name_from other others rest more, same))

placed_once : (place end nodes : ℕ) (bytes : List ℕ) (p : Part) (between : List Part) (q : Part) (behind_it : List Part) → Both (fault.WrongChild place) end nodes bytes p between q behind_it → ⊥
placed_once place end nodes bytes p between q behind_it both =
    let one : place ≡ part_place p = both.first in
    let two : place ≡ part_place q = both.second in
    absurd (omega (arith, front_place end bytes p both.rest both.front, front_shorter end bytes p both.rest both.front, later_place end between behind_it q both.rest both.more))

not_both : (e : TreeFault) (end nodes : ℕ) (bytes : List ℕ) (p : Part) (between : List Part) (q : Part) (behind_it : List Part) → Both e end nodes bytes p between q behind_it → ⊥
not_both (fault.UnknownRule place) end nodes bytes (part.Begin at name_at name coordinates) between (part.Begin from name_from other others) behind_it both =
    named_once end bytes both.rest at name_at name coordinates between from name_from other others behind_it both.front both.more (sym both.first ∙ both.second)
not_both (fault.WrongRoot place) end nodes bytes (part.Begin at name_at name coordinates) between (part.Begin from name_from other others) behind_it both =
    named_once end bytes both.rest at name_at name coordinates between from name_from other others behind_it both.front both.more (sym both.first ∙ both.second)
not_both (fault.WrongChild place) end nodes bytes p between q behind_it both = placed_once place end nodes bytes p between q behind_it both
not_both (fault.TooMany many.Nodes) end nodes bytes (part.Begin at name_at name coordinates) between (part.Begin from name_from other others) behind_it both =
    let one : nodes ≡ most_nodes = both.first in
    let two : nodes + (1 + begun between) ≡ most_nodes = both.second in
    absurd (omega arith)
not_both (fault.UnknownRule place) end nodes bytes (part.Int at z) between q behind_it both = both.first
not_both (fault.UnknownRule place) end nodes bytes (part.Str at text) between q behind_it both = both.first
not_both (fault.UnknownRule place) end nodes bytes (part.End at) between q behind_it both = both.first
not_both (fault.UnknownRule place) end nodes bytes (part.Begin at name_at name coordinates) between (part.Int from w) behind_it both = both.second
not_both (fault.UnknownRule place) end nodes bytes (part.Begin at name_at name coordinates) between (part.Str from text) behind_it both = both.second
not_both (fault.UnknownRule place) end nodes bytes (part.Begin at name_at name coordinates) between (part.End from) behind_it both = both.second
not_both (fault.WrongRoot place) end nodes bytes (part.Int at z) between q behind_it both = both.first
not_both (fault.WrongRoot place) end nodes bytes (part.Str at text) between q behind_it both = both.first
not_both (fault.WrongRoot place) end nodes bytes (part.End at) between q behind_it both = both.first
not_both (fault.WrongRoot place) end nodes bytes (part.Begin at name_at name coordinates) between (part.Int from w) behind_it both = both.second
not_both (fault.WrongRoot place) end nodes bytes (part.Begin at name_at name coordinates) between (part.Str from text) behind_it both = both.second
not_both (fault.WrongRoot place) end nodes bytes (part.Begin at name_at name coordinates) between (part.End from) behind_it both = both.second
not_both (fault.TooMany many.Nodes) end nodes bytes (part.Int at z) between q behind_it both = both.first
not_both (fault.TooMany many.Nodes) end nodes bytes (part.Str at text) between q behind_it both = both.first
not_both (fault.TooMany many.Nodes) end nodes bytes (part.End at) between q behind_it both = both.first
not_both (fault.TooMany many.Nodes) end nodes bytes (part.Begin at name_at name coordinates) between (part.Int from w) behind_it both = both.second
not_both (fault.TooMany many.Nodes) end nodes bytes (part.Begin at name_at name coordinates) between (part.Str from text) behind_it both = both.second
not_both (fault.TooMany many.Nodes) end nodes bytes (part.Begin at name_at name coordinates) between (part.End from) behind_it both = both.second
not_both (fault.TooMany what) end nodes bytes p between q behind_it both = both.first
not_both (fault.TreeSyntax place) end nodes bytes p between q behind_it both = both.first
not_both fault.Memory end nodes bytes p between q behind_it both = both.first

-- two fronts of one list whose last parts the fault tells of are one
one_front : (e : TreeFault) (end nodes : ℕ) (bytes : List ℕ) (before : List Part) (p : Part) (behind_p : List Part) (others : List Part) (q : Part) (behind_q : List Part)
    → Spells end (before ++ p ∷ behind_p) bytes → before ++ p ∷ behind_p ≡ others ++ q ∷ behind_q → TellsOf e (nodes + begun before) p → TellsOf e (nodes + begun others) q
    → others ++ q ∷ [] ≡ before ++ p ∷ []
one_front e end nodes bytes [] p behind_p [] q behind_q spells same first second = let head : p ≡ q = cc in ap (λ (x : Part). x ∷ []) (sym head)
one_front e end nodes bytes [] p behind_p (x ∷ others) q behind_q (rest, front, more) same first second =
    let head : x ≡ p = cc in
    let tail : behind_p ≡ others ++ q ∷ behind_q = cc in
    absurd (not_both e end nodes (behind is_white bytes) p others q behind_q (record {
      rest = rest;
      front = front;
      more = subst (λ (l : List Part). Spells end l rest) tail more;
      first = subst (λ (n : ℕ). TellsOf e n p) (let n : nodes + 0 ≡ nodes = omega arith in n) first;
      second = subst (λ (y : Part). TellsOf e (nodes + (begins y + begun others)) q) head second;
    }))
one_front e end nodes bytes (x ∷ before) p behind_p [] q behind_q (rest, front, more) same first second =
    let head : x ≡ q = cc in
    absurd (not_both e end nodes (behind is_white bytes) q before p behind_p (record {
      rest = rest;
      front = subst (λ (y : Part). IsFront end (behind is_white bytes) y rest) head front;
      more = more;
      first = subst (λ (n : ℕ). TellsOf e n q) (let n : nodes + 0 ≡ nodes = omega arith in n) second;
      second = subst (λ (y : Part). TellsOf e (nodes + (begins y + begun before)) p) head first;
    }))
one_front e end nodes bytes (x ∷ before) p behind_p (y ∷ others) q behind_q (rest, front, more) same first second =
    let head : y ≡ x = cc in
    let tail : before ++ p ∷ behind_p ≡ others ++ q ∷ behind_q = cc in
    let moved : TellsOf e (nodes + (begins x + begun others)) q = subst (λ (z : Part). TellsOf e (nodes + (begins z + begun others)) q) head second in
    (λ j. head j ∷ one_front e end (nodes + begins x) rest before p behind_p others q behind_q more tail
    (subst (λ (n : ℕ). TellsOf e n p) (let n : nodes + (begins x + begun before) ≡ nodes + begins x + begun before = omega arith in n) first)
    (subst (λ (n : ℕ). TellsOf e n q) (let n : nodes + (begins x + begun others) ≡ nodes + begins x + begun others = omega arith in n) moved) j)

-- ---- one table

module _ (A : Type 0) (texts : List (List ℕ)) (end : ℕ) (bytes : List ℕ) (parts : List Part) (spells : Spells end parts bytes) (later other : List (List ℕ)) where
  Stopped : TreeFault → List (List ℕ) → Type 0
  Stopped e table = (read : List Part)
      × ((before : List Part) × (last : Part) × (behind_it : List Part) × (parts ≡ before ++ last ∷ behind_it) × (read ≡ before ++ last ∷ []) × TellsOf e (begun before) last)
      × (table ≡ interned texts (texts_in read))

  one_stop : (e : TreeFault) → Stopped e later → Stopped e other → other ≡ later
  unfolding Stopped
  one_stop e (read, (before, p, behind_p, is, up_to, told), table) (seen, (others, q, behind_q, same, far, says), also) =
      let front : others ++ q ∷ [] ≡ before ++ p ∷ [] = one_front e end 0 bytes before p behind_p others q behind_q (subst (λ (l : List Part). Spells end l bytes) is spells) (sym is ∙ same)
      (subst (λ (n : ℕ). TellsOf e n p) (let n : begun before ≡ 0 + begun before = omega arith in n) told)
      (subst (λ (n : ℕ). TellsOf e n q) (let n : begun others ≡ 0 + begun others = omega arith in n) says) in
      also ∙ ap (λ (l : List Part). interned texts (texts_in l)) (far ∙ front ∙ sym up_to) ∙ sym table

  one_of_parts : (r : Result A TreeFault) → r ≢ Err fault.Memory → IsTable texts parts r later → IsTable texts parts r other → other ≡ later
  unfolding Stopped
  one_of_parts (Ok x) told (read, all, table) (seen, also_all, also) = also ∙ ap (λ (l : List Part). interned texts (texts_in l)) (also_all ∙ sym all) ∙ sym table
  one_of_parts (Err (fault.TooMany many.Instances)) told (read, all, table) (seen, also_all, also) =
      also ∙ ap (λ (l : List Part). interned texts (texts_in l)) (also_all ∙ sym all) ∙ sym table
  one_of_parts (Err (fault.TooMany many.TextCells)) told (read, all, table) (seen, also_all, also) =
      also ∙ ap (λ (l : List Part). interned texts (texts_in l)) (also_all ∙ sym all) ∙ sym table
  one_of_parts (Err (fault.TooMany what)) told first second = one_stop (fault.TooMany what) first second
  one_of_parts (Err (fault.TreeSyntax at)) told first second = one_stop (fault.TreeSyntax at) first second
  one_of_parts (Err (fault.UnknownRule at)) told first second = one_stop (fault.UnknownRule at) first second
  one_of_parts (Err (fault.WrongRoot at)) told first second = one_stop (fault.WrongRoot at) first second
  one_of_parts (Err (fault.WrongChild at)) told first second = one_stop (fault.WrongChild at) first second
  one_of_parts (Err fault.Memory) told first second = absurd (told refl)

module _ (A : Type 0) (texts : List (List ℕ)) (text : List ℕ) where
  WithParts : Result A TreeFault → List (List ℕ) → Type 0
  WithParts r table = (parts : List Part) × IsThe (Scanning text) (Ok parts) × IsTable texts parts r table

  with_parts : (r : Result A TreeFault) → r ≢ Err fault.Memory → (later other : List (List ℕ)) → WithParts r later → WithParts r other → other ≡ later
  unfolding WithParts Scanning
  with_parts r told later other (parts, scanned, first) (seen, also, second) =
      let same : seen ≡ parts = (let answers : ◌≡◌ {A = Result (List Part) TreeFault} (Ok seen) (Ok parts) = scanned.only (Ok seen) also.is in cc) in
      one_of_parts A texts (length text) text parts scanned.is.1 later other r told first (subst (λ (l : List Part). IsTable texts l r other) same second)

  pub one_table_of : (r : Result A TreeFault) → r ≢ Err fault.Memory → (later other : List (List ℕ)) → IsTableOf texts text r later → IsTableOf texts text r other → other ≡ later
  unfolding WithParts
  one_table_of (Err (fault.TreeSyntax at)) told later other first second = second ∙ sym first
  one_table_of (Err fault.Memory) told later other first second = absurd (told refl)
  one_table_of (Ok x) told later other first second = with_parts (Ok x) told later other first second
  one_table_of (Err (fault.UnknownRule at)) told later other first second = with_parts (Err (fault.UnknownRule at)) told later other first second
  one_table_of (Err (fault.WrongRoot at)) told later other first second = with_parts (Err (fault.WrongRoot at)) told later other first second
  one_table_of (Err (fault.WrongChild at)) told later other first second = with_parts (Err (fault.WrongChild at)) told later other first second
  one_table_of (Err (fault.TooMany what)) told later other first second = with_parts (Err (fault.TooMany what)) told later other first second
