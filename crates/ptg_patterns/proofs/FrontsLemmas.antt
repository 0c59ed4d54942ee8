-- What is in front of marks that are patterns.
use Rattle.std.proofs.Common.{◌≡◌, ℕ, Bool, false, List, [], ◌∷◌, ◌++◌, Option, Some, None, refl, sym, ap, subst, ◌∙◌, append_assoc, append-nil}
use Rattle.lido_base.specs.declared.ids.StrId.{StrId}
use Rattle.ptg_patterns.specs.declared.marks.Mark.{Mark}
use Rattle.ptg_patterns.specs.declared.written.Item.{Item}
use Rattle.ptg_patterns.specs.declared.written.Written.{Written}
use Rattle.ptg_patterns.specs.Language.{IsItems, end, text, bare, numbered, opened, closed, IsWritten, none, pattern}
use Rattle.ptg_patterns.specs.Fronts.{item_front, head_front}

-- the items are what is in front, and those behind it
abbrev pub AfterItem : Option (Bool × Option Item × List Mark) → List Mark → List Item → List Mark → Type 0
AfterItem None marks items rest = (items ≡ []) × (rest ≡ marks)
AfterItem (Some (brace, None, behind)) marks items rest = IsItems brace behind items rest
AfterItem (Some (brace, Some item, behind)) marks items rest = (more : List Item) × (items ≡ item ∷ more) × IsItems brace behind more rest

no_item : (marks : List Mark) (patterns : List Written) → IsWritten marks patterns → AfterItem (item_front false marks) marks [] marks
no_item marks patterns none = (refl, refl)
no_item marks patterns (pattern reads few written) = (refl, refl)

pub item_in_front : (brace : Bool) (marks : List Mark) (items : List Item) (rest : List Mark) (patterns : List Written)
    → IsItems brace marks items rest → IsWritten rest patterns → AfterItem (item_front brace marks) marks items rest
item_in_front brace marks items rest patterns end written = no_item marks patterns written
item_in_front brace marks items rest patterns (text {items = more} reads) written = (more, refl, reads)
item_in_front brace marks items rest patterns (bare {items = more} reads) written = (more, refl, reads)
item_in_front brace marks items rest patterns (numbered {items = more} reads) written = (more, refl, reads)
item_in_front brace marks items rest patterns (opened reads) written = reads
item_in_front brace marks items rest patterns (closed reads) written = reads

-- whatever items the marks have are those that were found, and those that are left
abbrev pub AreItems : List Mark → List Item → Bool → List Mark → Type 0
AreItems marks found brace left = (items : List Item) (rest : List Mark) (patterns : List Written) → IsItems false marks items rest → IsWritten rest patterns
    → (more : List Item) × (items ≡ found ++ more) × IsItems brace left more rest

pub brace_found : (marks left behind : List Mark) (found : List Item) (brace next : Bool) → item_front brace left ≡ Some (next, None, behind)
    → AreItems marks found brace left → AreItems marks found next behind
brace_found marks left behind found brace next front before items rest patterns reads written =
    let (more, same, are) = before items rest patterns reads written in
    (more, same, subst (λ (o : Option (Bool × Option Item × List Mark)). AfterItem o left more rest) front (item_in_front brace left more rest patterns are written))

pub item_found : (marks left behind : List Mark) (found : List Item) (brace next : Bool) (item : Item) → item_front brace left ≡ Some (next, Some item, behind)
    → AreItems marks found brace left → AreItems marks (found ++ item ∷ []) next behind
item_found marks left behind found brace next item front before items rest patterns reads written =
    let (more, same, are) = before items rest patterns reads written in
    let (others, split, left_reads) = subst (λ (o : Option (Bool × Option Item × List Mark)). AfterItem o left more rest) front (item_in_front brace left more rest patterns are written) in
    (others, same ∙ ap (λ (l : List Item). found ++ l) split ∙ sym (append_assoc found (item ∷ []) others), left_reads)

pub all_found : (marks left : List Mark) (found : List Item) (brace : Bool) → item_front brace left ≡ None → AreItems marks found brace left
    → (items : List Item) (rest : List Mark) (patterns : List Written) → IsItems false marks items rest → IsWritten rest patterns → (items ≡ found) × (rest ≡ left)
all_found marks left found brace front before items rest patterns reads written =
    let (more, same, are) = before items rest patterns reads written in
    let last = subst (λ (o : Option (Bool × Option Item × List Mark)). AfterItem o left more rest) front (item_in_front brace left more rest patterns are written) in
    (same ∙ ap (λ (l : List Item). found ++ l) last.0 ∙ append-nil found, last.1)

-- ---- patterns

abbrev pub AfterHead : Option (ℕ × StrId × List Mark) → List Written → Type 0
AfterHead None patterns = patterns ≡ []
AfterHead (Some (at, id, behind)) patterns = (items : List Item) × (rest : List Mark) × (more : List Written) × IsItems false behind items rest × IsWritten rest more
    × (patterns ≡ record { at = at; name = id; items = items } ∷ more)

pub head_in_front : (marks : List Mark) (patterns : List Written) → IsWritten marks patterns → AfterHead (head_front marks) patterns
head_in_front marks patterns none = refl
head_in_front marks patterns (pattern {rest = rest} {items = items} {patterns = more} reads few written) = (items, rest, more, reads, written, refl)

abbrev pub ArePatterns : List Mark → List Written → List Mark → Type 0
ArePatterns marks found left = (patterns : List Written) → IsWritten marks patterns → (more : List Written) × (patterns ≡ found ++ more) × IsWritten left more

pub pattern_found : (marks left behind rest : List Mark) (found : List Written) (at : ℕ) (id : StrId) (items : List Item) → head_front left ≡ Some (at, id, behind)
    → ((others : List Item) (after : List Mark) (patterns : List Written) → IsItems false behind others after → IsWritten after patterns → (others ≡ items) × (after ≡ rest))
    → ArePatterns marks found left → ArePatterns marks (found ++ record { at = at; name = id; items = items } ∷ []) rest
pattern_found marks left behind rest found at id items front reading before patterns written =
    let (more, same, are) = before patterns written in
    let (others, after, later, reads, later_written, split) = subst (λ (o : Option (ℕ × StrId × List Mark)). AfterHead o more) front (head_in_front left more are) in
    let (items_same, rest_same) = reading others after later reads later_written in (
      later,
      same ∙ ap (λ (l : List Written). found ++ l) split ∙ (λ j. found ++ (record { at = at; name = id; items = items_same j } ∷ later))
          ∙ sym (append_assoc found (record { at = at; name = id; items = items } ∷ []) later),
      subst (λ (l : List Mark). IsWritten l later) rest_same later_written,
    )

pub patterns_found : (marks left : List Mark) (found : List Written) → head_front left ≡ None → ArePatterns marks found left
    → (patterns : List Written) → IsWritten marks patterns → patterns ≡ found
patterns_found marks left found front before patterns written =
    let (more, same, are) = before patterns written in
    let last = subst (λ (o : Option (ℕ × StrId × List Mark)). AfterHead o more) front (head_in_front left more are) in
    same ∙ ap (λ (l : List Written). found ++ l) last ∙ append-nil found
