-- A text says one thing.
use Rattle.std.proofs.Common.{◌≡◌, ℕ, ◌+◌, ◌<◌, ◌≤◌, inl, inr, Bool, true, false, List, [], ◌∷◌, ◌++◌, length, map, take, drop, Option, Result, Ok, Err, refl, sym, ap, subst, ◌∙◌, arith, append_assoc}
use Rattle.std.proofs.lemmas.List.{take-append-drop, take-take}
use Rattle.std.proofs.lemmas.Bool.{cases_order}
use Rattle.lido_base.specs.Reading.{Begins, IsFaultPlace}
use Rattle.lido_base.specs.Phases.{IsThe}
use Rattle.lido_base.specs.Texts.{IsDistinctTexts, interned}
use Rattle.lido_base.specs.declared.pattern.Pattern.{Pattern}
use Rattle.lido_base.proofs.TextsLemmas.{interned_distinct}
use Rattle.lido_lexer.specs.Lexing.{Placed}
use Rattle.lido_lexer.specs.declared.token.Token.{Token}
use Rattle.lido_lexer.specs.Tables.{texts_in}
use Rattle.lido_lexer.proofs.One.{one_cut}
use Rattle.lido_lexer.proofs.TablesLemmas.{same_tokens}
use Rattle.ptg_patterns.specs.declared.fault.PtgFault.{PtgFault}
use Rattle.ptg_patterns.specs.declared.fault.PtgFault.TheVariants.{PtgSyntax, PtgMixed}
use Rattle.ptg_patterns.specs.declared.marks.Mark.{Mark}
use Rattle.ptg_patterns.specs.declared.written.Item.{Item}
use Rattle.ptg_patterns.specs.declared.written.Point.{Point}
use Rattle.ptg_patterns.specs.declared.written.Written.{Written}
use Rattle.ptg_patterns.specs.Marks.{marks_up_to}
use Rattle.ptg_patterns.specs.Language.{IsItems, end, text, bare, numbered, opened, closed, IsWritten, none, pattern, IsText}
use Rattle.ptg_patterns.specs.Meaning.{points, pattern_of}
use Rattle.ptg_patterns.specs.Clashes.{IsMixed, IsMixedAt, IsRefused, duplicate, mixed, CantStand, IsClash}
use Rattle.ptg_patterns.specs.Texts.{AreTokens, Reads, PatternsOf, IsTableBehind, PatternsFrom, mark_place}
use Rattle.ptg_patterns.proofs.FrontsLemmas.{item_in_front, head_in_front}
use Rattle.ptg_patterns.proofs.FirstLemmas.{one_first, no_first}

-- ---- one fault place

module _ {T : Type 0} (L : List T → Type 0) (ts : List T) where
  front_begins : (j k : ℕ) → j ≤ k → Begins L (take k ts) → Begins L (take j ts)
  front_begins j k less b =
      let (more, whole) = subst (Begins L) (sym (take-append-drop j (take k ts))) b in
      subst (Begins L) (take-take j k ts less) (drop j (take k ts) ++ more, subst L (append_assoc (take j (take k ts)) (drop j (take k ts)) more) whole)

  whole_begins : (j : ℕ) → L ts → Begins L (take j ts)
  whole_begins j whole = (drop j ts, subst L (sym (take-append-drop j ts)) whole)

  not_before : (j k : ℕ) → IsFaultPlace L ts j → IsFaultPlace L ts k → j < k → ⊥
  not_before j k p q less = p.next_fits_none (omega (arith, less, q.within)) (front_begins (j + 1) k (omega (arith, less)) q.begins)

  one_place : (j k : ℕ) → IsFaultPlace L ts j → IsFaultPlace L ts k → j ≡ k
  one_place j k p q = elim (cases_order j k) [
    | inl same ↦ same
    | inr (inl less) ↦ absurd (not_before j k p q less)
    | inr (inr more) ↦ absurd (not_before k j q p more)
  ]

  not_whole : (k : ℕ) → IsFaultPlace L ts k → L ts → ⊥
  not_whole k p whole = elim (cases_order k (length ts)) [
    | inl same ↦ p.end_fits_none same whole
    | inr (inl less) ↦ p.next_fits_none less (whole_begins (k + 1) whole)
    | inr (inr more) ↦ absurd (omega (arith, more, p.within))
  ]

-- ---- marks are patterns in one way

end_items : (marks rest others : List Mark) (items : List Item) (patterns more : List Written) → IsWritten marks patterns → IsItems false marks items rest → IsWritten rest more → (items ≡ []) × (rest ≡ marks)
end_items marks rest others items patterns more none reads written = item_in_front false [] items rest more reads written
end_items marks rest others items patterns more (pattern {at = at} {id = id} {marks = us} p few q) reads written = item_in_front false marks items rest more reads written

same_more : {item : Item} {others more inner : List Item} → others ≡ item ∷ more → more ≡ inner → others ≡ item ∷ inner
same_more {item} same later = same ∙ ap (λ (l : List Item). item ∷ l) later

one_items : (brace : Bool) (marks : List Mark) (items others : List Item) (rest after : List Mark) (patterns more : List Written)
    → IsItems brace marks items rest → IsWritten rest patterns → IsItems brace marks others after → IsWritten after more → (others ≡ items) × (after ≡ rest)
one_items brace marks items others rest after patterns more end written reads later = end_items marks after [] others patterns more written reads later
one_items brace marks items others rest after patterns more (text {items = inner} p) written reads later =
    let (behind, same, q) = item_in_front brace marks others after more reads later in
    let both = one_items brace _ inner behind rest after patterns more p written q later in
    (same_more same both.0, both.1)
one_items brace marks items others rest after patterns more (bare {items = inner} p) written reads later =
    let (behind, same, q) = item_in_front brace marks others after more reads later in
    let both = one_items brace _ inner behind rest after patterns more p written q later in
    (same_more same both.0, both.1)
one_items brace marks items others rest after patterns more (numbered {items = inner} p) written reads later =
    let (behind, same, q) = item_in_front brace marks others after more reads later in
    let both = one_items brace _ inner behind rest after patterns more p written q later in
    (same_more same both.0, both.1)
one_items brace marks items others rest after patterns more (opened p) written reads later =
    one_items true _ items others rest after patterns more p written (item_in_front brace marks others after more reads later) later
one_items brace marks items others rest after patterns more (closed p) written reads later =
    one_items false _ items others rest after patterns more p written (item_in_front brace marks others after more reads later) later

pub one_written : (marks : List Mark) (patterns others : List Written) → IsWritten marks patterns → IsWritten marks others → others ≡ patterns
one_written marks patterns others none other = head_in_front [] others other
one_written marks patterns others (pattern {at = at} {id = id} {rest = rest} {items = items} {patterns = more} p few q) other =
    let (items', rest', more', p', q', same) = head_in_front marks others other in
    let both = one_items false _ items items' rest rest' more more' p q p' q' in
    let later = one_written rest more more' q (subst (λ (l : List Mark). IsWritten l more') both.1 q') in
    same ∙ (λ j. record { at = at; name = id; items = both.0 j } ∷ later j)

-- ---- one clash

one_mixed : (all : List Point) (e f : PtgFault) → IsMixedAt all e → IsMixedAt all f → f ≡ e
one_mixed all e f a b = let both = one_first IsMixed all a.0 b.0 a.1 b.1 a.2 b.2 in b.3 ∙ ap (λ (p : Point). PtgMixed p.at) (sym both.1) ∙ sym a.3

one_refusal : (texts : List (List ℕ)) (before : List Written) (one : Written) (e f : PtgFault) → IsRefused texts before one e → IsRefused texts before one f → f ≡ e
one_refusal texts before one e f (duplicate taken) (duplicate other) = refl
one_refusal texts before one e f (duplicate taken) (mixed free at) = let h : true ≡ false = sym taken ∙ free in cc
one_refusal texts before one e f (mixed free at) (duplicate taken) = let h : true ≡ false = sym taken ∙ free in cc
one_refusal texts before one e f (mixed free at) (mixed free' at') = one_mixed (points one.items) e f at at'

one_clash : (texts : List (List ℕ)) (all : List Written) (e f : PtgFault) → IsClash texts all e → IsClash texts all f → f ≡ e
one_clash texts all e f a b =
    let both = one_first (CantStand texts) all a.0 b.0 a.1 b.1 a.2 b.2 in
    let other : IsRefused texts a.0 a.1 f = subst (λ (w : Written). IsRefused texts a.0 w f) (sym both.1) (subst (λ (l : List Written). IsRefused texts l b.1 f) (sym both.0) b.3) in
    one_refusal texts a.0 a.1 e f a.3 other

-- ---- one answer for the tokens

pub one_reading : (texts : List (List ℕ)) (size : ℕ) (tokens : List Token) (stuck : Option ℕ) (r s : Result (List Pattern) PtgFault)
    → Reads texts size tokens stuck r → Reads texts size tokens stuck s → s ≡ r
one_reading texts size tokens stuck (Ok a) (Ok b) x y =
    ap Ok (y.3 ∙ ap (map pattern_of) (one_written (marks_up_to tokens stuck) x.0 y.0 x.1 y.1) ∙ sym x.3)
one_reading texts size tokens stuck (Ok a) (Err f) x (inl y) = absurd (not_whole IsText (marks_up_to tokens stuck) y.0 y.1 (x.0, x.1))
one_reading texts size tokens stuck (Ok a) (Err f) x (inr y) =
    let same = one_written (marks_up_to tokens stuck) x.0 y.0 x.1 y.1 in
    let clash = subst (λ (l : List Written). IsClash texts l f) same y.2 in
    absurd (no_first (CantStand texts) x.0 clash.0 clash.1 x.2 clash.2)
one_reading texts size tokens stuck (Err e) (Ok b) (inl x) y = absurd (not_whole IsText (marks_up_to tokens stuck) x.0 x.1 (y.0, y.1))
one_reading texts size tokens stuck (Err e) (Ok b) (inr x) y =
    let same = one_written (marks_up_to tokens stuck) y.0 x.0 y.1 x.1 in
    let clash = subst (λ (l : List Written). IsClash texts l e) same x.2 in
    absurd (no_first (CantStand texts) y.0 clash.0 clash.1 y.2 clash.2)
one_reading texts size tokens stuck (Err e) (Err f) (inl x) (inl y) =
    ap Err (y.2 ∙ ap (λ (k : ℕ). PtgSyntax (mark_place size tokens stuck k)) (one_place IsText (marks_up_to tokens stuck) y.0 x.0 y.1 x.1) ∙ sym x.2)
one_reading texts size tokens stuck (Err e) (Err f) (inl x) (inr y) = absurd (not_whole IsText (marks_up_to tokens stuck) x.0 x.1 (y.0, y.1))
one_reading texts size tokens stuck (Err e) (Err f) (inr x) (inl y) = absurd (not_whole IsText (marks_up_to tokens stuck) y.0 y.1 (x.0, x.1))
one_reading texts size tokens stuck (Err e) (Err f) (inr x) (inr y) =
    let same = one_written (marks_up_to tokens stuck) x.0 y.0 x.1 y.1 in
    ap Err (one_clash texts x.0 e f x.2 (subst (λ (l : List Written). IsClash texts l f) same y.2))

-- ---- one list of tokens

one_tokens : (texts bytes : _) → IsDistinctTexts texts → (tokens others : List Token) (stuck other : Option ℕ) → AreTokens texts bytes tokens stuck → AreTokens texts bytes others other
    → (others ≡ tokens) × (other ≡ stuck)
one_tokens texts bytes distinct tokens others stuck other a b =
    let both = one_cut b.cut a.cut in
    (same_tokens texts distinct others tokens b.ids a.ids both.0, both.1)

-- what the tokens of a text say is what it says
pub is_the : (texts : List (List ℕ)) (bytes : List ℕ) (tokens : List Token) (stuck : Option ℕ) (r : Result (List Pattern) PtgFault) → IsDistinctTexts texts
    → AreTokens texts bytes tokens stuck → Reads texts (length bytes) tokens stuck r → IsThe (PatternsOf texts bytes) r
unfolding PatternsOf
is_the texts bytes tokens stuck r distinct are reads = record {
  is = (tokens, stuck, are, reads);
  only = λ s other. go s other;
}
  where
    go : (s : Result (List Pattern) PtgFault) → PatternsOf texts bytes s → s ≡ r
    go s (others, other, are', reads') =
        let both = one_tokens texts bytes distinct tokens others stuck other are are' in
        one_reading texts (length bytes) tokens stuck r s reads
        (subst (λ (o : Option ℕ). Reads texts (length bytes) tokens o s) both.1 (subst (λ (l : List Token). Reads texts (length bytes) l other s) both.0 reads'))

-- ---- one table

pub one_table : (texts : List (List ℕ)) (bytes : List ℕ) (later other : List (List ℕ)) → IsTableBehind texts bytes later → IsTableBehind texts bytes other → other ≡ later
one_table texts bytes later other a b = b.table ∙ ap (λ (l : List Placed). interned texts (texts_in l)) (one_cut b.cut a.cut).0 ∙ sym a.table

-- what a text says with the ids of the table behind it is what it says behind these texts
pub from_is : (texts : List (List ℕ)) (bytes : List ℕ) (later : List (List ℕ)) (r : Result (List Pattern) PtgFault) → IsTableBehind texts bytes later
    → IsThe (PatternsOf later bytes) r → IsThe (PatternsFrom texts bytes) r
from_is texts bytes later r table the = record {
  is = record { later = later; table = table; says = the.is };
  only = λ s from. the.only s (subst (λ (l : List (List ℕ)). PatternsOf l bytes s) (one_table texts bytes later from.later table from.table) from.says);
}

-- ---- one answer for a text

one_answer : (texts : List (List ℕ)) (bytes : List ℕ) → IsDistinctTexts texts → (first second : Result (List Pattern) PtgFault)
    → PatternsOf texts bytes first → PatternsOf texts bytes second → first ≡ second
unfolding PatternsOf
one_answer texts bytes distinct first second (tokens, stuck, are, reads) other = sym ((is_the texts bytes tokens stuck first distinct are reads).only second other)

pub one_list_of_patterns : (texts : List (List ℕ)) (bytes : List ℕ) → IsDistinctTexts texts → (first second : Result (List Pattern) PtgFault)
    → PatternsFrom texts bytes first → PatternsFrom texts bytes second → first ≡ second
one_list_of_patterns texts bytes distinct first second a b =
    let still = subst IsDistinctTexts (sym a.table.table) (interned_distinct texts (texts_in a.table.tokens) distinct) in
    let says = subst (λ (l : List (List ℕ)). PatternsOf l bytes second) (one_table texts bytes a.later b.later a.table b.table) b.says in
    one_answer a.later bytes still first second a.says says
