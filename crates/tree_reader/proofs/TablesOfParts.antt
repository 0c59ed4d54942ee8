-- The table of texts while parts are read, one after the other.
use Rattle.std.proofs.Common.{◌≡◌, ◌⊎◌, inl, inr, ℕ, zero, suc, ◌+◌, ◌<◌, ◌≤◌, Option, List, [], ◌∷◌, ◌++◌, length, take, drop, get_or, Result, Ok, Err, refl, ap, sym, ◌∙◌, subst, arith, append_assoc, append-nil}
use Rattle.std.specs.Prelude.{IfErr}
use Rattle.lido_base.specs.Phases.{IsThe}
use Rattle.lido_base.specs.Tree.{Tree}
use Rattle.lido_base.specs.declared.kinds.Many.TheVariants as many
use Rattle.lido_lexer.specs.Tables.{interned}
use Rattle.lido_lexer.proofs.TablesLemmas.{interned_none, interned_append}
use Rattle.tree_store.specs.declared.fault.TreeFault.{TreeFault}
use Rattle.tree_store.specs.declared.fault.TreeFault.TheVariants as fault
use Rattle.tree_flattener.specs.Limits.{IsRefused}
use Rattle.flat_grammar.specs.declared.flat.FlatSymbol.{FlatSymbol}
use Rattle.flat_grammar.specs.declared.flat.FlatRule.{FlatRule}
use Rattle.flat_grammar.specs.declared.flat.Shape.{Shape}
use Rattle.tree_reader.specs.Scanning.{Scanning}
use Rattle.tree_reader.specs.Writing.{IsFirstPart}
use Rattle.tree_reader.specs.Tables.{text_of, texts_in, part_place, begins, begun, TellsOf, IsRead, IsTable, IsTableOf}
use Rattle.tree_reader.specs.declared.part.Coordinates.{Coordinates}
use Rattle.tree_reader.specs.declared.part.Part.{Part}
use Rattle.tree_reader.specs.declared.part.Part.TheVariants as part

-- ---- one part

-- a part that is read, under another name
pub ok_read : (texts later : List (List ℕ)) (p q : Part) → p ≡ q → later ≡ interned texts (text_of q) → later ≡ interned texts (text_of p)
ok_read texts later p q e is = subst (λ (x : Part). later ≡ interned texts (text_of x)) (sym e) is

pub err_read : (texts later : List (List ℕ)) (nodes : ℕ) (fails : TreeFault) (p q : Part) → p ≡ q
    → (fails ≡ fault.Memory) ⊎ (TellsOf fails nodes q × (later ≡ interned texts (text_of q)))
    → (fails ≡ fault.Memory) ⊎ (TellsOf fails nodes p × (later ≡ interned texts (text_of p)))
err_read texts later nodes fails p q e told =
    subst (λ (x : Part). (fails ≡ fault.Memory) ⊎ (TellsOf fails nodes x × (later ≡ interned texts (text_of x)))) (sym e) told

-- the fault is at the part's place
pub told_at : (texts : List (List ℕ)) (later : List (List ℕ)) (nodes at : ℕ) (e : TreeFault) (p : Part) → part_place p ≡ at → later ≡ interned texts (text_of p)
    → (e ≡ fault.Memory) ⊎ (e ≡ fault.WrongChild at) → (e ≡ fault.Memory) ⊎ (TellsOf e nodes p × (later ≡ interned texts (text_of p)))
told_at texts later nodes at e p place is (inl memory) = inl memory
told_at texts later nodes at e p place is (inr told) = inr (subst (λ (f : TreeFault). TellsOf f nodes p) (sym told) (sym place), is)

-- the part is read, whatever comes of it
pub read_at : {A : Type 0} (texts : List (List ℕ)) (later : List (List ℕ)) (nodes at : ℕ) (p : Part) (r : Result A TreeFault) → part_place p ≡ at → later ≡ interned texts (text_of p)
    → IfErr r (λ e. (e ≡ fault.Memory) ⊎ (e ≡ fault.WrongChild at)) → IsRead texts nodes p r later
read_at texts later nodes at p (Ok x) place is told = is
read_at texts later nodes at p (Err e) place is told = told_at texts later nodes at e p place is told

-- the bracket that ends a node has no text
pub end_read : {A : Type 0} (texts : List (List ℕ)) (nodes at : ℕ) (p : Part) (r : Result A TreeFault) → p ≡ part.End at
    → IfErr r (λ e. e ≡ fault.WrongChild at) → IsRead texts nodes p r texts
end_read texts nodes at p (Ok x) is told = ok_read texts texts p (part.End at) is (sym (interned_none texts))
end_read texts nodes at p (Err e) is told = err_read texts texts nodes e p (part.End at) is (told_at texts texts nodes at e (part.End at) refl (sym (interned_none texts)) (inr told))

-- ---- parts in order

texts_append : (parts others : List Part) → texts_in (parts ++ others) ≡ texts_in parts ++ texts_in others
texts_append [] others = refl
texts_append (p ∷ parts) others = ap (λ (l : List (List ℕ)). text_of p ++ l) (texts_append parts others) ∙ sym (append_assoc (text_of p) (texts_in parts) (texts_in others))

begun_append : (parts others : List Part) → begun (parts ++ others) ≡ begun parts + begun others
begun_append [] others = omega arith
begun_append (p ∷ parts) others = omega (arith, begun_append parts others)

-- the table with one part more
table_more : (texts old later : List (List ℕ)) (parts : List Part) (p : Part) → old ≡ interned texts (texts_in parts) → later ≡ interned old (text_of p)
    → later ≡ interned texts (texts_in (parts ++ p ∷ []))
table_more texts old later parts p before one =
    one ∙ ap (λ (l : List (List ℕ)). interned l (text_of p)) before ∙ sym (interned_append texts (texts_in parts) (text_of p))
    ∙ ap (interned texts) (sym (texts_append parts (p ∷ []) ∙ ap (λ (l : List (List ℕ)). texts_in parts ++ l) (append-nil (text_of p))))

-- ---- how far the loop is: the first part, and so many behind it

pub first_of_all : (parts : List Part) (name_at : ℕ) (name : List ℕ) (coordinates : Option Coordinates) (rest : List Part) → IsFirstPart parts name_at name coordinates rest → (at : ℕ) × (parts ≡ part.Begin at name_at name coordinates ∷ rest)
first_of_all parts name_at name coordinates rest (at, below, end, is, behind) = (at, is ∙ ap (λ (l : List Part). part.Begin at name_at name coordinates ∷ l) (sym behind))

taken_more : (i : ℕ) (xs : List Part) (p : Part) → i < length xs → p ≡ get_or xs i p → take (suc i) xs ≡ take i xs ++ p ∷ []
taken_more i [] p less is = absurd (omega arith)
taken_more zero (x ∷ xs) p less is = ap (λ (y : Part). y ∷ []) (sym is)
taken_more (suc i) (x ∷ xs) p less is = ap (λ (l : List Part). x ∷ l) (taken_more i xs p (omega arith) is)

parted : (i : ℕ) (xs : List Part) (p : Part) → i < length xs → p ≡ get_or xs i p → xs ≡ take i xs ++ p ∷ drop (suc i) xs
parted i [] p less is = absurd (omega arith)
parted zero (x ∷ xs) p less is = ap (λ (y : Part). y ∷ xs) (sym is)
parted (suc i) (x ∷ xs) p less is = ap (λ (l : List Part). x ∷ l) (parted i xs p (omega arith) is)

all_taken : (i : ℕ) (xs : List Part) → length xs ≤ i → take i xs ≡ xs
all_taken zero [] past = refl
all_taken (suc i) [] past = refl
all_taken zero (x ∷ xs) past = absurd (omega arith)
all_taken (suc i) (x ∷ xs) past = ap (λ (l : List Part). x ∷ l) (all_taken i xs (omega arith))

-- the first so many parts were read, and what stands in the tree and among the texts is of them
pub record SoFar (texts : List (List ℕ)) (parts : List Part) (read : ℕ) (nodes : ℕ) (later : List (List ℕ)) : Type 0 where
  pub table : later ≡ interned texts (texts_in (take read parts))
  pub nodes_are : nodes ≡ begun (take read parts)
  pub few : length later ≤ length texts + read

module _ (texts : List (List ℕ)) (parts rest : List Part) (name_at : ℕ) (name : List ℕ) (coordinates : Option Coordinates) (first : IsFirstPart parts name_at name coordinates rest) where
  -- the first part
  pub one_read : (later : List (List ℕ)) (nodes : ℕ) → nodes ≡ 1 → length later ≤ length texts + 1 → later ≡ interned texts (name ∷ []) → SoFar texts parts (0 + 1) nodes later
  one_read later nodes one few table = let (at, is) = first_of_all parts name_at name coordinates rest first in
      subst (λ (l : List Part). SoFar texts l 1 nodes later) (sym is) (record { table = table; nodes_are = omega arith; few = few })

  step : (i : ℕ) (p : Part) → i < length rest → p ≡ get_or rest i p → take (i + 1 + 1) parts ≡ take (i + 1) parts ++ p ∷ []
  step i p less here = let (at, is) = first_of_all parts name_at name coordinates rest first in
      let two : i + 1 + 1 ≡ suc (suc i) = omega arith in
      let one : i + 1 ≡ suc i = omega arith in
      (λ j. take (two j) (is j)) ∙ ap (λ (l : List Part). part.Begin at name_at name coordinates ∷ l) (taken_more i rest p less here) ∙ sym (λ j. take (one j) (is j) ++ p ∷ [])

  whole : (i : ℕ) (p : Part) → i < length rest → p ≡ get_or rest i p → parts ≡ take (i + 1) parts ++ p ∷ drop (suc i) rest
  whole i p less here = let (at, is) = first_of_all parts name_at name coordinates rest first in
      let one : i + 1 ≡ suc i = omega arith in
      is ∙ ap (λ (l : List Part). part.Begin at name_at name coordinates ∷ l) (parted i rest p less here) ∙ sym (λ j. take (one j) (is j) ++ p ∷ drop (suc i) rest)

  -- one part more
  pub more_read : (i : ℕ) (p : Part) (old later : List (List ℕ)) (nodes now : ℕ) → i < length rest → p ≡ get_or rest i p → SoFar texts parts (i + 1) nodes old
      → later ≡ interned old (text_of p) → now ≡ nodes + begins p → length later ≤ length old + 1 → SoFar texts parts (i + 1 + 1) now later
  more_read i p old later nodes now less here before table count few = record {
    table = table_more texts old later (take (i + 1) parts) p before.table table ∙ ap (λ (l : List Part). interned texts (texts_in l)) (sym (step i p less here));
    nodes_are = let counted = ap begun (step i p less here) in let sum = begun_append (take (i + 1) parts) (p ∷ []) in let was = before.nodes_are in omega arith;
    few = let was = before.few in omega arith;
  }

  -- all parts
  pub all_read : (A : Type 0) (i nodes : ℕ) (later : List (List ℕ)) (x : A) → length rest ≤ i → SoFar texts parts (i + 1) nodes later → IsTable texts parts (Ok x) later
  all_read A i nodes later x past so_far = let (at, is) = first_of_all parts name_at name coordinates rest first in
      (parts, refl, so_far.table ∙ ap (λ (l : List Part). interned texts (texts_in l)) (all_taken (i + 1) parts (omega (arith, ap length is))))

-- the parts up to a fault
stopped : (A : Type 0) (texts later : List (List ℕ)) (before behind : List Part) (p : Part) (e : TreeFault) → TellsOf e (begun before) p
    → later ≡ interned texts (texts_in (before ++ p ∷ [])) → IsTable {A = A} texts (before ++ p ∷ behind) (Err e) later
stopped A texts later before behind p (fault.TreeSyntax at) told is = absurd told
stopped A texts later before behind p (fault.UnknownRule at) told is = (before ++ p ∷ [], (before, p, behind, refl, refl, told), is)
stopped A texts later before behind p (fault.WrongRoot at) told is = (before ++ p ∷ [], (before, p, behind, refl, refl, told), is)
stopped A texts later before behind p (fault.WrongChild at) told is = (before ++ p ∷ [], (before, p, behind, refl, refl, told), is)
stopped A texts later before behind p (fault.TooMany many.Nodes) told is = (before ++ p ∷ [], (before, p, behind, refl, refl, told), is)
stopped A texts later before behind p (fault.TooMany what) told is = absurd told
stopped A texts later before behind p fault.Memory told is = tt

no_memory : (A : Type 0) (texts later : List (List ℕ)) (parts : List Part) (e : TreeFault) → e ≡ fault.Memory → IsTable {A = A} texts parts (Err e) later
no_memory A texts later parts e memory = subst (λ (f : TreeFault). IsTable {A = A} texts parts (Err f) later) (sym memory) tt

stops : (A : Type 0) (texts old later : List (List ℕ)) (before behind : List Part) (p : Part) (nodes : ℕ) (e : TreeFault) → nodes ≡ begun before → old ≡ interned texts (texts_in before)
    → (e ≡ fault.Memory) ⊎ (TellsOf e nodes p × (later ≡ interned old (text_of p))) → IsTable {A = A} texts (before ++ p ∷ behind) (Err e) later
stops A texts old later before behind p nodes e count table (inl memory) = no_memory A texts later (before ++ p ∷ behind) e memory
stops A texts old later before behind p nodes e count table (inr (told, is)) =
    stopped A texts later before behind p e (subst (λ (n : ℕ). TellsOf e n p) count told) (table_more texts old later before p table is)

module _ (A : Type 0) (texts : List (List ℕ)) (parts rest : List Part) (name_at : ℕ) (name : List ℕ) (coordinates : Option Coordinates) (first : IsFirstPart parts name_at name coordinates rest) where
  -- a fault at the first part
  pub first_stops : (later : List (List ℕ)) (e : TreeFault) → ((at : ℕ) → (e ≡ fault.Memory) ⊎ (TellsOf e 0 (part.Begin at name_at name coordinates) × (later ≡ interned texts (name ∷ []))))
      → IsTable {A = A} texts parts (Err e) later
  first_stops later e told = let (at, is) = first_of_all parts name_at name coordinates rest first in
      subst (λ (l : List Part). IsTable {A = A} texts l (Err e) later) (sym is)
      (stops A texts texts later [] rest (part.Begin at name_at name coordinates) 0 e refl (sym (interned_none texts)) (told at))

  -- or at a later one
  pub later_stops : (i : ℕ) (p : Part) (old later : List (List ℕ)) (nodes : ℕ) (e : TreeFault) → i < length rest → p ≡ get_or rest i p → SoFar texts parts (i + 1) nodes old
      → (e ≡ fault.Memory) ⊎ (TellsOf e nodes p × (later ≡ interned old (text_of p))) → IsTable {A = A} texts parts (Err e) later
  later_stops i p old later nodes e less here so_far told =
      subst (λ (l : List Part). IsTable {A = A} texts l (Err e) later) (sym (whole texts parts rest name_at name coordinates first i p less here))
      (stops A texts old later (take (i + 1) parts) (drop (suc i) rest) p nodes e so_far.nodes_are so_far.table told)

-- ---- the whole text

-- a text that is no tree's adds nothing
pub unread : (A : Type 0) (texts : List (List ℕ)) (text : List ℕ) (e : TreeFault) → (e ≡ fault.Memory) ⊎ IsThe (Scanning text) (Err e) → IsTableOf {A = A} texts text (Err e) texts
unfolding Scanning
unread A texts text (fault.TreeSyntax at) why = refl
unread A texts text fault.Memory why = tt
unread A texts text (fault.UnknownRule at) (inl memory) = absurd (cc)
unread A texts text (fault.UnknownRule at) (inr the) = absurd the.is
unread A texts text (fault.WrongRoot at) (inl memory) = absurd (cc)
unread A texts text (fault.WrongRoot at) (inr the) = absurd the.is
unread A texts text (fault.WrongChild at) (inl memory) = absurd (cc)
unread A texts text (fault.WrongChild at) (inr the) = absurd the.is
unread A texts text (fault.TooMany what) (inl memory) = absurd (cc)
unread A texts text (fault.TooMany what) (inr the) = absurd the.is

module _ (A : Type 0) (texts : List (List ℕ)) (text : List ℕ) (later : List (List ℕ)) (parts seen : List Part) (same : seen ≡ parts) (scanned : IsThe (Scanning text) (Ok parts)) where
  -- a text whose parts are all read
  pub text_read : (x : A) → IsTable texts seen (Ok x) later → IsTableOf texts text (Ok x) later
  text_read x table = (parts, scanned, subst (λ (l : List Part). IsTable texts l (Ok x) later) same table)

  of_parts : (e : TreeFault) → IsTable {A = A} texts parts (Err e) later → IsTableOf {A = A} texts text (Err e) later
  of_parts (fault.TreeSyntax at) (read, (before, last, behind, is, up_to, told), table) = absurd told
  of_parts (fault.UnknownRule at) table = (parts, scanned, table)
  of_parts (fault.WrongRoot at) table = (parts, scanned, table)
  of_parts (fault.WrongChild at) table = (parts, scanned, table)
  of_parts (fault.TooMany what) table = (parts, scanned, table)
  of_parts fault.Memory table = tt

  -- or up to a fault
  pub text_stops : (e : TreeFault) → IsTable {A = A} texts seen (Err e) later → IsTableOf {A = A} texts text (Err e) later
  text_stops e table = of_parts e (subst (λ (l : List Part). IsTable {A = A} texts l (Err e) later) same table)

module _ (A B : Type 0) (texts : List (List ℕ)) (text : List ℕ) (later : List (List ℕ)) where
  -- the table is the same, whatever value would have been answered
  pub fault_stays : (e : TreeFault) → IsTableOf {A = A} texts text (Err e) later → IsTableOf {A = B} texts text (Err e) later
  fault_stays (fault.TreeSyntax at) table = table
  fault_stays (fault.UnknownRule at) table = table
  fault_stays (fault.WrongRoot at) table = table
  fault_stays (fault.WrongChild at) table = table
  fault_stays (fault.TooMany what) table = table
  fault_stays fault.Memory table = table

  module _ {V : Type 0} (symbols : List FlatSymbol) (rules : List FlatRule) (shapes : List Shape) (written : Tree V) (x : A) (table : IsTableOf texts text (Ok x) later) where
    too_many : (e : TreeFault) → IsRefused symbols rules shapes written e → IsTableOf {A = B} texts text (Err e) later
    too_many (fault.TooMany many.Instances) why = table
    too_many (fault.TooMany many.TextCells) why = table
    too_many fault.Memory why = tt
    too_many (fault.TooMany what) (inl memory) = absurd (cc)
    too_many (fault.TooMany what) (inr (flat, node_of, is, many)) = absurd many
    too_many (fault.TreeSyntax at) (inl memory) = absurd (cc)
    too_many (fault.TreeSyntax at) (inr (flat, node_of, is, many)) = absurd many
    too_many (fault.UnknownRule at) (inl memory) = absurd (cc)
    too_many (fault.UnknownRule at) (inr (flat, node_of, is, many)) = absurd many
    too_many (fault.WrongRoot at) (inl memory) = absurd (cc)
    too_many (fault.WrongRoot at) (inr (flat, node_of, is, many)) = absurd many
    too_many (fault.WrongChild at) (inl memory) = absurd (cc)
    too_many (fault.WrongChild at) (inr (flat, node_of, is, many)) = absurd many

    -- once the tree is written, nothing is added
    pub flattened : (r : Result B TreeFault) → IfErr r (λ e. IsRefused symbols rules shapes written e) → IsTableOf texts text r later
    flattened (Ok y) why = table
    flattened (Err e) why = too_many e why
