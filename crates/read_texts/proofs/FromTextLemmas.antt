-- A specification that its tokens derive is one that was read from a text.
use Rattle.std.specs.List.{AllPairs, Contains}
use Rattle.std.proofs.Common.{◌≡◌, ◌⊎◌, ℕ, ◌+◌, ◌<◌, ◌≤◌, ◌^◌, List, [], ◌∷◌, ◌++◌, length, length-append, map, flat_map, Some, refl, ap, sym, ◌∙◌, subst, arith, inl, inr}
use Rattle.std.proofs.lemmas.Grind.{flat_map-append}
use Rattle.std.proofs.lemmas.List.{length-map}
use Rattle.std.proofs.lemmas.List.Elements.{All-contains_itself}
use Rattle.std.proofs.lemmas.Option.{none-some, same_Some}
use Rattle.lido_base.proofs.Lists.{contains-here, flat-contains}
use Rattle.lido_base.specs.declared.ids.StrId.{StrId}
use Rattle.lido_lexer.specs.declared.token.Token.{Token}
use Rattle.lido_syntax.specs.declared.spec.Name.{Name}
use Rattle.lido_syntax.specs.declared.spec.Comp.{Comp}
use Rattle.lido_syntax.specs.declared.spec.Cons.{Cons}
use Rattle.lido_syntax.specs.declared.spec.Pair.{Pair}
use Rattle.lido_syntax.specs.declared.spec.Expr.{Expr, Including, Constituents}
use Rattle.lido_syntax.specs.declared.spec.Typed1.{Typed1}
use Rattle.lido_syntax.specs.declared.spec.RuleItem.{RuleItem}
use Rattle.lido_syntax.specs.declared.spec.SymbolItem.{SymbolItem}
use Rattle.lido_syntax.specs.declared.spec.Spec.{Spec}
use Rattle.lido_syntax.specs.Parts.{parts, parts_of, expressions_of}
use Rattle.lido_symbols.specs.Uses.{computations, all_constituents, all_includings, all_functions, functions_of_part}
use Rattle.lido_symbols.specs.FromText.{IsFromText, AreApart}
use Rattle.lido_reader.specs.Numbers.{IsEarlier, all_numbers, numbers_of, including_of_part, includings_in, includings_of, AreApart as NumbersApart}
use Rattle.lido_reader.specs.Numbers as numbers
use Rattle.lido_reader.specs.Known.{IsWordOf, HasWordsOf}
use Rattle.lido_reader.specs.Specification.{IsSpecOf}
use Rattle.lido_reader.proofs.KnownLemmas.{all_words, one_name}
use Rattle.lido_reader.proofs.NumbersLemmas.{Apart, all_pairs, through, marks_apart, numbers_apart, all_numbers_are, all_places_are, all_marks, mark_of_part, marks_in, marks_of, places_apart, Differ, in_order, rule_marks, symbol_marks}
use Rattle.read_texts.proofs.ApartLemmas.{Holder, constituents_in, held, apart_other, flat_same, holders, holders_of, number_of, the_computation, the_constituents, numbers_of_holders, numbers_of_computations, computations_held, constituents_held, place_of, places_of_all, said_apart, turned, apart_map, apart_pick, apart_both, map_flat}
use Rattle.read_texts.proofs.GivesLemmas.{ordered, one_each, covers, short}
use Rattle.read_texts.proofs.FunctionLemmas.{functions_in, functions_of}
use Rattle.read_texts.proofs.ItemLemmas.{Told, all_told, rule_functions, symbol_functions}
use Rattle.read_texts.proofs.NamesLemmas as names

-- ---- functions

functions_of_computation : (c : Comp) → flat_map functions_of_part (parts_of c) ≡ functions_of c
functions_of_computation c = through functions_of_part parts functions_in (λ e. refl) (expressions_of c)

functions_are : (spec : Spec) → all_functions spec ≡ rule_functions spec.rules ++ symbol_functions spec.symbols
functions_are spec =
    let G : Comp → List Name = λ c. flat_map functions_of_part (parts_of c) in
    flat_map-append G (flat_map (λ (r : RuleItem). r.body) spec.rules) (flat_map (λ (s : SymbolItem). s.body) spec.symbols)
    ∙ (λ j. through G (λ (r : RuleItem). r.body) (λ (r : RuleItem). flat_map functions_of r.body) (λ r. flat_same G functions_of functions_of_computation r.body) spec.rules j
    ++ through G (λ (s : SymbolItem). s.body) (λ (s : SymbolItem). flat_map functions_of s.body) (λ s. flat_same G functions_of functions_of_computation s.body) spec.symbols j)

-- ---- how many INCLUDINGs

-- lists of which each part is no longer
flat_short : {X Y Z : Type 0} (f : X → List Y) (g : X → List Z) → ((x : X) → length (f x) ≤ length (g x)) → (xs : List X) → length (flat_map f xs) ≤ length (flat_map g xs)
flat_short f g each [] = omega arith
flat_short f g each (x ∷ xs) =
    let one = each x in
    let more = flat_short f g each xs in
    omega (arith, length-append (f x) (flat_map f xs), length-append (g x) (flat_map g xs), one, more)

part_short : (e : Expr) → length (including_of_part e) ≤ length (mark_of_part e)
part_short (Constituents k) = omega arith
part_short (Including at pairs) = omega arith
part_short _ = omega arith

computation_short : (c : Comp) → length (includings_of c) ≤ length (marks_of c)
computation_short c =
    let less = flat_short includings_in marks_in (λ e. flat_short including_of_part mark_of_part part_short (parts e)) (expressions_of c) in
    omega (arith, less)

includings_short : (spec : Spec) → length (all_includings spec) ≤ length (rule_marks spec.rules) + length (symbol_marks spec.symbols)
includings_short spec =
    let same : length (map place_of (all_includings spec)) ≡ length (numbers.all_includings spec) = ap length (places_of_all spec) in
    let kept = length-map (all_includings spec) place_of in
    let of_rules = flat_short (λ (r : RuleItem). flat_map includings_of r.body) (λ (r : RuleItem). flat_map marks_of r.body) (λ r. flat_short includings_of marks_of computation_short r.body) spec.rules in
    let of_symbols = flat_short (λ (s : SymbolItem). flat_map includings_of s.body) (λ (s : SymbolItem). flat_map marks_of s.body) (λ s. flat_short includings_of marks_of computation_short s.body) spec.symbols in
    let both = length-append (flat_map (λ (r : RuleItem). flat_map includings_of r.body) spec.rules) (flat_map (λ (s : SymbolItem). flat_map includings_of s.body) spec.symbols) in
    omega (arith, same, kept, of_rules, of_symbols, both)

module _ (texts : List (List ℕ)) (tokens : List Token) (spec : Spec) (earlier : AllPairs IsEarlier tokens) (p : IsSpecOf texts tokens spec) where
  -- ---- numbers

  abbrev Apart_numbers : Holder → Holder → Type 0
  Apart_numbers x y = AreApart spec (number_of x) (number_of y)

  holders_apart : Apart Apart_numbers (holders spec)
  holders_apart =
      let said : Apart NumbersApart (all_numbers spec) = subst (Apart NumbersApart) (all_numbers_are spec) (numbers_apart (all_marks spec) (marks_apart texts tokens spec earlier p)) in
      let held : Apart NumbersApart (map number_of (holders spec)) = subst (Apart NumbersApart) (numbers_of_computations spec ∙ sym (map_flat number_of holders_of numbers_of numbers_of_holders (computations spec))) said in
      apart_other (λ x y. NumbersApart (number_of x) (number_of y)) Apart_numbers (λ x y. said_apart spec (number_of x) (number_of y)) (holders spec) (apart_map number_of NumbersApart (holders spec) held)

  abbrev Apart_computations : Comp → Comp → Type 0
  Apart_computations c d = AreApart spec (c.number, c.at) (d.number, d.at)

  both_computations : (x y : Holder) (c d : Comp) → the_computation x ≡ Some c → the_computation y ≡ Some d → Apart_numbers x y → Apart_computations c d
  both_computations (inl a) (inl b) c d e f h = subst (λ z. Apart_computations z d) (same_Some a c e) (subst (Apart_computations a) (same_Some b d f) h)
  both_computations (inl a) (inr b) c d e f h = absurd (none-some d f)
  both_computations (inr a) y c d e f h = absurd (none-some c e)

  computations_apart : AllPairs Apart_computations (computations spec)
  computations_apart = all_pairs Apart_computations (computations spec) (subst (Apart Apart_computations) (computations_held (computations spec)) (apart_pick the_computation Apart_numbers Apart_computations both_computations (holders spec) holders_apart))

  abbrev Apart_constituents : ℕ × Cons → ℕ × Cons → Type 0
  Apart_constituents x y = AreApart spec (x.0, x.1.at) (y.0, y.1.at)

  both_constituents : (x y : Holder) (k l : ℕ × Cons) → the_constituents x ≡ Some k → the_constituents y ≡ Some l → Apart_numbers x y → Apart_constituents k l
  both_constituents (inr a) (inr b) k l e f h = subst (λ z. Apart_constituents z l) (same_Some a k e) (subst (Apart_constituents a) (same_Some b l f) h)
  both_constituents (inr a) (inl b) k l e f h = absurd (none-some l f)
  both_constituents (inl a) y k l e f h = absurd (none-some k e)

  constituents_apart : AllPairs Apart_constituents (all_constituents spec)
  constituents_apart = all_pairs Apart_constituents (all_constituents spec) (subst (Apart Apart_constituents) (constituents_held (computations spec)) (apart_pick the_constituents Apart_numbers Apart_constituents both_constituents (holders spec) holders_apart))

  constituents_there : (k : ℕ × Cons) → Contains (all_constituents spec) k → Contains (holders spec) (inr k)
  constituents_there k m =
      let (x, there, same) = names.contains-pick the_constituents (holders spec) k (subst (λ l. Contains l k) (sym (constituents_held (computations spec))) m) in
      by x there same
    where
      by : (x : Holder) → Contains (holders spec) x → the_constituents x ≡ Some k → Contains (holders spec) (inr k)
      by (inl c) there same = absurd (none-some k same)
      by (inr l) there same = subst (λ z. Contains (holders spec) (inr z)) (same_Some l k same) there

  both_apart : (c : Comp) (k : ℕ × Cons) → Contains (computations spec) c → Contains (all_constituents spec) k → AreApart spec (c.number, c.at) (k.0, k.1.at)
  both_apart c k m n = by (apart_both Apart_numbers (λ x y. turned spec (number_of x) (number_of y)) (holders spec) (inl c) (inr k) holders_apart
      (flat-contains holders_of (computations spec) c (inl c) m (contains-here (inl c) (map held (constituents_in c)))) (constituents_there k n))
    where
      by : ◌≡◌ {A = Holder} (inl c) (inr k) ⊎ AreApart spec (c.number, c.at) (k.0, k.1.at) → AreApart spec (c.number, c.at) (k.0, k.1.at)
      by (inl e) = cc
      by (inr h) = h

  includings_apart : AllPairs (λ (x y : ℕ × List Pair). x.0 ≡ y.0 → ⊥) (all_includings spec)
  includings_apart =
      let places : Apart Differ (numbers.all_includings spec) = subst (Apart Differ) (all_places_are spec) (places_apart (all_marks spec) (marks_apart texts tokens spec earlier p)) in
      all_pairs (λ (x y : ℕ × List Pair). x.0 ≡ y.0 → ⊥) (all_includings spec) (apart_map place_of Differ (all_includings spec) (subst (Apart Differ) (sym (places_of_all spec)) places))

  -- ---- the whole

  abbrev W : Name → Type 0
  W = IsWordOf tokens

  abbrev F : Name → Type 0
  F x = Unit {0}

  abbrev I : StrId → Type 0
  I x = Unit {0}

  words : HasWordsOf tokens spec
  words = all_words texts tokens spec p

  told : Told tokens spec []
  told = all_told texts tokens spec p

  function_there : (f : Name) → Contains (all_functions spec) f → Contains (rule_functions spec.rules ++ symbol_functions spec.symbols) f
  function_there f m = subst (λ l. Contains l f) (functions_are spec) m

  from_text : length tokens < 2 ^ 32 → IsFromText spec
  from_text small = record {
    one_name = λ x y m k e. one_name tokens x y earlier (names.name_known W F I spec words x m) (names.name_known W F I spec words y k) e;
    one_function = λ f g m k e. one_each told.functions (in_order tokens earlier) f g (function_there f m) (function_there g k) e;
    one_declaration = λ d e m k same. one_each told.declared (in_order tokens earlier) d e m k same;
    one_term = λ x y m k e. one_each (covers told.terms) (in_order tokens earlier) x y m k e;
    chains_in_order = all_pairs (λ (x y : Typed1). x.name.at < y.name.at) spec.chains (ordered told.chains (in_order tokens earlier));
    computations_apart = computations_apart;
    constituents_apart = constituents_apart;
    both_apart = both_apart;
    includings_apart = includings_apart;
    about = names.items_about W F I spec words;
    including_pairs = λ i d less. names.pairs_of_including W F I spec words _ (All-contains_itself (all_includings spec) i d less);
    constituents_pairs = λ i d less. names.pairs_of_constituents W F I spec words _ (All-contains_itself (all_constituents spec) i d less);
    elements = names.list_elements W F I spec words;
    few_rules = omega (arith, told.few_rules, small);
    few_chains = omega (arith, short told.chains, small);
    few_includings = omega (arith, includings_short spec, told.few_marks, small);
  }

-- what is read is from a text
pub read_is_from_text : (texts : List (List ℕ)) (tokens : List Token) (spec : Spec) → AllPairs IsEarlier tokens → length tokens < 2 ^ 32 → IsSpecOf texts tokens spec → IsFromText spec
read_is_from_text texts tokens spec earlier small p = from_text texts tokens spec earlier p small
