-- The first shape of a name.
use Rattle.std.proofs.Common.{◌≡◌, ◌≢◌, ℕ, ◌+◌, ◌<◌, ◌≤◌, ⊎_elim, Bool, true, false, true≢false, ◌==◌, if◌then◌else◌, List, [], ◌∷◌, ◌++◌, length, take, get_or, replicate, Bor, Some, None, Option, refl, ap, sym, ◌∙◌, subst, arith, append-nil, suc, zero}
use Rattle.std.specs.Prelude.{IfSome, slice_get, slice_index_or, bytes_eq, option_and_then, option_map, unwrap_or, option_copied}
use Rattle.std.specs.Option.{option_flatten}
use Rattle.std.specs.List.{list_any}
use Rattle.std.proofs.lemmas.Bool.{cases_lt}
use Rattle.std.proofs.lemmas.List.{length-take, length-replicate}
use Rattle.std.proofs.lemmas.Option.{slice_get_past, slice_get_read, none-some}
use Rattle.std.proofs.lemmas.Slice.Eq.{bytes_eq-Decides}
use Rattle.lido_base.specs.Texts.{IsDistinctTexts, with_text}
use Rattle.lido_base.proofs.TextsLemmas.{same_place}
use Rattle.lido_lexer.specs.Lexing.{Gains}
use Rattle.lido_lexer.proofs.BytesLemmas.{same, differ}
use Rattle.std.proofs.lemmas.Option.{same_Some}
use Rattle.flat_grammar.specs.declared.flat.FlatRule.{FlatRule}
use Rattle.flat_grammar.specs.declared.flat.FlatSymbol.{FlatSymbol}
use Rattle.flat_grammar.specs.declared.flat.Shape.{Shape}
use Rattle.lido_base.specs.declared.ids.SymId.{SymId}
use Rattle.tree_reader.specs.Asking.{IsNameTable, first_from, has_name, is_called, or_last}

module _ {X : Type 0} where
  by_test : (p : X → Bool) (k : ℕ) (x y : X) (xs : List X) (b : Bool) → (first_from (suc k) p (xs ++ x ∷ []) ≡ or_last (first_from (suc k) p xs) (p x) (k + suc (length xs)))
      → (if b then Some k else first_from (suc k) p (xs ++ x ∷ [])) ≡ or_last (if b then Some k else first_from (suc k) p xs) (p x) (k + suc (length xs))
  by_test p k x y xs true later = refl
  by_test p k x y xs false later = later

  pub first_snoc : (p : X → Bool) (k : ℕ) (xs : List X) (x : X) → first_from k p (xs ++ x ∷ []) ≡ or_last (first_from k p xs) (p x) (k + length xs)
  first_snoc p k [] x = ap (λ (n : ℕ). if p x then Some n else None) (let e : k ≡ k + 0 = omega arith in e)
  first_snoc p k (y ∷ xs) x = by_test p k x y xs (p y)
      (first_snoc p (suc k) xs x ∙ ap (λ (n : ℕ). or_last (first_from (suc k) p xs) (p x) n) (let e : suc k + length xs ≡ k + suc (length xs) = omega arith in e))

  pub first_same : (p q : X → Bool) → ((x : X) → p x ≡ q x) → (k : ℕ) (xs : List X) → first_from k p xs ≡ first_from k q xs
  first_same p q alike k [] = refl
  first_same p q alike k (x ∷ xs) = ap (λ (b : Bool). if b then Some k else first_from (suc k) p xs) (alike x) ∙ ap (λ (o : Option ℕ). if q x then Some k else o) (first_same p q alike (suc k) xs)

  pub first_none : (p : X → Bool) → ((x : X) → p x ≡ false) → (k : ℕ) (xs : List X) → first_from k p xs ≡ None
  first_none p never k [] = refl
  first_none p never k (x ∷ xs) = ap (λ (b : Bool). if b then Some k else first_from (suc k) p xs) (never x) ∙ first_none p never (suc k) xs

kept : {X : Type 0} (xs ys : List X) (i : ℕ) (x : X) → slice_get xs i ≡ Some x → slice_get (xs ++ ys) i ≡ Some x
kept [] ys i x e = absurd (none-some _ e)
kept (y ∷ xs) ys zero x e = e
kept (y ∷ xs) ys (suc i) x e = kept xs ys i x e

kept_back : {X : Type 0} (xs ys : List X) (i : ℕ) → i < length xs → slice_get (xs ++ ys) i ≡ slice_get xs i
kept_back [] ys i less = absurd (omega (arith, less))
kept_back (x ∷ xs) ys zero less = refl
kept_back (x ∷ xs) ys (suc i) less = kept_back xs ys i (omega (arith, less))

within : {X : Type 0} (xs : List X) (i : ℕ) (x : X) → slice_get xs i ≡ Some x → i < length xs
within [] i x e = absurd (none-some _ e)
within (y ∷ xs) zero x e = omega arith
within (y ∷ xs) (suc i) x e = omega (arith, within xs i x e)

pub gains_text : (texts : List (List ℕ)) (text : List ℕ) → Gains texts (with_text texts text)
gains_text texts text = by (list_any (bytes_eq text) texts)
  where
    by : (b : Bool) → Gains texts (if b then texts else (texts ++ text ∷ []))
    by true = record { added = []; behind = sym (append-nil texts) }
    by false = record { added = text ∷ []; behind = refl }

abbrev named_by : List (List ℕ) → List ℕ → Option (List ℕ) → Bool
named_by texts name o = elim o [ None ↦ false | Some text ↦ bytes_eq text name ]

module _ (texts all : List (List ℕ)) (gains : Gains texts all) (apart : IsDistinctTexts all) (id : ℕ) (name : List ℕ) (there : slice_get all id ≡ Some name) where
  in_all : (j : ℕ) (text : List ℕ) → slice_get texts j ≡ Some text → slice_get all j ≡ Some text
  in_all j text e = subst (λ (l : List (List ℕ)). slice_get l j ≡ Some text) (sym gains.behind) (kept texts gains.added j text e)

  called : (j : ℕ) (o : Option (List ℕ)) → slice_get texts j ≡ o → id < length texts → (v w : Bool) → (j == id) ≡ v → named_by texts name o ≡ w → w ≡ v
  called j None e less true w is named = absurd (none-some name (sym e ∙ ap (slice_get texts) (same is) ∙ (let at : slice_get all id ≡ slice_get texts id = ap (λ (l : List (List ℕ)). slice_get l id) gains.behind ∙ kept_back texts gains.added id less in sym at ∙ there)))
  called j None e less false w is named = sym named
  called j (Some text) e less true w is named =
      let here : text ≡ name = same_Some _ _ (sym (in_all j text e) ∙ ap (slice_get all) (same is) ∙ there) in sym (sym ((bytes_eq-Decides text name).1 here) ∙ named)
  called j (Some text) e less false true is named =
      let here : text ≡ name = (bytes_eq-Decides text name).0 named in
      let places : j ≡ id = same_place all apart j id name (in_all j text e ∙ ap (λ (l : List ℕ). Some l) here) there in
      absurd (true≢false (sym (test j id places) ∙ is))
    where
      test : (a b : ℕ) → a ≡ b → (a == b) ≡ true
      test a b e = grind (arith, e)
  called j (Some text) e less false false is named = refl

  never_called : (j : ℕ) (o : Option (List ℕ)) → slice_get texts j ≡ o → length texts ≤ id → (w : Bool) → named_by texts name o ≡ w → w ≡ false
  never_called j None e past w named = sym named
  never_called j (Some text) e past false named = refl
  never_called j (Some text) e past true named =
      let here : text ≡ name = (bytes_eq-Decides text name).0 named in
      let places : j ≡ id = same_place all apart j id name (in_all j text e ∙ ap (λ (l : List ℕ). Some l) here) there in
      absurd (omega (arith, within texts j text e, places, past))

  module _ (symbols : List FlatSymbol) (rules : List FlatRule) (shapes : List Shape) (root : SymId) where
    abbrev by_rule : Option FlatRule → Bool
    by_rule o = elim (option_and_then (λ (r : FlatRule). slice_get texts r.name.0) o) [ None ↦ false | Some text ↦ bytes_eq text name ]

    abbrev by_id : Option FlatRule → Bool
    by_id o = elim o [ None ↦ false | Some r ↦ r.name.0 == id ]

    rule_called : (o : Option FlatRule) → id < length texts → by_rule o ≡ by_id o
    rule_called None less = refl
    rule_called (Some r) less = called r.name.0 (slice_get texts r.name.0) refl less (r.name.0 == id) (by_rule (Some r)) refl refl

    rule_never : (o : Option FlatRule) → length texts ≤ id → by_rule o ≡ false
    rule_never None past = refl
    rule_never (Some r) past = never_called r.name.0 (slice_get texts r.name.0) refl past (by_rule (Some r)) refl

    -- the table gives the first shape of the name
    pub named_first : (names : List (Option ℕ)) → IsNameTable rules shapes (length names) names → length texts ≡ length names
        → slice_index_or names id None ≡ first_from 0 (has_name symbols rules shapes root texts name) shapes
    named_first names table size = ⊎_elim
        (λ less. table.first id less ∙ first_same (is_called rules id) (has_name symbols rules shapes root texts name) (λ shape. sym (rule_called (slice_get rules shape.rule.0) (omega (arith, less, size)))) 0 shapes)
        (λ past. nothing_there names id past ∙ sym (first_none (has_name symbols rules shapes root texts name) (λ shape. rule_never (slice_get rules shape.rule.0) (omega (arith, past, size))) 0 shapes))
        (cases_lt id (length names))
      where
        nothing_there : (xs : List (Option ℕ)) (i : ℕ) → length xs ≤ i → slice_index_or xs i None ≡ None
        nothing_there [] i past = refl
        nothing_there (x ∷ xs) zero past = absurd (omega arith)
        nothing_there (x ∷ xs) (suc i) past = nothing_there xs i (omega arith)

-- ---- the table

abbrev nothing : Option ℕ
nothing = None

pub none_there : (count : ℕ) (names : List (Option ℕ)) → names ≡ replicate count None → (rules : List FlatRule) → IsNameTable rules [] count names
none_there count names is rules = record {
  each = ap length is ∙ length-replicate count None;
  first = λ id less. ap (λ (l : List (Option ℕ)). slice_index_or l id None) is ∙ all_none count id;
}
  where
    all_none : (n i : ℕ) → slice_index_or (replicate n nothing) i None ≡ nothing
    all_none zero i = refl
    all_none (suc n) zero = refl
    all_none (suc n) (suc i) = all_none n i

take_more : (i : ℕ) (xs : List Shape) (d : Shape) → i < length xs → take (i + 1) xs ≡ take i xs ++ get_or xs i d ∷ []
take_more i [] d less = absurd (omega arith)
take_more zero (x ∷ xs) d less = refl
take_more (suc i) (x ∷ xs) d less = ap (λ (n : ℕ). take n (x ∷ xs)) (let e : suc i + 1 ≡ suc (i + 1) = omega arith in e) ∙ ap (λ (l : List Shape). x ∷ l) (take_more i xs d (omega arith))

pub one_more_there : (rules : List FlatRule) (shapes : List Shape) (count k : ℕ) (shape : Shape) (old new : List (Option ℕ)) → k < length shapes → shape ≡ get_or shapes k shape → length new ≡ length old
    → ((id : ℕ) → id < length old → slice_index_or new id None ≡ or_last (slice_index_or old id None) (is_called rules id shape) k)
    → IsNameTable rules (take k shapes) count old → IsNameTable rules (take (k + 1) shapes) count new
one_more_there rules shapes count k shape old new less is size entries table = record {
  each = size ∙ table.each;
  first = λ id inside.
      entries id (omega (arith, inside, table.each))
      ∙ ap (λ (o : Option ℕ). or_last o (is_called rules id shape) k) (table.first id inside)
      ∙ ap (λ (n : ℕ). or_last (first_from 0 (is_called rules id) (take k shapes)) (is_called rules id shape) n) (let e : k ≡ 0 + length (take k shapes) = omega (arith, length-take k shapes) in e)
      ∙ sym (first_snoc (is_called rules id) 0 (take k shapes) shape)
      ∙ ap (λ (l : List Shape). first_from 0 (is_called rules id) l) (ap (λ (x : Shape). take k shapes ++ x ∷ []) is ∙ sym (take_more k shapes shape less));
}

pub all_there : (rules : List FlatRule) (shapes : List Shape) (count k : ℕ) (names : List (Option ℕ)) → length shapes ≤ k → IsNameTable rules (take k shapes) count names → IsNameTable rules shapes count names
all_there rules shapes count k names past table = subst (λ (l : List Shape). IsNameTable rules l count names) (take_all k shapes past) table
  where
    take_all : (i : ℕ) (xs : List Shape) → length xs ≤ i → take i xs ≡ xs
    take_all zero [] past = refl
    take_all (suc i) [] past = refl
    take_all zero (x ∷ xs) past = absurd (omega arith)
    take_all (suc i) (x ∷ xs) past = ap (λ (l : List Shape). x ∷ l) (take_all i xs (omega arith))

-- what one name adds
pub entry_of : (old new : List (Option ℕ)) (j k : ℕ) → (j < length old → slice_index_or new j None ≡ or_last (slice_index_or old j None) true k)
    → ((m : ℕ) → m ≢ j → slice_index_or new m None ≡ slice_index_or old m None)
    → (id : ℕ) → id < length old → slice_index_or new id None ≡ or_last (slice_index_or old id None) (j == id) k
entry_of old new j k here others id less = by (j == id) refl
  where
    untouched : (o : Option ℕ) → o ≡ or_last o false k
    untouched None = refl
    untouched (Some i) = refl

    by : (b : Bool) → (j == id) ≡ b → slice_index_or new id None ≡ or_last (slice_index_or old id None) b k
    by true is = let e = same is in subst (λ (n : ℕ). slice_index_or new n None ≡ or_last (slice_index_or old n None) true k) e (here (omega (arith, e, less)))
    by false is = others id (λ e. differ is (sym e)) ∙ untouched (slice_index_or old id None)

pub entry_kept : (old : List (Option ℕ)) (k id : ℕ) → slice_index_or old id None ≡ or_last (slice_index_or old id None) false k
entry_kept old k id = untouched (slice_index_or old id None)
  where
    untouched : (o : Option ℕ) → o ≡ or_last o false k
    untouched None = refl
    untouched (Some i) = refl

-- ---- what a lookup gives

pub rule_found : (rules others : List FlatRule) (i : ℕ) (rule : FlatRule) → others ≡ rules → i < length others → rule ≡ get_or others i rule → slice_get rules i ≡ Some rule
rule_found rules others i rule e less is = subst (λ (l : List FlatRule). slice_get l i ≡ Some rule) e (slice_get_read others (length others) i rule refl less is)

pub rule_missing : (rules others : List FlatRule) (i : ℕ) → others ≡ rules → length others ≤ i → slice_get rules i ≡ None
rule_missing rules others i e past = subst (λ (l : List FlatRule). slice_get l i ≡ None) e (slice_get_past others i past)

pub called_is : (rules : List FlatRule) (id : ℕ) (shape : Shape) (r : FlatRule) → slice_get rules shape.rule.0 ≡ Some r → is_called rules id shape ≡ (r.name.0 == id)
called_is rules id shape r found = ap (λ (o : Option FlatRule). elim o as (λ _. Bool) [ None ↦ false | Some q ↦ q.name.0 == id ]) found

pub called_never : (rules : List FlatRule) (id : ℕ) (shape : Shape) → slice_get rules shape.rule.0 ≡ None → is_called rules id shape ≡ false
called_never rules id shape missing = ap (λ (o : Option FlatRule). elim o as (λ _. Bool) [ None ↦ false | Some q ↦ q.name.0 == id ]) missing

pub flat_is : (o : Option (Bor (Option ℕ))) → option_flatten (option_copied o) ≡ unwrap_or (option_map (λ (x : Bor (Option ℕ)). x.now) o) None
flat_is None = refl
flat_is (Some x) = refl

inside_test : {X : Type 0} (p : X → Bool) (k j : ℕ) (xs : List X) (b : Bool) → (first_from (suc k) p xs ≡ Some j → j < suc k + length xs) → (if b then Some k else first_from (suc k) p xs) ≡ Some j → j < k + suc (length xs)
inside_test p k j xs true later e = let same_k : k ≡ j = same_Some _ _ e in omega (arith, same_k)
inside_test p k j xs false later e = omega (arith, later e)

pub first_inside : {X : Type 0} (p : X → Bool) (k j : ℕ) (xs : List X) → first_from k p xs ≡ Some j → j < k + length xs
first_inside p k j [] e = absurd (none-some _ e)
first_inside p k j (x ∷ xs) e = inside_test p k j xs (p x) (first_inside p (suc k) j xs) e

nothing_past : (xs : List (Option ℕ)) (i : ℕ) → length xs ≤ i → slice_index_or xs i None ≡ nothing
nothing_past [] i past = refl
nothing_past (x ∷ xs) zero past = absurd (omega arith)
nothing_past (x ∷ xs) (suc i) past = nothing_past xs i (omega arith)

inside_by : (o : Option ℕ) (n : ℕ) → ((j : ℕ) → o ≡ Some j → j < n) → IfSome o (λ k. k < n)
inside_by None n each = tt
inside_by (Some j) n each = each j refl

pub found_inside : (rules : List FlatRule) (shapes : List Shape) (names : List (Option ℕ)) (id : ℕ) (o : Option ℕ) → IsNameTable rules shapes (length names) names → o ≡ slice_index_or names id None
    → IfSome o (λ k. k < length shapes)
found_inside rules shapes names id o table is = inside_by o (length shapes) (λ j e. ⊎_elim
    (λ less. let n = first_inside (is_called rules id) 0 j shapes (sym (table.first id less) ∙ sym is ∙ e) in omega (arith, n))
    (λ past. absurd (none-some _ (sym (nothing_past names id past) ∙ sym is ∙ e)))
    (cases_lt id (length names)))
