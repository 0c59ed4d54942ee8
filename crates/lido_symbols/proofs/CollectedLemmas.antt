-- Walks that add something for each element to what was found.
use Rattle.std.proofs.Common.{◌≡◌, ℕ, ◌+◌, ◌<◌, ◌≤◌, List, [], ◌∷◌, ◌++◌, length, take, get_or, flat_map, filter_map, Option, Some, None, Bool, true, false, if◌then◌else◌, nat_eq, suc, option_to_list, ◌||◌, refl, ap, sym, ◌∙◌, append_assoc, arith, add-zero, zero-add, map}
use Rattle.std.proofs.lemmas.List.{append-nil, take_more, take_all, map-append, length-map, length-take-le}
use Rattle.std.specs.List.{cons_option, list_any}
use Rattle.lido_base.specs.declared.ids.StrId.{StrId}
use Rattle.lido_base.specs.Tree.{contains}
use Rattle.lido_syntax.specs.declared.spec.Element.{Element}
use Rattle.lido_syntax.specs.declared.spec.Element.TheVariants.{Symbol, Literal}
use Rattle.lido_syntax.specs.Production.{name_of, symbol_of, places_from}
use Rattle.lido_symbols.specs.Occurrences.{numbers, names_symbol}
use Rattle.std.proofs.lemmas.Grind.{flat_map-append}
use Rattle.std.proofs.lemmas.List.Elements.{filter_map-append}
use Rattle.std.proofs.lemmas.List.Folds.{flat_map-map, list_any_more}
use Rattle.std.specs.Borrow.{Bor}

module _ {X Y : Type 0} (f : X → List Y) where
  pub collected_one : (x : X) → flat_map f (x ∷ []) ≡ f x
  collected_one x = append-nil (f x)

  pub collected_none : (xs : List X) (found : List Y) → found ≡ found ++ flat_map f (take 0 xs)
  collected_none xs found = sym (append-nil found)

  pub collected_more : (xs : List X) (i : ℕ) (x d : X) (old found more : List Y) → i < length xs → x ≡ get_or xs i d
      → found ≡ old ++ flat_map f (take i xs) → more ≡ found ++ f x → more ≡ old ++ flat_map f (take (i + 1) xs)
  collected_more xs i x d old found more h at before added =
      added ∙ ap (λ l. l ++ f x) before ∙ append_assoc old (flat_map f (take i xs)) (f x)
      ∙ ap (λ l. old ++ l) (
      ap (λ l. flat_map f (take i xs) ++ l) (sym (collected_one x)) ∙ sym (flat_map-append f (take i xs) (x ∷ []))
      ∙ ap (flat_map f) (ap (λ y. take i xs ++ y ∷ []) at ∙ sym (take_more xs i d h)))

  pub collected_all : (xs : List X) (i : ℕ) (old found : List Y) → length xs ≤ i → found ≡ old ++ flat_map f (take i xs) → found ≡ old ++ flat_map f xs
  collected_all xs i old found h before = before ∙ ap (λ l. old ++ flat_map f l) (take_all i xs h)

filter_map-one : {X Y : Type 0} (h : X → Option Y) (x : X) → filter_map h (x ∷ []) ≡ option_to_list (h x)
filter_map-one {Y = Y} h x = by (h x)
  where
    by : (o : Option Y) → cons_option o [] ≡ option_to_list o
    by None = refl
    by (Some y) = refl

pub filtered_more : {X Y : Type 0} (h : X → Option Y) (xs : List X) (i : ℕ) (x d : X) (found more : List Y) → i < length xs → x ≡ get_or xs i d
    → found ≡ filter_map h (take i xs) → more ≡ found ++ option_to_list (h x) → more ≡ filter_map h (take (i + 1) xs)
filtered_more h xs i x d found more below at before added =
    added ∙ ap (λ l. l ++ option_to_list (h x)) before ∙ ap (λ l. filter_map h (take i xs) ++ l) (sym (filter_map-one h x))
    ∙ sym (filter_map-append h (take i xs) (x ∷ [])) ∙ ap (filter_map h) (ap (λ y. take i xs ++ y ∷ []) at ∙ sym (take_more xs i d below))

pub places_from-append : (k x : ℕ) (xs ys : List ℕ) → places_from k x (xs ++ ys) ≡ places_from k x xs ++ places_from (k + length xs) x ys
places_from-append k x [] ys = ap (λ n. places_from n x ys) (sym (add-zero k))
places_from-append k x (y ∷ xs) ys = by (nat_eq x y) (places_from-append (suc k) x xs ys ∙ ap (λ n. places_from (suc k) x xs ++ places_from n x ys) (omega arith))
  where
    by : (b : Bool) → places_from (suc k) x (xs ++ ys) ≡ places_from (suc k) x xs ++ places_from (k + length (y ∷ xs)) x ys
        → (if b then k ∷ places_from (suc k) x (xs ++ ys) else places_from (suc k) x (xs ++ ys)) ≡ (if b then k ∷ places_from (suc k) x xs else places_from (suc k) x xs) ++ places_from (k + length (y ∷ xs)) x ys
    by true later = ap (λ l. k ∷ l) later
    by false later = later

pub placed_more : (xs : List StrId) (i : ℕ) (d : StrId) (x : ℕ) (old new : List ℕ) → i < length xs → old ≡ places_from 0 x (numbers (take i xs))
    → new ≡ old ++ (if nat_eq x (get_or xs i d).0 then i ∷ [] else []) → new ≡ places_from 0 x (numbers (take (i + 1) xs))
placed_more xs i d x old new below before added =
    added ∙ ap (λ l. l ++ (if nat_eq x (get_or xs i d).0 then i ∷ [] else [])) before
    ∙ ap (λ n. places_from 0 x (numbers (take i xs)) ++ (if nat_eq x (get_or xs i d).0 then n ∷ [] else [])) at
    ∙ sym (places_from-append 0 x (numbers (take i xs)) ((get_or xs i d).0 ∷ []))
    ∙ ap (places_from 0 x) (sym (map-append (λ (s : StrId). s.0) (take i xs) (get_or xs i d ∷ [])) ∙ ap numbers (sym (take_more xs i d below)))
  where
    at : i ≡ 0 + length (numbers (take i xs))
    at = sym (zero-add (length (numbers (take i xs))) ∙ length-map (take i xs) (λ (s : StrId). s.0) ∙ length-take-le i xs (omega arith))

pub named_any : (x : ℕ) (es : List Element) → list_any (names_symbol x) es ≡ contains x (filter_map symbol_of es)
named_any x [] = refl
named_any x (Symbol n ∷ es) = ap (λ b. nat_eq x (name_of n) || b) (named_any x es)
named_any x (Literal s ∷ es) = named_any x es

turned_or : (e l : Bool) → (e || l) ≡ (l || e)
turned_or true true = refl
turned_or true false = refl
turned_or false true = refl
turned_or false false = refl

-- one symbol more of a right side
pub named_more : (x : ℕ) (es : List Element) (i : ℕ) (e d : Element) (old new : Bool) → i < length es → e ≡ get_or es i d → old ≡ list_any (names_symbol x) (take i es)
    → new ≡ (names_symbol x e || old) → new ≡ list_any (names_symbol x) (take (i + 1) es)
named_more x es i e d old new below at before added =
    added ∙ ap (λ b. names_symbol x e || b) before ∙ turned_or (names_symbol x e) (list_any (names_symbol x) (take i es))
    ∙ ap (λ y. list_any (names_symbol x) (take i es) || names_symbol x y) at ∙ sym (list_any_more (names_symbol x) es i d below)

pub named_all : (x : ℕ) (es all : List Element) (i : ℕ) (found : Bool) → length es ≤ i → es ≡ all → found ≡ list_any (names_symbol x) (take i es) → found ≡ contains x (filter_map symbol_of all)
named_all x es all i found h same before = before ∙ ap (list_any (names_symbol x)) (take_all i es h) ∙ named_any x es ∙ ap (λ l. contains x (filter_map symbol_of l)) same

pub filtered_flat : {X Y : Type 0} (h : X → Option Y) (xs : List X) → flat_map (λ x. option_to_list (h x)) xs ≡ filter_map h xs
filtered_flat h [] = refl
filtered_flat {X} {Y} h (x ∷ xs) = by (h x) ∙ ap (cons_option (h x)) (filtered_flat h xs)
  where
    by : (o : Option Y) → option_to_list o ++ flat_map (λ x. option_to_list (h x)) xs ≡ cons_option o (flat_map (λ x. option_to_list (h x)) xs)
    by None = refl
    by (Some y) = refl

-- a walk over a part that stands behind others
pub collected_behind : {X Y : Type 0} (f : X → List Y) (xs : List X) (i : ℕ) (old front middle found : List Y) → length xs ≤ i → middle ≡ old ++ front → found ≡ middle ++ flat_map f (take i xs)
    → found ≡ old ++ (front ++ flat_map f xs)
collected_behind f xs i old front middle found h begun before = collected_all f xs i middle found h before ∙ ap (λ l. l ++ flat_map f xs) begun ∙ append_assoc old front (flat_map f xs)

-- the same for references
pub collected_seen : {X Y : Type 0} (f : X → List Y) (refs : List (Bor X)) (xs : List X) (i : ℕ) (old front middle found : List Y) → length refs ≤ i → map (λ (r : Bor X). r.now) refs ≡ xs
    → middle ≡ old ++ front → found ≡ middle ++ flat_map (λ (r : Bor X). f r.now) (take i refs) → found ≡ old ++ (front ++ flat_map f xs)
collected_seen {X} f refs xs i old front middle found h seen begun before =
    collected_behind (λ (r : Bor X). f r.now) refs i old front middle found h begun before
    ∙ ap (λ l. old ++ (front ++ l)) (sym (flat_map-map f (λ (r : Bor X). r.now) refs) ∙ ap (flat_map f) seen)

map_flat : {X Y Z : Type 0} (f : Y → Z) (g : X → List Y) (xs : List X) → map f (flat_map g xs) ≡ flat_map (λ x. map f (g x)) xs
map_flat f g [] = refl
map_flat f g (x ∷ xs) = map-append f (g x) (flat_map g xs) ∙ ap (λ l. map f (g x) ++ l) (map_flat f g xs)

flat_flat : {X Y Z : Type 0} (f : Y → List Z) (g : X → List Y) (xs : List X) → flat_map f (flat_map g xs) ≡ flat_map (λ x. flat_map f (g x)) xs
flat_flat f g [] = refl
flat_flat f g (x ∷ xs) = flat_map-append f (g x) (flat_map g xs) ∙ ap (λ l. flat_map f (g x) ++ l) (flat_flat f g xs)

-- what is mapped behind a list
pub map_behind : {X Y Z : Type 0} (f : Y → Z) (g : X → List Y) (ys : List Y) (xs : List X) → map f ys ++ flat_map (λ x. map f (g x)) xs ≡ map f (ys ++ flat_map g xs)
map_behind f g ys xs = sym (map-append f ys (flat_map g xs) ∙ ap (λ l. map f ys ++ l) (map_flat f g xs))

-- what is collected of two lists of lists
pub flat_both : {X V Y Z : Type 0} (f : Y → List Z) (g : X → List Y) (h : V → List Y) (xs : List X) (vs : List V)
    → flat_map (λ x. flat_map f (g x)) xs ++ flat_map (λ v. flat_map f (h v)) vs ≡ flat_map f (flat_map g xs ++ flat_map h vs)
flat_both f g h xs vs = sym (flat_map-append f (flat_map g xs) (flat_map h vs) ∙ (λ i. flat_flat f g xs i ++ flat_flat f h vs i))
