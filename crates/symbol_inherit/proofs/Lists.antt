-- Lists that grow by what a step makes of the next element.
use Rattle.std.specs.Prelude.{filter_map, flat_map, option_to_list}
use Rattle.std.specs.List.{slice_index_or}
use Rattle.std.proofs.Common.{◌≡◌, ℕ, ◌+◌, ◌<◌, ◌∙◌, sym, ap, List, [], ◌∷◌, ◌++◌, length, take, Option, Some, None, refl, append_assoc, append-nil}
use Rattle.std.proofs.lemmas.List.{take_more}
use Rattle.std.proofs.lemmas.List.Elements.{filter_map-append}
use Rattle.std.proofs.lemmas.Grind.{flat_map-append}

filtered-one : {X Y : Type 0} (h : X → Option Y) (x : X) (o : Option Y) → h x ≡ o → filter_map h (x ∷ []) ≡ option_to_list o
filtered-one h x None e = rw e refl
filtered-one h x (Some y) e = rw e refl

-- one more element
pub filtered-more : {X Y : Type 0} (h : X → Option Y) (xs : List X) (i : ℕ) (d : X) (o : Option Y) → i < length xs → h (slice_index_or xs i d) ≡ o
    → filter_map h (take (i + 1) xs) ≡ filter_map h (take i xs) ++ option_to_list o
filtered-more h xs i d o within e =
    ap (filter_map h) (take_more xs i d within) ∙ filter_map-append h (take i xs) (slice_index_or xs i d ∷ []) ∙ ap (λ r. filter_map h (take i xs) ++ r) (filtered-one h (slice_index_or xs i d) o e)

-- what is pushed behind other elements
pub pushed-some : {X Y : Type 0} (h : X → Option Y) (xs : List X) (i : ℕ) (d : X) (y : Y) (old now new : List Y) → i < length xs → h (slice_index_or xs i d) ≡ Some y
    → now ≡ old ++ filter_map h (take i xs) → new ≡ now ++ y ∷ [] → new ≡ old ++ filter_map h (take (i + 1) xs)
pushed-some h xs i d y old now new within made before after =
    after ∙ ap (λ l. l ++ y ∷ []) before ∙ append_assoc old (filter_map h (take i xs)) (y ∷ []) ∙ ap (λ l. old ++ l) (sym (filtered-more h xs i d (Some y) within made))

pub pushed-none : {X Y : Type 0} (h : X → Option Y) (xs : List X) (i : ℕ) (d : X) (old now : List Y) → i < length xs → h (slice_index_or xs i d) ≡ None
    → now ≡ old ++ filter_map h (take i xs) → now ≡ old ++ filter_map h (take (i + 1) xs)
pushed-none h xs i d old now within made before =
    before ∙ ap (λ l. old ++ l) (sym (append-nil (filter_map h (take i xs))) ∙ sym (filtered-more h xs i d None within made))

-- lists that are put behind each other
pub flat-more : {X Y : Type 0} (f : X → List Y) (xs : List X) (i : ℕ) (d : X) → i < length xs → flat_map f (take (i + 1) xs) ≡ flat_map f (take i xs) ++ f (slice_index_or xs i d)
flat-more f xs i d within =
    ap (flat_map f) (take_more xs i d within) ∙ flat_map-append f (take i xs) (slice_index_or xs i d ∷ []) ∙ ap (λ r. flat_map f (take i xs) ++ r) (append-nil (f (slice_index_or xs i d)))

pub joined-more : {X Y : Type 0} (f : X → List Y) (xs : List X) (i : ℕ) (d : X) (ys old now new : List Y) → i < length xs → f (slice_index_or xs i d) ≡ ys
    → now ≡ old ++ flat_map f (take i xs) → new ≡ now ++ ys → new ≡ old ++ flat_map f (take (i + 1) xs)
joined-more f xs i d ys old now new within made before after =
    after ∙ ap (λ l. l ++ ys) before ∙ append_assoc old (flat_map f (take i xs)) ys ∙ ap (λ l. old ++ (flat_map f (take i xs) ++ l)) (sym made) ∙ ap (λ l. old ++ l) (sym (flat-more f xs i d within))
