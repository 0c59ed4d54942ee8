-- Lists each two elements of which are told apart, and the numbers of computations and CONSTITUENTS.
use Rattle.std.specs.List.{Contains, filter, filter_map, cons_option}
use Rattle.std.proofs.Common.{◌≡◌, ◌⊎◌, inl, inr, ℕ, List, [], ◌∷◌, ◌++◌, map, flat_map, Option, Some, None, refl, ap, sym, ◌∙◌, subst}
use Rattle.std.proofs.lemmas.List.{map-append}
use Rattle.std.proofs.lemmas.Grind.{flat_map-append}
use Rattle.std.proofs.lemmas.List.Elements.{filter_map-append}
use Rattle.std.proofs.lemmas.List.Concat.{flat_map_single}
use Rattle.lido_base.proofs.Lists.{contains-nil, contains-cons}
use Rattle.lido_syntax.specs.declared.spec.Comp.{Comp}
use Rattle.lido_syntax.specs.declared.spec.Cons.{Cons}
use Rattle.lido_syntax.specs.declared.spec.Pair.{Pair}
use Rattle.lido_syntax.specs.declared.spec.Expr.{Expr, Int, Str, Bool as Truth, Terminal, Read, Including, Constituents, Call'}
use Rattle.lido_syntax.specs.declared.spec.RuleItem.{RuleItem}
use Rattle.lido_syntax.specs.declared.spec.SymbolItem.{SymbolItem}
use Rattle.lido_syntax.specs.declared.spec.Spec.{Spec}
use Rattle.lido_syntax.specs.Parts.{parts, is_leaf, leaves, leaves_of, expressions_of}
use Rattle.lido_symbols.specs.Uses.{computations, constituents_of, including_of, all_includings}
use Rattle.lido_symbols.specs.FromText.{AreApart}
use Rattle.lido_reader.specs.Numbers.{Numbered, number_of_part, numbers_in, numbers_of, all_numbers, including_of_part, includings_in, includings_of, IsInFront, AreApart as NumbersApart}
use Rattle.lido_reader.specs.Numbers as numbers
use Rattle.lido_reader.proofs.NumbersLemmas.{Every, every, Apart, through}

-- ---- each two

pub every_map : {X Y : Type 0} (f : X → Y) (P : Y → Type 0) (xs : List X) → Every P (map f xs) → Every (λ x. P (f x)) xs
every_map f P [] h = tt
every_map f P (x ∷ xs) h = (h.0, every_map f P xs h.1)

pub apart_map : {X Y : Type 0} (f : X → Y) (R : Y → Y → Type 0) (xs : List X) → Apart R (map f xs) → Apart (λ x y. R (f x) (f y)) xs
apart_map f R [] h = tt
apart_map f R (x ∷ xs) h = (every_map f (R (f x)) xs h.0, apart_map f R xs h.1)

pub apart_other : {X : Type 0} (R S : X → X → Type 0) → ((x y : X) → R x y → S x y) → (xs : List X) → Apart R xs → Apart S xs
apart_other R S on [] h = tt
apart_other R S on (x ∷ xs) h = (every (R x) (S x) xs (on x) h.0, apart_other R S on xs h.1)

pub every_at : {X : Type 0} (P : X → Type 0) (xs : List X) (x : X) → Every P xs → Contains xs x → P x
every_at P [] x h m = absurd (contains-nil x m)
every_at P (z ∷ xs) x h m = by (contains-cons z x xs m) (every_at P xs x h.1)
  where
    by : (z ≡ x) ⊎ Contains xs x → (Contains xs x → P x) → P x
    by (inl e) later = subst P e h.0
    by (inr k) later = later k

-- two elements are one, or are told apart
pub apart_both : {X : Type 0} (R : X → X → Type 0) → ((x y : X) → R x y → R y x) → (xs : List X) (x y : X) → Apart R xs → Contains xs x → Contains xs y → (x ≡ y) ⊎ R x y
apart_both R turn [] x y h m k = absurd (contains-nil x m)
apart_both R turn (z ∷ xs) x y h m k = by (contains-cons z x xs m) (contains-cons z y xs k) (apart_both R turn xs x y h.1)
  where
    by : (z ≡ x) ⊎ Contains xs x → (z ≡ y) ⊎ Contains xs y → (Contains xs x → Contains xs y → (x ≡ y) ⊎ R x y) → (x ≡ y) ⊎ R x y
    by (inl p) (inl q) later = inl (sym p ∙ q)
    by (inl p) (inr q) later = inr (subst (λ v. R v y) p (every_at (R z) xs y h.0 q))
    by (inr p) (inl q) later = inr (turn y x (subst (λ v. R v x) q (every_at (R z) xs x h.0 p)))
    by (inr p) (inr q) later = later p q

-- what is picked from them
module _ {X A : Type 0} (pick : X → Option A) where
  pub every_pick : (P : X → Type 0) (Q : A → Type 0) → ((x : X) (a : A) → pick x ≡ Some a → P x → Q a) → (xs : List X) → Every P xs → Every Q (filter_map pick xs)
  every_pick P Q on [] h = tt
  every_pick P Q on (x ∷ xs) h = by (pick x) refl (every_pick P Q on xs h.1)
    where
      by : (o : Option A) → pick x ≡ o → Every Q (filter_map pick xs) → Every Q (cons_option o (filter_map pick xs))
      by None e later = later
      by (Some a) e later = (on x a e h.0, later)

  pub apart_pick : (R : X → X → Type 0) (S : A → A → Type 0) → ((x y : X) (a b : A) → pick x ≡ Some a → pick y ≡ Some b → R x y → S a b) → (xs : List X) → Apart R xs → Apart S (filter_map pick xs)
  apart_pick R S on [] h = tt
  apart_pick R S on (x ∷ xs) h = by (pick x) refl (apart_pick R S on xs h.1)
    where
      by : (o : Option A) → pick x ≡ o → Apart S (filter_map pick xs) → Apart S (cons_option o (filter_map pick xs))
      by None e later = later
      by (Some a) e later = (every_pick (R x) (S a) (λ y b d. on x y a b e d) xs h.0, later)

  pub pick_flat : {Y : Type 0} (g : Y → List X) (ys : List Y) → filter_map pick (flat_map g ys) ≡ flat_map (λ y. filter_map pick (g y)) ys
  pick_flat g [] = refl
  pick_flat g (y ∷ ys) = filter_map-append pick (g y) (flat_map g ys) ∙ ap (λ l. filter_map pick (g y) ++ l) (pick_flat g ys)

pub map_flat : {X Y Z : Type 0} (f : Y → Z) (g : X → List Y) (h : X → List Z) → ((x : X) → map f (g x) ≡ h x) → (xs : List X) → map f (flat_map g xs) ≡ flat_map h xs
map_flat f g h each [] = refl
map_flat f g h each (x ∷ xs) = map-append f (g x) (flat_map g xs) ∙ (λ j. each x j ++ map_flat f g h each xs j)

pub flat_same : {X Y : Type 0} (g h : X → List Y) → ((x : X) → g x ≡ h x) → (xs : List X) → flat_map g xs ≡ flat_map h xs
flat_same g h each [] = refl
flat_same g h each (x ∷ xs) = λ j. each x j ++ flat_same g h each xs j

-- ---- the CONSTITUENTS and INCLUDINGs of a computation

abbrev pub constituents_in : Comp → List (ℕ × Cons)
constituents_in c = filter_map constituents_of (leaves_of c)

abbrev pub with_number : ℕ × Cons → Numbered
with_number k = (k.0, k.1.at)

pub numbers_in_leaves : (ps : List Expr) → map with_number (filter_map constituents_of (filter is_leaf ps)) ≡ flat_map number_of_part ps
numbers_in_leaves [] = refl
numbers_in_leaves (Int at z ∷ ps) = numbers_in_leaves ps
numbers_in_leaves (Str at s ∷ ps) = numbers_in_leaves ps
numbers_in_leaves (Truth at b ∷ ps) = numbers_in_leaves ps
numbers_in_leaves (Terminal x i ∷ ps) = numbers_in_leaves ps
numbers_in_leaves (Read at p a ∷ ps) = numbers_in_leaves ps
numbers_in_leaves (Including at pairs ∷ ps) = numbers_in_leaves ps
numbers_in_leaves (Constituents k ∷ ps) = ap (λ l. (k.number, k.at) ∷ l) (numbers_in_leaves ps)
numbers_in_leaves (Call' f shape args ∷ ps) = numbers_in_leaves ps

pub numbers_of_constituents : (c : Comp) → map with_number (constituents_in c) ≡ flat_map numbers_in (expressions_of c)
numbers_of_constituents c = ap (map with_number) (pick_flat constituents_of leaves (expressions_of c))
    ∙ map_flat with_number (λ e. filter_map constituents_of (leaves e)) numbers_in (λ e. numbers_in_leaves (parts e)) (expressions_of c)

abbrev pub place_of : ℕ × List Pair → ℕ
place_of x = x.0

pub places_in_leaves : (ps : List Expr) → map place_of (filter_map including_of (filter is_leaf ps)) ≡ flat_map including_of_part ps
places_in_leaves [] = refl
places_in_leaves (Int at z ∷ ps) = places_in_leaves ps
places_in_leaves (Str at s ∷ ps) = places_in_leaves ps
places_in_leaves (Truth at b ∷ ps) = places_in_leaves ps
places_in_leaves (Terminal x i ∷ ps) = places_in_leaves ps
places_in_leaves (Read at p a ∷ ps) = places_in_leaves ps
places_in_leaves (Including at pairs ∷ ps) = ap (λ l. at ∷ l) (places_in_leaves ps)
places_in_leaves (Constituents k ∷ ps) = places_in_leaves ps
places_in_leaves (Call' f shape args ∷ ps) = places_in_leaves ps

pub places_of_includings : (c : Comp) → map place_of (filter_map including_of (leaves_of c)) ≡ includings_of c
places_of_includings c = ap (map place_of) (pick_flat including_of leaves (expressions_of c))
    ∙ map_flat place_of (λ e. filter_map including_of (leaves e)) includings_in (λ e. places_in_leaves (parts e)) (expressions_of c)

-- ---- computations and CONSTITUENTS as they are numbered together

abbrev pub Holder : Type 0
Holder = Comp ⊎ (ℕ × Cons)

-- a CONSTITUENTS among them
abbrev pub held : ℕ × Cons → Holder
held k = inr k

abbrev pub number_of : Holder → Numbered
number_of (inl c) = (c.number, c.at)
number_of (inr k) = with_number k

abbrev pub holders_of : Comp → List Holder
holders_of c = inl c ∷ map held (constituents_in c)

abbrev pub the_computation : Holder → Option Comp
the_computation (inl c) = Some c
the_computation (inr k) = None

abbrev pub the_constituents : Holder → Option (ℕ × Cons)
the_constituents (inl c) = None
the_constituents (inr k) = Some k

pub numbers_of_inner : (ks : List (ℕ × Cons)) → map number_of (map held ks) ≡ map with_number ks
numbers_of_inner [] = refl
numbers_of_inner (k ∷ ks) = ap (λ l. with_number k ∷ l) (numbers_of_inner ks)

pub numbers_of_holders : (c : Comp) → map number_of (holders_of c) ≡ numbers_of c
numbers_of_holders c = ap (λ l. (c.number, c.at) ∷ l) (numbers_of_inner (constituents_in c) ∙ numbers_of_constituents c)

pub no_computation : (ks : List (ℕ × Cons)) → filter_map the_computation (map held ks) ≡ []
no_computation [] = refl
no_computation (k ∷ ks) = no_computation ks

pub all_inner : (ks : List (ℕ × Cons)) → filter_map the_constituents (map held ks) ≡ ks
all_inner [] = refl
all_inner (k ∷ ks) = ap (λ l. k ∷ l) (all_inner ks)

abbrev pub holders : Spec → List Holder
holders spec = flat_map holders_of (computations spec)

map_same : {X : Type 0} (xs : List X) → map (λ x. x) xs ≡ xs
map_same [] = refl
map_same (x ∷ xs) = ap (λ l. x ∷ l) (map_same xs)

pub computations_held : (cs : List Comp) → filter_map the_computation (flat_map holders_of cs) ≡ cs
computations_held cs = pick_flat the_computation holders_of cs ∙ flat_same (λ c. filter_map the_computation (holders_of c)) (λ c. c ∷ []) (λ c. ap (λ l. c ∷ l) (no_computation (constituents_in c))) cs
    ∙ flat_map_single (λ c. c) cs ∙ map_same cs

pub constituents_held : (cs : List Comp) → filter_map the_constituents (flat_map holders_of cs) ≡ filter_map constituents_of (flat_map leaves_of cs)
constituents_held cs = pick_flat the_constituents holders_of cs ∙ flat_same (λ c. filter_map the_constituents (holders_of c)) constituents_in (λ c. all_inner (constituents_in c)) cs
    ∙ sym (pick_flat constituents_of leaves_of cs)

-- all numbers are those of the computations, one behind the other
pub numbers_of_computations : (spec : Spec) → all_numbers spec ≡ flat_map numbers_of (computations spec)
numbers_of_computations spec = sym (flat_map-append numbers_of (flat_map (λ (r : RuleItem). r.body) spec.rules) (flat_map (λ (s : SymbolItem). s.body) spec.symbols)
    ∙ (λ j. through numbers_of (λ (r : RuleItem). r.body) (λ (r : RuleItem). flat_map numbers_of r.body) (λ r. refl) spec.rules j
    ++ through numbers_of (λ (s : SymbolItem). s.body) (λ (s : SymbolItem). flat_map numbers_of s.body) (λ s. refl) spec.symbols j))

pub includings_of_computations : (spec : Spec) → numbers.all_includings spec ≡ flat_map includings_of (computations spec)
includings_of_computations spec = sym (flat_map-append includings_of (flat_map (λ (r : RuleItem). r.body) spec.rules) (flat_map (λ (s : SymbolItem). s.body) spec.symbols)
    ∙ (λ j. through includings_of (λ (r : RuleItem). r.body) (λ (r : RuleItem). flat_map includings_of r.body) (λ r. refl) spec.rules j
    ++ through includings_of (λ (s : SymbolItem). s.body) (λ (s : SymbolItem). flat_map includings_of s.body) (λ s. refl) spec.symbols j))

pub places_of_all : (spec : Spec) → map place_of (all_includings spec) ≡ numbers.all_includings spec
places_of_all spec = ap (map place_of) (pick_flat including_of leaves_of (computations spec))
    ∙ map_flat place_of (λ c. filter_map including_of (leaves_of c)) includings_of places_of_includings (computations spec) ∙ sym (includings_of_computations spec)

-- the two ways to say that numbers are apart
module _ (spec : Spec) where
  pub said_apart : (x y : Numbered) → NumbersApart x y → AreApart spec x y
  said_apart x y (inl p) = inl (p.smaller, p.earlier)
  said_apart x y (inr p) = inr (p.smaller, p.earlier)

  pub turned : (x y : Numbered) → AreApart spec x y → AreApart spec y x
  turned x y (inl p) = inr p
  turned x y (inr p) = inl p
