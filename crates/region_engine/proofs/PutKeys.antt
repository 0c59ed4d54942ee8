-- The keys that a region put: their values are those of the final state.
use Rattle.std.specs.Prelude.{Contains, slice_get, take, drop, if◌then◌else◌}
use Rattle.std.proofs.lemmas.List.{length-take, take-append-drop}
use Rattle.std.proofs.lemmas.List.Elements.{Contains-append_left}
use Rattle.std.proofs.lemmas.Option.{slice_get_within}
use Rattle.std.proofs.Common.{◌≡◌, ◌<◌, ◌≤◌, ℕ, zero, suc, Bool, true, false, List, [], ◌∷◌, length, Some, refl, arith, ap, sym, ◌∙◌, subst, ◌⊎◌, inl, inr}
use Rattle.lido_base.proofs.Lists.{contains-nil, contains-cons, contains-flat}
use Rattle.flat_grammar.proofs.Lists.{slice_get-contains, contains-slice_get, slice_get-take}
use Rattle.flat_grammar.specs.WholeOrder.{Instance}
use Rattle.core_machine.specs.Machine.{Item, eval_of, put_of}
use Rattle.core_machine.specs.Core.{Task, IsTask, items, machine}
use Rattle.core_machine.specs.Keys.{key_of, contents_of, IsShared}
use Rattle.core_machine.proofs.Jobs.{sound}
use Rattle.core_machine.proofs.KeyLemmas.{counted}
use Rattle.core_machine.proofs.Lists.{split-among}
use Rattle.core_machine.proofs.Regions.{Found, own_found}
use Rattle.region_engine.specs.declared.region.Region.{Region}
use Rattle.region_engine.specs.Behind.{list, put_key, keys_at}
use Rattle.region_engine.specs.Regions.{IsRegionOf}
use Rattle.region_engine.proofs.Lists.{among-own, front-own}
use Rattle.region_engine.proofs.Shared.{eval-instance, put-split}

-- a front within a longer one
take-take : {A : Type 0} (l : List A) (n m : ℕ) → n ≤ m → take n (take m l) ≡ take n l
take-take [] zero m h = refl
take-take [] (suc n) zero h = refl
take-take [] (suc n) (suc m) h = refl
take-take (x ∷ xs) zero m h = refl
take-take (x ∷ xs) (suc n) zero h = absurd (omega (arith, h))
take-take (x ∷ xs) (suc n) (suc m) h = ap (λ l. x ∷ l) (take-take xs n m (omega (arith, h)))

in-longer : {A : Type 0} (l : List A) (n m : ℕ) (x : A) → n ≤ m → Contains (take n l) x → Contains (take m l) x
in-longer l n m x h c =
    subst (λ z. Contains z x) (take-append-drop n (take m l))
    (Contains-append_left (take n (take m l)) (drop n (take m l)) x (subst (λ z. Contains z x) (sym (take-take l n m h)) c))

module _ (j : Task) where
  -- what makes a key is a put
  of-key : (x : Item Instance) (key : ℕ) → Contains (put_key j x) key → (x ≡ put_of x.makes) × (key ≡ key_of j x.makes)
  of-key x key m = go x.is_put refl m
    where
      go : (b : Bool) → x.is_put ≡ b → Contains (if b then key_of j x.makes ∷ [] else []) key → (x ≡ put_of x.makes) × (key ≡ key_of j x.makes)
      go true e m = (λ z. record { is_put = e z; makes = x.makes }, one (contains-cons (key_of j x.makes) key [] m))
        where
          one : (key_of j x.makes ≡ key) ⊎ Contains [] key → key ≡ key_of j x.makes
          one (inl e) = sym e
          one (inr none) = absurd (contains-nil key none)
      go false e m = absurd (contains-nil key m)

  module _ (task : IsTask j) (r : ℕ) (g : Region) (at : IsRegionOf j r g) where
    put-facts : (i : Instance) (p : ℕ) → p < g.position → slice_get (list j r) p ≡ Some (put_of i) → IsShared j i × (slice_get g.values.shared.items (key_of j i) ≡ slice_get (contents_of j) (key_of j i))
    put-facts i p low there =
        let f : Found (machine j) r (items j) p (put_of i) = own_found (machine j) r (items j) p (put_of i) there in
        let c = (sound j task).put_behind f.front f.back i f.whole in
        let front = subst (λ l. Contains l (eval_of i)) (sym (front-own j r p (put_of i) f)) (among-own j r f.front (eval_of i) f.home c) in
        let split = put-split j task i (subst (λ l. Contains l (put_of i)) (sym f.whole) (split-among f.front f.back (put_of i))) in
        let instance = eval-instance j task i (subst (λ l. Contains l (eval_of i)) (sym f.whole) (Contains-append_left f.front (put_of i ∷ f.back) (eval_of i) c)) in
        ((split, instance), at.behind.keeps.marked (key_of j i) (at.behind.keeps.evaluated i (in-longer (list j r) p g.position (eval_of i) (omega (arith, low)) front) split))

    pub key-of-put : (place key : ℕ) → slice_get g.puts.items place ≡ Some key → (key < length g.values.shared.items) × (slice_get g.values.shared.items key ≡ slice_get (contents_of j) key)
    key-of-put place key e =
        let m = contains-slice_get (keys_at j r g.position) place key (ap (λ l. slice_get l place) (sym at.puts) ∙ e) in
        let p = contains-flat (put_key j) (take g.position (list j r)) key m in
        let of = of-key p.0 key p.2 in
        let spot = slice_get-contains (take g.position (list j r)) p.0 p.1 in
        let w = slice_get_within (take g.position (list j r)) spot.0 p.0 spot.1 in
        let l = length-take g.position (list j r) in
        let low : spot.0 < g.position = omega (arith, w, l) in
        let there : slice_get (list j r) spot.0 ≡ Some (put_of p.0.makes) = sym (slice_get-take (list j r) g.position spot.0 low) ∙ spot.1 ∙ ap Some of.0 in
        let facts = put-facts p.0.makes spot.0 low there in
        let a = counted j task p.0.makes facts.0 in let b = at.behind.sized.keys in let e = of.1 in
        (omega (arith, a, b, e), ap (slice_get g.values.shared.items) of.1 ∙ facts.1 ∙ ap (slice_get (contents_of j)) (sym of.1))

-- nothing is behind a front in itself
pub nothing-behind : {A : Type 0} (l : List A) (n : ℕ) → drop n (take n l) ≡ []
nothing-behind [] zero = refl
nothing-behind [] (suc n) = refl
nothing-behind (x ∷ xs) zero = refl
nothing-behind (x ∷ xs) (suc n) = nothing-behind xs n
