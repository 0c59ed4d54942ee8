-- What phases in a row give, and phases that say the same.
use Rattle.std.proofs.Common.{◌≡◌, Result, Ok, Err, refl, ap, sym, ◌∙◌, subst, inl, inr, ⊎_elim}
use Rattle.lido_base.specs.Phases.{IsThe, Then, OneOf, Wrapped, the_one, the_none}

-- after a value comes what the next phase gives
pub the_next : {A B S : Type 0} (p : Result A S → Type 0) (q : A → Result B S → Type 0) (a : A) (r : Result B S) → IsThe p (Ok a) → IsThe (q a) r → IsThe (Then p q) r
the_next p q a r first next = record {
  is = inl (a, first.is, next.is);
  only = λ s given. ⊎_elim
      (λ g. let same : g.0 ≡ a = (let e = first.only (Ok g.0) g.1 in cc) in next.only s (subst (λ x. q x s) same g.2))
      (λ g. absurd (let e = first.only (Err g.0) g.1 in cc))
      given;
}

-- the first fault ends it
pub the_stop : {A B S : Type 0} (p : Result A S → Type 0) (q : A → Result B S → Type 0) (t : S) → IsThe p (Err t) → IsThe (Then p q) (Err t)
the_stop p q t first = record {
  is = inr (t, first.is, refl);
  only = λ s given. ⊎_elim
      (λ g. absurd (let e = first.only (Ok g.0) g.1 in cc))
      (λ g. let same : g.0 ≡ t = (let e = first.only (Err g.0) g.1 in cc) in g.2 ∙ ap (λ x. Err x) same)
      given;
}

-- a phase that has no fault but one refusal gives the value of which R is true, where its values are those
pub the_one_of : {B F : Type 0} (p : Result B F → Type 0) (R : B → Type 0) (refusal : F) → ((b : B) → p (Ok b) → R b) → ((b : B) → R b → p (Ok b)) → ((e : F) → p (Err e) → e ≡ refusal)
    → (r : Result B F) → IsThe p r → IsThe (OneOf R refusal) r
the_one_of p R refusal on back faults (Ok b) the = the_one R refusal b (on b the.is) (λ other given. let e = the.only (Ok other) (back other given) in cc)
the_one_of p R refusal on back faults (Err e) the = the_none R refusal e (faults e the.is) (λ b given. absurd (let same = the.only (Ok b) (back b given) in cc))

-- the same value under another refusal
pub one_as : {A F G : Type 0} (P : A → Type 0) (refusal : F) (other : G) (a : A) → IsThe (OneOf P refusal) (Ok a) → IsThe (OneOf P other) (Ok a)
unfolding OneOf
one_as P refusal other a the = the_one P other a the.is (λ b given. let e = the.only (Ok b) given in cc)

-- the same want of a value under another refusal
pub none_as : {A F G : Type 0} (P : A → Type 0) (refusal e : F) (other : G) → IsThe (OneOf P refusal) (Err e) → IsThe (OneOf P other) (Err other)
unfolding OneOf
none_as P refusal e other the = the_none P other other refl the.is.1

-- a refusal is the one that it can be
pub refusal_is : {A F : Type 0} (P : A → Type 0) (refusal e : F) → IsThe (OneOf P refusal) (Err e) → e ≡ refusal
unfolding OneOf
refusal_is P refusal e the = the.is.0

-- ---- phases that give one thing at most

abbrev pub IsSingle : {A F : Type 0} → (Result A F → Type 0) → Type 0
IsSingle {A} {F} p = (r s : Result A F) → p r → p s → r ≡ s

-- a phase, and what it goes on with behind a value that it gives
pub single_then : {A B S : Type 0} (p : Result A S → Type 0) (q : A → Result B S → Type 0) → IsSingle p → ((a : A) → p (Ok a) → IsSingle (q a)) → IsSingle (Then p q)
single_then p q one next r s (inl (a, is, given)) (inl (b, other, too)) =
    let same : a ≡ b = (let e = one (Ok a) (Ok b) is other in cc) in
    next b other r s (subst (λ x. q x r) same given) too
single_then p q one next r s (inl (a, is, given)) (inr (t, other, stops)) = absurd (let e = one (Ok a) (Err t) is other in cc)
single_then p q one next r s (inr (t, is, stops)) (inl (b, other, too)) = absurd (let e = one (Err t) (Ok b) is other in cc)
single_then p q one next r s (inr (t, is, stops)) (inr (u, other, too)) =
    let same : t ≡ u = (let e = one (Err t) (Err u) is other in cc) in
    stops ∙ ap (λ x. Err x) same ∙ sym too

-- a phase with its faults seen as those of the whole
pub single_wrapped : {A F S : Type 0} (wrap : F → S) (p : Result A F → Type 0) → IsSingle p → IsSingle (Wrapped wrap p)
single_wrapped wrap p one (Ok a) (Ok b) is other = let same : a ≡ b = (let e = one (Ok a) (Ok b) is other in cc) in ap (λ x. Ok x) same
single_wrapped wrap p one (Ok a) (Err t) is (f, other, told) = absurd (let e = one (Ok a) (Err f) is other in cc)
single_wrapped wrap p one (Err t) (Ok b) (f, is, told) other = absurd (let e = one (Err f) (Ok b) is other in cc)
single_wrapped wrap p one (Err t) (Err u) (f, is, told) (g, other, too) =
    let same : f ≡ g = (let e = one (Err f) (Err g) is other in cc) in
    ap (λ x. Err x) (told ∙ ap wrap same ∙ sym too)

-- the one value of which something is true, or a refusal
pub single_one_of : {A F : Type 0} (P : A → Type 0) (refusal : F) → ((a b : A) → P a → P b → a ≡ b) → IsSingle (OneOf P refusal)
unfolding OneOf
single_one_of P refusal one (Ok a) (Ok b) is other = ap (λ x. Ok x) (one a b is other)
single_one_of P refusal one (Ok a) (Err t) is (told, none) = absurd (none a is)
single_one_of P refusal one (Err t) (Ok b) (told, none) other = absurd (none b other)
single_one_of P refusal one (Err t) (Err u) (told, none) (too, nothing) = ap (λ x. Err x) (told ∙ sym too)
