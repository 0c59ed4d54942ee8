-- A phase whose faults are seen wraps those of the whole.
use Rattle.std.proofs.Common.{◌≡◌, ◌⊎◌, Result, Ok, Err, ap, sym, ◌∙◌, inl, inr}
use Rattle.lido_base.specs.Phases.{IsThe, Wrapped, Then}
use Rattle.lido_base.proofs.PhasesLemmas.{the_next, the_stop}
use Rattle.lido_top.specs.Endings.{GivesAs}

ok_only : {A F S : Type 0} (wrap : F → S) (p : Result A F → Type 0) (a : A) → IsThe p (Ok a) → (s : Result A S) → Wrapped wrap p s → s ≡ Ok a
ok_only wrap p a the (Ok b) given = let same : b ≡ a = (let e = the.only (Ok b) given in cc) in ap (λ x. Ok x) same
ok_only wrap p a the (Err t) (f, refused, is) = absurd (let e = the.only (Err f) refused in cc)

pub wrapped_ok : {A F S : Type 0} (wrap : F → S) (p : Result A F → Type 0) (a : A) → IsThe p (Ok a) → IsThe (Wrapped wrap p) (Ok a)
wrapped_ok wrap p a the = record { is = the.is; only = ok_only wrap p a the }

err_only : {A F S : Type 0} (wrap : F → S) (p : Result A F → Type 0) (e : F) (t : S) → wrap e ≡ t → IsThe p (Err e) → (s : Result A S) → Wrapped wrap p s → s ≡ Err t
err_only wrap p e t wraps the (Ok b) given = absurd (let same = the.only (Ok b) given in cc)
err_only wrap p e t wraps the (Err u) (f, refused, is) =
    let same : f ≡ e = (let q = the.only (Err f) refused in cc) in
    ap (λ x. Err x) (is ∙ ap wrap same ∙ wraps)

pub wrapped_err : {A F S : Type 0} (wrap : F → S) (p : Result A F → Type 0) (e : F) (t : S) → wrap e ≡ t → IsThe p (Err e) → IsThe (Wrapped wrap p) (Err t)
wrapped_err wrap p e t wraps the = record { is = (e, the.is, sym wraps); only = err_only wrap p e t wraps the }

-- want of memory stays want of memory
pub wrapped_fault : {A F S : Type 0} (wrap : F → S) (p : Result A F → Type 0) (memory e : F) (memory' t : S) → wrap memory ≡ memory' → wrap e ≡ t
    → (e ≡ memory) ⊎ IsThe p (Err e) → (t ≡ memory') ⊎ IsThe (Wrapped wrap p) (Err t)
wrapped_fault wrap p memory e memory' t none wraps (inl is) = inl (sym wraps ∙ ap wrap is ∙ none)
wrapped_fault wrap p memory e memory' t none wraps (inr the) = inr (wrapped_err wrap p e t wraps the)

-- behind a value comes what the next phase gives
pub gives_next : {X F A B S : Type 0} (view : X → B) (see : F → S) (p : Result A S → Type 0) (q : A → Result B S → Type 0) (memory : S) (a : A) (r : Result X F)
    → IsThe p (Ok a) → GivesAs view see (q a) memory r → GivesAs view see (Then p q) memory r
gives_next view see p q memory a (Ok x) first next = the_next p q a (Ok (view x)) first next
gives_next view see p q memory a (Err e) first (inl none) = inl none
gives_next view see p q memory a (Err e) first (inr the) = inr (the_next p q a (Err (see e)) first the)

-- behind a fault comes nothing
pub gives_stop : {X F A B S : Type 0} (view : X → B) (see : F → S) (p : Result A S → Type 0) (q : A → Result B S → Type 0) (memory : S) (e : F)
    → (see e ≡ memory) ⊎ IsThe p (Err (see e)) → GivesAs view see (Then p q) memory (Err e)
gives_stop view see p q memory e (inl none) = inl none
gives_stop view see p q memory e (inr the) = inr (the_stop p q (see e) the)
