-- Looks at the table, one behind the other.
use Rattle.std.specs.Prelude.{slice_get}
use Rattle.std.proofs.Common.{◌≡◌, ◌<◌, ◌+◌, ◌*◌, ℕ, List, length, Some, refl, arith, ap, sym, ◌∙◌, subst, inl, inr, ⊎_elim}
use Rattle.std.proofs.Math.ListN.{set}
use mathlib.Core.Logic.{dite}
use native.Mathlib.Decide.{ℕ_discrete}
use Rattle.lido_base.specs.declared.value.Value.{Value}
use Rattle.region_engine.proofs.Sets.{set-here, set-else}
use Rattle.boundary_table.specs.Desk.{Held, Knows, GoesOn, StoresNothing, Missed}
use Rattle.flat_grammar.specs.declared.flat.Occ.{Occ}
use Rattle.flat_grammar.specs.Instances.{instance_at}
use Rattle.core_machine.specs.Core.{Task}
use Rattle.core_machine.specs.Keys.{key_of, contents_of}
use Rattle.region_engine.specs.declared.marks.Mark.{Mark}
use Rattle.region_engine.specs.Kept.{IsRefreshed}
use Rattle.region_engine.specs.Inputs.{IsLook, IsAtHand, AllAtHand, OneMissed}

pub goes-on-here : (d : Held) → GoesOn d d
goes-on-here d = record { table = refl; contents = refl; owners = refl; loads = omega arith; known = λ w h. h }

pub goes-on-both : (c d e : Held) → GoesOn c d → GoesOn d e → GoesOn c e
goes-on-both c d e f g = record {
  table = g.table ∙ f.table;
  contents = g.contents ∙ f.contents;
  owners = g.owners ∙ f.owners;
  loads = let a = f.loads in let b = g.loads in omega (arith, a, b);
  known = λ w h. g.known w (f.known w h);
}

pub knows-later : (d e : Held) (k : ℕ) → GoesOn d e → Knows d k → Knows e k
knows-later d e k g (a, b) = (g.known (2 * k) a, g.known (2 * k + 1) b)

pub missed-later : (c d e : Held) (k : ℕ) → GoesOn c d → Missed d e k → Missed c e k
missed-later c d e k g m = record {
  loaded = let a = g.loads in let b = m.loaded in omega (arith, a, b);
  last = m.last;
  found = m.found;
  unknown = λ h. m.unknown (knows-later c d k g h);
}

module _ (j : Task) where
  pub refreshed-both : (a b c : List Value) → IsRefreshed j a b → IsRefreshed j b c → IsRefreshed j a c
  refreshed-both a b c f g key = ⊎_elim
      (λ same. ⊎_elim (λ before. inl (same ∙ before)) (λ new. inr (same ∙ new)) (f key))
      (λ new. inr new)
      (g key)

  -- what is there by the final state stays so
  pub right-stays : (a b : List Value) (key : ℕ) → IsRefreshed j a b → slice_get a key ≡ slice_get (contents_of j) key → slice_get b key ≡ slice_get (contents_of j) key
  right-stays a b key f e = ⊎_elim (λ same. same ∙ e) (λ new. new) (f key)

  pub no-look : (shared : List Value) (d : Held) → IsLook j shared d shared d
  no-look shared d = record { refreshed = λ key. inl refl; goes_on = goes-on-here d; stores = (refl, refl) }

  pub look-both : (a b c : List Value) (d e f : Held) → IsLook j a d b e → IsLook j b e c f → IsLook j a d c f
  look-both a b c d e f x y = record {
    refreshed = refreshed-both a b c x.refreshed y.refreshed;
    goes_on = goes-on-both d e f x.goes_on y.goes_on;
    stores = (y.stores.0 ∙ x.stores.0, y.stores.1 ∙ x.stores.1);
  }

  -- a value that was found
  pub found-look : (shared : List Value) (key : ℕ) (v : Value) (d e : Held) → GoesOn d e → StoresNothing d e → d.view.contents ≡ contents_of j → slice_get d.view.contents key ≡ Some v → key < length shared
      → IsLook j shared d (set shared key v) e × (slice_get (set shared key v) key ≡ slice_get (contents_of j) key)
  found-look shared key v d e on stores same there inside =
      let content : slice_get (contents_of j) key ≡ Some v = ap (λ l. slice_get l key) (sym same) ∙ there in
      let here : slice_get (set shared key v) key ≡ slice_get (contents_of j) key = set-here shared key v inside ∙ sym content in (
        record {
          refreshed = λ k. dite (ℕ_discrete key k)
              (λ e. inr (subst (λ z. slice_get (set shared key v) z ≡ slice_get (contents_of j) z) e here))
              (λ ne. inl (set-else shared key k v ne));
          goes_on = on;
          stores = stores;
        },
        here,
      )

  module _ (n : ℕ) (marks : List Mark) where
    pub at-hand-later : (a b : List Value) (d e : Held) (o : Occ) → IsLook j a d b e → IsAtHand j n marks a d o → IsAtHand j n marks b e o
    at-hand-later a b d e o x h m =
        let p = h m in (right-stays a b (key_of j (instance_at j.flat n o)) x.refreshed p.0, knows-later d e (key_of j (instance_at j.flat n o)) x.goes_on p.1)

    pub all-later : (a b : List Value) (d e : Held) (list : List Occ) → IsLook j a d b e → AllAtHand j n marks a d list → AllAtHand j n marks b e list
    all-later a b d e list x h = record { each = λ o m. at-hand-later a b d e o x (h.each o m) }

    pub missed-behind : (c d e : Held) (list : List Occ) → GoesOn c d → OneMissed j n marks d e list → OneMissed j n marks c e list
    missed-behind c d e list g m = record { occ = m.occ; among = m.among; missed = record { nothing = m.missed.nothing; missed = missed-later c d e (key_of j (instance_at j.flat n m.occ)) g m.missed.missed } }
