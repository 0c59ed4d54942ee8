-- Places and bare names that mean no occurrence.
use Rattle.std.specs.Prelude.{Contains, IsTrue, Bool, true, false, not}
use Rattle.std.proofs.Common.{◌≡◌, ℕ, inl, inr, List, Option, refl, sym, subst, true≢false}
use Rattle.lido_base.specs.Environment.{Environment}
use Rattle.lido_syntax.specs.declared.spec.Spec.{Spec}
use Rattle.lido_syntax.specs.declared.spec.Comp.{Comp}
use Rattle.lido_syntax.specs.declared.spec.Expr.{Expr, Int, Str, Bool as Truth, Terminal, Read, Including, Constituents, Call'}
use Rattle.lido_syntax.specs.declared.spec.Place.TheVariants as place
use Rattle.lido_syntax.specs.declared.spec.RuleItem.{RuleItem}
use Rattle.lido_syntax.specs.declared.spec.Target.{Target}
use Rattle.lido_syntax.specs.declared.spec.Target.TheVariants as target
use Rattle.lido_syntax.specs.Parts.{leaves_of}
use Rattle.kind_clashes.specs.Least.{IsFirst, Among}
use Rattle.kind_clashes.proofs.LeastLemmas.{first-same}
use Rattle.table_faults.specs.Indices.{IsBadTarget, IsBadLeaf, IsBadComp}
use Rattle.table_faults.specs.Faults.{IsBadIndex, of_place, bare, targeted, read}

pub not_so : (b : Bool) → IsTrue (not b) → ¬ IsTrue b
not_so true h = λ e. absurd (true≢false (sym h))
not_so false h = λ e. absurd (true≢false (sym e))

pub so_not : (b : Bool) → ¬ IsTrue b → IsTrue (not b)
so_not true h = absurd (h refl)
so_not false h = refl

module _ (spec : Spec) (env : Environment) where
  of-target : (r : RuleItem) (c : Comp) (at : ℕ) → Contains spec.rules r → Contains r.body c → (t : Target) → c.target ≡ t → IsBadTarget r t at → IsBadIndex spec env at
  of-target r c at there here (target.Attr (place.Named x i) a) e (none, place) = of_place r c x i there here (targeted a e place) none
  of-target r c at there here (target.Attr place.Synt a) e bad = absurd bad
  of-target r c at there here (target.Attr place.Inh a) e bad = absurd bad
  of-target r c at there here (target.Attr place.This a) e bad = absurd bad
  of-target r c at there here (target.Attr place.Tail a) e bad = absurd bad
  of-target r c at there here (target.Start a) e bad = absurd bad
  of-target r c at there here target.Out e bad = absurd bad
  of-target r c at there here (target.Message s o) e bad = absurd bad

  of-leaf : (r : RuleItem) (c : Comp) (at : ℕ) → Contains spec.rules r → Contains r.body c → (e : Expr) → Contains (leaves_of c) e → IsBadLeaf env.texts r e at → IsBadIndex spec env at
  of-leaf r c at there here (Terminal x i) m (no_coordinate, none, place) = bare r c x i there here (m, not_so _ no_coordinate) none place
  of-leaf r c at there here (Read first (place.Named x i) a) m (none, place) = of_place r c x i there here (read first a m place) none
  of-leaf r c at there here (Read first place.Synt a) m bad = absurd bad
  of-leaf r c at there here (Read first place.Inh a) m bad = absurd bad
  of-leaf r c at there here (Read first place.This a) m bad = absurd bad
  of-leaf r c at there here (Read first place.Tail a) m bad = absurd bad
  of-leaf r c at there here (Int p z) m bad = absurd bad
  of-leaf r c at there here (Str p s) m bad = absurd bad
  of-leaf r c at there here (Truth p b) m bad = absurd bad
  of-leaf r c at there here (Including p ps) m bad = absurd bad
  of-leaf r c at there here (Constituents k) m bad = absurd bad
  of-leaf r c at there here (Call' f shape args) m bad = absurd bad

  pub bad-index : (a : Option ℕ) → IsFirst (Among (λ (r : RuleItem). Among (IsBadComp env.texts r) r.body) spec.rules) a → IsFirst (IsBadIndex spec env) a
  bad-index a first = first-same
      (λ at h. let r = h.item in let c = h.is.item in elim h.is.is [
        | inl t ↦ of-target r c at h.among h.is.among c.target refl t
        | inr l ↦ of-leaf r c at h.among h.is.among l.item l.among l.is
      ])
      (λ at h. elim h [
        | of_place r c x i there here p none ↦ record {
          item = r;
          among = there;
          is = record {
            item = c;
            among = here;
            is = elim p [
              | targeted a e spot ↦ inl (subst (λ (t : Target). IsBadTarget r t at) (sym e) (none, spot))
              | read first a m spot ↦ inr (record { item = Read first (place.Named x i) a; among = m; is = (none, spot) })
            ];
          };
        }
        | bare r c x i there here b none spot ↦ record { item = r; among = there; is = record { item = c; among = here; is = inr (record { item = Terminal x i; among = b.0; is = (so_not _ b.1, none, spot) }) } }
      ])
      first

pub bad-index-of : (spec : Spec) (env : Environment) (texts : List (List ℕ)) → env.texts ≡ texts → (a : Option ℕ)
    → IsFirst (Among (λ (r : RuleItem). Among (IsBadComp texts r) r.body) spec.rules) a → IsFirst (IsBadIndex spec env) a
bad-index-of spec env texts e a first = bad-index spec env a (subst (λ (ts : List (List ℕ)). IsFirst (Among (λ (r : RuleItem). Among (IsBadComp ts r) r.body) spec.rules) a) (sym e) first)
