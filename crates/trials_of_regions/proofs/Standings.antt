-- All regions of a job, while one of them runs and what they put is delivered.
use Rattle.std.specs.Prelude.{slice_get}
use Rattle.std.proofs.Math.ListN.{set}
use Rattle.std.proofs.lemmas.List.{length-set}
use Rattle.std.proofs.lemmas.Option.{get_or_from_slice_get, none-some, slice_get-get_or, slice_get_within}
use Rattle.std.proofs.Common.{◌≡◌, ◌<◌, ℕ, zero, suc, List, [], ◌∷◌, length, Some, arith, ap, sym, ◌∙◌, subst, get_or}
use mathlib.Core.Logic.{dite}
use native.Mathlib.Decide.{ℕ_discrete}
use Rattle.boundary_table.specs.Desk.{Which}
use Rattle.flat_grammar.proofs.Lists.{held}
use Rattle.core_machine.specs.Core.{Task}
use Rattle.region_engine.specs.declared.region.Region.{Region}
use Rattle.region_engine.specs.Regions.{number, IsRegion, IsRegionOf, IsSame}
use Rattle.region_engine.specs.Deliveries.{AreGiven, AreRegions, IsGiven}
use Rattle.region_engine.specs.Endings.{AreAllRegions}
use Rattle.region_engine.proofs.Sets.{set-here, set-else}
use Rattle.trials_of_regions.specs.Standing.{AreStanding}

module _ (j : Task) where
  -- by their numbers they are regions of the job
  pub some-regions : (some : List Region) → AreAllRegions j some → AreRegions j some
  some-regions some all = record {
    each = λ i d l.
        let at = all.each i (get_or some i d) (slice_get-get_or some i d l) in
        subst (λ q. IsRegionOf j q (get_or some i d)) (sym at.behind.region) at;
  }

  pub two-standing : (t : Which) (g h : Region) → length j.nodes ≡ 1 → IsRegionOf j 0 g → IsRegionOf j 1 h → g.desk.table ≡ t → h.desk.table ≡ t
      → AreStanding j t (g ∷ h ∷ [])
  two-standing t g h one first second here there = record {
    all = record { count = omega (arith, one); each = at };
    tables = table;
  }
    where
      at : (r : ℕ) (x : Region) → slice_get (g ∷ h ∷ []) r ≡ Some x → IsRegionOf j r x
      at zero x e = subst (IsRegionOf j 0) (held e) first
      at (suc zero) x e = subst (IsRegionOf j 1) (held e) second
      at (suc (suc r)) x e = absurd (none-some _ e)

      table : (r : ℕ) (x : Region) → slice_get (g ∷ h ∷ []) r ≡ Some x → x.desk.table ≡ t
      table zero x e = ap (λ (z : Region). z.desk.table) (sym (held e)) ∙ here
      table (suc zero) x e = ap (λ (z : Region). z.desk.table) (sym (held e)) ∙ there
      table (suc (suc r)) x e = absurd (none-some _ e)

  module _ (t : Which) (before : List Region) (stand : AreStanding j t before) where
    -- one of them runs
    pub run-standing : (place : ℕ) (g h : Region) → slice_get before place ≡ Some g → IsRegion j h → IsSame g h → AreStanding j t (set before place h)
    run-standing place g h there at same = record {
      all = record { count = length-set before place h ∙ stand.all.count; each = each };
      tables = tables;
    }
      where
        low : place < length before
        low = slice_get_within before place g there

        is-number : number h ≡ place
        is-number = same.number ∙ (stand.all.each place g there).behind.region

        pick : (P : ℕ → Region → Type 0) → P place h → ((r : ℕ) (x : Region) → slice_get before r ≡ Some x → P r x) → (r : ℕ) (x : Region)
            → slice_get (set before place h) r ≡ Some x → P r x
        pick P here other r x e = dite (ℕ_discrete place r)
            (λ is. subst (λ q. P q x) is (subst (P place) (held (sym (set-here before place h low) ∙ ap (slice_get (set before place h)) is ∙ e)) here))
            (λ not. other r x (sym (set-else before place r h not) ∙ e))

        each : (r : ℕ) (x : Region) → slice_get (set before place h) r ≡ Some x → IsRegionOf j r x
        each = pick (λ r x. IsRegionOf j r x) (subst (λ q. IsRegionOf j q h) is-number at) stand.all.each

        tables : (r : ℕ) (x : Region) → slice_get (set before place h) r ≡ Some x → x.desk.table ≡ t
        tables = pick (λ r x. x.desk.table ≡ t) (same.desk.table ∙ stand.tables place g there) stand.tables

    -- what some put is delivered to each
    pub given-standing : (keys : List ℕ) (after : List Region) → AreRegions j after → AreGiven keys before after → AreStanding j t after
    given-standing keys after are given = record {
      all = record { count = given.count ∙ stand.all.count; each = λ r h e. subst (λ q. IsRegionOf j q h) (numbered r h e) (of r h e) };
      tables = λ r h e. ap (λ d. d.table) (given-here r h e).desk ∙ stand.tables r (get_or before r h) (was r h e);
    }
      where
        inside : (r : ℕ) (h : Region) → slice_get after r ≡ Some h → r < length before
        inside r h e = let w = slice_get_within after r h e in let c = given.count in omega (arith, w, c)

        was : (r : ℕ) (h : Region) → slice_get after r ≡ Some h → slice_get before r ≡ Some (get_or before r h)
        was r h e = slice_get-get_or before r h (inside r h e)

        given-here : (r : ℕ) (h : Region) → slice_get after r ≡ Some h → IsGiven keys (get_or before r h) h
        given-here r h e = subst (IsGiven keys (get_or before r h)) (get_or_from_slice_get after r h h e) (given.each r h (inside r h e))

        of : (r : ℕ) (h : Region) → slice_get after r ≡ Some h → IsRegion j h
        of r h e = subst (IsRegion j) (get_or_from_slice_get after r h h e) (are.each r h (slice_get_within after r h e))

        numbered : (r : ℕ) (h : Region) → slice_get after r ≡ Some h → number h ≡ r
        numbered r h e = (given-here r h e).number ∙ (stand.all.each r (get_or before r h) (was r h e)).behind.region
