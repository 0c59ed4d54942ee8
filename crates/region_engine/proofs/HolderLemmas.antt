-- Regions that have nothing left: each has the values that it evaluated, and the whole room of its region.
use Rattle.std.specs.Prelude.{Contains, slice_get, take, map, unwrap_or, if◌then◌else◌}
use Rattle.std.specs.List.{range_with_len}
use Rattle.std.proofs.lemmas.List.{length-set, take_all}
use Rattle.std.proofs.Math.ListN.{set}
use Rattle.std.proofs.lemmas.Option.{slice_get_read, slice_get_within}
use Rattle.std.proofs.Common.{◌≡◌, ◌<◌, ◌+◌, ℕ, zero, suc, true, false, List, [], ◌∷◌}
use Rattle.std.proofs.Common.{length, append-nil, Option, Some, None, refl, arith, ap, sym, ◌∙◌, subst, get_or}
use mathlib.Core.Logic.{dite}
use native.Mathlib.Decide.{ℕ_discrete}
use Rattle.lido_base.specs.Tree.{contains}
use Rattle.lido_base.specs.declared.value.Value.{Value}
use Rattle.lido_base.specs.declared.value.Value.TheVariants as value
use Rattle.lido_base.proofs.Lists.{place-below}
use Rattle.string_librarian.specs.Rooms.{RoomState}
use Rattle.tree_store.specs.Regions.{region}
use Rattle.flat_grammar.specs.WholeOrder.{Instance}
use Rattle.flat_grammar.specs.Instances.{IsInstance}
use Rattle.flat_grammar.proofs.Lists.{held}
use Rattle.core_machine.specs.Machine.{eval_of, final}
use Rattle.core_machine.specs.Core.{Task, IsTask, Computation, computation_of, home, items, machine}
use Rattle.core_machine.specs.Keys.{key_of}
use Rattle.core_machine.proofs.Ends.{rooms_front}
use Rattle.core_machine.proofs.FinalLemmas.{region-few}
use Rattle.core_machine.proofs.Jobs.{sound}
use Rattle.region_engine.specs.declared.evaluation.Bench.{Bench}
use Rattle.region_engine.specs.declared.region.Region.{Region}
use Rattle.region_engine.specs.declared.values.Values.{Values}
use Rattle.region_engine.specs.Behind.{list, room_at}
use Rattle.region_engine.specs.Kept.{own_offset, stored, own_offsets, IsBehind, IsMarked}
use Rattle.region_engine.specs.Regions.{items_left, IsRegionOf}
use Rattle.region_engine.specs.Endings.{AreAllRegions, AreDone, HaveNothingLeft, IsHeldBy}
use Rattle.region_engine.proofs.FinalValues.{instance-among}
use Rattle.region_engine.proofs.Lists.{among-own}
use Rattle.region_engine.proofs.Sets.{set-else, set-here}
use Rattle.region_engine.proofs.Shared.{content-is, final-some, near-node}

module _ (j : Task) where
  -- a region with nothing left stands at the end of its list
  at-end : (r : ℕ) (g : Region) → IsRegionOf j r g → items_left j g ≡ 0 → g.position ≡ length (list j r)
  at-end r g at none =
      let e = ap (λ q. length (list j q)) at.behind.region in
      let a = at.within in let b = at.count in
      omega (arith, e, a, b, none)

  pub done-all : (some : List Region) → AreAllRegions j some → HaveNothingLeft j some → AreDone j some
  done-all some all nothing = record {
    count = all.count;
    each = λ r g e. subst (λ n. IsBehind j r n g.values g.bench.room) (at-end r g (all.each r g e) (nothing.each r g e)) (all.each r g e).behind;
  }

  -- the same where the first region gave something else away
  pub done-first : (some : List Region) → AreAllRegions j some → HaveNothingLeft j some → (g h : Region) → g ≡ get_or some 0 g → h.values ≡ g.values
      → h.bench ≡ g.bench → AreDone j (set some 0 h)
  done-first some all nothing g h read values bench = record {
    count = length-set some 0 h ∙ all.count;
    each = λ r x e. dite (ℕ_discrete 0 r)
        (λ is. subst (λ q. IsBehind j q (length (list j q)) x.values x.bench.room) is
        (subst (λ (z : Region). IsBehind j 0 (length (list j 0)) z.values z.bench.room)
        (held (sym (set-here some 0 h low) ∙ ap (slice_get (set some 0 h)) is ∙ e)) first))
        (λ not. was.each r x (sym (set-else some 0 r h not) ∙ e));
  }
    where
      was : AreDone j some
      was = done-all some all nothing

      low : 0 < length some
      low = let c = all.count in omega (arith, c)

      first : IsBehind j 0 (length (list j 0)) h.values h.bench.room
      first =
          let b = was.each 0 g (slice_get_read some (length some) 0 g refl low read) in
          subst (λ (z : Bench). IsBehind j 0 (length (list j 0)) h.values z.room) (sym bench)
          (subst (λ (z : Values). IsBehind j 0 (length (list j 0)) z g.bench.room) (sym values) b)

  home-few : (i : Instance) → home j i < suc (length j.nodes)
  home-few i = go (computation_of j i)
    where
      go : (o : Option Computation) → (elim o [ None ↦ 0 | Some c ↦ region j.flat j.nodes c.0 ]) < suc (length j.nodes)
      go None = omega arith
      go (Some c) = region-few j.flat j.nodes c.0

  module _ (some : List Region) (done : AreDone j some) where
    pub begins-of : (r : ℕ) (g : Region) → slice_get some r ≡ Some g → g.values.begins.items ≡ own_offsets j g.values.region
    begins-of r g e = let b = done.each r g e in b.sized.begins ∙ ap (own_offsets j) (sym b.region)

    module _ (task : IsTask j) (i : Instance) (is : IsInstance j.symbols j.rules j.flat i) where
      -- the region that has it in its list has evaluated it
      evaluated : (r : ℕ) → home j i ≡ r → Contains (take (length (list j r)) (list j r)) (eval_of i)
      evaluated r at = subst (λ l. Contains l (eval_of i)) (sym (take_all (length (list j r)) (list j r) (omega arith)))
          (among-own j r (items j) (eval_of i) at (instance-among j task i is))

      -- what isn't of a split node has its value in the region of its node
      pub held-near : contains i.0 j.nodes ≡ false → (r : ℕ) → r ≡ region j.flat j.nodes i.0 → IsHeldBy j some i r
      held-near not r at =
          let few = region-few j.flat j.nodes i.0 in let c = done.count in
          let p = place-below some r (omega (arith, few, c, at)) in
          let b = done.each r p.0 p.1 in (
            p.0,
            p.1,
            ap (λ q. stored j q p.0.values.own.items p.0.values.shared.items i) b.region
                ∙ b.keeps.values i (evaluated r (sym (near-node j task i is not) ∙ sym at)),
          )

      -- some region has a mark for what is of a split node
      pub marked-there : contains i.0 j.nodes ≡ true → (r : ℕ) × (g : Region) × (slice_get some r ≡ Some g) × IsMarked g.values.marks.items (key_of j i)
      marked-there split =
          let few = home-few i in let c = done.count in
          let p = place-below some (home j i) (omega (arith, few, c)) in
          (home j i, p.0, p.1, (done.each (home j i) p.0 p.1).keeps.evaluated i (evaluated (home j i) refl) split)

      -- and where there is a mark there is its value
      pub held-marked : contains i.0 j.nodes ≡ true → (r : ℕ) (g : Region) → slice_get some r ≡ Some g → IsMarked g.values.marks.items (key_of j i)
          → IsHeldBy j some i r
      held-marked split r g e m = (
        g,
        e,
        ap (λ b. if b then slice_get g.values.shared.items (key_of j i) else slice_get g.values.own.items (own_offset j g.values.region i.0 + i.1)) split
            ∙ (done.each r g e).keeps.marked (key_of j i) m ∙ content-is j task i (instance-among j task i is) split,
      )

      pub held-inside : (r : ℕ) → IsHeldBy j some i r → r < length some
      held-inside r h = slice_get_within some r h.0 h.1

      -- the value that its holder reads is that of the end
      pub held-value : (r : ℕ) (g : Region) (v : Value) → IsHeldBy j some i r → slice_get some r ≡ Some g
          → v ≡ unwrap_or (stored j g.values.region g.values.own.items g.values.shared.items i) value.Void → (final (machine j)).values i ≡ Some v
      held-value r g v h e read =
          let same : h.0 ≡ g = held (sym h.1 ∙ e) in
          let f = final-some j task i (instance-among j task i is) in
          let is-stored : stored j g.values.region g.values.own.items g.values.shared.items i ≡ Some f.0 =
          ap (λ (x : Region). stored j x.values.region x.values.own.items x.values.shared.items i) (sym same) ∙ h.2 ∙ f.1 in
          f.1 ∙ ap Some (sym (read ∙ ap (λ o. unwrap_or o value.Void) is-stored))

  -- The rooms of all regions are those of the end.
  module _ (task : IsTask j) (some : List Region) (done : AreDone j some) (rooms : List RoomState) (are : rooms ≡ map (λ (g : Region). g.bench.room) some) where
    final-room : (r : ℕ) → (final (machine j)).rooms r ≡ room_at j r (length (list j r))
    final-room r = rooms_front (machine j) (sound j task) (items j) [] (sym (append-nil (items j))) r

    along : {A B : Type 0} (f : A → B) (g : ℕ → B) (a : ℕ) (xs : List A) → ((k : ℕ) (x : A) → slice_get xs k ≡ Some x → f x ≡ g (a + k))
        → map f xs ≡ map g (range_with_len a (length xs))
    along f g a [] h = refl
    along f g a (x ∷ xs) h =
        let n : a + 0 ≡ a = omega arith in
        let first = h 0 x refl ∙ ap g n in
        let rest = along f g (a + 1) xs (λ k y e. let m : a + suc k ≡ a + 1 + k = omega arith in h (suc k) y e ∙ ap g m) in
        λ i. first i ∷ rest i

    of-regions : {B : Type 0} (f : RoomState → B) (g : ℕ → B) → ((r : ℕ) (x : Region) → slice_get some r ≡ Some x → f x.bench.room ≡ g r)
        → map f rooms ≡ map g (range_with_len 0 (suc (length j.nodes)))
    of-regions f g h =
        ap (map f) are ∙ twice some
        ∙ along (λ (x : Region). f x.bench.room) g 0 some (λ k x e. let n : 0 + k ≡ k = omega arith in h k x e ∙ ap g (sym n))
        ∙ ap (λ n. map g (range_with_len 0 n)) done.count
      where
        twice : (xs : List Region) → map f (map (λ (x : Region). x.bench.room) xs) ≡ map (λ (x : Region). f x.bench.room) xs
        twice [] = refl
        twice (x ∷ xs) = ap (λ l. f x.bench.room ∷ l) (twice xs)

    plain : (a n : ℕ) → map (λ r. r) (range_with_len a n) ≡ range_with_len a n
    plain a zero = refl
    plain a (suc n) = ap (λ l. a ∷ l) (plain (a + 1) n)

    pub each-number : map (λ (room : RoomState). room.number) rooms ≡ range_with_len 0 (suc (length j.nodes))
    each-number = of-regions (λ (room : RoomState). room.number) (λ r. r) (λ r g e. (done.each r g e).number) ∙ plain 0 (suc (length j.nodes))

    pub each-deposits : map (λ (room : RoomState). room.deposits) rooms ≡ map (final (machine j)).rooms (range_with_len 0 (suc (length j.nodes)))
    each-deposits = of-regions (λ (room : RoomState). room.deposits) (final (machine j)).rooms (λ r g e. (done.each r g e).deposits ∙ sym (final-room r))
