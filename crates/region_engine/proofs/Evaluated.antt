-- The evaluation of a region's next instance: what it needs, what it gives, and what the region keeps behind it.
use Rattle.std.specs.Prelude.{Contains, map, slice_get, take, if◌then◌else◌, ◌==◌}
use Rattle.std.proofs.lemmas.List.{length-set}
use Rattle.std.proofs.lemmas.List.Elements.{Contains-append_left, Contains-append_cases}
use Rattle.std.proofs.lemmas.Option.{slice_get-get_or}
use Rattle.std.proofs.lemmas.Bool.{cases_Bool}
use Rattle.std.proofs.Common.{◌≡◌, ◌≤◌, ◌+◌, ℕ, Bool, true, false, List, [], ◌∷◌, length, Option, Some, None, refl, arith, ap, sym, ◌∙◌, subst, true≢false, ◌⊎◌, inl, inr, ⊎_elim, eq-eqb}
use mathlib.Core.Logic.{dite}
use native.Mathlib.Decide.{ℕ_discrete}
use Rattle.lido_base.specs.Tree.{contains}
use Rattle.lido_base.specs.declared.value.Value.{Value}
use Rattle.lido_base.proofs.Lists.{contains-nil, contains-cons, map-contains}
use Rattle.string_librarian.specs.Rooms.{RoomState, Deposit}
use Rattle.boundary_table.specs.Desk.{Held, Knows}
use Rattle.tree_store.specs.Regions.{region}
use Rattle.flat_grammar.specs.declared.flat.Occ.{Occ}
use Rattle.flat_grammar.specs.declared.flat.FlatRule.{FlatRule}
use Rattle.flat_grammar.specs.declared.flat.FlatComp.{FlatComp}
use Rattle.flat_grammar.specs.Fitting.{cells}
use Rattle.flat_grammar.specs.Rules.{dependencies}
use Rattle.flat_grammar.specs.WholeOrder.{Instance}
use Rattle.flat_grammar.specs.Instances.{IsInstance, instance_at}
use Rattle.flat_grammar.proofs.Lists.{held}
use Rattle.core_machine.specs.Machine.{Item, eval_of, put_of, count, final}
use Rattle.core_machine.specs.Core.{Task, IsTask, Computation, computation_of, gives, home, items, machine, needs, outcome}
use Rattle.core_machine.specs.Keys.{key_of, contents_of, IsShared}
use Rattle.core_machine.specs.Runs.{cost_in}
use Rattle.core_machine.proofs.Ends.{final_value, room_at as run_room}
use Rattle.core_machine.proofs.Jobs.{grown, in-order, sound}
use Rattle.core_machine.proofs.KeyLemmas.{counted, differ}
use Rattle.core_machine.proofs.Lists.{split-among}
use Rattle.core_machine.proofs.Regions.{Found, own_found}
use Rattle.core_machine.proofs.Tasks.{need-depends}
use Rattle.region_engine.specs.declared.marks.Mark.{Mark}
use Rattle.region_engine.specs.declared.marks.Mark.TheVariants.{Missing, Evaluated, Delivered}
use Rattle.region_engine.specs.declared.values.Values.{Values}
use Rattle.region_engine.specs.Behind.{list, room_at}
use Rattle.region_engine.specs.Kept.{own_offset, stored, IsMarked, AreSized, IsKeptShared, IsKeptOwn, IsKeptFor, Keeps, IsBehind}
use Rattle.region_engine.specs.Inputs.{IsMissing, AllAtHand, OneMissed}
use Rattle.region_engine.specs.Steps.{HasKey, IsNext, HasInputs, AwaitsOther}
use Rattle.region_engine.proofs.Sets.{set-here, set-else}
use Rattle.region_engine.proofs.Lists.{take-more, room-next, among-own, own-among, front-own, space-next}
use Rattle.region_engine.proofs.Shared.{eval-instance, put-split, content-is, near-node}
use Rattle.region_engine.proofs.Offsets.{own-inside, own-apart}

-- what a region evaluated stands in the list of items, and is of the region
pub list-among : (j : Task) (r n : ℕ) (i : Instance) → slice_get (list j r) n ≡ Some (eval_of i) → (k : Instance) → Contains (take n (list j r)) (eval_of k) → Contains (items j) (eval_of k)
list-among j r n i next k m =
    let f = own_found (machine j) r (items j) n (eval_of i) next in
    let p = own-among j r f.front (eval_of k) (subst (λ l. Contains l (eval_of k)) (front-own j r n (eval_of i) f) m) in
    subst (λ l. Contains l (eval_of k)) (sym f.whole) (Contains-append_left f.front (eval_of i ∷ f.back) (eval_of k) p.0)

module _ (j : Task) (task : IsTask j) (r n : ℕ) (v : Values) (room : RoomState) (i : Instance) (next : IsNext j r n v room i) where
  f : Found (machine j) r (items j) n (eval_of i)
  f = own_found (machine j) r (items j) n (eval_of i) next.next

  keeps : Keeps j r n v
  keeps = next.behind.keeps

  at-home : home j i ≡ r
  at-home = f.home

  among : (x : Item Instance) → Contains f.front x → Contains (items j) x
  among x c = subst (λ l. Contains l x) (sym f.whole) (Contains-append_left f.front (eval_of i ∷ f.back) x c)

  pub here-among : Contains (items j) (eval_of i)
  here-among = subst (λ l. Contains l (eval_of i)) (sym f.whole) (split-among f.front f.back (eval_of i))

  -- what it needs was evaluated before
  before : (k : Instance) → Contains (needs j i) k → Contains f.front (eval_of k)
  before k need = (sound j task).behind f.front f.back i k f.whole need

  mine-before : (k : Instance) → Contains f.front (eval_of k) → home j k ≡ r → Contains (take n (list j r)) (eval_of k)
  mine-before k c at = subst (λ l. Contains l (eval_of k)) (sym (front-own j r n (eval_of i) f)) (among-own j r f.front (eval_of k) at c)

  -- what it needs of other regions are attributes of split nodes
  far-shared : (k : Instance) → Contains (needs j i) k → (home j k ≡ home j i → ⊥) → contains k.0 j.nodes ≡ true
  far-shared k need far = put-split j task k (among (put_of k) ((sound j task).far f.front f.back i k f.whole need far))

  needed-shared : (k : Instance) → Contains (needs j i) k → contains k.0 j.nodes ≡ true → IsShared j k
  needed-shared k need is = (is, eval-instance j task k (among (eval_of k) (before k need)))

  mark-there : (k : Instance) → IsShared j k → (m : Mark) × (slice_get v.marks.items (key_of j k) ≡ Some m)
  mark-there k shared = let c = counted j task k shared in let l = next.behind.sized.marks in (_, slice_get-get_or v.marks.items (key_of j k) Missing (omega (arith, c, l)))

  -- where nothing is there, another region evaluates it
  pub missing-far : (k : Instance) → Contains (needs j i) k → IsMissing j v.marks.items k → home j k ≡ home j i → ⊥
  missing-far k need miss near =
      let c = keeps.evaluated k (mine-before k (before k need) (near ∙ at-home)) miss.split in
      c.2 (held (sym c.1 ∙ miss.missing))

  pub awaited : (node : ℕ) (rule : FlatRule) (comp : FlatComp) → computation_of j i ≡ Some (node, rule, comp) → (d e : Held) → OneMissed j node v.marks.items d e (dependencies comp) → AwaitsOther j i v d e
  awaited node rule comp is d e m =
      let k = instance_at j.flat node m.occ in
      let there = map-contains (instance_at j.flat node) (dependencies comp) m.occ m.among in
      let need : Contains (needs j i) k = subst (λ (o : Option Computation). Contains (elim o [ None ↦ [] | Some c ↦ map (instance_at j.flat c.0) (dependencies c.2) ]) k) (sym is) there in
      record {
        input = k;
        needed = need;
        far = missing-far k need m.missed.nothing;
        undelivered = λ h. let z : Missing ≡ Delivered = held (sym m.missed.nothing.missing ∙ h) in absurd (cc);
        missed = m.missed.missed;
      }

  module _ (node : ℕ) (rule : FlatRule) (comp : FlatComp) (computes : computation_of j i ≡ Some (node, rule, comp)) (d : Held)
      (hand : AllAtHand j node v.marks.items v.shared.items d (dependencies comp)) where
    at-hand : (k : Instance) → Contains (needs j i) k → slice_get v.marks.items (key_of j k) ≡ Some Missing → contains k.0 j.nodes ≡ true
        → (slice_get v.shared.items (key_of j k) ≡ slice_get (contents_of j) (key_of j k)) × Knows d (key_of j k)
    at-hand k need missing is =
        let p = need-depends j task (grown j task) (in-order j task) i k need in
        let same : p.0 ≡ (node, rule, comp) = held (sym p.1 ∙ computes) in
        let P : Computation → Type 0 = λ c. (o : Occ) × Contains (dependencies c.2) o × (k ≡ instance_at j.flat c.0 o) in
        let q = subst P same p.3 in
        let G : Instance → Type 0 = λ z. IsMissing j v.marks.items z → (slice_get v.shared.items (key_of j z) ≡ slice_get (contents_of j) (key_of j z)) × Knows d (key_of j z) in
        subst G (sym q.2) (hand.each q.0 q.1) (record { split = is; missing = missing })

    pub inputs : HasInputs j i v d
    inputs = record {
      each = λ k need far.
          let is = far-shared k need far in
          let shared = needed-shared k need is in
          let m = mark-there k shared in
          by k need far is shared m.0 m.1;
    }
      where
        by : (k : Instance) → Contains (needs j i) k → (home j k ≡ home j i → ⊥) → contains k.0 j.nodes ≡ true → IsShared j k → (m : Mark) → slice_get v.marks.items (key_of j k) ≡ Some m → HasKey v (key_of j k) ⊎ Knows d (key_of j k)
        by k need far is shared Missing e = inr (at-hand k need e is).1
        by k need far is shared Evaluated e = absurd (far (keeps.owned k shared e ∙ sym at-home))
        by k need far is shared Delivered e = inl e

    -- the values of what it needs are those of the end
    right : (k : Instance) → Contains (needs j i) k → stored j r v.own.items v.shared.items k ≡ (final (machine j)).values k
    right k need = elim (cases_Bool (contains k.0 j.nodes)) [
      | inl is ↦ (let shared = needed-shared k need is in let m = mark-there k shared in
          ap (λ b. if b then slice_get v.shared.items (key_of j k) else slice_get v.own.items (own_offset j r k.0 + k.1)) is
          ∙ by m.0 m.1 is ∙ content-is j task k (among (eval_of k) (before k need)) is)
      | inr not ↦ keeps.values k (mine-before k (before k need) (near not ∙ at-home))
    ]
      where
        by : (m : Mark) → slice_get v.marks.items (key_of j k) ≡ Some m → contains k.0 j.nodes ≡ true → slice_get v.shared.items (key_of j k) ≡ slice_get (contents_of j) (key_of j k)
        by Missing e is = (at-hand k need e is).0
        by Evaluated e is = keeps.marked (key_of j k) (Evaluated, e, λ z. cc)
        by Delivered e is = keeps.marked (key_of j k) (Delivered, e, λ z. cc)

        near : contains k.0 j.nodes ≡ false → home j k ≡ home j i
        near not = dite (ℕ_discrete (home j k) (home j i)) (λ e. e) (λ far. absurd (true≢false (sym (far-shared k need far) ∙ not)))

    module _ (x : Value) (new : RoomState) (exact : (x, new.deposits) ≡ outcome j room.number (stored j r v.own.items v.shared.items) room.deposits (Some (node, rule, comp))) where
      in-end : (x, new.deposits) ≡ gives j i (final (machine j)).values (room_at j r n)
      in-end =
          exact
          ∙ ap (λ q. outcome j q (stored j r v.own.items v.shared.items) room.deposits (Some (node, rule, comp))) (next.behind.number ∙ sym at-home)
          ∙ ap (λ o. outcome j (home j i) (stored j r v.own.items v.shared.items) room.deposits o) (sym computes)
          ∙ (sound j task).asks i (stored j r v.own.items v.shared.items) (final (machine j)).values room.deposits right
          ∙ ap (gives j i (final (machine j)).values) next.behind.deposits

      value-right : (final (machine j)).values i ≡ Some x
      value-right =
          final_value (machine j) (sound j task) f.front f.back (eval_of i) f.whole refl
          ∙ ap (λ q. Some (gives j i (final (machine j)).values (run_room (machine j) (sound j task) q (count (machine j) q f.front))).0) f.home
          ∙ ap (λ k. Some (gives j i (final (machine j)).values (run_room (machine j) (sound j task) r k)).0) f.index
          ∙ ap (λ (a : Value × List Deposit). Some a.0) (sym in-end)

      room-right : new.deposits ≡ room_at j r (n + 1)
      room-right = ap (λ (a : Value × List Deposit). a.1) in-end ∙ sym (room-next j r n (eval_of i) next.next)

      module _ (w : Values) (kept : IsKeptFor j r v w i x) (number : new.number ≡ room.number) (space : room.space ≤ new.space + cells comp.value) (own : region j.flat j.nodes node ≡ r) where
        is-instance : IsInstance j.symbols j.rules j.flat i
        is-instance = eval-instance j task i here-among

        -- an item before, or the one that is evaluated
        old-or-new : (k : Instance) → Contains (take (n + 1) (list j r)) (eval_of k) → Contains (take n (list j r)) (eval_of k) ⊎ (k ≡ i)
        old-or-new k m = elim (Contains-append_cases (take n (list j r)) (eval_of i ∷ []) (eval_of k) (subst (λ l. Contains l (eval_of k)) (take-more (list j r) n (eval_of i) next.next) m)) [
          | inl old ↦ inl old
          | inr c ↦ elim (contains-cons (eval_of i) (eval_of k) [] c) [ inl e ↦ inr (ap (λ (z : Item Instance). z.makes) (sym e)) | inr none ↦ absurd (contains-nil (eval_of k) none) ]
        ]

        among-list : (k : Instance) → Contains (take n (list j r)) (eval_of k) → Contains (items j) (eval_of k) × (home j k ≡ r)
        among-list k m = let p = own-among j r f.front (eval_of k) (subst (λ l. Contains l (eval_of k)) (front-own j r n (eval_of i) f) m) in (among (eval_of k) p.0, p.1)

        abbrev Stored : Instance → Type 0
        Stored k = stored j r w.own.items w.shared.items k ≡ (final (machine j)).values k

        in-shared : (k : Instance) → contains k.0 j.nodes ≡ true → slice_get w.shared.items (key_of j k) ≡ (final (machine j)).values k → Stored k
        in-shared k is e = ap (λ b. if b then slice_get w.shared.items (key_of j k) else slice_get w.own.items (own_offset j r k.0 + k.1)) is ∙ e

        in-own : (k : Instance) → contains k.0 j.nodes ≡ false → slice_get w.own.items (own_offset j r k.0 + k.1) ≡ (final (machine j)).values k → Stored k
        in-own k not e = ap (λ b. if b then slice_get w.shared.items (key_of j k) else slice_get w.own.items (own_offset j r k.0 + k.1)) not ∙ e

        was-shared : (k : Instance) → contains k.0 j.nodes ≡ true → Contains (take n (list j r)) (eval_of k) → slice_get v.shared.items (key_of j k) ≡ (final (machine j)).values k
        was-shared k is m = sym (ap (λ b. if b then slice_get v.shared.items (key_of j k) else slice_get v.own.items (own_offset j r k.0 + k.1)) is) ∙ keeps.values k m

        was-own : (k : Instance) → contains k.0 j.nodes ≡ false → Contains (take n (list j r)) (eval_of k) → slice_get v.own.items (own_offset j r k.0 + k.1) ≡ (final (machine j)).values k
        was-own k not m = sym (ap (λ b. if b then slice_get v.shared.items (key_of j k) else slice_get v.own.items (own_offset j r k.0 + k.1)) not) ∙ keeps.values k m

        -- where i is of a split node
        module _ (split : contains i.0 j.nodes ≡ true) where
          k' : IsKeptShared j v w i x
          k' = kept.split split

          shared-i : IsShared j i
          shared-i = (split, is-instance)

          here : slice_get w.shared.items (key_of j i) ≡ Some x
          here = ap (λ l. slice_get l (key_of j i)) k'.shared
              ∙ set-here v.shared.items (key_of j i) x (let a = counted j task i shared-i in let b = next.behind.sized.keys in omega (arith, a, b))

          split-new : (k : Instance) → k ≡ i → Stored k
          split-new k e = subst Stored (sym e) (in-shared i split (here ∙ sym value-right))

          split-old : (k : Instance) → Contains (take n (list j r)) (eval_of k) → Stored k
          split-old k m = elim (cases_Bool (contains k.0 j.nodes)) [
            | inl is ↦ dite (ℕ_discrete (key_of j i) (key_of j k))
                (λ e. split-new k (sym (differ j task i k shared-i (is, eval-instance j task k (among-list k m).0) e)))
                (λ ne. in-shared k is (ap (λ l. slice_get l (key_of j k)) k'.shared ∙ set-else v.shared.items (key_of j i) (key_of j k) x ne ∙ was-shared k is m))
            | inr not ↦ in-own k not (ap (λ l. slice_get l (own_offset j r k.0 + k.1)) k'.own ∙ was-own k not m)
          ]

          mark-was : (key : ℕ) → (key ≡ key_of j i → ⊥) → IsMarked w.marks.items key → IsMarked v.marks.items key
          mark-was key ne m = (m.0, sym (k'.marks.same key ne) ∙ m.1, m.2)

          split-marked : (key : ℕ) → IsMarked w.marks.items key → slice_get w.shared.items key ≡ slice_get (contents_of j) key
          split-marked key m = dite (ℕ_discrete (key_of j i) key)
              (λ e. subst (λ z. slice_get w.shared.items z ≡ slice_get (contents_of j) z) e (here ∙ sym value-right ∙ sym (content-is j task i here-among split)))
              (λ ne. ap (λ l. slice_get l key) k'.shared ∙ set-else v.shared.items (key_of j i) key x ne ∙ keeps.marked key (mark-was key (λ e. ne (sym e)) m))

          mark-here : IsMarked w.marks.items (key_of j i)
          mark-here = elim k'.marks.here [ inl new ↦ (Evaluated, new.1, λ z. cc) | inr old ↦ (old.0.0, old.1 ∙ old.0.1, old.0.2) ]

          mark-stays : (key : ℕ) → IsMarked v.marks.items key → IsMarked w.marks.items key
          mark-stays key m = dite (ℕ_discrete key (key_of j i))
              (λ e. subst (λ z. IsMarked w.marks.items z) (sym e) mark-here)
              (λ ne. (m.0, k'.marks.same key ne ∙ m.1, m.2))

          split-owned : (k : Instance) → IsShared j k → slice_get w.marks.items (key_of j k) ≡ Some Evaluated → home j k ≡ r
          split-owned k shared e = dite (ℕ_discrete (key_of j i) (key_of j k))
              (λ same. ap (home j) (sym (differ j task i k shared-i shared same)) ∙ at-home)
              (λ ne. keeps.owned k shared (sym (k'.marks.same (key_of j k) (λ e. ne (sym e))) ∙ e))

          split-keeps : Keeps j r (n + 1) w
          split-keeps = record {
            values = λ k m. ⊎_elim (λ old. split-old k old) (λ e. split-new k e) (old-or-new k m);
            marked = split-marked;
            evaluated = λ k m is. ⊎_elim (λ old. mark-stays (key_of j k) (keeps.evaluated k old is)) (λ e. subst (λ z. IsMarked w.marks.items (key_of j z)) (sym e) mark-here) (old-or-new k m);
            owned = split-owned;
          }

        -- where it is of another node
        module _ (bare : contains i.0 j.nodes ≡ false) where
          o' : IsKeptOwn j r v w i x
          o' = kept.other bare

          here-own : region j.flat j.nodes i.0 ≡ r
          here-own = near-node j task i is-instance bare ∙ at-home

          at-place : slice_get w.own.items (own_offset j r i.0 + i.1) ≡ Some x
          at-place = ap (λ l. slice_get l (own_offset j r i.0 + i.1)) o'.own
              ∙ set-here v.own.items (own_offset j r i.0 + i.1) x (let a = own-inside j r task i is-instance here-own in let b = next.behind.sized.many in omega (arith, a, b))

          bare-new : (k : Instance) → k ≡ i → Stored k
          bare-new k e = subst Stored (sym e) (in-own i bare (at-place ∙ sym value-right))

          bare-old : (k : Instance) → Contains (take n (list j r)) (eval_of k) → Stored k
          bare-old k m = elim (cases_Bool (contains k.0 j.nodes)) [
            | inl is ↦ in-shared k is (ap (λ l. slice_get l (key_of j k)) o'.shared ∙ was-shared k is m)
            | inr not ↦ (let a = among-list k m in let is = eval-instance j task k a.0 in dite (ℕ_discrete (own_offset j r i.0 + i.1) (own_offset j r k.0 + k.1))
                (λ e. bare-new k (sym (own-apart j r task i k is-instance is here-own (near-node j task k is not ∙ a.1) e)))
                (λ ne. in-own k not (ap (λ l. slice_get l (own_offset j r k.0 + k.1)) o'.own ∙ set-else v.own.items (own_offset j r i.0 + i.1) (own_offset j r k.0 + k.1) x ne ∙ was-own k not m)))
          ]

          bare-keeps : Keeps j r (n + 1) w
          bare-keeps = record {
            values = λ k m. ⊎_elim (λ old. bare-old k old) (λ e. bare-new k e) (old-or-new k m);
            marked = λ key m. ap (λ l. slice_get l key) o'.shared ∙ keeps.marked key (m.0, ap (λ l. slice_get l key) (sym o'.marks) ∙ m.1, m.2);
            evaluated = λ k m is. ⊎_elim
                (λ old. let q = keeps.evaluated k old is in (q.0, ap (λ l. slice_get l (key_of j k)) o'.marks ∙ q.1, q.2))
                (λ e. absurd (true≢false (sym is ∙ ap (λ (z : Instance). contains z.0 j.nodes) e ∙ bare)))
                (old-or-new k m);
            owned = λ k shared e. keeps.owned k shared (ap (λ l. slice_get l (key_of j k)) (sym o'.marks) ∙ e);
          }

        sized : AreSized j r w
        sized = elim (cases_Bool (contains i.0 j.nodes)) [
          | inl is ↦ (let k = kept.split is in record {
            begins = kept.begins ∙ next.behind.sized.begins;
            many = ap length k.own ∙ next.behind.sized.many;
            keys = ap length k.shared ∙ length-set v.shared.items (key_of j i) x ∙ next.behind.sized.keys;
            marks = k.marks.count ∙ next.behind.sized.marks;
          })
          | inr not ↦ (let k = kept.other not in record {
            begins = kept.begins ∙ next.behind.sized.begins;
            many = ap length k.own ∙ length-set v.own.items (own_offset j r i.0 + i.1) x ∙ next.behind.sized.many;
            keys = ap length k.shared ∙ next.behind.sized.keys;
            marks = ap length k.marks ∙ next.behind.sized.marks;
          })
        ]

        cost : cost_in j r i ≡ cells comp.value
        cost = ap (λ (o : Option Computation). elim o [ None ↦ 0 | Some c ↦ (if region j.flat j.nodes c.0 == r then cells c.2.value else 0) ]) computes
            ∙ ap (λ (b : Bool). if b then cells comp.value else 0) (eq-eqb (region j.flat j.nodes node) r own)

        pub behind-next : IsBehind j r (n + 1) w new
        behind-next = record {
          region = kept.region ∙ next.behind.region;
          sized = sized;
          keeps = elim (cases_Bool (contains i.0 j.nodes)) [ inl is ↦ split-keeps is | inr not ↦ bare-keeps not ];
          number = number ∙ next.behind.number;
          deposits = room-right;
          space = let a = space-next j r n (eval_of i) next.next in let b = next.behind.space in omega (arith, a, b, cost, space);
        }
