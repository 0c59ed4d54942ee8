-- A run along the whole order: one evaluation after the other, up to the final state.
use Rattle.std.specs.Prelude.{drop, slice_get, sum_by, map, flat_map, fold, Contains, if◌then◌else◌, ◌==◌}
use Rattle.std.specs.List.{range_with_len}
use Rattle.std.proofs.Common.{◌≡◌, ◌≤◌, ◌<◌, ◌+◌, ◌⊎◌, ℕ, zero, suc, List, [], ◌∷◌, ◌++◌, length, Bool, true, false, Option, Some, None, refl, arith, ap, sym, subst, ◌∙◌, eq-eqb, eqb-true, inl, inr, append_assoc, true≢false}
use Rattle.std.proofs.Math.ListN.{set}
use Rattle.std.proofs.lemmas.Option.{slice_get_within, get_or_from_slice_get}
use Rattle.std.proofs.lemmas.Bool.{cases_Bool}
use Rattle.std.proofs.lemmas.Grind.{flat_map-append}
use Rattle.std.proofs.lemmas.List.{length-set}
use Rattle.std.proofs.lemmas.List.FromFn.{length-map-range_with_len, get_or-map-range_with_len}
use Rattle.std.proofs.lemmas.List.Elements.{Contains-append_left}
use Rattle.std.proofs.lemmas.List.Sums.{sum_by-cons, fold-append}
use Rattle.lido_base.specs.declared.value.Value.{Value}
use Rattle.lido_base.specs.declared.ids.NodeId.{NodeId}
use Rattle.lido_base.specs.Tree.{contains}
use Rattle.string_librarian.specs.Rooms.{RoomState, Deposit}
use Rattle.tree_store.specs.Regions.{region}
use Rattle.flat_grammar.specs.declared.flat.Occ.{Occ}
use Rattle.flat_grammar.specs.declared.flat.FlatRule.{FlatRule}
use Rattle.flat_grammar.specs.declared.flat.FlatComp.{FlatComp}
use Rattle.flat_grammar.specs.Rules.{HasRule}
use Rattle.flat_grammar.specs.SoundPlan.{goals_of}
use Rattle.flat_grammar.specs.Fitting.{cells}
use Rattle.flat_grammar.specs.WholeOrder.{Instance}
use Rattle.flat_grammar.specs.Instances.{IsInstance, instance_at}
use Rattle.flat_grammar.proofs.Lists.{held, contains-cons, contains-nil, contains-first, contains-later}
use Rattle.core_machine.specs.declared.cursor.Item.TheVariants as named
use Rattle.core_machine.specs.Machine.{Item, State, eval_of, put_of, after, opening, final}
use Rattle.core_machine.specs.Core.{Task, IsTask, Computation, same_instance, computation_of, home, outcome, gives, instances_in_order, items_for, machine}
use Rattle.core_machine.specs.declared.cursor.Item.{Item as Named}
use Rattle.core_machine.specs.Cursors.{CursorState, left, IsFirst}
use Rattle.core_machine.specs.Whole.{undivided}
use Rattle.core_machine.specs.Slots.{offset, slot, found}
use Rattle.core_machine.specs.Instances.{IsSite}
use Rattle.core_machine.specs.Runs.{behind, cost_in, empty_room, empty_rooms, IsRoomOf, IsBehind, AreFinal}
use Rattle.core_machine.proofs.Jobs.{grown, in-order, sound}
use Rattle.core_machine.proofs.Lists.{split-among}
use Rattle.flat_grammar.proofs.GrownLemmas.{one-rule}
use Rattle.core_machine.proofs.Sites.{one-site, is-rule, inside, site-instance}
use Rattle.core_machine.proofs.Only.{one-comp}
use Rattle.core_machine.proofs.FinalLemmas.{region-few}
use Rattle.core_machine.proofs.RoomLemmas.{enough}
use Rattle.core_machine.proofs.Tasks.{computed, computes, site-of, need-order, same-is, is-same}
use Rattle.core_machine.proofs.SlotLemmas.{slot-inside, slot-apart}

set-here : {A : Type 0} (xs : List A) (k : ℕ) (x : A) → k < length xs → slice_get (set xs k x) k ≡ Some x
set-here [] k x h = absurd (omega (arith, h))
set-here (y ∷ xs) zero x h = refl
set-here (y ∷ xs) (suc k) x h = set-here xs k x (omega (arith, h))

set-else : {A : Type 0} (xs : List A) (k m : ℕ) (x : A) → (k ≡ m → ⊥) → slice_get (set xs k x) m ≡ slice_get xs m
set-else [] k m x h = refl
set-else (y ∷ xs) zero zero x h = absurd (h refl)
set-else (y ∷ xs) zero (suc m) x h = refl
set-else (y ∷ xs) (suc k) zero x h = refl
set-else (y ∷ xs) (suc k) (suc m) x h = set-else xs k m x (λ e. h (ap suc e))

module _ (j : Task) (task : IsTask j) where
  abbrev S : Type 0
  S = State Instance Value Deposit

  -- one instance more: its evaluation alone changes values and rooms
  values-more : (s : S) (i k : Instance) → (fold (after (machine j)) s (items_for j i)).values k ≡ (if same_instance i k then Some (gives j i s.values (s.rooms (home j i))).0 else s.values k)
  values-more s i k = go (contains i.0 j.nodes)
    where
      go : (b : Bool) → (fold (after (machine j)) s (if b then eval_of i ∷ put_of i ∷ [] else eval_of i ∷ [])).values k ≡ (if same_instance i k then Some (gives j i s.values (s.rooms (home j i))).0 else s.values k)
      go true = refl
      go false = refl

  rooms-more : (s : S) (i : Instance) (r : ℕ) → (fold (after (machine j)) s (items_for j i)).rooms r ≡ (if home j i == r then (gives j i s.values (s.rooms (home j i))).1 else s.rooms r)
  rooms-more s i r = go (contains i.0 j.nodes)
    where
      go : (b : Bool) → (fold (after (machine j)) s (if b then eval_of i ∷ put_of i ∷ [] else eval_of i ∷ [])).rooms r ≡ (if home j i == r then (gives j i s.values (s.rooms (home j i))).1 else s.rooms r)
      go true = refl
      go false = refl

  behind-more : (front : List Instance) (i : Instance) → behind j (front ++ i ∷ []) ≡ fold (after (machine j)) (behind j front) (items_for j i)
  behind-more front i =
      ap (fold (after (machine j)) opening) (flat_map-append (items_for j) front (i ∷ []) ∙ ap (λ l. flat_map (items_for j) front ++ l) (alone (items_for j i)))
      ∙ fold-append (after (machine j)) opening (flat_map (items_for j) front) (items_for j i)
    where
      alone : {A : Type 0} (xs : List A) → xs ++ [] ≡ xs
      alone [] = refl
      alone (x ∷ xs) = ap (λ l. x ∷ l) (alone xs)

  among-whole : (front left : List Instance) (i : Instance) → instances_in_order j ≡ front ++ left → Contains (front ++ left) i → IsInstance j.symbols j.rules j.flat i
  among-whole front left i e m = ((in-order j task).instances i).0 (subst (λ l. Contains l i) (sym e) m)

  -- What an evaluation gives by the values that the list has, it gives in the machine's state.
  pub given-same : (front left : List Instance) (i : Instance) (values : List Value) → instances_in_order j ≡ front ++ i ∷ left → ((d : Instance) → Contains front d → found j values d ≡ (behind j front).values d)
      → (room : List Deposit) → gives j i (found j values) room ≡ gives j i (behind j front).values room
  given-same front left i values whole stored room =
      (sound j task).asks i (found j values) (behind j front).values room
      (λ d need. stored d ((in-order j task).behind front left i d whole (need-order j task (grown j task) (in-order j task) i d need)))

  module _ (front left : List Instance) (i : Instance) (c : Computation) (r : ℕ) (values next : List Value) (rooms others : List RoomState) (room new : RoomState) (v : Value)
      (before : IsBehind j front (i ∷ left) values rooms)
      (is : computation_of j i ≡ Some c) (at : region j.flat j.nodes c.0 ≡ r)
      (there : slice_get rooms r ≡ Some room)
      (exact : (v, new.deposits) ≡ outcome j room.number (found j values) room.deposits (Some c))
      (number : new.number ≡ room.number) (space : room.space ≤ new.space + cells c.2.value)
      (written : next ≡ set values (slot j i) v) (kept : others ≡ set rooms r new) where
    of-room : IsRoomOf j front (i ∷ left) r room
    of-room = before.each_room r room there

    home-here : home j i ≡ r
    home-here = ap (λ (o : Option Computation). elim o [ None ↦ 0 | Some c ↦ region j.flat j.nodes c.0 ]) is ∙ at

    -- what is given is what the machine gives
    gave : (v, new.deposits) ≡ gives j i (behind j front).values ((behind j front).rooms (home j i))
    gave =
        exact
        ∙ (λ x. outcome j ((of-room.number ∙ sym home-here) x) (found j values) ((of-room.deposits ∙ ap (behind j front).rooms (sym home-here)) x) (sym is x))
        ∙ given-same front left i values before.whole before.stored ((behind j front).rooms (home j i))

    is-i : IsInstance j.symbols j.rules j.flat i
    is-i = among-whole front (i ∷ left) i before.whole (split-among front left i)

    value-of : (k : Instance) → (behind j (front ++ i ∷ [])).values k ≡ (if same_instance i k then Some v else (behind j front).values k)
    value-of k =
        ap (λ (s : S). s.values k) (behind-more front i) ∙ values-more (behind j front) i k
        ∙ ap (λ (w : Value × List Deposit). if same_instance i k then Some w.0 else (behind j front).values k) (sym gave)

    room-of : (q : ℕ) → (behind j (front ++ i ∷ [])).rooms q ≡ (if home j i == q then new.deposits else (behind j front).rooms q)
    room-of q =
        ap (λ (s : S). s.rooms q) (behind-more front i) ∙ rooms-more (behind j front) i q
        ∙ ap (λ (w : Value × List Deposit). if home j i == q then w.1 else (behind j front).rooms q) (sym gave)

    new-stored : (k : Instance) → Contains (front ++ i ∷ []) k → found j next k ≡ (behind j (front ++ i ∷ [])).values k
    new-stored k m = go (either-of front m)
      where
        either-of : (xs : List Instance) → Contains (xs ++ i ∷ []) k → Contains xs k ⊎ (i ≡ k)
        either-of [] n = elim (contains-cons i k [] n) [ inl e ↦ inr e | inr z ↦ absurd (contains-nil k z) ]
        either-of (x ∷ xs) n = more (contains-cons x k (xs ++ i ∷ []) n) (either-of xs)
          where
            more : (x ≡ k) ⊎ Contains (xs ++ i ∷ []) k → (Contains (xs ++ i ∷ []) k → Contains xs k ⊎ (i ≡ k)) → Contains (x ∷ xs) k ⊎ (i ≡ k)
            more (inl e) rec = inl (subst (λ z. Contains (x ∷ xs) z) e (contains-first x xs))
            more (inr n) rec = elim (rec n) [ inl a ↦ inl (contains-later x k xs a) | inr b ↦ inr b ]

        same : i ≡ k → found j next k ≡ (behind j (front ++ i ∷ [])).values k
        same e =
            let inside = slot-inside j task i is-i in
            let many = before.many in
            let here : slice_get next (slot j i) ≡ Some v = ap (λ l. slice_get l (slot j i)) written ∙ set-here values (slot j i) v (omega (arith, inside, many)) in
            subst (λ z. found j next z ≡ (behind j (front ++ i ∷ [])).values z) e (here ∙ sym (value-of i ∙ ap (λ (b : Bool). if b then Some v else (behind j front).values i) (is-same j i i refl)))

        go : Contains front k ⊎ (i ≡ k) → found j next k ≡ (behind j (front ++ i ∷ [])).values k
        go (inr e) = same e
        go (inl n) = elim (cases_Bool (same_instance i k)) [
          | inl e ↦ same (same-is j i k e)
          | inr e ↦
              let is-k = among-whole front (i ∷ left) k before.whole (Contains-append_left front (i ∷ left) k n) in
              let apart : slot j i ≡ slot j k → ⊥ = λ f. differ (is-same j i k (slot-apart j task i k is-i is-k f)) e in
              ap (λ l. slice_get l (slot j k)) written ∙ set-else values (slot j i) (slot j k) v apart ∙ before.stored k n
              ∙ sym (value-of k ∙ ap (λ (b : Bool). if b then Some v else (behind j front).values k) e)
        ]
          where
            differ : {b : Bool} → b ≡ true → b ≡ false → ⊥
            differ f g = cc

    cost-here : cost_in j r i ≡ cells c.2.value
    cost-here =
        ap (λ (o : Option Computation). elim o [ None ↦ 0 | Some c ↦ (if region j.flat j.nodes c.0 == r then cells c.2.value else 0) ]) is
        ∙ ap (λ (b : Bool). if b then cells c.2.value else 0) (eq-eqb (region j.flat j.nodes c.0) r at)

    new-room : (q : ℕ) (x : RoomState) → slice_get others q ≡ Some x → IsRoomOf j (front ++ i ∷ []) left q x
    new-room q x e = elim (cases_Bool (r == q)) [
      | inl s ↦
          let same : r ≡ q = eqb-true r q s in
          let w = slice_get_within rooms r room there in
          let is-new : new ≡ x = held (sym (set-here rooms r new w) ∙ ap (λ l. slice_get l r) (sym kept) ∙ ap (slice_get others) same ∙ e) in
          let cost = cost-here in let d = sum_by-cons (cost_in j r) i left in let sp = of-room.space in
          let few : sum_by (cost_in j r) left ≤ new.space = omega (arith, cost, d, sp, space) in
          subst (λ m. IsRoomOf j (front ++ i ∷ []) left m x) same (subst (λ z. IsRoomOf j (front ++ i ∷ []) left r z) is-new (record {
            number = number ∙ of-room.number;
            deposits = sym (room-of r ∙ ap (λ (b : Bool). if b then new.deposits else (behind j front).rooms r) (eq-eqb (home j i) r home-here));
            space = few;
          }))
      | inr s ↦
          let other : r ≡ q → ⊥ = λ f. differ (eq-eqb r q f) s in
          let old = before.each_room q x (sym (set-else rooms r q new other) ∙ ap (λ l. slice_get l q) (sym kept) ∙ e) in
          let d = sum_by-cons (cost_in j q) i left in let sp = old.space in
          record {
            number = old.number;
            deposits = old.deposits ∙ sym (room-of q ∙ ap (λ (b : Bool). if b then new.deposits else (behind j front).rooms q) (ap (λ m. m == q) home-here ∙ s));
            space = omega (arith, d, sp);
          }
    ]
      where
        differ : {b : Bool} → b ≡ true → b ≡ false → ⊥
        differ f g = cc

    -- one evaluation leads one instance further
    pub evaluated : IsBehind j (front ++ i ∷ []) left next others
    evaluated = record {
      whole = before.whole ∙ sym (append_assoc front (i ∷ []) left);
      many = ap length written ∙ length-set values (slot j i) v ∙ before.many;
      stored = new-stored;
      count = ap length kept ∙ length-set rooms r new ∙ before.count;
      each_room = new-room;
    }

  -- the computation of an instance is that of the site's rule with its goal
  pub computation-is : (i : Instance) (n : ℕ) (o : Occ) → IsSite j.symbols j.rules j.flat i n o → (r : FlatRule) → HasRule j.rules j.flat n r → (c : FlatComp) → Contains r.comps c → c.goal ≡ o → computation_of j i ≡ Some (n, r, c)
  computation-is i n o site r at c m goal =
      let is = site-instance j.symbols j.rules j.shapes j.root j.flat task.formed (grown j task) task.root_bare i n o site in
      let k = computes j task (grown j task) (in-order j task) i is in
      let of = computed j task (grown j task) (in-order j task) i k.0 k.1 in
      let other = site-of j task (grown j task) (in-order j task) i k.0 of in
      let here = one-site j.symbols j.rules j.shapes j.root j.flat task.formed (grown j task) task.root_bare i k.0.0 n k.0.2.goal o other site in
      let rule : k.0.1 ≡ r = one-rule j.rules j.flat n k.0.1 r (subst (λ z. HasRule j.rules j.flat z k.0.1) here.0 of.at) at in
      let comp : k.0.2 ≡ c = one-comp r.comps k.0.2 c (is-rule j.symbols j.rules j.shapes j.root j.flat task.formed (grown j task) task.root_bare n r at).once (subst (λ (z : FlatRule). Contains z.comps k.0.2) rule of.comp) m (here.1 ∙ sym goal) in
      k.1 ∙ (λ x. Some (here.0 x, rule x, comp x))

  -- the rule has a computation of the goal
  pub goal-there : (i : Instance) (n : ℕ) (o : Occ) → IsSite j.symbols j.rules j.flat i n o → (r : FlatRule) → HasRule j.rules j.flat n r → Contains (goals_of r) o
  goal-there i n o site r at = subst (λ (z : FlatRule). Contains (goals_of z) o) (one-rule j.rules j.flat n site.rule r site.at at) site.goal

  pub site-is : (i : Instance) (n : ℕ) (o : Occ) → IsSite j.symbols j.rules j.flat i n o → IsInstance j.symbols j.rules j.flat i
  site-is i n o site = site-instance j.symbols j.rules j.shapes j.root j.flat task.formed (grown j task) task.root_bare i n o site

  pub site-inside : (i : Instance) (n : ℕ) (o : Occ) → IsSite j.symbols j.rules j.flat i n o → n < length j.flat
  site-inside i n o site = inside j.symbols j.rules j.shapes j.root j.flat task.formed (grown j task) task.root_bare n site.rule site.at

  -- A run begins with empty rooms, and no value counts.
  pub begun : (values : List Value) (rooms : List RoomState) → length values ≡ offset j (length j.flat) → rooms ≡ empty_rooms j → IsBehind j [] (instances_in_order j) values rooms
  begun values rooms many is = record {
    whole = refl;
    many = many;
    stored = λ i m. absurd (contains-nil i m);
    count = ap length is ∙ length-map-range_with_len (empty_room j) 0 (suc (length j.nodes));
    each_room = λ r room e.
        let f = sym (ap (λ l. slice_get l r) is) ∙ e in
        let w = slice_get_within (empty_rooms j) r room f in
        let l = length-map-range_with_len (empty_room j) 0 (suc (length j.nodes)) in
        let g : room ≡ empty_room j r = sym (get_or_from_slice_get (empty_rooms j) r room room f) ∙ get_or-map-range_with_len (empty_room j) 0 (suc (length j.nodes)) r r room (omega (arith, w, l)) (omega arith) in
        subst (λ x. IsRoomOf j [] (instances_in_order j) r x) (sym g) (record { number = refl; deposits = refl; space = enough j task r });
  }

  -- behind all instances stands the final state
  pub ended : (front : List Instance) (values : List Value) (rooms : List RoomState) → IsBehind j front [] values rooms → AreFinal j values rooms
  ended front values rooms b = record {
    many = b.many;
    stored = λ i is. subst (λ l. found j values i ≡ (behind j l).values i) same (b.stored i (subst (λ l. Contains l i) (sym same) (((in-order j task).instances i).1 is)));
    each_room = fill (λ (room : RoomState). room.number) (λ r. r) (λ r room e. (b.each_room r room e).number) ∙ plain 0 (suc (length j.nodes));
    deposits = fill (λ (room : RoomState). room.deposits) (final (machine j)).rooms (λ r room e. (b.each_room r room e).deposits ∙ ap (λ l. (behind j l).rooms r) same);
  }
    where
      nothing : {A : Type 0} (xs : List A) → xs ++ [] ≡ xs
      nothing [] = refl
      nothing (x ∷ xs) = ap (λ l. x ∷ l) (nothing xs)

      same : front ≡ instances_in_order j
      same = sym (b.whole ∙ nothing front)

      plain : (a n : ℕ) → map (λ r. r) (range_with_len a n) ≡ range_with_len a n
      plain a zero = refl
      plain a (suc n) = ap (λ l. a ∷ l) (plain (a + 1) n)

      fill : {A : Type 0} (f : RoomState → A) (g : ℕ → A) → ((r : ℕ) (room : RoomState) → slice_get rooms r ≡ Some room → f room ≡ g r) → map f rooms ≡ map g (range_with_len 0 (suc (length j.nodes)))
      fill f g h = along f g 0 rooms (λ k room e. let n : 0 + k ≡ k = omega arith in h k room e ∙ ap g (sym n)) ∙ ap (λ n. map g (range_with_len 0 n)) b.count
        where
          along : {A : Type 0} (f : RoomState → A) (g : ℕ → A) (a : ℕ) (xs : List RoomState) → ((k : ℕ) (room : RoomState) → slice_get xs k ≡ Some room → f room ≡ g (a + k)) → map f xs ≡ map g (range_with_len a (length xs))
          along f g a [] h = refl
          along f g a (x ∷ xs) h =
              let n : a + 0 ≡ a = omega arith in
              let first = h 0 x refl ∙ ap g n in
              let rest = along f g (a + 1) xs (λ k room e. let m : a + suc k ≡ a + 1 + k = omega arith in h (suc k) room e ∙ ap g m) in
              λ i. first i ∷ rest i

  -- the node of an instance's computation is that of its site
  computation-node : (i : Instance) (n : ℕ) (o : Occ) → IsSite j.symbols j.rules j.flat i n o → (c : Computation) → computation_of j i ≡ Some c → c.0 ≡ n
  computation-node i n o site c is =
      let of = computed j task (grown j task) (in-order j task) i c is in
      let other = site-of j task (grown j task) (in-order j task) i c of in
      (one-site j.symbols j.rules j.shapes j.root j.flat task.formed (grown j task) task.root_bare i c.0 n c.2.goal o other site).0

  module _ (front left : List Instance) (i : Instance) (n : ℕ) (o : Occ) (site : IsSite j.symbols j.rules j.flat i n o) (values : List Value) (rooms : List RoomState) (before : IsBehind j front (i ∷ left) values rooms) where
    pub room-there : region j.flat j.nodes n < length rooms
    room-there = let a = region-few j.flat j.nodes n in let b = before.count in omega (arith, a, b)

    pub room-enough : (c : Computation) → computation_of j i ≡ Some c → (room : RoomState) → slice_get rooms (region j.flat j.nodes n) ≡ Some room → cells c.2.value ≤ room.space
    room-enough c is room there =
        let node = computation-node i n o site c is in
        let cost : cost_in j (region j.flat j.nodes n) i ≡ cells c.2.value =
        ap (λ (x : Option Computation). elim x [ None ↦ 0 | Some c ↦ (if region j.flat j.nodes c.0 == region j.flat j.nodes n then cells c.2.value else 0) ]) is
        ∙ ap (λ (b : Bool). if b then cells c.2.value else 0) (eq-eqb (region j.flat j.nodes c.0) (region j.flat j.nodes n) (ap (region j.flat j.nodes) node)) in
        let d = sum_by-cons (cost_in j (region j.flat j.nodes n)) i left in
        let s = (before.each_room (region j.flat j.nodes n) room there).space in
        omega (arith, cost, d, s)

    pub next-behind : (next : List Value) (others : List RoomState) (room new : RoomState) (v : Value) → slice_get rooms (region j.flat j.nodes n) ≡ Some room
        → ((c : Computation) → computation_of j i ≡ Some c → (v, new.deposits) ≡ outcome j room.number (found j values) room.deposits (Some c))
        → new.number ≡ room.number → ((c : Computation) → computation_of j i ≡ Some c → room.space ≤ new.space + cells c.2.value)
        → next ≡ set values (slot j i) v → others ≡ set rooms (region j.flat j.nodes n) new → IsBehind j (front ++ i ∷ []) left next others
    next-behind next others room new v there exact number space written kept =
        let is = site-instance j.symbols j.rules j.shapes j.root j.flat task.formed (grown j task) task.root_bare i n o site in
        let k = computes j task (grown j task) (in-order j task) i is in
        evaluated front left i k.0 (region j.flat j.nodes n) values next rooms others room new v before k.1 (ap (region j.flat j.nodes) (computation-node i n o site k.0 k.1)) there
        (exact k.0 k.1) number (space k.0 k.1) written kept

-- What a cursor of the whole order stands at.
module _ (j : Task) where
  pub first-is : (rest : List Instance) (n : NodeId) (o : Occ) → IsFirst (undivided j) (map eval_of rest) (Some (named.Eval n o))
      → (more : List Instance) × (rest ≡ instance_at j.flat n.0 o ∷ more) × IsSite j.symbols j.rules j.flat (instance_at j.flat n.0 o) n.0 o
  first-is [] n o h = absurd h
  first-is (i ∷ rest) n o (e, site) = (rest, ap (λ (x : Item Instance). x.makes ∷ rest) e, site)

  pub no-put : (rest : List Instance) (key : ℕ) → IsFirst (undivided j) (map eval_of rest) (Some (named.Put key)) → ⊥
  no-put [] key h = h
  no-put (i ∷ rest) key h = true≢false (sym (ap (λ (x : Item Instance). x.is_put) h.0))

  pub none-left : (rest : List Instance) → IsFirst (undivided j) (map eval_of rest) None → rest ≡ []
  none-left [] h = refl
  none-left (i ∷ rest) h = absurd h

  -- the same, where the cursor's list is known
  pub first-of : (t : Task) (cursor : CursorState) (item : Named) (rest : List Instance) (n : NodeId) (o : Occ) → t ≡ undivided j → left (undivided j) cursor ≡ map eval_of rest
      → IsFirst t (left t cursor) (Some item) → item ≡ named.Eval n o → (more : List Instance) × (rest ≡ instance_at j.flat n.0 o ∷ more) × IsSite j.symbols j.rules j.flat (instance_at j.flat n.0 o) n.0 o
  first-of t cursor item rest n o is list first name =
      first-is rest n o (subst (λ x. IsFirst (undivided j) (map eval_of rest) (Some x)) name (subst (λ l. IsFirst (undivided j) l (Some item)) list (subst (λ z. IsFirst z (left z cursor) (Some item)) is first)))

  pub never-put : (t : Task) (cursor : CursorState) (item : Named) (rest : List Instance) (key : ℕ) → t ≡ undivided j → left (undivided j) cursor ≡ map eval_of rest
      → IsFirst t (left t cursor) (Some item) → item ≡ named.Put key → ⊥
  never-put t cursor item rest key is list first name =
      no-put rest key (subst (λ x. IsFirst (undivided j) (map eval_of rest) (Some x)) name (subst (λ l. IsFirst (undivided j) l (Some item)) list (subst (λ z. IsFirst z (left z cursor) (Some item)) is first)))

  pub none-of : (t : Task) (cursor : CursorState) (rest : List Instance) → t ≡ undivided j → left (undivided j) cursor ≡ map eval_of rest → IsFirst t (left t cursor) None → rest ≡ []
  none-of t cursor rest is list first =
      none-left rest (subst (λ l. IsFirst (undivided j) l None) list (subst (λ z. IsFirst z (left z cursor) None) is first))

  -- the cursor goes one further
  pub step-list : (t : Task) (old new : CursorState) (rest more : List Instance) (i : Instance) → t ≡ undivided j → left (undivided j) old ≡ map eval_of rest → rest ≡ i ∷ more
      → left t new ≡ drop 1 (left t old) → left (undivided j) new ≡ map eval_of more
  step-list t old new rest more i is list split step =
      subst (λ z. left z new ≡ drop 1 (left z old)) is step ∙ ap (drop 1) list ∙ ap (λ (l : List Instance). drop 1 (map eval_of l)) split
