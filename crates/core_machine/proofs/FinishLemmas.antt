-- The result of a run, from its values and rooms.
use Rattle.std.specs.Prelude.{slice_get, Contains, AllPairs, option_and_then}
use Rattle.std.specs.List.{AllZip}
use Rattle.std.proofs.Common.{◌≡◌, ◌<◌, ◌+◌, ◌-◌, ℕ, List, [], ◌∷◌, map, length, Option, Some, None, refl, arith, ap, sym, subst, ◌∙◌, get_or}
use Rattle.std.proofs.lemmas.List.{get_or-map, length-map}
use Rattle.std.proofs.lemmas.Option.{slice_get-get_or, slice_get_within, none-some}
use Rattle.lido_base.specs.declared.value.Value.{Value}
use Rattle.lido_base.specs.declared.value.Origin.{Origin}
use Rattle.lido_base.proofs.Lists.{contains-map, map-contains}
use Rattle.string_librarian.specs.Rooms.{RoomState}
use Rattle.flat_grammar.specs.declared.flat.FlatAttr.{FlatAttr}
use Rattle.flat_grammar.specs.declared.flat.FlatSymbol.{FlatSymbol}
use Rattle.flat_grammar.specs.declared.flat.FlatRule.{FlatRule}
use Rattle.flat_grammar.specs.Rules.{attrs_of, HasRule}
use Rattle.flat_grammar.proofs.Lists.{contains-first, contains-later}
use Rattle.core_machine.specs.declared.notes.Entry.{Entry}
use Rattle.core_machine.specs.Machine.{final}
use Rattle.core_machine.specs.Core.{Task, IsTask, Note, IsEarlier, IsMessage, Tells, AreNotes, IsResult, machine, out}
use Rattle.core_machine.specs.Slots.{found, offset}
use Rattle.core_machine.specs.Faults.{IsLeast, IsFaultBefore}
use Rattle.core_machine.specs.Notes.{instance_of, note_of, IsEntry, AreAllEntries}
use Rattle.core_machine.specs.Runs.{AreFinal}
use Rattle.core_machine.specs.Whole.{undivided}
use Rattle.core_machine.proofs.Jobs.{grown}
use Rattle.core_machine.proofs.SiteLemmas.{attributes-count}
use Rattle.core_machine.proofs.SlotLemmas.{place-inside}
use Rattle.core_machine.proofs.FaultLemmas.{least-shown}

pairs-map : {A B : Type 0} (f : A → B) (R : B → B → Type 0) (xs : List A) → A → AllPairs (λ x y. R (f x) (f y)) xs → AllPairs R (map f xs)
pairs-map f R xs any pairs i k d l h =
    let n = length-map xs f in
    let low : k < length xs = omega (arith, h, n) in
    subst (λ x. R x (get_or (map f xs) k d)) (sym (get_or-map f xs i any d (omega (arith, l, low)))) (subst (λ y. R (f (get_or xs i any)) y) (sym (get_or-map f xs k any d low)) (pairs i k any l low))

zip-map : {A B C : Type 0} (f : A → B) (g : A → C) (R : B → C → Type 0) (xs : List A) → ((x : A) → Contains xs x → R (f x) (g x)) → AllZip R (map f xs) (map g xs)
zip-map f g R [] h = tt
zip-map f g R (x ∷ xs) h = (h x (contains-first x xs), zip-map f g R xs (λ y m. h y (contains-later x y xs m)))

module _ (j : Task) (task : IsTask j) where
  -- the root's last attribute
  pub out-inside : (n : ℕ) → n ≡ length (attrs_of j.symbols j.root) → 0 < n
  out-inside n e = go (slice_get j.symbols j.root.0) refl
    where
      attr : FlatAttr
      attr = task.root_out.0

      go : (o : Option FlatSymbol) → slice_get j.symbols j.root.0 ≡ o → 0 < n
      go None f = absurd (none-some _ (ap (λ x. option_and_then (λ (y : FlatSymbol). slice_get y.attrs (out j)) x) (sym f) ∙ task.root_out.1))
      go (Some x) f =
          let there : slice_get x.attrs (out j) ≡ Some attr = ap (λ o. option_and_then (λ (y : FlatSymbol). slice_get y.attrs (out j)) o) (sym f) ∙ task.root_out.1 in
          let w = slice_get_within x.attrs (out j) attr there in
          let same : length (attrs_of j.symbols j.root) ≡ length x.attrs = ap (λ (o : Option FlatSymbol). length (elim o as (λ (z : Option FlatSymbol). List FlatAttr) [ None ↦ [] | Some x ↦ x.attrs ])) f in
          omega (arith, w, same, e)

  pub root-attributes : (xs : List FlatAttr) → ((r : FlatRule) → HasRule j.rules j.flat 0 r → xs ≡ attrs_of j.symbols r.left) → xs ≡ attrs_of j.symbols j.root
  root-attributes xs h = let r = (grown j task).root_node in h r.0 r.1 ∙ ap (attrs_of j.symbols) r.2

  -- the place of the root's last attribute
  pub root-place : (xs : List FlatAttr) → ((r : FlatRule) → HasRule j.rules j.flat 0 r → xs ≡ attrs_of j.symbols r.left) → (0 < length xs) × (length xs - 1 ≡ out j) × (length xs - 1 < offset j (length j.flat))
  root-place xs h =
      let e = ap length (root-attributes xs h) in
      let f = out-inside (length xs) e in
      let n = (grown j task).tree.has_root in
      let w = attributes-count j task 0 xs n h in
      let p = place-inside j task 0 (length xs - 1) n (omega (arith, f, w)) in
      (f, omega (arith, e), omega (arith, p.0))

  module _ (values : List Value) (rooms : List RoomState) (last : AreFinal j values rooms) where
    told : (e : Entry) → IsEntry j values e → Tells j (final (machine j)) (instance_of e) (note_of e)
    told e is = (is.written, sym (last.stored (instance_of e) (let m = is.message in (m.0, m.2, slice_get_within (attrs_of j.symbols m.0.left) e.attr m.1 m.3))) ∙ is.stored, is.some)

    notes : (entries : List Entry) → AreAllEntries j values entries → AreNotes j (final (machine j)) (map note_of entries)
    notes entries all = record {
      sources = map instance_of entries;
      exactly = λ i. (
        λ m. let p = contains-map instance_of entries i m in
            subst (λ k. IsMessage j k × (note : Note) × Tells j (final (machine j)) k note) p.2 ((all.sound p.0 p.1).message, note_of p.0, told p.0 (all.sound p.0 p.1)),
        λ h. let m = h.0 in
            let stored = last.stored i (m.0, m.2, slice_get_within (attrs_of j.symbols m.0.left) i.1 m.1 m.3) in
            let p = all.all i h.1.text h.0 (stored ∙ h.2.1) h.2.2 in
            subst (Contains (map instance_of entries)) p.2 (map-contains instance_of entries p.0 p.1),
      );
      ordered = pairs-map instance_of (IsEarlier j) entries (record { written = 0; node = 0; attr = 0; text = record { room = 0; node = 0; len = 0 } }) all.ordered;
      tell = zip-map instance_of note_of (Tells j (final (machine j))) entries (λ e m. told e (all.sound e m));
    }

    -- what a run gives is the result of the final state
    pub result : (output : Value) (bad : Option Origin) (entries : List Entry) (list : List Note) → found j values (0, out j) ≡ Some output → IsLeast (IsFaultBefore j values (length j.flat) 0) bad
        → AreAllEntries j values entries → list ≡ map note_of entries → IsResult j (final (machine j)) output bad list rooms
    result output bad entries list value least all is =
        let r = (grown j task).root_node in
        let few = out-inside (length (attrs_of j.symbols j.root)) refl in
        let low : length (attrs_of j.symbols j.root) ≡ length (attrs_of j.symbols r.0.left) = ap (λ s. length (attrs_of j.symbols s)) (sym r.2) in
        let stored = last.stored (0, out j) (r.0, r.1, omega (arith, few, low)) in
        let shown = least-shown j task values (λ i q at few. last.stored i (q, at, few)) bad least in
        record {
          value = sym stored ∙ value;
          least = shown.0;
          none = shown.1;
          noted = subst (AreNotes j (final (machine j))) (sym is) (notes entries all);
          each_room = last.each_room;
          deposits = last.deposits;
        }

-- The entries of a job don't depend on how it is split.
pub undivided-entries : (j : Task) (values : List Value) (entries : List Entry) → AreAllEntries (undivided j) values entries → AreAllEntries j values entries
undivided-entries j values entries h = record { sound = λ e m. one e (h.sound e m); all = h.all; ordered = h.ordered }
  where
    one : (e : Entry) → IsEntry (undivided j) values e → IsEntry j values e
    one e is = record { message = is.message; stored = is.stored; some = is.some; written = is.written }

-- the first node's values begin at 0
pub first-slot : (j : Task) (n : ℕ) (values : List Value) (d : Value) → n ≡ out j → n < length values → found j values (0, out j) ≡ Some (get_or values n d)
first-slot j n values d e h = let zero-on : offset j 0 + out j ≡ n = omega (arith, e) in ap (slice_get values) zero-on ∙ slice_get-get_or values n d h
