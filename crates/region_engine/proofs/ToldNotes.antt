-- The notes that the messages of a job tell in the end.
use Rattle.std.specs.Prelude.{map, filter, is_some, nat_lt, option_and_then, if◌then◌else◌, Contains, AllPairs}
use Rattle.std.specs.List.{AllZip, filter_map}
use Rattle.std.proofs.lemmas.Bool.{lt-ltb}
use Rattle.std.proofs.lemmas.List.{get_or-map, length-map, take_more}
use Rattle.std.proofs.lemmas.List.Elements.{Contains-get_or, filter_map-append}
use Rattle.std.proofs.lemmas.List.Kept.{AllPairs-filter}
use Rattle.std.proofs.lemmas.Option.{none-some}
use Rattle.std.proofs.Common.{◌≡◌, ◌<◌, ◌+◌, ℕ, Bool, true, false, List, [], ◌∷◌, ◌++◌, append-nil, length}
use Rattle.std.proofs.Common.{take, Option, Some, None, refl, arith, ap, sym, subst, ◌∙◌, get_or, ltb-true, inl, inr}
use Rattle.lido_base.specs.declared.value.Value.{Value}
use Rattle.lido_base.specs.declared.value.Value.TheVariants as value
use Rattle.lido_base.proofs.Lists.{contains-map, contains-nil, contains-cons, map-contains}
use Rattle.flat_grammar.proofs.Lists.{held, contains-first, contains-later}
use Rattle.core_machine.specs.declared.finished.Note.{Note}
use Rattle.core_machine.specs.Machine.{final}
use Rattle.core_machine.specs.Core.{Task, IsEarlier, IsMessage, Tells, AreNotes, machine, written_at}
use Rattle.core_machine.proofs.CursorPaths.{filter-keeps}
use Rattle.region_engine.specs.declared.notebook.Message.{Message}
use Rattle.region_engine.specs.Notebooks.{instance_of, note_of, told, IsListed, AreMessages}

-- what gives something, and what it gives
given-zip : {A B C : Type 0} (f : A → Option B) (g : A → C) (R : C → B → Type 0) (xs : List A) → ((x : A) (b : B) → Contains xs x → f x ≡ Some b → R (g x) b)
    → AllZip R (map g (filter (λ x. is_some (f x)) xs)) (filter_map f xs)
given-zip f g R [] h = tt
given-zip {A} {B} f g R (x ∷ xs) h = go (f x) refl (given-zip f g R xs (λ y b m. h y b (contains-later x y xs m)))
  where
    go : (o : Option B) → f x ≡ o → AllZip R (map g (filter (λ x. is_some (f x)) xs)) (filter_map f xs)
        → AllZip R (map g (filter (λ x. is_some (f x)) (x ∷ xs))) (filter_map f (x ∷ xs))
    go None e rest = rw e rest
    go (Some b) e rest = rw e (h x b (contains-first x xs) e, rest)

-- what a filter keeps was there
kept-before : {A : Type 0} (p : A → Bool) (xs : List A) (x : A) → Contains (filter p xs) x → Contains xs x × (p x ≡ true)
kept-before p [] x m = absurd (contains-nil x m)
kept-before p (y ∷ xs) x m = go (p y) refl m (kept-before p xs x)
  where
    go : (b : Bool) → p y ≡ b → Contains (if b then y ∷ filter p xs else filter p xs) x → (Contains (filter p xs) x → Contains xs x × (p x ≡ true))
        → Contains (y ∷ xs) x × (p x ≡ true)
    go true e n rest = elim (contains-cons y x (filter p xs) n) [
      | inl same ↦ (subst (Contains (y ∷ xs)) same (contains-first y xs), ap p (sym same) ∙ e)
      | inr later ↦ (let r = rest later in (contains-later y x xs r.0, r.1))
    ]
    go false e n rest = let r = rest n in (contains-later y x xs r.0, r.1)

module _ (j : Task) where
  -- what a note tells of a message, and what of it is told
  tells : (m : Message) (note : Note) → m.written ≡ written_at j m.node → told j m ≡ Some note → Tells j (final (machine j)) (instance_of m) note
  tells m note is e = go ((final (machine j)).values (instance_of m)) refl e
    where
      go : (o : Option Value) → (final (machine j)).values (instance_of m) ≡ o → option_and_then (note_of m) o ≡ Some note
          → Tells j (final (machine j)) (instance_of m) note
      go None f h = absurd (none-some _ h)
      go (Some (value.Text d)) f h = long (nat_lt 0 d.len) refl h
        where
          long : (b : Bool) → nat_lt 0 d.len ≡ b → (if b then Some (record { node = m.written; text = d }) else None) ≡ Some note
              → Tells j (final (machine j)) (instance_of m) note
          long true l k =
              let same : record { node = m.written; text = d } ≡ note = held k in (
                sym (ap (λ (z : Note). z.node) same) ∙ is,
                f ∙ ap (λ (z : Note). Some (value.Text z.text)) same,
                subst (λ (z : Note). 0 < z.text.len) same
                    (ltb-true 0 d.len l),
              )
          long false l k = absurd (none-some _ k)
      go (Some (value.Int z)) f h = absurd (none-some _ h)
      go (Some (value.Bool z)) f h = absurd (none-some _ h)
      go (Some (value.Str z)) f h = absurd (none-some _ h)
      go (Some (value.Bad z)) f h = absurd (none-some _ h)
      go (Some value.Void) f h = absurd (none-some _ h)

  told-some : (m : Message) (note : Note) → Tells j (final (machine j)) (instance_of m) note → is_some (told j m) ≡ true
  told-some m note t = ap (λ o. is_some (option_and_then (note_of m) o)) t.1
      ∙ ap (λ (b : Bool). is_some {T = Note} (if b then Some (record { node = m.written; text = note.text }) else None)) (lt-ltb 0 note.text.len t.2)

  some-told : (m : Message) → is_some (told j m) ≡ true → (note : Note) × (told j m ≡ Some note)
  some-told m e = go (told j m) refl e
    where
      go : (o : Option Note) → told j m ≡ o → is_some o ≡ true → (note : Note) × (told j m ≡ Some note)
      go None f h = let z : false ≡ true = h in absurd (cc)
      go (Some note) f h = (note, f)

  -- one message more
  module _ (items : List Message) (k : ℕ) (d : Message) (low : k < length items) (notes : List Note) (so-far : notes ≡ filter_map (told j) (take k items))
      (o : Option Note) (is : o ≡ told j (get_or items k d)) where
    next : filter_map (told j) (take (k + 1) items) ≡ notes ++ filter_map (told j) (get_or items k d ∷ [])
    next = ap (filter_map (told j)) (take_more items k d low) ∙ filter_map-append (told j) (take k items) (get_or items k d ∷ [])
        ∙ ap (λ l. l ++ filter_map (told j) (get_or items k d ∷ [])) (sym so-far)

    one : (p : Option Note) → told j (get_or items k d) ≡ p → filter_map (told j) (get_or items k d ∷ []) ≡ elim p [ None ↦ [] | Some note ↦ note ∷ [] ]
    one None e = rw e refl
    one (Some note) e = rw e refl

    pub told-push : (note : Note) → o ≡ Some note → (after : List Note) → after ≡ notes ++ note ∷ [] → after ≡ filter_map (told j) (take (k + 1) items)
    told-push note e after push = push ∙ ap (λ l. notes ++ l) (sym (one (Some note) (sym is ∙ e))) ∙ sym next

    pub told-skip : o ≡ None → notes ≡ filter_map (told j) (take (k + 1) items)
    told-skip e = sym (append-nil notes) ∙ ap (λ l. notes ++ l) (sym (one None (sym is ∙ e))) ∙ sym next

  module _ (list : List Message) (are : AreMessages j list) where
    -- what stands in the list is one of the messages
    pub listed-at : (items : List Message) → items ≡ list → (k : ℕ) (d : Message) → k < length items → IsListed j (get_or items k d)
    listed-at items e k d h = are.sound (get_or items k d) (subst (λ l. Contains l (get_or items k d)) e (Contains-get_or items k d h))

    abbrev tellers : List Message
    tellers = filter (λ m. is_some (told j m)) list

    ordered : AllPairs (IsEarlier j) (map instance_of tellers)
    ordered i k d l h =
        let any : Message = record { written = 0; node = 0; attr = 0 } in
        let n = length-map tellers instance_of in
        let low : k < length tellers = omega (arith, h, n) in
        let pairs = AllPairs-filter (λ (m n : Message). IsEarlier j (instance_of m) (instance_of n)) (λ m. is_some (told j m)) list are.ordered in
        subst (λ x. IsEarlier j x (get_or (map instance_of tellers) k d)) (sym (get_or-map instance_of tellers i any d (omega (arith, l, low))))
        (subst (λ y. IsEarlier j (instance_of (get_or tellers i any)) y) (sym (get_or-map instance_of tellers k any d low)) (pairs i k any l low))

    -- the notes that the messages tell, in their order
    pub told-notes : (notes : List Note) → notes ≡ filter_map (told j) list → AreNotes j (final (machine j)) notes
    told-notes notes e = subst (AreNotes j (final (machine j))) (sym e) (record {
      sources = map instance_of tellers;
      exactly = λ i. (
        λ c. let p = contains-map instance_of tellers i c in
            let q = kept-before (λ m. is_some (told j m)) list p.0 p.1 in
            let s = are.sound p.0 q.0 in
            let t = some-told p.0 q.1 in
            subst (λ k. IsMessage j k × (note : Note) × Tells j (final (machine j)) k note) p.2 (s.0, t.0, tells p.0 t.0 s.1 t.1),
        λ h. let p = are.all i h.0 in
            let t = subst (λ k. Tells j (final (machine j)) k h.1) (sym p.2) h.2 in
            subst (Contains (map instance_of tellers)) p.2 (map-contains instance_of tellers p.0
            (filter-keeps (λ m. is_some (told j m)) list p.0 p.1 (told-some p.0 h.1 t))),
      );
      ordered = ordered;
      tell = given-zip (told j) instance_of (Tells j (final (machine j))) list (λ m note c t. tells m note (are.sound m c).1 t);
    })
