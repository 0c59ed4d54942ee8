-- A key that is delivered to a region.
use Rattle.std.specs.Prelude.{Contains, slice_get, take, drop, if◌then◌else◌}
use Rattle.std.proofs.lemmas.List.{length-set, take-append-drop}
use Rattle.std.proofs.lemmas.List.Elements.{Contains-append_left}
use Rattle.std.proofs.lemmas.Bool.{cases_Bool}
use Rattle.std.proofs.Common.{◌≡◌, ◌<◌, ◌+◌, ℕ, true, length, Some, ap, sym, ◌∙◌, subst, ◌⊎◌, inl, inr}
use mathlib.Core.Logic.{dite}
use native.Mathlib.Decide.{ℕ_discrete}
use Rattle.lido_base.specs.Tree.{contains}
use Rattle.lido_base.specs.declared.value.Value.{Value}
use Rattle.string_librarian.specs.Rooms.{RoomState}
use Rattle.flat_grammar.specs.WholeOrder.{Instance}
use Rattle.flat_grammar.proofs.Lists.{held}
use Rattle.core_machine.specs.Machine.{eval_of, final}
use Rattle.core_machine.specs.Core.{Task, IsTask, items, machine}
use Rattle.core_machine.specs.Keys.{key_of, contents_of}
use Rattle.region_engine.specs.declared.marks.Mark.TheVariants.{Evaluated, Delivered}
use Rattle.region_engine.specs.declared.values.Values.{Values}
use Rattle.region_engine.specs.Behind.{list}
use Rattle.region_engine.specs.Kept.{own_offset, IsMarked, IsBehind}
use Rattle.region_engine.specs.Deliveries.{IsDeliveredTo}
use Rattle.region_engine.specs.Steps.{HasKey}
use Rattle.region_engine.proofs.Lists.{own-among}
use Rattle.region_engine.proofs.Sets.{set-here, set-else}
use Rattle.region_engine.proofs.Shared.{content-is}

module _ (j : Task) (task : IsTask j) (r n : ℕ) (v w : Values) (room : RoomState) (b : IsBehind j r n v room) (key : ℕ) (x : Value) (right : slice_get (contents_of j) key ≡ Some x)
    (inside : key < length v.shared.items) (there : key < length v.marks.items) (to : IsDeliveredTo v w key x) where
  among-items : (k : Instance) → Contains (take n (list j r)) (eval_of k) → Contains (items j) (eval_of k)
  among-items k m = (own-among j r (items j) (eval_of k) (subst (λ l. Contains l (eval_of k)) (take-append-drop n (list j r)) (Contains-append_left (take n (list j r)) (drop n (list j r)) (eval_of k) m))).0

  here : slice_get w.shared.items key ≡ slice_get (contents_of j) key
  here = ap (λ l. slice_get l key) to.shared ∙ set-here v.shared.items key x inside ∙ sym right

  other : (k : ℕ) → (key ≡ k → ⊥) → slice_get w.shared.items k ≡ slice_get v.shared.items k
  other k ne = ap (λ l. slice_get l k) to.shared ∙ set-else v.shared.items key k x ne

  mark-here : slice_get w.marks.items key ≡ Some Delivered
  mark-here = ap (λ l. slice_get l key) to.marks ∙ set-here v.marks.items key Delivered there

  mark-other : (k : ℕ) → (key ≡ k → ⊥) → slice_get w.marks.items k ≡ slice_get v.marks.items k
  mark-other k ne = ap (λ l. slice_get l k) to.marks ∙ set-else v.marks.items key k Delivered ne

  was : (k : Instance) → contains k.0 j.nodes ≡ true → Contains (take n (list j r)) (eval_of k) → slice_get w.shared.items (key_of j k) ≡ (final (machine j)).values k
  was k is m = dite (ℕ_discrete key (key_of j k))
      (λ e. subst (λ z. slice_get w.shared.items z ≡ slice_get (contents_of j) z) e here ∙ content-is j task k (among-items k m) is)
      (λ ne. other (key_of j k) ne ∙ sym (ap (λ b. if b then slice_get v.shared.items (key_of j k) else slice_get v.own.items (own_offset j r k.0 + k.1)) is) ∙ b.keeps.values k m)

  -- the region keeps what it kept, and the key's value
  pub behind-given : IsBehind j r n w room
  behind-given = record {
    region = to.region ∙ b.region;
    sized = record {
      begins = to.begins ∙ b.sized.begins;
      many = ap length to.own ∙ b.sized.many;
      keys = ap length to.shared ∙ length-set v.shared.items key x ∙ b.sized.keys;
      marks = ap length to.marks ∙ length-set v.marks.items key Delivered ∙ b.sized.marks;
    };
    keeps = record {
      values = λ k m. elim (cases_Bool (contains k.0 j.nodes)) [
        | inl is ↦ ap (λ b. if b then slice_get w.shared.items (key_of j k) else slice_get w.own.items (own_offset j r k.0 + k.1)) is ∙ was k is m
        | inr not ↦ ap (λ b. if b then slice_get w.shared.items (key_of j k) else slice_get w.own.items (own_offset j r k.0 + k.1)) not
            ∙ ap (λ l. slice_get l (own_offset j r k.0 + k.1)) to.own
            ∙ sym (ap (λ b. if b then slice_get v.shared.items (key_of j k) else slice_get v.own.items (own_offset j r k.0 + k.1)) not) ∙ b.keeps.values k m
      ];
      marked = λ k m. dite (ℕ_discrete key k)
          (λ e. subst (λ z. slice_get w.shared.items z ≡ slice_get (contents_of j) z) e here)
          (λ ne. other k ne ∙ b.keeps.marked k (m.0, sym (mark-other k ne) ∙ m.1, m.2));
      evaluated = λ k m is. let q = b.keeps.evaluated k m is in dite (ℕ_discrete key (key_of j k))
          (λ e. let M : ℕ → Type 0 = λ z. IsMarked w.marks.items z in subst M e (Delivered, mark-here, λ z. cc))
          (λ ne. (q.0, mark-other (key_of j k) ne ∙ q.1, q.2));
      owned = λ k shared e. dite (ℕ_discrete key (key_of j k))
          (λ same. let z : Delivered ≡ Evaluated = held (sym mark-here ∙ ap (slice_get w.marks.items) same ∙ e) in absurd (cc))
          (λ ne. b.keeps.owned k shared (sym (mark-other (key_of j k) ne) ∙ e));
    };
    number = b.number;
    deposits = b.deposits;
    space = b.space;
  }

  pub had-still : (k : ℕ) → HasKey v k → HasKey w k
  had-still k h = dite (ℕ_discrete key k) (λ e. let H : ℕ → Type 0 = λ z. HasKey w z in subst H e mark-here) (λ ne. mark-other k ne ∙ h)

  pub has-or-new : (k : ℕ) → HasKey w k → HasKey v k ⊎ (key ≡ k)
  has-or-new k h = dite (ℕ_discrete key k) (λ e. inr e) (λ ne. inl (sym (mark-other k ne) ∙ h))

  pub has-new : HasKey w key
  has-new = mark-here
