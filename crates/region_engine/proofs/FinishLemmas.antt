-- The result of a job whose regions have nothing left.
use Rattle.std.specs.Prelude.{slice_get, map}
use Rattle.std.proofs.Common.{◌≡◌, ◌<◌, ◌+◌, ℕ, List, length, Some, arith, ap, sym, subst, ◌∙◌, get_or}
use Rattle.std.proofs.lemmas.Option.{slice_get-get_or}
use Rattle.lido_base.specs.declared.value.Value.{Value}
use Rattle.lido_base.specs.declared.value.Origin.{Origin}
use Rattle.std.specs.Prelude.{Option}
use Rattle.string_librarian.specs.Rooms.{RoomState}
use Rattle.flat_grammar.specs.declared.flat.FlatAttr.{FlatAttr}
use Rattle.flat_grammar.specs.declared.flat.FlatRule.{FlatRule}
use Rattle.flat_grammar.specs.Rules.{attrs_of, HasRule}
use Rattle.flat_grammar.specs.Instances.{IsInstance}
use Rattle.core_machine.specs.declared.finished.Note.{Note}
use Rattle.core_machine.specs.Machine.{final}
use Rattle.core_machine.specs.Core.{Task, IsTask, AreNotes, IsResult, machine, out}
use Rattle.core_machine.specs.Faults.{fault_of, IsLeast, IsLesser, IsFaultBefore}
use Rattle.core_machine.proofs.FaultLemmas.{fault-more, least-shown}
use Rattle.core_machine.proofs.Jobs.{grown}
use Rattle.region_engine.specs.declared.region.Region.{Region}
use Rattle.region_engine.specs.Finals.{final_values}
use Rattle.region_engine.specs.Endings.{AreDone}
use Rattle.region_engine.proofs.FinalValues.{values-found}
use Rattle.region_engine.proofs.HolderLemmas.{each-number, each-deposits}

module _ (j : Task) (task : IsTask j) where
  -- an attribute of a node is an instance
  pub attribute-instance : (n k : ℕ) (items : List FlatAttr) → n < length j.flat
      → ((q : FlatRule) → HasRule j.rules j.flat n q → items ≡ attrs_of j.symbols q.left) → k < length items → IsInstance j.symbols j.rules j.flat (n, k)
  attribute-instance n k items h are low = let q = (grown j task).nodes n h in let e = ap length (are q.0 q.1) in (q.0, q.1, omega (arith, e, low))

  -- one attribute's fault more
  pub fault-step : (n k : ℕ) (items : List FlatAttr) (d : FlatAttr) (v : Value) (a b r : Option Origin) → n < length j.flat
      → ((q : FlatRule) → HasRule j.rules j.flat n q → items ≡ attrs_of j.symbols q.left)
      → k < length items → (final (machine j)).values (n, k) ≡ Some v → IsLeast (IsFaultBefore j (final_values j) n k) a → b ≡ fault_of (get_or items k d) v
      → IsLesser a b r
      → IsLeast (IsFaultBefore j (final_values j) n (k + 1)) r
  fault-step n k items d v a b r h are low value least is lesser =
      let q = (grown j task).nodes n h in
      let e = ap length (are q.0 q.1) in
      let there : slice_get (attrs_of j.symbols q.0.left) k ≡ Some (get_or items k d) = ap (λ l. slice_get l k) (sym (are q.0 q.1))
      ∙ slice_get-get_or items k d low in
      fault-more j (final_values j) n k q.0 (get_or items k d) v a r q.1 there (values-found j task (n, k) q.0 q.1 (omega (arith, e, low)) ∙ value) least
      (subst (λ o. IsLesser a o r) is lesser)

  pub result : (some : List Region) → AreDone j some → (output : Value) (bad : Option Origin) (notes : List Note) (rooms : List RoomState)
      → (final (machine j)).values (0, out j) ≡ Some output → IsLeast (IsFaultBefore j (final_values j) (length j.flat) 0) bad
      → AreNotes j (final (machine j)) notes
      → rooms ≡ map (λ (g : Region). g.bench.room) some → IsResult j (final (machine j)) output bad notes rooms
  result some done output bad notes rooms value least noted are =
      let shown = least-shown j task (final_values j) (values-found j task) bad least in
      record {
        value = value;
        least = shown.0;
        none = shown.1;
        noted = noted;
        each_room = each-number j task some done rooms are;
        deposits = each-deposits j task some done rooms are;
      }
