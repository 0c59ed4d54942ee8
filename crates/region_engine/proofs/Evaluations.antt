-- An evaluation from the look at the table on.
use Rattle.std.specs.Prelude.{Contains, slice_get, take, ◌==◌, ◌↔◌, if◌then◌else◌}
use Rattle.std.proofs.lemmas.Bool.{cases_Bool}
use Rattle.std.proofs.Common.{◌≡◌, ◌≤◌, ◌+◌, ℕ, Bool, true, false, length, Option, Some, None, arith, ap, sym, ◌∙◌, subst, eq-eqb, inl, inr, ⊎_elim}
use mathlib.Core.Logic.{dite}
use native.Mathlib.Decide.{ℕ_discrete}
use Rattle.lido_base.specs.Tree.{contains}
use Rattle.lido_base.specs.declared.value.Value.{Value}
use Rattle.string_librarian.specs.Rooms.{RoomState}
use Rattle.boundary_table.specs.Desk.{Held}
use Rattle.tree_store.specs.Regions.{region}
use Rattle.flat_grammar.specs.declared.flat.Occ.{Occ}
use Rattle.flat_grammar.specs.declared.flat.FlatRule.{FlatRule}
use Rattle.flat_grammar.specs.declared.flat.FlatComp.{FlatComp}
use Rattle.flat_grammar.specs.Fitting.{cells}
use Rattle.flat_grammar.specs.Rules.{dependencies}
use Rattle.flat_grammar.specs.WholeOrder.{Instance}
use Rattle.flat_grammar.specs.Instances.{instance_at}
use Rattle.flat_grammar.proofs.Lists.{held}
use Rattle.core_machine.specs.Instances.{IsSite}
use Rattle.core_machine.specs.Machine.{eval_of, final}
use Rattle.core_machine.specs.Core.{Task, IsTask, Computation, computation_of, items, machine, outcome}
use Rattle.core_machine.specs.Keys.{key_of, contents_of}
use Rattle.core_machine.specs.Runs.{cost_in}
use Rattle.core_machine.proofs.Regions.{own_found}
use Rattle.region_engine.specs.declared.marks.Mark.TheVariants.{Missing, Evaluated, Delivered}
use Rattle.region_engine.specs.declared.values.Values.{Values}
use Rattle.region_engine.specs.Behind.{list}
use Rattle.region_engine.specs.Kept.{own_offset, own_offsets, stored, AreSized, IsMarked, IsKeptFor, IsBehind}
use Rattle.region_engine.specs.Steps.{AreGoingOn, AwaitsOther, HasKey, HasInputs, IsLookedUp, IsNext}
use Rattle.region_engine.specs.Inputs.{AllAtHand, OneMissed}
use Rattle.region_engine.proofs.Evaluated.{awaited, behind-next, inputs, list-among}
use Rattle.region_engine.proofs.Lists.{space-next}
use Rattle.region_engine.proofs.Looks.{right-stays}
use Rattle.region_engine.proofs.Shared.{content-is, site-home}

module _ (j : Task) (task : IsTask j) (r n : ℕ) (v : Values) (room : RoomState) (i : Instance) (next : IsNext j r n v room i) where
  -- a goal of a node that is evaluated next is of the node's region
  pub own-node : (node : ℕ) (o : Occ) → IsSite j.symbols j.rules j.flat i node o → region j.flat j.nodes node ≡ r
  own-node node o site = sym (site-home j task i node o site) ∙ (own_found (machine j) r (items j) n (eval_of i) next.next).home

  pub enough-cells : (node : ℕ) (rule : FlatRule) (comp : FlatComp) → computation_of j i ≡ Some (node, rule, comp) → region j.flat j.nodes node ≡ r → cells comp.value ≤ room.space
  enough-cells node rule comp computes own =
      let cost : cost_in j r i ≡ cells comp.value =
      ap (λ (o : Option Computation). elim o [ None ↦ 0 | Some c ↦ (if region j.flat j.nodes c.0 == r then cells c.2.value else 0) ]) computes
      ∙ ap (λ (b : Bool). if b then cells comp.value else 0) (eq-eqb (region j.flat j.nodes node) r own) in
      let a = space-next j r n (eval_of i) next.next in let b = next.behind.space in omega (arith, a, b, cost)

  -- a look at the table keeps what stands
  pub looked-next : (w : Values) (d e : Held) → IsLookedUp j v w d e → IsNext j r n w room i
  looked-next w d e look =
      let b = next.behind in
      record {
        behind = record {
          region = look.region ∙ b.region;
          sized = record {
            begins = look.begins ∙ b.sized.begins;
            many = ap length look.own ∙ b.sized.many;
            keys = look.count ∙ b.sized.keys;
            marks = ap length look.marks ∙ b.sized.marks;
          };
          keeps = record {
            values = λ k m. elim (cases_Bool (contains k.0 j.nodes)) [
              | inl is ↦ in-shared k is (was-shared k is m)
              | inr not ↦ in-own k not ∙ b.keeps.values k m
            ];
            marked = λ key m. right-stays j v.shared.items w.shared.items key look.look.refreshed (b.keeps.marked key (marks-same key m));
            evaluated = λ k m is. let q = b.keeps.evaluated k m is in (q.0, ap (λ l. slice_get l (key_of j k)) look.marks ∙ q.1, q.2);
            owned = λ k shared e. b.keeps.owned k shared (ap (λ l. slice_get l (key_of j k)) (sym look.marks) ∙ e);
          };
          number = b.number;
          deposits = b.deposits;
          space = b.space;
        };
        next = next.next;
      }
    where
      marks-same : (key : ℕ) → IsMarked w.marks.items key → IsMarked v.marks.items key
      marks-same key m = (m.0, ap (λ l. slice_get l key) (sym look.marks) ∙ m.1, m.2)

      content : (k : Instance) → contains k.0 j.nodes ≡ true → Contains (take n (list j r)) (eval_of k) → slice_get (contents_of j) (key_of j k) ≡ (final (machine j)).values k
      content k is m = content-is j task k (list-among j r n i next.next k m) is

      was-shared : (k : Instance) → contains k.0 j.nodes ≡ true → Contains (take n (list j r)) (eval_of k) → slice_get w.shared.items (key_of j k) ≡ (final (machine j)).values k
      was-shared k is m = ⊎_elim
          (λ same. same ∙ sym (ap (λ b. if b then slice_get v.shared.items (key_of j k) else slice_get v.own.items (own_offset j r k.0 + k.1)) is) ∙ next.behind.keeps.values k m)
          (λ new. new ∙ content k is m)
          (look.look.refreshed (key_of j k))

      in-shared : (k : Instance) → contains k.0 j.nodes ≡ true → slice_get w.shared.items (key_of j k) ≡ (final (machine j)).values k → stored j r w.own.items w.shared.items k ≡ (final (machine j)).values k
      in-shared k is e = ap (λ b. if b then slice_get w.shared.items (key_of j k) else slice_get w.own.items (own_offset j r k.0 + k.1)) is ∙ e

      in-own : (k : Instance) → contains k.0 j.nodes ≡ false → stored j r w.own.items w.shared.items k ≡ stored j r v.own.items v.shared.items k
      in-own k not =
          ap (λ b. if b then slice_get w.shared.items (key_of j k) else slice_get w.own.items (own_offset j r k.0 + k.1)) not
          ∙ ap (λ l. slice_get l (own_offset j r k.0 + k.1)) look.own
          ∙ sym (ap (λ b. if b then slice_get v.shared.items (key_of j k) else slice_get v.own.items (own_offset j r k.0 + k.1)) not)

-- what was delivered stays so where a value is kept
pub delivered-kept : (j : Task) (r : ℕ) (v w : Values) (i : Instance) (x : Value) → IsKeptFor j r v w i x → (key : ℕ) → HasKey v key ↔ HasKey w key
delivered-kept j r v w i x kept key = elim (cases_Bool (contains i.0 j.nodes)) [
  | inl is ↦ (let m = (kept.split is).marks in dite (ℕ_discrete key (key_of j i))
      (λ e. let P : ℕ → Type 0 = λ z. HasKey v z ↔ HasKey w z in subst P (sym e) (elim m.here [
        | inl (before, after) ↦ ((λ h. (let z : Missing ≡ Delivered = held (sym before ∙ h) in absurd (cc))), (λ h. (let z : Evaluated ≡ Delivered = held (sym after ∙ h) in absurd (cc))))
        | inr (old, same) ↦ ((λ h. same ∙ h), (λ h. sym same ∙ h))
      ]))
      (λ ne. ((λ h. m.same key ne ∙ h), (λ h. sym (m.same key ne) ∙ h))))
  | inr not ↦ (let e = ap (λ l. slice_get l key) (kept.other not).marks in ((λ h. e ∙ h), (λ h. sym e ∙ h)))
]

pub inputs-kept : (j : Task) (r : ℕ) (v w : Values) (i : Instance) (x : Value) (d : Held) → IsKeptFor j r v w i x → HasInputs j i v d → HasInputs j i w d
inputs-kept j r v w i x d kept h = record { each = λ k need far. ⊎_elim (λ a. inl ((delivered-kept j r v w i x kept (key_of j k)).0 a)) (λ a. inr a) (h.each k need far) }

-- The evaluation of a goal of a node's rule, from the look at the table to the value that is kept.
module _ (j : Task) (task : IsTask j) (v : Values) (room : RoomState) (node : ℕ) (o : Occ) (site : IsSite j.symbols j.rules j.flat (instance_at j.flat node o) node o)
    (rule : FlatRule) (comp : FlatComp) (computes : computation_of j (instance_at j.flat node o) ≡ Some (node, rule, comp)) (u : Values) (d e : Held) (look : IsLookedUp j v u d e) where
  abbrev goal-of : Instance
  goal-of = instance_at j.flat node o

  pub next-still : (n : ℕ) → IsNext j v.region n v room goal-of → IsNext j v.region n u room goal-of
  next-still n next = looked-next j task v.region n v room goal-of next u d e look

  pub begins-still : (n : ℕ) → IsNext j v.region n v room goal-of → u.begins.items ≡ own_offsets j u.region
  begins-still n next = look.begins ∙ next.behind.sized.begins ∙ ap (own_offsets j) (sym look.region)

  pub sized-still : (n : ℕ) → IsNext j v.region n v room goal-of → AreSized j u.region u
  sized-still n next = subst (λ q. AreSized j q u) (sym look.region) (next-still n next).behind.sized

  pub own-still : (n : ℕ) → IsNext j v.region n v room goal-of → region j.flat j.nodes node ≡ u.region
  own-still n next = own-node j task v.region n v room goal-of next node o site ∙ sym look.region

  pub cells-still : (n : ℕ) → IsNext j v.region n v room goal-of → cells comp.value ≤ room.space
  cells-still n next = enough-cells j task v.region n v room goal-of next node rule comp computes (own-node j task v.region n v room goal-of next node o site)

  module _ (hand : AllAtHand j node u.marks.items u.shared.items e (dependencies comp)) (x : Value) (new : RoomState) (w : Values) (kept : IsKeptFor j u.region u w goal-of x) where
    pub behind-all : (x, new.deposits) ≡ outcome j room.number (stored j u.region u.own.items u.shared.items) room.deposits (Some (node, rule, comp)) → new.number ≡ room.number → room.space ≤ new.space + cells comp.value
        → (n : ℕ) → IsNext j v.region n v room goal-of → IsBehind j v.region (n + 1) w new
    behind-all exact number space n next =
        behind-next j task v.region n u room goal-of (next-still n next) node rule comp computes e hand x new
        (exact ∙ ap (λ q. outcome j room.number (stored j q u.own.items u.shared.items) room.deposits (Some (node, rule, comp))) look.region)
        w (subst (λ q. IsKeptFor j q u w goal-of x) look.region kept) number space (own-node j task v.region n v room goal-of next node o site)

    pub inputs-all : (n : ℕ) → IsNext j v.region n v room goal-of → HasInputs j goal-of w e
    inputs-all n next = inputs-kept j u.region u w goal-of x e kept (inputs j task v.region n u room goal-of (next-still n next) node rule comp computes e hand)

    pub going-all : AreGoingOn v w d e
    going-all = record {
      region = kept.region ∙ look.region;
      delivered = λ key.
          let a = ap (λ l. slice_get l key) look.marks in let k = delivered-kept j u.region u w goal-of x kept key in
          ((λ h. k.0 (a ∙ h)), (λ h. sym a ∙ k.1 h));
      goes_on = look.look.goes_on;
      stores = look.look.stores;
    }

  pub going-missed : AreGoingOn v u d e
  going-missed = record {
    region = look.region;
    delivered = λ key. let a = ap (λ l. slice_get l key) look.marks in ((λ h. a ∙ h), (λ h. sym a ∙ h));
    goes_on = look.look.goes_on;
    stores = look.look.stores;
  }

  pub awaits-all : OneMissed j node u.marks.items d e (dependencies comp) → (n : ℕ) → IsNext j v.region n v room goal-of → AwaitsOther j goal-of u d e
  awaits-all missed n next = awaited j task v.region n u room goal-of (next-still n next) node rule comp computes d e missed
