-- What each move of a cursor leaves.
use Rattle.std.specs.Prelude.{slice_get, if◌then◌else◌, is_some, IsTrue, nat_eq, take}
use Rattle.std.proofs.Common.{append_assoc, length-append, ◌≡◌, ◌≤◌, ◌<◌, ◌+◌, ◌-◌, ℕ, zero, suc, List, [], ◌∷◌, ◌++◌, length, Bool, true, false, Some, refl, arith, ap, sym, subst, ◌∙◌, inl, inr, eqb-true}
use Rattle.std.proofs.lemmas.Option.{none-some, slice_get_within}
use Rattle.lido_base.specs.Tree.{contains, parent_of, item_at, IsNode}
use Rattle.tree_store.specs.Regions.{region}
use Rattle.flat_grammar.specs.declared.flat.Occ.{Occ}
use Rattle.flat_grammar.specs.declared.flat.FlatRule.{FlatRule}
use Rattle.flat_grammar.specs.declared.plan.PlanItem.{PlanItem}
use Rattle.flat_grammar.specs.declared.plan.PlanItem.TheVariants.{Eval, Visit, Leave}
use Rattle.flat_grammar.specs.declared.plan.VisitClass.{VisitClass}
use Rattle.flat_grammar.specs.Rules.{HasRule}
use Rattle.flat_grammar.specs.SoundPlan.{AllowsNext, IsClassAt, IsRow}
use Rattle.flat_grammar.specs.WholeOrder.{segment, child_at, node_at, sequence_at}
use Rattle.flat_grammar.proofs.Lists.{AllZip-at, contains-slice_get}
use Rattle.core_machine.specs.declared.cursor.Frame.{Frame}
use Rattle.core_machine.specs.Instances.{IsSite}
use Rattle.flat_grammar.specs.Instances.{instance_at, IsInstance}
use Rattle.core_machine.specs.Core.{Task, IsTask}
use Rattle.core_machine.specs.Walks.{own_visit, own_item, own_order}
use Rattle.core_machine.specs.Cursors.{CursorState, rest_of, taken, left_of, moves, visit_moves, item_moves, moves_along, moves_left, levels, IsPath, IsInside, IsMove}
use Rattle.core_machine.proofs.Jobs.{grown}
use Rattle.core_machine.proofs.Trees.{child-facts, here}
use Rattle.core_machine.proofs.Sites.{child-of, placed, site-instance}
use Rattle.core_machine.proofs.Walk.{sound-at, site-of}
use Rattle.core_machine.proofs.RegionWalks.{tree, own-order-step, split-away}
use Rattle.core_machine.proofs.CursorLists.{share, share-inner, left-top, moves-top, moves-step}
use Rattle.core_machine.proofs.CursorPaths.{path-top, path-pop, path-same, path-push, stands-child, level-within}

module _ (j : Task) where
  takes-one : (n : ℕ) (item : PlanItem) → 0 < item_moves j (moves j) n item
  takes-one n (Eval o) = omega arith
  takes-one n (Visit k v) = omega arith
  takes-one n (Leave v) = omega arith

  module _ (task : IsTask j) (c d : CursorState) (front : List Frame) (top : Frame) (inside : IsInside j c) (was : c.frames ≡ front ++ top ∷ [])
      (region_kept : d.region ≡ c.region) (put_kept : d.put ≡ c.put) (room_kept : d.room ≡ c.room) where
    path : IsPath j c.region (front ++ top ∷ [])
    path = subst (λ l. IsPath j c.region l) was inside.path

    few : length front + 1 ≤ levels j c.region
    few = let e = ap length was in let f = length-append front (top ∷ []) in let g = inside.few in omega (arith, e, f, g)

    stays : IsPath j c.region d.frames → length d.frames ≤ levels j c.region → IsInside j d
    stays p l = record {
      is_region = subst (λ r. r ≤ length j.nodes) (sym region_kept) inside.is_region;
      path = subst (λ r. IsPath j r d.frames) (sym region_kept) p;
      few = subst (λ r. length d.frames ≤ levels j r) (sym region_kept) l;
      room = subst (λ r. levels j r ≤ d.room) (sym region_kept) (let a = inside.room in omega (arith, a, room_kept));
    }

    -- the end of a visit
    pub ended : d.frames ≡ front → share j front top ≡ [] → IsMove j c d
    ended is none = record {
      inside = stays (subst (λ l. IsPath j c.region l) (sym is) (path-pop j c.region front top path)) (let e = ap length is in omega (arith, e, few));
      region = region_kept;
      put = put_kept;
      left = ap (left_of j) is ∙ sym (ap (left_of j) was ∙ left-top j front top ∙ ap (λ l. taken j top.node l ++ left_of j front) none);
      fewer = let a = ap (moves_left j) is in let b = ap (moves_left j) was ∙ moves-top j front top in let e = ap (moves_along j top.node) none in omega (arith, a, b, e);
    }

    module _ (next : Frame) (same : next.node ≡ top.node) where
      share-next : (item : PlanItem) → share j front top ≡ item ∷ share j front next
          → left_of j c.frames ≡ own_item j (own_order j) top.node item ++ left_of j (front ++ next ∷ [])
      share-next item s =
          ap (left_of j) was ∙ left-top j front top ∙ ap (λ l. taken j top.node l ++ left_of j front) s
          ∙ append_assoc (own_item j (own_order j) top.node item) (taken j top.node (share j front next)) (left_of j front)
          ∙ ap (λ l. own_item j (own_order j) top.node item ++ l) (ap (λ n. taken j n (share j front next) ++ left_of j front) (sym same) ∙ sym (left-top j front next))

      moves-next : (item : PlanItem) → share j front top ≡ item ∷ share j front next
          → moves_left j c.frames ≡ item_moves j (moves j) top.node item + moves_left j (front ++ next ∷ [])
      moves-next item s =
          let a = ap (moves_left j) was ∙ moves-top j front top in
          let b = ap (moves_along j top.node) s in
          let e = moves-top j front next in
          let f = ap (λ n. moves_along j n (share j front next)) same in
          omega (arith, a, b, e, f)

      -- an item that gives nothing to the region
      pub passed : (item : PlanItem) → d.frames ≡ front ++ next ∷ [] → share j front top ≡ item ∷ share j front next → own_item j (own_order j) top.node item ≡ [] → IsMove j c d
      passed item is s none = record {
        inside = stays (subst (λ l. IsPath j c.region l) (sym is) (path-same j c.region front top next same path))
            (let e = ap length is in let f = length-append front (next ∷ []) in omega (arith, e, f, few));
        region = region_kept;
        put = put_kept;
        left = ap (left_of j) is ∙ sym (share-next item s ∙ ap (λ l. l ++ left_of j (front ++ next ∷ [])) none);
        fewer = let a = ap (moves_left j) is in let b = moves-next item s in let e = takes-one top.node item in omega (arith, a, b, e);
      }

      -- a visit of a child in the region
      pub entered : (g : Frame) (k v : ℕ) → d.frames ≡ (front ++ next ∷ []) ++ g ∷ [] → share j front top ≡ Visit k v ∷ share j front next → child_at j.flat top.node k ≡ Some g.node → contains g.node j.nodes ≡ false
          → segment 0 (rest_of j g) ≡ segment (v - 1) (sequence_at j.flat j.seqs g.node) → IsMove j c d
      entered g k v is s child own begins =
          let t = tree j task in
          let facts = child-facts j.flat t top.node k g.node child in
          let up : parent_of j.flat g.node ≡ Some next.node = facts.parent ∙ ap Some (sym same) in
          let at = path-top j task c.region front top inside.is_region path in
          let deeper = stands-child j task c.region top.node g.node (length front + 1) at facts.parent own in
          let enough = level-within j task c.region g.node (suc (length front + 1)) deeper in
          let visit : own_item j (own_order j) top.node (Visit k v) ≡ taken j g.node (segment 0 (rest_of j g)) =
          ap (λ o. own_visit j (own_order j) o v) child ∙ ap (λ (b : Bool). if b then [] else own_order j g.node v) own
          ∙ own-order-step j t g.node v facts.inside ∙ ap (λ l. taken j g.node l) (sym begins) in
          let count : visit_moves j (moves j) (child_at j.flat top.node k) v ≡ moves_along j g.node (segment 0 (rest_of j g)) =
          ap (λ o. visit_moves j (moves j) o v) child ∙ moves-step j t g.node v facts.inside ∙ ap (λ l. moves_along j g.node l) (sym begins) in
          record {
            inside = stays (subst (λ l. IsPath j c.region l) (sym is) (path-push j c.region front next g up own (path-same j c.region front top next same path)))
                (let e = ap length is in let f = length-append (front ++ next ∷ []) (g ∷ []) in let h = length-append front (next ∷ []) in omega (arith, e, f, h, enough));
            region = region_kept;
            put = put_kept;
            left = ap (left_of j) is ∙ left-top j (front ++ next ∷ []) g
                ∙ ap (λ l. taken j g.node l ++ left_of j (front ++ next ∷ [])) (share-inner j front next g)
                ∙ sym (share-next (Visit k v) s ∙ ap (λ l. l ++ left_of j (front ++ next ∷ [])) visit);
            fewer =
                let a = ap (moves_left j) is ∙ moves-top j (front ++ next ∷ []) g in
                let b = ap (moves_along j g.node) (share-inner j front next g) in
                let e = moves-next (Visit k v) s in
                omega (arith, a, b, e, count);
          }

  module _ (task : IsTask j) where
    -- a visit is of a child
    pub visit-child : (n place k v : ℕ) → n < length j.flat → slice_get (sequence_at j.flat j.seqs n) place ≡ Some (Visit k v) → (c : ℕ) × (child_at j.flat n k ≡ Some c)
    visit-child n place k v h e =
        let q = (grown j task).nodes n h in
        let sound = sound-at j.symbols j.rules j.shapes j.root j.flat task.formed (grown j task) task.root_bare j.visits j.seqs task.sound n q.0 q.1 in
        let within = slice_get_within (sequence_at j.flat j.seqs n) place (Visit k v) e in
        let allowed : AllowsNext j.symbols j.visits q.0 0 (take place (sequence_at j.flat j.seqs n)) (Some (Visit k v)) =
        subst (λ o. AllowsNext j.symbols j.visits q.0 0 (take place (sequence_at j.flat j.seqs n)) o) e (sound place 0 (omega (arith, within))) in
        go k v allowed.0 allowed.1 q.0 allowed.2 q.1
      where
        some : (row : List VisitClass) (v : ℕ) (class : VisitClass) → slice_get row v ≡ Some class → (b : Bool) → b ≡ nat_eq (length row) 0 → IsTrue b → ⊥
        some [] v class e b f y = absurd (none-some _ e)
        some (x ∷ row) v class e b f y = let z = eqb-true (suc (length row)) 0 (subst IsTrue f y) in absurd (omega (arith, z))

        go : (k v : ℕ) → 0 < k → (class : VisitClass) → (r : FlatRule) → IsClassAt j.visits r k v class → HasRule j.rules j.flat n r → (c : ℕ) × (child_at j.flat n k ≡ Some c)
        go zero v pos class r at rule = absurd (omega (arith, pos))
        go (suc k) zero pos class r at rule = elim at [ ]
        go (suc k) (suc v) pos class r (s, row, symbol, is_row, is_class) rule =
            let p = child-of j.symbols j.rules j.shapes j.root j.flat task.formed (grown j task) task.root_bare n r k s rule symbol
            (λ x f y. some row v class is_class (is_some x.terminal) (AllZip-at IsRow j.symbols j.visits s.0 x row task.sound.0.0 f is_row).some_visit y) in
            (p.0, p.1)

    pub visit-node : (n place k v : ℕ) → n < length j.flat → slice_get (sequence_at j.flat j.seqs n) place ≡ Some (Visit k v) → IsNode j.flat n k
    visit-node n place k v h e =
        let c = visit-child n place k v h e in let f = child-facts j.flat (tree j task) n k c.0 c.1 in
        (c.0, ap (item_at j.flat n) f.occ ∙ f.item)

    pub is-site : (n place : ℕ) (o : Occ) → n < length j.flat → slice_get (sequence_at j.flat j.seqs n) place ≡ Some (Eval o) → IsSite j.symbols j.rules j.flat (instance_at j.flat n o) n o
    is-site n place o h e =
        let q = (grown j task).nodes n h in
        site-of j.symbols j.rules j.shapes j.root j.flat task.formed (grown j task) task.root_bare j.visits j.seqs task.sound n q.0 o q.1 (contains-slice_get (sequence_at j.flat j.seqs n) place (Eval o) e)

    pub is-instance : (n place : ℕ) (o : Occ) → n < length j.flat → slice_get (sequence_at j.flat j.seqs n) place ≡ Some (Eval o) → IsInstance j.symbols j.rules j.flat (instance_at j.flat n o)
    is-instance n place o h e = site-instance j.symbols j.rules j.shapes j.root j.flat task.formed (grown j task) task.root_bare (instance_at j.flat n o) n o (is-site n place o h e)

    -- what is evaluated elsewhere than at the node itself is a child's
    pub eval-node : (n place : ℕ) (o : Occ) → n < length j.flat → slice_get (sequence_at j.flat j.seqs n) place ≡ Some (Eval o) → (o.occ ≡ 0 → ⊥) → IsNode j.flat n o.occ
    eval-node n place o h e other =
        let p = placed j.symbols j.rules j.shapes j.root j.flat task.formed (grown j task) task.root_bare (instance_at j.flat n o) n o (is-site n place o h e) in
        elim p.how [
          | inl z ↦ absurd (other z.1)
          | inr z ↦ (let f = child-facts j.flat (tree j task) n (suc z.1.0) (node_at j.flat n o.occ) z.1.2 in (node_at j.flat n o.occ, ap (item_at j.flat n) (z.1.1 ∙ f.occ) ∙ f.item))
        ]

    -- a child in the node's region is no split node
    pub child-own : (r n c : ℕ) → parent_of j.flat c ≡ Some n → region j.flat j.nodes n ≡ r → region j.flat j.nodes c ≡ r → contains c j.nodes ≡ false
    child-own r n c e within same = go (contains c j.nodes) refl
      where
        go : (b : Bool) → contains c j.nodes ≡ b → b ≡ false
        go true is = absurd (split-away j task r n c e is within c here same)
        go false not = refl
