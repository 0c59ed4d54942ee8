-- What is left at an evaluation, and behind it.
use Rattle.std.specs.Prelude.{slice_get, if◌then◌else◌, drop, take, MatchOption}
use Rattle.std.proofs.Common.{append_assoc, length-append, ◌≡◌, ◌≤◌, ◌<◌, ◌+◌, ◌-◌, ℕ, suc, List, [], ◌∷◌, ◌++◌, length, Bool, true, false, Option, Some, None, refl, arith, ap, sym, subst, ◌∙◌, ◌⊎◌, inl, inr}
use Rattle.std.proofs.lemmas.Option.{none-some, slice_get-get_or}
use Rattle.lido_base.specs.Tree.{Tree, Child, contains, parent_of, item_at, child_number}
use Rattle.std.specs.Prelude.{option_and_then}
use Rattle.tree_store.specs.Regions.{region}
use Rattle.flat_grammar.specs.declared.flat.Occ.{Occ}
use Rattle.flat_grammar.specs.declared.plan.PlanItem.TheVariants.{Eval, Visit}
use Rattle.flat_grammar.specs.Instances.{instance_at}
use Rattle.flat_grammar.specs.WholeOrder.{Instance, child_at, node_at, sequence_at}
use Rattle.flat_grammar.proofs.Lists.{held}
use Rattle.core_machine.specs.declared.cursor.Frame.{Frame}
use Rattle.core_machine.specs.declared.cursor.Item.TheVariants as named
use Rattle.core_machine.specs.Machine.{Item, eval_of, put_of}
use Rattle.core_machine.specs.Core.{Task, IsTask, items_for}
use Rattle.core_machine.specs.Keys.{key_of}
use Rattle.core_machine.specs.Walks.{root_of, walk, own_visit, own_item, own_order}
use Rattle.core_machine.specs.Cursors.{CursorState, taken, left_of, left, levels, IsPath, IsInside, IsToPut, IsFirst}
use Rattle.core_machine.proofs.Trees.{child-facts}
use Rattle.core_machine.proofs.Tasks.{region-parent}
use Rattle.core_machine.proofs.RegionWalks.{tree}
use Rattle.core_machine.proofs.CursorLists.{share, share-eval, left-top}
use Rattle.core_machine.proofs.CursorPaths.{path-top, path-same, stands-root, stands-child, level-within}
use Rattle.core_machine.proofs.CursorMoves.{is-site, is-instance}

pub last-split : {A : Type 0} (xs : List A) (x : A) → slice_get xs (length xs - 1) ≡ Some x → xs ≡ take (length xs - 1) xs ++ x ∷ []
last-split [] x e = absurd (none-some _ e)
last-split (y ∷ []) x e = ap (λ z. z ∷ []) (held e)
last-split (y ∷ z ∷ xs) x e =
    let n : suc (suc (length xs)) - 1 ≡ suc (suc (length xs) - 1) = omega arith in
    let p = last-split (z ∷ xs) x (ap (slice_get (y ∷ z ∷ xs)) (sym n) ∙ e) in ap (λ l. y ∷ l) p ∙ ap (λ k. take k (y ∷ z ∷ xs) ++ x ∷ []) (sym n)

-- the last of a list, if it has one
pub last-cases : {A : Type 0} (xs : List A) (o : Option A) → o ≡ slice_get xs (length xs - 1) → MatchOption o (xs ≡ []) (λ x. xs ≡ take (length xs - 1) xs ++ x ∷ [])
last-cases [] None e = refl
last-cases [] (Some x) e = absurd (none-some _ (sym e))
last-cases (y ∷ xs) None e = absurd (none-some _ (e ∙ slice_get-get_or (y ∷ xs) (length (y ∷ xs) - 1) y (omega arith)))
last-cases (y ∷ xs) (Some x) e = last-split (y ∷ xs) x (sym e)

pub item-child : {V : Type 0} (t : Tree V) (n k c : ℕ) → item_at t n k ≡ Some (Child c) → child_at t n k ≡ Some c
item-child t n k c e = ap (option_and_then child_number) e

module _ (j : Task) (task : IsTask j) (c : CursorState) (inside : IsInside j c) (front : List Frame) (top : Frame) (was : c.frames ≡ front ++ top ∷ []) where
  path : IsPath j c.region (front ++ top ∷ [])
  path = subst (λ l. IsPath j c.region l) was inside.path

  pub top-inside : top.node < length j.flat
  top-inside = (path-top j task c.region front top inside.is_region path).inside

  pub top-region : region j.flat j.nodes top.node ≡ c.region
  top-region = (path-top j task c.region front top inside.is_region path).within

  -- there is room for a visit of a child
  pub room-below : (b : ℕ) → parent_of j.flat b ≡ Some top.node → contains b j.nodes ≡ false → length front + 1 < c.room
  room-below b up own =
      let at = path-top j task c.region front top inside.is_region path in
      let enough = level-within j task c.region b (suc (length front + 1)) (stands-child j task c.region top.node b (length front + 1) at up own) in
      let r = inside.room in omega (arith, enough, r)

  pub room-here : length front < c.room
  room-here = let e = ap length was in let f = length-append front (top ∷ []) in let g = inside.few in let r = inside.room in omega (arith, e, f, g, r)

  -- behind an item of the innermost visit
  pub inside-behind : (next : Frame) (d : CursorState) → next.node ≡ top.node → d.frames ≡ front ++ next ∷ [] → d.region ≡ c.region → d.room ≡ c.room → IsInside j d
  inside-behind next d same is region_kept room_kept = record {
    is_region = subst (λ r. r ≤ length j.nodes) (sym region_kept) inside.is_region;
    path = subst (λ l. IsPath j d.region l) (sym is) (subst (λ r. IsPath j r (front ++ next ∷ [])) (sym region_kept) (path-same j c.region front top next same path));
    few = subst (λ r. length d.frames ≤ levels j r) (sym region_kept)
        (let e = ap length is in let f = length-append front (next ∷ []) in let g = ap length was in let h = length-append front (top ∷ []) in let i = inside.few in omega (arith, e, f, g, h, i));
    room = subst (λ r. levels j r ≤ d.room) (sym region_kept) (let a = inside.room in omega (arith, a, room_kept));
  }

  -- where the child is of another region, its visit gives nothing
  pub elsewhere : (b k v : ℕ) → child_at j.flat top.node k ≡ Some b → (region j.flat j.nodes b ≡ c.region → ⊥) → own_item j (own_order j) top.node (Visit k v) ≡ []
  elsewhere b k v child other = go (contains b j.nodes) refl
    where
      up : parent_of j.flat b ≡ Some top.node
      up = (child-facts j.flat (tree j task) top.node k b child).parent

      go : (x : Bool) → contains b j.nodes ≡ x → own_visit j (own_order j) (child_at j.flat top.node k) v ≡ []
      go true split = ap (λ o. own_visit j (own_order j) o v) child ∙ ap (λ (x : Bool). if x then [] else own_order j b v) split
      go false own = absurd (other (region-parent j.flat (tree j task) j.nodes b top.node up own ∙ top-region))

  module _ (o : Occ) (next_is : slice_get (sequence_at j.flat j.seqs top.node) top.place ≡ Some (Eval o)) where
    i : Instance
    i = instance_at j.flat top.node o

    module _ (next : Frame) (same : next.node ≡ top.node) (place : next.place ≡ top.place + 1) where
      -- the items of the evaluation come first
      pub at-evaluation : left_of j c.frames ≡ items_for j (instance_at j.flat top.node o) ++ left_of j (front ++ next ∷ [])
      at-evaluation =
          ap (left_of j) was ∙ left-top j front top ∙ ap (λ l. taken j top.node l ++ left_of j front) (share-eval j front top next o same place next_is)
          ∙ append_assoc (items_for j (instance_at j.flat top.node o)) (taken j top.node (share j front next)) (left_of j front)
          ∙ ap (λ l. items_for j (instance_at j.flat top.node o) ++ l) (ap (λ n. taken j n (share j front next) ++ left_of j front) (sym same) ∙ sym (left-top j front next))

      pub with-put : contains (node_at j.flat top.node o.occ) j.nodes ≡ true
          → left_of j c.frames ≡ eval_of (instance_at j.flat top.node o) ∷ put_of (instance_at j.flat top.node o) ∷ left_of j (front ++ next ∷ [])
      with-put split = at-evaluation ∙ ap (λ (b : Bool). (if b then eval_of (instance_at j.flat top.node o) ∷ put_of (instance_at j.flat top.node o) ∷ [] else eval_of (instance_at j.flat top.node o) ∷ []) ++ left_of j (front ++ next ∷ [])) split

      pub without-put : contains (node_at j.flat top.node o.occ) j.nodes ≡ false → left_of j c.frames ≡ eval_of (instance_at j.flat top.node o) ∷ left_of j (front ++ next ∷ [])
      without-put own = at-evaluation ∙ ap (λ (b : Bool). (if b then eval_of (instance_at j.flat top.node o) ∷ put_of (instance_at j.flat top.node o) ∷ [] else eval_of (instance_at j.flat top.node o) ∷ []) ++ left_of j (front ++ next ∷ [])) own

      -- what is left behind the item
      pub behind-item : IsToPut j c.frames ⊎ (c.put ≡ false) → (c.put ≡ false → contains (node_at j.flat top.node o.occ) j.nodes ≡ false) → left_of j (front ++ next ∷ []) ≡ drop 1 (left j c)
      behind-item to_put own = go c.put refl to_put
        where
          go : (b : Bool) → c.put ≡ b → IsToPut j c.frames ⊎ (c.put ≡ false) → left_of j (front ++ next ∷ []) ≡ drop 1 (if b then drop 1 (left_of j c.frames) else left_of j c.frames)
          go true e (inl p) = sym (ap (λ l. drop 1 (drop 1 l)) (with-put (p front top o was next_is)))
          go true e (inr p) = let f : true ≡ false = sym e ∙ p in absurd (cc)
          go false e p = sym (ap (λ l. drop 1 l) (without-put (own e)))

    after-top : Frame
    after-top = record { node = top.node; place = top.place + 1 }

    pub names-eval : c.put ≡ false → IsFirst j (left j c) (Some (named.Eval (record { 0 = top.node }) o))
    names-eval e =
        subst (λ (b : Bool). IsFirst j (if b then drop 1 (left_of j c.frames) else left_of j c.frames) (Some (named.Eval (record { 0 = top.node }) o))) (sym e)
        (go (contains (node_at j.flat top.node o.occ) j.nodes) refl)
      where
        go : (b : Bool) → contains (node_at j.flat top.node o.occ) j.nodes ≡ b → IsFirst j (left_of j c.frames) (Some (named.Eval (record { 0 = top.node }) o))
        go true split = subst (λ l. IsFirst j l (Some (named.Eval (record { 0 = top.node }) o))) (sym (with-put (record { node = top.node; place = top.place + 1 }) refl refl split)) (refl, is-site j task top.node top.place o top-inside next_is)
        go false own = subst (λ l. IsFirst j l (Some (named.Eval (record { 0 = top.node }) o))) (sym (without-put (record { node = top.node; place = top.place + 1 }) refl refl own)) (refl, is-site j task top.node top.place o top-inside next_is)

    pub names-put : (key : ℕ) → c.put ≡ true → contains (node_at j.flat top.node o.occ) j.nodes ≡ true → key ≡ key_of j (instance_at j.flat top.node o) → IsFirst j (left j c) (Some (named.Put key))
    names-put key e split k =
        subst (λ (b : Bool). IsFirst j (if b then drop 1 (left_of j c.frames) else left_of j c.frames) (Some (named.Put key))) (sym e)
        (subst (λ l. IsFirst j (drop 1 l) (Some (named.Put key))) (sym (with-put (record { node = top.node; place = top.place + 1 }) refl refl split))
        (refl, (split, is-instance j task top.node top.place o top-inside next_is), k))

module _ (j : Task) where
  -- without visits under way nothing is left
  pub none-left : (c : CursorState) → c.frames ≡ [] → left j c ≡ []
  none-left c e = ap (λ l. if c.put then drop 1 (left_of j l) else left_of j l) e ∙ go c.put
    where
      nothing : List (Item Instance)
      nothing = []

      go : (b : Bool) → (if b then drop 1 nothing else nothing) ≡ nothing
      go true = refl
      go false = refl

  pub some-frames : (c : CursorState) → 0 < length (left j c) → 0 < length c.frames
  some-frames c h = go c.frames refl
    where
      go : (l : List Frame) → c.frames ≡ l → 0 < length l
      go [] e = let f = ap length (none-left c e) in absurd (omega (arith, f, h))
      go (x ∷ l) e = omega arith

  pub none-first : (c : CursorState) → c.frames ≡ [] → IsFirst j (left j c) None
  none-first c e = subst (λ l. IsFirst j l None) (sym (none-left c e)) tt

  -- the first visit stands at the beginning of the region's walk
  pub opening-left : (r : ℕ) (f : Frame) (frames : List Frame) → frames ≡ f ∷ [] → f.node ≡ root_of j.nodes r → f.place ≡ 0 → left_of j frames ≡ walk j r
  opening-left r f frames is node place = ap (left_of j) is ∙ (λ i. taken j (node i) (drop (place i) (sequence_at j.flat j.seqs (node i))))

  pub without : (c : CursorState) → c.put ≡ false → left j c ≡ left_of j c.frames
  without c e = ap (λ (b : Bool). if b then drop 1 (left_of j c.frames) else left_of j c.frames) e

  pub opening-inside : IsTask j → (r room : ℕ) (f : Frame) → r ≤ length j.nodes → levels j r ≤ room → f.node ≡ root_of j.nodes r → IsInside j (record { region = r; put = false; frames = f ∷ []; room = room })
  opening-inside task r room f h enough same = record { is_region = h; path = (same, tt); few = level-within j task r (root_of j.nodes r) 1 (stands-root j task r h); room = enough }
