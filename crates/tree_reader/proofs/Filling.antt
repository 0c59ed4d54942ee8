-- How a table is filled from the left.
use Rattle.std.proofs.Common.{◌≡◌, ℕ, ℤ, ◌+◌, ◌<◌, Bool, true, false, true≢false, if◌then◌else◌, List, [], ◌∷◌, ◌++◌, length, Some, None, Option, Result, Err, refl, ap, sym, ◌∙◌, arith, append_assoc, append-nil, suc, zero, add-one, length-append}
use Rattle.std.specs.Prelude.{nat_le}
use Rattle.lido_base.specs.Plain.{Plain, Int, Str}
use Rattle.lido_base.specs.Tree.{Tree, Node, Item, Child, Leaf, items_of, places, with_item, with_node}
use Rattle.lido_base.specs.declared.kinds.Many.TheVariants as many
use Rattle.lido_base.specs.declared.value.ValueType.TheVariants as type
use Rattle.tree_store.specs.declared.fault.TreeFault.{TreeFault}
use Rattle.tree_store.specs.declared.fault.TreeFault.TheVariants as fault
use Rattle.tree_store.proofs.GrowthLemmas.{length-with_item, items_of-with_item}
use Rattle.tree_reader.specs.declared.part.Coordinates.{Coordinates}
use Rattle.tree_reader.specs.Language.{Forest, none, node, int, string}
use Rattle.tree_reader.specs.WrittenTrees.{Asked, count, first_of, rule_named, items, nodes, fault_among, node_fault, most_nodes, add_items, coordinates_of, own, table_node, Frame, fill, resume}

module _ {V : Type 0} where
  add_none : (t : Tree V) (p : ℕ) → add_items t p [] ≡ t
  add_none [] p = refl
  add_none (n ∷ t) zero = ap (λ (l : List (Item V)). record n { items = l } ∷ t) (append-nil n.items)
  add_none (n ∷ t) (suc p) = ap (λ (l : Tree V). n ∷ l) (add_none t p)

  add_after : (t : Tree V) (p : ℕ) (x : Item V) (more : List (Item V)) → add_items (with_item t p x) p more ≡ add_items t p (x ∷ more)
  add_after [] p x more = refl
  add_after (n ∷ t) zero x more = ap (λ (l : List (Item V)). record n { items = l } ∷ t) (append_assoc n.items (x ∷ []) more)
  add_after (n ∷ t) (suc p) x more = ap (λ (l : Tree V). n ∷ l) (add_after t p x more)

  add_left : (t u : Tree V) (p : ℕ) (more : List (Item V)) → p < length t → add_items (t ++ u) p more ≡ add_items t p more ++ u
  add_left [] u p more less = absurd (omega arith)
  add_left (n ∷ t) u zero more less = refl
  add_left (n ∷ t) u (suc p) more less = ap (λ (l : Tree V). n ∷ l) (add_left t u p more (omega arith))

  add_last : (t : Tree V) (n : Node V) (p : ℕ) (more : List (Item V)) → p ≡ length t → add_items (t ++ n ∷ []) p more ≡ t ++ record n { items = n.items ++ more } ∷ []
  add_last [] n zero more is = refl
  add_last [] n (suc p) more is = absurd (omega (arith, is))
  add_last (m ∷ t) n zero more is = absurd (omega (arith, is))
  add_last (m ∷ t) n (suc p) more is = ap (λ (l : Tree V). m ∷ l) (add_last t n p more (omega (arith, is)))

  pub length-add_items : (t : Tree V) (p : ℕ) (more : List (Item V)) → length (add_items t p more) ≡ length t
  length-add_items [] p more = refl
  length-add_items (n ∷ t) zero more = refl
  length-add_items (n ∷ t) (suc p) more = ap suc (length-add_items t p more)

  pub items_left : (t u : Tree V) (p : ℕ) → p < length t → items_of (t ++ u) p ≡ items_of t p
  items_left [] u p less = absurd (omega arith)
  items_left (n ∷ t) u zero less = refl
  items_left (n ∷ t) u (suc p) less = items_left t u p (omega arith)

  pub items_last : (t : Tree V) (n : Node V) (p : ℕ) → p ≡ length t → items_of (t ++ n ∷ []) p ≡ n.items
  items_last [] n zero is = refl
  items_last [] n (suc p) is = absurd (omega (arith, is))
  items_last (m ∷ t) n zero is = absurd (omega (arith, is))
  items_last (m ∷ t) n (suc p) is = items_last t n p (omega (arith, is))

  same_coordinates : (t : Tree V) (p : ℕ) (x : Item V) (q : ℕ) → coordinates_of (with_item t p x) q ≡ coordinates_of t q
  same_coordinates [] p x q = refl
  same_coordinates (n ∷ t) zero x zero = refl
  same_coordinates (n ∷ t) zero x (suc q) = refl
  same_coordinates (n ∷ t) (suc p) x zero = refl
  same_coordinates (n ∷ t) (suc p) x (suc q) = same_coordinates t p x q

  coordinates_left : (t u : Tree V) (q : ℕ) → q < length t → coordinates_of (t ++ u) q ≡ coordinates_of t q
  coordinates_left [] u q less = absurd (omega (arith, less))
  coordinates_left (n ∷ t) u zero less = refl
  coordinates_left (n ∷ t) u (suc q) less = coordinates_left t u q (omega (arith, less))

  coordinates_last : (t : Tree V) (n : Node V) (q : ℕ) → q ≡ length t → coordinates_of (t ++ n ∷ []) q ≡ record { line = n.line; column = n.column }
  coordinates_last [] n zero is = refl
  coordinates_last [] n (suc q) is = absurd (omega (arith, is))
  coordinates_last (m ∷ t) n zero is = absurd (omega (arith, is))
  coordinates_last (m ∷ t) n (suc q) is = coordinates_last t n q (omega (arith, is))

  pub places_with : (t : Tree V) (p : ℕ) (x : Item V) → p < length t → places (with_item t p x) p ≡ suc (places t p)
  places_with t p x less = ap length (items_of-with_item t p x less) ∙ omega (arith, length-append (items_of t p) (x ∷ []))

module _ {S : Type 0} (g : Asked S) where
  pub length-nodes : (n p k : ℕ) (above : Coordinates) (f : Forest) → length (nodes g n p k above f) ≡ count f
  length-nodes n p k above none = refl
  length-nodes n p k above (node at name_at name coordinates below end after) = omega (
    arith,
    length-append (nodes g (suc n) n 0 (own coordinates above) below) (nodes g (suc (n + count below)) p (suc k) above after),
    length-nodes (suc n) n 0 (own coordinates above) below,
    length-nodes (suc (n + count below)) p (suc k) above after,
  )
  length-nodes n p k above (int at value after) = length-nodes n p (suc k) above after
  length-nodes n p k above (string at text after) = length-nodes n p (suc k) above after

  pub fill_none : (t : Tree Plain) (p : ℕ) → fill g t p none ≡ t
  fill_none t p = append-nil (add_items t p []) ∙ add_none t p

  pub fill_leaf : (t : Tree Plain) (p : ℕ) (v : Plain) (after : Forest) → p < length t
      → add_items t p (Leaf v ∷ items g (length t) after) ++ nodes g (length t) p (suc (places t p)) (coordinates_of t p) after ≡ fill g (with_item t p (Leaf v)) p after
  fill_leaf t p v after less =
      ap (λ (l : Tree Plain). l ++ nodes g (length t) p (suc (places t p)) (coordinates_of t p) after) (sym (add_after t p (Leaf v) (items g (length t) after)))
      ∙ ap (λ (n : ℕ). add_items (with_item t p (Leaf v)) p (items g n after) ++ nodes g n p (suc (places t p)) (coordinates_of t p) after) (sym (length-with_item t p (Leaf v)))
      ∙ ap (λ (k : ℕ). add_items (with_item t p (Leaf v)) p (items g (length (with_item t p (Leaf v))) after) ++ nodes g (length (with_item t p (Leaf v))) p k (coordinates_of t p) after) (sym (places_with t p (Leaf v) less))
      ∙ ap (λ (c : Coordinates). add_items (with_item t p (Leaf v)) p (items g (length (with_item t p (Leaf v))) after) ++ nodes g (length (with_item t p (Leaf v))) p (places (with_item t p (Leaf v)) p) c after) (sym (same_coordinates t p (Leaf v) p))

  abbrev pub added : Tree Plain → ℕ → ℕ → Coordinates → Node Plain
  added t p rule c = record { rule = rule; parent = Some p; place = places t p + 1; line = c.line; column = c.column; items = [] }

  -- the tree with such a node
  abbrev pub grown : Tree Plain → ℕ → ℕ → Coordinates → Tree Plain
  grown t rule p c = with_node t rule (Some p) c.line c.column

  length-grown : (t : Tree Plain) (rule p : ℕ) (c : Coordinates) → length (grown t rule p c) ≡ suc (length t)
  length-grown t rule p c = omega (arith, length-append (with_item t p (Child (length t))) (added t p rule c ∷ []), length-with_item t p (Child (length t)))

  -- the node is there, with its children
  fill_below : (t : Tree Plain) (rule p : ℕ) (c : Coordinates) (below : Forest) → fill g (grown t rule p c) (length t) below
      ≡ (with_item t p (Child (length t)) ++ record (added t p rule c) { items = items g (suc (length t)) below } ∷ []) ++ nodes g (suc (length t)) (length t) 0 c below
  fill_below t rule p c below =
      ap (λ (n : ℕ). add_items (grown t rule p c) (length t) (items g n below) ++ nodes g n (length t) (places (grown t rule p c) (length t)) (coordinates_of (grown t rule p c) (length t)) below) (length-grown t rule p c)
      ∙ ap (λ (k : ℕ). add_items (grown t rule p c) (length t) (items g (suc (length t)) below) ++ nodes g (suc (length t)) (length t) k (coordinates_of (grown t rule p c) (length t)) below)
      (ap length (items_last (with_item t p (Child (length t))) (added t p rule c) (length t) (sym (length-with_item t p (Child (length t))))))
      ∙ ap (λ (d : Coordinates). add_items (grown t rule p c) (length t) (items g (suc (length t)) below) ++ nodes g (suc (length t)) (length t) 0 d below)
      (coordinates_last (with_item t p (Child (length t))) (added t p rule c) (length t) (sym (length-with_item t p (Child (length t)))))
      ∙ ap (λ (l : Tree Plain). l ++ nodes g (suc (length t)) (length t) 0 c below)
      (add_last (with_item t p (Child (length t))) (added t p rule c) (length t) (items g (suc (length t)) below) (sym (length-with_item t p (Child (length t)))))

  -- what the table is when the node, what is below it, and the siblings behind it are there
  pub fill_after : (t : Tree Plain) (rule p : ℕ) (c : Coordinates) (below after : Forest) → p < length t
      → fill g (fill g (grown t rule p c) (length t) below) p after
      ≡ add_items t p (Child (length t) ∷ items g (suc (length t + count below)) after)
      ++ (record (added t p rule c) { items = items g (suc (length t)) below } ∷ (nodes g (suc (length t)) (length t) 0 c below ++ nodes g (suc (length t + count below)) p (suc (places t p)) (coordinates_of t p) after))
  fill_after t rule p c below after less =
      let n = length t in
      let x : Item Plain = Child (length t) in
      let node' : Node Plain = record (added t p rule c) { items = items g (suc n) below } in
      let low : Tree Plain = nodes g (suc n) n 0 c below in
      let base : Tree Plain = with_item t p x in
      let u : Tree Plain = (base ++ node' ∷ []) ++ low in
      let inside : p < length base = omega (arith, length-with_item t p x, less) in
      let inside' : p < length (base ++ node' ∷ []) = omega (arith, inside, length-append base (node' ∷ [])) in
      let size : length u ≡ suc (n + count below) = omega (arith, length-append (base ++ node' ∷ []) low, length-append base (node' ∷ []), length-with_item t p x, length-nodes (suc n) n 0 c below) in
      let many : places u p ≡ suc (places t p) = ap length (items_left (base ++ node' ∷ []) low p inside') ∙ ap length (items_left base (node' ∷ []) p inside) ∙ places_with t p x less in
      let stands : coordinates_of u p ≡ coordinates_of t p = coordinates_left (base ++ node' ∷ []) low p inside' ∙ coordinates_left base (node' ∷ []) p inside ∙ same_coordinates t p x p in
      let m = suc (n + count below) in
      let last : Tree Plain = nodes g m p (suc (places t p)) (coordinates_of t p) after in
      ap (λ (v : Tree Plain). fill g v p after) (fill_below t rule p c below)
      ∙ ap (λ (k : ℕ). add_items u p (items g k after) ++ nodes g k p (places u p) (coordinates_of u p) after) size
      ∙ ap (λ (k : ℕ). add_items u p (items g m after) ++ nodes g m p k (coordinates_of u p) after) many
      ∙ ap (λ (d : Coordinates). add_items u p (items g m after) ++ nodes g m p (suc (places t p)) d after) stands
      ∙ ap (λ (v : Tree Plain). v ++ last)
      (add_left (base ++ node' ∷ []) low p (items g m after) inside' ∙ ap (λ (v : Tree Plain). v ++ low) (add_left base (node' ∷ []) p (items g m after) inside ∙ ap (λ (v : Tree Plain). v ++ node' ∷ []) (add_after t p x (items g m after))))
      ∙ append_assoc (add_items t p (x ∷ items g m after) ++ node' ∷ []) low last
      ∙ append_assoc (add_items t p (x ∷ items g m after)) (node' ∷ []) (low ++ last)

  named_rule : (name : List ℕ) (x : S) → g.named name ≡ Some x → rule_named g name ≡ g.rule x
  named_rule name x is = ap (λ (o : Option S). elim o as (λ _. ℕ) [ None ↦ 0 | Some y ↦ g.rule y ]) is

  fill_node : (t : Tree Plain) (p at name_at : ℕ) (name : List ℕ) (coordinates : Option Coordinates) (below : Forest) (end : ℕ) (after : Forest) (x : S) → p < length t → g.named name ≡ Some x
      → fill g t p (node at name_at name coordinates below end after) ≡ fill g (fill g (grown t (g.rule x) p (own coordinates (coordinates_of t p))) (length t) below) p after
  fill_node t p at name_at name coordinates below end after x less is =
      let n = length t in
      let c : Coordinates = own coordinates (coordinates_of t p) in
      let rest : Tree Plain = nodes g (suc n) n 0 c below ++ nodes g (suc (n + count below)) p (suc (places t p)) (coordinates_of t p) after in
      let front : Tree Plain = add_items t p (Child n ∷ items g (suc (n + count below)) after) in
      ap (λ (r : ℕ). front ++ (table_node r (Some p) (suc (places t p)) c (items g (suc n) below) ∷ rest)) (named_rule name x is)
      ∙ ap (λ (k : ℕ). front ++ (table_node (g.rule x) (Some p) k c (items g (suc n) below) ∷ rest)) (sym (add-one (places t p)))
      ∙ sym (fill_after t (g.rule x) p c below after less)

  -- ---- one part more

  frame_with : (at : ℕ) (shape : S) (rest : Forest) (close : ℕ) → Frame S
  frame_with at shape rest close = record { at = at; shape = shape; rest = rest; close = close }

  chosen : {X : Type 0} (b : Bool) (x y : X) → b ≡ true → (if b then x else y) ≡ x
  chosen true x y is = refl
  chosen false x y is = absurd (true≢false (sym is))

  refused : {X : Type 0} (b : Bool) (x y : X) → b ≡ false → (if b then x else y) ≡ y
  refused true x y is = absurd (true≢false is)
  refused false x y is = refl

  -- what comes of a table where there may be a fault
  abbrev pub go_on : Option TreeFault → Result (Tree Plain) TreeFault → Result (Tree Plain) TreeFault
  go_on o r = elim o [ None ↦ r | Some e ↦ Err e ]

  pub resume_int : (p : ℕ) (x : S) (at : ℕ) (v : ℤ) (after : Forest) (close : ℕ) (fs : List (Frame S)) (t : Tree Plain) → p < length t → g.takes_value x (places t p) type.Int ≡ true
      → resume g (record { at = p; shape = x; rest = int at v after; close = close } ∷ fs) t ≡ resume g (record { at = p; shape = x; rest = after; close = close } ∷ fs) (with_item t p (Leaf (Int v)))
  resume_int p x at v after close fs t less takes =
      ap (λ (o : Option TreeFault). go_on o (resume g fs (fill g t p (int at v after)))) (chosen (g.takes_value x (places t p) type.Int) (fault_among g x (suc (places t p)) (length t) after close) (Some (fault.WrongChild at)) takes)
      ∙ ap (λ (u : Tree Plain). go_on (fault_among g x (suc (places t p)) (length t) after close) (resume g fs u)) (fill_leaf t p (Int v) after less)
      ∙ ap (λ (k : ℕ). go_on (fault_among g x k (length t) after close) (resume g fs (fill g (with_item t p (Leaf (Int v))) p after))) (sym (places_with t p (Leaf (Int v)) less))
      ∙ ap (λ (n : ℕ). go_on (fault_among g x (places (with_item t p (Leaf (Int v))) p) n after close) (resume g fs (fill g (with_item t p (Leaf (Int v))) p after))) (sym (length-with_item t p (Leaf (Int v))))

  pub resume_no_int : (p : ℕ) (x : S) (at : ℕ) (v : ℤ) (after : Forest) (close : ℕ) (fs : List (Frame S)) (t : Tree Plain) → g.takes_value x (places t p) type.Int ≡ false
      → resume g (record { at = p; shape = x; rest = int at v after; close = close } ∷ fs) t ≡ Err (fault.WrongChild at)
  resume_no_int p x at v after close fs t takes =
      ap (λ (o : Option TreeFault). go_on o (resume g fs (fill g t p (int at v after)))) (refused (g.takes_value x (places t p) type.Int) (fault_among g x (suc (places t p)) (length t) after close) (Some (fault.WrongChild at)) takes)

  pub resume_text : (p : ℕ) (x : S) (at : ℕ) (v : List ℕ) (after : Forest) (close : ℕ) (fs : List (Frame S)) (t : Tree Plain) → p < length t → g.takes_value x (places t p) type.Str ≡ true
      → resume g (record { at = p; shape = x; rest = string at v after; close = close } ∷ fs) t ≡ resume g (record { at = p; shape = x; rest = after; close = close } ∷ fs) (with_item t p (Leaf (Str v)))
  resume_text p x at v after close fs t less takes =
      ap (λ (o : Option TreeFault). go_on o (resume g fs (fill g t p (string at v after)))) (chosen (g.takes_value x (places t p) type.Str) (fault_among g x (suc (places t p)) (length t) after close) (Some (fault.WrongChild at)) takes)
      ∙ ap (λ (u : Tree Plain). go_on (fault_among g x (suc (places t p)) (length t) after close) (resume g fs u)) (fill_leaf t p (Str v) after less)
      ∙ ap (λ (k : ℕ). go_on (fault_among g x k (length t) after close) (resume g fs (fill g (with_item t p (Leaf (Str v))) p after))) (sym (places_with t p (Leaf (Str v)) less))
      ∙ ap (λ (n : ℕ). go_on (fault_among g x (places (with_item t p (Leaf (Str v))) p) n after close) (resume g fs (fill g (with_item t p (Leaf (Str v))) p after))) (sym (length-with_item t p (Leaf (Str v))))

  pub resume_no_text : (p : ℕ) (x : S) (at : ℕ) (v : List ℕ) (after : Forest) (close : ℕ) (fs : List (Frame S)) (t : Tree Plain) → g.takes_value x (places t p) type.Str ≡ false
      → resume g (record { at = p; shape = x; rest = string at v after; close = close } ∷ fs) t ≡ Err (fault.WrongChild at)
  resume_no_text p x at v after close fs t takes =
      ap (λ (o : Option TreeFault). go_on o (resume g fs (fill g t p (string at v after)))) (refused (g.takes_value x (places t p) type.Str) (fault_among g x (suc (places t p)) (length t) after close) (Some (fault.WrongChild at)) takes)

  pub resume_end : (p : ℕ) (x : S) (close : ℕ) (fs : List (Frame S)) (t : Tree Plain) → g.is_enough x (places t p) ≡ true
      → resume g (record { at = p; shape = x; rest = none; close = close } ∷ fs) t ≡ resume g fs t
  resume_end p x close fs t enough =
      ap (λ (o : Option TreeFault). go_on o (resume g fs (fill g t p none))) (chosen (g.is_enough x (places t p)) None (Some (fault.WrongChild close)) enough)
      ∙ ap (λ (u : Tree Plain). resume g fs u) (fill_none t p)

  pub resume_no_end : (p : ℕ) (x : S) (close : ℕ) (fs : List (Frame S)) (t : Tree Plain) → g.is_enough x (places t p) ≡ false
      → resume g (record { at = p; shape = x; rest = none; close = close } ∷ fs) t ≡ Err (fault.WrongChild close)
  resume_no_end p x close fs t enough =
      ap (λ (o : Option TreeFault). go_on o (resume g fs (fill g t p none))) (refused (g.is_enough x (places t p)) None (Some (fault.WrongChild close)) enough)

  go_first : (a b : Option TreeFault) (r : Result (Tree Plain) TreeFault) → go_on (first_of a b) r ≡ go_on a (go_on b r)
  go_first None b r = refl
  go_first (Some e) b r = refl

  -- the node and what follows it, where its shape is known
  abbrev then_node : S → ℕ → ℕ → ℕ → S → Option TreeFault → Option TreeFault
  then_node s k n at x inner = if g.takes s k x then (if nat_le most_nodes n then Some (fault.TooMany many.Nodes) else inner) else Some (fault.WrongChild at)

  abbrev node_then : S → ℕ → ℕ → ℕ → ℕ → (S → Option TreeFault) → Option S → Option TreeFault
  node_then s k n at name_at inner o = elim o [ None ↦ Some (fault.UnknownRule name_at) | Some x ↦ then_node s k n at x (inner x) ]

  stops : (s : S) (k n at name_at : ℕ) (e : TreeFault) (inner : S → Option TreeFault) (o : Option S) → node_then s k n at name_at (λ x. None) o ≡ Some e → node_then s k n at name_at inner o ≡ Some e
  stops s k n at name_at e inner None is = is
  stops s k n at name_at e inner (Some x) is = by_takes (g.takes s k x) (nat_le most_nodes n) is
    where
      by_takes : (a b : Bool) → (if a then (if b then Some (fault.TooMany many.Nodes) else None) else Some (fault.WrongChild at)) ≡ Some e
          → (if a then (if b then Some (fault.TooMany many.Nodes) else inner x) else Some (fault.WrongChild at)) ≡ Some e
      by_takes true true is = is
      by_takes true false is = absurd (cc)
      by_takes false b is = is

  goes : (s : S) (k n at name_at : ℕ) (x : S) (inner : S → Option TreeFault) (o : Option S) → o ≡ Some x → node_then s k n at name_at (λ y. None) o ≡ None → node_then s k n at name_at inner o ≡ inner x
  goes s k n at name_at x inner None is free = absurd (cc)
  goes s k n at name_at x inner (Some y) is free = by_takes (g.takes s k y) (nat_le most_nodes n) free ∙ ap inner (let same : y ≡ x = cc in same)
    where
      by_takes : (a b : Bool) → (if a then (if b then Some (fault.TooMany many.Nodes) else None) else Some (fault.WrongChild at)) ≡ None
          → (if a then (if b then Some (fault.TooMany many.Nodes) else inner y) else Some (fault.WrongChild at)) ≡ inner y
      by_takes true true is = absurd (cc)
      by_takes true false is = refl
      by_takes false b is = absurd (cc)

  pub resume_no_node : (p : ℕ) (x : S) (at name_at : ℕ) (name : List ℕ) (coordinates : Option Coordinates) (below : Forest) (end : ℕ) (after : Forest) (close : ℕ) (fs : List (Frame S)) (t : Tree Plain) (e : TreeFault)
      → node_fault g x (places t p) (length t) at name_at name ≡ Some e
      → resume g (record { at = p; shape = x; rest = node at name_at name coordinates below end after; close = close } ∷ fs) t ≡ Err e
  resume_no_node p x at name_at name coordinates below end after close fs t e is =
      ap (λ (o : Option TreeFault). go_on o (resume g fs (fill g t p (node at name_at name coordinates below end after))))
      (stops x (places t p) (length t) at name_at e (λ y. first_of (fault_among g y 0 (suc (length t)) below end) (fault_among g x (suc (places t p)) (suc (length t + count below)) after close)) (g.named name) is)

  pub resume_node : (p : ℕ) (x : S) (at name_at : ℕ) (name : List ℕ) (coordinates : Option Coordinates) (below : Forest) (end : ℕ) (after : Forest) (close : ℕ) (fs : List (Frame S)) (t : Tree Plain) (y : S) → p < length t
      → g.named name ≡ Some y → node_fault g x (places t p) (length t) at name_at name ≡ None
      → resume g (record { at = p; shape = x; rest = node at name_at name coordinates below end after; close = close } ∷ fs) t
      ≡ resume g (record { at = length t; shape = y; rest = below; close = end } ∷ record { at = p; shape = x; rest = after; close = close } ∷ fs) (grown t (g.rule y) p (own coordinates (coordinates_of t p)))
  resume_node p x at name_at name coordinates below end after close fs t y less is free =
      let n = length t in
      let c : Coordinates = own coordinates (coordinates_of t p) in
      let t' : Tree Plain = grown t (g.rule y) p c in
      let u : Tree Plain = fill g t' n below in
      let low : Option TreeFault = fault_among g y 0 (suc n) below end in
      let later : Option TreeFault = fault_among g x (suc (places t p)) (suc (n + count below)) after close in
      let end_of : Result (Tree Plain) TreeFault = resume g fs (fill g u p after) in
      let item : Item Plain = Child n in
      let base : Tree Plain = with_item t p item in
      let node' : Node Plain = record (added t p (g.rule y) c) { items = items g (suc n) below } in
      let deep : Tree Plain = nodes g (suc n) n 0 c below in
      let whole = fill_below t (g.rule y) p c below in
      let inside : p < length base = omega (arith, length-with_item t p item, less) in
      let inside' : p < length (base ++ node' ∷ []) = omega (arith, inside, length-append base (node' ∷ [])) in
      let size : length u ≡ suc (n + count below) = ap length whole ∙ omega (arith, length-append (base ++ node' ∷ []) deep, length-append base (node' ∷ []), length-with_item t p item, length-nodes (suc n) n 0 c below) in
      let many' : places u p ≡ suc (places t p) = ap (λ (v : Tree Plain). places v p) whole ∙ ap length (items_left (base ++ node' ∷ []) deep p inside') ∙ ap length (items_left base (node' ∷ []) p inside) ∙ places_with t p item less in
      ap (λ (o : Option TreeFault). go_on o (resume g fs (fill g t p (node at name_at name coordinates below end after))))
      (goes x (places t p) n at name_at y (λ z. first_of (fault_among g z 0 (suc n) below end) later) (g.named name) is free)
      ∙ ap (λ (v : Tree Plain). go_on (first_of low later) (resume g fs v)) (fill_node t p at name_at name coordinates below end after y less is)
      ∙ go_first low later end_of
      ∙ ap (λ (k : ℕ). go_on low (go_on (fault_among g x k (suc (n + count below)) after close) end_of)) (sym many')
      ∙ ap (λ (m : ℕ). go_on low (go_on (fault_among g x (places u p) m after close) end_of)) (sym size)
      ∙ ap (λ (k : ℕ). go_on (fault_among g y k (suc n) below end) (go_on (fault_among g x (places u p) (length u) after close) end_of))
      (sym (ap length (items_last base (added t p (g.rule y) c) n (sym (length-with_item t p item)))))
      ∙ ap (λ (m : ℕ). go_on (fault_among g y (places t' n) m below end) (go_on (fault_among g x (places u p) (length u) after close) end_of)) (sym (length-grown t (g.rule y) p c))
