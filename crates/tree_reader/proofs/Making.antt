-- One part more of a tree that is written in part.
use Rattle.std.proofs.Common.{◌≡◌, ℕ, ℤ, ◌+◌, ◌<◌, ◌≤◌, true, false, List, [], ◌∷◌, ◌++◌, map, length, Some, None, Option, Result, Err, refl, ap, sym, ◌∙◌, subst, arith, append_assoc, suc, zero, length-append}
use Rattle.std.specs.Prelude.{slice_get, unwrap_or}
use Rattle.std.proofs.lemmas.List.{map-append}
use Rattle.std.proofs.lemmas.Option.{none-some}
use Rattle.lido_base.specs.Plain.{Plain, Int, Str, plain, plain_item, plain_tree}
use Rattle.lido_base.specs.Tree.{Tree, Node, Item, Child, Leaf, IsTree, items_of, parent_of, places, with_item, with_node}
use Rattle.lido_base.specs.declared.ids.StrId.{StrId}
use Rattle.lido_base.specs.declared.value.Value.{Value}
use Rattle.lido_base.specs.declared.value.Value.TheVariants as value
use Rattle.lido_base.specs.declared.value.ValueType.TheVariants as type
use Rattle.lido_lexer.specs.Lexing.{Gains}
use Rattle.lido_base.proofs.PlainLemmas.{plain_length, plain_line, plain_column}
use Rattle.tree_store.specs.Growth.{IsOpen}
use Rattle.tree_store.specs.declared.fault.TreeFault.{TreeFault}
use Rattle.tree_store.specs.declared.fault.TreeFault.TheVariants as fault
use Rattle.tree_store.proofs.GrowthLemmas.{length-with_item, parent_of-with_item, parent_of_last}
use Rattle.tree_store.proofs.OpenLemmas.{open_upwards, parent_kept}
use Rattle.tree_reader.specs.Language.{Forest, none, node, int, string, parts_of}
use Rattle.tree_reader.specs.WrittenTrees.{Asked, Frame, resume, node_fault, coordinates_of, own}
use Rattle.tree_reader.specs.Writing.{AreOpen, CanGrow, AreLeft, MakesOf}
use Rattle.tree_reader.specs.declared.part.Coordinates.{Coordinates}
use Rattle.tree_reader.specs.declared.part.Part.{Part}
use Rattle.tree_reader.specs.declared.part.Part.TheVariants as part
use Rattle.tree_reader.specs.declared.writer.Open.{Open}
use Rattle.tree_reader.proofs.Filling.{places_with, items_left, items_last, resume_int, resume_no_int, resume_text, resume_no_text, resume_end, resume_no_end, grown, resume_node, resume_no_node}

-- ---- the tree of plain values

abbrev plain_node : List (List ℕ) → Node Value → Node Plain
plain_node texts n = record { rule = n.rule; parent = n.parent; place = n.place; line = n.line; column = n.column; items = map (plain_item texts) n.items }

plain_with_item : (texts : List (List ℕ)) (t : Tree Value) (p : ℕ) (x : Item Value) → plain_tree texts (with_item t p x) ≡ with_item (plain_tree texts t) p (plain_item texts x)
plain_with_item texts [] p x = refl
plain_with_item texts (n ∷ t) zero x = ap (λ (l : List (Item Plain)). record { rule = n.rule; parent = n.parent; place = n.place; line = n.line; column = n.column; items = l } ∷ plain_tree texts t) (map-append (plain_item texts) n.items (x ∷ []))
plain_with_item texts (n ∷ t) (suc p) x = ap (λ (l : Tree Plain). plain_node texts n ∷ l) (plain_with_item texts t p x)

plain_coordinates : (texts : List (List ℕ)) (t : Tree Value) (q : ℕ) → coordinates_of (plain_tree texts t) q ≡ coordinates_of t q
plain_coordinates texts t q = λ i. record { line = plain_line texts t q i; column = plain_column texts t q i }

mapped : {X Y : Type 0} (f : X → Y) (xs : List X) → length (map f xs) ≡ length xs
mapped f [] = refl
mapped f (x ∷ xs) = ap suc (mapped f xs)

plain_places : (texts : List (List ℕ)) (t : Tree Value) (p : ℕ) → places (plain_tree texts t) p ≡ places t p
plain_places texts [] p = refl
plain_places texts (n ∷ t) zero = mapped (plain_item texts) n.items
plain_places texts (n ∷ t) (suc p) = plain_places texts t p

plain_append : (texts : List (List ℕ)) (t u : Tree Value) → plain_tree texts (t ++ u) ≡ plain_tree texts t ++ plain_tree texts u
plain_append texts [] u = refl
plain_append texts (n ∷ t) u = ap (λ (l : Tree Plain). plain_node texts n ∷ l) (plain_append texts t u)

plain_with_node : (texts : List (List ℕ)) (t : Tree Value) (rule p line column : ℕ) → plain_tree texts (with_node t rule (Some p) line column) ≡ with_node (plain_tree texts t) rule (Some p) line column
plain_with_node texts t rule p line column =
    plain_append texts (with_item t p (Child (length t))) (record { rule = rule; parent = Some p; place = places t p + 1; line = line; column = column; items = [] } ∷ [])
    ∙ ap (λ (l : Tree Plain). l ++ (record { rule = rule; parent = Some p; place = places t p + 1; line = line; column = column; items = [] } ∷ [])) (plain_with_item texts t p (Child (length t)))
    ∙ ap (λ (n : ℕ). with_item (plain_tree texts t) p (Child n) ++ (record { rule = rule; parent = Some p; place = places t p + 1; line = line; column = column; items = [] } ∷ [])) (sym (plain_length texts t))
    ∙ ap (λ (n : ℕ). with_item (plain_tree texts t) p (Child (length (plain_tree texts t))) ++ (record { rule = rule; parent = Some p; place = n + 1; line = line; column = column; items = [] } ∷ [])) (sym (plain_places texts t p))

-- ---- open nodes

items_other : {V : Type 0} (t : Tree V) (p q : ℕ) (x : Item V) → q < p → items_of (with_item t p x) q ≡ items_of t q
items_other [] p q x less = refl
items_other (n ∷ t) zero q x less = absurd (omega arith)
items_other (n ∷ t) (suc p) zero x less = refl
items_other (n ∷ t) (suc p) (suc q) x less = items_other t p q x (omega arith)

-- the tree is as it was at the nodes below the bound
record Same (t u : Tree Value) (bound : ℕ) : Type 0 where
  counts : (q : ℕ) → q < bound → places u q ≡ places t q
  parents : (q : ℕ) → q < bound → parent_of u q ≡ parent_of t q

still_open : (t u : Tree Value) (shapes most more bound : ℕ) (os : List Open) → Same t u bound → most ≤ more → AreOpen t shapes most bound os → AreOpen u shapes more bound os
still_open t u shapes most more bound [] same less are = tt
still_open t u shapes most more bound (o ∷ os) same less (inside, has, few, shape, parent, rest) = (
  inside,
  has ∙ sym (same.counts o.node inside),
  omega (arith, few, less),
  shape,
  same.parents o.node inside ∙ parent,
  still_open t u shapes most more o.node os (record { counts = λ q low. same.counts q (omega (arith, low, inside)); parents = λ q low. same.parents q (omega (arith, low, inside)) }) less rest,
)

further : (t : Tree Value) (shapes most bound wider : ℕ) (os : List Open) → bound ≤ wider → AreOpen t shapes most bound os → AreOpen t shapes most wider os
further t shapes most bound wider [] less are = tt
further t shapes most bound wider (o ∷ os) less (inside, has, few, shape, parent, rest) = (omega (arith, inside, less), has, few, shape, parent, rest)

abbrev pub with_one_more : Open → Open
with_one_more o = record o { has = o.has + 1 }

pub open_after_leaf : (t : Tree Value) (shapes most : ℕ) (o : Open) (os : List Open) (v : Value) → AreOpen t shapes most (length t) (o ∷ os)
    → AreOpen (with_item t o.node (Leaf v)) shapes (most + 1) (length (with_item t o.node (Leaf v))) (with_one_more o ∷ os)
open_after_leaf t shapes most o os v (inside, has, few, shape, parent, rest) = (
  omega (arith, inside, length-with_item t o.node (Leaf v)),
  omega (arith, has, places_with t o.node (Leaf v) inside),
  omega (arith, few),
  shape,
  parent_of-with_item t o.node (Leaf v) o.node ∙ parent,
  still_open t (with_item t o.node (Leaf v)) shapes most (most + 1) o.node os
      (record { counts = λ q low. ap length (items_other t o.node q (Leaf v) low); parents = λ q low. parent_of-with_item t o.node (Leaf v) q }) (omega arith) rest,
)

grown_length : (t : Tree Value) (rule p line column : ℕ) → length (with_node t rule (Some p) line column) ≡ suc (length t)
grown_length t rule p line column = omega (arith, length-append (with_item t p (Child (length t))) (record { rule = rule; parent = Some p; place = places t p + 1; line = line; column = column; items = [] } ∷ []), length-with_item t p (Child (length t)))

grown_places : (t : Tree Value) (rule p line column q : ℕ) → q < length t → places (with_node t rule (Some p) line column) q ≡ places (with_item t p (Child (length t))) q
grown_places t rule p line column q less = ap length (items_left (with_item t p (Child (length t))) (record { rule = rule; parent = Some p; place = places t p + 1; line = line; column = column; items = [] } ∷ []) q (omega (arith, less, length-with_item t p (Child (length t)))))

pub open_after_node : (t : Tree Value) (shapes most rule line column : ℕ) (o new : Open) (os : List Open) → AreOpen t shapes most (length t) (o ∷ os) → new.node ≡ length t → new.has ≡ 0 → new.shape < shapes
    → AreOpen (with_node t rule (Some o.node) line column) shapes (most + 1) (length (with_node t rule (Some o.node) line column)) (new ∷ with_one_more o ∷ os)
open_after_node t shapes most rule line column o new os (inside, has, few, shape, parent, rest) number empty fits = (
  omega (arith, number, grown_length t rule o.node line column),
  empty ∙ sym (ap length (items_last (with_item t o.node (Child (length t))) (record { rule = rule; parent = Some o.node; place = places t o.node + 1; line = line; column = column; items = [] }) new.node (number ∙ sym (length-with_item t o.node (Child (length t)))))),
  omega (arith, empty),
  fits,
  parent_of_last (with_item t o.node (Child (length t))) (record { rule = rule; parent = Some o.node; place = places t o.node + 1; line = line; column = column; items = [] }) new.node (number ∙ sym (length-with_item t o.node (Child (length t)))),
  (
    omega (arith, inside, number),
    omega (arith, has, grown_places t rule o.node line column o.node inside, places_with t o.node (Child (length t)) inside),
    omega (arith, few),
    shape,
    parent_kept t rule o.node line column o.node inside ∙ parent,
    still_open t (with_node t rule (Some o.node) line column) shapes most (most + 1) o.node os
        (record { counts = λ q low. grown_places t rule o.node line column q (omega (arith, low, inside)) ∙ ap length (items_other t o.node q (Child (length t)) low); parents = λ q low. parent_kept t rule o.node line column q (omega (arith, low, inside)) }) (omega arith) rest,
  ),
)

pub open_after_end : (t : Tree Value) (shapes most : ℕ) (o : Open) (os : List Open) → AreOpen t shapes most (length t) (o ∷ os) → AreOpen t shapes (most + 1) (length t) os
open_after_end t shapes most o os (inside, has, few, shape, parent, rest) =
    further t shapes (most + 1) o.node (length t) os (omega (arith, inside)) (still_open t t shapes most (most + 1) o.node os (record { counts = λ q low. refl; parents = λ q low. refl }) (omega arith) rest)

pub grows_after_end : (t : Tree Value) (shapes most : ℕ) (o : Open) (os : List Open) → IsTree t → AreOpen t shapes most (length t) (o ∷ os) → IsOpen t o.node → CanGrow t os
grows_after_end t shapes most o [] tree are is_open = tt
grows_after_end t shapes most o (q ∷ os) tree (inside, has, few, shape, parent, rest) is_open = open_upwards t tree o.node q.node is_open parent

-- ---- what comes of one part more

kept : {X : Type 0} (xs ys : List X) (i : ℕ) (x : X) → slice_get xs i ≡ Some x → slice_get (xs ++ ys) i ≡ Some x
kept [] ys i x e = absurd (none-some _ e)
kept (y ∷ xs) ys zero x e = e
kept (y ∷ xs) ys (suc i) x e = kept xs ys i x e

frame_is : (f : Frame ℕ) (o : Open) (rest : Forest) → o.node ≡ f.at → o.shape ≡ f.shape → f.rest ≡ rest → f ≡ record { at = o.node; shape = o.shape; rest = rest; close = f.close }
frame_is f o rest at shape is =
    ap (λ (n : ℕ). record { at = n; shape = f.shape; rest = f.rest; close = f.close }) (sym at)
    ∙ ap (λ (n : ℕ). record { at = o.node; shape = n; rest = f.rest; close = f.close }) (sym shape)
    ∙ ap (λ (l : Forest). record { at = o.node; shape = o.shape; rest = l; close = f.close }) is

pub makes_grown : {g : Asked ℕ} {texts more : List (List ℕ)} {t : Tree Value} {os : List Open} {parts : List Part} {answer : Result (Tree Plain) TreeFault} → Gains texts more
    → MakesOf g texts t os parts answer → MakesOf g more t os parts answer
makes_grown {g} {texts} {more} {t} gains m =
    let same : plain_tree more t ≡ plain_tree texts t = ap (λ (l : List (List ℕ)). plain_tree l t) gains.behind ∙ m.stable gains.added in
    record {
      frames = m.frames;
      left = m.left;
      comes = m.comes ∙ ap (resume g m.frames) (sym same);
      stable = λ later. ap (λ (l : List (List ℕ)). plain_tree (l ++ later) t) gains.behind ∙ ap (λ (l : List (List ℕ)). plain_tree l t) (append_assoc texts gains.added later) ∙ m.stable (gains.added ++ later) ∙ sym same;
    }

-- the table with a further leaf, whose value stays
leaf_stays : (texts later : List (List ℕ)) (t : Tree Value) (p : ℕ) (v : Value) → plain_tree (texts ++ later) t ≡ plain_tree texts t → plain (texts ++ later) v ≡ plain texts v
    → plain_tree (texts ++ later) (with_item t p (Leaf v)) ≡ plain_tree texts (with_item t p (Leaf v))
leaf_stays texts later t p v stable same =
    plain_with_item (texts ++ later) t p (Leaf v)
    ∙ ap (λ (u : Tree Plain). with_item u p (Leaf (plain (texts ++ later) v))) stable
    ∙ ap (λ (x : Plain). with_item (plain_tree texts t) p (Leaf x)) same
    ∙ sym (plain_with_item texts t p (Leaf v))

-- what is known of the innermost node
pub record Innermost (g : Asked ℕ) (texts : List (List ℕ)) (t : Tree Value) (o : Open) (f : Frame ℕ) : Type 0 where
  pub at : o.node ≡ f.at
  pub shape : o.shape ≡ f.shape
  pub inside : o.node < length t
  pub has : o.has ≡ places t o.node

module _ (g : Asked ℕ) (texts : List (List ℕ)) (t : Tree Value) (o : Open) (f : Frame ℕ) (fs : List (Frame ℕ)) (os : List Open) (known : Innermost g texts t o f) where
  abbrev P : Tree Plain
  P = plain_tree texts t

  counted : places (plain_tree texts t) o.node ≡ o.has
  counted = plain_places texts t o.node ∙ sym known.has

  inside_plain : o.node < length (plain_tree texts t)
  inside_plain = omega (arith, known.inside, plain_length texts t)

  abbrev with_rest : Forest → Frame ℕ
  with_rest rest = record { at = o.node; shape = o.shape; rest = rest; close = f.close }

  same_frame : (rest : Forest) → f.rest ≡ rest → resume g (f ∷ fs) P ≡ resume g (with_rest rest ∷ fs) P
  same_frame rest is = ap (λ (x : Frame ℕ). resume g (x ∷ fs) P) (frame_is f o rest known.at known.shape is)

  pub int_goes : (at : ℕ) (z : ℤ) (more later : List Part) (answer : Result (Tree Plain) TreeFault) (rest : Forest) → f.rest ≡ rest → part.Int at z ∷ more ≡ parts_of rest ++ (part.End f.close ∷ later)
      → AreLeft os fs later → answer ≡ resume g (f ∷ fs) P → ((l : List (List ℕ)) → plain_tree (texts ++ l) t ≡ P) → g.takes_value o.shape o.has type.Int ≡ true
      → MakesOf g texts (with_item t o.node (Leaf (value.Int z))) (with_one_more o ∷ os) more answer
  int_goes at z more later answer none is e left comes stable takes = absurd (cc)
  int_goes at z more later answer (node from name_from name others below end after) is e left comes stable takes = absurd (cc)
  int_goes at z more later answer (string from text after) is e left comes stable takes = absurd (cc)
  int_goes at z more later answer (int from y after) is e left comes stable takes = record {
    frames = with_rest after ∷ fs;
    left = (refl, refl, later, (let tail : more ≡ parts_of after ++ (part.End f.close ∷ later) = cc in tail), left);
    comes = comes ∙ same_frame (int from y after) is
        ∙ resume_int g o.node o.shape from y after f.close fs P inside_plain (subst (λ (k : ℕ). g.takes_value o.shape k type.Int ≡ true) (sym counted) takes)
        ∙ ap (λ (x : ℤ). resume g (with_rest after ∷ fs) (with_item P o.node (Leaf (Int x)))) (let same : y ≡ z = cc in same)
        ∙ ap (λ (u : Tree Plain). resume g (with_rest after ∷ fs) u) (sym (plain_with_item texts t o.node (Leaf (value.Int z))));
    stable = λ l. leaf_stays texts l t o.node (value.Int z) (stable l) refl;
  }

  pub int_stops : (at : ℕ) (z : ℤ) (more later : List Part) (answer : Result (Tree Plain) TreeFault) (rest : Forest) → f.rest ≡ rest → part.Int at z ∷ more ≡ parts_of rest ++ (part.End f.close ∷ later)
      → answer ≡ resume g (f ∷ fs) P → g.takes_value o.shape o.has type.Int ≡ false → answer ≡ Err (fault.WrongChild at)
  int_stops at z more later answer none is e comes takes = absurd (cc)
  int_stops at z more later answer (node from name_from name others below end after) is e comes takes = absurd (cc)
  int_stops at z more later answer (string from text after) is e comes takes = absurd (cc)
  int_stops at z more later answer (int from y after) is e comes takes = comes ∙ same_frame (int from y after) is
      ∙ resume_no_int g o.node o.shape from y after f.close fs P (subst (λ (k : ℕ). g.takes_value o.shape k type.Int ≡ false) (sym counted) takes)
      ∙ ap (λ (n : ℕ). Err (fault.WrongChild n)) (let same : from ≡ at = cc in same)

  pub text_goes : (at : ℕ) (text : List ℕ) (id : StrId) (more later : List Part) (answer : Result (Tree Plain) TreeFault) (rest : Forest) → f.rest ≡ rest
      → part.Str at text ∷ more ≡ parts_of rest ++ (part.End f.close ∷ later) → slice_get texts id.0 ≡ Some text
      → AreLeft os fs later → answer ≡ resume g (f ∷ fs) P → ((l : List (List ℕ)) → plain_tree (texts ++ l) t ≡ P) → g.takes_value o.shape o.has type.Str ≡ true
      → MakesOf g texts (with_item t o.node (Leaf (value.Str id))) (with_one_more o ∷ os) more answer
  text_goes at text id more later answer none is e there left comes stable takes = absurd (cc)
  text_goes at text id more later answer (node from name_from name others below end after) is e there left comes stable takes = absurd (cc)
  text_goes at text id more later answer (int from y after) is e there left comes stable takes = absurd (cc)
  text_goes at text id more later answer (string from y after) is e there left comes stable takes = record {
    frames = with_rest after ∷ fs;
    left = (refl, refl, later, (let tail : more ≡ parts_of after ++ (part.End f.close ∷ later) = cc in tail), left);
    comes = comes ∙ same_frame (string from y after) is
        ∙ resume_text g o.node o.shape from y after f.close fs P inside_plain (subst (λ (k : ℕ). g.takes_value o.shape k type.Str ≡ true) (sym counted) takes)
        ∙ ap (λ (x : List ℕ). resume g (with_rest after ∷ fs) (with_item P o.node (Leaf (Str x)))) (let same : y ≡ text = cc in same)
        ∙ ap (λ (x : Option (List ℕ)). resume g (with_rest after ∷ fs) (with_item P o.node (Leaf (Str (unwrap_or x []))))) (sym there)
        ∙ ap (λ (u : Tree Plain). resume g (with_rest after ∷ fs) u) (sym (plain_with_item texts t o.node (Leaf (value.Str id))));
    stable = λ l. leaf_stays texts l t o.node (value.Str id) (stable l) (ap (λ (x : Option (List ℕ)). Str (unwrap_or x [])) (kept texts l id.0 text there ∙ sym there));
  }

  pub text_stops : (at : ℕ) (text : List ℕ) (more later : List Part) (answer : Result (Tree Plain) TreeFault) (rest : Forest) → f.rest ≡ rest → part.Str at text ∷ more ≡ parts_of rest ++ (part.End f.close ∷ later)
      → answer ≡ resume g (f ∷ fs) P → g.takes_value o.shape o.has type.Str ≡ false → answer ≡ Err (fault.WrongChild at)
  text_stops at z more later answer none is e comes takes = absurd (cc)
  text_stops at z more later answer (node from name_from name others below end after) is e comes takes = absurd (cc)
  text_stops at z more later answer (int from text after) is e comes takes = absurd (cc)
  text_stops at z more later answer (string from y after) is e comes takes = comes ∙ same_frame (string from y after) is
      ∙ resume_no_text g o.node o.shape from y after f.close fs P (subst (λ (k : ℕ). g.takes_value o.shape k type.Str ≡ false) (sym counted) takes)
      ∙ ap (λ (n : ℕ). Err (fault.WrongChild n)) (let same : from ≡ at = cc in same)

  pub end_goes : (at : ℕ) (more later : List Part) (answer : Result (Tree Plain) TreeFault) (rest : Forest) → f.rest ≡ rest → part.End at ∷ more ≡ parts_of rest ++ (part.End f.close ∷ later)
      → AreLeft os fs later → answer ≡ resume g (f ∷ fs) P → ((l : List (List ℕ)) → plain_tree (texts ++ l) t ≡ P) → g.is_enough o.shape o.has ≡ true
      → MakesOf g texts t os more answer
  end_goes at more later answer (int from y after) is e left comes stable takes = absurd (cc)
  end_goes at more later answer (node from name_from name others below end after) is e left comes stable takes = absurd (cc)
  end_goes at more later answer (string from text after) is e left comes stable takes = absurd (cc)
  end_goes at more later answer none is e left comes stable takes = record {
    frames = fs;
    left = subst (λ (l : List Part). AreLeft os fs l) (let tail : later ≡ more = cc in tail) left;
    comes = comes ∙ same_frame none is ∙ resume_end g o.node o.shape f.close fs P (subst (λ (k : ℕ). g.is_enough o.shape k ≡ true) (sym counted) takes);
    stable = stable;
  }

  pub end_stops : (at : ℕ) (more later : List Part) (answer : Result (Tree Plain) TreeFault) (rest : Forest) → f.rest ≡ rest → part.End at ∷ more ≡ parts_of rest ++ (part.End f.close ∷ later)
      → answer ≡ resume g (f ∷ fs) P → g.is_enough o.shape o.has ≡ false → answer ≡ Err (fault.WrongChild at)
  end_stops at more later answer (int from y after) is e comes takes = absurd (cc)
  end_stops at more later answer (node from name_from name others below end after) is e comes takes = absurd (cc)
  end_stops at more later answer (string from text after) is e comes takes = absurd (cc)
  end_stops at more later answer none is e comes takes = comes ∙ same_frame none is ∙ resume_no_end g o.node o.shape f.close fs P (subst (λ (k : ℕ). g.is_enough o.shape k ≡ false) (sym counted) takes)
      ∙ ap (λ (n : ℕ). Err (fault.WrongChild n)) (let same : f.close ≡ at = cc in same)

  node_stays : (l : List (List ℕ)) (rule line column : ℕ) → plain_tree (texts ++ l) t ≡ P → plain_tree (texts ++ l) (with_node t rule (Some o.node) line column) ≡ plain_tree texts (with_node t rule (Some o.node) line column)
  node_stays l rule line column stable = plain_with_node (texts ++ l) t rule o.node line column ∙ ap (λ (u : Tree Plain). with_node u rule (Some o.node) line column) stable ∙ sym (plain_with_node texts t rule o.node line column)

  -- the coordinates of a node below the innermost one
  abbrev pub placed : Option Coordinates → Coordinates
  placed coordinates = own coordinates (coordinates_of t o.node)

  pub node_goes : (at name_at : ℕ) (name : List ℕ) (coordinates : Option Coordinates) (new : Open) (more later : List Part) (answer : Result (Tree Plain) TreeFault) (rest : Forest) → f.rest ≡ rest
      → part.Begin at name_at name coordinates ∷ more ≡ parts_of rest ++ (part.End f.close ∷ later)
      → AreLeft os fs later → answer ≡ resume g (f ∷ fs) P → ((l : List (List ℕ)) → plain_tree (texts ++ l) t ≡ P)
      → new.node ≡ length t → g.named name ≡ Some new.shape → node_fault g o.shape o.has (length t) at name_at name ≡ None
      → MakesOf g texts (with_node t (g.rule new.shape) (Some o.node) (placed coordinates).line (placed coordinates).column) (new ∷ with_one_more o ∷ os) more answer
  node_goes at name_at name coordinates new more later answer none is e left comes stable number named free = absurd (cc)
  node_goes at name_at name coordinates new more later answer (int from z after) is e left comes stable number named free = absurd (cc)
  node_goes at name_at name coordinates new more later answer (string from text after) is e left comes stable number named free = absurd (cc)
  node_goes at name_at name coordinates new more later answer (node from name_from text others below end after) is e left comes stable number named free =
      let same_coordinates : coordinates ≡ others = cc in
      let same_name : name ≡ text = cc in
      let same_at : at ≡ from = cc in
      let same_name_at : name_at ≡ name_from = cc in
      let free' : node_fault g o.shape o.has (length t) from name_from text ≡ None =
      subst (λ (l : List ℕ). node_fault g o.shape o.has (length t) from name_from l ≡ None) same_name
      (subst (λ (n : ℕ). node_fault g o.shape o.has (length t) from n name ≡ None) same_name_at (subst (λ (n : ℕ). node_fault g o.shape o.has (length t) n name_at name ≡ None) same_at free)) in
      let free'' : node_fault g o.shape (places P o.node) (length P) from name_from text ≡ None =
      subst (λ (k : ℕ). node_fault g o.shape k (length P) from name_from text ≡ None) (sym counted)
      (subst (λ (k : ℕ). node_fault g o.shape o.has k from name_from text ≡ None) (sym (plain_length texts t)) free') in
      record {
        frames = record { at = new.node; shape = new.shape; rest = below; close = end } ∷ with_rest after ∷ fs;
        left = (
          refl,
          refl,
          parts_of after ++ (part.End f.close ∷ later),
          (let tail : more ≡ (parts_of below ++ (part.End end ∷ parts_of after)) ++ (part.End f.close ∷ later) = cc in tail ∙ append_assoc (parts_of below) (part.End end ∷ parts_of after) (part.End f.close ∷ later)),
          (refl, refl, later, refl, left),
        );
        comes = comes ∙ same_frame (node from name_from text others below end after) is
            ∙ resume_node g o.node o.shape from name_from text others below end after f.close fs P new.shape inside_plain (ap g.named (sym same_name) ∙ named) free''
            ∙ ap (λ (n : ℕ). resume g (record { at = n; shape = new.shape; rest = below; close = end } ∷ with_rest after ∷ fs) (grown g P (g.rule new.shape) o.node (own others (coordinates_of P o.node)))) (plain_length texts t ∙ sym number)
            ∙ ap (λ (d : Coordinates). resume g (record { at = new.node; shape = new.shape; rest = below; close = end } ∷ with_rest after ∷ fs) (grown g P (g.rule new.shape) o.node (own others d))) (plain_coordinates texts t o.node)
            ∙ ap (λ (d : Option Coordinates). resume g (record { at = new.node; shape = new.shape; rest = below; close = end } ∷ with_rest after ∷ fs) (grown g P (g.rule new.shape) o.node (placed d))) (sym same_coordinates)
            ∙ ap (λ (u : Tree Plain). resume g (record { at = new.node; shape = new.shape; rest = below; close = end } ∷ with_rest after ∷ fs) u) (sym (plain_with_node texts t (g.rule new.shape) o.node (placed coordinates).line (placed coordinates).column));
        stable = λ l. node_stays l (g.rule new.shape) (placed coordinates).line (placed coordinates).column (stable l);
      }

  pub node_stops : (at name_at : ℕ) (name : List ℕ) (coordinates : Option Coordinates) (e' : TreeFault) (more later : List Part) (answer : Result (Tree Plain) TreeFault) (rest : Forest) → f.rest ≡ rest
      → part.Begin at name_at name coordinates ∷ more ≡ parts_of rest ++ (part.End f.close ∷ later)
      → answer ≡ resume g (f ∷ fs) P → node_fault g o.shape o.has (length t) at name_at name ≡ Some e' → answer ≡ Err e'
  node_stops at name_at name coordinates e' more later answer none is e comes stops = absurd (cc)
  node_stops at name_at name coordinates e' more later answer (int from z after) is e comes stops = absurd (cc)
  node_stops at name_at name coordinates e' more later answer (string from text after) is e comes stops = absurd (cc)
  node_stops at name_at name coordinates e' more later answer (node from name_from text others below end after) is e comes stops =
      let same_name : name ≡ text = cc in
      let same_at : at ≡ from = cc in
      let same_name_at : name_at ≡ name_from = cc in
      let stops' : node_fault g o.shape o.has (length t) from name_from text ≡ Some e' =
      subst (λ (l : List ℕ). node_fault g o.shape o.has (length t) from name_from l ≡ Some e') same_name
      (subst (λ (n : ℕ). node_fault g o.shape o.has (length t) from n name ≡ Some e') same_name_at (subst (λ (n : ℕ). node_fault g o.shape o.has (length t) n name_at name ≡ Some e') same_at stops)) in
      comes ∙ same_frame (node from name_from text others below end after) is
      ∙ resume_no_node g o.node o.shape from name_from text others below end after f.close fs P e'
      (subst (λ (k : ℕ). node_fault g o.shape k (length P) from name_from text ≡ Some e') (sym counted)
      (subst (λ (k : ℕ). node_fault g o.shape o.has k from name_from text ≡ Some e') (sym (plain_length texts t)) stops'))
