-- A tree that is written in part gets one part more.
use Rattle.std.proofs.Common.{◌≡◌, ℕ, ℤ, ◌+◌, ◌<◌, ◌≤◌, inl, Bool, true, false, true≢false, if◌then◌else◌, List, [], ◌∷◌, ◌++◌, length, Some, None, Option, Result, Ok, Err, refl, ap, sym, ◌∙◌, subst, arith, append-nil, add-one, drop, get_or}
use Rattle.std.proofs.Math.Seq.{drop-cons}
use Rattle.std.proofs.lemmas.List.{drop_all}
use Rattle.std.specs.Prelude.{slice_get, option_to_list, IfOk, OnOk, IfErr}
use Rattle.lido_base.specs.Plain.{Plain, plain_tree}
use Rattle.lido_base.specs.Tree.{Tree, Leaf, IsTree, with_item, with_node}
use Rattle.lido_base.specs.declared.ids.StrId.{StrId}
use Rattle.lido_base.specs.declared.value.Value.{Value}
use Rattle.lido_base.specs.declared.value.Value.TheVariants as value
use Rattle.lido_base.specs.declared.value.ValueType.TheVariants as type
use Rattle.lido_lexer.specs.Lexing.{Gains}
use Rattle.tree_store.specs.Growth.{IsOpen}
use Rattle.tree_store.specs.declared.fault.TreeFault.{TreeFault}
use Rattle.tree_store.specs.declared.fault.TreeFault.TheVariants as fault
use Rattle.tree_store.proofs.OpenLemmas.{open_kept, open_added}
use Rattle.tree_reader.specs.Language.{Forest, none, node, int, string, parts_of}
use Rattle.tree_reader.specs.WrittenTrees.{Asked, Frame, resume, node_fault, unless_fault, items, nodes, fault_among, meaning, coordinates_of, no_coordinates, own, table_node}
use Rattle.tree_reader.specs.Writing.{AreOpen, CanGrow, IsStack, IsPath, AreLeft, MakesOf, IsWritten, FailsAs, RefusesIf, StopsAt, MeansFault}
use Rattle.tree_reader.specs.declared.part.Coordinates.{Coordinates}
use Rattle.tree_reader.specs.declared.part.Part.{Part}
use Rattle.tree_reader.specs.declared.part.Part.TheVariants as part
use Rattle.tree_reader.specs.declared.writer.Open.{Open}
use Rattle.tree_reader.proofs.Making.{Innermost, with_one_more, makes_grown, int_goes, int_stops, text_goes, text_stops, end_goes, end_stops, node_goes, node_stops, open_after_leaf, open_after_node, open_after_end, grows_after_end}

-- the last of a list, and what is before it
no_snoc : (xs : List Open) (x : Open) → [] ≡ xs ++ x ∷ [] → ⊥
no_snoc [] x e = cc
no_snoc (y ∷ xs) x e = cc

same_snoc : (xs ys : List Open) (x y : Open) → xs ++ x ∷ [] ≡ ys ++ y ∷ [] → (xs ≡ ys) × (x ≡ y)
same_snoc [] [] x y e = (refl, cc)
same_snoc [] (z ∷ ys) x y e = absurd (no_snoc ys y (let tail : [] ≡ ys ++ y ∷ [] = cc in tail))
same_snoc (z ∷ xs) [] x y e = absurd (no_snoc xs x (let tail : [] ≡ xs ++ x ∷ [] = cc in tail))
same_snoc (z ∷ xs) (w ∷ ys) x y e =
    let (front, last) = same_snoc xs ys x y (let tail : xs ++ x ∷ [] ≡ ys ++ y ∷ [] = cc in tail) in
    ((let head : z ≡ w = cc in ap (λ (v : Open). v ∷ xs) head) ∙ ap (λ (l : List Open). w ∷ l) front, last)

-- the stack when the innermost node is closed
path_after : (next : Option Open) (inner outer rest : List Open) → outer ≡ inner ++ option_to_list next → (next ≡ None → outer ≡ []) → IsStack outer rest → IsPath next inner rest
path_after None inner outer [] popped empty stack = (refl, sym (append-nil inner) ∙ sym popped ∙ stack)
path_after None inner outer (q ∷ qs) popped empty (first, e, stack) = absurd (no_snoc first q (sym (empty refl) ∙ e))
path_after (Some x) inner outer [] popped empty stack = absurd (no_snoc inner x (sym stack ∙ popped))
path_after (Some x) inner outer (q ∷ qs) popped empty (first, e, stack) =
    let (front, last) = same_snoc first inner q x (sym e ∙ popped) in
    (qs, ap (λ (v : Open). v ∷ qs) last, subst (λ (l : List Open). IsStack l qs) front stack)

module _ (g : Asked ℕ) (shapes most : ℕ) (o : Open) (outer : List Open) (more : List Part) (answer : Result (Tree Plain) TreeFault) where
  -- the innermost node, and what it asks for
  record Here (texts : List (List ℕ)) (t : Tree Value) (p : Part) : Type 0 where
    rest : List Open
    stack : IsStack outer rest
    are_open : AreOpen t shapes most (length t) (o ∷ rest)
    is_open : IsOpen t o.node
    tree : IsTree t
    makes : MakesOf g texts t (o ∷ rest) (p ∷ more) answer

  here : (texts : List (List ℕ)) (t : Tree Value) (p : Part) → IsWritten g texts t shapes most (Some o) outer (p ∷ more) answer → Here texts t p
  here texts t p w = let (rest, is, stack) = w.path in record {
    rest = rest;
    stack = stack;
    are_open = subst (λ (l : List Open). AreOpen t shapes most (length t) l) is w.are_open;
    is_open = subst (λ (l : List Open). CanGrow t l) is w.can_grow;
    tree = w.tree;
    makes = subst (λ (l : List Open). MakesOf g texts t l (p ∷ more) answer) is w.makes;
  }

  -- what the first frame is
  record Framed (texts : List (List ℕ)) (t : Tree Value) (p : Part) (rest : List Open) : Type 0 where
    f : Frame ℕ
    fs : List (Frame ℕ)
    later : List Part
    known : Innermost g texts t o f
    parts : p ∷ more ≡ parts_of f.rest ++ (part.End f.close ∷ later)
    left : AreLeft rest fs later

  framed : (texts : List (List ℕ)) (t : Tree Value) (p : Part) (rest : List Open) → AreOpen t shapes most (length t) (o ∷ rest) → (frames : List (Frame ℕ)) → AreLeft (o ∷ rest) frames (p ∷ more) → Framed texts t p rest
  framed texts t p rest are [] left = absurd left
  framed texts t p rest (inside, has, few, shape, parent, others) (f ∷ fs) (at, same, later, e, left) =
      record { f = f; fs = fs; later = later; known = record { at = at; shape = same; inside = inside; has = has }; parts = e; left = left }

  frames_are : (texts : List (List ℕ)) (t : Tree Value) (p : Part) (rest : List Open) (are : AreOpen t shapes most (length t) (o ∷ rest)) (frames : List (Frame ℕ)) (left : AreLeft (o ∷ rest) frames (p ∷ more))
      → resume g frames (plain_tree texts t) ≡ resume g ((framed texts t p rest are frames left).f ∷ (framed texts t p rest are frames left).fs) (plain_tree texts t)
  unfolding framed
  frames_are texts t p rest are [] left = absurd left
  frames_are texts t p rest (inside, has, few, shape, parent, others) (f ∷ fs) (at, same, later, e, left) = refl

  pub written_int : (texts : List (List ℕ)) (t u : Tree Value) (at : ℕ) (z : ℤ) (now : Open) → now ≡ with_one_more o → g.takes_value o.shape o.has type.Int ≡ true → u ≡ with_item t o.node (Leaf (value.Int z)) → IsTree u
      → IsWritten g texts t shapes most (Some o) outer (part.Int at z ∷ more) answer → IsWritten g texts u shapes (most + 1) (Some now) outer more answer
  written_int texts t u at z now is takes grown tree w =
      let h = here texts t (part.Int at z) w in
      let r = framed texts t (part.Int at z) h.rest h.are_open h.makes.frames h.makes.left in
      let made = int_goes g texts t o r.f r.fs h.rest r.known at z more r.later answer r.f.rest refl r.parts r.left
      (h.makes.comes ∙ frames_are texts t (part.Int at z) h.rest h.are_open h.makes.frames h.makes.left) h.makes.stable takes in
      subst (λ (n : Open). IsWritten g texts u shapes (most + 1) (Some n) outer more answer) (sym is)
      (subst (λ (v : Tree Value). IsWritten g texts v shapes (most + 1) (Some (with_one_more o)) outer more answer) (sym grown) (record {
        os = with_one_more o ∷ h.rest;
        path = (h.rest, refl, h.stack);
        are_open = open_after_leaf t shapes most o h.rest (value.Int z) h.are_open;
        can_grow = open_kept t h.tree o.node o.node (value.Int z) h.is_open;
        tree = subst IsTree grown tree;
        makes = made;
      }))

  pub stopped_int : (texts : List (List ℕ)) (t : Tree Value) (at : ℕ) (z : ℤ) → g.takes_value o.shape o.has type.Int ≡ false
      → IsWritten g texts t shapes most (Some o) outer (part.Int at z ∷ more) answer → answer ≡ Err (fault.WrongChild at)
  stopped_int texts t at z takes w =
      let h = here texts t (part.Int at z) w in
      let r = framed texts t (part.Int at z) h.rest h.are_open h.makes.frames h.makes.left in
      int_stops g texts t o r.f r.fs h.rest r.known at z more r.later answer r.f.rest refl r.parts
      (h.makes.comes ∙ frames_are texts t (part.Int at z) h.rest h.are_open h.makes.frames h.makes.left) takes

  pub written_text : (texts : List (List ℕ)) (t u : Tree Value) (at : ℕ) (text : List ℕ) (id : StrId) (now : Open) → now ≡ with_one_more o → g.takes_value o.shape o.has type.Str ≡ true → u ≡ with_item t o.node (Leaf (value.Str id)) → IsTree u
      → slice_get texts id.0 ≡ Some text → IsWritten g texts t shapes most (Some o) outer (part.Str at text ∷ more) answer → IsWritten g texts u shapes (most + 1) (Some now) outer more answer
  written_text texts t u at text id now is takes grown tree there w =
      let h = here texts t (part.Str at text) w in
      let r = framed texts t (part.Str at text) h.rest h.are_open h.makes.frames h.makes.left in
      let made = text_goes g texts t o r.f r.fs h.rest r.known at text id more r.later answer r.f.rest refl r.parts there r.left
      (h.makes.comes ∙ frames_are texts t (part.Str at text) h.rest h.are_open h.makes.frames h.makes.left) h.makes.stable takes in
      subst (λ (n : Open). IsWritten g texts u shapes (most + 1) (Some n) outer more answer) (sym is)
      (subst (λ (v : Tree Value). IsWritten g texts v shapes (most + 1) (Some (with_one_more o)) outer more answer) (sym grown) (record {
        os = with_one_more o ∷ h.rest;
        path = (h.rest, refl, h.stack);
        are_open = open_after_leaf t shapes most o h.rest (value.Str id) h.are_open;
        can_grow = open_kept t h.tree o.node o.node (value.Str id) h.is_open;
        tree = subst IsTree grown tree;
        makes = made;
      }))

  pub stopped_text : (texts : List (List ℕ)) (t : Tree Value) (at : ℕ) (text : List ℕ) → g.takes_value o.shape o.has type.Str ≡ false
      → IsWritten g texts t shapes most (Some o) outer (part.Str at text ∷ more) answer → answer ≡ Err (fault.WrongChild at)
  stopped_text texts t at text takes w =
      let h = here texts t (part.Str at text) w in
      let r = framed texts t (part.Str at text) h.rest h.are_open h.makes.frames h.makes.left in
      text_stops g texts t o r.f r.fs h.rest r.known at text more r.later answer r.f.rest refl r.parts
      (h.makes.comes ∙ frames_are texts t (part.Str at text) h.rest h.are_open h.makes.frames h.makes.left) takes

  pub stopped_end : (texts : List (List ℕ)) (t : Tree Value) (at : ℕ) → g.is_enough o.shape o.has ≡ false
      → IsWritten g texts t shapes most (Some o) outer (part.End at ∷ more) answer → answer ≡ Err (fault.WrongChild at)
  stopped_end texts t at enough w =
      let h = here texts t (part.End at) w in
      let r = framed texts t (part.End at) h.rest h.are_open h.makes.frames h.makes.left in
      end_stops g texts t o r.f r.fs h.rest r.known at more r.later answer r.f.rest refl r.parts
      (h.makes.comes ∙ frames_are texts t (part.End at) h.rest h.are_open h.makes.frames h.makes.left) enough

  pub written_end : (texts : List (List ℕ)) (t : Tree Value) (at : ℕ) (next : Option Open) (inner : List Open) → outer ≡ inner ++ option_to_list next → (next ≡ None → outer ≡ []) → g.is_enough o.shape o.has ≡ true
      → IsWritten g texts t shapes most (Some o) outer (part.End at ∷ more) answer → IsWritten g texts t shapes (most + 1) next inner more answer
  written_end texts t at next inner popped none_left enough w =
      let h = here texts t (part.End at) w in
      let r = framed texts t (part.End at) h.rest h.are_open h.makes.frames h.makes.left in
      let made = end_goes g texts t o r.f r.fs h.rest r.known at more r.later answer r.f.rest refl r.parts r.left
      (h.makes.comes ∙ frames_are texts t (part.End at) h.rest h.are_open h.makes.frames h.makes.left) h.makes.stable enough in
      record {
        os = h.rest;
        path = path_after next inner outer h.rest popped none_left h.stack;
        are_open = open_after_end t shapes most o h.rest h.are_open;
        can_grow = grows_after_end t shapes most o h.rest h.tree h.are_open h.is_open;
        tree = h.tree;
        makes = made;
      }

  pub stopped_node : (texts : List (List ℕ)) (t : Tree Value) (at name_at : ℕ) (name : List ℕ) (coordinates : Option Coordinates) (e : TreeFault) → node_fault g o.shape o.has (length t) at name_at name ≡ Some e
      → IsWritten g texts t shapes most (Some o) outer (part.Begin at name_at name coordinates ∷ more) answer → answer ≡ Err e
  stopped_node texts t at name_at name coordinates e stops w =
      let h = here texts t (part.Begin at name_at name coordinates) w in
      let r = framed texts t (part.Begin at name_at name coordinates) h.rest h.are_open h.makes.frames h.makes.left in
      node_stops g texts t o r.f r.fs h.rest r.known at name_at name coordinates e more r.later answer r.f.rest refl r.parts
      (h.makes.comes ∙ frames_are texts t (part.Begin at name_at name coordinates) h.rest h.are_open h.makes.frames h.makes.left) stops

  pub written_node : (texts : List (List ℕ)) (t u : Tree Value) (at name_at : ℕ) (name : List ℕ) (coordinates : Option Coordinates) (new grown : Open) (pushed : List Open) → new.node ≡ length t → new.has ≡ 0 → new.shape < shapes
      → grown ≡ with_one_more o → pushed ≡ outer ++ grown ∷ [] → u ≡ with_node t (g.rule new.shape) (Some o.node) (own coordinates (coordinates_of t o.node)).line (own coordinates (coordinates_of t o.node)).column → IsTree u
      → g.named name ≡ Some new.shape → node_fault g o.shape o.has (length t) at name_at name ≡ None
      → IsWritten g texts t shapes most (Some o) outer (part.Begin at name_at name coordinates ∷ more) answer → IsWritten g texts u shapes (most + 1) (Some new) pushed more answer
  written_node texts t u at name_at name coordinates new grown pushed number empty fits is push added tree named free w =
      let h = here texts t (part.Begin at name_at name coordinates) w in
      let r = framed texts t (part.Begin at name_at name coordinates) h.rest h.are_open h.makes.frames h.makes.left in
      let made = node_goes g texts t o r.f r.fs h.rest r.known at name_at name coordinates new more r.later answer r.f.rest refl r.parts r.left
      (h.makes.comes ∙ frames_are texts t (part.Begin at name_at name coordinates) h.rest h.are_open h.makes.frames h.makes.left) h.makes.stable number named free in
      subst (λ (v : Tree Value). IsWritten g texts v shapes (most + 1) (Some new) pushed more answer) (sym added) (record {
        os = new ∷ with_one_more o ∷ h.rest;
        path = (with_one_more o ∷ h.rest, refl, (outer, push ∙ ap (λ (x : Open). outer ++ x ∷ []) is, h.stack));
        are_open = open_after_node t shapes most (g.rule new.shape) (own coordinates (coordinates_of t o.node)).line (own coordinates (coordinates_of t o.node)).column o new h.rest h.are_open number empty fits;
        can_grow = subst (λ (n : ℕ). IsOpen (with_node t (g.rule new.shape) (Some o.node) (own coordinates (coordinates_of t o.node)).line (own coordinates (coordinates_of t o.node)).column) n) (sym number) (open_added t (g.rule new.shape) (Some o.node) (own coordinates (coordinates_of t o.node)).line (own coordinates (coordinates_of t o.node)).column);
        tree = subst IsTree added tree;
        makes = made;
      })

pub written_grown : {g : Asked ℕ} {texts later : List (List ℕ)} {t : Tree Value} {shapes most : ℕ} {next : Option Open} {outer : List Open} {parts : List Part} {answer : Result (Tree Plain) TreeFault} → Gains texts later
    → IsWritten g texts t shapes most next outer parts answer → IsWritten g later t shapes most next outer parts answer
written_grown gains w = record { os = w.os; path = w.path; are_open = w.are_open; can_grow = w.can_grow; tree = w.tree; makes = makes_grown gains w.makes }

pub fails_if : {answer : Result (Tree Plain) TreeFault} (b : Bool) (at : ℕ) (e : TreeFault) → RefusesIf b at e → (b ≡ false → answer ≡ Err (fault.WrongChild at)) → FailsAs answer e
fails_if b at (fault.WrongChild place) (is, test) f = f test ∙ ap (λ (n : ℕ). Err (fault.WrongChild n)) (sym is)
fails_if b at (fault.TreeSyntax place) refused f = absurd refused
fails_if b at (fault.UnknownRule place) refused f = absurd refused
fails_if b at (fault.WrongRoot place) refused f = absurd refused
fails_if b at (fault.TooMany what) refused f = absurd refused
fails_if b at fault.Memory refused f = tt

pub fails_as : {answer : Result (Tree Plain) TreeFault} (o : Option TreeFault) (e : TreeFault) → StopsAt o e → ((x : TreeFault) → o ≡ Some x → answer ≡ Err x) → FailsAs answer e
fails_as o (fault.WrongChild place) stops f = f (fault.WrongChild place) stops
fails_as o (fault.TreeSyntax place) stops f = f (fault.TreeSyntax place) stops
fails_as o (fault.UnknownRule place) stops f = f (fault.UnknownRule place) stops
fails_as o (fault.WrongRoot place) stops f = f (fault.WrongRoot place) stops
fails_as o (fault.TooMany what) stops f = f (fault.TooMany what) stops
fails_as o fault.Memory stops f = tt

pub ok_of : {X E A B N : Type 0} {C : N → Type 0} {P Q : X → Type 0} (r : Result X E) → IfOk r P → OnOk r A → OnOk r B → ((n : N) → OnOk r (C n)) → ((x : X) → P x → A → B → ((n : N) → C n) → Q x) → IfOk r Q
ok_of (Ok x) p a b c f = f x p a b c
ok_of (Err e) p a b c f = p

pub err_of : {X E N : Type 0} {P : N → E → Type 0} {Q : E → Type 0} (r : Result X E) → N → ((n : N) → IfErr r (P n)) → ((e : E) → ((n : N) → P n e) → Q e) → IfErr r Q
err_of (Ok x) n p f = p n
err_of (Err e) n p f = f e p

pub part_is : {g : Asked ℕ} {texts : List (List ℕ)} {t : Tree Value} {shapes most : ℕ} {next : Option Open} {outer : List Open} {p q : Part} {more : List Part} {answer : Result (Tree Plain) TreeFault} → p ≡ q
    → IsWritten g texts t shapes most next outer (p ∷ more) answer → IsWritten g texts t shapes most next outer (q ∷ more) answer
part_is {g} {texts} {t} {shapes} {most} {next} {outer} {more = more} {answer = answer} e w = subst (λ (x : Part). IsWritten g texts t shapes most next outer (x ∷ more) answer) e w

-- ---- the first node

same_answer : (t : Tree Plain) (o : Option TreeFault) → unless_fault t o ≡ elim o as (λ _. Result (Tree Plain) TreeFault) [ None ↦ Ok t | Some e ↦ Err e ]
same_answer t None = refl
same_answer t (Some e) = refl

root_chosen : {X : Type 0} (b : Bool) (x y : X) → b ≡ true → (if b then x else y) ≡ x
root_chosen true x y is = refl
root_chosen false x y is = absurd (true≢false (sym is))

first_at_zero : (g : Asked ℕ) (texts : List (List ℕ)) (shapes name_at : ℕ) (name : List ℕ) (coordinates : Option Coordinates) (shape : ℕ) (below : Forest) (end : ℕ)
    → IsTree (with_node {V = Value} [] (g.rule shape) None (own coordinates no_coordinates).line (own coordinates no_coordinates).column) → shape < shapes → g.named name ≡ Some shape → g.is_root shape ≡ true
    → IsWritten g texts (with_node [] (g.rule shape) None (own coordinates no_coordinates).line (own coordinates no_coordinates).column) shapes 0 (Some (record { node = 0; shape = shape; has = 0 })) [] (parts_of below ++ part.End end ∷ []) (meaning g name_at name coordinates below end)
first_at_zero g texts shapes name_at name coordinates shape below end tree fits named root =
    let table : Tree Plain = table_node (g.rule shape) None 0 (own coordinates no_coordinates) (items g 1 below) ∷ nodes g 1 0 0 (own coordinates no_coordinates) below in
    record {
      os = record { node = 0; shape = shape; has = 0 } ∷ [];
      path = ([], refl, refl);
      are_open = (omega arith, refl, omega arith, fits, refl, tt);
      can_grow = (0, refl, inl refl);
      tree = tree;
      makes = record {
        frames = record { at = 0; shape = shape; rest = below; close = end } ∷ [];
        left = (refl, refl, [], refl, refl);
        comes = ap (λ (o : Option ℕ). elim o as (λ _. Result (Tree Plain) TreeFault) [
          | None ↦ Err (fault.UnknownRule name_at)
          | Some x ↦ if g.is_root x
              then unless_fault (table_node (g.rule x) None 0 (own coordinates no_coordinates) (items g 1 below) ∷ nodes g 1 0 0 (own coordinates no_coordinates) below) (fault_among g x 0 1 below end)
              else Err (fault.WrongRoot name_at)
        ]) named
            ∙ root_chosen (g.is_root shape) (unless_fault table (fault_among g shape 0 1 below end)) (Err (fault.WrongRoot name_at)) root
            ∙ same_answer table (fault_among g shape 0 1 below end);
        stable = λ more. refl;
      };
    }

pub first_written : (g : Asked ℕ) (texts : List (List ℕ)) (t : Tree Value) (shapes name_at : ℕ) (name : List ℕ) (coordinates : Option Coordinates) (o : Open) (below : Forest) (end : ℕ)
    → t ≡ with_node [] (g.rule o.shape) None (own coordinates no_coordinates).line (own coordinates no_coordinates).column → IsTree t → o.node ≡ 0 → o.has ≡ 0 → o.shape < shapes → g.named name ≡ Some o.shape → g.is_root o.shape ≡ true
    → IsWritten g texts t shapes 0 (Some o) [] (parts_of below ++ part.End end ∷ []) (meaning g name_at name coordinates below end)
first_written g texts t shapes name_at name coordinates o below end is tree number empty fits named root =
    let same : o ≡ record { node = 0; shape = o.shape; has = 0 } = ap (λ (n : ℕ). record { node = n; shape = o.shape; has = o.has }) number ∙ ap (λ (n : ℕ). record { node = 0; shape = o.shape; has = n }) empty in
    subst (λ (x : Open). IsWritten g texts t shapes 0 (Some x) [] (parts_of below ++ part.End end ∷ []) (meaning g name_at name coordinates below end)) (sym same)
    (subst (λ (u : Tree Value). IsWritten g texts u shapes 0 (Some (record { node = 0; shape = o.shape; has = 0 })) [] (parts_of below ++ part.End end ∷ []) (meaning g name_at name coordinates below end)) (sym is)
    (first_at_zero g texts shapes name_at name coordinates o.shape below end (subst IsTree is tree) fits named root))

-- ---- the loop

no_parts : (f : Forest) (close : ℕ) (more : List Part) → [] ≡ parts_of f ++ (part.End close ∷ more) → ⊥
no_parts none close more e = cc
no_parts (node at name_at name coordinates below end after) close more e = cc
no_parts (int at z after) close more e = cc
no_parts (string at text after) close more e = cc

nothing_open : (os : List Open) (frames : List (Frame ℕ)) → AreLeft os frames [] → frames ≡ []
nothing_open [] [] left = refl
nothing_open [] (f ∷ fs) left = absurd left
nothing_open (o ∷ os) [] left = absurd left
nothing_open (o ∷ os) (f ∷ fs) (at, shape, more, e, left) = absurd (no_parts f.rest f.close more e)

pub all_written : {g : Asked ℕ} {texts : List (List ℕ)} {t : Tree Value} {shapes most : ℕ} {next : Option Open} {outer : List Open} {answer : Result (Tree Plain) TreeFault}
    → IsWritten g texts t shapes most next outer [] answer → answer ≡ Ok (plain_tree texts t)
all_written {g} {texts} {t} w = w.makes.comes ∙ ap (λ (fs : List (Frame ℕ)). resume g fs (plain_tree texts t)) (nothing_open w.os w.makes.frames w.makes.left)

pub next_part : {g : Asked ℕ} {texts : List (List ℕ)} {t : Tree Value} {shapes most : ℕ} {next : Option Open} {outer : List Open} {answer : Result (Tree Plain) TreeFault}
    → (rest : List Part) (i : ℕ) (p : Part) (o : Open) → i < length rest → p ≡ get_or rest i p → next ≡ Some o → IsWritten g texts t shapes most next outer (drop i rest) answer
    → IsWritten g texts t shapes most (Some o) outer (p ∷ drop (i + 1) rest) answer
next_part {g} {texts} {t} {shapes} {most} {next} {outer} {answer} rest i p o less is open_is w =
    let split : drop i rest ≡ p ∷ drop (i + 1) rest = drop_is rest i p less ∙ ap (λ (x : Part). x ∷ drop (i + 1) rest) (sym is) in
    subst (λ (n : Option Open). IsWritten g texts t shapes most n outer (p ∷ drop (i + 1) rest) answer) open_is
    (subst (λ (l : List Part). IsWritten g texts t shapes most next outer l answer) split w)
  where
    drop_is : (xs : List Part) (k : ℕ) (d : Part) → k < length xs → drop k xs ≡ get_or xs k d ∷ drop (k + 1) xs
    drop_is xs k d low = rw (add-one, drop-cons xs k d) refl

pub no_more_parts : {g : Asked ℕ} {texts : List (List ℕ)} {t : Tree Value} {shapes most : ℕ} {next : Option Open} {outer : List Open} {answer : Result (Tree Plain) TreeFault}
    → (rest : List Part) (i : ℕ) → length rest ≤ i → IsWritten g texts t shapes most next outer (drop i rest) answer → IsWritten g texts t shapes most next outer [] answer
no_more_parts {g} {texts} {t} {shapes} {most} {next} {outer} {answer} rest i past w = subst (λ (l : List Part). IsWritten g texts t shapes most next outer l answer) (drop_all i rest past) w

pub means : (g : Asked ℕ) (parts : List Part) (at name_at : ℕ) (name : List ℕ) (coordinates : Option Coordinates) (below : Forest) (end : ℕ) (e : TreeFault) → parts ≡ parts_of (node at name_at name coordinates below end none)
    → FailsAs (meaning g name_at name coordinates below end) e → MeansFault g parts e
means g parts at name_at name coordinates below end (fault.TreeSyntax place) is fails = (at, name_at, name, coordinates, below, end, is, fails)
means g parts at name_at name coordinates below end (fault.UnknownRule place) is fails = (at, name_at, name, coordinates, below, end, is, fails)
means g parts at name_at name coordinates below end (fault.WrongRoot place) is fails = (at, name_at, name, coordinates, below, end, is, fails)
means g parts at name_at name coordinates below end (fault.WrongChild place) is fails = (at, name_at, name, coordinates, below, end, is, fails)
means g parts at name_at name coordinates below end (fault.TooMany what) is fails = (at, name_at, name, coordinates, below, end, is, fails)
means g parts at name_at name coordinates below end fault.Memory is fails = tt
