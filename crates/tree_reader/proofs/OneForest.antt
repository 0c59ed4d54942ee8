-- The parts of a node tell the node, and so its meaning.
use Rattle.std.proofs.Common.{◌≡◌, ℕ, List, [], ◌∷◌, ◌++◌, Option, Result, Err, refl, ap, sym, ◌∙◌, append_assoc, inl, inr}
use Rattle.lido_base.specs.Phases.{IsThe, Gives}
use Rattle.lido_base.specs.Plain.{Plain}
use Rattle.lido_base.specs.Tree.{Tree}
use Rattle.tree_store.specs.declared.fault.TreeFault.{TreeFault}
use Rattle.tree_store.specs.declared.fault.TreeFault.TheVariants as fault
use Rattle.tree_reader.specs.Language.{Forest, none, node, int, string, parts_of}
use Rattle.tree_reader.specs.WrittenTrees.{Asked, meaning}
use Rattle.tree_reader.specs.Writing.{IsMeaning, MeansFault}
use Rattle.tree_reader.specs.declared.part.Coordinates.{Coordinates}
use Rattle.tree_reader.specs.declared.part.Part.{Part}
use Rattle.tree_reader.specs.declared.part.Part.TheVariants as part

-- the siblings' parts, the closing bracket behind them, and more parts
abbrev up_to : Forest → ℕ → List Part → List Part
up_to f close more = parts_of f ++ (part.End close ∷ more)

-- the siblings, the place of the bracket behind them, and what is behind it, are the same
record Same (f h : Forest) (c d : ℕ) (more later : List Part) : Type 0 where
  pub forest : f ≡ h
  pub place : c ≡ d
  pub behind : more ≡ later

node_up_to : (at name_at : ℕ) (name : List ℕ) (coordinates : Option Coordinates) (below : Forest) (end : ℕ) (after : Forest) (close : ℕ) (more : List Part)
    → up_to (node at name_at name coordinates below end after) close more ≡ part.Begin at name_at name coordinates ∷ up_to below end (up_to after close more)
node_up_to at name_at name coordinates below end after close more = ap (λ (l : List Part). part.Begin at name_at name coordinates ∷ l) (append_assoc (parts_of below) (part.End end ∷ parts_of after) (part.End close ∷ more))

same_up_to : (f h : Forest) (c d : ℕ) (more later : List Part) → up_to f c more ≡ up_to h d later → Same f h c d more later
same_up_to none none c d more later e = record { forest = refl; place = cc; behind = cc }
same_up_to none (node from name_from other others low close beyond) c d more later e = absurd (cc)
same_up_to none (int from w beyond) c d more later e = absurd (cc)
same_up_to none (string from words beyond) c d more later e = absurd (cc)
same_up_to (int at z after) none c d more later e = absurd (cc)
same_up_to (int at z after) (node from name_from other others low close beyond) c d more later e = absurd (cc)
same_up_to (int at z after) (string from words beyond) c d more later e = absurd (cc)
same_up_to (int at z after) (int from w beyond) c d more later e =
    let rest = same_up_to after beyond c d more later (let tail : up_to after c more ≡ up_to beyond d later = cc in tail) in
    record { forest = (let forest = rest.forest in cc); place = rest.place; behind = rest.behind }
same_up_to (string at text after) none c d more later e = absurd (cc)
same_up_to (string at text after) (node from name_from other others low close beyond) c d more later e = absurd (cc)
same_up_to (string at text after) (int from w beyond) c d more later e = absurd (cc)
same_up_to (string at text after) (string from words beyond) c d more later e =
    let rest = same_up_to after beyond c d more later (let tail : up_to after c more ≡ up_to beyond d later = cc in tail) in
    record { forest = (let forest = rest.forest in cc); place = rest.place; behind = rest.behind }
same_up_to (node at name_at name coordinates below end after) none c d more later e = absurd (cc)
same_up_to (node at name_at name coordinates below end after) (int from w beyond) c d more later e = absurd (cc)
same_up_to (node at name_at name coordinates below end after) (string from words beyond) c d more later e = absurd (cc)
same_up_to (node at name_at name coordinates below end after) (node from name_from other others low close beyond) c d more later e =
    let whole : part.Begin at name_at name coordinates ∷ up_to below end (up_to after c more) ≡ part.Begin from name_from other others ∷ up_to low close (up_to beyond d later)
    = sym (node_up_to at name_at name coordinates below end after c more) ∙ e ∙ node_up_to from name_from other others low close beyond d later in
    let tail : up_to below end (up_to after c more) ≡ up_to low close (up_to beyond d later) = cc whole in
    let inner = same_up_to below low end close (up_to after c more) (up_to beyond d later) tail in
    let outer = same_up_to after beyond c d more later inner.behind in
    let same_at : at ≡ from = cc whole in
    let same_name_at : name_at ≡ name_from = cc whole in
    let same_name : name ≡ other = cc whole in
    let same_coordinates : coordinates ≡ others = cc whole in
    record {
      forest = ap (λ (n : ℕ). node n name_at name coordinates below end after) same_at
          ∙ ap (λ (n : ℕ). node from n name coordinates below end after) same_name_at
          ∙ ap (λ (l : List ℕ). node from name_from l coordinates below end after) same_name
          ∙ ap (λ (c : Option Coordinates). node from name_from other c below end after) same_coordinates
          ∙ ap (λ (x : Forest). node from name_from other others x end after) inner.forest
          ∙ ap (λ (n : ℕ). node from name_from other others low n after) inner.place
          ∙ ap (λ (x : Forest). node from name_from other others low close x) outer.forest;
      place = outer.place;
      behind = outer.behind;
    }

pub one_meaning : (g : Asked ℕ) (parts : List Part) (r s : Result (Tree Plain) TreeFault) → IsMeaning g parts r → IsMeaning g parts s → s ≡ r
one_meaning g parts r s (at, name_at, name, coordinates, below, end, is, means) (from, name_from, other, others, low, close, too, meant) =
    let whole : part.Begin at name_at name coordinates ∷ up_to below end [] ≡ part.Begin from name_from other others ∷ up_to low close [] = sym is ∙ too in
    let tail : up_to below end [] ≡ up_to low close [] = cc whole in
    let inner = same_up_to below low end close [] [] tail in
    let same_name_at : name_at ≡ name_from = cc whole in
    let same_name : name ≡ other = cc whole in
    let same_coordinates : coordinates ≡ others = cc whole in
    sym meant
    ∙ ap (λ (n : ℕ). meaning g n other others low close) (sym same_name_at)
    ∙ ap (λ (l : List ℕ). meaning g name_at l others low close) (sym same_name)
    ∙ ap (λ (c : Option Coordinates). meaning g name_at name c low close) (sym same_coordinates)
    ∙ ap (λ (x : Forest). meaning g name_at name coordinates x close) (sym inner.forest)
    ∙ ap (λ (n : ℕ). meaning g name_at name coordinates below n) (sym inner.place)
    ∙ means

pub the_meaning : (g : Asked ℕ) (parts : List Part) (r : Result (Tree Plain) TreeFault) → IsMeaning g parts r → IsThe (IsMeaning g parts) r
the_meaning g parts r is = record { is = is; only = λ s other. one_meaning g parts r s is other }

abbrev GivesFault : Asked ℕ → List Part → TreeFault → Type 0
GivesFault g parts e = Gives (λ (t : Tree Plain). t) (IsMeaning g parts) fault.Memory (Err e)

pub gives_fault : (g : Asked ℕ) (parts : List Part) (e : TreeFault) → MeansFault g parts e → GivesFault g parts e
gives_fault g parts (fault.TreeSyntax place) means = inr (the_meaning g parts (Err (fault.TreeSyntax place)) means)
gives_fault g parts (fault.UnknownRule place) means = inr (the_meaning g parts (Err (fault.UnknownRule place)) means)
gives_fault g parts (fault.WrongRoot place) means = inr (the_meaning g parts (Err (fault.WrongRoot place)) means)
gives_fault g parts (fault.WrongChild place) means = inr (the_meaning g parts (Err (fault.WrongChild place)) means)
gives_fault g parts (fault.TooMany what) means = inr (the_meaning g parts (Err (fault.TooMany what)) means)
gives_fault g parts fault.Memory means = inl refl
