-- A region one item further, and a region that waits.
use Rattle.std.specs.Prelude.{Contains, fold, slice_get, vec_len, vec_capacity, if◌then◌else◌, ◌↔◌}
use Rattle.std.proofs.lemmas.List.{drop-append-le, length-take-le}
use Rattle.std.proofs.lemmas.List.Sums.{fold-append}
use Rattle.std.proofs.lemmas.Grind.{flat_map-append}
use Rattle.std.proofs.lemmas.Option.{slice_get_within}
use Rattle.std.proofs.Common.{◌≡◌, ◌<◌, ◌≤◌, ◌+◌, ◌*◌, ℕ, Bool, true, false, List, [], ◌∷◌, ◌++◌, length, take, drop, Some, refl, arith, ap, sym, ◌∙◌, subst, append-nil, ◌⊎◌, inl, inr, ⊎_elim}
use mathlib.Core.Logic.{dite}
use native.Mathlib.Decide.{ℕ_discrete}
use Rattle.boundary_table.specs.Desk.{Held, Knows, GoesOn}
use Rattle.flat_grammar.specs.WholeOrder.{Instance}
use Rattle.flat_grammar.proofs.Lists.{held}
use Rattle.core_machine.specs.Machine.{Item, eval_of, put_of}
use Rattle.core_machine.specs.Core.{Task, home, needs}
use Rattle.core_machine.specs.Cursors.{left, IsCursor}
use Rattle.core_machine.specs.Keys.{key_of}
use Rattle.core_machine.specs.Runs.{IsStackFor}
use Rattle.core_machine.proofs.CursorLists.{drop-item}
use Rattle.region_engine.specs.declared.region.Region.{Region}
use Rattle.region_engine.specs.Behind.{list, put_key, keys_of, keys_at, keys_since, words_of}
use Rattle.region_engine.specs.Kept.{IsBehind}
use Rattle.region_engine.specs.Notebooks.{HasNotebook}
use Rattle.region_engine.specs.Regions.{number, WasDelivered, IsDesk, IsRegionOf, IsSame, IsWaiting}
use Rattle.region_engine.proofs.PutKeys.{nothing-behind}
use Rattle.region_engine.proofs.Lists.{take-more, keys-next}
use Rattle.region_engine.proofs.Looks.{knows-later, missed-later}

abbrev pub add_words : List ℕ → ℕ → List ℕ
add_words words k = (2 * k + 1) ∷ 2 * k ∷ words

module _ (j : Task) (r : ℕ) (g h : Region) where
  -- The region took this item.
  pub record Moved (x : Item Instance) : Type 0 where
    pub cursor : IsCursor j h.cursor
    pub rest : left j h.cursor ≡ drop 1 (left j g.cursor)
    pub count : h.count ≡ g.count
    pub position : h.position ≡ g.position + 1
    pub behind : IsBehind j r (g.position + 1) h.values h.bench.room
    pub puts : h.puts.items ≡ g.puts.items ++ put_key j x
    pub puts_room : vec_capacity g.puts ≤ vec_capacity h.puts
    pub empty : vec_len h.bench.stack ≡ 0
    pub stack : vec_capacity h.bench.stack ≡ vec_capacity g.bench.stack
    pub since : h.since ≡ g.since
    pub numbered : h.numbered ≡ g.numbered
    pub delivered : (key : ℕ) → WasDelivered g key ↔ WasDelivered h key
    pub goes_on : GoesOn g.desk h.desk
    pub numbers : h.desk.view.numbers ≡ g.desk.view.numbers
    pub mine : h.desk.view.mine ≡ (if g.numbered then fold add_words g.desk.view.mine (put_key j x) else g.desk.view.mine)
    pub inputs : (i k : Instance) → x ≡ eval_of i → Contains (needs j i) k → (home j k ≡ home j i → ⊥) → WasDelivered h (key_of j k) ⊎ Knows h.desk (key_of j k)
    pub known : (i : Instance) → x ≡ put_of i → g.numbered ≡ true → Knows h.desk (key_of j i)
    pub notebook : h.notebook ≡ g.notebook

  -- It stands where it stood.
  pub record Stayed : Type 0 where
    pub cursor : h.cursor ≡ g.cursor
    pub count : h.count ≡ g.count
    pub position : h.position ≡ g.position
    pub behind : IsBehind j r g.position h.values h.bench.room
    pub puts : h.puts.items ≡ g.puts.items
    pub puts_room : vec_capacity h.puts ≡ vec_capacity g.puts
    pub empty : vec_len h.bench.stack ≡ 0
    pub stack : vec_capacity h.bench.stack ≡ vec_capacity g.bench.stack
    pub since : h.since ≡ g.since
    pub numbered : h.numbered ≡ g.numbered
    pub delivered : (key : ℕ) → WasDelivered g key → WasDelivered h key
    pub goes_on : GoesOn g.desk h.desk
    pub numbers : h.desk.view.numbers ≡ g.desk.view.numbers
    pub mine : h.desk.view.mine ≡ g.desk.view.mine
    pub notebook : h.notebook ≡ g.notebook

  still : (key : ℕ) → ((key : ℕ) → WasDelivered g key → WasDelivered h key) → GoesOn g.desk h.desk → WasDelivered g key ⊎ Knows g.desk key → WasDelivered h key ⊎ Knows h.desk key
  still key same on (inl a) = inl (same key a)
  still key same on (inr a) = inr (knows-later g.desk h.desk key on a)

  module _ (at : IsRegionOf j r g) where
    desk-stays : GoesOn g.desk h.desk → h.desk.view.numbers ≡ g.desk.view.numbers → h.numbered ≡ g.numbered → IsDesk j h.desk (if h.numbered then r ∷ [] else [])
    desk-stays on numbers same = record {
      contents = on.contents ∙ at.desk.contents;
      owners = on.owners ∙ at.desk.owners;
      numbers = numbers ∙ at.desk.numbers ∙ ap (λ b. if b then r ∷ [] else []) (sym same);
    }

    pub stayed : Stayed → IsRegionOf j r h
    stayed m = record {
      is_region = at.is_region;
      cursor = subst (IsCursor j) (sym m.cursor) at.cursor;
      rest = ap (left j) m.cursor ∙ at.rest ∙ ap (λ n. drop n (list j r)) (sym m.position);
      count = m.count ∙ at.count;
      within = let a = m.count in let b = m.position in let c = at.within in omega (arith, a, b, c);
      behind = subst (λ n. IsBehind j r n h.values h.bench.room) (sym m.position) m.behind;
      puts = m.puts ∙ at.puts ∙ ap (keys_at j r) (sym m.position);
      puts_room = let a = at.puts_room in let b = m.puts_room in let e = ap (λ n. length (keys_at j r n)) m.count in omega (arith, a, b, e);
      empty = m.empty;
      stack = subst (IsStackFor j) (sym m.stack) at.stack;
      since = let a = m.since in let b = m.position in let c = at.since in omega (arith, a, b, c);
      desk = desk-stays m.goes_on m.numbers m.numbered;
      used = record {
        inputs = λ n i k low high e need far. still (key_of j k) m.delivered m.goes_on
            (at.used.inputs n i k (let a = m.since in omega (arith, a, low)) (let b = m.position in omega (arith, b, high)) e need far);
        puts = λ yes n i low high e. knows-later g.desk h.desk (key_of j i) m.goes_on
            (at.used.puts (sym m.numbered ∙ yes) n i (let a = m.since in omega (arith, a, low)) (let b = m.position in omega (arith, b, high)) e);
        mine = m.mine ∙ at.used.mine
            ∙ (λ z. if sym m.numbered z then words_of (keys_since j r (sym m.since z) (sym m.position z)) else []);
      };
      notebook = subst (HasNotebook j r) (sym m.notebook) at.notebook;
    }

    module _ (x : Item Instance) (next : slice_get (list j r) g.position ≡ Some x) (m : Moved x) where
      inside : g.position < length (list j r)
      inside = slice_get_within (list j r) g.position x next

      keys-more : keys_since j r g.since (g.position + 1) ≡ keys_since j r g.since g.position ++ put_key j x
      keys-more =
          ap (λ l. keys_of j (drop g.since l)) (take-more (list j r) g.position x next)
          ∙ ap (keys_of j) (drop-append-le g.since (take g.position (list j r)) (x ∷ []) (let a = at.since in let b = length-taken in omega (arith, a, b)))
          ∙ flat_map-append (put_key j) (drop g.since (take g.position (list j r))) (x ∷ [])
          ∙ ap (λ l. keys_since j r g.since g.position ++ l) (append-nil (put_key j x))
        where
          length-taken : length (take g.position (list j r)) ≡ g.position
          length-taken = length-take-le g.position (list j r) (let a = inside in omega (arith, a))

      words-more : (b : Bool) (words : List ℕ) → words ≡ (if b then words_of (keys_since j r g.since g.position) else [])
          → (if b then fold add_words words (put_key j x) else words) ≡ (if b then words_of (keys_since j r g.since (g.position + 1)) else [])
      words-more true words e =
          ap (λ l. fold add_words l (put_key j x)) e
          ∙ sym (fold-append add_words [] (keys_since j r g.since g.position) (put_key j x))
          ∙ ap words_of (sym keys-more)
      words-more false words e = e

      here-or-before : (n : ℕ) → n < h.position → (n < g.position) ⊎ (n ≡ g.position)
      here-or-before n low = dite (ℕ_discrete n g.position) (λ e. inr e) (λ ne. inl (let p = m.position in omega (arith, p, low, ne)))

      this : (n : ℕ) (y : Item Instance) → n ≡ g.position → slice_get (list j r) n ≡ Some y → x ≡ y
      this n y e f = held (sym next ∙ ap (slice_get (list j r)) (sym e) ∙ f)

      pub moved : IsRegionOf j r h
      moved = record {
        is_region = at.is_region;
        cursor = m.cursor;
        rest = m.rest ∙ ap (drop 1) at.rest ∙ ap (drop 1) (drop-item (list j r) g.position x next) ∙ ap (λ n. drop n (list j r)) (sym m.position);
        count = m.count ∙ at.count;
        within = let a = m.count in let b = m.position in let c = at.count in let d = inside in omega (arith, a, b, c, d);
        behind = subst (λ n. IsBehind j r n h.values h.bench.room) (sym m.position) m.behind;
        puts = m.puts ∙ ap (λ l. l ++ put_key j x) at.puts ∙ sym (keys-next j r g.position x next) ∙ ap (keys_at j r) (sym m.position);
        puts_room = let a = at.puts_room in let b = m.puts_room in let e = ap (λ n. length (keys_at j r n)) m.count in omega (arith, a, b, e);
        empty = m.empty;
        stack = subst (IsStackFor j) (sym m.stack) at.stack;
        since = let a = m.since in let b = m.position in let c = at.since in omega (arith, a, b, c);
        desk = desk-stays m.goes_on m.numbers m.numbered;
        used = record {
          inputs = λ n i k low high e need far. ⊎_elim
              (λ before. still (key_of j k) (λ key. (m.delivered key).0) m.goes_on (at.used.inputs n i k (let a = m.since in omega (arith, a, low)) before e need far))
              (λ here. m.inputs i k (this n (eval_of i) here e) need far)
              (here-or-before n high);
          puts = λ yes n i low high e. ⊎_elim
              (λ before. knows-later g.desk h.desk (key_of j i) m.goes_on (at.used.puts (sym m.numbered ∙ yes) n i (let a = m.since in omega (arith, a, low)) before e))
              (λ here. m.known i (this n (put_of i) here e) (sym m.numbered ∙ yes))
              (here-or-before n high);
          mine = m.mine ∙ words-more g.numbered g.desk.view.mine at.used.mine
              ∙ (λ z. if sym m.numbered z then words_of (keys_since j r (sym m.since z) (sym m.position z)) else []);
        };
        notebook = subst (HasNotebook j r) (sym m.notebook) at.notebook;
      }

-- the same by the number that the region has then
pub moved-number : (j : Task) (r : ℕ) (g h : Region) → IsRegionOf j r g → (x : Item Instance) → slice_get (list j r) g.position ≡ Some x → Moved j r g h x → number h ≡ r → IsRegionOf j (number h) h
moved-number j r g h at x next m e = subst (λ q. IsRegionOf j q h) (sym e) (moved j r g h at x next m)

pub stayed-number : (j : Task) (r : ℕ) (g h : Region) → IsRegionOf j r g → Stayed j r g h → number h ≡ r → IsRegionOf j (number h) h
stayed-number j r g h at m e = subst (λ q. IsRegionOf j q h) (sym e) (stayed j r g h at m)

pub either-way : {A : Type 0} (b : Bool) (x : A) → x ≡ (if b then x else x)
either-way true x = refl
either-way false x = refl

-- what a region waits for, it waits for since an earlier state
pub waiting-before : (j : Task) (a b c : Region) → IsSame a b → IsWaiting j b c → IsWaiting j a c
waiting-before j a b c same w = record {
  item = w.item;
  next = w.next;
  input = w.input;
  needed = w.needed;
  far = w.far;
  undelivered = w.undelivered;
  missed = missed-later a.desk b.desk c.desk (key_of j w.input) same.desk w.missed;
}

-- a region with another desk, given where it stands
pub new-desk : (j : Task) (r : ℕ) (g : Region) (desk : Held) (numbered : Bool) → IsRegionOf j r g → IsDesk j desk (if numbered then r ∷ [] else []) → desk.view.mine ≡ []
    → IsRegionOf j r (record g { desk = desk; numbered = numbered; since = g.position })
new-desk j r g desk numbered at is none = record {
  is_region = at.is_region;
  cursor = at.cursor;
  rest = at.rest;
  count = at.count;
  within = at.within;
  behind = at.behind;
  puts = at.puts;
  puts_room = at.puts_room;
  empty = at.empty;
  stack = at.stack;
  since = omega arith;
  desk = is;
  used = record {
    inputs = λ n i k low high e need far. absurd (omega (arith, low, high));
    puts = λ yes n i low high e. absurd (omega (arith, low, high));
    mine = none ∙ nothing numbered;
  };
  notebook = at.notebook;
}
  where
    nothing : (b : Bool) → ◌≡◌ {A = List ℕ} [] (if b then words_of (keys_since j r g.position g.position) else [])
    nothing true = ap (λ l. words_of (keys_of j l)) (sym (nothing-behind (list j r) g.position))
    nothing false = refl
