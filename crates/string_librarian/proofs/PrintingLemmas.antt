-- What is left to print, once a step was taken.
use Rattle.std.proofs.Common.{◌≡◌, ℕ, suc, ◌+◌, ◌-◌, ◌<◌, ◌≤◌, List, [], ◌∷◌, ◌++◌, length, refl, sym, ap, subst, ◌∙◌, arith, append_assoc, append-nil}
use Rattle.lido_base.specs.declared.value.Desc.{Desc}
use Rattle.lido_base.specs.declared.pattern.Pattern.{Pattern}
use Rattle.string_librarian.specs.declared.printing.Pending.{Pending}
use Rattle.string_librarian.specs.declared.printing.Output.{Output}
use Rattle.string_librarian.specs.declared.printing.Output.TheVariants as output
use Rattle.string_librarian.specs.declared.printing.Shown.TheVariants as shown
use Rattle.string_librarian.specs.Rooms.{RoomState, all_cells}
use Rattle.string_librarian.specs.Denotes.{Denotes}
use Rattle.string_librarian.specs.Printing.{advanced, output_bytes, rest_steps, text_steps, all_steps, IsBelow, IsLeft, AreLeft, IsPlaced, AreBelow, IsLine, Shows}
use Rattle.string_librarian.proofs.StepsLemmas.{below_trans, line_is_short}

module _ (rooms : List RoomState) (patterns : List Pattern) (texts : List (List ℕ)) where
  abbrev pub Left : List Pending → List ℕ → Type 0
  Left ps bytes = AreLeft rooms patterns texts ps bytes

  abbrev pub Line : List Pending → Type 0
  Line ps = IsLine rooms patterns texts ps

  -- what is left of the last and of those before it
  pub record Split (ps : List Pending) (p : Pending) (bytes : List ℕ) : Type 0 where
    pub front : List ℕ
    pub back : List ℕ
    pub parts : bytes ≡ front ++ back
    pub last : IsLeft rooms patterns texts p front
    pub others : Left ps back

  pub split : (ps : List Pending) (p : Pending) (bytes : List ℕ) → Left (ps ++ p ∷ []) bytes → Split ps p bytes
  split [] p bytes (inner, outer, e, l, none) = record { front = outer; back = []; parts = e ∙ ap (λ b. b ++ outer) none ∙ sym (append-nil outer); last = l; others = refl }
  split (q ∷ qs) p bytes (inner, outer, e, l, more) =
      let s = split qs p inner more in
      record { front = s.front; back = s.back ++ outer; parts = e ∙ ap (λ b. b ++ outer) s.parts ∙ append_assoc s.front s.back outer; last = s.last; others = (s.back, outer, refl, l, s.others) }

  pub join : (ps : List Pending) (p : Pending) (front back : List ℕ) → Left ps back → IsLeft rooms patterns texts p front → Left (ps ++ p ∷ []) (front ++ back)
  join [] p front back none l = ([], front, ap (λ b. front ++ b) none ∙ append-nil front, l, refl)
  join (q ∷ qs) p front back (inner, outer, e, k, more) l =
      (front ++ inner, outer, ap (λ b. front ++ b) e ∙ sym (append_assoc front inner outer), k, join qs p front inner more l)

  abbrev Under : List Pending → Desc → Type 0
  Under [] d = Unit {0}
  Under (q ∷ qs) d = IsBelow rooms q.desc d × Under qs d

  under_join : (ps : List Pending) (p : Pending) (d : Desc) → Under ps d → IsBelow rooms p.desc d → Under (ps ++ p ∷ []) d
  under_join [] p d u b = (b, tt)
  under_join (q ∷ qs) p d u b = (u.0, under_join qs p d u.1 b)

  below_init : (d : Desc) (ps : List Pending) (p : Pending) → AreBelow rooms patterns texts d (ps ++ p ∷ []) → AreBelow rooms patterns texts d ps × IsBelow rooms d p.desc
  below_init d [] p b = (tt, b.0)
  below_init d (q ∷ qs) p b = let r = below_init d qs p b.1 in ((b.0, r.0), r.1)

  below_join : (d : Desc) (ps : List Pending) (p : Pending) → AreBelow rooms patterns texts d ps → IsBelow rooms d p.desc → AreBelow rooms patterns texts d (ps ++ p ∷ [])
  below_join d [] p b h = (h, tt)
  below_join d (q ∷ qs) p b h = (b.0, below_join d qs p b.1 h)

  record Ends (ps : List Pending) (p : Pending) : Type 0 where
    line : Line ps
    placed : IsPlaced rooms patterns texts p.desc
    under : Under ps p.desc

  line_ends : (ps : List Pending) (p : Pending) → Line (ps ++ p ∷ []) → Ends ps p
  line_ends [] p l = record { line = tt; placed = l.0; under = tt }
  line_ends (q ∷ qs) p l =
      let r = line_ends qs p l.2 in
      let b = below_init q.desc qs p l.1 in
      record { line = (l.0, b.0, r.line); placed = r.placed; under = (b.1, r.under) }

  line_join : (ps : List Pending) (p : Pending) → Line ps → IsPlaced rooms patterns texts p.desc → Under ps p.desc → Line (ps ++ p ∷ [])
  line_join [] p l h u = (h, tt, tt)
  line_join (q ∷ qs) p l h u = (l.0, below_join q.desc qs p l.1 u.0, line_join qs p l.2 h u.1)

  pub steps_last : (depth : ℕ) (ps : List Pending) (p : Pending)
      → all_steps rooms patterns depth (ps ++ p ∷ []) ≡ all_steps rooms patterns depth ps + rest_steps rooms patterns (text_steps rooms patterns (depth - length ps - 1)) p
  steps_last depth [] p =
      let e : depth - 0 - 1 ≡ depth - 1 = omega arith in
      let same = ap (λ n. rest_steps rooms patterns (text_steps rooms patterns n) p) e in
      omega (arith, same)
  steps_last depth (q ∷ qs) p =
      let e : depth - suc (length qs) - 1 ≡ depth - 1 - length qs - 1 = omega arith in
      let same = ap (λ n. rest_steps rooms patterns (text_steps rooms patterns n) p) e in
      omega (arith, same, steps_last (depth - 1) qs p)

  -- What a step leaves: what is written is in front of what is left, and the line is still one.
  pub record Continues (new : List Pending) (out : Output) (bytes : List ℕ) : Type 0 where
    pub rest : List ℕ
    pub parts : bytes ≡ output_bytes texts out ++ rest
    pub left : Left new rest
    pub line : Line new

  -- a deposit that has ended is dropped
  pub ended : (ps : List Pending) (top : Pending) (bytes : List ℕ) → Line (ps ++ top ∷ []) → Left (ps ++ top ∷ []) bytes
      → ((b : List ℕ) → IsLeft rooms patterns texts top b → b ≡ []) → Continues ps output.Nothing bytes
  ended ps top bytes line left none =
      let s = split ps top bytes left in
      record { rest = s.back; parts = s.parts ∙ ap (λ b. b ++ s.back) (none s.front s.last); left = s.others; line = (line_ends ps top line).line }

  same_ends : (ps : List Pending) (top : Pending) → Line (ps ++ top ∷ []) → Line (ps ++ advanced top ∷ [])
  same_ends ps top line = let e = line_ends ps top line in line_join ps (advanced top) e.line e.placed e.under

  -- a part was printed
  pub printed_part : (ps : List Pending) (top : Pending) (out : Output) (bytes : List ℕ) → Line (ps ++ top ∷ []) → Left (ps ++ top ∷ []) bytes
      → ((b : List ℕ) → IsLeft rooms patterns texts top b → Shows rooms patterns texts top b (shown.Print out)) → Continues (ps ++ advanced top ∷ []) out bytes
  printed_part ps top out bytes line left shows =
      let s = split ps top bytes left in
      let h = shows s.front s.last in
      record {
        rest = h.0 ++ s.back;
        parts = s.parts ∙ ap (λ b. b ++ s.back) h.1 ∙ append_assoc (output_bytes texts out) h.0 s.back;
        left = join ps (advanced top) h.0 s.back s.others h.2;
        line = same_ends ps top line;
      }

  -- a text was entered
  pub entered : (ps : List Pending) (top new : Pending) (e : Desc) (bytes : List ℕ) → Line (ps ++ top ∷ []) → Left (ps ++ top ∷ []) bytes → new.desc ≡ e
      → ((b : List ℕ) → IsLeft rooms patterns texts top b → Shows rooms patterns texts top b (shown.Enter e))
      → ((b : List ℕ) → Denotes texts patterns rooms e b → 0 < e.len → IsLeft rooms patterns texts new b)
      → Continues ((ps ++ advanced top ∷ []) ++ new ∷ []) output.Nothing bytes
  entered ps top new e bytes line left same shows begun =
      let s = split ps top bytes left in
      let h = shows s.front s.last in
      let l = begun h.0 h.3 h.4 in
      let ends = line_ends ps top line in
      let below : IsBelow rooms top.desc new.desc = subst (λ x. IsBelow rooms top.desc x) (sym same) h.5 in
      record {
        rest = h.0 ++ (h.1 ++ s.back);
        parts = s.parts ∙ ap (λ b. b ++ s.back) h.2 ∙ append_assoc h.0 h.1 s.back;
        left = join (ps ++ advanced top ∷ []) new h.0 (h.1 ++ s.back) (join ps (advanced top) h.1 s.back s.others h.6) l;
        line = line_join (ps ++ advanced top ∷ []) new (same_ends ps top line)
            (record { deposit = l.deposit; at = l.at; bytes = h.0; denotes = subst (λ x. Denotes texts patterns rooms x h.0) (sym same) h.3 })
            (under_join ps (advanced top) new.desc (under_below ps top.desc new.desc below ends.under) below);
      }
    where
      under_below : (qs : List Pending) (d f : Desc) → IsBelow rooms d f → Under qs d → Under qs f
      under_below [] d f b u = tt
      under_below (q ∷ qs) d f b u = (below_trans u.0 b, under_below qs d f b u.1)

  -- there is room for what is entered
  pub line_fits : (ps : List Pending) → Line ps → length ps ≤ all_cells rooms
  line_fits ps line = line_is_short texts patterns rooms ps line
