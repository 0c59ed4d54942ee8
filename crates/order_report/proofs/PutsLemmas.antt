-- Texts that are handed over one after another.
use Rattle.std.proofs.Common.{◌≡◌, ℕ, ◌+◌, ◌^◌, ◌<◌, ◌≤◌, List, [], ◌∷◌, ◌++◌, length, take, drop, get_or, Option, Result, Ok, Err, ap, sym, ◌∙◌, subst, arith, append_assoc, length-append}
use Rattle.std.proofs.KnownBytes.{Appends-trans, Appends-nil}
use Rattle.std.proofs.Math.Seq.{take-append-add}
use Rattle.std.proofs.lemmas.Grind.{flat_map-append}
use Rattle.std.proofs.lemmas.List.{take-append-le, take_more, take-append-drop, append-nil, take_all}
use Rattle.std.proofs.lemmas.List.FromFn.{get_or-enumerate_from, length-enumerate_from}
use Rattle.std.specs.List.{enumerate_from, flat_map}
use Rattle.lido_base.specs.declared.whole.WriteFault.{WriteFault}
use Rattle.order_report.specs.Writing.{Extends, Puts}
use Rattle.std.specs.Io.KnownBytes.{Appends}

-- nothing is handed over
pub puts_nothing : (done : ℕ) (old : Option (List ℕ)) (before : ℕ) → done < 2 ^ 64 → Puts done [] old old before before (Ok done)
puts_nothing done old before fits = record {
  all = (Appends-nil old, omega arith);
  part = tt;
  fault = tt;
  later = omega arith;
}

-- one text and then another
pub then_puts : (done count : ℕ) (a b : List ℕ) (old mid new : Option (List ℕ)) (before between now : ℕ) (result : Result ℕ WriteFault)
    → Puts done a old mid before between (Ok count) → Puts count b mid new between now result → Puts done (a ++ b) old new before now result
then_puts done count a b old mid new before between now (Ok n) first second = record {
  all = (Appends-trans old mid new a b first.all.0 second.all.0, omega (arith, first.all.1, second.all.1, length-append a b));
  part = tt;
  fault = tt;
  later = omega (arith, first.later, second.later);
}
then_puts done count a b old mid new before between now (Err e) first second = record {
  all = tt;
  part = record {
    taken = length a + second.part.taken;
    short = omega (arith, second.part.short, length-append a b);
    bytes = subst (λ (l : List ℕ). Appends old new l) (sym (take-append-add a b second.part.taken)) (Appends-trans old mid new a _ first.all.0 second.part.bytes);
    counted = omega (arith, first.all.1, second.part.counted);
  };
  fault = omega (arith, first.later, second.fault);
  later = omega (arith, first.later, second.later);
}

-- a text that was not taken whole, with what was to come behind it
pub stopped : (done : ℕ) (a b : List ℕ) (old new : Option (List ℕ)) (before now : ℕ) (e : WriteFault)
    → Puts done a old new before now (Err e) → Puts done (a ++ b) old new before now (Err e)
stopped done a b old new before now e first = record {
  all = tt;
  part = record {
    taken = first.part.taken;
    short = omega (arith, first.part.short, length-append a b);
    bytes = subst (λ (l : List ℕ). Appends old new l) (sym (take-append-le first.part.taken a b (omega (arith, first.part.short)))) first.part.bytes;
    counted = first.part.counted;
  };
  fault = first.fault;
  later = first.later;
}

-- what one more item adds
pub one_more : {X : Type 0} (f : X → List ℕ) (xs : List X) (i : ℕ) (d : X) → i < length xs → flat_map f (take (i + 1) xs) ≡ flat_map f (take i xs) ++ f (get_or xs i d)
one_more f xs i d inside =
    ap (flat_map f) (take_more xs i d inside) ∙ flat_map-append f (take i xs) (get_or xs i d ∷ []) ∙ ap (λ l. flat_map f (take i xs) ++ l) (append-nil (f (get_or xs i d)))

-- the items before one, that one, and those behind it
pub in_three : {X : Type 0} (f : X → List ℕ) (xs : List X) (i : ℕ) (d : X) → i < length xs
    → flat_map f xs ≡ flat_map f (take i xs) ++ (f (get_or xs i d) ++ flat_map f (drop (i + 1) xs))
in_three f xs i d inside =
    ap (flat_map f) (sym (take-append-drop (i + 1) xs)) ∙ flat_map-append f (take (i + 1) xs) (drop (i + 1) xs)
    ∙ ap (λ l. l ++ flat_map f (drop (i + 1) xs)) (one_more f xs i d inside) ∙ append_assoc (flat_map f (take i xs)) (f (get_or xs i d)) (flat_map f (drop (i + 1) xs))

-- one item more was handed over
pub puts_more : {X : Type 0} (f : X → List ℕ) (xs : List X) (i : ℕ) (d : X) → i < length xs → (done count more : ℕ) (old mid new : Option (List ℕ)) (before between now : ℕ)
    → Puts done (flat_map f (take i xs)) old mid before between (Ok count) → Puts count (f (get_or xs i d)) mid new between now (Ok more)
    → Puts done (flat_map f (take (i + 1) xs)) old new before now (Ok more)
puts_more f xs i d inside done count more old mid new before between now first second =
    subst (λ (l : List ℕ). Puts done l old new before now (Ok more)) (sym (one_more f xs i d inside)) (then_puts done count _ _ old mid new before between now (Ok more) first second)

-- one item was not taken whole
pub stops_within : {X : Type 0} (f : X → List ℕ) (xs : List X) (i : ℕ) (d : X) → i < length xs → (done count : ℕ) (old mid new : Option (List ℕ)) (before between now : ℕ) (e : WriteFault)
    → Puts done (flat_map f (take i xs)) old mid before between (Ok count) → Puts count (f (get_or xs i d)) mid new between now (Err e)
    → Puts done (flat_map f xs) old new before now (Err e)
stops_within f xs i d inside done count old mid new before between now e first second =
    subst (λ (l : List ℕ). Puts done l old new before now (Err e)) (sym (in_three f xs i d inside))
    (then_puts done count _ _ old mid new before between now (Err e) first (stopped count _ (flat_map f (drop (i + 1) xs)) mid new between now e second))

-- a text and the same text
pub puts_same : (done : ℕ) (a b : List ℕ) (old new : Option (List ℕ)) (before now : ℕ) (result : Result ℕ WriteFault) → a ≡ b → Puts done a old new before now result → Puts done b old new before now result
puts_same done a b old new before now result e puts = subst (λ (l : List ℕ). Puts done l old new before now result) e puts

-- ---- texts that come behind others, also where the sink has failed

module _ (mid : Option (List ℕ)) (between : ℕ) where
  -- nothing comes
  pub extends_nothing : (so_far : Result ℕ WriteFault) → Extends [] mid between so_far mid between so_far
  extends_nothing so_far = λ front old before h. puts_same 0 front (front ++ []) old mid before between so_far (sym (append-nil front)) h

  -- a piece comes behind what was taken whole
  pub extends_done : (count : ℕ) (piece : List ℕ) (new : Option (List ℕ)) (now : ℕ) (result : Result ℕ WriteFault) → Puts count piece mid new between now result → Extends piece mid between (Ok count) new now result
  extends_done count piece new now result puts = λ front old before h. then_puts 0 count front piece old mid new before between now result h puts

  -- no piece comes behind a fault
  pub extends_fault : (e : WriteFault) (piece : List ℕ) → Extends piece mid between (Err e) mid between (Err e)
  extends_fault e piece = λ front old before h. stopped 0 front piece old mid before between e h

  -- the same text
  pub extends_same : (a b : List ℕ) (so_far : Result ℕ WriteFault) (new : Option (List ℕ)) (now : ℕ) (result : Result ℕ WriteFault) → a ≡ b → Extends a mid between so_far new now result → Extends b mid between so_far new now result
  extends_same a b so_far new now result same h = subst (λ (l : List ℕ). Extends l mid between so_far new now result) same h

  -- one text and then another
  pub extends_then : {a b : List ℕ} {so_far step : Result ℕ WriteFault} {next : Option (List ℕ)} {then : ℕ} {new : Option (List ℕ)} {now : ℕ} {result : Result ℕ WriteFault}
      → Extends a mid between so_far next then step → Extends b next then step new now result → Extends (a ++ b) mid between so_far new now result
  extends_then {a} {b} {so_far} {step} {next} {then} {new} {now} {result} first second = λ front old before h.
      puts_same 0 ((front ++ a) ++ b) (front ++ (a ++ b)) old new before now result (append_assoc front a b) (second (front ++ a) old before (first front old before h))

  -- one item more
  pub extends_more : {X : Type 0} (f : X → List ℕ) (xs : List X) (i : ℕ) (d : X) {so_far step : Result ℕ WriteFault} {next : Option (List ℕ)} {then : ℕ} {new : Option (List ℕ)} {now : ℕ} {result : Result ℕ WriteFault} → i < length xs
      → Extends (flat_map f (take i xs)) mid between so_far next then step → Extends (f (get_or xs i d)) next then step new now result → Extends (flat_map f (take (i + 1) xs)) mid between so_far new now result
  extends_more f xs i d {so_far} {step} {next} {then} {new} {now} {result} inside first second =
      extends_same (flat_map f (take i xs) ++ f (get_or xs i d)) (flat_map f (take (i + 1) xs)) so_far new now result (sym (one_more f xs i d inside)) (extends_then first second)

  -- the items are over
  pub extends_all : {X : Type 0} (f : X → List ℕ) (xs : List X) (i : ℕ) {so_far : Result ℕ WriteFault} {new : Option (List ℕ)} {now : ℕ} {result : Result ℕ WriteFault} → length xs ≤ i
      → Extends (flat_map f (take i xs)) mid between so_far new now result → Extends (flat_map f xs) mid between so_far new now result
  extends_all f xs i {so_far} {new} {now} {result} over h = extends_same (flat_map f (take i xs)) (flat_map f xs) so_far new now result (ap (flat_map f) (take_all i xs over)) h

  -- one numbered item more
  pub extends_numbered : {X : Type 0} (f : ℕ → X → List ℕ) (n : ℕ) (xs : List X) (i number : ℕ) (x : X) {so_far step : Result ℕ WriteFault} {next : Option (List ℕ)} {then : ℕ} {new : Option (List ℕ)} {now : ℕ} {result : Result ℕ WriteFault}
      → i < length xs → number ≡ n + i → x ≡ get_or xs i x → Extends (flat_map (λ (p : ℕ × X). f p.0 p.1) (take i (enumerate_from n xs))) mid between so_far next then step → Extends (f number x) next then step new now result
      → Extends (flat_map (λ (p : ℕ × X). f p.0 p.1) (take (i + 1) (enumerate_from n xs))) mid between so_far new now result
  extends_numbered {X} f n xs i number x {so_far} {step} {next} {then} {new} {now} {result} inside counted is first second =
      let within : i < length (enumerate_from n xs) = omega (arith, length-enumerate_from n xs, inside) in
      let there : (number, x) ≡ get_or (enumerate_from n xs) i (number, x) = (λ j. (counted j, is j)) ∙ sym (get_or-enumerate_from n xs i (number, x) inside) in
      extends_more (λ (p : ℕ × X). f p.0 p.1) (enumerate_from n xs) i (number, x) within first
      (subst (λ (p : ℕ × X). Extends (f p.0 p.1) next then step new now result) there second)

  -- the numbered items are over
  pub numbered_all : {X : Type 0} (f : ℕ → X → List ℕ) (n : ℕ) (xs : List X) (i : ℕ) {so_far : Result ℕ WriteFault} {new : Option (List ℕ)} {now : ℕ} {result : Result ℕ WriteFault} → length xs ≤ i
      → Extends (flat_map (λ (p : ℕ × X). f p.0 p.1) (take i (enumerate_from n xs))) mid between so_far new now result → Extends (flat_map (λ (p : ℕ × X). f p.0 p.1) (enumerate_from n xs)) mid between so_far new now result
  numbered_all {X} f n xs i over h = extends_all (λ (p : ℕ × X). f p.0 p.1) (enumerate_from n xs) i (omega (arith, length-enumerate_from n xs, over)) h

  -- what came behind nothing is all that was handed over
  pub extended : (text : List ℕ) (new : Option (List ℕ)) (now : ℕ) (result : Result ℕ WriteFault) → Extends text mid between (Ok 0) new now result → Puts 0 text mid new between now result
  extended text new now result h = h [] mid between (puts_nothing 0 mid between (omega arith))
