-- A text that is written up to some point.
use Rattle.std.specs.Prelude.{Option}
use Rattle.std.specs.Io.KnownBytes.{Appends}
use Rattle.std.proofs.KnownBytes.{Appends-trans}
use Rattle.std.proofs.Common.{◌≡◌, ℕ, ◌+◌, ◌<◌, ◌≤◌, List, [], ◌∷◌, ◌++◌, length, take, refl, sym, ap, subst, ◌∙◌, arith, append_assoc, append-nil, length-append, suc, zero, zero-add}
use Rattle.lido_base.specs.declared.value.Desc.{Desc}
use Rattle.lido_base.specs.declared.pattern.Pattern.{Pattern}
use Rattle.string_librarian.specs.declared.printing.Pending.{Pending}
use Rattle.string_librarian.specs.declared.printing.Output.{Output}
use Rattle.string_librarian.specs.Rooms.{RoomState, all_cells}
use Rattle.string_librarian.specs.Denotes.{Denotes}
use Rattle.string_librarian.specs.Printing.{output_bytes, IsLeft, AreLeft, IsLine}
use Rattle.string_librarian.proofs.DenotesLemmas.{one_text, text_length}
use Rattle.string_librarian.proofs.PrintingLemmas.{line_fits}

module _ (rooms : List RoomState) (patterns : List Pattern) (texts : List (List ℕ)) where
  -- The text's bytes up to here were written, and what is left of it is what the stack has.
  pub record IsWritten (d : Desc) (pending : List Pending) (old new : Option (List ℕ)) (written : ℕ) : Type 0 where
    pub bytes : List ℕ
    pub denotes : Denotes texts patterns rooms d bytes
    pub done : List ℕ
    pub rest : List ℕ
    pub parts : bytes ≡ done ++ rest
    pub left : AreLeft rooms patterns texts pending rest
    pub line : IsLine rooms patterns texts pending
    pub grown : Appends old new done
    pub count : written ≡ length done

  -- one deposit is a line
  pub one_line : (p : Pending) (d : Desc) (bytes : List ℕ) → p.desc ≡ d → Denotes texts patterns rooms d bytes → IsLeft rooms patterns texts p bytes → IsLine rooms patterns texts (p ∷ [])
  one_line p d bytes same denotes left =
      (record { deposit = left.deposit; at = left.at; bytes = bytes; denotes = subst (λ x. Denotes texts patterns rooms x bytes) (sym same) denotes }, tt, tt)

  pub one_fits : (p : Pending) (d : Desc) (bytes : List ℕ) → p.desc ≡ d → Denotes texts patterns rooms d bytes → IsLeft rooms patterns texts p bytes → 0 < all_cells rooms
  one_fits p d bytes same denotes left = let h = line_fits rooms patterns texts (p ∷ []) (one_line p d bytes same denotes left) in omega (arith, h)

  pub started : (p : Pending) (d : Desc) (bytes : List ℕ) (old : Option (List ℕ)) (pending : List Pending) → pending ≡ p ∷ [] → p.desc ≡ d → Denotes texts patterns rooms d bytes
      → IsLeft rooms patterns texts p bytes → Appends old old [] → IsWritten d pending old old 0
  started p d bytes old pending is same denotes left none = record {
    bytes = bytes;
    denotes = denotes;
    done = [];
    rest = bytes;
    parts = refl;
    left = subst (λ l. AreLeft rooms patterns texts l bytes) (sym is) ([], bytes, refl, left, refl);
    line = subst (λ l. IsLine rooms patterns texts l) (sym is) (one_line p d bytes same denotes left);
    grown = none;
    count = refl;
  }

  -- an output more was written
  pub written_more : (d : Desc) (pending next : List Pending) (old mid new : Option (List ℕ)) (written count : ℕ) (out : Output) (w : IsWritten d pending old mid written)
      → (rest : List ℕ) → w.rest ≡ output_bytes texts out ++ rest → AreLeft rooms patterns texts next rest → IsLine rooms patterns texts next
      → Appends mid new (output_bytes texts out) → count ≡ length (output_bytes texts out) → IsWritten d next old new (written + count)
  written_more d pending next old mid new written count out w rest parts left line grown size = record {
    bytes = w.bytes;
    denotes = w.denotes;
    done = w.done ++ output_bytes texts out;
    rest = rest;
    parts = w.parts ∙ ap (λ l. w.done ++ l) parts ∙ sym (append_assoc w.done (output_bytes texts out) rest);
    left = left;
    line = line;
    grown = Appends-trans old mid new w.done (output_bytes texts out) w.grown grown;
    count = omega (arith, w.count, size, length-append w.done (output_bytes texts out));
  }

  -- what is written and what an output still has is no more than the text
  pub within_text : (d : Desc) (pending : List Pending) (old mid : Option (List ℕ)) (written : ℕ) (out : Output) (w : IsWritten d pending old mid written)
      → (rest : List ℕ) → w.rest ≡ output_bytes texts out ++ rest → written + length (output_bytes texts out) ≤ d.len
  within_text d pending old mid written out w rest parts =
      omega (arith, w.count, ap length w.parts, ap length parts, length-append w.done w.rest, length-append (output_bytes texts out) rest, text_length texts patterns rooms d w.bytes w.denotes)

  take_front : (xs ys zs : List ℕ) (n : ℕ) → n ≤ length ys → take (length xs + n) (xs ++ (ys ++ zs)) ≡ xs ++ take n ys
  take_front [] ys zs n h = ap (λ m. take m (ys ++ zs)) (zero-add n) ∙ front ys zs n h
    where
      front : (ys zs : List ℕ) (n : ℕ) → n ≤ length ys → take n (ys ++ zs) ≡ take n ys
      front ys zs zero h = refl
      front [] zs (suc n) h = absurd (omega arith)
      front (y ∷ ys) zs (suc n) h = ap (λ l. y ∷ l) (front ys zs n (omega arith))
  take_front (x ∷ xs) ys zs n h =
      let more : suc (length xs) + n ≡ suc (length xs + n) = omega arith in
      ap (λ m. take m (x ∷ (xs ++ (ys ++ zs)))) more ∙ ap (λ l. x ∷ l) (take_front xs ys zs n h)

  -- after a fault the first bytes of the text were written
  pub part_written : (d : Desc) (pending : List Pending) (old mid new : Option (List ℕ)) (written count : ℕ) (out : Output) (w : IsWritten d pending old mid written)
      → (rest : List ℕ) → w.rest ≡ output_bytes texts out ++ rest → Appends mid new (take count (output_bytes texts out)) → count < length (output_bytes texts out)
      → (bytes : List ℕ) → Denotes texts patterns rooms d bytes → Appends old new (take (written + count) bytes)
  part_written d pending old mid new written count out w rest parts grown few bytes denotes =
      let same : bytes ≡ w.done ++ (output_bytes texts out ++ rest) = one_text texts patterns rooms d bytes w.bytes denotes w.denotes ∙ w.parts ∙ ap (λ l. w.done ++ l) parts in
      let front : take (written + count) bytes ≡ w.done ++ take count (output_bytes texts out)
      = ap (λ b. take (written + count) b) same ∙ ap (λ n. take (n + count) (w.done ++ (output_bytes texts out ++ rest))) w.count
      ∙ take_front w.done (output_bytes texts out) rest count (omega (arith, few)) in
      subst (λ b. Appends old new b) (sym front) (Appends-trans old mid new w.done (take count (output_bytes texts out)) w.grown grown)

  -- with nothing left the whole text was written
  pub all_written : (d : Desc) (pending : List Pending) (old new : Option (List ℕ)) (written : ℕ) (w : IsWritten d pending old new written) → pending ≡ []
      → (bytes : List ℕ) → Denotes texts patterns rooms d bytes → Appends old new bytes
  all_written d pending old new written w none bytes denotes =
      let rest : w.rest ≡ [] = subst (λ l. AreLeft rooms patterns texts l w.rest) none w.left in
      let same : bytes ≡ w.done = one_text texts patterns rooms d bytes w.bytes denotes w.denotes ∙ w.parts ∙ ap (λ l. w.done ++ l) rest ∙ append-nil w.done in
      subst (λ b. Appends old new b) (sym same) w.grown
