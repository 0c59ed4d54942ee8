-- What an operation gives in a room stands for what it gives for plain values.
use Rattle.std.specs.Prelude.{nat_le, nat_eq, ◌&&◌, if◌then◌else◌, cond}
use Rattle.std.specs.List.{AllZip}
use Rattle.std.proofs.Common.{◌≡◌, ℕ, ◌+◌, ◌^◌, inl, inr, List, [], ◌∷◌, ◌++◌, map, Bool, true, false, Option, Some, None, refl, arith, ap, sym, subst, ◌∙◌, append-nil, eq-eqb, eqb-true, leb-true, leb-false}
use Rattle.std.proofs.lemmas.Option.{none-some, same_Some}
use Rattle.std.proofs.lemmas.Bool.{and_parts}
use Rattle.lido_base.specs.declared.value.Value.{Value}
use Rattle.lido_base.specs.declared.value.Value.TheVariants as value
use Rattle.lido_base.specs.declared.value.Desc.{Desc}
use Rattle.lido_base.specs.declared.value.Origin.{Origin}
use Rattle.lido_base.specs.declared.value.BadKind.{BadKind}
use Rattle.lido_base.specs.declared.value.BadKind.TheVariants.{TextTooLong}
use Rattle.lido_base.specs.declared.operation.Op.{Op}
use Rattle.lido_base.specs.declared.operation.Op.TheVariants as op
use Rattle.lido_base.specs.declared.pattern.Pattern.{Pattern}
use Rattle.lido_base.specs.declared.pattern.Piece.{Piece}
use Rattle.lido_base.specs.declared.pattern.Piece.TheVariants as piece
use Rattle.lido_base.specs.Plain.{Plain, Int, Truth, Str, Text, Void, Bad, plain}
use Rattle.lido_base.specs.Operations.{operate, applied, unless_bad}
use Rattle.lido_base.proofs.Lists.{contains-nil, contains-cons, contains-here}
use Rattle.string_librarian.specs.Rooms.{RoomState, Deposit, HaveGrown, cells_of}
use Rattle.string_librarian.specs.Denotes.{Denotes, read_by, empty}
use Rattle.string_librarian.specs.Parts.{parts_of}
use Rattle.string_librarian.proofs.DenotesLemmas.{kept_text, one_text, same_reading, last_denotes}
use Rattle.value_ops.specs.Outcome.{StandsFor, DenoteAll, piece_of, handed_on, bad_at, first_bad, fits}
use Rattle.value_ops.specs.Lengths.{parts_len}
use Rattle.value_ops.specs.Results.{from_plain, result_of, text_result, IsFamily, StandsAfter}
use Rattle.value_ops.proofs.OutcomeLemmas.{bad_first, none_bad, lengths_of, IsMade, is_made, short_text, long_text}
use Rattle.value_ops.proofs.ResultLemmas.{no-bad, without-piece}

pub stands-grows : (texts : List (List ℕ)) (patterns : List Pattern) (old new : List RoomState) (v : Value) (p : Plain) → HaveGrown old new → StandsFor texts patterns old v p → StandsFor texts patterns new v p
stands-grows texts patterns old new (value.Text d) p g (bytes, den, e) = (bytes, kept_text texts patterns old new g d bytes den, e)
stands-grows texts patterns old new (value.Int z) p g e = e
stands-grows texts patterns old new (value.Bool b) p g e = e
stands-grows texts patterns old new (value.Str s) p g e = e
stands-grows texts patterns old new value.Void p g e = e
stands-grows texts patterns old new (value.Bad o) p g e = e

module _ (texts : List (List ℕ)) (patterns : List Pattern) (reading : Desc → List ℕ) (node comp : ℕ) where
  abbrev fails : BadKind → Plain
  fails = bad_at node comp

  abbrev read : Value → Plain
  read v = read_by texts reading v

  -- arguments that don't fit a piece give Void
  not-numb : (args : List Value) → fits piece.Numb args ≡ false → applied texts patterns fails op.Numb (map read args) ≡ Void
  not-numb [] h = refl
  not-numb (value.Int z ∷ []) h = cc
  not-numb (value.Bool x ∷ []) h = refl
  not-numb (value.Str x ∷ []) h = refl
  not-numb (value.Text x ∷ []) h = refl
  not-numb (value.Void ∷ []) h = refl
  not-numb (value.Bad x ∷ []) h = refl
  not-numb (value.Int x ∷ w ∷ args) h = refl
  not-numb (value.Bool x ∷ w ∷ args) h = refl
  not-numb (value.Str x ∷ w ∷ args) h = refl
  not-numb (value.Text x ∷ w ∷ args) h = refl
  not-numb (value.Void ∷ w ∷ args) h = refl
  not-numb (value.Bad x ∷ w ∷ args) h = refl

  not-string : (args : List Value) → fits piece.AsIs args ≡ false → applied texts patterns fails op.AsIs (map read args) ≡ Void
  not-string [] h = refl
  not-string (value.Str z ∷ []) h = cc
  not-string (value.Int x ∷ []) h = refl
  not-string (value.Bool x ∷ []) h = refl
  not-string (value.Text x ∷ []) h = refl
  not-string (value.Void ∷ []) h = refl
  not-string (value.Bad x ∷ []) h = refl
  not-string (value.Int x ∷ w ∷ args) h = refl
  not-string (value.Bool x ∷ w ∷ args) h = refl
  not-string (value.Str x ∷ w ∷ args) h = refl
  not-string (value.Text x ∷ w ∷ args) h = refl
  not-string (value.Void ∷ w ∷ args) h = refl
  not-string (value.Bad x ∷ w ∷ args) h = refl

  not-row : (args : List Value) → fits piece.Seq args ≡ false → applied texts patterns fails op.Seq (map read args) ≡ Void
  not-row [] h = refl
  not-row (value.Text x ∷ []) h = refl
  not-row (value.Text x ∷ value.Text y ∷ []) h = cc
  not-row (value.Text x ∷ value.Int y ∷ []) h = refl
  not-row (value.Text x ∷ value.Bool y ∷ []) h = refl
  not-row (value.Text x ∷ value.Str y ∷ []) h = refl
  not-row (value.Text x ∷ value.Void ∷ []) h = refl
  not-row (value.Text x ∷ value.Bad y ∷ []) h = refl
  not-row (value.Text x ∷ value.Int y ∷ w ∷ args) h = refl
  not-row (value.Text x ∷ value.Bool y ∷ w ∷ args) h = refl
  not-row (value.Text x ∷ value.Str y ∷ w ∷ args) h = refl
  not-row (value.Text x ∷ value.Text y ∷ w ∷ args) h = refl
  not-row (value.Text x ∷ value.Void ∷ w ∷ args) h = refl
  not-row (value.Text x ∷ value.Bad y ∷ w ∷ args) h = refl
  not-row (value.Int x ∷ args) h = refl
  not-row (value.Bool x ∷ args) h = refl
  not-row (value.Str x ∷ args) h = refl
  not-row (value.Void ∷ args) h = refl
  not-row (value.Bad x ∷ args) h = refl

  pub not-fit : (o : Op) (p : Piece) (args : List Value) → piece_of o ≡ Some p → fits p args ≡ false → applied texts patterns fails o (map read args) ≡ Void
  not-fit op.Numb p args h f = not-numb args (subst (λ q. fits q args ≡ false) (sym (same_Some _ _ h)) f)
  not-fit op.AsIs p args h f = not-string args (subst (λ q. fits q args ≡ false) (sym (same_Some _ _ h)) f)
  not-fit op.Seq p args h f = not-row args (subst (λ q. fits q args ≡ false) (sym (same_Some _ _ h)) f)
  not-fit (op.Pattern k) p args h f = let e : fits (piece.Pattern k) args ≡ false = subst (λ q. fits q args ≡ false) (sym (same_Some _ _ h)) f in absurd (cc)
  not-fit _ p args h f = absurd (none-some _ h)

same-desc : Desc → Desc → Bool
same-desc d e = nat_eq d.room e.room && (nat_eq d.node e.node && nat_eq d.len e.len)

desc-itself : (d : Desc) → same-desc d d ≡ true
unfolding same-desc
desc-itself d = rw (eq-eqb d.room d.room refl, eq-eqb d.node d.node refl, eq-eqb d.len d.len refl) refl

desc-is : (d e : Desc) → same-desc d e ≡ true → d ≡ e
unfolding same-desc
desc-is d e h =
    let a = and_parts (nat_eq d.room e.room) (nat_eq d.node e.node && nat_eq d.len e.len) h in
    let b = and_parts (nat_eq d.node e.node) (nat_eq d.len e.len) a.1 in
    let x = eqb-true d.room e.room a.0 in
    let y = eqb-true d.node e.node b.0 in
    let z = eqb-true d.len e.len b.1 in
    λ i. record { room = x i; node = y i; len = z i }

module _ (texts : List (List ℕ)) (patterns : List Pattern) (rooms : List RoomState) where
  -- what the texts among values denote, as one reading
  pub record ReadAs (args : List Value) (ps : List Plain) : Type 0 where
    pub reading : Desc → List ℕ
    pub below : DenoteAll texts patterns rooms reading args
    pub is : map (read_by texts reading) args ≡ ps

  other : (v : Value) (vs : List Value) (p : Plain) (ps : List Plain) → ((d : Desc) → v ≡ value.Text d → ⊥) → p ≡ plain texts v → ((f : Desc → List ℕ) → read_by texts f v ≡ plain texts v) → ReadAs vs ps → ReadAs (v ∷ vs) (p ∷ ps)
  other v vs p ps differs e same r = record {
    reading = r.reading;
    below = λ d m. elim (contains-cons v (value.Text d) vs m) [ inl x ↦ absurd (differs d x) | inr k ↦ r.below d k ];
    is = let h = same r.reading ∙ sym e in let k = r.is in λ i. h i ∷ k i;
  }

  built : (d : Desc) (bytes : List ℕ) (vs : List Value) (p : Plain) (ps : List Plain) → Denotes texts patterns rooms d bytes → p ≡ Text bytes → ReadAs vs ps → ReadAs (value.Text d ∷ vs) (p ∷ ps)
  built d bytes vs p ps den e r = record { reading = reading; below = below; is = λ i. first i ∷ (rest ∙ r.is) i }
    where
      reading : Desc → List ℕ
      reading x = cond (same-desc d x) bytes (r.reading x)

      by : (x : Desc) (b : Bool) → same-desc d x ≡ b → (b ≡ false → Denotes texts patterns rooms x (r.reading x)) → Denotes texts patterns rooms x (cond b bytes (r.reading x))
      by x true h later = subst (λ z. Denotes texts patterns rooms z bytes) (desc-is d x h) den
      by x false h later = later refl

      desc-in : (v : Value) → Desc → Desc
      desc-in (value.Text x) y = x
      desc-in _ y = y

      below : DenoteAll texts patterns rooms (λ x. cond (same-desc d x) bytes (r.reading x)) (value.Text d ∷ vs)
      below x m = elim (contains-cons (value.Text d) (value.Text x) vs m) [
        | inl h ↦ (let same : d ≡ x = cc in subst (λ (b : Bool). Denotes texts patterns rooms x (cond b bytes (r.reading x))) (sym (ap (λ z. same-desc d z) (sym same) ∙ desc-itself d)) (subst (λ z. Denotes texts patterns rooms z bytes) same den))
        | inr k ↦ by x (same-desc d x) refl (λ h. r.below x k)
      ]

      first : read_by texts (λ x. cond (same-desc d x) bytes (r.reading x)) (value.Text d) ≡ p
      first = ap (λ (b : Bool). Text (cond b bytes (r.reading d))) (desc-itself d) ∙ sym e

      rest : map (read_by texts (λ x. cond (same-desc d x) bytes (r.reading x))) vs ≡ map (read_by texts r.reading) vs
      rest = same_reading texts (λ x. cond (same-desc d x) bytes (r.reading x)) r.reading vs (λ x m. one_text texts patterns rooms x _ _ (by x (same-desc d x) refl (λ h. r.below x m)) (r.below x m))

  pub reading-of : (args : List Value) (ps : List Plain) → AllZip (StandsFor texts patterns rooms) args ps → ReadAs args ps
  reading-of [] [] z = record { reading = λ d. []; below = λ d m. absurd (contains-nil (value.Text d) m); is = refl }
  reading-of [] (p ∷ ps) z = absurd z
  reading-of (v ∷ vs) [] z = absurd z
  reading-of (value.Text d ∷ vs) (p ∷ ps) z = built d z.0.0 vs p ps z.0.1 z.0.2 (reading-of vs ps z.1)
  reading-of (value.Int x ∷ vs) (p ∷ ps) z = other (value.Int x) vs p ps (λ d e. cc) z.0 (λ f. refl) (reading-of vs ps z.1)
  reading-of (value.Bool x ∷ vs) (p ∷ ps) z = other (value.Bool x) vs p ps (λ d e. cc) z.0 (λ f. refl) (reading-of vs ps z.1)
  reading-of (value.Str x ∷ vs) (p ∷ ps) z = other (value.Str x) vs p ps (λ d e. cc) z.0 (λ f. refl) (reading-of vs ps z.1)
  reading-of (value.Void ∷ vs) (p ∷ ps) z = other value.Void vs p ps (λ d e. cc) z.0 (λ f. refl) (reading-of vs ps z.1)
  reading-of (value.Bad x ∷ vs) (p ∷ ps) z = other (value.Bad x) vs p ps (λ d e. cc) z.0 (λ f. refl) (reading-of vs ps z.1)

module _ (texts : List (List ℕ)) (patterns : List Pattern) (number : ℕ) (R : List Deposit → List RoomState) (family : IsFamily number R) where
  abbrev After : List Deposit → Value × List Deposit → Plain → Type 0
  After = StandsAfter texts patterns R

  nothing-more : (ds : List Deposit) (v : Value) (p : Plain) → StandsFor texts patterns (R ds) v p → After ds (v, ds) p
  nothing-more ds v p s = record { more = []; is = sym (append-nil ds); stands = s }

  scalar : (rooms : List RoomState) (q p : Plain) → p ≡ plain texts (from_plain q) → StandsFor texts patterns rooms (from_plain q) p
  scalar rooms (Int z) p e = e
  scalar rooms (Truth b) p e = e
  scalar rooms (Str x) p e = e
  scalar rooms (Text x) p e = e
  scalar rooms Void p e = e
  scalar rooms (Bad o) p e = e

  as-itself : (rooms : List RoomState) (reading : Desc → List ℕ) (v : Value) → DenoteAll texts patterns rooms reading (v ∷ []) → StandsFor texts patterns rooms v (read_by texts reading v)
  as-itself rooms reading (value.Text d) below = (reading d, below d (contains-here (value.Text d) []), refl)
  as-itself rooms reading (value.Int z) below = refl
  as-itself rooms reading (value.Bool b) below = refl
  as-itself rooms reading (value.Str s) below = refl
  as-itself rooms reading value.Void below = refl
  as-itself rooms reading (value.Bad o) below = refl

  handed-stands : (rooms : List RoomState) (reading : Desc → List ℕ) (fails : BadKind → Plain) (o : Op) (args : List Value) (v : Value) → DenoteAll texts patterns rooms reading args → handed_on o args ≡ Some v
      → StandsFor texts patterns rooms v (applied texts patterns fails o (map (read_by texts reading) args))
  handed-stands rooms reading fails op.Identical (w ∷ []) v below h = subst (λ z. StandsFor texts patterns rooms z (read_by texts reading w)) (same_Some _ _ h) (as-itself rooms reading w below)
  handed-stands rooms reading fails op.Null [] v below h = subst (λ z. StandsFor texts patterns rooms z (Text [])) (same_Some _ _ h) ([], empty, refl)
  handed-stands rooms reading fails _ _ v below h = absurd (none-some _ h)

  result-read : (written comp : ℕ) (o : Op) (args : List Value) (ds : List Deposit) (reading : Desc → List ℕ) → DenoteAll texts patterns (R ds) reading args
      → After ds (result_of texts patterns number written comp o args ds) (operate texts patterns (bad_at written comp) o (map (read_by texts reading) args))
  unfolding operate
  result-read written comp o args ds reading below = bad (first_bad args) refl
    where
      P : Plain
      P = unless_bad (map (read_by texts reading) args) (applied texts patterns (bad_at written comp) o (map (read_by texts reading) args))

      by-size : (p : Piece) (m : IsMade texts reading patterns p args o) (b : Bool) → nat_le (parts_len texts args (parts_of patterns p)) (2 ^ 30) ≡ b
          → After ds (if b then (value.Text (record { room = number; node = 1 + cells_of ds; len = parts_len texts args (parts_of patterns p) }), ds ++ record { piece = p; args = args; len = parts_len texts args (parts_of patterns p) } ∷ [])
          else (value.Bad (record { node = written; comp = comp; kind = TextTooLong }), ds)) (applied texts patterns (bad_at written comp) o (map (read_by texts reading) args))
      by-size p m false e = nothing-more ds _ _ (m.is (bad_at written comp) ∙ long_text (bad_at written comp) m.bytes (let a = leb-false _ _ e in let b = m.size in omega (arith, a, b)))
      by-size p m true e =
          let deposit : Deposit = record { piece = p; args = args; len = parts_len texts args (parts_of patterns p) } in
          let room = family.there (ds ++ deposit ∷ []) in
          let den = last_denotes texts patterns (R (ds ++ deposit ∷ [])) room.0 ds deposit (record { room = number; node = 1 + cells_of ds; len = parts_len texts args (parts_of patterns p) }) m.bytes room.1 room.2 refl refl
          (record { reading = reading; below = λ e k. kept_text texts patterns (R ds) (R (ds ++ deposit ∷ [])) (family.grow ds (deposit ∷ [])) e (reading e) (below e k); made = m.made }) m.size in
          record { more = deposit ∷ []; is = refl; stands = (m.bytes, den, m.is (bad_at written comp) ∙ short_text (bad_at written comp) m.bytes (let a = leb-true _ _ e in let b = m.size in omega (arith, a, b))) }

      by-fit : (p : Piece) → piece_of o ≡ Some p → (b : Bool) → fits p args ≡ b
          → After ds (if b then text_result texts patterns number written comp (parts_len texts args (parts_of patterns p)) p args ds else (value.Void, ds)) (applied texts patterns (bad_at written comp) o (map (read_by texts reading) args))
      by-fit p h false f = nothing-more ds value.Void _ (not-fit texts patterns reading written comp o p args h f)
      by-fit p h true f = by-size p (is_made texts reading patterns p args o f h (lengths_of texts patterns (R ds) reading args below)) (nat_le (parts_len texts args (parts_of patterns p)) (2 ^ 30)) refl

      by-piece : first_bad args ≡ None → handed_on o args ≡ None → (x : Option Piece) → piece_of o ≡ x → After ds (elim x [
        | None ↦ (from_plain (unless_bad (map (plain texts) args) (applied texts patterns (bad_at written comp) o (map (plain texts) args))), ds)
        | Some p ↦ if fits p args then text_result texts patterns number written comp (parts_len texts args (parts_of patterns p)) p args ds else (value.Void, ds)
      ]) (applied texts patterns (bad_at written comp) o (map (read_by texts reading) args))
      by-piece good n None h =
          let q = applied texts patterns (bad_at written comp) o (map (plain texts) args) in
          let same = without-piece texts patterns reading written comp o args h n in
          nothing-more ds _ _ (scalar (R ds) (unless_bad (map (plain texts) args) q) _ (same ∙ ap (λ z. plain texts (from_plain z)) (sym (no-bad texts args q good))))
      by-piece good n (Some p) h = by-fit p h (fits p args) refl

      by-handed : first_bad args ≡ None → (x : Option Value) → handed_on o args ≡ x → After ds (elim x [
        | Some v ↦ (v, ds)
        | None ↦ elim (piece_of o) [
          | None ↦ (from_plain (unless_bad (map (plain texts) args) (applied texts patterns (bad_at written comp) o (map (plain texts) args))), ds)
          | Some p ↦ if fits p args then text_result texts patterns number written comp (parts_len texts args (parts_of patterns p)) p args ds else (value.Void, ds)
        ]
      ]) (applied texts patterns (bad_at written comp) o (map (read_by texts reading) args))
      by-handed good (Some v) h = nothing-more ds v _ (handed-stands (R ds) reading (bad_at written comp) o args v below h)
      by-handed good None h = by-piece good h (piece_of o) refl

      bad : (x : Option Origin) → first_bad args ≡ x → After ds (elim x [
        | Some origin ↦ (value.Bad origin, ds)
        | None ↦ elim (handed_on o args) [
          | Some v ↦ (v, ds)
          | None ↦ elim (piece_of o) [
            | None ↦ (from_plain (unless_bad (map (plain texts) args) (applied texts patterns (bad_at written comp) o (map (plain texts) args))), ds)
            | Some p ↦ if fits p args then text_result texts patterns number written comp (parts_len texts args (parts_of patterns p)) p args ds else (value.Void, ds)
          ]
        ]
      ]) (unless_bad (map (read_by texts reading) args) (applied texts patterns (bad_at written comp) o (map (read_by texts reading) args)))
      bad (Some origin) h = nothing-more ds (value.Bad origin) _ (bad_first texts reading args _ origin h)
      bad None h = subst (λ q. After ds (elim (handed_on o args) [
        | Some v ↦ (v, ds)
        | None ↦ elim (piece_of o) [
          | None ↦ (from_plain (unless_bad (map (plain texts) args) (applied texts patterns (bad_at written comp) o (map (plain texts) args))), ds)
          | Some p ↦ if fits p args then text_result texts patterns number written comp (parts_len texts args (parts_of patterns p)) p args ds else (value.Void, ds)
        ]
      ]) q) (sym (none_bad texts reading args (applied texts patterns (bad_at written comp) o (map (read_by texts reading) args)) h)) (by-handed h (handed_on o args) refl)

  -- what an operation gives stands for what it gives of the plain values, and its room has grown
  pub result-stands : (written comp : ℕ) (o : Op) (args : List Value) (ps : List Plain) (ds : List Deposit) → AllZip (StandsFor texts patterns (R ds)) args ps
      → After ds (result_of texts patterns number written comp o args ds) (operate texts patterns (bad_at written comp) o ps)
  result-stands written comp o args ps ds z =
      let r = reading-of texts patterns (R ds) args ps z in
      subst (λ qs. After ds (result_of texts patterns number written comp o args ds) (operate texts patterns (bad_at written comp) o qs)) r.is (result-read written comp o args ds r.reading r.below)
