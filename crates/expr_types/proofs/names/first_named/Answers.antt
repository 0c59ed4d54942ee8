use Rattle.std.proofs.Common.{◌≡◌, ◌+◌, ℕ, List, ◌∷◌, [], Bool, true, false, if◌then◌else◌, drop, map, length, Option, Some, None, option_map, find, get_or, refl, ap, sym, ◌∙◌, arith}
use Rattle.std.proofs.lemmas.List.{at_drop_more}
use Rattle.std.proofs.Math.Seq.{drop-length}
use Rattle.std.specs.Str.{bytes_eq}
use Rattle.std.specs.Borrow.{Bor}
use Rattle.lido_base.specs.declared.operation.Op.{Op}
use Rattle.lido_base.specs.declared.operation.Op.TheVariants as op
use Rattle.expr_types.specs.Named.{named_in}
use Rattle.expr_types.proofs.names.first_named.Goals as goal

abbrev Word : Type 0
Word = Bor (List ℕ) × Op

abbrev none_word : Word
none_word = (record { ref_ptr = (0, 0); now = [] }, op.Add)

abbrev in_words : List ℕ → List Word → Option Op
in_words name words = named_in (map (λ (word : Word). (word.0.now, word.1)) words) name

-- the first word's operation, or that of the others
abbrev chosen : List ℕ → Word → List Word → Bool → Option Op
chosen name word words b = option_map (λ (o : List ℕ × Op). o.1)
    (if b then Some (word.0.now, word.1) else find (λ (o : List ℕ × Op). bytes_eq o.0 name) (map (λ (w : Word). (w.0.now, w.1)) words))

first : (name : List ℕ) (word : Word) (words : List Word) (b : Bool) → bytes_eq word.0.now name ≡ b → in_words name (word ∷ words) ≡ chosen name word words b
first name word words b e = ap (chosen name word words) e

past : (name : List ℕ) (words : List Word) (i : ℕ) → length words ≡ i → in_words name (drop i words) ≡ None
past name words i e = ap (λ n. in_words name (drop n words)) (sym e) ∙ ap (in_words name) (drop-length words)

pub loop-word-preserved : goal.loop-word-preserved
loop-word-preserved c =
    c.loop-word.invariant
    ∙ at_drop_more (in_words c.args.name.now) c.args.words.now c.loop-word.word-index none_word c.loop-word-test.true
    ∙ first c.args.name.now (get_or c.args.words.now c.loop-word.word-index none_word) (drop (c.loop-word.word-index + 1) c.args.words.now) false (sym c.eq.ensures ∙ c.if-eq.false)

pub returns-then-eq : goal.returns-then-eq
returns-then-eq c =
    sym (c.loop-word.invariant
    ∙ at_drop_more (in_words c.args.name.now) c.args.words.now c.loop-word.word-index none_word c.loop-word-test.true
    ∙ first c.args.name.now (get_or c.args.words.now c.loop-word.word-index none_word) (drop (c.loop-word.word-index + 1) c.args.words.now) true (sym c.eq.ensures ∙ c.if-eq.true))

pub returns : goal.returns
returns c =
    let ends : length c.args.words.now ≡ c.loop-word.word-index = omega (arith, c.loop-word-test.false, c.loop-word.auto.word-index-end) in
    sym (c.loop-word.invariant ∙ past c.args.name.now c.args.words.now c.loop-word.word-index ends)

pub loop-word-init : goal.loop-word-init
loop-word-init c = refl
