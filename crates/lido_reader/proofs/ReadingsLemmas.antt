-- Tokens have one reading.
use Rattle.std.proofs.Common.{◌≡◌, ℕ, List, Result, Ok, Err, sym}
use Rattle.lido_base.specs.Texts.{IsDistinctTexts}
use Rattle.lido_lexer.specs.declared.token.Token.{Token}
use Rattle.lido_syntax.specs.declared.spec.Spec.{Spec}
use Rattle.lido_computations.specs.declared.fault.ReadSpecFault.{ReadSpecFault}
use Rattle.lido_computations.specs.declared.fault.ReadSpecFault.TheVariants.{Syntax, Memory}
use Rattle.lido_reader.specs.Specification.{IsReading}
use Rattle.lido_reader.proofs.SureItemsLemmas.{one_spec}
use Rattle.lido_reader.proofs.WholeLemmas.{only_spec, only_fault}

pub one_reading : (texts : List (List ℕ)) → IsDistinctTexts texts → (tokens : List Token) (text_end : ℕ) (first second : Result Spec ReadSpecFault)
    → IsReading texts tokens text_end first → IsReading texts tokens text_end second → first ≡ second
one_reading texts distinct tokens text_end (Ok spec) second p q =
    sym (only_spec texts tokens text_end spec p (λ other given. one_spec texts distinct tokens other spec given p) second q)
one_reading texts distinct tokens text_end (Err (Syntax at)) second (k, place, is) q = sym (only_fault texts tokens text_end k at place is second q)
one_reading texts distinct tokens text_end (Err Memory) second p q = absurd p
