use Rattle.std.proofs.Common.{◌≡◌, ◌≤◌, ◌∙◌, ap, get_or, arith, refl, List, Bool}
use Rattle.std.specs.Prelude.{slice_get, true, false}
use Rattle.std.proofs.lemmas.Option.{slice_get-get_or}
use Rattle.lido_base.specs.declared.value.ValueType.TheVariants as type
use Rattle.lido_syntax.specs.declared.spec.Typed1.{Typed1}
use Rattle.rule_tables.specs.declared.table.Tables.{Tables}
use Rattle.rule_tables.specs.declared.forced.Force.{Force as Entry}
use Rattle.rule_tables.specs.PlainRules.{PlainRule}
use Rattle.rule_tables.specs.ForcedOf.{kind_of}
use Rattle.symbol_inherit.specs.Entries.{chain_kind, IsEntry}
use Rattle.symbol_inherit.proofs.EntryLemmas.{next-occ, next-kind}
use Rattle.symbol_inherit.proofs.FilledLemmas.{past-chains, late-entry}
use Rattle.symbol_inherit.proofs.entries.push_chains.Goals as goal

some-chain : Typed1
some-chain = record { name = record { at = 0; id = record { 0 = 0 } }; ty = type.Int }

pub loop-place-preserved : goal.loop-place-preserved
unfolding some-chain
loop-place-preserved c = λ env t p r s known own occurs of up.
    c.in_ok-push_chain.ensures env t p r s known own occurs (
      get_or c.args.chains.now c.loop-place.place some-chain,
      ap (λ (l : List Typed1). slice_get l c.loop-place.place) of ∙ slice_get-get_or c.args.chains.now c.loop-place.place some-chain c.loop-place-test.true,
      refl,
    )
    (c.loop-place.invariant env t p r s known own occurs of up)

late : (t : Tables) (p : PlainRule) (b : Bool) (d : Entry) → IsEntry t p d → kind_of d.goal ≡ chain_kind b → 1 ≤ d.occ → ⊥
late t p false d is k l = late-entry t p d 0 is k l
late t p true d is k l = late-entry t p d 1 is k l

pub returns : goal.returns
returns c = λ env t p r s known own occurs of up.
    next-kind t p (chain_kind c.args.is_behind) 1 c.loop-place.entries.items
    (next-occ t p (chain_kind c.args.is_behind) 0 c.loop-place.place c.loop-place.entries.items (c.loop-place.invariant env t p r s known own occurs of up)
    (λ d is k q l. past-chains t p r known.single 0 s c.args.x occurs c.args.is_behind c.args.chains.now of d is k q (let e = c.loop-place-test.false in omega arith)))
    (λ d is k l. late t p c.args.is_behind d is k l)
