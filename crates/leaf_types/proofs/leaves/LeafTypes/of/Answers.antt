use Rattle.std.proofs.Common.{subst}
use Rattle.lido_base.proofs.FaultsLemmas.{at_place-none}
use Rattle.lido_syntax.specs.declared.fault.SpecFault.TheVariants as fault
use Rattle.kind_clashes.specs.KindClash.{IsKindClash}
use Rattle.leaf_types.specs.Tables.{type_of_attribute, type_of_name, OfSome, IsTableOf}
use Rattle.leaf_types.specs.Entries.{GivesAttribute, GivesTerminal, GivesChain}
use Rattle.leaf_types.specs.Uneven.{IsOtherOnHeir}
use Rattle.leaf_types.specs.Types.{attribute_type, terminal_type, chain_type, is_uneven}
use Rattle.leaf_types.proofs.SingleLemmas.{single-types}
use Rattle.leaf_types.proofs.LeafLemmas.{chain-types, attribute-types, terminal-types}
use Rattle.leaf_types.proofs.UnevenLemmas.{is-even, is-uneven}
use Rattle.leaf_types.proofs.leaves.LeafTypes.of.Goals as goal

pub returns-clause-types : goal.returns-clause-types
unfolding attribute_type terminal_type chain_type is_uneven
returns-clause-types c =
    let t = c.args.tables.now in
    let env = c.requires.tables.0 in
    let texts = c.requires.faults.0 in
    let is = c.requires.tables.1 in
    let none = at_place-none (λ at. fault.KindClash at) (IsKindClash t.spec texts) c.requires.faults.1.1.1.1.0 in
    let single = single-types t.spec texts c.requires.text none in
    let attributes = c.in_ok-attributes.attributes in
    let heirs = c.in_ok-heirs.heirs in
    let uneven = type_of_attribute c.in_ok-uneven.uneven in
    let of_attributes = subst (λ rows. IsTableOf (OfSome GivesAttribute rows) (type_of_attribute attributes)) c.as_slice-rows.ensures c.in_ok-attributes.ensures in
    let of_terminals = subst (λ rows. IsTableOf (OfSome GivesTerminal rows) (type_of_name c.in_ok-terminals.terminals)) c.as_slice-rows.ensures c.in_ok-terminals.ensures in
    let of_chains = subst (λ chains. IsTableOf (OfSome GivesChain chains) (type_of_name c.in_ok-chains.chains)) c.as_slice.ensures c.in_ok-chains.ensures in
    let of_uneven = subst (λ rows. IsTableOf (OfSome (IsOtherOnHeir attributes heirs rows) rows) uneven) c.as_slice-rows.ensures c.in_ok-uneven.ensures in
    record {
      attribute = λ s a. attribute-types t env texts is none (type_of_attribute attributes) of_attributes s a;
      terminal = λ s. terminal-types t env texts is none (type_of_name c.in_ok-terminals.terminals) of_terminals s;
      chain = λ k. chain-types t.spec (type_of_name c.in_ok-chains.chains) of_chains k;
      even = λ class a ty has typed free. is-even t env texts is none single attributes of_attributes heirs c.in_ok-heirs.ensures uneven of_uneven class a ty has typed free;
      uneven = λ class a ty has typed some even. is-uneven t env texts is none single attributes of_attributes heirs c.in_ok-heirs.ensures uneven of_uneven class a ty typed some even;
    }
