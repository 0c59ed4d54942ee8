use Rattle.std.proofs.Common.{sym, ◌∙◌, ap, Bool, None}
use Rattle.std.specs.Prelude.{slice_index_or}
use Rattle.tree_reader.specs.Asking.{or_last}
use Rattle.tree_reader.proofs.Naming.{entry_of, entry_kept, rule_found, rule_missing, called_is, called_never}
use Rattle.tree_reader.proofs.names.add_shape.Goals as goal

pub returns-in-Some-clause-entries : goal.returns-in-Some-clause-entries
returns-in-Some-clause-entries c = λ id less.
    let lookup = c.in-Some.ensures.lookup in
    let found = rule_found c.args.flat.now.rules c.as_slice.result.now c.args.shape.now.rule.0 c.in-Some.rule.now c.as_slice.ensures lookup.3.0 lookup.1 in
    entry_of c.args.names.now.items c.give_name.new.names.items c.in-Some.rule.now.name.0 c.args.k c.give_name.ensures.here c.give_name.ensures.others id less
    ∙ ap (λ (b : Bool). or_last (slice_index_or c.args.names.now.items id None) b c.args.k) (sym (called_is c.args.flat.now.rules id c.args.shape.now c.in-Some.rule.now found))

pub returns-in-None-clause-entries : goal.returns-in-None-clause-entries
returns-in-None-clause-entries c = λ id less.
    let missing = rule_missing c.args.flat.now.rules c.as_slice.result.now c.args.shape.now.rule.0 c.as_slice.ensures c.in-None.ensures.lookup.3 in
    entry_kept c.args.names.now.items c.args.k id
    ∙ ap (λ (b : Bool). or_last (slice_index_or c.args.names.now.items id None) b c.args.k) (sym (called_never c.args.flat.now.rules id c.args.shape.now missing))
