use Rattle.std.proofs.Common.{◌∙◌, sym, ap}
use Rattle.lido_reader.specs.Items.{begins_item_kind}
use Rattle.lido_reader.proofs.ItemsLemmas.{no_item_end, item_token, other_token}
use Rattle.lido_reader.proofs.items.begins_item.Goals as goal

pub returns-in_default : goal.returns-in_default
returns-in_default c = no_item_end c.args.tokens.now c.in_default.ensures

pub returns-in-Key : goal.returns-in-Key
returns-in-Key c = item_token c.args.tokens.now c.in-Some.field-0-1.now c.in-Some.token c.is_item_word.result c.in-Some.ensures (c.is_item_word.ensures ∙ ap begins_item_kind (sym c.in-Key.is))

pub returns-in_default-what : goal.returns-in_default-what
returns-in_default-what c = other_token c.args.tokens.now c.in-Some.field-0-1.now c.in-Some.token c.in-Some.ensures c.in_default-what.not-Key
