use Rattle.region_engine.proofs.Messages.{messages-first}
use Rattle.region_engine.proofs.notebook.messages_of.Goals as goal

pub loop-node-init : goal.loop-node-init
loop-node-init c = messages-first c.args.job.now _ c.new-list.ensures.items
