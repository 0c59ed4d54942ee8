use Rattle.lido_base.proofs.TreeLemmas.{from_children-step, from_children-only, children_behind}
use Rattle.lido_base.proofs.laws.one_function_from_children.Goals as goal

pub returns-clause-step : goal.returns-clause-step
returns-clause-step g c = λ t nothing step tree asks n h. from_children-step t nothing step asks (children_behind t tree) n h

pub returns-clause-only : goal.returns-clause-only
returns-clause-only g c = λ t nothing step tree asks f is_step n h. from_children-only t nothing step asks (children_behind t tree) f is_step n h
