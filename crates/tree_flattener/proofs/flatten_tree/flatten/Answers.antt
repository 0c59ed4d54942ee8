use Rattle.tree_flattener.proofs.CountLemmas.{refused_for}
use Rattle.tree_flattener.proofs.FitLemmas.{suits}
use Rattle.tree_flattener.proofs.flatten_tree.flatten.Goals as goal

pub flat_tree-requires-clause-suits : goal.flat_tree-requires-clause-suits
flat_tree-requires-clause-suits c = let (texts, fits) = c.requires.fits in let flat = c.args.flat.now in suits texts flat.symbols flat.rules flat.shapes flat.root flat.well_formed c.args.written fits

pub returns-in-Err-clause-refused : goal.returns-in-Err-clause-refused
returns-in-Err-clause-refused c = refused_for c.args.flat.now.symbols c.args.flat.now.rules c.args.flat.now.shapes c.args.written c.in-Ok.draft.flat c.in-Ok.draft.node_of c.in-Ok.ensures.flat c.in-Err.e c.in-Err.ensures.refused
