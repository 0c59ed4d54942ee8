use Rattle.least_paths.proofs.AgreeLemmas.{agree-Reaches, agree-from, agree-least}
use Rattle.least_paths.proofs.laws.agreeing_tests_have_one_graph.Goals as goal

pub returns-clause-reaches : goal.returns-clause-reaches
returns-clause-reaches c = λ a b e f sources edges x. (agree-Reaches a b e f (λ y. (sources y).0) (λ y z. (edges y z).0) x, agree-Reaches b a f e (λ y. (sources y).1) (λ y z. (edges y z).1) x)

pub returns-clause-path : goal.returns-clause-path
returns-clause-path c = λ s t a b e f starts sources edges path.
    (agree-from a b e f (λ y. (sources y).0) (λ y z. (edges y z).0) s t (λ y. (starts y).0) path, agree-from b a f e (λ y. (sources y).1) (λ y z. (edges y z).1) t s (λ y. (starts y).1) path)

pub returns-clause-least : goal.returns-clause-least
returns-clause-least c = λ s t a b e f starts sources edges path p. agree-least s t a b e f starts sources edges path p
