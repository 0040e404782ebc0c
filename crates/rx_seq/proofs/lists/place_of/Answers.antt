use Rattle.std.proofs.lemmas.List.Sorted.{searched}
use Rattle.std.proofs.lemmas.Result.{MatchResult-weaker}
use Rattle.rx_seq.proofs.Ordered.{rises_apart, stands_at, belongs_at}
use Rattle.rx_seq.proofs.lists.place_of.Goals as goal

pub returns-clause-stands : goal.returns-clause-stands
returns-clause-stands c =
    MatchResult-weaker c.binary_search.result
    (searched c.args.numbers.now c.args.k c.binary_search.result c.binary_search.ensures.position (rises_apart c.args.numbers.now c.requires))
    (stands_at c.args.k c.args.numbers.now c.requires)
    (λ _ _. tt)

pub returns-clause-belongs : goal.returns-clause-belongs
returns-clause-belongs c =
    MatchResult-weaker c.binary_search.result
    (searched c.args.numbers.now c.args.k c.binary_search.result c.binary_search.ensures.position (rises_apart c.args.numbers.now c.requires))
    (λ _ _. tt)
    (belongs_at c.args.k c.args.numbers.now)
