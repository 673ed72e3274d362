use borrow.Author.Rules.{rules}
use Rattle.model.specs.Lists.{implies}
use Rattle.laws.proofs.Tests.{all-joined}
use Rattle.reading.specs.Heads.{lawful_head}
use Rattle.reading.proofs.lawful_head.Statement.{statement}
use Rattle.reading.proofs.lawful_head.Tie as tie

shared-slice-read-kind : tie.Need-bounds-bytes-2
shared-slice-read-kind c = search rules

shared-slice-read-result : tie.Need-bounds-bytes-0
shared-slice-read-result c = search rules

shared-slice-read-result-2 : tie.Need-bounds-bytes-1
shared-slice-read-result-2 c = search rules

shared-slice-read-result-3 : tie.Need-bounds-bytes-3
shared-slice-read-result-3 c = search rules

returns : tie.Need-returns
unfolding lawful_head implies
returns c = all-joined _ _

pub lawful_head_spec : {M : Type 1} → statement M
lawful_head_spec =
    tie.close
    (tie.spec
    shared-slice-read-kind
    shared-slice-read-result
    shared-slice-read-result-2
    shared-slice-read-result-3
    returns)
