use native.Mathlib.Omega.{arith}
use borrow.Author.Rules.{rules}
use Rattle.spelling.proofs.Taking.{filled_put}
use Rattle.liveness.proofs.Bytes.{pairs_length}
use Rattle.liveness.proofs.put_live.Goals as goal

pub put_pairs-requires-clause-room : goal.put_pairs-requires-clause-room
put_pairs-requires-clause-room c = omega (arith, pairs_length c.args.entries.now c.args.counts.now c.args.count)

pub returns : goal.returns
returns c =
    let p = filled_put _ _ _ c.put_pairs.ensures in
    search (rules, p)
