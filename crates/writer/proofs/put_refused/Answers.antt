use Rattle.std.proofs.Common.{rules}
use Rattle.spelling.proofs.Taking.{filled_put}
use Rattle.writer.proofs.put_refused.Goals as goal

pub returns : goal.returns
returns c =
    let p = filled_put _ _ _ c.put_said_line.ensures in
    search (rules, p)
