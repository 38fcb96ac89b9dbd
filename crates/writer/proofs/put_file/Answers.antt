use Rattle.std.proofs.Common.{rules, refl}
use Rattle.writer.proofs.Lines.{filled_written}
use Rattle.writer.proofs.put_file.Goals as goal

pub returns : goal.returns
returns c =
    let p = filled_written _ _ _ refl c.put_text.ensures in
    search (rules, p)
