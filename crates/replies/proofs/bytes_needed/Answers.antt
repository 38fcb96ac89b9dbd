use Rattle.replies.proofs.Laws.{reply_laws}
use Rattle.replies.proofs.bytes_needed.Goals as goal

pub returns-then-most-room : goal.returns-then-most-room
returns-then-most-room c = search reply_laws
