use Rattle.replies.proofs.Laws.{reply_laws}
use Rattle.replies.proofs.put_text.Goals as goal

pub overflow_cast-result : goal.overflow_cast-result
overflow_cast-result c = search reply_laws
