use Rattle.words.proofs.WordLaws.{bytes_laws}
use Rattle.words.proofs.spelled_at.Goals as goal

pub returns-in-NoWord : goal.returns-in-NoWord
returns-in-NoWord c = search bytes_laws
