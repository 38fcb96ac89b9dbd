use Rattle.words.proofs.WordLaws.{spelling_laws}
use Rattle.words.proofs.spelled_as.Goals as goal

pub returns-then-not-is_word_at : goal.returns-then-not-is_word_at
returns-then-not-is_word_at c = search spelling_laws

pub returns : goal.returns
returns c = search spelling_laws
